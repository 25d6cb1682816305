-- The rules 8 to 10 on the volume with one file: with its entry changed, with a second one beside it, and with a file that has none,
-- exactly the rule fails that should, with its block.
use Rattle.rio_model.proofs.Common.{BlockWords, List, Some, [], ap, arith, cases_eq, get, inl, inr, length, put, refl, subst, sym, ℕ, ◌%◌, ◌*◌, ◌+◌, ◌/◌, ◌<◌, ◌∙◌, ◌∷◌, ◌≡◌, ◌≢◌, ◌≤◌, ◌⊎◌}
use Rattle.std.specs.Prelude.{◌^◌, codes, slice_index}
use Rattle.std.proofs.lemmas.List.Elements.{All-head}
use Rattle.std.proofs.lemmas.List.FromFn.{length-map-range_with_len}
use Rattle.rio_base.specs.Layout.{half, inode_block, inode_place}
use Rattle.rio_model.specs.Held.{HasEntry, byte_in, byte_of, entry_ino, entry_length, entry_name, held_bytes, held_of}
use Rattle.rio_model.specs.Paths.{IsName, IsNameByte}
use Rattle.rio_model.specs.VolumeFails.{FailsFirst, FailsHeld, TreeAt}
use Rattle.rio_model.specs.VolumeReads.{Reads}
use Rattle.rio_model.specs.VolumeRules.{EntryRule, NamesApartRule, ApartAt, EntryAt}
use Rattle.rio_model.proofs.FreshPair.{FailsOnly}
use Rattle.rio_model.proofs.VolumeReadRules.{reads_dir, reads_file}
use Rattle.rio_model.proofs.WordRules.{put_beside, put_other}
use Rattle.volume_tests.proofs.FileFails.{first_one, first_three, first_two, only_on}
use Rattle.volume_tests.proofs.FileReads.{IsFileVolume, file_fits, file_order, file_small, one_row}
use Rattle.volume_tests.proofs.FileVolume.{file_shape}
use Rattle.volume_tests.proofs.SmallHeld.{IsNamed, RowIs, has_row, held_free, letter_is_name, named_by, one_apart, root_alone, root_word_at, row_is, row_kept, rows_apart, rows_kept, small_read, small_reads, two_named, used_dir, used_file}
use Rattle.volume_tests.proofs.SmallVolumes.{Fits, IsBare, IsSmall, bits_off, small_mapped, small_put, superblock_off}

-- a rule that fails by what the inodes hold
pub only_held : (f : BlockWords) (root k z r b : ℕ) → IsSmall f root k z → Fits root k z → FailsHeld file_shape (held_of file_shape f) r b → FailsOnly f 16 r b
only_held f root k z r b h fits fails =
    let m = small_mapped f root k z h fits in
    only_on f r b h.superblock (inr (m.reserved_marked, inr (m.laid.kinds, inr (m.laid.sizes, inr (m.laid.numbers, inr (m.laid.once, inr (m.marks, fails)))))))

-- ---- rule 8

entry_only : (f : BlockWords) → IsSmall f 64 2 5000 → (EntryAt (held_of file_shape f) 1 → ⊥) → FailsOnly f 16 8 2
entry_only f h fails = only_held f 64 2 5000 8 2 h one_row (inl (refl, first_one (EntryAt (held_of file_shape f)) fails))

-- the entry's first word, its inode's number and its name's length, is another
row_put : (f : BlockWords) (v : ℕ) → IsFileVolume f → IsSmall (put f 3 0 v) 64 2 5000
row_put f v h = small_put f 64 2 5000 3 0 v (omega arith) (omega arith) (file_small f h)

row_says : (f : BlockWords) (v : ℕ) → IsFileVolume f → (held_of file_shape (put f 3 0 v) 1).word 0 ≡ v
row_says f v h = root_word_at (put f 3 0 v) 64 2 5000 0 (row_put f v h) (omega arith) (omega arith)

-- the entry is of an inode that is not used, or of none
pub entry_unused : (f : BlockWords) (v : ℕ) → IsFileVolume f → v % 2 ^ 32 ≢ 1 → v % 2 ^ 32 ≢ 2 → FailsOnly (put f 3 0 v) 16 8 2
entry_unused f v h one two = entry_only g (row_put f v h) (λ keeps. by ((keeps 0 (has_row g 64 2 5000 0 (row_put f v h).two (omega arith))).1))
  where
    g : BlockWords
    g = put f 3 0 v

    free : (d : ℕ) → d ≢ 1 → d ≢ 2 → (held_of file_shape g d).kind ≡ 0
    free d a b = held_free g d (λ from to. put_other f 3 0 v _ _ (λ e. omega (arith, to, e)) ∙ h.file.others d (omega (arith, from, a, b)) to)

    by : 0 < (held_of file_shape g (entry_ino (held_of file_shape g 1) 0)).kind → ⊥
    by used =
        let said : 0 < (held_of file_shape g (v % 2 ^ 32)).kind = subst (λ w. 0 < (held_of file_shape g (w % 2 ^ 32)).kind) (row_says f v h) used in
        let none = free (v % 2 ^ 32) one two in
        omega (arith, said, none)

-- the name is empty, or longer than any may be
pub name_of_wrong_length : (f : BlockWords) (v : ℕ) → IsFileVolume f → (v / 2 ^ 32 % 2 ^ 8 ≡ 0) ⊎ (56 < v / 2 ^ 32 % 2 ^ 8) → FailsOnly (put f 3 0 v) 16 8 2
name_of_wrong_length f v h wrong = entry_only g (row_put f v h) (λ keeps. by wrong ((keeps 0 (has_row g 64 2 5000 0 (row_put f v h).two (omega arith))).0))
  where
    g : BlockWords
    g = put f 3 0 v

    long : length (entry_name (held_of file_shape g 1) 0) ≡ v / 2 ^ 32 % 2 ^ 8
    long = length-map-range_with_len (byte_in (held_of file_shape g 1).word) 8 (entry_length (held_of file_shape g 1) 0) ∙ ap (λ w. w / 2 ^ 32 % 2 ^ 8) (row_says f v h)

    by : (v / 2 ^ 32 % 2 ^ 8 ≡ 0) ⊎ (56 < v / 2 ^ 32 % 2 ^ 8) → IsName (entry_name (held_of file_shape g 1) 0) → ⊥
    by (inl none) named = let some = named.some in omega (arith, some, long, none)
    by (inr many) named = let few = named.few in omega (arith, few, long, many)

-- the name's one letter is another
letter_put : (f : BlockWords) (c : ℕ) → IsFileVolume f → RowIs (put f 3 1 c) 0 2 (byte_of c 0 ∷ [])
letter_put f c h = row_is (put f 3 1 c) 64 2 5000 0 2 c (small_put f 64 2 5000 3 1 c (omega arith) (omega arith) (file_small f h)) one_row (omega arith) (omega arith) h.file.row refl

letter_fails : (f : BlockWords) (c : ℕ) → IsFileVolume f → (IsName (byte_of c 0 ∷ []) → ⊥) → FailsOnly (put f 3 1 c) 16 8 2
letter_fails f c h wrong = entry_only (put f 3 1 c) small (λ keeps. wrong (subst IsName (letter_put f c h).named (keeps 0 (has_row (put f 3 1 c) 64 2 5000 0 small.two (omega arith))).0))
  where
    small : IsSmall (put f 3 1 c) 64 2 5000
    small = small_put f 64 2 5000 3 1 c (omega arith) (omega arith) (file_small f h)

-- the name is a slash
pub name_of_a_slash : (f : BlockWords) → IsFileVolume f → FailsOnly (put f 3 1 47) 16 8 2
unfolding byte_of
name_of_a_slash f h = letter_fails f 47 h (λ named. (All-head IsNameByte 47 [] named.bytes).not_slash refl)

-- the name is a dot
pub name_of_a_dot : (f : BlockWords) → IsFileVolume f → FailsOnly (put f 3 1 46) 16 8 2
unfolding byte_of
name_of_a_dot f h = letter_fails f 46 h (λ named. named.not_dot refl)

-- ---- a second entry, of the file too, with a name of one letter

abbrev pub with_second : BlockWords → ℕ → BlockWords
with_second f c = put (put (put f 2 1 128) 3 8 (2 + 2 ^ 32)) 3 9 c

two_rows : Fits 128 2 5000
two_rows = file_fits 128 (omega arith) (omega arith) refl

-- the root has room for it
grown : (f : BlockWords) → IsFileVolume f → IsSmall (put f 2 1 128) 128 2 5000
grown f h = record {
  superblock = superblock_off f 2 1 128 (λ e. omega (arith, e)) h.superblock;
  two = record { root_kind = h.file.root_kind; root_size = refl; kind = h.file.kind; size = h.file.size; others = λ i from to. inl (put_beside f 2 1 128 _ _ (λ e. omega (arith, e)) ∙ h.file.others i from to) };
  order = record { root = (file_order f h.file).root; each = λ p within. ap (λ x. half x p) (put_beside f 2 1 128 2 (16 + (2 + p / 2)) (λ e. omega (arith, e))) ∙ (file_order f h.file).each p within };
  marked = λ b low. bits_off f 2 1 128 b (λ e. omega (arith, e)) (omega (arith, low)) ∙ h.marked b low;
  unmarked = λ b from within. bits_off f 2 1 128 b (λ e. omega (arith, e)) within ∙ h.unmarked b from within;
}

second_small : (f : BlockWords) (c : ℕ) → IsFileVolume f → IsSmall (with_second f c) 128 2 5000
second_small f c h = small_put _ 128 2 5000 3 9 c (omega arith) (omega arith) (small_put _ 128 2 5000 3 8 (2 + 2 ^ 32) (omega arith) (omega arith) (grown f h))

first_row : (f : BlockWords) (c : ℕ) → IsFileVolume f → RowIs (with_second f c) 0 2 (codes "f")
unfolding byte_of
first_row f c h = row_is (with_second f c) 128 2 5000 0 2 102 (second_small f c h) two_rows (omega arith) (omega arith) h.file.row h.file.name

second_row : (f : BlockWords) (c : ℕ) → IsFileVolume f → RowIs (with_second f c) 1 2 (byte_of c 0 ∷ [])
second_row f c h = row_is (with_second f c) 128 2 5000 1 2 c (second_small f c h) two_rows (omega arith) (omega arith) refl refl

-- rule 8 holds
second_kept : (f : BlockWords) (c : ℕ) → IsFileVolume f → 48 ≤ c → c ≤ 126 → byte_of c 0 ≡ c → EntryRule (held_of file_shape (with_second f c))
second_kept f c h low high is = rows_kept (with_second f c) 128 2 5000 (second_small f c h).two two_rows (λ j within. by j within (cases_eq j 0))
  where
    g : BlockWords
    g = with_second f c

    by : (j : ℕ) → 64 * j < 128 → (j ≡ 0) ⊎ (j ≢ 0) → IsName (entry_name (held_of file_shape g 1) j) × (0 < (held_of file_shape g (entry_ino (held_of file_shape g 1) j)).kind)
    by j within (inl e) = row_kept g 128 2 5000 j 102 (second_small f c h).two two_rows (omega arith) (omega arith) (subst (λ x. RowIs g x 2 (codes "f")) (sym e) (first_row f c h))
    by j within (inr off) = row_kept g 128 2 5000 j c (second_small f c h).two two_rows low high (subst (λ x. RowIs g j 2 (x ∷ [])) is (subst (λ x. RowIs g x 2 (byte_of c 0 ∷ [])) (let one : 1 ≡ j = omega (arith, within, off) in one) (second_row f c h)))

-- ---- rule 9

-- the file has its name twice
pub name_twice : (f : BlockWords) → IsFileVolume f → FailsOnly (with_second f 102) 16 9 2
unfolding byte_of
name_twice f h = only_held g 128 2 5000 9 2 (second_small f 102 h) two_rows (inr (
  second_kept f 102 h (omega arith) (omega arith) refl,
  inl (refl, first_one (ApartAt (held_of file_shape g)) (λ keeps. let one = keeps 0 1 (has 0 (omega arith)) (has 1 (omega arith)) ((first_row f 102 h).named ∙ sym (second_row f 102 h).named) in omega (arith, one))),
))
  where
    g : BlockWords
    g = with_second f 102

    has : (j : ℕ) → 64 * j < 128 → HasEntry (held_of file_shape g) 1 j
    has j within = has_row g 128 2 5000 j (second_small f 102 h).two within

-- ---- rule 10

pub tree_only : (f : BlockWords) (root k z : ℕ) → IsSmall f root k z → Fits root k z → EntryRule (held_of file_shape f) → (apart : NamesApartRule (held_of file_shape f)) → FailsFirst file_shape (TreeAt (small_read f)) 2 → FailsOnly f 16 10 2
tree_only f root k z h fits entries apart fails = only_held f root k z 10 2 h fits (inr (entries, inr (apart, record { state = small_read f; reads = small_reads f apart; fails = inl (refl, fails) })))

-- the entry is of the root itself
pub root_in_itself : (f : BlockWords) → IsFileVolume f → FailsOnly (put f 3 0 (1 + 2 ^ 32)) 16 10 2
unfolding byte_of
root_in_itself f h = tree_only g 64 2 5000 small one_row entries apart (first_one (TreeAt (small_read g)) (λ keeps. by (keeps (used_dir (get (small_read g).nodes 1) (reads.nodes 1 ∙ reads_dir (held_of file_shape g 1) h.file.root_kind)))))
  where
    g : BlockWords
    g = put f 3 0 (1 + 2 ^ 32)

    small : IsSmall g 64 2 5000
    small = row_put f (1 + 2 ^ 32) h

    row : RowIs g 0 1 (codes "f")
    row = row_is g 64 2 5000 0 1 102 small one_row (omega arith) (omega arith) refl h.file.name

    entries : EntryRule (held_of file_shape g)
    entries = rows_kept g 64 2 5000 small.two one_row (λ j within. subst (λ x. IsName (entry_name (held_of file_shape g 1) x) × (0 < (held_of file_shape g (entry_ino (held_of file_shape g 1) x)).kind)) (let first : 0 ≡ j = omega (arith, within) in first) (
      subst IsName (sym row.named) (letter_is_name 102 (omega arith) (omega arith)),
      subst (λ i. 0 < (held_of file_shape g i).kind) (sym row.ino) (subst (λ x. 0 < x) (sym h.file.root_kind) (omega arith)),
    ))

    apart : NamesApartRule (held_of file_shape g)
    apart = one_apart g 2 5000 small.two one_row

    reads : Reads (held_of file_shape g) (small_read g)
    reads = small_reads g apart

    by : IsNamed (small_read g) 1 → ⊥
    by (inl none) = none.1 1 (entry_name (held_of file_shape g 1) 0) (reads.entries 1 0 (has_row g 64 2 5000 0 small.two (omega arith)) ∙ ap Some row.ino)
    by (inr away) = away.0 refl

f_is_not_g : codes "f" ≡ codes "g" → ⊥
f_is_not_g e = let letter : 102 ≡ 103 = ap (λ (xs : List ℕ). slice_index xs 0) e in omega (arith, letter)

-- two entries of two names keep rule 9
second_apart : (f : BlockWords) → IsFileVolume f → NamesApartRule (held_of file_shape (with_second f 103))
unfolding byte_of
second_apart f h = rows_apart g 128 2 5000 (second_small f 103 h).two two_rows (λ j q x y e. by j q x y e (cases_eq j 0) (cases_eq q 0))
  where
    g : BlockWords
    g = with_second f 103

    first : (j : ℕ) → j ≡ 0 → entry_name (held_of file_shape g 1) j ≡ codes "f"
    first j a = ap (entry_name (held_of file_shape g 1)) a ∙ (first_row f 103 h).named

    one : (j : ℕ) → 64 * j < 128 → j ≢ 0 → j ≡ 1
    one j within off = omega (arith, within, off)

    second : (j : ℕ) → 64 * j < 128 → j ≢ 0 → entry_name (held_of file_shape g 1) j ≡ codes "g"
    second j within off = ap (entry_name (held_of file_shape g 1)) (one j within off) ∙ (second_row f 103 h).named

    by : (j q : ℕ) → 64 * j < 128 → 64 * q < 128 → entry_name (held_of file_shape g 1) j ≡ entry_name (held_of file_shape g 1) q → (j ≡ 0) ⊎ (j ≢ 0) → (q ≡ 0) ⊎ (q ≢ 0) → j ≡ q
    by j q x y e (inl a) (inl b) = a ∙ sym b
    by j q x y e (inl a) (inr b) = absurd (f_is_not_g (sym (first j a) ∙ e ∙ second q y b))
    by j q x y e (inr a) (inl b) = absurd (f_is_not_g (sym (first q b) ∙ sym e ∙ second j x a))
    by j q x y e (inr a) (inr b) = one j x a ∙ sym (one q y b)

-- the file has a second name
pub second_name : (f : BlockWords) → IsFileVolume f → FailsOnly (with_second f 103) 16 10 2
unfolding byte_of
second_name f h = tree_only g 128 2 5000 small two_rows (second_kept f 103 h (omega arith) (omega arith) refl) (second_apart f h)
    (first_two (TreeAt (small_read g)) (λ keeps. by (keeps (used_file (get (small_read g).nodes 2) (held_bytes (held_of file_shape g 2)) (reads.nodes 2 ∙ reads_file (held_of file_shape g 2) h.file.kind)))) (root_alone g 128 2 5000 (small_read g) small.two two_rows reads (λ j within. to_file j within (cases_eq j 0))))
  where
    g : BlockWords
    g = with_second f 103

    small : IsSmall g 128 2 5000
    small = second_small f 103 h

    reads : Reads (held_of file_shape g) (small_read g)
    reads = small_reads g (second_apart f h)

    to_file : (j : ℕ) → 64 * j < 128 → (j ≡ 0) ⊎ (j ≢ 0) → entry_ino (held_of file_shape g 1) j ≢ 1
    to_file j within (inl a) e = let one : 2 ≡ 1 = sym (ap (entry_ino (held_of file_shape g 1)) a ∙ (first_row f 103 h).ino) ∙ e in omega (arith, one)
    to_file j within (inr a) e = let at : j ≡ 1 = omega (arith, within, a) in let one : 2 ≡ 1 = sym (ap (entry_ino (held_of file_shape g 1)) at ∙ (second_row f 103 h).ino) ∙ e in omega (arith, one)

    named : (j : ℕ) → 64 * j < 128 → entry_ino (held_of file_shape g 1) j ≡ 2 → get (small_read g).names (1, entry_name (held_of file_shape g 1) j) ≡ Some 2
    named j within ino = reads.entries 1 j (has_row g 128 2 5000 j small.two within) ∙ ap Some ino

    by : IsNamed (small_read g) 2 → ⊥
    by (inl root) = let one = root.0 in omega (arith, one)
    by (inr once) =
        let a = once.1.only 1 (entry_name (held_of file_shape g 1) 0) (named 0 (omega arith) (first_row f 103 h).ino) in
        let b = once.1.only 1 (entry_name (held_of file_shape g 1) 1) (named 1 (omega arith) (second_row f 103 h).ino) in
        f_is_not_g (sym (first_row f 103 h).named ∙ a.1 ∙ sym b.1 ∙ (second_row f 103 h).named)

-- there is a file of no bytes beside it
abbrev pub with_empty : BlockWords → BlockWords
with_empty f = put (put f 2 32 2) 2 33 0

empty_small : (f : BlockWords) → IsFileVolume f → IsSmall (with_empty f) 64 2 5000
empty_small f h = record {
  superblock = superblock_off (put f 2 32 2) 2 33 0 (λ e. omega (arith, e)) (superblock_off f 2 32 2 (λ e. omega (arith, e)) h.superblock);
  two = record { root_kind = h.file.root_kind; root_size = h.file.root_size; kind = h.file.kind; size = h.file.size; others = λ i from to. bare i from to (cases_eq i 3) };
  order = record { root = (file_order f h.file).root; each = λ p within. ap (λ x. half x p) (let page : p < 2 = within in off (16 + (2 + p / 2)) (λ e. omega (arith, e, page)) (λ e. omega (arith, e, page))) ∙ (file_order f h.file).each p within };
  marked = λ b low. bits_off (put f 2 32 2) 2 33 0 b (λ e. omega (arith, e)) (omega (arith, low)) ∙ bits_off f 2 32 2 b (λ e. omega (arith, e)) (omega (arith, low)) ∙ h.marked b low;
  unmarked = λ b from within. bits_off (put f 2 32 2) 2 33 0 b (λ e. omega (arith, e)) within ∙ bits_off f 2 32 2 b (λ e. omega (arith, e)) within ∙ h.unmarked b from within;
}
  where
    g : BlockWords
    g = with_empty f

    off : (x : ℕ) → x ≢ 32 → x ≢ 33 → g 2 x ≡ f 2 x
    off x a b = put_beside (put f 2 32 2) 2 33 0 2 x b ∙ put_beside f 2 32 2 2 x a

    bare : (i : ℕ) → 2 < i → i ≤ 32 → (i ≡ 3) ⊎ (i ≢ 3) → IsBare g i
    bare i from to (inl e) = subst (IsBare g) (sym e) (inr (refl, refl))
    bare i from to (inr a) = inl (put_beside (put f 2 32 2) 2 33 0 (inode_block i) (inode_place i + 0) (λ e. omega (arith, e)) ∙ put_beside f 2 32 2 (inode_block i) (inode_place i + 0) (λ e. omega (arith, e, from, to, a)) ∙ h.file.others i from to)

-- it has no name, since no entry is of it
pub file_without_name : (f : BlockWords) → IsFileVolume f → FailsOnly (with_empty f) 16 10 2
unfolding byte_of
file_without_name f h = tree_only g 64 2 5000 small one_row entries apart (first_three (TreeAt (small_read g)) (λ keeps. by (keeps (used_file (get (small_read g).nodes 3) (held_bytes (held_of file_shape g 3)) (reads.nodes 3 ∙ reads_file (held_of file_shape g 3) refl))))
    (root_alone g 64 2 5000 (small_read g) small.two one_row reads (λ j within e. to_file j 1 within e (λ s. omega (arith, s)))) (two_named g 2 5000 (codes "f") (small_read g) small.two one_row reads row))
  where
    g : BlockWords
    g = with_empty f

    small : IsSmall g 64 2 5000
    small = empty_small f h

    row : RowIs g 0 2 (codes "f")
    row = row_is g 64 2 5000 0 2 102 small one_row (omega arith) (omega arith) h.file.row h.file.name

    entries : EntryRule (held_of file_shape g)
    entries = rows_kept g 64 2 5000 small.two one_row (λ j within. row_kept g 64 2 5000 j 102 small.two one_row (omega arith) (omega arith) (subst (λ x. RowIs g x 2 (codes "f")) (let first : 0 ≡ j = omega (arith, within) in first) row))

    apart : NamesApartRule (held_of file_shape g)
    apart = one_apart g 2 5000 small.two one_row

    reads : Reads (held_of file_shape g) (small_read g)
    reads = small_reads g apart

    to_file : (j i : ℕ) → 64 * j < 64 → entry_ino (held_of file_shape g 1) j ≡ i → i ≢ 2 → ⊥
    to_file j i within e other = other (sym e ∙ ap (entry_ino (held_of file_shape g 1)) (let first : j ≡ 0 = omega (arith, within) in first) ∙ row.ino)

    by : IsNamed (small_read g) 3 → ⊥
    by (inl root) = let one = root.0 in omega (arith, one)
    by (inr once) =
        let at = named_by g 64 2 5000 once.1.dir 3 once.1.name (small_read g) small.two one_row reads once.1.row in
        to_file at.row 3 at.within at.is.ino (λ s. omega (arith, s))
