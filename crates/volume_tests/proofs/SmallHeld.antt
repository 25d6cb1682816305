-- What a small volume holds: the entries of its root and the words of inode 2, the state that is read of it, and the rules 8 to 10
-- by its entries.
use Rattle.rio_model.proofs.Common.{Bool, BlockWords, List, None, Option, Some, [], ap, arith, cases_eq, cond, false, get, inl, inr, nat_lt, nat_tests, refl, subst, sym, true, ℕ, ◌%◌, ◌&&◌, ◌*◌, ◌+◌, ◌/◌, ◌<◌, ◌∙◌, ◌∷◌, ◌≡◌, ◌≢◌, ◌≤◌, ◌⊎◌}
use Rattle.std.specs.Prelude.{Err, ◌^◌, nat_le, slice_index}
use Rattle.std.proofs.lemmas.List.Elements.{All-cons, All-nil}
use Rattle.rio_base.specs.Layout.{inode_kind, inode_size}
use Rattle.rio_model.specs.declared.node.Node.{Node}
use Rattle.rio_model.specs.declared.node.Node.TheVariants.{Dir, File}
use Rattle.rio_model.specs.declared.state.State.{State}
use Rattle.rio_model.specs.Held.{HasEntry, Held, byte_of, bytes_in, entry_ino, entry_name, held, held_of, nothing}
use Rattle.rio_model.specs.Paths.{IsName, IsNameByte, from_found, is_dir, walk}
use Rattle.rio_model.specs.Placed.{AtPage, placed_at}
use Rattle.rio_model.specs.ReadState.{read_state}
use Rattle.rio_model.specs.Sizes.{pages}
use Rattle.rio_model.specs.VolumeFails.{HasNoName, HasOneName, TreeAt}
use Rattle.rio_model.specs.VolumeReads.{Reads}
use Rattle.rio_model.specs.VolumeRules.{EntryRule, NamesApartRule}
use Rattle.rio_model.proofs.ReadStates.{holds_within, reads_made}
use Rattle.rio_model.proofs.VolumeReadRules.{reads_dir, reads_none}
use Rattle.rio_model.proofs.WordRules.{held_word}
use Rattle.volume_tests.proofs.FileVolume.{file_layout, file_shape}
use Rattle.volume_tests.proofs.SmallVolumes.{Fits, HasTwo, IsSmall, order_page, order_root}

-- ---- which inodes hold something

-- any other inode than 1 and 2, and any number that is none, is free or a file
pub held_bare : (f : BlockWords) (root k z d : ℕ) → HasTwo f root k z → d ≢ 1 → d ≢ 2 → ((held_of file_shape f d).kind ≡ 0) ⊎ ((held_of file_shape f d).kind ≡ 2)
held_bare f root k z d h a b = by (nat_le 1 d && nat_le d 32) refl
  where
    low : (d n : ℕ) → (nat_le 1 d && nat_le d n) ≡ true → d ≢ 1 → d ≢ 2 → (2 < d) × (d ≤ n)
    low d n e a b = let from : 1 ≤ d = grind (arith, nat_tests) in let to : d ≤ n = grind (arith, nat_tests) in (omega (arith, from, a, b), to)

    by : (t : Bool) → (nat_le 1 d && nat_le d 32) ≡ t → ((held_of file_shape f d).kind ≡ 0) ⊎ ((held_of file_shape f d).kind ≡ 2)
    by true e =
        let is : (held_of file_shape f d).kind ≡ inode_kind f d = ap (λ t. (cond t (held f (placed_at f d)) nothing).kind) e in
        let within = low d 32 e a b in
        elim (h.others d within.0 within.1) [ inl free ↦ inl (is ∙ free) | inr empty ↦ inr (is ∙ empty.0) ]
    by false e = inl (ap (λ t. (cond t (held f (placed_at f d)) nothing).kind) e)

-- where an inode is free, and at a number that is none, nothing is held
pub held_free : (f : BlockWords) (d : ℕ) → (1 ≤ d → d ≤ 32 → inode_kind f d ≡ 0) → (held_of file_shape f d).kind ≡ 0
held_free f d free = by (nat_le 1 d && nat_le d 32) refl
  where
    low : (d n : ℕ) → (nat_le 1 d && nat_le d n) ≡ true → (1 ≤ d) × (d ≤ n)
    low d n e = let from : 1 ≤ d = grind (arith, nat_tests) in let to : d ≤ n = grind (arith, nat_tests) in (from, to)

    by : (t : Bool) → (nat_le 1 d && nat_le d 32) ≡ t → (held_of file_shape f d).kind ≡ 0
    by true e = let within = low d 32 e in ap (λ t. (cond t (held f (placed_at f d)) nothing).kind) e ∙ free within.0 within.1
    by false e = ap (λ t. (cond t (held f (placed_at f d)) nothing).kind) e

-- the root is the only directory
pub dir_is : (f : BlockWords) (root k z d : ℕ) → HasTwo f root k z → Fits root k z → (held_of file_shape f d).kind ≡ 1 → d ≡ 1
dir_is f root k z d h fits one = by (cases_eq d 1) (cases_eq d 2)
  where
    no : (x : ℕ) → (x ≡ 2) ⊎ (x ≡ 3) → x ≡ 1 → ⊥
    no x (inl two) e = omega (arith, two, e)
    no x (inr three) e = omega (arith, three, e)

    by : (d ≡ 1) ⊎ (d ≢ 1) → (d ≡ 2) ⊎ (d ≢ 2) → d ≡ 1
    by (inl e) x = e
    by (inr a) (inl e) = absurd (no k fits.known (sym (ap (λ x. (held_of file_shape f x).kind) e ∙ h.kind) ∙ one))
    by (inr a) (inr b) = elim (held_bare f root k z d h a b) [
      | inl free ↦ absurd (let same : 0 ≡ 1 = sym free ∙ one in omega (arith, same))
      | inr file ↦ absurd (let two : 2 ≡ 1 = sym file ∙ one in omega (arith, two))
    ]

-- ---- words

root_long : (f : BlockWords) (root k z : ℕ) → HasTwo f root k z → (held_of file_shape f 1).size ≡ root
root_long f root k z h = ap (λ x. cond (nat_lt 0 x) (inode_size f 1) 0) h.root_kind ∙ h.root_size

pub root_word_at : (f : BlockWords) (root k z y : ℕ) → IsSmall f root k z → root ≤ 4096 → 8 * y < root → (held_of file_shape f 1).word y ≡ f 3 y
root_word_at f root k z y h small within =
    let page : y / 512 ≡ 0 = omega (arith, small, within) in
    let place : y % 512 ≡ y = omega (arith, small, within) in
    held_word f (placed_at f 1) y (subst (λ x. 0 < x) (sym h.two.root_kind) (omega arith)) (subst (λ x. 8 * y < x) (sym h.two.root_size) within)
    ∙ ap (λ p. f (((file_layout f).node 1).block (AtPage p)) (y % 512)) page
    ∙ ap (λ b. f b (y % 512)) (order_root f z h.order)
    ∙ ap (f 3) place

pub node_word_at : (f : BlockWords) (root k z y : ℕ) → IsSmall f root k z → Fits root k z → 8 * y < z → (held_of file_shape f 2).word y ≡ f (4 + y / 512) (y % 512)
node_word_at f root k z y h fits within =
    held_word f (placed_at f 2) y (subst (λ x. 0 < x) (sym h.two.kind) (elim fits.known [ inl two ↦ omega (arith, two) | inr three ↦ omega (arith, three) ])) (subst (λ x. 8 * y < x) (sym h.two.size) within)
    ∙ ap (λ b. f b (y % 512)) (order_page f z (y / 512) h.order fits.room (page_of z y within))
  where
    page_of : (z y : ℕ) → 8 * y < z → y / 512 < pages z
    page_of z y within = let page : y / 512 < (z + 4095) / 4096 = omega (arith, within) in page

-- ---- entries

-- entry j lies in the root
pub in_root : (f : BlockWords) (root k z d j : ℕ) → HasTwo f root k z → Fits root k z → HasEntry (held_of file_shape f) d j → (d ≡ 1) × (64 * j < root)
in_root f root k z d j h fits has =
    let dir = dir_is f root k z d h fits has.dir in
    (dir, subst (λ x. 64 * j < x) (ap (λ x. (held_of file_shape f x).size) dir ∙ root_long f root k z h) has.within)

pub has_row : (f : BlockWords) (root k z j : ℕ) → HasTwo f root k z → 64 * j < root → HasEntry (held_of file_shape f) 1 j
has_row f root k z j h within = record { dir = h.root_kind; within = subst (λ x. 64 * j < x) (sym (root_long f root k z h)) within }

-- entry j of a directory is of this inode and has this name
pub record EntryIs (h : Held) (j i : ℕ) (name : List ℕ) : Type 0 where
  pub ino : entry_ino h j ≡ i
  pub named : entry_name h j ≡ name

-- a name of one byte
pub entry_is : (h : Held) (j i c : ℕ) → i < 2 ^ 32 → h.word (8 * j) ≡ i + 2 ^ 32 → h.word (8 * j + 1) ≡ c → EntryIs h j i (byte_of c 0 ∷ [])
entry_is h j i c small row letter = record { ino = ap (λ w. w % 2 ^ 32) row ∙ low i small; named = named }
  where
    low : (i : ℕ) → i < 2 ^ 32 → (i + 2 ^ 32) % 2 ^ 32 ≡ i
    low i small = omega (arith, small)

    one : (i : ℕ) → i < 2 ^ 32 → (i + 2 ^ 32) / 2 ^ 32 % 2 ^ 8 ≡ 1
    one i small = omega (arith, small)

    named : entry_name h j ≡ byte_of c 0 ∷ []
    named =
        let word : (64 * j + 8) / 8 ≡ 8 * j + 1 = omega arith in
        let place : (64 * j + 8) % 8 ≡ 0 = omega arith in
        ap (bytes_in h.word (64 * j + 8)) (ap (λ x. x / 2 ^ 32 % 2 ^ 8) row ∙ one i small)
        ∙ ap (λ x. byte_of x ((64 * j + 8) % 8) ∷ []) (ap h.word word ∙ letter)
        ∙ ap (λ t. byte_of c t ∷ []) place

abbrev pub RowIs : BlockWords → ℕ → ℕ → List ℕ → Type 0
RowIs f j i name = EntryIs (held_of file_shape f 1) j i name

pub row_is : (f : BlockWords) (root k z j i c : ℕ) → IsSmall f root k z → Fits root k z → 64 * j < root → i < 2 ^ 32 → f 3 (8 * j) ≡ i + 2 ^ 32 → f 3 (8 * j + 1) ≡ c → RowIs f j i (byte_of c 0 ∷ [])
row_is f root k z j i c h fits within small row letter = entry_is (held_of file_shape f 1) j i c small
    (root_word_at f root k z (8 * j) h fits.one_page (omega (arith, within)) ∙ row)
    (root_word_at f root k z (8 * j + 1) h fits.one_page (let whole = fits.whole in omega (arith, within, whole)) ∙ letter)

-- a letter is a name
pub letter_is_name : (c : ℕ) → 48 ≤ c → c ≤ 126 → IsName (c ∷ [])
letter_is_name c low high = record {
  some = omega arith;
  few = omega arith;
  bytes = All-cons IsNameByte c [] (record { low = omega (arith, low); high = high; not_slash = λ e. absurd (omega (arith, low, e)) }) (All-nil IsNameByte);
  not_dot = λ e. dot (ap (λ (xs : List ℕ). slice_index xs 0) e);
  not_dots = λ e. dot (ap (λ (xs : List ℕ). slice_index xs 0) e);
}
  where
    dot : c ≡ 46 → ⊥
    dot e = omega (arith, low, e)

-- rule 8, by the entries of the root
pub rows_kept : (f : BlockWords) (root k z : ℕ) → HasTwo f root k z → Fits root k z → ((j : ℕ) → 64 * j < root → IsName (entry_name (held_of file_shape f 1) j) × (0 < (held_of file_shape f (entry_ino (held_of file_shape f 1) j)).kind)) → EntryRule (held_of file_shape f)
rows_kept f root k z h fits each = record {
  each = λ d j has. ((let at = in_root f root k z d j h fits has in subst (λ x. IsName (entry_name (held_of file_shape f x) j)) (sym at.0) (each j at.1).0), (let at = in_root f root k z d j h fits has in subst (λ x. 0 < (held_of file_shape f (entry_ino (held_of file_shape f x) j)).kind) (sym at.0) (each j at.1).1));
}

-- what an entry of inode 2 owes
pub row_kept : (f : BlockWords) (root k z j c : ℕ) → HasTwo f root k z → Fits root k z → 48 ≤ c → c ≤ 126 → RowIs f j 2 (c ∷ []) → IsName (entry_name (held_of file_shape f 1) j) × (0 < (held_of file_shape f (entry_ino (held_of file_shape f 1) j)).kind)
row_kept f root k z j c h fits low high row = (
  subst IsName (sym row.named) (letter_is_name c low high),
  subst (λ i. 0 < (held_of file_shape f i).kind) (sym row.ino) (subst (λ x. 0 < x) (sym h.kind) (elim fits.known [ inl two ↦ omega (arith, two) | inr three ↦ omega (arith, three) ])),
)

-- rule 9, by the entries of the root
pub rows_apart : (f : BlockWords) (root k z : ℕ) → HasTwo f root k z → Fits root k z → ((j q : ℕ) → 64 * j < root → 64 * q < root → entry_name (held_of file_shape f 1) j ≡ entry_name (held_of file_shape f 1) q → j ≡ q) → NamesApartRule (held_of file_shape f)
rows_apart f root k z h fits apart = record {
  each = λ d j q x y e.
      let a = in_root f root k z d j h fits x in
      let b = in_root f root k z d q h fits y in
      apart j q a.1 b.1 (subst (λ x. entry_name (held_of file_shape f x) j ≡ entry_name (held_of file_shape f x) q) a.0 e);
}

-- a root of one entry keeps it
pub one_apart : (f : BlockWords) (k z : ℕ) → HasTwo f 64 k z → Fits 64 k z → NamesApartRule (held_of file_shape f)
one_apart f k z h fits = rows_apart f 64 k z h fits (λ j q a b e. omega (arith, a, b))

-- ---- the state

abbrev pub small_read : BlockWords → State
small_read f = read_state file_shape 0 0 (held_of file_shape f)

pub small_reads : (f : BlockWords) → NamesApartRule (held_of file_shape f) → Reads (held_of file_shape f) (small_read f)
small_reads f apart = reads_made file_shape 0 0 (held_of file_shape f) (holds_within file_shape f) apart

-- what rule 10 asks of a used inode
abbrev pub IsNamed : State → ℕ → Type 0
IsNamed s i = ((i ≡ 1) × HasNoName s i) ⊎ ((i ≢ 1) × HasOneName s i)

pub used_dir : (o : Option Node) → o ≡ Some Dir → o ≢ None
used_dir o is none = cc

pub used_file : (o : Option Node) (bytes : List ℕ) → o ≡ Some (File bytes) → o ≢ None
used_file o bytes is none = cc

-- a name of the state is one of these entries
pub record NamedBy (f : BlockWords) (root d i : ℕ) (name : List ℕ) : Type 0 where
  pub dir : d ≡ 1
  pub row : ℕ
  pub within : 64 * row < root
  pub is : RowIs f row i name

pub named_by : (f : BlockWords) (root k z d i : ℕ) (name : List ℕ) (s : State) → HasTwo f root k z → Fits root k z → Reads (held_of file_shape f) s → get s.names (d, name) ≡ Some i → NamedBy f root d i name
named_by f root k z d i name s h fits reads e =
    let at = reads.names d name i e in
    let here = in_root f root k z d at.0 h fits at.1 in
    record {
      dir = here.0;
      row = at.0;
      within = here.1;
      is = record {
        ino = ap (λ x. entry_ino (held_of file_shape f x) at.0) (sym here.0) ∙ same _ _ (sym (reads.entries d at.0 at.1) ∙ ap (λ (n : List ℕ). get s.names (d, n)) at.2 ∙ e);
        named = ap (λ x. entry_name (held_of file_shape f x) at.0) (sym here.0) ∙ at.2;
      };
    }
  where
    same : (x y : ℕ) → Some x ≡ Some y → x ≡ y
    same x y e = cc

-- where no entry is of the root, the root keeps rule 10
pub root_alone : (f : BlockWords) (root k z : ℕ) (s : State) → HasTwo f root k z → Fits root k z → Reads (held_of file_shape f) s → ((j : ℕ) → 64 * j < root → entry_ino (held_of file_shape f 1) j ≢ 1) → TreeAt s 1
root_alone f root k z s h fits reads others some = inl (refl, λ d a e. let by = named_by f root k z d 1 a s h fits reads e in others by.row by.within by.is.ino)

-- and where the one entry is of inode 2, so does that
pub two_named : (f : BlockWords) (k z : ℕ) (name : List ℕ) (s : State) → HasTwo f 64 k z → Fits 64 k z → Reads (held_of file_shape f) s → RowIs f 0 2 name → TreeAt s 2
two_named f k z name s h fits reads first some = inr (
  (λ e. omega (arith, e)),
  record {
    dir = 1;
    name = name;
    row = row;
    only = λ d a e. let by = named_by f 64 k z d 2 a s h fits reads e in (by.dir, sym by.is.named ∙ ap (entry_name (held_of file_shape f 1)) (let within = by.within in let zeroth : by.row ≡ 0 = omega (arith, within) in zeroth) ∙ first.named);
    reached = (name ∷ [], ap (λ o. cond (is_dir o) (from_found (get s.names (1, name)) (λ j. walk s j [])) (Err 4)) root ∙ ap (λ o. from_found o (λ j. walk s j [])) row);
  },
)
  where
    root : get s.nodes 1 ≡ Some Dir
    root = reads.nodes 1 ∙ reads_dir (held_of file_shape f 1) h.root_kind

    row : get s.names (1, name) ≡ Some 2
    row = ap (λ (n : List ℕ). get s.names (1, n)) (sym first.named) ∙ reads.entries 1 0 (has_row f 64 k z 0 h (omega arith)) ∙ ap Some first.ino

-- a free inode keeps it
pub free_keeps : (f : BlockWords) (i : ℕ) (s : State) → Reads (held_of file_shape f) s → (held_of file_shape f i).kind ≡ 0 → TreeAt s i
free_keeps f i s reads free some = absurd (some (reads.nodes i ∙ reads_none (held_of file_shape f i) free))
