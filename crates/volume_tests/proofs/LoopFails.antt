-- The volume on which a directory is its own only entry: it has exactly one name, and is not reached from the root. Rule 10 fails, with
-- the block of its inode.
use Rattle.rio_model.proofs.Common.{Bool, BlockWords, IsIno, List, None, Option, Some, [], ap, arith, cases_eq, cond, false, get, inl, inr, nat_lt, refl, subst, sym, true, used_bit, ℕ, ◌%◌, ◌*◌, ◌+◌, ◌/◌, ◌<◌, ◌∙◌, ◌∷◌, ◌≡◌, ◌≢◌, ◌≤◌, ◌⊎◌}
use Rattle.std.specs.Prelude.{Err, Ok, Result, ◌^◌, codes}
use Rattle.rio_base.specs.Layout.{HasSuperblock, direct_number, inode_kind, inode_size}
use Rattle.rio_model.specs.declared.state.State.{State}
use Rattle.rio_model.specs.Held.{HasEntry, byte_of, held_of}
use Rattle.rio_model.specs.Paths.{IsName, from_found, is_dir, walk}
use Rattle.rio_model.specs.Placed.{AtPage, AtTable, IsFree, Owned, Owns, Slot, Within, placed_at}
use Rattle.rio_model.specs.VolumeFails.{TreeAt}
use Rattle.rio_model.specs.VolumeReads.{Reads}
use Rattle.rio_model.specs.VolumeRules.{EntryRule, IsLaid, IsMapped, NamesApartRule, SizeFits, bitmap_bits}
use Rattle.rio_model.proofs.FreshPair.{FailsOnly}
use Rattle.rio_model.proofs.PlacedRules.{has_bit}
use Rattle.rio_model.proofs.VolumeReadRules.{reads_dir}
use Rattle.rio_model.proofs.WordRules.{held_word}
use Rattle.volume_tests.proofs.FileFails.{first_two, only_on}
use Rattle.volume_tests.proofs.FileVolume.{file_layout, file_shape, reserved_is, slot_block}
use Rattle.volume_tests.proofs.SmallHeld.{EntryIs, IsNamed, entry_is, held_free, letter_is_name, small_read, small_reads, used_dir}
use Rattle.volume_tests.proofs.SmallVolumes.{direct_block, file_served}

-- the root has no entry. Inode 2 is a directory of one, in block 3: the name f, of inode 2 itself. No other inode is used
pub record HasLoop (f : BlockWords) : Type 0 where
  pub superblock : HasSuperblock f file_shape
  pub root_kind : inode_kind f 1 ≡ 1
  pub root_size : inode_size f 1 ≡ 0
  pub kind : inode_kind f 2 ≡ 1
  pub size : inode_size f 2 ≡ 64
  pub number : direct_number f 2 0 ≡ 3
  pub others : (i : ℕ) → 2 < i → i ≤ 32 → inode_kind f i ≡ 0
  pub row : f 3 0 ≡ 2 + 2 ^ 32
  pub name : f 3 1 ≡ 102
  pub marked : (b : ℕ) → b < 4 → used_bit file_shape f b ≡ 1
  pub unmarked : (b : ℕ) → 4 ≤ b → b < bitmap_bits file_shape → used_bit file_shape f b ≡ 0

-- ---- the rules 1 to 7

slot : (f : BlockWords) (i : ℕ) (s : Slot) → HasLoop f → Owns (file_layout f) i s → (i ≡ 2) × (s ≡ AtPage 0)
slot f i s h own = by (cases_eq i 1) (cases_eq i 2)
  where
    none : (s : Slot) → Within 0 s → ⊥
    none (AtPage p) w = let less : p < 0 = w in omega (arith, less)
    none (AtTable t) w = let less : t < 0 = w in omega (arith, less)

    one : (s : Slot) → Within 64 s → s ≡ AtPage 0
    one (AtPage p) w = let less : p < 1 = w in let e : p ≡ 0 = omega (arith, less) in ap AtPage e
    one (AtTable t) w = absurd (let less : t < 0 = w in omega (arith, less))

    by : (i ≡ 1) ⊎ (i ≢ 1) → (i ≡ 2) ⊎ (i ≢ 2) → (i ≡ 2) × (s ≡ AtPage 0)
    by (inl e) d = absurd (none s (subst (λ z. Within z s) (ap (inode_size f) e ∙ h.root_size) own.slot.within))
    by (inr a) (inl e) = (e, one s (subst (λ z. Within z s) (ap (inode_size f) e ∙ h.size) own.slot.within))
    by (inr a) (inr b) = absurd (let from = own.ino.from in let free = h.others i (omega (arith, from, a, b)) own.ino.to in let used = own.slot.used in let some : 0 < 0 = subst (λ k. 0 < k) free used in omega (arith, some))

block : (f : BlockWords) → HasLoop f → ((file_layout f).node 2).block (AtPage 0) ≡ 3
block f h = direct_block f 2 0 (omega arith) ∙ h.number

three : (f : BlockWords) (i : ℕ) (s : Slot) → HasLoop f → Owns (file_layout f) i s → ((file_layout f).node i).block s ≡ 3
three f i s h own = let at = slot f i s h own in slot_block f i 2 s (AtPage 0) at.0 at.1 ∙ block f h

three_counts : (f : BlockWords) → HasLoop f → Owned (file_layout f) 3
three_counts f h = record {
  node = 2;
  slot = AtPage 0;
  owns = record {
    ino = record { from = omega arith; to = omega arith };
    slot = record { used = subst (λ k. 0 < k) (sym h.kind) (omega arith); within = subst (λ z. 0 < (z + 4095) / 4096) (sym h.size) (omega arith) };
  };
  is = block f h;
}

-- what an inode is
abbrev IsSort : BlockWords → ℕ → Type 0
IsSort f i = ((inode_kind f i ≡ 1) × (inode_size f i % 64 ≡ 0) × (inode_size f i ≤ 64)) ⊎ (inode_kind f i ≡ 0)

sort : (f : BlockWords) (i : ℕ) → HasLoop f → IsIno file_shape i → IsSort f i
sort f i h ino = by (cases_eq i 1) (cases_eq i 2)
  where
    by : (i ≡ 1) ⊎ (i ≢ 1) → (i ≡ 2) ⊎ (i ≢ 2) → IsSort f i
    by (inl e) d = let size : inode_size f i ≡ 0 = ap (inode_size f) e ∙ h.root_size in inl (ap (inode_kind f) e ∙ h.root_kind, ap (λ z. z % 64) size, omega (arith, size))
    by (inr a) (inl e) = let size : inode_size f i ≡ 64 = ap (inode_size f) e ∙ h.size in inl (ap (inode_kind f) e ∙ h.kind, ap (λ z. z % 64) size, omega (arith, size))
    by (inr a) (inr b) = inr (let from = ino.from in h.others i (omega (arith, from, a, b)) ino.to)

kind_most : (f : BlockWords) (i : ℕ) → IsSort f i → inode_kind f i ≤ 3
kind_most f i (inl (kind, whole, few)) = omega (arith, kind)
kind_most f i (inr free) = omega (arith, free)

size_fits : (f : BlockWords) (i : ℕ) → IsSort f i → 0 < inode_kind f i → SizeFits (inode_kind f i) (inode_size f i)
size_fits f i (inl (kind, whole, few)) used = record { most = omega (arith, few); directory = λ e. whole; region = λ e. absurd (omega (arith, kind, e)); region_pages = λ e. absurd (omega (arith, kind, e)) }
size_fits f i (inr free) used = absurd (omega (arith, free, used))

laid : (f : BlockWords) → HasLoop f → IsLaid (file_layout f)
laid f h = record {
  shape_fits = file_served.sizes;
  kinds = record { each = λ i ino. (kind_most f i (sort f i h ino), λ e. subst (λ x. inode_kind f x ≡ 1) (sym e) h.root_kind) };
  sizes = record { each = λ i ino used. size_fits f i (sort f i h ino) used };
  numbers = record {
    each = λ i ino s has. let is = three f i s h (record { ino = ino; slot = has }) in (omega (arith, is, reserved_is), omega (arith, is));
  };
  once = record { each = λ i j s t a b e. let x = slot f i s h a in let y = slot f j t h b in (x.0 ∙ sym y.0, x.1 ∙ sym y.1) };
}

mapped : (f : BlockWords) → HasLoop f → IsMapped file_shape f
mapped f h = record {
  superblock = record { sizes = file_served.sizes; words = h.superblock };
  reserved_marked = record { marked = λ b low. h.marked b (omega (arith, low, reserved_is)); past = λ b past within. h.unmarked b (omega (arith, past)) within };
  laid = laid f h;
  marks = record {
    counts = λ b own. h.marked b (let is = sym own.is ∙ three f own.node own.slot h own.owns in omega (arith, is));
    free = λ b none. h.unmarked b (past b none (cases_eq b 3)) (has_bit file_shape b file_served.sizes none.to);
  };
}
  where
    past : (b : ℕ) → IsFree (file_layout f) b → (b ≡ 3) ⊎ (b ≢ 3) → 4 ≤ b
    past b none (inl e) = absurd (none.free (subst (Owned (file_layout f)) (sym e) (three_counts f h)))
    past b none (inr off) = let from = none.from in omega (arith, from, off, reserved_is)

-- ---- the rules 8 and 9

-- the one entry
entry : (f : BlockWords) (d j : ℕ) → HasLoop f → HasEntry (held_of file_shape f) d j → (d ≡ 2) × (j ≡ 0)
entry f d j h has = by (cases_eq d 1) (cases_eq d 2)
  where
    root_empty : (held_of file_shape f 1).size ≡ 0
    root_empty = ap (λ k. cond (nat_lt 0 k) (inode_size f 1) 0) h.root_kind ∙ h.root_size

    one : (held_of file_shape f 2).size ≡ 64
    one = ap (λ k. cond (nat_lt 0 k) (inode_size f 2) 0) h.kind ∙ h.size

    by : (d ≡ 1) ⊎ (d ≢ 1) → (d ≡ 2) ⊎ (d ≢ 2) → (d ≡ 2) × (j ≡ 0)
    by (inl e) x = absurd (let less : 64 * j < 0 = subst (λ z. 64 * j < z) (ap (λ x. (held_of file_shape f x).size) e ∙ root_empty) has.within in omega (arith, less))
    by (inr a) (inl e) = let less : 64 * j < 64 = subst (λ z. 64 * j < z) (ap (λ x. (held_of file_shape f x).size) e ∙ one) has.within in (e, omega (arith, less))
    by (inr a) (inr b) = absurd (let free = held_free f d (λ from to. h.others d (omega (arith, from, a, b)) to) in let dir = has.dir in omega (arith, free, dir))

word : (f : BlockWords) (y : ℕ) → HasLoop f → y < 8 → (held_of file_shape f 2).word y ≡ f 3 y
word f y h less =
    held_word f (placed_at f 2) y (subst (λ k. 0 < k) (sym h.kind) (omega arith)) (subst (λ z. 8 * y < z) (sym h.size) (omega (arith, less)))
    ∙ ap (λ p. f (((file_layout f).node 2).block (AtPage p)) (y % 512)) (let page : y / 512 ≡ 0 = omega (arith, less) in page)
    ∙ ap (λ b. f b (y % 512)) (block f h)
    ∙ ap (f 3) (let place : y % 512 ≡ y = omega (arith, less) in place)

itself : (f : BlockWords) → HasLoop f → EntryIs (held_of file_shape f 2) 0 2 (codes "f")
unfolding byte_of
itself f h = entry_is (held_of file_shape f 2) 0 2 102 (omega arith) (word f 0 h (omega arith) ∙ h.row) (word f 1 h (omega arith) ∙ h.name)

named : (f : BlockWords) (d j : ℕ) → HasLoop f → HasEntry (held_of file_shape f) d j → EntryIs (held_of file_shape f d) j 2 (codes "f")
named f d j h has = let at = entry f d j h has in subst (λ x. EntryIs (held_of file_shape f x) j 2 (codes "f")) (sym at.0) (subst (λ x. EntryIs (held_of file_shape f 2) x 2 (codes "f")) (sym at.1) (itself f h))

entries : (f : BlockWords) → HasLoop f → EntryRule (held_of file_shape f)
entries f h = record {
  each = λ d j has. (subst IsName (sym (named f d j h has).named) (letter_is_name 102 (omega arith) (omega arith)), subst (λ i. 0 < (held_of file_shape f i).kind) (sym (named f d j h has).ino) (subst (λ k. 0 < k) (sym h.kind) (omega arith)));
}

apart : (f : BlockWords) → HasLoop f → NamesApartRule (held_of file_shape f)
apart f h = record { each = λ d j k x y e. (entry f d j h x).1 ∙ sym (entry f d k h y).1 }

-- ---- rule 10

some_same : (o : Option ℕ) (i j : ℕ) → o ≡ Some i → o ≡ Some j → i ≡ j
some_same o i j x y = cc (x, y)

-- each name is of inode 2, and stands in inode 2
row_is : (f : BlockWords) (s : State) (d i : ℕ) (name : List ℕ) → HasLoop f → Reads (held_of file_shape f) s → get s.names (d, name) ≡ Some i → (d ≡ 2) × (i ≡ 2)
row_is f s d i name h reads e =
    let at = reads.names d name i e in
    ((entry f d at.0 h at.1).0, some_same (get s.names (d, name)) i 2 e (sym (ap (λ (n : List ℕ). get s.names (d, n)) at.2) ∙ reads.entries d at.0 at.1 ∙ ap Some (named f d at.0 h at.1).ino))

-- so no walk leaves the root
no_way : (f : BlockWords) (s : State) (names : List (List ℕ)) → HasLoop f → Reads (held_of file_shape f) s → walk s 1 names ≡ Ok 2 → ⊥
no_way f s [] h reads e = let one : 1 ≡ 2 = same 1 2 e in omega (arith, one)
  where
    same : (x y : ℕ) → ◌≡◌ {A = Result ℕ ℕ} (Ok x) (Ok y) → x ≡ y
    same x y e = cc
no_way f s (n ∷ names) h reads e = step (is_dir (get s.nodes 1)) (get s.names (1, n)) refl e
  where
    lost : (c : ℕ) → ◌≡◌ {A = Result ℕ ℕ} (Err c) (Ok 2) → ⊥
    lost c e = cc

    step : (t : Bool) (o : Option ℕ) → get s.names (1, n) ≡ o → cond t (from_found o (λ y. walk s y names)) (Err 4) ≡ Ok 2 → ⊥
    step false o at e = lost 4 e
    step true None at e = lost 2 e
    step true (Some y) at e = let two = (row_is f s 1 y n h reads at).0 in omega (arith, two)

pub directory_in_itself : (f : BlockWords) → HasLoop f → FailsOnly f 16 10 2
directory_in_itself f h =
    let m = mapped f h in
    only_on f 10 2 h.superblock (inr (
      m.reserved_marked,
      inr (
        m.laid.kinds,
        inr (
          m.laid.sizes,
          inr (
            m.laid.numbers,
            inr (
              m.laid.once,
              inr (
                m.marks,
                inr (
                  entries f h,
                  inr (apart f h, record { state = small_read f; reads = reads; fails = inl (refl, first_two (TreeAt (small_read f)) (λ keeps. by (keeps (used_dir (get (small_read f).nodes 2) (reads.nodes 2 ∙ reads_dir (held_of file_shape f 2) h.kind)))) root) }),
                ),
              ),
            ),
          ),
        ),
      ),
    ))
  where
    reads : Reads (held_of file_shape f) (small_read f)
    reads = small_reads f (apart f h)

    root : TreeAt (small_read f) 1
    root some = inl (refl, λ d a e. let two = (row_is f (small_read f) d 1 a h reads e).1 in omega (arith, two))

    by : IsNamed (small_read f) 2 → ⊥
    by (inl first) = let one = first.0 in omega (arith, one)
    by (inr once) = let way = once.1.reached in no_way f (small_read f) way.0 h reads way.1
