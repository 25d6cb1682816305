-- A volume with one file of two pages, on which definitions of a reboot are tried: which node has each of its blocks, under which
-- names these may be cached, and the state that is read.
use Rattle.rio_model.proofs.Common.{Bool, BlockWords, List, None, Option, Some, VolumeShape, ap, arith, cases_eq, cond, eq-eqb, false, get, if◌then◌else◌, inl, inr, map, nat_lt, nat_tests, range_with_len, refl, reserved, subst, sym, true, true_false, ℕ, ◌%◌, ◌&&◌, ◌*◌, ◌+◌, ◌-◌, ◌/◌, ◌<◌, ◌==◌, ◌∙◌, ◌≡◌, ◌≢◌, ◌≤◌, ◌⊎◌}
use Rattle.std.specs.Prelude.{◌^◌, min, nat_le, slice_index_or}
use Rattle.std.proofs.lemmas.Bool.{eqb-true}
use Rattle.std.proofs.lemmas.List.FromFn.{get_or-map-range_with_len}
use Rattle.rio_base.specs.Layout.{half, inode_kind, inode_size, inode_word}
use Rattle.rio_base.specs.Shapes.{more_bitmap}
use Rattle.rio_base.specs.declared.places.PageName.{PageName}
use Rattle.rio_model.specs.declared.census.Owner.{Owner}
use Rattle.rio_model.specs.declared.census.Owner.TheVariants.{Nobody, PageOf}
use Rattle.rio_model.specs.declared.node.Node.TheVariants.{Dir, File}
use Rattle.rio_model.specs.declared.state.State.{State}
use Rattle.rio_model.specs.Censuses.{HasOwners, OwnerIs}
use Rattle.rio_model.specs.Held.{entry_name, held, held_bytes, held_of, nothing}
use Rattle.rio_model.specs.Placed.{AtPage, AtTable, Layout, Owned, Owns, Slot, Within, number_at, placed_at, volume_layout}
use Rattle.rio_model.specs.ReadState.{read_state}
use Rattle.rio_model.specs.Standing.{MayBear}
use Rattle.rio_model.specs.VolumeReady.{Bears}
use Rattle.rio_model.specs.VolumeRules.{NamesApartRule}
use Rattle.rio_model.proofs.ReadStates.{holds_within, reads_made}
use Rattle.rio_model.proofs.VolumeReadRules.{reads_dir, reads_file, reads_none}

-- ---- the volume

abbrev pub file_shape : VolumeShape
file_shape = record { version = 1; blocks = 16; inodes = 32 }

-- the root has one entry, in block 3: the name f, of inode 2. This is a file of 5,000 bytes, in the blocks 4 and 5. No other inode is
-- used
pub record HasFile (f : BlockWords) : Type 0 where
  pub root_kind : inode_kind f 1 ≡ 1
  pub root_size : inode_size f 1 ≡ 64
  pub root_page : inode_word f 1 2 ≡ 3
  pub kind : inode_kind f 2 ≡ 2
  pub size : inode_size f 2 ≡ 5000
  pub numbers : inode_word f 2 2 ≡ 4 + 2 ^ 32 * 5
  pub others : (i : ℕ) → 2 < i → i ≤ 32 → inode_kind f i ≡ 0
  pub row : f 3 0 ≡ 2 + 2 ^ 32
  pub name : f 3 1 ≡ 102

abbrev pub file_layout : BlockWords → Layout
file_layout f = volume_layout file_shape f

-- ---- its blocks

pub reserved_is : reserved file_shape ≡ 3
unfolding more_bitmap
reserved_is = refl

pub root_block : (f : BlockWords) → HasFile f → ((file_layout f).node 1).block (AtPage 0) ≡ 3
unfolding number_at half
root_block f h = ap (λ w. w % 2 ^ 32) h.root_page

pub first_block : (f : BlockWords) → HasFile f → ((file_layout f).node 2).block (AtPage 0) ≡ 4
unfolding number_at half
first_block f h = ap (λ w. w % 2 ^ 32) h.numbers

pub second_block : (f : BlockWords) → HasFile f → ((file_layout f).node 2).block (AtPage 1) ≡ 5
unfolding number_at half
second_block f h = ap (λ w. w / 2 ^ 32 % 2 ^ 32) h.numbers

pub owns_root : (f : BlockWords) → HasFile f → Owns (file_layout f) 1 (AtPage 0)
owns_root f h = record {
  ino = record { from = omega arith; to = omega arith };
  slot = record { used = subst (λ k. 0 < k) (sym h.root_kind) (omega arith); within = subst (λ z. 0 < (z + 4095) / 4096) (sym h.root_size) (omega arith) };
}

owns_page : (f : BlockWords) (p : ℕ) → HasFile f → p < 2 → Owns (file_layout f) 2 (AtPage p)
owns_page f p h less = record {
  ino = record { from = omega arith; to = omega arith };
  slot = record { used = subst (λ k. 0 < k) (sym h.kind) (omega arith); within = subst (λ z. p < (z + 4095) / 4096) (sym h.size) (omega (arith, less)) };
}

pub owns_first : (f : BlockWords) → HasFile f → Owns (file_layout f) 2 (AtPage 0)
owns_first f h = owns_page f 0 h (omega arith)

pub owns_second : (f : BlockWords) → HasFile f → Owns (file_layout f) 2 (AtPage 1)
owns_second f h = owns_page f 1 h (omega arith)

-- the slots that count
abbrev pub IsSlot : ℕ → Slot → Type 0
IsSlot i s = ((i ≡ 1) × (s ≡ AtPage 0)) ⊎ (((i ≡ 2) × (s ≡ AtPage 0)) ⊎ ((i ≡ 2) × (s ≡ AtPage 1)))

pub slots : (f : BlockWords) (i : ℕ) (s : Slot) → HasFile f → Owns (file_layout f) i s → IsSlot i s
slots f i s h own = by (cases_eq i 1) (cases_eq i 2)
  where
    in_root : (s : Slot) → Within 64 s → s ≡ AtPage 0
    in_root (AtPage p) w = let less : p < 1 = w in let e : p ≡ 0 = omega (arith, less) in ap AtPage e
    in_root (AtTable k) w = absurd (let less : k < 0 = w in omega (arith, less))

    one_of : (p : ℕ) → p < 2 → (p ≡ 0) ⊎ (p ≢ 0) → (AtPage p ≡ AtPage 0) ⊎ (AtPage p ≡ AtPage 1)
    one_of p less (inl e) = inl (ap AtPage e)
    one_of p less (inr n) = let e : p ≡ 1 = omega (arith, less, n) in inr (ap AtPage e)

    in_file : (s : Slot) → Within 5000 s → (s ≡ AtPage 0) ⊎ (s ≡ AtPage 1)
    in_file (AtPage p) w = let less : p < 2 = w in one_of p less (cases_eq p 0)
    in_file (AtTable k) w = absurd (let less : k < 0 = w in omega (arith, less))

    file : i ≡ 2 → (s ≡ AtPage 0) ⊎ (s ≡ AtPage 1) → IsSlot i s
    file e (inl first) = inr (inl (e, first))
    file e (inr second) = inr (inr (e, second))

    by : (i ≡ 1) ⊎ (i ≢ 1) → (i ≡ 2) ⊎ (i ≢ 2) → IsSlot i s
    by (inl e) d = inl (e, in_root s (subst (λ z. Within z s) (ap (inode_size f) e ∙ h.root_size) own.slot.within))
    by (inr n) (inl e) = file e (in_file s (subst (λ z. Within z s) (ap (inode_size f) e ∙ h.size) own.slot.within))
    by (inr n) (inr m) = absurd (
        let from = own.ino.from in
        let none = h.others i (omega (arith, from, n, m)) own.ino.to in
        let used = own.slot.used in
        let some : 0 < 0 = subst (λ k. 0 < k) none used in
        omega (arith, some))

-- the block of one of them
pub slot_block : (f : BlockWords) (i j : ℕ) (s t : Slot) → i ≡ j → s ≡ t → ((file_layout f).node i).block s ≡ ((file_layout f).node j).block t
slot_block f i j s t e d = ap (λ x. ((file_layout f).node x).block s) e ∙ ap (λ x. ((file_layout f).node j).block x) d

pub owned_is : (f : BlockWords) (b : ℕ) → HasFile f → Owned (file_layout f) b → (b ≡ 3) ⊎ ((b ≡ 4) ⊎ (b ≡ 5))
owned_is f b h own = by (slots f own.node own.slot h own.owns)
  where
    by : IsSlot own.node own.slot → (b ≡ 3) ⊎ ((b ≡ 4) ⊎ (b ≡ 5))
    by (inl (i, s)) = inl (sym own.is ∙ slot_block f _ _ _ _ i s ∙ root_block f h)
    by (inr (inl (i, s))) = inr (inl (sym own.is ∙ slot_block f _ _ _ _ i s ∙ first_block f h))
    by (inr (inr (i, s))) = inr (inr (sym own.is ∙ slot_block f _ _ _ _ i s ∙ second_block f h))

pub first_owned : (f : BlockWords) → HasFile f → Owned (file_layout f) 4
first_owned f h = record { node = 2; slot = AtPage 0; owns = owns_first f h; is = first_block f h }

pub second_owned : (f : BlockWords) → HasFile f → Owned (file_layout f) 5
second_owned f h = record { node = 2; slot = AtPage 1; owns = owns_second f h; is = second_block f h }

-- ---- names that entries may bear

-- by the three blocks that nodes have
bears_by : (f : BlockWords) (b : ℕ) (name : Option PageName) → HasFile f → 3 ≤ b
    → (3 ≡ b → Bears 1 ((file_layout f).node 1) (AtPage 0) name) → (4 ≡ b → Bears 2 ((file_layout f).node 2) (AtPage 0) name) → (5 ≡ b → Bears 2 ((file_layout f).node 2) (AtPage 1) name) → MayBear (file_layout f) b name
bears_by f b name h past root first second = record {
  low = λ low. absurd (omega (arith, past, low, reserved_is));
  owned = λ i s own is. by i s (slots f i s h own) is;
}
  where
    there : (i j : ℕ) (s t : Slot) → i ≡ j → s ≡ t → Bears j ((file_layout f).node j) t name → Bears i ((file_layout f).node i) s name
    there i j s t e d bears = subst (λ x. Bears x ((file_layout f).node x) s name) (sym e) (subst (λ x. Bears j ((file_layout f).node j) x name) (sym d) bears)

    by : (i : ℕ) (s : Slot) → IsSlot i s → ((file_layout f).node i).block s ≡ b → Bears i ((file_layout f).node i) s name
    by i s (inl (e, d)) is = there i 1 s (AtPage 0) e d (root (sym (root_block f h) ∙ sym (slot_block f _ _ _ _ e d) ∙ is))
    by i s (inr (inl (e, d))) is = there i 2 s (AtPage 0) e d (first (sym (first_block f h) ∙ sym (slot_block f _ _ _ _ e d) ∙ is))
    by i s (inr (inr (e, d))) is = there i 2 s (AtPage 1) e d (second (sym (second_block f h) ∙ sym (slot_block f _ _ _ _ e d) ∙ is))

of_file : (f : BlockWords) → HasFile f → inode_kind f 2 ≢ 1
of_file f h e = let two : 2 ≡ 1 = sym h.kind ∙ e in absurd (omega (arith, two))

-- the first page of the file under its own name, with all its bytes in use
pub first_may_bear : (f : BlockWords) (name : PageName) → HasFile f → name.file.0 ≡ 2 → name.index ≡ 0 → 4096 ≤ name.size → MayBear (file_layout f) 4 (Some name)
first_may_bear f name h file index size = bears_by f 4 (Some name) h (omega arith) (λ e. absurd (omega (arith, e))) (λ e. (of_file f h, record { file = file; index = index; size_from = subst (λ z. min 4096 (z - 4096 * 0) ≤ name.size) (sym h.size) size })) (λ e. absurd (omega (arith, e)))

-- and under no other
pub first_bears : (f : BlockWords) (name : PageName) → HasFile f → MayBear (file_layout f) 4 (Some name) → (name.file.0 ≡ 2) × (name.index ≡ 0) × (4096 ≤ name.size)
first_bears f name h may =
    let named = (may.owned 2 (AtPage 0) (owns_first f h) (first_block f h)).1 in
    (named.file, named.index, subst (λ z. min 4096 (z - 4096 * 0) ≤ name.size) h.size named.size_from)

pub first_bears_some : (f : BlockWords) → HasFile f → MayBear (file_layout f) 4 None → ⊥
first_bears_some f h may = of_file f h (may.owned 2 (AtPage 0) (owns_first f h) (first_block f h))

-- of the second page 904 bytes are in use
pub second_may_bear : (f : BlockWords) (name : PageName) → HasFile f → name.file.0 ≡ 2 → name.index ≡ 1 → 904 ≤ name.size → MayBear (file_layout f) 5 (Some name)
second_may_bear f name h file index size = bears_by f 5 (Some name) h (omega arith) (λ e. absurd (omega (arith, e))) (λ e. absurd (omega (arith, e))) (λ e. (of_file f h, record { file = file; index = index; size_from = subst (λ z. min 4096 (z - 4096 * 1) ≤ name.size) (sym h.size) size }))

pub second_bears : (f : BlockWords) (name : PageName) → HasFile f → MayBear (file_layout f) 5 (Some name) → (name.file.0 ≡ 2) × (name.index ≡ 1) × (904 ≤ name.size)
second_bears f name h may =
    let named = (may.owned 2 (AtPage 1) (owns_second f h) (second_block f h)).1 in
    (named.file, named.index, subst (λ z. min 4096 (z - 4096 * 1) ≤ name.size) h.size named.size_from)

-- the directory's page bears no name
pub root_may_bear : (f : BlockWords) → HasFile f → MayBear (file_layout f) 3 None
root_may_bear f h = bears_by f 3 None h (omega arith) (λ e. h.root_kind) (λ e. absurd (omega (arith, e))) (λ e. absurd (omega (arith, e)))

pub root_bears_none : (f : BlockWords) (name : PageName) → HasFile f → MayBear (file_layout f) 3 (Some name) → ⊥
root_bears_none f name h may = (may.owned 1 (AtPage 0) (owns_root f h) (root_block f h)).0 h.root_kind

-- nor does a reserved block
pub reserved_bears_none : (f : BlockWords) (b : ℕ) (name : PageName) → b < 3 → MayBear (file_layout f) b (Some name) → ⊥
reserved_bears_none f b name low may = some (may.low (omega (arith, low, reserved_is)))
  where
    some : Some name ≡ None → ⊥
    some e = cc

-- a block that no node has bears any
pub free_may_bear : (f : BlockWords) (b : ℕ) (name : Option PageName) → HasFile f → 5 < b → MayBear (file_layout f) b name
free_may_bear f b name h past = bears_by f b name h (omega (arith, past)) (λ e. absurd (omega (arith, past, e))) (λ e. absurd (omega (arith, past, e))) (λ e. absurd (omega (arith, past, e)))

-- ---- owners

page_of : ℕ → ℕ → Owner
page_of i p = PageOf (record { 0 = i }) p

owner_of : ℕ → Owner
owner_of b = if b == 3 then page_of 1 0 else if b == 4 then page_of 2 0 else if b == 5 then page_of 2 1 else Nobody

pub file_owners : List Owner
file_owners = map owner_of (range_with_len 0 16)

owner_is : (f : BlockWords) (b : ℕ) → HasFile f → OwnerIs (file_layout f) b (owner_of b)
unfolding owner_of page_of
owner_is f b h = by (b == 3) (b == 4) (b == 5) refl refl refl
  where
    off : (n : ℕ) → (b == n) ≡ false → b ≢ n
    off n other e = true_false (sym (eq-eqb b n e) ∙ other)

    by : (x y z : Bool) → (b == 3) ≡ x → (b == 4) ≡ y → (b == 5) ≡ z → OwnerIs (file_layout f) b (cond x (page_of 1 0) (cond y (page_of 2 0) (cond z (page_of 2 1) Nobody)))
    by true y z three four five = (owns_root f h, root_block f h ∙ sym (eqb-true b 3 three))
    by false true z three four five = (owns_first f h, first_block f h ∙ sym (eqb-true b 4 four))
    by false false true three four five = (owns_second f h, second_block f h ∙ sym (eqb-true b 5 five))
    by false false false three four five = λ own. elim (owned_is f b h own) [
      | inl e ↦ off 3 three e
      | inr (inl e) ↦ off 4 four e
      | inr (inr e) ↦ off 5 five e
    ]

pub file_has_owners : (f : BlockWords) → HasFile f → HasOwners (file_layout f) file_owners
unfolding file_owners
file_has_owners f h = record {
  count = refl;
  each = λ b less. subst (OwnerIs (file_layout f) b) (sym (get_or-map-range_with_len owner_of 0 16 b b Nobody less (omega arith))) (owner_is f b h);
}

-- none has them that says of block 4 that it is nobody's
pub no_owner_fails : (f : BlockWords) (owners : List Owner) → HasFile f → slice_index_or owners 4 Nobody ≡ Nobody → HasOwners (file_layout f) owners → ⊥
no_owner_fails f owners h none has = subst (OwnerIs (file_layout f) 4) none (has.each 4 (omega arith)) (first_owned f h)

-- ---- the state that is read

-- any other inode, and any number that is none, holds nothing
pub held_none : (f : BlockWords) (d : ℕ) → HasFile f → d ≢ 1 → d ≢ 2 → (held_of file_shape f d).kind ≡ 0
held_none f d h a b = by (nat_le 1 d && nat_le d 32) refl
  where
    low : (d n : ℕ) → (nat_le 1 d && nat_le d n) ≡ true → d ≢ 1 → d ≢ 2 → (2 < d) × (d ≤ n)
    low d n e a b = let from : 1 ≤ d = grind (arith, nat_tests) in let to : d ≤ n = grind (arith, nat_tests) in (omega (arith, from, a, b), to)

    by : (t : Bool) → (nat_le 1 d && nat_le d 32) ≡ t → (held_of file_shape f d).kind ≡ 0
    by true e = let within = low d 32 e a b in ap (λ t. (cond t (held f (placed_at f d)) nothing).kind) e ∙ h.others d within.0 within.1
    by false e = ap (λ t. (cond t (held f (placed_at f d)) nothing).kind) e

pub held_kind : (f : BlockWords) (d : ℕ) → HasFile f → (held_of file_shape f d).kind ≡ 1 → d ≡ 1
held_kind f d h one = by (cases_eq d 1) (cases_eq d 2)
  where
    by : (d ≡ 1) ⊎ (d ≢ 1) → (d ≡ 2) ⊎ (d ≢ 2) → d ≡ 1
    by (inl e) x = e
    by (inr a) (inl e) = absurd (let two : 2 ≡ 1 = sym (ap (λ x. (held_of file_shape f x).kind) e ∙ h.kind) ∙ one in omega (arith, two))
    by (inr a) (inr b) = absurd (let zero : 0 ≡ 1 = sym (held_none f d h a b) ∙ one in omega (arith, zero))

pub root_held_size : (f : BlockWords) → HasFile f → (held_of file_shape f 1).size ≡ 64
root_held_size f h = ap (λ k. cond (nat_lt 0 k) (inode_size f 1) 0) h.root_kind ∙ h.root_size

-- the root has one entry
pub names_apart : (f : BlockWords) → HasFile f → NamesApartRule (held_of file_shape f)
names_apart f h = record { each = λ d j k hj hk same. let a = only d j hj.dir hj.within in let b = only d k hk.dir hk.within in a ∙ sym b }
  where
    only : (d j : ℕ) → (held_of file_shape f d).kind ≡ 1 → 64 * j < (held_of file_shape f d).size → j ≡ 0
    only d j dir within = let few : 64 * j < 64 = subst (λ z. 64 * j < z) (ap (λ x. (held_of file_shape f x).size) (held_kind f d h dir) ∙ root_held_size f h) within in omega (arith, few)

abbrev pub file_read : BlockWords → ℕ → ℕ → State
file_read f pages scratch = read_state file_shape pages scratch (held_of file_shape f)

pub file_node_read : (f : BlockWords) (pages scratch : ℕ) → HasFile f → get (file_read f pages scratch).nodes 2 ≡ Some (File (held_bytes (held_of file_shape f 2)))
file_node_read f pages scratch h = (reads_made file_shape pages scratch (held_of file_shape f) (holds_within file_shape f) (names_apart f h)).nodes 2 ∙ reads_file (held_of file_shape f 2) h.kind

pub root_node_read : (f : BlockWords) (pages scratch : ℕ) → HasFile f → get (file_read f pages scratch).nodes 1 ≡ Some Dir
root_node_read f pages scratch h = (reads_made file_shape pages scratch (held_of file_shape f) (holds_within file_shape f) (names_apart f h)).nodes 1 ∙ reads_dir (held_of file_shape f 1) h.root_kind

pub no_node_read : (f : BlockWords) (pages scratch : ℕ) → HasFile f → get (file_read f pages scratch).nodes 3 ≡ None
no_node_read f pages scratch h = (reads_made file_shape pages scratch (held_of file_shape f) (holds_within file_shape f) (names_apart f h)).nodes 3 ∙ reads_none (held_of file_shape f 3) (h.others 3 (omega arith) (omega arith))

-- word y of a node of this kind and size, whose page is this block
in_word : BlockWords → ℕ → ℕ → ℕ → ℕ → ℕ
in_word f kind size b y = if nat_lt 0 kind && nat_lt (8 * y) size then f b (y % 512) else 0

pub root_word : (f : BlockWords) → HasFile f → (held_of file_shape f 1).word 0 ≡ f 3 0
unfolding in_word
root_word f h = ap (λ k. in_word f k (inode_size f 1) (((file_layout f).node 1).block (AtPage 0)) 0) h.root_kind ∙ ap (λ z. in_word f 1 z (((file_layout f).node 1).block (AtPage 0)) 0) h.root_size ∙ ap (λ b. in_word f 1 64 b 0) (root_block f h)

pub root_next : (f : BlockWords) → HasFile f → (held_of file_shape f 1).word 1 ≡ f 3 1
unfolding in_word
root_next f h = ap (λ k. in_word f k (inode_size f 1) (((file_layout f).node 1).block (AtPage 0)) 1) h.root_kind ∙ ap (λ z. in_word f 1 z (((file_layout f).node 1).block (AtPage 0)) 1) h.root_size ∙ ap (λ b. in_word f 1 64 b 1) (root_block f h)

-- the entry's name is found with the file's number
pub file_name_read : (f : BlockWords) (pages scratch : ℕ) → HasFile f → get (file_read f pages scratch).names (1, entry_name (held_of file_shape f 1) 0) ≡ Some 2
file_name_read f pages scratch h =
    (reads_made file_shape pages scratch (held_of file_shape f) (holds_within file_shape f) (names_apart f h)).entries 1 0 (record { dir = h.root_kind; within = subst (λ z. 64 * 0 < z) (sym (root_held_size f h)) (omega arith) })
    ∙ ap Some (ap (λ w. w % 2 ^ 32) (root_word f h ∙ h.row))
