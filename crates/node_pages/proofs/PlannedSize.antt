-- A change of size prepared, smaller or larger.
use Rattle.node_pages.proofs.Common.{◌≡◌, ℕ, ◌<◌, ◌≤◌, ◌⊎◌, Bool, true, false, List, [], length, take, sym, ap, subst, ◌∙◌, arith, inl, inr, slice_index, None, Result, Ok, Err, IfOk, AllByRecursion, Contains, Block, VolumeShape, BlockWords, Health, Seen, IsIno, Below, Kept, Passes, numbers, Inode, Takes, Slot, AtTable, Placed, HasSlot, placed_at, Layout, volume_layout, IsFree, BearsOwn, LeavesInUse, IsNew, same_old, shrunk_has, sourced}
use Rattle.node_pages.specs.Changes.{EditsTable, Grows, KeepsFree, PlansFor, PlansSize, Shrinks, Spares, Staged, free_beside, given_node, is_among, planned_node, wanted_blocks}
use Rattle.node_pages.specs.LookingUp.{LooksUp}
use Rattle.node_pages.specs.Staging.{Beside}
use Rattle.node_pages.specs.declared.changes.SizeChange.{SizeChange}
use Rattle.node_pages.proofs.Given.{Given, given_of}
use Rattle.node_pages.proofs.Listed.{listed, place_of}
use Rattle.node_pages.proofs.Planned.{wanted_none}
use Rattle.node_pages.proofs.Skipped.{among_at}
use Rattle.node_pages.proofs.Staged.{kept_outside}

none_in : (b : ℕ) → Contains [] b → ⊥
none_in b (k, few, is) = omega (arith, few)

pub plans_shrunk : (shape : VolumeShape) (x : Seen) (k : Kept) (y : Seen) (j : Kept) (i : ℕ) (given : Inode) (len : ℕ) (skip : List ℕ) (c : SizeChange) → IsIno shape i → PlansFor x.words i given → len ≤ given.size → LeavesInUse (volume_layout shape x.words) x k y j → Shrinks shape x.words i given len c → PlansSize shape x.words y j i given len skip c
plans_shrunk shape x k y j i given len skip c ino plans less leaves h = record {
  turns = h.turns;
  from = λ s has. inl (s, back s has, sym (same s has));
  lowest = h.taken ∙ ap (λ n. take n (free_beside shape x.words skip)) (sym none);
  count = ap length h.taken ∙ sym none;
  tables = subst (AllByRecursion (EditsTable (planned_node x.words i given len c))) (sym h.edits) tt;
  unnamed = λ t has on. subst (λ b. y.names b ≡ None) (sym (same (AtTable t) has)) (leaves.named.each i ino (AtTable t) (back (AtTable t) has) (subst (λ b. y.cached b ≡ true) (same (AtTable t) has) on));
  staged = record {
    zeros = λ b w on. absurd (none_in b (subst (λ bs. Contains bs b) h.taken on));
    firm = λ b on. absurd (none_in b (subst (λ bs. Contains bs b) h.taken on));
    named = λ s has on. absurd (none_in _ (subst (λ bs. Contains bs ((planned_node x.words i given len c).block s)) h.taken on));
  };
}
  where
    none : wanted_blocks given.size len ≡ 0
    none = wanted_none given.size len less

    in_given : (s : Slot) → HasSlot (planned_node x.words i given len c) s → HasSlot (given_node x.words i given) s
    in_given s has = shrunk_has (given_node x.words i given) len s less (record { used = has.used; within = has.within })

    back : (s : Slot) → HasSlot (planned_node x.words i given len c) s → HasSlot (placed_at x.words i) s
    back s has = (given_of x.words i given plans).back s (in_given s has)

    same : (s : Slot) → HasSlot (planned_node x.words i given len c) s → (planned_node x.words i given len c).block s ≡ (placed_at x.words i).block s
    same s has = same_old (given_node x.words i given) len (numbers c.taken) s (in_given s has)

pub plans_grown : (shape : VolumeShape) (x : Seen) (k : Kept) (y : Seen) (j : Kept) (i : ℕ) (given : Inode) (len : ℕ) (skip taken : List ℕ) (c : SizeChange) → IsIno shape i → PlansFor x.words i given → LeavesInUse (volume_layout shape x.words) x k y j → Grows shape x.words y j i given len taken c → taken ≡ take (wanted_blocks given.size len) (free_beside shape x.words skip) → length taken ≡ wanted_blocks given.size len → PlansSize shape x.words y j i given len skip c
plans_grown shape x k y j i given len skip taken c ino plans leaves h lowest count = record {
  turns = h.turns;
  from = λ s has. elim (source s has) [ inl old ↦ inl (s, at.back s old, sym (kept s old)) | inr new ↦ inr (subst (IsFree f) (sym new.1.is) (takes.free new.0 new.1.within)) ];
  lowest = h.taken ∙ lowest;
  count = ap length h.taken ∙ count;
  tables = h.tables;
  unnamed = λ t has on. elim (source (AtTable t) has) [
    | inl old ↦ subst (λ b. y.names b ≡ None) (sym (kept (AtTable t) old)) (leaves.named.each i ino (AtTable t) (at.back (AtTable t) old) (subst (λ b. y.cached b ≡ true) (kept (AtTable t) old) on))
    | inr new ↦ h.staged.named (AtTable t) has (subst (λ bs. Contains bs (m.block (AtTable t))) h.taken (subst (Contains (numbers c.taken)) (sym new.1.is) (listed (numbers c.taken) new.0 new.1.within))) on
  ];
  staged = subst (λ bs. Staged i m bs y j) (sym h.taken) h.staged;
}
  where
    n : Placed
    n = given_node x.words i given

    m : Placed
    m = planned_node x.words i given len c

    f : Layout
    f = volume_layout shape x.words

    at : Given x.words i given
    at = given_of x.words i given plans

    takes : Takes f n len (numbers c.taken)
    takes = subst (Takes f n len) (sym h.taken) h.takes

    source : (s : Slot) → HasSlot m s → HasSlot n s ⊎ ((q : ℕ) × IsNew n len (numbers c.taken) s q)
    source s has = sourced f n len (numbers c.taken) s takes has

    kept : (s : Slot) → HasSlot n s → m.block s ≡ (placed_at x.words i).block s
    kept s old = same_old n len (numbers c.taken) s old

-- ---- free blocks that are not taken

pub keeps_looked : (shape : VolumeShape) (s t : Health) (o n : Below) (taken : List ℕ) (x : Seen) (k : Kept) (y : Seen) (j : Kept) → LooksUp shape x y → Passes s o k t n j → KeepsFree (volume_layout shape x.words) taken x k y j
keeps_looked shape s t o n taken x k y j looks passes = record {
  words = λ b w free out. ap (λ (f : BlockWords). f b w) looks.looks.words;
  loose = λ b free out on. passes.firm.loose b on;
  named = λ b free out on. by b free (looks.caches.each b on);
}
  where
    by : (b : ℕ) → IsFree (volume_layout shape x.words) b → ((x.cached b ≡ true) × (y.names b ≡ x.names b)) ⊎ BearsOwn (volume_layout shape x.words) b (y.names b) → (x.cached b ≡ true) × (y.names b ≡ x.names b)
    by b free (inl kept) = kept
    by b free (inr (inl low)) = absurd (let from = free.from in let under = low.0 in omega (arith, from, under))
    by b free (inr (inr (q, slot, own, at, bears))) = absurd (free.free (record { node = q; slot = slot; owns = own; is = at }))

pub keeps_staged : (shape : VolumeShape) (s t : Health) (o n : Below) (bs cs : List Block) (x : Seen) (k : Kept) (z : Seen) (l : Kept) (y : Seen) (j : Kept) → LooksUp shape x z → Passes s o k t n l → bs ≡ cs → Beside (Contains (numbers bs)) z l y j → KeepsFree (volume_layout shape x.words) (numbers cs) x k y j
keeps_staged shape s t o n bs cs x k z l y j looks passes same beside =
    let a = keeps_looked shape s t o n (numbers cs) x k z l looks passes in
    record {
      words = λ b w free out. beside.words.others b w (outside b out) ∙ a.words b w free out;
      loose = λ b free out on. a.loose b free out (beside.firm.loose b (outside b out) on);
      named = λ b free out on. let now = kept_outside (Contains (numbers bs)) z l y j b beside (outside b out) on in let was = a.named b free out now.0 in (was.0, now.1 ∙ was.1);
    }
  where
    outside : (b : ℕ) → (Contains (numbers cs) b → ⊥) → Contains (numbers bs) b → ⊥
    outside b out on = out (subst (λ us. Contains (numbers us) b) same on)

-- blocks set aside are not among those taken
pub spares_looked : (shape : VolumeShape) (s t : Health) (o n : Below) (skip : List ℕ) (x : Seen) (k : Kept) (y : Seen) (j : Kept) → ((q : ℕ) → q < length skip → IsFree (volume_layout shape x.words) (slice_index skip q)) → LooksUp shape x y → Passes s o k t n j → Spares skip x k y j
spares_looked shape s t o n skip x k y j free looks passes =
    let a = keeps_looked shape s t o n [] x k y j looks passes in
    record {
      words = λ b w on. a.words b w (free_in b on) (none_in b);
      loose = λ b on. a.loose b (free_in b on) (none_in b);
      named = λ b on. a.named b (free_in b on) (none_in b);
    }
  where
    free_in : (b : ℕ) → Contains skip b → IsFree (volume_layout shape x.words) b
    free_in b on = let at = place_of skip b on in subst (IsFree (volume_layout shape x.words)) at.2 (free at.0 at.1)

pub spares_kept : (shape : VolumeShape) (s t : Health) (o n : Below) (skip taken : List ℕ) (x : Seen) (k : Kept) (z : Seen) (l : Kept) (y : Seen) (j : Kept) → ((q : ℕ) → q < length skip → IsFree (volume_layout shape x.words) (slice_index skip q)) → ((q : ℕ) → q < length taken → is_among skip (slice_index taken q) ≡ false) → LooksUp shape x z → Passes s o k t n l → KeepsFree (volume_layout shape z.words) taken z l y j → Spares skip x k y j
spares_kept shape s t o n skip taken x k z l y j free apart looks passes h =
    let a = spares_looked shape s t o n skip x k z l free looks passes in
    record {
      words = λ b w on. h.words b w (free_in b on) (out b on) ∙ a.words b w on;
      loose = λ b on now. a.loose b on (h.loose b (free_in b on) (out b on) now);
      named = λ b on now. let was = h.named b (free_in b on) (out b on) now in let first = a.named b on was.0 in (first.0, was.1 ∙ first.1);
    }
  where
    free_in : (b : ℕ) → Contains skip b → IsFree (volume_layout shape z.words) b
    free_in b on = let at = place_of skip b on in subst (λ f. IsFree (volume_layout shape f) b) (sym looks.looks.words) (subst (IsFree (volume_layout shape x.words)) at.2 (free at.0 at.1))

    out : (b : ℕ) → Contains skip b → Contains taken b → ⊥
    out b on off =
        let at = place_of skip b on in
        let to = place_of taken b off in
        let one : is_among skip b ≡ true = among_at skip at.0 b at.1 at.2 in
        let two : is_among skip b ≡ false = ap (is_among skip) (sym to.2) ∙ apart to.0 to.1 in
        clash (is_among skip b) one two
      where
        clash : (t : Bool) → t ≡ true → t ≡ false → ⊥
        clash true one two = cc
        clash false one two = cc

pub if_ok_map : {T E : Type 0} (A B : T → Type 0) (r : Result T E) → ((v : T) → A v → B v) → IfOk r A → IfOk r B
if_ok_map A B (Ok v) f h = f v h
if_ok_map A B (Err e) f h = tt
