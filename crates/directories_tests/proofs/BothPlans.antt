-- Two plans of two directories made in one update, of which the first takes no block.
use Rattle.directories.proofs.Common.{◌≡◌, ◌≢◌, ℕ, ◌≤◌, ◌⊎◌, true, false, List, [], length, map, refl, sym, ap, subst, ◌∙◌, arith, inl, inr, Option, None, Some, Contains, nat_tests, PageName, VolumeShape, free_blocks, CachesBy, BlockWords, Seen, Firm, Kept, numbers, Held, held, held_there, Change, Slot, AtPage, AtTable, Placed, HasSlot, placed_at, volume_layout, Applied, edited, Bears, LeavesInUse, wanted_blocks, word_edit, IsUpdated}
use Rattle.std.specs.Prelude.{take}
use Rattle.rio_model.specs.NodeChanges.{Available}
use Rattle.rio_model.proofs.PlacedRules.{has_same}
use Rattle.directories.specs.Plans.{MayBeMade, PlansDir, dir_update}
use Rattle.directories.proofs.MakingRules.{DisjointNodes, may_after, may_still, plan_change}
use Rattle.directories.specs.Reading.{CanReadDir}
use Rattle.directories.specs.RowChanges.{RemovesRow}
use Rattle.directories_tests.specs.TestDirs.{CanMake, DirsOrder, DirsReady, KeepsRows}
use Rattle.directories.specs.declared.changes.DirChange.{DirChange}
use Rattle.directories.proofs.CanRead.{dir_held}
use Rattle.directories_tests.proofs.OpenPlans.{firm_false}
use Rattle.directories_tests.proofs.PlansMade.{left_held}

-- ---- a plan that takes no block

none_in : (xs : List ℕ) (b : ℕ) → xs ≡ [] → Contains xs b → ⊥
none_in xs b none on = let few = on.1 in let len = ap length none in omega (arith, few, len)

-- the block of slot t of a node is one that directory d has
abbrev OwnBlock : BlockWords → ℕ → ℕ → Type 0
OwnBlock f d b = (t : Slot) × HasSlot (placed_at f d) t × ((placed_at f d).block t ≡ b)

own_block : (shape : VolumeShape) (y : Seen) (j : Kept) (c : DirChange) (can : CanMake shape y j c) → numbers c.taken ≡ [] → (s : Slot) → HasSlot can.plan.node s → OwnBlock y.words c.dir.0 (can.plan.node.block s)
own_block shape y j c can none s has = by (can.plan.turns.gains s has)
  where
    by : OwnBlock can.old c.dir.0 (can.plan.node.block s) ⊎ Contains (numbers c.taken) (can.plan.node.block s) → OwnBlock y.words c.dir.0 (can.plan.node.block s)
    by (inl (t, had, e)) = (t, has_same _ _ t can.may.lies had, can.may.lies.blocks t had ∙ e)
    by (inr on) = absurd (none_in _ _ none on)

held_sized : (f : BlockWords) (n : Placed) → n.kind ≡ 1 → (held f n).size ≡ n.size
held_sized f n dir = grind (arith, nat_tests, dir)

no_more : (size len : ℕ) → len ≤ size → wanted_blocks size len ≡ 0
no_more size len less = grind (arith, nat_tests, less)

pub takes_none : (shape : VolumeShape) (x y : Seen) (j : Kept) (d slot : ℕ) (c : DirChange) → CanReadDir shape x d → PlansDir shape x.words y j d (RemovesRow slot) c → numbers c.taken ≡ []
takes_none shape x y j d slot c can p = p.takes.lowest ∙ ap (λ n. take n (free_blocks shape x.words)) (no_more (placed_at x.words d).size p.node.size less)
  where
    less : p.node.size ≤ (placed_at x.words d).size
    less =
        let now = sym (held_sized (edited y.words (map word_edit c.edits)) p.node p.is_dir) ∙ ap (λ (h : Held). h.size) (p.made y.words (λ s has w. refl)) ∙ p.does.sized in
        let was = ap (λ (h : Held). h.size) (dir_held shape x d can) ∙ held_sized x.words (placed_at x.words d) p.was_dir in
        omega (arith, now, was)

-- ---- it may still be made after another call that only prepares

bears_back : (d : ℕ) (n : Placed) (s : Slot) (name : Option PageName) → n.kind ≡ 1 → Bears d n s name → name ≡ None
bears_back d n (AtTable k) name dir bears = bears
bears_back d n (AtPage p) None dir bears = refl
bears_back d n (AtPage p) (Some name) dir bears = absurd (bears.0 dir)

pub still_can : (shape : VolumeShape) (x : Seen) (k : Kept) (y : Seen) (j : Kept) (c : DirChange) → DirsReady shape x k → CanMake shape x k c → numbers c.taken ≡ [] → LeavesInUse (volume_layout shape x.words) x k y j → CanMake shape y j c
still_can shape x k y j c h can none left = record {
  old = can.old;
  ino = can.ino;
  plan = record { dir = p.dir; node = p.node; holds = p.holds; turns = p.turns; from = p.from; takes = p.takes; made = λ g same. p.made g (λ s has w. same s has w ∙ after.same s has w); was_dir = p.was_dir; is_dir = p.is_dir; does = p.does; words = p.words; few = p.few; firm = firm; unnamed = unnamed };
  still = ap (λ (all : ℕ → Held). all c.dir.0) (left_held shape x.words y.words h.ready.order.mapped left.words) ∙ can.still;
  may = record { lies = after.lies; same = λ s has w. refl; from = after.from };
}
  where
    d : ℕ
    d = c.dir.0

    p : PlansDir shape can.old x k d KeepsRows c
    p = can.plan

    own : (s : Slot) → HasSlot p.node s → OwnBlock x.words d (p.node.block s)
    own s has = own_block shape x k c can none s has

    after : MayBeMade shape (placed_at can.old d) p.node d x.words y.words
    after = may_after shape (placed_at can.old d) p.node d x.words x k y j can.ino h.ready.order.mapped left (λ s has free w. absurd (free.free (record { node = d; slot = (own s has).0; owns = record { ino = can.ino; slot = (own s has).1 }; is = (own s has).2 }))) can.may

    kind : (placed_at x.words d).kind ≡ 1
    kind = can.may.lies.kind ∙ p.was_dir

    firm : (s : Slot) → HasSlot p.node s → j.loose (p.node.block s) ≡ false
    firm s has = subst (λ b. j.loose b ≡ false) (own s has).2 (left.firm.owned d (own s has).0 (record { ino = can.ino; slot = (own s has).1 }))

    unnamed : (s : Slot) → HasSlot p.node s → y.cached (p.node.block s) ≡ true → y.names (p.node.block s) ≡ None
    unnamed s has = subst (λ b. y.cached b ≡ true → y.names b ≡ None) (own s has).2 (λ on. bears_back d (placed_at x.words d) (own s has).0 _ kind (left.named.each d can.ino (own s has).0 (own s has).1 on))

-- ---- the plan of another directory may be made after it

pub other_can : (shape : VolumeShape) (y : Seen) (j : Kept) (z : Seen) (k : Kept) (c d : DirChange) → DirsOrder shape y j → CanMake shape y j c → CanMake shape y j d → (d.dir.0 ≢ c.dir.0) → numbers c.taken ≡ [] → Applied shape (dir_update c) y.words z.words → CachesBy (IsUpdated c.dir.0 c.edits) y z → Firm j k → CanMake shape z k d
other_can shape y j z k c d h first second away none applied caches firm = record {
  old = second.old;
  ino = second.ino;
  plan = record { dir = p.dir; node = p.node; holds = p.holds; turns = p.turns; from = p.from; takes = p.takes; made = λ g same. p.made g (λ s has w. same s has w ∙ after.same s has w); was_dir = p.was_dir; is_dir = p.is_dir; does = p.does; words = p.words; few = p.few; firm = λ s has. firm_false j k (p.node.block s) firm (p.firm s has); unnamed = λ s has on. unnamed s has (caches.each _ on) };
  still = held_there shape y.words z.words c.dir.0 first.plan.node h.order.mapped change d.dir.0 away ∙ second.still;
  may = record { lies = after.lies; same = λ s has w. refl; from = after.from };
}
  where
    p : PlansDir shape second.old y j d.dir.0 KeepsRows d
    p = second.plan

    change : Change (volume_layout shape y.words) y.words z.words c.dir.0 first.plan.node
    change = plan_change shape first.old y j c.dir.0 KeepsRows c y.words z.words first.plan first.may applied

    meet : (s t : Slot) → first.plan.node.block s ≡ p.node.block t → OwnBlock y.words c.dir.0 (first.plan.node.block s) → Available (volume_layout shape y.words) d.dir.0 (p.node.block t) → ⊥
    meet s t e (u, own, at) (inl (v, mine, is)) = away (sym (h.order.mapped.laid.once.each c.dir.0 d.dir.0 u v (record { ino = first.ino; slot = own }) (record { ino = second.ino; slot = mine }) (at ∙ e ∙ sym is)).0)
    meet s t e (u, own, at) (inr free) = free.free (record { node = c.dir.0; slot = u; owns = record { ino = first.ino; slot = own }; is = at ∙ e })

    apart : DisjointNodes first.plan.node p.node
    apart s t one other e = meet s t e (own_block shape y j c first none s one) (second.may.from t other)

    after : MayBeMade shape (placed_at second.old d.dir.0) p.node d.dir.0 y.words z.words
    after = may_still shape (placed_at second.old d.dir.0) p.node first.plan.node d.dir.0 c.dir.0 y.words y.words z.words h.order.mapped change second.ino away apart second.may

    unnamed : (s : Slot) → HasSlot p.node s → ((y.cached (p.node.block s) ≡ true) × (z.names (p.node.block s) ≡ y.names (p.node.block s))) ⊎ IsUpdated c.dir.0 c.edits (p.node.block s) (z.names (p.node.block s)) → z.names (p.node.block s) ≡ None
    unnamed s has (inl kept) = kept.1 ∙ p.unnamed s has kept.0
    unnamed s has (inr new) = new.1
