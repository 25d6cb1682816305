-- A plan of a directory that takes nothing still stands after another call that only prepares.
use Rattle.request_ends.proofs.Common.{◌≡◌, ℕ, ◌<◌, ◌≤◌, ◌⊎◌, true, false, List, [], Option, refl, sym, ap, subst, ◌∙◌, arith, inl, inr, nat_lt, Contains, PageName, VolumeShape, BlockWords, Seen, IsIno, Kept, Held, Slot, AtPage, AtTable, HasSlot, placed_at, volume_layout, IsFree, has_same, pages, Bears, LeavesInUse, Ready, wanted_blocks}
use Rattle.directories.specs.Plans.{PlansDir}
use Rattle.directories.specs.declared.changes.DirChange.{DirChange}
use Rattle.rio_model.proofs.PlacedRules.{cases_lt}
use Rattle.std.proofs.Common.{None, Some}
use Rattle.std.specs.Prelude.{cond, take}
use Rattle.rio_model.specs.Sizes.{tables}
use Rattle.directories.proofs.MakingRules.{may_after}
use Rattle.node_updates.proofs.Stood.{Stood}

-- ---- a plan that takes nothing has blocks of its directory alone

less_pages : (a b : ℕ) → a ≤ b → pages a ≤ pages b
less_pages a b less = omega (arith, less)

less_tables : (a b : ℕ) → pages a ≤ pages b → tables a ≤ tables b
less_tables a b less = by (cases_lt 24 (pages a)) (cases_lt 24 (pages b))
  where
    by : ((24 < pages a) × (nat_lt 24 (pages a) ≡ true)) ⊎ ((pages a ≤ 24) × (nat_lt 24 (pages a) ≡ false)) → ((24 < pages b) × (nat_lt 24 (pages b) ≡ true)) ⊎ ((pages b ≤ 24) × (nat_lt 24 (pages b) ≡ false)) → tables a ≤ tables b
    by (inl (high, at)) (inl (more, on)) = let p : tables a ≡ 1 = ap (λ b. cond b 1 0) at in let q : tables b ≡ 1 = ap (λ b. cond b 1 0) on in omega (arith, p, q)
    by (inl (high, at)) (inr (low, on)) = absurd (omega (arith, high, low, less))
    by (inr (low, at)) _ = let p : tables a ≡ 0 = ap (λ b. cond b 1 0) at in omega (arith, p)

none_wanted : (size len : ℕ) → len ≤ size → wanted_blocks size len ≡ 0
none_wanted size len less = let p = less_pages len size less in let t = less_tables len size p in omega (arith, p, t)

take_none : (n : ℕ) (xs : List ℕ) → n ≡ 0 → take n xs ≡ []
take_none n xs e = ap (λ m. take m xs) e

pub owns_all : (shape : VolumeShape) (f : BlockWords) (y : Seen) (j : Kept) (d : ℕ) (becomes : Held → Held → Type 0) (c : DirChange) (p : PlansDir shape f y j d becomes c) → p.node.size ≤ (placed_at f d).size → (s : Slot) → HasSlot p.node s → (t : Slot) × HasSlot (placed_at f d) t × ((placed_at f d).block t ≡ p.node.block s)
owns_all shape f y j d becomes c p less s has = elim (p.turns.gains s has) [
  | inl own ↦ own
  | inr taken ↦ absurd (nothing (subst (λ bs. Contains bs (p.node.block s)) (p.takes.lowest ∙ take_none _ _ (none_wanted (placed_at f d).size p.node.size less)) taken))
]
  where
    nothing : Contains [] (p.node.block s) → ⊥
    nothing (t, few, at) = omega (arith, few)

-- and still stands after another call that only prepares. y and j are before that call, z and l after it
pub stood_after : (shape : VolumeShape) (x y : Seen) (j : Kept) (z : Seen) (l : Kept) (d : ℕ) (becomes : Held → Held → Type 0) (c : DirChange) → (h : Stood shape x y j d becomes c) → Ready shape y j → LeavesInUse (volume_layout shape y.words) y j z l → IsIno shape d → h.plan.node.size ≤ (placed_at h.was d).size → Stood shape x z l d becomes c
stood_after shape x y j z l d becomes c h ready leaves ino less = record {
  was = h.was;
  seen = h.seen;
  kept = h.kept;
  plan = h.plan;
  same = h.same;
  bits = h.bits;
  may = may_after shape (placed_at h.was d) h.plan.node d h.seen.words y j z l ino ready.order.mapped leaves (λ s has free w. absurd (owned s has free)) h.may;
  firm = λ s has. firm s (own s has);
  unnamed = λ s has on. unnamed s (own s has) on;
}
  where
    own : (s : Slot) → HasSlot h.plan.node s → (t : Slot) × HasSlot (placed_at y.words d) t × ((placed_at y.words d).block t ≡ h.plan.node.block s)
    own s has = let at = owns_all shape h.was h.seen h.kept d becomes c h.plan less s has in (at.0, has_same _ _ at.0 h.may.lies at.1, h.may.lies.blocks at.0 at.1 ∙ at.2)

    owned : (s : Slot) → HasSlot h.plan.node s → IsFree (volume_layout shape y.words) (h.plan.node.block s) → ⊥
    owned s has free = let at = own s has in free.free (record { node = d; slot = at.0; owns = record { ino = ino; slot = at.1 }; is = at.2 })

    firm : (s : Slot) → (t : Slot) × HasSlot (placed_at y.words d) t × ((placed_at y.words d).block t ≡ h.plan.node.block s) → l.loose (h.plan.node.block s) ≡ false
    firm s (t, has, at) = subst (λ b. l.loose b ≡ false) at (leaves.firm.owned d t (record { ino = ino; slot = has }))

    dir : (placed_at y.words d).kind ≡ 1
    dir = h.may.lies.kind ∙ h.plan.was_dir

    none_of : (t : Slot) (name : Option PageName) → Bears d (placed_at y.words d) t name → name ≡ None
    none_of (AtTable k) name bears = bears
    none_of (AtPage p) None bears = refl
    none_of (AtPage p) (Some n) bears = absurd (bears.0 dir)

    unnamed : (s : Slot) → (t : Slot) × HasSlot (placed_at y.words d) t × ((placed_at y.words d).block t ≡ h.plan.node.block s) → z.cached (h.plan.node.block s) ≡ true → z.names (h.plan.node.block s) ≡ None
    unnamed s (t, has, at) on = subst (λ b. z.names b ≡ None) at (none_of t _ (leaves.named.each d ino t has (subst (λ b. z.cached b ≡ true) (sym at) on)))
