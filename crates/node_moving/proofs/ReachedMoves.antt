-- The state that is read once the changes of a rename are made, where two directories change or a node goes.
use Rattle.request_ends.proofs.Common.{◌≡◌, ◌≢◌, ℕ, ◌<◌, ◌≤◌, ◌⊎◌, List, [], ◌∷◌, map, sym, ap, subst, ◌∙◌, arith, inl, inr, None, get, cases_eq, Block, VolumeShape, BlockWords, Seen, IsIno, Kept, numbers, State, Held, held_of, Available, IsName, Slot, Placed, HasSlot, Owns, placed_at, volume_layout, SamePlaced, has_same, Applied, ReadsAs, IsMapped, TreeRule, node_blocks, InOrder}
use Rattle.directories.specs.Plans.{MayBeMade, dir_update}
use Rattle.directories.proofs.MakingRules.{plan_change, DisjointNodes, may_still}
use Rattle.directories.specs.Rows.{IsEntry}
use Rattle.directories.specs.declared.changes.DirChange.{DirChange}
use Rattle.rio_requests.specs.Answers.{moved, replaced}
use Rattle.directories.specs.RowChanges.{AddsRow, RemovesRow, ReplacesRow, SetsRow}
use Rattle.node_updates.specs.Changes.{AllApplied, IsGone, IsTouchedBy, change_update, of_dir}
use Rattle.node_updates.proofs.EmptyHeld.{empty_held}
use Rattle.node_moving.proofs.ReadSteps.{MovesRow, ReplacesAcross, ReplacesWithin, moved_as, replaced_across_as, replaced_within_as}
use Rattle.node_updates.specs.declared.changes.NodeChange.{NodeChange}
use Rattle.node_updates.proofs.Ended.{Reaches}
use Rattle.node_updates.proofs.Reached.{Prepared, held_now, mapped_now, order_now, reached, unnamed_touch}
use Rattle.node_moving.proofs.ReachedGone.{gone_after}
use Rattle.node_updates.proofs.Steps.{Steps}
use Rattle.node_updates.proofs.Stood.{Stood, stood_step}
use Rattle.node_moving.proofs.StoodAfter.{owns_all}

same_trans : (n m o : Placed) → SamePlaced n m → SamePlaced m o → SamePlaced n o
same_trans n m o a b = record {
  kind = b.kind ∙ a.kind;
  size = λ used. b.size (omega (arith, used, a.kind)) ∙ a.size used;
  blocks = λ s has. b.blocks s (has_same n m s a has) ∙ a.blocks s has;
}

-- a plan of another directory may still be made after one that has blocks of its own directory alone
stood_still : (shape : VolumeShape) (x y : Seen) (j : Kept) (d e : ℕ) (first second : Held → Held → Type 0) (c m : DirChange) (h : BlockWords) (p : Stood shape x y j d first c) (q : Stood shape x y j e second m) → IsMapped shape y.words → IsIno shape d → IsIno shape e → e ≢ d → p.plan.node.size ≤ (placed_at p.was d).size → Applied shape (dir_update c) y.words h → MayBeMade shape (placed_at q.was e) q.plan.node e q.seen.words h
stood_still shape x y j d e first second c m h p q mapped dno eno away less a =
    may_still shape (placed_at q.was e) q.plan.node p.plan.node e d q.seen.words y.words h mapped (plan_change shape p.was p.seen p.kept d first c y.words h p.plan p.may a) eno away disjoint q.may
  where
    disjoint : DisjointNodes p.plan.node q.plan.node
    disjoint s t has_s has_t same = by (owns_all shape p.was p.seen p.kept d first c p.plan less s has_s) (q.may.from t has_t)
      where
        by : (u : Slot) × HasSlot (placed_at p.was d) u × ((placed_at p.was d).block u ≡ p.plan.node.block s) → Available (volume_layout shape y.words) e (q.plan.node.block t) → ⊥
        by (u, has, at) from =
            let own : Owns (volume_layout shape y.words) d u = record { ino = dno; slot = has_same _ _ u p.may.lies has } in
            let is : (placed_at y.words d).block u ≡ q.plan.node.block t = p.may.lies.blocks u has ∙ at ∙ same in
            elim from [
              | inl other ↦ away (sym ((mapped.laid.once.each d e u other.0 own (record { ino = eno; slot = other.1 }) (is ∙ sym other.2)).0))
              | inr free ↦ free.free (record { node = d; slot = u; owns = own; is = is })
            ]

-- what is read of nodes that are no directories of the request, and of its directories
stays_beside : (h g : ℕ → Held) (d e : ℕ) → (g d).kind ≡ 1 → (g e).kind ≡ 1 → ((n : ℕ) → n ≢ d → n ≢ e → (g n ≡ h n) ⊎ ((g n).kind ≢ 3)) → (n : ℕ) → (g n ≡ h n) ⊎ ((g n).kind ≢ 3)
stays_beside h g d e dir_d dir_e others n = by (cases_eq n d) (cases_eq n e)
  where
    one : (m : ℕ) → n ≡ m → (g m).kind ≡ 1 → (g n).kind ≢ 3
    one m on dir three = (let k : (g n).kind ≡ 1 = ap (λ q. (g q).kind) on ∙ dir in omega (arith, k, three))

    by : (n ≡ d) ⊎ (n ≢ d) → (n ≡ e) ⊎ (n ≢ e) → (g n ≡ h n) ⊎ ((g n).kind ≢ 3)
    by (inl on) _ = inr (one d on dir_d)
    by (inr off) (inl on) = inr (one e on dir_e)
    by (inr off) (inr away) = others n off away

-- ---- a row moved to another directory

-- names of cached pages are right once it is made, whatever the names come to
pub order_moved : (shape : VolumeShape) (x : Seen) (k : Kept) (y : Seen) (j : Kept) (z : Seen) (d slot e : ℕ) (b : List ℕ) (i : ℕ) (c m : DirChange) (g : BlockWords) → Prepared shape x k y j z (of_dir c ∷ of_dir m ∷ []) → (goes : Stood shape x y j d (RemovesRow slot) c) → Stood shape x y j e (AddsRow b i) m → goes.plan.node.size ≤ (placed_at goes.was d).size → IsIno shape d → IsIno shape e → d ≢ e → AllApplied shape (map change_update (of_dir c ∷ of_dir m ∷ [])) y.words g → InOrder shape g z j
order_moved shape x k y j z d slot e b i c m g p goes comes less dno eno apart (h, a1, (h2, a2, end)) = subst (λ f. InOrder shape f z j) (sym end) second.0.order
  where
    changes : List NodeChange
    changes = of_dir c ∷ of_dir m ∷ []

    away : e ≢ d
    away same = apart (sym same)

    first : Steps shape y.words h d z j × RemovesRow slot (held_of shape x.words d) (held_of shape h d)
    first = stood_step shape x y j d (RemovesRow slot) c (IsTouchedBy changes) z y.words h goes (unnamed_touch changes) p.touched.caches (order_now shape x k y j z changes p) (held_now shape x k y j z changes p d) goes.may a1

    second : Steps shape h h2 e z j × AddsRow b i (held_of shape x.words e) (held_of shape h2 e)
    second = stood_step shape x y j e (AddsRow b i) m (IsTouchedBy changes) z h h2 comes (unnamed_touch changes) p.touched.caches first.0.order (first.0.others e away ∙ held_now shape x k y j z changes p e)
        (stood_still shape x y j d e (RemovesRow slot) (AddsRow b i) c m h goes comes (mapped_now shape x k y j z changes p) dno eno away less a1) a2

pub reaches_moved : (shape : VolumeShape) (x : Seen) (k : Kept) (y : Seen) (j : Kept) (z : Seen) (s : State) (d slot : ℕ) (a : List ℕ) (e : ℕ) (b : List ℕ) (i : ℕ) (c m : DirChange) (g : BlockWords) → Prepared shape x k y j z (of_dir c ∷ of_dir m ∷ []) → ReadsAs shape x.words s → (goes : Stood shape x y j d (RemovesRow slot) c) → Stood shape x y j e (AddsRow b i) m → goes.plan.node.size ≤ (placed_at goes.was d).size → IsIno shape d → IsIno shape e → d ≢ e → (held_of shape x.words d).kind ≡ 1 → (held_of shape x.words e).kind ≡ 1 → IsEntry (held_of shape x.words d) slot a i → IsName b → get s.names (e, b) ≡ None → TreeRule (moved s d a e b i) → AllApplied shape (map change_update (of_dir c ∷ of_dir m ∷ [])) y.words g → Reaches shape x.words z j (of_dir c ∷ of_dir m ∷ []) g (moved s d a e b i)
reaches_moved shape x k y j z s d slot a e b i c m g p reads goes comes less dno eno apart dir_d dir_e entry named absent tree (h, a1, (h2, a2, end)) =
    reached shape x k y j z changes g _ p (h, a1, (h2, a2, end)) order (moved_as shape x.words g s d slot a e b i reads order.mapped tree absent named moves) stays
  where
    changes : List NodeChange
    changes = of_dir c ∷ of_dir m ∷ []

    mapped : IsMapped shape y.words
    mapped = mapped_now shape x k y j z changes p

    away : e ≢ d
    away same = apart (sym same)

    first : Steps shape y.words h d z j × RemovesRow slot (held_of shape x.words d) (held_of shape h d)
    first = stood_step shape x y j d (RemovesRow slot) c (IsTouchedBy changes) z y.words h goes (unnamed_touch changes) p.touched.caches (order_now shape x k y j z changes p) (held_now shape x k y j z changes p d) goes.may a1

    second : Steps shape h h2 e z j × AddsRow b i (held_of shape x.words e) (held_of shape h2 e)
    second = stood_step shape x y j e (AddsRow b i) m (IsTouchedBy changes) z h h2 comes (unnamed_touch changes) p.touched.caches first.0.order (first.0.others e away ∙ held_now shape x k y j z changes p e)
        (stood_still shape x y j d e (RemovesRow slot) (AddsRow b i) c m h goes comes mapped dno eno away less a1) a2

    order : InOrder shape g z j
    order = subst (λ f. InOrder shape f z j) (sym end) second.0.order

    others : (n : ℕ) → n ≢ d → n ≢ e → held_of shape h2 n ≡ held_of shape x.words n
    others n off_d off_e = second.0.others n off_e ∙ first.0.others n off_d ∙ held_now shape x k y j z changes p n

    left : RemovesRow slot (held_of shape x.words d) (held_of shape h2 d)
    left = subst (RemovesRow slot (held_of shape x.words d)) (sym (second.0.others d apart)) first.1

    moves : MovesRow (held_of shape x.words) (held_of shape g) d slot a e b i
    moves = subst (λ f. MovesRow (held_of shape x.words) (held_of shape f) d slot a e b i) (sym end) (record { apart = apart; from_dir = dir_d; to_dir = dir_e; entry = entry; left = left; came = second.1; others = others })

    stays : (n : ℕ) → (held_of shape g n ≡ held_of shape x.words n) ⊎ ((held_of shape g n).kind ≢ 3)
    stays n = subst (λ f. (held_of shape f n ≡ held_of shape x.words n) ⊎ ((held_of shape f n).kind ≢ 3)) (sym end) (stays_beside (held_of shape x.words) (held_of shape h2) d e left.dir second.1.dir (λ q off_d off_e. inl (others q off_d off_e)) n)

-- ---- a row over another one of the same directory, whose node goes

pub reaches_within : (shape : VolumeShape) (x : Seen) (k : Kept) (y : Seen) (j : Kept) (z : Seen) (s : State) (d from to : ℕ) (a b : List ℕ) (i n : ℕ) (blocks : List Block) (c : DirChange) (m : NodeChange) (g : BlockWords) → Prepared shape x k y j z (of_dir c ∷ m ∷ []) → ReadsAs shape x.words s → Stood shape x y j d (ReplacesRow to i from) c → IsGone n blocks m → numbers blocks ≡ node_blocks (placed_at y.words n) → IsIno shape d → IsIno shape n → (held_of shape x.words d).kind ≡ 1 → IsEntry (held_of shape x.words d) from a i → IsEntry (held_of shape x.words d) to b n → i ≢ n → (held_of shape x.words n).kind ≢ 1 → 0 < (held_of shape x.words n).kind → n ≢ 1 → n ≢ d → TreeRule (replaced s d a d b i n) → AllApplied shape (map change_update (of_dir c ∷ m ∷ [])) y.words g → Reaches shape x.words z j (of_dir c ∷ m ∷ []) g (replaced s d a d b i n)
reaches_within shape x k y j z s d from to a b i n blocks c m g p reads plan gone is dno nno dir old over differ leaf used other away tree (h, a1, (h2, a2, end)) =
    reached shape x k y j z changes g _ p (h, a1, (h2, a2, end)) order (replaced_within_as shape x.words g s d from to a b i n reads order.mapped tree replaces) stays
  where
    changes : List NodeChange
    changes = of_dir c ∷ m ∷ []

    first : Steps shape y.words h d z j × ReplacesRow to i from (held_of shape x.words d) (held_of shape h d)
    first = stood_step shape x y j d (ReplacesRow to i from) c (IsTouchedBy changes) z y.words h plan (unnamed_touch changes) p.touched.caches (order_now shape x k y j z changes p) (held_now shape x k y j z changes p d) plan.may a1

    second : Steps shape h h2 n z j × (held_of shape h2 n ≡ empty_held 0)
    second = gone_after shape x k y j z changes n blocks m h h2 p first.0.order (first.0.lies n nno away) gone nno other used is a2

    order : InOrder shape g z j
    order = subst (λ f. InOrder shape f z j) (sym end) second.0.order

    row : ReplacesRow to i from (held_of shape x.words d) (held_of shape h2 d)
    row = subst (ReplacesRow to i from (held_of shape x.words d)) (sym (second.0.others d (λ same. away (sym same)))) first.1

    others : (q : ℕ) → q ≢ d → q ≢ n → held_of shape h2 q ≡ held_of shape x.words q
    others q off_d off_n = second.0.others q off_n ∙ first.0.others q off_d ∙ held_now shape x k y j z changes p q

    replaces : ReplacesWithin (held_of shape x.words) (held_of shape g) d from to a b i n
    replaces = subst (λ f. ReplacesWithin (held_of shape x.words) (held_of shape f) d from to a b i n) (sym end) (record { dir = dir; old = old; over = over; differ = differ; leaf = leaf; row = row; gone = second.1; others = others })

    stays : (q : ℕ) → (held_of shape g q ≡ held_of shape x.words q) ⊎ ((held_of shape g q).kind ≢ 3)
    stays q = subst (λ f. (held_of shape f q ≡ held_of shape x.words q) ⊎ ((held_of shape f q).kind ≢ 3)) (sym end) (stays_beside (held_of shape x.words) (held_of shape h2) d d row.dir row.dir (λ r off same. by r off (cases_eq r n)) q)
      where
        by : (r : ℕ) → r ≢ d → (r ≡ n) ⊎ (r ≢ n) → (held_of shape h2 r ≡ held_of shape x.words r) ⊎ ((held_of shape h2 r).kind ≢ 3)
        by r off (inl on) = inr (λ three. (let low : (held_of shape h2 r).kind ≡ 0 = ap (λ v. (held_of shape h2 v).kind) on ∙ ap (λ (v : Held). v.kind) second.1 in omega (arith, low, three)))
        by r off (inr off_n) = inl (others r off off_n)

-- ---- the same over a row of another directory

pub reaches_across : (shape : VolumeShape) (x : Seen) (k : Kept) (y : Seen) (j : Kept) (z : Seen) (s : State) (d from : ℕ) (a : List ℕ) (e to : ℕ) (b : List ℕ) (i n : ℕ) (blocks : List Block) (c m : DirChange) (w : NodeChange) (g : BlockWords) → Prepared shape x k y j z (of_dir c ∷ of_dir m ∷ w ∷ []) → ReadsAs shape x.words s → (goes : Stood shape x y j d (RemovesRow from) c) → Stood shape x y j e (SetsRow to b i) m → goes.plan.node.size ≤ (placed_at goes.was d).size → IsGone n blocks w → numbers blocks ≡ node_blocks (placed_at y.words n) → IsIno shape d → IsIno shape e → IsIno shape n → d ≢ e → (held_of shape x.words d).kind ≡ 1 → (held_of shape x.words e).kind ≡ 1 → IsEntry (held_of shape x.words d) from a i → IsEntry (held_of shape x.words e) to b n → i ≢ n → (held_of shape x.words n).kind ≢ 1 → 0 < (held_of shape x.words n).kind → n ≢ 1 → n ≢ d → n ≢ e → TreeRule (replaced s d a e b i n) → AllApplied shape (map change_update (of_dir c ∷ of_dir m ∷ w ∷ [])) y.words g → Reaches shape x.words z j (of_dir c ∷ of_dir m ∷ w ∷ []) g (replaced s d a e b i n)
reaches_across shape x k y j z s d from a e to b i n blocks c m w g p reads goes comes less gone is dno eno nno apart dir_d dir_e old over differ leaf used other away_d away_e tree (h, a1, (h2, a2, (h3, a3, end))) =
    reached shape x k y j z changes g _ p (h, a1, (h2, a2, (h3, a3, end))) order (replaced_across_as shape x.words g s d from a e to b i n reads order.mapped tree replaces) stays
  where
    changes : List NodeChange
    changes = of_dir c ∷ of_dir m ∷ w ∷ []

    mapped : IsMapped shape y.words
    mapped = mapped_now shape x k y j z changes p

    away : e ≢ d
    away same = apart (sym same)

    first : Steps shape y.words h d z j × RemovesRow from (held_of shape x.words d) (held_of shape h d)
    first = stood_step shape x y j d (RemovesRow from) c (IsTouchedBy changes) z y.words h goes (unnamed_touch changes) p.touched.caches (order_now shape x k y j z changes p) (held_now shape x k y j z changes p d) goes.may a1

    second : Steps shape h h2 e z j × SetsRow to b i (held_of shape x.words e) (held_of shape h2 e)
    second = stood_step shape x y j e (SetsRow to b i) m (IsTouchedBy changes) z h h2 comes (unnamed_touch changes) p.touched.caches first.0.order (first.0.others e away ∙ held_now shape x k y j z changes p e)
        (stood_still shape x y j d e (RemovesRow from) (SetsRow to b i) c m h goes comes mapped dno eno away less a1) a2

    third : Steps shape h2 h3 n z j × (held_of shape h3 n ≡ empty_held 0)
    third = gone_after shape x k y j z changes n blocks w h2 h3 p second.0.order (same_trans _ _ _ (first.0.lies n nno away_d) (second.0.lies n nno away_e)) gone nno other used is a3

    order : InOrder shape g z j
    order = subst (λ f. InOrder shape f z j) (sym end) third.0.order

    left : RemovesRow from (held_of shape x.words d) (held_of shape h3 d)
    left = subst (RemovesRow from (held_of shape x.words d)) (sym (third.0.others d (λ same. away_d (sym same)) ∙ second.0.others d apart)) first.1

    row : SetsRow to b i (held_of shape x.words e) (held_of shape h3 e)
    row = subst (SetsRow to b i (held_of shape x.words e)) (sym (third.0.others e (λ same. away_e (sym same)))) second.1

    others : (q : ℕ) → q ≢ d → q ≢ e → q ≢ n → held_of shape h3 q ≡ held_of shape x.words q
    others q off_d off_e off_n = third.0.others q off_n ∙ second.0.others q off_e ∙ first.0.others q off_d ∙ held_now shape x k y j z changes p q

    replaces : ReplacesAcross (held_of shape x.words) (held_of shape g) d from a e to b i n
    replaces = subst (λ f. ReplacesAcross (held_of shape x.words) (held_of shape f) d from a e to b i n) (sym end) (record { apart = apart; from_dir = dir_d; to_dir = dir_e; old = old; over = over; differ = differ; leaf = leaf; left = left; row = row; gone = third.1; others = others })

    stays : (q : ℕ) → (held_of shape g q ≡ held_of shape x.words q) ⊎ ((held_of shape g q).kind ≢ 3)
    stays q = subst (λ f. (held_of shape f q ≡ held_of shape x.words q) ⊎ ((held_of shape f q).kind ≢ 3)) (sym end) (stays_beside (held_of shape x.words) (held_of shape h3) d e left.dir row.dir (λ r off_d off_e. by r off_d off_e (cases_eq r n)) q)
      where
        by : (r : ℕ) → r ≢ d → r ≢ e → (r ≡ n) ⊎ (r ≢ n) → (held_of shape h3 r ≡ held_of shape x.words r) ⊎ ((held_of shape h3 r).kind ≢ 3)
        by r off_d off_e (inl on) = inr (λ three. (let low : (held_of shape h3 r).kind ≡ 0 = ap (λ v. (held_of shape h3 v).kind) on ∙ ap (λ (v : Held). v.kind) third.1 in omega (arith, low, three)))
        by r off_d off_e (inr off_n) = inl (others r off_d off_e off_n)
