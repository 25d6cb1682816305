-- The state that is read once a row and its node are gone, or once a row has another name in its slot.
use Rattle.request_ends.proofs.Common.{◌≡◌, ◌≢◌, ℕ, ◌<◌, ◌≤◌, ◌⊎◌, true, List, [], ◌∷◌, map, refl, sym, ap, subst, ◌∙◌, arith, inl, inr, None, nat_lt, get, cases_eq, nat_tests, Block, VolumeShape, BlockWords, Seen, IsIno, Kept, numbers, State, Held, held_of, held_ino, IsName, Placed, placed_at, volume_layout, SamePlaced, Applied, ReadsAs, TreeRule, node_blocks, InOrder}
use Rattle.directories.specs.Plans.{PlansDir}
use Rattle.directories.specs.Rows.{IsEntry}
use Rattle.directories.specs.declared.changes.DirChange.{DirChange}
use Rattle.rio_requests.specs.Answers.{moved, without}
use Rattle.directories.specs.RowChanges.{RemovesRow, ReplacesRow, SetsRow}
use Rattle.region_view.proofs.UsedInodes.{kind_held}
use Rattle.std.specs.Prelude.{cond}
use Rattle.node_updates.specs.Changes.{AllApplied, IsGone, IsTouchedBy, change_update, of_dir}
use Rattle.node_updates.proofs.EmptyHeld.{empty_held}
use Rattle.node_moving.proofs.ReadSteps.{DropsRow, RenamesRow, gone_as, renamed_as}
use Rattle.node_updates.specs.declared.changes.NodeChange.{NodeChange}
use Rattle.node_updates.proofs.Blocks.{still_all, still_own}
use Rattle.node_updates.proofs.Ended.{Reaches}
use Rattle.node_updates.proofs.Steps.{Steps, gone_step}
use Rattle.node_updates.proofs.Stood.{Stood, stood_step}
use Rattle.node_updates.proofs.Reached.{Prepared, order_now, held_now, unnamed_touch, reached}

-- ---- a row less, and its node

-- a directory's size once a plan is made
plan_size : (shape : VolumeShape) (f : BlockWords) (y : Seen) (j : Kept) (d : ℕ) (becomes : Held → Held → Type 0) (c : DirChange) (p : PlansDir shape f y j d becomes c) → IsIno shape d → p.holds.size ≤ (held_of shape f d).size → p.node.size ≤ (placed_at f d).size
plan_size shape f y j d becomes c p ino less =
    let made = ap (λ (h : Held). h.size) (p.made y.words (λ s has w. refl)) in
    let now : p.node.size ≡ p.holds.size = sym (counted p.node p.is_dir) ∙ made in
    let was : (held_of shape f d).size ≡ (placed_at f d).size = ap (λ (h : Held). h.size) (held_ino (volume_layout shape f) f d ino) ∙ counted (placed_at f d) p.was_dir in
    omega (arith, now, was, less)
  where
    counted : (n : Placed) → n.kind ≡ 1 → cond (nat_lt 0 n.kind) n.size 0 ≡ n.size
    counted n dir = let test : nat_lt 0 n.kind ≡ true = grind (arith, nat_tests, dir) in ap (λ b. cond b n.size 0) test

pub less_removed : (shape : VolumeShape) (x y : Seen) (j : Kept) (d slot : ℕ) (c : DirChange) (h : Stood shape x y j d (RemovesRow slot) c) → IsIno shape d → h.plan.node.size ≤ (placed_at h.was d).size
less_removed shape x y j d slot c h ino = plan_size shape h.was h.seen h.kept d (RemovesRow slot) c h.plan ino (let e = h.plan.does.sized in omega (arith, e))

pub less_set : (shape : VolumeShape) (x y : Seen) (j : Kept) (d slot : ℕ) (name : List ℕ) (i : ℕ) (c : DirChange) (h : Stood shape x y j d (SetsRow slot name i) c) → IsIno shape d → h.plan.node.size ≤ (placed_at h.was d).size
less_set shape x y j d slot name i c h ino = plan_size shape h.was h.seen h.kept d (SetsRow slot name i) c h.plan ino (let e = h.plan.does.sized in omega (arith, e))

pub less_replaced : (shape : VolumeShape) (x y : Seen) (j : Kept) (d slot i last : ℕ) (c : DirChange) (h : Stood shape x y j d (ReplacesRow slot i last) c) → IsIno shape d → h.plan.node.size ≤ (placed_at h.was d).size
less_replaced shape x y j d slot i last c h ino = plan_size shape h.was h.seen h.kept d (ReplacesRow slot i last) c h.plan ino (let e = h.plan.does.sized in omega (arith, e))

-- a node goes after rows of directory d changed
pub gone_after : (shape : VolumeShape) (x : Seen) (k : Kept) (y : Seen) (j : Kept) (z : Seen) (changes : List NodeChange) (i : ℕ) (blocks : List Block) (m : NodeChange) (h h2 : BlockWords) → Prepared shape x k y j z changes → InOrder shape h z j → SamePlaced (placed_at y.words i) (placed_at h i) → IsGone i blocks m → IsIno shape i → i ≢ 1 → 0 < (held_of shape x.words i).kind → numbers blocks ≡ node_blocks (placed_at y.words i) → Applied shape (change_update m) h h2 → Steps shape h h2 i z j × (held_of shape h2 i ≡ empty_held 0)
gone_after shape x k y j z changes i blocks m h h2 p order lies gone ino other used is a =
    gone_step shape h h2 i blocks m z j order gone ino other (still_all (placed_at y.words i) (placed_at h i) blocks is lies)
    (still_own (placed_at y.words i) (placed_at h i) blocks is lies (let k = sym (kind_held shape y.words i ino) ∙ ap (λ (n : Held). n.kind) (held_now shape x k y j z changes p i) in omega (arith, k, used))) a

pub reaches_gone : (shape : VolumeShape) (x : Seen) (k : Kept) (y : Seen) (j : Kept) (z : Seen) (s : State) (d slot : ℕ) (name : List ℕ) (i : ℕ) (blocks : List Block) (c : DirChange) (m : NodeChange) (g : BlockWords) → Prepared shape x k y j z (of_dir c ∷ m ∷ []) → ReadsAs shape x.words s → Stood shape x y j d (RemovesRow slot) c → IsGone i blocks m → numbers blocks ≡ node_blocks (placed_at y.words i) → IsIno shape d → IsIno shape i → (held_of shape x.words d).kind ≡ 1 → IsEntry (held_of shape x.words d) slot name i → 0 < (held_of shape x.words i).kind → ((held_of shape x.words i).kind ≡ 1 → (held_of shape x.words i).size ≡ 0) → TreeRule (without s d name i) → i ≢ 1 → i ≢ d → AllApplied shape (map change_update (of_dir c ∷ m ∷ [])) y.words g → Reaches shape x.words z j (of_dir c ∷ m ∷ []) g (without s d name i)
reaches_gone shape x k y j z s d slot name i blocks c m g p reads plan gone is dno ino dir entry used bare tree other away (h, a1, (h2, a2, e)) =
    reached shape x k y j z changes g _ p (h, a1, (h2, a2, e)) order (gone_as shape x.words g s d slot name i reads order.mapped tree drops) stays
  where
    changes : List NodeChange
    changes = of_dir c ∷ m ∷ []

    first : Steps shape y.words h d z j × RemovesRow slot (held_of shape x.words d) (held_of shape h d)
    first = stood_step shape x y j d (RemovesRow slot) c (IsTouchedBy changes) z y.words h plan (unnamed_touch changes) p.touched.caches (order_now shape x k y j z changes p) (held_now shape x k y j z changes p d) plan.may a1

    second : Steps shape h h2 i z j × (held_of shape h2 i ≡ empty_held 0)
    second = gone_after shape x k y j z changes i blocks m h h2 p first.0.order (first.0.lies i ino away) gone ino other used is a2

    order : InOrder shape g z j
    order = subst (λ f. InOrder shape f z j) (sym e) second.0.order

    others : (n : ℕ) → n ≢ d → n ≢ i → held_of shape h2 n ≡ held_of shape x.words n
    others n off_d off_i = second.0.others n off_i ∙ first.0.others n off_d ∙ held_now shape x k y j z changes p n

    drops : DropsRow (held_of shape x.words) (held_of shape g) d slot name i
    drops = subst (λ f. DropsRow (held_of shape x.words) (held_of shape f) d slot name i) (sym e) (record {
      dir = dir;
      entry = entry;
      bare = bare;
      row = subst (RemovesRow slot (held_of shape x.words d)) (sym (second.0.others d (λ same. away (sym same)))) first.1;
      gone = second.1;
      others = others;
    })

    stays : (n : ℕ) → (held_of shape g n ≡ held_of shape x.words n) ⊎ ((held_of shape g n).kind ≢ 3)
    stays n = subst (λ f. (held_of shape f n ≡ held_of shape x.words n) ⊎ ((held_of shape f n).kind ≢ 3)) (sym e) (by (cases_eq n d) (cases_eq n i))
      where
        by : (n ≡ d) ⊎ (n ≢ d) → (n ≡ i) ⊎ (n ≢ i) → (held_of shape h2 n ≡ held_of shape x.words n) ⊎ ((held_of shape h2 n).kind ≢ 3)
        by (inl on) _ = inr (λ three. (let one : (held_of shape h2 n).kind ≡ 1 = ap (λ q. (held_of shape h2 q).kind) on ∙ ap (λ (q : Held). q.kind) (second.0.others d (λ same. away (sym same))) ∙ first.1.dir in omega (arith, one, three)))
        by (inr off) (inl on) = inr (λ three. (let low : (held_of shape h2 n).kind ≡ 0 = ap (λ q. (held_of shape h2 q).kind) on ∙ ap (λ (q : Held). q.kind) second.1 in omega (arith, low, three)))
        by (inr off) (inr off_i) = inl (others n off off_i)

-- ---- a row of another name in its slot

-- names of cached pages are right once it is made, whatever the names come to
pub order_renamed : (shape : VolumeShape) (x : Seen) (k : Kept) (y : Seen) (j : Kept) (z : Seen) (d slot : ℕ) (b : List ℕ) (i : ℕ) (c : DirChange) (g : BlockWords) → Prepared shape x k y j z (of_dir c ∷ []) → Stood shape x y j d (SetsRow slot b i) c → AllApplied shape (map change_update (of_dir c ∷ [])) y.words g → InOrder shape g z j
order_renamed shape x k y j z d slot b i c g p plan (h, a1, e) = subst (λ f. InOrder shape f z j) (sym e) first.0.order
  where
    changes : List NodeChange
    changes = of_dir c ∷ []

    first : Steps shape y.words h d z j × SetsRow slot b i (held_of shape x.words d) (held_of shape h d)
    first = stood_step shape x y j d (SetsRow slot b i) c (IsTouchedBy changes) z y.words h plan (unnamed_touch changes) p.touched.caches (order_now shape x k y j z changes p) (held_now shape x k y j z changes p d) plan.may a1

pub reaches_renamed : (shape : VolumeShape) (x : Seen) (k : Kept) (y : Seen) (j : Kept) (z : Seen) (s : State) (d slot : ℕ) (a b : List ℕ) (i : ℕ) (c : DirChange) (g : BlockWords) → Prepared shape x k y j z (of_dir c ∷ []) → ReadsAs shape x.words s → Stood shape x y j d (SetsRow slot b i) c → (held_of shape x.words d).kind ≡ 1 → IsEntry (held_of shape x.words d) slot a i → IsName b → get s.names (d, b) ≡ None → TreeRule (moved s d a d b i) → AllApplied shape (map change_update (of_dir c ∷ [])) y.words g → Reaches shape x.words z j (of_dir c ∷ []) g (moved s d a d b i)
reaches_renamed shape x k y j z s d slot a b i c g p reads plan dir entry named absent tree (h, a1, e) =
    reached shape x k y j z changes g _ p (h, a1, e) order (renamed_as shape x.words g s d slot a b i reads order.mapped tree absent named renames) stays
  where
    changes : List NodeChange
    changes = of_dir c ∷ []

    first : Steps shape y.words h d z j × SetsRow slot b i (held_of shape x.words d) (held_of shape h d)
    first = stood_step shape x y j d (SetsRow slot b i) c (IsTouchedBy changes) z y.words h plan (unnamed_touch changes) p.touched.caches (order_now shape x k y j z changes p) (held_now shape x k y j z changes p d) plan.may a1

    order : InOrder shape g z j
    order = subst (λ f. InOrder shape f z j) (sym e) first.0.order

    others : (n : ℕ) → n ≢ d → held_of shape h n ≡ held_of shape x.words n
    others n off = first.0.others n off ∙ held_now shape x k y j z changes p n

    renames : RenamesRow (held_of shape x.words) (held_of shape g) d slot a b i
    renames = subst (λ f. RenamesRow (held_of shape x.words) (held_of shape f) d slot a b i) (sym e) (record { dir = dir; entry = entry; row = first.1; others = others })

    stays : (n : ℕ) → (held_of shape g n ≡ held_of shape x.words n) ⊎ ((held_of shape g n).kind ≢ 3)
    stays n = subst (λ f. (held_of shape f n ≡ held_of shape x.words n) ⊎ ((held_of shape f n).kind ≢ 3)) (sym e) (by (cases_eq n d))
      where
        by : (n ≡ d) ⊎ (n ≢ d) → (held_of shape h n ≡ held_of shape x.words n) ⊎ ((held_of shape h n).kind ≢ 3)
        by (inl on) = inr (λ three. (let one : (held_of shape h n).kind ≡ 1 = ap (λ q. (held_of shape h q).kind) on ∙ first.1.dir in omega (arith, one, three)))
        by (inr off) = inl (others n off)
