-- The state that is read once a row and a node are made.
use Rattle.request_ends.proofs.Common.{◌≡◌, ◌≢◌, ℕ, ◌≤◌, ◌⊎◌, true, List, [], ◌∷◌, map, sym, ap, subst, ◌∙◌, arith, inl, inr, None, get, cases_eq, VolumeShape, BlockWords, Seen, IsIno, Kept, State, with_new, Held, held_of, IsName, is_dir, placed_at, reads_dir, reads_none, ReadsAs, InOrder}
use Rattle.directories.specs.declared.changes.DirChange.{DirChange}
use Rattle.rio_requests.specs.Answers.{empty_node}
use Rattle.directories.specs.RowChanges.{AddsRow}
use Rattle.region_view.proofs.UsedInodes.{kind_held}
use Rattle.node_updates.specs.Changes.{AllApplied, IsMade, IsTouchedBy, change_update, of_dir}
use Rattle.node_updates.proofs.EmptyHeld.{empty_held}
use Rattle.node_making.proofs.ReadMade.{MakesRow, made_as, tree_new}
use Rattle.file_tree.proofs.ReadTrees.{rows_fit}
use Rattle.file_tree.proofs.TreeRules.{RowsFit}
use Rattle.node_updates.specs.declared.changes.NodeChange.{NodeChange}
use Rattle.node_updates.proofs.Ended.{Reaches}
use Rattle.node_updates.proofs.Steps.{Steps, made_step}
use Rattle.node_updates.proofs.Stood.{Stood, stood_step}
use Rattle.node_updates.proofs.Reached.{Prepared, order_now, held_now, unnamed_touch, reached}
use Rattle.file_tree.proofs.FreeFound.{root_held}

-- kinds that differ
pub apart_kinds : (shape : VolumeShape) (f : BlockWords) (i d a b : ℕ) → (held_of shape f i).kind ≡ a → (held_of shape f d).kind ≡ b → a ≢ b → i ≢ d
apart_kinds shape f i d a b ki kd other same = other (sym ki ∙ ap (λ n. (held_of shape f n).kind) same ∙ kd)

-- a directory of the state, and an unused inode
dir_read : (shape : VolumeShape) (f : BlockWords) (s : State) (d : ℕ) → ReadsAs shape f s → (held_of shape f d).kind ≡ 1 → is_dir (get s.nodes d) ≡ true
dir_read shape f s d reads dir = ap is_dir (reads.reads.nodes d ∙ reads_dir (held_of shape f d) dir)

pub unused_read : (shape : VolumeShape) (f : BlockWords) (s : State) (i : ℕ) → ReadsAs shape f s → (held_of shape f i).kind ≡ 0 → get s.nodes i ≡ None
unused_read shape f s i reads free = reads.reads.nodes i ∙ reads_none (held_of shape f i) free

pub fit_read : (shape : VolumeShape) (f : BlockWords) (s : State) → ReadsAs shape f s → RowsFit s
fit_read shape f s reads = rows_fit _ s reads.reads reads.entries

-- ---- a row and a node made

pub reaches_made : (shape : VolumeShape) (x : Seen) (k : Kept) (y : Seen) (j : Kept) (z : Seen) (s : State) (d : ℕ) (name : List ℕ) (i kind : ℕ) (c : DirChange) (m : NodeChange) (g : BlockWords) → Prepared shape x k y j z (of_dir c ∷ m ∷ []) → ReadsAs shape x.words s → Stood shape x y j d (AddsRow name i) c → IsMade i kind m → IsIno shape d → IsIno shape i → (held_of shape x.words d).kind ≡ 1 → (held_of shape x.words i).kind ≡ 0 → (kind ≡ 1) ⊎ (kind ≡ 2) → IsName name → get s.names (d, name) ≡ None → AllApplied shape (map change_update (of_dir c ∷ m ∷ [])) y.words g → Reaches shape x.words z j (of_dir c ∷ m ∷ []) g (with_new s d name i (empty_node kind))
reaches_made shape x k y j z s d name i kind c m g p reads plan made dno ino dir free which named absent (h, a1, (h2, a2, e)) =
    reached shape x k y j z changes g _ p (h, a1, (h2, a2, e)) order
    (made_as shape x.words g s d name i kind reads order.mapped (tree_new s d name i (empty_node kind) (fit_read shape x.words s reads) reads.tree (dir_read shape x.words s d reads dir) absent (unused_read shape x.words s i reads free)) absent named makes)
    stays
  where
    changes : List NodeChange
    changes = of_dir c ∷ m ∷ []

    away : i ≢ d
    away = apart_kinds shape x.words i d 0 1 free dir (λ e. (let f : 0 ≡ 1 = e in omega (arith, f)))

    few : kind ≤ 2
    few = elim which [ inl one ↦ omega (arith, one) | inr two ↦ omega (arith, two) ]

    first : Steps shape y.words h d z j × AddsRow name i (held_of shape x.words d) (held_of shape h d)
    first = stood_step shape x y j d (AddsRow name i) c (IsTouchedBy changes) z y.words h plan (unnamed_touch changes) p.touched.caches (order_now shape x k y j z changes p) (held_now shape x k y j z changes p d) plan.may a1

    free_now : (placed_at h i).kind ≡ 0
    free_now = sym (kind_held shape h i ino) ∙ ap (λ (n : Held). n.kind) (first.0.others i away ∙ held_now shape x k y j z changes p i) ∙ free

    second : Steps shape h h2 i z j × (held_of shape h2 i ≡ empty_held kind)
    second = made_step shape h h2 i kind m z j first.0.order made ino (apart_kinds shape x.words i 1 0 1 free (root_held shape x.words p.ready.order.mapped) (λ e. (let f : 0 ≡ 1 = e in omega (arith, f)))) free_now few a2

    order : InOrder shape g z j
    order = subst (λ f. InOrder shape f z j) (sym e) second.0.order

    others : (n : ℕ) → n ≢ d → n ≢ i → held_of shape h2 n ≡ held_of shape x.words n
    others n off_d off_i = second.0.others n off_i ∙ first.0.others n off_d ∙ held_now shape x k y j z changes p n

    makes : MakesRow (held_of shape x.words) (held_of shape g) d name i kind
    makes = subst (λ f. MakesRow (held_of shape x.words) (held_of shape f) d name i kind) (sym e) (record {
      dir = dir;
      free = free;
      dir_or_file = which;
      row = subst (AddsRow name i (held_of shape x.words d)) (sym (second.0.others d (λ same. away (sym same)))) first.1;
      made = second.1;
      others = others;
    })

    stays : (n : ℕ) → (held_of shape g n ≡ held_of shape x.words n) ⊎ ((held_of shape g n).kind ≢ 3)
    stays n = subst (λ f. (held_of shape f n ≡ held_of shape x.words n) ⊎ ((held_of shape f n).kind ≢ 3)) (sym e) (by (cases_eq n d) (cases_eq n i))
      where
        by : (n ≡ d) ⊎ (n ≢ d) → (n ≡ i) ⊎ (n ≢ i) → (held_of shape h2 n ≡ held_of shape x.words n) ⊎ ((held_of shape h2 n).kind ≢ 3)
        by (inl on) _ = inr (λ three. (let one : (held_of shape h2 n).kind ≡ 1 = ap (λ q. (held_of shape h2 q).kind) on ∙ ap (λ (q : Held). q.kind) (second.0.others d (λ same. away (sym same))) ∙ first.1.dir in omega (arith, one, three)))
        by (inr off) (inl on) = inr (λ three. (let low : (held_of shape h2 n).kind ≡ kind = ap (λ q. (held_of shape h2 q).kind) on ∙ ap (λ (q : Held). q.kind) second.1 in omega (arith, low, three, few)))
        by (inr off) (inr off_i) = inl (others n off off_i)
