-- One region's words change, and with them its node and its transaction: what is held then, and what a stop leaves.
use Rattle.rio_core.proofs.Common.{◌≡◌, ◌≢◌, ℕ, ◌⊎◌, inl, inr, Bool, Option, Some, refl, sym, ap, subst, ◌∙◌, get, cases_eq, RegionContent, Node, Region, RegionNode, State, Txn, Held, region_in, OneEach, crashed, get_undone, undone_node, txn_at, with_region, Marks, mark_of, set_mark}
use Rattle.std.proofs.Common.{length}
use Rattle.std.specs.FinMap.{insert}
use Rattle.rio_model.specs.Nodes.{Nodes}
use Rattle.rio_model.proofs.NodeOrder.{same_nodes}
use Rattle.rio_model.proofs.StateSteps.{get_here, get_there}
use Rattle.rio_requests.specs.Crash.{undo_all}
use Rattle.rio_requests.specs.Transactions.{set_txn}
use Rattle.rio_core.proofs.RegionsLaws.{IsOn, RegionMoves, mark_in}
use Rattle.rio_core.specs.Regions.{RegionHeld, RegionsHeld, marks_of}
use Rattle.rio_core.proofs.HeldRules.{held_mark, held_on, held_sized, held_undone}
use Rattle.rio_core.proofs.RowRules.{mark_at, marks_set, once_set, txn_beside, txn_set}

pub held_as : (i : ℕ) (w : RegionContent) (m k : Option Bool) (r q : RegionNode) (o u : Option Txn) → m ≡ k → r ≡ q → o ≡ u → RegionHeld i w m r o → RegionHeld i w k q u
held_as i w m k r q o u a b c h = subst (λ (x : Option Bool). RegionHeld i w x q u) a (subst (λ (x : RegionNode). RegionHeld i w m x u) b (subst (λ (x : Option Txn). RegionHeld i w m r x) c h))

pub same_region : (a b : RegionNode) (n : Option Node) → n ≡ Some (Region a) → n ≡ Some (Region b) → a ≡ b
same_region a b n x y = cc (x, y)

-- ---- the state changes as its words say

pub region_steps : (h k : ℕ → Held) (marks : Marks) (s : State) (i : ℕ) (mark : Option Bool) (r : RegionNode) (o : Option Txn) → RegionsHeld h marks s → ((j : ℕ) → j ≢ i → k j ≡ h j) → RegionHeld i (k i).word mark r o → RegionsHeld k (set_mark marks i mark) (with_region s i r o)
region_steps h k marks s i mark r o held others own = record {
  marked = rows;
  open_regions = record { once = once_set s.txns i o held.open_regions.once on; each = λ j t is. held_txn j t is (cases_eq j i) };
  each = λ j q is. one j q is (cases_eq j i);
}
  where
    on : IsOn i o
    on = held_on i (k i).word mark r o own

    rows : set_mark marks i mark ≡ marks_of (set_txn s.txns i o)
    rows = ap (λ (ms : Marks). set_mark ms i mark) held.marked ∙ ap (set_mark (marks_of s.txns) i) (sym (held_mark i (k i).word mark r o own)) ∙ sym (marks_set s.txns i o on)

    here : txn_at (set_txn s.txns i o) i ≡ o
    here = txn_set s.txns i o held.open_regions.once on

    mark_here : mark_of (set_mark marks i mark) i ≡ mark
    mark_here = ap (λ (ms : Marks). mark_of ms i) rows ∙ mark_at (set_txn s.txns i o) i ∙ ap mark_in here ∙ held_mark i (k i).word mark r o own

    mark_there : (j : ℕ) → j ≢ i → mark_of (set_mark marks i mark) j ≡ mark_of marks j
    mark_there j away = ap (λ (ms : Marks). mark_of ms j) rows ∙ mark_at (set_txn s.txns i o) j ∙ ap mark_in (txn_beside s.txns i j o on away) ∙ sym (mark_at s.txns j) ∙ sym (ap (λ (ms : Marks). mark_of ms j) held.marked)

    held_txn : (j : ℕ) (t : Txn) → txn_at (set_txn s.txns i o) j ≡ Some t → (j ≡ i) ⊎ (j ≢ i) → (q : RegionNode) × (get (insert s.nodes i (Region r)) j ≡ Some (Region q)) × (length t.before ≡ length q.words)
    held_txn j t is (inl e) = (r, ap (get (insert s.nodes i (Region r))) e ∙ get_here s.nodes i (Region r), held_sized i (k i).word mark r o own t (sym here ∙ ap (txn_at (set_txn s.txns i o)) (sym e) ∙ is))
    held_txn j t is (inr away) = let was = held.open_regions.each j t (sym (txn_beside s.txns i j o on away) ∙ is) in (was.0, get_there s.nodes i (Region r) j away ∙ was.1, was.2)

    one : (j : ℕ) (q : RegionNode) → get (insert s.nodes i (Region r)) j ≡ Some (Region q) → (j ≡ i) ⊎ (j ≢ i) → RegionHeld j (k j).word (mark_of (set_mark marks i mark) j) q (txn_at (set_txn s.txns i o) j)
    one j q is (inl e) =
        let same : r ≡ q = same_region r q (get (insert s.nodes i (Region r)) i) (get_here s.nodes i (Region r)) (ap (get (insert s.nodes i (Region r))) (sym e) ∙ is) in
        subst (λ x. RegionHeld x (k x).word (mark_of (set_mark marks i mark) x) q (txn_at (set_txn s.txns i o) x)) (sym e) (held_as i (k i).word mark (mark_of (set_mark marks i mark) i) r q o (txn_at (set_txn s.txns i o) i) (sym mark_here) same (sym here) own)
    one j q is (inr away) =
        let was = held.each j q (sym (get_there s.nodes i (Region r) j away) ∙ is) in
        held_as j (k j).word (mark_of marks j) (mark_of (set_mark marks i mark) j) q q (txn_at s.txns j) (txn_at (set_txn s.txns i o) j) (sym (mark_there j away)) refl (sym (txn_beside s.txns i j o on away)) (subst (λ (x : Held). RegionHeld j x.word (mark_of marks j) q (txn_at s.txns j)) (sym (others j away)) was)

-- ---- the state stays as it is

pub region_stays : (h k : ℕ → Held) (marks : Marks) (s : State) (i : ℕ) → RegionsHeld h marks s → ((j : ℕ) → j ≢ i → k j ≡ h j) → ((r : RegionNode) → get s.nodes i ≡ Some (Region r) → RegionHeld i (k i).word (mark_of marks i) r (txn_at s.txns i)) → RegionsHeld k marks s
region_stays h k marks s i held others own = record { marked = held.marked; open_regions = held.open_regions; each = λ j q is. one j q is (cases_eq j i) }
  where
    one : (j : ℕ) (q : RegionNode) → get s.nodes j ≡ Some (Region q) → (j ≡ i) ⊎ (j ≢ i) → RegionHeld j (k j).word (mark_of marks j) q (txn_at s.txns j)
    one j q is (inl e) = subst (λ x. RegionHeld x (k x).word (mark_of marks x) q (txn_at s.txns x)) (sym e) (own q (ap (get s.nodes) (sym e) ∙ is))
    one j q is (inr away) = subst (λ (x : Held). RegionHeld j x.word (mark_of marks j) q (txn_at s.txns j)) (sym (others j away)) (held.each j q is)

-- ---- what a stop leaves

moved_by : (s : State) (m n : Nodes) → ((j : ℕ) → get m j ≡ get n j) → record (crashed s) { nodes = m } ≡ record (crashed s) { nodes = n }
moved_by s m n same = ap (λ (x : Nodes). record (crashed s) { nodes = x }) (same_nodes m n same)

-- of the changed state: the region as its words undo to
pub region_crashes : (s : State) (i : ℕ) (w : RegionContent) (mark : Option Bool) (r : RegionNode) (o : Option Txn) → OneEach s.txns → RegionHeld i w mark r o → RegionMoves i w s (with_region s i r o)
region_crashes s i w mark r o once own = moved_by s (undo_all (set_txn s.txns i o) (insert s.nodes i (Region r))) (insert (undo_all s.txns s.nodes) i (Region (region_in w))) (λ j. by j (cases_eq j i))
  where
    on : IsOn i o
    on = held_on i w mark r o own

    undone : (j : ℕ) → get (crashed (with_region s i r o)).nodes j ≡ undone_node (txn_at (set_txn s.txns i o) j) (get (insert s.nodes i (Region r)) j)
    undone j = get_undone (set_txn s.txns i o) (insert s.nodes i (Region r)) j (once_set s.txns i o once on)

    here : get (crashed (with_region s i r o)).nodes i ≡ Some (Region (region_in w))
    here = undone i ∙ ap (λ (u : Option Txn). undone_node u (get (insert s.nodes i (Region r)) i)) (txn_set s.txns i o once on) ∙ ap (undone_node o) (get_here s.nodes i (Region r)) ∙ held_undone i w mark r o own

    there : (j : ℕ) → j ≢ i → get (crashed (with_region s i r o)).nodes j ≡ get (crashed s).nodes j
    there j away = undone j ∙ ap (λ (u : Option Txn). undone_node u (get (insert s.nodes i (Region r)) j)) (txn_beside s.txns i j o on away) ∙ ap (undone_node (txn_at s.txns j)) (get_there s.nodes i (Region r) j away) ∙ sym (get_undone s.txns s.nodes j once)

    by : (j : ℕ) → (j ≡ i) ⊎ (j ≢ i) → get (crashed (with_region s i r o)).nodes j ≡ get (insert (crashed s).nodes i (Region (region_in w))) j
    by j (inl e) = ap (get (crashed (with_region s i r o)).nodes) e ∙ here ∙ sym (get_here (crashed s).nodes i (Region (region_in w))) ∙ ap (get (insert (crashed s).nodes i (Region (region_in w)))) (sym e)
    by j (inr away) = there j away ∙ sym (get_there (crashed s).nodes i (Region (region_in w)) j away)

-- of the same state, where the region's words undo to what they undid to
pub region_rests : (s : State) (i : ℕ) (w : RegionContent) → get (crashed s).nodes i ≡ Some (Region (region_in w)) → RegionMoves i w s s
region_rests s i w is = moved_by s (crashed s).nodes (insert (crashed s).nodes i (Region (region_in w))) (λ j. by j (cases_eq j i))
  where
    by : (j : ℕ) → (j ≡ i) ⊎ (j ≢ i) → get (crashed s).nodes j ≡ get (insert (crashed s).nodes i (Region (region_in w))) j
    by j (inl e) = ap (get (crashed s).nodes) e ∙ is ∙ sym (get_here (crashed s).nodes i (Region (region_in w))) ∙ ap (get (insert (crashed s).nodes i (Region (region_in w)))) (sym e)
    by j (inr away) = sym (get_there (crashed s).nodes i (Region (region_in w)) j away)
