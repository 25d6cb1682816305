-- Blocks read as at most one state.
use Rattle.rio_model.proofs.Common.{◌≡◌, ℕ, List, Option, refl, sym, subst, ◌∙◌, get, VolumeShape, BlockWords}
use Rattle.std.proofs.Common.{Some, None}
use Rattle.rio_model.specs.declared.state.State.{State}
use Rattle.rio_model.specs.Held.{Held, held_of}
use Rattle.rio_model.specs.Names.{NameKey}
use Rattle.rio_model.specs.VolumeReads.{Reads, ReadsAs}
use Rattle.rio_model.proofs.NameOrder.{same_names}
use Rattle.rio_model.proofs.NodeOrder.{same_nodes}

-- an entry's inode is what both say of its name
on_name : (held : ℕ → Held) (s t : State) (d : ℕ) (name : List ℕ) (i : ℕ) → Reads held s → Reads held t → get s.names (d, name) ≡ Some i → get t.names (d, name) ≡ Some i
on_name held s t d name i h k e =
    let at = h.names d name i e in
    let one = h.entries d at.0 at.1 in
    let other = k.entries d at.0 at.1 in
    subst (λ n. get t.names (d, n) ≡ Some i) at.2 (other ∙ sym one ∙ subst (λ n. get s.names (d, n) ≡ Some i) (sym at.2) e)

one_name : (held : ℕ → Held) (s t : State) (d : ℕ) (name : List ℕ) (a b : Option ℕ) → Reads held s → Reads held t → get s.names (d, name) ≡ a → get t.names (d, name) ≡ b → a ≡ b
one_name held s t d name None None h k x y = refl
one_name held s t d name None (Some j) h k x y = sym x ∙ on_name held t s d name j k h y
one_name held s t d name (Some i) b h k x y = sym (on_name held s t d name i h k x) ∙ y

pub one_reading : (held : ℕ → Held) (s t : State) → Reads held s → Reads held t → s.shape ≡ t.shape → s.pages ≡ t.pages → s.scratch ≡ t.scratch → s ≡ t
one_reading held s t h k shape pages scratch =
    let names : s.names ≡ t.names = same_names _ _ (λ (q : NameKey). one_name held s t q.0 q.1 _ _ h k refl refl) in
    let nodes : s.nodes ≡ t.nodes = same_nodes _ _ (λ i. h.nodes i ∙ sym (k.nodes i)) in
    let txns : s.txns ≡ t.txns = h.idle ∙ sym k.idle in
    λ i. record { names = names i; nodes = nodes i; txns = txns i; shape = shape i; pages = pages i; scratch = scratch i }

pub one_state : (shape : VolumeShape) (f : BlockWords) (s t : State) → ReadsAs shape f s → ReadsAs shape f t → s.pages ≡ t.pages → s.scratch ≡ t.scratch → s ≡ t
one_state shape f s t h k pages scratch = one_reading (held_of shape f) s t h.reads k.reads (h.sizes ∙ sym k.sizes) pages scratch
