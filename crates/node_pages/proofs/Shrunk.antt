-- A node that shrinks: an update that stores its inode and frees its last blocks turns it into the shrunk one.
use Rattle.node_pages.proofs.Common.{◌≡◌, ℕ, ◌-◌, ◌/◌, ◌^◌, ◌<◌, ◌≤◌, ◌⊎◌, List, [], map, sym, ap, subst, ◌∙◌, arith, inl, inr, slice_index, AllByRecursion, Contains, VolumeShape, BlockWords, IsIno, reserved, numbers, Inode, same_old, shrunk_has, Slot, AtPage, AtTable, Placed, HasSlot, placed_at, volume_layout, first_table, later_of, pages, tables, Turns, edited, IsLaid, NodeFits, SizeFits}
use Rattle.rio_base.specs.Layout.{half}
use Rattle.rio_model.specs.NodeChanges.{shrunk}
use Rattle.rio_model.proofs.PlacedRules.{cases_lt, node_fits}
use Rattle.rio_model.specs.Updates.{EditsNode}
use Rattle.node_pages.specs.Changes.{PlansFor, given_node, planned_node, size_update, word_edit}
use Rattle.node_pages.specs.declared.changes.Edit.{Edit}
use Rattle.node_pages.specs.declared.changes.SizeChange.{SizeChange}
use Rattle.node_pages.proofs.Given.{Given, given_of}
use Rattle.node_pages.proofs.Grown.{direct_half, indirect_half, inode_word_is}

-- what the parts of it gave
pub record MadeShrunk (shape : VolumeShape) (f : BlockWords) (i : ℕ) (given : Inode) (len : ℕ) (c : SizeChange) : Type 0 where
  pub laid : IsLaid (volume_layout shape f)
  pub ino : IsIno shape i
  pub plans : PlansFor f i given
  pub less : len ≤ given.size
  pub fits : SizeFits given.kind len
  pub kind : c.inode.kind ≡ given.kind
  pub size : c.inode.size ≡ len
  pub direct : c.inode.direct ≡ given.direct
  pub indirect : c.inode.indirect ≡ given.indirect
  pub edits : c.edits ≡ []
  pub taken : numbers c.taken ≡ []
  pub loses : (s : Slot) → HasSlot (given_node f i given) s → (HasSlot (shrunk (given_node f i given) len) s → ⊥) → Contains (numbers c.freed) ((placed_at f i).block s)
  pub freed : (b : ℕ) → Contains (numbers c.freed) b → (s : Slot) × HasSlot (given_node f i given) s × ((placed_at f i).block s ≡ b) × (HasSlot (shrunk (given_node f i given) len) s → ⊥)

pub made_shrinks : (shape : VolumeShape) (f : BlockWords) (i : ℕ) (given : Inode) (len : ℕ) (c : SizeChange) → MadeShrunk shape f i given len c → Turns shape (placed_at f i) (planned_node f i given len c) (size_update i c)
made_shrinks shape f i given len c h = record {
  shape_fits = h.laid.shape_fits;
  ino = h.ino;
  old_fits = was_fits;
  new_fits = record {
    kind = kind_of h.plans;
    size = λ used. h.fits;
    from = λ s hs. subst (λ b. reserved shape ≤ b) (sym (same s hs)) (was_fits.from s (back s hs));
    to = λ s hs. subst (λ (b : ℕ). b < shape.blocks) (sym (same s hs)) (was_fits.to s (back s hs));
    apart = λ s t hs ht e. was_fits.apart s t (back s hs) (back t ht) (sym (same s hs) ∙ e ∙ same t ht);
  };
  gains = λ s hs. inl (s, back s hs, sym (same s hs));
  loses = λ s hs. elim (decided s (g.on s hs)) [
    | inl still ↦ inl (s, still, same s still)
    | inr gone ↦ inr (h.loses s (g.on s hs) (λ e. gone (as_planned s e)))
  ];
  taken = λ b on. absurd (none b (subst (λ xs. Contains xs b) h.taken on));
  freed = λ b on. let at = h.freed b on in ((at.0, g.back at.0 at.1, at.2), λ t ht e. at.3 (subst (HasSlot (shrunk n len)) (was_fits.apart t at.0 (back t ht) (g.back at.0 at.1) (sym (same t ht) ∙ e ∙ sym at.2)) (as_shrunk t ht)));
  edits = subst (λ es. AllByRecursion (EditsNode m) (map word_edit es)) (sym h.edits) tt;
  kind = inode_word_is c.inode 0 (omega arith) ∙ h.kind;
  size = inode_word_is c.inode 1 (omega arith) ∙ h.size;
  direct = λ p few hs. direct_half c.inode p (m.block (AtPage p)) few (direct_of p few hs) (fits32 (AtPage p) hs)
      (λ odd. let before : HasSlot m (AtPage (p - 1)) = record { used = hs.used; within = (let within : p < pages len = hs.within in omega (arith, within)) } in subst (λ (x : ℕ). x < 2 ^ 32) (sym (direct_of (p - 1) (omega (arith, few)) before)) (fits32 (AtPage (p - 1)) before));
  indirect = λ k hs. indirect_half c.inode (m.block (AtTable k)) (h.indirect ∙ g.indirect k (in_given (AtTable k) hs) ∙ sym (same (AtTable k) hs)) (fits32 (AtTable k) hs);
  later = λ k lies p past hs. ap (λ es. half_at k es p) h.edits ∙ ap (λ b. half (k b ((p - 24) / 2)) p) (same (AtTable 0) (first_table m p hs past)) ∙ later_of k i (placed_at f i) p lies past (back (AtPage p) hs) ∙ sym (same (AtPage p) hs);
}
  where
    n : Placed
    n = given_node f i given

    m : Placed
    m = planned_node f i given len c

    g : Given f i given
    g = given_of f i given h.plans

    half_at : BlockWords → List Edit → ℕ → ℕ
    half_at k es p = half (edited k (map word_edit es) (m.block (AtTable 0)) ((p - 24) / 2)) p

    was_fits : NodeFits shape (placed_at f i)
    was_fits = node_fits (volume_layout shape f) i h.laid h.ino

    kind_of : PlansFor f i given → given.kind ≤ 3
    kind_of (inl own) = subst (λ (k : ℕ). k ≤ 3) (sym own.0.kind) (h.laid.kinds.each i h.ino).0
    kind_of (inr new) = new.3

    as_shrunk : (s : Slot) → HasSlot m s → HasSlot (shrunk n len) s
    as_shrunk s hs = record { used = hs.used; within = hs.within }

    as_planned : (s : Slot) → HasSlot (shrunk n len) s → HasSlot m s
    as_planned s hs = record { used = hs.used; within = hs.within }

    in_given : (s : Slot) → HasSlot m s → HasSlot n s
    in_given s hs = shrunk_has n len s h.less (as_shrunk s hs)

    back : (s : Slot) → HasSlot m s → HasSlot (placed_at f i) s
    back s hs = g.back s (in_given s hs)

    same : (s : Slot) → HasSlot m s → m.block s ≡ (placed_at f i).block s
    same s hs = same_old n len (numbers c.taken) s (in_given s hs)

    fits32 : (s : Slot) → HasSlot m s → m.block s < 2 ^ 32
    fits32 s hs = let to = was_fits.to s (back s hs) in let most = h.laid.shape_fits.blocks_to in let is = same s hs in omega (arith, to, most, is)

    direct_of : (p : ℕ) → p < 24 → HasSlot m (AtPage p) → slice_index c.inode.direct p ≡ m.block (AtPage p)
    direct_of p few hs = ap (λ (xs : List ℕ). slice_index xs p) h.direct ∙ g.direct p few (in_given (AtPage p) hs) ∙ sym (same (AtPage p) hs)

    none : (b : ℕ) → Contains [] b → ⊥
    none b (k, few, e) = omega (arith, few)

    decided : (s : Slot) → HasSlot n s → HasSlot m s ⊎ (HasSlot m s → ⊥)
    decided (AtPage p) hs = elim (cases_lt p (pages len)) [ inl in_m ↦ inl (record { used = hs.used; within = in_m.0 }) | inr out ↦ inr (λ hm. let within : p < pages len = hm.within in let past = out.0 in omega (arith, within, past)) ]
    decided (AtTable k) hs = elim (cases_lt k (tables len)) [ inl in_m ↦ inl (record { used = hs.used; within = in_m.0 }) | inr out ↦ inr (λ hm. let within : k < tables len = hm.within in let past = out.0 in omega (arith, within, past)) ]
