-- Names of cached pages, under two layouts that say the same.
use Rattle.rio_model.proofs.Common.{◌≡◌, ℕ, ◌<◌, true, Option, Some, None, sym, subst, ◌∙◌, BlockWords}
use Rattle.rio_base.specs.declared.places.PageName.{PageName}
use Rattle.rio_base.specs.Blocks.{Seen}
use Rattle.rio_model.specs.Placed.{AtPage, AtTable, Layout, Placed, SamePlaced, Slot, volume_layout}
use Rattle.rio_model.specs.VolumeReady.{AllNamed, Bears, NamesPage}
use Rattle.rio_model.proofs.PlacedRules.{SameLayout, has_back}

pub bears_same : (i : ℕ) (n m : Placed) (s : Slot) (name : Option PageName) → SamePlaced n m → 0 < n.kind → Bears i n s name → Bears i m s name
bears_same i n m (AtTable k) name e used h = h
bears_same i n m (AtPage p) None e used h = e.kind ∙ h
bears_same i n m (AtPage p) (Some name) e used h = ((λ dir. h.0 (sym e.kind ∙ dir)), subst (λ z. NamesPage i z p name) (sym (e.size used)) h.1)

pub named_layout : (l : Layout) (g : BlockWords) (x : Seen) → SameLayout l (volume_layout l.shape g) → AllNamed l x → AllNamed (volume_layout l.shape g) x
named_layout l g x e h = record {
  each = λ i ino s has on.
      let same = e.each i ino in
      let was = has_back (l.node i) _ s same has in
      let at = same.blocks s was in
      bears_same i (l.node i) _ s _ same was.used (subst (λ b. Bears i (l.node i) s (x.names b)) (sym at) (h.each i ino s was (subst (λ b. x.cached b ≡ true) at on)));
}
