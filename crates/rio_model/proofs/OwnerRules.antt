-- What a block's owner says of the names that its entry may bear, and of whether its page is stale.
use Rattle.rio_model.proofs.Common.{◌≡◌, ◌≢◌, ℕ, ◌<◌, ◌∙◌, false, true, List, Bool, Option, None, arith, inl, inr, refl, subst, sym, reserved}
use Rattle.std.specs.Prelude.{slice_index_or}
use Rattle.rio_base.specs.declared.places.PageName.{PageName}
use Rattle.rio_model.specs.declared.census.Owner.{Owner}
use Rattle.rio_model.specs.declared.census.Owner.TheVariants.{Nobody, PageOf, TableOf}
use Rattle.rio_model.specs.Censuses.{OwnerIs}
use Rattle.rio_model.specs.Placed.{AtPage, AtTable, Layout, Owned, Owns, Slot}
use Rattle.rio_model.specs.Registry.{IsValid, is_data, tag_at, tag_block}
use Rattle.rio_model.specs.Standing.{AreStale, IsWanted, MayBear}
use Rattle.rio_model.specs.VolumeReady.{Bears}
use Rattle.rio_model.specs.VolumeRules.{IsLaid}

-- ---- names

-- what the owner of block b asks of a name
abbrev pub OwnerLets : Layout → ℕ → Owner → Option PageName → Type 0
OwnerLets l b Nobody name = b < reserved l.shape → name ≡ None
OwnerLets l b (PageOf i p) name = Bears i.0 (l.node i.0) (AtPage p) name
OwnerLets l b (TableOf i t) name = name ≡ None

one_owner : (l : Layout) (b i : ℕ) (s : Slot) (name : Option PageName) → IsLaid l → Owns l i s → (l.node i).block s ≡ b → Bears i (l.node i) s name → MayBear l b name
one_owner l b i s name h own is lets = record {
  low = λ low. absurd (let from = (h.numbers.each i own.ino s own.slot).0 in omega (arith, from, is, low));
  owned = λ j t other at.
      let same = h.once.each i j s t own other (is ∙ sym at) in
      subst (λ x. Bears x (l.node x) t name) same.0 (subst (λ x. Bears i (l.node i) x name) same.1 lets);
}

pub may_bear_by_owner : (l : Layout) (b : ℕ) (owner : Owner) (name : Option PageName) → IsLaid l → OwnerIs l b owner → OwnerLets l b owner name → MayBear l b name
may_bear_by_owner l b Nobody name h is lets = record { low = lets; owned = λ i s own at. absurd (is (record { node = i; slot = s; owns = own; is = at })) }
may_bear_by_owner l b (PageOf i p) name h is lets = one_owner l b i.0 (AtPage p) name h is.0 is.1 lets
may_bear_by_owner l b (TableOf i t) name h is lets = one_owner l b i.0 (AtTable t) name h is.0 is.1 lets

pub owner_lets : (l : Layout) (b : ℕ) (owner : Owner) (name : Option PageName) → OwnerIs l b owner → MayBear l b name → OwnerLets l b owner name
owner_lets l b Nobody name is h = h.low
owner_lets l b (PageOf i p) name is h = h.owned i.0 (AtPage p) is.0 is.1
owner_lets l b (TableOf i t) name is h = h.owned i.0 (AtTable t) is.0 is.1

-- ---- stale pages

pub owned_by : (l : Layout) (b : ℕ) (owner : Owner) → OwnerIs l b owner → owner ≢ Nobody → Owned l b
owned_by l b Nobody is some = absurd (some refl)
owned_by l b (PageOf i p) is some = record { node = i.0; slot = AtPage p; owns = is.0; is = is.1 }
owned_by l b (TableOf i t) is some = record { node = i.0; slot = AtTable t; owns = is.0; is = is.1 }

-- marks of entries of data whose block nobody has are right
pub stale_by_owner : (l : Layout) (marks : List Bool) (words : List ℕ) → ((k : ℕ) → slice_index_or marks k false ≡ true → is_data (tag_at words k) ≡ true) → ((k : ℕ) → IsValid words k → slice_index_or marks k false ≡ true → OwnerIs l (tag_block (tag_at words k)) Nobody) → AreStale l marks words
stale_by_owner l marks words of_data nobody = record {
  of_data = of_data;
  gone = λ k v marked owns is. nobody k v marked (record { node = _; slot = _; owns = owns; is = is });
}

-- and where they are of all such entries, the page of each other is wanted
pub wanted_by_owner : (l : Layout) (words : List ℕ) (k : ℕ) (owner : Owner) → OwnerIs l (tag_block (tag_at words k)) owner → (is_data (tag_at words k) ≡ true → owner ≢ Nobody) → IsWanted l words k
wanted_by_owner l words k owner is some = by (is_data (tag_at words k)) refl
  where
    by : (b : Bool) → is_data (tag_at words k) ≡ b → IsWanted l words k
    by false e = inl e
    by true e = inr (owned_by l _ owner is (some e))
