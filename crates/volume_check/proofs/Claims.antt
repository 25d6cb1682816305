-- Which node has each block, one slot after the other.
use Rattle.volume_check.proofs.Common.{true, false, List, ap, arith, inl, inr, length, refl, slice_index_or, slice_set, subst, sym, cases_eq, ℕ, ◌+◌, ◌<◌, ◌∙◌, ◌≡◌, ◌≢◌, ◌≤◌, ◌⊎◌, get_or-set_other, get_or-set_same, length-set, slice_index, None, Option, Some, Block, Ino, IsIno, AtPage, AtTable, HasSlot, Layout, Owns, Slot, pages}
use Rattle.std.proofs.Common.{drop, replicate, suc, take, zero, ◌++◌}
use Rattle.std.proofs.lemmas.List.{get_or_default, length-replicate, take_at}
use Rattle.std.specs.Prelude.{IfSome}
use Rattle.rio_model.specs.declared.census.Owner.{Owner}
use Rattle.rio_model.specs.declared.census.Owner.TheVariants.{Nobody, PageOf, TableOf}
use Rattle.rio_model.specs.Censuses.{HasOwners, OwnerIs}
use Rattle.rio_model.specs.VolumeFails.{CountsTwice, IsLeastTwice}
use Rattle.rio_model.specs.VolumeRules.{OnceRule}
use Rattle.volume_check.specs.Claims.{Claimed, IsAtMost, IsBefore, Notes, OwnerBy, SharedBy, is_owned, slot_at, slot_owner, slot_place}
use Rattle.volume_check.specs.NodeBlocks.{node_numbers, numbers}
use Rattle.volume_check.proofs.NodeNumbers.{HasPlace, as_many, number_of_block, place_stands, slot_stands}

-- ---- the owner of one block

pub owner_free : (o : Owner) → (o ≡ Nobody) ⊎ (o ≢ Nobody)
owner_free Nobody = inl refl
owner_free (PageOf i p) = inr (λ e. cc)
owner_free (TableOf i t) = inr (λ e. cc)

-- slots that count for one reckoning count for another
abbrev Within : (ℕ → Slot → Type 0) → (ℕ → Slot → Type 0) → Type 0
Within c d = (j : ℕ) (s : Slot) → c j s → d j s

owner_more : (l : Layout) (c d : ℕ → Slot → Type 0) (b : ℕ) (o : Owner) → Within c d → ((j : ℕ) (s : Slot) → d j s → (l.node j).block s ≡ b → c j s) → OwnerBy l c b o → OwnerBy l d b o
owner_more l c d b Nobody on back h = λ j s k is. h j s (back j s k is) is
owner_more l c d b (PageOf i p) on back h = (on i.0 (AtPage p) h.0, h.1)
owner_more l c d b (TableOf i t) on back h = (on i.0 (AtTable t) h.0, h.1)

owner_slot : (l : Layout) (d : ℕ → Slot → Type 0) (b : ℕ) (i : Ino) (s : Slot) → d i.0 s → (l.node i.0).block s ≡ b → OwnerBy l d b (slot_owner i s)
owner_slot l d b i (AtPage p) k is = (k, is)
owner_slot l d b i (AtTable t) k is = (k, is)

-- who has a block that is not free
has_one : (l : Layout) (c : ℕ → Slot → Type 0) (b : ℕ) (o : Owner) → o ≢ Nobody → OwnerBy l c b o → (j : ℕ) × (s : Slot) × c j s × ((l.node j).block s ≡ b)
has_one l c b Nobody some h = absurd (some refl)
has_one l c b (PageOf i p) some h = (i.0, AtPage p, h.0, h.1)
has_one l c b (TableOf i t) some h = (i.0, AtTable t, h.0, h.1)

has_none : (l : Layout) (c : ℕ → Slot → Type 0) (b : ℕ) (o : Owner) → o ≡ Nobody → OwnerBy l c b o → (j : ℕ) (s : Slot) → c j s → (l.node j).block s ≡ b → ⊥
has_none l c b o none h = subst (λ x. OwnerBy l c b x) none h

shared_more : (l : Layout) (c d : ℕ → Slot → Type 0) (b : ℕ) → Within c d → SharedBy l c b → SharedBy l d b
shared_more l c d b on h = record { i = h.i; j = h.j; s = h.s; t = h.t; one = (on h.i h.s h.one.0, h.one.1); other = (on h.j h.t h.other.0, h.other.1); two = h.two }

-- ---- a slot more

-- d has one slot more than c, slot s of node i
record IsMore (c d : ℕ → Slot → Type 0) (i : ℕ) (s : Slot) : Type 0 where
  pub on : Within c d
  pub back : (j : ℕ) (t : Slot) → d j t → c j t ⊎ ((j ≡ i) × (t ≡ s))
  pub here : d i s
  pub new : c i s → ⊥

at_slot : (l : Layout) (i j : ℕ) (s t : Slot) → j ≡ i → t ≡ s → (l.node j).block t ≡ (l.node i).block s
at_slot l i j s t e q = λ k. (l.node (e k)).block (q k)

claim_free : (l : Layout) (c d : ℕ → Slot → Type 0) (old new : List Owner) (least told : Option Block) (i : Ino) (s : Slot) (b : ℕ) → IsMore c d i.0 s → Claimed l c old least → (l.node i.0).block s ≡ b → b < l.shape.blocks → slice_index_or old b Nobody ≡ Nobody → new ≡ slice_set old b (slot_owner i s) → told ≡ least → Claimed l d new told
claim_free l c d old new least told i s b more h is within free set same = record {
  len = ap length set ∙ length-set old b (slot_owner i s) ∙ h.len;
  owner = λ x few. subst (λ (xs : List Owner). OwnerBy l d x (slice_index_or xs x Nobody)) (sym set) (owner x few (cases_eq x b));
  found = λ x e. shared_more l c d x.0 more.on (h.found x (sym same ∙ e));
  shared = λ j k t u one two e. shared j k t u e (more.back j t one) (more.back k u two);
}
  where
    unclaimed : (j : ℕ) (t : Slot) → c j t → (l.node j).block t ≡ b → ⊥
    unclaimed = has_none l c b (slice_index_or old b Nobody) free (h.owner b within)

    owner : (x : ℕ) → x < l.shape.blocks → (x ≡ b) ⊎ (x ≢ b) → OwnerBy l d x (slice_index_or (slice_set old b (slot_owner i s)) x Nobody)
    owner x few (inl e) =
        subst (λ y. OwnerBy l d y (slice_index_or (slice_set old b (slot_owner i s)) y Nobody)) (sym e)
        (subst (λ o. OwnerBy l d b o) (sym (get_or-set_same old b (slot_owner i s) Nobody (let long = h.len in omega (arith, within, long)))) (owner_slot l d b i s more.here is))
    owner x few (inr ne) = subst (λ o. OwnerBy l d x o) (sym (get_or-set_other old b x (slot_owner i s) Nobody ne)) (owner_more l c d x (slice_index_or old x Nobody) more.on (λ j t k at. back j t at (more.back j t k)) (h.owner x few))
      where
        back : (j : ℕ) (t : Slot) → (l.node j).block t ≡ x → c j t ⊎ ((j ≡ i.0) × (t ≡ s)) → c j t
        back j t at (inl k) = k
        back j t at (inr e) = absurd (ne (sym at ∙ at_slot l i.0 j s t e.0 e.1 ∙ is))

    shared : (j k : ℕ) (t u : Slot) → (l.node j).block t ≡ (l.node k).block u → c j t ⊎ ((j ≡ i.0) × (t ≡ s)) → c k u ⊎ ((k ≡ i.0) × (u ≡ s)) → ((j ≡ k) × (t ≡ u)) ⊎ IsAtMost told ((l.node j).block t)
    shared j k t u e (inl one) (inl two) = subst (λ (x : Option Block). ((j ≡ k) × (t ≡ u)) ⊎ IsAtMost x ((l.node j).block t)) (sym same) (h.shared j k t u one two e)
    shared j k t u e (inl one) (inr two) = absurd (unclaimed j t one (e ∙ at_slot l i.0 k s u two.0 two.1 ∙ is))
    shared j k t u e (inr one) (inl two) = absurd (unclaimed k u two (sym e ∙ at_slot l i.0 j s t one.0 one.1 ∙ is))
    shared j k t u e (inr one) (inr two) = inl (one.0 ∙ sym two.0, one.1 ∙ sym two.1)

claim_taken : (l : Layout) (c d : ℕ → Slot → Type 0) (old new : List Owner) (least told : Option Block) (i : Ino) (s : Slot) (b : ℕ) → IsMore c d i.0 s → Claimed l c old least → (l.node i.0).block s ≡ b → b < l.shape.blocks → slice_index_or old b Nobody ≢ Nobody → new ≡ old → IsAtMost told b → ((x : ℕ) → IsAtMost least x → IsAtMost told x) → ((x : Block) → told ≡ Some x → (least ≡ Some x) ⊎ (x.0 ≡ b)) → Claimed l d new told
claim_taken l c d old new least told i s b more h is within taken same most lower own = record {
  len = ap length same ∙ h.len;
  owner = λ x few. subst (λ (xs : List Owner). OwnerBy l d x (slice_index_or xs x Nobody)) (sym same) (owner x few (owner_free (slice_index_or old x Nobody)));
  found = λ x e. found x (own x e);
  shared = λ j k t u one two e. shared j k t u e (more.back j t one) (more.back k u two);
}
  where
    held : (j : ℕ) × (t : Slot) × c j t × ((l.node j).block t ≡ b)
    held = has_one l c b (slice_index_or old b Nobody) taken (h.owner b within)

    owner : (x : ℕ) → x < l.shape.blocks → (slice_index_or old x Nobody ≡ Nobody) ⊎ (slice_index_or old x Nobody ≢ Nobody) → OwnerBy l d x (slice_index_or old x Nobody)
    owner x few (inl free) = owner_more l c d x (slice_index_or old x Nobody) more.on (λ j t k at. back j t at (more.back j t k)) (h.owner x few)
      where
        back : (j : ℕ) (t : Slot) → (l.node j).block t ≡ x → c j t ⊎ ((j ≡ i.0) × (t ≡ s)) → c j t
        back j t at (inl k) = k
        back j t at (inr e) = let same_block : x ≡ b = sym at ∙ at_slot l i.0 j s t e.0 e.1 ∙ is in absurd (taken (ap (λ y. slice_index_or old y Nobody) (sym same_block) ∙ free))
    owner x few (inr some) = kept (slice_index_or old x Nobody) some (h.owner x few)
      where
        kept : (o : Owner) → o ≢ Nobody → OwnerBy l c x o → OwnerBy l d x o
        kept Nobody some h = absurd (some refl)
        kept (PageOf j p) some h = (more.on j.0 (AtPage p) h.0, h.1)
        kept (TableOf j t) some h = (more.on j.0 (AtTable t) h.0, h.1)

    found : (x : Block) → (least ≡ Some x) ⊎ (x.0 ≡ b) → SharedBy l d x.0
    found x (inl e) = shared_more l c d x.0 more.on (h.found x e)
    found x (inr e) = subst (λ y. SharedBy l d y) (sym e) (record {
      i = held.0;
      j = i.0;
      s = held.1;
      t = s;
      one = (more.on held.0 held.1 held.2, held.3);
      other = (more.here, is);
      two = λ e. more.new (at_both held.0 i.0 held.1 s e.0 e.1 held.2);
    })
      where
        at_both : (j k : ℕ) (t u : Slot) → j ≡ k → t ≡ u → c j t → c k u
        at_both j k t u e q h = subst (λ v. c k v) q (subst (λ v. c v t) e h)

    shared : (j k : ℕ) (t u : Slot) → (l.node j).block t ≡ (l.node k).block u → c j t ⊎ ((j ≡ i.0) × (t ≡ s)) → c k u ⊎ ((k ≡ i.0) × (u ≡ s)) → ((j ≡ k) × (t ≡ u)) ⊎ IsAtMost told ((l.node j).block t)
    shared j k t u e (inl one) (inl two) = lowered (h.shared j k t u one two e)
      where
        lowered : ((j ≡ k) × (t ≡ u)) ⊎ IsAtMost least ((l.node j).block t) → ((j ≡ k) × (t ≡ u)) ⊎ IsAtMost told ((l.node j).block t)
        lowered (inl x) = inl x
        lowered (inr x) = inr (lower _ x)
    shared j k t u e (inl one) (inr two) = inr (subst (λ x. IsAtMost told x) (sym (e ∙ at_slot l i.0 k s u two.0 two.1 ∙ is)) most)
    shared j k t u e (inr one) two = inr (subst (λ x. IsAtMost told x) (sym (at_slot l i.0 j s t one.0 one.1 ∙ is)) most)

claim_next : (l : Layout) (c d : ℕ → Slot → Type 0) (old new : List Owner) (least told : Option Block) (i : Ino) (s : Slot) (b : ℕ) → IsMore c d i.0 s → Claimed l c old least → (l.node i.0).block s ≡ b → b < l.shape.blocks → Notes b (slot_owner i s) old new least told → Claimed l d new told
claim_next l c d old new least told i s b more h is within n = by (owner_free (slice_index_or old b Nobody))
  where
    by : (slice_index_or old b Nobody ≡ Nobody) ⊎ (slice_index_or old b Nobody ≢ Nobody) → Claimed l d new told
    by (inl free) = let f = n.free free in claim_free l c d old new least told i s b more h is within free f.0 f.1
    by (inr taken) = let t = n.taken taken in claim_taken l c d old new least told i s b more h is within taken t.0 t.1 n.lower (λ x e. own x (n.own x e))
      where
        own : (x : Block) → (least ≡ Some x) ⊎ ((x.0 ≡ b) × (slice_index_or old b Nobody ≢ Nobody)) → (least ≡ Some x) ⊎ (x.0 ≡ b)
        own x (inl e) = inl e
        own x (inr e) = inr e.0

-- ---- the slots of one node in order

below_next : (j i k : ℕ) → j < k + 1 → (j < k) ⊎ (j ≡ k)
below_next j i k h = grind (arith, h)

slot_more : (l : Layout) (i at : ℕ) → IsIno l.shape i → at < length (node_numbers (l.node i)) → IsMore (IsBefore l i at) (IsBefore l i (at + 1)) i (slot_at (pages (l.node i).size) at)
slot_more l i at ino within = record {
  on = λ j s h. (h.0, on j s h.1);
  back = λ j s h. back j s h.0 h.1;
  here = (record { ino = ino; slot = place.has }, inr (refl, (let e = place.place in omega (arith, e))));
  new = λ h. new h.1;
}
  where
    count : ℕ
    count = pages (l.node i).size

    place : HasPlace (l.node i) at
    place = place_stands (l.node i) at within

    on : (j : ℕ) (s : Slot) → (j < i) ⊎ ((j ≡ i) × (slot_place count s < at)) → (j < i) ⊎ ((j ≡ i) × (slot_place count s < at + 1))
    on j s (inl low) = inl low
    on j s (inr h) = inr (h.0, (let less = h.1 in omega (arith, less)))

    back : (j : ℕ) (s : Slot) → Owns l j s → (j < i) ⊎ ((j ≡ i) × (slot_place count s < at + 1)) → IsBefore l i at j s ⊎ ((j ≡ i) × (s ≡ slot_at count at))
    back j s own (inl low) = inl (own, inl low)
    back j s own (inr h) = by (below_next (slot_place count s) 0 at h.1)
      where
        by : (slot_place count s < at) ⊎ (slot_place count s ≡ at) → IsBefore l i at j s ⊎ ((j ≡ i) × (s ≡ slot_at count at))
        by (inl less) = inl (own, inr (h.0, less))
        by (inr e) = inr (h.0, sym (slot_stands (l.node i) s (subst (λ x. HasSlot (l.node x) s) h.0 own.slot)).back ∙ ap (slot_at count) e)

    new : (i < i) ⊎ ((i ≡ i) × (slot_place count (slot_at count at) < at)) → ⊥
    new (inl h) = omega (arith, h)
    new (inr h) = let e = place.place in let less = h.1 in omega (arith, e, less)

pub claimed_slot : (l : Layout) (i : Ino) (at : ℕ) (old new : List Owner) (least told : Option Block) (b : ℕ) → IsIno l.shape i.0 → at < length (node_numbers (l.node i.0)) → slice_index (node_numbers (l.node i.0)) at ≡ b → b < l.shape.blocks → Notes b (slot_owner i (slot_at (pages (l.node i.0).size) at)) old new least told → Claimed l (IsBefore l i.0 at) old least → Claimed l (IsBefore l i.0 (at + 1)) new told
claimed_slot l i at old new least told b ino within is few n h =
    claim_next l (IsBefore l i.0 at) (IsBefore l i.0 (at + 1)) old new least told i (slot_at (pages (l.node i.0).size) at) b (slot_more l i.0 at ino within) h (sym (place_stands (l.node i.0) at within).is ∙ is) few n

-- ---- one node after the other

claimed_same : (l : Layout) (c d : ℕ → Slot → Type 0) (owners : List Owner) (least : Option Block) → Within c d → Within d c → Claimed l c owners least → Claimed l d owners least
claimed_same l c d owners least on back h = record {
  len = h.len;
  owner = λ b few. owner_more l c d b (slice_index_or owners b Nobody) on (λ j s k is. back j s k) (h.owner b few);
  found = λ b e. shared_more l c d b.0 on (h.found b e);
  shared = λ i j s t one two e. h.shared i j s t (back i s one) (back j t two) e;
}

pub claimed_node : (l : Layout) (i at : ℕ) (owners : List Owner) (least : Option Block) → at ≡ length (node_numbers (l.node i)) → Claimed l (IsBefore l i at) owners least → Claimed l (IsBefore l (i + 1) 0) owners least
claimed_node l i at owners least all h = claimed_same l (IsBefore l i at) (IsBefore l (i + 1) 0) owners least (λ j s k. (k.0, on j s k.1)) (λ j s k. (k.0, back j s k.0 k.1)) h
  where
    on : (j : ℕ) (s : Slot) → (j < i) ⊎ ((j ≡ i) × (slot_place (pages (l.node i).size) s < at)) → (j < i + 1) ⊎ ((j ≡ i + 1) × (slot_place (pages (l.node (i + 1)).size) s < 0))
    on j s (inl low) = inl (omega (arith, low))
    on j s (inr h) = inl (let e = h.0 in omega (arith, e))

    back : (j : ℕ) (s : Slot) → Owns l j s → (j < i + 1) ⊎ ((j ≡ i + 1) × (slot_place (pages (l.node (i + 1)).size) s < 0)) → (j < i) ⊎ ((j ≡ i) × (slot_place (pages (l.node i).size) s < at))
    back j s own (inr h) = absurd (let less = h.1 in omega (arith, less))
    back j s own (inl low) = by (below_next j 0 i low)
      where
        by : (j < i) ⊎ (j ≡ i) → (j < i) ⊎ ((j ≡ i) × (slot_place (pages (l.node i).size) s < at))
        by (inl less) = inl less
        by (inr e) = inr (e, (let w = (slot_stands (l.node i) s (subst (λ x. HasSlot (l.node x) s) e own.slot)).within in omega (arith, w, all)))

-- ---- none, and all

pub claimed_none : (l : Layout) (owners : List Owner) → length owners ≡ l.shape.blocks → ((b : ℕ) → slice_index_or owners b Nobody ≡ Nobody) → Claimed l (IsBefore l 1 0) owners None
claimed_none l owners len none = record {
  len = len;
  owner = λ b few. subst (λ o. OwnerBy l (IsBefore l 1 0) b o) (sym (none b)) (λ j s k is. empty j s k.0 k.1);
  found = λ b e. absurd (none_some b e);
  shared = λ i j s t one two e. absurd (empty i s one.0 one.1);
}
  where
    none_some : (b : Block) → None ≡ Some b → ⊥
    none_some b e = cc

    empty : (j : ℕ) (s : Slot) → Owns l j s → (j < 1) ⊎ ((j ≡ 1) × (slot_place (pages (l.node 1).size) s < 0)) → ⊥
    empty j s own (inl low) = let from = own.ino.from in omega (arith, low, from)
    empty j s own (inr h) = let less = h.1 in omega (arith, less)

pub claimed_all : (l : Layout) (n : ℕ) (owners : List Owner) (least : Option Block) → n ≡ l.shape.inodes + 1 → Claimed l (IsBefore l n 0) owners least → Claimed l (Owns l) owners least
claimed_all l n owners least is h = claimed_same l (IsBefore l n 0) (Owns l) owners least (λ j s k. k.0) (λ j s own. (own, inl (let to = own.ino.to in omega (arith, is, to)))) h

pub once_claimed : (l : Layout) (owners : List Owner) → Claimed l (Owns l) owners None → OnceRule l
once_claimed l owners h = record { each = λ i j s t one two e. by i j s t (h.shared i j s t one two e) }
  where
    by : (i j : ℕ) (s t : Slot) → ((i ≡ j) × (s ≡ t)) ⊎ ⊥ → (i ≡ j) × (s ≡ t)
    by i j s t (inl x) = x
    by i j s t (inr x) = absurd x

pub owners_claimed : (l : Layout) (owners : List Owner) (least : Option Block) → Claimed l (Owns l) owners least → HasOwners l owners
owners_claimed l owners least h = record { count = h.len; each = λ b few. by b (slice_index_or owners b Nobody) (h.owner b few) }
  where
    by : (b : ℕ) (o : Owner) → OwnerBy l (Owns l) b o → OwnerIs l b o
    by b Nobody h = λ own. h own.node own.slot own.owns own.is
    by b (PageOf i p) h = h
    by b (TableOf i t) h = h

pub twice_claimed : (l : Layout) (owners : List Owner) (b : Block) → Claimed l (Owns l) owners (Some b) → IsLeastTwice l b.0
twice_claimed l owners b h = record {
  twice = (let x = h.found b refl in record { i = x.i; j = x.j; s = x.s; t = x.t; one = x.one; other = x.other; two = x.two });
  least = λ c less x. by c x less (h.shared x.i x.j x.s x.t x.one.0 x.other.0 (x.one.1 ∙ sym x.other.1));
}
  where
    by : (c : ℕ) (x : CountsTwice l c) → c < b.0 → ((x.i ≡ x.j) × (x.s ≡ x.t)) ⊎ (b.0 ≤ (l.node x.i).block x.s) → ⊥
    by c x less (inl same) = x.two same
    by c x less (inr most) = let at = x.one.1 in omega (arith, less, most, at)

-- ---- one block noted

pub noted_free : (old new : List Owner) (b : ℕ) (owner d : Owner) (least : Option Block) → b < length old → is_owned (slice_index_or old b d) ≡ false → new ≡ slice_set old b owner → Notes b owner old new least least
noted_free old new b owner d least within none is = record {
  free = λ f. (is, refl);
  taken = λ t. absurd (t nobody);
  lower = λ c h. h;
  own = λ c e. inl e;
}
  where
    free_of : (o : Owner) → is_owned o ≡ false → o ≡ Nobody
    free_of Nobody e = refl
    free_of (PageOf i p) e = cc
    free_of (TableOf i t) e = cc

    nobody : slice_index_or old b Nobody ≡ Nobody
    nobody = get_or_default old b Nobody d within ∙ free_of (slice_index_or old b d) none

pub noted_taken : (old : List Owner) (b low : Block) (owner d : Owner) (least : Option Block) → b.0 < length old → is_owned (slice_index_or old b.0 d) ≡ true → low.0 ≤ b.0 → IfSome least (λ twice. low.0 ≤ twice.0) → (least ≡ Some low) ⊎ (low ≡ b) → Notes b.0 owner old old least (Some low)
noted_taken old b low owner d least within some most lower one = record {
  free = λ f. absurd (taken f);
  taken = λ t. (refl, most);
  lower = lowered least lower;
  own = λ c e. own c one (same low c e);
}
  where
    owned_not : (o : Owner) → is_owned o ≡ true → o ≡ Nobody → ⊥
    owned_not Nobody e q = cc
    owned_not (PageOf i p) e q = cc
    owned_not (TableOf i t) e q = cc

    taken : slice_index_or old b.0 Nobody ≡ Nobody → ⊥
    taken e = owned_not (slice_index_or old b.0 d) some (get_or_default old b.0 d Nobody within ∙ e)

    lowered : (o : Option Block) → IfSome o (λ twice. low.0 ≤ twice.0) → (c : ℕ) → IsAtMost o c → IsAtMost (Some low) c
    lowered None h c k = absurd k
    lowered (Some t) h c k = omega (arith, h, k)

    same : (x y : Block) → Some x ≡ Some y → x ≡ y
    same x y e = cc

    own : (c : Block) → (least ≡ Some low) ⊎ (low ≡ b) → low ≡ c → (least ≡ Some c) ⊎ ((c.0 ≡ b.0) × (slice_index_or old b.0 Nobody ≢ Nobody))
    own c (inl e) q = inl (e ∙ ap Some q)
    own c (inr e) q = inr (ap (λ (x : Block). x.0) (sym q ∙ e), taken)

nobody_at : (n b : ℕ) → slice_index_or (replicate n Nobody) b Nobody ≡ Nobody
nobody_at zero b = refl
nobody_at (suc n) zero = refl
nobody_at (suc n) (suc b) = nobody_at n b

pub claimed_first : (l : Layout) (owners : List Owner) (n : ℕ) → n ≡ l.shape.blocks → owners ≡ replicate n Nobody → Claimed l (IsBefore l 1 0) owners None
claimed_first l owners n is all = claimed_none l owners (ap length all ∙ length-replicate n Nobody ∙ is) (λ b. ap (λ (xs : List Owner). slice_index_or xs b Nobody) all ∙ nobody_at n b)

-- owners that were lent and are back
pub written_back : (new old : List Owner) (n : ℕ) → length new ≡ n → take n (new ++ drop (length new) old) ≡ new
written_back new old n is = take_at new (drop (length new) old) n is

-- one block of a list noted
pub claimed_block : (l : Layout) (i : Ino) (count at : ℕ) (bs : List Block) (d : Block) (old new : List Owner) (least told : Option Block) (owner : Owner) → IsIno l.shape i.0 → (0 < (l.node i.0).kind → count ≡ pages (l.node i.0).size) → numbers bs ≡ node_numbers (l.node i.0) → at < length bs → slice_index (numbers bs) at < length old → owner ≡ slot_owner i (slot_at count at) → Notes (slice_index_or bs at d).0 owner old new least told → Claimed l (IsBefore l i.0 at) old least → Claimed l (IsBefore l i.0 (at + 1)) new told
claimed_block l i count at bs d old new least told owner ino same is less range whose notes h =
    let long = ap length is in
    let many = as_many bs in
    let within : at < length (node_numbers (l.node i.0)) = omega (arith, less, long, many) in
    let size = same (place_stands (l.node i.0) at within).has.used in
    let number = number_of_block bs at d less in
    let all = h.len in
    claimed_slot l i at old new least told (slice_index (numbers bs) at) ino within (sym (ap (λ xs. slice_index xs at) is)) (omega (arith, range, all))
    (subst (λ x. Notes x (slot_owner i (slot_at (pages (l.node i.0).size) at)) old new least told) number (subst (λ (x : Owner). Notes (slice_index_or bs at d).0 x old new least told) (whose ∙ ap (λ x. slot_owner i (slot_at x at)) size) notes)) h

pub block_below : (bs : List Block) (t n : ℕ) (d : Block) → t < length bs → slice_index (numbers bs) t < n → (slice_index_or bs t d).0 < n
block_below bs t n d few within = let at = number_of_block bs t d few in omega (arith, within, at)
