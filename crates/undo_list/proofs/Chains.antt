-- Laws of the records that a head names.
use Rattle.std.proofs.Common.{◌≡◌, ℕ, ◌+◌, ◌-◌, ◌*◌, ◌<◌, ◌≤◌, List, [], ◌∷◌, length, refl, sym, ap, subst, ◌∙◌, arith}
use Rattle.rio_base.specs.Regions.{RegionContent}
use Rattle.rio_model.specs.Undo.{UndoRecord, taken, undo_word, undo_words, undo_records, IsRecord, places, IsRegion}
use Rattle.rio_model.proofs.UndoRules.{links_head}
use Rattle.undo_list.specs.Records.{IsChain, IsNewest}
use Rattle.undo_list.proofs.ChainsLaws.{ChainHead}
use Rattle.undo_list.specs.declared.records.SavedAt.{SavedAt}

pub chain_head : (f : RegionContent) (head : ℕ) (rs : List UndoRecord) → 0 < head → IsChain f head rs → ChainHead f head rs
chain_head f head [] some c = absurd (omega (arith, c.links))
chain_head f head (r ∷ older) some c = record {
  newest = r;
  rest = older;
  is = refl;
  at = c.links.0;
  lies = c.links.1;
  room = c.room;
  within = c.within.0;
  chain = record { links = c.links.2; room = omega (arith, c.room); within = c.within.1 };
}

pub region_chain : (n : ℕ) (f : RegionContent) → IsRegion n f → IsChain f (f 3) (undo_records f)
region_chain n f h = record { links = h.links; room = h.room; within = h.within }

-- what the words of a record say of its bounds
pub record HeadWords (n : ℕ) (f : RegionContent) (head : ℕ) : Type 0 where
  pub low : head ≤ 512 * f 1
  pub whole : n ≡ 512 * (1 + f 1) + places f
  pub room : (head - 1) + 3 + f (514 + (head - 1)) ≤ 512 * f 1
  pub within : f (513 + (head - 1)) + f (514 + (head - 1)) ≤ places f

pub head_words : (n : ℕ) (f : RegionContent) (head : ℕ) (rs : List UndoRecord) → IsRegion n f → 0 < head → IsChain f head rs → HeadWords n f head
head_words n f head rs h some c =
    let t = chain_head f head rs some c in
    let place : head - 1 ≡ taken t.rest = omega (arith, t.at) in
    let count : f (514 + (head - 1)) ≡ length t.newest.old = ap f (omega (arith, place)) ∙ t.lies.count in
    let first : f (513 + (head - 1)) ≡ t.newest.first = ap f (omega (arith, place)) ∙ t.lies.first in
    record {
      low = omega (arith, t.at, t.room);
      whole = omega (arith, h.size);
      room = omega (arith, t.room, count, place);
      within = omega (arith, t.within, count, first);
    }

pub newest_is : (f : RegionContent) (head at first count older : ℕ) → 0 < head → at ≡ head - 1 → first ≡ f (513 + at) → count ≡ f (514 + at) → older ≡ f (512 + at) → (rs : List UndoRecord) → IsChain f head rs → IsNewest f rs (record { at = at; first = first; count = count; older = older })
newest_is f head at first count older some is first_is count_is older_is rs c =
    let t = chain_head f head rs some c in
    let place : at ≡ taken t.rest = omega (arith, t.at) in
    record {
      newest = t.newest;
      rest = t.rest;
      is = t.is;
      at = place;
      first = first_is ∙ ap f (omega (arith, place)) ∙ t.lies.first;
      count = count_is ∙ ap f (omega (arith, place)) ∙ t.lies.count;
      older = older_is;
    }

-- no head, no records
pub no_chain : (f : RegionContent) (head : ℕ) (rs : List UndoRecord) → head ≡ 0 → IsChain f head rs → rs ≡ []
no_chain f head [] none c = refl
no_chain f head (r ∷ older) none c = absurd (omega (arith, c.links.0))

-- what is known of a record that was read
pub record NewestFits (f : RegionContent) (head : ℕ) (rs : List UndoRecord) (v : SavedAt) : Type 0 where
  pub newest : UndoRecord
  pub rest : List UndoRecord
  pub is : rs ≡ newest ∷ rest
  pub at : v.at ≡ taken rest
  pub first : v.first ≡ newest.first
  pub count : v.count ≡ length newest.old
  pub taken : taken rs ≡ v.at + 3 + v.count
  pub room : v.at + 3 + v.count ≤ undo_words f
  pub within : v.first + v.count ≤ places f
  pub smaller : v.older < head
  pub lies : IsRecord f v.at newest
  pub chain : IsChain f v.older rest

pub newest_fits : (f : RegionContent) (head : ℕ) (rs : List UndoRecord) (v : SavedAt) → 0 < head → IsChain f head rs → IsNewest f rs v → NewestFits f head rs v
newest_fits f head [] v some c w = absurd (omega (arith, c.links))
newest_fits f head (r ∷ older) v some c w = record {
  newest = r;
  rest = older;
  is = refl;
  at = w.at ∙ ap taken (sym rest_is);
  first = w.first ∙ ap (λ (x : UndoRecord). x.first) (sym newest_is_r);
  count = counted;
  taken = omega (arith, counted, placed);
  room = omega (arith, c.room, counted, placed);
  within = omega (arith, c.within.0, counted, w.first, ap (λ (x : UndoRecord). x.first) newest_is_r);
  smaller = omega (arith, links_head f (undo_word f (taken older)) older c.links.2, c.links.0, older_is);
  lies = subst (λ p. IsRecord f p r) (sym placed) c.links.1;
  chain = subst (λ x. IsChain f x older) (sym older_is) (record { links = c.links.2; room = omega (arith, c.room); within = c.within.1 });
}
  where
    newest_is_r : r ≡ w.newest
    newest_is_r = cc (w.is)

    rest_is : older ≡ w.rest
    rest_is = cc (w.is)

    counted : v.count ≡ length r.old
    counted = w.count ∙ ap (λ (x : UndoRecord). length x.old) (sym newest_is_r)

    placed : v.at ≡ taken older
    placed = w.at ∙ ap taken (sym rest_is)

    older_is : v.older ≡ undo_word f (taken older)
    older_is = w.older ∙ ap (undo_word f) placed

-- the records of a region, at a later state with the same words
pub chain_at : (n : ℕ) (f g : RegionContent) (head : ℕ) → IsRegion n f → g ≡ f → head ≡ f 3 → IsChain g head (undo_records f)
chain_at n f g head h same is = subst (λ w. IsChain w head (undo_records f)) (sym same) (subst (λ x. IsChain f x (undo_records f)) (sym is) (region_chain n f h))

pub newest_at : (n : ℕ) (f f1 : RegionContent) (head : ℕ) (v : SavedAt) → IsRegion n f → f1 ≡ f → head ≡ f 3 → 0 < head → ((rs : List UndoRecord) → IsChain f1 head rs → IsNewest f1 rs v) → NewestFits f head (undo_records f) v
newest_at n f f1 head v h same is some read =
    let chain = chain_at n f f1 head h same is in
    subst (λ x. NewestFits x head (undo_records f) v) same (newest_fits f1 head (undo_records f) v some chain (read (undo_records f) chain))

pub older_at : (n : ℕ) (f f1 : RegionContent) (head : ℕ) (v : SavedAt) → IsRegion n f → f1 ≡ f → head ≡ f 3 → ((rs : List UndoRecord) → IsChain f1 head rs → IsNewest f1 rs v) → v.older ≡ undo_word f v.at
older_at n f f1 head v h same is read = (read (undo_records f) (chain_at n f f1 head h same is)).older ∙ ap (λ (x : RegionContent). undo_word x v.at) same

-- what was read of a record fits a number of 32 bits, as the region's words do
pub newest_small : (n : ℕ) (f : RegionContent) (head : ℕ) (rs : List UndoRecord) (v : SavedAt) → IsRegion n f → n < 4294967296 → 0 < head → IsChain f head rs → IsNewest f rs v → v.first + v.count < 4294967296
newest_small n f head rs v h small some c w = omega (arith, (newest_fits f head rs v some c w).within, h.size, small)
