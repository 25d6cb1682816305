-- Laws of undo records that are followed from the oldest on, and put back from the newest on.
use Rattle.rio_model.proofs.Common.{◌≡◌, ◌≢◌, ◌⊎◌, ℕ, suc, ◌+◌, ◌-◌, ◌<◌, ◌≤◌, ◌&&◌, ◌∙◌, Bool, true, false, cond, List, Option, [], ◌∷◌, None, Some, refl, sym, ap, subst, arith, inl, inr, length, slice_index, nat_lt, nat_tests}
use Rattle.std.specs.Prelude.{nat_le}
use Rattle.std.proofs.lemmas.List.{ext_get_or}
use Rattle.std.proofs.lemmas.List.FromFn.{get_or-map-range_with_len, length-map-range_with_len}
use Rattle.rio_base.specs.Regions.{RegionContent}
use Rattle.rio_model.specs.Undo.{IsRecord, Links, UndoRecord, Within, before_by, covers, first_some, own_word, record_at, records_from, saved_word, taken, undo_records, undo_word, word_or}
use Rattle.rio_model.proofs.UndoRules.{links_head, links_same, records_are}
use Rattle.volume_check.specs.RegionWords.{HasRecords, IsRecordAt, put_over}

-- ---- the record at an undo word

long_at : (f : RegionContent) (p : ℕ) → length (record_at f p).old ≡ undo_word f (p + 2)
unfolding record_at
long_at f p = length-map-range_with_len (undo_word f) (p + 3) (undo_word f (p + 2))

first_at : (f : RegionContent) (p : ℕ) → (record_at f p).first ≡ undo_word f (p + 1)
unfolding record_at
first_at f p = refl

old_at : (f : RegionContent) (p k : ℕ) → k < undo_word f (p + 2) → slice_index (record_at f p).old k ≡ undo_word f (p + 3 + k)
unfolding record_at
old_at f p k small = get_or-map-range_with_len (undo_word f) (p + 3) (undo_word f (p + 2)) k (p + 3 + k) 0 small refl

record_there : (f : RegionContent) (p : ℕ) → IsRecord f p (record_at f p)
record_there f p = record {
  first = sym (first_at f p);
  count = sym (long_at f p);
  old = λ k small. sym (old_at f p k (subst (λ n. k < n) (long_at f p) small));
}

record_is : (f : RegionContent) (p : ℕ) (r : UndoRecord) → IsRecord f p r → record_at f p ≡ r
record_is f p r s =
    let first : (record_at f p).first ≡ r.first = first_at f p ∙ s.first in
    let size : length (record_at f p).old ≡ length r.old = long_at f p ∙ s.count in
    let old : (record_at f p).old ≡ r.old = ext_get_or 0 _ _ size (λ k small. old_at f p k (subst (λ n. k < n) (long_at f p) small) ∙ s.old k (subst (λ n. k < n) size small)) in
    λ i. record { first = first i; old = old i }

-- ---- the oldest ones of a list of records

abbrev pub IsTail : List UndoRecord → List UndoRecord → Type 0
IsTail [] t = t ≡ []
IsTail (r ∷ older) t = (r ∷ older ≡ t) ⊎ IsTail older t

tail_none : (rs : List UndoRecord) → IsTail rs []
tail_none [] = refl
tail_none (r ∷ older) = inr (tail_none older)

-- they are all, or one more is among them
tail_next : (rs t : List UndoRecord) → IsTail rs t → (rs ≡ t) ⊎ ((r : UndoRecord) × IsTail rs (r ∷ t))
tail_next [] t e = inl (sym e)
tail_next (r ∷ older) t (inl e) = inl e
tail_next (r ∷ older) t (inr h) = elim (tail_next older t h) [
  | inl e ↦ inr (r, inl (ap (λ (xs : List UndoRecord). r ∷ xs) e))
  | inr x ↦ inr (x.0, inr x.1)
]

tail_links : (f : RegionContent) (head : ℕ) (rs t : List UndoRecord) → Links f head rs → IsTail rs t → (h : ℕ) × Links f h t
tail_links f head [] t l e = (head, subst (λ xs. Links f head xs) (sym e) l)
tail_links f head (r ∷ older) t l (inl e) = (head, subst (λ xs. Links f head xs) e l)
tail_links f head (r ∷ older) t l (inr h) = tail_links f (undo_word f (taken older)) older t l.2 h

tail_taken : (rs t : List UndoRecord) → IsTail rs t → taken t ≤ taken rs
tail_taken [] t e = subst (λ xs. taken xs ≤ 0) (sym e) (omega arith)
tail_taken (r ∷ older) t (inl e) = subst (λ xs. taken xs ≤ taken older + 3 + length r.old) e (omega arith)
tail_taken (r ∷ older) t (inr h) = let less = tail_taken older t h in omega (arith, less)

tail_within : (most : ℕ) (rs t : List UndoRecord) → Within most rs → IsTail rs t → Within most t
tail_within most [] t w e = subst (λ xs. Within most xs) (sym e) w
tail_within most (r ∷ older) t w (inl e) = subst (λ xs. Within most xs) e w
tail_within most (r ∷ older) t w (inr h) = tail_within most older t w.1 h

one_head : (f : RegionContent) (a b : ℕ) (rs : List UndoRecord) → Links f a rs → Links f b rs → a ≡ b
one_head f a b [] l m = l ∙ sym m
one_head f a b (r ∷ older) l m = l.0 ∙ sym m.0

-- ---- records followed from the oldest on

-- those up to the one that `newest` names are as they have to be and end before undo word `end`, and they are the oldest ones of
-- whatever records the header names
pub record Walked (f : RegionContent) (most newest end : ℕ) : Type 0 where
  pub records : List UndoRecord
  pub links : Links f newest records
  pub ends : taken records ≡ end
  pub within : Within most records
  pub oldest : (all : List UndoRecord) → Links f (f 3) all → IsTail all records

pub walked_none : (f : RegionContent) (most : ℕ) → Walked f most 0 0
walked_none f most = record { records = []; links = refl; ends = refl; within = tt; oldest = λ all l. tail_none all }

-- the next one behind them, where the header names another as the newest
next_of : (f : RegionContent) (most newest at : ℕ) (w : Walked f most newest at) (all : List UndoRecord) → Links f (f 3) all → newest ≢ f 3 → (r : UndoRecord) × IsTail all (r ∷ w.records)
next_of f most newest at w all l other = elim (tail_next all w.records (w.oldest all l)) [
  | inl e ↦ absurd (other (one_head f newest (f 3) w.records w.links (subst (λ xs. Links f (f 3) xs) e l)))
  | inr x ↦ x
]

pub walked_more : (f : RegionContent) (room most newest at next end : ℕ) → Walked f most newest at → newest ≢ f 3 → IsRecordAt f room most at newest end → next ≡ suc at → Walked f most next end
walked_more f room most newest at next end w other h is = record {
  records = record_at f at ∷ w.records;
  links = (is ∙ ap suc (sym w.ends), subst (λ p. IsRecord f p (record_at f at)) (sym w.ends) (record_there f at), subst (λ x. Links f x w.records) (sym (ap (undo_word f) w.ends ∙ h.older_is)) w.links);
  ends = let ends = w.ends in let long = long_at f at in let end_is = h.end_is in omega (arith, ends, long, end_is);
  within = (let first = first_at f at in let long = long_at f at in let within = h.within in omega (arith, first, long, within), w.within);
  oldest = λ all l. older_too all l (next_of f most newest at w all l other);
}
  where
    older_too : (all : List UndoRecord) → Links f (f 3) all → (r : UndoRecord) × IsTail all (r ∷ w.records) → IsTail all (record_at f at ∷ w.records)
    older_too all l x =
        let links = tail_links f (f 3) all (x.0 ∷ w.records) l x.1 in
        subst (λ (r : UndoRecord). IsTail all (r ∷ w.records)) (sym (record_is f at x.0 (subst (λ p. IsRecord f p x.0) w.ends links.1.1))) x.1

pub walked_all : (f : RegionContent) (room most head end : ℕ) → Walked f most head end → head ≡ f 3 → end ≤ room → HasRecords f room most
walked_all f room most head end w is fits =
    let links : Links f (f 3) w.records = subst (λ h. Links f h w.records) is w.links in
    let all : undo_records f ≡ w.records = records_are f (f 3) (f 3) w.records links (omega arith) in
    record {
      links = subst (λ xs. Links f (f 3) xs) (sym all) links;
      fits = subst (λ xs. taken xs ≤ room) (sym all) (let ends = w.ends in omega (arith, ends, fits));
      within = subst (λ xs. Within most xs) (sym all) w.within;
    }

-- where none lies behind them that is as it has to be, the header names no such records
pub walked_ends : (f : RegionContent) (room most newest at : ℕ) → Walked f most newest at → newest ≢ f 3 → ((end : ℕ) → ¬ IsRecordAt f room most at newest end) → ¬ HasRecords f room most
walked_ends f room most newest at w other none h = by (next_of f most newest at w (undo_records f) h.links other)
  where
    by : (r : UndoRecord) × IsTail (undo_records f) (r ∷ w.records) → ⊥
    by x =
        let links = tail_links f (f 3) (undo_records f) (x.0 ∷ w.records) h.links x.1 in
        let is : IsRecord f at x.0 = subst (λ p. IsRecord f p x.0) w.ends links.1.1 in
        let first : undo_word f (at + 1) ≡ x.0.first = is.first in
        let count : undo_word f (at + 2) ≡ length x.0.old = is.count in
        let ends = w.ends in
        let below = tail_taken (undo_records f) (x.0 ∷ w.records) x.1 in
        let room_left = h.fits in
        let within = tail_within most (undo_records f) (x.0 ∷ w.records) h.within x.1 in
        let inside = within.0 in
        none (at + 3 + undo_word f (at + 2)) (record {
          older_is = ap (undo_word f) (sym w.ends) ∙ one_head f _ newest w.records links.1.2 w.links;
          end_is = refl;
          fits = omega (arith, count, ends, below, room_left);
          within = omega (arith, first, count, inside);
        })

-- ---- records put back from the newest on

-- those that a head names are linked, and lie in the first `room` undo words
pub record Chain (f : RegionContent) (room head : ℕ) : Type 0 where
  pub links : Links f head (records_from f head head)
  pub fits : taken (records_from f head head) ≤ room

-- the newest of them lies at an undo word
pub record Follows (f : RegionContent) (room head at : ℕ) : Type 0 where
  pub is : records_from f head head ≡ record_at f at ∷ records_from f (undo_word f at) (undo_word f at)
  pub older : Chain f room (undo_word f at)
  pub fits : at + 3 + undo_word f (at + 2) ≤ room
  pub falls : undo_word f at < head

one_step : (f : RegionContent) (p : ℕ) → records_from f (suc p) (suc p) ≡ record_at f p ∷ records_from f p (undo_word f p)
unfolding records_from
one_step f p = refl

follows_suc : (f : RegionContent) (room p : ℕ) → Chain f room (suc p) → Follows f room (suc p) p
follows_suc f room p c =
    let older : List UndoRecord = records_from f p (undo_word f p) in
    let links : Links f (suc p) (record_at f p ∷ older) = subst (λ xs. Links f (suc p) xs) (one_step f p) c.links in
    let fits : taken older + 3 + length (record_at f p).old ≤ room = subst (λ xs. taken xs ≤ room) (one_step f p) c.fits in
    let at : p ≡ taken older = let e = links.0 in omega (arith, e) in
    let rest : Links f (undo_word f p) older = subst (λ x. Links f (undo_word f x) older) (sym at) links.2 in
    let low = links_head f (undo_word f p) older rest in
    let same : records_from f (undo_word f p) (undo_word f p) ≡ older = records_are f (undo_word f p) (undo_word f p) older rest (omega arith) in
    let long = long_at f p in
    record {
      is = one_step f p ∙ ap (λ (xs : List UndoRecord). record_at f p ∷ xs) (sym same);
      older = record { links = subst (λ xs. Links f (undo_word f p) xs) (sym same) rest; fits = subst (λ xs. taken xs ≤ room) (sym same) (omega (arith, fits)) };
      fits = omega (arith, fits, at, long);
      falls = omega (arith, low, at);
    }

pub follows : (f : RegionContent) (room head at : ℕ) → head ≡ suc at → Chain f room head → Follows f room head at
follows f room head at is c = subst (λ h. Follows f room h at) (sym is) (follows_suc f room at (subst (λ h. Chain f room h) is c))

no_records : (f : RegionContent) → records_from f 0 0 ≡ []
unfolding records_from
no_records f = refl

-- a record put back over words leaves the words of before as they are
over_own : (r : UndoRecord) (old : List ℕ) (m : ℕ → ℕ) (q : ℕ) → length old ≡ length r.old → ((k : ℕ) → k < length r.old → slice_index old k ≡ slice_index r.old k) → put_over r.first old m q ≡ word_or (own_word r q) (m q)
unfolding own_word
over_own r old m q long each = ap (λ n. cond (nat_le r.first q && nat_lt q (r.first + n)) (slice_index old (q - r.first)) (m q)) long ∙ by (covers r q) (λ inside. each (q - r.first) (grind (arith, nat_tests)))
  where
    by : (b : Bool) → (b ≡ true → slice_index old (q - r.first) ≡ slice_index r.old (q - r.first)) → cond b (slice_index old (q - r.first)) (m q) ≡ word_or (cond b (Some (slice_index r.old (q - r.first))) None) (m q)
    by true h = h refl
    by false h = refl

joined : (o p : Option ℕ) (w : ℕ) → word_or (first_some o p) w ≡ word_or o (word_or p w)
joined (Some v) p w = refl
joined None p w = refl

pub put_step : (f : RegionContent) (room head at : ℕ) (old : List ℕ) (m next : ℕ → ℕ) (q : ℕ) → Follows f room head at → length old ≡ undo_word f (at + 2) → ((k : ℕ) → k < undo_word f (at + 2) → slice_index old k ≡ undo_word f (at + 3 + k)) → next q ≡ put_over (undo_word f (at + 1)) old m q → before_by (records_from f (undo_word f at) (undo_word f at)) next q ≡ before_by (records_from f head head) m q
put_step f room head at old m next q h long each put =
    let older : List UndoRecord = records_from f (undo_word f at) (undo_word f at) in
    let own : put_over (undo_word f (at + 1)) old m q ≡ word_or (own_word (record_at f at) q) (m q) = ap (λ x. put_over x old m q) (sym (first_at f at)) ∙ over_own (record_at f at) old m q (long ∙ sym (long_at f at)) (λ k small. let less : k < undo_word f (at + 2) = subst (λ n. k < n) (long_at f at) small in each k less ∙ sym (old_at f at k less)) in
    ap (word_or (saved_word older q)) (put ∙ own) ∙ sym (joined (saved_word older q) (own_word (record_at f at) q) (m q)) ∙ ap (λ (rs : List UndoRecord). before_by rs m q) (sym h.is)

pub put_all : (f : RegionContent) (m : ℕ → ℕ) (head q : ℕ) → head ≡ 0 → before_by (records_from f head head) m q ≡ m q
put_all f m head q none = ap (λ x. before_by (records_from f x x) m q) none ∙ ap (λ (rs : List UndoRecord). before_by rs m q) (no_records f)

-- ---- words that are the same in the header and the undo pages

pub records_on : (f g : RegionContent) (room most : ℕ) → ((y : ℕ) → y < 512 + room → g y ≡ f y) → HasRecords f room most → HasRecords g room most × (undo_records g ≡ undo_records f)
records_on f g room most same h =
    let rs : List UndoRecord = undo_records f in
    let fits = h.fits in
    let links : Links g (g 3) rs = subst (λ x. Links g x rs) (sym (same 3 (omega arith))) (links_same f g (f 3) rs (λ p small. same (512 + p) (omega (arith, fits, small))) h.links) in
    let all : undo_records g ≡ rs = records_are g (g 3) (g 3) rs links (omega arith) in (
      record {
        links = subst (λ xs. Links g (g 3) xs) (sym all) links;
        fits = subst (λ xs. taken xs ≤ room) (sym all) h.fits;
        within = subst (λ xs. Within most xs) (sym all) h.within;
      },
      all,
    )
