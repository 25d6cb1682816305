-- A block becomes part of an update.
use Rattle.cached_pages.proofs.Common.{is_some, ◌≡◌, ◌≢◌, ℕ, ◌+◌, ◌-◌, ◌<◌, ◌≤◌, ◌==◌, ◌||◌, not, Bool, true, false, ◌⊎◌, if◌then◌else◌, List, slice_index, slice_set, Option, Some, None, refl, ◌∙◌, ap, sym, subst, inl, inr, arith, cases_eq, eq-eqb, ne_eqb, Contents, Lasts, Running, Steps, true_false, Firm, Goes, PageName, HeldEntry, Keeps, SameNames, entry_of_block, name_in, found_kept, entry_one, frames_one, found_is, coherent_on, IsValid, OneEntry, frames_of, gate_of, is_dirty, shadow_at, tag_at, tag_block, is_pinned, pins_in}
use Rattle.std.proofs.Common.{get_or-set_same, get_or-set_other}
use Rattle.rio_base.specs.Blocks.{CanName, SamePage}
use Rattle.rio_base.specs.Volume.{HasRoom, Touches, with_block}
use Rattle.rio_model.specs.Cover.{name_at}
use Rattle.rio_model.specs.Registry.{is_data}
use Rattle.rio_model.proofs.CoverStands.{found_named, name_same}
use Rattle.cached_pages.specs.declared.tables.CacheTables.{CacheTables}
use Rattle.cached_pages.specs.Caches.{Adds, CacheSound, FewWrites, IsListed, SameTables, SameTouches, cache_below, cache_health, cache_kept, has_shadow, cache_seen, is_touched, was_forgotten}
use Rattle.cached_pages.specs.Updating.{GivesShadow, SameButPins, SamePages}
use Rattle.cached_pages.proofs.Goes.{goes_few}
use Rattle.cached_pages.proofs.Stores.{name_held, name_other}
use Rattle.cached_pages.proofs.Updates.{blocks_named, sound_with, valid_before}

-- ---- a block that is asked for under no name is one of metadata

unnamed : (d : Bool) (p : PageName) → (if d then Some p else None) ≡ None → d ≡ false
unnamed true p e = absurd cc
unnamed false p e = refl

no_page : (o : Option PageName) → SamePage o None → o ≡ None
no_page None h = refl
no_page (Some p) h = absurd h

pub metadata_of : (b k : ℕ) (a c : Contents) → CanName (cache_seen a) b None → Adds b None a.words c.words → entry_of_block c.words b ≡ Some k → is_data (tag_at c.words k) ≡ false
metadata_of b k a c can h found = unnamed (is_data (tag_at c.words k)) (name_at c.words k) (from (h.named k found))
  where
    from : ((entry_of_block a.words b ≡ Some k) × (name_in c.words (Some k) ≡ name_in a.words (Some k))) ⊎ (name_in c.words (Some k) ≡ None) → name_in c.words (Some k) ≡ None
    from (inl was) = was.1 ∙ ap (name_in a.words) (sym was.0) ∙ no_page _ (can.agrees (ap is_some was.0))
    from (inr is) = is

-- ---- an entry gets the next shadow

pub shadow_kept : (k : ℕ) (old new : List ℕ) → ((j : ℕ) → j ≢ k → j < frames_of old → shadow_at new j ≡ shadow_at old j) → shadow_at new k ≡ shadow_at old k → (j : ℕ) → j < frames_of old → shadow_at new j ≡ shadow_at old j
shadow_kept k old new others same j less = from (cases_eq j k)
  where
    from : (j ≡ k) ⊎ (j ≢ k) → shadow_at new j ≡ shadow_at old j
    from (inl e) = subst (λ x. shadow_at new x ≡ shadow_at old x) (sym e) same
    from (inr ne) = others j ne less

pub given_sound : (n m k : ℕ) (old new : Contents) (t u : CacheTables) → CacheSound old n t → m ≡ n → Keeps old new → new ≡ record old { words = new.words } → new.open_page ≡ None → SameNames old.words new.words → gate_of old.words ≡ 1 → IsValid old.words k → is_dirty (tag_at old.words k) ≡ true → t.shadows < 16
    → shadow_at new.words k ≡ t.shadows + 1 → ((j : ℕ) → j ≢ k → j < frames_of old.words → shadow_at new.words j ≡ shadow_at old.words j)
    → SameButPins t u → u.shadows ≡ t.shadows + 1 → u.shadowed ≡ slice_set t.shadowed t.shadows k → is_pinned u.pool k ≡ true → ((j : ℕ) → j ≢ k → is_pinned u.pool j ≡ is_pinned t.pool j) → pins_in u.pool ≤ pins_in t.pool + 1 → CacheSound new m u
given_sound n m k old new t u s same h rest closed names is v dirty room given others pins count list pinned kept most = sound_with n m old new t u s (coherent_on new n m same (h.coherent n s.coherent)) closed (ap (λ (c : Contents). c.disk) rest) (ap (λ (c : Contents). c.pending) rest) names.frames (blocks_named old.words new.words names) pins (record {
  most = rw count (omega (arith, room));
  shadows = λ j w some. shadows j (valid_before old.words new.words j names w) some (cases_eq j k);
  listed = λ i less. rw names.frames (listed i (subst (λ c. i < c) count less) (cases_eq i t.shadows));
  edited = λ now j w some. edited j (valid_before old.words new.words j names w) some (cases_eq j k);
  pinned = λ j e. (h.header 4 (omega arith) ∙ is, places j e (cases_eq j k));
  few = rw count (omega (arith, most, s.few));
})
  where
    here : slice_index u.shadowed t.shadows ≡ k
    here = ap (λ (xs : List ℕ). slice_index xs t.shadows) list ∙ get_or-set_same t.shadowed t.shadows k 0 (subst (λ c. t.shadows < c) (sym s.room) room)

    there : (i : ℕ) → i ≢ t.shadows → slice_index u.shadowed i ≡ slice_index t.shadowed i
    there i ne = ap (λ (xs : List ℕ). slice_index xs i) list ∙ get_or-set_other t.shadowed t.shadows i k 0 ne

    shadows : (j : ℕ) → IsValid old.words j → shadow_at new.words j ≢ 0 → (j ≡ k) ⊎ (j ≢ k) → (shadow_at new.words j ≤ u.shadows) × (slice_index u.shadowed (shadow_at new.words j - 1) ≡ j)
    shadows j w some (inl e) =
        let at : shadow_at new.words j ≡ t.shadows + 1 = ap (shadow_at new.words) e ∙ given in
        (omega (arith, at, count), ap (slice_index u.shadowed) (omega (arith, at)) ∙ here ∙ sym e)
    shadows j w some (inr ne) =
        let same_shadow = others j ne w.within in
        let r = s.shadows j w (λ z. some (same_shadow ∙ z)) in
        (omega (arith, r.0, same_shadow, count), there (shadow_at new.words j - 1) (λ q. absurd (omega (arith, q, r.0, same_shadow, some))) ∙ ap (λ x. slice_index t.shadowed (x - 1)) same_shadow ∙ r.1)

    listed : (i : ℕ) → i < t.shadows + 1 → (i ≡ t.shadows) ⊎ (i ≢ t.shadows) → slice_index u.shadowed i < frames_of old.words
    listed i less (inl e) = subst (λ x. x < frames_of old.words) (sym (ap (slice_index u.shadowed) e ∙ here)) v.within
    listed i less (inr ne) = subst (λ x. x < frames_of old.words) (sym (there i ne)) (s.listed i (omega (arith, less, ne)))

    edited : (j : ℕ) → IsValid old.words j → shadow_at new.words j ≢ 0 → (j ≡ k) ⊎ (j ≢ k) → (is_dirty (tag_at new.words j) ≡ true) × (is_pinned u.pool j ≡ true)
    edited j w some (inl e) = subst (λ x. (is_dirty (tag_at new.words x) ≡ true) × (is_pinned u.pool x ≡ true)) (sym e) (ap is_dirty (names.tag k v.within) ∙ dirty, pinned)
    edited j w some (inr ne) = let r = s.edited is j w (λ z. some (others j ne w.within ∙ z)) in (ap is_dirty (names.tag j w.within) ∙ r.0, kept j ne ∙ r.1)

    places : (j : ℕ) → is_pinned u.pool j ≡ true → (j ≡ k) ⊎ (j ≢ k) → IsListed u j
    places j e (inl q) = record { place = t.shadows; within = rw count (omega arith); here = here ∙ sym q }
    places j e (inr ne) = let r = (s.pinned j (sym (kept j ne) ∙ e)).1 in record { place = r.place; within = rw count (omega (arith, r.within)); here = there r.place (λ q. absurd (omega (arith, q, r.within))) ∙ r.here }

-- ---- pages of entries

pub pages_held : (k : ℕ) (old new : List ℕ) → OneEntry k old new → HeldEntry k old new → SamePages old new
pages_held k old new one held = record { frames = frames_one k old new one; found = λ b. found_kept k b old new one held.valid held.block; named = λ j less. name j (cases_eq j k) }
  where
    name : (j : ℕ) → (j ≡ k) ⊎ (j ≢ k) → name_in new (Some j) ≡ name_in old (Some j)
    name j (inl e) = subst (λ x. name_in new (Some x) ≡ name_in old (Some x)) (sym e) (name_held k old new held)
    name j (inr ne) = name_other k j old new one ne

pub pages_named : (old new : List ℕ) → SameNames old new → SamePages old new
pages_named old new names = record { frames = names.frames; found = λ b. found_named old new b names; named = λ k less. name_same old new k names less }

pub pages_trans : (a b c : List ℕ) → SamePages a b → SamePages b c → SamePages a c
pages_trans a b c h i = record { frames = i.frames ∙ h.frames; found = λ x. i.found x ∙ h.found x; named = λ k less. i.named k (subst (λ f. k < f) (sym h.frames) less) ∙ h.named k less }

-- ---- a frame gets a shadow

-- it is dirty first, and then gets one
pub gives_next : (k : ℕ) (a b c : List ℕ) (t u : CacheTables) → OneEntry k a b → HeldEntry k a b → shadow_at a k ≡ 0 → shadow_at c k ≢ 0 → ((j : ℕ) → j ≢ k → j < frames_of b → shadow_at c j ≡ shadow_at b j) → u.shadows ≡ t.shadows + 1 → GivesShadow k a c t u
gives_next k a b c t u one held bare some others count = record {
  some = some;
  others = λ j ne less. others j ne (subst (λ f. j < f) (sym (frames_one k a b one)) less) ∙ entry_one k j 4 a b one ne (omega arith);
  count = count ∙ rw bare refl;
}

-- it has one
pub gives_had : (k : ℕ) (words : List ℕ) (t : CacheTables) → shadow_at words k ≢ 0 → GivesShadow k words words t t
gives_had k words t some = record { some = some; others = λ j ne less. refl; count = rw (ne_eqb _ _ some) refl }

is_touched_at : (words : List ℕ) (b k : ℕ) → gate_of words ≡ 1 → entry_of_block words b ≡ Some k → is_touched words b ≡ not (shadow_at words k == 0)
is_touched_at words b k is found = rw (eq-eqb _ _ is) (ap (has_shadow words) found)

not_zero : (s : ℕ) → not (s == 0) ≡ true → s ≢ 0
not_zero s e z = true_false (sym e ∙ ap (λ x. not (x == 0)) z)

pub room_of : (b k : ℕ) (old mid : Contents) (t u : CacheTables) → gate_of old.words ≡ 1 → Keeps old mid → SameTouches old.words mid.words → SameTables t u → entry_of_block mid.words b ≡ Some k → HasRoom (cache_kept old t) b → (shadow_at mid.words k ≢ 0) ⊎ (u.shadows < 16)
room_of b k old mid t u is keeps touches tables found (inl e) = inl (not_zero (shadow_at mid.words k) (sym (is_touched_at mid.words b k (keeps.header 4 (omega arith) ∙ is) found) ∙ ap (λ (f : ℕ → Bool). f b) touches.touched ∙ e))
room_of b k old mid t u is keeps touches tables found (inr less) = inr (subst (λ n. n < 16) (sym tables.shadows) (subst (λ x. (if x then t.shadows else 0) < 16) (eq-eqb _ _ is) less))

-- no block is found for entry k but its own
other_entry : (words : List ℕ) (b c j k : ℕ) → entry_of_block words b ≡ Some k → c ≢ b → entry_of_block words c ≡ Some j → j ≢ k
other_entry words b c j k found ne e q = ne (sym (found_is words c j e).1 ∙ ap (λ x. tag_block (tag_at words x)) q ∙ (found_is words b k found).1)

touched_now : (b k : ℕ) (mid new : List ℕ) (u v : CacheTables) → gate_of mid ≡ 1 → gate_of new ≡ 1 → SamePages mid new → GivesShadow k mid new u v → entry_of_block mid b ≡ Some k → (c : ℕ) → is_touched new c ≡ with_block (is_touched mid) b c
touched_now b k mid new u v was is pages gives found c = from (cases_eq c b)
  where
    at : (o : Option ℕ) → c ≢ b → entry_of_block mid c ≡ o → has_shadow new o ≡ has_shadow mid o
    at None ne e = refl
    at (Some j) ne e = ap (λ s. not (s == 0)) (gives.others j (other_entry mid b c j k found ne e) (found_is mid c j e).0.within)

    from : (c ≡ b) ⊎ (c ≢ b) → is_touched new c ≡ with_block (is_touched mid) b c
    from (inl e) = ap (is_touched new) e ∙ is_touched_at new b k is (pages.found b ∙ found) ∙ ap not (ne_eqb (shadow_at new k) 0 gives.some) ∙ sym (rw (eq-eqb c b e) refl)
    from (inr ne) = rw (eq-eqb _ _ is, eq-eqb _ _ was, ne_eqb c b ne) (ap (has_shadow new) (pages.found c) ∙ at (entry_of_block mid c) ne refl)

count_now : (s n : ℕ) → (if s == 0 then n + 1 else n) ≡ (if not (s == 0) then n else n + 1)
count_now s n = by (s == 0)
  where
    by : (x : Bool) → (if x then n + 1 else n) ≡ (if not x then n else n + 1)
    by true = refl
    by false = refl

if_open : (g n : ℕ) → g ≡ 1 → (if g == 1 then n else 0) ≡ n
if_open g n e = rw e refl

pub touches_after : (b k : ℕ) (old mid new : Contents) (t u v : CacheTables) → gate_of old.words ≡ 1 → Keeps old mid → Keeps mid new → SameTouches old.words mid.words → SameTables t u → SamePages mid.words new.words → GivesShadow k mid.words new.words u v → entry_of_block mid.words b ≡ Some k → Touches b (cache_kept old t) (cache_kept new v)
touches_after b k old mid new t u v is h i touches tables pages gives found = record {
  updating = ap (λ g. g == 1) (i.header 4 (omega arith) ∙ h.header 4 (omega arith));
  touched = λ x c. (touched_now b k mid.words new.words u v was now pages gives found c ∙ ap (λ (f : ℕ → Bool). with_block f b c) touches.touched) x;
  touches = if_open (gate_of new.words) v.shadows now ∙ gives.count ∙ ap (λ n. if shadow_at mid.words k == 0 then n + 1 else n) tables.shadows ∙ count_now (shadow_at mid.words k) t.shadows
      ∙ ap (λ x. if x then t.shadows else t.shadows + 1) (sym (is_touched_at mid.words b k was found) ∙ ap (λ (f : ℕ → Bool). f b) touches.touched)
      ∙ ap (λ n. if is_touched old.words b then n else n + 1) (sym (if_open (gate_of old.words) t.shadows is));
}
  where
    was : gate_of mid.words ≡ 1
    was = h.header 4 (omega arith) ∙ is

    now : gate_of new.words ≡ 1
    now = i.header 4 (omega arith) ∙ was

pub adds_pages : (b : ℕ) (name : Option PageName) (a c d : List ℕ) → Adds b name a c → SamePages c d → Adds b name a d
adds_pages b name a c d h i = record {
  others = λ x k ne e. let f = sym (i.found x) ∙ e in let was = h.others x k ne f in (was.0, i.named k (found_is c x k f).0.within ∙ was.1);
  named = λ k e. let f = sym (i.found b) ∙ e in from k (i.named k (found_is c b k f).0.within) (h.named k f);
}
  where
    from : (k : ℕ) → name_in d (Some k) ≡ name_in c (Some k) → ((entry_of_block a b ≡ Some k) × (name_in c (Some k) ≡ name_in a (Some k))) ⊎ (name_in c (Some k) ≡ name) → ((entry_of_block a b ≡ Some k) × (name_in d (Some k) ≡ name_in a (Some k))) ⊎ (name_in d (Some k) ≡ name)
    from k same (inl was) = inl (was.0, same ∙ was.1)
    from k same (inr is) = inr (same ∙ is)

loose_either : (f g a b : Bool) → g ≡ f → (b ≡ true → a ≡ true) → (g || b) ≡ true → (f || a) ≡ true
loose_either true g a b e h l = refl
loose_either false g a b e h l = h (sym (ap (λ y. y || b) e) ∙ l)

pub firm_forgotten : (old new : Contents) (t u : CacheTables) → u.forgotten ≡ t.forgotten → Keeps old new → Firm (cache_kept old t) (cache_kept new u)
firm_forgotten old new t u e h = record { loose = λ b l. loose_either (was_forgotten t b) (was_forgotten u b) _ _ (rw e refl) (h.firm b) l }

-- ---- how it ends

pub touch_goes : (b : ℕ) (t : CacheTables) (old new : Contents) (r s : Running) → Keeps old new → Lasts old new → Steps r s → FewWrites b t old new → Goes (cache_health old r) (cache_below old r) (cache_health new s) (cache_below new s)
touch_goes b t old new r s h l st few = goes_few b t old new r s l st (h.header 2 (omega arith)) few
