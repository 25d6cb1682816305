-- Several steps in a row: what stops the board among them, and what they leave.
use Rattle.std.proofs.Common.{◌≡◌, ℕ, ◌+◌, ◌-◌, ◌^◌, ◌<◌, ◌≤◌, true, false, ◌⊎◌, List, slice_set, Option, Some, None, refl, sym, ◌∙◌, ap, subst, inl, inr, arith}
use Rattle.std.proofs.lemmas.Bool.{cases_lt}
use Rattle.rio_base.proofs.MachineRules.{raised_more}
use Rattle.rio_base.specs.Disks.{raised}
use Rattle.rio_base.specs.Rules.{true_false}
use Rattle.rio_base.specs.declared.wild.Wild.TheVariants.{Trapped, Spared}
use Rattle.board.specs.declared.guard.Armed.{Armed}
use Rattle.board.specs.declared.guard.Guard.{Guard}
use Rattle.board.specs.Guards.{FallsBy, FallsWithin, Halts, HaltsSooner, HaltsWithin, IsClear, IsDue, IsOver, Lands, Makes, MakesSteps, Proceeds, counted, later, left_of, with_fallen}

-- a stop that is given is a u64
abbrev pub StopFits : Guard → Type 0
StopFits g = (most : ℕ) → g.stop_after ≡ Some most → most < 2 ^ 64

-- ---- counts

later_more : (k n : ℕ) (o : Option Armed) → later n (later k o) ≡ later (k + n) o
later_more k n None = refl
later_more k n (Some a) = ap (λ (left : ℕ). Some (record a { left = left })) (omega arith)

counted_more : (k n : ℕ) (g : Guard) → counted n (counted k g) ≡ counted (k + n) g
counted_more k n g = ap (λ (steps : ℕ). record g { steps = steps; armed = later n (later k g.armed) }) (raised_more g.steps k n) ∙ ap (λ (o : Option Armed). record g { steps = raised g.steps (k + n); armed = o }) (later_more k n g.armed)

pub later_some : (n : ℕ) (o : Option Armed) (a : Armed) → later n o ≡ Some a → (b : Armed) × (o ≡ Some b) × (a ≡ record b { left = b.left - n })
later_some n None a e = absurd (cc)
later_some n (Some b) a e = (b, refl, cc)

-- ---- which steps halt

not_over : (g : Guard) → (IsOver g → ⊥) → (most : ℕ) → g.stop_after ≡ Some most → g.steps < most
not_over g over most e = by_room (cases_lt g.steps most)
  where
    by_room : (g.steps < most) ⊎ (most ≤ g.steps) → g.steps < most
    by_room (inl less) = less
    by_room (inr more) = absurd (over (inr (most, e, more)))

-- what stops the next step stops one of the next n
pub halts_within : (g : Guard) (n size : ℕ) → 0 < n → Halts g size → HaltsWithin g n size
halts_within g n size some (inl (inl stopped)) = inl (stopped, some)
halts_within g n size some (inl (inr (most, is, over))) = inr (inl (most, is, omega (arith, some, over)))
halts_within g n size some (inr (a, (is, due), traps)) = inr (inr (a, is, traps, omega (arith, some, due)))

pub never_at_once : (g : Guard) (size : ℕ) → HaltsWithin g 0 size → ⊥
never_at_once g size (inl s) = omega (arith, s.1)
never_at_once g size (inr (inl t)) = omega (arith, t.2)
never_at_once g size (inr (inr t)) = omega (arith, t.3)

pub sooner_none : (size : ℕ) (g : Guard) → HaltsSooner 0 size g g
sooner_none size g = λ m. (λ h. subst (λ n. HaltsWithin g n size) (omega arith) h, λ h. subst (λ n. HaltsWithin g n size) (omega arith) h)

pub sooner_more : (k n size : ℕ) (old mid new : Guard) → HaltsSooner k size old mid → HaltsSooner n size mid new → HaltsSooner (k + n) size old new
sooner_more k n size old mid new h i = λ m. (
  λ e. subst (λ j. HaltsWithin old j size) (omega arith) ((h (n + m)).0 ((i m).0 e)),
  λ e. (i m).1 ((h (n + m)).1 (subst (λ j. HaltsWithin old j size) (omega arith) e)),
)

-- steps before which nothing comes
pub sooner_clear : (n size : ℕ) (old new : Guard) → old.stopped ≡ false → IsClear old n → StopFits old → new ≡ counted n old → HaltsSooner n size old new
sooner_clear n size old new runs clear fits e = subst (λ (g : Guard). HaltsSooner n size old g) (sym e) (λ m. (forward m, backward m))
  where
    forward : (m : ℕ) → HaltsWithin (counted n old) m size → HaltsWithin old (n + m) size
    forward m (inl s) = absurd (true_false (sym s.0 ∙ runs))
    forward m (inr (inl t)) = inr (inl (t.0, t.1, omega (arith, t.2)))
    forward m (inr (inr t)) =
        let l = later_some n old.armed t.0 t.1 in
        let sooner : l.0.left - n < m = subst (λ (a : Armed). a.left < m) l.2 t.3 in
        inr (inr (l.0, l.1, subst (λ (a : Armed). Lands old size a.at.0 Trapped) l.2 t.2, omega (arith, sooner)))

    backward : (m : ℕ) → HaltsWithin old (n + m) size → HaltsWithin (counted n old) m size
    backward m (inl s) = absurd (true_false (sym s.0 ∙ runs))
    backward m (inr (inl t)) = inr (inl (t.0, t.1, omega (arith, t.2, clear.left t.0 t.1, fits t.0 t.1)))
    backward m (inr (inr t)) = inr (inr (record t.0 { left = t.0.left - n }, ap (later n) t.1, t.2, omega (arith, t.3, clear.armed t.0 t.1)))

-- a step before which the armed store falls
sooner_fell : (size : ℕ) (old new : Guard) (a : Armed) → (IsOver old → ⊥) → StopFits old → old.armed ≡ Some a → (Lands old size a.at.0 Trapped → ⊥) → new.stopped ≡ old.stopped → new.stop_after ≡ old.stop_after → new.steps ≡ raised old.steps 1 → new.armed ≡ None → HaltsSooner 1 size old new
sooner_fell size old new a over fits armed lands stopped stops steps gone = λ m. (forward m, backward m)
  where
    forward : (m : ℕ) → HaltsWithin new m size → HaltsWithin old (1 + m) size
    forward m (inl s) = absurd (over (inl (sym stopped ∙ s.0)))
    forward m (inr (inl t)) = inr (inl (t.0, sym stops ∙ t.1, omega (arith, t.2, steps)))
    forward m (inr (inr t)) = absurd (none_armed t.0 t.1)
      where
        none_armed : (b : Armed) → new.armed ≡ Some b → ⊥
        none_armed b e = cc

    backward : (m : ℕ) → HaltsWithin old (1 + m) size → HaltsWithin new m size
    backward m (inl s) = absurd (over (inl s.0))
    backward m (inr (inl t)) = inr (inl (t.0, stops ∙ t.1, omega (arith, t.2, steps, fits t.0 t.1, not_over old over t.0 t.1)))
    backward m (inr (inr t)) = absurd (lands (subst (λ (b : Armed). Lands old size b.at.0 Trapped) (same t.0 t.1) t.2))
      where
        same : (b : Armed) → old.armed ≡ Some b → b ≡ a
        same b e = cc

pub clear_one : (g : Guard) → (IsOver g → ⊥) → ((a : Armed) → IsDue g a → ⊥) → IsClear g 1
clear_one g over due = record { left = λ most e. omega (arith, not_over g over most e); armed = λ a e. by_left a e (cases_lt 0 a.left) }
  where
    by_left : (a : Armed) → g.armed ≡ Some a → (0 < a.left) ⊎ (a.left ≤ 0) → 1 ≤ a.left
    by_left a e (inl more) = more
    by_left a e (inr none) = absurd (due a (e, omega (arith, none)))

pub runs_on : (g : Guard) → (IsOver g → ⊥) → g.stopped ≡ false
runs_on g over = by_flag g.stopped (λ e. over (inl e))
  where
    by_flag : (b : _) → (b ≡ true → ⊥) → b ≡ false
    by_flag false n = refl
    by_flag true n = absurd (n refl)

pub sooner_begun : (size : ℕ) (fallen : Option Armed) (old new : Guard) → Proceeds size fallen old new → StopFits old → HaltsSooner 1 size old new
sooner_begun size (Some a) old new h fits =
    let f = h.between.1 in
    let is : new ≡ record (counted 1 old) { armed = None } = h.between.2 ∙ ap (counted 1) f.2 in
    subst (λ (g : Guard). HaltsSooner 1 size old g) (sym is) (sooner_fell size old (record (counted 1 old) { armed = None }) a h.goes_on fits f.0.0 (λ t. omega (arith, f.1, t.0)) refl refl refl refl)
sooner_begun size None old new h fits = by_fall h.between.1
  where
    by_fall : FallsBy size None old h.between.0 → HaltsSooner 1 size old new
    by_fall (inl n) = sooner_clear 1 size old new (runs_on old h.goes_on) (clear_one old h.goes_on n.0) fits (h.between.2 ∙ ap (counted 1) n.1)
    by_fall (inr s) =
        let after : Guard = record (counted 1 old) { armed = None; spared = raised old.spared 1 } in
        let is : new ≡ after = h.between.2 ∙ ap (counted 1) s.3 in
        subst (λ (g : Guard). HaltsSooner 1 size old g) (sym is) (sooner_fell size old after s.0 h.goes_on fits s.1.0 (λ t. t.1 s.2) refl refl refl refl)

-- a step leaves the stop that is given
pub begun_fits : (size : ℕ) (fallen : Option Armed) (old new : Guard) → Proceeds size fallen old new → StopFits new → StopFits old
begun_fits size (Some a) old new h fits = λ most e. fits most (ap (λ (g : Guard). g.stop_after) (h.between.2 ∙ ap (counted 1) h.between.1.2) ∙ e)
begun_fits size None old new h fits = by_fall h.between.1
  where
    by_fall : FallsBy size None old h.between.0 → StopFits old
    by_fall (inl n) = λ most e. fits most (ap (λ (g : Guard). g.stop_after) (h.between.2 ∙ ap (counted 1) n.1) ∙ e)
    by_fall (inr s) = λ most e. fits most (ap (λ (g : Guard). g.stop_after) (h.between.2 ∙ ap (counted 1) s.3) ∙ e)

-- ---- what they leave

falls_one : (size : ℕ) (fallen : Option Armed) (old new : Guard) → Proceeds size fallen old new → FallsWithin 1 size fallen old new
falls_one size (Some a) old new h = let f = h.between.1 in (f.0.0, omega (arith, f.0.1), f.1, h.between.2 ∙ ap (counted 1) f.2)
falls_one size None old new h = by_fall h.between.1
  where
    by_fall : FallsBy size None old h.between.0 → FallsWithin 1 size None old new
    by_fall (inl n) = inl ((clear_one old h.goes_on n.0).armed, h.between.2 ∙ ap (counted 1) n.1)
    by_fall (inr s) = inr (s.0, s.1.0, omega (arith, s.1.1), s.2, h.between.2 ∙ ap (counted 1) s.3)

-- where nothing is armed, nothing falls
falls_none : (n size : ℕ) (g : Option Armed) (mid new : Guard) → mid.armed ≡ None → FallsWithin n size g mid new → (g ≡ None) × (new ≡ counted n mid)
falls_none n size (Some b) mid new e h = absurd (wrong b h.0)
  where
    wrong : (b : Armed) → mid.armed ≡ Some b → ⊥
    wrong b k = cc
falls_none n size None mid new e (inl h) = (refl, h.1)
falls_none n size None mid new e (inr h) = absurd (wrong h.0 h.1)
  where
    wrong : (b : Armed) → mid.armed ≡ Some b → ⊥
    wrong b k = cc

abbrev FallsThrough : ℕ → ℕ → Option Armed → Option Armed → Guard → Guard → Type 0
FallsThrough n size f g old new = (h : Option Armed) × FallsWithin n size h old new × ((s : List ℕ) → with_fallen size g (with_fallen size f s) ≡ with_fallen size h s)

-- k steps before which nothing fell, and then n
falls_clear : (k n size : ℕ) (g : Option Armed) (old new : Guard) → ((a : Armed) → old.armed ≡ Some a → k ≤ a.left) → FallsWithin n size g (counted k old) new → FallsThrough (k + n) size None g old new
falls_clear k n size (Some b) old new clear h =
    let l = later_some k old.armed b h.0 in
    let left : l.0.left - k < n = subst (λ (a : Armed). a.left < n) l.2 h.1 in
    let lands : size ≤ l.0.at.0 = subst (λ (a : Armed). size ≤ a.at.0) l.2 h.2 in
    (Some l.0, (l.1, omega (arith, left), lands, h.3 ∙ ap (λ (g : Guard). record g { armed = None }) (counted_more k n old)), λ s. ap (λ (a : Armed). slice_set s (a.at.0 - size) a.value) l.2)
falls_clear k n size None old new clear (inl h) = (None, inl (more, h.1 ∙ counted_more k n old), λ s. refl)
  where
    more : (a : Armed) → old.armed ≡ Some a → k + n ≤ a.left
    more a e = omega (arith, clear a e, h.0 (record a { left = a.left - k }) (ap (later k) e))
falls_clear k n size None old new clear (inr h) =
    let l = later_some k old.armed h.0 h.1 in
    let left : l.0.left - k < n = subst (λ (a : Armed). a.left < n) l.2 h.2 in
    (None, inr (l.0, l.1, omega (arith, left), subst (λ (a : Armed). Lands old size a.at.0 Spared) l.2 h.3, h.4 ∙ ap (λ (g : Guard). record g { armed = None; spared = raised old.spared 1 }) (counted_more k n old)), λ s. refl)

falls_more : (k n size : ℕ) (f g : Option Armed) (old mid new : Guard) → FallsWithin k size f old mid → FallsWithin n size g mid new → FallsThrough (k + n) size f g old new
falls_more k n size (Some a) g old mid new h i =
    let rest = falls_none n size g mid new (ap (λ (m : Guard). m.armed) h.3) i in
    let is : new ≡ record (counted (k + n) old) { armed = None } = rest.1 ∙ ap (counted n) h.3 ∙ ap (λ (steps : ℕ). record old { steps = steps; armed = None }) (raised_more old.steps k n) in
    (Some a, (h.0, omega (arith, h.1), h.2, is), λ s. ap (λ (o : Option Armed). with_fallen size o (with_fallen size (Some a) s)) rest.0)
falls_more k n size None g old mid new (inl h) i = falls_clear k n size g old new h.0 (subst (λ (m : Guard). FallsWithin n size g m new) h.1 i)
falls_more k n size None g old mid new (inr h) i =
    let rest = falls_none n size g mid new (ap (λ (m : Guard). m.armed) h.4) i in
    let is : new ≡ record (counted (k + n) old) { armed = None; spared = raised old.spared 1 } = rest.1 ∙ ap (counted n) h.4 ∙ ap (λ (steps : ℕ). record old { steps = steps; armed = None; spared = raised old.spared 1 }) (raised_more old.steps k n) in
    (None, inr (h.0, h.1, omega (arith, h.2), h.3, is), λ s. ap (λ (o : Option Armed). with_fallen size o s) rest.0)

pub makes_more : (k n size : ℕ) (first middle last : List ℕ) (old mid new : Guard) → MakesSteps k size first old middle mid → MakesSteps n size middle mid last new → MakesSteps (k + n) size first old last new
makes_more k n size first middle last old mid new h i =
    let both = falls_more k n size h.made.0 i.made.0 old mid new h.made.1 i.made.1 in
    record { made = (both.0, both.1, i.made.2 ∙ ap (with_fallen size i.made.0) h.made.2 ∙ both.2 first) }

counted_none : (g : Guard) → counted 0 g ≡ g
counted_none g = ap (λ (steps : ℕ). record g { steps = steps; armed = later 0 g.armed }) (omega arith) ∙ ap (λ (o : Option Armed). record g { armed = o }) (later_none g.armed)
  where
    later_none : (o : Option Armed) → later 0 o ≡ o
    later_none None = refl
    later_none (Some a) = ap (λ (left : ℕ). Some (record a { left = left })) (omega arith)

pub makes_none : (size : ℕ) (words : List ℕ) (g : Guard) → MakesSteps 0 size words g words g
makes_none size words g = record { made = (None, inl (λ a e. omega arith, sym (counted_none g)), refl) }

pub makes_one : (size : ℕ) (first last : List ℕ) (old new : Guard) → Makes size first old last new → MakesSteps 1 size first old last new
makes_one size first last old new h = record { made = (h.made.0, falls_one size h.made.0 old new h.made.1, h.made.2) }

pub makes_clear : (n size : ℕ) (words : List ℕ) (old new : Guard) → IsClear old n → new ≡ counted n old → MakesSteps n size words old words new
makes_clear n size words old new clear e = record { made = (None, inl (clear.armed, e), refl) }

-- a step before which the armed store falls, if it is due, and then n before which nothing comes
pub clear_behind : (n size : ℕ) (fallen : Option Armed) (old mid : Guard) → Proceeds size fallen old mid → IsClear mid n → 0 < left_of old.armed → 1 + n ≤ left_of old.armed
clear_behind n size fallen old mid h clear more = from fallen h.between.1
  where
    not_due : (a : Armed) → IsDue old a → ⊥
    not_due a due = let left : left_of old.armed ≡ a.left = ap left_of due.0 in omega (arith, left, due.1, more)

    waits : (o : Option Armed) → 0 < left_of o → ((a : Armed) → later 1 o ≡ Some a → n ≤ a.left) → 1 + n ≤ left_of o
    waits None some c = absurd (omega (arith, some))
    waits (Some a) some c = omega (arith, some, c (record a { left = a.left - 1 }) refl)

    from : (f : Option Armed) → FallsBy size f old h.between.0 → 1 + n ≤ left_of old.armed
    from (Some a) f = absurd (not_due a f.0)
    from None (inl f) =
        let armed : mid.armed ≡ later 1 old.armed = ap (λ (g : Guard). g.armed) (h.between.2 ∙ ap (counted 1) f.1) in
        waits old.armed more (λ a e. clear.armed a (armed ∙ e))
    from None (inr f) = absurd (not_due f.0 f.1)
