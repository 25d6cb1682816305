-- What the guard's steps are for the board as a machine.
use Rattle.std.proofs.Common.{◌≡◌, ◌≢◌, ℕ, ◌+◌, ◌-◌, ◌*◌, ◌/◌, ◌<◌, ◌≤◌, true, false, ◌⊎◌, List, length, drop, slice_index, slice_set, Option, Some, None, refl, le_refl, sym, ◌∙◌, ap, subst, inl, inr, arith, get_or-set_other, get_or-set_same, is_some}
use Rattle.std.specs.Option.{option_map}
use Rattle.std.proofs.lemmas.List.{length-set}
use Rattle.rio_base.specs.Disks.{raised}
use Rattle.rio_base.specs.Machine.{Advances, Falls, StepEnds, Steps}
use Rattle.rio_base.proofs.MachineRules.{advances_stop}
use Rattle.rio_base.specs.Rules.{none_some, true_false}
use Rattle.rio_base.specs.declared.places.WordAt.{WordAt}
use Rattle.rio_base.specs.declared.wild.Wild.TheVariants.{Trapped}
use Rattle.board.specs.declared.guard.Armed.{Armed}
use Rattle.board.specs.declared.guard.Guard.{Guard}
use Rattle.board.specs.Boards.{protected_count, protected_of, running_of, scratch_of}
use Rattle.board.proofs.Places.{drop_set, protected_same}
use Rattle.board.proofs.StepRuns.{clear_one, later_some, makes_one, runs_on}
use Rattle.board.specs.Guards.{FallsBy, FallsWithin, Halted, IsClear, IsDue, IsOver, Lands, Makes, MakesSteps, Proceeds, Traps, armed_place, counted, later, left_of, page_of, value_of}

-- ---- how many steps are made, whatever the words

some_inj : (x y : ℕ) → Some x ≡ Some y → x ≡ y
some_inj x y e = cc

-- the store that is due falls at the armed place
armed_at : (g : Guard) (a : Armed) (at : ℕ) → IsDue g a → armed_place g ≡ Some at → a.at.0 ≡ at
armed_at g a at due e = some_inj a.at.0 at (sym place ∙ e)
  where
    place : armed_place g ≡ Some a.at.0
    place = rw due.0 refl

later_place : (n : ℕ) (o : Option Armed) → option_map {T = Armed} (λ a. a.at.0) (later n o) ≡ option_map {T = Armed} (λ a. a.at.0) o
later_place n None = refl
later_place n (Some a) = refl

later_left : (n : ℕ) (o : Option Armed) (at : ℕ) → ((a : Armed) → o ≡ Some a → n ≤ a.left) → option_map {T = Armed} (λ a. a.at.0) (later n o) ≡ Some at → (left_of (later n o) + n ≡ left_of o) × (value_of (later n o) ≡ value_of o)
later_left n None at clear e = absurd (none_some at None refl e)
later_left n (Some a) at clear e = (omega (arith, clear a refl), refl)

over_advances : (old : Guard) (words now : List ℕ) (pages then : ℕ) → Advances 0 (running_of words pages old) (running_of now then (record old { stopped = true }))
over_advances old words now pages then = record { steps = omega arith; waits = λ at e. (omega arith, refl); fell = λ at e n. absurd (none_some at (armed_place old) n e) }

trap_advances : (old : Guard) (a : Armed) (words now : List ℕ) (pages then : ℕ) → IsDue old a → Advances 0 (running_of words pages old) (running_of now then (record old { stopped = true; armed = None; trapped = Some a.at }))
trap_advances old a words now pages then due = record { steps = omega arith; waits = λ at e. absurd (none_some at None refl e); fell = λ at e n. inr (rw due.0 due.1, refl, ap Some (armed_at old a at due e)) }

pub halted_advances : (size : ℕ) (old new : Guard) (words now : List ℕ) (pages then : ℕ) → Halted size old new → Advances 0 (running_of words pages old) (running_of now then new)
halted_advances size old new words now pages then h = from h.by
  where
    from : (IsOver old × (new ≡ record old { stopped = true })) ⊎ ((IsOver old → ⊥) × Traps size old new) → Advances 0 (running_of words pages old) (running_of now then new)
    from (inl o) = subst (λ (g : Guard). Advances 0 (running_of words pages old) (running_of now then g)) (sym o.1) (over_advances old words now pages then)
    from (inr t) = subst (λ (g : Guard). Advances 0 (running_of words pages old) (running_of now then g)) (sym t.1.3) (trap_advances old t.1.0 words now pages then t.1.1)

fell_advances : (n : ℕ) (old new : Guard) (a : Armed) (words now : List ℕ) (pages then : ℕ) → old.armed ≡ Some a → a.left < n → new.steps ≡ raised old.steps n → new.armed ≡ None → new.trapped ≡ old.trapped → Advances n (running_of words pages old) (running_of now then new)
fell_advances n old new a words now pages then armed less steps gone trapped = record {
  steps = steps;
  waits = λ at e. absurd (none_some at (armed_place new) (ap (option_map {T = Armed} (λ b. b.at.0)) gone) e);
  fell = λ at e none. inl (subst (λ m. m < n) (sym left) less, ap (option_map {T = WordAt} (λ b. b.0)) trapped);
}
  where
    left : left_of old.armed ≡ a.left
    left = rw armed refl

counted_advances : (n : ℕ) (old : Guard) (words now : List ℕ) (pages then : ℕ) → ((a : Armed) → old.armed ≡ Some a → n ≤ a.left) → Advances n (running_of words pages old) (running_of now then (counted n old))
counted_advances n old words now pages then clear = record {
  steps = refl;
  waits = λ at e. later_left n old.armed at clear e;
  fell = λ at e none. absurd (none_some at (armed_place old) (sym (later_place n old.armed) ∙ none) e);
}

within_advances : (n size : ℕ) (fallen : Option Armed) (old new : Guard) (words now : List ℕ) (pages then : ℕ) → FallsWithin n size fallen old new → Advances n (running_of words pages old) (running_of now then new)
within_advances n size (Some a) old new words now pages then h = fell_advances n old new a words now pages then h.0 h.1 (ap (λ (g : Guard). g.steps) h.3) (ap (λ (g : Guard). g.armed) h.3) (ap (λ (g : Guard). g.trapped) h.3)
within_advances n size None old new words now pages then (inl h) = subst (λ (g : Guard). Advances n (running_of words pages old) (running_of now then g)) (sym h.1) (counted_advances n old words now pages then h.0)
within_advances n size None old new words now pages then (inr h) = fell_advances n old new h.0 words now pages then h.1 h.2 (ap (λ (g : Guard). g.steps) h.4) (ap (λ (g : Guard). g.armed) h.4) (ap (λ (g : Guard). g.trapped) h.4)

pub steps_advance : (n size : ℕ) (first last : List ℕ) (old new : Guard) (words now : List ℕ) (pages then : ℕ) → MakesSteps n size first old last new → Advances n (running_of words pages old) (running_of now then new)
steps_advance n size first last old new words now pages then h = within_advances n size h.made.0 old new words now pages then h.made.1

pub step_advances : (size : ℕ) (first last : List ℕ) (old new : Guard) (words now : List ℕ) (pages then : ℕ) → Makes size first old last new → Advances 1 (running_of words pages old) (running_of now then new)
step_advances size first last old new words now pages then h = steps_advance 1 size first last old new words now pages then (makes_one size first last old new h)

-- n steps, and then one that answers Stopped
pub advances_halted : (n size halted_size : ℕ) (first last : List ℕ) (old mid new : Guard) (words middle now : List ℕ) (pages pages_middle then : ℕ) → Steps (running_of words pages old) (running_of middle pages_middle mid) → Steps (running_of middle pages_middle mid) (running_of now then new) → MakesSteps n size first old last mid → Halted halted_size mid new → Advances n (running_of words pages old) (running_of now then new)
advances_halted n size halted_size first last old mid new words middle now pages pages_middle then s t h k =
    advances_stop n (running_of words pages old) (running_of middle pages_middle mid) (running_of now then new) s t (steps_advance n size first last old mid words middle pages pages_middle h) (halted_advances halted_size mid new middle now pages_middle then k)

-- ---- steps

over_ends : (words : List ℕ) (pages : ℕ) (old : Guard) → IsOver old → Steps (running_of words pages old) (running_of words pages (record old { stopped = true }))
over_ends words pages old over = record {
  protected = refl;
  stop_set = refl;
  later = le_refl old.steps;
  armed = inl refl;
  frozen = λ e. ap (λ b. record (running_of words pages old) { stopped = b }) (sym e);
  running = λ e. absurd (true_false e);
  reason = λ e d. inr (refl, set e over);
  scratch_count = refl;
  unarmed = λ i n. refl;
  unfallen = λ e. refl;
  stored = λ i less e n. absurd (none_some _ (armed_place old) n e);
  made = (0, over_advances old words words pages pages);
}
  where
    set : old.stopped ≡ false → IsOver old → is_some old.stop_after ≡ true
    set e (inl s) = absurd (true_false (sym s ∙ e))
    set e (inr s) = rw s.1 refl

trap_ends : (words : List ℕ) (pages : ℕ) (old : Guard) → (IsOver old → ⊥) → (a : Armed) → IsDue old a → Lands old (protected_count words pages) a.at.0 Trapped → Steps (running_of words pages old) (running_of words pages (record old { stopped = true; armed = None; trapped = Some a.at }))
trap_ends words pages old running a due lands = record {
  protected = refl;
  stop_set = refl;
  later = le_refl old.steps;
  armed = inr refl;
  frozen = λ e. absurd (running (inl e));
  running = λ e. absurd (true_false e);
  reason = λ e d. inl (a.at.0, place, lands.0, refl, refl);
  scratch_count = refl;
  unarmed = λ i n. refl;
  unfallen = λ e. refl;
  stored = λ i less e n. absurd (omega (arith, lands.0, armed_at old a _ due e));
  made = (0, trap_advances old a words words pages pages due);
}
  where
    place : armed_place old ≡ Some a.at.0
    place = rw due.0 refl

pub halted_steps : (words : List ℕ) (pages size : ℕ) (old new : Guard) → size ≡ protected_count words pages → Halted size old new → Steps (running_of words pages old) (running_of words pages new)
halted_steps words pages size old new same h = from h.by
  where
    from : (IsOver old × (new ≡ record old { stopped = true })) ⊎ ((IsOver old → ⊥) × Traps size old new) → Steps (running_of words pages old) (running_of words pages new)
    from (inl o) = subst (λ (g : Guard). Steps (running_of words pages old) (running_of words pages g)) (sym o.1) (over_ends words pages old o.0)
    from (inr t) = subst (λ (g : Guard). Steps (running_of words pages old) (running_of words pages g)) (sym t.1.3) (trap_ends words pages old t.0 t.1.0 t.1.1 (subst (λ (s : ℕ). Lands old s t.1.0.at.0 Trapped) same t.1.2))

-- a store that is due falls on a word of scratch, and the step is counted
scratch_steps : (words : List ℕ) (pages : ℕ) (old : Guard) (a : Armed) → (old.stopped ≡ true → ⊥) → IsDue old a → protected_count words pages ≤ a.at.0 → Steps (running_of words pages old) (running_of (slice_set words a.at.0 a.value) pages (counted 1 (record old { armed = None })))
scratch_steps words pages old a running due within = record {
  protected = ap (λ n. n - 512 * pages) (length-set words a.at.0 a.value);
  stop_set = refl;
  later = omega arith;
  armed = inr refl;
  frozen = λ e. absurd (running e);
  running = λ e. refl;
  reason = λ e d. absurd (running d);
  scratch_count = rw (length-set words a.at.0 a.value, drop_set words (protected_count words pages) a.at.0 a.value within) (length-set (drop (protected_count words pages) words) (a.at.0 - protected_count words pages) a.value);
  unarmed = λ i n. rw (length-set words a.at.0 a.value, drop_set words (protected_count words pages) a.at.0 a.value within) (get_or-set_other (drop (protected_count words pages) words) (a.at.0 - protected_count words pages) i a.value 0 (λ e. n (place ∙ ap Some (at_end i e))));
  unfallen = λ e. absurd (none_some a.at.0 (armed_place old) (sym e) place);
  stored = λ i less e none. rw (length-set words a.at.0 a.value, drop_set words (protected_count words pages) a.at.0 a.value within) (subst (λ j. slice_index (slice_set (drop (protected_count words pages) words) j a.value) i ≡ value_of old.armed) (at_word i e)
      (get_or-set_same (drop (protected_count words pages) words) i a.value 0 less ∙ value));
  made = (1, fell_advances 1 old (counted 1 (record old { armed = None })) a words (slice_set words a.at.0 a.value) pages pages due.0 (omega (arith, due.1)) refl refl refl);
}
  where
    place : armed_place old ≡ Some a.at.0
    place = rw due.0 refl

    value : a.value ≡ value_of old.armed
    value = rw due.0 refl

    at_word : (i : ℕ) → armed_place old ≡ Some (protected_count words pages + i) → i ≡ a.at.0 - protected_count words pages
    at_word i e = omega (arith, armed_at old a _ due e)

    at_end : (i : ℕ) → i ≡ a.at.0 - protected_count words pages → a.at.0 ≡ protected_count words pages + i
    at_end i e = omega (arith, e, within)

-- the same, as a step that is made
pub scratch_ends : (words : List ℕ) (pages size : ℕ) (a : Armed) (old new : Guard) → size ≡ protected_count words pages → Proceeds size (Some a) old new → Steps (running_of words pages old) (running_of (slice_set words a.at.0 a.value) pages new)
scratch_ends words pages size a old new same h =
    let due = h.between.1.0 in
    let within = h.between.1.1 in
    rw h.between.2 (rw h.between.1.2 (scratch_steps words pages old a (λ e. h.goes_on (inl e)) due (subst (λ (s : ℕ). s ≤ a.at.0) same within)))

pub scratch_made : (words : List ℕ) (pages size : ℕ) (a : Armed) (old new : Guard) → size ≡ protected_count words pages → Proceeds size (Some a) old new → Makes (protected_count words pages) (scratch_of words pages) old (scratch_of (slice_set words a.at.0 a.value) pages) new
scratch_made words pages size a old new same h =
    let step : Proceeds (protected_count words pages) (Some a) old new = subst (λ (s : ℕ). Proceeds s (Some a) old new) same h in
    record { made = (Some a, step, rw (length-set words a.at.0 a.value) (drop_set words (protected_count words pages) a.at.0 a.value step.between.1.1)) }

-- ---- steps before which nothing falls

passed : (words : List ℕ) (pages n : ℕ) (old : Guard) → old.stopped ≡ false → IsClear old n → Steps (running_of words pages old) (running_of words pages (counted n old))
passed words pages n old runs clear = record {
  protected = refl;
  stop_set = refl;
  later = omega arith;
  armed = inl (later_place n old.armed);
  frozen = λ e. absurd (true_false (sym e ∙ runs));
  running = λ e. refl;
  reason = λ e d. absurd (true_false (sym d ∙ e));
  scratch_count = refl;
  unarmed = λ i none. refl;
  unfallen = λ e. refl;
  stored = λ i less e none. absurd (none_some _ (armed_place old) (sym (later_place n old.armed) ∙ none) e);
  made = (n, counted_advances n old words words pages pages clear.armed);
}

pub passed_ends : (words : List ℕ) (pages n : ℕ) (old new : Guard) → old.stopped ≡ false → IsClear old n → new ≡ counted n old → Steps (running_of words pages old) (running_of words pages new)
passed_ends words pages n old new runs clear e = subst (λ (g : Guard). Steps (running_of words pages old) (running_of words pages g)) (sym e) (passed words pages n old runs clear)

-- a store that is due falls on the open page
spared_steps : (words : List ℕ) (pages : ℕ) (old new : Guard) (a : Armed) → (old.stopped ≡ true → ⊥) → IsDue old a → a.at.0 < protected_count words pages → new.steps ≡ raised old.steps 1 → new.armed ≡ None → new.stopped ≡ old.stopped → new.stop_after ≡ old.stop_after → new.trapped ≡ old.trapped → Steps (running_of words pages old) (running_of words pages new)
spared_steps words pages old new a running due within steps gone stopped stops trapped = record {
  protected = refl;
  stop_set = ap is_some stops;
  later = omega (arith, steps);
  armed = inr none_now;
  frozen = λ e. absurd (running e);
  running = λ e. same_trap;
  reason = λ e d. absurd (true_false (sym d ∙ stopped ∙ e));
  scratch_count = refl;
  unarmed = λ i n. refl;
  unfallen = λ e. refl;
  stored = λ i less e none. absurd (omega (arith, within, armed_at old a _ due e));
  made = (1, fell_advances 1 old new a words words pages pages due.0 (omega (arith, due.1)) steps gone trapped);
}
  where
    none_now : armed_place new ≡ None
    none_now = ap (option_map {T = Armed} (λ b. b.at.0)) gone

    same_trap : option_map {T = WordAt} (λ b. b.0) new.trapped ≡ option_map {T = WordAt} (λ b. b.0) old.trapped
    same_trap = ap (option_map {T = WordAt} (λ b. b.0)) trapped

-- a step before which no store falls on a word of scratch
pub begun_ends : (words : List ℕ) (pages size : ℕ) (old new : Guard) → size ≡ protected_count words pages → ((p : ℕ) → page_of old ≡ Some p → 512 * p + 512 ≤ protected_count words pages) → Proceeds size None old new → Steps (running_of words pages old) (running_of words pages new)
begun_ends words pages size old new same within h = by_fall h.between.1
  where
    running : old.stopped ≡ true → ⊥
    running e = h.goes_on (inl e)

    by_fall : FallsBy size None old h.between.0 → Steps (running_of words pages old) (running_of words pages new)
    by_fall (inl n) = passed_ends words pages 1 old new (runs_on old h.goes_on) (clear_one old h.goes_on n.0) (h.between.2 ∙ ap (counted 1) n.1)
    by_fall (inr s) =
        let is : new ≡ counted 1 (record old { armed = None; spared = raised old.spared 1 }) = h.between.2 ∙ ap (counted 1) s.3 in
        spared_steps words pages old new s.0 running s.1 (omega (arith, within (s.0.at.0 / 512) s.2))
        (ap (λ (g : Guard). g.steps) is) (ap (λ (g : Guard). g.armed) is) (ap (λ (g : Guard). g.stopped) is) (ap (λ (g : Guard). g.stop_after) is) (ap (λ (g : Guard). g.trapped) is)

-- ---- how a step ends

halted_stopped : (size : ℕ) (old new : Guard) → Halted size old new → new.stopped ≡ true
halted_stopped size old new h = from h.by
  where
    from : (IsOver old × (new ≡ record old { stopped = true })) ⊎ ((IsOver old → ⊥) × Traps size old new) → new.stopped ≡ true
    from (inl o) = ap (λ (g : Guard). g.stopped) o.1
    from (inr t) = ap (λ (g : Guard). g.stopped) t.1.3

pub halted_ends : (words : List ℕ) (pages size : ℕ) (old new : Guard) (stop : Type 0) → stop → size ≡ protected_count words pages → Halted size old new → StepEnds (running_of words pages old) (running_of words pages new) stop
halted_ends words pages size old new stop is same h = record { steps = halted_steps words pages size old new same h; told = λ s. halted_stopped size old new h; runs = λ n. absurd (n is) }

still_running : (size : ℕ) (old new : Guard) → Proceeds size None old new → new.stopped ≡ old.stopped
still_running size old new h = by_fall h.between.1
  where
    by_fall : FallsBy size None old h.between.0 → new.stopped ≡ old.stopped
    by_fall (inl n) = ap (λ (g : Guard). g.stopped) (h.between.2 ∙ ap (counted 1) n.1)
    by_fall (inr s) = ap (λ (g : Guard). g.stopped) (h.between.2 ∙ ap (counted 1) s.3)

pub made_ends : (words : List ℕ) (pages size : ℕ) (old new : Guard) (stop : Type 0) → (stop → ⊥) → size ≡ protected_count words pages → ((p : ℕ) → page_of old ≡ Some p → 512 * p + 512 ≤ protected_count words pages) → Proceeds size None old new → StepEnds (running_of words pages old) (running_of words pages new) stop
made_ends words pages size old new stop none same within h = record { steps = begun_ends words pages size old new same within h; told = λ s. absurd (none s); runs = λ n. still_running size old new h }

-- ---- what a step leaves as it was, and what it lets fall

halted_open : (size : ℕ) (old new : Guard) → Halted size old new → page_of new ≡ page_of old
halted_open size old new h = from h.by
  where
    from : (IsOver old × (new ≡ record old { stopped = true })) ⊎ ((IsOver old → ⊥) × Traps size old new) → page_of new ≡ page_of old
    from (inl o) = ap page_of o.1
    from (inr t) = ap page_of t.1.3

over_falls : (words : List ℕ) (pages : ℕ) (old : Guard) → Falls (page_of old) (running_of words pages old) (running_of words pages (record old { stopped = true }))
over_falls words pages old = record { fell = λ at e none. absurd (none_some at (armed_place old) none e); closed = λ at runs other now. absurd (other now) }

trap_falls : (words : List ℕ) (pages size : ℕ) (old : Guard) (a : Armed) → IsDue old a → Lands old size a.at.0 Trapped → Falls (page_of old) (running_of words pages old) (running_of words pages (record old { stopped = true; armed = None; trapped = Some a.at }))
trap_falls words pages size old a due lands = record {
  fell = λ at e none. inr (inr (refl, ap Some (armed_at old a at due e)));
  closed = λ at runs other now. subst (λ n. page_of old ≢ Some (n / 512)) (some_inj a.at.0 at now) lands.1;
}

halted_falls : (words : List ℕ) (pages size : ℕ) (old new : Guard) → Halted size old new → Falls (page_of old) (running_of words pages old) (running_of words pages new)
halted_falls words pages size old new h = from h.by
  where
    from : (IsOver old × (new ≡ record old { stopped = true })) ⊎ ((IsOver old → ⊥) × Traps size old new) → Falls (page_of old) (running_of words pages old) (running_of words pages new)
    from (inl o) = subst (λ (g : Guard). Falls (page_of old) (running_of words pages old) (running_of words pages g)) (sym o.1) (over_falls words pages old)
    from (inr t) = subst (λ (g : Guard). Falls (page_of old) (running_of words pages old) (running_of words pages g)) (sym t.1.3) (trap_falls words pages size old t.1.0 t.1.1 t.1.2)

-- a step that was not made
pub record NotBegun (words : List ℕ) (pages : ℕ) (old new : Guard) (stop : Type 0) : Type 0 where
  pub open_page : page_of new ≡ page_of old
  pub falls : Falls (page_of old) (running_of words pages old) (running_of words pages new)
  pub stops : Halted (protected_count words pages) old new
  pub ends : StepEnds (running_of words pages old) (running_of words pages new) stop

pub not_begun : (words : List ℕ) (pages size : ℕ) (old new : Guard) (stop : Type 0) → stop → size ≡ protected_count words pages → Halted size old new → NotBegun words pages old new stop
not_begun words pages size old new stop is same h = record {
  open_page = halted_open size old new h;
  falls = halted_falls words pages size old new h;
  stops = subst (λ (s : ℕ). Halted s old new) same h;
  ends = halted_ends words pages size old new stop is same h;
}

-- a step that was made: `now` are the words after it
pub record Begun (words now : List ℕ) (pages : ℕ) (old new : Guard) (stop : Type 0) : Type 0 where
  pub protected : protected_of now pages ≡ protected_of words pages
  pub count : length now ≡ length words
  pub open_page : page_of new ≡ page_of old
  pub running : old.stopped ≡ false
  pub falls : Falls (page_of old) (running_of words pages old) (running_of now pages new)
  pub made : Makes (protected_count words pages) (scratch_of words pages) old (scratch_of now pages) new
  pub ends : StepEnds (running_of words pages old) (running_of now pages new) stop

same_trapped : (words now : List ℕ) (pages then : ℕ) (old new : Guard) (at : ℕ) → new.trapped ≡ old.trapped → (running_of words pages old).trapped ≢ Some at → (running_of now then new).trapped ≡ Some at → ⊥
same_trapped words now pages then old new at same other trapped = other (sym (ap (option_map {T = WordAt} (λ b. b.0)) same) ∙ trapped)

pub begun_none : (words : List ℕ) (pages size : ℕ) (old new : Guard) (stop : Type 0) → (stop → ⊥) → size ≡ protected_count words pages → ((p : ℕ) → page_of old ≡ Some p → 512 * p + 512 ≤ protected_count words pages) → Proceeds size None old new → Begun words words pages old new stop
begun_none words pages size old new stop none same within h = record {
  protected = refl;
  count = refl;
  open_page = opened h.between.1;
  running = runs_on old h.goes_on;
  falls = record { fell = λ at e gone. fell at e gone h.between.1; closed = λ at runs other trapped. absurd (same_trapped words words pages pages old new at (trap h.between.1) other trapped) };
  made = record { made = (None, subst (λ (s : ℕ). Proceeds s None old new) same h, refl) };
  ends = made_ends words pages size old new stop none same within h;
}
  where
    opened : FallsBy size None old h.between.0 → page_of new ≡ page_of old
    opened (inl n) = ap page_of (h.between.2 ∙ ap (counted 1) n.1)
    opened (inr s) = ap page_of (h.between.2 ∙ ap (counted 1) s.3)

    trap : FallsBy size None old h.between.0 → new.trapped ≡ old.trapped
    trap (inl n) = ap (λ (g : Guard). g.trapped) (h.between.2 ∙ ap (counted 1) n.1)
    trap (inr s) = ap (λ (g : Guard). g.trapped) (h.between.2 ∙ ap (counted 1) s.3)

    fell : (at : ℕ) → armed_place old ≡ Some at → armed_place new ≡ None → FallsBy size None old h.between.0 → (protected_count words pages ≤ at) ⊎ (page_of old ≡ Some (at / 512)) ⊎ ((new.stopped ≡ true) × ((running_of words pages new).trapped ≡ Some at))
    fell at e gone (inl n) = absurd (none_some at (armed_place old) (sym (later_place 1 old.armed) ∙ sym (ap armed_place (h.between.2 ∙ ap (counted 1) n.1)) ∙ gone) e)
    fell at e gone (inr s) = inr (inl (s.2 ∙ ap (λ n. Some (n / 512)) (armed_at old s.0 at s.1 e)))

pub begun_scratch : (words now : List ℕ) (pages size : ℕ) (a : Armed) (old new : Guard) (stop : Type 0) → (stop → ⊥) → now ≡ slice_set words a.at.0 a.value → size ≡ protected_count words pages → Proceeds size (Some a) old new → Begun words now pages old new stop
begun_scratch words now pages size a old new stop none e same h = subst (λ (ws : List ℕ). Begun words ws pages old new stop) (sym e) (record {
  protected = protected_same words pages a.at.0 a.value past;
  count = length-set words a.at.0 a.value;
  open_page = ap page_of is;
  running = runs_on old h.goes_on;
  falls = record { fell = λ at is gone. inl (subst (λ n. protected_count words pages ≤ n) (armed_at old a at h.between.1.0 is) past); closed = λ at runs other trapped. absurd (same_trapped words (slice_set words a.at.0 a.value) pages pages old new at (ap (λ (g : Guard). g.trapped) is) other trapped) };
  made = scratch_made words pages size a old new same h;
  ends = record { steps = scratch_ends words pages size a old new same h; told = λ s. absurd (none s); runs = λ n. ap (λ (g : Guard). g.stopped) is };
})
  where
    is : new ≡ counted 1 (record old { armed = None })
    is = h.between.2 ∙ ap (counted 1) h.between.1.2

    past : protected_count words pages ≤ a.at.0
    past = subst (λ (s : ℕ). s ≤ a.at.0) same h.between.1.1

-- steps before which nothing falls
pub passed_falls : (o : Option ℕ) (words : List ℕ) (pages n : ℕ) (old new : Guard) → new ≡ counted n old → Falls o (running_of words pages old) (running_of words pages new)
passed_falls o words pages n old new is = record {
  fell = λ at e gone. absurd (none_some at (armed_place old) (sym (later_place n old.armed) ∙ sym (ap armed_place is) ∙ gone) e);
  closed = λ at runs other trapped. absurd (same_trapped words words pages pages old new at (ap (λ (g : Guard). g.trapped) is) other trapped);
}

pub passed_within : (n : ℕ) (old new : Guard) (size : ℕ) → new ≡ counted n old → ((a : Armed) → old.armed ≡ Some a → a.at.0 < size) → (a : Armed) → new.armed ≡ Some a → a.at.0 < size
passed_within n old new size is within a e =
    let l = later_some n old.armed a (sym (ap (λ (g : Guard). g.armed) is) ∙ e) in
    subst (λ (b : Armed). b.at.0 < size) (sym l.2) (within l.0 l.1)
