-- The rules of a machine's calls compose: what holds of each call holds of any number of them.
use Rattle.std.specs.Prelude.{◌≡◌, ◌≢◌, ℕ, ◌+◌, ◌-◌, ◌/◌, ◌<◌, ◌≤◌, Bool, true, false, ◌⊎◌, List, length, slice_index, Option, Some, None, Result, Ok, Err, IsErrOf, refl}
use Rattle.rio_base.specs.Disks.{FaultCount, FaultsLast, raised}
use Rattle.rio_base.specs.declared.wild.Wild.{Wild}
use Rattle.rio_base.specs.declared.wild.Wild.TheVariants.{Changed, Trapped, Spared}
use Rattle.std.proofs.Common.{le_trans, le_refl, ◌∙◌, ap, sym, subst, inl, inr, get_or-set_other, arith}
use Rattle.std.proofs.lemmas.List.{length-set}
use Rattle.rio_base.specs.Machine.{Advances, Contents, Falls, FellBy, Lasts, Meets, Running, StepEnds, Steps, StopReason, after_wild}
use Rattle.rio_base.specs.Rules.{true_false, none_some}

-- what any number of calls leave so. `wilds` are the places that are given to `wild` in them, and `arms` those given to
-- `arm`
pub record RunsOn (wilds arms : ℕ → Type 0) (old new : Running) : Type 0 where
  pub protected : new.protected ≡ old.protected
  pub stop_set : new.stop_set ≡ old.stop_set
  pub later : old.steps ≤ new.steps
  pub armed : (new.armed ≡ old.armed) ⊎ (new.armed ≡ None) ⊎ ((at : ℕ) × arms at × (new.armed ≡ Some at))
  pub stays : old.stopped ≡ true → (new.stopped ≡ true) × (new.trapped ≡ old.trapped) × (new.scratch ≡ old.scratch) × (new.steps ≡ old.steps)
  pub running : new.stopped ≡ false → new.trapped ≡ old.trapped
  pub reason : old.stopped ≡ false → new.stopped ≡ true
      → ((at : ℕ) × ((old.armed ≡ Some at) ⊎ arms at ⊎ wilds at) × (at < old.protected) × (new.trapped ≡ Some at)) ⊎ ((new.trapped ≡ old.trapped) × (old.stop_set ≡ true))
  pub scratch_count : length new.scratch ≡ length old.scratch
  pub unnamed : (i : ℕ) → old.armed ≢ Some (old.protected + i) → (arms (old.protected + i) → ⊥) → (wilds (old.protected + i) → ⊥) → slice_index new.scratch i ≡ slice_index old.scratch i

-- ---- contents

faults_refl : (f : FaultCount) → FaultsLast f f
faults_refl f = record { later = le_refl f.count; limit = λ most e. (most, e, le_refl most) }

faults_trans : (a b c : FaultCount) → FaultsLast a b → FaultsLast b c → FaultsLast a c
faults_trans a b c h k = record {
  later = le_trans h.later k.later;
  limit = λ most e. let one = h.limit most e in let two = k.limit one.0 one.1 in (two.0, two.1, le_trans two.2 one.2);
}

pub lasts_refl : (c : Contents) → Lasts c c
lasts_refl c = record { size = refl; blocks = refl; around = refl; faults = faults_refl c.faults; writes = le_refl c.writes }

pub lasts_trans : (a b c : Contents) → Lasts a b → Lasts b c → Lasts a c
lasts_trans a b c h k = record {
  size = k.size ∙ h.size;
  blocks = k.blocks ∙ h.blocks;
  around = k.around ∙ h.around;
  faults = faults_trans a.faults b.faults c.faults h.faults k.faults;
  writes = le_trans h.writes k.writes;
}

-- calls that changed words alone
pub lasts_words : (a b : Contents) → b ≡ record a { words = b.words } → length b.words ≡ length a.words → Lasts a b
lasts_words a b e size = subst (λ (c : Contents). Lasts a c) (sym e) (record { size = size; blocks = refl; around = refl; faults = faults_refl a.faults; writes = le_refl a.writes })

-- and then others
pub rest_words : (a b : Contents) (words : List ℕ) → b ≡ record a { words = b.words } → record b { words = words } ≡ record a { words = words }
rest_words a b words e = ap (λ (c : Contents). record c { words = words }) e

-- ---- the two outcomes of a stop flag

flag : (b : Bool) → (b ≡ false) ⊎ (b ≡ true)
flag false = inl refl
flag true = inr refl

-- ---- what is armed

armed_on : (a b c : Option ℕ) → (b ≡ a) ⊎ (b ≡ None) → (c ≡ b) ⊎ (c ≡ None) → (c ≡ a) ⊎ (c ≡ None)
armed_on a b c (inl h) (inl k) = inl (k ∙ h)
armed_on a b c (inr h) (inl k) = inr (k ∙ h)
armed_on a b c _ (inr k) = inr k

-- where the armed store has not fallen in two calls, it has fallen in neither
not_fallen : (a b c : Option ℕ) → (b ≡ a) ⊎ (b ≡ None) → (c ≡ b) ⊎ (c ≡ None) → c ≡ a → (b ≡ a) × (c ≡ b)
not_fallen a b c (inl h) k e = (h, e ∙ sym h)
not_fallen a b c (inr h) (inl k) e = (sym (sym e ∙ k), k)
not_fallen a b c (inr h) (inr k) e = (h ∙ sym k ∙ e, k ∙ sym h)

-- a word that is not armed before the first of two calls is not armed before the second
unarmed_on : (a b : Option ℕ) (at : ℕ) → (b ≡ a) ⊎ (b ≡ None) → a ≢ Some at → b ≢ Some at
unarmed_on a b at (inl h) n e = n (sym h ∙ e)
unarmed_on a b at (inr h) n e = none_some at b h e

-- ---- steps

pub raised_more : (count k n : ℕ) → raised (raised count k) n ≡ raised count (k + n)
raised_more count k n = omega arith

pub advances_none : (r : Running) → Advances 0 r r
advances_none r = record {
  steps = omega arith;
  waits = λ at e. (omega arith, refl);
  fell = λ at e n. absurd (none_some at r.armed n e);
}

pub steps_refl : (r : Running) → Steps r r
steps_refl r = record {
  protected = refl;
  stop_set = refl;
  later = le_refl r.steps;
  armed = inl refl;
  frozen = λ e. refl;
  running = λ e. refl;
  reason = λ e d. absurd (true_false (sym d ∙ e));
  scratch_count = refl;
  unarmed = λ i n. refl;
  unfallen = λ e. refl;
  stored = λ i less e n. absurd (none_some (r.protected + i) r.armed n e);
  made = (0, advances_none r);
}

-- why the second of two calls stopped is why both did
reason_earlier : (a b c : Running) → Steps a b → b.trapped ≡ a.trapped → StopReason b c → StopReason a c
reason_earlier a b c h same (inl t) = inl (armed_earlier h.armed)
  where
    armed_earlier : (b.armed ≡ a.armed) ⊎ (b.armed ≡ None) → (at : ℕ) × (a.armed ≡ Some at) × (at < a.protected) × (c.trapped ≡ Some at) × (c.armed ≡ None)
    armed_earlier (inl e) = (t.0, sym e ∙ t.1, subst (λ p. t.0 < p) h.protected t.2, t.3, t.4)
    armed_earlier (inr e) = absurd (none_some t.0 b.armed e t.1)
reason_earlier a b c h same (inr s) = inr (s.0 ∙ same, sym h.stop_set ∙ s.1)

reason_on : (a b c : Running) → Steps a b → Steps b c → a.stopped ≡ false → c.stopped ≡ true → (b.stopped ≡ false) ⊎ (b.stopped ≡ true) → StopReason a c
reason_on a b c h k running stopped (inl b_runs) = reason_earlier a b c h (h.running b_runs) (k.reason b_runs stopped)
reason_on a b c h k running stopped (inr b_stopped) = subst (λ (r : Running). StopReason a r) (sym (k.frozen b_stopped)) (h.reason running b_stopped)

-- a machine that runs after two calls ran between them
running_between : (b c : Running) → Steps b c → c.stopped ≡ false → (b.stopped ≡ false) ⊎ (b.stopped ≡ true) → b.stopped ≡ false
running_between b c k runs (inl e) = e
running_between b c k runs (inr e) = absurd (true_false (sym (subst (λ (r : Running). r.stopped ≡ true) (sym (k.frozen e)) e) ∙ runs))

-- where nothing is armed, nothing traps
still_trapped : (b c : Running) → Steps b c → b.armed ≡ None → (b.stopped ≡ false) ⊎ (b.stopped ≡ true) → (c.stopped ≡ false) ⊎ (c.stopped ≡ true) → c.trapped ≡ b.trapped
still_trapped b c k none (inr stopped) f = ap (λ (r : Running). r.trapped) (k.frozen stopped)
still_trapped b c k none (inl runs) (inl goes_on) = k.running goes_on
still_trapped b c k none (inl runs) (inr stops) = from (k.reason runs stops)
  where
    from : StopReason b c → c.trapped ≡ b.trapped
    from (inl t) = absurd (none_some t.0 b.armed none t.1)
    from (inr s) = s.0

-- what is armed after a call was armed before it
armed_before : (at : ℕ) (b c : Option ℕ) → (c ≡ b) ⊎ (c ≡ None) → c ≡ Some at → b ≡ Some at
armed_before at b c (inl same) e = sym same ∙ e
armed_before at b c (inr none) e = absurd (none_some at c none e)

-- n steps and then m more, where the first left the machine running
advances_on : (n m : ℕ) (a b c : Running) → b.stopped ≡ false → Steps a b → Steps b c → Advances n a b → Advances m b c → Advances (n + m) a c
advances_on n m a b c runs s t h k = record {
  steps = k.steps ∙ ap (λ count. raised count m) h.steps ∙ raised_more a.steps n m;
  waits = λ at e. let one = h.waits at (armed_before at b.armed c.armed t.armed e) in let two = k.waits at e in (omega (arith, one.0, two.0), two.1 ∙ one.1);
  fell = λ at e none. fell at e none s.armed;
}
  where
    trapped : b.armed ≡ None → c.trapped ≡ b.trapped
    trapped none = still_trapped b c t none (flag b.stopped) (flag c.stopped)

    fell : (at : ℕ) → a.armed ≡ Some at → c.armed ≡ None → (b.armed ≡ a.armed) ⊎ (b.armed ≡ None) → FellBy (n + m) at a c
    fell at e none (inl same) = later (k.fell at (same ∙ e) none)
      where
        left : b.armed_left + n ≡ a.armed_left
        left = (h.waits at (same ∙ e)).0

        later : FellBy m at b c → FellBy (n + m) at a c
        later (inl w) = inl (omega (arith, left, w.0), w.1 ∙ s.running runs)
        later (inr w) = inr (omega (arith, left, w.0), w.1, w.2)
    fell at e none (inr gone) = earlier (h.fell at e gone)
      where
        earlier : FellBy n at a b → FellBy (n + m) at a c
        earlier (inl w) = inl (omega (arith, w.0), trapped gone ∙ w.1)
        earlier (inr w) = absurd (true_false (sym w.1 ∙ runs))

pub advances_then : (n m : ℕ) (a b c : Running) → (b.stopped ≡ true → m ≡ 0) → Steps a b → Steps b c → Advances n a b → Advances m b c → Advances (n + m) a c
advances_then n m a b c still s t h k = from (flag b.stopped)
  where
    from : (b.stopped ≡ false) ⊎ (b.stopped ≡ true) → Advances (n + m) a c
    from (inl runs) = advances_on n m a b c runs s t h k
    from (inr stopped) = subst (λ (r : Running). Advances (n + m) a r) (sym (t.frozen stopped)) (subst (λ i. Advances i a b) (omega (arith, still stopped)) h)

-- the same, where the second call made no step
pub advances_stop : (n : ℕ) (a b c : Running) → Steps a b → Steps b c → Advances n a b → Advances 0 b c → Advances n a c
advances_stop n a b c s t h k = subst (λ i. Advances i a c) (omega arith) (advances_then n 0 a b c (λ e. refl) s t h k)

made_on : (a b c : Running) → Steps a b → Steps b c → (b.stopped ≡ false) ⊎ (b.stopped ≡ true) → (n : ℕ) × Advances n a c
made_on a b c h k (inl runs) = (h.made.0 + k.made.0, advances_on h.made.0 k.made.0 a b c runs h k h.made.1 k.made.1)
made_on a b c h k (inr stopped) = (h.made.0, subst (λ (r : Running). Advances h.made.0 a r) (sym (k.frozen stopped)) h.made.1)

stored_on : (a b c : Running) → Steps a b → Steps b c → (i : ℕ) → i < length a.scratch → a.armed ≡ Some (a.protected + i) → c.armed ≡ None → (b.armed ≡ a.armed) ⊎ (b.armed ≡ None) → slice_index c.scratch i ≡ a.armed_value
stored_on a b c h k i less e none (inl same) =
    k.stored i (subst (λ n. i < n) (sym h.scratch_count) less) (subst (λ p. b.armed ≡ Some (p + i)) (sym h.protected) (same ∙ e)) none
    ∙ (h.made.1.waits (a.protected + i) (same ∙ e)).1
stored_on a b c h k i less e none (inr gone) = k.unarmed i (λ x. none_some (b.protected + i) b.armed gone x) ∙ h.stored i less e gone

pub steps_trans : (a b c : Running) → Steps a b → Steps b c → Steps a c
steps_trans a b c h k = record {
  protected = k.protected ∙ h.protected;
  stop_set = k.stop_set ∙ h.stop_set;
  later = le_trans h.later k.later;
  armed = armed_on a.armed b.armed c.armed h.armed k.armed;
  frozen = λ e. k.frozen (subst (λ (r : Running). r.stopped ≡ true) (sym (h.frozen e)) e) ∙ h.frozen e;
  running = λ e. k.running e ∙ h.running (running_between b c k e (flag b.stopped));
  reason = λ e d. reason_on a b c h k e d (flag b.stopped);
  scratch_count = k.scratch_count ∙ h.scratch_count;
  unarmed = λ i n. k.unarmed i (subst (λ p. b.armed ≢ Some (p + i)) (sym h.protected) (unarmed_on a.armed b.armed (a.protected + i) h.armed n)) ∙ h.unarmed i n;
  unfallen = λ e. let both = not_fallen a.armed b.armed c.armed h.armed k.armed e in k.unfallen both.1 ∙ h.unfallen both.0;
  stored = λ i less e none. stored_on a b c h k i less e none h.armed;
  made = made_on a b c h k (flag b.stopped);
}

-- one call and then another: a chain of calls is written `h and_then k and_then l`
infixr 10 ◌and_then◌
pub ◌and_then◌ : {a b c : Running} → Steps a b → Steps b c → Steps a c
◌and_then◌ h k = steps_trans _ _ _ h k

-- calls that left the machine running or stopped as it was, and then one that ends so
pub ends_after : (a b c : Running) (stop : Type 0) → Steps a b → b.stopped ≡ a.stopped → StepEnds b c stop → StepEnds a c stop
ends_after a b c stop h same k = record {
  steps = steps_trans a b c h k.steps;
  told = k.told;
  runs = λ n. k.runs n ∙ same;
}

-- no call at all
pub ends_none : (r : Running) (stop : Type 0) → (stop → ⊥) → StepEnds r r stop
ends_none r stop n = record { steps = steps_refl r; told = λ s. absurd (n s); runs = λ n. refl }

-- a call that did not answer Stopped, and then another
pub ends_then : (a b c : Running) (none stop : Type 0) → (none → ⊥) → StepEnds a b none → StepEnds b c stop → StepEnds a c stop
ends_then a b c none stop n h k = ends_after a b c stop h.steps (h.runs n) k

-- the same, where another answer stands for that of the second call, and says Stopped just where it does
pub ends_as : (a b c : Running) (none stop answer : Type 0) → (none → ⊥) → StepEnds a b none → StepEnds b c stop → (answer → stop) → (stop → answer) → StepEnds a c answer
ends_as a b c none stop answer n h k f g = record {
  steps = steps_trans a b c h.steps k.steps;
  told = λ x. k.told (f x);
  runs = λ x. k.runs (λ s. x (g s)) ∙ h.runs n;
}

-- any calls, and then one that was stopped, which another answer tells
pub ends_err : (a b c : Running) (stop told : Type 0) → stop → told → Steps a b → StepEnds b c stop → StepEnds a c told
ends_err a b c stop told is tells h k = record { steps = steps_trans a b c h k.steps; told = λ x. k.told is; runs = λ n. absurd (n tells) }

-- the same failure, as an answer with values of another type gives it
pub ends_told : {T U E : Type 0} (a b : Running) (e stop : E) (answer : Result U E) → answer ≡ Err e → StepEnds a b (IsErrOf {T = T} (Err e) stop) → StepEnds a b (IsErrOf answer stop)
ends_told a b e stop answer same h = record { steps = h.steps; told = λ x. h.told cc; runs = λ n. h.runs (λ x. n cc) }

-- an answer with a value is no failure
pub never : {T E : Type 0} (x : T) (e : E) → IsErrOf (Ok x) e → ⊥
never x e same = cc

-- where the armed store falls, if it does, in two calls with one page open
pub falls_refl : (o : Option ℕ) (r : Running) → Falls o r r
falls_refl o r = record { fell = λ at e n. absurd (none_some at r.armed n e); closed = λ at e n t. absurd (n t) }

pub falls_trans : (o : Option ℕ) (a b c : Running) → Steps a b → Steps b c → Falls o a b → Falls o b c → Falls o a c
falls_trans o a b c s t h k = record {
  fell = λ at e n. fell at e n s.armed (flag b.stopped);
  closed = λ at e n d. closed at e n d (flag b.stopped);
}
  where
    fell : (at : ℕ) → a.armed ≡ Some at → c.armed ≡ None → (b.armed ≡ a.armed) ⊎ (b.armed ≡ None) → (b.stopped ≡ false) ⊎ (b.stopped ≡ true) → (a.protected ≤ at) ⊎ (o ≡ Some (at / 512)) ⊎ ((c.stopped ≡ true) × (c.trapped ≡ Some at))
    fell at e n (inl same) f = subst (λ p. (p ≤ at) ⊎ (o ≡ Some (at / 512)) ⊎ ((c.stopped ≡ true) × (c.trapped ≡ Some at))) s.protected (k.fell at (same ∙ e) n)
    fell at e n (inr gone) (inr stopped) = subst (λ (r : Running). (a.protected ≤ at) ⊎ (o ≡ Some (at / 512)) ⊎ ((r.stopped ≡ true) × (r.trapped ≡ Some at))) (sym (t.frozen stopped)) (h.fell at e gone)
    fell at e n (inr gone) (inl runs) = before (h.fell at e gone)
      where
        before : (a.protected ≤ at) ⊎ (o ≡ Some (at / 512)) ⊎ ((b.stopped ≡ true) × (b.trapped ≡ Some at)) → (a.protected ≤ at) ⊎ (o ≡ Some (at / 512)) ⊎ ((c.stopped ≡ true) × (c.trapped ≡ Some at))
        before (inl p) = inl p
        before (inr (inl p)) = inr (inl p)
        before (inr (inr p)) = absurd (true_false (sym p.0 ∙ runs))

    closed : (at : ℕ) → a.stopped ≡ false → a.trapped ≢ Some at → c.trapped ≡ Some at → (b.stopped ≡ false) ⊎ (b.stopped ≡ true) → o ≢ Some (at / 512)
    closed at e n d (inl runs) = k.closed at runs (λ b_at. n (sym (s.running runs) ∙ b_at)) d
    closed at e n d (inr stopped) = h.closed at e n (ap (λ (r : Running). r.trapped) (sym (t.frozen stopped)) ∙ d)

-- the same, where the first calls changed words alone
pub falls_on : (m n : Contents) (a b c : Running) → n ≡ record m { words = n.words } → Steps a b → Steps b c → Falls m.open_page a b → Falls n.open_page b c → Falls m.open_page a c
falls_on m n a b c rest s t h k = falls_trans m.open_page a b c s t h (subst (λ o. Falls o b c) (ap (λ (d : Contents). d.open_page) rest) k)

-- ---- calls of which some are `wild` or `arm`

pub runs_on_steps : (wilds arms : ℕ → Type 0) (a b : Running) → Steps a b → RunsOn wilds arms a b
runs_on_steps wilds arms a b h = record {
  protected = h.protected;
  stop_set = h.stop_set;
  later = h.later;
  armed = armed_or_named h.armed;
  stays = λ e. let same = h.frozen e in (subst (λ (r : Running). r.stopped ≡ true) (sym same) e, ap (λ (r : Running). r.trapped) same, ap (λ (r : Running). r.scratch) same, ap (λ (r : Running). r.steps) same);
  running = h.running;
  reason = λ e d. reason_named (h.reason e d);
  scratch_count = h.scratch_count;
  unnamed = λ i n m w. h.unarmed i n;
}
  where
    armed_or_named : (b.armed ≡ a.armed) ⊎ (b.armed ≡ None) → (b.armed ≡ a.armed) ⊎ (b.armed ≡ None) ⊎ ((at : ℕ) × arms at × (b.armed ≡ Some at))
    armed_or_named (inl e) = inl e
    armed_or_named (inr e) = inr (inl e)

    reason_named : StopReason a b → ((at : ℕ) × ((a.armed ≡ Some at) ⊎ arms at ⊎ wilds at) × (at < a.protected) × (b.trapped ≡ Some at)) ⊎ ((b.trapped ≡ a.trapped) × (a.stop_set ≡ true))
    reason_named (inl t) = inl (t.0, inl t.1, t.2, t.3)
    reason_named (inr s) = inr s

-- `arm` names its own place
pub runs_on_arm : (wilds arms : ℕ → Type 0) (r : Running) (step at v : ℕ) → arms at → RunsOn wilds arms r (record r { armed = Some at; armed_left = step; armed_value = v })
runs_on_arm wilds arms r step at v n = record {
  protected = refl;
  stop_set = refl;
  later = le_refl r.steps;
  armed = inr (inr (at, n, refl));
  stays = λ e. (e, refl, refl, refl);
  running = λ e. refl;
  reason = λ e d. absurd (true_false (sym d ∙ e));
  scratch_count = refl;
  unnamed = λ i n m w. refl;
}

-- so does `wild`, on a machine that runs
pub runs_on_wild : (wilds arms : ℕ → Type 0) (c : Contents) (w : Wild) (at v : ℕ) (r : Running) → r.stopped ≡ false → length c.words ≡ r.protected → Meets c at w → wilds at → RunsOn wilds arms r (after_wild w at v r)
runs_on_wild wilds arms c Changed at v r runs size meets told = record {
  protected = refl;
  stop_set = refl;
  later = le_refl r.steps;
  armed = inl refl;
  stays = λ e. absurd (true_false (sym e ∙ runs));
  running = λ e. refl;
  reason = λ e d. absurd (true_false (sym d ∙ e));
  scratch_count = length-set r.scratch (at - r.protected) v;
  unnamed = λ i n m w. get_or-set_other r.scratch (at - r.protected) i v 0 (λ e. w (subst wilds (place i e) told));
}
  where
    place : (i : ℕ) → i ≡ at - r.protected → at ≡ r.protected + i
    place i e = omega (arith, e, subst (λ (s : ℕ). s ≤ at) size meets)
runs_on_wild wilds arms c Spared at v r runs size meets n = runs_on_steps wilds arms r r (steps_refl r)
runs_on_wild wilds arms c Trapped at v r runs size meets told = record {
  protected = refl;
  stop_set = refl;
  later = le_refl r.steps;
  armed = inl refl;
  stays = λ e. absurd (true_false (sym e ∙ runs));
  running = λ e. absurd (true_false e);
  reason = λ e d. inl (at, inr (inr told), subst (λ (s : ℕ). at < s) size meets.0, refl);
  scratch_count = refl;
  unnamed = λ i n m w. refl;
}

armed_through : (arms : ℕ → Type 0) (a b c : Option ℕ) → (b ≡ a) ⊎ (b ≡ None) ⊎ ((at : ℕ) × arms at × (b ≡ Some at)) → (c ≡ b) ⊎ (c ≡ None) ⊎ ((at : ℕ) × arms at × (c ≡ Some at)) → (c ≡ a) ⊎ (c ≡ None) ⊎ ((at : ℕ) × arms at × (c ≡ Some at))
armed_through arms a b c h (inr k) = inr k
armed_through arms a b c (inl h) (inl k) = inl (k ∙ h)
armed_through arms a b c (inr (inl h)) (inl k) = inr (inl (k ∙ h))
armed_through arms a b c (inr (inr h)) (inl k) = inr (inr (h.0, h.1, k ∙ h.2))

some_inj : (x y : ℕ) → Some x ≡ Some y → x ≡ y
some_inj x y e = cc

-- what is armed in the end of calls was armed before or is named in them
armed_from : (arms : ℕ → Type 0) (a b : Option ℕ) (at : ℕ) → (b ≡ a) ⊎ (b ≡ None) ⊎ ((x : ℕ) × arms x × (b ≡ Some x)) → b ≡ Some at → (a ≡ Some at) ⊎ arms at
armed_from arms a b at (inl h) e = inl (sym h ∙ e)
armed_from arms a b at (inr (inl h)) e = absurd (none_some at b h e)
armed_from arms a b at (inr (inr h)) e = inr (subst arms (some_inj h.0 at (sym h.2 ∙ e)) h.1)

pub runs_on_trans : (wilds arms : ℕ → Type 0) (a b c : Running) → RunsOn wilds arms a b → RunsOn wilds arms b c → RunsOn wilds arms a c
runs_on_trans wilds arms a b c h k = record {
  protected = k.protected ∙ h.protected;
  stop_set = k.stop_set ∙ h.stop_set;
  later = le_trans h.later k.later;
  armed = armed_through arms a.armed b.armed c.armed h.armed k.armed;
  stays = λ e. let one = h.stays e in let two = k.stays one.0 in (two.0, two.1 ∙ one.1, two.2 ∙ one.2, two.3 ∙ one.3);
  running = λ e. k.running e ∙ h.running (ran e (flag b.stopped));
  reason = λ e d. through e d (flag b.stopped);
  scratch_count = k.scratch_count ∙ h.scratch_count;
  unnamed = λ i n m w. k.unnamed i (λ e. elsewhere i n m (armed_from arms a.armed b.armed (a.protected + i) h.armed (subst (λ p. b.armed ≡ Some (p + i)) h.protected e))) (λ e. m (subst (λ p. arms (p + i)) h.protected e)) (λ e. w (subst (λ p. wilds (p + i)) h.protected e)) ∙ h.unnamed i n m w;
}
  where
    elsewhere : (i : ℕ) → a.armed ≢ Some (a.protected + i) → (arms (a.protected + i) → ⊥) → (a.armed ≡ Some (a.protected + i)) ⊎ arms (a.protected + i) → ⊥
    elsewhere i n m (inl e) = n e
    elsewhere i n m (inr e) = m e

    ran : c.stopped ≡ false → (b.stopped ≡ false) ⊎ (b.stopped ≡ true) → b.stopped ≡ false
    ran e (inl f) = f
    ran e (inr s) = absurd (true_false (sym (k.stays s).0 ∙ e))

    earlier : b.trapped ≡ a.trapped → ((at : ℕ) × ((b.armed ≡ Some at) ⊎ arms at ⊎ wilds at) × (at < b.protected) × (c.trapped ≡ Some at)) ⊎ ((c.trapped ≡ b.trapped) × (b.stop_set ≡ true)) → ((at : ℕ) × ((a.armed ≡ Some at) ⊎ arms at ⊎ wilds at) × (at < a.protected) × (c.trapped ≡ Some at)) ⊎ ((c.trapped ≡ a.trapped) × (a.stop_set ≡ true))
    earlier same (inl t) = inl (t.0, from_either t.1, subst (λ p. t.0 < p) h.protected t.2, t.3)
      where
        widen : (a.armed ≡ Some t.0) ⊎ arms t.0 → (a.armed ≡ Some t.0) ⊎ arms t.0 ⊎ wilds t.0
        widen (inl e) = inl e
        widen (inr n) = inr (inl n)

        from_either : (b.armed ≡ Some t.0) ⊎ arms t.0 ⊎ wilds t.0 → (a.armed ≡ Some t.0) ⊎ arms t.0 ⊎ wilds t.0
        from_either (inl e) = widen (armed_from arms a.armed b.armed t.0 h.armed e)
        from_either (inr n) = inr n
    earlier same (inr s) = inr (s.0 ∙ same, sym h.stop_set ∙ s.1)

    later : ((at : ℕ) × ((a.armed ≡ Some at) ⊎ arms at ⊎ wilds at) × (at < a.protected) × (b.trapped ≡ Some at)) ⊎ ((b.trapped ≡ a.trapped) × (a.stop_set ≡ true)) → c.trapped ≡ b.trapped → ((at : ℕ) × ((a.armed ≡ Some at) ⊎ arms at ⊎ wilds at) × (at < a.protected) × (c.trapped ≡ Some at)) ⊎ ((c.trapped ≡ a.trapped) × (a.stop_set ≡ true))
    later (inl t) same = inl (t.0, t.1, t.2, same ∙ t.3)
    later (inr s) same = inr (same ∙ s.0, s.1)

    through : a.stopped ≡ false → c.stopped ≡ true → (b.stopped ≡ false) ⊎ (b.stopped ≡ true) → ((at : ℕ) × ((a.armed ≡ Some at) ⊎ arms at ⊎ wilds at) × (at < a.protected) × (c.trapped ≡ Some at)) ⊎ ((c.trapped ≡ a.trapped) × (a.stop_set ≡ true))
    through e d (inl f) = earlier (h.running f) (k.reason f d)
    through e d (inr s) = later (h.reason e s) (k.stays s).1
