-- What looks at a volume leave, one after the other, and what their failures tell.
use Rattle.std.proofs.Common.{◌≡◌, ◌≤◌, ℕ, refl, sym, ap, subst, ◌∙◌, arith}
use Rattle.std.specs.Prelude.{Bool, true, false, None, Result, Ok, Err, IsErrOf, IfErr}
use Rattle.rio_base.specs.declared.failures.VolFail.{VolFail}
use Rattle.rio_base.specs.declared.places.Block.{Block}
use Rattle.rio_base.specs.declared.failures.VolFail.TheVariants.{Fault as VolumeFault, Stopped as VolumeStopped}
use Rattle.rio_base.specs.Blocks.{CanName, Ends, EndsBy, Health, Looks, Seen}
use Rattle.rio_base.proofs.Rules.{ends_by, ends_by_after, ends_by_as, ends_by_well, looks_refl, looks_trans}
use Rattle.volume_check.specs.declared.failures.CheckFail.{CheckFail}
use Rattle.volume_check.specs.declared.failures.CheckFail.TheVariants.{BadVolume, Fault, Stopped, Memory}
use Rattle.volume_check.specs.Looking.{CanLook, Looked, Refuses, handed}
use Rattle.volume_check.specs.InodeRules.{TellsRule}

-- ---- how a look ends

abbrev EndsLook : {T : Type 0} → Health → Health → Result T CheckFail → Type 0
EndsLook s t r = EndsBy s t (IsErrOf r Fault) (IsErrOf r Stopped)

-- an answer that tells neither a fault nor a stop
abbrev pub IsQuiet : {T : Type 0} → Result T CheckFail → Type 0
IsQuiet (Ok a) = Unit {0}
IsQuiet (Err (BadVolume rule b)) = Unit {0}
IsQuiet (Err Memory) = Unit {0}
IsQuiet (Err Fault) = ⊥
IsQuiet (Err Stopped) = ⊥

no_fault : {T : Type 0} (r : Result T CheckFail) → IsQuiet r → IsErrOf r Fault → ⊥
no_fault (Ok a) h e = cc
no_fault (Err (BadVolume rule b)) h e = cc
no_fault (Err Memory) h e = cc
no_fault (Err Fault) h e = h
no_fault (Err Stopped) h e = h

no_stop : {T : Type 0} (r : Result T CheckFail) → IsQuiet r → IsErrOf r Stopped → ⊥
no_stop (Ok a) h e = cc
no_stop (Err (BadVolume rule b)) h e = cc
no_stop (Err Memory) h e = cc
no_stop (Err Fault) h e = h
no_stop (Err Stopped) h e = h

err_as : {T U : Type 0} (s t : Health) (e : CheckFail) → EndsLook {T = T} s t (Err e) → EndsLook {T = U} s t (Err e)
err_as s t (BadVolume rule b) h = ends_by_as s t _ _ _ _ (λ a. cc) (λ a. cc) (λ a. cc) h
err_as s t Fault h = ends_by_as s t _ _ _ _ (λ a. refl) (λ a. cc) (λ a. cc) h
err_as s t Stopped h = ends_by_as s t _ _ _ _ (λ a. cc) (λ a. refl) (λ a. refl) h
err_as s t Memory h = ends_by_as s t _ _ _ _ (λ a. cc) (λ a. cc) (λ a. cc) h

quiet_as : {T U : Type 0} (s t : Health) (r : Result T CheckFail) (q : Result U CheckFail) → IsQuiet r → IsQuiet q → EndsLook s t r → EndsLook s t q
quiet_as s t r q h k e = ends_by_well s t _ _ e.later (e.runs (no_stop r h)) (no_fault q k) (no_stop q k)

vol_as : {T U : Type 0} (s t : Health) (e : VolFail) → Ends {T = T} s t (Err e) → EndsLook {T = U} s t (Err (handed e))
vol_as s t VolumeFault h = ends_by_as s t _ _ _ _ (λ a. refl) (λ a. cc) (λ a. cc) (ends_by s t (Err VolumeFault) h)
vol_as s t VolumeStopped h = ends_by_as s t _ _ _ _ (λ a. cc) (λ a. refl) (λ a. refl) (ends_by s t (Err VolumeStopped) h)

-- ---- looks

-- nothing was read
pub looked_none : {V T : Type 0} (seen : V → Seen) (health : V → Health) (sound : V → Type 0) (passes : V → V → Type 0) (x : V) (r : Result T CheckFail) → passes x x → sound x → IsQuiet r → Looked seen health sound passes x x r
looked_none seen health sound passes x r pass keeps h = record {
  looks = looks_refl (seen x);
  passed = pass;
  ends = ends_by_well (health x) (health x) _ _ (let same : (health x).faults ≤ (health x).faults = le_self (health x).faults in same) refl (no_fault r h) (no_stop r h);
  keeps = keeps;
}
  where
    le_self : (n : ℕ) → n ≤ n
    le_self n = omega arith

-- a call of the blocks
pub looked_ok : {V T U : Type 0} (seen : V → Seen) (health : V → Health) (sound : V → Type 0) (passes : V → V → Type 0) (x y : V) (a : T) (r : Result U CheckFail) → Looks (seen x) (seen y) → passes x y → Ends {T = T} (health x) (health y) (Ok a) → sound y → IsQuiet r → Looked seen health sound passes x y r
looked_ok seen health sound passes x y a r looks passed ends keeps h = record {
  looks = looks;
  passed = passed;
  ends = ends_by_well (health x) (health y) _ _ ends.later ends.cause (no_fault r h) (no_stop r h);
  keeps = keeps;
}

pub looked_failed : {V T U : Type 0} (seen : V → Seen) (health : V → Health) (sound : V → Type 0) (passes : V → V → Type 0) (x y : V) (r : Result T VolFail) (q : Result U CheckFail) (e : VolFail) (d : CheckFail) → r ≡ Err e → q ≡ Err d → d ≡ handed e → Looks (seen x) (seen y) → passes x y → Ends (health x) (health y) r → sound y → Looked seen health sound passes x y q
looked_failed {T = T} seen health sound passes x y r q e d re qd de looks passed ends keeps = subst (λ z. Looked seen health sound passes x y z) (sym (qd ∙ ap Err de)) (record {
  looks = looks;
  passed = passed;
  ends = vol_as {T = T} (health x) (health y) e (subst (λ z. Ends (health x) (health y) z) re ends);
  keeps = keeps;
})

-- the same look, by another answer
pub looked_quiet : {V T U : Type 0} (seen : V → Seen) (health : V → Health) (sound : V → Type 0) (passes : V → V → Type 0) (x y : V) (r : Result T CheckFail) (q : Result U CheckFail) → IsQuiet r → IsQuiet q → Looked seen health sound passes x y r → Looked seen health sound passes x y q
looked_quiet seen health sound passes x y r q h k l = record { looks = l.looks; passed = l.passed; ends = quiet_as (health x) (health y) r q h k l.ends; keeps = l.keeps }

pub looked_err : {V T U : Type 0} (seen : V → Seen) (health : V → Health) (sound : V → Type 0) (passes : V → V → Type 0) (x y : V) (r : Result T CheckFail) (q : Result U CheckFail) (e d : CheckFail) → r ≡ Err e → q ≡ Err d → d ≡ e → Looked seen health sound passes x y r → Looked seen health sound passes x y q
looked_err {T = T} seen health sound passes x y r q e d re qd de l = subst (λ z. Looked seen health sound passes x y z) (sym (qd ∙ ap Err de)) (record {
  looks = l.looks;
  passed = l.passed;
  ends = err_as {T = T} (health x) (health y) e (subst (λ z. EndsLook (health x) (health y) z) re l.ends);
  keeps = l.keeps;
})

-- one look that ended well, and then another
pub looked_then : {V T U : Type 0} (seen : V → Seen) (health : V → Health) (sound : V → Type 0) (passes : V → V → Type 0) → ((x y z : V) → passes x y → passes y z → passes x z) → (x y z : V) (r : Result T CheckFail) (q : Result U CheckFail) → IsQuiet r → Looked seen health sound passes x y r → Looked seen health sound passes y z q → Looked seen health sound passes x z q
looked_then seen health sound passes trans x y z r q h l k = record {
  looks = looks_trans _ _ _ l.looks k.looks;
  passed = trans x y z l.passed k.passed;
  ends = ends_by_after (health x) (health y) (health z) _ _ l.ends.later (l.ends.runs (no_stop r h)) k.ends;
  keeps = k.keeps;
}

-- after it one may look on
pub can_on : {V T : Type 0} (seen : V → Seen) (health : V → Health) (sound : V → Type 0) (passes : V → V → Type 0) → ((x y z : V) → passes x y → passes y z → passes x z) → (x y : V) (r : Result T CheckFail) → CanLook seen sound passes x → Looked seen health sound passes x y r → CanLook seen sound passes y
can_on seen health sound passes trans x y r h l = record { keeps = l.keeps; bare = λ z b on. h.bare z b (trans x y z l.passed on) }

-- a block may be asked for without a name
pub can_name : {V : Type 0} (seen : V → Seen) (sound : V → Type 0) (passes : V → V → Type 0) (x : V) (b : ℕ) → passes x x → CanLook seen sound passes x → CanName (seen x) b None
can_name seen sound passes x b pass h = record { in_range = tt; agrees = λ cached. absurd (differ (h.bare x b pass) cached) }
  where
    differ : {t : Bool} → t ≡ false → t ≡ true → ⊥
    differ p q = cc

-- ---- what is told

pub refuses_more : (p q : ℕ → ℕ → Type 0) (fail : CheckFail) → ((rule b : ℕ) → p rule b → q rule b) → Refuses p fail → Refuses q fail
refuses_more p q (BadVolume rule b) on h = on rule b.0 h
refuses_more p q Fault on h = tt
refuses_more p q Stopped on h = tt
refuses_more p q Memory on h = tt

pub refused_more : {T : Type 0} (p q : ℕ → ℕ → Type 0) (r : Result T CheckFail) → ((rule b : ℕ) → p rule b → q rule b) → IfErr r (Refuses p) → IfErr r (Refuses q)
refused_more p q (Ok a) on h = h
refused_more p q (Err e) on h = refuses_more p q e on h

-- at the exit of a call that told it
pub refused_err : {T U : Type 0} (p q : ℕ → ℕ → Type 0) (r : Result T CheckFail) (s : Result U CheckFail) (e d : CheckFail) → r ≡ Err e → s ≡ Err d → d ≡ e → ((rule b : ℕ) → p rule b → q rule b) → IfErr r (Refuses p) → IfErr s (Refuses q)
refused_err {T = T} {U = U} p q r s e d re sd de on h =
    subst (λ (z : Result U CheckFail). IfErr z (Refuses q)) (sym (sd ∙ ap Err de)) (refuses_more p q e on (subst (λ (z : Result T CheckFail). IfErr z (Refuses p)) re h))

-- at the exit of one that tells none
pub refused_memory : {U : Type 0} (q : ℕ → ℕ → Type 0) (s : Result U CheckFail) (d : CheckFail) → s ≡ Err d → d ≡ Memory → IfErr s (Refuses q)
refused_memory {U = U} q s d sd de = subst (λ (z : Result U CheckFail). IfErr z (Refuses q)) (sym (sd ∙ ap Err de)) tt

pub refused_handed : {U : Type 0} (q : ℕ → ℕ → Type 0) (s : Result U CheckFail) (e : VolFail) (d : CheckFail) → s ≡ Err d → d ≡ handed e → IfErr s (Refuses q)
refused_handed {U = U} q s e d sd de = subst (λ (z : Result U CheckFail). IfErr z (Refuses q)) (sym (sd ∙ ap Err de)) (by e)
  where
    by : (e : VolFail) → Refuses q (handed e)
    by VolumeFault = tt
    by VolumeStopped = tt

-- ---- on the way: looks so far, all of which ended well

abbrev pub LooksOn : {V : Type 0} → (V → Seen) → (V → Health) → (V → Type 0) → (V → V → Type 0) → V → V → Type 0
LooksOn seen health sound passes x y = Looked {T = Unit {0}} seen health sound passes x y (Ok tt)

pub quiet_memory : {T : Type 0} (q : Result T CheckFail) (d : CheckFail) → q ≡ Err d → d ≡ Memory → IsQuiet q
quiet_memory {T = T} q d qd de = subst (λ (z : Result T CheckFail). IsQuiet z) (sym (qd ∙ ap Err de)) tt

pub on_none : {V : Type 0} (seen : V → Seen) (health : V → Health) (sound : V → Type 0) (passes : V → V → Type 0) (x : V) → passes x x → sound x → LooksOn seen health sound passes x x
on_none seen health sound passes x pass keeps = looked_none seen health sound passes x (Ok tt) pass keeps tt

pub on_first : {V T : Type 0} (seen : V → Seen) (health : V → Health) (sound : V → Type 0) (passes : V → V → Type 0) (x y : V) (a : T) → Looked {T = T} seen health sound passes x y (Ok a) → LooksOn seen health sound passes x y
on_first {T = T} seen health sound passes x y a l = looked_quiet {T = T} seen health sound passes x y (Ok a) (Ok tt) tt tt l

pub on_ok : {V T : Type 0} (seen : V → Seen) (health : V → Health) (sound : V → Type 0) (passes : V → V → Type 0) → ((x y z : V) → passes x y → passes y z → passes x z) → (x y z : V) (a : T) → LooksOn seen health sound passes x y → Looked {T = T} seen health sound passes y z (Ok a) → LooksOn seen health sound passes x z
on_ok {T = T} seen health sound passes trans x y z a h l = looked_then seen health sound passes trans x y z (Ok tt) (Ok tt) tt h (on_first {T = T} seen health sound passes y z a l)

pub on_err : {V T U : Type 0} (seen : V → Seen) (health : V → Health) (sound : V → Type 0) (passes : V → V → Type 0) → ((x y z : V) → passes x y → passes y z → passes x z) → (x y z : V) (r : Result T CheckFail) (q : Result U CheckFail) (e d : CheckFail) → LooksOn seen health sound passes x y → r ≡ Err e → q ≡ Err d → d ≡ e → Looked seen health sound passes y z r → Looked seen health sound passes x z q
on_err seen health sound passes trans x y z r q e d h re qd de l = looked_then seen health sound passes trans x y z (Ok tt) q tt h (looked_err seen health sound passes y z r q e d re qd de l)

pub on_quiet : {V U : Type 0} (seen : V → Seen) (health : V → Health) (sound : V → Type 0) (passes : V → V → Type 0) (x y : V) (q : Result U CheckFail) → IsQuiet q → LooksOn seen health sound passes x y → Looked seen health sound passes x y q
on_quiet seen health sound passes x y q k h = looked_quiet seen health sound passes x y (Ok tt) q tt k h

pub can_go_on : {V : Type 0} (seen : V → Seen) (health : V → Health) (sound : V → Type 0) (passes : V → V → Type 0) → ((x y z : V) → passes x y → passes y z → passes x z) → (x y : V) → CanLook seen sound passes x → LooksOn seen health sound passes x y → CanLook seen sound passes y
can_go_on seen health sound passes trans x y h l = can_on {T = Unit {0}} seen health sound passes trans x y (Ok tt) h l

-- ---- at the exit of a step that told a rule itself

pub quiet_told : {T : Type 0} (q : Result T CheckFail) (d e : CheckFail) (rule : ℕ) (b : Block) → q ≡ Err d → d ≡ e → e ≡ BadVolume rule b → IsQuiet q
quiet_told {T = T} q d e rule b qd de is = subst (λ (z : Result T CheckFail). IsQuiet z) (sym (qd ∙ ap Err (de ∙ is))) tt

pub refused_told : {U : Type 0} (p : ℕ → ℕ → Type 0) (s : Result U CheckFail) (d e : CheckFail) (rule : ℕ) (b : Block) → s ≡ Err d → d ≡ e → e ≡ BadVolume rule b → p rule b.0 → IfErr s (Refuses p)
refused_told {U = U} p s d e rule b sd de is h = subst (λ (z : Result U CheckFail). IfErr z (Refuses p)) (sym (sd ∙ ap Err (de ∙ is))) h

-- at the exit of a step that reads nothing
pub quiet_rule : {T U : Type 0} (r : Result T CheckFail) (q : Result U CheckFail) (e d : CheckFail) → r ≡ Err e → q ≡ Err d → d ≡ e → IfErr r TellsRule → IsQuiet q
quiet_rule {T = T} {U = U} r q e d re qd de h = subst (λ (z : Result U CheckFail). IsQuiet z) (sym (qd ∙ ap Err de)) (by e (subst (λ (z : Result T CheckFail). IfErr z TellsRule) re h))
  where
    by : (e : CheckFail) → TellsRule e → IsQuiet {T = U} (Err e)
    by (BadVolume rule b) k = tt
    by Fault k = k
    by Stopped k = k
    by Memory k = absurd k

-- how looks that ended well end, by the answer that is made of them
pub ends_on_ok : {V U : Type 0} (seen : V → Seen) (health : V → Health) (sound : V → Type 0) (passes : V → V → Type 0) (x y : V) (a : U) → LooksOn seen health sound passes x y → EndsBy (health x) (health y) (IsErrOf {T = U} (Ok a) Fault) (IsErrOf {T = U} (Ok a) Stopped)
ends_on_ok {U = U} seen health sound passes x y a l = (on_quiet {U = U} seen health sound passes x y (Ok a) tt l).ends
