-- Laws of the frames: nothing was done, one call after another, and what is owed at each exit.
use Rattle.std.specs.Prelude.{◌≡◌, ◌≤◌, ℕ, IsErrAnd, IsErrOf, None, Result, Ok, Err, refl}
use Rattle.std.proofs.Common.{◌∙◌, ap, le_refl, subst, sym}
use Rattle.std.proofs.lemmas.Result.{err_from_is_err_and}
use Rattle.rio_base.specs.declared.failures.VolFail.{VolFail}
use Rattle.rio_base.specs.declared.failures.VolFail.TheVariants.{Fault, Stopped}
use Rattle.rio_base.specs.declared.failures.ReadFail.{ReadFail}
use Rattle.rio_base.specs.declared.failures.ReadFail.TheVariants.{Fault as ReadFault, Stopped as ReadStopped, Memory as ReadMemory}
use Rattle.rio_base.specs.declared.places.VolumeShape.{VolumeShape}
use Rattle.rio_base.specs.Blocks.{Caches, Ends, EndsBy, Health, Looks, Seen}
use Rattle.rio_base.specs.Failures.{read_fail}
use Rattle.rio_base.specs.Frames.{CanRead, FilledBy, HasChanged, HasRead, HasServed, LooksShaped, MachineStep, ReadBy}
use Rattle.rio_base.specs.Machine.{Contents, Running}
use Rattle.rio_base.specs.Rules.{firm_trans, goes_trans}
use Rattle.rio_base.specs.Shapes.{HasShape}
use Rattle.rio_base.specs.Volume.{Below, Kept, Passes}
use Rattle.rio_base.proofs.BlockRules.{still_unnamed}
use Rattle.rio_base.proofs.MachineRules.{ends_then, lasts_trans, never}
use Rattle.rio_base.proofs.Rules.{ends_by, ends_by_after, ends_by_as, ends_by_well, looks_refl, looks_trans, rose_later}

-- ---- how a call ends, by its answer

pub well_ended : (s t : Health) → s.faults ≤ t.faults → t.stopped ≡ s.stopped → EndsBy s t ⊥ ⊥
well_ended s t later same = ends_by_well s t ⊥ ⊥ later same (λ a. a) (λ a. a)

-- a call of a volume that ended well, and what a frame says of one
vol_well : {T : Type 0} (s t : Health) (r : Result T VolFail) (v : T) → r ≡ Ok v → EndsBy s t (IsErrOf r Fault) (IsErrOf r Stopped) → EndsBy s t ⊥ ⊥
vol_well {T = T} s t r v is h = well_ended s t h.later (h.runs (λ a. never v Stopped (sym is ∙ a)))

pub vol_ends : {T : Type 0} (s t : Health) (r : Result T VolFail) → EndsBy s t (IsErrOf r Fault) (IsErrOf r Stopped) → Ends s t r
vol_ends s t (Ok v) h = record { later = h.later; stays = h.stays; cause = h.runs (λ a. cc) }
vol_ends s t (Err Fault) h = record { later = h.later; stays = h.stays; cause = (h.cause refl, h.runs (λ a. cc)) }
vol_ends s t (Err Stopped) h = record { later = h.later; stays = h.stays; cause = h.told refl }

-- its failure as another call tells it
vol_as : {T U : Type 0} (s t : Health) (e : VolFail) → EndsBy s t (IsErrOf {T = T} (Err e) Fault) (IsErrOf {T = T} (Err e) Stopped) → EndsBy s t (IsErrOf {T = U} (Err e) Fault) (IsErrOf {T = U} (Err e) Stopped)
vol_as s t Fault h = ends_by_as s t _ _ _ _ (λ a. refl) (λ a. cc) (λ a. cc) h
vol_as s t Stopped h = ends_by_as s t _ _ _ _ (λ a. cc) (λ a. refl) (λ a. refl) h

read_as_vol : {T U : Type 0} (s t : Health) (e : VolFail) → EndsBy s t (IsErrOf {T = T} (Err e) Fault) (IsErrOf {T = T} (Err e) Stopped) → EndsBy s t (IsErrOf {T = U} (Err (read_fail e)) ReadFault) (IsErrOf {T = U} (Err (read_fail e)) ReadStopped)
read_as_vol s t Fault h = ends_by_as s t _ _ _ _ (λ a. refl) (λ a. cc) (λ a. cc) h
read_as_vol s t Stopped h = ends_by_as s t _ _ _ _ (λ a. cc) (λ a. refl) (λ a. refl) h

read_as_read : {T U : Type 0} (s t : Health) (e : ReadFail) → EndsBy s t (IsErrOf {T = T} (Err e) ReadFault) (IsErrOf {T = T} (Err e) ReadStopped) → EndsBy s t (IsErrOf {T = U} (Err e) ReadFault) (IsErrOf {T = U} (Err e) ReadStopped)
read_as_read s t ReadFault h = ends_by_as s t _ _ _ _ (λ a. refl) (λ a. cc) (λ a. cc) h
read_as_read s t ReadStopped h = ends_by_as s t _ _ _ _ (λ a. cc) (λ a. refl) (λ a. refl) h
read_as_read s t ReadMemory h = ends_by_as s t _ _ _ _ (λ a. cc) (λ a. cc) (λ a. cc) h

-- ---- calls that only read

-- nothing was read
pub read_none : {V : Type 0} {seen : V → Seen} {health : V → Health} {sound : V → Type 0} {passes : V → V → Type 0} {look : Seen → Seen → Type 0} {x : V} → passes x x → look (seen x) (seen x) → sound x → HasRead seen health sound passes look x x ⊥ ⊥
read_none pass same keeps = record { looks = same; passed = pass; ends = well_ended _ _ (le_refl _) refl; keeps = keeps }

-- one may read on
pub can_on : {V : Type 0} {seen : V → Seen} {health : V → Health} {sound : V → Type 0} {passes : V → V → Type 0} {look : Seen → Seen → Type 0} {asks : Seen → Type 0} {x y : V} {fault stop : Type 0} → HasRead seen health sound passes look x y fault stop → (look (seen x) (seen y) → asks (seen y)) → CanRead seen sound asks y
can_on h still = record { keeps = h.keeps; meets = still h.looks }

-- and then something else was read
pub read_then : {V : Type 0} {seen : V → Seen} {health : V → Health} {sound : V → Type 0} {passes : V → V → Type 0} {look : Seen → Seen → Type 0} {x y z : V} {fault stop : Type 0} → ((x y z : V) → passes x y → passes y z → passes x z) → ((s t u : Seen) → look s t → look t u → look s u) → HasRead seen health sound passes look x y ⊥ ⊥ → HasRead seen health sound passes look y z fault stop → HasRead seen health sound passes look x z fault stop
read_then trans more h k = record {
  looks = more _ _ _ h.looks k.looks;
  passed = trans _ _ _ h.passed k.passed;
  ends = ends_by_after _ _ _ _ _ h.ends.later (h.ends.runs (λ a. a)) k.ends;
  keeps = k.keeps;
}

-- the same, by another answer, and by more that is known of the blocks
pub read_as : {V : Type 0} {seen : V → Seen} {health : V → Health} {sound : V → Type 0} {passes : V → V → Type 0} {look : Seen → Seen → Type 0} {x y : V} {fault stop f s : Type 0} → HasRead seen health sound passes look x y fault stop → EndsBy (health x) (health y) f s → HasRead seen health sound passes look x y f s
read_as h ends = record { looks = h.looks; passed = h.passed; ends = ends; keeps = h.keeps }

pub read_more : {V : Type 0} {seen : V → Seen} {health : V → Health} {sound : V → Type 0} {passes : V → V → Type 0} {look more : Seen → Seen → Type 0} {x y : V} {fault stop : Type 0} → more (seen x) (seen y) → HasRead seen health sound passes look x y fault stop → HasRead seen health sound passes more x y fault stop
read_more looks h = record { looks = looks; passed = h.passed; ends = h.ends; keeps = h.keeps }

-- a call that ended well
pub read_ok : {V T : Type 0} {seen : V → Seen} {health : V → Health} {sound : V → Type 0} {passes : V → V → Type 0} {look : Seen → Seen → Type 0} {x y : V} (r : Result T VolFail) (v : T) → r ≡ Ok v → ReadBy seen health sound passes look x y r → HasRead seen health sound passes look x y ⊥ ⊥
read_ok r v is h = read_as h (vol_well _ _ r v is h.ends)

-- exits: a value, and the failure of a `?`
pub read_value : {V T : Type 0} {seen : V → Seen} {health : V → Health} {sound : V → Type 0} {passes : V → V → Type 0} {look : Seen → Seen → Type 0} {x y : V} (v : T) → HasRead seen health sound passes look x y ⊥ ⊥ → ReadBy seen health sound passes look x y (Ok v)
read_value v h = read_as h (ends_by_well _ _ _ _ h.ends.later (h.ends.runs (λ a. a)) (never v Fault) (never v Stopped))

pub read_on : {V T U : Type 0} {seen : V → Seen} {health : V → Health} {sound : V → Type 0} {passes : V → V → Type 0} {look : Seen → Seen → Type 0} {x y : V} {e : VolFail} (r : Result T VolFail) (q : Result U VolFail) → r ≡ Err e → IsErrAnd q (λ d. d ≡ e) → ReadBy seen health sound passes look x y r → ReadBy seen health sound passes look x y q
read_on {V = V} {T = T} {U = U} {health = health} {x = x} {y = y} {e = e} r q was given h =
    let p = err_from_is_err_and q given in
    let told = subst (λ (a : Result T VolFail). EndsBy (health x) (health y) (IsErrOf a Fault) (IsErrOf a Stopped)) was h.ends in
    read_as h (subst (λ (a : Result U VolFail). EndsBy (health x) (health y) (IsErrOf a Fault) (IsErrOf a Stopped)) (sym (p.1 ∙ ap Err p.2)) (vol_as (health x) (health y) e told))

-- a call of `Blocks` itself
pub read_word : {V T : Type 0} {seen : V → Seen} {health : V → Health} {sound : V → Type 0} {passes : V → V → Type 0} {look : Seen → Seen → Type 0} {x y : V} (r : Result T VolFail) → look (seen x) (seen y) → passes x y → Ends (health x) (health y) r → sound y → ReadBy seen health sound passes look x y r
read_word r looks passed ends keeps = record { looks = looks; passed = passed; ends = ends_by _ _ r ends; keeps = keeps }

-- ---- calls that take memory too

pub filled_ok : {V T : Type 0} {seen : V → Seen} {health : V → Health} {sound : V → Type 0} {passes : V → V → Type 0} {look : Seen → Seen → Type 0} {x y : V} (r : Result T ReadFail) (v : T) → r ≡ Ok v → FilledBy seen health sound passes look x y r → HasRead seen health sound passes look x y ⊥ ⊥
filled_ok r v is h = read_as h (well_ended _ _ h.ends.later (h.ends.runs (λ a. never v ReadStopped (sym is ∙ a))))

pub filled_value : {V T : Type 0} {seen : V → Seen} {health : V → Health} {sound : V → Type 0} {passes : V → V → Type 0} {look : Seen → Seen → Type 0} {x y : V} (v : T) → HasRead seen health sound passes look x y ⊥ ⊥ → FilledBy seen health sound passes look x y (Ok v)
filled_value v h = read_as h (ends_by_well _ _ _ _ h.ends.later (h.ends.runs (λ a. a)) (never v ReadFault) (never v ReadStopped))

-- want of memory, and the failure of a call of each kind
pub filled_memory : {V U : Type 0} {seen : V → Seen} {health : V → Health} {sound : V → Type 0} {passes : V → V → Type 0} {look : Seen → Seen → Type 0} {x y : V} (q : Result U ReadFail) → IsErrAnd q (λ d. d ≡ ReadMemory) → HasRead seen health sound passes look x y ⊥ ⊥ → FilledBy seen health sound passes look x y q
filled_memory {U = U} {health = health} {x = x} {y = y} q given h =
    let p = err_from_is_err_and q given in
    read_as h (subst (λ (a : Result U ReadFail). EndsBy (health x) (health y) (IsErrOf a ReadFault) (IsErrOf a ReadStopped)) (sym (p.1 ∙ ap Err p.2)) (ends_by_well _ _ _ _ h.ends.later (h.ends.runs (λ a. a)) (λ a. cc) (λ a. cc)))

pub filled_on : {V T U : Type 0} {seen : V → Seen} {health : V → Health} {sound : V → Type 0} {passes : V → V → Type 0} {look : Seen → Seen → Type 0} {x y : V} {e : ReadFail} (r : Result T ReadFail) (q : Result U ReadFail) → r ≡ Err e → IsErrAnd q (λ d. d ≡ e) → FilledBy seen health sound passes look x y r → FilledBy seen health sound passes look x y q
filled_on {T = T} {U = U} {health = health} {x = x} {y = y} {e = e} r q was given h =
    let p = err_from_is_err_and q given in
    let told = subst (λ (a : Result T ReadFail). EndsBy (health x) (health y) (IsErrOf a ReadFault) (IsErrOf a ReadStopped)) was h.ends in
    read_as h (subst (λ (a : Result U ReadFail). EndsBy (health x) (health y) (IsErrOf a ReadFault) (IsErrOf a ReadStopped)) (sym (p.1 ∙ ap Err p.2)) (read_as_read (health x) (health y) e told))

pub filled_read : {V T U : Type 0} {seen : V → Seen} {health : V → Health} {sound : V → Type 0} {passes : V → V → Type 0} {look : Seen → Seen → Type 0} {x y : V} {e : VolFail} (r : Result T VolFail) (q : Result U ReadFail) → r ≡ Err e → IsErrAnd q (λ d. d ≡ read_fail e) → ReadBy seen health sound passes look x y r → FilledBy seen health sound passes look x y q
filled_read {T = T} {U = U} {health = health} {x = x} {y = y} {e = e} r q was given h =
    let p = err_from_is_err_and q given in
    let told = subst (λ (a : Result T VolFail). EndsBy (health x) (health y) (IsErrOf a Fault) (IsErrOf a Stopped)) was h.ends in
    read_as h (subst (λ (a : Result U ReadFail). EndsBy (health x) (health y) (IsErrOf a ReadFault) (IsErrOf a ReadStopped)) (sym (p.1 ∙ ap Err p.2)) (read_as_vol (health x) (health y) e told))

-- ---- a volume that keeps its shape

pub shaped_refl : (shape : VolumeShape) (s : Seen) → HasShape shape s → LooksShaped shape s s
shaped_refl shape s has = record { looks = looks_refl s; has_shape = has }

pub shaped_trans : (shape : VolumeShape) (s t u : Seen) → LooksShaped shape s t → LooksShaped shape t u → LooksShaped shape s u
shaped_trans shape s t u h k = record { looks = looks_trans s t u h.looks k.looks; has_shape = k.has_shape }

-- a block read as metadata
pub shaped_block : (shape : VolumeShape) (s t : Seen) (b : ℕ) → HasShape shape s → Looks s t → Caches s t b None → LooksShaped shape s t
shaped_block shape s t b has looks caches = record { looks = looks; has_shape = still_unnamed shape s t b has looks.count caches }

-- ---- what that says of a volume

pub served : {V : Type 0} {seen : V → Seen} {health : V → Health} {below : V → Below} {kept : V → Kept} {sound : V → Type 0} {passes : V → V → Type 0} {look : Seen → Seen → Type 0} {x y : V} {fault stop : Type 0} → ((x y : V) → passes x y → Passes (health x) (below x) (kept x) (health y) (below y) (kept y)) → HasRead seen health sound passes look x y fault stop → HasServed seen health below kept sound look x y fault stop
served told h =
    let pass = told _ _ h.passed in
    record {
      looks = h.looks;
      standing = pass.standing;
      firm = pass.firm;
      update = record { updating = pass.updating; touched = pass.touched; touches = pass.touches };
      goes = pass.goes;
      ends = h.ends;
      keeps = h.keeps;
    }

-- ---- calls that change a volume: the members are written out where a record is their argument

pub changed_then : {V : Type 0} {health : V → Health} {below : V → Below} {kept : V → Kept} {sound : V → Type 0} {step : V → V → Type 0} {x y z : V} {fault stop : Type 0} → (step x y → step y z → step x z) → HasChanged health below kept sound step x y ⊥ ⊥ → HasChanged health below kept sound step y z fault stop → HasChanged health below kept sound step x z fault stop
changed_then trans h k = record {
  made = trans h.made k.made;
  firm = firm_trans _ _ _ h.firm k.firm;
  goes = goes_trans _ _ _ _ _ _ h.goes k.goes;
  ends = ends_by_after _ _ _ _ _ h.ends.later (h.ends.runs (λ a. a)) k.ends;
  keeps = k.keeps;
}

-- the same change, by another answer
pub changed_as : {V : Type 0} {health : V → Health} {below : V → Below} {kept : V → Kept} {sound : V → Type 0} {step : V → V → Type 0} {x y : V} {fault stop f s : Type 0} → HasChanged health below kept sound step x y fault stop → EndsBy (health x) (health y) f s → HasChanged health below kept sound step x y f s
changed_as h ends = record { made = h.made; firm = h.firm; goes = h.goes; ends = ends; keeps = h.keeps }

-- ---- calls on a machine

pub machine_then : {M : Type 0} {contents : M → Contents} {run : M → Running} {x y z : M} {fault stop : Type 0} → MachineStep contents run x y ⊥ ⊥ → MachineStep contents run y z fault stop → MachineStep contents run x z fault stop
machine_then h k = record {
  closed = k.closed;
  lasts = lasts_trans _ _ _ h.lasts k.lasts;
  cause = λ f. rose_later _ _ _ h.lasts.faults.later (k.cause f);
  ends = ends_then _ _ _ ⊥ _ (λ a. a) h.ends k.ends;
}
