-- Calls on files that only read: what they ask of the calls below, and what is owed at each exit.
use Rattle.std.specs.Prelude.{IsErrAnd}
use Rattle.std.proofs.lemmas.Result.{err_from_is_err_and}
use Rattle.rio_base.specs.declared.failures.ReadFail.{ReadFail}
use Rattle.rio_base.specs.Frames.{CanRead, FilledBy, HasRead, ReadBy}
use Rattle.rio_base.specs.Volume.{Passes}
use Rattle.rio_base.proofs.Frames.{read_as, vol_ends}
use Rattle.rio_model.specs.VolumeReady.{LooksNamed}
use Rattle.rio_model.proofs.NamedReading.{named_now}
use Rattle.request_ends.proofs.Common.{◌≡◌, ℕ, sym, subst, Ok, Err, Result, VolumeShape, Health, Seen, VolFail, Kept, Below, EndsBy}
use Rattle.request_ends.proofs.Unchanged.{can_again, leaves_read}
use Rattle.request_ends.proofs.CallEnds.{ends_ok, ends_on, ends_read, ends_refused, ends_vol, well}
use Rattle.request_ends.specs.Ends.{CanServe}
use Rattle.request_ends.specs.Failures.{fail_of_read, fail_of_vol}
use Rattle.request_ends.specs.Reading.{FilesRead, ReadFor, ReadsSome}
use Rattle.request_ends.specs.declared.failures.FileFail.{FileFail}
use Rattle.request_ends.specs.declared.failures.FileFail.TheVariants.{Refused}
use Rattle.rio_model.specs.VolumeReads.{ReadsAs}

-- ---- what calls ask

-- a volume that can serve can be read
pub can_read : {V : Type 0} {seen : V → Seen} {sound : V → Type 0} {shape : VolumeShape} {v : V} {k : Kept} → sound v → CanServe shape (seen v) k → CanRead seen sound (ReadsSome shape) v
can_read keeps can = record { keeps = keeps; meets = record { has_shape = can.ready.order.has_shape; named = can.ready.order.named; state = can.state; reads = can.reads } }

-- one may read on
pub reads_on : (shape : VolumeShape) (x y : Seen) → ReadsSome shape x → LooksNamed shape x y → ReadsSome shape y
reads_on shape x y h looks = record { has_shape = looks.has_shape; named = named_now shape x y looks; state = h.state; reads = subst (λ f. ReadsAs shape f h.state) (sym looks.looks.words) h.reads }

-- ---- a call that ended well, and exits: a value, a refusal of one's own, and a failure handed on

pub file_ok : {V T : Type 0} {seen : V → Seen} {health : V → Health} {sound : V → Type 0} {passes : V → V → Type 0} {shape : VolumeShape} {x y : V} (r : Result T FileFail) (v : T) → r ≡ Ok v → ReadFor seen health sound passes shape x y r → HasRead seen health sound passes (LooksNamed shape) x y ⊥ ⊥
file_ok r v is h = read_as h (well _ _ r v is h.ends)

pub file_value : {V T : Type 0} {seen : V → Seen} {health : V → Health} {sound : V → Type 0} {passes : V → V → Type 0} {shape : VolumeShape} {x y : V} (v : T) → HasRead seen health sound passes (LooksNamed shape) x y ⊥ ⊥ → ReadFor seen health sound passes shape x y (Ok v)
file_value v h = read_as h (ends_ok _ _ v h.ends)

pub file_refused : {V T : Type 0} {seen : V → Seen} {health : V → Health} {sound : V → Type 0} {passes : V → V → Type 0} {shape : VolumeShape} {x y : V} (c : ℕ) → HasRead seen health sound passes (LooksNamed shape) x y ⊥ ⊥ → ReadFor {T = T} seen health sound passes shape x y (Err (Refused c))
file_refused {T = T} c h = read_as h (ends_refused {T = T} _ _ c h.ends)

pub file_on : {V T U : Type 0} {seen : V → Seen} {health : V → Health} {sound : V → Type 0} {passes : V → V → Type 0} {shape : VolumeShape} {x y : V} {e : FileFail} (r : Result T FileFail) (q : Result U FileFail) → r ≡ Err e → IsErrAnd q (λ d. d ≡ e) → ReadFor seen health sound passes shape x y r → ReadFor seen health sound passes shape x y q
file_on {e = e} r q was given h = let p = err_from_is_err_and q given in read_as h (ends_on _ _ r q e p.0 was p.1 p.2 h.ends)

-- of a call on blocks
pub file_vol : {V T U : Type 0} {seen : V → Seen} {health : V → Health} {sound : V → Type 0} {passes : V → V → Type 0} {shape : VolumeShape} {x y : V} {e : VolFail} (r : Result T VolFail) (q : Result U FileFail) → r ≡ Err e → IsErrAnd q (λ d. d ≡ fail_of_vol e) → ReadBy seen health sound passes (LooksNamed shape) x y r → ReadFor seen health sound passes shape x y q
file_vol {e = e} r q was given h = let p = err_from_is_err_and q given in read_as h (ends_vol _ _ r q e p.0 was p.1 p.2 (vol_ends _ _ r h.ends))

pub file_read : {V T U : Type 0} {seen : V → Seen} {health : V → Health} {sound : V → Type 0} {passes : V → V → Type 0} {shape : VolumeShape} {x y : V} {e : ReadFail} (r : Result T ReadFail) (q : Result U FileFail) → r ≡ Err e → IsErrAnd q (λ d. d ≡ fail_of_read e) → FilledBy seen health sound passes (LooksNamed shape) x y r → ReadFor seen health sound passes shape x y q
file_read {e = e} r q was given h = let p = err_from_is_err_and q given in read_as h (ends_read _ _ r q e p.0 was p.1 p.2 h.ends)

-- ---- what that says of a volume

pub file_served : {V : Type 0} {seen : V → Seen} {health : V → Health} {below : V → Below} {kept : V → Kept} {sound : V → Type 0} {passes : V → V → Type 0} {shape : VolumeShape} {x y : V} {fault stop : Type 0} → ((x y : V) → passes x y → Passes (health x) (below x) (kept x) (health y) (below y) (kept y)) → CanServe shape (seen x) (kept x) → HasRead seen health sound passes (LooksNamed shape) x y fault stop → FilesRead seen health below kept sound shape x y fault stop
file_served {seen = seen} {kept = kept} {shape = shape} {x = x} {y = y} told can h =
    let pass = told _ _ h.passed in
    let left = leaves_read shape _ _ _ _ _ _ _ _ can.ready h.looks.looks h.looks.has_shape h.looks.named pass in
    record {
      leaves = left;
      words = h.looks.looks.words;
      can = can_again shape (seen x) (kept x) (seen y) (kept y) can left h.looks.looks.words;
      goes = pass.goes;
      ends = h.ends;
      sound = h.keeps;
    }
