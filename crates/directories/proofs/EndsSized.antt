-- How a plan of a size ends, told by an answer of reading.
use Rattle.node_pages.proofs.Ends.{EndsRead}
use Rattle.directories.proofs.Common.{◌≡◌, refl, subst, Result, Health}
use Rattle.std.specs.Prelude.{Ok, Err, IsErrOf}
use Rattle.rio_base.specs.declared.failures.ReadFail.{ReadFail}
use Rattle.rio_base.specs.declared.failures.ReadFail.TheVariants.{Fault as ReadFault, Stopped as ReadStopped, Memory as ReadMemory}
use Rattle.node_pages.specs.declared.failures.SizeFail.{SizeFail}
use Rattle.node_pages.specs.declared.failures.SizeFail.TheVariants.{Fault as SizeFault, Stopped as SizeStopped, Memory as SizeMemory, NoSpace, TooLarge}
use Rattle.rio_base.specs.Blocks.{EndsBy}
use Rattle.rio_base.proofs.Rules.{ends_by_as}

abbrev EndsSize : {T : Type 0} → Health → Health → Result T SizeFail → Type 0
EndsSize s t r = EndsBy s t (IsErrOf r SizeFault) (IsErrOf r SizeStopped)

-- that is made
pub ends_sized : {T U : Type 0} (s t : Health) (v : T) (u : U) → EndsSize s t (Ok v) → EndsRead s t (Ok u)
ends_sized s t v u h = ends_by_as s t _ _ _ _ (λ a. cc) (λ a. cc) (λ a. cc) h

-- where a smaller size is asked for, which takes no block
abbrev read_of_size : SizeFail → ReadFail
read_of_size SizeFault = ReadFault
read_of_size SizeStopped = ReadStopped
read_of_size SizeMemory = ReadMemory
read_of_size NoSpace = ReadMemory
read_of_size TooLarge = ReadMemory

size_as : {T U : Type 0} (s t : Health) (e : SizeFail) → EndsSize {T = T} s t (Err e) → EndsRead {T = U} s t (Err (read_of_size e))
size_as s t SizeFault h = ends_by_as s t _ _ _ _ (λ a. refl) (λ a. cc) (λ a. cc) h
size_as s t SizeStopped h = ends_by_as s t _ _ _ _ (λ a. cc) (λ a. refl) (λ a. refl) h
size_as s t SizeMemory h = ends_by_as s t _ _ _ _ (λ a. cc) (λ a. cc) (λ a. cc) h
size_as s t NoSpace h = ends_by_as s t _ _ _ _ (λ a. cc) (λ a. cc) (λ a. cc) h
size_as s t TooLarge h = ends_by_as s t _ _ _ _ (λ a. cc) (λ a. cc) (λ a. cc) h

pub ends_unsized : {T U : Type 0} (s t : Health) (e f : SizeFail) → e ≡ f → EndsSize {T = T} s t (Err e) → EndsRead {T = U} s t (Err (read_of_size f))
ends_unsized {T = T} {U = U} s t e f is h = size_as {T = T} {U = U} s t f (subst (λ x. EndsSize {T = T} s t (Err x)) is h)
