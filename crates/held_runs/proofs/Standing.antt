-- The file that memory was held in, with the disk's file.
use Rattle.std.proofs.Common.{◌≡◌, ◌<◌, ◌∙◌, sym, subst, refl, ℕ, Bool, true, false, List, Option, Some, None, IfSome, MatchOption, is_some}
use Rattle.std.specs.Option.{option_map}
use Rattle.std.specs.Global.{Global}
use Rattle.std.specs.Prelude.{String}
use Rattle.std.specs.String.{string_bytes}
use Rattle.rio_base.specs.Bytes.{bytes_of}
use Rattle.machine_bench.specs.Benches.{Leaving}
use Rattle.rio_model.specs.declared.state.State.{State}
use Rattle.pair_files.specs.Pairs.{HasPair}
use Rattle.rio_commands.specs.Outside.{Benched, Outside, benched}
use Rattle.rio_commands.specs.Serve.{ServeRuns}
use Rattle.held_memory.specs.Held.{Holds}
use Rattle.held_memory.specs.WordFiles.{FileBytes}
use Rattle.held_runs.specs.HeldRuns.{HeldRuns, HeldStands, Kept}

no_true : false ≡ true → ⊥
no_true e = cc

none_some : {A : Type 0} (a : A) → None ≡ Some a → ⊥
none_some a e = cc

same_some : {A : Type 0} (a b : A) → Some a ≡ Some b → a ≡ b
same_some a b e = cc

-- ---- options

-- what is there
pub there : {A : Type 0} (o : Option A) → is_some o ≡ true → (a : A) × (o ≡ Some a)
there None e = absurd (no_true e)
there (Some a) e = (a, refl)

pub is_there : {A : Type 0} (o : Option A) (a : A) → o ≡ Some a → is_some o ≡ true
is_there None a e = absurd (none_some a e)
is_there (Some b) a e = refl

pub there_mapped : {A B : Type 0} (f : A → B) (o : Option A) → is_some (option_map f o) ≡ is_some o
there_mapped f None = refl
there_mapped f (Some a) = refl

-- what is so of an option's value is so of what that is mapped to
pub of_mapped : {A B : Type 0} (f : A → B) (P : B → Type 0) (o : Option A) → IfSome o (λ a. P (f a)) → (b : B) → option_map f o ≡ Some b → P b
of_mapped f P None h b e = absurd (none_some b e)
of_mapped f P (Some a) h b e = subst P (same_some (f a) b e) h

pub if_some : {A : Type 0} (P Q : A → Type 0) (o : Option A) → ((a : A) → P a → Q a) → IfSome o P → IfSome o Q
if_some P Q None then h = tt
if_some P Q (Some a) then h = then a h

pub none_there : {A : Type 0} (o : Option A) → is_some o ≡ false → o ≡ None
none_there None e = refl
none_there (Some a) e = absurd (no_true (sym e))

-- the name of the file that was kept is that of the image
pub as_named : (o : Option (String Global)) (own image : List ℕ) → IfSome o (λ name. string_bytes name ≡ image) → MatchOption o ⊥ (λ name. own ≡ string_bytes name) → own ≡ image
as_named None own image is named = absurd named
as_named (Some name) own image is named = named ∙ is

-- ---- the run

-- a bench that was not used
abbrev pub idle : Benched
idle = benched None false false false None None

same_truth : (a b : Bool) → (a ≡ true → b ≡ true) → (b ≡ true → a ≡ true) → a ≡ b
same_truth true b to from = sym (to refl)
same_truth false true to from = from refl
same_truth false false to from = refl

-- a file that holds the words with which memory was left needs no save
stands : (image disk : List ℕ) (stop : Option ℕ) (status : ℕ) (old new : Outside) (bench : Benched) (runs : ServeRuns image disk stop status old new bench) (n : ℕ) (l : Leaving) → bench.pages ≡ Some n → bench.tells ≡ true → bench.left ≡ Some l → (held : Option FileBytes) → Holds held l.words → (image_was disk_was : List ℕ) (s : State) → HasPair old.files image disk image_was disk_was s → HeldStands held runs.end disk s old new runs.replied
stands image disk stop status old new bench runs n l made tells left held holds image_was disk_was s has =
    let kept = runs.memory image_was disk_was s has n l made tells left in
    record { after = kept.after; disk_now = kept.disk_now; disk_file = kept.disk_file; pair = λ file told. (bytes_of l.words, holds file told, kept.pair); serves = kept.serves }

-- a run of `serve` on a bench that keeps the file that held memory
pub held_runs : (image disk : List ℕ) (stop : Option ℕ) (status : ℕ) (old new : Outside) (bench : Benched) → ServeRuns image disk stop status old new bench → (kept : Option Kept) → bench.tells ≡ true → is_some kept ≡ bench.parted → is_some bench.left ≡ bench.parted → (is_some kept ≡ true → is_some bench.pages ≡ true) → ((k : Kept) → kept ≡ Some k → k.holds ≡ true → (l : Leaving) → bench.left ≡ Some l → Holds k.content l.words) → ((k : Kept) → kept ≡ Some k → k.holds ≡ true → k.name ≡ image) → ((k : Kept) → kept ≡ Some k → 0 < k.failures → 0 < k.faults) → HeldRuns image disk stop status old new kept
held_runs image disk stop status old new bench runs kept tells parted left pages holds named failed = record {
  bench = bench;
  runs = runs;
  stands = λ image_was disk_was s has k is held.
      let some = is_there kept k is in
      let n = there bench.pages (pages some) in
      let l = there bench.left (left ∙ sym parted ∙ some) in
      stands image disk stop status old new bench runs n.0 l.0 n.1 tells l.1 k.content (holds k is held l.0 l.1) image_was disk_was s has;
  named = named;
  made = same_truth (is_some kept) (is_some bench.pages) pages (λ made. let n = there bench.pages made in parted ∙ runs.machine.parted n.0 n.1);
  failed = failed;
}
