-- What the calls of the volume in memory make of it, each by the answer that it gave.
use Rattle.std.specs.Prelude.{◌≡◌, ℕ, ◌+◌, true, false, List, length, slice_set, if◌then◌else◌, Result, IsErr, OnOk}
use Rattle.test_objects.specs.declared.list_volume.ListVolume.{ListVolume}
use Rattle.test_objects.specs.ListVolumes.{ListSound, flat, mark_of}
use Rattle.test_objects.specs.StepLimits.{TakesSteps, made_of}
use Rattle.rio_base.specs.Volume.{SameBut, cleared, put, put_run}

-- one step. Where it is not made, nothing but the limit on steps changes
pub record MakesStep {T E : Type 0} (answer : Result T E) (old new : ListVolume) : Type 0 where
  pub steps : TakesSteps 1 (IsErr answer) old.steps new.steps
  pub cut : IsErr answer → new ≡ record old { steps = new.steps }
  pub sound : ListSound new

-- block b is zeros that stand, and is firm
pub record Freshens (b : ℕ) {T E : Type 0} (answer : Result T E) (old new : ListVolume) : Type 0 where
  pub words : OnOk answer (flat new.words.items ≡ cleared (flat old.words.items) b)
  pub standing : OnOk answer (flat new.standing.items ≡ cleared (flat old.standing.items) b)
  pub loose : OnOk answer (new.loose.items ≡ slice_set old.loose.items b false)
  pub other_words : SameBut b (flat old.words.items) (flat new.words.items)
  pub other_standing : SameBut b (flat old.standing.items) (flat new.standing.items)
  pub rest : new ≡ record old { words = new.words; standing = new.standing; loose = new.loose; steps = new.steps }
  pub step : MakesStep answer old new

-- a word is another, and stands
pub record Stores (b w v : ℕ) {T E : Type 0} (answer : Result T E) (old new : ListVolume) : Type 0 where
  pub words : OnOk answer (flat new.words.items ≡ put (flat old.words.items) b w v)
  pub standing : OnOk answer (flat new.standing.items ≡ put (flat old.standing.items) b w v)
  pub other_words : SameBut b (flat old.words.items) (flat new.words.items)
  pub other_standing : SameBut b (flat old.standing.items) (flat new.standing.items)
  pub rest : new ≡ record old { words = new.words; standing = new.standing; steps = new.steps }
  pub step : MakesStep answer old new

-- a step for each word of a run; as many words from its front on as there are steps are others, and stand
pub record StoresRun (b w : ℕ) (from : List ℕ) {T E : Type 0} (answer : Result T E) (old new : ListVolume) : Type 0 where
  pub words : flat new.words.items ≡ put_run (flat old.words.items) b w (made_of (length from) old.steps) from
  pub standing : flat new.standing.items ≡ put_run (flat old.standing.items) b w (made_of (length from) old.steps) from
  pub other_words : SameBut b (flat old.words.items) (flat new.words.items)
  pub other_standing : SameBut b (flat old.standing.items) (flat new.standing.items)
  pub rest : new ≡ record old { words = new.words; standing = new.standing; steps = new.steps }
  pub steps : TakesSteps (length from) (IsErr answer) old.steps new.steps
  pub sound : ListSound new

-- an update is open, with no block touched
pub record Begins {T E : Type 0} (answer : Result T E) (old new : ListVolume) : Type 0 where
  pub updating : OnOk answer (new.updating ≡ true)
  pub touched : OnOk answer ((b : ℕ) → mark_of new.touched.items b ≡ false)
  pub touches : OnOk answer (new.touches ≡ 0)
  pub rest : new ≡ record old { updating = new.updating; touched = new.touched; touches = new.touches; steps = new.steps }
  pub step : MakesStep answer old new

-- block b is touched
pub record Marks (b : ℕ) {T E : Type 0} (answer : Result T E) (old new : ListVolume) : Type 0 where
  pub touched : OnOk answer (new.touched.items ≡ slice_set old.touched.items b true)
  pub touches : OnOk answer (new.touches ≡ (if mark_of old.touched.items b then old.touches else old.touches + 1))
  pub rest : new ≡ record old { touched = new.touched; touches = new.touches; steps = new.steps }
  pub step : MakesStep answer old new

-- a word is another, and what stands is as before
pub record Edits (b w v : ℕ) {T E : Type 0} (answer : Result T E) (old new : ListVolume) : Type 0 where
  pub words : OnOk answer (flat new.words.items ≡ put (flat old.words.items) b w v)
  pub rest : new ≡ record old { words = new.words; steps = new.steps }
  pub step : MakesStep answer old new

-- what reads stands, and no update is open
pub record Commits {T E : Type 0} (answer : Result T E) (old new : ListVolume) : Type 0 where
  pub standing : OnOk answer (new.standing.items ≡ old.words.items)
  pub idle : OnOk answer (new.updating ≡ false)
  pub rest : new ≡ record old { standing = new.standing; updating = new.updating; steps = new.steps }
  pub step : MakesStep answer old new

-- what stands reads, and no update is open
pub record RollsBack {T E : Type 0} (answer : Result T E) (old new : ListVolume) : Type 0 where
  pub words : OnOk answer (new.words.items ≡ old.standing.items)
  pub idle : OnOk answer (new.updating ≡ false)
  pub rest : new ≡ record old { words = new.words; updating = new.updating; steps = new.steps }
  pub step : MakesStep answer old new

-- block b is loose
pub record Loosens (b : ℕ) {T E : Type 0} (answer : Result T E) (old new : ListVolume) : Type 0 where
  pub loose : OnOk answer (new.loose.items ≡ slice_set old.loose.items b true)
  pub rest : new ≡ record old { loose = new.loose; steps = new.steps }
  pub step : MakesStep answer old new
