-- The guard of a board: what a step does to it, and which steps it refuses.
use Rattle.std.specs.Prelude.{◌≡◌, ◌≢◌, ℕ, ◌+◌, ◌-◌, ◌/◌, ◌<◌, ◌≤◌, ◌↔◌, true, ◌⊎◌, List, slice_set, Option, Some, None}
use Rattle.std.specs.Option.{option_map}
use Rattle.rio_base.specs.Disks.{raised}
use Rattle.rio_base.specs.declared.places.WordAt.{WordAt}
use Rattle.rio_base.specs.declared.wild.Wild.{Wild}
use Rattle.rio_base.specs.declared.wild.Wild.TheVariants.{Changed, Trapped, Spared}
use Rattle.board.specs.declared.guard.Armed.{Armed}
use Rattle.board.specs.declared.guard.Guard.{Guard}

-- the page that is open
abbrev pub page_of : Guard → Option ℕ
page_of g = option_map (λ p. p.0) g.open_page

-- where the store that is armed falls
abbrev pub armed_place : Guard → Option ℕ
armed_place g = option_map (λ a. a.at.0) g.armed

-- how many steps are made before it falls, and what it stores
abbrev pub left_of : Option Armed → ℕ
left_of None = 0
left_of (Some a) = a.left

abbrev pub value_of : Option Armed → ℕ
value_of None = 0
value_of (Some a) = a.value

-- what becomes of a wild store, where the words below size are protected
abbrev pub Lands : Guard → ℕ → ℕ → Wild → Type 0
Lands g size at Changed = size ≤ at
Lands g size at Spared = page_of g ≡ Some (at / 512)
Lands g size at Trapped = (at < size) × (page_of g ≢ Some (at / 512))

-- the guard after a wild store
abbrev pub after_store : Wild → WordAt → Guard → Guard
after_store Changed at g = g
after_store Spared at g = record g { spared = raised g.spared 1 }
after_store Trapped at g = record g { stopped = true; trapped = Some at }

-- the guard is stopped, or its steps are used up
abbrev pub IsOver : Guard → Type 0
IsOver g = (g.stopped ≡ true) ⊎ ((n : ℕ) × (g.stop_after ≡ Some n) × (n ≤ g.steps))

-- this armed store falls before the next step
abbrev pub IsDue : Guard → Armed → Type 0
IsDue g a = (g.armed ≡ Some a) × (a.left ≡ 0)

-- what is armed, n steps later
abbrev pub later : ℕ → Option Armed → Option Armed
later n armed = option_map {T = Armed} (λ a. record a { left = a.left - n }) armed

-- a step answers Stopped: it is over, or the armed store falls and traps
abbrev pub Halts : Guard → ℕ → Type 0
Halts g size = IsOver g ⊎ ((a : Armed) × IsDue g a × Lands g size a.at.0 Trapped)

-- the armed store traps
abbrev pub Traps : ℕ → Guard → Guard → Type 0
Traps size old new = (a : Armed) × IsDue old a × Lands old size a.at.0 Trapped × (new ≡ record old { stopped = true; armed = None; trapped = Some a.at })

-- the armed store falls and the step goes on, or it is not due. `fallen` is a store that fell on a word of scratch
abbrev pub FallsBy : ℕ → Option Armed → Guard → Guard → Type 0
FallsBy size (Some a) old new = IsDue old a × Lands old size a.at.0 Changed × (new ≡ record old { armed = None })
FallsBy size None old new =
    (((a : Armed) → IsDue old a → ⊥) × (new ≡ old))
    ⊎ ((a : Armed) × IsDue old a × Lands old size a.at.0 Spared × (new ≡ record old { armed = None; spared = raised old.spared 1 }))

pub record HasFallen (size : ℕ) (fallen : Option Armed) (old new : Guard) : Type 0 where
  pub by : FallsBy size fallen old new

-- n steps are counted, and what is armed falls n steps sooner
abbrev pub counted : ℕ → Guard → Guard
counted n g = record g { steps = raised g.steps n; armed = later n g.armed }

-- a step that answers Stopped. Where the steps are used up, an armed store doesn't fall
pub record Halted (size : ℕ) (old new : Guard) : Type 0 where
  pub by : (IsOver old × (new ≡ record old { stopped = true })) ⊎ ((IsOver old → ⊥) × Traps size old new)

-- a step that is made
pub record Proceeds (size : ℕ) (fallen : Option Armed) (old new : Guard) : Type 0 where
  pub goes_on : IsOver old → ⊥
  pub between : (g : Guard) × FallsBy size fallen old g × (new ≡ counted 1 g)

-- the words of scratch after a store fell on them, where the words before them are `size`
abbrev pub with_fallen : ℕ → Option Armed → List ℕ → List ℕ
with_fallen size None scratch = scratch
with_fallen size (Some a) scratch = slice_set scratch (a.at.0 - size) a.value

-- a step that is made, with what it does to the words of scratch
pub record Makes (size : ℕ) (old_scratch : List ℕ) (old : Guard) (new_scratch : List ℕ) (new : Guard) : Type 0 where
  pub made : (fallen : Option Armed) × Proceeds size fallen old new × (new_scratch ≡ with_fallen size fallen old_scratch)

-- ---- several steps in a row

-- one of the next n steps answers Stopped: the board is stopped, or fewer than n steps are left before it stops, or the
-- armed store falls before one of them and traps
abbrev pub HaltsWithin : Guard → ℕ → ℕ → Type 0
HaltsWithin g n size =
    ((g.stopped ≡ true) × (0 < n))
    ⊎ ((most : ℕ) × (g.stop_after ≡ Some most) × (most - g.steps < n))
    ⊎ ((a : Armed) × (g.armed ≡ Some a) × Lands g size a.at.0 Trapped × (a.left < n))

-- n steps were made: what stops the board comes n steps sooner
abbrev pub HaltsSooner : ℕ → ℕ → Guard → Guard → Type 0
HaltsSooner n size old new = (m : ℕ) → HaltsWithin new m size ↔ HaltsWithin old (n + m) size

-- no stop and no armed store comes before one of the next n steps
pub record IsClear (g : Guard) (n : ℕ) : Type 0 where
  pub left : (most : ℕ) → g.stop_after ≡ Some most → n ≤ most - g.steps
  pub armed : (a : Armed) → g.armed ≡ Some a → n ≤ a.left

-- n steps are made, before one of which the armed store falls, or before none. `fallen` is a store that fell on a word of
-- scratch
abbrev pub FallsWithin : ℕ → ℕ → Option Armed → Guard → Guard → Type 0
FallsWithin n size (Some a) old new = (old.armed ≡ Some a) × (a.left < n) × Lands old size a.at.0 Changed × (new ≡ record (counted n old) { armed = None })
FallsWithin n size None old new =
    (((a : Armed) → old.armed ≡ Some a → n ≤ a.left) × (new ≡ counted n old))
    ⊎ ((a : Armed) × (old.armed ≡ Some a) × (a.left < n) × Lands old size a.at.0 Spared × (new ≡ record (counted n old) { armed = None; spared = raised old.spared 1 }))

-- n steps that are made, with what they do to the words of scratch
pub record MakesSteps (n size : ℕ) (old_scratch : List ℕ) (old : Guard) (new_scratch : List ℕ) (new : Guard) : Type 0 where
  pub made : (fallen : Option Armed) × FallsWithin n size fallen old new × (new_scratch ≡ with_fallen size fallen old_scratch)

-- n steps are made, and the one that follows them answers Stopped
pub record StopsAfter (n size : ℕ) (old_scratch : List ℕ) (old : Guard) (new_scratch : List ℕ) (new : Guard) : Type 0 where
  pub none_before : HaltsWithin old n size → ⊥
  pub stops : (mid : Guard) × MakesSteps n size old_scratch old new_scratch mid × Halted size mid new
