-- The volume in memory: how its blocks lie in one list of words, and what it keeps true.
use Rattle.std.specs.Prelude.{◌≡◌, ℕ, ◌+◌, ◌*◌, Bool, true, false, ◌&&◌, nat_lt, if◌then◌else◌, List, slice_index_or, ◌++◌, take, drop, replicate, length, Option, None, refl}
use Rattle.std.proofs.Common.{ap, sym, ◌∙◌}
use Rattle.rio_base.specs.Rules.{true_false}
use Rattle.test_objects.specs.declared.list_volume.ListVolume.{ListVolume}
use Rattle.test_objects.specs.StepLimits.{limit_below, limit_health}
use Rattle.rio_base.specs.Blocks.{BlockWords, Seen, Health, NamesFit}
use Rattle.rio_base.specs.Volume.{Below, Kept, Settled}

-- word w of block b, where the blocks lie one after the other
abbrev pub flat : List ℕ → BlockWords
flat words b w = if nat_lt w 512 then slice_index_or words (512 * b + w) 0 else 0

-- the list with one block zero
unfoldable pub zeroed : List ℕ → ℕ → List ℕ
zeroed words b = take (512 * b) words ++ (replicate 512 0 ++ drop 512 (drop (512 * b) words))

abbrev pub mark_of : List Bool → ℕ → Bool
mark_of marks b = slice_index_or marks b false

abbrev pub list_seen : ListVolume → Seen
list_seen v = record { count = v.count; words = flat v.words.items; cached = λ b. false; names = λ b. None; base = None }

abbrev pub list_health : ListVolume → Health
list_health v = limit_health v.steps

abbrev pub list_below : ListVolume → Below
list_below v = limit_below v.steps

abbrev pub list_kept : ListVolume → Kept
list_kept v = record {
  standing = flat v.standing.items;
  loose = mark_of v.loose.items;
  updating = v.updating;
  touched = λ b. v.updating && mark_of v.touched.items b;
  touches = v.touches;
}

pub record ListSound (v : ListVolume) : Type 0 where
  pub words : length v.words.items ≡ 512 * v.count
  pub standing : length v.standing.items ≡ 512 * v.count
  pub loose : length v.loose.items ≡ v.count
  pub touched : length v.touched.items ≡ v.count
  -- outside an update all that reads stands; inside, so does each block that isn't touched
  pub idle : v.updating ≡ false → v.standing.items ≡ v.words.items
  pub in_update : v.updating ≡ true → (b : ℕ) → mark_of v.touched.items b ≡ false → (w : ℕ) → flat v.words.items b w ≡ flat v.standing.items b w

-- a new volume: zeros that stand, no update, not stopped
pub record IsNew (blocks : ℕ) (stop_after : Option ℕ) (v : ListVolume) : Type 0 where
  pub sound : ListSound v
  pub count : v.count ≡ blocks
  pub words : (b w : ℕ) → flat v.words.items b w ≡ 0
  pub standing : (b w : ℕ) → flat v.standing.items b w ≡ 0
  pub loose : (b : ℕ) → mark_of v.loose.items b ≡ false
  pub idle : v.updating ≡ false
  pub steps : v.steps ≡ record { left = stop_after; stopped = false }

-- the volume as a warm reboot finds it: what stood is what reads, no update, not stopped
pub record IsRestarted (stop_after : Option ℕ) (old new : ListVolume) : Type 0 where
  pub sound : ListSound new
  pub count : new.count ≡ old.count
  pub words : new.words.items ≡ old.standing.items
  pub standing : new.standing.items ≡ old.standing.items
  pub loose : new.loose ≡ old.loose
  pub idle : new.updating ≡ false
  pub steps : new.steps ≡ record { left = stop_after; stopped = false }

-- ---- what the traits ask

pub fits : (v : ListVolume) → NamesFit (list_seen v)
fits v = record { cached = λ b e. refl; in_range = λ b. tt }

marks_in_update : (updating : Bool) (mark : Bool) → updating ≡ true → (updating && mark) ≡ false → mark ≡ false
marks_in_update true mark u e = e
marks_in_update false mark u e = absurd (true_false (sym u))

marks_updating : (updating : Bool) (mark : Bool) → (updating && mark) ≡ true → updating ≡ true
marks_updating true mark e = refl
marks_updating false mark e = absurd (true_false (sym e))

pub list_settled : (v : ListVolume) → ListSound v → Settled (list_seen v) (list_kept v)
list_settled v s = record {
  idle = λ u. record { stands = λ b l w. ap (λ (words : List ℕ). flat words b w) (s.idle u) };
  in_update = λ u. record { untouched = λ b t w. s.in_update u b (marks_in_update v.updating _ u t) w };
  touched = λ b e. marks_updating v.updating _ e;
}

pub touched_on : (v w : ListVolume) (b : ℕ) → (list_kept w).touched ≡ (list_kept v).touched → (list_kept v).touched b ≡ true → (list_kept w).touched b ≡ true
touched_on v w b same e = ap (λ (t : ℕ → Bool). t b) same ∙ e
