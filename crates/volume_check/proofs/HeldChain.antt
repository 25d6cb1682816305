-- The rules 8 to 11 one after the other: what one of them tells is what all of them tell.
use Rattle.rio_model.proofs.Common.{ℕ, inl, inr, BlockWords, VolumeShape}
use Rattle.std.specs.Prelude.{Err, Ok, OnOk, Result}
use Rattle.rio_model.specs.declared.state.State.{State}
use Rattle.rio_model.specs.Held.{Held, held_of}
use Rattle.rio_model.specs.VolumeFails.{FailsHeld, TreeAt}
use Rattle.rio_model.specs.VolumeReads.{ReadsAs}
use Rattle.rio_model.specs.VolumeRules.{EntryRule, IsMapped, NamesApartRule, RegionRule, TreeRule, ApartAt, EntryAt, RegionAt}
use Rattle.rio_model.proofs.ReadStates.{HoldsWithin, reads_as_made, reads_made}
use Rattle.volume_check.specs.Rules.{FailsBy}
use Rattle.volume_check.specs.Tree.{state_of}
use Rattle.volume_check.specs.declared.failures.CheckFail.{CheckFail}

-- what a look tells where it ends well is what follows from it
pub on_ok_then : {P Q : Type 0} (r : Result (Unit {0}) CheckFail) → (P → Q) → OnOk r P → OnOk r Q
on_ok_then (Ok x) f h = f h
on_ok_then (Err e) f h = h

pub fails_entries : (shape : VolumeShape) (held : ℕ → Held) (rule b : ℕ) → FailsBy 8 shape (EntryAt held) rule b → FailsHeld shape held rule b
fails_entries shape held rule b h = inl h

pub fails_names : (shape : VolumeShape) (held : ℕ → Held) → EntryRule held → (rule b : ℕ) → FailsBy 9 shape (ApartAt held) rule b → FailsHeld shape held rule b
fails_names shape held entries rule b h = inr (entries, inl h)

pub fails_tree : (shape : VolumeShape) (held : ℕ → Held) → HoldsWithin shape held → EntryRule held → NamesApartRule held → (rule b : ℕ) → FailsBy 10 shape (TreeAt (state_of shape held)) rule b → FailsHeld shape held rule b
fails_tree shape held within entries apart rule b h = inr (entries, inr (apart, record { state = state_of shape held; reads = reads_made shape 0 0 held within apart; fails = inl h }))

pub fails_regions : (shape : VolumeShape) (held : ℕ → Held) → HoldsWithin shape held → EntryRule held → NamesApartRule held → TreeRule (state_of shape held) → (rule b : ℕ) → FailsBy 11 shape (RegionAt held) rule b → FailsHeld shape held rule b
fails_regions shape held within entries apart tree rule b h = inr (entries, inr (apart, record { state = state_of shape held; reads = reads_made shape 0 0 held within apart; fails = inr (tree, h.0, h.1) }))

pub reads_all : (shape : VolumeShape) (f : BlockWords) → IsMapped shape f → EntryRule (held_of shape f) → NamesApartRule (held_of shape f) → TreeRule (state_of shape (held_of shape f)) → RegionRule (held_of shape f) → (s : State) × ReadsAs shape f s
reads_all shape f mapped entries apart tree regions = (state_of shape (held_of shape f), reads_as_made shape 0 0 f mapped entries apart tree regions)
