use Rattle.region_view.proofs.Common.{length, ◌-◌, ◌≡◌, ◌≤◌, held_of}
use Rattle.region_view.specs.Views.{CanReadWords}
use Rattle.rio_base.specs.Regions.{AreWords}
use Rattle.region_view.proofs.region_pages.read_words.Given as goal

-- the first words are read
abbrev pub invariant-loop-done : goal.invariant-loop-done
invariant-loop-done g l =
    let V = g.V.Blocks in
    record {
      within : l.done ≤ length l.into;
      value : AreWords (held_of l.shape (V.seen l.initial.v).words l.i.0).word l.at l.done l.into;
      len : length l.into ≡ length l.initial.into;
      words : (V.seen l.v).words ≡ (V.seen l.initial.v).words;
      can : CanReadWords l.shape (V.seen l.v);
      passes : V.passes l.initial.v l.v;
      later : (V.health l.initial.v).faults ≤ (V.health l.v).faults;
      running : (V.health l.v).stopped ≡ (V.health l.initial.v).stopped;
      sound : V.sound l.v;
    }

abbrev pub decreases-loop-done : goal.decreases-loop-done
decreases-loop-done g l = length l.initial.into - l.done
