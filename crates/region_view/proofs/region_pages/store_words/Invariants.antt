use Rattle.region_view.proofs.Common.{length, ◌-◌, ◌≡◌, ◌≤◌, put_words, Goes, held_of, Ready}
use Rattle.rio_model.specs.RegionMoves.{RestHeld}
use Rattle.region_view.proofs.region_pages.store_words.Given as goal

-- the first words are stored
abbrev pub invariant-loop-done : goal.invariant-loop-done
invariant-loop-done g l =
    let V = g.V.Blocks in
    record {
      within : l.done ≤ length l.from;
      words : (held_of l.shape (V.seen l.v).words l.i.0).word ≡ put_words (held_of l.shape (V.seen l.initial.v).words l.i.0).word l.at l.done l.from;
      rest : RestHeld l.shape l.i.0 (V.seen l.initial.v).words (V.seen l.v).words;
      ready : Ready l.shape (V.seen l.v) (g.V.Volume.kept l.v);
      goes : Goes (V.health l.initial.v) (g.V.Volume.below l.initial.v) (V.health l.v) (g.V.Volume.below l.v);
      later : (V.health l.initial.v).faults ≤ (V.health l.v).faults;
      running : (V.health l.v).stopped ≡ (V.health l.initial.v).stopped;
      sound : V.sound l.v;
    }

abbrev pub decreases-loop-done : goal.decreases-loop-done
decreases-loop-done g l = length l.from - l.done
