use Rattle.node_pages.proofs.Common.{◌≡◌, ◌≤◌, true, length, map, Contains, Drops, Goes, Firm, SameUpdate, edited}
use Rattle.node_pages.specs.Changes.{word_edit}
use Rattle.node_pages.specs.declared.changes.Edit.{Edit}
use Rattle.node_pages.proofs.updating.make_edits.Given as goal

-- the edits before the rest are made
abbrev pub invariant-loop-rest : goal.invariant-loop-rest
invariant-loop-rest g l =
    let seen = g.V.Blocks.seen in
    let kept = g.V.Volume.kept in
    let health = g.V.Blocks.health in
    record {
      within : (e : Edit) → Contains l.rest e → Contains l.edits e;
      made : edited (seen l.v).words (map word_edit l.rest) ≡ edited (seen l.fn.v).words (map word_edit l.edits);
      update : SameUpdate (kept l.fn.v) (kept l.v);
      in_update : (kept l.v).updating ≡ true;
      standing : (kept l.v).standing ≡ (kept l.fn.v).standing;
      firm : Firm (kept l.fn.v) (kept l.v);
      count : (seen l.v).count ≡ (seen l.fn.v).count;
      drops : Drops (seen l.fn.v) (seen l.v);
      goes : Goes (health l.fn.v) (g.V.Volume.below l.fn.v) (health l.v) (g.V.Volume.below l.v);
      later : (health l.fn.v).faults ≤ (health l.v).faults;
      running : (health l.v).stopped ≡ (health l.fn.v).stopped;
      sound : g.V.Blocks.sound l.v;
    }

abbrev pub decreases-loop-rest : goal.decreases-loop-rest
decreases-loop-rest g l = length l.rest
