use Rattle.file_pages.proofs.Common.{◌≡◌, ◌≤◌, ◌-◌, false, length, Contains, Firm, Goes, numbers}
use Rattle.file_pages.specs.Spans.{PutsSpan, SpanNamed}
use Rattle.node_pages.specs.Staging.{Beside}
use Rattle.file_pages.proofs.spans.store_span.Given as goal

abbrev pub invariant-loop-done : goal.invariant-loop-done
invariant-loop-done g l =
    let seen = g.V.Blocks.seen in
    let kept = g.V.Volume.kept in
    let health = g.V.Blocks.health in
    record {
      within : l.done ≤ length l.bytes;
      puts : PutsSpan (seen l.fn.v).words (seen l.v).words (numbers l.blocks) l.first l.off l.bytes l.done;
      beside : Beside (Contains (numbers l.blocks)) (seen l.fn.v) (kept l.fn.v) (seen l.v) (kept l.v);
      firm : Firm (kept l.fn.v) (kept l.v);
      named : SpanNamed (numbers l.blocks) l.first l.i.0 l.len (seen l.v);
      idle : (kept l.v).updating ≡ false;
      goes : Goes (health l.fn.v) (g.V.Volume.below l.fn.v) (health l.v) (g.V.Volume.below l.v);
      later : (health l.fn.v).faults ≤ (health l.v).faults;
      running : (health l.v).stopped ≡ (health l.fn.v).stopped;
      sound : g.V.Blocks.sound l.v;
    }

abbrev pub decreases-loop-done : goal.decreases-loop-done
decreases-loop-done g l = length l.bytes - l.done
