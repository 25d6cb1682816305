use Rattle.std.proofs.Common.{ap}
use Rattle.rio_base.specs.Machine.{Contents, Running}
use Rattle.boots.proofs.PartsMachines.{parts_machine, parts_never}
use Rattle.boots.proofs.counting.count_parts.Goals as goal

pub count_machine-requires-clause-closed : goal.count_machine-requires-clause-closed
count_machine-requires-clause-closed c = ap (λ (x : Contents). x.open_page) c.board_of.ensures.contents

pub count_machine-requires-clause-running : goal.count_machine-requires-clause-running
count_machine-requires-clause-running c = ap (λ (x : Running). x.stopped) c.board_of.ensures.run

pub count_machine-requires-clause-never : goal.count_machine-requires-clause-never
count_machine-requires-clause-never c = parts_never _ _ _ _ _ _ c.board_of.ensures.contents c.requires.stand.1

pub count_machine-requires-clause-standing : goal.count_machine-requires-clause-standing
count_machine-requires-clause-standing c =
    let s = c.requires.stand in
    (s.0, parts_machine _ _ _ _ s.0 _ _ c.board_of.ensures.contents c.board_of.ensures.run c.board_of.ensures.whole s.1)

pub returns : goal.returns
returns c = record { counts = λ s st. c.in_ok-counts.ensures.counts s (parts_machine _ _ _ _ s _ _ c.board_of.ensures.contents c.board_of.ensures.run c.board_of.ensures.whole st) }
