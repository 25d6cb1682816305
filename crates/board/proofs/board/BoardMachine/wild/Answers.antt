use Rattle.std.proofs.Common.{◌≡◌}
use Rattle.rio_base.specs.declared.wild.Wild.TheVariants.{Changed}
use Rattle.board.specs.Guards.{after_store, Lands}
use Rattle.board.proofs.Places.{wild_changed}
use Rattle.board.proofs.board.BoardMachine.wild.Goals as goal

pub returns-in-Changed-clause-run : goal.returns-in-Changed-clause-run
returns-in-Changed-clause-run g c =
    let board = c.args.self.now in
    let guard : c.wild-fallen.new.self ≡ after_store Changed c.args.at board.guard = rw c.in-Changed.is at c.wild-fallen.ensures.after in
    let lands : Lands board.guard c.protected_words-size.result c.args.at.0 Changed = rw c.in-Changed.is at c.wild-fallen.ensures.lands in
    rw (c.store.ensures, guard, c.in-Changed.is) (wild_changed (g.F.MemWords.words board.mem) board.scratch c.args.at.0 c.args.v board.guard (rw c.protected_words-size.ensures at lands))
