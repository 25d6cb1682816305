use Rattle.std.proofs.Common.{◌≤◌, ◌+◌, ◌*◌, ◌∙◌, sym, arith}
use Rattle.board.specs.BoardLaws.{count_protected, pages_protected}
use Rattle.board.specs.Boards.{protected_count}
use Rattle.board.proofs.Places.{page_protected}
use Rattle.board.proofs.board.BoardMachine.frame.Goals as goal

pub returns-clause-protected : goal.returns-clause-protected
returns-clause-protected g c = λ known.
    let old = c.args.self.now in
    let words = g.F.MemWords.words old.mem in
    let within : 512 * c.args.p.0 + 512 ≤ protected_count words old.scratch = omega (arith, known, pages_protected words old.scratch old.whole old.room, count_protected words old.scratch) in
    c.frame.ensures ∙ sym (page_protected words (protected_count words old.scratch) c.args.p.0 within)
