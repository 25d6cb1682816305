use Rattle.std.proofs.Common.{◌∙◌, ◌*◌, ◌/◌, ◌%◌, ◌+◌, ◌≡◌, ap, arith, drop, length, sym, take}
use Rattle.std.proofs.Common.{ℕ, List, length-drop}
use Rattle.std.proofs.lemmas.List.{length-take-le}
use Rattle.held_memory.proofs.Filling.{page_part}
use Rattle.held_memory.proofs.held_file.part_from.Goals as goal

pub part_of-requires-clause-page : goal.part_of-requires-clause-page
part_of-requires-clause-page g c =
    let words : List ℕ = g.F.MemWords.words c.args.mem.now in
    ap length c.frame.ensures ∙ length-take-le 512 (drop (512 * (c.args.at / 512)) words) (omega (arith, length-drop (512 * (c.args.at / 512)) words, c.requires.whole, c.requires.within, c.requires.span))

pub returns-clause-words : goal.returns-clause-words
returns-clause-words g c =
    let words : List ℕ = g.F.MemWords.words c.args.mem.now in
    let place : c.args.at ≡ 512 * (c.args.at / 512) + c.args.at % 512 = omega arith in
    page_part c.args.at (c.args.at / 512) (c.args.at % 512) c.min-count.result words c.part_of.result.now place (omega (arith, c.min-count.ensures)) (c.part_of.ensures.words ∙ ap (λ (ws : List ℕ). take c.min-count.result (drop (c.args.at % 512) ws)) c.frame.ensures)
    ∙ ap (λ k. take k (drop c.args.at words)) (sym c.part_of.ensures.count)
