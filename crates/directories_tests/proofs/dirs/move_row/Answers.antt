use Rattle.directories.proofs.Common.{◌*◌, ◌+◌, ◌<◌, ◌≤◌, ◌∙◌, sym, subst, arith, BlockWords, held_of}
use Rattle.directories_tests.proofs.dirs.move_row.Goals as goal

pub move_slot-requires-clause-slot : goal.move_slot-requires-clause-slot
move_slot-requires-clause-slot c = subst (λ (f : BlockWords). 64 * c.in_ok-slot.slot < (held_of c.args.shape.now f 1).size) (sym c.find_row.ensures.words) c.in_ok-slot.ensures.value

pub move_slot-requires-clause-room : goal.move_slot-requires-clause-room
move_slot-requires-clause-room c =
    let value = c.in_ok-size.ensures.value in
    let low = c.if-size-gt-ROOMY.false in
    subst (λ (f : BlockWords). (held_of c.args.shape.now f 2).size + 64 ≤ 4292608) (sym (c.find_row.ensures.words ∙ c.slot_of.ensures.words)) (omega (arith, value, low))
