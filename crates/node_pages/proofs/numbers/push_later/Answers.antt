use Rattle.rio_base.proofs.Frames.{filled_ok, filled_value, filled_memory, filled_on}
use Rattle.node_pages.proofs.EndsOn.{if_err}
use Rattle.node_pages.proofs.Common.{ℕ, List, ◌-◌, ◌/◌, ◌∙◌, ap, arith, slice_index, AtPage, HasSlot, placed_at}
use Rattle.rio_base.specs.Layout.{half}
use Rattle.node_pages.proofs.Looked.{run_number}
use Rattle.node_pages.proofs.numbers.push_later.Goals as goal

pub returns-clause-value : goal.returns-clause-value
returns-clause-value g c =
    let f = (g.V.Blocks.seen c.args.v.now).words in
    let n = placed_at f c.args.i.0 in
    let w = (c.args.first - 24) / 2 in
    c.in_ok-push_numbers.ensures n (λ p low high.
    let within = c.requires.within in
    let past = c.requires.past in
    let has : HasSlot n (AtPage p) = record { used = c.requires.owns.slot.used; within = (omega (arith, high, within)) } in
    ap (λ (ws : List ℕ). half (slice_index ws ((p - 24) / 2 - w)) p) c.deref.ensures.value ∙ run_number f c.args.i.0 p w _ c.in_ok-words.words.items c.in_ok-words.ensures.words (omega (arith, low, past)) has (omega (arith, low)) (omega (arith, low, high, past)))

pub returns-in_err-push_numbers-clause-value : goal.returns-in_err-push_numbers-clause-value
returns-in_err-push_numbers-clause-value g c = if_err c.from_residual-in_err-push_numbers.result _ c.from_residual-in_err-push_numbers.ensures.0

pub returns-in_err-words-clause-value : goal.returns-in_err-words-clause-value
returns-in_err-words-clause-value g c = if_err c.from_residual.result _ c.from_residual.ensures.0

pub returns-in_err-words-clause-read : goal.returns-in_err-words-clause-read
returns-in_err-words-clause-read g c = filled_on c.table_words.result c.from_residual.result c.in_err-words.was c.from_residual.ensures.1 c.table_words.ensures.read

pub returns-clause-read : goal.returns-clause-read
returns-clause-read g c = filled_value _ (filled_ok c.table_words.result _ c.in_ok-words.was c.table_words.ensures.read)

pub returns-in_err-push_numbers-clause-read : goal.returns-in_err-push_numbers-clause-read
returns-in_err-push_numbers-clause-read g c = filled_memory c.from_residual-in_err-push_numbers.result c.from_residual-in_err-push_numbers.ensures.1 (filled_ok c.table_words.result _ c.in_ok-words.was c.table_words.ensures.read)

pub table_words-requires-clause-can : goal.table_words-requires-clause-can
table_words-requires-clause-can g c = c.requires.can
