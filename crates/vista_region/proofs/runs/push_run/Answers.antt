use Rattle.vista_region.proofs.Common.{◌+◌, ◌*◌, ◌∙◌, ◌≤◌, ap, arith, length-take-le, subst, sym}
use Rattle.rio_model.specs.Undo.{places}
use Rattle.vista_region.proofs.runs.push_run.Goals as goal

pub slice_bounds-words-end : goal.slice_bounds-words-end
slice_bounds-words-end g c = omega (arith, c.div_ceil-count.ensures, c.if-to-gt-SHORT_BYTES.false)

pub slice_bounds-line-end : goal.slice_bounds-line-end
slice_bounds-line-end g c = omega (arith, c.div_ceil-count.ensures, c.if-to-gt-SHORT_BYTES.false)

pub push_through-requires-clause-line : goal.push_through-requires-clause-line
push_through-requires-clause-line g c = length-take-le _ _ (omega (arith, c.div_ceil-count.ensures, c.if-to-gt-SHORT_BYTES.false)) ∙ ap (λ n. 8 * n) (sym (length-take-le _ _ (omega (arith, c.div_ceil-count.ensures, c.if-to-gt-SHORT_BYTES.false))))

pub push_through-requires-clause-place : goal.push_through-requires-clause-place
push_through-requires-clause-place g c = subst (λ n. c.args.place + n ≤ places (g.R.RegionWords.words c.args.r.now)) (sym (length-take-le _ _ (omega (arith, c.div_ceil-count.ensures, c.if-to-gt-SHORT_BYTES.false)))) (omega (arith, c.div_ceil-count.ensures, c.requires.place))

pub push_through-requires-clause-within : goal.push_through-requires-clause-within
push_through-requires-clause-within g c = subst (λ n. c.args.to ≤ 8 * n) (sym (length-take-le _ _ (omega (arith, c.div_ceil-count.ensures, c.if-to-gt-SHORT_BYTES.false)))) (omega (arith, c.div_ceil-count.ensures))
