use Rattle.std.proofs.Common.{ap, ◌∙◌, ◌/◌, ℕ, arith, length}
use Rattle.std.proofs.lemmas.List.FromFn.{length-map-range_with_len}
use Rattle.std.proofs.Math.Nat.{mul-div_cancel_left}
use Rattle.rio_commands.proofs.formatting.image_of.Goals as goal

pub returns-clause-pages : goal.returns-clause-pages
returns-clause-pages c =
    ap (λ (n : ℕ). n / 512) (c.len-pages.ensures ∙ c.in_ok-words.words.ok.0 ∙ ap length c.in_ok-words.ensures.value ∙ length-map-range_with_len _ _ _) ∙ mul-div_cancel_left _ (omega arith)
