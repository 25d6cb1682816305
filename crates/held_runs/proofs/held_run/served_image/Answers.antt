use Rattle.std.proofs.Common.{◌≡◌, ◌∙◌, ℕ, List, Option}
use Rattle.rio_words.specs.declared.command.RioCommand.TheVariants.{Serve}
use Rattle.held_runs.proofs.held_run.served_image.Goals as goal

one_image : (image disk name other : List ℕ) (stop most : Option ℕ) → Serve image disk stop ≡ Serve name other most → name ≡ image
one_image image disk name other stop most e = cc

-- the words are a form of one command alone
pub returns : goal.returns
returns c = λ image disk stop reads.
    let same = c.in-Ok-Serve.ensures.only (Serve image disk stop) reads ∙ c.in-Ok-Serve.field-0-is in
    c.in-Ok.ensures.cases ∙ c.text.ensures ∙ one_image image disk _ _ stop _ same
