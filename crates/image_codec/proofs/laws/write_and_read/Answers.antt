use Rattle.std.proofs.Common.{◌<◌, ◌^◌, ◌∙◌, ℕ, arith, All}
use Rattle.std.proofs.lemmas.List.Elements.{All-from_get_or}
use Rattle.image_codec.proofs.laws.write_and_read.Goals as goal

pub returns : goal.returns
returns c =
    let fits : All (λ (w : ℕ). w < 2 ^ 64) c.args.words.now = All-from_get_or (λ (w : ℕ). w < 2 ^ 64) c.args.words.now 0 (λ i lt. omega (arith, c.type_inv.words i)) in
    c.read_image.ensures.only c.args.words.now fits (c.deref.ensures.value ∙ c.in_ok-bytes.ensures) c.requires
