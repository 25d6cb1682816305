use Rattle.std.proofs.Common.{◌∙◌, arith}
use Rattle.std.proofs.lemmas.List.{take_at}
use Rattle.std.proofs.lemmas.Result.{IfOk-from_err}
use Rattle.image_codec.proofs.image.write_image.Goals as goal

pub returns-in_err-bytes : goal.returns-in_err-bytes
returns-in_err-bytes c = IfOk-from_err c.from_residual.result _ c.from_residual.ensures.0

pub fill_image-requires : goal.fill_image-requires
fill_image-requires c = omega (arith, c.deref_mut.ensures.len, c.in_ok-bytes.ensures.len)

pub returns : goal.returns
returns c = take_at c.fill_image.new.into _ c.in_ok-bytes.bytes.len (c.fill_image.auto.into ∙ c.deref_mut.ensures.len) ∙ c.fill_image.ensures
