use Rattle.request_codec.proofs.FewDigits.{few_decoded}
use Rattle.request_codec.proofs.hex_digits.decode_into.Goals as goal

pub returns-then-digits-lt-MANY_DIGITS : goal.returns-then-digits-lt-MANY_DIGITS
returns-then-digits-lt-MANY_DIGITS c = few_decoded _ c.args.out.now _ _ _ c.requires c.decode_to_slice.ensures.value c.is_ok.ensures.value
