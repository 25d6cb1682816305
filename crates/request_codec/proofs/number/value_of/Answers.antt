use Rattle.request_codec.proofs.Numbers.{value_is, no_value}
use Rattle.request_codec.proofs.number.value_of.Goals as goal

pub returns-then-decode_into : goal.returns-then-decode_into
returns-then-decode_into c = value_is c.args.digits.now c.decode_into.new.out _ c.if-digits-ne-VALUE_DIGITS.false c.from_be_bytes.ensures c.from_be_bytes.type_inv c.if-decode_into.ensures

pub returns-else-decode_into : goal.returns-else-decode_into
returns-else-decode_into c = no_value c.args.digits.now c.if-decode_into.ensures
