use Rattle.request_codec.proofs.Meanings.{unknown_word}
use Rattle.request_codec.proofs.parse.parse_line_reusing.Goals as goal

pub returns : goal.returns
returns c = unknown_word c.args.line.now c.in-Some.word.now c.in-Some.text.now c.in-Some.ensures (record {
  path = c.in_default-of-3.ensures;
  with_data = c.in_default-of.ensures;
  numbers = c.in_default-of-2.ensures;
  number = c.in_default-of-4.ensures;
  other = c.in_default-of-5.ensures;
})
