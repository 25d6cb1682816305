use Rattle.file_pages.proofs.Common.{◌-◌, ◌%◌, set, ap, arith, length-set, length-take-le, take_rest}
use Rattle.std.proofs.lemmas.List.{length-drop}
use Rattle.file_pages.proofs.Filled.{words_begun, words_filled}
use Rattle.file_pages.proofs.pieces.fill_words.Goals as goal

pub returns-clause-bytes : goal.returns-clause-bytes
returns-clause-bytes c was own y low = words_filled c.args.first c.args.last _ (c.args.at % 8) _ c.args.bytes.now c.args.words.now _ _ _ _ (omega arith) c.min-head.ensures c.requires.some (omega (arith, c.requires.room)) (ap (λ n. n - 1) (length-set c.args.words.now 0 _)) (length-take-le _ _ (omega (arith, length-drop 1 (set c.args.words.now 0 c.put_in_word.result)))) c.fill_rest-2.ensures.len (take_rest c.args.bytes.now _) c.put_in_word.ensures c.fill_rest-2.ensures.bytes was own y low

pub returns-then-skip-eq0-clause-bytes : goal.returns-then-skip-eq0-clause-bytes
returns-then-skip-eq0-clause-bytes c was own y low = words_begun c.args.first c.args.last _ c.args.bytes.now c.args.words.now _ c.if-skip-eq0.true (omega (arith, c.requires.room, c.if-skip-eq0.true)) c.fill_rest.ensures.bytes was own y low
