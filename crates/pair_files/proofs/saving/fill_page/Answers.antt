use Rattle.std.proofs.Common.{◌*◌, arith}
use Rattle.pair_files.proofs.BytesIn.{page_put}
use Rattle.pair_files.proofs.saving.fill_page.Goals as goal

pub returns-clause-page : goal.returns-clause-page
returns-clause-page c = page_put c.args.bytes.now c.fill_image.new.into c.args.words.now (4096 * c.args.p) _ (omega arith) c.requires.within c.requires.words c.fill_image.ensures
