use Rattle.node_pages.specs.declared.failures.SizeFail.TheVariants.{Stopped}
use Rattle.file_pages_tests.proofs.TestFiles.{on_answered}
use Rattle.file_pages_tests.proofs.calls.set_size.Goals as goal

pub returns-clause-files : goal.returns-clause-files
returns-clause-files g c = on_answered c.resize_file-came.result Stopped c.resized.result c.resized.ensures c.resize_file-came.ensures.files
