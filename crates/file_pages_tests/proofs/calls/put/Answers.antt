use Rattle.node_pages.specs.declared.failures.WriteFail.TheVariants.{Stopped}
use Rattle.file_pages_tests.proofs.TestFiles.{on_answered}
use Rattle.file_pages_tests.proofs.calls.put.Goals as goal

pub returns-clause-files : goal.returns-clause-files
returns-clause-files g c = on_answered c.write_file-came.result Stopped c.written.result c.written.ensures c.write_file-came.ensures.files
