use Rattle.file_pages_tests.specs.TestFiles.{FilesReady}
use Rattle.file_pages_tests.proofs.rows.first_other.Given as goal

abbrev pub invariant-loop-k : goal.invariant-loop-k
invariant-loop-k g l = record {
  sound : g.V.Blocks.sound l.v;
  files : FilesReady l.shape (g.V.Blocks.seen l.v) (g.V.Volume.kept l.v);
}
