use Rattle.file_pages_tests.specs.declared.volumes.TheConstants.{SMALL}
use Rattle.file_pages_tests.specs.TestFiles.{FilesReady}
use Rattle.file_pages_tests.proofs.space_tests.first_other_of.Given as goal

abbrev pub invariant-loop-k : goal.invariant-loop-k
invariant-loop-k g l = record {
  sound : g.V.Blocks.sound l.v;
  files : FilesReady SMALL (g.V.Blocks.seen l.v) (g.V.Volume.kept l.v);
}
