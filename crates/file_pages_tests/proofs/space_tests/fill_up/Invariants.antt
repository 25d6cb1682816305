use Rattle.file_pages_tests.specs.declared.volumes.TheConstants.{SMALL}
use Rattle.file_pages_tests.specs.TestFiles.{FilesReady}
use Rattle.file_pages_tests.proofs.space_tests.fill_up.Given as goal

abbrev pub invariant-loop-page : goal.invariant-loop-page
invariant-loop-page g l = record {
  sound : g.V.Blocks.sound l.v;
  files : FilesReady SMALL (g.V.Blocks.seen l.v) (g.V.Volume.kept l.v);
}
