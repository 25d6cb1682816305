use Rattle.region_view.proofs.Common.{refl}
use Rattle.region_view.proofs.RegionPlaces.{reads_ready, ready_read}
use Rattle.region_view.proofs.Views.{inode_still, on_still}
use Rattle.rio_model.proofs.RegionMoves.{rest_same}
use Rattle.region_view.proofs.region_view.RegionViewRegionWords.read_run.Goals as goal

pub read_words-requires-clause-can : goal.read_words-requires-clause-can
read_words-requires-clause-can g c = reads_ready c.args.self.now.shape _ _ c.requires.ready.1.ready

pub returns-clause-stays : goal.returns-clause-stays
returns-clause-stays g c =
    let view = c.args.self.now in
    let call = c.read_words.ensures in
    let passes = g.met.V.Volume.passes_keeps _ _ call.passes in
    let ready = ready_read view.shape _ _ _ _ _ _ _ _ c.requires.ready.1.ready call.can call.words passes in
    let rest = rest_same view.shape view.ino.0 (g.V.Blocks.seen view.v).words (g.V.Blocks.seen c.read_words.new.v).words call.words in
    record {
      rest = record { shape = refl; ino = refl; count = refl; rest = rest };
      ready = (call.sound, on_still view.shape (g.V.Blocks.seen view.v) (g.V.Volume.kept view.v) _ _ view.ino.0 view.words c.requires.ready.1 ready rest, inode_still view.shape view.ino.0 _ _ view.inode c.requires.ready.2 rest);
      count = refl;
      goes = passes.goes;
    }
