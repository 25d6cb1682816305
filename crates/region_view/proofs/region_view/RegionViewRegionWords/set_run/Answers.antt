use Rattle.region_view.proofs.Common.{refl}
use Rattle.region_view.proofs.Views.{inode_still, on_still}
use Rattle.region_view.proofs.region_view.RegionViewRegionWords.set_run.Goals as goal

pub returns-clause-stays : goal.returns-clause-stays
returns-clause-stays g c =
    let view = c.args.self.now in
    let call = c.store_words.ensures in
    record {
      rest = record { shape = refl; ino = refl; count = refl; rest = call.rest };
      ready = (call.sound, on_still view.shape (g.V.Blocks.seen view.v) (g.V.Volume.kept view.v) _ _ view.ino.0 view.words c.requires.ready.1 call.ready call.rest, inode_still view.shape view.ino.0 _ _ view.inode c.requires.ready.2 call.rest);
      count = refl;
      goes = call.goes;
    }
