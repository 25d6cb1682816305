use Rattle.std.proofs.Common.{refl}
use Rattle.cached_pages.proofs.Kept.{knows_on, sound_near}
use Rattle.cached_pages.proofs.Nearness.{knows_synced}
use Rattle.cached_pages.proofs.leaving.sync_all.Goals as goal

pub returns-in-Ok-clause-nears : goal.returns-in-Ok-clause-nears
returns-in-Ok-clause-nears g c = record { keeps = c.sync_disk.ensures.keeps; words = c.sync_disk.ensures.words; lasts = c.sync_disk.ensures.lasts; tables = record { forgotten = refl; shadowed = refl; shadows = refl }; pool = refl }

pub returns-in-Ok-clause-sound : goal.returns-in-Ok-clause-sound
returns-in-Ok-clause-sound g c =
    let old = g.M.Machine.contents c.args.m.now in
    let new = g.M.Machine.contents c.sync_disk.new.m in
    sound_near _ _ old new _ _ c.requires.sound c.sync_disk.ensures.ends.steps.scratch_count (record { keeps = c.sync_disk.ensures.keeps; words = c.sync_disk.ensures.words; lasts = c.sync_disk.ensures.lasts; tables = record { forgotten = refl; shadowed = refl; shadows = refl }; pool = refl }) c.sync_disk.ensures.closed refl refl (knows_synced _ old new _ _ c.requires.sound c.settle.ensures c.sync_disk.ensures.disk c.in-Ok.ensures.synced)

pub returns-in-Err-clause-nears : goal.returns-in-Err-clause-nears
returns-in-Err-clause-nears g c = record { keeps = c.sync_disk.ensures.keeps; words = c.sync_disk.ensures.words; lasts = c.sync_disk.ensures.lasts; tables = record { forgotten = refl; shadowed = refl; shadows = refl }; pool = refl }

pub returns-in-Err-clause-sound : goal.returns-in-Err-clause-sound
returns-in-Err-clause-sound g c =
    let old = g.M.Machine.contents c.args.m.now in
    let new = g.M.Machine.contents c.sync_disk.new.m in
    sound_near _ _ old new _ _ c.requires.sound c.sync_disk.ensures.ends.steps.scratch_count (record { keeps = c.sync_disk.ensures.keeps; words = c.sync_disk.ensures.words; lasts = c.sync_disk.ensures.lasts; tables = record { forgotten = refl; shadowed = refl; shadows = refl }; pool = refl }) c.sync_disk.ensures.closed refl refl (knows_on old new _ _ c.sync_disk.ensures.disk c.in-Err.ensures.same c.lose.ensures c.requires.sound.early)
