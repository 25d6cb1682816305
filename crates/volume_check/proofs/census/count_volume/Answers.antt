use Rattle.volume_check.proofs.Common.{◌-◌, ◌∙◌, ap, sym, reserved, VolumeShape}
use Rattle.rio_model.specs.Sizes.{used_blocks}
use Rattle.volume_check.proofs.Counts.{dirs_counted, files_counted, regions_counted, used_counted}
use Rattle.volume_check.proofs.census.count_volume.Goals as goal

pub returns-clause-census : goal.returns-clause-census
returns-clause-census c = λ s t h reads.
    let n = c.args.inodes.now in
    let used = c.count_used-used.ensures ∙ used_counted s n t h reads in
    record {
      shape = sym reads.sizes;
      dirs = c.count_kind.ensures ∙ dirs_counted s n t h reads;
      files = c.count_kind-2.ensures ∙ files_counted s n t h reads;
      regions = c.count_kind-3.ensures ∙ regions_counted s n t h reads;
      used = used;
      free = c.saturating_sub-2.ensures ∙ (λ e. (c.saturating_sub.ensures ∙ ap (λ r. n.shape.blocks - r) c.reserved_blocks.ensures) e - used e) ∙ ap (λ (sh : VolumeShape). sh.blocks - reserved sh - used_blocks t) (sym reads.sizes);
    }
