use Rattle.std.proofs.Common.{false, refl}
use Rattle.cached_pages.proofs.Starts.{first_is, none_marked, same_count}
use Rattle.cached_pages.proofs.tables.CacheTables.new.Goals as goal

pub returns : goal.returns
returns c = record {
  fresh = record {
    in_pool = c.in_ok-pool.ensures.frames;
    in_volume = c.in_ok-pool.ensures.blocks;
    first = first_is c.args.frames;
    marks = same_count c.args.blocks false c.in_ok-forgotten.forgotten.items (c.in_ok-forgotten.ensures.items_if_clones_equal (λ y e. e));
    firm = λ b. none_marked c.args.blocks b c.in_ok-forgotten.forgotten.items (c.in_ok-forgotten.ensures.items_if_clones_equal (λ y e. e));
    buffer = same_count 512 0 c.in_ok-buffer.buffer.items (c.in_ok-buffer.ensures.items_if_clones_equal (λ y e. e));
    early = c.in_ok-early.ensures;
    free = c.in_ok-pool.ensures.free;
    room = refl;
    none = refl;
    unpinned = c.in_ok-pool.ensures.pins;
    few = c.in_ok-pool.ensures.pins_in;
  };
}
