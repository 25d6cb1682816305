use Rattle.std.proofs.Common.{arith}
use Rattle.registry.proofs.Changes.{entry_read}
use Rattle.registry.proofs.Places.{entry_small, first_within, in_memory, word_within}
use Rattle.registry.proofs.entry.read_entry.Goals as goal

pub place_of-place-requires : goal.place_of-place-requires
place_of-place-requires g c = entry_small _ _ c.args.k c.requires.layout c.requires.entry

pub load-requires : goal.load-requires
load-requires g c = in_memory _ _ _ (first_within _ _ c.args.k _ c.requires.layout c.requires.entry c.place_of-place.ensures.place)

pub load-requires-2 : goal.load-requires-2
load-requires-2 g c = in_memory _ _ _ (word_within _ _ c.args.k _ 1 c.requires.layout c.requires.entry c.place_of-place.ensures.place (omega arith))

pub load-requires-3 : goal.load-requires-3
load-requires-3 g c = in_memory _ _ _ (word_within _ _ c.args.k _ 2 c.requires.layout c.requires.entry c.place_of-place.ensures.place (omega arith))

pub load-requires-4 : goal.load-requires-4
load-requires-4 g c = in_memory _ _ _ (word_within _ _ c.args.k _ 3 c.requires.layout c.requires.entry c.place_of-place.ensures.place (omega arith))

pub load-requires-5 : goal.load-requires-5
load-requires-5 g c = in_memory _ _ _ (word_within _ _ c.args.k _ 4 c.requires.layout c.requires.entry c.place_of-place.ensures.place (omega arith))

pub overflow_add-place : goal.overflow_add-place
overflow_add-place g c = omega (arith, c.place_of-place.ensures.small)

pub overflow_add-place-2 : goal.overflow_add-place-2
overflow_add-place-2 g c = omega (arith, c.place_of-place.ensures.small)

pub overflow_add-place-3 : goal.overflow_add-place-3
overflow_add-place-3 g c = omega (arith, c.place_of-place.ensures.small)

pub overflow_add-place-4 : goal.overflow_add-place-4
overflow_add-place-4 g c = omega (arith, c.place_of-place.ensures.small)

pub returns : goal.returns
returns g c = entry_read (g.M.Machine.contents c.args.m.now).words c.args.k c.place_of-place.result _ _ _ _ _ c.place_of-place.ensures.place
    (c.load.ensures.protected (first_within _ _ c.args.k _ c.requires.layout c.requires.entry c.place_of-place.ensures.place))
    (c.load-2.ensures.protected (word_within _ _ c.args.k _ 1 c.requires.layout c.requires.entry c.place_of-place.ensures.place (omega arith)))
    (c.load-3.ensures.protected (word_within _ _ c.args.k _ 2 c.requires.layout c.requires.entry c.place_of-place.ensures.place (omega arith)))
    (c.load-4.ensures.protected (word_within _ _ c.args.k _ 3 c.requires.layout c.requires.entry c.place_of-place.ensures.place (omega arith)))
    (c.load-5.ensures.protected (word_within _ _ c.args.k _ 4 c.requires.layout c.requires.entry c.place_of-place.ensures.place (omega arith)))
