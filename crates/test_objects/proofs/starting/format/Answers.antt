use Rattle.std.proofs.Common.{arith}
use Rattle.rio_base.specs.Rules.{firm_trans}
use Rattle.test_objects.proofs.FreshVolumes.{first_block, first_named, one_stored, three_stored, three_words, two_stored}
use Rattle.test_objects.proofs.starting.format.Goals as goal

pub returns-in_err-store_run-clause-shape : goal.returns-in_err-store_run-clause-shape
returns-in_err-store_run-clause-shape g c = one_stored c.args.shape.now _ _ c.requires.sizes c.requires.shape c.store_run.ensures.count c.store_run.ensures.caches

pub returns-in_err-store-clause-firm : goal.returns-in_err-store-clause-firm
returns-in_err-store-clause-firm g c = firm_trans _ _ _ c.store_run.ensures.firm c.store.ensures.firm

pub returns-in_err-store-clause-shape : goal.returns-in_err-store-clause-shape
returns-in_err-store-clause-shape g c = two_stored c.args.shape.now _ _ _ c.requires.sizes c.requires.shape c.store_run.ensures.count c.store_run.ensures.caches c.store.ensures.count c.store.ensures.caches

pub returns-in_err-store-2-clause-firm : goal.returns-in_err-store-2-clause-firm
returns-in_err-store-2-clause-firm g c = firm_trans _ _ _ (firm_trans _ _ _ c.store_run.ensures.firm c.store.ensures.firm) c.store-2.ensures.firm

pub returns-in_err-store-2-clause-shape : goal.returns-in_err-store-2-clause-shape
returns-in_err-store-2-clause-shape g c = three_stored c.args.shape.now _ _ _ _ c.requires.sizes c.requires.shape c.store_run.ensures.count c.store_run.ensures.caches c.store.ensures.count c.store.ensures.caches c.store-2.ensures.count c.store-2.ensures.caches

pub returns-clause-firm : goal.returns-clause-firm
returns-clause-firm g c = firm_trans _ _ _ (firm_trans _ _ _ c.store_run.ensures.firm c.store.ensures.firm) c.store-2.ensures.firm

pub returns-clause-shape : goal.returns-clause-shape
returns-clause-shape g c = three_stored c.args.shape.now _ _ _ _ c.requires.sizes c.requires.shape c.store_run.ensures.count c.store_run.ensures.caches c.store.ensures.count c.store.ensures.caches c.store-2.ensures.count c.store-2.ensures.caches

pub returns-clause-words : goal.returns-clause-words
returns-clause-words g c = three_words c.args.shape.now _ _ _ _ c.reserved_marks.result c.reserved_marks.ensures c.in_ok-store_run.ensures.ok c.in_ok-store.ensures.ok c.in_ok-store-2.ensures.ok

pub store_run-requires-clause-name : goal.store_run-requires-clause-name
store_run-requires-clause-name g c = first_named c.args.shape.now _ _ c.requires.sizes c.requires.shape (omega arith)

pub store_run-requires-clause-place : goal.store_run-requires-clause-place
store_run-requires-clause-place g c = record { block = first_block c.args.shape.now _ _ c.requires.sizes c.requires.shape (omega arith); within = omega arith }

pub store-requires-clause-name : goal.store-requires-clause-name
store-requires-clause-name g c = first_named c.args.shape.now _ _ c.requires.sizes (one_stored c.args.shape.now _ _ c.requires.sizes c.requires.shape c.store_run.ensures.count c.store_run.ensures.caches) (omega arith)

pub store-requires-clause-place : goal.store-requires-clause-place
store-requires-clause-place g c = record { block = first_block c.args.shape.now _ _ c.requires.sizes (one_stored c.args.shape.now _ _ c.requires.sizes c.requires.shape c.store_run.ensures.count c.store_run.ensures.caches) (omega arith); word = omega arith }

pub store-requires-2-clause-name : goal.store-requires-2-clause-name
store-requires-2-clause-name g c = first_named c.args.shape.now _ _ c.requires.sizes (two_stored c.args.shape.now _ _ _ c.requires.sizes c.requires.shape c.store_run.ensures.count c.store_run.ensures.caches c.store.ensures.count c.store.ensures.caches) (omega arith)

pub store-requires-2-clause-place : goal.store-requires-2-clause-place
store-requires-2-clause-place g c = record { block = first_block c.args.shape.now _ _ c.requires.sizes (two_stored c.args.shape.now _ _ _ c.requires.sizes c.requires.shape c.store_run.ensures.count c.store_run.ensures.caches c.store.ensures.count c.store.ensures.caches) (omega arith); word = omega arith }
