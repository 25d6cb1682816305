use Rattle.cached_pages.proofs.Common.{◌∙◌, ap, arith, subst, sym, is_valid, used_last, order_of, true_false}
use Rattle.std.proofs.Common.{◌<◌}
use Rattle.cached_pages.proofs.Rooms.{adds_after, adds_narrows}
use Rattle.cached_pages.proofs.Zeros.{cleared_then, frees_after, frees_keeps}
use Rattle.cached_pages.proofs.freeing.bring_zeros.Goals as goal
use Rattle.cached_pages.proofs.Uses.{stay_found, stay_trans}
use Rattle.cached_pages.proofs.Goes.{ends_ok}
use Rattle.cached_pages.proofs.Stores.{narrows_cached}
use Rattle.cached_pages.specs.declared.tables.CacheTables.{CacheTables}
use Rattle.cached_pages.proofs.Common.{lasts_trans}
use Rattle.cached_pages.specs.Caches.{SameTables}
use Rattle.cached_pages.proofs.Stills.{still_trans}
use Rattle.cached_pages.proofs.Kept.{tables_refl}
use Rattle.cached_pages.proofs.DirtyMarks.{marks_any, marks_trans}
use Rattle.cached_pages.proofs.Common.{Some, refl}
use Rattle.rio_base.proofs.MachineRules.{ends_err}

pub bind_zeros-requires-clause-entry : goal.bind_zeros-requires-clause-entry
bind_zeros-requires-clause-entry g c = subst (λ f. c.args.k < f) (sym (c.zero_frame.ensures.keeps.header 2 (omega arith))) c.requires.entry

pub bind_zeros-requires-clause-invalid : goal.bind_zeros-requires-clause-invalid
bind_zeros-requires-clause-invalid g c = ap is_valid c.zero_frame.ensures.tag ∙ c.requires.invalid

pub bind_zeros-requires-clause-block : goal.bind_zeros-requires-clause-block
bind_zeros-requires-clause-block g c = subst (λ n. c.args.b.0 < n) (sym c.zero_frame.ensures.lasts.blocks) c.requires.block

pub bind_zeros-requires-clause-uncached : goal.bind_zeros-requires-clause-uncached
bind_zeros-requires-clause-uncached g c = c.zero_frame.ensures.cached.found c.args.b.0 ∙ c.requires.uncached

pub returns-in_err-zero_frame-clause-frees : goal.returns-in_err-zero_frame-clause-frees
returns-in_err-zero_frame-clause-frees g c = frees_keeps c.args.b.0 (g.M.Machine.contents c.args.m.now) (g.M.Machine.contents c.zero_frame.new.m) c.zero_frame.ensures.keeps

pub returns-in_err-zero_frame-clause-adds : goal.returns-in_err-zero_frame-clause-adds
returns-in_err-zero_frame-clause-adds g c = adds_narrows c.args.b.0 c.args.name _ _ (narrows_cached _ _ c.zero_frame.ensures.cached)

pub returns-in_err-bind_zeros-clause-frees : goal.returns-in_err-bind_zeros-clause-frees
returns-in_err-bind_zeros-clause-frees g c = frees_after c.args.b.0 (g.M.Machine.contents c.args.m.now) (g.M.Machine.contents c.zero_frame.new.m) (g.M.Machine.contents c.bind_zeros.new.m) c.zero_frame.ensures.keeps c.bind_zeros.ensures.frees

pub returns-in_err-bind_zeros-clause-adds : goal.returns-in_err-bind_zeros-clause-adds
returns-in_err-bind_zeros-clause-adds g c = adds_after c.args.b.0 c.args.name _ _ _ (narrows_cached _ _ c.zero_frame.ensures.cached) c.bind_zeros.ensures.adds

pub returns-clause-frees : goal.returns-clause-frees
returns-clause-frees g c = frees_after c.args.b.0 (g.M.Machine.contents c.args.m.now) (g.M.Machine.contents c.zero_frame.new.m) (g.M.Machine.contents c.bind_zeros.new.m) c.zero_frame.ensures.keeps c.bind_zeros.ensures.frees

pub returns-clause-adds : goal.returns-clause-adds
returns-clause-adds g c = adds_after c.args.b.0 c.args.name _ _ _ (narrows_cached _ _ c.zero_frame.ensures.cached) c.bind_zeros.ensures.adds

pub returns-clause-reads : goal.returns-clause-reads
returns-clause-reads g c = cleared_then c.args.b.0 _ _ _ c.in_ok-bind_zeros.ensures.reads c.zero_frame.ensures.keeps.reads

pub returns-clause-ends : goal.returns-clause-ends
returns-clause-ends g c = ends_ok _ _ _ _ _ _ (λ q. true_false (sym q)) (λ q. true_false (sym q)) (λ q. true_false (sym q)) c.in_ok-zero_frame.ensures.ends c.in_ok-bind_zeros.ensures.ends

pub returns-in_err-bind_zeros-clause-ends : goal.returns-in_err-bind_zeros-clause-ends
returns-in_err-bind_zeros-clause-ends g c =
    ends_err (g.M.Machine.run c.args.m.now) (g.M.Machine.run c.zero_frame.new.m) (g.M.Machine.run c.bind_zeros.new.m) _ _ refl (grind (arith, c.from_residual-in_err-bind_zeros.ensures)) c.zero_frame.ensures.ends.steps c.in_err-bind_zeros.ensures.ends

pub returns-in_err-zero_frame-clause-stay : goal.returns-in_err-zero_frame-clause-stay
returns-in_err-zero_frame-clause-stay g c = stay_found _ _ c.zero_frame.ensures.cached.found

pub returns-in_err-bind_zeros-clause-stay : goal.returns-in_err-bind_zeros-clause-stay
returns-in_err-bind_zeros-clause-stay g c = stay_trans _ _ _ (stay_found _ _ c.zero_frame.ensures.cached.found) c.bind_zeros.ensures.stay

pub returns-clause-stay : goal.returns-clause-stay
returns-clause-stay g c = stay_trans _ _ _ (stay_found _ _ c.zero_frame.ensures.cached.found) c.bind_zeros.ensures.stay

pub returns-clause-order : goal.returns-clause-order
returns-clause-order g c = c.in_ok-bind_zeros.ensures.order ∙ ap (λ (t : CacheTables). used_last c.args.k (order_of t.pool)) c.zero_frame.ensures.tables

pub returns-in_err-zero_frame-clause-tables : goal.returns-in_err-zero_frame-clause-tables
returns-in_err-zero_frame-clause-tables g c = subst (λ t. SameTables c.args.t.now t) (sym c.zero_frame.ensures.tables) (tables_refl _)

pub returns-in_err-bind_zeros-clause-tables : goal.returns-in_err-bind_zeros-clause-tables
returns-in_err-bind_zeros-clause-tables g c = subst (λ t. SameTables t c.bind_zeros.new.t) c.zero_frame.ensures.tables c.bind_zeros.ensures.tables

pub returns-in_err-bind_zeros-clause-still : goal.returns-in_err-bind_zeros-clause-still
returns-in_err-bind_zeros-clause-still g c = still_trans _ _ _ c.zero_frame.ensures.still c.bind_zeros.ensures.still

pub returns-in_err-bind_zeros-clause-lasts : goal.returns-in_err-bind_zeros-clause-lasts
returns-in_err-bind_zeros-clause-lasts g c = lasts_trans _ _ _ c.zero_frame.ensures.lasts c.bind_zeros.ensures.lasts

pub returns-clause-tables : goal.returns-clause-tables
returns-clause-tables g c = subst (λ t. SameTables t c.bind_zeros.new.t) c.zero_frame.ensures.tables c.bind_zeros.ensures.tables

pub returns-clause-still : goal.returns-clause-still
returns-clause-still g c = still_trans _ _ _ c.zero_frame.ensures.still c.bind_zeros.ensures.still

pub returns-clause-lasts : goal.returns-clause-lasts
returns-clause-lasts g c = lasts_trans _ _ _ c.zero_frame.ensures.lasts c.bind_zeros.ensures.lasts

pub returns-in_err-zero_frame-clause-marks : goal.returns-in_err-zero_frame-clause-marks
returns-in_err-zero_frame-clause-marks g c = marks_any (Some c.args.b.0) _ _ c.zero_frame.ensures.marks

pub returns-in_err-bind_zeros-clause-marks : goal.returns-in_err-bind_zeros-clause-marks
returns-in_err-bind_zeros-clause-marks g c = marks_trans (Some c.args.b.0) _ _ _ (marks_any (Some c.args.b.0) _ _ c.zero_frame.ensures.marks) c.bind_zeros.ensures.marks

pub returns-clause-marks : goal.returns-clause-marks
returns-clause-marks g c = marks_trans (Some c.args.b.0) _ _ _ (marks_any (Some c.args.b.0) _ _ c.zero_frame.ensures.marks) c.bind_zeros.ensures.marks

pub returns-in_err-zero_frame-clause-unmade : goal.returns-in_err-zero_frame-clause-unmade
returns-in_err-zero_frame-clause-unmade g c q = c.zero_frame.ensures.cached.found c.args.b.0 ∙ c.requires.uncached

pub returns-in_err-bind_zeros-clause-unmade : goal.returns-in_err-bind_zeros-clause-unmade
returns-in_err-bind_zeros-clause-unmade g c q = c.in_err-bind_zeros.ensures.unmade refl

pub returns-clause-unmade : goal.returns-clause-unmade
returns-clause-unmade g c q = absurd (true_false (sym q))

pub returns-in_err-zero_frame-clause-still_order : goal.returns-in_err-zero_frame-clause-still_order
returns-in_err-zero_frame-clause-still_order g c q = ap (λ (t : CacheTables). order_of t.pool) c.zero_frame.ensures.tables

pub returns-in_err-bind_zeros-clause-still_order : goal.returns-in_err-bind_zeros-clause-still_order
returns-in_err-bind_zeros-clause-still_order g c q = c.in_err-bind_zeros.ensures.still_order refl ∙ ap (λ (t : CacheTables). order_of t.pool) c.zero_frame.ensures.tables

pub returns-clause-still_order : goal.returns-clause-still_order
returns-clause-still_order g c q = absurd (true_false (sym q))
