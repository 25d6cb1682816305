use Rattle.std.proofs.Common.{sym, subst}
use Rattle.std.specs.FinMap.{remove}
use Rattle.name_index.specs.Agreeing.{AreNames}
use Rattle.name_index.proofs.Changes.{but_same, names_removed, removed_elsewhere, taken_out}
use Rattle.name_index.proofs.index.remove_in.Goals as goal

pub returns-in_default : goal.returns-in_default
returns-in_default c = λ names agree.
    let dir = c.args.dir.0 in
    but_same c.swap_remove.new.self dir names _ (taken_out c.args.dirs.now c.swap_remove.new.self dir names c.swap_remove.ensures.updates.0 agree) (removed_elsewhere names dir c.args.name.now)

pub returns-in_err-remove : goal.returns-in_err-remove
returns-in_err-remove c = λ names agree.
    let dir = c.args.dir.0 in
    but_same c.swap_remove.new.self dir names _ (taken_out c.args.dirs.now c.swap_remove.new.self dir names c.swap_remove.ensures.updates.0 agree) (removed_elsewhere names dir c.args.name.now)

pub returns : goal.returns
returns c = λ names agree.
    let dir = c.args.dir.0 in
    let name = c.args.name.now in
    c.hold_in.ensures (remove names (dir, name))
    (but_same c.swap_remove.new.self dir names _ (taken_out c.args.dirs.now c.swap_remove.new.self dir names c.swap_remove.ensures.updates.0 agree) (removed_elsewhere names dir name))
    (subst (λ held. AreNames held dir (remove names (dir, name))) (sym c.in_ok-remove.ensures.ok) (names_removed c.in-Some.held dir names name (agree dir c.in-Some.held (sym c.in-Some.ensures.value))))
