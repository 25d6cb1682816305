use Rattle.std.proofs.Common.{sym, subst}
use Rattle.std.specs.FinMap.{insert}
use Rattle.name_index.specs.Agreeing.{AreNames}
use Rattle.name_index.proofs.Changes.{but_same, names_put, put_elsewhere, taken_out}
use Rattle.name_index.proofs.index.put_in.Goals as goal

pub returns-in_default : goal.returns-in_default
returns-in_default c = λ names agree.
    let dir = c.args.dir.0 in
    but_same c.swap_remove.new.self dir names _ (taken_out c.args.dirs.now c.swap_remove.new.self dir names c.swap_remove.ensures.updates.0 agree) (put_elsewhere names dir c.args.name.now c.args.ino.0)

pub returns-in_err-put : goal.returns-in_err-put
returns-in_err-put c = λ names agree.
    let dir = c.args.dir.0 in
    but_same c.swap_remove.new.self dir names _ (taken_out c.args.dirs.now c.swap_remove.new.self dir names c.swap_remove.ensures.updates.0 agree) (put_elsewhere names dir c.args.name.now c.args.ino.0)

pub returns : goal.returns
returns c = λ names agree.
    let dir = c.args.dir.0 in
    let name = c.args.name.now in
    let i = c.args.ino.0 in
    c.hold_in.ensures (insert names (dir, name) i)
    (but_same c.swap_remove.new.self dir names _ (taken_out c.args.dirs.now c.swap_remove.new.self dir names c.swap_remove.ensures.updates.0 agree) (put_elsewhere names dir name i))
    (subst (λ held. AreNames held dir (insert names (dir, name) i)) (sym c.in_ok-put.ensures.ok) (names_put c.in-Some.held dir names name i (agree dir c.in-Some.held (sym c.in-Some.ensures.value))))
