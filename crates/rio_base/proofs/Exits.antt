-- What a clause on one kind of answer asks of an answer of the other kind.
use Rattle.std.specs.Prelude.{◌≡◌, OnErr, OnOk, Result, Ok, Err}
use Rattle.std.proofs.Common.{subst, sym}

pub on_err : {T E : Type 0} (r : Result T E) (P : Type 0) → P → OnErr r P
on_err (Ok x) P p = tt
on_err (Err e) P p = p

pub none_ok : {T E : Type 0} (r : Result T E) (e : E) (P : Type 0) → r ≡ Err e → OnOk r P
none_ok {T = T} {E = E} r e P is = subst (λ (v : Result T E). OnOk v P) (sym is) tt
