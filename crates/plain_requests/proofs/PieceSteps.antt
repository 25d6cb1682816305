-- What lists hold behind a join, by those that they came from.
use Rattle.plain_requests.proofs.Common.{◌≡◌, List, ap, ◌∙◌}
use Rattle.std.specs.Global.{Vec}

pub same_items : {X : Type 0} (now was : Vec X) → now ≡ was → now.items ≡ was.items
same_items {X = X} now was is = ap (λ (v : Vec X). v.items) is

pub items_of : {X : Type 0} (now was : Vec X) (xs : List X) → now ≡ was → was.items ≡ xs → now.items ≡ xs
items_of now was xs is known = same_items now was is ∙ known
