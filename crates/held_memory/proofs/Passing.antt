-- How moments go on.
use Rattle.std.proofs.Common.{◌≡◌, List, [], ◌∷◌, ◌++◌, Option, Some, refl, sym, ap, ◌∙◌}
use Rattle.held_memory.specs.WordFiles.{Each, Meanwhile}

none_more : {C : Type 0} (xs : List C) → xs ++ [] ≡ xs
none_more [] = refl
none_more (x ∷ xs) = ap (λ (ys : List _). x ∷ ys) (none_more xs)

each_both : {C : Type 0} (P : C → Type 0) (xs ys : List C) → Each P xs → Each P ys → Each P (xs ++ ys)
each_both P [] ys h k = k
each_both P (x ∷ xs) ys h k = (h.0, each_both P xs ys h.1 k)

each_as : {C : Type 0} (P Q : C → Type 0) (xs : List C) → ((c : C) → P c → Q c) → Each P xs → Each Q xs
each_as P Q [] f h = tt
each_as P Q (x ∷ xs) f h = (f x h.0, each_as P Q xs f h.1)

joined : {C : Type 0} (xs ys zs : List C) → (xs ++ ys) ++ zs ≡ xs ++ (ys ++ zs)
joined [] ys zs = refl
joined (x ∷ xs) ys zs = ap (λ (l : List _). x ∷ l) (joined xs ys zs)

same_list : {C : Type 0} (xs ys : List C) → Some xs ≡ Some ys → xs ≡ ys
same_list xs ys e = cc

-- before the first call
pub none_yet : {C : Type 0} (P : C → Type 0) (past : Option (List C)) → Meanwhile P past past
none_yet P past = record { grew = λ xs e. ([], e ∙ ap (λ (l : List _). Some l) (sym (none_more xs)), tt) }

-- the same of moments of which more is said
pub said_less : {C : Type 0} (P Q : C → Type 0) (old new : Option (List C)) → ((c : C) → Q c → P c) → Meanwhile Q old new → Meanwhile P old new
said_less P Q old new weaker h = record { grew = λ xs e. let got = h.grew xs e in (got.0, got.1, each_as Q P got.0 weaker got.2) }

-- one moment more
pub one_more : {C : Type 0} (P : C → Type 0) (old : Option (List C)) (so_far : List C) (now : C) → P now → Meanwhile P old (Some so_far) → Meanwhile P old (Some (so_far ++ now ∷ []))
one_more P old so_far now here h = record {
  grew = λ xs e.
      let got = h.grew xs e in
      (got.0 ++ now ∷ [], ap (λ (l : List _). Some l) (ap (λ (l : List _). l ++ now ∷ []) (same_list so_far (xs ++ got.0) got.1) ∙ joined xs got.0 (now ∷ [])), each_both P got.0 (now ∷ []) got.2 (here, tt));
}

-- one call more
pub then_call : {C : Type 0} (P Q : C → Type 0) (old mid new : Option (List C)) → ((c : C) → Q c → P c) → Meanwhile P old mid → Meanwhile Q mid new → Meanwhile P old new
then_call P Q old mid new weaker first next = record {
  grew = λ xs e.
      let got = first.grew xs e in
      let more = next.grew (xs ++ got.0) got.1 in
      (got.0 ++ more.0, more.1 ∙ ap (λ (l : List _). Some l) (joined xs got.0 more.0), each_both P got.0 more.0 got.2 (each_as Q P more.0 weaker more.2));
}
