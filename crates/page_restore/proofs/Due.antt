-- Dirty pages of one kind, counted.
use Rattle.page_restore.proofs.Common.{Bool, List, false, length, true, ℕ, ◌+◌, ◌≡◌, ◌≤◌, ◌⊎◌, ap, arith, cases_Bool, inl, inr, subst, sym, ◌∙◌}
use mir.Val.{bool_byte}
use Rattle.std.specs.Prelude.{[], ◌∷◌, ◌++◌, cond, filter, zero, suc, refl}
use Rattle.std.specs.List.{range_with_len}
use Rattle.std.proofs.lemmas.List.{length-append, map-id}
use Rattle.std.proofs.lemmas.List.FromFn.{filter_of_map_range_with_len_more}
use Rattle.page_restore.specs.Phases.{due_before, is_due}
use Rattle.page_restore.specs.declared.kinds.PageKind.{PageKind}

more : (test : ℕ → Bool) (i : ℕ) → filter test (range_with_len 0 (i + 1)) ≡ filter test (range_with_len 0 i) ++ cond (test i) (i ∷ []) []
more test i = ap (filter test) (sym (map-id (range_with_len 0 (i + 1)))) ∙ filter_of_map_range_with_len_more test (λ x. x) 0 i i (omega arith) ∙ ap (λ xs. filter test xs ++ cond (test i) (i ∷ []) []) (map-id (range_with_len 0 i))

pub due_none : (kind : PageKind) (marks : List Bool) (words : List ℕ) → due_before kind marks words 0 ≡ 0
unfolding due_before
due_none kind marks words = refl

pub due_with : (kind : PageKind) (marks : List Bool) (words : List ℕ) (i : ℕ) → is_due kind marks words i ≡ true → due_before kind marks words (i + 1) ≡ due_before kind marks words i + 1
unfolding due_before
due_with kind marks words i e =
    let one = ap length (more (is_due kind marks words) i ∙ ap (λ b. filter (is_due kind marks words) (range_with_len 0 i) ++ cond b (i ∷ []) []) e) in
    omega (arith, one, length-append (filter (is_due kind marks words) (range_with_len 0 i)) (i ∷ []))

pub due_without : (kind : PageKind) (marks : List Bool) (words : List ℕ) (i : ℕ) → is_due kind marks words i ≡ false → due_before kind marks words (i + 1) ≡ due_before kind marks words i
unfolding due_before
due_without kind marks words i e =
    let one = ap length (more (is_due kind marks words) i ∙ ap (λ b. filter (is_due kind marks words) (range_with_len 0 i) ++ cond b (i ∷ []) []) e) in
    omega (arith, one, length-append (filter (is_due kind marks words) (range_with_len 0 i)) [])

small_next : (kind : PageKind) (marks : List Bool) (words : List ℕ) (i : ℕ) → due_before kind marks words i ≤ i → (is_due kind marks words i ≡ true) ⊎ (is_due kind marks words i ≡ false) → due_before kind marks words (i + 1) ≤ i + 1
small_next kind marks words i h (inl e) = omega (arith, h, due_with kind marks words i e)
small_next kind marks words i h (inr e) = omega (arith, h, due_without kind marks words i e)

pub due_small : (kind : PageKind) (marks : List Bool) (words : List ℕ) (i : ℕ) → due_before kind marks words i ≤ i
due_small kind marks words zero = omega (arith, due_none kind marks words)
due_small kind marks words (suc i) =
    let e : suc i ≡ i + 1 = omega arith in
    subst (λ n. due_before kind marks words n ≤ n) (sym e) (small_next kind marks words i (due_small kind marks words i) (cases_Bool (is_due kind marks words i)))

-- one entry more
pub due_more : (kind : PageKind) (marks : List Bool) (words : List ℕ) (i one : ℕ) (due : Bool) → one ≡ bool_byte due → due ≡ is_due kind marks words i → due_before kind marks words (i + 1) ≡ due_before kind marks words i + one
due_more kind marks words i one true e is = due_with kind marks words i (sym is) ∙ ap (λ n. due_before kind marks words i + n) (sym e)
due_more kind marks words i one false e is = due_without kind marks words i (sym is) ∙ (let same : due_before kind marks words i ≡ due_before kind marks words i + one = omega (arith, e) in same)

pub byte_small : (b : Bool) → bool_byte b ≤ 1
byte_small true = omega arith
byte_small false = omega arith
