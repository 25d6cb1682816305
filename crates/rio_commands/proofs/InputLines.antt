-- The lines of an input of which a front was taken.
use Rattle.std.proofs.Common.{◌≡◌, ◌<◌, ◌==◌, ℕ, suc, Bool, true, false, cond, List, [], ◌∷◌, ◌++◌, length, refl, sym, ap, subst, ◌∙◌, inl, inr, arith, length-append, append_assoc}
use Rattle.std.specs.Prelude.{All, Option, Some, None, ◌⊎◌, slice_index_or}
use Rattle.std.proofs.lemmas.List.{append-nil, get_or_append_left}
use Rattle.rio_base.specs.Bytes.{onto, pieces}
use Rattle.rio_base.specs.Streams.{IsSpent, prepended}
use Rattle.request_codec.specs.Lines.{HasNoEnd, ended, lines}
use Rattle.line_loop.specs.ServeRun.{AreFirst, ended_lines}

-- ---- what holds of all lines

pub all_front : (P : List ℕ → Type 0) (xs ys zs : List (List ℕ)) → zs ≡ xs ++ ys → All P zs → All P xs
all_front P xs ys zs is all = λ k d less.
    let whole : k < length zs = subst (λ (l : List (List ℕ)). k < length l) (sym is) (omega (arith, less, length-append xs ys)) in
    subst P (ap (λ (l : List (List ℕ)). slice_index_or l k d) is ∙ get_or_append_left xs ys d k less) (all k d whole)

pub all_head : (P : List ℕ → Type 0) (x : List ℕ) (xs : List (List ℕ)) → All P (x ∷ xs) → P x
all_head P x xs all = all 0 x (omega arith)

pub all_tail : (P : List ℕ → Type 0) (x : List ℕ) (xs : List (List ℕ)) → All P (x ∷ xs) → All P xs
all_tail P x xs all = λ k d less. all (suc k) d (omega (arith, less))

pub all_last : (P : List ℕ → Type 0) (xs : List (List ℕ)) (x : List ℕ) → All P (xs ++ x ∷ []) → P x
all_last P [] x all = all_head P x [] all
all_last P (y ∷ xs) x all = all_last P xs x (all_tail P y (xs ++ x ∷ []) all)

-- ---- lines with their ends, and what follows

abbrev AreWhole : List (List ℕ) → Type 0
AreWhole [] = Unit {0}
AreWhole (line ∷ answered) = HasNoEnd line × AreWhole answered

whole_onto : (b : ℕ) (rest : List (List ℕ)) → (b == 10) ≡ false → AreWhole rest → AreWhole (onto b rest)
whole_onto b [] other h = ((other, tt), tt)
whole_onto b (line ∷ rest) other h = ((other, h.0), h.1)

-- no line has an end in it
whole_lines : (bytes : List ℕ) → AreWhole (lines bytes)
whole_lines [] = tt
whole_lines (b ∷ bytes) = by (b == 10) refl (whole_lines bytes)
  where
    by : (t : Bool) → (b == 10) ≡ t → AreWhole (pieces 10 bytes) → AreWhole (lines (b ∷ bytes))
    by true is h = subst (λ (u : Bool). AreWhole (cond u ([] ∷ pieces 10 bytes) (onto b (pieces 10 bytes)))) (sym is) (tt, h)
    by false is h = subst (λ (u : Bool). AreWhole (cond u ([] ∷ pieces 10 bytes) (onto b (pieces 10 bytes)))) (sym is) (whole_onto b (pieces 10 bytes) is h)

whole_front : (xs ys : List (List ℕ)) → AreWhole (xs ++ ys) → AreWhole xs
whole_front [] ys h = tt
whole_front (x ∷ xs) ys h = (h.0, whole_front xs ys h.1)

line_first : (line more : List ℕ) → HasNoEnd line → lines (ended line ++ more) ≡ line ∷ lines more
line_first [] more h = refl
line_first (b ∷ line) more h =
    ap (λ t. cond t ([] ∷ pieces 10 (ended line ++ more)) (onto b (pieces 10 (ended line ++ more)))) h.0
    ∙ ap (onto b) (line_first line more h.1)

lines_first : (answered : List (List ℕ)) (more : List ℕ) → AreWhole answered → lines (ended_lines answered ++ more) ≡ answered ++ lines more
lines_first [] more h = refl
lines_first (line ∷ answered) more h =
    ap lines (append_assoc (ended line) (ended_lines answered) more)
    ∙ line_first line (ended_lines answered ++ more) h.0
    ∙ ap (λ rest. line ∷ rest) (lines_first answered more h.1)

-- ---- an input

pub given_all : (taken : List ℕ) (left_after : Option (List ℕ)) (input : List ℕ) → Some input ≡ prepended taken left_after → (rest : List ℕ) × (left_after ≡ Some rest) × (input ≡ taken ++ rest)
given_all taken None input e = cc
given_all taken (Some rest) input e = (rest, refl, cc)

-- the first lines of what was taken are the first of the input
pub lines_taken : (taken : List ℕ) (left_after : Option (List ℕ)) (input : List ℕ) (answered : List (List ℕ)) → Some input ≡ prepended taken left_after → AreFirst taken left_after answered → (more : List (List ℕ)) × (lines input ≡ answered ++ more)
lines_taken taken left_after input answered gave first = by first.whole
  where
    all : (rest : List ℕ) × (left_after ≡ Some rest) × (input ≡ taken ++ rest)
    all = given_all taken left_after input gave

    whole : AreWhole answered
    whole = whole_front answered first.more (subst AreWhole first.front (whole_lines taken))

    by : ((rest : List ℕ) × (taken ≡ ended_lines answered ++ rest)) ⊎ IsSpent left_after → (more : List (List ℕ)) × (lines input ≡ answered ++ more)
    by (inl (rest, is)) = (
      lines (rest ++ all.0),
      ap lines (all.2 ∙ ap (λ (bytes : List ℕ). bytes ++ all.0) is ∙ append_assoc (ended_lines answered) rest all.0) ∙ lines_first answered (rest ++ all.0) whole,
    )
    by (inr spent) =
        let none : all.0 ≡ [] = subst IsSpent all.1 spent in
        (first.more, ap lines (all.2 ∙ ap (λ (bytes : List ℕ). taken ++ bytes) none ∙ append-nil taken) ∙ first.front)
