-- The parts of a line, which stand between spaces.
use Rattle.std.proofs.Common.{◌≡◌, ◌≢◌, ◌<◌, ◌^◌, ℕ, suc, ◌+◌, ◌-◌, true, false, ◌==◌, List, [], ◌∷◌, ◌++◌, length, take, drop, slice_index, flat_map, All, refl, arith, ap, sym, subst, ◌∙◌, add-one, inl, inr}
use Rattle.std.proofs.Math.Seq.{drop-cons}
use Rattle.std.proofs.lemmas.Bool.Decides.{nat_tests}
use Rattle.std.proofs.lemmas.Fmt.{decimal_is_IsNumeral}
use Rattle.std.proofs.lemmas.List.{take-append-drop, take_all, length-drop, length-take-le, get_or-take}
use Rattle.std.specs.Char.{digit_value}
use Rattle.std.specs.Fmt.{decimal}
use Rattle.std.specs.Str.Parse.{AllDigits}
use Rattle.memchr.specs.Find.{Nowhere, NoneBefore, Passes, is_byte}
use Rattle.rio_base.proofs.DecimalDigits.{one_number}
use Rattle.rio_base.specs.Bytes.{IsNumber, Lacks}
use Rattle.rio_model.specs.Paths.{IsName, IsNameByte, IsPath}
use Rattle.request_codec.specs.Form.{Path, Number, Then}
use Rattle.request_codec.specs.Fronts.{IsCut, HasPath, HasNumber, HasPathNumber}

not_equal : (b c : ℕ) → b ≢ c → (b == c) ≡ false
not_equal b c apart = grind (arith, nat_tests, apart)

equal : (b c : ℕ) → (b == c) ≡ true → b ≡ c
equal b c h = grind (arith, nat_tests)

pub lacks_from : (c : ℕ) (xs : List ℕ) → ((k : ℕ) → k < length xs → slice_index xs k ≢ c) → Lacks c xs
lacks_from c [] apart = tt
lacks_from c (x ∷ xs) apart = (not_equal x c (apart 0 (omega arith)), lacks_from c xs (λ k below. apart (suc k) (omega arith)))

same : (c : ℕ) → (c == c) ≡ true
same c = grind (arith, nat_tests)

-- what has a space does not lack it
pub lacks_not : (c : ℕ) (xs ys : List ℕ) → Lacks c (xs ++ (c ∷ ys)) → ⊥
lacks_not c [] ys h = cc (same c, h.0)
lacks_not c (x ∷ xs) ys h = lacks_not c xs ys h.1

-- the first space cuts a line in one way
pub cut_once : (c : ℕ) (xs ys zs ws : List ℕ) → Lacks c xs → Lacks c zs → xs ++ (c ∷ ys) ≡ zs ++ (c ∷ ws) → (xs ≡ zs) × (ys ≡ ws)
cut_once c [] ys [] ws h k e = (refl, cc)
cut_once c [] ys (z ∷ zs) ws h k e = let first : c ≡ z = cc in absurd (cc (same c, k.0, first))
cut_once c (x ∷ xs) ys [] ws h k e = let first : x ≡ c = cc in absurd (cc (same c, h.0, first))
cut_once c (x ∷ xs) ys (z ∷ zs) ws h k e =
    let first : x ≡ z = cc in
    let rest : xs ++ (c ∷ ys) ≡ zs ++ (c ∷ ws) = cc in
    let later = cut_once c xs ys zs ws h.1 k.1 rest in
    (cc (first, later.0), later.1)

pub no_space : (xs : List ℕ) → Nowhere (Passes (is_byte 32) xs) 0 (length xs) → Lacks 32 xs
no_space xs none = lacks_from 32 xs (λ k below here. none k (omega arith) below (ap (λ b. b == 32) here))

pub first_space : (xs : List ℕ) (k : ℕ) → NoneBefore (Passes (is_byte 32) xs) 0 (length xs) k → Passes (is_byte 32) xs k
    → (xs ≡ take k xs ++ (32 ∷ take (length xs - (k + 1)) (drop (k + 1) xs))) × Lacks 32 (take k xs)
first_space xs k first here =
    let inside : k < length xs = first.high in
    let byte : slice_index xs k ≡ 32 = equal (slice_index xs k) 32 here in
    let next : suc k ≡ k + 1 = sym (add-one k) in
    let tail : take (length xs - (k + 1)) (drop (k + 1) xs) ≡ drop (k + 1) xs = take_all (length xs - (k + 1)) (drop (k + 1) xs) (omega (arith, length-drop (k + 1) xs)) in
    let cut : drop k xs ≡ 32 ∷ drop (k + 1) xs = drop-cons xs k 0 inside ∙ ap (λ b. b ∷ drop (suc k) xs) byte ∙ ap (λ j. 32 ∷ drop j xs) next in
    let whole : xs ≡ take k xs ++ (32 ∷ take (length xs - (k + 1)) (drop (k + 1) xs)) =
    sym (take-append-drop k xs) ∙ ap (λ ys. take k xs ++ ys) (cut ∙ ap (λ ys. 32 ∷ ys) (sym tail)) in
    let size : length (take k xs) ≡ k = length-take-le k xs (omega arith) in (
      whole,
      lacks_from 32 (take k xs) (λ j below at.
          let before : j < k = omega arith in
          first.before j (omega arith) before (ap (λ b. b == 32) (sym (get_or-take k xs j 0 before) ∙ at))),
    )

lacks_both : (c : ℕ) (xs ys : List ℕ) → Lacks c xs → Lacks c ys → Lacks c (xs ++ ys)
lacks_both c [] ys h k = k
lacks_both c (x ∷ xs) ys h k = (h.0, lacks_both c xs ys h.1 k)

name_lacks : (name : List ℕ) → IsName name → Lacks 32 name
name_lacks name named = lacks_from 32 name (λ k below at. let byte : IsNameByte (slice_index name k) = named.bytes k 0 below in omega (arith, byte.low))

names_lack : (names : List (List ℕ)) → All IsName names → Lacks 32 (flat_map (λ name. 47 ∷ name) names)
names_lack [] all = tt
names_lack (n ∷ names) all =
    (refl, lacks_both 32 n (flat_map (λ name. 47 ∷ name) names) (name_lacks n (all 0 [] (omega arith))) (names_lack names (λ k d below. all (suc k) d (omega arith))))

pub path_lacks : (path : List ℕ) → IsPath path → Lacks 32 path
path_lacks path (inl root) = subst (λ xs. Lacks 32 xs) (sym root) (refl, tt)
path_lacks path (inr named) = subst (λ xs. Lacks 32 xs) (sym named.1.is) (names_lack named.0 named.1.each)

digits_lack : (ds : List ℕ) → AllDigits 10 ds → Lacks 32 ds
digits_lack [] h = tt
digits_lack (d ∷ ds) h =
    let apart : d ≢ 32 = λ e. let small : digit_value 32 < 10 = subst (λ x. digit_value x < 10) e h.0 in omega arith in
    (not_equal d 32 apart, digits_lack ds h.1)

pub number_lacks : (ds : List ℕ) (n : ℕ) → IsNumber ds n → Lacks 32 ds
number_lacks ds n h =
    let small : n < 2 ^ 64 = omega (arith, h.1) in
    let digits : Lacks 32 (decimal n) = digits_lack (decimal n) (decimal_is_IsNumeral n small).0.1 in
    subst (λ xs. Lacks 32 xs) (sym h.0) digits

-- ---- what a text begins with

pub no_path_first : (text : List ℕ) → Lacks 32 text → (path rest : List ℕ) → HasPath text path rest → ⊥
no_path_first text none path rest h = lacks_not 32 path rest (subst (λ xs. Lacks 32 xs) h.0 none)

pub other_first : (text first tail : List ℕ) → IsCut text first tail → (IsPath first → ⊥) → (path rest : List ℕ) → HasPath text path rest → ⊥
other_first text first tail cut none path rest h =
    let same = cut_once 32 path rest first tail (path_lacks path h.1) cut.1 (sym h.0 ∙ cut.0) in
    none (subst (λ xs. IsPath xs) same.0 h.1)

pub no_number_first : (text : List ℕ) → Lacks 32 text → (n : ℕ) (rest : List ℕ) → HasNumber text n rest → ⊥
no_number_first text none n rest h = lacks_not 32 h.0 rest (subst (λ xs. Lacks 32 xs) h.1 none)

pub other_number_first : (text first tail : List ℕ) → IsCut text first tail → ((n : ℕ) → IsNumber first n → ⊥) → (n : ℕ) (rest : List ℕ) → HasNumber text n rest → ⊥
other_number_first text first tail cut none n rest h =
    let same = cut_once 32 h.0 rest first tail (number_lacks h.0 n h.2) cut.1 (sym h.1 ∙ cut.0) in
    none n (subst (λ xs. IsNumber xs n) same.0 h.2)

one_path_first : (text path rest other tail : List ℕ) → HasPath text path rest → HasPath text other tail → (path ≡ other) × (rest ≡ tail)
one_path_first text path rest other tail h k = cut_once 32 path rest other tail (path_lacks path h.1) (path_lacks other k.1) (sym h.0 ∙ k.0)

one_number_first : (text : List ℕ) (m : ℕ) (rest : List ℕ) (n : ℕ) (tail : List ℕ) → HasNumber text m rest → HasNumber text n tail → (m ≡ n) × (rest ≡ tail)
one_number_first text m rest n tail h k =
    let same = cut_once 32 h.0 rest k.0 tail (number_lacks h.0 m h.2) (number_lacks k.0 n k.2) (sym h.1 ∙ k.1) in
    (one_number k.0 m n (subst (λ xs. IsNumber xs m) same.0 h.2) k.2, same.1)

-- ---- a path or a number, and then the rest

pub path_of : {R : List ℕ → Type 0} (path text : List ℕ) → (h : Then (Path path) R text) → HasPath text path h.rest
path_of path text h = (h.is ∙ ap (λ xs. xs ++ (32 ∷ h.rest)) h.first_is.0, h.first_is.1)

pub number_of : {R : List ℕ → Type 0} (n : ℕ) (text : List ℕ) → (h : Then (Number n) R text) → HasNumber text n h.rest
number_of n text h = (h.first, h.is, h.first_is)

pub behind_path : {R : List ℕ → Type 0} (text path rest other : List ℕ) → HasPath text path rest → Then (Path other) R text → (other ≡ path) × R rest
behind_path {R} text path rest other h k =
    let same = one_path_first text other k.rest path rest (path_of other text k) h in
    (same.0, subst (λ xs. R xs) same.1 k.rest_is)

pub behind_number : {R : List ℕ → Type 0} (text : List ℕ) (m : ℕ) (rest : List ℕ) (n : ℕ) → HasNumber text m rest → Then (Number n) R text → (n ≡ m) × R rest
behind_number {R} text m rest n h k =
    let same = one_number_first text n k.rest m rest (number_of n text k) h in
    (same.0, subst (λ xs. R xs) same.1 k.rest_is)

pub path_then : {R : List ℕ → Type 0} (text path rest : List ℕ) → HasPath text path rest → R rest → Then (Path path) R text
path_then text path rest h r = record { first = path; rest = rest; is = h.0; first_is = (refl, h.1); rest_is = r }

pub number_then : {R : List ℕ → Type 0} (text : List ℕ) (n : ℕ) (rest : List ℕ) → HasNumber text n rest → R rest → Then (Number n) R text
number_then text n rest h r = record { first = h.0; rest = rest; is = h.1; first_is = h.2; rest_is = r }

-- ---- a path and a number, and then the rest

pub number_behind : (text path rest other middle : List ℕ) (n : ℕ) (tail : List ℕ) → HasPath text path rest → HasPath text other middle → HasNumber middle n tail → HasNumber rest n tail
number_behind text path rest other middle n tail h k number = subst (λ xs. HasNumber xs n tail) (one_path_first text other middle path rest k h).1 number

pub path_number_of : {R : List ℕ → Type 0} (path : List ℕ) (n : ℕ) (text : List ℕ) → (h : Then (Path path) (Then (Number n) R) text) → HasPathNumber text path n h.rest_is.rest
path_number_of path n text h = (h.rest, path_of path text h, number_of n h.rest h.rest_is)

pub behind_path_number : {R : List ℕ → Type 0} (text path : List ℕ) (m : ℕ) (rest other : List ℕ) (n : ℕ) → HasPathNumber text path m rest → Then (Path other) (Then (Number n) R) text → (other ≡ path) × (n ≡ m) × R rest
behind_path_number text path m rest other n h k =
    let front = behind_path text path h.0 other h.1 k in
    let back = behind_number h.0 m rest n h.2 front.1 in
    (front.0, back.0, back.1)

pub path_number_then : {R : List ℕ → Type 0} (text path : List ℕ) (n : ℕ) (rest : List ℕ) → HasPathNumber text path n rest → R rest → Then (Path path) (Then (Number n) R) text
path_number_then text path n rest h r = path_then text path h.0 h.1 (number_then h.0 n rest h.2 r)
