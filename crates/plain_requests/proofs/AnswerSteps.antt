-- How answers follow, case by case: by room, of paths by their names, and of names that are moved.
use Rattle.plain_requests.proofs.Common.{◌≡◌, ◌≢◌, ◌==◌, ℕ, ◌+◌, ◌<◌, ◌≤◌, Bool, true, false, cond, List, [], ◌∷◌, length, drop, get_or, refl, sym, ap, subst, ◌∙◌, arith, Result, Ok, Err, ◌&&◌, nat_lt, get, nat_tests, drop_all, drop_more, front_of, last_of, walk, walk_to_dir, free_count, State}
use Rattle.std.specs.Prelude.{IfOk}
use Rattle.std.specs.Str.{bytes_eq}
use Rattle.std.proofs.lemmas.List.{length-drop}
use Rattle.rio_requests.specs.Answer.{at_inode, refused, refused_by}
use Rattle.rio_requests.specs.Answers.{at_row, is_below, is_empty, rename_at, rename_row, rename_to, with_room}
use Rattle.rio_requests.specs.declared.answered.Answered.{Answered}
use Rattle.rio_model.specs.declared.refusal.Refusal.TheVariants.{IsRoot, NoSpace, InsideItself}

-- what ends as one value ends as an equal one
pub ends_as : {A E : Type 0} (r : Result A E) (x y : A) → x ≡ y → IfOk r (λ a. a ≡ x) → IfOk r (λ a. a ≡ y)
ends_as r x y e h = subst (λ z. IfOk r (λ a. a ≡ z)) e h

-- ---- room

pub room_lacks : (s : State) (wants : ℕ) (answer : Answered) (lacks : Bool) → lacks ≡ nat_lt (free_count s) wants → lacks ≡ true → refused s NoSpace ≡ with_room s wants answer
room_lacks s wants answer lacks is holds = sym (ap (λ b. cond b (refused s NoSpace) answer) (sym is ∙ holds))

pub room_is : (s : State) (wants : ℕ) (answer : Answered) (lacks : Bool) → lacks ≡ nat_lt (free_count s) wants → lacks ≡ false → answer ≡ with_room s wants answer
room_is s wants answer lacks is fails = sym (ap (λ b. cond b (refused s NoSpace) answer) (sym is ∙ fails))

pub wants_none : (d e wants : ℕ) → d ≡ e → 0 ≡ cond (d == e) 0 wants
wants_none d e wants same = let t : (d == e) ≡ true = grind (arith, nat_tests, same) in sym (ap (λ b. cond b 0 wants) t)

pub wants_some : (d e wants : ℕ) → d ≢ e → wants ≡ cond (d == e) 0 wants
wants_some d e wants other = let t : (d == e) ≡ false = grind (arith, nat_tests, other) in sym (ap (λ b. cond b 0 wants) t)

-- ---- names

zero_is : (n : ℕ) → n ≡ 0 → (n == 0) ≡ true
zero_is n none = grind (arith, nat_tests, none)

some_is : (n : ℕ) → 0 < n → (n == 0) ≡ false
some_is n some = grind (arith, nat_tests, some)

above_none : (n : ℕ) → 0 < n → nat_lt 0 n ≡ true
above_none n some = grind (arith, nat_tests, some)

pub empty_count : (names : List (List ℕ)) (count : ℕ) → count ≡ length names → (count == 0) ≡ is_empty names
empty_count [] count counted = zero_is count counted
empty_count (n ∷ ns) count counted = some_is count (omega (arith, counted))

-- names that go on where others end, by places
pub below_next : (tops names : List (List ℕ)) (i : ℕ) (top name : List ℕ) → i < length tops → i < length names → top ≡ get_or tops i top → name ≡ get_or names i name → bytes_eq top name ≡ true → is_below (drop i tops) (drop i names) ≡ is_below (drop (i + 1) tops) (drop (i + 1) names)
below_next tops names i top name t n at_top at_name same =
    ap (λ xs. is_below xs (drop i names)) (drop_more tops i top t ∙ ap (λ x. x ∷ drop (i + 1) tops) (sym at_top))
    ∙ ap (is_below (top ∷ drop (i + 1) tops)) (drop_more names i name n ∙ ap (λ x. x ∷ drop (i + 1) names) (sym at_name))
    ∙ ap (λ b. b && is_below (drop (i + 1) tops) (drop (i + 1) names)) same

pub below_apart : (tops names : List (List ℕ)) (i : ℕ) (top name : List ℕ) → i < length tops → i < length names → top ≡ get_or tops i top → name ≡ get_or names i name → bytes_eq top name ≡ false → is_below (drop i tops) (drop i names) ≡ false
below_apart tops names i top name t n at_top at_name other =
    ap (λ xs. is_below xs (drop i names)) (drop_more tops i top t ∙ ap (λ x. x ∷ drop (i + 1) tops) (sym at_top))
    ∙ ap (is_below (top ∷ drop (i + 1) tops)) (drop_more names i name n ∙ ap (λ x. x ∷ drop (i + 1) names) (sym at_name))
    ∙ ap (λ b. b && is_below (drop (i + 1) tops) (drop (i + 1) names)) other

pub below_past : (tops names : List (List ℕ)) (i : ℕ) → i < length tops → length names ≤ i → is_below (drop i tops) (drop i names) ≡ false
below_past tops names i t past =
    ap (λ xs. is_below xs (drop i names)) (drop_more tops i [] t)
    ∙ ap (is_below (get_or tops i [] ∷ drop (i + 1) tops)) (drop_all i names past)

goes_on : (xs : List (List ℕ)) → is_below [] xs ≡ nat_lt 0 (length xs)
goes_on [] = refl
goes_on (x ∷ xs) = sym (above_none (length (x ∷ xs)) (omega arith))

pub below_end : (tops names : List (List ℕ)) (i : ℕ) → length tops ≤ i → is_below (drop i tops) (drop i names) ≡ nat_lt i (length names)
below_end tops names i end = ap (λ xs. is_below xs (drop i names)) (drop_all i tops end) ∙ goes_on (drop i names) ∙ (let long = length-drop i names in grind (arith, nat_tests, long))

-- ---- rename

pub from_missing : (s : State) (busy : List ℕ) (from to : List (List ℕ)) (number : ℕ) → walk s 1 from ≡ Err number → refused_by s number ≡ rename_at s busy from to
from_missing s busy from [] number e = sym (ap (λ r. at_inode s r (λ i. refused s IsRoot)) e)
from_missing s busy from (n ∷ ns) number e = sym (ap (λ r. at_inode s r (λ i. at_row s (n ∷ ns) (rename_to s busy from (n ∷ ns) i))) e)

pub to_root : (s : State) (busy : List ℕ) (from to : List (List ℕ)) (i : ℕ) → walk s 1 from ≡ Ok i → length to ≡ 0 → refused s IsRoot ≡ rename_at s busy from to
to_root s busy from [] i e none = sym (ap (λ r. at_inode s r (λ j. refused s IsRoot)) e)
to_root s busy from (n ∷ ns) i e none = absurd (omega (arith, none))

to_names : (s : State) (busy : List ℕ) (from to : List (List ℕ)) (i : ℕ) → walk s 1 from ≡ Ok i → 0 < length to → at_row s to (rename_to s busy from to i) ≡ rename_at s busy from to
to_names s busy from [] i e some = absurd (omega (arith, some))
to_names s busy from (n ∷ ns) i e some = sym (ap (λ r. at_inode s r (λ j. at_row s (n ∷ ns) (rename_to s busy from (n ∷ ns) j))) e)

pub to_found : (s : State) (busy : List ℕ) (from to : List (List ℕ)) (i dir : ℕ) → walk s 1 from ≡ Ok i → 0 < length to → walk_to_dir s (front_of to) ≡ Ok dir → rename_to s busy from to i dir ≡ rename_at s busy from to
to_found s busy from to i dir e some found = sym (ap (λ r. at_inode s r (rename_to s busy from to i)) found) ∙ to_names s busy from to i e some

pub to_missing : (s : State) (busy : List ℕ) (from to : List (List ℕ)) (i number : ℕ) → walk s 1 from ≡ Ok i → 0 < length to → walk_to_dir s (front_of to) ≡ Err number → refused_by s number ≡ rename_at s busy from to
to_missing s busy from to i number e some found = sym (ap (λ r. at_inode s r (rename_to s busy from to i)) found) ∙ to_names s busy from to i e some

pub from_root : (s : State) (busy : List ℕ) (from to : List (List ℕ)) (i dir : ℕ) → length from ≡ 0 → refused s IsRoot ≡ rename_to s busy from to i dir
from_root s busy [] to i dir none = refl
from_root s busy (n ∷ ns) to i dir none = absurd (omega (arith, none))

from_names : (s : State) (busy : List ℕ) (from to : List (List ℕ)) (i dir : ℕ) → 0 < length from → cond (is_below from to) (refused s InsideItself) (at_row s from (λ d. rename_row s busy d (last_of from) dir (last_of to) i (get s.names (dir, last_of to)))) ≡ rename_to s busy from to i dir
from_names s busy [] to i dir some = absurd (omega (arith, some))
from_names s busy (n ∷ ns) to i dir some = refl

pub from_above : (s : State) (busy : List ℕ) (from to : List (List ℕ)) (i dir : ℕ) → 0 < length from → is_below from to ≡ true → refused s InsideItself ≡ rename_to s busy from to i dir
from_above s busy from to i dir some below = sym (ap (λ b. cond b (refused s InsideItself) (at_row s from (λ d. rename_row s busy d (last_of from) dir (last_of to) i (get s.names (dir, last_of to))))) below) ∙ from_names s busy from to i dir some

from_beside : (s : State) (busy : List ℕ) (from to : List (List ℕ)) (i dir : ℕ) → 0 < length from → is_below from to ≡ false → at_row s from (λ d. rename_row s busy d (last_of from) dir (last_of to) i (get s.names (dir, last_of to))) ≡ rename_to s busy from to i dir
from_beside s busy from to i dir some below = sym (ap (λ b. cond b (refused s InsideItself) (at_row s from (λ d. rename_row s busy d (last_of from) dir (last_of to) i (get s.names (dir, last_of to))))) below) ∙ from_names s busy from to i dir some

pub from_found : (s : State) (busy : List ℕ) (from to : List (List ℕ)) (i dir from_dir : ℕ) → 0 < length from → is_below from to ≡ false → walk_to_dir s (front_of from) ≡ Ok from_dir → rename_row s busy from_dir (last_of from) dir (last_of to) i (get s.names (dir, last_of to)) ≡ rename_to s busy from to i dir
from_found s busy from to i dir from_dir some below found = sym (ap (λ r. at_inode s r (λ d. rename_row s busy d (last_of from) dir (last_of to) i (get s.names (dir, last_of to)))) found) ∙ from_beside s busy from to i dir some below

pub from_astray : (s : State) (busy : List ℕ) (from to : List (List ℕ)) (i dir number : ℕ) → 0 < length from → is_below from to ≡ false → walk_to_dir s (front_of from) ≡ Err number → refused_by s number ≡ rename_to s busy from to i dir
from_astray s busy from to i dir number some below found = sym (ap (λ r. at_inode s r (λ d. rename_row s busy d (last_of from) dir (last_of to) i (get s.names (dir, last_of to)))) found) ∙ from_beside s busy from to i dir some below
