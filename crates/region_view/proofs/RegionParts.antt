-- A run of a region's words, read or stored in parts.
use Rattle.region_view.proofs.Common.{◌≡◌, ℕ, ◌+◌, ◌-◌, ◌*◌, ◌%◌, ◌<◌, ◌≤◌, List, length, take, drop, ap, ◌∙◌, arith, nat_tests, put_words}
use Rattle.std.proofs.Common.{slice_index, length-append, length-take, length-drop, ◌++◌, ◌⊎◌, inl, inr}
use Rattle.std.proofs.lemmas.Bool.{cases_lt}
use Rattle.std.proofs.lemmas.List.{get_or-append_right, get_or_append_left, get_or-drop, get_or-take, length-take-le}
use Rattle.rio_base.specs.Regions.{AreWords, OldOrPutWords, RegionContent}

-- no word
none_at : (f : RegionContent) (at : ℕ) (words : List ℕ) (x : ℕ) → f x ≡ put_words f at 0 words x
none_at f at words x = grind (arith, nat_tests)

pub put_none : (f : RegionContent) (at : ℕ) (words : List ℕ) → f ≡ put_words f at 0 words
put_none f at words = λ i x. none_at f at words x i

-- a part behind what was stored before
then_at : (f : RegionContent) (at d n : ℕ) (words part : List ℕ) (x : ℕ) → ((k : ℕ) → k < n → slice_index part k ≡ slice_index words (d + k)) → put_words (put_words f at d words) (at + d) n part x ≡ put_words f at (d + n) words x
then_at f at d n words part x same =
    let here : at + d ≤ x → x < at + d + n → slice_index part (x - (at + d)) ≡ slice_index words (x - at) = λ low high. same (x - (at + d)) (omega (arith, low, high)) ∙ ap (slice_index words) (omega (arith, low)) in
    grind (arith, nat_tests, here)

pub put_then : (f : RegionContent) (at d n : ℕ) (words part : List ℕ) → ((k : ℕ) → k < n → slice_index part k ≡ slice_index words (d + k)) → put_words (put_words f at d words) (at + d) n part ≡ put_words f at (d + n) words
put_then f at d n words part same = λ i x. then_at f at d n words part x same i

-- the same words, from another list
as_at : (f : RegionContent) (at n : ℕ) (words part : List ℕ) (x : ℕ) → ((k : ℕ) → k < n → slice_index part k ≡ slice_index words k) → put_words f at n part x ≡ put_words f at n words x
as_at f at n words part x same =
    let here : at ≤ x → x < at + n → slice_index part (x - at) ≡ slice_index words (x - at) = λ low high. same (x - at) (omega (arith, low, high)) in
    grind (arith, nat_tests, here)

pub put_as : (f : RegionContent) (at n : ℕ) (words part : List ℕ) → ((k : ℕ) → k < n → slice_index part k ≡ slice_index words k) → put_words f at n part ≡ put_words f at n words
put_as f at n words part same = λ i x. as_at f at n words part x same i

-- a front of the words
pub put_front : (f : RegionContent) (at n m : ℕ) (words : List ℕ) → n ≤ m → put_words f at n (take m words) ≡ put_words f at n words
put_front f at n m words few = put_as f at n words (take m words) (λ k less. get_or-take m words k 0 (omega (arith, less, few)))

pub front_of_part : (f g : RegionContent) (at m : ℕ) (words : List ℕ) → m ≤ length words → OldOrPutWords f g at (take m words) (length (take m words)) → OldOrPutWords f g at words (length words)
front_of_part f g at m words within (n, few, is) = let size = length-take m words in (n, omega (arith, few, size, within), is ∙ put_front f at n m words (omega (arith, few, size, within)))

-- what is left of the words behind the first d
abbrev pub rest_of : List ℕ → ℕ → List ℕ
rest_of words d = take (length words - d) (drop d words)

rest_at : (words : List ℕ) (d k : ℕ) → k < length words - d → slice_index (rest_of words d) k ≡ slice_index words (d + k)
rest_at words d k less = get_or-take (length words - d) (drop d words) k 0 less ∙ get_or-drop d words k 0

pub rest_length : (words : List ℕ) (d : ℕ) → length (rest_of words d) ≡ length words - d
rest_length words d = let taken = length-take (length words - d) (drop d words) in let dropped = length-drop d words in omega (arith, taken, dropped)

pub put_rest : (f g h : RegionContent) (at d n : ℕ) (words : List ℕ) → n ≤ length (rest_of words d) → g ≡ put_words f at d words → h ≡ put_words g (at + d) n (rest_of words d) → h ≡ put_words f at (d + n) words
put_rest f g h at d n words few e is = is ∙ ap (λ (k : RegionContent). put_words k (at + d) n (rest_of words d)) e ∙ put_then f at d n words (rest_of words d) (λ k less. rest_at words d k (let size = rest_length words d in omega (arith, less, few, size)))

pub front_rest : (f g h : RegionContent) (at d : ℕ) (words : List ℕ) → d ≤ length words → g ≡ put_words f at d words → OldOrPutWords g h (at + d) (rest_of words d) (length (rest_of words d)) → OldOrPutWords f h at words (length words)
front_rest f g h at d words within e (n, few, is) = (d + n, (let size = rest_length words d in omega (arith, few, size, within)), put_rest f g h at d n words few e is)

pub part_done : (f g : RegionContent) (at m : ℕ) (words : List ℕ) → m ≤ length words → g ≡ put_words f at (length (take m words)) (take m words) → g ≡ put_words f at m words
part_done f g at m words within is =
    let size : length (take m words) ≡ m = (let taken = length-take m words in omega (arith, taken, within)) in
    is ∙ ap (λ n. put_words f at n (take m words)) size ∙ put_front f at m m words (omega arith)

pub part_told : (f g : RegionContent) (at n m : ℕ) (words : List ℕ) → m ≤ length words → n < length (take m words) → g ≡ put_words f at n (take m words) → (n < length words) × (g ≡ put_words f at n words)
part_told f g at n m words within few is = let size = length-take m words in (omega (arith, few, size, within), is ∙ put_front f at n m words (omega (arith, few, size, within)))

pub rest_told : (f g h : RegionContent) (at d n : ℕ) (words : List ℕ) → d ≤ length words → g ≡ put_words f at d words → n < length (rest_of words d) → h ≡ put_words g (at + d) n (rest_of words d) → (d + n < length words) × (h ≡ put_words f at (d + n) words)
rest_told f g h at d n words within e few is = let size = rest_length words d in (omega (arith, few, size, within), put_rest f g h at d n words (omega (arith, few)) e is)

-- all of them
pub put_all : (f g : RegionContent) (at d : ℕ) (words : List ℕ) → d ≡ length words → g ≡ put_words f at d words → g ≡ put_words f at (length words) words
put_all f g at d words all is = is ∙ ap (λ n. put_words f at n words) all

-- ---- the words of one page

part_size : (words : List ℕ) (m : ℕ) → m ≤ length words → length (take m words) ≡ m
part_size words m most = let taken = length-take m words in omega (arith, taken, most)

pub part_some : (words : List ℕ) (m : ℕ) → m ≤ length words → 0 < m → 0 < length (take m words)
part_some words m most some = let size = part_size words m most in omega (arith, size, some)

pub part_within : (at : ℕ) (words : List ℕ) (m : ℕ) → at % 512 + m ≤ 512 → at % 512 + length (take m words) ≤ 512
part_within at words m within = let taken = length-take m words in omega (arith, taken, within)

pub part_place : (at : ℕ) (words : List ℕ) (m size : ℕ) → 8 * (at + length words) ≤ size → 8 * (at + length (take m words)) ≤ size
part_place at words m size most = let taken = length-take m words in omega (arith, taken, most)

-- ---- words read into a part of a list

-- words of a list from d on, written anew
abbrev pub written_at : List ℕ → ℕ → ℕ → List ℕ → List ℕ
written_at words d n part = take d words ++ (part ++ drop n (drop d words))

pub written_length : (words part : List ℕ) (d c : ℕ) → d + c ≤ length words → length part ≡ length (take (d + c - d) (drop d words)) → length (written_at words d (d + c - d) part) ≡ length words
written_length words part d c within same = omega (arith, within, same, length-append (take d words) (part ++ drop (d + c - d) (drop d words)), length-append part (drop (d + c - d) (drop d words)), length-take d words, length-take (d + c - d) (drop d words), length-drop d words, length-drop (d + c - d) (drop d words))

part_long : (words : List ℕ) (d c : ℕ) → d + c ≤ length words → length (take (d + c - d) (drop d words)) ≡ c
part_long words d c within = omega (arith, within, length-take (d + c - d) (drop d words), length-drop d words)

-- those before it are as they were, and those of it are the part's
pub words_then : (f : RegionContent) (at d c : ℕ) (words part : List ℕ) → d + c ≤ length words → AreWords f at d words → length part ≡ length (take (d + c - d) (drop d words)) → AreWords f (at + d) (length (take (d + c - d) (drop d words))) part → AreWords f at (d + c) (written_at words d (d + c - d) part)
words_then f at d c words part within before same now = record { each = λ k less. by k less (cases_lt k d) }
  where
    rest : List ℕ
    rest = drop (d + c - d) (drop d words)

    front : length (take d words) ≡ d
    front = length-take-le d words (omega (arith, within))

    long : length part ≡ c
    long = same ∙ part_long words d c within

    by : (k : ℕ) → k < d + c → (k < d) ⊎ (d ≤ k) → slice_index (written_at words d (d + c - d) part) k ≡ f (at + k)
    by k less (inl low) = get_or_append_left (take d words) (part ++ rest) 0 k (omega (arith, front, low)) ∙ get_or-take d words k 0 low ∙ before.each k low
    by k less (inr high) =
        let place : at + d + (k - d) ≡ at + k = omega (arith, high) in
        get_or-append_right (take d words) (part ++ rest) d k 0 front high
        ∙ get_or_append_left part rest 0 (k - d) (omega (arith, less, high, long))
        ∙ now.each (k - d) (omega (arith, less, high, part_long words d c within))
        ∙ ap f place

-- ---- what is asked of the part

pub read_some : (words : List ℕ) (d c : ℕ) → d < length words → (0 < length words - d → 0 < c) → c ≤ length words - d → 0 < length (take (d + c - d) (drop d words))
read_some words d c less some most =
    let long = part_long words d c (omega (arith, less, most)) in
    let more = some (omega (arith, less)) in
    omega (arith, long, more)

pub read_within : (at d c : ℕ) (words : List ℕ) → d < length words → c ≤ length words - d → (at + d) % 512 + c ≤ 512 → (at + d) % 512 + length (take (d + c - d) (drop d words)) ≤ 512
read_within at d c words less most within =
    let long = part_long words d c (omega (arith, less, most)) in
    omega (arith, long, within)

pub read_place : (at d c size : ℕ) (words : List ℕ) → d < length words → c ≤ length words - d → 8 * (at + length words) ≤ size → 8 * (at + d + length (take (d + c - d) (drop d words))) ≤ size
read_place at d c size words less most place =
    let long = part_long words d c (omega (arith, less, most)) in
    omega (arith, long, less, most, place)

pub read_end : (d c len : ℕ) → d < len → (0 < len - d → 0 < c) → c ≤ len - d → (d < d + c) × (d + c ≤ len)
read_end d c len less some most = let more = some (omega (arith, less)) in (omega (arith, more), omega (arith, less, most))

-- ---- what is asked of the words that are left

pub rest_some : (words : List ℕ) (d : ℕ) → d < length words → 0 < length (rest_of words d)
rest_some words d less = let size = rest_length words d in omega (arith, size, less)

pub rest_place : (words : List ℕ) (at d size now : ℕ) → d ≤ length words → now ≡ size → 8 * (at + length words) ≤ size → 8 * (at + d + length (rest_of words d)) ≤ now
rest_place words at d size now within same most = let left = rest_length words d in omega (arith, left, within, same, most)
