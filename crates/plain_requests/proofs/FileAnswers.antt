-- What a file becomes, and how it is answered, case by case.
use Rattle.plain_requests.proofs.Common.{◌≡◌, ℕ, ◌+◌, ◌-◌, ◌<◌, ◌≤◌, cond, Bool, true, false, List, [], ◌∷◌, ◌++◌, length, take, drop, refl, sym, ap, ◌∙◌, arith, inl, inr, nat_lt, nat_tests, drop_all, with_node, resized, free_count, largest_size, File, State}
use Rattle.std.proofs.Common.{◌^◌, ◌⊎◌, replicate}
use Rattle.std.specs.Prelude.{min}
use Rattle.std.proofs.lemmas.Bool.{cases_lt}
use Rattle.std.proofs.lemmas.List.{append-nil, length-append, length-replicate, length-take, take_all, take-append-le, take_min}
use Rattle.rio_requests.specs.Answer.{answered, refused}
use Rattle.rio_requests.specs.Answers.{wanted, with_size, write_file}
use Rattle.rio_model.specs.FileParts.{written}
use Rattle.rio_model.specs.declared.refusal.Refusal.TheVariants.{TooLarge, NoSpace}
use Rattle.rio_requests.specs.declared.answered.Answered.{Answered}
use Rattle.rio_requests.specs.declared.reply.Reply.TheVariants.{Number}

-- ---- by size and room

large : (len : ℕ) → largest_size < len → nat_lt largest_size len ≡ true
large len h = grind (arith, nat_tests, h)

small : (len : ℕ) → len ≤ largest_size → nat_lt largest_size len ≡ false
small len h = grind (arith, nat_tests, h)

pub too_large : (s : State) (size len : ℕ) (answer : Answered) → largest_size < len → refused s TooLarge ≡ with_size s size len answer
too_large s size len answer h = sym (ap (λ b. cond b (refused s TooLarge) (cond (nat_lt (free_count s) (wanted size len)) (refused s NoSpace) answer)) (large len h))

by_room : (s : State) (size len : ℕ) (answer : Answered) → len ≤ largest_size → with_size s size len answer ≡ cond (nat_lt (free_count s) (wanted size len)) (refused s NoSpace) answer
by_room s size len answer h = ap (λ b. cond b (refused s TooLarge) (cond (nat_lt (free_count s) (wanted size len)) (refused s NoSpace) answer)) (small len h)

pub room_lacking : (s : State) (size len : ℕ) (answer : Answered) → len ≤ largest_size → nat_lt (free_count s) (wanted size len) ≡ true → refused s NoSpace ≡ with_size s size len answer
room_lacking s size len answer h lacks = sym (by_room s size len answer h ∙ ap (λ b. cond b (refused s NoSpace) answer) lacks)

pub room_there : (s : State) (size len : ℕ) (answer : Answered) → len ≤ largest_size → nat_lt (free_count s) (wanted size len) ≡ false → answer ≡ with_size s size len answer
room_there s size len answer h there = sym (by_room s size len answer h ∙ ap (λ b. cond b (refused s NoSpace) answer) there)

-- ---- written bytes

pub none_written : (s : State) (off : ℕ) (bytes : List ℕ) (i : ℕ) (old : List ℕ) → length bytes ≡ 0 → answered s (Number 0) ≡ write_file s off bytes i old
none_written s off [] i old none = refl
none_written s off (b ∷ bytes) i old none = absurd (omega (arith, none))

pub some_written : (s : State) (off : ℕ) (bytes : List ℕ) (i : ℕ) (old : List ℕ) → 0 < length bytes → with_size s (length old) (off + length bytes) (answered (with_node s i (File (written old off bytes))) (Number (length bytes))) ≡ write_file s off bytes i old
some_written s off [] i old some = absurd (omega (arith, some))
some_written s off (b ∷ bytes) i old some = refl

-- the first of the old bytes and zeros behind them, as a program puts them together
pub resized_by : (old front zeros made : List ℕ) (len kept : ℕ) → kept ≡ min len (length old) → front ≡ take kept old → zeros ≡ replicate (len - kept) 0 → made ≡ front ++ zeros → made ≡ resized old len
resized_by old front zeros made len kept least is none all =
    let rest : len - kept ≡ len - length old = omega (arith, least) in
    all ∙ ap (λ xs. xs ++ zeros) (is ∙ ap (λ n. take n old) least ∙ take_min len old) ∙ ap (λ xs. take len old ++ xs) (none ∙ ap (λ n. replicate n 0) rest)

length_resized : (old : List ℕ) (len : ℕ) → length (resized old len) ≡ len
length_resized old len = length-append (take len old) (replicate (len - length old) 0) ∙ (let front = length-take len old in let back = length-replicate {A = ℕ} (len - length old) 0 in omega (arith, front, back))

nothing : (n : ℕ) → n ≡ 0 → replicate {A = ℕ} n 0 ≡ []
nothing n e = ap (λ m. replicate {A = ℕ} m 0) e

-- bytes that a write has in front are those of a resized file
front_put : (old : List ℕ) (off : ℕ) → take off (old ++ replicate (off - length old) 0) ≡ resized old off
front_put old off = by (cases_lt off (length old))
  where
    by : ((off < length old) ⊎ (length old ≤ off)) → take off (old ++ replicate (off - length old) 0) ≡ resized old off
    by (inl within) = take-append-le off old _ (omega (arith, within)) ∙ sym (append-nil (take off old)) ∙ ap (λ xs. take off old ++ xs) (sym (nothing (off - length old) (omega (arith, within))))
    by (inr past) = take_all off _ (let long = length-append old (replicate (off - length old) 0) in let back = length-replicate {A = ℕ} (off - length old) 0 in omega (arith, long, back, past)) ∙ ap (λ xs. xs ++ replicate (off - length old) 0) (sym (take_all off old past))

written_is : (old bytes : List ℕ) (off : ℕ) → 0 < length bytes → written old off bytes ≡ resized old off ++ bytes ++ drop (off + length bytes) (old ++ replicate (off - length old) 0)
written_is old [] off some = absurd (omega (arith, some))
written_is old (b ∷ bytes) off some = ap (λ xs. xs ++ (b ∷ bytes) ++ drop (off + length (b ∷ bytes)) (old ++ replicate (off - length old) 0)) (front_put old off)

-- what a program has put together when the new bytes are there
record HasWritten (old bytes made : List ℕ) (off : ℕ) : Type 0 where
  is : made ≡ resized old off ++ bytes
  long : length made ≡ off + length bytes

has_written : (old bytes front made : List ℕ) (off : ℕ) → front ≡ resized old off → made ≡ front ++ bytes → HasWritten old bytes made off
has_written old bytes front made off fits all =
    let is : made ≡ resized old off ++ bytes = all ∙ ap (λ xs. xs ++ bytes) fits in
    record { is = is; long = ap length is ∙ length-append (resized old off) bytes ∙ ap (λ n. n + length bytes) (length_resized old off) }

-- nothing of the old bytes is behind them
pub written_past : (old bytes front made : List ℕ) (off : ℕ) → 0 < length bytes → front ≡ resized old off → made ≡ front ++ bytes → length old ≤ length made → made ≡ written old off bytes
written_past old bytes front made off some fits all past =
    let h = has_written old bytes front made off fits all in
    let base = old ++ replicate (off - length old) 0 in
    let long = h.long in
    let sum = length-append old (replicate (off - length old) 0) in
    let back = length-replicate {A = ℕ} (off - length old) 0 in
    let none : drop (off + length bytes) base ≡ [] = drop_all (off + length bytes) base (omega (arith, long, past, sum, back)) in
    h.is ∙ sym (append-nil (resized old off ++ bytes)) ∙ ap (λ xs. resized old off ++ bytes ++ xs) (sym none) ∙ sym (written_is old bytes off some)

-- and the rest of them is
pub written_within : (old bytes front made all : List ℕ) (off : ℕ) → 0 < length bytes → front ≡ resized old off → made ≡ front ++ bytes → length made < length old → all ≡ made ++ drop (length made) old → all ≡ written old off bytes
written_within old bytes front made all off some fits put within whole =
    let h = has_written old bytes front made off fits put in
    let long = h.long in
    let bare : old ++ replicate (off - length old) 0 ≡ old = ap (λ xs. old ++ xs) (nothing (off - length old) (omega (arith, long, within))) ∙ append-nil old in
    whole ∙ ap (λ xs. xs ++ drop (length made) old) h.is ∙ ap (λ n. resized old off ++ bytes ++ drop n old) long ∙ ap (λ xs. resized old off ++ bytes ++ drop (off + length bytes) xs) (sym bare) ∙ sym (written_is old bytes off some)

-- ---- a write, case by case

pub end_large : (end sum : ℕ) (b : Bool) → end ≡ min sum (2 ^ 64 - 1) → b ≡ nat_lt largest_size end → b ≡ true → largest_size < sum
end_large end sum b least is holds = let t : largest_size < end = grind (arith, nat_tests, is, holds) in omega (arith, least, t)

pub end_small : (end sum : ℕ) (b : Bool) → end ≡ min sum (2 ^ 64 - 1) → b ≡ nat_lt largest_size end → b ≡ false → (end ≡ sum) × (sum ≤ largest_size)
end_small end sum b least is fails = let t : end ≤ largest_size = grind (arith, nat_tests, is, fails) in (omega (arith, least, t), omega (arith, least, t))

pub len_large : (len : ℕ) (b : Bool) → b ≡ nat_lt largest_size len → b ≡ true → largest_size < len
len_large len b is holds = grind (arith, nat_tests, is, holds)

pub len_small : (len : ℕ) (b : Bool) → b ≡ nat_lt largest_size len → b ≡ false → len ≤ largest_size
len_small len b is fails = grind (arith, nat_tests, is, fails)

pub write_large : (s : State) (off : ℕ) (bytes : List ℕ) (i : ℕ) (old : List ℕ) → 0 < length bytes → largest_size < off + length bytes → refused s TooLarge ≡ write_file s off bytes i old
write_large s off bytes i old some large = too_large s (length old) (off + length bytes) (answered (with_node s i (File (written old off bytes))) (Number (length bytes))) large ∙ some_written s off bytes i old some

pub write_lacks : (s : State) (off : ℕ) (bytes : List ℕ) (i : ℕ) (old : List ℕ) (end wants : ℕ) (lacks : Bool) → 0 < length bytes → (end ≡ off + length bytes) × (off + length bytes ≤ largest_size) → wants ≡ wanted (length old) end → lacks ≡ nat_lt (free_count s) wants → lacks ≡ true → refused s NoSpace ≡ write_file s off bytes i old
write_lacks s off bytes i old end wants lacks some fits is told holds =
    let t : nat_lt (free_count s) (wanted (length old) (off + length bytes)) ≡ true = sym (told ∙ ap (nat_lt (free_count s)) (is ∙ ap (wanted (length old)) fits.0)) ∙ holds in
    room_lacking s (length old) (off + length bytes) (answered (with_node s i (File (written old off bytes))) (Number (length bytes))) fits.1 t ∙ some_written s off bytes i old some

pub write_there : (s : State) (off : ℕ) (bytes : List ℕ) (i : ℕ) (old : List ℕ) (end wants : ℕ) (lacks : Bool) → 0 < length bytes → (end ≡ off + length bytes) × (off + length bytes ≤ largest_size) → wants ≡ wanted (length old) end → lacks ≡ nat_lt (free_count s) wants → lacks ≡ false → (made : List ℕ) → made ≡ written old off bytes → answered (with_node s i (File made)) (Number (length bytes)) ≡ write_file s off bytes i old
write_there s off bytes i old end wants lacks some fits is told fails made all =
    let t : nat_lt (free_count s) (wanted (length old) (off + length bytes)) ≡ false = sym (told ∙ ap (nat_lt (free_count s)) (is ∙ ap (wanted (length old)) fits.0)) ∙ fails in
    ap (λ m. answered (with_node s i (File m)) (Number (length bytes))) all
    ∙ room_there s (length old) (off + length bytes) (answered (with_node s i (File (written old off bytes))) (Number (length bytes))) fits.1 t
    ∙ some_written s off bytes i old some
