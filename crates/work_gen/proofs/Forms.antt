-- A request that is drawn is one that a line can be.
use Rattle.std.proofs.Common.{◌≡◌, ◌≢◌, ◌<◌, ◌≤◌, ◌+◌, ◌%◌, ◌==◌, ℕ, Bool, cond, true, false, zero, suc, refl, sym, arith, List, [], ◌∷◌, length, All, decimal, inr, append-nil, nat_lt}
use Rattle.std.specs.Char.{digit_value}
use Rattle.std.specs.Str.Parse.{AllDigits}
use Rattle.std.proofs.lemmas.Bool.Decides.{nat_tests}
use Rattle.std.proofs.lemmas.Fmt.{decimal_is_IsNumeral, length-decimal-le}
use Rattle.std.proofs.lemmas.List.{length-replicate}
use Rattle.rio_requests.specs.Requests.{IsRequest}
use Rattle.rio_requests.specs.declared.request.Request.{Request}
use Rattle.rio_requests.specs.declared.request.Request.TheVariants.{Create, Region, Unlink, Begin, Commit, Abort, Flush}
use Rattle.rio_model.specs.Paths.{IsName, IsNameByte, IsPath}
use Rattle.work_gen.specs.Draws.{Drawn, draw}
use Rattle.work_gen.specs.Requests.{alloc, chosen, file_path, of_kind, on_region, put, range, read, region_path, rename, request, rising, truncate, write}

-- ---- paths

digit_byte : (b : ℕ) → digit_value b < 10 → IsNameByte b
digit_byte b digit = record { low = grind (arith, nat_tests, digit); high = grind (arith, nat_tests, digit); not_slash = λ is. grind (arith, nat_tests, digit, is) }

digit_bytes : (digits : List ℕ) → AllDigits 10 digits → All IsNameByte digits
digit_bytes [] all k d below = absurd (omega (arith, below))
digit_bytes (b ∷ digits) all zero d below = digit_byte b all.0
digit_bytes (b ∷ digits) all (suc k) d below = digit_bytes digits all.1 k d (omega (arith, below))

letter_first : (letter : ℕ) (digits : List ℕ) → IsNameByte letter → AllDigits 10 digits → All IsNameByte (letter ∷ digits)
letter_first letter digits is all zero d below = is
letter_first letter digits is all (suc k) d below = digit_bytes digits all k d (omega (arith, below))

numbered : (letter n : ℕ) → n < 40 → IsNameByte letter → letter ≢ 46 → IsName (letter ∷ decimal n)
numbered letter n small is other =
    let short : length (decimal n) ≤ 2 = length-decimal-le 2 n (omega arith) (omega (arith, small)) (omega (arith, small)) in
    record {
      some = omega arith;
      few = omega (arith, short);
      bytes = letter_first letter (decimal n) is (decimal_is_IsNumeral n (omega (arith, small))).0.1;
      not_dot = λ e. other (cc e);
      not_dots = λ e. other (cc e);
    }

one_name : (name : List ℕ) → IsName name → IsPath (47 ∷ name)
one_name name is = inr (name ∷ [], record { is = sym (append-nil (47 ∷ name)); each = alone }, omega arith, omega arith)
  where
    alone : All IsName (name ∷ [])
    alone zero d below = is
    alone (suc k) d below = absurd (omega (arith, below))

pub file_is_path : (n : ℕ) → n < 40 → IsPath (file_path n)
file_is_path n small = one_name (102 ∷ decimal n) (numbered 102 n small (record { low = omega arith; high = omega arith; not_slash = λ e. absurd (omega (arith, e)) }) (λ e. absurd (omega (arith, e))))

pub region_is_path : (n : ℕ) → n < 4 → IsPath (region_path n)
region_is_path n small = one_name (114 ∷ decimal n) (numbered 114 n (omega (arith, small)) (record { low = omega arith; high = omega arith; not_slash = λ e. absurd (omega (arith, e)) }) (λ e. absurd (omega (arith, e))))

-- ---- requests

length-rising : (byte count : ℕ) → length (rising byte count) ≡ count
length-rising byte zero = refl
length-rising byte (suc count) = let rest = length-rising ((byte + 1) % 256) count in omega (arith, rest)

abbrev Is : Drawn Request → Type 0
Is d = IsRequest d.1

write_is : (n x : ℕ) → n < 40 → Is (write n x)
write_is n x small =
    let len = draw (draw x).0 in
    let count = length-rising ((draw len.0).1 % 256) (len.1 % 6000) in
    (file_is_path n small, omega (arith, count))

-- the request of the first choice that is so
of_choices : (a b c d e : Bool) (n x : ℕ) → n < 4
    → Is (cond a (x, Begin (region_path n)) (cond b (range n x) (cond c (put n x) (cond d (alloc n x) (cond e (x, Commit (region_path n)) (x, Abort (region_path n)))))))
of_choices true b c d e n x small = region_is_path n small
of_choices false true c d e n x small = region_is_path n small
of_choices false false true d e n x small = (region_is_path n small, omega (arith, length-replicate 8 ((draw (draw x).0).1 % 256)))
of_choices false false false true e n x small = (region_is_path n small, omega arith)
of_choices false false false false true n x small = region_is_path n small
of_choices false false false false false n x small = region_is_path n small

chosen_is : (choice n x : ℕ) → n < 4 → Is (chosen choice n x)
chosen_is choice n x small = of_choices (choice == 0) (choice == 1) (choice == 2) (choice == 3) (choice == 4) n x small

of_kinds : (a b c d e f g h : Bool) (n x : ℕ) → n < 40
    → Is (cond a (x, Create (file_path n)) (cond b (write n x) (cond c (read n x) (cond d (truncate n x) (cond e (x, Unlink (file_path n)) (cond f (rename n x)
    (cond g (x, Region (region_path (n % 4)) 8 4) (cond h (on_region (n % 4) x) (x, Flush 8)))))))))
of_kinds true b c d e f g h n x small = file_is_path n small
of_kinds false true c d e f g h n x small = write_is n x small
of_kinds false false true d e f g h n x small = (file_is_path n small, omega arith)
of_kinds false false false true e f g h n x small = file_is_path n small
of_kinds false false false false true f g h n x small = file_is_path n small
of_kinds false false false false false true g h n x small = (file_is_path n small, file_is_path ((draw x).1 % 40) (omega arith))
of_kinds false false false false false false true h n x small = (region_is_path (n % 4) (omega arith), omega arith, omega arith)
of_kinds false false false false false false false true n x small = chosen_is ((draw x).1 % 6) (n % 4) (draw x).0 (omega arith)
of_kinds false false false false false false false false n x small = tt

of_kind_is : (kind n x : ℕ) → n < 40 → Is (of_kind kind n x)
of_kind_is kind n x small = of_kinds (nat_lt kind 3) (nat_lt kind 8) (nat_lt kind 10) (kind == 10) (kind == 11) (kind == 12) (kind == 13) (kind == 14) n x small

pub request_is : (x : ℕ) → IsRequest (request x).1
request_is x = of_kind_is ((draw x).1 % 16) ((draw (draw x).0).1 % 40) (draw (draw x).0).0 (omega arith)
