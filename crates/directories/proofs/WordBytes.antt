-- Words compared by their first bytes.
use Rattle.directories.proofs.Common.{◌≡◌, ℕ, zero, suc, ◌-◌, ◌*◌, ◌/◌, ◌%◌, ◌^◌, ◌<◌, ◌≤◌, bit_and, sym, ◌∙◌, arith}
use Rattle.std.proofs.lemmas.Nat.{and_mask}
use Rattle.rio_model.specs.Held.{byte_of}

-- ---- each byte of a word

pub byte_0 : (w : ℕ) → byte_of w 0 ≡ w / 1 % 256
unfolding byte_of
byte_0 w = omega arith

pub byte_1 : (w : ℕ) → byte_of w 1 ≡ w / 256 % 256
unfolding byte_of
byte_1 w = omega arith

pub byte_2 : (w : ℕ) → byte_of w 2 ≡ w / 65536 % 256
unfolding byte_of
byte_2 w = omega arith

pub byte_3 : (w : ℕ) → byte_of w 3 ≡ w / 16777216 % 256
unfolding byte_of
byte_3 w = omega arith

pub byte_4 : (w : ℕ) → byte_of w 4 ≡ w / 4294967296 % 256
unfolding byte_of
byte_4 w = omega arith

pub byte_5 : (w : ℕ) → byte_of w 5 ≡ w / 1099511627776 % 256
unfolding byte_of
byte_5 w = omega arith

pub byte_6 : (w : ℕ) → byte_of w 6 ≡ w / 281474976710656 % 256
unfolding byte_of
byte_6 w = omega arith

pub byte_7 : (w : ℕ) → byte_of w 7 ≡ w / 72057594037927936 % 256
unfolding byte_of
byte_7 w = omega arith

-- the first r bytes of a word are those of a number that has no others
masked_mod : (w q r : ℕ) → r ≤ 8 → q < 2 ^ 64 → ((b : ℕ) → b < r → byte_of w b ≡ byte_of q b) → ((b : ℕ) → r ≤ b → b < 8 → byte_of q b ≡ 0) → w % 2 ^ (8 * r) ≡ q
masked_mod w q zero few fits same none =
    let e0 = sym (byte_0 q) ∙ none 0 (omega arith) (omega arith) in
    let e1 = sym (byte_1 q) ∙ none 1 (omega arith) (omega arith) in
    let e2 = sym (byte_2 q) ∙ none 2 (omega arith) (omega arith) in
    let e3 = sym (byte_3 q) ∙ none 3 (omega arith) (omega arith) in
    let e4 = sym (byte_4 q) ∙ none 4 (omega arith) (omega arith) in
    let e5 = sym (byte_5 q) ∙ none 5 (omega arith) (omega arith) in
    let e6 = sym (byte_6 q) ∙ none 6 (omega arith) (omega arith) in
    let e7 = sym (byte_7 q) ∙ none 7 (omega arith) (omega arith) in
    omega (arith, fits, e0, e1, e2, e3, e4, e5, e6, e7)
masked_mod w q (suc zero) few fits same none =
    let e0 = sym (byte_0 w) ∙ same 0 (omega arith) ∙ byte_0 q in
    let e1 = sym (byte_1 q) ∙ none 1 (omega arith) (omega arith) in
    let e2 = sym (byte_2 q) ∙ none 2 (omega arith) (omega arith) in
    let e3 = sym (byte_3 q) ∙ none 3 (omega arith) (omega arith) in
    let e4 = sym (byte_4 q) ∙ none 4 (omega arith) (omega arith) in
    let e5 = sym (byte_5 q) ∙ none 5 (omega arith) (omega arith) in
    let e6 = sym (byte_6 q) ∙ none 6 (omega arith) (omega arith) in
    let e7 = sym (byte_7 q) ∙ none 7 (omega arith) (omega arith) in
    omega (arith, fits, e0, e1, e2, e3, e4, e5, e6, e7)
masked_mod w q (suc (suc zero)) few fits same none =
    let e0 = sym (byte_0 w) ∙ same 0 (omega arith) ∙ byte_0 q in
    let e1 = sym (byte_1 w) ∙ same 1 (omega arith) ∙ byte_1 q in
    let e2 = sym (byte_2 q) ∙ none 2 (omega arith) (omega arith) in
    let e3 = sym (byte_3 q) ∙ none 3 (omega arith) (omega arith) in
    let e4 = sym (byte_4 q) ∙ none 4 (omega arith) (omega arith) in
    let e5 = sym (byte_5 q) ∙ none 5 (omega arith) (omega arith) in
    let e6 = sym (byte_6 q) ∙ none 6 (omega arith) (omega arith) in
    let e7 = sym (byte_7 q) ∙ none 7 (omega arith) (omega arith) in
    omega (arith, fits, e0, e1, e2, e3, e4, e5, e6, e7)
masked_mod w q (suc (suc (suc zero))) few fits same none =
    let e0 = sym (byte_0 w) ∙ same 0 (omega arith) ∙ byte_0 q in
    let e1 = sym (byte_1 w) ∙ same 1 (omega arith) ∙ byte_1 q in
    let e2 = sym (byte_2 w) ∙ same 2 (omega arith) ∙ byte_2 q in
    let e3 = sym (byte_3 q) ∙ none 3 (omega arith) (omega arith) in
    let e4 = sym (byte_4 q) ∙ none 4 (omega arith) (omega arith) in
    let e5 = sym (byte_5 q) ∙ none 5 (omega arith) (omega arith) in
    let e6 = sym (byte_6 q) ∙ none 6 (omega arith) (omega arith) in
    let e7 = sym (byte_7 q) ∙ none 7 (omega arith) (omega arith) in
    omega (arith, fits, e0, e1, e2, e3, e4, e5, e6, e7)
masked_mod w q (suc (suc (suc (suc zero)))) few fits same none =
    let e0 = sym (byte_0 w) ∙ same 0 (omega arith) ∙ byte_0 q in
    let e1 = sym (byte_1 w) ∙ same 1 (omega arith) ∙ byte_1 q in
    let e2 = sym (byte_2 w) ∙ same 2 (omega arith) ∙ byte_2 q in
    let e3 = sym (byte_3 w) ∙ same 3 (omega arith) ∙ byte_3 q in
    let e4 = sym (byte_4 q) ∙ none 4 (omega arith) (omega arith) in
    let e5 = sym (byte_5 q) ∙ none 5 (omega arith) (omega arith) in
    let e6 = sym (byte_6 q) ∙ none 6 (omega arith) (omega arith) in
    let e7 = sym (byte_7 q) ∙ none 7 (omega arith) (omega arith) in
    omega (arith, fits, e0, e1, e2, e3, e4, e5, e6, e7)
masked_mod w q (suc (suc (suc (suc (suc zero))))) few fits same none =
    let e0 = sym (byte_0 w) ∙ same 0 (omega arith) ∙ byte_0 q in
    let e1 = sym (byte_1 w) ∙ same 1 (omega arith) ∙ byte_1 q in
    let e2 = sym (byte_2 w) ∙ same 2 (omega arith) ∙ byte_2 q in
    let e3 = sym (byte_3 w) ∙ same 3 (omega arith) ∙ byte_3 q in
    let e4 = sym (byte_4 w) ∙ same 4 (omega arith) ∙ byte_4 q in
    let e5 = sym (byte_5 q) ∙ none 5 (omega arith) (omega arith) in
    let e6 = sym (byte_6 q) ∙ none 6 (omega arith) (omega arith) in
    let e7 = sym (byte_7 q) ∙ none 7 (omega arith) (omega arith) in
    omega (arith, fits, e0, e1, e2, e3, e4, e5, e6, e7)
masked_mod w q (suc (suc (suc (suc (suc (suc zero)))))) few fits same none =
    let e0 = sym (byte_0 w) ∙ same 0 (omega arith) ∙ byte_0 q in
    let e1 = sym (byte_1 w) ∙ same 1 (omega arith) ∙ byte_1 q in
    let e2 = sym (byte_2 w) ∙ same 2 (omega arith) ∙ byte_2 q in
    let e3 = sym (byte_3 w) ∙ same 3 (omega arith) ∙ byte_3 q in
    let e4 = sym (byte_4 w) ∙ same 4 (omega arith) ∙ byte_4 q in
    let e5 = sym (byte_5 w) ∙ same 5 (omega arith) ∙ byte_5 q in
    let e6 = sym (byte_6 q) ∙ none 6 (omega arith) (omega arith) in
    let e7 = sym (byte_7 q) ∙ none 7 (omega arith) (omega arith) in
    omega (arith, fits, e0, e1, e2, e3, e4, e5, e6, e7)
masked_mod w q (suc (suc (suc (suc (suc (suc (suc zero))))))) few fits same none =
    let e0 = sym (byte_0 w) ∙ same 0 (omega arith) ∙ byte_0 q in
    let e1 = sym (byte_1 w) ∙ same 1 (omega arith) ∙ byte_1 q in
    let e2 = sym (byte_2 w) ∙ same 2 (omega arith) ∙ byte_2 q in
    let e3 = sym (byte_3 w) ∙ same 3 (omega arith) ∙ byte_3 q in
    let e4 = sym (byte_4 w) ∙ same 4 (omega arith) ∙ byte_4 q in
    let e5 = sym (byte_5 w) ∙ same 5 (omega arith) ∙ byte_5 q in
    let e6 = sym (byte_6 w) ∙ same 6 (omega arith) ∙ byte_6 q in
    let e7 = sym (byte_7 q) ∙ none 7 (omega arith) (omega arith) in
    omega (arith, fits, e0, e1, e2, e3, e4, e5, e6, e7)
masked_mod w q (suc (suc (suc (suc (suc (suc (suc (suc zero)))))))) few fits same none =
    let e0 = sym (byte_0 w) ∙ same 0 (omega arith) ∙ byte_0 q in
    let e1 = sym (byte_1 w) ∙ same 1 (omega arith) ∙ byte_1 q in
    let e2 = sym (byte_2 w) ∙ same 2 (omega arith) ∙ byte_2 q in
    let e3 = sym (byte_3 w) ∙ same 3 (omega arith) ∙ byte_3 q in
    let e4 = sym (byte_4 w) ∙ same 4 (omega arith) ∙ byte_4 q in
    let e5 = sym (byte_5 w) ∙ same 5 (omega arith) ∙ byte_5 q in
    let e6 = sym (byte_6 w) ∙ same 6 (omega arith) ∙ byte_6 q in
    let e7 = sym (byte_7 w) ∙ same 7 (omega arith) ∙ byte_7 q in
    omega (arith, fits, e0, e1, e2, e3, e4, e5, e6, e7)
masked_mod w q (suc (suc (suc (suc (suc (suc (suc (suc (suc r))))))))) few fits same none = absurd (omega (arith, few))

pub masked_is : (w q r : ℕ) → r ≤ 8 → q < 2 ^ 64 → ((b : ℕ) → b < r → byte_of w b ≡ byte_of q b) → ((b : ℕ) → r ≤ b → b < 8 → byte_of q b ≡ 0) → bit_and w (2 ^ (8 * r) - 1) ≡ q
masked_is w q r few fits same none = and_mask w (8 * r) ∙ masked_mod w q r few fits same none

-- and back: where that is so, the first r bytes are the same
mod_byte : (w q r b : ℕ) → r ≤ 8 → b < r → w % 2 ^ (8 * r) ≡ q → byte_of w b ≡ byte_of q b
mod_byte w q zero b few in_r is = absurd (omega (arith, in_r))
mod_byte w q (suc zero) zero few in_r is = byte_0 w ∙ (let e : w / 1 % 256 ≡ q / 1 % 256 = omega (arith, is) in e) ∙ sym (byte_0 q)
mod_byte w q (suc zero) (suc b) few in_r is = absurd (omega (arith, in_r))
mod_byte w q (suc (suc zero)) zero few in_r is = byte_0 w ∙ (let e : w / 1 % 256 ≡ q / 1 % 256 = omega (arith, is) in e) ∙ sym (byte_0 q)
mod_byte w q (suc (suc zero)) (suc zero) few in_r is = byte_1 w ∙ (let e : w / 256 % 256 ≡ q / 256 % 256 = omega (arith, is) in e) ∙ sym (byte_1 q)
mod_byte w q (suc (suc zero)) (suc (suc b)) few in_r is = absurd (omega (arith, in_r))
mod_byte w q (suc (suc (suc zero))) zero few in_r is = byte_0 w ∙ (let e : w / 1 % 256 ≡ q / 1 % 256 = omega (arith, is) in e) ∙ sym (byte_0 q)
mod_byte w q (suc (suc (suc zero))) (suc zero) few in_r is = byte_1 w ∙ (let e : w / 256 % 256 ≡ q / 256 % 256 = omega (arith, is) in e) ∙ sym (byte_1 q)
mod_byte w q (suc (suc (suc zero))) (suc (suc zero)) few in_r is = byte_2 w ∙ (let e : w / 65536 % 256 ≡ q / 65536 % 256 = omega (arith, is) in e) ∙ sym (byte_2 q)
mod_byte w q (suc (suc (suc zero))) (suc (suc (suc b))) few in_r is = absurd (omega (arith, in_r))
mod_byte w q (suc (suc (suc (suc zero)))) zero few in_r is = byte_0 w ∙ (let e : w / 1 % 256 ≡ q / 1 % 256 = omega (arith, is) in e) ∙ sym (byte_0 q)
mod_byte w q (suc (suc (suc (suc zero)))) (suc zero) few in_r is = byte_1 w ∙ (let e : w / 256 % 256 ≡ q / 256 % 256 = omega (arith, is) in e) ∙ sym (byte_1 q)
mod_byte w q (suc (suc (suc (suc zero)))) (suc (suc zero)) few in_r is = byte_2 w ∙ (let e : w / 65536 % 256 ≡ q / 65536 % 256 = omega (arith, is) in e) ∙ sym (byte_2 q)
mod_byte w q (suc (suc (suc (suc zero)))) (suc (suc (suc zero))) few in_r is = byte_3 w ∙ (let e : w / 16777216 % 256 ≡ q / 16777216 % 256 = omega (arith, is) in e) ∙ sym (byte_3 q)
mod_byte w q (suc (suc (suc (suc zero)))) (suc (suc (suc (suc b)))) few in_r is = absurd (omega (arith, in_r))
mod_byte w q (suc (suc (suc (suc (suc zero))))) zero few in_r is = byte_0 w ∙ (let e : w / 1 % 256 ≡ q / 1 % 256 = omega (arith, is) in e) ∙ sym (byte_0 q)
mod_byte w q (suc (suc (suc (suc (suc zero))))) (suc zero) few in_r is = byte_1 w ∙ (let e : w / 256 % 256 ≡ q / 256 % 256 = omega (arith, is) in e) ∙ sym (byte_1 q)
mod_byte w q (suc (suc (suc (suc (suc zero))))) (suc (suc zero)) few in_r is = byte_2 w ∙ (let e : w / 65536 % 256 ≡ q / 65536 % 256 = omega (arith, is) in e) ∙ sym (byte_2 q)
mod_byte w q (suc (suc (suc (suc (suc zero))))) (suc (suc (suc zero))) few in_r is = byte_3 w ∙ (let e : w / 16777216 % 256 ≡ q / 16777216 % 256 = omega (arith, is) in e) ∙ sym (byte_3 q)
mod_byte w q (suc (suc (suc (suc (suc zero))))) (suc (suc (suc (suc zero)))) few in_r is = byte_4 w ∙ (let e : w / 4294967296 % 256 ≡ q / 4294967296 % 256 = omega (arith, is) in e) ∙ sym (byte_4 q)
mod_byte w q (suc (suc (suc (suc (suc zero))))) (suc (suc (suc (suc (suc b))))) few in_r is = absurd (omega (arith, in_r))
mod_byte w q (suc (suc (suc (suc (suc (suc zero)))))) zero few in_r is = byte_0 w ∙ (let e : w / 1 % 256 ≡ q / 1 % 256 = omega (arith, is) in e) ∙ sym (byte_0 q)
mod_byte w q (suc (suc (suc (suc (suc (suc zero)))))) (suc zero) few in_r is = byte_1 w ∙ (let e : w / 256 % 256 ≡ q / 256 % 256 = omega (arith, is) in e) ∙ sym (byte_1 q)
mod_byte w q (suc (suc (suc (suc (suc (suc zero)))))) (suc (suc zero)) few in_r is = byte_2 w ∙ (let e : w / 65536 % 256 ≡ q / 65536 % 256 = omega (arith, is) in e) ∙ sym (byte_2 q)
mod_byte w q (suc (suc (suc (suc (suc (suc zero)))))) (suc (suc (suc zero))) few in_r is = byte_3 w ∙ (let e : w / 16777216 % 256 ≡ q / 16777216 % 256 = omega (arith, is) in e) ∙ sym (byte_3 q)
mod_byte w q (suc (suc (suc (suc (suc (suc zero)))))) (suc (suc (suc (suc zero)))) few in_r is = byte_4 w ∙ (let e : w / 4294967296 % 256 ≡ q / 4294967296 % 256 = omega (arith, is) in e) ∙ sym (byte_4 q)
mod_byte w q (suc (suc (suc (suc (suc (suc zero)))))) (suc (suc (suc (suc (suc zero))))) few in_r is = byte_5 w ∙ (let e : w / 1099511627776 % 256 ≡ q / 1099511627776 % 256 = omega (arith, is) in e) ∙ sym (byte_5 q)
mod_byte w q (suc (suc (suc (suc (suc (suc zero)))))) (suc (suc (suc (suc (suc (suc b)))))) few in_r is = absurd (omega (arith, in_r))
mod_byte w q (suc (suc (suc (suc (suc (suc (suc zero))))))) zero few in_r is = byte_0 w ∙ (let e : w / 1 % 256 ≡ q / 1 % 256 = omega (arith, is) in e) ∙ sym (byte_0 q)
mod_byte w q (suc (suc (suc (suc (suc (suc (suc zero))))))) (suc zero) few in_r is = byte_1 w ∙ (let e : w / 256 % 256 ≡ q / 256 % 256 = omega (arith, is) in e) ∙ sym (byte_1 q)
mod_byte w q (suc (suc (suc (suc (suc (suc (suc zero))))))) (suc (suc zero)) few in_r is = byte_2 w ∙ (let e : w / 65536 % 256 ≡ q / 65536 % 256 = omega (arith, is) in e) ∙ sym (byte_2 q)
mod_byte w q (suc (suc (suc (suc (suc (suc (suc zero))))))) (suc (suc (suc zero))) few in_r is = byte_3 w ∙ (let e : w / 16777216 % 256 ≡ q / 16777216 % 256 = omega (arith, is) in e) ∙ sym (byte_3 q)
mod_byte w q (suc (suc (suc (suc (suc (suc (suc zero))))))) (suc (suc (suc (suc zero)))) few in_r is = byte_4 w ∙ (let e : w / 4294967296 % 256 ≡ q / 4294967296 % 256 = omega (arith, is) in e) ∙ sym (byte_4 q)
mod_byte w q (suc (suc (suc (suc (suc (suc (suc zero))))))) (suc (suc (suc (suc (suc zero))))) few in_r is = byte_5 w ∙ (let e : w / 1099511627776 % 256 ≡ q / 1099511627776 % 256 = omega (arith, is) in e) ∙ sym (byte_5 q)
mod_byte w q (suc (suc (suc (suc (suc (suc (suc zero))))))) (suc (suc (suc (suc (suc (suc zero)))))) few in_r is = byte_6 w ∙ (let e : w / 281474976710656 % 256 ≡ q / 281474976710656 % 256 = omega (arith, is) in e) ∙ sym (byte_6 q)
mod_byte w q (suc (suc (suc (suc (suc (suc (suc zero))))))) (suc (suc (suc (suc (suc (suc (suc b))))))) few in_r is = absurd (omega (arith, in_r))
mod_byte w q (suc (suc (suc (suc (suc (suc (suc (suc zero)))))))) zero few in_r is = byte_0 w ∙ (let e : w / 1 % 256 ≡ q / 1 % 256 = omega (arith, is) in e) ∙ sym (byte_0 q)
mod_byte w q (suc (suc (suc (suc (suc (suc (suc (suc zero)))))))) (suc zero) few in_r is = byte_1 w ∙ (let e : w / 256 % 256 ≡ q / 256 % 256 = omega (arith, is) in e) ∙ sym (byte_1 q)
mod_byte w q (suc (suc (suc (suc (suc (suc (suc (suc zero)))))))) (suc (suc zero)) few in_r is = byte_2 w ∙ (let e : w / 65536 % 256 ≡ q / 65536 % 256 = omega (arith, is) in e) ∙ sym (byte_2 q)
mod_byte w q (suc (suc (suc (suc (suc (suc (suc (suc zero)))))))) (suc (suc (suc zero))) few in_r is = byte_3 w ∙ (let e : w / 16777216 % 256 ≡ q / 16777216 % 256 = omega (arith, is) in e) ∙ sym (byte_3 q)
mod_byte w q (suc (suc (suc (suc (suc (suc (suc (suc zero)))))))) (suc (suc (suc (suc zero)))) few in_r is = byte_4 w ∙ (let e : w / 4294967296 % 256 ≡ q / 4294967296 % 256 = omega (arith, is) in e) ∙ sym (byte_4 q)
mod_byte w q (suc (suc (suc (suc (suc (suc (suc (suc zero)))))))) (suc (suc (suc (suc (suc zero))))) few in_r is = byte_5 w ∙ (let e : w / 1099511627776 % 256 ≡ q / 1099511627776 % 256 = omega (arith, is) in e) ∙ sym (byte_5 q)
mod_byte w q (suc (suc (suc (suc (suc (suc (suc (suc zero)))))))) (suc (suc (suc (suc (suc (suc zero)))))) few in_r is = byte_6 w ∙ (let e : w / 281474976710656 % 256 ≡ q / 281474976710656 % 256 = omega (arith, is) in e) ∙ sym (byte_6 q)
mod_byte w q (suc (suc (suc (suc (suc (suc (suc (suc zero)))))))) (suc (suc (suc (suc (suc (suc (suc zero))))))) few in_r is = byte_7 w ∙ (let e : w / 72057594037927936 % 256 ≡ q / 72057594037927936 % 256 = omega (arith, is) in e) ∙ sym (byte_7 q)
mod_byte w q (suc (suc (suc (suc (suc (suc (suc (suc zero)))))))) (suc (suc (suc (suc (suc (suc (suc (suc b)))))))) few in_r is = absurd (omega (arith, in_r))
mod_byte w q (suc (suc (suc (suc (suc (suc (suc (suc (suc r))))))))) b few in_r is = absurd (omega (arith, few))

pub masked_byte : (w q r b : ℕ) → r ≤ 8 → b < r → bit_and w (2 ^ (8 * r) - 1) ≡ q → byte_of w b ≡ byte_of q b
masked_byte w q r b few in_r is = mod_byte w q r b few in_r (sym (and_mask w (8 * r)) ∙ is)
