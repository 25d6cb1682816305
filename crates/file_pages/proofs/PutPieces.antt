-- Bytes stored in a block by a run of words.
use Rattle.file_pages.proofs.Common.{◌≡◌, ℕ, ◌+◌, ◌-◌, ◌*◌, ◌/◌, ◌%◌, ◌<◌, ◌≤◌, ◌⊎◌, List, length, sym, ap, subst, ◌∙◌, arith, cases_lt, inl, inr, Result, Err, IsErrOf, BlockWords, VolFail, put_run}
use Rattle.rio_base.specs.Blocks.{FaultAt}
use Rattle.rio_base.specs.declared.failures.RunFail.{RunFail}
use Rattle.rio_base.specs.declared.failures.RunFail.TheVariants.{Fault as RunFault}
use Rattle.rio_base.specs.declared.failures.VolFail.TheVariants.{Fault as VolFault, Stopped as VolStopped}
use Rattle.rio_base.specs.Volume.{OldOrRun}
use Rattle.rio_model.specs.Held.{byte_of}
use Rattle.file_pages.specs.Failures.{bytes_handed}
use Rattle.file_pages.specs.declared.failures.BytesFail.{BytesFail}
use Rattle.file_pages.specs.declared.failures.BytesFail.TheVariants.{Fault as BytesFault}
use Rattle.file_pages.specs.PageBytes.{EndsHave, PutsBytes, block_byte, bytes_stored}
use Rattle.node_pages.specs.WordBytes.{list_byte, over}
use Rattle.node_pages.proofs.ByteRuns.{over_out}
use Rattle.file_pages.proofs.StoredRuns.{run_puts}

-- the words that bytes at a place make over those of a block
pub record Makes (f : BlockWords) (b at : ℕ) (bytes words : List ℕ) : Type 0 where
  pub many : length words ≡ (at + length bytes + 7) / 8 - at / 8
  pub each : (y : ℕ) → y < 8 * length words → list_byte words y ≡ over (λ x. block_byte f b (8 * (at / 8) + x)) (at % 8) bytes (length bytes) y

-- words made of the block's own first and last one
pub makes : (f : BlockWords) (b at : ℕ) (bytes words : List ℕ) (first last count : ℕ) → 0 < length bytes → length words ≡ count → count ≡ (at + length bytes + 7) / 8 - at / 8 → ((0 < at % 8) ⊎ (length bytes < 8) → first ≡ f b (at / 8)) → (0 < (at + length bytes) % 8 → last ≡ f b ((at + length bytes - 1) / 8)) → ((was : ℕ → ℕ) → EndsHave was (at % 8) (length bytes) count first last → (y : ℕ) → y < 8 * count → list_byte words y ≡ over was (at % 8) bytes (length bytes) y) → Makes f b at bytes words
makes f b at bytes words first last count some long many begins ends fills = record {
  many = long ∙ many;
  each = λ y low. fills (λ x. block_byte f b (8 * (at / 8) + x)) (record { first_word = begin; last_word = end }) y (omega (arith, long, low));
}
  where
    kept : (y : ℕ) → y < 8 → (y < at % 8) ⊎ (at % 8 + length bytes ≤ y) → (0 < at % 8) ⊎ (length bytes < 8)
    kept y few (inl below) = inl (omega (arith, below))
    kept y few (inr past) = inr (omega (arith, few, past))

    begin : (y : ℕ) → y < 8 → (y < at % 8) ⊎ (at % 8 + length bytes ≤ y) → byte_of first y ≡ block_byte f b (8 * (at / 8) + y)
    begin y few out = ap (λ w. byte_of w y) (begins (kept y few out)) ∙ (λ p. byte_of (f b (word p)) (rest p))
      where
        word : at / 8 ≡ (8 * (at / 8) + y) / 8
        word = omega (arith, few)

        rest : y ≡ (8 * (at / 8) + y) % 8
        rest = omega (arith, few)

    end : (y : ℕ) → y < 8 → at % 8 + length bytes ≤ 8 * (count - 1) + y → byte_of last y ≡ block_byte f b (8 * (at / 8) + (8 * (count - 1) + y))
    end y few past = ap (λ w. byte_of w y) (ends (omega (arith, few, past, many, some))) ∙ (λ p. byte_of (f b (word p)) (rest p))
      where
        word : (at + length bytes - 1) / 8 ≡ (8 * (at / 8) + (8 * (count - 1) + y)) / 8
        word = omega (arith, few, many, some)

        rest : y ≡ (8 * (at / 8) + (8 * (count - 1) + y)) % 8
        rest = omega (arith, few, many, some)

-- the first n of them stored
pub puts_run : (f g h : BlockWords) (b at n : ℕ) (bytes words : List ℕ) → 0 < length bytes → Makes f b at bytes words → h ≡ f → g ≡ put_run h b (at / 8) n words → n ≤ length words → PutsBytes f g b at bytes (bytes_stored at (length bytes) n)
puts_run f g h b at n bytes words some made same is few = run_puts f g b at n bytes words (is ∙ ap (λ e. put_run e b (at / 8) n words) same) few (omega (arith, made.many, some)) made.each

pub puts_all : (f g h : BlockWords) (b at n : ℕ) (bytes words : List ℕ) → 0 < length bytes → Makes f b at bytes words → h ≡ f → g ≡ put_run h b (at / 8) n words → n ≡ length words → PutsBytes f g b at bytes (length bytes)
puts_all f g h b at n bytes words some made same is all = subst (λ k. PutsBytes f g b at bytes k) (omega (arith, all, made.many, some)) (puts_run f g h b at n bytes words some made same is (omega (arith, all)))

-- a front of them
abbrev pub PutsFront : BlockWords → BlockWords → ℕ → ℕ → List ℕ → Type 0
PutsFront f g b at bytes = (k : ℕ) × (k ≤ length bytes) × PutsBytes f g b at bytes k

pub puts_front : (f g h : BlockWords) (b at n : ℕ) (bytes words : List ℕ) → 0 < length bytes → Makes f b at bytes words → h ≡ f → OldOrRun h g b (at / 8) words n → n ≡ length words → PutsFront f g b at bytes
puts_front f g h b at n bytes words some made same (m, few, is) all = (bytes_stored at (length bytes) m, omega arith, puts_run f g h b at m bytes words some made same is (omega (arith, few, all)))

-- none of them
pub puts_none : (f g : BlockWords) (b at : ℕ) (bytes : List ℕ) → g ≡ f → PutsBytes f g b at bytes 0
puts_none f g b at bytes same = record {
  others = record { others = λ c w away. ap (λ (h : BlockWords). h c w) same };
  each = λ y low. ap (λ (h : BlockWords). block_byte h b y) same ∙ sym (over_out (block_byte f b) at bytes 0 y (elim (cases_lt y at) [ inl under ↦ inl under | inr from ↦ inr (omega (arith, from)) ]));
}

none_told : {T : Type 0} (d : VolFail) (k : ℕ) → IsErrOf {T = T} (Err (bytes_handed d)) (BytesFault k) → 0 ≡ k
none_told VolFault k is = cc
none_told VolStopped k is = cc

-- a failure before any was stored
pub puts_before : {T : Type 0} (f g : BlockWords) (b at : ℕ) (bytes : List ℕ) (q : Result T BytesFail) (e : VolFail) (d : BytesFail) → q ≡ Err d → d ≡ bytes_handed e → g ≡ f → (k : ℕ) → IsErrOf q (BytesFault k) → (k ≤ length bytes) × PutsBytes f g b at bytes k
puts_before {T = T} f g b at bytes q e d qd de same k is =
    let none : 0 ≡ k = none_told {T = T} e k (subst (λ x. IsErrOf x (BytesFault k)) (qd ∙ ap Err de) is) in
    (omega (arith, none), subst (PutsBytes f g b at bytes) none (puts_none f g b at bytes same))

-- ---- where a fault tells how many

-- it tells fewer words than there are
pub told_few : (T : Type 0) (w n : ℕ) (P : ℕ → Type 0) (e : RunFail) → FaultAt {T = T} (Err e) (λ n. (n < w) × P n) → e ≡ RunFault n → n < w
told_few T w n P e fault is = (subst (λ x. FaultAt {T = T} (Err x) (λ n. (n < w) × P n)) is fault).0

told : {T : Type 0} (n k : ℕ) → IsErrOf {T = T} (Err (BytesFault n)) (BytesFault k) → n ≡ k
told n k is = cc

pub puts_told : {T : Type 0} (f g h : BlockWords) (b at n m : ℕ) (bytes words : List ℕ) (e : RunFail) → 0 < length bytes → Makes f b at bytes words → h ≡ f → FaultAt {T = T} (Err e) (λ n. (n < length words) × (g ≡ put_run h b (at / 8) n words)) → e ≡ RunFault n → m ≡ bytes_stored at (length bytes) n → (k : ℕ) → IsErrOf {T = T} (Err (BytesFault m)) (BytesFault k) → (k ≤ length bytes) × PutsBytes f g b at bytes k
puts_told {T = T} f g h b at n m bytes words e some made same fault is stored k tells =
    let at_n = subst (λ e. FaultAt {T = T} (Err e) (λ n. (n < length words) × (g ≡ put_run h b (at / 8) n words))) is fault in
    let all : bytes_stored at (length bytes) n ≡ k = sym stored ∙ told {T = T} m k tells in
    (omega (arith, all), subst (λ z. PutsBytes f g b at bytes z) all (puts_run f g h b at n bytes words some made same at_n.1 (omega (arith, at_n.0))))
