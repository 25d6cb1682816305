-- What no two entries share: looked for entry by entry, among those before it.
use Rattle.std.proofs.Common.{◌≡◌, ◌≢◌, ℕ, zero, suc, ◌+◌, ◌*◌, ◌/◌, ◌%◌, ◌^◌, ◌<◌, ◌≤◌, ◌==◌, ◌⊎◌, inl, inr, if◌then◌else◌, Bool, true, false, List, length, slice_index, slice_set, replicate, bit_and, refl, arith, ap, sym, subst, ◌∙◌, get_or-set_same, get_or-set_other}
use Rattle.std.specs.Prelude.{◌↔◌, IsTrue}
use Rattle.std.specs.Int.{bit_at, w64}
use Rattle.std.specs.Int.RustNames.{bit_or}
use Rattle.std.proofs.lemmas.Bool.{cases_Bool, cases_eq, cases_order, eq-eqb, eqb-true, ne_eqb}
use Rattle.std.proofs.lemmas.List.{length-replicate}
use Rattle.std.proofs.lemmas.Nat.Bits.{bit_at-zero, bit_at_set_other, bit_at_set_same, shr_and_one}
use Rattle.rio_base.specs.Rules.{true_false}
use Rattle.rio_model.specs.Cover.{holds}
use Rattle.rio_model.specs.CoverLookups.{holds_valid}
use Rattle.rio_model.proofs.CoverLookups.{holds_is}
use Rattle.rio_model.specs.Registry.{BlockRule, IsValid, ShadowsApart, frames_of, is_valid, shadow_at, tag_at, tag_block}
use Rattle.registry.specs.EntryRules.{IsFreeBefore, IsUnusedBefore, MarksBefore, block_mark}
use Rattle.registry.proofs.Views.{held_not}

-- of the first n entries, each valid one has a block that none before it has
pub record BlocksApart (words : List ℕ) (n : ℕ) : Type 0 where
  pub each : (k : ℕ) → k < n → IsValid words k → IsFreeBefore words k (tag_block (tag_at words k))

-- of the first n entries, each valid one has no shadow, or one that none before it has
pub record ShadowsDiffer (words : List ℕ) (n : ℕ) : Type 0 where
  pub each : (k : ℕ) → k < n → IsValid words k → shadow_at words k ≢ 0 → IsUnusedBefore words k (shadow_at words k)

-- two of a kind are one, where none has another of its kind before it
one_of_two : (j k : ℕ) → (j ≡ k) ⊎ ((j < k) ⊎ (k < j)) → (j < k → ⊥) → (k < j → ⊥) → j ≡ k
one_of_two j k (inl e) below above = e
one_of_two j k (inr (inl less)) below above = absurd (below less)
one_of_two j k (inr (inr more)) below above = absurd (above more)

pub free_before : (words : List ℕ) (k : ℕ) → IsValid words k → BlockRule words → IsFreeBefore words k (tag_block (tag_at words k))
free_before words k valid rule = record { each = λ j before has same. let one : j ≡ k = rule j k has valid same in omega (arith, before, one) }

pub all_blocks : (words : List ℕ) → BlocksApart words (frames_of words) → BlockRule words
all_blocks words apart j k first second same = one_of_two j k (cases_order j k)
    (λ less. (apart.each k second.within second).each j less first same)
    (λ more. (apart.each j first.within first).each k more second (sym same))

-- one entry more
pub apart_next : (words : List ℕ) (n : ℕ) → BlocksApart words n → (IsValid words n → IsFreeBefore words n (tag_block (tag_at words n))) → BlocksApart words (n + 1)
apart_next words n h here = record { each = λ k less v. from k less v (cases_eq k n) }
  where
    from : (k : ℕ) → k < n + 1 → IsValid words k → (k ≡ n) ⊎ (k ≢ n) → IsFreeBefore words k (tag_block (tag_at words k))
    from k less v (inl e) = subst (λ j. IsFreeBefore words j (tag_block (tag_at words j))) (sym e) (here (subst (IsValid words) e v))
    from k less v (inr ne) = h.each k (omega (arith, less, ne)) v

pub unused_before : (words : List ℕ) (k : ℕ) → IsValid words k → shadow_at words k ≢ 0 → ShadowsApart words → IsUnusedBefore words k (shadow_at words k)
unused_before words k valid some rule = record { each = λ j before has same. let one : j ≡ k = rule j k has valid same (λ none. some (sym same ∙ none)) in omega (arith, before, one) }

pub all_shadows : (words : List ℕ) → ShadowsDiffer words (frames_of words) → ShadowsApart words
all_shadows words differ j k first second same some = one_of_two j k (cases_order j k)
    (λ less. (differ.each k second.within second (λ none. some (same ∙ none))).each j less first same)
    (λ more. (differ.each j first.within first some).each k more second (sym same))

-- ---- marks

mark_zero : (marks : List ℕ) (b : ℕ) → slice_index marks (b / 64) ≡ 0 → block_mark marks b ≡ 0
unfolding block_mark
mark_zero marks b e = ap (λ w. bit_at w (b % 64)) e ∙ bit_at-zero (b % 64)

-- words of zeros mark no block, and none is before the first
pub none_marked : (words : List ℕ) (n : ℕ) → MarksBefore words 0 (64 * n) (replicate n 0)
none_marked words n = record {
  room = omega (arith, length-replicate {A = ℕ} n 0);
  marked = λ b less e. absurd (omega (arith, e, zeros_mark n b));
  unmarked = λ b less ne. record { each = λ j before. absurd (omega (arith, before)) };
}
  where
    zero_at : (m k : ℕ) → slice_index (replicate m 0) k ≡ 0
    zero_at zero k = refl
    zero_at (suc m) zero = refl
    zero_at (suc m) (suc k) = zero_at m k

    zeros_mark : (m b : ℕ) → block_mark (replicate m 0) b ≡ 0
    zeros_mark m b = mark_zero (replicate m 0) b (zero_at m (b / 64))

-- the bit as it is looked at
pub marked_is : (marks : List ℕ) (b : ℕ) → (bit_and (slice_index marks (b / 64) / 2 ^ (b % 64)) 1 == 1) ≡ (block_mark marks b == 1)
unfolding block_mark
marked_is marks b = ap (λ n. n == 1) (shr_and_one (slice_index marks (b / 64)) (b % 64))

-- one block more is marked
pub marked_one : (marks : List ℕ) (b x word : ℕ) → x < 64 * length marks → word ≡ slice_index marks (x / 64) → block_mark (slice_set marks (x / 64) (bit_or word (1 * 2 ^ (x % 64) % 2 ^ 64))) b ≡ (if b == x then 1 else block_mark marks b)
unfolding block_mark
marked_one marks b x word within is = from (cases_eq b x) (cases_eq (b / 64) (x / 64))
  where
    now : ℕ
    now = bit_or word (1 * 2 ^ (x % 64) % 2 ^ 64)

    here : b / 64 ≡ x / 64 → bit_at (slice_index (slice_set marks (x / 64) now) (b / 64)) (b % 64) ≡ bit_at now (b % 64)
    here e = ap (λ k. bit_at (slice_index (slice_set marks (x / 64) now) k) (b % 64)) e ∙ ap (λ w. bit_at w (b % 64)) (get_or-set_same marks (x / 64) now 0 (omega (arith, within)))

    from : (b ≡ x) ⊎ (b ≢ x) → (b / 64 ≡ x / 64) ⊎ (b / 64 ≢ x / 64) → bit_at (slice_index (slice_set marks (x / 64) now) (b / 64)) (b % 64) ≡ (if b == x then 1 else bit_at (slice_index marks (b / 64)) (b % 64))
    from (inl e) _ = here (ap (λ n. n / 64) e) ∙ ap (λ n. bit_at now (n % 64)) e ∙ bit_at_set_same w64 word (x % 64) (omega arith) ∙ sym (ap (λ (t : Bool). if t then 1 else bit_at (slice_index marks (b / 64)) (b % 64)) (eq-eqb b x e))
    from (inr n) (inr far) = ap (λ w. bit_at w (b % 64)) (get_or-set_other marks (x / 64) (b / 64) now 0 far) ∙ sym (ap (λ (t : Bool). if t then 1 else bit_at (slice_index marks (b / 64)) (b % 64)) (ne_eqb b x n))
    from (inr n) (inl near) = here near ∙ bit_at_set_other w64 word (x % 64) (omega arith) (b % 64) (λ e. n (omega (arith, e, near))) ∙ ap (λ w. bit_at w (b % 64)) (is ∙ ap (λ k. slice_index marks k) (sym near)) ∙ sym (ap (λ (t : Bool). if t then 1 else bit_at (slice_index marks (b / 64)) (b % 64)) (ne_eqb b x n))

-- an entry more is looked at: of the blocks below `most` its own is marked
pub marks_next : (words : List ℕ) (n most : ℕ) (old new : List ℕ) → n < frames_of words → MarksBefore words n most old → most ≤ 64 * length new → ((b : ℕ) → b < most → block_mark new b ≡ (if holds words b n then 1 else block_mark old b)) → MarksBefore words (n + 1) most new
marks_next words n most old new within h room marks = record {
  room = room;
  marked = λ b less e free. taken b less e free (cases_Bool (holds words b n));
  unmarked = λ b less e. untaken b less e (cases_Bool (holds words b n));
}
  where
    mark_is : (b : ℕ) (t : Bool) → b < most → holds words b n ≡ t → block_mark new b ≡ (if t then 1 else block_mark old b)
    mark_is b t less e = marks b less ∙ ap (λ (v : Bool). if v then 1 else block_mark old b) e

    taken : (b : ℕ) → b < most → block_mark new b ≡ 1 → IsFreeBefore words (n + 1) b → (holds words b n ≡ true) ⊎ (holds words b n ≡ false) → ⊥
    taken b less e free (inl hit) = let v = holds_valid words b n within hit in free.each n (omega arith) v.0 v.1
    taken b less e free (inr miss) = h.marked b less (sym (mark_is b false less miss) ∙ e) (record { each = λ j before. free.each j (omega (arith, before)) })

    free_on : (b j : ℕ) → IsFreeBefore words n b → holds words b n ≡ false → j < n + 1 → IsValid words j → tag_block (tag_at words j) ≡ b → (j ≡ n) ⊎ (j ≢ n) → ⊥
    free_on b j free miss before v same (inl e) = true_false (sym (holds_is words b j v same) ∙ ap (holds words b) e ∙ miss)
    free_on b j free miss before v same (inr ne) = free.each j (omega (arith, before, ne)) v same

    untaken : (b : ℕ) → b < most → block_mark new b ≢ 1 → (holds words b n ≡ true) ⊎ (holds words b n ≡ false) → IsFreeBefore words (n + 1) b
    untaken b less e (inl hit) = absurd (e (mark_is b true less hit))
    untaken b less e (inr miss) = record { each = λ j before v same. free_on b j (h.unmarked b less (λ one. e (mark_is b false less miss ∙ one))) miss before v same (cases_eq j n) }

-- an entry that isn't valid, or whose block has no mark
pub marks_skip : (words : List ℕ) (n most : ℕ) (marks : List ℕ) → n < frames_of words → MarksBefore words n most marks → ((b : ℕ) → b < most → (is_valid (tag_at words n) ≡ false) ⊎ (tag_block (tag_at words n) ≢ b)) → MarksBefore words (n + 1) most marks
marks_skip words n most marks within h none = marks_next words n most marks marks within h h.room (λ b less. sym (ap (λ (v : Bool). if v then 1 else block_mark marks b) (held_not words b n (none b less))))

-- a valid entry whose block is marked now
pub marks_take : (words : List ℕ) (n most x : ℕ) (old new : List ℕ) → n < frames_of words → MarksBefore words n most old → length new ≡ length old → is_valid (tag_at words n) ≡ true → x ≡ tag_block (tag_at words n) → ((b : ℕ) → block_mark new b ≡ (if b == x then 1 else block_mark old b)) → MarksBefore words (n + 1) most new
marks_take words n most x old new within h size valid block marks = marks_next words n most old new within h (omega (arith, h.room, size)) (λ b less. marks b ∙ by b (cases_eq b x))
  where
    by : (b : ℕ) → (b ≡ x) ⊎ (b ≢ x) → (if b == x then 1 else block_mark old b) ≡ (if holds words b n then 1 else block_mark old b)
    by b (inl e) = ap (λ (t : Bool). if t then 1 else block_mark old b) (eq-eqb b x e) ∙ sym (ap (λ (t : Bool). if t then 1 else block_mark old b) (holds_is words b n (record { within = within; valid = valid }) (sym block ∙ sym e)))
    by b (inr ne) = ap (λ (t : Bool). if t then 1 else block_mark old b) (ne_eqb b x ne) ∙ sym (ap (λ (t : Bool). if t then 1 else block_mark old b) (held_not words b n (inr (λ e. ne (sym e ∙ sym block)))))

-- ---- whether an entry takes a block

pub takes_none : (words : List ℕ) (k : ℕ) (P : Type 0) → is_valid (tag_at words k) ≡ false → IsTrue true ↔ (IsValid words k → P)
takes_none words k P invalid = (λ t v. absurd (true_false (sym v.valid ∙ invalid)), λ f. refl)

pub takes_as : (words : List ℕ) (k x : ℕ) (r : Bool) → k < frames_of words → is_valid (tag_at words k) ≡ true → x ≡ tag_block (tag_at words k) → (IsTrue r ↔ IsFreeBefore words k x) → IsTrue r ↔ (IsValid words k → IsFreeBefore words k (tag_block (tag_at words k)))
takes_as words k x r within valid block h = (
  λ t v. subst (IsFreeBefore words k) block (h.0 t),
  λ f. h.1 (subst (IsFreeBefore words k) (sym block) (f (record { within = within; valid = valid }))),
)

pub marked_taken : (words : List ℕ) (k most x : ℕ) (marks : List ℕ) → MarksBefore words k most marks → x < most → true ≡ (block_mark marks x == 1) → IsTrue false ↔ IsFreeBefore words k x
marked_taken words k most x marks h less is = (λ t. absurd (true_false (sym t)), λ free. absurd (h.marked x less (eqb-true _ _ (sym is)) free))

pub unmarked_free : (words : List ℕ) (k most x : ℕ) (marks : List ℕ) → MarksBefore words k most marks → x < most → false ≡ (block_mark marks x == 1) → IsTrue true ↔ IsFreeBefore words k x
unmarked_free words k most x marks h less is = (λ t. h.unmarked x less (λ e. true_false (sym (eq-eqb (block_mark marks x) 1 e) ∙ sym is)), λ free. refl)
