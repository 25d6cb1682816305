-- The words of an inode, and the numbers in them.
use Rattle.std.proofs.Common.{◌≡◌, ℕ, ◌+◌, ◌-◌, ◌*◌, ◌/◌, ◌%◌, ◌^◌, ◌<◌, ◌==◌, true, false, cond, List, length, length-set, slice_index, slice_set, refl, sym, ap, ◌∙◌, arith, inl, inr, get_or-set_same, get_or-set_other}
use Rattle.std.specs.Prelude.{nat_lt}
use Rattle.std.proofs.lemmas.Bool.{cases_eq}
use Rattle.std.proofs.lemmas.Bool.Decides.{nat_tests}
use Rattle.std.proofs.lemmas.List.FromFn.{fill_by_all}
use Rattle.rio_base.specs.Blocks.{BlockWords, IsRun}
use Rattle.rio_base.specs.Layout.{half, inode_block, inode_place}
use Rattle.inode_table.specs.declared.inode.Inode.{Inode}
use Rattle.inode_table.specs.Inodes.{IsInode, pair_word, word_of_inode, inode_words}

-- ---- halves of a word

pub even_half : (w p : ℕ) → p % 2 ≡ 0 → half w p ≡ w % 2 ^ 32
unfolding half
even_half w p e = let even : (p % 2 == 0) ≡ true = grind (arith, nat_tests, e) in ap (λ t. cond t (w % 2 ^ 32) (w / 2 ^ 32 % 2 ^ 32)) even

pub odd_half : (w p : ℕ) → p % 2 ≡ 1 → w < 2 ^ 64 → half w p ≡ w / 2 ^ 32
unfolding half
odd_half w p e fits = let odd : (p % 2 == 0) ≡ false = grind (arith, nat_tests, e) in ap (λ t. cond t (w % 2 ^ 32) (w / 2 ^ 32 % 2 ^ 32)) odd ∙ whole w fits
  where
    whole : (w : ℕ) → w < 2 ^ 64 → w / 2 ^ 32 % 2 ^ 32 ≡ w / 2 ^ 32
    whole w h = omega (arith, h)

-- the numbers of the first k words are read
pub record NumbersOf (words direct : List ℕ) (k : ℕ) : Type 0 where
  pub len : length direct ≡ 24
  pub each : (p : ℕ) → p < 2 * k → slice_index direct p ≡ half (slice_index words (2 + p / 2)) p

pub numbers_next : (words direct : List ℕ) (k low high : ℕ) → k < 12 → slice_index words (2 + k) < 2 ^ 64 → low ≡ slice_index words (2 + k) % 2 ^ 32 → high ≡ slice_index words (2 + k) / 2 ^ 32 → NumbersOf words direct k → NumbersOf words (slice_set (slice_set direct (2 * k) low) (2 * k + 1) high) (k + 1)
numbers_next words direct k low high few fits is_low is_high h = record {
  len = length-set (slice_set direct (2 * k) low) (2 * k + 1) high ∙ length-set direct (2 * k) low ∙ h.len;
  each = λ p within. elim (cases_eq p (2 * k + 1)) [
    | inl last ↦
        let at : 2 + p / 2 ≡ 2 + k = omega (arith, last) in
        ap (slice_index (slice_set (slice_set direct (2 * k) low) (2 * k + 1) high)) last
        ∙ get_or-set_same (slice_set direct (2 * k) low) (2 * k + 1) high 0 (let len = h.len in omega (arith, few, len, length-set direct (2 * k) low))
        ∙ is_high ∙ sym (ap (λ x. half (slice_index words x) p) at ∙ odd_half _ p (omega (arith, last)) fits)
    | inr other ↦ get_or-set_other (slice_set direct (2 * k) low) (2 * k + 1) p high 0 other ∙ elim (cases_eq p (2 * k)) [
      | inl first ↦
          let at : 2 + p / 2 ≡ 2 + k = omega (arith, first) in
          ap (slice_index (slice_set direct (2 * k) low)) first
          ∙ get_or-set_same direct (2 * k) low 0 (let len = h.len in omega (arith, few, len))
          ∙ is_low ∙ sym (ap (λ x. half (slice_index words x) p) at ∙ even_half _ p (omega (arith, first)))
      | inr away ↦ get_or-set_other direct (2 * k) p low 0 away ∙ h.each p (omega (arith, within, other, away))
    ]
  ];
}

-- ---- an inode by its words

pub says_inode : (words : List ℕ) (n : Inode) (f : BlockWords) (i : ℕ) → IsRun f (inode_block i) (inode_place i) 16 words → n.kind ≡ slice_index words 0 → n.size ≡ slice_index words 1 → ((p : ℕ) → p < 24 → slice_index n.direct p ≡ half (slice_index words (2 + p / 2)) p) → n.indirect ≡ slice_index words 14 % 2 ^ 32 → n.double ≡ slice_index words 15 % 2 ^ 32 → IsInode f i n
says_inode words n f i run kind size direct indirect double = record {
  kind = kind ∙ run.each 0 (omega arith);
  size = size ∙ run.each 1 (omega arith);
  direct = λ p few. direct p few ∙ ap (λ w. half w p) (run.each (2 + p / 2) (omega (arith, few)));
  indirect = indirect ∙ sym (even_half _ 0 refl) ∙ ap (λ w. half w 0) (run.each 14 (omega arith));
  double = double ∙ sym (even_half _ 0 refl) ∙ ap (λ w. half w 0) (run.each 15 (omega arith));
}

-- ---- the words of an inode

-- words 2 to 1 + k are those of its numbers, and the first two are kind and size
pub record FrontOf (n : Inode) (words : List ℕ) (k : ℕ) : Type 0 where
  pub len : length words ≡ 16
  pub kind : slice_index words 0 ≡ n.kind
  pub size : slice_index words 1 ≡ n.size
  pub pairs : (j : ℕ) → j < k → slice_index words (2 + j) ≡ pair_word (slice_index n.direct (2 * j)) (slice_index n.direct (2 * j + 1))

pub front_next : (n : Inode) (words : List ℕ) (k v : ℕ) → k < 12 → v ≡ pair_word (slice_index n.direct (2 * k)) (slice_index n.direct (2 * k + 1)) → FrontOf n words k → FrontOf n (slice_set words (2 + k) v) (k + 1)
front_next n words k v few is h = record {
  len = length-set words (2 + k) v ∙ h.len;
  kind = get_or-set_other words (2 + k) 0 v 0 (λ e. omega (arith, e)) ∙ h.kind;
  size = get_or-set_other words (2 + k) 1 v 0 (λ e. omega (arith, e)) ∙ h.size;
  pairs = λ j within. elim (cases_eq j k) [
    | inl last ↦ ap (λ x. slice_index (slice_set words (2 + k) v) (2 + x)) last ∙ get_or-set_same words (2 + k) v 0 (let len = h.len in omega (arith, few, len)) ∙ is ∙ sym (ap (λ x. pair_word (slice_index n.direct (2 * x)) (slice_index n.direct (2 * x + 1))) last)
    | inr away ↦ get_or-set_other words (2 + k) (2 + j) v 0 (λ e. omega (arith, e, away)) ∙ h.pairs j (omega (arith, within, away))
  ];
}

pub front_word : (n : Inode) (words : List ℕ) (w : ℕ) → w < 14 → FrontOf n words 12 → slice_index words w ≡ word_of_inode n w
front_word n words w few h = elim (cases_eq w 0) [
  | inl zero ↦ ap (slice_index words) zero ∙ h.kind ∙ sym (ap (word_of_inode n) zero)
  | inr some ↦ elim (cases_eq w 1) [
    | inl one ↦ ap (slice_index words) one ∙ h.size ∙ sym (ap (word_of_inode n) one)
    | inr more ↦
        let at : w ≡ 2 + (w - 2) = omega (arith, some, more) in
        let a : (w == 0) ≡ false = grind (arith, nat_tests, some) in
        let b : (w == 1) ≡ false = grind (arith, nat_tests, more) in
        let c : nat_lt w 14 ≡ true = grind (arith, nat_tests, few) in
        ap (slice_index words) at ∙ h.pairs (w - 2) (omega (arith, few, some, more))
        ∙ sym (ap (λ t. cond t n.kind (cond (w == 1) n.size (cond (nat_lt w 14) (pair_word (slice_index n.direct (2 * (w - 2))) (slice_index n.direct (2 * (w - 2) + 1))) (cond (w == 14) n.indirect n.double)))) a
        ∙ ap (λ t. cond t n.size (cond (nat_lt w 14) (pair_word (slice_index n.direct (2 * (w - 2))) (slice_index n.direct (2 * (w - 2) + 1))) (cond (w == 14) n.indirect n.double))) b
        ∙ ap (λ t. cond t (pair_word (slice_index n.direct (2 * (w - 2))) (slice_index n.direct (2 * (w - 2) + 1))) (cond (w == 14) n.indirect n.double)) c)
  ]
]

pub all_words : (n : Inode) (words : List ℕ) → FrontOf n words 12 → slice_set (slice_set words 14 n.indirect) 15 n.double ≡ inode_words n
unfolding inode_words
all_words n words h = fill_by_all (word_of_inode n) (slice_set (slice_set words 14 n.indirect) 15 n.double) 16 0 (length-set (slice_set words 14 n.indirect) 15 n.double ∙ length-set words 14 n.indirect ∙ h.len) (λ k few. elim (cases_eq k 15) [
  | inl last ↦ ap (slice_index (slice_set (slice_set words 14 n.indirect) 15 n.double)) last ∙ get_or-set_same (slice_set words 14 n.indirect) 15 n.double 0 (let len = h.len in omega (arith, len, length-set words 14 n.indirect)) ∙ sym (ap (word_of_inode n) last)
  | inr other ↦ get_or-set_other (slice_set words 14 n.indirect) 15 k n.double 0 other ∙ elim (cases_eq k 14) [
    | inl next ↦ ap (slice_index (slice_set words 14 n.indirect)) next ∙ get_or-set_same words 14 n.indirect 0 (let len = h.len in omega (arith, len)) ∙ sym (ap (word_of_inode n) next)
    | inr away ↦ get_or-set_other words 14 k n.indirect 0 away ∙ front_word n words k (omega (arith, few, other, away)) h
  ]
])
