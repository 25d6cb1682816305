-- The words of a new region keep the format, and read as a region of zeros without a block.
use Rattle.request_ends.proofs.Common.{◌≡◌, ℕ, zero, suc, ◌+◌, ◌*◌, ◌/◌, ◌%◌, ◌≤◌, ◌==◌, cond, List, [], ◌∷◌, map, refl, sym, ap, subst, ◌∙◌, arith, Some, range_with_len, Region, IsSoundRegion, node_in, differs}
use Rattle.rio_requests.specs.Answers.{new_region}
use Rattle.std.specs.Int.{bit_at}
use Rattle.std.specs.Prelude.{replicate}
use Rattle.std.proofs.lemmas.Nat.Bits.{bit_at-zero}
use Rattle.rio_model.specs.declared.node.RegionNode.{RegionNode}
use Rattle.rio_model.specs.Heap.{OfBlocks, blocks_from, run_length, starts, used}
use Rattle.rio_model.specs.Undo.{IsRegion, Links, Within, before, before_by, data_from, live, places, records_from, region_magic, taken, undo_records, region_words}
use Rattle.node_making.specs.NewNodes.{new_held, new_word}

-- behind the header all is zero
pub new_zero : (undo pages y : ℕ) → 3 ≤ y → new_word undo pages y ≡ 0
new_zero undo pages y past =
    ap (λ b. cond b region_magic (cond (y == 1) undo (cond (y == 2) pages 0))) (differs y 0 (λ e. omega (arith, e, past)))
    ∙ ap (λ b. cond b undo (cond (y == 2) pages 0)) (differs y 1 (λ e. omega (arith, e, past)))
    ∙ ap (λ b. cond b pages 0) (differs y 2 (λ e. omega (arith, e, past)))

-- no record is there
no_head : (undo pages : ℕ) → undo_records (new_word undo pages) ≡ []
unfolding records_from
no_head undo pages = refl

new_before : (undo pages q : ℕ) → before (new_word undo pages) q ≡ 0
new_before undo pages q = ap (λ rs. before_by rs (live (new_word undo pages)) q) (no_head undo pages) ∙ new_zero undo pages (512 * (1 + undo) + q) (omega arith)

no_use : (l : ℕ → ℕ) (t : ℕ) → ((q : ℕ) → l q ≡ 0) → used l t ≡ 0
unfolding used
no_use l t none = ap (λ w. bit_at w (t % 64)) (none (2 * (t / 64))) ∙ bit_at-zero (t % 64)

no_start : (l : ℕ → ℕ) (t : ℕ) → ((q : ℕ) → l q ≡ 0) → starts l t ≡ 0
unfolding starts
no_start l t none = ap (λ w. bit_at w (t % 64)) (none (2 * (t / 64) + 1)) ∙ bit_at-zero (t % 64)

no_blocks : (l : ℕ → ℕ) (n t : ℕ) → ((q : ℕ) → l q ≡ 0) → blocks_from l t n ≡ []
no_blocks l zero t none = refl
no_blocks l (suc n) t none = ap (λ x. cond (x == 1) ((t, suc (run_length l (t + 1) n)) ∷ blocks_from l (t + 1) n) (blocks_from l (t + 1) n)) (no_start l t none) ∙ no_blocks l n (t + 1) none

all_zero : (f : ℕ → ℕ) (n a : ℕ) → ((q : ℕ) → f q ≡ 0) → map f (range_with_len a n) ≡ replicate n 0
all_zero f zero a none = refl
all_zero f (suc n) a none = ap (λ x. x ∷ map f (range_with_len (a + 1) n)) (none a) ∙ ap (λ xs. 0 ∷ xs) (all_zero f n (a + 1) none)

region_same : (words more : List ℕ) (undo : ℕ) (blocks : List (ℕ × ℕ)) → words ≡ more → blocks ≡ [] → ◌≡◌ {A = RegionNode} (record { words = words; undo = undo; blocks = blocks }) (record { words = more; undo = undo; blocks = [] })
region_same words more undo blocks w b = λ i. record { words = w i; undo = undo; blocks = b i }

-- ---- what is read of them

pub new_reads : (undo pages : ℕ) → node_in (new_held undo pages) ≡ Some (Region (new_region pages undo))
new_reads undo pages = ap (λ (r : RegionNode). Some (Region r)) (region_same _ _ undo _
    (all_zero (λ q. before (new_word undo pages) (data_from (new_word undo pages) + q)) (512 * pages) 0 (λ q. new_before undo pages (data_from (new_word undo pages) + q)))
    (no_blocks (before (new_word undo pages)) (64 * pages) 0 (new_before undo pages)))

-- ---- the format

new_format : (n undo pages : ℕ) → 1 ≤ undo → 1 ≤ pages → n ≡ region_words undo pages → IsRegion n (new_word undo pages)
new_format n undo pages some any size = record {
  magic = refl;
  undo = some;
  data_pages = any;
  size = size;
  links = subst (λ rs. Links (new_word undo pages) 0 rs) (sym (no_head undo pages)) refl;
  room = subst (λ rs. taken rs ≤ 512 * undo) (sym (no_head undo pages)) (omega arith);
  within = subst (λ rs. Within (places (new_word undo pages)) rs) (sym (no_head undo pages)) tt;
}

new_map : (l : ℕ → ℕ) (n : ℕ) → ((q : ℕ) → l q ≡ 0) → OfBlocks l n
new_map l n none = record {
  used_start = λ t few one. (let off = no_start l t none in absurd (omega (arith, off, one)));
  first = λ some one. (let off = no_use l 0 none in absurd (omega (arith, off, one)));
  after = λ t few off one. (let none_on = no_use l (suc t) none in absurd (omega (arith, none_on, one)));
  past = λ t from to. (no_use l t none, no_start l t none);
}

eighth : (n : ℕ) → 8 * n / 8 ≡ n
eighth n = omega arith

pub new_sound : (undo pages : ℕ) → 1 ≤ undo → 1 ≤ pages → IsSoundRegion ((new_held undo pages).size / 8) (new_held undo pages).word
new_sound undo pages some any = record {
  region = new_format _ undo pages some any (eighth (region_words undo pages));
  heap = new_map (before (new_word undo pages)) pages (new_before undo pages);
}
