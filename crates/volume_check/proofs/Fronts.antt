-- The first pages of a node, as its words.
use Rattle.volume_check.proofs.Common.{List, ap, arith, cond, subst, sym, true, nat_lt, nat_tests, ℕ, ◌%◌, ◌*◌, ◌/◌, ◌<◌, ◌∙◌, ◌≡◌, BlockWords, IsIno, AtPage, Placed, VolumeShape, placed_at, volume_layout}
use Rattle.std.specs.Prelude.{◌&&◌}
use Rattle.rio_model.specs.Held.{Held, held, held_ino, held_of, word_in}
use Rattle.volume_check.specs.NodeBlocks.{HasFront}
use Rattle.volume_check.proofs.Blocks.{HasBlocks}

word_held : (f : BlockWords) (n : Placed) (y : ℕ) → 0 < n.kind → 8 * y < n.size → word_in f n y ≡ f (n.block (AtPage (y / 512))) (y % 512)
word_held f n y used within =
    let t : nat_lt 0 n.kind ≡ true = grind (arith, nat_tests, used) in
    let u : nat_lt (8 * y) n.size ≡ true = grind (arith, nat_tests, within) in
    λ e. cond (t e && u e) (f (n.block (AtPage (y / 512))) (y % 512)) 0

size_held : (f : BlockWords) (n : Placed) → 0 < n.kind → (held f n).size ≡ n.size
size_held f n used = let t : nat_lt 0 n.kind ≡ true = grind (arith, nat_tests, used) in ap (λ b. cond b n.size 0) t

pub front_held : (shape : VolumeShape) (f : BlockWords) (i count : ℕ) (words : List ℕ) → IsIno shape i → 0 < (placed_at f i).kind → HasBlocks f (λ p. (placed_at f i).block (AtPage p)) count words → HasFront (held_of shape f i) count words
front_held shape f i count words ino used h = subst (λ (x : Held). HasFront x count words) (sym (held_ino (volume_layout shape f) f i ino)) (record {
  len = h.len;
  each = λ y less within. h.each y less ∙ sym (word_held f (placed_at f i) y used (let size = size_held f (placed_at f i) used in omega (arith, within, size)));
})
