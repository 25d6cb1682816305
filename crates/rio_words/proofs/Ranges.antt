-- Numbers that options have, and their ranges.
use Rattle.std.proofs.Common.{◌≡◌, ◌≢◌, ◌∙◌, ◌≤◌, ◌+◌, ◌/◌, ◌%◌, ℕ, refl, sym, ap, subst, arith, codes, Option, None, Some, inl}
use Rattle.rio_base.proofs.DecimalDigits.{one_number}
use Rattle.rio_base.specs.Bytes.{IsNumber}
use Rattle.rio_words.specs.Tokens.{Text}
use Rattle.rio_words.specs.Words.{HasDrill, HasNumber, HasSizes, MayHaveNumber, most_boots}

-- an option has one number
pub same_number : (found : Text → Option Text) (key : Text) (m n : ℕ) → HasNumber found key m → HasNumber found key n → m ≡ n
same_number found key m n h k =
    let same : h.text ≡ k.text = cc (sym h.given ∙ k.given) in
    one_number k.text m n (subst (λ (t : Text). IsNumber t m) same h.number) k.number

-- and so an option that may be missing has one number or none
pub same_stop : (found : Text → Option Text) (key : Text) (a b : Option ℕ) → MayHaveNumber found key a → MayHaveNumber found key b → a ≡ b
same_stop found key None None h k = refl
same_stop found key None (Some n) h k = absurd (cc (sym h ∙ k.given))
same_stop found key (Some m) None h k = absurd (cc (sym k ∙ h.given))
same_stop found key (Some m) (Some n) h k = ap (λ i. Some i) (same_number found key m n h k)

-- numbers that are in range are the sizes
pub sizes_found : (found : Text → Option Text) (frames blocks inodes scratch : ℕ) → HasNumber found (codes "frames") frames × (32 ≤ frames) × (frames ≤ 8192)
    → HasNumber found (codes "scratch") scratch × (1 ≤ scratch) × (scratch ≤ 64) → HasNumber found (codes "inodes") inodes × (32 ≤ inodes) × (inodes ≤ 32768) → inodes % 32 ≡ 0
    → HasNumber found (codes "blocks") blocks × (3 + inodes / 32 ≤ blocks) × (blocks ≤ 32768) → HasSizes found frames blocks inodes scratch
sizes_found found frames blocks inodes scratch f s i by b = record {
  frames_are = f.0;
  blocks_are = b.0;
  inodes_are = i.0;
  scratch_is = s.0;
  of_image = record { least_frames = f.1; most_frames = f.2; least_scratch = s.1; most_scratch = s.2 };
  of_volume = record {
    version = refl;
    sizes = record {
      version = inl refl;
      inodes_from = i.1;
      inodes_to = i.2;
      inode_blocks = by;
      blocks_from = b.1;
      blocks_second = λ two. absurd (omega (arith, two));
      blocks_to = b.2;
    };
  };
}

pub other_inodes : (found : Text → Option Text) (n frames blocks inodes scratch : ℕ) → HasNumber found (codes "inodes") n → n % 32 ≢ 0 → HasSizes found frames blocks inodes scratch → ⊥
other_inodes found n frames blocks inodes scratch has other sizes =
    let same = same_number found (codes "inodes") n inodes has sizes.inodes_are in
    other (ap (λ k. k % 32) same ∙ sizes.of_volume.sizes.inode_blocks)

pub other_blocks : (found : Text → Option Text) (n frames blocks inodes scratch : ℕ) → HasNumber found (codes "inodes") n
    → ((b : ℕ) → HasNumber found (codes "blocks") b → 3 + n / 32 ≤ b → b ≤ 32768 → ⊥) → HasSizes found frames blocks inodes scratch → ⊥
other_blocks found n frames blocks inodes scratch has none sizes =
    let same = same_number found (codes "inodes") n inodes has sizes.inodes_are in
    none blocks sizes.blocks_are (subst (λ k. 3 + k / 32 ≤ blocks) (sym same) sizes.of_volume.sizes.blocks_from) sizes.of_volume.sizes.blocks_to

pub drill_found : (found : Text → Option Text) (seed boots requests : ℕ) → HasNumber found (codes "seed") seed × (0 ≤ seed) × (seed ≤ 2147483647)
    → HasNumber found (codes "boots") boots × (1 ≤ boots) × (boots ≤ most_boots) → HasNumber found (codes "requests") requests × (1 ≤ requests) × (requests ≤ 100000) → HasDrill found seed boots requests
drill_found found seed boots requests s b r = record {
  seed_is = s.0;
  boots_are = b.0;
  requests_are = r.0;
  most_seed = s.2;
  some_boots = b.1;
  few_boots = b.2;
  some_requests = r.1;
  few_requests = r.2;
}
