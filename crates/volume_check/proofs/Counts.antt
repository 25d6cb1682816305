-- Nodes and blocks counted inode by inode.
use Rattle.volume_check.proofs.Common.{Bool, true, false, List, [], ap, arith, cond, length, map, refl, suc, sym, zero, nat_lt, ℕ, ◌+◌, ◌<◌, ◌==◌, ◌∙◌, ◌∷◌, ◌≡◌, ◌≤◌, None, Option, Some, length-append, range_with_len, BlockWords, IsIno, Seen, VolumeShape, placed_at, volume_layout}
use Rattle.std.proofs.lemmas.List.FromFn.{filter_of_map_range_with_len_more, sum_by-map-range_with_len_more}
use Rattle.std.proofs.lemmas.List.Sums.{sum-map}
use Rattle.std.specs.FinMap.{get}
use Rattle.std.specs.List.{filter, sum_by}
use Rattle.std.specs.Prelude.{sum}
use Rattle.rio_model.specs.declared.node.Node.{Node}
use Rattle.rio_model.specs.declared.node.Node.TheVariants.{Dir, File, Region}
use Rattle.rio_model.specs.declared.node.RegionNode.{RegionNode}
use Rattle.rio_model.specs.declared.state.State.{State}
use Rattle.rio_model.specs.Censuses.{is_file, is_region, node_count}
use Rattle.rio_model.specs.Held.{Held, held_ino, held_of}
use Rattle.rio_model.specs.Paths.{is_dir}
use Rattle.rio_model.specs.Sizes.{blocks_for, used_blocks}
use Rattle.rio_model.specs.VolumeReads.{ReadsAs, node_in}
use Rattle.rio_model.proofs.FreeByState.{used_by_state}
use Rattle.rio_model.proofs.PlacedRules.{placed_blocks}
use Rattle.rio_model.proofs.VolumeReadRules.{reads_dir, reads_file, reads_none, reads_region}
use Rattle.rio_model.proofs.WordRules.{same_map}
use Rattle.volume_check.specs.Inodes.{HasInodes, said, said_blocks}
use Rattle.volume_check.specs.declared.inodes.Inodes.{Inodes}

-- ---- one number more

map_self : (xs : List ℕ) → map (λ x. x) xs ≡ xs
map_self [] = refl
map_self (x ∷ xs) = ap (λ ys. x ∷ ys) (map_self xs)

length_cond : (b : Bool) (x : ℕ) → length (cond b (x ∷ []) []) ≡ cond b 1 0
length_cond true x = refl
length_cond false x = refl

-- how many of the numbers from 1 to n pass
abbrev pub counted : (ℕ → Bool) → ℕ → ℕ
counted p n = length (filter p (range_with_len 1 n))

pub count_next : (p : ℕ → Bool) (n : ℕ) → counted p (n + 1) ≡ counted p n + cond (p (n + 1)) 1 0
count_next p n =
    let at : 1 + n ≡ n + 1 = omega arith in
    sym (ap (λ xs. length (filter p xs)) (map_self (range_with_len 1 (n + 1))))
    ∙ ap length (filter_of_map_range_with_len_more p (λ x. x) 1 n (n + 1) at)
    ∙ length-append (filter p (map (λ x. x) (range_with_len 1 n))) (cond (p (n + 1)) ((n + 1) ∷ []) [])
    ∙ (let a = ap (λ xs. length (filter p xs)) (map_self (range_with_len 1 n)) in let b = length_cond (p (n + 1)) (n + 1) in λ t. a t + b t)

pub sum_next : (f : ℕ → ℕ) (n : ℕ) → sum (map f (range_with_len 1 (n + 1))) ≡ sum (map f (range_with_len 1 n)) + f (n + 1)
sum_next f n =
    let at : 1 + n ≡ n + 1 = omega arith in
    sum-map f (range_with_len 1 (n + 1))
    ∙ sym (ap (sum_by f) (map_self (range_with_len 1 (n + 1))))
    ∙ sum_by-map-range_with_len_more f (λ x. x) 1 n (n + 1) at
    ∙ ap (λ m. m + f (n + 1)) (ap (sum_by f) (map_self (range_with_len 1 n)) ∙ sym (sum-map f (range_with_len 1 n)))

pub filter_same : (p q : ℕ → Bool) (n a : ℕ) → ((i : ℕ) → a ≤ i → i < a + n → p i ≡ q i) → filter p (range_with_len a n) ≡ filter q (range_with_len a n)
filter_same p q zero a h = refl
filter_same p q (suc n) a h =
    ap (λ b. cond b (a ∷ filter p (range_with_len (a + 1) n)) (filter p (range_with_len (a + 1) n))) (h a (omega arith) (omega arith))
    ∙ ap (λ xs. cond (q a) (a ∷ xs) xs) (filter_same p q n (a + 1) (λ i low high. h i (omega (arith, low)) (omega (arith, high))))

-- ---- nodes of a kind

pub kind_said : (s : Seen) (n : Inodes) (i : ℕ) → HasInodes s n → IsIno n.shape i → said n i 0 ≡ (placed_at s.words i).kind
kind_said s n i h ino = h.each i 0 ino (omega arith)

pub size_said : (s : Seen) (n : Inodes) (i : ℕ) → HasInodes s n → IsIno n.shape i → said n i 1 ≡ (placed_at s.words i).size
size_said s n i h ino = h.each i 1 ino (omega arith)

pub kind_held : (shape : VolumeShape) (f : BlockWords) (i : ℕ) → IsIno shape i → (held_of shape f i).kind ≡ (placed_at f i).kind
kind_held shape f i ino = ap (λ (h : Held). h.kind) (held_ino (volume_layout shape f) f i ino)

kind_test : (test : Option Node → Bool) (k : ℕ) (h : Held) → h.kind ≤ 3 → test None ≡ (0 == k) → test (Some Dir) ≡ (1 == k) → ((bytes : List ℕ) → test (Some (File bytes)) ≡ (2 == k)) → ((r : RegionNode) → test (Some (Region r)) ≡ (3 == k)) → test (node_in h) ≡ (h.kind == k)
kind_test test k h most none dir file region = by h.kind refl most
  where
    by : (x : ℕ) → h.kind ≡ x → x ≤ 3 → test (node_in h) ≡ (h.kind == k)
    by zero e most = ap test (reads_none h e) ∙ none ∙ sym (ap (λ x. x == k) e)
    by (suc zero) e most = ap test (reads_dir h e) ∙ dir ∙ sym (ap (λ x. x == k) e)
    by (suc (suc zero)) e most = ap test (reads_file h e) ∙ file _ ∙ sym (ap (λ x. x == k) e)
    by (suc (suc (suc zero))) e most = ap test (reads_region h e) ∙ region _ ∙ sym (ap (λ x. x == k) e)
    by (suc (suc (suc (suc x)))) e most = absurd (omega (arith, most))

nodes_counted : (test : Option Node → Bool) (k : ℕ) (s : Seen) (n : Inodes) (t : State) → HasInodes s n → ReadsAs n.shape s.words t → ((h : Held) → h.kind ≤ 3 → test (node_in h) ≡ (h.kind == k)) → counted (λ i. said n i 0 == k) n.shape.inodes ≡ node_count test t
nodes_counted test k s n t h reads by_kind =
    ap length (filter_same (λ i. said n i 0 == k) (λ i. test (get t.nodes i)) n.shape.inodes 1 (λ i low high. point i (record { from = low; to = (omega (arith, high)) })))
    ∙ ap (λ (sh : VolumeShape). length (filter (λ i. test (get t.nodes i)) (range_with_len 1 sh.inodes))) (sym reads.sizes)
  where
    point : (i : ℕ) → IsIno n.shape i → (said n i 0 == k) ≡ test (get t.nodes i)
    point i ino =
        let same = kind_held n.shape s.words i ino in
        let few = (reads.mapped.laid.kinds.each i ino).0 in
        ap (λ x. x == k) (kind_said s n i h ino ∙ sym same) ∙ sym (ap test (reads.reads.nodes i) ∙ by_kind (held_of n.shape s.words i) (omega (arith, same, few)))

pub dirs_counted : (s : Seen) (n : Inodes) (t : State) → HasInodes s n → ReadsAs n.shape s.words t → counted (λ i. said n i 0 == 1) n.shape.inodes ≡ node_count is_dir t
dirs_counted s n t h reads = nodes_counted is_dir 1 s n t h reads (λ x most. kind_test is_dir 1 x most refl refl (λ b. refl) (λ r. refl))

pub files_counted : (s : Seen) (n : Inodes) (t : State) → HasInodes s n → ReadsAs n.shape s.words t → counted (λ i. said n i 0 == 2) n.shape.inodes ≡ node_count is_file t
files_counted s n t h reads = nodes_counted is_file 2 s n t h reads (λ x most. kind_test is_file 2 x most refl refl (λ b. refl) (λ r. refl))

pub regions_counted : (s : Seen) (n : Inodes) (t : State) → HasInodes s n → ReadsAs n.shape s.words t → counted (λ i. said n i 0 == 3) n.shape.inodes ≡ node_count is_region t
regions_counted s n t h reads = nodes_counted is_region 3 s n t h reads (λ x most. kind_test is_region 3 x most refl refl (λ b. refl) (λ r. refl))

-- ---- blocks

pub used_counted : (s : Seen) (n : Inodes) (t : State) → HasInodes s n → ReadsAs n.shape s.words t → sum (map (said_blocks n) (range_with_len 1 n.shape.inodes)) ≡ used_blocks t
used_counted s n t h reads =
    ap sum (same_map (said_blocks n) (λ i. placed_blocks (placed_at s.words i)) n.shape.inodes 1 (λ i low high. point i (record { from = low; to = (omega (arith, high)) })))
    ∙ sym (used_by_state n.shape s.words t reads)
  where
    point : (i : ℕ) → IsIno n.shape i → said_blocks n i ≡ placed_blocks (placed_at s.words i)
    point i ino = let kind = kind_said s n i h ino in let size = size_said s n i h ino in λ e. cond (nat_lt 0 (kind e)) (blocks_for (size e)) 0
