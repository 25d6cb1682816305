-- A directory has fewer rows than the volume has inodes: they name inodes that differ from each other, and from the root.
use Rattle.request_ends.proofs.Common.{◌≡◌, ◌≢◌, ℕ, ◌+◌, ◌-◌, ◌*◌, ◌/◌, ◌%◌, ◌<◌, ◌≤◌, ◌==◌, false, true, List, length, map, get_or, sym, ap, ◌∙◌, arith, list_any, range_with_len, get, Decides-eqb, length-map-range_with_len, get_or-map-range_with_len, State, Held, entry_ino, entry_name, HasEntry, is_dir, Reads, reads_dir, NamesApartRule, TreeRule, differs}
use Rattle.std.proofs.Common.{Some, None}
use Rattle.std.proofs.lemmas.List.Folds.{Any-from_list_any}
use Rattle.std.proofs.lemmas.Map.Keys.{IsDistinct-from_apart}
use Rattle.std.proofs.lemmas.Map.Steps.{length-le_from_distinct_below}
use Rattle.file_tree.proofs.TreeRules.{RowsFit, dir_used}

-- all nodes have inodes of the volume
abbrev pub InShape : State → Type 0
InShape s = (i : ℕ) → get s.nodes i ≢ None → (1 ≤ i) × (i ≤ s.shape.inodes)

-- ---- what entries name

-- entries of a directory that name one inode are one
pub same_entry : (h : ℕ → Held) (s : State) (d j k : ℕ) → Reads h s → NamesApartRule h → TreeRule s → HasEntry h d j → HasEntry h d k → entry_ino (h d) j ≡ entry_ino (h d) k → j ≡ k
same_entry h s d j k reads apart tree hj hk same =
    let names = tree.one d d (entry_name (h d) j) (entry_name (h d) k) (entry_ino (h d) k) (reads.entries d j hj ∙ ap Some same) (reads.entries d k hk) in
    apart.each d j k hj hk names.1

-- an inode of the volume past the root's
pub record IsNamed (s : State) (ino : ℕ) : Type 0 where
  pub from : 2 ≤ ino
  pub to : ino ≤ s.shape.inodes

pub names_inode : (h : ℕ → Held) (s : State) (d j : ℕ) → Reads h s → TreeRule s → InShape s → RowsFit s → HasEntry h d j → IsNamed s (entry_ino (h d) j)
names_inode h s d j reads tree within fit has =
    let row = reads.entries d j has in
    let is = within (entry_ino (h d) j) (fit.used d (entry_name (h d) j) (entry_ino (h d) j) row) in
    record { from = above (entry_ino (h d) j) is.0 (λ one. tree.root d (entry_name (h d) j) (row ∙ ap Some one)); to = is.1 }
  where
    above : (i : ℕ) → 1 ≤ i → i ≢ 1 → 2 ≤ i
    above i low other = omega (arith, low, other)

-- ---- the inodes that the first entries name, counted from the one after the root

abbrev inodes_named : Held → ℕ → List ℕ
inodes_named h n = map (λ j. entry_ino h j - 2) (range_with_len 0 n)

named_at : (h : Held) (n j k : ℕ) → j < n → get_or (inodes_named h n) j k ≡ entry_ino h j - 2
named_at h n j k less = get_or-map-range_with_len (λ x. entry_ino h x - 2) 0 n j j k less (omega arith)

many_named : (h : Held) (n : ℕ) → length (inodes_named h n) ≡ n
many_named h n = length-map-range_with_len (λ j. entry_ino h j - 2) 0 n

-- they differ
named_apart : (h : ℕ → Held) (s : State) (d n : ℕ) → Reads h s → NamesApartRule h → TreeRule s → ((j : ℕ) → j < n → HasEntry h d j) → ((j : ℕ) → j < n → IsNamed s (entry_ino (h d) j)) → (j k x : ℕ) → j < k → k < length (inodes_named (h d) n) → (get_or (inodes_named (h d) n) j x == get_or (inodes_named (h d) n) k x) ≡ false
named_apart h s d n reads apart tree has named j k x less inside =
    let last : k < n = omega (arith, inside, many_named (h d) n) in
    let first : j < n = omega (arith, less, last) in
    differs _ _ (λ same.
    let e = sym (named_at (h d) n j x first) ∙ same ∙ named_at (h d) n k x last in
    let equal = same_entry h s d j k reads apart tree (has j first) (has k last) (past_root (entry_ino (h d) j) (entry_ino (h d) k) (named j first).from (named k last).from e) in
    omega (arith, equal, less))
  where
    past_root : (a b : ℕ) → 2 ≤ a → 2 ≤ b → a - 2 ≡ b - 2 → a ≡ b
    past_root a b x y e = omega (arith, x, y, e)

-- and are less than the number of inodes past the root's
named_below : (h : Held) (s : State) (n : ℕ) → ((j : ℕ) → j < n → IsNamed s (entry_ino h j)) → (q : ℕ) → list_any (◌==◌ q) (inodes_named h n) ≡ true → q < s.shape.inodes - 1
named_below h s n named q member =
    let at = Any-from_list_any (◌==◌ q) (inodes_named h n) member in
    let within : at.0 < n = (let long = at.2 in omega (arith, long, many_named h n)) in
    let is = (Decides-eqb q at.1).0 at.4 ∙ sym at.3 ∙ named_at h n at.0 at.1 within in
    bound (entry_ino h at.0) s.shape.inodes is (named at.0 within).from (named at.0 within).to
  where
    bound : (ino most : ℕ) → q ≡ ino - 2 → 2 ≤ ino → ino ≤ most → q < most - 1
    bound ino most is low high = omega (arith, is, low, high)

-- ---- how many rows

-- a directory has room for one row more than it has, as far as inodes go
pub rows_fewer : (h : ℕ → Held) (s : State) (d : ℕ) → Reads h s → NamesApartRule h → TreeRule s → InShape s → RowsFit s → (h d).kind ≡ 1 → (h d).size % 64 ≡ 0 → (h d).size + 64 ≤ 64 * s.shape.inodes
rows_fewer h s d reads apart tree within fit dir whole =
    let few = length-le_from_distinct_below (inodes_named (h d) n) (s.shape.inodes - 1) (IsDistinct-from_apart _ (inodes_named (h d) n) (named_apart h s d n reads apart tree has named)) (named_below (h d) s n named) in
    let self = within d (dir_used _ (ap is_dir (reads.nodes d ∙ reads_dir (h d) dir))) in
    let low = self.0 in
    let high = self.1 in
    omega (arith, few, many_named (h d) n, size, low, high)
  where
    n : ℕ
    n = (h d).size / 64

    size : 64 * n ≡ (h d).size
    size = omega (arith, whole)

    has : (j : ℕ) → j < n → HasEntry h d j
    has j less = record { dir = dir; within = omega (arith, less, size) }

    named : (j : ℕ) → j < n → IsNamed s (entry_ino (h d) j)
    named j less = names_inode h s d j reads tree within fit (has j less)
