-- Words of protected pages and of scratch, and blocks that are written.
use Rattle.std.proofs.Common.{◌≡◌, ◌≢◌, ◌⊎◌, inl, inr, ℕ, ◌+◌, ◌-◌, ◌*◌, ◌<◌, ◌≤◌, ◌%◌, List, length, [], take, drop, slice_set, refl, le_refl, sym, ◌∙◌, ap, subst, arith, get_or-set_same, length-drop}
use Rattle.std.proofs.lemmas.Bool.{cases_order}
use Rattle.std.proofs.lemmas.List.{drop-set-add, drop-set-lt, drop-take, length-set, length-take, take-set-le, take-take}
use Rattle.std.proofs.Math.Seq.{take-set-lt}
use Rattle.rio_base.specs.Disks.{DiskContents, FaultCount, block_at, with_written}
use Rattle.rio_base.specs.Machine.{Contents, Lasts, after_wild}
use Rattle.rio_base.proofs.MachineRules.{lasts_refl}
use Rattle.rio_base.specs.declared.wild.Wild.TheVariants.{Changed}
use Rattle.rio_base.specs.Memory.{AreApart, page_at}
use Rattle.board.specs.declared.guard.Guard.{Guard}
use Rattle.board.specs.Boards.{contents_of, protected_count, protected_of, running_of, scratch_of}
use Rattle.board.specs.BoardLaws.{count_all, count_protected}
use Rattle.board.specs.Guards.{page_of}

-- ---- a word changes

-- a word behind the first n of a list
pub drop_set : (words : List ℕ) (n at v : ℕ) → n ≤ at → drop n (slice_set words at v) ≡ slice_set (drop n words) (at - n) v
drop_set words n at v h = let e : at ≡ n + (at - n) = omega (arith, h) in subst (λ (k : ℕ). drop n (slice_set words k v) ≡ slice_set (drop n words) (at - n) v) (sym e) (drop-set-add n words (at - n) v)

pub protected_changed : (words : List ℕ) (pages at v : ℕ) → at < protected_count words pages → protected_of (slice_set words at v) pages ≡ slice_set (protected_of words pages) at v
protected_changed words pages at v h = rw (length-set words at v) (take-set-lt (protected_count words pages) words at v h)

pub protected_same : (words : List ℕ) (pages at v : ℕ) → protected_count words pages ≤ at → protected_of (slice_set words at v) pages ≡ protected_of words pages
protected_same words pages at v h = rw (length-set words at v) (take-set-le (protected_count words pages) words at v h)

-- a store to a protected word doesn't change how the board runs
pub running_same : (words : List ℕ) (pages at v : ℕ) (g : Guard) → at < protected_count words pages → running_of (slice_set words at v) pages g ≡ running_of words pages g
running_same words pages at v g h = rw (length-set words at v) (ap (λ ws. record (running_of words pages g) { scratch = ws }) (drop-set-lt (protected_count words pages) words at v h))

-- a store to a protected word, after a step has begun
pub stored_contents : (words now : List ℕ) (pages then : ℕ) (disk : DiskContents) (old new : Guard) (at v : ℕ) → at < protected_count now then → protected_of now then ≡ protected_of words pages → page_of new ≡ page_of old → contents_of (slice_set now at v) then disk new ≡ record (contents_of words pages disk old) { words = slice_set (protected_of words pages) at v }
stored_contents words now pages then disk old new at v within h k =
    ap (λ ws. record (contents_of now then disk new) { words = ws }) (protected_changed now then at v within ∙ ap (λ ws. slice_set ws at v) h)
    ∙ ap (λ o. record (contents_of words pages disk old) { words = slice_set (protected_of words pages) at v; open_page = o }) k

pub lasts_stored : (old new : Contents) (at v : ℕ) → new ≡ record old { words = slice_set old.words at v } → Lasts old new
lasts_stored old new at v e = rw e (record { size = length-set old.words at v; blocks = refl; around = refl; faults = (lasts_refl old).faults; writes = le_refl old.writes })

-- a wild store to a word of scratch
pub wild_changed : (words : List ℕ) (pages at v : ℕ) (g : Guard) → protected_count words pages ≤ at → running_of (slice_set words at v) pages g ≡ after_wild Changed at v (running_of words pages g)
wild_changed words pages at v g h = rw (length-set words at v) (ap (λ ws. record (running_of words pages g) { scratch = ws }) (drop_set words (protected_count words pages) at v h))

-- ---- pages

pub page_length : (words : List ℕ) (p : ℕ) → 512 * p + 512 ≤ length words → length (page_at words p) ≡ 512
page_length words p h = omega (arith, h, length-take 512 (drop (512 * p) words), length-drop (512 * p) words)

pub page_protected : (words : List ℕ) (n p : ℕ) → 512 * p + 512 ≤ n → page_at (take n words) p ≡ page_at words p
page_protected words n p h =
    let e : n ≡ 512 * p + (n - 512 * p) = omega (arith, h) in
    let k : 512 ≤ n - 512 * p = omega (arith, h) in
    subst (λ (m : ℕ). take 512 (drop (512 * p) (take m words)) ≡ take 512 (drop (512 * p) words)) (sym e) (rw (drop-take (512 * p) (n - 512 * p) words, take-take 512 (n - 512 * p) (drop (512 * p) words) k) refl)

-- a page that was lent is a page of the protected words
pub page_lent : (words now : List ℕ) (pages then p : ℕ) (block : List ℕ) → protected_of now then ≡ protected_of words pages → length (protected_of words pages) % 512 ≡ 0 → 512 * p < length (protected_of words pages) → block ≡ page_at now p → block ≡ page_at (protected_of words pages) p
page_lent words now pages then p block same whole h e = subst (λ (ws : List ℕ). block ≡ page_at ws p) same (e ∙ sym (page_protected now (protected_count now then) p within))
  where
    within : 512 * p + 512 ≤ protected_count now then
    within = omega (arith, whole, h, ap (λ (ws : List ℕ). length ws) same, count_protected now then)

pub page_in_memory : (words : List ℕ) (pages p : ℕ) → length words % 512 ≡ 0 → 512 * p < length (protected_of words pages) + length (scratch_of words pages) → 512 * p + 512 ≤ length words
page_in_memory words pages p whole h = omega (arith, whole, h, count_all words pages)

-- words of two pages, from the same place on
pub pages_apart : (from to k n : ℕ) → from ≢ to → k + n ≤ 512 → AreApart (512 * from + k) (512 * to + k) n
pages_apart from to k n two small = by (cases_order from to)
  where
    by : (from ≡ to) ⊎ ((from < to) ⊎ (to < from)) → AreApart (512 * from + k) (512 * to + k) n
    by (inl e) = absurd (two e)
    by (inr (inl less)) = inl (omega (arith, less, small))
    by (inr (inr more)) = inr (omega (arith, more, small))

-- ---- a block is written

pub written_block : (old new : DiskContents) (b : ℕ) (block : List ℕ) (faults : FaultCount) → b < length old.blocks → new ≡ with_written old b block faults → block_at new.blocks b ≡ block
written_block old new b block faults h e = rw e (get_or-set_same old.blocks b block [] h)
