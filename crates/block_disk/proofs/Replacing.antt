-- Pending blocks that are replaced one after the other.
use Rattle.std.proofs.Common.{◌≡◌, ◌≢◌, ◌<◌, ◌+◌, ℕ, Bool, true, false, List, [], length, set, slice_index, if◌then◌else◌, ◌⊎◌, ap, sym, ◌∙◌, subst, refl, arith, inl, inr, ⊎_elim, get_or-set_same, get_or-set_other}
use Rattle.std.proofs.lemmas.Bool.{cases_Bool, cases_eq}
use Rattle.std.proofs.lemmas.List.{length-set, ext_get_or}
use Rattle.rio_base.specs.Disks.{block_at, is_pending}
use Rattle.rio_base.specs.Rules.{true_false}
use Rattle.block_disk.proofs.Marks.{found, listed}
use Rattle.block_disk.specs.BlockLists.{AreWhole, AreSettled, Lists, Replaced}

-- the first n of the listed blocks are done
pub record ReplacedFirst (n : ℕ) (numbers : List ℕ) (words : ℕ → List ℕ) (old new : List (List ℕ)) : Type 0 where
  pub count : length new ≡ length old
  pub done : (i : ℕ) → i < n → block_at new (slice_index numbers i) ≡ words (slice_index numbers i)
  pub rest : (b : ℕ) → ((i : ℕ) → i < n → slice_index numbers i ≢ b) → block_at new b ≡ block_at old b

marked_words : (mark : Bool) (words old : List ℕ) → mark ≡ true → (if mark then words else old) ≡ words
marked_words true words old e = refl
marked_words false words old e = cc

unmarked_words : (mark : Bool) (words old : List ℕ) → mark ≡ false → (if mark then words else old) ≡ old
unmarked_words true words old e = cc
unmarked_words false words old e = refl

pub first_put : (n k : ℕ) (numbers : List ℕ) (words : ℕ → List ℕ) (old now new : List (List ℕ)) → ReplacedFirst n numbers words old now → k ≡ slice_index numbers n → k < length old → new ≡ set now k (words k) → ReplacedFirst (n + 1) numbers words old new
first_put n k numbers words old now new s is h e = record {
  count = ap length e ∙ length-set now k (words k) ∙ s.count;
  done = λ i less. ap (λ (bs : List (List ℕ)). block_at bs (slice_index numbers i)) e ∙ done i less (cases_eq (slice_index numbers i) k);
  rest = λ b none. ap (λ (bs : List (List ℕ)). block_at bs b) e ∙ (get_or-set_other now k b (words k) [] (λ q. none n (omega arith) (sym is ∙ sym q)) ∙ s.rest b (λ i less. none i (omega (arith, less))));
}
  where
    done : (i : ℕ) → i < n + 1 → (slice_index numbers i ≡ k) ⊎ (slice_index numbers i ≢ k) → block_at (set now k (words k)) (slice_index numbers i) ≡ words (slice_index numbers i)
    done i less (inl same) = subst (λ (b : ℕ). block_at (set now k (words k)) b ≡ words b) (sym same) (get_or-set_same now k (words k) [] (omega (arith, h, s.count)))
    done i less (inr differs) = let ne : i ≢ n = λ q. differs (ap (slice_index numbers) q ∙ sym is) in get_or-set_other now k (slice_index numbers i) (words k) [] differs ∙ s.done i (omega (arith, less, ne))

-- once all listed blocks are, each pending block is
pub first_all : (numbers : List ℕ) (pending : List Bool) (words : ℕ → List ℕ) (old new : List (List ℕ)) → Lists numbers pending → ReplacedFirst (length numbers) numbers words old new → Replaced pending words old new
first_all numbers pending words old new l s = record { count = s.count; blocks = λ b h. at b (cases_Bool (is_pending pending b)) }
  where
    at : (b : ℕ) → (is_pending pending b ≡ true) ⊎ (is_pending pending b ≡ false) → block_at new b ≡ (if is_pending pending b then words b else block_at old b)
    at b (inl e) = let f = found numbers pending l b e in subst (λ (k : ℕ). block_at new k ≡ words k) f.2 (s.done f.0 f.1) ∙ sym (marked_words (is_pending pending b) (words b) (block_at old b) e)
    at b (inr e) = s.rest b (λ i less q. true_false (sym (listed numbers pending l i less) ∙ ap (is_pending pending) q ∙ e)) ∙ sym (unmarked_words (is_pending pending b) (words b) (block_at old b) e)

settled_block : (mark : Bool) (read synced : List ℕ) → (mark ≡ false → synced ≡ read) → (if mark then read else synced) ≡ read
settled_block true read synced h = refl
settled_block false read synced h = h refl

-- once each pending block is synced as it reads, each block is
pub synced_all : (pending : List Bool) (blocks synced new : List (List ℕ)) → Replaced pending (block_at blocks) synced new → length synced ≡ length blocks → AreSettled pending blocks synced → new ≡ blocks
synced_all pending blocks synced new s count settled =
    ext_get_or [] new blocks (s.count ∙ count)
    (λ b h. let within : b < length synced = omega (arith, h, s.count) in
    s.blocks b within ∙ settled_block (is_pending pending b) (block_at blocks b) (block_at synced b) (settled b (omega (arith, within, count))))

restored_block : (mark : Bool) (read synced : List ℕ) → (mark ≡ false → synced ≡ read) → (if mark then synced else read) ≡ synced
restored_block true read synced h = refl
restored_block false read synced h = sym (h refl)

-- once each pending block reads as it was synced, each block does
pub restored_all : (pending : List Bool) (blocks synced new : List (List ℕ)) → Replaced pending (block_at synced) blocks new → length synced ≡ length blocks → AreSettled pending blocks synced → new ≡ synced
restored_all pending blocks synced new s count settled =
    ext_get_or [] new synced (s.count ∙ sym count) (λ b h. let within : b < length blocks = omega (arith, h, s.count) in s.blocks b within ∙ restored_block (is_pending pending b) (block_at blocks b) (block_at synced b) (settled b within))

-- ---- one block is written

pub set_whole : (blocks : List (List ℕ)) (n : ℕ) (words : List ℕ) → AreWhole blocks → length words ≡ 512 → AreWhole (set blocks n words)
set_whole blocks n words whole size b h =
    let within : b < length blocks = omega (arith, h, length-set blocks n words) in
    ⊎_elim (λ (is : b ≡ n). ap length (subst (λ (k : ℕ). block_at (set blocks n words) k ≡ words) (sym is) (get_or-set_same blocks n words [] (omega (arith, within, is)))) ∙ size)
    (λ (differs : b ≢ n). ap length (get_or-set_other blocks n b words [] differs) ∙ whole b within)
    (cases_eq b n)

pub settled_set : (pending : List Bool) (blocks synced : List (List ℕ)) (n : ℕ) (words : List ℕ) → length pending ≡ length blocks → AreSettled pending blocks synced → AreSettled (set pending n true) (set blocks n words) synced
settled_set pending blocks synced n words marks settled b h clear =
    let within : b < length blocks = omega (arith, h, length-set blocks n words) in
    ⊎_elim (λ (is : b ≡ n). absurd (true_false (sym (subst (λ (k : ℕ). is_pending (set pending n true) k ≡ true) (sym is) (get_or-set_same pending n true false (omega (arith, within, is, marks)))) ∙ clear)))
    (λ (differs : b ≢ n). settled b within (sym (get_or-set_other pending n b true false differs) ∙ clear) ∙ sym (get_or-set_other blocks n b words [] differs))
    (cases_eq b n)
