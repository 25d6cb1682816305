-- Names found among the entries of a page, and among those of a directory.
use Rattle.directories.proofs.Common.{◌≡◌, ◌≢◌, ℕ, ◌+◌, ◌-◌, ◌*◌, ◌/◌, ◌%◌, ◌^◌, ◌<◌, ◌≤◌, min, List, length, sym, ap, subst, ◌∙◌, arith, slice_index, inl, inr, IfOk, Option, None, Some, Result, cases_lt, Ino, BlockWords, Held, entry_name, held, AtPage, Placed}
use Rattle.std.specs.Prelude.{Ok, Err}
use Rattle.rio_base.specs.Blocks.{IsRun}
use Rattle.rio_model.proofs.WordRules.{held_word}
use Rattle.directories.specs.Reading.{FindsIn, FindsInPage}
use Rattle.directories.specs.Entries.{name_in}
use Rattle.directories.proofs.NameWords.{name_moved}
use Rattle.directories.proofs.CanRead.{sized}

-- entries of other words that are the same
pub finds_moved : (u v : ℕ → ℕ) (count : ℕ) (name : List ℕ) (found : Option (Ino × ℕ)) → length name ≤ 56 → ((k t : ℕ) → k < count → t < 8 → u (8 * k + t) ≡ v (8 * k + t)) → FindsIn u count name found → FindsIn v count name found
finds_moved u v count name None few same none = λ k low is. none k low (name_moved v u k k name few (λ t small. sym (same k t low small)) is)
finds_moved u v count name (Some found) few same h = (h.0, name_moved u v found.1 found.1 name few (λ t small. same found.1 t h.0 small) h.1, ap (λ w. w % 2 ^ 32) (sym (first found.1 h.0)) ∙ h.2)
  where
    first : (k : ℕ) → k < count → u (8 * k) ≡ v (8 * k)
    first k low = (let at : 8 * k ≡ 8 * k + 0 = omega arith in ap u at) ∙ same k 0 low (omega arith) ∙ (let at : 8 * k + 0 ≡ 8 * k = omega arith in ap v at)

-- those of a block that was read
pub finds_read : (f g : BlockWords) (b count : ℕ) (words name : List ℕ) (found : Option (Ino × ℕ)) → f ≡ g → count ≤ 64 → length name ≤ 56 → IsRun f b 0 512 words → FindsIn (slice_index words) count name found → FindsIn (g b) count name found
finds_read f g b count words name found same few short run = finds_moved (slice_index words) (g b) count name found short (λ k t low small. run.each (8 * k + t) (omega (arith, low, small, few)) ∙ (let at : 0 + (8 * k + t) ≡ 8 * k + t = omega arith in ap (f b) at) ∙ ap (λ (h : BlockWords). h b (8 * k + t)) same)

-- none of the entries up to one has the name, and none of those behind it
pub none_then : (word : ℕ → ℕ) (name : List ℕ) (from k to : ℕ) → ((j : ℕ) → from ≤ j → j < k → name_in word j ≢ name) → ((j : ℕ) → k ≤ j → j < to → name_in word j ≢ name) → (j : ℕ) → from ≤ j → j < to → name_in word j ≢ name
none_then word name from k to before behind j low high = elim (cases_lt j k) [
  | inl below ↦ before j low below
  | inr past ↦ behind j past high
]

-- the same from the first on
pub none_behind : (word : ℕ → ℕ) (name : List ℕ) (k to : ℕ) → ((j : ℕ) → j < k → name_in word j ≢ name) → ((j : ℕ) → k ≤ j → j < to → name_in word j ≢ name) → (j : ℕ) → j < to → name_in word j ≢ name
none_behind word name k to before behind j high = none_then word name 0 k to (λ i low below. before i below) behind j (omega arith) high

-- ---- of a page of a directory

pub entry_word : (f : BlockWords) (n : Placed) (j p b t : ℕ) → 0 < n.kind → n.size % 64 ≡ 0 → 64 * j < n.size → j / 64 ≡ p → b ≡ n.block (AtPage p) → t < 8 → (held f n).word (8 * j + t) ≡ f b (8 * (j % 64) + t)
entry_word f n j p b t used whole within page at small =
    let at_page : (8 * j + t) / 512 ≡ p = omega (arith, small, page) in
    let at_word : (8 * j + t) % 512 ≡ 8 * (j % 64) + t = omega (arith, small) in
    held_word f n (8 * j + t) used (omega (arith, within, whole, small)) ∙ (λ q. f (n.block (AtPage (at_page q))) (at_word q)) ∙ ap (λ c. f c (8 * (j % 64) + t)) (sym at)

pub finds_page : (f : BlockWords) (n : Placed) (p b count : ℕ) (name : List ℕ) (found : Option (Ino × ℕ)) → 0 < n.kind → n.size % 64 ≡ 0 → 4096 * p < n.size → count ≡ min (n.size / 64 - 64 * p) 64 → length name ≤ 56 → b ≡ n.block (AtPage p) → FindsIn (f b) count name found → FindsInPage (held f n) p name found
finds_page f n p b count name None used whole some many few at none = λ j within page is.
    let below : 64 * j < n.size = subst (λ (s : ℕ). 64 * j < s) (sized f n used) within in
    none (j % 64) (omega (arith, below, page, many)) (name_moved (held f n).word (f b) j (j % 64) name few (λ t small. entry_word f n j p b t used whole below page at small) is)
finds_page f n p b count name (Some found) used whole some many few at h =
    let k = found.1 in
    let j = 64 * p + k in
    let low = h.0 in
    let place : j % 64 ≡ k = omega (arith, low, many) in
    let page : j / 64 ≡ p = omega (arith, low, many) in
    let within : 64 * j < n.size = omega (arith, low, many, whole) in
    let word : (t : ℕ) → t < 8 → (f b) (8 * k + t) ≡ (held f n).word (8 * j + t) = λ t small. ap (λ x. f b (8 * x + t)) (sym place) ∙ sym (entry_word f n j p b t used whole within page at small) in
    record {
      within = subst (λ (s : ℕ). 64 * j < s) (sym (sized f n used)) within;
      named = name_moved (f b) (held f n).word k j name few word h.1;
      ino = ap (λ w. w % 2 ^ 32) (first word) ∙ h.2;
    }
  where
    first : ((t : ℕ) → t < 8 → (f b) (8 * found.1 + t) ≡ (held f n).word (8 * (64 * p + found.1) + t)) → (held f n).word (8 * (64 * p + found.1)) ≡ f b (8 * found.1)
    first word = (let at : 8 * (64 * p + found.1) ≡ 8 * (64 * p + found.1) + 0 = omega arith in ap (held f n).word at) ∙ sym (word 0 (omega arith)) ∙ (let at : 8 * found.1 + 0 ≡ 8 * found.1 = omega arith in ap (f b) at)

-- ---- of a directory

-- what a page was read to have, of a directory that reads as it did
pub finds_held : {E : Type 0} (h k : Held) (p : ℕ) (name : List ℕ) (r : Result (Option (Ino × ℕ)) E) → h ≡ k → IfOk r (FindsInPage h p name) → IfOk r (FindsInPage k p name)
finds_held h k p name r same = subst (λ z. IfOk r (FindsInPage z p name)) same

pub finds_in_page : {E : Type 0} (f : BlockWords) (n : Placed) (p b count : ℕ) (name : List ℕ) (r : Result (Option (Ino × ℕ)) E) → 0 < n.kind → n.size % 64 ≡ 0 → 4096 * p < n.size → count ≡ min (n.size / 64 - 64 * p) 64 → length name ≤ 56 → b ≡ n.block (AtPage p) → IfOk r (FindsIn (f b) count name) → IfOk r (FindsInPage (held f n) p name)
finds_in_page f n p b count name (Ok found) used whole some many few at h = finds_page f n p b count name found used whole some many few at h
finds_in_page f n p b count name (Err e) used whole some many few at h = tt

-- no entry of one page more has the name
pub none_next : (h : Held) (p : ℕ) (name : List ℕ) → ((j : ℕ) → 64 * j < h.size → j / 64 < p → entry_name h j ≢ name) → FindsInPage h p name None → (j : ℕ) → 64 * j < h.size → j / 64 < p + 1 → entry_name h j ≢ name
none_next h p name before here j within low = elim (cases_lt (j / 64) p) [
  | inl below ↦ before j within below
  | inr past ↦ here j within (omega (arith, low, past))
]
