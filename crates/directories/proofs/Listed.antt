-- Names of entries, listed.
use Rattle.directories.proofs.Common.{◌≡◌, ℕ, zero, suc, ◌+◌, ◌-◌, ◌*◌, ◌/◌, ◌%◌, ◌^◌, ◌<◌, ◌≤◌, ◌++◌, min, List, [], ◌∷◌, length, drop, take, map, refl, sym, ap, subst, ◌∙◌, arith, slice_index, Result, range_with_len, VolumeShape, BlockWords, Seen, Held, entry_name, held, AtPage, Placed, placed_at}
use Rattle.std.proofs.Common.{length-drop}
use Rattle.std.specs.Prelude.{OnOk}
use Rattle.std.specs.Cmp.Lexicographic.{slice_cmp}
use Rattle.std.specs.List.Sorted.{IsPermutation, IsSorted}
use Rattle.std.specs.Ordering.{nat_cmp}
use Rattle.std.proofs.lemmas.List.FromFn.{map-range_with_len_more}
use Rattle.std.proofs.lemmas.List.{append_assoc, get_or-drop, get_or-take, length-take-le}
use Rattle.rio_base.specs.Blocks.{IsRun}
use Rattle.rio_model.specs.Held.{byte_in, byte_of}
use Rattle.rio_base.specs.Bytes.{bytes_of}
use Rattle.node_pages.proofs.ByteRuns.{line_run}
use Rattle.directories.specs.Entries.{name_in}
use Rattle.directories.specs.Reading.{CanReadDir}
use Rattle.directories.specs.Rows.{ListsNames}
use Rattle.directories.proofs.CanRead.{dir_held, sized}
use Rattle.directories.proofs.Found.{entry_word}
use Rattle.directories.proofs.NameWords.{name_length, name_moved, run_same}

-- one name more
pub name_next : (F : ℕ → List ℕ) (k : ℕ) (old xs ys : List (List ℕ)) (name : List ℕ) → xs ≡ old ++ map F (range_with_len 0 k) → ys ≡ xs ++ name ∷ [] → name ≡ F k → ys ≡ old ++ map F (range_with_len 0 (k + 1))
name_next F k old xs ys name so more is = more ∙ ap (λ zs. zs ++ name ∷ []) so ∙ append_assoc old (map F (range_with_len 0 k)) (name ∷ []) ∙ ap (λ n. old ++ (map F (range_with_len 0 k) ++ n ∷ [])) is ∙ ap (λ zs. old ++ zs) (sym (map-range_with_len_more F 0 k k (omega arith)))

-- names that are equal place by place
pub names_same : (F G : ℕ → List ℕ) (n a b : ℕ) → ((k : ℕ) → k < n → F (a + k) ≡ G (b + k)) → map F (range_with_len a n) ≡ map G (range_with_len b n)
names_same F G zero a b each = refl
names_same F G (suc n) a b each =
    let first : F a ≡ G b = (let za : a ≡ a + 0 = omega arith in ap F za) ∙ each 0 (omega arith) ∙ (let zb : b + 0 ≡ b = omega arith in ap G zb) in
    let rest : map F (range_with_len (a + 1) n) ≡ map G (range_with_len (b + 1) n) = names_same F G n (a + 1) (b + 1) (λ k few. (let ka : a + 1 + k ≡ a + suc k = omega arith in ap F ka) ∙ each (suc k) (omega (arith, few)) ∙ (let kb : b + suc k ≡ b + 1 + k = omega arith in ap G kb)) in
    (λ q. first q ∷ rest q)

-- the names of a block that was read
pub names_read : (f g : BlockWords) (b count : ℕ) (words : List ℕ) (old new : List (List ℕ)) → f ≡ g → count ≤ 64 → ((k : ℕ) → k < count → g b (8 * k) / 2 ^ 32 % 2 ^ 8 ≤ 56) → IsRun f b 0 512 words → new ≡ old ++ map (name_in (slice_index words)) (range_with_len 0 count) → new ≡ old ++ map (name_in (g b)) (range_with_len 0 count)
names_read f g b count words old new same few short run so = so ∙ ap (λ xs. old ++ xs) (names_same (name_in (slice_index words)) (name_in (g b)) count 0 0 (λ k low. sym (name_moved (slice_index words) (g b) (0 + k) (0 + k) (name_in (slice_index words) (0 + k)) (let at : 0 + k ≡ k = omega arith in long k low) (λ t small. word k t low small) refl)))
  where
    word : (k t : ℕ) → k < count → t < 8 → slice_index words (8 * (0 + k) + t) ≡ g b (8 * (0 + k) + t)
    word k t low small = run.each (8 * (0 + k) + t) (omega (arith, low, small, few)) ∙ (let at : 0 + (8 * (0 + k) + t) ≡ 8 * (0 + k) + t = omega arith in ap (f b) at) ∙ ap (λ (h : BlockWords). h b (8 * (0 + k) + t)) same

    long : (k : ℕ) → k < count → length (name_in (slice_index words) (0 + k)) ≤ 56
    long k low =
        let first : slice_index words (8 * (0 + k)) ≡ g b (8 * k) = (let at : 8 * (0 + k) ≡ 8 * (0 + k) + 0 = omega arith in ap (slice_index words) at) ∙ word k 0 low (omega arith) ∙ (let at : 8 * (0 + k) + 0 ≡ 8 * k = omega arith in ap (g b) at) in
        subst (λ (n : ℕ). n ≤ 56) (sym (name_length (slice_index words) (0 + k) ∙ ap (λ w. w / 2 ^ 32 % 2 ^ 8) first)) (short k low)

-- whose names are as short as those of the block
pub short_read : (f g : BlockWords) (b count : ℕ) (words : List ℕ) → f ≡ g → count ≤ 64 → ((k : ℕ) → k < count → g b (8 * k) / 2 ^ 32 % 2 ^ 8 ≤ 56) → IsRun f b 0 512 words → (k : ℕ) → k < count → slice_index words (8 * k) / 2 ^ 32 % 2 ^ 8 ≤ 56
short_read f g b count words same few short run k low = subst (λ (w : ℕ). w / 2 ^ 32 % 2 ^ 8 ≤ 56) (sym (run.each (8 * k) (omega (arith, low, few)) ∙ (let at : 0 + 8 * k ≡ 8 * k = omega arith in ap (f b) at) ∙ ap (λ (h : BlockWords). h b (8 * k)) same)) (short k low)

-- ---- the name of one entry, made of its words

pub name_made : (words bytes : List ℕ) (k n len : ℕ) → bytes ≡ bytes_of (take n (drop (8 * k + 1) words)) → n ≡ 7 → 8 * k + 8 ≤ length words → len ≡ slice_index words (8 * k) / 2 ^ 32 % 2 ^ 8 → len ≤ 56 → take len bytes ≡ name_in (slice_index words) k
name_made words bytes k n len made seven many long few =
    line_run part bytes 0 len len made (omega arith) (omega arith) (omega (arith, few, seven, size))
    ∙ run_same (list_byte part) (byte_in (slice_index words)) (len - 0) 0 (64 * k + 8) each
    ∙ ap (λ m. map (byte_in (slice_index words)) (range_with_len (64 * k + 8) m)) (let none : len - 0 ≡ len = omega arith in none ∙ long)
  where
    part : List ℕ
    part = take n (drop (8 * k + 1) words)

    size : length part ≡ n
    size = length-take-le n (drop (8 * k + 1) words) (omega (arith, length-drop (8 * k + 1) words, many, seven))

    list_byte : List ℕ → ℕ → ℕ
    list_byte ws y = byte_of (slice_index ws (y / 8)) (y % 8)

    each : (y : ℕ) → y < len - 0 → list_byte part (0 + y) ≡ byte_in (slice_index words) (64 * k + 8 + y)
    each y in_len =
        let word_at : 8 * k + 1 + (0 + y) / 8 ≡ (64 * k + 8 + y) / 8 = omega arith in
        let byte_at : (0 + y) % 8 ≡ (64 * k + 8 + y) % 8 = omega arith in
        ap (λ w. byte_of w ((0 + y) % 8)) (get_or-take n (drop (8 * k + 1) words) ((0 + y) / 8) 0 (omega (arith, in_len, few, seven)) ∙ get_or-drop (8 * k + 1) words ((0 + y) / 8) 0)
        ∙ (λ q. byte_of (slice_index words (word_at q)) (byte_at q))

-- ---- the names of a directory's pages, one after the other

-- a name of a page is that of its slot
pub page_names : (f : BlockWords) (n : Placed) (p b count : ℕ) → 0 < n.kind → n.size % 64 ≡ 0 → 4096 * p < n.size → count ≡ min (n.size / 64 - 64 * p) 64 → b ≡ n.block (AtPage p) → ((j : ℕ) → 64 * j < (held f n).size → length (entry_name (held f n) j) ≤ 56) → map (name_in (f b)) (range_with_len 0 count) ≡ map (entry_name (held f n)) (range_with_len (64 * p) count)
page_names f n p b count used whole some many at short = names_same (name_in (f b)) (entry_name (held f n)) count 0 (64 * p) (λ k low. each k low)
  where
    each : (k : ℕ) → k < count → name_in (f b) (0 + k) ≡ entry_name (held f n) (64 * p + k)
    each k low =
        let j = 64 * p + k in
        let within : 64 * j < n.size = omega (arith, low, many, whole) in
        let page : j / 64 ≡ p = omega (arith, low, many) in
        let place : j % 64 ≡ 0 + k = omega (arith, low, many) in
        name_moved (held f n).word (f b) j (0 + k) (entry_name (held f n) j) (short j (subst (λ (s : ℕ). 64 * j < s) (sym (sized f n used)) within)) (λ t small. entry_word f n j p b t used whole within page at small ∙ ap (λ x. f b (8 * x + t)) place) refl

-- and names are short where the rule on entries holds
pub short_in_page : (f : BlockWords) (n : Placed) (p b count : ℕ) → 0 < n.kind → n.size % 64 ≡ 0 → 4096 * p < n.size → count ≡ min (n.size / 64 - 64 * p) 64 → b ≡ n.block (AtPage p) → ((j : ℕ) → 64 * j < (held f n).size → length (entry_name (held f n) j) ≤ 56) → (k : ℕ) → k < count → f b (8 * k) / 2 ^ 32 % 2 ^ 8 ≤ 56
short_in_page f n p b count used whole some many at short k low =
    let j = 64 * p + k in
    let within : 64 * j < n.size = omega (arith, low, many, whole) in
    let page : j / 64 ≡ p = omega (arith, low, many) in
    let place : 8 * (j % 64) + 0 ≡ 8 * k = omega (arith, low, many) in
    let first : (held f n).word (8 * j) ≡ f b (8 * k) = (let e : 8 * j ≡ 8 * j + 0 = omega arith in ap (held f n).word e) ∙ entry_word f n j p b 0 used whole within page at (omega arith) ∙ ap (f b) place in
    subst (λ (m : ℕ). m ≤ 56) (name_length (held f n).word j ∙ ap (λ w. w / 2 ^ 32 % 2 ^ 8) first) (short j (subst (λ (s : ℕ). 64 * j < s) (sym (sized f n used)) within))

-- two runs of names, one after the other
names_join : (F : ℕ → List ℕ) (k j first : ℕ) → map F (range_with_len first j) ++ map F (range_with_len (first + j) k) ≡ map F (range_with_len first (j + k))
names_join F k zero first = let at : first + 0 ≡ first = omega arith in let same : k ≡ 0 + k = omega arith in (λ e. map F (range_with_len (at e) (same e)))
names_join F k (suc j) first =
    let at : first + suc j ≡ (first + 1) + j = omega arith in
    let count : suc j + k ≡ suc (j + k) = omega arith in
    ap (λ a. map F (range_with_len first (suc j)) ++ map F (range_with_len a k)) at ∙ ap (λ xs. F first ∷ xs) (names_join F k j (first + 1)) ∙ sym (ap (λ n. map F (range_with_len first n)) count)

-- before the first page
pub no_pages : (F : ℕ → List ℕ) (size : ℕ) (xs : List (List ℕ)) → xs ≡ [] → xs ≡ map F (range_with_len 0 (min (64 * 0) (size / 64)))
no_pages F size xs none = let at : 0 ≡ min (64 * 0) (size / 64) = omega arith in none ∙ ap (λ n. map F (range_with_len 0 n)) at

-- one page more
pub pages_next : (F : ℕ → List ℕ) (p count size : ℕ) (xs ys : List (List ℕ)) → size % 64 ≡ 0 → 4096 * p < size → count ≡ min (size / 64 - 64 * p) 64 → xs ≡ map F (range_with_len 0 (min (64 * p) (size / 64))) → ys ≡ xs ++ map F (range_with_len (64 * p) count) → ys ≡ map F (range_with_len 0 (min (64 * (p + 1)) (size / 64)))
pages_next F p count size xs ys whole some many so more =
    let first : min (64 * p) (size / 64) ≡ 64 * p = omega (arith, some) in
    let all : 64 * p + count ≡ min (64 * (p + 1)) (size / 64) = omega (arith, many, some) in
    let at : 64 * p ≡ 0 + 64 * p = omega arith in
    more ∙ ap (λ zs. zs ++ map F (range_with_len (64 * p) count)) (so ∙ ap (λ n. map F (range_with_len 0 n)) first) ∙ ap (λ a. map F (range_with_len 0 (64 * p)) ++ map F (range_with_len a count)) at ∙ names_join F count (64 * p) 0 ∙ ap (λ n. map F (range_with_len 0 n)) all

-- names told by an equal list
pub names_on : {E : Type 0} (old new xs ys : List (List ℕ)) (r : Result (Unit {0}) E) → xs ≡ ys → OnOk r (new ≡ old ++ xs) → OnOk r (new ≡ old ++ ys)
names_on old new xs ys r same = subst (λ zs. OnOk r (new ≡ old ++ zs)) same

-- names of a directory are short
pub names_short : (shape : VolumeShape) (x : Seen) (d : ℕ) → CanReadDir shape x d → (j : ℕ) → 64 * j < (held x.words (placed_at x.words d)).size → length (entry_name (held x.words (placed_at x.words d)) j) ≤ 56
names_short shape x d h j within =
    let is = dir_held shape x d h in
    subst (λ (k : Held). length (entry_name k j) ≤ 56) is (h.entries.each d j (record { dir = ap (λ (k : Held). k.kind) is ∙ h.dir; within = subst (λ (k : Held). 64 * j < k.size) (sym is) within })).0.few

-- the names of all slots, put in order
pub lists_sorted : (h : Held) (size : ℕ) (slots names : List (List ℕ)) → size ≡ h.size → slots ≡ map (entry_name h) (range_with_len 0 (size / 64)) → IsPermutation slots names → IsSorted (slice_cmp nat_cmp) names → ListsNames h names
lists_sorted h size slots names many listed all order = record {
  all = subst (λ xs. IsPermutation xs names) (listed ∙ ap (λ s. map (entry_name h) (range_with_len 0 (s / 64))) many) all;
  order = order;
}
