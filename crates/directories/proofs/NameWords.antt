-- The words of a name, and names of entries compared with them.
use Rattle.directories.proofs.Common.{◌≡◌, ◌≢◌, ℕ, zero, suc, ◌+◌, ◌-◌, ◌*◌, ◌/◌, ◌%◌, ◌^◌, ◌<◌, ◌≤◌, min, List, ◌∷◌, length, map, drop, bit_and, slice_index, refl, sym, ap, subst, ◌∙◌, arith, ◌⊎◌, inl, inr, range_with_len, cases_lt}
use Rattle.std.proofs.Common.{get_or, replicate}
use Rattle.std.proofs.lemmas.List.{get_or-drop, get_or_past, length-take-le}
use Rattle.std.proofs.lemmas.Nat.{and_mask}
use Rattle.std.proofs.lemmas.List.FromFn.{fill_by_all, get_or-map-range_with_len, length-map-range_with_len}
use borrow.Rule.Slice.PartMut.{put_mid, same_len_mid}
use Rattle.byteorder.specs.Endian.{IsRead, little_number}
use Rattle.rio_model.specs.Held.{byte_in, byte_of}
use Rattle.rio_base.specs.Bytes.{bytes_of}
use Rattle.node_pages.specs.WordBytes.{over}
use Rattle.rio_base.proofs.Bytes.{bytes_read}
use Rattle.node_pages.proofs.ByteRuns.{byte_at, get_mid, over_in, over_out}
use Rattle.directories.specs.declared.entries.NameKey.{NameKey}
use Rattle.directories.specs.Entries.{IsEntryOf, IsKey, IsWordsOf, name_in}
use Rattle.directories.proofs.WordBytes.{masked_byte, masked_is}

-- ---- bytes of a run, one by one

-- runs of the same bytes, from other places
pub run_same : (f g : ℕ → ℕ) (n a b : ℕ) → ((k : ℕ) → k < n → f (a + k) ≡ g (b + k)) → map f (range_with_len a n) ≡ map g (range_with_len b n)
run_same f g zero a b each = refl
run_same f g (suc n) a b each =
    let first : f a ≡ g b = (let za : a ≡ a + 0 = omega arith in ap f za) ∙ each 0 (omega arith) ∙ (let zb : b + 0 ≡ b = omega arith in ap g zb) in
    let rest : map f (range_with_len (a + 1) n) ≡ map g (range_with_len (b + 1) n) = run_same f g n (a + 1) (b + 1) (λ k few. (let ka : a + 1 + k ≡ a + suc k = omega arith in ap f ka) ∙ each (suc k) (omega (arith, few)) ∙ (let kb : b + suc k ≡ b + 1 + k = omega arith in ap g kb)) in
    (λ q. first q ∷ rest q)

-- a list is the run of bytes that has its length and each of its bytes
pub by_each : (F : ℕ → ℕ) (xs : List ℕ) (a n : ℕ) → length xs ≡ n → ((k : ℕ) → k < n → slice_index xs k ≡ F (a + k)) → xs ≡ map F (range_with_len a n)
by_each F xs a n long each = fill_by_all (λ k. F (a + k)) xs n 0 long each ∙ run_same (λ k. F (a + k)) F n 0 a (λ k few. let e : a + (0 + k) ≡ a + k = omega arith in ap F e)

-- ---- the words of a name

pub zeros_at : (n i : ℕ) → slice_index (replicate n 0) i ≡ 0
zeros_at zero i = refl
zeros_at (suc n) zero = refl
zeros_at (suc n) (suc i) = zeros_at n i

number_small : (xs : List ℕ) → ((i : ℕ) → get_or xs i 0 < 256) → little_number 8 xs < 2 ^ 64
number_small xs each = omega (arith, each 0, each 1, each 2, each 3, each 4, each 5, each 6, each 7)

pub words_of_name : (name part zeros dst : List ℕ) (k : ℕ) → part ≡ name → k ≡ length part → length name ≤ 56 → length zeros ≡ 56 → ((i : ℕ) → slice_index zeros i ≡ 0) → ((i : ℕ) → get_or name i 0 < 256) → length dst ≡ 7 → IsRead little_number 8 (put_mid 0 k zeros part) dst → IsWordsOf name dst
words_of_name name part zeros dst k is long few width none small seven read = record { bytes = λ y low. at y low; fits = λ t low. subst (λ z. z < 2 ^ 64) (sym (read t (omega (arith, low, seven)))) (number_small (drop (8 * t) src) (λ i. subst (λ z. z < 256) (sym (get_or-drop (8 * t) src i 0)) (each (8 * t + i)))) }
  where
    src : List ℕ
    src = put_mid 0 k zeros part

    fits : 0 + k ≤ length zeros
    fits = let l = ap length is in omega (arith, long, few, width, l)

    put : (y : ℕ) → slice_index src y ≡ slice_index name y
    put y = get_mid 0 k zeros part y long fits ∙ by_place (cases_lt y k)
      where
        by_place : ((y < k) ⊎ (k ≤ y)) → over (slice_index zeros) 0 part k y ≡ slice_index name y
        by_place (inl below) = over_in (slice_index zeros) 0 part k y (omega arith) (omega (arith, below)) ∙ (let back : y - 0 ≡ y = omega arith in ap (slice_index part) back) ∙ ap (λ xs. slice_index xs y) is
        by_place (inr past) = over_out (slice_index zeros) 0 part k y (inr (omega (arith, past))) ∙ none y ∙ sym (get_or_past name y 0 (let l = ap length is in omega (arith, past, long, l)))

    each : (i : ℕ) → get_or src i 0 < 256
    each i = subst (λ z. z < 256) (sym (put i)) (small i)

    whole : src ≡ bytes_of dst
    whole = bytes_read src dst (same_len_mid 0 k zeros part (sym long ∙ sym (length-take-le k (drop 0 zeros) (let l = ap length is in omega (arith, long, few, width, l)))) ∙ width ∙ ap (λ n. 8 * n) (sym seven)) each read

    at : (y : ℕ) → y < 56 → byte_of (slice_index dst (y / 8)) (y % 8) ≡ slice_index name y
    at y low =
        let place : 8 * (y / 8) + y % 8 ≡ y = omega arith in
        sym (byte_at dst (y / 8) (y % 8) (omega (arith, low, seven)) (omega arith)) ∙ ap (slice_index (bytes_of dst)) place ∙ ap (λ xs. slice_index xs y) (sym whole) ∙ put y

-- ---- the name of an entry

pub name_length : (word : ℕ → ℕ) (k : ℕ) → length (name_in word k) ≡ word (8 * k) / 2 ^ 32 % 2 ^ 8
name_length word k = length-map-range_with_len (byte_in word) (64 * k + 8) (word (8 * k) / 2 ^ 32 % 2 ^ 8)

-- byte y of it
pub name_byte : (word : ℕ → ℕ) (k y : ℕ) → y < word (8 * k) / 2 ^ 32 % 2 ^ 8 → slice_index (name_in word k) y ≡ byte_of (word (8 * k + 1 + y / 8)) (y % 8)
name_byte word k y few =
    let at : 64 * k + 8 + y ≡ 64 * k + 8 + y = refl in
    let word_at : (64 * k + 8 + y) / 8 ≡ 8 * k + 1 + y / 8 = omega arith in
    let byte_at : (64 * k + 8 + y) % 8 ≡ y % 8 = omega arith in
    get_or-map-range_with_len (byte_in word) (64 * k + 8) (word (8 * k) / 2 ^ 32 % 2 ^ 8) y (64 * k + 8 + y) 0 few at ∙ (λ q. byte_of (word (word_at q)) (byte_at q))

-- ---- a name compared with a key

-- so many bytes of a name are in its word t
abbrev part_of : List ℕ → ℕ → ℕ
part_of name t = min (length name - 8 * t) 8

key_byte : (name words : List ℕ) (t b : ℕ) → IsWordsOf name words → t < 7 → b < 8 → byte_of (slice_index words t) b ≡ slice_index name (8 * t + b)
key_byte name words t b h few small =
    let word_at : t ≡ (8 * t + b) / 8 = omega (arith, small) in
    let byte_at : b ≡ (8 * t + b) % 8 = omega (arith, small) in
    (λ q. byte_of (slice_index words (word_at q)) (byte_at q)) ∙ h.bytes (8 * t + b) (omega (arith, few, small))

-- an entry of this name has the key's words, each under the mask of the bytes that the name has in it
key_has : (name : List ℕ) (key : NameKey) (word : ℕ → ℕ) (k t m : ℕ) → IsKey name key → t < 7 → m ≡ 2 ^ (8 * part_of name t) - 1 → name_in word k ≡ name → bit_and (word (8 * k + 1 + t)) m ≡ slice_index key.words t
key_has name key word k t m h few mask is =
    ap (bit_and (word (8 * k + 1 + t))) mask
    ∙ masked_is (word (8 * k + 1 + t)) (slice_index key.words t) (part_of name t) (omega arith) (h.words.fits t few)
    (λ b low. same b low)
    (λ b past small. key_byte name key.words t b h.words few small ∙ get_or_past name (8 * t + b) 0 (omega (arith, past, small)))
  where
    same : (b : ℕ) → b < part_of name t → byte_of (word (8 * k + 1 + t)) b ≡ byte_of (slice_index key.words t) b
    same b low =
        let y = 8 * t + b in
        let long = sym (name_length word k) ∙ ap length is in
        let word_at : 8 * k + 1 + t ≡ 8 * k + 1 + y / 8 = omega (arith, low) in
        let byte_at : b ≡ y % 8 = omega (arith, low) in
        (λ q. byte_of (word (word_at q)) (byte_at q))
        ∙ sym (name_byte word k y (omega (arith, low, long)))
        ∙ ap (λ xs. slice_index xs y) is
        ∙ sym (key_byte name key.words t b h.words few (omega (arith, low)))

-- and one that has its length, the key's words before the last and the bytes of the last has the name
pub key_same : (name : List ℕ) (key : NameKey) (word : ℕ → ℕ) (k : ℕ) → IsKey name key → word (8 * k) / 2 ^ 32 % 2 ^ 8 ≡ length name → bit_and (word (8 * k + 1 + key.last)) key.last_mask ≡ slice_index key.words key.last → ((t : ℕ) → t < key.last → word (8 * k + 1 + t) ≡ slice_index key.words t) → name_in word k ≡ name
key_same name key word k h long end full = sym (by_each (byte_in word) name (64 * k + 8) (word (8 * k) / 2 ^ 32 % 2 ^ 8) (sym long) each)
  where
    of_word : (t b : ℕ) → 8 * t + b < length name → b < 8 → ((t < key.last) ⊎ (key.last ≤ t)) → byte_of (word (8 * k + 1 + t)) b ≡ byte_of (slice_index key.words t) b
    of_word t b low small (inl below) = ap (λ w. byte_of w b) (full t below)
    of_word t b low small (inr past) =
        let last = h.last in
        let same : t ≡ key.last = omega (arith, low, past, last) in
        masked_byte (word (8 * k + 1 + t)) (slice_index key.words t) (part_of name t) b (omega arith) (omega (arith, low, small))
        (subst (λ s. bit_and (word (8 * k + 1 + s)) (2 ^ (8 * part_of name s) - 1) ≡ slice_index key.words s) (sym same) (ap (bit_and (word (8 * k + 1 + key.last))) (sym h.last_mask) ∙ end))

    each : (y : ℕ) → y < word (8 * k) / 2 ^ 32 % 2 ^ 8 → slice_index name y ≡ byte_in word (64 * k + 8 + y)
    each y low =
        let t = y / 8 in
        let b = y % 8 in
        let most = h.few in
        let few : t < 7 = omega (arith, low, long, most) in
        let small : b < 8 = omega arith in
        let place : 8 * t + b ≡ y = omega arith in
        let word_at : 8 * k + 1 + t ≡ (64 * k + 8 + y) / 8 = omega arith in
        let byte_at : b ≡ (64 * k + 8 + y) % 8 = omega arith in
        ap (slice_index name) (sym place)
        ∙ sym (key_byte name key.words t b h.words few small)
        ∙ sym (of_word t b (omega (arith, low, long, place)) small (cases_lt t key.last))
        ∙ (λ q. byte_of (word (word_at q)) (byte_at q))

-- so an entry with another last word, or another first one, has another name
pub last_differs : (name : List ℕ) (key : NameKey) (word : ℕ → ℕ) (k at : ℕ) → IsKey name key → at ≡ 8 * k + 1 + key.last → bit_and (word at) key.last_mask ≢ slice_index key.words key.last → name_in word k ≢ name
last_differs name key word k at h place other is =
    let last = h.last in
    let most = h.few in
    other (ap (λ w. bit_and (word w) key.last_mask) place ∙ key_has name key word k key.last key.last_mask h (omega (arith, last, most)) h.last_mask is)

-- and so have four entries that follow each other
pub four_differ : (name : List ℕ) (key : NameKey) (word : ℕ → ℕ) (k at : ℕ) → IsKey name key → at ≡ 8 * k + 1 + key.last → bit_and (word at) key.last_mask ≢ slice_index key.words key.last → bit_and (word (at + 8)) key.last_mask ≢ slice_index key.words key.last → bit_and (word (at + 16)) key.last_mask ≢ slice_index key.words key.last → bit_and (word (at + 24)) key.last_mask ≢ slice_index key.words key.last → (j : ℕ) → k ≤ j → j < k + 4 → name_in word j ≢ name
four_differ name key word k at h place first second third fourth j low high = by (cases_lt j (k + 1)) (cases_lt j (k + 2)) (cases_lt j (k + 3))
  where
    by : ((j < k + 1) ⊎ (k + 1 ≤ j)) → ((j < k + 2) ⊎ (k + 2 ≤ j)) → ((j < k + 3) ⊎ (k + 3 ≤ j)) → name_in word j ≢ name
    by (inl below) _ _ = last_differs name key word j at h (omega (arith, place, low, below)) first
    by (inr from) (inl below) _ = last_differs name key word j (at + 8) h (omega (arith, place, from, below)) second
    by (inr _) (inr from) (inl below) = last_differs name key word j (at + 16) h (omega (arith, place, from, below)) third
    by (inr _) (inr _) (inr from) = last_differs name key word j (at + 24) h (omega (arith, place, from, high)) fourth

pub first_differs : (name : List ℕ) (key : NameKey) (word : ℕ → ℕ) (k : ℕ) → IsKey name key → bit_and (word (8 * k + 1)) key.first_mask ≢ slice_index key.words 0 → name_in word k ≢ name
first_differs name key word k h other is =
    let at : 8 * k + 1 ≡ 8 * k + 1 + 0 = omega arith in
    let all : length name ≡ length name - 8 * 0 = omega arith in
    let mask : key.first_mask ≡ 2 ^ (8 * part_of name 0) - 1 = h.first_mask ∙ ap (λ n. 2 ^ (8 * min n 8) - 1) all in
    other (ap (λ w. bit_and (word w) key.first_mask) at ∙ key_has name key word k 0 key.first_mask h (omega arith) mask is)

-- and so has one with another word before the last
pub full_differs : (name : List ℕ) (key : NameKey) (word : ℕ → ℕ) (k t : ℕ) → IsKey name key → t < key.last → word (8 * k + 1 + t) < 2 ^ 64 → word (8 * k + 1 + t) ≢ slice_index key.words t → name_in word k ≢ name
full_differs name key word k t h full fits other is =
    let last = h.last in
    let most = h.few in
    let w = word (8 * k + 1 + t) in
    let whole : 8 * part_of name t ≡ 64 = omega (arith, full, last) in
    let under : w % 2 ^ 64 ≡ slice_index key.words t = ap (λ n. w % 2 ^ n) (sym whole) ∙ sym (and_mask w (8 * part_of name t)) ∙ key_has name key word k t (2 ^ (8 * part_of name t) - 1) h (omega (arith, full, last, most)) refl is in
    other (omega (arith, under, fits))

-- an entry has its name wherever its words lie
pub name_moved : (u v : ℕ → ℕ) (a b : ℕ) (name : List ℕ) → length name ≤ 56 → ((t : ℕ) → t < 8 → u (8 * a + t) ≡ v (8 * b + t)) → name_in u a ≡ name → name_in v b ≡ name
name_moved u v a b name few same is = ap (λ n. map (byte_in v) (range_with_len (64 * b + 8) n)) (sym long_same) ∙ run_same (byte_in v) (byte_in u) (word_length u a) (64 * b + 8) (64 * a + 8) each ∙ is
  where
    word_length : (ℕ → ℕ) → ℕ → ℕ
    word_length w k = w (8 * k) / 2 ^ 32 % 2 ^ 8

    first : u (8 * a) ≡ v (8 * b)
    first = (let at_a : 8 * a ≡ 8 * a + 0 = omega arith in ap u at_a) ∙ same 0 (omega arith) ∙ (let at_b : 8 * b + 0 ≡ 8 * b = omega arith in ap v at_b)

    long_same : word_length u a ≡ word_length v b
    long_same = ap (λ w. w / 2 ^ 32 % 2 ^ 8) first

    long : word_length u a ≡ length name
    long = sym (name_length u a) ∙ ap length is

    each : (y : ℕ) → y < word_length u a → byte_in v (64 * b + 8 + y) ≡ byte_in u (64 * a + 8 + y)
    each y low =
        let t = 1 + y / 8 in
        let b_word : (64 * b + 8 + y) / 8 ≡ 8 * b + t = omega arith in
        let a_word : 8 * a + t ≡ (64 * a + 8 + y) / 8 = omega arith in
        let byte_at : (64 * b + 8 + y) % 8 ≡ (64 * a + 8 + y) % 8 = omega arith in
        (λ q. byte_of (v (b_word q)) (byte_at q)) ∙ ap (λ w. byte_of w ((64 * a + 8 + y) % 8)) (sym (same t (omega (arith, low, long, few))) ∙ ap u a_word)

-- ---- the words of an entry

pub entry_of : (name words : List ℕ) (i w : ℕ) → IsWordsOf name words → length name ≤ 56 → i < 2 ^ 32 → w ≡ i + 2 ^ 32 * length name → IsEntryOf name i (w ∷ words)
entry_of name words i w h few fits is = record {
  named = sym (by_each (byte_in (slice_index (w ∷ words))) name (64 * 0 + 8) (w / 2 ^ 32 % 2 ^ 8) (sym long) each);
  ino = low;
}
  where
    long : w / 2 ^ 32 % 2 ^ 8 ≡ length name
    long = omega (arith, is, few, fits)

    low : w % 2 ^ 32 ≡ i
    low = omega (arith, is, fits)

    each : (y : ℕ) → y < w / 2 ^ 32 % 2 ^ 8 → slice_index name y ≡ byte_in (slice_index (w ∷ words)) (64 * 0 + 8 + y)
    each y in_name =
        let word_at : suc (y / 8) ≡ (64 * 0 + 8 + y) / 8 = omega arith in
        let byte_at : y % 8 ≡ (64 * 0 + 8 + y) % 8 = omega arith in
        sym (h.bytes y (omega (arith, in_name, long, few))) ∙ (λ q. byte_of (slice_index (w ∷ words) (word_at q)) (byte_at q))

-- another inode before the same name
pub with_ino_of : (entry rest : List ℕ) (i w : ℕ) → rest ≡ drop 1 entry → i < 2 ^ 32 → w ≡ i + 2 ^ 32 * (slice_index entry 0 / 2 ^ 32) → IsEntryOf (name_in (slice_index entry) 0) i (w ∷ rest)
with_ino_of entry rest i w is fits first = record {
  named = ap (λ n. map (byte_in (slice_index (w ∷ rest))) (range_with_len (64 * 0 + 8) n)) long ∙ run_same (byte_in (slice_index (w ∷ rest))) (byte_in (slice_index entry)) (slice_index entry 0 / 2 ^ 32 % 2 ^ 8) (64 * 0 + 8) (64 * 0 + 8) (λ y low. each y);
  ino = low;
}
  where
    long : w / 2 ^ 32 % 2 ^ 8 ≡ slice_index entry 0 / 2 ^ 32 % 2 ^ 8
    long = omega (arith, first, fits)

    low : w % 2 ^ 32 ≡ i
    low = omega (arith, first, fits)

    later : (n : ℕ) → slice_index (w ∷ rest) (suc n) ≡ slice_index entry (suc n)
    later n = ap (λ xs. slice_index xs n) is ∙ get_or-drop 1 entry n 0 ∙ (let at : 1 + n ≡ suc n = omega arith in ap (slice_index entry) at)

    each : (y : ℕ) → byte_in (slice_index (w ∷ rest)) (64 * 0 + 8 + y) ≡ byte_in (slice_index entry) (64 * 0 + 8 + y)
    each y =
        let at : (64 * 0 + 8 + y) / 8 ≡ suc (y / 8) = omega arith in
        ap (λ z. byte_of z ((64 * 0 + 8 + y) % 8)) (ap (slice_index (w ∷ rest)) at ∙ later (y / 8) ∙ ap (slice_index entry) (sym at))
