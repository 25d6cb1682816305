-- The bytes of a file and the words of its blocks, where one block is written.
use Rattle.std.proofs.Common.{◌≡◌, ◌≢◌, ◌<◌, ◌≤◌, ℕ, suc, ◌+◌, ◌-◌, ◌*◌, ◌/◌, ◌%◌, true, List, [], ◌∷◌, ◌++◌, length, take, drop, set, replicate, slice_index, Option, Some, None, is_some, unwrap_or, ◌⊎◌, inl, inr, refl, sym, ap, subst, ◌∙◌, arith, length-append, length-drop, get_or-take, get_or-drop}
use borrow.Rule.Slice.PartMut.{put_mid}
use Rattle.std.specs.FinMap.{get, insert}
use Rattle.std.proofs.lemmas.Bool.{cases_lt, cases_eq}
use Rattle.std.proofs.lemmas.List.{ext_get_or, get_or_append_left, get_or-append_right, get_or_past, get_or-set_same, get_or-set_other, length-set, length-take-le}
use Rattle.byteorder.specs.Endian.{little_bytes}
use Rattle.rio_base.specs.Bytes.{bytes_of}
use Rattle.rio_base.specs.Disks.{block_at, blocks_of}
use Rattle.rio_base.specs.Hosts.{Files, Overwrites, TearsWithin, bytes_in, overwritten}
use Rattle.rio_base.specs.Memory.{FrontStored, page_at}
use Rattle.rio_base.proofs.Bytes.{length-bytes_of}
use Rattle.rio_base.proofs.WordBlocks.{block_is, block_words, blocks_many}
use Rattle.block_disk.specs.HostDisks.{FitsFile, HasBlock}
use Rattle.block_disk.proofs.HostFiles.{bytes_are, get_put}

-- ---- bytes of words

-- a byte by its word
pub byte_is : (words : List ℕ) (i : ℕ) → i < 8 * length words → slice_index (bytes_of words) i ≡ slice_index (little_bytes 8 (slice_index words (i / 8))) (i % 8)
byte_is [] i h = absurd (omega (arith, h))
byte_is (w ∷ words) i h = from (cases_lt i 8) (byte_is words (i - 8))
  where
    from : (i < 8) ⊎ (8 ≤ i) → (i - 8 < 8 * length words → slice_index (bytes_of words) (i - 8) ≡ slice_index (little_bytes 8 (slice_index words ((i - 8) / 8))) ((i - 8) % 8)) → slice_index (bytes_of (w ∷ words)) i ≡ slice_index (little_bytes 8 (slice_index (w ∷ words) (i / 8))) (i % 8)
    from (inl less) rest =
        let word : 0 ≡ i / 8 = omega arith in
        let byte : i ≡ i % 8 = omega arith in
        get_or_append_left (little_bytes 8 w) (bytes_of words) 0 i less
        ∙ ap (λ k. slice_index (little_bytes 8 w) k) byte
        ∙ ap (λ k. slice_index (little_bytes 8 (slice_index (w ∷ words) k)) (i % 8)) word
    from (inr more) rest =
        let word : suc ((i - 8) / 8) ≡ i / 8 = omega arith in
        let byte : (i - 8) % 8 ≡ i % 8 = omega arith in
        get_or-append_right (little_bytes 8 w) (bytes_of words) 8 i 0 refl more
        ∙ rest (omega (arith, h, more))
        ∙ ap (λ k. slice_index (little_bytes 8 (slice_index words ((i - 8) / 8))) k) byte
        ∙ ap (λ k. slice_index (little_bytes 8 (slice_index (w ∷ words) k)) (i % 8)) word

-- where a word is the same, its bytes are
pub byte_same : (old new : List ℕ) (i : ℕ) → length new ≡ length old → slice_index new (i / 8) ≡ slice_index old (i / 8) → slice_index (bytes_of new) i ≡ slice_index (bytes_of old) i
byte_same old new i count same = from (cases_lt i (8 * length old))
  where
    from : (i < 8 * length old) ⊎ (8 * length old ≤ i) → slice_index (bytes_of new) i ≡ slice_index (bytes_of old) i
    from (inl less) = byte_is new i (omega (arith, less, count)) ∙ ap (λ w. slice_index (little_bytes 8 w) (i % 8)) same ∙ sym (byte_is old i less)
    from (inr past) = get_or_past (bytes_of new) i 0 (omega (arith, past, count, length-bytes_of new)) ∙ sym (get_or_past (bytes_of old) i 0 (omega (arith, past, length-bytes_of old)))

-- the bytes of block b, by its words
pub block_bytes : (words : List ℕ) (b x : ℕ) → 512 * b + 512 ≤ length words → x < 4096 → slice_index (bytes_of words) (4096 * b + x) ≡ slice_index (bytes_of (block_words words b)) x
block_bytes words b x within less =
    let word : (4096 * b + x) / 8 ≡ 512 * b + x / 8 = omega arith in
    let byte : (4096 * b + x) % 8 ≡ x % 8 = omega arith in
    let long : length (block_words words b) ≡ 512 = length-take-le 512 (drop (512 * b) words) (omega (arith, length-drop (512 * b) words, within)) in
    let at : slice_index (block_words words b) (x / 8) ≡ slice_index words (512 * b + x / 8) = get_or-take 512 (drop (512 * b) words) (x / 8) 0 (omega (arith, less)) ∙ get_or-drop (512 * b) words (x / 8) 0 in
    byte_is words (4096 * b + x) (omega (arith, within, less))
    ∙ ap (λ k. slice_index (little_bytes 8 (slice_index words k)) ((4096 * b + x) % 8)) word
    ∙ ap (λ k. slice_index (little_bytes 8 (slice_index words (512 * b + x / 8))) k) byte
    ∙ ap (λ w. slice_index (little_bytes 8 w) (x % 8)) (sym at)
    ∙ sym (byte_is (block_words words b) x (omega (arith, long, less)))

-- ---- words of one block are changed

pub others_changed : (told : Option Files) (name from old new : List ℕ) (b c : ℕ) → FrontStored (512 * b) 512 from old new → c ≢ b → HasBlock told name old c → HasBlock told name new c
others_changed told name from old new b c put ne has files e x less = has files e x less ∙ sym (byte_same old new (4096 * c + x) put.count (outside (cases_lt c b)))
  where
    outside : (c < b) ⊎ (b ≤ c) → slice_index new ((4096 * c + x) / 8) ≡ slice_index old ((4096 * c + x) / 8)
    outside (inl before) = put.below ((4096 * c + x) / 8) (omega (arith, before, less))
    outside (inr after) = put.above ((4096 * c + x) / 8) (omega (arith, after, ne, less))

-- the blocks of the words
pub blocks_changed : (from old new : List ℕ) (b : ℕ) → FrontStored (512 * b) 512 from old new → length from ≡ 512 → 512 * b + 512 ≤ length old → blocks_of new ≡ set (blocks_of old) b from
blocks_changed from old new b put long within =
    ext_get_or [] (blocks_of new) (set (blocks_of old) b from) count
    (λ c less. at c (omega (arith, less, blocks_many new)) (cases_eq c b))
  where
    count : length (blocks_of new) ≡ length (set (blocks_of old) b from)
    count = blocks_many new ∙ ap (λ n. n / 512) put.count ∙ sym (blocks_many old) ∙ sym (length-set (blocks_of old) b from)

    words_in : (words : List ℕ) (c i : ℕ) → i < 512 → slice_index (block_words words c) i ≡ slice_index words (512 * c + i)
    words_in words c i less = get_or-take 512 (drop (512 * c) words) i 0 less ∙ get_or-drop (512 * c) words i 0

    long_in : (words : List ℕ) (c : ℕ) → 512 * c + 512 ≤ length words → length (block_words words c) ≡ 512
    long_in words c fits = length-take-le 512 (drop (512 * c) words) (omega (arith, length-drop (512 * c) words, fits))

    same : (c : ℕ) → c ≢ b → 512 * c + 512 ≤ length old → block_words new c ≡ block_words old c
    same c ne fits =
        ext_get_or 0 (block_words new c) (block_words old c) (long_in new c (omega (arith, fits, put.count)) ∙ sym (long_in old c fits))
        (λ i less. let small : i < 512 = omega (arith, less, long_in new c (omega (arith, fits, put.count))) in
        words_in new c i small ∙ outside i small (cases_lt c b) ∙ sym (words_in old c i small))
      where
        outside : (i : ℕ) → i < 512 → (c < b) ⊎ (b ≤ c) → slice_index new (512 * c + i) ≡ slice_index old (512 * c + i)
        outside i small (inl before) = put.below (512 * c + i) (omega (arith, before, small))
        outside i small (inr after) = put.above (512 * c + i) (omega (arith, after, ne, small))

    here : block_words new b ≡ from
    here =
        ext_get_or 0 (block_words new b) from (long_in new b (omega (arith, within, put.count)) ∙ sym long)
        (λ i less. let small : i < 512 = omega (arith, less, long_in new b (omega (arith, within, put.count))) in
        words_in new b i small ∙ put.front i small)

    at : (c : ℕ) → c < length new / 512 → (c ≡ b) ⊎ (c ≢ b) → block_at (blocks_of new) c ≡ block_at (set (blocks_of old) b from) c
    at c less (inl is) =
        block_is new c less ∙ ap (block_words new) is ∙ here
        ∙ sym (ap (block_at (set (blocks_of old) b from)) is ∙ get_or-set_same (blocks_of old) b from [] (omega (arith, blocks_many old, within)))
    at c less (inr ne) =
        block_is new c less ∙ same c ne (omega (arith, less, put.count)) ∙ sym (get_or-set_other (blocks_of old) b c from [] ne ∙ block_is old c (omega (arith, less, put.count)))

-- ---- bytes of one block are written

-- bytes that lie within a file are put over its own
pub over_stored : (whole from : List ℕ) (off : ℕ) → off + length from ≤ length whole → FrontStored off (length from) from whole (overwritten whole off from)
over_stored whole [] off fits = record { count = refl; front = λ i less. absurd (omega (arith, less)); below = λ i less. refl; above = λ i more. refl }
over_stored whole (b ∷ from) off fits =
    let n : ℕ = length (b ∷ from) in
    let none : off + n - length whole ≡ 0 = omega (arith, fits) in
    let grown : List ℕ = whole ++ replicate (off + n - length whole) 0 in
    let is : grown ≡ whole = ap (λ k. whole ++ replicate k 0) none ∙ nothing_more whole in
    subst (λ (all : List ℕ). FrontStored off n (b ∷ from) whole (take off all ++ (b ∷ from) ++ drop (off + n) all)) (sym is) (put (b ∷ from) fits)
  where
    nothing_more : (xs : List ℕ) → xs ++ [] ≡ xs
    nothing_more [] = refl
    nothing_more (x ∷ xs) = ap (λ (ys : List ℕ). x ∷ ys) (nothing_more xs)

    put : (ys : List ℕ) → off + length ys ≤ length whole → FrontStored off (length ys) ys whole (take off whole ++ ys ++ drop (off + length ys) whole)
    put ys within =
        let front : length (take off whole) ≡ off = length-take-le off whole (omega (arith, within)) in
        let all : length (take off whole ++ ys) ≡ off + length ys = length-append (take off whole) ys ∙ ap (λ k. k + length ys) front in
        record {
          count = omega (arith, length-append (take off whole ++ ys) (drop (off + length ys) whole), all, length-drop (off + length ys) whole, within);
          front = λ i less. get_or_append_left (take off whole ++ ys) (drop (off + length ys) whole) 0 (off + i) (omega (arith, less, all)) ∙ get_or-append_right (take off whole) ys off (off + i) 0 front (omega arith) ∙ ap (λ k. slice_index ys k) (let back : off + i - off ≡ i = omega arith in back);
          below = λ i less. get_or_append_left (take off whole ++ ys) (drop (off + length ys) whole) 0 i (omega (arith, less, all)) ∙ get_or_append_left (take off whole) ys 0 i (omega (arith, less, front)) ∙ get_or-take off whole i 0 less;
          above = λ i more. get_or-append_right (take off whole ++ ys) (drop (off + length ys) whole) (off + length ys) i 0 all more ∙ get_or-drop (off + length ys) whole (i - (off + length ys)) 0 ∙ ap (λ k. slice_index whole k) (let back : off + length ys + (i - (off + length ys)) ≡ i = omega (arith, more) in back);
        }

-- words that were put into the middle of others
mid_stored : (off n : ℕ) (from old : List ℕ) → length from ≡ n → off + n ≤ length old → FrontStored off n from old (put_mid off n old from)
mid_stored off n from old long fits =
    let front : length (take off old) ≡ off = length-take-le off old (omega (arith, fits)) in
    let rest : List ℕ = drop n (drop off old) in
    record {
      count = omega (arith, length-append (take off old) (from ++ rest), length-append from rest, front, long, length-drop n (drop off old), length-drop off old, fits);
      front = λ i less. get_or-append_right (take off old) (from ++ rest) off (off + i) 0 front (omega arith) ∙ get_or_append_left from rest 0 (off + i - off) (omega (arith, less, long)) ∙ ap (λ k. slice_index from k) (let back : off + i - off ≡ i = omega arith in back);
      below = λ i less. get_or_append_left (take off old) (from ++ rest) 0 i (omega (arith, less, front)) ∙ get_or-take off old i 0 less;
      above = λ i more. get_or-append_right (take off old) (from ++ rest) off i 0 front (omega (arith, more)) ∙ get_or-append_right from rest n (i - off) 0 long (omega (arith, more)) ∙ get_or-drop n (drop off old) (i - off - n) 0 ∙ get_or-drop off old (n + (i - off - n)) 0 ∙ ap (λ k. slice_index old k) (let back : off + (n + (i - off - n)) ≡ i = omega (arith, more) in back);
    }

pub block_stored : (b : ℕ) (from old given : List ℕ) → given ≡ from → length from ≡ 512 → 512 * b + 512 ≤ length old → FrontStored (512 * b) 512 from old (put_mid (512 * b) (512 * b + 512 - 512 * b) old given)
block_stored b from old given is long fits =
    let count : 512 ≡ 512 * b + 512 - 512 * b = omega arith in
    subst (λ (ys : List ℕ). FrontStored (512 * b) 512 from old (put_mid (512 * b) (512 * b + 512 - 512 * b) old ys)) (sym is)
    (subst (λ n. FrontStored (512 * b) 512 from old (put_mid (512 * b) n old from)) count (mid_stored (512 * b) 512 from old long fits))

some_files : (x y : Files) → Some x ≡ Some y → x ≡ y
some_files x y e = cc

no_files : (x : Files) → None ≡ Some x → ⊥
no_files x e = cc

-- the bytes of a file that was put there
bytes_put : (files new : Files) (told : Option Files) (name bytes : List ℕ) → told ≡ Some new → told ≡ Some (insert files name bytes) → bytes_in new name ≡ bytes
bytes_put files new told name bytes e is =
    ap (λ (fs : Files). bytes_in fs name) (some_files new (insert files name bytes) (sym e ∙ is)) ∙ bytes_are (insert files name bytes) name bytes (get_put files name bytes)

put_there : (files new : Files) (told : Option Files) (name bytes : List ℕ) → told ≡ Some new → told ≡ Some (insert files name bytes) → is_some (get new name) ≡ true
put_there files new told name bytes e is =
    ap (λ (fs : Files). is_some (get fs name)) (some_files new (insert files name bytes) (sym e ∙ is)) ∙ ap (λ (got : Option (List ℕ)). is_some got) (get_put files name bytes)

-- a write of a block's bytes that went well
pub written_fits : (told new : Option Files) (name words from : List ℕ) (b : ℕ) → length from ≡ 4096 → 512 * b + 512 ≤ length words → FitsFile told name words → Overwrites told name (4096 * b) from new → FitsFile new name words
written_fits None new name words from b long within fits is = record { there = λ files e. absurd (no_files files (sym is ∙ e)); long = λ files e. absurd (no_files files (sym is ∙ e)) }
written_fits (Some files) new name words from b long within fits is =
    let whole : List ℕ = bytes_in files name in
    let size : length whole ≡ 8 * length words = fits.long files refl in
    let put = over_stored whole from (4096 * b) (omega (arith, size, within, long)) in
    record {
      there = λ later e. put_there files later new name (overwritten whole (4096 * b) from) e is;
      long = λ later e. ap length (bytes_put files later new name (overwritten whole (4096 * b) from) e is) ∙ put.count ∙ size;
    }

pub written_here : (told new : Option Files) (name words from : List ℕ) (b : ℕ) → from ≡ bytes_of (block_words words b) → 512 * b + 512 ≤ length words → FitsFile told name words → Overwrites told name (4096 * b) from new → HasBlock new name words b
written_here None new name words from b own within fits is later e x less = absurd (no_files later (sym is ∙ e))
written_here (Some files) new name words from b own within fits is later e x less =
    let whole : List ℕ = bytes_in files name in
    let size : length whole ≡ 8 * length words = fits.long files refl in
    let words_long : length (block_words words b) ≡ 512 = length-take-le 512 (drop (512 * b) words) (omega (arith, length-drop (512 * b) words, within)) in
    let long : length from ≡ 4096 = ap length own ∙ length-bytes_of (block_words words b) ∙ ap (λ n. 8 * n) words_long in
    let put = over_stored whole from (4096 * b) (omega (arith, size, within, long)) in
    ap (λ (bytes : List ℕ). slice_index bytes (4096 * b + x)) (bytes_put files later new name (overwritten whole (4096 * b) from) e is)
    ∙ put.front x (omega (arith, less, long))
    ∙ ap (λ (bytes : List ℕ). slice_index bytes x) own
    ∙ sym (block_bytes words b x within less)

pub written_others : (told new : Option Files) (name words from : List ℕ) (b c : ℕ) → length from ≡ 4096 → 512 * b + 512 ≤ length words → FitsFile told name words → Overwrites told name (4096 * b) from new → c ≢ b → HasBlock told name words c → HasBlock new name words c
written_others None new name words from b c long within fits is ne has later e x less = absurd (no_files later (sym is ∙ e))
written_others (Some files) new name words from b c long within fits is ne has later e x less =
    let whole : List ℕ = bytes_in files name in
    let size : length whole ≡ 8 * length words = fits.long files refl in
    let put = over_stored whole from (4096 * b) (omega (arith, size, within, long)) in
    ap (λ (bytes : List ℕ). slice_index bytes (4096 * c + x)) (bytes_put files later new name (overwritten whole (4096 * b) from) e is)
    ∙ outside put (cases_lt c b)
    ∙ has files refl x less
  where
    outside : FrontStored (4096 * b) (length from) from (bytes_in files name) (overwritten (bytes_in files name) (4096 * b) from) → (c < b) ⊎ (b ≤ c) → slice_index (overwritten (bytes_in files name) (4096 * b) from) (4096 * c + x) ≡ slice_index (bytes_in files name) (4096 * c + x)
    outside put (inl before) = put.below (4096 * c + x) (omega (arith, before, less))
    outside put (inr after) = put.above (4096 * c + x) (omega (arith, after, ne, less, long))

-- one that failed
pub torn_fits : (told new : Option Files) (name words : List ℕ) (b : ℕ) → 512 * b + 512 ≤ length words → FitsFile told name words → TearsWithin told name (4096 * b) 4096 new → FitsFile new name words
torn_fits None new name words b within fits is = record { there = λ files e. absurd (no_files files (sym is ∙ e)); long = λ files e. absurd (no_files files (sym is ∙ e)) }
torn_fits (Some files) new name words b within fits (inl is) = subst (λ (t : Option Files). FitsFile t name words) (sym is) fits
torn_fits (Some files) new name words b within fits (inr (torn, differ, is)) =
    let size : length (bytes_in files name) ≡ 8 * length words = fits.long files refl in
    record {
      there = λ later e. put_there files later new name torn e is;
      long = λ later e. ap length (bytes_put files later new name torn e is) ∙ (let same : length torn ≡ 8 * length words = omega (arith, differ.least, differ.most, size, within) in same);
    }

pub torn_others : (told new : Option Files) (name words : List ℕ) (b c : ℕ) → TearsWithin told name (4096 * b) 4096 new → c ≢ b → HasBlock told name words c → HasBlock new name words c
torn_others None new name words b c is ne has later e x less = absurd (no_files later (sym is ∙ e))
torn_others (Some files) new name words b c (inl is) ne has later e x less = subst (λ (t : Option Files). HasBlock t name words c) (sym is) has later e x less
torn_others (Some files) new name words b c (inr (torn, differ, is)) ne has later e x less =
    ap (λ (bytes : List ℕ). slice_index bytes (4096 * c + x)) (bytes_put files later new name torn e is)
    ∙ outside (cases_lt c b)
    ∙ has files refl x less
  where
    outside : (c < b) ⊎ (b ≤ c) → slice_index torn (4096 * c + x) ≡ slice_index (bytes_in files name) (4096 * c + x)
    outside (inl before) = differ.before (4096 * c + x) (omega (arith, before, less))
    outside (inr after) = differ.after (4096 * c + x) (omega (arith, after, ne, less))

-- the bytes of a block's words, as the slice of them reads
pub own_bytes : (words : List ℕ) (b : ℕ) (room : List ℕ) → room ≡ bytes_of (take (512 * b + 512 - 512 * b) (drop (512 * b) words)) → room ≡ bytes_of (page_at words b)
own_bytes words b room is = is ∙ ap (λ (n : ℕ). bytes_of (take n (drop (512 * b) words))) (let count : 512 * b + 512 - 512 * b ≡ 512 = omega arith in count)

pub own_words : (words : List ℕ) (b : ℕ) → take (512 * b + 512 - 512 * b) (drop (512 * b) words) ≡ page_at words b
own_words words b = ap (λ (n : ℕ). take n (drop (512 * b) words)) (let count : 512 * b + 512 - 512 * b ≡ 512 = omega arith in count)
