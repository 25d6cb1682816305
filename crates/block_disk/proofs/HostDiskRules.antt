-- What a disk that is a file keeps: the file has each block that isn't marked as unwritten.
use Rattle.std.proofs.Common.{◌≡◌, ◌≢◌, ◌<◌, ◌≤◌, ℕ, ◌+◌, ◌*◌, ◌/◌, ◌^◌, Bool, true, false, List, [], length, take, drop, set, replicate, slice_index, Option, Some, None, is_some, unwrap_or, Ok, ◌⊎◌, inl, inr, refl, sym, ap, subst, ◌∙◌, arith, le_refl, length-drop, get_or-take, get_or-drop, get_or-set_same, get_or-set_other}
use Rattle.std.specs.FinMap.{get}
use Rattle.std.proofs.lemmas.Bool.{cases_Bool, cases_eq, cases_lt}
use Rattle.std.proofs.lemmas.List.{ext_get_or, get_or_past, get_or-replicate, length-replicate, length-take-le}
use Rattle.rio_base.specs.Blocks.{Around}
use Rattle.rio_base.specs.Bytes.{bytes_of}
use Rattle.rio_base.specs.Disks.{DiskContents, FaultCount, FaultsLast, HasFaultCause, block_at, blocks_of, is_pending, raised, with_synced, with_written}
use Rattle.rio_base.specs.Hosts.{Asked, AsksFor, Files, IsFile, bytes_in}
use Rattle.rio_base.specs.Memory.{FrontStored}
use Rattle.rio_base.specs.Rules.{true_false}
use Rattle.rio_base.proofs.Bytes.{length-bytes_of}
use Rattle.rio_base.proofs.WordBlocks.{block_is, block_long, block_words, blocks_many, blocks_word}
use Rattle.block_disk.specs.BlockLists.{Lists}
use Rattle.block_disk.specs.HostDisks.{AreFileWords, FitsFile, HasBlock, HasSettled, IsDiskLength, OnHost, around_of, file_contents}
use Rattle.block_disk.proofs.FileBlocks.{block_bytes, blocks_changed, others_changed}
use Rattle.block_disk.proofs.HostFiles.{around_asked}
use Rattle.block_disk.proofs.Marks.{found, listed}

-- a mark that isn't set after one was set is of another block, and was not set before
clear_before : (marks : List Bool) (b c : ℕ) → b < length marks → is_pending (set marks b true) c ≡ false → (c ≢ b) × (is_pending marks c ≡ false)
clear_before marks b c within e = from (cases_eq c b)
  where
    from : (c ≡ b) ⊎ (c ≢ b) → (c ≢ b) × (is_pending marks c ≡ false)
    from (inl is) = absurd (true_false (sym (subst (λ k. is_pending (set marks b true) k ≡ true) (sym is) (get_or-set_same marks b true false within)) ∙ e))
    from (inr ne) = (ne, sym (get_or-set_other marks b c true false ne) ∙ e)

set_stays : (marks : List Bool) (b c : ℕ) → b < length marks → is_pending marks c ≡ true → is_pending (set marks b true) c ≡ true
set_stays marks b c within e = from (cases_eq c b)
  where
    from : (c ≡ b) ⊎ (c ≢ b) → is_pending (set marks b true) c ≡ true
    from (inl is) = subst (λ k. is_pending (set marks b true) k ≡ true) (sym is) (get_or-set_same marks b true false within)
    from (inr ne) = get_or-set_other marks b c true false ne ∙ e

-- what a set mark was before, or it is the one that was set
set_from : (marks : List Bool) (b c : ℕ) → b < length marks → is_pending (set marks b true) c ≡ true → (c ≡ b) ⊎ (is_pending marks c ≡ true)
set_from marks b c within e = from (cases_eq c b)
  where
    from : (c ≡ b) ⊎ (c ≢ b) → (c ≡ b) ⊎ (is_pending marks c ≡ true)
    from (inl is) = inl is
    from (inr ne) = inr (sym (get_or-set_other marks b c true false ne) ∙ e)

-- ---- a file that was read whole

file_is : (told : Option Files) (name bytes : List ℕ) → IsFile told name bytes → (files : Files) → told ≡ Some files → get files name ≡ Some bytes
file_is told name bytes is files e = subst (λ (t : Option Files). IsFile t name bytes) e is

pub whole_fits : (told : Option Files) (name words : List ℕ) → IsFile told name (bytes_of words) → FitsFile told name words
whole_fits told name words is = record {
  there = λ files e. ap (λ (got : Option (List ℕ)). is_some got) (file_is told name (bytes_of words) is files e);
  long = λ files e. ap (λ (got : Option (List ℕ)). length (unwrap_or got [])) (file_is told name (bytes_of words) is files e) ∙ length-bytes_of words;
}

pub whole_has : (told : Option Files) (name words : List ℕ) (b : ℕ) → IsFile told name (bytes_of words) → HasBlock told name words b
whole_has told name words b is files e x less = ap (λ (got : Option (List ℕ)). slice_index (unwrap_or got []) (4096 * b + x)) (file_is told name (bytes_of words) is files e)

pub whole_kept : (told : Option Files) (name words : List ℕ) (marks : List Bool) → IsFile told name (bytes_of words) → OnHost told name words marks
whole_kept told name words marks is = record { fits = whole_fits told name words is; written = λ b clear. whole_has told name words b is }

-- ---- one block was written

-- some words of block b are others, and the file has them
pub kept_written : (told new : Option Files) (name from old words : List ℕ) (b : ℕ) (marks : List Bool) → OnHost told name old marks → FrontStored (512 * b) 512 from old words → FitsFile new name words → HasBlock new name words b → ((c : ℕ) → c ≢ b → HasBlock told name words c → HasBlock new name words c) → OnHost new name words marks
kept_written told new name from old words b marks kept put fits here others = record { fits = fits; written = λ c clear. at c clear (cases_eq c b) }
  where
    at : (c : ℕ) → is_pending marks c ≡ false → (c ≡ b) ⊎ (c ≢ b) → HasBlock new name words c
    at c clear (inl is) = subst (λ k. HasBlock new name words k) (sym is) here
    at c clear (inr ne) = others c ne (others_changed told name from old words b c put ne (kept.written c clear))

-- the same where the file may have any bytes there, and the block is marked
pub kept_torn : (told new : Option Files) (name from old words : List ℕ) (b : ℕ) (marks later : List Bool) → OnHost told name old marks → FrontStored (512 * b) 512 from old words → FitsFile new name words → ((c : ℕ) → c ≢ b → HasBlock told name words c → HasBlock new name words c) → b < length marks → later ≡ set marks b true → OnHost new name words later
kept_torn told new name from old words b marks later kept put fits others within is = record { fits = fits; written = at }
  where
    at : (c : ℕ) → is_pending later c ≡ false → HasBlock new name words c
    at c clear = let was = clear_before marks b c within (ap (λ (ms : List Bool). is_pending ms c) (sym is) ∙ clear) in others c was.0 (others_changed told name from old words b c put was.0 (kept.written c was.1))

-- each unwritten block is pending
pub pending_more : (unwritten pending later : List Bool) (b : ℕ) → ((c : ℕ) → is_pending unwritten c ≡ true → is_pending pending c ≡ true) → b < length pending → later ≡ set pending b true → (c : ℕ) → is_pending unwritten c ≡ true → is_pending later c ≡ true
pending_more unwritten pending later b held within is c e = ap (λ (ms : List Bool). is_pending ms c) is ∙ set_stays pending b c within (held c e)

pub pending_both : (unwritten pending failed later : List Bool) (b : ℕ) → ((c : ℕ) → is_pending unwritten c ≡ true → is_pending pending c ≡ true) → b < length pending → b < length unwritten → failed ≡ set unwritten b true → later ≡ set pending b true → (c : ℕ) → is_pending failed c ≡ true → is_pending later c ≡ true
pending_both unwritten pending failed later b held within marked is_failed is c e = ap (λ (ms : List Bool). is_pending ms c) is ∙ from (set_from unwritten b c marked (ap (λ (ms : List Bool). is_pending ms c) (sym is_failed) ∙ e))
  where
    from : (c ≡ b) ⊎ (is_pending unwritten c ≡ true) → is_pending (set pending b true) c ≡ true
    from (inl same) = subst (λ k. is_pending (set pending b true) k ≡ true) (sym same) (get_or-set_same pending b true false within)
    from (inr was) = set_stays pending b c within (held c was)

none_marked : (n b : ℕ) → is_pending (replicate n false) b ≡ true → ⊥
none_marked n b e = from (cases_lt b n)
  where
    from : (b < n) ⊎ (n ≤ b) → ⊥
    from (inl less) = true_false (sym e ∙ get_or-replicate n b false false less)
    from (inr past) = true_false (sym e ∙ get_or_past (replicate n false) b false (omega (arith, past, length-replicate n false)))

pub none_unwritten : (marks pending : List Bool) (n : ℕ) → marks ≡ replicate n false → (b : ℕ) → is_pending marks b ≡ true → is_pending pending b ≡ true
none_unwritten marks pending n is b e = absurd (none_marked n b (ap (λ (ms : List Bool). is_pending ms b) (sym is) ∙ e))

-- what no mark excepts holds under any marks
pub kept_all : (told : Option Files) (name words : List ℕ) (marks : List Bool) → OnHost told name words [] → OnHost told name words marks
kept_all told name words marks kept = record { fits = kept.fits; written = λ b clear. kept.written b refl }

-- ---- marked blocks are written again

-- the file has each block but the marked ones, and of these the first i that are listed
pub record WrittenFirst (told : Option Files) (name words : List ℕ) (marks : List Bool) (numbers : List ℕ) (i : ℕ) : Type 0 where
  pub kept : OnHost told name words marks
  pub done : (j : ℕ) → j < i → HasBlock told name words (slice_index numbers j)

-- none is written yet
pub written_none : (told : Option Files) (name words : List ℕ) (marks : List Bool) (numbers : List ℕ) → OnHost told name words marks → WrittenFirst told name words marks numbers 0
written_none told name words marks numbers kept = record { kept = kept; done = λ j none. absurd (omega (arith, none)) }

-- a marked block is written, or its write fails
pub kept_marked : (told new : Option Files) (name words : List ℕ) (b : ℕ) (marks : List Bool) → OnHost told name words marks → is_pending marks b ≡ true → FitsFile new name words → ((c : ℕ) → c ≢ b → HasBlock told name words c → HasBlock new name words c) → OnHost new name words marks
kept_marked told new name words b marks kept marked fits others = record { fits = fits; written = λ c clear. others c (λ is. true_false (sym marked ∙ ap (is_pending marks) (sym is) ∙ clear)) (kept.written c clear) }

pub written_next : (told new : Option Files) (name words : List ℕ) (b : ℕ) (marks : List Bool) (numbers : List ℕ) (i : ℕ) → WrittenFirst told name words marks numbers i → Lists numbers marks → i < length numbers → b ≡ slice_index numbers i → FitsFile new name words → HasBlock new name words b → ((c : ℕ) → c ≢ b → HasBlock told name words c → HasBlock new name words c) → WrittenFirst new name words marks numbers (i + 1)
written_next told new name words b marks numbers i first lists less own fits here others = record {
  kept = kept_marked told new name words b marks first.kept (ap (is_pending marks) own ∙ listed numbers marks lists i less) fits others;
  done = λ j earlier. at j earlier (cases_eq (slice_index numbers j) b);
}
  where
    at : (j : ℕ) → j < i + 1 → (slice_index numbers j ≡ b) ⊎ (slice_index numbers j ≢ b) → HasBlock new name words (slice_index numbers j)
    at j earlier (inl is) = subst (λ k. HasBlock new name words k) (sym is) here
    at j earlier (inr ne) = others (slice_index numbers j) ne (first.done j (before (cases_eq j i)))
      where
        before : (j ≡ i) ⊎ (j ≢ i) → j < i
        before (inl is) = absurd (ne (ap (slice_index numbers) is ∙ sym own))
        before (inr other) = omega (arith, earlier, other)

pub written_all : (told : Option Files) (name words : List ℕ) (marks : List Bool) (numbers : List ℕ) (i : ℕ) → WrittenFirst told name words marks numbers i → Lists numbers marks → length numbers ≤ i → OnHost told name words []
written_all told name words marks numbers i first lists all = record { fits = first.kept.fits; written = λ b none. at b (cases_Bool (is_pending marks b)) }
  where
    at : (b : ℕ) → (is_pending marks b ≡ true) ⊎ (is_pending marks b ≡ false) → HasBlock told name words b
    at b (inl e) = let f = found numbers marks lists b e in subst (λ k. HasBlock told name words k) f.2 (first.done f.0 (omega (arith, f.1, all)))
    at b (inr e) = first.kept.written b e

-- ---- what is handed out

pub settled : (told : Option Files) (asked : Asked) (faults writes : ℕ) (name words : List ℕ) (unwritten pending : List Bool) → OnHost told name words unwritten → 512 * length pending ≡ length words → ((b : ℕ) → is_pending unwritten b ≡ true → is_pending pending b ≡ true) → HasSettled told name (file_contents told asked faults name words pending writes)
settled told asked faults writes name words unwritten pending kept whole held = record {
  there = kept.fits.there;
  long = λ files e. kept.fits.long files e ∙ (let count : 8 * length words ≡ 4096 * length (blocks_of words) = omega (arith, blocks_many words, whole) in count);
  settled = λ files e b less clear. at files e b (omega (arith, less, blocks_many words)) (clear_of b clear (cases_Bool (is_pending unwritten b)));
}
  where
    clear_of : (b : ℕ) → is_pending pending b ≡ false → (is_pending unwritten b ≡ true) ⊎ (is_pending unwritten b ≡ false) → is_pending unwritten b ≡ false
    clear_of b clear (inl e) = absurd (true_false (sym (held b e) ∙ clear))
    clear_of b clear (inr e) = e

    at : (files : Files) → told ≡ Some files → (b : ℕ) → b < length words / 512 → is_pending unwritten b ≡ false → take 4096 (drop (4096 * b) (bytes_in files name)) ≡ bytes_of (block_at (blocks_of words) b)
    at files e b less clear =
        let within : 512 * b + 512 ≤ length words = omega (arith, less) in
        let bytes : List ℕ = bytes_in files name in
        let size : length bytes ≡ 8 * length words = kept.fits.long files e in
        let long : length (take 4096 (drop (4096 * b) bytes)) ≡ 4096 = length-take-le 4096 (drop (4096 * b) bytes) (omega (arith, length-drop (4096 * b) bytes, size, within)) in
        let own : length (block_words words b) ≡ 512 = length-take-le 512 (drop (512 * b) words) (omega (arith, length-drop (512 * b) words, within)) in
        ext_get_or 0 (take 4096 (drop (4096 * b) bytes)) (bytes_of (block_words words b)) (long ∙ sym (length-bytes_of (block_words words b) ∙ ap (λ n. 8 * n) own))
        (λ x lt. let small : x < 4096 = omega (arith, lt, long) in
        get_or-take 4096 (drop (4096 * b) bytes) x 0 small ∙ get_or-drop (4096 * b) bytes x 0 ∙ kept.written b clear files e x small ∙ block_bytes words b x within small)
        ∙ ap bytes_of (sym (block_is words b less))

-- words of 64 bits make blocks of such
pub blocks_fit : (words : List ℕ) → ((i : ℕ) → slice_index words i < 2 ^ 64) → (b w : ℕ) → slice_index (block_at (blocks_of words) b) w < 2 ^ 64
blocks_fit words fit b w = at (cases_lt b (length words / 512)) (cases_lt w 512)
  where
    none : (n : ℕ) → n ≡ 0 → n < 2 ^ 64
    none n e = omega (arith, e)

    at : (b < length words / 512) ⊎ (length words / 512 ≤ b) → (w < 512) ⊎ (512 ≤ w) → slice_index (block_at (blocks_of words) b) w < 2 ^ 64
    at (inl less) (inl small) = subst (λ n. n < 2 ^ 64) (sym (blocks_word words b w less small)) (fit (512 * b + w))
    at (inl less) (inr past) = none (slice_index (block_at (blocks_of words) b) w) (ap (λ (l : List ℕ). slice_index l w) (block_is words b less) ∙ get_or_past (block_words words b) w 0 (omega (arith, past, block_long words b less)))
    at (inr beyond) place = none (slice_index (block_at (blocks_of words) b) w) (ap (λ (l : List ℕ). slice_index l w) (get_or_past (blocks_of words) b [] (omega (arith, beyond, blocks_many words))))

-- ---- faults

abbrev pub no_limit : ℕ → FaultCount
no_limit n = record { count = n; limit = None }

-- a count that does not fall
pub none_lower : (old new : ℕ) → old ≤ new → FaultsLast (no_limit old) (no_limit new)
none_lower old new later = record { later = later; limit = λ most e. absurd (never most e) }
  where
    never : (most : ℕ) → None ≡ Some most → ⊥
    never most e = cc

-- a call that fails never
pub none_failed : {E : Type 0} (n : ℕ) → HasFaultCause {T = Unit {0}} {E = E} (Ok tt) (no_limit n) (no_limit n)
none_failed n = record { last = none_lower n n (le_refl n); cause = tt }

-- ---- the disk after a call

-- a block was written
pub contents_written : (told new : Option Files) (old_asked asked : Asked) (faults writes later : ℕ) (name from old words : List ℕ) (pending marks : List Bool) (b : ℕ) → around_of new asked name ≡ around_of told old_asked name → FrontStored (512 * b) 512 from old words → length from ≡ 512 → 512 * b + 512 ≤ length old → marks ≡ set pending b true → later ≡ raised writes 1 → (n : ℕ) → file_contents new asked n name words marks later ≡ with_written (file_contents told old_asked faults name old pending writes) b from (no_limit n)
contents_written told new old_asked asked faults writes later name from old words pending marks b around put long within marked counted n =
    built (blocks_changed from old words b put long within) marked counted around
  where
    built : {x y : List (List ℕ)} {p q : List Bool} {w v : ℕ} {a c : Option Around} → x ≡ y → p ≡ q → w ≡ v → a ≡ c → ◌≡◌ {A = DiskContents} (record { blocks = x; pending = p; faults = no_limit n; writes = w; around = a }) (record { blocks = y; pending = q; faults = no_limit n; writes = v; around = c })
    built e f g h i = record { blocks = e i; pending = f i; faults = no_limit n; writes = g i; around = h i }

-- all was brought to the file, or the file changed and nothing else did
pub contents_kept : (told new : Option Files) (old_asked asked : Asked) (faults writes : ℕ) (name words : List ℕ) (pending marks : List Bool) → around_of new asked name ≡ around_of told old_asked name → marks ≡ pending → (n : ℕ) → file_contents new asked n name words marks writes ≡ record (file_contents told old_asked faults name words pending writes) { faults = no_limit n }
contents_kept told new old_asked asked faults writes name words pending marks around marked n = built marked around
  where
    built : {p q : List Bool} {a c : Option Around} → p ≡ q → a ≡ c → ◌≡◌ {A = DiskContents} (record { blocks = blocks_of words; pending = p; faults = no_limit n; writes = writes; around = a }) (record { blocks = blocks_of words; pending = q; faults = no_limit n; writes = writes; around = c })
    built f h i = record { blocks = blocks_of words; pending = f i; faults = no_limit n; writes = writes; around = h i }

pub contents_synced : (told new : Option Files) (old_asked asked : Asked) (faults writes : ℕ) (name words : List ℕ) (pending marks : List Bool) → around_of new asked name ≡ around_of told old_asked name → length pending ≡ length (blocks_of words) → marks ≡ replicate (length pending) false → (n : ℕ) → file_contents new asked n name words marks writes ≡ with_synced (file_contents told old_asked faults name words pending writes) (no_limit n)
contents_synced told new old_asked asked faults writes name words pending marks around count clear n = contents_kept told new old_asked asked faults writes name words (replicate (length (blocks_of words)) false) marks around (clear ∙ ap (λ k. replicate k false) count) n

-- ---- a disk that was made

pub fresh_kept : (told new : Option Files) (name words : List ℕ) (marks : List Bool) → new ≡ told → AreFileWords told name words → OnHost new name words marks
fresh_kept told new name words marks same read = subst (λ (t : Option Files). OnHost t name words marks) (sym same) (whole_kept told name words marks read.bytes)

pub contents_fresh : (told new : Option Files) (old_asked asked : Asked) (name words : List ℕ) (marks : List Bool) → new ≡ told → AsksFor name old_asked asked → marks ≡ replicate (length words / 512) false → (n : ℕ) → file_contents new asked n name words marks 0 ≡ file_contents told old_asked n name words (replicate (length (blocks_of words)) false) 0
contents_fresh told new old_asked asked name words marks same asks clear n = contents_kept told new old_asked asked n 0 name words (replicate (length (blocks_of words)) false) marks (around_asked told new old_asked asked name same asks) (clear ∙ ap (λ k. replicate k false) (sym (blocks_many words))) n

pub fresh_marks : (words : List ℕ) (marks : List Bool) → IsDiskLength (8 * length words) → marks ≡ replicate (length words / 512) false → 512 * length marks ≡ length words
fresh_marks words marks long clear = omega (arith, long.whole, ap length clear, length-replicate (length words / 512) false)

pub same_marks : (pending unwritten : List Bool) (n : ℕ) → pending ≡ replicate n false → unwritten ≡ replicate n false → length unwritten ≡ length pending
same_marks pending unwritten n p u = ap length u ∙ sym (ap length p)

-- ---- where the words that were written to the file are lent

pub kept_given : (told new : Option Files) (name from old words given : List ℕ) (b : ℕ) (marks : List Bool) → OnHost told name old marks → FrontStored (512 * b) 512 from old words → given ≡ words → FitsFile new name given → HasBlock new name given b → ((c : ℕ) → c ≢ b → HasBlock told name given c → HasBlock new name given c) → OnHost new name words marks
kept_given told new name from old words given b marks kept put lent fits here others =
    kept_written told new name from old words b marks kept put (subst (λ (ws : List ℕ). FitsFile new name ws) lent fits) (subst (λ (ws : List ℕ). HasBlock new name ws b) lent here)
    (subst (λ (ws : List ℕ). (c : ℕ) → c ≢ b → HasBlock told name ws c → HasBlock new name ws c) lent others)

pub torn_given : (told new : Option Files) (name from old words given : List ℕ) (b : ℕ) (marks later : List Bool) → OnHost told name old marks → FrontStored (512 * b) 512 from old words → given ≡ words → FitsFile new name given → ((c : ℕ) → c ≢ b → HasBlock told name given c → HasBlock new name given c) → b < length marks → later ≡ set marks b true → OnHost new name words later
torn_given told new name from old words given b marks later kept put lent fits others within is =
    kept_torn told new name from old words b marks later kept put (subst (λ (ws : List ℕ). FitsFile new name ws) lent fits)
    (subst (λ (ws : List ℕ). (c : ℕ) → c ≢ b → HasBlock told name ws c → HasBlock new name ws c) lent others) within is

pub lent_kept : (told : Option Files) (name words given : List ℕ) (marks : List Bool) → given ≡ words → OnHost told name words marks → OnHost told name given marks
lent_kept told name words given marks lent kept = subst (λ (ws : List ℕ). OnHost told name ws marks) (sym lent) kept

pub given_kept : (new : Option Files) (name words given : List ℕ) (marks : List Bool) → given ≡ words → OnHost new name given marks → OnHost new name words marks
given_kept new name words given marks lent kept = subst (λ (ws : List ℕ). OnHost new name ws marks) lent kept

-- all was written, and then the files stayed
pub all_kept : (told new : Option Files) (name words given : List ℕ) (marks : List Bool) → new ≡ told → given ≡ words → OnHost told name given [] → OnHost new name words marks
all_kept told new name words given marks same lent kept = kept_all new name words marks (given_kept new name words given [] lent (subst (λ (t : Option Files). OnHost t name given []) (sym same) kept))
