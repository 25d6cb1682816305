-- The files that are left where a machine was taken back: which of them are as before, and which blocks the disk's has.
use Rattle.std.proofs.Common.{◌≡◌, ◌≢◌, ◌<◌, ◌≤◌, ℕ, ◌+◌, ◌*◌, ◌/◌, ◌%◌, ◌^◌, Bool, true, false, cond, List, [], length, take, drop, slice_index, Option, Some, None, is_some, unwrap_or, ◌⊎◌, inl, inr, refl, sym, ap, subst, ◌∙◌, arith, get_or-take, get_or-drop}
use Rattle.std.specs.Cmp.Lexicographic.{slice_cmp, nat_list_cmp_total}
use Rattle.std.specs.FinMap.{get, insert, remove, get-insert, get-remove, same_map, slice_cmp-IsAntisymmetric, nat_cmp-IsAntisymmetric}
use Rattle.std.specs.Ordering.{eq_by_cmp, nat_cmp}
use Rattle.std.proofs.lemmas.Bool.{cases_Bool, cases_lt}
use Rattle.std.proofs.lemmas.List.{ext_get_or, get_or_past}
use Rattle.std.proofs.lemmas.Map.Text.{is_eq-slice_cmp}
use Rattle.std.proofs.lemmas.Slice.Eq.{bytes_eq-Decides}
use Rattle.rio_base.specs.Blocks.{Around}
use Rattle.rio_base.specs.Bytes.{bytes_of}
use Rattle.rio_base.specs.Disks.{DiskContents, block_at, blocks_of, is_pending}
use Rattle.rio_base.specs.Hosts.{Asked, Files, IsFile, bytes_in, with_file}
use Rattle.rio_base.specs.Machine.{Contents}
use Rattle.rio_base.specs.Rules.{true_false}
use Rattle.rio_base.proofs.Bytes.{length-bytes_of}
use Rattle.rio_base.proofs.WordBlocks.{block_is, blocks_many}
use Rattle.block_disk.specs.HostDisks.{HasSettled, around_of}
use Rattle.block_disk.proofs.FileBlocks.{block_bytes}
use Rattle.block_disk.proofs.HostFiles.{get_put}
use Rattle.rio_model.specs.Cover.{MayLeave}
use Rattle.machine_bench.specs.Benches.{HandsBack}
use Rattle.pair_files.specs.Pairs.{AreBlocksIn, file_of}
use Rattle.pair_files.specs.Saves.{Leaves, disk_of}
use Rattle.pair_files.proofs.BytesIn.{block_is_long, block_read, blocks_in, words_in}

-- ---- one file of several

-- the test by which a name is found
abbrev same : List ℕ → List ℕ → Bool
same q name = eq_by_cmp (slice_cmp nat_cmp) q name

is_same : (q name : List ℕ) → same q name ≡ true → q ≡ name
is_same q name e = (bytes_eq-Decides q name).0 (sym (is_eq-slice_cmp q name) ∙ e)

cases_name : (q name : List ℕ) → (q ≡ name) ⊎ (same q name ≡ false)
cases_name q name = by (cases_Bool (same q name))
  where
    by : (same q name ≡ true) ⊎ (same q name ≡ false) → (q ≡ name) ⊎ (same q name ≡ false)
    by (inl e) = inl (is_same q name e)
    by (inr e) = inr e

not_same : (q name : List ℕ) → q ≢ name → same q name ≡ false
not_same q name ne = by (cases_name q name)
  where
    by : (q ≡ name) ⊎ (same q name ≡ false) → same q name ≡ false
    by (inl e) = absurd (ne e)
    by (inr e) = e

get_gone : (files : Files) (name q : List ℕ) → same q name ≡ false → get (remove files name) q ≡ get files q
get_gone files name q other = get-remove nat_list_cmp_total files name q ∙ ap (λ t. cond t None (get files q)) other

get_beside : (files : Files) (name bytes q : List ℕ) → same q name ≡ false → get (insert files name bytes) q ≡ get files q
get_beside files name bytes q other = get-insert nat_list_cmp_total files name bytes q ∙ ap (λ t. cond t (Some bytes) (get files q)) other

none_some : {A : Type 0} (x : A) → None ≡ Some x → ⊥
none_some x e = cc

some_list : (x y : List ℕ) → Some x ≡ Some y → x ≡ y
some_list x y e = cc

pub file_there : (told : Option Files) (name bytes : List ℕ) → file_of told name ≡ Some bytes → IsFile told name bytes
file_there None name bytes e = absurd (none_some bytes e)
file_there (Some files) name bytes e = e

pub files_told : (told : Option Files) (name bytes : List ℕ) → file_of told name ≡ Some bytes → (files : Files) × (told ≡ Some files)
files_told None name bytes e = absurd (none_some bytes e)
files_told (Some files) name bytes e = (files, refl)

pub file_known : (told : Option Files) (files : Files) (name bytes : List ℕ) → told ≡ Some files → IsFile told name bytes → file_of told name ≡ Some bytes
file_known None files name bytes e is = absurd (none_some files e)
file_known (Some others) files name bytes e is = is

-- a file that is there has one list of bytes
pub one_file : (told : Option Files) (name a b : List ℕ) → file_of told name ≡ Some a → IsFile told name b → b ≡ a
one_file None name a b e is = absurd (none_some a e)
one_file (Some files) name a b e is = some_list b a (sym is ∙ e)

-- a file was put there
pub with_here : (told : Option Files) (name bytes : List ℕ) → IsFile (with_file name bytes told) name bytes
with_here None name bytes = tt
with_here (Some files) name bytes = get_put files name bytes

pub with_here_told : (told : Option Files) (files : Files) (name bytes : List ℕ) → told ≡ Some files → file_of (with_file name bytes told) name ≡ Some bytes
with_here_told None files name bytes e = absurd (none_some files e)
with_here_told (Some others) files name bytes e = get_put others name bytes

pub with_beside : (told : Option Files) (name bytes q : List ℕ) → q ≢ name → file_of (with_file name bytes told) q ≡ file_of told q
with_beside None name bytes q ne = refl
with_beside (Some files) name bytes q ne = get_beside files name bytes q (not_same q name ne)

-- a file was put there that was so
pub with_same : (told : Option Files) (name bytes : List ℕ) → IsFile told name bytes → with_file name bytes told ≡ told
with_same None name bytes is = refl
with_same (Some files) name bytes is = ap Some (same_map nat_list_cmp_total (slice_cmp-IsAntisymmetric nat_cmp-IsAntisymmetric) (insert files name bytes) files (λ q. by q (cases_name q name)))
  where
    by : (q : List ℕ) → (q ≡ name) ⊎ (same q name ≡ false) → get (insert files name bytes) q ≡ get files q
    by q (inl e) = ap (get (insert files name bytes)) e ∙ get_put files name bytes ∙ sym is ∙ ap (get files) (sym e)
    by q (inr other) = get_beside files name bytes q other

-- ---- by what is around the disk's

others_in : Option Around → List ℕ → Option (List ℕ)
others_in None q = None
others_in (Some a) q = a.others q

-- the name of the disk's file, by what is around it
name_in : List ℕ → Option Around → List ℕ
name_in name None = name
name_in name (Some a) = a.file

-- the other files are as before
other_left : (told left : Option Files) (old later : Asked) (disk q : List ℕ) → around_of left later disk ≡ around_of told old disk → same q disk ≡ false → file_of left q ≡ file_of told q
unfolding others_in
other_left None None old later disk q e other = refl
other_left None (Some now) old later disk q e other = absurd (none_some _ (sym e))
other_left (Some files) None old later disk q e other = absurd (none_some _ e)
other_left (Some files) (Some now) old later disk q e other = sym (get_gone now disk q other) ∙ ap (λ (a : Option Around). others_in a q) e ∙ get_gone files disk q other

pub others_left : (told left : Option Files) (old later : Asked) (disk q : List ℕ) → around_of left later disk ≡ around_of told old disk → q ≢ disk → file_of left q ≡ file_of told q
others_left told left old later disk q e ne = other_left told left old later disk q e (not_same q disk ne)

pub left_told : (told left : Option Files) (old later : Asked) (disk : List ℕ) (files : Files) → around_of left later disk ≡ around_of told old disk → told ≡ Some files → (now : Files) × (left ≡ Some now)
left_told None left old later disk files e is = absurd (none_some files is)
left_told (Some others) None old later disk files e is = absurd (none_some _ e)
left_told (Some others) (Some now) old later disk files e is = (now, refl)

-- ---- the disk's own

-- these bytes have each block of a machine's disk that isn't pending
pub record AreDiskBytes (c : Contents) (bytes : List ℕ) : Type 0 where
  pub count : length bytes ≡ 4096 * length c.disk
  pub settled : (b : ℕ) → b < length c.disk → is_pending c.pending b ≡ false → take 4096 (drop (4096 * b) bytes) ≡ bytes_of (block_at c.disk b)

no_some : is_some {T = List ℕ} None ≡ true → ⊥
no_some e = cc

-- the file is there
pub disk_left : (left : Option Files) (now : Files) (disk : List ℕ) (c : Contents) → left ≡ Some now → HasSettled left disk (disk_of c) → (bytes : List ℕ) × (file_of left disk ≡ Some bytes) × AreDiskBytes c bytes
disk_left None now disk c e h = absurd (none_some now e)
disk_left (Some files) now disk c e h = by (get files disk) refl (h.there files refl)
  where
    by : (got : Option (List ℕ)) → get files disk ≡ got → is_some (get files disk) ≡ true → (bytes : List ℕ) × (file_of (Some files) disk ≡ Some bytes) × AreDiskBytes c bytes
    by None is there = absurd (no_some (ap (λ (o : Option (List ℕ)). is_some o) (sym is) ∙ there))
    by (Some bytes) is there =
        let own : bytes_in files disk ≡ bytes = ap (λ (o : Option (List ℕ)). unwrap_or o []) is in (
          bytes,
          is,
          record {
            count = sym (ap (λ (bs : List ℕ). length bs) own) ∙ h.long files refl;
            settled = λ b less clear. ap (λ (bs : List ℕ). take 4096 (drop (4096 * b) bs)) (sym own) ∙ h.settled files refl b less clear;
          },
        )

-- its blocks are some that a stop may leave
pub left_blocks : (c : Contents) (bytes : List ℕ) → AreDiskBytes c bytes → ((b w : ℕ) → slice_index (block_at c.disk b) w < 2 ^ 64) → (blocks : List (List ℕ)) × AreBlocksIn bytes blocks × MayLeave c blocks
left_blocks c bytes h fit = (blocks, own, record { count = many; whole = own.whole; kept = λ b clear. at b clear (cases_lt b (length c.disk)) })
  where
    blocks : List (List ℕ)
    blocks = blocks_of (words_in bytes)

    own : AreBlocksIn bytes blocks
    own = blocks_in bytes (length c.disk) h.count

    many : length blocks ≡ length c.disk
    many = omega (arith, own.count, h.count)

    at : (b : ℕ) → is_pending c.pending b ≡ false → (b < length c.disk) ⊎ (length c.disk ≤ b) → block_at blocks b ≡ block_at c.disk b
    at b clear (inl less) =
        let within : b < length blocks = omega (arith, less, many) in
        let fits : 4096 * b + 4096 ≤ length bytes = omega (arith, less, h.count) in
        let is = h.settled b less clear in
        ext_get_or 0 (block_at blocks b) (block_at c.disk b) (own.whole b within ∙ sym (block_is_long bytes (block_at c.disk b) b fits is))
        (λ w small. let short : w < 512 = omega (arith, small, own.whole b within) in
        own.words b w within short ∙ block_read bytes (block_at c.disk b) b w fits is (fit b) short)
    at b clear (inr past) = get_or_past blocks b [] (omega (arith, past, many)) ∙ sym (get_or_past c.disk b [] past)

-- ---- where nothing was written

-- bytes that have each block of words are those of the words
bytes_kept : (c : Contents) (bytes words : List ℕ) (n : ℕ) → length words ≡ 512 * n → c.disk ≡ blocks_of words → ((b : ℕ) → is_pending c.pending b ≡ false) → AreDiskBytes c bytes → bytes ≡ bytes_of words
bytes_kept c bytes words n long is clear h = ext_get_or 0 bytes (bytes_of words) (omega (arith, count, long, length-bytes_of words)) (λ x less. at x (omega (arith, less, count)))
  where
    many : length c.disk ≡ n
    many = ap (λ (blocks : List (List ℕ)). length blocks) is ∙ (let m : length (blocks_of words) ≡ n = omega (arith, blocks_many words, long) in m)

    count : length bytes ≡ 4096 * n
    count = omega (arith, h.count, many)

    at : (x : ℕ) → x < 4096 * n → slice_index bytes x ≡ slice_index (bytes_of words) x
    at x less =
        let b : ℕ = x / 4096 in
        let y : ℕ = x % 4096 in
        let place : 4096 * b + y ≡ x = omega arith in
        let small : y < 4096 = omega arith in
        let within : b < length c.disk = omega (arith, less, many) in
        let fits : 512 * b + 512 ≤ length words = omega (arith, less, long) in
        let inner : b < length words / 512 = omega (arith, fits) in
        ap (slice_index bytes) (sym place)
        ∙ sym (get_or-take 4096 (drop (4096 * b) bytes) y 0 small ∙ get_or-drop (4096 * b) bytes y 0)
        ∙ ap (λ (bs : List ℕ). slice_index bs y) (h.settled b within (clear b) ∙ ap (λ (blocks : List (List ℕ)). bytes_of (block_at blocks b)) is ∙ ap bytes_of (block_is words b inner))
        ∙ sym (block_bytes words b y fits small)
        ∙ ap (slice_index (bytes_of words)) place

none_left : (left : Option Files) (later : Asked) (disk : List ℕ) → around_of left later disk ≡ None → left ≡ None
none_left None later disk e = refl
none_left (Some now) later disk e = absurd (none_some _ (sym e))

-- the files are those of before
some_left : (files now : Files) (disk : List ℕ) (c : Contents) (words : List ℕ) (n : ℕ) → get files disk ≡ Some (bytes_of words) → length words ≡ 512 * n → c.disk ≡ blocks_of words → ((b : ℕ) → is_pending c.pending b ≡ false) → Leaves (Some files) disk c (Some now) → now ≡ files
some_left files now disk c words n file long is clear h = same_map nat_list_cmp_total (slice_cmp-IsAntisymmetric nat_cmp-IsAntisymmetric) now files (λ q. each q (cases_name q disk))
  where
    own : (bytes : List ℕ) × (file_of (Some now) disk ≡ Some bytes) × AreDiskBytes c bytes
    own = disk_left (Some now) now disk c refl h.settled

    each : (q : List ℕ) → (q ≡ disk) ⊎ (same q disk ≡ false) → get now q ≡ get files q
    each q (inl one) = ap (get now) one ∙ own.1 ∙ ap Some (bytes_kept c own.0 words n long is clear own.2) ∙ sym file ∙ ap (get files) (sym one)
    each q (inr other) = other_left (Some files) (Some now) h.asked_before h.asked disk q h.around other

pub files_kept : (told left : Option Files) (disk : List ℕ) (c : Contents) (words : List ℕ) (n : ℕ) → IsFile told disk (bytes_of words) → length words ≡ 512 * n → c.disk ≡ blocks_of words → ((b : ℕ) → is_pending c.pending b ≡ false) → Leaves told disk c left → left ≡ told
files_kept None left disk c words n file long is clear h = none_left left h.asked disk h.around
files_kept (Some files) None disk c words n file long is clear h = absurd (none_some _ h.around)
files_kept (Some files) (Some now) disk c words n file long is clear h = ap Some (some_left files now disk c words n file long is clear h)

-- ---- a machine that was taken back

-- what the disk's host has after it was handed out
pub leaves_by : (told left : Option Files) (old later : Asked) (disk name : List ℕ) (c : Contents) (d : DiskContents) → HasSettled left name d → around_of left later name ≡ d.around → ((b w : ℕ) → slice_index (block_at d.blocks b) w < 2 ^ 64) → HandsBack c d → c.around ≡ around_of told old disk → Leaves told disk c left
unfolding name_in
leaves_by told left old later disk name c d file around fit back here = by left told file (around ∙ back.around ∙ here)
  where
    words : (b w : ℕ) → slice_index (block_at c.disk b) w < 2 ^ 64
    words = subst (λ (blocks : List (List ℕ)). (b w : ℕ) → slice_index (block_at blocks b) w < 2 ^ 64) back.blocks fit

    clear : (b : ℕ) → is_pending c.pending b ≡ false → (is_pending d.pending b ≡ true) ⊎ (is_pending d.pending b ≡ false) → is_pending d.pending b ≡ false
    clear b none (inl e) = absurd (true_false (sym (back.pending b e) ∙ none))
    clear b none (inr e) = e

    count : length d.blocks ≡ length c.disk
    count = ap (λ (blocks : List (List ℕ)). length blocks) back.blocks

    settled : (left : Option Files) → HasSettled left name d → HasSettled left name (disk_of c)
    settled left h = record {
      there = h.there;
      long = λ files e. h.long files e ∙ ap (λ n. 4096 * n) count;
      settled = λ files e b less none. h.settled files e b (omega (arith, less, count)) (clear b none (cases_Bool (is_pending d.pending b))) ∙ ap (λ (blocks : List (List ℕ)). bytes_of (block_at blocks b)) back.blocks;
    }

    by : (left told : Option Files) → HasSettled left name d → around_of left later name ≡ around_of told old disk → Leaves told disk c left
    by None None h e = record { asked_before = old; asked = later; around = refl; settled = record { there = λ files is. absurd (none_some files is); long = λ files is. absurd (none_some files is); settled = λ files is. absurd (none_some files is) }; fit = words }
    by None (Some files) h e = absurd (none_some _ e)
    by (Some now) None h e = absurd (none_some _ (sym e))
    by (Some now) (Some files) h e =
        let one : name ≡ disk = ap (name_in disk) e in
        record {
          asked_before = old;
          asked = later;
          around = subst (λ (n : List ℕ). around_of (Some now) later n ≡ around_of (Some files) old disk) one e;
          settled = subst (λ (n : List ℕ). HasSettled (Some now) n (disk_of c)) one (settled (Some now) h);
          fit = words;
        }
