-- The files of a fresh image and a fresh volume are a pair, which stands for the root directory alone.
use Rattle.std.proofs.Common.{◌≡◌, ◌≢◌, ℕ, ◌+◌, ◌-◌, ◌*◌, ◌/◌, ◌%◌, ◌^◌, ◌<◌, ◌≤◌, ◌==◌, Bool, true, false, cond, List, length, take, drop, slice_index, min, refl, sym, ap, subst, ◌∙◌, arith, inl, inr, pow_mono, get_or-take, length-drop, length-take-le}
use Rattle.std.specs.Prelude.{[], Option, Some}
use Rattle.std.specs.FinMap.{insert}
use Rattle.std.proofs.lemmas.Bool.{cases_lt}
use Rattle.std.proofs.lemmas.Bool.Decides.{nat_tests}
use Rattle.std.proofs.lemmas.List.{get_or_past, take-append-drop}
use Rattle.std.proofs.lemmas.List.FromFn.{get_or-map-range_with_len, length-map-range_with_len}
use Rattle.rio_base.specs.declared.places.VolumeShape.{VolumeShape}
use Rattle.rio_base.specs.Bytes.{bytes_of}
use Rattle.rio_base.specs.Disks.{blocks_of, is_pending}
use Rattle.rio_base.specs.Hosts.{Files, with_file}
use Rattle.rio_base.specs.Image.{AreImageSizes, entry_at, image_magic, image_pages, registry_pages}
use Rattle.rio_base.specs.Layout.{volume_magic}
use Rattle.rio_base.specs.Rules.{true_false}
use Rattle.rio_base.specs.Shapes.{IsServed, reserved}
use Rattle.rio_base.proofs.WordBlocks.{blocks_many, blocks_word}
use Rattle.image_codec.specs.Image.{IsImage, fresh_image_word, fresh_image_words}
use Rattle.image_codec.specs.Volume.{bitmap_word, block_words, fresh_shape, fresh_volume_word, fresh_volume_words, superblock_word}
use Rattle.image_codec.proofs.Fresh.{marked_in, superblock_in}
use Rattle.rio_model.specs.Cover.{home_word}
use Rattle.rio_model.specs.Fresh.{IsFreshVolume}
use Rattle.rio_model.specs.Registry.{HasLayout, KeepsRegistry, frames_of, gate_of, is_valid, tag_at}
use Rattle.rio_model.specs.Standing.{Restorable}
use Rattle.rio_model.proofs.FreshPair.{IsFreshPair, fresh_stands}
use Rattle.rio_model.proofs.RegistryRules.{layout_of}
use Rattle.pair_files.specs.Images.{IsImageOf}
use Rattle.pair_files.specs.Pairs.{AreBlocksIn, HasPair, IsPair, pair_machine}
use Rattle.pair_files.proofs.BytesIn.{AreWords, blocks_of_in}
use Rattle.pair_files.proofs.LeftFiles.{with_beside, with_here_told}
use Rattle.pair_files.proofs.FreshVolumes.{volume_is, volume_long, volume_same}
use Rattle.rio_commands.specs.declared.formatting.FormatSizes.{FormatSizes}
use Rattle.rio_commands.specs.declared.formatting.FormatEnd.{FormatEnd}
use Rattle.rio_commands.specs.declared.formatting.FormatEnd.TheVariants.{Formatted, DiskFault, ImageFault, Memory}
use Rattle.rio_commands.specs.Format.{disk_bytes, files_after, format_status, image_bytes, root_state}

-- ---- words of 64 bits

either_fits : (t : Bool) (a b : ℕ) → a < 2 ^ 64 → b < 2 ^ 64 → cond t a b < 2 ^ 64
either_fits true a b ha hb = ha
either_fits false a b ha hb = hb

image_word_fits : (frames scratch w : ℕ) → frames ≤ 8192 → scratch ≤ 64 → fresh_image_word frames scratch w < 2 ^ 64
image_word_fits frames scratch w few little =
    either_fits (w == 0) image_magic _ (omega arith) (either_fits (w == 1) 1 _ (omega arith) (either_fits (w == 2) frames _ (omega (arith, few)) (either_fits (w == 3) scratch 0 (omega (arith, little)) (omega arith))))

bitmap_fits : (count w : ℕ) → bitmap_word count w < 2 ^ 64
bitmap_fits count w =
    let small : min 64 (count - 64 * w) ≤ 64 = omega arith in
    let most : 2 ^ min 64 (count - 64 * w) ≤ 2 ^ 64 = pow_mono small in
    omega (arith, most)

superblock_fits : (blocks inodes w : ℕ) → blocks ≤ 32768 → inodes ≤ 32768 → superblock_word blocks inodes w < 2 ^ 64
superblock_fits blocks inodes w few little =
    either_fits (w == 0) volume_magic _ (omega arith) (either_fits (w == 1) 1 _ (omega arith) (either_fits (w == 2) blocks _ (omega (arith, few)) (either_fits (w == 3) inodes 0 (omega (arith, little)) (omega arith))))

volume_word_fits : (blocks inodes b w : ℕ) → blocks ≤ 32768 → inodes ≤ 32768 → fresh_volume_word blocks inodes b w < 2 ^ 64
volume_word_fits blocks inodes b w few little =
    either_fits (b == 0) (superblock_word blocks inodes w) _ (superblock_fits blocks inodes w few little)
    (either_fits (b == 1) (bitmap_word (reserved (fresh_shape blocks inodes)) w) _ (bitmap_fits (reserved (fresh_shape blocks inodes)) w)
    (either_fits (b == 2) (cond (w == 0) 1 0) 0 (either_fits (w == 0) 1 0 (omega arith) (omega arith)) (omega arith)))

-- so are the words of a list where all that it has are
fits_within : (words : List ℕ) (n : ℕ) → length words ≡ n → ((i : ℕ) → i < n → slice_index words i < 2 ^ 64) → AreWords words
fits_within words n long each i = elim (cases_lt i n) [
  | inl less ↦ each i less
  | inr past ↦ (let none : slice_index words i ≡ 0 = get_or_past words i 0 (omega (arith, past, long)) in omega (arith, none))
]

-- ---- the image

image_long : (frames scratch : ℕ) → length (fresh_image_words frames scratch) ≡ 512 * image_pages frames scratch
image_long frames scratch = length-map-range_with_len (fresh_image_word frames scratch) 0 (512 * image_pages frames scratch)

image_at : (frames scratch i : ℕ) → i < 512 * image_pages frames scratch → slice_index (fresh_image_words frames scratch) i ≡ fresh_image_word frames scratch i
image_at frames scratch i less = get_or-map-range_with_len (fresh_image_word frames scratch) 0 (512 * image_pages frames scratch) i i 0 less (omega arith)

image_fits : (frames scratch : ℕ) → AreImageSizes frames scratch → AreWords (fresh_image_words frames scratch)
image_fits frames scratch h = fits_within (fresh_image_words frames scratch) (512 * image_pages frames scratch) (image_long frames scratch)
    (λ i less. subst (λ v. v < 2 ^ 64) (sym (image_at frames scratch i less)) (image_word_fits frames scratch i h.most_frames h.most_scratch))

registry_from : (frames : ℕ) → 32 ≤ frames → 1 ≤ registry_pages frames
unfolding registry_pages
registry_from frames least = omega (arith, least)

registry_to : (frames : ℕ) → frames ≤ 8192 → registry_pages frames ≤ 81
unfolding registry_pages
registry_to frames most = omega (arith, most)

-- entry k lies in the registry, behind the header
within_registry : (k frames : ℕ) → k < frames → (4 ≤ entry_at k) × (entry_at k + 5 ≤ 512 * (1 + registry_pages frames))
unfolding entry_at registry_pages
within_registry k frames h = (omega arith, omega (arith, h))

-- a word behind the header's first four
image_zero : (frames scratch i : ℕ) → 4 ≤ i → fresh_image_word frames scratch i ≡ 0
image_zero frames scratch i behind = grind (arith, nat_tests, behind)

header_at : (frames scratch i : ℕ) → i < 512 → slice_index (fresh_image_words frames scratch) i ≡ fresh_image_word frames scratch i
header_at frames scratch i low = image_at frames scratch i (omega (arith, low))

image_is : (frames scratch : ℕ) → AreImageSizes frames scratch → IsImage (fresh_image_words frames scratch)
image_is frames scratch h =
    let long = image_long frames scratch in
    let from = registry_from frames h.least_frames in
    let to = registry_to frames h.most_frames in
    record {
      long = record {
        whole = omega (arith, long);
        least = omega (arith, long, from, h.least_frames, h.least_scratch);
        most = omega (arith, long, to, h.most_frames, h.most_scratch);
      };
      header = record { magic = header_at frames scratch 0 (omega arith); version = header_at frames scratch 1 (omega arith) };
      geometry = rw (header_at frames scratch 2 (omega arith), header_at frames scratch 3 (omega arith)) (record { sizes = h; pages = omega (arith, long) });
    }

-- ---- the registry, which has no entry

abbrev NoTags : List ℕ → Type 0
NoTags words = (k : ℕ) → k < frames_of words → tag_at words k ≡ 0

not_valid : (words : List ℕ) (k : ℕ) → NoTags words → k < frames_of words → is_valid (tag_at words k) ≡ true → ⊥
not_valid words k empty less e = true_false (sym e ∙ ap (λ t. is_valid t) (empty k less))

keeps_rules : (words : List ℕ) → gate_of words ≡ 0 → NoTags words → KeepsRegistry words
keeps_rules words shut empty = record {
  gate = omega (arith, shut);
  tags = λ k less. record { invalid = λ e. empty k less; bits = λ e. absurd (not_valid words k empty less e) };
  blocks = λ j k v w same. absurd (not_valid words j empty v.within v.valid);
  metadata = λ k less. record { of_file = λ e d. absurd (not_valid words k empty less e); at_index = λ e d. absurd (not_valid words k empty less e); of_size = λ e d. absurd (not_valid words k empty less e) };
  names = λ k less. record { file_from = λ e d. absurd (not_valid words k empty less e); file_to = λ e d. absurd (not_valid words k empty less e); index_to = λ e d. absurd (not_valid words k empty less e) };
  sizes = λ k less e d. absurd (not_valid words k empty less e);
  shadows = λ k less. record { most = λ e. absurd (not_valid words k empty less e); of_data = λ e d. absurd (not_valid words k empty less e) };
  apart = λ j k v w same some. absurd (not_valid words j empty v.within v.valid);
}

-- the words of the protected pages, and those of the scratch pages behind them
abbrev front : ℕ → ℕ → List ℕ
front frames scratch = take (length (fresh_image_words frames scratch) - 512 * scratch) (fresh_image_words frames scratch)

abbrev behind : ℕ → ℕ → List ℕ
behind frames scratch = drop (length (fresh_image_words frames scratch) - 512 * scratch) (fresh_image_words frames scratch)

front_at : (frames scratch i : ℕ) → i < 512 * (17 + registry_pages frames + frames) → slice_index (front frames scratch) i ≡ fresh_image_word frames scratch i
front_at frames scratch i less =
    get_or-take (length (fresh_image_words frames scratch) - 512 * scratch) (fresh_image_words frames scratch) i 0 (omega (arith, image_long frames scratch, less))
    ∙ image_at frames scratch i (omega (arith, less))

fresh_layout : (frames scratch : ℕ) → AreImageSizes frames scratch → HasLayout (front frames scratch) (behind frames scratch)
fresh_layout frames scratch h = layout_of (fresh_image_words frames scratch) frames scratch (header_at frames scratch 2 (omega arith)) (header_at frames scratch 3 (omega arith)) h (image_long frames scratch)

sized : (frames scratch : ℕ) → frames_of (front frames scratch) ≡ frames
sized frames scratch = front_at frames scratch 2 (omega arith)

no_tags : (frames scratch : ℕ) → NoTags (front frames scratch)
no_tags frames scratch k less =
    let within = within_registry k frames (subst (λ f. k < f) (sized frames scratch) less) in
    front_at frames scratch (entry_at k) (omega (arith, within.1)) ∙ image_zero frames scratch (entry_at k) within.0

fresh_restorable : (frames scratch : ℕ) (blocks : List (List ℕ)) → AreImageSizes frames scratch → Restorable (pair_machine (front frames scratch) blocks) (length (behind frames scratch))
fresh_restorable frames scratch blocks h =
    let layout = fresh_layout frames scratch h in
    record {
      header = record { magic = front_at frames scratch 0 (omega arith); version = front_at frames scratch 1 (omega arith) };
      sizes = layout.sizes;
      protected = layout.protected;
      scratch_pages = layout.scratch_pages;
      rules = keeps_rules (front frames scratch) (front_at frames scratch 4 (omega arith)) (no_tags frames scratch);
      on_disk = λ k v. absurd (not_valid (front frames scratch) k (no_tags frames scratch) v.within v.valid);
    }

-- ---- the volume

volume_at : (blocks inodes i : ℕ) → i < 512 * blocks → slice_index (fresh_volume_words blocks inodes) i ≡ fresh_volume_word blocks inodes (i / 512) (i % 512)
volume_at blocks inodes i less = get_or-map-range_with_len (λ j. fresh_volume_word blocks inodes (j / 512) (j % 512)) 0 (512 * blocks) i i 0 less (omega arith)

volume_fits : (blocks inodes : ℕ) → blocks ≤ 32768 → inodes ≤ 32768 → AreWords (fresh_volume_words blocks inodes)
volume_fits blocks inodes few little = fits_within (fresh_volume_words blocks inodes) (512 * blocks) (volume_long (fresh_volume_words blocks inodes) blocks inodes refl)
    (λ i less. subst (λ v. v < 2 ^ 64) (sym (volume_at blocks inodes i less)) (volume_word_fits blocks inodes (i / 512) (i % 512) few little))

fresh_volume_of : (shape : VolumeShape) → IsServed shape → IsFreshVolume shape (block_words (fresh_volume_words shape.blocks shape.inodes))
fresh_volume_of shape h =
    let room : 3 ≤ shape.blocks = (let from = h.sizes.blocks_from in omega (arith, from)) in
    volume_is shape (fresh_volume_words shape.blocks shape.inodes) h refl (superblock_in (fresh_volume_words shape.blocks shape.inodes) shape refl h.version room)
    (λ b less. marked_in (fresh_volume_words shape.blocks shape.inodes) shape b refl h.version room less)

-- the blocks of the disk
abbrev disk_blocks : VolumeShape → List (List ℕ)
disk_blocks shape = blocks_of (fresh_volume_words shape.blocks shape.inodes)

many : (shape : VolumeShape) → length (fresh_volume_words shape.blocks shape.inodes) / 512 ≡ shape.blocks
many shape = let long = volume_long (fresh_volume_words shape.blocks shape.inodes) shape.blocks shape.inodes refl in omega (arith, long)

disk_volume : (shape : VolumeShape) → IsServed shape → IsFreshVolume shape (home_word (disk_blocks shape))
disk_volume shape h =
    volume_same shape (block_words (fresh_volume_words shape.blocks shape.inodes)) (home_word (disk_blocks shape)) h
    (λ b w within small. blocks_word (fresh_volume_words shape.blocks shape.inodes) b w (subst (λ n. b < n) (sym (many shape)) within) small)
    (fresh_volume_of shape h)

disk_in : (shape : VolumeShape) → IsServed shape → AreBlocksIn (bytes_of (fresh_volume_words shape.blocks shape.inodes)) (disk_blocks shape)
disk_in shape h = blocks_of_in (fresh_volume_words shape.blocks shape.inodes) shape.blocks (volume_long (fresh_volume_words shape.blocks shape.inodes) shape.blocks shape.inodes refl) (volume_fits shape.blocks shape.inodes h.sizes.blocks_to h.sizes.inodes_to)

-- ---- the pair

not_pending : (b : ℕ) → is_pending [] b ≡ false
not_pending b = get_or_past [] b false (omega arith)

is_fresh : (sizes : FormatSizes) → AreImageSizes sizes.frames sizes.scratch → IsServed sizes.shape
    → IsFreshPair (pair_machine (front sizes.frames sizes.scratch) (disk_blocks sizes.shape)) (length (behind sizes.frames sizes.scratch)) sizes.shape (image_pages sizes.frames sizes.scratch) sizes.scratch
is_fresh sizes image volume = record {
  whole = (disk_in sizes.shape volume).whole;
  image = fresh_restorable sizes.frames sizes.scratch (disk_blocks sizes.shape) image;
  bare = no_tags sizes.frames sizes.scratch;
  volume = disk_volume sizes.shape volume;
  count = blocks_many (fresh_volume_words sizes.shape.blocks sizes.shape.inodes) ∙ many sizes.shape;
  told = not_pending;
  served = volume;
  pages_are = omega (arith, sum, long, rest);
  scratch_are = omega (arith, rest, long);
}
  where
    long : length (fresh_image_words sizes.frames sizes.scratch) ≡ 512 * image_pages sizes.frames sizes.scratch
    long = image_long sizes.frames sizes.scratch

    rest : length (behind sizes.frames sizes.scratch) ≡ length (fresh_image_words sizes.frames sizes.scratch) - (length (fresh_image_words sizes.frames sizes.scratch) - 512 * sizes.scratch)
    rest = length-drop (length (fresh_image_words sizes.frames sizes.scratch) - 512 * sizes.scratch) (fresh_image_words sizes.frames sizes.scratch)

    sum : length (front sizes.frames sizes.scratch) ≡ length (fresh_image_words sizes.frames sizes.scratch) - 512 * sizes.scratch
    sum = length-take-le (length (fresh_image_words sizes.frames sizes.scratch) - 512 * sizes.scratch) (fresh_image_words sizes.frames sizes.scratch) (omega arith)

pub fresh_pair : (sizes : FormatSizes) → AreImageSizes sizes.frames sizes.scratch → IsServed sizes.shape → IsPair (image_bytes sizes) (disk_bytes sizes) (root_state sizes)
fresh_pair sizes image volume = record {
  words = front sizes.frames sizes.scratch;
  scratch = behind sizes.frames sizes.scratch;
  blocks = disk_blocks sizes.shape;
  in_image = subst (IsImageOf (image_bytes sizes)) (sym (take-append-drop (length (fresh_image_words sizes.frames sizes.scratch) - 512 * sizes.scratch) (fresh_image_words sizes.frames sizes.scratch)))
      (record { fits = image_fits sizes.frames sizes.scratch image; bytes_are = refl; image = image_is sizes.frames sizes.scratch image });
  in_disk = disk_in sizes.shape volume;
  stands = fresh_stands _ _ sizes.shape (image_pages sizes.frames sizes.scratch) sizes.scratch (is_fresh sizes image volume);
}

-- and so are the files of these names, where both were written
pub files_pair : (told : Option Files) (files : Files) (image disk : List ℕ) (sizes : FormatSizes) → told ≡ Some files → image ≢ disk → AreImageSizes sizes.frames sizes.scratch → IsServed sizes.shape
    → HasPair (with_file image (image_bytes sizes) (with_file disk (disk_bytes sizes) told)) image disk (image_bytes sizes) (disk_bytes sizes) (root_state sizes)
files_pair told files image disk sizes known apart of_image of_volume = record {
  image_file = with_here_told (with_file disk (disk_bytes sizes) told) (insert files disk (disk_bytes sizes)) image (image_bytes sizes) (ap (with_file disk (disk_bytes sizes)) known);
  disk_file = with_beside (with_file disk (disk_bytes sizes) told) image (image_bytes sizes) disk (λ e. apart (sym e)) ∙ with_here_told told files disk (disk_bytes sizes) known;
  pair = fresh_pair sizes of_image of_volume;
}

-- what a run leaves that says so by its status
pub formatted_pair : (end : FormatEnd) (image disk : List ℕ) (sizes : FormatSizes) (status : ℕ) (told told_now : Option Files)
    → status ≡ format_status end → told_now ≡ files_after end image disk (image_bytes sizes) (disk_bytes sizes) told → image ≢ disk → AreImageSizes sizes.frames sizes.scratch → IsServed sizes.shape
    → status ≡ 0 → (files : Files) → told ≡ Some files → HasPair told_now image disk (image_bytes sizes) (disk_bytes sizes) (root_state sizes)
formatted_pair Formatted image disk sizes status told told_now is left apart of_image of_volume zero files known =
    subst (λ t. HasPair t image disk (image_bytes sizes) (disk_bytes sizes) (root_state sizes)) (sym left) (files_pair told files image disk sizes known apart of_image of_volume)
formatted_pair DiskFault image disk sizes status told told_now is left apart of_image of_volume zero files known = absurd (omega (arith, is, zero))
formatted_pair ImageFault image disk sizes status told told_now is left apart of_image of_volume zero files known = absurd (omega (arith, is, zero))
formatted_pair Memory image disk sizes status told told_now is left apart of_image of_volume zero files known = absurd (omega (arith, is, zero))
