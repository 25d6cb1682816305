-- Laws of pairs: what is loaded of one stands for its state, what is saved of a machine is a pair of what it stands for, and no
-- rule of a pair fails.
use Rattle.std.proofs.Common.{◌≡◌, ◌≢◌, ◌<◌, ◌≤◌, ℕ, ◌+◌, ◌*◌, ◌/◌, false, List, ◌++◌, length, slice_index, Option, Some, None, ◌⊎◌, inl, inr, refl, sym, ap, subst, ◌∙◌, arith, length-append}
use Rattle.std.specs.Option.{option_map}
use Rattle.std.proofs.lemmas.List.{get_or_append_left, take-append-drop}
use Rattle.rio_base.specs.Bytes.{bytes_of, word_at}
use Rattle.rio_base.specs.Disks.{DiskContents, block_at, blocks_of, is_pending}
use Rattle.rio_base.specs.Hosts.{Files, HasSize, IsAbsent, IsFile}
use Rattle.rio_base.specs.Image.{AreImageSizes, registry_pages}
use Rattle.rio_base.specs.Machine.{Contents}
use Rattle.rio_base.proofs.Bytes.{length-bytes_of}
use Rattle.image_codec.specs.Image.{IsImage, KeepsRules}
use Rattle.image_codec.specs.declared.fault.ImageFault.TheVariants.{BadLength as BadLong, BadMagic, BadVersion, BadGeometry, Memory as NoMemory}
use Rattle.image_codec.proofs.Rules.{keeps_from, never}
use Rattle.board.specs.Boards.{protected_count, protected_of, scratch_of}
use Rattle.block_disk.specs.HostDisks.{IsDiskLength}
use Rattle.rio_model.specs.declared.state.State.{State}
use Rattle.rio_model.specs.Cover.{MayLeave}
use Rattle.rio_model.specs.Registry.{FailsRegistry, HasLayout, KeepsRegistry}
use Rattle.rio_model.specs.Standing.{Restorable, StandsFor}
use Rattle.rio_model.specs.VolumeFails.{FailsPair}
use Rattle.rio_model.proofs.StandingStates.{stands_for_stopped, stands_one}
use Rattle.rio_model.proofs.VolumeFailRules.{none_fails_standing}
use Rattle.warm_reboot.proofs.Examines.{none_registry}
use Rattle.pair_files.specs.declared.failures.LoadFail.{LoadFail}
use Rattle.pair_files.specs.declared.failures.LoadFail.TheVariants.{Absent, BadImage, BadLength, Fault, Memory}
use Rattle.pair_files.specs.declared.names.PairFile.TheVariants.{Image, Disk}
use Rattle.pair_files.specs.Images.{Breaks, FailsRule, IsImageOf}
use Rattle.pair_files.specs.Loads.{IsDiskLoaded, IsImageLoaded, Misses, TellsNoBreach}
use Rattle.pair_files.specs.Pairs.{AreBlocksIn, BreaksVolume, HasPair, IsPair, file_of, pair_machine}
use Rattle.pair_files.proofs.BytesIn.{blocks_of_in, one_blocks, one_words, split_same, word_back}
use Rattle.pair_files.proofs.LeftFiles.{one_file}

-- ---- images

-- an image has its sizes in words 2 and 3, which are protected
pub head_same : (words scratch : List ℕ) (i : ℕ) → i < length words → slice_index (words ++ scratch) i ≡ slice_index words i
head_same words scratch i less = get_or_append_left words scratch 0 i less

-- the words of a machine that may be restored are an image
pub image_of : (c : Contents) (scratch : List ℕ) → Restorable c (length scratch) → IsImage (c.words ++ scratch)
unfolding registry_pages
image_of c scratch h = record {
  long = record { whole = omega (arith, all); least = omega (arith, all, h.sizes.least_frames, h.sizes.least_scratch); most = omega (arith, all, h.sizes.most_frames, h.sizes.most_scratch) };
  header = record { magic = head_same c.words scratch 0 (omega (arith, long)) ∙ h.header.magic; version = head_same c.words scratch 1 (omega (arith, long)) ∙ h.header.version };
  geometry = record {
    sizes = subst (λ f. AreImageSizes f (slice_index (c.words ++ scratch) 3)) (sym two) (subst (λ n. AreImageSizes (slice_index c.words 2) n) (sym three) h.sizes);
    pages = omega (arith, all, two, three);
  };
}
  where
    long : 512 ≤ length c.words
    long = omega (arith, h.protected)

    two : slice_index (c.words ++ scratch) 2 ≡ slice_index c.words 2
    two = head_same c.words scratch 2 (omega (arith, long))

    three : slice_index (c.words ++ scratch) 3 ≡ slice_index c.words 3
    three = head_same c.words scratch 3 (omega (arith, long))

    all : length (c.words ++ scratch) ≡ 512 * (17 + (slice_index c.words 2 + 101) / 102 + slice_index c.words 2 + slice_index c.words 3)
    all = omega (arith, length-append c.words scratch, h.protected, h.scratch_pages)

-- the words of an image, of which as many are protected as its sizes say
pub one_layout : (a b x y : List ℕ) → a ++ b ≡ x ++ y → HasLayout a b → HasLayout x y → (a ≡ x) × (b ≡ y)
one_layout a b x y e h k = split_same a b x y e (omega (arith, h.protected, k.protected, ap registry_pages frames, frames))
  where
    some : (n : ℕ) → 2 < 512 * (17 + n)
    some n = omega arith

    frames : slice_index a 2 ≡ slice_index x 2
    frames = sym (head_same a b 2 (omega (arith, h.protected))) ∙ ap (λ (words : List ℕ). slice_index words 2) e ∙ head_same x y 2 (omega (arith, k.protected))

-- that of a machine that may be restored
pub layout_in : (c : Contents) (scratch : List ℕ) → Restorable c (length scratch) → HasLayout c.words scratch
layout_in c scratch h = record { sizes = h.sizes; protected = h.protected; scratch_pages = h.scratch_pages }

-- bytes are one image at most
pub one_image : (bytes a b : List ℕ) → IsImageOf bytes a → IsImageOf bytes b → a ≡ b
one_image bytes a b h k = one_words bytes a b h.fits k.fits h.bytes_are k.bytes_are

keeps_rules : (bytes words : List ℕ) → IsImageOf bytes words → KeepsRules bytes
keeps_rules bytes words h = keeps_from bytes words (ap length h.bytes_are ∙ length-bytes_of words) (λ k less. ap (λ (bs : List ℕ). word_at bs k) h.bytes_are ∙ word_back words k h.fits less) h.image

-- no rule of an image fails that keeps all
pub none_breaks : (bytes words scratch : List ℕ) (rule : ℕ) → IsImageOf bytes (words ++ scratch) → HasLayout words scratch → KeepsRegistry words → FailsRule bytes rule → ⊥
none_breaks bytes words scratch rule h layout keeps fails = by fails
  where
    rules : KeepsRules bytes
    rules = keeps_rules bytes (words ++ scratch) h

    length_known : BadLong ≢ NoMemory
    length_known e = cc

    magic_known : BadMagic ≢ NoMemory
    magic_known e = cc

    version_known : BadVersion ≢ NoMemory
    version_known e = cc

    geometry_known : BadGeometry ≢ NoMemory
    geometry_known e = cc

    by : FailsRule bytes rule → ⊥
    by (inl x) = never bytes rules BadLong length_known x.1
    by (inr (inl x)) = never bytes rules BadMagic magic_known x.1
    by (inr (inr (inl x))) = never bytes rules BadVersion version_known x.1
    by (inr (inr (inr (inl x)))) = never bytes rules BadGeometry geometry_known x.1
    by (inr (inr (inr (inr (other, behind, are, other_layout, x))))) =
        let same = one_layout words scratch other behind (one_image bytes (words ++ scratch) (other ++ behind) h are) layout other_layout in
        none_registry words rule keeps (subst (λ (ws : List ℕ). FailsRegistry ws rule) (sym same.0) x)

-- ---- disks

-- the words of a disk's file make a whole number of blocks
pub file_blocks : (words : List ℕ) → IsDiskLength (8 * length words) → length words ≡ 512 * (length words / 512)
file_blocks words long = omega (arith, long.whole)

-- ---- a machine and a pair

-- a machine has the words and the blocks of a pair, and nothing pending: it stands for the pair's state
pub pair_stands : (i k : List ℕ) (s : State) (words scratch : List ℕ) (blocks : List (List ℕ)) (c : Contents) (n : ℕ) → IsPair i k s → IsImageOf i (words ++ scratch) → HasLayout words scratch → AreBlocksIn k blocks → c.words ≡ words → c.disk ≡ blocks → ((b : ℕ) → is_pending c.pending b ≡ false) → n ≡ length scratch → StandsFor c n s
pair_stands i k s words scratch blocks c n h are layout in_disk words_are disk_is clear count =
    stands_for_stopped (pair_machine h.words h.blocks) c (length h.scratch) n s (words_are ∙ sym same.0) leaves clear (count ∙ ap (λ (ws : List ℕ). length ws) (sym same.1)) h.stands
  where
    same : (h.words ≡ words) × (h.scratch ≡ scratch)
    same = one_layout h.words h.scratch words scratch (one_image i (h.words ++ h.scratch) (words ++ scratch) h.in_image are) (layout_in (pair_machine h.words h.blocks) h.scratch h.stands.image) layout

    disk : c.disk ≡ h.blocks
    disk = disk_is ∙ one_blocks k blocks h.blocks in_disk h.in_disk

    leaves : MayLeave (pair_machine h.words h.blocks) c.disk
    leaves = record {
      count = ap (λ (ds : List (List ℕ)). length ds) disk;
      whole = subst (λ (ds : List (List ℕ)). (b : ℕ) → b < length ds → length (block_at ds b) ≡ 512) (sym disk) h.in_disk.whole;
      kept = λ b none. ap (λ (ds : List (List ℕ)). block_at ds b) disk;
    }

-- a machine stands for a state: the bytes of its words, and those of blocks that it may leave, are a pair of it
pub machine_pair : (i k : List ℕ) (s : State) (words scratch : List ℕ) (blocks : List (List ℕ)) (c : Contents) (n : ℕ) → IsImageOf i (words ++ scratch) → AreBlocksIn k blocks → MayLeave c blocks → c.words ≡ words → length scratch ≡ n → StandsFor c n s → IsPair i k s
machine_pair i k s words scratch blocks c n are in_disk leaves words_are count h = record {
  words = words;
  scratch = scratch;
  blocks = blocks;
  in_image = are;
  in_disk = in_disk;
  stands = stands_for_stopped c (pair_machine words blocks) n (length scratch) s (sym words_are) leaves (λ b. refl) count h;
}

-- a pair stands for one state
pub one_pair : (i k : List ℕ) (s t : State) → IsPair i k s → IsPair i k t → s ≡ t
one_pair i k s t h p =
    stands_one (pair_machine p.words p.blocks) (length p.scratch) s t p.in_disk.whole
    (pair_stands i k s p.words p.scratch p.blocks (pair_machine p.words p.blocks) (length p.scratch) h p.in_image (layout_in (pair_machine p.words p.blocks) p.scratch p.stands.image) p.in_disk refl refl (λ b. refl) refl)
    p.stands

-- ---- what is loaded

pub image_whole : (words : List ℕ) (scratch : ℕ) → protected_of words scratch ++ scratch_of words scratch ≡ words
image_whole words scratch = take-append-drop (protected_count words scratch) words

pub image_parts : (bytes words : List ℕ) (scratch : ℕ) → IsImageOf bytes words → IsImageOf bytes (protected_of words scratch ++ scratch_of words scratch)
image_parts bytes words scratch h = subst (IsImageOf bytes) (sym (image_whole words scratch)) h

-- of a pair: a machine with what was loaded stands for its state
pub pair_loaded : (told : Option Files) (image disk i k : List ℕ) (s : State) (bytes words : List ℕ) (scratch : ℕ) (d : DiskContents) (c : Contents) (n : ℕ) → HasPair told image disk i k s → IsImageLoaded told image bytes words scratch → IsDiskLoaded told disk d → c.words ≡ protected_of words scratch → c.disk ≡ d.blocks → ((b : ℕ) → is_pending c.pending b ≡ false) → n ≡ length (scratch_of words scratch) → StandsFor c n s
pair_loaded told image disk i k s bytes words scratch d c n h loaded on words_are disk_is clear count =
    pair_stands i k s (protected_of words scratch) (scratch_of words scratch) (blocks_of on.words) c n h.pair
    (subst (λ (bs : List ℕ). IsImageOf bs (protected_of words scratch ++ scratch_of words scratch)) (one_file told image i bytes h.image_file loaded.file) (image_parts bytes words scratch loaded.read.are))
    loaded.read.layout
    (subst (λ (bs : List ℕ). AreBlocksIn bs (blocks_of on.words)) (one_file told disk k (bytes_of on.words) h.disk_file on.file.bytes) (blocks_of_in on.words (length on.words / 512) (file_blocks on.words on.file.long) on.file.fit))
    words_are (disk_is ∙ on.blocks) clear count

-- and a machine with what was loaded, if it stands for a state, had it from a pair
pub loaded_pair : (told : Option Files) (image disk : List ℕ) (s : State) (bytes words : List ℕ) (scratch : ℕ) (d : DiskContents) (c : Contents) (n : ℕ) → IsImageLoaded told image bytes words scratch → (on : IsDiskLoaded told disk d) → c.words ≡ protected_of words scratch → c.disk ≡ d.blocks → length (scratch_of words scratch) ≡ n → StandsFor c n s → IsPair bytes (bytes_of on.words) s
loaded_pair told image disk s bytes words scratch d c n loaded on words_are disk_is count h =
    machine_pair bytes (bytes_of on.words) s (protected_of words scratch) (scratch_of words scratch) (blocks_of on.words) c n (image_parts bytes words scratch loaded.read.are) in_disk
    (record { count = ap (λ (ds : List (List ℕ)). length ds) (sym same_disk); whole = in_disk.whole; kept = λ b clear. ap (λ (ds : List (List ℕ)). block_at ds b) (sym same_disk) })
    words_are count h
  where
    in_disk : AreBlocksIn (bytes_of on.words) (blocks_of on.words)
    in_disk = blocks_of_in on.words (length on.words / 512) (file_blocks on.words on.file.long) on.file.fit

    same_disk : c.disk ≡ blocks_of on.words
    same_disk = disk_is ∙ on.blocks

-- ---- no rule of a pair fails

none_some : {A : Type 0} (x : A) → None ≡ Some x → ⊥
none_some x e = cc

some_number : (x y : ℕ) → Some x ≡ Some y → x ≡ y
some_number x y e = cc

not_absent : (told : Option Files) (name bytes : List ℕ) → file_of told name ≡ Some bytes → IsAbsent told name → ⊥
not_absent None name bytes e none = none_some bytes e
not_absent (Some files) name bytes e none = none_some bytes (sym none ∙ e)

size_is : (told : Option Files) (name bytes : List ℕ) (size : ℕ) → file_of told name ≡ Some bytes → HasSize told name (Some size) → size ≡ length bytes
size_is None name bytes size e is = absurd (none_some bytes e)
size_is (Some files) name bytes size e is = some_number size (length bytes) (is ∙ ap (λ (o : Option (List ℕ)). option_map length o) e)

-- a disk of a pair has a disk's length
pub pair_long : (i k : List ℕ) (s : State) → IsPair i k s → IsDiskLength (length k)
pair_long i k s h =
    let shape = h.stands.served.sizes in
    let blocks = h.stands.blocks in
    record {
      whole = omega (arith, h.in_disk.count);
      least = omega (arith, h.in_disk.count, blocks, shape.blocks_from, shape.inodes_from);
      most = omega (arith, h.in_disk.count, blocks, shape.blocks_to);
    }

pub breaks_none : (told : Option Files) (image disk i k : List ℕ) (s : State) (rule : ℕ) → HasPair told image disk i k s → Breaks told image rule → ⊥
breaks_none told image disk i k s rule h x =
    none_breaks i h.pair.words h.pair.scratch rule h.pair.in_image (layout_in (pair_machine h.pair.words h.pair.blocks) h.pair.scratch h.pair.stands.image) h.pair.stands.image.rules
    (subst (λ (bs : List ℕ). FailsRule bs rule) (one_file told image i x.bytes h.image_file x.file) x.fails)

-- the size is that of a disk
sized_pair : (told : Option Files) (image disk i k : List ℕ) (s : State) (size : ℕ) → HasPair told image disk i k s → HasSize told disk (Some size) → IsDiskLength size
sized_pair told image disk i k s size h is = subst IsDiskLength (sym (size_is told disk k size h.disk_file is)) (pair_long i k s h.pair)

-- of a pair no file is absent and no rule is told
pub pair_loads : (told : Option Files) (image disk i k : List ℕ) (s : State) (rose : Type 0) (fail : LoadFail) → HasPair told image disk i k s → Misses fail image disk rose told → TellsNoBreach fail
pair_loads told image disk i k s rose (Absent Image) h (inl x) = not_absent told image i h.image_file x
pair_loads told image disk i k s rose (Absent Image) h (inr x) = x.2
pair_loads told image disk i k s rose (Absent Disk) h (inl x) = x
pair_loads told image disk i k s rose (Absent Disk) h (inr x) = not_absent told disk k h.disk_file x.2
pair_loads told image disk i k s rose (BadImage rule) h (inl x) = breaks_none told image disk i k s rule h x
pair_loads told image disk i k s rose (BadImage rule) h (inr x) = x.2
pair_loads told image disk i k s rose BadLength h (inl x) = x
pair_loads told image disk i k s rose BadLength h (inr (words, holds, (size, is, long))) = long (sized_pair told image disk i k s size h is)
pair_loads told image disk i k s rose (Fault file) h x = tt
pair_loads told image disk i k s rose Memory h x = tt

-- the rules of a volume look at words and blocks alone
pub fails_pair : (c : Contents) (words : List ℕ) (blocks : List (List ℕ)) (rule b : ℕ) → c.words ≡ words → c.disk ≡ blocks → FailsPair c rule b → FailsPair (pair_machine words blocks) rule b
fails_pair c words blocks rule b words_are disk_is h =
    subst (λ (ws : List ℕ). FailsPair (pair_machine ws blocks) rule b) words_are (subst (λ (ds : List (List ℕ)). FailsPair (pair_machine c.words ds) rule b) disk_is h)

pub volume_none : (told : Option Files) (image disk i k : List ℕ) (s : State) (rule b : ℕ) → HasPair told image disk i k s → BreaksVolume told image disk rule b → ⊥
volume_none told image disk i k s rule b h x = by x.fails
  where
    by : ((rule ≡ 1) × (b ≡ 0) × (size : ℕ) × HasSize told disk (Some size) × (IsDiskLength size → ⊥)) ⊎ ((bytes : List ℕ) × (blocks : List (List ℕ)) × IsFile told disk bytes × AreBlocksIn bytes blocks × FailsPair (pair_machine x.words blocks) rule b) → ⊥
    by (inl (is, at, size, has, long)) = long (sized_pair told image disk i k s size h has)
    by (inr (bytes, blocks, file, in_disk, fails)) =
        let behind = x.holds.scratch in
        let own = subst (λ (bs : List ℕ). AreBlocksIn bs blocks) (one_file told disk k bytes h.disk_file file) in_disk in
        let are = subst (λ (bs : List ℕ). IsImageOf bs (x.words ++ behind)) (one_file told image i x.holds.holds.bytes h.image_file x.holds.holds.file) x.holds.holds.are in
        none_fails_standing (pair_machine x.words blocks) (length behind) s rule b own.whole
        (pair_stands i k s x.words behind blocks (pair_machine x.words blocks) (length behind) h.pair are x.holds.layout own refl refl (λ c. refl) refl) fails
