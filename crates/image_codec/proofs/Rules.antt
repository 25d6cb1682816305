-- The rules of the header, of bytes and of their words.
use Rattle.std.proofs.Common.{◌≡◌, ◌≢◌, ◌<◌, ◌≤◌, ℕ, ◌*◌, ◌^◌, Bool, true, false, All, List, ◌++◌, length, take, drop, ◌-◌, slice_index, refl, sym, ap, ◌∙◌, subst, arith}
use Rattle.byteorder.specs.Endian.{little_number}
use Rattle.std.proofs.lemmas.List.{take_at, take_rest}
use Rattle.std.proofs.lemmas.List.Elements.{recursion_from_All}
use Rattle.rio_base.proofs.Bytes.{length-bytes_of, word_at-bytes_of}
use Rattle.rio_base.specs.Image.{image_magic}
use Rattle.rio_base.specs.Rules.{true_false}
use Rattle.rio_base.specs.Bytes.{bytes_of, word_at}
use Rattle.image_codec.specs.Image.{FailsFirst, HasGeometry, IsImage, IsImageLength, KeepsRules}
use Rattle.image_codec.specs.declared.fault.ImageFault.{ImageFault}
use Rattle.image_codec.specs.declared.fault.ImageFault.TheVariants.{BadLength, BadMagic, BadVersion, BadGeometry, Memory}

-- where all rules hold, none fails first
pub never : (bytes : List ℕ) → KeepsRules bytes → (fault : ImageFault) → fault ≢ Memory → FailsFirst bytes fault → ⊥
never bytes keeps BadLength ne fails = fails keeps.long
never bytes keeps BadMagic ne fails = fails.1 keeps.magic
never bytes keeps BadVersion ne fails = fails.2 keeps.version
never bytes keeps BadGeometry ne fails = fails.3 keeps.geometry
never bytes keeps Memory ne fails = ne refl

-- a word that was read from the rest of the bytes
read_from : (bytes : List ℕ) (n word : ℕ) → word ≡ little_number 8 (take (length bytes - n) (drop n bytes)) → word ≡ little_number 8 (drop n bytes)
read_from bytes n word is = is ∙ ap (little_number 8) (take_rest bytes n)

-- the rules, of what was read of the header
pub keeps : (bytes : List ℕ) (magic version frames scratch : ℕ) → IsImageLength (length bytes) → magic ≡ word_at bytes 0 → magic ≡ image_magic → version ≡ little_number 8 (take (length bytes - 8) (drop 8 bytes)) → version ≡ 1
    → frames ≡ little_number 8 (take (length bytes - 16) (drop 16 bytes)) → scratch ≡ little_number 8 (take (length bytes - 24) (drop 24 bytes)) → HasGeometry frames scratch (length bytes) → KeepsRules bytes
keeps bytes magic version frames scratch long r0 e0 r1 e1 r2 r3 geometry =
    let w1 : version ≡ word_at bytes 1 = read_from bytes 8 version r1 in
    let w2 : frames ≡ word_at bytes 2 = read_from bytes 16 frames r2 in
    let w3 : scratch ≡ word_at bytes 3 = read_from bytes 24 scratch r3 in
    record { long = long; magic = sym r0 ∙ e0; version = sym w1 ∙ e1; geometry = subst (λ (s : ℕ). HasGeometry (word_at bytes 2) s (length bytes)) w3 (subst (λ (f : ℕ). HasGeometry f scratch (length bytes)) w2 geometry) }

-- ---- the first rule that fails, of what was read of the header

pub fails_length : (bytes : List ℕ) (is : Bool) → (IsImageLength (length bytes) → is ≡ true) → is ≡ false → (BadLength ≢ Memory) × FailsFirst bytes BadLength
fails_length bytes is told fails = (λ e. cc, λ long. true_false (sym (told long) ∙ fails))

pub fails_magic : (bytes : List ℕ) (magic : ℕ) → IsImageLength (length bytes) → magic ≡ word_at bytes 0 → magic ≢ image_magic → (BadMagic ≢ Memory) × FailsFirst bytes BadMagic
fails_magic bytes magic long r0 other = (λ e. cc, (long, λ is. other (r0 ∙ is)))

pub fails_version : (bytes : List ℕ) (magic version : ℕ) → IsImageLength (length bytes) → magic ≡ word_at bytes 0 → magic ≡ image_magic → version ≡ little_number 8 (take (length bytes - 8) (drop 8 bytes)) → version ≢ 1 → (BadVersion ≢ Memory) × FailsFirst bytes BadVersion
fails_version bytes magic version long r0 e0 r1 other =
    let w1 : version ≡ word_at bytes 1 = read_from bytes 8 version r1 in
    (λ e. cc, (long, sym r0 ∙ e0, λ is. other (w1 ∙ is)))

pub fails_geometry : (bytes : List ℕ) (magic version frames scratch : ℕ) (is : Bool) → IsImageLength (length bytes) → magic ≡ word_at bytes 0 → magic ≡ image_magic → version ≡ little_number 8 (take (length bytes - 8) (drop 8 bytes)) → version ≡ 1
    → frames ≡ little_number 8 (take (length bytes - 16) (drop 16 bytes)) → scratch ≡ little_number 8 (take (length bytes - 24) (drop 24 bytes)) → (HasGeometry frames scratch (length bytes) → is ≡ true) → is ≡ false → (BadGeometry ≢ Memory) × FailsFirst bytes BadGeometry
fails_geometry bytes magic version frames scratch is long r0 e0 r1 e1 r2 r3 told fails =
    let w1 : version ≡ word_at bytes 1 = read_from bytes 8 version r1 in
    let w2 : frames ≡ word_at bytes 2 = read_from bytes 16 frames r2 in
    let w3 : scratch ≡ word_at bytes 3 = read_from bytes 24 scratch r3 in
    (λ e. cc, (long, sym r0 ∙ e0, sym w1 ∙ e1, λ has. true_false (sym (told (subst (λ (s : ℕ). HasGeometry frames s (length bytes)) (sym w3) (subst (λ (f : ℕ). HasGeometry f (word_at bytes 3) (length bytes)) (sym w2) has))) ∙ fails)))

-- the rules hold of the words where they hold of the bytes
pub image_from : (bytes words : List ℕ) → length bytes ≡ 8 * length words → ((k : ℕ) → k < length words → slice_index words k ≡ word_at bytes k) → KeepsRules bytes → IsImage words
image_from bytes words long at keeps =
    let least : 51 * 4096 ≤ length bytes = keeps.long.least in
    let w0 : slice_index words 0 ≡ word_at bytes 0 = at 0 (omega arith) in
    let w1 : slice_index words 1 ≡ word_at bytes 1 = at 1 (omega arith) in
    let w2 : slice_index words 2 ≡ word_at bytes 2 = at 2 (omega arith) in
    let w3 : slice_index words 3 ≡ word_at bytes 3 = at 3 (omega arith) in
    record {
      long = subst IsImageLength long keeps.long;
      header = record { magic = w0 ∙ keeps.magic; version = w1 ∙ keeps.version };
      geometry = rw (w2, w3, ← long) keeps.geometry;
    }

-- and the other way round
pub keeps_from : (bytes words : List ℕ) → length bytes ≡ 8 * length words → ((k : ℕ) → k < length words → word_at bytes k ≡ slice_index words k) → IsImage words → KeepsRules bytes
keeps_from bytes words long at image =
    let least : 51 * 4096 ≤ 8 * length words = image.long.least in
    let w0 : word_at bytes 0 ≡ slice_index words 0 = at 0 (omega arith) in
    let w1 : word_at bytes 1 ≡ slice_index words 1 = at 1 (omega arith) in
    let w2 : word_at bytes 2 ≡ slice_index words 2 = at 2 (omega arith) in
    let w3 : word_at bytes 3 ≡ slice_index words 3 = at 3 (omega arith) in
    record {
      long = subst IsImageLength (sym long) image.long;
      magic = w0 ∙ image.header.magic;
      version = w1 ∙ image.header.version;
      geometry = rw (w2, w3, long) image.geometry;
    }

-- the words of an image have bytes that keep the rules, so no rule's fault is told of them
pub only_err : (bytes words : List ℕ) (fault : ImageFault) → fault ≢ Memory → FailsFirst bytes fault → All (λ w. w < 2 ^ 64) words → bytes ≡ bytes_of words → IsImage words → fault ≡ Memory
only_err bytes words fault known fails fits is image =
    let each = recursion_from_All (λ w. w < 2 ^ 64) words fits in
    let long : length bytes ≡ 8 * length words = ap length is ∙ length-bytes_of words in
    let at : (k : ℕ) → k < length words → word_at bytes k ≡ slice_index words k = λ k lt. ap (λ (bs : List ℕ). word_at bs k) is ∙ word_at-bytes_of words k each lt in
    absurd (never bytes (keeps_from bytes words long at image) fault known fails)

-- ---- a list that was lent to be filled

pub bytes_back : (bytes new rest : List ℕ) (len : ℕ) → length new ≡ len → bytes ≡ bytes_of new → bytes ≡ bytes_of (take len (new ++ rest))
bytes_back bytes new rest len all is = is ∙ ap bytes_of (sym (take_at new rest len all))

pub words_back : (bytes new rest : List ℕ) (len : ℕ) → length new ≡ len → ((k : ℕ) → k < length new → slice_index new k ≡ word_at bytes k) → (k : ℕ) → k < length (take len (new ++ rest)) → slice_index (take len (new ++ rest)) k ≡ word_at bytes k
words_back bytes new rest len all each = subst (λ (xs : List ℕ). (k : ℕ) → k < length xs → slice_index xs k ≡ word_at bytes k) (sym (take_at new rest len all)) each
