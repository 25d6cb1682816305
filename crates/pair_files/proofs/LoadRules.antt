-- Why no pair is loaded, and what is loaded, told from the parts on.
use Rattle.std.proofs.Common.{◌≡◌, ◌≤◌, ◌<◌, ◌⊎◌, ◌∙◌, ℕ, ◌+◌, ◌*◌, ◌/◌, ◌%◌, ◌++◌, false, List, length, replicate, Option, None, Some, inl, inr, refl, sym, ap, subst, arith, length-append}
use Rattle.std.specs.FinMap.{get}
use Rattle.std.specs.Option.{option_map}
use Rattle.std.proofs.lemmas.Bool.{cases_lt}
use Rattle.std.proofs.lemmas.List.{get_or-replicate, get_or_past, length-replicate, take-append-drop}
use Rattle.rio_base.specs.Failures.{Rose}
use Rattle.rio_base.specs.Disks.{DiskContents, blocks_of, is_pending}
use Rattle.rio_base.specs.Hosts.{Asked, Files, HasSize, IsAbsent}
use Rattle.rio_base.specs.Machine.{Contents, Running}
use Rattle.rio_base.specs.Rules.{none_some}
use Rattle.rio_base.proofs.Rules.{rose_later}
use Rattle.board.specs.Boards.{protected_count, protected_of, scratch_of}
use Rattle.block_disk.specs.HostDisks.{AreFileWords, FailsAs, file_contents}
use Rattle.block_disk.specs.declared.host_disk_fail.HostDiskFail.{HostDiskFail}
use Rattle.block_disk.specs.declared.host_disk_fail.HostDiskFail.TheVariants.{Absent as DiskAbsent, BadLength as DiskLength, Fault as DiskFault, Memory as DiskMemory}
use Rattle.machine_bench.specs.Benches.{made_contents, made_run}
use Rattle.rio_model.specs.Registry.{FailsRegistry, HasLayout}
use Rattle.pair_files.specs.declared.failures.LoadFail.{LoadFail}
use Rattle.pair_files.specs.declared.failures.LoadFail.TheVariants.{Absent, BadImage, BadLength, Fault, Memory}
use Rattle.pair_files.specs.declared.names.PairFile.TheVariants.{Image, Disk}
use Rattle.pair_files.specs.Images.{FailsRule, HoldsImage, IsImageOf}
use Rattle.pair_files.specs.Loads.{IsDiskLoaded, IsImageLoaded, IsImageRead, Misses, MissesDisk, disk_failure}

-- an image that was loaded keeps its rules
pub loaded_holds : (told : Option Files) (image bytes words : List ℕ) (scratch : ℕ) → IsImageLoaded told image bytes words scratch → HoldsImage told image (protected_of words scratch)
loaded_holds told image bytes words scratch h = record {
  scratch = scratch_of words scratch;
  holds = record { bytes = bytes; file = h.file; are = subst (IsImageOf bytes) (sym (take-append-drop (protected_count words scratch) words)) h.read.are };
  layout = h.read.layout;
  keeps = h.read.keeps;
}

disk_later : (fail : LoadFail) (files : Option Files) (disk : List ℕ) (a b c : ℕ) → a ≤ b → MissesDisk fail disk (Rose b c) files → MissesDisk fail disk (Rose a c) files
disk_later (Absent Image) files disk a b c less h = h
disk_later (Absent Disk) files disk a b c less h = h
disk_later (BadImage rule) files disk a b c less h = h
disk_later BadLength files disk a b c less h = h
disk_later (Fault Image) files disk a b c less h = h
disk_later (Fault Disk) files disk a b c less h = rose_later a b c less h
disk_later Memory files disk a b c less h = h

-- the disk is asked for after the image was loaded
pub misses_disk : (told mid : Option Files) (image disk bytes words : List ℕ) (scratch a b c : ℕ) (fail : LoadFail) → mid ≡ told → a ≤ b → IsImageLoaded told image bytes words scratch → MissesDisk fail disk (Rose b c) mid → Misses fail image disk (Rose a c) told
misses_disk told mid image disk bytes words scratch a b c fail same less loaded h =
    inr (protected_of words scratch, loaded_holds told image bytes words scratch loaded, disk_later fail told disk a b c less (subst (λ (files : Option Files). MissesDisk fail disk (Rose b c) files) same h))

-- ---- the disk's part

none_pending : (n b : ℕ) → is_pending (replicate n false) b ≡ false
none_pending n b = from (cases_lt b n)
  where
    from : (b < n) ⊎ (n ≤ b) → is_pending (replicate n false) b ≡ false
    from (inl less) = get_or-replicate n b false false less
    from (inr past) = get_or_past (replicate n false) b false (omega (arith, past, length-replicate n false))

-- a disk was made of the file
pub disk_loaded : (told : Option Files) (asked : Asked) (name fresh : List ℕ) (d : DiskContents) (faults : ℕ) → fresh ≡ name → ((words : List ℕ) × AreFileWords told fresh words × (d ≡ file_contents told asked faults fresh words (replicate (length (blocks_of words)) false) 0)) → IsDiskLoaded told name d
disk_loaded told asked name fresh d faults same (words, file, is) = subst (λ (n : List ℕ). IsDiskLoaded told n d) same (record {
  words = words;
  file = file;
  blocks = ap (λ (x : DiskContents). x.blocks) is;
  settled = λ b. ap (λ (x : DiskContents). is_pending x.pending b) is ∙ none_pending (length (blocks_of words)) b;
  limit = ap (λ (x : DiskContents). x.faults.limit) is;
  writes = ap (λ (x : DiskContents). x.writes) is;
  asked = asked;
  around = ap (λ (x : DiskContents). x.around) is;
})

none_there : (got : Option (List ℕ)) → None ≡ option_map length got → got ≡ None
none_there None e = refl
none_there (Some bytes) e = absurd (none_some (length bytes) (option_map length (Some bytes)) (sym e) refl)

no_size : (told : Option Files) (name : List ℕ) → HasSize told name None → IsAbsent told name
no_size None name h = tt
no_size (Some files) name h = none_there (get files name) h

missed : (fail : HostDiskFail) (told : Option Files) (name : List ℕ) (rose : Type 0) → FailsAs fail told name rose → MissesDisk (disk_failure fail) name rose told
missed DiskAbsent told name rose h = no_size told name h
missed DiskLength told name rose h = h
missed DiskFault told name rose h = h
missed DiskMemory told name rose h = tt

-- none was made
pub disk_missed : (fail : HostDiskFail) (out : LoadFail) (told : Option Files) (name fresh : List ℕ) (rose : Type 0) → out ≡ disk_failure fail → fresh ≡ name → FailsAs fail told fresh rose → MissesDisk out name rose told
disk_missed fail out told name fresh rose is same h = subst (λ (f : LoadFail). MissesDisk f name rose told) (sym is) (subst (λ (n : List ℕ). MissesDisk (disk_failure fail) n rose told) same (missed fail told fresh rose h))

-- ---- the rules of an image's words

pub layout_by : (words scratch a b : List ℕ) → words ≡ a → scratch ≡ b → HasLayout a b → HasLayout words scratch
layout_by words scratch a b e f h = subst (λ (ws : List ℕ). HasLayout ws scratch) (sym e) (subst (HasLayout a) (sym f) h)

pub rule_fails : (bytes words read : List ℕ) (scratch rule : ℕ) → read ≡ protected_of words scratch → HasLayout (protected_of words scratch) (scratch_of words scratch) → FailsRegistry read rule → IsImageOf bytes words → FailsRule bytes rule
rule_fails bytes words read scratch rule same layout fails are = inr (inr (inr (inr (
  protected_of words scratch,
  scratch_of words scratch,
  subst (IsImageOf bytes) (sym (take-append-drop (protected_count words scratch) words)) are,
  layout,
  subst (λ (ws : List ℕ). FailsRegistry ws rule) same fails,
))))

-- ---- a machine of them

-- its pages are those of the image
pub machine_pages : (words : List ℕ) (scratch : ℕ) (stop : Option ℕ) (d : DiskContents) (c : Contents) (r : Running) (pages : Option ℕ) → ((bytes : List ℕ) × IsImageRead bytes words scratch) → c ≡ made_contents words scratch d → r ≡ made_run words scratch stop → pages ≡ Some (length words / 512) → (n : ℕ) × (pages ≡ Some n) × (512 * n ≡ length c.words + length r.scratch)
machine_pages words scratch stop d c r pages (bytes, read) contents run made = (length words / 512, made, omega (arith, whole, here, there, both, all))
  where
    whole : (8 * length words) % 4096 ≡ 0
    whole = read.are.image.long.whole

    here : length c.words ≡ length (protected_of words scratch)
    here = ap (λ (x : Contents). length x.words) contents

    there : length r.scratch ≡ length (scratch_of words scratch)
    there = ap (λ (x : Running). length x.scratch) run

    both : length (protected_of words scratch ++ scratch_of words scratch) ≡ length (protected_of words scratch) + length (scratch_of words scratch)
    both = length-append (protected_of words scratch) (scratch_of words scratch)

    all : length (protected_of words scratch ++ scratch_of words scratch) ≡ length words
    all = ap length (take-append-drop (protected_count words scratch) words)

-- what is seen of two that are equal is equal
pub seen_same : {D C : Type 0} (a b : D) → a ≡ b → (seen : D → C) → seen a ≡ seen b
seen_same a b same seen = ap seen same
