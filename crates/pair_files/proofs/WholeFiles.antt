-- How a file is read whole, and the faults of an image that are none of memory.
use Rattle.std.proofs.Common.{◌≡◌, ◌≢◌, ℕ, ◌+◌, ◌<◌, ◌≤◌, ◌⊎◌, List, length, take, Option, Some, None, sym, ap, ◌∙◌, inl, inr, arith}
use Rattle.std.specs.FinMap.{get}
use Rattle.std.proofs.lemmas.Bool.{cases_lt}
use Rattle.std.proofs.lemmas.List.{length-take, nil_from_length, take_all}
use Rattle.rio_base.specs.Hosts.{EndsBy, Files, HasBytes, HasSize, IsFile, bytes_in}
use Rattle.block_disk.proofs.HostFiles.{bytes_are, sized}
use Rattle.image_codec.specs.declared.fault.ImageFault.TheVariants.{BadLength, BadMagic, BadVersion, BadGeometry, Memory as NoMemory}

-- an empty room has all bytes of a file that is as long
pub none_read : (files : Option Files) (name room : List ℕ) → HasSize files name (Some (length room)) → length room ≡ 0 → IsFile files name (take 0 room)
none_read None name room is none = tt
none_read (Some files) name room is none =
    let whole = sized files name (length room) is in
    whole.1 ∙ ap Some (nil_from_length whole.0 (whole.2 ∙ none))

-- bytes that were read from the first on, until a room as long as the file was full or the file ended, are all of it
pub all_read : (files : Option Files) (name : List ℕ) (n : ℕ) (room : List ℕ) → HasSize files name (Some (length room)) → n ≤ length room → HasBytes files name 0 (take n room) → (n < length room → EndsBy files name (0 + n)) → IsFile files name (take n room)
all_read None name n room is fits bytes ends = tt
all_read (Some files) name n room is fits bytes ends = own.1 ∙ ap Some (sym is_whole ∙ sym (front ∙ take_all n whole (all (cases_lt n (length room)))))
  where
    own : (there : List ℕ) × (get files name ≡ Some there) × (length there ≡ length room)
    own = sized files name (length room) is

    whole : List ℕ
    whole = bytes_in files name

    is_whole : whole ≡ own.0
    is_whole = bytes_are files name own.0 own.1

    front : take n room ≡ take n whole
    front = bytes ∙ ap (λ (k : ℕ). take k whole) (let count : length (take n room) ≡ n = omega (arith, length-take n room, fits) in count)

    size : length whole ≡ length room
    size = ap length is_whole ∙ own.2

    all : (n < length room) ⊎ (length room ≤ n) → length whole ≤ n
    all (inr past) = omega (arith, size, past)
    all (inl less) =
        let end : length whole ≤ 0 + n = ends less in
        omega (arith, end)

pub length_fault : BadLength ≢ NoMemory
length_fault e = cc

pub magic_fault : BadMagic ≢ NoMemory
magic_fault e = cc

pub version_fault : BadVersion ≢ NoMemory
version_fault e = cc

pub geometry_fault : BadGeometry ≢ NoMemory
geometry_fault e = cc
