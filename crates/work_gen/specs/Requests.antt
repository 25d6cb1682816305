-- The requests that are drawn.
use Rattle.std.specs.Prelude.{ℕ, zero, suc, ◌+◌, ◌*◌, ◌%◌, ◌==◌, ◌++◌, List, [], ◌∷◌, codes, decimal, if◌then◌else◌, nat_lt, replicate}
use Rattle.rio_requests.specs.declared.request.Request.{Request}
use Rattle.rio_requests.specs.declared.request.Request.TheVariants.{Create, Region, Write, Read, Truncate, Unlink, Rename, Begin, Range, Put, Alloc, Commit, Abort, Flush}
use Rattle.work_gen.specs.Draws.{Drawn, draw}

-- `/f0` to `/f39`, and `/r0` to `/r3`
abbrev pub file_path : ℕ → List ℕ
file_path n = codes "/f" ++ decimal n

abbrev pub region_path : ℕ → List ℕ
region_path n = codes "/r" ++ decimal n

-- so many bytes: the first one, and each next one is one more, mod 256
abbrev pub rising : ℕ → ℕ → List ℕ
rising byte zero = []
rising byte (suc count) = byte ∷ rising ((byte + 1) % 256) count

-- ---- on file n, from the number x on

abbrev pub write : ℕ → ℕ → Drawn Request
write n x =
    let off = draw x in
    let len = draw off.0 in
    let first = draw len.0 in
    (first.0, Write (file_path n) (6 * off.1) (rising (first.1 % 256) (len.1 % 6000)))

abbrev pub read : ℕ → ℕ → Drawn Request
read n x = let off = draw x in (off.0, Read (file_path n) (6 * off.1) 4096)

abbrev pub truncate : ℕ → ℕ → Drawn Request
truncate n x = let len = draw x in (len.0, Truncate (file_path n) (6 * len.1))

abbrev pub rename : ℕ → ℕ → Drawn Request
rename n x = let to = draw x in (to.0, Rename (file_path n) (file_path (to.1 % 40)))

-- ---- on region n, from the number x on

abbrev pub range : ℕ → ℕ → Drawn Request
range n x = let at = draw x in (at.0, Range (region_path n) (64 * (at.1 % 64)) 64)

abbrev pub put : ℕ → ℕ → Drawn Request
put n x =
    let at = draw x in
    let byte = draw at.0 in
    (byte.0, Put (region_path n) (64 * (at.1 % 64)) (replicate 8 (byte.1 % 256)))

abbrev pub alloc : ℕ → ℕ → Drawn Request
alloc n x = let units = draw x in (units.0, Alloc (region_path n) (1 + units.1 % 64))

-- the request that a number below 6 chooses
abbrev pub chosen : ℕ → ℕ → ℕ → Drawn Request
chosen choice n x =
    if choice == 0 then (x, Begin (region_path n))
    else if choice == 1 then range n x
    else if choice == 2 then put n x
    else if choice == 3 then alloc n x
    else if choice == 4 then (x, Commit (region_path n))
    else (x, Abort (region_path n))

abbrev pub on_region : ℕ → ℕ → Drawn Request
on_region n x = let choice = draw x in chosen (choice.1 % 6) n choice.0

-- ---- a request

-- the request that a number below 16 chooses
abbrev pub of_kind : ℕ → ℕ → ℕ → Drawn Request
of_kind kind n x =
    if nat_lt kind 3 then (x, Create (file_path n))
    else if nat_lt kind 8 then write n x
    else if nat_lt kind 10 then read n x
    else if kind == 10 then truncate n x
    else if kind == 11 then (x, Unlink (file_path n))
    else if kind == 12 then rename n x
    else if kind == 13 then (x, Region (region_path (n % 4)) 8 4)
    else if kind == 14 then on_region (n % 4) x
    else (x, Flush 8)

-- the request that is drawn from the number x on
abbrev pub request : ℕ → Drawn Request
request x =
    let kind = draw x in
    let n = draw kind.0 in
    of_kind (kind.1 % 16) (n.1 % 40) n.0
