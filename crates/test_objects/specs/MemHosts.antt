-- The host in memory: its files, and which of its calls are to fail.
use Rattle.std.specs.Prelude.{◌≡◌, ◌≢◌, ◌<◌, ◌+◌, ◌⊎◌, ℕ, List, [], ◌∷◌, String, length, map, get_or, refl, unwrap_or}
use Rattle.std.specs.Coded.{Coded, code_by, coded×, coded_ℕ, coded_list}
use Rattle.std.specs.FinMap.{empty, from_entries, get, insert, code}
use Rattle.std.specs.String.{string_bytes}
use Rattle.rio_base.specs.Hosts.{Asked, Files}
use Rattle.std.specs.declared.alloc.Global.{Global}
use Rattle.test_objects.specs.declared.mem_host.MemFile.{MemFile}

-- each file's name and bytes
abbrev pub entries_of : List MemFile → List (List ℕ × List ℕ)
entries_of files = map (λ f. (string_bytes f.name, f.bytes.items)) files

-- the files by their names
abbrev pub files_of : List MemFile → Files
files_of files = from_entries (entries_of files)

-- the file at i has the name, and none before it has
pub record IsFirst (files : List MemFile) (name : List ℕ) (i : ℕ) : Type 0 where
  pub within : i < length files
  pub here : (d : MemFile) → string_bytes (get_or files i d).name ≡ name
  pub before : (j : ℕ) (d : MemFile) → j < i → string_bytes (get_or files j d).name ≢ name

-- no file has the name
abbrev pub Lacks : List MemFile → List ℕ → Type 0
Lacks files name = (j : ℕ) (d : MemFile) → j < length files → string_bytes (get_or files j d).name ≢ name

-- the file of this name was asked for once more
abbrev pub asked_more : Asked → List ℕ → Asked
asked_more asked name = insert asked name (unwrap_or (get asked name) 0 + 1)

-- each of these names was asked for once more, in turn
abbrev pub asked_all : Asked → List (String Global) → Asked
asked_all asked [] = asked
asked_all asked (name ∷ names) = asked_all (asked_more asked (string_bytes name)) names

-- how often each of these names was asked for
abbrev pub asked_of : List (String Global) → Asked
asked_of names = asked_all empty names

-- the name was asked for once more, or there was no memory to note it
abbrev pub IsNoted : List ℕ → Asked → Asked → Type 0
IsNoted name old new = (new ≡ asked_more old name) ⊎ (new ≡ old)

pub record MemHostState : Type 0 where
  pub files : Files
  -- how often each name was asked for
  pub asked : Asked
  -- how many calls were made, and how many of them failed
  pub calls : ℕ
  pub faults : ℕ
  -- the calls that are to fail, by their numbers from 1
  pub failing : List ℕ

-- a state is stored as the tuple of its fields
abbrev pub state_code : Coded MemHostState
state_code =
    code_by (Files × (Asked × (ℕ × (ℕ × List ℕ)))) (coded× (code (coded_list coded_ℕ) (coded_list coded_ℕ)) (coded× (code (coded_list coded_ℕ) coded_ℕ) (coded× coded_ℕ (coded× coded_ℕ (coded_list coded_ℕ)))))
    (λ s. (s.files, (s.asked, (s.calls, (s.faults, s.failing))))) (λ p. record { files = p.0; asked = p.1.0; calls = p.1.1.0; faults = p.1.1.1.0; failing = p.1.1.1.1 }) (λ _. refl)
