-- What an index holds, and that it agrees with all names: of each directory it holds all names or none.
use Rattle.std.specs.Prelude.{◌≡◌, ◌≢◌, ℕ, List, Option, Some, None, nat_eq}
use Rattle.std.specs.FinMap.{get}
use Rattle.indexmap.specs.IndexMap.{IndexMap, get as held_at}
use Rattle.rio_model.specs.Names.{NameKey, Names}
use Rattle.name_index.specs.Rows.{NamesOfDir}
use Rattle.name_index.specs.declared.index.Lookup.{Lookup}
use Rattle.name_index.specs.declared.index.Lookup.TheVariants.{Unknown, Absent, Present}
use Rattle.name_index.specs.declared.index.NameIndex.{NameIndex}

-- these are the names of a directory, among all names
abbrev pub AreNames : NamesOfDir → ℕ → Names → Type 0
AreNames held dir names = (name : List ℕ) → get held name ≡ get names (dir, name)

-- what is held of a directory, where anything is
abbrev pub held_in : {S : Type 0} → Option (IndexMap ℕ NamesOfDir S) → ℕ → Option NamesOfDir
held_in None dir = None
held_in (Some dirs) dir = held_at nat_eq dirs dir

abbrev pub names_held : NameIndex → ℕ → Option NamesOfDir
names_held index dir = held_in index.dirs dir

-- what is held of each directory is its names
abbrev pub HeldAgree : {S : Type 0} → IndexMap ℕ NamesOfDir S → Names → Type 0
HeldAgree dirs names = (dir : ℕ) (held : NamesOfDir) → held_at nat_eq dirs dir ≡ Some held → AreNames held dir names

abbrev pub Agrees : NameIndex → Names → Type 0
Agrees index names = (dir : ℕ) (held : NamesOfDir) → names_held index dir ≡ Some held → AreNames held dir names

-- what is said of a name, by what it names
abbrev pub Says : Lookup → Option ℕ → Type 0
Says Unknown named = Unit {0}
Says Absent named = named ≡ None
Says (Present i slot) named = named ≡ Some i.0

-- two names, each with its directory, are not one
abbrev pub AreTwo : NameKey → NameKey → Type 0
AreTwo k q = k ≢ q
