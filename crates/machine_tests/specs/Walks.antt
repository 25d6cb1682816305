-- What a walk keeps of the volume that it walks on: 64 blocks, each cached under the one name that the walk gives it.
use Rattle.std.specs.Prelude.{◌≡◌, ℕ, nat_lt, true, if◌then◌else◌, Option, None, Some}
use Rattle.rio_base.specs.declared.places.PageName.{PageName}
use Rattle.rio_base.specs.Blocks.{SamePage, Seen}

-- blocks below 40 are metadata, and any other is that page of file 2
abbrev pub walk_name : ℕ → Option PageName
walk_name b = if nat_lt b 40 then None else Some (record { file = record { 0 = 2 }; index = b; size = 4096 })

-- 64 blocks, each cached under a name of its page
pub record Walks (s : Seen) : Type 0 where
  pub count : s.count ≡ 64
  pub named : (b : ℕ) → s.cached b ≡ true → SamePage (s.names b) (walk_name b)
