use Rattle.directories.proofs.Common.{◌≡◌, ◌+◌, ◌*◌, ◌<◌, ℕ, slice_index}
use Rattle.directories.proofs.entries.has_name.Given as goal

-- the first t words of the name are the key's
abbrev pub invariant-loop-t : goal.invariant-loop-t
invariant-loop-t l = (s : ℕ) → s < l.t → slice_index l.words (8 * l.k + 1 + s) ≡ slice_index l.key.words s
