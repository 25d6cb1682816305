-- The words of a node's table that get a new number.
use Rattle.node_pages.proofs.Common.{max}
use Rattle.std.specs.Prelude.{ℕ, ◌-◌, ◌/◌}

-- the words of the table that have a new number: from this one to before that one
abbrev pub first_word : ℕ → ℕ
first_word have = (max have 24 - 24) / 2

abbrev pub end_word : ℕ → ℕ
end_word want = (max want 24 - 23) / 2
