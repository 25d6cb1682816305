-- The laws of finite maps at nodes.
use Rattle.rio_model.proofs.Common.{◌≡◌, ℕ, nat_cmp_total, get, same_map, nat_cmp-IsAntisymmetric}
use Rattle.rio_model.specs.Nodes.{Nodes}

-- two maps of nodes that answer alike are equal
pub same_nodes : (m n : Nodes) → ((i : ℕ) → get m i ≡ get n i) → m ≡ n
same_nodes = same_map nat_cmp_total nat_cmp-IsAntisymmetric
