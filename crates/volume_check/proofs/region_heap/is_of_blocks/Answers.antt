use Rattle.std.proofs.Common.{ℕ, List, ◌*◌, ◌-◌, ◌<◌, ◌≡◌, arith, drop, length, length-drop, slice_index, subst, sym, take}
use Rattle.std.proofs.lemmas.List.{take_all}
use Rattle.volume_check.proofs.HeapUnits.{blocks_rest, map_of_blocks, pages_of_blocks}
use Rattle.volume_check.proofs.region_heap.is_of_blocks.Goals as goal

-- the words behind those of the first n pages
rest_is : (map : List ℕ) (n : ℕ) → take (length map - 2 * n) (drop (2 * n) map) ≡ drop (2 * n) map
rest_is map n = take_all (length map - 2 * n) (drop (2 * n) map) (let long = length-drop (2 * n) map in omega (arith, long))

pub returns-then-pages_go_on : goal.returns-then-pages_go_on
returns-then-pages_go_on c = (
  λ e. map_of_blocks c.args.map.now c.args.pages c.requires (c.pages_go_on.ensures.0 c.if-pages_go_on.true) (subst (λ (xs : List ℕ). (q : ℕ) → q < length xs → slice_index xs q ≡ 0) (rest_is c.args.map.now c.args.pages) (c.are_empty.ensures.0 e)),
  λ h. c.are_empty.ensures.1 (subst (λ (xs : List ℕ). (q : ℕ) → q < length xs → slice_index xs q ≡ 0) (sym (rest_is c.args.map.now c.args.pages)) (blocks_rest c.args.map.now c.args.pages c.requires (λ q. omega (arith, c.type_inv.map q)) h)),
)

pub returns-else-pages_go_on : goal.returns-else-pages_go_on
returns-else-pages_go_on c = (λ e. cc, λ h. c.pages_go_on.ensures.1 (pages_of_blocks (slice_index c.args.map.now) c.args.pages h))
