-- Requests on the region at a path, with the transaction that is open on it.
use Rattle.std.specs.Prelude.{◌==◌, ◌*◌, ◌-◌, ℕ, List, [], ◌∷◌, map, nat_le, nat_lt, Option, Some, None, Ok, Err, if◌then◌else◌}
use Rattle.std.specs.FinMap.{get, insert}
use Rattle.rio_model.specs.declared.node.Node.{Node}
use Rattle.rio_model.specs.declared.node.Node.TheVariants.{Dir, File, Region}
use Rattle.rio_model.specs.declared.node.RegionNode.{RegionNode}
use Rattle.rio_model.specs.declared.state.State.{State}
use Rattle.rio_model.specs.declared.txn.Txn.{Txn}
use Rattle.rio_model.specs.Paths.{names_of, walk}
use Rattle.rio_model.specs.declared.refusal.Refusal.TheVariants.{NotFound, NotARegion, OutOfRange}
use Rattle.rio_requests.specs.declared.answered.Answered.{Answered}
use Rattle.rio_requests.specs.declared.reply.Reply.TheVariants.{Ok as Done, Inos}
use Rattle.rio_requests.specs.Answer.{answered, at_inode, refused, refused_by}
use Rattle.rio_requests.specs.RegionAnswers.{Outcome}

-- ---- the open transactions

-- that of a region, where one is open
abbrev pub txn_at : List Txn → ℕ → Option Txn
txn_at [] i = None
txn_at (t ∷ txns) i = if t.ino.0 == i then Some t else txn_at txns i

-- a transaction in front of others, or none
abbrev pub txn_before : Option Txn → List Txn → List Txn
txn_before None txns = txns
txn_before (Some t) txns = t ∷ txns

-- a region's transaction becomes this one: it keeps its place, a new one goes last, and one that ended is gone
abbrev pub set_txn : List Txn → ℕ → Option Txn → List Txn
set_txn [] i o = txn_before o []
set_txn (t ∷ txns) i o = if t.ino.0 == i then txn_before o txns else t ∷ set_txn txns i o

-- ---- a region and its transaction

abbrev pub with_region : State → ℕ → RegionNode → Option Txn → State
with_region s i r o = record s { nodes = insert s.nodes i (Region r); txns = set_txn s.txns i o }

-- what came of a request that changes them
abbrev pub changed : State → ℕ → Outcome → Answered
changed s i (Ok a) = answered (with_region s i a.region a.txn) a.reply
changed s i (Err number) = refused_by s number

-- and of one that looks at them
abbrev pub looked : State → Outcome → Answered
looked s (Ok a) = answered s a.reply
looked s (Err number) = refused_by s number

-- on a node that is a region
abbrev pub on_region : State → Option Node → (RegionNode → Answered) → Answered
on_region s (Some (Region r)) go = go r
on_region s (Some Dir) go = refused s NotARegion
on_region s (Some (File bytes)) go = refused s NotARegion
on_region s None go = refused s NotFound

abbrev pub at_region : State → List ℕ → (ℕ → RegionNode → Option Txn → Answered) → Answered
at_region s path go = at_inode s (walk s 1 (names_of path)) (λ i. on_region s (get s.nodes i) (λ r. go i r (txn_at s.txns i)))

-- the regions that have one, in order of `begin`
abbrev pub txns : State → Answered
txns s = answered s (Inos (map (λ (t : Txn). t.ino) s.txns))

-- ---- wild stores

-- on a word of memory. A protected one stops the machine, so there is no reply
abbrev pub wild : State → ℕ → Answered
wild s at =
    if nat_le (512 * s.pages) at then refused s OutOfRange else
    if nat_lt at (512 * (s.pages - s.scratch)) then record { next = s; reply = None } else
    answered s Done

abbrev pub arm : State → ℕ → Answered
arm s at = if nat_le (512 * s.pages) at then refused s OutOfRange else answered s Done
