-- What the plain program finds of a region: all that a request on it asks.
use Rattle.std.specs.Prelude.{◌≡◌, ℕ, List, Option, Result, Ok, Err}
use Rattle.std.specs.FinMap.{get}
use Rattle.std.specs.Option.{option_copied}
use Rattle.rio_model.specs.declared.node.RegionNode.{RegionNode}
use Rattle.rio_model.specs.declared.state.State.{State}
use Rattle.rio_model.specs.declared.txn.Txn.{Txn}
use Rattle.rio_requests.specs.declared.answered.Answered.{Answered}
use Rattle.plain_requests.specs.declared.answering.regions.OnRegion.{OnRegion}
use Rattle.rio_requests.specs.Answer.{refused_by}
use Rattle.rio_requests.specs.RegionAnswers.{get_on}
use Rattle.rio_requests.specs.declared.reply.Reply.TheVariants.{Bytes}
use Rattle.rio_requests.specs.Transactions.{at_region, on_region, txn_at}

abbrev pub Request : Type 0
Request = ℕ → RegionNode → Option Txn → Answered

-- the region of an inode, and its transaction; or the refusal
abbrev pub IsRegionAt : State → ℕ → Result OnRegion ℕ → Type 0
IsRegionAt s i (Ok at) = (at.ino.0 ≡ i) × ((go : Request) → on_region s (get s.nodes i) (λ r. go i r (txn_at s.txns i)) ≡ go i at.region.now (option_copied at.txn))
IsRegionAt s i (Err number) = (go : Request) → on_region s (get s.nodes i) (λ r. go i r (txn_at s.txns i)) ≡ refused_by s number

-- the region at a path, and its transaction; or the refusal
abbrev pub FindsRegion : State → List ℕ → Result OnRegion ℕ → Type 0
FindsRegion s path (Ok at) = (go : Request) → at_region s path go ≡ go at.ino.0 at.region.now (option_copied at.txn)
FindsRegion s path (Err number) = (go : Request) → at_region s path go ≡ refused_by s number

-- the bytes that are read of a region; or the refusal
abbrev pub Reads : RegionNode → Option Txn → ℕ → ℕ → Result (List ℕ) ℕ → Type 0
Reads r o off len (Ok bytes) = get_on r o off len ≡ Ok (record { region = r; txn = o; reply = Bytes bytes })
Reads r o off len (Err number) = get_on r o off len ≡ Err number
