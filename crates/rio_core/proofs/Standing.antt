-- How a view comes to stand on the region at a path.
use Rattle.rio_core.proofs.Common.{◌≡◌, ℕ, List, Ok, sym, subst, Ino, VolumeShape, Seen, Kept, RegionNode, State, names_of, crashed, FindsRegion, OnRegion, Fits, Marks}
use Rattle.request_ends.specs.Ends.{CanServe}
use Rattle.rio_core.specs.CallEnds.{CalledOn, words_at}
use Rattle.rio_core.specs.Serving.{Serves}
use Rattle.rio_core.proofs.RegionEnds.{called_fits, stood_on}
use Rattle.rio_requests.proofs.CrashRules.{walk_crashed}

pub serves_can : (shape : VolumeShape) (x : Seen) (k : Kept) (marks : Marks) (s : State) → Serves shape x k marks s → CanServe shape x k
serves_can shape x k marks s h = record { ready = h.ready; state = crashed s; reads = h.reads }

pub stands : (shape t : VolumeShape) (x z : Seen) (k l : Kept) (marks : Marks) (s : State) (path : List ℕ) (i : Ino) (n : ℕ) → Serves shape x k marks s → t ≡ shape → z.words ≡ x.words → FindsRegion (crashed s) path (Ok i) → OnRegion t z l i.0 n → (r : RegionNode) × CalledOn t z.words z.words marks s path i.0 n r
stands shape t x z k l marks s path i n serves same words finds on = stood_on t x z k l marks s path i n (subst (λ (q : VolumeShape). Serves q x k marks s) (sym same) serves) words (walk_crashed s serves.regions.open_regions (names_of path) 1) finds on

pub stands_fits : (shape t : VolumeShape) (x z : Seen) (k l : Kept) (marks : Marks) (s : State) (path : List ℕ) (i : Ino) (n : ℕ) → Serves shape x k marks s → t ≡ shape → z.words ≡ x.words → FindsRegion (crashed s) path (Ok i) → OnRegion t z l i.0 n → Fits marks i.0 n (words_at t z.words i.0)
stands_fits shape t x z k l marks s path i n serves same words finds on = let at = stands shape t x z k l marks s path i n serves same words finds on in called_fits t z.words z.words marks s path i.0 n at.0 at.1
