-- Which replies may wait for each other: what requests do, and what is so of those that do nothing.
use Rattle.std.specs.Prelude.{◌≡◌, ◌≢◌, ℕ, List, [], ◌∷◌, take, drop, Option, Some, None}
use Rattle.rio_base.specs.Blocks.{Health}
use Rattle.rio_base.specs.Volume.{Below}
use Rattle.line_loop.specs.declared.effects.Effect.{Effect}
use Rattle.line_loop.specs.declared.effects.Effect.TheVariants.{Nothing, Arms}
use Rattle.line_loop.specs.Protocol.{Protocol}

-- what is done by a line that asks for this. One that is no request does nothing
abbrev pub effect_in : {Request : Type 0} → (Request → Effect) → Option Request → Effect
effect_in does (Some request) = does request
effect_in does None = Nothing

-- none of these does anything
abbrev pub AreQuiet : {Request : Type 0} → (Request → Effect) → List (Option Request) → Type 0
AreQuiet does [] = Unit {0}
AreQuiet does (request ∷ requests) = (effect_in does request ≡ Nothing) × AreQuiet does requests

-- what does nothing leaves the state as it is
abbrev pub StaysStill : {Request Reply State : Type 0} → Protocol Request Reply State → (Request → Effect) → Type 0
StaysStill {Request} {Reply} {State} p does = (s t : State) (request : Option Request) (reply : Reply) → effect_in does request ≡ Nothing → p.step s request reply t → t ≡ s

-- what all requests did below, the first n did, where the others do nothing
abbrev pub GoesLess : {Request Reply State : Type 0} → Protocol Request Reply State → (Request → Effect) → Type 0
GoesLess {Request} {Reply} {State} p does = (n : ℕ) (requests : List (Option Request)) (replies : List Reply) (h : Health) (b : Below) (i : Health) (c : Below)
    → AreQuiet does (drop n requests) → p.went requests replies h b i c → p.went (take n requests) (take n replies) h b i c

-- a calm machine is calm after what arms nothing
abbrev pub StaysCalm : {Request Reply State : Type 0} → Protocol Request Reply State → (Request → Effect) → (Below → Type 0) → Type 0
StaysCalm {Request} {Reply} {State} p does calm = (request : Option Request) (reply : Reply) (h : Health) (b : Below) (i : Health) (c : Below)
    → effect_in does request ≢ Arms → calm b → p.went (request ∷ []) (reply ∷ []) h b i c → calm c

-- on a calm machine what does nothing is not stopped
abbrev pub RunsOn : {Request Reply State : Type 0} → Protocol Request Reply State → (Request → Effect) → (Below → Type 0) → Type 0
RunsOn {Request} {Reply} {State} p does calm = (request : Request) (h : Health) (b : Below) (i : Health) (c : Below)
    → does request ≡ Nothing → calm b → p.stopped_on request h b i c → ⊥
