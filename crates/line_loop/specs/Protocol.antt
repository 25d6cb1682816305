-- What a served run is told by: what lines ask for, what replies are as text, what requests do, and how a request or a line
-- is answered from a state.
use Rattle.std.specs.Prelude.{ℕ, ◌≡◌, List, [], ◌∷◌, ◌++◌, Option, Some, Result, Ok, Err}
use Rattle.rio_base.specs.Blocks.{Health}
use Rattle.rio_base.specs.Volume.{Below}
use Rattle.rio_base.specs.declared.failures.Stopped.{Stopped as MachineStopped}

pub record Protocol (Request Reply State : Type 0) : Type 1 where
  -- a line without its end asks for this, or is no request
  pub means : List ℕ → Option Request → Type 0
  -- the line that a reply is, with its end
  pub text : Reply → List ℕ
  -- from one state, this reply to a request, or to a line that is none, leads to the other
  pub step : State → Option Request → Reply → State → Type 0
  -- from one state, a request that a stop cut off leads to the other
  pub part : State → Request → State → Type 0
  -- what requests with these replies did to the machine below, which was and is so
  pub went : List (Option Request) → List Reply → Health → Below → Health → Below → Type 0
  -- what a request did to it that met a stop, and the cause of that stop
  pub stopped_on : Request → Health → Below → Health → Below → Type 0

-- no request does nothing
abbrev pub GoesNone : {Request Reply State : Type 0} → Protocol Request Reply State → Type 0
GoesNone p = (h : Health) (b : Below) → p.went [] [] h b h b

-- some requests, and then one more
abbrev pub GoesMore : {Request Reply State : Type 0} → Protocol Request Reply State → Type 0
GoesMore {Request} {Reply} {State} p = (requests : List (Option Request)) (replies : List Reply) (request : Option Request) (reply : Reply) (h : Health) (b : Below) (i : Health) (c : Below) (j : Health) (d : Below)
    → p.went requests replies h b i c → p.went (request ∷ []) (reply ∷ []) i c j d → p.went (requests ++ request ∷ []) (replies ++ reply ∷ []) h b j d

-- a request. `holds` and `stands` tell of the server afterwards which state it holds, and where it is stopped which state
-- stands
abbrev pub Answering : {Request Reply State : Type 0} → Protocol Request Reply State → (State → Type 0) → (State → Type 0) → State → Request → Result Reply MachineStopped → Type 0
Answering {Request} {Reply} {State} p holds stands s r (Ok reply) = (t : State) × p.step s (Some r) reply t × holds t
Answering {Request} {Reply} {State} p holds stands s r (Err stopped) = (t : State) × p.part s r t × stands t

-- a line that asks for this request, or is none
abbrev pub AnswersLine : {Request Reply State : Type 0} → Protocol Request Reply State → (State → Type 0) → (State → Type 0) → State → Option Request → Result Reply MachineStopped → Type 0
AnswersLine {Request} {Reply} {State} p holds stands s request (Ok reply) = (t : State) × p.step s request reply t × holds t
AnswersLine {Request} {Reply} {State} p holds stands s request (Err stopped) = (r : Request) × (request ≡ Some r) × (t : State) × p.part s r t × stands t
