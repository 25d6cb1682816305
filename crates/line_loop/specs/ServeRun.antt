-- One served run: what was read, what was replied, and where it ended.
use Rattle.std.specs.Prelude.{◌≡◌, ◌+◌, ◌≤◌, ◌^◌, ℕ, List, [], ◌∷◌, ◌++◌, length, take, flat_map, Option, Some, ◌⊎◌}
use Rattle.rio_base.specs.Blocks.{Health}
use Rattle.rio_base.specs.Streams.{appended, prepended, IsSpent}
use Rattle.rio_base.specs.Volume.{Below}
use Rattle.request_codec.specs.Lines.{HasNoEnd, ended, lines}
use Rattle.line_loop.specs.declared.ends.ServeEnd.{ServeEnd}
use Rattle.line_loop.specs.declared.ends.ServeEnd.TheVariants.{End, SourceFault, SinkFault, InputLimit, Memory, Stopped}
use Rattle.line_loop.specs.Protocol.{Protocol}

-- what each line means, line by line
abbrev pub EachMeans : {Request : Type 0} → (List ℕ → Option Request → Type 0) → List (List ℕ) → List (Option Request) → Type 0
EachMeans means [] [] = Unit {0}
EachMeans means (line ∷ lines) (request ∷ requests) = means line request × EachMeans means lines requests
EachMeans means [] (request ∷ requests) = ⊥
EachMeans means (line ∷ lines) [] = ⊥

-- from s, these replies to these requests lead to t, step by step
abbrev pub Run : {Request Reply State : Type 0} → (State → Option Request → Reply → State → Type 0) → State → List (Option Request) → List Reply → State → Type 0
Run step s [] [] t = t ≡ s
Run {Request} {Reply} {State} step s (request ∷ requests) (reply ∷ replies) t = (mid : State) × step s request reply mid × Run step mid requests replies t
Run step s [] (reply ∷ replies) t = ⊥
Run step s (request ∷ requests) [] t = ⊥

-- from s, these lines have these replies, and t is the state after them
pub record Replied {Request Reply State : Type 0} (p : Protocol Request Reply State) (s : State) (answered : List (List ℕ)) (replies : List Reply) (t : State) : Type 0 where
  pub requests : List (Option Request)
  pub meaning : EachMeans p.means answered requests
  pub run : Run p.step s requests replies t

-- the lines with their ends
abbrev pub ended_lines : List (List ℕ) → List ℕ
ended_lines answered = flat_map ended answered

-- these are the first lines of what was taken. A last piece that no line end ends is one of them only where nothing
-- is left.
pub record AreFirst (taken : List ℕ) (left : Option (List ℕ)) (answered : List (List ℕ)) : Type 0 where
  pub more : List (List ℕ)
  pub front : lines taken ≡ answered ++ more
  pub whole : ((rest : List ℕ) × (taken ≡ ended_lines answered ++ rest)) ⊎ IsSpent left

-- these are all lines that a line end ends
abbrev pub AreEnded : List ℕ → List (List ℕ) → Type 0
AreEnded taken answered = (rest : List ℕ) × HasNoEnd rest × (taken ≡ ended_lines answered ++ rest)

-- the replies' texts, one after another
abbrev pub texts : {Reply : Type 0} → (Reply → List ℕ) → List Reply → List ℕ
texts text replies = flat_map text replies

-- what was written: every reply's text, except that the sink may have refused the last one and taken a front of it
abbrev pub IsCut : {Reply : Type 0} → (Reply → List ℕ) → List Reply → List ℕ → Type 0
IsCut {Reply} text replies out = (front : List Reply) × (last : Reply) × (k : ℕ) × (replies ≡ front ++ last ∷ []) × (k ≤ length (text last)) × (out ≡ texts text front ++ take k (text last))

-- where the run ended: only past the limit were more bytes taken than it allows
abbrev pub Finishes : {Reply : Type 0} → (Reply → List ℕ) → ServeEnd → List ℕ → Option (List ℕ) → List (List ℕ) → List Reply → List ℕ → Type 0
-- the input was read to its end, and every line of it has its reply
Finishes text End taken left answered replies out = IsSpent left × (lines taken ≡ answered) × (length taken ≤ 2 ^ 40) × (out ≡ texts text replies)
-- the source failed, or one byte more came than is taken: every line that has its end has its reply
Finishes text SourceFault taken left answered replies out = AreEnded taken answered × (length taken ≤ 2 ^ 40) × (out ≡ texts text replies)
Finishes text InputLimit taken left answered replies out = (length taken ≡ 2 ^ 40 + 1) × AreEnded (take (2 ^ 40) taken) answered × (out ≡ texts text replies)
-- there was no memory for a line
Finishes text Memory taken left answered replies out = (length taken ≤ 2 ^ 40) × (out ≡ texts text replies)
-- the sink refused a reply
Finishes text SinkFault taken left answered replies out = (length taken ≤ 2 ^ 40) × IsCut text replies out
-- a run that the machine stopped ends on a request without a reply: see StopsOn
Finishes text Stopped taken left answered replies out = ⊥

-- A run from s to t that took these bytes and wrote `out`.
pub record ServeRun {Request Reply State : Type 0} (p : Protocol Request Reply State) (s t : State) (taken : List ℕ) (left : Option (List ℕ)) (end : ServeEnd) (out : List ℕ) : Type 0 where
  pub answered : List (List ℕ)
  pub replies : List Reply
  pub first : AreFirst taken left answered
  pub replied : Replied p s answered replies t
  pub finish : Finishes p.text end taken left answered replies out

-- A run from s to t, told by what the source has left and what the sink has taken, before and after.
pub record Serves {Request Reply State : Type 0} (p : Protocol Request Reply State) (s t : State) (end : ServeEnd) (left left_after written written_after : Option (List ℕ)) : Type 0 where
  pub taken : List ℕ
  pub out : List ℕ
  pub gave : left ≡ prepended taken left_after
  pub run : ServeRun p s t taken left_after end out
  pub wrote : written_after ≡ appended written out

-- ---- a run that was stopped on a request

-- t is the state after the answered lines. The line after them asks for r, and no reply to it was written. No more bytes were
-- taken than the limit allows
pub record StopsOn {Request Reply State : Type 0} (p : Protocol Request Reply State) (s t : State) (r : Request) (left left_after written written_after : Option (List ℕ)) : Type 0 where
  pub taken : List ℕ
  pub gave : left ≡ prepended taken left_after
  pub answered : List (List ℕ)
  pub replies : List Reply
  pub line : List ℕ
  pub means : p.means line (Some r)
  pub first : AreFirst taken left_after (answered ++ line ∷ [])
  pub within : length taken ≤ 2 ^ 40
  pub replied : Replied p s answered replies t
  pub wrote : written_after ≡ appended written (texts p.text replies)

-- ---- every end

-- A run from state s. `holds` and `stands` tell of the server afterwards which state it holds, and where it is stopped
-- which state stands. The machine below was h and b, and is i and c. A stopped run found it g and d at the request that
-- met the stop.
abbrev pub RunEnds : {Request Reply State : Type 0} → Protocol Request Reply State → (State → Type 0) → (State → Type 0) → State → ServeEnd → Option (List ℕ) → Option (List ℕ) → Option (List ℕ) → Option (List ℕ) → Health → Below → Health → Below → Type 0
RunEnds {Request} {Reply} {State} p holds stands s Stopped left left_after written written_after h b i c =
    (mid : State) × (r : Request) × (t : State) × (stop : StopsOn p s mid r left left_after written written_after) × p.part mid r t × stands t
    × (g : Health) × (d : Below) × p.went stop.replied.requests stop.replies h b g d × p.stopped_on r g d i c
RunEnds {Request} {Reply} {State} p holds stands s end left left_after written written_after h b i c =
    (t : State) × holds t × (serves : Serves p s t end left left_after written written_after) × p.went serves.run.replied.requests serves.run.replies h b i c
