-- A served run over every state that the server may hold: its turns, and each of its ends.
use Rattle.std.proofs.Common.{◌≡◌, ◌≢◌, ◌⊎◌, ◌≤◌, ◌^◌, ℕ, Bool, true, false, List, [], ◌∷◌, sym, subst, inl, inr, arith, ◌∙◌}
use Rattle.std.specs.Prelude.{Option, Some, None, Result, Ok, Err, OnErr}
use Rattle.rio_base.specs.declared.failures.Stopped.{Stopped as MachineStopped}
use Rattle.rio_base.specs.Blocks.{Health}
use Rattle.rio_base.specs.Failures.{Rose}
use Rattle.rio_base.specs.Volume.{Below, LimitLasts}
use Rattle.request_codec.specs.Lines.{Reading}
use Rattle.request_codec.specs.Sending.{IsCutOff, Sent}
use Rattle.line_loop.specs.declared.effects.Effect.{Effect}
use Rattle.line_loop.specs.declared.effects.Effect.TheVariants.{Nothing, Arms}
use Rattle.line_loop.specs.declared.ends.ServeEnd.{ServeEnd}
use Rattle.line_loop.specs.declared.ends.ServeEnd.TheVariants.{End, SourceFault, SinkFault, InputLimit, Memory, Stopped}
use Rattle.line_loop.specs.Protocol.{Answering, AnswersLine, Protocol, GoesMore, GoesNone}
use Rattle.line_loop.specs.Asking.{AskEnds, AsksFor, Refuses, Stops}
use Rattle.line_loop.specs.Gathering.{GoesLess, RunsOn, StaysCalm, StaysStill, effect_in}
use Rattle.line_loop.specs.ServeRun.{RunEnds}
use Rattle.line_loop.proofs.Running.{Ended, Took, ask_end, no_start, sink_end, stop_end, stopped_end, took_more, took_sent, took_start, way_end}

-- from each state that was held at first, the run so far leads to one that is held now
abbrev pub TookEach : {Request Reply State : Type 0} → Protocol Request Reply State → (Request → Effect) → (State → Type 0) → (State → Type 0) → Reading → Option (List ℕ) → Reading → Option (List ℕ) → Option (List ℕ) → Option (List ℕ) → List ℕ → Health → Below → Health → Below → Type 0
TookEach {Request} {Reply} {State} p does held holds start left reader now written written_now waiting h b i c = (s : State) → held s → (t : State) × holds t × Took p does s t start left reader now written written_now waiting h b i c

pub each_start : {Request Reply State : Type 0} (p : Protocol Request Reply State) (does : Request → Effect) (held : State → Type 0) (start : Reading) (left written : Option (List ℕ)) (waiting : List ℕ) (h : Health) (b : Below) → GoesNone p → start.ended ≡ false → waiting ≡ [] → TookEach p does held held start left start left written written waiting h b h b
each_start p does held start left written waiting h b none unended empty = λ s is. (s, is, subst (λ (w : List ℕ). Took p does s s start left start left written written w h b h b) (sym empty) (took_start p does s start left written h b none unended))

-- some of what waits is written
pub each_sent : {Request Reply State : Type 0} (p : Protocol Request Reply State) (does : Request → Effect) (held holds : State → Type 0) (start reader : Reading) (left now written mid written_now : Option (List ℕ)) (waiting rest : List ℕ) (faults faults_now : ℕ) (h : Health) (b : Below) (i : Health) (c : Below)
    → TookEach p does held holds start left reader now written mid waiting h b i c → Sent mid faults waiting [] written_now faults_now rest → TookEach p does held holds start left reader now written written_now rest h b i c
each_sent p does held holds start reader left now written mid written_now waiting rest faults faults_now h b i c took sent = λ s is.
    let before = took s is in
    (before.0, before.1, took_sent p does s before.0 start reader left now written mid written_now waiting rest faults faults_now h b i c before.2 sent)

-- a line is answered, and its reply is written or waits
pub each_more : {Request Reply State : Type 0} (p : Protocol Request Reply State) (does : Request → Effect) (held mid_holds holds : State → Type 0) (start mid reader : Reading) (left told now written written_mid written_now : Option (List ℕ)) (waiting rest : List ℕ) (faults faults_now : ℕ) (request : Option Request) (reply : Reply) (h : Health) (b : Below) (i : Health) (c : Below) (j : Health) (d : Below)
    → GoesMore p → TookEach p does held mid_holds start left mid told written written_mid waiting h b i c → AsksFor p.means mid told request reader now → (effect_in does request ≡ Nothing) ⊎ (waiting ≡ []) → ((s : State) → mid_holds s → (t : State) × p.step s request reply t × holds t)
    → p.went (request ∷ []) (reply ∷ []) i c j d → Sent written_mid faults waiting (p.text reply) written_now faults_now rest → TookEach p does held holds start left reader now written written_now rest h b j d
each_more p does held mid_holds holds start mid reader left told now written written_mid written_now waiting rest faults faults_now request reply h b i c j d more took asks quiet answered went sent = λ s is.
    let before = took s is in
    let step = answered before.0 before.1 in
    (step.0, step.2, took_more p does s before.0 step.0 start mid reader left told now written written_mid written_now waiting rest faults faults_now request reply h b i c j d more before.2 asks quiet step.1 went sent)

-- a state that the server holds now
pub each_holds : {Request Reply State : Type 0} (p : Protocol Request Reply State) (does : Request → Effect) (held holds : State → Type 0) (start reader : Reading) (left now written written_now : Option (List ℕ)) (waiting : List ℕ) (h : Health) (b : Below) (i : Health) (c : Below) → TookEach p does held holds start left reader now written written_now waiting h b i c → ((s : State) × held s) → (t : State) × holds t
each_holds p does held holds start reader left now written written_now waiting h b i c took some = let now = took some.0 some.1 in (now.0, now.1)

-- ---- replies that may wait

-- what may wait does nothing
pub quiet_or_none : {Request : Type 0} (does : Request → Effect) (request : Option Request) (effect : Effect) (waits gathers : Bool) (waiting : List ℕ) → effect ≡ effect_in does request → (waits ≡ true → (gathers ≡ true) × (effect ≡ Nothing)) → (waits ≡ true) ⊎ (waiting ≡ []) → (effect_in does request ≡ Nothing) ⊎ (waiting ≡ [])
quiet_or_none does request effect waits gathers waiting is may (inl told) = inl (sym is ∙ (may told).1)
quiet_or_none does request effect waits gathers waiting is may (inr none) = inr none

-- where a request was stopped none waits: on a calm machine what does nothing runs on
pub none_waits : {Request Reply State : Type 0} (p : Protocol Request Reply State) (does : Request → Effect) (calm : Below → Type 0) (request : Option Request) (effect : Effect) (waits gathers before : Bool) (waiting : List ℕ) (h : Health) (b : Below) (i : Health) (c : Below)
    → RunsOn p does calm → effect ≡ effect_in does request → (waits ≡ true → (gathers ≡ true) × (effect ≡ Nothing)) → (gathers ≡ true → before ≡ true) → (before ≡ true → calm b) → ((r : Request) × (request ≡ Some r)) → ((r : Request) → request ≡ Some r → p.stopped_on r h b i c) → (waits ≡ true) ⊎ (waiting ≡ []) → waiting ≡ []
none_waits p does calm request effect waits gathers before waiting h b i c runs is may goes calm_before (r, asks) stopped (inl told) =
    absurd (runs r h b i c (subst (λ o. effect_in does o ≡ Nothing) asks (sym is ∙ (may told).1)) (calm_before (goes (may told).0)) (stopped r asks))
none_waits p does calm request effect waits gathers before waiting h b i c runs is may goes calm_before some stopped (inr none) = none

-- what arms nothing leaves a calm machine calm
pub calm_still : {Request Reply State : Type 0} (p : Protocol Request Reply State) (does : Request → Effect) (calm : Below → Type 0) (request : Option Request) (reply : Reply) (effect : Effect) (h : Health) (b : Below) (i : Health) (c : Below)
    → StaysCalm p does calm → effect ≡ effect_in does request → effect ≢ Arms → calm b → p.went (request ∷ []) (reply ∷ []) h b i c → calm c
calm_still p does calm request reply effect h b i c stays is other before went = stays request reply h b i c (λ arms. other (is ∙ arms)) before went

-- ---- every end

-- a run that was not stopped
run_ends : {Request Reply State : Type 0} (p : Protocol Request Reply State) (holds stands : State → Type 0) (s t : State) (end : ServeEnd) (left left_after written written_after : Option (List ℕ)) (h : Health) (b : Below) (i : Health) (c : Below) → holds t → Ended p s t end left left_after written written_after h b i c → RunEnds p holds stands s end left left_after written written_after h b i c
run_ends p holds stands s t End left left_after written written_after h b i c is e = (t, is, e.0, e.1)
run_ends p holds stands s t SourceFault left left_after written written_after h b i c is e = (t, is, e.0, e.1)
run_ends p holds stands s t SinkFault left left_after written written_after h b i c is e = (t, is, e.0, e.1)
run_ends p holds stands s t InputLimit left left_after written written_after h b i c is e = (t, is, e.0, e.1)
run_ends p holds stands s t Memory left left_after written written_after h b i c is e = (t, is, e.0, e.1)
run_ends p holds stands s t Stopped left left_after written written_after h b i c is e = absurd e.0.run.finish

-- no line came
pub each_end : {Request Reply State : Type 0} (p : Protocol Request Reply State) (does : Request → Effect) (held holds stands : State → Type 0) (start mid reader : Reading) (left told now written written_mid written_now : Option (List ℕ)) (waiting : List ℕ) (faults faults_now : ℕ) (end : ServeEnd) (h : Health) (b : Below) (i : Health) (c : Below)
    → StaysStill p does → GoesLess p does → start.held ≡ [] → start.taken ≡ 0 → mid.taken ≤ 2 ^ 40 → TookEach p does held holds start left mid told written written_mid waiting h b i c → AskEnds mid told end reader now written_mid faults waiting written_now faults_now → (s : State) → held s → RunEnds p holds stands s end left now written written_now h b i c
each_end p does held holds stands start mid reader left told now written written_mid written_now waiting faults faults_now end h b i c still less fresh none within took (inr (stops, sent)) s is =
    let before = each_sent p does held holds start mid left told written written_mid written_now waiting [] faults faults_now h b i c took sent s is in
    run_ends p holds stands s before.0 end left now written written_now h b i c before.1 (stop_end p does s before.0 start mid reader left told now written written_now h b i c end fresh none before.2 stops)
each_end p does held holds stands start mid reader left told now written written_mid written_now waiting faults faults_now end h b i c still less fresh none within took (inl (at, same, unread, refuses)) s is =
    let before = took s is in
    let ended = ask_end p does s before.0 start mid left told written written_mid written_now waiting faults faults_now h b i c still less fresh none within before.2 refuses in
    subst (λ (e : ServeEnd). RunEnds p holds stands s e left now written written_now h b i c) (sym at) (subst (λ (o : Option (List ℕ)). RunEnds p holds stands s SinkFault left o written written_now h b i c) (sym unread) (run_ends p holds stands s before.0 SinkFault left told written written_now h b i c before.1 ended))

-- the sink refused what waited, before a line was answered
pub each_way : {Request Reply State : Type 0} (p : Protocol Request Reply State) (does : Request → Effect) (held holds stands : State → Type 0) (start mid reader : Reading) (left told now written written_mid written_now : Option (List ℕ)) (waiting : List ℕ) (faults faults_now : ℕ) (request : Option Request) (h : Health) (b : Below) (i : Health) (c : Below)
    → StaysStill p does → GoesLess p does → start.held ≡ [] → start.taken ≡ 0 → TookEach p does held holds start left mid told written written_mid waiting h b i c → AsksFor p.means mid told request reader now → Refuses written_mid faults waiting written_now faults_now → (s : State) → held s → RunEnds p holds stands s SinkFault left now written written_now h b i c
each_way p does held holds stands start mid reader left told now written written_mid written_now waiting faults faults_now request h b i c still less fresh none took asks refuses s is =
    let before = took s is in
    run_ends p holds stands s before.0 SinkFault left now written written_now h b i c before.1 (way_end p does s before.0 start mid reader left told now written written_mid written_now waiting faults faults_now request h b i c still less fresh none before.2 asks refuses)

-- the sink refused a reply, or what waited before it
pub each_sink : {Request Reply State : Type 0} (p : Protocol Request Reply State) (does : Request → Effect) (held mid_holds holds stands : State → Type 0) (start mid reader : Reading) (left told now written written_mid written_now : Option (List ℕ)) (waiting : List ℕ) (faults faults_now : ℕ) (request : Option Request) (reply : Reply) (h : Health) (b : Below) (i : Health) (c : Below) (j : Health) (d : Below)
    → GoesMore p → StaysStill p does → GoesLess p does → start.held ≡ [] → start.taken ≡ 0 → TookEach p does held mid_holds start left mid told written written_mid waiting h b i c → AsksFor p.means mid told request reader now → (effect_in does request ≡ Nothing) ⊎ (waiting ≡ []) → ((s : State) → mid_holds s → (t : State) × p.step s request reply t × holds t)
    → p.went (request ∷ []) (reply ∷ []) i c j d → IsCutOff written_mid faults waiting (p.text reply) written_now faults_now → (s : State) → held s → RunEnds p holds stands s SinkFault left now written written_now h b j d
each_sink p does held mid_holds holds stands start mid reader left told now written written_mid written_now waiting faults faults_now request reply h b i c j d more still less fresh none took asks quiet answered went cut s is =
    let before = took s is in
    let step = answered before.0 before.1 in
    run_ends p holds stands s step.0 SinkFault left now written written_now h b j d step.2 (sink_end p does s before.0 step.0 start mid reader left told now written written_mid written_now waiting faults faults_now request reply h b i c j d more still less fresh none before.2 asks quiet step.1 went cut)

-- the machine stopped on a request
pub each_stop : {Request Reply State T E : Type 0} (q : Result T E) (p : Protocol Request Reply State) (does : Request → Effect) (held mid_holds holds stands : State → Type 0) (start mid reader : Reading) (left told now written written_mid : Option (List ℕ)) (waiting : List ℕ) (request : Option Request) (h : Health) (b : Below) (i : Health) (c : Below) (j : Health) (d : Below)
    → start.held ≡ [] → start.taken ≡ 0 → TookEach p does held mid_holds start left mid told written written_mid waiting h b i c → AsksFor p.means mid told request reader now → (((r : Request) × (request ≡ Some r)) → waiting ≡ []) → ((s : State) → mid_holds s → (r : Request) × (request ≡ Some r) × (t : State) × p.part s r t × stands t)
    → ((r : Request) → request ≡ Some r → p.stopped_on r i c j d) → OnErr q ((s : State) → held s → RunEnds p holds stands s Stopped left now written written_mid h b j d)
each_stop (Ok value) p does held mid_holds holds stands start mid reader left told now written written_mid waiting request h b i c j d fresh none took asks empty stopped cause = tt
each_stop (Err e) p does held mid_holds holds stands start mid reader left told now written written_mid waiting request h b i c j d fresh none took asks empty stopped cause = λ s is.
    let before = took s is in
    let stop = stopped before.0 before.1 in
    let took_all = subst (λ (w : List ℕ). Took p does s before.0 start left mid told written written_mid w h b i c) (empty (stop.0, stop.1)) before.2 in
    let ends = stopped_end p does s before.0 start mid reader left told now written written_mid request stop.0 h b i c fresh none took_all asks stop.1 in
    (before.0, stop.0, stop.2, ends.0, stop.3, stop.4, i, c, ends.1, cause stop.0 stop.1)

-- there was no memory for the reader itself
pub each_none : {Request Reply State : Type 0} (p : Protocol Request Reply State) (holds stands : State → Type 0) (left written : Option (List ℕ)) (h : Health) (b : Below) → GoesNone p → (s : State) → holds s → RunEnds p holds stands s Memory left left written written h b h b
each_none p holds stands left written h b none s is = let e = no_start p s left written h b none in (s, is, e.0, e.1)

-- ---- how asking ends, by the streams

pub ask_rises : (old : Reading) (left : Option (List ℕ)) (end : ServeEnd) (new : Reading) (left_after written : Option (List ℕ)) (faults : ℕ) (waiting : List ℕ) (written_after : Option (List ℕ)) (faults_after : ℕ) → AskEnds old left end new left_after written faults waiting written_after faults_after → end ≡ SinkFault → Rose faults faults_after
ask_rises old left end new left_after written faults waiting written_after faults_after (inl refused) is = refused.3.cut.rose
ask_rises old left end new left_after written faults waiting written_after faults_after (inr (stops, sent)) is = absurd (subst (λ (e : ServeEnd). Stops old left e new left_after) is stops)

pub ask_steady : (old : Reading) (left : Option (List ℕ)) (end : ServeEnd) (new : Reading) (left_after written : Option (List ℕ)) (faults : ℕ) (waiting : List ℕ) (written_after : Option (List ℕ)) (faults_after : ℕ) → AskEnds old left end new left_after written faults waiting written_after faults_after → end ≢ SinkFault → faults_after ≡ faults
ask_steady old left end new left_after written faults waiting written_after faults_after (inl refused) other = absurd (other refused.0)
ask_steady old left end new left_after written faults waiting written_after faults_after (inr (stops, sent)) other = sent.steady

pub ask_later : (old : Reading) (left : Option (List ℕ)) (end : ServeEnd) (new : Reading) (left_after written : Option (List ℕ)) (faults : ℕ) (waiting : List ℕ) (written_after : Option (List ℕ)) (faults_after : ℕ) → AskEnds old left end new left_after written faults waiting written_after faults_after → faults ≤ faults_after
ask_later old left end new left_after written faults waiting written_after faults_after (inl refused) = refused.3.cut.later
ask_later old left end new left_after written faults waiting written_after faults_after (inr (stops, sent)) = let e = sent.steady in omega (arith, e)

pub ask_unstopped : (old : Reading) (left : Option (List ℕ)) (end : ServeEnd) (new : Reading) (left_after written : Option (List ℕ)) (faults : ℕ) (waiting : List ℕ) (written_after : Option (List ℕ)) (faults_after : ℕ) → AskEnds old left end new left_after written faults waiting written_after faults_after → end ≢ Stopped
ask_unstopped old left end new left_after written faults waiting written_after faults_after (inl refused) = λ is. not_sink (sym refused.0 ∙ is)
  where
    not_sink : SinkFault ≡ Stopped → ⊥
    not_sink e = cc
ask_unstopped old left end new left_after written faults waiting written_after faults_after (inr (stops, sent)) = λ is. absurd (subst (λ (e : ServeEnd). Stops old left e new left_after) is stops)

-- ---- one reply

pub answering_line : {Request Reply State : Type 0} (p : Protocol Request Reply State) (holds stands : State → Type 0) (s : State) (r : Request) (request : Option Request) (q : Result Reply MachineStopped) → request ≡ Some r → Answering p holds stands s r q → AnswersLine p holds stands s request q
answering_line p holds stands s r request (Ok reply) is h = (h.0, subst (λ o. p.step s o reply h.0) (sym is) h.1, h.2)
answering_line p holds stands s r request (Err e) is h = (r, is, h.0, h.1, h.2)

pub no_request : {Request Reply State : Type 0} (p : Protocol Request Reply State) (holds stands : State → Type 0) (s : State) (request : Option Request) (reply : Reply) → request ≡ None → p.step s None reply s → holds s → AnswersLine p holds stands s request (Ok reply)
no_request p holds stands s request reply is step h = (s, subst (λ o. p.step s o reply s) (sym is) step, h)

-- the count stays within what is told at first
pub limit_kept : (old new : Option ℕ) (faults : ℕ) → LimitLasts old new → ((most : ℕ) → new ≡ Some most → faults ≤ most) → (most : ℕ) → old ≡ Some most → faults ≤ most
limit_kept old new faults lasts law most is =
    let next = lasts.limit most is in
    let few = law next.0 next.1 in
    let less = next.2 in
    omega (arith, few, less)
