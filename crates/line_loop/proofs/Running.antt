-- How a served run goes on, line by line, and what it is at each of its ends.
use Rattle.std.proofs.Common.{◌≡◌, ◌≢◌, ℕ, zero, suc, ◌+◌, ◌-◌, ◌<◌, ◌≤◌, ◌^◌, true, false, cond, List, [], ◌∷◌, ◌++◌, length, take, drop, refl, sym, ap, subst, ◌∙◌, inl, inr, arith, length-append, append_assoc}
use Rattle.std.specs.Prelude.{Option, Some, None, ◌⊎◌}
use Rattle.std.proofs.lemmas.List.{append-nil, take-append-drop, take_at}
use Rattle.rio_base.specs.Blocks.{Health}
use Rattle.rio_base.specs.Bytes.{Lacks, onto, pieces}
use Rattle.rio_base.specs.Streams.{appended, prepended, IsSpent}
use Rattle.rio_base.specs.Volume.{Below}
use Rattle.request_codec.specs.declared.lines.NextLine.TheVariants.{End as NoLine}
use Rattle.request_codec.specs.declared.lines.LineFail.{LineFail}
use Rattle.request_codec.specs.declared.lines.LineFail.TheVariants.{Fault, Limit, Memory as NoMemory}
use Rattle.request_codec.specs.Lines.{Fails, Gives, HasEnded, HasNoEnd, Passes, Reading, TakesLine, ended, lines}
use Rattle.request_codec.specs.Sending.{IsCutOff, Sent}
use Rattle.line_loop.specs.declared.effects.Effect.{Effect}
use Rattle.line_loop.specs.declared.effects.Effect.TheVariants.{Nothing}
use Rattle.line_loop.specs.declared.ends.ServeEnd.{ServeEnd}
use Rattle.line_loop.specs.declared.ends.ServeEnd.TheVariants.{End, SourceFault, SinkFault, InputLimit, Memory, Stopped}
use Rattle.line_loop.specs.Asking.{AsksFor, Refuses, Stops}
use Rattle.line_loop.specs.Gathering.{AreQuiet, GoesLess, StaysStill, effect_in}
use Rattle.line_loop.specs.Protocol.{Protocol, GoesMore, GoesNone}
use Rattle.line_loop.specs.ServeRun.{AreFirst, EachMeans, Finishes, IsCut, Replied, Run, Serves, StopsOn, ended_lines, texts}
use Rattle.line_loop.proofs.Waits.{Waits, all_written, appended-append, appended-nil, cut_within, one_waits, quiet_less, waits_more, waits_moved, waits_sent, waits_start}

-- bytes without the separator are one piece
pieces-one : (sep : ℕ) (xs : List ℕ) → Lacks sep xs → xs ≢ [] → pieces sep xs ≡ xs ∷ []
pieces-one sep [] h n = absurd (n refl)
pieces-one sep (x ∷ []) h n = ap (λ b. cond b ([] ∷ []) ((x ∷ []) ∷ [])) h.0
pieces-one sep (x ∷ y ∷ xs) h n =
    ap (λ b. cond b ([] ∷ pieces sep (y ∷ xs)) (onto x (pieces sep (y ∷ xs)))) h.0
    ∙ ap (onto x) (pieces-one sep (y ∷ xs) h.1 (λ e. cc))

pub prepended-nil : (told : Option (List ℕ)) → told ≡ prepended [] told
prepended-nil None = refl
prepended-nil (Some rest) = refl

prepended-append : (xs ys : List ℕ) (told : Option (List ℕ)) → prepended (xs ++ ys) told ≡ prepended xs (prepended ys told)
prepended-append xs ys None = refl
prepended-append xs ys (Some rest) = ap Some (append_assoc xs ys rest)

passes_trans : (a b c : Reading) (left mid now : Option (List ℕ)) (xs ys : List ℕ) → Passes a left xs b mid → Passes b mid ys c now → Passes a left (xs ++ ys) c now
passes_trans a b c left mid now xs ys p q = record {
  given = p.given ++ q.given;
  gave = p.gave ∙ ap (prepended p.given) q.gave ∙ sym (prepended-append p.given q.given now);
  split = sym (append_assoc a.held p.given q.given) ∙ ap (λ zs. zs ++ q.given) p.split ∙ append_assoc xs b.held q.given ∙ ap (λ zs. xs ++ zs) q.split ∙ sym (append_assoc xs ys c.held);
  count = let pc = p.count in let qc = q.count in omega (arith, length-append p.given q.given);
}

-- a line with its end, and what follows
line_first : (line more : List ℕ) → HasNoEnd line → lines (ended line ++ more) ≡ line ∷ lines more
line_first [] more h = refl
line_first (b ∷ line) more h =
    ap (λ t. cond t ([] ∷ pieces 10 (ended line ++ more)) (onto b (pieces 10 (ended line ++ more)))) h.0
    ∙ ap (onto b) (line_first line more h.1)

abbrev AllWhole : List (List ℕ) → Type 0
AllWhole [] = Unit {0}
AllWhole (line ∷ answered) = HasNoEnd line × AllWhole answered

lines_first : (answered : List (List ℕ)) (more : List ℕ) → AllWhole answered → lines (ended_lines answered ++ more) ≡ answered ++ lines more
lines_first [] more h = refl
lines_first (line ∷ answered) more h =
    ap lines (append_assoc (ended line) (ended_lines answered) more)
    ∙ line_first line (ended_lines answered ++ more) h.0
    ∙ ap (λ rest. line ∷ rest) (lines_first answered more h.1)

all_whole-more : (answered : List (List ℕ)) (line : List ℕ) → AllWhole answered → HasNoEnd line → AllWhole (answered ++ line ∷ [])
all_whole-more [] line h w = (w, tt)
all_whole-more (a ∷ answered) line h w = (h.0, all_whole-more answered line h.1 w)

ended_lines-more : (answered : List (List ℕ)) (line : List ℕ) → ended_lines (answered ++ line ∷ []) ≡ ended_lines answered ++ ended line
ended_lines-more [] line = append-nil (ended line)
ended_lines-more (a ∷ answered) line = ap (λ zs. ended a ++ zs) (ended_lines-more answered line) ∙ sym (append_assoc (ended a) (ended_lines answered) (ended line))

-- ---- what was read

-- what the reader passed over are the answered lines, each with its end but for a last one where the input has ended
pub record Fed (start : Reading) (left : Option (List ℕ)) (reader : Reading) (now : Option (List ℕ)) (answered : List (List ℕ)) : Type 0 where
  pub fed : List ℕ
  pub passed : Passes start left fed reader now
  pub whole : AllWhole answered
  pub cover : (fed ≡ ended_lines answered) ⊎ ((reader.ended ≡ true) × (lines fed ≡ answered))

fed_start : (start : Reading) (left : Option (List ℕ)) → Fed start left start left []
fed_start start left = record {
  fed = [];
  passed = record { given = []; gave = prepended-nil left; split = append-nil start.held; count = let e : start.taken ≡ start.taken + 0 = omega arith in e };
  whole = tt;
  cover = inl refl;
}

-- one line more is passed over
fed_more : (start mid reader : Reading) (left told now : Option (List ℕ)) (answered : List (List ℕ)) (line : List ℕ) → Fed start left mid told answered → mid.ended ≡ false → TakesLine mid told line reader now → Fed start left reader now (answered ++ line ∷ [])
fed_more start mid reader left told now answered line h unended takes = by_cover h.cover takes.passed
  where
    whole_more : AllWhole (answered ++ line ∷ [])
    whole_more = all_whole-more answered line h.whole takes.whole

    by_cover : (h.fed ≡ ended_lines answered) ⊎ ((mid.ended ≡ true) × (lines h.fed ≡ answered)) → Passes mid told (ended line) reader now ⊎ (Passes mid told line reader now × (line ≢ []) × HasEnded reader now) → Fed start left reader now (answered ++ line ∷ [])
    by_cover (inr closed) p = absurd (let e = closed.0 in cc (unended, e))
    by_cover (inl is) (inl p) = record {
      fed = h.fed ++ ended line;
      passed = passes_trans start mid reader left told now h.fed (ended line) h.passed p;
      whole = whole_more;
      cover = inl (ap (λ zs. zs ++ ended line) is ∙ sym (ended_lines-more answered line));
    }
    by_cover (inl is) (inr p) = record {
      fed = h.fed ++ line;
      passed = passes_trans start mid reader left told now h.fed line h.passed p.0;
      whole = whole_more;
      cover = inr (p.2.told, ap (λ zs. lines (zs ++ line)) is ∙ lines_first answered line h.whole ∙ ap (λ zs. answered ++ zs) (pieces-one 10 line takes.whole p.1));
    }

-- what the source gave is what was passed over and what is held
given_is : (start reader : Reading) (left now : Option (List ℕ)) (eaten : List ℕ) (p : Passes start left eaten reader now) → start.held ≡ [] → p.given ≡ eaten ++ reader.held
given_is start reader left now eaten p fresh = ap (λ zs. zs ++ p.given) (sym fresh) ∙ p.split

-- where every answered line has its end
first_ended : (given rest : List ℕ) (now : Option (List ℕ)) (answered : List (List ℕ)) → AllWhole answered → given ≡ ended_lines answered ++ rest → AreFirst given now answered
first_ended given rest now answered whole is = record { more = lines rest; front = ap lines is ∙ lines_first answered rest whole; whole = inl (rest, is) }

-- the answered lines are the first ones
first_of : (start reader : Reading) (left now : Option (List ℕ)) (answered : List (List ℕ)) (h : Fed start left reader now answered) → start.held ≡ [] → (reader.ended ≡ true → HasEnded reader now) → AreFirst h.passed.given now answered
first_of start reader left now answered h fresh closed = by_cover h.cover
  where
    by_cover : (h.fed ≡ ended_lines answered) ⊎ ((reader.ended ≡ true) × (lines h.fed ≡ answered)) → AreFirst h.passed.given now answered
    by_cover (inl is) = first_ended h.passed.given reader.held now answered h.whole (given_is start reader left now h.fed h.passed fresh ∙ ap (λ zs. zs ++ reader.held) is)
    by_cover (inr both) =
        let over = closed both.0 in
        let all : h.passed.given ≡ h.fed = given_is start reader left now h.fed h.passed fresh ∙ ap (λ zs. h.fed ++ zs) over.empty ∙ append-nil h.fed in
        record { more = []; front = ap lines all ∙ both.1 ∙ sym (append-nil answered); whole = inr over.spent }

-- every answered line has its end, where the reader has not come to the end of the input
ended_cover : (start mid : Reading) (left told : Option (List ℕ)) (answered : List (List ℕ)) (h : Fed start left mid told answered) → mid.ended ≡ false → h.fed ≡ ended_lines answered
ended_cover start mid left told answered h unended = by_cover h.cover
  where
    by_cover : (h.fed ≡ ended_lines answered) ⊎ ((mid.ended ≡ true) × (lines h.fed ≡ answered)) → h.fed ≡ ended_lines answered
    by_cover (inl is) = is
    by_cover (inr both) = absurd (let e = both.0 in cc (unended, e))

-- what was given, where the reader then passed over part of a line
given_part : (start mid reader : Reading) (left told now : Option (List ℕ)) (answered : List (List ℕ)) (h : Fed start left mid told answered) → mid.ended ≡ false → start.held ≡ [] → (part : List ℕ) (p : Passes start left (h.fed ++ part) reader now) → p.given ≡ ended_lines answered ++ (part ++ reader.held)
given_part start mid reader left told now answered h unended fresh part p =
    given_is start reader left now (h.fed ++ part) p fresh
    ∙ ap (λ zs. (zs ++ part) ++ reader.held) (ended_cover start mid left told answered h unended)
    ∙ append_assoc (ended_lines answered) part reader.held

-- the source gave as many bytes as the reader counts
few_given : (start reader : Reading) (given : List ℕ) → start.taken ≡ 0 → reader.taken ≡ start.taken + length given → reader.taken ≤ 2 ^ 40 → length given ≤ 2 ^ 40
few_given start reader given none count within = omega (arith, none, count, within)

eaten_falls : (mid reader : Reading) (told now : Option (List ℕ)) (eaten : List ℕ) → Passes mid told eaten reader now → 0 < length eaten → reader.taken ≤ 2 ^ 40 → (2 ^ 40 - reader.taken) + length reader.held < (2 ^ 40 - mid.taken) + length mid.held
eaten_falls mid reader told now eaten p some within =
    let count = p.count in
    let sizes : length mid.held + length p.given ≡ length eaten + length reader.held = sym (length-append mid.held p.given) ∙ ap length p.split ∙ length-append eaten reader.held in
    omega arith

-- each line makes what is left of the input, as far as it is taken, less
pub budget_falls : (mid reader : Reading) (told now : Option (List ℕ)) (line : List ℕ) → TakesLine mid told line reader now → reader.taken ≤ 2 ^ 40 → (2 ^ 40 - reader.taken) + length reader.held < (2 ^ 40 - mid.taken) + length mid.held
budget_falls mid reader told now line takes within = by_case takes.passed
  where
    some : (xs : List ℕ) → xs ≢ [] → 0 < length xs
    some [] n = absurd (n refl)
    some (x ∷ xs) n = omega arith

    by_case : Passes mid told (ended line) reader now ⊎ (Passes mid told line reader now × (line ≢ []) × HasEnded reader now) → (2 ^ 40 - reader.taken) + length reader.held < (2 ^ 40 - mid.taken) + length mid.held
    by_case (inl p) = eaten_falls mid reader told now (ended line) p (omega (arith, length-append line (10 ∷ []))) within
    by_case (inr p) = eaten_falls mid reader told now line p.0 (some line p.1) within

-- ---- what was replied

each_means-more : {Request : Type 0} (means : List ℕ → Option Request → Type 0) (answered : List (List ℕ)) (requests : List (Option Request)) (line : List ℕ) (request : Option Request) → EachMeans means answered requests → means line request → EachMeans means (answered ++ line ∷ []) (requests ++ request ∷ [])
each_means-more means [] [] line request h m = (m, tt)
each_means-more means [] (r ∷ requests) line request h m = absurd h
each_means-more means (a ∷ answered) [] line request h m = absurd h
each_means-more means (a ∷ answered) (r ∷ requests) line request h m = (h.0, each_means-more means answered requests line request h.1 m)

run-more : {Request Reply State : Type 0} (step : State → Option Request → Reply → State → Type 0) (s t u : State) (requests : List (Option Request)) (replies : List Reply) (request : Option Request) (reply : Reply) → Run step s requests replies t → step t request reply u → Run step s (requests ++ request ∷ []) (replies ++ reply ∷ []) u
run-more step s t u [] [] request reply h one = (u, subst (λ w. step w request reply u) h one, refl)
run-more step s t u [] (p ∷ replies) request reply h one = absurd h
run-more step s t u (r ∷ requests) [] request reply h one = absurd h
run-more step s t u (r ∷ requests) (p ∷ replies) request reply h one = (h.0, h.1, run-more step h.0 t u requests replies request reply h.2 one)

-- the line asks for this, and this is its reply and the state after it
unfoldable replied-more : {Request Reply State : Type 0} (p : Protocol Request Reply State) (s t u : State) (answered : List (List ℕ)) (replies : List Reply) (line : List ℕ) (request : Option Request) (reply : Reply) → Replied p s answered replies t → p.means line request → p.step t request reply u → Replied p s (answered ++ line ∷ []) (replies ++ reply ∷ []) u
replied-more p s t u answered replies line request reply h means step = record {
  requests = h.requests ++ request ∷ [];
  meaning = each_means-more p.means answered h.requests line request h.meaning means;
  run = run-more p.step s t u h.requests replies request reply h.run step;
}

run_even : {Request Reply State : Type 0} (step : State → Option Request → Reply → State → Type 0) (s t : State) (requests : List (Option Request)) (replies : List Reply) → Run step s requests replies t → length requests ≡ length replies
run_even step s t [] [] h = refl
run_even step s t [] (p ∷ replies) h = absurd h
run_even step s t (r ∷ requests) [] h = absurd h
run_even step s t (r ∷ requests) (p ∷ replies) h = ap suc (run_even step h.0 t requests replies h.2)

-- ---- the first of what was replied, where the rest does nothing

ended_lines-append : (xs ys : List (List ℕ)) → ended_lines (xs ++ ys) ≡ ended_lines xs ++ ended_lines ys
ended_lines-append [] ys = refl
ended_lines-append (x ∷ xs) ys = ap (λ zs. ended x ++ zs) (ended_lines-append xs ys) ∙ sym (append_assoc (ended x) (ended_lines xs) (ended_lines ys))

first_front : (taken : List ℕ) (now : Option (List ℕ)) (xs ys : List (List ℕ)) → AreFirst taken now (xs ++ ys) → AreFirst taken now xs
first_front taken now xs ys h = record { more = ys ++ h.more; front = h.front ∙ append_assoc xs ys h.more; whole = by h.whole }
  where
    by : ((rest : List ℕ) × (taken ≡ ended_lines (xs ++ ys) ++ rest)) ⊎ IsSpent now → ((rest : List ℕ) × (taken ≡ ended_lines xs ++ rest)) ⊎ IsSpent now
    by (inl (rest, is)) = inl (ended_lines ys ++ rest, is ∙ ap (λ zs. zs ++ rest) (ended_lines-append xs ys) ∙ append_assoc (ended_lines xs) (ended_lines ys) rest)
    by (inr spent) = inr spent

first_less : (taken : List ℕ) (now : Option (List ℕ)) (answered : List (List ℕ)) (n : ℕ) → AreFirst taken now answered → AreFirst taken now (take n answered)
first_less taken now answered n h = first_front taken now (take n answered) (drop n answered) (subst (AreFirst taken now) (sym (take-append-drop n answered)) h)

means_less : {Request : Type 0} (means : List ℕ → Option Request → Type 0) (n : ℕ) (answered : List (List ℕ)) (requests : List (Option Request)) → EachMeans means answered requests → EachMeans means (take n answered) (take n requests)
means_less means zero answered requests h = tt
means_less means (suc n) [] [] h = tt
means_less means (suc n) [] (r ∷ requests) h = absurd h
means_less means (suc n) (a ∷ answered) [] h = absurd h
means_less means (suc n) (a ∷ answered) (r ∷ requests) h = (h.0, means_less means n answered requests h.1)

run_still : {Request Reply State : Type 0} (p : Protocol Request Reply State) (does : Request → Effect) → StaysStill p does → (s t : State) (requests : List (Option Request)) (replies : List Reply) → Run p.step s requests replies t → AreQuiet does requests → t ≡ s
run_still p does still s t [] [] h quiet = h
run_still p does still s t [] (y ∷ replies) h quiet = absurd h
run_still p does still s t (x ∷ requests) [] h quiet = absurd h
run_still p does still s t (x ∷ requests) (y ∷ replies) h quiet = run_still p does still h.0 t requests replies h.2 quiet.1 ∙ still s h.0 x y quiet.0 h.1

run_less : {Request Reply State : Type 0} (p : Protocol Request Reply State) (does : Request → Effect) → StaysStill p does → (n : ℕ) (s t : State) (requests : List (Option Request)) (replies : List Reply) → Run p.step s requests replies t → AreQuiet does (drop n requests) → Run p.step s (take n requests) (take n replies) t
run_less p does still zero s t requests replies h quiet = run_still p does still s t requests replies h quiet
run_less p does still (suc n) s t [] [] h quiet = h
run_less p does still (suc n) s t [] (y ∷ replies) h quiet = absurd h
run_less p does still (suc n) s t (x ∷ requests) [] h quiet = absurd h
run_less p does still (suc n) s t (x ∷ requests) (y ∷ replies) h quiet = (h.0, h.1, run_less p does still n h.0 t requests replies h.2 quiet)

-- ---- the run so far

pub record Took {Request Reply State : Type 0} (p : Protocol Request Reply State) (does : Request → Effect) (s t : State) (start : Reading) (left : Option (List ℕ)) (reader : Reading) (now written written_now : Option (List ℕ)) (waiting : List ℕ) (h : Health) (b : Below) (i : Health) (c : Below) : Type 0 where
  pub answered : List (List ℕ)
  pub replies : List Reply
  pub so_far : Fed start left reader now answered
  pub replied : Replied p s answered replies t
  pub waits : Waits p.text does replied.requests replies written written_now waiting
  pub closed : reader.ended ≡ true → HasEnded reader now
  pub went : p.went replied.requests replies h b i c

pub took_start : {Request Reply State : Type 0} (p : Protocol Request Reply State) (does : Request → Effect) (s : State) (start : Reading) (left written : Option (List ℕ)) (h : Health) (b : Below) → GoesNone p → start.ended ≡ false → Took p does s s start left start left written written [] h b h b
took_start p does s start left written h b none unended = record {
  answered = [];
  replies = [];
  so_far = fed_start start left;
  replied = record { requests = []; meaning = tt; run = refl };
  waits = waits_start p.text does written;
  closed = λ told. absurd (false_is_true (sym unended ∙ told));
  went = none h b;
}
  where
    false_is_true : false ≡ true → ⊥
    false_is_true e = cc

-- some of what waits is written
pub took_sent : {Request Reply State : Type 0} (p : Protocol Request Reply State) (does : Request → Effect) (s t : State) (start reader : Reading) (left now written mid written_now : Option (List ℕ)) (waiting rest : List ℕ) (faults faults_now : ℕ) (h : Health) (b : Below) (i : Health) (c : Below)
    → Took p does s t start left reader now written mid waiting h b i c → Sent mid faults waiting [] written_now faults_now rest → Took p does s t start left reader now written written_now rest h b i c
took_sent p does s t start reader left now written mid written_now waiting rest faults faults_now h b i c took sent = record {
  answered = took.answered;
  replies = took.replies;
  so_far = took.so_far;
  replied = took.replied;
  waits = waits_sent p.text does took.replied.requests took.replies written mid written_now waiting rest faults faults_now took.waits sent;
  closed = took.closed;
  went = took.went;
}

-- one line more was answered, which does nothing or before which nothing waited, and its reply is written or waits
pub took_more : {Request Reply State : Type 0} (p : Protocol Request Reply State) (does : Request → Effect) (s t u : State) (start mid reader : Reading) (left told now written written_mid written_now : Option (List ℕ)) (waiting rest : List ℕ) (faults faults_now : ℕ) (request : Option Request) (reply : Reply) (h : Health) (b : Below) (i : Health) (c : Below) (j : Health) (d : Below)
    → GoesMore p → Took p does s t start left mid told written written_mid waiting h b i c → AsksFor p.means mid told request reader now → (effect_in does request ≡ Nothing) ⊎ (waiting ≡ []) → p.step t request reply u → p.went (request ∷ []) (reply ∷ []) i c j d
    → Sent written_mid faults waiting (p.text reply) written_now faults_now rest → Took p does s u start left reader now written written_now rest h b j d
unfolding replied-more
took_more p does s t u start mid reader left told now written written_mid written_now waiting rest faults faults_now request reply h b i c j d more took asks quiet step went sent =
    let waits = waits_more p.text does took.replied.requests took.replies written written_mid waiting request reply (run_even p.step s t took.replied.requests took.replies took.replied.run) quiet took.waits in
    record {
      answered = took.answered ++ asks.line ∷ [];
      replies = took.replies ++ reply ∷ [];
      so_far = fed_more start mid reader left told now took.answered asks.line took.so_far asks.unended asks.takes;
      replied = replied-more p s t u took.answered took.replies asks.line request reply took.replied asks.asks step;
      waits = waits_moved p.text does (took.replied.requests ++ request ∷ []) (took.replies ++ reply ∷ []) written written_mid written_now (waiting ++ p.text reply) sent.took.front rest waits.0 sent.took.wrote sent.took.whole;
      closed = asks.closed;
      went = more took.replied.requests took.replies request reply h b i c j d took.went went;
    }

-- ---- every end

-- a run that was not stopped, from one state to another
abbrev pub Ended : {Request Reply State : Type 0} → Protocol Request Reply State → State → State → ServeEnd → Option (List ℕ) → Option (List ℕ) → Option (List ℕ) → Option (List ℕ) → Health → Below → Health → Below → Type 0
Ended p s t end left now written written_now h b i c = (serves : Serves p s t end left now written written_now) × p.went serves.run.replied.requests serves.run.replies h b i c

-- the run ends here: nothing more is answered
stop_here : {Request Reply State : Type 0} (p : Protocol Request Reply State) (does : Request → Effect) (s t : State) (start mid reader : Reading) (left told now written written_now : Option (List ℕ)) (h : Health) (b : Below) (i : Health) (c : Below)
    → start.held ≡ [] → (took : Took p does s t start left mid told written written_now [] h b i c) → mid.ended ≡ false → (part : List ℕ) → (q : Passes mid told part reader now) → (end : ServeEnd)
    → ((given : List ℕ) → given ≡ ended_lines took.answered ++ (part ++ reader.held) → reader.taken ≡ start.taken + length given → Finishes p.text end given now took.answered took.replies (texts p.text took.replies))
    → Ended p s t end left now written written_now h b i c
stop_here p does s t start mid reader left told now written written_now h b i c fresh took unended part q end finish =
    let fed = took.so_far in
    let over = passes_trans start mid reader left told now fed.fed part fed.passed q in
    let given = given_part start mid reader left told now took.answered fed unended fresh part over in (
      record {
        taken = over.given;
        out = texts p.text took.replies;
        gave = over.gave;
        run = record {
          answered = took.answered;
          replies = took.replies;
          first = first_ended over.given (part ++ reader.held) now took.answered fed.whole given;
          replied = took.replied;
          finish = finish over.given given over.count;
        };
        wrote = all_written p.text does took.replied.requests took.replies written written_now took.waits;
      },
      took.went,
    )

-- where serving ends, where no next line was given
abbrev failed_end : LineFail → ServeEnd
failed_end Fault = SourceFault
failed_end Limit = InputLimit
failed_end NoMemory = Memory

-- no next line was given
fail_end : {Request Reply State : Type 0} (p : Protocol Request Reply State) (does : Request → Effect) (s t : State) (start mid reader : Reading) (left told now written written_now : Option (List ℕ)) (h : Health) (b : Below) (i : Health) (c : Below) (fail : LineFail)
    → start.held ≡ [] → start.taken ≡ 0 → Took p does s t start left mid told written written_now [] h b i c → mid.ended ≡ false → Fails mid told fail reader now → Ended p s t (failed_end fail) left now written written_now h b i c
fail_end p does s t start mid reader left told now written written_now h b i c Fault fresh none took unended (part, takes, empty, within) =
    stop_here p does s t start mid reader left told now written written_now h b i c fresh took unended part takes.passed SourceFault
    (λ given is count. ((part, takes.whole, is ∙ ap (λ zs. ended_lines took.answered ++ (part ++ zs)) empty ∙ ap (λ zs. ended_lines took.answered ++ zs) (append-nil part)), few_given start reader given none count within, refl))
fail_end p does s t start mid reader left told now written written_now h b i c NoMemory fresh none took unended (part, takes, within) =
    stop_here p does s t start mid reader left told now written written_now h b i c fresh took unended part takes.passed Memory (λ given is count. (few_given start reader given none count within, refl))
fail_end p does s t start mid reader left told now written written_now h b i c Limit fresh none took unended over =
    stop_here p does s t start mid reader left told now written written_now h b i c fresh took unended (over.part ++ over.extra ∷ []) over.passed InputLimit
    (λ given is count.
    let total : length given ≡ 2 ^ 40 + 1 = let c = count in let n = none in let tk = over.taken in omega arith in
    let whole : given ≡ (ended_lines took.answered ++ over.part) ++ (over.extra ∷ []) =
    is ∙ ap (λ zs. ended_lines took.answered ++ ((over.part ++ over.extra ∷ []) ++ zs)) over.empty
    ∙ ap (λ zs. ended_lines took.answered ++ zs) (append-nil (over.part ++ over.extra ∷ []))
    ∙ sym (append_assoc (ended_lines took.answered) over.part (over.extra ∷ [])) in
    let size : length (ended_lines took.answered ++ over.part) ≡ 2 ^ 40 =
    let e = ap length whole in let f = length-append (ended_lines took.answered ++ over.part) (over.extra ∷ []) in omega arith in
    (total, (over.part, over.whole, ap (take (2 ^ 40)) whole ∙ take_at (ended_lines took.answered ++ over.part) (over.extra ∷ []) (2 ^ 40) size), refl))

-- the input was read to its end
input_end : {Request Reply State : Type 0} (p : Protocol Request Reply State) (does : Request → Effect) (s t : State) (start mid reader : Reading) (left told now written written_now : Option (List ℕ)) (h : Health) (b : Below) (i : Health) (c : Below)
    → start.held ≡ [] → start.taken ≡ 0 → reader.taken ≤ 2 ^ 40 → Took p does s t start left mid told written written_now [] h b i c → Gives mid told NoLine reader now → Ended p s t End left now written written_now h b i c
input_end p does s t start mid reader left told now written written_now h b i c fresh none within took (passed, over) =
    let fed = took.so_far in
    let q = passes_trans start mid reader left told now fed.fed [] fed.passed passed in
    let all : q.given ≡ fed.fed = given_is start reader left now (fed.fed ++ []) q fresh ∙ ap (λ zs. (fed.fed ++ []) ++ zs) over.empty ∙ append-nil (fed.fed ++ []) ∙ append-nil fed.fed in
    let every : lines q.given ≡ took.answered = ap lines all ∙ by_cover fed.cover in (
      record {
        taken = q.given;
        out = texts p.text took.replies;
        gave = q.gave;
        run = record {
          answered = took.answered;
          replies = took.replies;
          first = record { more = []; front = every ∙ sym (append-nil took.answered); whole = inr over.spent };
          replied = took.replied;
          finish = (over.spent, every, (let c = q.count in let n = none in omega arith), refl);
        };
        wrote = all_written p.text does took.replied.requests took.replies written written_now took.waits;
      },
      took.went,
    )
  where
    by_cover : (took.so_far.fed ≡ ended_lines took.answered) ⊎ ((mid.ended ≡ true) × (lines took.so_far.fed ≡ took.answered)) → lines took.so_far.fed ≡ took.answered
    by_cover (inl is) = ap lines (is ∙ sym (append-nil (ended_lines took.answered))) ∙ lines_first took.answered [] took.so_far.whole ∙ append-nil took.answered
    by_cover (inr both) = both.1

-- there was no memory for the reader itself
unfoldable pub nothing_served : {Request Reply State : Type 0} (p : Protocol Request Reply State) (s : State) (left written : Option (List ℕ)) → Serves p s s Memory left left written written
nothing_served p s left written = record {
  taken = [];
  out = [];
  gave = prepended-nil left;
  run = record { answered = []; replies = []; first = record { more = []; front = refl; whole = inl ([], refl) }; replied = record { requests = []; meaning = tt; run = refl }; finish = (omega arith, refl) };
  wrote = appended-nil written;
}

pub no_start : {Request Reply State : Type 0} (p : Protocol Request Reply State) (s : State) (left written : Option (List ℕ)) (h : Health) (b : Below) → GoesNone p → Ended p s s Memory left left written written h b h b
unfolding nothing_served
no_start p s left written h b none = (nothing_served p s left written, none h b)

-- no line came
pub stop_end : {Request Reply State : Type 0} (p : Protocol Request Reply State) (does : Request → Effect) (s t : State) (start mid reader : Reading) (left told now written written_now : Option (List ℕ)) (h : Health) (b : Below) (i : Health) (c : Below) (end : ServeEnd)
    → start.held ≡ [] → start.taken ≡ 0 → Took p does s t start left mid told written written_now [] h b i c → Stops mid told end reader now → Ended p s t end left now written written_now h b i c
stop_end p does s t start mid reader left told now written written_now h b i c End fresh none took stops = input_end p does s t start mid reader left told now written written_now h b i c fresh none stops.1 took stops.0
stop_end p does s t start mid reader left told now written written_now h b i c SourceFault fresh none took stops = fail_end p does s t start mid reader left told now written written_now h b i c Fault fresh none took stops.1 stops.0
stop_end p does s t start mid reader left told now written written_now h b i c InputLimit fresh none took stops = fail_end p does s t start mid reader left told now written written_now h b i c Limit fresh none took stops.1 stops.0
stop_end p does s t start mid reader left told now written written_now h b i c Memory fresh none took stops =
    stop_here p does s t start mid reader left told now written written_now h b i c fresh took stops.unended stops.part stops.passed Memory (λ given is count. (few_given start reader given none count stops.within, refl))
stop_end p does s t start mid reader left told now written written_now h b i c SinkFault fresh none took stops = absurd stops
stop_end p does s t start mid reader left told now written written_now h b i c Stopped fresh none took stops = absurd stops

-- ---- what waited was refused

-- the sink refused what waits, of which it took a front: the run ends at the reply that was cut
cut_end : {Request Reply State : Type 0} (p : Protocol Request Reply State) (does : Request → Effect) (s t : State) (taken : List ℕ) (left now written mid written_now : Option (List ℕ)) (answered : List (List ℕ)) (replies : List Reply) (waiting front lost : List ℕ) (h : Health) (b : Below) (i : Health) (c : Below)
    → StaysStill p does → GoesLess p does → left ≡ prepended taken now → length taken ≤ 2 ^ 40 → AreFirst taken now answered → (replied : Replied p s answered replies t) → (waits : Waits p.text does replied.requests replies written mid waiting) → waits.done < length replies
    → written_now ≡ appended mid front → front ++ lost ≡ waiting → p.went replied.requests replies h b i c → Ended p s t SinkFault left now written written_now h b i c
cut_end p does s t taken left now written mid written_now answered replies waiting front lost h b i c still less gave few first replied waits some moved parts went =
    let told = waits.out ++ front in
    let whole : texts p.text replies ≡ told ++ lost = sym waits.whole ∙ ap (λ zs. waits.out ++ zs) (sym parts) ∙ sym (append_assoc waits.out front lost) in
    let is : take (length told) (texts p.text replies) ≡ told = ap (take (length told)) whole ∙ take_at told lost (length told) refl in
    let size : length (texts p.text replies) ≡ length told + length lost = ap length whole ∙ length-append told lost in
    let cut = cut_within p.text replies waits.done (length told) some (let least = waits.least in omega (arith, least, length-append waits.out front)) (omega (arith, size)) in
    let quiet = quiet_less does (suc waits.done) cut.0 replied.requests (let past = cut.1 in omega (arith, past)) waits.rest in (
      record {
        taken = taken;
        out = told;
        gave = gave;
        run = record {
          answered = take cut.0 answered;
          replies = take cut.0 replies;
          first = first_less taken now answered cut.0 first;
          replied = record {
            requests = take cut.0 replied.requests;
            meaning = means_less p.means cut.0 answered replied.requests replied.meaning;
            run = run_less p does still cut.0 s t replied.requests replies replied.run quiet;
          };
          finish = (few, subst (IsCut p.text (take cut.0 replies)) is cut.2);
        };
        wrote = moved ∙ ap (λ (o : Option (List ℕ)). appended o front) waits.wrote ∙ appended-append written waits.out front;
      },
      less cut.0 replied.requests replies h b i c quiet went,
    )

-- before the source was asked
pub ask_end : {Request Reply State : Type 0} (p : Protocol Request Reply State) (does : Request → Effect) (s t : State) (start reader : Reading) (left now written mid written_now : Option (List ℕ)) (waiting : List ℕ) (faults faults_now : ℕ) (h : Health) (b : Below) (i : Health) (c : Below)
    → StaysStill p does → GoesLess p does → start.held ≡ [] → start.taken ≡ 0 → reader.taken ≤ 2 ^ 40 → Took p does s t start left reader now written mid waiting h b i c → Refuses mid faults waiting written_now faults_now → Ended p s t SinkFault left now written written_now h b i c
ask_end p does s t start reader left now written mid written_now waiting faults faults_now h b i c still less fresh none within took refuses =
    let fed = took.so_far in
    let cut = refuses.cut in
    cut_end p does s t fed.passed.given left now written mid written_now took.answered took.replies waiting cut.took.front cut.lost h b i c still less fed.passed.gave (few_given start reader fed.passed.given none fed.passed.count within) (first_of start reader left now took.answered fed fresh took.closed) took.replied took.waits
    (one_waits p.text does took.replied.requests took.replies written mid waiting took.waits refuses.some) cut.took.wrote (cut.took.whole ∙ append-nil waiting) took.went

-- before a line was answered that may do something
pub way_end : {Request Reply State : Type 0} (p : Protocol Request Reply State) (does : Request → Effect) (s t : State) (start mid reader : Reading) (left told now written written_mid written_now : Option (List ℕ)) (waiting : List ℕ) (faults faults_now : ℕ) (request : Option Request) (h : Health) (b : Below) (i : Health) (c : Below)
    → StaysStill p does → GoesLess p does → start.held ≡ [] → start.taken ≡ 0 → Took p does s t start left mid told written written_mid waiting h b i c → AsksFor p.means mid told request reader now → Refuses written_mid faults waiting written_now faults_now → Ended p s t SinkFault left now written written_now h b i c
way_end p does s t start mid reader left told now written written_mid written_now waiting faults faults_now request h b i c still less fresh none took asks refuses =
    let fed = fed_more start mid reader left told now took.answered asks.line took.so_far asks.unended asks.takes in
    let first = first_of start reader left now (took.answered ++ asks.line ∷ []) fed fresh asks.closed in
    let cut = refuses.cut in
    cut_end p does s t fed.passed.given left now written written_mid written_now took.answered took.replies waiting cut.took.front cut.lost h b i c still less fed.passed.gave (few_given start reader fed.passed.given none fed.passed.count asks.within) (first_front fed.passed.given now took.answered (asks.line ∷ []) first) took.replied took.waits
    (one_waits p.text does took.replied.requests took.replies written written_mid waiting took.waits refuses.some) cut.took.wrote (cut.took.whole ∙ append-nil waiting) took.went

-- as a line's reply was written or put behind what waited
pub sink_end : {Request Reply State : Type 0} (p : Protocol Request Reply State) (does : Request → Effect) (s t u : State) (start mid reader : Reading) (left told now written written_mid written_now : Option (List ℕ)) (waiting : List ℕ) (faults faults_now : ℕ) (request : Option Request) (reply : Reply) (h : Health) (b : Below) (i : Health) (c : Below) (j : Health) (d : Below)
    → GoesMore p → StaysStill p does → GoesLess p does → start.held ≡ [] → start.taken ≡ 0 → Took p does s t start left mid told written written_mid waiting h b i c → AsksFor p.means mid told request reader now → (effect_in does request ≡ Nothing) ⊎ (waiting ≡ []) → p.step t request reply u → p.went (request ∷ []) (reply ∷ []) i c j d
    → IsCutOff written_mid faults waiting (p.text reply) written_now faults_now → Ended p s u SinkFault left now written written_now h b j d
unfolding replied-more
sink_end p does s t u start mid reader left told now written written_mid written_now waiting faults faults_now request reply h b i c j d more still less fresh none took asks quiet step went cut =
    let fed = fed_more start mid reader left told now took.answered asks.line took.so_far asks.unended asks.takes in
    let first = first_of start reader left now (took.answered ++ asks.line ∷ []) fed fresh asks.closed in
    let waits = waits_more p.text does took.replied.requests took.replies written written_mid waiting request reply (run_even p.step s t took.replied.requests took.replies took.replied.run) quiet took.waits in
    cut_end p does s u fed.passed.given left now written written_mid written_now (took.answered ++ asks.line ∷ []) (took.replies ++ reply ∷ []) (waiting ++ p.text reply) cut.took.front cut.lost h b j d still less fed.passed.gave (few_given start reader fed.passed.given none fed.passed.count asks.within) first
    (replied-more p s t u took.answered took.replies asks.line request reply took.replied asks.asks step) waits.0 waits.1 cut.took.wrote cut.took.whole (more took.replied.requests took.replies request reply h b i c j d took.went went)

-- ---- the machine stopped on a request, as nothing waited

pub stopped_end : {Request Reply State : Type 0} (p : Protocol Request Reply State) (does : Request → Effect) (s t : State) (start mid reader : Reading) (left told now written written_mid : Option (List ℕ)) (request : Option Request) (r : Request) (h : Health) (b : Below) (i : Health) (c : Below)
    → start.held ≡ [] → start.taken ≡ 0 → Took p does s t start left mid told written written_mid [] h b i c → AsksFor p.means mid told request reader now → request ≡ Some r → (stop : StopsOn p s t r left now written written_mid) × p.went stop.replied.requests stop.replies h b i c
stopped_end p does s t start mid reader left told now written written_mid request r h b i c fresh none took asks is =
    let fed = fed_more start mid reader left told now took.answered asks.line took.so_far asks.unended asks.takes in (
      record {
        taken = fed.passed.given;
        gave = fed.passed.gave;
        answered = took.answered;
        replies = took.replies;
        line = asks.line;
        means = subst (p.means asks.line) is asks.asks;
        first = first_of start reader left now (took.answered ++ asks.line ∷ []) fed fresh asks.closed;
        within = few_given start reader fed.passed.given none fed.passed.count asks.within;
        replied = took.replied;
        wrote = all_written p.text does took.replied.requests took.replies written written_mid took.waits;
      },
      took.went,
    )
