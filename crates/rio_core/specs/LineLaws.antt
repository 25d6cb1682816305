-- Laws of lines that are too long and of requests that do nothing, which a core owes as a server of lines.
use Rattle.std.proofs.Common.{◌<◌, ℕ, ◌≡◌, ◌≢◌, ◌+◌, ◌≤◌, ◌⊎◌, ◌∷◌, ◌∙◌, List, length, arith, zero, suc, min, false, true, [], take, drop, refl, sym, ap, subst, inl, inr, length-take}
use Rattle.std.specs.Prelude.{None, Option, Some, Result, Ok, Err}
use Rattle.std.specs.FinMap.{get}
use Rattle.rio_base.specs.Failures.{RoseBy}
use Rattle.rio_model.specs.declared.node.Node.{Node}
use Rattle.rio_model.specs.declared.node.Node.TheVariants.{Dir, File, Region}
use Rattle.rio_model.specs.declared.node.RegionNode.{RegionNode}
use Rattle.rio_model.specs.declared.state.State.{State}
use Rattle.rio_model.specs.Paths.{names_of, walk, walk_to_dir}
use Rattle.rio_requests.specs.declared.answered.Answered.{Answered}
use Rattle.rio_requests.specs.declared.reply.Reply.{Reply}
use Rattle.rio_requests.specs.declared.request.Request.{Request}
use Rattle.rio_requests.specs.declared.request.Request.TheVariants.{Read, Stat as StatOf, List as ListOf, Sync, Get, Txns, Flush, Arm}
use Rattle.rio_requests.specs.Answer.{at_inode, on_file}
use Rattle.rio_requests.specs.Answers.{answer_of, stat_node}
use Rattle.rio_requests.specs.Parts.{FaultStep}
use Rattle.rio_requests.specs.RegionAnswers.{Outcome, get_on}
use Rattle.rio_requests.specs.Transactions.{looked, on_region, txn_at}
use Rattle.rio_requests.specs.Went.{Halting, NoFlush, NoFlushes, armed_by, fault_of, faults_in, last_armed}
use Rattle.request_codec.specs.Form.{Means}
use Rattle.request_codec.proofs.OneMeaning.{form_length}
use Rattle.line_loop.specs.declared.effects.Effect.TheVariants.{Nothing, Changes, Arms}
use Rattle.line_loop.specs.Gathering.{AreQuiet, GoesLess, RunsOn, StaysCalm, StaysStill, effect_in}
use Rattle.rio_core.specs.Lines.{IsCalm, core_protocol, effect_of}

-- ---- a line that is too long

-- a line that is too long for any request
pub long_none : (line : List ℕ) → 4194304 < length line → Means line None
long_none line long request form = absurd (omega (arith, form_length line request form))

-- ---- requests that do nothing

changes_some : Changes ≡ Nothing → ⊥
changes_some e = cc

arms_some : Arms ≡ Nothing → ⊥
arms_some e = cc

nothing_arms : Nothing ≡ Arms → ⊥
nothing_arms e = cc

-- ---- the state stays

still_at : (s : State) (w : Result ℕ ℕ) (go : ℕ → Answered) → ((i : ℕ) → (go i).next ≡ s) → (at_inode s w go).next ≡ s
still_at s (Ok i) go h = h i
still_at s (Err c) go h = refl

still_file : (s : State) (n : Option Node) (go : List ℕ → Answered) → ((bytes : List ℕ) → (go bytes).next ≡ s) → (on_file s n go).next ≡ s
still_file s None go h = refl
still_file s (Some Dir) go h = refl
still_file s (Some (File bytes)) go h = h bytes
still_file s (Some (Region r)) go h = refl

still_stat : (s : State) (i : ℕ) (n : Option Node) → (stat_node s i n).next ≡ s
still_stat s i (Some Dir) = refl
still_stat s i (Some (File bytes)) = refl
still_stat s i (Some (Region r)) = refl
still_stat s i None = refl

still_looked : (s : State) (o : Outcome) → (looked s o).next ≡ s
still_looked s (Ok a) = refl
still_looked s (Err number) = refl

still_region : (s : State) (n : Option Node) (go : RegionNode → Answered) → ((r : RegionNode) → (go r).next ≡ s) → (on_region s n go).next ≡ s
still_region s (Some (Region r)) go h = h r
still_region s (Some Dir) go h = refl
still_region s (Some (File bytes)) go h = refl
still_region s None go h = refl

still_answer : (s : State) (r : Request) → effect_of r ≡ Nothing → (answer_of s r).next ≡ s
still_answer s (Read path off len) quiet = still_at s (walk s 1 (names_of path)) _ (λ i. still_file s (get s.nodes i) _ (λ bytes. refl))
still_answer s (StatOf path) quiet = still_at s (walk s 1 (names_of path)) _ (λ i. still_stat s i (get s.nodes i))
still_answer s (ListOf path) quiet = still_at s (walk_to_dir s (names_of path)) _ (λ dir. refl)
still_answer s Sync quiet = refl
still_answer s (Get path off len) quiet = still_at s (walk s 1 (names_of path)) _ (λ i. still_region s (get s.nodes i) _ (λ r. still_looked s (get_on r (txn_at s.txns i) off len)))
still_answer s Txns quiet = refl
still_answer s (Arm step at value) quiet = absurd (arms_some quiet)
still_answer s _ quiet = absurd (changes_some quiet)

still_fault : (s : State) (r : Request) (k : ℕ) (t : State) → effect_of r ≡ Nothing → FaultStep s r k t → t ≡ s
still_fault s (Read path off len) k t quiet left = left.1
still_fault s (StatOf path) k t quiet left = left.1
still_fault s (ListOf path) k t quiet left = left.1
still_fault s Sync k t quiet left = absurd left
still_fault s (Get path off len) k t quiet left = left.1
still_fault s Txns k t quiet left = absurd left
still_fault s (Arm step at value) k t quiet left = absurd (arms_some quiet)
still_fault s _ k t quiet left = absurd (changes_some quiet)

pub core_still : StaysStill core_protocol effect_of
core_still s t (Some r) reply quiet (inl is) = sym (ap (λ (a : Answered). a.next) is) ∙ still_answer s r quiet
core_still s t (Some r) reply quiet (inr (inl lacks)) = lacks.2
core_still s t (Some r) reply quiet (inr (inr (k, told, left))) = still_fault s r k t quiet left
core_still s t None reply quiet step = step.1

-- ---- what was done below

-- what arms nothing
armed_same : (request : Option Request) (reply : Reply) (o : Option ℕ) → effect_in effect_of request ≢ Arms → armed_by request reply o ≡ o
armed_same None reply o other = refl
armed_same (Some (Arm step at value)) reply o other = absurd (other refl)
armed_same (Some _) reply o other = refl

armed_quiet : (o : Option ℕ) (requests : List (Option Request)) (replies : List Reply) → AreQuiet effect_of requests → last_armed o requests replies ≡ o
armed_quiet o [] [] quiet = refl
armed_quiet o [] (y ∷ replies) quiet = refl
armed_quiet o (x ∷ requests) [] quiet = refl
armed_quiet o (x ∷ requests) (y ∷ replies) quiet = armed_quiet (armed_by x y o) requests replies quiet.1 ∙ armed_same x y o (λ arms. nothing_arms (sym quiet.0 ∙ arms))

armed_less : (n : ℕ) (o : Option ℕ) (requests : List (Option Request)) (replies : List Reply) → AreQuiet effect_of (drop n requests) → last_armed o requests replies ≡ last_armed o (take n requests) (take n replies)
armed_less zero o requests replies quiet = armed_quiet o requests replies quiet
armed_less (suc n) o [] [] quiet = refl
armed_less (suc n) o [] (y ∷ replies) quiet = refl
armed_less (suc n) o (x ∷ requests) [] quiet = refl
armed_less (suc n) o (x ∷ requests) (y ∷ replies) quiet = armed_less n (armed_by x y o) requests replies quiet

quiet_flushes : (r : Request) → effect_of r ≡ Nothing → NoFlush r
quiet_flushes (Flush count) quiet = changes_some quiet
quiet_flushes _ quiet = tt

flushes_quiet : (requests : List (Option Request)) → AreQuiet effect_of requests → NoFlushes requests
flushes_quiet [] quiet = tt
flushes_quiet (None ∷ requests) quiet = flushes_quiet requests quiet.1
flushes_quiet (Some r ∷ requests) quiet = (quiet_flushes r quiet.0, flushes_quiet requests quiet.1)

flushes_less : (n : ℕ) (requests : List (Option Request)) → AreQuiet effect_of (drop n requests) → NoFlushes (take n requests) → NoFlushes requests
flushes_less zero requests quiet none = flushes_quiet requests quiet
flushes_less (suc n) [] quiet none = tt
flushes_less (suc n) (None ∷ requests) quiet none = flushes_less n requests quiet none
flushes_less (suc n) (Some r ∷ requests) quiet none = (none.0, flushes_less n requests quiet none.1)

faults_less : (n : ℕ) (replies : List Reply) → faults_in (take n replies) ≤ faults_in replies
faults_less zero replies = let e : 0 ≤ faults_in replies = omega arith in e
faults_less (suc n) [] = let e : 0 ≤ 0 = omega arith in e
faults_less (suc n) (y ∷ replies) =
    let rest = faults_less n replies in
    let e : fault_of y + faults_in (take n replies) ≤ fault_of y + faults_in replies = omega (arith, rest) in
    e

rose_less : (m n a b : ℕ) → m ≤ n → RoseBy n a b → RoseBy m a b
rose_less m n a b less (inl rose) = inl (omega (arith, less, rose))
rose_less m n a b less (inr last) = inr last

pub core_less : GoesLess core_protocol effect_of
core_less n requests replies h b i c quiet went = record {
  replied = length-take n replies ∙ ap (min n) went.replied ∙ sym (length-take n requests);
  later = went.later;
  counted = rose_less (faults_in (take n replies)) (faults_in replies) h.faults i.faults (faults_less n replies) went.counted;
  lasts = went.lasts;
  running = went.running;
  trapped = went.trapped;
  armed = subst (λ (o : Option ℕ). (c.causes.armed ≡ None) ⊎ (c.causes.armed ≡ o)) (armed_less n b.causes.armed requests replies quiet) went.armed;
  quiet = λ none. went.quiet (flushes_less n requests quiet none);
}

-- ---- machines that nothing stops

pub core_calm : StaysCalm core_protocol effect_of IsCalm
core_calm request reply h b i c other (unset, unarmed) went = (went.lasts.stop_set ∙ unset, by went.armed)
  where
    by : (c.causes.armed ≡ None) ⊎ (c.causes.armed ≡ armed_by request reply b.causes.armed) → c.causes.armed ≡ None
    by (inl none) = none
    by (inr is) = is ∙ armed_same request reply b.causes.armed other ∙ unarmed

some_none : (a : ℕ) → None ≡ Some a → ⊥
some_none a e = cc

set_unset : false ≡ true → ⊥
set_unset e = cc

pub core_runs : RunsOn core_protocol effect_of IsCalm
core_runs r h b i c quiet (unset, unarmed) stopped = by stopped.cause
  where
    by : Halting r b.causes c.causes → ⊥
    by (inl (at, value, is, guarded, trapped)) = changes_some (subst (λ (q : Request). effect_of q ≡ Nothing) is quiet)
    by (inr (steps, inl (a, armed, guarded, trapped))) = some_none a (sym unarmed ∙ armed)
    by (inr (steps, inr (trapped, set))) = set_unset (sym unset ∙ set)
