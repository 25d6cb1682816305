-- Wild stores over a running core: made now, or armed.
use Rattle.rio_core.proofs.Common.{◌≡◌, ℕ, ◌*◌, ◌/◌, Bool, true, false, refl, sym, ap, subst, ◌∙◌, inl, inr, arith, [], ◌∷◌, Some, IsErr, VolumeShape, Seen, Kept, Settled, Reply, State, answer_of, crashed, Stands, Marks}
use Rattle.std.proofs.Common.{le_refl}
use Rattle.std.specs.Prelude.{◌+◌, ◌-◌, ◌<◌, ◌≤◌, nat_lt, cond, None, Result, Ok, Err}
use Rattle.std.proofs.lemmas.Bool.{le-leb, lt-leb, lt-ltb, ltb-false, ltb-true}
use Rattle.std.proofs.lemmas.Bool.Decides.{nat_tests}
use Rattle.rio_base.specs.declared.failures.Stopped.{Stopped as MachineStopped}
use Rattle.rio_base.specs.Blocks.{EndsBy, Health}
use Rattle.rio_base.specs.Machine.{Running, after_wild}
use Rattle.rio_base.specs.Rules.{limit_refl, true_false}
use Rattle.rio_base.proofs.Rules.{ends_by_well}
use Rattle.rio_base.specs.Volume.{Below, Quiet}
use Rattle.rio_base.specs.declared.wild.Wild.{Wild as WildEnd}
use Rattle.rio_base.specs.declared.wild.Wild.TheVariants.{Changed, Trapped, Spared}
use Rattle.page_cache.specs.Wilds.{Arms, Strikes}
use Rattle.rio_requests.specs.Answer.{answered, refused}
use Rattle.rio_requests.specs.Parts.{IsPart}
use Rattle.rio_requests.specs.Went.{StoppedOn, Went}
use Rattle.rio_requests.proofs.WentRules.{quiet_refl}
use Rattle.rio_requests.specs.declared.reply.Reply.TheVariants.{Ok as Done, Err as RefusedBy}
use Rattle.rio_requests.specs.declared.request.Request.TheVariants.{Wild, Arm}
use Rattle.rio_model.specs.declared.refusal.Refusal.TheVariants.{OutOfRange}
use Rattle.rio_core.specs.Serving.{Answering, Holds, Serves, TellsFault}
use Rattle.rio_core.proofs.RegionEnds.{leaves_all, stands_same}
use Rattle.rio_core.proofs.WentBy.{went_still}

-- ---- the answers

wild_past : (s : State) (at value : ℕ) → 512 * s.pages ≤ at → answer_of s (Wild at value) ≡ refused s OutOfRange
wild_past s at value past = ap (λ b. cond b (refused s OutOfRange) (cond (nat_lt at (512 * (s.pages - s.scratch))) (record { next = s; reply = None }) (answered s Done))) (le-leb (512 * s.pages) at past)

wild_within : (s : State) (at value : ℕ) → at < 512 * s.pages → answer_of s (Wild at value) ≡ cond (nat_lt at (512 * (s.pages - s.scratch))) (record { next = s; reply = None }) (answered s Done)
wild_within s at value within = ap (λ b. cond b (refused s OutOfRange) (cond (nat_lt at (512 * (s.pages - s.scratch))) (record { next = s; reply = None }) (answered s Done))) (lt-leb (512 * s.pages) at within)

wild_scratch : (s : State) (at value : ℕ) → at < 512 * s.pages → 512 * (s.pages - s.scratch) ≤ at → answer_of s (Wild at value) ≡ answered s Done
wild_scratch s at value within behind =
    let no : nat_lt at (512 * (s.pages - s.scratch)) ≡ false = grind (arith, nat_tests) in
    wild_within s at value within ∙ ap (λ b. cond b (record { next = s; reply = None }) (answered s Done)) no

arm_past : (s : State) (step at value : ℕ) → 512 * s.pages ≤ at → answer_of s (Arm step at value) ≡ refused s OutOfRange
arm_past s step at value past = ap (λ b. cond b (refused s OutOfRange) (answered s Done)) (le-leb (512 * s.pages) at past)

arm_within : (s : State) (step at value : ℕ) → at < 512 * s.pages → answer_of s (Arm step at value) ≡ answered s Done
arm_within s step at value within = ap (λ b. cond b (refused s OutOfRange) (answered s Done)) (lt-leb (512 * s.pages) at within)

-- ---- what the core holds

-- the same, where nothing differs that it is told by
holds_on : (shape : VolumeShape) (x : Seen) (k : Kept) (h : Health) (b : Below) (marks : Marks) (y : Seen) (j : Kept) (g : Health) (c : Below) (s : State) → y ≡ x → j ≡ k → g ≡ h → c.memory ≡ b.memory → Holds shape x k h b marks s → Holds shape y j g c marks s
holds_on shape x k h b marks y j g c s seen kept health memory holds = record {
  serves = subst (λ z. Serves shape z j marks s) (sym seen) (subst (λ z. Serves shape x z marks s) (sym kept) holds.serves);
  running = ap (λ (z : Health). z.stopped) health ∙ holds.running;
  pages = holds.pages ∙ ap (λ m. m.protected + m.scratch) (sym memory);
  scratch = holds.scratch ∙ ap (λ m. m.scratch) (sym memory);
}

-- how many words are protected
kept_words : (s : State) (p q : ℕ) → 512 * s.pages ≡ p + q → 512 * s.scratch ≡ q → 512 * (s.pages - s.scratch) ≡ p
kept_words s p q all behind = omega (arith, all, behind)

-- ---- replies

-- memory has no such word
pub wild_refused : (shape : VolumeShape) (x : Seen) (k : Kept) (h : Health) (b : Below) (marks : Marks) (s : State) (at value : ℕ) → b.memory.protected + b.memory.scratch ≤ at → Holds shape x k h b marks s → Answering (Holds shape x k h b marks) (λ u. Stands shape x k (crashed u)) s (Wild at value) (Ok (RefusedBy 19))
wild_refused shape x k h b marks s at value past holds = (s, inl (wild_past s at value (subst (λ n. n ≤ at) (sym holds.pages) past)), holds)

pub arm_refused : (shape : VolumeShape) (x : Seen) (k : Kept) (h : Health) (b : Below) (marks : Marks) (s : State) (step at value : ℕ) → b.memory.protected + b.memory.scratch ≤ at → Holds shape x k h b marks s → Answering (Holds shape x k h b marks) (λ u. Stands shape x k (crashed u)) s (Arm step at value) (Ok (RefusedBy 19))
arm_refused shape x k h b marks s step at value past holds = (s, inl (arm_past s step at value (subst (λ n. n ≤ at) (sym holds.pages) past)), holds)

-- a store on a scratch word
pub wild_done : (shape : VolumeShape) (x : Seen) (k : Kept) (h : Health) (b : Below) (marks : Marks) (y : Seen) (j : Kept) (g : Health) (c : Below) (s : State) (at value : ℕ) → y ≡ x → j ≡ k → g ≡ h → c ≡ b → b.memory.protected ≤ at → at < b.memory.protected + b.memory.scratch → Holds shape x k h b marks s → Answering (Holds shape y j g c marks) (λ u. Stands shape y j (crashed u)) s (Wild at value) (Ok Done)
wild_done shape x k h b marks y j g c s at value seen kept health below behind within holds =
    (s, inl (wild_scratch s at value (subst (λ n. at < n) (sym holds.pages) within) (subst (λ n. n ≤ at) (sym (kept_words s _ _ holds.pages holds.scratch)) behind)), holds_on shape x k h b marks y j g c s seen kept health (ap (λ (d : Below). d.memory) below) holds)

-- one that trapped has no reply, and nothing of it is done
pub wild_trapped : (shape : VolumeShape) (x : Seen) (k : Kept) (h : Health) (b : Below) (marks : Marks) (y : Seen) (j : Kept) (s : State) (at value : ℕ) → y ≡ x → j ≡ k → Settled x k → Holds shape x k h b marks s → (t : State) × IsPart s (Wild at value) t × Stands shape y j (crashed t)
wild_trapped shape x k h b marks y j s at value seen kept settled holds =
    (s, inl refl, subst (λ z. Stands shape z j (crashed s)) (sym seen) (subst (λ z. Stands shape x z (crashed s)) (sym kept) (stands_same shape x k x k (crashed s) holds.serves.ready settled (leaves_all shape x k holds.serves.ready) holds.serves.reads)))

pub arm_done : (shape : VolumeShape) (x : Seen) (k : Kept) (h : Health) (b : Below) (marks : Marks) (y : Seen) (j : Kept) (g : Health) (c : Below) (s : State) (step at value : ℕ) → y ≡ x → j ≡ k → Arms at h b g c → at < b.memory.protected + b.memory.scratch → Holds shape x k h b marks s → Answering (Holds shape y j g c marks) (λ u. Stands shape y j (crashed u)) s (Arm step at value) (Ok Done)
arm_done shape x k h b marks y j g c s step at value seen kept arms within holds =
    (s, inl (arm_within s step at value (subst (λ n. at < n) (sym holds.pages) within)), holds_on shape x k h b marks y j g c s seen kept arms.health (ap (λ (d : Below). d.memory) arms.below) holds)

-- ---- what they did below

pub went_past : (s : Health) (b : Below) (at value : ℕ) → Went (Some (Wild at value) ∷ []) (RefusedBy 19 ∷ []) s b s b
went_past s b at value = went_still (Wild at value) (RefusedBy 19) s b refl refl

pub went_unarmed : (s : Health) (b : Below) (step at value : ℕ) → Went (Some (Arm step at value) ∷ []) (RefusedBy 19 ∷ []) s b s b
went_unarmed s b step at value = went_still (Arm step at value) (RefusedBy 19) s b refl refl

pub went_wild : (s : Health) (b : Below) (t : Health) (c : Below) (at value : ℕ) → t ≡ s → c ≡ b → Went (Some (Wild at value) ∷ []) (Done ∷ []) s b t c
went_wild s b t c at value health below = subst (λ (u : Health). Went (Some (Wild at value) ∷ []) (Done ∷ []) s b u c) (sym health) (subst (λ (d : Below). Went (Some (Wild at value) ∷ []) (Done ∷ []) s b s d) (sym below) (went_still (Wild at value) Done s b refl refl))

pub went_armed : (s : Health) (b : Below) (t : Health) (c : Below) (step at value : ℕ) → Arms at s b t c → Went (Some (Arm step at value) ∷ []) (Done ∷ []) s b t c
went_armed s b t c step at value arms = subst (λ (u : Health). Went (Some (Arm step at value) ∷ []) (Done ∷ []) s b u c) (sym arms.health) (subst (λ (d : Below). Went (Some (Arm step at value) ∷ []) (Done ∷ []) s b s d) (sym arms.below) (record {
  replied = refl;
  later = le_refl s.faults;
  counted = inl (omega arith);
  lasts = record { written = le_refl b.writes; roomy = refl; around = refl; stop_set = refl; protected = refl; memory = refl; limit = limit_refl b.limit };
  running = refl;
  trapped = refl;
  armed = inr refl;
  quiet = λ none. record { home = λ r. refl; writes = λ r. refl };
}))

-- a trap stopped the machine
pub trap_stops : (s : Health) (b : Below) (t : Health) (c : Below) (at value : ℕ) → s.stopped ≡ false → b.causes.protected (at / 512) ≡ true → t ≡ record s { stopped = true } → c ≡ record b { causes = record b.causes { trapped = Some at } } → StoppedOn (Wild at value) s b t c
trap_stops s b t c at value ran protected health below = subst (λ (u : Health). StoppedOn (Wild at value) s b u c) (sym health) (subst (λ (d : Below). StoppedOn (Wild at value) s b (record s { stopped = true }) d) (sym below) (record {
  ran = ran;
  stopped = refl;
  later = le_refl s.faults;
  lasts = record { written = le_refl b.writes; roomy = refl; around = refl; stop_set = refl; protected = refl; memory = refl; limit = limit_refl b.limit };
  armed = inl refl;
  cause = inl (at, value, refl, protected, refl);
  quiet = λ none. record { home = λ r. refl; writes = λ r. refl };
}))

pub trap_ends : (s t : Health) (e : MachineStopped) → t ≡ record s { stopped = true } → EndsBy s t (TellsFault (Err e)) (IsErr {T = Reply} (Err e))
trap_ends s t e health = subst (λ (u : Health). EndsBy s u (TellsFault (Err e)) (IsErr {T = Reply} (Err e))) (sym health) (record { later = le_refl s.faults; stays = λ p. refl; cause = λ f. absurd f; told = λ p. refl; runs = λ n. absurd (n refl) })

-- ---- what a store met

pub fell : (w : WildEnd) (at : ℕ) (s : Health) (b : Below) (t : Health) (c : Below) → w ≡ Changed → Strikes at w s b t c → b.memory.protected ≤ at
fell w at s b t c is strikes = by (nat_lt at b.memory.protected) refl
  where
    no : Changed ≡ Trapped → ⊥
    no e = cc

    by : (x : Bool) → nat_lt at b.memory.protected ≡ x → b.memory.protected ≤ at
    by true e = absurd (no (sym is ∙ (strikes.traps (ltb-true at b.memory.protected e)).0))
    by false e = ltb-false at b.memory.protected e

pub trapped_at : (w : WildEnd) (at : ℕ) (s : Health) (b : Below) (t : Health) (c : Below) → w ≡ Trapped → Strikes at w s b t c → at < b.memory.protected
trapped_at w at s b t c is strikes = by (nat_lt at b.memory.protected) refl
  where
    no : Trapped ≡ Changed → ⊥
    no e = cc

    by : (x : Bool) → nat_lt at b.memory.protected ≡ x → at < b.memory.protected
    by true e = ltb-true at b.memory.protected e
    by false e = absurd (no (sym is ∙ (strikes.changes (ltb-false at b.memory.protected e)).0))

pub never_spared : (w : WildEnd) (at : ℕ) (s : Health) (b : Below) (t : Health) (c : Below) → w ≡ Spared → Strikes at w s b t c → ⊥
never_spared w at s b t c is strikes = by (nat_lt at b.memory.protected) refl
  where
    not_trapped : Spared ≡ Trapped → ⊥
    not_trapped e = cc

    not_changed : Spared ≡ Changed → ⊥
    not_changed e = cc

    by : (x : Bool) → nat_lt at b.memory.protected ≡ x → ⊥
    by true e = not_trapped (sym is ∙ (strikes.traps (ltb-true at b.memory.protected e)).0)
    by false e = not_changed (sym is ∙ (strikes.changes (ltb-false at b.memory.protected e)).0)

-- a word of a protected page
pub protects : (at n : ℕ) → at < n → nat_lt (512 * (at / 512)) n ≡ true
protects at n less = lt-ltb (512 * (at / 512)) n (omega (arith, less))

-- how many words of memory there are, by the pages that the machine tells
pub memory_words : (a b : Below) (p q n : ℕ) → a ≡ b → b.memory.protected ≡ p → b.memory.scratch ≡ q → 512 * n ≡ p + q → 512 * n ≡ a.memory.protected + a.memory.scratch
memory_words a b p q n same protected scratch all = all ∙ ap (λ x. x + q) (sym protected) ∙ ap (λ x. b.memory.protected + x) (sym scratch) ∙ ap (λ (d : Below). d.memory.protected + d.memory.scratch) (sym same)

-- what the machine has run through, where it is known what the store met and where it fell
pub wild_ran : (r s : Running) (w met : WildEnd) (i at value : ℕ) → s ≡ after_wild w i value r → w ≡ met → i ≡ at → s ≡ after_wild met at value r
wild_ran r s w met i at value ran is place = ran ∙ ap (λ x. after_wild x i value r) is ∙ ap (λ n. after_wild met n value r) place

-- ---- how a store now ends

pub refused_done : (p : Result Reply MachineStopped) → p ≡ Ok (RefusedBy 19) → p ≡ Ok Done → ⊥
refused_done p refused done = cc

pub stopped_reply : (p : Result Reply MachineStopped) (e : MachineStopped) (reply : Reply) → p ≡ Err e → p ≡ Ok reply → ⊥
stopped_reply p e reply stopped replied = cc

-- nothing is written by it
pub trap_quiet : (b c : Below) (at : ℕ) → c ≡ record b { causes = record b.causes { trapped = Some at } } → Quiet b c
trap_quiet b c at below = subst (λ (d : Below). Quiet b d) (sym below) (record { home = λ r. refl; writes = λ r. refl })

pub arms_quiet : (b c : Below) (at : ℕ) → c ≡ record b { causes = record b.causes { armed = Some at } } → Quiet b c
arms_quiet b c at below = subst (λ (d : Below). Quiet b d) (sym below) (record { home = λ r. refl; writes = λ r. refl })

pub wild_quiet : (b c : Below) → c ≡ b → Quiet b c
wild_quiet b c below = subst (λ (d : Below). Quiet b d) (sym below) (quiet_refl b)

-- a reply that tells no fault
pub reply_well : (s t : Health) (reply : Reply) → t ≡ s → (TellsFault (Ok reply) → ⊥) → EndsBy s t (TellsFault (Ok reply)) (IsErr {E = MachineStopped} (Ok reply))
reply_well s t reply same none = subst (λ (u : Health). EndsBy s u (TellsFault (Ok reply)) (IsErr {E = MachineStopped} (Ok reply))) (sym same) (ends_by_well s s (TellsFault (Ok reply)) (IsErr {E = MachineStopped} (Ok reply)) (le_refl s.faults) refl none (λ p. true_false (sym p)))
