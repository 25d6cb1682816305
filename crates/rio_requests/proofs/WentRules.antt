-- What requests did below composes: none did nothing, and one more goes on from where those before it left off.
use Rattle.std.specs.Prelude.{◌≡◌, ◌+◌, ◌++◌, ◌≤◌, ℕ, List, [], ◌∷◌, length, Option, Some, None, ◌⊎◌}
use Rattle.std.proofs.Common.{le_trans, le_refl, ◌∙◌, refl, sym, ap, subst, inl, inr, arith, length-append}
use Rattle.rio_base.specs.Blocks.{Health}
use Rattle.rio_base.specs.Failures.{RoseBy}
use Rattle.rio_base.specs.Rules.{limit_refl, limit_trans}
use Rattle.rio_base.specs.Volume.{Below, Quiet, Runs}
use Rattle.rio_requests.specs.declared.reply.Reply.{Reply}
use Rattle.rio_requests.specs.declared.reply.Reply.TheVariants.{Ok as Done}
use Rattle.rio_requests.specs.declared.request.Request.{Request}
use Rattle.rio_requests.specs.declared.request.Request.TheVariants.{Arm}
use Rattle.rio_requests.specs.Went.{LastsBelow, NoFlushes, Went, armed_by, fault_of, faults_in, last_armed}

-- ---- what lies below

pub lasts_refl : (b : Below) → LastsBelow b b
lasts_refl b = record { written = le_refl b.writes; roomy = refl; around = refl; stop_set = refl; protected = refl; memory = refl; limit = limit_refl b.limit }

pub lasts_trans : (old mid new : Below) → LastsBelow old mid → LastsBelow mid new → LastsBelow old new
lasts_trans old mid new h k = record {
  written = le_trans h.written k.written;
  roomy = k.roomy ∙ h.roomy;
  around = k.around ∙ h.around;
  stop_set = k.stop_set ∙ h.stop_set;
  protected = k.protected ∙ h.protected;
  memory = k.memory ∙ h.memory;
  limit = limit_trans old.limit mid.limit new.limit h.limit k.limit;
}

pub lasts_runs : (s : Health) (old : Below) (t : Health) (new : Below) → Runs s old t new → LastsBelow old new
lasts_runs s old t new h = record { written = h.written; roomy = h.roomy; around = h.around; stop_set = h.stop_set; protected = h.protected; memory = h.memory; limit = h.limit }

pub quiet_refl : (b : Below) → Quiet b b
quiet_refl b = record { home = λ r. refl; writes = λ r. refl }

quiet_trans : (old mid new : Below) → LastsBelow old mid → Quiet old mid → Quiet mid new → Quiet old new
quiet_trans old mid new lasts h k = record {
  home = λ r. k.home (lasts.roomy ∙ r) ∙ h.home r;
  writes = λ r. k.writes (lasts.roomy ∙ r) ∙ h.writes r;
}

-- ---- lists that get one more

faults_more : (replies : List Reply) (reply : Reply) → faults_in (replies ++ reply ∷ []) ≡ faults_in replies + fault_of reply
faults_more [] reply = let e : fault_of reply + 0 ≡ 0 + fault_of reply = omega arith in e
faults_more (r ∷ replies) reply = let rest = faults_more replies reply in omega (arith, rest)

rose_more : (n m a b c : ℕ) → RoseBy n a b → RoseBy m b c → b ≤ c → RoseBy (n + m) a c
rose_more n m a b c (inl h) (inl k) later = inl (omega (arith, h, k))
rose_more n m a b c h (inr k) later = inr k
rose_more n m a b c (inr h) (inl k) later = inr (omega (arith, h, later))

flushes_more : (requests : List (Option Request)) (request : Option Request) → NoFlushes (requests ++ request ∷ []) → NoFlushes requests × NoFlushes (request ∷ [])
flushes_more [] request none = (tt, none)
flushes_more (None ∷ requests) request none = flushes_more requests request none
flushes_more (Some r ∷ requests) request none = let rest = flushes_more requests request none.1 in ((none.0, rest.0), rest.1)

armed_more : (o : Option ℕ) (requests : List (Option Request)) (replies : List Reply) (request : Option Request) (reply : Reply) → length replies ≡ length requests → last_armed o (requests ++ request ∷ []) (replies ++ reply ∷ []) ≡ armed_by request reply (last_armed o requests replies)
armed_more o [] [] request reply same = refl
armed_more o [] (p ∷ replies) request reply same = cc
armed_more o (r ∷ requests) [] request reply same = cc
armed_more o (r ∷ requests) (p ∷ replies) request reply same = armed_more (armed_by r p o) requests replies request reply (let e : length (p ∷ replies) ≡ length (r ∷ requests) = same in omega (arith, e))

-- what is armed by a request is armed whatever was before, or is none where none was
armed_alone : (request : Option Request) (reply : Reply) (o : Option ℕ) → (armed_by request reply None ≡ None) ⊎ (armed_by request reply None ≡ armed_by request reply o)
armed_alone (Some (Arm step at value)) Done o = inr refl
armed_alone _ _ o = inl refl

-- was, mid, now and last are what is armed at first, before the last request, after it, and by those before it
armed_then : (request : Option Request) (reply : Reply) (last mid now : Option ℕ) → (mid ≡ None) ⊎ (mid ≡ last) → (now ≡ None) ⊎ (now ≡ armed_by request reply mid) → (now ≡ None) ⊎ (now ≡ armed_by request reply last)
armed_then request reply last mid now h (inl none) = inl none
armed_then request reply last mid now (inr same) (inr is) = inr (is ∙ ap (armed_by request reply) same)
armed_then request reply last mid now (inl none) (inr is) = by (armed_alone request reply last)
  where
    by : (armed_by request reply None ≡ None) ⊎ (armed_by request reply None ≡ armed_by request reply last) → (now ≡ None) ⊎ (now ≡ armed_by request reply last)
    by (inl e) = inl (is ∙ ap (armed_by request reply) none ∙ e)
    by (inr e) = inr (is ∙ ap (armed_by request reply) none ∙ e)

-- ---- what requests did

-- of no requests
pub went_none : (s : Health) (b : Below) → Went [] [] s b s b
went_none s b = record {
  replied = refl;
  later = le_refl s.faults;
  counted = inl (omega arith);
  lasts = lasts_refl b;
  running = refl;
  trapped = refl;
  armed = inr refl;
  quiet = λ n. quiet_refl b;
}

-- a line that is no request is answered, and nothing else is done
pub went_line : (s : Health) (b : Below) (reply : Reply) → fault_of reply ≡ 0 → Went (None ∷ []) (reply ∷ []) s b s b
went_line s b reply told = record {
  replied = refl;
  later = le_refl s.faults;
  counted = inl (let e : fault_of reply ≡ 0 = told in omega (arith, e));
  lasts = lasts_refl b;
  running = refl;
  trapped = refl;
  armed = inr refl;
  quiet = λ n. quiet_refl b;
}

-- one request after others
pub went_more : (requests : List (Option Request)) (replies : List Reply) (request : Option Request) (reply : Reply) (s : Health) (old : Below) (t : Health) (mid : Below) (u : Health) (new : Below) → Went requests replies s old t mid → Went (request ∷ []) (reply ∷ []) t mid u new → Went (requests ++ request ∷ []) (replies ++ reply ∷ []) s old u new
went_more requests replies request reply s old t mid u new h k = record {
  replied = let e = h.replied in omega (arith, length-append replies (reply ∷ []), length-append requests (request ∷ []), e);
  later = le_trans h.later k.later;
  counted =
      let one : fault_of reply + 0 ≡ fault_of reply = omega arith in
      subst (λ n. RoseBy n s.faults u.faults) (sym (faults_more replies reply)) (rose_more (faults_in replies) (fault_of reply) s.faults t.faults u.faults h.counted (subst (λ n. RoseBy n t.faults u.faults) one k.counted) k.later);
  lasts = lasts_trans old mid new h.lasts k.lasts;
  running = k.running ∙ h.running;
  trapped = k.trapped ∙ h.trapped;
  armed = subst (λ o. (new.causes.armed ≡ None) ⊎ (new.causes.armed ≡ o)) (sym (armed_more old.causes.armed requests replies request reply h.replied)) (armed_then request reply (last_armed old.causes.armed requests replies) mid.causes.armed new.causes.armed h.armed k.armed);
  quiet = λ none. let parts = flushes_more requests request none in quiet_trans old mid new h.lasts (h.quiet parts.0) (k.quiet parts.1);
}
