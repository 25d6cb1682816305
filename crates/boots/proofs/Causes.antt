-- Why a machine stopped: its plan sets a stop, or a request of the boot is a wild store on a protected word.
use Rattle.std.proofs.Common.{◌≡◌, ◌<◌, ◌++◌, ℕ, suc, ◌-◌, ◌*◌, ◌/◌, Bool, true, false, nat_lt, List, [], ◌∷◌, refl, sym, ap, subst, ◌∙◌, inl, inr, arith, length-append}
use Rattle.std.specs.Prelude.{Any, map, Option, Some, None, ◌⊎◌}
use Rattle.std.proofs.lemmas.Bool.Decides.{nat_tests}
use Rattle.std.proofs.lemmas.List.{get_or_append_left}
use Rattle.std.proofs.lemmas.List.Quantifiers.{Any-push}
use Rattle.rio_base.specs.Blocks.{Causes, Health}
use Rattle.rio_base.specs.Rules.{none_some}
use Rattle.rio_base.specs.Volume.{Below, Runs, StopCause}
use Rattle.rio_model.specs.declared.state.State.{State}
use Rattle.rio_requests.specs.declared.reply.Reply.{Reply}
use Rattle.rio_requests.specs.declared.reply.Reply.TheVariants.{Ok as Done}
use Rattle.rio_requests.specs.declared.request.Request.{Request}
use Rattle.rio_requests.specs.declared.request.Request.TheVariants.{Arm}
use Rattle.rio_requests.specs.Went.{Halting, StoppedOn, armed_by, last_armed}
use Rattle.boots.specs.Boots.{AreAnswered, MayStop}
use Rattle.line_loop.specs.Strikes.{IsProtected, IsStrike}
use Rattle.boots.specs.Legal.{replies_of, requests_of}

-- ---- some element of a list

any_here : (P : Request → Type 0) (x : Request) (xs : List Request) → P x → Any P (x ∷ xs)
any_here P x xs p = (0, x, omega arith, refl, p)

any_later : (P : Request → Type 0) (y : Request) (xs : List Request) → Any P xs → Any P (y ∷ xs)
any_later P y xs (k, x, less, is, p) = (suc k, x, omega (arith, less), is, p)

any_front : (P : Request → Type 0) (xs ys : List Request) → Any P xs → Any P (xs ++ ys)
any_front P xs ys (k, x, less, is, p) = (k, x, omega (arith, less, length-append xs ys), get_or_append_left xs ys x k less ∙ is, p)

-- ---- protected words

-- the protected pages are those of the state's memory
pub record Guards (s : State) (c : Causes) : Type 0 where
  pub pages : (p : ℕ) → c.protected p ≡ nat_lt (512 * p) (512 * (s.pages - s.scratch))

pub guards_still : (s : State) (c d : Causes) → d.protected ≡ c.protected → Guards s c → Guards s d
guards_still s c d same h = record { pages = λ p. ap (λ (f : ℕ → Bool). f p) same ∙ h.pages p }

less_of : (a b : ℕ) → nat_lt a b ≡ true → a < b
less_of a b e = grind (arith, nat_tests, e)

pub guarded_word : (s : State) (c : Causes) (at : ℕ) → Guards s c → c.protected (at / 512) ≡ true → IsProtected s at
guarded_word s c at h e = let less = less_of (512 * (at / 512)) (512 * (s.pages - s.scratch)) (sym (h.pages (at / 512)) ∙ e) in page_word at (s.pages - s.scratch) less
  where
    page_word : (at n : ℕ) → 512 * (at / 512) < 512 * n → at < 512 * n
    page_word at n less = omega (arith, less)

-- ---- what is armed

some_is : (x y : ℕ) → Some x ≡ Some y → x ≡ y
some_is x y e = cc

-- what a request arms
armed_now : (r : Request) (reply : Reply) (o : Option ℕ) (at : ℕ) → armed_by (Some r) reply o ≡ Some at → (o ≡ Some at) ⊎ ((s : State) → IsProtected s at → IsStrike s r)
armed_now (Arm step a value) Done o at e = inr (λ s low. subst (IsProtected s) (sym (some_is a at e)) low)
armed_now _ _ o at e = inl e

-- it was armed before, or by one of the requests
armed_before : (requests : List Request) (replies : List Reply) (o : Option ℕ) (at : ℕ) → last_armed o (map Some requests) replies ≡ Some at → (o ≡ Some at) ⊎ ((s : State) → IsProtected s at → Any (IsStrike s) requests)
armed_before [] replies o at e = inl e
armed_before (r ∷ requests) [] o at e = inl e
armed_before (r ∷ requests) (reply ∷ replies) o at e = later (armed_before requests replies (armed_by (Some r) reply o) at e)
  where
    now : (o ≡ Some at) ⊎ ((s : State) → IsProtected s at → IsStrike s r) → (o ≡ Some at) ⊎ ((s : State) → IsProtected s at → Any (IsStrike s) (r ∷ requests))
    now (inl was) = inl was
    now (inr strikes) = inr (λ s low. any_here (IsStrike s) r requests (strikes s low))

    later : (armed_by (Some r) reply o ≡ Some at) ⊎ ((s : State) → IsProtected s at → Any (IsStrike s) requests) → (o ≡ Some at) ⊎ ((s : State) → IsProtected s at → Any (IsStrike s) (r ∷ requests))
    later (inl was) = now (armed_now r reply o at was)
    later (inr strikes) = inr (λ s low. any_later (IsStrike s) r requests (strikes s low))

-- ---- stops

-- at a request
pub stop_cause : (s t : State) (answered : List (Request × Reply)) (r : Request) (h : Health) (b : Below) (i : Health) (c : Below) (j : Health) (d : Below) → Guards s b.causes → AreAnswered s answered t h b i c → StoppedOn r i c j d → MayStop b.causes ⊎ Any (IsStrike s) (requests_of answered ++ r ∷ [])
stop_cause s t answered r h b i c j d guards so stop = by stop.cause
  where
    still : Guards s c.causes
    still = guards_still s b.causes c.causes so.went.lasts.protected guards

    protected_before : (at : ℕ) → c.causes.protected (at / 512) ≡ true → b.causes.protected (at / 512) ≡ true
    protected_before at e = ap (λ (f : ℕ → Bool). f (at / 512)) (sym so.went.lasts.protected) ∙ e

    fell : (at : ℕ) → c.causes.protected (at / 512) ≡ true → (b.causes.armed ≡ Some at) ⊎ ((u : State) → IsProtected u at → Any (IsStrike u) (requests_of answered)) → MayStop b.causes ⊎ Any (IsStrike s) (requests_of answered ++ r ∷ [])
    fell at low (inl was) = inl (inr (at, was, protected_before at low))
    fell at low (inr strikes) = inr (any_front (IsStrike s) (requests_of answered) (r ∷ []) (strikes s (guarded_word s c.causes at still low)))

    armed : (at : ℕ) → c.causes.armed ≡ Some at → c.causes.protected (at / 512) ≡ true → (c.causes.armed ≡ None) ⊎ (c.causes.armed ≡ last_armed b.causes.armed (map Some (requests_of answered)) (replies_of answered)) → MayStop b.causes ⊎ Any (IsStrike s) (requests_of answered ++ r ∷ [])
    armed at is low (inl none) = absurd (none_some at c.causes.armed none is)
    armed at is low (inr last) = fell at low (armed_before (requests_of answered) (replies_of answered) b.causes.armed at (sym last ∙ is))

    by : Halting r c.causes d.causes → MayStop b.causes ⊎ Any (IsStrike s) (requests_of answered ++ r ∷ [])
    by (inl (at, value, is, low, trapped)) = inr (Any-push (IsStrike s) (requests_of answered) r (subst (IsStrike s) (sym is) (guarded_word s c.causes at still low)))
    by (inr (makes, inl (at, is, low, trapped))) = armed at is low so.went.armed
    by (inr (makes, inr (trapped, set))) = inl (inl (sym so.went.lasts.stop_set ∙ set))

-- before any request
pub may_stop : (old new : Causes) (was is : Bool) → was ≡ false → is ≡ true → StopCause old new was is → MayStop old
may_stop old new was is ran stopped h = by (subst (λ (x : Bool). StopCause old new false x) stopped (subst (λ (x : Bool). StopCause old new x is) ran h))
  where
    by : StopCause old new false true → MayStop old
    by (inl (at, armed, low, trapped)) = inr (at, armed, low)
    by (inr (trapped, set)) = inl set

-- what may stop a machine after some calls might have stopped it before them
pub may_stop_before : (h : Health) (b : Below) (i : Health) (c : Below) → Runs h b i c → MayStop c.causes → MayStop b.causes
may_stop_before h b i c runs (inl set) = inl (sym runs.stop_set ∙ set)
may_stop_before h b i c runs (inr (at, armed, low)) = by runs.armed
  where
    by : (c.causes.armed ≡ b.causes.armed) ⊎ (c.causes.armed ≡ None) → MayStop b.causes
    by (inl same) = inr (at, sym same ∙ armed, ap (λ (f : ℕ → Bool). f (at / 512)) (sym runs.protected) ∙ low)
    by (inr none) = absurd (none_some at c.causes.armed none armed)
