-- Why lines stopped the machine.
use Rattle.std.proofs.Common.{◌≡◌, ◌<◌, ◌-◌, ◌*◌, ◌/◌, ℕ, Bool, true, nat_lt, List, [], ◌∷◌, ◌++◌, refl, sym, ap, subst, ◌∙◌, inl, inr, arith}
use Rattle.std.specs.Prelude.{All, Option, Some, None, ◌⊎◌}
use Rattle.std.proofs.lemmas.Bool.Decides.{nat_tests}
use Rattle.rio_base.specs.Blocks.{Health}
use Rattle.rio_base.specs.Rules.{none_some}
use Rattle.rio_base.specs.Volume.{Below}
use Rattle.rio_base.specs.declared.places.WordAt.{WordAt}
use Rattle.rio_model.specs.declared.state.State.{State}
use Rattle.rio_requests.specs.Went.{Halting, MakesSteps, StoppedOn, Went, armed_by, last_armed}
use Rattle.rio_requests.specs.declared.reply.Reply.{Reply}
use Rattle.rio_requests.specs.declared.reply.Reply.TheVariants.{Ok as Done}
use Rattle.rio_requests.specs.declared.request.Request.{Request}
use Rattle.rio_requests.specs.declared.request.Request.TheVariants.{Arm}
use Rattle.request_codec.specs.Form.{Form, Means}
use Rattle.request_codec.specs.Lines.{lines}
use Rattle.line_loop.specs.ServeRun.{EachMeans}
use Rattle.pair_files.specs.Ends.{Begins, Outset}
use Rattle.pair_files.specs.Scenes.{Scene}
use Rattle.line_loop.specs.LinesEnds.{trap_of}
use Rattle.line_loop.specs.Strikes.{AsksNoStrike, Fell, IsProtected, IsStrike, StopsBy}
use Rattle.line_loop.specs.declared.ends.LinesEnd.{LinesEnd}
use Rattle.line_loop.specs.declared.ends.LinesEnd.TheVariants.{Ended as LoopEnded, Trapped}
use Rattle.rio_commands.specs.Outside.{Outside}
use Rattle.rio_commands.specs.Serve.{StopsAt}
use Rattle.rio_commands.proofs.InputLines.{all_front, all_head, all_last, all_tail, lines_taken}

-- ---- where lines begin

-- nothing is armed, nothing trapped, and the protected words are those of the state
pub record IsCalm (s : State) (b : Below) : Type 0 where
  pub unarmed : b.causes.armed ≡ None
  pub untrapped : b.causes.trapped ≡ None
  pub protected : (p : ℕ) → b.causes.protected p ≡ nat_lt (512 * p) (512 * (s.pages - s.scratch))

pub calm_at : (o : Outset) (s : State) (a : Scene) → Begins o s a → IsCalm s a.below
calm_at o s a h = record {
  unarmed = h.unarmed;
  untrapped = h.untrapped;
  protected = λ p. ap (λ (f : ℕ → Bool). f p) h.protected ∙ ap (nat_lt (512 * p)) count;
}
  where
    count : a.below.memory.protected ≡ 512 * (s.pages - s.scratch)
    count = let pages = h.pages in let scratch = h.scratch in omega (arith, pages, scratch)

-- ---- where they stop

some_is : (x y : ℕ) → Some x ≡ Some y → x ≡ y
some_is x y e = cc

less_of : (a b : ℕ) → nat_lt a b ≡ true → a < b
less_of a b e = grind (arith, nat_tests, e)

page_word : (at n : ℕ) → 512 * (at / 512) < 512 * n → at < 512 * n
page_word at n less = omega (arith, less)

-- requests with these replies left the machine as g and d say, and on r it stopped
module _ (s : State) (requests : List (Option Request)) (replies : List Reply) (r : Request) (h : Health) (b : Below) (g : Health) (d : Below) (i : Health) (c : Below) (calm : IsCalm s b) (went : Went requests replies h b g d) (on : StoppedOn r g d i c) where
  low_word : (at : ℕ) → d.causes.protected (at / 512) ≡ true → IsProtected s at
  low_word at page =
      page_word at (s.pages - s.scratch) (less_of (512 * (at / 512)) (512 * (s.pages - s.scratch)) (sym (calm.protected (at / 512)) ∙ ap (λ (f : ℕ → Bool). f (at / 512)) (sym went.lasts.protected) ∙ page))

  last_at : (at : ℕ) → d.causes.armed ≡ Some at → (d.causes.armed ≡ None) ⊎ (d.causes.armed ≡ last_armed b.causes.armed requests replies) → last_armed None requests replies ≡ Some at
  last_at at is (inl none) = absurd (none_some at d.causes.armed none is)
  last_at at is (inr last) = sym (last ∙ ap (λ (o : Option ℕ). last_armed o requests replies) calm.unarmed) ∙ is

  abbrev FellOn : ℕ → Type 0
  FellOn at = IsProtected s at × Fell at requests replies r

  fell_on : (at : ℕ) → c.causes.trapped ≡ Some at → Halting r d.causes c.causes → FellOn at
  fell_on at told (inl (p, value, is, page, fell)) = subst FellOn (some_is p at (sym fell ∙ told)) (low_word p page, inl (value, is))
  fell_on at told (inr (makes, inl (p, armed, page, fell))) = subst FellOn (some_is p at (sym fell ∙ told)) (low_word p page, inr (makes, last_at p armed went.armed))
  fell_on at told (inr (makes, inr (same, set))) = absurd (none_some at c.causes.trapped (same ∙ went.trapped ∙ calm.untrapped) told)

  by_stop : c.causes.trapped ≡ None → Halting r d.causes c.causes → MakesSteps r × (b.causes.stop_set ≡ true)
  by_stop none (inl (p, value, is, page, fell)) = absurd (none_some p c.causes.trapped none fell)
  by_stop none (inr (makes, inl (p, armed, page, fell))) = absurd (none_some p c.causes.trapped none fell)
  by_stop none (inr (makes, inr (same, set))) = (makes, sym went.lasts.stop_set ∙ set)

  pub stops_by : (e : LinesEnd) → c.causes.trapped ≡ trap_of e → StopsBy e s requests replies r
  stops_by (Trapped at) told = fell_on at.0 told on.cause
  stops_by (LoopEnded e) told = (by_stop told on.cause).0

  pub stop_given : c.causes.trapped ≡ None → b.causes.stop_set ≡ true
  stop_given none = (by_stop none on.cause).1

-- ---- lines that ask for it

-- this line asks for no wild store on a protected word
abbrev IsNoStrike : State → List ℕ → Type 0
IsNoStrike s line = (r : Request) → Form line r → IsStrike s r → ⊥

-- what such a line arms is no protected word
armed_here : (s : State) (line : List ℕ) (request : Option Request) (reply : Reply) (o : Option ℕ) (at : ℕ) → Means line request → IsNoStrike s line → IsProtected s at → armed_by request reply o ≡ Some at → o ≡ Some at
armed_here s line (Some (Arm step a value)) Done o at means none low e = absurd (none (Arm step a value) means (subst (IsProtected s) (sym (some_is a at e)) low))
armed_here s line _ _ o at means none low e = e

armed_by_none : (s : State) (answered : List (List ℕ)) (requests : List (Option Request)) (replies : List Reply) (o : Option ℕ) (at : ℕ) → EachMeans Means answered requests → All (IsNoStrike s) answered → IsProtected s at → last_armed o requests replies ≡ Some at → o ≡ Some at
armed_by_none s answered [] replies o at mean none low e = e
armed_by_none s answered (request ∷ requests) [] o at mean none low e = e
armed_by_none s [] (request ∷ requests) (reply ∷ replies) o at mean none low e = absurd mean
armed_by_none s (line ∷ answered) (request ∷ requests) (reply ∷ replies) o at mean none low e =
    armed_here s line request reply o at mean.0 (all_head (IsNoStrike s) line answered none) low (armed_by_none s answered requests replies (armed_by request reply o) at mean.1 (all_tail (IsNoStrike s) line answered none) low e)

-- lines of which none asks for one make none trap
pub no_trap : (at : WordAt) (s : State) (old new : Outside) (replied : Option (List ℕ)) (input : List ℕ) → StopsAt (Trapped at) s old new replied → old.left ≡ Some input → AsksNoStrike s input → ⊥
no_trap at s old new replied input h has none = by h.stopped_by.1
  where
    taken : (more : List (List ℕ)) × (lines input ≡ (h.stops.answered ++ h.stops.line ∷ []) ++ more)
    taken = lines_taken h.stops.taken new.left input (h.stops.answered ++ h.stops.line ∷ []) (sym has ∙ h.stops.gave) h.stops.first

    all : All (IsNoStrike s) (h.stops.answered ++ h.stops.line ∷ [])
    all = all_front (IsNoStrike s) (h.stops.answered ++ h.stops.line ∷ []) taken.0 (lines input) taken.1 none

    front : All (IsNoStrike s) h.stops.answered
    front = all_front (IsNoStrike s) h.stops.answered (h.stops.line ∷ []) (h.stops.answered ++ h.stops.line ∷ []) refl all

    by : Fell at.0 h.stops.replied.requests h.stops.replies h.request → ⊥
    by (inl (value, is)) = all_last (IsNoStrike s) h.stops.answered h.stops.line all h.request h.stops.means (subst (IsStrike s) (sym is) h.stopped_by.0)
    by (inr (makes, last)) = let e = armed_by_none s h.stops.answered h.stops.replied.requests h.stops.replies None at.0 h.stops.replied.meaning front h.stopped_by.0 last in none_some at.0 None refl e
