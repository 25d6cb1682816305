-- The sizes of a state, which no request changes, and those of the machine that has it.
use Rattle.std.proofs.Common.{◌≡◌, ◌+◌, ◌*◌, ℕ, List, [], ◌∷◌, refl, sym, subst, ap, ◌∙◌, inl, inr}
use Rattle.std.specs.Prelude.{Option, Some, None}
use Rattle.rio_base.specs.Volume.{Below, MemorySizes}
use Rattle.rio_model.specs.declared.state.State.{State}
use Rattle.rio_requests.proofs.AnswerRules.{KeepsSizes, keeps_sizes, step_keeps}
use Rattle.rio_requests.specs.Parts.{IsPart, LeadStep}
use Rattle.rio_requests.specs.Run.{Step}
use Rattle.rio_requests.specs.declared.reply.Reply.{Reply}
use Rattle.rio_requests.specs.declared.reply.Reply.TheVariants.{Fault}
use Rattle.rio_requests.specs.declared.request.Request.{Request}
use Rattle.rio_requests.specs.declared.request.Request.TheVariants.{Write}
use Rattle.line_loop.specs.ServeRun.{Run}

-- ---- of states

same_sizes : (s t : State) → t ≡ s → KeepsSizes s t
same_sizes s t same = record { shape = ap (λ (u : State). u.shape) same; pages = ap (λ (u : State). u.pages) same; scratch = ap (λ (u : State). u.scratch) same }

pub keeps_then : (s t u : State) → KeepsSizes s t → KeepsSizes t u → KeepsSizes s u
keeps_then s t u h k = record { shape = k.shape ∙ h.shape; pages = k.pages ∙ h.pages; scratch = k.scratch ∙ h.scratch }

line_keeps : (s : State) (request : Option Request) (reply : Reply) (t : State) → Step s request reply t → KeepsSizes s t
line_keeps s (Some r) reply t step = step_keeps s r reply t step
line_keeps s None reply t (told, same) = same_sizes s t same

pub run_keeps : (s : State) (requests : List (Option Request)) (replies : List Reply) (t : State) → Run Step s requests replies t → KeepsSizes s t
run_keeps s [] [] t same = same_sizes s t same
run_keeps s (request ∷ requests) (reply ∷ replies) t (mid, step, run) = keeps_then s mid t (line_keeps s request reply mid step) (run_keeps mid requests replies t run)
run_keeps s [] (reply ∷ replies) t none = absurd none
run_keeps s (request ∷ requests) [] t none = absurd none

-- a part is led up to as a fault would leave it
lead_keeps : (s : State) (r : Request) (k : ℕ) (t : State) → LeadStep s r k t → KeepsSizes s t
lead_keeps s (Write path off bytes) k t part = step_keeps s (Write path off bytes) (Fault k) t (inr (inr (k, refl, part)))
lead_keeps s _ k t (none, same) = same_sizes s t same

pub part_keeps : (s : State) (r : Request) (t : State) → IsPart s r t → KeepsSizes s t
part_keeps s r t (inl same) = same_sizes s t same
part_keeps s r t (inr (inl whole)) = subst (KeepsSizes s) (sym whole) (keeps_sizes s r)
part_keeps s r t (inr (inr (k, part))) = lead_keeps s r k t part

-- ---- of the machine below

-- the volume is of version 1, and memory has as many words as the state says
pub record FitsMemory (s : State) (b : Below) : Type 0 where
  pub version : s.shape.version ≡ 1
  pub pages : 512 * s.pages ≡ b.memory.protected + b.memory.scratch
  pub scratch : 512 * s.scratch ≡ b.memory.scratch

-- it fits still
pub fits_then : (s t : State) (b c : Below) → FitsMemory s b → KeepsSizes s t → c.memory ≡ b.memory → FitsMemory t c
fits_then s t b c fits keeps same = record {
  version = ap (λ shape. shape.version) keeps.shape ∙ fits.version;
  pages = ap (λ n. 512 * n) keeps.pages ∙ fits.pages ∙ ap (λ (m : MemorySizes). m.protected + m.scratch) (sym same);
  scratch = ap (λ n. 512 * n) keeps.scratch ∙ fits.scratch ∙ ap (λ (m : MemorySizes). m.scratch) (sym same);
}
