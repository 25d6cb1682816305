-- What was sent of a text, as a drill's end.
use Rattle.std.proofs.Common.{◌≡◌, ℕ, List, [], ◌++◌, Option, Result, Ok, Err, refl, ap, inl, inr}
use Rattle.rio_base.specs.Failures.{Rose}
use Rattle.request_codec.specs.Sending.{Sends}
use Rattle.request_codec.proofs.Sendings.{sends_cut, sends_ok}
use Rattle.boots.specs.declared.transcript.BootRun.{BootRun}
use Rattle.boots.specs.declared.transcript.Transcript.{Transcript}
use Rattle.boots.specs.Summaries.{answered_line, boots_line, nodes_line, refusal_lines, summary}
use Rattle.boots.specs.Told.{LacksMemory, WroteFront, memory_line}

-- the summary, of the boots as they are lent
pub summary_of : (t : Transcript) (runs : List BootRun) → runs ≡ t.boots → boots_line runs ++ answered_line runs ++ refusal_lines runs 256 ++ nodes_line t ≡ summary t
summary_of t runs is = ap (λ (rs : List BootRun). boots_line rs ++ answered_line rs ++ refusal_lines rs 256 ++ nodes_line t) is

pub wrote_front : {T E : Type 0} {e : E} {a : Option (List ℕ)} {f : ℕ} {text : List ℕ} {b : Option (List ℕ)} {f1 : ℕ} → Sends {T = T} (Err e) a f [] text b f1 [] → WroteFront (Rose f f1) text a b
wrote_front s =
    let cut = sends_cut s in
    record { cause = s.err.rose; count = cut.0; most = cut.1; front = cut.2 }

pub told_memory : {T E : Type 0} {r : Result T E} {a : Option (List ℕ)} {f : ℕ} {b : Option (List ℕ)} {f1 : ℕ} → Sends r a f [] memory_line b f1 [] → LacksMemory 6 (Rose f f1) a b
told_memory {r = Ok _} s = record { status_is = refl; line = inl (sends_ok s) }
told_memory {r = Err _} s = record { status_is = refl; line = inr (wrote_front s) }
