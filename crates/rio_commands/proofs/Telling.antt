-- What was sent of a line.
use Rattle.std.proofs.Common.{ℕ, List, [], Option, Result, Ok, Err, inl, inr}
use Rattle.rio_base.specs.Failures.{Rose}
use Rattle.request_codec.specs.Sending.{Sends}
use Rattle.request_codec.proofs.Sendings.{sends_cut, sends_ok}
use Rattle.rio_commands.specs.Command.{WritesLine}

pub told_line : {T E : Type 0} {r : Result T E} {a : Option (List ℕ)} {f : ℕ} {text : List ℕ} {b : Option (List ℕ)} {f1 : ℕ} → Sends r a f [] text b f1 [] → WritesLine (Rose f f1) a text b
told_line {r = Ok _} s = inl (sends_ok s)
told_line {r = Err _} s =
    let cut = sends_cut s in
    inr (s.err.rose, cut.0, cut.1, cut.2)
