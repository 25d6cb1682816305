-- A line that is held up to its end, lent and passed over.
use Rattle.std.proofs.Common.{◌≡◌, ℕ, ◌+◌, ◌≤◌, Bool, true, false, List, ◌∷◌, [], ◌++◌, length, take, drop, refl, sym, ap, subst, ◌∙◌, inl, arith}
use Rattle.std.specs.Prelude.{Option}
use Rattle.std.proofs.lemmas.List.{length-append, length-take-le}
use Rattle.std.proofs.Math.Seq.{drop-append_seam}
use Rattle.memchr.specs.Find.{NoneBefore, Passes, is_byte}
use Rattle.request_codec.specs.Lines.{HoldsLine, Reading, TakesLine, ended}
use Rattle.request_codec.proofs.LineEnds.{cut_at_end, end_found}
use Rattle.request_codec.proofs.Passing.{passes_held}

not_ended : (b : Bool) → (b ≡ true → ⊥) → b ≡ false
not_ended true h = absurd (h refl)
not_ended false h = refl

pub holds_line : (reading : Reading) (lent : List ℕ) (k : ℕ) → lent ≡ reading.held → length lent ≤ 131072 → NoneBefore (Passes (is_byte 10) lent) 0 (length lent) k → Passes (is_byte 10) lent k → (reading.ended ≡ true → reading.held ≡ []) → HoldsLine reading (take k lent)
holds_line reading lent k same few first is closed = record {
  whole = end_found lent k first;
  short = let within = first.high in omega (arith, few, within, length-take-le k lent (omega (arith, within)));
  rest = drop (k + 1) lent;
  held = sym same ∙ cut_at_end lent k first.high is;
  unended = not_ended reading.ended (λ e. let within = first.high in let none : length lent ≡ 0 = ap length (same ∙ closed e) in omega (arith, within, none));
}

-- what is held behind the line and its end
behind_line : (line rest : List ℕ) (n : ℕ) → length line ≡ n → drop (n + 1) (ended line ++ rest) ≡ rest
behind_line line rest n is =
    let count : length (ended line) ≡ n + 1 = omega (arith, is, length-append line (10 ∷ [])) in
    subst (λ (k : ℕ). drop k (ended line ++ rest) ≡ rest) count (drop-append_seam (ended line) rest)

pub passes_line : (old new : Reading) (line : List ℕ) (n : ℕ) (left : Option (List ℕ)) → HoldsLine old line → length line ≡ n → new.held ≡ drop (n + 1) old.held → new.taken ≡ old.taken → TakesLine old left line new left
passes_line old new line n left h is skipped same =
    let rest : new.held ≡ h.rest = skipped ∙ ap (drop (n + 1)) h.held ∙ behind_line line h.rest n is in
    record { whole = h.whole; passed = inl (passes_held old new left (ended line) (h.held ∙ ap (λ zs. ended line ++ zs) (sym rest)) same) }
