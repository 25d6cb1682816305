-- What the checks of the bytes that a call is made on come to.
use Rattle.vista_region.proofs.Common.{◌≡◌, ℕ, ◌+◌, ◌*◌, ◌<◌, ◌≤◌, Some, Result, Ok, Err, sym, ap, subst, ◌∙◌, RegionContent, Outcome, of_words, within}
use Rattle.vista_region.specs.Ends.{refusal_of}
use Rattle.vista_region.specs.Regions.{region_now}
use Rattle.vista_region.specs.Steps.{IsSpan, whole}
use Rattle.vista_region.specs.declared.data.Span.{Span}
use Rattle.vista_region.specs.declared.failures.TxnFail.{TxnFail}
use Rattle.vista_region.specs.declared.failures.TxnFail.TheVariants.{OutOfRange}
use Rattle.vista_region.proofs.Outcomes.{not_whole, one_number, past_end, whole_goes, within_goes}

-- the bytes are whole words of the data
abbrev pub Passes : RegionContent → ℕ → ℕ → Type 0
Passes f off len = (go : Outcome) → of_words off len (within (region_now f) off len go) ≡ go

-- the bytes are refused before all else that a call asks of them
abbrev pub Stops : RegionContent → ℕ → ℕ → ℕ → Type 0
Stops f off len number = (go : Outcome) → of_words off len (within (region_now f) off len go) ≡ Err number

-- no whole words
pub no_words : (f : RegionContent) (off len : ℕ) (r : Result (Unit {0}) TxnFail) (e : TxnFail) (number : ℕ) → r ≡ Err e → r ≡ whole off len → refusal_of e ≡ Some number → Stops f off len number
no_words f off len r e number h is refused go = not_whole off len r e number (within (region_now f) off len go) h is refused

-- whole words that end past the data
pub past_data : (f : RegionContent) (off len pages : ℕ) (r : Result (Unit {0}) TxnFail) (v : Unit {0}) (e : TxnFail) (number : ℕ) → r ≡ Ok v → r ≡ whole off len → pages ≡ f 2 → (e ≡ OutOfRange) × (4096 * pages < off + len) → refusal_of e ≡ Some number → Stops f off len number
past_data f off len pages r v e number h is same past refused go =
    whole_goes off len r v (within (region_now f) off len go) h is
    ∙ past_end f off len go (subst (λ p. 4096 * p < off + len) same past.1)
    ∙ ap (λ n. Err n) (one_number 19 number (ap refusal_of (sym past.0) ∙ refused))

-- whole words of the data
pub in_data : (f : RegionContent) (off len pages : ℕ) (r : Result (Unit {0}) TxnFail) (v : Unit {0}) (span : Span) → r ≡ Ok v → r ≡ whole off len → pages ≡ f 2 → IsSpan pages off len span → IsSpan (f 2) off len span × Passes f off len
in_data f off len pages r v span h is same s = (subst (λ p. IsSpan p off len span) same s, λ go. whole_goes off len r v (within (region_now f) off len go) h is ∙ within_goes f off len go (subst (λ p. off + len ≤ 4096 * p) same s.inside))
