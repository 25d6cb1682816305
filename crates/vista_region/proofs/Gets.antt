-- What bytes that are read come to.
use Rattle.vista_region.proofs.Common.{◌≡◌, ℕ, ◌+◌, ◌-◌, ◌*◌, ◌/◌, ◌%◌, ◌<◌, ◌≤◌, ◌++◌, Bool, true, false, Option, Some, None, Err, List, [], refl, sym, ap, ◌∙◌, arith, get_or-map-range_with_len, RegionContent, true_false, byte_in, bytes_in, data_from, live, Outcome}
use Rattle.rio_model.specs.Held.{byte_of}
use Rattle.rio_requests.specs.RegionAnswers.{data_word, get_on, unless_doomed}
use Rattle.rio_requests.specs.declared.reply.Reply.TheVariants.{Bytes}
use Rattle.vista_region.specs.Marks.{Marks, mark_of, marked_txn, txn_in}
use Rattle.vista_region.specs.Regions.{region_now}
use Rattle.vista_region.specs.Steps.{doomed_by}
use Rattle.vista_region.proofs.Bytes.{same_bytes}
use Rattle.vista_region.proofs.Outcomes.{answer, one_number, past_end, within_goes}

goes_by : (i : ℕ) (f : RegionContent) (o : Option Bool) (go : Outcome) → doomed_by o ≡ false → unless_doomed (marked_txn i f o) go ≡ go
goes_by i f None go h = refl
goes_by i f (Some true) go h = absurd (true_false h)
goes_by i f (Some false) go h = refl

-- the bytes of the data are those at its places
data_bytes : (f : RegionContent) (place off len : ℕ) → off + len ≤ 4096 * f 2 → place ≡ data_from f → bytes_in (data_word (region_now f)) off len ≡ bytes_in (λ w. live f (place + w)) off len
data_bytes f place off len fits at = same_bytes (byte_in (data_word (region_now f))) (byte_in (λ w. live f (place + w))) len off off (λ k few. ap (λ w. byte_of w ((off + k) % 8)) (get_or-map-range_with_len (λ q. live f (data_from f + q)) 0 (512 * f 2) ((off + k) / 8) ((off + k) / 8) 0 (omega (arith, few, fits)) (omega arith) ∙ ap (λ p. live f (p + (off + k) / 8)) (sym at)))

pub get_done : (marks : Marks) (i : ℕ) (f : RegionContent) (off len place : ℕ) (old bytes : List ℕ) → doomed_by (mark_of marks i) ≡ false → off + len ≤ 4096 * f 2 → place ≡ data_from f → old ≡ [] → bytes ≡ old ++ bytes_in (λ w. live f (place + w)) off (off + len - off) → get_on (region_now f) (txn_in marks i f) off len ≡ answer (region_now f) (txn_in marks i f) (Bytes bytes)
get_done marks i f off len place old bytes h fits at none is =
    let many : off + len - off ≡ len = omega arith in
    let all : bytes ≡ bytes_in (data_word (region_now f)) off len = is ∙ ap (λ (xs : List ℕ). xs ++ bytes_in (λ w. live f (place + w)) off (off + len - off)) none ∙ ap (bytes_in (λ w. live f (place + w)) off) many ∙ sym (data_bytes f place off len fits at) in
    goes_by i f (mark_of marks i) _ h ∙ within_goes f off len _ fits ∙ ap (λ bs. answer (region_now f) (txn_in marks i f) (Bytes bs)) (sym all)

pub get_past : (marks : Marks) (i : ℕ) (f : RegionContent) (off len : ℕ) → doomed_by (mark_of marks i) ≡ false → 4096 * f 2 < off + len → get_on (region_now f) (txn_in marks i f) off len ≡ Err 19
get_past marks i f off len h past = goes_by i f (mark_of marks i) _ h ∙ past_end f off len _ past

-- the transaction may only be aborted
pub get_doomed : (marks : Marks) (i : ℕ) (f : RegionContent) (off len number : ℕ) → doomed_by (mark_of marks i) ≡ true → Some 22 ≡ Some number → get_on (region_now f) (txn_in marks i f) off len ≡ Err number
get_doomed marks i f off len number h is = by (mark_of marks i) h ∙ ap (λ n. Err n) (one_number 22 number is)
  where
    by : (o : Option Bool) → doomed_by o ≡ true → get_on (region_now f) (marked_txn i f o) off len ≡ Err 22
    by None e = absurd (true_false (sym e))
    by (Some true) e = refl
    by (Some false) e = absurd (true_false (sym e))
