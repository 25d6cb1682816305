-- What a way out of a served run says of the faults of its streams, and what a room in which replies wait keeps.
use Rattle.std.proofs.Common.{◌≡◌, ◌≢◌, ◌≤◌, ℕ, List, [], ◌++◌, length, take, Option, arith, ap, inr, subst, sym, ◌∙◌}
use Rattle.std.specs.Prelude.{Result, Ok, Err, IfErr, IsErr, IsErrOf, OnErr, OnOk}
use Rattle.std.proofs.lemmas.List.{length-take-le, take_at}
use Rattle.request_codec.specs.Sending.{Holds, IsCutOff, Sends, Sent}
use Rattle.request_codec.proofs.Sendings.{cut_at, cut_flushed, sent_flushed, sent_none}
use Rattle.rio_base.proofs.Exits.{on_err}
use Rattle.request_codec.specs.Lines.{Reading}
use Rattle.line_loop.specs.Asking.{AskEnds, Refuses, Stops}
use Rattle.line_loop.specs.declared.ends.ServeEnd.{ServeEnd}
use Rattle.line_loop.specs.declared.ends.ServeEnd.TheVariants.{End, SourceFault, SinkFault, InputLimit, Memory, Stopped}

-- ---- one end is no other

pub sink_no_stop : SinkFault ≡ Stopped → ⊥
sink_no_stop e = cc

pub end_no_source : End ≢ SourceFault
end_no_source e = cc

pub limit_no_source : InputLimit ≢ SourceFault
limit_no_source e = cc

pub sink_no_source : {P : Type 0} → SinkFault ≡ SourceFault → P
sink_no_source e = absurd cc

pub memory_no_stop : {P : Type 0} → Memory ≡ Stopped → P
memory_no_stop e = absurd cc

pub memory_no_source : {P : Type 0} → Memory ≡ SourceFault → P
memory_no_source e = absurd cc

pub memory_no_sink : {P : Type 0} → Memory ≡ SinkFault → P
memory_no_sink e = absurd cc

pub stop_no_source : {P : Type 0} → Stopped ≡ SourceFault → P
stop_no_source e = absurd cc

pub stop_no_sink : {P : Type 0} → Stopped ≡ SinkFault → P
stop_no_sink e = absurd cc

-- ---- what a clause on one kind of answer asks of the other

pub no_ok : {T E : Type 0} (r : Result T E) (P : Type 0) → IsErr r → OnOk r P
no_ok (Ok x) P bad = cc bad
no_ok (Err e) P bad = tt

pub err_other : {T : Type 0} {end : ServeEnd} {P : Type 0} → end ≢ SourceFault → IsErrOf {T = T} {E = ServeEnd} (Err end) SourceFault → P
err_other other e = absurd (other cc)

pub ok_no_err : {T E : Type 0} {x : T} {y : E} {P : Type 0} → IsErrOf {T = T} {E = E} (Ok x) y → P
ok_no_err e = absurd cc

pub only_memory : {T P : Type 0} (r : Result T ServeEnd) → IfErr r (λ end. end ≡ Memory) → IsErrOf r SourceFault → P
only_memory (Ok x) memory e = absurd cc
only_memory (Err end) memory e = let same : end ≡ SourceFault = cc in memory_no_source (sym memory ∙ same)

-- nothing waits, and then the source is asked
pub sent_on : {T E : Type 0} (r : Result T E) {a : Option (List ℕ)} {f : ℕ} {h : List ℕ} {b : Option (List ℕ)} {f1 : ℕ} {rest : List ℕ} → Sent a f h [] b f1 [] → rest ≡ [] → OnOk r (Sent a f h [] b f1 rest)
sent_on (Ok x) {a} {f} {h} {b} {f1} sent none = subst (λ (left : List ℕ). Sent a f h [] b f1 left) (sym none) sent
sent_on (Err e) sent none = tt

pub asked : {T : Type 0} (r : Result T ServeEnd) (old : Reading) (left : Option (List ℕ)) (new : Reading) (after : Option (List ℕ)) {a : Option (List ℕ)} {f : ℕ} {h : List ℕ} {b : Option (List ℕ)} {f1 : ℕ} → IfErr r (λ end. Stops old left end new after) → Sent a f h [] b f1 [] → IfErr r (λ end. AskEnds old left end new after a f h b f1)
asked (Ok x) old left new after stops sent = tt
asked (Err end) old left new after stops sent = inr (stops, sent)

-- ---- a count that stayed, and then rose

pub stayed : {a b : ℕ} → b ≡ a → a ≤ b
stayed {a} {b} same = omega (arith, same)

pub later_than : {a b c : ℕ} → b ≡ a → b ≤ c → a ≤ c
later_than {a} {b} {c} same later = subst (λ n. n ≤ c) same later

-- ---- a room that was lent and comes back

pub room_fits : {n : ℕ} {items room : List ℕ} → room ≡ items → n ≤ length items → n ≤ length room
room_fits {n} value fits = subst (λ (xs : List ℕ). n ≤ length xs) (sym value) fits

pub room_wide : {items room : List ℕ} → room ≡ items → length items ≡ 4096 → 2 ≤ length room
room_wide value size = room_fits value (omega (arith, size))

pub room_kept : (len : ℕ) (new rest : List ℕ) {held : ℕ} → length new ≡ len → held ≤ length new → length new ≡ 4096 → (held ≤ length (take len (new ++ rest))) × (length (take len (new ++ rest)) ≡ 4096)
room_kept len new rest all fits size =
    let back : take len (new ++ rest) ≡ new = take_at new rest len all in
    (room_fits back fits, ap length back ∙ size)

pub fits_still : {n a b : ℕ} → b ≡ a → n ≤ a → n ≤ b
fits_still {n} same fits = subst (λ m. n ≤ m) (sym same) fits

pub put_cut : {T E : Type 0} {r : Result T E} (n : ℕ) (items : List ℕ) {a : Option (List ℕ)} {f : ℕ} {room h text : List ℕ} {b : Option (List ℕ)} {f1 : ℕ} {h1 : List ℕ} → IsErr r → IsCutOff a f (take n room) text b f1 → room ≡ items → take n items ≡ h → Sends r a f h text b f1 h1
put_cut n items {a = a} {f = f} {text = text} {b = b} {f1 = f1} bad cut value view = cut_at bad (subst (λ (held : List ℕ). IsCutOff a f held text b f1) (ap (take n) value ∙ view) cut)

pub put_held : {T E : Type 0} {x : T} (n : ℕ) (items : List ℕ) (len : ℕ) (new rest : List ℕ) {a : Option (List ℕ)} {f : ℕ} {room h text : List ℕ} {b : Option (List ℕ)} {f1 m : ℕ} → Holds a f (take n room) text b f1 new m → room ≡ items → take n items ≡ h → length new ≡ len → Sends {T = T} {E = E} (Ok x) a f h text b f1 (take m (take len (new ++ rest)))
put_held n items len new rest {a = a} {f = f} {h = h} {text = text} {b = b} {f1 = f1} {m = m} held value view all =
    let back : take len (new ++ rest) ≡ new = take_at new rest len all in
    let sent : Sent a f h text b f1 (take m new) = subst (λ (front : List ℕ). Sent a f front text b f1 (take m new)) (ap (take n) value ∙ view) held.sent in
    record { ok = subst (λ (after : List ℕ). Sent a f h text b f1 (take m after)) (sym back) sent; err = tt }

-- ---- what waits is written

pub none_held : (n : ℕ) (items : List ℕ) {h : List ℕ} → take n items ≡ h → n ≡ 0 → h ≡ []
none_held n items view none = sym view ∙ ap (λ (k : ℕ). take k items) none

some_held : (n : ℕ) (items : List ℕ) {h : List ℕ} → take n items ≡ h → n ≢ 0 → n ≤ length items → h ≢ []
some_held n items view some fits = λ none. some (sym (length-take-le n items fits) ∙ ap length (view ∙ none))

pub sent_nothing : {a : Option (List ℕ)} {f : ℕ} {h : List ℕ} → h ≡ [] → Sent a f h [] a f []
sent_nothing {a} {f} none = subst (λ (held : List ℕ). Sent a f held [] a f []) (sym none) sent_none

pub all_sent : (n : ℕ) (items : List ℕ) {a : Option (List ℕ)} {f : ℕ} {room h : List ℕ} {b : Option (List ℕ)} {f1 : ℕ} → Sent a f [] (take n room) b f1 [] → room ≡ items → take n items ≡ h → Sent a f h [] b f1 []
all_sent n items {a} {f} {b = b} {f1 = f1} sent value view = subst (λ (held : List ℕ). Sent a f held [] b f1 []) (ap (take n) value ∙ view) (sent_flushed sent)

pub all_refused : {T E : Type 0} (r : Result T E) (n : ℕ) (items : List ℕ) {a : Option (List ℕ)} {f : ℕ} {room h : List ℕ} {b : Option (List ℕ)} {f1 : ℕ} → IsCutOff a f [] (take n room) b f1 → room ≡ items → take n items ≡ h → n ≢ 0 → n ≤ length items → OnErr r (Refuses a f h b f1)
all_refused r n items {a} {f} {h = h} {b = b} {f1 = f1} cut value view some fits =
    on_err r _ (record { some = some_held n items view some fits; cut = subst (λ (held : List ℕ). IsCutOff a f held [] b f1) (ap (take n) value ∙ view) (cut_flushed cut) })
