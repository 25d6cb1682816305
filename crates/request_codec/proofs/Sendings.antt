-- A text on its way to a sink: how its parts follow one another.
use Rattle.std.proofs.Common.{◌≡◌, ℕ, ◌+◌, ◌-◌, ◌≤◌, ◌<◌, List, [], ◌++◌, length, take, drop, Option, Some, None, Result, Ok, Err, refl, sym, ap, ◌∙◌, arith, subst, length-append, length-drop}
use Rattle.std.specs.Prelude.{OnOk, OnErr, IsErr}
use Rattle.std.proofs.lemmas.List.{append_assoc, append-nil, length-take-le, take-append-drop, drop-drop, take_rest, take_at}
use Rattle.std.proofs.lemmas.Result.{on_ok_weaker, on_err_weaker}
use Rattle.rio_base.specs.Failures.{HasCause, Rose}
use Rattle.rio_base.specs.Streams.{appended}
use Rattle.request_codec.specs.Sending.{Took, Sent, IsCutOff, Sends, Puts}

appended_more : (a : Option (List ℕ)) (xs ys : List ℕ) → appended (appended a xs) ys ≡ appended a (xs ++ ys)
appended_more None xs ys = refl
appended_more (Some front) xs ys = ap Some (append_assoc front xs ys)

appended_nothing : (a : Option (List ℕ)) → a ≡ appended a []
appended_nothing None = refl
appended_nothing (Some front) = ap Some (sym (append-nil front))

-- ---- what the sink took

took_none : (a b : Option (List ℕ)) (bytes : List ℕ) → b ≡ a → Took a bytes b bytes
took_none a b bytes same = record { front = []; wrote = same ∙ appended_nothing a; whole = refl }

took_more : (a : Option (List ℕ)) (bytes : List ℕ) (b : Option (List ℕ)) (rest more : List ℕ) → Took a bytes b rest → Took a (bytes ++ more) b (rest ++ more)
took_more a bytes b rest more t = record { front = t.front; wrote = t.wrote; whole = sym (append_assoc t.front rest more) ∙ ap (λ (zs : List ℕ). zs ++ more) t.whole }

took_then : (a : Option (List ℕ)) (bytes : List ℕ) (b : Option (List ℕ)) (mid : List ℕ) (c : Option (List ℕ)) (rest : List ℕ) → Took a bytes b mid → Took b mid c rest → Took a bytes c rest
took_then a bytes b mid c rest t u = record {
  front = t.front ++ u.front;
  wrote = u.wrote ∙ ap (λ (z : Option (List ℕ)). appended z u.front) t.wrote ∙ appended_more a t.front u.front;
  whole = append_assoc t.front u.front rest ∙ ap (λ (zs : List ℕ). t.front ++ zs) u.whole ∙ t.whole;
}

-- the part behind what was held moves on
took_both : (a : Option (List ℕ)) (h x : List ℕ) (b : Option (List ℕ)) (h1 y : List ℕ) (c : Option (List ℕ)) (rest : List ℕ) → Took a (h ++ x) b h1 → Took b (h1 ++ y) c rest → Took a (h ++ (x ++ y)) c rest
took_both a h x b h1 y c rest t u =
    let P : List ℕ → Type 0 = λ bytes. Took a bytes c rest in
    subst P (append_assoc h x y) (took_then a ((h ++ x) ++ y) b (h1 ++ y) c rest (took_more a (h ++ x) b h1 y t) u)

drop_in_two : (i n : ℕ) (xs : List ℕ) → drop i xs ≡ take n (drop i xs) ++ drop (i + n) xs
drop_in_two i n xs = sym (take-append-drop n (drop i xs)) ∙ ap (λ rest. take n (drop i xs) ++ rest) (drop-drop n i xs)

-- a piece from place i on
took_piece : (b c : Option (List ℕ)) (i n : ℕ) (text : List ℕ) → c ≡ appended b (take n (drop i text)) → Took b (drop i text) c (drop (i + n) text)
took_piece b c i n text wrote = record { front = take n (drop i text); wrote = wrote; whole = sym (drop_in_two i n text) }

pub sent_piece : (a : Option (List ℕ)) (f : ℕ) (text : List ℕ) (b : Option (List ℕ)) (f1 i n : ℕ) (c : Option (List ℕ)) (f2 : ℕ) → Sent a f [] text b f1 (drop i text) → c ≡ appended b (take n (take (length text - i) (drop i text))) → f2 ≡ f1 → Sent a f [] text c f2 (drop (i + n) text)
sent_piece a f text b f1 i n c f2 s wrote steady = record {
  took = took_then a text b (drop i text) c (drop (i + n) text) s.took (took_piece b c i n text (rw (take_rest text i) at wrote));
  steady = steady ∙ s.steady;
}

pub fits_left : (text : List ℕ) (i n : ℕ) → i < length text → n ≤ length (take (length text - i) (drop i text)) → i + n ≤ length text
fits_left text i n within fits =
    let fits : n ≤ length (drop i text) = rw (take_rest text i) at fits in
    omega (arith, length-drop i text)

pub some_left : (text : List ℕ) (i : ℕ) → i < length text → 0 < length (take (length text - i) (drop i text))
some_left text i within = let P : List ℕ → Type 0 = λ xs. 0 < length xs in subst P (sym (take_rest text i)) (omega (arith, within, length-drop i text))

-- ---- a text behind what was held, part after part

-- nothing was written, and these bytes are held too
pub sent_held : {a : Option (List ℕ)} {f : ℕ} {h x : List ℕ} {b : Option (List ℕ)} {f1 : ℕ} {h1 : List ℕ} (y : List ℕ) → Sent a f h x b f1 h1 → Sent a f h (x ++ y) b f1 (h1 ++ y)
sent_held {a} {f} {h} {x} {b} {f1} {h1} y s =
    let P : List ℕ → Type 0 = λ bytes. Took a bytes b (h1 ++ y) in
    record { took = subst P (append_assoc h x y) (took_more a (h ++ x) b h1 y s.took); steady = s.steady }

-- nothing is done
pub sent_none : {a : Option (List ℕ)} {f : ℕ} {h : List ℕ} → Sent a f h [] a f h
sent_none {a} {f} {h} = record { took = rw append-nil (took_none a a h refl); steady = refl }

-- nothing was written yet of a text
pub sent_nothing : {a : Option (List ℕ)} {f : ℕ} {text : List ℕ} → Sent a f [] text a f text
sent_nothing {a} {f} {text} = record { took = took_none a a text refl; steady = refl }

-- a part, and then what cuts the next one
pub sent_cut : {a : Option (List ℕ)} {f : ℕ} {h x : List ℕ} {b : Option (List ℕ)} {f1 : ℕ} {h1 y : List ℕ} {c : Option (List ℕ)} {f2 : ℕ} → Sent a f h x b f1 h1 → IsCutOff b f1 h1 y c f2 → IsCutOff a f h (x ++ y) c f2
sent_cut {a} {f} {h} {x} {b} {f1} {h1} {y} {c} {f2} s k = record {
  lost = k.lost;
  took = took_both a h x b h1 y c k.lost s.took k.took;
  later = let e = s.steady in let le = k.later in omega arith;
  rose = let P : ℕ → Type 0 = λ n. Rose n f2 in subst P s.steady k.rose;
}

-- a part, and then the next one
pub sent_sent : {a : Option (List ℕ)} {f : ℕ} {h x : List ℕ} {b : Option (List ℕ)} {f1 : ℕ} {h1 y : List ℕ} {c : Option (List ℕ)} {f2 : ℕ} {h2 : List ℕ} → Sent a f h x b f1 h1 → Sent b f1 h1 y c f2 h2 → Sent a f h (x ++ y) c f2 h2
sent_sent {a} {f} {h} {x} {b} {f1} {h1} {y} {c} {f2} {h2} s t = record { took = took_both a h x b h1 y c h2 s.took t.took; steady = t.steady ∙ s.steady }

-- what was cut is cut, whatever was to follow
pub cut_more : {a : Option (List ℕ)} {f : ℕ} {h x : List ℕ} {c : Option (List ℕ)} {f2 : ℕ} (y : List ℕ) → IsCutOff a f h x c f2 → IsCutOff a f h (x ++ y) c f2
cut_more {a} {f} {h} {x} {c} {f2} y k =
    let P : List ℕ → Type 0 = λ bytes. Took a bytes c (k.lost ++ y) in
    record { lost = k.lost ++ y; took = subst P (append_assoc h x y) (took_more a (h ++ x) c k.lost y k.took); later = k.later; rose = k.rose }

-- a part, and then a call that answers r
pub sent_then : {T E : Type 0} {r : Result T E} {a : Option (List ℕ)} {f : ℕ} {h x : List ℕ} {b : Option (List ℕ)} {f1 : ℕ} {h1 y : List ℕ} {c : Option (List ℕ)} {f2 : ℕ} {h2 : List ℕ} → Sent a f h x b f1 h1 → Sends r b f1 h1 y c f2 h2 → Sends r a f h (x ++ y) c f2 h2
sent_then {r = r} s t = record { ok = on_ok_weaker r (λ u. sent_sent s u) t.ok; err = on_err_weaker r (λ k. sent_cut s k) t.err }

-- a call that was cut off answers an Err
pub cut_at : {T E : Type 0} {r : Result T E} {a : Option (List ℕ)} {f : ℕ} {h text : List ℕ} {c : Option (List ℕ)} {f2 : ℕ} {h2 : List ℕ} → IsErr r → IsCutOff a f h text c f2 → Sends r a f h text c f2 h2
cut_at {r = Ok _} bad k = cc bad
cut_at {r = Err _} bad k = record { ok = tt; err = k }

-- a call that wrote nothing cuts the text off where it was
pub cut_here : {a : Option (List ℕ)} {f : ℕ} {text : List ℕ} {b : Option (List ℕ)} {f1 : ℕ} {rest : List ℕ} {c : Option (List ℕ)} {f2 : ℕ} → Sent a f [] text b f1 rest → c ≡ b → f1 ≤ f2 → Rose f1 f2 → IsCutOff a f [] text c f2
cut_here {a} {f} {text} {b} {f1} {rest} {c} {f2} s same later rose =
    let P : Option (List ℕ) → Type 0 = λ o. Took a text o rest in
    let Q : ℕ → Type 0 = λ n. Rose n f2 in
    record { lost = rest; took = subst P (sym same) s.took; later = let e = s.steady in omega (arith, later, e); rose = subst Q s.steady rose }

pub cut_nothing : {a : Option (List ℕ)} {f : ℕ} {text : List ℕ} {b : Option (List ℕ)} {f1 : ℕ} {rest : List ℕ} {c : Option (List ℕ)} {f2 : ℕ} (n : ℕ) (piece : List ℕ) → Sent a f [] text b f1 rest → c ≡ appended b (take n piece)
    → n ≡ 0 → f1 ≤ f2 → Rose f1 f2 → IsCutOff a f [] text c f2
cut_nothing {b = b} n piece s wrote none later rose = cut_here s (wrote ∙ ap (λ k. appended b (take k piece)) none ∙ sym (appended_nothing b)) later rose

-- what was held is sent as a text of its own
pub sent_flushed : {a : Option (List ℕ)} {f : ℕ} {h : List ℕ} {b : Option (List ℕ)} {f1 : ℕ} → Sent a f [] h b f1 [] → Sent a f h [] b f1 []
sent_flushed s = record { took = rw append-nil s.took; steady = s.steady }

pub cut_flushed : {a : Option (List ℕ)} {f : ℕ} {h : List ℕ} {b : Option (List ℕ)} {f1 : ℕ} → IsCutOff a f [] h b f1 → IsCutOff a f h [] b f1
cut_flushed k = record { lost = k.lost; took = rw append-nil k.took; later = k.later; rose = k.rose }

-- ---- what a text's sender says to its callers

sent_whole : {a : Option (List ℕ)} {f : ℕ} {text : List ℕ} {b : Option (List ℕ)} {f1 : ℕ} → Sent a f [] text b f1 [] → b ≡ appended a text
sent_whole {a} s = s.took.wrote ∙ ap (appended a) (sym (append-nil s.took.front) ∙ s.took.whole)

took_prefix : {a : Option (List ℕ)} {text : List ℕ} {b : Option (List ℕ)} {rest : List ℕ} → Took a text b rest → (k : ℕ) × (k ≤ length text) × (b ≡ appended a (take k text))
took_prefix {a} {text} {b} {rest} t =
    let front : take (length t.front) text ≡ t.front = ap (take (length t.front)) (sym t.whole) ∙ take_at t.front rest (length t.front) refl in
    (length t.front, omega (arith, length-append t.front rest, ap length t.whole), t.wrote ∙ ap (appended a) (sym front))

pub sends_ok : {T E : Type 0} {r : Result T E} {a : Option (List ℕ)} {f : ℕ} {text : List ℕ} {b : Option (List ℕ)} {f1 : ℕ} → Sends r a f [] text b f1 [] → OnOk r (b ≡ appended a text)
sends_ok {r = r} s = on_ok_weaker r sent_whole s.ok

pub sends_cut : {T E : Type 0} {r : Result T E} {a : Option (List ℕ)} {f : ℕ} {text : List ℕ} {b : Option (List ℕ)} {f1 : ℕ} → Sends r a f [] text b f1 [] → OnErr r ((k : ℕ) × (k ≤ length text) × (b ≡ appended a (take k text)))
sends_cut {r = r} s = on_err_weaker r (λ k. took_prefix k.took) s.err

pub sends_steady : {T E : Type 0} {r : Result T E} {a : Option (List ℕ)} {f : ℕ} {text : List ℕ} {b : Option (List ℕ)} {f1 : ℕ} → Sends r a f [] text b f1 [] → OnOk r (f1 ≡ f)
sends_steady {r = r} s = on_ok_weaker r (λ u. u.steady) s.ok

pub sends_cause : {T E : Type 0} {r : Result T E} {a : Option (List ℕ)} {f : ℕ} {text : List ℕ} {b : Option (List ℕ)} {f1 : ℕ} → Sends r a f [] text b f1 [] → HasCause r f f1
sends_cause {r = Ok _} {f = f} {f1 = f1} s = let e : f1 ≡ f = s.ok.steady in record { later = omega arith; cause = tt }
sends_cause {r = Err _} s = record { later = s.err.later; cause = s.err.rose }

-- ---- the same text, written otherwise

pub sends_as : {T E : Type 0} {r : Result T E} {a : Option (List ℕ)} {f : ℕ} {h x y : List ℕ} {b : Option (List ℕ)} {f1 : ℕ} {h1 : List ℕ} → x ≡ y → Sends r a f h x b f1 h1 → Sends r a f h y b f1 h1
sends_as {r = r} {a = a} {f = f} {h = h} {b = b} {f1 = f1} {h1 = h1} same s =
    let P : List ℕ → Type 0 = λ text. Sends r a f h text b f1 h1 in
    subst P same s

pub cut_as : {a : Option (List ℕ)} {f : ℕ} {h x y : List ℕ} {b : Option (List ℕ)} {f1 : ℕ} → x ≡ y → IsCutOff a f h x b f1 → IsCutOff a f h y b f1
cut_as {a} {f} {h} {b = b} {f1 = f1} same k =
    let P : List ℕ → Type 0 = λ text. IsCutOff a f h text b f1 in
    subst P same k

-- ---- what is held is the front of a room

pub puts_then : {E : Type 0} {r : Result ℕ E} {a : Option (List ℕ)} {f : ℕ} {h x : List ℕ} {b : Option (List ℕ)} {f1 : ℕ} {h1 y : List ℕ} {c : Option (List ℕ)} {f2 : ℕ} {room : List ℕ} → Sent a f h x b f1 h1 → Puts r b f1 h1 y c f2 room → Puts r a f h (x ++ y) c f2 room
puts_then {r = Ok n} s p = record { ok = record { fits = p.ok.fits; sent = sent_sent s p.ok.sent }; err = tt }
puts_then {r = Err _} s p = record { ok = tt; err = sent_cut s p.err }

-- a call that was cut off answers an Err
pub puts_cut : {E : Type 0} {r : Result ℕ E} {a : Option (List ℕ)} {f : ℕ} {h text : List ℕ} {c : Option (List ℕ)} {f2 : ℕ} {room : List ℕ} → IsErr r → IsCutOff a f h text c f2 → Puts r a f h text c f2 room
puts_cut {r = Ok _} bad k = cc bad
puts_cut {r = Err _} bad k = record { ok = tt; err = k }

pub puts_as : {E : Type 0} {r : Result ℕ E} {a : Option (List ℕ)} {f : ℕ} {h x y : List ℕ} {b : Option (List ℕ)} {f1 : ℕ} {room : List ℕ} → x ≡ y → Puts r a f h x b f1 room → Puts r a f h y b f1 room
puts_as {r = r} {a = a} {f = f} {h = h} {b = b} {f1 = f1} {room = room} same p =
    let P : List ℕ → Type 0 = λ text. Puts r a f h text b f1 room in
    subst P same p

-- nothing was written, and these bytes are held too
pub held_more : {a : Option (List ℕ)} {f : ℕ} {h x : List ℕ} {b : Option (List ℕ)} {f1 : ℕ} {h1 h2 : List ℕ} (y : List ℕ) → Sent a f h x b f1 h1 → h2 ≡ h1 ++ y → Sent a f h (x ++ y) b f1 h2
held_more {a} {f} {h} {x} {b} {f1} y s is =
    let P : List ℕ → Type 0 = λ held. Sent a f h (x ++ y) b f1 held in
    subst P (sym is) (sent_held y s)

-- a text, and then what is still held of it
pub room_sent : {T E : Type 0} {r : Result T E} {a : Option (List ℕ)} {f : ℕ} {x : List ℕ} {b : Option (List ℕ)} {f1 : ℕ} {h1 : List ℕ} {c : Option (List ℕ)} {f2 : ℕ} → Sent a f [] x b f1 h1 → Sends r b f1 [] h1 c f2 [] → Sends r a f [] x c f2 []
room_sent {r = r} {x = x} {b = b} {f1 = f1} {h1 = h1} {c = c} {f2 = f2} text rest =
    let left : Sends r b f1 h1 [] c f2 [] = record { ok = on_ok_weaker r (λ u. sent_flushed u) rest.ok; err = on_err_weaker r (λ k. cut_flushed k) rest.err } in
    sends_as (append-nil x) (sent_then text left)

-- what was held is sent, and then a text past it
pub sent_last : {a : Option (List ℕ)} {f : ℕ} {h : List ℕ} {b : Option (List ℕ)} {f1 : ℕ} {y : List ℕ} {c : Option (List ℕ)} {f2 : ℕ} → Sent a f [] h b f1 [] → Sent b f1 [] y c f2 [] → Sent a f h y c f2 []
sent_last s t = sent_sent (sent_flushed s) t

-- digits written where they are to stand
pub digits_held : (old new digits : List ℕ) (held start end : ℕ) → held ≤ length old → start + length digits ≡ end → end ≡ held + length digits → drop start new ≡ digits ++ drop end old → take start new ≡ take start old → take end new ≡ take held old ++ digits
digits_held old new digits held start end fits starts ends written before =
    let same : start ≡ held = omega (arith, starts, ends) in
    let whole : new ≡ (take start old ++ digits) ++ drop end old =
    sym (take-append-drop start new)
    ∙ ap (λ (xs : List ℕ). xs ++ drop start new) before
    ∙ ap (λ (xs : List ℕ). take start old ++ xs) written
    ∙ sym (append_assoc (take start old) digits (drop end old)) in
    let size : length (take start old ++ digits) ≡ end = omega (arith, starts, same, fits, length-append (take start old) digits, length-take-le start old (omega (arith, same, fits))) in
    ap (take end) whole ∙ take_at (take start old ++ digits) (drop end old) end size ∙ ap (λ (k : ℕ). take k old ++ digits) same
