-- Spans of a run of bytes: what stays when names are added behind it, and their order.
use Rattle.std.proofs.Common.{◌≡◌, ℕ, zero, suc, ◌+◌, ◌<◌, ◌≤◌, ◌⊎◌, inl, inr, min, true, false, List, [], ◌∷◌, ◌++◌, length, map, take, drop, get_or, slice_index, refl, sym, ap, subst, ◌∙◌, arith, length-append, length-drop, length-take-le, append-nil, take-append-drop}
use Rattle.std.specs.Prelude.{Err, Ok, OnErr, Result}
use Rattle.std.specs.Cmp.{IsTotalOrder}
use Rattle.std.specs.Cmp.Lexicographic.{nat_list_cmp_total, slice_cmp}
use Rattle.std.specs.List.{All}
use Rattle.std.specs.List.Sorted.{IsSorted, IsSortedBy}
use Rattle.std.specs.Ordering.{MatchOrdering, is_lt, nat_cmp, ordering_reverse, ordering_then}
use Rattle.std.specs.declared.cmp.Ordering.{Ordering}
use Rattle.std.specs.declared.cmp.Ordering.TheVariants.{Equal, Greater, Less}
use Rattle.std.proofs.lemmas.Bool.{cases_lt}
use Rattle.std.proofs.lemmas.Cmp.{nat_cmp_total, on_total, ranked, then_total}
use Rattle.std.proofs.lemmas.List.{drop-append-le, drop_at, drop_min, get_or-drop, get_or-map, get_or-take, get_or_past, length-map, length-take, map_push, take-append-le, take_all, take_at, take_min}
use Rattle.std.proofs.lemmas.List.Elements.{All-head, All-push, All-tail}
use Rattle.byteorder.specs.Endian.{big_number}
use Rattle.name_list.specs.Spans.{AreNames, IsNameSpan, bytes_at, names_at, span_cmp}
use Rattle.name_list.specs.declared.spans.Span.{Span}
use Rattle.name_list.proofs.FrontRules.{AreBytes, front_before}

-- ---- bytes behind the others

at_more : (bytes more : List ℕ) (s : Span) → s.start + s.len ≤ length bytes → bytes_at (bytes ++ more) s ≡ bytes_at bytes s
at_more bytes more s within =
    ap (take s.len) (drop-append-le s.start bytes more (omega (arith, within)))
    ∙ take-append-le s.len (drop s.start bytes) more (let rest = length-drop s.start bytes in omega (arith, within, rest))

span_more : (bytes more : List ℕ) (s : Span) → IsNameSpan bytes s → IsNameSpan (bytes ++ more) s
span_more bytes more s is = record {
  within = let in_old = is.within in let long = length-append bytes more in omega (arith, in_old, long);
  front = is.front ∙ ap (big_number 8) (sym (at_more bytes more s is.within));
}

spans_more : (bytes more : List ℕ) (spans : List Span) → All (IsNameSpan bytes) spans → All (IsNameSpan (bytes ++ more)) spans
spans_more bytes more spans all = λ k d low. span_more bytes more (get_or spans k d) (all k d low)

names_more : (bytes more : List ℕ) (spans : List Span) → All (IsNameSpan bytes) spans → map (bytes_at (bytes ++ more)) spans ≡ map (bytes_at bytes) spans
names_more bytes more [] all = refl
names_more bytes more (s ∷ spans) all =
    let first : bytes_at (bytes ++ more) s ≡ bytes_at bytes s = at_more bytes more s (All-head (IsNameSpan bytes) s spans all).within in
    let rest : map (bytes_at (bytes ++ more)) spans ≡ map (bytes_at bytes) spans = names_more bytes more spans (All-tail (IsNameSpan bytes) s spans all) in
    (λ q. first q ∷ rest q)

pub on_err : {T E P : Type 0} (r : Result T E) → P → OnErr r P
on_err (Ok x) p = tt
on_err (Err e) p = p

-- ---- a name that is added

-- a span of the bytes that stand behind the others
pub record IsAdded (bytes name : List ℕ) (s : Span) : Type 0 where
  pub start : s.start ≡ length bytes
  pub len : s.len ≡ length name
  pub front : s.front ≡ big_number 8 name

at_end : (bytes name : List ℕ) (s : Span) → IsAdded bytes name s → bytes_at (bytes ++ name) s ≡ name
at_end bytes name s is =
    ap (take s.len) (ap (λ (n : ℕ). drop n (bytes ++ name)) is.start ∙ drop_at bytes name (length bytes) refl)
    ∙ take_all s.len name (let len = is.len in omega (arith, len))

pub added_spans : (bytes name new : List ℕ) (spans more : List Span) (s : Span) → All (IsNameSpan bytes) spans → IsAdded bytes name s → new ≡ bytes ++ name → more ≡ spans ++ s ∷ [] → All (IsNameSpan new) more
added_spans bytes name new spans more s all is behind pushed =
    subst (λ (xs : List ℕ). All (IsNameSpan xs) more) (sym behind) (subst (λ (ss : List Span). All (IsNameSpan (bytes ++ name)) ss) (sym pushed)
    (All-push (IsNameSpan (bytes ++ name)) spans s (spans_more bytes name spans all) (record {
      within = let start = is.start in let len = is.len in let long = length-append bytes name in omega (arith, start, len, long);
      front = is.front ∙ ap (big_number 8) (sym (at_end bytes name s is));
    })))

pub added_names : (bytes name new : List ℕ) (spans more : List Span) (s : Span) (names : List (List ℕ)) → All (IsNameSpan bytes) spans → IsAdded bytes name s → new ≡ bytes ++ name → more ≡ spans ++ s ∷ [] → map (bytes_at bytes) spans ≡ names → map (bytes_at new) more ≡ names ++ name ∷ []
added_names bytes name new spans more s names all is behind pushed were =
    (λ q. map (bytes_at (behind q)) (pushed q))
    ∙ map_push (bytes_at (bytes ++ name)) spans s
    ∙ (λ q. names_more bytes name spans all q ++ at_end bytes name s is q ∷ [])
    ∙ ap (λ (ns : List (List ℕ)). ns ++ name ∷ []) were

-- the first bytes of a line behind others
pub cut_behind : (xs ys : List ℕ) (n k : ℕ) → n ≡ length xs + k → take n (xs ++ ys) ≡ xs ++ take k ys
cut_behind [] ys n k e = let same : n ≡ k = omega (arith, e) in ap (λ (m : ℕ). take m ys) same
cut_behind (x ∷ xs) ys zero k e = absurd (omega (arith, e))
cut_behind (x ∷ xs) ys (suc n) k e = ap (λ (zs : List ℕ). x ∷ zs) (cut_behind xs ys n k (omega (arith, e)))

-- ---- bytes put in place of those behind the last name

kept : (bytes new more : List ℕ) (stop : ℕ) → stop ≤ length bytes → new ≡ take stop bytes ++ more → take stop new ≡ take stop bytes
kept bytes new more stop held is = ap (take stop) is ∙ take_at (take stop bytes) more stop (length-take-le stop bytes held)

long_enough : (bytes new more : List ℕ) (stop : ℕ) → stop ≤ length bytes → new ≡ take stop bytes ++ more → length new ≡ stop + length more
long_enough bytes new more stop held is = ap length is ∙ length-append (take stop bytes) more ∙ ap (λ (n : ℕ). n + length more) (length-take-le stop bytes held)

-- they change no name
pub are_names : (bytes new more : List ℕ) (stop : ℕ) (spans after : List Span) → AreNames bytes stop spans → new ≡ take stop bytes ++ more → after ≡ spans → AreNames new stop after
are_names bytes new more stop spans after are is same = record {
  held = let long = long_enough bytes new more stop are.held is in omega (arith, long);
  each = subst (λ (xs : List ℕ). All (IsNameSpan xs) after) (sym (kept bytes new more stop are.held is)) (subst (λ (ss : List Span). All (IsNameSpan (take stop bytes)) ss) (sym same) are.each);
}

pub names_stay : (bytes new more : List ℕ) (stop : ℕ) (spans after : List Span) (names : List (List ℕ)) → AreNames bytes stop spans → new ≡ take stop bytes ++ more → after ≡ spans → names_at bytes stop spans ≡ names → names_at new stop after ≡ names
names_stay bytes new more stop spans after names are is same were = (λ q. map (bytes_at (kept bytes new more stop are.held is q)) (same q)) ∙ were

-- those that are cut off as well
pub are_names_cut : (bytes new : List ℕ) (stop : ℕ) (spans : List Span) → AreNames bytes stop spans → new ≡ take stop bytes → AreNames new stop spans
are_names_cut bytes new stop spans are is = are_names bytes new [] stop spans spans are (is ∙ sym (append-nil (take stop bytes))) refl

pub names_stay_cut : (bytes new : List ℕ) (stop : ℕ) (spans : List Span) (names : List (List ℕ)) → AreNames bytes stop spans → new ≡ take stop bytes → names_at bytes stop spans ≡ names → names_at new stop spans ≡ names
names_stay_cut bytes new stop spans names are is were = names_stay bytes new [] stop spans spans names are (is ∙ sym (append-nil (take stop bytes))) refl were

-- a name that is the first of them
pub record IsPut (bytes new more name : List ℕ) (stop end : ℕ) (s : Span) : Type 0 where
  pub behind : new ≡ take stop bytes ++ more
  pub first : take s.len more ≡ name
  pub few : s.len ≤ length more
  pub begins : s.start ≡ stop
  pub ends : end ≡ stop + s.len
  pub front : s.front ≡ big_number 8 name

put_behind : (bytes new more name : List ℕ) (stop end : ℕ) (s : Span) → stop ≤ length bytes → IsPut bytes new more name stop end s → take end new ≡ take stop bytes ++ name
put_behind bytes new more name stop end s held is =
    let long = length-take-le stop bytes held in
    let ends = is.ends in
    ap (take end) is.behind ∙ cut_behind (take stop bytes) more end s.len (omega (arith, long, ends)) ∙ ap (λ (xs : List ℕ). take stop bytes ++ xs) is.first

is_added : (bytes new more name : List ℕ) (stop end : ℕ) (s : Span) → stop ≤ length bytes → IsPut bytes new more name stop end s → IsAdded (take stop bytes) name s
is_added bytes new more name stop end s held is = record {
  start = is.begins ∙ sym (length-take-le stop bytes held);
  len = sym (length-take-le s.len more is.few) ∙ ap length is.first;
  front = is.front;
}

pub are_more : (bytes new more name : List ℕ) (stop end : ℕ) (spans after : List Span) (s : Span) → AreNames bytes stop spans → IsPut bytes new more name stop end s → after ≡ spans ++ s ∷ [] → AreNames new end after
are_more bytes new more name stop end spans after s are is pushed = record {
  held = let long = long_enough bytes new more stop are.held is.behind in let ends = is.ends in let few = is.few in omega (arith, long, ends, few);
  each = added_spans (take stop bytes) name (take end new) spans after s are.each (is_added bytes new more name stop end s are.held is) (put_behind bytes new more name stop end s are.held is) pushed;
}

pub names_are_more : (bytes new more name : List ℕ) (stop end : ℕ) (spans after : List Span) (s : Span) (names : List (List ℕ)) → AreNames bytes stop spans → IsPut bytes new more name stop end s → after ≡ spans ++ s ∷ [] → names_at bytes stop spans ≡ names → names_at new end after ≡ names ++ name ∷ []
names_are_more bytes new more name stop end spans after s names are is pushed were =
    added_names (take stop bytes) name (take end new) spans after s names are.each (is_added bytes new more name stop end s are.held is) (put_behind bytes new more name stop end s are.held is) pushed were

-- ---- a name that is read

pub record IsNameAt (bytes name : List ℕ) (s : Span) : Type 0 where
  pub within : s.start + s.len ≤ length bytes
  pub named : bytes_at bytes s ≡ name

at_whole : (bytes : List ℕ) (stop : ℕ) (s : Span) → s.start + s.len ≤ length (take stop bytes) → bytes_at bytes s ≡ bytes_at (take stop bytes) s
at_whole bytes stop s within = ap (λ (xs : List ℕ). bytes_at xs s) (sym (take-append-drop stop bytes)) ∙ at_more (take stop bytes) (drop stop bytes) s within

pub name_read : (bytes : List ℕ) (stop : ℕ) (spans : List Span) (names : List (List ℕ)) (k : ℕ) (s : Span) → AreNames bytes stop spans → names_at bytes stop spans ≡ names → k < length names → s ≡ get_or spans k s → IsNameAt bytes (get_or names k []) s
name_read bytes stop spans names k s all are low is =
    let long = ap length are in
    let same = length-map spans (bytes_at (take stop bytes)) in
    let few : k < length spans = omega (arith, low, long, same) in
    let within : s.start + s.len ≤ length (take stop bytes) = subst (λ (t : Span). t.start + t.len ≤ length (take stop bytes)) (sym is) (all.each k s few).within in
    record {
      within = let held = all.held in let cut = length-take-le stop bytes all.held in omega (arith, within, held, cut);
      named = at_whole bytes stop s within ∙ ap (bytes_at (take stop bytes)) is ∙ sym (get_or-map (bytes_at (take stop bytes)) spans k s [] few) ∙ ap (λ (ns : List (List ℕ)). get_or ns k []) are;
    }

-- what of it lies within the bytes
pub piece_is : (bytes rest name : List ℕ) (s : Span) (start len : ℕ) → start ≡ min s.start (length bytes) → rest ≡ drop start bytes → len ≡ min s.len (length rest) → name ≡ take len rest → name ≡ bytes_at bytes s
piece_is bytes rest name s start len first behind few is =
    is ∙ ap (λ (n : ℕ). take n rest) few ∙ take_min s.len rest ∙ ap (take s.len) (behind ∙ ap (λ (n : ℕ). drop n bytes) first ∙ drop_min s.start bytes)

-- ---- the order of spans

part_bytes : (bytes : List ℕ) (s : Span) → AreBytes bytes → AreBytes (bytes_at bytes s)
part_bytes bytes s all k = by (cases_lt k s.len)
  where
    by : (k < s.len) ⊎ (s.len ≤ k) → slice_index (bytes_at bytes s) k < 256
    by (inl low) = subst (λ (y : ℕ). y < 256) (sym (get_or-take s.len (drop s.start bytes) k 0 low ∙ get_or-drop s.start bytes k 0)) (all (s.start + k))
    by (inr high) = subst (λ (y : ℕ). y < 256) (sym (get_or_past (bytes_at bytes s) k 0 (let long = length-take s.len (drop s.start bytes) in omega (arith, high, long)))) (omega arith)

pub spans_total : (bytes : List ℕ) → IsTotalOrder (span_cmp bytes)
spans_total bytes = then_total (on_total (λ (s : Span). s.front) nat_cmp_total) (on_total (bytes_at bytes) nat_list_cmp_total)

no_true : true ≡ false → ⊥
no_true e = cc

told_less : (a b c d : ℕ) → a ≡ c → b ≡ d → a < b → c < d
told_less a b c d first second less = omega (arith, first, second, less)

-- by their fronts and names, or by their names alone
fronts_tell : (bytes : List ℕ) (a b : Span) → AreBytes bytes → IsNameSpan bytes a → IsNameSpan bytes b → is_lt (span_cmp bytes b a) ≡ false → is_lt (slice_cmp nat_cmp (bytes_at bytes b) (bytes_at bytes a)) ≡ false
fronts_tell bytes a b all p q up = by (nat_cmp b.front a.front) refl (ranked b.front a.front (nat_cmp b.front a.front) refl)
  where
    behind : Ordering
    behind = slice_cmp nat_cmp (bytes_at bytes b) (bytes_at bytes a)

    by : (o : Ordering) → nat_cmp b.front a.front ≡ o → MatchOrdering o (b.front < a.front) (b.front ≡ a.front) (a.front < b.front) → is_lt behind ≡ false
    by Less told less = absurd (no_true (sym (ap (λ (o : Ordering). is_lt (ordering_then o behind)) told) ∙ up))
    by Equal told same = sym (ap (λ (o : Ordering). is_lt (ordering_then o behind)) told) ∙ up
    by Greater told more =
        let before : slice_cmp nat_cmp (bytes_at bytes a) (bytes_at bytes b) ≡ Less = front_before 8 (bytes_at bytes a) (bytes_at bytes b) (part_bytes bytes a all) (part_bytes bytes b all) (told_less a.front b.front (big_number 8 (bytes_at bytes a)) (big_number 8 (bytes_at bytes b)) p.front q.front more) in
        ap is_lt (nat_list_cmp_total.antisymm (bytes_at bytes b) (bytes_at bytes a) ∙ ap ordering_reverse before)

pub names_sorted : (bytes : List ℕ) (spans : List Span) → AreBytes bytes → All (IsNameSpan bytes) spans → IsSortedBy (λ x y. is_lt (span_cmp bytes x y)) spans → IsSorted (slice_cmp nat_cmp) (map (bytes_at bytes) spans)
names_sorted bytes spans all are up k d low high =
    let long = length-map spans (bytes_at bytes) in
    let many : k + 1 < length spans = omega (arith, high, long) in
    let few : k < length spans = omega (arith, many) in
    let none : Span = record { front = 0; start = 0; len = 0 } in
    let one = get_or-map (bytes_at bytes) spans k none d few in
    let next = get_or-map (bytes_at bytes) spans (k + 1) none d many in
    (λ q. is_lt (slice_cmp nat_cmp (next q) (one q))) ∙ fronts_tell bytes (get_or spans k none) (get_or spans (k + 1) none) all (are k none few) (are (k + 1) none many) (up k none low many)
