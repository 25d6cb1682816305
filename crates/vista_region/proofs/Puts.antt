-- What bytes that are put come to.
use Rattle.vista_region.proofs.Common.{◌≡◌, ℕ, ◌+◌, ◌-◌, ◌*◌, ◌/◌, ◌%◌, ◌<◌, ◌≤◌, ◌⊎◌, inl, inr, ◌++◌, Bool, true, false, cond, Some, Err, List, length, map, take, drop, slice_index, refl, sym, ap, subst, ◌∙◌, arith, length-drop, range_with_len, length-take-le, get_or-map-range_with_len, length-map-range_with_len, RegionContent, RegionNode, Txn, OfBlocks, heap_blocks, units_of, CoversAll, IsRegion, Puts, data_from, live, map_pages, undo_records, Outcome, of_words, within, words_of}
use Rattle.std.proofs.Common.{length-append}
use Rattle.std.specs.Prelude.{MatchBool}
use Rattle.std.proofs.lemmas.Bool.{cases_lt}
use Rattle.std.proofs.lemmas.List.{ext_get_or, get_or-append_right, get_or-drop, get_or-take, get_or_append_left, take_all}
use Rattle.rio_base.specs.declared.failures.VolFail.{VolFail}
use Rattle.rio_base.specs.declared.failures.VolFail.TheVariants.{Fault as WordFault, Stopped as WordStopped}
use Rattle.rio_base.specs.Regions.{put_words}
use Rattle.rio_model.specs.FileParts.{put_at}
use Rattle.rio_model.specs.Undo.{Keeps}
use Rattle.rio_requests.specs.RegionAnswers.{all_in_range, put_on, with_words}
use Rattle.rio_requests.specs.declared.reply.Reply.TheVariants.{Number}
use Rattle.vista_region.specs.Ends.{DoneAs, Fits, OnFault, PutPart, says_number}
use Rattle.vista_region.specs.Failures.{handed}
use Rattle.vista_region.specs.Marks.{Marks, mark_of, txn_in}
use Rattle.vista_region.specs.Regions.{ranges_of, region_now, txn_now}
use Rattle.vista_region.specs.Steps.{IsSpan}
use Rattle.vista_region.specs.declared.data.Span.{Span}
use Rattle.vista_region.proofs.Covered.{all_in, not_all_in}
use Rattle.vista_region.proofs.Ended.{fits_open}
use Rattle.vista_region.proofs.Heaps.{SameMap, alone_same, blocks_same}
use Rattle.vista_region.proofs.Nodes.{marked, txn_in_same}
use Rattle.vista_region.proofs.Outcomes.{answer, open_goes, same_answer}
use Rattle.vista_region.proofs.Spans.{Passes, Stops}
use Rattle.vista_region.proofs.Words.{part_word, put_in, put_out, words_long}

-- ---- words put over a list that a function gives

long_put : (old : List ℕ) (o k : ℕ) (ws : List ℕ) → length ws ≡ k → o + k ≤ length old → length (put_at old o ws) ≡ length old
long_put old o k ws long fits =
    let a = length-take-le o old (omega (arith, fits)) in
    let b = length-append (take o old ++ ws) (drop (o + length ws) old) in
    let d = length-append (take o old) ws in
    let e = length-drop (o + length ws) old in
    omega (arith, a, b, d, e, long, fits)

front_is : (old : List ℕ) (o : ℕ) (ws : List ℕ) → o ≤ length old → length (take o old ++ ws) ≡ o + length ws
front_is old o ws fits = let a = length-take-le o old fits in let d = length-append (take o old) ws in omega (arith, a, d)

put_before : (old : List ℕ) (o x : ℕ) (ws : List ℕ) → o ≤ length old → x < o → slice_index (put_at old o ws) x ≡ slice_index old x
put_before old o x ws fits low =
    let a = length-take-le o old fits in
    let d = front_is old o ws fits in
    get_or_append_left (take o old ++ ws) (drop (o + length ws) old) 0 x (omega (arith, d, low)) ∙ get_or_append_left (take o old) ws 0 x (omega (arith, a, low)) ∙ get_or-take o old x 0 low

put_inside : (old : List ℕ) (o x : ℕ) (ws : List ℕ) → o ≤ length old → o ≤ x → x < o + length ws → slice_index (put_at old o ws) x ≡ slice_index ws (x - o)
put_inside old o x ws fits low high =
    let d = front_is old o ws fits in
    get_or_append_left (take o old ++ ws) (drop (o + length ws) old) 0 x (omega (arith, d, high))
    ∙ get_or-append_right (take o old) ws o x 0 (length-take-le o old fits) low

put_behind : (old : List ℕ) (o x : ℕ) (ws : List ℕ) → o ≤ length old → o + length ws ≤ x → slice_index (put_at old o ws) x ≡ slice_index old x
put_behind old o x ws fits low =
    let at : o + length ws + (x - (o + length ws)) ≡ x = omega (arith, low) in
    get_or-append_right (take o old ++ ws) (drop (o + length ws) old) (o + length ws) x 0 (front_is old o ws fits) low
    ∙ get_or-drop (o + length ws) old (x - (o + length ws)) 0
    ∙ ap (slice_index old) at

-- the data words after k of these were stored at place a + o, counted from a
data_put : (l m : ℕ → ℕ) (a size o k : ℕ) (words front : List ℕ) → length front ≡ k → o + k ≤ size → ((j : ℕ) → j < k → slice_index front j ≡ slice_index words j) → m ≡ put_words l (a + o) k words → map (λ q. m (a + q)) (range_with_len 0 size) ≡ put_at (map (λ q. l (a + q)) (range_with_len 0 size)) o front
data_put l m a size o k words front long within same is = ext_get_or 0 new (put_at old o front) (length-map-range_with_len M 0 size ∙ sym (long_put old o k front long (omega (arith, within, size_old)) ∙ size_old)) (λ x small. one x (omega (arith, small, size_new)) (cases_lt x o) (cases_lt x (o + k)))
  where
    L : ℕ → ℕ
    L q = l (a + q)

    M : ℕ → ℕ
    M q = m (a + q)

    old : List ℕ
    old = map (λ q. l (a + q)) (range_with_len 0 size)

    new : List ℕ
    new = map (λ q. m (a + q)) (range_with_len 0 size)

    size_old : length old ≡ size
    size_old = length-map-range_with_len (λ q. l (a + q)) 0 size

    size_new : length new ≡ size
    size_new = length-map-range_with_len (λ q. m (a + q)) 0 size

    now : (x : ℕ) → x < size → slice_index new x ≡ m (a + x)
    now x small = get_or-map-range_with_len (λ q. m (a + q)) 0 size x x 0 small (omega arith)

    was : (x : ℕ) → x < size → slice_index old x ≡ l (a + x)
    was x small = get_or-map-range_with_len (λ q. l (a + q)) 0 size x x 0 small (omega arith)

    stored : (x : ℕ) → m (a + x) ≡ put_words l (a + o) k words (a + x)
    stored x = ap (λ (h : ℕ → ℕ). h (a + x)) is

    one : (x : ℕ) → x < size → (x < o) ⊎ (o ≤ x) → (x < o + k) ⊎ (o + k ≤ x) → slice_index new x ≡ slice_index (put_at old o front) x
    one x small (inl low) any = now x small ∙ stored x ∙ put_out l (a + o) k (a + x) words (inl (omega (arith, low))) ∙ sym (put_before old o x front (omega (arith, within, size_old)) low ∙ was x small)
    one x small (inr low) (inl high) =
        let at : a + x - (a + o) ≡ x - o = omega arith in
        now x small ∙ stored x ∙ put_in l (a + o) k (a + x) words (omega (arith, low)) (omega (arith, high)) ∙ ap (slice_index words) at
        ∙ sym (put_inside old o x front (omega (arith, within, size_old)) low (omega (arith, high, long)) ∙ same (x - o) (omega (arith, low, high)))
    one x small (inr low) (inr high) = now x small ∙ stored x ∙ put_out l (a + o) k (a + x) words (inr (omega (arith, high))) ∙ sym (put_behind old o x front (omega (arith, within, size_old)) (omega (arith, high, long)) ∙ was x small)

-- ---- the region

abbrev region_of : List ℕ → ℕ → List (ℕ × ℕ) → RegionNode
region_of words undo blocks = record { words = words; undo = undo; blocks = blocks }

-- data words that change leave the heap map
pub same_map : (n : ℕ) (f g : RegionContent) (off len k : ℕ) (span : Span) (words : List ℕ) → IsSpan (f 2) off len span → Puts n f g span.place k words → SameMap (f 2) (live f) (live g)
same_map n f g off len k span words s p = record { each = λ q small. ap (λ (h : ℕ → ℕ). h q) p.present ∙ put_out (live f) span.place k q words (inl (omega (arith, small, s.place))) }

-- the words of the first k words' bytes
front_words : (bytes : List ℕ) (k j : ℕ) → 8 * k ≤ length bytes → j < k → slice_index (words_of (take (8 * k) bytes)) j ≡ slice_index (words_of bytes) j
front_words bytes k j fits small = part_word bytes 0 k j (omega (arith, fits)) small ∙ ap (slice_index (words_of bytes)) (let e : 0 + j ≡ j = omega arith in e)

front_long : (bytes : List ℕ) (k : ℕ) → 8 * k ≤ length bytes → length (words_of (take (8 * k) bytes)) ≡ k
front_long bytes k within = let a = words_long (take (8 * k) bytes) in let b = length-take-le (8 * k) bytes within in omega (arith, a, b)

pub put_now : (n : ℕ) (f g : RegionContent) (off len k : ℕ) (span : Span) (bytes : List ℕ) → IsSpan (f 2) off len span → Puts n f g span.place k (words_of bytes) → 8 * k ≤ length bytes → k ≤ span.count → region_now g ≡ with_words (region_now f) off (take (8 * k) bytes)
put_now n f g off len k span bytes s p within few =
    let sizes = p.keeps.undoes.sizes in
    let front : List ℕ = words_of (take (8 * k) bytes) in
    let is : live g ≡ put_words (live f) (data_from f + off / 8) k (words_of bytes) = p.present ∙ ap (λ z. put_words (live f) z k (words_of bytes)) s.place in
    let words = ap (λ d. map (λ q. live g (512 * map_pages d + q)) (range_with_len 0 (512 * d))) sizes.data_pages ∙ data_put (live f) (live g) (data_from f) (512 * f 2) (off / 8) k (words_of bytes) front (front_long bytes k within) (omega (arith, s.within, s.place, few)) (λ j small. front_words bytes k j within small) is in
    let blocks = ap (λ d. heap_blocks (live g) (64 * d)) sizes.data_pages ∙ blocks_same (f 2) (live f) (live g) (same_map n f g off len k span (words_of bytes) s p) in
    ap (λ ws. region_of ws (g 1) (heap_blocks (live g) (units_of g))) words
    ∙ ap (λ u. region_of (put_at (region_now f).words (off / 8) front) u (heap_blocks (live g) (units_of g))) sizes.undo
    ∙ ap (λ bs. region_of (put_at (region_now f).words (off / 8) front) (f 1) bs) blocks

pub put_txn : (marks : Marks) (i n : ℕ) (f g : RegionContent) → Keeps n f g → txn_in marks i g ≡ txn_in marks i f
put_txn marks i n f g k = txn_in_same marks i f g k.undoes.sizes k.undoes.before k.records

pub put_fits : (marks : Marks) (i size n m : ℕ) (f g : RegionContent) (off len k : ℕ) (span : Span) (words : List ℕ) → mark_of marks i ≡ Some false → Fits marks i size f → m ≡ n → IsSpan (f 2) off len span → Puts n f g span.place k words → Fits marks i m g
put_fits marks i size n m f g off len k span words open_mark h same s p =
    let u = p.keeps.undoes in
    let blocks = alone_same (f 2) (live f) (live g) (same_map n f g off len k span words s p) (h.heap open_mark) in
    fits_open marks i m g open_mark (subst (λ z. IsRegion z g) (sym same) u.region) (subst (λ d. OfBlocks (live g) d) (sym u.sizes.data_pages) blocks)

-- ---- the answer

abbrev after_put : RegionContent → ℕ → List ℕ → Txn → Outcome
after_put f off bytes t = of_words off (length bytes) (within (region_now f) off (length bytes) (cond (all_in_range t.ranges (off / 8) (length bytes / 8)) (answer (with_words (region_now f) off bytes) (Some t) (Number (length bytes))) (Err 15)))

put_goes : (marks : Marks) (i : ℕ) (f : RegionContent) (off : ℕ) (bytes : List ℕ) (b : Bool) → mark_of marks i ≡ Some false → Passes f off (length bytes) → all_in_range (ranges_of (data_from f) (undo_records f)) (off / 8) (length bytes / 8) ≡ b → put_on (region_now f) (txn_in marks i f) off bytes ≡ cond b (answer (with_words (region_now f) off bytes) (Some (txn_now i f false)) (Number (length bytes))) (Err 15)
put_goes marks i f off bytes b m passes all = open_goes marks i f (after_put f off bytes) m ∙ passes _ ∙ ap (λ c. cond c (answer (with_words (region_now f) off bytes) (Some (txn_now i f false)) (Number (length bytes))) (Err 15)) all

covers_span : (f : RegionContent) (off len : ℕ) (span : Span) → IsSpan (f 2) off len span → CoversAll (undo_records f) span.place span.count → CoversAll (undo_records f) (data_from f + off / 8) (len / 8)
covers_span f off len span s c = subst (λ p. CoversAll (undo_records f) p (len / 8)) s.place (subst (λ k. CoversAll (undo_records f) span.place k) s.count c)

span_covers : (f : RegionContent) (off len : ℕ) (span : Span) → IsSpan (f 2) off len span → CoversAll (undo_records f) (data_from f + off / 8) (len / 8) → CoversAll (undo_records f) span.place span.count
span_covers f off len span s c = subst (λ p. CoversAll (undo_records f) p span.count) (sym s.place) (subst (λ k. CoversAll (undo_records f) (data_from f + off / 8) k) (sym s.count) c)

-- not covered
pub put_refused : (marks : Marks) (i : ℕ) (f : RegionContent) (off : ℕ) (bytes : List ℕ) (span : Span) → mark_of marks i ≡ Some false → IsSpan (f 2) off (length bytes) span → Passes f off (length bytes) → (CoversAll (undo_records f) span.place span.count → ⊥) → put_on (region_now f) (txn_in marks i f) off bytes ≡ Err 15
put_refused marks i f off bytes span m s passes none = put_goes marks i f off bytes false m passes (not_all_in (data_from f) (undo_records f) (off / 8) (length bytes / 8) (λ c. none (span_covers f off (length bytes) span s c)))

put_open : (marks : Marks) (i : ℕ) (f : RegionContent) (off : ℕ) (bytes : List ℕ) (span : Span) → mark_of marks i ≡ Some false → IsSpan (f 2) off (length bytes) span → Passes f off (length bytes) → CoversAll (undo_records f) span.place span.count → put_on (region_now f) (txn_in marks i f) off bytes ≡ answer (with_words (region_now f) off bytes) (Some (txn_now i f false)) (Number (length bytes))
put_open marks i f off bytes span m s passes all = put_goes marks i f off bytes true m passes (all_in (data_from f) (undo_records f) (off / 8) (length bytes / 8) (covers_span f off (length bytes) span s all))

-- a refusal of the checks
pub put_stops : (marks : Marks) (i : ℕ) (f : RegionContent) (off : ℕ) (bytes : List ℕ) (number : ℕ) → mark_of marks i ≡ Some false → Stops f off (length bytes) number → put_on (region_now f) (txn_in marks i f) off bytes ≡ Err number
put_stops marks i f off bytes number m stops = open_goes marks i f (after_put f off bytes) m ∙ stops _

pub put_done : (marks : Marks) (i n : ℕ) (f g : RegionContent) (off : ℕ) (bytes : List ℕ) (span : Span) → mark_of marks i ≡ Some false → IsSpan (f 2) off (length bytes) span → Passes f off (length bytes) → CoversAll (undo_records f) span.place span.count → length bytes % 8 ≡ 0 → Puts n f g span.place (length bytes / 8) (words_of bytes) → DoneAs (put_on (region_now f) (txn_in marks i f) off bytes) marks i g (says_number (length bytes))
put_done marks i n f g off bytes span m s passes all ends p =
    let every : 8 * (length bytes / 8) ≡ length bytes = omega (arith, ends) in
    let full : take (8 * (length bytes / 8)) bytes ≡ bytes = take_all (8 * (length bytes / 8)) bytes (omega (arith, every)) in
    let now : region_now g ≡ with_words (region_now f) off bytes = put_now n f g off (length bytes) (length bytes / 8) span bytes s p (omega (arith, every)) (omega (arith, s.count)) ∙ ap (with_words (region_now f) off) full in
    put_open marks i f off bytes span m s passes all ∙ same_answer (with_words (region_now f) off bytes) (region_now g) (Some (txn_now i f false)) (txn_in marks i g) (Number (length bytes)) (sym now) (sym (put_txn marks i n f g p.keeps ∙ marked marks i f false m))

-- cut off after k words
pub put_part : (marks : Marks) (i n : ℕ) (f g : RegionContent) (off k : ℕ) (bytes : List ℕ) (span : Span) → mark_of marks i ≡ Some false → IsSpan (f 2) off (length bytes) span → Passes f off (length bytes) → CoversAll (undo_records f) span.place span.count → k ≤ length bytes / 8 → Puts n f g span.place k (words_of bytes) → PutPart (put_on (region_now f) (txn_in marks i f) off bytes) marks i f g off bytes (8 * k)
put_part marks i n f g off k bytes span m s passes all few p = inr (record { region = with_words (region_now f) off bytes; txn = Some (txn_now i f false); reply = Number (length bytes) }, put_open marks i f off bytes span m s passes all, omega arith, omega (arith, few), put_now n f g off (length bytes) k span bytes s p (omega (arith, few)) (omega (arith, few, s.count)), put_txn marks i n f g p.keeps)

-- ---- what calls before it say

-- the header was not read
pub unread : (T : Type 0) (e : VolFail) (P : ℕ → Type 0) → ((k : ℕ) → k ≡ 0 → P k) → OnFault {T = T} (Err (handed e)) P
unread T WordFault P none = none 0 refl
unread T WordStopped P none = tt

pub none_put : (defined : Outcome) (marks : Marks) (i : ℕ) (f g : RegionContent) (off : ℕ) (bytes : List ℕ) → g ≡ f → (k : ℕ) → k ≡ 0 → PutPart defined marks i f g off bytes k
none_put defined marks i f g off bytes same k none = inl (none, ap (λ (w : RegionContent). region_now w) same, ap (λ (w : RegionContent). txn_in marks i w) same)

pub is_yes : (b : Bool) (A B : Type 0) → b ≡ true → MatchBool b A B → A
is_yes b A B e h = subst (λ t. MatchBool t A B) e h

pub is_no : (b : Bool) (A B : Type 0) → b ≡ false → MatchBool b A B → B
is_no b A B e h = subst (λ t. MatchBool t A B) e h
