-- Bytes stored over a run of pages: a piece in one page, pieces one behind the other, and what of them lies below a size.
use Rattle.file_pages.proofs.Common.{◌≡◌, ◌≢◌, ℕ, ◌+◌, ◌-◌, ◌*◌, ◌/◌, ◌%◌, ◌<◌, ◌≤◌, ◌⊎◌, true, List, length, take, drop, min, refl, sym, ap, subst, ◌∙◌, arith, inl, inr, slice_index_or, slice_index, Option, Some, Result, Err, IsErrOf, Contains, cases_eq, cases_lt, get_or-drop, get_or-take, length-take, length-take-le, take_rest, Block, PageName, BlockWords, CanName, SamePage, Seen, Firm, Kept, SameBut, numbers, NamesPage}
use Rattle.std.proofs.lemmas.List.{length-drop}
use Rattle.rio_base.proofs.BlockSets.{caches_by_stored, firm_outside_all, same_outside_one}
use Rattle.rio_base.specs.Volume.{CachesStored, widened}
use Rattle.node_pages.specs.Changes.{Apart}
use Rattle.rio_model.specs.Held.{byte_of}
use Rattle.file_pages.specs.PageBytes.{PutsBytes, block_byte}
use Rattle.node_pages.specs.WordBytes.{over}
use Rattle.file_pages.specs.Spans.{PutsLead, PutsSpan, SpanNamed, span_byte}
use Rattle.node_pages.specs.Staging.{Beside}
use Rattle.file_pages.specs.Storing.{NamedAs}
use Rattle.file_pages.specs.declared.failures.BytesFail.{BytesFail}
use Rattle.file_pages.specs.declared.failures.BytesFail.TheVariants.{Fault}
use Rattle.node_pages.proofs.ByteRuns.{over_in, over_out}
use Rattle.node_pages.proofs.Listed.{as_many, listed, number_at}
use Rattle.file_pages.proofs.Stored.{widened_as}

-- ---- bytes over others, in two parts

-- none of them
over_none : (was : ℕ → ℕ) (off : ℕ) (bytes : List ℕ) (x : ℕ) → over was off bytes 0 x ≡ was x
over_none was off bytes x = over_out was off bytes 0 x (elim (cases_lt x off) [ inl low ↦ inl low | inr from ↦ inr (omega (arith, from)) ])

-- first those in front
over_then : (was mid : ℕ → ℕ) (off : ℕ) (bytes : List ℕ) (done k x : ℕ) → mid x ≡ over was off bytes done x → over mid (off + done) (drop done bytes) k x ≡ over was off bytes (done + k) x
over_then was mid off bytes done k x is = by (cases_lt x (off + done)) (cases_lt x (off + done + k))
  where
    front : x < off + done → ((x < off) ⊎ (off ≤ x)) → over was off bytes done x ≡ over was off bytes (done + k) x
    front low (inl below) = over_out was off bytes done x (inl below) ∙ sym (over_out was off bytes (done + k) x (inl below))
    front low (inr from) = over_in was off bytes done x from low ∙ sym (over_in was off bytes (done + k) x from (omega (arith, low)))

    by : ((x < off + done) ⊎ (off + done ≤ x)) → ((x < off + done + k) ⊎ (off + done + k ≤ x)) → over mid (off + done) (drop done bytes) k x ≡ over was off bytes (done + k) x
    by (inl low) _ = over_out mid (off + done) (drop done bytes) k x (inl low) ∙ is ∙ front low (cases_lt x off)
    by (inr from) (inl to) =
        let at : done + (x - (off + done)) ≡ x - off = omega (arith, from) in
        over_in mid (off + done) (drop done bytes) k x from to ∙ get_or-drop done bytes (x - (off + done)) 0 ∙ ap (slice_index bytes) at ∙ sym (over_in was off bytes (done + k) x (omega (arith, from)) (omega (arith, to)))
    by (inr from) (inr past) = over_out mid (off + done) (drop done bytes) k x (inr past) ∙ is ∙ over_out was off bytes done x (inr from) ∙ sym (over_out was off bytes (done + k) x (inr (omega (arith, past))))

-- first those behind
over_before : (was mid : ℕ → ℕ) (off : ℕ) (bytes : List ℕ) (a k x : ℕ) → mid x ≡ over was (off + a) (drop a bytes) k x → over mid off (take a bytes) a x ≡ over was off bytes (a + k) x
over_before was mid off bytes a k x is = by (cases_lt x off) (cases_lt x (off + a)) (cases_lt x (off + a + k))
  where
    by : ((x < off) ⊎ (off ≤ x)) → ((x < off + a) ⊎ (off + a ≤ x)) → ((x < off + a + k) ⊎ (off + a + k ≤ x)) → over mid off (take a bytes) a x ≡ over was off bytes (a + k) x
    by (inl low) _ _ = over_out mid off (take a bytes) a x (inl low) ∙ is ∙ over_out was (off + a) (drop a bytes) k x (inl (omega (arith, low))) ∙ sym (over_out was off bytes (a + k) x (inl low))
    by (inr from) (inl to) _ = over_in mid off (take a bytes) a x from to ∙ get_or-take a bytes (x - off) 0 (omega (arith, from, to)) ∙ sym (over_in was off bytes (a + k) x from (omega (arith, to)))
    by (inr from) (inr behind) (inl to) =
        let at : a + (x - (off + a)) ≡ x - off = omega (arith, behind) in
        over_out mid off (take a bytes) a x (inr behind) ∙ is ∙ over_in was (off + a) (drop a bytes) k x behind to ∙ get_or-drop a bytes (x - (off + a)) 0 ∙ ap (slice_index bytes) at ∙ sym (over_in was off bytes (a + k) x from (omega (arith, to)))
    by (inr from) (inr behind) (inr past) = over_out mid off (take a bytes) a x (inr behind) ∙ is ∙ over_out was (off + a) (drop a bytes) k x (inr past) ∙ sym (over_out was off bytes (a + k) x (inr (omega (arith, past))))

-- ---- spans

-- a span, and more of the bytes behind it
span_then : (f g h : BlockWords) (blocks : List ℕ) (first off : ℕ) (bytes : List ℕ) (done k : ℕ) → PutsSpan f g blocks first off bytes done → PutsSpan g h blocks first (off + done) (drop done bytes) k → PutsSpan f h blocks first off bytes (done + k)
span_then f g h blocks first off bytes done k a b = record {
  others = λ c w out. b.others c w out ∙ a.others c w out;
  each = λ x low high. b.each x low high ∙ over_then (span_byte f blocks first) (span_byte g blocks first) off bytes done k x (a.each x low high);
}

-- of what is left of the bytes, one behind the other
pub span_more : (f g h : BlockWords) (blocks : List ℕ) (first off : ℕ) (bytes : List ℕ) (done k : ℕ) → done ≤ length bytes → PutsSpan f g blocks first off bytes done → k ≤ length (take (length bytes - done) (drop done bytes)) → PutsSpan g h blocks first (off + done) (take (length bytes - done) (drop done bytes)) k → (done + k ≤ length bytes) × PutsSpan f h blocks first off bytes (done + k)
span_more f g h blocks first off bytes done k within a few b =
    let rest = take_rest bytes done in
    let long = ap (λ (xs : List ℕ). length xs) rest ∙ length-drop done bytes in
    (omega (arith, within, few, long), span_then f g h blocks first off bytes done k a (subst (λ xs. PutsSpan g h blocks first (off + done) xs k) rest b))

-- and then those in front of it
span_before : (f g h : BlockWords) (blocks : List ℕ) (first off : ℕ) (bytes : List ℕ) (n k : ℕ) → PutsSpan f g blocks first (off + n) (drop n bytes) k → PutsSpan g h blocks first off (take n bytes) n → PutsSpan f h blocks first off bytes (n + k)
span_before f g h blocks first off bytes n k a b = record {
  others = λ c w out. b.others c w out ∙ a.others c w out;
  each = λ x low high. b.each x low high ∙ over_before (span_byte f blocks first) (span_byte g blocks first) off bytes n k x (a.each x low high);
}

-- ---- a piece in one page

span_piece : (f g : BlockWords) (blocks : List ℕ) (first off : ℕ) (bytes : List ℕ) (b count k : ℕ) → Apart blocks → 4096 * first ≤ off → off < 4096 * (first + length blocks) → b ≡ slice_index blocks (off / 4096 - first) → off % 4096 + count ≤ 4096 → k ≤ count → PutsBytes f g b (off % 4096) (take count bytes) k → PutsSpan f g blocks first off bytes k
span_piece f g blocks first off bytes b count k apart from to at fits few h = record {
  others = λ c w out. h.others.others c w (λ e. out (subst (Contains blocks) (sym (e ∙ at)) (listed blocks p within)));
  each = λ x low high. each x low high (cases_eq (x / 4096) (off / 4096));
}
  where
    p : ℕ
    p = off / 4096 - first

    within : p < length blocks
    within = omega (arith, from, to)

    was : ℕ → ℕ
    was = span_byte f blocks first

    here : (x : ℕ) → x / 4096 ≡ off / 4096 → block_byte f b (x % 4096) ≡ was x
    here x page = ap (λ c. block_byte f c (x % 4096)) (at ∙ ap (λ q. slice_index blocks (q - first)) (sym page))

    same : (x : ℕ) → x / 4096 ≡ off / 4096 → ((x < off) ⊎ (off ≤ x)) → ((x < off + k) ⊎ (off + k ≤ x)) → over (block_byte f b) (off % 4096) (take count bytes) k (x % 4096) ≡ over was off bytes k x
    same x page (inl low) _ = over_out (block_byte f b) (off % 4096) (take count bytes) k (x % 4096) (inl (omega (arith, page, low))) ∙ here x page ∙ sym (over_out was off bytes k x (inl low))
    same x page (inr low) (inl high) =
        let place : x % 4096 - off % 4096 ≡ x - off = omega (arith, page, low) in
        over_in (block_byte f b) (off % 4096) (take count bytes) k (x % 4096) (omega (arith, page, low)) (omega (arith, page, high)) ∙ ap (slice_index (take count bytes)) place ∙ get_or-take count bytes (x - off) 0 (omega (arith, low, high, few)) ∙ sym (over_in was off bytes k x low high)
    same x page (inr low) (inr past) = over_out (block_byte f b) (off % 4096) (take count bytes) k (x % 4096) (inr (omega (arith, page, past))) ∙ here x page ∙ sym (over_out was off bytes k x (inr past))

    out_of : (x : ℕ) → x / 4096 ≢ off / 4096 → (x < off) ⊎ (off + k ≤ x)
    out_of x away = elim (cases_lt x off) [ inl low ↦ inl low | inr high ↦ inr (omega (arith, high, away, fits, few)) ]

    each : (x : ℕ) → 4096 * first ≤ x → x < 4096 * (first + length blocks) → ((x / 4096 ≡ off / 4096) ⊎ (x / 4096 ≢ off / 4096)) → span_byte g blocks first x ≡ over was off bytes k x
    each x low high (inl page) =
        let here : slice_index blocks (x / 4096 - first) ≡ b = ap (λ q. slice_index blocks (q - first)) page ∙ sym at in
        ap (λ c. block_byte g c (x % 4096)) here ∙ h.each (x % 4096) (omega arith) ∙ same x page (cases_lt x off) (cases_lt x (off + k))
    each x low high (inr away) =
        let other : slice_index blocks (x / 4096 - first) ≢ b = λ e. away (let q = apart (x / 4096 - first) p (omega (arith, low, high)) within (e ∙ at) in omega (arith, q, low, from)) in
        ap (λ w. byte_of w (x % 4096 % 8)) (h.others.others _ (x % 4096 / 8) other) ∙ sym (over_out was off bytes k x (out_of x away))

-- the same of the page of byte `off`, where these are the blocks
pub page_in : (bs : List Block) (first off n : ℕ) → 4096 * first ≤ off → 0 < n → off + n ≤ 4096 * (first + length bs) → off / 4096 - first < length (numbers bs)
page_in bs first off n from some to = let many = as_many bs in omega (arith, from, some, to, many)

pub page_at : (bs : List Block) (first off n : ℕ) (d : Block) → 4096 * first ≤ off → 0 < n → off + n ≤ 4096 * (first + length bs) → (slice_index_or bs (off / 4096 - first) d).0 ≡ slice_index (numbers bs) (off / 4096 - first)
page_at bs first off n d from some to = number_at bs (off / 4096 - first) d (omega (arith, from, some, to))

pub page_piece : (f g : BlockWords) (bs : List Block) (first off : ℕ) (bytes : List ℕ) (d : Block) (count k : ℕ) → Apart (numbers bs) → 4096 * first ≤ off → 0 < length bytes → off + length bytes ≤ 4096 * (first + length bs) → count ≡ min (4096 - off % 4096) (length bytes) → k ≤ length (take count bytes) → PutsBytes f g (slice_index_or bs (off / 4096 - first) d).0 (off % 4096) (take count bytes) k → (k ≤ length bytes) × PutsSpan f g (numbers bs) first off bytes k
page_piece f g bs first off bytes d count k apart from some to is few h =
    let many = as_many bs in
    let long = length-take count bytes in
    (omega (arith, few, long), span_piece f g (numbers bs) first off bytes _ count k apart from (omega (arith, some, to, many)) (page_at bs first off (length bytes) d from some to) (omega (arith, is)) (omega (arith, few, long)) h)

pub page_whole : (f g : BlockWords) (bs : List Block) (first off : ℕ) (bytes : List ℕ) (d : Block) (count : ℕ) → Apart (numbers bs) → 4096 * first ≤ off → 0 < length bytes → off + length bytes ≤ 4096 * (first + length bs) → count ≡ min (4096 - off % 4096) (length bytes) → PutsBytes f g (slice_index_or bs (off / 4096 - first) d).0 (off % 4096) (take count bytes) (length (take count bytes)) → (0 < count) × (count ≤ length bytes) × PutsSpan f g (numbers bs) first off bytes count
page_whole f g bs first off bytes d count apart from some to is h =
    let long : length (take count bytes) ≡ count = length-take-le count bytes (omega (arith, is)) in
    (omega (arith, is, some), omega (arith, is), subst (PutsSpan f g (numbers bs) first off bytes) long (page_piece f g bs first off bytes d count (length (take count bytes)) apart from some to is (omega arith) h).1)

-- ---- below a size

-- these bytes are stored over those of a file that differs below its size in nothing
lead_after : (f g h : BlockWords) (blocks : List ℕ) (first size off : ℕ) (bytes piece : List ℕ) (k : ℕ) → PutsLead f g blocks first size off bytes 0 → PutsSpan g h blocks first off piece k → k ≤ length bytes → ((t : ℕ) → t < k → slice_index piece t ≡ slice_index bytes t) → PutsLead f h blocks first size off bytes (min k (size - off))
lead_after f g h blocks first size off bytes piece k a b few front = record {
  most = omega (arith, few);
  others = λ c w out. b.others c w out ∙ a.others c w out;
  each = λ x low high below. b.each x low high ∙ by x below (a.each x low high below ∙ over_none (span_byte f blocks first) off bytes x) (cases_lt x off) (cases_lt x (off + k));
}
  where
    by : (x : ℕ) → x < size → span_byte g blocks first x ≡ span_byte f blocks first x → ((x < off) ⊎ (off ≤ x)) → ((x < off + k) ⊎ (off + k ≤ x)) → over (span_byte g blocks first) off piece k x ≡ over (span_byte f blocks first) off bytes (min k (size - off)) x
    by x below same (inl low) _ = over_out (span_byte g blocks first) off piece k x (inl low) ∙ same ∙ sym (over_out (span_byte f blocks first) off bytes (min k (size - off)) x (inl low))
    by x below same (inr from) (inl to) = over_in (span_byte g blocks first) off piece k x from to ∙ front (x - off) (omega (arith, from, to)) ∙ sym (over_in (span_byte f blocks first) off bytes (min k (size - off)) x from (omega (arith, to, below)))
    by x below same (inr from) (inr past) = over_out (span_byte g blocks first) off piece k x (inr past) ∙ same ∙ sym (over_out (span_byte f blocks first) off bytes (min k (size - off)) x (inr (omega (arith, past))))

lead_refl : (f : BlockWords) (blocks : List ℕ) (first size off : ℕ) (bytes : List ℕ) → PutsLead f f blocks first size off bytes 0
lead_refl f blocks first size off bytes = record { most = omega arith; others = λ b w out. refl; each = λ x low high below. sym (over_none (span_byte f blocks first) off bytes x) }

-- a span is a leading part of it below the size
pub span_lead : (f g : BlockWords) (blocks : List ℕ) (first size off : ℕ) (bytes : List ℕ) (k : ℕ) → k ≤ length bytes → PutsSpan f g blocks first off bytes k → PutsLead f g blocks first size off bytes (min k (size - off))
span_lead f g blocks first size off bytes k few h = lead_after f f g blocks first size off bytes bytes k (lead_refl f blocks first size off bytes) h few (λ t less. refl)

-- what lies behind the size changes nothing below it
lead_behind : (f g : BlockWords) (blocks : List ℕ) (first size off : ℕ) (bytes : List ℕ) (n k : ℕ) → (n < length bytes → size ≤ off + n) → k ≤ length bytes - n → PutsSpan f g blocks first (off + n) (drop n bytes) k → PutsLead f g blocks first size off bytes 0
lead_behind f g blocks first size off bytes n k behind few h = record {
  most = omega arith;
  others = h.others;
  each = λ x low high below. h.each x low high ∙ over_out (span_byte f blocks first) (off + n) (drop n bytes) k x (out x below (cases_lt n (length bytes)) (cases_lt x (off + n))) ∙ sym (over_none (span_byte f blocks first) off bytes x);
}
  where
    out : (x : ℕ) → x < size → ((n < length bytes) ⊎ (length bytes ≤ n)) → ((x < off + n) ⊎ (off + n ≤ x)) → (x < off + n) ⊎ (off + n + k ≤ x)
    out x below _ (inl low) = inl low
    out x below (inl more) (inr from) = absurd (let size_to = behind more in omega (arith, size_to, below, from))
    out x below (inr all) (inr from) = inr (omega (arith, all, few, from))

-- ---- first what lies behind the words of the size, and then the rest

pub parts_first : (f g : BlockWords) (blocks : List ℕ) (first size off : ℕ) (bytes : List ℕ) (n k : ℕ) → n ≡ min (length bytes) (8 * ((size + 7) / 8) - off) → k ≤ length (take (length bytes - n) (drop n bytes)) → PutsSpan f g blocks first (off + n) (take (length bytes - n) (drop n bytes)) k → PutsLead f g blocks first size off bytes 0
parts_first f g blocks first size off bytes n k is few h =
    let rest = take_rest bytes n in
    let long = ap (λ (xs : List ℕ). length xs) rest ∙ length-drop n bytes in
    lead_behind f g blocks first size off bytes n k (λ more. omega (arith, is, more)) (omega (arith, few, long)) (subst (λ xs. PutsSpan f g blocks first (off + n) xs k) rest h)

pub parts_then : (f g h : BlockWords) (blocks : List ℕ) (first size off : ℕ) (bytes : List ℕ) (n m k : ℕ) → n ≡ min (length bytes) (8 * ((size + 7) / 8) - off) → m ≤ length (take (length bytes - n) (drop n bytes)) → PutsSpan f g blocks first (off + n) (take (length bytes - n) (drop n bytes)) m → k ≤ length (take n bytes) → PutsSpan g h blocks first off (take n bytes) k → PutsLead f h blocks first size off bytes (min k (size - off))
parts_then f g h blocks first size off bytes n m k is some a few b =
    let long = length-take n bytes in
    lead_after f g h blocks first size off bytes (take n bytes) k (parts_first f g blocks first size off bytes n m is some a) b (omega (arith, few, long)) (λ t less. get_or-take n bytes t 0 (omega (arith, few, long, less)))

pub parts_whole : (f g h : BlockWords) (blocks : List ℕ) (first off : ℕ) (bytes : List ℕ) (n : ℕ) → n ≤ length bytes → PutsSpan f g blocks first (off + n) (take (length bytes - n) (drop n bytes)) (length (take (length bytes - n) (drop n bytes))) → PutsSpan g h blocks first off (take n bytes) (length (take n bytes)) → PutsSpan f h blocks first off bytes (length bytes)
parts_whole f g h blocks first off bytes n within a b =
    let all : n + length (drop n bytes) ≡ length bytes = (let long = length-drop n bytes in omega (arith, long, within)) in
    subst (PutsSpan f h blocks first off bytes) all (span_before f g h blocks first off bytes n (length (drop n bytes)) (subst (λ xs. PutsSpan f g blocks first (off + n) xs (length xs)) (take_rest bytes n) a) (subst (PutsSpan g h blocks first off (take n bytes)) (length-take-le n bytes within) b))

-- ---- names

same_named : (i len p : ℕ) (own : Option PageName) (given : PageName) → NamedAs i len p own → given.file.0 ≡ i → given.index ≡ p → SamePage own (Some given)
same_named i len p own given (o, is, h) file index = subst (λ n. SamePage n (Some given)) (sym is) (ap (λ (n : ℕ). record { 0 = n }) (h.file ∙ sym file), h.index ∙ sym index)

-- a block of the run may be asked for under the name of its page
pub span_can : (y : Seen) (blocks : List ℕ) (first i len b p : ℕ) (given : PageName) → SpanNamed blocks first i len y → 1 ≤ i → i ≤ 32768 → first + length blocks ≤ 1048 → first ≤ p → p - first < length blocks → b ≡ slice_index blocks (p - first) → given.file.0 ≡ i → given.index ≡ p → given.size ≤ 4096 → CanName y b (Some given)
span_can y blocks first i len b p given h low high few from within at file index small = record {
  in_range = record { file_from = omega (arith, file, low); file_to = omega (arith, file, high); index = omega (arith, index, few, within); size = small };
  agrees = λ on. same_named i len p (y.names b) given (subst (λ c. NamedAs i len p (y.names c)) (sym at) (subst (λ q. NamedAs i len q (y.names (slice_index blocks (p - first)))) page (h.each (p - first) within (subst (λ c. y.cached c ≡ true) at on)))) file index;
}
  where
    page : first + (p - first) ≡ p
    page = omega (arith, from)

-- and it bears one as wide afterwards
span_stored : (x y : Seen) (blocks : List ℕ) (first i len t : ℕ) (given : PageName) → SpanNamed blocks first i len x → Apart blocks → t < length blocks → NamesPage i len (first + t) given → CachesStored x y (slice_index blocks t) (Some given) → SpanNamed blocks first i len y
span_stored x y blocks first i len t given h apart within wide caches = record { each = λ s few on. by s few on (cases_eq s t) }
  where
    b : ℕ
    b = slice_index blocks t

    now : ((x.cached b ≡ true) × (y.names b ≡ x.names b)) ⊎ (y.names b ≡ Some given) ⊎ ((x.cached b ≡ true) × (y.names b ≡ widened (x.names b) (Some given))) → NamedAs i len (first + t) (y.names b)
    now (inl kept) = subst (NamedAs i len (first + t)) (sym kept.1) (h.each t within kept.0)
    now (inr (inl is)) = (given, is, wide)
    now (inr (inr wider)) = subst (NamedAs i len (first + t)) (sym wider.1) (widened_as i len (first + t) (x.names b) given (h.each t within wider.0))

    by : (s : ℕ) → s < length blocks → y.cached (slice_index blocks s) ≡ true → ((s ≡ t) ⊎ (s ≢ t)) → NamedAs i len (first + s) (y.names (slice_index blocks s))
    by s few on (inl here) = subst (λ q. NamedAs i len (first + q) (y.names (slice_index blocks q))) (sym here) (now (caches.named (subst (λ q. y.cached (slice_index blocks q) ≡ true) here on)))
    by s few on (inr away) = let was = caches.others _ (λ e. away (apart s t few within e)) on in subst (NamedAs i len (first + s)) (sym was.1) (h.each s few was.0)

pub page_named : (x y : Seen) (bs : List Block) (first i len off n : ℕ) (d : Block) (given : PageName) → SpanNamed (numbers bs) first i len x → Apart (numbers bs) → 4096 * first ≤ off → 0 < n → off + n ≤ 4096 * (first + length bs) → given.file.0 ≡ i → given.index ≡ off / 4096 → given.size ≡ min 4096 (len - 4096 * (off / 4096)) → CachesStored x y (slice_index_or bs (off / 4096 - first) d).0 (Some given) → SpanNamed (numbers bs) first i len y
page_named x y bs first i len off n d given h apart from some to file index wide caches =
    let page : off / 4096 ≡ first + (off / 4096 - first) = omega (arith, from) in
    span_stored x y (numbers bs) first i len (off / 4096 - first) given h apart (page_in bs first off n from some to) (record { file = file; index = index ∙ page; size_from = omega (arith, wide, page) }) (subst (λ b. CachesStored x y b (Some given)) (page_at bs first off n d from some to) caches)

-- ---- a call on one block of the run

pub beside_stored : (blocks : List ℕ) (b t : ℕ) (name : Option PageName) (x : Seen) (k : Kept) (y : Seen) (j : Kept) → t < length blocks → b ≡ slice_index blocks t → y.count ≡ x.count → SameBut b x.words y.words → SameBut b k.standing j.standing → Firm k j → CachesStored x y b name → Beside (Contains blocks) x k y j
beside_stored blocks b t name x k y j within at count words standing firm caches = record {
  count = count;
  words = same_outside_one (Contains blocks) b _ _ inside words;
  standing = same_outside_one (Contains blocks) b _ _ inside standing;
  firm = firm_outside_all (Contains blocks) k j firm;
  caches = caches_by_stored _ x y b name caches inside (λ on. inside);
}
  where
    inside : Contains blocks b
    inside = subst (Contains blocks) (sym at) (listed blocks t within)

-- ---- a count that a fault tells

fault_count : {T : Type 0} → Result T BytesFail → ℕ
fault_count (Err (Fault n)) = n
fault_count _ = 0

pub fault_told : {T : Type 0} (a b : ℕ) → IsErrOf {T = T} (Err (Fault a)) (Fault b) → a ≡ b
unfolding fault_count
fault_told a b e = ap fault_count e
