-- The bytes of a file in whose pages a write past its end is stored.
use Rattle.file_pages.proofs.Common.{◌≡◌, ℕ, ◌+◌, ◌-◌, ◌*◌, ◌/◌, ◌%◌, ◌<◌, ◌≤◌, ◌⊎◌, ◌++◌, List, [], ◌∷◌, length, replicate, take, drop, sym, ap, ◌∙◌, arith, inl, inr, Contains, cases_lt, append_assoc, take_all, VolumeShape, BlockWords, Seen, Kept, IsLead, put_at, resized, written, byte_in, held, held_bytes, word_in, AtPage, Placed, HasSlot, placed_at, page_page, pages, NodeFits}
use Rattle.std.proofs.lemmas.List.{drop_all, length-append, length-replicate, replicate-append-replicate, take-append-le}
use Rattle.rio_model.specs.Held.{byte_of}
use Rattle.file_pages.specs.Files.{file_bytes}
use Rattle.node_pages.specs.LookingUp.{page_blocks}
use Rattle.file_pages.specs.PageBytes.{block_byte}
use Rattle.node_pages.specs.WordBytes.{over}
use Rattle.file_pages.specs.Preparing.{Prepared}
use Rattle.file_pages.specs.Spans.{PutsLead, PutsSpan, span_byte}
use Rattle.node_pages.specs.declared.changes.SizeChange.{SizeChange}
use Rattle.node_pages.proofs.ByteRuns.{over_out}
use Rattle.file_pages.proofs.Extended.{byte_at_block}
use Rattle.file_pages.proofs.ExtensionStored.{GrownFrom, span_at, span_long, span_page}
use Rattle.file_pages.proofs.FileBytes.{bytes_put, over_same}
use Rattle.file_pages.proofs.Left.{byte_same}
use Rattle.file_pages.proofs.Resized.{file_size}

-- bytes stored over a run of a node's pages, as bytes of the node
span_bytes : (shape : VolumeShape) (f g : BlockWords) (m : Placed) (first count limit off k : ℕ) (bytes : List ℕ) → 0 < m.kind → NodeFits shape m → first + count ≡ pages m.size → limit ≤ m.size → 4096 * first ≤ off → ((b w : ℕ) → (Contains (page_blocks m first count) b → ⊥) → g b w ≡ f b w) → ((x : ℕ) → 4096 * first ≤ x → x < 4096 * (first + length (page_blocks m first count)) → x < limit → span_byte g (page_blocks m first count) first x ≡ over (span_byte f (page_blocks m first count) first) off bytes k x) → (x : ℕ) → x < limit → byte_in (word_in g m) x ≡ over (byte_in (word_in f m)) off bytes k x
span_bytes shape f g m first count limit off k bytes used fits whole in_size start others each x low = by (cases_lt (x / 4096) first)
  where
    here : (q : BlockWords) → byte_in (word_in q m) x ≡ block_byte q (m.block (AtPage (x / 4096))) (x % 4096)
    here q = byte_at_block q m x used (omega (arith, low, in_size))

    page : HasSlot m (AtPage (x / 4096))
    page = record { used = used; within = omega (arith, low, in_size) }

    out : x / 4096 < first → Contains (page_blocks m first count) (m.block (AtPage (x / 4096))) → ⊥
    out before on =
        let at = span_page m first count (m.block (AtPage (x / 4096))) on in
        let one = page_page _ _ (fits.apart (AtPage (first + at.0)) (AtPage (x / 4096)) (record { used = used; within = (let less = at.1 in omega (arith, less, whole)) }) page at.2) in
        omega (arith, one, before)

    place : (q : BlockWords) → first ≤ x / 4096 → span_byte q (page_blocks m first count) first x ≡ block_byte q (m.block (AtPage (x / 4096))) (x % 4096)
    place q from =
        let at : first + (x / 4096 - first) ≡ x / 4096 = omega (arith, from) in
        ap (λ b. block_byte q b (x % 4096)) (span_at m first count (x / 4096 - first) (omega (arith, from, low, in_size, whole)) ∙ ap (λ p. m.block (AtPage p)) at)

    by : ((x / 4096 < first) ⊎ (first ≤ x / 4096)) → byte_in (word_in g m) x ≡ over (byte_in (word_in f m)) off bytes k x
    by (inl before) = here g ∙ ap (λ w. byte_of w (x % 4096 % 8)) (others (m.block (AtPage (x / 4096))) (x % 4096 / 8) (out before)) ∙ sym (here f) ∙ sym (over_out (byte_in (word_in f m)) off bytes k x (inl (omega (arith, before, start))))
    by (inr from) =
        here g ∙ sym (place g from) ∙ each x (omega (arith, from)) (let long = span_long m first count in omega (arith, long, low, in_size, whole)) low
        ∙ over_same (span_byte f (page_blocks m first count) first) (byte_in (word_in f m)) off bytes k x (place f from ∙ sym (here f))

-- ---- lists

-- bytes over the end of a list that was made as long as they reach
put_resized : (old : List ℕ) (off : ℕ) (bytes : List ℕ) → 0 < length bytes → length old ≤ off + length bytes → put_at (resized old (off + length bytes)) off (take (length bytes) bytes) ≡ written old off bytes
put_resized old off [] some less = absurd (omega (arith, some))
put_resized old off (b ∷ rest) some less =
    ap (put_at long off) (take_all (length all) all (omega arith))
    ∙ ap (λ xs. xs ++ all ++ drop len long) (front (cases_lt off (length old)))
    ∙ ap (λ xs. take off base ++ all ++ xs) (drop_all len long whole ∙ sym (drop_all len base short))
  where
    all : List ℕ
    all = b ∷ rest

    len : ℕ
    len = off + length all

    long : List ℕ
    long = resized old len

    base : List ℕ
    base = old ++ replicate (off - length old) 0

    is : long ≡ old ++ replicate (len - length old) 0
    is = ap (λ xs. xs ++ replicate (len - length old) 0) (take_all len old less)

    whole : length long ≤ len
    whole = let e = ap length is in let sum = length-append old (replicate (len - length old) 0) in let n = length-replicate {A = ℕ} (len - length old) 0 in omega (arith, e, sum, n, less)

    size : length base ≡ length old + (off - length old)
    size = let sum = length-append old (replicate (off - length old) 0) in let n = length-replicate {A = ℕ} (off - length old) 0 in omega (arith, sum, n)

    short : length base ≤ len
    short = omega (arith, size, less)

    front : ((off < length old) ⊎ (length old ≤ off)) → take off long ≡ take off base
    front (inl under) = ap (take off) is ∙ take-append-le off old (replicate (len - length old) 0) (omega (arith, under)) ∙ sym (take-append-le off old (replicate (off - length old) 0) (omega (arith, under)))
    front (inr past) =
        let sum : (off - length old) + length all ≡ len - length old = omega (arith, past) in
        ap (take off) (is ∙ ap (λ n. old ++ replicate n 0) (sym sum) ∙ ap (λ xs. old ++ xs) (sym (replicate-append-replicate (off - length old) (length all) 0)) ∙ sym (append_assoc old (replicate (off - length old) 0) (replicate (length all) 0)))
        ∙ take-append-le off base (replicate (length all) 0) (omega (arith, size, past))

-- ---- the bytes of the file

-- those below its size have the first bytes of the write
pub lead_stored : (shape : VolumeShape) (f : BlockWords) (z : Seen) (l : Kept) (g : BlockWords) (i : ℕ) (m : Placed) (c : SizeChange) (first count off k : ℕ) (bytes : List ℕ) → Prepared shape f z l i m c → GrownFrom shape f i m → first + count ≡ pages m.size → 4096 * first ≤ off → held_bytes (held z.words (placed_at f i)) ≡ file_bytes shape f i → PutsLead z.words g (page_blocks m first count) first (placed_at f i).size off bytes k → IsLead (file_bytes shape f i) off bytes k (held_bytes (held g (placed_at f i)))
lead_stored shape f z l g i m c first count off k bytes h from whole start old puts = record {
  most = (let long = file_size shape f i h.ino h.was_file in let most = puts.most in omega (arith, long, most));
  is = bytes_put z.words g n off bytes k used_n puts.most each ∙ ap (λ xs. put_at xs off (take k bytes)) old;
}
  where
    n : Placed
    n = placed_at f i

    used_n : 0 < n.kind
    used_n = let kind = h.was_file in omega (arith, kind)

    used_m : 0 < m.kind
    used_m = let kind = h.file in omega (arith, kind)

    both : (q : BlockWords) (x : ℕ) → x < n.size → byte_in (word_in q m) x ≡ byte_in (word_in q n) x
    both q x low = byte_same q n m x used_n used_m (let grows = from.grows in omega (arith, low, grows)) low (from.old (x / 8 / 512) (omega (arith, low)))

    each : (x : ℕ) → x < n.size → byte_in (word_in g n) x ≡ over (byte_in (word_in z.words n)) off bytes k x
    each x low =
        sym (both g x low)
        ∙ span_bytes shape z.words g m first count n.size off k bytes used_m h.turns.new_fits whole from.grows start puts.others puts.each x low
        ∙ over_same (byte_in (word_in z.words m)) (byte_in (word_in z.words n)) off bytes k x (both z.words x low)

-- and where all bytes are stored, it has all of them
pub written_stored : (shape : VolumeShape) (f : BlockWords) (z : Seen) (l : Kept) (g : BlockWords) (i : ℕ) (m : Placed) (c : SizeChange) (first count off : ℕ) (bytes : List ℕ) → Prepared shape f z l i m c → GrownFrom shape f i m → first + count ≡ pages m.size → 4096 * first ≤ off → 0 < length bytes → m.size ≡ off + length bytes → held_bytes (held z.words m) ≡ resized (file_bytes shape f i) m.size → PutsSpan z.words g (page_blocks m first count) first off bytes (length bytes) → held_bytes (held g m) ≡ written (file_bytes shape f i) off bytes
written_stored shape f z l g i m c first count off bytes h from whole start some size new puts =
    bytes_put z.words g m off bytes (length bytes) used (omega (arith, size)) (λ x low. span_bytes shape z.words g m first count m.size off (length bytes) bytes used h.turns.new_fits whole (omega arith) start puts.others (λ y lo hi in_size. puts.each y lo hi) x low)
    ∙ ap (λ xs. put_at xs off (take (length bytes) bytes)) (new ∙ ap (resized (file_bytes shape f i)) size)
    ∙ put_resized (file_bytes shape f i) off bytes some (let long = file_size shape f i h.ino h.was_file in let grows = from.grows in omega (arith, long, grows, size))
  where
    used : 0 < m.kind
    used = let kind = h.file in omega (arith, kind)
