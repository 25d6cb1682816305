-- A page of a file read, and its bytes.
use Rattle.file_pages.proofs.Common.{◌≡◌, ◌≢◌, ℕ, zero, suc, ◌+◌, ◌-◌, ◌*◌, ◌/◌, ◌%◌, ◌<◌, ◌≤◌, ◌⊎◌, ◌++◌, true, List, map, take, drop, min, sym, ap, subst, ◌∙◌, arith, inl, inr, length, slice_index, None, Some, Result, OnOk, range_with_len, cases_eq, cases_lt, append_assoc, get_or-drop, get_or-take, take_all, get_or-map-range_with_len, length-map-range_with_len, take-map-range_with_len, Block, PageName, numbers, VolumeShape, caches_by_one, BlockWords, Caches, Looks, Seen, HasShape, reserved, byte_in, held, AtPage, AtTable, Placed, placed_at, Layout, volume_layout, Owns, numbered_of, table_page, AllNamed, NamesPage, IsMapped, IsNumbered}
use Rattle.std.specs.Prelude.{slice_index_or}
use Rattle.rio_base.proofs.BlockRules.{shape_beside}
use Rattle.rio_base.specs.Blocks.{IsRun}
use Rattle.rio_model.specs.Held.{byte_of, bytes_in}
use Rattle.node_pages.specs.LookingUp.{LooksUp, TablesUnnamed, page_blocks}
use Rattle.file_pages.specs.PageBytes.{block_byte}
use Rattle.node_pages.specs.WordBytes.{list_byte}
use Rattle.node_pages.proofs.ByteRuns.{same_bytes}
use Rattle.node_pages.proofs.Listed.{as_many, number_at}
use Rattle.file_pages.proofs.Extended.{byte_at_block, split_map}

-- a page read under its name: nothing reads otherwise, and it bears that name
pub looked_page : (shape : VolumeShape) (x y : Seen) (i p b : ℕ) (given : PageName) → HasShape shape x → IsMapped shape x.words → AllNamed (volume_layout shape x.words) x → Owns (volume_layout shape x.words) i (AtPage p) → b ≡ (placed_at x.words i).block (AtPage p) → (placed_at x.words i).kind ≡ 2 → NamesPage i (placed_at x.words i).size p given → Looks x y → Caches x y b (Some given) → LooksUp shape x y
looked_page shape x y i p b given h mapped named own at kind wide looks caches = record {
  looks = looks;
  still = record {
    has_shape = shape_beside shape x y b (Some given) h looks.count (subst (λ c. reserved shape ≤ c) (sym at) (mapped.laid.numbers.each i own.ino (AtPage p) own.slot).0) caches;
    numbered = subst (IsNumbered shape) (sym looks.words) (numbered_of shape x.words mapped);
    unnamed = subst (λ f. TablesUnnamed (volume_layout shape f) y) (sym looks.words) (record { each = λ n t owns on. by n t owns on (cases_eq ((l.node n).block (AtTable t)) b) });
  };
  caches = caches_by_one _ x y b (Some given) caches (inr (i, AtPage p, own, sym at, ((λ dir. omega (arith, kind, dir)), wide)));
}
  where
    l : Layout
    l = volume_layout shape x.words

    by : (n t : ℕ) → Owns l n (AtTable t) → y.cached ((l.node n).block (AtTable t)) ≡ true → (((l.node n).block (AtTable t) ≡ b) ⊎ ((l.node n).block (AtTable t) ≢ b)) → y.names ((l.node n).block (AtTable t)) ≡ None
    by n t owns on (inl here) = absurd (table_page t p (mapped.laid.once.each n i (AtTable t) (AtPage p) owns own (here ∙ at)).1)
    by n t owns on (inr away) = let was = caches.others _ away on in was.1 ∙ named.each n owns.ino (AtTable t) owns.slot was.0

-- bytes of a part of the words are bytes of the words
pub part_bytes : (words : List ℕ) (first k a n b : ℕ) → b ≡ 8 * first + a → a + n ≤ 8 * k → map (list_byte (take k (drop first words))) (range_with_len a n) ≡ map (list_byte words) (range_with_len b n)
part_bytes words first k a n b at fits = same_bytes (list_byte (take k (drop first words))) (list_byte words) n a b (λ j few. each j few)
  where
    each : (j : ℕ) → j < n → list_byte (take k (drop first words)) (a + j) ≡ list_byte words (b + j)
    each j few =
        let word : first + (a + j) / 8 ≡ (b + j) / 8 = omega (arith, at) in
        let rest : (a + j) % 8 ≡ (b + j) % 8 = omega (arith, at) in
        ap (λ w. byte_of w ((a + j) % 8)) (get_or-take k (drop first words) ((a + j) / 8) 0 (omega (arith, few, fits)) ∙ get_or-drop first words ((a + j) / 8) 0)
        ∙ (λ q. byte_of (slice_index words (word q)) (rest q))

-- bytes after those that are there
pub bytes_next : (F : ℕ → ℕ) (off at to a n : ℕ) (old xs ys : List ℕ) → off ≤ at → at ≤ to → xs ≡ old ++ map F (range_with_len off (at - off)) → ys ≡ xs ++ map F (range_with_len a n) → a ≡ at → n ≡ to - at → ys ≡ old ++ map F (range_with_len off (to - off))
bytes_next F off at to a n old xs ys low high so more place many =
    let from : a ≡ off + (at - off) = omega (arith, place, low) in
    let all : (at - off) + n ≡ to - off = omega (arith, many, low, high) in
    more ∙ ap (λ zs. zs ++ map F (range_with_len a n)) so ∙ append_assoc old (map F (range_with_len off (at - off))) (map F (range_with_len a n))
    ∙ ap (λ zs. old ++ zs) ((λ q. map F (range_with_len off (at - off)) ++ map F (range_with_len (from q) n)) ∙ split_map F n (at - off) off ∙ ap (λ c. map F (range_with_len off c)) all)

-- ---- bytes of a page

pub run_block : (f g : BlockWords) (b from n : ℕ) (words : List ℕ) → f ≡ g → IsRun f b 0 512 words → from + n ≤ 4096 → map (list_byte words) (range_with_len from n) ≡ map (block_byte g b) (range_with_len from n)
run_block f g b from n words same run small = same_bytes (list_byte words) (block_byte g b) n from from (λ k few. each k few)
  where
    each : (k : ℕ) → k < n → list_byte words (from + k) ≡ block_byte g b (from + k)
    each k few = ap (λ w. byte_of w ((from + k) % 8)) (run.each ((from + k) / 8) (omega (arith, few, small)) ∙ (let z : 0 + (from + k) / 8 ≡ (from + k) / 8 = omega arith in ap (f b) z) ∙ ap (λ (h : BlockWords). h b ((from + k) / 8)) same)

pub page_bytes : {T E : Type 0} (f : BlockWords) (n : Placed) (b p from to : ℕ) (old xs : List ℕ) (r : Result T E) → 0 < n.kind → to ≤ 4096 → 4096 * p + to ≤ n.size → b ≡ n.block (AtPage p) → OnOk r (xs ≡ old ++ map (block_byte f b) (range_with_len from (to - from))) → OnOk r (xs ≡ old ++ bytes_in (held f n).word (4096 * p + from) (to - from))
page_bytes f n b p from to old xs r used small within at = subst (λ ys. OnOk r (xs ≡ old ++ ys)) (same_bytes (block_byte f b) (byte_in (held f n).word) (to - from) from (4096 * p + from) (λ k few. each k few))
  where
    each : (k : ℕ) → k < to - from → block_byte f b (from + k) ≡ byte_in (held f n).word (4096 * p + from + k)
    each k few =
        let x = 4096 * p + from + k in
        let page : p ≡ x / 4096 = omega (arith, few, small) in
        let rest : from + k ≡ x % 4096 = omega (arith, few, small) in
        ap (λ c. block_byte f c (from + k)) at
        ∙ (λ q. block_byte f (n.block (AtPage (page q))) (rest q))
        ∙ sym (byte_at_block f n x used (omega (arith, few, within)))

-- ---- all bytes

drop_map : (F : ℕ → ℕ) (k n a : ℕ) → drop k (map F (range_with_len a n)) ≡ map F (range_with_len (a + k) (n - k))
drop_map F zero n a = let at : a ≡ a + 0 = omega arith in let many : n ≡ n - 0 = omega arith in (λ q. map F (range_with_len (at q) (many q)))
drop_map F (suc k) zero a = let none : 0 ≡ 0 - suc k = omega arith in ap (λ n. map F (range_with_len (a + suc k) n)) none
drop_map F (suc k) (suc n) a = drop_map F k n (a + 1) ∙ (let at : a + 1 + k ≡ a + suc k = omega arith in let many : n - k ≡ suc n - suc k = omega arith in (λ q. map F (range_with_len (at q) (many q))))

pub read_value : (F : ℕ → ℕ) (size off len end : ℕ) → end ≡ min (off + len) size → map F (range_with_len off (end - off)) ≡ take len (drop off (map F (range_with_len 0 size)))
read_value F size off len end is = sym (ap (take len) (drop_map F off size 0 ∙ (let at : 0 + off ≡ off = omega arith in ap (λ a. map F (range_with_len a (size - off))) at)) ∙ by (cases_lt (size - off) len))
  where
    by : ((size - off < len) ⊎ (len ≤ size - off)) → take len (map F (range_with_len off (size - off))) ≡ map F (range_with_len off (end - off))
    by (inl more) = take_all len (map F (range_with_len off (size - off))) (omega (arith, length-map-range_with_len F off (size - off), more)) ∙ (let many : size - off ≡ end - off = omega (arith, is, more) in ap (λ n. map F (range_with_len off n)) many)
    by (inr fits) = take-map-range_with_len F off (size - off) len fits ∙ (let many : len ≡ end - off = omega (arith, is, fits) in ap (λ n. map F (range_with_len off n)) many)

-- ---- the blocks of the pages

pub many_blocks : (bs : List Block) (n : Placed) (first count : ℕ) → numbers bs ≡ page_blocks n first count → length bs ≡ count
many_blocks bs n first count is = sym (as_many bs) ∙ ap length is ∙ length-map-range_with_len (λ q. n.block (AtPage q)) first count

pub page_at : (f g : BlockWords) (i : ℕ) (bs : List Block) (first count t p : ℕ) (d : Block) → g ≡ f → numbers bs ≡ page_blocks (placed_at f i) first count → first + t ≡ p → t < length bs → (slice_index_or bs t d).0 ≡ (placed_at g i).block (AtPage p)
page_at f g i bs first count t p d same is at few =
    let many = many_blocks bs (placed_at f i) first count is in
    number_at bs t d few ∙ ap (λ xs. slice_index xs t) is ∙ get_or-map-range_with_len (λ q. (placed_at f i).block (AtPage q)) first count t p 0 (omega (arith, few, many)) at ∙ (λ q. (placed_at (sym same q) i).block (AtPage p))
