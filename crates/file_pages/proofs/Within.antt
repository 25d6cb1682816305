-- Bytes written over pages of a file: they are its bytes, and the volume stays in order.
use Rattle.file_pages.proofs.Common.{◌≡◌, ℕ, ◌+◌, ◌-◌, ◌*◌, ◌/◌, ◌%◌, ◌<◌, ◌≤◌, ◌⊎◌, true, false, List, length, take, refl, sym, ap, subst, ◌∙◌, arith, inl, inr, slice_index, Result, Err, IsErrOf, Contains, cases_lt, get_or-map-range_with_len, length-map-range_with_len, Block, VolumeShape, BlockWords, Health, Seen, IsIno, numbers, reserved, Below, Firm, Kept, Passes, Settled, IsLead, put_at, written, byte_in, word_in, Slot, AtPage, AtTable, Placed, HasSlot, placed_at, Layout, volume_layout, Owns, IsFree, AgreesBeside, SameLayout, lays_same, lays_self, page_page, table_page, pages, Bears, NamedNode, Ready, IsLaid, IsMapped, lays_beside, mapped_beside}
use Rattle.std.specs.Int.{div_ceil}
use Rattle.rio_model.specs.Held.{byte_of}
use Rattle.node_pages.specs.Changes.{Apart}
use Rattle.file_pages.specs.Failures.{write_of_bytes}
use Rattle.file_pages.specs.Files.{FaultsAfter, HasSpaceFor, SetsBoth, StopsAs, file_bytes}
use Rattle.node_pages.specs.LookingUp.{LooksUp, page_blocks}
use Rattle.node_pages.proofs.OrderRules.{firm_layout, firm_on, leaves_looked, ready_left, ready_order}
use Rattle.rio_model.proofs.NamedRules.{named_layout}
use Rattle.file_pages.specs.PageBytes.{block_byte}
use Rattle.node_pages.specs.WordBytes.{over}
use Rattle.file_pages.specs.Spans.{PutsSpan, SpanNamed, span_byte}
use Rattle.node_pages.specs.Staging.{Beside}
use Rattle.file_pages.specs.Storing.{StoresPages}
use Rattle.file_pages.specs.Writing.{WriteLeaves, WriteStops}
use Rattle.file_pages.specs.declared.failures.BytesFail.{BytesFail}
use Rattle.file_pages.specs.declared.failures.BytesFail.TheVariants.{Fault as BytesFault, Stopped as BytesStopped}
use Rattle.node_pages.specs.declared.failures.WriteFail.{WriteFail}
use Rattle.file_pages.proofs.Extended.{byte_at_block}
use Rattle.node_pages.proofs.ByteRuns.{over_out}
use Rattle.file_pages.proofs.FileBytes.{bytes_put, over_same, put_written}
use Rattle.file_pages.proofs.GrowEnds.{stored_both, stored_stops}
use Rattle.file_pages.proofs.Left.{file_node}
use Rattle.node_pages.proofs.Listed.{as_many, place_of}
use Rattle.file_pages.proofs.Resized.{file_size, space_less}
use Rattle.file_pages.proofs.Stored.{as_bears, bears_as, stores_after}

-- these blocks are the pages of node i from page `first` on
pub record IsPages (l : Layout) (i first : ℕ) (blocks : List ℕ) : Type 0 where
  pub owns : (t : ℕ) → t < length blocks → Owns l i (AtPage (first + t))
  pub is : (t : ℕ) → t < length blocks → slice_index blocks t ≡ (l.node i).block (AtPage (first + t))

pub pages_of : (l : Layout) (i first count : ℕ) (blocks : List ℕ) → IsIno l.shape i → 0 < (l.node i).kind → first + count ≤ pages (l.node i).size → blocks ≡ page_blocks (l.node i) first count → IsPages l i first blocks × (length blocks ≡ count)
pages_of l i first count blocks ino used within same = subst (λ bs. IsPages l i first bs × (length bs ≡ count)) (sym same) (
  record {
    owns = λ t few. record { ino = ino; slot = record { used = used; within = omega (arith, few, long, within) } };
    is = λ t few. get_or-map-range_with_len (λ p. (l.node i).block (AtPage p)) first count t (first + t) 0 (omega (arith, few, long)) refl;
  },
  long,
)
  where
    long : length (page_blocks (l.node i) first count) ≡ count
    long = length-map-range_with_len (λ p. (l.node i).block (AtPage p)) first count

-- those of as many pages as there are blocks, after a look-up
pub looked_blocks : (f g : BlockWords) (i first count : ℕ) (blocks : List Block) → g ≡ f → numbers blocks ≡ page_blocks (placed_at f i) first count → numbers blocks ≡ page_blocks (placed_at g i) first (length blocks)
looked_blocks f g i first count blocks same is =
    is ∙ ap (λ n. page_blocks (placed_at f i) first n) (sym long) ∙ ap (λ (h : BlockWords). page_blocks (placed_at h i) first (length blocks)) (sym same)
  where
    long : length blocks ≡ count
    long = sym (as_many blocks) ∙ ap (λ (xs : List ℕ). length xs) is ∙ length-map-range_with_len (λ p. (placed_at f i).block (AtPage p)) first count

-- they reach as far as bytes within the size
pub pages_over : (l : Layout) (i off len size end : ℕ) (blocks : List ℕ) → IsIno l.shape i → (l.node i).kind ≡ 2 → size ≡ (l.node i).size → 0 < len → off + len ≤ size → end ≡ div_ceil (off + len) 4096 → blocks ≡ page_blocks (l.node i) (off / 4096) (end - off / 4096) → IsPages l i (off / 4096) blocks × (off + len ≤ 4096 * (off / 4096 + length blocks)) × (off / 4096 + length blocks ≤ pages size)
pages_over l i off len size end blocks ino file is some within ends same =
    let all : IsPages l i (off / 4096) blocks × (length blocks ≡ end - off / 4096) = pages_of l i (off / 4096) (end - off / 4096) blocks ino (omega (arith, file)) (omega (arith, is, some, within, ends)) same in
    let long = all.1 in
    (all.0, omega (arith, long, ends), omega (arith, long, ends, some, within))

-- one of them is one page
pub page_at : (l : Layout) (i first : ℕ) (blocks : List ℕ) (b : ℕ) → IsPages l i first blocks → Contains blocks b → (t : ℕ) × (t < length blocks) × (slice_index blocks t ≡ b) × Owns l i (AtPage (first + t)) × ((l.node i).block (AtPage (first + t)) ≡ b)
page_at l i first blocks b h on = let at = place_of blocks b on in (at.0, at.1, at.2, h.owns at.0 at.1, sym (h.is at.0 at.1) ∙ at.2)

pub pages_apart : (l : Layout) (i first : ℕ) (blocks : List ℕ) → IsLaid l → IsPages l i first blocks → Apart blocks
pages_apart l i first blocks laid h s t few_s few_t same =
    let one = page_page _ _ (laid.once.each i i (AtPage (first + s)) (AtPage (first + t)) (h.owns s few_s) (h.owns t few_t) (sym (h.is s few_s) ∙ same ∙ h.is t few_t)).1 in omega (arith, one)

pub pages_places : (l : Layout) (i first : ℕ) (blocks : List ℕ) (count : ℕ) → IsLaid l → IsPages l i first blocks → count ≡ l.shape.blocks → (t : ℕ) → t < length blocks → slice_index blocks t < count
pages_places l i first blocks count laid h is t few = let at = h.is t few in let to = (laid.numbers.each i (h.owns t few).ino (AtPage (first + t)) (h.owns t few).slot).1 in omega (arith, at, to, is)

-- the names of those that are cached
pub pages_named : (m : Layout) (y : Seen) (i first : ℕ) (blocks : List ℕ) → NamedNode i (m.node i) y → (m.node i).kind ≡ 2 → IsPages m i first blocks → SpanNamed blocks first i (m.node i).size y
pages_named m y i first blocks named kind h = record {
  each = λ t few on. as_bears i (m.node i) (first + t) _ kind (subst (λ b. Bears i (m.node i) (AtPage (first + t)) (y.names b)) (sym (h.is t few)) (named (AtPage (first + t)) (h.owns t few).slot (subst (λ b. y.cached b ≡ true) (h.is t few) on)));
}

-- ---- pages stored to

pub stores_span : (shape : VolumeShape) (y : Seen) (j : Kept) (z : Seen) (l : Kept) (i first : ℕ) (blocks : List ℕ) → Ready shape y j → IsIno shape i → (placed_at y.words i).kind ≡ 2 → IsPages (volume_layout shape y.words) i first blocks → Beside (Contains blocks) y j z l → Firm j l → SpanNamed blocks first i (placed_at y.words i).size z → l.updating ≡ false → StoresPages shape y j z l i
stores_span shape y j z l i first blocks h ino kind its b firm names idle = record {
  beside = beside;
  ready = ready_order shape z l (record {
    has_shape = record {
      sizes = h.order.has_shape.sizes;
      count = b.count ∙ h.order.has_shape.count;
      unnamed = λ c low on. let was = kept c (low_out c low) on in was.1 ∙ h.order.has_shape.unnamed c low was.0;
    };
    mapped = mapped_beside shape i y.words z.words h.order.mapped beside;
    named = named_layout m z.words z layouts (record { each = λ n jno s has on. by n jno s has (b.caches.each _ on) on });
    firm = firm_layout m z.words l layouts (firm_on m j l h.order.firm firm);
  }) idle;
  named = λ s has on. by i ino s has (b.caches.each _ on) on;
  firm = firm;
  free_words = λ c w free. b.words.others c w (free_out c free);
  free_named = λ c free on. kept c (free_out c free) on;
}
  where
    m : Layout
    m = volume_layout shape y.words

    low_out : (c : ℕ) → c < reserved shape → Contains blocks c → ⊥
    low_out c low on = let at = page_at m i first blocks c its on in let from = (h.order.mapped.laid.numbers.each i at.3.ino (AtPage (first + at.0)) at.3.slot).0 in let is = at.4 in omega (arith, from, low, is)

    free_out : (c : ℕ) → IsFree m c → Contains blocks c → ⊥
    free_out c free on = let at = page_at m i first blocks c its on in free.free (record { node = i; slot = AtPage (first + at.0); owns = at.3; is = at.4 })

    kept : (c : ℕ) → (Contains blocks c → ⊥) → z.cached c ≡ true → (y.cached c ≡ true) × (z.names c ≡ y.names c)
    kept c out on = elim (b.caches.each c on) [ inl was ↦ was | inr in_set ↦ absurd (out in_set) ]

    beside : AgreesBeside m i y.words z.words
    beside = record {
      low = λ c w low. b.words.others c w (low_out c low);
      tables = λ t has w. b.words.others _ w (λ on. let at = page_at m i first blocks _ its on in table_page t (first + at.0) ((h.order.mapped.laid.once.each i i (AtTable t) (AtPage (first + at.0)) (record { ino = ino; slot = has }) at.3 (sym at.4)).1));
      others = λ n s away own w. b.words.others _ w (λ on. let at = page_at m i first blocks _ its on in away ((h.order.mapped.laid.once.each n i s (AtPage (first + at.0)) own at.3 (sym at.4)).0));
    }

    layouts : SameLayout m (volume_layout shape z.words)
    layouts = lays_same m z.words (lays_beside m i y.words z.words h.order.mapped.laid (lays_self shape y.words) beside)

    page_bears : (t : ℕ) → t < length blocks → z.cached (slice_index blocks t) ≡ true → Bears i (m.node i) (AtPage (first + t)) (z.names (slice_index blocks t))
    page_bears t few on = bears_as i (m.node i) (first + t) _ kind (names.each t few on)

    by : (n : ℕ) (jno : IsIno shape n) (s : Slot) (has : HasSlot (m.node n) s) → ((y.cached ((m.node n).block s) ≡ true) × (z.names ((m.node n).block s) ≡ y.names ((m.node n).block s))) ⊎ Contains blocks ((m.node n).block s) → z.cached ((m.node n).block s) ≡ true → Bears n (m.node n) s (z.names ((m.node n).block s))
    by n jno s has (inl was) on = subst (Bears n (m.node n) s) (sym was.1) (h.order.named.each n jno s has was.0)
    by n jno s has (inr in_set) on =
        let at = page_at m i first blocks _ its in_set in
        let one = h.order.mapped.laid.once.each i n (AtPage (first + at.0)) s at.3 (record { ino = jno; slot = has }) at.4 in
        let bears : Bears i (m.node i) (AtPage (first + at.0)) (z.names ((m.node n).block s)) = subst (λ c. Bears i (m.node i) (AtPage (first + at.0)) (z.names c)) at.2 (page_bears at.0 at.1 (subst (λ c. z.cached c ≡ true) (sym at.2) on)) in
        subst (λ t. Bears n (m.node n) t (z.names ((m.node n).block s))) one.1 (subst (λ q. Bears q (m.node q) (AtPage (first + at.0)) (z.names ((m.node n).block s))) one.0 bears)

-- ---- and their bytes

-- a byte of the file is one of the span, or it stays
pub span_bytes : (l : Layout) (f g : BlockWords) (i first : ℕ) (blocks : List ℕ) (off : ℕ) (bytes : List ℕ) (k : ℕ) → IsLaid l → IsIno l.shape i → 0 < (l.node i).kind → IsPages l i first blocks → 4096 * first ≤ off → off + k ≤ 4096 * (first + length blocks) → PutsSpan f g blocks first off bytes k → (x : ℕ) → x < (l.node i).size → byte_in (word_in g (l.node i)) x ≡ over (byte_in (word_in f (l.node i))) off bytes k x
span_bytes l f g i first blocks off bytes k laid ino used its from to puts x within = by (cases_lt x (4096 * first)) (cases_lt x (4096 * (first + length blocks)))
  where
    n : Placed
    n = l.node i

    -- its page is none of these blocks
    away : (x < 4096 * first) ⊎ (4096 * (first + length blocks) ≤ x) → Contains blocks (n.block (AtPage (x / 4096))) → ⊥
    away out on =
        let at = page_at l i first blocks _ its on in
        let own : Owns l i (AtPage (x / 4096)) = record { ino = ino; slot = record { used = used; within = omega (arith, within) } } in
        let one = page_page _ _ (laid.once.each i i (AtPage (first + at.0)) (AtPage (x / 4096)) at.3 own at.4).1 in
        let few = at.1 in
        by_out out at.0 few one
      where
        by_out : (x < 4096 * first) ⊎ (4096 * (first + length blocks) ≤ x) → (t : ℕ) → t < length blocks → first + t ≡ x / 4096 → ⊥
        by_out (inl under) t few one = omega (arith, under, few, one)
        by_out (inr behind) t few one = omega (arith, behind, few, one)

    out_of : (x < 4096 * first) ⊎ (4096 * (first + length blocks) ≤ x) → byte_in (word_in g n) x ≡ byte_in (word_in f n) x
    out_of out = byte_at_block g n x used within ∙ same ∙ sym (byte_at_block f n x used within)
      where
        same : block_byte g (n.block (AtPage (x / 4096))) (x % 4096) ≡ block_byte f (n.block (AtPage (x / 4096))) (x % 4096)
        same = ap (λ w. byte_of w (x % 4096 % 8)) (puts.others (n.block (AtPage (x / 4096))) (x % 4096 / 8) (away out))

    in_span : (h : BlockWords) → 4096 * first ≤ x → x < 4096 * (first + length blocks) → span_byte h blocks first x ≡ byte_in (word_in h n) x
    in_span h low high =
        let few : x / 4096 - first < length blocks = omega (arith, low, high) in
        let page : first + (x / 4096 - first) ≡ x / 4096 = omega (arith, low) in
        ap (λ b. block_byte h b (x % 4096)) (its.is (x / 4096 - first) few ∙ ap (λ p. n.block (AtPage p)) page) ∙ sym (byte_at_block h n x used within)

    by : ((x < 4096 * first) ⊎ (4096 * first ≤ x)) → ((x < 4096 * (first + length blocks)) ⊎ (4096 * (first + length blocks) ≤ x)) → byte_in (word_in g n) x ≡ over (byte_in (word_in f n)) off bytes k x
    by (inl under) any = out_of (inl under) ∙ sym (over_out (byte_in (word_in f n)) off bytes k x (inl (omega (arith, under, from))))
    by (inr low) (inr behind) = out_of (inr behind) ∙ sym (over_out (byte_in (word_in f n)) off bytes k x (inr (omega (arith, behind, to))))
    by (inr low) (inl high) = sym (in_span g low high) ∙ puts.each x low high ∙ over_same (span_byte f blocks first) (byte_in (word_in f n)) off bytes k x (in_span f low high)

-- ---- what a file holds after some of the bytes were stored

-- pages of file i alone were stored to since x, from the first byte on; it has all of those bytes
pub record Overwrites (shape : VolumeShape) (x : Seen) (z : Seen) (l : Kept) (i first : ℕ) (blocks : List ℕ) (off : ℕ) (bytes : List ℕ) : Type 0 where
  pub mapped : IsMapped shape x.words
  pub ino : IsIno shape i
  pub file : (placed_at x.words i).kind ≡ 2
  pub its : IsPages (volume_layout shape x.words) i first blocks
  pub from : 4096 * first ≤ off
  pub to : off + length bytes ≤ 4096 * (first + length blocks)
  pub within : off + length bytes ≤ (placed_at x.words i).size
  pub beside : AgreesBeside (volume_layout shape x.words) i x.words z.words
  pub ready : Ready shape z l
  pub settled : Settled z l

pub overwrites_of : (shape : VolumeShape) (s t : Health) (o n : Below) (x : Seen) (k : Kept) (y : Seen) (j : Kept) (z : Seen) (l : Kept) (i first : ℕ) (blocks : List ℕ) (off : ℕ) (bytes : List ℕ) (size : ℕ) → Ready shape x k → IsIno shape i → (placed_at x.words i).kind ≡ 2 → LooksUp shape x y → Passes s o k t n j → IsPages (volume_layout shape x.words) i first blocks → 4096 * first ≤ off → off + length bytes ≤ 4096 * (first + length blocks) → off + length bytes ≤ size → size ≡ (placed_at x.words i).size → Beside (Contains blocks) y j z l → Firm j l → SpanNamed blocks first i size z → l.updating ≡ false → Settled z l → Overwrites shape x z l i first blocks off bytes
overwrites_of shape s t o n x k y j z l i first blocks off bytes size h ino file looks passes its from to within is b firm names idle settled =
    record { mapped = h.order.mapped; ino = ino; file = file; its = its; from = from; to = to; within = subst (λ (m : ℕ). off + length bytes ≤ m) is within; beside = stores.beside; ready = stores.ready; settled = settled }
  where
    same : y.words ≡ x.words
    same = looks.looks.words

    stores : StoresPages shape x k z l i
    stores =
        let ready = ready_left shape x k y j h (leaves_looked shape s t o n x y k j h looks passes) in
        stores_after shape s t o n x k y j z l i ino h looks passes (stores_span shape y j z l i first blocks ready ino
        (subst (λ f. (placed_at f i).kind ≡ 2) (sym same) file)
        (subst (λ f. IsPages (volume_layout shape f) i first blocks) (sym same) its)
        b firm
        (subst (λ f. SpanNamed blocks first i (placed_at f i).size z) (sym same) (subst (λ m. SpanNamed blocks first i m z) is names)) idle)

pub over_lead : (shape : VolumeShape) (x : Seen) (z : Seen) (l : Kept) (i first : ℕ) (blocks : List ℕ) (off : ℕ) (bytes : List ℕ) (k : ℕ) → Overwrites shape x z l i first blocks off bytes → k ≤ length bytes → IsLead (file_bytes shape x.words i) off bytes k (put_at (file_bytes shape x.words i) off (take k bytes))
over_lead shape x z l i first blocks off bytes k h few = record { most = (let long = file_size shape x.words i h.ino h.file in let within = h.within in omega (arith, few, long, within)); is = refl }

pub over_both : (shape : VolumeShape) (x : Seen) (z : Seen) (l : Kept) (i first : ℕ) (blocks : List ℕ) (off : ℕ) (bytes : List ℕ) (k : ℕ) → Overwrites shape x z l i first blocks off bytes → k ≤ length bytes → PutsSpan x.words z.words blocks first off bytes k → SetsBoth shape x.words z l i (put_at (file_bytes shape x.words i) off (take k bytes))
over_both shape x z l i first blocks off bytes k h few puts =
    stored_both shape x.words z l i _ h.mapped h.ino h.file h.beside h.ready h.settled
    (bytes_put x.words z.words (placed_at x.words i) off bytes k used (let within = h.within in omega (arith, few, within)) (span_bytes (volume_layout shape x.words) x.words z.words i first blocks off bytes k h.mapped.laid h.ino used h.its h.from (let to = h.to in omega (arith, to, few)) puts)
    ∙ ap (λ old. put_at old off (take k bytes)) (sym (file_node shape x.words i h.ino)))
  where
    used : 0 < (placed_at x.words i).kind
    used = let file = h.file in omega (arith, file)

over_space : (shape : VolumeShape) (x : Seen) (z : Seen) (l : Kept) (i first : ℕ) (blocks : List ℕ) (off : ℕ) (bytes : List ℕ) → Overwrites shape x z l i first blocks off bytes → HasSpaceFor shape x.words (length (file_bytes shape x.words i)) off bytes
over_space shape x z l i first blocks off bytes h some =
    let long = file_size shape x.words i h.ino h.file in
    let within = h.within in
    let file = h.file in
    let most = (h.mapped.laid.sizes.each i h.ino (omega (arith, file))).most in
    space_less shape x.words (length (file_bytes shape x.words i)) (off + length bytes) (omega (arith, long, most)) (omega (arith, long, within))

-- all of them
pub over_done : (shape : VolumeShape) (x : Seen) (z : Seen) (l : Kept) (i first : ℕ) (blocks : List ℕ) (off : ℕ) (bytes : List ℕ) (f : BlockWords) → f ≡ x.words → Overwrites shape x z l i first blocks off bytes → 0 < length bytes → PutsSpan f z.words blocks first off bytes (length bytes) → SetsBoth shape x.words z l i (written (file_bytes shape x.words i) off bytes) × Ready shape z l
over_done shape x z l i first blocks off bytes f same h some puts = (subst (SetsBoth shape x.words z l i) (put_written (file_bytes shape x.words i) off bytes some (let long = file_size shape x.words i h.ino h.file in let within = h.within in omega (arith, long, within))) (over_both shape x z l i first blocks off bytes (length bytes) h (omega arith) (subst (λ g. PutsSpan g z.words blocks first off bytes (length bytes)) same puts)), h.ready)

-- or a first part
over_fault : (shape : VolumeShape) (x : Seen) (z : Seen) (l : Kept) (i first : ℕ) (blocks : List ℕ) (off : ℕ) (bytes : List ℕ) (k : ℕ) → Overwrites shape x z l i first blocks off bytes → k ≤ length bytes → PutsSpan x.words z.words blocks first off bytes k → FaultsAfter shape x.words z l i off bytes k
over_fault shape x z l i first blocks off bytes k h few puts = record {
  new = put_at (file_bytes shape x.words i) off (take k bytes);
  lead = over_lead shape x z l i first blocks off bytes k h few;
  both = over_both shape x z l i first blocks off bytes k h few puts;
  space = λ some. over_space shape x z l i first blocks off bytes h;
}

over_stops : (shape : VolumeShape) (x : Seen) (z : Seen) (l : Kept) (i first : ℕ) (blocks : List ℕ) (off : ℕ) (bytes : List ℕ) (k : ℕ) → Overwrites shape x z l i first blocks off bytes → k ≤ length bytes → PutsSpan x.words z.words blocks first off bytes k → StopsAs shape x.words z l i (WriteStops shape x.words i off bytes)
over_stops shape x z l i first blocks off bytes k h few puts =
    stored_stops shape x.words z l i (put_at (file_bytes shape x.words i) off (take k bytes)) (WriteStops shape x.words i off bytes) h.ready h.settled (over_both shape x z l i first blocks off bytes k h few puts)
    (inr (over_space shape x z l i first blocks off bytes h, inr (inr (k, over_lead shape x z l i first blocks off bytes k h few))))

over_as : (T : Type 0) (shape : VolumeShape) (x : Seen) (k : Kept) (z : Seen) (l : Kept) (i first : ℕ) (blocks : List ℕ) (off : ℕ) (bytes : List ℕ) (e : BytesFail) → Overwrites shape x z l i first blocks off bytes → ((n : ℕ) → e ≡ BytesFault n → (n ≤ length bytes) × PutsSpan x.words z.words blocks first off bytes n) → ((n : ℕ) × (n ≤ length bytes) × PutsSpan x.words z.words blocks first off bytes n) → WriteLeaves {T = T} shape x k z l i off bytes (Err (write_of_bytes e))
over_as T shape x k z l i first blocks off bytes (BytesFault done) h fault front = let at = fault done refl in (over_fault shape x z l i first blocks off bytes done h at.0 at.1, h.ready)
over_as T shape x k z l i first blocks off bytes BytesStopped h fault front = over_stops shape x z l i first blocks off bytes front.0 h front.1 front.2

pub over_err : {T U : Type 0} (shape : VolumeShape) (x : Seen) (k : Kept) (z : Seen) (l : Kept) (i first : ℕ) (blocks : List ℕ) (off : ℕ) (bytes : List ℕ) (f : BlockWords) (r : Result U BytesFail) (e : BytesFail) (q : Result T WriteFail) (d : WriteFail) → f ≡ x.words → r ≡ Err e → q ≡ Err d → d ≡ write_of_bytes e → Overwrites shape x z l i first blocks off bytes → ((n : ℕ) → IsErrOf r (BytesFault n) → (n ≤ length bytes) × PutsSpan f z.words blocks first off bytes n) → ((n : ℕ) × (n ≤ length bytes) × PutsSpan f z.words blocks first off bytes n) → WriteLeaves shape x k z l i off bytes q
over_err {T = T} shape x k z l i first blocks off bytes f r e q d same re qd de h fault front = subst (λ (v : Result T WriteFail). WriteLeaves shape x k z l i off bytes v) (sym (qd ∙ ap Err de)) (over_as T shape x k z l i first blocks off bytes e h (λ n is. let at = fault n (re ∙ ap Err is) in (at.0, now n at.1)) (front.0, front.1, now front.0 front.2))
  where
    now : (n : ℕ) → PutsSpan f z.words blocks first off bytes n → PutsSpan x.words z.words blocks first off bytes n
    now n puts = subst (λ g. PutsSpan g z.words blocks first off bytes n) same puts
