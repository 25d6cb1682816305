-- A write past a file's end, once its growth is prepared and its last page is cleared: what the calls leave that store its
-- bytes and make its update.
use Rattle.file_pages.proofs.Common.{◌≡◌, ℕ, ◌+◌, ◌-◌, ◌*◌, ◌<◌, ◌≤◌, false, List, length, refl, sym, subst, ◌∙◌, arith, slice_index, Contains, VolumeShape, BlockWords, Seen, IsIno, Firm, Kept, Settled, numbers, Inode, IsInode, IsLead, resized, page_new, page_old, held, held_bytes, Takes, Placed, placed_at, volume_layout, IsFree, pages, LeavesInUse, Ready}
use Rattle.std.specs.Prelude.{min}
use Rattle.node_pages.specs.Changes.{Apart, given_node, planned_node}
use Rattle.file_pages.specs.Extending.{Extends}
use Rattle.file_pages.specs.Files.{FaultsAfter, HasSpace, HasSpaceFor, file_bytes}
use Rattle.node_pages.specs.LookingUp.{page_blocks}
use Rattle.file_pages.specs.Preparing.{Prepared}
use Rattle.file_pages.specs.Spans.{PutsLead, PutsSpan, SpanNamed}
use Rattle.node_pages.specs.Staging.{Beside}
use Rattle.file_pages.specs.Storing.{StoresPages, TailCleared}
use Rattle.node_pages.specs.declared.changes.SizeChange.{SizeChange}
use Rattle.file_pages.proofs.Extended.{grow_new, grow_old, grow_prepared}
use Rattle.file_pages.proofs.ExtensionBytes.{lead_stored, written_stored}
use Rattle.file_pages.proofs.ExtensionEnds.{HoldsWritten}
use Rattle.file_pages.proofs.ExtensionStored.{GrownFrom, prepared_stored, span_apart, span_long, span_named, span_within}
use Rattle.file_pages.proofs.GrowEnds.{stored_both}
use Rattle.file_pages.proofs.Resized.{file_size}
use Rattle.file_pages.proofs.Spanned.{span_lead}

pub record Opened (shape : VolumeShape) (f : BlockWords) (z : Seen) (l : Kept) (i size off : ℕ) (bytes : List ℕ) (first : ℕ) (m : Placed) (c : SizeChange) (blocks : List ℕ) : Type 0 where
  pub prepared : Prepared shape f z l i m c
  pub from : GrownFrom shape f i m
  pub was : (placed_at f i).size ≡ size
  pub reaches : m.size ≡ off + length bytes
  pub some : 0 < length bytes
  pub start : 4096 * first ≤ off
  pub whole : first + (pages m.size - first) ≡ pages m.size
  pub span : blocks ≡ page_blocks m first (pages m.size - first)
  pub old : held_bytes (held z.words (placed_at f i)) ≡ file_bytes shape f i
  pub new : held_bytes (held z.words m) ≡ resized (file_bytes shape f i) m.size
  pub space : HasSpaceFor shape f (length (file_bytes shape f i)) off bytes

grown_from : (shape : VolumeShape) (f : BlockWords) (y : Seen) (j : Kept) (i : ℕ) (given : Inode) (len first : ℕ) (c : SizeChange) (blocks : List ℕ) → IsInode f i given → given.size ≤ len → Extends shape f y j i given len first c blocks → GrownFrom shape f i (planned_node f i given len c)
grown_from shape f y j i given len first c blocks own grows e = record {
  grows = (let is = own.size in omega (arith, is, grows));
  old = λ p few. page_old n len p (numbers c.taken) (let is = own.size in omega (arith, is, few));
  new = λ p past few.
      let is = own.size in
      let from : pages given.size ≤ p = omega (arith, is, past) in
      let count = takes.count in
      subst (IsFree (volume_layout shape f)) (sym (page_new n len p (numbers c.taken) from)) (takes.free (p - pages given.size) (omega (arith, count, from, few)));
}
  where
    n : Placed
    n = given_node f i given

    takes : Takes (volume_layout shape f) n len (numbers c.taken)
    takes = e.grows.takes

pub opened : (shape : VolumeShape) (x : Seen) (k : Kept) (y : Seen) (j : Kept) (z : Seen) (l : Kept) (i : ℕ) (given : Inode) (off : ℕ) (bytes : List ℕ) (first : ℕ) (c : SizeChange) (blocks : List ℕ) → IsIno shape i → Ready shape x k → Settled z l → IsInode x.words i given → given.kind ≡ 2 → 0 < length bytes → given.size < off + length bytes → 4096 * first ≤ off → LeavesInUse (volume_layout shape x.words) x k y j → Extends shape x.words y j i given (off + length bytes) first c blocks → HasSpace shape x.words given.size (off + length bytes) → TailCleared y.words z i given.size (off + length bytes) → StoresPages shape y j z l i → held_bytes (held z.words (placed_at y.words i)) ≡ held_bytes (held y.words (placed_at y.words i)) → Opened shape x.words z l i given.size off bytes first (planned_node x.words i given (off + length bytes) c) c blocks
opened shape x k y j z l i given off bytes first c blocks ino h settled own kind some past start leaves e space cleared stores same = record {
  prepared = grow_prepared shape x k y j z l i given (off + length bytes) (numbers c.taken) c ino h settled own kind grows leaves e.grows e.lowest cleared stores;
  from = grown_from shape x.words y j i given (off + length bytes) first c blocks own grows e;
  was = sym own.size;
  reaches = refl;
  some = some;
  start = start;
  whole = (let reach : first ≤ pages (off + length bytes) = omega (arith, start) in omega (arith, reach));
  span = e.span;
  old = grow_old shape x k y j z.words i ino h leaves same;
  new = grow_new shape x k y j z l i given (off + length bytes) (numbers c.taken) c ino h own kind grows leaves e.grows cleared stores same;
  space = λ any. subst (λ n. HasSpace shape x.words n (off + length bytes)) (own.size ∙ sym (file_size shape x.words i ino (sym own.kind ∙ kind))) space;
}
  where
    grows : given.size ≤ off + length bytes
    grows = omega (arith, past)

-- ---- the bytes may be stored

pub may_place : (shape : VolumeShape) (f : BlockWords) (z : Seen) (l : Kept) (i size off : ℕ) (bytes : List ℕ) (first : ℕ) (m : Placed) (c : SizeChange) (blocks : List ℕ) → Opened shape f z l i size off bytes first m c blocks → (t : ℕ) → t < length blocks → slice_index blocks t < z.count
may_place shape f z l i size off bytes first m c blocks o = subst (λ bs. (t : ℕ) → t < length bs → slice_index bs t < z.count) (sym o.span) (span_within shape f z l i m c first (pages m.size - first) o.prepared (let whole = o.whole in omega (arith, whole)))

pub may_apart : (shape : VolumeShape) (f : BlockWords) (z : Seen) (l : Kept) (i size off : ℕ) (bytes : List ℕ) (first : ℕ) (m : Placed) (c : SizeChange) (blocks : List ℕ) → Opened shape f z l i size off bytes first m c blocks → Apart blocks
may_apart shape f z l i size off bytes first m c blocks o = subst Apart (sym o.span) (span_apart shape f z l i m c first (pages m.size - first) o.prepared (let whole = o.whole in omega (arith, whole)))

pub may_name : (shape : VolumeShape) (f : BlockWords) (z : Seen) (l : Kept) (i size off : ℕ) (bytes : List ℕ) (first : ℕ) (m : Placed) (c : SizeChange) (blocks : List ℕ) → Opened shape f z l i size off bytes first m c blocks → SpanNamed blocks first i (off + length bytes) z
may_name shape f z l i size off bytes first m c blocks o = subst (λ len. SpanNamed blocks first i len z) o.reaches (subst (λ bs. SpanNamed bs first i m.size z) (sym o.span) (span_named shape f z l i m c first (pages m.size - first) o.prepared (let whole = o.whole in omega (arith, whole))))

-- as many blocks as pages from the first one on
pub span_count : (shape : VolumeShape) (f : BlockWords) (z : Seen) (l : Kept) (i size off : ℕ) (bytes : List ℕ) (first : ℕ) (m : Placed) (c : SizeChange) (blocks : List ℕ) → Opened shape f z l i size off bytes first m c blocks → first + length blocks ≡ pages (off + length bytes)
span_count shape f z l i size off bytes first m c blocks o =
    let long : length blocks ≡ pages m.size - first = subst (λ bs. length bs ≡ pages m.size - first) (sym o.span) (span_long m first (pages m.size - first)) in
    let whole = o.whole in
    let reaches = o.reaches in
    omega (arith, long, whole, reaches)

-- ---- once they are stored, or some of them

pub still_prepared : (shape : VolumeShape) (f : BlockWords) (z : Seen) (l : Kept) (w : Seen) (k : Kept) (i size off : ℕ) (bytes : List ℕ) (first : ℕ) (m : Placed) (c : SizeChange) (blocks : List ℕ) → Opened shape f z l i size off bytes first m c blocks → Beside (Contains blocks) z l w k → SpanNamed blocks first i (off + length bytes) w → Firm l k → k.updating ≡ false → Settled w k → Prepared shape f w k i m c
still_prepared shape f z l w k i size off bytes first m c blocks o stored names firm idle settled =
    prepared_stored shape f z l w k i m c first (pages m.size - first) o.prepared o.from (let whole = o.whole in omega (arith, whole))
    (subst (λ bs. Beside (Contains bs) z l w k) o.span stored)
    (subst (λ bs. SpanNamed bs first i m.size w) o.span (subst (λ len. SpanNamed blocks first i len w) (sym o.reaches) names)) firm idle settled

leads : (shape : VolumeShape) (f : BlockWords) (z : Seen) (l : Kept) (w : Seen) (i size off : ℕ) (bytes : List ℕ) (first : ℕ) (m : Placed) (c : SizeChange) (blocks : List ℕ) (n : ℕ) → Opened shape f z l i size off bytes first m c blocks → PutsLead z.words w.words blocks first size off bytes n → IsLead (file_bytes shape f i) off bytes n (held_bytes (held w.words (placed_at f i)))
leads shape f z l w i size off bytes first m c blocks n o puts = lead_stored shape f z l w.words i m c first (pages m.size - first) off n bytes o.prepared o.from o.whole o.start o.old (subst (λ bs. PutsLead z.words w.words bs first (placed_at f i).size off bytes n) o.span (subst (λ s. PutsLead z.words w.words blocks first s off bytes n) (sym o.was) puts))

pub led : (shape : VolumeShape) (f : BlockWords) (z : Seen) (l : Kept) (w : Seen) (k : Kept) (i size off : ℕ) (bytes : List ℕ) (first : ℕ) (m : Placed) (c : SizeChange) (blocks : List ℕ) (n : ℕ) → Opened shape f z l i size off bytes first m c blocks → Prepared shape f w k i m c → PutsLead z.words w.words blocks first size off bytes n → FaultsAfter shape f w k i off bytes n
led shape f z l w k i size off bytes first m c blocks n o h puts = record {
  new = held_bytes (held w.words (placed_at f i));
  lead = leads shape f z l w i size off bytes first m c blocks n o puts;
  both = stored_both shape f w k i (held_bytes (held w.words (placed_at f i))) h.mapped h.ino h.was_file h.beside h.ready h.settled refl;
  space = λ some. o.space;
}

pub holds_written : (shape : VolumeShape) (f : BlockWords) (z : Seen) (l : Kept) (w : Seen) (k : Kept) (i size off : ℕ) (bytes : List ℕ) (first : ℕ) (m : Placed) (c : SizeChange) (blocks : List ℕ) (n : ℕ) → Opened shape f z l i size off bytes first m c blocks → Prepared shape f w k i m c → n ≡ min (length bytes) (size - off) → PutsSpan z.words w.words blocks first off bytes (length bytes) → HoldsWritten shape f w k i off bytes n m c
holds_written shape f z l w k i size off bytes first m c blocks n o h is puts = record {
  prepared = h;
  all = written_stored shape f z l w.words i m c first (pages m.size - first) off bytes o.prepared o.from o.whole o.start o.some o.reaches o.new (subst (λ bs. PutsSpan z.words w.words bs first off bytes (length bytes)) o.span puts);
  lead = leads shape f z l w i size off bytes first m c blocks n o (subst (PutsLead z.words w.words blocks first size off bytes) (sym is) (span_lead z.words w.words blocks first size off bytes (length bytes) (omega arith) puts));
  space = o.space;
}
