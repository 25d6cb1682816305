-- The exits of a write past a file's end.
use Rattle.file_pages.proofs.Common.{◌≡◌, ℕ, List, length, refl, sym, ap, subst, ◌∙◌, arith, inl, inr, Result, Err, Ok, IsErrOf, VolFail, VolumeShape, BlockWords, Seen, Kept, Settled, IsLead, held, held_bytes, held_of, Placed, placed_at, volume_layout, LeavesInUse, Ready, written}
use Rattle.rio_base.specs.declared.failures.VolFail.TheVariants.{Fault as VolFault, Stopped as VolStopped}
use Rattle.file_pages.specs.Extending.{failed_after, told_after}
use Rattle.node_pages.specs.Failures.{Unrefused, write_handed, write_of_size}
use Rattle.file_pages.specs.Failures.{write_of_bytes}
use Rattle.file_pages.specs.Files.{FaultsAfter, HasSpaceFor, SetsBoth, file_bytes}
use Rattle.node_pages.proofs.OrderRules.{ready_left}
use Rattle.file_pages.specs.Preparing.{Committed, Prepared}
use Rattle.file_pages.specs.Writing.{WriteLeaves, WriteStops}
use Rattle.node_pages.specs.declared.changes.SizeChange.{SizeChange}
use Rattle.file_pages.specs.declared.failures.BytesFail.{BytesFail}
use Rattle.file_pages.specs.declared.failures.BytesFail.TheVariants.{Fault as BytesFault, Stopped as BytesStopped}
use Rattle.node_pages.specs.declared.failures.SizeFail.{SizeFail}
use Rattle.node_pages.specs.declared.failures.SizeFail.TheVariants.{NoSpace, TooLarge, Fault, Stopped, Memory}
use Rattle.node_pages.specs.declared.failures.WriteFail.{WriteFail}
use Rattle.node_pages.specs.declared.failures.WriteFail.TheVariants.{NoSpace as NoWrite, TooLarge as LargeWrite}
use Rattle.file_pages.proofs.FileBytes.{put_none}
use Rattle.file_pages.proofs.GrowEnds.{stored_stops}
use Rattle.file_pages.proofs.Left.{both_left, stops_left}

-- ---- no byte is there

none_led : (old : List ℕ) (off : ℕ) (bytes : List ℕ) → IsLead old off bytes 0 old
none_led old off bytes = record { most = omega arith; is = sym (put_none old off) }

none_written : (shape : VolumeShape) (f : BlockWords) (y : Seen) (j : Kept) (i off : ℕ) (bytes : List ℕ) → SetsBoth shape f y j i (file_bytes shape f i) → FaultsAfter shape f y j i off bytes 0
none_written shape f y j i off bytes both = record { new = file_bytes shape f i; lead = none_led (file_bytes shape f i) off bytes; both = both; space = λ some. absurd (omega (arith, some)) }

-- the growth could not be prepared
planned_as : (T : Type 0) (shape : VolumeShape) (x : Seen) (k : Kept) (y : Seen) (j : Kept) (i off : ℕ) (bytes : List ℕ) (e : SizeFail) → Ready shape x k → Settled x k → (held_of shape x.words i).kind ≡ 2 → LeavesInUse (volume_layout shape x.words) x k y j → WriteLeaves {T = T} shape x k y j i off bytes (Err (write_of_size e))
planned_as T shape x k y j i off bytes NoSpace h settled kind m = m
planned_as T shape x k y j i off bytes TooLarge h settled kind m = m
planned_as T shape x k y j i off bytes Fault h settled kind m = (none_written shape x.words y j i off bytes (both_left shape x k y j i h settled kind m), ready_left shape x k y j h m)
planned_as T shape x k y j i off bytes Stopped h settled kind m = stops_left shape x k y j i (WriteStops shape x.words i off bytes) h settled kind m (inl refl)
planned_as T shape x k y j i off bytes Memory h settled kind m = m

pub planned_err : {T : Type 0} (shape : VolumeShape) (x : Seen) (k : Kept) (y : Seen) (j : Kept) (i off : ℕ) (bytes : List ℕ) (q : Result T WriteFail) (e : SizeFail) (d : WriteFail) → q ≡ Err d → d ≡ write_of_size e → Ready shape x k → Settled x k → (held_of shape x.words i).kind ≡ 2 → LeavesInUse (volume_layout shape x.words) x k y j → WriteLeaves shape x k y j i off bytes q
planned_err {T = T} shape x k y j i off bytes q e d qd de h settled kind m = subst (λ r. WriteLeaves shape x k y j i off bytes r) (sym (qd ∙ ap Err de)) (planned_as T shape x k y j i off bytes e h settled kind m)

-- the last page could not be cleared
tail_as : (T : Type 0) (shape : VolumeShape) (x : Seen) (k : Kept) (z : Seen) (l : Kept) (i off : ℕ) (bytes : List ℕ) (e : VolFail) → Ready shape z l → Settled z l → SetsBoth shape x.words z l i (file_bytes shape x.words i) → WriteLeaves {T = T} shape x k z l i off bytes (Err (write_handed e))
tail_as T shape x k z l i off bytes VolFault ready settled both = (none_written shape x.words z l i off bytes both, ready)
tail_as T shape x k z l i off bytes VolStopped ready settled both = stored_stops shape x.words z l i (file_bytes shape x.words i) (WriteStops shape x.words i off bytes) ready settled both (inl refl)

pub tail_err : {T : Type 0} (shape : VolumeShape) (x : Seen) (k : Kept) (z : Seen) (l : Kept) (i off : ℕ) (bytes : List ℕ) (q : Result T WriteFail) (e : VolFail) (d : WriteFail) → q ≡ Err d → d ≡ write_handed e → Ready shape z l → Settled z l → SetsBoth shape x.words z l i (file_bytes shape x.words i) → WriteLeaves shape x k z l i off bytes q
tail_err {T = T} shape x k z l i off bytes q e d qd de ready settled both = subst (λ r. WriteLeaves shape x k z l i off bytes r) (sym (qd ∙ ap Err de)) (tail_as T shape x k z l i off bytes e ready settled both)

-- ---- the first bytes are there

parts_as : (T : Type 0) (shape : VolumeShape) (x : Seen) (k : Kept) (w : Seen) (h : Kept) (i off : ℕ) (bytes : List ℕ) (e : BytesFail) → Ready shape w h → Settled w h → HasSpaceFor shape x.words (length (file_bytes shape x.words i)) off bytes → ((n : ℕ) → e ≡ BytesFault n → FaultsAfter shape x.words w h i off bytes n) → (n : ℕ) × FaultsAfter shape x.words w h i off bytes n → WriteLeaves {T = T} shape x k w h i off bytes (Err (write_of_bytes e))
parts_as T shape x k w h i off bytes (BytesFault n) ready settled space fault front = (fault n refl, ready)
parts_as T shape x k w h i off bytes BytesStopped ready settled space fault (n, led) = stored_stops shape x.words w h i led.new (WriteStops shape x.words i off bytes) ready settled led.both (inr (space, inr (inr (n, led.lead))))

-- not all of them could be stored
pub parts_err : {T U : Type 0} (shape : VolumeShape) (x : Seen) (k : Kept) (w : Seen) (h : Kept) (i off : ℕ) (bytes : List ℕ) (r : Result U BytesFail) (e : BytesFail) (q : Result T WriteFail) (d : WriteFail) → r ≡ Err e → q ≡ Err d → d ≡ write_of_bytes e → Ready shape w h → Settled w h → HasSpaceFor shape x.words (length (file_bytes shape x.words i)) off bytes → ((n : ℕ) → IsErrOf r (BytesFault n) → FaultsAfter shape x.words w h i off bytes n) → (n : ℕ) × FaultsAfter shape x.words w h i off bytes n → WriteLeaves shape x k w h i off bytes q
parts_err {T = T} shape x k w h i off bytes r e q d re qd de ready settled space fault front = subst (λ p. WriteLeaves shape x k w h i off bytes p) (sym (qd ∙ ap Err de)) (parts_as T shape x k w h i off bytes e ready settled space (λ n is. fault n (subst (λ p. IsErrOf p (BytesFault n)) (sym (re ∙ ap Err is)) refl)) front)

-- ---- all of them are there, and the update was made, refused or stopped

-- the bytes of a write are stored in the pages of the file as it will be, m, and the first `done` of them count already
pub record HoldsWritten (shape : VolumeShape) (f : BlockWords) (y : Seen) (j : Kept) (i off : ℕ) (bytes : List ℕ) (done : ℕ) (m : Placed) (c : SizeChange) : Type 0 where
  pub prepared : Prepared shape f y j i m c
  pub all : held_bytes (held y.words m) ≡ written (file_bytes shape f i) off bytes
  pub lead : IsLead (file_bytes shape f i) off bytes done (held_bytes (held y.words (placed_at f i)))
  pub space : HasSpaceFor shape f (length (file_bytes shape f i)) off bytes

made_as : (T U : Type 0) (shape : VolumeShape) (x : Seen) (k : Kept) (y : Seen) (j : Kept) (z : Seen) (l : Kept) (i off : ℕ) (bytes : List ℕ) (done : ℕ) (m : Placed) (c : SizeChange) (e : SizeFail) → HoldsWritten shape x.words y j i off bytes done m c → Committed {T = U} shape x.words y m z l i (Err e) → WriteLeaves {T = T} shape x k z l i off bytes (Err (failed_after done e))
made_as T U shape x k y j z l i off bytes done m c NoSpace h made = absurd made
made_as T U shape x k y j z l i off bytes done m c TooLarge h made = absurd made
made_as T U shape x k y j z l i off bytes done m c Memory h made = absurd made
made_as T U shape x k y j z l i off bytes done m c Fault h made = (record { new = held_bytes (held y.words (placed_at x.words i)); lead = h.lead; both = made.0; space = λ some. h.space }, made.1)
made_as T U shape x k y j z l i off bytes done m c Stopped h made = record {
  bytes = made.bytes;
  is = elim made.is [
    | inl was ↦ inr (h.space, inr (inr (done, subst (IsLead (file_bytes shape x.words i) off bytes done) (sym was) h.lead)))
    | inr now ↦ inr (h.space, inr (inl (now ∙ h.all)))
  ];
  stands = made.stands;
  ready = made.ready;
}

-- the update was made
made_whole : (T : Type 0) {U : Type 0} (shape : VolumeShape) (x : Seen) (k : Kept) (y : Seen) (j : Kept) (z : Seen) (l : Kept) (i off : ℕ) (bytes : List ℕ) (done : ℕ) (m : Placed) (c : SizeChange) (r : Result U SizeFail) (u : U) (t : T) → r ≡ Ok u → HoldsWritten shape x.words y j i off bytes done m c → Committed shape x.words y m z l i r → WriteLeaves {T = T} shape x k z l i off bytes (Ok t)
made_whole T {U = U} shape x k y j z l i off bytes done m c r u t re h made =
    let whole = subst (λ p. Committed {T = U} shape x.words y m z l i p) re made in
    (subst (λ (b : List ℕ). SetsBoth shape x.words z l i b) h.all whole.0, whole.1)

-- by how the update ended
pub made_told : (shape : VolumeShape) (x : Seen) (k : Kept) (y : Seen) (j : Kept) (z : Seen) (l : Kept) (i off : ℕ) (bytes : List ℕ) (done : ℕ) (m : Placed) (c : SizeChange) (r : Result (Unit {0}) SizeFail) (q : Result (Unit {0}) WriteFail) → q ≡ told_after done r → HoldsWritten shape x.words y j i off bytes done m c → Committed shape x.words y m z l i r → WriteLeaves shape x k z l i off bytes q
made_told shape x k y j z l i off bytes done m c r q is h made = subst (λ p. WriteLeaves shape x k z l i off bytes p) (sym is) (by r made)
  where
    by : (r : Result (Unit {0}) SizeFail) → Committed shape x.words y m z l i r → WriteLeaves shape x k z l i off bytes (told_after done r)
    by (Ok u) made = made_whole (Unit {0}) shape x k y j z l i off bytes done m c (Ok u) u u refl h made
    by (Err e) made = made_as (Unit {0}) (Unit {0}) shape x k y j z l i off bytes done m c e h made

-- and the update was not refused
pub told_unrefused : (done : ℕ) (r : Result (Unit {0}) SizeFail) (q : Result (Unit {0}) WriteFail) → q ≡ told_after done r → Unrefused r → (IsErrOf q NoWrite → ⊥) × (IsErrOf q LargeWrite → ⊥)
told_unrefused done r q is h = subst (λ (p : Result (Unit {0}) WriteFail). (IsErrOf p NoWrite → ⊥) × (IsErrOf p LargeWrite → ⊥)) (sym is) (by r h)
  where
    by : (r : Result (Unit {0}) SizeFail) → Unrefused r → (IsErrOf (told_after done r) NoWrite → ⊥) × (IsErrOf (told_after done r) LargeWrite → ⊥)
    by (Ok u) h = ((λ a. cc), (λ a. cc))
    by (Err NoSpace) h = absurd (h.0 refl)
    by (Err TooLarge) h = absurd (h.1 refl)
    by (Err Fault) h = ((λ a. cc), (λ a. cc))
    by (Err Stopped) h = ((λ a. cc), (λ a. cc))
    by (Err Memory) h = ((λ a. cc), (λ a. cc))
