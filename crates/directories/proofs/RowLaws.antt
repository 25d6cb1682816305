-- What stored entries and another size make of the rows of a directory.
use Rattle.directories.proofs.Common.{◌≡◌, ◌≢◌, ℕ, ◌+◌, ◌-◌, ◌*◌, ◌/◌, ◌%◌, ◌^◌, ◌<◌, ◌≤◌, ◌⊎◌, ◌==◌, true, false, cond, List, length, refl, sym, ap, subst, ◌∙◌, arith, inl, inr, slice_index, nat_lt, cases_eq, nat_tests, Held, entry_ino, entry_name}
use Rattle.directories.specs.Contents.{sized_to, with_entry}
use Rattle.directories.specs.Entries.{IsEntryOf}
use Rattle.directories.specs.RowChanges.{AddsRow, NameAt, NoName, NoRow, RemovesRow, ReplacesRow, SetsRow, TheRow}
use Rattle.directories.specs.Rows.{HasRow, InNoOther}
use Rattle.directories.proofs.NameWords.{name_moved}
use Rattle.directories.proofs.SlotRows.{KeepsRow, SlotsChange, rows_of}

-- names lie within their entries
abbrev pub Short : Held → Type 0
Short h = (j : ℕ) → 64 * j < h.size → length (entry_name h j) ≤ 56

-- ---- words of slots

-- a slot with the words of another has its row
pub row_moved : (h k : Held) (a b : ℕ) → Short h → 64 * a < h.size → ((t : ℕ) → t < 8 → h.word (8 * a + t) ≡ k.word (8 * b + t)) → KeepsRow h k a b
row_moved h k a b short was same = record {
  was = was;
  named = name_moved h.word k.word a b (entry_name h a) (short a was) same refl;
  ino = ap (λ w. w % 2 ^ 32) first;
}
  where
    first : k.word (8 * b) ≡ h.word (8 * a)
    first = (let at : 8 * b ≡ 8 * b + 0 = omega arith in ap k.word at) ∙ sym (same 0 (omega arith)) ∙ (let at : 8 * a + 0 ≡ 8 * a = omega arith in ap h.word at)

-- a slot with the words of a new entry has its name and inode
pub entry_made : (k : Held) (b : ℕ) (e : List ℕ) (name : List ℕ) (i : ℕ) → length name ≤ 56 → IsEntryOf name i e → ((t : ℕ) → t < 8 → slice_index e t ≡ k.word (8 * b + t)) → (entry_name k b ≡ name) × (entry_ino k b ≡ i)
entry_made k b e name i few is same = (name_moved (slice_index e) k.word 0 b name few (λ t small. (let at : 8 * 0 + t ≡ t = omega arith in ap (slice_index e) at) ∙ same t small) is.named, ap (λ w. w % 2 ^ 32) ((let at : 8 * b ≡ 8 * b + 0 = omega arith in ap k.word at) ∙ sym (same 0 (omega arith))) ∙ is.ino)

-- a word of slot b of a directory of another size, in which a slot was stored
pub word_stored : (h : Held) (j len t : ℕ) (words : ℕ → ℕ) → len % 64 ≡ 0 → 64 * j < len → t < 8 → (sized_to len (with_entry h j words)).word (8 * j + t) ≡ words t
word_stored h j len t words whole within small =
    let inside : nat_lt (8 * (8 * j + t)) len ≡ true = grind (arith, nat_tests, whole, within, small) in
    let here : ((8 * j + t) / 8 == j) ≡ true = grind (arith, nat_tests, small) in
    let rest : (8 * j + t) % 8 ≡ t = omega (arith, small) in
    ap (λ b. cond b ((with_entry h j words).word (8 * j + t)) 0) inside ∙ ap (λ b. cond b (words ((8 * j + t) % 8)) (h.word (8 * j + t))) here ∙ ap words rest

pub word_beside : (h : Held) (j b len t : ℕ) (words : ℕ → ℕ) → len % 64 ≡ 0 → 64 * b < len → b ≢ j → t < 8 → (sized_to len (with_entry h j words)).word (8 * b + t) ≡ h.word (8 * b + t)
word_beside h j b len t words whole within away small =
    let inside : nat_lt (8 * (8 * b + t)) len ≡ true = grind (arith, nat_tests, whole, within, small) in
    let place : (8 * b + t) / 8 ≡ b = omega (arith, small) in
    let other : ((8 * b + t) / 8 == j) ≡ false = grind (arith, nat_tests, place, away) in
    ap (λ c. cond c ((with_entry h j words).word (8 * b + t)) 0) inside ∙ ap (λ c. cond c (words ((8 * b + t) % 8)) (h.word (8 * b + t))) other

-- ---- one row more

pub row_added : (h : Held) (e name : List ℕ) (i : ℕ) → h.kind ≡ 1 → h.size % 64 ≡ 0 → Short h → length name ≤ 56 → IsEntryOf name i e → ((n : ℕ) → HasRow h name n → ⊥) → AddsRow name i h (sized_to (h.size + 64) (with_entry h (h.size / 64) (slice_index e)))
row_added h e name i dir whole short few is none =
    rows_of h k (h.size + 64) (λ b. b) (λ b. b ≡ last) (λ a. ⊥) NoName (TheRow name i) slots (λ a was out. out) (λ a out. absurd out)
  where
    last : ℕ
    last = h.size / 64

    k : Held
    k = sized_to (h.size + 64) (with_entry h last (slice_index e))

    made : (entry_name k last ≡ name) × (entry_ino k last ≡ i)
    made = entry_made k last e name i few is (λ t small. sym (word_stored h last (h.size + 64) t (slice_index e) (omega (arith, whole)) (omega (arith, whole)) small))

    slots : SlotsChange h k (h.size + 64) (λ b. b) (λ b. b ≡ last) (λ a. ⊥) (TheRow name i)
    slots = record {
      dir = dir;
      sized = refl;
      decided = λ b within. cases_eq b last;
      kept = λ b within old. row_moved h k b b short (omega (arith, within, old, whole)) (λ t small. sym (word_beside h last b (h.size + 64) t (slice_index e) (omega (arith, whole)) within old small));
      lives = λ b within old out. out;
      once = λ b c in_b in_c old_b old_c same. same;
      reach = λ a was. inr (a, omega (arith, was), (λ at. omega (arith, at, was, whole)), refl);
      made = λ b within at. subst (λ x. TheRow name i (entry_name k x) (entry_ino k x)) (sym at) made;
      come = λ a n row. (last, record { within = omega (arith, whole); named = made.0 ∙ sym row.0; ino = made.1 ∙ sym row.1 });
      one = λ b c at_b at_c. at_b ∙ sym at_c;
      absent = λ distinct a other n was live row same. none (entry_ino h a) (a, record { within = was; named = same ∙ row.0; ino = refl });
    }

-- ---- another row in a slot

pub row_set : (h : Held) (j : ℕ) (e name : List ℕ) (i : ℕ) → h.kind ≡ 1 → h.size % 64 ≡ 0 → Short h → 64 * j < h.size → length name ≤ 56 → IsEntryOf name i e → InNoOther h j name → SetsRow j name i h (sized_to h.size (with_entry h j (slice_index e)))
row_set h j e name i dir whole short slot few is none =
    rows_of h k h.size (λ b. b) (λ b. b ≡ j) (λ a. a ≡ j) (NameAt h j) (TheRow name i) slots (λ a was at. ap (entry_name h) at) (λ a out. (j, slot, refl, out))
  where
    k : Held
    k = sized_to h.size (with_entry h j (slice_index e))

    made : (entry_name k j ≡ name) × (entry_ino k j ≡ i)
    made = entry_made k j e name i few is (λ t small. sym (word_stored h j h.size t (slice_index e) whole slot small))

    slots : SlotsChange h k h.size (λ b. b) (λ b. b ≡ j) (λ a. a ≡ j) (TheRow name i)
    slots = record {
      dir = dir;
      sized = refl;
      decided = λ b within. cases_eq b j;
      kept = λ b within old. row_moved h k b b short within (λ t small. sym (word_beside h j b h.size t (slice_index e) whole within old small));
      lives = λ b within old out. old out;
      once = λ b c in_b in_c old_b old_c same. same;
      reach = λ a was. elim (cases_eq a j) [ inl at ↦ inl at | inr away ↦ inr (a, was, away, refl) ];
      made = λ b within at. subst (λ x. TheRow name i (entry_name k x) (entry_ino k x)) (sym at) made;
      come = λ a n row. (j, record { within = slot; named = made.0 ∙ sym row.0; ino = made.1 ∙ sym row.1 });
      one = λ b c at_b at_c. at_b ∙ sym at_c;
      absent = λ distinct a other n was live row same. live (none a was (same ∙ row.0));
    }

-- ---- one row less: the last entry moves into the gap

-- words of the last entry, of which the slot may be the last itself
pub row_removed : (h : Held) (j : ℕ) (words : ℕ → ℕ) → h.kind ≡ 1 → h.size % 64 ≡ 0 → Short h → 64 * j < h.size → ((t : ℕ) → t < 8 → words t ≡ h.word (8 * (h.size / 64 - 1) + t)) → RemovesRow j h (sized_to (h.size - 64) (with_entry h j words))
row_removed h j words dir whole short slot moved =
    rows_of h k (h.size - 64) source (λ b. ⊥) (λ a. a ≡ j) (NameAt h j) NoRow slots (λ a was at. ap (entry_name h) at) (λ a out. (j, slot, refl, out))
  where
    last : ℕ
    last = h.size / 64 - 1

    source : ℕ → ℕ
    source b = cond (b == j) last b

    k : Held
    k = sized_to (h.size - 64) (with_entry h j words)

    at_gap : (b : ℕ) → b ≡ j → source b ≡ last
    at_gap b at = let test : (b == j) ≡ true = grind (arith, nat_tests, at) in ap (λ c. cond c last b) test

    beside : (b : ℕ) → b ≢ j → source b ≡ b
    beside b away = let test : (b == j) ≡ false = grind (arith, nat_tests, away) in ap (λ c. cond c last b) test

    kept : (b : ℕ) → 64 * b < h.size - 64 → (b ≡ j) ⊎ (b ≢ j) → KeepsRow h k (source b) b
    kept b within (inl at) = subst (λ x. KeepsRow h k x b) (sym (at_gap b at)) (row_moved h k last b short (omega (arith, whole, slot)) (λ t small. sym (moved t small) ∙ sym (word_stored h j (h.size - 64) t words (omega (arith, whole)) (omega (arith, within, at)) small) ∙ ap (λ x. k.word (8 * x + t)) (sym at)))
    kept b within (inr away) = subst (λ x. KeepsRow h k x b) (sym (beside b away)) (row_moved h k b b short (omega (arith, within)) (λ t small. sym (word_beside h j b (h.size - 64) t words (omega (arith, whole)) within away small)))

    lives : (b : ℕ) → 64 * b < h.size - 64 → (b ≡ j) ⊎ (b ≢ j) → source b ≡ j → ⊥
    lives b within (inl at) is = let s = at_gap b at in omega (arith, within, at, is, s, whole)
    lives b within (inr away) is = away (sym (beside b away) ∙ is)

    once : (b c : ℕ) → 64 * b < h.size - 64 → 64 * c < h.size - 64 → (b ≡ j) ⊎ (b ≢ j) → (c ≡ j) ⊎ (c ≢ j) → source b ≡ source c → b ≡ c
    once b c in_b in_c (inl at_b) (inl at_c) same = at_b ∙ sym at_c
    once b c in_b in_c (inl at_b) (inr off_c) same = let s = at_gap b at_b in let t = beside c off_c in absurd (omega (arith, in_c, same, s, t, whole))
    once b c in_b in_c (inr off_b) (inl at_c) same = let s = beside b off_b in let t = at_gap c at_c in absurd (omega (arith, in_b, same, s, t, whole))
    once b c in_b in_c (inr off_b) (inr off_c) same = sym (beside b off_b) ∙ same ∙ beside c off_c

    reach : (a : ℕ) → 64 * a < h.size → (a ≡ j) ⊎ (a ≢ j) → (a ≡ last) ⊎ (a ≢ last) → (a ≡ j) ⊎ ((b : ℕ) × (64 * b < h.size - 64) × (⊥ → ⊥) × (source b ≡ a))
    reach a was (inl at) _ = inl at
    reach a was (inr away) (inl end) = inr (j, omega (arith, was, end, slot, whole, away), (λ x. x), at_gap j refl ∙ sym end)
    reach a was (inr away) (inr not_end) = inr (a, omega (arith, was, not_end, whole), (λ x. x), beside a away)

    slots : SlotsChange h k (h.size - 64) source (λ b. ⊥) (λ a. a ≡ j) NoRow
    slots = record {
      dir = dir;
      sized = refl;
      decided = λ b within. inr (λ x. x);
      kept = λ b within old. kept b within (cases_eq b j);
      lives = λ b within old. lives b within (cases_eq b j);
      once = λ b c in_b in_c old_b old_c same. once b c in_b in_c (cases_eq b j) (cases_eq c j) same;
      reach = λ a was. reach a was (cases_eq a j) (cases_eq a last);
      made = λ b within at. at;
      come = λ a n row. absurd row;
      one = λ b c at. absurd at;
      absent = λ distinct a other n was live row same. row;
    }

-- ---- the name of one slot names another inode, and the row of another goes

-- where the last slot is: it is slot j itself, whose row moves into the gap, or another one
pub data Gap (j gone last at : ℕ) : Type 0 where
  Itself : j ≡ last → at ≡ gone → Gap j gone last at
  Other : j ≢ last → at ≡ j → Gap j gone last at

pub row_replaced : (h k : Held) (j gone at : ℕ) (e : List ℕ) (i : ℕ) → k.kind ≡ 1 → k.size ≡ h.size - 64 → h.size % 64 ≡ 0 → Short h → 64 * j < h.size → 64 * gone < h.size → j ≢ gone → IsEntryOf (entry_name h j) i e → Gap j gone (h.size / 64 - 1) at → ((t : ℕ) → t < 8 → slice_index e t ≡ k.word (8 * at + t)) → (gone ≢ at → 64 * gone < h.size - 64 → (t : ℕ) → t < 8 → h.word (8 * (h.size / 64 - 1) + t) ≡ k.word (8 * gone + t)) → ((b t : ℕ) → b ≢ at → b ≢ gone → 64 * b < h.size - 64 → t < 8 → h.word (8 * b + t) ≡ k.word (8 * b + t)) → ReplacesRow j i gone h k
row_replaced h k j gone at e i dir size whole short slot slot_gone two is gap stored moved beside =
    rows_of h k (h.size - 64) source fresh lost (λ name. NameAt h j name ⊎ NameAt h gone name) (TheRow (entry_name h j) i) slots gone_of lost_of
  where
    last : ℕ
    last = h.size / 64 - 1

    fresh : ℕ → Type 0
    fresh b = b ≡ at

    lost : ℕ → Type 0
    lost a = (a ≡ j) ⊎ (a ≡ gone)

    source : ℕ → ℕ
    source b = cond (b == gone) last b

    gone_of : (a : ℕ) → 64 * a < h.size → lost a → NameAt h j (entry_name h a) ⊎ NameAt h gone (entry_name h a)
    gone_of a was (inl e) = inl (ap (entry_name h) e)
    gone_of a was (inr e) = inr (ap (entry_name h) e)

    lost_of : (name : List ℕ) → NameAt h j name ⊎ NameAt h gone name → (a : ℕ) × (64 * a < h.size) × lost a × (name ≡ entry_name h a)
    lost_of name (inl out) = (j, slot, inl refl, out)
    lost_of name (inr out) = (gone, slot_gone, inr refl, out)

    at_gap : (b : ℕ) → b ≡ gone → source b ≡ last
    at_gap b on = let test : (b == gone) ≡ true = grind (arith, nat_tests, on) in ap (λ c. cond c last b) test

    off_gap : (b : ℕ) → b ≢ gone → source b ≡ b
    off_gap b away = let test : (b == gone) ≡ false = grind (arith, nat_tests, away) in ap (λ c. cond c last b) test

    at_within : 64 * at < h.size - 64
    at_within = by gap
      where
        by : Gap j gone last at → 64 * at < h.size - 64
        by (Itself end on) = omega (arith, end, on, slot, slot_gone, two, whole)
        by (Other not_end on) = omega (arith, not_end, on, slot, whole)

    made : (entry_name k at ≡ entry_name h j) × (entry_ino k at ≡ i)
    made = entry_made k at e (entry_name h j) i (short j slot) is stored

    -- a slot that is not the new one and not the gap is its own, and was neither
    not_j : (b : ℕ) → 64 * b < h.size - 64 → b ≢ at → Gap j gone last at → b ≢ j
    not_j b within off (Itself end on) same = omega (arith, within, end, same, whole)
    not_j b within off (Other not_end on) same = off (same ∙ sym on)

    kept : (b : ℕ) → 64 * b < h.size - 64 → b ≢ at → (b ≡ gone) ⊎ (b ≢ gone) → KeepsRow h k (source b) b
    kept b within off (inl on) = subst (λ x. KeepsRow h k x b) (sym (at_gap b on)) (row_moved h k last b short (omega (arith, whole, slot)) (λ t small. moved (λ same. off (on ∙ same)) (omega (arith, within, on)) t small ∙ ap (λ x. k.word (8 * x + t)) (sym on)))
    kept b within off (inr away) = subst (λ x. KeepsRow h k x b) (sym (off_gap b away)) (row_moved h k b b short (omega (arith, within)) (λ t small. beside b t off away within small))

    lives : (b : ℕ) → 64 * b < h.size - 64 → b ≢ at → (b ≡ gone) ⊎ (b ≢ gone) → lost (source b) → ⊥
    lives b within off (inl on) (inl is_j) = by gap
      where
        by : Gap j gone last at → ⊥
        by (Itself end g) = off (on ∙ sym g)
        by (Other not_end g) = not_end (sym is_j ∙ at_gap b on)
    lives b within off (inl on) (inr is_gone) = let s = at_gap b on in omega (arith, within, on, is_gone, s, whole)
    lives b within off (inr away) (inl is_j) = not_j b within off gap (sym (off_gap b away) ∙ is_j)
    lives b within off (inr away) (inr is_gone) = away (sym (off_gap b away) ∙ is_gone)

    once : (b c : ℕ) → 64 * b < h.size - 64 → 64 * c < h.size - 64 → (b ≡ gone) ⊎ (b ≢ gone) → (c ≡ gone) ⊎ (c ≢ gone) → source b ≡ source c → b ≡ c
    once b c in_b in_c (inl on_b) (inl on_c) same = on_b ∙ sym on_c
    once b c in_b in_c (inl on_b) (inr off_c) same = let s = at_gap b on_b in let t = off_gap c off_c in absurd (omega (arith, in_c, same, s, t, whole))
    once b c in_b in_c (inr off_b) (inl on_c) same = let s = off_gap b off_b in let t = at_gap c on_c in absurd (omega (arith, in_b, same, s, t, whole))
    once b c in_b in_c (inr off_b) (inr off_c) same = sym (off_gap b off_b) ∙ same ∙ off_gap c off_c

    reach : (a : ℕ) → 64 * a < h.size → (a ≡ j) ⊎ (a ≢ j) → (a ≡ gone) ⊎ (a ≢ gone) → (a ≡ last) ⊎ (a ≢ last) → Gap j gone last at → lost a ⊎ ((b : ℕ) × (64 * b < h.size - 64) × (b ≢ at) × (source b ≡ a))
    reach a was (inl on) _ _ g = inl (inl on)
    reach a was (inr off) (inl on) _ g = inl (inr on)
    reach a was (inr off) (inr away) (inl end) (Itself j_end g) = absurd (off (end ∙ sym j_end))
    reach a was (inr off) (inr away) (inl end) (Other not_end g) = inr (gone, omega (arith, was, end, slot_gone, whole, away), (λ same. two (sym g ∙ sym same)), at_gap gone refl ∙ sym end)
    reach a was (inr off) (inr away) (inr not_last) (Itself j_end g) = inr (a, omega (arith, was, not_last, whole), (λ same. away (same ∙ g)), off_gap a away)
    reach a was (inr off) (inr away) (inr not_last) (Other not_end g) = inr (a, omega (arith, was, not_last, whole), (λ same. off (same ∙ g)), off_gap a away)

    in_size : (b : ℕ) → 64 * b < k.size → 64 * b < h.size - 64
    in_size b within = subst (λ (s : ℕ). 64 * b < s) size within

    to_size : (b : ℕ) → 64 * b < h.size - 64 → 64 * b < k.size
    to_size b within = subst (λ (s : ℕ). 64 * b < s) (sym size) within

    slots : SlotsChange h k (h.size - 64) source fresh lost (TheRow (entry_name h j) i)
    slots = record {
      dir = dir;
      sized = size;
      decided = λ b within. cases_eq b at;
      kept = λ b within old. kept b (in_size b within) old (cases_eq b gone);
      lives = λ b within old. lives b (in_size b within) old (cases_eq b gone);
      once = λ b c in_b in_c old_b old_c same. once b c (in_size b in_b) (in_size c in_c) (cases_eq b gone) (cases_eq c gone) same;
      reach = λ a was. elim (reach a was (cases_eq a j) (cases_eq a gone) (cases_eq a last) gap) [ inl out ↦ inl out | inr found ↦ inr (found.0, to_size found.0 found.1, found.2, found.3) ];
      made = λ b within on. subst (λ x. TheRow (entry_name h j) i (entry_name k x) (entry_ino k x)) (sym on) made;
      come = λ a n row. (at, record { within = to_size at at_within; named = made.0 ∙ sym row.0; ino = made.1 ∙ sym row.1 });
      one = λ b c on_b on_c. on_b ∙ sym on_c;
      absent = λ distinct a other n was live row same. live (inl (distinct a j was slot (same ∙ row.0)));
    }
