-- A run of words that is stored, and the file that follows them.
use Rattle.std.proofs.Common.{◌≡◌, ◌<◌, ◌≤◌, ℕ, ◌+◌, ◌-◌, ◌*◌, List, [], ◌∷◌, ◌++◌, length, take, drop, slice_index, slice_set, Option, Some, None, refl, sym, ap, subst, ◌∙◌, arith, length-append, length-drop, get_or-take, get_or-drop, get_or-set_same, get_or-set_other}
use Rattle.std.proofs.Math.ListN.{drop_of_length-le}
use Rattle.std.proofs.lemmas.List.{ext_get_or, get_or_append_left, get_or-append_right, length-set, length-take-le}
use Rattle.rio_base.specs.Bytes.{bytes_of}
use Rattle.rio_base.specs.Memory.{FrontStored, copied_words}
use Rattle.rio_base.proofs.Bytes.{length-bytes_of}
use Rattle.board.proofs.WordRuns.{copied_front}
use Rattle.held_memory.specs.Held.{HasRunFront, Holds, IsFilled, Misfits, SameBut, StoresInOrder}
use Rattle.held_memory.specs.WordFiles.{FileBytes, IsSize, Meanwhile}
use Rattle.held_memory.proofs.Passing.{said_less}
use Rattle.held_memory.proofs.WordBytes.{bytes_behind, bytes_both, bytes_front, bytes_parts}

some_file : (x y : FileBytes) → Some x ≡ Some y → x ≡ y
some_file x y e = cc

some_count : (x y : ℕ) → Some x ≡ Some y → x ≡ y
some_count x y e = cc

no_count : (x : ℕ) → Some x ≡ None → ⊥
no_count x e = cc

-- ---- runs

-- one word is a run
one_stored : (at v : ℕ) (old : List ℕ) → at < length old → FrontStored at 1 (v ∷ []) old (slice_set old at v)
one_stored at v old fits = record {
  count = length-set old at v;
  front = λ i less.
      let none : i ≡ 0 = omega (arith, less) in
      let here : at + i ≡ at = omega (arith, none) in
      ap (λ k. slice_index (slice_set old at v) k) here ∙ get_or-set_same old at v 0 fits ∙ ap (λ k. slice_index (v ∷ []) k) (sym none);
  below = λ i less. get_or-set_other old at i v 0 (omega (arith, less));
  above = λ i more. get_or-set_other old at i v 0 (omega (arith, more));
}

pub word_put : (at v : ℕ) (old new : List ℕ) → at < length old → new ≡ slice_set old at v → FrontStored at 1 (v ∷ []) old new
word_put at v old new fits is = subst (λ (ws : List ℕ). FrontStored at 1 (v ∷ []) old ws) (sym is) (one_stored at v old fits)

-- words that are copied are a run
pub copy_put : (from to n : ℕ) (old new : List ℕ) → from + n ≤ length old → to + n ≤ length old → new ≡ copied_words old from to n → FrontStored to n (take n (drop from old)) old new
copy_put from to n old new source within is = subst (λ (ws : List ℕ). FrontStored to n (take n (drop from old)) old ws) (sym is) (copied_front old from to n source within)

pub copy_long : (from n : ℕ) (old : List ℕ) → from + n ≤ length old → n ≤ length (take n (drop from old))
copy_long from n old source = omega (arith, length-take-le n (drop from old) (omega (arith, length-drop from old, source)))

-- the words with those of a run up to place k are those with a front of it
front_mixed : (at n k : ℕ) (run old words : List ℕ) → FrontStored at n run old words → at + n ≤ length old → at ≤ k → k ≤ at + n → FrontStored at (k - at) run old (take k words ++ drop k old)
front_mixed at n k run old words put within after before =
    let long : length (take k words) ≡ k = length-take-le k words (omega (arith, put.count, within, before)) in
    record {
      count = omega (arith, length-append (take k words) (drop k old), long, length-drop k old, within, before);
      front = λ i less. get_or_append_left (take k words) (drop k old) 0 (at + i) (omega (arith, less, long)) ∙ get_or-take k words (at + i) 0 (omega (arith, less)) ∙ put.front i (omega (arith, less, before));
      below = λ i less. get_or_append_left (take k words) (drop k old) 0 i (omega (arith, less, long, after)) ∙ get_or-take k words i 0 (omega (arith, less, after)) ∙ put.below i less;
      above = λ i more.
          let back : k + (i - k) ≡ i = omega (arith, more, after) in
          get_or-append_right (take k words) (drop k old) k i 0 long (omega (arith, more, after)) ∙ get_or-drop k old (i - k) 0 ∙ ap (λ j. slice_index old j) back;
    }

-- ---- the file

-- the file of before has the words but for those of the run
pub run_same : (at n : ℕ) (run old words : List ℕ) → FrontStored at n run old words → at + n ≤ length old → SameBut at (at + n) (bytes_of old) words
run_same at n run old words put within = record {
  count = length-bytes_of old ∙ ap (λ k. 8 * k) (sym put.count);
  below = bytes_front at old (omega (arith, within)) ∙ ap bytes_of front;
  above = bytes_behind (at + n) old within ∙ ap bytes_of rest;
}
  where
    short : (ws : List ℕ) → length ws ≡ length old → length (take at ws) ≡ at
    short ws count = length-take-le at ws (omega (arith, count, within))

    front : take at old ≡ take at words
    front =
        ext_get_or 0 (take at old) (take at words) (short old refl ∙ sym (short words put.count))
        (λ i less.
        let low : i < at = omega (arith, less, short old refl) in
        get_or-take at old i 0 low ∙ sym (put.below i low) ∙ sym (get_or-take at words i 0 low))

    rest : drop (at + n) old ≡ drop (at + n) words
    rest =
        ext_get_or 0 (drop (at + n) old) (drop (at + n) words) (omega (arith, length-drop (at + n) old, length-drop (at + n) words, put.count))
        (λ i less. get_or-drop (at + n) old i 0 ∙ sym (put.above (at + n + i) (omega arith)) ∙ sym (get_or-drop (at + n) words i 0))

-- a file that is told and has words has just these
told_bytes : (told : Option FileBytes) (file : FileBytes) (words : List ℕ) → Holds told words → told ≡ Some file → told ≡ Some (Some (bytes_of words))
told_bytes told file words holds e = e ∙ ap (λ (f : FileBytes). Some f) (holds file e)

-- it has the new words behind the run's writes
pub still_held : (at n : ℕ) (run old words : List ℕ) (told now : Option FileBytes) → FrontStored at n run old words → at + n ≤ length old → Holds told old → (told ≡ None → now ≡ None) → ((whole : List ℕ) → told ≡ Some (Some whole) → SameBut at (at + n) whole words → now ≡ Some (Some (bytes_of words))) → Holds now words
still_held at n run old words None now put within holds untold told file e = absurd (none_some file (sym (untold refl) ∙ e))
  where
    none_some : (x : FileBytes) → None ≡ Some x → ⊥
    none_some x e = cc
still_held at n run old words (Some before) now put within holds untold told file e =
    some_file file (Some (bytes_of words)) (sym e ∙ told (bytes_of old) (told_bytes (Some before) before old holds refl) (run_same at n run old words put within))

-- and at each moment of them a front
pub in_order : (at n : ℕ) (run old words : List ℕ) (told : Option FileBytes) (past later : Option (List FileBytes)) → n ≤ length run → FrontStored at n run old words → at + n ≤ length old → Holds told old → ((whole : List ℕ) → told ≡ Some (Some whole) → SameBut at (at + n) whole words → Meanwhile (IsFilled at (at + n) whole words) past later) → StoresInOrder at run old told past later
in_order at n run old words told past later long put within holds passed file e =
    said_less (HasRunFront at run old) (IsFilled at (at + n) (bytes_of old) words) past later moment (passed (bytes_of old) (told_bytes told file old holds e) (run_same at n run old words put within))
  where
    moment : (f : FileBytes) → IsFilled at (at + n) (bytes_of old) words f → HasRunFront at run old f
    moment f (k, after, before, is) = (
      k - at,
      take k words ++ drop k old,
      omega (arith, after, before, long),
      front_mixed at n k run old words put within after before,
      is ∙ ap (λ (bs : List ℕ). Some (bytes_of (take k words) ++ bs)) (bytes_behind k old (omega (arith, before, within))) ∙ ap (λ (bs : List ℕ). Some bs) (sym (bytes_both (take k words) (drop k old))),
    )

-- ---- the first writing

first_same : (n : ℕ) (words whole : List ℕ) → n ≡ length words → length whole ≡ 8 * n → SameBut 0 n whole words
first_same n words whole count long = record {
  count = omega (arith, count, long);
  below = refl;
  above = drop_of_length-le whole (omega (arith, long)) ∙ sym (ap bytes_of (drop_of_length-le words (omega (arith, count))));
}

pub first_held : (n : ℕ) (words : List ℕ) (told now : Option FileBytes) → n ≡ length words → IsSize told (Some (8 * n)) → (told ≡ None → now ≡ None) → ((whole : List ℕ) → told ≡ Some (Some whole) → SameBut 0 n whole words → now ≡ Some (Some (bytes_of words))) → Holds now words
first_held n words None now count size untold told file e = absurd (none_some file (sym (untold refl) ∙ e))
  where
    none_some : (x : FileBytes) → None ≡ Some x → ⊥
    none_some x e = cc
first_held n words (Some None) now count size untold told file e = absurd (no_count (8 * n) (size None refl))
first_held n words (Some (Some whole)) now count size untold told file e =
    some_file file (Some (bytes_of words)) (sym e ∙ told whole refl (first_same n words whole count (sym (some_count (8 * n) (length whole) (size (Some whole) refl)))))

-- nothing changes where the file has the words
pub first_passed : (n : ℕ) (words : List ℕ) (told : Option FileBytes) (past later : Option (List FileBytes)) → n ≡ length words → told ≡ Some (Some (bytes_of words)) → ((whole : List ℕ) → told ≡ Some (Some whole) → SameBut 0 n whole words → Meanwhile (IsFilled 0 n whole words) past later) → Meanwhile (λ (f : FileBytes). f ≡ Some (bytes_of words)) past later
first_passed n words told past later count e passed =
    said_less (λ (f : FileBytes). f ≡ Some (bytes_of words)) (IsFilled 0 n (bytes_of words) words) past later moment (passed (bytes_of words) e (first_same n words (bytes_of words) count (omega (arith, count, length-bytes_of words))))
  where
    moment : (f : FileBytes) → IsFilled 0 n (bytes_of words) words f → f ≡ Some (bytes_of words)
    moment f (k, after, before, is) =
        is
        ∙ ap (λ (bs : List ℕ). Some (bytes_of (take k words) ++ bs)) (bytes_behind k words (omega (arith, before, count)))
        ∙ ap (λ (bs : List ℕ). Some bs) (sym (bytes_parts k words))

-- a file that was not touched is of another length still
pub still_misfits : (before after : Option FileBytes) (old new : ℕ) → after ≡ before → new ≡ old → Misfits before old → Misfits after new
still_misfits before after old new same count h = λ file told long. h file (sym same ∙ told) (long ∙ ap (λ n. Some (8 * n)) count)
