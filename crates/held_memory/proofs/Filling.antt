-- Bytes of a file over which words are written, one part behind the other.
use Rattle.std.proofs.Common.{◌≡◌, ◌≤◌, ℕ, ◌+◌, ◌-◌, ◌*◌, List, [], ◌++◌, length, take, drop, Option, Some, None, unwrap_or, sym, ap, ◌∙◌, arith, length-drop}
use Rattle.std.proofs.lemmas.List.{drop-drop, drop-take, take-append-drop, take-take}
use Rattle.rio_base.specs.Bytes.{bytes_of}
use Rattle.rio_base.specs.Hosts.{overwritten}
use Rattle.rio_base.specs.Memory.{page_at}
use Rattle.held_memory.specs.Held.{IsFilled, SameBut, filled}
use Rattle.held_memory.specs.WordFiles.{FileBytes, IsWrittenFront, Meanwhile, WritesInOrder, WritesWords}
use Rattle.held_memory.proofs.Passing.{none_yet, then_call}
use Rattle.held_memory.proofs.WordBytes.{bytes_both, front_and_part, long_front, over_rest}

some_file : (x y : FileBytes) → Some x ≡ Some y → x ≡ y
some_file x y e = cc

-- m more words are written behind the first d
pub fill_more : (d m : ℕ) (bytes words : List ℕ) → length bytes ≡ 8 * length words → d + m ≤ length words → overwritten (filled d bytes words) (8 * d) (bytes_of (take m (drop d words))) ≡ filled (d + m) bytes words
fill_more d m bytes words count fits =
    let part : List ℕ = take m (drop d words) in
    let long : length (bytes_of part) ≡ 8 * m = long_front m (drop d words) (omega (arith, fits, length-drop d words)) in
    over_rest (bytes_of (take d words)) (drop (8 * d) bytes) (bytes_of part) (8 * d) (long_front d words (omega (arith, fits))) (omega (arith, long, fits, count, length-drop (8 * d) bytes))
    ∙ ap (λ k. bytes_of (take d words) ++ (bytes_of part ++ drop k (drop (8 * d) bytes))) long
    ∙ ap (λ (bs : List ℕ). bytes_of (take d words) ++ (bytes_of part ++ bs)) (drop-drop (8 * m) (8 * d) bytes ∙ ap (λ k. drop k bytes) (let sum : 8 * d + 8 * m ≡ 8 * (d + m) = omega arith in sum))
    ∙ front_and_part d m words (drop (8 * (d + m)) bytes)

-- nothing of the span is written
pub fill_start : (from upto : ℕ) (bytes words : List ℕ) → SameBut from upto bytes words → filled from bytes words ≡ bytes
fill_start from upto bytes words same = ap (λ (bs : List ℕ). bs ++ drop (8 * from) bytes) (sym same.below) ∙ take-append-drop (8 * from) bytes

-- all of it is
pub fill_end : (from upto : ℕ) (bytes words : List ℕ) → SameBut from upto bytes words → filled upto bytes words ≡ bytes_of words
fill_end from upto bytes words same =
    ap (λ (bs : List ℕ). bytes_of (take upto words) ++ bs) same.above
    ∙ sym (bytes_both (take upto words) (drop upto words))
    ∙ ap bytes_of (take-append-drop upto words)

-- ---- a loop that writes part by part

-- what it has done, where the file had these bytes at first
pub record Passed (from done upto : ℕ) (bytes words : List ℕ) (told : Option FileBytes) (old new : Option (List FileBytes)) : Type 0 where
  pub now : told ≡ Some (Some (filled done bytes words))
  pub moments : Meanwhile (IsFilled from upto bytes words) old new

-- a write leaves this
pub written_now : (at : ℕ) (words : List ℕ) (told new : Option FileBytes) (whole : List ℕ) → told ≡ Some (Some whole) → WritesWords at words told new → new ≡ Some (Some (overwritten whole (8 * at) (bytes_of words)))
written_now at words None new whole e h = cc
written_now at words (Some file) new whole e made = made ∙ ap (λ (f : FileBytes). Some (Some (overwritten (unwrap_or f []) (8 * at) (bytes_of words)))) (some_file file (Some whole) e)

pub written_none : (at : ℕ) (words : List ℕ) (told new : Option FileBytes) → told ≡ None → WritesWords at words told new → new ≡ None
written_none at words None new e h = h
written_none at words (Some file) new e h = cc

-- the moments of a part's write
part_moment : (from done upto : ℕ) (bytes words part : List ℕ) → length bytes ≡ 8 * length words → upto ≤ length words → from ≤ done → done + length part ≤ upto → part ≡ take (length part) (drop done words) → (file : FileBytes) → IsWrittenFront done part (filled done bytes words) file → IsFilled from upto bytes words file
part_moment from done upto bytes words part count within after fits own file (m, few, is) =
    let front : take m part ≡ take m (drop done words) = ap (λ (ws : List ℕ). take m ws) own ∙ take-take m (length part) (drop done words) few in (
      done + m,
      omega (arith, after),
      omega (arith, few, fits),
      is
          ∙ ap (λ (ws : List ℕ). Some (overwritten (filled done bytes words) (8 * done) (bytes_of ws))) front
          ∙ ap (λ (bs : List ℕ). Some bs) (fill_more done m bytes words count (omega (arith, few, fits, within))),
    )

pub pass_start : (from upto : ℕ) (bytes words : List ℕ) (told : Option FileBytes) (past : Option (List FileBytes)) → told ≡ Some (Some bytes) → SameBut from upto bytes words → Passed from from upto bytes words told past past
pass_start from upto bytes words told past e same = record {
  now = e ∙ ap (λ (bs : List ℕ). Some (Some bs)) (sym (fill_start from upto bytes words same));
  moments = none_yet (IsFilled from upto bytes words) past;
}

-- the moments up to the end of one more write, which may have failed
pub pass_moments : (from done upto : ℕ) (bytes words part : List ℕ) (told : Option FileBytes) (old mid new : Option (List FileBytes)) → SameBut from upto bytes words → upto ≤ length words → from ≤ done → done + length part ≤ upto → part ≡ take (length part) (drop done words) → Passed from done upto bytes words told old mid → WritesInOrder done part told mid new → Meanwhile (IsFilled from upto bytes words) old new
pass_moments from done upto bytes words part told old mid new same within after fits own passed order =
    then_call (IsFilled from upto bytes words) (IsWrittenFront done part (filled done bytes words)) old mid new (part_moment from done upto bytes words part same.count within after fits own) passed.moments (order (filled done bytes words) passed.now)

pub pass_part : (from done upto : ℕ) (bytes words part : List ℕ) (told now : Option FileBytes) (old mid new : Option (List FileBytes)) → SameBut from upto bytes words → upto ≤ length words → from ≤ done → done + length part ≤ upto → part ≡ take (length part) (drop done words) → Passed from done upto bytes words told old mid → WritesWords done part told now → WritesInOrder done part told mid new → Passed from (done + length part) upto bytes words now old new
pass_part from done upto bytes words part told now old mid new same within after fits own passed wrote order = record {
  now =
      written_now done part told now (filled done bytes words) passed.now wrote
      ∙ ap (λ (ws : List ℕ). Some (Some (overwritten (filled done bytes words) (8 * done) (bytes_of ws)))) own
      ∙ ap (λ (bs : List ℕ). Some (Some bs)) (fill_more done (length part) bytes words same.count (omega (arith, fits, within)));
  moments = pass_moments from done upto bytes words part told old mid new same within after fits own passed order;
}

pub pass_end : (from done upto : ℕ) (bytes words : List ℕ) (told : Option FileBytes) (old new : Option (List FileBytes)) → SameBut from upto bytes words → done ≡ upto → Passed from done upto bytes words told old new → told ≡ Some (Some (bytes_of words))
pass_end from done upto bytes words told old new same all passed =
    passed.now ∙ ap (λ k. Some (Some (filled k bytes words))) all ∙ ap (λ (bs : List ℕ). Some (Some bs)) (fill_end from upto bytes words same)

-- a part of a page is a part of all words
pub page_part : (at p first count : ℕ) (words part : List ℕ) → at ≡ 512 * p + first → first + count ≤ 512 → part ≡ take count (drop first (page_at words p)) → part ≡ take count (drop at words)
page_part at p first count words part place within own =
    let whole : first + (512 - first) ≡ 512 = omega (arith, within) in
    own
    ∙ ap (λ k. take count (drop first (take k (drop (512 * p) words)))) (sym whole)
    ∙ ap (λ (ws : List ℕ). take count ws) (drop-take first (512 - first) (drop (512 * p) words) ∙ ap (λ (ws : List ℕ). take (512 - first) ws) (drop-drop first (512 * p) words))
    ∙ take-take count (512 - first) (drop (512 * p + first) words) (omega (arith, within))
    ∙ ap (λ k. take count (drop k words)) (sym place)
