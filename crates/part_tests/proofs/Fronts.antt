-- A run that is written over words, and the moments that are kept of it.
use Rattle.std.proofs.Common.{◌≡◌, ◌≤◌, ℕ, ◌+◌, ◌*◌, List, [], ◌∷◌, ◌++◌, length, take, drop, Option, Some, Vec, sym, ap, subst, ◌∙◌, arith, length-drop}
use Rattle.std.specs.Option.{option_map}
use Rattle.std.specs.declared.alloc.Global.{Global}
use Rattle.std.proofs.lemmas.List.{drop-drop, length-take-le, map-append}
use Rattle.rio_base.specs.Bytes.{bytes_of}
use Rattle.rio_base.specs.Hosts.{overwritten}
use Rattle.rio_base.proofs.Bytes.{length-bytes_of}
use Rattle.held_memory.specs.WordFiles.{FileBytes, IsWrittenFront, Meanwhile, WritesWords}
use Rattle.held_memory.proofs.Passing.{one_more}
use Rattle.held_memory.proofs.WordBytes.{bytes_behind, bytes_both, bytes_parts, long_front, over_rest}
use Rattle.part_tests.specs.PastFiles.{seen}

some_file : (x y : FileBytes) → Some x ≡ Some y → x ≡ y
some_file x y e = cc

some_bytes : (x y : List ℕ) → Some (Some x) ≡ Some (Some y) → x ≡ y
some_bytes x y e = cc

-- the bytes of words with a run in place
pub run_bytes : (at : ℕ) (run words new : List ℕ) → at + length run ≤ length words → new ≡ take at words ++ (run ++ drop (at + length run) words) → bytes_of new ≡ overwritten (bytes_of words) (8 * at) (bytes_of run)
run_bytes at run words new fits is =
    ap bytes_of is
    ∙ bytes_both (take at words) (run ++ drop (at + length run) words)
    ∙ ap (λ (bs : List ℕ). bytes_of (take at words) ++ bs) (bytes_both run (drop (at + length run) words))
    ∙ ap (λ (bs : List ℕ). bytes_of (take at words) ++ (bytes_of run ++ bs)) behind
    ∙ sym (over_rest (bytes_of (take at words)) (bytes_of (drop at words)) (bytes_of run) (8 * at) (long_front at words (omega (arith, fits))) (omega (arith, fits, length-bytes_of run, length-bytes_of (drop at words), length-drop at words)))
    ∙ ap (λ (bs : List ℕ). overwritten bs (8 * at) (bytes_of run)) (sym (bytes_parts at words))
  where
    behind : bytes_of (drop (at + length run) words) ≡ drop (length (bytes_of run)) (bytes_of (drop at words))
    behind =
        ap bytes_of (sym (drop-drop (length run) at words))
        ∙ sym (bytes_behind (length run) (drop at words) (omega (arith, fits, length-drop at words)))
        ∙ ap (λ k. drop k (bytes_of (drop at words))) (sym (length-bytes_of run))

-- one moment more is kept
pub front_kept : (at m : ℕ) (run part words : List ℕ) (old : Option (List FileBytes)) (past : List (Vec ℕ Global)) (new : Vec ℕ Global) → at + length run ≤ length words → m ≤ length run → part ≡ take m run → new.items ≡ take at words ++ (part ++ drop (at + length part) words) → Meanwhile (IsWrittenFront at run (bytes_of words)) old (Some (seen past)) → Meanwhile (IsWrittenFront at run (bytes_of words)) old (Some (seen (past ++ new ∷ [])))
front_kept at m run part words old past new fits few own is before =
    let long : length part ≡ m = ap length own ∙ length-take-le m run few in
    let bytes : bytes_of new.items ≡ overwritten (bytes_of words) (8 * at) (bytes_of part) = run_bytes at part words new.items (omega (arith, long, few, fits)) is in
    let moment : IsWrittenFront at run (bytes_of words) (Some (bytes_of new.items)) = (m, few, ap (λ (bs : List ℕ). Some bs) (bytes ∙ ap (λ (ws : List ℕ). overwritten (bytes_of words) (8 * at) (bytes_of ws)) own)) in
    subst (λ (all : List FileBytes). Meanwhile (IsWrittenFront at run (bytes_of words)) old (Some all)) (sym (map-append (λ (v : Vec ℕ Global). Some (bytes_of v.items)) past (new ∷ []))) (one_more (IsWrittenFront at run (bytes_of words)) old (seen past) (Some (bytes_of new.items)) moment before)

-- what is told of a write
pub run_written : (at : ℕ) (run old new : List ℕ) → at + length run ≤ length old → new ≡ take at old ++ (run ++ drop (at + length run) old) → WritesWords at run (Some (Some (bytes_of old))) (Some (Some (bytes_of new)))
run_written at run old new fits is = ap (λ (bs : List ℕ). Some (Some bs)) (run_bytes at run old new fits is)

pub told_order : (at : ℕ) (run old whole : List ℕ) (past now : Option (List FileBytes)) → Some (Some (bytes_of old)) ≡ Some (Some whole) → Meanwhile (IsWrittenFront at run (bytes_of old)) past now → Meanwhile (IsWrittenFront at run whole) past now
told_order at run old whole past now e h = subst (λ (bs : List ℕ). Meanwhile (IsWrittenFront at run bs) past now) (some_bytes (bytes_of old) whole e) h

-- how many bytes it has
pub run_size : (words : List ℕ) (n : ℕ) (file : FileBytes) → n ≡ length words → Some (Some (bytes_of words)) ≡ Some file → Some (8 * n) ≡ option_map length file
run_size words n file count e =
    ap (λ k. Some k) (ap (λ k. 8 * k) count ∙ sym (length-bytes_of words)) ∙ ap (λ (f : FileBytes). option_map length f) (some_file (Some (bytes_of words)) file e)
