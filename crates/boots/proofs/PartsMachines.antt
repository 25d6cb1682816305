-- What a machine stands for that is made of memory and a disk between two boots.
use Rattle.std.proofs.Common.{◌≡◌, ◌<◌, ◌*◌, ℕ, List, [], length, sym, ap, subst, ◌∙◌, arith, length-drop}
use Rattle.std.specs.Prelude.{Some, None}
use Rattle.rio_base.specs.Disks.{block_at, is_pending}
use Rattle.rio_base.specs.Machine.{Contents, Running}
use Rattle.rio_model.specs.declared.state.State.{State}
use Rattle.rio_model.specs.Cover.{cover_by}
use Rattle.rio_model.specs.Registry.{page_of_entry, HasLayout}
use Rattle.rio_model.specs.Standing.{Restorable, StandsFor}
use Rattle.rio_model.proofs.RebootSteps.{image_same, narrows_words}
use Rattle.rio_model.proofs.StandingStates.{stands_for_could}
use Rattle.board.specs.Boards.{protected_count, scratch_of}
use Rattle.block_disk.specs.BlockLists.{AreWhole}
use Rattle.block_disk.specs.MemDisks.{MemDiskState, contents_of, most_faults, upcoming}
use Rattle.machine_bench.specs.Benches.{made_contents, made_run}
use Rattle.boots.specs.Parts.{NeverFails, PartsStand}

-- over the same words, blocks and marks
pub stands_same : (old new : Contents) (n m : ℕ) (s : State) → new.words ≡ old.words → new.disk ≡ old.disk → new.pending ≡ old.pending → m ≡ n → StandsFor old n s → StandsFor new m s
stands_same old new n m s words disk pending same h = stands_for_could old new n m s
    (record { words = ap (λ (ws : List ℕ). length ws) words; blocks = blocks; scratch = same })
    (subst (Restorable new) (sym same) (image_same n old new words blocks h.image))
    (narrows_words old.words new.words words)
    (record {
      each = λ d may. (
        d,
        record {
          count = may.count ∙ blocks;
          whole = may.whole;
          kept = λ b firm. may.kept b (ap (λ marks. is_pending marks b) pending ∙ firm) ∙ ap (λ (ds : List (List ℕ)). block_at ds b) disk;
        },
        λ b w out. ap (λ (ws : List ℕ). cover_by (page_of_entry ws) ws d b w) words,
      );
    }) h
  where
    blocks : length new.disk ≡ length old.disk
    blocks = ap (λ (ds : List (List ℕ)). length ds) disk

pub none_upcoming : (calls : ℕ) (failing : List ℕ) → failing ≡ [] → upcoming calls failing ≡ 0
unfolding upcoming
none_upcoming calls failing none = ap (upcoming calls) none

pub scratch_count : (words : List ℕ) (scratch : ℕ) → 512 * scratch < length words → length (scratch_of words scratch) ≡ 512 * scratch
scratch_count words scratch room = omega (arith, room, length-drop (protected_count words scratch) words)

pub parts_machine : (words : List ℕ) (disk : MemDiskState) (scratch failing : ℕ) (s : State) (c : Contents) (r : Running) → c ≡ made_contents words scratch (contents_of disk) → r ≡ made_run words scratch None → AreWhole disk.blocks → PartsStand words disk scratch failing s → StandsFor c (length r.scratch) s
parts_machine words disk scratch failing s c r made run whole h = stands_same (made_contents words scratch (contents_of disk)) c (512 * scratch) (length r.scratch) s
    (ap (λ (x : Contents). x.words) made) (ap (λ (x : Contents). x.disk) made) (ap (λ (x : Contents). x.pending) made)
    (ap (λ (x : Running). length x.scratch) run ∙ scratch_count words scratch h.room) (h.stands whole)

parts_limit : (words : List ℕ) (disk : MemDiskState) (scratch failing : ℕ) (s : State) → PartsStand words disk scratch failing s → NeverFails (contents_of disk).faults
parts_limit words disk scratch failing s h = (ap Some most, let were = h.counted in let few = h.few in omega (arith, were, few))
  where
    most : most_faults disk ≡ disk.faults
    most = let none = none_upcoming disk.calls disk.failing h.never.0 in let reads = h.never.1 in omega (arith, none, reads)

pub parts_never : (words : List ℕ) (disk : MemDiskState) (scratch failing : ℕ) (s : State) (c : Contents) → c ≡ made_contents words scratch (contents_of disk) → PartsStand words disk scratch failing s → NeverFails c.faults
parts_never words disk scratch failing s c made h = subst NeverFails (sym (ap (λ (x : Contents). x.faults) made)) (parts_limit words disk scratch failing s h)

-- what stands for a state has its memory laid out
pub standing_layout : (c : Contents) (scratch : List ℕ) (s : State) → StandsFor c (length scratch) s → HasLayout c.words scratch
standing_layout c scratch s h = record { sizes = h.image.sizes; protected = h.image.protected; scratch_pages = h.image.scratch_pages }
