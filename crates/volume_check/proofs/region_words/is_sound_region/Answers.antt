use Rattle.std.proofs.Common.{ℕ, ◌*◌, ◌-◌, ◌≡◌, rules, arith, length, slice_index, subst}
use Rattle.rio_base.specs.Regions.{RegionContent}
use Rattle.volume_check.specs.RegionWords.{HasRecords}
use Rattle.volume_check.proofs.RegionSound.{front_long, map_long, parts, places_of, sound_by, sound_heap, sound_records}
use Rattle.volume_check.proofs.region_words.is_sound_region.Goals as goal

-- records as the header's sizes have them, and as they were looked for
records_as : (f : RegionContent) (a b m n : ℕ) → a ≡ b → m ≡ n → HasRecords f a m → HasRecords f b n
records_as f a b m n same most h = subst (λ x. HasRecords f b x) most (subst (λ x. HasRecords f x m) same h)

pub returns-then-not-are_records : goal.returns-then-not-are_records
returns-then-not-are_records c = λ n f h begins. (
  λ e. cc,
  λ s.
      let undo : ℕ = c.args.pages.undo in
      let pages : ℕ = c.args.pages.pages in
      let split = c.split_at_mut-front.ensures in
      let front = c.split_at_mut-front.result.0.now in
      let map = c.split_at_mut-front.result.1.now in
      let p = parts f undo pages c.args.words.now front map begins c.requires.len split.front split.back in
      let long = front_long undo pages c.args.words.now front c.requires.len split.front in
      let is = c.are_records.ensures.1 (records_as (slice_index front) (512 * undo) (length front - 512) (places_of pages) _ (omega (arith, long)) (omega (arith, c.map.ensures, c.from.ensures, c.from-2.ensures)) (sound_records n f undo pages front map h p s)) in
      cc,
)

pub returns : goal.returns
returns c = λ n f h begins.
    let undo : ℕ = c.args.pages.undo in
    let pages : ℕ = c.args.pages.pages in
    let split = c.split_at_mut-front.ensures in
    let front = c.split_at_mut-front.result.0.now in
    let map = c.split_at_mut-front.result.1.now in
    let p = parts f undo pages c.args.words.now front map begins c.requires.len split.front split.back in
    let long = front_long undo pages c.args.words.now front c.requires.len split.front in
    let whole = map_long undo pages c.args.words.now map c.requires.len split.back in
    let r = records_as (slice_index front) (length front - 512) (512 * undo) _ (places_of pages) (omega (arith, long)) (omega (arith, c.map.ensures, c.from.ensures, c.from-2.ensures)) (c.are_records.ensures.0 (search (rules, c.if-not-are_records.false))) in (
      λ e. sound_by n f undo pages front map c.put_back.new.map h p whole c.put_back.ensures r (c.is_of_blocks.ensures.0 e),
      λ s. c.is_of_blocks.ensures.1 (sound_heap n f undo pages front map c.put_back.new.map h p whole c.put_back.ensures s),
    )
