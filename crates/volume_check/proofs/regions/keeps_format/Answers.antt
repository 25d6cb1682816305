use Rattle.volume_check.proofs.Common.{List, ℕ, ◌*◌, ◌/◌, ◌∙◌, ◌≡◌, ◌≤◌, ap, arith, length, subst, sym, BlockWords, err_from_is_err_and, refl}
use Rattle.rio_model.specs.Held.{Held, held_of}
use Rattle.rio_model.specs.Sizes.{pages}
use Rattle.volume_check.specs.NodeBlocks.{HasFront}
use Rattle.volume_check.specs.RegionWords.{Begins}
use Rattle.volume_check.proofs.EntryRules.{said_is}
use Rattle.volume_check.proofs.NodeParts.{front_begins, region_sized}
use Rattle.volume_check.proofs.RegionSound.{pages_back, pages_there, region_none}
use Rattle.volume_check.proofs.Looking.{can_go_on, looked_err, looked_none, looked_quiet, on_err, on_first, on_ok, on_quiet, refused_err}
use Rattle.volume_check.proofs.Chains.{inodes_on, layout_on}
use Rattle.rio_model.specs.VolumeRules.{NumberRule, SizeRule}
use Rattle.volume_check.proofs.regions.keeps_format.Goals as goal

pages_of : {a b : ℕ} → a ≡ b → pages a ≡ pages b
pages_of e = ap pages e

pub returns-in_default-clause-keeps : goal.returns-in_default-clause-keeps
returns-in_default-clause-keeps g c = (
  λ e. cc,
  λ r.
      let s = g.V.Blocks.seen c.args.v.now in
      let n = c.args.inodes.now in
      let i : ℕ = c.args.i.0 in
      let h : Held = held_of n.shape s.words i in
      let is = sym c.kind.ensures ∙ c.if-kind-ne-REGION.false in
      let sized = region_sized s n i c.page_count.result c.requires.inodes c.requires.mapped.laid.sizes (record { ino = c.requires.ino; kind = is }) (c.page_count.ensures.pages ∙ pages_of c.size.ensures) in
      let some = sized.some in
      let all = sized.all in
      let long = c.in_ok-header.ensures.words.len in
      let begins : Begins h.word c.deref.result.now = subst (λ (xs : List ℕ). Begins h.word xs) (sym c.deref.ensures.value) (front_begins h 1 c.in_ok-header.header.items (omega (arith, some, all)) c.in_ok-header.ensures.words) in
      absurd (c.in_default.ensures (h.word 1) (h.word 2) (pages_there (h.size / 8) (512 * c.page_count.result) h.word c.deref.result.now sized.words (subst (λ (xs : List ℕ). 3 ≤ length xs) (sym c.deref.ensures.value) (omega (arith, long))) begins (r (said_is s n i 3 c.requires.inodes c.requires.ino is)).region)),
)

pub returns-clause-keeps : goal.returns-clause-keeps
returns-clause-keeps g c =
    let s = g.V.Blocks.seen c.args.v.now in
    let n = c.args.inodes.now in
    let i : ℕ = c.args.i.0 in
    let h : Held = held_of n.shape s.words i in
    let is = sym c.kind.ensures ∙ c.if-kind-ne-REGION.false in
    let sized = region_sized s n i c.page_count.result c.requires.inodes c.requires.mapped.laid.sizes (record { ino = c.requires.ino; kind = is }) (c.page_count.ensures.pages ∙ pages_of c.size.ensures) in
    let some = sized.some in
    let all = sized.all in
    let long = c.in_ok-header.ensures.words.len in
    let header : Begins h.word c.deref.result.now = subst (λ (xs : List ℕ). Begins h.word xs) (sym c.deref.ensures.value) (front_begins h 1 c.in_ok-header.header.items (omega (arith, some, all)) c.in_ok-header.ensures.words) in
    let sizes = pages_back (h.size / 8) (512 * c.page_count.result) h.word c.in-Some.pages.undo c.in-Some.pages.pages c.deref.result.now sized.words (subst (λ (xs : List ℕ). 3 ≤ length xs) (sym c.deref.ensures.value) (omega (arith, long))) header c.in-Some.ensures in
    let size = sizes.size in
    let front = c.front.ensures in
    let begins : Begins h.word c.deref_mut.result.now = subst (λ (xs : List ℕ). Begins h.word xs) (sym c.deref_mut.ensures.value) (front_begins h c.front.result c.in_ok-words.words.items (omega (arith, all, size, front)) (subst (λ (f : BlockWords). HasFront (held_of n.shape f i) c.front.result c.in_ok-words.words.items) c.in_ok-header.ensures.looked.looks.words c.in_ok-words.ensures.words)) in
    let sound = c.is_sound_region.ensures (h.size / 8) h.word sizes begins in (
      λ e kind. sound.0 e,
      λ r. sound.1 (r (said_is s n i 3 c.requires.inodes c.requires.ino is)),
    )

pub returns-then-kind-ne-REGION-clause-looked : goal.returns-then-kind-ne-REGION-clause-looked
returns-then-kind-ne-REGION-clause-looked g c = looked_none g.V.Blocks.seen g.V.Blocks.health g.V.Blocks.sound g.V.Blocks.passes c.args.v.now _ (g.met.V.Blocks.passes_refl c.args.v.now) c.requires.can.keeps tt

pub returns-then-kind-ne-REGION-clause-keeps : goal.returns-then-kind-ne-REGION-clause-keeps
returns-then-kind-ne-REGION-clause-keeps g c = (
  λ e. region_none (held_of c.args.inodes.now.shape (g.V.Blocks.seen c.args.v.now).words) c.args.i.0 c.kind.result (said_is (g.V.Blocks.seen c.args.v.now) c.args.inodes.now c.args.i.0 c.kind.result c.requires.inodes c.requires.ino (sym c.kind.ensures)) c.if-kind-ne-REGION.true,
  λ h. refl,
)

pub returns-in_err-header-clause-unrefused : goal.returns-in_err-header-clause-unrefused
returns-in_err-header-clause-unrefused g c =
    let p = err_from_is_err_and c.from_residual.result c.from_residual.ensures.1 in
    refused_err (λ _ _. ⊥) (λ _ _. ⊥) c.read_front.result c.from_residual.result _ p.0 c.in_err-header.was p.1 p.2 (λ rule b h. h) c.read_front.ensures.unrefused

pub returns-in_err-header-clause-looked : goal.returns-in_err-header-clause-looked
returns-in_err-header-clause-looked g c =
    let p = err_from_is_err_and c.from_residual.result c.from_residual.ensures.1 in
    looked_err g.V.Blocks.seen g.V.Blocks.health g.V.Blocks.sound g.V.Blocks.passes _ _ c.read_front.result c.from_residual.result _ p.0 c.in_err-header.was p.1 p.2 c.read_front.ensures.looked

pub returns-in_default-clause-looked : goal.returns-in_default-clause-looked
returns-in_default-clause-looked g c = looked_quiet g.V.Blocks.seen g.V.Blocks.health g.V.Blocks.sound g.V.Blocks.passes _ _ _ _ tt tt c.in_ok-header.ensures.looked

pub read_front-requires-2-clause-can : goal.read_front-requires-2-clause-can
read_front-requires-2-clause-can g c = can_go_on g.V.Blocks.seen g.V.Blocks.health g.V.Blocks.sound g.V.Blocks.passes g.met.V.Blocks.passes_trans _ _ c.requires.can (on_first g.V.Blocks.seen g.V.Blocks.health g.V.Blocks.sound g.V.Blocks.passes _ _ _ c.in_ok-header.ensures.looked)

pub read_front-requires-2-clause-inodes : goal.read_front-requires-2-clause-inodes
read_front-requires-2-clause-inodes g c = inodes_on (g.V.Blocks.seen c.args.v.now) (g.V.Blocks.seen c.read_front.new.v) c.args.inodes.now c.in_ok-header.ensures.looked.looks c.requires.inodes

pub read_front-requires-2-clause-sizes : goal.read_front-requires-2-clause-sizes
read_front-requires-2-clause-sizes g c = layout_on (g.V.Blocks.seen c.args.v.now) (g.V.Blocks.seen c.read_front.new.v) c.args.inodes.now SizeRule c.in_ok-header.ensures.looked.looks c.requires.mapped.laid.sizes

pub read_front-requires-2-clause-numbers : goal.read_front-requires-2-clause-numbers
read_front-requires-2-clause-numbers g c = layout_on (g.V.Blocks.seen c.args.v.now) (g.V.Blocks.seen c.read_front.new.v) c.args.inodes.now NumberRule c.in_ok-header.ensures.looked.looks c.requires.mapped.laid.numbers

pub returns-in_err-words-clause-unrefused : goal.returns-in_err-words-clause-unrefused
returns-in_err-words-clause-unrefused g c =
    let p = err_from_is_err_and c.from_residual-in_err-words.result c.from_residual-in_err-words.ensures.1 in
    refused_err (λ _ _. ⊥) (λ _ _. ⊥) c.read_front-2.result c.from_residual-in_err-words.result _ p.0 c.in_err-words.was p.1 p.2 (λ rule b h. h) c.read_front-2.ensures.unrefused

pub returns-in_err-words-clause-looked : goal.returns-in_err-words-clause-looked
returns-in_err-words-clause-looked g c =
    let p = err_from_is_err_and c.from_residual-in_err-words.result c.from_residual-in_err-words.ensures.1 in
    on_err g.V.Blocks.seen g.V.Blocks.health g.V.Blocks.sound g.V.Blocks.passes g.met.V.Blocks.passes_trans _ _ _ c.read_front-2.result c.from_residual-in_err-words.result _ p.0 (on_first g.V.Blocks.seen g.V.Blocks.health g.V.Blocks.sound g.V.Blocks.passes _ _ _ c.in_ok-header.ensures.looked) c.in_err-words.was p.1 p.2 c.read_front-2.ensures.looked

pub returns-clause-looked : goal.returns-clause-looked
returns-clause-looked g c = on_quiet g.V.Blocks.seen g.V.Blocks.health g.V.Blocks.sound g.V.Blocks.passes c.args.v.now c.read_front-2.new.v _ tt (on_ok g.V.Blocks.seen g.V.Blocks.health g.V.Blocks.sound g.V.Blocks.passes g.met.V.Blocks.passes_trans c.args.v.now c.read_front.new.v c.read_front-2.new.v _ (on_first g.V.Blocks.seen g.V.Blocks.health g.V.Blocks.sound g.V.Blocks.passes _ _ _ c.in_ok-header.ensures.looked) c.in_ok-words.ensures.looked)
