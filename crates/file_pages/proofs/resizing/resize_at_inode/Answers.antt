use Rattle.rio_base.specs.Rules.{goes_refl}
use Rattle.node_pages.proofs.Ends.{refused_still}
use Rattle.node_pages.proofs.OrderRules.{leaves_refl}
use Rattle.file_pages.proofs.Common.{◌≡◌, ◌<◌, ◌⊎◌, length, sym, subst, arith, OnOk, free_blocks, IsIno, placed_at, volume_layout, LeavesInUse, inr}
use Rattle.node_pages.specs.Changes.{wanted_blocks}
use Rattle.file_pages.specs.Files.{HasSpace, file_bytes}
use Rattle.file_pages.proofs.Resized.{file_ino, file_placed, file_size, size_fault, size_ok, size_ready, size_refused, size_stopped}
use Rattle.file_pages.proofs.resizing.resize_at_inode.Goals as goal

pub returns-clause-too_large : goal.returns-clause-too_large
returns-clause-too_large g c = λ is. absurd (c.size_at.ensures.small is)

pub size_at-requires-clause-ino : goal.size_at-requires-clause-ino
size_at-requires-clause-ino g c =
    file_ino c.args.shape.now (g.V.Blocks.seen c.args.v.now).words c.args.i.0 c.requires.file

pub size_at-requires-clause-file : goal.size_at-requires-clause-file
size_at-requires-clause-file g c =
    file_placed c.args.shape.now (g.V.Blocks.seen c.args.v.now).words c.args.i.0 (file_ino c.args.shape.now (g.V.Blocks.seen c.args.v.now).words c.args.i.0 c.requires.file) c.requires.file

pub returns-clause-ok : goal.returns-clause-ok
returns-clause-ok g c =
    let shape = c.args.shape.now in
    let x = g.V.Blocks.seen c.args.v.now in
    let k = g.V.Volume.kept c.args.v.now in
    let y = g.V.Blocks.seen c.size_at.new.v in
    let j = g.V.Volume.kept c.size_at.new.v in
    let i = c.args.i.0 in
    let len = c.args.len in
    let r = c.size_at.result in
    let call = c.size_at.ensures in
    size_ok shape x k y j i len r call.leaves

pub returns-clause-space : goal.returns-clause-space
returns-clause-space g c =
    let shape = c.args.shape.now in
    let x = g.V.Blocks.seen c.args.v.now in
    let k = g.V.Volume.kept c.args.v.now in
    let y = g.V.Blocks.seen c.size_at.new.v in
    let j = g.V.Volume.kept c.size_at.new.v in
    let i = c.args.i.0 in
    let len = c.args.len in
    let r = c.size_at.result in
    let call = c.size_at.ensures in
    let ino : IsIno shape i = file_ino shape x.words i c.requires.file in
    let size : length (file_bytes shape x.words i) ≡ (placed_at x.words i).size = file_size shape x.words i ino (file_placed shape x.words i ino c.requires.file) in
    subst (λ s. OnOk r (HasSpace shape x.words s len)) (sym size) call.room

pub returns-clause-no_space : goal.returns-clause-no_space
returns-clause-no_space g c =
    let shape = c.args.shape.now in
    let x = g.V.Blocks.seen c.args.v.now in
    let k = g.V.Volume.kept c.args.v.now in
    let y = g.V.Blocks.seen c.size_at.new.v in
    let j = g.V.Volume.kept c.size_at.new.v in
    let i = c.args.i.0 in
    let len = c.args.len in
    let r = c.size_at.result in
    let call = c.size_at.ensures in
    let ino : IsIno shape i = file_ino shape x.words i c.requires.file in
    let size : length (file_bytes shape x.words i) ≡ (placed_at x.words i).size = file_size shape x.words i ino (file_placed shape x.words i ino c.requires.file) in
    λ is. (omega (arith, c.if-len-gt-LARGEST_SIZE.false), subst (λ s. length (free_blocks shape x.words) < wanted_blocks s len) (sym size) (call.no_space is))

pub returns-clause-refused : goal.returns-clause-refused
returns-clause-refused g c =
    let shape = c.args.shape.now in
    let x = g.V.Blocks.seen c.args.v.now in
    let k = g.V.Volume.kept c.args.v.now in
    let y = g.V.Blocks.seen c.size_at.new.v in
    let j = g.V.Volume.kept c.size_at.new.v in
    let i = c.args.i.0 in
    let len = c.args.len in
    let r = c.size_at.result in
    let call = c.size_at.ensures in
    size_refused shape x k y j i len r call.leaves

pub returns-clause-fault : goal.returns-clause-fault
returns-clause-fault g c =
    let shape = c.args.shape.now in
    let x = g.V.Blocks.seen c.args.v.now in
    let k = g.V.Volume.kept c.args.v.now in
    let y = g.V.Blocks.seen c.size_at.new.v in
    let j = g.V.Volume.kept c.size_at.new.v in
    let i = c.args.i.0 in
    let len = c.args.len in
    let r = c.size_at.result in
    let call = c.size_at.ensures in
    size_fault shape x k y j i len r call.leaves

pub returns-clause-stopped : goal.returns-clause-stopped
returns-clause-stopped g c =
    let shape = c.args.shape.now in
    let x = g.V.Blocks.seen c.args.v.now in
    let k = g.V.Volume.kept c.args.v.now in
    let y = g.V.Blocks.seen c.size_at.new.v in
    let j = g.V.Volume.kept c.size_at.new.v in
    let i = c.args.i.0 in
    let len = c.args.len in
    let r = c.size_at.result in
    let call = c.size_at.ensures in
    let ino : IsIno shape i = file_ino shape x.words i c.requires.file in
    let size : length (file_bytes shape x.words i) ≡ (placed_at x.words i).size = file_size shape x.words i ino (file_placed shape x.words i ino c.requires.file) in
    size_stopped shape x k y j i len r c.requires.ready (g.met.V.Volume.settled _ c.requires.sound) c.requires.file (subst (λ s. HasSpace shape x.words s len ⊎ LeavesInUse (volume_layout shape x.words) x k y j) (sym size) call.space) call.leaves

pub returns-clause-ready : goal.returns-clause-ready
returns-clause-ready g c =
    let shape = c.args.shape.now in
    let x = g.V.Blocks.seen c.args.v.now in
    let k = g.V.Volume.kept c.args.v.now in
    let y = g.V.Blocks.seen c.size_at.new.v in
    let j = g.V.Volume.kept c.size_at.new.v in
    let i = c.args.i.0 in
    let len = c.args.len in
    let r = c.size_at.result in
    let call = c.size_at.ensures in
    size_ready shape x k y j i len r c.requires.ready call.leaves

pub returns-then-len-gt-LARGEST_SIZE-clause-too_large : goal.returns-then-len-gt-LARGEST_SIZE-clause-too_large
returns-then-len-gt-LARGEST_SIZE-clause-too_large g c = λ is. omega (arith, c.if-len-gt-LARGEST_SIZE.true)

pub returns-then-len-gt-LARGEST_SIZE-clause-no_space : goal.returns-then-len-gt-LARGEST_SIZE-clause-no_space
returns-then-len-gt-LARGEST_SIZE-clause-no_space g c = λ is. absurd cc

pub returns-then-len-gt-LARGEST_SIZE-clause-refused : goal.returns-then-len-gt-LARGEST_SIZE-clause-refused
returns-then-len-gt-LARGEST_SIZE-clause-refused g c = λ is. leaves_refl c.args.shape.now _ _ c.requires.ready

pub returns-then-len-gt-LARGEST_SIZE-clause-fault : goal.returns-then-len-gt-LARGEST_SIZE-clause-fault
returns-then-len-gt-LARGEST_SIZE-clause-fault g c = λ is. absurd cc

pub returns-then-len-gt-LARGEST_SIZE-clause-stopped : goal.returns-then-len-gt-LARGEST_SIZE-clause-stopped
returns-then-len-gt-LARGEST_SIZE-clause-stopped g c = λ is. absurd cc

pub returns-then-len-gt-LARGEST_SIZE-clause-ready : goal.returns-then-len-gt-LARGEST_SIZE-clause-ready
returns-then-len-gt-LARGEST_SIZE-clause-ready g c = inr c.requires.ready

pub returns-then-len-gt-LARGEST_SIZE-clause-goes : goal.returns-then-len-gt-LARGEST_SIZE-clause-goes
returns-then-len-gt-LARGEST_SIZE-clause-goes g c = goes_refl _ _

pub returns-then-len-gt-LARGEST_SIZE-clause-ends : goal.returns-then-len-gt-LARGEST_SIZE-clause-ends
returns-then-len-gt-LARGEST_SIZE-clause-ends g c = refused_still _

pub size_at-requires-clause-most : goal.size_at-requires-clause-most
size_at-requires-clause-most g c = omega (arith, c.if-len-gt-LARGEST_SIZE.false)
