use Rattle.file_pages.proofs.Common.{◌<◌, ◌≤◌, ◌∙◌, ℕ, ◌⊎◌, length, sym, subst, arith, inl, OnOk, free_blocks, placed_at, volume_layout, numbered_of, largest_size, LeavesInUse}
use Rattle.node_pages.specs.Changes.{wanted_blocks}
use Rattle.file_pages.specs.Files.{HasSpace}
use Rattle.node_pages.proofs.Given.{given_most}
use Rattle.node_pages.proofs.EndsOn.{on_any}
use Rattle.file_pages.proofs.Resized.{space_less}
use Rattle.file_pages.proofs.resizing.size_at.Goals as goal

pub shrink-requires-clause-file : goal.shrink-requires-clause-file
shrink-requires-clause-file g c = c.requires.inode.kind ∙ c.requires.file

pub grow-requires-clause-file : goal.grow-requires-clause-file
grow-requires-clause-file g c = c.requires.inode.kind ∙ c.requires.file

pub returns-then-len-inode-clause-space : goal.returns-then-len-inode-clause-space
returns-then-len-inode-clause-space g c =
    let shape = c.args.shape.now in
    let x = g.V.Blocks.seen c.args.v.now in
    let i = c.args.i.0 in
    let own = c.requires.inode in
    let most : c.args.inode.now.size ≤ largest_size = given_most shape x.words i c.args.inode.now (numbered_of shape x.words c.requires.ready.order.mapped) c.requires.ino (inl (own, omega (arith, sym own.kind, c.requires.file))) in
    inl (space_less shape x.words (placed_at x.words i).size c.args.len (subst (λ (n : ℕ). n ≤ largest_size) own.size most) (subst (λ (n : ℕ). c.args.len ≤ n) own.size c.if-len-inode.true))

pub returns-then-len-inode-clause-room : goal.returns-then-len-inode-clause-room
returns-then-len-inode-clause-room g c =
    let shape = c.args.shape.now in
    let x = g.V.Blocks.seen c.args.v.now in
    let i = c.args.i.0 in
    let own = c.requires.inode in
    let most : c.args.inode.now.size ≤ largest_size = given_most shape x.words i c.args.inode.now (numbered_of shape x.words c.requires.ready.order.mapped) c.requires.ino (inl (own, omega (arith, sym own.kind, c.requires.file))) in
    on_any (HasSpace shape x.words (placed_at x.words i).size c.args.len) c.shrink.result (space_less shape x.words (placed_at x.words i).size c.args.len (subst (λ (n : ℕ). n ≤ largest_size) own.size most) (subst (λ (n : ℕ). c.args.len ≤ n) own.size c.if-len-inode.true))

pub returns-then-len-inode-clause-no_space : goal.returns-then-len-inode-clause-no_space
returns-then-len-inode-clause-no_space g c = λ is. absurd (c.shrink.ensures.other.0 is)

pub returns-else-len-inode-clause-space : goal.returns-else-len-inode-clause-space
returns-else-len-inode-clause-space g c =
    let shape = c.args.shape.now in
    let x = g.V.Blocks.seen c.args.v.now in
    let k = g.V.Volume.kept c.args.v.now in
    let y = g.V.Blocks.seen c.grow.new.v in
    let j = g.V.Volume.kept c.grow.new.v in
    subst (λ n. HasSpace shape x.words n c.args.len ⊎ LeavesInUse (volume_layout shape x.words) x k y j) c.requires.inode.size c.grow.ensures.space

pub returns-else-len-inode-clause-room : goal.returns-else-len-inode-clause-room
returns-else-len-inode-clause-room g c =
    let x = g.V.Blocks.seen c.args.v.now in
    subst (λ n. OnOk c.grow.result (HasSpace c.args.shape.now x.words n c.args.len)) c.requires.inode.size c.grow.ensures.room

pub returns-else-len-inode-clause-no_space : goal.returns-else-len-inode-clause-no_space
returns-else-len-inode-clause-no_space g c =
    let x = g.V.Blocks.seen c.args.v.now in
    λ is. subst (λ n. length (free_blocks c.args.shape.now x.words) < wanted_blocks n c.args.len) c.requires.inode.size (c.grow.ensures.no_space is)

pub grow-requires-clause-grows : goal.grow-requires-clause-grows
grow-requires-clause-grows g c = omega (arith, c.if-len-inode.false)

pub shrink-requires-clause-less : goal.shrink-requires-clause-less
shrink-requires-clause-less g c = c.if-len-inode.true
