use Rattle.file_pages.proofs.Common.{◌+◌, ◌<◌, ◌≤◌, ◌∙◌, ℕ, length, sym, subst, arith, inl, OnOk, free_blocks, placed_at, numbered_of, largest_size}
use Rattle.node_pages.specs.Changes.{wanted_blocks}
use Rattle.file_pages.specs.Files.{HasSpace}
use Rattle.node_pages.proofs.Given.{given_most}
use Rattle.node_pages.proofs.EndsOn.{on_any}
use Rattle.file_pages.proofs.Resized.{space_less}
use Rattle.file_pages.proofs.writing.write_at.Goals as goal

pub write_within-requires-clause-file : goal.write_within-requires-clause-file
write_within-requires-clause-file g c = c.requires.inode.kind ∙ c.requires.file

pub write_past-requires-clause-file : goal.write_past-requires-clause-file
write_past-requires-clause-file g c = c.requires.inode.kind ∙ c.requires.file

pub returns-then-off-bytes-clause-room : goal.returns-then-off-bytes-clause-room
returns-then-off-bytes-clause-room g c =
    let shape = c.args.shape.now in
    let x = g.V.Blocks.seen c.args.v.now in
    let i = c.args.i.0 in
    let len = c.args.off + length c.args.bytes.now in
    let own = c.requires.inode in
    let most : c.args.inode.now.size ≤ largest_size = given_most shape x.words i c.args.inode.now (numbered_of shape x.words c.requires.ready.order.mapped) c.requires.ino (inl (own, omega (arith, sym own.kind, c.requires.file))) in
    on_any (HasSpace shape x.words (placed_at x.words i).size len) c.write_within.result (space_less shape x.words (placed_at x.words i).size len (subst (λ (n : ℕ). n ≤ largest_size) own.size most) (subst (λ (n : ℕ). len ≤ n) own.size c.if-off-bytes.true))

pub returns-then-off-bytes-clause-no_space : goal.returns-then-off-bytes-clause-no_space
returns-then-off-bytes-clause-no_space g c = λ is. absurd (c.write_within.ensures.spacious is)

pub returns-else-off-bytes-clause-room : goal.returns-else-off-bytes-clause-room
returns-else-off-bytes-clause-room g c =
    let x = g.V.Blocks.seen c.args.v.now in
    subst (λ n. OnOk c.write_past.result (HasSpace c.args.shape.now x.words n (c.args.off + length c.args.bytes.now))) c.requires.inode.size c.write_past.ensures.room

pub returns-else-off-bytes-clause-no_space : goal.returns-else-off-bytes-clause-no_space
returns-else-off-bytes-clause-no_space g c =
    let x = g.V.Blocks.seen c.args.v.now in
    λ is. subst (λ n. length (free_blocks c.args.shape.now x.words) < wanted_blocks n (c.args.off + length c.args.bytes.now)) c.requires.inode.size (c.write_past.ensures.no_space is)

pub write_within-requires-clause-within : goal.write_within-requires-clause-within
write_within-requires-clause-within g c = c.if-off-bytes.true

pub write_past-requires-clause-past : goal.write_past-requires-clause-past
write_past-requires-clause-past g c = omega (arith, c.if-off-bytes.false)
