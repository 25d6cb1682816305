use Rattle.std.proofs.Common.{◌≡◌, ◌≢◌, ◌≤◌, ap, arith, sym, subst}
use Rattle.frame_pool.specs.declared.frame.Frame.{Frame}
use Rattle.frame_pool.specs.Frames.{younger_at}
use Rattle.frame_pool.proofs.Holding.{read_here}
use Rattle.frame_pool.proofs.Moves.{younger_near}
use Rattle.frame_pool.proofs.Nexts.{none_next, some_next}
use Rattle.frame_pool.proofs.frame_pool.FramePool.next_used.Goals as goal

pub returns-then-next-self-clause-next : goal.returns-then-next-self-clause-next
returns-then-next-self-clause-next c = λ xs ys e.
    let p = c.args.self.now in
    let f = c.index.result.now in
    let is : f.younger ≡ younger_at p.frames.items c.args.k = ap (λ (g : Frame). g.younger) (read_here p c.args.k f (omega (arith, c.requires.within)) c.index.ensures) in
    let last : f.younger ≡ p.count = grind (arith, c.if-next-self.true) in
    none_next p.frames.items p.count c.args.k f.younger xs ys p.ring p.once is last e

pub returns-clause-next : goal.returns-clause-next
returns-clause-next c = λ xs ys e.
    let p = c.args.self.now in
    let f = c.index.result.now in
    let is : f.younger ≡ younger_at p.frames.items c.args.k = ap (λ (g : Frame). g.younger) (read_here p c.args.k f (omega (arith, c.requires.within)) c.index.ensures) in
    let more : f.younger ≢ p.count = λ q. grind (arith, q, c.if-next-self.false) in
    some_next p.frames.items p.count c.args.k f.younger xs ys p.ring p.once is more e

pub returns-clause-within : goal.returns-clause-within
returns-clause-within c =
    let p = c.args.self.now in
    let f = c.index.result.now in
    let is : f.younger ≡ younger_at p.frames.items c.args.k = ap (λ (g : Frame). g.younger) (read_here p c.args.k f (omega (arith, c.requires.within)) c.index.ensures) in
    let near : f.younger ≤ p.count = subst (λ y. y ≤ p.count) (sym is) (younger_near p.count c.args.k p.frames.items p.ring p.once c.requires.within) in
    let more : f.younger ≢ p.count = λ q. grind (arith, q, c.if-next-self.false) in
    omega (arith, near, more)
