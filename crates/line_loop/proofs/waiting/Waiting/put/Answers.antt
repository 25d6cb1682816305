use Rattle.std.proofs.Common.{ap, length, ◌∙◌}
use Rattle.line_loop.proofs.Leaving.{fits_still, put_cut, put_held, room_fits, room_kept, room_wide}
use Rattle.line_loop.proofs.waiting.Waiting.put.Goals as goal

pub put_reply-requires-clause-fits : goal.put_reply-requires-clause-fits
put_reply-requires-clause-fits g c = room_fits c.as_mut_slice.ensures.value c.self.invariant.0

pub put_reply-requires-clause-enough : goal.put_reply-requires-clause-enough
put_reply-requires-clause-enough g c = room_wide c.as_mut_slice.ensures.value c.self.invariant.1

pub returns-in_err-self-inside : goal.returns-in_err-self-inside
returns-in_err-self-inside g c = put_cut c.self.inside.held c.self.inside.room.items c.from_residual.ensures.0 c.in_err-self-inside.ensures.err c.as_mut_slice.ensures.value c.self.view_is

pub returns : goal.returns
returns g c = put_held c.self.inside.held c.self.inside.room.items _ _ _ c.in_ok-self-inside.ensures.ok c.as_mut_slice.ensures.value c.self.view_is (c.put_reply.auto.room ∙ c.as_mut_slice.ensures.len)

pub invariant_of-self : goal.invariant_of-self
invariant_of-self g c = room_kept _ _ _ (c.put_reply.auto.room ∙ c.as_mut_slice.ensures.len) (fits_still (c.put_reply.auto.room ∙ ap length c.as_mut_slice.ensures.value) c.self.invariant.0) (c.put_reply.auto.room ∙ ap length c.as_mut_slice.ensures.value ∙ c.self.invariant.1)

pub invariant_of-self-2 : goal.invariant_of-self-2
invariant_of-self-2 g c = room_kept _ _ _ (c.put_reply.auto.room ∙ c.as_mut_slice.ensures.len) c.in_ok-self-inside.ensures.ok.fits (c.put_reply.auto.room ∙ ap length c.as_mut_slice.ensures.value ∙ c.self.invariant.1)
