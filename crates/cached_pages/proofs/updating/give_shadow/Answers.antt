use Rattle.cached_pages.proofs.Common.{◌<◌, arith, length-set, subst, sym}
use Rattle.std.proofs.Common.{refl}
use Rattle.cached_pages.proofs.Touches.{given_sound, shadow_kept}
use Rattle.cached_pages.proofs.Updates.{sound_same}
use Rattle.cached_pages.proofs.Goes.{ends_stop}
use Rattle.cached_pages.proofs.Rooms.{frame_bound}
use Rattle.cached_pages.proofs.Stills.{still_rest}
use Rattle.write_back.proofs.Exits.{not_ok}
use Rattle.cached_pages.proofs.updating.give_shadow.Goals as goal

pub returns-in_err-shadow-clause-sound : goal.returns-in_err-shadow-clause-sound
returns-in_err-shadow-clause-sound g c = sound_same _ _ _ _ _ c.requires.sound c.shadow.ensures.ends.steps.scratch_count (c.shadow.ensures.keeps.coherent _) c.shadow.ensures.rest c.shadow.ensures.closed c.shadow.ensures.names (shadow_kept c.args.k _ _ c.shadow.ensures.others c.in_err-shadow.ensures.cut) (c.shadow.ensures.keeps.header 4 (omega arith))

pub returns-clause-sound : goal.returns-clause-sound
returns-clause-sound g c = given_sound _ _ c.args.k _ _ _ _ c.requires.sound c.shadow.ensures.ends.steps.scratch_count c.shadow.ensures.keeps c.shadow.ensures.rest c.shadow.ensures.closed c.shadow.ensures.names c.requires.updating c.requires.valid c.requires.dirty c.requires.room c.in_ok-shadow.ensures.given c.shadow.ensures.others (record { frames = c.pin.ensures.frames; blocks = c.pin.ensures.blocks; held = c.pin.ensures.held; forgotten = refl; early = refl; buffer = refl; first = refl; room = length-set _ _ _ }) refl refl c.pin.ensures.pinned c.pin.ensures.others c.pin.ensures.most

pub shadow-requires-clause-from : goal.shadow-requires-clause-from
shadow-requires-clause-from g c = omega arith

pub shadow-requires-clause-to : goal.shadow-requires-clause-to
shadow-requires-clause-to g c = omega (arith, c.requires.room)

pub shadow-requires-clause-free : goal.shadow-requires-clause-free
shadow-requires-clause-free g c = λ j v is. absurd (omega (arith, is, (c.requires.sound.shadows j v (λ none. absurd (omega (arith, is, none)))).0))

pub pin-requires-clause-within : goal.pin-requires-clause-within
pin-requires-clause-within g c = subst (λ f. c.args.k < f) (sym c.requires.sound.frames) c.requires.valid.within

pub pin-requires-clause-bound : goal.pin-requires-clause-bound
pin-requires-clause-bound g c = frame_bound c.args.k _ (g.M.Machine.contents c.args.m.now) c.args.t.now c.requires.sound c.requires.valid

pub returns-clause-given : goal.returns-clause-given
returns-clause-given g c = λ none. absurd (omega (arith, c.in_ok-shadow.ensures.given, none))

pub returns-clause-still : goal.returns-clause-still
returns-clause-still g c = still_rest _ _ c.shadow.ensures.rest

pub returns-in_err-shadow-clause-given : goal.returns-in_err-shadow-clause-given
returns-in_err-shadow-clause-given g c = not_ok _ c.from_residual.result c.from_residual.ensures.0

pub returns-in_err-shadow-clause-count : goal.returns-in_err-shadow-clause-count
returns-in_err-shadow-clause-count g c = not_ok _ c.from_residual.result c.from_residual.ensures.0

pub returns-in_err-shadow-clause-still : goal.returns-in_err-shadow-clause-still
returns-in_err-shadow-clause-still g c = still_rest _ _ c.shadow.ensures.rest

pub returns-in_err-shadow-clause-ends : goal.returns-in_err-shadow-clause-ends
returns-in_err-shadow-clause-ends g c = ends_stop (g.M.Machine.run c.args.m.now) (g.M.Machine.run c.shadow.new.m) _ _ refl c.from_residual.ensures.0 c.in_err-shadow.ensures.ends
