-- What lines ask of a core, and what its requests touch and do.
use Rattle.std.specs.Prelude.{◌≡◌, false, None}
use Rattle.rio_base.specs.Volume.{Below}
use Rattle.rio_model.specs.declared.state.State.{State}
use Rattle.rio_requests.specs.declared.request.Request.{Request}
use Rattle.rio_requests.specs.declared.request.Request.TheVariants.{Unlink, Rmdir, Rename, List, Put, Get, Alloc, Free, Read, Stat, Sync, Txns, Arm}
use Rattle.rio_requests.specs.declared.reply.Reply.{Reply}
use Rattle.rio_requests.specs.Parts.{IsPart}
use Rattle.rio_requests.specs.Run.{Step}
use Rattle.rio_requests.specs.Went.{StoppedOn, Went}
use Rattle.request_codec.specs.Form.{Means}
use Rattle.request_codec.specs.Text.{text_of}
use Rattle.line_loop.specs.declared.effects.Effect.{Effect}
use Rattle.line_loop.specs.declared.effects.Effect.TheVariants.{Nothing, Changes, Arms}
use Rattle.line_loop.specs.Protocol.{Protocol}

-- ---- requests by what they touch

-- a name goes or moves, or names are listed
abbrev pub ByName : Request → Type 0
ByName (Unlink path) = Unit {0}
ByName (Rmdir path) = Unit {0}
ByName (Rename path to) = Unit {0}
ByName (List path) = Unit {0}
ByName _ = ⊥

-- on the bytes of a region and the blocks of its heap
abbrev pub Within : Request → Type 0
Within (Put path off bytes) = Unit {0}
Within (Get path off len) = Unit {0}
Within (Alloc path units) = Unit {0}
Within (Free path unit) = Unit {0}
Within _ = ⊥

-- ---- what lines ask

abbrev pub core_protocol : Protocol Request Reply State
core_protocol = record { means = Means; text = text_of; step = Step; part = IsPart; went = Went; stopped_on = StoppedOn }

-- what each request may do besides being answered. A flush changes no state, but the disk
abbrev pub effect_of : Request → Effect
effect_of (Read path off len) = Nothing
effect_of (Stat path) = Nothing
effect_of (List path) = Nothing
effect_of Sync = Nothing
effect_of (Get path off len) = Nothing
effect_of Txns = Nothing
effect_of (Arm step at value) = Arms
effect_of _ = Changes

-- a machine that nothing but a wild store stops: no stop is set, and no store is armed
abbrev pub IsCalm : Below → Type 0
IsCalm b = (b.causes.stop_set ≡ false) × (b.causes.armed ≡ None)
