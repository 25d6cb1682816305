use Rattle.std.proofs.Common.{refl}
use Rattle.rio_words.specs.declared.command.RioCommand.TheVariants.{Check, Drill, Format, Registry, Serve}
use Rattle.rio_commands.specs.Outside.{benched}
use Rattle.rio_server.proofs.Commands.{host_told, limit_told, no_form, no_serve_read, obeys_as, sink_told, source_told, starved_obeys, unread_told, usage_told}
use Rattle.rio_server.proofs.program.run.Goals as goal

-- ---- a command was read

pub returns-in-Ok-clause-usage : goal.returns-in-Ok-clause-usage
returns-in-Ok-clause-usage g c = (
  λ is command. usage_told _ _ _ _ _ c.obey.ensures.obeyed is,
  λ none. absurd (none (record { command = c.in-Ok.command; reads = c.in-Ok.ensures.reading })),
)

pub returns-in-Ok-clause-untouched : goal.returns-in-Ok-clause-untouched
returns-in-Ok-clause-untouched g c = λ none. absurd (none (record { command = c.in-Ok.command; reads = c.in-Ok.ensures.reading }))

pub returns-in-Ok-clause-told : goal.returns-in-Ok-clause-told
returns-in-Ok-clause-told g c = λ is. absurd (usage_told _ _ _ _ _ c.obey.ensures.obeyed is)

pub returns-in-Ok-clause-served : goal.returns-in-Ok-clause-served
returns-in-Ok-clause-served g c = λ image disk stop reads. obeys_as (Serve image disk stop) _ _ _ _ _ (c.in-Ok.ensures.only _ reads) c.obey.ensures.obeyed

pub returns-in-Ok-clause-formatted : goal.returns-in-Ok-clause-formatted
returns-in-Ok-clause-formatted g c = λ image disk frames blocks inodes scratch reads.
    obeys_as (Format image disk frames blocks inodes scratch) _ _ _ _ _ (c.in-Ok.ensures.only _ reads) c.obey.ensures.obeyed

pub returns-in-Ok-clause-listed : goal.returns-in-Ok-clause-listed
returns-in-Ok-clause-listed g c = λ image reads. obeys_as (Registry image) _ _ _ _ _ (c.in-Ok.ensures.only _ reads) c.obey.ensures.obeyed

pub returns-in-Ok-clause-checked : goal.returns-in-Ok-clause-checked
returns-in-Ok-clause-checked g c = λ image disk reads. obeys_as (Check image disk) _ _ _ _ _ (c.in-Ok.ensures.only _ reads) c.obey.ensures.obeyed

pub returns-in-Ok-clause-drilled : goal.returns-in-Ok-clause-drilled
returns-in-Ok-clause-drilled g c = λ seed boots requests reads. obeys_as (Drill seed boots requests) _ _ _ _ _ (c.in-Ok.ensures.only _ reads) c.obey.ensures.obeyed

pub returns-in-Ok-clause-unread : goal.returns-in-Ok-clause-unread
returns-in-Ok-clause-unread g c = unread_told _ _ _ _ _ _ c.in-Ok.ensures.reading c.obey.ensures.obeyed

pub returns-in-Ok-clause-unused : goal.returns-in-Ok-clause-unused
returns-in-Ok-clause-unused g c = λ none. c.obey.ensures.unused (no_serve_read _ _ c.in-Ok.ensures.reading none)

pub returns-in-Ok-clause-host_fault : goal.returns-in-Ok-clause-host_fault
returns-in-Ok-clause-host_fault g c = host_told _ _ _ _ _ _ c.in-Ok.ensures.reading c.obey.ensures.obeyed

pub returns-in-Ok-clause-source_fault : goal.returns-in-Ok-clause-source_fault
returns-in-Ok-clause-source_fault g c = source_told _ _ _ _ _ c.obey.ensures.obeyed

pub returns-in-Ok-clause-sink_fault : goal.returns-in-Ok-clause-sink_fault
returns-in-Ok-clause-sink_fault g c = sink_told _ _ _ _ _ c.obey.ensures.obeyed

pub returns-in-Ok-clause-limit : goal.returns-in-Ok-clause-limit
returns-in-Ok-clause-limit g c = limit_told _ _ _ _ _ c.obey.ensures.obeyed

-- ---- the words are none

pub returns-in-Err-Usage-clause-served : goal.returns-in-Err-Usage-clause-served
returns-in-Err-Usage-clause-served g c = λ image disk stop reads. absurd (no_form _ _ c.in-Err-Usage.field-0-is c.in-Err-Usage.ensures.reading (Serve image disk stop) reads)

pub returns-in-Err-Usage-clause-formatted : goal.returns-in-Err-Usage-clause-formatted
returns-in-Err-Usage-clause-formatted g c = λ image disk frames blocks inodes scratch reads.
    absurd (no_form _ _ c.in-Err-Usage.field-0-is c.in-Err-Usage.ensures.reading (Format image disk frames blocks inodes scratch) reads)

pub returns-in-Err-Usage-clause-listed : goal.returns-in-Err-Usage-clause-listed
returns-in-Err-Usage-clause-listed g c = λ image reads. absurd (no_form _ _ c.in-Err-Usage.field-0-is c.in-Err-Usage.ensures.reading (Registry image) reads)

pub returns-in-Err-Usage-clause-checked : goal.returns-in-Err-Usage-clause-checked
returns-in-Err-Usage-clause-checked g c = λ image disk reads. absurd (no_form _ _ c.in-Err-Usage.field-0-is c.in-Err-Usage.ensures.reading (Check image disk) reads)

pub returns-in-Err-Usage-clause-drilled : goal.returns-in-Err-Usage-clause-drilled
returns-in-Err-Usage-clause-drilled g c = λ seed boots requests reads. absurd (no_form _ _ c.in-Err-Usage.field-0-is c.in-Err-Usage.ensures.reading (Drill seed boots requests) reads)

-- ---- there was no memory to read one

pub returns-in-Err-Memory-clause-served : goal.returns-in-Err-Memory-clause-served
returns-in-Err-Memory-clause-served g c = λ image disk stop reads.
    starved_obeys (Serve image disk stop) _ _ _ (benched (g.B.Bench.pages c.args.bench.now) (g.B.Bench.parted c.args.bench.now) (g.B.Bench.tells_start c.args.bench.now) (g.B.Bench.tells c.args.bench.now) (g.B.Bench.began c.args.bench.now) (g.B.Bench.left c.args.bench.now)) (record { is = c.end_without_memory.ensures.status; kept = refl; unread = refl; source = refl; host = refl; later = c.end_without_memory.ensures.later; unmade = c.requires.unmade; told = c.end_without_memory.ensures.told })

pub returns-in-Err-Memory-clause-formatted : goal.returns-in-Err-Memory-clause-formatted
returns-in-Err-Memory-clause-formatted g c = λ image disk frames blocks inodes scratch reads.
    starved_obeys (Format image disk frames blocks inodes scratch) _ _ _ (benched (g.B.Bench.pages c.args.bench.now) (g.B.Bench.parted c.args.bench.now) (g.B.Bench.tells_start c.args.bench.now) (g.B.Bench.tells c.args.bench.now) (g.B.Bench.began c.args.bench.now) (g.B.Bench.left c.args.bench.now)) (record { is = c.end_without_memory.ensures.status; kept = refl; unread = refl; source = refl; host = refl; later = c.end_without_memory.ensures.later; unmade = c.requires.unmade; told = c.end_without_memory.ensures.told })

pub returns-in-Err-Memory-clause-listed : goal.returns-in-Err-Memory-clause-listed
returns-in-Err-Memory-clause-listed g c = λ image reads.
    starved_obeys (Registry image) _ _ _ (benched (g.B.Bench.pages c.args.bench.now) (g.B.Bench.parted c.args.bench.now) (g.B.Bench.tells_start c.args.bench.now) (g.B.Bench.tells c.args.bench.now) (g.B.Bench.began c.args.bench.now) (g.B.Bench.left c.args.bench.now)) (record { is = c.end_without_memory.ensures.status; kept = refl; unread = refl; source = refl; host = refl; later = c.end_without_memory.ensures.later; unmade = c.requires.unmade; told = c.end_without_memory.ensures.told })

pub returns-in-Err-Memory-clause-checked : goal.returns-in-Err-Memory-clause-checked
returns-in-Err-Memory-clause-checked g c = λ image disk reads.
    starved_obeys (Check image disk) _ _ _ (benched (g.B.Bench.pages c.args.bench.now) (g.B.Bench.parted c.args.bench.now) (g.B.Bench.tells_start c.args.bench.now) (g.B.Bench.tells c.args.bench.now) (g.B.Bench.began c.args.bench.now) (g.B.Bench.left c.args.bench.now)) (record { is = c.end_without_memory.ensures.status; kept = refl; unread = refl; source = refl; host = refl; later = c.end_without_memory.ensures.later; unmade = c.requires.unmade; told = c.end_without_memory.ensures.told })

pub returns-in-Err-Memory-clause-drilled : goal.returns-in-Err-Memory-clause-drilled
returns-in-Err-Memory-clause-drilled g c = λ seed boots requests reads.
    starved_obeys (Drill seed boots requests) _ _ _ (benched (g.B.Bench.pages c.args.bench.now) (g.B.Bench.parted c.args.bench.now) (g.B.Bench.tells_start c.args.bench.now) (g.B.Bench.tells c.args.bench.now) (g.B.Bench.began c.args.bench.now) (g.B.Bench.left c.args.bench.now)) (record { is = c.end_without_memory.ensures.status; kept = refl; unread = refl; source = refl; host = refl; later = c.end_without_memory.ensures.later; unmade = c.requires.unmade; told = c.end_without_memory.ensures.told })
