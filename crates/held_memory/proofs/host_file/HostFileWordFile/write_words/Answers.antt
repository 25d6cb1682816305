use Rattle.std.proofs.Common.{length}
use Rattle.std.specs.String.{string_bytes}
use Rattle.held_memory.proofs.HostWrites.{host_torn, host_written, on_err, on_ok}
use Rattle.held_memory.proofs.host_file.HostFileWordFile.write_words.Goals as goal

pub returns-clause-ok : goal.returns-clause-ok
returns-clause-ok g c = on_ok c.write_run.result _ _ (host_written c.args.at c.args.words.now (g.H.Host.files c.args.self.now.host) (g.H.Host.files c.write_run.new.host) (string_bytes c.args.self.now.name)) c.write_run.ensures.ok

pub returns-clause-err : goal.returns-clause-err
returns-clause-err g c = on_err c.write_run.result _ _ (host_torn c.args.at (length c.args.words.now) (g.H.Host.files c.args.self.now.host) (g.H.Host.files c.write_run.new.host) (string_bytes c.args.self.now.name)) c.write_run.ensures.err
