use Rattle.cached_pages.proofs.Edits.{edit_entries, edit_puts, edit_room}
use Rattle.cached_pages.proofs.updating.put_edit.Goals as goal

pub put_word-requires-clause-protected : goal.put_word-requires-clause-protected
put_word-requires-clause-protected g c = edit_room (g.M.Machine.contents c.args.m.now) _ c.args.k c.args.p.0 c.requires.coherent c.requires.valid c.requires.page

pub returns-clause-puts : goal.returns-clause-puts
returns-clause-puts g c = edit_puts (g.M.Machine.contents c.args.m.now) (g.M.Machine.contents c.put_word.new.m) _ c.args.k c.args.b.0 c.args.w c.args.v c.args.p.0 c.requires.coherent c.in_ok-put_word.ensures.stored c.requires.valid c.requires.block c.requires.dirty c.requires.page c.requires.word

pub returns-clause-entries : goal.returns-clause-entries
returns-clause-entries g c = edit_entries (g.M.Machine.contents c.args.m.now) (g.M.Machine.contents c.put_word.new.m) c.args.k c.args.w c.args.v c.args.p.0 c.in_ok-put_word.ensures.stored c.requires.page c.requires.word
