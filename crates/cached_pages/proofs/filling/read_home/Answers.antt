use Rattle.cached_pages.proofs.Fills.{keeps_faults}
use Rattle.cached_pages.proofs.Common.{◌∙◌, ap, Contents, Stopped}
use Rattle.cached_pages.proofs.Goes.{ends_same}
use Rattle.cached_pages.proofs.Stills.{still_faults}
use Rattle.rio_base.proofs.MachineRules.{never}
use Rattle.write_back.proofs.Exits.{not_ok}
use Rattle.cached_pages.proofs.filling.read_home.Goals as goal

pub returns-in_err-read_block-clause-keeps : goal.returns-in_err-read_block-clause-keeps
returns-in_err-read_block-clause-keeps g c = keeps_faults (g.M.Machine.contents c.args.m.now) _ _ c.read_block.ensures.same

pub returns-clause-keeps : goal.returns-clause-keeps
returns-clause-keeps g c = keeps_faults (g.M.Machine.contents c.args.m.now) _ _ c.read_block.ensures.same

pub returns-clause-memory : goal.returns-clause-memory
returns-clause-memory g c = ap (λ (x : Contents). x.words) c.read_block.ensures.same

pub returns-clause-disk : goal.returns-clause-disk
returns-clause-disk g c = ap (λ (x : Contents). x.disk) c.read_block.ensures.same

pub returns-clause-still : goal.returns-clause-still
returns-clause-still g c = still_faults _ _ _ c.read_block.ensures.same

pub returns-clause-closed : goal.returns-clause-closed
returns-clause-closed g c = ap (λ (x : Contents). x.open_page) c.read_block.ensures.same ∙ c.requires.closed

pub returns-in_err-read_block-clause-memory : goal.returns-in_err-read_block-clause-memory
returns-in_err-read_block-clause-memory g c = ap (λ (x : Contents). x.words) c.read_block.ensures.same

pub returns-in_err-read_block-clause-disk : goal.returns-in_err-read_block-clause-disk
returns-in_err-read_block-clause-disk g c = ap (λ (x : Contents). x.disk) c.read_block.ensures.same

pub returns-in_err-read_block-clause-still : goal.returns-in_err-read_block-clause-still
returns-in_err-read_block-clause-still g c = still_faults _ _ _ c.read_block.ensures.same

pub returns-in_err-read_block-clause-closed : goal.returns-in_err-read_block-clause-closed
returns-in_err-read_block-clause-closed g c = ap (λ (x : Contents). x.open_page) c.read_block.ensures.same ∙ c.requires.closed

pub returns-in_err-read_block-clause-words : goal.returns-in_err-read_block-clause-words
returns-in_err-read_block-clause-words g c = not_ok _ c.from_residual.result c.from_residual.ensures.0

pub returns-clause-fault : goal.returns-clause-fault
returns-clause-fault g c = λ q. absurd (never _ _ q)

pub returns-clause-ends : goal.returns-clause-ends
returns-clause-ends g c = ends_same _ _ _ c.read_block.ensures.run (never _ Stopped)
