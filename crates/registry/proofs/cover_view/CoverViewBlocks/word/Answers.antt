use Rattle.std.proofs.Common.{◌<◌, arith, subst, sym}
use Rattle.std.proofs.lemmas.Result.{err_from_is_err_and}
use Rattle.rio_base.proofs.MachineRules.{never}
use Rattle.registry.proofs.Exits.{disk_viewed, ends_err, ends_ok, fault_back, not_ok, view_caches, view_looks}
use Rattle.registry.proofs.Views.{hand_sure, word_viewed}
use Rattle.registry.proofs.cover_view.CoverViewBlocks.word.Goals as goal

pub words_of-requires-clause-block : goal.words_of-requires-clause-block
words_of-requires-clause-block g c = disk_viewed (g.M.Machine.contents c.args.self.now.machine) (g.M.Machine.contents c.fetch.new.self.machine) (g.M.Machine.run c.args.self.now.machine) (g.M.Machine.run c.fetch.new.self.machine) c.args.b.0 c.in_ok-fetch.ensures.viewed c.requires.place.block

pub returns-in_err-fetch-clause-looks : goal.returns-in_err-fetch-clause-looks
returns-in_err-fetch-clause-looks g c = view_looks (g.M.Machine.contents c.args.self.now.machine) (g.M.Machine.contents c.fetch.new.self.machine) (g.M.Machine.run c.args.self.now.machine) (g.M.Machine.run c.fetch.new.self.machine) c.fetch.ensures.viewed

pub returns-in_err-fetch-clause-caches : goal.returns-in_err-fetch-clause-caches
returns-in_err-fetch-clause-caches g c = view_caches (g.M.Machine.contents c.args.self.now.machine) (g.M.Machine.contents c.fetch.new.self.machine) (g.M.Machine.run c.args.self.now.machine) (g.M.Machine.run c.fetch.new.self.machine) c.args.b.0 c.args.name

pub returns-in_err-fetch-clause-ends : goal.returns-in_err-fetch-clause-ends
returns-in_err-fetch-clause-ends g c =
    let p = err_from_is_err_and c.from_residual.result c.from_residual.ensures.1 in
    ends_err _ _ c.fetch.result c.from_residual.result _ _ c.in_err-fetch.was p.1 p.2 c.fetch.ensures.ends

pub returns-in_err-fetch-clause-sure : goal.returns-in_err-fetch-clause-sure
returns-in_err-fetch-clause-sure g c =
    let p = err_from_is_err_and c.from_residual.result c.from_residual.ensures.1 in
    λ is sure. c.fetch.ensures.sure (fault_back c.fetch.result c.from_residual.result _ _ c.in_err-fetch.was p.1 p.2 is) (hand_sure _ _ c.args.b.0 sure)

pub returns-clause-looks : goal.returns-clause-looks
returns-clause-looks g c = view_looks (g.M.Machine.contents c.args.self.now.machine) (g.M.Machine.contents c.fetch.new.self.machine) (g.M.Machine.run c.args.self.now.machine) (g.M.Machine.run c.fetch.new.self.machine) c.in_ok-fetch.ensures.viewed

pub returns-clause-caches : goal.returns-clause-caches
returns-clause-caches g c = view_caches (g.M.Machine.contents c.args.self.now.machine) (g.M.Machine.contents c.fetch.new.self.machine) (g.M.Machine.run c.args.self.now.machine) (g.M.Machine.run c.fetch.new.self.machine) c.args.b.0 c.args.name

pub returns-clause-ends : goal.returns-clause-ends
returns-clause-ends g c = ends_ok _ _ c.in_ok-fetch.field-0 _ c.in_ok-fetch.ensures.ends

pub returns-clause-sure : goal.returns-clause-sure
returns-clause-sure g c = λ is sure. never _ _ is

pub bounds-words_of-w : goal.bounds-words_of-w
bounds-words_of-w g c = subst (λ n. c.args.w < n) (sym c.words_of.ensures.len) c.requires.place.word

pub offset_bounds-words_of-w : goal.offset_bounds-words_of-w
offset_bounds-words_of-w g c = omega (arith, c.requires.place.word)

pub returns-in_err-fetch-clause-value : goal.returns-in_err-fetch-clause-value
returns-in_err-fetch-clause-value g c = not_ok _ c.from_residual.result c.from_residual.ensures.0

pub returns-clause-value : goal.returns-clause-value
returns-clause-value g c = word_viewed (g.M.Machine.contents c.args.self.now.machine) (g.M.Machine.contents c.fetch.new.self.machine) (g.M.Machine.run c.args.self.now.machine) (g.M.Machine.run c.fetch.new.self.machine) c.args.b.0 c.args.w c.words_of.result.now c.in_ok-fetch.ensures.viewed c.words_of.ensures.words c.requires.place.word
