use Rattle.std.proofs.Common.{◌∙◌, ap, refl, sym}
use Rattle.rio_base.specs.Rules.{true_false}
use Rattle.rio_base.proofs.MachineRules.{ends_err, ends_then, lasts_trans}
use Rattle.rio_base.specs.Blocks.{BlockWords}
use Rattle.rio_base.specs.Machine.{Contents}
use Rattle.rio_model.specs.Cover.{reads, stands}
use Rattle.rio_model.specs.Registry.{gate_of}
use Rattle.rio_model.proofs.CoverStands.{same_names_trans}
use Rattle.shadow_pages.proofs.Exits.{at_err, ends_told, not_ok}
use Rattle.shadow_pages.proofs.Gates.{entries_shadow}
use Rattle.shadow_pages.proofs.Restores.{restores_coherent, restores_firm, restores_gate, restores_names, restores_shadows, restores_stands, restores_untouched}
use Rattle.shadow_pages.proofs.Steps.{coherent_restored, undone_after}
use Rattle.shadow_pages.proofs.undoing.undo.Goals as goal

pub returns-in_err-restore_frames-clause-standing : goal.returns-in_err-restore_frames-clause-standing
returns-in_err-restore_frames-clause-standing g c = restores_stands (g.M.Machine.contents c.args.m.now) (g.M.Machine.contents c.restore_frames.new.m) c.in_err-restore_frames.ensures.stores.rest c.in_err-restore_frames.ensures.restores

pub returns-in_err-restore_frames-clause-untouched : goal.returns-in_err-restore_frames-clause-untouched
returns-in_err-restore_frames-clause-untouched g c = λ b w h. restores_untouched (g.M.Machine.contents c.args.m.now) (g.M.Machine.contents c.restore_frames.new.m) b w c.in_err-restore_frames.ensures.stores.rest c.in_err-restore_frames.ensures.restores h

pub returns-in_err-restore_frames-clause-coherent : goal.returns-in_err-restore_frames-clause-coherent
returns-in_err-restore_frames-clause-coherent g c = λ n s. restores_coherent n (g.M.Machine.contents c.args.m.now) (g.M.Machine.contents c.restore_frames.new.m) c.in_err-restore_frames.ensures.stores.rest c.in_err-restore_frames.ensures.restores s

pub returns-in_err-restore_frames-clause-firm : goal.returns-in_err-restore_frames-clause-firm
returns-in_err-restore_frames-clause-firm g c = λ b e. restores_firm (g.M.Machine.contents c.args.m.now) (g.M.Machine.contents c.restore_frames.new.m) b c.in_err-restore_frames.ensures.stores.rest c.in_err-restore_frames.ensures.restores e

pub commit-requires-clause-coherent : goal.commit-requires-clause-coherent
commit-requires-clause-coherent g c = coherent_restored (g.M.Machine.contents c.args.m.now) (g.M.Machine.contents c.restore_frames.new.m) _ _ c.requires.coherent c.in_ok-restore_frames.ensures.stores c.in_ok-restore_frames.ensures.restores c.in_ok-restore_frames.ensures.ends.steps.scratch_count

pub returns-in_err-commit-clause-standing : goal.returns-in_err-commit-clause-standing
returns-in_err-commit-clause-standing g c = ap stands c.in_err-commit.ensures.same ∙ restores_stands (g.M.Machine.contents c.args.m.now) (g.M.Machine.contents c.restore_frames.new.m) c.in_ok-restore_frames.ensures.stores.rest c.in_ok-restore_frames.ensures.restores

pub returns-in_err-commit-clause-untouched : goal.returns-in_err-commit-clause-untouched
returns-in_err-commit-clause-untouched g c = λ b w h. ap (λ (m : Contents). reads m b w) c.in_err-commit.ensures.same ∙ restores_untouched (g.M.Machine.contents c.args.m.now) (g.M.Machine.contents c.restore_frames.new.m) b w c.in_ok-restore_frames.ensures.stores.rest c.in_ok-restore_frames.ensures.restores h

pub returns-in_err-commit-clause-coherent : goal.returns-in_err-commit-clause-coherent
returns-in_err-commit-clause-coherent g c = λ n s. c.in_err-commit.ensures.coherent n (restores_coherent n (g.M.Machine.contents c.args.m.now) (g.M.Machine.contents c.restore_frames.new.m) c.in_ok-restore_frames.ensures.stores.rest c.in_ok-restore_frames.ensures.restores s)

pub returns-in_err-commit-clause-firm : goal.returns-in_err-commit-clause-firm
returns-in_err-commit-clause-firm g c = λ b e. restores_firm (g.M.Machine.contents c.args.m.now) (g.M.Machine.contents c.restore_frames.new.m) b c.in_ok-restore_frames.ensures.stores.rest c.in_ok-restore_frames.ensures.restores (c.in_err-commit.ensures.firm b e)

pub returns-clause-undone : goal.returns-clause-undone
returns-clause-undone g c = undone_after (g.M.Machine.contents c.args.m.now) (g.M.Machine.contents c.restore_frames.new.m) (g.M.Machine.contents c.commit.new.m) c.args.shadowed.now c.in_ok-restore_frames.ensures.stores c.in_ok-restore_frames.ensures.restores c.requires.listed c.in_ok-restore_frames.ensures.restored c.in_ok-commit.ensures.committed

pub returns-clause-standing : goal.returns-clause-standing
returns-clause-standing g c = (undone_after (g.M.Machine.contents c.args.m.now) (g.M.Machine.contents c.restore_frames.new.m) (g.M.Machine.contents c.commit.new.m) c.args.shadowed.now c.in_ok-restore_frames.ensures.stores c.in_ok-restore_frames.ensures.restores c.requires.listed c.in_ok-restore_frames.ensures.restored c.in_ok-commit.ensures.committed).stands

pub returns-clause-untouched : goal.returns-clause-untouched
returns-clause-untouched g c = λ b w h. ap (λ (f : BlockWords). f b w) c.in_ok-commit.ensures.committed.reads ∙ restores_untouched (g.M.Machine.contents c.args.m.now) (g.M.Machine.contents c.restore_frames.new.m) b w c.in_ok-restore_frames.ensures.stores.rest c.in_ok-restore_frames.ensures.restores h

pub returns-clause-shadows : goal.returns-clause-shadows
returns-clause-shadows g c = λ k less. entries_shadow _ _ k c.in_ok-commit.ensures.entries ∙ restores_shadows _ _ k c.in_ok-restore_frames.ensures.restores less

pub returns-clause-coherent : goal.returns-clause-coherent
returns-clause-coherent g c = λ n s. c.in_ok-commit.ensures.coherent n (restores_coherent n (g.M.Machine.contents c.args.m.now) (g.M.Machine.contents c.restore_frames.new.m) c.in_ok-restore_frames.ensures.stores.rest c.in_ok-restore_frames.ensures.restores s)

pub returns-clause-firm : goal.returns-clause-firm
returns-clause-firm g c = λ b e. restores_firm (g.M.Machine.contents c.args.m.now) (g.M.Machine.contents c.restore_frames.new.m) b c.in_ok-restore_frames.ensures.stores.rest c.in_ok-restore_frames.ensures.restores (c.in_ok-commit.ensures.firm b e)

pub returns-in_err-commit-clause-ends : goal.returns-in_err-commit-clause-ends
returns-in_err-commit-clause-ends g c = ends_err _ _ _ _ _ refl c.from_residual-in_err-commit.ensures.0 c.in_ok-restore_frames.ensures.ends.steps c.in_err-commit.ensures.ends

pub returns-clause-ends : goal.returns-clause-ends
returns-clause-ends g c = ends_then _ _ _ _ _ (λ e. true_false (sym e)) c.in_ok-restore_frames.ensures.ends c.in_ok-commit.ensures.ends

pub commit-requires-clause-updating : goal.commit-requires-clause-updating
commit-requires-clause-updating g c = restores_gate _ _ c.restore_frames.ensures.restores ∙ c.requires.updating

pub returns-in_err-restore_frames-clause-undone : goal.returns-in_err-restore_frames-clause-undone
returns-in_err-restore_frames-clause-undone g c = not_ok _ c.from_residual.result c.from_residual.ensures.0

pub returns-in_err-restore_frames-clause-cut : goal.returns-in_err-restore_frames-clause-cut
returns-in_err-restore_frames-clause-cut g c = at_err c.from_residual.result c.from_residual.ensures.0 (restores_gate _ _ c.restore_frames.ensures.restores ∙ c.requires.updating)

pub returns-in_err-restore_frames-clause-shadows : goal.returns-in_err-restore_frames-clause-shadows
returns-in_err-restore_frames-clause-shadows g c = λ k less. restores_shadows _ _ k c.restore_frames.ensures.restores less

pub returns-in_err-restore_frames-clause-names : goal.returns-in_err-restore_frames-clause-names
returns-in_err-restore_frames-clause-names g c = restores_names _ _ c.restore_frames.ensures.restores

pub returns-in_err-restore_frames-clause-ends : goal.returns-in_err-restore_frames-clause-ends
returns-in_err-restore_frames-clause-ends g c = ends_told _ _ _ _ refl c.from_residual.ensures.0 c.in_err-restore_frames.ensures.ends

pub returns-in_err-commit-clause-undone : goal.returns-in_err-commit-clause-undone
returns-in_err-commit-clause-undone g c = not_ok _ c.from_residual-in_err-commit.result c.from_residual-in_err-commit.ensures.0

pub returns-in_err-commit-clause-cut : goal.returns-in_err-commit-clause-cut
returns-in_err-commit-clause-cut g c = at_err c.from_residual-in_err-commit.result c.from_residual-in_err-commit.ensures.0 (ap (λ (m : Contents). gate_of m.words) c.in_err-commit.ensures.same ∙ restores_gate _ _ c.restore_frames.ensures.restores ∙ c.requires.updating)

pub returns-in_err-commit-clause-shadows : goal.returns-in_err-commit-clause-shadows
returns-in_err-commit-clause-shadows g c = λ k less. entries_shadow _ _ k c.commit.ensures.entries ∙ restores_shadows _ _ k c.restore_frames.ensures.restores less

pub returns-in_err-commit-clause-names : goal.returns-in_err-commit-clause-names
returns-in_err-commit-clause-names g c = same_names_trans _ _ _ (restores_names _ _ c.restore_frames.ensures.restores) c.commit.ensures.names

pub returns-in_err-commit-clause-rest : goal.returns-in_err-commit-clause-rest
returns-in_err-commit-clause-rest g c = c.commit.ensures.rest ∙ ap (λ (m : Contents). record m { words = (g.M.Machine.contents c.commit.new.m).words }) c.restore_frames.ensures.stores.rest

pub returns-in_err-commit-clause-lasts : goal.returns-in_err-commit-clause-lasts
returns-in_err-commit-clause-lasts g c = lasts_trans _ _ _ c.restore_frames.ensures.stores.lasts c.commit.ensures.lasts

pub returns-clause-names : goal.returns-clause-names
returns-clause-names g c = same_names_trans _ _ _ (restores_names _ _ c.restore_frames.ensures.restores) c.commit.ensures.names

pub returns-clause-rest : goal.returns-clause-rest
returns-clause-rest g c = c.commit.ensures.rest ∙ ap (λ (m : Contents). record m { words = (g.M.Machine.contents c.commit.new.m).words }) c.restore_frames.ensures.stores.rest

pub returns-clause-lasts : goal.returns-clause-lasts
returns-clause-lasts g c = lasts_trans _ _ _ c.restore_frames.ensures.stores.lasts c.commit.ensures.lasts
