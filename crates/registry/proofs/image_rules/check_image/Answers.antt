use Rattle.std.proofs.Common.{arith}
use Rattle.std.proofs.lemmas.Result.{err_from_is_err_and}
use Rattle.registry.proofs.RuleChain.{broken, fails_5, fails_6, fails_7, fails_8, fails_9, fails_10, fails_11, fails_12, gate_broken, gate_kept, kept, tells}
use Rattle.registry.proofs.image_rules.check_image.Goals as goal

pub returns-in_err-demand : goal.returns-in_err-demand
returns-in_err-demand g c =
    let words = (g.M.Machine.contents c.args.m.now).words in
    let p = err_from_is_err_and c.from_residual.result c.from_residual.ensures.1 in
    tells words c.from_residual.result p.0 _ 5 p.1 p.2 c.in_err-demand.ensures.1 (fails_5 words (gate_broken words _ (c.load.ensures.protected (omega (arith, c.requires.layout.protected))) c.in_err-demand.ensures.0))

pub returns-in_err-demand-2 : goal.returns-in_err-demand-2
returns-in_err-demand-2 g c =
    let words = (g.M.Machine.contents c.args.m.now).words in
    let p = err_from_is_err_and c.from_residual-in_err-demand-2.result c.from_residual-in_err-demand-2.ensures.1 in
    tells words c.from_residual-in_err-demand-2.result p.0 _ 6 p.1 p.2 c.in_err-demand-2.ensures.1 (fails_6 words (gate_kept words _ (c.load.ensures.protected (omega (arith, c.requires.layout.protected))) c.in_ok-demand.ensures) (broken _ _ c.all_keep.ensures c.in_err-demand-2.ensures.0))

pub returns-in_err-demand-3 : goal.returns-in_err-demand-3
returns-in_err-demand-3 g c =
    let words = (g.M.Machine.contents c.args.m.now).words in
    let p = err_from_is_err_and c.from_residual-in_err-demand-3.result c.from_residual-in_err-demand-3.ensures.1 in
    tells words c.from_residual-in_err-demand-3.result p.0 _ 7 p.1 p.2 c.in_err-demand-3.ensures.1 (fails_7 words (gate_kept words _ (c.load.ensures.protected (omega (arith, c.requires.layout.protected))) c.in_ok-demand.ensures) (kept _ _ c.all_keep.ensures c.in_ok-demand-2.ensures) (broken _ _ c.are_blocks_apart.ensures c.in_err-demand-3.ensures.0))

pub returns-in_err-demand-4 : goal.returns-in_err-demand-4
returns-in_err-demand-4 g c =
    let words = (g.M.Machine.contents c.args.m.now).words in
    let p = err_from_is_err_and c.from_residual-in_err-demand-4.result c.from_residual-in_err-demand-4.ensures.1 in
    tells words c.from_residual-in_err-demand-4.result p.0 _ 8 p.1 p.2 c.in_err-demand-4.ensures.1 (fails_8 words (gate_kept words _ (c.load.ensures.protected (omega (arith, c.requires.layout.protected))) c.in_ok-demand.ensures) (kept _ _ c.all_keep.ensures c.in_ok-demand-2.ensures) (kept _ _ c.are_blocks_apart.ensures c.in_ok-demand-3.ensures) (broken _ _ c.all_keep-2.ensures c.in_err-demand-4.ensures.0))

pub returns-in_err-demand-5 : goal.returns-in_err-demand-5
returns-in_err-demand-5 g c =
    let words = (g.M.Machine.contents c.args.m.now).words in
    let p = err_from_is_err_and c.from_residual-in_err-demand-5.result c.from_residual-in_err-demand-5.ensures.1 in
    tells words c.from_residual-in_err-demand-5.result p.0 _ 9 p.1 p.2 c.in_err-demand-5.ensures.1 (fails_9 words (gate_kept words _ (c.load.ensures.protected (omega (arith, c.requires.layout.protected))) c.in_ok-demand.ensures) (kept _ _ c.all_keep.ensures c.in_ok-demand-2.ensures) (kept _ _ c.are_blocks_apart.ensures c.in_ok-demand-3.ensures) (kept _ _ c.all_keep-2.ensures c.in_ok-demand-4.ensures) (broken _ _ c.all_keep-3.ensures c.in_err-demand-5.ensures.0))

pub returns-in_err-demand-6 : goal.returns-in_err-demand-6
returns-in_err-demand-6 g c =
    let words = (g.M.Machine.contents c.args.m.now).words in
    let p = err_from_is_err_and c.from_residual-in_err-demand-6.result c.from_residual-in_err-demand-6.ensures.1 in
    tells words c.from_residual-in_err-demand-6.result p.0 _ 10 p.1 p.2 c.in_err-demand-6.ensures.1 (fails_10 words (gate_kept words _ (c.load.ensures.protected (omega (arith, c.requires.layout.protected))) c.in_ok-demand.ensures) (kept _ _ c.all_keep.ensures c.in_ok-demand-2.ensures) (kept _ _ c.are_blocks_apart.ensures c.in_ok-demand-3.ensures) (kept _ _ c.all_keep-2.ensures c.in_ok-demand-4.ensures) (kept _ _ c.all_keep-3.ensures c.in_ok-demand-5.ensures) (broken _ _ c.all_keep-4.ensures c.in_err-demand-6.ensures.0))

pub returns-in_err-demand-7 : goal.returns-in_err-demand-7
returns-in_err-demand-7 g c =
    let words = (g.M.Machine.contents c.args.m.now).words in
    let p = err_from_is_err_and c.from_residual-in_err-demand-7.result c.from_residual-in_err-demand-7.ensures.1 in
    tells words c.from_residual-in_err-demand-7.result p.0 _ 11 p.1 p.2 c.in_err-demand-7.ensures.1 (fails_11 words (gate_kept words _ (c.load.ensures.protected (omega (arith, c.requires.layout.protected))) c.in_ok-demand.ensures) (kept _ _ c.all_keep.ensures c.in_ok-demand-2.ensures) (kept _ _ c.are_blocks_apart.ensures c.in_ok-demand-3.ensures) (kept _ _ c.all_keep-2.ensures c.in_ok-demand-4.ensures) (kept _ _ c.all_keep-3.ensures c.in_ok-demand-5.ensures) (kept _ _ c.all_keep-4.ensures c.in_ok-demand-6.ensures) (broken _ _ c.all_keep-5.ensures c.in_err-demand-7.ensures.0))

pub returns-in_err-demand-8 : goal.returns-in_err-demand-8
returns-in_err-demand-8 g c =
    let words = (g.M.Machine.contents c.args.m.now).words in
    let p = err_from_is_err_and c.from_residual-in_err-demand-8.result c.from_residual-in_err-demand-8.ensures.1 in
    tells words c.from_residual-in_err-demand-8.result p.0 _ 12 p.1 p.2 c.in_err-demand-8.ensures.1 (fails_12 words (gate_kept words _ (c.load.ensures.protected (omega (arith, c.requires.layout.protected))) c.in_ok-demand.ensures) (kept _ _ c.all_keep.ensures c.in_ok-demand-2.ensures) (kept _ _ c.are_blocks_apart.ensures c.in_ok-demand-3.ensures) (kept _ _ c.all_keep-2.ensures c.in_ok-demand-4.ensures) (kept _ _ c.all_keep-3.ensures c.in_ok-demand-5.ensures) (kept _ _ c.all_keep-4.ensures c.in_ok-demand-6.ensures) (kept _ _ c.all_keep-5.ensures c.in_ok-demand-7.ensures) (broken _ _ c.are_shadows_apart.ensures c.in_err-demand-8.ensures.0))

pub returns : goal.returns
returns g c =
    let words = (g.M.Machine.contents c.args.m.now).words in
    record {
      gate = gate_kept words _ (c.load.ensures.protected (omega (arith, c.requires.layout.protected))) c.in_ok-demand.ensures;
      tags = kept _ _ c.all_keep.ensures c.in_ok-demand-2.ensures;
      blocks = kept _ _ c.are_blocks_apart.ensures c.in_ok-demand-3.ensures;
      metadata = kept _ _ c.all_keep-2.ensures c.in_ok-demand-4.ensures;
      names = kept _ _ c.all_keep-3.ensures c.in_ok-demand-5.ensures;
      sizes = kept _ _ c.all_keep-4.ensures c.in_ok-demand-6.ensures;
      shadows = kept _ _ c.all_keep-5.ensures c.in_ok-demand-7.ensures;
      apart = kept _ _ c.are_shadows_apart.ensures c.in_ok-demand-8.ensures;
    }
