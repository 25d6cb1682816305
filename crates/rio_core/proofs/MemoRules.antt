-- What is held in memory, where nothing but the place of a shape changed.
use Rattle.rio_core.proofs.Common.{◌≡◌, sym, subst, IsErr, VolumeShape}
use Rattle.std.specs.Prelude.{Result, Ok, Err, is_ok, true}
use Rattle.rio_base.specs.Rules.{true_false}
use Rattle.rio_base.specs.Blocks.{BlockWords}
use Rattle.rio_model.specs.declared.state.State.{State}
use Rattle.rio_model.specs.VolumeReads.{ReadsAs}
use Rattle.file_tree.specs.Memos.{InStep}
use Rattle.file_tree.specs.declared.memo.Memo.{Memo}
use Rattle.file_tree.proofs.MemoSteps.{same_step}

pub shaped_step : (old new : VolumeShape) (f g : BlockWords) (m : Memo) → new ≡ old → g ≡ f → InStep old f m → InStep new g m
shaped_step old new f g m shape words h = subst (λ (q : VolumeShape). InStep q g m) (sym shape) (same_step old f g m words h)

pub reads_on : (old new : VolumeShape) (f g : BlockWords) (s : State) → new ≡ old → g ≡ f → ReadsAs old f s → ReadsAs new g s
reads_on old new f g s shape words h = subst (λ (q : VolumeShape). ReadsAs q g s) (sym shape) (subst (λ (w : BlockWords). ReadsAs old w s) (sym words) h)

pub ok_not_err : {T E : Type 0} (r : Result T E) → is_ok r ≡ true → IsErr r → ⊥
ok_not_err (Ok v) ok err = true_false (sym err)
ok_not_err (Err e) ok err = true_false (sym ok)
