-- What a served run leaves of the machine below, which any work on it leaves so.
use Rattle.std.proofs.Common.{List, ℕ, ◌∙◌, arith}
use Rattle.std.specs.Prelude.{Option}
use Rattle.rio_base.specs.Blocks.{Health}
use Rattle.rio_base.specs.Volume.{Below}
use Rattle.rio_model.specs.declared.state.State.{State}
use Rattle.rio_requests.specs.declared.reply.Reply.{Reply}
use Rattle.rio_requests.specs.declared.request.Request.{Request}
use Rattle.rio_requests.specs.Went.{StoppedOn, Went}
use Rattle.rio_core.specs.Lines.{core_protocol}
use Rattle.line_loop.specs.declared.ends.ServeEnd.{ServeEnd}
use Rattle.line_loop.specs.declared.ends.ServeEnd.TheVariants.{End, SourceFault, SinkFault, InputLimit, Memory, Stopped}
use Rattle.line_loop.specs.ServeRun.{RunEnds}
use Rattle.pair_files.specs.Scenes.{LastsBelow}

-- requests that were answered
went_lasts : (requests : List (Option Request)) (replies : List Reply) (h : Health) (b : Below) (i : Health) (c : Below) → Went requests replies h b i c → LastsBelow h b i c
went_lasts requests replies h b i c went = record {
  later = went.later;
  stays = λ stopped. went.running ∙ stopped;
  written = went.lasts.written;
  roomy = went.lasts.roomy;
  around = went.lasts.around;
  stop_set = went.lasts.stop_set;
  protected = went.lasts.protected;
  memory = went.lasts.memory;
}

-- and behind them one that met a stop
stopped_lasts : (requests : List (Option Request)) (replies : List Reply) (r : Request) (h : Health) (b : Below) (g : Health) (d : Below) (i : Health) (c : Below) → Went requests replies h b g d → StoppedOn r g d i c → LastsBelow h b i c
stopped_lasts requests replies r h b g d i c went stop = record {
  later = let first = went.later in let then = stop.later in omega (arith, first, then);
  stays = λ e. stop.stopped;
  written = let first = went.lasts.written in let then = stop.lasts.written in omega (arith, first, then);
  roomy = stop.lasts.roomy ∙ went.lasts.roomy;
  around = stop.lasts.around ∙ went.lasts.around;
  stop_set = stop.lasts.stop_set ∙ went.lasts.stop_set;
  protected = stop.lasts.protected ∙ went.lasts.protected;
  memory = stop.lasts.memory ∙ went.lasts.memory;
}

pub serve_lasts : (holds stands : State → Type 0) (s : State) (end : ServeEnd) (left left_after written written_after : Option (List ℕ)) (h : Health) (b : Below) (i : Health) (c : Below) → RunEnds core_protocol holds stands s end left left_after written written_after h b i c → LastsBelow h b i c
serve_lasts holds stands s End left left_after written written_after h b i c run = went_lasts run.2.run.replied.requests run.2.run.replies h b i c run.3
serve_lasts holds stands s SourceFault left left_after written written_after h b i c run = went_lasts run.2.run.replied.requests run.2.run.replies h b i c run.3
serve_lasts holds stands s SinkFault left left_after written written_after h b i c run = went_lasts run.2.run.replied.requests run.2.run.replies h b i c run.3
serve_lasts holds stands s InputLimit left left_after written written_after h b i c run = went_lasts run.2.run.replied.requests run.2.run.replies h b i c run.3
serve_lasts holds stands s Memory left left_after written written_after h b i c run = went_lasts run.2.run.replied.requests run.2.run.replies h b i c run.3
serve_lasts holds stands s Stopped left left_after written written_after h b i c (mid, r, t, stop, part, is, g, d, went, on) = stopped_lasts stop.replied.requests stop.replies r h b g d i c went on
