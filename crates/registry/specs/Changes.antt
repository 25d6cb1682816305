-- Changes of one entry: when they can be made, and what each leaves so.
use Rattle.std.specs.Prelude.{◌≡◌, ℕ, ◌<◌, true, None}
use Rattle.rio_base.specs.Machine.{Contents, Lasts, Running, StepEnds}
use Rattle.rio_model.specs.Registry.{HasLayout, OneEntry, frames_of}

-- entry k is one of the entries, and no page is open, so that it can be changed
pub record CanChange (k : ℕ) (c : Contents) (r : Running) : Type 0 where
  pub layout : HasLayout c.words r.scratch
  pub closed : c.open_page ≡ None
  pub entry : k < frames_of c.words

-- what a change of entry k leaves so, however it ends: nothing but words of this entry differs. `stop` is that it answers
-- Stopped
pub record ChangesEntry (k : ℕ) (old new : Contents) (old_run new_run : Running) (stop : Type 0) : Type 0 where
  pub rest : new ≡ record old { words = new.words }
  pub one_entry : OneEntry k old.words new.words
  pub layout : HasLayout new.words new_run.scratch
  pub frames : frames_of new.words ≡ frames_of old.words
  pub closed : new.open_page ≡ None
  pub lasts : Lasts old new
  pub halted : old_run.stopped ≡ true → stop
  pub ends : StepEnds old_run new_run stop
