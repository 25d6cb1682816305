use Rattle.std.proofs.Common.{ℕ, ◌≡◌, ◌≤◌, List, length, take, length-take, ap, ◌∙◌, arith}
use Rattle.test_objects.specs.declared.list_volume.ListVolume.{ListVolume}
use Rattle.test_objects.specs.ListVolumes.{flat}
use Rattle.test_objects.specs.StepLimits.{made_of}
use Rattle.rio_base.specs.Volume.{put_run}
use Rattle.test_objects.proofs.Faults.{all_made, front_taken, made_most, ok_no_err}
use Rattle.test_objects.proofs.faulty_volume.FaultyVolumeVolume.store_run.Goals as goal

-- how many words of a front are stored, at most
made_front : (n before : ℕ) (from : List ℕ) → n ≤ length (take before from) → n ≤ before
made_front n before from h = omega (arith, h, length-take before from)

pub returns-in_err-store_run-clause-front : goal.returns-in_err-store_run-clause-front
returns-in_err-store_run-clause-front c =
    let n = made_of (length (take c.in-Some.before c.args.from.now)) c.count.new.self.inner.steps in
    let most = made_most (length (take c.in-Some.before c.args.from.now)) c.count.new.self.inner.steps in
    let same = ap (λ v. v.inner) c.count.ensures.rest in (
      n,
      omega (arith, most, length-take c.in-Some.before c.args.from.now),
      front_taken _ _ _ _ n _ _ (made_front _ _ _ most) (c.store_run-2.ensures.call.words ∙ ap (λ (v : ListVolume). put_run (flat v.words.items) c.args.b.0 c.args.w n (take c.in-Some.before c.args.from.now)) same),
    )

pub returns-clause-fault : goal.returns-clause-fault
returns-clause-fault c =
    let part = take c.in-Some.before c.args.from.now in
    let due = c.in-Some.ensures.due in
    let size : length part ≡ c.in-Some.before = omega (arith, length-take c.in-Some.before c.args.from.now, due.1) in
    let all = all_made _ _ _ _ c.store_run-2.ensures.call.steps (ok_no_err _ _ c.in_ok-store_run.was) ∙ size in
    let same = ap (λ v. v.inner) c.count.ensures.rest in
    let last = ap (λ v. v.inner) c.fault.ensures in (
      due.1,
      front_taken _ _ _ _ c.in-Some.before _ _ (omega arith) (ap (λ (v : ListVolume). flat v.words.items) last ∙ c.store_run-2.ensures.call.words ∙ ap (λ n. put_run (flat c.count.new.self.inner.words.items) c.args.b.0 c.args.w n part) all ∙ ap (λ (v : ListVolume). put_run (flat v.words.items) c.args.b.0 c.args.w c.in-Some.before part) same),
    )

pub returns-clause-front : goal.returns-clause-front
returns-clause-front c = let fault = returns-clause-fault c in (c.in-Some.before, omega (arith, fault.0), fault.1)
