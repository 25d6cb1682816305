use Rattle.std.proofs.Common.{ap, arith, inl, inr, ◌∙◌}
use Rattle.rio_base.proofs.BlockRules.{dropped_metadata, still_metadata}
use Rattle.rio_base.specs.Rules.{◌then◌}
use Rattle.rio_base.specs.Volume.{put}
use Rattle.part_tests.proofs.object_volume_tests.update.Goals as goal

pub returns-in_err-begin-clause-whole : goal.returns-in_err-begin-clause-whole
returns-in_err-begin-clause-whole g c = inl c.begin.ensures.standing

pub returns-in_err-touch-clause-whole : goal.returns-in_err-touch-clause-whole
returns-in_err-touch-clause-whole g c = inl (c.touch.ensures.standing ∙ c.begin.ensures.standing)

pub returns-in_err-touch-clause-count : goal.returns-in_err-touch-clause-count
returns-in_err-touch-clause-count g c = c.touch.ensures.looks.count ∙ c.begin.ensures.looks.count

pub returns-in_err-touch-clause-goes : goal.returns-in_err-touch-clause-goes
returns-in_err-touch-clause-goes g c = c.begin.ensures.goes then c.touch.ensures.goes

pub returns-in_err-touch-2-clause-whole : goal.returns-in_err-touch-2-clause-whole
returns-in_err-touch-2-clause-whole g c = inl (c.touch-2.ensures.standing ∙ (c.touch.ensures.standing ∙ c.begin.ensures.standing))

pub returns-in_err-touch-2-clause-count : goal.returns-in_err-touch-2-clause-count
returns-in_err-touch-2-clause-count g c = c.touch-2.ensures.looks.count ∙ (c.touch.ensures.looks.count ∙ c.begin.ensures.looks.count)

pub returns-in_err-touch-2-clause-goes : goal.returns-in_err-touch-2-clause-goes
returns-in_err-touch-2-clause-goes g c = c.begin.ensures.goes then c.touch.ensures.goes then c.touch-2.ensures.goes

pub returns-in_err-edit-clause-whole : goal.returns-in_err-edit-clause-whole
returns-in_err-edit-clause-whole g c = inl (c.edit.ensures.standing ∙ (c.touch-2.ensures.standing ∙ (c.touch.ensures.standing ∙ c.begin.ensures.standing)))

pub returns-in_err-edit-clause-count : goal.returns-in_err-edit-clause-count
returns-in_err-edit-clause-count g c = c.edit.ensures.count ∙ (c.touch-2.ensures.looks.count ∙ (c.touch.ensures.looks.count ∙ c.begin.ensures.looks.count))

pub returns-in_err-edit-clause-goes : goal.returns-in_err-edit-clause-goes
returns-in_err-edit-clause-goes g c = c.begin.ensures.goes then c.touch.ensures.goes then c.touch-2.ensures.goes then c.edit.ensures.goes

pub returns-in_err-edit-2-clause-whole : goal.returns-in_err-edit-2-clause-whole
returns-in_err-edit-2-clause-whole g c = inl (c.edit-2.ensures.standing ∙ (c.edit.ensures.standing ∙ (c.touch-2.ensures.standing ∙ (c.touch.ensures.standing ∙ c.begin.ensures.standing))))

pub returns-in_err-edit-2-clause-count : goal.returns-in_err-edit-2-clause-count
returns-in_err-edit-2-clause-count g c = c.edit-2.ensures.count ∙ (c.edit.ensures.count ∙ (c.touch-2.ensures.looks.count ∙ (c.touch.ensures.looks.count ∙ c.begin.ensures.looks.count)))

pub returns-in_err-edit-2-clause-goes : goal.returns-in_err-edit-2-clause-goes
returns-in_err-edit-2-clause-goes g c = c.begin.ensures.goes then c.touch.ensures.goes then c.touch-2.ensures.goes then c.edit.ensures.goes then c.edit-2.ensures.goes

pub returns-in_err-commit-clause-whole : goal.returns-in_err-commit-clause-whole
returns-in_err-commit-clause-whole g c = elim c.commit.ensures.stopped [ inl same ↦ inl (same ∙ (c.edit-2.ensures.standing ∙ (c.edit.ensures.standing ∙ (c.touch-2.ensures.standing ∙ (c.touch.ensures.standing ∙ c.begin.ensures.standing))))) | inr done ↦ inr (done ∙ (c.in_ok-edit-2.ensures.ok ∙ ap (λ f. put f c.args.b.0 0 c.args.value) (c.in_ok-edit.ensures.ok ∙ ap (λ f. put f c.args.a.0 0 c.args.value) (c.touch-2.ensures.looks.words ∙ (c.touch.ensures.looks.words ∙ c.begin.ensures.looks.words))))) ]

pub returns-in_err-commit-clause-count : goal.returns-in_err-commit-clause-count
returns-in_err-commit-clause-count g c = c.commit.ensures.looks.count ∙ (c.edit-2.ensures.count ∙ (c.edit.ensures.count ∙ (c.touch-2.ensures.looks.count ∙ (c.touch.ensures.looks.count ∙ c.begin.ensures.looks.count))))

pub returns-in_err-commit-clause-goes : goal.returns-in_err-commit-clause-goes
returns-in_err-commit-clause-goes g c = c.begin.ensures.goes then c.touch.ensures.goes then c.touch-2.ensures.goes then c.edit.ensures.goes then c.edit-2.ensures.goes then c.commit.ensures.goes

pub returns-clause-ok : goal.returns-clause-ok
returns-clause-ok g c = c.commit.ensures.looks.words ∙ (c.in_ok-edit-2.ensures.ok ∙ ap (λ f. put f c.args.b.0 0 c.args.value) (c.in_ok-edit.ensures.ok ∙ ap (λ f. put f c.args.a.0 0 c.args.value) (c.touch-2.ensures.looks.words ∙ (c.touch.ensures.looks.words ∙ c.begin.ensures.looks.words))))

pub returns-clause-whole : goal.returns-clause-whole
returns-clause-whole g c = inr (c.in_ok-commit.ensures.ok.0 ∙ (c.in_ok-edit-2.ensures.ok ∙ ap (λ f. put f c.args.b.0 0 c.args.value) (c.in_ok-edit.ensures.ok ∙ ap (λ f. put f c.args.a.0 0 c.args.value) (c.touch-2.ensures.looks.words ∙ (c.touch.ensures.looks.words ∙ c.begin.ensures.looks.words)))))

pub returns-clause-count : goal.returns-clause-count
returns-clause-count g c = c.commit.ensures.looks.count ∙ (c.edit-2.ensures.count ∙ (c.edit.ensures.count ∙ (c.touch-2.ensures.looks.count ∙ (c.touch.ensures.looks.count ∙ c.begin.ensures.looks.count))))

pub returns-clause-goes : goal.returns-clause-goes
returns-clause-goes g c = c.begin.ensures.goes then c.touch.ensures.goes then c.touch-2.ensures.goes then c.edit.ensures.goes then c.edit-2.ensures.goes then c.commit.ensures.goes

pub touch-requires-clause-metadata : goal.touch-requires-clause-metadata
touch-requires-clause-metadata g c = dropped_metadata _ _ _ c.requires.first c.begin.ensures.drops

pub touch-requires-2-clause-metadata : goal.touch-requires-2-clause-metadata
touch-requires-2-clause-metadata g c = still_metadata _ _ _ _ (dropped_metadata _ _ _ c.requires.second c.begin.ensures.drops) c.touch.ensures.caches

pub touch-requires-clause-room : goal.touch-requires-clause-room
touch-requires-clause-room g c = inr (let none = c.in_ok-begin.ensures.ok.touches in omega (arith, none))
