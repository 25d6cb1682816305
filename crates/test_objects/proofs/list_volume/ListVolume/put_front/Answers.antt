use Rattle.test_objects.proofs.Fronts.{flat_pasted, run_within, same_run}
use Rattle.test_objects.proofs.list_volume.ListVolume.put_front.Goals as goal

pub returns-clause-words : goal.returns-clause-words
returns-clause-words c =
    let room = run_within _ _ _ _ _ _ c.place-at.ensures c.requires.place.block c.requires.place.within c.requires.sound.words in
    flat_pasted _ _ _ _ _ _ _ c.store_front.ensures c.place-at.ensures c.requires.place.within room c.requires.front

pub returns-clause-standing : goal.returns-clause-standing
returns-clause-standing c =
    let room = run_within _ _ _ _ _ _ c.place-at.ensures c.requires.place.block c.requires.place.within c.requires.sound.standing in
    flat_pasted _ _ _ _ _ _ _ c.store_front-2.ensures c.place-at.ensures c.requires.place.within room c.requires.front

pub returns-clause-other_words : goal.returns-clause-other_words
returns-clause-other_words c =
    let room = run_within _ _ _ _ _ _ c.place-at.ensures c.requires.place.block c.requires.place.within c.requires.sound.words in
    same_run _ _ _ _ _ _ (flat_pasted _ _ _ _ _ _ _ c.store_front.ensures c.place-at.ensures c.requires.place.within room c.requires.front)

pub returns-clause-other_standing : goal.returns-clause-other_standing
returns-clause-other_standing c =
    let room = run_within _ _ _ _ _ _ c.place-at.ensures c.requires.place.block c.requires.place.within c.requires.sound.standing in
    same_run _ _ _ _ _ _ (flat_pasted _ _ _ _ _ _ _ c.store_front-2.ensures c.place-at.ensures c.requires.place.within room c.requires.front)
