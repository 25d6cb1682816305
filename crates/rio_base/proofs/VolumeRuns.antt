-- One call of `store` or `edit` after another, of one block.
use Rattle.std.specs.Prelude.{◌≡◌, ℕ, ◌+◌, ◌-◌, ◌<◌, true, false, Bool, Option, refl, List, slice_index}
use Rattle.std.proofs.Common.{◌∙◌, inl, inr, arith, ap}
use Rattle.std.proofs.lemmas.Bool.Decides.{nat_tests}
use Rattle.rio_base.specs.declared.places.PageName.{PageName}
use Rattle.rio_base.proofs.BlockRules.{widen_self, widen_twice}
use Rattle.rio_base.specs.Blocks.{BlockWords}
use Rattle.rio_base.specs.Volume.{Kept, OldOrPut, OldOrRun, RunName, SameUpdate, put, put_run, stored_name, widened}

none_at : (f : BlockWords) (b w : ℕ) (words : List ℕ) (c x : ℕ) → f c x ≡ put_run f b w 0 words c x
none_at f b w words c x = grind (arith, nat_tests)

pub put_none : (f : BlockWords) (b w : ℕ) (words : List ℕ) → f ≡ put_run f b w 0 words
put_none f b w words = λ i c x. none_at f b w words c x i

next_at : (f : BlockWords) (b w n v : ℕ) (words : List ℕ) (c x : ℕ) → v ≡ slice_index words n → put (put_run f b w n words) b (w + n) v c x ≡ put_run f b w (n + 1) words c x
next_at f b w n v words c x value =
    let here : x ≡ w + n → x - w ≡ n = λ e. omega (arith, e) in
    grind (arith, nat_tests, value)

pub put_next : (f : BlockWords) (b w n v : ℕ) (words : List ℕ) → v ≡ slice_index words n → put (put_run f b w n words) b (w + n) v ≡ put_run f b w (n + 1) words
put_next f b w n v words value = λ i c x. next_at f b w n v words c x value i

-- n words are stored, and the next one is, or isn't
pub front_of : (f g h : BlockWords) (b w n most : ℕ) (words : List ℕ) → n < most → g ≡ put_run f b w n words → OldOrPut g h b (w + n) (slice_index words n) → OldOrRun f h b w words most
front_of f g h b w n most words less e (inl same) = (n, omega (arith, less), same ∙ e)
front_of f g h b w n most words less e (inr one) = (n + 1, omega (arith, less), one ∙ ap (λ (k : BlockWords). put k b (w + n) (slice_index words n)) e ∙ put_next f b w n (slice_index words n) words refl)

-- ---- the open update stays

pub update_refl : (k : Kept) → SameUpdate k k
update_refl k = record { updating = refl; touched = refl; touches = refl }

pub update_trans : (k l m : Kept) → SameUpdate k l → SameUpdate l m → SameUpdate k m
update_trans k l m h i = record { updating = i.updating ∙ h.updating; touched = i.touched ∙ h.touched; touches = i.touches ∙ h.touches }

-- ---- the name of the page

run_from : (cached : Bool) (own given mid now : Option PageName) → now ≡ widened mid given → RunName cached own given mid → RunName cached own given now
run_from true own given mid now e (inl h) = inl (e ∙ ap (λ o. widened o given) h ∙ widen_twice own given)
run_from false own given mid now e (inl h) = inr (e ∙ ap (λ o. widened o given) h ∙ widen_self given)
run_from cached own given mid now e (inr h) = inr (e ∙ ap (λ o. widened o given) h ∙ widen_self given)

pub run_name_next : (cached mid_cached : Bool) (own given mid now : Option PageName) → (mid_cached ≡ true → RunName cached own given mid) → now ≡ stored_name mid_cached mid given → RunName cached own given now
run_name_next cached true own given mid now h e = run_from cached own given mid now e (h refl)
run_name_next cached false own given mid now h e = inr e
