-- One region recovered through a view that came to stand on it.
use Rattle.std.specs.Prelude.{◌≡◌, ℕ, ◌*◌, Bool, true, false, List, [], ◌∷◌, MatchBool, refl}
use Rattle.std.proofs.Common.{◌∙◌, ap, arith, subst, sym}
use Rattle.rio_base.specs.declared.places.Ino.{Ino}
use Rattle.rio_base.specs.declared.places.VolumeShape.{VolumeShape}
use Rattle.rio_base.specs.Blocks.{BlockWords, Seen}
use Rattle.rio_base.specs.Volume.{Kept}
use Rattle.rio_model.specs.declared.state.State.{State}
use Rattle.rio_model.specs.Held.{held_of}
use Rattle.rio_model.specs.RegionMoves.{RestHeld}
use Rattle.rio_model.specs.Undo.{IsRegion, UndoRecord, Undoes, undo_records}
use Rattle.rio_model.specs.VolumeReads.{ReadsAs}
use Rattle.rio_model.specs.VolumeRules.{IsMapped}
use Rattle.rio_model.proofs.RegionMoves.{reads_recovered}
use Rattle.region_view.specs.Views.{OnRegion, SameBeside}
use Rattle.region_recovery.specs.RegionLists.{has_records, is_some_record}

-- the words of a region keep the format
pub keeps_format : (shape : VolumeShape) (f : BlockWords) (i words : ℕ) (s : State) → ReadsAs shape f s → (held_of shape f i).kind ≡ 3 → (held_of shape f i).size ≡ 8 * words → IsRegion words (held_of shape f i).word
keeps_format shape f i words s reads kind size = subst (λ n. IsRegion n (held_of shape f i).word) (omega (arith, size)) (reads.regions.each i kind).region

-- the view that came to stand on region i of a volume of this shape, which reads as f, can be asked for its words
pub stands_on : (shape here : VolumeShape) (i j : Ino) (f : BlockWords) (x : Seen) (k : Kept) (words : ℕ) → here ≡ shape → j ≡ i → x.words ≡ f → (s : State) × ReadsAs shape f s → OnRegion here x k i.0 words → IsRegion words (held_of here x.words j.0).word
stands_on shape here i j f x k words sizes on same was stood =
    subst (λ (q : Ino). IsRegion words (held_of here x.words q.0).word) (sym on)
    (keeps_format here x.words i.0 words was.0 (subst (λ (e : BlockWords). ReadsAs here e was.0) (sym same) (subst (λ (sh : VolumeShape). ReadsAs sh f was.0) (sym sizes) was.1)) stood.region stood.size)

-- how long it is
pub stood_size : (shape here : VolumeShape) (i : ℕ) (f : BlockWords) (x : Seen) (k : Kept) (words : ℕ) → here ≡ shape → x.words ≡ f → OnRegion here x k i words → (held_of shape f i).size ≡ 8 * words
stood_size shape here i f x k words sizes same stood = subst (λ (e : BlockWords). (held_of shape e i).size ≡ 8 * words) same (subst (λ (sh : VolumeShape). (held_of sh x.words i).size ≡ 8 * words) sizes stood.size)

-- whether a list holds a record
pub held_is : (b : Bool) (records : List UndoRecord) → MatchBool b (records ≡ [] → ⊥) (records ≡ []) → b ≡ is_some_record records
held_is true [] h = absurd (h refl)
held_is true (r ∷ older) h = refl
held_is false [] h = refl
held_is false (r ∷ older) h = cc h

-- region i's words, and its volume's, after a call on them: all beside them is as it was, and the words of before are so
pub record Turned (shape : VolumeShape) (i n : ℕ) (f g : BlockWords) : Type 0 where
  pub rest : RestHeld shape i f g
  pub undoes : Undoes n (held_of shape f i).word (held_of shape g i).word

-- of the view that stands on region i of a volume of this shape, which reads as f; now it reads as g
pub turned : (shape here there : VolumeShape) (i j k : Ino) (n m : ℕ) (f e g : BlockWords) → here ≡ shape → j ≡ i → e ≡ f → SameBeside here j n e there k m g → Undoes n (held_of here e j.0).word (held_of there g k.0).word → Turned shape i.0 n f g
turned shape here there i j k n m f e g sizes on words beside undoes =
    subst (λ (h : BlockWords). Turned shape i.0 n h g) words
    (subst (λ (q : Ino). Turned shape q.0 n e g) on
    (subst (λ (sh : VolumeShape). Turned sh j.0 n e g) sizes
    (record {
      rest = beside.rest;
      undoes = subst (λ (q : Ino). Undoes n (held_of here e j.0).word (held_of here g q.0).word) beside.ino (subst (λ (sh : VolumeShape). Undoes n (held_of here e j.0).word (held_of sh g k.0).word) beside.shape undoes);
    })))

-- it had a record or none
pub had_records : (shape here : VolumeShape) (i j : Ino) (f e : BlockWords) (b : Bool) → here ≡ shape → j ≡ i → e ≡ f → MatchBool b (undo_records (held_of here e j.0).word ≡ [] → ⊥) (undo_records (held_of here e j.0).word ≡ []) → b ≡ has_records shape f i.0
had_records shape here i j f e b sizes on words h =
    held_is b (undo_records (held_of here e j.0).word) h ∙ ap (λ (sh : VolumeShape). has_records sh e j.0) sizes ∙ ap (λ (q : Ino). has_records shape e q.0) on ∙ ap (λ (w : BlockWords). has_records shape w i.0) words

-- no record of it is left
pub none_left : (shape here there : VolumeShape) (i j k : Ino) (n m : ℕ) (e g : BlockWords) → here ≡ shape → j ≡ i → SameBeside here j n e there k m g → undo_records (held_of there g k.0).word ≡ [] → undo_records (held_of shape g i.0).word ≡ []
none_left shape here there i j k n m e g sizes on beside none =
    subst (λ (q : Ino). undo_records (held_of shape g q.0).word ≡ []) (beside.ino ∙ on) (subst (λ (sh : VolumeShape). undo_records (held_of sh g k.0).word ≡ []) (beside.shape ∙ sizes) none)

-- the volume reads as the state that it read as
pub reads_turned : (shape : VolumeShape) (i n : ℕ) (f g : BlockWords) → (held_of shape f i).kind ≡ 3 → (held_of shape f i).size ≡ 8 * n → IsMapped shape g → Turned shape i n f g → (s : State) → ReadsAs shape f s → ReadsAs shape g s
reads_turned shape i n f g kind size mapped t s reads = reads_recovered shape f g s i reads mapped t.rest kind (subst (λ m. Undoes m (held_of shape f i).word (held_of shape g i).word) (omega (arith, size)) t.undoes)

-- no word changed
pub reads_still : (shape : VolumeShape) (f g : BlockWords) (s : State) → g ≡ f → ReadsAs shape f s → ReadsAs shape g s
reads_still shape f g s same reads = subst (λ (e : BlockWords). ReadsAs shape e s) (sym same) reads
