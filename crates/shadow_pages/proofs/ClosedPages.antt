-- What a call on an open page is to a caller who sees it closed before and after.
use Rattle.std.specs.Prelude.{◌≡◌, ℕ, ◌<◌, ◌≤◌, List, Option, None, Result, Ok, Err, OnOk, OnErr}
use Rattle.std.proofs.Common.{◌∙◌, ap, sym, subst, arith}
use Rattle.std.proofs.lemmas.Result.{on_ok_weaker}
use Rattle.rio_base.specs.Machine.{Advances, Contents, Copied, CopiedScratch, Lasts, Running, StepEnds}
use Rattle.shadow_pages.specs.Steps.{StoresWords}

-- a page is opened, stores are made, and it is closed
pub record Closes (p : Option ℕ) (a b c d : Contents) : Type 0 where
  pub opened : b ≡ record a { open_page = p }
  pub stored : c ≡ record b { words = c.words }
  pub closed : d ≡ record c { open_page = None }

pub words_before : (p : Option ℕ) (a b : Contents) → b ≡ record a { open_page = p } → b.words ≡ a.words
words_before p a b e = ap (λ (x : Contents). x.words) e

words_behind : (c d : Contents) → d ≡ record c { open_page = None } → d.words ≡ c.words
words_behind c d e = ap (λ (x : Contents). x.words) e

closed_rest : (p : Option ℕ) (a b c d : Contents) → a.open_page ≡ None → Closes p a b c d → d ≡ record a { words = d.words }
closed_rest p a b c d shut h =
    h.closed
    ∙ ap (λ (x : Contents). record x { open_page = None }) (h.stored ∙ ap (λ (x : Contents). record x { words = c.words }) h.opened)
    ∙ ap (λ (xs : List ℕ). record a { words = xs; open_page = None }) (sym (words_behind c d h.closed))
    ∙ ap (λ (o : Option ℕ). record a { words = d.words; open_page = o }) (sym shut)

closed_lasts : (p : Option ℕ) (a b c d : Contents) → Closes p a b c d → Lasts b c → Lasts a d
closed_lasts p a b c d h l =
    let m : Lasts (record a { open_page = p }) c = subst (λ (x : Contents). Lasts x c) h.opened l in
    let n : Lasts a (record c { open_page = None }) = record { size = m.size; blocks = m.blocks; around = m.around; faults = m.faults; writes = m.writes } in
    subst (λ (x : Contents). Lasts a x) (sym h.closed) n

pub closed_stores : (p : Option ℕ) (a b c d : Contents) → a.open_page ≡ None → Closes p a b c d → Lasts b c → StoresWords a d
closed_stores p a b c d shut h l = record {
  rest = closed_rest p a b c d shut h;
  was_closed = shut;
  closed = ap (λ (x : Contents). x.open_page) h.closed;
  lasts = closed_lasts p a b c d h l;
}

pub copied_on : (from to n : ℕ) (p : Option ℕ) (a b c d : Contents) → Closes p a b c d → Copied from to n b.words c.words → Copied from to n a.words d.words
copied_on from to n p a b c d h copied =
    subst (λ (ws : List ℕ). Copied from to n a.words ws) (sym (words_behind c d h.closed))
    (subst (λ (ws : List ℕ). Copied from to n ws c.words) (words_before p a b h.opened) copied)

pub copied_all : {T E : Type 0} (r : Result T E) (from to : ℕ) (p : Option ℕ) (a b c d : Contents) → Closes p a b c d → OnOk r (Copied from to 512 b.words c.words) → OnOk r (Copied from to 512 a.words d.words)
copied_all r from to p a b c d h whole = on_ok_weaker r (λ k. copied_on from to 512 p a b c d h k) whole

-- a front is copied, whatever the answer
pub copied_front : {T E : Type 0} (r : Result T E) (from to : ℕ) (p : Option ℕ) (a b c d : Contents) (q s : Running) → Closes p a b c d
    → OnOk r (Copied from to 512 b.words c.words)
    → OnErr r ((n : ℕ) × (n < 512) × Copied from to n b.words c.words × CopiedScratch from to n q c.words × Advances n q s)
    → (n : ℕ) × (n ≤ 512) × Copied from to n a.words d.words
copied_front (Ok x) from to p a b c d q s h whole front = (512, omega arith, copied_on from to 512 p a b c d h whole)
copied_front (Err e) from to p a b c d q s h whole front = (let less = front.1 in (front.0, omega (arith, less), copied_on from to front.0 p a b c d h front.2))

pub closed_ends : (q r s t : Running) (stop : Type 0) → r ≡ q → t ≡ s → StepEnds r s stop → StepEnds q t stop
closed_ends q r s t stop before behind ends = subst (λ (x : Running). StepEnds q x stop) (sym behind) (subst (λ (x : Running). StepEnds x s stop) before ends)
