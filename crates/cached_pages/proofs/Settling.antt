-- What a call outside an update leaves so, as callers see it: what stands, and which blocks are loose.
use Rattle.cached_pages.proofs.Common.{◌≡◌, ◌≢◌, ℕ, ◌==◌, ◌<◌, ◌||◌, Bool, true, false, List, slice_index_or, refl, ◌∙◌, ap, sym, subst, arith, eq-eqb, BlockWords, Contents, Lasts, Running, Steps, true_false, Firm, Goes, put_run, gate_of, Keeps, reads, stands, stands_idle}
use Rattle.std.proofs.lemmas.Bool.Decides.{nat_tests}
use Rattle.rio_base.specs.Volume.{OldOrRun, SameBut, put}
use Rattle.rio_model.specs.Cover.{is_loose}
use Rattle.cached_pages.specs.declared.tables.CacheTables.{CacheTables}
use Rattle.cached_pages.specs.Caches.{FewWrites, cache_below, cache_health, cache_kept, was_forgotten}
use Rattle.cached_pages.specs.Stores.{Rewrites}
use Rattle.cached_pages.proofs.Goes.{goes_few}

-- ---- what stands

pub not_one : (g : ℕ) → (g == 1) ≡ false → g ≢ 1
not_one g e one = true_false (sym (eq-eqb g 1 one) ∙ e)

pub rewrites_keeps : (a d : Contents) → Keeps a d → Rewrites (reads a) a d
rewrites_keeps a d h = record { reading = h.reads; firm = h.firm; coherent = h.coherent; header = h.header }

pub rewrites_after : (f h : BlockWords) (a c d : Contents) → Keeps a c → Rewrites f c d → f ≡ h → Rewrites h a d
rewrites_after f h a c d k w e = record { reading = w.reading ∙ e; firm = λ b l. k.firm b (w.firm b l); coherent = λ n s. w.coherent n (k.coherent n s); header = λ i less. w.header i less ∙ k.header i less }

-- what a call outside an update leaves so that rewrites block b alone
pub record Settles (b : ℕ) (a d : Contents) (r s : Running) (t u : CacheTables) : Type 0 where
  pub standing : SameBut b (stands a) (stands d)
  pub firm : Firm (cache_kept a t) (cache_kept d u)
  pub idle : (gate_of d.words == 1) ≡ false
  pub goes : Goes (cache_health a r) (cache_below a r) (cache_health d s) (cache_below d s)

pub loose_by : (f g l m : Bool) → f ≡ g → (l ≡ true → m ≡ true) → (f || l) ≡ true → (g || m) ≡ true
loose_by true true l m e h q = refl
loose_by true false l m e h q = absurd (true_false e)
loose_by false true l m e h q = refl
loose_by false false l m e h q = h q

pub firm_rewrites : (words : BlockWords) (a d : Contents) (t u : CacheTables) → Rewrites words a d → u ≡ t → Firm (cache_kept a t) (cache_kept d u)
firm_rewrites words a d t u w same = record { loose = λ c e. loose_by (was_forgotten u c) (was_forgotten t c) (is_loose d c) (is_loose a c) (ap (λ (m : CacheTables). was_forgotten m c) same) (w.firm c) e }

pub settles : (b : ℕ) (words : BlockWords) (a d : Contents) (r s : Running) (t u : CacheTables) → (gate_of a.words == 1) ≡ false → Rewrites words a d → SameBut b (reads a) words → u.forgotten ≡ t.forgotten → Lasts a d → Steps r s → FewWrites b t a d → Settles b a d r s t u
settles b words a d r s t u shut w same marks l h few = record {
  standing = record { others = λ c x ne. ap (λ (f : BlockWords). f c x) (stands_idle d now ∙ w.reading) ∙ same.others c x ne ∙ ap (λ (f : BlockWords). f c x) (sym (stands_idle a (not_one (gate_of a.words) shut))) };
  firm = record { loose = λ c e. loose_by (was_forgotten u c) (was_forgotten t c) (is_loose d c) (is_loose a c) (ap (λ (m : _). slice_index_or m.items c false) marks) (w.firm c) e };
  idle = ap (λ n. n == 1) (w.header 4 (omega arith)) ∙ shut;
  goes = goes_few b t a d r s l h (w.header 2 (omega arith)) few;
}
  where
    now : gate_of d.words ≢ 1
    now one = not_one (gate_of a.words) shut (sym (w.header 4 (omega arith)) ∙ one)

pub same_refl : (b : ℕ) (f : BlockWords) → SameBut b f f
same_refl b f = record { others = λ c x ne. refl }

pub same_put : (b w v : ℕ) (f : BlockWords) → SameBut b f (put f b w v)
same_put b w v f = record { others = λ c x ne. other c x ne }
  where
    other : (c x : ℕ) → c ≢ b → put f b w v c x ≡ f c x
    other c x ne = grind (arith, nat_tests, ne)

pub same_run : (b w n : ℕ) (from : List ℕ) (f : BlockWords) → SameBut b f (put_run f b w n from)
same_run b w n from f = record { others = λ c x ne. other c x ne }
  where
    other : (c x : ℕ) → c ≢ b → put_run f b w n from c x ≡ f c x
    other c x ne = grind (arith, nat_tests, ne)

-- ---- a word

-- a store that changed nothing
pub settles_kept : (b : ℕ) (a d : Contents) (r s : Running) (t u : CacheTables) → (gate_of a.words == 1) ≡ false → Keeps a d → u.forgotten ≡ t.forgotten → Lasts a d → Steps r s → FewWrites b t a d → Settles b a d r s t u
settles_kept b a d r s t u shut k marks l h few = settles b (reads a) a d r s t u shut (rewrites_keeps a d k) (same_refl b (reads a)) marks l h few

pub put_then : (b w v : ℕ) (a c d : Contents) → Keeps a c → Rewrites (put (reads c) b w v) c d → Rewrites (put (reads a) b w v) a d
put_then b w v a c d k h = rewrites_after (put (reads c) b w v) (put (reads a) b w v) a c d k h (ap (λ (f : BlockWords). put f b w v) k.reads)

pub run_then : (b w n : ℕ) (from : List ℕ) (a c d : Contents) → Keeps a c → Rewrites (put_run (reads c) b w n from) c d → Rewrites (put_run (reads a) b w n from) a d
run_then b w n from a c d k h = rewrites_after (put_run (reads c) b w n from) (put_run (reads a) b w n from) a c d k h (ap (λ (f : BlockWords). put_run f b w n from) k.reads)

pub keeps_to : (a c d : Contents) → Keeps a c → d ≡ c → Keeps a d
keeps_to a c d k e = subst (Keeps a) (sym e) k

-- ---- a run of words

run_none : (b w : ℕ) (from : List ℕ) (f : BlockWords) → f ≡ put_run f b w 0 from
run_none b w from f = λ i c x. same c x i
  where
    same : (c x : ℕ) → f c x ≡ put_run f b w 0 from c x
    same c x = grind (arith, nat_tests)

-- no word was stored
pub run_front : (b w most : ℕ) (from : List ℕ) (a d : Contents) → Keeps a d → OldOrRun (reads a) (reads d) b w from most
run_front b w most from a d k = (0, omega arith, k.reads ∙ run_none b w from (reads a))

pub some_length : (n : ℕ) → (n == 0) ≡ false → 0 < n
some_length n h = grind (arith, nat_tests, h)
