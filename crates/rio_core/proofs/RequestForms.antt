-- Requests by which call of a core answers them, and what that call asks.
use Rattle.rio_core.proofs.Common.{◌≡◌, ℕ, true, false, refl, sym, ap, subst, ◌∙◌, inl, inr, arith, List, [], ◌∷◌, Result, Ok, Some, IsErr, Reply, Request}
use Rattle.std.proofs.lemmas.Bool.Decides.{nat_tests}
use Rattle.std.specs.Prelude.{◌==◌}
use Rattle.rio_base.specs.declared.failures.Stopped.{Stopped as MachineStopped}
use Rattle.rio_base.specs.Blocks.{EndsBy, Health}
use Rattle.rio_base.specs.Failures.{Rose, RoseBy}
use Rattle.rio_base.specs.Rules.{true_false}
use Rattle.rio_base.specs.Volume.{Below}
use Rattle.rio_model.specs.Paths.{IsPath}
use Rattle.rio_requests.specs.Requests.{IsRequest, OnFiles}
use Rattle.rio_requests.specs.Went.{Went, faults_in}
use Rattle.rio_requests.specs.declared.reply.Reply.TheVariants.{Fault as Faulted}
use Rattle.rio_requests.specs.declared.request.Request.TheVariants.{Sync, Txns, Flush, Wild, Arm}
use Rattle.rio_core.specs.CallEnds.{IsAt}
use Rattle.rio_core.specs.Serving.{TellsFault}
use Rattle.rio_core.proofs.WentBy.{OfFiles, OfRegions}

-- ---- requests by which call of a core answers them

-- those that a core answers by itself, by a number each, and 0 for those on files and on regions
abbrev pub call_of : Request → ℕ
call_of Sync = 1
call_of Txns = 2
call_of (Flush count) = 3
call_of (Wild at value) = 4
call_of (Arm step at value) = 5
call_of _ = 0

pub of_sync : (r : Request) → r ≡ Sync → call_of r ≡ 1
of_sync r is = ap call_of is

pub of_txns : (r : Request) → r ≡ Txns → call_of r ≡ 2
of_txns r is = ap call_of is

pub of_flush : (r : Request) (count : ℕ) → r ≡ Flush count → call_of r ≡ 3
of_flush r count is = ap call_of is

pub of_wild : (r : Request) (at value : ℕ) → r ≡ Wild at value → call_of r ≡ 4
of_wild r at value is = ap call_of is

pub of_arm : (r : Request) (step at value : ℕ) → r ≡ Arm step at value → call_of r ≡ 5
of_arm r step at value is = ap call_of is

pub of_files : (r : Request) → OfFiles r → call_of r ≡ 0
of_files r (inl (path, is)) = ap call_of is
of_files r (inr (inl (path, is))) = ap call_of is
of_files r (inr (inr (inl (path, pages, undo, is)))) = ap call_of is
of_files r (inr (inr (inr (inl (path, off, bytes, is))))) = ap call_of is
of_files r (inr (inr (inr (inr (inl (path, off, len, is)))))) = ap call_of is
of_files r (inr (inr (inr (inr (inr (inl (path, len, is))))))) = ap call_of is
of_files r (inr (inr (inr (inr (inr (inr (inl (path, is)))))))) = ap call_of is
of_files r (inr (inr (inr (inr (inr (inr (inr (inl (path, is))))))))) = ap call_of is
of_files r (inr (inr (inr (inr (inr (inr (inr (inr (inl (path, to, is)))))))))) = ap call_of is
of_files r (inr (inr (inr (inr (inr (inr (inr (inr (inr (inl (path, is))))))))))) = ap call_of is
of_files r (inr (inr (inr (inr (inr (inr (inr (inr (inr (inr (path, is))))))))))) = ap call_of is

pub of_regions : (path : List ℕ) (r : Request) → OfRegions path r → call_of r ≡ 0
of_regions path r (inl is) = ap call_of is
of_regions path r (inr (inl (off, len, is))) = ap call_of is
of_regions path r (inr (inr (inl (off, bytes, is)))) = ap call_of is
of_regions path r (inr (inr (inr (inl (off, len, is))))) = ap call_of is
of_regions path r (inr (inr (inr (inr (inl (units, is)))))) = ap call_of is
of_regions path r (inr (inr (inr (inr (inr (inl (at, is))))))) = ap call_of is
of_regions path r (inr (inr (inr (inr (inr (inr (inl is))))))) = ap call_of is
of_regions path r (inr (inr (inr (inr (inr (inr (inr is))))))) = ap call_of is

-- a request that one of them answers is none of another
pub other_call : (r : Request) (k n : ℕ) → (k == n) ≡ false → call_of r ≡ k → call_of r ≡ n → ⊥
other_call r k n apart one other = true_false (sym (ap (λ m. m == n) (sym one ∙ other) ∙ same n) ∙ apart)
  where
    same : (m : ℕ) → (m == m) ≡ true
    same m = grind (arith, nat_tests)

-- ---- what is said of the form that a request has

abbrev OnFlush : (ℕ → Type 0) → Request → Type 0
OnFlush P (Flush count) = P count
OnFlush P _ = Unit {0}

pub flush_as : (P : ℕ → Type 0) (r : Request) (m n : ℕ) → r ≡ Flush m → r ≡ Flush n → P m → P n
flush_as P r m n is same h = subst (OnFlush P) (sym is ∙ same) h

abbrev OnWild : (ℕ → ℕ → Type 0) → Request → Type 0
OnWild P (Wild at value) = P at value
OnWild P _ = Unit {0}

pub wild_as : (P : ℕ → ℕ → Type 0) (r : Request) (a v at value : ℕ) → r ≡ Wild a v → r ≡ Wild at value → P a v → P at value
wild_as P r a v at value is same h = subst (OnWild P) (sym is ∙ same) h

abbrev OnArm : (ℕ → ℕ → ℕ → Type 0) → Request → Type 0
OnArm P (Arm step at value) = P step at value
OnArm P _ = Unit {0}

pub arm_as : (P : ℕ → ℕ → ℕ → Type 0) (r : Request) (n a v step at value : ℕ) → r ≡ Arm n a v → r ≡ Arm step at value → P n a v → P step at value
arm_as P r n a v step at value is same h = subst (OnArm P) (sym is ∙ same) h

-- ---- what the calls on files and on regions ask

pub files_on : (r : Request) → OfFiles r → OnFiles r
files_on r (inl (path, is)) = subst OnFiles (sym is) tt
files_on r (inr (inl (path, is))) = subst OnFiles (sym is) tt
files_on r (inr (inr (inl (path, pages, undo, is)))) = subst OnFiles (sym is) tt
files_on r (inr (inr (inr (inl (path, off, bytes, is))))) = subst OnFiles (sym is) tt
files_on r (inr (inr (inr (inr (inl (path, off, len, is)))))) = subst OnFiles (sym is) tt
files_on r (inr (inr (inr (inr (inr (inl (path, len, is))))))) = subst OnFiles (sym is) tt
files_on r (inr (inr (inr (inr (inr (inr (inl (path, is)))))))) = subst OnFiles (sym is) tt
files_on r (inr (inr (inr (inr (inr (inr (inr (inl (path, is))))))))) = subst OnFiles (sym is) tt
files_on r (inr (inr (inr (inr (inr (inr (inr (inr (inl (path, to, is)))))))))) = subst OnFiles (sym is) tt
files_on r (inr (inr (inr (inr (inr (inr (inr (inr (inr (inl (path, is))))))))))) = subst OnFiles (sym is) tt
files_on r (inr (inr (inr (inr (inr (inr (inr (inr (inr (inr (path, is))))))))))) = subst OnFiles (sym is) tt

region_at : (path : List ℕ) (r : Request) → OfRegions path r → IsAt path r
region_at path r (inl is) = subst (IsAt path) (sym is) refl
region_at path r (inr (inl (off, len, is))) = subst (IsAt path) (sym is) refl
region_at path r (inr (inr (inl (off, bytes, is)))) = subst (IsAt path) (sym is) refl
region_at path r (inr (inr (inr (inl (off, len, is))))) = subst (IsAt path) (sym is) refl
region_at path r (inr (inr (inr (inr (inl (units, is)))))) = subst (IsAt path) (sym is) refl
region_at path r (inr (inr (inr (inr (inr (inl (at, is))))))) = subst (IsAt path) (sym is) refl
region_at path r (inr (inr (inr (inr (inr (inr (inl is))))))) = subst (IsAt path) (sym is) refl
region_at path r (inr (inr (inr (inr (inr (inr (inr is))))))) = subst (IsAt path) (sym is) refl

pub regions_at : (path p : List ℕ) (r : Request) → p ≡ path → OfRegions path r → IsAt p r
regions_at path p r same of = subst (λ q. IsAt q r) (sym same) (region_at path r of)

region_path : (path : List ℕ) (r : Request) → OfRegions path r → IsRequest r → IsPath path
region_path path r (inl is) h = subst IsRequest is h
region_path path r (inr (inl (off, len, is))) h = subst IsRequest is h
region_path path r (inr (inr (inl (off, bytes, is)))) h = (subst IsRequest is h).0
region_path path r (inr (inr (inr (inl (off, len, is))))) h = (subst IsRequest is h).0
region_path path r (inr (inr (inr (inr (inl (units, is)))))) h = (subst IsRequest is h).0
region_path path r (inr (inr (inr (inr (inr (inl (at, is))))))) h = subst IsRequest is h
region_path path r (inr (inr (inr (inr (inr (inr (inl is))))))) h = subst IsRequest is h
region_path path r (inr (inr (inr (inr (inr (inr (inr is))))))) h = subst IsRequest is h

pub regions_path : (path p : List ℕ) (r : Request) → p ≡ path → OfRegions path r → IsRequest r → IsPath p
regions_path path p r same of h = subst IsPath (sym same) (region_path path r of h)

-- ---- replies

pub same_reply : (p : Result Reply MachineStopped) (a b : Reply) → p ≡ Ok a → p ≡ Ok b → a ≡ b
same_reply p a b is other = cc

-- a reply that tells a fault where none was counted is none
pub still_ends : (r : Request) (reply : Reply) (s : Health) (old : Below) (t : Health) (new : Below) → t ≡ s → Went (Some r ∷ []) (reply ∷ []) s old t new → EndsBy s t (TellsFault (Ok reply)) (IsErr {T = Reply} {E = MachineStopped} (Ok reply))
still_ends r reply s old t new same went = record {
  later = went.later;
  stays = λ p. went.running ∙ p;
  cause = by reply went.counted;
  told = λ p. absurd (true_false (sym p));
  runs = λ n. went.running;
}
  where
    by : (answer : Reply) → RoseBy (faults_in (answer ∷ [])) s.faults t.faults → TellsFault (Ok answer) → Rose s.faults t.faults
    by (Faulted done) (inl more) f = inl (omega (arith, more))
    by (Faulted done) (inr most) f = inr most
    by _ counted f = absurd f
