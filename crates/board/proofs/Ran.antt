-- A board after some steps in a row, each of which stored a word.
use Rattle.std.proofs.Common.{◌≡◌, ℕ, ◌+◌, ◌<◌, ◌≤◌, true, List, length, le_refl, sym, ◌∙◌, ap, subst, arith}
use Rattle.rio_base.specs.Disks.{DiskContents, FaultCount, FaultsLast}
use Rattle.rio_base.specs.Machine.{Contents, Falls, Lasts, Running, Steps}
use Rattle.rio_base.proofs.MachineRules.{falls_trans, lasts_refl, steps_trans}
use Rattle.rio_base.specs.Memory.{FrontStored}
use Rattle.board.specs.declared.guard.Guard.{Guard}
use Rattle.board.specs.Boards.{contents_of, protected_count, protected_of, running_of, scratch_of}
use Rattle.board.specs.Guards.{Halted, HaltsSooner, HaltsWithin, MakesSteps, StopsAfter, page_of}
use Rattle.board.proofs.StepRuns.{makes_more, never_at_once, sooner_more}
use Rattle.board.proofs.WordRuns.{running_front}

-- what k steps leave, beside the words that they stored
pub record Ran (k : ℕ) (words : List ℕ) (pages : ℕ) (disk : DiskContents) (g : Guard) (now : List ℕ) (then : ℕ) (after : DiskContents) (new : Guard) : Type 0 where
  pub count : length now ≡ length words
  pub rest : contents_of now then after new ≡ record (contents_of words pages disk g) { words = protected_of now then }
  pub steps : Steps (running_of words pages g) (running_of now then new)
  pub falls : Falls (page_of g) (running_of words pages g) (running_of now then new)
  pub frozen : g.stopped ≡ true → (k ≡ 0) × (contents_of now then after new ≡ contents_of words pages disk g)
  pub runs : new.stopped ≡ g.stopped
  pub sooner : HaltsSooner k (protected_count words pages) g new
  pub made : MakesSteps k (protected_count words pages) (scratch_of words pages) g (scratch_of now then) new

pub same_rest : (words now : List ℕ) (pages then : ℕ) (disk after : DiskContents) (g new : Guard) → after ≡ disk → page_of new ≡ page_of g → contents_of now then after new ≡ record (contents_of words pages disk g) { words = protected_of now then }
same_rest words now pages then disk after g new same page =
    ap (λ (d : DiskContents). contents_of now then d new) same
    ∙ ap (λ o. record (contents_of now then disk new) { open_page = o }) page

pub ran_more : (k n : ℕ) (words : List ℕ) (pages : ℕ) (disk : DiskContents) (g : Guard) (mid : List ℕ) (pages_mid : ℕ) (disk_mid : DiskContents) (g_mid : Guard) (now : List ℕ) (then : ℕ) (after : DiskContents) (new : Guard) → Ran k words pages disk g mid pages_mid disk_mid g_mid → Ran n mid pages_mid disk_mid g_mid now then after new → Ran (k + n) words pages disk g now then after new
ran_more k n words pages disk g mid pages_mid disk_mid g_mid now then after new h i =
    let size : protected_count mid pages_mid ≡ protected_count words pages = h.steps.protected in
    let page : page_of g_mid ≡ page_of g = ap (λ (c : Contents). c.open_page) h.rest in
    record {
      count = i.count ∙ h.count;
      rest = i.rest ∙ ap (λ (c : Contents). record c { words = protected_of now then }) h.rest;
      steps = steps_trans _ _ _ h.steps i.steps;
      falls = falls_trans (page_of g) _ _ _ h.steps i.steps h.falls (subst (λ o. Falls o (running_of mid pages_mid g_mid) (running_of now then new)) page i.falls);
      frozen = λ e. let one = h.frozen e in let two = i.frozen (h.runs ∙ e) in (omega (arith, one.0, two.0), two.1 ∙ one.1);
      runs = i.runs ∙ h.runs;
      sooner = sooner_more k n (protected_count words pages) g g_mid new h.sooner (subst (λ s. HaltsSooner n s g_mid new) size i.sooner);
      made = makes_more k n (protected_count words pages) (scratch_of words pages) (scratch_of mid pages_mid) (scratch_of now then) g g_mid new h.made (subst (λ s. MakesSteps n s (scratch_of mid pages_mid) g_mid (scratch_of now then) new) size i.made);
    }

-- the words of these steps are stored
pub ran_stored : (k at n : ℕ) (from words : List ℕ) (pages : ℕ) (disk : DiskContents) (g : Guard) (mid now : List ℕ) (then : ℕ) (after : DiskContents) (new : Guard) → 0 < k → FrontStored at n from mid now → at + n ≤ protected_count mid then → Ran k words pages disk g mid then after new → Ran k words pages disk g now then after new
ran_stored k at n from words pages disk g mid now then after new some f fits h =
    let same : running_of mid then new ≡ running_of now then new = sym (running_front at n then from mid now new f fits) in
    record {
      count = f.count ∙ h.count;
      rest = ap (λ (c : Contents). record c { words = protected_of now then }) h.rest;
      steps = subst (λ (r : Running). Steps (running_of words pages g) r) same h.steps;
      falls = subst (λ (r : Running). Falls (page_of g) (running_of words pages g) r) same h.falls;
      frozen = λ e. absurd (omega (arith, some, (h.frozen e).0));
      runs = h.runs;
      sooner = h.sooner;
      made = subst (λ (r : Running). MakesSteps k (protected_count words pages) (scratch_of words pages) g r.scratch new) same h.made;
    }

-- the step that follows them answers Stopped, and no word changes in it
pub ran_stops : (k : ℕ) (words : List ℕ) (pages : ℕ) (disk : DiskContents) (g : Guard) (mid : List ℕ) (pages_mid : ℕ) (disk_mid : DiskContents) (g_mid : Guard) (now : List ℕ) (then : ℕ) (new : Guard) → Ran k words pages disk g mid pages_mid disk_mid g_mid → now ≡ mid → then ≡ pages_mid → Halted (protected_count mid pages_mid) g_mid new → StopsAfter k (protected_count words pages) (scratch_of words pages) g (scratch_of now then) new
ran_stops k words pages disk g mid pages_mid disk_mid g_mid now then new h same pages_same stop = record {
  none_before = λ e. never_at_once g_mid (protected_count words pages) ((h.sooner 0).1 (subst (λ n. HaltsWithin g n (protected_count words pages)) (omega arith) e));
  stops = (g_mid, subst (λ (s : List ℕ). MakesSteps k (protected_count words pages) (scratch_of words pages) g s g_mid) (sym scratch) h.made, subst (λ s. Halted s g_mid new) h.steps.protected stop);
}
  where
    scratch : scratch_of now then ≡ scratch_of mid pages_mid
    scratch = ap (λ (ws : List ℕ). scratch_of ws then) same ∙ ap (λ (p : ℕ). scratch_of mid p) pages_same

pub lasts_rest : (old new : Contents) → new ≡ record old { words = new.words } → length new.words ≡ length old.words → Lasts old new
lasts_rest old new e size = record {
  size = size;
  blocks = ap (λ (m : Contents). length m.disk) e;
  around = ap (λ (m : Contents). m.around) e;
  faults = subst (λ (f : FaultCount). FaultsLast old.faults f) (sym (ap (λ (m : Contents). m.faults) e)) (lasts_refl old).faults;
  writes = subst (λ (n : ℕ). old.writes ≤ n) (sym (ap (λ (m : Contents). m.writes) e)) (le_refl old.writes);
}
