-- Laws of a stop: which node an inode has after it, what of a state it leaves as it is, and that a change of nodes on which
-- no transaction is open may as well come after it.
use Rattle.rio_requests.proofs.Common.{◌≡◌, ◌≢◌, ℕ, ◌-◌, ◌*◌, ◌/◌, ◌==◌, Bool, true, false, cond, List, [], ◌∷◌, length, map, refl, sym, ap, subst, ◌∙◌, inl, inr, is_none, find, sum, Result, Ok, Err, range_with_len, get, reserved, Node, Dir, File, Region, RegionNode, State, Txn, is_dir, walk, walk_to_dir, blocks_for, free_count, node_blocks, least_free, names_in, with_new, with_node, open_inodes, region_words}
use Rattle.std.proofs.Common.{◌||◌, Option, Some, None}
use Rattle.std.specs.Cmp.{nat_cmp_total}
use Rattle.std.specs.FinMap.{insert, remove, get-remove}
use Rattle.std.specs.Ordering.{nat_cmp, eq_by_cmp}
use Rattle.std.proofs.lemmas.Bool.{cases_eq}
use Rattle.std.proofs.lemmas.Bool.Decides.{Decides-eqb}
use Rattle.rio_base.specs.Rules.{true_false}
use Rattle.rio_model.specs.Nodes.{Nodes}
use Rattle.rio_model.specs.Paths.{as_dir, from_found}
use Rattle.rio_model.proofs.WordRules.{differs, itself}
use Rattle.rio_model.proofs.NameOrder.{nat_tied}
use Rattle.rio_model.proofs.NodeOrder.{same_nodes}
use Rattle.rio_model.proofs.StateSteps.{get_here, get_there}
use Rattle.rio_requests.specs.Answers.{is_among, is_open, replaced, without}
use Rattle.rio_requests.specs.Crash.{NotOpen, OneEach, OpenRegions, crashed, undo_all, undo_at}
use Rattle.rio_requests.specs.RegionAnswers.{undone}
use Rattle.rio_requests.specs.Transactions.{txn_at}

-- ---- the node of an inode

-- a node, once the transaction that is open on it is undone
abbrev pub undone_node : Option Txn → Option Node → Option Node
undone_node None n = n
undone_node (Some t) None = None
undone_node (Some t) (Some Dir) = Some Dir
undone_node (Some t) (Some (File bytes)) = Some (File bytes)
undone_node (Some t) (Some (Region r)) = Some (Region (undone r t))

at_own : (m : Nodes) (t : Txn) (n : Option Node) → get m t.ino.0 ≡ n → get (undo_at m t n) t.ino.0 ≡ undone_node (Some t) n
at_own m t None e = e
at_own m t (Some Dir) e = e
at_own m t (Some (File bytes)) e = e
at_own m t (Some (Region r)) e = get_here m t.ino.0 (Region (undone r t))

at_other : (m : Nodes) (t : Txn) (n : Option Node) (i : ℕ) → i ≢ t.ino.0 → get (undo_at m t n) i ≡ get m i
at_other m t None i away = refl
at_other m t (Some Dir) i away = refl
at_other m t (Some (File bytes)) i away = refl
at_other m t (Some (Region r)) i away = get_there m t.ino.0 (Region (undone r t)) i away

not_same : (j i : ℕ) → (j == i) ≡ false → i ≢ j
not_same j i e z = true_false (sym (ap (λ x. j == x) z ∙ itself j) ∙ e)

one_undone : (m : Nodes) (t : Txn) (i : ℕ) (b : Bool) → (t.ino.0 == i) ≡ b → get (undo_at m t (get m t.ino.0)) i ≡ undone_node (cond b (Some t) None) (get m i)
one_undone m t i true e = subst (λ j. get (undo_at m t (get m t.ino.0)) j ≡ undone_node (Some t) (get m j)) ((Decides-eqb t.ino.0 i).0 e) (at_own m t (get m t.ino.0) refl)
one_undone m t i false e = at_other m t (get m t.ino.0) i (not_same t.ino.0 i e)

-- the first transaction is undone, and then the others
first_undone : (t : Txn) (ts : List Txn) (m : Nodes) (i : ℕ) (n : Option Node) (b : Bool) → (t.ino.0 == i) ≡ b → NotOpen ts t.ino.0 → n ≡ undone_node (txn_at ts i) (get (undo_at m t (get m t.ino.0)) i) → n ≡ undone_node (cond b (Some t) (txn_at ts i)) (get m i)
first_undone t ts m i n true e once rest =
    let none : txn_at ts i ≡ None = subst (NotOpen ts) ((Decides-eqb t.ino.0 i).0 e) once in
    rest ∙ ap (λ o. undone_node o (get (undo_at m t (get m t.ino.0)) i)) none ∙ one_undone m t i true e
first_undone t ts m i n false e once rest = rest ∙ ap (undone_node (txn_at ts i)) (one_undone m t i false e)

pub get_undone : (ts : List Txn) (m : Nodes) (i : ℕ) → OneEach ts → get (undo_all ts m) i ≡ undone_node (txn_at ts i) (get m i)
get_undone [] m i h = refl
get_undone (t ∷ ts) m i h = first_undone t ts m i (get (undo_all ts (undo_at m t (get m t.ino.0))) i) (t.ino.0 == i) refl h.0 (get_undone ts (undo_at m t (get m t.ino.0)) i h.1)

-- a stop undoes at each inode the transaction that is open there, if one is
pub get_crashed : (s : State) → OpenRegions s → (i : ℕ) → get (crashed s).nodes i ≡ undone_node (txn_at s.txns i) (get s.nodes i)
get_crashed s h i = get_undone s.txns s.nodes i h.once

-- a node on which no transaction is open is as it was
pub get_closed : (s : State) → OpenRegions s → (i : ℕ) → NotOpen s.txns i → get (crashed s).nodes i ≡ get s.nodes i
get_closed s h i none = get_crashed s h i ∙ ap (λ o. undone_node o (get s.nodes i)) none

-- an open region is as it was before its transaction
pub get_open : (s : State) → OpenRegions s → (i : ℕ) (t : Txn) (r : RegionNode) → txn_at s.txns i ≡ Some t → get s.nodes i ≡ Some (Region r) → get (crashed s).nodes i ≡ Some (Region (undone r t))
get_open s h i t r is node = get_crashed s h i ∙ ap (λ o. undone_node o (get s.nodes i)) is ∙ ap (undone_node (Some t)) node

-- ---- nodes that are alike

-- a region with as many words, and as many undo pages
pub record AlikeRegion (r : RegionNode) (n : Option Node) : Type 0 where
  pub other : RegionNode
  pub is : n ≡ Some (Region other)
  pub undo : other.undo ≡ r.undo
  pub words : length other.words ≡ length r.words

-- the same node, but for the words and blocks of a region
abbrev pub Alike : Option Node → Option Node → Type 0
Alike None n = n ≡ None
Alike (Some Dir) n = n ≡ Some Dir
Alike (Some (File bytes)) n = n ≡ Some (File bytes)
Alike (Some (Region r)) n = AlikeRegion r n

alike_self : (n : Option Node) → Alike n n
alike_self None = refl
alike_self (Some Dir) = refl
alike_self (Some (File bytes)) = refl
alike_self (Some (Region r)) = record { other = r; is = refl; undo = refl; words = refl }

alike_open : (t : Txn) (r : RegionNode) (n : Option Node) → n ≡ Some (Region r) → length t.before ≡ length r.words → Alike n (undone_node (Some t) n)
alike_open t r n e words = subst (λ x. Alike x (undone_node (Some t) x)) (sym e) (record { other = undone r t; is = refl; undo = refl; words = words })

alike_undone : (o : Option Txn) (n : Option Node) → ((t : Txn) → o ≡ Some t → (r : RegionNode) × (n ≡ Some (Region r)) × (length t.before ≡ length r.words)) → Alike n (undone_node o n)
alike_undone None n h = alike_self n
alike_undone (Some t) n h = let at = h t refl in alike_open t at.0 n at.1 at.2

-- a stop changes regions alone, and of those words and blocks alone
pub crash_alike : (s : State) → OpenRegions s → (i : ℕ) → Alike (get s.nodes i) (get (crashed s).nodes i)
crash_alike s h i = subst (Alike (get s.nodes i)) (sym (get_crashed s h i)) (alike_undone (txn_at s.txns i) (get s.nodes i) (h.each i))

-- ---- what alike nodes have in common

dir_alike : (n m : Option Node) → Alike n m → is_dir m ≡ is_dir n
dir_alike None m h = ap is_dir h
dir_alike (Some Dir) m h = ap is_dir h
dir_alike (Some (File bytes)) m h = ap is_dir h
dir_alike (Some (Region r)) m h = ap is_dir h.is

none_alike : (n m : Option Node) → Alike n m → is_none m ≡ is_none n
none_alike None m h = ap is_none h
none_alike (Some Dir) m h = ap is_none h
none_alike (Some (File bytes)) m h = ap is_none h
none_alike (Some (Region r)) m h = ap is_none h.is

open_alike : (busy : List ℕ) (i : ℕ) (n m : Option Node) → Alike n m → is_open busy i m ≡ is_open busy i n
open_alike busy i None m h = ap (is_open busy i) h
open_alike busy i (Some Dir) m h = ap (is_open busy i) h
open_alike busy i (Some (File bytes)) m h = ap (is_open busy i) h
open_alike busy i (Some (Region r)) m h = ap (is_open busy i) h.is

blocks_alike : (s : State) (i : ℕ) (n m : Option Node) → Alike n m → node_blocks (crashed s) i m ≡ node_blocks s i n
blocks_alike s i None m h = ap (node_blocks (crashed s) i) h
blocks_alike s i (Some Dir) m h = ap (node_blocks (crashed s) i) h
blocks_alike s i (Some (File bytes)) m h = ap (node_blocks (crashed s) i) h
blocks_alike s i (Some (Region r)) m h =
    ap (node_blocks (crashed s) i) h.is
    ∙ ap (λ u. blocks_for (8 * region_words u (length h.other.words / 512))) h.undo
    ∙ ap (λ l. blocks_for (8 * region_words r.undo (l / 512))) h.words

file_alike : (n m : Option Node) (bytes : List ℕ) → Alike n m → m ≡ Some (File bytes) → n ≡ Some (File bytes)
file_alike None m bytes h e = absurd (cc (h, e))
file_alike (Some Dir) m bytes h e = absurd (cc (h, e))
file_alike (Some (File old)) m bytes h e = sym h ∙ e
file_alike (Some (Region r)) m bytes h e = let is = h.is in absurd (cc (is, e))

-- ---- what a stop leaves as it is

pub is_dir_crashed : (s : State) → OpenRegions s → (i : ℕ) → is_dir (get (crashed s).nodes i) ≡ is_dir (get s.nodes i)
is_dir_crashed s h i = dir_alike _ _ (crash_alike s h i)

pub is_open_crashed : (s : State) → OpenRegions s → (busy : List ℕ) (i : ℕ) → is_open busy i (get (crashed s).nodes i) ≡ is_open busy i (get s.nodes i)
is_open_crashed s h busy i = open_alike busy i _ _ (crash_alike s h i)

-- a file has the bytes that it had
pub file_crashed : (s : State) → OpenRegions s → (i : ℕ) (bytes : List ℕ) → get (crashed s).nodes i ≡ Some (File bytes) → get s.nodes i ≡ Some (File bytes)
file_crashed s h i bytes e = file_alike _ _ bytes (crash_alike s h i) e

pub names_in_crashed : (s : State) (dir : ℕ) → names_in (crashed s) dir ≡ names_in s dir
names_in_crashed s dir = refl

step_crashed : (s : State) (n : List ℕ) (ns : List (List ℕ)) (x : ℕ) (o : Option ℕ) → is_dir (get (crashed s).nodes x) ≡ is_dir (get s.nodes x) → get s.names (x, n) ≡ o → ((y : ℕ) → walk (crashed s) y ns ≡ walk s y ns) → walk (crashed s) x (n ∷ ns) ≡ walk s x (n ∷ ns)
step_crashed s n ns x o dir e rec =
    ap (λ b. cond b (from_found (get s.names (x, n)) (λ z. walk (crashed s) z ns)) (Err 4)) dir
    ∙ ap (λ q. cond (is_dir (get s.nodes x)) q (Err 4)) (ap (λ q. from_found q (λ z. walk (crashed s) z ns)) e ∙ by_case o ∙ ap (λ q. from_found q (λ z. walk s z ns)) (sym e))
  where
    by_case : (p : Option ℕ) → from_found p (λ z. walk (crashed s) z ns) ≡ from_found p (λ z. walk s z ns)
    by_case None = refl
    by_case (Some y) = rec y

pub walk_crashed : (s : State) → OpenRegions s → (ns : List (List ℕ)) (x : ℕ) → walk (crashed s) x ns ≡ walk s x ns
walk_crashed s h [] x = refl
walk_crashed s h (n ∷ ns) x = step_crashed s n ns x (get s.names (x, n)) (is_dir_crashed s h x) refl (walk_crashed s h ns)

as_dir_crashed : (s : State) → OpenRegions s → (w : Result ℕ ℕ) → as_dir (crashed s) w ≡ as_dir s w
as_dir_crashed s h (Ok i) = ap (λ b. cond b (Ok i) (Err 4)) (is_dir_crashed s h i)
as_dir_crashed s h (Err number) = refl

pub walk_to_dir_crashed : (s : State) → OpenRegions s → (ns : List (List ℕ)) → walk_to_dir (crashed s) ns ≡ walk_to_dir s ns
walk_to_dir_crashed s h ns = ap (as_dir (crashed s)) (walk_crashed s h ns 1) ∙ as_dir_crashed s h (walk s 1 ns)

pub least_free_crashed : (s : State) → OpenRegions s → least_free (crashed s) ≡ least_free s
least_free_crashed s h = ap (λ (p : ℕ → Bool). find p (range_with_len 1 s.shape.inodes)) (λ x i. none_alike _ _ (crash_alike s h i) x)

pub free_count_crashed : (s : State) → OpenRegions s → free_count (crashed s) ≡ free_count s
free_count_crashed s h = ap (λ (f : ℕ → ℕ). s.shape.blocks - reserved s.shape - sum (map f (range_with_len 1 s.shape.inodes))) (λ x i. blocks_alike s i _ _ (crash_alike s h i) x)

-- ---- nodes on which no transaction is open

closed_by : (o : Option Txn) → ((t : Txn) → o ≡ Some t → ⊥) → o ≡ None
closed_by None h = refl
closed_by (Some t) h = absurd (h t refl)

pub not_open : (s : State) → OpenRegions s → (i : ℕ) → ((r : RegionNode) → get s.nodes i ≢ Some (Region r)) → NotOpen s.txns i
not_open s h i none = closed_by (txn_at s.txns i) (λ t e. let at = h.each i t e in none at.0 at.1)

none_region : (n : Option Node) (r : RegionNode) → n ≡ None → n ≢ Some (Region r)
none_region n r e z = cc (e, z)

file_region : (n : Option Node) (bytes : List ℕ) (r : RegionNode) → n ≡ Some (File bytes) → n ≢ Some (Region r)
file_region n bytes r e z = cc (e, z)

dir_region : (n : Option Node) (r : RegionNode) → is_dir n ≡ true → n ≢ Some (Region r)
dir_region n r e z = true_false (sym e ∙ ap is_dir z)

pub none_not_open : (s : State) → OpenRegions s → (i : ℕ) → get s.nodes i ≡ None → NotOpen s.txns i
none_not_open s h i e = not_open s h i (λ r. none_region _ r e)

pub file_not_open : (s : State) → OpenRegions s → (i : ℕ) (bytes : List ℕ) → get s.nodes i ≡ Some (File bytes) → NotOpen s.txns i
file_not_open s h i bytes e = not_open s h i (λ r. file_region _ bytes r e)

pub dir_not_open : (s : State) → OpenRegions s → (i : ℕ) → is_dir (get s.nodes i) ≡ true → NotOpen s.txns i
dir_not_open s h i e = not_open s h i (λ r. dir_region _ r e)

among_first : (b c : Bool) (t : Txn) (o : Option Txn) → (b || c) ≡ false → (c ≡ false → o ≡ None) → cond b (Some t) o ≡ None
among_first true c t o e rest = absurd (true_false e)
among_first false c t o e rest = rest e

among_not_open : (ts : List Txn) (i : ℕ) → is_among (map (λ (t : Txn). t.ino.0) ts) i ≡ false → NotOpen ts i
among_not_open [] i e = refl
among_not_open (t ∷ ts) i e = among_first (t.ino.0 == i) (is_among (map (λ (u : Txn). u.ino.0) ts) i) t (txn_at ts i) e (among_not_open ts i)

-- a node that is none of the open regions
pub idle_not_open : (s : State) → OpenRegions s → (i : ℕ) → is_open (open_inodes s) i (get s.nodes i) ≡ false → NotOpen s.txns i
idle_not_open s h i idle = by_node (get s.nodes i) refl idle
  where
    by_node : (n : Option Node) → get s.nodes i ≡ n → is_open (open_inodes s) i n ≡ false → NotOpen s.txns i
    by_node None e f = none_not_open s h i e
    by_node (Some Dir) e f = dir_not_open s h i (ap is_dir e)
    by_node (Some (File bytes)) e f = file_not_open s h i bytes e
    by_node (Some (Region r)) e f = among_not_open s.txns i f

-- ---- changes of such nodes

gone_here : (m : Nodes) (i : ℕ) → get (remove m i) i ≡ None
gone_here m i = let same : eq_by_cmp nat_cmp i i ≡ true = nat_tied i i ∙ itself i in get-remove nat_cmp_total m i i ∙ ap (λ b. cond b None (get m i)) same

gone_there : (m : Nodes) (i j : ℕ) → j ≢ i → get (remove m i) j ≡ get m j
gone_there m i j away = let other : eq_by_cmp nat_cmp j i ≡ false = nat_tied j i ∙ differs j i away in get-remove nat_cmp_total m i j ∙ ap (λ b. cond b None (get m j)) other

-- at the inode that a change of nodes sets, and at any other
undo_here : (ts : List Txn) (after next : Nodes) (i : ℕ) (n : Option Node) → OneEach ts → NotOpen ts i → get after i ≡ n → get next i ≡ n → get (undo_all ts after) i ≡ get next i
undo_here ts after next i n h none a b = get_undone ts after i h ∙ ap (λ o. undone_node o (get after i)) none ∙ a ∙ sym b

undo_there : (ts : List Txn) (m after next : Nodes) (j : ℕ) → OneEach ts → get after j ≡ get m j → get next j ≡ get (undo_all ts m) j → get (undo_all ts after) j ≡ get next j
undo_there ts m after next j h a b = get_undone ts after j h ∙ ap (undone_node (txn_at ts j)) a ∙ sym (get_undone ts m j h) ∙ sym b

undo_insert : (ts : List Txn) (m : Nodes) (i : ℕ) (n : Node) → OneEach ts → NotOpen ts i → undo_all ts (insert m i n) ≡ insert (undo_all ts m) i n
undo_insert ts m i n h none = same_nodes _ _ each
  where
    each : (j : ℕ) → get (undo_all ts (insert m i n)) j ≡ get (insert (undo_all ts m) i n) j
    each j = elim (cases_eq j i) [
      | inl here ↦ subst (λ x. get (undo_all ts (insert m i n)) x ≡ get (insert (undo_all ts m) i n) x) (sym here) (undo_here ts (insert m i n) (insert (undo_all ts m) i n) i (Some n) h none (get_here m i n) (get_here (undo_all ts m) i n))
      | inr away ↦ undo_there ts m (insert m i n) (insert (undo_all ts m) i n) j h (get_there m i n j away) (get_there (undo_all ts m) i n j away)
    ]

undo_remove : (ts : List Txn) (m : Nodes) (i : ℕ) → OneEach ts → NotOpen ts i → undo_all ts (remove m i) ≡ remove (undo_all ts m) i
undo_remove ts m i h none = same_nodes _ _ each
  where
    each : (j : ℕ) → get (undo_all ts (remove m i)) j ≡ get (remove (undo_all ts m) i) j
    each j = elim (cases_eq j i) [
      | inl here ↦ subst (λ x. get (undo_all ts (remove m i)) x ≡ get (remove (undo_all ts m) i) x) (sym here) (undo_here ts (remove m i) (remove (undo_all ts m) i) i None h none (gone_here m i) (gone_here (undo_all ts m) i))
      | inr away ↦ undo_there ts m (remove m i) (remove (undo_all ts m) i) j h (gone_there m i j away) (gone_there (undo_all ts m) i j away)
    ]

pub with_node_crashed : (s : State) → OpenRegions s → (i : ℕ) (n : Node) → NotOpen s.txns i → crashed (with_node s i n) ≡ with_node (crashed s) i n
with_node_crashed s h i n none = ap (λ (m : Nodes). record (crashed s) { nodes = m }) (undo_insert s.txns s.nodes i n h.once none)

pub with_new_crashed : (s : State) → OpenRegions s → (dir : ℕ) (name : List ℕ) (i : ℕ) (n : Node) → NotOpen s.txns i → crashed (with_new s dir name i n) ≡ with_new (crashed s) dir name i n
with_new_crashed s h dir name i n none = ap (λ (m : Nodes). record (crashed s) { names = insert s.names (dir, name) i; nodes = m }) (undo_insert s.txns s.nodes i n h.once none)

pub without_crashed : (s : State) → OpenRegions s → (dir : ℕ) (name : List ℕ) (i : ℕ) → NotOpen s.txns i → crashed (without s dir name i) ≡ without (crashed s) dir name i
without_crashed s h dir name i none = ap (λ (m : Nodes). record (crashed s) { names = remove s.names (dir, name); nodes = m }) (undo_remove s.txns s.nodes i h.once none)

pub replaced_crashed : (s : State) → OpenRegions s → (dir : ℕ) (name : List ℕ) (to_dir : ℕ) (to_name : List ℕ) (i j : ℕ) → NotOpen s.txns j → crashed (replaced s dir name to_dir to_name i j) ≡ replaced (crashed s) dir name to_dir to_name i j
replaced_crashed s h dir name to_dir to_name i j none = ap (λ (m : Nodes). record (crashed s) { names = insert (remove s.names (dir, name)) (to_dir, to_name) i; nodes = m }) (undo_remove s.txns s.nodes j h.once none)

-- ---- open transactions that a change leaves open

-- t has the open transactions of s, each on the region as it was
pub record LeavesOpen (s t : State) : Type 0 where
  pub txns : t.txns ≡ s.txns
  pub nodes : (i : ℕ) (u : Txn) → txn_at s.txns i ≡ Some u → get t.nodes i ≡ get s.nodes i

pub leaves_itself : (s : State) → LeavesOpen s s
leaves_itself s = record { txns = refl; nodes = λ i u e. refl }

apart : (ts : List Txn) (i j : ℕ) (u : Txn) → NotOpen ts i → txn_at ts j ≡ Some u → j ≢ i
apart ts i j u none e z = let same = ap (txn_at ts) z in cc (same, e, none)

pub leaves_node : (s : State) (i : ℕ) (n : Node) → NotOpen s.txns i → LeavesOpen s (with_node s i n)
leaves_node s i n none = record { txns = refl; nodes = λ j u e. get_there s.nodes i n j (apart s.txns i j u none e) }

pub leaves_new : (s : State) (dir : ℕ) (name : List ℕ) (i : ℕ) (n : Node) → NotOpen s.txns i → LeavesOpen s (with_new s dir name i n)
leaves_new s dir name i n none = record { txns = refl; nodes = λ j u e. get_there s.nodes i n j (apart s.txns i j u none e) }

pub leaves_without : (s : State) (dir : ℕ) (name : List ℕ) (i : ℕ) → NotOpen s.txns i → LeavesOpen s (without s dir name i)
leaves_without s dir name i none = record { txns = refl; nodes = λ j u e. gone_there s.nodes i j (apart s.txns i j u none e) }

pub leaves_replaced : (s : State) (dir : ℕ) (name : List ℕ) (to_dir : ℕ) (to_name : List ℕ) (i j : ℕ) → NotOpen s.txns j → LeavesOpen s (replaced s dir name to_dir to_name i j)
leaves_replaced s dir name to_dir to_name i j none = record { txns = refl; nodes = λ k u e. gone_there s.nodes j k (apart s.txns j k u none e) }

-- so they stay transactions of regions with as many words
pub still_regions : (s t : State) → OpenRegions s → LeavesOpen s t → OpenRegions t
still_regions s t h l = record {
  once = subst OneEach (sym l.txns) h.once;
  each = λ i u e.
      let was : txn_at s.txns i ≡ Some u = ap (λ ts. txn_at ts i) (sym l.txns) ∙ e in
      let at = h.each i u was in
      (at.0, l.nodes i u was ∙ at.1, at.2);
}
