-- The region at a path, looked up in what a stop leaves: it is found, or refused, as in the state itself.
use Rattle.rio_core.proofs.Common.{◌≡◌, ◌≢◌, ℕ, ◌⊎◌, inl, inr, Bool, true, false, Option, Some, None, Ok, Err, List, [], ◌∷◌, map, refl, sym, ap, subst, ◌∙◌, arith, get, Ino, VolumeShape, BlockWords, Node, Region, RegionNode, State, Txn, Held, held_of, names_of, volume_layout, ReadsAs, region_in, Answered, Request, Begin, Range, Put, Get, Alloc, Free, Commit, Abort, answer_of, OneEach, crashed, get_undone, undone_node, FaultStep, abort_on, alloc_on, begin_on, commit_on, free_on, get_on, put_on, range_on, changed, txn_at, Marks}
use Rattle.std.proofs.Common.{zero, suc, ◌<◌, ◌≤◌, ◌==◌, cond}
use Rattle.std.specs.Prelude.{◌&&◌, nat_le}
use Rattle.std.proofs.lemmas.Bool.Decides.{nat_tests}
use Rattle.rio_model.specs.declared.node.Node.TheVariants.{Dir, File}
use Rattle.rio_model.specs.Held.{entry_ino, held, held_bytes, held_in, held_ino, nothing}
use Rattle.rio_model.specs.Paths.{from_found, is_dir, walk}
use Rattle.rio_model.specs.Placed.{Layout}
use Rattle.rio_model.proofs.PlacedRules.{root_ino}
use Rattle.rio_model.specs.States.{open_inodes}
use Rattle.rio_model.specs.VolumeReads.{node_in}
use Rattle.rio_model.proofs.VolumeReadRules.{reads_dir, reads_file, reads_none}
use Rattle.rio_model.specs.VolumeRules.{KindRule}
use Rattle.rio_model.specs.declared.refusal.Refusal.TheVariants.{NotARegion}
use Rattle.rio_requests.specs.declared.reply.Reply.TheVariants.{Err as RefusedBy, Fault as Faulted}
use Rattle.rio_requests.specs.Answer.{at_inode, refused, refused_by}
use Rattle.rio_requests.specs.Transactions.{at_region, looked, on_region}
use Rattle.rio_core.proofs.CallEnds.{CallEnds}
use Rattle.rio_core.specs.Lines.{Within}
use Rattle.rio_core.specs.CallEnds.{IsAt, ReadsHeld}
use Rattle.rio_core.specs.Regions.{marks_of}

-- ---- a region, before and after a stop

region_back : (o : Option Txn) (n : Option Node) (q : RegionNode) → undone_node o n ≡ Some (Region q) → (r : RegionNode) × (n ≡ Some (Region r))
region_back None n q e = (q, e)
region_back (Some t) None q e = absurd (cc e)
region_back (Some t) (Some Dir) q e = absurd (cc e)
region_back (Some t) (Some (File bytes)) q e = absurd (cc e)
region_back (Some t) (Some (Region r)) q e = (r, refl)

-- what is a region after a stop was one
pub region_was : (s : State) (i : ℕ) (q : RegionNode) → OneEach s.txns → get (crashed s).nodes i ≡ Some (Region q) → (r : RegionNode) × (get s.nodes i ≡ Some (Region r))
region_was s i q once e = region_back (txn_at s.txns i) (get s.nodes i) q (sym (get_undone s.txns s.nodes i once) ∙ e)

pub region_on : (o : Option Txn) (n : Option Node) (r : RegionNode) → n ≡ Some (Region r) → (q : RegionNode) × (undone_node o n ≡ Some (Region q))
region_on None n r e = (r, e)
region_on (Some t) None r e = absurd (cc e)
region_on (Some t) (Some Dir) r e = absurd (cc e)
region_on (Some t) (Some (File bytes)) r e = absurd (cc e)
region_on (Some t) (Some (Region x)) r e = (_, refl)

none_on : (o : Option Txn) (n : Option Node) → n ≡ None → undone_node o n ≡ None
none_on None n e = e
none_on (Some t) n e = ap (undone_node (Some t)) e

-- ---- a region by what is held

number_from : (i n : ℕ) → (nat_le 1 i && nat_le i n) ≡ true → 1 ≤ i
number_from i n t = grind (arith, nat_tests)

number_to : (i n : ℕ) → (nat_le 1 i && nat_le i n) ≡ true → i ≤ n
number_to i n t = grind (arith, nat_tests)

kind_few : (l : Layout) (f : BlockWords) (i : ℕ) → KindRule l → (held_in l f i).kind ≤ 3
kind_few l f i rule = by (nat_le 1 i && nat_le i l.shape.inodes) refl
  where
    by : (b : Bool) → (nat_le 1 i && nat_le i l.shape.inodes) ≡ b → (cond b (held f (l.node i)) nothing).kind ≤ 3
    by true t = (rule.each i (record { from = number_from i l.shape.inodes t; to = number_to i l.shape.inodes t })).0
    by false t = omega arith

-- it is of the kind of regions
pub region_kind : (shape : VolumeShape) (f : BlockWords) (s : State) (i : ℕ) (r : RegionNode) → ReadsAs shape f s → get s.nodes i ≡ Some (Region r) → (held_of shape f i).kind ≡ 3
region_kind shape f s i r h is = by (held_of shape f i).kind refl (kind_few (volume_layout shape f) f i h.mapped.laid.kinds)
  where
    by : (k : ℕ) → (held_of shape f i).kind ≡ k → k ≤ 3 → k ≡ 3
    by zero e few = absurd (let none = reads_none (held_of shape f i) e in let node = h.reads.nodes i in cc (none, node, is))
    by (suc zero) e few = absurd (let dir = reads_dir (held_of shape f i) e in let node = h.reads.nodes i in cc (dir, node, is))
    by (suc (suc zero)) e few = absurd (let file = reads_file (held_of shape f i) e in let node = h.reads.nodes i in cc (file, node, is))
    by (suc (suc (suc zero))) e few = refl
    by (suc (suc (suc (suc k)))) e few = absurd (omega (arith, few))

-- ---- what a name names is there

some_held : (h : Held) (b : Bool) → (h.kind == 0) ≡ b → 0 < h.kind → node_in h ≡ None → ⊥
some_held h true e used none = absurd (zero_not h.kind e used)
  where
    zero_not : (k : ℕ) → (k == 0) ≡ true → 0 < k → ⊥
    zero_not k t u = grind (arith, nat_tests)
some_held h false e used none = by (h.kind == 1) (h.kind == 2) (sym (ap (λ b. cond b None (cond (h.kind == 1) (Some Dir) (cond (h.kind == 2) (Some (File (held_bytes h))) (Some (Region (region_in h.word)))))) e) ∙ none)
  where
    by : (a b : Bool) → cond a (Some Dir) (cond b (Some (File (held_bytes h))) (Some (Region (region_in h.word)))) ≡ None → ⊥
    by true b e = cc e
    by false true e = cc e
    by false false e = cc e

named_some : (shape : VolumeShape) (f : BlockWords) (s : State) (d : ℕ) (name : List ℕ) (j : ℕ) → ReadsAs shape f s → get s.names (d, name) ≡ Some j → get s.nodes j ≢ None
named_some shape f s d name j h e none =
    let at = h.reads.names d name j e in
    let entry = subst (λ x. get s.names (d, x) ≡ Some (entry_ino (held_of shape f d) at.0)) at.2 (h.reads.entries d at.0 at.1) in
    let same : entry_ino (held_of shape f d) at.0 ≡ j = cc (entry, e) in
    some_held (held_of shape f j) _ refl (subst (λ x. 0 < (held_of shape f x).kind) same (h.entries.each d at.0 at.1).1) (sym (h.reads.nodes j) ∙ none)

root_some : (shape : VolumeShape) (f : BlockWords) (s : State) → ReadsAs shape f s → get s.nodes 1 ≢ None
root_some shape f s h none =
    let kind : (held_of shape f 1).kind ≡ 1 = ap (λ (x : Held). x.kind) (held_ino (volume_layout shape f) f 1 (root_ino shape h.mapped.laid.shape_fits)) ∙ (h.mapped.laid.kinds.each 1 (root_ino shape h.mapped.laid.shape_fits)).1 refl in
    cc (none, h.reads.nodes 1, reads_dir (held_of shape f 1) kind)

walk_step : (shape : VolumeShape) (f : BlockWords) (s : State) (x : ℕ) (n : List ℕ) (ns : List (List ℕ)) (i : ℕ) (b : Bool) (o : Option ℕ) → ReadsAs shape f s → get s.names (x, n) ≡ o → cond b (from_found o (λ j. walk s j ns)) (Err 4) ≡ Ok i → ((j : ℕ) → walk s j ns ≡ Ok i → get s.nodes j ≢ None → get s.nodes i ≢ None) → get s.nodes i ≢ None
walk_step shape f s x n ns i true None h is e next = absurd (cc e)
walk_step shape f s x n ns i true (Some j) h is e next = next j e (named_some shape f s x n j h is)
walk_step shape f s x n ns i false o h is e next = absurd (cc e)

walk_some : (shape : VolumeShape) (f : BlockWords) (s : State) (names : List (List ℕ)) (x i : ℕ) → ReadsAs shape f s → walk s x names ≡ Ok i → get s.nodes x ≢ None → get s.nodes i ≢ None
walk_some shape f s [] x i h e some = (let same : x ≡ i = cc e in subst (λ y. get s.nodes y ≢ None) same some)
walk_some shape f s (n ∷ ns) x i h e some = walk_step shape f s x n ns i (is_dir (get s.nodes x)) (get s.names (x, n)) h refl e (λ j w q. walk_some shape f s ns j i h w q)

-- ---- the path leads to a region

-- to the same in the state as in what a stop leaves of it
pub region_leads : (shape : VolumeShape) (f : BlockWords) (marks : Marks) (s : State) (path : List ℕ) (i : ℕ) (q : RegionNode) → ReadsHeld shape f marks s → walk (crashed s) 1 (names_of path) ≡ walk s 1 (names_of path) → walk (crashed s) 1 (names_of path) ≡ Ok i → get (crashed s).nodes i ≡ Some (Region q) → (r : RegionNode) × (walk s 1 (names_of path) ≡ Ok i) × (get s.nodes i ≡ Some (Region r))
region_leads shape f marks s path i q held same leads is = let was = region_was s i q held.regions.open_regions.once is in (was.0, sym same ∙ leads, was.1)

-- ---- it does not

on_other : (s : State) (n : Option Node) (go : RegionNode → Answered) → n ≢ None → ((r : RegionNode) → n ≡ Some (Region r) → ⊥) → on_region s n go ≡ refused s NotARegion
on_other s None go some other = absurd (some refl)
on_other s (Some Dir) go some other = refl
on_other s (Some (File bytes)) go some other = refl
on_other s (Some (Region r)) go some other = absurd (other r refl)

-- the walk is refused, or ends at another node
pub region_missed : (shape : VolumeShape) (f : BlockWords) (marks : Marks) (s : State) (path : List ℕ) (c : ℕ) → ReadsHeld shape f marks s → walk (crashed s) 1 (names_of path) ≡ walk s 1 (names_of path)
    → (walk (crashed s) 1 (names_of path) ≡ Err c) ⊎ ((i : ℕ) × (walk (crashed s) 1 (names_of path) ≡ Ok i) × ((r : RegionNode) → get (crashed s).nodes i ≡ Some (Region r) → ⊥) × (c ≡ 8))
    → (go : ℕ → RegionNode → Option Txn → Answered) → at_region s path go ≡ refused_by s c
region_missed shape f marks s path c held same (inl e) go = ap (λ w. at_inode s w (λ j. on_region s (get s.nodes j) (λ q. go j q (txn_at s.txns j)))) (sym same ∙ e)
region_missed shape f marks s path c held same (inr x) go =
    ap (λ w. at_inode s w (λ j. on_region s (get s.nodes j) (λ q. go j q (txn_at s.txns j)))) (sym same ∙ x.1)
    ∙ on_other s (get s.nodes x.0) (λ q. go x.0 q (txn_at s.txns x.0)) some other
    ∙ ap (refused_by s) (sym x.3)
  where
    once : OneEach s.txns
    once = held.regions.open_regions.once

    some : get s.nodes x.0 ≢ None
    some none = walk_some shape f (crashed s) (names_of path) 1 x.0 held.reads x.1 (root_some shape f (crashed s) held.reads) (get_undone s.txns s.nodes x.0 once ∙ none_on (txn_at s.txns x.0) (get s.nodes x.0) none)

    other : (r : RegionNode) → get s.nodes x.0 ≡ Some (Region r) → ⊥
    other r is = let on = region_on (txn_at s.txns x.0) (get s.nodes x.0) r is in x.2 on.0 (get_undone s.txns s.nodes x.0 once ∙ on.1)

-- ---- how a request ends whose region was not looked up

at_path : (s : State) (path p : List ℕ) (c : ℕ) (go : ℕ → RegionNode → Option Txn → Answered) → p ≡ path → ((go : ℕ → RegionNode → Option Txn → Answered) → at_region s path go ≡ refused_by s c) → at_region s p go ≡ refused_by s c
at_path s path p c go at h = ap (λ x. at_region s x go) at ∙ h go

served_refused : (s : State) (path : List ℕ) (c : ℕ) (request : Request) → IsAt path request → ((go : ℕ → RegionNode → Option Txn → Answered) → at_region s path go ≡ refused_by s c) → answer_of s request ≡ refused_by s c
served_refused s path c (Begin p) at h = at_path s path p c (λ i r o. changed s i (begin_on i r o)) at h
served_refused s path c (Range p off len) at h = at_path s path p c (λ i r o. changed s i (range_on r o off len)) at h
served_refused s path c (Put p off bytes) at h = at_path s path p c (λ i r o. changed s i (put_on r o off bytes)) at h
served_refused s path c (Get p off len) at h = at_path s path p c (λ i r o. looked s (get_on r o off len)) at h
served_refused s path c (Alloc p units) at h = at_path s path p c (λ i r o. changed s i (alloc_on r o units)) at h
served_refused s path c (Free p unit) at h = at_path s path p c (λ i r o. changed s i (free_on r o unit)) at h
served_refused s path c (Commit p) at h = at_path s path p c (λ i r o. changed s i (commit_on r o)) at h
served_refused s path c (Abort p) at h = at_path s path p c (λ i r o. changed s i (abort_on r o)) at h
served_refused s path c _ at h = absurd at

none_step : (s : State) (path : List ℕ) (request : Request) → IsAt path request → FaultStep s request 0 s
none_step s path (Begin p) at = (refl, refl)
none_step s path (Range p off len) at = (refl, refl)
none_step s path (Put p off bytes) at = inl (refl, refl)
none_step s path (Get p off len) at = (refl, refl)
none_step s path (Alloc p units) at = inl (refl, refl)
none_step s path (Free p unit) at = inl (refl, refl)
none_step s path (Commit p) at = (refl, refl)
none_step s path (Abort p) at = inl (refl, refl)
none_step s path _ at = absurd at

-- refused
pub look_refused : (shape : VolumeShape) (f : BlockWords) (marks : Marks) (s : State) (path : List ℕ) (request : Request) (c : ℕ) → IsAt path request → ReadsHeld shape f marks s → walk (crashed s) 1 (names_of path) ≡ walk s 1 (names_of path)
    → (walk (crashed s) 1 (names_of path) ≡ Err c) ⊎ ((i : ℕ) × (walk (crashed s) 1 (names_of path) ≡ Ok i) × ((r : RegionNode) → get (crashed s).nodes i ≡ Some (Region r) → ⊥) × (c ≡ 8))
    → CallEnds shape f marks s request (Some (RefusedBy c))
look_refused shape f marks s path request c at held same missed = (s, inl (served_refused s path c request at (region_missed shape f marks s path c held same missed)), held)

-- a fault
pub look_failed : (shape : VolumeShape) (f : BlockWords) (marks : Marks) (s : State) (path : List ℕ) (request : Request) → IsAt path request → ReadsHeld shape f marks s → CallEnds shape f marks s request (Some (Faulted 0))
look_failed shape f marks s path request at held = (s, inr (inr (0, refl, none_step s path request at)), held)

-- a stop
pub look_stopped : (shape : VolumeShape) (f : BlockWords) (marks : Marks) (s : State) (request : Request) → ReadsHeld shape f marks s → CallEnds shape f marks s request None
look_stopped shape f marks s request held = (s, inl refl, held.reads)

-- ---- the list of transactions

-- the inodes of the rows are those of the open transactions
pub rows_open : (marks : Marks) (s : State) → marks ≡ marks_of s.txns → map (λ m. m.0) marks ≡ open_inodes s
rows_open marks s is = ap (λ (ms : Marks). map (λ m. m.0) ms) is ∙ by s.txns
  where
    by : (txns : List Txn) → map (λ m. m.0) (marks_of txns) ≡ map (λ (t : Txn). t.ino.0) txns
    by [] = refl
    by (t ∷ txns) = ap (λ (is : List ℕ). t.ino.0 ∷ is) (by txns)

same_inos : (list : List Ino) (txns : List Txn) → map (λ (i : Ino). i.0) list ≡ map (λ m. m.0) (marks_of txns) → list ≡ map (λ (t : Txn). t.ino) txns
same_inos [] [] e = refl
same_inos [] (t ∷ txns) e = absurd (cc e)
same_inos (i ∷ list) [] e = absurd (cc e)
same_inos (i ∷ list) (t ∷ txns) e =
    let first : i.0 ≡ t.ino.0 = cc e in
    let rest : map (λ (j : Ino). j.0) list ≡ map (λ m. m.0) (marks_of txns) = cc e in
    let same : i ≡ t.ino = (λ k. record { 0 = first k }) in
    ap (λ (j : Ino). j ∷ list) same ∙ ap (λ (js : List Ino). t.ino ∷ js) (same_inos list txns rest)

-- a list of the rows is one of the open transactions
pub inos_open : (list : List Ino) (marks : Marks) (s : State) → marks ≡ marks_of s.txns → map (λ (i : Ino). i.0) list ≡ map (λ m. m.0) marks → list ≡ map (λ (t : Txn). t.ino) s.txns
inos_open list marks s is e = same_inos list s.txns (e ∙ ap (λ (ms : Marks). map (λ m. m.0) ms) is)

-- ---- what is left where no arm of a match is taken

pub record OpensNone (r : Request) : Type 0 where
  pub begin : (path : List ℕ) → r ≡ Begin path → ⊥
  pub range : (path : List ℕ) (off : ℕ) (len : ℕ) → r ≡ Range path off len → ⊥
  pub commit : (path : List ℕ) → r ≡ Commit path → ⊥
  pub abort : (path : List ℕ) → r ≡ Abort path → ⊥

pub left_within : (path : List ℕ) (r : Request) → OpensNone r → IsAt path r → Within r
left_within path (Begin p) none at = absurd (none.begin p refl)
left_within path (Range p off len) none at = absurd (none.range p off len refl)
left_within path (Commit p) none at = absurd (none.commit p refl)
left_within path (Abort p) none at = absurd (none.abort p refl)
left_within path (Put p off bytes) none at = tt
left_within path (Get p off len) none at = tt
left_within path (Alloc p units) none at = tt
left_within path (Free p unit) none at = tt
left_within path _ none at = at

pub record TouchesNone (r : Request) : Type 0 where
  pub put : (path : List ℕ) (off : ℕ) (bytes : List ℕ) → r ≡ Put path off bytes → ⊥
  pub get : (path : List ℕ) (off : ℕ) (len : ℕ) → r ≡ Get path off len → ⊥
  pub alloc : (path : List ℕ) (units : ℕ) → r ≡ Alloc path units → ⊥
  pub free : (path : List ℕ) (at : ℕ) → r ≡ Free path at → ⊥

pub none_within : (r : Request) → TouchesNone r → Within r → ⊥
none_within (Put p off bytes) none on = none.put p off bytes refl
none_within (Get p off len) none on = none.get p off len refl
none_within (Alloc p units) none on = none.alloc p units refl
none_within (Free p unit) none on = none.free p unit refl
none_within _ none on = on
