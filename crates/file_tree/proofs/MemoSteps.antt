-- What is held in memory stays in step with the blocks, while they change.
use Rattle.request_ends.proofs.Common.{◌≡◌, ◌≢◌, ℕ, ◌*◌, ◌<◌, ◌⊎◌, List, Option, refl, sym, ap, subst, ◌∙◌, arith, inl, inr, None, Some, none-some, get, insert, cases_eq, VolumeShape, BlockWords, IsIno, inode_kind, State, NameKey, Names, Node, HasEntry, Held, entry_ino, entry_name, held_of, reads_none, ReadsAs, true_false, get_here, get_there, with_new, with_node}
use Rattle.directories.specs.Rows.{HasRow, HoldsRows}
use Rattle.std.specs.Prelude.{is_none}
use Rattle.rio_model.specs.RegionMoves.{RestHeld}
use Rattle.rio_model.specs.VolumeReads.{Reads}
use Rattle.rio_model.proofs.NameOrder.{same_names}
use Rattle.inode_table.specs.Inodes.{KnowsFull, StayUsed}
use Rattle.inode_table.specs.declared.full_blocks.FullBlocks.{FullBlocks}
use Rattle.name_index.specs.Agreeing.{Agrees, AreNames, held_in}
use Rattle.name_index.specs.Rows.{NamesOfDir}
use Rattle.file_tree.specs.Memos.{InStep, LeadsThere, StayBut, StayThere}
use Rattle.file_tree.specs.declared.last_path.LastPath.{LastPath}
use Rattle.file_tree.specs.declared.memo.Memo.{Memo}
use Rattle.file_tree.proofs.FreeFound.{free_held, used_node}
use Rattle.file_tree.proofs.LookedAt.{row_read}
use Rattle.region_view.proofs.UsedInodes.{kind_held}
use Rattle.file_tree.proofs.WalksHeld.{leads_on}

-- ---- the same blocks

pub same_step : (shape : VolumeShape) (f g : BlockWords) (m : Memo) → g ≡ f → InStep shape f m → InStep shape g m
same_step shape f g m same h = subst (λ (w : BlockWords). InStep shape w m) (sym same) h

-- ---- states that volumes of the same directories read as have the same names

abbrev SameDirs : (ℕ → Held) → (ℕ → Held) → Type 0
SameDirs h k = (d : ℕ) → (h d).kind ≡ 1 → k d ≡ h d

on_name : (h k : ℕ → Held) (s t : State) (d : ℕ) (name : List ℕ) (i : ℕ) → SameDirs h k → Reads h s → Reads k t → get s.names (d, name) ≡ Some i → get t.names (d, name) ≡ Some i
on_name h k s t d name i same hs kt e =
    let at = hs.names d name i e in
    let j = at.0 in
    let has = at.1 in
    let is = same d has.dir in
    let entry : HasEntry k d j = record { dir = ap (λ (x : Held). x.kind) is ∙ has.dir; within = subst (λ (x : Held). 64 * j < x.size) (sym is) has.within } in
    let one = hs.entries d j has in
    let other = kt.entries d j entry in
    subst (λ n. get t.names (d, n) ≡ Some i) at.2
    (subst (λ (x : Held). get t.names (d, entry_name x j) ≡ Some (entry_ino x j)) is other ∙ sym one ∙ subst (λ n. get s.names (d, n) ≡ Some i) (sym at.2) e)

one_name : (h k : ℕ → Held) (s t : State) (d : ℕ) (name : List ℕ) (a b : Option ℕ) → SameDirs h k → SameDirs k h → Reads h s → Reads k t → get s.names (d, name) ≡ a → get t.names (d, name) ≡ b → a ≡ b
one_name h k s t d name None None there back hs kt x y = refl
one_name h k s t d name None (Some j) there back hs kt x y = sym x ∙ on_name k h t s d name j back kt hs y
one_name h k s t d name (Some i) b there back hs kt x y = sym (on_name h k s t d name i there hs kt x) ∙ y

names_agree : (shape : VolumeShape) (f g : BlockWords) (s t : State) → SameDirs (held_of shape f) (held_of shape g) → SameDirs (held_of shape g) (held_of shape f) → ReadsAs shape f s → ReadsAs shape g t → s.names ≡ t.names
names_agree shape f g s t there back h k = same_names _ _ (λ (q : NameKey). one_name (held_of shape f) (held_of shape g) s t q.0 q.1 _ _ there back h.reads k.reads refl refl)

pub one_names : (shape : VolumeShape) (g : BlockWords) (s t : State) → ReadsAs shape g s → ReadsAs shape g t → s.names ≡ t.names
one_names shape g s t h k = names_agree shape g g s t (λ d dir. refl) (λ d dir. refl) h k

-- ---- nodes that stay are used inodes that stay

still_used : (shape : VolumeShape) (f g : BlockWords) (s t : State) (j : ℕ) → ReadsAs shape f s → ReadsAs shape g t → IsIno shape j → (get t.nodes j ≡ None → get s.nodes j ≡ None) → 0 < inode_kind f j → 0 < inode_kind g j
still_used shape f g s t j was is ino stay used = by (cases_eq (inode_kind g j) 0)
  where
    by : (inode_kind g j ≡ 0) ⊎ (inode_kind g j ≢ 0) → 0 < inode_kind g j
    by (inl free) = absurd (true_false (sym (ap is_none (stay (is.reads.nodes j ∙ reads_none (held_of shape g j) (free_held shape g j ino free)))) ∙ used_node shape f s j was ino used))
    by (inr some) = omega (arith, some)

pub full_stays : (shape : VolumeShape) (f g : BlockWords) (s t : State) (full : FullBlocks) → ReadsAs shape f s → ReadsAs shape g t → StayThere s t → KnowsFull shape full f → KnowsFull shape full g
full_stays shape f g s t full was is stay knows = record { each = λ i ino mark. still_used shape f g s t i was is ino (stay i) (knows.each i ino mark) }

pub used_but : (shape : VolumeShape) (f g : BlockWords) (s t : State) (i : ℕ) → ReadsAs shape f s → ReadsAs shape g t → StayBut i s t → StayUsed shape i f g
used_but shape f g s t i was is stay = λ j ino away used. still_used shape f g s t j was is ino (stay j away) used

-- ---- from blocks f that read as s to blocks g that read as t

pub step_to : (shape : VolumeShape) (f g : BlockWords) (s t : State) (m n : Memo) → InStep shape f m → ReadsAs shape f s → ReadsAs shape g t → (Agrees m.names s.names → Agrees n.names t.names) → (KnowsFull shape m.full f → KnowsFull shape n.full g) → (LeadsThere m.path s → LeadsThere n.path t) → InStep shape g n
step_to shape f g s t m n h was is names full path = record {
  names = λ u reads. subst (λ (ns : Names). Agrees n.names ns) (one_names shape g t u is reads) (names (h.names s was));
  full = full h.full;
  path = λ u reads. leads_on shape g t u n.path reads (one_names shape g u t reads is) (path (h.path s was));
}

-- where names stay, and nodes too
pub kept_step : (shape : VolumeShape) (f g : BlockWords) (s t : State) (m : Memo) → InStep shape f m → ReadsAs shape f s → ReadsAs shape g t → t.names ≡ s.names → StayThere s t → InStep shape g m
kept_step shape f g s t m h was is same stay = step_to shape f g s t m m h was is (subst (λ (ns : Names). Agrees m.names ns) (sym same)) (full_stays shape f g s t m.full was is stay) (leads_on shape g s t m.path is same)

-- ---- what each change leaves of nodes

pub stay_same : (s t : State) → t ≡ s → StayThere s t
stay_same s t same = λ j none. ap (λ (u : State). get u.nodes j) (sym same) ∙ none

pub stay_with : (s : State) (i : ℕ) (n : Node) → StayThere s (with_node s i n)
stay_with s i n = λ j none. by j none (cases_eq j i)
  where
    by : (j : ℕ) → get (insert s.nodes i n) j ≡ None → (j ≡ i) ⊎ (j ≢ i) → get s.nodes j ≡ None
    by j none (inl here) = absurd (none-some n (sym none ∙ ap (get (insert s.nodes i n)) here ∙ get_here s.nodes i n))
    by j none (inr away) = sym (get_there s.nodes i n j away) ∙ none

pub stay_new : (s : State) (dir : ℕ) (name : List ℕ) (i : ℕ) (n : Node) → StayThere s (with_new s dir name i n)
stay_new s dir name i n = stay_with s i n

-- ---- a directory whose rows are held

pub rows_are : (shape : VolumeShape) (f : BlockWords) (s : State) (d : ℕ) (held : NamesOfDir) → ReadsAs shape f s → (held_of shape f d).kind ≡ 1 → HoldsRows (held_of shape f d) held → AreNames held d s.names
rows_are shape f s d held reads dir rows = λ name. by name (get held name) (get s.names (d, name)) refl refl
  where
    by : (name : List ℕ) (a b : Option ℕ) → get held name ≡ a → get s.names (d, name) ≡ b → get held name ≡ get s.names (d, name)
    by name (Some i) b x y = let row = rows.only name i x in x ∙ sym (row_read shape f s d row.0 name i reads dir row.1)
    by name None None x y = x ∙ sym y
    by name None (Some i) x y =
        let at = reads.reads.names d name i y in
        absurd (none-some (entry_ino (held_of shape f d) at.0) (sym x ∙ rows.has name (entry_ino (held_of shape f d) at.0) (at.0, record { within = at.1.within; named = at.2; ino = refl })))

-- and one that has no such name by what is held
pub none_there : (shape : VolumeShape) (f : BlockWords) (s : State) (d : ℕ) (name : List ℕ) → ReadsAs shape f s → (held_of shape f d).kind ≡ 1 → get s.names (d, name) ≡ None → (i : ℕ) → HasRow (held_of shape f d) name i → ⊥
none_there shape f s d name reads dir none i row = none-some i (sym none ∙ row_read shape f s d row.0 name i reads dir row.1)

-- where no further names are held
pub closed_step : (shape : VolumeShape) (f : BlockWords) (m n : Memo) → n.names.dirs ≡ m.names.dirs → n.full ≡ m.full → n.path ≡ m.path → InStep shape f m → InStep shape f n
closed_step shape f m n dirs full path h = record {
  names = λ s reads. λ dir held is. h.names s reads dir held (ap (λ ds. held_in ds dir) (sym dirs) ∙ is);
  full = subst (λ (fl : FullBlocks). KnowsFull shape fl f) (sym full) h.full;
  path = λ s reads. subst (λ (last : LastPath). LeadsThere last s) (sym path) (h.path s reads);
}

-- ---- a call on the words of a region

pub rest_step : (shape : VolumeShape) (i : ℕ) (f g : BlockWords) (s : State) (m : Memo) → RestHeld shape i f g → (held_of shape f i).kind ≡ 3 → ReadsAs shape f s → InStep shape f m → InStep shape g m
rest_step shape i f g s m rest region reads h = record {
  names = λ u after. subst (λ (ns : Names). Agrees m.names ns) (names_agree shape f g s u there back reads after) (h.names s reads);
  full = record { each = λ j ino mark. used j ino (h.full.each j ino mark) (cases_eq j i) };
  path = λ u after. leads_on shape g s u m.path after (sym (names_agree shape f g s u there back reads after)) (h.path s reads);
}
  where
    there : SameDirs (held_of shape f) (held_of shape g)
    there d dir = rest.others d (λ same. (let e : (held_of shape f i).kind ≡ 1 = ap (λ n. (held_of shape f n).kind) (sym same) ∙ dir in omega (arith, e, region)))

    back : SameDirs (held_of shape g) (held_of shape f)
    back d dir = sym (rest.others d (λ same. (let kind = rest.kind in let e : (held_of shape g i).kind ≡ 1 = ap (λ n. (held_of shape g n).kind) (sym same) ∙ dir in omega (arith, e, region, kind))))

    used : (j : ℕ) → IsIno shape j → 0 < inode_kind f j → (j ≡ i) ⊎ (j ≢ i) → 0 < inode_kind g j
    used j ino some (inl here) =
        let now = kind_held shape g j ino in
        let kind : (held_of shape g j).kind ≡ 3 = ap (λ n. (held_of shape g n).kind) here ∙ rest.kind ∙ region in
        omega (arith, now, kind)
    used j ino some (inr away) =
        let was = kind_held shape f j ino in
        let now = kind_held shape g j ino in
        let same : (held_of shape g j).kind ≡ (held_of shape f j).kind = ap (λ (x : Held). x.kind) (rest.others j away) in
        omega (arith, was, now, same, some)
