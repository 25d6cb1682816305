-- A region and its row, made in one update: that the changes can be made, and the state that they come to.
use Rattle.request_ends.proofs.Common.{◌≡◌, ◌≢◌, ℕ, zero, suc, ◌<◌, ◌≤◌, ◌⊎◌, Bool, true, false, List, [], ◌∷◌, map, refl, sym, ap, subst, ◌∙◌, arith, inl, inr, None, Some, get, AllByRecursion, Contains, cases_eq, PageName, VolumeShape, CachesBy, BlockWords, Seen, IsIno, inode_block, reserved, Kept, Settled, numbers, Region, State, with_new, Held, held_of, Available, Change, IsName, Slot, AtPage, AtTable, Placed, Agrees, HasSlot, IsFree, placed_at, volume_layout, SameLayout, inode_low, lays_agree, lays_same, lays_self, node_fits, owned_on, Applied, ReadsAs, Bears, LeavesInUse, NamedNode, Ready, IsMapped, NodeFits, leaves_trans, ready_left, InOrder, IsEdited, Edit}
use Rattle.directories.specs.Plans.{MayBeMade, PlansDir, SameBlocks}
use Rattle.directories.proofs.MakingOrder.{plan_edits}
use Rattle.directories.proofs.MakingRules.{plan_change, DisjointNodes, may_after, may_begin, may_still}
use Rattle.directories.specs.Rows.{HasRow}
use Rattle.directories.specs.declared.changes.DirChange.{DirChange}
use Rattle.rio_requests.specs.Answers.{new_region}
use Rattle.directories.specs.RowChanges.{AddsRow}
use Rattle.std.specs.Prelude.{Option}
use Rattle.rio_model.proofs.GrowthRules.{few_tables}
use Rattle.rio_model.proofs.HeldRules.{held_agree}
use Rattle.rio_model.proofs.LowestBlocks.{bits_agree}
use Rattle.rio_model.proofs.NodeChangeRules.{held_here}
use Rattle.rio_model.specs.Placed.{Lies}
use Rattle.rio_model.proofs.PlacedRules.{table_page}
use Rattle.rio_model.proofs.UpdateRules.{edited_out, turned_held}
use Rattle.rio_model.specs.Updates.{Turns, Update, WordEdit, edited}
use Rattle.node_pages.specs.Changes.{EditsTable, Spares, wanted_blocks, word_edit}
use Rattle.node_updates.specs.Changes.{IsTouchedBy, change_update, of_dir}
use Rattle.node_making.specs.NewNodes.{FitRegion, PlansRegion, new_held}
use Rattle.node_making.proofs.ReadMade.{tree_new}
use Rattle.node_updates.specs.declared.changes.NodeChange.{NodeChange}
use Rattle.node_making.specs.declared.regions.RegionSizes.{RegionSizes}
use Rattle.node_updates.proofs.Fitting.{freed_above, freed_out}
use Rattle.file_tree.proofs.LookedAt.{dir_read, no_row}
use Rattle.node_updates.proofs.LowestTaken.{lowest_two}
use Rattle.region_view.proofs.UsedInodes.{kind_held}
use Rattle.node_making.proofs.ReachedMade.{apart_kinds, fit_read, unused_read}
use Rattle.node_updates.proofs.Reached.{held_now, lowest_now, mapped_now, order_now, unnamed_touch}
use Rattle.file_tree.proofs.FreeFound.{root_held}
use Rattle.node_making.proofs.RegionPlanned.{free_on}
use Rattle.node_making.proofs.RegionRead.{MakesRegion, region_as}
use Rattle.node_updates.proofs.Requested.{MayMake, ReachesAll, Requested, dir_ino, dir_may}
use Rattle.node_updates.proofs.Steps.{Steps, node_change, step_of}
use Rattle.node_updates.proofs.Stood.{Stood, stood_step}

-- x and k are before the request, m and l when row c of directory d is prepared, y and j when region n of inode i is too
pub record RegionRow (shape : VolumeShape) (x : Seen) (k : Kept) (m : Seen) (l : Kept) (y : Seen) (j : Kept) (d : ℕ) (name : List ℕ) (i : ℕ) (r : RegionSizes) (c : DirChange) (n : NodeChange) : Type 0 where
  pub ready : Ready shape x k
  pub leaves : LeavesInUse (volume_layout shape x.words) x k m l
  pub then : LeavesInUse (volume_layout shape m.words) m l y j
  pub spared : Spares (numbers c.taken) m l y j
  pub plan : PlansDir shape x.words m l d (AddsRow name i) c
  pub region : PlansRegion shape m.words y j i r (numbers c.taken) n
  pub fit : FitRegion r
  pub dir : (held_of shape x.words d).kind ≡ 1
  pub ino : IsIno shape i
  pub free : (held_of shape x.words i).kind ≡ 0
  pub is_name : IsName name
  pub absent : (v : ℕ) → HasRow (held_of shape x.words d) name v → ⊥

not_true : (a b : Bool) → (a ≡ true → b ≡ true) → b ≡ false → a ≡ false
not_true true b f e = sym (f refl) ∙ e
not_true false b f e = refl

same_layout : (shape : VolumeShape) (f g : BlockWords) → IsMapped shape f → Agrees (volume_layout shape f) f g → SameLayout (volume_layout shape f) (volume_layout shape g)
same_layout shape f g mapped agrees = lays_same (volume_layout shape f) g (lays_agree (volume_layout shape f) f g mapped.laid.shape_fits (lays_self shape f) agrees)

pub region_leaves : (shape : VolumeShape) (x : Seen) (k : Kept) (m : Seen) (l : Kept) (y : Seen) (j : Kept) (d : ℕ) (name : List ℕ) (i : ℕ) (r : RegionSizes) (c : DirChange) (n : NodeChange) → RegionRow shape x k m l y j d name i r c n → LeavesInUse (volume_layout shape x.words) x k y j
region_leaves shape x k m l y j d name i r c n h = leaves_trans shape x k m l y j h.ready h.leaves h.then

-- ---- the row still stands when the region is prepared

row_may : (shape : VolumeShape) (x : Seen) (k : Kept) (m : Seen) (l : Kept) (y : Seen) (j : Kept) (d : ℕ) (name : List ℕ) (i : ℕ) (r : RegionSizes) (c : DirChange) (n : NodeChange) → (h : RegionRow shape x k m l y j d name i r c n) → MayBeMade shape (placed_at x.words d) h.plan.node d m.words y.words
row_may shape x k m l y j d name i r c n h = may_after shape (placed_at x.words d) p d m.words m l y j ino (ready_left shape x k m l h.ready h.leaves).order.mapped h.then spared (may_begin shape x k m l d (AddsRow name i) c h.plan ino h.ready h.leaves)
  where
    p : Placed
    p = h.plan.node

    ino : IsIno shape d
    ino = dir_ino shape x.words d h.dir

    same : SameLayout (volume_layout shape x.words) (volume_layout shape m.words)
    same = same_layout shape x.words m.words h.ready.order.mapped h.leaves.words

    spared : (s : Slot) → HasSlot p s → IsFree (volume_layout shape m.words) (p.block s) → (w : ℕ) → y.words (p.block s) w ≡ m.words (p.block s) w
    spared s has free w = elim (h.plan.turns.gains s has) [
      | inl own ↦ absurd (free.free (owned_on (volume_layout shape x.words) (volume_layout shape m.words) _ same (record { node = d; slot = own.0; owns = record { ino = ino; slot = own.1 }; is = own.2 })))
      | inr taken ↦ h.spared.words _ w taken
    ]

row_stood : (shape : VolumeShape) (x : Seen) (k : Kept) (m : Seen) (l : Kept) (y : Seen) (j : Kept) (d : ℕ) (name : List ℕ) (i : ℕ) (r : RegionSizes) (c : DirChange) (n : NodeChange) → RegionRow shape x k m l y j d name i r c n → Stood shape x y j d (AddsRow name i) c
row_stood shape x k m l y j d name i r c n h = record {
  was = x.words;
  seen = m;
  kept = l;
  plan = h.plan;
  same = refl;
  bits = λ b within. refl;
  may = row_may shape x k m l y j d name i r c n h;
  firm = firm;
  unnamed = unnamed;
}
  where
    p : Placed
    p = h.plan.node

    ino : IsIno shape d
    ino = dir_ino shape x.words d h.dir

    whole : LeavesInUse (volume_layout shape x.words) x k y j
    whole = region_leaves shape x k m l y j d name i r c n h

    firm : (s : Slot) → HasSlot p s → j.loose (p.block s) ≡ false
    firm s has = elim (h.plan.turns.gains s has) [
      | inl own ↦ subst (λ b. j.loose b ≡ false) own.2 (whole.firm.owned d own.0 (record { ino = ino; slot = own.1 }))
      | inr taken ↦ not_true (j.loose (p.block s)) (l.loose (p.block s)) (h.spared.loose _ taken) (h.plan.firm s has)
    ]

    none_of : (t : Slot) (o : Option PageName) → Bears d (placed_at x.words d) t o → o ≡ None
    none_of (AtTable q) o bears = bears
    none_of (AtPage q) None bears = refl
    none_of (AtPage q) (Some o) bears = absurd (bears.0 h.plan.was_dir)

    unnamed : (s : Slot) → HasSlot p s → y.cached (p.block s) ≡ true → y.names (p.block s) ≡ None
    unnamed s has on = elim (h.plan.turns.gains s has) [
      | inl own ↦ subst (λ b. y.names b ≡ None) own.2 (none_of own.0 _ (whole.named.each d ino own.0 own.1 (subst (λ b. y.cached b ≡ true) (sym own.2) on)))
      | inr taken ↦ (let kept = h.spared.named _ taken on in kept.1 ∙ h.plan.unnamed s has kept.0)
    ]

-- ---- the region can be made

abbrev own_free : BlockWords → ℕ → Type 0
own_free f i = (placed_at f i).kind ≡ 0

no_own : (f : BlockWords) (i : ℕ) (s : Slot) → own_free f i → HasSlot (placed_at f i) s → ⊥
no_own f i s free has = let used = has.used in omega (arith, used, free)

edit_of : (m : Placed) (es : List Edit) (e : Edit) → AllByRecursion (EditsTable m) es → Contains es e → EditsTable m e
edit_of m [] e all (t, few, at) = absurd (omega (arith, few))
edit_of m (d ∷ es) e all (zero, few, at) = subst (EditsTable m) at all.0
edit_of m (d ∷ es) e all (suc t, few, at) = edit_of m es e all.1 (t, omega (arith, few), at)

-- where inode i is free, and the blocks of the region are, in y
free_then : (shape : VolumeShape) (m : Seen) (l : Kept) (y : Seen) (j : Kept) (i : ℕ) (r : RegionSizes) (skip : List ℕ) (n : NodeChange) → Ready shape m l → LeavesInUse (volume_layout shape m.words) m l y j → (p : PlansRegion shape m.words y j i r skip n) → (s : Slot) → HasSlot p.node s → IsFree (volume_layout shape y.words) (p.node.block s)
free_then shape m l y j i r skip n ready leaves p s has = free_on shape m.words y.words _ ready.order.mapped leaves.words (p.from s has)

region_may : (shape : VolumeShape) (m : Seen) (l : Kept) (y : Seen) (j : Kept) (i : ℕ) (r : RegionSizes) (skip : List ℕ) (n : NodeChange) → Ready shape m l → LeavesInUse (volume_layout shape m.words) m l y j → IsIno shape i → own_free m.words i → PlansRegion shape m.words y j i r skip n → MayMake shape y n
region_may shape m l y j i r skip n ready leaves ino free p = record {
  fits = record {
    ino = subst (IsIno shape) (sym p.ino) ino;
    touched = λ b on. inr (inl (edited_free b on));
    takes = λ b on. taken_free b (p.turns.taken b on).0;
    frees = λ b on. absurd (no_own m.words i (p.turns.freed b on).0.0 free (p.turns.freed b on).0.1);
  };
  can = record {
    fits = record {
      ino = subst (IsIno shape) (sym p.ino) ino;
      can = record {
        words = λ e on. (edit_of p.node n.edits e p.tables on).1;
        from = λ e on. (let at = table e on in subst (λ b. reserved shape ≤ b) at.2 (p.turns.new_fits.from (AtTable at.0) at.1));
        to = λ e on. (let at = table e on in subst (λ b. b < shape.blocks) at.2 (p.turns.new_fits.to (AtTable at.0) at.1));
        taken = λ b on. (taken_free b (p.turns.taken b on).0).to;
        freed = λ b on. absurd (no_own m.words i (p.turns.freed b on).0.0 free (p.turns.freed b on).0.1);
        apart = λ b on off. absurd (no_own m.words i (p.turns.freed b off).0.0 free (p.turns.freed b off).0.1);
      };
    };
    few = record { table = p.node.block (AtTable 0); first = 0; second = 0; each = λ e on. inl (the_table e on) };
    unnamed = λ e on cached. (let at = table e on in subst (λ b. y.names b ≡ None) at.2 (p.unnamed at.0 at.1 (subst (λ b. y.cached b ≡ true) (sym at.2) cached)));
  };
}
  where
    table : (e : Edit) → Contains n.edits e → (k : ℕ) × HasSlot p.node (AtTable k) × (p.node.block (AtTable k) ≡ e.block.0)
    table e on = (edit_of p.node n.edits e p.tables on).0

    the_table : (e : Edit) → Contains n.edits e → e.block.0 ≡ p.node.block (AtTable 0)
    the_table e on = let at = table e on in sym at.2 ∙ ap (λ k. p.node.block (AtTable k)) (few_tables p.node.size at.0 at.1.within).0

    edited_free : (b : ℕ) → IsEdited n.edits b → IsFree (volume_layout shape y.words) b
    edited_free b (e, on, is) = let at = table e on in subst (IsFree (volume_layout shape y.words)) (at.2 ∙ is) (free_then shape m l y j i r skip n ready leaves p (AtTable at.0) at.1)

    taken_free : (b : ℕ) → ((s : Slot) × HasSlot p.node s × (p.node.block s ≡ b)) → IsFree (volume_layout shape y.words) b
    taken_free b (s, has, at) = subst (IsFree (volume_layout shape y.words)) at (free_then shape m l y j i r skip n ready leaves p s has)

-- inode i is free when the row is prepared
pub free_still : (shape : VolumeShape) (x : Seen) (k : Kept) (m : Seen) (l : Kept) (i : ℕ) → Ready shape x k → LeavesInUse (volume_layout shape x.words) x k m l → IsIno shape i → own_free x.words i → own_free m.words i
free_still shape x k m l i ready leaves ino free = ((same_layout shape x.words m.words ready.order.mapped leaves.words).each i ino).kind ∙ free

free_row : (shape : VolumeShape) (x : Seen) (k : Kept) (m : Seen) (l : Kept) (y : Seen) (j : Kept) (d : ℕ) (name : List ℕ) (i : ℕ) (r : RegionSizes) (c : DirChange) (n : NodeChange) → RegionRow shape x k m l y j d name i r c n → own_free m.words i
free_row shape x k m l y j d name i r c n h = free_still shape x k m l i h.ready h.leaves h.ino (sym (kind_held shape x.words i h.ino) ∙ h.free)

pub region_requested : (shape : VolumeShape) (x : Seen) (k : Kept) (m : Seen) (l : Kept) (y : Seen) (j : Kept) (d : ℕ) (name : List ℕ) (i : ℕ) (r : RegionSizes) (c : DirChange) (n : NodeChange) → Settled x k → RegionRow shape x k m l y j d name i r c n → Requested shape x k y j (of_dir c ∷ n ∷ [])
region_requested shape x k m l y j d name i r c n settled h =
    let leaves = region_leaves shape x k m l y j d name i r c n h in
    let mapped = (ready_left shape x k y j h.ready leaves).order.mapped in
    record {
      ready = h.ready;
      settled = settled;
      leaves = leaves;
      may = (
        dir_may shape x y j d (AddsRow name i) c mapped (dir_ino shape x.words d h.dir) (row_stood shape x k m l y j d name i r c n h),
        (region_may shape m l y j i r (numbers c.taken) n (ready_left shape x k m l h.ready h.leaves) h.then h.ino (free_row shape x k m l y j d name i r c n h) h.region, tt),
      );
      lowest = lowest_two shape x.words m.words (of_dir c) n h.ready.order.mapped.laid.shape_fits (bits_agree shape x.words m.words h.ready.order.mapped.laid.shape_fits h.leaves.words.low) (wanted_blocks (placed_at x.words d).size h.plan.node.size, h.plan.takes.lowest) h.region.lowest;
    }

-- ---- the region made, on blocks in which its inode is free and its blocks read as they did

free_lies : (f : BlockWords) (i : ℕ) (n o : Placed) → n.kind ≡ 0 → o.kind ≡ 0 → Lies f i n → Lies f i o
free_lies f i n o none free h = record {
  kind = h.kind ∙ none ∙ sym free;
  size = λ used. absurd (omega (arith, used, free));
  blocks = λ s has. absurd (let used = has.used in omega (arith, used, free));
}

turns_free : (shape : VolumeShape) (n o m : Placed) (u : Update) → n.kind ≡ 0 → o.kind ≡ 0 → NodeFits shape o → Turns shape n m u → Turns shape o m u
turns_free shape n o m u none free fits t = record {
  shape_fits = t.shape_fits;
  ino = t.ino;
  old_fits = fits;
  new_fits = t.new_fits;
  gains = λ s has. elim (t.gains s has) [ inl own ↦ absurd (let used = own.1.used in omega (arith, used, none)) | inr taken ↦ inr taken ];
  loses = λ s has. absurd (let used = has.used in omega (arith, used, free));
  taken = λ b on. ((t.taken b on).0, λ s has e. absurd (let used = has.used in omega (arith, used, free)));
  freed = λ b on. absurd (let used = (t.freed b on).0.1.used in omega (arith, used, none));
  edits = t.edits;
  kind = t.kind;
  size = t.size;
  direct = t.direct;
  indirect = t.indirect;
  later = λ f lies. t.later f (free_lies f u.ino o n free none lies);
}

-- edits of tables leave pages
out_edits : (m : Placed) (p : ℕ) (es : List Edit) → ((s t : Slot) → HasSlot m s → HasSlot m t → m.block s ≡ m.block t → s ≡ t) → HasSlot m (AtPage p) → AllByRecursion (EditsTable m) es → AllByRecursion (λ (e : WordEdit). e.block ≢ m.block (AtPage p)) (map word_edit es)
out_edits m p [] apart has all = tt
out_edits m p (e ∷ es) apart has all = ((λ same. table_page all.0.0.0 p (apart (AtTable all.0.0.0) (AtPage p) all.0.0.1 has (all.0.0.2 ∙ same))), out_edits m p es apart has all.1)

pub region_step : (shape : VolumeShape) (f : BlockWords) (y : Seen) (j : Kept) (i : ℕ) (r : RegionSizes) (skip : List ℕ) (n : NodeChange) (g h : BlockWords) (z : Seen) (p : PlansRegion shape f y j i r skip n) → InOrder shape g z j → IsIno shape i → i ≢ 1 → own_free f i → own_free g i → SameBlocks p.node y.words g → ((s : Slot) → HasSlot p.node s → Available (volume_layout shape g) i (p.node.block s)) → NamedNode i p.node z → Applied shape (change_update n) g h → Steps shape g h i z j × (held_of shape h i ≡ new_held r.undo_pages r.data_pages)
region_step shape f y j i r skip n g h z p order ino other free still same from named a = (
  step_of shape g h i p.node z j order change named p.firm,
  held_here shape g h i p.node order.mapped change
      ∙ turned_held shape (placed_at g i) p.node (change_update n) g h turns a
      ∙ held_agree g (edited g (map word_edit n.edits)) p.node (λ q has w. edited_out (map word_edit n.edits) g _ w (out_edits p.node q n.edits p.turns.new_fits.apart has p.tables))
      ∙ held_agree y.words g p.node (λ q has w. same (AtPage q) has w)
      ∙ p.holds,
)
  where
    turns : Turns shape (placed_at g i) p.node (change_update n)
    turns = turns_free shape (placed_at f i) (placed_at g i) p.node (change_update n) free still (node_fits (volume_layout shape g) i order.mapped.laid ino) p.turns

    change : Change (volume_layout shape g) g h i p.node
    change = subst (λ q. Change (volume_layout shape g) g h q p.node) p.ino
        (node_change shape p.node (change_update n) g h (subst (λ q. Turns shape (placed_at g q) p.node (change_update n)) (sym p.ino) turns) (λ root. absurd (other (sym p.ino ∙ root))) (subst (λ q. (s : Slot) → HasSlot p.node s → Available (volume_layout shape g) q (p.node.block s)) (sym p.ino) from) a)

-- ---- names, with the update's blocks cached

region_named : (shape : VolumeShape) (x : Seen) (k : Kept) (m : Seen) (l : Kept) (y : Seen) (j : Kept) (z : Seen) (d : ℕ) (name : List ℕ) (i : ℕ) (r : RegionSizes) (c : DirChange) (n : NodeChange) → (h : RegionRow shape x k m l y j d name i r c n) → CachesBy (IsTouchedBy (of_dir c ∷ n ∷ [])) y z → DisjointNodes h.plan.node h.region.node → NamedNode i h.region.node z
region_named shape x k m l y j z d name i r c n h caches apart s has on = by (caches.each _ on)
  where
    p : Placed
    p = h.region.node

    changes : List NodeChange
    changes = of_dir c ∷ n ∷ []

    from : reserved shape ≤ p.block s
    from = h.region.turns.new_fits.from s has

    in_row : (e : Edit) → Contains c.edits e → e.block.0 ≡ p.block s → ⊥
    in_row e one at = let own = plan_edits shape x.words m l d (AddsRow name i) c h.plan e.block.0 (e, one, refl) in apart own.0 s own.1 has (own.2 ∙ at)

    in_region : (e : Edit) → Contains n.edits e → e.block.0 ≡ p.block s → z.names (p.block s) ≡ None → Bears i p s (z.names (p.block s))
    in_region e one at none =
        let own = (edit_of p n.edits e h.region.tables one).0 in
        let slot = h.region.turns.new_fits.apart (AtTable own.0) s own.1 has (own.2 ∙ at) in
        subst (λ t. Bears i p t (z.names (p.block s))) slot none

    of_change : (a : NodeChange) → Contains changes a → (p.block s ≡ inode_block a.ino.0) ⊎ ((e : Edit) × Contains a.edits e × (e.block.0 ≡ p.block s)) → z.names (p.block s) ≡ None → Bears i p s (z.names (p.block s))
    of_change a (zero, few, at) (inl inode) none = absurd (let ino = subst (λ (q : NodeChange). p.block s ≡ inode_block q.ino.0) (sym at) inode in let low = inode_low shape d h.ready.order.mapped.laid.shape_fits (dir_ino shape x.words d h.dir) in let same = h.plan.dir in omega (arith, from, low, ino, same))
    of_change a (zero, few, at) (inr (e, one, is)) none = absurd (in_row e (subst (λ (q : NodeChange). Contains q.edits e) (sym at) one) is)
    of_change a (suc zero, few, at) (inl inode) none = absurd (let ino = subst (λ (q : NodeChange). p.block s ≡ inode_block q.ino.0) (sym at) inode in let low = inode_low shape i h.ready.order.mapped.laid.shape_fits h.ino in let same = h.region.ino in omega (arith, from, low, ino, same))
    of_change a (suc zero, few, at) (inr (e, one, is)) none = in_region e (subst (λ (q : NodeChange). Contains q.edits e) (sym at) one) is none
    of_change a (suc (suc t), few, at) _ none = absurd (omega (arith, few))

    by : ((y.cached (p.block s) ≡ true) × (z.names (p.block s) ≡ y.names (p.block s))) ⊎ IsTouchedBy changes (p.block s) (z.names (p.block s)) → Bears i p s (z.names (p.block s))
    by (inl kept) = subst (Bears i p s) (sym kept.1) (h.region.named s has kept.0)
    by (inr (inl one, none)) = absurd (omega (arith, from, one))
    by (inr (inr (a, on, at), none)) = of_change a on at none

-- ---- the state that both come to

pub region_reaches : (shape : VolumeShape) (x : Seen) (k : Kept) (m : Seen) (l : Kept) (y : Seen) (j : Kept) (z : Seen) (d : ℕ) (name : List ℕ) (i : ℕ) (r : RegionSizes) (c : DirChange) (n : NodeChange) (s : State) → RegionRow shape x k m l y j d name i r c n → ReadsAs shape x.words s → ReachesAll shape x k y j z (of_dir c ∷ n ∷ []) (with_new s d name i (Region (new_region r.data_pages r.undo_pages)))
region_reaches shape x k m l y j z d name i r c n s row reads p g (h, a1, (h2, a2, e)) = record {
  order = order;
  reads = region_as shape x.words g s d name i r.undo_pages r.data_pages reads order.mapped (tree_new s d name i (Region (new_region r.data_pages r.undo_pages)) (fit_read shape x.words s reads) reads.tree (dir_read shape x.words s d reads row.dir) absent (unused_read shape x.words s i reads row.free)) row.fit.undo row.fit.data_pages absent row.is_name makes;
  spares = record { each = spares };
  lowest = lowest_now shape x k y j z changes g p (h, a1, (h2, a2, e));
  out = freed_out shape y.words g changes (mapped_now shape x k y j z changes p) order.mapped p.fits (h, a1, (h2, a2, e));
  above = freed_above shape y.words changes (mapped_now shape x k y j z changes p) p.fits;
}
  where
    changes : List NodeChange
    changes = of_dir c ∷ n ∷ []

    absent : get s.names (d, name) ≡ None
    absent = no_row shape x.words s d name reads row.absent

    away : i ≢ d
    away = apart_kinds shape x.words i d 0 1 row.free row.dir (λ q. (let f : 0 ≡ 1 = q in omega (arith, f)))

    stood : Stood shape x y j d (AddsRow name i) c
    stood = row_stood shape x k m l y j d name i r c n row

    dno : IsIno shape d
    dno = dir_ino shape x.words d row.dir

    before : IsMapped shape y.words
    before = mapped_now shape x k y j z changes p

    first : Steps shape y.words h d z j × AddsRow name i (held_of shape x.words d) (held_of shape h d)
    first = stood_step shape x y j d (AddsRow name i) c (IsTouchedBy changes) z y.words h stood (unnamed_touch changes) p.touched.caches (order_now shape x k y j z changes p) (held_now shape x k y j z changes p d) stood.may a1

    free_at : (t : Slot) → HasSlot row.region.node t → IsFree (volume_layout shape y.words) (row.region.node.block t)
    free_at t has = free_then shape m l y j i r (numbers c.taken) n (ready_left shape x k m l row.ready row.leaves) row.then row.region t has

    same_y : SameLayout (volume_layout shape x.words) (volume_layout shape y.words)
    same_y = same_layout shape x.words y.words row.ready.order.mapped (region_leaves shape x k m l y j d name i r c n row).words

    apart : DisjointNodes row.plan.node row.region.node
    apart t u has_t has_u same = elim (row.plan.turns.gains t has_t) [
      | inl own ↦ (free_at u has_u).free (owned_on (volume_layout shape x.words) (volume_layout shape y.words) _ same_y (record { node = d; slot = own.0; owns = record { ino = dno; slot = own.1 }; is = own.2 ∙ same }))
      | inr taken ↦ row.region.beside u has_u (subst (Contains (numbers c.taken)) same taken)
    ]

    may : MayBeMade shape (placed_at y.words i) row.region.node i y.words h
    may = may_still shape (placed_at y.words i) row.region.node row.plan.node i d y.words y.words h before (plan_change shape x.words m l d (AddsRow name i) c y.words h row.plan (row_may shape x k m l y j d name i r c n row) a1) row.ino away apart (record {
      lies = record { kind = refl; size = λ used. refl; blocks = λ t has. refl };
      same = λ t has w. refl;
      from = λ t has. inr (free_at t has);
    })

    free_y : own_free y.words i
    free_y = (same_y.each i row.ino).kind ∙ sym (kind_held shape x.words i row.ino) ∙ row.free

    second : Steps shape h h2 i z j × (held_of shape h2 i ≡ new_held r.undo_pages r.data_pages)
    second = region_step shape m.words y j i r (numbers c.taken) n h h2 z row.region first.0.order row.ino (apart_kinds shape x.words i 1 0 1 row.free (root_held shape x.words row.ready.order.mapped) (λ q. (let f : 0 ≡ 1 = q in omega (arith, f)))) (free_row shape x k m l y j d name i r c n row) (may.lies.kind ∙ free_y) may.same may.from (region_named shape x k m l y j z d name i r c n row p.touched.caches apart) a2

    order : InOrder shape g z j
    order = subst (λ f. InOrder shape f z j) (sym e) second.0.order

    others : (q : ℕ) → q ≢ d → q ≢ i → held_of shape h2 q ≡ held_of shape x.words q
    others q off_d off_i = second.0.others q off_i ∙ first.0.others q off_d ∙ held_now shape x k y j z changes p q

    row_now : AddsRow name i (held_of shape x.words d) (held_of shape h2 d)
    row_now = subst (AddsRow name i (held_of shape x.words d)) (sym (second.0.others d (λ same. away (sym same)))) first.1

    makes : MakesRegion (held_of shape x.words) (held_of shape g) d name i r.undo_pages r.data_pages
    makes = subst (λ f. MakesRegion (held_of shape x.words) (held_of shape f) d name i r.undo_pages r.data_pages) (sym e) (record {
      dir = row.dir;
      free = row.free;
      row = row_now;
      made = second.1;
      others = others;
    })

    spares : (q : ℕ) → (held_of shape g q).kind ≡ 3 → (held_of shape g q ≡ held_of shape x.words q) ⊎ (((held_of shape x.words q).kind ≡ 0) × ((held_of shape g q).word 3 ≡ 0))
    spares q = subst (λ f. (held_of shape f q).kind ≡ 3 → (held_of shape f q ≡ held_of shape x.words q) ⊎ (((held_of shape x.words q).kind ≡ 0) × ((held_of shape f q).word 3 ≡ 0))) (sym e) (by (cases_eq q d) (cases_eq q i))
      where
        by : (q ≡ d) ⊎ (q ≢ d) → (q ≡ i) ⊎ (q ≢ i) → (held_of shape h2 q).kind ≡ 3 → (held_of shape h2 q ≡ held_of shape x.words q) ⊎ (((held_of shape x.words q).kind ≡ 0) × ((held_of shape h2 q).word 3 ≡ 0))
        by (inl on) _ three = absurd (let one : (held_of shape h2 q).kind ≡ 1 = ap (λ v. (held_of shape h2 v).kind) on ∙ row_now.dir in omega (arith, one, three))
        by (inr off) (inl on) three = inr (ap (λ v. (held_of shape x.words v).kind) on ∙ row.free, ap (λ v. (held_of shape h2 v).word 3) on ∙ ap (λ (v : Held). v.word 3) second.1)
        by (inr off) (inr off_i) three = inl (others q off off_i)
