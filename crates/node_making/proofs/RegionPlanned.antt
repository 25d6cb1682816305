-- A new region, prepared: its blocks are taken as zeros, and then its header is stored in the block of page 0.
use Rattle.request_ends.proofs.Common.{◌≡◌, ◌≢◌, ℕ, zero, suc, ◌-◌, ◌*◌, ◌/◌, ◌%◌, ◌<◌, ◌≤◌, ◌&&◌, ◌⊎◌, Bool, true, false, cond, List, length, refl, sym, ap, subst, ◌∙◌, arith, inl, inr, slice_index_or, None, Some, nat_lt, slice_index, Contains, cases_eq, nat_tests, Block, Ino, PageName, VolumeShape, BlockWords, Seen, IsIno, inode_kind, true_false, HasShape, Firm, Kept, numbers, Inode, held, same_held, Slot, AtPage, AtTable, Placed, HasSlot, IsFree, Agrees, placed_at, volume_layout, SameLayout, lays_agree, lays_same, lays_self, pages, Bears, LeavesInUse, NamedNode, Ready, IsMapped, wanted_blocks, leaves_trans, ready_left, as_many, number_at}
use Rattle.rio_model.proofs.WordRules.{run_same_but}
use Rattle.rio_model.specs.VolumeReady.{NamesPage}
use Rattle.rio_base.specs.Blocks.{CanName, SamePage}
use Rattle.std.specs.Prelude.{Option}
use Rattle.rio_base.proofs.BlockSets.{caches_by_stored, firm_outside_all, same_outside_one}
use Rattle.rio_base.specs.Volume.{SameBut, CachesStored, put_run, widened}
use Rattle.rio_model.proofs.GrowthRules.{page_new}
use Rattle.rio_model.proofs.HeldRules.{page_counts, counts_of}
use Rattle.rio_model.proofs.PlacedRules.{owned_back, page_page, table_page, cases_lt}
use Rattle.node_pages.specs.Changes.{PlansSize, Spares, free_beside, planned_node}
use Rattle.node_pages.proofs.OrderRules.{leaves_beside}
use Rattle.node_pages.specs.Staging.{Beside}
use Rattle.node_pages.specs.declared.changes.SizeChange.{SizeChange}
use Rattle.node_pages.proofs.Listed.{place_of}
use Rattle.node_pages.proofs.Skipped.{among_at, left_are_free}
use Rattle.node_updates.specs.Changes.{of_size}
use Rattle.node_making.specs.NewNodes.{FitRegion, PlansRegion, header_name, header_words, new_held, new_word}
use Rattle.node_updates.specs.declared.changes.NodeChange.{NodeChange}
use Rattle.node_making.specs.declared.regions.RegionSizes.{RegionSizes}
use Rattle.node_making.proofs.NewRegionWords.{new_zero}

-- ---- sizes

-- a region has four pages at least
pub region_long : (r : RegionSizes) → FitRegion r → 16384 ≤ r.bytes
region_long r fit = let undo = fit.undo in let data_pages = fit.data_pages in let bytes = fit.bytes in omega (arith, undo, data_pages, bytes)

-- ---- a store into a free block

-- what the store of the header leaves, whatever its end
pub record PutsHeader (x : Seen) (k : Kept) (y : Seen) (j : Kept) (b : ℕ) (i : Ino) : Type 0 where
  pub others : SameBut b x.words y.words
  pub standing : SameBut b k.standing j.standing
  pub firm : Firm k j
  pub count : y.count ≡ x.count
  pub caches : CachesStored x y b (Some (header_name i))
  pub idle : j.updating ≡ false

put_beside : (x : Seen) (k : Kept) (y : Seen) (j : Kept) (b : ℕ) (i : Ino) → PutsHeader x k y j b i → Beside (λ c. c ≡ b) x k y j
put_beside x k y j b i h = record {
  count = h.count;
  words = same_outside_one (λ c. c ≡ b) b x.words y.words refl h.others;
  standing = same_outside_one (λ c. c ≡ b) b k.standing j.standing refl h.standing;
  firm = firm_outside_all (λ c. c ≡ b) k j h.firm;
  caches = caches_by_stored (λ c name. c ≡ b) x y b (Some (header_name i)) h.caches refl (λ _. refl);
}

pub free_on : (shape : VolumeShape) (f g : BlockWords) (b : ℕ) → IsMapped shape f → Agrees (volume_layout shape f) f g → IsFree (volume_layout shape f) b → IsFree (volume_layout shape g) b
free_on shape f g b mapped agrees free =
    let same : SameLayout (volume_layout shape f) (volume_layout shape g) = lays_same (volume_layout shape f) g (lays_agree (volume_layout shape f) f g mapped.laid.shape_fits (lays_self shape f) agrees) in
    record { from = free.from; to = free.to; free = λ own. free.free (owned_back (volume_layout shape f) (volume_layout shape g) b same own) }

-- x and k are before the region is prepared, z and l when its blocks are taken, y and j after the store
pub put_leaves : (shape : VolumeShape) (x : Seen) (k : Kept) (z : Seen) (l : Kept) (y : Seen) (j : Kept) (b : ℕ) (i : Ino) → Ready shape x k → LeavesInUse (volume_layout shape x.words) x k z l → IsFree (volume_layout shape x.words) b → PutsHeader z l y j b i → LeavesInUse (volume_layout shape x.words) x k y j
put_leaves shape x k z l y j b i ready leaves free h =
    leaves_trans shape x k z l y j ready leaves
    (leaves_beside shape (λ c. c ≡ b) z l y j (ready_left shape x k z l ready leaves) (λ c e. subst (IsFree (volume_layout shape z.words)) (sym e) (free_on shape x.words z.words b ready.order.mapped leaves.words free)) (put_beside z l y j b i h) h.idle)

pub put_spares : (skip : List ℕ) (x : Seen) (k : Kept) (z : Seen) (l : Kept) (y : Seen) (j : Kept) (b : ℕ) (i : Ino) → (Contains skip b → ⊥) → Spares skip x k z l → PutsHeader z l y j b i → Spares skip x k y j
put_spares skip x k z l y j b i away s h = record {
  words = λ c w on. h.others.others c w (off c on) ∙ s.words c w on;
  loose = λ c on at. s.loose c on (h.firm.loose c at);
  named = λ c on at. (let now = h.caches.others c (off c on) at in let was = s.named c on now.0 in (was.0, now.1 ∙ was.1));
}
  where
    off : (c : ℕ) → Contains skip c → c ≢ b
    off c on e = away (subst (Contains skip) e on)

-- ---- what is taken for a region

-- the plan of a region of these sizes in inode i, which is free, over blocks f
pub record TakesRegion (shape : VolumeShape) (f : BlockWords) (y : Seen) (j : Kept) (i : ℕ) (given : Inode) (r : RegionSizes) (skip : List ℕ) (c : SizeChange) : Type 0 where
  pub plan : PlansSize shape f y j i given r.bytes skip c
  pub fit : FitRegion r
  pub mapped : IsMapped shape f
  pub free : inode_kind f i ≡ 0
  pub kind : given.kind ≡ 3
  pub size : given.size ≡ 0
  pub space : wanted_blocks given.size r.bytes ≤ length (free_beside shape f skip)

abbrev pub node_of : BlockWords → ℕ → Inode → RegionSizes → SizeChange → Placed
node_of f i given r c = planned_node f i given r.bytes c

own_none : (f : BlockWords) (i : ℕ) (s : Slot) → inode_kind f i ≡ 0 → HasSlot (placed_at f i) s → ⊥
own_none f i s free has = let used = has.used in omega (arith, used, free)

pub in_taken : (shape : VolumeShape) (f : BlockWords) (y : Seen) (j : Kept) (i : ℕ) (given : Inode) (r : RegionSizes) (skip : List ℕ) (c : SizeChange) → TakesRegion shape f y j i given r skip c → (s : Slot) → HasSlot (node_of f i given r c) s → Contains (numbers c.taken) ((node_of f i given r c).block s)
in_taken shape f y j i given r skip c h s has = elim (h.plan.turns.gains s has) [
  | inl own ↦ absurd (own_none f i own.0 h.free own.1)
  | inr taken ↦ taken
]

pub are_free : (shape : VolumeShape) (f : BlockWords) (y : Seen) (j : Kept) (i : ℕ) (given : Inode) (r : RegionSizes) (skip : List ℕ) (c : SizeChange) → TakesRegion shape f y j i given r skip c → (s : Slot) → HasSlot (node_of f i given r c) s → IsFree (volume_layout shape f) ((node_of f i given r c).block s)
are_free shape f y j i given r skip c h s has = elim (h.plan.from s has) [
  | inl own ↦ absurd (own_none f i own.0 h.free own.1)
  | inr free ↦ free
]

-- none of them is one to be skipped
pub are_beside : (shape : VolumeShape) (f : BlockWords) (y : Seen) (j : Kept) (i : ℕ) (given : Inode) (r : RegionSizes) (skip : List ℕ) (c : SizeChange) → TakesRegion shape f y j i given r skip c → (s : Slot) → HasSlot (node_of f i given r c) s → Contains skip ((node_of f i given r c).block s) → ⊥
are_beside shape f y j i given r skip c h s has on =
    let at = place_of (numbers c.taken) _ (in_taken shape f y j i given r skip c h s has) in
    let t = at.0 in
    let few : t < wanted_blocks given.size r.bytes = subst (λ n. t < n) h.plan.count at.1 in
    let out = (left_are_free shape f skip (wanted_blocks given.size r.bytes) (numbers c.taken) h.mapped h.plan.lowest h.space t few).1 in
    let hit = place_of skip _ on in
    true_false (sym (among_at skip hit.0 _ hit.1 (hit.2 ∙ sym at.2)) ∙ out)

-- page 0 is in the first of them
pub first_page : (shape : VolumeShape) (f : BlockWords) (y : Seen) (j : Kept) (i : ℕ) (given : Inode) (r : RegionSizes) (skip : List ℕ) (c : SizeChange) → TakesRegion shape f y j i given r skip c → HasSlot (node_of f i given r c) (AtPage 0)
first_page shape f y j i given r skip c h = record {
  used = (let kind = h.kind in omega (arith, kind));
  within = (let long = region_long r h.fit in omega (arith, long));
}

pub first_taken : (shape : VolumeShape) (f : BlockWords) (y : Seen) (j : Kept) (i : ℕ) (given : Inode) (r : RegionSizes) (skip : List ℕ) (c : SizeChange) → TakesRegion shape f y j i given r skip c → 0 < length (numbers c.taken)
first_taken shape f y j i given r skip c h = let on = in_taken shape f y j i given r skip c h (AtPage 0) (first_page shape f y j i given r skip c h) in let few = on.1 in omega (arith, few)

no_pages : (size : ℕ) → size ≡ 0 → pages size ≡ 0
no_pages size e = omega (arith, e)

pub first_block : (shape : VolumeShape) (f : BlockWords) (y : Seen) (j : Kept) (i : ℕ) (given : Inode) (r : RegionSizes) (skip : List ℕ) (c : SizeChange) → TakesRegion shape f y j i given r skip c → (node_of f i given r c).block (AtPage 0) ≡ slice_index (numbers c.taken) 0
first_block shape f y j i given r skip c h =
    let none = no_pages given.size h.size in
    page_new (record { kind = given.kind; size = given.size; block = (placed_at f i).block }) r.bytes 0 (numbers c.taken) (omega (arith, none)) ∙ ap (λ n. slice_index (numbers c.taken) (0 - n)) none

pub header_at : (shape : VolumeShape) (f : BlockWords) (y : Seen) (j : Kept) (i : ℕ) (given : Inode) (r : RegionSizes) (skip : List ℕ) (c : SizeChange) → TakesRegion shape f y j i given r skip c → (blocks : List Block) (d : Block) → blocks ≡ c.taken → (slice_index_or blocks 0 d).0 ≡ (node_of f i given r c).block (AtPage 0)
header_at shape f y j i given r skip c h blocks d is =
    let some : 0 < length c.taken = subst (λ n. 0 < n) (as_many c.taken) (first_taken shape f y j i given r skip c h) in
    number_at blocks 0 d (subst (λ (bs : List Block). 0 < length bs) (sym is) some) ∙ ap (λ (bs : List Block). slice_index (numbers bs) 0) is ∙ sym (first_block shape f y j i given r skip c h)

pub header_place : (shape : VolumeShape) (f : BlockWords) (y : Seen) (j : Kept) (i : ℕ) (given : Inode) (r : RegionSizes) (skip : List ℕ) (c : SizeChange) (b : ℕ) → TakesRegion shape f y j i given r skip c → b ≡ (node_of f i given r c).block (AtPage 0) → HasShape shape y → b < y.count
header_place shape f y j i given r skip c b h at has_shape =
    let within = h.plan.turns.new_fits.to (AtPage 0) (first_page shape f y j i given r skip c h) in
    let count = has_shape.count in
    omega (arith, within, count, at)

-- ---- the header's block may be asked for under its name

header_page : (i : Ino) (size : ℕ) → NamesPage i.0 size 0 (header_name i)
header_page i size = record { file = refl; index = refl; size_from = omega arith }

same_page : (i : Ino) (n : Placed) (own : Option PageName) → n.kind ≡ 3 → Bears i.0 n (AtPage 0) own → SamePage own (Some (header_name i))
same_page i n None kind bears = absurd (omega (arith, kind, bears))
same_page i n (Some own) kind bears = (ap (λ (m : ℕ). record { 0 = m }) bears.1.file, bears.1.index)

pub header_named : (shape : VolumeShape) (f : BlockWords) (y : Seen) (j : Kept) (i : Ino) (given : Inode) (r : RegionSizes) (skip : List ℕ) (c : SizeChange) (b : ℕ) → IsIno shape i.0 → TakesRegion shape f y j i.0 given r skip c → b ≡ (node_of f i.0 given r c).block (AtPage 0) → CanName y b (Some (header_name i))
header_named shape f y j i given r skip c b ino h at =
    let page = first_page shape f y j i.0 given r skip c h in
    record {
      in_range = (let from = ino.from in let to = ino.to in let most = h.mapped.laid.shape_fits.inodes_to in record { file_from = from; file_to = omega (arith, to, most); index = omega arith; size = omega arith });
      agrees = λ on. subst (λ d. SamePage (y.names d) (Some (header_name i))) (sym at) (same_page i (node_of f i.0 given r c) _ h.kind (h.plan.staged.named (AtPage 0) page (in_taken shape f y j i.0 given r skip c h (AtPage 0) page) (subst (λ d. y.cached d ≡ true) at on)));
    }

-- ---- words

run_word : (f : BlockWords) (b w : ℕ) (words : List ℕ) → w < 3 → put_run f b 0 3 words b w ≡ slice_index words w
run_word f b w words few = grind (arith, nat_tests, few)

run_rest : (f : BlockWords) (b w : ℕ) (words : List ℕ) → 3 ≤ w → put_run f b 0 3 words b w ≡ f b w
run_rest f b w words past = grind (arith, nat_tests, past)

-- the words of page 0
header_word : (f : BlockWords) (b w : ℕ) (r : RegionSizes) → ((x : ℕ) → f b x ≡ 0) → put_run f b 0 3 (header_words r) b w ≡ new_word r.undo_pages r.data_pages w
header_word f b zero r none = run_word f b 0 (header_words r) (omega arith)
header_word f b (suc zero) r none = run_word f b 1 (header_words r) (omega arith)
header_word f b (suc (suc zero)) r none = run_word f b 2 (header_words r) (omega arith)
header_word f b (suc (suc (suc w))) r none = run_rest f b (suc (suc (suc w))) (header_words r) (omega arith) ∙ none (suc (suc (suc w))) ∙ sym (new_zero r.undo_pages r.data_pages (suc (suc (suc w))) (omega arith))

pub holds_new : (shape : VolumeShape) (f : BlockWords) (z : Seen) (l : Kept) (g : BlockWords) (i : ℕ) (given : Inode) (r : RegionSizes) (skip : List ℕ) (c : SizeChange) (b : ℕ) → TakesRegion shape f z l i given r skip c → b ≡ (node_of f i given r c).block (AtPage 0) → g ≡ put_run z.words b 0 3 (header_words r) → held g (node_of f i given r c) ≡ new_held r.undo_pages r.data_pages
holds_new shape f z l g i given r skip c b h at is = same_held _ _ h.kind (ap (λ t. cond t r.bytes 0) used ∙ h.fit.bytes) (λ y. word y _ refl)
  where
    m : Placed
    m = node_of f i given r c

    used : nat_lt 0 m.kind ≡ true
    used = let kind = h.kind in grind (arith, nat_tests, kind)

    zeros : (p w : ℕ) → HasSlot m (AtPage p) → z.words (m.block (AtPage p)) w ≡ 0
    zeros p w has = h.plan.staged.zeros _ w (in_taken shape f z l i given r skip c h (AtPage p) has)

    here : (y p : ℕ) → HasSlot m (AtPage p) → p ≡ y / 512 → g (m.block (AtPage p)) (y % 512) ≡ new_word r.undo_pages r.data_pages y
    here y zero has e =
        let low : y % 512 ≡ y = omega (arith, e) in
        ap (λ (k : BlockWords). k (m.block (AtPage 0)) (y % 512)) is
        ∙ ap (λ d. put_run z.words b 0 3 (header_words r) d (y % 512)) (sym at)
        ∙ header_word z.words b (y % 512) r (λ x. ap (λ d. z.words d x) at ∙ zeros 0 x has)
        ∙ ap (new_word r.undo_pages r.data_pages) low
    here y (suc p) has e =
        ap (λ (k : BlockWords). k (m.block (AtPage (suc p))) (y % 512)) is
        ∙ (run_same_but z.words b 0 3 (header_words r)).others _ (y % 512) (λ same. (let one = page_page (suc p) 0 (h.plan.turns.new_fits.apart (AtPage (suc p)) (AtPage 0) has (first_page shape f z l i given r skip c h) (same ∙ at)) in omega (arith, one)))
        ∙ zeros (suc p) (y % 512) has
        ∙ sym (new_zero r.undo_pages r.data_pages y (omega (arith, e)))

    word : (y : ℕ) (t : Bool) → (nat_lt 0 m.kind && nat_lt (8 * y) m.size) ≡ t → cond t (g (m.block (AtPage (y / 512))) (y % 512)) 0 ≡ new_word r.undo_pages r.data_pages y
    word y true e = here y (y / 512) (page_counts m y e) refl
    word y false e = sym (new_zero r.undo_pages r.data_pages y (past (cases_lt (8 * y) r.bytes)))
      where
        past : ((8 * y < r.bytes) × (nat_lt (8 * y) r.bytes ≡ true)) ⊎ ((r.bytes ≤ 8 * y) × (nat_lt (8 * y) r.bytes ≡ false)) → 3 ≤ y
        past (inl low) = absurd (true_false (sym (counts_of m.kind r.bytes y (let kind = h.kind in omega (arith, kind)) low.0) ∙ e))
        past (inr high) = let long = region_long r h.fit in let over = high.0 in omega (arith, long, over)

-- ---- names

widened_page : (i : Ino) (n : Placed) (own : Option PageName) → n.kind ≡ 3 → Bears i.0 n (AtPage 0) own → Bears i.0 n (AtPage 0) (widened own (Some (header_name i)))
widened_page i n None kind bears = bears
widened_page i n (Some own) kind bears = (bears.0, record { file = bears.1.file; index = bears.1.index; size_from = (let wide = bears.1.size_from in omega (arith, wide)) })

pub named_new : (shape : VolumeShape) (f : BlockWords) (z : Seen) (l : Kept) (y : Seen) (i : Ino) (given : Inode) (r : RegionSizes) (skip : List ℕ) (c : SizeChange) (b : ℕ) → TakesRegion shape f z l i.0 given r skip c → b ≡ (node_of f i.0 given r c).block (AtPage 0) → CachesStored z y b (Some (header_name i)) → NamedNode i.0 (node_of f i.0 given r c) y
named_new shape f z l y i given r skip c b h at caches s has on = by (cases_eq (m.block s) b)
  where
    m : Placed
    m = node_of f i.0 given r c

    page : HasSlot m (AtPage 0)
    page = first_page shape f z l i.0 given r skip c h

    was : (t : Slot) → HasSlot m t → z.cached (m.block t) ≡ true → Bears i.0 m t (z.names (m.block t))
    was t own cached = h.plan.staged.named t own (in_taken shape f z l i.0 given r skip c h t own) cached

    first : y.cached (m.block (AtPage 0)) ≡ true → Bears i.0 m (AtPage 0) (y.names (m.block (AtPage 0)))
    first cached = subst (λ d. Bears i.0 m (AtPage 0) (y.names d)) at (at_first (caches.named (subst (λ d. y.cached d ≡ true) (sym at) cached)))
      where
        at_first : ((z.cached b ≡ true) × (y.names b ≡ z.names b)) ⊎ (y.names b ≡ Some (header_name i)) ⊎ ((z.cached b ≡ true) × (y.names b ≡ widened (z.names b) (Some (header_name i)))) → Bears i.0 m (AtPage 0) (y.names b)
        at_first (inl kept) = subst (Bears i.0 m (AtPage 0)) (sym kept.1) (subst (λ d. Bears i.0 m (AtPage 0) (z.names d)) (sym at) (was (AtPage 0) page (subst (λ d. z.cached d ≡ true) at kept.0)))
        at_first (inr (inl new)) = subst (Bears i.0 m (AtPage 0)) (sym new) ((λ one. (let kind = h.kind in omega (arith, kind, one))), header_page i m.size)
        at_first (inr (inr wide)) = subst (Bears i.0 m (AtPage 0)) (sym wide.1) (widened_page i m (z.names b) h.kind (subst (λ d. Bears i.0 m (AtPage 0) (z.names d)) (sym at) (was (AtPage 0) page (subst (λ d. z.cached d ≡ true) at wide.0))))

    by : (m.block s ≡ b) ⊎ (m.block s ≢ b) → Bears i.0 m s (y.names (m.block s))
    by (inl same) =
        let one = h.plan.turns.new_fits.apart s (AtPage 0) has page (same ∙ at) in
        subst (λ t. Bears i.0 m t (y.names (m.block t))) (sym one) (first (subst (λ t. y.cached (m.block t) ≡ true) one on))
    by (inr away) = let kept = caches.others _ away on in subst (Bears i.0 m s) (sym kept.1) (was s has kept.0)

-- ---- the whole

not_true : (a b : Bool) → (a ≡ true → b ≡ true) → b ≡ false → a ≡ false
not_true true b f e = sym (f refl) ∙ e
not_true false b f e = refl

table_apart : (m : Placed) (k : ℕ) → m.block (AtTable k) ≡ m.block (AtPage 0) → ((s t : Slot) → HasSlot m s → HasSlot m t → m.block s ≡ m.block t → s ≡ t) → HasSlot m (AtTable k) → HasSlot m (AtPage 0) → ⊥
table_apart m k same apart table page = table_page k 0 (apart (AtTable k) (AtPage 0) table page same)

pub plans_region : (shape : VolumeShape) (f : BlockWords) (z : Seen) (l : Kept) (y : Seen) (j : Kept) (i : Ino) (given : Inode) (r : RegionSizes) (skip : List ℕ) (c : SizeChange) (b : ℕ) (node : NodeChange) → TakesRegion shape f z l i.0 given r skip c → b ≡ (node_of f i.0 given r c).block (AtPage 0) → PutsHeader z l y j b i → y.words ≡ put_run z.words b 0 3 (header_words r) → node ≡ of_size i c → PlansRegion shape f y j i.0 r skip node
plans_region shape f z l y j i given r skip c b node h at puts words is = subst (PlansRegion shape f y j i.0 r skip) (sym is) (record {
  ino = refl;
  node = m;
  kind = h.kind;
  turns = h.plan.turns;
  from = are_free shape f z l i.0 given r skip c h;
  beside = are_beside shape f z l i.0 given r skip c h;
  lowest = (wanted_blocks given.size r.bytes, h.plan.lowest);
  tables = h.plan.tables;
  unnamed = λ k has on. (let now = puts.caches.others (m.block (AtTable k)) (λ same. table_apart m k (same ∙ at) h.plan.turns.new_fits.apart has page) on in now.1 ∙ h.plan.unnamed k has now.0);
  holds = holds_new shape f z l y.words i.0 given r skip c b h at words;
  firm = λ s has. not_true (j.loose (m.block s)) (l.loose (m.block s)) (puts.firm.loose (m.block s)) (h.plan.staged.firm _ (in_taken shape f z l i.0 given r skip c h s has));
  named = named_new shape f z l y i given r skip c b h at puts.caches;
})
  where
    m : Placed
    m = node_of f i.0 given r c

    page : HasSlot m (AtPage 0)
    page = first_page shape f z l i.0 given r skip c h

-- ---- how many blocks it wants, where it has none yet

pub less_wanted : (free wanted held : ℕ) → free < wanted - held → free < wanted
less_wanted free wanted held less = omega (arith, less)

pub all_wanted : (free wanted held : ℕ) → held ≡ 0 → wanted - held ≤ free → wanted ≤ free
all_wanted free wanted held none few = omega (arith, none, few)
