-- Several changes of nodes in one update: the blocks that are touched, the changes that are made one after the other, and
-- the blocks that are dropped.
use Rattle.request_ends.proofs.Common.{◌≡◌, ◌≢◌, ℕ, zero, suc, ◌+◌, ◌<◌, ◌≤◌, ◌⊎◌, Bool, inl, inr, true, false, List, [], ◌∷◌, length, map, drop, refl, sym, ap, subst, ◌∙◌, arith, slice_index_or, slice_index, None, Result, Ok, Err, IsErrOf, Contains, cases_eq, VolFail, Block, PageName, VolumeShape, CachesBy, FirmOutside, SameOutside, caches_by_trans, firm_outside_trans, BlockWords, Caches, Drops, Seen, inode_block, true_false, HasShape, Firm, Kept, numbers, Applied, IsEdited, Edit, as_many, number_at}
use Rattle.directories.specs.Plans.{InThreeBlocks}
use Rattle.std.specs.Prelude.{◌==◌, if◌then◌else◌, Option, IsErr}
use Rattle.std.proofs.lemmas.Bool.{eqb-true}
use Rattle.std.proofs.lemmas.List.{get_or_default, get_or-map}
use Rattle.std.proofs.Math.Seq.{drop-cons}
use Rattle.rio_base.specs.declared.failures.VolFail.TheVariants.{Fault, Stopped}
use Rattle.rio_base.proofs.BlockRules.{shape_dropped}
use Rattle.rio_base.proofs.BlockSets.{caches_by_drops, caches_by_one, caches_by_wider, firm_outside_all, firm_outside_refl, same_outside_refl}
use Rattle.rio_base.specs.Volume.{HasRoom, SameUpdate, Touches}
use Rattle.node_pages.specs.Updating.{IsTouched, IsUpdated}
use Rattle.node_pages.proofs.Listed.{listed}
use Rattle.node_pages.proofs.Updated.{touched_now, touched_still, unnamed_on, unnamed_kept}
use Rattle.node_updates.specs.Changes.{AllApplied, AllTouched, ChangeTouched, KeepsBlocks, CanMakeNode, CanCommit, IsFreed, IsTouchedBy, MakesFit, edited_blocks, change_update}
use Rattle.node_pages.specs.Changes.{node_update}
use Rattle.node_updates.specs.Committing.{Commits, Makes, Touched}
use Rattle.node_updates.specs.declared.changes.NodeChange.{NodeChange}

-- ---- blocks that are dropped

pub number_in : (bs : List Block) (t : ℕ) (d : Block) → t < length bs → Contains (numbers bs) (slice_index_or bs t d).0
number_in bs t d few = subst (Contains (numbers bs)) (sym (number_at bs t d few)) (listed (numbers bs) t (subst (λ n. t < n) (sym (as_many bs)) few))

pub number_place : (bs : List Block) (t n count : ℕ) (d : Block) → t < length bs → ((b : ℕ) → Contains (numbers bs) b → b < n) → count ≡ n → (slice_index_or bs t d).0 < count
number_place bs t n count d few within is = subst (λ (m : ℕ). (slice_index_or bs t d).0 < m) (sym is) (within _ (number_in bs t d few))

pub freed_in : (cs : List NodeChange) (c : NodeChange) (bs : List Block) (b : ℕ) → Contains cs c → bs ≡ c.freed → Contains (numbers bs) b → IsFreed cs b
freed_in cs c bs b on is h = (c, on, subst (λ xs. Contains (numbers xs) b) is h)

-- ---- edits of three blocks

pub edit_block : (es : List Edit) (t : ℕ) (d : Edit) → t < length es → (slice_index_or es t d).block.0 ≡ slice_index (edited_blocks es) t
edit_block es t d few = sym (get_or-map (λ (e : Edit). e.block.0) es t d 0 few)

edit_at : (es : List Edit) (t : ℕ) (d : Edit) → t < length es → Contains es (slice_index_or es t d)
edit_at es t d few = (t, few, get_or_default es t (slice_index_or es t d) d few)

pub edit_place : (es : List Edit) (t count : ℕ) (d : Edit) → t < length es → ((e : Edit) → Contains es e → e.block.0 < count) → (slice_index_or es t d).block.0 < count
edit_place es t count d few within = within _ (edit_at es t d few)

-- whether a block is touched, as a count
tells : Bool → ℕ
tells true = 1
tells false = 0

pub three_touched : (es : List Edit) → InThreeBlocks es → Kept → ℕ
three_touched es h k = tells (k.touched h.table) + tells (k.touched h.first) + tells (k.touched h.second)

tells_most : (t : Bool) → tells t ≤ 1
unfolding tells
tells_most true = omega arith
tells_most false = omega arith

tells_none : (t : Bool) → t ≡ false → tells t ≡ 0
unfolding tells
tells_none true e = cc
tells_none false e = refl

tells_one : (t : Bool) → t ≡ true → tells t ≡ 1
unfolding tells
tells_one true e = refl
tells_one false e = cc

tells_more : (s t : Bool) → (s ≡ true → t ≡ true) → tells s ≤ tells t
unfolding tells
tells_more true true h = omega arith
tells_more true false h = absurd (tells_no (h refl))
  where
    tells_no : false ≡ true → ⊥
    tells_no e = cc
tells_more false t h = omega arith

pub three_most : (es : List Edit) (h : InThreeBlocks es) (k : Kept) → three_touched es h k ≤ 3
unfolding three_touched
three_most es h k = omega (arith, tells_most (k.touched h.table), tells_most (k.touched h.first), tells_most (k.touched h.second))

three_more : (es : List Edit) (h : InThreeBlocks es) (k l : Kept) (b : ℕ) → Touches b k l → three_touched es h k ≤ three_touched es h l
unfolding three_touched
three_more es h k l b t = omega (arith, more h.table, more h.first, more h.second)
  where
    more : (c : ℕ) → tells (k.touched c) ≤ tells (l.touched c)
    more c = tells_more _ _ (touched_still b c k l t)

newly : (k l : Kept) (b c : ℕ) → Touches b k l → k.touched b ≡ false → b ≡ c → tells (k.touched c) + 1 ≤ tells (l.touched c)
newly k l b c t none e = let old : tells (k.touched c) ≡ 0 = tells_none _ (subst (λ x. k.touched x ≡ false) e none) in let new : tells (l.touched c) ≡ 1 = tells_one _ (subst (λ x. l.touched x ≡ true) e (touched_now b k l t)) in omega (arith, old, new)

three_newly : (es : List Edit) (h : InThreeBlocks es) (k l : Kept) (b : ℕ) → (b ≡ h.table) ⊎ (b ≡ h.first) ⊎ (b ≡ h.second) → Touches b k l → k.touched b ≡ false → three_touched es h k + 1 ≤ three_touched es h l
unfolding three_touched
three_newly es h k l b is t none = by is
  where
    more : (c : ℕ) → tells (k.touched c) ≤ tells (l.touched c)
    more c = tells_more _ _ (touched_still b c k l t)

    by : (b ≡ h.table) ⊎ (b ≡ h.first) ⊎ (b ≡ h.second) → tells (k.touched h.table) + tells (k.touched h.first) + tells (k.touched h.second) + 1 ≤ tells (l.touched h.table) + tells (l.touched h.first) + tells (l.touched h.second)
    by (inl e) = omega (arith, newly k l b _ t none e, more h.first, more h.second)
    by (inr (inl e)) = omega (arith, more h.table, newly k l b _ t none e, more h.second)
    by (inr (inr e)) = omega (arith, more h.table, more h.first, newly k l b _ t none e)

-- a touch counts one, where the block was not touched
bool_cases : (t : Bool) → (t ≡ true) ⊎ (t ≡ false)
bool_cases true = inl refl
bool_cases false = inr refl

count_same : (b : ℕ) (k l : Kept) → Touches b k l → k.touched b ≡ true → l.touches ≡ k.touches
count_same b k l t on = t.touches ∙ ap (λ o. if o then k.touches else k.touches + 1) on

count_more : (b : ℕ) (k l : Kept) → Touches b k l → k.touched b ≡ false → l.touches ≡ k.touches + 1
count_more b k l t none = t.touches ∙ ap (λ o. if o then k.touches else k.touches + 1) none

pub touches_most : (b : ℕ) (k l : Kept) → Touches b k l → l.touches ≤ k.touches + 1
touches_most b k l t = by (bool_cases (k.touched b))
  where
    by : (k.touched b ≡ true) ⊎ (k.touched b ≡ false) → l.touches ≤ k.touches + 1
    by (inl on) = omega (arith, count_same b k l t on)
    by (inr none) = omega (arith, count_more b k l t none)

pub touches_three : (es : List Edit) (h : InThreeBlocks es) (k l : Kept) (old b : ℕ) → (b ≡ h.table) ⊎ (b ≡ h.first) ⊎ (b ≡ h.second) → Touches b k l → k.touches ≤ old + three_touched es h k → l.touches ≤ old + three_touched es h l
touches_three es h k l old b is t most = by (bool_cases (k.touched b))
  where
    by : (k.touched b ≡ true) ⊎ (k.touched b ≡ false) → l.touches ≤ old + three_touched es h l
    by (inl on) = omega (arith, most, count_same b k l t on, three_more es h k l b t)
    by (inr none) = omega (arith, most, count_more b k l t none, three_newly es h k l b is t none)

pub three_room : (es : List Edit) (h : InThreeBlocks es) (k : Kept) (old b : ℕ) → (b ≡ h.table) ⊎ (b ≡ h.first) ⊎ (b ≡ h.second) → old ≤ 13 → k.touches ≤ old + three_touched es h k → HasRoom k b
unfolding three_touched
three_room es h k old b is room most = by (bool_cases (k.touched b))
  where
    none_at : (c : ℕ) → k.touched b ≡ false → b ≡ c → tells (k.touched c) ≡ 0
    none_at c none e = tells_none _ (subst (λ x. k.touched x ≡ false) e none)

    few : k.touched b ≡ false → (b ≡ h.table) ⊎ (b ≡ h.first) ⊎ (b ≡ h.second) → k.touches < 16
    few none (inl e) = omega (arith, room, most, none_at _ none e, tells_most (k.touched h.first), tells_most (k.touched h.second))
    few none (inr (inl e)) = omega (arith, room, most, none_at _ none e, tells_most (k.touched h.table), tells_most (k.touched h.second))
    few none (inr (inr e)) = omega (arith, room, most, none_at _ none e, tells_most (k.touched h.table), tells_most (k.touched h.first))

    by : (k.touched b ≡ true) ⊎ (k.touched b ≡ false) → HasRoom k b
    by (inl on) = inl on
    by (inr none) = inr (few none is)

-- ---- blocks of edits that are touched

touched_next : (k l : Kept) (bs : List ℕ) (t : ℕ) → ((s : ℕ) → s < t → k.touched (slice_index bs s) ≡ true) → ((b : ℕ) → k.touched b ≡ true → l.touched b ≡ true) → l.touched (slice_index bs t) ≡ true → (s : ℕ) → s < t + 1 → l.touched (slice_index bs s) ≡ true
touched_next k l bs t done more now s h = by (cases_eq s t)
  where
    by : (s ≡ t) ⊎ (s ≢ t) → l.touched (slice_index bs s) ≡ true
    by (inl e) = subst (λ n. l.touched (slice_index bs n) ≡ true) (sym e) now
    by (inr ne) = more _ (done s (omega (arith, h, ne)))

pub edits_next : (k l : Kept) (es : List Edit) (t : ℕ) (d : Edit) → t < length es → ((s : ℕ) → s < t → k.touched (slice_index (edited_blocks es) s) ≡ true) → Touches (slice_index_or es t d).block.0 k l → (s : ℕ) → s < t + 1 → l.touched (slice_index (edited_blocks es) s) ≡ true
edits_next k l es t d few done h = touched_next k l (edited_blocks es) t done (λ b was. touched_still _ b k l h was) (subst (λ b. l.touched b ≡ true) (edit_block es t d few) (touched_now _ k l h))

pub all_touched : (k : Kept) (es : List Edit) (t : ℕ) → length es ≤ t → ((s : ℕ) → s < t → k.touched (slice_index (edited_blocks es) s) ≡ true) → (e : Edit) → Contains es e → k.touched e.block.0 ≡ true
all_touched k es t end done e (s, few, is) = subst (λ b. k.touched b ≡ true) (sym (edit_block es s e few) ∙ ap (λ (x : Edit). x.block.0) is) (done s (omega (arith, few, end)))

-- ---- names of blocks that are touched

-- the block of an edit, which is cached without a name
abbrev TouchesEdit : List Edit → ℕ → Option PageName → Type 0
TouchesEdit es b name = IsEdited es b × (name ≡ None)

pub edits_unnamed : (es : List Edit) (x y : Seen) (b : ℕ) → CachesBy (TouchesEdit es) x y → (x.cached b ≡ true → x.names b ≡ None) → y.cached b ≡ true → y.names b ≡ None
edits_unnamed es x y b h was = unnamed_kept (TouchesEdit es) x y b (λ name e. e.1) h was

pub caches_edit : (es : List Edit) (t : ℕ) (d : Edit) (x y : Seen) → t < length es → Caches x y (slice_index_or es t d).block.0 None → CachesBy (TouchesEdit es) x y
caches_edit es t d x y few h = caches_by_one (TouchesEdit es) x y _ None h ((slice_index_or es t d, edit_at es t d few, refl), refl)

pub edit_was_unnamed : (es : List Edit) (t : ℕ) (d : Edit) (x : Seen) → t < length es → ((e : Edit) → Contains es e → x.cached e.block.0 ≡ true → x.names e.block.0 ≡ None) → x.cached (slice_index_or es t d).block.0 ≡ true → x.names (slice_index_or es t d).block.0 ≡ None
edit_was_unnamed es t d x few was on = was _ (edit_at es t d few) on

pub edit_in_three : (es : List Edit) (t : ℕ) (d : Edit) (h : InThreeBlocks es) → t < length es → ((slice_index_or es t d).block.0 ≡ h.table) ⊎ ((slice_index_or es t d).block.0 ≡ h.first) ⊎ ((slice_index_or es t d).block.0 ≡ h.second)
edit_in_three es t d h few = h.each _ (edit_at es t d few)

-- ---- changes that are made one after the other

pub caches_bitmap : (cs : List NodeChange) (x y : Seen) → Caches x y 1 None → CachesBy (IsTouchedBy cs) x y
caches_bitmap cs x y h = caches_by_one (IsTouchedBy cs) x y 1 None h (inl refl, refl)

pub touched_on : (cs : List NodeChange) (c : NodeChange) (k l : Kept) → Contains cs c → SameUpdate k l → AllTouched k cs → ChangeTouched l c
touched_on cs c k l on same all =
    let at : (b : ℕ) → k.touched b ≡ true → l.touched b ≡ true = λ b was. ap (λ (f : ℕ → Bool). f b) same.touched ∙ was in
    let was = all c on in
    record { bitmap = λ marks. at 1 (was.bitmap marks); inode = at _ was.inode; edited = λ e in_es. at _ (was.edited e in_es) }

-- a change whose lists the code has as slices
pub change_is_touched : (k : Kept) (c : NodeChange) (es : List Edit) → es ≡ c.edits → (KeepsBlocks c → ⊥) → ChangeTouched k c → IsTouched k c.ino.0 es
change_is_touched k c es is marks h = record { bitmap = h.bitmap marks; inode = h.inode; edited = λ e on. h.edited e (subst (λ xs. Contains xs e) is on) }

pub bitmap_dropped : (x y : Seen) → Drops x y → Caches x y 1 None
bitmap_dropped x y h = record { others = λ c away on. h.kept c on; named = λ on. inl (h.kept 1 on) }

-- ---- changes that take and free no block

pub no_blocks : (xs bs : List Block) → xs ≡ bs → (length xs == 0) ≡ true → bs ≡ []
no_blocks xs bs is none = sym is ∙ empty xs none
  where
    empty : (ys : List Block) → (length ys == 0) ≡ true → ys ≡ []
    empty [] e = refl
    empty (y ∷ ys) e = absurd (omega (arith, eqb-true (length (y ∷ ys)) 0 e))

pub some_blocks : (xs bs : List Block) → xs ≡ bs → (length xs == 0) ≡ false → bs ≡ [] → ⊥
some_blocks xs bs is some none = true_false (sym (ap (λ (ys : List Block). length ys == 0) (is ∙ none)) ∙ some)

pub keep_next : (cs : List NodeChange) (n : ℕ) (c : NodeChange) → n < length cs → c ≡ slice_index_or cs n c → KeepsBlocks c → ((t : ℕ) (d : NodeChange) → t < n → KeepsBlocks (slice_index_or cs t d)) → (t : ℕ) (d : NodeChange) → t < n + 1 → KeepsBlocks (slice_index_or cs t d)
keep_next cs n c few is now h t d less = elim (cases_eq t n) [
  | inl e ↦ subst KeepsBlocks (is ∙ get_or_default cs n c d few ∙ ap (λ m. slice_index_or cs m d) (sym e)) now
  | inr ne ↦ h t d (omega (arith, less, ne))
]

pub all_keep : (cs : List NodeChange) (n : ℕ) → length cs ≤ n → ((t : ℕ) (d : NodeChange) → t < n → KeepsBlocks (slice_index_or cs t d)) → (c : NodeChange) → Contains cs c → KeepsBlocks c
all_keep cs n end h c on = subst KeepsBlocks on.2 (h on.0 c (omega (arith, end, on.1)))

update_is : (c : NodeChange) (es : List Edit) (gained lost : List Block) → es ≡ c.edits → gained ≡ c.taken → lost ≡ c.freed → node_update c.ino.0 c.inode es gained lost ≡ change_update c
update_is c es gained lost e t f = ap (λ xs. node_update c.ino.0 c.inode xs gained lost) e ∙ ap (λ xs. node_update c.ino.0 c.inode c.edits xs lost) t ∙ ap (λ xs. node_update c.ino.0 c.inode c.edits c.taken xs) f

rest_is : (cs : List NodeChange) (c : NodeChange) (t : ℕ) → t < length cs → c ≡ slice_index_or cs t c → map change_update (drop t cs) ≡ change_update c ∷ map change_update (drop (t + 1) cs)
rest_is cs c t few is =
    let next : t + 1 ≡ suc t = omega arith in
    ap (map change_update) (drop-cons cs t c few) ∙ ap (λ x. change_update x ∷ map change_update (drop (suc t) cs)) (sym is) ∙ sym (ap (λ n. change_update c ∷ map change_update (drop n cs)) next)

-- the changes from the t-th on give what all of them give, and so do those behind it
pub made_next : (shape : VolumeShape) (cs : List NodeChange) (c : NodeChange) (t : ℕ) (es : List Edit) (gained lost : List Block) (f g h : BlockWords) → t < length cs → c ≡ slice_index_or cs t c → es ≡ c.edits → gained ≡ c.taken → lost ≡ c.freed → Applied shape (node_update c.ino.0 c.inode es gained lost) g h → ((z : BlockWords) → AllApplied shape (map change_update (drop t cs)) g z → AllApplied shape (map change_update cs) f z) → (z : BlockWords) → AllApplied shape (map change_update (drop (t + 1) cs)) h z → AllApplied shape (map change_update cs) f z
made_next shape cs c t es gained lost f g h few is e n l applied made z rest = made z (subst (λ us. AllApplied shape us g z) (sym (rest_is cs c t few is)) (h, subst (λ u. Applied shape u g h) (update_is c es gained lost e n l) applied, rest))

none_left : (cs : List NodeChange) (t : ℕ) → length cs ≤ t → drop t cs ≡ []
none_left [] zero h = refl
none_left [] (suc t) h = refl
none_left (c ∷ cs) zero h = absurd (omega (arith, h))
none_left (c ∷ cs) (suc t) h = none_left cs t (omega (arith, h))

pub all_made : (shape : VolumeShape) (cs : List NodeChange) (t : ℕ) (f g : BlockWords) → length cs ≤ t → ((z : BlockWords) → AllApplied shape (map change_update (drop t cs)) g z → AllApplied shape (map change_update cs) f z) → AllApplied shape (map change_update cs) f g
all_made shape cs t f g end made = made g (subst (λ xs. AllApplied shape (map change_update xs) g g) (sym (none_left cs t end)) refl)

-- ---- touching the blocks of one change

pub node_edits_fit : (shape : VolumeShape) (x y : Seen) (c : NodeChange) (es : List Edit) (b : ℕ) → HasShape shape x → y.count ≡ x.count → CanMakeNode shape x c → es ≡ c.edits → Caches x y b None → ((e : Edit) → Contains es e → e.block.0 < y.count) × ((e : Edit) → Contains es e → y.cached e.block.0 ≡ true → y.names e.block.0 ≡ None)
node_edits_fit shape x y c es b h count can is caches =
    let theirs : (e : Edit) → Contains es e → Contains c.edits e = λ e on. subst (λ xs. Contains xs e) is on in (
      λ e on. subst (λ n. e.block.0 < n) (sym (count ∙ h.count)) (can.fits.can.to e (theirs e on)),
      λ e on. unnamed_on x y b e.block.0 caches (can.unnamed e (theirs e on)),
    )

pub node_touched : (k l m : Kept) (c : NodeChange) (b : ℕ) (es : List Edit) → b ≡ inode_block c.ino.0 → es ≡ c.edits → ((KeepsBlocks c → ⊥) → k.touched 1 ≡ true) → Touches b k l → ((a : ℕ) → l.touched a ≡ true → m.touched a ≡ true) → ((e : Edit) → Contains es e → m.touched e.block.0 ≡ true) → ChangeTouched m c
node_touched k l m c b es is same bitmap t more done = record {
  bitmap = λ marks. more 1 (touched_still b 1 k l t (bitmap marks));
  inode = more _ (subst (λ a. l.touched a ≡ true) is (touched_now b k l t));
  edited = λ e on. done e (subst (λ xs. Contains xs e) (sym same) on);
}

-- ---- touching the blocks of all changes

pub caches_node : (cs : List NodeChange) (c : NodeChange) (x y : Seen) → Contains cs c → CachesBy (IsUpdated c.ino.0 c.edits) x y → CachesBy (IsTouchedBy cs) x y
caches_node cs c x y on h = caches_by_wider (IsUpdated c.ino.0 c.edits) (IsTouchedBy cs) x y (λ b name is. (at b is.0, is.1)) h
  where
    at : (b : ℕ) → (b ≡ 1) ⊎ (b ≡ inode_block c.ino.0) ⊎ IsEdited c.edits b → (b ≡ 1) ⊎ ((d : NodeChange) × Contains cs d × ((b ≡ inode_block d.ino.0) ⊎ ((e : Edit) × Contains d.edits e × (e.block.0 ≡ b))))
    at b (inl e) = inl e
    at b (inr (inl e)) = inr (c, on, inl e)
    at b (inr (inr e)) = inr (c, on, inr e)

touched_unnamed : (cs : List NodeChange) (x y : Seen) (b : ℕ) → CachesBy (IsTouchedBy cs) x y → (x.cached b ≡ true → x.names b ≡ None) → y.cached b ≡ true → y.names b ≡ None
touched_unnamed cs x y b h was = unnamed_kept (IsTouchedBy cs) x y b (λ name e. e.1) h was

pub can_make_on : (shape : VolumeShape) (cs : List NodeChange) (c : NodeChange) (x y : Seen) → CachesBy (IsTouchedBy cs) x y → CanMakeNode shape x c → CanMakeNode shape y c
can_make_on shape cs c x y h can = record {
  fits = can.fits;
  few = can.few;
  unnamed = λ e on. touched_unnamed cs x y e.block.0 h (can.unnamed e on);
}

pub shape_on : (shape : VolumeShape) (cs : List NodeChange) (x y : Seen) → HasShape shape x → y.count ≡ x.count → CachesBy (IsTouchedBy cs) x y → HasShape shape y
shape_on shape cs x y h count k = record { sizes = h.sizes; count = count ∙ h.count; unnamed = λ b low. touched_unnamed cs x y b k (h.unnamed b low) }

touched_later : (k l : Kept) (c : NodeChange) → ((b : ℕ) → k.touched b ≡ true → l.touched b ≡ true) → ChangeTouched k c → ChangeTouched l c
touched_later k l c more h = record { bitmap = λ marks. more 1 (h.bitmap marks); inode = more _ h.inode; edited = λ e on. more _ (h.edited e on) }

-- the first n changes are touched
pub record TouchedTo (k : Kept) (cs : List NodeChange) (n : ℕ) : Type 0 where
  pub each : (c : NodeChange) (t : ℕ) → t < n → t < length cs → slice_index_or cs t c ≡ c → ChangeTouched k c

pub touched_none : (k : Kept) (cs : List NodeChange) → TouchedTo k cs 0
touched_none k cs = record { each = λ c t h. absurd (omega (arith, h)) }

pub touched_to_next : (k l : Kept) (cs : List NodeChange) (n : ℕ) (c : NodeChange) → n < length cs → c ≡ slice_index_or cs n c → TouchedTo k cs n → ((b : ℕ) → k.touched b ≡ true → l.touched b ≡ true) → ChangeTouched l c → TouchedTo l cs (n + 1)
touched_to_next k l cs n c few is h more now = record { each = λ d t below within at. by d t below within at (cases_eq t n) }
  where
    by : (d : NodeChange) (t : ℕ) → t < n + 1 → t < length cs → slice_index_or cs t d ≡ d → (t ≡ n) ⊎ (t ≢ n) → ChangeTouched l d
    by d t below within at (inr ne) = touched_later k l _ more (h.each d t (omega (arith, below, ne)) within at)
    by d t below within at (inl e) =
        let same : c ≡ d = is ∙ get_or_default cs n c d few ∙ ap (λ m. slice_index_or cs m d) (sym e) ∙ at in
        subst (ChangeTouched l) same now

pub all_are_touched : (k : Kept) (cs : List NodeChange) (n : ℕ) → length cs ≤ n → TouchedTo k cs n → AllTouched k cs
all_are_touched k cs n end h = λ c on. h.each c on.0 (omega (arith, end, on.1)) on.1 on.2

-- ---- an update from its beginning to its end

pub can_on_drops : (shape : VolumeShape) (cs : List NodeChange) (x y : Seen) → Drops x y → CanCommit shape x cs → CanCommit shape y cs
can_on_drops shape cs x y drops can = record { few = can.few; each = λ c on. can_make_on shape cs c x y (caches_by_drops (IsTouchedBy cs) x y drops) (can.each c on) }

pub makes_fit : (shape : VolumeShape) (x : Seen) (cs : List NodeChange) → CanCommit shape x cs → (c : NodeChange) → Contains cs c → MakesFit shape c
makes_fit shape x cs can c on = (can.each c on).fits

pub freed_place : (shape : VolumeShape) (x y : Seen) (cs : List NodeChange) → CanCommit shape x cs → HasShape shape y → (b : ℕ) → IsFreed cs b → b < y.count
freed_place shape x y cs can h b (c, on, freed) = subst (λ n. b < n) (sym h.count) ((can.each c on).fits.can.freed b freed)

-- the changes stand, and then blocks that they free are dropped
pub makes_all : (shape : VolumeShape) (cs : List NodeChange) (f : BlockWords) (k j l : Kept) → AllApplied shape (map change_update cs) f j.standing → Firm k j → SameOutside (IsFreed cs) j.standing l.standing → FirmOutside (IsFreed cs) j l → Makes shape cs f k l
makes_all shape cs f k j l applied firm stands loose = record {
  made = j.standing;
  applied = applied;
  stands = stands;
  firm = firm_outside_trans _ _ _ _ (firm_outside_all (IsFreed cs) k j firm) loose;
}

pub makes_now : (shape : VolumeShape) (cs : List NodeChange) (f : BlockWords) (k l : Kept) → AllApplied shape (map change_update cs) f l.standing → Firm k l → Makes shape cs f k l
makes_now shape cs f k l applied firm = makes_all shape cs f k l l applied firm (same_outside_refl _ _) (firm_outside_refl _ _)

pub stopped_so : (shape : VolumeShape) (cs : List NodeChange) (f : BlockWords) (k l : Kept) → (l.standing ≡ k.standing) ⊎ AllApplied shape (map change_update cs) f l.standing → Firm k l → ((l.standing ≡ k.standing) × Firm k l) ⊎ Makes shape cs f k l
stopped_so shape cs f k l (inl same) firm = inl (same, firm)
stopped_so shape cs f k l (inr applied) firm = inr (makes_now shape cs f k l applied firm)

pub touched_then : (shape : VolumeShape) (cs : List NodeChange) (x y z : Seen) → HasShape shape y → CachesBy (IsTouchedBy cs) x y → z.count ≡ y.count → Drops y z → Touched shape cs x z
touched_then shape cs x y z h caches count drops = record {
  has_shape = shape_dropped shape y z h count drops;
  caches = caches_by_trans _ x y z caches (caches_by_drops _ y z drops);
}

-- ---- how the whole ends

pub commits_failed : {T : Type 0} (shape : VolumeShape) (cs : List NodeChange) (y : Seen) (j : Kept) (z : Seen) (l : Kept) (r : Result T VolFail) → IsErr r → (IsErrOf r Fault → (l.updating ≡ false) × (z.words ≡ y.words) × (l.standing ≡ j.standing)) → (l.standing ≡ j.standing) ⊎ AllApplied shape (map change_update cs) y.words l.standing → Firm j l → Commits shape cs y j z l r
commits_failed shape cs y j z l (Ok x) err fault stopped firm = absurd (true_false (sym err))
commits_failed shape cs y j z l (Err Fault) err fault stopped firm = let f = fault refl in (f.1, f.2, firm, f.0)
commits_failed shape cs y j z l (Err Stopped) err fault stopped firm = stopped_so shape cs y.words j l stopped firm

makes_words : (shape : VolumeShape) (cs : List NodeChange) (f m : BlockWords) (k j l : Kept) → AllApplied shape (map change_update cs) f m → j.standing ≡ m → Firm k j → SameOutside (IsFreed cs) j.standing l.standing → FirmOutside (IsFreed cs) j l → Makes shape cs f k l
makes_words shape cs f m k j l applied is firm stands loose = makes_all shape cs f k j l (subst (λ g. AllApplied shape (map change_update cs) f g) (sym is) applied) firm stands loose

pub commits_stopped : {T : Type 0} (shape : VolumeShape) (cs : List NodeChange) (y : Seen) (k : Kept) (m : BlockWords) (j : Kept) (z : Seen) (l : Kept) (r : Result T VolFail) → IsErrOf r Stopped → AllApplied shape (map change_update cs) y.words m → j.standing ≡ m → Firm k j → SameOutside (IsFreed cs) j.standing l.standing → FirmOutside (IsFreed cs) j l → Commits shape cs y k z l r
commits_stopped shape cs y k m j z l r err applied is firm stands loose = subst (Commits shape cs y k z l) (sym err) (inr (makes_words shape cs y.words m k j l applied is firm stands loose))

pub commits_done : {T : Type 0} (shape : VolumeShape) (cs : List NodeChange) (y : Seen) (k : Kept) (m : BlockWords) (j : Kept) (z : Seen) (l : Kept) (x : T) → AllApplied shape (map change_update cs) y.words m → j.standing ≡ m → Firm k j → SameOutside (IsFreed cs) j.standing l.standing → FirmOutside (IsFreed cs) j l → SameOutside (IsFreed cs) m z.words → l.updating ≡ false → Commits shape cs y k z l (Ok x)
unfolding makes_words makes_all
commits_done shape cs y k m j z l x applied is firm stands loose words idle = ((makes_words shape cs y.words m k j l applied is firm stands loose, subst (λ f. SameOutside (IsFreed cs) f z.words) (sym is) words), idle)
