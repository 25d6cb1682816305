-- A word of a region: the block and the name of its page, and what a call on that block leaves in order.
use Rattle.region_view.proofs.Common.{◌≡◌, ◌≢◌, ℕ, ◌+◌, ◌-◌, ◌*◌, ◌/◌, ◌%◌, ◌<◌, ◌≤◌, ◌==◌, ◌&&◌, ◌⊎◌, Bool, true, false, cond, List, length, Option, refl, sym, ap, subst, ◌∙◌, arith, inl, inr, nat_lt, cases_eq, nat_tests, PageName, VolumeShape, BlockWords, Caches, CanName, Health, Looks, SamePage, Seen, IsIno, put_words, reserved, Below, CachesStored, Firm, Kept, Passes, put, put_run, widened, Held, held_of, held_ino, Slot, AtPage, Placed, HasSlot, placed_at, Layout, volume_layout, Owns, SameLayout, inode_low, lays_same, lays_self, lies_self, Bears, NamesPage, Ready, IsMapped, run_same_but, Inode, IsInode, firm_on, ready_order}
use Rattle.std.proofs.Common.{slice_index, None, Some}
use Rattle.std.specs.Prelude.{Err, IfOk, Ok, Result, not}
use Rattle.rio_base.specs.declared.places.Block.{Block}
use Rattle.rio_base.proofs.BlockRules.{shape_beside_stored}
use Rattle.rio_base.specs.Rules.{firm_refl}
use Rattle.rio_base.specs.Regions.{OldOrPutWord, OldOrPutWords, put_word}
use Rattle.rio_base.specs.Volume.{OldOrPut, OldOrRun, SameBut}
use Rattle.rio_model.proofs.HeldRules.{page_counts}
use Rattle.rio_model.proofs.NodeChanges.{IsAt}
use Rattle.rio_model.specs.Placed.{AgreesBeside}
use Rattle.rio_model.proofs.PlacedRules.{direct_of, page_page}
use Rattle.rio_model.proofs.WordRules.{beside_page, held_at_old, held_beside, held_put, lays_beside, mapped_beside, put_beside_node, put_same_but}
use Rattle.node_pages.proofs.LookingUpRules.{named_on}
use Rattle.node_pages.proofs.OrderRules.{firm_layout}
use Rattle.node_pages.specs.LookingUp.{LooksUp}
use Rattle.rio_model.specs.VolumeReady.{AllNamed, Firmly}
use Rattle.rio_model.proofs.NamedRules.{named_layout}
use Rattle.region_view.specs.Views.{LooksWords, CanReadWords, IsWordName, IsWordPage}
use Rattle.rio_model.specs.RegionMoves.{RestHeld}
use Rattle.region_view.proofs.RegionParts.{put_none}
use Rattle.region_view.proofs.RegionHeader.{HasHeader, has_header, used_size}

-- ---- where a word lies

-- word `at` of region i has a page
pub page_owned : (shape : VolumeShape) (f : BlockWords) (i at : ℕ) → IsMapped shape f → (held_of shape f i).kind ≡ 3 → 8 * at < (held_of shape f i).size → Owns (volume_layout shape f) i (AtPage (at / 512))
page_owned shape f i at mapped region less =
    let h = has_header shape f i mapped region in
    let within : 8 * at < (placed_at f i).size = subst (λ n. 8 * at < n) (used_size shape f i h.ino h.page.used) less in
    record { ino = h.ino; slot = record { used = h.page.used; within = omega (arith, within) } }

pub word_page : (shape : VolumeShape) (f g : BlockWords) (i at b : ℕ) → IsMapped shape f → (held_of shape f i).kind ≡ 3 → 8 * at < (held_of shape f i).size → b ≡ (placed_at f i).block (AtPage (at / 512)) → g ≡ f → IsWordPage shape g i at b
word_page shape f g i at b mapped region less is same = subst (λ e. IsWordPage shape e i at b) (sym same) (record { kind = h.kind; own = page_owned shape f i at mapped region less; within = subst (λ n. 8 * at < n) (used_size shape f i h.ino h.page.used) less; block = is })
  where
    h : HasHeader shape f i
    h = has_header shape f i mapped region

pub word_pages : {E : Type 0} (r : Result Block E) (shape : VolumeShape) (f g : BlockWords) (i at : ℕ) → IsMapped shape f → (held_of shape f i).kind ≡ 3 → 8 * at < (held_of shape f i).size → g ≡ f → IfOk r (λ b. b.0 ≡ (placed_at f i).block (AtPage (at / 512))) → IfOk r (λ b. IsWordPage shape g i at b.0)
word_pages (Ok b) shape f g i at mapped region less same is = word_page shape f g i at b.0 mapped region less is same
word_pages (Err e) shape f g i at mapped region less same is = tt

-- the inode has the number of an early page
pub direct_page : (shape : VolumeShape) (f : BlockWords) (i at : ℕ) (n : Inode) → IsMapped shape f → (held_of shape f i).kind ≡ 3 → 8 * at < (held_of shape f i).size → IsInode f i n → at / 512 < 24 → IsWordPage shape f i at (slice_index n.direct (at / 512))
direct_page shape f i at n mapped region less is few = word_page shape f f i at _ mapped region less (is.direct (at / 512) few ∙ direct_of f i (placed_at f i) (at / 512) (lies_self f i) few (page_owned shape f i at mapped region less).slot) refl

-- it is one of the volume's
pub page_below : (shape : VolumeShape) (y : Seen) (i at b : ℕ) → CanReadWords shape y → IsWordPage shape y.words i at b → b < y.count
page_below shape y i at b can h = subst (λ n. b < n) (sym can.has_shape.count) (subst (λ c. c < shape.blocks) (sym h.block) (can.mapped.laid.numbers.each i h.own.ino (AtPage (at / 512)) h.own.slot).1)

-- ---- the name that it is asked for under

word_names : (i size at : ℕ) (name : PageName) → IsWordName i at name → NamesPage i size (at / 512) name
word_names i size at name is = record { file = is.file; index = is.index; size_from = (let wide = is.size in omega (arith, wide)) }

same_name : (i : ℕ) (n : Placed) (at : ℕ) (own : Option PageName) (name : PageName) → n.kind ≡ 3 → IsWordName i at name → Bears i n (AtPage (at / 512)) own → SamePage own (Some name)
same_name i n at None name kind is bears = absurd (omega (arith, kind, bears))
same_name i n at (Some own) name kind is bears = (ap (λ (m : ℕ). record { 0 = m }) (bears.1.file ∙ sym is.file), bears.1.index ∙ sym is.index)

pub can_name : (shape : VolumeShape) (y : Seen) (i at b : ℕ) (name : PageName) → CanReadWords shape y → IsWordPage shape y.words i at b → IsWordName i at name → CanName y b (Some name)
can_name shape y i at b name can h is = record {
  in_range = (let from = h.own.ino.from in let to = h.own.ino.to in let most = can.mapped.laid.shape_fits.inodes_to in let file = is.file in let index = is.index in let size = is.size in let within = h.within in let largest = (can.mapped.laid.sizes.each i h.own.ino h.own.slot.used).most in record {
    file_from = omega (arith, from, file);
    file_to = omega (arith, to, most, file);
    index = omega (arith, index, within, largest);
    size = omega (arith, size);
  });
  agrees = λ on. subst (λ c. SamePage (y.names c) (Some name)) (sym h.block) (same_name i (placed_at y.words i) at _ name h.kind is (can.named.each i h.own.ino (AtPage (at / 512)) h.own.slot (subst (λ c. y.cached c ≡ true) h.block on)));
}

-- ---- what a call on it leaves in order

-- pages of region i alone differ, and the volume is ready
pub record PageDone (shape : VolumeShape) (x y : Seen) (j : Kept) (i : ℕ) : Type 0 where
  pub beside : AgreesBeside (volume_layout shape x.words) i x.words y.words
  pub ready : Ready shape y j

widened_bears : (i : ℕ) (n : Placed) (p : ℕ) (own : Option PageName) (given : PageName) → n.kind ≡ 3 → Bears i n (AtPage p) own → Bears i n (AtPage p) (widened own (Some given))
widened_bears i n p None given kind h = absurd (omega (arith, kind, h))
widened_bears i n p (Some own) given kind h = (h.0, record { file = h.1.file; index = h.1.index; size_from = (let s = h.1.size_from in omega (arith, s)) })

pub page_done : (shape : VolumeShape) (x : Seen) (k : Kept) (y : Seen) (j : Kept) (i at b : ℕ) (given : PageName) → Ready shape x k → IsWordPage shape x.words i at b → IsWordName i at given → y.count ≡ x.count → SameBut b x.words y.words → Firm k j → CachesStored x y b (Some given) → j.updating ≡ false → PageDone shape x y j i
page_done shape x k y j i at b given h on name count same firm caches idle = record {
  beside = beside;
  ready = ready_order shape y j (record {
    has_shape = shape_beside_stored shape x y b (Some given) h.order.has_shape count (subst (λ c. reserved shape ≤ c) (sym on.block) (h.order.mapped.laid.numbers.each i on.own.ino (AtPage p) on.own.slot).0) caches;
    mapped = mapped_beside shape i x.words y.words h.order.mapped beside;
    named = named_layout l y.words y layouts (record { each = λ n ino s has cached. by n ino s has cached (cases_eq ((l.node n).block s) b) });
    firm = firm_layout l y.words j layouts (firm_on l k j h.order.firm firm);
  }) idle;
}
  where
    l : Layout
    l = volume_layout shape x.words

    p : ℕ
    p = at / 512

    beside : AgreesBeside l i x.words y.words
    beside = beside_page l i p x.words y.words h.order.mapped.laid on.own (subst (λ c. SameBut c x.words y.words) on.block same)

    layouts : SameLayout l (volume_layout shape y.words)
    layouts = lays_same l y.words (lays_beside l i x.words y.words h.order.mapped.laid (lays_self shape x.words) beside)

    was_named : x.cached b ≡ true → Bears i (l.node i) (AtPage p) (x.names b)
    was_named cached = subst (λ c. Bears i (l.node i) (AtPage p) (x.names c)) (sym on.block) (h.order.named.each i on.own.ino (AtPage p) on.own.slot (subst (λ c. x.cached c ≡ true) on.block cached))

    now_named : ((x.cached b ≡ true) × (y.names b ≡ x.names b)) ⊎ (y.names b ≡ Some given) ⊎ ((x.cached b ≡ true) × (y.names b ≡ widened (x.names b) (Some given))) → Bears i (l.node i) (AtPage p) (y.names b)
    now_named (inl kept) = subst (Bears i (l.node i) (AtPage p)) (sym kept.1) (was_named kept.0)
    now_named (inr (inl new)) = subst (Bears i (l.node i) (AtPage p)) (sym new) ((λ dir. (let kind = on.kind in omega (arith, kind, dir))), word_names i (l.node i).size at given name)
    now_named (inr (inr wider)) = subst (Bears i (l.node i) (AtPage p)) (sym wider.1) (widened_bears i (l.node i) p (x.names b) given on.kind (was_named wider.0))

    by : (n : ℕ) (ino : IsIno shape n) (s : Slot) (has : HasSlot (l.node n) s) → y.cached ((l.node n).block s) ≡ true → (((l.node n).block s ≡ b) ⊎ ((l.node n).block s ≢ b)) → Bears n (l.node n) s (y.names ((l.node n).block s))
    by n ino s has cached (inr away) = let was = caches.others _ away cached in subst (Bears n (l.node n) s) (sym was.1) (h.order.named.each n ino s has was.0)
    by n ino s has cached (inl here) =
        let one = h.order.mapped.laid.once.each i n (AtPage p) s on.own (record { ino = ino; slot = has }) (sym (here ∙ on.block)) in
        let bears : Bears i (l.node i) (AtPage p) (y.names b) = now_named (caches.named (subst (λ c. y.cached c ≡ true) here cached)) in
        subst (λ c. Bears n (l.node n) s (y.names c)) (sym here) (subst (λ t. Bears n (l.node n) t (y.names b)) one.1 (subst (λ z. Bears z (l.node z) (AtPage p) (y.names b)) one.0 bears))

-- a page read under a name is as one stored to
pub stored_read : (x y : Seen) (b : ℕ) (name : Option PageName) → Caches x y b name → CachesStored x y b name
stored_read x y b name h = record { others = h.others; named = λ on. elim (h.named on) [ inl kept ↦ inl kept | inr is ↦ inr (inl is) ] }

-- a volume that is ready can be read
pub reads_ready : (shape : VolumeShape) (x : Seen) (k : Kept) → Ready shape x k → CanReadWords shape x
reads_ready shape x k h = record { has_shape = h.order.has_shape; mapped = h.order.mapped; named = h.order.named }

-- and one that was only read since is ready still
pub ready_read : (shape : VolumeShape) (s t : Health) (o n : Below) (x y : Seen) (k j : Kept) → Ready shape x k → CanReadWords shape y → y.words ≡ x.words → Passes s o k t n j → Ready shape y j
ready_read shape s t o n x y k j h can same passes = ready_order shape y j (record {
  has_shape = can.has_shape;
  mapped = can.mapped;
  named = can.named;
  firm = subst (λ f. Firmly (volume_layout shape f) j) (sym same) (firm_on (volume_layout shape x.words) k j h.order.firm passes.firm);
}) (passes.updating ∙ h.idle)

-- it can be read after block numbers were looked up
pub can_looked : (shape : VolumeShape) (x y : Seen) → CanReadWords shape x → LooksUp shape x y → CanReadWords shape y
can_looked shape x y h looks = record {
  has_shape = looks.still.has_shape;
  mapped = subst (IsMapped shape) (sym looks.looks.words) h.mapped;
  named = subst (λ f. AllNamed (volume_layout shape f) y) (sym looks.looks.words) (named_on shape x y h.mapped h.named looks);
}

pub words_refl : (shape : VolumeShape) (x : Seen) → CanReadWords shape x → LooksWords shape x x
words_refl shape x can = record { words = refl; can = can }

pub words_trans : (shape : VolumeShape) (x y z : Seen) → LooksWords shape x y → LooksWords shape y z → LooksWords shape x z
words_trans shape x y z h k = record { words = k.words ∙ h.words; can = k.can }

-- nothing is loose, and no update is open
stands_still : Seen → Kept
stands_still x = record { standing = x.words; loose = λ b. false; updating = false; touched = λ b. false; touches = 0 }

still_ready : (shape : VolumeShape) (x : Seen) → CanReadWords shape x → Ready shape x (stands_still x)
unfolding stands_still
still_ready shape x h = ready_order shape x (stands_still x) (record { has_shape = h.has_shape; mapped = h.mapped; named = h.named; firm = record { low = λ b less. refl; owned = λ n s own. refl } }) refl

-- and after a page of a region was read
pub can_page : (shape : VolumeShape) (x y : Seen) (i at b : ℕ) (given : PageName) → CanReadWords shape x → IsWordPage shape x.words i at b → IsWordName i at given → Looks x y → Caches x y b (Some given) → CanReadWords shape y
unfolding stands_still
can_page shape x y i at b given h on name looks caches =
    reads_ready shape y (stands_still x) (page_done shape x (stands_still x) y (stands_still x) i at b given (still_ready shape x h) on name looks.count (record { others = λ c w away. ap (λ (f : BlockWords). f c w) looks.words }) (firm_refl (stands_still x)) (stored_read x y b (Some given) caches) refl).ready

-- no other node holds anything else
pub rest_held : (shape : VolumeShape) (i : ℕ) (f g : BlockWords) → IsMapped shape f → IsIno shape i → AgreesBeside (volume_layout shape f) i f g → RestHeld shape i f g
rest_held shape i f g mapped ino beside =
    let now = held_at_old shape i f g mapped ino beside in
    let was = held_ino (volume_layout shape f) f i ino in
    record {
      others = λ j away. held_beside shape i f g mapped beside j away;
      kind = ap (λ (h : Held). h.kind) now ∙ sym (ap (λ (h : Held). h.kind) was);
      size = ap (λ (h : Held). h.size) now ∙ sym (ap (λ (h : Held). h.size) was);
      inode = λ w few. beside.low _ _ (inode_low shape i mapped.laid.shape_fits ino);
    }

is_at : (shape : VolumeShape) (f : BlockWords) (i at b w : ℕ) → IsWordPage shape f i at b → w ≡ at % 512 → IsAt (volume_layout shape f) i at b w
is_at shape f i at b w h place = record { page = h.own; block = sym h.block; word = sym place }

pub word_put : (shape : VolumeShape) (f : BlockWords) (i at b w v : ℕ) → IsMapped shape f → IsWordPage shape f i at b → w ≡ at % 512 → (held_of shape (put f b w v) i).word ≡ put_word (held_of shape f i).word at v
word_put shape f i at b w v mapped h place =
    let l = volume_layout shape f in
    ap (λ (k : Held). k.word) (held_at_old shape i f (put f b w v) mapped h.own.ino (put_beside_node l f i at b w v mapped.laid (is_at shape f i at b w h place)) ∙ held_put l f i at b w v mapped.laid (is_at shape f i at b w h place) h.within)
    ∙ ap (λ (k : Held). put_word k.word at v) (sym (held_ino l f i h.own.ino))

-- a word of the same page, in the run or not
in_page : (f : ℕ → ℕ) (w n x at z : ℕ) (words : List ℕ) → z + w ≡ x + at → cond (not (nat_lt x w) && nat_lt x (w + n)) (slice_index words (x - w)) (f x) ≡ cond (not (nat_lt z at) && nat_lt z (at + n)) (slice_index words (z - at)) (f x)
in_page f w n x at z words e =
    let from : nat_lt x w ≡ nat_lt z at = grind (arith, nat_tests, e) in
    let to : nat_lt x (w + n) ≡ nat_lt z (at + n) = grind (arith, nat_tests, e) in
    let place : x - w ≡ z - at = omega (arith, e) in
    ap (λ t. cond (not t && nat_lt x (w + n)) (slice_index words (x - w)) (f x)) from
    ∙ ap (λ t. cond (not (nat_lt z at) && t) (slice_index words (x - w)) (f x)) to
    ∙ ap (λ k. cond (not (nat_lt z at) && nat_lt z (at + n)) (slice_index words k) (f x)) place

-- a word that is in no run
out_of : (at n z v : ℕ) (words : List ℕ) → (z < at) ⊎ (at + n ≤ z) → cond (not (nat_lt z at) && nat_lt z (at + n)) (slice_index words (z - at)) v ≡ v
out_of at n z v words out =
    let none : (not (nat_lt z at) && nat_lt z (at + n)) ≡ false = grind (arith, nat_tests, out) in
    ap (λ t. cond t (slice_index words (z - at)) v) none

-- so many words of a run, put in the page that word `at` lies in
run_at : (f : BlockWords) (n : Placed) (i at b w m z : ℕ) (words : List ℕ) (t : Bool) → (nat_lt 0 n.kind && nat_lt (8 * z) n.size) ≡ t → 0 < n.kind → ((p : ℕ) → HasSlot n (AtPage p) → n.block (AtPage p) ≡ b → p ≡ at / 512) → n.block (AtPage (at / 512)) ≡ b → w ≡ at % 512 → w + m ≤ 512 → 8 * (at + m) ≤ n.size → cond t (put_run f b w m words (n.block (AtPage (z / 512))) (z % 512)) 0 ≡ put_words (λ y. cond (nat_lt 0 n.kind && nat_lt (8 * y) n.size) (f (n.block (AtPage (y / 512))) (y % 512)) 0) at m words z
run_at f n i at b w m z words false e used once is place within most =
    let past : (z < at) ⊎ (at + m ≤ z) = grind (arith, nat_tests, e, used, most) in
    sym (out_of at m z _ words past ∙ ap (λ t. cond t (f (n.block (AtPage (z / 512))) (z % 512)) 0) e)
run_at f n i at b w m z words true e used once is place within most = elim (cases_eq (n.block (AtPage (z / 512))) b) [
  | inr away ↦
      let page : z / 512 ≢ at / 512 = λ same. away (ap (λ p. n.block (AtPage p)) same ∙ is) in
      let past : (z < at) ⊎ (at + m ≤ z) = grind (arith, page, place, within) in
      (run_same_but f b w m words).others _ (z % 512) away ∙ sym (out_of at m z _ words past ∙ ap (λ t. cond t (f (n.block (AtPage (z / 512))) (z % 512)) 0) e)
  | inl here ↦
      let page : z / 512 ≡ at / 512 = once (z / 512) (page_counts n z e) here in
      let inside : (n.block (AtPage (z / 512)) == b) ≡ true = grind (arith, nat_tests, here) in
      ap (λ t. cond (t && (not (nat_lt (z % 512) w) && nat_lt (z % 512) (w + m))) (slice_index words (z % 512 - w)) (f (n.block (AtPage (z / 512))) (z % 512))) inside
      ∙ in_page (f (n.block (AtPage (z / 512)))) w m (z % 512) at z words (omega (arith, page, place))
      ∙ ap (λ v. cond (not (nat_lt z at) && nat_lt z (at + m)) (slice_index words (z - at)) v) (sym (ap (λ t. cond t (f (n.block (AtPage (z / 512))) (z % 512)) 0) e))
]

pub run_put : (shape : VolumeShape) (f : BlockWords) (i at b w m : ℕ) (words : List ℕ) → IsMapped shape f → IsWordPage shape f i at b → w ≡ at % 512 → w + m ≤ 512 → 8 * (at + m) ≤ (held_of shape f i).size → (held_of shape (put_run f b w m words) i).word ≡ put_words (held_of shape f i).word at m words
run_put shape f i at b w m words mapped h place within most =
    let l = volume_layout shape f in
    let beside = beside_page l i (at / 512) f (put_run f b w m words) mapped.laid h.own (subst (λ c. SameBut c f (put_run f b w m words)) h.block (run_same_but f b w m words)) in
    let size : 8 * (at + m) ≤ (placed_at f i).size = subst (λ s. 8 * (at + m) ≤ s) (used_size shape f i h.own.ino h.own.slot.used) most in
    ap (λ (k : Held). k.word) (held_at_old shape i f (put_run f b w m words) mapped h.own.ino beside)
    ∙ (λ j z. run_at f (placed_at f i) i at b w m z words _ refl h.own.slot.used (once l) (sym h.block) place within size j)
    ∙ ap (λ (k : Held). put_words k.word at m words) (sym (held_ino l f i h.own.ino))
  where
    once : (l : Layout) → (p : ℕ) → HasSlot (placed_at f i) (AtPage p) → (placed_at f i).block (AtPage p) ≡ b → p ≡ at / 512
    once l p has same = page_page p (at / 512) (mapped.laid.once.each i i (AtPage p) (AtPage (at / 512)) (record { ino = h.own.ino; slot = has }) h.own (same ∙ h.block)).1

-- ---- what a store leaves, by what the region held at first

pub one_put : (shape : VolumeShape) (f g : BlockWords) (y : Seen) (i at b w v : ℕ) → CanReadWords shape y → IsWordPage shape y.words i at b → w ≡ at % 512 → y.words ≡ f → g ≡ put y.words b w v → (held_of shape g i).word ≡ put_word (held_of shape f i).word at v
one_put shape f g y i at b w v can on place same is =
    ap (λ e. (held_of shape e i).word) is
    ∙ word_put shape y.words i at b w v can.mapped on place
    ∙ ap (λ e. put_word (held_of shape e i).word at v) same

pub one_either : (shape : VolumeShape) (f g : BlockWords) (y : Seen) (i at b w v : ℕ) → CanReadWords shape y → IsWordPage shape y.words i at b → w ≡ at % 512 → y.words ≡ f → OldOrPut y.words g b w v → OldOrPutWord (held_of shape f i).word (held_of shape g i).word at v
one_either shape f g y i at b w v can on place same (inl old) = inl (ap (λ e. (held_of shape e i).word) (old ∙ same))
one_either shape f g y i at b w v can on place same (inr new) = inr (one_put shape f g y i at b w v can on place same new)

pub one_same_but : (f g : BlockWords) (b w v : ℕ) → OldOrPut f g b w v → SameBut b f g
one_same_but f g b w v (inl old) = record { others = λ c x away. ap (λ (h : BlockWords). h c x) old }
one_same_but f g b w v (inr new) = subst (SameBut b f) (sym new) (put_same_but f b w v)

pub many_put : (shape : VolumeShape) (f g : BlockWords) (y : Seen) (i at b w m len : ℕ) (words : List ℕ) → CanReadWords shape y → IsWordPage shape y.words i at b → w ≡ at % 512 → m ≤ len → w + len ≤ 512 → 8 * (at + len) ≤ (held_of shape f i).size → y.words ≡ f → g ≡ put_run y.words b w m words → (held_of shape g i).word ≡ put_words (held_of shape f i).word at m words
many_put shape f g y i at b w m len words can on place few within most same is =
    let size : 8 * (at + len) ≤ (held_of shape y.words i).size = subst (λ e. 8 * (at + len) ≤ (held_of shape e i).size) (sym same) most in
    ap (λ e. (held_of shape e i).word) is
    ∙ run_put shape y.words i at b w m words can.mapped on place (omega (arith, few, within)) (omega (arith, few, size))
    ∙ ap (λ e. put_words (held_of shape e i).word at m words) same

pub many_front : (shape : VolumeShape) (f g : BlockWords) (y : Seen) (i at b w len : ℕ) (words : List ℕ) → CanReadWords shape y → IsWordPage shape y.words i at b → w ≡ at % 512 → w + len ≤ 512 → 8 * (at + len) ≤ (held_of shape f i).size → y.words ≡ f → OldOrRun y.words g b w words len → OldOrPutWords (held_of shape f i).word (held_of shape g i).word at words len
many_front shape f g y i at b w len words can on place within most same (m, few, is) = (m, few, many_put shape f g y i at b w m len words can on place few within most same is)

pub many_same_but : (f g : BlockWords) (b w len : ℕ) (words : List ℕ) → OldOrRun f g b w words len → SameBut b f g
many_same_but f g b w len words (m, few, is) = subst (SameBut b f) (sym is) (run_same_but f b w m words)

-- what is held beside the region, after a change of this page alone
pub rest_by : (shape : VolumeShape) (f g : BlockWords) (y : Seen) (i at b : ℕ) → CanReadWords shape y → IsWordPage shape y.words i at b → y.words ≡ f → SameBut b y.words g → RestHeld shape i f g
rest_by shape f g y i at b can on same but = subst (λ e. RestHeld shape i e g) same (rest_held shape i y.words g can.mapped on.own.ino (beside_page (volume_layout shape y.words) i (at / 512) y.words g can.mapped.laid on.own (subst (λ c. SameBut c y.words g) on.block but)))

-- nothing was stored
pub held_none : (shape : VolumeShape) (f g : BlockWords) (i at : ℕ) (words : List ℕ) → g ≡ f → OldOrPutWords (held_of shape f i).word (held_of shape g i).word at words (length words)
held_none shape f g i at words same = (0, omega arith, ap (λ e. (held_of shape e i).word) same ∙ put_none (held_of shape f i).word at words)

pub none_held : (shape : VolumeShape) (f g : BlockWords) (i at : ℕ) (words : List ℕ) → g ≡ f → (held_of shape g i).word ≡ put_words (held_of shape f i).word at 0 words
none_held shape f g i at words same = ap (λ e. (held_of shape e i).word) same ∙ put_none (held_of shape f i).word at words

pub still_word : (shape : VolumeShape) (f g : BlockWords) (i : ℕ) → g ≡ f → (held_of shape g i).word ≡ (held_of shape f i).word
still_word shape f g i same = ap (λ e. (held_of shape e i).word) same
