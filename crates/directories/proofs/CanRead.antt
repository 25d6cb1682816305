-- A directory that can be read, and stays so while it is.
use Rattle.rio_model.specs.VolumeReady.{LooksNamed}
use Rattle.rio_base.proofs.Frames.{read_more}
use Rattle.rio_base.specs.Frames.{HasRead}
use Rattle.directories.proofs.Common.{◌≡◌, ◌≢◌, ℕ, ◌/◌, ◌%◌, ◌*◌, ◌<◌, ◌≤◌, ◌⊎◌, ◌&&◌, Bool, cond, true, false, refl, sym, ap, subst, ◌∙◌, arith, inl, inr, None, Option, Some, cases_eq, nat_tests, PageName, VolumeShape, caches_by_one, BlockWords, Caches, Looks, Seen, IsIno, HasShape, reserved, Held, held, held_of, held_ino, AtPage, AtTable, HasSlot, Layout, Owns, placed_at, volume_layout, AllNamed, Bears, EntryRule, IsMapped, LooksUp, named_on, List, ◌+◌, nat_lt, Placed, slice_index}
use Rattle.std.specs.Prelude.{nat_le}
use Rattle.rio_base.proofs.BlockRules.{shape_beside}
use Rattle.rio_base.specs.Blocks.{CanName, SamePage, IsRun, Health}
use Rattle.rio_model.specs.Held.{nothing}
use Rattle.rio_model.proofs.PlacedRules.{numbered_of, table_page}
use Rattle.rio_model.specs.VolumeRules.{IsNumbered}
use Rattle.node_pages.specs.LookingUp.{CanLookUp, TablesUnnamed}
use Rattle.node_pages.proofs.LookingUpRules.{can_look_up}
use Rattle.directories.specs.Reading.{CanReadDir, CanReadRows}

pub can_look : (shape : VolumeShape) (x : Seen) (d : ℕ) → CanReadDir shape x d → CanLookUp shape x
can_look shape x d h = can_look_up shape x h.has_shape h.mapped h.named

pub can_stays : (shape : VolumeShape) (x y : Seen) (d : ℕ) → CanReadDir shape x d → LooksUp shape x y → CanReadDir shape y d
can_stays shape x y d h looks = record {
  has_shape = looks.still.has_shape;
  mapped = subst (IsMapped shape) (sym looks.looks.words) h.mapped;
  named = subst (λ f. AllNamed (volume_layout shape f) y) (sym looks.looks.words) (named_on shape x y h.mapped h.named looks);
  entries = subst (λ f. EntryRule (held_of shape f)) (sym looks.looks.words) h.entries;
  ino = h.ino;
  dir = subst (λ f. (placed_at f d).kind ≡ 1) (sym looks.looks.words) h.dir;
}

-- block numbers were looked up where all names are right: they still are
pub named_read : {V : Type 0} {seen : V → Seen} {health : V → Health} {sound : V → Type 0} {passes : V → V → Type 0} {shape : VolumeShape} {x y : V} {fault stop : Type 0} → IsMapped shape (seen x).words → AllNamed (volume_layout shape (seen x).words) (seen x) → HasRead seen health sound passes (LooksUp shape) x y fault stop → HasRead seen health sound passes (LooksNamed shape) x y fault stop
named_read {seen = seen} {shape = shape} {x = x} {y = y} mapped named h = read_more (record { looks = h.looks.looks; has_shape = h.looks.still.has_shape; named = named_on shape (seen x) (seen y) mapped named h.looks }) h

-- where one directory can be read, any can
pub rows_of : {shape : VolumeShape} {x : Seen} {d : ℕ} → CanReadDir shape x d → CanReadRows shape x
rows_of h = record { has_shape = h.has_shape; mapped = h.mapped; named = h.named; entries = h.entries }

-- what its pages may be asked for as
pub can_page : (shape : VolumeShape) (x : Seen) (d p b : ℕ) → CanReadDir shape x d → HasSlot (placed_at x.words d) (AtPage p) → b ≡ (placed_at x.words d).block (AtPage p) → CanName x b None
can_page shape x d p b h has at = record { in_range = tt; agrees = λ on. by (x.names b) (subst (λ c. Bears d (placed_at x.words d) (AtPage p) (x.names c)) (sym at) (h.named.each d h.ino (AtPage p) has (subst (λ c. x.cached c ≡ true) at on))) }
  where
    by : (name : Option PageName) → Bears d (placed_at x.words d) (AtPage p) name → SamePage name None
    by None bears = tt
    by (Some name) bears = absurd (bears.0 h.dir)

pub page_below : (shape : VolumeShape) (x : Seen) (d p b : ℕ) → CanReadDir shape x d → HasSlot (placed_at x.words d) (AtPage p) → b ≡ (placed_at x.words d).block (AtPage p) → b < x.count
page_below shape x d p b h has at = let to = (h.mapped.laid.numbers.each d h.ino (AtPage p) has).1 in let count = h.has_shape.count in omega (arith, to, count, at)

-- a page read as metadata
pub looked_page : (shape : VolumeShape) (x y : Seen) (d p b : ℕ) → CanReadDir shape x d → HasSlot (placed_at x.words d) (AtPage p) → b ≡ (placed_at x.words d).block (AtPage p) → Looks x y → Caches x y b None → LooksUp shape x y
looked_page shape x y d p b h has at looks caches = record {
  looks = looks;
  still = record {
    has_shape = shape_beside shape x y b None h.has_shape looks.count (subst (λ c. reserved shape ≤ c) (sym at) (h.mapped.laid.numbers.each d own.ino (AtPage p) own.slot).0) caches;
    numbered = subst (IsNumbered shape) (sym looks.words) (numbered_of shape x.words h.mapped);
    unnamed = subst (λ f. TablesUnnamed (volume_layout shape f) y) (sym looks.words) (record { each = λ n t owns on. by n t owns on (cases_eq ((l.node n).block (AtTable t)) b) });
  };
  caches = caches_by_one _ x y b None caches (inr (d, AtPage p, own, sym at, h.dir));
}
  where
    l : Layout
    l = volume_layout shape x.words

    own : Owns l d (AtPage p)
    own = record { ino = h.ino; slot = has }

    by : (n t : ℕ) → Owns l n (AtTable t) → y.cached ((l.node n).block (AtTable t)) ≡ true → (((l.node n).block (AtTable t) ≡ b) ⊎ ((l.node n).block (AtTable t) ≢ b)) → y.names ((l.node n).block (AtTable t)) ≡ None
    by n t owns on (inl here) = absurd (table_page t p (h.mapped.laid.once.each n d (AtTable t) (AtPage p) owns own (here ∙ at)).1)
    by n t owns on (inr away) = let was = caches.others _ away on in was.1 ∙ h.named.each n owns.ino (AtTable t) owns.slot was.0

-- what a directory's inode says
pub dir_size : (shape : VolumeShape) (x : Seen) (d : ℕ) → CanReadDir shape x d → (placed_at x.words d).size % 64 ≡ 0
dir_size shape x d h = (h.mapped.laid.sizes.each d h.ino (let k = h.dir in omega (arith, k))).directory h.dir

pub dir_held : (shape : VolumeShape) (x : Seen) (d : ℕ) → CanReadDir shape x d → held_of shape x.words d ≡ held x.words (placed_at x.words d)
dir_held shape x d h = held_ino (volume_layout shape x.words) x.words d h.ino

-- page p of a directory of this size
pub has_page : (shape : VolumeShape) (x : Seen) (d p size : ℕ) → CanReadDir shape x d → size ≡ (placed_at x.words d).size → 4096 * p < size → HasSlot (placed_at x.words d) (AtPage p)
has_page shape x d p size h is within = record { used = (let k = h.dir in omega (arith, k)); within = (omega (arith, is, within)) }

-- an inode that holds a directory is one
pub dir_ino : (shape : VolumeShape) (f : BlockWords) (i : ℕ) → (held_of shape f i).kind ≡ 1 → IsIno shape i
dir_ino shape f i kind = by (nat_le 1 i && nat_le i shape.inodes) refl kind
  where
    by : (t : Bool) → (nat_le 1 i && nat_le i shape.inodes) ≡ t → (cond t (held f (placed_at f i)) nothing).kind ≡ 1 → IsIno shape i
    by true test is = record { from = grind (arith, nat_tests, test); to = grind (arith, nat_tests, test) }
    by false test is = absurd (omega (arith, is))

pub can_read : (shape : VolumeShape) (x : Seen) (d : ℕ) → HasShape shape x → IsMapped shape x.words → AllNamed (volume_layout shape x.words) x → EntryRule (held_of shape x.words) → (held_of shape x.words d).kind ≡ 1 → CanReadDir shape x d
can_read shape x d h mapped named entries dir = record {
  has_shape = h;
  mapped = mapped;
  named = named;
  entries = entries;
  ino = ino;
  dir = ap (λ (k : Held). k.kind) (sym (held_ino (volume_layout shape x.words) x.words d ino)) ∙ dir;
}
  where
    ino : IsIno shape d
    ino = dir_ino shape x.words d dir

-- the page of an entry
pub has_slot : (shape : VolumeShape) (x : Seen) (d j size : ℕ) → CanReadDir shape x d → size ≡ (placed_at x.words d).size → 64 * j < size → HasSlot (placed_at x.words d) (AtPage (j / 64))
has_slot shape x d j size h is within = record { used = (let k = h.dir in omega (arith, k)); within = (omega (arith, is, within)) }

-- a slot is there as long as no word differs
pub page_on : (x y : Seen) (d p : ℕ) → y.words ≡ x.words → HasSlot (placed_at x.words d) (AtPage p) → HasSlot (placed_at y.words d) (AtPage p)
page_on x y d p same has = subst (λ (f : BlockWords). HasSlot (placed_at f d) (AtPage p)) (sym same) has

-- and its block is the one that it was
pub block_on : (x y : Seen) (d p b : ℕ) → y.words ≡ x.words → b ≡ (placed_at x.words d).block (AtPage p) → b ≡ (placed_at y.words d).block (AtPage p)
block_on x y d p b same at = at ∙ ap (λ (f : BlockWords). (placed_at f d).block (AtPage p)) (sym same)

-- ---- what is read of it

-- its size
pub sized : (f : BlockWords) (n : Placed) → 0 < n.kind → (held f n).size ≡ n.size
sized f n used = ap (λ t. cond t n.size 0) (let test : nat_lt 0 n.kind ≡ true = grind (arith, nat_tests, used) in test)

-- the words of an entry, as its block was read for them
pub words_read : (f g : BlockWords) (b own first at : ℕ) (words : List ℕ) → g ≡ f → b ≡ own → first ≡ at → IsRun g b first 8 words → (t : ℕ) → t < 8 → slice_index words t ≡ f own (at + t)
words_read f g b own first at words same is start run t small = run.each t small ∙ ap (λ (h : BlockWords). h b (first + t)) same ∙ ap (λ c. f c (first + t)) is ∙ ap (λ w. f own (w + t)) start
