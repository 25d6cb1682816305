-- A view of the words of one region's file: where it stands, and what calls on it leave of all that is no word of the region.
use Rattle.std.proofs.Common.{◌≡◌, ℕ, ◌*◌, ◌/◌, ◌^◌, ◌<◌, ◌≤◌, true, cond, refl, sym, ap, subst, ◌∙◌, arith}
use Rattle.std.specs.Prelude.{nat_lt}
use Rattle.std.proofs.lemmas.Bool.Decides.{nat_tests}
use Rattle.rio_base.specs.declared.places.Ino.{Ino}
use Rattle.rio_base.specs.declared.places.PageName.{PageName}
use Rattle.rio_base.specs.declared.places.VolumeShape.{VolumeShape}
use Rattle.rio_base.specs.Blocks.{BlockWords, Seen}
use Rattle.rio_base.specs.Layout.{IsIno}
use Rattle.rio_base.specs.Shapes.{HasShape}
use Rattle.rio_base.specs.Volume.{Kept}
use Rattle.rio_base.specs.NodeKinds.{region_kind}
use Rattle.rio_model.specs.Held.{Held, held, held_ino, held_of}
use Rattle.rio_model.specs.Placed.{AtPage, Owns, placed_at, volume_layout}
use Rattle.rio_model.specs.RegionMoves.{RestHeld, rest_refl, rest_trans}
use Rattle.rio_model.specs.VolumeReady.{AllNamed, Ready}
use Rattle.rio_model.specs.VolumeRules.{IsMapped}
use Rattle.inode_table.specs.declared.inode.Inode.{Inode}
use Rattle.inode_table.specs.Inodes.{IsInode}

-- the words of regions can be read: the blocks keep the rules of a volume, and cached pages bear their names
pub record CanReadWords (shape : VolumeShape) (x : Seen) : Type 0 where
  pub has_shape : HasShape shape x
  pub mapped : IsMapped shape x.words
  pub named : AllNamed (volume_layout shape x.words) x

-- they were read: no word differs, and they can be read again
pub record LooksWords (shape : VolumeShape) (x y : Seen) : Type 0 where
  pub words : y.words ≡ x.words
  pub can : CanReadWords shape y

-- inode i is a region of so many words, and the volume is ready for a call that changes it
pub record OnRegion (shape : VolumeShape) (x : Seen) (k : Kept) (i words : ℕ) : Type 0 where
  pub ready : Ready shape x k
  pub ino : IsIno shape i
  pub region : (held_of shape x.words i).kind ≡ region_kind
  pub size : (held_of shape x.words i).size ≡ 8 * words

-- what a view keeps of the inode of region i is what the blocks say
abbrev pub KeepsInode : BlockWords → ℕ → Inode → Type 0
KeepsInode f i inode = IsInode f i inode

-- block b is the page of region i that has word `at`
pub record IsWordPage (shape : VolumeShape) (f : BlockWords) (i at b : ℕ) : Type 0 where
  pub kind : (placed_at f i).kind ≡ region_kind
  pub own : Owns (volume_layout shape f) i (AtPage (at / 512))
  pub within : 8 * at < (placed_at f i).size
  pub block : b ≡ (placed_at f i).block (AtPage (at / 512))

-- the name that this page is asked for under: a region has whole pages
pub record IsWordName (i at : ℕ) (name : PageName) : Type 0 where
  pub file : name.file.0 ≡ i
  pub index : name.index ≡ at / 512
  pub size : name.size ≡ 4096

-- one view and a later one: they stand on one region of one volume, and all else of it is held as before
pub record SameBeside (s : VolumeShape) (i : Ino) (m : ℕ) (f : BlockWords) (t : VolumeShape) (j : Ino) (n : ℕ) (g : BlockWords) : Type 0 where
  pub shape : t ≡ s
  pub ino : j ≡ i
  pub count : n ≡ m
  pub rest : RestHeld s i.0 f g

-- ---- laws

pub beside_refl : (s : VolumeShape) (i : Ino) (m : ℕ) (f : BlockWords) → SameBeside s i m f s i m f
beside_refl s i m f = record { shape = refl; ino = refl; count = refl; rest = rest_refl s i.0 f }

pub beside_trans : (s : VolumeShape) (i : Ino) (m : ℕ) (f : BlockWords) (t : VolumeShape) (j : Ino) (n : ℕ) (g : BlockWords) (u : VolumeShape) (k : Ino) (o : ℕ) (h : BlockWords) → SameBeside s i m f t j n g → SameBeside t j n g u k o h → SameBeside s i m f u k o h
beside_trans s i m f t j n g u k o h a b = record {
  shape = b.shape ∙ a.shape;
  ino = b.ino ∙ a.ino;
  count = b.count ∙ a.count;
  rest = rest_trans s i.0 f g h a.rest (subst (λ (q : Ino). RestHeld s q.0 g h) a.ino (subst (λ (q : VolumeShape). RestHeld q j.0 g h) a.shape b.rest));
}

-- a region has few words
pub few_words : (shape : VolumeShape) (x : Seen) (k : Kept) (i words : ℕ) → OnRegion shape x k i words → words < 2 ^ 32
few_words shape x k i words h =
    let f = x.words in
    let n = placed_at f i in
    let held_as : held_of shape f i ≡ held f n = held_ino (volume_layout shape f) f i h.ino in
    let kind : n.kind ≡ region_kind = sym (ap (λ (g : Held). g.kind) held_as) ∙ h.region in
    let used : 0 < n.kind = omega (arith, kind) in
    let test : nat_lt 0 n.kind ≡ true = grind (arith, nat_tests, used) in
    let size : n.size ≡ 8 * words = sym (ap (λ (g : Held). g.size) held_as ∙ ap (λ b. cond b n.size 0) test) ∙ h.size in
    let most : n.size ≤ 4292608 = (h.ready.order.mapped.laid.sizes.each i h.ino used).most in
    omega (arith, most, size)
