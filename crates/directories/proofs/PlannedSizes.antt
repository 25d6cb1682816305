-- What a plan of a directory's size supposes.
use Rattle.directories.proofs.Common.{◌≡◌, ℕ, ◌%◌, ◌<◌, ◌≤◌, List, [], length, arith, ap, inl, ◌∙◌, VolumeShape, Seen, Inode, IsInode}
use Rattle.node_pages.specs.Changes.{Apart, PlansFor}
use Rattle.rio_model.specs.Sizes.{largest_size}
use Rattle.rio_model.specs.VolumeRules.{SizeFits}
use Rattle.directories.specs.Reading.{CanReadDir}

pub dir_kind : (shape : VolumeShape) (x : Seen) (d : ℕ) (inode : Inode) → CanReadDir shape x d → IsInode x.words d inode → inode.kind ≡ 1
dir_kind shape x d inode can is = is.kind ∙ can.dir

-- for the directory as it is
pub plans_dir_inode : (shape : VolumeShape) (x : Seen) (d : ℕ) (inode : Inode) → CanReadDir shape x d → IsInode x.words d inode → PlansFor x.words d inode
plans_dir_inode shape x d inode can is = inl (is, (let kind = dir_kind shape x d inode can is in omega (arith, kind)))

-- and a size of whole entries
pub dir_fits : (shape : VolumeShape) (x : Seen) (d len : ℕ) (inode : Inode) → CanReadDir shape x d → IsInode x.words d inode → len % 64 ≡ 0 → len ≤ largest_size → SizeFits inode.kind len
dir_fits shape x d len inode can is whole most =
    let kind = dir_kind shape x d inode can is in
    record { most = most; directory = λ dir. whole; region = λ region. omega (arith, kind, region); region_pages = λ region. omega (arith, kind, region) }

-- of no block at all whatever is asked holds
pub none_skipped : {A : Type 0} (P : ℕ → Type 0) (xs : List A) → xs ≡ [] → (t : ℕ) → t < length xs → P t
none_skipped P xs none t low = absurd (let is : length xs ≡ 0 = ap length none in omega (arith, is, low))

-- and none stands there twice
pub none_twice : (xs : List ℕ) → xs ≡ [] → Apart xs
none_twice xs none s t low = absurd (let is : length xs ≡ 0 = ap length none in omega (arith, is, low))
