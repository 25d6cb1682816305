-- A view that comes to stand on a region, by its inode.
use Rattle.region_view.proofs.Common.{◌≡◌, ℕ, ◌*◌, ◌/◌, ◌%◌, ◌<◌, ◌≤◌, sym, subst, arith, VolumeShape, BlockWords, Seen, Kept, held_of, placed_at, Ready, IsMapped, Inode, IsInode}
use Rattle.std.proofs.Common.{◌^◌}
use Rattle.region_view.specs.Views.{OnRegion}
use Rattle.region_view.proofs.RegionHeader.{has_header, used_size}

-- its words can be counted
pub few_bytes : (shape : VolumeShape) (f : BlockWords) (i : ℕ) (n : Inode) → IsMapped shape f → (held_of shape f i).kind ≡ 3 → IsInode f i n → n.size < 2 ^ 35
few_bytes shape f i n mapped region is =
    let h = has_header shape f i mapped region in
    let size : n.size ≡ (placed_at f i).size = is.size in
    let most : (placed_at f i).size ≤ 4292608 = (mapped.laid.sizes.each i h.ino h.page.used).most in
    omega (arith, size, most)

-- x is the volume before the inode was read, y and j are it afterwards
pub on_region : (shape : VolumeShape) (x y : Seen) (j : Kept) (i words : ℕ) (n : Inode) → Ready shape y j → y.words ≡ x.words → (held_of shape x.words i).kind ≡ 3 → IsInode x.words i n → words ≡ n.size / 8 → OnRegion shape y j i words
on_region shape x y j i words n ready same region is count =
    let mapped : IsMapped shape x.words = subst (IsMapped shape) same ready.order.mapped in
    let h = has_header shape x.words i mapped region in
    let bytes : n.size ≡ (placed_at x.words i).size = is.size in
    let whole : (placed_at x.words i).size % 4096 ≡ 0 = (mapped.laid.sizes.each i h.ino h.page.used).region h.kind in
    let size : (held_of shape x.words i).size ≡ 8 * words = (let held = used_size shape x.words i h.ino h.page.used in omega (arith, held, bytes, whole, count)) in
    record {
      ready = ready;
      ino = h.ino;
      region = subst (λ f. (held_of shape f i).kind ≡ 3) (sym same) region;
      size = subst (λ f. (held_of shape f i).size ≡ 8 * words) (sym same) size;
    }
