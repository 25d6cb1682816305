-- One entry more in a directory: where it goes, and the change that it is.
use Rattle.directories.proofs.Common.{◌≡◌, ℕ, ◌+◌, ◌-◌, ◌*◌, ◌/◌, ◌%◌, ◌<◌, ◌≤◌, ◌⊎◌, List, [], ◌∷◌, length, refl, sym, ap, subst, ◌∙◌, arith, inl, inr, cases_eq, cases_lt, Ino, VolumeShape, free_blocks, BlockWords, Health, Seen, Below, Kept, Passes, numbers, Inode, IsInode, PlansSize, free_beside, given_node, planned_node, wanted_blocks, LooksUp, leaves_looked, leaves_trans, ready_left, SizeChange, page_old, Held, held_of, IsName, AtPage, Placed, placed_at, volume_layout, LeavesInUse, Ready}
use Rattle.std.specs.Prelude.{not, slice_index}
use Rattle.std.specs.List.{filter}
use Rattle.node_pages.proofs.Planned.{wanted_count}
use Rattle.node_pages.specs.Changes.{is_among}
use Rattle.rio_model.proofs.GrowthRules.{page_new}
use Rattle.rio_model.specs.Sizes.{largest_size, pages, tables}
use Rattle.directories.specs.Contents.{GoesInto, sized_to, with_entry}
use Rattle.directories.specs.Entries.{IsEntryOf}
use Rattle.directories.specs.Plans.{PlansDir}
use Rattle.directories.specs.Reading.{CanReadDir}
use Rattle.directories.specs.RowChanges.{AddsRow}
use Rattle.directories.specs.Rows.{HasRow}
use Rattle.directories.specs.declared.changes.DirChange.{DirChange}
use Rattle.directories.specs.declared.storing.EntryWords.{EntryWords}
use Rattle.directories.proofs.CanRead.{dir_held, dir_size, sized}
use Rattle.directories.proofs.EntriesHeld.{InSlots}
use Rattle.directories.proofs.PlannedDir.{AddsEntries, dir_planned}
use Rattle.directories.proofs.RowLaws.{Short, row_added}

-- a directory whose pages are full takes a block for one entry more
pub takes_page : (size n : ℕ) → size % 4096 ≡ 0 → n ≡ wanted_blocks size (size + 64) → 0 < n
takes_page size n full is = by_parts (pages size) (pages (size + 64)) (tables (size + 64) - tables size) n (omega (arith, full)) (is ∙ wanted_count size (size + 64) (omega arith))
  where
    by_parts : (p q t n : ℕ) → q ≡ p + 1 → n ≡ (q - p) + t → 0 < n
    by_parts p q t n one count = omega (arith, one, count)

-- where it goes: behind the others in the last page, or into the first block taken
pub record IsNext (shape : VolumeShape) (x : Seen) (d : ℕ) (inode : Inode) (change : SizeChange) (e : EntryWords) : Type 0 where
  pub last : 0 < inode.size % 4096 → e.block.0 ≡ (placed_at x.words d).block (AtPage (inode.size / 4096))
  pub taken : inode.size % 4096 ≡ 0 → e.block.0 ≡ slice_index (numbers change.taken) 0
  pub first : e.first ≡ 8 * (inode.size / 64 % 64)

next_into : (shape : VolumeShape) (x : Seen) (d : ℕ) (inode : Inode) (change : SizeChange) (e : EntryWords) → CanReadDir shape x d → IsInode x.words d inode → IsNext shape x d inode change e → GoesInto (planned_node x.words d inode (inode.size + 64) change) (inode.size / 64) e
next_into shape x d inode change e can is next = record {
  page = record { used = (let kind = is.kind ∙ can.dir in omega (arith, kind)); within = omega arith };
  block = elim (cases_eq (inode.size % 4096) 0) [
    | inl full ↦
        let first : 0 ≡ p - pages n.size = omega (arith, full) in
        next.taken full ∙ ap (slice_index (numbers change.taken)) first ∙ sym (page_new n (inode.size + 64) p (numbers change.taken) (omega (arith, full)))
    | inr part ↦
        let page : inode.size / 4096 ≡ p = omega arith in
        next.last (omega (arith, part)) ∙ ap (λ q. n.block (AtPage q)) page ∙ sym (page_old n (inode.size + 64) p (numbers change.taken) (omega (arith, part)))
  ];
  first = next.first;
}
  where
    n : Placed
    n = given_node x.words d inode

    p : ℕ
    p = inode.size / 64 / 64

pub held_size : (shape : VolumeShape) (x : Seen) (d : ℕ) (inode : Inode) → CanReadDir shape x d → IsInode x.words d inode → (held_of shape x.words d).size ≡ inode.size
held_size shape x d inode can is = ap (λ (k : Held). k.size) (dir_held shape x d can) ∙ sized x.words (placed_at x.words d) (let one = can.dir in omega (arith, one)) ∙ sym is.size

pub row_planned : (shape : VolumeShape) (x : Seen) (k : Kept) (y : Seen) (j : Kept) (dir : Ino) (inode : Inode) (change : SizeChange) (e : EntryWords) (name : List ℕ) (i : ℕ) (c : DirChange) → CanReadDir shape x dir.0 → Ready shape x k → LeavesInUse (volume_layout shape x.words) x k y j → IsInode x.words dir.0 inode → PlansSize shape x.words y j dir.0 inode (inode.size + 64) [] change → AddsEntries dir change (e ∷ []) c → IsNext shape x dir.0 inode change e → IsName name → IsEntryOf name i e.words → ((n : ℕ) → HasRow (held_of shape x.words dir.0) name n → ⊥) → PlansDir shape x.words y j dir.0 (AddsRow name i) c
row_planned shape x k y j dir inode change e name i c can ready leaves is plans adds next is_name is_entry absent =
    dir_planned shape x k y j dir (inode.size + 64) inode change (inode.size / 64 ∷ []) (e ∷ []) (AddsRow name i) c can ready leaves is plans adds (next_into shape x dir.0 inode change e can is next, tt) (omega arith) known row
  where
    h : Held
    h = held_of shape x.words dir.0

    kind : h.kind ≡ 1
    kind = ap (λ (k : Held). k.kind) (dir_held shape x dir.0 can) ∙ can.dir

    whole : inode.size % 64 ≡ 0
    whole = ap (λ n. n % 64) is.size ∙ dir_size shape x dir.0 can

    same : h.size ≡ inode.size
    same = held_size shape x dir.0 inode can is

    known : (w : ℕ) → 8 * w < inode.size + 64 → (8 * w < inode.size) ⊎ InSlots (inode.size / 64 ∷ []) w
    known w within = elim (cases_lt (8 * w) inode.size) [
      | inl old ↦ inl old
      | inr past ↦ inr (inl (omega (arith, past, within, whole)))
    ]

    short : Short h
    short a within = (can.entries.each dir.0 a (record { dir = kind; within = within })).0.few

    row : AddsRow name i h (sized_to (inode.size + 64) (with_entry h (inode.size / 64) (slice_index e.words)))
    row = subst (λ s. AddsRow name i h (sized_to (s + 64) (with_entry h (s / 64) (slice_index e.words)))) same (row_added h e.words name i kind (ap (λ n. n % 64) same ∙ whole) short is_name.few is_entry absent)

-- ---- how much space there is

free_all : (xs : List ℕ) → filter (λ b. not (is_among [] b)) xs ≡ xs
free_all [] = refl
free_all (x ∷ xs) = ap (λ ys. x ∷ ys) (free_all xs)

-- what the plan of the size says of the blocks that were free when it was made, said of the directory
pub space_said : (shape : VolumeShape) (x y : Seen) (d : ℕ) (inode : Inode) (P : ℕ → ℕ → Type 0) → CanReadDir shape x d → IsInode x.words d inode → y.words ≡ x.words → P (wanted_blocks inode.size (inode.size + 64)) (length (free_beside shape y.words [])) → P (wanted_blocks (held_of shape x.words d).size ((held_of shape x.words d).size + 64)) (length (free_blocks shape x.words))
space_said shape x y d inode P can is same h =
    subst (λ s. P (wanted_blocks s (s + 64)) (length (free_blocks shape x.words))) (sym (held_size shape x d inode can is))
    (subst (λ n. P (wanted_blocks inode.size (inode.size + 64)) n) (ap (λ (f : BlockWords). length (free_beside shape f [])) same ∙ ap length (free_all (free_blocks shape x.words))) h)

-- a directory that has room has it by its inode too
pub room_left : (shape : VolumeShape) (x : Seen) (d : ℕ) (inode : Inode) → CanReadDir shape x d → IsInode x.words d inode → (held_of shape x.words d).size + 64 ≤ largest_size → inode.size + 64 ≤ largest_size
room_left shape x d inode can is room = let same = held_size shape x d inode can is in omega (arith, room, same)

pub no_larger : (n most : ℕ) → n ≤ most → most < n → ⊥
no_larger n most fits large = omega (arith, fits, large)

-- ---- the volume while the directory is read

pub looked_twice : (shape : VolumeShape) (a b c : Health) (m n o : Below) (x y z : Seen) (k j i : Kept) → Ready shape x k → LooksUp shape x y → Passes a m k b n j → LooksUp shape y z → Passes b n j c o i → LeavesInUse (volume_layout shape x.words) x k z i
looked_twice shape a b c m n o x y z k j i ready first p second q =
    let left = leaves_looked shape a b m n x y k j ready first p in
    leaves_trans shape x k y j z i ready left (leaves_looked shape b c n o y z j i (ready_left shape x k y j ready left) second q)

-- a plan over words that read as they did before
pub planned_before : (shape : VolumeShape) (f g : BlockWords) (y : Seen) (j : Kept) (d : ℕ) (name : List ℕ) (i : ℕ) (c : DirChange) → f ≡ g → PlansDir shape f y j d (AddsRow name i) c → PlansDir shape g y j d (AddsRow name i) c
planned_before shape f g y j d name i c same p = subst (λ h. PlansDir shape h y j d (AddsRow name i) c) same p
