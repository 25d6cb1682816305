-- From entries that are to be stored in a directory to the rows that it then has.
use Rattle.directories.proofs.Common.{◌≡◌, ◌≢◌, ℕ, ◌+◌, ◌-◌, ◌*◌, ◌/◌, ◌%◌, ◌<◌, ◌≤◌, ◌==◌, Bool, true, false, cond, List, [], ◌∷◌, length, refl, sym, ap, subst, ◌∙◌, arith, inl, nat_lt, nat_tests, Ino, VolumeShape, BlockWords, Seen, Kept, numbers, Inode, IsInode, PlansSize, given_node, planned_node, SizeChange, LooksUp, page_old, HasEntry, Held, entry_name, held_of, IsName, AtPage, Placed, placed_at, volume_layout, EntryRule, LeavesInUse, Ready}
use Rattle.std.specs.Prelude.{slice_index}
use Rattle.rio_model.proofs.HeldRules.{counts_of, same_held}
use Rattle.rio_model.specs.NodeChanges.{shrunk}
use Rattle.rio_model.specs.Sizes.{pages}
use Rattle.directories.specs.Contents.{AllGoInto, GoesInto, sized_to, with_entries, with_entry}
use Rattle.directories.specs.Entries.{IsEntryOf, name_in}
use Rattle.directories.specs.Plans.{PlansDir}
use Rattle.directories.specs.Reading.{CanReadDir}
use Rattle.directories.specs.RowChanges.{RemovesRow, ReplacesRow, SetsRow}
use Rattle.directories.specs.Rows.{InNoOther}
use Rattle.directories.specs.declared.changes.DirChange.{DirChange}
use Rattle.directories.specs.declared.storing.EntryWords.{EntryWords}
use Rattle.directories.proofs.CanRead.{can_read, dir_held, dir_size}
use Rattle.directories.proofs.NameWords.{name_moved}
use Rattle.directories.proofs.PlannedDir.{AddsEntries, dir_planned}
use Rattle.directories.proofs.RowLaws.{Itself, Other, Short, row_removed, row_replaced, row_set, word_beside, word_stored}

-- entries are to be stored in a directory, in whichever slots they go into
abbrev pub PlansEntries : VolumeShape → BlockWords → Seen → Kept → ℕ → ℕ → List EntryWords → DirChange → Type 0
PlansEntries shape f y j d len puts c = (slots : List ℕ) → AllGoInto (shrunk (placed_at f d) len) slots puts → PlansDir shape f y j d (λ h k. k ≡ sized_to len (with_entries h slots puts)) c

-- the slots of a smaller directory are those of the node that is prepared
go_planned : (f : BlockWords) (d len : ℕ) (inode : Inode) (change : SizeChange) (slots : List ℕ) (puts : List EntryWords) → len ≤ inode.size → inode.kind ≡ (placed_at f d).kind → AllGoInto (shrunk (placed_at f d) len) slots puts → AllGoInto (planned_node f d inode len change) slots puts
go_planned f d len inode change [] [] less kind into = tt
go_planned f d len inode change [] (e ∷ puts) less kind into = absurd into
go_planned f d len inode change (s ∷ slots) [] less kind into = absurd into
go_planned f d len inode change (s ∷ slots) (e ∷ puts) less kind into = (
  record {
    page = record { used = (let used = into.0.page.used in omega (arith, used, kind)); within = within };
    block = into.0.block ∙ sym (page_old (given_node f d inode) len (s / 64) (numbers change.taken) (omega (arith, within, less)));
    first = into.0.first;
  },
  go_planned f d len inode change slots puts less kind into.1,
)
  where
    within : s / 64 < pages len
    within = into.0.page.within

pub entries_planned : (shape : VolumeShape) (x : Seen) (k : Kept) (y : Seen) (j : Kept) (dir : Ino) (len : ℕ) (inode : Inode) (change : SizeChange) (entries : List EntryWords) (c : DirChange) → CanReadDir shape x dir.0 → Ready shape x k → LeavesInUse (volume_layout shape x.words) x k y j → IsInode x.words dir.0 inode → len ≤ inode.size → length entries ≤ 2 → PlansSize shape x.words y j dir.0 inode len [] change → AddsEntries dir change entries c → PlansEntries shape x.words y j dir.0 len entries c
entries_planned shape x k y j dir len inode change entries c can ready leaves is less few plans adds slots into =
    dir_planned shape x k y j dir len inode change slots entries (λ h k. k ≡ sized_to len (with_entries h slots entries)) c can ready leaves is plans adds
    (go_planned x.words dir.0 len inode change slots entries less is.kind into) few (λ w below. inl (omega (arith, below, less))) refl

-- and in the directory as it was before it was read
pub plans_back : (shape : VolumeShape) (x z y : Seen) (j : Kept) (d len : ℕ) (puts : List EntryWords) (c : DirChange) → LooksUp shape x z → PlansEntries shape z.words y j d len puts c → PlansEntries shape x.words y j d len puts c
plans_back shape x z y j d len puts c looks plans = subst (λ (f : BlockWords). PlansEntries shape f y j d len puts c) looks.looks.words plans

pub dir_back : (shape : VolumeShape) (x z y : Seen) (j : Kept) (d : ℕ) (becomes : Held → Held → Type 0) (c : DirChange) → LooksUp shape x z → PlansDir shape z.words y j d becomes c → PlansDir shape x.words y j d becomes c
dir_back shape x z y j d becomes c looks plans = subst (λ (f : BlockWords). PlansDir shape f y j d becomes c) looks.looks.words plans

-- what is prepared may be told otherwise
pub plans_as : (shape : VolumeShape) (f : BlockWords) (y : Seen) (j : Kept) (d : ℕ) (becomes other : Held → Held → Type 0) (c : DirChange) → ((k : Held) → becomes (held_of shape f d) k → other (held_of shape f d) k) → PlansDir shape f y j d becomes c → PlansDir shape f y j d other c
plans_as shape f y j d becomes other c told p = record {
  dir = p.dir;
  node = p.node;
  holds = p.holds;
  turns = p.turns;
  from = p.from;
  takes = p.takes;
  made = p.made;
  was_dir = p.was_dir;
  is_dir = p.is_dir;
  does = told p.holds p.does;
  words = p.words;
  few = p.few;
  firm = p.firm;
  unnamed = p.unnamed;
}

-- ---- what a directory holds

-- its kind and size, and that its names lie within their entries
record DirHolds (h : Held) (size : ℕ) : Type 0 where
  kind : h.kind ≡ 1
  sized : h.size ≡ size
  whole : h.size % 64 ≡ 0
  short : Short h

dir_holds : (shape : VolumeShape) (x : Seen) (d : ℕ) → CanReadDir shape x d → DirHolds (held_of shape x.words d) (placed_at x.words d).size
dir_holds shape x d can = record {
  kind = kind;
  sized = sized;
  whole = (let whole = dir_size shape x d can in omega (arith, whole, sized));
  short = λ j within. (can.entries.each d j (record { dir = kind; within = within })).0.few;
}
  where
    n : Placed
    n = placed_at x.words d

    kind : (held_of shape x.words d).kind ≡ 1
    kind = ap (λ (k : Held). k.kind) (dir_held shape x d can) ∙ can.dir

    used : (k : ℕ) → k ≡ 1 → nat_lt 0 k ≡ true
    used k one = grind (arith, nat_tests, one)

    sized : (held_of shape x.words d).size ≡ n.size
    sized = ap (λ (k : Held). k.size) (dir_held shape x d can) ∙ ap (λ b. cond b n.size 0) (used n.kind can.dir)

-- a word of slot a of it
slot_word : (shape : VolumeShape) (x : Seen) (d a t : ℕ) → CanReadDir shape x d → 64 * a < (placed_at x.words d).size → t < 8 → (held_of shape x.words d).word (8 * a + t) ≡ x.words ((placed_at x.words d).block (AtPage (a / 64))) (8 * (a % 64) + t)
slot_word shape x d a t can within few =
    let page : (8 * a + t) / 512 ≡ a / 64 = omega (arith, few) in
    let word : (8 * a + t) % 512 ≡ 8 * (a % 64) + t = omega (arith, few) in
    ap (λ (k : Held). k.word (8 * a + t)) (dir_held shape x d can)
    ∙ ap (λ b. cond b (x.words (n.block (AtPage ((8 * a + t) / 512))) ((8 * a + t) % 512)) 0) (counts_of n.kind n.size (8 * a + t) (let one = can.dir in omega (arith, one)) (let whole = dir_size shape x d can in omega (arith, within, whole, few)))
    ∙ ap (λ p. x.words (n.block (AtPage p)) ((8 * a + t) % 512)) page
    ∙ ap (x.words (n.block (AtPage (a / 64)))) word
  where
    n : Placed
    n = placed_at x.words d

-- an entry of it lies within its size
pub slot_in : (shape : VolumeShape) (x : Seen) (d slot len : ℕ) → CanReadDir shape x d → len ≡ (placed_at x.words d).size → HasEntry (held_of shape x.words) d slot → 64 * slot < len
slot_in shape x d slot len can is has = let sized = (dir_holds shape x d can).sized in let within = has.within in omega (arith, is, sized, within)

-- the size of a directory that has an entry, and the slot of that
pub record HasRoom (size slot : ℕ) : Type 0 where
  pub some : 64 ≤ size
  pub few : size ≤ 4292608
  pub less : size - 64 ≤ size
  pub whole : (size - 64) % 64 ≡ 0
  pub within : 64 * slot < size

pub has_room : (shape : VolumeShape) (x : Seen) (k : Kept) (d slot : ℕ) (inode : Inode) → Ready shape x k → EntryRule (held_of shape x.words) → HasEntry (held_of shape x.words) d slot → IsInode x.words d inode → HasRoom inode.size slot
has_room shape x k d slot inode ready entries has is =
    let can : CanReadDir shape x d = can_read shape x d ready.order.has_shape ready.order.mapped ready.order.named entries has.dir in
    let size = is.size in
    let whole = dir_size shape x d can in
    let most = (can.mapped.laid.sizes.each d can.ino (let one = can.dir in omega (arith, one))).most in
    let within = slot_in shape x d slot inode.size can size has in
    record { some = omega (arith, size, whole, within); few = omega (arith, size, most); less = omega arith; whole = omega (arith, size, whole); within = within }

-- it has whole entries
pub whole_size : (size slot : ℕ) → HasRoom size slot → size % 64 ≡ 0
whole_size size slot room =
    let some = room.some in
    let whole = room.whole in
    omega (arith, some, whole)

-- where a slot lies in what is left without the last one
pub gap_room : (shape : VolumeShape) (x : Seen) (d slot : ℕ) (inode : Inode) → CanReadDir shape x d → IsInode x.words d inode → 64 * slot < inode.size - 64 → HasRoom inode.size slot
gap_room shape x d slot inode can is before =
    let size = is.size in
    let whole = dir_size shape x d can in
    let most = (can.mapped.laid.sizes.each d can.ino (let one = can.dir in omega (arith, one))).most in
    record { some = omega (arith, before); few = omega (arith, size, most); less = omega arith; whole = omega (arith, size, whole, before); within = omega (arith, before) }

-- a slot before the last one lies in what is left without that
pub room_before : (size slot last : ℕ) → HasRoom size slot → last + 1 ≡ size / 64 → slot ≢ last → 64 * slot < size - 64
room_before size slot last room end apart =
    let within = room.within in
    let whole = room.whole in
    let some = room.some in
    omega (arith, within, whole, some, end, apart)

-- and so does one of two slots where the other is the last
pub room_beside : (size slot gone last : ℕ) → HasRoom size gone → last + 1 ≡ size / 64 → slot ≢ gone → slot ≡ last → 64 * gone < size - 64
room_beside size slot gone last room end two is = room_before size gone last room end (λ at. two (is ∙ sym at))

-- the last slot lies within
pub last_in : (size slot last : ℕ) → HasRoom size slot → last + 1 ≡ size / 64 → 64 * last < size
last_in size slot last room end = let some = room.some in omega (arith, some, end)

-- words that are those of a slot have its name
pub slot_named : (shape : VolumeShape) (x : Seen) (d a i : ℕ) (own e : List ℕ) → CanReadDir shape x d → 64 * a < (placed_at x.words d).size → ((t : ℕ) → t < 8 → slice_index own t ≡ x.words ((placed_at x.words d).block (AtPage (a / 64))) (8 * (a % 64) + t)) → IsEntryOf (name_in (slice_index own) 0) i e → IsEntryOf (entry_name (held_of shape x.words d) a) i e
slot_named shape x d a i own e can within words is = subst (λ name. IsEntryOf name i e) same is
  where
    h : Held
    h = held_of shape x.words d

    at : (t : ℕ) → t < 8 → h.word (8 * a + t) ≡ slice_index own (8 * 0 + t)
    at t few = slot_word shape x d a t can within few ∙ sym (words t few) ∙ (let here : t ≡ 8 * 0 + t = omega arith in ap (slice_index own) here)

    same : name_in (slice_index own) 0 ≡ entry_name h a
    same = let holds = dir_holds shape x d can in name_moved h.word (slice_index own) a 0 (entry_name h a) (holds.short a (let sized = holds.sized in omega (arith, within, sized))) at refl

-- an entry that stays goes into its slot of the smaller directory too
goes_on : (n : Placed) (len j : ℕ) (e : EntryWords) → 64 * j < len → GoesInto n j e → GoesInto (shrunk n len) j e
goes_on n len j e within into = record { page = record { used = into.page.used; within = (omega (arith, within)) }; block = into.block; first = into.first }

-- ---- entries stored in slots

-- one, whose slot stays
pub one_planned : (shape : VolumeShape) (x y : Seen) (j : Kept) (d slot len : ℕ) (e : EntryWords) (own : List ℕ) (c : DirChange) → 64 * slot < len → GoesInto (placed_at x.words d) slot e → e.words ≡ own → PlansEntries shape x.words y j d len (e ∷ []) c → PlansDir shape x.words y j d (λ h k. k ≡ sized_to len (with_entry h slot (slice_index own))) c
one_planned shape x y j d slot len e own c within into words plans =
    plans_as shape x.words y j d _ _ c (λ k made. made ∙ ap (λ ws. sized_to len (with_entry (held_of shape x.words d) slot (slice_index ws))) words)
    (plans (slot ∷ []) (goes_on (placed_at x.words d) len slot e within into, tt))

-- an entry is the eight words of its slot
same_entry : (h : Held) (j : ℕ) (v w : ℕ → ℕ) → ((t : ℕ) → t < 8 → v t ≡ w t) → with_entry h j v ≡ with_entry h j w
same_entry h j v w same = same_held _ _ refl refl (λ y. ap (λ n. cond (y / 8 == j) n (h.word y)) (same (y % 8) (omega arith)))

-- and one more, with the words of the last one
pub two_planned : (shape : VolumeShape) (x y : Seen) (j : Kept) (d slot gone last len : ℕ) (e m : EntryWords) (own : List ℕ) (c : DirChange) → CanReadDir shape x d → 64 * last < (placed_at x.words d).size → 64 * slot < len → 64 * gone < len → GoesInto (placed_at x.words d) slot e → GoesInto (placed_at x.words d) gone m → e.words ≡ own → ((t : ℕ) → t < 8 → slice_index m.words t ≡ x.words ((placed_at x.words d).block (AtPage (last / 64))) (8 * (last % 64) + t)) → PlansEntries shape x.words y j d len (e ∷ m ∷ []) c → PlansDir shape x.words y j d (λ h k. k ≡ sized_to len (with_entry (with_entry h slot (slice_index own)) gone (λ t. h.word (8 * last + t)))) c
two_planned shape x y j d slot gone last len e m own c can there within gap into into_gap words moved plans =
    plans_as shape x.words y j d _ _ c
    (λ k made. made ∙ ap (λ ws. sized_to len (with_entry (with_entry h slot (slice_index ws)) gone (slice_index m.words))) words
    ∙ ap (sized_to len) (same_entry (with_entry h slot (slice_index own)) gone (slice_index m.words) (λ t. h.word (8 * last + t)) (λ t few. moved t few ∙ sym (slot_word shape x d last t can there few))))
    (plans (slot ∷ gone ∷ []) (goes_on (placed_at x.words d) len slot e within into, (goes_on (placed_at x.words d) len gone m gap into_gap, tt)))
  where
    h : Held
    h = held_of shape x.words d

-- ---- one row set

pub set_planned : (shape : VolumeShape) (x y : Seen) (j : Kept) (d slot i len : ℕ) (own name : List ℕ) (c : DirChange) → CanReadDir shape x d → len ≡ (placed_at x.words d).size → 64 * slot < len → IsEntryOf name i own → IsName name → InNoOther (held_of shape x.words d) slot name → PlansDir shape x.words y j d (λ h k. k ≡ sized_to len (with_entry h slot (slice_index own))) c → PlansDir shape x.words y j d (SetsRow slot name i) c
set_planned shape x y j d slot i len own name c can is within entry good absent plans =
    let holds = dir_holds shape x d can in
    let sized = holds.sized in
    plans_as shape x.words y j d _ (SetsRow slot name i) c
    (λ k made. subst (SetsRow slot name i h) (ap (λ s. sized_to s (with_entry h slot (slice_index own))) (sized ∙ sym is) ∙ sym made) (row_set h slot own name i holds.kind holds.whole holds.short (omega (arith, within, is, sized)) good.few entry absent))
    plans
  where
    h : Held
    h = held_of shape x.words d

-- ---- one row removed

-- what is stored in the last slot, which goes, is nothing
last_gone : (h : Held) (j : ℕ) (words : ℕ → ℕ) → h.size % 64 ≡ 0 → j + 1 ≡ h.size / 64 → sized_to (h.size - 64) (with_entry h j words) ≡ sized_to (h.size - 64) h
last_gone h j words whole last = same_held _ _ refl refl (λ w. by w (nat_lt (8 * w) (h.size - 64)) refl)
  where
    by : (w : ℕ) (b : Bool) → nat_lt (8 * w) (h.size - 64) ≡ b → cond b (cond (w / 8 == j) (words (w % 8)) (h.word w)) 0 ≡ cond b (h.word w) 0
    by w false is = refl
    by w true is = let other : (w / 8 == j) ≡ false = grind (arith, nat_tests, is, whole, last) in ap (λ b. cond b (words (w % 8)) (h.word w)) other

pub last_planned : (shape : VolumeShape) (x y : Seen) (j : Kept) (d slot len : ℕ) (c : DirChange) → CanReadDir shape x d → len ≡ (placed_at x.words d).size - 64 → slot + 1 ≡ (placed_at x.words d).size / 64 → PlansEntries shape x.words y j d len [] c → PlansDir shape x.words y j d (RemovesRow slot) c
last_planned shape x y j d slot len c can is last plans =
    let holds = dir_holds shape x d can in
    let sized = holds.sized in
    let whole = holds.whole in
    let at : slot ≡ h.size / 64 - 1 = omega (arith, last, sized) in
    plans_as shape x.words y j d _ (RemovesRow slot) c
    (λ k made. subst (RemovesRow slot h) (last_gone h slot (λ t. h.word (8 * slot + t)) whole (omega (arith, last, sized)) ∙ ap (λ s. sized_to s h) (omega (arith, is, sized)) ∙ sym made) (row_removed h slot (λ t. h.word (8 * slot + t)) holds.kind whole holds.short (omega (arith, last, sized, whole)) (λ t few. ap (λ a. h.word (8 * a + t)) at)))
    (plans [] tt)
  where
    h : Held
    h = held_of shape x.words d

pub moved_planned : (shape : VolumeShape) (x y : Seen) (j : Kept) (d slot last len : ℕ) (own : List ℕ) (c : DirChange) → CanReadDir shape x d → len ≡ (placed_at x.words d).size - 64 → last + 1 ≡ (placed_at x.words d).size / 64 → 64 * slot < (placed_at x.words d).size → ((t : ℕ) → t < 8 → slice_index own t ≡ x.words ((placed_at x.words d).block (AtPage (last / 64))) (8 * (last % 64) + t)) → PlansDir shape x.words y j d (λ h k. k ≡ sized_to len (with_entry h slot (slice_index own))) c → PlansDir shape x.words y j d (RemovesRow slot) c
moved_planned shape x y j d slot last len own c can is end within words plans =
    let holds = dir_holds shape x d can in
    let sized = holds.sized in
    let at : last ≡ h.size / 64 - 1 = omega (arith, end, sized) in
    plans_as shape x.words y j d _ (RemovesRow slot) c
    (λ k made. subst (RemovesRow slot h) (ap (λ s. sized_to s (with_entry h slot (slice_index own))) (let same : h.size - 64 ≡ len = omega (arith, is, sized) in same) ∙ sym made) (row_removed h slot (slice_index own) holds.kind holds.whole holds.short (omega (arith, within, sized)) (λ t few. words t few ∙ sym (slot_word shape x d last t can (omega (arith, end)) few) ∙ ap (λ a. h.word (8 * a + t)) at)))
    plans
  where
    h : Held
    h = held_of shape x.words d

-- ---- one row removed, whose name's inode another one gets

-- the slots of the two names, and the last one of a directory of this size
pub record Replacing (size len slot gone last : ℕ) : Type 0 where
  pub less : len ≡ size - 64
  pub end : last + 1 ≡ size / 64
  pub slot_within : 64 * slot < size
  pub gone_within : 64 * gone < size
  pub two : slot ≢ gone

-- the last slot has the name that stays: it moves into the gap
pub own_moved : (shape : VolumeShape) (x y : Seen) (j : Kept) (d slot gone last i len : ℕ) (own : List ℕ) (c : DirChange) → CanReadDir shape x d → Replacing (placed_at x.words d).size len slot gone last → slot ≡ last → IsEntryOf (entry_name (held_of shape x.words d) slot) i own → PlansDir shape x.words y j d (λ h k. k ≡ sized_to len (with_entry h gone (slice_index own))) c → PlansDir shape x.words y j d (ReplacesRow slot i gone) c
own_moved shape x y j d slot gone last i len own c can r at entry plans =
    let holds = dir_holds shape x d can in
    let sized = holds.sized in
    let whole = holds.whole in
    let end = r.end in
    let less = r.less in
    let two = r.two in
    let slot_within : 64 * slot < h.size = (let within = r.slot_within in omega (arith, within, sized)) in
    let gone_within : 64 * gone < h.size = (let within = r.gone_within in omega (arith, within, sized)) in
    let below : 64 * gone < h.size - 64 = omega (arith, gone_within, two, at, end, sized, whole) in
    let ends : (h.size - 64) % 64 ≡ 0 = omega (arith, whole) in
    plans_as shape x.words y j d _ (ReplacesRow slot i gone) c
    (λ k made. subst (ReplacesRow slot i gone h) (ap (λ s. sized_to s (with_entry h gone words)) (let same : h.size - 64 ≡ len = omega (arith, less, sized) in same) ∙ sym made)
    (row_replaced h (sized_to (h.size - 64) (with_entry h gone words)) slot gone gone own i holds.kind refl whole holds.short slot_within gone_within two entry (Itself (omega (arith, at, end, sized)) refl)
    (λ t few. sym (word_stored h gone (h.size - 64) t words ends below few))
    (λ away within t few. absurd (away refl))
    (λ b t off away within few. sym (word_beside h gone b (h.size - 64) t words ends within away few))))
    plans
  where
    h : Held
    h = held_of shape x.words d

    words : ℕ → ℕ
    words = slice_index own

-- the last slot has the name that goes
pub gone_dropped : (shape : VolumeShape) (x y : Seen) (j : Kept) (d slot gone last i len : ℕ) (own : List ℕ) (c : DirChange) → CanReadDir shape x d → Replacing (placed_at x.words d).size len slot gone last → slot ≢ last → gone ≡ last → IsEntryOf (entry_name (held_of shape x.words d) slot) i own → PlansDir shape x.words y j d (λ h k. k ≡ sized_to len (with_entry h slot (slice_index own))) c → PlansDir shape x.words y j d (ReplacesRow slot i gone) c
gone_dropped shape x y j d slot gone last i len own c can r away at entry plans =
    let holds = dir_holds shape x d can in
    let sized = holds.sized in
    let whole = holds.whole in
    let end = r.end in
    let less = r.less in
    let slot_within : 64 * slot < h.size = (let within = r.slot_within in omega (arith, within, sized)) in
    let gone_within : 64 * gone < h.size = (let within = r.gone_within in omega (arith, within, sized)) in
    let below : 64 * slot < h.size - 64 = omega (arith, slot_within, away, end, sized, whole) in
    let ends : (h.size - 64) % 64 ≡ 0 = omega (arith, whole) in
    plans_as shape x.words y j d _ (ReplacesRow slot i gone) c
    (λ k made. subst (ReplacesRow slot i gone h) (ap (λ s. sized_to s (with_entry h slot words)) (let same : h.size - 64 ≡ len = omega (arith, less, sized) in same) ∙ sym made)
    (row_replaced h (sized_to (h.size - 64) (with_entry h slot words)) slot gone slot own i holds.kind refl whole holds.short slot_within gone_within r.two entry (Other (λ same. omega (arith, away, same, end, sized)) refl)
    (λ t few. sym (word_stored h slot (h.size - 64) t words ends below few))
    (λ off within t few. absurd (omega (arith, within, at, end, sized, whole)))
    (λ b t off gap within few. sym (word_beside h slot b (h.size - 64) t words ends within off few))))
    plans
  where
    h : Held
    h = held_of shape x.words d

    words : ℕ → ℕ
    words = slice_index own

-- words of a directory in which a slot was stored, while it has its size
word_here : (h : Held) (j t : ℕ) (words : ℕ → ℕ) → t < 8 → (with_entry h j words).word (8 * j + t) ≡ words t
word_here h j t words few =
    let here : ((8 * j + t) / 8 == j) ≡ true = grind (arith, nat_tests, few) in
    let rest : (8 * j + t) % 8 ≡ t = omega (arith, few) in
    ap (λ b. cond b (words ((8 * j + t) % 8)) (h.word (8 * j + t))) here ∙ ap words rest

word_away : (h : Held) (j b t : ℕ) (words : ℕ → ℕ) → b ≢ j → t < 8 → (with_entry h j words).word (8 * b + t) ≡ h.word (8 * b + t)
word_away h j b t words off few =
    let place : (8 * b + t) / 8 ≡ b = omega (arith, few) in
    let other : ((8 * b + t) / 8 == j) ≡ false = grind (arith, nat_tests, place, off) in
    ap (λ c. cond c (words ((8 * b + t) % 8)) (h.word (8 * b + t))) other

-- neither of them is there: what the last slot has moves into the gap
pub last_moved : (shape : VolumeShape) (x y : Seen) (j : Kept) (d slot gone last i len : ℕ) (own : List ℕ) (c : DirChange) → CanReadDir shape x d → Replacing (placed_at x.words d).size len slot gone last → slot ≢ last → gone ≢ last → IsEntryOf (entry_name (held_of shape x.words d) slot) i own → PlansDir shape x.words y j d (λ h k. k ≡ sized_to len (with_entry (with_entry h slot (slice_index own)) gone (λ t. h.word (8 * last + t)))) c → PlansDir shape x.words y j d (ReplacesRow slot i gone) c
last_moved shape x y j d slot gone last i len own c can r away apart entry plans =
    let holds = dir_holds shape x d can in
    let sized = holds.sized in
    let whole = holds.whole in
    let end = r.end in
    let less = r.less in
    let two = r.two in
    let at : h.size / 64 - 1 ≡ last = omega (arith, end, sized) in
    let slot_within : 64 * slot < h.size = (let within = r.slot_within in omega (arith, within, sized)) in
    let gone_within : 64 * gone < h.size = (let within = r.gone_within in omega (arith, within, sized)) in
    let below : 64 * slot < h.size - 64 = omega (arith, slot_within, away, end, sized, whole) in
    let gap : 64 * gone < h.size - 64 = omega (arith, gone_within, apart, end, sized, whole) in
    let ends : (h.size - 64) % 64 ≡ 0 = omega (arith, whole) in
    plans_as shape x.words y j d _ (ReplacesRow slot i gone) c
    (λ k made. subst (ReplacesRow slot i gone h) (ap (λ s. sized_to s (with_entry first gone moved)) (let same : h.size - 64 ≡ len = omega (arith, less, sized) in same) ∙ sym made)
    (row_replaced h (sized_to (h.size - 64) (with_entry first gone moved)) slot gone slot own i holds.kind refl whole holds.short slot_within gone_within two entry (Other (λ same. omega (arith, away, same, end, sized)) refl)
    (λ t few. sym (word_here h slot t words few) ∙ sym (word_beside first gone slot (h.size - 64) t moved ends below two few))
    (λ off within t few. ap (λ a. h.word (8 * a + t)) at ∙ sym (word_stored first gone (h.size - 64) t moved ends within few))
    (λ b t off off_gap within few. sym (word_away h slot b t words off few) ∙ sym (word_beside first gone b (h.size - 64) t moved ends within off_gap few))))
    plans
  where
    h : Held
    h = held_of shape x.words d

    words : ℕ → ℕ
    words = slice_index own

    moved : ℕ → ℕ
    moved t = h.word (8 * last + t)

    first : Held
    first = with_entry h slot words
