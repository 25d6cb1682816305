-- The state that memory and disk stand for: it is one, each step of a reboot keeps it, and a cache's machine stands for what
-- the cache says.
use Rattle.rio_model.proofs.Common.{Bool, List, None, Option, Some, ap, arith, cases_Bool, false, inl, inr, is_pending, length, refl, slice_index, subst, sym, true, true_false, BlockWords, Contents, VolumeShape, reserved, ℕ, if◌then◌else◌, ◌*◌, ◌+◌, ◌<◌, ◌∙◌, ◌≡◌, ◌⊎◌}
use Rattle.std.specs.Prelude.{is_some, slice_index_or}
use Rattle.rio_base.specs.Blocks.{Seen}
use Rattle.rio_base.specs.Disks.{block_at}
use Rattle.rio_base.specs.Layout.{HasSuperblock}
use Rattle.rio_base.specs.Shapes.{HasShape}
use Rattle.rio_base.specs.Volume.{Kept, Settled}
use Rattle.rio_base.specs.declared.places.PageName.{PageName}
use Rattle.rio_model.specs.declared.state.State.{State}
use Rattle.rio_model.specs.Cover.{Coherent, MayLeave, Narrows, StandsAs, entry_of_block, name_at, name_in, reads, stands, stands_on}
use Rattle.rio_model.specs.CoverLookups.{cover_same, found_is}
use Rattle.rio_model.specs.CoverChanges.{stands_idle}
use Rattle.rio_model.specs.Placed.{Agrees, AtPage, AtTable, Layout, Owned, Owns, Slot, volume_layout}
use Rattle.rio_model.specs.Registry.{BlockRule, IsValid, file_at, gate_of, index_at, is_data, page_of_entry, tag_at, tag_block}
use Rattle.rio_model.specs.Standing.{AllHome, AreStale, Endures, EntriesFit, EntryFits, IsHome, IsWanted, MayBear, Restorable, StandsBut, StandsFor, StandsWith, entries_seen, is_stale, none_apart, stale_block}
use Rattle.rio_model.specs.VolumeReads.{ReadsAs}
use Rattle.rio_model.specs.VolumeReady.{AllNamed, Bears, Ready, StandsReady}
use Rattle.rio_model.proofs.CoverLookups.{found_at}
use Rattle.rio_model.proofs.NamedRules.{bears_same}
use Rattle.rio_model.proofs.OneReading.{one_state}
use Rattle.rio_model.proofs.PlacedRules.{SameLayout, lays_agree, lays_same, lays_self, owns_back}
use Rattle.rio_model.proofs.RebootSteps.{narrows_words, image_same, stands_stopped}
use Rattle.rio_model.proofs.VolumeReadRules.{reads_agree, stands_agree}

-- ---- names of entries

name_some : (o : Option PageName) (name : PageName) → o ≡ None → o ≡ Some name → ⊥
name_some o name none some = cc

named_data : (words : List ℕ) (k : ℕ) → is_data (tag_at words k) ≡ true → name_in words (Some k) ≡ Some (name_at words k)
named_data words k e = ap (λ b. if b then Some (name_at words k) else None) e

-- a name that a block may bear by one description of the nodes it may bear by another
pub may_bear_same : (l m : Layout) (b : ℕ) (name : Option PageName) → SameLayout l m → MayBear l b name → MayBear m b name
may_bear_same l m b name e h = record {
  low = λ low. h.low (subst (λ (sh : VolumeShape). b < reserved sh) e.shape low);
  owned = λ i s own is.
      let was = owns_back l m i s e own in
      let same = e.each i was.ino in
      bears_same i (l.node i) (m.node i) s name same was.slot.used (h.owned i s was (sym (same.blocks s was.slot) ∙ is));
}

-- blocks that agree on what is in use say one layout
same_layout : (shape : VolumeShape) (f g : BlockWords) (s : State) → ReadsAs shape f s → Agrees (volume_layout shape f) f g → SameLayout (volume_layout shape f) (volume_layout shape g)
same_layout shape f g s reads agrees = lays_same (volume_layout shape f) g (lays_agree (volume_layout shape f) f g reads.mapped.superblock.sizes (lays_self shape f) agrees)

-- no entry is found that was not, and each bears its name still
entries_kept : (old new : List ℕ) (l m : Layout) → SameLayout l m → BlockRule new → Narrows old new → EntriesFit l old → EntriesFit m new
entries_kept old new l m same rule narrows h = record { each = λ k v. at k v (narrows.found (tag_block (tag_at new k)) k (found_at new (tag_block (tag_at new k)) k rule v refl)) }
  where
    at : (k : ℕ) → IsValid new k → (entry_of_block old (tag_block (tag_at new k)) ≡ Some k) × (name_in new (Some k) ≡ name_in old (Some k)) → EntryFits m new k
    at k v (found, name) =
        let was = found_is old (tag_block (tag_at new k)) k found in
        let fits = h.each k was.0 in
        record {
          within = subst (λ (sh : VolumeShape). tag_block (tag_at new k) < sh.blocks) (sym same.shape) (subst (λ b. b < l.shape.blocks) was.1 fits.within);
          named = may_bear_same l m _ _ same (subst (λ b. MayBear l b (name_in new (Some k))) was.1 (subst (MayBear l (tag_block (tag_at old k))) (sym name) fits.named));
        }

-- ---- with the disk as it reads

-- each block of the disk has 512 words
abbrev pub AreWhole : Contents → Type 0
AreWhole c = (b : ℕ) → b < length c.disk → length (block_at c.disk b) ≡ 512

-- the disk as it reads is one of those that may be left
pub as_reads : (c : Contents) → AreWhole c → MayLeave c c.disk
as_reads c whole = record { count = refl; whole = whole; kept = λ b firm. refl }

-- nothing is pending: only the disk as it reads may be left
stands_told : (c : Contents) (disk : List (List ℕ)) (b w : ℕ) → MayLeave c disk → is_pending c.pending b ≡ false → stands_on c disk b w ≡ stands c b w
stands_told c disk b w m told = cover_same (page_of_entry c.words) c.words c.disk (page_of_entry c.words) c.words disk b w (record {
  entry = refl;
  pages = λ j x e small. refl;
  homes = λ x e small. ap (λ (l : List ℕ). slice_index l x) (m.kept b told);
})

pub stands_with_reads : (c : Contents) (n : ℕ) (s : State) → AreWhole c → StandsFor c n s → StandsWith c s c.disk
stands_with_reads c n s whole h = h.each c.disk (as_reads c whole)

some_entry : (o : Option ℕ) → is_some o ≡ true → (k : ℕ) × (o ≡ Some k)
some_entry None e = absurd (true_false (sym e))
some_entry (Some k) e = (k, refl)

-- the entries are cached pages under their names
pub shape_seen : (c : Contents) (n : ℕ) (s : State) → AreWhole c → StandsFor c n s → HasShape s.shape (entries_seen c)
shape_seen c n s whole h = record {
  sizes = h.served.sizes;
  count = h.blocks;
  unnamed = λ b low cached.
      let k = some_entry (entry_of_block c.words b) cached in
      let at = found_is c.words b k.0 k.1 in
      ap (name_in c.words) k.1 ∙ ((stands_with_reads c n s whole h).entries.each k.0 at.0).named.low (subst (λ x. x < reserved s.shape) (sym at.1) low);
}

pub named_seen : (c : Contents) (n : ℕ) (s : State) → AreWhole c → StandsFor c n s → AllNamed (volume_layout s.shape (stands c)) (entries_seen c)
named_seen c n s whole h = record {
  each = λ i ino t has cached.
      let k = some_entry (entry_of_block c.words (((volume_layout s.shape (stands c)).node i).block t)) cached in
      let at = found_is c.words (((volume_layout s.shape (stands c)).node i).block t) k.0 k.1 in
      subst (λ o. Bears i ((volume_layout s.shape (stands c)).node i) t o) (sym (ap (name_in c.words) k.1)) (((stands_with_reads c n s whole h).entries.each k.0 at.0).named.owned i t (record { ino = ino; slot = has }) (sym at.1));
}

-- ---- one state

shape_by : ℕ → ℕ → ℕ → VolumeShape
shape_by version blocks inodes = record { version = version; blocks = blocks; inodes = inodes }

-- a superblock says one shape
pub one_shape : (f : BlockWords) (p q : VolumeShape) → HasSuperblock f p → HasSuperblock f q → p ≡ q
unfolding shape_by
one_shape f p q h k = by
  where
    by : shape_by p.version p.blocks p.inodes ≡ shape_by q.version q.blocks q.inodes
    by = rw (sym h.version ∙ k.version, sym h.blocks ∙ k.blocks, sym h.inodes ∙ k.inodes) refl

-- memory and disk stand for one state at most
pub stands_one : (c : Contents) (n : ℕ) (s t : State) → AreWhole c → StandsFor c n s → StandsFor c n t → s ≡ t
stands_one c n s t whole h k = one_state s.shape (stands c) s t one.reads (subst (λ (sh : VolumeShape). ReadsAs sh (stands c) t) (sym shape) other.reads) (omega (arith, h.pages, k.pages)) (omega (arith, h.scratch_pages, k.scratch_pages))
  where
    one : StandsWith c s c.disk
    one = stands_with_reads c n s whole h

    other : StandsWith c t c.disk
    other = stands_with_reads c n t whole k

    shape : s.shape ≡ t.shape
    shape = one_shape (stands c) s.shape t.shape one.reads.mapped.superblock.words other.reads.mapped.superblock.words

-- ---- stale pages

-- the page of an entry that is marked as stale is not wanted
pub stale_unwanted : (l : Layout) (marks : List Bool) (words : List ℕ) (k : ℕ) → EntriesFit l words → AreStale l marks words → IsValid words k → slice_index_or marks k false ≡ true → (tag_block (tag_at words k) < reserved l.shape) ⊎ IsWanted l words k → ⊥
stale_unwanted l marks words k fits stale v marked wanted = by wanted
  where
    name : name_in words (Some k) ≡ Some (name_at words k)
    name = named_data words k (stale.of_data k marked)

    bears : (i : ℕ) (t : Slot) → Owns l i t → (l.node i).block t ≡ tag_block (tag_at words k) → Bears i (l.node i) t (Some (name_at words k))
    bears i t own is = subst (λ o. Bears i (l.node i) t o) name ((fits.each k v).named.owned i t own is)

    at : (i : ℕ) (t : Slot) → Owns l i t → (l.node i).block t ≡ tag_block (tag_at words k) → ⊥
    at i (AtTable t) own is = name_some (Some (name_at words k)) (name_at words k) (bears i (AtTable t) own is) refl
    at i (AtPage p) own is =
        let named = (bears i (AtPage p) own is).1 in
        stale.gone k v marked
        (subst (λ y. Owns l (file_at words k) (AtPage y)) (sym named.index) (subst (λ y. Owns l y (AtPage p)) (sym named.file) own))
        (ap (λ y. (l.node y).block (AtPage (index_at words k))) named.file ∙ ap (λ y. (l.node i).block (AtPage y)) named.index ∙ is)

    by : (tag_block (tag_at words k) < reserved l.shape) ⊎ IsWanted l words k → ⊥
    by (inl low) = name_some (name_in words (Some k)) (name_at words k) ((fits.each k v).named.low low) name
    by (inr (inl metadata)) = true_false (sym (stale.of_data k marked) ∙ metadata)
    by (inr (inr own)) = at own.node own.slot own.owns own.is

-- where each page is at home or stale, each that is wanted is at home
pub home_unless_stale : (l : Layout) (marks : List Bool) (c : Contents) → EntriesFit l c.words → AreStale l marks c.words → ((k : ℕ) → IsValid c.words k → IsHome c k ⊎ (slice_index_or marks k false ≡ true)) → AllHome l c
home_unless_stale l marks c fits stale homes = record { each = λ k v wanted. by k v wanted (homes k v) }
  where
    by : (k : ℕ) → IsValid c.words k → IsWanted l c.words k → IsHome c k ⊎ (slice_index_or marks k false ≡ true) → IsHome c k
    by k v wanted (inl home) = home
    by k v wanted (inr marked) = absurd (stale_unwanted l marks c.words k fits stale v marked (inr wanted))

-- these blocks are not in use
pub record OutOfUse (l : Layout) (apart : ℕ → Bool) : Type 0 where
  pub low : (b : ℕ) → b < reserved l.shape → apart b ≡ false
  pub owned : (b : ℕ) → Owned l b → apart b ≡ false

-- so are those of stale pages
pub stale_out_of_use : (l : Layout) (marks : List Bool) (words : List ℕ) → EntriesFit l words → AreStale l marks words → OutOfUse l (stale_block marks words)
stale_out_of_use l marks words fits stale = record {
  low = λ b low. out b (λ k v is e. stale_unwanted l marks words k fits stale v e (inl (subst (λ x. x < reserved l.shape) (sym is) low)));
  owned = λ b own. out b (λ k v is e. stale_unwanted l marks words k fits stale v e (inr (inr (subst (Owned l) (sym is) own))));
}
  where
    out : (b : ℕ) → ((k : ℕ) → IsValid words k → tag_block (tag_at words k) ≡ b → slice_index_or marks k false ≡ true → ⊥) → stale_block marks words b ≡ false
    out b none = by (entry_of_block words b) refl
      where
        marked : (k : ℕ) → entry_of_block words b ≡ Some k → (slice_index_or marks k false ≡ true) ⊎ (slice_index_or marks k false ≡ false) → slice_index_or marks k false ≡ false
        marked k f (inl e) = absurd (let at = found_is words b k f in none k at.0 at.1 e)
        marked k f (inr e) = e

        by : (o : Option ℕ) → entry_of_block words b ≡ o → is_stale marks (entry_of_block words b) ≡ false
        by None f = ap (is_stale marks) f
        by (Some k) f = ap (is_stale marks) f ∙ marked k f (cases_Bool (slice_index_or marks k false))

-- ---- what stands is kept

-- blocks that agree on what is in use, and entries of which each was there under its name
with_kept : (old new : Contents) (s : State) (was disk : List (List ℕ)) → BlockRule new.words → Narrows old.words new.words → StandsWith old s was → Agrees (volume_layout s.shape (stands_on old was)) (stands_on old was) (stands_on new disk) → StandsWith new s disk
with_kept old new s was disk rule narrows h agrees = record {
  reads = reads_agree s.shape (stands_on old was) (stands_on new disk) s h.reads agrees;
  entries = entries_kept old.words new.words _ _ (same_layout s.shape (stands_on old was) (stands_on new disk) s h.reads agrees) rule narrows h.entries;
}

-- as many words and blocks
pub record SameLengths (old new : Contents) (n m : ℕ) : Type 0 where
  pub words : length new.words ≡ length old.words
  pub blocks : length new.disk ≡ length old.disk
  pub scratch : m ≡ n

stands_by : (old new : Contents) (n m : ℕ) (s : State) → SameLengths old new n m → Restorable new m → StandsFor old n s → ((disk : List (List ℕ)) → MayLeave new disk → StandsWith new s disk) → StandsFor new m s
stands_by old new n m s same image h each = record {
  image = image;
  served = h.served;
  blocks = same.blocks ∙ h.blocks;
  pages = omega (arith, h.pages, same.words, same.scratch);
  scratch_pages = h.scratch_pages ∙ sym same.scratch;
  each = each;
}

-- whatever stands could have stood before
pub stands_for_could : (old new : Contents) (n m : ℕ) (s : State) → SameLengths old new n m → Restorable new m → Narrows old.words new.words → StandsBut none_apart old new → StandsFor old n s → StandsFor new m s
stands_for_could old new n m s same image narrows could h = stands_by old new n m s same image h (λ disk leaves.
    let one = could.each disk leaves in
    with_kept old new s one.0 disk image.rules.blocks narrows (h.each one.0 one.1) (record { low = λ b w low. one.2 b w refl; owned = λ i t owns w. one.2 _ w refl }))

-- nothing is pending, and what stands is as before, but for blocks that are not in use
pub stands_for_told : (apart : ℕ → Bool) (old new : Contents) (n m : ℕ) (s : State) → AreWhole old → SameLengths old new n m → Restorable new m → Endures apart old new → OutOfUse (volume_layout s.shape (stands old)) apart → ((b : ℕ) → is_pending new.pending b ≡ false) → StandsFor old n s → StandsFor new m s
stands_for_told apart old new n m s whole same image e out told h = stands_by old new n m s same image h (λ disk leaves.
    with_kept old new s old.disk disk image.rules.blocks e.narrows (stands_with_reads old n s whole h) (record {
      low = λ b w low. stands_told new disk b w leaves (told b) ∙ e.standing b w (out.low b low);
      owned = λ i t owns w. stands_told new disk _ w leaves (told _) ∙ e.standing _ w (out.owned _ (record { node = i; slot = t; owns = owns; is = refl }));
    }))

-- a step of a reboot, and many. Before entries go each page counts still; from then on nothing is pending
pub stands_for_kept : (marks : List Bool) (old new : Contents) (n m : ℕ) (s : State) → AreWhole old → SameLengths old new n m → Endures (stale_block marks old.words) old new → (Endures none_apart old new) ⊎ ((b : ℕ) → is_pending new.pending b ≡ false) → AreStale (volume_layout s.shape (stands old)) marks old.words → StandsFor old n s → StandsFor new m s
stands_for_kept marks old new n m s whole same e exit stale h = by exit
  where
    image : Restorable new m
    image = subst (Restorable new) (sym same.scratch) (e.image n h.image)

    by : (Endures none_apart old new) ⊎ ((b : ℕ) → is_pending new.pending b ≡ false) → StandsFor new m s
    by (inl exact) = stands_for_could old new n m s same image exact.narrows exact.could h
    by (inr told) = stands_for_told (stale_block marks old.words) old new n m s whole same image e (stale_out_of_use _ marks old.words (stands_with_reads old n s whole h).entries stale) told h

-- a stop between two boots: the next machine has the words, and on its disk what the stop left
pub stands_for_stopped : (old new : Contents) (n m : ℕ) (s : State) → new.words ≡ old.words → MayLeave old new.disk → ((b : ℕ) → is_pending new.pending b ≡ false) → m ≡ n → StandsFor old n s → StandsFor new m s
stands_for_stopped old new n m s words left none same h = stands_for_could old new n m s
    (record { words = ap (λ (ws : List ℕ). length ws) words; blocks = left.count; scratch = same })
    (subst (Restorable new) (sym same) (image_same n old new words left.count h.image))
    (narrows_words old.words new.words words)
    (stands_stopped old new words left none) h

-- ---- a cache over a machine

-- the entries are the cached blocks, under the names that are told
pub record TellsEntries (c : Contents) (x : Seen) : Type 0 where
  pub cached : (b : ℕ) → x.cached b ≡ is_some (entry_of_block c.words b)
  pub names : (b : ℕ) → x.names b ≡ name_in c.words (entry_of_block c.words b)
  pub count : x.count ≡ length c.disk

-- the state's version, and its sizes of memory
pub record HasSizes (c : Contents) (n : ℕ) (s : State) : Type 0 where
  pub version : s.shape.version ≡ 1
  pub pages : 512 * s.pages ≡ length c.words + n
  pub scratch : 512 * s.scratch ≡ n

pub restorable : (c : Contents) (n : ℕ) → Coherent c n → Restorable c n
restorable c n h = record { header = h.header; sizes = h.sizes; protected = h.protected; scratch_pages = h.scratch_pages; rules = h.rules; on_disk = λ j v. (h.entries j).on_disk v }

-- a name that a cached page of this block bears may be borne
bears_told : (c : Contents) (shape : VolumeShape) (x : Seen) (f : BlockWords) (b k : ℕ) → TellsEntries c x → HasShape shape x → AllNamed (volume_layout shape f) x → entry_of_block c.words b ≡ Some k → MayBear (volume_layout shape f) b (name_in c.words (Some k))
bears_told c shape x f b k tells sizes named found = record {
  low = λ low. sym name ∙ sizes.unnamed b low cached;
  owned = λ i t own is. subst (Bears i ((volume_layout shape f).node i) t) (ap x.names is ∙ name) (named.each i own.ino t own.slot (subst (λ y. x.cached y ≡ true) (sym is) cached));
}
  where
    cached : x.cached b ≡ true
    cached = tells.cached b ∙ ap is_some found

    name : x.names b ≡ name_in c.words (Some k)
    name = tells.names b ∙ ap (name_in c.words) found

-- blocks read as a state, and what stands agrees with them on what is in use, whatever the pending blocks hold
stands_for_by : (c : Contents) (n : ℕ) (s : State) (x : Seen) (f : BlockWords) → Restorable c n → TellsEntries c x → HasSizes c n s → HasShape s.shape x → AllNamed (volume_layout s.shape f) x → ReadsAs s.shape f s → ((disk : List (List ℕ)) → MayLeave c disk → Agrees (volume_layout s.shape f) f (stands_on c disk)) → StandsFor c n s
stands_for_by c n s x f image tells sizes shape named reads agrees = record {
  image = image;
  served = record { version = sizes.version; sizes = shape.sizes };
  blocks = sym tells.count ∙ shape.count;
  pages = sizes.pages;
  scratch_pages = sizes.scratch;
  each = λ disk m. record {
    reads = reads_agree s.shape f (stands_on c disk) s reads (agrees disk m);
    entries = record { each = λ k v. fits disk m k v };
  };
}
  where
    fits : (disk : List (List ℕ)) → MayLeave c disk → (k : ℕ) → IsValid c.words k → EntryFits (volume_layout s.shape (stands_on c disk)) c.words k
    fits disk m k v = record {
      within = let low = image.on_disk k v in omega (arith, low, tells.count, shape.count);
      named = may_bear_same _ _ _ _ (same_layout s.shape f (stands_on c disk) s reads (agrees disk m)) (bears_told c s.shape x f _ k tells shape named (found_at c.words _ k image.rules.blocks v refl));
    }

-- after a call that was stopped: what stands of the volume reads as a state
pub stands_for_standing : (c : Contents) (n : ℕ) (s : State) (x : Seen) (k : Kept) → StandsAs c n k.standing k.loose → TellsEntries c x → HasSizes c n s → StandsReady s.shape x k → ReadsAs s.shape k.standing s → StandsFor c n s
stands_for_standing c n s x k h tells sizes ready reads = stands_for_by c n s x k.standing (restorable c n h.coherent) tells sizes ready.has_shape ready.named reads (λ disk m. record {
  low = λ b w low. h.blocks disk m b (ready.firm.low b low) w;
  owned = λ i t own w. h.blocks disk m _ (ready.firm.owned i t own) w;
})

-- after a call that leaves the volume ready, stopped or not: the blocks read as a state
pub stands_for_ready : (c : Contents) (n : ℕ) (s : State) (x : Seen) (k : Kept) → StandsAs c n k.standing k.loose → TellsEntries c x → HasSizes c n s → Settled x k → Ready s.shape x k → ReadsAs s.shape x.words s → StandsFor c n s
stands_for_ready c n s x k h tells sizes settled ready reads = stands_for_by c n s x x.words (restorable c n h.coherent) tells sizes ready.order.has_shape ready.order.named reads (λ disk m. record {
  low = λ b w low. h.blocks disk m b (ready.order.firm.low b low) w ∙ agrees.low b w low;
  owned = λ i t own w. h.blocks disk m _ (ready.order.firm.owned i t own) w ∙ agrees.owned i t own w;
})
  where
    agrees : Agrees (volume_layout s.shape x.words) x.words k.standing
    agrees = stands_agree (volume_layout s.shape x.words) x k settled ready.idle ready.order.firm

-- ---- a cache that starts where no entry is valid and the gate is 0

-- the blocks read as the state
pub reads_started : (c : Contents) (n : ℕ) (s : State) → AreWhole c → gate_of c.words ≡ 0 → StandsFor c n s → ReadsAs s.shape (reads c) s
reads_started c n s whole shut h = subst (λ f. ReadsAs s.shape f s) (stands_idle c (λ e. absurd (omega (arith, e, shut)))) (stands_with_reads c n s whole h).reads

-- no block is cached, none is loose where none is pending, and no update is open: the volume is ready
pub ready_started : (c : Contents) (n : ℕ) (s : State) (x : Seen) (k : Kept) → StandsFor c n s → ReadsAs s.shape x.words s → x.count ≡ length c.disk → ((b : ℕ) → x.cached b ≡ false) → ((b : ℕ) → k.loose b ≡ is_pending c.pending b) → k.updating ≡ false → ((b : ℕ) → is_pending c.pending b ≡ false) → Ready s.shape x k
ready_started c n s x k h reads count uncached loose idle none = record {
  order = record {
    has_shape = record { sizes = h.served.sizes; count = count ∙ h.blocks; unnamed = λ b low e. absurd (true_false (sym e ∙ uncached b)) };
    mapped = reads.mapped;
    named = record { each = λ i ino t has e. absurd (true_false (sym e ∙ uncached _)) };
    firm = record { low = λ b low. loose b ∙ none b; owned = λ i t own. loose _ ∙ none _ };
  };
  idle = idle;
}
