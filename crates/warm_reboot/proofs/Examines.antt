-- What is found of memory and disk, and why nothing is.
use Rattle.page_restore.proofs.Common.{Bool, List, None, Option, Some, false, length, refl, ℕ, ◌+◌, ◌<◌, ◌≡◌, ap, arith, inl, inr, subst, sym, ◌∙◌, is_pending, slice_index, Contents, Running, frames_of, tag_at, tag_block, Restorable}
use Rattle.std.specs.Prelude.{Result, Err, IfOk, IfErr, ◌≤◌, true}
use Rattle.rio_base.specs.Blocks.{BlockWords, Ends}
use Rattle.rio_base.specs.Failures.{Rose}
use Rattle.rio_base.specs.Image.{HasHeader, registry_pages}
use Rattle.rio_base.specs.Rules.{true_false}
use Rattle.rio_base.specs.Shapes.{HasShape}
use Rattle.rio_base.specs.declared.failures.ReadFail.{ReadFail}
use Rattle.rio_base.specs.declared.failures.ReadFail.TheVariants.{Fault as ReadFault, Memory as ReadMemory, Stopped as ReadStopped}
use Rattle.rio_base.specs.declared.failures.VolFail.{VolFail}
use Rattle.rio_base.specs.declared.failures.VolFail.TheVariants.{Fault as VolumeFault, Stopped as VolumeStopped}
use Rattle.rio_base.specs.declared.places.Block.{Block}
use Rattle.rio_base.specs.declared.places.VolumeShape.{VolumeShape}
use Rattle.rio_base.proofs.Rules.{rose_later}
use Rattle.rio_model.specs.declared.census.Census.{Census}
use Rattle.rio_model.specs.declared.census.Owner.{Owner}
use Rattle.rio_model.specs.declared.state.State.{State}
use Rattle.rio_model.specs.Censuses.{HasOwners, IsCensus}
use Rattle.rio_model.specs.Cover.{MayLeave, stands, stands_on}
use Rattle.rio_model.specs.CoverLookups.{cover_same}
use Rattle.rio_model.specs.Held.{held_of}
use Rattle.rio_model.specs.Placed.{Layout, volume_layout}
use Rattle.rio_model.specs.Registry.{FailsRegistry, HasLayout, IsValid, KeepsRegistry, page_of_entry, scratch_of}
use Rattle.rio_model.specs.Standing.{EntriesFit, StandsFor, StandsWith}
use Rattle.rio_model.specs.VolumeFails.{FailsPair, FailsVolume, SaysShape}
use Rattle.rio_model.specs.VolumeReads.{ReadsAs}
use Rattle.rio_model.specs.VolumeRules.{IsLaid, KindRule, TreeRule}
use Rattle.rio_model.proofs.OneReading.{one_reading}
use Rattle.rio_model.proofs.StandingStates.{AreWhole, one_shape, stands_with_reads}
use Rattle.rio_model.proofs.StateSteps.{walk_kept}
use Rattle.rio_model.proofs.VolumeFailRules.{none_fails_standing}
use Rattle.page_restore.specs.Stale.{MarksStale}
use Rattle.warm_reboot.specs.declared.report.BootFail.{BootFail}
use Rattle.warm_reboot.specs.declared.report.BootFail.TheVariants.{BadImage, BadVolume, Fault, Memory, Stopped}
use Rattle.registry.specs.Views.{view_health, view_seen}
use Rattle.volume_check.specs.Looking.{Refuses}
use Rattle.volume_check.specs.declared.failures.CheckFail.{CheckFail}
use Rattle.volume_check.specs.declared.failures.CheckFail.TheVariants.{BadVolume as VolumeBad, Fault as CheckFault, Memory as CheckMemory, Stopped as CheckStopped}
use Rattle.region_recovery.specs.RegionLists.{region_inos}
use Rattle.warm_reboot.specs.Boots.{StandsNow}
use Rattle.warm_reboot.specs.Examining.{IsExamined, IsLeastMisfit, KnowsOwners, TellsNoRule, Unexamined, handed, refused, told}

-- ---- one state

-- the same nodes and names, with other sizes of memory
with_memory : State → ℕ → ℕ → State
with_memory s pages scratch = record s { pages = pages; scratch = scratch }

-- blocks that read as two states have one census
pub census_same : (shape : VolumeShape) (f : BlockWords) (s t : State) (c : Census) → ReadsAs shape f s → ReadsAs shape f t → IsCensus s c → IsCensus t c
unfolding with_memory
census_same shape f s t c h k is = subst (λ (x : State). IsCensus x c) same (record { shape = is.shape; dirs = is.dirs; files = is.files; regions = is.regions; used = is.used; free = is.free })
  where
    same : with_memory s t.pages t.scratch ≡ t
    same = one_reading (held_of shape f) (with_memory s t.pages t.scratch) t (record { nodes = h.reads.nodes; entries = h.reads.entries; names = h.reads.names; idle = h.reads.idle }) k.reads (h.sizes ∙ sym k.sizes) refl refl

-- the census is that of each state that memory and disk stand for
pub census_standing : (c : Contents) (n : ℕ) (census : Census) (s : State) → AreWhole c → IsExamined c census → StandsFor c n s → IsCensus s census
census_standing c n census s whole h stands_for = census_same s.shape (stands c) h.state s census (subst (λ (sh : VolumeShape). ReadsAs sh (stands c) h.state) shape h.reads.reads) with_reads.reads h.counts
  where
    with_reads : StandsWith c s c.disk
    with_reads = stands_with_reads c n s whole stands_for

    shape : h.state.shape ≡ s.shape
    shape = one_shape (stands c) h.state.shape s.shape h.reads.reads.mapped.superblock.words with_reads.reads.mapped.superblock.words

-- ---- what a look at the volume found

-- the blocks keep the rules 1 to 11, and read as a state with this census
abbrev pub HasRead : Contents → Census → Type 0
HasRead c census = (s : State) × ReadsAs census.shape (stands c) s × (census.shape.version ≡ 1) × (census.shape.blocks ≡ length c.disk) × IsCensus s census

says_read : (c : Contents) (census : Census) (h : HasRead c census) → SaysShape (stands c) (length c.disk) census.shape
says_read c census (s, reads, version, blocks, counts) = record { served = record { version = version; sizes = reads.mapped.superblock.sizes }; words = reads.mapped.superblock.words; blocks = sym blocks }

-- the regions may be listed
pub shape_read : (old mid : Contents) (r : Running) (census : Census) → HasRead old census → mid ≡ record old { faults = mid.faults } → HasShape census.shape (view_seen mid r)
shape_read old mid r census h rest = record {
  sizes = (says_read old census h).served.sizes;
  count = ap (λ (c : Contents). length c.disk) rest ∙ (says_read old census h).blocks;
  unnamed = λ b low cached. absurd (true_false (sym cached));
}

pub kinds_read : (old mid : Contents) (census : Census) → HasRead old census → mid ≡ record old { faults = mid.faults } → KindRule (volume_layout census.shape (stands mid))
kinds_read old mid census h rest = subst (λ (c : Contents). KindRule (volume_layout census.shape (stands c))) (sym rest) h.1.mapped.laid.kinds

pub regions_read : (old mid : Contents) (shape : VolumeShape) (list : List ℕ) → mid ≡ record old { faults = mid.faults } → list ≡ region_inos shape (stands mid) → list ≡ region_inos shape (stands old)
regions_read old mid shape list rest h = subst (λ (c : Contents). list ≡ region_inos shape (stands c)) rest h

-- an entry does not fit
pub fails_twelve : (old mid : Contents) (census : Census) (found : Option Block) (b : Block) → HasRead old census → mid ≡ record old { faults = mid.faults } → IsLeastMisfit (volume_layout census.shape (stands mid)) mid.words found → found ≡ Some b → FailsPair old 12 b.0
fails_twelve old mid census found b h rest least is = by h
  where
    at : IsLeastMisfit (volume_layout census.shape (stands old)) old.words (Some b)
    at = subst (IsLeastMisfit (volume_layout census.shape (stands old)) old.words) is (subst (λ (c : Contents). IsLeastMisfit (volume_layout census.shape (stands c)) c.words found) rest least)

    by : HasRead old census → FailsPair old 12 b.0
    by (s, reads, version, blocks, counts) = inr (
      s,
      subst (SaysShape (stands old) (length old.disk)) (sym reads.sizes) (says_read old census h),
      subst (λ (sh : VolumeShape). ReadsAs sh (stands old) s) (sym reads.sizes) reads,
      refl,
      subst (λ (sh : VolumeShape). IsLeastMisfit (volume_layout sh (stands old)) old.words (Some b)) (sym reads.sizes) at,
    )

no_misfit : (l : Layout) (words : List ℕ) (found : Option Block) → IsLeastMisfit l words found → ((b : Block) → found ≡ Some b → ⊥) → EntriesFit l words
no_misfit l words None h none = h
no_misfit l words (Some b) h none = absurd (none b refl)

-- all entries fit
pub is_examined : (old mid : Contents) (census : Census) (found : Option Block) → KeepsRegistry old.words → HasRead old census → mid ≡ record old { faults = mid.faults } → IsLeastMisfit (volume_layout census.shape (stands mid)) mid.words found → ((b : Block) → found ≡ Some b → ⊥) → IsExamined old census
is_examined old mid census found rules h rest least none = by h
  where
    fits : EntriesFit (volume_layout census.shape (stands old)) old.words
    fits = no_misfit (volume_layout census.shape (stands old)) old.words found (subst (λ (c : Contents). IsLeastMisfit (volume_layout census.shape (stands c)) c.words found) rest least) none

    by : HasRead old census → IsExamined old census
    by (s, reads, version, blocks, counts) = record {
      image = rules;
      state = s;
      says = subst (SaysShape (stands old) (length old.disk)) (sym reads.sizes) (says_read old census h);
      reads = record {
        reads = subst (λ (sh : VolumeShape). ReadsAs sh (stands old) s) (sym reads.sizes) reads;
        entries = subst (λ (sh : VolumeShape). EntriesFit (volume_layout sh (stands old)) old.words) (sym reads.sizes) fits;
      };
      counts = counts;
    }

pub marks_read : (old new : Contents) (l : Layout) (marks : List Bool) → new ≡ record old { faults = new.faults } → MarksStale l new.words marks → MarksStale l old.words marks
marks_read old new l marks rest h = subst (λ (c : Contents). MarksStale l c.words marks) rest h

-- the owners are those of the blocks
pub owners_read : (old mid : Contents) (census : Census) (owners xs : List Owner) → HasRead old census → mid ≡ record old { faults = mid.faults } → xs ≡ owners → HasOwners (volume_layout census.shape (stands old)) owners → KnowsOwners mid census.shape xs
owners_read old mid census owners xs h rest same has = record {
  served = (says_read old census h).served;
  count = ap (λ (c : Contents). length c.disk) rest ∙ (says_read old census h).blocks;
  laid = subst (λ (c : Contents). IsLaid (volume_layout census.shape (stands c))) (sym rest) h.1.mapped.laid;
  has = subst (λ (c : Contents). HasOwners (volume_layout census.shape (stands c)) xs) (sym rest) (subst (HasOwners (volume_layout census.shape (stands old))) (sym same) has);
}

-- each valid entry is of a block that has an owner
pub blocks_owned : (old mid new : Contents) (census : Census) (found : Option Block) (owners xs : List Owner) → HasRead old census → mid ≡ record old { faults = mid.faults } → IsLeastMisfit (volume_layout census.shape (stands mid)) mid.words found → ((b : Block) → found ≡ Some b → ⊥) → new ≡ record old { faults = new.faults } → xs ≡ owners → HasOwners (volume_layout census.shape (stands old)) owners → (k : ℕ) → IsValid new.words k → tag_block (tag_at new.words k) < length xs
blocks_owned old mid new census found owners xs h rest least none kept same has k valid =
    let l = volume_layout census.shape (stands old) in
    let fits : EntriesFit l old.words = no_misfit l old.words found (subst (λ (c : Contents). IsLeastMisfit (volume_layout census.shape (stands c)) c.words found) rest least) none in
    let words : new.words ≡ old.words = ap (λ (c : Contents). c.words) kept in
    let within : tag_block (tag_at old.words k) < l.shape.blocks = (fits.each k (subst (λ (ws : List ℕ). IsValid ws k) words valid)).within in
    let count : length xs ≡ l.shape.blocks = ap (λ (os : List Owner). length os) same ∙ has.count in
    subst (λ n. tag_block (tag_at new.words k) < n) (sym count) (subst (λ (ws : List ℕ). tag_block (tag_at ws k) < l.shape.blocks) (sym words) within)

-- ---- a part of the look failed

-- no answer is made then
pub none_made : {T E : Type 0} (r : Result T E) (e : E) (p : T → Type 0) → r ≡ Err e → IfOk r p
none_made {T} {E} r e p is = subst (λ (z : Result T E). IfOk z p) (sym is) tt

pub fails_so : {T : Type 0} (old new : Contents) (s : Running) (r : Result T BootFail) (e d : BootFail) → r ≡ Err e → e ≡ d → Unexamined old new s d → IfErr r (Unexamined old new s)
fails_so {T} old new s r e d is same h = subst (λ (z : Result T BootFail). IfErr z (Unexamined old new s)) (sym is) (subst (Unexamined old new s) (sym same) h)

pub volume_failed : (old new : Contents) (s : Running) (fail : CheckFail) → KeepsRegistry old.words → Refuses (FailsVolume (stands old) (length old.disk)) fail → (fail ≡ CheckFault → Rose old.faults.count new.faults.count) → (fail ≡ CheckStopped → s.stopped ≡ true) → Unexamined old new s (told fail)
volume_failed old new s (VolumeBad rule b) rules refuses fault stop = (rules, inl refuses)
volume_failed old new s CheckFault rules refuses fault stop = fault refl
volume_failed old new s CheckStopped rules refuses fault stop = stop refl
volume_failed old new s CheckMemory rules refuses fault stop = tt

pub misfit_failed : {T : Type 0} (old mid new : Contents) (q s : Running) (fail : VolFail) → old.faults.count ≤ mid.faults.count → Ends {T = T} (view_health mid q) (view_health new s) (Err fail) → Unexamined old new s (handed fail)
misfit_failed old mid new q s VolumeFault less ends = rose_later old.faults.count mid.faults.count new.faults.count less ends.cause.0
misfit_failed old mid new q s VolumeStopped less ends = ends.cause

pub list_failed : (old mid new : Contents) (s : Running) (fail : ReadFail) → old.faults.count ≤ mid.faults.count → (fail ≡ ReadFault → Rose mid.faults.count new.faults.count) → (fail ≡ ReadStopped → s.stopped ≡ true) → Unexamined old new s (refused fail)
list_failed old mid new s ReadFault less fault stop = rose_later old.faults.count mid.faults.count new.faults.count less (fault refl)
list_failed old mid new s ReadStopped less fault stop = stop refl
list_failed old mid new s ReadMemory less fault stop = tt

-- ---- where nothing is pending

restorable_found : (c : Contents) (scratch : List ℕ) (s : State) → HasHeader c.words → HasLayout c.words scratch → KeepsRegistry c.words → SaysShape (stands c) (length c.disk) s.shape → StandsWith c s c.disk → Restorable c (length scratch)
restorable_found c scratch s header layout rules says reads = record {
  header = header;
  sizes = layout.sizes;
  protected = layout.protected;
  scratch_pages = layout.scratch_pages;
  rules = rules;
  on_disk = λ k v. subst (λ (n : ℕ). tag_block (tag_at c.words k) < n) (sym says.blocks) (reads.entries.each k v).within;
}

pub restorable_examined : (c : Contents) (scratch : List ℕ) (census : Census) → HasHeader c.words → HasLayout c.words scratch → IsExamined c census → Restorable c (length scratch)
restorable_examined c scratch census header layout h = restorable_found c scratch h.state header layout h.image h.says h.reads

tree_memory : (s : State) (pages scratch : ℕ) → TreeRule s → TreeRule (with_memory s pages scratch)
unfolding with_memory
tree_memory s pages scratch h = record {
  root = h.root;
  one = h.one;
  reached = λ i some. (let way = h.reached i some in (way.0, walk_kept s (with_memory s pages scratch) (record { dirs = λ x e. e; names = λ k v e. e }) way.0 1 i way.1));
}

reads_memory : (shape : VolumeShape) (f : BlockWords) (s : State) (pages scratch : ℕ) → ReadsAs shape f s → ReadsAs shape f (with_memory s pages scratch)
unfolding with_memory
reads_memory shape f s pages scratch h = record {
  sizes = h.sizes;
  mapped = h.mapped;
  entries = h.entries;
  apart = h.apart;
  tree = tree_memory s pages scratch h.tree;
  regions = h.regions;
  reads = record { nodes = h.reads.nodes; entries = h.reads.entries; names = h.reads.names; idle = h.reads.idle };
}

stands_settled_word : (c : Contents) (disk : List (List ℕ)) (b w : ℕ) → MayLeave c disk → is_pending c.pending b ≡ false → stands_on c disk b w ≡ stands c b w
stands_settled_word c disk b w m told = cover_same (page_of_entry c.words) c.words c.disk (page_of_entry c.words) c.words disk b w (record {
  entry = refl;
  pages = λ j x e small. refl;
  homes = λ x e small. ap (λ (l : List ℕ). slice_index l x) (m.kept b told);
})

-- memory and disk stand for the state that they read as, with their sizes of memory
abbrev memory_pages : Contents → ℕ
memory_pages c = 17 + registry_pages (frames_of c.words) + frames_of c.words + scratch_of c.words

stands_read : (c : Contents) (scratch : List ℕ) (s : State) → HasHeader c.words → HasLayout c.words scratch → KeepsRegistry c.words → SaysShape (stands c) (length c.disk) s.shape → StandsWith c s c.disk → ((b : ℕ) → is_pending c.pending b ≡ false) → StandsFor c (length scratch) (with_memory s (memory_pages c) (scratch_of c.words))
unfolding with_memory
stands_read c scratch s header layout rules says reads none = record {
  image = restorable_found c scratch s header layout rules says reads;
  served = says.served;
  blocks = says.blocks;
  pages = omega (arith, layout.protected, layout.scratch_pages);
  scratch_pages = sym layout.scratch_pages;
  each = λ disk m. record {
    reads = subst (λ (f : BlockWords). ReadsAs s.shape f (with_memory s (memory_pages c) (scratch_of c.words))) (sym (same disk m)) (reads_memory s.shape (stands c) s (memory_pages c) (scratch_of c.words) reads.reads);
    entries = subst (λ (f : BlockWords). EntriesFit (volume_layout s.shape f) c.words) (sym (same disk m)) reads.entries;
  };
}
  where
    same : (disk : List (List ℕ)) → MayLeave c disk → stands_on c disk ≡ stands c
    same disk m = λ i b w. stands_settled_word c disk b w m (none b) i

pub stands_found : (c : Contents) (scratch : List ℕ) (s : State) → HasHeader c.words → HasLayout c.words scratch → KeepsRegistry c.words → StandsNow c s → ((b : ℕ) → is_pending c.pending b ≡ false) → (t : State) × StandsFor c (length scratch) t
stands_found c scratch s header layout rules h none = (with_memory s (memory_pages c) (scratch_of c.words), stands_read c scratch s header layout rules h.says h.reads none)

pub stands_settled : (c : Contents) (scratch : List ℕ) (census : Census) → HasHeader c.words → HasLayout c.words scratch → IsExamined c census → ((b : ℕ) → is_pending c.pending b ≡ false) → (s : State) × StandsFor c (length scratch) s × IsCensus s census
unfolding with_memory
stands_settled c scratch census header layout h none = (
  with_memory h.state (memory_pages c) (scratch_of c.words),
  stands_read c scratch h.state header layout h.image h.says h.reads none,
  record { shape = h.counts.shape; dirs = h.counts.dirs; files = h.counts.files; regions = h.counts.regions; used = h.counts.used; free = h.counts.free },
)

-- ---- where memory and disk stand for a state

pub none_registry : (words : List ℕ) (r : ℕ) → KeepsRegistry words → FailsRegistry words r → ⊥
none_registry words r h (inl x) = x.1 h.gate
none_registry words r h (inr (_, inl x)) = x.1 h.tags
none_registry words r h (inr (_, inr (_, inl x))) = x.1 h.blocks
none_registry words r h (inr (_, inr (_, inr (_, inl x)))) = x.1 h.metadata
none_registry words r h (inr (_, inr (_, inr (_, inr (_, inl x))))) = x.1 h.names
none_registry words r h (inr (_, inr (_, inr (_, inr (_, inr (_, inl x)))))) = x.1 h.sizes
none_registry words r h (inr (_, inr (_, inr (_, inr (_, inr (_, inr (_, inl x))))))) = x.1 h.shadows
none_registry words r h (inr (_, inr (_, inr (_, inr (_, inr (_, inr (_, inr (_, x)))))))) = x.1 h.apart

-- no rule is told
pub tells_none : (old new : Contents) (r : Running) (n : ℕ) (s : State) (fail : BootFail) → AreWhole old → StandsFor old n s → Unexamined old new r fail → TellsNoRule fail
tells_none old new r n s (BadImage rule) whole h x = none_registry old.words rule h.image.rules x
tells_none old new r n s (BadVolume rule b) whole h x = none_fails_standing old n s rule b.0 whole h x.1
tells_none old new r n s Fault whole h x = tt
tells_none old new r n s Stopped whole h x = tt
tells_none old new r n s Memory whole h x = tt
