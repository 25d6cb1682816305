-- The region at the end of a walk, or what is told where none is.
use Rattle.request_ends.proofs.Common.{◌≡◌, ◌≢◌, ℕ, ◌<◌, ◌⊎◌, List, refl, sym, ap, subst, ◌∙◌, arith, inl, inr, Result, Ok, Err, IsErrOf, Some, get, cases_eq, Ino, VolumeShape, BlockWords, Region, State, held_of, names_of, walk, reads_dir, reads_file, reads_region, ReadsAs, region_in, Inode}
use Rattle.rio_model.specs.declared.node.RegionNode.{RegionNode}
use Rattle.request_ends.specs.Failures.{Unrefused}
use Rattle.node_making.specs.NewNodes.{FindsRegion}
use Rattle.file_tree.specs.Walks.{Comes, ino_in}
use Rattle.request_ends.specs.declared.failures.FileFail.{FileFail}
use Rattle.request_ends.specs.declared.failures.FileFail.TheVariants.{Refused, Fault, Stopped, Memory}
use Rattle.region_view.proofs.UsedInodes.{kind_held, used_ino}

walk_as : (s : State) (path : List ℕ) (e : FileFail) → Comes (walk s 1 (names_of path)) (Err e) → FindsRegion s path (Err e)
walk_as s path (Refused c) h = inl h
walk_as s path (Fault k) h = h
walk_as s path Stopped h = tt
walk_as s path Memory h = h

-- the walk failed
pub found_walk : (s : State) (path : List ℕ) (r q : Result Ino FileFail) (e d : FileFail) → r ≡ Err e → q ≡ Err d → d ≡ e → Comes (walk s 1 (names_of path)) r → FindsRegion s path q
found_walk s path r q e d re qd de h = subst (λ (v : Result Ino FileFail). FindsRegion s path v) (sym (qd ∙ ap Err de)) (walk_as s path e (subst (λ (v : Result Ino FileFail). Comes (walk s 1 (names_of path)) v) re h))

inode_as : (T : Type 0) (s : State) (path : List ℕ) (e : FileFail) → Unrefused {T = T} (Err e) → FindsRegion s path (Err e)
inode_as T s path (Refused c) h = absurd h.1
inode_as T s path (Fault k) h = h
inode_as T s path Stopped h = tt
inode_as T s path Memory h = h

-- its inode could not be read
pub found_inode : {T : Type 0} (s : State) (path : List ℕ) (r : Result T FileFail) (q : Result Ino FileFail) (e d : FileFail) → r ≡ Err e → q ≡ Err d → d ≡ e → Unrefused r → FindsRegion s path q
found_inode {T = T} s path r q e d re qd de h = subst (λ (v : Result Ino FileFail). FindsRegion s path v) (sym (qd ∙ ap Err de)) (inode_as T s path e (subst (λ (v : Result T FileFail). Unrefused v) re h))

-- another node is there
no_region : (shape : VolumeShape) (f : BlockWords) (s : State) (i : ℕ) (r : RegionNode) → ReadsAs shape f s → 0 < (held_of shape f i).kind → (held_of shape f i).kind ≢ 3 → get s.nodes i ≡ Some (Region r) → ⊥
no_region shape f s i r reads used other is = by (cases_eq (held_of shape f i).kind 1) (cases_eq (held_of shape f i).kind 2)
  where
    by : ((held_of shape f i).kind ≡ 1) ⊎ ((held_of shape f i).kind ≢ 1) → ((held_of shape f i).kind ≡ 2) ⊎ ((held_of shape f i).kind ≢ 2) → ⊥
    by (inl dir) _ = absurd (cc (reads.reads.nodes i, reads_dir (held_of shape f i) dir, is))
    by (inr no_dir) (inl file) = absurd (cc (reads.reads.nodes i, reads_file (held_of shape f i) file, is))
    by (inr no_dir) (inr no_file) =
        let ino = used_ino shape f i used in
        let few = (reads.mapped.laid.kinds.each i ino).0 in
        let same = kind_held shape f i ino in
        other (omega (arith, few, same, used, no_dir, no_file))

pub found_other : (shape : VolumeShape) (f : BlockWords) (s : State) (path : List ℕ) (i : ℕ) → ReadsAs shape f s → walk s 1 (names_of path) ≡ Ok i → 0 < (held_of shape f i).kind → (held_of shape f i).kind ≢ 3 → FindsRegion s path (Err (Refused 8))
found_other shape f s path i reads at used other = inr (i, at, (λ r. no_region shape f s i r reads used other), refl)

-- a region is
pub found_region : (shape : VolumeShape) (f : BlockWords) (s : State) (path : List ℕ) (i : Ino) → ReadsAs shape f s → walk s 1 (names_of path) ≡ Ok i.0 → (held_of shape f i.0).kind ≡ 3 → FindsRegion s path (Ok i)
found_region shape f s path i reads at region = (at, (region_in (held_of shape f i.0).word, reads.reads.nodes i.0 ∙ reads_region (held_of shape f i.0) region))

-- where its inode is told too: that failed
pub found_on : (s : State) (path : List ℕ) (r : Result (Ino × Inode) FileFail) (q : Result Ino FileFail) (e d : FileFail) → r ≡ Err e → q ≡ Err d → d ≡ e → FindsRegion s path (ino_in r) → FindsRegion s path q
found_on s path r q e d re qd de h = subst (λ (v : Result Ino FileFail). FindsRegion s path v) (ap ino_in re ∙ sym (qd ∙ ap Err de)) h

-- ---- no memory is taken

walk_memory : (walked : Result ℕ ℕ) (e : FileFail) → Comes walked (Err e) → e ≡ Memory → ⊥
walk_memory walked (Refused c) h is = absurd (cc (is))
walk_memory walked (Fault k) h is = absurd (cc (is))
walk_memory walked Stopped h is = absurd (cc (is))
walk_memory walked Memory h is = h

pub found_memory : {U : Type 0} (walked : Result ℕ ℕ) (r : Result Ino FileFail) (q : Result U FileFail) (e d : FileFail) → r ≡ Err e → q ≡ Err d → d ≡ e → Comes walked r → IsErrOf q Memory → ⊥
found_memory walked r q e d re qd de h is = walk_memory walked e (subst (λ (v : Result Ino FileFail). Comes walked v) re h) (cc (qd, de, is))

inode_memory : (T : Type 0) (e : FileFail) → Unrefused {T = T} (Err e) → e ≡ Memory → ⊥
inode_memory T (Refused c) h is = absurd (cc (is))
inode_memory T (Fault k) h is = absurd (cc (is))
inode_memory T Stopped h is = absurd (cc (is))
inode_memory T Memory h is = h

pub read_memory : {T U : Type 0} (r : Result T FileFail) (q : Result U FileFail) (e d : FileFail) → r ≡ Err e → q ≡ Err d → d ≡ e → Unrefused r → IsErrOf q Memory → ⊥
read_memory {T = T} r q e d re qd de h is = inode_memory T e (subst (λ (v : Result T FileFail). Unrefused v) re h) (cc (qd, de, is))

pub memory_on : {T U : Type 0} (r : Result T FileFail) (q : Result U FileFail) (e d : FileFail) → r ≡ Err e → q ≡ Err d → d ≡ e → (IsErrOf r Memory → ⊥) → IsErrOf q Memory → ⊥
memory_on r q e d re qd de none is = none (cc (re, qd, de, is))
