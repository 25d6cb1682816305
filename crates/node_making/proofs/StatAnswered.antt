-- What is told of the node at a path, by its inode and the bytes that were counted.
use Rattle.request_ends.proofs.Common.{◌≡◌, ◌≢◌, ℕ, ◌*◌, ◌<◌, ◌⊎◌, List, sym, ap, ◌∙◌, arith, inl, inr, Result, Ok, get, cases_eq, VolumeShape, BlockWords, IsIno, State, answered, at_inode, names_in, Held, held_bytes, held_of, names_of, walk, reads_dir, reads_file, reads_region, ReadsAs, node_in, region_in, Inode, IsInode, length-map-range_with_len}
use Rattle.rio_model.specs.Sizes.{data_pages}
use Rattle.std.specs.Prelude.{length}
use Rattle.rio_requests.specs.declared.reply.Reply.TheVariants.{Stat}
use Rattle.rio_model.specs.Held.{byte_in}
use Rattle.rio_requests.specs.Answers.{stat, stat_node}
use Rattle.region_view.proofs.UsedInodes.{kind_held, used_ino}
use Rattle.file_tree.proofs.LookedAt.{file_left, inode_kind_held}
use Rattle.region_view.proofs.RegionHeader.{pages_read, used_size}
use Rattle.file_tree.proofs.RowRoom.{dir_size}

-- the bytes that are told of a node: its size, but of a region those of its data pages
pub record BytesTold (h : Held) (n : Inode) (bytes : ℕ) : Type 0 where
  pub region : n.kind ≡ 3 → bytes ≡ 4096 * h.word 2
  pub other : n.kind ≢ 3 → bytes ≡ n.size

pub stat_answer : (shape : VolumeShape) (f : BlockWords) (s : State) (path : List ℕ) (i : ℕ) (n : Inode) (bytes : ℕ) → ReadsAs shape f s → walk s 1 (names_of path) ≡ Ok i → 0 < (held_of shape f i).kind → IsInode f i n → BytesTold (held_of shape f i) n bytes → stat s path ≡ answered s (Stat (record { 0 = i }) n.kind bytes)
stat_answer shape f s path i n bytes reads at used is told =
    ap (λ (w : Result ℕ ℕ). at_inode s w (λ j. stat_node s j (get s.nodes j))) at
    ∙ ap (stat_node s i) (reads.reads.nodes i)
    ∙ by (cases_eq (held_of shape f i).kind 1) (cases_eq (held_of shape f i).kind 3)
  where
    h : Held
    h = held_of shape f i

    kind : n.kind ≡ h.kind
    kind = inode_kind_held shape f i n used is

    ino : IsIno shape i
    ino = used_ino shape f i used

    size : n.size ≡ h.size
    size = is.size ∙ sym (used_size shape f i ino (let same = kind_held shape f i ino in omega (arith, same, used)))

    tell : (k b : ℕ) → h.kind ≡ k → bytes ≡ b → answered s (Stat (record { 0 = i }) k b) ≡ answered s (Stat (record { 0 = i }) n.kind bytes)
    tell k b is_kind is_bytes =
        let one : k ≡ n.kind = sym is_kind ∙ sym kind in
        let two : b ≡ bytes = sym is_bytes in
        (λ q. answered s (Stat (record { 0 = i }) (one q) (two q)))

    file : h.kind ≡ 2 → stat_node s i (node_in h) ≡ answered s (Stat (record { 0 = i }) n.kind bytes)
    file is_file =
        let long : length (held_bytes h) ≡ h.size = length-map-range_with_len (byte_in h.word) 0 h.size in
        ap (stat_node s i) (reads_file h is_file) ∙ tell 2 (length (held_bytes h)) is_file (told.other (λ three. omega (arith, kind, is_file, three)) ∙ size ∙ sym long)

    by : ((h.kind ≡ 1) ⊎ (h.kind ≢ 1)) → ((h.kind ≡ 3) ⊎ (h.kind ≢ 3)) → stat_node s i (node_in h) ≡ answered s (Stat (record { 0 = i }) n.kind bytes)
    by (inl dir) _ = ap (stat_node s i) (reads_dir h dir) ∙ tell 1 (64 * length (names_in s i)) dir (told.other (λ three. omega (arith, kind, dir, three)) ∙ size ∙ sym (dir_size shape f s i reads dir))
    by (inr no_dir) (inl region) = ap (stat_node s i) (reads_region h region) ∙ tell 3 (4096 * data_pages (region_in h.word)) region (told.region (kind ∙ region) ∙ ap (λ p. 4096 * p) (sym (pages_read h.word)))
    by (inr no_dir) (inr no_region) = file (file_left shape f s i reads used no_dir no_region)
