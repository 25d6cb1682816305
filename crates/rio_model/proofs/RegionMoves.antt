-- What blocks read as, where the words of one region alone differ.
use Rattle.rio_model.proofs.Common.{◌≡◌, ◌≢◌, ℕ, ◌+◌, ◌*◌, ◌/◌, ◌⊎◌, inl, inr, false, Option, Some, None, map, range_with_len, sym, ap, subst, ◌∙◌, arith, get, insert, cases_eq, VolumeShape, BlockWords}
use Rattle.rio_base.specs.Regions.{RegionContent}
use Rattle.rio_model.specs.declared.node.Node.{Node}
use Rattle.rio_model.specs.declared.node.Node.TheVariants.{Region}
use Rattle.rio_model.specs.declared.node.RegionNode.{RegionNode}
use Rattle.rio_model.specs.declared.state.State.{State}
use Rattle.rio_model.specs.Heap.{IsSoundRegion, OfBlocks, heap_blocks}
use Rattle.rio_model.specs.Held.{Held, held_of}
use Rattle.rio_model.specs.Nodes.{Nodes}
use Rattle.rio_model.specs.Paths.{is_dir}
use Rattle.rio_model.specs.RegionMoves.{RestHeld, rest_refl}
use Rattle.rio_model.specs.States.{with_node}
use Rattle.rio_model.specs.Undo.{SameSizes, Undoes, before, map_pages}
use Rattle.rio_model.specs.VolumeReads.{ReadsAs, region_in}
use Rattle.rio_model.specs.VolumeRules.{IsMapped}
use Rattle.rio_model.proofs.NodeOrder.{same_nodes}
use Rattle.rio_model.proofs.StateSteps.{SetsNode, apart_set, entries_set, get_here, get_there, reads_set, tree_set}
use Rattle.rio_model.proofs.VolumeReadRules.{reads_region}

-- nothing reads otherwise
pub rest_same : (shape : VolumeShape) (i : ℕ) (f g : BlockWords) → g ≡ f → RestHeld shape i f g
rest_same shape i f g same = subst (RestHeld shape i f) (sym same) (rest_refl shape i f)

-- ---- the node that words say

-- a region of these sizes, by the words at its places
abbrev pub node : ℕ → ℕ → (ℕ → ℕ) → RegionNode
node undo pages words = record { words = map (λ q. words (512 * map_pages pages + q)) (range_with_len 0 (512 * pages)); undo = undo; blocks = heap_blocks words (64 * pages) }

pub node_same : (f g : RegionContent) (l m : ℕ → ℕ) → SameSizes f g → m ≡ l → node (g 1) (g 2) m ≡ node (f 1) (f 2) l
node_same f g l m s e = ap (λ u. node u (g 2) m) s.undo ∙ ap (λ d. node (f 1) d m) s.data_pages ∙ ap (node (f 1) (f 2)) e

-- where the words of before are as they were, so is the region
pub in_same : (n : ℕ) (f g : RegionContent) → Undoes n f g → region_in g ≡ region_in f
in_same n f g u = node_same f g (before f) (before g) u.sizes u.before

-- a region is sound still where its words of before are as they were
pub undoes_sound : (n : ℕ) (f g : RegionContent) → IsSoundRegion n f → Undoes n f g → IsSoundRegion n g
undoes_sound n f g sound u = record { region = u.region; heap = subst (λ l. OfBlocks l (g 2)) (sym u.before) (subst (OfBlocks (before f)) (sym u.sizes.data_pages) sound.heap) }

-- ---- the state

dir_region : (n : Option Node) (r : RegionNode) → n ≡ Some (Region r) → is_dir n ≡ false
dir_region n r e = ap is_dir e

some_region : (n : Option Node) (r : RegionNode) → n ≡ Some (Region r) → n ≢ None
some_region n r e z = cc (e, z)

-- the state with that region as its new words undo to
pub region_set : (shape : VolumeShape) (f g : BlockWords) (s : State) (i : ℕ) → ReadsAs shape f s → IsMapped shape g → RestHeld shape i f g → (held_of shape f i).kind ≡ 3 → IsSoundRegion ((held_of shape g i).size / 8) (held_of shape g i).word → ReadsAs shape g (with_node s i (Region (region_in (held_of shape g i).word)))
region_set shape f g s i h mapped rest kind sound = record {
  sizes = h.sizes;
  mapped = mapped;
  entries = entries_set _ _ i sets h.entries;
  apart = apart_set _ _ i sets h.apart;
  tree = tree_set s i (Region (region_in (held_of shape g i).word)) h.tree (dir_region _ _ is_region) (some_region _ _ is_region);
  regions = record { each = λ j three. one j three (cases_eq j i) };
  reads = reads_set _ _ s i (Region (region_in (held_of shape g i).word)) sets h.reads (reads_region (held_of shape g i) now);
}
  where
    now : (held_of shape g i).kind ≡ 3
    now = rest.kind ∙ kind

    sets : SetsNode (held_of shape f) (held_of shape g) i
    sets = record {
      others = rest.others;
      no_dir = λ e. omega (arith, kind, e);
      still_none = λ e. omega (arith, now, e);
      used = omega (arith, now);
    }

    is_region : get s.nodes i ≡ Some (Region (region_in (held_of shape f i).word))
    is_region = h.reads.nodes i ∙ reads_region (held_of shape f i) kind

    one : (j : ℕ) → (held_of shape g j).kind ≡ 3 → (j ≡ i) ⊎ (j ≢ i) → IsSoundRegion ((held_of shape g j).size / 8) (held_of shape g j).word
    one j three (inl e) = subst (λ x. IsSoundRegion ((held_of shape g x).size / 8) (held_of shape g x).word) (sym e) sound
    one j three (inr away) = subst (λ (x : Held). IsSoundRegion (x.size / 8) x.word) (sym (rest.others j away)) (h.regions.each j (sym (ap (λ (x : Held). x.kind) (rest.others j away)) ∙ three))

-- it is sound still
pub sound_after : (shape : VolumeShape) (f g : BlockWords) (s : State) (i : ℕ) → ReadsAs shape f s → RestHeld shape i f g → (held_of shape f i).kind ≡ 3 → Undoes ((held_of shape f i).size / 8) (held_of shape f i).word (held_of shape g i).word → IsSoundRegion ((held_of shape g i).size / 8) (held_of shape g i).word
sound_after shape f g s i h rest kind undoes = subst (λ n. IsSoundRegion (n / 8) (held_of shape g i).word) (sym rest.size) (undoes_sound ((held_of shape f i).size / 8) (held_of shape f i).word (held_of shape g i).word (h.regions.each i kind) undoes)

-- a node that is there may be set again
node_again : (s : State) (i : ℕ) (n : Node) → get s.nodes i ≡ Some n → with_node s i n ≡ s
node_again s i n is = ap (λ (m : Nodes). record s { nodes = m }) (same_nodes (insert s.nodes i n) s.nodes (λ j. by j (cases_eq j i)))
  where
    by : (j : ℕ) → (j ≡ i) ⊎ (j ≢ i) → get (insert s.nodes i n) j ≡ get s.nodes j
    by j (inl e) = ap (get (insert s.nodes i n)) e ∙ get_here s.nodes i n ∙ sym is ∙ ap (get s.nodes) (sym e)
    by j (inr away) = get_there s.nodes i n j away

-- one region's words undo to what they undid to: the blocks read as the same state
pub reads_recovered : (shape : VolumeShape) (f g : BlockWords) (s : State) (i : ℕ) → ReadsAs shape f s → IsMapped shape g → RestHeld shape i f g → (held_of shape f i).kind ≡ 3 → Undoes ((held_of shape f i).size / 8) (held_of shape f i).word (held_of shape g i).word → ReadsAs shape g s
reads_recovered shape f g s i h mapped rest kind undoes =
    let same = in_same ((held_of shape f i).size / 8) (held_of shape f i).word (held_of shape g i).word undoes in
    let there : get s.nodes i ≡ Some (Region (region_in (held_of shape g i).word)) = h.reads.nodes i ∙ reads_region (held_of shape f i) kind ∙ ap (λ q. Some (Region q)) (sym same) in
    subst (ReadsAs shape g) (node_again s i (Region (region_in (held_of shape g i).word)) there) (region_set shape f g s i h mapped rest kind (sound_after shape f g s i h rest kind undoes))
