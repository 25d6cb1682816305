-- Which inodes are regions, and which of them have undo records, is said by what the inodes hold.
use Rattle.std.specs.Prelude.{◌≡◌, ◌≢◌, ◌⊎◌, ℕ, ◌==◌, ◌≤◌, ◌&&◌, nat_le, Bool, true, false, Option, Some, cond, filter, length}
use Rattle.std.specs.List.{range_with_len}
use Rattle.std.proofs.Common.{◌∙◌, ap, arith, inl, inr, subst, sym}
use Rattle.std.proofs.lemmas.Bool.{cases_Bool, cases_eq}
use Rattle.std.proofs.lemmas.Bool.Decides.{nat_tests}
use Rattle.rio_base.specs.declared.places.VolumeShape.{VolumeShape}
use Rattle.rio_base.specs.Blocks.{BlockWords}
use Rattle.rio_model.specs.declared.node.Node.{Node}
use Rattle.rio_model.specs.declared.node.Node.TheVariants.{Region}
use Rattle.rio_model.specs.declared.state.State.{State}
use Rattle.rio_model.specs.Held.{Held, held, held_of, nothing}
use Rattle.rio_model.specs.Placed.{Agrees, placed_at, volume_layout}
use Rattle.rio_model.specs.Undo.{undo_records}
use Rattle.rio_model.specs.VolumeReads.{ReadsAs, node_in}
use Rattle.rio_model.specs.VolumeRules.{IsMapped}
use Rattle.rio_model.proofs.VolumeReadRules.{held_of_agree, reads_dir, reads_file, reads_none, reads_region}
use Rattle.region_recovery.specs.RegionLists.{is_region, is_some_record, region_inos, undone_count}

pub regions_held : (shape : VolumeShape) (f g : BlockWords) → held_of shape g ≡ held_of shape f → region_inos shape g ≡ region_inos shape f
unfolding region_inos
regions_held shape f g same = ap (λ (held : ℕ → Held). filter (λ i. (held i).kind == 3) (range_with_len 1 shape.inodes)) same

pub undone_held : (shape : VolumeShape) (f g : BlockWords) → held_of shape g ≡ held_of shape f → undone_count shape g ≡ undone_count shape f
unfolding region_inos
undone_held shape f g same = ap (λ (held : ℕ → Held). length (filter (λ i. is_some_record (undo_records (held i).word)) (filter (λ i. (held i).kind == 3) (range_with_len 1 shape.inodes)))) same

-- so both are the same of blocks that agree on all that is in use
pub regions_agree : (shape : VolumeShape) (f g : BlockWords) → IsMapped shape f → Agrees (volume_layout shape f) f g → region_inos shape g ≡ region_inos shape f
regions_agree shape f g mapped agrees = regions_held shape f g (held_of_agree shape f g mapped agrees)

pub undone_agree : (shape : VolumeShape) (f g : BlockWords) → IsMapped shape f → Agrees (volume_layout shape f) f g → undone_count shape g ≡ undone_count shape f
undone_agree shape f g mapped agrees = undone_held shape f g (held_of_agree shape f g mapped agrees)

-- ---- and by the state that blocks read as

abbrev region_node : Option Node → Bool
region_node (Some (Region r)) = true
region_node _ = false

by_node : (h : Held) → h.kind ≤ 3 → region_node (node_in h) ≡ (h.kind == 3)
by_node h most = by (cases_eq h.kind 0) (cases_eq h.kind 1) (cases_eq h.kind 2)
  where
    test : (k : ℕ) → h.kind ≡ k → (k == 3) ≡ (h.kind == 3)
    test k e = ap (λ n. n == 3) (sym e)

    three : h.kind ≢ 0 → h.kind ≢ 1 → h.kind ≢ 2 → h.kind ≡ 3
    three a b c = omega (arith, a, b, c, most)

    by : (h.kind ≡ 0) ⊎ (h.kind ≢ 0) → (h.kind ≡ 1) ⊎ (h.kind ≢ 1) → (h.kind ≡ 2) ⊎ (h.kind ≢ 2) → region_node (node_in h) ≡ (h.kind == 3)
    by (inl a) one two = ap region_node (reads_none h a) ∙ test 0 a
    by (inr a) (inl b) two = ap region_node (reads_dir h b) ∙ test 1 b
    by (inr a) (inr b) (inl c) = ap region_node (reads_file h c) ∙ test 2 c
    by (inr a) (inr b) (inr c) = let k = three a b c in ap region_node (reads_region h k) ∙ test 3 k

-- each kind that a volume holds is known
known_kind : (shape : VolumeShape) (f : BlockWords) (i : ℕ) → IsMapped shape f → (held_of shape f i).kind ≤ 3
known_kind shape f i mapped = by (cases_Bool (nat_le 1 i && nat_le i shape.inodes))
  where
    ino_of : (j n : ℕ) → (nat_le 1 j && nat_le j n) ≡ true → (1 ≤ j) × (j ≤ n)
    ino_of j n t = (grind (arith, nat_tests), grind (arith, nat_tests))

    by : ((nat_le 1 i && nat_le i shape.inodes) ≡ true) ⊎ ((nat_le 1 i && nat_le i shape.inodes) ≡ false) → (held_of shape f i).kind ≤ 3
    by (inl e) = subst (λ b. (cond b (held f (placed_at f i)) nothing).kind ≤ 3) (sym e) (let ino = ino_of i shape.inodes e in (mapped.laid.kinds.each i (record { from = ino.0; to = ino.1 })).0)
    by (inr e) = subst (λ b. (cond b (held f (placed_at f i)) nothing).kind ≤ 3) (sym e) (omega arith)

-- blocks that read as one state have the same regions
pub regions_by_state : (shape : VolumeShape) (f g : BlockWords) (s : State) → ReadsAs shape f s → ReadsAs shape g s → region_inos shape g ≡ region_inos shape f
unfolding region_inos
regions_by_state shape f g s one other = ap (λ (t : ℕ → Bool). filter t (range_with_len 1 shape.inodes)) (λ k i. same i k)
  where
    same : (i : ℕ) → is_region shape g i ≡ is_region shape f i
    same i =
        sym (by_node (held_of shape g i) (known_kind shape g i other.mapped))
        ∙ ap region_node (sym (other.reads.nodes i) ∙ one.reads.nodes i)
        ∙ by_node (held_of shape f i) (known_kind shape f i one.mapped)
