-- Where the laws of trees begin: what a volume reads as, and what requests look at before they change a row.
use Rattle.request_ends.proofs.Common.{◌≡◌, ◌≢◌, ℕ, ◌%◌, ◌<◌, ◌≤◌, ◌==◌, ◌&&◌, Bool, false, true, cond, length, Option, refl, sym, ap, subst, ◌∙◌, arith, nat_le, nat_lt, get, nat_tests, Decides-eqb, true_false, VolumeShape, BlockWords, IsIno, Node, File, Region, State, names_in, Held, held, held_bytes, held_of, nothing, entry_ino, held_ino, is_dir, placed_at, volume_layout, node_in, region_in, Reads, ReadsAs, reads_dir, EntryRule, differs}
use Rattle.std.proofs.Common.{Some, None}
use Rattle.std.specs.Prelude.{if◌then◌else◌}
use Rattle.rio_model.specs.declared.node.Node.TheVariants.{Dir}
use Rattle.rio_model.proofs.FreeByState.{names_counted}
use Rattle.rio_model.proofs.NameRules.{same_some}
use Rattle.file_tree.proofs.RowCounts.{InShape, rows_fewer}
use Rattle.file_tree.proofs.TreeRules.{RowsFit, dir_used}

-- ---- of a volume

abbrev by_kind : Held → Option Node
by_kind h = if h.kind == 1 then Some Dir else if h.kind == 2 then Some (File (held_bytes h)) else Some (Region (region_in h.word))

node_some : (h : Held) → 0 < h.kind → node_in h ≢ None
node_some h used none = by (h.kind == 1) (h.kind == 2) _ _ _ (sym (ap (λ b. cond b None (by_kind h)) (differs h.kind 0 (λ free. omega (arith, used, free)))) ∙ none)
  where
    by : (one two : Bool) (a b c : Node) → cond one (Some a) (cond two (Some b) (Some c)) ≢ None
    by true two a b c e = cc (e)
    by false true a b c e = cc (e)
    by false false a b c e = cc (e)

-- entries that keep their rule are rows that fit
pub rows_fit : (h : ℕ → Held) (s : State) → Reads h s → EntryRule h → RowsFit s
rows_fit h s reads rule = record {
  used = λ d name i row none.
      let at = reads.names d name i row in
      let one = reads.entries d at.0 at.1 in
      let same = same_some _ (entry_ino (h d) at.0) i one (ap (λ n. get s.names (d, n)) at.2 ∙ row) in
      node_some (h (entry_ino (h d) at.0)) (rule.each d at.0 at.1).1 (sym (reads.nodes (entry_ino (h d) at.0)) ∙ ap (get s.nodes) same ∙ none);
  dirs = λ d name i row. let at = reads.names d name i row in ap is_dir (reads.nodes d ∙ reads_dir (h d) at.1.dir);
}

-- a node's inode is one of the volume
pub ino_of : (shape : VolumeShape) (f : BlockWords) (s : State) (i : ℕ) → ReadsAs shape f s → get s.nodes i ≢ None → IsIno shape i
ino_of shape f s i h used = by _ refl
  where
    by : (b : Bool) → (nat_le 1 i && nat_le i shape.inodes) ≡ b → IsIno shape i
    by true e = record { from = low shape.inodes e; to = high shape.inodes e }
      where
        low : (most : ℕ) → (nat_le 1 i && nat_le i most) ≡ true → 1 ≤ i
        low most t = grind (arith, nat_tests, t)

        high : (most : ℕ) → (nat_le 1 i && nat_le i most) ≡ true → i ≤ most
        high most t = grind (arith, nat_tests, t)
    by false e = absurd (used (h.reads.nodes i ∙ ap (λ b. node_in (cond b (held f (placed_at f i)) nothing)) e))

pub in_shape : (shape : VolumeShape) (f : BlockWords) (s : State) → ReadsAs shape f s → InShape s
in_shape shape f s h i used = let ino = ino_of shape f s i h used in subst (λ (v : VolumeShape). (1 ≤ i) × (i ≤ v.inodes)) (sym h.sizes) (ino.from, ino.to)

-- a directory of the state is held as one, and of a size that is whole entries
dir_kind : (h : Held) → is_dir (node_in h) ≡ true → h.kind ≡ 1
dir_kind h e = by _ _ _ refl e
  where
    by : (none one two : Bool) → (h.kind == 1) ≡ one → is_dir (cond none None (cond one (Some Dir) (cond two (Some (File (held_bytes h))) (Some (Region (region_in h.word)))))) ≡ true → h.kind ≡ 1
    by true one two is d = absurd (true_false (sym d))
    by false true two is d = (Decides-eqb h.kind 1).0 is
    by false false true is d = absurd (true_false (sym d))
    by false false false is d = absurd (true_false (sym d))

pub dir_whole : (shape : VolumeShape) (f : BlockWords) (s : State) (d : ℕ) → ReadsAs shape f s → IsIno shape d → (held_of shape f d).kind ≡ 1 → (held_of shape f d).size % 64 ≡ 0
dir_whole shape f s d h ino dir =
    let own = held_ino (volume_layout shape f) f d ino in
    let kind : (placed_at f d).kind ≡ 1 = sym (ap (λ (k : Held). k.kind) own) ∙ dir in
    let used : 0 < (placed_at f d).kind = omega (arith, kind) in
    let test : nat_lt 0 (placed_at f d).kind ≡ true = grind (arith, nat_tests, used) in
    ap (λ (k : Held). k.size % 64) own ∙ ap (λ b. cond b (placed_at f d).size 0 % 64) test ∙ (h.mapped.laid.sizes.each d ino used).directory kind

-- so it has fewer names than the volume has inodes, and one more would fit
pub names_few : (shape : VolumeShape) (f : BlockWords) (s : State) (d : ℕ) → ReadsAs shape f s → is_dir (get s.nodes d) ≡ true → length (names_in s d) < s.shape.inodes
names_few shape f s d h is =
    let dir = dir_kind (held_of shape f d) (sym (ap is_dir (h.reads.nodes d)) ∙ is) in
    let whole = dir_whole shape f s d h (ino_of shape f s d h (dir_used _ is)) dir in
    let many = names_counted (held_of shape f) s d h.reads h.apart dir whole in
    let few = rows_fewer (held_of shape f) s d h.reads h.apart h.tree (in_shape shape f s h) (rows_fit (held_of shape f) s h.reads h.entries) dir whole in
    omega (arith, many, few)
