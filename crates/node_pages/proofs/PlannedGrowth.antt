-- A growth that is planned: what the calls give that plan it is a change to the larger size.
use Rattle.node_pages.proofs.Common.{◌≡◌, ℕ, ◌+◌, ◌-◌, ◌%◌, ◌^◌, ◌<◌, ◌≤◌, List, [], length, map, refl, sym, ap, subst, ◌∙◌, arith, slice_index, Block, VolumeShape, BlockWords, Seen, IsIno, Kept, numbers, Inode, one_table, Takes, grown, AtPage, Placed, placed_at, volume_layout, IsFree, pages, tables, run_edits, IsLaid, SizeFits}
use Rattle.node_pages.specs.Changes.{Apart, Grows, PlansFor, given_node, new_direct, new_word, wanted_blocks, word_edit}
use Rattle.node_pages.specs.Staging.{Zeroed, taken_name}
use Rattle.node_pages.specs.declared.changes.Edit.{Edit}
use Rattle.node_pages.specs.declared.changes.SizeChange.{SizeChange}
use Rattle.node_pages.proofs.Given.{Given, given_of}
use Rattle.node_pages.proofs.GrowingLaws.{end_word, first_word}
use Rattle.node_pages.proofs.Grown.{Made, made_grows, made_table}
use Rattle.node_pages.proofs.Listed.{as_many}
use Rattle.node_pages.proofs.Planned.{direct_as, edits_as, edits_table, staged_of, wanted_count, zeroed_as}

pub planned_growth : (shape : VolumeShape) (f : BlockWords) (y : Seen) (j : Kept) (i : ℕ) (given : Inode) (len last table have want : ℕ) (bs cs : List Block) (inode : Inode) (edits : List Edit) (freed : List Block) (w n : ℕ) → IsLaid (volume_layout shape f) → IsIno shape i → PlansFor f i given → given.size ≤ len → SizeFits given.kind len → length cs ≡ wanted_blocks given.size len → ((t : ℕ) → t < length cs → IsFree (volume_layout shape f) (slice_index (numbers cs) t)) → Apart (numbers cs) → have ≡ pages given.size → want ≡ pages len → bs ≡ cs → (24 < pages given.size → pages given.size % 2 ≡ 1 → last ≡ (placed_at f i).block (AtPage (pages given.size - 1))) → last < 2 ^ 32 → (want - have < length bs → table ≡ slice_index (numbers bs) (want - have)) → (length bs ≤ want - have → table ≡ given.indirect) → inode.kind ≡ given.kind → inode.size ≡ len → ((p : ℕ) → p < 24 → slice_index inode.direct p ≡ new_direct given.direct have want (numbers bs) p) → inode.indirect ≡ table → map word_edit edits ≡ run_edits table (new_word last have want (numbers bs)) w n → w ≡ first_word (pages given.size) → n ≡ end_word (pages len) - first_word (pages given.size) → numbers freed ≡ [] → Zeroed (numbers bs) (taken_name i given.kind have (want - have) len) (length bs) y j → Grows shape f y j i given len (numbers cs) (record { inode = inode; edits = edits; taken = cs; freed = freed })
planned_growth shape f y j i given len last table have want bs cs inode edits freed w n laid ino plans grows fits count free apart have_is want_is same last_is last_fits new old kind size direct indirect edits_is from_is count_is none zeroed = record {
  turns = made_grows shape f i given len last table made parts;
  taken = refl;
  takes = takes;
  tables = edits_table (grown node len (numbers cs)) table (first_word (pages given.size)) (new_word last (pages given.size) (pages len) (numbers cs)) (end_word (pages len) - first_word (pages given.size)) edits parts.edits
      (λ some. record { used = all.used; within = subst (λ (x : ℕ). 0 < x) (sym (one_table len (omega (arith, some)))) (omega arith) })
      (λ has. made_table shape f i given len last table made parts 0 has)
      (let most = fits.most in omega (arith, most));
  staged = staged_of (volume_layout shape f) i node len (numbers cs) y j (λ s has. record { node = i; slot = s; owns = record { ino = ino; slot = all.back s has }; is = refl }) takes
      (zeroed_as y j (numbers bs) (numbers cs) i given.kind have (pages given.size) (want - have) (pages len - pages given.size) len (length bs) (length (numbers cs)) (ap numbers same) have_is (λ p. (want_is p) - (have_is p)) (ap length same ∙ sym (as_many cs)) zeroed);
}
  where
    node : Placed
    node = given_node f i given

    all : Given f i given
    all = given_of f i given plans

    made : SizeChange
    made = record { inode = inode; edits = edits; taken = cs; freed = freed }

    many : length (numbers cs) ≡ (pages len - pages given.size) + (tables len - tables given.size)
    many = as_many cs ∙ count ∙ wanted_count given.size len grows

    long : length bs ≡ (pages len - pages given.size) + (tables len - tables given.size)
    long = ap length same ∙ sym (as_many cs) ∙ many

    takes : Takes (volume_layout shape f) node len (numbers cs)
    takes = record {
      grows = grows;
      most = fits.most;
      count = many;
      free = λ t few. free t (subst (λ (m : ℕ). t < m) (as_many cs) few);
      apart = apart;
    }

    parts : Made shape f i given len last table made
    parts = record {
      laid = laid;
      ino = ino;
      plans = plans;
      fits = fits;
      takes = takes;
      last_is = last_is;
      last_fits = last_fits;
      new_table = λ one. new (omega (arith, one, long, have_is, want_is)) ∙ (λ p. slice_index (numbers (same p)) ((want_is p) - (have_is p)));
      old_table = λ none. old (omega (arith, none, long, have_is, want_is));
      kind = kind;
      size = size;
      direct = λ p few. direct p few ∙ direct_as given.direct have (pages given.size) want (pages len) p (numbers bs) (numbers cs) have_is want_is (ap numbers same);
      indirect = indirect;
      edits = edits_is ∙ edits_as table last have (pages given.size) want (pages len) w (first_word (pages given.size)) n (end_word (pages len) - first_word (pages given.size)) (numbers bs) (numbers cs) have_is want_is from_is count_is (ap numbers same);
      freed = none;
    }
