-- The state with one file of 5,000 bytes: which names and nodes it has, and its census.
use Rattle.rio_model.proofs.Common.{Bool, List, None, Option, Some, [], ap, arith, cases_eq, cond, entries, false, filter, get, inl, inr, insert, length, map, nat_cmp, range_with_len, refl, suc, sum, sym, true, zero, ℕ, ◌*◌, ◌+◌, ◌-◌, ◌≡◌, ◌≢◌, ◌≤◌, ◌∙◌, ◌∷◌, ◌⊎◌}
use Rattle.std.specs.FinMap.{empty, get-empty, len-empty, len-entries, put}
use Rattle.std.specs.Prelude.{Err, Ok, codes}
use Rattle.rio_base.specs.Shapes.{more_bitmap, reserved}
use Rattle.rio_model.specs.declared.census.Census.{Census}
use Rattle.rio_model.specs.declared.node.Node.{Node}
use Rattle.rio_model.specs.declared.node.Node.TheVariants.{Dir, File}
use Rattle.rio_model.specs.declared.state.State.{State}
use Rattle.rio_model.specs.Censuses.{IsCensus, is_file, is_region, node_count}
use Rattle.rio_model.specs.Fresh.{fresh_state}
use Rattle.rio_model.specs.Names.{NameKey, Names, name_cmp}
use Rattle.rio_model.specs.Nodes.{Nodes}
use Rattle.rio_model.specs.Paths.{from_found, is_dir, walk}
use Rattle.rio_model.specs.Sizes.{blocks_for, node_blocks, used_blocks}
use Rattle.rio_model.specs.States.{names_below, names_in, with_new}
use Rattle.rio_model.specs.VolumeRules.{TreeRule}
use Rattle.rio_model.proofs.CountRules.{sum_last}
use Rattle.rio_model.proofs.NameOrder.{name_entries-insert, name_get_same}
use Rattle.rio_model.proofs.NameRules.{row_put, some_none}
use Rattle.rio_model.proofs.StateSteps.{get_here, get_there}
use Rattle.volume_tests.proofs.FileVolume.{file_shape}

-- ---- the state

-- the root directory, and in it the file f, which is node 2
abbrev pub file_state : List ℕ → ℕ → ℕ → State
file_state bytes pages scratch = with_new (fresh_state file_shape pages scratch) 1 (codes "f") 2 (File bytes)

abbrev root_alone : Nodes
root_alone = insert empty 1 Dir

pub root_is : (bytes : List ℕ) (pages scratch : ℕ) → get (file_state bytes pages scratch).nodes 1 ≡ Some Dir
root_is bytes pages scratch = get_there root_alone 2 (File bytes) 1 (λ e. omega (arith, e)) ∙ get_here empty 1 Dir

pub file_is : (bytes : List ℕ) (pages scratch : ℕ) → get (file_state bytes pages scratch).nodes 2 ≡ Some (File bytes)
file_is bytes pages scratch = get_here root_alone 2 (File bytes)

pub no_more : (bytes : List ℕ) (pages scratch i : ℕ) → i ≢ 1 → i ≢ 2 → get (file_state bytes pages scratch).nodes i ≡ None
no_more bytes pages scratch i a b = get_there root_alone 2 (File bytes) i b ∙ get_there empty 1 Dir i a ∙ get-empty nat_cmp i

abbrev none_named : Names
none_named = empty

pub name_is : (bytes : List ℕ) (pages scratch : ℕ) → get (file_state bytes pages scratch).names (1, codes "f") ≡ Some 2
name_is bytes pages scratch = name_get_same none_named (1, codes "f") 2

-- there is no other name
pub name_only : (bytes : List ℕ) (pages scratch d i : ℕ) (name : List ℕ) → get (file_state bytes pages scratch).names (d, name) ≡ Some i → (d ≡ 1) × (name ≡ codes "f") × (i ≡ 2)
name_only bytes pages scratch d i name e = elim (row_put none_named (1, codes "f") 2 (d, name) i e) [
  | inl here ↦ (ap (λ (k : NameKey). k.0) here.0, ap (λ (k : NameKey). k.1) here.0, sym here.1)
  | inr beside ↦ absurd (some_none _ i (get-empty name_cmp (d, name)) beside.row)
]

-- the tree that rule 10 asks for
pub file_tree : (bytes : List ℕ) (pages scratch : ℕ) → TreeRule (file_state bytes pages scratch)
file_tree bytes pages scratch = record {
  root = λ d name e. let at = name_only bytes pages scratch d 1 name e in let two = at.2 in absurd (omega (arith, two));
  one = λ c d a b i p q. let x = name_only bytes pages scratch c i a p in let y = name_only bytes pages scratch d i b q in (x.0 ∙ sym y.0, x.1 ∙ sym y.1);
  reached = λ i some. way i some (cases_eq i 1) (cases_eq i 2);
}
  where
    s : State
    s = file_state bytes pages scratch

    to_file : walk s 1 (codes "f" ∷ []) ≡ Ok 2
    to_file = ap (λ o. cond (is_dir o) (from_found (get s.names (1, codes "f")) (λ j. walk s j [])) (Err 4)) (root_is bytes pages scratch) ∙ ap (λ o. from_found o (λ j. walk s j [])) (name_is bytes pages scratch)

    way : (i : ℕ) → get s.nodes i ≢ None → (i ≡ 1) ⊎ (i ≢ 1) → (i ≡ 2) ⊎ (i ≢ 2) → (names : List (List ℕ)) × (walk s 1 names ≡ Ok i)
    way i some (inl e) d = ([], ap Ok (sym e))
    way i some (inr a) (inl e) = (codes "f" ∷ [], to_file ∙ ap Ok (sym e))
    way i some (inr a) (inr b) = absurd (some (no_more bytes pages scratch i a b))

-- ---- its counts

nil : (es : List (NameKey × ℕ)) → length es ≡ 0 → es ≡ []
nil [] e = refl
nil (x ∷ es) e = absurd (omega (arith, e))

one_entry : entries (insert none_named (1, codes "f") 2) ≡ ((1, codes "f"), 2) ∷ []
one_entry = name_entries-insert none_named (1, codes "f") 2 ∙ ap (put name_cmp (1, codes "f") 2) (nil (entries none_named) (sym (len-entries none_named) ∙ len-empty name_cmp ℕ))

names_are : (bytes : List ℕ) (pages scratch : ℕ) → names_in (file_state bytes pages scratch) 1 ≡ codes "f" ∷ []
names_are bytes pages scratch = ap (λ (es : List (NameKey × ℕ)). names_below (map (λ e. e.0) es) 1) one_entry

none_pass : (test : ℕ → Bool) (n a : ℕ) → 3 ≤ a → ((i : ℕ) → 3 ≤ i → test i ≡ false) → filter test (range_with_len a n) ≡ []
none_pass test zero a from h = refl
none_pass test (suc n) a from h = ap (λ b. cond b (a ∷ filter test (range_with_len (a + 1) n)) (filter test (range_with_len (a + 1) n))) (h a from) ∙ none_pass test n (a + 1) (omega (arith, from)) h

abbrev of_two : Bool → Bool → List ℕ → List ℕ
of_two x y more = let rest = cond y (2 ∷ more) more in cond x (1 ∷ rest) rest

two_pass : (test : ℕ → Bool) (n : ℕ) (x y : Bool) → test 1 ≡ x → test 2 ≡ y → ((i : ℕ) → 3 ≤ i → test i ≡ false) → filter test (range_with_len 1 (suc (suc n))) ≡ of_two x y []
two_pass test n x y first second none =
    ap (λ b. of_two b (test 2) (filter test (range_with_len 3 n))) first ∙ ap (λ b. of_two x b (filter test (range_with_len 3 n))) second ∙ ap (of_two x y) (none_pass test n 3 (omega arith) none)

-- nodes of one sort are counted by the root and the file
counted : (test : Option Node → Bool) (bytes : List ℕ) (pages scratch : ℕ) (x y : Bool) → test (Some Dir) ≡ x → test (Some (File bytes)) ≡ y → test None ≡ false → node_count test (file_state bytes pages scratch) ≡ length (of_two x y [])
counted test bytes pages scratch x y dir file none =
    ap (λ (xs : List ℕ). length xs) (two_pass (λ i. test (get (file_state bytes pages scratch).nodes i)) 30 x y (ap test (root_is bytes pages scratch) ∙ dir) (ap test (file_is bytes pages scratch) ∙ file)
    (λ i from. ap test (no_more bytes pages scratch i (λ e. omega (arith, e, from)) (λ e. omega (arith, e, from))) ∙ none))

sum_two : (count : ℕ → ℕ) (n : ℕ) → ((i : ℕ) → 3 ≤ i → count i ≡ 0) → sum (map count (range_with_len 1 (suc (suc n)))) ≡ count 1 + count 2
sum_two count zero none = let one = sum_last count 0 1 in let two = sum_last count 1 1 in omega (arith, one, two)
sum_two count (suc n) none = let last = sum_last count (suc (suc n)) 1 in let no = none (1 + suc (suc n)) (omega arith) in let before = sum_two count n none in omega (arith, last, no, before)

-- the root has one block, the file two
used : (bytes : List ℕ) (pages scratch : ℕ) → length bytes ≡ 5000 → used_blocks (file_state bytes pages scratch) ≡ 3
used bytes pages scratch long = let all = sum_two (λ i. node_blocks s i (get s.nodes i)) 30 (λ i from. ap (node_blocks s i) (no_more bytes pages scratch i (λ e. omega (arith, e, from)) (λ e. omega (arith, e, from)))) in omega (arith, all, root, file)
  where
    s : State
    s = file_state bytes pages scratch

    root : node_blocks s 1 (get s.nodes 1) ≡ 1
    root = ap (node_blocks s 1) (root_is bytes pages scratch) ∙ ap (λ (ns : List (List ℕ)). blocks_for (64 * length ns)) (names_are bytes pages scratch)

    file : node_blocks s 2 (get s.nodes 2) ≡ 2
    file = ap (node_blocks s 2) (file_is bytes pages scratch) ∙ ap blocks_for long

-- ---- its census

-- of 16 blocks 3 are reserved
abbrev pub file_census : Census
file_census = record { shape = file_shape; dirs = 1; files = 1; regions = 0; used = 3; free = 10 }

pub file_counted : (bytes : List ℕ) (pages scratch : ℕ) → length bytes ≡ 5000 → IsCensus (file_state bytes pages scratch) file_census
unfolding more_bitmap
file_counted bytes pages scratch long = record {
  shape = refl;
  dirs = sym (counted is_dir bytes pages scratch true false refl refl refl);
  files = sym (counted is_file bytes pages scratch false true refl refl refl);
  regions = sym (counted is_region bytes pages scratch false false refl refl refl);
  used = sym (used bytes pages scratch long);
  free = ap (λ n. 16 - reserved file_shape - n) (sym (used bytes pages scratch long));
}

-- a state has one census
pub one_census : (s : State) (c d : Census) → IsCensus s c → IsCensus s d → c ≡ d
one_census s c d h k =
    let shape : c.shape ≡ d.shape = h.shape ∙ sym k.shape in
    let dirs : c.dirs ≡ d.dirs = h.dirs ∙ sym k.dirs in
    let files : c.files ≡ d.files = h.files ∙ sym k.files in
    let regions : c.regions ≡ d.regions = h.regions ∙ sym k.regions in
    let used : c.used ≡ d.used = h.used ∙ sym k.used in
    let free : c.free ≡ d.free = h.free ∙ sym k.free in
    λ i. record { shape = shape i; dirs = dirs i; files = files i; regions = regions i; used = used i; free = free i }

-- so no other is this one's
pub counted_only : (bytes : List ℕ) (pages scratch : ℕ) (c : Census) → length bytes ≡ 5000 → IsCensus (file_state bytes pages scratch) c → c ≡ file_census
counted_only bytes pages scratch c long h = one_census (file_state bytes pages scratch) c file_census h (file_counted bytes pages scratch long)
