-- The blocks that a state's nodes take are those that the volume's nodes have, so the free ones are as many.
use Rattle.rio_model.proofs.Common.{◌≡◌, ◌≢◌, ℕ, zero, suc, ◌+◌, ◌-◌, ◌*◌, ◌/◌, ◌%◌, ◌<◌, ◌≤◌, ◌==◌, ◌&&◌, Bool, true, false, cond, List, [], ◌∷◌, map, Option, refl, sym, ap, subst, ◌∙◌, arith, inl, inr, nat_lt, filter, sum, range_with_len, get, entries, eq_by_cmp, is_eq, Ordering, Equal, cases_Bool, nat_tests, Decides-eqb, true_false, VolumeShape, BlockWords, IsIno, reserved}
use Rattle.std.proofs.Common.{length, get_or, Some, None}
use Rattle.std.specs.Prelude.{is_some, T}
use Rattle.std.specs.List.{AllByRecursion, IsDistinct, list_any}
use Rattle.std.specs.Cmp.{eq_by_cmp_equiv}
use Rattle.std.specs.FinMap.{keys, entries_sorted, is_sorted, contains_key-keys}
use Rattle.std.specs.FinMap.Entries.{below_all}
use Rattle.std.specs.Ordering.{is_lt}
use Rattle.std.specs.declared.cmp.Ordering.TheVariants.{Less, Greater}
use Rattle.std.proofs.lemmas.List.{length-map}
use Rattle.std.proofs.lemmas.List.Folds.{Any-from_list_any, list_any_at}
use Rattle.std.proofs.lemmas.List.FromFn.{length-map-range_with_len, get_or-map-range_with_len}
use Rattle.std.proofs.lemmas.Map.Keys.{IsDistinct-from_apart}
use Rattle.std.proofs.lemmas.Map.Made.{length-from_same_keys, is_member-filter}
use Rattle.rio_base.specs.Bitmap.{free_blocks}
use Rattle.rio_model.specs.declared.node.Node.{Node}
use Rattle.rio_model.specs.declared.node.Node.TheVariants.{Dir, File, Region}
use Rattle.rio_model.specs.declared.state.State.{State}
use Rattle.rio_model.specs.States.{names_in}
use Rattle.rio_model.proofs.CountRules.{free_by_layout}
use Rattle.rio_model.specs.Held.{Held, held, held_of, byte_in, entry_name, HasEntry, held_ino}
use Rattle.rio_model.specs.Names.{NameKey, Names, name_cmp}
use Rattle.rio_model.specs.Placed.{Placed, placed_at, volume_layout}
use Rattle.rio_model.proofs.PlacedRules.{placed_blocks, layout_blocks}
use Rattle.rio_model.specs.Sizes.{blocks_for, free_count, node_blocks, used_blocks}
use Rattle.rio_model.specs.Undo.{before, data_from, region_words}
use Rattle.rio_model.specs.VolumeReads.{Reads, ReadsAs}
use Rattle.rio_model.proofs.VolumeReadRules.{reads_none, reads_dir, reads_file, reads_region}
use Rattle.rio_model.specs.VolumeRules.{NamesApartRule, SizeFits}
use Rattle.rio_model.proofs.WordRules.{itself, same_map}
use Rattle.rio_model.proofs.NameOrder.{name_total, name_exact, name_itself}

abbrev same_key : NameKey → NameKey → Bool
same_key = eq_by_cmp name_cmp

key_of : (a b : NameKey) → same_key a b ≡ true → a ≡ b
key_of a b e = name_exact a b (equal _ e)
  where
    equal : (o : Ordering) → is_eq o ≡ true → o ≡ Equal
    equal Less h = absurd (true_false (sym h))
    equal Equal h = refl
    equal Greater h = absurd (true_false (sym h))

keys_apart : (a b : NameKey) → a ≢ b → same_key a b ≡ false
keys_apart a b away = elim (cases_Bool (same_key a b)) [
  | inl same ↦ absurd (away (key_of a b same))
  | inr other ↦ other
]

-- ---- the keys of a map of names are distinct

first_of : (a b : Bool) → T (a && b) → T a
first_of true b p = tt
first_of false b p = absurd p

rest_of : (a b : Bool) → T (a && b) → T b
rest_of true b p = p
rest_of false b p = absurd p

below : (o : Ordering) → T (is_lt o) → is_eq o ≡ false
below Less p = refl
below Equal p = absurd p
below Greater p = absurd p

apart_below : (k : NameKey) (es : List (NameKey × ℕ)) → T (below_all name_cmp k es) → AllByRecursion (λ y. same_key k y ≡ false) (map (λ e. e.0) es)
apart_below k [] h = tt
apart_below k (e ∷ es) h = (below _ (first_of _ _ h), apart_below k es (rest_of _ _ h))

distinct_entries : (es : List (NameKey × ℕ)) → T (is_sorted name_cmp es) → IsDistinct same_key (map (λ e. e.0) es)
unfolding IsDistinct
distinct_entries [] h = tt
distinct_entries (e ∷ es) h = (apart_below e.0 es (first_of _ _ h), distinct_entries es (rest_of _ _ h))

distinct_keys : (m : Names) → IsDistinct same_key (keys m)
distinct_keys m = distinct_entries (entries m) (entries_sorted m)

apart_cond : (k x : NameKey) (ys : List NameKey) (b : Bool) → same_key k x ≡ false → AllByRecursion (λ y. same_key k y ≡ false) ys → AllByRecursion (λ y. same_key k y ≡ false) (cond b (x ∷ ys) ys)
apart_cond k x ys true e h = (e, h)
apart_cond k x ys false e h = h

apart_filter : (test : NameKey → Bool) (k : NameKey) (ks : List NameKey) → AllByRecursion (λ y. same_key k y ≡ false) ks → AllByRecursion (λ y. same_key k y ≡ false) (filter test ks)
apart_filter test k [] h = tt
apart_filter test k (x ∷ xs) h = apart_cond k x (filter test xs) (test x) h.0 (apart_filter test k xs h.1)

distinct_cond : (x : NameKey) (ys : List NameKey) (b : Bool) → AllByRecursion (λ y. same_key x y ≡ false) ys → IsDistinct same_key ys → IsDistinct same_key (cond b (x ∷ ys) ys)
unfolding IsDistinct
distinct_cond x ys true e h = (e, h)
distinct_cond x ys false e h = h

distinct_filter : (test : NameKey → Bool) (ks : List NameKey) → IsDistinct same_key ks → IsDistinct same_key (filter test ks)
unfolding IsDistinct
distinct_filter test [] h = tt
distinct_filter test (x ∷ xs) h = distinct_cond x (filter test xs) (test x) (apart_filter test x xs h.0) (distinct_filter test xs h.1)

-- ---- a directory has as many names as entries

abbrev entry_key : (ℕ → Held) → ℕ → ℕ → NameKey
entry_key h d j = (d, entry_name (h d) j)

abbrev entry_keys : (ℕ → Held) → ℕ → ℕ → List NameKey
entry_keys h d n = map (entry_key h d) (range_with_len 0 n)

abbrev below_keys : State → ℕ → List NameKey
below_keys s d = filter (λ (key : NameKey). key.0 == d) (keys s.names)

some_of : (o : Option ℕ) (i : ℕ) → o ≡ Some i → is_some o ≡ true
some_of o i e = ap is_some e

value_of : (o : Option ℕ) → is_some o ≡ true → (i : ℕ) × (o ≡ Some i)
value_of (Some i) h = (i, refl)
value_of None h = absurd (true_false (sym h))

and_both : (a b : Bool) → a ≡ true → b ≡ true → (a && b) ≡ true
and_both true b x y = y
and_both false b x y = x

same_answer : (a b : Bool) → (a ≡ true → b ≡ true) → (b ≡ true → a ≡ true) → a ≡ b
same_answer true b x y = sym (x refl)
same_answer false true x y = y refl
same_answer false false x y = refl

and_first : (a b : Bool) → (a && b) ≡ true → a ≡ true
and_first true b e = refl
and_first false b e = e

and_second : (a b : Bool) → (a && b) ≡ true → b ≡ true
and_second true b e = e
and_second false b e = absurd (true_false (sym e))

below_member : (s : State) (d : ℕ) (q : NameKey) → list_any (same_key q) (below_keys s d) ≡ (list_any (same_key q) (keys s.names) && (q.0 == d))
below_member s d q = is_member-filter (eq_by_cmp_equiv name_total) (λ (key : NameKey). key.0 == d) q (λ x e. ap (λ (k : NameKey). k.0 == d) (key_of q x e)) (keys s.names)

entry_below : (h : ℕ → Held) (s : State) (d n : ℕ) (q : NameKey) → Reads h s → (h d).kind ≡ 1 → 64 * n ≡ (h d).size → list_any (same_key q) (entry_keys h d n) ≡ true → list_any (same_key q) (below_keys s d) ≡ true
entry_below h s d n q r dir size member =
    let at = Any-from_list_any (same_key q) (entry_keys h d n) member in
    let within : at.0 < n = (let long = at.2 in omega (arith, long, length-map-range_with_len (entry_key h d) 0 n)) in
    let key : q ≡ (d, entry_name (h d) at.0) = key_of q at.1 at.4 ∙ sym at.3 ∙ get_or-map-range_with_len (entry_key h d) 0 n at.0 at.0 at.1 within (omega arith) in
    let has : HasEntry h d at.0 = record { dir = dir; within = omega (arith, within, size) } in
    let named = ap (get s.names) key ∙ r.entries d at.0 has in
    below_member s d q ∙ and_both _ _ (sym (contains_key-keys s.names q) ∙ some_of _ _ named) (ap (λ (k : NameKey). k.0 == d) key ∙ itself d)

below_entry : (h : ℕ → Held) (s : State) (d n : ℕ) (q : NameKey) → Reads h s → 64 * n ≡ (h d).size → list_any (same_key q) (below_keys s d) ≡ true → list_any (same_key q) (entry_keys h d n) ≡ true
below_entry h s d n q r size member =
    let both = sym (below_member s d q) ∙ member in
    let dir : q.0 ≡ d = (Decides-eqb q.0 d).0 (and_second _ _ both) in
    let some = value_of (get s.names q) (contains_key-keys s.names q ∙ and_first _ _ both) in
    let at = r.names q.0 q.1 some.0 some.1 in
    let has : HasEntry h d at.0 = subst (λ x. HasEntry h x at.0) dir at.1 in
    let within : at.0 < n = (let inside = has.within in omega (arith, inside, size)) in
    let name : entry_name (h d) at.0 ≡ q.1 = ap (λ x. entry_name (h x) at.0) (sym dir) ∙ at.2 in
    let key : ◌≡◌ {A = NameKey} (d, entry_name (h d) at.0) q = (λ t. (sym dir t, name t)) in
    list_any_at (same_key q) (entry_keys h d n) at.0 q (omega (arith, within, length-map-range_with_len (entry_key h d) 0 n)) (ap (same_key q) (get_or-map-range_with_len (entry_key h d) 0 n at.0 at.0 q within (omega arith) ∙ key) ∙ name_itself q)

entries_distinct : (h : ℕ → Held) (d n : ℕ) → NamesApartRule h → (h d).kind ≡ 1 → 64 * n ≡ (h d).size → IsDistinct same_key (entry_keys h d n)
entries_distinct h d n apart dir size = IsDistinct-from_apart same_key (entry_keys h d n) (λ i j k less within.
    let inside : j < n = omega (arith, within, length-map-range_with_len (entry_key h d) 0 n) in
    let one = get_or-map-range_with_len (entry_key h d) 0 n i i k (omega (arith, less, inside)) (omega arith) in
    let two = get_or-map-range_with_len (entry_key h d) 0 n j j k inside (omega arith) in
    let hi : HasEntry h d i = record { dir = dir; within = omega (arith, less, inside, size) } in
    let hj : HasEntry h d j = record { dir = dir; within = omega (arith, inside, size) } in
    ap (λ x. same_key x (get_or (entry_keys h d n) j k)) one ∙ ap (same_key (d, entry_name (h d) i)) two ∙ keys_apart (d, entry_name (h d) i) (d, entry_name (h d) j) (λ e. let same = apart.each d i j hi hj (ap (λ (q : NameKey). q.1) e) in omega (arith, same, less)))

pub names_counted : (h : ℕ → Held) (s : State) (d : ℕ) → Reads h s → NamesApartRule h → (h d).kind ≡ 1 → (h d).size % 64 ≡ 0 → 64 * length (names_in s d) ≡ (h d).size
names_counted h s d r apart dir whole =
    let n = (h d).size / 64 in
    let size : 64 * n ≡ (h d).size = omega (arith, whole) in
    let same = length-from_same_keys (eq_by_cmp_equiv name_total) (entry_keys h d n) (below_keys s d) (entries_distinct h d n apart dir size) (distinct_filter (λ (key : NameKey). key.0 == d) (keys s.names) (distinct_keys s.names)) (λ q. same_answer _ _ (entry_below h s d n q r dir size) (below_entry h s d n q r size)) in
    let many = length-map-range_with_len (entry_key h d) 0 n in
    let names = length-map (below_keys s d) (λ (key : NameKey). key.1) in
    omega (arith, same, many, names, size)

-- ---- the blocks of one node

held_size : (f : BlockWords) (n : Placed) → 0 < n.kind → (held f n).size ≡ n.size
held_size f n used = let t : nat_lt 0 n.kind ≡ true = grind (arith, nat_tests, used) in ap (λ b. cond b n.size 0) t

placed_used : (n : Placed) → 0 < n.kind → placed_blocks n ≡ blocks_for n.size
placed_used n used = let t : nat_lt 0 n.kind ≡ true = grind (arith, nat_tests, used) in ap (λ b. cond b (blocks_for n.size) 0) t

placed_free : (n : Placed) → n.kind ≡ 0 → placed_blocks n ≡ 0
placed_free n free = let t : nat_lt 0 n.kind ≡ false = grind (arith, nat_tests, free) in ap (λ b. cond b (blocks_for n.size) 0) t

region_size : (word : ℕ → ℕ) (size : ℕ) → size % 4096 ≡ 0 → size / 8 ≡ region_words (word 1) (word 2) → 8 * region_words (word 1) (length (map (λ q. before word (data_from word + q)) (range_with_len 0 (512 * word 2))) / 512) ≡ size
region_size word size whole is =
    let long = length-map-range_with_len (λ q. before word (data_from word + q)) 0 (512 * word 2) in
    let data_is : length (map (λ q. before word (data_from word + q)) (range_with_len 0 (512 * word 2))) / 512 ≡ word 2 = omega (arith, long) in
    ap (λ n. 8 * region_words (word 1) n) data_is ∙ (let back : 8 * region_words (word 1) (word 2) ≡ size = omega (arith, whole, is) in back)

node_as_placed : (shape : VolumeShape) (f : BlockWords) (s : State) (i : ℕ) → ReadsAs shape f s → IsIno shape i → node_blocks s i (get s.nodes i) ≡ placed_blocks (placed_at f i)
node_as_placed shape f s i h ino = by_kind _ refl
  where
    n : Placed
    n = placed_at f i

    own : held_of shape f i ≡ held f n
    own = held_ino (volume_layout shape f) f i ino

    kind : (held_of shape f i).kind ≡ n.kind
    kind = ap (λ (k : Held). k.kind) own

    size : 0 < n.kind → (held_of shape f i).size ≡ n.size
    size used = ap (λ (k : Held). k.size) own ∙ held_size f n used

    fits : 0 < n.kind → SizeFits n.kind n.size
    fits = h.mapped.laid.sizes.each i ino

    most : n.kind ≤ 3
    most = (h.mapped.laid.kinds.each i ino).0

    used_by : (node : Node) → 0 < n.kind → get s.nodes i ≡ Some node → node_blocks s i (Some node) ≡ blocks_for n.size → node_blocks s i (get s.nodes i) ≡ placed_blocks n
    used_by node used is same = ap (node_blocks s i) is ∙ same ∙ sym (placed_used n used)

    by_kind : (k : ℕ) → n.kind ≡ k → node_blocks s i (get s.nodes i) ≡ placed_blocks n
    by_kind zero e = ap (node_blocks s i) (h.reads.nodes i ∙ reads_none (held_of shape f i) (kind ∙ e)) ∙ sym (placed_free n e)
    by_kind (suc zero) e = let used : 0 < n.kind = omega (arith, e) in used_by Dir used (h.reads.nodes i ∙ reads_dir (held_of shape f i) (kind ∙ e)) (ap blocks_for (names_counted (held_of shape f) s i h.reads h.apart (kind ∙ e) (ap (λ x. x % 64) (size used) ∙ (fits used).directory e) ∙ size used))
    by_kind (suc (suc zero)) e = let used : 0 < n.kind = omega (arith, e) in used_by (File _) used (h.reads.nodes i ∙ reads_file (held_of shape f i) (kind ∙ e)) (ap blocks_for (length-map-range_with_len (byte_in (held_of shape f i).word) 0 (held_of shape f i).size ∙ size used))
    by_kind (suc (suc (suc zero))) e = let used : 0 < n.kind = omega (arith, e) in used_by (Region _) used (h.reads.nodes i ∙ reads_region (held_of shape f i) (kind ∙ e)) (ap blocks_for (region_size (held_of shape f i).word (held_of shape f i).size (ap (λ x. x % 4096) (size used) ∙ (fits used).region e) (h.regions.each i (kind ∙ e)).region.size ∙ size used))
    by_kind (suc (suc (suc (suc k)))) e = absurd (omega (arith, e, most))

-- ---- all nodes

pub used_by_state : (shape : VolumeShape) (f : BlockWords) (s : State) → ReadsAs shape f s → used_blocks s ≡ layout_blocks (volume_layout shape f)
used_by_state shape f s h =
    ap (λ (sh : VolumeShape). sum (map (λ i. node_blocks s i (get s.nodes i)) (range_with_len 1 sh.inodes))) h.sizes
    ∙ ap sum (same_map (λ i. node_blocks s i (get s.nodes i)) (λ i. placed_blocks (placed_at f i)) shape.inodes 1 (λ i low high. node_as_placed shape f s i h (record { from = low; to = omega (arith, high) })))

-- the free blocks are those that the state leaves free
pub free_by_state : (shape : VolumeShape) (f : BlockWords) (s : State) → ReadsAs shape f s → length (free_blocks shape f) ≡ free_count s
free_by_state shape f s h =
    free_by_layout shape f h.mapped
    ∙ ap (λ n. shape.blocks - reserved shape - n) (sym (used_by_state shape f s h))
    ∙ ap (λ (sh : VolumeShape). sh.blocks - reserved sh - used_blocks s) (sym h.sizes)
