-- The walk that puts the undo records of regions back.
use Rattle.std.specs.Prelude.{◌≡◌, ◌≢◌, ◌⊎◌, ℕ, ◌+◌, ◌<◌, ◌≤◌, ◌&&◌, nat_le, Bool, true, false, List, [], cond, filter, length, refl, slice_index, take}
use Rattle.std.proofs.Common.{◌∙◌, ap, arith, get_or, inl, inr, subst, sym}
use Rattle.std.proofs.lemmas.Bool.{cases_Bool, cases_eq, eq-eqb, eqb-true}
use Rattle.std.proofs.lemmas.Bool.Decides.{nat_tests}
use Rattle.std.proofs.lemmas.List.{get_or-map, length-map, take_all}
use Rattle.std.proofs.lemmas.List.Filters.{length-filter_more}
use Rattle.rio_base.specs.declared.places.Ino.{Ino}
use Rattle.rio_base.specs.declared.places.VolumeShape.{VolumeShape}
use Rattle.rio_base.specs.Blocks.{BlockWords}
use Rattle.rio_base.specs.Layout.{IsIno}
use Rattle.rio_base.specs.Shapes.{IsShape}
use Rattle.rio_model.specs.declared.state.State.{State}
use Rattle.rio_model.specs.Held.{Held, held, held_of, nothing}
use Rattle.rio_model.specs.Placed.{placed_at}
use Rattle.rio_model.specs.RegionMoves.{RestHeld}
use Rattle.rio_model.specs.Undo.{undo_records}
use Rattle.rio_model.specs.VolumeReads.{ReadsAs}
use Rattle.region_recovery.proofs.Lists.{all_stand, at_most, passes, rises}
use Rattle.region_recovery.specs.RegionLists.{AreRecovered, has_records, ino_numbers, is_region, is_some_record, region_inos, undone_count}

-- ---- the regions

-- what has a kind is an inode
kind_ino : (shape : VolumeShape) (f : BlockWords) (i : ℕ) → (held_of shape f i).kind ≡ 3 → IsIno shape i
kind_ino shape f i three = by (cases_Bool (nat_le 1 i && nat_le i shape.inodes))
  where
    by : ((nat_le 1 i && nat_le i shape.inodes) ≡ true) ⊎ ((nat_le 1 i && nat_le i shape.inodes) ≡ false) → IsIno shape i
    by (inl e) = record { from = from_of i shape.inodes e; to = to_of i shape.inodes e }
      where
        from_of : (j n : ℕ) → (nat_le 1 j && nat_le j n) ≡ true → 1 ≤ j
        from_of j n t = grind (arith, nat_tests)

        to_of : (j n : ℕ) → (nat_le 1 j && nat_le j n) ≡ true → j ≤ n
        to_of j n t = grind (arith, nat_tests)
    by (inr e) = absurd (let none = ap (λ b. (cond b (held f (placed_at f i)) nothing).kind) e in omega (arith, none, three))

-- region n of the list
pub region_at : (shape : VolumeShape) (f : BlockWords) (n : ℕ) → n < length (region_inos shape f) → IsIno shape (slice_index (region_inos shape f) n) × ((held_of shape f (slice_index (region_inos shape f) n)).kind ≡ 3)
unfolding region_inos
region_at shape f n less =
    let one = passes (is_region shape f) shape.inodes 1 n less in
    (record { from = one.1; to = omega (arith, one.2) }, eqb-true _ _ one.0)

regions_rise : (shape : VolumeShape) (f : BlockWords) (j k : ℕ) → j < k → k < length (region_inos shape f) → slice_index (region_inos shape f) j < slice_index (region_inos shape f) k
unfolding region_inos
regions_rise shape f = rises (is_region shape f) shape.inodes 1

region_stands : (shape : VolumeShape) (f : BlockWords) (i : ℕ) → (held_of shape f i).kind ≡ 3 → (k : ℕ) × (k < length (region_inos shape f)) × (slice_index (region_inos shape f) k ≡ i)
unfolding region_inos
region_stands shape f i three =
    let ino = kind_ino shape f i three in
    all_stand (is_region shape f) shape.inodes 1 i ino.from (let to = ino.to in omega (arith, to)) (eq-eqb _ _ three)

-- ---- the walk

-- the first n regions have no record any more, and nothing else is held otherwise
pub record Recovered (shape : VolumeShape) (f g : BlockWords) (n undone : ℕ) : Type 0 where
  pub states : (s : State) → ReadsAs shape f s → ReadsAs shape g s
  pub kinds : (i : ℕ) → (held_of shape g i).kind ≡ (held_of shape f i).kind
  pub done : (k : ℕ) → k < n → undo_records (held_of shape g (slice_index (region_inos shape f) k)).word ≡ []
  pub left : (i : ℕ) → ((k : ℕ) → k < n → slice_index (region_inos shape f) k ≢ i) → held_of shape g i ≡ held_of shape f i
  pub counted : undone ≡ length (filter (has_records shape f) (take n (region_inos shape f)))

pub recovered_none : (shape : VolumeShape) (f : BlockWords) → Recovered shape f f 0 0
recovered_none shape f = record { states = λ s h. h; kinds = λ i. refl; done = λ k less. absurd (omega (arith, less)); left = λ i out. refl; counted = refl }

-- what a turn does to region n
pub record Recovers (shape : VolumeShape) (g h : BlockWords) (i : ℕ) : Type 0 where
  pub states : (s : State) → ReadsAs shape g s → ReadsAs shape h s
  pub rest : RestHeld shape i g h

-- region n had a record or none
pub recovered_next : (shape : VolumeShape) (f g h : BlockWords) (n undone more i : ℕ) (had : Bool) → n < length (region_inos shape f) → i ≡ slice_index (region_inos shape f) n → Recovered shape f g n undone → Recovers shape g h i → undo_records (held_of shape h i).word ≡ [] → had ≡ has_records shape g i → more ≡ undone + cond had 1 0 → Recovered shape f h (n + 1) more
recovered_next shape f g h n undone more i had less at r t now answer sum = record {
  states = λ s reads. t.states s (r.states s reads);
  kinds = λ j. kind j (cases_eq j i) ∙ r.kinds j;
  done = λ k few. by k few (cases_eq (slice_index (region_inos shape f) k) i);
  left = λ j out. t.rest.others j (λ e. out n (omega arith) (sym at ∙ sym e)) ∙ r.left j (λ k few. out k (omega (arith, few)));
  counted = let longer = length-filter_more (has_records shape f) (region_inos shape f) n 0 less in omega (arith, longer, r.counted, counts, sum);
}
  where
    kind : (j : ℕ) → (j ≡ i) ⊎ (j ≢ i) → (held_of shape h j).kind ≡ (held_of shape g j).kind
    kind j (inl e) = subst (λ x. (held_of shape h x).kind ≡ (held_of shape g x).kind) (sym e) t.rest.kind
    kind j (inr ne) = ap (λ (x : Held). x.kind) (t.rest.others j ne)

    by : (k : ℕ) → k < n + 1 → (slice_index (region_inos shape f) k ≡ i) ⊎ (slice_index (region_inos shape f) k ≢ i) → undo_records (held_of shape h (slice_index (region_inos shape f) k)).word ≡ []
    by k few (inl e) = subst (λ x. undo_records (held_of shape h x).word ≡ []) (sym e) now
    by k few (inr ne) = ap (λ (x : Held). undo_records x.word) (t.rest.others _ ne) ∙ r.done k (earlier k few ne (cases_eq k n))
      where
        earlier : (k : ℕ) → k < n + 1 → slice_index (region_inos shape f) k ≢ i → (k ≡ n) ⊎ (k ≢ n) → k < n
        earlier k few ne (inl e) = absurd (ne (ap (slice_index (region_inos shape f)) e ∙ sym at))
        earlier k few ne (inr other) = omega (arith, few, other)

    same : held_of shape g i ≡ held_of shape f i
    same = r.left i (λ k few e. absurd (let up = regions_rise shape f k n few less in omega (arith, up, e, at)))

    counts : ◌≡◌ {A = ℕ} (cond (has_records shape f (slice_index (region_inos shape f) n)) 1 0) (cond had 1 0)
    counts = ap (λ x. cond (has_records shape f x) 1 0) (sym at) ∙ ap (λ (x : Held). cond (is_some_record (undo_records x.word)) 1 0) (sym same) ∙ ap (λ b. cond b 1 0) (sym answer)

-- after the last
pub recovered_all : (shape : VolumeShape) (f g : BlockWords) (n undone : ℕ) → length (region_inos shape f) ≤ n → Recovered shape f g n undone → AreRecovered shape g
recovered_all shape f g n undone end r i three =
    let at = region_stands shape f i (sym (r.kinds i) ∙ three) in
    subst (λ x. undo_records (held_of shape g x).word ≡ []) at.2 (r.done at.0 (let few = at.1 in omega (arith, few, end)))

pub counted_all : (shape : VolumeShape) (f g : BlockWords) (n undone : ℕ) → length (region_inos shape f) ≤ n → Recovered shape f g n undone → undone ≡ undone_count shape f
counted_all shape f g n undone end r = r.counted ∙ ap (λ xs. length (filter (has_records shape f) xs)) (take_all n (region_inos shape f) end)

-- ---- the list that a caller gives

-- as long as the volume's
pub as_long : (shape : VolumeShape) (f : BlockWords) (regions : List Ino) → ino_numbers regions ≡ region_inos shape f → length regions ≡ length (region_inos shape f)
as_long shape f regions is = sym (length-map regions (λ (i : Ino). i.0)) ∙ ap (λ (l : List ℕ). length l) is

-- it is short
pub few_regions : (shape : VolumeShape) (f : BlockWords) (regions : List Ino) → IsShape shape → ino_numbers regions ≡ region_inos shape f → length regions ≤ 32768
unfolding region_inos
few_regions shape f regions sizes is =
    let few = at_most (is_region shape f) shape.inodes 1 in
    omega (arith, as_long shape f regions is, few, sizes.inodes_to)

-- number n of it
pub nth_region : (shape : VolumeShape) (f : BlockWords) (regions : List Ino) (n : ℕ) (d : Ino) → ino_numbers regions ≡ region_inos shape f → n < length regions → (get_or regions n d).0 ≡ slice_index (region_inos shape f) n
nth_region shape f regions n d is less = sym (get_or-map (λ (i : Ino). i.0) regions n d 0 less) ∙ ap (λ l. slice_index l n) is

-- where the volume has no region, there is no turn
pub no_turn : (shape : VolumeShape) (f : BlockWords) (regions : List Ino) (n : ℕ) → ino_numbers regions ≡ region_inos shape f → region_inos shape f ≡ [] → n < length regions → ⊥
no_turn shape f regions n is none less = absurd (omega (arith, as_long shape f regions is, ap (λ (l : List ℕ). length l) none, less))

pub no_turns : (shape : VolumeShape) (f : BlockWords) (regions : List Ino) (n : ℕ) → ino_numbers regions ≡ region_inos shape f → region_inos shape f ≡ [] → n ≤ length regions → n ≡ 0
no_turns shape f regions n is none most = omega (arith, as_long shape f regions is, ap (λ (l : List ℕ). length l) none, most)

-- ---- a turn of a view whose shape is the volume's

-- what is asked of the next region
pub asked : (shape here : VolumeShape) (f g : BlockWords) (n undone i : ℕ) → here ≡ shape → n < length (region_inos shape f) → i ≡ slice_index (region_inos shape f) n → Recovered shape f g n undone → IsIno here i × ((held_of here g i).kind ≡ 3)
asked shape here f g n undone i sizes less at r =
    let one = region_at shape f n less in
    subst (λ (sh : VolumeShape). IsIno sh i × ((held_of sh g i).kind ≡ 3)) (sym sizes)
    (subst (IsIno shape) (sym at) one.0, r.kinds i ∙ ap (λ x. (held_of shape f x).kind) at ∙ one.1)

-- a state that it reads as
pub some_state : (shape here : VolumeShape) (f g : BlockWords) (n undone : ℕ) → here ≡ shape → Recovered shape f g n undone → (s : State) × ReadsAs shape f s → (s : State) × ReadsAs here g s
some_state shape here f g n undone sizes r was = (was.0, subst (λ (sh : VolumeShape). ReadsAs sh g was.0) (sym sizes) (r.states was.0 was.1))

-- the volume reads as the states that it read as, whether the turn came to its end or not
pub states_turned : (shape here : VolumeShape) (f g h : BlockWords) (n undone : ℕ) → here ≡ shape → Recovered shape f g n undone → ((s : State) → ReadsAs here g s → ReadsAs here h s) → (s : State) → ReadsAs shape f s → ReadsAs shape h s
states_turned shape here f g h n undone sizes r turn s reads = subst (λ (sh : VolumeShape). ReadsAs sh h s) sizes (turn s (subst (λ (sh : VolumeShape). ReadsAs sh g s) (sym sizes) (r.states s reads)))

-- the count of those that had a record
pub one_more : (undone more : ℕ) (had : Bool) → had ≡ true → more ≡ undone + 1 → more ≡ undone + cond had 1 0
one_more undone more had e sum = subst (λ b. more ≡ undone + cond b 1 0) (sym e) sum

pub no_more : (undone more : ℕ) (had : Bool) → had ≡ false → more ≡ undone → more ≡ undone + cond had 1 0
no_more undone more had e sum = subst (λ b. more ≡ undone + cond b 1 0) (sym e) (omega (arith, sum))

-- region n is recovered
pub turn : (shape here : VolumeShape) (f g h : BlockWords) (n undone more i : ℕ) (had : Bool) → here ≡ shape → n < length (region_inos shape f) → i ≡ slice_index (region_inos shape f) n → Recovered shape f g n undone → ((s : State) → ReadsAs here g s → ReadsAs here h s) → RestHeld here i g h → undo_records (held_of here h i).word ≡ [] → had ≡ has_records here g i → more ≡ undone + cond had 1 0 → Recovered shape f h (n + 1) more
turn shape here f g h n undone more i had sizes less at r states rest now answer sum =
    recovered_next shape f g h n undone more i had less at r
    (record { states = subst (λ (sh : VolumeShape). (s : State) → ReadsAs sh g s → ReadsAs sh h s) sizes states; rest = subst (λ (sh : VolumeShape). RestHeld sh i g h) sizes rest })
    (subst (λ (sh : VolumeShape). undo_records (held_of sh h i).word ≡ []) sizes now)
    (answer ∙ ap (λ (sh : VolumeShape). has_records sh g i) sizes)
    sum
