-- Requests that make a row: what they answer, by what the look-up of a free name comes to.
use Rattle.request_ends.proofs.Common.{◌≡◌, ℕ, ◌*◌, ◌<◌, ◌≤◌, true, false, cond, List, [], ◌∷◌, refl, sym, ap, subst, ◌∙◌, arith, inl, inr, Result, Ok, Err, None, Some, nat_lt, get, nat_tests, Ino, Node, Region, State, front_of, last_of, walk_to_dir, largest_size, Answered, at_inode, refused, make_new}
use Rattle.rio_requests.specs.Answer.{refused_by}
use Rattle.rio_model.specs.Undo.{region_words}
use Rattle.rio_model.specs.States.{least_free}
use Rattle.rio_model.specs.declared.refusal.Refusal.TheVariants.{Exists, TooLarge}
use Rattle.std.specs.Prelude.{Option, length}
use Rattle.rio_requests.specs.Answers.{make, make_row, region_at, region_row, at_row, new_region}
use Rattle.node_making.specs.NewNodes.{FitRegion}
use Rattle.file_tree.specs.Walks.{FreeRow}
use Rattle.request_ends.specs.declared.failures.FileFail.{FileFail}
use Rattle.request_ends.specs.declared.failures.FileFail.TheVariants.{Refused, Fault, Stopped, Memory}
use Rattle.node_making.specs.declared.regions.RegionSizes.{RegionSizes}
use Rattle.request_ends.proofs.AnsweredAt.{FailsBy}

-- ---- a request that makes a row

-- it fails so
pub fails_free : (s : State) (names front : List (List ℕ)) (name : List ℕ) (go : ℕ → List ℕ → Option ℕ → Answered) (r : Result Ino FileFail) (e : FileFail) → front_of names ≡ front → last_of names ≡ name → ((dir : ℕ) (n : List ℕ) (i : ℕ) → go dir n (Some i) ≡ refused s Exists) → r ≡ Err e → FreeRow s front name r → FailsBy s (at_row s names (λ dir. go dir (last_of names) (get s.names (dir, last_of names)))) e
fails_free s names front name go r e cut last over re h = by e (subst (λ (v : Result Ino FileFail). FreeRow s front name v) re h)
  where
    at : Result ℕ ℕ → Answered
    at w = at_inode s w (λ dir. go dir (last_of names) (get s.names (dir, last_of names)))

    by : (v : FileFail) → FreeRow s front name (Err v) → FailsBy s (at_row s names (λ dir. go dir (last_of names) (get s.names (dir, last_of names)))) v
    by (Refused c) (inl no_dir) = ap at (ap (walk_to_dir s) cut ∙ no_dir)
    by (Refused c) (inr (dir, there, (i, row), three)) = ap at (ap (walk_to_dir s) cut ∙ there) ∙ ap (go dir (last_of names)) (ap (λ n. get s.names (dir, n)) last ∙ row) ∙ over dir (last_of names) i ∙ ap (refused_by s) (sym three)
    by (Fault k) none = none
    by Stopped u = tt
    by Memory u = tt

-- or goes on there
pub free_at : (s : State) (names front : List (List ℕ)) (name : List ℕ) (go : ℕ → List ℕ → Option ℕ → Answered) (dir : Ino) → front_of names ≡ front → last_of names ≡ name → FreeRow s front name (Ok dir) → at_row s names (λ d. go d (last_of names) (get s.names (d, last_of names))) ≡ go dir.0 name None
free_at s names front name go dir cut last h =
    ap (λ (w : Result ℕ ℕ). at_inode s w (λ d. go d (last_of names) (get s.names (d, last_of names)))) (ap (walk_to_dir s) cut ∙ h.0)
    ∙ ap (λ n. go dir.0 n (get s.names (dir.0, n))) last
    ∙ ap (go dir.0 name) h.1

-- ---- of a node without bytes

abbrev pub makes_at : State → Node → ℕ → List ℕ → Option ℕ → Answered
makes_at s node dir name o = make_row s dir name node o

make_last : (s : State) (names : List (List ℕ)) (node : Node) → 0 < length names → make s names node ≡ at_row s names (λ dir. makes_at s node dir (last_of names) (get s.names (dir, last_of names)))
make_last s [] node some = absurd (omega (arith, some))
make_last s (name ∷ names) node some = refl

pub fails_make : (s : State) (names front : List (List ℕ)) (name : List ℕ) (node : Node) (r : Result Ino FileFail) (e : FileFail) → 0 < length names → front_of names ≡ front → last_of names ≡ name → r ≡ Err e → FreeRow s front name r → FailsBy s (make s names node) e
fails_make s names front name node r e some cut last re h = subst (λ a. FailsBy s a e) (sym (make_last s names node some)) (fails_free s names front name (makes_at s node) r e cut last (λ dir n i. refl) re h)

pub made_free : (s : State) (names front : List (List ℕ)) (name : List ℕ) (node : Node) (dir : Ino) → 0 < length names → front_of names ≡ front → last_of names ≡ name → FreeRow s front name (Ok dir) → make s names node ≡ make_new s dir.0 name node (least_free s)
made_free s names front name node dir some cut last h = make_last s names node some ∙ free_at s names front name (makes_at s node) dir cut last h

-- ---- of a region

abbrev regions_at : State → ℕ → ℕ → ℕ → List ℕ → Option ℕ → Answered
regions_at s pages undo dir name o = region_row s dir name pages undo o

region_last : (s : State) (names : List (List ℕ)) (pages undo : ℕ) → 0 < length names → region_at s names pages undo ≡ at_row s names (λ dir. regions_at s pages undo dir (last_of names) (get s.names (dir, last_of names)))
region_last s [] pages undo some = absurd (omega (arith, some))
region_last s (name ∷ names) pages undo some = refl

pub fails_region : (s : State) (names front : List (List ℕ)) (name : List ℕ) (pages undo : ℕ) (r : Result Ino FileFail) (e : FileFail) → 0 < length names → front_of names ≡ front → last_of names ≡ name → r ≡ Err e → FreeRow s front name r → FailsBy s (region_at s names pages undo) e
fails_region s names front name pages undo r e some cut last re h = subst (λ a. FailsBy s a e) (sym (region_last s names pages undo some)) (fails_free s names front name (regions_at s pages undo) r e cut last (λ dir n i. refl) re h)

-- 10 where no node can have so many bytes
pub region_large : (s : State) (names front : List (List ℕ)) (name : List ℕ) (pages undo : ℕ) (dir : Ino) → 0 < length names → front_of names ≡ front → last_of names ≡ name → FreeRow s front name (Ok dir) → largest_size < 8 * region_words undo pages → region_at s names pages undo ≡ refused s TooLarge
region_large s names front name pages undo dir some cut last h large =
    region_last s names pages undo some ∙ free_at s names front name (regions_at s pages undo) dir cut last h
    ∙ ap (λ b. cond b (refused s TooLarge) (make_new s dir.0 name (Region (new_region pages undo)) (least_free s))) (above _ large)
  where
    above : (n : ℕ) → largest_size < n → nat_lt largest_size n ≡ true
    above n more = grind (arith, nat_tests, more)

pub region_new : (s : State) (names front : List (List ℕ)) (name : List ℕ) (pages undo : ℕ) (dir : Ino) (r : RegionSizes) → 0 < length names → front_of names ≡ front → last_of names ≡ name → FreeRow s front name (Ok dir) → (r.undo_pages ≡ undo) × (r.data_pages ≡ pages) × FitRegion r → region_at s names pages undo ≡ make_new s dir.0 name (Region (new_region r.data_pages r.undo_pages)) (least_free s)
region_new s names front name pages undo dir r some cut last h (u, p, fit) =
    region_last s names pages undo some ∙ free_at s names front name (regions_at s pages undo) dir cut last h
    ∙ ap (λ b. cond b (refused s TooLarge) (make_new s dir.0 name (Region (new_region pages undo)) (least_free s))) (within _ (subst (λ n. n ≤ largest_size) (fit.bytes ∙ ap (λ n. 8 * region_words n r.data_pages) u ∙ ap (λ n. 8 * region_words undo n) p) fit.most))
    ∙ sym (ap (λ n. make_new s dir.0 name (Region (new_region n r.undo_pages)) (least_free s)) p ∙ ap (λ n. make_new s dir.0 name (Region (new_region pages n)) (least_free s)) u)
  where
    within : (n : ℕ) → n ≤ largest_size → nat_lt largest_size n ≡ false
    within n less = grind (arith, nat_tests, less)
