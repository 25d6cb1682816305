-- Inodes reached from the root, one after the other.
use Rattle.rio_model.proofs.Common.{◌≡◌, ◌≢◌, ◌⊎◌, ℕ, zero, suc, ◌+◌, ◌-◌, ◌<◌, ◌≤◌, ◌++◌, ◌∙◌, Bool, true, false, List, [], ◌∷◌, map, refl, sym, ap, subst, arith, inl, inr, length, slice_index, cases_Bool, cases_eq, true_false, VolumeShape, IsIno}
use Rattle.std.proofs.Common.{length-append}
use Rattle.std.specs.Prelude.{slice_index_or, slice_set}
use Rattle.std.proofs.lemmas.List.{get_or-append_right, get_or-map, get_or-set_other, get_or-set_same, get_or_append_left, length-map, length-set, map-append}
use Rattle.rio_base.specs.declared.places.Ino.{Ino}
use Rattle.rio_model.specs.Held.{HasEntry, Held, entry_ino}
use Rattle.volume_check.specs.Tree.{AllEntered, Enters, Found, Grows, IsAllReached, IsReached, Leads, dir_numbers, unreached}
use Rattle.volume_check.specs.declared.reaching.Reach.{Reach}

-- ---- lists

push_old : (xs : List ℕ) (y k : ℕ) → k < length xs → slice_index (xs ++ y ∷ []) k ≡ slice_index xs k
push_old xs y k small = get_or_append_left xs (y ∷ []) 0 k small

push_new : (xs : List ℕ) (y : ℕ) → slice_index (xs ++ y ∷ []) (length xs) ≡ y
push_new xs y = get_or-append_right xs (y ∷ []) (length xs) (length xs) 0 refl (omega arith) ∙ (let none : length xs - length xs ≡ 0 = omega arith in ap (slice_index (y ∷ [])) none)

push_long : (xs : List ℕ) (y : ℕ) → length (xs ++ y ∷ []) ≡ length xs + 1
push_long xs y = length-append xs (y ∷ [])

unreached_set : (bs : List Bool) (i : ℕ) → i < length bs → slice_index_or bs i false ≡ false → unreached (slice_set bs i true) + 1 ≡ unreached bs
unreached_set [] i small off = absurd (omega (arith, small))
unreached_set (true ∷ bs) zero small off = absurd (true_false off)
unreached_set (false ∷ bs) zero small off = refl
unreached_set (true ∷ bs) (suc i) small off = unreached_set bs i (omega (arith, small)) off
unreached_set (false ∷ bs) (suc i) small off = let rest = unreached_set bs i (omega (arith, small)) off in omega (arith, rest)

-- ---- one inode entered

-- what an inode that was not reached changes
pub record Marks (kind : ℕ) (i : Ino) (old new : Reach) : Type 0 where
  pub off : slice_index_or old.reached.items i.0 false ≡ false
  pub marked : new.reached.items ≡ slice_set old.reached.items i.0 true
  pub dirs : ((kind ≡ 1) × (dir_numbers new ≡ dir_numbers old ++ i.0 ∷ [])) ⊎ ((kind ≢ 1) × (dir_numbers new ≡ dir_numbers old))

entered : (kind : ℕ) (i : Ino) (old new : Reach) → Enters kind i old new → (IsReached old i.0 × (new ≡ old)) ⊎ Marks kind i old new
entered kind i old new h = elim (cases_Bool (slice_index_or old.reached.items i.0 false)) [
  | inl on ↦ inl (on, h.again on)
  | inr off ↦ inr (record { off = off; marked = h.marked (clear off); dirs = dirs_by (clear off) (cases_eq kind 1) })
]
  where
    clear : slice_index_or old.reached.items i.0 false ≡ false → ¬ IsReached old i.0
    clear off on = true_false (sym on ∙ off)

    dirs_by : ¬ IsReached old i.0 → (kind ≡ 1) ⊎ (kind ≢ 1) → ((kind ≡ 1) × (dir_numbers new ≡ dir_numbers old ++ i.0 ∷ [])) ⊎ ((kind ≢ 1) × (dir_numbers new ≡ dir_numbers old))
    dirs_by off (inl dir) = inl (dir, ap (map (λ (x : Ino). x.0)) (h.directory off dir) ∙ map-append (λ (x : Ino). x.0) old.dirs.items (i ∷ []))
    dirs_by off (inr other) = inr (other, ap (map (λ (x : Ino). x.0)) (h.other off other))

-- what is reached afterwards
mark_here : (kind : ℕ) (i : Ino) (old new : Reach) → i.0 < length old.reached.items → Marks kind i old new → IsReached new i.0
mark_here kind i old new small m = ap (λ bs. slice_index_or bs i.0 false) m.marked ∙ get_or-set_same old.reached.items i.0 true false small

mark_there : (kind : ℕ) (i : Ino) (old new : Reach) (x : ℕ) → Marks kind i old new → x ≢ i.0 → slice_index_or new.reached.items x false ≡ slice_index_or old.reached.items x false
mark_there kind i old new x m other = ap (λ bs. slice_index_or bs x false) m.marked ∙ get_or-set_other old.reached.items i.0 x true false other

mark_keeps : (kind : ℕ) (i : Ino) (old new : Reach) (x : ℕ) → i.0 < length old.reached.items → Marks kind i old new → IsReached old x → IsReached new x
mark_keeps kind i old new x small m on = elim (cases_eq x i.0) [
  | inl same ↦ subst (IsReached new) (sym same) (mark_here kind i old new small m)
  | inr other ↦ mark_there kind i old new x m other ∙ on
]

mark_back : (kind : ℕ) (i : Ino) (old new : Reach) (x : ℕ) → Marks kind i old new → IsReached new x → (x ≡ i.0) ⊎ IsReached old x
mark_back kind i old new x m on = elim (cases_eq x i.0) [
  | inl same ↦ inl same
  | inr other ↦ inr (sym (mark_there kind i old new x m other) ∙ on)
]

abbrev Dirs : ℕ → Ino → Reach → Reach → Type 0
Dirs kind i old new = ((kind ≡ 1) × (dir_numbers new ≡ dir_numbers old ++ i.0 ∷ [])) ⊎ ((kind ≢ 1) × (dir_numbers new ≡ dir_numbers old))

dirs_more : (kind : ℕ) (i : Ino) (old new : Reach) → Dirs kind i old new → (length (dir_numbers old) ≤ length (dir_numbers new)) × (length (dir_numbers new) ≤ length (dir_numbers old) + 1)
dirs_more kind i old new (inl d) = let long = ap length d.1 ∙ push_long (dir_numbers old) i.0 in (omega (arith, long), omega (arith, long))
dirs_more kind i old new (inr d) = let long = ap length d.1 in (omega (arith, long), omega (arith, long))

dirs_keep : (kind : ℕ) (i : Ino) (old new : Reach) (k : ℕ) → Dirs kind i old new → k < length (dir_numbers old) → slice_index (dir_numbers new) k ≡ slice_index (dir_numbers old) k
dirs_keep kind i old new k (inl d) small = ap (λ xs. slice_index xs k) d.1 ∙ push_old (dir_numbers old) i.0 k small
dirs_keep kind i old new k (inr d) small = ap (λ xs. slice_index xs k) d.1

-- ---- what is reached grows

pub grows_refl : (r : Reach) → Grows r r
grows_refl r = record { reached = λ i on. on; more = omega arith; dirs = λ k small. refl; left = omega arith }

pub grows_trans : (a b c : Reach) → Grows a b → Grows b c → Grows a c
grows_trans a b c g h = record {
  reached = λ i on. h.reached i (g.reached i on);
  more = let x = g.more in let y = h.more in omega (arith, x, y);
  dirs = λ k small. h.dirs k (let x = g.more in omega (arith, x, small)) ∙ g.dirs k small;
  left = let x = g.left in let y = h.left in omega (arith, x, y);
}

pub enter_grows : (kind : ℕ) (i : Ino) (old new : Reach) → i.0 < length old.reached.items → Enters kind i old new → Grows old new
enter_grows kind i old new small h = by (entered kind i old new h)
  where
    by : (IsReached old i.0 × (new ≡ old)) ⊎ Marks kind i old new → Grows old new
    by (inl same) = subst (λ r. Grows old r) (sym same.1) (grows_refl old)
    by (inr m) = record {
      reached = λ x on. mark_keeps kind i old new x small m on;
      more = (dirs_more kind i old new m.dirs).0;
      dirs = λ k few. dirs_keep kind i old new k m.dirs few;
      left = let most = (dirs_more kind i old new m.dirs).1 in let one = ap unreached m.marked in let less = unreached_set old.reached.items i.0 small m.off in omega (arith, most, one, less);
    }

pub enter_reaches : (kind : ℕ) (i : Ino) (old new : Reach) → i.0 < length old.reached.items → Enters kind i old new → IsReached new i.0
enter_reaches kind i old new small h = by (entered kind i old new h)
  where
    by : (IsReached old i.0 × (new ≡ old)) ⊎ Marks kind i old new → IsReached new i.0
    by (inl same) = subst (λ r. IsReached r i.0) (sym same.1) same.0
    by (inr m) = mark_here kind i old new small m

-- ---- what is reached is reached by entries

pub found_none : (shape : VolumeShape) (held : ℕ → Held) (r : Reach) → length r.reached.items ≡ shape.inodes + 1 → ((i : ℕ) → ¬ IsReached r i) → r.dirs.items ≡ [] → Found shape held r
found_none shape held r len none no_dirs = record {
  len = len;
  inos = λ i on. absurd (none i on);
  ways = λ i on. absurd (none i on);
  listed = λ d on dir. absurd (none d on);
  dirs = λ k small. absurd (let empty = ap (λ (xs : List Ino). length (map (λ (x : Ino). x.0) xs)) no_dirs in omega (arith, empty, small));
}

cases_push : (k n : ℕ) → k < n + 1 → (k < n) ⊎ (k ≡ n)
cases_push k n h = grind arith

pub enter_found : (shape : VolumeShape) (held : ℕ → Held) (kind : ℕ) (i : Ino) (path : List (ℕ × ℕ)) (old new : Reach) → Found shape held old → IsIno shape i.0 → kind ≡ (held i.0).kind → Leads held path i.0 → Enters kind i old new → Found shape held new
enter_found shape held kind i path old new f ino same way h = by (entered kind i old new h)
  where
    small : i.0 < length old.reached.items
    small = let len = f.len in let to = ino.to in omega (arith, len, to)

    by : (IsReached old i.0 × (new ≡ old)) ⊎ Marks kind i old new → Found shape held new
    by (inl again) = subst (λ r. Found shape held r) (sym again.1) f
    by (inr m) = record {
      len = ap length m.marked ∙ length-set old.reached.items i.0 true ∙ f.len;
      inos = λ x on. elim (mark_back kind i old new x m on) [ inl here ↦ subst (IsIno shape) (sym here) ino | inr was ↦ f.inos x was ];
      ways = λ x on. elim (mark_back kind i old new x m on) [ inl here ↦ (path, subst (Leads held path) (sym here) way) | inr was ↦ f.ways x was ];
      listed = λ d on dir. elim (mark_back kind i old new d m on) [ inl here ↦ listed_new d here dir m.dirs | inr was ↦ listed_old d was dir ];
      dirs = λ k few. dirs_at k few m.dirs;
    }
      where
        listed_old : (d : ℕ) → IsReached old d → (held d).kind ≡ 1 → (k : ℕ) × (k < length (dir_numbers new)) × (slice_index (dir_numbers new) k ≡ d)
        listed_old d was dir =
            let at = f.listed d was dir in
            let less = at.1 in
            let more = (dirs_more kind i old new m.dirs).0 in
            (at.0, omega (arith, less, more), dirs_keep kind i old new at.0 m.dirs at.1 ∙ at.2)

        listed_new : (d : ℕ) → d ≡ i.0 → (held d).kind ≡ 1 → Dirs kind i old new → (k : ℕ) × (k < length (dir_numbers new)) × (slice_index (dir_numbers new) k ≡ d)
        listed_new d here dir (inl x) = (length (dir_numbers old), (let long = ap length x.1 ∙ push_long (dir_numbers old) i.0 in omega (arith, long)), ap (λ xs. slice_index xs (length (dir_numbers old))) x.1 ∙ push_new (dir_numbers old) i.0 ∙ sym here)
        listed_new d here dir (inr x) = absurd (x.0 (same ∙ ap (λ y. (held y).kind) (sym here) ∙ dir))

        old_dir : (k : ℕ) → k < length (dir_numbers old) → IsReached new (slice_index (dir_numbers new) k) × ((held (slice_index (dir_numbers new) k)).kind ≡ 1)
        old_dir k few =
            let at = f.dirs k few in
            let e = sym (dirs_keep kind i old new k m.dirs few) in
            (subst (IsReached new) e (mark_keeps kind i old new _ small m at.0), subst (λ d. (held d).kind ≡ 1) e at.1)

        dirs_at : (k : ℕ) → k < length (dir_numbers new) → Dirs kind i old new → IsReached new (slice_index (dir_numbers new) k) × ((held (slice_index (dir_numbers new) k)).kind ≡ 1)
        dirs_at k few (inl x) = elim (cases_push k (length (dir_numbers old)) (let long = ap length x.1 ∙ push_long (dir_numbers old) i.0 in omega (arith, long, few))) [
          | inl less ↦ old_dir k less
          | inr last ↦ (let e : i.0 ≡ slice_index (dir_numbers new) k = sym (ap (λ xs. slice_index xs k) x.1 ∙ ap (slice_index (dir_numbers old ++ i.0 ∷ [])) last ∙ push_new (dir_numbers old) i.0) in
              (subst (IsReached new) e (mark_here kind i old new small m), subst (λ d. (held d).kind ≡ 1) e (sym same ∙ x.0)))
        ]
        dirs_at k few (inr x) = old_dir k (let long = ap length x.1 in omega (arith, long, few))

-- ---- all that is reached

pub all_reached : (shape : VolumeShape) (held : ℕ → Held) (r : Reach) → Found shape held r → IsReached r 1 → ((k : ℕ) → k < length (dir_numbers r) → AllEntered held r (slice_index (dir_numbers r) k)) → IsAllReached shape held r.reached.items
all_reached shape held r f root entered = record { len = f.len; ways = f.ways; all = reach }
  where
    reach : (path : List (ℕ × ℕ)) (i : ℕ) → Leads held path i → IsReached r i
    reach [] i way = subst (IsReached r) (sym way) root
    reach (p ∷ path) i way =
        let names = way.1 in
        let at = f.listed p.0 (reach path p.0 way.0) names.entry.dir in
        subst (IsReached r) (ap (λ d. entry_ino (held d) p.1) at.2 ∙ names.ino) (entered at.0 at.1 p.1 (subst (λ d. HasEntry held d p.1) (sym at.2) names.entry))

-- ---- the list of directories

pub dirs_long : (r : Reach) → length (dir_numbers r) ≡ length r.dirs.items
dirs_long r = length-map r.dirs.items (λ (x : Ino). x.0)

pub dir_is : (r : Reach) (k : ℕ) (i : Ino) → k < length (dir_numbers r) → i ≡ slice_index_or r.dirs.items k i → slice_index (dir_numbers r) k ≡ i.0
dir_is r k i small is = get_or-map (λ (x : Ino). x.0) r.dirs.items k i 0 (let long = dirs_long r in omega (arith, long, small)) ∙ ap (λ (x : Ino). x.0) (sym is)

-- one directory more is read
pub entered_more : (held : ℕ → Held) (old new : Reach) (next d k : ℕ) → Grows old new → next < length (dir_numbers old) → slice_index (dir_numbers old) next ≡ d → ((j : ℕ) → j < next → AllEntered held old (slice_index (dir_numbers old) j)) → AllEntered held new d → k < next + 1 → AllEntered held new (slice_index (dir_numbers new) k)
entered_more held old new next d k g small is before here less = elim (cases_eq k next) [
  | inl last ↦ subst (AllEntered held new) (sym (g.dirs k (omega (arith, last, small)) ∙ ap (slice_index (dir_numbers old)) last ∙ is)) here
  | inr other ↦ subst (AllEntered held new) (sym (g.dirs k (omega (arith, less, other, small)))) (λ j entry. g.reached _ (before k (omega (arith, less, other)) j entry))
]
