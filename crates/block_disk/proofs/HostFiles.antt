-- The file of a disk and the other files of its host, where the file is read or written.
use Rattle.std.proofs.Common.{◌≡◌, ◌<◌, ◌≤◌, ℕ, ◌*◌, ◌/◌, Bool, true, false, cond, List, [], length, Option, Some, None, unwrap_or, inl, inr, refl, sym, ap, subst, ◌∙◌, arith}
use Rattle.std.specs.Option.{option_map}
use Rattle.std.specs.Cmp.Lexicographic.{slice_cmp, nat_list_cmp_total}
use Rattle.std.specs.FinMap.{get, insert, remove, get-insert, get-remove, same_map, slice_cmp-IsAntisymmetric, nat_cmp-IsAntisymmetric}
use Rattle.std.specs.Ordering.{eq_by_cmp, nat_cmp}
use Rattle.std.proofs.lemmas.Map.Text.{is_eq-slice_cmp}
use Rattle.std.proofs.lemmas.Slice.Eq.{bytes_eq-Decides}
use Rattle.rio_base.specs.Blocks.{Around}
use Rattle.rio_base.specs.Hosts.{Asked, AsksFor, EndsBy, Files, HasSize, Overwrites, TearsWithin, bytes_in, overwritten}
use Rattle.block_disk.specs.HostDisks.{IsDiskLength, IsLong, around_of}

some_number : (x y : ℕ) → Some x ≡ Some y → x ≡ y
some_number x y e = cc

no_number : (x : ℕ) → Some x ≡ None → ⊥
no_number x e = cc

-- the test by which a name is found
abbrev same : List ℕ → List ℕ → Bool
same q name = eq_by_cmp (slice_cmp nat_cmp) q name

same_self : (name : List ℕ) → same name name ≡ true
same_self name = is_eq-slice_cmp name name ∙ (bytes_eq-Decides name name).1 refl

-- a file that was put there is found
pub get_put : (files : Files) (name bytes : List ℕ) → get (insert files name bytes) name ≡ Some bytes
get_put files name bytes = get-insert nat_list_cmp_total files name bytes name ∙ ap (λ t. cond t (Some bytes) (get files name)) (same_self name)

hidden : {A : Type 0} (b : Bool) (x y z : A) → cond b x (cond b y z) ≡ cond b x z
hidden true x y z = refl
hidden false x y z = refl

-- the other files are as before
others_put : (files : Files) (name bytes : List ℕ) → remove (insert files name bytes) name ≡ remove files name
others_put files name bytes =
    same_map nat_list_cmp_total (slice_cmp-IsAntisymmetric nat_cmp-IsAntisymmetric) (remove (insert files name bytes) name) (remove files name)
    (λ q. get-remove nat_list_cmp_total (insert files name bytes) name q
    ∙ ap (cond (same q name) None) (get-insert nat_list_cmp_total files name bytes q)
    ∙ hidden (same q name) None (Some bytes) (get files q)
    ∙ sym (get-remove nat_list_cmp_total files name q))

-- what is around a file, by the other files and what was asked for of them
abbrev around_by : List ℕ → Asked → Files → Option Around
around_by name asked others = Some (record { file = name; others = get others; asked = asked })

around_put : (files : Files) (old later : Asked) (name bytes : List ℕ) → AsksFor name old later → around_of (Some (insert files name bytes)) later name ≡ around_of (Some files) old name
around_put files old later name bytes asks = ap (around_by name (remove later name)) (others_put files name bytes) ∙ ap (λ (asked : Asked). around_by name asked (remove files name)) asks

-- no file changed, and none but this one was asked for
pub around_asked : (told new : Option Files) (old later : Asked) (name : List ℕ) → new ≡ told → AsksFor name old later → around_of new later name ≡ around_of told old name
around_asked told new old later name same asks = ap (λ (t : Option Files). around_of t later name) same ∙ asked_in told
  where
    asked_in : (t : Option Files) → around_of t later name ≡ around_of t old name
    asked_in None = refl
    asked_in (Some files) = ap (λ (asked : Asked). around_by name asked (remove files name)) asks

pub around_written : (told new : Option Files) (old later : Asked) (name : List ℕ) (off : ℕ) (from : List ℕ) → Overwrites told name off from new → AsksFor name old later → around_of new later name ≡ around_of told old name
around_written None new old later name off from e asks = ap (λ (t : Option Files). around_of t later name) e
around_written (Some files) new old later name off from e asks = ap (λ (t : Option Files). around_of t later name) e ∙ around_put files old later name (overwritten (bytes_in files name) off from) asks

pub around_torn : (told new : Option Files) (old later : Asked) (name : List ℕ) (off n : ℕ) → TearsWithin told name off n new → AsksFor name old later → around_of new later name ≡ around_of told old name
around_torn None new old later name off n e asks = ap (λ (t : Option Files). around_of t later name) e
around_torn (Some files) new old later name off n (inl e) asks = around_asked (Some files) new old later name e asks
around_torn (Some files) new old later name off n (inr (torn, differ, e)) asks = ap (λ (t : Option Files). around_of t later name) e ∙ around_put files old later name torn asks

-- ---- sizes

-- the bytes of a file that is there
pub bytes_are : (files : Files) (name whole : List ℕ) → get files name ≡ Some whole → bytes_in files name ≡ whole
bytes_are files name whole at = ap (λ (got : Option (List ℕ)). unwrap_or got []) at

-- a file of this size is there
pub sized : (files : Files) (name : List ℕ) (size : ℕ) → HasSize (Some files) name (Some size) → (whole : List ℕ) × (get files name ≡ Some whole) × (length whole ≡ size)
sized files name size is = by_case (get files name) refl is
  where
    by_case : (got : Option (List ℕ)) → get files name ≡ got → Some size ≡ option_map length got → (whole : List ℕ) × (get files name ≡ Some whole) × (length whole ≡ size)
    by_case None e h = absurd (no_number size h)
    by_case (Some whole) e h = (whole, e, sym (some_number size (length whole) h))

-- a file of this size has so many bytes
pub long_enough : (told : Option Files) (name : List ℕ) (size n : ℕ) → HasSize told name (Some size) → n ≤ size → IsLong told name n
long_enough None name size n is less = tt
long_enough (Some files) name size n is less = let own = sized files name size is in (own.0, own.1, omega (arith, own.2, less))

pub long_less : (told : Option Files) (name : List ℕ) (n m : ℕ) → IsLong told name m → n ≤ m → IsLong told name n
long_less None name n m long less = tt
long_less (Some files) name n m (whole, at, long) less = (whole, at, omega (arith, long, less))

-- a file that has so many bytes doesn't end before, so that whoever finds it to end there was told nothing
pub short_read : (told : Option Files) (name : List ℕ) (n end : ℕ) → IsLong told name n → end < n → EndsBy told name end → (size : ℕ) × HasSize told name (Some size) × (IsDiskLength size → ⊥)
short_read None name n end long less ends = (0, tt, λ (d : IsDiskLength 0). absurd (omega (arith, d.least)))
short_read (Some files) name n end (whole, at, long) less short = absurd (omega (arith, long, less, short, ap length (bytes_are files name whole at)))

-- a disk's length is that of a number of words
pub size_words : (told : Option Files) (name : List ℕ) (size n : ℕ) → HasSize told name (Some size) → IsDiskLength size → n ≡ size / 8 → HasSize told name (Some (8 * n))
size_words told name size n is long words = subst (λ k. HasSize told name (Some k)) (omega (arith, words, long.whole)) is

pub length_words : (size n : ℕ) → IsDiskLength size → n ≡ size / 8 → IsDiskLength (8 * n)
length_words size n long words = subst IsDiskLength (omega (arith, words, long.whole)) long
