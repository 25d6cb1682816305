-- A list of files, of which each name finds the first that has it.
use Rattle.std.proofs.Common.{◌≡◌, ◌≢◌, ℕ, zero, suc, Bool, true, false, not, cond, List, ◌+◌, unwrap_or, [], ◌∷◌, ◌++◌, set, get_or, refl, sym, ap, ◌∙◌, arith, inl, inr, Option, Some, None, Result, Ok, Err, OnOk, OnErr}
use Rattle.std.proofs.lemmas.List.{get_or-map, map-set, set-get_or}
use Rattle.std.proofs.lemmas.Bool.{cases_Bool}
use Rattle.std.proofs.lemmas.Map.Text.{is_eq-slice_cmp}
use Rattle.std.proofs.lemmas.Slice.Eq.{bytes_eq-Decides}
use Rattle.std.specs.Cmp.Lexicographic.{slice_cmp, nat_list_cmp_total}
use Rattle.std.specs.FinMap.{empty, find, from_entries, get, insert, remove, get-from_entries, get-insert, get-remove, same_map, slice_cmp-IsAntisymmetric, nat_cmp-IsAntisymmetric}
use Rattle.std.specs.List.{filter}
use Rattle.std.specs.Ordering.{eq_by_cmp, nat_cmp}
use Rattle.std.specs.Str.{bytes_eq}
use Rattle.std.specs.String.{string_bytes}
use Rattle.std.specs.Prelude.{String}
use Rattle.std.specs.declared.alloc.Global.{Global}
use Rattle.rio_base.specs.Hosts.{Asked, AsksFor, Overwrites, bytes_in, overwritten}
use Rattle.test_objects.specs.MemHosts.{IsFirst, IsNoted, Lacks, asked_all, asked_more, asked_of, entries_of, files_of}
use Rattle.test_objects.specs.declared.mem_host.MemFile.{MemFile}

-- the test by which a name is found
abbrev same : List ℕ → List ℕ → Bool
same q name = eq_by_cmp (slice_cmp nat_cmp) q name

same_is : (q name : List ℕ) → same q name ≡ true → q ≡ name
same_is q name e = (bytes_eq-Decides q name).0 (sym (is_eq-slice_cmp q name) ∙ e)

same_self : (name : List ℕ) → same name name ≡ true
same_self name = is_eq-slice_cmp name name ∙ (bytes_eq-Decides name name).1 refl

not_same : (q name : List ℕ) → q ≢ name → same q name ≡ false
not_same q name ne = elim (cases_Bool (same q name)) [
  | inl alike ↦ absurd (ne (same_is q name alike))
  | inr other ↦ other
]

-- what a name finds
abbrev found : List ℕ → List MemFile → Option (List ℕ)
found q files = find (slice_cmp nat_cmp) q (entries_of files)

-- choices of a Bool
again : {A : Type 0} (b : Bool) (x y z : A) → cond b x z ≡ cond b x (cond b y z)
again true x y z = refl
again false x y z = refl

turned : {A : Type 0} (a b : Bool) (x y z : A) → (a ≡ true → b ≡ true → ⊥) → cond a x (cond b y z) ≡ cond b y (cond a x z)
turned true true x y z both = absurd (both refl refl)
turned true false x y z both = refl
turned false b x y z both = refl

nothing : (b : Bool) → cond {A = Option (List ℕ)} b None None ≡ None
nothing true = refl
nothing false = refl

picked : {A : Type 0} (b : Bool) (x y : A) → b ≡ true → cond b x y ≡ x
picked b x y e = ap (λ t. cond t x y) e

passed : {A : Type 0} (b : Bool) (x y : A) → b ≡ false → cond b x y ≡ y
passed b x y e = ap (λ t. cond t x y) e

-- a name finds the first file that has it
pub found_first : (files : List MemFile) (name : List ℕ) (i : ℕ) (d : MemFile) → IsFirst files name i → found name files ≡ Some (get_or files i d).bytes.items
found_first [] name i d first = absurd (omega (arith, first.within))
found_first (f ∷ files) name zero d first = picked (same name (string_bytes f.name)) (Some f.bytes.items) (found name files) (ap (same name) (first.here d) ∙ same_self name)
found_first (f ∷ files) name (suc i) d first =
    let apart : string_bytes f.name ≢ name = first.before 0 d (omega arith) in
    let rest : IsFirst files name i = record { within = omega (arith, first.within); here = first.here; before = λ j e lt. first.before (suc j) e (omega arith) } in
    passed (same name (string_bytes f.name)) (Some f.bytes.items) (found name files) (not_same name (string_bytes f.name) (λ e. apart (sym e))) ∙ found_first files name i d rest

pub found_none : (files : List MemFile) (name : List ℕ) → Lacks files name → found name files ≡ None
found_none [] name lacks = refl
found_none (f ∷ files) name lacks =
    let apart : string_bytes f.name ≢ name = lacks 0 f (omega arith) in
    passed (same name (string_bytes f.name)) (Some f.bytes.items) (found name files) (not_same name (string_bytes f.name) (λ e. apart (sym e))) ∙ found_none files name (λ j e lt. lacks (suc j) e (omega arith))

-- with other bytes in the first file of a name
found_set : (files : List MemFile) (name : List ℕ) (i : ℕ) (g : MemFile) (q : List ℕ) → string_bytes g.name ≡ name → IsFirst files name i → found q (set files i g) ≡ cond (same q name) (Some g.bytes.items) (found q files)
found_set [] name i g q named first = absurd (omega (arith, first.within))
found_set (f ∷ files) name zero g q named first =
    let own : string_bytes f.name ≡ name = first.here f in
    ap (λ n. cond (same q n) (Some g.bytes.items) (found q files)) named
    ∙ again (same q name) (Some g.bytes.items) (Some f.bytes.items) (found q files)
    ∙ ap (λ n. cond (same q name) (Some g.bytes.items) (cond (same q n) (Some f.bytes.items) (found q files))) (sym own)
found_set (f ∷ files) name (suc i) g q named first =
    let apart : string_bytes f.name ≢ name = first.before 0 f (omega arith) in
    let rest : IsFirst files name i = record { within = omega (arith, first.within); here = first.here; before = λ j e lt. first.before (suc j) e (omega arith) } in
    ap (cond (same q (string_bytes f.name)) (Some f.bytes.items)) (found_set files name i g q named rest)
    ∙ turned (same q (string_bytes f.name)) (same q name) (Some f.bytes.items) (Some g.bytes.items) (found q files) (λ a b. apart (sym (same_is q (string_bytes f.name) a) ∙ same_is q name b))

-- with a file more at the end, of a name that none has
found_push : (files : List MemFile) (name : List ℕ) (g : MemFile) (q : List ℕ) → string_bytes g.name ≡ name → Lacks files name → found q (files ++ g ∷ []) ≡ cond (same q name) (Some g.bytes.items) (found q files)
found_push [] name g q named lacks = ap (λ n. cond (same q n) (Some g.bytes.items) None) named
found_push (f ∷ files) name g q named lacks =
    let apart : string_bytes f.name ≢ name = lacks 0 f (omega arith) in
    ap (cond (same q (string_bytes f.name)) (Some f.bytes.items)) (found_push files name g q named (λ j e lt. lacks (suc j) e (omega arith)))
    ∙ turned (same q (string_bytes f.name)) (same q name) (Some f.bytes.items) (Some g.bytes.items) (found q files) (λ a b. apart (sym (same_is q (string_bytes f.name) a) ∙ same_is q name b))

differs : (xs ys : List ℕ) → bytes_eq xs ys ≡ false → xs ≢ ys
differs xs ys other e = let alike = (bytes_eq-Decides xs ys).1 e in absurd (cc)

-- without the files of a name
found_kept : (files : List MemFile) (name : List ℕ) (q : List ℕ) → found q (filter (λ f. not (bytes_eq (string_bytes f.name) name)) files) ≡ cond (same q name) None (found q files)
found_kept [] name q = sym (nothing (same q name))
found_kept (f ∷ files) name q = elim (cases_Bool (bytes_eq (string_bytes f.name) name)) [
  | inl alike ↦
      let own : string_bytes f.name ≡ name = (bytes_eq-Decides (string_bytes f.name) name).0 alike in
      ap (λ b. found q (cond (not b) (f ∷ filter (λ g. not (bytes_eq (string_bytes g.name) name)) files) (filter (λ g. not (bytes_eq (string_bytes g.name) name)) files))) alike
      ∙ found_kept files name q
      ∙ again (same q name) None (Some f.bytes.items) (found q files)
      ∙ ap (λ n. cond (same q name) None (cond (same q n) (Some f.bytes.items) (found q files))) (sym own)
  | inr other ↦
      let apart : string_bytes f.name ≢ name = differs (string_bytes f.name) name other in
      ap (λ b. found q (cond (not b) (f ∷ filter (λ g. not (bytes_eq (string_bytes g.name) name)) files) (filter (λ g. not (bytes_eq (string_bytes g.name) name)) files))) other
      ∙ ap (cond (same q (string_bytes f.name)) (Some f.bytes.items)) (found_kept files name q)
      ∙ turned (same q (string_bytes f.name)) (same q name) (Some f.bytes.items) None (found q files) (λ a b. apart (sym (same_is q (string_bytes f.name) a) ∙ same_is q name b))
]

-- the same of the files as a map
get_files : (files : List MemFile) (q : List ℕ) → get (files_of files) q ≡ found q files
get_files files q = get-from_entries nat_list_cmp_total (entries_of files) q

pub get_first : (files : List MemFile) (name : List ℕ) (i : ℕ) (d : MemFile) → IsFirst files name i → get (files_of files) name ≡ Some (get_or files i d).bytes.items
get_first files name i d first = get_files files name ∙ found_first files name i d first

pub get_none : (files : List MemFile) (name : List ℕ) → Lacks files name → get (files_of files) name ≡ None
get_none files name lacks = get_files files name ∙ found_none files name lacks

inserted : (old new : List MemFile) (name bytes : List ℕ) → ((q : List ℕ) → found q new ≡ cond (same q name) (Some bytes) (found q old)) → files_of new ≡ insert (files_of old) name bytes
inserted old new name bytes is =
    same_map nat_list_cmp_total (slice_cmp-IsAntisymmetric nat_cmp-IsAntisymmetric) (files_of new) (insert (files_of old) name bytes)
    (λ q. get_files new q ∙ is q ∙ ap (cond (same q name) (Some bytes)) (sym (get_files old q)) ∙ sym (get-insert nat_list_cmp_total (files_of old) name bytes q))

pub set_is : (files : List MemFile) (name : List ℕ) (i : ℕ) (g : MemFile) → string_bytes g.name ≡ name → IsFirst files name i → files_of (set files i g) ≡ insert (files_of files) name g.bytes.items
set_is files name i g named first = inserted files (set files i g) name g.bytes.items (λ q. found_set files name i g q named first)

pub push_is : (files : List MemFile) (name : List ℕ) (g : MemFile) → string_bytes g.name ≡ name → Lacks files name → files_of (files ++ g ∷ []) ≡ insert (files_of files) name g.bytes.items
push_is files name g named lacks = inserted files (files ++ g ∷ []) name g.bytes.items (λ q. found_push files name g q named lacks)

pub filter_is : (files : List MemFile) (name : List ℕ) → files_of (filter (λ f. not (bytes_eq (string_bytes f.name) name)) files) ≡ remove (files_of files) name
filter_is files name =
    same_map nat_list_cmp_total (slice_cmp-IsAntisymmetric nat_cmp-IsAntisymmetric) (files_of (filter (λ f. not (bytes_eq (string_bytes f.name) name)) files)) (remove (files_of files) name)
    (λ q. get_files (filter (λ f. not (bytes_eq (string_bytes f.name) name)) files) q ∙ found_kept files name q ∙ ap (cond (same q name) None) (sym (get_files files q)) ∙ sym (get-remove nat_list_cmp_total (files_of files) name q))

pub get_read : (files : List MemFile) (name : List ℕ) (i : ℕ) (f : MemFile) → IsFirst files name i → f ≡ get_or files i f → get (files_of files) name ≡ Some f.bytes.items
get_read files name i f first read = get_first files name i f first ∙ ap (λ (g : MemFile). Some g.bytes.items) (sym read)

-- a file that was written
pub wrote_at : (files : List MemFile) (name : List ℕ) (i off : ℕ) (from : List ℕ) (f g : MemFile) → IsFirst files name i → f ≡ get_or files i f → string_bytes g.name ≡ string_bytes f.name → g.bytes.items ≡ overwritten f.bytes.items off from
    → Overwrites (Some (files_of files)) name off from (Some (files_of (set files i g)))
wrote_at files name i off from f g first read named is =
    let owns : string_bytes f.name ≡ name = ap (λ (h : MemFile). string_bytes h.name) read ∙ first.here f in
    let own : bytes_in (files_of files) name ≡ f.bytes.items = ap (λ (got : Option (List ℕ)). unwrap_or got []) (get_read files name i f first read) in
    ap Some (set_is files name i g (named ∙ owns) first ∙ ap (insert (files_of files) name) (is ∙ ap (λ (bytes : List ℕ). overwritten bytes off from) (sym own)))

-- a file that was made by a write
pub made_at : (files new : List MemFile) (name : List ℕ) (off : ℕ) (from bytes : List ℕ) → Lacks files name → bytes ≡ overwritten [] off from → files_of new ≡ insert (files_of files) name bytes → Overwrites (Some (files_of files)) name off from (Some (files_of new))
made_at files new name off from bytes lacks is put =
    let none : bytes_in (files_of files) name ≡ [] = ap (λ (got : Option (List ℕ)). unwrap_or got []) (get_none files name lacks) in
    ap Some (put ∙ ap (insert (files_of files) name) (is ∙ ap (λ (all : List ℕ). overwritten all off from) (sym none)))

-- a file that has the bytes that it had
pub kept_at : (files : List MemFile) (name : List ℕ) (i : ℕ) (f g : MemFile) → IsFirst files name i → f ≡ get_or files i f → string_bytes g.name ≡ string_bytes f.name → g.bytes.items ≡ f.bytes.items → files_of (set files i g) ≡ files_of files
kept_at files name i f g first read named is =
    let entry : MemFile → List ℕ × List ℕ = λ h. (string_bytes h.name, h.bytes.items) in
    let alike : entry g ≡ entry f = cc in
    let there : entry f ≡ get_or (entries_of files) i (entry f) = ap entry read ∙ sym (get_or-map entry files i f (entry f) first.within) in
    ap from_entries (map-set entry files i g ∙ ap (set (entries_of files) i) (alike ∙ there) ∙ set-get_or (entries_of files) i (entry f))

-- ---- what was asked for

asked_push : (asked : Asked) (names : List (String Global)) (name : String Global) → asked_all asked (names ++ name ∷ []) ≡ asked_more (asked_all asked names) (string_bytes name)
asked_push asked [] name = refl
asked_push asked (n ∷ names) name = asked_push (asked_more asked (string_bytes n)) names name

pub noted_last : (names : List (String Global)) (given : List ℕ) (name : String Global) → string_bytes name ≡ given → asked_of (names ++ name ∷ []) ≡ asked_more (asked_of names) given
noted_last names given name is = asked_push empty names name ∙ ap (asked_more (asked_of names)) is

hidden : {A : Type 0} (b : Bool) (x y z : A) → cond b x (cond b y z) ≡ cond b x z
hidden true x y z = refl
hidden false x y z = refl

-- one more of a name leaves all other counts
more_asks : (asked : Asked) (name : List ℕ) → AsksFor name asked (asked_more asked name)
more_asks asked name =
    same_map nat_list_cmp_total (slice_cmp-IsAntisymmetric nat_cmp-IsAntisymmetric) (remove (asked_more asked name) name) (remove asked name)
    (λ q. get-remove nat_list_cmp_total (asked_more asked name) name q
    ∙ ap (cond (same q name) None) (get-insert nat_list_cmp_total asked name (unwrap_or (get asked name) 0 + 1) q)
    ∙ hidden (same q name) None (Some (unwrap_or (get asked name) 0 + 1)) (get asked q)
    ∙ sym (get-remove nat_list_cmp_total asked name q))

pub noted_asks : (name : List ℕ) (old new : Asked) → IsNoted name old new → AsksFor name old new
noted_asks name old new (inl is) = ap (λ (asked : Asked). remove asked name) is ∙ more_asks old name
noted_asks name old new (inr is) = ap (λ (asked : Asked). remove asked name) is
