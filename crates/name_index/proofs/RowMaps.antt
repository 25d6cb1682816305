-- The rows of a directory's names, as a finite map.
use Rattle.std.proofs.Common.{◌≡◌, ℕ, cond, false, List, [], ◌∷◌, Some, None, Result, Ok, Err, OnOk, refl, sym, ap, ◌∙◌, true≢false}
use Rattle.std.specs.Prelude.{is_err}
use Rattle.std.specs.Cmp.Lexicographic.{slice_cmp, nat_list_cmp_total, nat_list_eq_equiv}
use Rattle.std.specs.FinMap.{find, from_entries, get, get-from_entries, get-insert, get-remove, insert, remove, same_map, nat_cmp-IsAntisymmetric, slice_cmp-IsAntisymmetric}
use Rattle.std.specs.Map.{lookup, update}
use Rattle.std.specs.Ordering.{eq_by_cmp, nat_cmp}
use Rattle.std.specs.Str.{bytes_eq}
use Rattle.std.proofs.lemmas.Map.Text.{is_eq-slice_cmp}
use Rattle.name_index.specs.Rows.{NamesOfDir, rows_by}

-- two maps that answer alike are one
same_rows : (m n : NamesOfDir) → ((name : List ℕ) → get m name ≡ get n name) → m ≡ n
same_rows = same_map nat_list_cmp_total (slice_cmp-IsAntisymmetric nat_cmp-IsAntisymmetric)

-- names are compared byte by byte, from either side
tied : (a b : List ℕ) → bytes_eq a b ≡ eq_by_cmp (slice_cmp nat_cmp) b a
tied a b = nat_list_eq_equiv.symm a b ∙ sym (is_eq-slice_cmp b a)

module _ {K : Type 0} (bytes : K → List ℕ) where
  find_row : (rows : List (K × ℕ)) (name : List ℕ) → find (slice_cmp nat_cmp) name (rows_by bytes rows) ≡ lookup (λ k. bytes_eq name (bytes k)) rows
  find_row [] name = refl
  find_row (row ∷ rows) name =
      ap (λ b. cond b (Some row.1) (find (slice_cmp nat_cmp) name (rows_by bytes rows))) (is_eq-slice_cmp name (bytes row.0))
      ∙ ap (cond (bytes_eq name (bytes row.0)) (Some row.1)) (find_row rows name)

  -- what the map of the rows has is the first row of the name
  pub get_row : (rows : List (K × ℕ)) (name : List ℕ) → get (from_entries {R = slice_cmp nat_cmp} (rows_by bytes rows)) name ≡ lookup (λ k. bytes_eq name (bytes k)) rows
  get_row rows name = get-from_entries nat_list_cmp_total (rows_by bytes rows) name ∙ find_row rows name

  -- rows that look-ups tell apart at one name make maps that differ there
  pub row_put : (rows new : List (K × ℕ)) (name : List ℕ) (i : ℕ) → ((n : List ℕ) → lookup (λ k. bytes_eq n (bytes k)) new ≡ update bytes_eq (λ m. lookup (λ k. bytes_eq m (bytes k)) rows) name (Some i) n) → from_entries {R = slice_cmp nat_cmp} (rows_by bytes new) ≡ insert (from_entries (rows_by bytes rows)) name i
  row_put rows new name i h = same_rows _ _ (λ n.
      get_row new n
      ∙ h n
      ∙ ap (λ b. cond b (Some i) (lookup (λ k. bytes_eq n (bytes k)) rows)) (tied name n)
      ∙ sym (get-insert nat_list_cmp_total (from_entries (rows_by bytes rows)) name i n ∙ ap (cond (eq_by_cmp (slice_cmp nat_cmp) n name) (Some i)) (get_row rows n)))

  pub row_removed : (rows new : List (K × ℕ)) (name : List ℕ) → ((n : List ℕ) → lookup (λ k. bytes_eq n (bytes k)) new ≡ update bytes_eq (λ m. lookup (λ k. bytes_eq m (bytes k)) rows) name None n) → from_entries {R = slice_cmp nat_cmp} (rows_by bytes new) ≡ remove (from_entries (rows_by bytes rows)) name
  row_removed rows new name h = same_rows _ _ (λ n.
      get_row new n
      ∙ h n
      ∙ ap (λ b. cond b None (lookup (λ k. bytes_eq n (bytes k)) rows)) (tied name n)
      ∙ sym (get-remove nat_list_cmp_total (from_entries (rows_by bytes rows)) name n ∙ ap (cond (eq_by_cmp (slice_cmp nat_cmp) n name) None) (get_row rows n)))

-- what was done well holds where the test says so
pub ok_of : {T E : Type 0} (r : Result T E) (P : Type 0) → is_err r ≡ false → OnOk r P → P
ok_of (Ok x) P e p = p
ok_of (Err x) P e p = absurd (true≢false e)
