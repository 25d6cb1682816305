-- A name that is free in a directory: what the look-up of it answers.
use Rattle.request_ends.proofs.Common.{◌≡◌, ℕ, true, List, refl, sym, ap, subst, ◌∙◌, inl, inr, Result, Ok, Err, None, Some, is_some, Ino, VolumeShape, BlockWords, true_false, State, held_of, walk_to_dir, ReadsAs}
use Rattle.directories.specs.Rows.{Finds}
use Rattle.std.specs.Prelude.{Option}
use Rattle.request_ends.specs.Failures.{Unrefused}
use Rattle.file_tree.proofs.RowReads.{finds_some}
use Rattle.file_tree.specs.Walks.{Comes, FreeRow}
use Rattle.request_ends.specs.declared.failures.FileFail.{FileFail}
use Rattle.request_ends.specs.declared.failures.FileFail.TheVariants.{Refused, Fault, Stopped, Memory}

free_as : (s : State) (names : List (List ℕ)) (name : List ℕ) (e : FileFail) → Comes (walk_to_dir s names) (Err e) → FreeRow s names name (Err e)
free_as s names name (Refused c) h = inl h
free_as s names name (Fault k) h = h
free_as s names name Stopped h = tt
free_as s names name Memory h = h

-- the directory is not there
pub free_fails : (s : State) (names : List (List ℕ)) (name : List ℕ) (r q : Result Ino FileFail) (e d : FileFail) → r ≡ Err e → q ≡ Err d → d ≡ e → Comes (walk_to_dir s names) r → FreeRow s names name q
free_fails s names name r q e d re qd de h = subst (λ (v : Result Ino FileFail). FreeRow s names name v) (sym (qd ∙ ap Err de)) (free_as s names name e (subst (λ (v : Result Ino FileFail). Comes (walk_to_dir s names) v) re h))

unrefused_as : (T : Type 0) (s : State) (names : List (List ℕ)) (name : List ℕ) (e : FileFail) → Unrefused {T = T} (Err e) → FreeRow s names name (Err e)
unrefused_as T s names name (Refused c) h = absurd h.1
unrefused_as T s names name (Fault k) h = h
unrefused_as T s names name Stopped h = tt
unrefused_as T s names name Memory h = h

-- or could not be looked into
pub free_unrefused : {T : Type 0} (s : State) (names : List (List ℕ)) (name : List ℕ) (r : Result T FileFail) (q : Result Ino FileFail) (e d : FileFail) → r ≡ Err e → q ≡ Err d → d ≡ e → Unrefused r → FreeRow s names name q
free_unrefused {T = T} s names name r q e d re qd de h = subst (λ (v : Result Ino FileFail). FreeRow s names name v) (sym (qd ∙ ap Err de)) (unrefused_as T s names name e (subst (λ (v : Result T FileFail). Unrefused v) re h))

-- the name is there
pub free_over : (shape : VolumeShape) (f : BlockWords) (s : State) (names : List (List ℕ)) (name : List ℕ) (dir : ℕ) (o : Option (Ino × ℕ)) → ReadsAs shape f s → walk_to_dir s names ≡ Ok dir → (held_of shape f dir).kind ≡ 1 → Finds (held_of shape f dir) name o → is_some o ≡ true → FreeRow s names name (Err (Refused 3))
free_over shape f s names name dir (Some found) reads at is h e = inr (dir, at, (found.0.0, finds_some (held_of shape f) s dir name found reads.reads is h), refl)
free_over shape f s names name dir None reads at is h e = absurd (true_false (sym e))
