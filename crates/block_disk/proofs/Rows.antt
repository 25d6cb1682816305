-- The words of blocks, where a list of them changes.
use Rattle.std.proofs.Common.{◌≡◌, ◌<◌, ℕ, List, [], ◌∷◌, ◌++◌, ◌+◌, Vec, length, get_or, set, replicate, take, drop, suc, zero, refl, ap, ◌∙◌, arith, length-append, length-drop}
use Rattle.std.specs.declared.alloc.Global.{Global}
use Rattle.std.proofs.lemmas.List.{map-set, map-append, length-map, length-take-le, replicate_more}
use Rattle.rio_base.specs.Disks.{block_at}
use Rattle.block_disk.specs.BlockLists.{rows, torn_words}

pub rows_set : (all : List (Vec ℕ Global)) (b : ℕ) (v : Vec ℕ Global) → rows (set all b v) ≡ set (rows all) b v.items
rows_set all b v = map-set (λ (w : Vec ℕ Global). w.items) all b v

pub rows_length : (all : List (Vec ℕ Global)) → length (rows all) ≡ length all
rows_length all = length-map all (λ (w : Vec ℕ Global). w.items)

pub row_at : (all : List (Vec ℕ Global)) (b : ℕ) (d : Vec ℕ Global) → b < length all → (get_or all b d).items ≡ block_at (rows all) b
row_at [] b d h = absurd (omega (arith, h))
row_at (v ∷ all) zero d h = refl
row_at (v ∷ all) (suc b) d h = row_at all b d (omega (arith, h))

pub rows_push : (all : List (Vec ℕ Global)) (v : Vec ℕ Global) → rows (all ++ v ∷ []) ≡ rows all ++ v.items ∷ []
rows_push all v = map-append (λ (w : Vec ℕ Global). w.items) all (v ∷ [])

-- one block of zeros more
pub zeros_more : (n : ℕ) (all : List (Vec ℕ Global)) (v : Vec ℕ Global) → rows all ≡ replicate n (replicate 512 0) → v.items ≡ replicate 512 0 → rows (all ++ v ∷ []) ≡ replicate (n + 1) (replicate 512 0)
zeros_more n all v before zeros =
    rows_push all v
    ∙ ap (λ (front : List (List ℕ)). front ++ v.items ∷ []) before
    ∙ ap (λ (last : List ℕ). replicate n (replicate 512 0) ++ last ∷ []) zeros
    ∙ replicate_more n (replicate 512 0)

-- the words of a block that was read from the list
pub row_read : (all : List (Vec ℕ Global)) (b : ℕ) (v : Vec ℕ Global) → b < length (rows all) → v ≡ get_or all b v → v.items ≡ block_at (rows all) b
row_read all b v h e = ap (λ (w : Vec ℕ Global). w.items) e ∙ row_at all b v (omega (arith, h, rows_length all))

pub row_filled : (all : List (Vec ℕ Global)) (b word : ℕ) (old new : Vec ℕ Global) → b < length (rows all) → length (block_at (rows all) b) ≡ 512 → old ≡ get_or all b old → new.items ≡ replicate (length old.items) word → rows (set all b new) ≡ set (rows all) b (replicate 512 word)
row_filled all b word old new h size e filled =
    rows_set all b new ∙ ap (set (rows all) b) (filled ∙ ap (λ n. replicate n word) (ap length (row_read all b old h e) ∙ size))

-- ---- a block that is torn

pub half_length : (words : List ℕ) → length words ≡ 512 → length (take 256 words) ≡ 256
half_length words h = length-take-le 256 words (omega (arith, h))

pub half_put : (front from old : List ℕ) → length from ≡ 512 → front ≡ take 256 from → front ++ drop (length front) old ≡ torn_words from old
half_put front from old h e = rw (e, half_length from h) refl

pub row_torn : (all : List (Vec ℕ Global)) (b : ℕ) (from : List ℕ) (old new : Vec ℕ Global) → b < length (rows all) → old ≡ get_or all b old → new.items ≡ torn_words from old.items → rows (set all b new) ≡ set (rows all) b (torn_words from (block_at (rows all) b))
row_torn all b from old new h e torn = rows_set all b new ∙ ap (set (rows all) b) (torn ∙ ap (torn_words from) (row_read all b old h e))

pub torn_length : (from old : List ℕ) → length from ≡ 512 → length old ≡ 512 → length (torn_words from old) ≡ 512
torn_length from old h k = omega (arith, length-append (take 256 from) (drop 256 old), half_length from h, length-drop 256 old, k)
