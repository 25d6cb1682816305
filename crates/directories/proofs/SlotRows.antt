-- Rows of a directory by its slots: where each slot of the changed directory has the row of a slot of before, or the new one.
use Rattle.directories.proofs.Common.{◌≡◌, ◌≢◌, ℕ, ◌*◌, ◌<◌, ◌⊎◌, List, sym, subst, ◌∙◌, inl, inr, Held, entry_ino, entry_name}
use Rattle.directories.specs.RowChanges.{ChangesRows}
use Rattle.directories.specs.Rows.{HasRow, IsEntry, NamesApart}

-- slot b has the row that slot a had
pub record KeepsRow (h k : Held) (a b : ℕ) : Type 0 where
  pub was : 64 * a < h.size
  pub named : entry_name k b ≡ entry_name h a
  pub ino : entry_ino k b ≡ entry_ino h a

-- slots of k: each has the row of slot `source b` of h, but for `fresh` ones, which have the new row; the rows of `lost` slots
-- of h are in none
pub record SlotsChange (h k : Held) (size : ℕ) (source : ℕ → ℕ) (fresh lost : ℕ → Type 0) (new : List ℕ → ℕ → Type 0) : Type 0 where
  pub dir : k.kind ≡ 1
  pub sized : k.size ≡ size
  pub decided : (b : ℕ) → 64 * b < k.size → fresh b ⊎ (fresh b → ⊥)
  pub kept : (b : ℕ) → 64 * b < k.size → (fresh b → ⊥) → KeepsRow h k (source b) b
  pub lives : (b : ℕ) → 64 * b < k.size → (fresh b → ⊥) → lost (source b) → ⊥
  pub once : (b c : ℕ) → 64 * b < k.size → 64 * c < k.size → (fresh b → ⊥) → (fresh c → ⊥) → source b ≡ source c → b ≡ c
  pub reach : (a : ℕ) → 64 * a < h.size → lost a ⊎ ((b : ℕ) × (64 * b < k.size) × (fresh b → ⊥) × (source b ≡ a))
  pub made : (b : ℕ) → 64 * b < k.size → fresh b → new (entry_name k b) (entry_ino k b)
  pub come : (name : List ℕ) (i : ℕ) → new name i → HasRow k name i
  pub one : (b c : ℕ) → fresh b → fresh c → b ≡ c
  pub absent : NamesApart h → (a : ℕ) (name : List ℕ) (i : ℕ) → 64 * a < h.size → (lost a → ⊥) → new name i → entry_name h a ≢ name

row_kept : (h k : Held) (a b : ℕ) (name : List ℕ) (i : ℕ) → 64 * b < k.size → KeepsRow h k a b → IsEntry h a name i → IsEntry k b name i
row_kept h k a b name i within kept is = record { within = within; named = kept.named ∙ is.named; ino = kept.ino ∙ is.ino }

pub rows_of : (h k : Held) (size : ℕ) (source : ℕ → ℕ) (fresh lost : ℕ → Type 0) (gone : List ℕ → Type 0) (new : List ℕ → ℕ → Type 0) → SlotsChange h k size source fresh lost new → ((a : ℕ) → 64 * a < h.size → lost a → gone (entry_name h a)) → ((name : List ℕ) → gone name → (a : ℕ) × (64 * a < h.size) × lost a × (name ≡ entry_name h a)) → ChangesRows h k size gone new
rows_of h k size source fresh lost gone new s gone_of lost_of = record {
  dir = s.dir;
  sized = s.sized;
  stay = λ name i row still. by_reach name i row.0 row.1 still (s.reach row.0 row.1.within);
  come = s.come;
  from = λ name i row. by_slot name i row.0 row.1 (s.decided row.0 row.1.within);
  went = λ apart name i out row. by_gone apart name i row.0 row.1 (lost_of name out) (s.decided row.0 row.1.within);
  apart = λ apart b c in_b in_c same. by_two apart b c in_b in_c same (s.decided b in_b) (s.decided c in_c);
}
  where
    by_reach : (name : List ℕ) (i a : ℕ) → IsEntry h a name i → (gone name → ⊥) → lost a ⊎ ((b : ℕ) × (64 * b < k.size) × (fresh b → ⊥) × (source b ≡ a)) → HasRow k name i
    by_reach name i a is still (inl out) = absurd (still (subst gone is.named (gone_of a is.within out)))
    by_reach name i a is still (inr at) = (at.0, row_kept h k (source at.0) at.0 name i at.1 (s.kept at.0 at.1 at.2) (subst (λ x. IsEntry h x name i) (sym at.3) is))

    by_slot : (name : List ℕ) (i b : ℕ) → IsEntry k b name i → fresh b ⊎ (fresh b → ⊥) → HasRow h name i ⊎ new name i
    by_slot name i b is (inl on) = inr (subst (λ n. new name n) is.ino (subst (λ a. new a (entry_ino k b)) is.named (s.made b is.within on)))
    by_slot name i b is (inr off) = let kept = s.kept b is.within off in inl (source b, record { within = kept.was; named = sym kept.named ∙ is.named; ino = sym kept.ino ∙ is.ino })

    by_gone : NamesApart h → (name : List ℕ) (i b : ℕ) → IsEntry k b name i → ((a : ℕ) × (64 * a < h.size) × lost a × (name ≡ entry_name h a)) → fresh b ⊎ (fresh b → ⊥) → new name i
    by_gone apart name i b is out (inl on) = subst (λ n. new name n) is.ino (subst (λ a. new a (entry_ino k b)) is.named (s.made b is.within on))
    by_gone apart name i b is out (inr off) =
        let kept = s.kept b is.within off in
        absurd (s.lives b is.within off (subst lost (apart out.0 (source b) out.1 kept.was (sym out.3 ∙ sym is.named ∙ kept.named)) out.2))

    by_two : NamesApart h → (b c : ℕ) → 64 * b < k.size → 64 * c < k.size → entry_name k b ≡ entry_name k c → fresh b ⊎ (fresh b → ⊥) → fresh c ⊎ (fresh c → ⊥) → b ≡ c
    by_two apart b c in_b in_c same (inl on_b) (inl on_c) = s.one b c on_b on_c
    by_two apart b c in_b in_c same (inl on_b) (inr off_c) = absurd (s.absent apart (source c) (entry_name k b) (entry_ino k b) (s.kept c in_c off_c).was (s.lives c in_c off_c) (s.made b in_b on_b) (sym (s.kept c in_c off_c).named ∙ sym same))
    by_two apart b c in_b in_c same (inr off_b) (inl on_c) = absurd (s.absent apart (source b) (entry_name k c) (entry_ino k c) (s.kept b in_b off_b).was (s.lives b in_b off_b) (s.made c in_c on_c) (sym (s.kept b in_b off_b).named ∙ same))
    by_two apart b c in_b in_c same (inr off_b) (inr off_c) = s.once b c in_b in_c off_b off_c (apart (source b) (source c) (s.kept b in_b off_b).was (s.kept c in_c off_c).was (sym (s.kept b in_b off_b).named ∙ same ∙ (s.kept c in_c off_c).named))
