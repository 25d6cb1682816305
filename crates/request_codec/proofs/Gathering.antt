-- What one look through the held bytes gathers.
use Rattle.std.proofs.Common.{◌≡◌, ℕ, ◌+◌, true, false, List, ◌++◌, length, take, drop, sym, ap, ◌∙◌, arith}
use Rattle.std.proofs.lemmas.List.{drop_all}
use Rattle.memchr.specs.Find.{Nowhere, NoneBefore, Passes, is_byte}
use Rattle.request_codec.specs.declared.gathered.Gathered.{Gathered}
use Rattle.request_codec.specs.Gathered.{Gathers, Keeps}
use Rattle.request_codec.specs.Lines.{ended}
use Rattle.request_codec.proofs.LineEnds.{no_end, end_found, cut_at_end}

pub gathers_found : (held lent new : List ℕ) (k : ℕ) (before after : Gathered) → lent ≡ held → NoneBefore (Passes (is_byte 10) lent) 0 (length lent) k → Passes (is_byte 10) lent k → new ≡ drop (k + 1) held → ((line : List ℕ) → Keeps before line → Keeps after (line ++ take k lent)) → Gathers held before true new after
gathers_found held lent new k before after same first is rest kept = (
  take k lent,
  record {
    whole = end_found lent k first;
    held = sym same ∙ cut_at_end lent k first.high is ∙ ap (λ (zs : List ℕ). ended (take k lent) ++ drop (k + 1) zs) same ∙ ap (λ zs. ended (take k lent) ++ zs) (sym rest);
    kept = kept;
  },
)

pub gathers_none : (held lent new : List ℕ) (n : ℕ) (before after : Gathered) → lent ≡ held → Nowhere (Passes (is_byte 10) lent) 0 (length lent) → n ≡ length lent → new ≡ drop n held → ((line : List ℕ) → Keeps before line → Keeps after (line ++ lent)) → Gathers held before false new after
gathers_none held lent new n before after same none count rest kept = (
  lent,
  record {
    whole = no_end lent none;
    held = (sym same, rest ∙ drop_all n held (let e : length lent ≡ length held = ap length same in omega arith));
    kept = kept;
  },
)
