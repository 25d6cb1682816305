-- How the bytes that a reader passes over add up.
use Rattle.std.proofs.Common.{◌≡◌, ◌≢◌, ℕ, ◌+◌, ◌≤◌, ◌^◌, Bool, true, false, List, [], ◌∷◌, ◌++◌, length, drop, refl, sym, ap, subst, ◌∙◌, inl, inr, arith, length-append, append_assoc, add-zero}
use Rattle.std.specs.Prelude.{Option, Some, None, Err, IsErrOf}
use Rattle.std.proofs.lemmas.List.{append-nil}
use Rattle.rio_base.specs.Bytes.{Lacks}
use Rattle.rio_base.specs.Streams.{prepended, IsSpent}
use Rattle.request_codec.specs.Gathered.{Keeps, IsKept, IsKeptLast, Gathers}
use Rattle.request_codec.specs.declared.gathered.Gathered.{Gathered}
use Rattle.request_codec.specs.declared.lines.NextLine.{NextLine}
use Rattle.request_codec.specs.declared.lines.NextLine.TheVariants.{Line, TooLong, End}
use Rattle.request_codec.specs.declared.lines.LineFail.{LineFail}
use Rattle.request_codec.specs.declared.lines.LineFail.TheVariants.{Fault, Limit, Memory}
use Rattle.request_codec.specs.Lines.{Reading, HasNoEnd, ended, HasEnded, Passes, TakesLine, Gives, Fails, Refills, RunsOver}

prepended-nil : (told : Option (List ℕ)) → told ≡ prepended [] told
prepended-nil None = refl
prepended-nil (Some rest) = refl

pub prepended-append : (xs ys : List ℕ) (told : Option (List ℕ)) → prepended (xs ++ ys) told ≡ prepended xs (prepended ys told)
prepended-append xs ys None = refl
prepended-append xs ys (Some rest) = ap Some (append_assoc xs ys rest)

pub lacks-append : (b : ℕ) (xs ys : List ℕ) → Lacks b xs → Lacks b ys → Lacks b (xs ++ ys)
lacks-append b [] ys p q = q
lacks-append b (x ∷ xs) ys p q = (p.0, lacks-append b xs ys p.1 q)

-- no byte was read: what was held is what was passed over and what is held now
pub passes_held : (old new : Reading) (told : Option (List ℕ)) (eaten : List ℕ) → old.held ≡ eaten ++ new.held → new.taken ≡ old.taken → Passes old told eaten new told
passes_held old new told eaten split same = record {
  given = [];
  gave = prepended-nil told;
  split = append-nil old.held ∙ split;
  count = same ∙ sym (add-zero old.taken);
}

pub passes_trans : (a b c : Reading) (left mid now : Option (List ℕ)) (xs ys : List ℕ) → Passes a left xs b mid → Passes b mid ys c now → Passes a left (xs ++ ys) c now
passes_trans a b c left mid now xs ys p q = record {
  given = p.given ++ q.given;
  gave = p.gave ∙ ap (prepended p.given) q.gave ∙ sym (prepended-append p.given q.given now);
  split = sym (append_assoc a.held p.given q.given) ∙ ap (λ zs. zs ++ q.given) p.split ∙ append_assoc xs b.held q.given ∙ ap (λ zs. xs ++ zs) q.split ∙ sym (append_assoc xs ys c.held);
  count = let pc = p.count in let qc = q.count in omega (arith, length-append p.given q.given);
}

-- a line is gathered: what was passed over since it began, in which no line ends
pub record Along (old : Reading) (old_left : Option (List ℕ)) (gathered : Gathered) (new : Reading) (new_left : Option (List ℕ)) : Type 0 where
  pub line : List ℕ
  pub whole : HasNoEnd line
  pub kept : Keeps gathered line
  pub passed : Passes old old_left line new new_left

-- the line's end was found
pub found_line : (old mid inside new : Reading) (left now : Option (List ℕ)) (before after : Gathered) (found : Bool) (next : NextLine) → Along old left before mid now → inside ≡ mid → Gathers inside.held before found new.held after → found ≡ true → new.taken ≡ inside.taken → ((line : List ℕ) → Keeps after line → IsKept line next) → Gives old left next new now
found_line old mid inside new left now before after found next began same_inside gathers_is is_found same finish =
    let along = subst (λ (r : Reading). Along old left before r now) (sym same_inside) began in
    let gathers = subst (λ (b : Bool). Gathers inside.held before b new.held after) is_found gathers_is in
    let part = gathers.0 in
    let line = along.line ++ part in
    let whole : HasNoEnd line = lacks-append 10 along.line part along.whole gathers.1.whole in
    let over : Passes old left (along.line ++ ended part) new now = passes_trans old inside new left now now along.line (ended part) along.passed (passes_held inside new now (ended part) gathers.1.held same) in
    let takes : TakesLine old left line new now = record { whole = whole; passed = inl (subst (λ (zs : List ℕ). Passes old left zs new now) (sym (append_assoc along.line part (10 ∷ []))) over) } in
    gives_line old new left now line next takes (finish line (gathers.1.kept along.line along.kept))
  where
    gives_line : (old new : Reading) (left now : Option (List ℕ)) (line : List ℕ) (next : NextLine) → TakesLine old left line new now → IsKept line next → Gives old left next new now
    gives_line old new left now line (Line bytes) takes kept = (subst (λ (zs : List ℕ). TakesLine old left zs new now) (sym kept.0) takes, subst (λ (zs : List ℕ). length zs ≤ 4194304) (sym kept.0) kept.1)
    gives_line old new left now line TooLong takes kept = (line, takes, kept)
    gives_line old new left now line End takes kept = absurd kept

-- no line end was held: the bytes held are gathered too
pub along_more : (old mid inside new : Reading) (left now : Option (List ℕ)) (before after : Gathered) (found : Bool) → Along old left before mid now → inside ≡ mid → Gathers inside.held before found new.held after → found ≡ false → new.taken ≡ inside.taken → Along old left after new now
along_more old mid inside new left now before after found began same_inside gathers_is not_found same =
    let along = subst (λ (r : Reading). Along old left before r now) (sym same_inside) began in
    let gathers = subst (λ (b : Bool). Gathers inside.held before b new.held after) not_found gathers_is in
    let part = gathers.0 in
    let part_held : inside.held ≡ part ++ new.held = gathers.1.held.0 ∙ sym (append-nil part) ∙ ap (λ zs. part ++ zs) (sym gathers.1.held.1) in
    record {
      line = along.line ++ part;
      whole = lacks-append 10 along.line part along.whole gathers.1.whole;
      kept = gathers.1.kept along.line along.kept;
      passed = passes_trans old inside new left now now along.line part along.passed (passes_held inside new now part part_held same);
    }

-- a further piece was read, and nothing passed over
pub along_read : (old mid new : Reading) (left told now : Option (List ℕ)) (gathered : Gathered) → Along old left gathered mid told → Passes mid told [] new now → Along old left gathered new now
along_read old mid new left told now gathered along read = record {
  line = along.line;
  whole = along.whole;
  kept = along.kept;
  passed = subst (λ (zs : List ℕ). Passes old left zs new now) (append-nil along.line) (passes_trans old mid new left told now along.line [] along.passed read);
}

-- the input ended
pub last_line : (old new : Reading) (left now : Option (List ℕ)) (gathered : Gathered) (next : NextLine) → Along old left gathered new now → HasEnded new now → ((line : List ℕ) → Keeps gathered line → IsKeptLast line next) → Gives old left next new now
last_line old new left now gathered next along over finish =
    gives_last old new left now along.line next along.whole along.passed over (finish along.line along.kept)
  where
    gives_last : (old new : Reading) (left now : Option (List ℕ)) (line : List ℕ) (next : NextLine) → HasNoEnd line → Passes old left line new now → HasEnded new now → IsKeptLast line next → Gives old left next new now
    gives_last old new left now line (Line bytes) whole passed over kept =
        let takes : TakesLine old left line new now = record { whole = whole; passed = inr (passed, kept.1, over) } in
        (subst (λ (zs : List ℕ). TakesLine old left zs new now) (sym kept.0.0) takes, subst (λ (zs : List ℕ). length zs ≤ 4194304) (sym kept.0.0) kept.0.1)
    gives_last old new left now line TooLong whole passed over kept =
        (line, record { whole = whole; passed = inr (passed, kept.1, over) }, kept.0)
    gives_last old new left now line End whole passed over kept =
        (subst (λ (zs : List ℕ). Passes old left zs new now) kept passed, over)

-- reading on failed
pub fails_along : (old mid new : Reading) (left told now : Option (List ℕ)) (gathered : Gathered) (fail : LineFail) → Along old left gathered mid told → Fails mid told fail new now → Fails old left fail new now
fails_along old mid new left told now gathered Fault along (part, takes, empty, within) =
    (along.line ++ part, record { whole = lacks-append 10 along.line part along.whole takes.whole; passed = passes_trans old mid new left told now along.line part along.passed takes.passed }, empty, within)
fails_along old mid new left told now gathered Memory along (part, takes, within) =
    (along.line ++ part, record { whole = lacks-append 10 along.line part along.whole takes.whole; passed = passes_trans old mid new left told now along.line part along.passed takes.passed }, within)
fails_along old mid new left told now gathered Limit along over = record {
  part = along.line ++ over.part;
  extra = over.extra;
  whole = lacks-append 10 along.line over.part along.whole over.whole;
  passed = subst (λ (zs : List ℕ). Passes old left zs new now) (sym (append_assoc along.line over.part (over.extra ∷ []))) (passes_trans old mid new left told now along.line (over.part ++ over.extra ∷ []) along.passed over.passed);
  empty = over.empty;
  taken = over.taken;
}

-- one byte past the limit was read, and passed over
pub runs_over : (old inside : Reading) (left now : Option (List ℕ)) (bytes held : List ℕ) (count : ℕ) (ended_now : Bool) → inside ≡ old → old.held ≡ [] → old.taken ≡ 2 ^ 40 → left ≡ prepended bytes now → length bytes ≡ count → count ≤ 1 → count ≢ 0 → held ≡ drop count bytes → RunsOver old left (record { held = held; taken = inside.taken + count; ended = ended_now }) now
runs_over old inside left now [] held count ended_now same empty full gave len few some rest = absurd (some (sym len))
runs_over old inside left now (b ∷ []) held count ended_now same empty full gave len few some rest =
    let one : count ≡ 1 = omega arith in
    let none : held ≡ [] = rest ∙ ap (λ n. drop n (b ∷ [])) one in
    let was : inside.taken ≡ 2 ^ 40 = ap (λ (r : Reading). r.taken) same ∙ full in
    record {
      part = [];
      extra = b;
      whole = tt;
      passed = record { given = b ∷ []; gave = gave; split = ap (λ zs. zs ++ b ∷ []) empty ∙ ap (λ zs. b ∷ zs) (sym none); count = ap (λ n. n + count) (ap (λ (r : Reading). r.taken) same) ∙ ap (λ n. old.taken + n) one };
      empty = none;
      taken = omega arith;
    }
runs_over old inside left now (b ∷ c ∷ more) held count ended_now same empty full gave len few some rest = absurd (omega arith)

-- no line end was held, and then reading on failed
pub fails_next : (old mid inside between new : Reading) (left told now : Option (List ℕ)) (before after : Gathered) (found : Bool) (fail : LineFail) → Along old left before mid told → inside ≡ mid → Gathers inside.held before found between.held after → found ≡ false → between.taken ≡ inside.taken → Fails between told fail new now → Fails old left fail new now
fails_next old mid inside between new left told now before after found fail began same_inside gathers not_found same fails =
    fails_along old between new left told now after fail (along_more old mid inside between left told before after found began same_inside gathers not_found same) fails

-- no line end was held, and then the input ended
pub ends_next : (old mid inside between new : Reading) (left told now : Option (List ℕ)) (before after : Gathered) (found more : Bool) (next : NextLine) → Along old left before mid told → inside ≡ mid → Gathers inside.held before found between.held after → found ≡ false → between.taken ≡ inside.taken → Refills between told more new now → more ≡ false → ((line : List ℕ) → Keeps after line → IsKeptLast line next) → Gives old left next new now
ends_next old mid inside between new left told now before after found more next began same_inside gathers not_found same refills none finish =
    let along = along_more old mid inside between left told before after found began same_inside gathers not_found same in
    let last = subst (λ (b : Bool). Refills between told b new now) none refills in
    last_line old new left now after next (along_read old between new left told now after along last.0) last.2 finish

-- no line end was held, and then a further piece was read
pub reads_next : (old mid inside between new : Reading) (left told now : Option (List ℕ)) (before after : Gathered) (found more : Bool) → Along old left before mid told → inside ≡ mid → Gathers inside.held before found between.held after → found ≡ false → between.taken ≡ inside.taken → Refills between told more new now → Along old left after new now
reads_next old mid inside between new left told now before after found more began same_inside gathers not_found same refills =
    along_read old between new left told now after (along_more old mid inside between left told before after found began same_inside gathers not_found same) refills.0

-- a further piece: the input has not ended
pub more_unended : (old new : Reading) (left now : Option (List ℕ)) (more : Bool) → Refills old left more new now → more ≡ true → new.ended ≡ false
more_unended old new left now more refills is =
    let further = subst (λ (b : Bool). Refills old left b new now) is refills in further.2.1

-- the input had ended: nothing is read
pub stays_ended : (reading : Reading) (left : Option (List ℕ)) → reading.ended ≡ true → reading.held ≡ [] → IsSpent left → Gives reading left End reading left
stays_ended reading left told empty spent = (passes_held reading reading left [] refl refl, record { told = told; empty = empty; spent = spent })

-- the source failed, and nothing was read
pub fails_unread : (old inside : Reading) (left now : Option (List ℕ)) (held : List ℕ) → inside ≡ old → old.held ≡ [] → old.taken ≤ 2 ^ 40 → held ≡ [] → now ≡ left → Fails old left Fault (record { held = held; taken = inside.taken; ended = inside.ended }) now
fails_unread old inside left now held same empty within none unread =
    let new : Reading = record { held = held; taken = inside.taken; ended = inside.ended } in
    let was : inside.taken ≡ old.taken = ap (λ (r : Reading). r.taken) same in (
      [],
      record { whole = tt; passed = subst (λ (told : Option (List ℕ)). Passes old left [] new told) (sym unread) (passes_held old new left [] (empty ∙ sym none) was) },
      none,
      subst (λ n. n ≤ 2 ^ 40) (sym was) within,
    )

-- what failed otherwise is no fault of the source
pub limit_no_fault : IsErrOf {T = Bool} (Err Limit) Fault → ⊥
limit_no_fault e = cc

pub memory_no_fault : IsErrOf {T = NextLine} (Err Memory) Fault → ⊥
memory_no_fault e = cc
