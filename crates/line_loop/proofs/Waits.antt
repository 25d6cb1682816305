-- Replies that wait: how much of them is written, and which of them the sink refused.
use Rattle.std.proofs.Common.{◌≡◌, ◌≢◌, ◌⊎◌, ℕ, zero, suc, ◌+◌, ◌-◌, ◌<◌, ◌≤◌, List, [], ◌∷◌, ◌++◌, length, take, drop, refl, sym, ap, subst, ◌∙◌, inl, inr, arith, length-append, append_assoc}
use Rattle.std.specs.Prelude.{Option, Some, None, Result, Ok, Err, OnErr, OnOk}
use Rattle.std.proofs.lemmas.Bool.{cases_order}
use Rattle.std.proofs.lemmas.List.{append-nil, drop_all, take-append-drop, take-append-le, take_all, take_at}
use Rattle.rio_base.specs.Failures.{HasCause}
use Rattle.rio_base.specs.Streams.{appended}
use Rattle.request_codec.specs.Sending.{Sends, Sent}
use Rattle.line_loop.specs.declared.effects.Effect.{Effect}
use Rattle.line_loop.specs.declared.effects.Effect.TheVariants.{Nothing}
use Rattle.line_loop.specs.Gathering.{AreQuiet, effect_in}
use Rattle.line_loop.specs.ServeRun.{IsCut, texts}

-- ---- what is written

pub appended-nil : (told : Option (List ℕ)) → told ≡ appended told []
appended-nil None = refl
appended-nil (Some front) = ap Some (sym (append-nil front))

pub appended-append : (told : Option (List ℕ)) (xs ys : List ℕ) → appended (appended told xs) ys ≡ appended told (xs ++ ys)
appended-append None xs ys = refl
appended-append (Some front) xs ys = ap Some (append_assoc front xs ys)

texts-more : {Reply : Type 0} (text : Reply → List ℕ) (replies : List Reply) (reply : Reply) → texts text (replies ++ reply ∷ []) ≡ texts text replies ++ text reply
texts-more text [] reply = append-nil (text reply)
texts-more text (r ∷ replies) reply = ap (λ zs. text r ++ zs) (texts-more text replies reply) ∙ sym (append_assoc (text r) (texts text replies) (text reply))

-- a text that was written whole or cut is sent
pub text_sends : {T E : Type 0} (q : Result T E) (written : Option (List ℕ)) (faults : ℕ) (text : List ℕ) (written_now : Option (List ℕ)) (faults_now : ℕ)
    → OnOk q (written_now ≡ appended written text) → OnErr q ((k : ℕ) × (k ≤ length text) × (written_now ≡ appended written (take k text))) → OnOk q (faults_now ≡ faults) → HasCause q faults faults_now → Sends q written faults [] text written_now faults_now []
text_sends (Ok v) written faults text written_now faults_now wrote cut steady cause = record {
  ok = record { took = record { front = text; wrote = wrote; whole = append-nil text }; steady = steady };
  err = tt;
}
text_sends (Err e) written faults text written_now faults_now wrote (k, few, told) steady cause = record {
  ok = tt;
  err = record { lost = drop k text; took = record { front = take k text; wrote = told; whole = take-append-drop k text }; later = cause.later; rose = cause.cause };
}

-- ---- requests that do nothing

quiet_none : {Request : Type 0} (does : Request → Effect) (n : ℕ) → AreQuiet does (drop n [])
quiet_none does zero = tt
quiet_none does (suc n) = tt

quiet_push : {Request : Type 0} (does : Request → Effect) (n : ℕ) (requests : List (Option Request)) (request : Option Request) → effect_in does request ≡ Nothing → AreQuiet does (drop n requests) → AreQuiet does (drop n (requests ++ request ∷ []))
quiet_push does zero [] request quiet h = (quiet, tt)
quiet_push does zero (r ∷ requests) request quiet h = (h.0, quiet_push does zero requests request quiet h.1)
quiet_push does (suc n) [] request quiet h = quiet_none does n
quiet_push does (suc n) (r ∷ requests) request quiet h = quiet_push does n requests request quiet h

pub quiet_less : {Request : Type 0} (does : Request → Effect) (m n : ℕ) (requests : List (Option Request)) → m ≤ n → AreQuiet does (drop m requests) → AreQuiet does (drop n requests)
quiet_less does zero zero requests le h = h
quiet_less does zero (suc n) [] le h = tt
quiet_less does zero (suc n) (r ∷ requests) le h = quiet_less does zero n requests (omega arith) h.1
quiet_less does (suc m) zero requests le h = absurd (omega (arith, le))
quiet_less does (suc m) (suc n) [] le h = tt
quiet_less does (suc m) (suc n) (r ∷ requests) le h = quiet_less does m n requests (omega (arith, le)) h

-- ---- replies that wait

-- Of the texts of these replies `out` was written and the rest waits: all of the first `done` was written, and each request
-- behind the one after them does nothing
pub record Waits {Request Reply : Type 0} (text : Reply → List ℕ) (does : Request → Effect) (requests : List (Option Request)) (replies : List Reply) (written written_now : Option (List ℕ)) (waiting : List ℕ) : Type 0 where
  pub done : ℕ
  pub few : done ≤ length replies
  pub rest : AreQuiet does (drop (suc done) requests)
  pub out : List ℕ
  pub wrote : written_now ≡ appended written out
  pub whole : out ++ waiting ≡ texts text replies
  pub least : length (texts text (take done replies)) ≤ length out

pub waits_start : {Request Reply : Type 0} (text : Reply → List ℕ) (does : Request → Effect) (written : Option (List ℕ)) → Waits text does [] [] written written []
waits_start text does written = record { done = 0; few = omega arith; rest = tt; out = []; wrote = appended-nil written; whole = refl; least = omega arith }

-- some of what waits is written
pub waits_moved : {Request Reply : Type 0} (text : Reply → List ℕ) (does : Request → Effect) (requests : List (Option Request)) (replies : List Reply) (written mid now : Option (List ℕ)) (waiting front rest : List ℕ)
    → Waits text does requests replies written mid waiting → now ≡ appended mid front → front ++ rest ≡ waiting → Waits text does requests replies written now rest
waits_moved text does requests replies written mid now waiting front rest w moved parts = record {
  done = w.done;
  few = w.few;
  rest = w.rest;
  out = w.out ++ front;
  wrote = moved ∙ ap (λ (o : Option (List ℕ)). appended o front) w.wrote ∙ appended-append written w.out front;
  whole = append_assoc w.out front rest ∙ ap (λ zs. w.out ++ zs) parts ∙ w.whole;
  least = let least = w.least in omega (arith, length-append w.out front, least);
}

pub waits_sent : {Request Reply : Type 0} (text : Reply → List ℕ) (does : Request → Effect) (requests : List (Option Request)) (replies : List Reply) (written mid now : Option (List ℕ)) (waiting rest : List ℕ) (faults faults_now : ℕ)
    → Waits text does requests replies written mid waiting → Sent mid faults waiting [] now faults_now rest → Waits text does requests replies written now rest
waits_sent text does requests replies written mid now waiting rest faults faults_now w sent = waits_moved text does requests replies written mid now waiting sent.took.front rest w sent.took.wrote (sent.took.whole ∙ append-nil waiting)

-- a request more is answered, which does nothing, or before which nothing waits: its reply waits
pub waits_more : {Request Reply : Type 0} (text : Reply → List ℕ) (does : Request → Effect) (requests : List (Option Request)) (replies : List Reply) (written now : Option (List ℕ)) (waiting : List ℕ) (request : Option Request) (reply : Reply)
    → length requests ≡ length replies → (effect_in does request ≡ Nothing) ⊎ (waiting ≡ []) → Waits text does requests replies written now waiting
    → (w : Waits text does (requests ++ request ∷ []) (replies ++ reply ∷ []) written now (waiting ++ text reply)) × (w.done < length (replies ++ reply ∷ []))
waits_more {Reply = Reply} text does requests replies written now waiting request reply same (inl quiet) w = (
  record {
    done = w.done;
    few = let few = w.few in omega (arith, length-append replies (reply ∷ []), few);
    rest = quiet_push does (suc w.done) requests request quiet w.rest;
    out = w.out;
    wrote = w.wrote;
    whole = sym (append_assoc w.out waiting (text reply)) ∙ ap (λ zs. zs ++ text reply) w.whole ∙ sym (texts-more text replies reply);
    least = subst (λ (rs : List Reply). length (texts text rs) ≤ length w.out) (sym (take-append-le w.done replies (reply ∷ []) w.few)) w.least;
  },
  let few = w.few in omega (arith, length-append replies (reply ∷ []), few),
)
waits_more {Reply = Reply} text does requests replies written now waiting request reply same (inr none) w = (
  record {
    done = length replies;
    few = omega (arith, length-append replies (reply ∷ []));
    rest = subst (AreQuiet does) (sym (drop_all (suc (length replies)) (requests ++ request ∷ []) (omega (arith, length-append requests (request ∷ []), same)))) tt;
    out = w.out;
    wrote = w.wrote;
    whole = sym (append_assoc w.out waiting (text reply)) ∙ ap (λ zs. zs ++ text reply) w.whole ∙ sym (texts-more text replies reply);
    least =
        let size : length (w.out ++ waiting) ≡ length (texts text replies) = ap length w.whole in
        let empty : length waiting ≡ 0 = ap length none in
        subst (λ (rs : List Reply). length (texts text rs) ≤ length w.out) (sym (take_at replies (reply ∷ []) (length replies) refl)) (omega (arith, size, empty, length-append w.out waiting));
  },
  omega (arith, length-append replies (reply ∷ [])),
)

-- nothing waits: all was written
pub all_written : {Request Reply : Type 0} (text : Reply → List ℕ) (does : Request → Effect) (requests : List (Option Request)) (replies : List Reply) (written now : Option (List ℕ)) → Waits text does requests replies written now [] → now ≡ appended written (texts text replies)
all_written text does requests replies written now w = w.wrote ∙ ap (appended written) (sym (append-nil w.out) ∙ w.whole)

no_length : (xs : List ℕ) → length xs ≡ 0 → xs ≡ []
no_length [] e = refl
no_length (x ∷ xs) e = absurd (omega (arith, e))

-- something waits: there is a reply behind the first `done`
pub one_waits : {Request Reply : Type 0} (text : Reply → List ℕ) (does : Request → Effect) (requests : List (Option Request)) (replies : List Reply) (written now : Option (List ℕ)) (waiting : List ℕ) (w : Waits text does requests replies written now waiting) → waiting ≢ [] → w.done < length replies
one_waits {Reply = Reply} text does requests replies written now waiting w some = by (cases_order w.done (length replies))
  where
    size : length w.out + length waiting ≡ length (texts text replies)
    size = sym (length-append w.out waiting) ∙ ap length w.whole

    all : w.done ≡ length replies → length (texts text replies) ≤ length w.out
    all is = subst (λ (rs : List Reply). length (texts text rs) ≤ length w.out) (take_all w.done replies (omega (arith, is))) w.least

    by : (w.done ≡ length replies) ⊎ ((w.done < length replies) ⊎ (length replies < w.done)) → w.done < length replies
    by (inl is) = absurd (some (no_length waiting (omega (arith, size, all is))))
    by (inr (inl less)) = less
    by (inr (inr more)) = let few = w.few in omega (arith, few, more)

-- ---- the reply that was refused

-- the front of two lists, past the first of them
take_past : (xs ys : List ℕ) (m n : ℕ) → n ≡ length xs + m → take n (xs ++ ys) ≡ xs ++ take m ys
take_past [] ys m n is = ap (λ i. take i ys) (let e : n ≡ m = omega (arith, is) in e)
take_past (x ∷ xs) ys m zero is = absurd (omega (arith, is))
take_past (x ∷ xs) ys m (suc n) is = ap (λ zs. x ∷ zs) (take_past xs ys m n (omega (arith, is)))

cut_behind : {Reply : Type 0} (text : Reply → List ℕ) (r : Reply) (replies : List Reply) (n m k : ℕ) → k ≡ length (text r) + m → IsCut text (take n replies) (take m (texts text replies)) → IsCut text (r ∷ take n replies) (take k (text r ++ texts text replies))
cut_behind {Reply = Reply} text r replies n m k sum (front, last, j, are, fits, is) = (
  r ∷ front,
  last,
  j,
  ap (λ (rs : List Reply). r ∷ rs) are,
  fits,
  take_past (text r) (texts text replies) m k sum ∙ ap (λ zs. text r ++ zs) is ∙ sym (append_assoc (text r) (texts text front) (take j (text last))),
)

cut_here : {Reply : Type 0} (text : Reply → List ℕ) (r : Reply) (replies : List Reply) (k : ℕ) → k ≤ length (text r) → (n : ℕ) × (0 < n) × IsCut text (take n (r ∷ replies)) (take k (text r ++ texts text replies))
cut_here text r replies k within = (1, omega arith, ([], r, k, refl, within, take-append-le k (text r) (texts text replies) within))

cut_first : {Reply : Type 0} (text : Reply → List ℕ) (r : Reply) (replies : List Reply) (k : ℕ) → (k ≡ length (text r)) ⊎ ((k < length (text r)) ⊎ (length (text r) < k)) → (length (text r) < k → (n : ℕ) × (0 < n) × IsCut text (take n replies) (take (k - length (text r)) (texts text replies)))
    → (n : ℕ) × (0 < n) × IsCut text (take n (r ∷ replies)) (take k (text r ++ texts text replies))
cut_first text r replies k (inl is) behind = cut_here text r replies k (omega (arith, is))
cut_first text r replies k (inr (inl less)) behind = cut_here text r replies k (omega (arith, less))
cut_first text r replies k (inr (inr past)) behind =
    let found = behind past in
    (suc found.0, (let less = found.1 in omega (arith, less)), cut_behind text r replies found.0 (k - length (text r)) k (omega (arith, past)) found.2)

-- The first k bytes of the texts of some replies, behind those of the first `done`, are the texts of some of them, the last one
-- cut
pub cut_within : {Reply : Type 0} (text : Reply → List ℕ) (replies : List Reply) (done k : ℕ) → done < length replies → length (texts text (take done replies)) ≤ k → k ≤ length (texts text replies) → (n : ℕ) × (done < n) × IsCut text (take n replies) (take k (texts text replies))
cut_within text [] done k few least most = absurd (omega (arith, few))
cut_within text (r ∷ replies) (suc done) k few least most =
    let front : length (text r) + length (texts text (take done replies)) ≤ k = omega (arith, length-append (text r) (texts text (take done replies)), least) in
    let whole : k ≤ length (text r) + length (texts text replies) = omega (arith, length-append (text r) (texts text replies), most) in
    let found = cut_within text replies done (k - length (text r)) (omega (arith, few)) (omega (arith, front)) (omega (arith, whole, front)) in
    (suc found.0, (let less = found.1 in omega (arith, less)), cut_behind text r replies found.0 (k - length (text r)) k (omega (arith, front)) found.2)
cut_within text (r ∷ []) zero k few least most = cut_here text r [] k (omega (arith, length-append (text r) [], most))
cut_within text (r ∷ x ∷ replies) zero k few least most =
    let whole : k ≤ length (text r) + length (texts text (x ∷ replies)) = omega (arith, length-append (text r) (texts text (x ∷ replies)), most) in
    cut_first text r (x ∷ replies) k (cases_order k (length (text r))) (λ past. cut_within text (x ∷ replies) zero (k - length (text r)) (omega arith) (omega arith) (omega (arith, whole, past)))
