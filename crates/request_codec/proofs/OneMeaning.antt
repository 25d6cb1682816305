-- A line has at most one form, and no line of a form is long.
use Rattle.std.proofs.Common.{◌≡◌, ◌≤◌, ℕ, suc, ◌+◌, ◌*◌, true, List, [], ◌∷◌, length, All, flat_map, codes, drop, slice_index, refl, arith, ap, sym, subst, ◌∙◌, inl, inr}
use Rattle.std.proofs.lemmas.List.{append_cancel_left, length-append, ext_get_or}
use Rattle.std.proofs.lemmas.Nat.{from_be_bytes-to_be_bytes_8}
use Rattle.std.specs.Int.{w64, to_be_bytes, from_be_bytes}
use Rattle.rio_requests.specs.declared.request.Request.{Request}
use Rattle.rio_requests.specs.declared.request.Request.TheVariants.{Mkdir, Create, Region, Write, Read, Truncate, Unlink, Rmdir, Rename, Stat, List as ListOf, Sync, Begin, Range, Put, Get, Alloc, Free, Commit, Abort, Txns, Flush, Wild, Arm}
use Rattle.rio_model.specs.Paths.{IsName, IsPath}
use Rattle.request_codec.specs.Form.{AreDigitsOf, IsHexOf, Path, Number, Data, Value, Then, PathNumber, PathNumbers, PathData, Paths, NumberValue, NumbersValue, Says, Form}
use Rattle.request_codec.proofs.Cuts.{path_of, number_of, behind_path, behind_number}
use Rattle.rio_base.proofs.DecimalDigits.{number_length, one_number}
use Rattle.request_codec.proofs.Meanings.{word_of, front, differ, apart}

-- ---- the parts are told by the text

one_byte : (high low a b : ℕ) → AreDigitsOf high low a → AreDigitsOf high low b → a ≡ b
one_byte high low a b h k =
    let highs : h.high_value ≡ k.high_value = cc (h.is_high, k.is_high) in
    let lows : h.low_value ≡ k.low_value = cc (h.is_low, k.is_low) in
    omega (arith, h.value, k.value)

one_hex : (digits a b : List ℕ) → IsHexOf digits a → IsHexOf digits b → a ≡ b
one_hex digits a b h k =
    let size : length a ≡ length b = omega (arith, h.two, k.two) in
    ext_get_or 0 a b size (λ i below. one_byte (slice_index digits (2 * i)) (slice_index digits (2 * i + 1)) (slice_index a i) (slice_index b i) (h.each i below) (k.each i (omega arith)))

one_path : (text p q : List ℕ) → Path p text → Path q text → p ≡ q
one_path text p q h k = sym h.0 ∙ k.0

one_data : (text b d : List ℕ) → Data b text → Data d text → b ≡ d
one_data text b d h k = one_hex text b d h.0 k.0

one_value : (text : List ℕ) (v w : ℕ) → Value v text → Value w text → v ≡ w
one_value text v w h k =
    let bytes : to_be_bytes w64 v ≡ to_be_bytes w64 w = one_hex text (to_be_bytes w64 v) (to_be_bytes w64 w) h.0 k.0 in
    sym (from_be_bytes-to_be_bytes_8 v h.1) ∙ ap (λ bs. from_be_bytes w64 bs) bytes ∙ from_be_bytes-to_be_bytes_8 w k.1

-- ---- so are several of them

both_paths : {R S : List ℕ → Type 0} (text p q : List ℕ) → (h : Then (Path p) R text) → Then (Path q) S text → (p ≡ q) × S h.rest
both_paths text p q h k = let same = behind_path text p h.rest q (path_of p text h) k in (sym same.0, same.1)

both_numbers : {R S : List ℕ → Type 0} (text : List ℕ) (m n : ℕ) → (h : Then (Number m) R text) → Then (Number n) S text → (m ≡ n) × S h.rest
both_numbers text m n h k = let same = behind_number text m h.rest n (number_of m text h) k in (sym same.0, same.1)

pub one_path_number : (text p : List ℕ) (m : ℕ) (q : List ℕ) (n : ℕ) → PathNumber p m text → PathNumber q n text → (p ≡ q) × (m ≡ n)
one_path_number text p m q n h k =
    let first = both_paths text p q h k in
    (first.0, one_number h.rest m n h.rest_is first.1)

pub one_path_numbers : (text p : List ℕ) (m n : ℕ) (q : List ℕ) (i j : ℕ) → PathNumbers p m n text → PathNumbers q i j text → (p ≡ q) × (m ≡ i) × (n ≡ j)
one_path_numbers text p m n q i j h k =
    let first = both_paths text p q h k in
    let second = both_numbers h.rest m i h.rest_is first.1 in
    (first.0, second.0, one_number h.rest_is.rest n j h.rest_is.rest_is second.1)

one_path_data : (text p : List ℕ) (n : ℕ) (b q : List ℕ) (j : ℕ) (d : List ℕ) → PathData p n b text → PathData q j d text → (p ≡ q) × (n ≡ j) × (b ≡ d)
one_path_data text p n b q j d h k =
    let first = both_paths text p q h k in
    let second = both_numbers h.rest n j h.rest_is first.1 in
    (first.0, second.0, one_data h.rest_is.rest b d h.rest_is.rest_is second.1)

one_paths : (text p q r o : List ℕ) → Paths p q text → Paths r o text → (p ≡ r) × (q ≡ o)
one_paths text p q r o h k =
    let first = both_paths text p r h k in
    (first.0, one_path h.rest q o h.rest_is first.1)

one_number_value : (text : List ℕ) (n v j w : ℕ) → NumberValue n v text → NumberValue j w text → (n ≡ j) × (v ≡ w)
one_number_value text n v j w h k =
    let first = both_numbers text n j h k in
    (first.0, one_value h.rest v w h.rest_is first.1)

one_numbers_value : (text : List ℕ) (m n v i j w : ℕ) → NumbersValue m n v text → NumbersValue i j w text → (m ≡ i) × (n ≡ j) × (v ≡ w)
one_numbers_value text m n v i j w h k =
    let first = both_numbers text m i h k in
    let second = one_number_value h.rest n v j w h.rest_is first.1 in
    (first.0, second.0, second.1)

-- ---- a line has one form

-- two forms of one word say things of one text
same_text : {P Q : List ℕ → Type 0} (w line : List ℕ) → (h : Says w P line) → Says w Q line → Q h.text
same_text {P} {Q} w line h k =
    let same : h.text ≡ k.text = ap (λ xs. drop 1 xs) (append_cancel_left w (32 ∷ h.text) (32 ∷ k.text) (sym h.is ∙ k.is)) in
    subst (λ xs. Q xs) (sym same) k.parts

two_words : (line : List ℕ) (r q : Request) → differ (word_of r) (word_of q) ≡ true → Form line r → Form line q → ⊥
two_words line r q d h k =
    let one = front line r h in
    let other = front line q k in
    apart (word_of r) (word_of q) one.0 other.0 d (sym one.1 ∙ other.1)

pub meaning : (line : List ℕ) (r q : Request) → Form line r → Form line q → r ≡ q
meaning line (Mkdir p) (Mkdir q) h k = ap Mkdir (one_path h.text p q h.parts (same_text (codes "mkdir") line h k))
meaning line (Mkdir p) other h k = absurd (two_words line (Mkdir p) other refl h k)
meaning line (Create p) (Create q) h k = ap Create (one_path h.text p q h.parts (same_text (codes "create") line h k))
meaning line (Create p) other h k = absurd (two_words line (Create p) other refl h k)
meaning line (Region p m n) (Region q i j) h k = let same = one_path_numbers h.0.text p m n q i j h.0.parts (same_text (codes "region") line h.0 k.0) in cc (same.0, same.1, same.2)
meaning line (Region p m n) other h k = absurd (two_words line (Region p m n) other refl h k)
meaning line (Write p n b) (Write q j d) h k = let same = one_path_data h.text p n b q j d h.parts (same_text (codes "write") line h k) in cc (same.0, same.1, same.2)
meaning line (Write p n b) other h k = absurd (two_words line (Write p n b) other refl h k)
meaning line (Read p m n) (Read q i j) h k = let same = one_path_numbers h.0.text p m n q i j h.0.parts (same_text (codes "read") line h.0 k.0) in cc (same.0, same.1, same.2)
meaning line (Read p m n) other h k = absurd (two_words line (Read p m n) other refl h k)
meaning line (Truncate p n) (Truncate q j) h k = let same = one_path_number h.text p n q j h.parts (same_text (codes "truncate") line h k) in cc (same.0, same.1)
meaning line (Truncate p n) other h k = absurd (two_words line (Truncate p n) other refl h k)
meaning line (Unlink p) (Unlink q) h k = ap Unlink (one_path h.text p q h.parts (same_text (codes "unlink") line h k))
meaning line (Unlink p) other h k = absurd (two_words line (Unlink p) other refl h k)
meaning line (Rmdir p) (Rmdir q) h k = ap Rmdir (one_path h.text p q h.parts (same_text (codes "rmdir") line h k))
meaning line (Rmdir p) other h k = absurd (two_words line (Rmdir p) other refl h k)
meaning line (Rename p q) (Rename r o) h k = let same = one_paths h.text p q r o h.parts (same_text (codes "rename") line h k) in cc (same.0, same.1)
meaning line (Rename p q) other h k = absurd (two_words line (Rename p q) other refl h k)
meaning line (Stat p) (Stat q) h k = ap Stat (one_path h.text p q h.parts (same_text (codes "stat") line h k))
meaning line (Stat p) other h k = absurd (two_words line (Stat p) other refl h k)
meaning line (ListOf p) (ListOf q) h k = ap ListOf (one_path h.text p q h.parts (same_text (codes "list") line h k))
meaning line (ListOf p) other h k = absurd (two_words line (ListOf p) other refl h k)
meaning line Sync Sync h k = refl
meaning line Sync other h k = absurd (two_words line Sync other refl h k)
meaning line (Begin p) (Begin q) h k = ap Begin (one_path h.text p q h.parts (same_text (codes "begin") line h k))
meaning line (Begin p) other h k = absurd (two_words line (Begin p) other refl h k)
meaning line (Range p m n) (Range q i j) h k = let same = one_path_numbers h.text p m n q i j h.parts (same_text (codes "range") line h k) in cc (same.0, same.1, same.2)
meaning line (Range p m n) other h k = absurd (two_words line (Range p m n) other refl h k)
meaning line (Put p n b) (Put q j d) h k = let same = one_path_data h.text p n b q j d h.parts (same_text (codes "put") line h k) in cc (same.0, same.1, same.2)
meaning line (Put p n b) other h k = absurd (two_words line (Put p n b) other refl h k)
meaning line (Get p m n) (Get q i j) h k = let same = one_path_numbers h.0.text p m n q i j h.0.parts (same_text (codes "get") line h.0 k.0) in cc (same.0, same.1, same.2)
meaning line (Get p m n) other h k = absurd (two_words line (Get p m n) other refl h k)
meaning line (Alloc p n) (Alloc q j) h k = let same = one_path_number h.0.text p n q j h.0.parts (same_text (codes "alloc") line h.0 k.0) in cc (same.0, same.1)
meaning line (Alloc p n) other h k = absurd (two_words line (Alloc p n) other refl h k)
meaning line (Free p n) (Free q j) h k = let same = one_path_number h.text p n q j h.parts (same_text (codes "free") line h k) in cc (same.0, same.1)
meaning line (Free p n) other h k = absurd (two_words line (Free p n) other refl h k)
meaning line (Commit p) (Commit q) h k = ap Commit (one_path h.text p q h.parts (same_text (codes "commit") line h k))
meaning line (Commit p) other h k = absurd (two_words line (Commit p) other refl h k)
meaning line (Abort p) (Abort q) h k = ap Abort (one_path h.text p q h.parts (same_text (codes "abort") line h k))
meaning line (Abort p) other h k = absurd (two_words line (Abort p) other refl h k)
meaning line Txns Txns h k = refl
meaning line Txns other h k = absurd (two_words line Txns other refl h k)
meaning line (Flush n) (Flush j) h k = ap Flush (one_number h.text n j h.parts (same_text (codes "flush") line h k))
meaning line (Flush n) other h k = absurd (two_words line (Flush n) other refl h k)
meaning line (Wild n v) (Wild j w) h k = let same = one_number_value h.text n v j w h.parts (same_text (codes "wild") line h k) in cc (same.0, same.1)
meaning line (Wild n v) other h k = absurd (two_words line (Wild n v) other refl h k)
meaning line (Arm m n v) (Arm i j w) h k = let same = one_numbers_value h.text m n v i j w h.parts (same_text (codes "arm") line h k) in cc (same.0, same.1, same.2)
meaning line (Arm m n v) other h k = absurd (two_words line (Arm m n v) other refl h k)

-- ---- no form is long

names_length : (names : List (List ℕ)) → All IsName names → length (flat_map (λ name. 47 ∷ name) names) ≤ 57 * length names
names_length [] all = omega arith
names_length (n ∷ names) all =
    let named : IsName n = all 0 [] (omega arith) in
    let rest : List ℕ = flat_map (λ name. 47 ∷ name) names in
    omega (arith, named.few, length-append n rest, names_length names (λ k d below. all (suc k) d (omega arith)))

path_length : (path : List ℕ) → IsPath path → length path ≤ 1824
path_length path (inl root) = let size : length path ≡ 1 = ap length root in omega arith
path_length path (inr named) =
    let size : length path ≡ length (flat_map (λ name. 47 ∷ name) named.0) = ap length named.1.is in
    omega (arith, size, names_length named.0 named.1.each, named.3)

then_length : {A R : List ℕ → Type 0} (text : List ℕ) (a b : ℕ) → (h : Then A R text) → length h.first ≤ a → length h.rest ≤ b → length text ≤ a + 1 + b
then_length text a b h first rest = omega (arith, ap length h.is ∙ length-append h.first (32 ∷ h.rest), first, rest)

path_first : {R : List ℕ → Type 0} (text p : List ℕ) (b : ℕ) → (h : Then (Path p) R text) → length h.rest ≤ b → length text ≤ 1825 + b
path_first text p b h rest =
    let size : length h.first ≡ length p = ap length h.first_is.0 in
    omega (arith, then_length text 1824 b h (omega (arith, size, path_length p h.first_is.1)) rest)

number_first : {R : List ℕ → Type 0} (text : List ℕ) (n b : ℕ) → (h : Then (Number n) R text) → length h.rest ≤ b → length text ≤ 19 + b
number_first text n b h rest = omega (arith, then_length text 18 b h (number_length h.first n h.first_is) rest)

only_path : (text p : List ℕ) → Path p text → length text ≤ 1824
only_path text p h = let size : length text ≡ length p = ap length h.0 in omega (arith, size, path_length p h.1)

only_value : (text : List ℕ) (v : ℕ) → Value v text → length text ≤ 16
only_value text v h = let digits : IsHexOf text (to_be_bytes w64 v) = h.0 in omega (arith, digits.two)

only_data : (text b : List ℕ) → Data b text → length text ≤ 2097152
only_data text b h = omega (arith, h.0.two, h.1)

says_length : {P : List ℕ → Type 0} (w line : List ℕ) → (h : Says w P line) → length w ≤ 8 → length h.text ≤ 3000000 → length line ≤ 4194304
says_length w line h word text = omega (arith, ap length h.is ∙ length-append w (32 ∷ h.text), word, text)

length_of_number : (text p : List ℕ) (n : ℕ) → PathNumber p n text → length text ≤ 3000000
length_of_number text p n h = omega (arith, path_first text p 18 h (number_length h.rest n h.rest_is))

length_of_numbers : (text p : List ℕ) (m n : ℕ) → PathNumbers p m n text → length text ≤ 3000000
length_of_numbers text p m n h =
    let last : length h.rest_is.rest ≤ 18 = number_length h.rest_is.rest n h.rest_is.rest_is in
    omega (arith, path_first text p 37 h (omega (arith, number_first h.rest m 18 h.rest_is last)))

length_of_data : (text p : List ℕ) (n : ℕ) (b : List ℕ) → PathData p n b text → length text ≤ 3000000
length_of_data text p n b h =
    let last : length h.rest_is.rest ≤ 2097152 = only_data h.rest_is.rest b h.rest_is.rest_is in
    omega (arith, path_first text p 2097171 h (omega (arith, number_first h.rest n 2097152 h.rest_is last)))

length_of_value : (text : List ℕ) (n v : ℕ) → NumberValue n v text → length text ≤ 35
length_of_value text n v h = omega (arith, number_first text n 16 h (only_value h.rest v h.rest_is))

pub form_length : (line : List ℕ) (r : Request) → Form line r → length line ≤ 4194304
form_length line (Mkdir p) h = says_length (codes "mkdir") line h (omega arith) (omega (arith, only_path h.text p h.parts))
form_length line (Create p) h = says_length (codes "create") line h (omega arith) (omega (arith, only_path h.text p h.parts))
form_length line (Region p m n) h = says_length (codes "region") line h.0 (omega arith) (length_of_numbers h.0.text p m n h.0.parts)
form_length line (Write p n b) h = says_length (codes "write") line h (omega arith) (length_of_data h.text p n b h.parts)
form_length line (Read p m n) h = says_length (codes "read") line h.0 (omega arith) (length_of_numbers h.0.text p m n h.0.parts)
form_length line (Truncate p n) h = says_length (codes "truncate") line h (omega arith) (length_of_number h.text p n h.parts)
form_length line (Unlink p) h = says_length (codes "unlink") line h (omega arith) (omega (arith, only_path h.text p h.parts))
form_length line (Rmdir p) h = says_length (codes "rmdir") line h (omega arith) (omega (arith, only_path h.text p h.parts))
form_length line (Rename p q) h = says_length (codes "rename") line h (omega arith) (omega (arith, path_first h.text p 1824 h.parts (only_path h.parts.rest q h.parts.rest_is)))
form_length line (Stat p) h = says_length (codes "stat") line h (omega arith) (omega (arith, only_path h.text p h.parts))
form_length line (ListOf p) h = says_length (codes "list") line h (omega arith) (omega (arith, only_path h.text p h.parts))
form_length line Sync h = let size : length line ≡ 4 = ap length h in omega arith
form_length line (Begin p) h = says_length (codes "begin") line h (omega arith) (omega (arith, only_path h.text p h.parts))
form_length line (Range p m n) h = says_length (codes "range") line h (omega arith) (length_of_numbers h.text p m n h.parts)
form_length line (Put p n b) h = says_length (codes "put") line h (omega arith) (length_of_data h.text p n b h.parts)
form_length line (Get p m n) h = says_length (codes "get") line h.0 (omega arith) (length_of_numbers h.0.text p m n h.0.parts)
form_length line (Alloc p n) h = says_length (codes "alloc") line h.0 (omega arith) (length_of_number h.0.text p n h.0.parts)
form_length line (Free p n) h = says_length (codes "free") line h (omega arith) (length_of_number h.text p n h.parts)
form_length line (Commit p) h = says_length (codes "commit") line h (omega arith) (omega (arith, only_path h.text p h.parts))
form_length line (Abort p) h = says_length (codes "abort") line h (omega arith) (omega (arith, only_path h.text p h.parts))
form_length line Txns h = let size : length line ≡ 4 = ap length h in omega arith
form_length line (Flush n) h = says_length (codes "flush") line h (omega arith) (omega (arith, number_length h.text n h.parts))
form_length line (Wild n v) h = says_length (codes "wild") line h (omega arith) (omega (arith, length_of_value h.text n v h.parts))
form_length line (Arm m n v) h = says_length (codes "arm") line h (omega arith) (omega (arith, number_first h.text m 35 h.parts (length_of_value h.parts.rest n v h.parts.rest_is)))
