-- What lines mean: each form has a word of its own in front.
use Rattle.std.proofs.Common.{◌≡◌, ◌≢◌, ℕ, ◌==◌, Bool, true, false, if◌then◌else◌, List, [], ◌∷◌, ◌++◌, codes, drop, None, refl, arith, ap, sym, subst, ◌∙◌}
use Rattle.std.proofs.lemmas.Bool.Decides.{nat_tests}
use Rattle.std.proofs.lemmas.List.{append_cancel_left}
use Rattle.rio_base.specs.Bytes.{Lacks}
use Rattle.rio_requests.specs.declared.request.Request.{Request}
use Rattle.rio_requests.specs.declared.request.Request.TheVariants.{Mkdir, Create, Region, Write, Read, Truncate, Unlink, Rmdir, Rename, Stat, List as ListOf, Sync, Begin, Range, Put, Get, Alloc, Free, Commit, Abort, Txns, Flush, Wild, Arm}
use Rattle.rio_model.specs.Paths.{IsPath}
use Rattle.request_codec.specs.Form.{Path, Number, PathNumber, PathNumbers, PathData, Paths, NumberValue, NumbersValue, Says, Form, Means}
use Rattle.request_codec.specs.Fronts.{IsCut}
use Rattle.request_codec.specs.Words.{path_word, path_request, number_word, Takes, number_request, numbers_word, TakesBoth, numbers_request, data_word, data_request, other_word}
use Rattle.request_codec.specs.declared.words.PathWord.{PathWord}
use Rattle.request_codec.specs.declared.words.PathWord.TheVariants.{Mkdir as MkdirWord, Create as CreateWord, Unlink as UnlinkWord, Rmdir as RmdirWord, Stat as StatWord, List as ListWord, Begin as BeginWord, Commit as CommitWord, Abort as AbortWord}
use Rattle.request_codec.specs.declared.words.NumberWord.{NumberWord}
use Rattle.request_codec.specs.declared.words.NumberWord.TheVariants.{Truncate as TruncateWord, Alloc as AllocWord, Free as FreeWord}
use Rattle.request_codec.specs.declared.words.NumbersWord.{NumbersWord}
use Rattle.request_codec.specs.declared.words.NumbersWord.TheVariants.{Region as RegionWord, Read as ReadWord, Range as RangeWord, Get as GetWord}
use Rattle.request_codec.specs.declared.words.DataWord.{DataWord}
use Rattle.request_codec.specs.declared.words.DataWord.TheVariants.{Write as WriteWord, Put as PutWord}
use Rattle.request_codec.specs.declared.words.OtherWord.{OtherWord}
use Rattle.request_codec.specs.declared.words.OtherWord.TheVariants.{Rename as RenameWord, Flush as FlushWord, Wild as WildWord, Arm as ArmWord}
use Rattle.request_codec.proofs.Cuts.{lacks_not, cut_once}

-- ---- the word of a form

abbrev pub word_of : Request → List ℕ
word_of (Mkdir _) = codes "mkdir"
word_of (Create _) = codes "create"
word_of (Region _ _ _) = codes "region"
word_of (Write _ _ _) = codes "write"
word_of (Read _ _ _) = codes "read"
word_of (Truncate _ _) = codes "truncate"
word_of (Unlink _) = codes "unlink"
word_of (Rmdir _) = codes "rmdir"
word_of (Rename _ _) = codes "rename"
word_of (Stat _) = codes "stat"
word_of (ListOf _) = codes "list"
word_of Sync = codes "sync"
word_of (Begin _) = codes "begin"
word_of (Range _ _ _) = codes "range"
word_of (Put _ _ _) = codes "put"
word_of (Get _ _ _) = codes "get"
word_of (Alloc _ _) = codes "alloc"
word_of (Free _ _) = codes "free"
word_of (Commit _) = codes "commit"
word_of (Abort _) = codes "abort"
word_of Txns = codes "txns"
word_of (Flush _) = codes "flush"
word_of (Wild _ _) = codes "wild"
word_of (Arm _ _ _) = codes "arm"

-- a line of this form begins with its word
pub front : (line : List ℕ) (r : Request) → Form line r → (rest : List ℕ) × (line ≡ word_of r ++ rest)
front line (Mkdir _) h = (32 ∷ h.text, h.is)
front line (Create _) h = (32 ∷ h.text, h.is)
front line (Region _ _ _) h = (32 ∷ h.0.text, h.0.is)
front line (Write _ _ _) h = (32 ∷ h.text, h.is)
front line (Read _ _ _) h = (32 ∷ h.0.text, h.0.is)
front line (Truncate _ _) h = (32 ∷ h.text, h.is)
front line (Unlink _) h = (32 ∷ h.text, h.is)
front line (Rmdir _) h = (32 ∷ h.text, h.is)
front line (Rename _ _) h = (32 ∷ h.text, h.is)
front line (Stat _) h = (32 ∷ h.text, h.is)
front line (ListOf _) h = (32 ∷ h.text, h.is)
front line Sync h = ([], h)
front line (Begin _) h = (32 ∷ h.text, h.is)
front line (Range _ _ _) h = (32 ∷ h.text, h.is)
front line (Put _ _ _) h = (32 ∷ h.text, h.is)
front line (Get _ _ _) h = (32 ∷ h.0.text, h.0.is)
front line (Alloc _ _) h = (32 ∷ h.0.text, h.0.is)
front line (Free _ _) h = (32 ∷ h.text, h.is)
front line (Commit _) h = (32 ∷ h.text, h.is)
front line (Abort _) h = (32 ∷ h.text, h.is)
front line Txns h = ([], h)
front line (Flush _) h = (32 ∷ h.text, h.is)
front line (Wild _ _) h = (32 ∷ h.text, h.is)
front line (Arm _ _ _) h = (32 ∷ h.text, h.is)

-- one of the bytes of two words is different
abbrev pub differ : List ℕ → List ℕ → Bool
differ (x ∷ xs) (y ∷ ys) = if x == y then differ xs ys else true
differ xs ys = false

pub apart : (v w xs ys : List ℕ) → differ v w ≡ true → v ++ xs ≡ w ++ ys → ⊥
apart [] w xs ys d e = absurd (cc d)
apart (x ∷ v) [] xs ys d e = absurd (cc d)
apart (x ∷ v) (y ∷ w) xs ys d e = step (λ later. apart v w xs ys later (ap (λ zs. drop 1 zs) e)) (x == y) refl
  where
    step : (differ v w ≡ true → ⊥) → (same : Bool) → (x == y) ≡ same → ⊥
    step behind true s = behind (rw s at d)
    step behind false s = let first : x ≡ y = cc e in grind (arith, nat_tests, s, first)

-- a line of a word has no form of another
pub other_form : (w text : List ℕ) (r : Request) → differ w (word_of r) ≡ true → Form (w ++ (32 ∷ text)) r → ⊥
other_form w text r d h = let begins = front (w ++ (32 ∷ text)) r h in apart w (word_of r) (32 ∷ text) begins.0 d begins.1

-- what a line of a word says is said by the text behind it
pub told : {P : List ℕ → Type 0} (w text : List ℕ) → Says w P (w ++ (32 ∷ text)) → P text
told {P} w text h =
    let same : text ≡ h.text = ap (λ xs. drop 1 xs) (append_cancel_left w (32 ∷ text) (32 ∷ h.text) h.is) in
    subst (λ xs. P xs) (sym same) h.parts

pub says : {P : List ℕ → Type 0} (w text : List ℕ) → P text → Says w P (w ++ (32 ∷ text))
says w text parts = record { text = text; is = refl; parts = parts }

-- ---- a word and a path

path_told : (w text path : List ℕ) → Says w (Path path) (w ++ (32 ∷ text)) → IsPath text
path_told w text path h = let told_path = told w text h in subst (λ xs. IsPath xs) (sym told_path.0) told_path.1

pub no_path_form : (word : PathWord) (text : List ℕ) → (IsPath text → ⊥) → Means (path_word word ++ (32 ∷ text)) None
no_path_form MkdirWord text none (Mkdir p) h = none (path_told (codes "mkdir") text p h)
no_path_form MkdirWord text none r h = other_form (codes "mkdir") text r refl h
no_path_form CreateWord text none (Create p) h = none (path_told (codes "create") text p h)
no_path_form CreateWord text none r h = other_form (codes "create") text r refl h
no_path_form UnlinkWord text none (Unlink p) h = none (path_told (codes "unlink") text p h)
no_path_form UnlinkWord text none r h = other_form (codes "unlink") text r refl h
no_path_form RmdirWord text none (Rmdir p) h = none (path_told (codes "rmdir") text p h)
no_path_form RmdirWord text none r h = other_form (codes "rmdir") text r refl h
no_path_form StatWord text none (Stat p) h = none (path_told (codes "stat") text p h)
no_path_form StatWord text none r h = other_form (codes "stat") text r refl h
no_path_form ListWord text none (ListOf p) h = none (path_told (codes "list") text p h)
no_path_form ListWord text none r h = other_form (codes "list") text r refl h
no_path_form BeginWord text none (Begin p) h = none (path_told (codes "begin") text p h)
no_path_form BeginWord text none r h = other_form (codes "begin") text r refl h
no_path_form CommitWord text none (Commit p) h = none (path_told (codes "commit") text p h)
no_path_form CommitWord text none r h = other_form (codes "commit") text r refl h
no_path_form AbortWord text none (Abort p) h = none (path_told (codes "abort") text p h)
no_path_form AbortWord text none r h = other_form (codes "abort") text r refl h

pub path_form : (word : PathWord) (path : List ℕ) → IsPath path → Form (path_word word ++ (32 ∷ path)) (path_request word path)
path_form MkdirWord path is = says (codes "mkdir") path (refl, is)
path_form CreateWord path is = says (codes "create") path (refl, is)
path_form UnlinkWord path is = says (codes "unlink") path (refl, is)
path_form RmdirWord path is = says (codes "rmdir") path (refl, is)
path_form StatWord path is = says (codes "stat") path (refl, is)
path_form ListWord path is = says (codes "list") path (refl, is)
path_form BeginWord path is = says (codes "begin") path (refl, is)
path_form CommitWord path is = says (codes "commit") path (refl, is)
path_form AbortWord path is = says (codes "abort") path (refl, is)

pub path_given : (word : PathWord) (path given : List ℕ) (r : Request) → IsPath path → given ≡ path → r ≡ path_request word given → Form (path_word word ++ (32 ∷ path)) r
path_given word path given r is same made = subst (λ q. Form (path_word word ++ (32 ∷ path)) q) (sym (made ∙ ap (λ xs. path_request word xs) same)) (path_form word path is)

-- ---- a word, a path and a number

pub no_number_form : (word : NumberWord) (text : List ℕ) → ((path : List ℕ) (n : ℕ) → PathNumber path n text → Takes word n → ⊥) → Means (number_word word ++ (32 ∷ text)) None
no_number_form TruncateWord text none (Truncate p n) h = none p n (told (codes "truncate") text h) tt
no_number_form TruncateWord text none r h = other_form (codes "truncate") text r refl h
no_number_form AllocWord text none (Alloc p n) h = none p n (told (codes "alloc") text h.0) h.1
no_number_form AllocWord text none r h = other_form (codes "alloc") text r refl h
no_number_form FreeWord text none (Free p n) h = none p n (told (codes "free") text h) tt
no_number_form FreeWord text none r h = other_form (codes "free") text r refl h

pub number_form : (word : NumberWord) (text path : List ℕ) (n : ℕ) → PathNumber path n text → Takes word n → Form (number_word word ++ (32 ∷ text)) (number_request word path n)
number_form TruncateWord text path n parts takes = says (codes "truncate") text parts
number_form AllocWord text path n parts takes = (says (codes "alloc") text parts, takes)
number_form FreeWord text path n parts takes = says (codes "free") text parts

pub number_given : (word : NumberWord) (text path given : List ℕ) (n : ℕ) (r : Request) → PathNumber path n text → Takes word n → given ≡ path → r ≡ number_request word given n → Form (number_word word ++ (32 ∷ text)) r
number_given word text path given n r parts takes same made =
    subst (λ q. Form (number_word word ++ (32 ∷ text)) q) (sym (made ∙ ap (λ xs. number_request word xs n) same)) (number_form word text path n parts takes)

-- ---- a word, a path and two numbers

pub no_numbers_form : (word : NumbersWord) (text : List ℕ) → ((path : List ℕ) (m n : ℕ) → PathNumbers path m n text → TakesBoth word m n → ⊥) → Means (numbers_word word ++ (32 ∷ text)) None
no_numbers_form RegionWord text none (Region p m n) h = none p m n (told (codes "region") text h.0) (h.1, h.2)
no_numbers_form RegionWord text none r h = other_form (codes "region") text r refl h
no_numbers_form ReadWord text none (Read p m n) h = none p m n (told (codes "read") text h.0) h.1
no_numbers_form ReadWord text none r h = other_form (codes "read") text r refl h
no_numbers_form RangeWord text none (Range p m n) h = none p m n (told (codes "range") text h) tt
no_numbers_form RangeWord text none r h = other_form (codes "range") text r refl h
no_numbers_form GetWord text none (Get p m n) h = none p m n (told (codes "get") text h.0) h.1
no_numbers_form GetWord text none r h = other_form (codes "get") text r refl h

pub numbers_form : (word : NumbersWord) (text path : List ℕ) (m n : ℕ) → PathNumbers path m n text → TakesBoth word m n → Form (numbers_word word ++ (32 ∷ text)) (numbers_request word path m n)
numbers_form RegionWord text path m n parts takes = (says (codes "region") text parts, takes.0, takes.1)
numbers_form ReadWord text path m n parts takes = (says (codes "read") text parts, takes)
numbers_form RangeWord text path m n parts takes = says (codes "range") text parts
numbers_form GetWord text path m n parts takes = (says (codes "get") text parts, takes)

pub numbers_given : (word : NumbersWord) (text path given : List ℕ) (m n : ℕ) (r : Request) → PathNumbers path m n text → TakesBoth word m n → given ≡ path → r ≡ numbers_request word given m n → Form (numbers_word word ++ (32 ∷ text)) r
numbers_given word text path given m n r parts takes same made =
    subst (λ q. Form (numbers_word word ++ (32 ∷ text)) q) (sym (made ∙ ap (λ xs. numbers_request word xs m n) same)) (numbers_form word text path m n parts takes)

-- ---- a word, a path, a number and data

pub no_data_form : (word : DataWord) (text : List ℕ) → ((path : List ℕ) (n : ℕ) (bytes : List ℕ) → PathData path n bytes text → ⊥) → Means (data_word word ++ (32 ∷ text)) None
no_data_form WriteWord text none (Write p n bytes) h = none p n bytes (told (codes "write") text h)
no_data_form WriteWord text none r h = other_form (codes "write") text r refl h
no_data_form PutWord text none (Put p n bytes) h = none p n bytes (told (codes "put") text h)
no_data_form PutWord text none r h = other_form (codes "put") text r refl h

pub data_form : (word : DataWord) (text path : List ℕ) (n : ℕ) (bytes : List ℕ) → PathData path n bytes text → Form (data_word word ++ (32 ∷ text)) (data_request word path n bytes)
data_form WriteWord text path n bytes parts = says (codes "write") text parts
data_form PutWord text path n bytes parts = says (codes "put") text parts

pub data_given : (word : DataWord) (text path given : List ℕ) (n : ℕ) (bytes : List ℕ) (r : Request) → PathData path n bytes text → given ≡ path → r ≡ data_request word given n bytes → Form (data_word word ++ (32 ∷ text)) r
data_given word text path given n bytes r parts same made =
    subst (λ q. Form (data_word word ++ (32 ∷ text)) q) (sym (made ∙ ap (λ xs. data_request word xs n bytes) same)) (data_form word text path n bytes parts)

-- ---- the other words

pub no_rename : (text : List ℕ) → ((path other : List ℕ) → Paths path other text → ⊥) → Means (codes "rename" ++ (32 ∷ text)) None
no_rename text none (Rename p q) h = none p q (told (codes "rename") text h)
no_rename text none r h = other_form (codes "rename") text r refl h

pub no_flush : (text : List ℕ) → ((n : ℕ) → Number n text → ⊥) → Means (codes "flush" ++ (32 ∷ text)) None
no_flush text none (Flush n) h = none n (told (codes "flush") text h)
no_flush text none r h = other_form (codes "flush") text r refl h

pub no_wild : (text : List ℕ) → ((n v : ℕ) → NumberValue n v text → ⊥) → Means (codes "wild" ++ (32 ∷ text)) None
no_wild text none (Wild n v) h = none n v (told (codes "wild") text h)
no_wild text none r h = other_form (codes "wild") text r refl h

pub no_arm : (text : List ℕ) → ((m n v : ℕ) → NumbersValue m n v text → ⊥) → Means (codes "arm" ++ (32 ∷ text)) None
no_arm text none (Arm m n v) h = none m n v (told (codes "arm") text h)
no_arm text none r h = other_form (codes "arm") text r refl h

-- ---- lines of no known word

-- a word that lacks a space, by looking
abbrev lacks_space : List ℕ → Bool
lacks_space [] = true
lacks_space (x ∷ xs) = if x == 32 then false else lacks_space xs

looked : (xs : List ℕ) → lacks_space xs ≡ true → Lacks 32 xs
looked [] h = tt
looked (x ∷ xs) h = step (looked xs) (x == 32) refl
  where
    step : (lacks_space xs ≡ true → Lacks 32 xs) → (space : Bool) → (x == 32) ≡ space → Lacks 32 (x ∷ xs)
    step behind true s = absurd (cc (rw s at h))
    step behind false s = (s, behind (rw s at h))

word_is : {P : List ℕ → Type 0} (line word text w : List ℕ) → IsCut line word text → lacks_space w ≡ true → Says w P line → word ≡ w
word_is line word text w cut lacks h = (cut_once 32 word text w h.text cut.1 (looked w lacks) (sym cut.0 ∙ h.is)).0

-- a word is none that is known
pub record IsUnknown (word : List ℕ) : Type 0 where
  pub path : (known : PathWord) → word ≢ path_word known
  pub number : (known : NumberWord) → word ≢ number_word known
  pub numbers : (known : NumbersWord) → word ≢ numbers_word known
  pub with_data : (known : DataWord) → word ≢ data_word known
  pub other : (known : OtherWord) → word ≢ other_word known

cut_is_no : (line word text w : List ℕ) → IsCut line word text → lacks_space w ≡ true → line ≡ w → ⊥
cut_is_no line word text w cut lacks is = lacks_not 32 word text (subst (λ xs. Lacks 32 xs) (sym is ∙ cut.0) (looked w lacks))

pub unknown_word : (line word text : List ℕ) → IsCut line word text → IsUnknown word → Means line None
unknown_word line word text cut none (Mkdir _) h = none.path MkdirWord (word_is line word text (codes "mkdir") cut refl h)
unknown_word line word text cut none (Create _) h = none.path CreateWord (word_is line word text (codes "create") cut refl h)
unknown_word line word text cut none (Region _ _ _) h = none.numbers RegionWord (word_is line word text (codes "region") cut refl h.0)
unknown_word line word text cut none (Write _ _ _) h = none.with_data WriteWord (word_is line word text (codes "write") cut refl h)
unknown_word line word text cut none (Read _ _ _) h = none.numbers ReadWord (word_is line word text (codes "read") cut refl h.0)
unknown_word line word text cut none (Truncate _ _) h = none.number TruncateWord (word_is line word text (codes "truncate") cut refl h)
unknown_word line word text cut none (Unlink _) h = none.path UnlinkWord (word_is line word text (codes "unlink") cut refl h)
unknown_word line word text cut none (Rmdir _) h = none.path RmdirWord (word_is line word text (codes "rmdir") cut refl h)
unknown_word line word text cut none (Rename _ _) h = none.other RenameWord (word_is line word text (codes "rename") cut refl h)
unknown_word line word text cut none (Stat _) h = none.path StatWord (word_is line word text (codes "stat") cut refl h)
unknown_word line word text cut none (ListOf _) h = none.path ListWord (word_is line word text (codes "list") cut refl h)
unknown_word line word text cut none Sync h = cut_is_no line word text (codes "sync") cut refl h
unknown_word line word text cut none (Begin _) h = none.path BeginWord (word_is line word text (codes "begin") cut refl h)
unknown_word line word text cut none (Range _ _ _) h = none.numbers RangeWord (word_is line word text (codes "range") cut refl h)
unknown_word line word text cut none (Put _ _ _) h = none.with_data PutWord (word_is line word text (codes "put") cut refl h)
unknown_word line word text cut none (Get _ _ _) h = none.numbers GetWord (word_is line word text (codes "get") cut refl h.0)
unknown_word line word text cut none (Alloc _ _) h = none.number AllocWord (word_is line word text (codes "alloc") cut refl h.0)
unknown_word line word text cut none (Free _ _) h = none.number FreeWord (word_is line word text (codes "free") cut refl h)
unknown_word line word text cut none (Commit _) h = none.path CommitWord (word_is line word text (codes "commit") cut refl h)
unknown_word line word text cut none (Abort _) h = none.path AbortWord (word_is line word text (codes "abort") cut refl h)
unknown_word line word text cut none Txns h = cut_is_no line word text (codes "txns") cut refl h
unknown_word line word text cut none (Flush _) h = none.other FlushWord (word_is line word text (codes "flush") cut refl h)
unknown_word line word text cut none (Wild _ _) h = none.other WildWord (word_is line word text (codes "wild") cut refl h)
unknown_word line word text cut none (Arm _ _ _) h = none.other ArmWord (word_is line word text (codes "arm") cut refl h)
