-- Calls of one update, one after the other, and what the whole of it does.
use Rattle.node_pages.proofs.Common.{◌≡◌, ◌≢◌, ℕ, zero, suc, ◌+◌, ◌-◌, ◌/◌, ◌%◌, ◌<◌, ◌≤◌, ◌==◌, ◌||◌, Bool, inl, inr, true, false, List, [], ◌∷◌, length, map, drop, set, take, refl, get_or-drop, get_or-take, length-drop, length-take-le, map-append, put_run, take-append-drop, take_rest, sym, ap, subst, ◌∙◌, arith, slice_index_or, slice_index, Option, None, OnOk, AllByRecursion, Contains, cases_eq, cases_lt, nat_tests, Block, PageName, VolumeShape, used_bit, CachesBy, caches_by_one, BlockWords, Caches, CanName, SamePage, Seen, IsIno, inode_block, reserved, Kept, SameUpdate, numbers, inode_low, Applied, WordEdit, edited, Inode, Drops}
use Rattle.std.specs.Int.{bit_at}
use Rattle.std.proofs.Common.{Result}
use Rattle.std.proofs.lemmas.List.{get_or-set_other, get_or-set_same, get_or_default, take_more}
use Rattle.rio_base.specs.Bitmap.{bitmap_block}
use Rattle.rio_base.proofs.Bitmap.{first_bitmap}
use Rattle.rio_base.specs.Blocks.{IsSpan}
use Rattle.rio_base.specs.Shapes.{IsShape}
use Rattle.rio_base.specs.Volume.{Touches, put}
use Rattle.rio_base.proofs.VolumeRuns.{put_next, put_none}
use Rattle.block_alloc.specs.Bitmap.{SetsBit}
use Rattle.rio_model.proofs.PlacedRules.{bits_low, inode_no_bitmap}
use Rattle.rio_model.proofs.UpdateRules.{edited_on, edited_out, inode_elsewhere}
use Rattle.rio_model.specs.Updates.{with_inode}
use Rattle.rio_model.specs.VolumeRules.{bitmap_bits}
use Rattle.inode_table.specs.Inodes.{inode_words}
use Rattle.node_pages.specs.Changes.{node_update, word_edit}
use Rattle.node_pages.specs.Updating.{CanUpdate, IsEditRun, SetsBits}
use Rattle.node_pages.specs.declared.changes.Edit.{Edit}
use Rattle.node_pages.proofs.Listed.{place_of}

pub update_trans : (k l m : Kept) → SameUpdate k l → SameUpdate l m → SameUpdate k m
update_trans k l m a b = record { updating = b.updating ∙ a.updating; touched = b.touched ∙ a.touched; touches = b.touches ∙ a.touches }

-- ---- edits

pub edit_in : (es : List Edit) (t : ℕ) (d : Edit) → t < length es → Contains es (slice_index_or es t d)
edit_in es t d few = (t, few, get_or_default es t (slice_index_or es t d) d few)

-- ---- a run of edits, which is made in one call

pub run_taken : (es : List Edit) (vs : List ℕ) (n : ℕ) → IsEditRun es vs n → IsEditRun es (take n vs) n
run_taken es vs n h = record { block = h.block; word = h.word; value = λ t d less. h.value t d less ∙ sym (get_or-take n vs t 0 less) }

pub run_edited : (es : List Edit) (vs : List ℕ) (n : ℕ) (d : Edit) (f : BlockWords) → n ≤ length es → IsEditRun es vs n → put_run f (slice_index_or es 0 d).block.0 (slice_index_or es 0 d).word n vs ≡ edited f (map word_edit (take n es))
run_edited es vs zero d f few h = sym (put_none f _ _ vs)
run_edited es vs (suc n) d f few h =
    let next : n + 1 ≡ suc n = omega arith in
    let less : n < suc n = omega arith in
    let within : n < length es = omega (arith, few) in
    let e = slice_index_or es n d in
    let b = (slice_index_or es 0 d).block.0 in
    let w = (slice_index_or es 0 d).word in
    let before = run_edited es vs n d f (omega (arith, few)) (record { block = λ t c l. h.block t c (omega (arith, l)); word = λ t c l. h.word t c (omega (arith, l)); value = λ t c l. h.value t c (omega (arith, l)) }) in
    let made : edited f (map word_edit (take (n + 1) es)) ≡ put (edited f (map word_edit (take n es))) e.block.0 e.word e.value = ap (λ xs. edited f (map word_edit xs)) (take_more es n d within) ∙ ap (λ xs. edited f xs) (map-append word_edit (take n es) (e ∷ [])) ∙ edited_on (map word_edit (take n es)) (word_edit e ∷ []) f in
    let one : put_run f b w (n + 1) vs ≡ put (put_run f b w n vs) e.block.0 e.word e.value = sym (put_next f b w n e.value vs (h.value n d less)) ∙ (λ t. put (put_run f b w n vs) (sym (h.block n d less) t) (sym (h.word n d less) t) e.value) in
    ap (λ m. put_run f b w m vs) (sym next) ∙ one ∙ ap (λ (g : BlockWords). put g e.block.0 e.word e.value) before ∙ sym made ∙ ap (λ m. edited f (map word_edit (take m es))) next

-- one edit more that follows makes a run longer
pub run_more : (es : List Edit) (vs : List ℕ) (n : ℕ) (a b : Edit) → IsEditRun es vs n → n < length es → n < length vs → ((slice_index_or es n a).block.0 ≡ (slice_index_or es 0 b).block.0) × ((slice_index_or es n a).word ≡ (slice_index_or es 0 b).word + n) → IsEditRun es (set vs n (slice_index_or es n a).value) (n + 1)
run_more es vs n a b h few room follows = record {
  block = λ t d less. elim (cases_eq t n) [
    | inl here ↦ ap (λ k. (slice_index_or es k d).block.0) here ∙ ap (λ (e : Edit). e.block.0) (get_or_default es n d a few) ∙ follows.0 ∙ ap (λ (e : Edit). e.block.0) (get_or_default es 0 b d some)
    | inr away ↦ h.block t d (omega (arith, less, away))
  ];
  word = λ t d less. elim (cases_eq t n) [
    | inl here ↦ ap (λ k. (slice_index_or es k d).word) here ∙ ap (λ (e : Edit). e.word) (get_or_default es n d a few) ∙ follows.1 ∙ ap (λ (e : Edit). e.word + n) (get_or_default es 0 b d some) ∙ ap (λ k. (slice_index_or es 0 d).word + k) (sym here)
    | inr away ↦ h.word t d (omega (arith, less, away))
  ];
  value = λ t d less. elim (cases_eq t n) [
    | inl here ↦ ap (λ k. (slice_index_or es k d).value) here ∙ ap (λ (e : Edit). e.value) (get_or_default es n d a few) ∙ sym (get_or-set_same vs n v 0 room) ∙ ap (slice_index (set vs n v)) (sym here)
    | inr away ↦ h.value t d (omega (arith, less, away)) ∙ sym (get_or-set_other vs n t v 0 away)
  ];
}
  where
    v : ℕ
    v = (slice_index_or es n a).value

    some : 0 < length es
    some = omega (arith, few)

-- the words of a run that is made in one call
pub run_made : (es : List Edit) (vs : List ℕ) (n : ℕ) (d : Edit) (f g : BlockWords) → n ≤ length es → n ≤ length vs → IsEditRun es vs n → g ≡ put_run f (slice_index_or es 0 d).block.0 (slice_index_or es 0 d).word (length (take n vs)) (take n vs) → g ≡ edited f (map word_edit (take n es))
run_made es vs n d f g few room h e = e ∙ ap (λ m. put_run f (slice_index_or es 0 d).block.0 (slice_index_or es 0 d).word m (take n vs)) (length-take-le n vs room) ∙ run_edited es (take n vs) n d f few (run_taken es vs n h)

pub run_span : (es : List Edit) (vs : List ℕ) (n : ℕ) (d : Edit) (x : Seen) → 0 < n → n ≤ length es → n ≤ length vs → IsEditRun es vs n → ((e : Edit) → Contains es e → e.block.0 < x.count) → ((e : Edit) → Contains es e → e.word < 512) → IsSpan x (slice_index_or es 0 d).block.0 (slice_index_or es 0 d).word (length (take n vs))
run_span es vs n d x some few room h blocks words = record {
  block = blocks _ (edit_in es 0 d (omega (arith, some, few)));
  within = omega (arith, some, h.word (n - 1) d (omega (arith, some)), words _ (edit_in es (n - 1) d (omega (arith, some, few))), length-take-le n vs room);
}

-- the edits behind the first n of them
pub edits_behind : (es : List Edit) (n : ℕ) (f g : BlockWords) → g ≡ edited f (map word_edit (take n es)) → edited g (map word_edit (take (length es - n) (drop n es))) ≡ edited f (map word_edit es)
edits_behind es n f g e = ap (λ xs. edited g (map word_edit xs)) (take_rest es n) ∙ ap (λ h. edited h (map word_edit (drop n es))) e ∙ sym (edited_on (map word_edit (take n es)) (map word_edit (drop n es)) f) ∙ ap (λ xs. edited f xs) (sym (map-append word_edit (take n es) (drop n es))) ∙ ap (λ xs. edited f (map word_edit xs)) (take-append-drop n es)

pub behind_in : (es : List Edit) (n : ℕ) (e : Edit) → Contains (take (length es - n) (drop n es)) e → Contains es e
behind_in es n e h = from (subst (λ xs. Contains xs e) (take_rest es n) h)
  where
    from : Contains (drop n es) e → Contains es e
    from k = (n + k.0, omega (arith, k.1, length-drop n es), sym (get_or-drop n es k.0 e) ∙ k.2)

-- ---- touching

pub touched_now : (b : ℕ) (k l : Kept) → Touches b k l → l.touched b ≡ true
touched_now b k l h = ap (λ (f : ℕ → Bool). f b) h.touched ∙ same_or b b (k.touched b) refl
  where
    same_or : (c b : ℕ) (t : Bool) → c ≡ b → ((c == b) || t) ≡ true
    same_or c b t e = grind (arith, nat_tests, e)

pub touched_still : (b c : ℕ) (k l : Kept) → Touches b k l → k.touched c ≡ true → l.touched c ≡ true
touched_still b c k l h was = ap (λ (f : ℕ → Bool). f c) h.touched ∙ ap (λ t. (c == b) || t) was ∙ or_true (c == b)
  where
    or_true : (t : Bool) → (t || true) ≡ true
    or_true true = refl
    or_true false = refl

-- ---- bits

-- blocks that a volume may have have their bits in block 1
pub in_first : (shape : VolumeShape) (b : ℕ) → IsShape shape → b < shape.blocks → bitmap_block shape b ≡ 1
in_first shape b h within = first_bitmap shape b (let most = h.blocks_to in omega (arith, within, most))

pub caches_first : (shape : VolumeShape) (x y : Seen) (b : ℕ) → IsShape shape → b < shape.blocks → Caches x y (bitmap_block shape b) None → Caches x y 1 None
caches_first shape x y b h within c = subst (λ a. Caches x y a None) (in_first shape b h within) c

pub bitmap_dropped : (x y : Seen) → Drops x y → Caches x y 1 None
bitmap_dropped x y h = record { others = λ c away on. h.kept c on; named = λ on. inl (h.kept 1 on) }

pub bit_here : (shape : VolumeShape) (f g : BlockWords) (b bit : ℕ) → IsShape shape → b < shape.blocks → SetsBit shape f g b bit → (c w : ℕ) → c ≢ 1 → g c w ≡ f c w
bit_here shape f g b bit h within s c w away = s.elsewhere c w (inl (λ e. away (e ∙ in_first shape b h within)))

pub sets_more : (shape : VolumeShape) (f g h : BlockWords) (bs : List ℕ) (n b bit : ℕ) → IsShape shape → b < shape.blocks → b ≡ slice_index bs n → SetsBits shape f g bs n bit → SetsBit shape g h b bit → SetsBits shape f h bs (n + 1) bit
sets_more shape f g h bs n b bit fits within at a s = record {
  elsewhere = λ c w away. bit_here shape g h b bit fits within s c w away ∙ a.elsewhere c w away;
  set = λ t few. elim (cases_eq (slice_index bs t) b) [
    | inl same ↦ ap (used_bit shape h) same ∙ s.same
    | inr away ↦ s.others _ away ∙ a.set t (let not : t ≢ n = λ e. away (ap (slice_index bs) e ∙ sym at) in omega (arith, few, not))
  ];
  others = λ c out. s.others c (λ e. out n (omega arith) (sym at ∙ sym e)) ∙ a.others c (λ t few. out t (omega (arith, few)));
}

-- ---- the whole update

pub sets_none : (shape : VolumeShape) (f : BlockWords) (bs : List ℕ) (bit : ℕ) → SetsBits shape f f bs 0 bit
sets_none shape f bs bit = record { elsewhere = λ b w away. refl; set = λ t few. absurd (omega (arith, few)); others = λ b out. refl }

not_listed : (bs : List ℕ) (b n : ℕ) → n ≡ length bs → (Contains bs b → ⊥) → (t : ℕ) → t < n → slice_index bs t ≢ b
not_listed bs b n is out t few e = out (t, subst (λ (m : ℕ). t < m) is few, get_or_default bs t b 0 (subst (λ (m : ℕ). t < m) is few) ∙ e)

-- the words of the bitmap that have a bit are in no inode
bitmap_away : (shape : VolumeShape) (i b : ℕ) → IsShape shape → IsIno shape i → b < bitmap_bits shape → bitmap_block shape b ≢ inode_block i
unfolding bitmap_block
bitmap_away shape i b h ino within e = elim (cases_lt b 32768) [
  | inl few ↦ (let first = first_bitmap shape b few in omega (arith, ino.from, ino.to, e, first))
  | inr many ↦ absurd (far many)
]
  where
    far : 32768 ≤ b → ⊥
    far many = inode_no_bitmap shape i h ino (inr (let at = past many in (omega (arith, at, e, many), inode_low shape i h ino)))
      where
        past : 32768 ≤ b → bitmap_block shape b ≡ 1 + shape.inodes / 32 + b / 32768
        past m = grind (arith, nat_tests, m)

edits_out : (es : List Edit) (c : ℕ) → ((e : Edit) → Contains es e → e.block.0 ≢ c) → AllByRecursion (λ (e : WordEdit). e.block ≢ c) (map word_edit es)
edits_out [] c out = tt
edits_out (e ∷ es) c out = (out e (0, omega arith, refl), edits_out es c (λ d on. out d (suc on.0, omega (arith, on.1), on.2)))

pub applied : (shape : VolumeShape) (i : ℕ) (inode : Inode) (edits : List Edit) (taken freed : List Block) (f m p q g : BlockWords) → IsShape shape → IsIno shape i → ((e : Edit) → Contains edits e → reserved shape ≤ e.block.0) → ((b : ℕ) → Contains (numbers taken) b → Contains (numbers freed) b → ⊥) → m ≡ edited f (map word_edit edits) → p ≡ with_inode m i (inode_words inode) → SetsBits shape p q (numbers taken) (length (numbers taken)) 1 → SetsBits shape q g (numbers freed) (length (numbers freed)) 0 → Applied shape (node_update i inode edits taken freed) f g
applied shape i inode edits taken freed f m p q g fits ino from apart em ep marks clears = record {
  words = λ b w off. clears.elsewhere b w (λ e. off (inl e)) ∙ marks.elsewhere b w (λ e. off (inl e)) ∙ ap (λ (h : BlockWords). h b w) ep ∙ ap (λ (h : BlockWords). with_inode h i (inode_words inode) b w) em;
  taken = λ b on. clears.others b (not_listed (numbers freed) b _ refl (λ z. apart b on z)) ∙ set_of p q (numbers taken) 1 b marks on;
  freed = λ b on. set_of q g (numbers freed) 0 b clears on;
  others = λ b within out off. clears.others b (not_listed (numbers freed) b _ refl off) ∙ marks.others b (not_listed (numbers taken) b _ refl out) ∙ ap (λ (w : ℕ). bit_at w (b % 64)) (bit_word b within);
}
  where
    set_of : (f g : BlockWords) (bs : List ℕ) (bit b : ℕ) → SetsBits shape f g bs (length bs) bit → Contains bs b → used_bit shape g b ≡ bit
    set_of f g bs bit b h on = by_place (place_of bs b on)
      where
        by_place : ((t : ℕ) × (t < length bs) × (slice_index bs t ≡ b)) → used_bit shape g b ≡ bit
        by_place (t, few, e) = subst (λ x. used_bit shape g x ≡ bit) e (h.set t few)

    bit_word : (b : ℕ) → b < bitmap_bits shape → p (bitmap_block shape b) (b % 32768 / 64) ≡ f (bitmap_block shape b) (b % 32768 / 64)
    bit_word b within = ap (λ (h : BlockWords). h (bitmap_block shape b) (b % 32768 / 64)) ep ∙ inode_elsewhere m i (inode_words inode) _ _ (bitmap_away shape i b fits ino within) ∙ ap (λ (h : BlockWords). h (bitmap_block shape b) (b % 32768 / 64)) em
        ∙ edited_out (map word_edit edits) f _ _ (edits_out edits (bitmap_block shape b) (λ e on same. let above = from e on in let low = bits_low shape b within in omega (arith, above, low, same)))

-- blocks marked and unmarked after an update that does neither
pub applied_marked : (shape : VolumeShape) (i : ℕ) (inode : Inode) (edits : List Edit) (taken freed : List Block) (f p q g : BlockWords) → ((b : ℕ) → Contains (numbers taken) b → Contains (numbers freed) b → ⊥) → Applied shape (node_update i inode edits [] []) f p → SetsBits shape p q (numbers taken) (length (numbers taken)) 1 → SetsBits shape q g (numbers freed) (length (numbers freed)) 0 → Applied shape (node_update i inode edits taken freed) f g
applied_marked shape i inode edits taken freed f p q g apart made marks clears = record {
  words = λ b w off. clears.elsewhere b w (λ e. off (inl e)) ∙ marks.elsewhere b w (λ e. off (inl e)) ∙ made.words b w off;
  taken = λ b on. clears.others b (not_listed (numbers freed) b _ refl (λ z. apart b on z)) ∙ set_of p q (numbers taken) 1 b marks on;
  freed = λ b on. set_of q g (numbers freed) 0 b clears on;
  others = λ b within out off. clears.others b (not_listed (numbers freed) b _ refl off) ∙ marks.others b (not_listed (numbers taken) b _ refl out) ∙ made.others b within (in_none b) (in_none b);
}
  where
    set_of : (f g : BlockWords) (bs : List ℕ) (bit b : ℕ) → SetsBits shape f g bs (length bs) bit → Contains bs b → used_bit shape g b ≡ bit
    set_of f g bs bit b h on = let at = place_of bs b on in subst (λ x. used_bit shape g x ≡ bit) at.2 (h.set at.0 at.1)

    in_none : (b : ℕ) → Contains (numbers []) b → ⊥
    in_none b (k, few, is) = omega (arith, few)

-- what can be updated can be without the blocks
pub can_words : (shape : VolumeShape) (edits : List Edit) (gained lost : List ℕ) → CanUpdate shape edits gained lost → CanUpdate shape edits (numbers []) (numbers [])
can_words shape edits gained lost can = record {
  words = can.words;
  from = can.from;
  to = can.to;
  taken = λ b on. absurd (in_none b on);
  freed = λ b on. absurd (in_none b on);
  apart = λ b on off. in_none b on;
}
  where
    in_none : (b : ℕ) → Contains (numbers []) b → ⊥
    in_none b (k, few, is) = omega (arith, few)

-- ---- an update whose lists the code has as slices

pub can_update : (shape : VolumeShape) (es us : List Edit) (ts ps fs qs : List Block) → es ≡ us → ts ≡ ps → fs ≡ qs → CanUpdate shape us (numbers ps) (numbers qs) → CanUpdate shape es (numbers ts) (numbers fs)
can_update shape es us ts ps fs qs se st sf can = subst (λ xs. CanUpdate shape xs (numbers ts) (numbers fs)) (sym se) (subst (λ xs. CanUpdate shape us (numbers xs) (numbers fs)) (sym st) (subst (λ xs. CanUpdate shape us (numbers ps) (numbers xs)) (sym sf) can))

pub applied_as : {T E : Type 0} (shape : VolumeShape) (i : ℕ) (inode : Inode) (es us : List Edit) (ts ps fs qs : List Block) (r : Result T E) (f g : BlockWords) → es ≡ us → ts ≡ ps → fs ≡ qs → OnOk r (Applied shape (node_update i inode es ts fs) f g) → OnOk r (Applied shape (node_update i inode us ps qs) f g)
applied_as shape i inode es us ts ps fs qs r f g se st sf h = subst (λ xs. OnOk r (Applied shape (node_update i inode us ps xs) f g)) sf (subst (λ xs. OnOk r (Applied shape (node_update i inode us xs fs) f g)) st (subst (λ xs. OnOk r (Applied shape (node_update i inode xs ts fs) f g)) se h))

-- ---- touching the blocks of an update

pub unnamed_kept : (bears : ℕ → Option PageName → Type 0) (x y : Seen) (b : ℕ) → ((name : Option PageName) → bears b name → name ≡ None) → CachesBy bears x y → (x.cached b ≡ true → x.names b ≡ None) → y.cached b ≡ true → y.names b ≡ None
unnamed_kept bears x y b none h was on = elim (h.each b on) [ inl old ↦ old.1 ∙ was old.0 | inr new ↦ none _ new ]

pub can_touch : (y : Seen) (b : ℕ) → (y.cached b ≡ true → y.names b ≡ None) → CanName y b None
can_touch y b none = record { in_range = tt; agrees = λ on. subst (λ o. SamePage o None) (sym (none on)) tt }

-- a block stays unnamed where another is cached as metadata
pub unnamed_on : (x y : Seen) (a b : ℕ) → Caches x y a None → (x.cached b ≡ true → x.names b ≡ None) → y.cached b ≡ true → y.names b ≡ None
unnamed_on x y a b h was = unnamed_kept (λ c name. name ≡ None) x y b (λ name e. e) (caches_by_one _ x y a None h refl) was
