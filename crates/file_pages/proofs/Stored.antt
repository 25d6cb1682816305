-- A page of a file stored to leaves the volume in order.
use Rattle.file_pages.proofs.Common.{◌≡◌, ◌≢◌, ℕ, ◌+◌, ◌-◌, ◌*◌, ◌/◌, ◌%◌, ◌<◌, ◌≤◌, ◌⊎◌, true, false, List, refl, sym, ap, subst, ◌∙◌, arith, inl, inr, max, Option, None, Some, Result, Ok, Err, OnOk, cases_eq, cases_lt, PageName, VolumeShape, BlockWords, Caches, Health, Looks, Seen, IsIno, reserved, Below, Firm, Kept, Passes, SameBut, byte_in, held, held_bytes, word_in, Slot, AtPage, Placed, HasSlot, placed_at, Layout, volume_layout, Owns, IsFree, AgreesBeside, SameLayout, lays_same, lays_self, page_page, pages, Bears, BearsOwn, NamedNode, NamesPage, Ready, IsLaid, beside_agrees, lays_beside, mapped_beside, run_same_but, same_map, CanName, SamePage}
use Rattle.std.specs.Prelude.{min}
use Rattle.rio_base.proofs.BlockRules.{shape_beside_stored, stored_trans}
use Rattle.rio_base.specs.Volume.{CachesStored, OldOrRun, widened}
use Rattle.rio_model.specs.Held.{byte_of}
use Rattle.rio_model.proofs.WordRules.{beside_page, held_word}
use Rattle.node_pages.specs.LookingUp.{LooksUp}
use Rattle.node_pages.proofs.OrderRules.{firm_layout, firm_on, leaves_looked, ready_left, ready_order}
use Rattle.rio_model.proofs.NamedRules.{named_layout}
use Rattle.file_pages.specs.Storing.{KeepsFront, NamedAs, StoresPages, TailCleared, ZerosFrom}
use Rattle.file_pages.specs.PageBytes.{block_byte}
use Rattle.file_pages.proofs.Left.{bytes_sized}

-- ---- names

named_own : (i size p : ℕ) (own : PageName) → NamedAs i size p (Some own) → NamesPage i size p own
named_own i size p own (o, is, h) = subst Named (sym is) h
  where
    Named : Option PageName → Type 0
    Named None = Unit {0}
    Named (Some n) = NamesPage i size p n

pub widened_as : (i size p : ℕ) (own : Option PageName) (given : PageName) → NamedAs i size p own → NamedAs i size p (widened own (Some given))
widened_as i size p None given (o, is, h) = absurd (subst Some_only (sym is) tt)
  where
    Some_only : Option PageName → Type 0
    Some_only None = ⊥
    Some_only (Some n) = Unit {0}
widened_as i size p (Some own) given named = let h = named_own i size p own named in (record own { size = max own.size given.size }, refl, record { file = h.file; index = h.index; size_from = (let s = h.size_from in omega (arith, s)) })

pub bears_as : (i : ℕ) (n : Placed) (p : ℕ) (name : Option PageName) → n.kind ≡ 2 → NamedAs i n.size p name → Bears i n (AtPage p) name
bears_as i n p name kind (own, is, h) = subst (Bears i n (AtPage p)) (sym is) ((λ dir. omega (arith, kind, dir)), h)

pub as_bears : (i : ℕ) (n : Placed) (p : ℕ) (name : Option PageName) → n.kind ≡ 2 → Bears i n (AtPage p) name → NamedAs i n.size p name
as_bears i n p None kind h = absurd (omega (arith, kind, h))
as_bears i n p (Some own) kind h = (own, refl, h.1)

-- ---- a page asked for under its name

pub page_low : (shape : VolumeShape) (x : Seen) (k : Kept) (i p : ℕ) → Ready shape x k → Owns (volume_layout shape x.words) i (AtPage p) → p ≤ 1047
page_low shape x k i p h own = let most = (h.order.mapped.laid.sizes.each i own.ino own.slot.used).most in let within = own.slot.within in omega (arith, most, within)

pub page_can : (shape : VolumeShape) (x : Seen) (k : Kept) (i p b : ℕ) (given : PageName) → Ready shape x k → Owns (volume_layout shape x.words) i (AtPage p) → b ≡ (placed_at x.words i).block (AtPage p) → (placed_at x.words i).kind ≡ 2 → given.file.0 ≡ i → given.index ≡ p → given.size ≤ 4096 → CanName x b (Some given)
page_can shape x k i p b given h own at kind file index small = record {
  in_range = record { file_from = (let from = own.ino.from in omega (arith, file, from)); file_to = (let to = own.ino.to in let most = h.order.has_shape.sizes.inodes_to in omega (arith, file, to, most)); index = (let low = page_low shape x k i p h own in omega (arith, index, low)); size = small };
  agrees = λ on. same (x.names b) (as_bears i (placed_at x.words i) p (x.names b) kind (subst (λ c. Bears i (placed_at x.words i) (AtPage p) (x.names c)) (sym at) (h.order.named.each i own.ino (AtPage p) own.slot (subst (λ c. x.cached c ≡ true) at on))));
}
  where
    same : (name : Option PageName) → NamedAs i (placed_at x.words i).size p name → SamePage name (Some given)
    same name (o, is, n) = subst (λ z. SamePage z (Some given)) (sym is) (ap (λ (m : ℕ). record { 0 = m }) (n.file ∙ sym file), n.index ∙ sym index)

-- ---- a page stored to

pub stores_page : (shape : VolumeShape) (x : Seen) (k : Kept) (y : Seen) (j : Kept) (i p b : ℕ) (given : PageName) → Ready shape x k → Owns (volume_layout shape x.words) i (AtPage p) → b ≡ (placed_at x.words i).block (AtPage p) → (placed_at x.words i).kind ≡ 2 → NamesPage i (placed_at x.words i).size p given → y.count ≡ x.count → SameBut b x.words y.words → Firm k j → CachesStored x y b (Some given) → j.updating ≡ false → StoresPages shape x k y j i
stores_page shape x k y j i p b given h own at kind wide count same firm caches idle = record {
  beside = beside;
  ready = ready_order shape y j (record {
    has_shape = shape_beside_stored shape x y b (Some given) h.order.has_shape count (subst (λ c. reserved shape ≤ c) (sym at) (h.order.mapped.laid.numbers.each i own.ino (AtPage p) own.slot).0) caches;
    mapped = mapped_beside shape i x.words y.words h.order.mapped beside;
    named = named_layout l y.words y layouts (record { each = λ n ino s has on. by n ino s has on (cases_eq ((l.node n).block s) b) });
    firm = firm_layout l y.words j layouts (firm_on l k j h.order.firm firm);
  }) idle;
  named = λ s has on. by i own.ino s has on (cases_eq ((l.node i).block s) b);
  firm = firm;
  free_words = λ c w free. same.others c w (out c free);
  free_named = λ c free on. caches.others c (out c free) on;
}
  where
    l : Layout
    l = volume_layout shape x.words

    beside : AgreesBeside l i x.words y.words
    beside = beside_page l i p x.words y.words h.order.mapped.laid own (subst (λ c. SameBut c x.words y.words) at same)

    layouts : SameLayout l (volume_layout shape y.words)
    layouts = lays_same l y.words (lays_beside l i x.words y.words h.order.mapped.laid (lays_self shape x.words) beside)

    out : (c : ℕ) → IsFree l c → c ≡ b → ⊥
    out c free is = free.free (record { node = i; slot = AtPage p; owns = own; is = sym (is ∙ at) })

    was_named : x.cached b ≡ true → NamedAs i (l.node i).size p (x.names b)
    was_named on = as_bears i (l.node i) p (x.names b) kind (subst (λ c. Bears i (l.node i) (AtPage p) (x.names c)) (sym at) (h.order.named.each i own.ino (AtPage p) own.slot (subst (λ c. x.cached c ≡ true) at on)))

    now_named : ((x.cached b ≡ true) × (y.names b ≡ x.names b)) ⊎ (y.names b ≡ Some given) ⊎ ((x.cached b ≡ true) × (y.names b ≡ widened (x.names b) (Some given))) → NamedAs i (l.node i).size p (y.names b)
    now_named (inl kept) = subst (NamedAs i (l.node i).size p) (sym kept.1) (was_named kept.0)
    now_named (inr (inl is)) = (given, is, wide)
    now_named (inr (inr wider)) = subst (NamedAs i (l.node i).size p) (sym wider.1) (widened_as i (l.node i).size p (x.names b) given (was_named wider.0))

    by : (n : ℕ) (ino : IsIno shape n) (s : Slot) (has : HasSlot (l.node n) s) → y.cached ((l.node n).block s) ≡ true → (((l.node n).block s ≡ b) ⊎ ((l.node n).block s ≢ b)) → Bears n (l.node n) s (y.names ((l.node n).block s))
    by n ino s has on (inr away) = let was = caches.others _ away on in subst (Bears n (l.node n) s) (sym was.1) (h.order.named.each n ino s has was.0)
    by n ino s has on (inl here) =
        let one = h.order.mapped.laid.once.each i n (AtPage p) s own (record { ino = ino; slot = has }) (sym (here ∙ at)) in
        let bears : Bears i (l.node i) (AtPage p) (y.names b) = bears_as i (l.node i) p (y.names b) kind (now_named (caches.named (subst (λ c. y.cached c ≡ true) here on))) in
        subst (λ c. Bears n (l.node n) s (y.names c)) (sym here) (subst (λ t. Bears n (l.node n) t (y.names b)) one.1 (subst (λ z. Bears z (l.node z) (AtPage p) (y.names b)) one.0 bears))

-- a page read under a name is as one stored to
pub stored_read : (x y : Seen) (b : ℕ) (name : Option PageName) → Caches x y b name → CachesStored x y b name
stored_read x y b name h = record { others = h.others; named = λ on. elim (h.named on) [ inl kept ↦ inl kept | inr is ↦ inr (inl is) ] }

-- ---- a call that only looks up

pub stores_looked : (shape : VolumeShape) (s t : Health) (o n : Below) (x : Seen) (k : Kept) (y : Seen) (j : Kept) (i : ℕ) → IsIno shape i → Ready shape x k → LooksUp shape x y → Passes s o k t n j → StoresPages shape x k y j i
stores_looked shape s t o n x k y j i ino h looks passes = record {
  beside = beside_agrees l i x.words y.words ino (leaves_looked shape s t o n x y k j h looks passes).words;
  ready = ready_left shape x k y j h (leaves_looked shape s t o n x y k j h looks passes);
  named = (leaves_looked shape s t o n x y k j h looks passes).named.each i ino;
  firm = passes.firm;
  free_words = λ b w free. ap (λ (f : BlockWords). f b w) looks.looks.words;
  free_named = λ b free on. by b free (looks.caches.each b on);
}
  where
    l : Layout
    l = volume_layout shape x.words

    by : (b : ℕ) → IsFree l b → ((x.cached b ≡ true) × (y.names b ≡ x.names b)) ⊎ BearsOwn l b (y.names b) → (x.cached b ≡ true) × (y.names b ≡ x.names b)
    by b free (inl kept) = kept
    by b free (inr (inl low)) = absurd (let from = free.from in let under = low.0 in omega (arith, from, under))
    by b free (inr (inr (n, s, own, at, bears))) = absurd (free.free (record { node = n; slot = s; owns = own; is = at }))

-- a page read, and a run of it stored
pub stores_run : (shape : VolumeShape) (s t : Health) (o n : Below) (x : Seen) (k : Kept) (y : Seen) (j : Kept) (z : Seen) (l : Kept) (i p b w : ℕ) (words : List ℕ) (most : ℕ) (given : PageName) → Ready shape x k → Owns (volume_layout shape x.words) i (AtPage p) → b ≡ (placed_at x.words i).block (AtPage p) → (placed_at x.words i).kind ≡ 2 → NamesPage i (placed_at x.words i).size p given → Looks x y → Caches x y b (Some given) → Passes s o k t n j → z.count ≡ y.count → OldOrRun y.words z.words b w words most → Firm j l → CachesStored y z b (Some given) → l.updating ≡ false → StoresPages shape x k z l i
stores_run shape s t o n x k y j z l i p b w words most given h own at kind wide looks caches passes count run firm stored idle =
    stores_page shape x k z l i p b given h own at kind wide (count ∙ looks.count) (record { others = λ c u away. ap (λ (f : BlockWords). f c u) run.2 ∙ (run_same_but y.words b w run.0 words).others c u away ∙ ap (λ (f : BlockWords). f c u) looks.words }) (record { loose = λ c on. passes.firm.loose c (firm.loose c on) }) (stored_trans x y z b (Some given) (stored_read x y b (Some given) caches) stored) idle

-- the given name is that of a file that has grown
pub names_grown : (i size len p : ℕ) (own : PageName) → own.file.0 ≡ i → own.index ≡ p → own.size ≡ min 4096 (len - 4096 * p) → size ≤ len → NamesPage i size p own
names_grown i size len p own file index wide grows = record { file = file; index = index; size_from = omega (arith, wide, grows) }

-- ---- the tail of a file's last page

-- all pages are full
full_named : (i size len p : ℕ) (name : Option PageName) → 4096 * (p + 1) ≤ size → NamedAs i size p name → NamedAs i len p name
full_named i size len p name full (own, is, h) = (own, is, (let s = h.size_from in record { file = h.file; index = h.index; size_from = omega (arith, s, full) }))

-- the last page is cleared
pub last_page : (f : BlockWords) (y : Seen) (i size len b : ℕ) → (placed_at f i).kind ≡ 2 → (placed_at f i).size ≡ size → 0 < size % 4096 → b ≡ (placed_at f i).block (AtPage (size / 4096)) → ZerosFrom y.words b (size % 4096) → (y.cached b ≡ true → NamedAs i len (size / 4096) (y.names b)) → NamedNode i (placed_at f i) y → TailCleared f y i size len
last_page f y i size len b kind is some at zeros last named = record {
  zeros = λ x past within.
      let page : x / 4096 ≡ size / 4096 = omega (arith, past, within, some) in
      ap (λ c. block_byte y.words c (x % 4096)) (ap (λ p. (placed_at f i).block (AtPage p)) page ∙ sym at) ∙ zeros (x % 4096) (omega (arith, past, page)) (omega arith);
  named = λ p within on. by p within on (cases_lt p (size / 4096));
}
  where
    by : (p : ℕ) → p < pages size → y.cached ((placed_at f i).block (AtPage p)) ≡ true → ((p < size / 4096) ⊎ (size / 4096 ≤ p)) → NamedAs i len p (y.names ((placed_at f i).block (AtPage p)))
    by p within on (inl below) = full_named i size len p _ (omega (arith, below)) (subst (λ z. NamedAs i z p (y.names ((placed_at f i).block (AtPage p)))) is (as_bears i (placed_at f i) p _ kind (named (AtPage p) (record { used = omega (arith, kind); within = omega (arith, within, is) }) on)))
    by p within on (inr from) =
        let page : size / 4096 ≡ p = omega (arith, from, within) in
        let here : (placed_at f i).block (AtPage p) ≡ b = ap (λ q. (placed_at f i).block (AtPage q)) (sym page) ∙ sym at in
        subst (λ q. NamedAs i len q (y.names ((placed_at f i).block (AtPage p)))) page (subst (λ c. NamedAs i len (size / 4096) (y.names c)) (sym here) (last (subst (λ c. y.cached c ≡ true) here on)))

-- and the bytes below the size are as they were
pub bytes_front : (l : Layout) (f g : BlockWords) (i size b : ℕ) → IsLaid l → IsIno l.shape i → (l.node i).kind ≡ 2 → (l.node i).size ≡ size → b ≡ (l.node i).block (AtPage (size / 4096)) → 0 < size % 4096 → KeepsFront f g b (size % 4096) → held_bytes (held g (l.node i)) ≡ held_bytes (held f (l.node i))
bytes_front l f g i size b laid ino kind is at some keeps =
    bytes_sized g n used ∙ same_map (byte_in (word_in g n)) (byte_in (word_in f n)) n.size 0 (λ x low high. byte x high (cases_eq (n.block (AtPage (x / 8 / 512))) b)) ∙ sym (bytes_sized f n used)
  where
    n : Placed
    n = l.node i

    used : 0 < n.kind
    used = omega (arith, kind)

    word_is : (h : BlockWords) (x : ℕ) → x < n.size → byte_in (word_in h n) x ≡ block_byte h (n.block (AtPage (x / 8 / 512))) (8 * (x / 8 % 512) + x % 8)
    word_is h x high = ap (λ w. byte_of w (x % 8)) (held_word h n (x / 8) used (omega (arith, high))) ∙ (λ q. byte_of (h (n.block (AtPage (x / 8 / 512))) (word x q)) (rest x q))
      where
        word : (x : ℕ) → x / 8 % 512 ≡ (8 * (x / 8 % 512) + x % 8) / 8
        word x = omega arith

        rest : (x : ℕ) → x % 8 ≡ (8 * (x / 8 % 512) + x % 8) % 8
        rest x = omega arith

    byte : (x : ℕ) → x < 0 + n.size → ((n.block (AtPage (x / 8 / 512)) ≡ b) ⊎ (n.block (AtPage (x / 8 / 512)) ≢ b)) → byte_in (word_in g n) x ≡ byte_in (word_in f n) x
    byte x high (inr away) = word_is g x (omega (arith, high)) ∙ ap (λ w. byte_of w ((8 * (x / 8 % 512) + x % 8) % 8)) (keeps.others _ ((8 * (x / 8 % 512) + x % 8) / 8) away) ∙ sym (word_is f x (omega (arith, high)))
    byte x high (inl here) =
        let owns_x : Owns l i (AtPage (x / 8 / 512)) = record { ino = ino; slot = record { used = used; within = omega (arith, high) } } in
        let owns_b : Owns l i (AtPage (size / 4096)) = record { ino = ino; slot = record { used = used; within = omega (arith, is, some) } } in
        let page : x / 8 / 512 ≡ size / 4096 = page_page _ _ (laid.once.each i i _ _ owns_x owns_b (here ∙ at)).1 in
        word_is g x (omega (arith, high)) ∙ ap (λ c. block_byte g c (8 * (x / 8 % 512) + x % 8)) here ∙ keeps.front (8 * (x / 8 % 512) + x % 8) (omega (arith, page, high, is)) ∙ ap (λ c. block_byte f c (8 * (x / 8 % 512) + x % 8)) (sym here) ∙ sym (word_is f x (omega (arith, high)))

-- ---- a look-up, and then pages stored to

pub stores_after : (shape : VolumeShape) (s t : Health) (o n : Below) (x : Seen) (k : Kept) (y : Seen) (j : Kept) (z : Seen) (l : Kept) (i : ℕ) → IsIno shape i → Ready shape x k → LooksUp shape x y → Passes s o k t n j → StoresPages shape y j z l i → StoresPages shape x k z l i
stores_after shape s t o n x k y j z l i ino h looks passes b =
    let a = stores_looked shape s t o n x k y j i ino h looks passes in
    let same = looks.looks.words in
    record {
      beside = subst (λ f. AgreesBeside (volume_layout shape f) i f z.words) same b.beside;
      ready = b.ready;
      named = subst (λ f. NamedNode i (placed_at f i) z) same b.named;
      firm = record { loose = λ c on. a.firm.loose c (b.firm.loose c on) };
      free_words = λ c w free. b.free_words c w (subst (λ f. IsFree (volume_layout shape f) c) (sym same) free) ∙ a.free_words c w free;
      free_named = λ c free on. let now = b.free_named c (subst (λ f. IsFree (volume_layout shape f) c) (sym same) free) on in let was = a.free_named c free now.0 in (was.0, now.1 ∙ was.1);
    }

pub on_both : {T E : Type 0} (A B C : Type 0) (r : Result T E) → OnOk r A → OnOk r B → (A → B → C) → OnOk r C
on_both A B C (Ok v) a b f = f a b
on_both A B C (Err e) a b f = tt
