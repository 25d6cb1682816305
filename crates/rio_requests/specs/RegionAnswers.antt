-- What the requests on a region come to, over the region and the transaction that is open on it, if there is one: the number
-- of the first refusal that holds, in the order written here, or the region and its transaction afterwards and the reply.
use Rattle.std.specs.Prelude.{◌+◌, ◌*◌, ◌/◌, ◌%◌, ◌==◌, ◌&&◌, ◌||◌, ◌++◌, ℕ, zero, suc, Bool, true, false, List, [], ◌∷◌, length, map, drop, slice_index_or, find, nat_le, nat_lt, not, Option, Some, None, Result, Ok, if◌then◌else◌}
use Rattle.std.specs.List.{range_with_len}
use Rattle.byteorder.specs.Endian.{little_number}
use Rattle.rio_model.specs.FileParts.{put_at}
use Rattle.rio_model.specs.Heap.{block_size, in_block, touched_pages, with_block, without_block}
use Rattle.rio_model.specs.Held.{bytes_in}
use Rattle.rio_model.specs.declared.node.RegionNode.{RegionNode}
use Rattle.rio_model.specs.declared.txn.Txn.{Txn}
use Rattle.rio_model.specs.declared.refusal.Refusal.TheVariants.{Busy, NoTransaction, NotCovered, UndoFull, HeapFull, NotBlock, OutOfRange, NotAligned, Doomed}
use Rattle.rio_model.specs.Refusals.{refusal}
pub use Rattle.rio_requests.specs.declared.region_answer.RegionAnswer.{RegionAnswer}
use Rattle.rio_requests.specs.declared.reply.Reply.TheVariants.{Ok as Done, Number, Bytes}

abbrev pub Outcome : Type 0
Outcome = Result RegionAnswer ℕ

-- ---- the data, as words and as bytes

abbrev pub data_word : RegionNode → ℕ → ℕ
data_word r w = slice_index_or r.words w 0

-- the words that bytes are, 8 bytes each, the lowest first
abbrev pub words_of : List ℕ → List ℕ
words_of bytes = map (λ w. little_number 8 (drop (8 * w) bytes)) (range_with_len 0 (length bytes / 8))

-- the words of these bytes, put from a byte offset on
abbrev pub with_words : RegionNode → ℕ → List ℕ → RegionNode
with_words r off bytes = record r { words = put_at r.words (off / 8) (words_of bytes) }

-- ---- refusals

-- in an open transaction, unless it may only be aborted
abbrev pub on_open : Option Txn → (Txn → Outcome) → Outcome
on_open None go = refusal NoTransaction
on_open (Some t) go = if t.doomed then refusal Doomed else go t

-- whole words alone
abbrev pub of_words : ℕ → ℕ → Outcome → Outcome
of_words off len go = if (off % 8 == 0) && (len % 8 == 0) then go else refusal NotAligned

-- not past the end of the data
abbrev pub within : RegionNode → ℕ → ℕ → Outcome → Outcome
within r off len go = if nat_lt (8 * length r.words) (off + len) then refusal OutOfRange else go

-- unless the undo pages have fewer words left
abbrev pub with_undo : RegionNode → Txn → ℕ → Outcome → Outcome
with_undo r t words go = if nat_lt (512 * r.undo) (t.used + words) then refusal UndoFull else go

-- ---- begin, commit, abort

-- where none is open
abbrev pub begin_on : ℕ → RegionNode → Option Txn → Outcome
begin_on i r None = Ok (record { region = r; txn = Some (record { ino = record { 0 = i }; before = r.words; before_blocks = r.blocks; ranges = []; used = 0; doomed = false }); reply = Done })
begin_on i r (Some t) = refusal Busy

abbrev pub commit_on : RegionNode → Option Txn → Outcome
commit_on r o = on_open o (λ t. Ok (record { region = r; txn = None; reply = Done }))

-- the region as it was when a transaction began
abbrev pub undone : RegionNode → Txn → RegionNode
undone r t = record r { words = t.before; blocks = t.before_blocks }

-- a doomed transaction too
abbrev pub abort_on : RegionNode → Option Txn → Outcome
abort_on r None = refusal NoTransaction
abort_on r (Some t) = Ok (record { region = undone r t; txn = None; reply = Done })

-- ---- range

abbrev pub with_range : Txn → ℕ → ℕ → Txn
with_range t off len = record t { ranges = t.ranges ++ (off / 8, len / 8) ∷ []; used = t.used + (3 + len / 8) }

abbrev pub range_on : RegionNode → Option Txn → ℕ → ℕ → Outcome
range_on r o off len = on_open o (λ t. of_words off len (within r off len (with_undo r t (3 + len / 8) (Ok (record { region = r; txn = Some (with_range t off len); reply = Done })))))

-- ---- put

-- a word is in some range
abbrev pub in_range : List (ℕ × ℕ) → ℕ → Bool
in_range [] w = false
in_range (g ∷ rest) w = (nat_le g.0 w && nat_lt w (g.0 + g.1)) || in_range rest w

-- so is each of n words from one on
abbrev pub all_in_range : List (ℕ × ℕ) → ℕ → ℕ → Bool
all_in_range ranges w zero = true
all_in_range ranges w (suc n) = in_range ranges w && all_in_range ranges (w + 1) n

-- where each word is in a range
abbrev pub put_on : RegionNode → Option Txn → ℕ → List ℕ → Outcome
put_on r o off bytes = on_open o (λ t. of_words off (length bytes) (within r off (length bytes) (
    if all_in_range t.ranges (off / 8) (length bytes / 8) then Ok (record { region = with_words r off bytes; txn = Some t; reply = Number (length bytes) }) else refusal NotCovered)))

-- ---- get

-- with or without a transaction, unless one is open that may only be aborted
abbrev pub unless_doomed : Option Txn → Outcome → Outcome
unless_doomed None go = go
unless_doomed (Some t) go = if t.doomed then refusal Doomed else go

abbrev pub get_on : RegionNode → Option Txn → ℕ → ℕ → Outcome
get_on r o off len = unless_doomed o (within r off len (Ok (record { region = r; txn = o; reply = Bytes (bytes_in (data_word r) off len) })))

-- ---- alloc, free. A unit is 64 bytes, 8 words

abbrev pub units_in : RegionNode → ℕ
units_in r = length r.words / 8

-- n units from t on are in no block
abbrev pub all_free : List (ℕ × ℕ) → ℕ → ℕ → Bool
all_free blocks t zero = true
all_free blocks t (suc n) = not (in_block blocks t) && all_free blocks (t + 1) n

-- the least unit from which n units are there and in no block
abbrev pub first_fit : List (ℕ × ℕ) → ℕ → ℕ → Option ℕ
first_fit blocks units n = find (λ t. nat_le (t + n) units && all_free blocks t n) (range_with_len 0 units)

-- the undo words that the record of a block's map words takes
abbrev pub map_record : ℕ → ℕ → ℕ
map_record t n = 3 + 2 * touched_pages t n

abbrev pub with_used : Txn → ℕ → Txn
with_used t words = record t { used = t.used + words }

-- at the lowest gap that is large enough
abbrev pub take_fit : RegionNode → ℕ → Txn → Option ℕ → Outcome
take_fit r n t None = refusal HeapFull
take_fit r n t (Some at) = with_undo r t (map_record at n) (Ok (record { region = record r { blocks = with_block r.blocks at n }; txn = Some (with_used t (map_record at n)); reply = Number (64 * at) }))

abbrev pub alloc_on : RegionNode → Option Txn → ℕ → Outcome
alloc_on r o n = on_open o (λ t. take_fit r n t (first_fit r.blocks (units_in r) n))

-- a block that starts there
abbrev pub give_back : RegionNode → ℕ → Txn → Option ℕ → Outcome
give_back r unit t None = refusal NotBlock
give_back r unit t (Some n) = with_undo r t (map_record unit n) (Ok (record { region = record r { blocks = without_block r.blocks unit }; txn = Some (with_used t (map_record unit n)); reply = Done }))

abbrev pub free_on : RegionNode → Option Txn → ℕ → Outcome
free_on r o at = on_open o (λ t. if at % 64 == 0 then give_back r (at / 64) t (block_size r.blocks (at / 64)) else refusal NotBlock)
