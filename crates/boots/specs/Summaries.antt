-- What a drill tells of its transcript.
use Rattle.std.specs.Prelude.{ℕ, ◌==◌, Bool, true, false, List, [], ◌++◌, codes, count_by, flat_map, if◌then◌else◌, length, sum_by}
use Rattle.std.specs.Fmt.{decimal}
use Rattle.std.specs.List.{range_with_len}
use Rattle.boots.specs.declared.transcript.BootEnd.{BootEnd}
use Rattle.boots.specs.declared.transcript.BootEnd.TheVariants.{Stopped}
use Rattle.boots.specs.declared.transcript.BootRun.{BootRun}
use Rattle.boots.specs.declared.transcript.Transcript.{Transcript}
use Rattle.rio_requests.specs.declared.reply.Reply.{Reply}
use Rattle.rio_requests.specs.declared.reply.Reply.TheVariants.{Err as Refused, Fault}

-- ---- counts

abbrev pub is_stopped : BootEnd → Bool
is_stopped Stopped = true
is_stopped _ = false

abbrev pub is_ok : Reply → Bool
is_ok (Refused number) = false
is_ok (Fault done) = false
is_ok _ = true

-- a reply with this refusal number. That of a device fault is 30
abbrev pub is_refusal : ℕ → Reply → Bool
is_refusal number (Refused n) = n == number
is_refusal number (Fault done) = 30 == number
is_refusal number _ = false

-- how many replies there are in all boots
abbrev pub reply_count : List BootRun → ℕ
reply_count runs = sum_by (λ run. length run.answered) runs

-- how many of them pass a test
abbrev pub passing_count : (Reply → Bool) → List BootRun → ℕ
passing_count test runs = sum_by (λ run. count_by (λ answer. test answer.1) run.answered) runs

-- ---- the text

-- a word, and a number behind it
abbrev pub field : List ℕ → ℕ → List ℕ
field word n = word ++ decimal n

unfoldable pub boots_line : List BootRun → List ℕ
boots_line runs = field (codes "boots ") (length runs) ++ field (codes " stopped ") (count_by (λ run. is_stopped run.end) runs) ++ codes "\n"

unfoldable pub answered_line : List BootRun → List ℕ
answered_line runs = field (codes "answered ") (reply_count runs) ++ field (codes " ok ") (passing_count is_ok runs) ++ codes "\n"

abbrev pub count_line : (number count : ℕ) → List ℕ
count_line number count = field (codes "err ") number ++ field (codes " ") count ++ codes "\n"

-- a refusal number that no reply has is given no line
abbrev pub counted_line : (number count : ℕ) → List ℕ
counted_line number count = if count == 0 then [] else count_line number count

abbrev pub refusal_line : List BootRun → ℕ → List ℕ
refusal_line runs number = counted_line number (passing_count (is_refusal number) runs)

-- the lines of the refusal numbers below this one, rising
unfoldable pub refusal_lines : List BootRun → ℕ → List ℕ
refusal_lines runs numbers = flat_map (refusal_line runs) (range_with_len 0 numbers)

-- what there is after the last boot
unfoldable pub nodes_line : Transcript → List ℕ
nodes_line t =
    field (codes "dirs ") t.last.dirs ++ field (codes " files ") t.last.files ++ field (codes " regions ") t.last.regions ++ field (codes " bytes ") t.bytes ++ codes "\n"

-- a refusal number is a byte
abbrev pub summary : Transcript → List ℕ
summary t = boots_line t.boots ++ answered_line t.boots ++ refusal_lines t.boots 256 ++ nodes_line t
