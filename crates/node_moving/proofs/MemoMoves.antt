-- The state after a request that moves a name and answers that it is done, names that differ, and nodes that stay.
use Rattle.request_ends.proofs.Common.{◌≡◌, ◌≢◌, ℕ, ◌==◌, Bool, true, false, cond, List, refl, sym, ap, ◌∙◌, Some, None, none-some, Decides-eqb, get, NameKey, State, Answered, Reply, answered, refused, is_dir}
use Rattle.std.proofs.Common.{◌||◌}
use Rattle.rio_requests.specs.declared.reply.Reply.TheVariants.{Ok as Done, Err as RefusedBy}
use Rattle.rio_requests.specs.Answers.{move_row, replace_row, moved, replaced, is_open, without}
use Rattle.rio_model.specs.declared.refusal.Refusal.TheVariants.{Exists, Busy}
use Rattle.file_tree.proofs.MemoEnds.{room_next}
use Rattle.file_tree.specs.Memos.{StayBut}
use Rattle.node_moving.proofs.NameMoves.{gone_there}

done_refused : (c : ℕ) (reply : Reply) → reply ≡ Done → Some (RefusedBy c) ≡ Some reply → ⊥
done_refused c reply is e = cc

pub move_next : (s : State) (dir : ℕ) (name : List ℕ) (to_dir : ℕ) (to : List ℕ) (i : ℕ) (reply : Reply) → (move_row s dir name to_dir to i).reply ≡ Some reply → reply ≡ Done → (move_row s dir name to_dir to i).next ≡ moved s dir name to_dir to i
move_next s dir name to_dir to i reply told said = room_next s _ (answered (moved s dir name to_dir to i) Done) reply told (done_refused 11 reply said)

-- over a row of another node, the two being no directories and the other one no open region
abbrev over : State → State → Bool → Bool → Bool → Answered
over s t same dirs busy = cond same (answered s Done) (cond dirs (refused s Exists) (cond busy (refused s Busy) (answered t Done)))

over_next : (s t : State) (reply : Reply) (dirs busy : Bool) → (over s t false dirs busy).reply ≡ Some reply → reply ≡ Done → (over s t false dirs busy).next ≡ t
over_next s t reply true busy told said = absurd (done_refused 3 reply said told)
over_next s t reply false true told said = absurd (done_refused 13 reply said told)
over_next s t reply false false told said = refl

apart_test : (i j : ℕ) (b : Bool) → (i == j) ≡ b → i ≢ j → b ≡ false
apart_test i j true is apart = absurd (apart ((Decides-eqb i j).0 is))
apart_test i j false is apart = refl

pub replace_next : (s : State) (busy : List ℕ) (dir : ℕ) (name : List ℕ) (to_dir : ℕ) (to : List ℕ) (i j : ℕ) (reply : Reply) → i ≢ j → (replace_row s busy dir name to_dir to i j).reply ≡ Some reply → reply ≡ Done → (replace_row s busy dir name to_dir to i j).next ≡ replaced s dir name to_dir to i j
replace_next s busy dir name to_dir to i j reply apart told said =
    let t = replaced s dir name to_dir to i j in
    let dirs = is_dir (get s.nodes i) || is_dir (get s.nodes j) in
    let held = is_open busy j (get s.nodes j) in
    let other : (i == j) ≡ false = apart_test i j (i == j) refl apart in
    ap (λ b. (over s t b dirs held).next) other ∙ over_next s t reply dirs held (sym (ap (λ b. (over s t b dirs held).reply) other) ∙ told) said

-- over itself
pub replace_same : (s : State) (busy : List ℕ) (dir : ℕ) (name : List ℕ) (to_dir : ℕ) (to : List ℕ) (i j : ℕ) → i ≡ j → (replace_row s busy dir name to_dir to i j).next ≡ s
replace_same s busy dir name to_dir to i j same = ap (λ b. (over s (replaced s dir name to_dir to i j) b (is_dir (get s.nodes i) || is_dir (get s.nodes j)) (is_open busy j (get s.nodes j))).next) ((Decides-eqb i j).1 same)

-- ---- two names

-- a name that there is and one that there is not
pub two_free : (s : State) (k q : NameKey) (i : ℕ) → get s.names k ≡ Some i → get s.names q ≡ None → q ≢ k
two_free s k q i there free same = none-some i (sym free ∙ ap (get s.names) same ∙ there)

-- names of two nodes
pub two_nodes : (s : State) (k q : NameKey) (i j : ℕ) → get s.names k ≡ Some i → get s.names q ≡ Some j → i ≢ j → q ≢ k
two_nodes s k q i j first second apart same = apart (some_one i j (sym first ∙ ap (get s.names) (sym same) ∙ second))
  where
    some_one : (a b : ℕ) → Some a ≡ Some b → a ≡ b
    some_one a b e = cc

-- ---- all nodes but one stay

pub stay_without : (s : State) (dir : ℕ) (name : List ℕ) (i : ℕ) → StayBut i s (without s dir name i)
stay_without s dir name i = λ j away none. sym (gone_there s.nodes i j away) ∙ none

pub stay_replaced : (s : State) (dir : ℕ) (name : List ℕ) (to_dir : ℕ) (to_name : List ℕ) (i over : ℕ) → StayBut over s (replaced s dir name to_dir to_name i over)
stay_replaced s dir name to_dir to_name i over = λ j away none. sym (gone_there s.nodes over j away) ∙ none
