-- Lines of which none is a flush leave the disk as it was, where there is a frame for each block.
use Rattle.std.proofs.Common.{◌≡◌, ◌<◌, ◌++◌, ℕ, suc, true, List, [], ◌∷◌, length, refl, sym, subst, ap, ◌∙◌, arith, length-append}
use Rattle.std.specs.Prelude.{All, Option, Some, None, slice_index_or}
use Rattle.std.proofs.lemmas.List.{get_or_append_left}
use Rattle.rio_base.specs.Blocks.{Health}
use Rattle.rio_base.specs.Volume.{Below, Quiet}
use Rattle.rio_requests.specs.declared.reply.Reply.{Reply}
use Rattle.rio_requests.specs.declared.request.Request.{Request}
use Rattle.rio_requests.specs.declared.request.Request.TheVariants.{Flush}
use Rattle.rio_requests.specs.Went.{NoFlush, NoFlushes, StoppedOn, Went}
use Rattle.request_codec.specs.Form.{Form, Means}
use Rattle.request_codec.specs.Lines.{lines}
use Rattle.line_loop.specs.declared.ends.ServeEnd.{ServeEnd}
use Rattle.line_loop.specs.declared.ends.ServeEnd.TheVariants.{End, SourceFault, SinkFault, InputLimit, Memory, Stopped}
use Rattle.line_loop.specs.ServeRun.{AreFirst, EachMeans}
use Rattle.pair_files.specs.Scenes.{Scene}
use Rattle.pair_serving.specs.ServedScenes.{AsksNoFlush, RunsFrom, taken_in}

-- ---- lines of a list

-- this line is no flush
abbrev IsNoFlush : List ℕ → Type 0
IsNoFlush line = (count : ℕ) → Form line (Flush count) → ⊥

all_front : (xs ys zs : List (List ℕ)) → zs ≡ xs ++ ys → All IsNoFlush zs → All IsNoFlush xs
all_front xs ys zs is all = λ k d less.
    let whole : k < length zs = subst (λ (l : List (List ℕ)). k < length l) (sym is) (omega (arith, less, length-append xs ys)) in
    subst IsNoFlush (ap (λ (l : List (List ℕ)). slice_index_or l k d) is ∙ get_or_append_left xs ys d k less) (all k d whole)

all_head : (x : List ℕ) (xs : List (List ℕ)) → All IsNoFlush (x ∷ xs) → IsNoFlush x
all_head x xs all = all 0 x (omega arith)

all_tail : (x : List ℕ) (xs : List (List ℕ)) → All IsNoFlush (x ∷ xs) → All IsNoFlush xs
all_tail x xs all = λ k d less. all (suc k) d (omega (arith, less))

all_last : (xs : List (List ℕ)) (x : List ℕ) → All IsNoFlush (xs ++ x ∷ []) → IsNoFlush x
all_last [] x all = all_head x [] all
all_last (y ∷ xs) x all = all_last xs x (all_tail y (xs ++ x ∷ []) all)

-- ---- what they ask for

asks_no_flush : (line : List ℕ) (r : Request) → Means line (Some r) → IsNoFlush line → NoFlush r
asks_no_flush line (Flush count) asks none = absurd (none count asks)
asks_no_flush line _ asks none = tt

none_flush : (answered : List (List ℕ)) (requests : List (Option Request)) → EachMeans Means answered requests → All IsNoFlush answered → NoFlushes requests
none_flush [] [] mean none = tt
none_flush (line ∷ answered) (None ∷ requests) mean none = none_flush answered requests mean.1 (all_tail line answered none)
none_flush (line ∷ answered) (Some r ∷ requests) mean none = (asks_no_flush line r mean.0 (all_head line answered none), none_flush answered requests mean.1 (all_tail line answered none))
none_flush [] (request ∷ requests) mean none = absurd mean
none_flush (line ∷ answered) [] mean none = absurd mean

-- ---- the disk

-- lines that were answered
went_quiet : (taken : List ℕ) (left : Option (List ℕ)) (answered : List (List ℕ)) (requests : List (Option Request)) (replies : List Reply) (h : Health) (b : Below) (i : Health) (c : Below) → AreFirst taken left answered → EachMeans Means answered requests → Went requests replies h b i c → AsksNoFlush taken → Quiet b c
went_quiet taken left answered requests replies h b i c first mean went none = went.quiet (none_flush answered requests mean (all_front answered first.more (lines taken) first.front none))

-- and one that met a stop
stop_quiet : (taken : List ℕ) (left : Option (List ℕ)) (answered : List (List ℕ)) (line : List ℕ) (requests : List (Option Request)) (replies : List Reply) (r : Request) (h : Health) (b : Below) (g : Health) (d : Below) (i : Health) (c : Below)
    → AreFirst taken left (answered ++ line ∷ []) → EachMeans Means answered requests → Means line (Some r) → Went requests replies h b g d → StoppedOn r g d i c → AsksNoFlush taken → b.roomy ≡ true → c.home ≡ b.home
stop_quiet taken left answered line requests replies r h b g d i c first mean asks went on none roomy =
    (on.quiet (asks_no_flush line r asks (all_last answered line all))).home (went.lasts.roomy ∙ roomy)
    ∙ (went.quiet (none_flush answered requests mean (all_front answered (line ∷ []) (answered ++ line ∷ []) refl all))).home roomy
  where
    all : All IsNoFlush (answered ++ line ∷ [])
    all = all_front (answered ++ line ∷ []) first.more (lines taken) first.front none

pub run_quiet : (a : Scene) (end : ServeEnd) (b : Scene) (run : RunsFrom a end b) → a.below.roomy ≡ true → AsksNoFlush (taken_in a end b run) → b.below.home ≡ a.below.home
run_quiet a End b run roomy none = (went_quiet run.2.taken _ _ _ _ _ _ _ _ run.2.run.first run.2.run.replied.meaning run.3 none).home roomy
run_quiet a SourceFault b run roomy none = (went_quiet run.2.taken _ _ _ _ _ _ _ _ run.2.run.first run.2.run.replied.meaning run.3 none).home roomy
run_quiet a SinkFault b run roomy none = (went_quiet run.2.taken _ _ _ _ _ _ _ _ run.2.run.first run.2.run.replied.meaning run.3 none).home roomy
run_quiet a InputLimit b run roomy none = (went_quiet run.2.taken _ _ _ _ _ _ _ _ run.2.run.first run.2.run.replied.meaning run.3 none).home roomy
run_quiet a Memory b run roomy none = (went_quiet run.2.taken _ _ _ _ _ _ _ _ run.2.run.first run.2.run.replied.meaning run.3 none).home roomy
run_quiet a Stopped b (mid, r, t, stop, part, is, g, d, went, on) roomy none = stop_quiet stop.taken _ _ _ _ _ r _ _ g d _ _ stop.first stop.replied.meaning stop.means went on none roomy
