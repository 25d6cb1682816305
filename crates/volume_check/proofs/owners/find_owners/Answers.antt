use Rattle.volume_check.proofs.Common.{List, Option, Block, IsIno, Owns, pages, slice_index, ◌+◌, ◌<◌, ◌≡◌, ◌∙◌, ap, arith, length, refl, subst, sym, err_from_is_err_and, Layout}
use Rattle.rio_model.specs.declared.census.Owner.{Owner}
use Rattle.volume_check.specs.Claims.{Claimed, IsBefore}
use Rattle.volume_check.specs.Inodes.{layout_of}
use Rattle.volume_check.specs.NodeBlocks.{node_numbers, numbers}
use Rattle.volume_check.proofs.Chains.{can_number, inodes_on, layout_back, number_range}
use Rattle.volume_check.proofs.Claims.{claimed_all, claimed_first, once_claimed, owners_claimed, twice_claimed, written_back}
use Rattle.volume_check.proofs.Looking.{can_go_on, looked_none, on_err, on_none, on_ok, on_quiet, quiet_memory, refused_err, refused_memory}
use Rattle.volume_check.proofs.NodeNumbers.{as_many, few_at_most}
use Rattle.volume_check.proofs.owners.find_owners.Goals as goal

pub returns-in_err-owners-clause-refused : goal.returns-in_err-owners-clause-refused
returns-in_err-owners-clause-refused g c =
    let p = err_from_is_err_and c.from_residual.result c.from_residual.ensures.1 in
    refused_memory _ c.from_residual.result p.0 p.1 p.2

pub returns-in_err-owners-clause-looked : goal.returns-in_err-owners-clause-looked
returns-in_err-owners-clause-looked g c =
    let p = err_from_is_err_and c.from_residual.result c.from_residual.ensures.1 in
    looked_none g.V.Blocks.seen g.V.Blocks.health g.V.Blocks.sound g.V.Blocks.passes c.args.v.now c.from_residual.result (g.met.V.Blocks.passes_refl c.args.v.now) c.requires.can.keeps (quiet_memory c.from_residual.result p.0 p.1 p.2)

pub loop-k-init : goal.loop-k-init
loop-k-init g c =
    let s = g.V.Blocks.seen c.args.v.now in
    let l = layout_of s c.args.inodes.now in
    record {
      looked = on_none g.V.Blocks.seen g.V.Blocks.health g.V.Blocks.sound g.V.Blocks.passes c.args.v.now (g.met.V.Blocks.passes_refl c.args.v.now) c.requires.can.keeps;
      claimed = claimed_first l c.in_ok-owners.owners.items c.args.inodes.now.shape.blocks refl (c.in_ok-owners.ensures.items_if_clones_equal (λ y e. e));
    }

pub read_numbers-requires-clause-can : goal.read_numbers-requires-clause-can
read_numbers-requires-clause-can g c =
    can_go_on g.V.Blocks.seen g.V.Blocks.health g.V.Blocks.sound g.V.Blocks.passes g.met.V.Blocks.passes_trans _ _ c.requires.can c.loop-k.invariant.looked

pub read_numbers-requires-clause-inodes : goal.read_numbers-requires-clause-inodes
read_numbers-requires-clause-inodes g c =
    inodes_on _ _ c.args.inodes.now c.loop-k.invariant.looked.looks c.requires.inodes

pub read_numbers-requires-clause-numbers : goal.read_numbers-requires-clause-numbers
read_numbers-requires-clause-numbers g c =
    can_number (g.V.Blocks.seen c.args.v.now) _ c.args.inodes.now (c.loop-k.k + 1) c.loop-k.invariant.looked.looks c.requires.inodes c.requires.sizes c.requires.numbers (record { from = omega arith; to = (let less = c.loop-k-test.true in omega (arith, less)) })

pub returns-in_err-count-clause-refused : goal.returns-in_err-count-clause-refused
returns-in_err-count-clause-refused g c =
    let p = err_from_is_err_and c.from_residual-in_err-count.result c.from_residual-in_err-count.ensures.1 in
    refused_err (λ _ _. ⊥) _ c.read_numbers.result c.from_residual-in_err-count.result _ p.0 c.in_err-count.was p.1 p.2 (λ rule b h. absurd h) c.read_numbers.ensures.unrefused

pub returns-in_err-count-clause-looked : goal.returns-in_err-count-clause-looked
returns-in_err-count-clause-looked g c =
    let p = err_from_is_err_and c.from_residual-in_err-count.result c.from_residual-in_err-count.ensures.1 in
    on_err g.V.Blocks.seen g.V.Blocks.health g.V.Blocks.sound g.V.Blocks.passes g.met.V.Blocks.passes_trans _ _ _ c.read_numbers.result c.from_residual-in_err-count.result _ p.0 c.loop-k.invariant.looked c.in_err-count.was p.1 p.2 c.read_numbers.ensures.looked

pub claim_all-least-requires-clause-few : goal.claim_all-least-requires-clause-few
claim_all-least-requires-clause-few g c =
    let s = g.V.Blocks.seen c.args.v.now in
    let t = g.V.Blocks.seen c.loop-k.v in
    let n = c.args.inodes.now in
    let i = c.loop-k.k + 1 in
    let inv = c.loop-k.invariant in
    let ino : IsIno n.shape i = record { from = omega arith; to = (let less = c.loop-k-test.true in omega (arith, less)) } in
    let is = layout_back s t n (λ (l : Layout). numbers c.deref.result.now ≡ node_numbers (l.node i)) inv.looked.looks (ap numbers c.deref.ensures.value ∙ c.in_ok-count.ensures.numbers) in
    let many = as_many c.deref.result.now in
    let long = ap length is in
    let few = few_at_most ((layout_of s n).node i) (λ used. (c.requires.sizes.each i ino used).most) in
    omega (arith, many, long, few)

pub claim_all-least-requires-clause-range : goal.claim_all-least-requires-clause-range
claim_all-least-requires-clause-range g c = λ k less.
    let s = g.V.Blocks.seen c.args.v.now in
    let t = g.V.Blocks.seen c.loop-k.v in
    let n = c.args.inodes.now in
    let i = c.loop-k.k + 1 in
    let inv = c.loop-k.invariant in
    let ino : IsIno n.shape i = record { from = omega arith; to = (let less = c.loop-k-test.true in omega (arith, less)) } in
    let is = layout_back s t n (λ (l : Layout). numbers c.deref.result.now ≡ node_numbers (l.node i)) inv.looked.looks (ap numbers c.deref.ensures.value ∙ c.in_ok-count.ensures.numbers) in
    let many = as_many c.deref.result.now in
    let long = ap length is in
    let range = (number_range s n i k c.requires.numbers ino (omega (arith, less, many, long))).1 in
    let at = ap (λ xs. slice_index xs k) is in
    let len = ap length c.deref_mut.ensures.value in
    let all = inv.claimed.len in
    omega (arith, range, at, len, all)

pub loop-k-preserved : goal.loop-k-preserved
loop-k-preserved g c =
    let s = g.V.Blocks.seen c.args.v.now in
    let t = g.V.Blocks.seen c.loop-k.v in
    let n = c.args.inodes.now in
    let i = c.loop-k.k + 1 in
    let inv = c.loop-k.invariant in
    let ino : IsIno n.shape i = record { from = omega arith; to = (let less = c.loop-k-test.true in omega (arith, less)) } in
    let is = layout_back s t n (λ (l : Layout). numbers c.deref.result.now ≡ node_numbers (l.node i)) inv.looked.looks (ap numbers c.deref.ensures.value ∙ c.in_ok-count.ensures.numbers) in
    let l = layout_of s n in
    let next = c.claim_all-least.ensures l ino (layout_back s t n (λ (m : Layout). 0 < (m.node i).kind → c.in_ok-count.count ≡ pages (m.node i).size) inv.looked.looks c.in_ok-count.ensures.pages) is
    (subst (λ (xs : List Owner). Claimed l (IsBefore l i 0) xs c.loop-k.least) (sym c.deref_mut.ensures.value) inv.claimed) in
    record {
      looked = on_ok g.V.Blocks.seen g.V.Blocks.health g.V.Blocks.sound g.V.Blocks.passes g.met.V.Blocks.passes_trans _ _ _ _ inv.looked c.in_ok-count.ensures.looked;
      claimed = subst (λ (xs : List Owner). Claimed l (IsBefore l (i + 1) 0) xs c.claim_all-least.result) (sym (written_back c.claim_all-least.new.owners _ _ (c.claim_all-least.auto.owners ∙ c.deref_mut.ensures.len))) next;
    }

pub returns-in-Some-clause-refused : goal.returns-in-Some-clause-refused
returns-in-Some-clause-refused g c =
    let l = layout_of (g.V.Blocks.seen c.args.v.now) c.args.inodes.now in
    let all = claimed_all l (c.loop-k.k + 1) c.loop-k.owners.items c.loop-k.least (let more = c.loop-k-test.false in omega (arith, more)) c.loop-k.invariant.claimed in
    (refl, twice_claimed l c.loop-k.owners.items c.in-Some.b (subst (λ (o : Option Block). Claimed l (Owns l) c.loop-k.owners.items o) c.in-Some.is all))

pub returns-in-Some-clause-looked : goal.returns-in-Some-clause-looked
returns-in-Some-clause-looked g c = on_quiet g.V.Blocks.seen g.V.Blocks.health g.V.Blocks.sound g.V.Blocks.passes _ _ _ tt c.loop-k.invariant.looked

pub returns-in-None-clause-once : goal.returns-in-None-clause-once
returns-in-None-clause-once g c =
    let l = layout_of (g.V.Blocks.seen c.args.v.now) c.args.inodes.now in
    let all = claimed_all l (c.loop-k.k + 1) c.loop-k.owners.items c.loop-k.least (let more = c.loop-k-test.false in omega (arith, more)) c.loop-k.invariant.claimed in
    once_claimed l c.loop-k.owners.items (subst (λ (o : Option Block). Claimed l (Owns l) c.loop-k.owners.items o) c.in-None.is all)

pub returns-in-None-clause-owners : goal.returns-in-None-clause-owners
returns-in-None-clause-owners g c =
    let l = layout_of (g.V.Blocks.seen c.args.v.now) c.args.inodes.now in
    owners_claimed l c.loop-k.owners.items c.loop-k.least (claimed_all l (c.loop-k.k + 1) c.loop-k.owners.items c.loop-k.least (let more = c.loop-k-test.false in omega (arith, more)) c.loop-k.invariant.claimed)

pub returns-in-None-clause-looked : goal.returns-in-None-clause-looked
returns-in-None-clause-looked g c = on_quiet g.V.Blocks.seen g.V.Blocks.health g.V.Blocks.sound g.V.Blocks.passes _ _ _ tt c.loop-k.invariant.looked
