use Rattle.std.proofs.Common.{arith, slice_index, subst, sym}
use Rattle.rio_model.specs.Paths.{IsName}
use Rattle.volume_check.proofs.EntryBytes.{length-name_in, name_made}
use Rattle.volume_check.proofs.entries.is_named.Goals as goal

pub returns-then-len-gt-NAME_BYTES : goal.returns-then-len-gt-NAME_BYTES
returns-then-len-gt-NAME_BYTES c = (
  λ e. cc,
  λ h. absurd (let few = h.few in let long = length-name_in (slice_index c.args.words.now) c.args.j in omega (arith, few, long, c.name_length-len.ensures, c.if-len-gt-NAME_BYTES.true)),
)

pub returns : goal.returns
returns c =
    let is = name_made c.args.words.now c.name_bytes.result c.args.j c.name_length-len.result c.name_bytes.ensures c.requires c.name_length-len.ensures c.if-len-gt-NAME_BYTES.false in (
      λ e. subst IsName is (c.is_name.ensures.0 e),
      λ h. c.is_name.ensures.1 (subst IsName (sym is) h),
    )
