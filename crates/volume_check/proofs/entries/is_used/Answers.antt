use Rattle.std.proofs.Common.{arith, inl}
use Rattle.volume_check.proofs.EntryRules.{kind_out}
use Rattle.volume_check.proofs.entries.is_used.Goals as goal

pub returns-then-i-lt1 : goal.returns-then-i-lt1
returns-then-i-lt1 c = (λ e. cc, λ h. absurd (let none = kind_out c.args.inodes.now c.args.i.0 (inl c.if-i-lt1.true) in omega (arith, none, h)))
