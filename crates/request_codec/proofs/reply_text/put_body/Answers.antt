use Rattle.std.proofs.Common.{List, ℕ, ◌++◌, ◌∙◌, ap, decimal, flat_map, length}
use Rattle.std.specs.Prelude.{codes}
use Rattle.hex.specs.Hex.{encode_lower}
use Rattle.rio_base.specs.declared.places.Ino.{Ino}
use Rattle.request_codec.specs.Text.{listed_ino}
use Rattle.request_codec.proofs.Sendings.{puts_as}
use Rattle.request_codec.proofs.Texts.{body_text}
use Rattle.request_codec.proofs.reply_text.put_body.Goals as goal

pub returns-in-Ok : goal.returns-in-Ok
returns-in-Ok g c = puts_as (body_text c.args.reply.now _ c.in-Ok.is) c.put.ensures

pub returns-in-Number : goal.returns-in-Number
returns-in-Number g c = puts_as (body_text c.args.reply.now _ c.in-Number.is) c.put_number_here.ensures

pub returns-in-Bytes : goal.returns-in-Bytes
returns-in-Bytes g c = puts_as (ap (λ (xs : List ℕ). codes "ok " ++ encode_lower xs) c.as_slice.ensures ∙ body_text c.args.reply.now _ c.in-Bytes.is) c.put_bytes.ensures

pub returns-in-Stat : goal.returns-in-Stat
returns-in-Stat g c = puts_as (body_text c.args.reply.now _ c.in-Stat.is) c.put_stat.ensures

pub returns-in-Names : goal.returns-in-Names
returns-in-Names g c = puts_as (body_text c.args.reply.now _ c.in-Names.is) c.put_names.ensures

pub returns-in-Inos : goal.returns-in-Inos
returns-in-Inos g c = puts_as (ap (λ (xs : List Ino). codes "ok " ++ decimal (length xs) ++ flat_map listed_ino xs) c.as_slice-in-Inos.ensures ∙ body_text c.args.reply.now _ c.in-Inos.is) c.put_inos.ensures

pub returns-in-Err : goal.returns-in-Err
returns-in-Err g c = puts_as (ap (λ (n : ℕ). codes "err " ++ decimal n) c.from.ensures ∙ body_text c.args.reply.now _ c.in-Err.is) c.put_number.ensures

pub returns-in-Fault : goal.returns-in-Fault
returns-in-Fault g c = puts_as (body_text c.args.reply.now _ c.in-Fault.is) c.put_number-in-Fault.ensures
