use Rattle.request_codec.proofs.Cuts.{path_number_of, behind_path_number}
use Rattle.request_codec.proofs.parts.path_data.Goals as goal

pub returns-in_default : goal.returns-in_default
returns-in_default c = λ path n bytes h. c.in_default.ensures path n h.rest_is.rest (path_number_of path n c.args.text.now h)

pub returns-in_default-2 : goal.returns-in_default-2
returns-in_default-2 c = λ path n bytes h.
    let none = rw c.in_default-2.is at c.in_ok-bytes.ensures in
    none bytes (behind_path_number c.args.text.now _ _ _ path n c.in-Some.ensures h).2
