use Rattle.request_codec.proofs.Meanings.{no_data_form, data_given}
use Rattle.request_codec.proofs.parse.parse_data.Goals as goal

pub returns-in_default : goal.returns-in_default
returns-in_default c = no_data_form c.args.word c.args.text.now (rw c.in_default.is at c.in_ok-path.ensures)

pub returns : goal.returns
returns c =
    let parts = rw c.in-Some.is at c.in_ok-path.ensures in
    data_given c.args.word c.args.text.now _ _ _ _ c.request.result parts c.in_ok-path-2.ensures c.request.ensures
