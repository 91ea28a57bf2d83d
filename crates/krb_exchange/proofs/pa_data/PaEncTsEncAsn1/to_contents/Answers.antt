use Rattle.krb_der.proofs.Progress.{begun, then, then_optional, option_id, completed}
use Rattle.krb_exchange.specs.Table.{pa_enc_ts_enc}
use Rattle.krb_exchange.specs.Layouts.{pa_enc_ts_enc_row}
use Rattle.krb_exchange.proofs.pa_data.PaEncTsEncAsn1.to_contents.Goals as goal

pub returns : goal.returns
unfolding pa_enc_ts_enc pa_enc_ts_enc_row
returns c =
    completed c.finish.result
    (then_optional (then (begun _ (pa_enc_ts_enc_row c.args.self.now) c.new-fields.ensures)
    c.required.ensures)
    (option_id c.args.self.now.pausec) c.optional.ensures)
    c.finish.ensures
