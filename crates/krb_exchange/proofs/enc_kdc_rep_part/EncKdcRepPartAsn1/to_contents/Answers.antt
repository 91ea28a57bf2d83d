use Rattle.std.proofs.Common.{refl}
use Rattle.krb_der.proofs.Progress.{begun, then, then_optional, option_id, completed}
use Rattle.krb_exchange.specs.Table.{enc_kdc_rep_part}
use Rattle.krb_exchange.specs.Layouts.{enc_kdc_rep_part_row}
use Rattle.krb_exchange.proofs.enc_kdc_rep_part.EncKdcRepPartAsn1.to_contents.Goals as goal

pub returns : goal.returns
unfolding enc_kdc_rep_part enc_kdc_rep_part_row
returns c =
    completed c.finish.result
    (then_optional (then_optional (then (then (then_optional (then (
    then_optional (then (then (then_optional (then (then (then (begun _ (enc_kdc_rep_part_row c.args.self.now) c.new-fields.ensures)
    c.required.ensures)
    c.required-2.ensures)
    c.required-3.ensures)
    (option_id c.args.self.now.key_expiration) c.optional.ensures)
    c.required-4.ensures)
    c.required-5.ensures)
    (option_id c.args.self.now.starttime) c.optional-2.ensures)
    c.required-6.ensures)
    (option_id c.args.self.now.renew_till) c.optional-3.ensures)
    c.required-7.ensures)
    c.required-8.ensures)
    refl c.optional-4.ensures)
    refl c.optional-5.ensures)
    c.finish.ensures
