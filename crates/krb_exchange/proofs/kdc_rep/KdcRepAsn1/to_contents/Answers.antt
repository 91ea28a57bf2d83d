use Rattle.std.proofs.Common.{refl}
use Rattle.krb_der.proofs.Progress.{begun, then, then_optional, completed}
use Rattle.krb_exchange.specs.Table.{kdc_rep}
use Rattle.krb_exchange.specs.Layouts.{kdc_rep_row}
use Rattle.krb_exchange.proofs.kdc_rep.KdcRepAsn1.to_contents.Goals as goal

pub returns : goal.returns
unfolding kdc_rep kdc_rep_row
returns c =
    completed c.finish.result
    (then (then (then (then (then_optional (then (
    then (begun _ (kdc_rep_row c.args.self.now) c.new-fields.ensures)
    c.required.ensures)
    c.required-2.ensures)
    refl c.optional.ensures)
    c.required-3.ensures)
    c.required-4.ensures)
    c.required-5.ensures)
    c.required-6.ensures)
    c.finish.ensures
