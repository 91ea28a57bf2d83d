use Rattle.krb_der.proofs.Progress.{begun, then, completed_in, short}
use Rattle.krb_exchange.specs.Table.{krb_priv}
use Rattle.krb_exchange.specs.Layouts.{krb_priv_row}
use Rattle.krb_exchange.proofs.krb_priv.KrbPrivAsn1.to_contents.Goals as goal

pub finish_application-requires : goal.finish_application-requires
unfolding krb_priv krb_priv_row
finish_application-requires c =
    short
    (then (then (then (begun _ (krb_priv_row c.args.self.now) c.new-fields.ensures)
    c.required.ensures)
    c.required-2.ensures)
    c.required-3.ensures)
    c.requires.0

pub returns : goal.returns
unfolding krb_priv krb_priv_row
returns c =
    completed_in c.finish_application.result
    (then (then (then (begun _ (krb_priv_row c.args.self.now) c.new-fields.ensures)
    c.required.ensures)
    c.required-2.ensures)
    c.required-3.ensures)
    c.finish_application.ensures
