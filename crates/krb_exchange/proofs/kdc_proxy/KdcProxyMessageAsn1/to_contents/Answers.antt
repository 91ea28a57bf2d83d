use Rattle.krb_der.proofs.Progress.{begun, then, then_optional, option_id, completed}
use Rattle.krb_exchange.specs.Table.{kdc_proxy_message}
use Rattle.krb_exchange.specs.Layouts.{kdc_proxy_message_row}
use Rattle.krb_exchange.proofs.kdc_proxy.KdcProxyMessageAsn1.to_contents.Goals as goal

pub returns : goal.returns
unfolding kdc_proxy_message kdc_proxy_message_row
returns c =
    completed c.finish.result
    (then_optional (then_optional (then (begun _ (kdc_proxy_message_row c.args.self.now) c.new-fields.ensures)
    c.required.ensures)
    (option_id c.args.self.now.target_domain) c.optional.ensures)
    (option_id c.args.self.now.dclocator_hint) c.optional-2.ensures)
    c.finish.ensures
