use Rattle.krb_ap.proofs.Numbers.{opened_number}
use Rattle.krb_ap.proofs.service.open_ap_rep.Goals as goal

pub returns-clause-number : goal.returns-clause-number
returns-clause-number c = opened_number c.args.suite _ _ c.args.message.now.enc_part.cipher c.open.result c.as_slice-text.ensures c.open.ensures c.requires
