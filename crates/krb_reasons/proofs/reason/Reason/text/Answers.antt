use Rattle.krb_reasons.proofs.reason.Reason.text.Goals as goal

pub returns-in-Missing : goal.returns-in-Missing
returns-in-Missing c = rw c.in-Missing.is c.field_text-in-Missing.ensures
