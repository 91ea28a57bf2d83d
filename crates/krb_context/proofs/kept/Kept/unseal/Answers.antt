use Rattle.std.proofs.Common.{Err, ap, refl}
use Rattle.krb_context.proofs.kept.Kept.unseal.Goals as goal

pub returns-in-Err-Altered : goal.returns-in-Err-Altered
returns-in-Err-Altered c = record { so = λ ne. record { is = (refl, (c.in-Err-Altered.ensures.altered (ap Err c.in-Err-Altered.field-0-is)).1) } }
