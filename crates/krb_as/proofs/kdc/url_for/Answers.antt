use Rattle.std.proofs.Common.{sym}
use Rattle.krb_as.proofs.kdc.url_for.Goals as goal

pub returns-in-None : goal.returns-in-None
returns-in-None c = rw (c.in-None.is, sym c.as_str.ensures.octets) c.detect_kdc_url.ensures
