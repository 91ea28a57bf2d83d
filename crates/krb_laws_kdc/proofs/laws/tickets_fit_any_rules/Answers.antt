use Rattle.std.proofs.Common.{refl}
use Rattle.krb_kdc.specs.Grants.{ticket_part}
use Rattle.krb_laws_ends.proofs.BoundLemmas.{fits_any}
use Rattle.krb_laws_kdc.proofs.laws.tickets_fit_any_rules.Goals as goal

pub returns : goal.returns
unfolding ticket_part
returns c = λ rules suite draw grant user named. fits_any rules (ticket_part suite draw grant) user refl refl named
