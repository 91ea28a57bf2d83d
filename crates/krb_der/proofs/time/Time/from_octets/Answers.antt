use Rattle.krb_der.proofs.MomentReading.{moment_found, no_moment}
use Rattle.krb_der.proofs.time.Time.from_octets.Goals as goal

pub returns-clause-found : goal.returns-clause-found
returns-clause-found c = moment_found c.moment.result c.args.octets.now c.moment.ensures

pub returns-clause-none : goal.returns-clause-none
returns-clause-none c = no_moment c.moment.result c.args.octets.now c.moment.ensures
