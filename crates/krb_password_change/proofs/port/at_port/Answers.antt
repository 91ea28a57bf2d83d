use Rattle.std.proofs.Common.{rules}
use Rattle.krb_password_change.proofs.Ports.{was_set_to}
use Rattle.krb_password_change.proofs.port.at_port.Goals as goal

pub returns-in-Ok : goal.returns-in-Ok
returns-in-Ok c = was_set_to c.args.url.now c.in_ok-changed.changed c.set_port.new.self (search rules) c.in-Ok.ensures.0
