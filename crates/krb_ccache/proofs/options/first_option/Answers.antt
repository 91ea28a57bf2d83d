use Rattle.std.proofs.Common.{option_copied, sym}
use Rattle.krb_ccache.specs.Options.{is_option_of}
use Rattle.krb_ccache.proofs.First.{not_yet, here}
use Rattle.krb_ccache.proofs.options.first_option.Goals as goal

pub returns-then-is_option_of : goal.returns-then-is_option_of
returns-then-is_option_of c =
    sym (here (is_option_of c.args.wanted.now.client.now c.args.wanted.now.name.now (option_copied c.args.wanted.now.principal)) c.args.credentials.now c.loop-credential.credential-index c.credential-item.result
    c.loop-credential-test.true c.credential-item.is c.loop-credential.invariant (sym c.if-is_option_of.ensures))

pub loop-credential-preserved : goal.loop-credential-preserved
loop-credential-preserved c =
    not_yet (is_option_of c.args.wanted.now.client.now c.args.wanted.now.name.now (option_copied c.args.wanted.now.principal)) c.args.credentials.now c.loop-credential.credential-index c.credential-item.result
    c.loop-credential-test.true c.credential-item.is c.loop-credential.invariant (sym c.if-is_option_of.ensures)
