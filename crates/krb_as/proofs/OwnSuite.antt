-- The suite of the key that the time is sealed under, without rules.
use Rattle.std.proofs.Common.{◌≡◌, Result, Ok, subst}
use Rattle.krb_crypto.specs.declared.suite.CipherSuite.{CipherSuite}
use Rattle.krb_exchange.specs.declared.krb_error.KrbError.{KrbError}
use Rattle.krb_context.specs.declared.rules.Rules.{Rules}
use Rattle.krb_context.specs.Rules.{no_rules, has_rule, suite_of_each_key}
use Rattle.sspi_core.specs.declared.cause.Cause.{Cause}
use Rattle.sspi_core.specs.Checks.{Gives}
use Rattle.krb_as.specs.declared.asker.Asker.{Asker}
use Rattle.krb_as.specs.Askers.{asker_suite}
use Rattle.krb_as.specs.Replied.{LeavesSuite}

pub own_suite : (asker : Asker) (error : KrbError) (answer : Result CipherSuite Cause) → asker.rules ≡ no_rules
    → LeavesSuite (has_rule asker.rules suite_of_each_key) asker error answer → answer ≡ Ok (asker_suite asker)
own_suite asker error answer none h =
    let own : Gives (asker_suite asker) answer = subst (λ (o : Rules). LeavesSuite (has_rule o suite_of_each_key) asker error answer) none h in
    own.is
