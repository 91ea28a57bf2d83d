use Rattle.std.proofs.Common.{◌^◌}
use Rattle.krb_exchange.specs.Layouts.{krb_priv_layout}
use Rattle.krb_requests.specs.Pieces.{Fits}
use Rattle.krb_authenticators.proofs.Lengths.{ok_is}
use Rattle.krb_authenticators.proofs.PrivLengths.{priv_within}
use Rattle.krb_authenticators.proofs.password.krb_priv.Goals as goal

pub returns-clause-within : goal.returns-clause-within
returns-clause-within c =
    ok_is (Fits krb_priv_layout (2 ^ 28)) _ _ c.krb_priv_with.ensures
    (priv_within c.args.suite _ c.in_ok-sealed.sealed c.in_ok-sealed.ensures.made c.in_ok-sealed.ensures.short)
