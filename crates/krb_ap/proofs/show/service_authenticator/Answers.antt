use Rattle.krb_ap.proofs.ShownLengths.{same_authenticator}
use Rattle.krb_ap.proofs.show.service_authenticator.Goals as goal

pub returns-in-Ok-clause-made : goal.returns-in-Ok-clause-made
returns-in-Ok-clause-made c =
    same_authenticator c.args.rep.now _ c.args.suite _ _ _ _ _ _ c.args.draw.now.moment _ c.in_ok-key_value.ensures.drawn c.in_ok-checksum.ensures.made c.as_ref.ensures.value c.in-Ok.ensures.made
