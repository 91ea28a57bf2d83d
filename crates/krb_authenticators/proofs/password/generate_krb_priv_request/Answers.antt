use Rattle.std.proofs.Common.{◌∙◌}
use Rattle.krb_authenticators.proofs.PrivLengths.{part_within}
use Rattle.krb_authenticators.proofs.password.generate_krb_priv_request.Goals as goal

pub krb_priv-requires-clause-part : goal.krb_priv-requires-clause-part
krb_priv-requires-clause-part c =
    rw (c.deref.ensures ∙ c.in_ok-part.ensures ∙ c.in_ok-plain.ensures) (part_within c.args.new_password.now c.args.seq_num c.args.address.now c.requires.password c.requires.address)
