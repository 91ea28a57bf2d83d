use Rattle.std.specs.Option.{option_copied}
use Rattle.krb_authenticators.proofs.Lengths.{authenticator_within}
use Rattle.krb_authenticators.proofs.authenticator.generate_authenticator.Goals as goal

pub returns-clause-within : goal.returns-clause-within
returns-clause-within c =
    rw (c.in_ok-put_together.ensures, c.checksum_if-cksum.ensures, c.in_ok-extras.ensures.subkey, c.in_ok-extras.ensures.number, c.in_ok-extras.ensures.sign)
    (authenticator_within c.args.options.kdc_rep.now c.args.options.seq_num c.args.options.sub_key c.args.options.checksum (option_copied c.args.options.channel_bindings) c.args.now c.requires.short)
