use Rattle.std.proofs.Common.{rules}
use Rattle.krb_crypto.proofs.PasswordLemmas.{pbkdf2_of_one, pbkdf2_of_two, other_size}
use Rattle.krb_crypto.proofs.password.pbkdf2.Goals as goal

pub returns-then-size-eq16-clause-octets : goal.returns-then-size-eq16-clause-octets
returns-then-size-eq16-clause-octets c =
    pbkdf2_of_one c.args.password.now c.args.salt.now _ _ c.args.iterations c.args.size c.if-size-eq16.true
    (c.block-first.ensures c.args.password.now c.new-key.ensures) c.front_of_one.ensures

pub returns-clause-octets : goal.returns-clause-octets
returns-clause-octets c =
    pbkdf2_of_two c.args.password.now c.args.salt.now _ _ _ c.args.iterations c.args.size (other_size c.args.size c.requires.one_or_two_blocks c.if-size-eq16.false) (search rules)
    (c.block-first.ensures c.args.password.now c.new-key.ensures) (c.block-second.ensures c.args.password.now c.new-key.ensures) c.front_of_two.ensures
