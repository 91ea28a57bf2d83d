use Rattle.krb_crypto.proofs.SuiteLemmas.{dk_short, dk_long}
use Rattle.krb_crypto.proofs.suite.derive.Goals as goal

pub returns-in-Aes128CtsHmacSha196 : goal.returns-in-Aes128CtsHmacSha196
returns-in-Aes128CtsHmacSha196 c = λ key constant of is.
    dk_short c.args.suite key constant _ _ c.in-Aes128CtsHmacSha196.is is (c.encrypt_block-first.ensures key of)

pub returns-in-Aes256CtsHmacSha196 : goal.returns-in-Aes256CtsHmacSha196
returns-in-Aes256CtsHmacSha196 c = λ key constant of is.
    dk_long c.args.suite key constant _ _ _ _ c.in-Aes256CtsHmacSha196.is is
    (c.encrypt_block-first.ensures key of)
    (c.encrypt_block-second.ensures key of)
    c.joined.ensures
