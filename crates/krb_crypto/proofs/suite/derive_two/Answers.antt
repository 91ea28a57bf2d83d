use Rattle.krb_crypto.proofs.SuiteLemmas.{dk_short, dk_long}
use Rattle.krb_crypto.proofs.suite.derive_two.Goals as goal

pub returns-in-Aes128CtsHmacSha196-clause-first : goal.returns-in-Aes128CtsHmacSha196-clause-first
returns-in-Aes128CtsHmacSha196-clause-first c = λ key constant of is.
    dk_short c.args.suite key constant _ _ c.in-Aes128CtsHmacSha196.is is (c.encrypt_two.ensures.first key of)

pub returns-in-Aes256CtsHmacSha196-clause-first : goal.returns-in-Aes256CtsHmacSha196-clause-first
returns-in-Aes256CtsHmacSha196-clause-first c = λ key constant of is.
    dk_long c.args.suite key constant _ _ _ _ c.in-Aes256CtsHmacSha196.is is
    (c.encrypt_two.ensures.first key of)
    (c.encrypt_two-in-Aes256CtsHmacSha196.ensures.first key of)
    c.joined.ensures

pub returns-in-Aes128CtsHmacSha196-clause-second : goal.returns-in-Aes128CtsHmacSha196-clause-second
returns-in-Aes128CtsHmacSha196-clause-second c = λ key constant of is.
    dk_short c.args.suite key constant _ _ c.in-Aes128CtsHmacSha196.is is (c.encrypt_two.ensures.second key of)

pub returns-in-Aes256CtsHmacSha196-clause-second : goal.returns-in-Aes256CtsHmacSha196-clause-second
returns-in-Aes256CtsHmacSha196-clause-second c = λ key constant of is.
    dk_long c.args.suite key constant _ _ _ _ c.in-Aes256CtsHmacSha196.is is
    (c.encrypt_two.ensures.second key of)
    (c.encrypt_two-in-Aes256CtsHmacSha196.ensures.second key of)
    c.joined-in-Aes256CtsHmacSha196.ensures
