use Rattle.std.proofs.Common.{◌≡◌, ◌≤◌, ◌+◌, ◌^◌, length, arith}
use Rattle.std.proofs.lemmas.Result.{IfOk-weaker}
use Rattle.krb_messages.specs.declared.encryption.EncryptedData.{EncryptedData}
use Rattle.krb_demo.proofs.Lengths.{authenticator_complete, authenticator_short, authenticator_below}
use Rattle.krb_demo.proofs.client.DemoClient.sealed.Goals as goal

pub write-requires-clause-complete : goal.write-requires-clause-complete
write-requires-clause-complete c =
    let four : length c.args.cusec ≡ 4 = omega arith in rw c.in_ok-part.ensures (authenticator_complete c.args.ctime c.args.cusec four)

pub write-requires-clause-short : goal.write-requires-clause-short
write-requires-clause-short c =
    let four : length c.args.cusec ≡ 4 = omega arith in rw c.in_ok-part.ensures (authenticator_below c.args.ctime c.args.cusec four)

pub returns-clause-short : goal.returns-clause-short
returns-clause-short c =
    let four : length c.args.cusec ≡ 4 = omega arith in
    let short : length c.as_slice.result.now ≤ 1024 = rw (c.as_slice.ensures, c.in_ok-plain.ensures.is, c.in_ok-part.ensures) (authenticator_short c.args.ctime c.args.cusec four) in
    IfOk-weaker c.encrypted.result (λ (part : EncryptedData). length part.cipher ≡ length c.as_slice.result.now + 28) (λ (part : EncryptedData). length part.cipher ≤ 2 ^ 16) (λ part longer. omega (arith, longer, short)) c.encrypted.ensures.longer
