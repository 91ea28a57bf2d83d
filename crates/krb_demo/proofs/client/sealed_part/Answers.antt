use Rattle.std.proofs.Common.{◌≡◌, ◌≤◌, ◌+◌, ◌^◌, length, arith}
use Rattle.std.proofs.lemmas.Result.{IfOk-weaker}
use Rattle.krb_messages.specs.declared.encryption.EncryptedData.{EncryptedData}
use Rattle.krb_demo.specs.Client.{ticket_keys, client_ticket}
use Rattle.krb_demo.proofs.Lengths.{ticket_part_complete, ticket_part_short, ticket_part_below}
use Rattle.krb_demo.proofs.client.sealed_part.Goals as goal

pub write-requires-clause-complete : goal.write-requires-clause-complete
write-requires-clause-complete c = rw c.in_ok-part.ensures ticket_part_complete

pub write-requires-clause-short : goal.write-requires-clause-short
write-requires-clause-short c = rw c.in_ok-part.ensures ticket_part_below

pub returns-clause-made : goal.returns-clause-made
unfolding ticket_keys client_ticket
returns-clause-made c = rw (c.new-keys.ensures, c.service_key.ensures, c.as_slice.ensures, c.in_ok-plain.ensures.is, c.in_ok-part.ensures) at c.encrypted.ensures.made

pub returns-clause-short : goal.returns-clause-short
returns-clause-short c =
    let short : length c.as_slice.result.now ≤ 1024 = rw (c.as_slice.ensures, c.in_ok-plain.ensures.is, c.in_ok-part.ensures) ticket_part_short in
    IfOk-weaker c.encrypted.result (λ (part : EncryptedData). length part.cipher ≡ length c.as_slice.result.now + 28) (λ (part : EncryptedData). length part.cipher ≤ 2 ^ 16) (λ part longer. omega (arith, longer, short)) c.encrypted.ensures.longer
