use Rattle.krb_laws_kdc.proofs.NextLemmas.{refers_on, serves}
use Rattle.krb_laws_kdc.proofs.laws.next_replies_are_honest.Goals as goal

pub returns : goal.returns
returns c = record {
  refers = λ suite realm nonce draw own grant known asker target home address d g tcp octets short fresh named other apart found.
      refers_on suite realm draw d nonce grant g known tcp octets short asker target home address own fresh named other apart found;
  serves = λ suite realm nonce draw own grant known options target d g tcp octets short fresh client fits named no_referral.
      serves suite realm draw d nonce grant g known tcp octets short options target own fresh client fits named no_referral;
}
