use Rattle.std.proofs.Common.{refl}
use Rattle.krb_laws_kdc.proofs.FreshLemmas.{first_answer, next_answer}
use Rattle.krb_laws_kdc.proofs.laws.grants_answer_what_was_asked.Goals as goal

pub returns : goal.returns
returns c = record {
  first = λ kdc name principal moment later body draw asks size near near_later. first_answer moment later draw near near_later kdc name principal body asks size;
  next = λ kdc wanted rep part own draw later target d near near_later crealm cname outlives.
      next_answer kdc wanted rep part own draw later target d near near_later crealm cname outlives kdc.realm refl;
}
