use Rattle.std.proofs.Common.{◌∙◌, ap, sym, refl}
use Rattle.std.specs.Prelude.{length, Some}
use Rattle.krb_kdc.proofs.Found.{trust_found}
use Rattle.krb_kdc.specs.Grants.{ticket}
use Rattle.krb_laws_kdc.proofs.RepLemmas.{ticket_sound}
use Rattle.krb_laws_kdc.proofs.TicketLemmas.{opens, own_key, next_key, differ}
use Rattle.krb_laws_kdc.proofs.laws.tickets_are_opened.Goals as goal

pub returns : goal.returns
unfolding ticket
returns c = record {
  own = λ kdc realm nonce draw grant now d g client from named key lives.
      opens kdc.suite realm draw d grant client g.authtime g.endtime (ap length key ∙ kdc.tgt_key_fits) kdc now refl
      (own_key kdc (ticket kdc.suite realm draw grant) named from ∙ ap Some (sym key)) lives (ticket_sound kdc.suite realm draw d nonce grant g);
  next = λ kdc next nonce draw grant back now d g client other named trusted key lives.
      opens next.suite kdc.realm draw d grant client g.authtime g.endtime
      (ap length key ∙ trust_found next.suite kdc.realm next.trusts back next.trusts_fit trusted) next now refl
      (next_key next (ticket next.suite kdc.realm draw grant) back named (differ kdc.realm next.realm other) trusted ∙ ap Some (sym key)) lives
      (ticket_sound next.suite kdc.realm draw d nonce grant g);
}
