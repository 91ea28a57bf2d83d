-- A token is a frame of one message, whatever its token id.
use Rattle.std.proofs.Common.{◌≡◌, ℕ, List, [], length, sym, subst, ap, Option, Some, None, Err}
use Rattle.sspi_core.specs.declared.cause.Cause.{Cause}
use Rattle.sspi_core.specs.declared.cause.Cause.TheVariants.{Shape, Memory}
use Rattle.sspi_core.specs.Checks.{Finds, Answers}
use Rattle.sspi_core.proofs.Chain.{same_err}
use Rattle.krb_der.specs.Der.{tlv}
use Rattle.krb_messages.specs.Frame.{IsFrame}
use Rattle.krb_messages.specs.declared.oid.Oid.{Oid}
use Rattle.krb_messages.specs.declared.ticket.Ticket.{Ticket}
use Rattle.krb_messages.proofs.FrameLemmas.{one_any_frame}
use Rattle.krb_exchange.specs.declared.user_to_user.TgtRep.{TgtRep}
use Rattle.krb_exchange.specs.Layouts.{tgt_rep_layout}
use Rattle.krb_replies.specs.Unseals.{IsRead}
use Rattle.krb_replies.specs.Tickets.{HasTicket}

-- a frame has octets
no_frame_of_nothing : (oid token_id message token : List ℕ) → IsFrame oid token_id message token → token ≡ [] → ⊥
unfolding tlv
no_frame_of_nothing oid token_id message token frame none = let e = sym none in let f = frame.is.is in absurd cc

-- a token that frames what is no TGT-REP has no ticket
nothing_found : (token oid token_id octets : List ℕ) → length token_id ≡ 2 → IsFrame oid token_id octets token
    → ((reply : TgtRep) → IsRead tgt_rep_layout octets reply → ⊥) → (x : Option (Ticket × Oid)) → HasTicket token x → ⊥
nothing_found token oid token_id octets two frame none None h = no_frame_of_nothing oid _ octets token frame h
nothing_found token oid token_id octets two frame none (Some found) h =
    none h.0.reply (subst (λ (o : List ℕ). IsRead tgt_rep_layout o h.0.reply) (one_any_frame _ _ _ _ _ _ token h.0.two two h.0.frame frame) h.0.read)

pub refuses_ticket : (token oid token_id octets : List ℕ) (e : Cause) → length token_id ≡ 2 → IsFrame oid token_id octets token → Answers (Finds Shape (IsRead tgt_rep_layout octets)) (Err e)
    → Answers (Finds Shape (HasTicket token)) (Err e)
refuses_ticket token oid token_id octets e two frame h = record {
  so = λ ne. let f = h.so (λ z. ne (ap Err (same_err {A = TgtRep} e Memory z))) in record { is = (f.is.0, nothing_found token oid token_id octets two frame f.is.1) };
}
