-- The ticket of user-to-user in a framed TGT-REP (draft-swift-win2k-krb-user2user, section 3; RFC 4121, section 4.1).
use Rattle.std.specs.Prelude.{◌≡◌, ℕ, nat_le, List, [], length, Option, Some, None, Result}
use Rattle.krb_messages.specs.Frame.{IsFrame}
use Rattle.krb_messages.specs.Oid.{contents_of, IsByName}
use Rattle.krb_messages.specs.declared.oid.Oid.{Oid}
use Rattle.krb_messages.specs.declared.ticket.Ticket.{Ticket}
use Rattle.krb_exchange.specs.declared.user_to_user.TgtRep.{TgtRep}
use Rattle.krb_exchange.specs.Layouts.{tgt_rep_layout}
use Rattle.sspi_core.specs.declared.cause.Cause.{Cause}
use Rattle.sspi_core.specs.declared.cause.Cause.TheVariants.{Shape}
use Rattle.sspi_core.specs.Checks.{Finds, Holds, ◌>>◌}
use Rattle.krb_replies.specs.Unseals.{IsRead}

-- the token is a frame of a TGT-REP with this ticket, under this mechanism; the two octets of token id are any
pub record IsTgtRep (token : List ℕ) (ticket : Ticket) (oid : List ℕ) : Type 0 where
  pub token_id : List ℕ
  pub octets : List ℕ
  pub reply : TgtRep
  pub two : length token_id ≡ 2
  pub frame : IsFrame oid token_id octets token
  pub read : IsRead tgt_rep_layout octets reply
  pub is : ticket ≡ reply.ticket

-- no octets have no ticket
abbrev pub HasTicket : List ℕ → Option (Ticket × Oid) → Type 0
HasTicket token None = token ≡ []
HasTicket token (Some found) = IsTgtRep token found.0 (contents_of found.1) × IsByName found.1

-- the ticket in a token, which has at most 2^24 octets, and the mechanism
unfoldable pub TakesTicket : List ℕ → Result (Option (Ticket × Oid)) Cause → Type 0
TakesTicket token = do
  Holds Shape (nat_le (length token) 16777216)
  Finds Shape (HasTicket token)
