-- The TGT-REP of a service (draft-swift-win2k-krb-user2user, section 3; RFC 2743, section 3.1; RFC 4121, section 4.1).
use Rattle.std.specs.Prelude.{ℕ, Bool, List, [], ◌∷◌, ◌++◌, if◌then◌else◌}
use Rattle.krb_der.specs.Der.{tlv}
use Rattle.krb_der.specs.Layout.{spelling}
use Rattle.krb_messages.specs.declared.ticket.Ticket.{Ticket}
use Rattle.krb_exchange.specs.declared.user_to_user.TgtRep.{TgtRep}
use Rattle.krb_exchange.specs.Layouts.{tgt_rep_layout}

-- version 5, message type 17
abbrev pub tgt_rep : Ticket → TgtRep
tgt_rep ticket = record { pvno = 5 ∷ []; msg_type = 17 ∷ []; ticket = ticket }

-- the octets of a TGT-REP
unfoldable pub message : Ticket → List ℕ
message ticket = spelling tgt_rep_layout (tgt_rep ticket)

-- a TGT-REP in a frame: the mechanism user-to-user, 1.2.840.113554.1.2.2.3, and the token id 04 01
unfoldable pub framed_tgt_rep : List ℕ → List ℕ
framed_tgt_rep octets = tlv 0x60 (tlv 0x06 (0x2a ∷ 0x86 ∷ 0x48 ∷ 0x86 ∷ 0xf7 ∷ 0x12 ∷ 1 ∷ 2 ∷ 2 ∷ 3 ∷ []) ++ (4 ∷ 1 ∷ [] ++ octets))

-- the token: bare in DCE style (MS-KILE, section 3.4.5.1), otherwise framed
abbrev pub tgt_rep_token : Bool → Ticket → List ℕ
tgt_rep_token dce ticket = if dce then message ticket else framed_tgt_rep (message ticket)
