-- The length of a TGT-REP.
use Rattle.std.proofs.Common.{◌≡◌, ℕ, ◌+◌, ◌<◌, ◌≤◌, ◌^◌, List, [], ◌∷◌, ◌++◌, length, sym, subst, arith, lit≤, lit<}
use Rattle.std.specs.Prelude.{Result, Ok, Err, IfOk}
use Rattle.krb_der.specs.Der.{tlv}
use Rattle.krb_der.specs.declared.memory.OutOfMemory.{OutOfMemory}
use Rattle.krb_der.specs.Schema.{Spells}
use Rattle.krb_der.proofs.Lengths.{tlv_le, field_le, append_le}
use Rattle.krb_der.specs.Layout.{spelling}
use Rattle.krb_messages.specs.Layouts.{ticket_layout}
use Rattle.krb_messages.specs.declared.ticket.Ticket.{Ticket}
use Rattle.krb_exchange.specs.Table.{tgt_rep as tgt_rep_kind}
use Rattle.krb_exchange.specs.Layouts.{tgt_rep_row, tgt_rep_layout}
use Rattle.krb_exchange.specs.declared.user_to_user.TgtRep.{TgtRep}
use Rattle.krb_requests.specs.Pieces.{Fits}
use Rattle.krb_user_to_user.specs.TgtReps.{tgt_rep}

le_trans : (a b c : ℕ) → a ≤ b → b ≤ c → a ≤ c
le_trans a b c h k = omega arith

rep_fits : (ticket : Ticket) → Fits ticket_layout (2 ^ 24) ticket → Fits tgt_rep_layout (2 ^ 25) (tgt_rep ticket)
unfolding tgt_rep_kind tgt_rep_row
rep_fits ticket h = record {
  complete = (lit< tt, (lit< tt, (h.complete, tt)));
  short =
      le_trans _ _ _ (tlv_le 0x30 _ _ (append_le _ _ _ _ (field_le 0xa0 0x02 _ 1 (lit≤ tt)) (append_le _ _ _ _ (field_le 0xa1 0x02 _ 1 (lit≤ tt))
      (append_le _ [] _ 0 (tlv_le 0xa2 _ _ h.short) (lit≤ tt))))) (lit≤ tt);
}

-- a TGT-REP with a ticket that fits
pub made_fits : (ticket : Ticket) (made : TgtRep) → made ≡ tgt_rep ticket → Fits ticket_layout (2 ^ 24) ticket → Fits tgt_rep_layout (2 ^ 25) made
made_fits ticket made e h = subst (λ (rep : TgtRep). Fits tgt_rep_layout (2 ^ 25) rep) (sym e) (rep_fits ticket h)

pub made_below : (ticket : Ticket) (made : TgtRep) → made ≡ tgt_rep ticket → Fits ticket_layout (2 ^ 24) ticket → length (spelling tgt_rep_layout made) < 2 ^ 31
made_below ticket made e h = let k = (made_fits ticket made e h).short in omega (arith, k)

-- the contents of a frame: the mechanism's object identifier, the token id and the octets after them
pub framed_short : (oid octets inside : List ℕ) → length oid ≤ 10 → inside ≡ octets → length octets ≤ 2 ^ 25 → length (tlv 0x06 oid ++ (4 ∷ 1 ∷ [] ++ inside)) < 2 ^ 31
framed_short oid octets inside name e h =
    let k : length inside ≤ 2 ^ 25 = subst (λ (o : List ℕ). length o ≤ 2 ^ 25) (sym e) h in
    omega (arith, append_le (tlv 0x06 oid) (4 ∷ 1 ∷ [] ++ inside) 16 (2 + 2 ^ 25) (tlv_le 0x06 oid 10 name) (append_le (4 ∷ 1 ∷ []) inside 2 (2 ^ 25) (lit≤ tt) k))

pub written_short : (ticket : Ticket) (made : TgtRep) (written : Result (List ℕ) OutOfMemory) → made ≡ tgt_rep ticket → Fits ticket_layout (2 ^ 24) ticket
    → IfOk written (λ octets. Spells tgt_rep_layout.kind (tgt_rep_layout.view made) octets) → IfOk written (λ octets. length octets ≤ 2 ^ 25)
written_short ticket made (Ok octets) e h s = subst (λ (o : List ℕ). length o ≤ 2 ^ 25) (sym s.is) (made_fits ticket made e h).short
written_short ticket made (Err z) e h s = tt
