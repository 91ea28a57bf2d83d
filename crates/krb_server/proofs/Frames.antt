-- A token is a frame of one TGT-REQ.
use Rattle.std.proofs.Common.{ℕ, true, false, List, [], ◌∷◌, Option, Some, None, Result, Ok, Err, subst}
use Rattle.std.specs.Prelude.{IfOk}
use Rattle.krb_der.specs.declared.memory.OutOfMemory.{OutOfMemory}
use Rattle.krb_messages.specs.Frame.{IsFrame}
use Rattle.krb_exchange.specs.Layouts.{tgt_req_layout}
use Rattle.krb_exchange.specs.declared.user_to_user.TgtReq.{TgtReq}
use Rattle.krb_replies.specs.Unseals.{IsRead}
use Rattle.krb_admission.proofs.Frames.{same_message}
use Rattle.krb_server.specs.TgtReqs.{Found, IsTgtReq}

in_frame : (oid octets token : List ℕ) → IsFrame oid (4 ∷ 0 ∷ []) octets token → (found : Option TgtReq) → Found (IsTgtReq true octets) found → Found (IsTgtReq false token) found
in_frame oid octets token frame (Some tgt_req) h = record { oid = oid; octets = octets; frame = frame; read = h }
in_frame oid octets token frame None none = λ tgt_req h.
    none tgt_req (subst (λ (o : List ℕ). IsRead tgt_req_layout o tgt_req) (same_message _ _ _ _ _ token h.frame frame) h.read)

pub framed_found : (oid octets token : List ℕ) → IsFrame oid (4 ∷ 0 ∷ []) octets token → (found : Result (Option TgtReq) OutOfMemory)
    → IfOk found (λ o. Found (IsTgtReq true octets) o) → IfOk found (λ o. Found (IsTgtReq false token) o)
framed_found oid octets token frame (Ok found) h = in_frame oid octets token frame found h
framed_found oid octets token frame (Err e) h = tt
