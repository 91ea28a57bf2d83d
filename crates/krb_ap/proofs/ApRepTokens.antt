-- An AP-REP in a token, and the key that it was opened under.
use Rattle.std.proofs.Common.{◌≡◌, ℕ, Bool, false, List, [], ◌∷◌, length, Result, Ok, Err, subst}
use Rattle.std.specs.Prelude.{◌==◌}
use Rattle.std.proofs.lemmas.Bool.{eqb-true}
use Rattle.sspi_core.specs.declared.cause.Cause.{Cause}
use Rattle.sspi_core.specs.declared.cause.Cause.TheVariants.{Shape, Reply}
use Rattle.sspi_core.specs.Checks.{Finds, Answers}
use Rattle.sspi_core.proofs.Chain.{held, passed}
use Rattle.krb_crypto.specs.Suite.{key_size}
use Rattle.krb_crypto.specs.declared.suite.CipherSuite.{CipherSuite}
use Rattle.krb_messages.specs.Frame.{IsFrame}
use Rattle.krb_messages.specs.Layouts.{ap_rep_layout}
use Rattle.krb_messages.specs.declared.ap_rep.ApRep.{ApRep}
use Rattle.krb_messages.specs.declared.ap_rep.EncApRepPart.{EncApRepPart}
use Rattle.krb_messages.proofs.FrameLemmas.{one_frame_lem}
use Rattle.krb_replies.specs.Unseals.{IsRead, Unseals, OpensSealed}
use Rattle.krb_replies.specs.Answered.{OpensApRep}
use Rattle.krb_ap.specs.Answered.{IsApRep, ReadsApRep}

-- a frame is of one message
framed_found : (token oid octets : List ℕ) (answer : Result ApRep Cause) → IsFrame oid (2 ∷ 0 ∷ []) octets token → Finds Shape (IsRead ap_rep_layout octets) answer → Finds Shape (IsApRep false token) answer
framed_found token oid octets (Ok message) frame h = record { is = record { oid = oid; octets = octets; frame = frame; read = h.is } }
framed_found token oid octets (Err e) frame h =
    record { is = (h.is.0, λ message k. h.is.1 message (subst (λ (o : List ℕ). IsRead ap_rep_layout o message) (one_frame_lem _ _ _ _ _ token k.frame frame).1 k.read)) }

pub framed_read : (token oid octets : List ℕ) (answer : Result ApRep Cause) → IsFrame oid (2 ∷ 0 ∷ []) octets token → Answers (Finds Shape (IsRead ap_rep_layout octets)) answer → Answers (Finds Shape (IsApRep false token)) answer
framed_read token oid octets answer frame h = record { so = λ ne. framed_found token oid octets answer frame (h.so ne) }

-- what was opened was sealed under a key of the suite's length
opened_under : (suite : CipherSuite) (key : List ℕ) (message : ApRep) (part : EncApRepPart) → OpensApRep suite key message (Ok part) → length key ≡ key_size suite
unfolding OpensApRep OpensSealed Unseals
opened_under suite key message part h =
    let size = passed _ _ _ (passed _ _ _ h).first_held in
    eqb-true (length key) (key_size suite) (held Reply (length key == key_size suite) size.found size.first_held)

pub sized : (suite same : CipherSuite) (key : List ℕ) (message : ApRep) (part : EncApRepPart) → suite ≡ same → Answers (OpensApRep suite key message) (Ok part) → length key ≡ key_size same
sized suite same key message part e h = subst (λ (s : CipherSuite). length key ≡ key_size s) e (opened_under suite key message part (h.so (λ z. absurd cc)))

-- the same checks, under another name of what they are over
pub read_as : (dce bare : Bool) (token : List ℕ) (message : ApRep) → dce ≡ bare → Answers (ReadsApRep dce token) (Ok message) → Answers (ReadsApRep bare token) (Ok message)
read_as dce bare token message e h = subst (λ (b : Bool). Answers (ReadsApRep b token) (Ok message)) e h

pub refused_as : (suite same : CipherSuite) (key : List ℕ) (message : ApRep) (cause : Cause) → suite ≡ same → Answers (OpensApRep suite key message) (Err cause) → Answers (OpensApRep same key message) (Err cause)
refused_as suite same key message cause e h = subst (λ (s : CipherSuite). Answers (OpensApRep s key message) (Err cause)) e h
