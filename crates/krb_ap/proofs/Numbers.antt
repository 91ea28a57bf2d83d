-- The number of an AP-REP that came in a token can be sent back: it has an octet, and is no longer than the token.
use Rattle.std.proofs.Common.{◌≡◌, ℕ, ◌<◌, ◌≤◌, ◌^◌, Bool, true, false, List, [], ◌∷◌, ◌++◌, length, Option, Some, None, IfSome, Result, Ok, Err, IfOk, sym, subst, arith, length-append}
use Rattle.std.specs.Prelude.{option_map}
use Rattle.std.specs.Option.{option_map_or}
use Rattle.std.proofs.lemmas.Bool.{leb-true}
use Rattle.krb_der.specs.Der.{tlv}
use Rattle.krb_der.specs.Moment.{time_octets}
use Rattle.krb_der.specs.Schema.{tag_of, contents}
use Rattle.krb_der.proofs.Lengths.{contents_shorter}
use Rattle.krb_der.specs.Layout.{spelling}
use Rattle.krb_crypto.specs.Sealed.{IsSealed}
use Rattle.krb_crypto.specs.declared.suite.CipherSuite.{CipherSuite}
use Rattle.krb_crypto.proofs.SealedLemmas.{plain_shorter}
use Rattle.krb_messages.specs.Frame.{IsFrame}
use Rattle.krb_messages.specs.Table.{encrypted_data, encryption_key, ap_rep as ap_rep_kind, enc_ap_rep_part}
use Rattle.krb_messages.specs.Layouts.{encryption_key_row, encrypted_data_row, encrypted_data_layout, ap_rep_row, ap_rep_layout, enc_ap_rep_part_row, enc_ap_rep_part_layout}
use Rattle.krb_messages.specs.declared.ap_rep.ApRep.{ApRep}
use Rattle.krb_messages.specs.declared.ap_rep.EncApRepPart.{EncApRepPart}
use Rattle.sspi_core.specs.declared.cause.Cause.{Cause}
use Rattle.sspi_core.specs.declared.cause.Cause.TheVariants.{Shape}
use Rattle.sspi_core.specs.Checks.{Answers}
use Rattle.sspi_core.proofs.Chain.{held, passed}
use Rattle.krb_replies.specs.Unseals.{IsRead, Unseals, OpensSealed, session_key}
use Rattle.krb_ap.specs.ApReps.{IsSendableNumber}
use Rattle.krb_ap.specs.Answered.{IsApRep, ReadsApRep}

-- the fields after the second one are not longer than the record
behind_le : (n outer inner : ℕ) (a b c : List ℕ) → length (tlv outer (tlv inner (a ++ (b ++ c)))) ≤ n → length c ≤ n
behind_le n outer inner a b c h =
    omega (arith, h, contents_shorter outer (tlv inner (a ++ (b ++ c))), contents_shorter inner (a ++ (b ++ c)), length-append a (b ++ c), length-append b c)

first_le : (n : ℕ) (a b : List ℕ) → length (a ++ b) ≤ n → length a ≤ n
first_le n a b h = omega (arith, h, length-append a b)

rest_le : (n : ℕ) (a b : List ℕ) → length (a ++ b) ≤ n → length b ≤ n
rest_le n a b h = omega (arith, h, length-append a b)

field_in : (n outer inner : ℕ) (contents : List ℕ) → length (tlv outer (tlv inner contents)) ≤ n → length contents ≤ n
field_in n outer inner contents h = omega (arith, h, contents_shorter outer (tlv inner contents), contents_shorter inner contents)

-- what an AP-REP seals is not longer than its octets
cipher_le : (n : ℕ) (octets : List ℕ) (message : ApRep) → IsRead ap_rep_layout octets message → length octets ≤ n → length message.enc_part.cipher ≤ n
unfolding ap_rep_kind ap_rep_row encrypted_data encrypted_data_row
cipher_le n octets message h k =
    let whole : length (spelling ap_rep_layout message) ≤ n = subst (λ (o : List ℕ). length o ≤ n) h.is k in
    let part : length (tlv 0xa2 (spelling encrypted_data_layout message.enc_part)) ≤ n =
    first_le n _ [] (behind_le n 0x6f 0x30 (tlv 0xa0 (tlv 0x02 message.pvno)) (tlv 0xa1 (tlv 0x02 message.msg_type)) _ whole) in
    field_in n 0xa2 0x04 message.enc_part.cipher (first_le n _ [] (behind_le n 0xa2 0x30 _ _ _ part))

-- nor is what a frame holds
framed_le : (token oid octets : List ℕ) → IsFrame oid (2 ∷ 0 ∷ []) octets token → length octets ≤ length token
framed_le token oid octets h =
    let inside = tlv 0x06 oid ++ ((2 ∷ 0 ∷ []) ++ octets) in
    omega (arith, subst (λ (o : List ℕ). length inside < length o) (sym h.is.is) (contents_shorter 0x60 inside), length-append (tlv 0x06 oid) ((2 ∷ 0 ∷ []) ++ octets), length-append (2 ∷ 0 ∷ []) octets)

in_token : (dce : Bool) (token : List ℕ) (message : ApRep) → IsApRep dce token message → length token ≤ 2 ^ 24 → length message.enc_part.cipher ≤ 2 ^ 24
in_token true token message h k = cipher_le (2 ^ 24) token message h k
in_token false token message h k = cipher_le (2 ^ 24) h.octets message h.read (omega (arith, framed_le token h.oid h.octets h.frame, k))

pub read_short : (dce : Bool) (token : List ℕ) (answer : Result ApRep Cause) → Answers (ReadsApRep dce token) answer → IfOk answer (λ message. length message.enc_part.cipher ≤ 2 ^ 24)
unfolding ReadsApRep
read_short dce token (Ok message) h =
    let size = passed _ _ _ (h.so (λ z. absurd cc)) in
    in_token dce token message size.rest_held.is (leb-true (length token) 16777216 (held Shape _ size.found size.first_held))
read_short dce token (Err e) h = tt

-- a number in a record of at most 2^24 octets
number_of : (number : Option (List ℕ)) → length (option_map_or (λ value. tlv 0xa3 (tlv 0x02 value)) number []) ≤ 2 ^ 24 → IfSome number (λ octets. 0 < length octets) → IfSome number IsSendableNumber
number_of (Some octets) h k = record { some = k; short = field_in (2 ^ 24) 0xa3 0x02 octets h }
number_of None h k = tt

read_number : (plain : List ℕ) (part : EncApRepPart) → IsRead enc_ap_rep_part_layout plain part → length plain ≤ 2 ^ 24 → IfSome part.seq_number IsSendableNumber
unfolding enc_ap_rep_part enc_ap_rep_part_row
read_number plain part h k =
    let whole : length (spelling enc_ap_rep_part_layout part) ≤ 2 ^ 24 = subst (λ (o : List ℕ). length o ≤ 2 ^ 24) h.is k in
    let stamp : List ℕ = tlv 0xa0 (tlv 0x18 (time_octets part.ctime)) in
    let micro : List ℕ = tlv 0xa1 (tlv 0x02 part.cusec) in
    let subkey : List ℕ = option_map_or (λ value. tlv 0xa2 (tlv (tag_of encryption_key) (contents encryption_key value))) (option_map encryption_key_row part.subkey) [] in
    let number : List ℕ = option_map_or (λ value. tlv 0xa3 (tlv 0x02 value)) part.seq_number [] in
    number_of part.seq_number (first_le (2 ^ 24) number [] (rest_le (2 ^ 24) subkey (number ++ []) (behind_le (2 ^ 24) 0x7b 0x30 stamp micro (subkey ++ (number ++ [])) whole)))
    h.sound.1.1.1.0

opened : (suite : CipherSuite) (key text : List ℕ) (part : EncApRepPart) → OpensSealed enc_ap_rep_part_layout session_key suite key 12 text (Ok part) → length text ≤ 2 ^ 24 → IfSome part.seq_number IsSendableNumber
unfolding OpensSealed Unseals
opened suite key text part h k =
    let inner = passed _ _ _ h in
    let sealed : IsSealed suite key 12 text inner.found = (passed _ _ _ (passed _ _ _ inner.first_held).rest_held).rest_held.is in
    read_number inner.found part inner.rest_held.is (omega (arith, plain_shorter suite key 12 text inner.found sealed, k))

pub opened_number : (suite : CipherSuite) (key text cipher : List ℕ) (answer : Result EncApRepPart Cause) → text ≡ cipher → Answers (OpensSealed enc_ap_rep_part_layout session_key suite key 12 text) answer → length cipher ≤ 2 ^ 24
    → IfOk answer (λ part. IfSome part.seq_number IsSendableNumber)
opened_number suite key text cipher (Ok part) e h k = opened suite key text part (h.so (λ z. absurd cc)) (subst (λ (o : List ℕ). length o ≤ 2 ^ 24) (sym e) k)
opened_number suite key text cipher (Err cause) e h k = tt
