-- The parts of a KDC's reply can be written again, and are not longer than the reply.
use Rattle.std.proofs.Common.{◌≡◌, ℕ, ◌+◌, ◌≤◌, ◌^◌, List, [], ◌++◌, length, map, Result, Ok, Err, refl, ap, subst, arith, length-append}
use Rattle.std.specs.Prelude.{IfOk, option_map}
use Rattle.std.specs.Option.{option_map_or}
use Rattle.std.proofs.lemmas.Bool.{leb-true}
use Rattle.std.proofs.lemmas.List.{length-drop}
use Rattle.krb_der.specs.Der.{tlv}
use Rattle.krb_der.specs.Schema.{Spells, tag_of, contents, IsComplete, sequence_of}
use Rattle.krb_der.specs.Layout.{Layout, spelling}
use Rattle.krb_der.proofs.Lengths.{contents_shorter}
use Rattle.krb_messages.specs.Table.{encrypted_data}
use Rattle.krb_messages.specs.Layouts.{principal_name_layout, ticket_layout, encrypted_data_row}
use Rattle.krb_exchange.specs.Table.{pa_data, kdc_rep, as_rep, tgs_rep}
use Rattle.krb_exchange.specs.Layouts.{pa_data_row, kdc_rep_row, as_rep_row, as_rep_layout, tgs_rep_row, tgs_rep_layout}
use Rattle.krb_exchange.specs.Results.{IsResult}
use Rattle.krb_exchange.specs.declared.kdc_rep.KdcRep.{KdcRep}
use Rattle.krb_exchange.specs.declared.kdc_rep.AsRep.{AsRep}
use Rattle.krb_exchange.specs.declared.kdc_rep.TgsRep.{TgsRep}
use Rattle.krb_exchange.specs.declared.result.KrbResult.{KrbResult}
use Rattle.krb_exchange.specs.declared.result.KrbResult.TheVariants.{Ok as Reply, Err as Refusal}
use Rattle.sspi_core.specs.declared.protocol.NetworkProtocol.{NetworkProtocol}
use Rattle.sspi_core.specs.declared.cause.Cause.{Cause}
use Rattle.sspi_core.specs.declared.cause.Cause.TheVariants.{Shape}
use Rattle.sspi_core.specs.Checks.{Answers}
use Rattle.sspi_core.proofs.Chain.{held, passed, gave}
use Rattle.sspi_generator.specs.declared.network.NetFault.{NetFault}
use Rattle.krb_as.specs.Replies.{is_short, Skips, Unpacks, Unwraps, Replies}
use Rattle.krb_replies.specs.Told.{Hands}
use Rattle.krb_requests.specs.Pieces.{Fits}
use Rattle.krb_as.specs.Replied.{reply_in, Grants}
use Rattle.krb_as.specs.Granted.{IsSendable, IsSendableReply}
use Rattle.krb_as.proofs.Complete.{complete_spelled}

handed : {A : Type 0} (result : KrbResult A) (x : A) → Hands (reply_in result) (Ok x) → result ≡ Reply x
handed (Reply y) x h = let e = h.is in cc
handed (Refusal error) x h = let e = h.is in absurd cc

-- the message of a reply is not longer than a reply
skipped : (octets message : List ℕ) → Skips octets (Ok message) → length message ≤ 2 ^ 24
unfolding Skips
skipped octets message h =
    let size = passed _ _ _ (passed _ _ _ h).rest_held in
    let long : length octets ≤ 16777216 = leb-true (length octets) 16777216 (held Shape (is_short octets) size.found size.first_held) in
    omega (arith, long, ap (λ (o : List ℕ). length o) (gave _ _ size.rest_held), length-drop 4 octets)

unwrapped : (protocol : NetworkProtocol) (reply : Result (List ℕ) NetFault) (message : List ℕ) → Unwraps protocol reply (Ok message) → length message ≤ 2 ^ 24
unfolding Unwraps Unpacks
unwrapped protocol reply message h = skipped _ message (passed _ _ _ (passed _ _ _ h).rest_held).rest_held

-- so is the record in it
spelled_fits : {A : Type 0} (layout : Layout A) (x : A) (octets : List ℕ) → Spells layout.kind (layout.view x) octets → length octets ≤ 2 ^ 24 → Fits layout (2 ^ 24) x
spelled_fits layout x octets s short = record { complete = complete_spelled s; short = subst (λ (o : List ℕ). length o ≤ 2 ^ 24) s.is short }

found_fits : {A : Type 0} (layout : Layout A) (result : KrbResult A) (x : A) (octets : List ℕ) → result ≡ Reply x → IsResult layout octets result → length octets ≤ 2 ^ 24 → Fits layout (2 ^ 24) x
found_fits {A} layout result x octets e s short = spelled_fits layout x octets (subst (λ (r : KrbResult A). IsResult layout octets r) e s) short

module _ {A : Type 0} (protocol : NetworkProtocol) (layout : Layout A) (reply : Result (List ℕ) NetFault) where
  grants_fit : (x : A) → Grants protocol layout reply (Ok x) → Fits layout (2 ^ 24) x
  unfolding Grants Replies
  grants_fit x h =
      let result = passed _ _ _ h in
      let message = passed _ _ _ result.first_held in
      found_fits layout result.found x message.found (handed _ _ result.rest_held) message.rest_held.is (unwrapped protocol reply message.found message.first_held)

  replied_fits : (x : A) → Replies protocol layout reply (Ok (Reply x)) → Fits layout (2 ^ 24) x
  unfolding Replies
  replied_fits x h =
      let message = passed _ _ _ h in
      found_fits layout (Reply x) x message.found refl message.rest_held.is (unwrapped protocol reply message.found message.first_held)

  pub granted_fits : (x : A) → Answers (Grants protocol layout reply) (Ok x) → Fits layout (2 ^ 24) x
  granted_fits x h = grants_fit x (h.so (λ z. absurd cc))

-- a part of a record is not longer than the record
parts_le : (n outer inner : ℕ) (a b c d e f g : List ℕ) → length (tlv outer (tlv inner (a ++ (b ++ (c ++ (tlv 0xa3 (tlv 0x1b d) ++ (tlv 0xa4 e ++ (tlv 0xa5 f ++ g)))))))) ≤ n
    → (length d ≤ n) × (length e ≤ n) × (length f ≤ n)
parts_le n outer inner a b c d e f g h =
    let k : length (tlv 0xa3 (tlv 0x1b d)) + (length (tlv 0xa4 e) + length (tlv 0xa5 f)) ≤ n =
    omega (
      arith,
      h,
      contents_shorter outer (tlv inner (a ++ (b ++ (c ++ (tlv 0xa3 (tlv 0x1b d) ++ (tlv 0xa4 e ++ (tlv 0xa5 f ++ g))))))),
      contents_shorter inner (a ++ (b ++ (c ++ (tlv 0xa3 (tlv 0x1b d) ++ (tlv 0xa4 e ++ (tlv 0xa5 f ++ g)))))),
      length-append a (b ++ (c ++ (tlv 0xa3 (tlv 0x1b d) ++ (tlv 0xa4 e ++ (tlv 0xa5 f ++ g))))),
      length-append b (c ++ (tlv 0xa3 (tlv 0x1b d) ++ (tlv 0xa4 e ++ (tlv 0xa5 f ++ g)))),
      length-append c (tlv 0xa3 (tlv 0x1b d) ++ (tlv 0xa4 e ++ (tlv 0xa5 f ++ g))),
      length-append (tlv 0xa3 (tlv 0x1b d)) (tlv 0xa4 e ++ (tlv 0xa5 f ++ g)),
      length-append (tlv 0xa4 e) (tlv 0xa5 f ++ g),
      length-append (tlv 0xa5 f) g,
    ) in (
      omega (arith, k, contents_shorter 0xa3 (tlv 0x1b d), contents_shorter 0x1b d),
      omega (arith, k, contents_shorter 0xa4 e),
      omega (arith, k, contents_shorter 0xa5 f),
    )

module _ (outer : ℕ) (rep : KdcRep) where
  kdc_rep_sendable : IsComplete kdc_rep (kdc_rep_row rep) → length (tlv outer (tlv (tag_of kdc_rep) (contents kdc_rep (kdc_rep_row rep)))) ≤ 2 ^ 24 → IsSendable rep
  unfolding kdc_rep kdc_rep_row
  kdc_rep_sendable complete short =
      let hints : List ℕ = option_map_or (λ value. tlv 0xa2 (tlv (tag_of (sequence_of pa_data)) (contents (sequence_of pa_data) value))) (option_map (map pa_data_row) rep.padata) [] in
      let sealed : List ℕ = tlv 0xa6 (tlv (tag_of encrypted_data) (contents encrypted_data (encrypted_data_row rep.enc_part))) ++ [] in
      let le = parts_le (2 ^ 24) outer 0x30 (tlv 0xa0 (tlv 0x02 rep.pvno)) (tlv 0xa1 (tlv 0x02 rep.msg_type)) hints rep.crealm (spelling principal_name_layout rep.cname) (spelling ticket_layout rep.ticket) sealed short in
      record {
        realm = le.0;
        name = record { complete = complete.1.1.1.1.0; short = le.1 };
        ticket = record { complete = complete.1.1.1.1.1.0; short = le.2 };
      }

pub as_rep_sendable : (rep : AsRep) → Fits as_rep_layout (2 ^ 24) rep → IsSendable rep.0
unfolding as_rep as_rep_row
as_rep_sendable rep fits = kdc_rep_sendable 0x6b rep.0 fits.complete fits.short

pub tgs_rep_sendable : (rep : TgsRep) → Fits tgs_rep_layout (2 ^ 24) rep → IsSendable rep.0
unfolding tgs_rep tgs_rep_row
tgs_rep_sendable rep fits = kdc_rep_sendable 0x6d rep.0 fits.complete fits.short

-- what was granted can be sent on
pub as_rep_granted : (protocol : NetworkProtocol) (reply : Result (List ℕ) NetFault) (answer : Result AsRep Cause) → Answers (Grants protocol as_rep_layout reply) answer → IfOk answer (λ rep. IsSendable rep.0)
as_rep_granted protocol reply (Ok rep) h = as_rep_sendable rep (granted_fits protocol as_rep_layout reply rep h)
as_rep_granted protocol reply (Err e) h = tt

-- so can an AS-REP that came at once
pub as_rep_replied : (protocol : NetworkProtocol) (reply : Result (List ℕ) NetFault) (answer : Result (KrbResult AsRep) Cause) → Answers (Replies protocol as_rep_layout reply) answer
    → IfOk answer IsSendableReply
as_rep_replied protocol reply (Ok (Reply rep)) h = as_rep_sendable rep (replied_fits protocol as_rep_layout reply rep (h.so (λ z. absurd cc)))
as_rep_replied protocol reply (Ok (Refusal error)) h = tt
as_rep_replied protocol reply (Err e) h = tt

pub tgs_rep_granted : (protocol : NetworkProtocol) (reply : Result (List ℕ) NetFault) (answer : Result TgsRep Cause) → Answers (Grants protocol tgs_rep_layout reply) answer → IfOk answer (λ rep. IsSendable rep.0)
tgs_rep_granted protocol reply (Ok rep) h = tgs_rep_sendable rep (granted_fits protocol tgs_rep_layout reply rep h)
tgs_rep_granted protocol reply (Err e) h = tt
