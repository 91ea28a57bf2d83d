-- The reply of a KDC to the TGS-REQ of a ticket's holder.
use Rattle.std.proofs.Common.{◌≡◌, ℕ, ◌+◌, ◌<◌, ◌≤◌, ◌^◌, pos, true, List, [], ◌∷◌, length, Option, Some, IfSome, refl, subst, ap, ◌∙◌, arith, lit<, lit≤, Ok, length-append}
use Rattle.std.specs.Prelude.{◌==◌, ◌&&◌, not}
use Rattle.std.specs.Cmp.Lexicographic.{pointwise}
use Rattle.std.proofs.lemmas.Bool.{and_from}
use Rattle.md5.specs.Md5.{md5}
use Rattle.krb_der.specs.Schema.{IsSound}
use Rattle.krb_der.proofs.Lengths.{length-tlv}
use Rattle.krb_der.specs.Layout.{spelling}
use Rattle.krb_crypto.specs.Sealed.{sealed, IsSealed}
use Rattle.krb_crypto.proofs.SealedLemmas.{is_sealed, plain_shorter}
use Rattle.krb_messages.specs.Table.{ap_req as ap_req_kind, encrypted_data}
use Rattle.krb_messages.specs.Layouts.{ap_req_row, ap_req_layout, authenticator_layout, encrypted_data_row, principal_name_layout}
use Rattle.krb_messages.specs.Frame.{with_length}
use Rattle.krb_messages.specs.declared.ap_req.ApReq.{ApReq}
use Rattle.krb_messages.specs.declared.authenticator.Authenticator.{Authenticator}
use Rattle.krb_messages.specs.declared.enc_ticket_part.EncTicketPart.{EncTicketPart}
use Rattle.krb_messages.specs.declared.principal_name.PrincipalName.{PrincipalName}
use Rattle.krb_messages.specs.declared.ticket.Ticket.{Ticket}
use Rattle.krb_exchange.specs.Table.{tgs_req as tgs_req_kind, kdc_req, pa_data}
use Rattle.krb_exchange.specs.Layouts.{tgs_req_row, tgs_req_layout, tgs_rep_layout, kdc_req_row, kdc_req_body_layout, pa_data_row}
use Rattle.krb_exchange.specs.declared.kdc_req.KdcReqBody.{KdcReqBody}
use Rattle.krb_exchange.specs.declared.kdc_req.TgsReq.{TgsReq}
use Rattle.sspi_core.specs.declared.cause.Cause.TheVariants.{Kdc as Code}
use Rattle.sspi_core.specs.declared.draw.Draw.{Draw}
use Rattle.sspi_core.proofs.Chain.{follows, gives, takes_some, holds_true}
use Rattle.krb_replay.specs.Clock.{in_microseconds, is_later}
use Rattle.krb_requests.specs.Pieces.{Fits}
use Rattle.krb_authenticators.specs.ApRequests.{ap_req, tgs_usage}
use Rattle.krb_authenticators.specs.TgsRequests.{over, pa_tgs_req, tgs_req}
use Rattle.krb_laws_ends.proofs.HonestLemmas.{spells_itself, same_octets, suite_of_integer-number}
use Rattle.krb_kdc.specs.declared.kdc.Kdc.{Kdc}
use Rattle.krb_kdc.specs.declared.request.Asked.TheVariants.{Next}
use Rattle.krb_kdc.specs.declared.tgs_req.Target.{Target}
use Rattle.krb_kdc.specs.Answering.{next_grant, FindsWish, Answers}
use Rattle.krb_kdc.specs.Clocks.{is_near, ends_after}
use Rattle.krb_kdc.specs.Grants.{tgs_rep}
use Rattle.krb_kdc.specs.Registers.{same_text}
use Rattle.krb_kdc.specs.Requests.{IsMessage, takes_suite}
use Rattle.krb_kdc.specs.TgsChecks.{is_same_client, is_over, OpensShown, OpensHolder, ChecksHolder, ShowsHolder, ShowsPart, ShowsIn, ShowsTicket, asks_own_key, target_of, ticket_key, FindsTarget}
use Rattle.krb_kdc.proofs.OnceLemmas.{answers_once}
use Rattle.krb_kdc.proofs.RequestLengths.{tgs_req_short}
use Rattle.krb_laws_kdc.specs.Asking.{AreNear, IsFairSkew}
use Rattle.krb_laws_kdc.specs.Showing.{OpensAtKdc, IsHolder, AsksNext}
use Rattle.krb_laws_kdc.proofs.AsLemmas.{message_read, suite_taken}
use Rattle.krb_laws_kdc.proofs.ClockLemmas.{till_after, second_passes}

same_parts : (xs : List (List ℕ)) → pointwise (pointwise ◌==◌) xs xs ≡ true
same_parts [] = refl
same_parts (x ∷ xs) = and_from (pointwise ◌==◌ x x) (pointwise (pointwise ◌==◌) xs xs) (same_octets x) (same_parts xs)

same_client : (part : EncTicketPart) (authenticator : Authenticator) → authenticator.crealm ≡ part.crealm → authenticator.cname ≡ part.cname
    → is_same_client part authenticator ≡ true
same_client part authenticator realm name =
    and_from (pointwise ◌==◌ part.crealm authenticator.crealm) (pointwise ◌==◌ part.cname.name_type authenticator.cname.name_type
    && pointwise (pointwise ◌==◌) part.cname.name_string authenticator.cname.name_string)
    (ap (pointwise ◌==◌ part.crealm) realm ∙ same_octets part.crealm)
    (and_from (pointwise ◌==◌ part.cname.name_type authenticator.cname.name_type) (pointwise (pointwise ◌==◌) part.cname.name_string authenticator.cname.name_string)
    (ap (λ n. pointwise ◌==◌ part.cname.name_type n.name_type) name ∙ same_octets part.cname.name_type)
    (ap (λ n. pointwise (pointwise ◌==◌) part.cname.name_string n.name_string) name ∙ same_parts part.cname.name_string))

cipher_within : (m : ApReq) → length m.authenticator.cipher ≤ length (spelling ap_req_layout m)
unfolding ap_req_kind ap_req_row encrypted_data encrypted_data_row
cipher_within m = simp (length-tlv, length-append) (omega arith)

module _ (kdc : Kdc) (ticket : Ticket) (part : EncTicketPart) (moment : ℕ) (body : KdcReqBody) (authenticator : Authenticator) (confounder : List ℕ) (target : Target) (draw : Draw)
    (opens : OpensAtKdc kdc draw.moment ticket part) (holder : IsHolder part moment body authenticator confounder) (asks : AsksNext kdc moment body target)
    (fair : IsFairSkew kdc.skew) (near : AreNear kdc.skew moment draw.moment) where
  abbrev key : List ℕ
  key = part.key.key_value

  abbrev plain : List ℕ
  plain = spelling authenticator_layout (over body authenticator)

  abbrev message : ApReq
  message = ap_req kdc.suite key tgs_usage confounder 0 ticket (over body authenticator)

  abbrev request : TgsReq
  request = tgs_req kdc.suite key confounder ticket authenticator body

  message_sound : IsSound ap_req_layout.kind (ap_req_layout.view message)
  unfolding ap_req_kind ap_req_row encrypted_data encrypted_data_row
  message_sound = (lit< tt, (lit< tt, (lit≤ tt, (opens.sound, ((lit< tt, (tt, (tt, tt))), tt)))))

  request_sound : IsSound tgs_req_layout.kind (tgs_req_layout.view request)
  unfolding tgs_req_kind tgs_req_row kdc_req kdc_req_row pa_data pa_data_row
  request_sound = (lit< tt, (lit< tt, (((lit< tt, (tt, tt)), ((lit< tt, (tt, tt)), tt)), (asks.sound, tt))))

  module _ (short : length (spelling tgs_req_layout request) + 4 ≤ 2 ^ 24) where
    request_read : IsMessage tgs_req_layout (with_length (spelling tgs_req_layout request)) request
    request_read = message_read tgs_req_layout request request_sound short

    message_short : length (spelling ap_req_layout message) ≤ 2 ^ 24
    message_short = (tgs_req_short (with_length (spelling tgs_req_layout request)) request request_read).elements.0

    -- the service's name is no longer than the request
    pub sname_short : (name : PrincipalName) → body.sname ≡ Some name → length (spelling principal_name_layout name) ≤ 2 ^ 24
    sname_short name named =
        let fits = (tgs_req_short (with_length (spelling tgs_req_layout request)) request request_read).body.sname in
        (subst (λ (n : Option PrincipalName). IfSome n (Fits principal_name_layout (2 ^ 24))) named fits).short

    opens_holder : OpensHolder kdc message part (Ok (over body authenticator))
    opens_holder =
        let cipher : List ℕ = sealed kdc.suite key 7 confounder plain in
        let sealed_in : IsSealed kdc.suite key 7 cipher plain = is_sealed kdc.suite key 7 confounder plain holder.size holder.octets in
        let small : length plain < 2 ^ 31 = omega (arith, plain_shorter kdc.suite key 7 cipher plain sealed_in, cipher_within message, message_short) in
        record {
          is = record {
            etype = suite_of_integer-number kdc.suite;
            plain = plain;
            unsealed = record { key_fits = opens.fits; sealed = sealed_in };
            read = spells_itself authenticator_layout (over body authenticator) holder.sound small;
          };
        }

    checks_holder : ChecksHolder kdc draw.moment body part (over body authenticator) (Ok tt)
    unfolding ChecksHolder
    checks_holder =
        follows _ _ tt _ (holds_true (Code 36) (is_same_client part (over body authenticator)) (same_client part (over body authenticator) holder.same_realm holder.same_name))
        (follows _ _ tt _ (holds_true (Code 37) (is_near kdc.skew draw.moment (in_microseconds authenticator.ctime))
        (ap (λ t. is_near kdc.skew draw.moment (in_microseconds t)) holder.ctime ∙ second_passes kdc.skew moment draw.moment near))
        (follows _ _ tt _ (holds_true (Code 32) (not (is_later (pos draw.moment) (in_microseconds part.endtime) kdc.skew)) (ap not opens.lives))
        (holds_true (Code 41) (is_over (spelling kdc_req_body_layout body) (over body authenticator).cksum) (same_octets (md5 (spelling kdc_req_body_layout body))))))

    shows_ticket : ShowsTicket kdc draw.moment request.0 (Ok part)
    unfolding ShowsTicket ShowsIn ShowsPart ShowsHolder OpensShown
    shows_ticket =
        follows _ _ tt _ (holds_true (Code 68) (same_text body.realm kdc.realm) (ap (λ r. same_text r kdc.realm) asks.realm ∙ same_octets kdc.realm))
        (follows _ _ (pa_tgs_req message) _ (record { is = refl })
        (follows _ _ message _ (record { is = spells_itself ap_req_layout message message_sound (omega (arith, message_short)) })
        (follows _ _ part _ (follows _ _ opens.key _ (takes_some (Code 35) (ticket_key kdc ticket) opens.key opens.known) (record { is = opens.opened }))
        (follows _ _ tt _ (follows _ _ (over body authenticator) _ opens_holder checks_holder) (gives part)))))

    finds_target : FindsTarget kdc draw.moment body (Ok target)
    unfolding FindsTarget
    finds_target =
        follows _ _ tt _ (holds_true (Code 13) (not (asks_own_key body.kdc_options)) (ap not asks.alone))
        (follows _ _ tt _ (holds_true (Code 14) (takes_suite kdc.suite body.etype) (ap (takes_suite kdc.suite) asks.etype ∙ suite_taken kdc.suite))
        (follows _ _ tt _ (holds_true (Code 11) (ends_after body.till draw.moment) (ap (λ t. ends_after t draw.moment) asks.till ∙ till_after kdc.skew moment draw.moment fair near))
        (takes_some (Code 7) (target_of kdc body.sname) target asks.served)))

    finds_wish : FindsWish kdc draw.moment request.0 (Ok (record { part = part; target = target }))
    unfolding FindsWish
    finds_wish = follows _ _ part _ shows_ticket (follows _ _ target _ finds_target (gives _))

    pub served : (reply : List ℕ) → Answers kdc (with_length (spelling tgs_req_layout request)) draw reply
        → reply ≡ with_length (spelling tgs_rep_layout (tgs_rep kdc.suite kdc.realm draw body.nonce key (next_grant draw.moment body part target)))
    served reply answers = answers_once kdc draw _ _ _ answers (record {
      message = spelling tgs_rep_layout (tgs_rep kdc.suite kdc.realm draw body.nonce key (next_grant draw.moment body part target));
      replies = record {
        asked = Ok (Next request);
        read = record { is = request_read };
        answers = record { wish = Ok (record { part = part; target = target }); found = finds_wish; message_is = refl };
      };
      framed = refl;
    })
