-- The grants of a KDC answer the requests.
use Rattle.std.proofs.Common.{◌≡◌, ℕ, ◌+◌, ◌*◌, ◌/◌, ◌^◌, ℤ, pos, ◌-ℤ◌, Bool, true, false, List, [], ◌∷◌, length, drop, Some, None, refl, sym, subst, ap, ◌∙◌, arith, Ok, length-drop, nat_lt, int_lt, get_or, if◌then◌else◌}
use Rattle.std.specs.Prelude.{◌==◌, ◌&&◌, ◌||◌, not, is_some, bytes_eq}
use Rattle.std.specs.Int.{w32, from_be_bytes}
use Rattle.std.specs.Ordering.{int_eq}
use Rattle.std.specs.Cmp.{unsigned_Decides}
use Rattle.std.specs.Cmp.Lexicographic.{pointwise, pointwise_decides}
use Rattle.std.proofs.lemmas.Bool.{le-ltb, and_from, or_left, or_right}
use Rattle.std.proofs.lemmas.List.{length-take}
use Rattle.krb_der.specs.Integer.{integer_value}
use Rattle.krb_der.specs.Reading.{number_of}
use Rattle.krb_messages.specs.declared.enc_ticket_part.EncTicketPart.{EncTicketPart}
use Rattle.krb_messages.specs.declared.principal_name.PrincipalName.{PrincipalName}
use Rattle.krb_exchange.specs.declared.kdc_rep.KdcRep.{KdcRep}
use Rattle.krb_exchange.specs.declared.kdc_req.KdcReqBody.{KdcReqBody}
use Rattle.krb_context.proofs.PlaceLemmas.{int_eq-same}
use Rattle.krb_context.specs.Rules.{has_rule, fresh_replies}
use Rattle.krb_context.specs.declared.rules.Rules.{Rules}
use Rattle.krb_crypto.specs.declared.suite.CipherSuite.{CipherSuite}
use Rattle.sspi_core.specs.declared.cause.Cause.TheVariants.{Nonce, ReplyNames, ReplyTime}
use Rattle.sspi_core.specs.declared.draw.Draw.{Draw}
use Rattle.sspi_core.proofs.Chain.{follows, holds_true}
use Rattle.krb_replay.specs.Clock.{in_microseconds, is_later}
use Rattle.krb_replies.specs.Fresh.{grace, is_number, has_value, repeats_nonce, is_valid_at, same_components, AnswersRequest}
use Rattle.krb_replies.specs.Keys.{facts_in}
use Rattle.krb_replies.specs.Realms.{referral_realm}
use Rattle.krb_replies.specs.declared.facts.ReplyFacts.{ReplyFacts}
use Rattle.krb_requests.specs.Pieces.{principal as name_with, three_days_after, whole_second}
use Rattle.krb_as.specs.Fresh.{is_asked, is_alias, names_client, names_service, AnswersAsReq}
use Rattle.krb_tgs.specs.declared.fresh.TgsQuestion.{TgsQuestion}
use Rattle.krb_tgs.specs.declared.wanted.Wanted.{Wanted}
use Rattle.krb_tgs.specs.Fresh.{question_of, names_client as names_holder, names_service as names_target, is_for_target, referral_of, AnswersTgsReq}
use Rattle.krb_tgs.specs.TgsAsked.{drawn_nonce, service_of}
use Rattle.krb_laws_ends.specs.Answers.{IsDraw}
use Rattle.krb_laws_ends.proofs.HonestLemmas.{same_octets}
use Rattle.krb_kdc.specs.declared.grant.Grant.{Grant}
use Rattle.krb_kdc.specs.declared.kdc.Kdc.{Kdc}
use Rattle.krb_kdc.specs.declared.kdc.Principal.{Principal}
use Rattle.krb_kdc.specs.declared.tgs_req.Target.{Target}
use Rattle.krb_kdc.specs.Answering.{first_grant, next_grant}
use Rattle.krb_kdc.specs.Clocks.{earlier, ten_hours_after, asks_latest, granted_end}
use Rattle.krb_kdc.specs.Grants.{reply_part, ticket, as_rep, tgs_rep}
use Rattle.krb_kdc.specs.Requests.{granting}
use Rattle.krb_laws_kdc.specs.Asking.{AreNear, AsksFirst, client_with}
use Rattle.krb_laws_kdc.specs.Fetching.{body_at}
use Rattle.krb_laws_kdc.specs.Granting.{IsValidAt, IsFirstAnswer, IsNextAnswer}

-- ---- the nonce

-- four octets have the number that they are, or that number less 2^32
module _ (a b c d : ℕ) where
  abbrev four : List ℕ
  four = a ∷ b ∷ c ∷ d ∷ []

  same_number : number_of four ≡ from_be_bytes w32 four
  same_number = omega arith

  by_first_bit : (high : Bool)
      → (int_eq (if high then pos (number_of four) else pos (number_of four) -ℤ pos (2 ^ 32)) (pos (from_be_bytes w32 four))
      || int_eq (if high then pos (number_of four) else pos (number_of four) -ℤ pos (2 ^ 32)) (pos (from_be_bytes w32 four) -ℤ pos (2 ^ 32)))
      ≡ true
  by_first_bit true =
      or_left (int_eq (pos (number_of four)) (pos (from_be_bytes w32 four))) (int_eq (pos (number_of four)) (pos (from_be_bytes w32 four) -ℤ pos (2 ^ 32)))
      (int_eq-same (pos (number_of four)) (pos (from_be_bytes w32 four)) (ap pos same_number))
  by_first_bit false =
      or_right (int_eq (pos (number_of four) -ℤ pos (2 ^ 32)) (pos (from_be_bytes w32 four)))
      (int_eq (pos (number_of four) -ℤ pos (2 ^ 32)) (pos (from_be_bytes w32 four) -ℤ pos (2 ^ 32)))
      (int_eq-same (pos (number_of four) -ℤ pos (2 ^ 32)) (pos (from_be_bytes w32 four) -ℤ pos (2 ^ 32)) (ap (λ (n : ℕ). pos n -ℤ pos (2 ^ 32)) same_number))

  has_its_value : has_value (from_be_bytes w32 four) four ≡ true
  has_its_value = by_first_bit (nat_lt a 0x80)

pub value_is : (nonce : List ℕ) → length nonce ≡ 4 → has_value (from_be_bytes w32 nonce) nonce ≡ true
value_is [] size = absurd (omega (arith, size))
value_is (a ∷ []) size = absurd (omega (arith, size))
value_is (a ∷ (b ∷ [])) size = absurd (omega (arith, size))
value_is (a ∷ (b ∷ (c ∷ []))) size = absurd (omega (arith, size))
value_is (a ∷ (b ∷ (c ∷ (d ∷ [])))) size = has_its_value a b c d
value_is (a ∷ (b ∷ (c ∷ (d ∷ (e ∷ rest))))) size = absurd (omega (arith, size))

nonce_is_repeated : (nonce : List ℕ) (facts : ReplyFacts) → length nonce ≡ 4 → facts.nonce ≡ nonce → repeats_nonce nonce facts ≡ true
nonce_is_repeated [] facts size is = absurd (omega (arith, size))
nonce_is_repeated (a ∷ []) facts size is = absurd (omega (arith, size))
nonce_is_repeated (a ∷ (b ∷ [])) facts size is = absurd (omega (arith, size))
nonce_is_repeated (a ∷ (b ∷ (c ∷ []))) facts size is = absurd (omega (arith, size))
nonce_is_repeated (a ∷ (b ∷ (c ∷ (d ∷ [])))) facts size is =
    ap (has_value (from_be_bytes w32 (a ∷ b ∷ c ∷ d ∷ []))) is ∙ has_its_value a b c d
nonce_is_repeated (a ∷ (b ∷ (c ∷ (d ∷ (e ∷ rest))))) facts size is = absurd (omega (arith, size))

-- ---- the names

same_parts : (xs : List (List ℕ)) → same_components xs xs ≡ true
same_parts [] = refl
same_parts (x ∷ xs) = and_from (pointwise ◌==◌ x x) (same_components xs xs) (same_octets x) (same_parts xs)

-- ---- the time

both_not : (a b : Bool) → a ≡ false → b ≡ false → (not a && not b) ≡ true
both_not true b e f = absurd cc
both_not false true e f = absurd cc
both_not false false e f = refl

-- ---- a reply answers the request where the grant does

module _ (suite : CipherSuite) (realm nonce : List ℕ) (draw : Draw) (grant : Grant) (moment : ℕ) where
  valid : IsValidAt moment draw grant → is_valid_at moment (facts_in (reply_part suite realm draw nonce grant)) ≡ true
  unfolding reply_part
  valid v =
      both_not (is_later (in_microseconds (whole_second draw.moment)) (pos moment) grace) (is_later (pos moment) (in_microseconds grant.endtime) grace) v.begun v.lives

  pub answers_as_req : (key : List ℕ) (body : KdcReqBody) → IsFirstAnswer body moment realm nonce draw grant
      → AnswersAsReq body moment (as_rep suite realm draw nonce key grant).0 (facts_in (reply_part suite realm draw nonce grant)) (Ok tt)
  unfolding AnswersRequest as_rep reply_part
  answers_as_req key body a =
      let facts : ReplyFacts = facts_in (reply_part suite realm draw nonce grant) in
      let rep : KdcRep = (as_rep suite realm draw nonce key grant).0 in
      let size : length body.nonce ≡ 4 = sym (ap length a.nonce_is) ∙ a.nonce_size in
      let client : names_client body rep ≡ true =
      and_from (bytes_eq grant.crealm body.realm) (is_alias body.cname || is_asked body.cname grant.cname)
      (ap (λ (r : List ℕ). bytes_eq r body.realm) a.crealm_is ∙ same_octets body.realm)
      (or_right (is_alias body.cname) (is_asked body.cname grant.cname)
      (ap (λ n. is_asked n grant.cname) a.cname_is ∙ same_parts grant.cname.name_string)) in
      let service : names_service body facts ≡ true =
      and_from (bytes_eq realm body.realm) (is_asked body.sname grant.sname)
      (ap (λ (r : List ℕ). bytes_eq r body.realm) a.realm_is ∙ same_octets body.realm)
      (ap (λ n. is_asked n grant.sname) a.sname_is ∙ same_parts grant.sname.name_string) in
      follows _ _ tt _ (holds_true Nonce (repeats_nonce body.nonce facts) (nonce_is_repeated body.nonce facts size a.nonce_is))
      (follows _ _ tt _ (holds_true ReplyNames (names_client body rep && names_service body facts) (and_from (names_client body rep) (names_service body facts) client service))
      (holds_true ReplyTime (is_valid_at moment facts) (valid a.valid)))

  -- the name is that of the target, or that of a realm's ticket-granting service
  pub answers_tgs_req : (key target asked : List ℕ) (question : TgsQuestion) → IsNextAnswer question asked moment realm nonce draw grant
      → (is_some (referral_realm grant.sname) || same_components grant.sname.name_string (service_of target)) ≡ true
      → AnswersTgsReq target asked question moment (tgs_rep suite realm draw nonce key grant).0 (facts_in (reply_part suite realm draw nonce grant)) (Ok tt)
  unfolding AnswersRequest tgs_rep ticket reply_part
  answers_tgs_req key target asked question a named =
      let facts : ReplyFacts = facts_in (reply_part suite realm draw nonce grant) in
      let rep : KdcRep = (tgs_rep suite realm draw nonce key grant).0 in
      let client : names_holder question rep ≡ true =
      and_from (bytes_eq grant.crealm question.crealm) (same_components grant.cname.name_string question.cname.name_string)
      (ap (λ (r : List ℕ). bytes_eq r question.crealm) a.crealm_is ∙ same_octets question.crealm)
      (ap (λ (n : PrincipalName). same_components n.name_string question.cname.name_string) a.cname_is ∙ same_parts question.cname.name_string) in
      let same : Bool = same_components grant.sname.name_string grant.sname.name_string in
      let service : names_target target asked rep facts ≡ true =
      and_from (bytes_eq realm asked && same) (is_some (referral_realm grant.sname) || same_components grant.sname.name_string (service_of target))
      (and_from (bytes_eq realm asked) same (ap (λ (r : List ℕ). bytes_eq r asked) a.realm_is ∙ same_octets asked) (same_parts grant.sname.name_string)) named in
      follows _ _ tt _ (holds_true Nonce (has_value question.nonce facts.nonce) (ap (λ (n : ℕ). has_value n nonce) a.nonce_is ∙ value_is nonce a.nonce_size))
      (follows _ _ tt _ (holds_true ReplyNames (names_holder question rep && names_target target asked rep facts) (and_from (names_holder question rep) (names_target target asked rep facts) client service))
      (holds_true ReplyTime (is_valid_at moment facts) (valid a.valid)))

-- the components of a name that is the target's
pub target_named : (name : PrincipalName) (target : List ℕ) → name ≡ name_with 2 (service_of target)
    → (is_some (referral_realm name) || same_components name.name_string (service_of target)) ≡ true
target_named name target is =
    or_right (is_some (referral_realm name)) (same_components name.name_string (service_of target))
    (ap (λ (n : PrincipalName). same_components n.name_string (service_of target)) is ∙ same_parts (service_of target))

-- ---- what a ticket refers to

-- a referral to a realm is no ticket for the target, so the client goes on
pub goes_on : (rules : Rules) (target : List ℕ) (facts : ReplyFacts) (rep : KdcRep) (realm : List ℕ) → referral_realm rep.ticket.sname ≡ Some realm
    → (has_rule rules fresh_replies ≡ true → is_for_target target facts ≡ false) → referral_of rules target facts rep ≡ Some realm
goes_on rules target facts rep realm refers other = go (has_rule rules fresh_replies) other ∙ refers
  where
    go : (fresh : Bool) → (fresh ≡ true → is_for_target target facts ≡ false)
        → (if fresh && is_for_target target facts then None else referral_realm rep.ticket.sname) ≡ referral_realm rep.ticket.sname
    go true o = ap (λ (b : Bool). if b then None else referral_realm rep.ticket.sname) (o refl)
    go false o = refl

-- and the ticket of a service that is not called as the ticket-granting service is refers nowhere
pub goes_nowhere : (rules : Rules) (target : List ℕ) (facts : ReplyFacts) (rep : KdcRep) → referral_realm rep.ticket.sname ≡ None → referral_of rules target facts rep ≡ None
goes_nowhere rules target facts rep none = go (has_rule rules fresh_replies && is_for_target target facts)
  where
    go : (b : Bool) → (if b then None else referral_realm rep.ticket.sname) ≡ None
    go true = refl
    go false = none

-- such a service has not the components of a ticket-granting service's name
pub not_granting : (realm : List ℕ) (service : List (List ℕ)) → referral_realm (name_with 2 service) ≡ None → same_components (granting realm) service ≡ false
unfolding referral_realm
not_granting realm service none = go (same_components (granting realm) service) refl
  where
    go : (b : Bool) → same_components (granting realm) service ≡ b → b ≡ false
    go false e = refl
    go true e =
        let is : granting realm ≡ service = (pointwise_decides (pointwise_decides unsigned_Decides) (granting realm) service).0 e in
        let refers : referral_realm (name_with 2 (granting realm)) ≡ None = subst (λ (s : List (List ℕ)). referral_realm (name_with 2 s) ≡ None) (sym is) none in
        absurd cc

-- ---- a KDC's grants answer what was asked

-- what holds of both times holds of the earlier one
granted_has : (P : ℤ → Type 0) (till : ℤ) (moment : ℕ) → P till → P (ten_hours_after moment) → P (granted_end till moment)
granted_has P till moment x y = go (asks_latest till)
  where
    pick : (a b : ℤ) (c : Bool) → P a → P b → P (if c then b else a)
    pick a b true x y = y
    pick a b false x y = x

    go : (c : Bool) → P (if c then ten_hours_after moment else earlier till (ten_hours_after moment))
    go true = y
    go false = pick till (ten_hours_after moment) (int_lt (ten_hours_after moment) till) x y

earlier_has : (P : ℤ → Type 0) (a b : ℤ) → P a → P b → P (earlier a b)
earlier_has P a b x y = go (int_lt b a)
  where
    go : (c : Bool) → P (if c then b else a)
    go true = y
    go false = x

-- the moment is no later than the end, by more than the grace
abbrev pub Outlives : ℕ → ℤ → Type 0
Outlives later end = is_later (pos later) (in_microseconds end) grace ≡ false

module _ (moment later : ℕ) (draw : Draw) (near : AreNear grace moment draw.moment) (near_later : AreNear grace later draw.moment) where
  has_begun : is_later (in_microseconds (whole_second draw.moment)) (pos later) grace ≡ false
  has_begun = le-ltb (later + grace * 1000000) (draw.moment / 1000000 * 1000000) (omega (arith, near_later.down))

  three_days : Outlives later (three_days_after moment)
  three_days = le-ltb ((moment / 1000000 + 259200) * 1000000 + grace * 1000000) later (omega (arith, near.down, near_later.up))

  ten_hours : Outlives later (ten_hours_after draw.moment)
  ten_hours = le-ltb ((draw.moment / 1000000 + 36000) * 1000000 + grace * 1000000) later (omega (arith, near_later.up))

  granted_outlives : Outlives later (granted_end (three_days_after moment) draw.moment)
  granted_outlives = granted_has (Outlives later) (three_days_after moment) draw.moment three_days ten_hours

  pub first_answer : (kdc : Kdc) (name : PrincipalName) (principal : Principal) (body : KdcReqBody) → AsksFirst kdc name principal moment body → length body.nonce ≡ 4
      → IsFirstAnswer body later kdc.realm body.nonce draw (first_grant kdc draw.moment body (client_with kdc name principal))
  first_answer kdc name principal body asks size = record {
    nonce_is = refl;
    nonce_size = size;
    realm_is = sym asks.realm;
    crealm_is = sym asks.realm;
    cname_is = asks.named;
    sname_is = asks.service;
    valid = record { begun = has_begun; lives = ap (λ (t : ℤ). is_later (pos later) (in_microseconds (granted_end t draw.moment)) grace) asks.till ∙ granted_outlives };
  }

nonce_size : (own : Draw) → IsDraw own → length (drawn_nonce own) ≡ 4
nonce_size own d = omega (arith, length-take 4 (drop 4 own.random), length-drop 4 own.random, d.size)

pub next_answer : (kdc : Kdc) (wanted : Wanted) (rep : KdcRep) (part : EncTicketPart) (own draw : Draw) (later : ℕ) (target : Target) → IsDraw own
    → AreNear grace own.moment draw.moment → AreNear grace later draw.moment → rep.crealm ≡ part.crealm → rep.cname ≡ part.cname → Outlives later part.endtime
    → (asked : List ℕ) → kdc.realm ≡ asked
    → IsNextAnswer (question_of rep own) asked later kdc.realm (drawn_nonce own) draw (next_grant draw.moment (body_at wanted kdc.realm own) part target)
next_answer kdc wanted rep part own draw later target d near near_later crealm cname outlives asked is = record {
  nonce_is = refl;
  nonce_size = nonce_size own d;
  realm_is = is;
  crealm_is = sym crealm;
  cname_is = sym cname;
  valid = record {
    begun = has_begun own.moment later draw near near_later;
    lives =
        earlier_has (Outlives later) (granted_end (three_days_after own.moment) draw.moment) part.endtime
        (granted_outlives own.moment later draw near near_later) outlives;
  };
}
