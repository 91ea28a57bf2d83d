-- The key at the end of an initiation has its origin in the replies that led to it.
use Rattle.std.proofs.Common.{◌≡◌, ℕ, ◌+◌, true, false, List, [], ◌∷◌, ◌++◌, length, Some, None, Result, Ok, refl, sym, ap, ◌∙◌, subst, arith, length-append}
use Rattle.std.specs.Prelude.{is_some}
use Rattle.std.proofs.lemmas.List.{length-map}
use Rattle.krb_exchange.specs.declared.kdc_rep.TgsRep.{TgsRep}
use Rattle.sspi_generator.specs.declared.network.NetFault.{NetFault}
use Rattle.krb_as.specs.declared.done.InitDone.{InitDone}
use Rattle.krb_context.specs.Rules.{no_rules, has_rule, no_preauthentication}
use Rattle.krb_context.specs.declared.rules.Rules.{Rules}
use Rattle.krb_replies.specs.declared.facts.ReplyFacts.{ReplyFacts}
use Rattle.krb_tgs.specs.Chain.{IsChain}
use Rattle.krb_tgs.specs.Fresh.{referral_of}
use Rattle.krb_initiator.specs.Came.{AreGranted, GrantsFirst, NamesFirst, LeaveSalt, is_referral}
use Rattle.krb_initiator.specs.declared.seeker.Seeker.{Seeker}
use Rattle.krb_laws_origin.specs.Origins.{handed, LeavesSalt, LeadTo}
use Rattle.krb_laws_origin.proofs.PhaseLemmas.{LedToEnd, granted_length}

abbrev Answer : Type 0
Answer = Result (List ℕ) NetFault

-- the replies of a chain are octets that the network brought
pub record AreHanded (replies : List (List ℕ)) (error first : Answer) (rest : List Answer) : Type 0 where
  pub error_octets : List ℕ
  pub first_octets : List ℕ
  pub rest_octets : List (List ℕ)
  pub are : replies ≡ error_octets ∷ first_octets ∷ rest_octets
  pub error_is : error ≡ Ok error_octets
  pub first_is : first ≡ Ok first_octets
  pub rest_is : rest ≡ handed rest_octets

are_handed : (replies : List (List ℕ)) (error first : Answer) (rest : List Answer) → handed replies ≡ error ∷ first ∷ rest → AreHanded replies error first rest
are_handed [] error first rest e = absurd cc
are_handed (x ∷ []) error first rest e = absurd cc
are_handed (x ∷ y ∷ replies) error first rest e =
    record { error_octets = x; first_octets = y; rest_octets = replies; are = refl; error_is = cc; first_is = cc; rest_is = cc }

-- the key at the end of an initiation
pub record EndsWith (seeker : Seeker) (replies : List (List ℕ)) (done : InitDone) : Type 0 where
  pub key : List ℕ
  pub key_is : done.change.encryption_params.session_key ≡ Some key
  pub lead : LeadTo seeker.asker.credentials replies key

leaves : (seeker : Seeker) (error : Answer) (octets salt : List ℕ) → error ≡ Ok octets → NamesFirst seeker error salt → LeavesSalt seeker.asker.credentials octets salt
leaves seeker error octets salt is h =
    let named : NamesFirst seeker (Ok octets) salt = subst (λ (a : Answer). NamesFirst seeker a salt) is h in
    record { protocol = named.protocol; named = named.named }

-- without rules, an error came before the AS-REP
pub record CameError (seeker : Seeker) (before : List Answer) (salt : List ℕ) : Type 0 where
  pub error : Answer
  pub are : before ≡ error ∷ []
  pub names : NamesFirst seeker error salt

came_error : (seeker : Seeker) (before : List Answer) (salt : List ℕ) → seeker.asker.rules ≡ no_rules → LeaveSalt seeker before salt → CameError seeker before salt
came_error seeker [] salt set h = let may : false ≡ true = sym (ap (λ (o : Rules). has_rule o no_preauthentication) set) ∙ h.0 in absurd cc
came_error seeker (error ∷ []) salt set h = record { error = error; are = refl; names = h }
came_error seeker (error ∷ (more ∷ rest)) salt set h = absurd h

-- without rules, a ticket that is no referral is recognized by its clear-text name
no_referral : (rules : Rules) (target : List ℕ) (facts : ReplyFacts) (rep : TgsRep) → rules ≡ no_rules → referral_of rules target facts rep.0 ≡ None → is_referral rep ≡ false
no_referral rules target facts rep set none = ap is_some (subst (λ (o : Rules). referral_of o target facts rep.0 ≡ None) set none)

pub ends_with : (seeker : Seeker) (replies : List (List ℕ)) (done : InitDone) → seeker.asker.rules ≡ no_rules → LedToEnd seeker replies done → EndsWith seeker replies done
ends_with seeker replies done set led =
    let session = led.session in
    let has = session.has in
    let came = came_error seeker has.before has.salt set has.leave in
    let octets = are_handed replies came.error has.first has.rest (has.are ∙ ap (λ (b : List Answer). b ++ (has.first ∷ has.rest)) came.are) in
    let granted : AreGranted (handed octets.rest_octets) (session.referrals ++ (session.last ∷ [])) = subst (λ (r : List Answer). AreGranted r (session.referrals ++ (session.last ∷ []))) octets.rest_is has.granted in
    let all = ap length octets.are in
    let rest : length has.rest ≡ length (session.referrals ++ (session.last ∷ [])) = granted_length has.rest (session.referrals ++ (session.last ∷ [])) has.granted in
    let mapped : length has.rest ≡ length octets.rest_octets = ap length octets.rest_is ∙ length-map octets.rest_octets (λ (o : List ℕ). Ok o) in
    let tail : length (session.referrals ++ (session.last ∷ [])) ≡ length session.referrals + 1 = length-append session.referrals (session.last ∷ []) in
    let few = led.few in
    record {
      key = session.key;
      key_is = session.session_key;
      lead = record {
        error = octets.error_octets;
        first = octets.first_octets;
        rest = octets.rest_octets;
        are = octets.are;
        salt = has.salt;
        leaves = leaves seeker came.error octets.error_octets has.salt octets.error_is came.names;
        as_rep = has.as_rep;
        grants = subst (λ (a : Answer). GrantsFirst a has.as_rep) octets.first_is has.grants;
        referrals = session.referrals;
        last = session.last;
        granted = granted;
        few = omega (arith, all, rest, mapped, tail, few);
        are_referrals = session.are_referrals;
        is_service = no_referral seeker.asker.rules seeker.wanted.target has.facts session.last set session.is_service;
        suite = session.suite;
        facts = has.facts;
        chain =
            subst (λ (o : Rules). IsChain o seeker.asker.credentials has.salt has.as_rep (session.referrals ++ (session.last ∷ [])) (record { suite = session.suite; key = session.key; facts = has.facts }))
            set has.chain;
      };
    }
