-- A chain of replies goes on by one at its end, with what a reply brought.
use Rattle.std.proofs.Common.{◌≡◌, refl, sym, subst, ap, ◌∙◌, ℕ, List, [], ◌∷◌, ◌++◌, Ok, Result}
use Rattle.krb_crypto.specs.declared.suite.CipherSuite.{CipherSuite}
use Rattle.krb_exchange.specs.declared.kdc_rep.AsRep.{AsRep}
use Rattle.krb_exchange.specs.declared.kdc_rep.TgsRep.{TgsRep}
use Rattle.sspi_core.specs.declared.cause.Cause.{Cause}
use Rattle.sspi_core.specs.Checks.{Gives}
use Rattle.sspi_generator.specs.declared.network.NetFault.{NetFault}
use Rattle.sspi_core.specs.declared.identity.CredentialsBuffers.{CredentialsBuffers}
use Rattle.krb_context.specs.declared.rules.Rules.{Rules}
use Rattle.krb_context.specs.Rules.{no_rules, has_rule, fresh_replies}
use Rattle.krb_exchange.specs.declared.kdc_rep.KdcRep.{KdcRep}
use Rattle.krb_replies.specs.Fresh.{AskedFor}
use Rattle.krb_replies.specs.declared.keys.ReplyKey.{ReplyKey}
use Rattle.krb_replies.specs.Keys.{BringsNext}
use Rattle.krb_replies.proofs.Suites.{next_keeps}
use Rattle.sspi_core.proofs.Chain.{passed, gave}
use Rattle.krb_exchange.specs.Layouts.{tgs_rep_layout}
use Rattle.krb_as.specs.Replied.{Grants}
use Rattle.krb_as.specs.ReplyKeys.{TakesReplyKey}
use Rattle.krb_as.specs.declared.kdc.Kdc.{Kdc}
use Rattle.krb_as.specs.declared.key.Grant.{Grant}
use Rattle.krb_tgs.specs.declared.fresh.TgsQuestion.{TgsQuestion}
use Rattle.krb_tgs.specs.Fresh.{AnswersTgsReq}
use Rattle.krb_tgs.specs.Taken.{BringsFresh, TakesTgsRep}
use Rattle.krb_tgs.specs.Chain.{HandsOn, IsChain}

module _ (rules : Rules) (reply : TgsRep) (middle last : ReplyKey) (opened : BringsNext rules middle.suite middle.key reply (Ok last)) where
  pub one_more : (shown : ReplyKey) (replies : List TgsRep) → HandsOn rules shown replies middle → HandsOn rules shown (replies ++ (reply ∷ [])) last
  one_more shown [] h = (last, subst (λ (k : ReplyKey). BringsNext rules k.suite k.key reply (Ok last)) (sym h) opened, refl)
  one_more shown (first ∷ replies) h = (h.0, h.1, one_more h.0 replies h.2)

-- the key of an AS-REP is a chain without TGS-REPs
pub chain_begins : (rules : Rules) (credentials : CredentialsBuffers) (used : List ℕ) (as_rep : AsRep) (start : ReplyKey)
    → TakesReplyKey rules credentials used as_rep (Ok start) → IsChain rules credentials used as_rep [] start
chain_begins rules credentials used as_rep start h = record { start = start; begins = h; hands_on = refl }

-- and goes on with each TGS-REP that is opened under its last key
pub chain_goes_on : (rules : Rules) (credentials : CredentialsBuffers) (used : List ℕ) (as_rep : AsRep) (replies : List TgsRep) (reply : TgsRep) (middle last : ReplyKey)
    → IsChain rules credentials used as_rep replies middle → BringsNext rules middle.suite middle.key reply (Ok last)
    → IsChain rules credentials used as_rep (replies ++ (reply ∷ [])) last
chain_goes_on rules credentials used as_rep replies reply middle last chain opened =
    record { start = chain.start; begins = chain.begins; hands_on = one_more rules reply middle last opened chain.start replies chain.hands_on }

-- without rules one suite goes through the whole of it
pub hands_on_suite : (shown : ReplyKey) (replies : List TgsRep) (last : ReplyKey) → HandsOn no_rules shown replies last → last.suite ≡ shown.suite
hands_on_suite shown [] last h = ap (λ (k : ReplyKey). k.suite) (sym h)
hands_on_suite shown (reply ∷ replies) last h = hands_on_suite h.0 replies last h.2 ∙ next_keeps shown.suite shown.key reply h.0 h.1

-- the key that a ticket came with
abbrev pub key_of : Grant → ReplyKey
key_of shown = record { suite = shown.suite; key = shown.key; facts = shown.facts }

-- what was taken from a TGS-REP: the key that it hands on
pub record TgsTaken (rules : Rules) (target : List ℕ) (question : TgsQuestion) (moment : ℕ) (kdc : Kdc) (suite : CipherSuite) (key : List ℕ) (reply : Result (List ℕ) NetFault) (shown : Grant) : Type 0 where
  pub rep : TgsRep
  pub granted : Grants kdc.protocol tgs_rep_layout reply (Ok rep)
  pub opened : BringsNext rules suite key rep (Ok (key_of shown))
  pub fresh : AskedFor (has_rule rules fresh_replies) (AnswersTgsReq target kdc.realm question moment shown.rep shown.facts) (Ok tt)
  pub brought : shown.rep ≡ rep.0

tgs_given : (next : ReplyKey) (rep : TgsRep) (shown : Grant) → Gives {E = Cause} (record { suite = next.suite; key = next.key; facts = next.facts; rep = rep.0 }) (Ok shown)
    → shown ≡ record { suite = next.suite; key = next.key; facts = next.facts; rep = rep.0 }
tgs_given next rep shown h = gave _ _ h

pub taken_tgs : (rules : Rules) (target : List ℕ) (question : TgsQuestion) (moment : ℕ) (kdc : Kdc) (suite : CipherSuite) (key : List ℕ)
    (reply : Result (List ℕ) NetFault) (shown : Grant)
    → TakesTgsRep rules target question moment kdc suite key reply (Ok shown) → TgsTaken rules target question moment kdc suite key reply shown
unfolding TakesTgsRep BringsFresh
taken_tgs rules target question moment kdc suite key reply shown h =
    let rep = passed _ _ _ h in
    let next = passed _ _ _ rep.rest_held in
    let is = tgs_given next.found rep.found shown next.rest_held in
    let own = passed _ _ _ next.first_held in
    let answers = passed _ _ _ own.rest_held in
    let same : key_of shown ≡ own.found = ap (λ (s : Grant). key_of s) is ∙ gave _ _ answers.rest_held in
    record {
      rep = rep.found;
      granted = rep.first_held;
      opened = subst (λ (k : ReplyKey). BringsNext rules suite key rep.found (Ok k)) (sym same) own.first_held;
      fresh =
          subst (λ (r : KdcRep). AskedFor (has_rule rules fresh_replies) (AnswersTgsReq target kdc.realm question moment r shown.facts) (Ok tt)) (sym (ap (λ (s : Grant). s.rep) is))
          (subst (λ (k : ReplyKey). AskedFor (has_rule rules fresh_replies) (AnswersTgsReq target kdc.realm question moment rep.found.0 k.facts) (Ok tt)) (sym same) answers.first_held);
      brought = ap (λ (s : Grant). s.rep) is;
    }
