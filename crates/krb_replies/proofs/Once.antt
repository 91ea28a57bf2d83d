-- A text that is sealed to a key has one plain text.
use Rattle.std.proofs.Common.{◌≡◌, ℕ, Bool, true, false, List, Result, ap}
use Rattle.std.specs.Prelude.{◌&&◌}
use Rattle.krb_der.specs.Layout.{Layout}
use Rattle.krb_crypto.proofs.SealedLemmas.{sealed_once}
use Rattle.krb_crypto.specs.declared.suite.CipherSuite.{CipherSuite}
use Rattle.krb_context.specs.declared.rules.Rules.{Rules}
use Rattle.krb_context.specs.Rules.{has_rule, as_rep_tagged_26, suite_of_each_key}
use Rattle.krb_exchange.specs.declared.kdc_rep.AsRep.{AsRep}
use Rattle.krb_exchange.specs.declared.kdc_rep.TgsRep.{TgsRep}
use Rattle.krb_exchange.specs.declared.enc_kdc_rep_part.EncAsRepPart.{EncAsRepPart}
use Rattle.krb_exchange.specs.declared.enc_kdc_rep_part.EncKdcRepPart.{EncKdcRepPart}
use Rattle.krb_exchange.specs.declared.enc_kdc_rep_part.EncTgsRepPart.{EncTgsRepPart}
use Rattle.krb_exchange.specs.Layouts.{enc_as_rep_part_layout, enc_tgs_rep_part_layout}
use Rattle.krb_exchange.proofs.Spelled.{same_record}
use Rattle.sspi_core.specs.declared.cause.Cause.{Cause}
use Rattle.sspi_core.proofs.Once.{Once, then_once, finds_once, takes_once, holds_once, gives_once}
use Rattle.krb_replies.specs.Keys.{is_tagged_26, IsFirstPart, OpensFirst, HasSuite, TakesKey, BringsFirst, BringsNext}
use Rattle.krb_replies.specs.Fresh.{AnswersRequest, AskedFor}
use Rattle.krb_replies.specs.Unseals.{Unseals, OpensSealed}
use Rattle.krb_replies.specs.declared.facts.ReplyFacts.{ReplyFacts}
use Rattle.krb_replies.specs.declared.unseal.Refusals.{Refusals}

unseals_once : (refusals : Refusals) (suite : CipherSuite) (key : List ℕ) (usage : ℕ) (text : List ℕ) → Once (Unseals refusals suite key usage text)
unfolding Unseals
unseals_once refusals suite key usage text =
    then_once _ _ (holds_once _ _) (λ _. then_once _ _ (holds_once _ _) (λ _. finds_once _ _ (sealed_once suite key usage text)))

pub opens_once : {A : Type 0} (layout : Layout A) (refusals : Refusals) (suite : CipherSuite) (key : List ℕ) (usage : ℕ) (text : List ℕ)
    → Once (OpensSealed layout refusals suite key usage text)
unfolding OpensSealed
opens_once layout refusals suite key usage text =
    then_once _ _ (unseals_once refusals suite key usage text) (λ plain. finds_once _ _ (λ x y s t. same_record layout x y plain s t))

-- what an AS-REP seals is found in one way, whatever its tag
abbrev first_of : EncTgsRepPart → EncAsRepPart
first_of part = record { 0 = part.0 }

same_first : (tagged : Bool) (plain : List ℕ) (x y : EncAsRepPart) → IsFirstPart tagged plain x → IsFirstPart tagged plain y → x ≡ y
same_first false plain x y s t = same_record enc_as_rep_part_layout x y plain s t
same_first true plain x y s t =
    ap (λ (part : EncTgsRepPart). first_of part) (same_record enc_tgs_rep_part_layout (record { 0 = x.0 }) (record { 0 = y.0 }) plain s t)

pub opens_first_once : (rules : Rules) (suite : CipherSuite) (key text : List ℕ) → Once (OpensFirst rules suite key text)
unfolding OpensFirst
opens_first_once rules suite key text =
    then_once _ _ (unseals_once _ suite key 3 text) (λ plain. finds_once _ _ (same_first (has_rule rules as_rep_tagged_26 && is_tagged_26 plain) plain))

-- so is the key that it brings, and its suite
has_suite_once : (is_own : Bool) (suite : CipherSuite) (key_type : List ℕ) → Once (λ r. HasSuite is_own suite key_type r)
has_suite_once false suite key_type = record { same = λ r s h k. (gives_once suite).same r s h k }
has_suite_once true suite key_type = record { same = λ r s h k. (takes_once _ _).same r s h k }

takes_key_once : (rules : Rules) (suite : CipherSuite) (part : EncKdcRepPart) → Once (TakesKey rules suite part)
unfolding TakesKey
takes_key_once rules suite part = then_once _ _ (has_suite_once (has_rule rules suite_of_each_key) suite part.key.key_type) (λ own. gives_once _)

pub brings_first_once : (rules : Rules) (suite : CipherSuite) (key : List ℕ) (as_rep : AsRep) → Once (BringsFirst rules suite key as_rep)
unfolding BringsFirst
brings_first_once rules suite key as_rep =
    then_once _ _ (opens_first_once rules suite key as_rep.0.enc_part.cipher) (λ part. takes_key_once rules suite part.0)

pub brings_next_once : (rules : Rules) (suite : CipherSuite) (key : List ℕ) (tgs_rep : TgsRep) → Once (BringsNext rules suite key tgs_rep)
unfolding BringsNext
brings_next_once rules suite key tgs_rep =
    then_once _ _ (opens_once enc_tgs_rep_part_layout _ suite key 8 tgs_rep.0.enc_part.cipher) (λ part. takes_key_once rules suite part.0)

-- whether a reply answers its request
pub answers_request_once : (repeats names : Bool) (moment : ℕ) (facts : ReplyFacts) → Once (AnswersRequest repeats names moment facts)
unfolding AnswersRequest
answers_request_once repeats names moment facts = then_once _ _ (holds_once _ _) (λ _. then_once _ _ (holds_once _ _) (λ _. holds_once _ _))

-- a check that a rule asks for
pub asked_for_once : (is_rule : Bool) (check : Result (Unit {0}) Cause → Type 0) → Once check → Once (λ r. AskedFor is_rule check r)
asked_for_once false check once = record { same = λ r s h k. (gives_once tt).same r s h k }
asked_for_once true check once = record { same = λ r s h k. once.same r s h k }
