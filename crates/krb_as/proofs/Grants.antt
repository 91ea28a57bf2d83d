-- The checks of an AS-REP and the end with that AS-REP are together the checks of the whole step.
use Rattle.std.proofs.Common.{◌≡◌, ℕ, List, Result, Ok, Err, refl, sym, ap, ◌∙◌, subst}
use Rattle.sspi_core.proofs.Chain.{follows, gives}
use Rattle.sspi_core.specs.declared.cause.Cause.{Cause}
use Rattle.sspi_core.specs.declared.cause.Cause.TheVariants.{Memory}
use Rattle.sspi_core.specs.Checks.{Gives, Goes, Answers}
use Rattle.krb_exchange.specs.declared.kdc_rep.AsRep.{AsRep}
use Rattle.krb_exchange.specs.declared.kdc_req.KdcReqBody.{KdcReqBody}
use Rattle.krb_context.specs.declared.rules.Rules.{Rules}
use Rattle.krb_replies.specs.declared.keys.ReplyKey.{ReplyKey}
use Rattle.krb_as.specs.declared.asker.Asker.{Asker}
use Rattle.krb_as.specs.declared.as_exchange.AsDone.{AsDone}
use Rattle.krb_as.specs.declared.as_exchange.ExchangePhase.{ExchangePhase}
use Rattle.krb_as.specs.declared.as_phase.AsPhase.{AsPhase}
use Rattle.krb_as.specs.declared.key.Grant.{Grant}
use Rattle.krb_as.specs.declared.turn.Turn.{Turn}
use Rattle.krb_as.specs.Replied.{TakesEarly}
use Rattle.krb_as.specs.Fresh.{TakesFreshKey}
use Rattle.krb_as.specs.AsPhases.{grant_in, BringsGrant}
use Rattle.krb_as.specs.AsExchanges.{end_in, EndsWith, LeavesEarly}

-- checks whose answer is what became of another's
leads_on : {A B : Type 0} (first : Result A Cause → Type 0) (whole : Result B Cause → Type 0) (into : Result A Cause → Result B Cause)
    → ((e : Cause) → into (Err e) ≡ Err e) → ((r : Result A Cause) → first r → whole (into r)) → (found : Result A Cause) (answer : Result B Cause)
    → Answers first found → answer ≡ into found → Answers whole answer
leads_on {A} {B} first whole into fails leads found answer h is = record {
  so = λ ne. subst (λ (r : Result B Cause). whole r) (sym is) (leads found (h.so (λ z. ne (is ∙ (ap into z ∙ fails Memory)))));
}

module _ (asker : Asker) (body : KdcReqBody) (moment : ℕ) (used : List ℕ) (rep : AsRep) where
  keyed : (taken : Result ReplyKey Cause) → TakesFreshKey asker body moment used rep taken → BringsGrant asker body moment used rep (grant_in rep taken)
  unfolding BringsGrant
  keyed (Ok key) h = follows _ _ key _ h (gives _)
  keyed (Err e) h = record { middle = Err e; held = h; rest = refl }

  pub brings_grant : (taken : Result ReplyKey Cause) (answer : Result (Turn AsPhase Grant) Cause)
      → Answers (TakesFreshKey asker body moment used rep) taken → answer ≡ grant_in rep taken → Answers (BringsGrant asker body moment used rep) answer
  brings_grant taken answer h is = leads_on _ _ (grant_in rep) (λ e. refl) keyed taken answer h is

  went : (m : Result (Unit {0}) Cause) (taken : Result ReplyKey Cause) → Goes (λ (x : Unit {0}). TakesFreshKey asker body moment used rep) m taken
      → Goes (λ (x : Unit {0}). BringsGrant asker body moment used rep) m (grant_in rep taken)
  went (Ok x) taken h = keyed taken h
  went (Err e) taken h = ap (λ (r : Result ReplyKey Cause). grant_in rep r) h

  early_keyed : (rules : Rules) (taken : Result ReplyKey Cause) → TakesEarly rules (TakesFreshKey asker body moment used) rep taken
      → TakesEarly rules (BringsGrant asker body moment used) rep (grant_in rep taken)
  unfolding TakesEarly
  early_keyed rules taken h = record { middle = h.middle; held = h.held; rest = went h.middle taken h.rest }

  pub brings_early : (rules : Rules) (taken : Result ReplyKey Cause) (answer : Result (Turn AsPhase Grant) Cause)
      → Answers (TakesEarly rules (TakesFreshKey asker body moment used) rep) taken → answer ≡ grant_in rep taken
      → Answers (TakesEarly rules (BringsGrant asker body moment used) rep) answer
  brings_early rules taken answer h is = leads_on _ _ (grant_in rep) (λ e. refl) (early_keyed rules) taken answer h is

-- the exchange as a task
module _ (default : List ℕ) (rep : AsRep) where
  salted : (m : Result (Unit {0}) Cause) (salt : Result (List ℕ) Cause) → Goes (λ (x : Unit {0}). λ (r : Result (List ℕ) Cause). Gives default r) m salt
      → Goes (λ (x : Unit {0}). EndsWith default rep) m (end_in rep salt)
  salted (Ok x) salt h = record { is = ap (λ (r : Result (List ℕ) Cause). end_in rep r) h.is }
  salted (Err e) salt h = ap (λ (r : Result (List ℕ) Cause). end_in rep r) h

  early_salted : (rules : Rules) (salt : Result (List ℕ) Cause) → LeavesEarly rules default salt → TakesEarly rules (EndsWith default) rep (end_in rep salt)
  unfolding LeavesEarly TakesEarly
  early_salted rules salt h = record { middle = h.middle; held = h.held; rest = salted h.middle salt h.rest }

  pub ends_early : (rules : Rules) (salt : Result (List ℕ) Cause) (answer : Result (Turn ExchangePhase AsDone) Cause)
      → Answers (LeavesEarly rules default) salt → answer ≡ end_in rep salt → Answers (TakesEarly rules (EndsWith default) rep) answer
  ends_early rules salt answer h is = leads_on _ _ (end_in rep) (λ e. refl) (early_salted rules) salt answer h is
