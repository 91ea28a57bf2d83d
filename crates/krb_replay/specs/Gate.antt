-- The verdicts that any gate may return, and a gate after a list of calls.
use Rattle.std.specs.Prelude.{◌≡◌, ℕ, ◌≤◌, Bool, true, false, if◌then◌else◌, MatchOption, Option, Some, None, unwrap_or, List, [], ◌∷◌}
use Rattle.std.proofs.Common.{sym, subst}
use Rattle.krb_replay.specs.declared.ask.Ask.{Ask}
use Rattle.krb_replay.specs.declared.ask.Verdict.{Verdict}
use Rattle.krb_replay.specs.declared.ask.Verdict.TheVariants.{Admitted, Skew, NotYet, Expired, Replayed}
use Rattle.krb_replay.specs.Clock.{clock_refusal, judged}

-- a verdict that the clock leaves open
abbrev pub IsOpen : Verdict → Type 0
IsOpen Admitted = Unit {0}
IsOpen Replayed = Unit {0}
IsOpen Skew = ⊥
IsOpen NotYet = ⊥
IsOpen Expired = ⊥

-- the moment is at least the asked one, and the verdict is the clock's refusal at it, or else Admitted or Replayed
pub record IsJudged (skew moment : ℕ) (ask : Ask) (verdict : Verdict) : Type 0 where
  pub reached : ask.moment ≤ moment
  pub first : MatchOption (clock_refusal skew moment ask) (IsOpen verdict) (λ refusal. verdict ≡ refusal)

first_of : (refusal : Option Verdict) (seen : Bool) (verdict : Verdict) → verdict ≡ unwrap_or refusal (if seen then Replayed else Admitted)
    → MatchOption refusal (IsOpen verdict) (λ v. verdict ≡ v)
first_of (Some v) seen verdict e = e
first_of None true verdict e = subst IsOpen (sym e) tt
first_of None false verdict e = subst IsOpen (sym e) tt

pub is_judged : (skew moment : ℕ) (seen : Bool) (ask : Ask) (verdict : Verdict) → ask.moment ≤ moment
    → verdict ≡ judged skew moment seen ask → IsJudged skew moment ask verdict
is_judged skew moment seen ask verdict reached e = record { reached = reached; first = first_of (clock_refusal skew moment ask) seen verdict e }

-- from `old` these asks may be answered by these verdicts, one call after another, which leave `new`
abbrev pub Run : {G : Type 0} → (G → Ask → Verdict → G → Type 0) → G → List Ask → List Verdict → G → Type 0
Run admits old [] [] new = new ≡ old
Run {G} admits old (ask ∷ asks) (verdict ∷ verdicts) new = (mid : G) × admits old ask verdict mid × Run admits mid asks verdicts new
Run admits old [] (verdict ∷ verdicts) new = ⊥
Run admits old (ask ∷ asks) [] new = ⊥
