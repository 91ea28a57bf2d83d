-- A gate that gets the answer of an external store, and the store that machines share.
use Rattle.std.specs.Prelude.{◌≡◌, refl, ℕ, max, ◌≤◌, Bool, not, ◌||◌, ⊤, List, [], ◌∷◌, if◌then◌else◌}
use Rattle.std.specs.List.{filter}
use Rattle.std.proofs.Common.{ap, sym, ◌∙◌, subst, arith}
use Rattle.krb_replay.specs.declared.record.Record.{Record}
use Rattle.krb_replay.specs.declared.ask.Ask.{Ask}
use Rattle.krb_replay.specs.declared.ask.Verdict.{Verdict}
use Rattle.krb_replay.specs.declared.telling.TellingGate.{TellingGate}
use Rattle.krb_replay.specs.Records.{ask_eq, has_record}
use Rattle.krb_replay.specs.Clock.{judged, is_current}
use Rattle.krb_replay.specs.Gate.{IsJudged, is_judged}
use Rattle.krb_replay.specs.Verdicts.{is_admitted}

-- what must not be admitted: the ask whose record the store had, and any other than the one that it was asked about
abbrev pub is_seen : TellingGate → Ask → Bool
is_seen gate ask = gate.seen || not (ask_eq gate.told ask)

-- the moment that an ask is judged by: the later of its own and the store's
abbrev pub moment_told : TellingGate → Ask → ℕ
moment_told gate ask = max gate.moment ask.moment

abbrev pub verdict_as_told : TellingGate → Ask → Verdict
verdict_as_told gate ask = judged gate.skew (moment_told gate ask) (is_seen gate ask) ask

-- what is admitted is seen from then on, and nothing else changes but the moment
pub record AdmitsAsTold (old : TellingGate) (ask : Ask) (verdict : Verdict) (new : TellingGate) : Type 0 where
  pub skew : new.skew ≡ old.skew
  pub told : new.told ≡ old.told
  pub moment : new.moment ≡ moment_told old ask
  pub answer : verdict ≡ verdict_as_told old ask
  pub seen : new.seen ≡ (old.seen || is_admitted verdict)

pub record IsSameTelling (old new : TellingGate) : Type 0 where
  pub skew : new.skew ≡ old.skew
  pub moment : new.moment ≡ old.moment
  pub told : new.told ≡ old.told
  pub seen : new.seen ≡ old.seen

pub IsSameTelling-same : (gate : TellingGate) → IsSameTelling gate gate
IsSameTelling-same gate = record { skew = refl; moment = refl; told = refl; seen = refl }

pub telling_goes_on : (a b c : TellingGate) (ask : Ask) (verdict : Verdict) → IsSameTelling a b → AdmitsAsTold b ask verdict c → AdmitsAsTold a ask verdict c
telling_goes_on a b c ask verdict same step = record {
  skew = step.skew ∙ same.skew;
  told = step.told ∙ same.told;
  moment = step.moment ∙ ap (λ (m : ℕ). max m ask.moment) same.moment;
  answer = step.answer ∙ ap (λ (k : ℕ). judged k (moment_told b ask) (is_seen b ask) ask) same.skew
      ∙ ap (λ (m : ℕ). judged a.skew (max m ask.moment) (is_seen b ask) ask) same.moment
      ∙ ap (λ (t : Ask). judged a.skew (moment_told a ask) (b.seen || not (ask_eq t ask)) ask) same.told
      ∙ ap (λ (s : Bool). judged a.skew (moment_told a ask) (s || not (ask_eq a.told ask)) ask) same.seen;
  seen = step.seen ∙ ap (λ (s : Bool). s || is_admitted verdict) same.seen;
}

pub telling_judges : (old new : TellingGate) (ask : Ask) (verdict : Verdict) → AdmitsAsTold old ask verdict new → IsJudged old.skew new.moment ask verdict
telling_judges old new ask verdict step = subst (λ (m : ℕ). IsJudged old.skew m ask verdict) (sym step.moment)
    (is_judged old.skew (moment_told old ask) (is_seen old ask) ask verdict (omega arith) step.answer)

-- gates that one store has told, one after another. Its own time never falls back. It has each record that it was asked
-- about, until its time is later than the record's by more than the skew
abbrev pub AreTold : ℕ → ℕ → List Record → List TellingGate → Type 0
AreTold skew time records [] = ⊤
AreTold skew time records (gate ∷ gates) =
    (gate.skew ≡ skew) × (time ≤ gate.moment) × (gate.seen ≡ has_record (filter (is_current skew gate.moment) records) gate.told.entry)
    × AreTold skew gate.moment (gate.told.entry ∷ records) gates

-- the records that gates admit, each of them asked what the store was asked about
abbrev pub admitted_as_told : List TellingGate → List Record
admitted_as_told [] = []
admitted_as_told (gate ∷ gates) = if is_admitted (verdict_as_told gate gate.told) then gate.told.entry ∷ admitted_as_told gates else admitted_as_told gates
