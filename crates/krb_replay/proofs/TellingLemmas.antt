-- The asks that telling gates admit: one gate, and all gates of one store.
use Rattle.std.proofs.Common.{◌≡◌, ◌⊎◌, inl, inr, ℕ, ◌≤◌, max, Bool, true, false, not, ◌||◌, if◌then◌else◌, List, [], ◌∷◌, refl, sym, ap, ◌∙◌, subst, arith}
use Rattle.std.proofs.lemmas.Bool.{false≢true}
use Rattle.std.proofs.lemmas.Map.Views.{any-filter_same}
use Rattle.std.specs.List.{filter}
use Rattle.krb_replay.specs.declared.record.Record.{Record}
use Rattle.krb_replay.specs.declared.ask.Ask.{Ask}
use Rattle.krb_replay.specs.declared.ask.Verdict.{Verdict}
use Rattle.krb_replay.specs.declared.ask.Verdict.TheVariants.{Admitted}
use Rattle.krb_replay.specs.declared.telling.TellingGate.{TellingGate}
use Rattle.krb_replay.specs.Records.{record_eq, ask_eq, has_record, IsDistinct}
use Rattle.krb_replay.specs.Clock.{is_current}
use Rattle.krb_replay.specs.Verdicts.{is_admitted}
use Rattle.krb_replay.specs.Gate.{Run}
use Rattle.krb_replay.specs.Runs.{admitted_of}
use Rattle.krb_replay.specs.Telling.{is_seen, moment_told, verdict_as_told, AdmitsAsTold, AreTold, admitted_as_told}
use Rattle.krb_replay.proofs.Same.{records, asks as asks_same}
use Rattle.krb_replay.proofs.Window.{or_false, admitted_open, open_current, current_before, current_same}

or_true : (b : Bool) → (b || true) ≡ true
or_true true = refl
or_true false = refl

not_false : (b : Bool) → not b ≡ false → b ≡ true
not_false true e = refl
not_false false e = absurd (false≢true (sym e))

true_or_false : (b : Bool) → b ≡ true → b ≡ false → ⊥
true_or_false b t f = absurd (false≢true (sym f ∙ t))

-- ---- one gate

not_seen : (old : TellingGate) (ask : Ask) → is_admitted (verdict_as_told old ask) ≡ true → (old.seen ≡ false) × (ask_eq old.told ask ≡ true)
not_seen old ask e =
    let parts = or_false old.seen (not (ask_eq old.told ask)) (admitted_open old.skew (moment_told old ask) (is_seen old ask) ask e).1 in
    (parts.0, not_false (ask_eq old.told ask) parts.1)

pub admits_only : (old new : TellingGate) (ask : Ask) → AdmitsAsTold old ask Admitted new → (old.seen ≡ false) × (ask ≡ old.told) × (new.seen ≡ true)
admits_only old new ask step =
    let parts = not_seen old ask (ap is_admitted (sym step.answer)) in
    (parts.0, sym ((asks_same old.told ask).0 parts.1), step.seen ∙ or_true old.seen)

seen_stays : (old new : TellingGate) (ask : Ask) (verdict : Verdict) → AdmitsAsTold old ask verdict new → old.seen ≡ true → new.seen ≡ true
seen_stays old new ask verdict step seen = step.seen ∙ ap (λ (b : Bool). b || is_admitted verdict) seen

none_if_seen : (old new : TellingGate) (asks : List Ask) (verdicts : List Verdict) → old.seen ≡ true → Run AdmitsAsTold old asks verdicts new → admitted_of asks verdicts ≡ []
none_if_seen old new [] [] seen run = refl
none_if_seen old new [] (verdict ∷ verdicts) seen run = elim run [ ]
none_if_seen old new (ask ∷ asks) [] seen run = elim run [ ]
none_if_seen old new (ask ∷ asks) (verdict ∷ verdicts) seen run = by (is_admitted verdict) refl (none_if_seen run.0 new asks verdicts (seen_stays old run.0 ask verdict run.1 seen) run.2)
  where
    by : (b : Bool) → is_admitted verdict ≡ b → admitted_of asks verdicts ≡ [] → (if b then ask.entry ∷ admitted_of asks verdicts else admitted_of asks verdicts) ≡ []
    by true e none = absurd (true_or_false old.seen seen (not_seen old ask (ap is_admitted (sym run.1.answer) ∙ e)).0)
    by false e none = none

pub admits_once : (old new : TellingGate) (asks : List Ask) (verdicts : List Verdict) → Run AdmitsAsTold old asks verdicts new
    → (admitted_of asks verdicts ≡ []) ⊎ (admitted_of asks verdicts ≡ old.told.entry ∷ [])
admits_once old new [] [] run = inl refl
admits_once old new [] (verdict ∷ verdicts) run = elim run [ ]
admits_once old new (ask ∷ asks) [] run = elim run [ ]
admits_once old new (ask ∷ asks) (verdict ∷ verdicts) run = by (is_admitted verdict) refl (admits_once run.0 new asks verdicts run.2)
  where
    by : (b : Bool) → is_admitted verdict ≡ b → (admitted_of asks verdicts ≡ []) ⊎ (admitted_of asks verdicts ≡ run.0.told.entry ∷ []) → let list : List Record = if b then ask.entry ∷ admitted_of asks verdicts else admitted_of asks verdicts in (list ≡ []) ⊎ (list ≡ old.told.entry ∷ [])
    by true e more =
        let parts = not_seen old ask (ap is_admitted (sym run.1.answer) ∙ e) in
        let seen = run.1.seen ∙ ap (λ (b : Bool). old.seen || b) e ∙ or_true old.seen in
        let none = none_if_seen run.0 new asks verdicts seen run.2 in
        inr (ap (λ (list : List Record). ask.entry ∷ list) none ∙ ap (λ (a : Ask). a.entry ∷ []) (sym ((asks_same old.told ask).0 parts.1)))
    by false e more = subst (λ (a : Ask). (admitted_of asks verdicts ≡ []) ⊎ (admitted_of asks verdicts ≡ a.entry ∷ [])) run.1.told more

-- ---- all that one store has told

still_current : (gate : TellingGate) → is_admitted (verdict_as_told gate gate.told) ≡ true → is_current gate.skew gate.moment gate.told.entry ≡ true
still_current gate e =
    let open_then = open_current gate.skew (moment_told gate gate.told) gate.told (admitted_open gate.skew (moment_told gate gate.told) (is_seen gate gate.told) gate.told e).0 in
    current_before gate.skew gate.moment (moment_told gate gate.told) gate.told.entry (omega arith) open_then

-- the store has what it was asked about, as long as that is current
had : (skew moment : ℕ) (stored : List Record) (r : Record) → is_current skew moment r ≡ true → has_record (filter (is_current skew moment) stored) r ≡ has_record stored r
had skew moment stored r e = any-filter_same (λ x. record_eq x r) (is_current skew moment) true (λ x same. current_same skew moment x r same ∙ e) stored

-- what was stored is admitted no more
none_again : (skew time : ℕ) (stored : List Record) (gates : List TellingGate) (r : Record) → AreTold skew time stored gates → has_record stored r ≡ true → has_record (admitted_as_told gates) r ≡ false
none_again skew time stored [] r told was = refl
none_again skew time stored (gate ∷ gates) r told was =
    by (none_again skew gate.moment (gate.told.entry ∷ stored) gates r told.3 (ap (λ (b : Bool). record_eq gate.told.entry r || b) was ∙ or_true (record_eq gate.told.entry r)))
    (is_admitted (verdict_as_told gate gate.told)) refl
  where
    other : is_admitted (verdict_as_told gate gate.told) ≡ true → (b : Bool) → record_eq gate.told.entry r ≡ b → b ≡ false
    other e false same = refl
    other e true same =
        let now = subst (λ (k : ℕ). is_current k gate.moment gate.told.entry ≡ true) told.0 (still_current gate e) in
        let it = had skew gate.moment stored gate.told.entry now in
        let is = subst (λ (x : Record). has_record stored x ≡ true) (sym ((records gate.told.entry r).0 same)) was in
        absurd (true_or_false gate.seen (told.2 ∙ it ∙ is) (not_seen gate gate.told e).0)

    by : has_record (admitted_as_told gates) r ≡ false → (b : Bool) → is_admitted (verdict_as_told gate gate.told) ≡ b → has_record (if b then gate.told.entry ∷ admitted_as_told gates else admitted_as_told gates) r ≡ false
    by rest false e = rest
    by rest true e = ap (λ (b : Bool). b || has_record (admitted_as_told gates) r) (other e (record_eq gate.told.entry r) refl) ∙ rest

pub store_admits_once : (skew time : ℕ) (stored : List Record) (gates : List TellingGate) → AreTold skew time stored gates → IsDistinct (admitted_as_told gates)
store_admits_once skew time stored [] told = tt
store_admits_once skew time stored (gate ∷ gates) told =
    by (store_admits_once skew gate.moment (gate.told.entry ∷ stored) gates told.3) (is_admitted (verdict_as_told gate gate.told))
  where
    own : has_record (gate.told.entry ∷ stored) gate.told.entry ≡ true
    own = ap (λ (b : Bool). b || has_record stored gate.told.entry) ((records gate.told.entry gate.told.entry).1 refl)

    by : IsDistinct (admitted_as_told gates) → (b : Bool) → IsDistinct (if b then gate.told.entry ∷ admitted_as_told gates else admitted_as_told gates)
    by rest false = rest
    by rest true = (none_again skew gate.moment (gate.told.entry ∷ stored) gates gate.told.entry told.3 own, rest)
