-- The entry that is kept is the greatest so far.
use Rattle.std.proofs.Common.{◌≡◌, ℕ, ◌<◌, ◌≤◌, Bool, true, false, cond, ltb, List, [], ◌∷◌, ◌++◌, All, Option, Some, None, refl, sym, ap, subst, ◌∙◌, append_assoc, arith}
use Rattle.std.specs.Prelude.{fold}
use Rattle.std.proofs.lemmas.Bool.{ltb-true, ltb-false}
use Rattle.std.proofs.lemmas.List.{append-nil}
use Rattle.std.proofs.lemmas.List.Elements.{All-nil, All-cons, All-push, All-append, All-weaker, All-same}
use Rattle.krb_keytab.specs.declared.entry.KeytabEntry.{KeytabEntry}
use Rattle.krb_keytab.specs.Finding.{greater, greatest, IsGreatest, FindsGreatest}

module _ (passes : KeytabEntry → Bool) where
  abbrev step : Option KeytabEntry → KeytabEntry → Option KeytabEntry
  step best entry = cond (passes entry) (Some (greater best entry)) best

  abbrev NoGreater : ℕ → List KeytabEntry → Type 0
  NoGreater version entries = All (λ other. passes other ≡ true → other.version ≤ version) entries

  abbrev Lower : ℕ → List KeytabEntry → Type 0
  Lower version entries = All (λ other. passes other ≡ true → other.version < version) entries

  none_passes : (seen : List KeytabEntry) (version : ℕ) → All (λ other. passes other ≡ false) seen → NoGreater version seen
  none_passes seen version none = All-weaker (λ other. passes other ≡ false) (λ other. passes other ≡ true → other.version ≤ version) (λ other no passing. absurd cc) seen none

  kept : (seen : List KeytabEntry) (best entry : KeytabEntry) → IsGreatest passes seen best → (passes entry ≡ true → entry.version < best.version) → IsGreatest passes (seen ++ entry ∷ []) best
  kept seen best entry g low = record {
    before = g.before;
    behind = g.behind ++ entry ∷ [];
    parts = ap (λ (x : List KeytabEntry). x ++ entry ∷ []) g.parts ∙ append_assoc g.before (best ∷ g.behind) (entry ∷ []);
    is = g.is;
    no_greater = g.no_greater;
    lower = All-push (λ other. passes other ≡ true → other.version < best.version) g.behind entry g.lower low;
  }

  not_above : (seen : List KeytabEntry) (best : KeytabEntry) (version : ℕ) → IsGreatest passes seen best → best.version ≤ version → NoGreater version seen
  not_above seen best version g le =
      All-same (λ other. passes other ≡ true → other.version ≤ version) seen (g.before ++ best ∷ g.behind) g.parts
      (All-append (λ other. passes other ≡ true → other.version ≤ version) g.before (best ∷ g.behind)
      (All-weaker (λ other. passes other ≡ true → other.version ≤ best.version) (λ other. passes other ≡ true → other.version ≤ version) (λ other h passing. let a = h passing in omega arith) g.before g.no_greater)
      (All-cons (λ other. passes other ≡ true → other.version ≤ version) best g.behind (λ passing. le)
      (All-weaker (λ other. passes other ≡ true → other.version < best.version) (λ other. passes other ≡ true → other.version ≤ version) (λ other h passing. let a = h passing in omega arith) g.behind g.lower)))

  taken : (seen : List KeytabEntry) (entry : KeytabEntry) → passes entry ≡ true → NoGreater entry.version seen → IsGreatest passes (seen ++ entry ∷ []) entry
  taken seen entry passing no_greater = record {
    before = seen;
    behind = [];
    parts = refl;
    is = passing;
    no_greater = no_greater;
    lower = All-nil (λ other. passes other ≡ true → other.version < entry.version);
  }

  compared : (seen : List KeytabEntry) (best entry : KeytabEntry) (lower : Bool) → ltb entry.version best.version ≡ lower → passes entry ≡ true → IsGreatest passes seen best → FindsGreatest passes (seen ++ entry ∷ []) (Some (cond lower best entry))
  compared seen best entry true is passing g = kept seen best entry g (λ _. ltb-true _ _ is)
  compared seen best entry false is passing g = taken seen entry passing (not_above seen best entry.version g (ltb-false _ _ is))

  one_step : (seen : List KeytabEntry) (best : Option KeytabEntry) (entry : KeytabEntry) (passing : Bool) → passes entry ≡ passing → FindsGreatest passes seen best → FindsGreatest passes (seen ++ entry ∷ []) (cond passing (Some (greater best entry)) best)
  one_step seen None entry false is f = All-push (λ other. passes other ≡ false) seen entry f is
  one_step seen (Some best) entry false is f = kept seen best entry f (λ passing. absurd cc)
  one_step seen None entry true is f = taken seen entry is (none_passes seen entry.version f)
  one_step seen (Some best) entry true is f = compared seen best entry (ltb entry.version best.version) refl is f

  goes_on : (seen entries : List KeytabEntry) (best : Option KeytabEntry) → FindsGreatest passes seen best → FindsGreatest passes (seen ++ entries) (fold step best entries)
  goes_on seen [] best f = subst (λ (x : List KeytabEntry). FindsGreatest passes x best) (sym (append-nil seen)) f
  goes_on seen (entry ∷ entries) best f =
      subst (λ (x : List KeytabEntry). FindsGreatest passes x (fold step (step best entry) entries)) (append_assoc seen (entry ∷ []) entries)
      (goes_on (seen ++ entry ∷ []) entries (step best entry) (one_step seen best entry (passes entry) refl f))

  pub greatest_is_found : (entries : List KeytabEntry) → FindsGreatest passes entries (greatest passes entries)
  unfolding greatest
  greatest_is_found entries = goes_on [] entries None (All-nil (λ other. passes other ≡ false))
