use Rattle.std.proofs.Common.{◌≡◌, ◌≢◌, ℕ, List, ◌++◌, Option, Some, None, MatchOption, IfOk, OnErr, Bor}
use Rattle.std.specs.Option.{ok_or}
use Rattle.std.proofs.lemmas.Bool.Decides.{Decides-eqb}
use Rattle.std.proofs.lemmas.Slice.Eq.{strip_prefix_is}
use Rattle.krb_messages.proofs.frame.behind.Goals as goal

module _ {E : Type 0} (octets front : List ℕ) (e : E) where
  abbrev IsBehind : Option (Bor (List ℕ)) → Type 0
  IsBehind o = MatchOption o ((rest : List ℕ) → octets ≢ front ++ rest) (λ x. octets ≡ front ++ x.now)

  found : (o : Option (Bor (List ℕ))) → IsBehind o → IfOk (ok_or o e) (λ rest. octets ≡ front ++ rest.now)
  found None h = tt
  found (Some x) h = h

  none : (o : Option (Bor (List ℕ))) → IsBehind o → OnErr (ok_or o e) ((rest : List ℕ) → octets ≢ front ++ rest)
  none None h = h
  none (Some x) h = tt

pub returns-clause-found : goal.returns-clause-found
returns-clause-found c = rw c.ok_or.ensures.value (found _ _ _ _ (strip_prefix_is Decides-eqb _ _ _ c.strip_prefix.ensures.cases))

pub returns-clause-none : goal.returns-clause-none
returns-clause-none c = rw c.ok_or.ensures.value (none _ _ _ _ (strip_prefix_is Decides-eqb _ _ _ c.strip_prefix.ensures.cases))
