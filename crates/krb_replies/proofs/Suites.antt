-- The suite of a key that a reply brings, without rules.
use Rattle.std.proofs.Common.{◌≡◌, ℕ, false, List, Result, Ok, Err, sym, ap, ◌∙◌, subst}
use Rattle.krb_crypto.specs.declared.suite.CipherSuite.{CipherSuite}
use Rattle.krb_context.specs.Rules.{no_rules}
use Rattle.krb_exchange.specs.declared.enc_kdc_rep_part.EncKdcRepPart.{EncKdcRepPart}
use Rattle.krb_exchange.specs.declared.kdc_rep.TgsRep.{TgsRep}
use Rattle.sspi_core.specs.declared.cause.Cause.{Cause}
use Rattle.sspi_core.specs.Checks.{Gives, Goes}
use Rattle.sspi_core.proofs.Chain.{follows, gave, gives, passed}
use Rattle.krb_replies.specs.declared.keys.ReplyKey.{ReplyKey}
use Rattle.krb_replies.specs.Keys.{HasSuite, key_in, TakesKey, BringsNext}

module _ (suite : CipherSuite) (part : EncKdcRepPart) (answer : Result ReplyKey Cause) where
  abbrev in_suite : CipherSuite → ReplyKey
  in_suite own = key_in own part

  abbrev taken_in : CipherSuite → Result ReplyKey Cause
  taken_in own = Ok (in_suite own)

  kept : (middle : Result CipherSuite Cause) → HasSuite false suite part.key.key_type middle → Goes (λ (own : CipherSuite). Gives (in_suite own)) middle answer
      → answer ≡ Ok (in_suite suite)
  kept (Ok own) held rest = rest.is ∙ ap taken_in (gave suite own held)
  kept (Err e) held rest = let i = held.is in absurd cc

  pub keeps_suite : TakesKey no_rules suite part answer → answer ≡ Ok (in_suite suite)
  unfolding TakesKey
  keeps_suite h = kept h.middle h.held h.rest

  pub takes_in_suite : answer ≡ Ok (in_suite suite) → TakesKey no_rules suite part answer
  unfolding TakesKey
  takes_in_suite is = subst (λ (r : Result ReplyKey Cause). TakesKey no_rules suite part r) (sym is) (follows _ _ suite _ (gives suite) (gives (in_suite suite)))

same_key : (x y : ReplyKey) → ◌≡◌ {A = Result ReplyKey Cause} (Ok x) (Ok y) → x ≡ y
same_key x y e = cc

-- a TGS-REP hands on the suite
pub next_keeps : (suite : CipherSuite) (key : List ℕ) (reply : TgsRep) (next : ReplyKey) → BringsNext no_rules suite key reply (Ok next) → next.suite ≡ suite
unfolding BringsNext
next_keeps suite key reply next h =
    let part = passed _ _ _ h in
    let made : ReplyKey = key_in suite part.found.0 in
    ap (λ (k : ReplyKey). k.suite) (same_key next made (keeps_suite suite part.found.0 (Ok next) part.rest_held))
