-- The cache of the crate that is ported: it judges by the asked moment, and keeps all.
use Rattle.std.specs.Prelude.{◌≡◌, refl, ℕ, Bool, ◌&&◌, ◌||◌, List, nat_eq}
use Rattle.std.proofs.Common.{ap, sym, ◌∙◌, subst, arith}
use Rattle.std.specs.List.{list_any}
use Rattle.std.specs.Ordering.{int_eq}
use Rattle.std.specs.Cmp.Lexicographic.{pointwise}
use Rattle.krb_replay.specs.declared.ask.Ask.{Ask}
use Rattle.krb_replay.specs.declared.ask.Verdict.{Verdict}
use Rattle.krb_replay.specs.declared.cache.AuthenticatorCacheRecord.{AuthenticatorCacheRecord}
use Rattle.krb_replay.specs.declared.cache.CacheGate.{CacheGate}
use Rattle.krb_replay.specs.Records.{principal_eq}
use Rattle.krb_replay.specs.Clock.{judged}
use Rattle.krb_replay.specs.Gate.{IsJudged, is_judged}
use Rattle.krb_replay.specs.Verdicts.{is_admitted}

-- what the cache keeps of an ask
abbrev pub cache_record_of : Ask → AuthenticatorCacheRecord
cache_record_of ask = record { cname = ask.entry.name; sname = ask.sname; ctime = ask.entry.ctime; microseconds = ask.entry.cusec }

-- two are the same where all four parts are
abbrev pub cache_eq : AuthenticatorCacheRecord → AuthenticatorCacheRecord → Bool
cache_eq a b = principal_eq a.cname b.cname && (principal_eq a.sname b.sname && (int_eq a.ctime b.ctime && pointwise nat_eq a.microseconds b.microseconds))

abbrev pub has_cached : List AuthenticatorCacheRecord → AuthenticatorCacheRecord → Bool
has_cached cached r = list_any (cache_eq r) cached

-- judged by the asked moment; what is admitted is added, and nothing else changes
pub record AdmitsByCache (old : CacheGate) (ask : Ask) (answer : Verdict) (new : CacheGate) : Type 0 where
  pub skew : new.skew ≡ old.skew
  pub moment : new.moment ≡ ask.moment
  pub verdict : answer ≡ judged old.skew ask.moment (has_cached old.cache.keys (cache_record_of ask)) ask
  pub cache : (r : AuthenticatorCacheRecord)
      → has_cached new.cache.keys r ≡ (has_cached old.cache.keys r || (is_admitted answer && cache_eq (cache_record_of ask) r))

pub record IsSameCache (old new : CacheGate) : Type 0 where
  pub skew : new.skew ≡ old.skew
  pub moment : new.moment ≡ old.moment
  pub cache : new.cache.keys ≡ old.cache.keys

pub IsSameCache-same : (gate : CacheGate) → IsSameCache gate gate
IsSameCache-same gate = record { skew = refl; moment = refl; cache = refl }

pub cache_goes_on : (a b c : CacheGate) (ask : Ask) (verdict : Verdict) → IsSameCache a b → AdmitsByCache b ask verdict c → AdmitsByCache a ask verdict c
cache_goes_on a b c ask verdict same step = record {
  skew = step.skew ∙ same.skew;
  moment = step.moment;
  verdict = step.verdict ∙ ap (λ (k : ℕ). judged k ask.moment (has_cached b.cache.keys (cache_record_of ask)) ask) same.skew
      ∙ ap (λ (l : List AuthenticatorCacheRecord). judged a.skew ask.moment (has_cached l (cache_record_of ask)) ask) same.cache;
  cache = λ r. step.cache r
      ∙ ap (λ (l : List AuthenticatorCacheRecord). has_cached l r || (is_admitted verdict && cache_eq (cache_record_of ask) r)) same.cache;
}

pub cache_judges : (old new : CacheGate) (ask : Ask) (verdict : Verdict) → AdmitsByCache old ask verdict new → IsJudged old.skew new.moment ask verdict
cache_judges old new ask verdict step = subst (λ (m : ℕ). IsJudged old.skew m ask verdict) (sym step.moment)
    (is_judged old.skew ask.moment _ ask verdict (omega arith) step.verdict)
