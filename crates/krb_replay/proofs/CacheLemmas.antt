-- The cache after an insertion.
use Rattle.std.proofs.Common.{◌≡◌, Bool, true, false, not, ◌&&◌, ◌||◌, cond, if◌then◌else◌, List, None, refl, sym, ap, ◌∙◌, subst}
use Rattle.krb_replay.specs.declared.ask.Ask.{Ask}
use Rattle.krb_replay.specs.declared.ask.Verdict.{Verdict}
use Rattle.krb_replay.specs.declared.ask.Verdict.TheVariants.{Admitted, Replayed}
use Rattle.krb_replay.specs.declared.cache.AuthenticatorCacheRecord.{AuthenticatorCacheRecord}
use Rattle.krb_replay.specs.declared.cache.CacheGate.{CacheGate}
use Rattle.krb_replay.specs.Clock.{clock_refusal}
use Rattle.krb_replay.specs.Verdicts.{is_admitted}
use Rattle.krb_replay.specs.Cache.{cache_record_of, cache_eq, has_cached, AdmitsByCache}

or_at : (b x : Bool) → cond b true x ≡ (x || (true && b))
or_at true true = refl
or_at true false = refl
or_at false true = refl
or_at false false = refl

or_none : (b x : Bool) → x ≡ (x || (false && b))
or_none b true = refl
or_none b false = refl

decided : (b : Bool) → (if not b then Admitted else Replayed) ≡ (if b then Replayed else Admitted)
decided true = refl
decided false = refl

pub cache_step : (old new : CacheGate) (ask : Ask) (added : Bool) (verdict : Verdict) (k : AuthenticatorCacheRecord) → new.skew ≡ old.skew → new.moment ≡ ask.moment → clock_refusal old.skew ask.moment ask ≡ None → k ≡ cache_record_of ask
    → added ≡ not (has_cached old.cache.keys k)
    → ((r : AuthenticatorCacheRecord) → has_cached new.cache.keys r ≡ cond (cache_eq k r) true (has_cached old.cache.keys r))
    → (added ≡ false → new.cache.keys ≡ old.cache.keys)
    → verdict ≡ (if added then Admitted else Replayed)
    → AdmitsByCache old ask verdict new
cache_step old new ask added verdict k skew moment clock same was updates stays answer = record {
  skew = skew;
  moment = moment;
  verdict = answer ∙ ap (λ (b : Bool). if b then Admitted else Replayed) was ∙ decided (has_cached old.cache.keys k) ∙ ap (λ (r : AuthenticatorCacheRecord). if has_cached old.cache.keys r then Replayed else Admitted) same ∙ rw clock;
  cache = λ r. subst (λ (v : Verdict). has_cached new.cache.keys r ≡ (has_cached old.cache.keys r || (is_admitted v && cache_eq (cache_record_of ask) r))) (sym answer) (by r added refl);
}
  where
    by : (r : AuthenticatorCacheRecord) (b : Bool) → added ≡ b → has_cached new.cache.keys r ≡ (has_cached old.cache.keys r || (is_admitted (if b then Admitted else Replayed) && cache_eq (cache_record_of ask) r))
    by r true e = subst (λ (q : AuthenticatorCacheRecord). has_cached new.cache.keys r ≡ (has_cached old.cache.keys r || (true && cache_eq q r))) same (updates r ∙ or_at (cache_eq k r) (has_cached old.cache.keys r))
    by r false e = ap (λ (l : List AuthenticatorCacheRecord). has_cached l r) (stays e) ∙ or_none (cache_eq (cache_record_of ask) r) (has_cached old.cache.keys r)
