-- The KDC of a context.
use Rattle.std.proofs.Common.{◌≡◌, List, sym, ap, ap₂, ◌∙◌}
use Rattle.std.specs.Prelude.{ℕ, Option, Some, option_map}
use Rattle.url.specs.Parts.{Parts}
use Rattle.krb_conf.specs.declared.config.KerberosConfig.{KerberosConfig}
use Rattle.krb_conf.specs.declared.env.Env.{Env}
use Rattle.krb_context.specs.declared.context.Kerberos.{Kerberos}
use Rattle.krb_context.specs.Contexts.{kdc_url_of, kdc_of}

pub kdc_found : (context : Kerberos) (env : Env) (realm text : List ℕ) (config : KerberosConfig) (url : Option Parts) → context.realm ≡ Some realm → config ≡ context.config
    → text ≡ realm → url ≡ kdc_url_of config env text → kdc_of context env ≡ option_map (λ u. (realm, u)) url
kdc_found context env realm text config url has same_config same_text found =
    rw has (ap (option_map (λ u. (realm, u))) (sym (found ∙ ap₂ (λ (c : KerberosConfig) (t : List ℕ). kdc_url_of c env t) same_config same_text)))
