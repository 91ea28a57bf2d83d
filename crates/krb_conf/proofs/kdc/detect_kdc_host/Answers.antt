use Rattle.std.proofs.Common.{List, ℕ, Option, Some, codes, sym, ◌∙◌, ap}
use Rattle.std.specs.Option.{option_or}
use Rattle.krb_conf.specs.Env.{named, conf_texts}
use Rattle.krb_conf.specs.Kdc.{first_given, kdc_in}
use Rattle.krb_conf.proofs.kdc.detect_kdc_host.Goals as goal

pub returns-in-Some : goal.returns-in-Some
returns-in-Some c =
    let env = c.args.env.now in
    let in_files : Option (List ℕ) = first_given (kdc_in c.args.domain.now) (conf_texts env.vars env.files) in
    ap Some c.in_ok-from_str-in-Some.ensures
    ∙ ap (λ (o : Option (List ℕ)). option_or o in_files) (c.in-Some.ensures ∙ ap (λ (name : List ℕ). option_or (named name env.vars) (named (codes "SSPI_KDC_URL") env.vars)) (c.as_str.ensures ∙ c.in_ok-own.ensures))
