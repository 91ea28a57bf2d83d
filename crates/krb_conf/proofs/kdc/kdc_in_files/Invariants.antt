use Rattle.std.proofs.Common.{◌≡◌, map, drop}
use Rattle.krb_conf.specs.Kdc.{first_given, kdc_in}
use Rattle.krb_conf.proofs.kdc.kdc_in_files.Given as goal

abbrev pub invariant-loop-text : goal.invariant-loop-text
invariant-loop-text l =
    first_given (kdc_in l.realm) (map (λ text. text.now) l.text-items) ≡ first_given (kdc_in l.realm) (map (λ text. text.now) (drop l.text-index l.text-items))
