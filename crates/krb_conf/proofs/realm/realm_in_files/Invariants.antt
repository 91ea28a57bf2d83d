use Rattle.std.proofs.Common.{◌≡◌, map, drop}
use Rattle.krb_conf.specs.Kdc.{first_given}
use Rattle.krb_conf.specs.Realm.{realm_in}
use Rattle.krb_conf.proofs.realm.realm_in_files.Given as goal

abbrev pub invariant-loop-file : goal.invariant-loop-file
invariant-loop-file l =
    first_given (realm_in l.domain) (map (λ file. file.now) l.file-items) ≡ first_given (realm_in l.domain) (map (λ file. file.now) (drop l.file-index l.file-items))
