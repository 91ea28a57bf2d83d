use Rattle.std.proofs.Common.{◌≡◌, ◌∷◌, [], codes, drop}
use Rattle.std.specs.List.{find}
use Rattle.krb_conf.specs.Krb5Conf.{values_under}
use Rattle.krb_conf.specs.Realm as words
use Rattle.krb_conf.proofs.realm.mapped_realm.Given as goal

abbrev pub invariant-loop-key : goal.invariant-loop-key
invariant-loop-key l =
    find (λ entry. words.fits l.domain entry.0) (values_under (codes "domain_realm" ∷ []) l.key-items)
    ≡ find (λ entry. words.fits l.domain entry.0) (values_under (codes "domain_realm" ∷ []) (drop l.key-index l.key-items))
