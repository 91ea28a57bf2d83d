use Rattle.std.proofs.Common.{◌≡◌, drop}
use Rattle.std.specs.List.{find}
use Rattle.krb_conf.specs.Key as words
use Rattle.krb_conf.proofs.krb5_conf.Krb5Conf.find.Given as goal

abbrev pub invariant-loop-name : goal.invariant-loop-name
invariant-loop-name l =
    find (λ entry. words.is_same_text entry.0 l.key) l.name-items ≡ find (λ entry. words.is_same_text entry.0 l.key) (drop l.name-index l.name-items)
