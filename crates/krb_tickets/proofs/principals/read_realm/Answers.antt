use Rattle.std.proofs.Common.{◌≤◌, ◌^◌, List, ℕ, length, subst}
use Rattle.krb_tickets.proofs.Names.{realm_short}
use Rattle.krb_tickets.proofs.principals.read_realm.Goals as goal

pub returns-clause-short : goal.returns-clause-short
returns-clause-short c =
    realm_short c.args.realm.now c.ascii_name.result c.ascii_name.ensures
    (subst (λ (o : List ℕ). length o ≤ 2 ^ 24) c.as_slice.ensures c.in_ok-check_short.ensures.short)
