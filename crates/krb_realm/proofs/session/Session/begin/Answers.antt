use Rattle.std.proofs.Common.{◌≡◌, rules, refl, is_some, string_bytes, false, []}
use Rattle.krb_realm.proofs.RealmLemmas.{none_is}
use Rattle.krb_realm.proofs.session.Session.begin.Goals as goal

pub returns-clause-turn : goal.returns-clause-turn
returns-clause-turn c =
    let none : is_some c.self.inside.realm ≡ false = search rules in
    let empty : string_bytes c.new-2.result ≡ [] = search rules in
    rw (← c.self.view_is) (record {
      first = none_is c.self.inside.realm none;
      realm = c.in_ok-new.field-0;
      begins = c.in_ok-new.ensures.begun;
      text_is = empty;
      after_is = refl;
    })
