use Rattle.std.proofs.Common.{◌≡◌, rules, refl, string_bytes, [], Some}
use Rattle.krb_realm.proofs.session.Session.enter.Goals as goal

pub returns-clause-turn : goal.returns-clause-turn
returns-clause-turn c =
    let known : c.self.inside.realm ≡ Some c.in-Some.realm = search rules in
    let empty : string_bytes c.new.result ≡ [] = search rules in
    rw (← c.self.view_is) (record {
      before = c.in-Some.realm;
      known = known;
      realm = c.add.new.self;
      enters = c.in_ok-add.ensures.added;
      text_is = empty;
      after_is = refl;
    })
