use Rattle.std.proofs.Common.{◌≡◌, rules, refl, Some}
use Rattle.krb_realm.proofs.session.Session.answer.Goals as goal

pub returns-clause-turn : goal.returns-clause-turn
returns-clause-turn c =
    let known : c.self.inside.realm ≡ Some c.in-Some.realm = search rules in
    rw (← c.self.view_is) (record {
      realm = c.in-Some.realm;
      known = known;
      replies = c.in_ok-text.ensures.answered;
      after_is = refl;
    })
