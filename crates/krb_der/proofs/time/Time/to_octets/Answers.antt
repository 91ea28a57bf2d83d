use Rattle.std.proofs.Common.{◌≡◌, ◌∙◌, sym, subst, arith, pos, negsuc, ◌≤ℤ◌}
use Rattle.jiff_core.proofs.SignedLemmas.{signed_arith}
use Rattle.krb_der.specs.Moment.{SpellsMoment, IsTime}
use Rattle.krb_der.proofs.Moments.{time_is_spelled, time_octets_from, abs_of_not_negative}
use Rattle.krb_der.proofs.time.Time.to_octets.Goals as goal

pub returns-clause-exact : goal.returns-clause-exact
returns-clause-exact c =
    let low : negsuc 62_167_219_199 ≤ℤ c.self.inside.seconds = c.self.invariant.0 in
    let high : c.self.inside.seconds ≤ℤ pos 253_402_300_799 = c.self.invariant.1 in
    let is : c.self.inside.seconds ≡ c.args.self = c.self.view_is in
    c.octets_since.ensures ∙ time_octets_from c.args.self _ (omega (arith, signed_arith, abs_of_not_negative))

pub returns-clause-spelled : goal.returns-clause-spelled
returns-clause-spelled c =
    let range : IsTime c.args.self = subst IsTime c.self.view_is c.self.invariant in
    subst (SpellsMoment c.args.self) (sym (returns-clause-exact c)) (time_is_spelled c.args.self range)
