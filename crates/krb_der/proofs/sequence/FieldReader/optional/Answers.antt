use Rattle.std.proofs.Common.{ℕ, List, Option, rules, arith, subst}
use Rattle.krb_der.specs.declared.fault.Fault.{Fault}
use Rattle.krb_der.specs.Field.{NoOptionalNext}
use Rattle.krb_der.proofs.sequence.FieldReader.optional.Goals as goal

pub returns-in-Err : goal.returns-in-Err
returns-in-Err g c = record {
  known = search rules;
  row = search rules;
  found = λ e. absurd cc;
  none = λ before after. subst (λ (at : List ℕ × Option Fault). NoOptionalNext c.args.n g.T.Asn1.layout.kind at.0) c.self.view_is (c.in-Err.ensures.shape (grind arith));
}
