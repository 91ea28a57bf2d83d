use Rattle.std.proofs.Common.{sym, ap, ◌∙◌}
use Rattle.krb_der.proofs.Records.{one_spelling_lem}
use Rattle.krb_der.proofs.Field.{spellings_equal, spelling_there}
use Rattle.krb_der.proofs.laws.one_value.Goals as goal

pub returns-clause-one_value : goal.returns-clause-one_value
returns-clause-one_value g c = λ v w a b x y s t e.
    let layout = g.T.Asn1.layout in
    let same = one_spelling_lem layout.kind (layout.view v) (layout.view w) a b x y layout.ascends s t e in
    (same.0, sym (layout.back v) ∙ ap layout.of same.1 ∙ layout.back w)

pub returns-clause-equal : goal.returns-clause-equal
returns-clause-equal g c = λ v a b s t. spellings_equal g.T.Asn1.layout.kind (g.T.Asn1.layout.view v) a b s t

pub returns-clause-has : goal.returns-clause-has
returns-clause-has g c = λ v sound short. spelling_there g.T.Asn1.layout.kind (g.T.Asn1.layout.view v) sound short
