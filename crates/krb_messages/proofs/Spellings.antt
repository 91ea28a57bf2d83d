-- One spelling a record, for every layout.
use Rattle.std.proofs.Common.{sym, ap, ◌∙◌}
use Rattle.krb_der.specs.Layout.{Layout}
use Rattle.krb_der.proofs.Records.{one_spelling_lem}
use Rattle.krb_der.proofs.Field.{spellings_equal, spelling_there}
use Rattle.krb_messages.specs.OneSpelling.{HasOneSpelling}

pub one_spelling_of : {A : Type 0} (layout : Layout A) → HasOneSpelling layout
one_spelling_of layout = record {
  one_record = λ x y a b rest after p q e.
      let same = one_spelling_lem layout.kind (layout.view x) (layout.view y) a b rest after layout.ascends p q e in
      (same.0, sym (layout.back x) ∙ ap layout.of same.1 ∙ layout.back y);
  equal = λ x. spellings_equal layout.kind (layout.view x);
  has = λ x. spelling_there layout.kind (layout.view x);
}
