-- Facts that have one proof at most: that a record is complete and short, and that what a grant shows can be sent.
use Rattle.std.specs.Prelude.{ℕ, ◌^◌, List, [], ◌∷◌, Option, Some, None, IfSome}
use Rattle.std.specs.List.{AllByRecursion}
use Rattle.std.specs.Coded.{×_prop, Unit-prop, le_prop}
use Rattle.std.proofs.Common.{ap, ◌∙◌}
use Rattle.krb_der.specs.Layout.{Layout}
use Rattle.krb_der.specs.Schema.{Kind, Fields, Of, Row, integer, error_code, text, octet_string, bits, time, boolean, sequence_of}
use Rattle.krb_der.specs.Schema.{sequence, application, nothing, required, optional, IsComplete, IsCompleteRow}
use Rattle.krb_exchange.specs.declared.kdc_rep.KdcRep.{KdcRep}
use Rattle.krb_messages.specs.Layouts.{principal_name_layout, ticket_layout}
use Rattle.krb_requests.specs.Pieces.{Fits}
use Rattle.krb_as.specs.Granted.{IsSendable}

-- of every value, or of one that is there, a fact that has one proof of each value
pub all-prop : {A : Type 0} (P : A → Type 0) → ((value : A) → IsProp (P value)) → (values : List A) → IsProp (AllByRecursion P values)
all-prop P one [] = Unit-prop
all-prop P one (value ∷ values) = ×_prop (one value) (all-prop P one values)

pub some-prop : {A : Type 0} (P : A → Type 0) → ((value : A) → IsProp (P value)) → (value : Option A) → IsProp (IfSome value P)
some-prop P one None = Unit-prop
some-prop P one (Some value) = one value

mutual
  complete-prop : (kind : Kind) (value : Of kind) → IsProp (IsComplete kind value)
  complete-prop integer octets = le_prop
  complete-prop error_code octets = Unit-prop
  complete-prop text octets = Unit-prop
  complete-prop octet_string octets = Unit-prop
  complete-prop bits value = le_prop
  complete-prop time seconds = Unit-prop
  complete-prop boolean b = Unit-prop
  complete-prop (sequence_of item) values = all-prop (IsComplete item) (λ value. complete-prop item value) values
  complete-prop (sequence fields) row = row-prop fields row
  complete-prop (application n kind) value = complete-prop kind value

  row-prop : (fields : Fields) (row : Row fields) → IsProp (IsCompleteRow fields row)
  row-prop nothing row = Unit-prop
  row-prop (required n kind fields) row = ×_prop (complete-prop kind row.0) (row-prop fields row.1)
  row-prop (optional n kind fields) row = ×_prop (some-prop (IsComplete kind) (λ value. complete-prop kind value) row.0) (row-prop fields row.1)

pub fits-prop : {A : Type 0} (layout : Layout A) (limit : ℕ) (value : A) → IsProp (Fits layout limit value)
fits-prop layout limit value x y =
    ap (λ complete. record { complete = complete; short = x.short }) (complete-prop layout.kind (layout.view value) x.complete y.complete)
    ∙ ap (λ short. record { complete = y.complete; short = short }) (le_prop x.short y.short)

pub sendable-prop : (rep : KdcRep) → IsProp (IsSendable rep)
sendable-prop rep x y =
    ap (λ realm. record { realm = realm; name = x.name; ticket = x.ticket }) (le_prop x.realm y.realm)
    ∙ ap (λ name. record { realm = y.realm; name = name; ticket = x.ticket }) (fits-prop principal_name_layout (2 ^ 24) rep.cname x.name y.name)
    ∙ ap (λ ticket. record { realm = y.realm; name = y.name; ticket = ticket }) (fits-prop ticket_layout (2 ^ 24) rep.ticket x.ticket y.ticket)
