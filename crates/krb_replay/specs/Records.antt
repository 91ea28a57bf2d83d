-- When two records are the same, and which comes first.
use Rattle.std.specs.Prelude.{◌≡◌, Bool, false, ◌&&◌, List, [], ◌∷◌, ⊤, nat_eq}
use Rattle.std.specs.List.{list_any}
use Rattle.std.specs.Ordering.{int_cmp, int_eq, nat_cmp, ordering_then}
use Rattle.std.specs.Cmp.Lexicographic.{slice_cmp, pointwise}
use Rattle.std.specs.declared.cmp.Ordering.{Ordering}
use Rattle.krb_messages.specs.declared.principal_name.PrincipalName.{PrincipalName}
use Rattle.krb_replay.specs.declared.record.Record.{Record}
use Rattle.krb_replay.specs.declared.ask.Ask.{Ask}

-- two names are the same where their types' octets and their components are
abbrev pub principal_eq : PrincipalName → PrincipalName → Bool
principal_eq a b = pointwise nat_eq a.name_type b.name_type && pointwise (pointwise nat_eq) a.name_string b.name_string

-- two records are the same where all six parts are: the time, its microseconds, the realm, the name's type and its components, and the tag
abbrev pub record_eq : Record → Record → Bool
record_eq a b = int_eq a.ctime b.ctime && (pointwise nat_eq a.cusec b.cusec && (pointwise nat_eq a.realm b.realm && (principal_eq a.name b.name && pointwise nat_eq a.tag b.tag)))

-- two asks are the same where all five parts are
abbrev pub ask_eq : Ask → Ask → Bool
ask_eq a b = record_eq a.entry b.entry && (principal_eq a.sname b.sname && (int_eq a.start b.start && (int_eq a.end b.end && nat_eq a.moment b.moment)))

-- whether the same record is in the list
abbrev pub has_record : List Record → Record → Bool
has_record records entry = list_any (λ x. record_eq x entry) records

-- no record is there twice
abbrev pub IsDistinct : List Record → Type 0
IsDistinct [] = ⊤
IsDistinct (x ∷ xs) = (has_record xs x ≡ false) × IsDistinct xs

-- by the name's type, and then by its components
abbrev pub principal_cmp : PrincipalName → PrincipalName → Ordering
principal_cmp a b = ordering_then (slice_cmp nat_cmp a.name_type b.name_type) (slice_cmp (slice_cmp nat_cmp) a.name_string b.name_string)

-- by the time, its microseconds, the realm, the name, and the tag
abbrev pub record_cmp : Record → Record → Ordering
record_cmp a b = ordering_then (int_cmp a.ctime b.ctime) (ordering_then (slice_cmp nat_cmp a.cusec b.cusec)
    (ordering_then (slice_cmp nat_cmp a.realm b.realm) (ordering_then (principal_cmp a.name b.name) (slice_cmp nat_cmp a.tag b.tag))))
