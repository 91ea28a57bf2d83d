-- The ETYPE-INFO2 of a KDC, which lists the client's encryption types and salts (RFC 4120, section 5.2.7.5).
use Rattle.std.specs.Prelude.{◌≡◌, ◌==◌, List, [], ◌∷◌, Option, Some, None}
use Rattle.std.specs.List.{find}
use Rattle.std.specs.Cmp.Lexicographic.{pointwise}
use Rattle.krb_der.specs.Layout.{items_layout}
use Rattle.krb_exchange.specs.declared.pa_data.PaData.{PaData}
use Rattle.krb_exchange.specs.declared.pa_data.EtypeInfo2Entry.{EtypeInfo2Entry}
use Rattle.krb_exchange.specs.Layouts.{etype_info2_entry_layout}
use Rattle.krb_replies.specs.Unseals.{IsRead}

-- the first element of type 19
abbrev pub etype_info2 : List PaData → Option PaData
etype_info2 elements = find (λ element. pointwise ◌==◌ element.padata_type (0x13 ∷ [])) elements

-- its entries, the best first, or none where there is no such element
abbrev pub IsInfo2 : Option PaData → Option (List EtypeInfo2Entry) → Type 0
IsInfo2 None entries = entries ≡ None
IsInfo2 (Some element) None = ⊥
IsInfo2 (Some element) (Some entries) = IsRead (items_layout etype_info2_entry_layout) element.padata_value entries
