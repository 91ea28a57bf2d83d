-- The mechanisms that a client names (RFC 4121, section 4.1; MS-SPNG, section 2.2.1).
use Rattle.std.specs.Prelude.{List, [], ◌∷◌}
use Rattle.krb_messages.specs.declared.oid.Oid.{Oid}
use Rattle.krb_messages.specs.declared.oid.Oid.TheVariants.{Krb5, MsKrb5}

-- the best one first
abbrev pub mech_list : List Oid
mech_list = MsKrb5 ∷ Krb5 ∷ []
