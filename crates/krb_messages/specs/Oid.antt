-- Object identifiers, by the octets of their contents (X.690 8.19).
use Rattle.std.specs.Prelude.{◌≢◌, ℕ, List, [], ◌∷◌}
use Rattle.krb_messages.specs.declared.oid.Oid.{Oid}
use Rattle.krb_messages.specs.declared.oid.Oid.TheVariants.{Krb5, MsKrb5, UserToUser, Other}

-- 1.2.840.113554.1.2.2, the Kerberos mechanism (RFC 1964 1, RFC 4121 4.1)
abbrev pub krb5_oid : List ℕ
krb5_oid = 0x2a ∷ 0x86 ∷ 0x48 ∷ 0x86 ∷ 0xf7 ∷ 0x12 ∷ 0x01 ∷ 0x02 ∷ 0x02 ∷ []

-- 1.2.840.48018.1.2.2, the same as Windows first spelled it (MS-SPNG 2.2.1)
abbrev pub ms_krb5_oid : List ℕ
ms_krb5_oid = 0x2a ∷ 0x86 ∷ 0x48 ∷ 0x82 ∷ 0xf7 ∷ 0x12 ∷ 0x01 ∷ 0x02 ∷ 0x02 ∷ []

-- 1.2.840.113554.1.2.2.3, user-to-user (draft-swift-win2k-krb-user2user 3)
abbrev pub user_to_user_oid : List ℕ
user_to_user_oid = 0x2a ∷ 0x86 ∷ 0x48 ∷ 0x86 ∷ 0xf7 ∷ 0x12 ∷ 0x01 ∷ 0x02 ∷ 0x02 ∷ 0x03 ∷ []

abbrev pub contents_of : Oid → List ℕ
contents_of Krb5 = krb5_oid
contents_of MsKrb5 = ms_krb5_oid
contents_of UserToUser = user_to_user_oid
contents_of (Other contents) = contents.now

-- One that has a name goes by it.
abbrev pub IsByName : Oid → Type 0
IsByName Krb5 = Unit {0}
IsByName MsKrb5 = Unit {0}
IsByName UserToUser = Unit {0}
IsByName (Other contents) = (contents.now ≢ krb5_oid) × (contents.now ≢ ms_krb5_oid) × (contents.now ≢ user_to_user_oid)
