-- A realm as its lines describe it, and its replies.
use Rattle.std.specs.Prelude.{◌≡◌, ℕ, nat_le, ◌&&◌, Bool, true, List, ◌++◌, Some, None, is_none}
use Rattle.std.specs.List.{flat_map}
use Rattle.krb_crypto.specs.Password.{password_key}
use Rattle.sspi_core.specs.Moments.{last_moment}
use Rattle.krb_kdc.specs.Answering.{Answers}
use Rattle.krb_kdc.specs.Fitting.{is_short, is_short_salt}
use Rattle.krb_kdc.specs.Registers.{size_refusal, principal_refusal, trust_refusal, route_refusal, IsNew, TakesPrincipal, TakesTrust, TakesRoute}
use Rattle.krb_kdc.specs.declared.kdc.Kdc.{Kdc}
use Rattle.krb_kdc.specs.declared.kdc.Principal.{Principal}
use Rattle.krb_kdc.specs.declared.kdc.Trust.{Trust}
use Rattle.krb_kdc.specs.declared.kdc.Route.{Route}
use Rattle.krb_realm.specs.Text.{reply_line}
use Rattle.krb_realm.specs.declared.item.RealmLine.{RealmLine}
use Rattle.krb_realm.specs.declared.item.Entry.{Entry}
use Rattle.krb_realm.specs.declared.item.Entry.TheVariants.{Password, Key, Trust as TrustEntry, Route as RouteEntry}
use Rattle.krb_realm.specs.declared.item.Request.{Request}
use Rattle.krb_realm.specs.declared.realm.Realm.{Realm}

-- a KDC takes this name, and its key has the length of the suite's keys
abbrev pub can_begin : RealmLine → Bool
can_begin line = is_short line.name && is_none (size_refusal line.suite line.tgt_key)

-- the first line names the realm
pub record BeginsRealm (line : RealmLine) (realm : Realm) : Type 0 where
  pub name_is : realm.name ≡ line.name
  pub suite_is : realm.suite ≡ line.suite
  pub is_new : IsNew line.name line.suite line.tgt_key line.skew realm.kdc

-- what a KDC is given
pub data Addition : Type 0 where
  APrincipal : Principal → Addition
  ATrust : Trust → Addition
  ARoute : Route → Addition

-- a KDC does not refuse it
abbrev pub can_add : Kdc → Addition → Bool
can_add kdc (APrincipal principal) = is_short_salt principal.salt && is_none (principal_refusal kdc principal.components principal.key)
can_add kdc (ATrust trust) = is_none (trust_refusal kdc trust.realm trust.key)
can_add kdc (ARoute route) = is_short route.realm && is_none (route_refusal kdc route.service route.realm)

-- one more, and all else as before
abbrev pub TakesAddition : Kdc → Addition → Kdc → Type 0
TakesAddition old (APrincipal principal) new = TakesPrincipal old principal new
TakesAddition old (ATrust trust) new = TakesTrust old trust new
TakesAddition old (ARoute route) new = TakesRoute old route new

pub record HasAdded (old : Kdc) (addition : Addition) (new : Kdc) : Type 0 where
  pub can : can_add old addition ≡ true
  pub takes : TakesAddition old addition new

-- components one after another
abbrev pub end_to_end : List (List ℕ) → List ℕ
end_to_end components = flat_map (λ component. component) components

-- the salt of a principal for which no other salt is named: its realm and its components (RFC 4120, section 4)
abbrev pub salt_of : List ℕ → List (List ℕ) → List ℕ
salt_of realm components = realm ++ end_to_end components

-- a principal whose key is that of its password, and to which the KDC sends its salt
abbrev pub with_password : Realm → List (List ℕ) → List ℕ → Principal
with_password realm components password = record {
  components = components;
  key = password_key realm.suite password (salt_of realm.name components);
  salt = Some (salt_of realm.name components);
}

-- what a line adds
abbrev pub addition_of : Realm → Entry → Addition
addition_of realm (Password components password) = APrincipal (with_password realm components password)
addition_of realm (Key components key) = APrincipal (record { components = components; key = key; salt = None })
addition_of realm (TrustEntry other key) = ATrust (record { realm = other; key = key })
addition_of realm (RouteEntry service other) = ARoute (record { service = service; realm = other })

pub record EntersRealm (old : Realm) (entry : Entry) (new : Realm) : Type 0 where
  pub name_is : new.name ≡ old.name
  pub suite_is : new.suite ≡ old.suite
  pub adds : HasAdded old.kdc (addition_of old entry) new.kdc

-- a moment that a KDC may be asked at
abbrev pub is_moment : ℕ → Bool
is_moment moment = nat_le moment last_moment

-- the line of the KDC's answer to a request
pub record TellsReply (realm : Realm) (request : Request) (text : List ℕ) : Type 0 where
  pub at_moment : is_moment request.draw.moment ≡ true
  pub reply : List ℕ
  pub answers : Answers realm.kdc request.octets request.draw reply
  pub text_is : text ≡ reply_line reply
