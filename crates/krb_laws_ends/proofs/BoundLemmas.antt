-- The demands of an acceptor's rules: an initiator sends the bindings that it has, a valid ticket of a client with a user name fits
-- any rules, and contexts without rules ask for a user name alone.
use Rattle.std.proofs.Common.{◌≡◌, ℕ, Bool, true, false, List, [], ◌∷◌, ◌++◌, length, take, drop, Option, refl, sym, subst, ap, ◌∙◌, arith, length-append}
use Rattle.std.specs.Prelude.{Some, None, ◌==◌, ◌||◌, not, nat_le, is_some, if◌then◌else◌}
use Rattle.std.specs.Cmp.Lexicographic.{pointwise}
use Rattle.std.proofs.lemmas.Bool.{le-leb, or_right}
use Rattle.std.proofs.lemmas.List.{take_all, take-append-le}
use Rattle.krb_messages.specs.declared.encryption.Checksum.{Checksum}
use Rattle.krb_messages.specs.declared.enc_ticket_part.EncTicketPart.{EncTicketPart}
use Rattle.krb_messages.specs.declared.principal_name.PrincipalName.{PrincipalName}
use Rattle.krb_context.specs.Options.{gss_flags_of, gss_deleg}
use Rattle.bitflags.specs.Sets.{without}
use Rattle.krb_context.specs.Rules.{has_rule, no_rules, bound_to_its_channel, clients_of_any_name, valid_tickets, checked_transit}
use Rattle.krb_context.specs.declared.context.Kerberos.{Kerberos}
use Rattle.krb_context.specs.declared.rules.Rules.{Rules}
use Rattle.krb_authenticators.specs.Authenticators.{checksum}
use Rattle.krb_authenticators.specs.Bindings.{bindings_hash}
use Rattle.krb_authenticators.specs.Checksums.{default_value, with_flags, with_hash}
use Rattle.krb_authenticators.proofs.Lengths.{length-hash}
use Rattle.krb_ap.specs.Shown.{gss_checksum}
use Rattle.krb_admission.specs.Allowed.{is_gss, hash_told, is_invalid, is_direct, is_policy_checked, channel_held}
use Rattle.krb_admission.specs.Clients.{client_by, client_of, user_of, is_known_client, has_component}
use Rattle.sspi_core.specs.declared.bindings.ChannelBindings.{ChannelBindings}
use Rattle.sspi_core.specs.Usernames.{UserName}
use Rattle.krb_laws_ends.specs.Offers.{FitsRules, IsBoundTo, MeetsChannel}
use Rattle.krb_laws_ends.proofs.HonestLemmas.{same_octets}

-- ---- the checksum of an initiator

-- it is read as it was written
module _ (flags : ℕ) (hash : List ℕ) (size : length hash ≡ 16) where
  abbrev value : List ℕ
  value = with_hash (with_flags default_value flags) hash

  abbrev told : Checksum
  told = record { cksumtype = 0x00 ∷ 0x80 ∷ 0x03 ∷ []; checksum = value }

  long : nat_le 24 (length value) ≡ true
  long =
      let back : List ℕ = drop 20 (with_flags default_value flags) in
      let few : length back ≡ 4 = refl in
      le-leb 24 (length value) (omega (arith, length-append hash back, size, few))

  is_told : is_gss told ≡ true
  is_told = rw long refl

  hash_is : hash_told (Some told) ≡ hash
  hash_is =
      let back : List ℕ = drop 20 (with_flags default_value flags) in
      ap (λ (b : Bool). if b then take 16 (hash ++ back) else []) is_told
      ∙ (take-append-le 16 hash back (omega (arith, size)) ∙ take_all 16 hash (omega (arith, size)))

-- the bindings in the initiator's checksum are its own
pub bound_to : (held : Option (List ℕ)) (bindings : Option ChannelBindings) (flags : ℕ) → MeetsChannel held bindings
    → IsBoundTo held (Some (checksum bindings (gss_checksum flags)))
bound_to None bindings flags meets = record { tells = refl; same = refl }
bound_to (Some hash) None flags meets = absurd cc
bound_to (Some hash) (Some bindings) flags meets =
    let own : List ℕ = bindings_hash bindings in
    let is : own ≡ hash = cc in
    let size : length own ≡ 16 = length-hash bindings in
    let mask : ℕ = without 32 (gss_flags_of flags) gss_deleg in record {
      tells = is_told mask own size;
      same = ap (λ (told : List ℕ). pointwise ◌==◌ told hash) (hash_is mask own size ∙ is) ∙ same_octets hash;
    }

-- ---- what rules ask of a ticket

has_first : (name_type : List ℕ) (components : List (List ℕ)) (realm : List ℕ) (user : UserName) → client_by name_type components realm ≡ Some user
    → has_component components ≡ true
has_first name_type [] realm user e = absurd cc
has_first name_type (first ∷ rest) realm user e = refl

-- a client with a user name is known under any rules
known_by : (rules : Rules) (name : PrincipalName) (realm : List ℕ) (user : UserName) → client_of name realm ≡ Some user → is_known_client rules name realm ≡ true
unfolding client_of
known_by rules name realm user named = go (has_rule rules clients_of_any_name)
  where
    go : (any : Bool) → (if any then has_component name.name_string else is_some (client_of name realm)) ≡ true
    go true = has_first name.name_type name.name_string realm user named
    go false = ap is_some named

-- and a valid ticket that came through no further realms fits them
pub fits_any : (rules : Rules) (part : EncTicketPart) (user : UserName) → is_invalid part.flags.octets ≡ false → is_direct part.transited.contents ≡ true
    → client_of part.cname part.crealm ≡ Some user → FitsRules rules part
fits_any rules part user valid direct named = record {
  validated = or_right (not (has_rule rules valid_tickets)) (not (is_invalid part.flags.octets)) (ap not valid);
  transit_checked =
      or_right (not (has_rule rules checked_transit)) (is_direct part.transited.contents || is_policy_checked part.flags.octets)
      (ap (λ (b : Bool). b || is_policy_checked part.flags.octets) direct);
  known = known_by rules part.cname part.crealm user named;
}

-- ---- contexts without rules

-- such a context asks for a user name alone
pub fits_none : (part : EncTicketPart) (user : UserName) → client_of part.cname part.crealm ≡ Some user → FitsRules no_rules part
fits_none part user named = record { validated = refl; transit_checked = refl; known = known_by no_rules part.cname part.crealm user named }

-- which is the one that it has of its client
pub user_none : (name : PrincipalName) (realm : List ℕ) → user_of no_rules name realm ≡ client_of name realm
user_none name realm = refl

-- and holds nobody to a channel
pub meets_unasked : (server : Kerberos) (bindings : Option ChannelBindings) → server.rules ≡ no_rules → MeetsChannel (channel_held server) bindings
meets_unasked server bindings none =
    subst (λ (rules : Rules). MeetsChannel (if has_rule rules bound_to_its_channel then server.channel else None) bindings) (sym none) tt

-- nor does one that has no channel
pub meets_none : (server : Kerberos) (bindings : Option ChannelBindings) → server.channel ≡ None → MeetsChannel (channel_held server) bindings
meets_none server bindings none = go (has_rule server.rules bound_to_its_channel) server.channel none
  where
    go : (b : Bool) (channel : Option (List ℕ)) → channel ≡ None → MeetsChannel (if b then channel else None) bindings
    go true None e = tt
    go true (Some hash) e = absurd cc
    go false channel e = tt
