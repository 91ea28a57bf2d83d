-- The service of an acceptor, and its keys by the components of a name.
use Rattle.std.specs.Prelude.{◌≡◌, ◌⊎◌, ℕ, Bool, false, List, [], ◌∷◌, Option, None, if◌then◌else◌}
use Rattle.std.specs.List.{list_all}
use Rattle.krb_der.specs.Schema.{is_ascii}
use Rattle.krb_messages.specs.declared.principal_name.PrincipalName.{PrincipalName}
use Rattle.sspi_core.specs.declared.cause.Cause.TheVariants.{Memory, NotAscii}
use Rattle.sspi_core.specs.declared.error.Error.{Error}
use Rattle.sspi_core.specs.declared.identity.CredentialsBuffers.{CredentialsBuffers}
use Rattle.sspi_core.specs.Kinds.{error_of}
use Rattle.krb_context.specs.declared.server.ServerProperties.{ServerProperties}
use Rattle.krb_context.specs.AdditionalKeys.{same_components, additional_key}
use Rattle.krb_context.specs.Params.{or_else}

abbrev pub all_ascii : List (List ℕ) → Bool
all_ascii parts = list_all (λ part. is_ascii part) parts

-- a component is past ASCII, or memory ran out
abbrev pub IsNotAscii : List (List ℕ) → Error → Type 0
IsNotAscii parts error = ((error ≡ error_of NotAscii) × (all_ascii parts ≡ false)) ⊎ (error ≡ error_of Memory)

-- a name of type 2, a service and its instance (RFC 4120, section 6.2)
abbrev pub service_named : List (List ℕ) → PrincipalName
service_named parts = record { name_type = 2 ∷ []; name_string = parts }

abbrev pub new_properties : List (List ℕ) → Option CredentialsBuffers → ℕ → Option (List ℕ) → ServerProperties
new_properties parts user skew key = record {
  service_name = service_named parts;
  user = user;
  client = None;
  max_time_skew = skew;
  ticket_decryption_key = key;
  additional_service_keys = [];
}

-- the key of a service: the primary key if the primary name has these components and there is one, otherwise the key of the first
-- further name with these components
unfoldable pub service_key : ServerProperties → List (List ℕ) → Option (List ℕ)
service_key server components =
    or_else
    (if same_components server.service_name.name_string components then server.ticket_decryption_key else None)
    (additional_key server.additional_service_keys components)
