-- The actions that a state allows.
use Rattle.std.specs.Prelude.{Bool, true, false}
use Rattle.krb_context.specs.declared.state.KerberosState.{KerberosState}
use Rattle.krb_context.specs.declared.state.KerberosState.TheVariants.{TgtExchange, Preauthentication, ApExchange, Final}

-- an AP-REQ may come
abbrev pub is_waiting : KerberosState → Bool
is_waiting TgtExchange = true
is_waiting Preauthentication = true
is_waiting ApExchange = false
is_waiting Final = false

-- messages can be sealed
abbrev pub is_final : KerberosState → Bool
is_final TgtExchange = false
is_final Preauthentication = false
is_final ApExchange = false
is_final Final = true
