-- The initiation that an initiator begins at an event, and the token that it takes.
use Rattle.std.specs.Prelude.{◌≡◌, ℕ, Bool, true, false, List, [], None, Result, Ok, Err, if◌then◌else◌}
use Rattle.krb_conf.specs.declared.env.Env.{Env}
use Rattle.krb_context.specs.declared.state.KerberosState.{KerberosState}
use Rattle.krb_context.specs.declared.state.KerberosState.TheVariants.{TgtExchange, Preauthentication, ApExchange, Final}
use Rattle.krb_machine.specs.declared.run.Run.TheVariants.{Initiates}
use Rattle.krb_initiator.specs.Beginnings.{BeginsInitiation}
use Rattle.krb_initiator.specs.declared.init_run.InitRun.{InitRun}
use Rattle.krb_initiator.specs.declared.options.InitOptions.{InitOptions}
use Rattle.krb_initiator.specs.declared.seeker.Initiation.{Initiation}
use Rattle.krb_initiator.specs.declared.seeker.InitPhase.TheVariants.{New}
use Rattle.krb_script.specs.declared.input.Input.{Input}
use Rattle.krb_script.specs.declared.input.Input.TheVariants.{Token, Start, KdcReply, KdcFault, Wrap, Unwrap, MakeMic, VerifyMic}
use Rattle.sspi_core.specs.Kinds.{error_of}
use Rattle.sspi_core.specs.declared.cause.Cause.{Cause}
use Rattle.sspi_core.specs.declared.cause.Cause.TheVariants.{Sequence}
use Rattle.sspi_core.specs.declared.draw.Draw.{Draw}
use Rattle.sspi_core.specs.declared.flags.ClientRequestFlags.{ClientRequestFlags}
use Rattle.krb_machine.specs.Exchanges.{OpensExchange}
use Rattle.krb_machine.specs.declared.connection.Connection.{Connection}
use Rattle.krb_machine.specs.declared.reply.Reply.{Reply}
use Rattle.krb_machine.specs.declared.reply.Reply.TheVariants.{Refused}

-- the service has still to be shown a ticket
abbrev pub is_before : KerberosState → Bool
is_before TgtExchange = true
is_before Preauthentication = true
is_before ApExchange = false
is_before Final = false

-- the token that an event brings to an initiator: its start is the empty token, and may come only before the service is shown a
-- ticket
abbrev pub token_heard : KerberosState → Input → Result (List ℕ) Cause
token_heard state (Token octets) = Ok octets
token_heard state Start = if is_before state then Ok [] else Err Sequence
token_heard state (KdcReply octets) = Err Sequence
token_heard state (KdcFault code) = Err Sequence
token_heard state (Wrap message) = Err Sequence
token_heard state (Unwrap message) = Err Sequence
token_heard state (MakeMic payload) = Err Sequence
token_heard state (VerifyMic token payload) = Err Sequence

-- the options of an initiator: its own identity and target, the environment of the service, and no channel bindings
abbrev pub options_of : Connection → Env → ClientRequestFlags → List ℕ → InitOptions
options_of connection env flags token = record {
  flags = flags;
  target = connection.target;
  token = token;
  credentials = connection.context.auth_identity;
  channel_bindings = None;
  env = env;
}

-- the initiator after its first checks: an exchange begins, or it is refused and unchanged
abbrev pub SetsOut : Connection → Draw → Result Initiation Cause → Reply → Connection → Type 0
SetsOut connection draw (Ok initiation) reply next =
    (run : InitRun) × (run.initiation ≡ initiation) × (run.phase ≡ New) × OpensExchange connection (Initiates run) draw reply next
SetsOut connection draw (Err cause) reply next = (reply ≡ Refused (error_of cause)) × (next ≡ connection)

-- an initiator begins the initiation that its state and these options determine
pub record Undertakes (connection : Connection) (options : InitOptions) (draw : Draw) (reply : Reply) (next : Connection) : Type 0 where
  pub answer : Result Initiation Cause
  pub begins : BeginsInitiation connection.context options answer
  pub sets_out : SetsOut connection draw answer reply next
