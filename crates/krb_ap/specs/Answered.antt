-- The service's answer, an AP-REP (RFC 4120, section 3.2.5; RFC 4121, section 4.1), to which the initiator replies in DCE style
-- (MS-KILE, section 3.4.5.1).
use Rattle.std.specs.Prelude.{ℕ, ◌%◌, ◌&&◌, ◌||◌, not, pos, nat_le, Bool, true, false, is_some, List, [], ◌∷◌, length, take, Option, Some, None, option_map, Result, if◌then◌else◌}
use Rattle.std.specs.Ordering.{int_eq}
use Rattle.krb_der.specs.Layout.{spelling}
use Rattle.krb_crypto.specs.declared.suite.CipherSuite.{CipherSuite}
use Rattle.krb_messages.specs.Frame.{IsFrame}
use Rattle.krb_messages.specs.Layouts.{ap_rep_layout}
use Rattle.krb_messages.specs.declared.ap_rep.ApRep.{ApRep}
use Rattle.krb_messages.specs.declared.ap_rep.EncApRepPart.{EncApRepPart}
use Rattle.krb_messages.specs.declared.encryption.EncryptionKey.{EncryptionKey}
use Rattle.krb_context.specs.Rules.{has_rule, ap_rep_without_subkey, answers_its_authenticator}
use Rattle.krb_requests.specs.Pieces.{whole_second}
use Rattle.krb_context.specs.Params.{suite_of, or_else}
use Rattle.krb_context.specs.declared.context.ContextChange.{ContextChange}
use Rattle.krb_context.specs.declared.state.KerberosState.TheVariants.{Final}
use Rattle.sspi_core.specs.declared.results.SecurityStatus.TheVariants.{Ok as Complete}
use Rattle.sspi_core.specs.declared.draw.Draw.{Draw}
use Rattle.sspi_core.specs.declared.cause.Cause.{Cause}
use Rattle.sspi_core.specs.declared.cause.Cause.TheVariants.{Shape, Reply, ReplyTime, NoSubKey, NoNumber}
use Rattle.sspi_core.specs.Checks.{Finds, Gives, Holds, Takes, ◌>>=◌, ◌>>◌}
use Rattle.krb_replies.specs.Unseals.{IsRead}
use Rattle.krb_replies.specs.Fresh.{is_number}
use Rattle.krb_replies.specs.Answered.{OpensApRep}
use Rattle.krb_as.specs.declared.done.InitDone.{InitDone}
use Rattle.krb_ap.specs.declared.initiator.Initiator.{Initiator}
use Rattle.krb_ap.specs.Initiators.{is_bare, settled_number}
use Rattle.krb_ap.specs.ApReps.{ap_rep_part, ap_rep}

-- the token is a frame of this AP-REP, whatever mechanism it names
pub record IsFramedApRep (token : List ℕ) (message : ApRep) : Type 0 where
  pub oid : List ℕ
  pub octets : List ℕ
  pub frame : IsFrame oid (2 ∷ 0 ∷ []) octets token
  pub read : IsRead ap_rep_layout octets message

-- the token is this AP-REP: bare in DCE style, otherwise framed
abbrev pub IsApRep : Bool → List ℕ → ApRep → Type 0
IsApRep true token message = IsRead ap_rep_layout token message
IsApRep false token message = IsFramedApRep token message

-- the AP-REP in a token, which has at most 2^24 octets
unfoldable pub ReadsApRep : Bool → List ℕ → Result ApRep Cause → Type 0
ReadsApRep dce token = do
  Holds Shape (nat_le (length token) 16777216)
  Finds Shape (IsApRep dce token)

-- the context is established, with this subkey, which is the service's or not: the rest of it stays
abbrev pub established : Initiator → Bool → List ℕ → ℕ → ℕ → ContextChange
established initiator from_service subkey ec number = record {
  state = Final;
  realm = initiator.realm;
  encryption_params = record initiator.params { sub_session_key = Some subkey; ec = ec; acceptor_subkey = from_service };
  seq_number = number;
  krb5_user_to_user = initiator.user_to_user;
  asked_at = initiator.asked_at;
  ticket_decryption_key = None;
}

-- the end without DCE style, with no further token
abbrev pub confirmed : Initiator → Bool → List ℕ → InitDone
confirmed initiator from_service subkey = record {
  status = Complete;
  token = [];
  change = established initiator from_service subkey initiator.params.ec (settled_number initiator);
}

-- the third leg: an AP-REP with the service's sequence number under the session key; the first 16 random octets are the confounder
unfoldable pub last_word : CipherSuite → List ℕ → List ℕ → Draw → List ℕ
last_word suite key number draw = spelling ap_rep_layout (ap_rep suite key (take 16 draw.random) (ap_rep_part number draw.moment))

-- the end in DCE style: the third leg is the token, the context's sequence number stays, and EC is 16 in Wrap tokens
abbrev pub replied : Initiator → List ℕ → Bool → List ℕ → List ℕ → Draw → InitDone
replied initiator key from_service subkey number draw = record {
  status = Complete;
  token = last_word (suite_of initiator.params) key number draw;
  change = established initiator from_service subkey 16 initiator.number;
}

-- the subkey that the service chose
abbrev pub subkey_in : Option EncryptionKey → Option (List ℕ)
subkey_in subkey = option_map (λ (k : EncryptionKey). k.key_value) subkey

-- if a rule allows that the service chose none, the authenticator's own, which the context keeps (RFC 4121, section 2)
abbrev pub own_subkey : Initiator → Option (List ℕ)
own_subkey initiator = if has_rule initiator.rules ap_rep_without_subkey then initiator.params.sub_session_key else None

abbrev pub chosen_subkey : Initiator → Option EncryptionKey → Option (List ℕ)
chosen_subkey initiator subkey = or_else (subkey_in subkey) (own_subkey initiator)

-- without DCE style the AP-REP needs a subkey
unfoldable pub Confirms : Initiator → Option EncryptionKey → Result InitDone Cause → Type 0
Confirms initiator subkey = do
  key ← Takes NoSubKey (chosen_subkey initiator subkey)
  Gives (confirmed initiator (is_some subkey) key)

-- in DCE style it needs a subkey and a sequence number
unfoldable pub Replies : Initiator → List ℕ → Option EncryptionKey → Option (List ℕ) → Draw → Result InitDone Cause → Type 0
Replies initiator key subkey number draw = do
  chosen ← Takes NoSubKey (chosen_subkey initiator subkey)
  number ← Takes NoNumber number
  Gives (replied initiator key (is_some subkey) chosen number draw)

abbrev pub FinishesInitiation : Bool → Initiator → List ℕ → EncApRepPart → Draw → Result InitDone Cause → Type 0
FinishesInitiation true initiator key part draw answer = Replies initiator key part.subkey part.seq_number draw answer
FinishesInitiation false initiator key part draw answer = Confirms initiator part.subkey answer

-- the AP-REP has the time of the authenticator that was shown at this moment, by the values of both its fields (RFC 4120, section 3.2.5)
abbrev pub is_time_of : EncApRepPart → ℕ → Bool
is_time_of part moment = int_eq part.ctime (whole_second moment) && is_number part.cusec (pos (moment % 1000000))

-- nothing has the time of an authenticator that was not shown
abbrev pub answers_at : Option ℕ → EncApRepPart → Bool
answers_at None part = false
answers_at (Some moment) part = is_time_of part moment

-- by a rule, an AP-REP has the time of its authenticator
abbrev pub answers_authenticator : Initiator → EncApRepPart → Bool
answers_authenticator initiator part = not (has_rule initiator.rules answers_its_authenticator) || answers_at initiator.asked_at part

-- the service's answer: the part with the subkey and the sequence number is encrypted under the session key, in the context's
-- suite, and nothing is encrypted under a key that is not there
unfoldable pub TakesApRep : Initiator → List ℕ → Draw → Result InitDone Cause → Type 0
TakesApRep initiator token draw = do
  message ← ReadsApRep (is_bare initiator.flags) token
  key ← Takes Reply initiator.params.session_key
  part ← OpensApRep (suite_of initiator.params) key message
  Holds ReplyTime (answers_authenticator initiator part)
  FinishesInitiation (is_bare initiator.flags) initiator key part draw
