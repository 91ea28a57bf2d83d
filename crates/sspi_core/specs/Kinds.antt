-- The kind of each cause, and of each code of a KRB-ERROR.
use Rattle.std.specs.Prelude.{ℕ, List, [], ◌∷◌, ◌==◌, if◌then◌else◌}
use Rattle.std.specs.List.{list_any}
use Rattle.sspi_core.specs.declared.error.Error.{Error}
use Rattle.sspi_core.specs.declared.error.Place.{Place}
use Rattle.sspi_core.specs.declared.error.Place.TheVariants.{Query, MakeMic, Elsewhere}
use Rattle.sspi_core.specs.declared.kind.ErrorKind.{ErrorKind}
use Rattle.sspi_core.specs.declared.kind.ErrorKind.TheVariants.{InvalidToken, InvalidParameter, InvalidHandle, OutOfSequence, BufferTooSmall, DecryptFailure, EncryptFailure, MessageAltered}
use Rattle.sspi_core.specs.declared.kind.ErrorKind.TheVariants.{TimeSkew, ContextExpired, IncompleteCredentials, NoCredentials, UnknownCredentials, WrongCredentialHandle, UnsupportedPreAuth}
use Rattle.sspi_core.specs.declared.kind.ErrorKind.TheVariants.{NoAuthenticatingAuthority, KdcInvalidRequest, KdcCertRevoked, NoKerbKey, NoTgtReply, MutualAuthFailed, TooManyPrincipals}
use Rattle.sspi_core.specs.declared.kind.ErrorKind.TheVariants.{OperationNotSupported, UnsupportedFunction, InternalError, Unknown, OutOfMemory}
use Rattle.sspi_core.specs.declared.cause.Cause.{Cause}
use Rattle.sspi_core.specs.declared.cause.Cause.TheVariants.{Memory, Moment, Connection, Role, Sequence, Shape, NoServiceKey, Etype, KeyLength, Short, Altered, Inner, Names, Skew, NotYet, Expired}
use Rattle.sspi_core.specs.declared.cause.Cause.TheVariants.{Replayed, ClientName, ApOptions, SubKey, Credentials, ServerName, KeytabUser, NotAscii, Reply, NoNumber, Number, NoSubKey, NoTarget, Target}
use Rattle.sspi_core.specs.declared.cause.Cause.TheVariants.{NoIdentity, NoKdc, Scheme, Network, ReplyShort, EarlyAsRep, Kdc, EtypeEntry, Salt, Hops, SameRealm, Port, Nonce, ReplyNames, ReplyTime, Transited, UserData, ResultCode, Buffers}
use Rattle.sspi_core.specs.declared.cause.Cause.TheVariants.{TooSmall, Header, Direction, ExtraCount, Room, Old, Repeated, Sealed, NoKey, Checksum, Bindings, BadUser, Unsupported, Suspended}

-- the table of codes: each kind with its codes
abbrev pub code_table : List (ErrorKind × List ℕ)
code_table =
    (InvalidParameter, 1 ∷ 2 ∷ 23 ∷ 38 ∷ 52 ∷ 62 ∷ 63 ∷ 66 ∷ 71 ∷ 75 ∷ 76 ∷ []) ∷
    (KdcInvalidRequest, 3 ∷ 10 ∷ 11 ∷ 12 ∷ 13 ∷ 15 ∷ 16 ∷ 17 ∷ 24 ∷ 25 ∷ 26 ∷ 27 ∷ 28 ∷ 29 ∷ 34 ∷ 36 ∷ 39 ∷ 44 ∷ 51 ∷ 61 ∷ 69 ∷ 70 ∷ []) ∷
    (EncryptFailure, 4 ∷ 5 ∷ 9 ∷ 65 ∷ []) ∷
    (UnknownCredentials, 6 ∷ 7 ∷ 18 ∷ 19 ∷ 20 ∷ 21 ∷ 22 ∷ []) ∷
    (TooManyPrincipals, 8 ∷ []) ∷
    (OperationNotSupported, 14 ∷ []) ∷
    (MessageAltered, 31 ∷ 41 ∷ 64 ∷ []) ∷
    (ContextExpired, 32 ∷ []) ∷
    (InvalidToken, 33 ∷ 35 ∷ 40 ∷ 48 ∷ 50 ∷ []) ∷
    (TimeSkew, 37 ∷ []) ∷
    (OutOfSequence, 42 ∷ 47 ∷ 49 ∷ []) ∷
    (NoKerbKey, 45 ∷ []) ∷
    (MutualAuthFailed, 46 ∷ []) ∷
    (InternalError, 60 ∷ 73 ∷ 74 ∷ []) ∷
    (NoTgtReply, 67 ∷ []) ∷
    (NoAuthenticatingAuthority, 68 ∷ []) ∷
    (KdcCertRevoked, 72 ∷ []) ∷
    []

-- the kind of the row that has the code
abbrev pub kind_in : List (ErrorKind × List ℕ) → ℕ → ErrorKind
kind_in [] code = Unknown
kind_in (row ∷ rows) code = if list_any (λ c. c == code) row.1 then row.0 else kind_in rows code

-- the kind of a KRB-ERROR with this code
unfoldable pub kind_of_code : ℕ → ErrorKind
kind_of_code code = kind_in code_table code

-- the kind that a cause belongs to
abbrev pub kind_of : Cause → ErrorKind
kind_of Memory = OutOfMemory
kind_of Moment = InvalidParameter
kind_of Connection = InvalidHandle
kind_of Role = InvalidParameter
kind_of Sequence = OutOfSequence
kind_of Shape = InvalidToken
kind_of NoServiceKey = InvalidToken
kind_of Etype = InvalidParameter
kind_of KeyLength = InvalidParameter
kind_of Short = DecryptFailure
kind_of Altered = MessageAltered
kind_of Inner = InvalidToken
kind_of Names = InvalidToken
kind_of Skew = TimeSkew
kind_of NotYet = InvalidToken
kind_of Expired = InvalidToken
kind_of Replayed = InvalidToken
kind_of ClientName = InvalidToken
kind_of ApOptions = InvalidToken
kind_of SubKey = InvalidParameter
kind_of Credentials = IncompleteCredentials
kind_of ServerName = InvalidToken
kind_of KeytabUser = UnsupportedPreAuth
kind_of NotAscii = InternalError
kind_of Reply = DecryptFailure
kind_of NoNumber = InvalidToken
kind_of Number = InvalidToken
kind_of NoSubKey = InvalidToken
kind_of NoTarget = NoCredentials
kind_of Target = InvalidParameter
kind_of NoIdentity = WrongCredentialHandle
kind_of NoKdc = NoAuthenticatingAuthority
kind_of Scheme = InvalidParameter
kind_of (Network code) = NoAuthenticatingAuthority
kind_of ReplyShort = InternalError
kind_of EarlyAsRep = InvalidToken
kind_of (Kdc code) = kind_of_code code
kind_of EtypeEntry = InvalidParameter
kind_of Salt = InvalidParameter
kind_of Hops = NoAuthenticatingAuthority
kind_of SameRealm = NoAuthenticatingAuthority
kind_of Port = InvalidParameter
kind_of Nonce = InvalidToken
kind_of ReplyNames = InvalidToken
kind_of ReplyTime = TimeSkew
kind_of Transited = InvalidToken
kind_of UserData = InvalidToken
kind_of (ResultCode code) = WrongCredentialHandle
kind_of Buffers = InvalidToken
kind_of TooSmall = BufferTooSmall
kind_of Header = InvalidToken
kind_of Direction = InvalidToken
kind_of ExtraCount = InvalidToken
kind_of Room = DecryptFailure
kind_of Old = OutOfSequence
kind_of Repeated = OutOfSequence
kind_of Sealed = InvalidToken
kind_of NoKey = DecryptFailure
kind_of Checksum = InvalidParameter
kind_of Bindings = InvalidToken
kind_of BadUser = InvalidParameter
kind_of Unsupported = UnsupportedFunction
kind_of Suspended = UnsupportedFunction

-- no identity in a query or at a handle
abbrev pub kind_in_query : Cause → ErrorKind
kind_in_query NoIdentity = NoCredentials
kind_in_query cause = kind_of cause

-- no subkey to make a MIC token with
abbrev pub kind_in_mic : Cause → ErrorKind
kind_in_mic NoSubKey = InternalError
kind_in_mic cause = kind_of cause

-- the kind that a cause has at a place
abbrev pub kind_at : Place → Cause → ErrorKind
kind_at Query cause = kind_in_query cause
kind_at MakeMic cause = kind_in_mic cause
kind_at Elsewhere cause = kind_of cause

abbrev pub error_at : Place → Cause → Error
error_at place cause = record { error_type = kind_at place cause; cause = cause }

abbrev pub error_of : Cause → Error
error_of cause = record { error_type = kind_of cause; cause = cause }
