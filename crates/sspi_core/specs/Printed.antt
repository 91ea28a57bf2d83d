-- How kinds and causes are printed.
use Rattle.std.specs.Prelude.{ℕ, List, ◌++◌, codes}
use Rattle.std.specs.Fmt.{decimal}
use Rattle.sspi_core.specs.declared.error.Error.{Error}
use Rattle.sspi_core.specs.declared.kind.ErrorKind.{ErrorKind}
use Rattle.sspi_core.specs.declared.kind.ErrorKind.TheVariants.{InvalidToken, InvalidParameter, InvalidHandle, OutOfSequence, BufferTooSmall, DecryptFailure, EncryptFailure, MessageAltered}
use Rattle.sspi_core.specs.declared.kind.ErrorKind.TheVariants.{TimeSkew, ContextExpired, IncompleteCredentials, NoCredentials, UnknownCredentials, WrongCredentialHandle, UnsupportedPreAuth}
use Rattle.sspi_core.specs.declared.kind.ErrorKind.TheVariants.{NoAuthenticatingAuthority, KdcInvalidRequest, KdcCertRevoked, NoKerbKey, NoTgtReply, MutualAuthFailed, TooManyPrincipals}
use Rattle.sspi_core.specs.declared.kind.ErrorKind.TheVariants.{OperationNotSupported, UnsupportedFunction, InternalError, Unknown, OutOfMemory}
use Rattle.sspi_core.specs.declared.cause.Cause.{Cause}
use Rattle.sspi_core.specs.declared.cause.Cause.TheVariants.{Memory, Moment, Connection, Role, Sequence, Shape, NoServiceKey, Etype, KeyLength, Short, Altered, Inner, Names, Skew, NotYet, Expired}
use Rattle.sspi_core.specs.declared.cause.Cause.TheVariants.{Replayed, ClientName, ApOptions, SubKey, Credentials, ServerName, KeytabUser, NotAscii, Reply, NoNumber, Number, NoSubKey, NoTarget, Target}
use Rattle.sspi_core.specs.declared.cause.Cause.TheVariants.{NoIdentity, NoKdc, Scheme, Network, ReplyShort, EarlyAsRep, Kdc, EtypeEntry, Salt, Hops, SameRealm, Port, Nonce, ReplyNames, ReplyTime, Transited, UserData, ResultCode, Buffers}
use Rattle.sspi_core.specs.declared.cause.Cause.TheVariants.{TooSmall, Header, Direction, ExtraCount, Room, Old, Repeated, Sealed, NoKey, Checksum, Bindings, BadUser, Unsupported, Suspended}

-- the name of a kind
abbrev pub kind_text : ErrorKind → List ℕ
kind_text InvalidToken = codes "InvalidToken"
kind_text InvalidParameter = codes "InvalidParameter"
kind_text InvalidHandle = codes "InvalidHandle"
kind_text OutOfSequence = codes "OutOfSequence"
kind_text BufferTooSmall = codes "BufferTooSmall"
kind_text DecryptFailure = codes "DecryptFailure"
kind_text EncryptFailure = codes "EncryptFailure"
kind_text MessageAltered = codes "MessageAltered"
kind_text TimeSkew = codes "TimeSkew"
kind_text ContextExpired = codes "ContextExpired"
kind_text IncompleteCredentials = codes "IncompleteCredentials"
kind_text NoCredentials = codes "NoCredentials"
kind_text UnknownCredentials = codes "UnknownCredentials"
kind_text WrongCredentialHandle = codes "WrongCredentialHandle"
kind_text UnsupportedPreAuth = codes "UnsupportedPreAuth"
kind_text NoAuthenticatingAuthority = codes "NoAuthenticatingAuthority"
kind_text KdcInvalidRequest = codes "KdcInvalidRequest"
kind_text KdcCertRevoked = codes "KdcCertRevoked"
kind_text NoKerbKey = codes "NoKerbKey"
kind_text NoTgtReply = codes "NoTgtReply"
kind_text MutualAuthFailed = codes "MutualAuthFailed"
kind_text TooManyPrincipals = codes "TooManyPrincipals"
kind_text OperationNotSupported = codes "OperationNotSupported"
kind_text UnsupportedFunction = codes "UnsupportedFunction"
kind_text InternalError = codes "InternalError"
kind_text Unknown = codes "Unknown"
kind_text OutOfMemory = codes "OutOfMemory"

-- the name of a cause
abbrev pub cause_name : Cause → List ℕ
cause_name Memory = codes "Memory"
cause_name Moment = codes "Moment"
cause_name Connection = codes "Connection"
cause_name Role = codes "Role"
cause_name Sequence = codes "Sequence"
cause_name Shape = codes "Shape"
cause_name NoServiceKey = codes "NoServiceKey"
cause_name Etype = codes "Etype"
cause_name KeyLength = codes "KeyLength"
cause_name Short = codes "Short"
cause_name Altered = codes "Altered"
cause_name Inner = codes "Inner"
cause_name Names = codes "Names"
cause_name Skew = codes "Skew"
cause_name NotYet = codes "NotYet"
cause_name Expired = codes "Expired"
cause_name Replayed = codes "Replayed"
cause_name ClientName = codes "ClientName"
cause_name ApOptions = codes "ApOptions"
cause_name SubKey = codes "SubKey"
cause_name Credentials = codes "Credentials"
cause_name ServerName = codes "ServerName"
cause_name KeytabUser = codes "KeytabUser"
cause_name NotAscii = codes "NotAscii"
cause_name Reply = codes "Reply"
cause_name NoNumber = codes "NoNumber"
cause_name Number = codes "Number"
cause_name NoSubKey = codes "NoSubKey"
cause_name NoTarget = codes "NoTarget"
cause_name Target = codes "Target"
cause_name NoIdentity = codes "NoIdentity"
cause_name NoKdc = codes "NoKdc"
cause_name Scheme = codes "Scheme"
cause_name (Network code) = codes "Network"
cause_name ReplyShort = codes "ReplyShort"
cause_name EarlyAsRep = codes "EarlyAsRep"
cause_name (Kdc code) = codes "Kdc"
cause_name EtypeEntry = codes "EtypeEntry"
cause_name Salt = codes "Salt"
cause_name Hops = codes "Hops"
cause_name SameRealm = codes "SameRealm"
cause_name Port = codes "Port"
cause_name Nonce = codes "Nonce"
cause_name ReplyNames = codes "ReplyNames"
cause_name ReplyTime = codes "ReplyTime"
cause_name Transited = codes "Transited"
cause_name UserData = codes "UserData"
cause_name (ResultCode code) = codes "ResultCode"
cause_name Buffers = codes "Buffers"
cause_name TooSmall = codes "TooSmall"
cause_name Header = codes "Header"
cause_name Direction = codes "Direction"
cause_name ExtraCount = codes "ExtraCount"
cause_name Room = codes "Room"
cause_name Old = codes "Old"
cause_name Repeated = codes "Repeated"
cause_name Sealed = codes "Sealed"
cause_name NoKey = codes "NoKey"
cause_name Checksum = codes "Checksum"
cause_name Bindings = codes "Bindings"
cause_name BadUser = codes "BadUser"
cause_name Unsupported = codes "Unsupported"
cause_name Suspended = codes "Suspended"

-- a space and the number of a cause, if it has one
abbrev pub cause_number : Cause → List ℕ
cause_number (Network code) = codes " " ++ decimal code
cause_number (Kdc code) = codes " " ++ decimal code
cause_number (ResultCode code) = codes " " ++ decimal code
cause_number _ = codes ""

-- what is printed of a cause
abbrev pub cause_text : Cause → List ℕ
cause_text cause = cause_name cause ++ cause_number cause

-- what is printed of an error
abbrev pub error_text : Error → List ℕ
error_text error = kind_text error.error_type ++ codes " " ++ cause_text error.cause
