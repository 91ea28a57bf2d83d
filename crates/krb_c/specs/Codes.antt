-- Numbers of kinds and causes, as C has them.
use Rattle.std.specs.Prelude.{ℕ}
use Rattle.sspi_core.specs.declared.kind.ErrorKind.{ErrorKind}
use Rattle.sspi_core.specs.declared.kind.ErrorKind.TheVariants.{InvalidToken, InvalidParameter, InvalidHandle, OutOfSequence, BufferTooSmall, DecryptFailure, EncryptFailure, MessageAltered}
use Rattle.sspi_core.specs.declared.kind.ErrorKind.TheVariants.{TimeSkew, ContextExpired, IncompleteCredentials, NoCredentials, UnknownCredentials, WrongCredentialHandle, UnsupportedPreAuth, NoAuthenticatingAuthority}
use Rattle.sspi_core.specs.declared.kind.ErrorKind.TheVariants.{KdcInvalidRequest, KdcCertRevoked, NoKerbKey, NoTgtReply, MutualAuthFailed, TooManyPrincipals, OperationNotSupported, UnsupportedFunction}
use Rattle.sspi_core.specs.declared.kind.ErrorKind.TheVariants.{InternalError, Unknown, OutOfMemory}
use Rattle.sspi_core.specs.declared.cause.Cause.{Cause}
use Rattle.sspi_core.specs.declared.cause.Cause.TheVariants.{Memory, Moment, Connection, Role, Sequence, Shape, NoServiceKey, Etype, KeyLength, Short, Altered, Inner, Names, Skew}
use Rattle.sspi_core.specs.declared.cause.Cause.TheVariants.{NotYet, Expired, Replayed, ClientName, ApOptions, SubKey, Credentials, ServerName, KeytabUser, NotAscii, Reply, NoNumber, Number, NoSubKey}
use Rattle.sspi_core.specs.declared.cause.Cause.TheVariants.{NoTarget, Target, NoIdentity, NoKdc, Scheme, Network, ReplyShort, EarlyAsRep, Kdc, EtypeEntry, Salt, Hops, SameRealm, Port}
use Rattle.sspi_core.specs.declared.cause.Cause.TheVariants.{UserData, ResultCode, Buffers, TooSmall, Header, Direction, ExtraCount, Room, Old, Repeated, Sealed, NoKey, Checksum, Bindings}
use Rattle.sspi_core.specs.declared.cause.Cause.TheVariants.{BadUser, Unsupported, Suspended, Nonce, ReplyNames, ReplyTime, Transited}

-- the number of a kind
abbrev pub kind_code : ErrorKind → ℕ
kind_code InvalidToken = 1
kind_code InvalidParameter = 2
kind_code InvalidHandle = 3
kind_code OutOfSequence = 4
kind_code BufferTooSmall = 5
kind_code DecryptFailure = 6
kind_code EncryptFailure = 7
kind_code MessageAltered = 8
kind_code TimeSkew = 9
kind_code ContextExpired = 10
kind_code IncompleteCredentials = 11
kind_code NoCredentials = 12
kind_code UnknownCredentials = 13
kind_code WrongCredentialHandle = 14
kind_code UnsupportedPreAuth = 15
kind_code NoAuthenticatingAuthority = 16
kind_code KdcInvalidRequest = 17
kind_code KdcCertRevoked = 18
kind_code NoKerbKey = 19
kind_code NoTgtReply = 20
kind_code MutualAuthFailed = 21
kind_code TooManyPrincipals = 22
kind_code OperationNotSupported = 23
kind_code UnsupportedFunction = 24
kind_code InternalError = 25
kind_code Unknown = 26
kind_code OutOfMemory = 27

-- the number of a cause
abbrev pub cause_code : Cause → ℕ
cause_code Memory = 1
cause_code Moment = 2
cause_code Connection = 3
cause_code Role = 4
cause_code Sequence = 5
cause_code Shape = 6
cause_code NoServiceKey = 7
cause_code Etype = 8
cause_code KeyLength = 9
cause_code Short = 10
cause_code Altered = 11
cause_code Inner = 12
cause_code Names = 13
cause_code Skew = 14
cause_code NotYet = 15
cause_code Expired = 16
cause_code Replayed = 17
cause_code ClientName = 18
cause_code ApOptions = 19
cause_code SubKey = 20
cause_code Credentials = 21
cause_code ServerName = 22
cause_code KeytabUser = 23
cause_code NotAscii = 24
cause_code Reply = 25
cause_code NoNumber = 26
cause_code Number = 27
cause_code NoSubKey = 28
cause_code NoTarget = 29
cause_code Target = 30
cause_code NoIdentity = 31
cause_code NoKdc = 32
cause_code Scheme = 33
cause_code (Network code) = 34
cause_code ReplyShort = 35
cause_code EarlyAsRep = 36
cause_code (Kdc code) = 37
cause_code EtypeEntry = 38
cause_code Salt = 39
cause_code Hops = 40
cause_code SameRealm = 41
cause_code Port = 42
cause_code UserData = 43
cause_code (ResultCode code) = 44
cause_code Buffers = 45
cause_code TooSmall = 46
cause_code Header = 47
cause_code Direction = 48
cause_code ExtraCount = 49
cause_code Room = 50
cause_code Old = 51
cause_code Repeated = 52
cause_code Sealed = 53
cause_code NoKey = 54
cause_code Checksum = 55
cause_code Bindings = 56
cause_code BadUser = 57
cause_code Unsupported = 58
cause_code Suspended = 59
cause_code Nonce = 60
cause_code ReplyNames = 61
cause_code ReplyTime = 62
cause_code Transited = 63

-- the number that a cause carries
abbrev pub number_of : Cause → ℕ
number_of (Network code) = code
number_of (Kdc code) = code
number_of (ResultCode code) = code
number_of _ = 0
