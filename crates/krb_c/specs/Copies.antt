-- Acceptors with the same services and keys, for threads.
use Rattle.std.specs.Prelude.{◌≡◌, ℕ, Option, Some, None}
use Rattle.krb_c.specs.declared.reply.Failure.{Failure}
use Rattle.krb_c.specs.declared.reply.Failure.TheVariants.{Refused, Room, Argument, Handle}
use Rattle.krb_c.specs.Failures.{IsWant, IsMisplaced}
use Rattle.krb_entrance.specs.declared.service.Service.{Service}
use Rattle.krb_replay.specs.Book.{StandsFor}
use Rattle.krb_replay.specs.History.{no_history}

-- an acceptor with the same services, keys and limit, whose book was asked nothing
pub record IsTwin (service twin : Service) : Type 0 where
  pub keys : twin.keys ≡ service.keys
  pub skew_is : twin.book.skew ≡ service.keys.properties.max_time_skew
  pub book : StandsFor twin.book no_history

-- the twin that is made, where the handle was empty
pub record Copies (acceptor to : Option Service) (count : ℕ) (made : Option Service) : Type 0 where
  pub service : Service
  pub twin : Service
  pub was : acceptor ≡ Some service
  pub was_empty : to ≡ None
  pub made_is : made ≡ Some twin
  pub is_twin : IsTwin service twin
  pub none_written : count ≡ 0

-- why no twin is made
abbrev pub CopiesNot : Option Service → Option Service → Failure → Type 0
CopiesNot acceptor to (Refused error) = IsWant error
CopiesNot acceptor to (Room count) = ⊥
CopiesNot acceptor to Argument = ⊥
CopiesNot acceptor to Handle = IsMisplaced acceptor to
