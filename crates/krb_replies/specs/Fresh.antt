-- Whether a reply of a KDC answers the request of this exchange, by what is sealed in it (RFC 4120, sections 3.1.5, 3.3.4 and 5.4.2).
use Rattle.std.specs.Prelude.{ℕ, ◌^◌, ◌==◌, ◌&&◌, ◌||◌, Bool, true, false, not, ℤ, pos, ◌-ℤ◌, List, [], ◌∷◌, unwrap_or, Result}
use Rattle.std.specs.Int.{w32, from_be_bytes}
use Rattle.std.specs.Ordering.{int_eq}
use Rattle.std.specs.Cmp.Lexicographic.{pointwise}
use Rattle.krb_der.specs.Integer.{integer_value}
use Rattle.krb_replay.specs.Clock.{in_microseconds, is_later}
use Rattle.sspi_core.specs.declared.cause.Cause.{Cause}
use Rattle.sspi_core.specs.declared.cause.Cause.TheVariants.{Nonce, ReplyNames, ReplyTime}
use Rattle.sspi_core.specs.Checks.{Holds, Gives, ◌>>◌}
use Rattle.krb_replies.specs.declared.facts.ReplyFacts.{ReplyFacts}

-- how far the clocks of a client and of a KDC may differ, in seconds (RFC 4120, section 8.2: five minutes)
abbrev pub grace : ℕ
grace = 300

-- an INTEGER is this number
abbrev pub is_number : List ℕ → ℤ → Bool
is_number octets number = int_eq (integer_value octets) number

-- an INTEGER has this number for its value, or the number less 2^32, as which its four octets are read where the first bit is set
abbrev pub has_value : ℕ → List ℕ → Bool
has_value number octets = is_number octets (pos number) || is_number octets (pos number -ℤ pos (2 ^ 32))

-- the reply has the number that a request drew, four octets, by its value. Nothing repeats what is no such number
abbrev pub repeats_nonce : List ℕ → ReplyFacts → Bool
repeats_nonce [] facts = false
repeats_nonce (a ∷ []) facts = false
repeats_nonce (a ∷ (b ∷ [])) facts = false
repeats_nonce (a ∷ (b ∷ (c ∷ []))) facts = false
repeats_nonce (a ∷ (b ∷ (c ∷ (d ∷ [])))) facts = has_value (from_be_bytes w32 (a ∷ b ∷ c ∷ d ∷ [])) facts.nonce
repeats_nonce (a ∷ (b ∷ (c ∷ (d ∷ (e ∷ rest))))) facts = false

-- from when the ticket is valid
abbrev pub start_of : ReplyFacts → ℤ
start_of facts = unwrap_or facts.starttime facts.authtime

-- the ticket is valid at this moment, in microseconds since 1970, give or take the grace
abbrev pub is_valid_at : ℕ → ReplyFacts → Bool
is_valid_at moment facts =
    not (is_later (in_microseconds (start_of facts)) (pos moment) grace) && not (is_later (pos moment) (in_microseconds facts.endtime) grace)

-- two names have the same components, whatever their types, which are hints (RFC 4120, section 6.2)
abbrev pub same_components : List (List ℕ) → List (List ℕ) → Bool
same_components one other = pointwise (pointwise ◌==◌) one other

-- a reply has the nonce and the names of its request, where these say so, and a ticket that is valid at this moment
unfoldable pub AnswersRequest : Bool → Bool → ℕ → ReplyFacts → Result (Unit {0}) Cause → Type 0
AnswersRequest repeats names moment facts = do
  Holds Nonce repeats
  Holds ReplyNames names
  Holds ReplyTime (is_valid_at moment facts)

-- a check that a rule asks for: without the rule all passes
abbrev pub AskedFor : Bool → (Result (Unit {0}) Cause → Type 0) → Result (Unit {0}) Cause → Type 0
AskedFor false check answer = Gives tt answer
AskedFor true check answer = check answer
