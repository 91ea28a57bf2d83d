-- Sessions whose peer's messages come in order, or in any order.
use Rattle.std.specs.Prelude.{◌≡◌, ℕ, if◌then◌else◌, Option, Some}
use Rattle.krb_c.specs.Told.{is_set}
use Rattle.krb_sessions.specs.declared.order.Order.TheVariants.{Any}
use Rattle.krb_sessions.specs.declared.session.Session.{Session}
use Rattle.krb_sessions.specs.Orders.{order_asked}

-- a session whose peer's messages are taken in order, or in any order
abbrev pub with_order : ℕ → Session → Session
with_order in_order session = record session { order = if is_set in_order then order_asked session else Any }

-- the session of the handle is that from now on
pub record SetsOrder (in_order : ℕ) (old : Option Session) (count : ℕ) (new : Option Session) : Type 0 where
  pub session : Session
  pub was : old ≡ Some session
  pub now : new ≡ Some (with_order in_order session)
  pub none_written : count ≡ 0
