-- The initiators that lines declare have no session key, and await no KDC.
use Rattle.std.proofs.Common.{◌≡◌, ℕ, Bool, true, false, cond, List, [], ◌∷◌, Option, Some, None, refl, subst}
use Rattle.krb_context.specs.Rules.{no_rules}
use Rattle.krb_replay.specs.History.{History}
use Rattle.krb_script.specs.Script.{Setup, Declared, at_id}
use Rattle.krb_script.specs.declared.endpoint.Endpoint.{Endpoint}
use Rattle.krb_script.specs.declared.endpoint.Role.{Role}
use Rattle.krb_script.specs.declared.endpoint.Role.TheVariants.{Acceptor, Initiator}
use Rattle.std.specs.Ordering.{nat_cmp}
use Rattle.std.specs.BTreeMap.{is_at}
use Rattle.krb_machine.specs.Described.{Remembers, skew_of, service_of, connection_in, connection_of, connections_with, connections_of}
use Rattle.krb_machine.specs.Policy.{State}
use Rattle.krb_machine.specs.Text.{Answered}
use Rattle.krb_machine.specs.declared.connection.Connection.{Connection}
use Rattle.krb_machine.specs.declared.reply.Reply.{Reply}
use Rattle.krb_laws_origin.specs.Origins.{IsKeyless, HasOrigin}
use Rattle.krb_laws_origin.proofs.EventLemmas.{origin}

record IsFresh (connection : Connection) : Type 0 where
  none_set : connection.context.rules ≡ no_rules
  key : connection.context.encryption_params.session_key ≡ None
  free : connection.exchange ≡ None

fresh_in : (skew : ℕ) (endpoint : Endpoint) (role : Role) → IsFresh (connection_in skew endpoint role)
fresh_in skew endpoint (Acceptor service) = record { none_set = refl; key = refl; free = refl }
fresh_in skew endpoint (Initiator target) = record { none_set = refl; key = refl; free = refl }

some_same : (x y : Connection) → Some x ≡ Some y → x ≡ y
some_same x y e = cc

first_or_rest : (passes : Bool) (first : Connection) (rest : Option Connection) (connection : Connection) → IsFresh first → (rest ≡ Some connection → IsFresh connection) → cond passes (Some first) rest ≡ Some connection
    → IsFresh connection
first_or_rest true first rest connection fresh others e = subst (λ (c : Connection). IsFresh c) (some_same first connection e) fresh
first_or_rest false first rest connection fresh others e = others e

fresh_at : (skew : ℕ) (endpoints : List (ℕ × Endpoint)) (id : ℕ) (connection : Connection) → at_id id (connections_with skew endpoints) ≡ Some connection → IsFresh connection
fresh_at skew [] id connection e = absurd cc
fresh_at skew (entry ∷ endpoints) id connection e =
    first_or_rest (is_at (nat_cmp id) entry.0) (connection_of skew entry.1) (at_id id (connections_with skew endpoints)) connection (fresh_in skew entry.1 entry.1.role)
    (λ rest. fresh_at skew endpoints id connection rest) e

pub declared_keyless : (setup : Setup) (id : ℕ) (connection : Connection) → at_id id (connections_of setup) ≡ Some connection → connection.context.server ≡ None → IsKeyless connection
declared_keyless setup id connection e role =
    let fresh = fresh_at (skew_of setup) setup.endpoints id connection e in record { role = role; none_set = fresh.none_set; key = fresh.key; free = fresh.free }

pub declared_origin : (so_far : Declared) (text : List ℕ) (replies : List Reply) (after : State History) (id : ℕ) (first last : Connection) (key : List ℕ) → Answered so_far text replies after
    → at_id id (connections_of so_far.setup) ≡ Some first → first.context.server ≡ None → at_id id after.connections ≡ Some last → last.context.encryption_params.session_key ≡ Some key
    → HasOrigin first.context.auth_identity id so_far.events key
declared_origin so_far text replies after id first last key answered there role now has =
    origin (Remembers (skew_of so_far.setup)) (service_of so_far.setup) after so_far.events replies id first last key answered.runs there (declared_keyless so_far.setup id first there role) now has
