-- The connections that the lines describe.
use Rattle.std.specs.Prelude.{◌≡◌, ℕ, List}
use Rattle.krb_machine.specs.Described.{connections_with}
use Rattle.krb_machine.specs.declared.connection.Connection.{Connection}
use Rattle.krb_threads.specs.Journaled.{connections_of}
use Rattle.krb_threads.specs.declared.described.Described.{Described}
use Rattle.krb_threads.specs.declared.described.Ends.{Ends}

-- the connections of both workers
abbrev pub all_connections : Described → List (ℕ × Connection)
all_connections described = connections_with described.skew described.endpoints.entries

-- the ends of a worker: the environment, and its connections
pub record AreEnds (described : Described) (worker : ℕ) (ends : Ends) : Type 0 where
  pub env : ends.env ≡ described.env
  pub connections : ends.connections.entries ≡ connections_of worker (all_connections described)
