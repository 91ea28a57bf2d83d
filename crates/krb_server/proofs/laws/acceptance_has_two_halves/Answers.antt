use Rattle.krb_server.proofs.HalvesLemmas.{whole_in_halves, halves_whole, no_other_token}
use Rattle.krb_server.proofs.laws.acceptance_has_two_halves.Goals as goal

pub returns-clause-halves : goal.returns-clause-halves
returns-clause-halves g c = λ server server' dce token env draw old new answer none last. (
  whole_in_halves g.G.ReplayGate.admits server dce token env draw old answer server' new none last,
  halves_whole g.G.ReplayGate.admits server dce token env draw old answer server' new none last,
)

pub returns-clause-no_other : goal.returns-clause-no_other
returns-clause-no_other g c = no_other_token
