use Rattle.krb_admission.proofs.HalvesLemmas.{joined, parted}
use Rattle.krb_admission.proofs.laws.admission_has_two_halves.Goals as goal

pub returns : goal.returns
returns g c = λ server server' dce token draw old new answer last.
    (parted g.G.ReplayGate.admits server dce token draw old answer server' new last, joined g.G.ReplayGate.admits server dce token draw old answer server' new last)
