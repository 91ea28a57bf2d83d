use Rattle.sspi_generator.proofs.Few.{resolves_in}
use Rattle.sspi_generator.proofs.laws.runs_ask_no_more_than_their_turns.Goals as goal

pub returns : goal.returns
returns g c = λ first down task task' client client' draws out new run. resolves_in _ _ _ _ _ _ first down task client draws out task' client' new run
