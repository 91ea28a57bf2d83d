use Rattle.krb_machine.proofs.BookLemmas.{never-forgets}
use Rattle.krb_machine.proofs.laws.runs_never_forget.Goals as goal

pub returns : goal.returns
returns c = never-forgets
