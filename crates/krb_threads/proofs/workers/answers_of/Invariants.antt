use Rattle.krb_threads.proofs.workers.answers_of.Given as goal

abbrev pub ghosts-answers_as-L-Calls : goal.ghosts-answers_as-L-Calls
ghosts-answers_as-L-Calls g a = record { skew = a.skew }

abbrev pub ghosts-answers_as-L-Ledger : goal.ghosts-answers_as-L-Ledger
ghosts-answers_as-L-Ledger g a = record { name = a.blank.name; parts = a.blank.parts }
