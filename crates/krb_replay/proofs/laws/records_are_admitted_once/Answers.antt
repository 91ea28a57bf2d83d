use Rattle.krb_replay.proofs.Runs.{admits_once, book_admits_once}
use Rattle.krb_replay.proofs.laws.records_are_admitted_once.Goals as goal

pub returns-clause-by_the_history : goal.returns-clause-by_the_history
returns-clause-by_the_history c = admits_once

pub returns-clause-by_a_book : goal.returns-clause-by_a_book
returns-clause-by_a_book c = book_admits_once
