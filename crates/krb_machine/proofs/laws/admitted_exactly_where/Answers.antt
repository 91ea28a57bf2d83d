use Rattle.krb_machine.proofs.AdmittedLemmas.{admissible-answered, admissible-made, admitted-exactly, book-admitted-exactly, book-admissible-answered}
use Rattle.krb_machine.proofs.laws.admitted_exactly_where.Goals as goal

pub returns-clause-exactly : goal.returns-clause-exactly
returns-clause-exactly c = admitted-exactly

pub returns-clause-answer : goal.returns-clause-answer
returns-clause-answer c = admissible-answered

pub returns-clause-service : goal.returns-clause-service
returns-clause-service c = admissible-made

pub returns-clause-book : goal.returns-clause-book
returns-clause-book c = book-admitted-exactly

pub returns-clause-book_answer : goal.returns-clause-book_answer
returns-clause-book_answer c = book-admissible-answered
