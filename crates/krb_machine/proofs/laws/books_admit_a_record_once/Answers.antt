use Rattle.krb_replay.specs.Book.{Follows, StandsFor}
use Rattle.krb_machine.proofs.BookLemmas.{book-left-once}
use Rattle.krb_machine.proofs.LeftLemmas.{done-left}
use Rattle.krb_machine.proofs.laws.books_admit_a_record_once.Goals as goal

pub returns-clause-once : goal.returns-clause-once
returns-clause-once c = book-left-once

pub returns-clause-done : goal.returns-clause-done
returns-clause-done c = done-left (Follows StandsFor)
