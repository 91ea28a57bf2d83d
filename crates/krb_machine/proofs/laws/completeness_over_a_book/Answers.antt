use Rattle.krb_machine.proofs.BookLemmas.{book-passing-done}
use Rattle.krb_machine.proofs.laws.completeness_over_a_book.Goals as goal

pub returns : goal.returns
returns c = book-passing-done
