use Rattle.krb_laws_journal.proofs.ToldLemmas.{told-once}
use Rattle.krb_laws_journal.proofs.laws.texts_tell_the_journal.Goals as goal

pub returns-clause-journal : goal.returns-clause-journal
returns-clause-journal c = λ so_far text one other small. (told-once so_far text small one other).journal

pub returns-clause-replies : goal.returns-clause-replies
returns-clause-replies c = λ so_far text one other small. let same = told-once so_far text small one other in (same.first, same.second)
