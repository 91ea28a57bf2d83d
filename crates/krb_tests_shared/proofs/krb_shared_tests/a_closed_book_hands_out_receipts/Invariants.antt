use Rattle.krb_tests_shared.proofs.krb_shared_tests.a_closed_book_hands_out_receipts.Given as goal

abbrev pub ghosts-ask_twice-L-Calls : goal.ghosts-ask_twice-L-Calls
ghosts-ask_twice-L-Calls g a = record { skew = a.skew }

abbrev pub ghosts-ask_twice-L-Ledger : goal.ghosts-ask_twice-L-Ledger
ghosts-ask_twice-L-Ledger g a = record { name = a.blank.name; parts = a.blank.parts }
