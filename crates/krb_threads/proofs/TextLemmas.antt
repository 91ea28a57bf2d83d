-- Texts, with one more line at a time.
use Rattle.std.proofs.Common.{◌≡◌, ℕ, ◌+◌, List, [], ◌∷◌, ◌++◌, length, sym, ap, ◌∙◌, arith, append_assoc}
use Rattle.std.proofs.lemmas.List.{append-nil}
use Rattle.krb_shared.specs.declared.entry.Entry.{Entry}
use Rattle.krb_machine.specs.declared.reply.Reply.{Reply}
use Rattle.krb_threads.specs.Answers.{worker_line, worker_text, entry_line, entries_text}

pub worker-push : (worker : ℕ) (numbers : List ℕ) (replies : List Reply) (number : ℕ) (reply : Reply) → length numbers ≡ length replies
    → worker_text worker (numbers ++ number ∷ []) (replies ++ reply ∷ []) ≡ worker_text worker numbers replies ++ worker_line worker number reply
worker-push worker [] [] number reply e = append-nil (worker_line worker number reply)
worker-push worker [] (other ∷ replies) number reply e = absurd (omega (arith, e))
worker-push worker (n ∷ numbers) [] number reply e = absurd (omega (arith, e))
worker-push worker (n ∷ numbers) (other ∷ replies) number reply e =
    ap (λ l. worker_line worker n other ++ l) (worker-push worker numbers replies number reply (omega (arith, e)))
    ∙ sym (append_assoc (worker_line worker n other) (worker_text worker numbers replies) (worker_line worker number reply))

pub entries-push : (place : ℕ) (entries : List Entry) (entry : Entry) → entries_text place (entries ++ entry ∷ []) ≡ entries_text place entries ++ entry_line (place + length entries) entry
entries-push place [] entry = append-nil (entry_line place entry) ∙ ap (λ n. entry_line n entry) (omega arith)
entries-push place (first ∷ entries) entry =
    ap (λ l. entry_line place first ++ l) (entries-push (place + 1) entries entry)
    ∙ sym (append_assoc (entry_line place first) (entries_text (place + 1) entries) (entry_line (place + 1 + length entries) entry))
    ∙ ap (λ n. (entry_line place first ++ entries_text (place + 1) entries) ++ entry_line n entry) (omega arith)
