use Rattle.std.proofs.Common.{◌≡◌, ◌+◌, ◌++◌, get_or, sym, ap, ◌∙◌, arith, take, append_assoc}
use Rattle.std.specs.Prelude.{string_bytes}
use Rattle.std.proofs.lemmas.List.{append-nil, take_more, take_all, length-take-le}
use Rattle.krb_threads.specs.Answers.{worker_line, worker_text}
use Rattle.krb_threads.proofs.TextLemmas.{worker-push}
use Rattle.krb_threads.proofs.text.put_replies.Goals as goal

pub loop-index-init : goal.loop-index-init
loop-index-init c = sym (append-nil (string_bytes c.args.text.now))

pub loop-index-preserved : goal.loop-index-preserved
loop-index-preserved c =
    let k = c.loop-index.index in
    let numbers = c.args.numbers.now in
    let replies = c.args.replies.now in
    let inside = c.loop-index-test.true in
    let n = get_or numbers k 0 in
    let r = c.index-replies-index in
    let grown : worker_text c.args.worker (take (k + 1) numbers) (take (k + 1) replies) ≡ worker_text c.args.worker (take k numbers) (take k replies) ++ worker_line c.args.worker n r.result =
    rw (take_more numbers k 0 (omega (arith, inside, c.requires)), take_more replies k r.result inside, ← r.is)
    (worker-push c.args.worker (take k numbers) (take k replies) n r.result (length-take-le k numbers (omega (arith, inside, c.requires)) ∙ sym (length-take-le k replies (omega (arith, inside))))) in
    c.in_ok-put_reply.ensures ∙ ap (λ l. l ++ worker_line c.args.worker n r.result) c.loop-index.invariant
    ∙ append_assoc (string_bytes c.args.text.now) (worker_text c.args.worker (take k numbers) (take k replies)) (worker_line c.args.worker n r.result)
    ∙ ap (λ l. string_bytes c.args.text.now ++ l) (sym grown)

pub returns : goal.returns
returns c =
    let k = c.loop-index.index in
    let done = c.loop-index-test.false in
    c.loop-index.invariant
    ∙ ap (λ l. string_bytes c.args.text.now ++ worker_text c.args.worker l (take k c.args.replies.now)) (take_all k c.args.numbers.now (omega (arith, done, c.requires)))
    ∙ ap (λ l. string_bytes c.args.text.now ++ worker_text c.args.worker c.args.numbers.now l) (take_all k c.args.replies.now (omega (arith, done)))
