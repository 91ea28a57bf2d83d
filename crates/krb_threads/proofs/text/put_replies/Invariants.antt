use Rattle.std.proofs.Common.{◌≡◌, ◌++◌, take}
use Rattle.std.specs.Prelude.{string_bytes}
use Rattle.krb_threads.specs.Answers.{worker_text}
use Rattle.krb_threads.proofs.text.put_replies.Given as goal

abbrev pub invariant-loop-index : goal.invariant-loop-index
invariant-loop-index l = string_bytes l.text ≡ string_bytes l.initial.text ++ worker_text l.worker (take l.index l.numbers) (take l.index l.replies)
