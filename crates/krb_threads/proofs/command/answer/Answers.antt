use Rattle.std.proofs.Common.{◌≡◌, inl, inr, List, ℕ, refl, sym, subst}
use Rattle.std.specs.Prelude.{string_bytes}
use Rattle.std.specs.Io.KnownBytes.{Appends}
use Rattle.krb_text.specs.Output.{AppendsFront}
use Rattle.krb_text.specs.declared.status.Status.TheVariants.{Done, OutOfMemory}
use Rattle.krb_threads.specs.Answers.{IsAnswer}
use Rattle.krb_threads.specs.Threads.{Answers}
use Rattle.krb_threads.proofs.ClosingLemmas.{by-write}
use Rattle.krb_threads.proofs.command.answer.Goals as goal

pub returns-in-Ok-clause-text : goal.returns-in-Ok-clause-text
returns-in-Ok-clause-text g c =
    let before = g.K.Sink.taken c.args.sink.now in
    let after = g.K.Sink.taken c.write.new.sink in
    let text = c.as_bytes.result.now in
    let is : text ≡ string_bytes c.in-Ok.text = cc in
    let P : List ℕ → Type 0 = λ t. IsAnswer c.args.known.now.so_far t in
    let answer : IsAnswer c.args.known.now.so_far text = subst P (sym is) c.in-Ok.ensures in
    by-write (λ s. Answers c.args.known.now.so_far before after s) (Appends before after text) (AppendsFront before after text) c.write.result Done c.write.ensures.whole c.write.ensures.cut
    (λ a. (text, answer, a)) (λ f. (text, inl answer, f))

pub returns-in-Err-clause-text : goal.returns-in-Err-clause-text
returns-in-Err-clause-text g c =
    let before = g.K.Sink.taken c.args.sink.now in
    let after = g.K.Sink.taken c.write_stopped.new.sink in
    by-write (λ s. Answers c.args.known.now.so_far before after s) (Appends before after _) (AppendsFront before after _) c.write_stopped.result OutOfMemory c.write_stopped.ensures.whole c.write_stopped.ensures.cut
    (λ a. a) (λ f. (_, inr refl, f))
