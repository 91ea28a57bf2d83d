use Rattle.std.proofs.Common.{◌≡◌, ◌<◌, ◌^◌, ℕ, sym, ap, ◌∙◌, arith}
use Rattle.krb_context.specs.Unwraps.{message_number}
use Rattle.krb_context.specs.Window.{Window, number_verdict, noted}
use Rattle.krb_context.specs.declared.window.NumberVerdict.TheVariants.{Fresh}
use Rattle.krb_context.proofs.UnwrapLemmas.{is_opened, number_fresh}
use Rattle.krb_context.proofs.WindowLemmas.{judged_is, notes_from}
use Rattle.krb_context.proofs.context.Kerberos.open_once.Goals as goal

pub message_number-requires : goal.message_number-requires
message_number-requires c =
    let o = is_opened _ _ _ _ _ (c.in_ok-opened.ensures.opens.so (λ z. absurd cc)) in
    o.headed.long

pub note-requires : goal.note-requires
note-requires c =
    let o = is_opened _ _ _ _ _ (c.in_ok-opened.ensures.opens.so (λ z. absurd cc)) in
    let fresh : number_verdict c.args.self.now.window (message_number c.args.message.now) ≡ Fresh = number_fresh _ _ _ _ o in
    ap (λ (w : Window). number_verdict w c.message_number.result) (ap (λ k. k.window) c.open.ensures.stays) ∙ ap (number_verdict c.args.self.now.window) c.message_number.ensures ∙ fresh

pub returns-clause-long : goal.returns-clause-long
returns-clause-long c =
    let o = is_opened _ _ _ _ _ (c.in_ok-opened.ensures.opens.so (λ z. absurd cc)) in
    o.headed.long

pub returns-clause-numbers : goal.returns-clause-numbers
returns-clause-numbers c = λ numbers stands.
    let o = is_opened _ _ _ _ _ (c.in_ok-opened.ensures.opens.so (λ z. absurd cc)) in
    let number : ℕ = message_number c.args.message.now in
    let fresh : number_verdict c.args.self.now.window number ≡ Fresh = number_fresh _ _ _ _ o in
    let small : number < 2 ^ 32 = omega (arith, c.message_number.ensures) in
    let same : c.note.new.self ≡ noted c.args.self.now.window number =
    c.note.ensures.exact ∙ ap (λ (w : Window). noted w c.message_number.result) (ap (λ k. k.window) c.open.ensures.stays)
    ∙ ap (noted c.args.self.now.window) c.message_number.ensures in (
      sym (judged_is c.args.self.now.window numbers number stands) ∙ fresh,
      notes_from c.args.self.now.window c.note.new.self numbers number same small fresh stands,
    )
