use Rattle.std.proofs.Common.{◌≡◌, ◌+◌, ◌∷◌, [], ◌++◌, true, false, take, sym, ap, ◌∙◌, arith}
use Rattle.std.proofs.lemmas.List.{take_more, length-take-le}
use Rattle.std.proofs.lemmas.Bool.Decides.{nat_tests}
use Rattle.krb_script.specs.declared.item.Event.{Event}
use Rattle.krb_input.specs.Parted.{is_of, numbers_of}
use Rattle.krb_input.proofs.PartingLemmas.{numbers-in, numbers-out}
use Rattle.krb_input.proofs.parting.numbers.Goals.{then-events-index+in_ok-push, else-events-index}
use Rattle.krb_input.proofs.parting.numbers.Goals as goal

pub loop-index-preserved : goal.loop-index-preserved
loop-index-preserved c =
    let k = c.loop-index.index in
    let events = c.args.events.now in
    let inside = c.loop-index-test.true in
    let event = c.index-events-index.result in
    let front : take (k + 1) events ≡ take k events ++ event ∷ [] = take_more events k event inside ∙ ap (λ (e : Event). take k events ++ e ∷ []) (sym c.index-events-index.is) in
    let len = length-take-le k events (omega (arith, inside)) in
    elim c.if-events-index.branch [
      | then-events-index+in_ok-push w ↦
          let is : is_of c.args.worker event.connection ≡ true = let e = w.if-events-index.true in grind (arith, nat_tests) in
          ap (λ v. v.items) w.numbers-is ∙ w.in_ok-push.ensures.items ∙ ap (λ l. l ++ (k + 1) ∷ []) c.loop-index.invariant
          ∙ ap (λ n. numbers_of c.args.worker (take k events) ++ n ∷ []) (omega (arith, len))
          ∙ sym (ap (numbers_of c.args.worker) front ∙ numbers-in 1 c.args.worker (take k events) event is)
      | else-events-index w ↦
          let is : is_of c.args.worker event.connection ≡ false = let e = w.if-events-index.false in grind (arith, nat_tests) in
          ap (λ v. v.items) w.numbers-is ∙ c.loop-index.invariant ∙ sym (ap (numbers_of c.args.worker) front ∙ numbers-out 1 c.args.worker (take k events) event is)
    ]
