use Rattle.std.proofs.Common.{take, sym, ◌∙◌, arith}
use Rattle.std.proofs.lemmas.List.{append-nil}
use Rattle.krb_keyring.specs.Held.{held_in, named}
use Rattle.krb_keyring.proofs.HeldLemmas.{more, one_named}
use Rattle.krb_keyring.proofs.services.add_all.Goals as goal

pub loop-count-init : goal.loop-count-init
loop-count-init c = λ name. sym (append-nil (held_in c.args.services.now name))

pub loop-count-preserved : goal.loop-count-preserved
loop-count-preserved c = λ name.
    more (held_in c.args.services.now name) _ _ (named name (take c.loop-count.count c.args.entries.now)) _ _
    (c.loop-count.invariant name) (c.in-Ok.ensures.added name)
    (one_named name c.args.entries.now c.loop-count.count c.index-entries-count.result (omega (arith, c.loop-count-test.true)) c.index-entries-count.is)

pub returns-in-Err-clause-stays : goal.returns-in-Err-clause-stays
returns-in-Err-clause-stays c =
    c.take_all_back.ensures (held_in c.args.services.now) (λ name. c.in-Err.ensures.stays name ∙ c.loop-count.invariant name)
