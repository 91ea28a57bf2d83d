use Rattle.std.proofs.Common.{sym, ap, ◌∙◌}
use Rattle.std.specs.Prelude.{Some}
use Rattle.krb_dialogue.specs.HandedOut.{url_in}
use Rattle.krb_c.proofs.Given.{hands_not}
use Rattle.krb_c.proofs.handed.url.Goals as goal

pub returns-in-Err-clause-fails : goal.returns-in-Err-clause-fails
returns-in-Err-clause-fails c =
    rw c.from.ensures (hands_not url_in _ _ c.deref.result.now c.in-Err.fault (sym c.in-Some.ensures.taken ∙ ap Some (sym c.deref.ensures)) c.in-Err.ensures.refused)
