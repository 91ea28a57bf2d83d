use Rattle.krb_admission.proofs.Lengths.{reply_short, rep_complete, rep_short, rep_below}
use Rattle.krb_admission.proofs.admission.reply_message.Goals as goal

pub seal_ap_rep-requires-clause-part : goal.seal_ap_rep-requires-clause-part
seal_ap_rep-requires-clause-part c = rw c.in_ok-part.ensures (reply_short c.args.acceptor.now.number c.args.acceptor.now.draw.now c.args.request.now c.requires)

pub write-requires-clause-complete : goal.write-requires-clause-complete
write-requires-clause-complete c = rw c.in_ok-reply.ensures.made (rep_complete _ _)

pub write-requires-clause-short : goal.write-requires-clause-short
write-requires-clause-short c = let short = rw c.in_ok-reply.ensures.made at c.in_ok-reply.ensures.short in rw c.in_ok-reply.ensures.made (rep_below _ _ short)

pub returns-clause-short : goal.returns-clause-short
returns-clause-short c =
    let short = rw c.in_ok-reply.ensures.made at c.in_ok-reply.ensures.short in
    rw (c.in_ok-write.ensures.is, c.in_ok-reply.ensures.made) (rep_short _ _ short)
