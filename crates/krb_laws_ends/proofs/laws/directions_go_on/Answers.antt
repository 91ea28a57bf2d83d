use Rattle.krb_laws_ends.proofs.ApartLemmas.{sent_apart}
use Rattle.krb_laws_ends.proofs.OrderLemmas.{flow_begins, flow_opens, flow_wraps, flow_beside, sent_now}
use Rattle.krb_laws_ends.proofs.laws.directions_go_on.Goals as goal

pub returns-clause-begins : goal.returns-clause-begins
returns-clause-begins c = flow_begins

pub returns-clause-opens : goal.returns-clause-opens
returns-clause-opens c = flow_opens

pub returns-clause-numbers : goal.returns-clause-numbers
returns-clause-numbers c = flow_wraps

pub returns-clause-wraps : goal.returns-clause-wraps
returns-clause-wraps c = sent_now

pub returns-clause-beside : goal.returns-clause-beside
returns-clause-beside c = flow_beside

pub returns-clause-stays : goal.returns-clause-stays
returns-clause-stays c = λ sender number behind other message is_sent. (sent_apart sender number behind other message is_sent, is_sent)
