use Rattle.krb_laws_ends.proofs.TalkLemmas.{talk_understood}
use Rattle.krb_laws_ends.proofs.laws.both_ends_understand_each_other.Goals as goal

pub returns : goal.returns
returns c = talk_understood
