use Rattle.krb_context.proofs.OptionLemmas.{counts_own, counts_tokens}
use Rattle.krb_context.proofs.laws.texts_are_opened_by_a_count.Goals as goal

pub returns-clause-own : goal.returns-clause-own
returns-clause-own c = counts_own

pub returns-clause-tokens : goal.returns-clause-tokens
returns-clause-tokens c = counts_tokens
