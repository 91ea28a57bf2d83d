use Rattle.krb_laws_kdc.proofs.ErrorLemmas.{answers_error}
use Rattle.krb_laws_kdc.proofs.NameLemmas.{salt_names}
use Rattle.krb_laws_kdc.proofs.laws.requests_for_a_key_are_honest.Goals as goal

pub returns : goal.returns
returns c = λ kdc components principal draw asker known in_range short.
    answers_error kdc.suite kdc.realm draw principal.salt (salt_names kdc components principal known) in_range asker short
