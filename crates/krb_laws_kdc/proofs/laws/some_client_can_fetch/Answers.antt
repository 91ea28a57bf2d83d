use Rattle.std.proofs.Common.{lit<}
use Rattle.krb_laws_kdc.proofs.ExampleLemmas.{can, moments}
use Rattle.krb_laws_kdc.proofs.laws.some_client_can_fetch.Goals as goal

pub returns : goal.returns
returns c = record { can = λ alloc rules. can alloc rules; enough = lit< tt; moments = moments }
