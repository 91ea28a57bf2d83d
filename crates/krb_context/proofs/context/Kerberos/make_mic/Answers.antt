use Rattle.sspi_core.specs.declared.error.Place.TheVariants.{MakeMic}
use Rattle.krb_context.specs.Mics.{MakesMic}
use Rattle.krb_context.proofs.ChainLemmas.{refuses}
use Rattle.krb_context.proofs.context.Kerberos.make_mic.Goals as goal

pub returns-in-Err-clause-refused : goal.returns-in-Err-clause-refused
returns-in-Err-clause-refused c =
    refuses MakeMic (MakesMic c.args.self.now c.args.payload.now) c.in-Err.cause c.at.result c.in-Err.ensures c.at.ensures
