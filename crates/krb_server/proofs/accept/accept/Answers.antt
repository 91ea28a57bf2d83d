use Rattle.std.proofs.Common.{refl, Some}
use Rattle.krb_server.proofs.Retold.{found_one}
use Rattle.krb_server.proofs.accept.accept.Goals as goal

pub returns-in-Ok-Some-clause-step : goal.returns-in-Ok-Some-clause-step
returns-in-Ok-Some-clause-step g c =
    λ ne. record {
      tgt_req = Some c.in-Ok-Some.tgt_req;
      found = found_one _ _ _ c.in-Ok-Some.field-0-is c.in-Ok-Some.ensures;
      made = (c.take_tgt_req.ensures.step.so ne, refl, refl);
    }
