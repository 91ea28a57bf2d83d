use Rattle.std.proofs.Common.{arith}
use Rattle.krb_requests.proofs.Lengths.{wish_complete, wish_short}
use Rattle.krb_requests.proofs.pa_datas.pac_request.Goals as goal

pub write-requires-clause-complete : goal.write-requires-clause-complete
write-requires-clause-complete c = wish_complete

pub write-requires-clause-short : goal.write-requires-clause-short
write-requires-clause-short c = let k = wish_short in omega (arith, k)
