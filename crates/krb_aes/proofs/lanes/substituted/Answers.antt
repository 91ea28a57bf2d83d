use Rattle.krb_aes.specs.Tower.{pair_sum}
use Rattle.krb_aes.specs.declared.tables.TheConstants.{PLAIN_U, PLAIN_T}
use Rattle.krb_aes.proofs.EachOctet.{in_tower}
use Rattle.krb_aes.proofs.ForwardChain.{IsBlock-vector}
use Rattle.krb_aes.proofs.ForwardEntries.{bare, plain_is}
use Rattle.krb_aes.proofs.ForwardRounds.{substituted_is}
use Rattle.krb_aes.proofs.lanes.substituted.Goals as goal

pub returns : goal.returns
returns c =
    substituted_is c.args.v _ c.fits-v
    (in_tower (pair_sum PLAIN_U PLAIN_T) bare plain_is c.args.v _ _ (IsBlock-vector c.args.v c.fits-v) c.into_tower-t.ensures c.pair_sums.ensures)
