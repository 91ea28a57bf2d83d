use Rattle.krb_aes.specs.Tower.{pair_sum}
use Rattle.krb_aes.specs.declared.tables.TheConstants.{PLAIN_U, PLAIN_T}
use Rattle.krb_aes.proofs.EachOctet.{in_tower}
use Rattle.krb_aes.proofs.ForwardEntries.{bare, plain_is}
use Rattle.krb_aes.proofs.ForwardRounds.{last_round_lanes}
use Rattle.krb_aes.proofs.lanes.last_round.Goals as goal

pub returns : goal.returns
returns c s k bs bk ev ek =
    last_round_lanes _ _ s k bs bk (in_tower (pair_sum PLAIN_U PLAIN_T) bare plain_is s _ _ bs ev c.pair_sums.ensures) ek
