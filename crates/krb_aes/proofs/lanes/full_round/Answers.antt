use Rattle.krb_aes.specs.Field.{product}
use Rattle.krb_aes.specs.Tower.{pair_sum, tower}
use Rattle.krb_aes.specs.declared.tables.TheConstants.{ONCE_U, ONCE_T, TWICE_U, TWICE_T}
use Rattle.krb_aes.proofs.EachOctet.{in_tower}
use Rattle.krb_aes.proofs.ForwardEntries.{bare, once_is, twice_is}
use Rattle.krb_aes.proofs.ForwardRounds.{full_round_lanes}
use Rattle.krb_aes.proofs.lanes.full_round.Goals as goal

pub returns : goal.returns
returns c s k bs bk ev ek =
    full_round_lanes _ _ _ s k bs bk
    (in_tower (pair_sum ONCE_U ONCE_T) (λ x. tower (bare x)) once_is s _ _ bs ev c.pair_sums-once.ensures)
    (in_tower (pair_sum TWICE_U TWICE_T) (λ x. tower (product 2 (bare x))) twice_is s _ _ bs ev c.pair_sums-twice.ensures) ek
