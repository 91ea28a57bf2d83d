use Rattle.krb_crypto.proofs.FoldedLemmas.{checksum_folds}
use Rattle.krb_crypto.proofs.folded.checksum_block.Goals as goal

pub folded_constant-requires : goal.folded_constant-requires
folded_constant-requires c = checksum_folds
