use Rattle.krb_crypto.proofs.FoldedLemmas.{encryption_folds}
use Rattle.krb_crypto.proofs.folded.encryption_block.Goals as goal

pub folded_constant-requires : goal.folded_constant-requires
folded_constant-requires c = encryption_folds
