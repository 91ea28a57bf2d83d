use Rattle.std.proofs.Common.{◌∙◌, arith}
use Rattle.krb_crypto.proofs.folded.folded_constant.Goals as goal

pub returns-then-usage-lt26 : goal.returns-then-usage-lt26
returns-then-usage-lt26 c = c.to_be_bytes.ensures ∙ c.requires.at c.args.usage (omega arith)
