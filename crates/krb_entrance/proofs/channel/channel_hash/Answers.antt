use Rattle.std.proofs.Common.{sym, ◌∙◌}
use Rattle.krb_entrance.proofs.ChannelLemmas.{short_bindings}
use Rattle.krb_entrance.proofs.channel.channel_hash.Goals as goal

pub bindings_hash-requires : goal.bindings_hash-requires
bindings_hash-requires c = short_bindings c.args.bindings.now (sym c.are_short.ensures ∙ c.if-are_short.true)
