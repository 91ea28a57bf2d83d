use Rattle.std.proofs.Common.{◌≡◌, length, ap, ◌∙◌, rules}
use Rattle.krb_replay.specs.History.{window}
use Rattle.krb_replay.proofs.Order.{length-in_order}
use Rattle.krb_replay.proofs.book.ReplayBook.kept.Goals as goal

pub returns-clause-window : goal.returns-clause-window
returns-clause-window c h s =
    let all : c.len.result ≡ length c.args.self.now.kept = search rules in
    all ∙ ap length s.kept ∙ length-in_order (window c.args.self.now.skew h)
