use Rattle.std.proofs.Common.{arith}
use Rattle.sspi_generator.proofs.Lent.{resolves_from}
use Rattle.sspi_generator.proofs.generator.Generator.resolve_with_client.Goals as goal

pub returns-clause-sent : goal.returns-clause-sent
returns-clause-sent g c =
    let rest = c.finish_lent.ensures.sent in (
      rest.0,
      resolves_from g.T.Resumable.resumes _ g.T.Task.starts c.args.self.now c.self.inside.task c.args.client.now.1 c.args.draws.now _ c.start-state.result c.start-state.new.self _ _
          rest.0 c.self.view_is (omega (arith, c.in-len1-up.len_at_least)) c.start-state.ensures.step rest.1,
      rest.2,
    )
