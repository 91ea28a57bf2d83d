use Rattle.std.proofs.Common.{take}
use Rattle.std.specs.Prelude.{All}
use Rattle.krb_entrance.specs.Turns.{IsClosed}
use Rattle.krb_entrance.proofs.in_turn.judge_older.Given as goal

abbrev pub invariant-loop-keys : goal.invariant-loop-keys
invariant-loop-keys l = All (IsClosed l.channel l.token l.draw) (take l.keys-index l.older)
