use Rattle.std.proofs.Common.{◌≡◌, ◌++◌, take}
use Rattle.std.specs.Prelude.{codes, string_bytes}
use Rattle.std.specs.List.{flat_map}
use Rattle.krb_machine.specs.Reply.{buffer_text}
use Rattle.krb_machine.proofs.reply.buffers_line.Given as goal

abbrev pub invariant-loop-buffer : goal.invariant-loop-buffer
invariant-loop-buffer l = string_bytes l.line ≡ codes "buffers" ++ flat_map buffer_text (take l.buffer-index l.buffers)
