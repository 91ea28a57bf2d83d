use Rattle.std.proofs.Common.{◌++◌, ℕ, List, take}
use Rattle.krb_crypto.specs.Keyed.{IsHmacOf}
use Rattle.krb_context.specs.Spelled.{covered}
use Rattle.krb_context.proofs.open.update_covered.Given as goal

abbrev pub invariant-loop-buffer : goal.invariant-loop-buffer
invariant-loop-buffer l = (key message : List ℕ) → IsHmacOf key message l.initial.state → IsHmacOf key (message ++ covered l.plain (take l.buffer-index l.buffers)) l.state
