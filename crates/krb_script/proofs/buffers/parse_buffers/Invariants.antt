use Rattle.std.proofs.Common.{◌≡◌, take, Some}
use Rattle.std.specs.Prelude.{map}
use Rattle.krb_script.specs.Buffers.{buffers_of}
use Rattle.krb_script.proofs.buffers.parse_buffers.Given as goal

abbrev pub invariant-loop-field : goal.invariant-loop-field
invariant-loop-field l = buffers_of (map (λ field. field.now) (take l.field-index l.fields)) ≡ Some l.buffers.items
