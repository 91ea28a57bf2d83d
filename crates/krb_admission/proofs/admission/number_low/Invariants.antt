use Rattle.std.proofs.Common.{◌≡◌, ◌%◌, ◌^◌, take}
use Rattle.krb_der.specs.Reading.{number_of}
use Rattle.krb_admission.proofs.admission.number_low.Given as goal

abbrev pub invariant-loop-octet : goal.invariant-loop-octet
invariant-loop-octet l = l.word ≡ number_of (take l.octet-index l.octets) % 2 ^ 32
