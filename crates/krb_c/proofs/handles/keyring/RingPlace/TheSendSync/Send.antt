use denote.Struct.Struct.{exits_of}
use denote.Struct.Owning.{shape, fields, to}
use denote.Param.Send.{IsSend, AllSend, owning_send, struct_send, sendable}
use Rattle.std_alloc.proofs.SendSync.{quiet}
use Rattle.std_heap.proofs.Global.TheSendSync as handle
use Rattle.krb_c.proofs.Places.{place_keyless}
use Rattle.krb_c.specs.contracts.handles.keyring.RingPlace.{the_row, the_type}
use Rattle.krb_keyring.specs.contracts.keyring.Keyring as Keyring
use Rattle.krb_keyring.proofs.keyring.Keyring.TheSendSync.{the_send as state}

pub send : IsSend the_row
send =
    let all : AllSend (fields the_type) = (search sendable, (handle.the_field_send, tt)) in
    owning_send the_type all (λ d. place_keyless Keyring.the_row state d.alloc d.at d.value)
    (λ k. quiet (to the_type) (exits_of k (fields the_type)) ((struct_send (shape the_type) all).leaving k))
