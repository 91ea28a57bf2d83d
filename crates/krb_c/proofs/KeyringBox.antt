-- A place that holds one owns what a box of one owns, under the same words.
use denote.Signature.{Slot, plain}
use Rattle.std_alloc.proofs.BoxSteps.Form.{Bx}
use Rattle.std_heap.specs.contracts.Global as Heap
use Rattle.std_heap.specs.contracts.GlobalAllocator.TheImpl.{ghosts}
use Rattle.krb_c.proofs.Places.{heap_al}
use Rattle.krb_c.specs.contracts.handles.keyring.RingPlace as place
use Rattle.krb_c.specs.contracts.handles.parts.Parts as parts
use Rattle.krb_keyring.specs.contracts.keyring.Keyring as state
use Rattle.krb_keyring.proofs.keyring.Keyring.TheLaws as laws

abbrev pub E : Bx
E = record { row = state.the_row; laws = laws.the_row_laws; al = heap_al }

abbrev pub FromParts : Slot 0
FromParts = plain (λ _. parts.the_row state.the_row Heap.the_row ghosts)

abbrev pub FromPlace : Slot 0
FromPlace = plain (λ _. place.the_row)
