-- Places of values on the heap.
use mathlib.Core.Path.{◌≡◌, refl}
use mir.Raw.{raw}
use mir.Syntax.{impl, tnil, dnil}
use base.Shift.{Keyless}
use denote.Memory.{lone}
use denote.Param.Send.{IsSend}
use denote.RattleType.{RattleType}
use denote.RawPtr.{Ptr}
use Rattle.core.proofs.alloc.Calls.{Al}
use Rattle.std.proofs.Crossing as heap_frees
use Rattle.std.specs.Global.{Global}
use Rattle.std.specs.Prelude.{[], Option, None, Some}
use Rattle.std_alloc.proofs.SendSync.{lies}
use Rattle.std_heap.specs.contracts.Global as Heap
use Rattle.std_heap.specs.contracts.GlobalAllocator.TheImpl.{ghosts, dict}
use Rattle.std_heap.proofs.Global.TheLaws as heap
use Rattle.krb_c.specs.Places.{place_owns}

abbrev pub heap_al : Al
heap_al = record { row = Heap.the_row; laws = heap.the_row_laws; g = ghosts; d = dict; drops = impl [] tnil dnil }

-- what is there where something is
pub there : {A : Type 0} (found : Option A) → (found ≡ None → ⊥) → (x : A) × (found ≡ Some x)
there None is = absurd (is refl)
there (Some x) is = (x, refl)

-- what a place owns names no key
pub place_keyless : (R : RattleType) → IsSend R → (a : Global) (p : Ptr) (found : Option R.Denot) → Keyless (place_owns (ghosts.dealloc_token a) R p found)
place_keyless R s a p None = tt
place_keyless R s a p (Some x) = (lies R s p x, heap_frees.frees.frees a (raw (lone R.mir)) p)
