-- Fields that are read one after another, with one answer at the end: the octets that are left, and why reading failed.
use Rattle.std.specs.Prelude.{◌≡◌, ℕ, List, ◌++◌, Bool, true, IfSome, Option, Some, None, Result, Ok, Err, option_map}
use Rattle.krb_der.specs.declared.fault.Fault.{Fault}
use Rattle.krb_der.specs.declared.fault.Fault.TheVariants.{Shape, OutOfMemory}
use Rattle.krb_der.specs.Schema.{Fields, nothing, required, optional, sequence, application, Row, IsSound, row_octets}
use Rattle.krb_der.specs.Field.{FieldNext, NoFieldNext, OptionalNext, NoOptionalNext}
use Rattle.krb_der.specs.Layout.{Layout}
use Rattle.krb_der.specs.Records.{value_in, row_in}

-- Memory did not run out.
abbrev pub IsKnown : Option Fault → Type 0
IsKnown None = Unit {0}
IsKnown (Some Shape) = Unit {0}
IsKnown (Some OutOfMemory) = ⊥

-- the fields that are left, where reading has not failed
abbrev pub row_unless : (fields : Fields) → List ℕ → Option Fault → Option (Row fields)
row_unless fields octets None = row_in fields octets
row_unless fields octets (Some fault) = None

abbrev pub row_left : (fields : Fields) → List ℕ × Option Fault → Option (Row fields)
row_left fields at = row_unless fields at.0 at.1

-- The contents of a SEQUENCE were opened.
abbrev pub OpensRecord : List ℕ → List ℕ × Option Fault → Type 0
OpensRecord contents at = (fields : Fields) → value_in (sequence fields) contents ≡ row_left fields at

-- The contents of an application tag were opened, in which there is a SEQUENCE.
abbrev pub OpensIn : List ℕ → List ℕ × Option Fault → Type 0
OpensIn contents at = (n : ℕ) (fields : Fields) → value_in (application n (sequence fields)) contents ≡ row_left fields at

-- A field was read, or it was refused, or reading had failed before: the field at the front, and for proofs the equation of rows
-- whatever fields follow it.
pub record Next {A : Type 0} (layout : Layout A) (n : ℕ) (x : A) (old new : List ℕ × Option Fault) : Type 0 where
  pub known : IsKnown new.1 → IsKnown old.1
  pub row : IsKnown new.1 → (fields : Fields) → row_left (required n layout.kind fields) old ≡ option_map (λ row. (layout.view x, row)) (row_left fields new)
  pub found : new.1 ≡ None → (old.1 ≡ None) × FieldNext n layout.kind (layout.view x) old.0 new.0
  pub none : old.1 ≡ None → new.1 ≡ Some Shape → NoFieldNext n layout.kind old.0

pub record NextOptional {A : Type 0} (layout : Layout A) (n : ℕ) (x : Option A) (old new : List ℕ × Option Fault) : Type 0 where
  pub known : IsKnown new.1 → IsKnown old.1
  pub row : IsKnown new.1 → (fields : Fields)
      → row_left (optional n layout.kind fields) old ≡ option_map (λ row. (option_map layout.view x, row)) (row_left fields new)
  pub found : new.1 ≡ None → (old.1 ≡ None) × OptionalNext n layout.kind (option_map layout.view x) old.0 new.0
  pub none : old.1 ≡ None → new.1 ≡ Some Shape → NoOptionalNext n layout.kind old.0

-- The answer, where no fields are left to be read.
abbrev pub FinishesRecord : {X : Type 0} → X → Result X Fault → List ℕ × Option Fault → Type 0
FinishesRecord x (Ok y) at = (y ≡ x) × (IsKnown at.1 × (row_left nothing at ≡ Some tt))
FinishesRecord x (Err Shape) at = IsKnown at.1 × (row_left nothing at ≡ None)
FinishesRecord x (Err OutOfMemory) at = Unit {0}

-- A field was written, whatever fields follow it.
pub record Writes {A : Type 0} (layout : Layout A) (n : ℕ) (x : A) (old new : List ℕ × Bool) : Type 0 where
  pub known : new.1 ≡ true → old.1 ≡ true
  pub sound : new.1 ≡ true → IsSound layout.kind (layout.view x)
  pub octets : new.1 ≡ true → (fields : Fields) (row : Row fields)
      → old.0 ++ row_octets (required n layout.kind fields) (layout.view x, row) ≡ new.0 ++ row_octets fields row

pub record WritesOptional {A : Type 0} (layout : Layout A) (n : ℕ) (x : Option A) (old new : List ℕ × Bool) : Type 0 where
  pub known : new.1 ≡ true → old.1 ≡ true
  pub sound : new.1 ≡ true → IfSome (option_map layout.view x) (IsSound layout.kind)
  pub octets : new.1 ≡ true → (fields : Fields) (row : Row fields)
      → old.0 ++ row_octets (optional n layout.kind fields) (option_map layout.view x, row) ≡ new.0 ++ row_octets fields row

-- the octets that were written, once no field follows
abbrev pub written : List ℕ × Bool → List ℕ
written at = at.0 ++ row_octets nothing tt
