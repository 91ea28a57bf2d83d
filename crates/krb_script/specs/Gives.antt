-- The result of a step of reading, against the value that it should find.
use Rattle.std.specs.Prelude.{◌≡◌, Option, Some, None, Result, MatchResult}
use Rattle.krb_script.specs.declared.fields.FieldError.{FieldError}
use Rattle.krb_script.specs.declared.fields.FieldError.TheVariants.{Bad}

-- a step returns the value that is found, and fails with `Bad` only if there is none; memory may run out at any time
abbrev pub Gives : {T : Type 0} → Option T → Result T FieldError → Type 0
Gives found result = MatchResult result (λ value. found ≡ Some value) (λ e. e ≡ Bad → found ≡ None)

-- a step leaves the state that is found, and fails with `Bad` only if there is none; memory may run out at any time
abbrev pub GivesAfter : {T : Type 0} → Option T → Result (Unit {0}) FieldError → T → Type 0
GivesAfter found result new = MatchResult result (λ _. found ≡ Some new) (λ e. e ≡ Bad → found ≡ None)
