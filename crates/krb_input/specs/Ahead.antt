-- The items that are read of lines before the lines are taken.
use Rattle.std.specs.Prelude.{◌≡◌, ℕ, List, [], ◌∷◌, Option, Some, IfSome}
use Rattle.krb_script.specs.Items.{item_of}
use Rattle.krb_script.specs.declared.item.Item.{Item}

-- nothing was read of a line, or the item that it declares
abbrev pub Declares : List ℕ → Option Item → Type 0
Declares line ahead = IfSome ahead (λ item. item_of line ≡ Some item)

-- for each line, at its position, the item that was read of it, if any; there may be fewer places than lines
abbrev pub AreOf : List (Option Item) → List (List ℕ) → Type 0
AreOf [] lines = Unit {0}
AreOf (ahead ∷ more) [] = ⊥
AreOf (ahead ∷ more) (line ∷ lines) = Declares line ahead × AreOf more lines
