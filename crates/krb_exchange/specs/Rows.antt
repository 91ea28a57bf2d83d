-- Rows of values, written as the fields of the table are.

-- a value, and the values after it
infixr 5 ◌&◌
abbrev pub ◌&◌ : {A B : Type 0} → A → B → A × B
value & row = (value, row)
