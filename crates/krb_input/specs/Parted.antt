-- The events of two workers.
use Rattle.std.specs.Prelude.{ℕ, ◌+◌, ◌%◌, ◌==◌, Bool, if◌then◌else◌, List, [], ◌∷◌}
use Rattle.std.specs.List.{filter}
use Rattle.krb_script.specs.declared.item.Event.{Event}

-- a connection with this number is the worker's
abbrev pub is_of : ℕ → ℕ → Bool
is_of worker id = id % 2 == worker

-- the events that a worker takes, in order
abbrev pub events_of : ℕ → List Event → List Event
events_of worker events = filter (λ (event : Event). is_of worker event.connection) events

-- the numbers of a worker's events, if the first event of the list has the number n
abbrev pub numbers_from : ℕ → ℕ → List Event → List ℕ
numbers_from n worker [] = []
numbers_from n worker (event ∷ events) =
    if is_of worker event.connection then n ∷ numbers_from (n + 1) worker events else numbers_from (n + 1) worker events

-- the numbers of a worker's events in the input, counted from 1
abbrev pub numbers_of : ℕ → List Event → List ℕ
numbers_of worker events = numbers_from 1 worker events
