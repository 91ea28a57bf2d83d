-- The shapes of lines.
use Rattle.std.proofs.Common.{◌≡◌, ℕ, List, length, take, arith}
use Rattle.std.specs.Prelude.{map, min, max, replicate}
use Rattle.std.proofs.lemmas.List.{length-map, take-replicate}
use Rattle.krb_reasons.specs.Shapes.{buffers_shape}
use Rattle.krb_reasons.specs.declared.wanted.Wanted.TheVariants.{Buffer}

pub buffers_taken : (count : ℕ) → take (min (max count 1) 16) (replicate 16 Buffer) ≡ buffers_shape count
buffers_taken count = take-replicate (min (max count 1) 16) 16 Buffer (omega arith)

pub mapped_count : {X : Type 0} (f : X → List ℕ) (xs : List X) → length (map f xs) ≡ length xs
mapped_count f xs = length-map xs f
