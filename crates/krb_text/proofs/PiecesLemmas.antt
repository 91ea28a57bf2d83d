-- The held octets after a read, and after some of them are taken.
use Rattle.std.proofs.Common.{◌≡◌, ℕ, ◌+◌, ◌-◌, ◌≤◌, List, [], ◌++◌, length, length-drop, take, drop, Option, Some, None, ap, sym, ◌∙◌, append_assoc, arith}
use Rattle.std.specs.Io.KnownBytes.{Consumes, prepend_known}
use Rattle.std.specs.List.{copy_within}
use Rattle.std.proofs.lemmas.List.{append-nil, drop_all, drop-take, take_all}
use Rattle.std.proofs.lemmas.List.Edits.{take-paste}
use Rattle.std.proofs.Math.Seq.{take-add}
use Rattle.krb_text.specs.Pieces.{Pieces}

-- the octets that were there, and those that were read
pub held-read : (room at n : ℕ) (old new items : List ℕ) → length new ≡ room → length items ≡ room → take at new ≡ old
    → take (at + n) (take room (new ++ drop (length new) items)) ≡ old ++ take n (drop at new)
held-read room at n old new items new_len items_len front =
    let none : drop (length new) items ≡ [] = drop_all (length new) items (omega arith) in
    let whole : take room (new ++ drop (length new) items) ≡ new = ap (λ l. take room (new ++ l)) none ∙ ap (take room) (append-nil new) ∙ take_all room new (omega arith) in
    ap (take (at + n)) whole ∙ take-add at n new ∙ ap (λ l. l ++ take n (drop at new)) front

pub consumes-read : (before after : Option (List ℕ)) (old more : List ℕ) → Consumes before after more → Consumes (prepend_known old before) (prepend_known (old ++ more) after) []
consumes-read None after old more p = tt
consumes-read (Some u) None old more p = absurd p
consumes-read (Some u) (Some v) old more p = ap (λ l. old ++ l) p ∙ sym (append_assoc old more v)

-- the octets after those that are taken
pub held-taken : (items : List ℕ) (count n : ℕ) → n ≤ count → count ≤ length items → take (count - n) (copy_within items n count 0) ≡ drop n (take count items)
held-taken items count n low fits =
    let len = length-drop n items in
    let m : n + (count - n) ≡ count = omega arith in
    let zero_is : count - n ≡ 0 + (count - n) = omega arith in
    ap (λ k. take k (copy_within items n count 0)) zero_is ∙ take-paste items 0 (drop n items) (count - n) (omega arith) (omega arith) ∙ sym (drop-take n (count - n) items) ∙ ap (λ k. drop n (take k items)) m

pub pieces-are : (held other : List ℕ) (taken count : ℕ) → held ≡ other → taken ≡ count → ◌≡◌ {A = Pieces} (record { held = held; taken = taken }) (record { held = other; taken = count })
pieces-are held other taken count h t = cc (h, t)
