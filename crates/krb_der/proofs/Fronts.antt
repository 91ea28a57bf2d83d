-- The octets that were written first, as the front of all octets.
use Rattle.std.proofs.Common.{◌≡◌, ℕ, List, [], ◌∷◌, ◌++◌, length, take, refl, ap, ◌∙◌, append_assoc}
use Rattle.std.proofs.lemmas.List.{take_at}

pub take_front : (a b : List ℕ) → take (length a) (a ++ b) ≡ a
take_front a b = take_at a b (length a) refl

pub take_front2 : (a b c : List ℕ) → take (length a) ((a ++ b) ++ c) ≡ a
take_front2 a b c = ap (take (length a)) (append_assoc a b c) ∙ take_front a (b ++ c)

pub take_front3 : (a b c d : List ℕ) → take (length a) (((a ++ b) ++ c) ++ d) ≡ a
take_front3 a b c d = ap (take (length a)) (append_assoc (a ++ b) c d) ∙ take_front2 a b (c ++ d)

pub ruleset fronts = (take_front, take_front2, take_front3, append_assoc)
