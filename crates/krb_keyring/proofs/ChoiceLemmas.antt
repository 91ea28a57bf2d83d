-- The order of the entries that a ticket is opened with.
use Rattle.std.proofs.Common.{◌≡◌, ℕ, ◌+◌, ◌<◌, ◌^◌, Bool, false, cond, List, [], ◌∷◌, ◌++◌, length, take, drop, get_or, refl, sym, ap, ◌∙◌, subst, arith}
use Rattle.std.specs.Prelude.{ℤ, pos, not, map, insert, nat_lt, FitsSigned}
use Rattle.std.specs.Borrow.{Bor}
use Rattle.std.specs.Int.{w64}
use Rattle.std.specs.List.{position_or_len}
use Rattle.std.specs.Ordering.{int_eq}
use Rattle.std.proofs.lemmas.Bool.{false_from_ne_true}
use Rattle.std.proofs.lemmas.Bool.Decides.{Decides-int_eq}
use Rattle.std.proofs.lemmas.List.{map-append, take-map, drop-map}
use Rattle.std.proofs.lemmas.List.Sums.{fold_more}
use Rattle.krb_keyring.specs.Choice.{put, newest_with, newest_first}
use Rattle.krb_keytab.specs.declared.entry.KeytabEntry.{KeytabEntry}

-- ---- numbers

fits_w64 : (n : ℕ) → n < 2 ^ 32 → FitsSigned w64 (pos n)
fits_w64 n low = record { sfits = omega arith }

-- a number of 32 bits is no integer that has not 64
pub past_w64 : (integer : ℤ) (n : ℕ) → n < 2 ^ 32 → (FitsSigned w64 integer → ⊥) → int_eq integer (pos n) ≡ false
past_w64 integer n low past =
    false_from_ne_true (int_eq integer (pos n)) (λ e. past (subst (FitsSigned w64) (sym ((Decides-int_eq integer (pos n)).0 e)) (fits_w64 n low)))

-- ---- lent entries, and the entries

place_in : {X Y : Type 0} (p : Y → Bool) (f : X → Y) (xs : List X) → position_or_len (λ x. p (f x)) xs ≡ position_or_len p (map f xs)
place_in p f [] = refl
place_in p f (x ∷ xs) = ap (λ (n : ℕ). cond (not (p (f x))) (1 + n) 0) (place_in p f xs)

insert_in : {X Y : Type 0} (f : X → Y) (xs : List X) (i : ℕ) (x : X) → map f (insert xs i x) ≡ insert (map f xs) i (f x)
insert_in {X} {Y} f xs i x =
    map-append f (take i xs) (x ∷ drop i xs)
    ∙ ap (λ (front : List Y). front ++ f x ∷ map f (drop i xs)) (sym (take-map f i xs))
    ∙ ap (λ (back : List Y). take i (map f xs) ++ f x ∷ back) (sym (drop-map f i xs))

abbrev now : Bor KeytabEntry → KeytabEntry
now entry = entry.now

pub put_in : (old new : List (Bor KeytabEntry)) (entry : Bor KeytabEntry) (place : ℕ) → place ≡ position_or_len (λ (other : Bor KeytabEntry). nat_lt other.now.version entry.now.version) old
    → new ≡ insert old place entry → map now new ≡ put entry.now (map now old)
put_in old new entry place at is =
    ap (map now) is ∙ insert_in now old place entry
    ∙ ap (λ (i : ℕ). insert (map now old) i entry.now) (at ∙ place_in (λ (other : KeytabEntry). nat_lt other.version entry.now.version) now old)

-- ---- one entry more

pub newest_more : (passes : KeytabEntry → Bool) (entries : List KeytabEntry) (i : ℕ) (entry : KeytabEntry) → i < length entries → entry ≡ get_or entries i entry
    → newest_with passes (newest_first passes (take i entries)) entry ≡ newest_first passes (take (i + 1) entries)
unfolding newest_first
newest_more passes entries i entry low is =
    ap (λ (e : KeytabEntry). newest_with passes (newest_first passes (take i entries)) e) is
    ∙ sym (fold_more (λ (newest : List KeytabEntry) (e : KeytabEntry). newest_with passes newest e) [] entries i entry low)
