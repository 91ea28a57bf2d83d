-- The texts that a KDC accepts, its refusals, and the salts of passwords.
use Rattle.std.proofs.Common.{◌≡◌, ℕ, ◌≤◌, ◌^◌, Bool, true, false, List, [], ◌∷◌, ◌++◌, length, Option, Some, None, is_some, is_none, refl, ap, ◌∙◌, arith}
use Rattle.std.specs.Prelude.{◌≢◌, ◌&&◌, IfSome}
use Rattle.std.proofs.lemmas.Bool.{and_parts, and_from}
use Rattle.std.proofs.lemmas.Bool.Decides.{nat_tests}
use Rattle.std.proofs.lemmas.List.Folds.{list_all-append}
use Rattle.krb_der.specs.Schema.{is_ascii}
use Rattle.krb_kdc.specs.Fitting.{is_short, is_short_salt, are_ascii}
use Rattle.krb_kdc.specs.Registers.{IsRefused}
use Rattle.krb_kdc.specs.declared.error.KdcError.{KdcError}
use Rattle.krb_kdc.specs.declared.error.KdcError.TheVariants.{OutOfMemory}
use Rattle.krb_realm.specs.Realms.{end_to_end, salt_of}

ascii-append : (xs ys : List ℕ) → is_ascii xs ≡ true → is_ascii ys ≡ true → is_ascii (xs ++ ys) ≡ true
ascii-append xs ys p q = list_all-append _ xs ys ∙ and_from (is_ascii xs) (is_ascii ys) p q

end_to_end_ascii : (components : List (List ℕ)) → are_ascii components ≡ true → is_ascii (end_to_end components) ≡ true
end_to_end_ascii [] all = refl
end_to_end_ascii (x ∷ xs) all =
    let both = and_parts (is_ascii x) (are_ascii xs) all in
    ascii-append x (end_to_end xs) both.0 (end_to_end_ascii xs both.1)

-- a salt of names is one
pub salt_ascii : (realm : List ℕ) (components : List (List ℕ)) → is_ascii realm ≡ true → are_ascii components ≡ true → is_ascii (salt_of realm components) ≡ true
salt_ascii realm components p q = ascii-append realm (end_to_end components) p (end_to_end_ascii components q)

-- a short text, as a fact
pub short_is : (text : List ℕ) → is_short text ≡ true → length text ≤ 2 ^ 24
short_is text e = grind (arith, nat_tests)

pub short_salt_is : (salt : Option (List ℕ)) → is_short_salt salt ≡ true → IfSome salt (λ text. length text ≤ 2 ^ 24)
short_salt_is None e = tt
short_salt_is (Some salt) e = short_is salt e

-- where memory did not run out, there was a refusal
pub refused_is : (refusal : Option KdcError) (error : KdcError) → IsRefused refusal error → error ≢ OutOfMemory → is_none refusal ≡ false
refused_is None error e not_memory = absurd (not_memory e)
refused_is (Some refusal) error e not_memory = refl

pub taken_is : (refusal : Option KdcError) → refusal ≡ None → is_none refusal ≡ true
taken_is refusal e = ap is_none e

pub and_false : (a b : Bool) → b ≡ false → (a && b) ≡ false
and_false true b e = e
and_false false b e = refl

-- what is not some is none
pub none_is : {A : Type 0} (o : Option A) → is_some o ≡ false → o ≡ None
none_is None e = refl
none_is (Some x) e = absurd cc
