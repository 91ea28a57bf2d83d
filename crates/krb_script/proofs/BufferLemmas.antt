-- Buffers, one after another.
use Rattle.std.proofs.Common.{◌≡◌, ◌<◌, ◌+◌, ℕ, List, [], ◌∷◌, ◌++◌, length, take, drop, get_or, Option, Some, None, refl, sym, ap, ap₂, ◌∙◌}
use Rattle.std.specs.Prelude.{map}
use Rattle.std.proofs.lemmas.List.{take-append-drop, take_more, drop_more, map-append}
use Rattle.sspi_core.specs.Buffer.{Buffer}
use Rattle.krb_der.specs.Reading.{◌>>=◌}
use Rattle.krb_script.specs.Buffers.{buffer_of, buffers_of}

abbrev joined : Option Buffer → Option (List Buffer) → Option (List Buffer)
joined first more = first >>= (λ (x : Buffer). more >>= (λ (xs : List Buffer). Some (x ∷ xs)))

none_behind : (first : Option Buffer) → joined first None ≡ None
none_behind None = refl
none_behind (Some x) = refl

-- if one field declares no buffer, the fields declare no list of buffers
pub none-among : (front : List (List ℕ)) (field : List ℕ) (rest : List (List ℕ)) → buffer_of field ≡ None → buffers_of (front ++ field ∷ rest) ≡ None
none-among [] field rest none = ap (λ (o : Option Buffer). joined o (buffers_of rest)) none
none-among (x ∷ front) field rest none = ap (joined (buffer_of x)) (none-among front field rest none) ∙ none_behind (buffer_of x)

abbrev both : Option (List Buffer) → Option Buffer → Option (List Buffer)
both found last = found >>= (λ (xs : List Buffer). last >>= (λ (b : Buffer). Some (xs ++ b ∷ [])))

only_last : (last : Option Buffer) → joined last (Some []) ≡ both (Some []) last
only_last None = refl
only_last (Some b) = refl

joined_both : (first : Option Buffer) (found : Option (List Buffer)) (last : Option Buffer) → joined first (both found last) ≡ both (joined first found) last
joined_both None found last = refl
joined_both (Some x) None last = refl
joined_both (Some x) (Some xs) None = refl
joined_both (Some x) (Some xs) (Some b) = refl

-- one more field
one_more : (front : List (List ℕ)) (field : List ℕ) → buffers_of (front ++ field ∷ []) ≡ both (buffers_of front) (buffer_of field)
one_more [] field = only_last (buffer_of field)
one_more (x ∷ front) field = ap (joined (buffer_of x)) (one_more front field) ∙ joined_both (buffer_of x) (buffers_of front) (buffer_of field)

-- a field that declares no buffer, by its position
pub fails-at : {T : Type 0} (octets : T → List ℕ) (fields : List T) (i : ℕ) (d : T) → i < length fields → buffer_of (octets (get_or fields i d)) ≡ None
    → buffers_of (map octets fields) ≡ None
fails-at octets fields i d low none =
    ap (λ l. buffers_of (map octets l)) (sym (take-append-drop i fields) ∙ ap (λ l. take i fields ++ l) (drop_more fields i d low))
    ∙ ap buffers_of (map-append octets (take i fields) (get_or fields i d ∷ drop (i + 1) fields))
    ∙ none-among (map octets (take i fields)) (octets (get_or fields i d)) (map octets (drop (i + 1) fields)) none

-- one more buffer, by the position of its field
pub one-more-at : {T : Type 0} (octets : T → List ℕ) (fields : List T) (i : ℕ) (d : T) (xs : List Buffer) (b : Buffer) → i < length fields
    → buffers_of (map octets (take i fields)) ≡ Some xs → buffer_of (octets (get_or fields i d)) ≡ Some b
    → buffers_of (map octets (take (i + 1) fields)) ≡ Some (xs ++ b ∷ [])
one-more-at octets fields i d xs b low told found =
    ap (λ l. buffers_of (map octets l)) (take_more fields i d low)
    ∙ ap buffers_of (map-append octets (take i fields) (get_or fields i d ∷ []))
    ∙ one_more (map octets (take i fields)) (octets (get_or fields i d)) ∙ ap₂ both told found
