-- Files as their consecutive items.
use Rattle.std.proofs.Common.{◌≡◌, ℕ, zero, suc, ◌+◌, ◌%◌, ◌-◌, ◌^◌, ◌<◌, ◌≢◌, true, false, ltb, eqb, List, [], ◌∷◌, ◌++◌, length, All, Option, Some, Err, refl, sym, ap, subst, ◌∙◌, append_assoc, arith, inl, inr}
use Rattle.std.specs.Option.{option_to_list}
use Rattle.std.specs.List.{flat_map, AllByRecursion}
use Rattle.std.specs.Int.{w16, w32, from_be_bytes, to_be_bytes}
use Rattle.std.specs.Prelude.{not, ◌&&◌}
use Rattle.std.proofs.lemmas.Bool.{cases_lt, ltb-true}
use Rattle.std.proofs.lemmas.List.{append-nil, length-append, get_or_past}
use Rattle.std.proofs.lemmas.List.Concat.{flat_map-append}
use Rattle.std.proofs.lemmas.Nat.{from_be_bytes-to_be_bytes_4}
use Rattle.krb_keytab.specs.declared.error.KeytabError.{KeytabError}
use Rattle.krb_keytab.specs.declared.error.KeytabError.TheVariants as errors
use Rattle.krb_keytab.specs.declared.entry.KeytabEntry.{KeytabEntry}
use Rattle.krb_keytab.specs.Format.{Item, Entry, Hole, item_octets, IsItem, entries_among, IsEnd, IsBroken, IsBrokenAt, IsFault, Spells, version_of, written_entry, written_item, written, counted, sizes, size_of, has_short_parts, can_be_written, can_all_be_written, Fits}
use Rattle.krb_keytab.specs.Reading.{End, next_of}
use Rattle.krb_keytab.specs.Views.{TakesItem}
use Rattle.krb_der.proofs.Values.{IsBytes, IsBytes-tail}
use Rattle.krb_keytab.proofs.Short.{and_parts}
use Rattle.krb_keytab.proofs.NextItems.{Stands, brought, same_brought, entry_of, next_stands, next_ends, next_broken, end_again, item_again, eqb_no}

-- ---- reading on

-- the items so far, what they bring, and what is left
pub record SoFar (body rest : List ℕ) (entries : List KeytabEntry) : Type 0 where
  pub items : List Item
  pub each : AllByRecursion IsItem items
  pub parts : body ≡ flat_map item_octets items ++ rest
  pub among : entries ≡ entries_among items
  pub bytes : IsBytes rest

all_more : (items : List Item) (item : Item) → AllByRecursion IsItem items → IsItem item → AllByRecursion IsItem (items ++ item ∷ [])
all_more [] item each is = (is, tt)
all_more (x ∷ items) item each is = (each.0, all_more items item each.1 is)

among_more : (items : List Item) (item : Item) → entries_among (items ++ item ∷ []) ≡ entries_among items ++ entries_among (item ∷ [])
among_more [] item = refl
among_more (Entry entry octets ∷ items) item = ap (λ (x : List KeytabEntry). entry ∷ x) (among_more items item)
among_more (Hole octets ∷ items) item = among_more items item

pub one_more : (body rest behind : List ℕ) (entries : List KeytabEntry) (entry : Option KeytabEntry) → SoFar body rest entries → Stands rest entry behind → SoFar body behind (entries ++ option_to_list entry)
one_more body rest behind entries entry s t =
    let octets : flat_map item_octets (s.items ++ t.item ∷ []) ≡ flat_map item_octets s.items ++ item_octets t.item = flat_map-append item_octets s.items (t.item ∷ []) ∙ ap (λ (x : List ℕ). flat_map item_octets s.items ++ x) (append-nil (item_octets t.item)) in
    record {
      items = s.items ++ t.item ∷ [];
      each = all_more s.items t.item s.each t.is;
      parts = s.parts ∙ ap (λ (x : List ℕ). flat_map item_octets s.items ++ x) t.parts ∙ sym (append_assoc (flat_map item_octets s.items) (item_octets t.item) behind) ∙ ap (λ (x : List ℕ). x ++ behind) (sym octets);
      among = ap (λ (x : List KeytabEntry). x ++ option_to_list entry) s.among ∙ ap (λ (x : List KeytabEntry). entries_among s.items ++ x) (sym t.brings) ∙ sym (among_more s.items t.item);
      bytes = t.rest_bytes;
    }

pub spelled_so : (body rest : List ℕ) (entries : List KeytabEntry) → SoFar body rest entries → IsEnd rest → Spells entries (5 ∷ 2 ∷ body)
spelled_so body rest entries s ends = record {
  items = s.items;
  rest = rest;
  each = s.each;
  ends = ends;
  parts = ap (λ (x : List ℕ). 5 ∷ 2 ∷ x) s.parts;
  among = s.among;
}

pub broken_there : (body rest : List ℕ) (entries : List KeytabEntry) (place : ℕ) → SoFar body rest entries → IsBroken rest → place ≡ 2 + (length body - length rest) → IsBrokenAt place (5 ∷ 2 ∷ body)
broken_there body rest entries place s broken is = record {
  items = s.items;
  rest = rest;
  each = s.each;
  broken = broken;
  parts = ap (λ (x : List ℕ). 5 ∷ 2 ∷ x) s.parts;
  stands = omega (arith, is, ap length s.parts, length-append (flat_map item_octets s.items) rest);
}

pub took_item : (body rest behind : List ℕ) (entries after : List KeytabEntry) → SoFar body rest entries → (entry : Option KeytabEntry) → next_of rest ≡ brought entry behind → after ≡ entries ++ option_to_list entry → SoFar body behind after × (length behind < length rest)
took_item body rest behind entries after s entry e is =
    let stands = next_stands rest entry behind s.bytes e in
    (rw is (one_more body rest behind entries entry s stands), stands.shorter)

pub took_end : (body rest : List ℕ) (entries after : List KeytabEntry) → SoFar body rest entries → next_of rest ≡ Some End → after ≡ entries → Spells after (5 ∷ 2 ∷ body)
took_end body rest entries after s e is = rw is (spelled_so body rest entries s (next_ends rest s.bytes e))

pub took_fault : (body rest : List ℕ) (place : ℕ) (entries after : List KeytabEntry) (error : KeytabError) → SoFar body rest entries → place ≡ 2 + (length body - length rest) → TakesItem rest place entries (Err error) after → IsFault error (5 ∷ 2 ∷ body)
took_fault body rest place entries after errors.Version s is t = absurd t
took_fault body rest place entries after (errors.Entry at) s is t = broken_there body rest entries at s (next_broken rest t.1) (t.0 ∙ is)
took_fault body rest place entries after errors.OutOfMemory s is t = tt

-- ---- one way

-- no item is at the front
abbrev Stops : List ℕ → Type 0
Stops octets = (entry : Option KeytabEntry) (rest : List ℕ) → next_of octets ≡ brought entry rest → ⊥

end_stops : (octets : List ℕ) → IsEnd octets → Stops octets
end_stops octets is = λ entry rest e. let no : Some End ≡ brought entry rest = sym (end_again octets is) ∙ e in cc

broken_stops : (octets : List ℕ) → IsBytes octets → IsBroken octets → Stops octets
broken_stops octets bytes is = λ entry rest e. let s = next_stands octets entry rest bytes e in is.no_item s.item rest s.is s.parts

among_cons : (item : Item) (items : List Item) → entries_among (item ∷ items) ≡ option_to_list (entry_of item) ++ entries_among items
among_cons (Entry entry octets) items = refl
among_cons (Hole octets) items = refl

first_of_file : (item : Item) (items : List Item) (rest : List ℕ) → IsItem item → next_of (flat_map item_octets (item ∷ items) ++ rest) ≡ brought (entry_of item) (flat_map item_octets items ++ rest)
first_of_file item items rest is = ap next_of (append_assoc (item_octets item) (flat_map item_octets items) rest) ∙ item_again item (flat_map item_octets items ++ rest) is

one_way : (xs ys : List Item) (r s : List ℕ) → AllByRecursion IsItem xs → AllByRecursion IsItem ys → Stops r → Stops s → flat_map item_octets xs ++ r ≡ flat_map item_octets ys ++ s → (entries_among xs ≡ entries_among ys) × (r ≡ s)
one_way [] [] r s eachx eachy stopr stops e = (refl, e)
one_way [] (y ∷ ys) r s eachx eachy stopr stops e = absurd (stopr (entry_of y) (flat_map item_octets ys ++ s) (ap next_of e ∙ first_of_file y ys s eachy.0))
one_way (x ∷ xs) [] r s eachx eachy stopr stops e = absurd (stops (entry_of x) (flat_map item_octets xs ++ r) (ap next_of (sym e) ∙ first_of_file x xs r eachx.0))
one_way (x ∷ xs) (y ∷ ys) r s eachx eachy stopr stops e =
    let both = same_brought (entry_of x) (entry_of y) (flat_map item_octets xs ++ r) (flat_map item_octets ys ++ s) (sym (first_of_file x xs r eachx.0) ∙ ap next_of e ∙ first_of_file y ys s eachy.0) in
    let others = one_way xs ys r s eachx.1 eachy.1 stopr stops both.1 in
    (among_cons x xs ∙ ap (λ (o : Option KeytabEntry). option_to_list o ++ entries_among xs) both.0 ∙ ap (λ (l : List KeytabEntry). option_to_list (entry_of y) ++ l) others.0 ∙ sym (among_cons y ys), others.1)

behind_version : (xs ys : List ℕ) → 5 ∷ 2 ∷ xs ≡ 5 ∷ 2 ∷ ys → xs ≡ ys
behind_version xs ys e = cc

pub one_list : (one other : List KeytabEntry) (octets : List ℕ) → Spells one octets → Spells other octets → one ≡ other
one_list one other octets a b =
    let same = one_way a.items b.items a.rest b.rest a.each b.each (end_stops a.rest a.ends) (end_stops b.rest b.ends) (behind_version _ _ (sym a.parts ∙ b.parts)) in
    a.among ∙ same.0 ∙ sym b.among

bytes_behind : (front rest : List ℕ) → IsBytes (front ++ rest) → IsBytes rest
bytes_behind [] rest bytes = bytes
bytes_behind (x ∷ front) rest bytes = bytes_behind front rest (IsBytes-tail x (front ++ rest) bytes)

bytes_of : (octets : List ℕ) → All (λ octet. octet < 256) octets → IsBytes octets
bytes_of octets all i =
    elim (cases_lt i (length octets)) [
      | inl lt ↦ all i 0 lt
      | inr le ↦ rw (get_or_past octets i 0 le) (omega arith)
    ]

rest_bytes : (octets : List ℕ) (items : List Item) (rest : List ℕ) → All (λ octet. octet < 256) octets → octets ≡ 5 ∷ 2 ∷ (flat_map item_octets items ++ rest) → IsBytes rest
rest_bytes octets items rest all parts =
    let whole : IsBytes (5 ∷ 2 ∷ (flat_map item_octets items ++ rest)) = subst IsBytes parts (bytes_of octets all) in
    bytes_behind (flat_map item_octets items) rest (λ i. whole (suc (suc i)))

pub not_both : (entries : List KeytabEntry) (octets : List ℕ) (place : ℕ) → All (λ octet. octet < 256) octets → Spells entries octets → IsBrokenAt place octets → ⊥
not_both entries octets place all a b =
    let bytes = rest_bytes octets b.items b.rest all b.parts in
    let same = one_way a.items b.items a.rest b.rest a.each b.each (end_stops a.rest a.ends) (broken_stops b.rest bytes b.broken) (behind_version _ _ (sym a.parts ∙ b.parts)) in
    b.broken.no_end (subst IsEnd same.1 a.ends)

pub one_place : (octets : List ℕ) (one other : ℕ) → All (λ octet. octet < 256) octets → IsBrokenAt one octets → IsBrokenAt other octets → one ≡ other
one_place octets one other all a b =
    let bytes_a = rest_bytes octets a.items a.rest all a.parts in
    let bytes_b = rest_bytes octets b.items b.rest all b.parts in
    let same = one_way a.items b.items a.rest b.rest a.each b.each (broken_stops a.rest bytes_a a.broken) (broken_stops b.rest bytes_b b.broken) (behind_version _ _ (sym a.parts ∙ b.parts)) in
    omega (arith, a.stands, b.stands, ap length same.1)

-- ---- what is written

whole_version : (version : ℕ) → version < 2 ^ 32 → version ≢ 0 → version ≡ version_of (version % 256) (to_be_bytes w32 version)
whole_version version lt some =
    let back : from_be_bytes w32 (to_be_bytes w32 version) ≡ version = from_be_bytes-to_be_bytes_4 version lt in
    let positive : 0 < version = above_zero version some in
    sym (rw (back, eqb_no version positive) refl)
  where
    above_zero : (n : ℕ) → n ≢ 0 → 0 < n
    above_zero zero some = absurd (some refl)
    above_zero (suc n) some = omega arith

length_parts : (parts : List (List ℕ)) → length (flat_map counted parts) ≡ sizes parts
length_parts [] = refl
length_parts (part ∷ parts) = omega (arith, length-append (counted part) (flat_map counted parts), length_parts parts)

length_written : (entry : KeytabEntry) → length (written_entry entry) ≡ size_of entry
length_written entry =
    let version : List ℕ = to_be_bytes w32 entry.version in
    omega (arith, length-append entry.realm (flat_map counted entry.components ++ (to_be_bytes w32 entry.name_type ++ (to_be_bytes w32 entry.time ++ (entry.version % 256 ∷ (to_be_bytes w16 entry.key_type ++ (counted entry.key ++ version)))))), length-append (flat_map counted entry.components) (to_be_bytes w32 entry.name_type ++ (to_be_bytes w32 entry.time ++ (entry.version % 256 ∷ (to_be_bytes w16 entry.key_type ++ (counted entry.key ++ version))))), length-append entry.key version, length_parts entry.components)

pub written_short : (entry : KeytabEntry) → can_be_written entry ≡ true → length (written_entry entry) < 2 ^ 31
written_short entry can =
    let others = and_parts (has_short_parts entry) (not (eqb entry.version 0) && ltb (size_of entry) (2 ^ 31)) can in
    let both = and_parts (not (eqb entry.version 0)) (ltb (size_of entry) (2 ^ 31)) others.1 in
    let short : size_of entry < 2 ^ 31 = ltb-true _ _ both.1 in
    omega (arith, length_written entry, short)

written_is_item : (entry : KeytabEntry) → Fits entry → can_be_written entry ≡ true → IsItem (Entry entry (written_entry entry))
written_is_item entry fits can =
    let others = and_parts (has_short_parts entry) (not (eqb entry.version 0) && ltb (size_of entry) (2 ^ 31)) can in
    let both = and_parts (not (eqb entry.version 0)) (ltb (size_of entry) (2 ^ 31)) others.1 in
    let short : size_of entry < 2 ^ 31 = ltb-true _ _ both.1 in
    let is : length (written_entry entry) ≡ size_of entry = length_written entry in (
      record {
        short = entry.version % 256;
        behind = to_be_bytes w32 entry.version;
        fits = fits;
        version = whole_version entry.version fits.version (not_none entry.version both.0);
        parts = refl;
      },
      omega (arith, is),
      omega (arith, is, short),
    )
  where
    not_none : (n : ℕ) → not (eqb n 0) ≡ true → n ≢ 0
    not_none n e is = absurd (let no : not (eqb n 0) ≡ false = rw is refl in cc)

abbrev written_items : List KeytabEntry → List Item
written_items [] = []
written_items (entry ∷ entries) = Entry entry (written_entry entry) ∷ written_items entries

written_are_items : (entries : List KeytabEntry) → AllByRecursion Fits entries → can_all_be_written entries ≡ true → AllByRecursion IsItem (written_items entries)
written_are_items [] fit can = tt
written_are_items (entry ∷ entries) fit can =
    let both = and_parts (can_be_written entry) (can_all_be_written entries) can in
    (written_is_item entry fit.0 both.0, written_are_items entries fit.1 both.1)

written_octets : (entries : List KeytabEntry) → flat_map written_item entries ≡ flat_map item_octets (written_items entries)
written_octets [] = refl
written_octets (entry ∷ entries) = ap (λ (x : List ℕ). written_item entry ++ x) (written_octets entries)

written_among : (entries : List KeytabEntry) → entries ≡ entries_among (written_items entries)
written_among [] = refl
written_among (entry ∷ entries) = ap (λ (x : List KeytabEntry). entry ∷ x) (written_among entries)

pub written_is_read : (entries : List KeytabEntry) → AllByRecursion Fits entries → can_all_be_written entries ≡ true → Spells entries (written entries)
written_is_read entries fit can = record {
  items = written_items entries;
  rest = [];
  each = written_are_items entries fit can;
  ends = inl refl;
  parts = ap (λ (x : List ℕ). 5 ∷ 2 ∷ x) (written_octets entries ∙ sym (append-nil (flat_map item_octets (written_items entries))));
  among = written_among entries;
}
