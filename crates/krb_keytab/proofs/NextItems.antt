-- The front of a file: its end, an item and what follows it, or neither.
use Rattle.std.proofs.Common.{◌≡◌, ◌⊎◌, ℕ, zero, suc, ◌-◌, ◌^◌, ◌<◌, ◌≤◌, Bool, true, false, cond, ltb, eqb, List, [], ◌∷◌, ◌++◌, length, Option, Some, None, refl, sym, ap, subst, ◌∙◌, append_assoc, arith, inl, inr}
use Rattle.std.specs.Option.{option_to_list}
use Rattle.std.specs.Int.{w32, to_be_bytes}
use Rattle.std.proofs.lemmas.Bool.Decides.{nat_tests}
use Rattle.std.proofs.lemmas.Bool.{eqb-true, ltb-true, ltb-false, le-ltb, lt-ltb}
use Rattle.std.proofs.lemmas.List.{length-append, nil_from_length}
use Rattle.std.proofs.lemmas.Option.{none-some}
use Rattle.krb_der.specs.Reading.{◌>>=◌, cut}
use Rattle.krb_keytab.specs.declared.entry.KeytabEntry.{KeytabEntry}
use Rattle.krb_keytab.specs.Format.{Item, Entry, Hole, item_octets, IsItem, entries_among, IsEnd, IsBroken}
use Rattle.krb_keytab.specs.Reading.{number_at, entry_in, Next, End, Item as Brings, entry_next, hole_next, sized_next, next_of}
use Rattle.krb_der.proofs.Values.{IsBytes}
use Rattle.krb_keytab.proofs.Fields.{bind_some, wide32, number_takes, number_again, cut_takes, cut_again}
use Rattle.krb_keytab.proofs.Entries.{entry_takes, entry_again}

-- which way a test went
chosen : {A : Type 0} (b : Bool) (x y z : A) → cond b x y ≡ z → ((b ≡ true) × (x ≡ z)) ⊎ ((b ≡ false) × (y ≡ z))
chosen true x y z e = inl (refl, e)
chosen false x y z e = inr (refl, e)

not_zero : (n : ℕ) → eqb n 0 ≡ false → 0 < n
not_zero zero e = absurd cc
not_zero (suc n) e = omega arith

pub eqb_no : (n : ℕ) → 0 < n → eqb n 0 ≡ false
eqb_no n lt = grind (arith, nat_tests)

abbrev pub brought : Option KeytabEntry → List ℕ → Option Next
brought entry rest = Some (Brings entry rest)

pub same_brought : (a b : Option KeytabEntry) (x y : List ℕ) → brought a x ≡ brought b y → (a ≡ b) × (x ≡ y)
same_brought a b x y e = (cc, cc)

-- an item at the front, and what follows it
pub record Stands (octets : List ℕ) (entry : Option KeytabEntry) (rest : List ℕ) : Type 0 where
  pub item : Item
  pub is : IsItem item
  pub parts : octets ≡ item_octets item ++ rest
  pub brings : entries_among (item ∷ []) ≡ option_to_list entry
  pub rest_bytes : IsBytes rest
  pub shorter : length rest < length octets

entry_stands : (size : ℕ) (octets : List ℕ) (entry : Option KeytabEntry) (rest : List ℕ) → IsBytes octets → 0 < size → size < 2 ^ 31 → entry_next size octets ≡ brought entry rest → Stands (to_be_bytes w32 size ++ octets) entry rest
unfolding entry_next
entry_stands size octets entry rest fits some short e =
    let a = bind_some (cut size octets) (λ body. entry_in body.0 >>= λ found. Some (Brings (Some found) body.1)) (Brings entry rest) e in
    let b = bind_some (entry_in a.0.0) (λ found. Some (Brings (Some found) a.0.1)) (Brings entry rest) a.2 in
    let s = same_brought (Some b.0) entry a.0.1 rest b.2 in
    let t = cut_takes size octets a.0.0 a.0.1 fits a.1 in
    let spelled = entry_takes a.0.0 b.0 t.2 b.1 in
    let size-is : size ≡ length a.0.0 = sym t.1 in
    let whole : to_be_bytes w32 size ++ octets ≡ (to_be_bytes w32 (length a.0.0) ++ a.0.0) ++ a.0.1 =
    ap (λ (o : List ℕ). to_be_bytes w32 size ++ o) t.0.parts ∙ sym (append_assoc (to_be_bytes w32 size) a.0.0 a.0.1) ∙ ap (λ (n : ℕ). (to_be_bytes w32 n ++ a.0.0) ++ a.0.1) size-is in
    let made : Stands (to_be_bytes w32 size ++ octets) (Some b.0) a.0.1 = record {
      item = Entry b.0 a.0.0;
      is = (spelled, omega arith, omega arith);
      parts = whole;
      brings = refl;
      rest_bytes = t.0.rest_bytes;
      shorter = omega (arith, ap length t.0.parts, length-append a.0.0 a.0.1, length-append (to_be_bytes w32 size) octets);
    } in
    subst (λ (o : Option KeytabEntry). Stands (to_be_bytes w32 size ++ octets) o rest) s.0 (subst (λ (r : List ℕ). Stands (to_be_bytes w32 size ++ octets) (Some b.0) r) s.1 made)

hole_stands : (size : ℕ) (octets : List ℕ) (entry : Option KeytabEntry) (rest : List ℕ) → IsBytes octets → size < 2 ^ 32 → 2 ^ 31 ≤ size → hole_next (2 ^ 32 - size) octets ≡ brought entry rest → Stands (to_be_bytes w32 size ++ octets) entry rest
unfolding hole_next
hole_stands size octets entry rest fits below long e =
    let a = bind_some (cut (2 ^ 32 - size) octets) (λ body. Some (Brings None body.1)) (Brings entry rest) e in
    let s = same_brought None entry a.0.1 rest a.2 in
    let t = cut_takes (2 ^ 32 - size) octets a.0.0 a.0.1 fits a.1 in
    let size-is : size ≡ 2 ^ 32 - length a.0.0 = omega (arith, t.1) in
    let whole : to_be_bytes w32 size ++ octets ≡ (to_be_bytes w32 (2 ^ 32 - length a.0.0) ++ a.0.0) ++ a.0.1 =
    ap (λ (o : List ℕ). to_be_bytes w32 size ++ o) t.0.parts ∙ sym (append_assoc (to_be_bytes w32 size) a.0.0 a.0.1) ∙ ap (λ (n : ℕ). (to_be_bytes w32 n ++ a.0.0) ++ a.0.1) size-is in
    let made : Stands (to_be_bytes w32 size ++ octets) None a.0.1 = record {
      item = Hole a.0.0;
      is = (omega (arith, t.1), omega (arith, t.1));
      parts = whole;
      brings = refl;
      rest_bytes = t.0.rest_bytes;
      shorter = omega (arith, ap length t.0.parts, length-append a.0.0 a.0.1, length-append (to_be_bytes w32 size) octets);
    } in
    subst (λ (o : Option KeytabEntry). Stands (to_be_bytes w32 size ++ octets) o rest) s.0 (subst (λ (r : List ℕ). Stands (to_be_bytes w32 size ++ octets) None r) s.1 made)

sized_stands : (size : ℕ) (octets : List ℕ) (entry : Option KeytabEntry) (rest : List ℕ) → IsBytes octets → size < 2 ^ 32 → sized_next size octets ≡ brought entry rest → Stands (to_be_bytes w32 size ++ octets) entry rest
unfolding sized_next
sized_stands size octets entry rest fits below e =
    elim (chosen (eqb size 0) (Some End) (cond (ltb size (2 ^ 31)) (entry_next size octets) (hole_next (2 ^ 32 - size) octets)) (brought entry rest) e) [
      | inl at_end ↦ absurd (let no : Some End ≡ brought entry rest = at_end.1 in cc)
      | inr there ↦ elim (chosen (ltb size (2 ^ 31)) (entry_next size octets) (hole_next (2 ^ 32 - size) octets) (brought entry rest) there.1) [
        | inl short ↦ entry_stands size octets entry rest fits (not_zero size there.0) (ltb-true _ _ short.0) short.1
        | inr long ↦ hole_stands size octets entry rest fits below (ltb-false _ _ long.0) long.1
      ]
    ]

pub next_stands : (octets : List ℕ) (entry : Option KeytabEntry) (rest : List ℕ) → IsBytes octets → next_of octets ≡ Some (Brings entry rest) → Stands octets entry rest
unfolding next_of
next_stands octets entry rest fits e =
    elim (chosen (eqb (length octets) 0) (Some End) (number_at w32 octets >>= λ size. sized_next size.0 size.1) (brought entry rest) e) [
      | inl at_end ↦ absurd (let no : Some End ≡ brought entry rest = at_end.1 in cc)
      | inr there ↦
          let a = bind_some (number_at w32 octets) (λ size. sized_next size.0 size.1) (Brings entry rest) there.1 in
          let t = number_takes w32 (2 ^ 32) wide32 octets a.0.0 a.0.1 fits a.1 in
          subst (λ (o : List ℕ). Stands o entry rest) (sym t.0.parts) (sized_stands a.0.0 a.0.1 entry rest t.0.rest_bytes t.1 a.2)
    ]

-- ---- the end

sized_end : (size : ℕ) (octets : List ℕ) → sized_next size octets ≡ Some End → size ≡ 0
unfolding sized_next entry_next hole_next
sized_end size octets e =
    elim (chosen (eqb size 0) (Some End) (cond (ltb size (2 ^ 31)) (entry_next size octets) (hole_next (2 ^ 32 - size) octets)) (Some End) e) [
      | inl at_end ↦ eqb-true _ _ at_end.0
      | inr there ↦ elim (chosen (ltb size (2 ^ 31)) (entry_next size octets) (hole_next (2 ^ 32 - size) octets) (Some End) there.1) [
        | inl short ↦
            let a = bind_some (cut size octets) (λ body. entry_in body.0 >>= λ found. Some (Brings (Some found) body.1)) End short.1 in
            let b = bind_some (entry_in a.0.0) (λ found. Some (Brings (Some found) a.0.1)) End a.2 in
            absurd (let no : brought (Some b.0) a.0.1 ≡ Some End = b.2 in cc)
        | inr long ↦
            let a = bind_some (cut (2 ^ 32 - size) octets) (λ body. Some (Brings None body.1)) End long.1 in
            absurd (let no : brought None a.0.1 ≡ Some End = a.2 in cc)
      ]
    ]

pub next_ends : (octets : List ℕ) → IsBytes octets → next_of octets ≡ Some End → IsEnd octets
unfolding next_of
next_ends octets fits e =
    elim (chosen (eqb (length octets) 0) (Some End) (number_at w32 octets >>= λ size. sized_next size.0 size.1) (Some End) e) [
      | inl at_end ↦ inl (nil_from_length octets (eqb-true _ _ at_end.0))
      | inr there ↦
          let a = bind_some (number_at w32 octets) (λ size. sized_next size.0 size.1) End there.1 in
          let t = number_takes w32 (2 ^ 32) wide32 octets a.0.0 a.0.1 fits a.1 in
          inr (a.0.1, t.0.parts ∙ ap (λ (n : ℕ). to_be_bytes w32 n ++ a.0.1) (sized_end a.0.0 a.0.1 a.2))
    ]

numbered : (size : ℕ) (octets : List ℕ) → size < 2 ^ 32 → next_of (to_be_bytes w32 size ++ octets) ≡ sized_next size octets
unfolding next_of
numbered size octets lt = rw (number_again w32 (2 ^ 32) wide32 size octets lt, eqb_no (suc (suc (suc (suc (length octets))))) (omega arith)) refl

sized_zero : (octets : List ℕ) → sized_next 0 octets ≡ Some End
unfolding sized_next
sized_zero octets = refl

pub end_again : (octets : List ℕ) → IsEnd octets → next_of octets ≡ Some End
unfolding next_of
end_again octets is =
    elim is [
      | inl none ↦ rw none refl
      | inr more ↦ ap next_of more.1 ∙ numbered 0 more.0 (omega arith) ∙ sized_zero more.0
    ]

-- ---- items again

entry_next_again : (entry : KeytabEntry) (body rest : List ℕ) → IsItem (Entry entry body) → entry_next (length body) (body ++ rest) ≡ brought (Some entry) rest
unfolding entry_next
entry_next_again entry body rest is = rw (cut_again body rest (length body) refl, entry_again entry body is.0) refl

hole_next_again : (body rest : List ℕ) (size : ℕ) → length body ≡ size → hole_next size (body ++ rest) ≡ brought None rest
unfolding hole_next
hole_next_again body rest size is = rw (cut_again body rest size is) refl

sized_entry_again : (entry : KeytabEntry) (body rest : List ℕ) → IsItem (Entry entry body) → sized_next (length body) (body ++ rest) ≡ brought (Some entry) rest
unfolding sized_next
sized_entry_again entry body rest is = rw (eqb_no (length body) is.1, lt-ltb (length body) (2 ^ 31) is.2) (entry_next_again entry body rest is)

sized_hole_again : (body rest : List ℕ) → IsItem (Hole body) → sized_next (2 ^ 32 - length body) (body ++ rest) ≡ brought None rest
unfolding sized_next
sized_hole_again body rest is =
    let some : 0 < 2 ^ 32 - length body = omega (arith, is.1) in
    let long : 2 ^ 31 ≤ 2 ^ 32 - length body = omega (arith, is.1) in
    let size : length body ≡ 2 ^ 32 - (2 ^ 32 - length body) = omega (arith, is.1) in
    rw (eqb_no (2 ^ 32 - length body) some, le-ltb (2 ^ 32 - length body) (2 ^ 31) long) (hole_next_again body rest (2 ^ 32 - (2 ^ 32 - length body)) size)

-- the entry that an item brings
abbrev pub entry_of : Item → Option KeytabEntry
entry_of (Entry entry octets) = Some entry
entry_of (Hole octets) = None

pub item_again : (item : Item) (rest : List ℕ) → IsItem item → next_of (item_octets item ++ rest) ≡ Some (Brings (entry_of item) rest)
item_again (Entry entry body) rest is =
    ap next_of (append_assoc (to_be_bytes w32 (length body)) body rest) ∙ numbered (length body) (body ++ rest) (omega (arith, is.2)) ∙ sized_entry_again entry body rest is
item_again (Hole body) rest is =
    ap next_of (append_assoc (to_be_bytes w32 (2 ^ 32 - length body)) body rest) ∙ numbered (2 ^ 32 - length body) (body ++ rest) (omega (arith, is.0)) ∙ sized_hole_again body rest is

pub next_broken : (octets : List ℕ) → next_of octets ≡ None → IsBroken octets
next_broken octets none = record {
  no_end = λ is. none-some End (sym none ∙ end_again octets is);
  no_item = λ item behind is parts. none-some (Brings (entry_of item) behind) (sym none ∙ ap next_of parts ∙ item_again item behind is);
}
