-- The greatest entries in maps by their names.
use Rattle.std.proofs.Common.{◌≡◌, ℕ, ◌+◌, ◌<◌, Bool, true, false, cond, List, length, get_or, take, Option, Some, None, refl, sym, ap, ◌∙◌}
use Rattle.std.specs.Prelude.{◌&&◌, option_map}
use Rattle.std.specs.Borrow.{Bor}
use Rattle.std.specs.Map.{lookup}
use Rattle.std.proofs.lemmas.List.Sums.{fold_more}
use Rattle.indexmap.specs.IndexMap.{IndexMap, get}
use Rattle.krb_crypto.specs.declared.suite.CipherSuite.{CipherSuite}
use Rattle.krb_keytab.specs.declared.entry.KeytabEntry.{KeytabEntry}
use Rattle.krb_keytab.specs.Finding.{same_octets, same_names, is_wanted, greater, greatest}
use Rattle.krb_keytab.specs.RealmKeys.{LentName, same_name, asked, greatest_with, found_at}
use Rattle.krb_keytab.proofs.FoundKeys.{names_decide, not_wanted}

no_second : (a b : Bool) → b ≡ false → (a && b) ≡ false
no_second true b e = e
no_second false b e = refl

module _ (realm : List ℕ) (suite : CipherSuite) (entry : KeytabEntry) where
  abbrev wants : List (List ℕ) → Bool
  wants name = is_wanted (asked realm suite name) entry

  -- an entry is looked for under its own name alone
  elsewhere : (name : List (List ℕ)) → same_names entry.components name ≡ false → wants name ≡ false
  elsewhere name other = not_wanted (asked realm suite name) entry (no_second (same_octets entry.realm realm) (same_names entry.components name) other)

  here : (name : List (List ℕ)) → same_names entry.components name ≡ true → wants entry.components ≡ wants name
  here name same = ap wants ((names_decide entry.components name).0 same)

  nowhere : wants entry.components ≡ false → (name : List (List ℕ)) → wants name ≡ false
  nowhere unwanted name = by (same_names entry.components name) refl
    where
      by : (same : Bool) → same_names entry.components name ≡ same → wants name ≡ false
      by true e = sym (here name e) ∙ unwanted
      by false e = elsewhere name e

  -- if the entry is not looked for, the map is unchanged
  pub left_out : {S : Type 0} (found : IndexMap LentName (Bor KeytabEntry) S) → wants entry.components ≡ false → (name : LentName) → found_at found name ≡ greatest_with (is_wanted (asked realm suite name.now)) (found_at found name) entry
  left_out found unwanted name = ap (λ (b : Bool). cond b (Some (greater (found_at found name) entry)) (found_at found name)) (sym (nowhere unwanted name.now))

  -- the entry that a map has at the entry's own name
  abbrev at_own : {S : Type 0} → IndexMap LentName (Bor KeytabEntry) S → Option KeytabEntry
  at_own found = option_map (λ (e : Bor KeytabEntry). e.now) (lookup (λ (k : LentName). same_names entry.components k.now) found.entries)

  -- if the entry is looked for, it is put at its own name
  module _ {S : Type 0} (old new : IndexMap LentName (Bor KeytabEntry) S) (best : Bor KeytabEntry) where
    own_name : (name : LentName) → entry.components ≡ name.now → at_own old ≡ found_at old name
    own_name name is = ap (λ (n : List (List ℕ)). option_map (λ (e : Bor KeytabEntry). e.now) (lookup (λ (k : LentName). same_names n k.now) old.entries)) is

    one_name : wants entry.components ≡ true → best.now ≡ greater (at_own old) entry → (name : LentName) (same : Bool) → same_names entry.components name.now ≡ same
        → option_map (λ (e : Bor KeytabEntry). e.now) (cond same (Some best) (get same_name old name)) ≡ greatest_with (is_wanted (asked realm suite name.now)) (found_at old name) entry
    one_name wanted top name true e =
        let is : entry.components ≡ name.now = (names_decide entry.components name.now).0 e in
        ap Some (top ∙ ap (λ (o : Option KeytabEntry). greater o entry) (own_name name is))
        ∙ ap (λ (b : Bool). cond b (Some (greater (found_at old name) entry)) (found_at old name)) (sym wanted ∙ ap wants is)
    one_name wanted top name false e =
        ap (λ (b : Bool). cond b (Some (greater (found_at old name) entry)) (found_at old name)) (sym (elsewhere name.now e))

    pub put_in : wants entry.components ≡ true → best.now ≡ greater (at_own old) entry
        → ((q : LentName) → get same_name new q ≡ cond (same_names entry.components q.now) (Some best) (get same_name old q))
        → (name : LentName) → found_at new name ≡ greatest_with (is_wanted (asked realm suite name.now)) (found_at old name) entry
    put_in wanted top updates name = ap (option_map (λ (e : Bor KeytabEntry). e.now)) (updates name) ∙ one_name wanted top name (same_names entry.components name.now) refl

-- one more entry of those before it
pub greatest_more : (passes : KeytabEntry → Bool) (entries : List KeytabEntry) (i : ℕ) (entry : KeytabEntry) → i < length entries → entry ≡ get_or entries i entry → greatest_with passes (greatest passes (take i entries)) entry ≡ greatest passes (take (i + 1) entries)
unfolding greatest
greatest_more passes entries i entry lt is =
    ap (λ (e : KeytabEntry). greatest_with passes (greatest passes (take i entries)) e) is ∙ sym (fold_more (λ best e. greatest_with passes best e) None entries i entry lt)
