-- The entries of a map under names, after one of them was written.
use Rattle.std.proofs.Common.{◌≡◌, ℕ, ◌+◌, ◌-◌, ◌<◌, Bool, true, false, cond, List, [], ◌∷◌, ◌++◌, length, take, get_or, Option, Some, None, refl, sym, ap, ◌∙◌, append_assoc, arith}
use Rattle.std.specs.Prelude.{if◌then◌else◌}
use Rattle.std.specs.Bool.{Decides}
use Rattle.std.specs.Cmp.Lexicographic.{pointwise_decides, bytes_decides}
use Rattle.std.proofs.lemmas.List.{append-nil, length_push, take_at}
use Rattle.std.proofs.lemmas.List.Elements.{filter_more}
use Rattle.krb_keyring.specs.Held.{entries_in, named}
use Rattle.krb_keyring.specs.declared.services.Entries.{Entries}
use Rattle.krb_keytab.specs.Finding.{same_names}
use Rattle.krb_keytab.specs.declared.entry.KeytabEntry.{KeytabEntry}

pub names_decide : (a b : List (List ℕ)) → Decides (same_names a b) (a ≡ b)
names_decide a b = pointwise_decides bytes_decides a b

-- all but the last
abbrev pub all_but_last : List KeytabEntry → List KeytabEntry
all_but_last entries = take (length entries - 1) entries

-- ---- one name is written

module _ (old new : List (List ℕ) → Option Entries) (name : List (List ℕ)) (w : Entries)
    (updates : (q : List (List ℕ)) → new q ≡ cond (same_names name q) (Some w) (old q)) where
  -- its entries became f of those that it had
  pub written : (f : List KeytabEntry → List KeytabEntry) → w.items.items ≡ f (entries_in (old name)) → (q : List (List ℕ))
      → entries_in (new q) ≡ (if same_names name q then f (entries_in (old q)) else entries_in (old q))
  written f made q = ap entries_in (updates q) ∙ by (same_names name q) refl
    where
      by : (same : Bool) → same_names name q ≡ same → entries_in (cond same (Some w) (old q)) ≡ (if same then f (entries_in (old q)) else entries_in (old q))
      by true e = made ∙ ap (λ (n : List (List ℕ)). f (entries_in (old n))) ((names_decide name q).0 e)
      by false e = refl

  one_more : (same : Bool) (entries : List KeytabEntry) (entry : KeytabEntry) → (if same then entries ++ entry ∷ [] else entries) ≡ entries ++ (if same then entry ∷ [] else [])
  one_more true entries entry = refl
  one_more false entries entry = sym (append-nil entries)

  pub with_one : (entry : KeytabEntry) → w.items.items ≡ entries_in (old name) ++ entry ∷ [] → (q : List (List ℕ))
      → entries_in (new q) ≡ entries_in (old q) ++ (if same_names name q then entry ∷ [] else [])
  with_one entry made q = written (λ entries. entries ++ entry ∷ []) made q ∙ one_more (same_names name q) (entries_in (old q)) entry

  either : (same : Bool) (entries : List KeytabEntry) → (if same then entries else entries) ≡ entries
  either true entries = refl
  either false entries = refl

  pub as_before : w.items.items ≡ entries_in (old name) → (q : List (List ℕ)) → entries_in (new q) ≡ entries_in (old q)
  as_before made q = written (λ entries. entries) made q ∙ either (same_names name q) (entries_in (old q))

-- a name that has no entry has none to lose
pub nothing_to_lose : (old : List (List ℕ) → Option Entries) (name : List (List ℕ)) → old name ≡ None → (q : List (List ℕ))
    → entries_in (old q) ≡ (if same_names name q then all_but_last (entries_in (old q)) else entries_in (old q))
nothing_to_lose old name none q = by (same_names name q) refl
  where
    by : (same : Bool) → same_names name q ≡ same → entries_in (old q) ≡ (if same then all_but_last (entries_in (old q)) else entries_in (old q))
    by true e =
        let is : entries_in (old q) ≡ [] = ap (λ (n : List (List ℕ)). entries_in (old n)) (sym ((names_decide name q).0 e)) ∙ ap entries_in none in
        is ∙ ap all_but_last (sym is)
    by false e = refl

-- ---- one entry more of a list, and one less

pub one_named : (name : List (List ℕ)) (entries : List KeytabEntry) (i : ℕ) (entry : KeytabEntry) → i < length entries → entry ≡ get_or entries i entry
    → named name (take (i + 1) entries) ≡ named name (take i entries) ++ (if same_names entry.components name then entry ∷ [] else [])
one_named name entries i entry low is =
    filter_more (λ (e : KeytabEntry). same_names e.components name) entries i entry low
    ∙ ap (λ (e : KeytabEntry). named name (take i entries) ++ (if same_names e.components name then e ∷ [] else [])) (sym is)

-- what was there, entries and one more
pub more : (before had now : List KeytabEntry) (some one all : List KeytabEntry) → had ≡ before ++ some → now ≡ had ++ one → all ≡ some ++ one → now ≡ before ++ all
more before had now some one all h n a = n ∙ ap (λ (x : List KeytabEntry). x ++ one) h ∙ append_assoc before some one ∙ ap (λ (x : List KeytabEntry). before ++ x) (sym a)

last_away : (entries : List KeytabEntry) (entry : KeytabEntry) → all_but_last (entries ++ entry ∷ []) ≡ entries
last_away entries entry =
    let n : length entries ≡ length (entries ++ entry ∷ []) - 1 = let l = length_push entries entry in omega arith in
    take_at entries (entry ∷ []) (length (entries ++ entry ∷ []) - 1) n

away_by : (same : Bool) (before some : List KeytabEntry) (entry : KeytabEntry) (had : List KeytabEntry) → had ≡ before ++ (some ++ (if same then entry ∷ [] else []))
    → (if same then all_but_last had else had) ≡ before ++ some
away_by true before some entry had h = ap all_but_last (h ∙ sym (append_assoc before some (entry ∷ []))) ∙ last_away (before ++ some) entry
away_by false before some entry had h = h ∙ ap (λ (x : List KeytabEntry). before ++ x) (append-nil some)

-- the last of entries is taken away again
pub less : (name : List (List ℕ)) (entries : List KeytabEntry) (i : ℕ) (entry : KeytabEntry) (before had now : List KeytabEntry) → i < length entries → entry ≡ get_or entries i entry
    → had ≡ before ++ named name (take (i + 1) entries) → now ≡ (if same_names entry.components name then all_but_last had else had)
    → now ≡ before ++ named name (take i entries)
less name entries i entry before had now low is h n =
    n ∙ away_by (same_names entry.components name) before (named name (take i entries)) entry had (h ∙ ap (λ (x : List KeytabEntry). before ++ x) (one_named name entries i entry low is))
