-- The octets of a record that a store keeps name one time, one realm and one client.
use Rattle.std.proofs.Common.{◌≡◌, ℕ, Bool, true, false, List, [], ◌∷◌, ◌++◌, length, get_or, drop, refl, sym, ap, ◌∙◌, subst, append_assoc, arith}
use Rattle.std.specs.Prelude.{ℤ, ◌==◌, ◌||◌, if◌then◌else◌}
use Rattle.std.specs.List.{flat_map}
use Rattle.std.proofs.lemmas.Bool.{eqb-true}
use Rattle.std.proofs.lemmas.List.{append_cancel_left}
use Rattle.krb_admission.specs.Clients.{has_component}
use Rattle.krb_der.specs.Der.{tlv, length_octets}
use Rattle.krb_der.specs.Moment.{IsTime, time_octets}
use Rattle.krb_der.specs.Schema.{Kind, time, Of, Spells, is_table}
use Rattle.krb_entrance.specs.Told.{record_octets, NamesOneRecord}
use Rattle.krb_replay.specs.declared.record.Record.{Record}
use Rattle.krb_sessions.specs.Principals.{quoted, part_text, further_text, principal_text}

-- ---- quoted octets

-- the octet that a letter after `\` is written for
abbrev unquoted : ℕ → ℕ
unquoted letter = if letter == 0x6e then 0x0a else (if letter == 0x74 then 0x09 else (if letter == 0x62 then 0x08 else (if letter == 0x30 then 0 else letter)))

abbrev after_quote : List ℕ → ℕ × List ℕ
after_quote [] = (0, [])
after_quote (letter ∷ text) = (unquoted letter, text)

-- the first octet that a text is written for, and the text after it
abbrev first_of : List ℕ → ℕ × List ℕ
first_of [] = (0, [])
first_of (c ∷ text) = if c == 0x5c then after_quote text else (c, text)

-- a text begins with an octet that no component and no realm begins with
abbrev is_mark : List ℕ → Bool
is_mark [] = false
is_mark (c ∷ text) = c == 0x2f || c == 0x40 || c == 0

module _ (P : ℕ → Type 0) (octet : ℕ) where
  -- what holds of the octets that are quoted, and of any other, holds of each
  each_octet : P 0x2f → P 0x40 → P 0x5c → P 0x0a → P 0x09 → P 0x08 → P 0
      → ((octet == 0x2f) ≡ false → (octet == 0x40) ≡ false → (octet == 0x5c) ≡ false → (octet == 0x0a) ≡ false → (octet == 0x09) ≡ false → (octet == 0x08) ≡ false
      → (octet == 0) ≡ false → P octet) → P octet
  each_octet slash at backslash newline tab back null other =
      this 0x2f slash (λ a. this 0x40 at (λ b. this 0x5c backslash (λ c. this 0x0a newline (λ d. this 0x09 tab (λ e. this 0x08 back (λ f. this 0 null (λ g. other a b c d e f g)))))))
    where
      by : (k : ℕ) → P k → ((octet == k) ≡ false → P octet) → (is : Bool) → (octet == k) ≡ is → P octet
      by k here other true e = subst P (sym (eqb-true octet k e)) here
      by k here other false e = other e

      this : (k : ℕ) → P k → ((octet == k) ≡ false → P octet) → P octet
      this k here other = by k here other (octet == k) refl

reads : (octet : ℕ) (text : List ℕ) → first_of (quoted octet ++ text) ≡ (octet, text)
reads octet text =
    each_octet (λ o. first_of (quoted o ++ text) ≡ (o, text)) octet refl refl refl refl refl refl refl (λ a b c d e f g. rw (a, b, c, d, e, f, g, c) refl)

unmarked : (octet : ℕ) (text : List ℕ) → is_mark (quoted octet ++ text) ≡ false
unmarked octet text =
    each_octet (λ o. is_mark (quoted o ++ text) ≡ false) octet refl refl refl refl refl refl refl (λ a b c d e f g. rw (a, b, c, d, e, f, g, a, b, g) refl)

same_first : (o p : ℕ) (u v : List ℕ) → quoted o ++ u ≡ quoted p ++ v → (o ≡ p) × (u ≡ v)
same_first o p u v e =
    let pair : ◌≡◌ {A = ℕ × List ℕ} (o, u) (p, v) = sym (reads o u) ∙ (ap first_of e ∙ reads p v) in
    (ap (λ (x : ℕ × List ℕ). x.0) pair, ap (λ (x : ℕ × List ℕ). x.1) pair)

-- ---- components and realms

same_part : (a b x y : List ℕ) → is_mark x ≡ true → is_mark y ≡ true → part_text a ++ x ≡ part_text b ++ y → (a ≡ b) × (x ≡ y)
same_part [] [] x y mx my e = (refl, e)
same_part [] (p ∷ b) x y mx my e =
    let no : true ≡ false = sym mx ∙ (ap is_mark (e ∙ append_assoc (quoted p) (part_text b) y) ∙ unmarked p (part_text b ++ y)) in absurd cc
same_part (o ∷ a) [] x y mx my e =
    let no : true ≡ false = sym my ∙ (ap is_mark (sym e ∙ append_assoc (quoted o) (part_text a) x) ∙ unmarked o (part_text a ++ x)) in absurd cc
same_part (o ∷ a) (p ∷ b) x y mx my e =
    let first = same_first o p (part_text a ++ x) (part_text b ++ y) (sym (append_assoc (quoted o) (part_text a) x) ∙ (e ∙ append_assoc (quoted p) (part_text b) y)) in
    let rest = same_part a b x y mx my first.1 in
    (ap (λ (c : ℕ). c ∷ a) first.0 ∙ ap (λ (l : List ℕ). p ∷ l) rest.0, rest.1)

marked : (parts : List (List ℕ)) (x : List ℕ) → is_mark (flat_map further_text parts ++ 0x40 ∷ x) ≡ true
marked [] x = refl
marked (p ∷ parts) x = refl

same_further : (ps qs : List (List ℕ)) (x y : List ℕ) → flat_map further_text ps ++ 0x40 ∷ x ≡ flat_map further_text qs ++ 0x40 ∷ y → (ps ≡ qs) × (x ≡ y)
same_further [] [] x y e = (refl, ap (λ (l : List ℕ). drop 1 l) e)
same_further [] (q ∷ qs) x y e = let no : true ≡ false = ap (λ (l : List ℕ). get_or l 0 0 == 0x40) e in absurd cc
same_further (p ∷ ps) [] x y e = let no : false ≡ true = ap (λ (l : List ℕ). get_or l 0 0 == 0x40) e in absurd cc
same_further (p ∷ ps) (q ∷ qs) x y e =
    let texts : (part_text p ++ flat_map further_text ps) ++ 0x40 ∷ x ≡ (part_text q ++ flat_map further_text qs) ++ 0x40 ∷ y = ap (λ (l : List ℕ). drop 1 l) e in
    let first = same_part p q (flat_map further_text ps ++ 0x40 ∷ x) (flat_map further_text qs ++ 0x40 ∷ y) (marked ps x) (marked qs y)
    (sym (append_assoc (part_text p) (flat_map further_text ps) (0x40 ∷ x)) ∙ (texts ∙ append_assoc (part_text q) (flat_map further_text qs) (0x40 ∷ y))) in
    let rest = same_further ps qs x y first.1 in
    (ap (λ (c : List ℕ). c ∷ ps) first.0 ∙ ap (λ (l : List (List ℕ)). q ∷ l) rest.0, rest.1)

regroup : (first : List ℕ) (more : List (List ℕ)) (realm x : List ℕ)
    → principal_text (first ∷ more) realm ++ 0 ∷ x ≡ part_text first ++ (flat_map further_text more ++ 0x40 ∷ (part_text realm ++ 0 ∷ x))
regroup first more realm x =
    append_assoc (part_text first ++ flat_map further_text more) (0x40 ∷ part_text realm) (0 ∷ x)
    ∙ append_assoc (part_text first) (flat_map further_text more) (0x40 ∷ (part_text realm ++ 0 ∷ x))

same_principal : (a b : List (List ℕ)) (r s x y : List ℕ) → has_component a ≡ true → has_component b ≡ true
    → principal_text a r ++ 0 ∷ x ≡ principal_text b s ++ 0 ∷ y → (a ≡ b) × (r ≡ s) × (x ≡ y)
same_principal [] b r s x y ha hb e = absurd cc
same_principal (p ∷ ps) [] r s x y ha hb e = absurd cc
same_principal (p ∷ ps) (q ∷ qs) r s x y ha hb e =
    let first = same_part p q (flat_map further_text ps ++ 0x40 ∷ (part_text r ++ 0 ∷ x)) (flat_map further_text qs ++ 0x40 ∷ (part_text s ++ 0 ∷ y))
    (marked ps (part_text r ++ 0 ∷ x)) (marked qs (part_text s ++ 0 ∷ y)) (sym (regroup p ps r x) ∙ (e ∙ regroup q qs s y)) in
    let more = same_further ps qs (part_text r ++ 0 ∷ x) (part_text s ++ 0 ∷ y) first.1 in
    let realm = same_part r s (0 ∷ x) (0 ∷ y) refl refl more.1 in
    (ap (λ (c : List ℕ). c ∷ ps) first.0 ∙ ap (λ (l : List (List ℕ)). q ∷ l) more.0, realm.0, ap (λ (l : List ℕ). drop 1 l) realm.1)

-- ---- times

fifteen : (seconds : ℤ) → length (time_octets seconds) ≡ 15
unfolding time_octets
fifteen seconds = refl

module _ (one_value : (kind : Kind) (v w : Of kind) (a b x y : List ℕ) → is_table kind ≡ true → Spells kind v a → Spells kind w b → a ++ x ≡ b ++ y → (a ≡ b) × (v ≡ w)) where
  spells : (seconds : ℤ) → IsTime seconds → Spells time seconds (tlv 0x18 (time_octets seconds))
  spells seconds is_time = let count = fifteen seconds in record { sound = is_time; short = omega arith; is = refl }

  tagged : (a : ℤ) (x : List ℕ) → tlv 0x18 (time_octets a) ++ x ≡ 0x18 ∷ (length_octets 15 ++ (time_octets a ++ x))
  unfolding tlv
  tagged a x = rw (fifteen a) (ap (λ (l : List ℕ). 0x18 ∷ l) (append_assoc (length_octets 15) (time_octets a) x))

  same_time : (a b : ℤ) (x y : List ℕ) → IsTime a → IsTime b → time_octets a ++ x ≡ time_octets b ++ y → (a ≡ b) × (x ≡ y)
  same_time a b x y ta tb e =
      let whole : tlv 0x18 (time_octets a) ++ x ≡ tlv 0x18 (time_octets b) ++ y =
      tagged a x ∙ (ap (λ (l : List ℕ). 0x18 ∷ (length_octets 15 ++ l)) e ∙ sym (tagged b y)) in
      let is : a ≡ b = (one_value time a b (tlv 0x18 (time_octets a)) (tlv 0x18 (time_octets b)) x y refl (spells a ta) (spells b tb) whole).1 in
      (is, append_cancel_left (time_octets a) x y (e ∙ ap (λ (t : ℤ). time_octets t ++ y) (sym is)))

  split_record : (entry : Record) → record_octets entry
      ≡ time_octets entry.ctime ++ (principal_text entry.name.name_string entry.realm ++ 0 ∷ (entry.cusec ++ entry.tag))
  split_record entry =
      append_assoc (time_octets entry.ctime ++ principal_text entry.name.name_string entry.realm) (0 ∷ entry.cusec) entry.tag
      ∙ append_assoc (time_octets entry.ctime) (principal_text entry.name.name_string entry.realm) (0 ∷ (entry.cusec ++ entry.tag))

  pub one_record : (a b : Record) → IsTime a.ctime → IsTime b.ctime → has_component a.name.name_string ≡ true → has_component b.name.name_string ≡ true
      → record_octets a ≡ record_octets b → NamesOneRecord a b
  one_record a b ta tb ha hb e =
      let times = same_time a.ctime b.ctime _ _ ta tb (sym (split_record a) ∙ (e ∙ split_record b)) in
      let names = same_principal a.name.name_string b.name.name_string a.realm b.realm _ _ ha hb times.1 in
      record { time = times.0; components = names.0; realm = names.1; rest = names.2 }
