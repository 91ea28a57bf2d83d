-- Records that compare as equal are the same.
use Rattle.std.proofs.Common.{◌≡◌, ℕ, ℤ, Bool, true, ◌&&◌, List, nat_eq, refl, ap, ◌∙◌, subst}
use Rattle.std.specs.Bool.{Decides}
use Rattle.std.specs.Cmp.{signed_Decides, unsigned_Decides, first_so, second_so}
use Rattle.std.specs.Cmp.Lexicographic.{pointwise, pointwise_decides}
use Rattle.std.specs.Ordering.{int_eq}
use Rattle.krb_messages.specs.declared.principal_name.PrincipalName.{PrincipalName}
use Rattle.krb_replay.specs.declared.record.Record.{Record}
use Rattle.krb_replay.specs.declared.ask.Ask.{Ask}
use Rattle.krb_replay.specs.declared.cache.AuthenticatorCacheRecord.{AuthenticatorCacheRecord}
use Rattle.krb_replay.specs.Records.{principal_eq, record_eq, ask_eq}
use Rattle.krb_replay.specs.Cache.{cache_eq}

texts : (xs ys : List ℕ) → Decides (pointwise nat_eq xs ys) (xs ≡ ys)
texts = pointwise_decides unsigned_Decides

lists : (xs ys : List (List ℕ)) → Decides (pointwise (pointwise nat_eq) xs ys) (xs ≡ ys)
lists = pointwise_decides texts

own_principal : (a : PrincipalName) → principal_eq a a ≡ true
own_principal a = rw ((texts a.name_type a.name_type).1 refl, (lists a.name_string a.name_string).1 refl)

one_principal : (a b : PrincipalName) → a.name_type ≡ b.name_type → a.name_string ≡ b.name_string → a ≡ b
one_principal a b e f =
    ap (λ (t : List ℕ). let x : PrincipalName = record { name_type = t; name_string = a.name_string } in x) e
    ∙ ap (λ (s : List (List ℕ)). let x : PrincipalName = record { name_type = b.name_type; name_string = s } in x) f

parts : (p q : Bool) → (p && q) ≡ true → (p ≡ true) × (q ≡ true)
parts p q h = (first_so p q h, second_so p q h)

pub principals : (a b : PrincipalName) → Decides (principal_eq a b) (a ≡ b)
principals a b = (
  λ h. let p = parts (pointwise nat_eq a.name_type b.name_type) (pointwise (pointwise nat_eq) a.name_string b.name_string) h in
      one_principal a b ((texts a.name_type b.name_type).0 p.0) ((lists a.name_string b.name_string).0 p.1),
  λ e. subst (λ (x : PrincipalName). principal_eq a x ≡ true) e (own_principal a),
)

one_record : (a b : Record) → a.ctime ≡ b.ctime → a.cusec ≡ b.cusec → a.realm ≡ b.realm → a.name ≡ b.name → a.tag ≡ b.tag → a ≡ b
one_record a b e f g h i =
    ap (λ (t : ℤ). let x : Record = record { ctime = t; cusec = a.cusec; realm = a.realm; name = a.name; tag = a.tag } in x) e
    ∙ ap (λ (c : List ℕ). let x : Record = record { ctime = b.ctime; cusec = c; realm = a.realm; name = a.name; tag = a.tag } in x) f
    ∙ ap (λ (r : List ℕ). let x : Record = record { ctime = b.ctime; cusec = b.cusec; realm = r; name = a.name; tag = a.tag } in x) g
    ∙ ap (λ (n : PrincipalName). let x : Record = record { ctime = b.ctime; cusec = b.cusec; realm = b.realm; name = n; tag = a.tag } in x) h
    ∙ ap (λ (t : List ℕ). let x : Record = record { ctime = b.ctime; cusec = b.cusec; realm = b.realm; name = b.name; tag = t } in x) i

pub records : (a b : Record) → Decides (record_eq a b) (a ≡ b)
records a b = (
  λ h. let p = parts (int_eq a.ctime b.ctime) (pointwise nat_eq a.cusec b.cusec && (pointwise nat_eq a.realm b.realm && (principal_eq a.name b.name && pointwise nat_eq a.tag b.tag))) h in
      let q = parts (pointwise nat_eq a.cusec b.cusec) (pointwise nat_eq a.realm b.realm && (principal_eq a.name b.name && pointwise nat_eq a.tag b.tag)) p.1 in
      let r = parts (pointwise nat_eq a.realm b.realm) (principal_eq a.name b.name && pointwise nat_eq a.tag b.tag) q.1 in
      let s = parts (principal_eq a.name b.name) (pointwise nat_eq a.tag b.tag) r.1 in
      one_record a b ((signed_Decides a.ctime b.ctime).0 p.0) ((texts a.cusec b.cusec).0 q.0) ((texts a.realm b.realm).0 r.0) ((principals a.name b.name).0 s.0)
      ((texts a.tag b.tag).0 s.1),
  λ e. subst (λ (x : Record). record_eq a x ≡ true) e (rw (
    (signed_Decides a.ctime a.ctime).1 refl,
    (texts a.cusec a.cusec).1 refl,
    (texts a.realm a.realm).1 refl,
    own_principal a.name,
    (texts a.tag a.tag).1 refl,
  )),
)

one_ask : (a b : Ask) → a.entry ≡ b.entry → a.sname ≡ b.sname → a.start ≡ b.start → a.end ≡ b.end → a.moment ≡ b.moment → a ≡ b
one_ask a b e f g h i =
    ap (λ (r : Record). let x : Ask = record { entry = r; sname = a.sname; start = a.start; end = a.end; moment = a.moment } in x) e
    ∙ ap (λ (n : PrincipalName). let x : Ask = record { entry = b.entry; sname = n; start = a.start; end = a.end; moment = a.moment } in x) f
    ∙ ap (λ (t : ℤ). let x : Ask = record { entry = b.entry; sname = b.sname; start = t; end = a.end; moment = a.moment } in x) g
    ∙ ap (λ (t : ℤ). let x : Ask = record { entry = b.entry; sname = b.sname; start = b.start; end = t; moment = a.moment } in x) h
    ∙ ap (λ (m : ℕ). let x : Ask = record { entry = b.entry; sname = b.sname; start = b.start; end = b.end; moment = m } in x) i

pub asks : (a b : Ask) → Decides (ask_eq a b) (a ≡ b)
asks a b = (
  λ h. let p = parts (record_eq a.entry b.entry) (principal_eq a.sname b.sname && (int_eq a.start b.start && (int_eq a.end b.end && nat_eq a.moment b.moment))) h in
      let q = parts (principal_eq a.sname b.sname) (int_eq a.start b.start && (int_eq a.end b.end && nat_eq a.moment b.moment)) p.1 in
      let r = parts (int_eq a.start b.start) (int_eq a.end b.end && nat_eq a.moment b.moment) q.1 in
      let s = parts (int_eq a.end b.end) (nat_eq a.moment b.moment) r.1 in
      one_ask a b ((records a.entry b.entry).0 p.0) ((principals a.sname b.sname).0 q.0) ((signed_Decides a.start b.start).0 r.0) ((signed_Decides a.end b.end).0 s.0) ((unsigned_Decides a.moment b.moment).0 s.1),
  λ e. subst (λ (x : Ask). ask_eq a x ≡ true) e (rw ((records a.entry a.entry).1 refl, own_principal a.sname, (signed_Decides a.start a.start).1 refl, (signed_Decides a.end a.end).1 refl, (unsigned_Decides a.moment a.moment).1 refl)),
)

one_cache_record : (a b : AuthenticatorCacheRecord) → a.cname ≡ b.cname → a.sname ≡ b.sname → a.ctime ≡ b.ctime → a.microseconds ≡ b.microseconds → a ≡ b
one_cache_record a b e f g h =
    ap (λ (n : PrincipalName). let x : AuthenticatorCacheRecord = record { cname = n; sname = a.sname; ctime = a.ctime; microseconds = a.microseconds } in x) e
    ∙ ap (λ (n : PrincipalName). let x : AuthenticatorCacheRecord = record { cname = b.cname; sname = n; ctime = a.ctime; microseconds = a.microseconds } in x) f
    ∙ ap (λ (t : ℤ). let x : AuthenticatorCacheRecord = record { cname = b.cname; sname = b.sname; ctime = t; microseconds = a.microseconds } in x) g
    ∙ ap (λ (m : List ℕ). let x : AuthenticatorCacheRecord = record { cname = b.cname; sname = b.sname; ctime = b.ctime; microseconds = m } in x) h

pub cache_records : (a b : AuthenticatorCacheRecord) → Decides (cache_eq a b) (a ≡ b)
cache_records a b = (
  λ h. let p = parts (principal_eq a.cname b.cname) (principal_eq a.sname b.sname && (int_eq a.ctime b.ctime && pointwise nat_eq a.microseconds b.microseconds)) h in
      let q = parts (principal_eq a.sname b.sname) (int_eq a.ctime b.ctime && pointwise nat_eq a.microseconds b.microseconds) p.1 in
      let r = parts (int_eq a.ctime b.ctime) (pointwise nat_eq a.microseconds b.microseconds) q.1 in
      one_cache_record a b ((principals a.cname b.cname).0 p.0) ((principals a.sname b.sname).0 q.0) ((signed_Decides a.ctime b.ctime).0 r.0) ((texts a.microseconds b.microseconds).0 r.1),
  λ e. subst (λ (x : AuthenticatorCacheRecord). cache_eq a x ≡ true) e (rw (own_principal a.cname, own_principal a.sname, (signed_Decides a.ctime a.ctime).1 refl, (texts a.microseconds a.microseconds).1 refl)),
)
