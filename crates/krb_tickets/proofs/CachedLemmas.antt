-- A ticket that a KDC granted is held again from its credential.
use Rattle.std.proofs.Common.{◌≡◌, ℕ, ◌≤◌, Bool, true, false, List, length, Option, Some, None, Result, Ok, Err, refl, sym, ap, ◌∙◌, arith}
use Rattle.std.specs.Prelude.{nat_le, if◌then◌else◌}
use Rattle.std.proofs.lemmas.Bool.Decides.{nat_tests}
use Rattle.krb_crypto.specs.Suite.{suite_number}
use Rattle.krb_crypto.specs.declared.suite.CipherSuite.{CipherSuite}
use Rattle.krb_crypto.specs.declared.suite.CipherSuite.TheVariants.{Aes128CtsHmacSha196, Aes256CtsHmacSha196}
use Rattle.krb_der.proofs.Lengths.{contents_shorter}
use Rattle.krb_der.specs.Layout.{spelling}
use Rattle.krb_der.specs.Schema.{contents, tag_of, is_ascii}
use Rattle.krb_exchange.proofs.Spelled.{same_record}
use Rattle.krb_messages.specs.Layouts.{ticket_layout}
use Rattle.krb_messages.specs.declared.principal_name.PrincipalName.{PrincipalName}
use Rattle.krb_messages.specs.declared.ticket.Ticket.{Ticket}
use Rattle.krb_as.specs.declared.key.Grant.{Grant}
use Rattle.krb_context.specs.ServiceKeys.{all_ascii}
use Rattle.krb_requests.specs.Pieces.{name_of}
use Rattle.krb_replies.specs.Unseals.{IsRead}
use Rattle.krb_ccache.specs.declared.credential.Times.{Times}
use Rattle.krb_tickets.specs.Cached.{suite_of_type, HoldsCredential, times_of, flags_of, credential_of, CanBeCached, ShowsSame}
use Rattle.krb_tickets.specs.Held.{held_grant, ReadsTicket, HoldsTicket}
use Rattle.krb_tickets.specs.Principals.{are_short, names_of, named, type_number, ReadsRealm, ReadsName, cache_principal}
use Rattle.sspi_core.proofs.Chain.{passed, gave, took}
use Rattle.sspi_core.specs.Checks.{Finds, Takes, Holds, Gives, Goes, Then}
use Rattle.sspi_core.specs.declared.cause.Cause.{Cause}
use Rattle.sspi_core.specs.declared.cause.Cause.TheVariants.{Shape, NotAscii, Etype}

-- the suite of the number of a suite
suite_back : (suite : CipherSuite) → suite_of_type (suite_number suite) ≡ Some suite
suite_back Aes128CtsHmacSha196 = refl
suite_back Aes256CtsHmacSha196 = refl

same_some : {A : Type 0} (x y : A) → ◌≡◌ {A = Option A} (Some x) (Some y) → x ≡ y
same_some x y e = cc

-- what is taken is all that there is
taken_of : {A : Type 0} (refusal : Cause) (value : Option A) (found there : A) → Takes refusal value (Ok found) → value ≡ Some there → found ≡ there
taken_of refusal value found there h e = sym (same_some there found (sym e ∙ took refusal value found h))

named_if : {A : Type 0} (test : Bool) (value : A) → test ≡ true → (if test then Some value else None) ≡ Some value
named_if true value e = refl
named_if false value e = absurd cc

-- the ticket spells itself
module _ (grant : Grant) (can : CanBeCached grant) where
  spells : IsRead ticket_layout (spelling ticket_layout grant.rep.ticket) grant.rep.ticket
  spells = record {
    sound = can.ticket;
    short =
        let few = can.sendable.ticket.short in
        let less = contents_shorter (tag_of ticket_layout.kind) (contents ticket_layout.kind (ticket_layout.view grant.rep.ticket)) in
        omega (arith, few, less);
    is = refl;
  }

  same_ticket : (ticket : Ticket) → ReadsTicket (spelling ticket_layout grant.rep.ticket) (Ok ticket) → ticket ≡ grant.rep.ticket
  unfolding ReadsTicket
  same_ticket ticket h =
      let short = passed _ _ _ h in
      let found : Finds {E = Cause} Shape (IsRead ticket_layout (spelling ticket_layout grant.rep.ticket)) (Ok ticket) = short.rest_held in
      same_record ticket_layout ticket grant.rep.ticket (spelling ticket_layout grant.rep.ticket) found.is spells

  same_realm : (realm : List ℕ) → ReadsRealm grant.rep.crealm (Ok realm) → realm ≡ grant.rep.crealm
  unfolding ReadsRealm
  same_realm realm h =
      let short = passed _ _ _ h in
      taken_of NotAscii (name_of grant.rep.crealm) realm grant.rep.crealm short.rest_held (named_if (is_ascii grant.rep.crealm) grant.rep.crealm can.realm)

  same_name : (name : PrincipalName) → ReadsName (cache_principal grant.rep.crealm grant.rep.cname) (Ok name) → name ≡ grant.rep.cname
  unfolding ReadsName
  same_name name h =
      let short = passed _ _ _ h in
      let components = passed _ _ _ short.rest_held in
      let same : components.found ≡ grant.rep.cname.name_string =
      taken_of NotAscii (names_of grant.rep.cname.name_string) components.found grant.rep.cname.name_string components.first_held
      (named_if (all_ascii grant.rep.cname.name_string) grant.rep.cname.name_string can.components) in
      gave _ _ components.rest_held
      ∙ ap (λ (c : List (List ℕ)). named (type_number grant.rep.cname.name_type) c) same
      ∙ ap (λ (t : List ℕ). let made : PrincipalName = record { name_type = t; name_string = grant.rep.cname.name_string } in made) can.name_type

  abbrev flags : ℕ
  flags = flags_of grant.facts.flags.octets

  abbrev times : Times
  times = times_of grant.facts

  holds : (suite : CipherSuite) (held : Grant) → suite ≡ grant.suite
      → HoldsTicket (cache_principal grant.rep.crealm grant.rep.cname) suite grant.key (spelling ticket_layout grant.rep.ticket) flags times (Ok held) → ShowsSame held grant
  unfolding HoldsTicket
  holds suite held own h =
      let realm = passed _ _ _ h in
      let name = passed _ _ _ realm.rest_held in
      let ticket = passed _ _ _ name.rest_held in
      let is : held ≡ held_grant realm.found name.found suite grant.key ticket.found flags times = gave _ _ ticket.rest_held in
      record {
        suite = ap (λ (g : Grant). g.suite) is ∙ own;
        key = ap (λ (g : Grant). g.key) is;
        realm = ap (λ (g : Grant). g.rep.crealm) is ∙ same_realm realm.found realm.first_held;
        name = ap (λ (g : Grant). g.rep.cname) is ∙ same_name name.found name.first_held;
        ticket = ap (λ (g : Grant). g.rep.ticket) is ∙ same_ticket ticket.found ticket.first_held;
      }

  pub shows : (held : Grant) → HoldsCredential (credential_of grant) (Ok held) → ShowsSame held grant
  unfolding HoldsCredential
  shows held h =
      let suite = passed _ _ _ h in
      holds suite.found held (taken_of Etype (suite_of_type (suite_number grant.suite)) suite.found grant.suite suite.first_held (suite_back grant.suite)) suite.rest_held

-- ---- nothing is refused

abbrev Never : {A : Type 0} → (Result A Cause → Type 0) → Type 0
Never checks = (cause : Cause) → checks (Err cause) → ⊥

rest_never : {A B : Type 0} (first : Result A Cause → Type 0) (next : A → Result B Cause → Type 0) (middle : Result A Cause) (cause : Cause)
    → Never first → ((a : A) → first (Ok a) → Never (next a)) → first middle → Goes next middle (Err cause) → ⊥
rest_never first next (Ok a) cause one two h rest = two a h cause rest
rest_never first next (Err e) cause one two h rest = one e h

then_never : {A B : Type 0} (first : Result A Cause → Type 0) (next : A → Result B Cause → Type 0) → Never first → ((a : A) → first (Ok a) → Never (next a)) → Never (λ r. Then first next r)
then_never first next one two cause h = rest_never first next h.middle cause one two h.held h.rest

gives_never : {A : Type 0} (x : A) → Never (λ r. Gives {E = Cause} x r)
gives_never x cause h = let e = h.is in cc

takes_never : {A : Type 0} (refusal : Cause) (value : Option A) (there : A) → value ≡ Some there → Never (λ r. Takes refusal value r)
takes_never refusal (Some x) there e cause h = let f = h.is in cc
takes_never refusal None there e cause h = cc

holds_never : (refusal : Cause) (test : Bool) → test ≡ true → Never (λ r. Holds refusal test r)
holds_never refusal true e cause h = let f = h.is in cc
holds_never refusal false e cause h = cc

few : (n : ℕ) → n ≤ 16777216 → nat_le n 16777216 ≡ true
few n h = grind (arith, nat_tests)

module _ (grant : Grant) (can : CanBeCached grant) where
  realm_read : Never (ReadsRealm grant.rep.crealm)
  unfolding ReadsRealm
  realm_read =
      then_never _ _ (holds_never Shape (nat_le (length grant.rep.crealm) 16777216) (few _ can.sendable.realm))
      (λ a h. takes_never NotAscii (name_of grant.rep.crealm) grant.rep.crealm (named_if (is_ascii grant.rep.crealm) grant.rep.crealm can.realm))

  name_read : Never (ReadsName (cache_principal grant.rep.crealm grant.rep.cname))
  unfolding ReadsName
  name_read =
      then_never _ _ (holds_never Shape (are_short grant.rep.cname.name_string) can.short)
      (λ a h. then_never _ _
      (takes_never NotAscii (names_of grant.rep.cname.name_string) grant.rep.cname.name_string (named_if (all_ascii grant.rep.cname.name_string) grant.rep.cname.name_string can.components))
      (λ b k. gives_never _))

  ticket_read : Never (ReadsTicket (spelling ticket_layout grant.rep.ticket))
  unfolding ReadsTicket
  ticket_read =
      then_never _ _ (holds_never Shape (nat_le (length (spelling ticket_layout grant.rep.ticket)) 16777216) (few _ can.sendable.ticket.short))
      (λ a h cause found. found.is.1 grant.rep.ticket (spells grant can))

  pub taken : (cause : Cause) → HoldsCredential (credential_of grant) (Err cause) → ⊥
  unfolding HoldsCredential HoldsTicket
  taken =
      then_never _ _ (takes_never Etype (suite_of_type (suite_number grant.suite)) grant.suite (suite_back grant.suite))
      (λ suite g. then_never _ _ realm_read (λ realm h. then_never _ _ name_read (λ name k. then_never _ _ ticket_read (λ ticket l. gives_never _))))
