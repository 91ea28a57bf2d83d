-- The connection at a number after an event, and the connection that the first checks of an event found.
use Rattle.std.proofs.Common.{◌≡◌, ℕ, inl, inr, Bool, true, false, cond, List, [], ◌∷◌, Option, Some, None, Result, Ok, Err, refl, sym, ap, ◌∙◌, subst}
use Rattle.std.specs.Prelude.{◌==◌, ◌⊎◌, not, nat_le, is_some}
use Rattle.std.specs.Ordering.{nat_cmp}
use Rattle.std.specs.BTreeMap.{is_at}
use Rattle.std.specs.Cmp.{unsigned_tied}
use Rattle.std.specs.Map.{lookup, set_value}
use Rattle.std.proofs.lemmas.Bool.{eqb-true, eq-eqb, true≢false}
use Rattle.krb_context.specs.Contexts.{is_acceptor}
use Rattle.krb_machine.specs.declared.run.Run.{Run}
use Rattle.krb_script.specs.Script.{at_id}
use Rattle.krb_script.specs.declared.item.Event.{Event}
use Rattle.krb_script.specs.declared.input.Input.{Input}
use Rattle.sspi_core.specs.Checks.{ok_or}
use Rattle.sspi_core.specs.declared.cause.Cause.{Cause}
use Rattle.sspi_core.specs.declared.cause.Cause.TheVariants as causes
use Rattle.krb_machine.specs.Exchanges.{awaits}
use Rattle.krb_machine.specs.Initiations.{token_heard}
use Rattle.krb_machine.specs.Policy.{◌>>=◌, check, called, ready, reached, heard, awaited, input_token}
use Rattle.sspi_core.specs.Moments.{last_moment}
use Rattle.krb_machine.specs.declared.connection.Connection.{Connection}

-- ---- places

module _ {A : Type 0} (test : ℕ → Bool) where
  there_first : (entry : ℕ × A) (entries put : List (ℕ × A)) (old new : A) (b : Bool) → test entry.0 ≡ b → (lookup test entries ≡ Some old → lookup test put ≡ Some new)
      → cond b (Some entry.1) (lookup test entries) ≡ Some old → lookup test (cond b ((entry.0, new) ∷ entries) (entry ∷ put)) ≡ Some new
  there_first entry entries put old new true is rest e = rw is refl
  there_first entry entries put old new false is rest e = rw is (rest e)

  set_there : (entries : List (ℕ × A)) (old new : A) → lookup test entries ≡ Some old → lookup test (set_value test entries new) ≡ Some new
  set_there [] old new e = absurd cc
  set_there (entry ∷ entries) old new e = there_first entry entries (set_value test entries new) old new (test entry.0) refl (λ e. set_there entries old new e) e

  module _ (other : ℕ → Bool) (apart : (k : ℕ) → test k ≡ true → other k ≡ false) where
    apart_first : (entry : ℕ × A) (entries put : List (ℕ × A)) (new : A) (b : Bool) → test entry.0 ≡ b → lookup other put ≡ lookup other entries
        → lookup other (cond b ((entry.0, new) ∷ entries) (entry ∷ put)) ≡ cond (other entry.0) (Some entry.1) (lookup other entries)
    apart_first entry entries put new true is rest = rw (apart entry.0 is) refl
    apart_first entry entries put new false is rest = ap (λ (o : Option A). cond (other entry.0) (Some entry.1) o) rest

    set_apart : (entries : List (ℕ × A)) (new : A) → lookup other (set_value test entries new) ≡ lookup other entries
    set_apart [] new = refl
    set_apart (entry ∷ entries) new = apart_first entry entries (set_value test entries new) new (test entry.0) refl (set_apart entries new)

other_apart : (at id k : ℕ) (b : Bool) → (at == id) ≡ false → at ≡ k → (id == k) ≡ b → b ≡ false
other_apart at id k true differs here e = absurd (true≢false (sym (eq-eqb at id (here ∙ sym (eqb-true id k e))) ∙ differs))
other_apart at id k false differs here e = refl

tests_apart : (at id : ℕ) → (at == id) ≡ false → (k : ℕ) → is_at (nat_cmp at) k ≡ true → is_at (nat_cmp id) k ≡ false
tests_apart at id differs k is =
    unsigned_tied id k ∙ other_apart at id k (id == k) differs (eqb-true at k (sym (unsigned_tied at k) ∙ is)) refl

-- the number whose connection is set has the new connection, and every other number keeps its own
pub placed : (connections : List (ℕ × Connection)) (id : ℕ) (old next : Connection) → at_id id connections ≡ Some old → at_id id (set_value (is_at (nat_cmp id)) connections next) ≡ Some next
placed connections id old next e = set_there (is_at (nat_cmp id)) connections old next e

pub placed_apart : (connections : List (ℕ × Connection)) (at id : ℕ) (next : Connection) → (at == id) ≡ false
    → at_id id (set_value (is_at (nat_cmp at)) connections next) ≡ at_id id connections
placed_apart connections at id next differs = set_apart (is_at (nat_cmp at)) (is_at (nat_cmp id)) (tests_apart at id differs) connections next

-- ---- the results of checks

pub some_same : (x y : Connection) → Some x ≡ Some y → x ≡ y
some_same x y e = cc

same_ok : {A : Type 0} (x y : A) → ◌≡◌ {A = Result A Cause} (Ok x) (Ok y) → x ≡ y
same_ok x y e = cc

-- checks that pass found a value first
record Bound {A B : Type 0} (first : Result A Cause) (next : A → Result B Cause) (b : B) : Type 0 where
  found : A
  first_is : first ≡ Ok found
  next_is : next found ≡ Ok b

bound : {A B : Type 0} (first : Result A Cause) (next : A → Result B Cause) (b : B) → (first >>= next) ≡ Ok b → Bound first next b
bound (Ok a) next b e = record { found = a; first_is = refl; next_is = e }
bound (Err cause) next b e = absurd cc

taken : {A : Type 0} (cause : Cause) (o : Option A) (a : A) → ok_or cause o ≡ Ok a → o ≡ Some a
taken cause (Some x) a e = ap Some (same_ok x a e)
taken cause None a e = absurd cc

allowed : (cause : Cause) (test : Bool) (u : Unit {0}) → check cause test ≡ Ok u → test ≡ true
allowed cause true u e = refl
allowed cause false u e = absurd cc

waits_not : {A : Type 0} (o : Option A) → not (is_some o) ≡ true → o ≡ None
waits_not None e = refl
waits_not (Some x) e = absurd (true≢false (sym e))

-- the connection that the first checks of an event found is the one at its number
pub called_there : (connections : List (ℕ × Connection)) (event : Event) (connection : Connection) → called connections event ≡ Ok connection → at_id event.connection connections ≡ Some connection
called_there connections event connection e =
    let in_range = bound (check causes.Moment (nat_le event.moment last_moment)) (λ u. ok_or causes.Connection (at_id event.connection connections)) connection e in
    taken causes.Connection (at_id event.connection connections) connection in_range.next_is

-- the connection awaits no KDC, at a call or an event of the exchange with the peer
pub record IsReady (connections : List (ℕ × Connection)) (event : Event) (connection : Connection) : Type 0 where
  pub there : at_id event.connection connections ≡ Some connection
  pub free : connection.exchange ≡ None

abbrev pub freed : Connection → Result Connection Cause
freed connection = check causes.Sequence (not (awaits connection)) >>= (λ u. Ok connection)

pub ready_there : (connections : List (ℕ × Connection)) (event : Event) (connection : Connection) → ready connections event ≡ Ok connection → IsReady connections event connection
ready_there connections event connection e =
    let calls = bound (called connections event) freed connection e in
    let free = bound (check causes.Sequence (not (awaits calls.found))) (λ u. Ok calls.found) connection calls.next_is in
    let is : calls.found ≡ connection = same_ok calls.found connection free.next_is in
    record {
      there = called_there connections event calls.found calls.first_is ∙ ap Some is;
      free = subst (λ (c : Connection). c.exchange ≡ None) is (waits_not calls.found.exchange (allowed causes.Sequence (not (awaits calls.found)) free.found free.first_is));
    }

abbrev pub hears : Input → Connection → Result (Connection × List ℕ) Cause
hears input connection = token_heard connection.context.state input >>= (λ token. Ok (connection, token))

called_in_range : (connections : List (ℕ × Connection)) (event : Event) (connection : Connection) → called connections event ≡ Ok connection → nat_le event.moment last_moment ≡ true
called_in_range connections event connection e =
    let in_range = bound (check causes.Moment (nat_le event.moment last_moment)) (λ u. ok_or causes.Connection (at_id event.connection connections)) connection e in
    allowed causes.Moment (nat_le event.moment last_moment) in_range.found in_range.first_is

ready_in_range : (connections : List (ℕ × Connection)) (event : Event) (connection : Connection) → ready connections event ≡ Ok connection → nat_le event.moment last_moment ≡ true
ready_in_range connections event connection e =
    let calls = bound (called connections event) freed connection e in called_in_range connections event calls.found calls.first_is

-- the moment is in range and the state allows the event, at an event of the exchange with the peer
pub record IsHearing (connections : List (ℕ × Connection)) (event : Event) (connection : Connection) (token : List ℕ) : Type 0 where
  pub there : at_id event.connection connections ≡ Some connection
  pub free : connection.exchange ≡ None
  pub in_range : nat_le event.moment last_moment ≡ true
  pub token_is : token_heard connection.context.state event.input ≡ Ok token

pub hearing_there : (connections : List (ℕ × Connection)) (event : Event) (found : Connection × List ℕ) → heard connections event ≡ Ok found → IsHearing connections event found.0 found.1
hearing_there connections event found e =
    let is_ready = bound (ready connections event) (hears event.input) found e in
    let here : Connection = is_ready.found in
    let hearing = bound (token_heard here.context.state event.input) (λ token. Ok (here, token)) found is_ready.next_is in
    let is : (here, hearing.found) ≡ found = same_ok (here, hearing.found) found hearing.next_is in
    let waits = ready_there connections event here is_ready.first_is in
    let hearing_here : IsHearing connections event here hearing.found =
    record { there = waits.there; free = waits.free; in_range = ready_in_range connections event here is_ready.first_is; token_is = hearing.first_is } in
    subst (λ (f : Connection × List ℕ). IsHearing connections event f.0 f.1) is hearing_here

abbrev pub judges : Option (List ℕ) → Connection → Result (Connection × List ℕ) Cause
judges brought connection = check causes.Sequence (is_acceptor connection.context) >>= (λ u. ok_or causes.Sequence brought >>= (λ token. Ok (connection, token)))

-- the connection is an acceptor's, if a token is judged
pub record IsJudging (connections : List (ℕ × Connection)) (event : Event) (connection : Connection) : Type 0 where
  pub there : at_id event.connection connections ≡ Some connection
  pub judging : is_acceptor connection.context ≡ true

pub reached_there : (connections : List (ℕ × Connection)) (event : Event) (found : Connection × List ℕ) → reached connections event ≡ Ok found → IsJudging connections event found.0
reached_there connections event found e =
    let is_ready = bound (ready connections event) (judges (input_token event.input)) found e in
    let here : Connection = is_ready.found in
    let judging = bound (check causes.Sequence (is_acceptor here.context)) (λ u. ok_or causes.Sequence (input_token event.input) >>= (λ token. Ok (here, token))) found is_ready.next_is in
    let token = bound (ok_or causes.Sequence (input_token event.input)) (λ token. Ok (here, token)) found judging.next_is in
    let is : here ≡ found.0 = ap (λ (f : Connection × List ℕ). f.0) (same_ok (here, token.found) found token.next_is) in
    subst (λ (c : Connection). IsJudging connections event c) is
    (record { there = (ready_there connections event here is_ready.first_is).there; judging = allowed causes.Sequence (is_acceptor here.context) judging.found judging.first_is })

-- the connection awaits the answer of the network, at a moment in range
pub record IsAwaiting (connections : List (ℕ × Connection)) (event : Event) (connection : Connection) (run : Run) : Type 0 where
  pub there : at_id event.connection connections ≡ Some connection
  pub in_range : nat_le event.moment last_moment ≡ true
  pub run_is : connection.exchange ≡ Some run

abbrev waits_for : Connection → Option Run → Result (Connection × Run) Cause
waits_for connection exchange = ok_or causes.Sequence exchange >>= (λ run. Ok (connection, run))

abbrev pub waits : Connection → Result (Connection × Run) Cause
waits connection = waits_for connection connection.exchange

pub awaited_there : (connections : List (ℕ × Connection)) (event : Event) (found : Connection × Run) → awaited connections event ≡ Ok found → IsAwaiting connections event found.0 found.1
awaited_there connections event found e =
    let calls = bound (called connections event) waits found e in
    let running = bound (ok_or causes.Sequence calls.found.exchange) (λ run. Ok (calls.found, run)) found calls.next_is in
    let is : (calls.found, running.found) ≡ found = same_ok (calls.found, running.found) found running.next_is in
    let here : IsAwaiting connections event calls.found running.found = record {
      there = called_there connections event calls.found calls.first_is;
      in_range = called_in_range connections event calls.found calls.first_is;
      run_is = taken causes.Sequence calls.found.exchange running.found running.first_is;
    } in
    subst (λ (f : Connection × Run). IsAwaiting connections event f.0 f.1) is here

-- if the first checks refuse an answer of the network, the connection awaits no KDC, or the moment is out of range
not_waiting : (connection : Connection) (exchange : Option Run) (cause : Cause) → waits_for connection exchange ≡ Err cause → exchange ≡ None
not_waiting connection None cause e = refl
not_waiting connection (Some run) cause e = absurd cc

refused_by : (in_range : Bool) (found : Option Connection) (connection : Connection) (cause : Cause) → found ≡ Some connection
    → (check causes.Moment in_range >>= (λ u. ok_or causes.Connection found) >>= waits) ≡ Err cause → (connection.exchange ≡ None) ⊎ (in_range ≡ false)
refused_by false found connection cause is e = inr refl
refused_by true None connection cause is e = absurd cc
refused_by true (Some found) connection cause is e =
    let same : found ≡ connection = some_same found connection is in
    inl (subst (λ (c : Connection). c.exchange ≡ None) same (not_waiting found found.exchange cause e))

pub awaited_refused : (connections : List (ℕ × Connection)) (event : Event) (connection : Connection) (cause : Cause) → at_id event.connection connections ≡ Some connection → awaited connections event ≡ Err cause
    → (connection.exchange ≡ None) ⊎ (nat_le event.moment last_moment ≡ false)
awaited_refused connections event connection cause is e = refused_by (nat_le event.moment last_moment) (at_id event.connection connections) connection cause is e
