-- The connection at a number after a connection is set, and the connection that the first checks of an event found.
use Rattle.std.proofs.Common.{◌≡◌, ℕ, Bool, true, false, cond, List, [], ◌∷◌, Option, Some, None, Result, Ok, Err, refl, sym, ap, ◌∙◌}
use Rattle.std.specs.Prelude.{◌==◌, not, nat_le}
use Rattle.std.specs.Ordering.{nat_cmp}
use Rattle.std.specs.BTreeMap.{is_at}
use Rattle.std.specs.Cmp.{unsigned_tied}
use Rattle.std.specs.Map.{lookup, set_value}
use Rattle.std.proofs.lemmas.Bool.{eqb-true, eq-eqb, true≢false}
use Rattle.krb_context.specs.Contexts.{is_acceptor}
use Rattle.krb_script.specs.Script.{at_id}
use Rattle.krb_script.specs.declared.item.Event.{Event}
use Rattle.sspi_core.specs.Checks.{ok_or}
use Rattle.sspi_core.specs.Moments.{last_moment}
use Rattle.sspi_core.specs.declared.cause.Cause.{Cause}
use Rattle.sspi_core.specs.declared.cause.Cause.TheVariants as causes
use Rattle.krb_machine.specs.Exchanges.{awaits}
use Rattle.krb_machine.specs.Initiations.{token_heard}
use Rattle.krb_machine.specs.Policy.{◌>>=◌, check, called, ready, reached, heard, awaited, input_token}
use Rattle.krb_machine.specs.declared.connection.Connection.{Connection}
use Rattle.krb_machine.specs.declared.run.Run.{Run}

-- ---- the connection at a number

module _ {A : Type 0} (test : ℕ → Bool) where
  there_first : (entry : ℕ × A) (entries put : List (ℕ × A)) (old new : A) (b : Bool) → test entry.0 ≡ b → (lookup test entries ≡ Some old → lookup test put ≡ Some new)
      → cond b (Some entry.1) (lookup test entries) ≡ Some old → lookup test (cond b ((entry.0, new) ∷ entries) (entry ∷ put)) ≡ Some new
  there_first entry entries put old new true is rest e = rw is refl
  there_first entry entries put old new false is rest e = rw is (rest e)

  set_there : (entries : List (ℕ × A)) (old new : A) → lookup test entries ≡ Some old → lookup test (set_value test entries new) ≡ Some new
  set_there [] old new e = absurd cc
  set_there (entry ∷ entries) old new e = there_first entry entries (set_value test entries new) old new (test entry.0) refl (λ e. set_there entries old new e) e

  module _ (other : ℕ → Bool) (apart : (k : ℕ) → test k ≡ true → other k ≡ false) where
    apart_first : (entry : ℕ × A) (entries put : List (ℕ × A)) (new : A) (b : Bool) → test entry.0 ≡ b → lookup other put ≡ lookup other entries
        → lookup other (cond b ((entry.0, new) ∷ entries) (entry ∷ put)) ≡ cond (other entry.0) (Some entry.1) (lookup other entries)
    apart_first entry entries put new true is rest = rw (apart entry.0 is) refl
    apart_first entry entries put new false is rest = ap (λ (o : Option A). cond (other entry.0) (Some entry.1) o) rest

    set_apart : (entries : List (ℕ × A)) (new : A) → lookup other (set_value test entries new) ≡ lookup other entries
    set_apart [] new = refl
    set_apart (entry ∷ entries) new = apart_first entry entries (set_value test entries new) new (test entry.0) refl (set_apart entries new)

other_apart : (at id k : ℕ) (b : Bool) → (at == id) ≡ false → at ≡ k → (id == k) ≡ b → b ≡ false
other_apart at id k true differs here e = absurd (true≢false (sym (eq-eqb at id (here ∙ sym (eqb-true id k e))) ∙ differs))
other_apart at id k false differs here e = refl

tests_apart : (at id : ℕ) → (at == id) ≡ false → (k : ℕ) → is_at (nat_cmp at) k ≡ true → is_at (nat_cmp id) k ≡ false
tests_apart at id differs k is =
    unsigned_tied id k ∙ other_apart at id k (id == k) differs (eqb-true at k (sym (unsigned_tied at k) ∙ is)) refl

-- the number whose connection is set has the new connection, and every other number keeps its own
pub set-there : (connections : List (ℕ × Connection)) (id : ℕ) (old next : Connection) → at_id id connections ≡ Some old → at_id id (set_value (is_at (nat_cmp id)) connections next) ≡ Some next
set-there connections id old next e = set_there (is_at (nat_cmp id)) connections old next e

pub set-apart : (connections : List (ℕ × Connection)) (at id : ℕ) (next : Connection) → (at == id) ≡ false
    → at_id id (set_value (is_at (nat_cmp at)) connections next) ≡ at_id id connections
set-apart connections at id next differs = set_apart (is_at (nat_cmp at)) (is_at (nat_cmp id)) (tests_apart at id differs) connections next

-- ---- the connection that the first checks found is the one at the event's number

same_ok : {A : Type 0} (x y : A) → ◌≡◌ {A = Result A Cause} (Ok x) (Ok y) → x ≡ y
same_ok x y e = cc

-- checks that pass found a value first
record Bound {A B : Type 0} (first : Result A Cause) (next : A → Result B Cause) (b : B) : Type 0 where
  found : A
  first_is : first ≡ Ok found
  next_is : next found ≡ Ok b

bound : {A B : Type 0} (first : Result A Cause) (next : A → Result B Cause) (b : B) → (first >>= next) ≡ Ok b → Bound first next b
bound (Ok a) next b e = record { found = a; first_is = refl; next_is = e }
bound (Err cause) next b e = absurd cc

taken : {A : Type 0} (cause : Cause) (o : Option A) (a : A) → ok_or cause o ≡ Ok a → o ≡ Some a
taken cause (Some x) a e = ap Some (same_ok x a e)
taken cause None a e = absurd cc

pub called-found : (connections : List (ℕ × Connection)) (event : Event) (connection : Connection) → called connections event ≡ Ok connection → at_id event.connection connections ≡ Some connection
called-found connections event connection e =
    taken causes.Connection (at_id event.connection connections) connection
    (bound (check causes.Moment (nat_le event.moment last_moment)) (λ u. ok_or causes.Connection (at_id event.connection connections)) connection e).next_is

pub ready-found : (connections : List (ℕ × Connection)) (event : Event) (connection : Connection) → ready connections event ≡ Ok connection → at_id event.connection connections ≡ Some connection
ready-found connections event connection e =
    let calls = bound (called connections event) (λ c. check causes.Sequence (not (awaits c)) >>= (λ u. Ok c)) connection e in
    let free = bound (check causes.Sequence (not (awaits calls.found))) (λ u. Ok calls.found) connection calls.next_is in
    called-found connections event calls.found calls.first_is ∙ ap Some (same_ok calls.found connection free.next_is)

pub awaited-found : (connections : List (ℕ × Connection)) (event : Event) (found : Connection × Run) → awaited connections event ≡ Ok found → at_id event.connection connections ≡ Some found.0
awaited-found connections event found e =
    let calls = bound (called connections event) (λ c. ok_or causes.Sequence c.exchange >>= (λ run. Ok (c, run))) found e in
    let running = bound (ok_or causes.Sequence calls.found.exchange) (λ run. Ok (calls.found, run)) found calls.next_is in
    called-found connections event calls.found calls.first_is ∙ ap (λ (f : Connection × Run). Some f.0) (same_ok (calls.found, running.found) found running.next_is)

pub heard-found : (connections : List (ℕ × Connection)) (event : Event) (found : Connection × List ℕ) → heard connections event ≡ Ok found → at_id event.connection connections ≡ Some found.0
heard-found connections event found e =
    let is_ready = bound (ready connections event) (λ c. token_heard c.context.state event.input >>= (λ token. Ok (c, token))) found e in
    let hearing = bound (token_heard is_ready.found.context.state event.input) (λ token. Ok (is_ready.found, token)) found is_ready.next_is in
    ready-found connections event is_ready.found is_ready.first_is ∙ ap (λ (f : Connection × List ℕ). Some f.0) (same_ok (is_ready.found, hearing.found) found hearing.next_is)

pub reached-found : (connections : List (ℕ × Connection)) (event : Event) (found : Connection × List ℕ) → reached connections event ≡ Ok found → at_id event.connection connections ≡ Some found.0
reached-found connections event found e =
    let is_ready = bound (ready connections event) (λ c. check causes.Sequence (is_acceptor c.context) >>= (λ u. ok_or causes.Sequence (input_token event.input) >>= (λ token. Ok (c, token)))) found e in
    let here : Connection = is_ready.found in
    let judging = bound (check causes.Sequence (is_acceptor here.context)) (λ u. ok_or causes.Sequence (input_token event.input) >>= (λ token. Ok (here, token))) found is_ready.next_is in
    let token = bound (ok_or causes.Sequence (input_token event.input)) (λ token. Ok (here, token)) found judging.next_is in
    ready-found connections event here is_ready.first_is ∙ ap (λ (f : Connection × List ℕ). Some f.0) (same_ok (here, token.found) found token.next_is)
