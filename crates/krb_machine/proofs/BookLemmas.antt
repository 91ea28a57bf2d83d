-- A service over a replay book: facts that follow since it answers as the one over the gate that never forgets.
use Rattle.std.proofs.Common.{◌≡◌, ℕ, List, ◌++◌, Ok, refl, subst}
use Rattle.krb_replay.specs.Book.{Book, Follows, StandsFor}
use Rattle.krb_replay.specs.History.{History, verdict_of}
use Rattle.krb_replay.specs.Records.{IsDistinct}
use Rattle.krb_replay.specs.declared.record.Record.{Record}
use Rattle.krb_replay.specs.declared.ask.Verdict.TheVariants.{Admitted}
use Rattle.krb_admission.specs.Accepts.{asks_dce_style, BeginsAdmission, FinishesAdmission}
use Rattle.krb_admission.specs.Admission.{answer_for}
use Rattle.krb_admission.specs.Requests.{ask_of}
use Rattle.krb_admission.specs.declared.admission.Admission.{Admission}
use Rattle.krb_admission.specs.declared.request.Request.{Request}
use Rattle.krb_script.specs.declared.item.Event.{Event}
use Rattle.krb_machine.specs.declared.connection.Connection.{Connection}
use Rattle.krb_machine.specs.declared.reply.Reply.{Reply}
use Rattle.krb_machine.specs.Policy.{State, Steps, Runs, reached, reply_of, server_flags, draw_of}
use Rattle.krb_machine.specs.Described.{Remembers, with_gate}
use Rattle.krb_machine.specs.Left.{records_left}
use Rattle.krb_machine.proofs.HistoryLemmas.{step-remembered, run-remembered}
use Rattle.krb_machine.proofs.LeftLemmas.{left-once, passing-done}

pub never-forgets : (before after : State Book) (events : List Event) (replies : List Reply) (h : History) → StandsFor before.gate h → Runs (Follows StandsFor) before events replies after
    → (later : History) × Runs (Remembers before.gate.skew) (with_gate before h) events replies (with_gate after later) × StandsFor after.gate later
never-forgets before after events replies h stands runs =
    let r = run-remembered before.gate.skew before h events replies after stands refl runs in (r.later, r.remembers, r.stands)

pub book-left-once : (before after : State Book) (events : List Event) (replies : List Reply) (h : History) (runs : Runs (Follows StandsFor) before events replies after) → StandsFor before.gate h
    → IsDistinct (h.admitted ++ records_left (Follows StandsFor) before events replies after runs)
book-left-once before after events replies h runs stands =
    let skew = before.gate.skew in
    let r = run-remembered skew before h events replies after stands refl runs in
    let D : List Record → Type 0 = λ l. IsDistinct (h.admitted ++ l) in
    subst D r.left (left-once skew (with_gate before h) (with_gate after r.later) events replies r.remembers stands.distinct)

pub book-passing-done : (before after : State Book) (h : History) (event : Event) (reply : Reply) (connection : Connection) (token : List ℕ) (request : Request) (admission : Admission) → StandsFor before.gate h
    → Steps (Follows StandsFor) before event reply after → reached before.connections event ≡ Ok (connection, token)
    → BeginsAdmission connection.context (asks_dce_style (server_flags event.flags)) token (Ok request) → verdict_of before.gate.skew h (ask_of connection.context.rules request event.moment) ≡ Admitted
    → FinishesAdmission connection.context (asks_dce_style (server_flags event.flags)) (draw_of event) request (Ok admission) → reply ≡ reply_of (Ok (answer_for admission))
book-passing-done before after h event reply connection token request admission stands step reaches begun admitted finished =
    let skew = before.gate.skew in
    let m = step-remembered skew before h event reply after stands refl step in
    passing-done skew (with_gate before h) (with_gate after m.after) event reply connection token request admission m.steps reaches begun admitted finished
