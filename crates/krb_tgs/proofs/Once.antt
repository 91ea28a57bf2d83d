-- A request to a ticket-granting service, and the outcome of a KDC's reply, have one answer at most.
use Rattle.std.proofs.Common.{ℕ, List, Option, None, Result, arith}
use Rattle.krb_crypto.specs.declared.suite.CipherSuite.{CipherSuite}
use Rattle.krb_messages.specs.declared.ticket.Ticket.{Ticket}
use Rattle.krb_exchange.specs.Table.{tgs_rep, krb_error}
use Rattle.krb_exchange.specs.Layouts.{tgs_rep_layout}
use Rattle.krb_exchange.specs.Results.{HasOneResult}
use Rattle.krb_exchange.proofs.Results.{one_result_of}
use Rattle.sspi_core.proofs.Once.{Once, then_once, holds_once, gives_once}
use Rattle.sspi_core.specs.declared.draw.Draw.{Draw}
use Rattle.sspi_generator.specs.declared.network.NetFault.{NetFault}
use Rattle.krb_context.specs.declared.rules.Rules.{Rules}
use Rattle.krb_exchange.specs.declared.kdc_rep.TgsRep.{TgsRep}
use Rattle.krb_context.specs.Rules.{has_rule, fresh_replies}
use Rattle.krb_replies.proofs.Once.{brings_next_once, answers_request_once, asked_for_once}
use Rattle.krb_as.proofs.Once.{finds_kdc_once, grants_once}
use Rattle.krb_as.specs.declared.asker.Asker.{Asker}
use Rattle.krb_tgs.specs.declared.wanted.Wanted.{Wanted}
use Rattle.krb_as.specs.declared.kdc.Kdc.{Kdc}
use Rattle.krb_as.specs.declared.key.Grant.{Grant}
use Rattle.krb_tgs.specs.TgsAsked.{AsksTgs, Follows}
use Rattle.krb_tgs.specs.declared.fresh.TgsQuestion.{TgsQuestion}
use Rattle.krb_tgs.specs.Fresh.{AnswersTgsReq}
use Rattle.krb_tgs.specs.Taken.{BringsFresh, TakesTgsRep}

pub asks_tgs_once : (asker : Asker) (wanted : Wanted) (shown : Grant) (home realm : List ℕ) (tickets : Option (List Ticket)) (draw : Draw) → Once (AsksTgs asker wanted shown home realm tickets draw)
unfolding AsksTgs
asks_tgs_once asker wanted shown home realm tickets draw =
    then_once _ _ (holds_once _ _) (λ _. then_once _ _ (finds_kdc_once _ asker.env realm) (λ kdc. gives_once _))

pub follows_once : (asker : Asker) (wanted : Wanted) (shown : Grant) (hops : ℕ) (home asked realm : List ℕ) (draw : Draw) → Once (Follows asker wanted shown hops home asked realm draw)
unfolding Follows
follows_once asker wanted shown hops home asked realm draw =
    then_once _ _ (holds_once _ _) (λ _. then_once _ _ (holds_once _ _) (λ _. asks_tgs_once asker wanted shown home realm None draw))

-- a reply is of one kind
tgs_rep_once : HasOneResult tgs_rep_layout
unfolding tgs_rep krb_error
tgs_rep_once = one_result_of tgs_rep_layout (λ e. omega (arith, e))

brings_fresh_once : (rules : Rules) (target realm : List ℕ) (question : TgsQuestion) (moment : ℕ) (suite : CipherSuite) (key : List ℕ) (tgs_rep : TgsRep)
    → Once (BringsFresh rules target realm question moment suite key tgs_rep)
unfolding BringsFresh
brings_fresh_once rules target realm question moment suite key tgs_rep =
    then_once _ _ (brings_next_once rules suite key tgs_rep)
    (λ next. then_once _ _ (asked_for_once (has_rule rules fresh_replies) (AnswersTgsReq target realm question moment tgs_rep.0 next.facts) (answers_request_once _ _ moment next.facts)) (λ _. gives_once _))

pub takes_tgs_rep_once : (rules : Rules) (target : List ℕ) (question : TgsQuestion) (moment : ℕ) (kdc : Kdc) (suite : CipherSuite) (key : List ℕ) (reply : Result (List ℕ) NetFault)
    → Once (TakesTgsRep rules target question moment kdc suite key reply)
unfolding TakesTgsRep
takes_tgs_rep_once rules target question moment kdc suite key reply =
    then_once _ _ (grants_once kdc.protocol tgs_rep_layout reply tgs_rep_once)
    (λ tgs_rep. then_once _ _ (brings_fresh_once rules target kdc.realm question moment suite key tgs_rep) (λ next. gives_once _))
