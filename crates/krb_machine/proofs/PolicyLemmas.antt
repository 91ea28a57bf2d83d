-- Runs of the policy machine, with one more event.
use Rattle.std.proofs.Common.{◌≡◌, suc, List, [], ◌∷◌, ◌++◌, length, refl, ap, ◌∙◌, subst, append_assoc}
use Rattle.krb_replay.specs.declared.ask.Ask.{Ask}
use Rattle.krb_replay.specs.declared.ask.Verdict.{Verdict}
use Rattle.krb_script.specs.declared.item.Event.{Event}
use Rattle.krb_machine.specs.declared.reply.Reply.{Reply}
use Rattle.krb_machine.specs.Policy.{State, Steps, Runs, RunsOn}

module _ {G : Type 0} (admits : G → Ask → Verdict → G → Type 0) where
  -- a run over one more event
  pub Runs-push : (state : State G) (events : List Event) (replies : List Reply) (between : State G) (event : Event) (reply : Reply) (after : State G)
      → Runs admits state events replies between → Steps admits between event reply after → Runs admits state (events ++ event ∷ []) (replies ++ reply ∷ []) after
  Runs-push state [] [] between event reply after runs steps = let P : State G → Type 0 = λ s. Steps admits s event reply after in (after, subst P runs steps, refl)
  Runs-push state [] (other ∷ replies) between event reply after runs steps = absurd runs
  Runs-push state (first ∷ events) [] between event reply after runs steps = absurd runs
  Runs-push state (first ∷ events) (other ∷ replies) between event reply after runs steps =
      (runs.0, runs.1, Runs-push runs.0 events replies between event reply after runs.2 steps)

  -- each event has one reply
  pub Runs-length : (state : State G) (events : List Event) (replies : List Reply) (after : State G) → Runs admits state events replies after → length replies ≡ length events
  Runs-length state [] [] after runs = refl
  Runs-length state [] (reply ∷ replies) after runs = absurd runs
  Runs-length state (event ∷ events) [] after runs = absurd runs
  Runs-length state (event ∷ events) (reply ∷ replies) after runs = ap suc (Runs-length runs.0 events replies after runs.2)

  -- replies that are appended to others
  pub RunsOn-push : (state : State G) (events : List Event) (old now new : List Reply) (between : State G) (event : Event) (reply : Reply) (after : State G)
      → RunsOn admits state events old now between → Steps admits between event reply after → new ≡ now ++ reply ∷ [] → RunsOn admits state (events ++ event ∷ []) old new after
  RunsOn-push state events old now new between event reply after r steps is = record {
    made = r.made ++ reply ∷ [];
    replies = is ∙ ap (λ l. l ++ reply ∷ []) r.replies ∙ append_assoc old r.made (reply ∷ []);
    runs = Runs-push state events r.made between event reply after r.runs steps;
  }
