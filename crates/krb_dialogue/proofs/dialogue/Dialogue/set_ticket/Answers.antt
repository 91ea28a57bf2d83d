use Rattle.std.proofs.Common.{refl}
use Rattle.krb_dialogue.proofs.Found.{holder_named}
use Rattle.krb_dialogue.proofs.dialogue.Dialogue.set_ticket.Goals as goal

pub returns-in_ok-identity-in-Ok-clause-set : goal.returns-in_ok-identity-in-Ok-clause-set
returns-in_ok-identity-in-Ok-clause-set c = record {
  user = c.in-Ok.user;
  named = holder_named c.args.held c.in-Ok.user (c.in-Ok.ensures.so (λ e. absurd cc));
  identity = c.in_ok-identity-in-Ok.identity;
  is_user = c.in_ok-identity-in-Ok.ensures.user;
  is_type = c.in_ok-identity-in-Ok.ensures.etype;
  is_key = c.in_ok-identity-in-Ok.ensures.key;
  set = refl;
}
