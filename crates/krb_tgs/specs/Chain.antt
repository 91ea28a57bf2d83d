-- The keys in a chain of replies, one after another (RFC 4120, sections 3.1.5 and 3.3.4).
use Rattle.std.specs.Prelude.{◌≡◌, ℕ, List, [], ◌∷◌, Ok}
use Rattle.krb_exchange.specs.declared.kdc_rep.AsRep.{AsRep}
use Rattle.krb_exchange.specs.declared.kdc_rep.TgsRep.{TgsRep}
use Rattle.sspi_core.specs.declared.identity.CredentialsBuffers.{CredentialsBuffers}
use Rattle.krb_context.specs.declared.rules.Rules.{Rules}
use Rattle.krb_replies.specs.declared.keys.ReplyKey.{ReplyKey}
use Rattle.krb_replies.specs.Keys.{BringsNext}
use Rattle.krb_as.specs.ReplyKeys.{TakesReplyKey}

-- these replies, in their order, lead from a key to the last one: each is encrypted under the key before it and has the next
abbrev pub HandsOn : Rules → ReplyKey → List TgsRep → ReplyKey → Type 0
HandsOn rules shown [] last = shown ≡ last
HandsOn rules shown (reply ∷ replies) last = (next : ReplyKey) × BringsNext rules shown.suite shown.key reply (Ok next) × HandsOn rules next replies last

-- a key that began with the credentials: the AS-REP is encrypted under theirs, and the TGS-REPs lead from its key to this one. The
-- rules are those of the context that asked
pub record IsChain (rules : Rules) (credentials : CredentialsBuffers) (used : List ℕ) (as_rep : AsRep) (replies : List TgsRep) (last : ReplyKey) : Type 0 where
  pub start : ReplyKey
  pub begins : TakesReplyKey rules credentials used as_rep (Ok start)
  pub hands_on : HandsOn rules start replies last
