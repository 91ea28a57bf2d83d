-- The request that is made for a target that has its two parts.
use Rattle.std.proofs.Common.{◌≡◌, ℕ, List, Option, Some, None, refl, ◌∙◌}
use Rattle.krb_crypto.specs.declared.suite.CipherSuite.{CipherSuite}
use Rattle.krb_messages.specs.declared.authenticator.Authenticator.{Authenticator}
use Rattle.krb_messages.specs.declared.ticket.Ticket.{Ticket}
use Rattle.krb_exchange.specs.declared.kdc_req.KdcReqBody.{KdcReqBody}
use Rattle.krb_exchange.specs.declared.kdc_req.TgsReq.{TgsReq}
use Rattle.krb_conf.specs.Names.{target_parts}
use Rattle.sspi_core.specs.declared.draw.Draw.{Draw}
use Rattle.krb_authenticators.specs.TgsRequests.{tgs_body, tgs_req, IsTgsReq}
use Rattle.krb_tgs.specs.declared.wanted.Wanted.{Wanted}
use Rattle.krb_as.specs.declared.key.Grant.{Grant}
use Rattle.krb_tgs.specs.TgsAsked.{drawn_nonce, drawn_confounder, tgs_authenticator, parts_of, tgs_req_for}

behind : (suite : CipherSuite) (key confounder : List ℕ) (ticket : Ticket) (authenticator : Authenticator) (body : List ℕ → List ℕ → KdcReqBody)
    (parts : Option (List ℕ × List ℕ)) (made : TgsReq) → IsTgsReq suite key confounder ticket authenticator body parts made
    → made ≡ tgs_req suite key confounder ticket authenticator (body (parts_of parts).0 (parts_of parts).1)
behind suite key confounder ticket authenticator body (Some parts) made h = h
behind suite key confounder ticket authenticator body None made h = absurd h

module _ (wanted : Wanted) (shown : Grant) (realm : List ℕ) (tickets : Option (List Ticket)) (draw : Draw) where
  same : (suite : CipherSuite) (confounder nonce text target : List ℕ) (ticket : Ticket) (authenticator : Authenticator)
      → suite ≡ shown.suite → confounder ≡ drawn_confounder draw → nonce ≡ drawn_nonce draw → text ≡ realm → target ≡ wanted.target
      → ticket ≡ shown.rep.ticket → authenticator ≡ tgs_authenticator wanted shown.rep draw
      → tgs_req suite shown.key confounder ticket authenticator
      (tgs_body text (parts_of (target_parts target)).0 (parts_of (target_parts target)).1 tickets wanted.flags.0 draw.moment nonce)
      ≡ tgs_req_for wanted shown realm tickets draw
  unfolding tgs_req_for
  same suite confounder nonce text target ticket authenticator es ec en er et ek ea = rw (es, ec, en, er, et, ek, ea) refl

  pub is_tgs_req : (suite : CipherSuite) (confounder nonce text target : List ℕ) (ticket : Ticket) (authenticator : Authenticator) (made : TgsReq)
      → suite ≡ shown.suite → confounder ≡ drawn_confounder draw → nonce ≡ drawn_nonce draw → text ≡ realm → target ≡ wanted.target
      → ticket ≡ shown.rep.ticket → authenticator ≡ tgs_authenticator wanted shown.rep draw
      → IsTgsReq suite shown.key confounder ticket authenticator
      (λ service host. tgs_body text service host tickets wanted.flags.0 draw.moment nonce) (target_parts target) made
      → made ≡ tgs_req_for wanted shown realm tickets draw
  is_tgs_req suite confounder nonce text target ticket authenticator made es ec en er et ek ea h =
      behind suite shown.key confounder ticket authenticator (λ service host. tgs_body text service host tickets wanted.flags.0 draw.moment nonce) (target_parts target) made h
      ∙ same suite confounder nonce text target ticket authenticator es ec en er et ek ea
