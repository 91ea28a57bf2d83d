-- The keys that replies of a KDC bring, each sealed under the key before it (RFC 4120, sections 3.1.5, 3.3.4 and 7.5.1).
use Rattle.std.specs.Prelude.{ℕ, ◌==◌, ◌&&◌, Bool, true, false, List, [], ◌∷◌, Result}
use Rattle.krb_crypto.specs.declared.suite.CipherSuite.{CipherSuite}
use Rattle.krb_exchange.specs.declared.kdc_rep.AsRep.{AsRep}
use Rattle.krb_exchange.specs.declared.kdc_rep.TgsRep.{TgsRep}
use Rattle.krb_exchange.specs.declared.enc_kdc_rep_part.EncAsRepPart.{EncAsRepPart}
use Rattle.krb_exchange.specs.declared.enc_kdc_rep_part.EncKdcRepPart.{EncKdcRepPart}
use Rattle.krb_exchange.specs.Layouts.{enc_as_rep_part_layout, enc_tgs_rep_part_layout}
use Rattle.krb_context.specs.declared.rules.Rules.{Rules}
use Rattle.krb_context.specs.Rules.{has_rule, as_rep_tagged_26, suite_of_each_key, no_rules}
use Rattle.sspi_core.specs.declared.cause.Cause.{Cause}
use Rattle.sspi_core.specs.declared.cause.Cause.TheVariants.{Etype, Inner}
use Rattle.sspi_core.specs.Checks.{Finds, Takes, Gives, ◌>>=◌}
use Rattle.krb_replies.specs.declared.keys.ReplyKey.{ReplyKey}
use Rattle.krb_replies.specs.declared.facts.ReplyFacts.{ReplyFacts}
use Rattle.krb_replies.specs.Unseals.{suite_of_integer, IsRead, Unseals, OpensSealed, own_key, session_key}

-- the plain text begins with application tag 26
abbrev pub is_tagged_26 : List ℕ → Bool
is_tagged_26 [] = false
is_tagged_26 (tag ∷ rest) = tag == 0x7a

-- what an AS-REP seals: an EncASRepPart, or, tagged 26 where that is allowed, an EncTGSRepPart, which has the same fields (RFC 4120,
-- section 5.4.2)
abbrev pub IsFirstPart : Bool → List ℕ → EncAsRepPart → Type 0
IsFirstPart false plain part = IsRead enc_as_rep_part_layout plain part
IsFirstPart true plain part = IsRead enc_tgs_rep_part_layout plain (record { 0 = part.0 })

-- an AS-REP is sealed under the client's key, with usage 3
unfoldable pub OpensFirst : Rules → CipherSuite → List ℕ → List ℕ → Result EncAsRepPart Cause → Type 0
OpensFirst rules suite key text = do
  plain ← Unseals own_key suite key 3 text
  Finds Inner (IsFirstPart (has_rule rules as_rep_tagged_26 && is_tagged_26 plain) plain)

-- the suite of a key that a reply brings: that of the key under which the reply is sealed, or, where each key goes by its own, the one
-- that the key's type names (RFC 4120, sections 3.1.3 and 3.3.3)
abbrev pub HasSuite : Bool → CipherSuite → List ℕ → Result CipherSuite Cause → Type 0
HasSuite false suite key_type answer = Gives suite answer
HasSuite true suite key_type answer = Takes Etype (suite_of_integer key_type) answer

-- the facts that are encrypted next to the key
abbrev pub facts_in : EncKdcRepPart → ReplyFacts
facts_in part = record {
  nonce = part.nonce;
  flags = part.flags;
  authtime = part.authtime;
  starttime = part.starttime;
  endtime = part.endtime;
  renew_till = part.renew_till;
  srealm = part.srealm;
  sname = part.sname;
}

-- the key in this suite, and all else of the part
abbrev pub key_in : CipherSuite → EncKdcRepPart → ReplyKey
key_in suite part = record { suite = suite; key = part.key.key_value; facts = facts_in part }

-- the key in its suite
unfoldable pub TakesKey : Rules → CipherSuite → EncKdcRepPart → Result ReplyKey Cause → Type 0
TakesKey rules suite part = do
  own ← HasSuite (has_rule rules suite_of_each_key) suite part.key.key_type
  Gives (key_in own part)

-- an AS-REP brings the key that is sealed in it
unfoldable pub BringsFirst : Rules → CipherSuite → List ℕ → AsRep → Result ReplyKey Cause → Type 0
BringsFirst rules suite key as_rep = do
  part ← OpensFirst rules suite key as_rep.0.enc_part.cipher
  TakesKey rules suite part.0

-- so does a TGS-REP, which is sealed under the session key of the ticket that was shown, with usage 8
unfoldable pub BringsNext : Rules → CipherSuite → List ℕ → TgsRep → Result ReplyKey Cause → Type 0
BringsNext rules suite key tgs_rep = do
  part ← OpensSealed enc_tgs_rep_part_layout session_key suite key 8 tgs_rep.0.enc_part.cipher
  TakesKey rules suite part.0

-- the octets of these keys, without rules
unfoldable pub BringsKey : CipherSuite → List ℕ → AsRep → Result (List ℕ) Cause → Type 0
BringsKey suite key as_rep = do
  brought ← BringsFirst no_rules suite key as_rep
  Gives brought.key

unfoldable pub HandsOnKey : CipherSuite → List ℕ → TgsRep → Result (List ℕ) Cause → Type 0
HandsOnKey suite key tgs_rep = do
  brought ← BringsNext no_rules suite key tgs_rep
  Gives brought.key
