-- The effects of a set of rules: none if the set is empty.
use Rattle.std.proofs.Common.{◌≡◌, ℕ, ◌≤◌, Bool, true, List, length, take, ap, ◌∙◌}
use Rattle.std.specs.Prelude.{not, ◌&&◌, ◌||◌, nat_le, if◌then◌else◌}
use Rattle.std.proofs.lemmas.Bool.{le-leb}
use Rattle.krb_context.specs.declared.context.Kerberos.{Kerberos}
use Rattle.krb_context.specs.declared.rules.Rules.{Rules}
use Rattle.krb_context.specs.declared.params.EncryptionParams.{EncryptionParams}
use Rattle.krb_context.specs.Contexts.{is_acceptor}
use Rattle.krb_context.specs.Header.{ec_of}
use Rattle.krb_context.specs.Rules.{no_rules, has_rule, subkey_flag_by_origin, extra_count_by_token}
use Rattle.krb_context.specs.Parties.{has_subkey_flag, seal_flags, sign_flags, writes_subkey, own_seal_flags, own_sign_flags}
use Rattle.krb_context.specs.Unwraps.{count_for, params_for}

writes_always : (context : Kerberos) → context.rules ≡ no_rules → writes_subkey context ≡ true
writes_always context none = ap (λ (o : Rules). has_subkey_flag o context.encryption_params) none

pub seals_always : (context : Kerberos) → context.rules ≡ no_rules → own_seal_flags context ≡ (if is_acceptor context then 7 else 6)
seals_always context none = ap (λ (b : Bool). seal_flags b (is_acceptor context)) (writes_always context none)

pub signs_always : (context : Kerberos) → context.rules ≡ no_rules → own_sign_flags context ≡ (if is_acceptor context then 5 else 4)
signs_always context none = ap (λ (b : Bool). sign_flags b (is_acceptor context)) (writes_always context none)

pub writes_by_origin : (context : Kerberos) → has_rule context.rules subkey_flag_by_origin ≡ true
    → writes_subkey context ≡ context.encryption_params.acceptor_subkey
writes_by_origin context allowed = ap (λ (b : Bool). not b || context.encryption_params.acceptor_subkey) allowed

pub counts_own : (context : Kerberos) (text : List ℕ) → context.rules ≡ no_rules → params_for context text ≡ context.encryption_params
counts_own context text none =
    ap (λ (o : Rules). let made : EncryptionParams = record context.encryption_params { ec = count_for o context.encryption_params.ec text } in made) none

pub counts_tokens : (context : Kerberos) (text : List ℕ) → has_rule context.rules extra_count_by_token ≡ true → 16 ≤ length text
    → (params_for context text).ec ≡ ec_of (take 16 text)
counts_tokens context text allowed long =
    let own : ℕ = context.encryption_params.ec in
    let there : nat_le 16 (length text) ≡ true = le-leb 16 (length text) long in
    ap (λ (b : Bool). if b && nat_le 16 (length text) then ec_of (take 16 text) else own) allowed
    ∙ ap (λ (b : Bool). if b then ec_of (take 16 text) else own) there
