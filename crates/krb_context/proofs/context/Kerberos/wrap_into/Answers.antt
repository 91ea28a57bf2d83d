use Rattle.std.proofs.Common.{rules, ◌≡◌, ◌≤◌, ℕ, List, ◌++◌, length, drop, sym, ap, ap₂, ◌∙◌, arith}
use Rattle.std.proofs.lemmas.List.{length-take-le}
use Rattle.krb_crypto.specs.declared.suite.CipherSuite.{CipherSuite}
use Rattle.krb_crypto.specs.Suite.{key_size}
use Rattle.sspi_core.specs.declared.cause.Cause.TheVariants.{TooSmall}
use Rattle.sspi_core.specs.declared.error.Place.TheVariants.{Elsewhere}
use Rattle.sspi_core.proofs.Chain.{answers}
use Rattle.krb_context.specs.Spelled.{spelled}
use Rattle.krb_context.specs.WrapsInto.{WrapsInto}
use Rattle.krb_context.proofs.ChainLemmas.{handed_on, refuses}
use Rattle.krb_context.proofs.ReadyLemmas.{is_ready}
use Rattle.krb_context.proofs.IntoLemmas.{text_wrapped, own_token, token_spelled, wraps_into, too_small, length-token, unready, refuses_into}
use Rattle.krb_context.proofs.context.Kerberos.wrap_into.Goals as goal

pub take-requires : goal.take-requires
take-requires c =
    let r = is_ready _ _ _ _ (c.in_ok-key.ensures c.args.text.now) in
    ap length c.as_slice.ensures ∙ r.key_length ∙ ap (λ (s : CipherSuite). key_size s) (sym c.suite.ensures)

pub returns-in_err-key-clause-refused : goal.returns-in_err-key-clause-refused
returns-in_err-key-clause-refused c =
    let room : ℕ = length c.args.out.now in
    handed_on Elsewhere (WrapsInto c.args.self.now c.args.confounder.now c.args.text.now room) _ c.from_residual.result
    (answers _ _ (refuses_into c.args.self.now c.args.confounder.now c.args.text.now room _
    (unready c.args.self.now c.args.confounder.now c.args.text.now _ (c.in_err-key.ensures c.args.text.now)))) c.from_residual.ensures.1

pub returns-then-out-count-clause-refused : goal.returns-then-out-count-clause-refused
returns-then-out-count-clause-refused c =
    let room : ℕ = length c.args.out.now in
    let ready = c.in_ok-key.ensures c.args.text.now in
    let size = length-token c.args.self.now c.in_ok-key.key.now c.args.confounder.now c.args.text.now c.token_len-count.ensures.small c.told-confounder
    (record { below = λ k. omega (arith, c.fits-confounder k) }) (record { below = λ k. omega (arith, c.type_inv.text k) }) ready in
    refuses Elsewhere (WrapsInto c.args.self.now c.args.confounder.now c.args.text.now room) TooSmall c.from.result
    (answers _ _ (too_small c.args.self.now c.in_ok-key.key.now c.args.confounder.now c.args.text.now room ready
    (omega (arith, size, c.token_len-count.ensures.len, c.if-out-count.true)))) c.from.ensures

pub returns-clause-wrapped : goal.returns-clause-wrapped
returns-clause-wrapped c =
    let key : List ℕ = c.in_ok-key.key.now in
    let ready = c.in_ok-key.ensures c.args.text.now in
    let token : List ℕ = spelled (text_wrapped c.args.self.now key c.args.confounder.now c.args.text.now) in
    let made : c.write_token.new.out ≡ own_token c.args.self.now key c.args.confounder.now c.args.text.now = search rules in
    let is : c.write_token.new.out ≡ token = made ∙ sym (token_spelled c.args.self.now key c.args.confounder.now c.args.text.now ready) in
    let fits : c.token_len-count.result ≤ length c.args.out.now = c.if-out-count.false in
    let size : c.token_len-count.result ≡ length token =
    sym (length-take-le c.token_len-count.result c.args.out.now fits) ∙ sym c.write_token.auto.out ∙ ap length is in
    record {
      octets = token;
      given = wraps_into c.args.self.now key c.args.confounder.now c.args.text.now (length c.args.out.now) ready (omega (arith, size, fits));
      counted = size;
      put = ap₂ (λ (u : List ℕ) (n : ℕ). u ++ drop n c.args.out.now) is size;
    }
