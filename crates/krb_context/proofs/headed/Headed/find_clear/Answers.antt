use Rattle.std.proofs.Common.{◌≡◌, ◌-◌, ◌%◌, ◌++◌, ℕ, List, length, take, drop, sym, ap, ap₂, subst, ◌∙◌, arith}
use Rattle.krb_crypto.specs.declared.suite.CipherSuite.{CipherSuite}
use Rattle.krb_crypto.specs.Suite.{key_size, kc}
use Rattle.sspi_core.specs.declared.cause.Cause.TheVariants.{Altered}
use Rattle.sspi_core.proofs.Chain.{answers, finds_from}
use Rattle.krb_context.specs.Header.{rrc_of}
use Rattle.krb_context.specs.Params.{suite_of}
use Rattle.krb_context.specs.Parties.{seal_usage}
use Rattle.krb_context.specs.Spelled.{spelled}
use Rattle.krb_context.specs.Spelt.{IsClearAs, SpeltClear}
use Rattle.krb_context.proofs.TurnLemmas.{IsTurned, to_clear, from_clear, found_as}
use Rattle.krb_context.proofs.UnwrapLemmas.{clear_long}
use Rattle.krb_context.proofs.headed.Headed.find_clear.Goals as goal

pub turned_body-requires : goal.turned_body-requires
turned_body-requires c =
    let least = clear_long c.args.self.now.header.now (length c.args.self.now.text.now - 16) c.requires.clear c.requires.long in
    omega (arith, least.0, c.body_len.ensures, c.args.self.now.checked.long)

pub open_clear-found-requires-clause-size : goal.open_clear-found-requires-clause-size
open_clear-found-requires-clause-size c = ap length c.as_slice.ensures ∙ c.args.self.now.checked.key_length ∙ ap (λ (s : CipherSuite). key_size s) (sym c.suite.ensures)

pub open_clear-found-requires-clause-long : goal.open_clear-found-requires-clause-long
open_clear-found-requires-clause-long c =
    let least = clear_long c.args.self.now.header.now (length c.args.self.now.text.now - 16) c.requires.clear c.requires.long in
    omega (arith, least.1, c.in_ok-whole.ensures.size)

pub returns : goal.returns
returns c =
    let params = c.args.self.now.params.now in
    let buffers = c.args.self.now.message.now in
    let peer = c.args.self.now.peer in
    let header : List ℕ = c.args.self.now.header.now in
    let whole : List ℕ = c.in_ok-whole.whole.items in
    let turn : ℕ = c.rrc_of.result % c.body_len.result in
    let text : c.args.self.now.text.now ≡ spelled buffers = c.args.self.now.of_message in
    let key : List ℕ = kc (suite_of params) c.args.self.now.key.now (seal_usage peer) in
    let made : List ℕ = kc c.suite.result c.as_slice.result.now c.seal_usage.result in
    let same : made ≡ key =
    ap (λ (k : List ℕ). kc c.suite.result k c.seal_usage.result) c.as_slice.ensures
    ∙ ap₂ (λ (s : CipherSuite) (u : ℕ). kc s c.args.self.now.key.now u) c.suite.ensures c.seal_usage.ensures in
    let least = clear_long c.args.self.now.header.now (length c.args.self.now.text.now - 16) c.requires.clear c.requires.long in
    let len_is : c.body_len.result ≡ length (spelled buffers) - 16 = c.body_len.ensures ∙ ap (λ (s : List ℕ). length s - 16) text in
    let turned : IsTurned (spelled buffers) header whole turn =
    record {
      long = omega (arith, c.args.self.now.checked.long, ap length text);
      front = c.args.self.now.checked.front ∙ ap (take 16) text;
      fits = omega (arith, least.0, len_is, ap length text);
      back = c.in_ok-whole.ensures.body ∙ ap (λ (s : List ℕ). drop turn (drop 16 s) ++ take turn (drop 16 s)) text;
    } in
    let turn_is : turn ≡ rrc_of header % (length (spelled buffers) - 16) = ap₂ (λ (r n : ℕ). r % n) c.rrc_of.ensures len_is in
    let found =
    found_as (λ v. v) (IsClearAs made header whole) (SpeltClear key peer buffers) c.open_clear-found.result
    (λ p s.
    to_clear key peer buffers header whole turn p turned turn_is c.args.self.now.checked.token c.requires.clear c.args.self.now.checked.side
    (subst (λ (k : List ℕ). IsClearAs k header whole p) same s))
    (λ p s. subst (λ (k : List ℕ). IsClearAs k header whole p) (sym same) (from_clear key peer buffers header whole turn p turned turn_is s))
    c.open_clear-found.ensures in
    answers _ _ (finds_from Altered (SpeltClear key peer buffers) c.open_clear-found.result c.take.result found c.take.ensures)
