use Rattle.std.proofs.Common.{◌≡◌, ◌-◌, ◌++◌, ℕ, List, length, take, drop, sym, ap, ap₂, subst, ◌∙◌, arith}
use Rattle.krb_crypto.specs.declared.suite.CipherSuite.{CipherSuite}
use Rattle.krb_crypto.specs.SealingPair.{SealingPair, sealing_pair}
use Rattle.krb_crypto.specs.Suite.{key_size}
use Rattle.sspi_core.specs.declared.cause.Cause.TheVariants.{Altered}
use Rattle.sspi_core.proofs.Chain.{answers, finds_from}
use Rattle.krb_context.specs.declared.kept.Kept.{Kept}
use Rattle.krb_context.specs.Header.{rrc_of}
use Rattle.krb_context.specs.Parties.{keys_of}
use Rattle.krb_context.specs.Spelled.{spelled}
use Rattle.krb_context.specs.Spelt.{IsSealedAs, Spelt, sealed_turn}
use Rattle.krb_context.proofs.TurnLemmas.{IsTurned, to_spelt, from_spelt, found_as}
use Rattle.krb_context.proofs.UnwrapLemmas.{sealed_long, count_is}
use Rattle.krb_context.proofs.headed.Headed.find_sealed.Goals as goal

pub sealed_turn-turn-requires : goal.sealed_turn-turn-requires
sealed_turn-turn-requires c =
    let least = sealed_long c.args.self.now.ec c.args.self.now.header.now (length c.args.self.now.text.now - 16) c.requires.sealed c.args.self.now.checked.count c.requires.long in
    omega (arith, least, c.body_len.ensures)

pub turned_body-requires : goal.turned_body-requires
turned_body-requires c = omega (arith, c.sealed_turn-turn.ensures.fits, c.body_len.ensures, c.args.self.now.checked.long)

pub take-requires : goal.take-requires
take-requires c = ap length c.as_slice-key.ensures ∙ c.args.self.now.checked.key_length ∙ ap (λ (s : CipherSuite). key_size s) (sym c.suite.ensures)

pub open_sealed-found-requires : goal.open_sealed-found-requires
open_sealed-found-requires c =
    let least = sealed_long c.args.self.now.ec c.args.self.now.header.now (length c.args.self.now.text.now - 16) c.requires.sealed c.args.self.now.checked.count c.requires.long in
    omega (arith, least, c.in_ok-whole.ensures.size)

pub returns : goal.returns
returns c =
    let params = c.args.self.now.params.now in
    let ec : ℕ = c.args.self.now.ec in
    let buffers = c.args.self.now.message.now in
    let peer = c.args.self.now.peer in
    let header : List ℕ = c.args.self.now.header.now in
    let whole : List ℕ = c.in_ok-whole.whole.items in
    let turn : ℕ = c.sealed_turn-turn.result in
    let keys : SealingPair = keys_of params c.args.self.now.key.now peer in
    let text : c.args.self.now.text.now ≡ spelled buffers = c.args.self.now.of_message in
    let same : c.deref.result.now.sealing ≡ keys =
    ap (λ (k : Kept). k.sealing) c.deref.ensures ∙ c.in_ok-kept.ensures ∙ ap (λ (k : List ℕ). sealing_pair c.suite.result k c.seal_usage.result) c.as_slice-key.ensures
    ∙ ap₂ (λ (s : CipherSuite) (u : ℕ). sealing_pair s c.args.self.now.key.now u) c.suite.ensures c.seal_usage.ensures in
    let len_is : c.body_len.result ≡ length (spelled buffers) - 16 = c.body_len.ensures ∙ ap (λ (s : List ℕ). length s - 16) text in
    let turned : IsTurned (spelled buffers) header whole turn =
    record {
      long = omega (arith, c.args.self.now.checked.long, ap length text);
      front = c.args.self.now.checked.front ∙ ap (take 16) text;
      fits = omega (arith, c.sealed_turn-turn.ensures.fits, len_is);
      back = c.in_ok-whole.ensures.body ∙ ap (λ (s : List ℕ). drop turn (drop 16 s) ++ take turn (drop 16 s)) text;
    } in
    let turn_is : turn ≡ sealed_turn ec (rrc_of header) (length (spelled buffers) - 16) =
    c.sealed_turn-turn.ensures.is ∙ ap₂ (λ (r n : ℕ). sealed_turn ec r n) c.rrc_of.ensures len_is in
    let found =
    found_as (λ v. v) (IsSealedAs c.deref.result.now.sealing ec header buffers whole) (Spelt keys peer ec buffers) c.open_sealed-found.result
    (λ p s.
    to_spelt keys peer ec buffers header whole turn p turned turn_is c.args.self.now.checked.token c.requires.sealed c.args.self.now.checked.side
    (count_is ec header c.requires.sealed c.args.self.now.checked.count)
    (subst (λ (k : SealingPair). IsSealedAs k ec header buffers whole p) same s))
    (λ p s. subst (λ (k : SealingPair). IsSealedAs k ec header buffers whole p) (sym same) (from_spelt keys peer ec buffers header whole turn p turned turn_is s))
    c.open_sealed-found.ensures in
    answers _ _ (finds_from Altered (Spelt keys peer ec buffers) c.open_sealed-found.result c.take-2.result found c.take-2.ensures)
