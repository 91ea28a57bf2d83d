use Rattle.std.proofs.Common.{refl, ◌≡◌, ◌+◌, ◌*◌, ◌/◌, length, sym, ◌∙◌, arith}
use Rattle.std.proofs.lemmas.List.{length-set}
use Rattle.krb_aes.specs.Aes.{first_words}
use Rattle.krb_aes.proofs.ScheduleLemmas.{first_key, first_words_whole, expanded_key, sizes_of, quarter_of}
use Rattle.krb_aes.proofs.expansion.round_keys.Goals as goal

pub load-init : goal.load-init
unfolding first_words
load-init c = (refl, refl)

pub load-preserved : goal.load-preserved
load-preserved c = (
  length-set c.load.keys c.load.round _ ∙ c.load.invariant.0,
  first_key c.args.key.now c.load.keys c.load.round _ c.load.invariant.0 (omega arith) c.load.invariant.1 c.octets_from.ensures,
)

pub expand-init : goal.expand-init
expand-init c = (
  c.load.invariant.0,
  omega arith,
  first_words_whole c.args.key.now _ (4 * c.load.round) _ _ (omega arith) (omega arith) c.load.invariant.1,
)

pub expand-preserved : goal.expand-preserved
expand-preserved c =
    let is = c.expand.invariant in (
      length-set c.expand.keys c.expand.round _ ∙ is.0,
      omega arith,
      expanded_key c.args.key.now c.expand.keys (length c.args.key.now / 16) c.expand.round _ is.0 (omega arith) (sizes_of c.args.key.now c.requires) is.1 is.2
          (c.next_key.ensures _ c.added_words-added.ensures),
    )

pub returns : goal.returns
returns c =
    let quarter = quarter_of c.args.key.now c.requires in
    let all : c.expand.round ≡ length c.args.key.now / 4 + 6 + 1 = omega (arith, quarter) in
    rw (all, sym quarter) at c.expand.invariant.2
