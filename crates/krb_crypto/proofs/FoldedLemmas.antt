-- The tables of folded constants hold what the n-fold gives (RFC 3961, sections 5.1 and 5.3).
use Rattle.std.proofs.Common.{◌≡◌, ℕ, List, map, get_or, refl, ap, ◌∙◌, arith}
use Rattle.std.proofs.lemmas.List.FromFn.{get_or-map-range_with_len}
use Rattle.std.specs.List.{range_with_len}
use Rattle.std.specs.Int.{w128, to_be_bytes}
use Rattle.krb_crypto.specs.Fold.{copies_bit, number_from, sum_of_pieces, n_fold}
use Rattle.krb_crypto.specs.Suite.{usage_constant, AreFolds}
use Rattle.krb_crypto.specs.declared.folded.TheConstants.{ENCRYPTION_FOLDS, INTEGRITY_FOLDS, CHECKSUM_FOLDS}

-- the five pieces of a usage and an octet, added
abbrev pub fold_of : ℕ → ℕ → ℕ
fold_of octet usage = sum_of_pieces (usage_constant usage octet) 5

-- ---- each table, computed entry by entry

ENCRYPTION_FOLDS_is : ENCRYPTION_FOLDS ≡ map (fold_of 0xaa) (range_with_len 0 26)
unfolding sum_of_pieces number_from copies_bit
ENCRYPTION_FOLDS_is = refl

INTEGRITY_FOLDS_is : INTEGRITY_FOLDS ≡ map (fold_of 0x55) (range_with_len 0 26)
unfolding sum_of_pieces number_from copies_bit
INTEGRITY_FOLDS_is = refl

CHECKSUM_FOLDS_is : CHECKSUM_FOLDS ≡ map (fold_of 0x99) (range_with_len 0 26)
unfolding sum_of_pieces number_from copies_bit
CHECKSUM_FOLDS_is = refl

-- ---- an entry of a table, as octets

folds_are : (octet : ℕ) (folds : List ℕ) → folds ≡ map (fold_of octet) (range_with_len 0 26) → AreFolds octet folds
unfolding n_fold
folds_are octet folds is = record {
  at = λ u h. ap (to_be_bytes w128) (ap (λ (l : List ℕ). get_or l u 0) is ∙ get_or-map-range_with_len (fold_of octet) 0 26 u u 0 h (omega arith));
}

pub encryption_folds : AreFolds 0xaa ENCRYPTION_FOLDS
encryption_folds = folds_are 0xaa ENCRYPTION_FOLDS ENCRYPTION_FOLDS_is

pub integrity_folds : AreFolds 0x55 INTEGRITY_FOLDS
integrity_folds = folds_are 0x55 INTEGRITY_FOLDS INTEGRITY_FOLDS_is

pub checksum_folds : AreFolds 0x99 CHECKSUM_FOLDS
checksum_folds = folds_are 0x99 CHECKSUM_FOLDS CHECKSUM_FOLDS_is
