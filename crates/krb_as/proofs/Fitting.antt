-- Records that can be written.
use Rattle.std.proofs.Common.{ℕ, ◌≤◌, arith}
use Rattle.krb_der.specs.Layout.{Layout}
use Rattle.krb_requests.specs.Pieces.{Fits}

-- more room
pub fits_more : {A : Type 0} (layout : Layout A) (m n : ℕ) (value : A) → m ≤ n → Fits layout m value → Fits layout n value
fits_more layout m n value h fits = record { complete = fits.complete; short = let k = fits.short in omega (arith, h, k) }
