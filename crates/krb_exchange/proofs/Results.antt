-- A reply of a KDC has another tag than an error.
use Rattle.std.proofs.Common.{◌≡◌, ap}
use Rattle.krb_der.specs.Schema.{tag_of}
use Rattle.krb_der.specs.Layout.{Layout}
use Rattle.krb_exchange.specs.declared.krb_error.KrbError.{KrbError}
use Rattle.krb_exchange.specs.declared.result.KrbResult.TheVariants.{Ok, Err}
use Rattle.krb_exchange.specs.Layouts.{krb_error_layout}
use Rattle.krb_exchange.specs.Results.{HasOneResult}
use Rattle.krb_exchange.proofs.Spelled.{same_record, different_tags}

pub one_result_of : {A : Type 0} (layout : Layout A) → (tag_of layout.kind ≡ tag_of krb_error_layout.kind → ⊥) → HasOneResult layout
one_result_of {A} layout other octets (Ok x) (Ok y) s t = ap (λ (reply : A). Ok reply) (same_record layout x y octets s t)
one_result_of {A} layout other octets (Ok x) (Err y) s t = absurd (different_tags layout krb_error_layout x y octets other s t)
one_result_of {A} layout other octets (Err x) (Ok y) s t = absurd (different_tags layout krb_error_layout y x octets other t s)
one_result_of {A} layout other octets (Err x) (Err y) s t = ap (λ (error : KrbError). Err error) (same_record krb_error_layout x y octets s t)
