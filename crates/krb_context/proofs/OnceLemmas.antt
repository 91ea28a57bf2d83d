-- A message has one answer.
use Rattle.std.proofs.Common.{◌≡◌, ℕ, ◌+◌, ◌-◌, ◌%◌, ◌≤◌, Bool, true, false, List, length, sym, subst, ap, ap₂, ◌∙◌, arith}
use Rattle.std.specs.Prelude.{◌==◌, if◌then◌else◌}
use Rattle.std.specs.List.{slice_rotate_right}
use Rattle.krb_crypto.specs.SealingPair.{SealingPair}
use Rattle.sspi_core.specs.Buffer.{Buffer}
use Rattle.sspi_core.proofs.Once.{Once, then_once, finds_once, takes_once, holds_once, passes_once, gives_once}
use Rattle.krb_context.specs.declared.context.Kerberos.{Kerberos}
use Rattle.krb_context.specs.declared.params.EncryptionParams.{EncryptionParams}
use Rattle.krb_context.specs.Header.{rrc_of}
use Rattle.krb_context.specs.Spelled.{spelled}
use Rattle.krb_context.specs.Spelt.{sealed_turn, IsSealedAs, Spelt, IsClearAs, SpeltClear}
use Rattle.krb_context.specs.Unwraps.{Heads, SpeltBy, OpensBody, ReceivesMessage}
use Rattle.krb_context.proofs.OpenLemmas.{sealed_once}
use Rattle.krb_context.proofs.TurnLemmas.{halves, unrotated, clear_agrees}
use Rattle.krb_context.proofs.UnwrapLemmas.{length-turned, length-spelt, length-spelt_clear, body_size}

turn_fits : (ec rrc n : ℕ) → 44 + ec ≤ n → sealed_turn ec rrc n ≤ n
turn_fits ec rrc n long =
    elim (rrc == 28) as (λ v. (if v then 28 + ec else rrc % n) ≤ n) [ true ↦ omega arith | false ↦ omega arith ]

-- at most one text is sealed in given buffers
pub spelt_once : (keys : SealingPair) (peer : Bool) (ec : ℕ) (buffers : List Buffer) (p q : List ℕ) → Spelt keys peer ec buffers p → Spelt keys peer ec buffers q → p ≡ q
spelt_once keys peer ec buffers p q s t =
    let one = halves (spelled buffers) s.header s.body s.text s.header_size in
    let two = halves (spelled buffers) t.header t.body t.text t.header_size in
    let h : s.header ≡ t.header = one.0 ∙ sym two.0 in
    let b : s.body ≡ t.body = one.1 ∙ sym two.1 in
    let turn : ℕ = sealed_turn ec (rrc_of t.header) (length t.body) in
    let size : length t.body ≡ length (spelled buffers) - 16 = body_size (spelled buffers) t.header t.body t.text t.header_size in
    let fits : turn ≤ length t.body = turn_fits ec (rrc_of t.header) (length t.body) (omega (arith, size, length-spelt keys peer ec buffers q t)) in
    let k : sealed_turn ec (rrc_of s.header) (length s.body) ≡ turn = ap₂ (λ (x y : List ℕ). sealed_turn ec (rrc_of x) (length y)) h b in
    let same : s.whole ≡ t.whole =
    unrotated s.whole t.body turn fits (sym b ∙ s.is ∙ ap (slice_rotate_right s.whole) k) ∙ sym (unrotated t.whole t.body turn fits t.is) in
    let moved : IsSealedAs keys ec t.header buffers t.whole p =
    subst (λ (x : List ℕ). IsSealedAs keys ec x buffers t.whole p) h (subst (λ (w : List ℕ). IsSealedAs keys ec s.header buffers w p) same s.sealed_as) in
    sealed_once keys ec t.header buffers buffers t.whole p q moved t.sealed_as

-- at most one text is in the clear in given buffers
pub spelt_clear_once : (key : List ℕ) (peer : Bool) (buffers : List Buffer) (p q : List ℕ) → SpeltClear key peer buffers p → SpeltClear key peer buffers q → p ≡ q
spelt_clear_once key peer buffers p q s t =
    let one = halves (spelled buffers) s.header s.body s.text s.header_size in
    let two = halves (spelled buffers) t.header t.body t.text t.header_size in
    let h : s.header ≡ t.header = one.0 ∙ sym two.0 in
    let b : s.body ≡ t.body = one.1 ∙ sym two.1 in
    let turn : ℕ = rrc_of t.header % length t.body in
    let size : length t.body ≡ length (spelled buffers) - 16 = body_size (spelled buffers) t.header t.body t.text t.header_size in
    let long : 12 ≤ length t.body = omega (arith, size, (length-spelt_clear key peer buffers q t).0) in
    let fits : turn ≤ length t.body = omega (arith, long) in
    let k : rrc_of s.header % length s.body ≡ turn = ap₂ (λ (x y : List ℕ). rrc_of x % length y) h b in
    let same : s.whole ≡ t.whole =
    unrotated s.whole t.body turn fits (sym b ∙ s.is ∙ ap (slice_rotate_right s.whole) k) ∙ sym (unrotated t.whole t.body turn fits t.is) in
    let w : length t.whole ≡ length t.body = sym (ap length t.is ∙ length-turned t.whole turn) in
    (clear_agrees key t.header t.whole p (omega (arith, w, long))
    (subst (λ (x : List ℕ). IsClearAs key x t.whole p) h (subst (λ (v : List ℕ). IsClearAs key s.header v p) same s.clear_as))).0
    ∙ sym (clear_agrees key t.header t.whole q (omega (arith, w, long)) t.clear_as).0

spelt_by_once : (sealed : Bool) (params : EncryptionParams) (key : List ℕ) (peer : Bool) (buffers : List Buffer) (p q : List ℕ)
    → SpeltBy sealed params key peer buffers p → SpeltBy sealed params key peer buffers q → p ≡ q
spelt_by_once true params key peer buffers p q s t = spelt_once _ peer params.ec buffers p q s t
spelt_by_once false params key peer buffers p q s t = spelt_clear_once _ peer buffers p q s t

heads_once : (params : EncryptionParams) (key : List ℕ) (peer : Bool) (text : List ℕ) → Once (Heads params key peer text)
unfolding Heads
heads_once params key peer text =
    then_once _ _ (takes_once _ _)
    (λ header. then_once _ _ (holds_once _ _) (λ a. then_once _ _ (holds_once _ _) (λ b. then_once _ _ (holds_once _ _) (λ c. gives_once _))))

opens_once : (params : EncryptionParams) (key : List ℕ) (peer : Bool) (buffers : List Buffer) (plain : Buffer) (text header : List ℕ) → Once (OpensBody params key peer buffers plain text header)
unfolding OpensBody
opens_once params key peer buffers plain text header =
    then_once _ _ (holds_once _ _) (λ a. then_once _ _ (holds_once _ _) (λ b. finds_once _ _ (spelt_by_once _ params key peer buffers)))

-- the checks give one answer
pub unwraps_once : (context : Kerberos) (peer : Bool) (buffers : List Buffer) (text : List ℕ) → Once (ReceivesMessage context peer buffers text)
unfolding ReceivesMessage
unwraps_once context peer buffers text =
    then_once _ _ (takes_once _ _)
    (λ key. then_once _ _ (takes_once _ _)
    (λ plain. then_once _ _ (heads_once _ key _ text)
    (λ header. then_once _ _ (opens_once _ key _ buffers plain text header) (λ opened. then_once _ _ (passes_once _) (λ d. gives_once opened)))))
