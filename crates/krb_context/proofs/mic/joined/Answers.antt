use Rattle.std.proofs.Common.{ℕ, List, ◌++◌, length, replicate, ap, ap₂, ◌∙◌}
use Rattle.std.proofs.lemmas.List.{append-nil}
use Rattle.krb_context.proofs.InPlaceLemmas.{more_written}
use Rattle.krb_context.proofs.mic.joined.Goals as goal

pub returns : goal.returns
returns c =
    let header : List ℕ = c.copy_from_slice.new.self in
    let code : List ℕ = c.copy_from_slice-2.new.self in
    let zeros : List ℕ = replicate 28 0 in
    more_written zeros header code 16 12 (ap length c.copy_from_slice.ensures.after ∙ c.told-header) (ap length c.copy_from_slice-2.ensures.after ∙ c.told-code)
    ∙ append-nil (header ++ code) ∙ ap₂ (λ (u v : List ℕ). u ++ v) c.copy_from_slice.ensures.after c.copy_from_slice-2.ensures.after
