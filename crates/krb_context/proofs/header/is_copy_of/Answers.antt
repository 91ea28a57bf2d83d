use Rattle.std.proofs.Common.{◌≡◌, Bool, true, false, ◌&&◌, take, drop, sym, refl, ◌∙◌, arith, length-drop}
use Rattle.std.proofs.lemmas.List.{take_rest, take_all}
use Rattle.std.specs.Cmp.Derive.{both_true}
use Rattle.krb_context.proofs.header.is_copy_of.Goals as goal

first_of : (a b : Bool) → (a && b) ≡ true → a ≡ true
first_of true b e = refl
first_of false b e = e

second_of : (a b : Bool) → (a && b) ≡ true → b ≡ true
second_of true b e = e
second_of false true e = refl
second_of false false e = e

pub returns : goal.returns
returns c =
    let whole : take 8 (drop 8 c.args.header.now) ≡ drop 8 c.args.header.now = take_all 8 (drop 8 c.args.header.now) (omega (arith, length-drop 8 c.args.header.now, c.told-header)) in (
      λ yes. record {
        size = c.requires;
        front = c.is_equal-front.ensures.0 (first_of c.is_equal-front.result c.is_equal-back.result yes);
        back = sym (take_rest c.args.copy.now 8) ∙ c.is_equal-back.ensures.0 (second_of c.is_equal-front.result c.is_equal-back.result yes) ∙ whole;
      },
      λ copy. both_true (c.is_equal-front.ensures.1 copy.front) (c.is_equal-back.ensures.1 (take_rest c.args.copy.now 8 ∙ copy.back ∙ sym whole)),
    )
