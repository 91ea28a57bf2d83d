use Rattle.std.proofs.Common.{◌≡◌, ℕ, List, ◌++◌, ◌∷◌, [], map, length, None, Some, option_copied, sym, ◌∙◌, ap, arith, Bor}
use Rattle.std.specs.Prelude.{◌==◌}
use Rattle.std.specs.List.{filter_map, slice_split}
use Rattle.std.proofs.lemmas.Iterator.Consumers.{YieldsList-turn, YieldsList-end}
use Rattle.std.proofs.lemmas.Iterator.Splits.{YieldsList-from_str_split}
use Rattle.std.proofs.lemmas.List.{take_all, map-append, append-nil}
use Rattle.krb_conf.specs.Env.{named}
use Rattle.krb_conf.proofs.FileLemmas.{one_more_path}
use Rattle.krb_conf.proofs.env.files_of.Goals as goal

pub loop-path-preserved-in_default : goal.loop-path-preserved-in_default
loop-path-preserved-in_default c =
    let turn = YieldsList-turn (YieldsList-from_str_split 58 c.args.paths.now (omega arith) (cc) (cc) (cc)) c.loop-path.yielded _ c.loop-path.yielded_by _ _ c.in-Some.path c.in-Some.is c.next.ensures.steps in (
      tt,
      tt,
      one_more_path (λ path. named path c.args.files.now) (slice_split (λ octet. octet == 58) c.args.paths.now) c.loop-path.yielded c.in-Some.path None _ _ turn
          (sym c.lookup.ensures ∙ ap option_copied c.in_default.is) c.loop-path.invariant.2 (sym (append-nil _)),
    )

pub loop-path-preserved : goal.loop-path-preserved
loop-path-preserved c =
    let turn = YieldsList-turn (YieldsList-from_str_split 58 c.args.paths.now (omega arith) (cc) (cc) (cc)) c.loop-path.yielded _ c.loop-path.yielded_by _ _ c.in-Some.path c.in-Some.is c.next.ensures.steps in (
      tt,
      tt,
      one_more_path (λ path. named path c.args.files.now) (slice_split (λ octet. octet == 58) c.args.paths.now) c.loop-path.yielded c.in-Some.path (Some c.in-Some-lookup.file.now) _ _ turn
          (sym c.in-Some-lookup.ensures) c.loop-path.invariant.2
          (ap (map (λ (file : Bor (List ℕ)). file.now)) c.in_ok-push.ensures.items ∙ map-append (λ (file : Bor (List ℕ)). file.now) c.loop-path.found.items (c.in-Some-lookup.file ∷ [])),
    )

pub returns : goal.returns
returns c =
    let end = YieldsList-end (YieldsList-from_str_split 58 c.args.paths.now (omega arith) (cc) (cc) (cc)) c.loop-path.yielded _ c.loop-path.yielded_by _ _ c.in-None.is c.next.ensures.steps in
    c.loop-path.invariant.2
    ∙ ap (filter_map (λ path. named path c.args.files.now)) (take_all (length c.loop-path.yielded) (slice_split (λ octet. octet == 58) c.args.paths.now) (omega (arith, end.1)))
