use Rattle.std.proofs.Common.{◌≡◌, map, take, length}
use Rattle.std.specs.Prelude.{◌==◌}
use Rattle.std.specs.List.{filter_map, slice_split}
use Rattle.krb_conf.specs.Ascii.{colon}
use Rattle.krb_conf.specs.Env.{named}
use Rattle.krb_conf.proofs.env.files_of.Given as goal

abbrev pub invariant-loop-path : goal.invariant-loop-path
invariant-loop-path l =
    (goal.iterator-loop-path).can_next l.path-iterator × (goal.iterator-loop-path).is_finite l.path-iterator × (map (λ file. file.now) l.found.items ≡ filter_map (λ path. named path l.files) (take (length l.yielded) (slice_split (λ octet. octet == colon) l.fn.paths)))
