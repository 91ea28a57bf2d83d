use Rattle.std.proofs.Common.{◌≡◌, ◌≤◌, length, take}
use Rattle.std.specs.Prelude.{◌==◌, fold}
use Rattle.std.specs.List.{slice_split}
use Rattle.krb_conf.specs.Ascii.{line_feed}
use Rattle.krb_conf.specs.Krb5Conf.{Reading, read_line, nothing_read}
use Rattle.krb_conf.specs.Seen.{place_of, depth_of}
use Rattle.krb_conf.proofs.krb5_conf.Krb5Conf.new_from_data.Given as goal

abbrev pub invariant-loop-whole : goal.invariant-loop-whole
invariant-loop-whole l =
    (goal.iterator-loop-whole).can_next l.whole-iterator × (goal.iterator-loop-whole).is_finite l.whole-iterator × (fold read_line nothing_read (take (length l.yielded) (slice_split (λ octet. octet == line_feed) l.text)) ≡ record { place = place_of l.place; values = l.values.items }) × (depth_of l.place ≤ length l.yielded)
