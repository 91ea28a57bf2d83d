use Rattle.std.proofs.Common.{◌≡◌, take}
use Rattle.krb_keys.specs.Listing.{list_text}
use Rattle.krb_keys.proofs.listing.list_text.Given as goal

abbrev pub invariant-loop-entry : goal.invariant-loop-entry
invariant-loop-entry l = l.text.items ≡ list_text (take l.entry-index l.entries)
