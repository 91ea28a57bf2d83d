use Rattle.std.proofs.Common.{◌≡◌, take, None}
use Rattle.std.specs.Prelude.{option_copied}
use Rattle.krb_ccache.specs.Options.{first_option}
use Rattle.krb_ccache.proofs.options.first_option.Given as goal

abbrev pub invariant-loop-credential : goal.invariant-loop-credential
invariant-loop-credential l = first_option l.wanted.client.now l.wanted.name.now (option_copied l.wanted.principal) (take l.credential-index l.credentials) ≡ None
