-- The parts of a name, as they are lent.
use Rattle.std.specs.Prelude.{◌≡◌}
use Rattle.std.specs.Option.{option_copied}
use Rattle.sspi_core.specs.declared.username.UsernameParts.{UsernameParts}
use Rattle.sspi_core.specs.declared.username.UsernameParts.TheVariants.{UserPrincipalName, DownLevelLogonName}
use Rattle.sspi_core.specs.Usernames.{UserName, UserPrincipal, DownLevel, upn_text}

-- the name that the parts show
abbrev pub shown : UsernameParts → UserName
shown (UserPrincipalName p) = UserPrincipal p.account_name.now p.suffix.now
shown (DownLevelLogonName p) = DownLevel p.account_name.now (option_copied p.netbios_domain)

-- a user principal name shows its whole text too
abbrev pub ShowsWhole : UsernameParts → Type 0
ShowsWhole (UserPrincipalName p) = p.upn.now ≡ upn_text p.account_name.now p.suffix.now
ShowsWhole (DownLevelLogonName p) = Unit {0}
