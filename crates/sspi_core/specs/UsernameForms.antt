-- How names of users are kept.
use Rattle.std.specs.Prelude.{◌≡◌, ◌+◌, take, drop, length, IsTrue}
use Rattle.sspi_core.specs.declared.username.Form.{Form}
use Rattle.sspi_core.specs.declared.username.Form.TheVariants.{UserPrincipal as WholeText, DownLevel as Parts}
use Rattle.sspi_core.specs.Usernames.{UserName, UserPrincipal, DownLevel, is_user_name, upn_text}

abbrev pub name_of : Form → UserName
name_of (WholeText text place) = UserPrincipal (take place text) (drop (place + 1) text)
name_of (Parts account domain) = DownLevel account domain

-- the `@` is at its place, and the parts are a name
abbrev pub IsWhole : Form → Type 0
IsWhole (WholeText text place) = (text ≡ upn_text (take place text) (drop (place + 1) text))
    × IsTrue (is_user_name (UserPrincipal (take place text) (drop (place + 1) text)))
IsWhole (Parts account domain) = IsTrue (is_user_name (DownLevel account domain))

-- the form of a name
abbrev pub form_of : UserName → Form
form_of (UserPrincipal account suffix) = WholeText (upn_text account suffix) (length account)
form_of (DownLevel account domain) = Parts account domain
