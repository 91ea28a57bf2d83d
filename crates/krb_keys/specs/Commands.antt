-- The commands that the words of the command line name.
use Rattle.std.specs.Prelude.{ℕ, List, [], ◌∷◌, codes, Option, Some, None, option_map, if◌then◌else◌}
use Rattle.std.specs.Str.{bytes_eq}
use Rattle.krb_text.specs.Decimals.{u32_of}
use Rattle.krb_keys.specs.declared.commands.Command.{Command as ReadCommand}
use Rattle.krb_keys.specs.declared.commands.Command.TheVariants as commands

pub data Command : Type 0 where
  Help : Command
  Version : Command
  Listing : Command
  KeyLines : List ℕ → ℕ → Command

abbrev pub command_view : ReadCommand → Command
command_view commands.Help = Help
command_view commands.Version = Version
command_view commands.Listing = Listing
command_view (commands.KeyLines realm acceptor) = KeyLines realm.now acceptor

-- a command that is one word
abbrev pub word_of : List ℕ → Option Command
word_of word =
    if bytes_eq word (codes "--help") then Some Help else
    if bytes_eq word (codes "-h") then Some Help else
    if bytes_eq word (codes "--version") then Some Version else
    if bytes_eq word (codes "-V") then Some Version else
    if bytes_eq word (codes "list") then Some Listing else None

-- lines <realm> <acceptor>: the acceptor is a decimal number of 32 bits without sign or leading zeros
abbrev pub command_of : List (List ℕ) → Option Command
command_of (word ∷ []) = word_of word
command_of (word ∷ realm ∷ acceptor ∷ []) =
    if bytes_eq word (codes "lines") then option_map (λ number. KeyLines realm number) (u32_of acceptor) else None
command_of _ = None
