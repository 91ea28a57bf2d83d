-- The meaning of the reader's types.
use Rattle.std.specs.Prelude.{ℕ, List, Option, option_copied}
use Rattle.krb_conf.specs.Krb5Conf as conf
use Rattle.krb_conf.specs.declared.reader.Place.{Place}
use Rattle.krb_conf.specs.declared.reader.Place.TheVariants.{Outside, Within}
use Rattle.krb_conf.specs.declared.reader.Effect.{Effect}
use Rattle.krb_conf.specs.declared.reader.Effect.TheVariants.{Nothing, LeadsTo, Adds}

-- the place
abbrev pub place_of : Place → conf.Place
place_of Outside = conf.Outside
place_of (Within section) = conf.Within section.name.now (option_copied section.group) section.depth

-- the effect of a line
abbrev pub effect_of : Effect → conf.Effect
effect_of Nothing = conf.Nothing
effect_of (LeadsTo place) = conf.LeadsTo (place_of place)
effect_of (Adds r) = conf.Adds (conf.key r.section.now (option_copied r.group) r.name.now) r.value.now

-- how many braces are open
abbrev pub depth_of : Place → ℕ
depth_of Outside = 0
depth_of (Within section) = section.depth

-- how many are open at the place that an effect leads to, if it leads to one
abbrev pub depth_after : Effect → ℕ
depth_after Nothing = 0
depth_after (LeadsTo place) = depth_of place
depth_after (Adds r) = 0
