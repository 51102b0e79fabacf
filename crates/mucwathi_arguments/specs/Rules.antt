-- What clap reads of the table of commands.
use Rattle.std.specs.Borrow.{Bor}
use Rattle.std.specs.List.{flat_map}
use Rattle.std.specs.Prelude.{◌≡◌, ◌++◌, List, false, map}
use Rattle.clap.specs.Walk.{is_empty}
use Rattle.clap.specs.Words.{App, Rule, Shape, Text}
use Rattle.clap.specs.declared.builder.Command.{Command}
use Rattle.clap.specs.declared.builder.Command.TheViews.{out-Command}
use Rattle.mucwathi_arguments.specs.Offered.{command, flag, many, needed, one, valued}
use Rattle.mucwathi_arguments.specs.declared.offers.Choice.{Choice}
use Rattle.mucwathi_arguments.specs.declared.offers.Offer.{Offer}
use Rattle.mucwathi_arguments.specs.declared.offers.Shape.TheVariants as shape
use Rattle.mucwathi_arguments.specs.declared.offers.Shape.{Shape as Behind}

-- a word, with what stands behind it, or a file
abbrev pub shaped : Behind → Text → Rule
shaped shape.Flag name = flag name
shaped (shape.Value shown) name = valued name
shaped (shape.File shown) name = one name
shaped (shape.Needed shown) name = needed name
shaped (shape.Files shown) name = many name

-- ... which may go with all others, or not with some
abbrev pub rule_for : Choice → Rule
rule_for c = record (shaped c.shape c.name.now) { is_free = is_empty c.apart.now }

abbrev pub rules_in : List (Bor (List Choice)) → List Rule
rules_in = flat_map (λ choices. map rule_for choices.now)

abbrev pub command_for : Offer → Shape
command_for o = command o.name.now (rules_in o.choices.now)

-- so many more words
abbrev pub with_rules : App → List Rule → App
with_rules a rules = record a { top = record a.top { rules = a.top.rules ++ rules } }

-- nothing in a command is for the commands below it, too
abbrev pub IsLocal : Command → Type 0
IsLocal c = (out-Command c).has_globals ≡ false
