-- What stands round a node, as the code keeps it.
use Rattle.std.specs.Prelude.{Bool, true, false, ◌||◌}
use Rattle.swc_tree_grammar.specs.Grammar.{Context as Context'}
use Rattle.text_derives.specs.declared.context.Context.{Context}

-- as the grammar has it
abbrev pub context_of : Context → Context'
context_of c = record { with_in = c.with_in; strict = c.strict }

abbrev pub inside : Context → Context
inside c = record { with_in = true; strict = c.strict }

abbrev pub outside : Context → Context
outside c = record { with_in = false; strict = c.strict }

abbrev pub strictly : Bool → Context → Context
strictly b c = record { with_in = true; strict = c.strict || b }

-- that of a whole program
abbrev pub whole : Context
whole = record { with_in = true; strict = false }
