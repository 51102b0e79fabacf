-- What stands round a node, as the code keeps it, and what it says of names.
use Rattle.std.specs.Prelude.{ℕ, Bool, false, true, ◌||◌, List, if◌then◌else◌}
use Rattle.swc_tree_node.specs.declared.kind.Kind.{Kind}
use Rattle.swc_tree_node.specs.declared.kind.Kind.TheVariants as kind
use Rattle.swc_tree_grammar.specs.Writable.{Round as Round', is_bindable, is_digit, is_identifier_text, is_letter}
use Rattle.swc_base_writable_rules.specs.declared.round.Round.{Round}

-- as the definition keeps it
abbrev pub round_of : Round → Round'
round_of q = record { strict = q.strict; assigned = q.assigned }

-- that of a whole program
abbrev pub sloppy : Round
sloppy = record { strict = false; assigned = false }

abbrev pub strictly : Bool → Round → Round
strictly b q = record { strict = q.strict || b; assigned = false }

abbrev pub binding : Round → Round
binding q = record { strict = q.strict; assigned = false }

abbrev pub assigning : Round → Round
assigning q = record { strict = q.strict; assigned = true }

-- a byte may stand in a name behind its first
abbrev pub continues : ℕ → Bool
continues c = is_letter c || is_digit c

-- an identifier of that kind may have the text
abbrev pub name_sound : Kind → List ℕ → Round → Bool
name_sound kind.BindingIdent x q = if q.assigned then is_identifier_text x else is_bindable q.strict x
name_sound _ x q = is_identifier_text x
