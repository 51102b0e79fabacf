-- The commands, and what may stand behind their names.
use Rattle.std.specs.Prelude.{◌++◌, List, [], ◌∷◌, Some, codes, false, fold, true}
use Rattle.clap.specs.Lexer.{usize_max}
use Rattle.clap.specs.Simple.{new_shape}
use Rattle.clap.specs.Words.{App, Rule, Shape, Text, new_app, new_rule, with_subcommand}
use Rattle.clap.specs.declared.builder.ArgAction.TheVariants.{Append, Set, SetTrue}

-- `--module`
abbrev pub flag : Text → Rule
flag name = record (new_rule name) { long = Some name; action = Some SetTrue }

-- `--out FOLDER`
abbrev pub valued : Text → Rule
valued name = record (new_rule name) { long = Some name; value_names = 1; action = Some Set }

-- a file, which may be left out or not, and any number of files
abbrev pub one : Text → Rule
one name = record (new_rule name) { value_names = 1; action = Some Set }

abbrev pub needed : Text → Rule
needed name = record (one name) { required = true }

abbrev pub many : Text → Rule
many name = record (new_rule name) { value_names = 1; range = Some (record { start_inclusive = 0; end_inclusive = usize_max }); action = Some Append }

-- it does not go with some others
abbrev pub apart : Rule → Rule
apart r = record r { is_free = false }

abbrev pub goals : List Rule
goals = apart (flag (codes "module")) ∷ flag (codes "script") ∷ []

abbrev pub forms : List Rule
forms = apart (flag (codes "marks")) ∷ flag (codes "from-json") ∷ flag (codes "json") ∷ []

-- how programs are written, where to, or what is told in their place
abbrev pub writing : List Rule
writing = apart (flag (codes "print")) ∷ apart (flag (codes "compact")) ∷ apart (flag (codes "in-place")) ∷ valued (codes "out") ∷ apart (flag (codes "list")) ∷ apart (valued (codes "source-map")) ∷ []

abbrev pub rewriting : List Rule
rewriting = goals ++ writing ++ forms ++ many (codes "file") ∷ []

-- what goes with names that are given anew
abbrev pub naming : List Rule
naming = flag (codes "keep-class-names") ∷ flag (codes "ignore-eval") ∷ apart (flag (codes "explain")) ∷ []

abbrev pub tops : List Rule
tops = apart (flag (codes "keep-top")) ∷ flag (codes "mangle-top") ∷ []

abbrev pub judging : List Rule
judging = flag (codes "keep-top") ∷ flag (codes "any-spelling") ∷ needed (codes "before") ∷ needed (codes "after") ∷ []

-- a command, with what may stand behind its name
abbrev pub command : Text → List Rule → Shape
command name rules = record (new_shape name) { rules = rules }

abbrev pub commands : List Shape
commands = command (codes "chain") (rewriting ++ naming)
    ∷ command (codes "mangle") (rewriting ++ naming ++ tops)
    ∷ command (codes "hygiene") (rewriting ++ naming)
    ∷ command (codes "fix") rewriting
    ∷ command (codes "unparen") rewriting
    ∷ command (codes "judge") (goals ++ judging)
    ∷ command (codes "names") (goals ++ one (codes "file") ∷ [])
    ∷ command (codes "resolve") (goals ++ one (codes "file") ∷ forms)
    ∷ command (codes "show") (goals ++ one (codes "file") ∷ [])
    ∷ []

-- the program has a version, and a command has to be named
abbrev pub unoffered : App
unoffered = record (new_app (codes "mucwathi")) { top = record (new_shape (codes "mucwathi")) { has_version = true; subcommand_required = true; arg_required_else_help = true } }

abbrev pub offered : App
offered = fold with_subcommand unoffered commands
