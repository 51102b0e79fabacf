-- The envelope that a JSON value or a text stands for, or the path to its first fault.
use Rattle.std.specs.Prelude.{List, ℕ, codes, Bool, false, if◌then◌else◌, Option, Some, None, option_and_then, Ok, Err, []}
use Rattle.std.specs.Str.{is_utf8}
use Rattle.json.specs.Json.{Json, null, Members, value, if_last}
use Rattle.json.specs.Find.{as_object}
use Rattle.json.specs.Lex.{tokens}
use Rattle.swc_tree_node.specs.declared.kind.Class.{Class}
use Rattle.swc_tree_node.specs.declared.node.Node.{Node}
use Rattle.swc_tree_node.specs.declared.slot.Content.TheVariants as content
use Rattle.swc_tree_node.specs.declared.slot.Slot.TheVariants as slot
use Rattle.swc_tree_marks.specs.Globals.{Table}
use Rattle.jsbase_form.specs.Reads.{Read, ◌>>=◌, at, found, key}
use Rattle.jsbase_form.specs.Leaves.{mark_at, flag_at}
use Rattle.jsbase_form.specs.Tables.{table_at}
use Rattle.jsbase_form.specs.Trees.{seen, value_of}
use Rattle.jsbase_reader.specs.declared.envelope.Envelope.{Envelope}

-- an option that is absent or null is false
abbrev pub option_at : Json → Read Bool
option_at null = Ok false
option_at d = flag_at d

-- an option that is absent or null is not said
abbrev pub said_at : Json → Read (Option Bool)
said_at null = Ok None
said_at d = flag_at d >>= (λ flag. Ok (Some flag))

-- the mark of names that no scope declares, and that of the outermost scope
abbrev pub marks_in : Table → Members → Read (ℕ × ℕ)
marks_in table ms = at (key (codes "unresolved")) (mark_at table (value_of (codes "unresolved") ms)) >>= (λ unresolved.
    at (key (codes "top")) (mark_at table (value_of (codes "top") ms)) >>= (λ top.
    Ok (unresolved, top)))

-- whether classes keep their names, whether `eval` is ignored, and whether names of the program's own scope are to stay, if it is said
abbrev pub options_in : Members → Read (Bool × Bool × Option Bool)
options_in ms = at (key (codes "keepClassNames")) (option_at (value_of (codes "keepClassNames") ms)) >>= (λ keep_class_names.
    at (key (codes "ignoreEval")) (option_at (value_of (codes "ignoreEval") ms)) >>= (λ ignore_eval.
    at (key (codes "keepTop")) (said_at (value_of (codes "keepTop") ms)) >>= (λ keep_top.
    Ok (keep_class_names, ignore_eval, keep_top))))

-- the envelope round a tree, of its table of marks and of its other members
abbrev pub envelope_around : Table → Members → Node → Read Envelope
envelope_around table ms tree = marks_in table ms >>= (λ marks.
    options_in ms >>= (λ options.
    Ok (record { globals = table; unresolved = marks.0; top = marks.1; keep_class_names = options.0; ignore_eval = options.1; keep_top = options.2; tree = tree })))

unfoldable pub envelope_of : Class → Members → Read Envelope
envelope_of class ms = at (key (codes "marks")) (table_at (value_of (codes "marks") ms)) >>= (λ table.
    marks_in table ms >>= (λ marks.
    options_in ms >>= (λ options.
    at (key (codes "tree")) (seen table (value_of (codes "tree") ms) (slot.One (content.Node class))) >>= (λ tree.
    Ok (record { globals = table; unresolved = marks.0; top = marks.1; keep_class_names = options.0; ignore_eval = options.1; keep_top = options.2; tree = tree })))))

-- the envelope whose tree is of the class
abbrev pub envelope_in : Class → Json → Read Envelope
envelope_in class d = found (as_object d) >>= envelope_of class

-- how deep arrays and objects may nest
abbrev pub max_depth : ℕ
max_depth = 127

-- the JSON value of a text
abbrev pub document : List ℕ → Option Json
document text = option_and_then (λ p. if_last p.0 p.1) (value max_depth (tokens text))

-- the JSON value of bytes; those that are not UTF-8 have none
abbrev pub text_in : List ℕ → Read Json
text_in bytes = if is_utf8 bytes then found (document bytes) else Err []

-- the envelope of a text
abbrev pub envelope_in_text : Class → List ℕ → Read Envelope
envelope_in_text class bytes = text_in bytes >>= envelope_in class
