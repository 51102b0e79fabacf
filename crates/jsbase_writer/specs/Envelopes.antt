-- The JSON of a tree with its table of marks.
use Rattle.std.specs.Prelude.{◌≡◌, ◌≤◌, ℕ, List, [], ◌∷◌, ◌++◌, map, codes, Bool, false, IsTrue, None, Ok}
use Rattle.std.specs.List.{list_all}
use Rattle.json.specs.Json.{Json, array, object, no_members, member}
use Rattle.json.specs.Print.{print}
use Rattle.json.specs.Tree.{depth, json_tokens}
use Rattle.json.specs.Value.{items_of}
use Rattle.swc_tree_marks.specs.Globals.{Table}
use Rattle.swc_tree_node.specs.declared.node.Node.{Node}
use Rattle.swc_tree_node.specs.declared.kind.Class.{Class}
use Rattle.swc_tree_node.specs.declared.slot.Content.TheVariants as content
use Rattle.swc_tree_node.specs.declared.slot.Slot.TheVariants as slot
use Rattle.swc_tree_node.specs.Fits.{Fits}
use Rattle.jsbase_form.specs.Leaves.{is_marked}
use Rattle.jsbase_form.specs.Known.{MarksKnown, marks_short}
use Rattle.jsbase_form.specs.Writing.{json, natural, numbers_json}
use Rattle.jsbase_reader.specs.Envelopes.{envelope_in_text, max_depth}

-- a mark's number and its parent's
abbrev pub row_json : ℕ × ℕ → Json
row_json row = numbers_json (row.0 ∷ row.1 ∷ [])

abbrev pub table_json : Table → Json
table_json table = array (items_of (map row_json table))

abbrev pub envelope_json : Table → ℕ → Node → ℕ → Json
envelope_json table top tree unresolved =
    object (member (codes "marks") (table_json table)
    (member (codes "top") (natural top)
    (member (codes "tree") (json tree)
    (member (codes "unresolved") (natural unresolved) no_members))))

-- the numbers of the marks and of their parents have 32 bits
abbrev pub table_short : Table → Bool
table_short = list_all (λ row. marks_short (row.0 ∷ row.1 ∷ []))

-- the text of a value, without spaces
abbrev pub text_of : Json → List ℕ
text_of d = print (json_tokens d)

-- one line
abbrev pub envelope_text : Table → ℕ → Node → ℕ → List ℕ
envelope_text table top tree unresolved = text_of (envelope_json table top tree unresolved) ++ 10 ∷ []

-- The text reads as the envelope, with every option false or not said, whatever class its tree fits. The marks have to be known, and
-- arrays and objects to nest no deeper than a reader goes.
abbrev pub ReadsBack : List ℕ → Table → ℕ → Node → ℕ → Type 0
ReadsBack text table top tree unresolved = (class : Class) → Fits tree (slot.One (content.Node class)) → MarksKnown table tree → IsTrue (is_marked table top) → IsTrue (is_marked table unresolved)
    → depth (envelope_json table top tree unresolved) ≤ max_depth
    → envelope_in_text class text ≡ Ok (record { globals = table; unresolved = unresolved; top = top; keep_class_names = false; ignore_eval = false; keep_top = None; tree = tree })
