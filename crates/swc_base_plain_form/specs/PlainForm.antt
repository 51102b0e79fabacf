-- The plain form of a tree: its literals stand by what they are, however they are spelled.
use Rattle.std.specs.Prelude.{ℕ, Bool, true, false, ◌&&◌, List, [], ◌∷◌, map, is_some, if◌then◌else◌}
use Rattle.swc_tree_node.specs.declared.kind.Kind.{Kind}
use Rattle.swc_tree_node.specs.declared.kind.Kind.TheVariants as kind
use Rattle.swc_tree_node.specs.declared.node.Node.{Node, Absent, Text, List as Many, Tree, out-Node, roll-Node, fold-Node, map-Node}
use Rattle.swc_tree_node.specs.declared.node.Node.TheOpen.{Node-F}
use Rattle.swc_tree_scoping.specs.Places.{string_of}
use Rattle.swc_base_plain_numbers.specs.Numbers.{plain_big, plain_number}

-- a tree as it is, and its plain form: right in a program or a function, or elsewhere
pub record Forms : Type 0 where
  pub whole : Node
  pub plain : Bool → Node

-- a program or what has a function's body, or that body: the strings that lead its statements are directives (11.2.1)
abbrev pub holds_statements : Bool → Kind → Bool
holds_statements b kind.Module = true
holds_statements b kind.Script = true
holds_statements b kind.Function = true
holds_statements b kind.ArrowExpr = true
holds_statements b kind.Constructor = true
holds_statements b kind.GetterProp = true
holds_statements b kind.SetterProp = true
holds_statements b kind.BlockStmt = b
holds_statements b _ = false

-- a statement that is a string
abbrev pub is_string : Node → Bool
is_string t = is_some (string_of t)

-- the strings that lead a list, if they are directives, stay as they are
abbrev pub parts : (lead within : Bool) → List Forms → List Node
parts lead within [] = []
parts lead within (f ∷ fs) = if lead && is_string f.whole then f.whole ∷ parts true within fs else map (λ g. g.plain within) (f ∷ fs)

abbrev pub respelled_in : (List ℕ → List ℕ) → Node → Node-F Node → Node
respelled_in spell t (Node-F.Text x) = Text (spell x)
respelled_in spell t _ = t

abbrev pub respelled : (List ℕ → List ℕ) → Node → Node
respelled spell t = respelled_in spell t (out-Node t)

-- a string stands by its value alone (12.9.4), a number and a big integer by its exact value (12.9.3)
abbrev pub literal : Kind → List Node → List Node
literal kind.Str (span ∷ value ∷ raw ∷ []) = span ∷ value ∷ Absent ∷ []
literal kind.Number (span ∷ text ∷ []) = span ∷ respelled plain_number text ∷ []
literal kind.BigInt (span ∷ text ∷ []) = span ∷ respelled plain_big text ∷ []
literal _ ts = ts

abbrev pub plain_in : Bool → Node-F Forms → Node
plain_in b (Node-F.List fs) = Many (parts b false fs)
plain_in b (Node-F.Tree k fs) = Tree k (literal k (parts false (holds_statements b k) fs))
plain_in b x = roll-Node (map-Node Forms Node (λ f. f.whole) x)

abbrev pub forms_step : Node-F Forms → Forms
forms_step x = record { whole = roll-Node (map-Node Forms Node (λ f. f.whole) x); plain = λ b. plain_in b x }

abbrev pub forms : Node → Forms
forms = fold-Node Forms forms_step

-- the plain form of a program
abbrev pub plain_form : Node → Node
plain_form t = (forms t).plain false
