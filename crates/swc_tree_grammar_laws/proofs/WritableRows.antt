-- Which small trees can be written down.
use Rattle.std.proofs.Common.{◌≡◌, ℕ, List, [], ◌∷◌, true, false, codes, rules}
use Rattle.swc_tree_node.specs.declared.kind.Kind.TheVariants as kind
use Rattle.swc_tree_node.specs.declared.kind.Word.{Word as Word'}
use Rattle.swc_tree_node.specs.declared.kind.Word.TheVariants as word
use Rattle.swc_tree_node.specs.declared.node.Node.{Node, Absent, Flag, Word, Text, List as Many, Tree, the_lemmas}
use Rattle.swc_tree_grammar.specs.Writable.{is_writable}
use Rattle.swc_tree_grammar_laws.proofs.Rows.{at, a, x, seq, array, name, bound, paren, chain, statement}
use Rattle.swc_tree_grammar_laws.proofs.GrammarRows.{bin, member}

abbrev labeled : List ℕ → Node
labeled label = Tree kind.LabeledStmt (at 0 0 ∷ name label ∷ statement x ∷ [])

-- a label that is a reserved word
reserved_label : is_writable (labeled (codes "if")) ≡ false
reserved_label = search (rules, the_lemmas)

plain_label : is_writable (labeled (codes "a")) ≡ true
plain_label = search (rules, the_lemmas)

-- a sequence of one item
short_sequence : is_writable (statement (seq (a ∷ []))) ≡ false
short_sequence = search (rules, the_lemmas)

abbrev destructured : Word' → Node
destructured op = Tree kind.AssignExpr (at 0 0 ∷ Word op ∷ array ∷ x ∷ [])

-- a pattern is assigned to by `=`, and not by `+=`
destructuring : is_writable (statement (destructured word.Assign)) ≡ true
destructuring = search (rules, the_lemmas)

no_destructuring : is_writable (statement (destructured word.AddAssign)) ≡ false
no_destructuring = search (rules, the_lemmas)

abbrev private : Node
private = Tree kind.PrivateName (at 0 0 ∷ Text (codes "x") ∷ [])

-- `#x, a`
private_item : is_writable (statement (seq (private ∷ a ∷ []))) ≡ false
private_item = search (rules, the_lemmas)

abbrev text : Node
text = Tree kind.TplElement (at 0 0 ∷ Flag false ∷ Absent ∷ Text [] ∷ [])

abbrev template : Node → Node
template e = Tree kind.Tpl (at 0 0 ∷ Many (e ∷ []) ∷ Many (text ∷ text ∷ []) ∷ [])

-- `${#x}` in a template
private_part : is_writable (statement (template private)) ≡ false
private_part = search (rules, the_lemmas)

plain_part : is_writable (statement (template a)) ≡ true
plain_part = search (rules, the_lemmas)

-- `#x in a`
private_operand : is_writable (statement (bin word.In private a)) ≡ true
private_operand = search (rules, the_lemmas)

abbrev block : List Node → Node
block stmts = Tree kind.BlockStmt (at 0 0 ∷ Many stmts ∷ [])

abbrev function : List ℕ → Node
function text = Tree kind.FnExpr (name text ∷ Tree kind.Function (at 0 0 ∷ Many [] ∷ block [] ∷ Flag false ∷ Flag false ∷ []) ∷ [])

abbrev strict_block : Node
strict_block = block (statement (Tree kind.Str (at 0 0 ∷ Text (codes "use strict") ∷ Absent ∷ [])) ∷ [])

abbrev property : Node → Node
property p = statement (Tree kind.ObjectLit (at 0 0 ∷ Many (p ∷ []) ∷ []))

-- `get [function eval() {}]() { "use strict"; }`: the key is no code of the getter
getter_key : is_writable (property (Tree kind.GetterProp (at 0 0 ∷ Tree kind.ComputedPropName (at 0 0 ∷ function (codes "eval") ∷ []) ∷ strict_block ∷ []))) ≡ true
getter_key = search (rules, the_lemmas)

abbrev key : Node
key = Tree kind.IdentName (at 0 0 ∷ Text (codes "b") ∷ [])

-- `set b(eval) { "use strict"; }`: the parameter is
setter_parameter : is_writable (property (Tree kind.SetterProp (at 0 0 ∷ key ∷ bound (codes "eval") ∷ strict_block ∷ []))) ≡ false
setter_parameter = search (rules, the_lemmas)

abbrev rest : Node
rest = Tree kind.RestPat (at 0 0 ∷ bound (codes "a") ∷ [])

abbrev setter : Node → Node
setter parameter = property (Tree kind.SetterProp (at 0 0 ∷ key ∷ parameter ∷ block [] ∷ []))

abbrev method : Word' → Node → Node
method w parameter = Tree kind.ClassMethod (at 0 0 ∷ key
    ∷ Tree kind.Function (at 0 0 ∷ Many (Tree kind.Param (at 0 0 ∷ parameter ∷ []) ∷ []) ∷ block [] ∷ Flag false ∷ Flag false ∷ []) ∷ Word w ∷ Flag false ∷ [])

abbrev class : Node → Node
class m = Tree kind.ClassDecl (name (codes "c") ∷ Tree kind.Class (at 0 0 ∷ Absent ∷ Many (m ∷ []) ∷ []) ∷ [])

-- `set b(a) {}`, and `set b(...a) {}`
setter_name : is_writable (setter (bound (codes "a"))) ≡ true
setter_name = search (rules, the_lemmas)

setter_rest : is_writable (setter rest) ≡ false
setter_rest = search (rules, the_lemmas)

class_setter_name : is_writable (class (method word.Setter (bound (codes "a")))) ≡ true
class_setter_name = search (rules, the_lemmas)

class_setter_rest : is_writable (class (method word.Setter rest)) ≡ false
class_setter_rest = search (rules, the_lemmas)

class_method_rest : is_writable (class (method word.Method rest)) ≡ true
class_method_rest = search (rules, the_lemmas)

abbrev going_on : Node → Node
going_on e = statement (Tree kind.OptChainExpr (at 0 0 ∷ Flag false ∷ member e ∷ []))

-- a part of a chain that goes on from a chain, in a pair or not
chain_goes_on : is_writable (going_on chain) ≡ true
chain_goes_on = search (rules, the_lemmas)

pair_goes_on : is_writable (going_on (paren chain)) ≡ true
pair_goes_on = search (rules, the_lemmas)

name_goes_on : is_writable (going_on a) ≡ false
name_goes_on = search (rules, the_lemmas)
