-- Which small programs are the same but for bound names.
use Rattle.std.proofs.Common.{◌≡◌, ◌∙◌, ℕ, ap, List, [], ◌∷◌, Bool, true, false, codes, rules}
use Rattle.swc_tree_node.specs.declared.kind.Kind.TheVariants as kind
use Rattle.swc_tree_node.specs.declared.kind.Word.TheVariants as word
use Rattle.swc_tree_node.specs.declared.node.Node.{Node, Absent, Word, Text, List as Many, Tree, out-Node, the_lemmas}
use Rattle.swc_tree_marks.specs.declared.ident.Ident.{Ident}
use Rattle.swc_tree_grammar.specs.Same.{declared_names, declared_step, same_in, same_step, same_tree, is_same}
use Rattle.swc_tree_grammar.specs.Blocks.{no_span}
use Rattle.swc_tree_grammar.specs.Normal.{normal_form}
use Rattle.swc_tree_grammar.specs.Lower.swc_tree_scoping.specs.declared.places.Place.{Place}
use Rattle.swc_tree_grammar.specs.Lower.swc_tree_scoping.specs.Places.{children_in, place_below}
use Rattle.swc_tree_grammar.specs.Lower.swc_tree_scoping.specs.Folds.{each_in, fold_in_place}
use Rattle.swc_tree_grammar.specs.Lower.swc_tree_scoping.proofs.Under.{fold_in_place_out}
use Rattle.swc_tree_grammar_laws.proofs.Rows.{at, name, bound, statement}

-- `let a; ..`
abbrev declaring : List ℕ → Node → Node
declaring text item = Tree kind.Module (at 0 0 ∷ Many (Tree kind.VarDecl (at 0 0 ∷ Word word.Let ∷ Many (Tree kind.VarDeclarator (at 0 0 ∷ bound text ∷ Absent ∷ []) ∷ []) ∷ [])
    ∷ item ∷ []) ∷ Absent ∷ [])

abbrev reference : List ℕ → Node
reference text = statement (name text)

abbrev only_a : List Ident
only_a = record { span = no_span; ctxt = []; sym = codes "a" } ∷ []

names_out : (w : Place) (t : Node) → fold_in_place declared_step w t ≡ declared_step w t (each_in (fold_in_place declared_step) (place_below w t) (children_in (out-Node t)))
names_out = fold_in_place_out declared_step

same_out : (declared : List Ident) (w : Place) (t u : Node) → fold_in_place (same_step declared) w t u
    ≡ same_in declared w.standing (each_in (fold_in_place (same_step declared)) (place_below w t) (children_in (out-Node t))) (out-Node t) (out-Node u)
same_out declared w t u = ap (λ f. f u) (fold_in_place_out (same_step declared) w t)

-- two programs that are their own normal forms
by_parts : (t u : Node) {b : Bool} → declared_names t ≡ only_a → normal_form t ≡ t → normal_form u ≡ u → same_tree only_a t u ≡ b → is_same t u ≡ b
by_parts t u names left right same = (λ i. same_tree (names i) (left i) (right i)) ∙ same

-- `let a; a` and `let b; b`
renamed : is_same (declaring (codes "a") (reference (codes "a"))) (declaring (codes "b") (reference (codes "b"))) ≡ true
renamed =
    by_parts (declaring (codes "a") (reference (codes "a"))) (declaring (codes "b") (reference (codes "b")))
    (search (rules, the_lemmas, names_out)) (search (rules, the_lemmas)) (search (rules, the_lemmas)) (search (rules, the_lemmas, same_out))

-- `let a; c` and `let a; b`
free : is_same (declaring (codes "a") (reference (codes "c"))) (declaring (codes "a") (reference (codes "b"))) ≡ false
free =
    by_parts (declaring (codes "a") (reference (codes "c"))) (declaring (codes "a") (reference (codes "b")))
    (search (rules, the_lemmas, names_out)) (search (rules, the_lemmas)) (search (rules, the_lemmas)) (search (rules, the_lemmas, same_out))

abbrev labeled : List ℕ → Node
labeled label = Tree kind.LabeledStmt (at 0 0 ∷ name label ∷ Tree kind.EmptyStmt (at 0 0 ∷ []) ∷ [])

-- where `a` is declared: `a: ;` and `b: ;`
label : same_tree only_a (labeled (codes "a")) (labeled (codes "b")) ≡ false
label = search (rules, the_lemmas, same_out)

abbrev exporting : List ℕ → List ℕ → Node → Node
exporting local exported source = Tree kind.NamedExport (at 0 0 ∷ Many (Tree kind.ExportNamedSpecifier (at 0 0 ∷ name local ∷ name exported ∷ []) ∷ []) ∷ source ∷ Absent ∷ [])

-- `export { a as c }` and `export { b as c }`
exported : same_tree only_a (exporting (codes "a") (codes "c") Absent) (exporting (codes "b") (codes "c") Absent) ≡ true
exported = search (rules, the_lemmas, same_out)

-- `export { a as a }` and `export { a as b }`
other_name : same_tree only_a (exporting (codes "a") (codes "a") Absent) (exporting (codes "a") (codes "b") Absent) ≡ false
other_name = search (rules, the_lemmas, same_out)

abbrev source : Node
source = Tree kind.Str (at 0 0 ∷ Text (codes "m") ∷ Absent ∷ [])

-- `export { a as c } from "m"` and `export { b as c } from "m"`
from_elsewhere : same_tree only_a (exporting (codes "a") (codes "c") source) (exporting (codes "b") (codes "c") source) ≡ false
from_elsewhere = search (rules, the_lemmas, same_out)
