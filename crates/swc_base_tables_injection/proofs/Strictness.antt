-- Statements alone in a program are strict code where the program is said to be.
use Rattle.std.proofs.Common.{◌≡◌, Bool, true, false, Result, Ok, Err, IfOk, option_map, List, [], ◌∷◌, codes, ap, ◌∙◌}
use Rattle.swc_tree_node.specs.declared.kind.Kind.{Kind}
use Rattle.swc_tree_node.specs.declared.kind.Kind.TheVariants as kind
use Rattle.swc_tree_node.specs.declared.node.Node.{Node, Absent, Text, List as Many}
use Rattle.swc_tree_node.specs.declared.node.Node.TheVariants.{outs-List, outs-Text, outs-Tree}
use Rattle.swc_tree_scoping.specs.Places.{directive_or, has_use_strict, items_in, literal_in, place_in, program_place, says, statement_in, text_in}
use Rattle.swc_base_tables_injection.specs.Brought.{nowhere, string}
use Rattle.swc_base_tables_injection.specs.Alone.{IsOfStrictness, alone, is_strict_program, opening}

pub first_says : (strict : Bool) (ts : List Node) → has_use_strict (opening strict ∷ ts) ≡ strict
first_says true ts =
    ap (λ y. directive_or (option_map says (statement_in y)) (has_use_strict ts)) (outs-Tree kind.ExprStmt (nowhere ∷ string (codes "use strict") ∷ []))
    ∙ ap (λ y. directive_or (option_map says (literal_in y)) (has_use_strict ts)) (outs-Tree kind.Str (nowhere ∷ Text (codes "use strict") ∷ Absent ∷ []))
    ∙ ap (λ y. directive_or (option_map says (text_in y)) (has_use_strict ts)) (outs-Text (codes "use strict"))
first_says false ts = ap (λ y. directive_or (option_map says (statement_in y)) (has_use_strict ts)) (outs-Tree kind.EmptyStmt (nowhere ∷ []))

script_strict : (strict : Bool) (ts : List Node) → is_strict_program (alone kind.Script strict ts) ≡ strict
script_strict strict ts =
    ap (λ y. (place_in program_place y 1).strict) (outs-Tree kind.Script (nowhere ∷ Many (opening strict ∷ ts) ∷ Absent ∷ []))
    ∙ ap (λ y. has_use_strict (items_in y)) (outs-List (opening strict ∷ ts))
    ∙ first_says strict ts

module_strict : (strict : Bool) (ts : List Node) → is_strict_program (alone kind.Module strict ts) ≡ true
module_strict strict ts = ap (λ y. (place_in program_place y 1).strict) (outs-Tree kind.Module (nowhere ∷ Many (opening strict ∷ ts) ∷ Absent ∷ []))

pub of_strictness : {E : Type 0} (k : Kind) (strict : Bool) (ts : List Node) (r : Result Node E) → IfOk r (λ t. t ≡ alone k strict ts) → IfOk r (IsOfStrictness k strict)
of_strictness k strict ts (Ok t) h = record {
  script = λ e. ap is_strict_program (h ∙ ap (λ k. alone k strict ts) e) ∙ script_strict strict ts;
  module_ = λ e. ap is_strict_program (h ∙ ap (λ k. alone k strict ts) e) ∙ module_strict strict ts;
}
of_strictness k strict ts (Err x) h = tt
