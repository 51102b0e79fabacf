-- Types stand in a program where they stand in its items.
use Rattle.std.proofs.Common.{◌≡◌, ℕ, ◌||◌, Bool, true, false, Option, Some, None, List, [], ◌∷◌, refl, ◌∙◌, rules}
use Rattle.std.specs.List.{list_any}
use Rattle.swc_tree_marks.specs.declared.span.Span.{Span as Range}
use Rattle.swc_tree_node.specs.declared.kind.Kind.TheVariants as kind
use Rattle.swc_tree_node.specs.declared.node.Node.{Node, Span, List as Many, the_lemmas}
use Rattle.swc_tree_handle.specs.Handles.{optional_text}
use Rattle.swc_tree_modules.specs.declared.module_.Module.{Module}
use Rattle.swc_tree_modules.specs.declared.script.Script.{Script}
use Rattle.swc_tree_modules.specs.Nodes.{module_node, script_node}
use Rattle.swc_tree_spaces.specs.Spaces.{has_types}
use Rattle.swc_tree_has_types.proofs.Told.{types_of_list, types_of_tree}

or_false : (b : Bool) → (b || false) ≡ b
or_false true = refl
or_false false = refl

none_in_span : (s : Range) → has_types (Span s) ≡ false
none_in_span s = search (rules, the_lemmas)

none_in_text : (x : Option (List ℕ)) → has_types (optional_text x) ≡ false
none_in_text None = search (rules, the_lemmas)
none_in_text (Some x) = search (rules, the_lemmas)

fields : (s : Range) (body : List Node) (shebang : Option (List ℕ)) → list_any has_types (Span s ∷ Many body ∷ optional_text shebang ∷ []) ≡ list_any has_types body
fields s body shebang = rw (none_in_span s, none_in_text shebang, types_of_list body) (or_false (list_any has_types body))

pub in_module : (m : Module) → has_types (module_node m) ≡ list_any has_types m.body
in_module m = types_of_tree kind.Module _ ∙ fields m.span m.body m.shebang

pub in_script : (m : Script) → has_types (script_node m) ≡ list_any has_types m.body
in_script m = types_of_tree kind.Script _ ∙ fields m.span m.body m.shebang
