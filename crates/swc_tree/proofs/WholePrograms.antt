-- A program fits the table, since its items do.
use Rattle.std.proofs.Common.{◌≡◌, ℕ, Option, Some, None, List, refl, subst, rules}
use Rattle.swc_tree_marks.specs.declared.span.Span.{Span as Range}
use Rattle.swc_tree_node.specs.declared.kind.Kind.TheVariants as kind
use Rattle.swc_tree_node.specs.declared.kind.Class.TheVariants as class
use Rattle.swc_tree_node.specs.declared.slot.Content.TheVariants as content
use Rattle.swc_tree_node.specs.declared.slot.Slot.TheVariants as slot
use Rattle.swc_tree_node.specs.declared.node.Node.{Node, Span}
use Rattle.swc_tree_node.specs.Fits.{AllFit, Fits}
use Rattle.swc_tree_node.proofs.Fit.{fitting, list_closes, tree_closes}
use Rattle.swc_tree_handle.specs.Handles.{optional_text}
use Rattle.swc_tree_modules.specs.declared.module_.Module.{Module}
use Rattle.swc_tree_modules.specs.declared.script.Script.{Script}
use Rattle.swc_tree_modules.specs.Nodes.{module_node, script_node}

span_fits : (s : Range) → Fits (Span s) (slot.One content.Span)
span_fits s = search (rules, fitting)

text_fits : (x : Option (List ℕ)) → Fits (optional_text x) (slot.Optional content.Text)
text_fits None = search (rules, fitting)
text_fits (Some x) = search (rules, fitting)

pub whole_module : (m : Module) (items : List Node) → items ≡ m.body → AllFit (slot.One (content.Node class.ModuleItem)) items → Fits (module_node m) (slot.One (content.Node class.Module))
whole_module m items e f =
    let body = list_closes m.body (content.Node class.ModuleItem) (subst (AllFit (slot.One (content.Node class.ModuleItem))) e f) in
    tree_closes kind.Module _ class.Module refl refl (span_fits m.span, (body, (text_fits m.shebang, tt)))

pub whole_script : (m : Script) (items : List Node) → items ≡ m.body → AllFit (slot.One (content.Node class.Stmt)) items → Fits (script_node m) (slot.One (content.Node class.Script))
whole_script m items e f =
    let body = list_closes m.body (content.Node class.Stmt) (subst (AllFit (slot.One (content.Node class.Stmt))) e f) in
    tree_closes kind.Script _ class.Script refl refl (span_fits m.span, (body, (text_fits m.shebang, tt)))
