use Rattle.std.proofs.Common.{◌≡◌, length, sym, ap, ◌∙◌, arith}
use Rattle.swc_tree_node.specs.declared.kind.Kind.TheVariants as kind
use Rattle.swc_tree_node.specs.declared.node.Node.{Tree}
use Rattle.swc_base_writable_rules.proofs.Strings.{string_other}
use Rattle.swc_base_writable_rules.proofs.statements.+is_string_within.Goals as goal
use Rattle.swc_base_writable_rules.proofs.statements.+is_string_within.Goals.{in_default-kind-via-in-ParenExpr+else-fields-eq2, in_default-kind-via-in_default-kind}

pub returns-in_default-kind : goal.returns-in_default-kind
returns-in_default-kind t c =
    let is = c.in-Tree.is ∙ ap (λ ts. Tree c.in-Tree.kind ts) (sym c.as_slice-fields.ensures) in
    let other : c.in-Tree.kind ≡ kind.ParenExpr → length c.as_slice-fields.result.now ≡ 2 → ⊥ = elim c.in_default-kind.branch [
      | in_default-kind-via-in-ParenExpr+else-fields-eq2 w ↦ λ e l. absurd (omega (arith, l))
      | in_default-kind-via-in_default-kind w ↦ λ e l. absurd (w.in_default-kind.not-ParenExpr e)
    ] in
    c.is_string.ensures ∙ sym (string_other c.args.node.now c.in-Tree.kind c.as_slice-fields.result.now is other)
