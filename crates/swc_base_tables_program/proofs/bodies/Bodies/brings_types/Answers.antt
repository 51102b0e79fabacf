use Rattle.std.proofs.Common.{sym, ap, ◌∙◌, ◌&&◌}
use Rattle.std.specs.List.{list_any}
use Rattle.swc_tree_spaces.specs.Spaces.{has_types}
use Rattle.swc_base_tables_program.specs.Given.{body_or_none}
use Rattle.swc_base_tables_program.proofs.Steps.{tested}
use Rattle.swc_base_tables_program.proofs.bodies.Bodies.brings_types.Goals as goal

pub returns-then-is_enabled : goal.returns-then-is_enabled
returns-then-is_enabled c =
    let chosen = tested c.args.helpers.now.enabled c.args.helper c.is_enabled.result c.is_enabled.ensures ∙ c.if-is_enabled.true in
    c.has_types.ensures ∙ sym (ap (λ b. b && list_any has_types (body_or_none c.args.self.now c.args.helper)) chosen)

pub returns-else-is_enabled : goal.returns-else-is_enabled
returns-else-is_enabled c =
    let out = tested c.args.helpers.now.enabled c.args.helper c.is_enabled.result c.is_enabled.ensures ∙ c.if-is_enabled.false in
    c.if-is_enabled.false ∙ sym (ap (λ b. b && list_any has_types (body_or_none c.args.self.now c.args.helper)) out)
