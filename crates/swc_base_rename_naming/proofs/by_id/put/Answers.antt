use Rattle.std.proofs.Common.{Some, cond, ◌∙◌}
use Rattle.swc_base_rename_substitution.specs.Names.{found_in, same_id}
use Rattle.swc_base_rename_naming.proofs.ByIds.{text_put}
use Rattle.swc_base_rename_naming.proofs.by_id.put.Goals as goal

pub returns : goal.returns
returns c =
    λ x. text_put c.args.texts.now c.insert.new.self _ _ c.in_ok-insert.ensures.updates x
    ∙ (λ j. cond (same_id (c.in_ok-clone.ensures.cases j, c.in_ok-clone-2.ensures.cases j) x) (Some (c.in_ok-clone-3.ensures.cases j)) (found_in c.args.texts.now x))
