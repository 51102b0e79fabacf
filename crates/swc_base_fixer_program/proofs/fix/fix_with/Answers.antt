use Rattle.std.proofs.Common.{◌∙◌, subst}
use Rattle.swc_base_fixer_unparen.proofs.Moves.{refused}
use Rattle.swc_base_fixer_unparen.specs.Moves.{LeadTo, LeadPartlyTo}
use Rattle.swc_base_fixer_program.proofs.Sets.{own_record, moves_left}
use Rattle.swc_base_fixer_program.proofs.fix.fix_with.Goals as goal

pub returns-in_err-move_pairs-clause-moved : goal.returns-in_err-move_pairs-clause-moved
returns-in_err-move_pairs-clause-moved g c =
    let answer = own_record c.as_slice.result.now c.args.node c.in_ok-node.node (c.as_slice.ensures ∙ c.in_ok-pairs.ensures) c.in_ok-node.ensures in
    let left = moves_left c.args.node c.in_ok-node.node c.as_slice-2.result.now c.as_slice-3.result.now (c.as_slice-2.ensures ∙ c.in_ok-pairs.ensures) answer (c.as_slice-3.ensures ∙ c.in_ok-left.ensures) in
    refused g.C.Comments.moved _ _ _ _ c.from_residual-in_err-move_pairs.ensures.0 (subst (λ ms. LeadPartlyTo g.C.Comments.moved c.args.comments.now ms c.move_pairs.new.comments) left c.in_err-move_pairs.ensures)

pub returns-clause-answer : goal.returns-clause-answer
returns-clause-answer g c = own_record c.as_slice.result.now c.args.node c.in_ok-node.node (c.as_slice.ensures ∙ c.in_ok-pairs.ensures) c.in_ok-node.ensures

pub returns-clause-moved : goal.returns-clause-moved
returns-clause-moved g c =
    let answer = own_record c.as_slice.result.now c.args.node c.in_ok-node.node (c.as_slice.ensures ∙ c.in_ok-pairs.ensures) c.in_ok-node.ensures in
    let left = moves_left c.args.node c.in_ok-node.node c.as_slice-2.result.now c.as_slice-3.result.now (c.as_slice-2.ensures ∙ c.in_ok-pairs.ensures) answer (c.as_slice-3.ensures ∙ c.in_ok-left.ensures) in
    subst (λ ms. LeadTo g.C.Comments.moved c.args.comments.now ms c.move_pairs.new.comments) left c.in_ok-move_pairs.ensures
