use Rattle.std.proofs.Common.{◌≡◌, Some}
use Rattle.swc_tree_node.specs.declared.kind.Class.TheVariants as class
use Rattle.swc_tree_node.specs.declared.slot.Content.TheVariants as content
use Rattle.swc_tree_node.specs.declared.slot.Slot.TheVariants as slot
use Rattle.swc_base_tables_injection.specs.Bodies.{program_kind}
use Rattle.swc_base_tables_injection.proofs.AloneFit.{bodies_fit, bodies_injected}
use Rattle.swc_base_tables_injection.proofs.inside.inject_bodies.Goals as goal

pub returns-in_ok-answer-in-Some-clause-injected : goal.returns-in_ok-answer-in-Some-clause-injected
returns-in_ok-answer-in-Some-clause-injected c k is ok =
    let here : program_kind c.args.program ≡ Some c.in-Some.kind = cc in
    bodies_injected c.args.helper c.args.global c.args.globals.now c.resolve_alone.new.globals c.args.bodies c.args.program c.in_ok-answer-in-Some.answer c.in_ok-statements-in-Some.statements c.in-Some.kind k
    c.is_strict_program-strict.result here is c.is_strict_program-strict.ensures c.in_ok-statements-in-Some.ensures.resolved ok c.in_ok-answer-in-Some.ensures

pub returns-in_ok-answer-in-Some-clause-fits : goal.returns-in_ok-answer-in-Some-clause-fits
returns-in_ok-answer-in-Some-clause-fits c s more h =
    bodies_fit c.in_ok-statements-in-Some.statements s c.args.program c.in_ok-answer-in-Some.answer c.in_ok-answer-in-Some.ensures
    (c.in_ok-statements-in-Some.ensures.fits (slot.One (content.Node class.Stmt)) more) h
