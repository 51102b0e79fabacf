use Rattle.text_checks.specs.declared.check.Lack.TheVariants as lack
use Rattle.text_checks.proofs.Told.{met, told, unmet}
use Rattle.text_checks.proofs.check.check_tree.Goals as goal

pub returns-then-not-does_fit-clause-lacking : goal.returns-then-not-does_fit-clause-lacking
returns-then-not-does_fit-clause-lacking c k is = told c.args.slot c.args.tree.now lack.Fitting (unmet c.does_fit.result c.does_fit.ensures c.if-not-does_fit.true) k is

pub returns-then-not-is_shaped-clause-lacking : goal.returns-then-not-is_shaped-clause-lacking
returns-then-not-is_shaped-clause-lacking c k is =
    told c.args.slot c.args.tree.now lack.Shape
    (met c.does_fit.result c.does_fit.ensures c.if-not-does_fit.false, unmet c.is_shaped.result c.is_shaped.ensures c.if-not-is_shaped.true) k is

pub returns-then-not-is_spelled-clause-lacking : goal.returns-then-not-is_spelled-clause-lacking
returns-then-not-is_spelled-clause-lacking c k is =
    told c.args.slot c.args.tree.now lack.Spelling (
      met c.does_fit.result c.does_fit.ensures c.if-not-does_fit.false,
      met c.is_shaped.result c.is_shaped.ensures c.if-not-is_shaped.false,
      unmet c.is_spelled.result c.is_spelled.ensures c.if-not-is_spelled.true,
    ) k is

pub returns-then-not-derives-clause-lacking : goal.returns-then-not-derives-clause-lacking
returns-then-not-derives-clause-lacking c k is =
    told c.args.slot c.args.tree.now lack.Derivation (
      met c.does_fit.result c.does_fit.ensures c.if-not-does_fit.false,
      met c.is_shaped.result c.is_shaped.ensures c.if-not-is_shaped.false,
      met c.is_spelled.result c.is_spelled.ensures c.if-not-is_spelled.false,
      unmet c.derives.result c.derives.ensures c.if-not-derives.true,
    ) k is

pub returns-clause-sound : goal.returns-clause-sound
returns-clause-sound c = record {
  fits = met c.does_fit.result c.does_fit.ensures c.if-not-does_fit.false;
  shaped = met c.is_shaped.result c.is_shaped.ensures c.if-not-is_shaped.false;
  spelled = met c.is_spelled.result c.is_spelled.ensures c.if-not-is_spelled.false;
  derived = met c.derives.result c.derives.ensures c.if-not-derives.false;
}
