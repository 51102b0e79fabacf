use Rattle.std.proofs.Common.{◌≡◌, Some}
use Rattle.swc_tree_node.specs.declared.kind.Kind.TheVariants as kind
use Rattle.swc_base_tables_injection.specs.Bodies.{program_kind}
use Rattle.swc_base_tables_injection.proofs.BroughtFit.{module_done, script_done}
use Rattle.swc_base_tables_injection.proofs.outside.bring_in.Goals as goal

pub returns-in_ok-more-in-Some-Module-clause-fits : goal.returns-in_ok-more-in-Some-Module-clause-fits
returns-in_ok-more-in-Some-Module-clause-fits c s h =
    let is : program_kind c.args.program ≡ Some kind.Module = cc in
    module_done c.args.helper c.args.names.now _ c.args.program s c.put_in.result is c.in_ok-more-in-Some-Module.ensures c.put_in.ensures h

pub returns-in_ok-rest-in-Some-Script-clause-fits : goal.returns-in_ok-rest-in-Some-Script-clause-fits
returns-in_ok-rest-in-Some-Script-clause-fits c s h =
    let is : program_kind c.args.program ≡ Some kind.Script = cc in
    script_done c.args.helper c.args.global c.args.names.now _ c.args.program _ s c.put_in-in-Some-Script.result is c.in_ok-more-in-Some-Script.ensures c.in_ok-rest-in-Some-Script.ensures c.put_in-in-Some-Script.ensures h
