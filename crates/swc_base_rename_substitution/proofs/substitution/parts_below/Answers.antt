use Rattle.std.proofs.Common.{sym, ◌∙◌}
use Rattle.swc_base_rename_substitution.proofs.InPlace.{list_stays, tree_stays}
use Rattle.swc_base_rename_substitution.proofs.substitution.parts_below.Goals as goal

pub returns-in-List : goal.returns-in-List
returns-in-List c = list_stays c.args.keeps_classes c.args.place c.args.node.now c.in-List.items c.as_slice.result.now c.in-List.is c.as_slice.ensures (sym c.any_exported.ensures ∙ c.if-not-any_exported.true)

pub returns-in-Tree : goal.returns-in-Tree
returns-in-Tree c = tree_stays c.args.keeps_classes c.args.place c.args.node.now c.in-Tree.kind c.in-Tree.fields c.has_source.result c.in-Tree.is c.has_source.ensures (sym c.keeps_name.ensures ∙ c.if-not-keeps_name.true) (sym c.writes_name.ensures ∙ c.if-not-writes_name.true)
