use Rattle.swc_base_alpha.proofs.Forms.{decides}
use Rattle.swc_base_alpha.proofs.Shapes.{leaf_alike, name_alike, tree_alike}
use Rattle.swc_base_alpha.proofs.shape.are_alike.Goals as goal

pub returns-in-Identifier-other : goal.returns-in-Identifier-other
returns-in-Identifier-other c = name_alike _ _ _ _ _ _ _ c.in-Identifier.is c.in-Identifier-other.is c.eq.ensures

pub returns-in-Tree-other : goal.returns-in-Tree-other
returns-in-Tree-other c = tree_alike _ _ _ _ _ _ _ c.in-Tree.is c.in-Tree-other.is c.eq-in-Tree-other.ensures

pub returns-in_default : goal.returns-in_default
returns-in_default c =
    leaf_alike _ _ (record { no_span = c.in_default.not-Span; no_list = c.in_default.not-List; no_name = c.in_default.not-Identifier; no_tree = c.in_default.not-Tree }) _
    (decides c.eq-in_default.result c.args.one.now c.args.other.now c.eq-in_default.ensures)
