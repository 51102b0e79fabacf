use Rattle.std.proofs.Common.{sym}
use Rattle.swc_tree_handle.proofs.Handles.{sole_tree, sole_tree_kind, sole_unnamed}
use Rattle.swc_tree_handle.proofs.tree.Tree.into_fields.Goals as goal

pub returns-clause-fit : goal.returns-clause-fit
returns-clause-fit g c = (sole_tree _ c.in-Tree.fields _ _ c.in-Tree.ensures.fits c.requires.sole).1

pub returns-clause-same : goal.returns-clause-same
returns-clause-same g c = rw (← sole_tree_kind _ c.in-Tree.fields _ _ c.in-Tree.ensures.fits c.requires.sole) (sym c.in-Tree.ensures.same)

pub unreachable-requires : goal.unreachable-requires
unreachable-requires g c = sole_unnamed _ c.in-Identifier.field-1 _ _ c.in-Identifier.ensures.fits c.requires.sole c.requires.plain
