use Rattle.std.proofs.Common.{IsTrue, ◌↔◌, subst}
use Rattle.swc_tree_marks.specs.Contexts.{outer_of}
use Rattle.swc_tree_marks.specs.Globals.{IsDescendant}
use Rattle.swc_base_rename_program.specs.Descends.{descends_from}
use Rattle.swc_base_rename_program.proofs.Descends.{descends_is, same_answers}
use Rattle.swc_base_rename_program.proofs.top_mark.TopMark.covers.Goals as goal

pub returns : goal.returns
returns c =
    let table = c.args.self.now.globals.now in
    let top = c.args.self.now.mark in
    let outer = outer_of c.args.id.now.1 in
    let is = descends_is table c.table.ensures.well_formed outer top in
    let told : IsTrue c.is_descendant_of.result ↔ IsDescendant table outer top
    = subst (λ o. IsTrue c.is_descendant_of.result ↔ IsDescendant table o top) c.outer.ensures c.is_descendant_of.ensures in
    same_answers c.is_descendant_of.result (descends_from table top c.args.id.now) (λ h. is.1 (told.0 h)) (λ h. told.1 (is.0 h))
