-- What a program exports is declared by the program.
use Rattle.std.proofs.Common.{◌≡◌, ℕ, true, inl, inr, Option, Some, List, [], ◌∷◌, refl, sym, ap, ◌∙◌, subst}
use Rattle.swc_tree_node.specs.declared.node.Node.{Node}
use Rattle.swc_tree_scoping.specs.declared.places.Standing.TheVariants as standing
use Rattle.swc_tree_scoping.specs.Places.{Path}
use Rattle.swc_tree_scoping.specs.Declares.{Declares, DeclaresFor, First}
use Rattle.swc_tree_scoping.specs.Readings.{by_ids}
use Rattle.swc_tree_scoping.specs.Resolved.{mark_in}
use Rattle.swc_tree_scoping.specs.WellScoped.{ExportsDeclared, InExportList}
use Rattle.swc_tree_spaces.specs.NoTypes.{ListsAreItems}
use Rattle.swc_base_resolver_laws.proofs.ExportLists.{export_rounds}
use Rattle.swc_base_resolver_laws.proofs.Names.{Resolving, marks, name_is, name_of, reference_context, stands_back, text_at, text_is, tree_there}
use Rattle.swc_base_resolver_laws.proofs.Declared.{declares_forth}

module _ (t u : Node) (g : Resolving t u) (lists : ListsAreItems t) where
  in_list : (p : Path) → InExportList (by_ids u) p → InExportList t p
  in_list p (q, r, i, w, k, us, e, h, l) = let (ts, there) = tree_there t u g q w k us h in (q, r, i, w, k, ts, e, there, l)

  exported : ExportsDeclared t
  exported = subst ExportsDeclared (text_is t u g) g.fair.exports_declared

  means_program : (x : List ℕ) (m : Option Path) → Declares t [] x → First (DeclaresFor t x) (([], true) ∷ []) m → m ≡ Some []
  means_program x m d (inl (here, e)) = e
  means_program x m d (inr (none, f)) = absurd (none d)

  pub exports_declared : ExportsDeclared (by_ids u)
  exports_declared p n listed c =
      let x = text_at t u g p standing.Reference n c in
      let st = stands_back t u g p standing.Reference n c in
      let there = in_list p listed in
      let declares : Declares t [] x = exported p x there st in
      let (m, means, its) = reference_context t u g p standing.Reference x st refl in
      let program : m ≡ Some [] = means_program x m declares (subst (λ ss. First (DeclaresFor t x) ss m) (export_rounds g.goal t p g.program g.fitting lists there) means) in
      let name : n ≡ name_of x (marks t u g [] ∷ []) = name_is t u g p standing.Reference n c ∙ ap (name_of x) (its ∙ ap (λ m. mark_in (marks t u g) g.unresolved m ∷ []) program) in
      subst (λ n. DeclaresFor (by_ids u) n ([], true)) (sym name) (declares_forth t u g x ([], true) declares)
