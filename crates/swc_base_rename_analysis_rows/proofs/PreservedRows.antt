-- Preserved texts: ids that are loose, and ids that are not.
use Rattle.std.specs.Str.{bytes_eq}
use Rattle.std.proofs.Common.{◌≡◌, Bool, true, false, not, ◌||◌, inl, inr, [], ◌∷◌, codes, refl, sym, ap, ◌∙◌, subst}
use Rattle.swc_tree_marks.specs.declared.ident.Ident.{Ident}
use Rattle.swc_tree_node.specs.declared.kind.Kind.TheVariants as kind
use Rattle.swc_tree_node.specs.declared.kind.Word.TheVariants as word
use Rattle.swc_tree_scoping.specs.declared.places.Standing.{Standing}
use Rattle.swc_tree_scoping.specs.declared.places.Standing.TheVariants as standing
use Rattle.swc_tree_scoping.specs.declared.places.Place.{Place}
use Rattle.swc_tree_scoping.specs.Places.{Path, program_place}
use Rattle.swc_tree_scoping.specs.Scopes.{is_binding}
use Rattle.swc_tree_scoping.specs.BoundNames.{Id}
use Rattle.swc_tree_scoping.specs.WellScoped.{InExportList}
use Rattle.swc_tree_scoping_rows.proofs.Drawn.{Drawing, Drawing.name, Drawing.span, Drawing.tree, Drawings, Drawings.next, draw, draws, inner, stands_is}
use Rattle.swc_tree_scoping_rows.proofs.Sites.{declaration, export_of, identifier, module_of, one, two, use_of}
use Rattle.swc_base_rename_analysis.specs.Ids.{IsBound}
use Rattle.swc_base_rename_analysis.specs.Preserved.{IsLoose, IsPreserved}
use Rattle.swc_base_rename_analysis_rows.proofs.ScopeRows.{a1, c1, id_of, of}
use Rattle.swc_base_rename_analysis_rows.proofs.Seen.{id_is}
use Rattle.swc_base_rename_analysis_rows.proofs.Tests.{id_is_same, if_so, in_list_drawn, in_list_seen, itself, passes, path_is, same}

abbrev d1 : Ident
d1 = of (codes "d") 1

abbrev e1 : Ident
e1 = of (codes "e") 1

abbrev b : Ident
b = identifier (codes "b") []

-- `a#1; b; export { c#1 }; var d#1; e#1: ;`
abbrev program : Drawing
program = module_of (next (use_of a1) (next (use_of b) (next (export_of c1) (two (declaration word.Var d1) (tree kind.LabeledStmt (next span (two (name kind.Ident e1) (tree kind.EmptyStmt (one span)))))))))

abbrev a_there : Path
a_there = 1 ∷ 0 ∷ 1 ∷ []

abbrev c_there : Path
c_there = 1 ∷ 2 ∷ 1 ∷ 0 ∷ 1 ∷ []

abbrev d_there : Path
d_there = 1 ∷ 3 ∷ 2 ∷ 0 ∷ 1 ∷ []

abbrev e_there : Path
e_there = 1 ∷ 4 ∷ 1 ∷ []

-- `d` alone is bound
abbrev binds_d : Path → Standing → Id → Bool
binds_d p r x = not (is_binding r) || same x (id_of d1)

only_d_is_bound : (x : Id) → IsBound (draw program) x → same x (id_of d1) ≡ true
only_d_is_bound x (p, r, s, binds) = if_so _ _ (passes program binds_d refl p r x s) binds

d_is_bound : IsBound (draw program) (id_of d1)
d_is_bound = (d_there, standing.Variable, id_is program d_there, refl)

no_list : (p : Path) → in_list_drawn program p ≡ false → ¬ InExportList (draw program) p
no_list p n h = let z : false ≡ true = sym n ∙ in_list_seen program p h in absurd (cc)

pub free_name_is_loose : IsLoose (draw program) (id_of a1)
free_name_is_loose = record { path = a_there; standing = standing.Reference; stands = id_is program a_there; named = refl; outside = no_list a_there refl; marked = λ e. absurd (cc); unbound = λ h. let z : false ≡ true = only_d_is_bound (id_of a1) h in absurd (cc) }

pub label_is_loose : IsLoose (draw program) (id_of e1)
label_is_loose = record { path = e_there; standing = standing.Label; stands = id_is program e_there; named = refl; outside = no_list e_there refl; marked = λ e. absurd (cc); unbound = λ h. let z : false ≡ true = only_d_is_bound (id_of e1) h in absurd (cc) }

pub bound_id_is_not : ¬ IsLoose (draw program) (id_of d1)
bound_id_is_not l = l.unbound d_is_bound

pub id_without_context_is_not : ¬ IsLoose (draw program) (id_of b)
id_without_context_is_not l = l.marked refl

-- `c` stands in the export list alone
abbrev c_in_list : Path → Standing → Id → Bool
c_in_list p r x = not (same x (id_of c1)) || bytes_eq p c_there

abbrev in_program : Place
in_program = record { standing = standing.Plain; strict = true; nested = false }

abbrev export_fields : Drawings
export_fields = inner (export_of c1)

in_its_list : InExportList (draw program) c_there
in_its_list = (1 ∷ 2 ∷ [], 0 ∷ 1 ∷ [], 1, in_program, kind.NamedExport, draws export_fields, refl, stands_is (1 ∷ 2 ∷ []) program_place program, refl)

pub exported_id_is_not : ¬ IsLoose (draw program) (id_of c1)
exported_id_is_not l = l.outside (subst (InExportList (draw program)) (sym (path_is l.path c_there (if_so _ _ (passes program c_in_list refl l.path l.standing (id_of c1) l.stands) refl))) in_its_list)

-- preserved texts
pub text_of_loose_id : IsPreserved (draw program) (λ x. false) (codes "a")
text_of_loose_id = (id_of a1, refl, inl free_name_is_loose)

pub text_that_the_renamer_preserves : IsPreserved (draw program) (λ x. same x (id_of d1)) (codes "d")
text_that_the_renamer_preserves = (id_of d1, refl, inr refl)

abbrev d_by_text : Path → Standing → Id → Bool
d_by_text p r x = not (bytes_eq x.0 (codes "d")) || same x (id_of d1)

pub text_of_bound_id_is_not_preserved : ¬ IsPreserved (draw program) (λ x. false) (codes "d")
text_of_bound_id_is_not_preserved (x, e, inr h) = absurd (cc)
text_of_bound_id_is_not_preserved (x, e, inl l) =
    let its_text : bytes_eq x.0 (codes "d") ≡ true = ap (λ t. bytes_eq t (codes "d")) e ∙ itself (codes "d") in
    bound_id_is_not (subst (IsLoose (draw program)) (id_is_same x (id_of d1) (if_so _ _ (passes program d_by_text refl l.path l.standing x l.stands) its_text)) l)
