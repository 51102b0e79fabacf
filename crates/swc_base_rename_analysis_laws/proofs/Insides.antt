-- By the paths of names: those that stand in a scope are those that have their positions in its stretch.
use Rattle.std.proofs.Common.{◌≡◌, ◌↔◌, ℕ, Bool, true, false, IsTrue, inl, inr, ⊎_elim, [], ◌∷◌, ◌++◌, Contains, refl, sym, ap, ◌∙◌, subst}
use Rattle.swc_tree_marks.specs.declared.ident.Ident.{Ident}
use Rattle.swc_tree_node.specs.declared.fields.statements.fn_decl.TheConstants as fn_decl
use Rattle.swc_tree_node.specs.declared.kind.Kind.TheVariants as kind
use Rattle.swc_tree_node.specs.declared.node.Node.{Node, out-Node}
use Rattle.swc_tree_node.specs.declared.node.Node.TheOpen.{Node-F}
use Rattle.swc_tree_scoping.specs.declared.places.Place.{Place}
use Rattle.swc_tree_scoping.specs.Places.{Path, program_place}
use Rattle.swc_base_rename_analysis.specs.Analysis.{IsOwnName, opened_round, scopes_round, uses_own_name}
use Rattle.swc_base_rename_analysis.specs.Laws.{is_body_at}
use Rattle.swc_base_rename_analysis_laws.specs.Placed.{IsInside, own_at}
use Rattle.swc_base_rename_analysis_laws.proofs.Added.{IsOwnHome}
use Rattle.swc_base_rename_analysis_laws.proofs.Contexts.{IsNamedFunction, ends_alike}
use Rattle.swc_base_rename_analysis_laws.proofs.Good.{Home, InHome, use_as, use_of}
use Rattle.swc_base_rename_analysis_laws.proofs.Marked.{below, name_beside}
use Rattle.swc_base_rename_analysis_laws.proofs.Paths.{IsAt, opened_at, scopes_step}

-- the path of a function's name, beside the function
pub beside : (q : Path) → name_beside (below q fn_decl.FUNCTION) ≡ below q fn_decl.IDENT
beside [] = refl
beside (i ∷ []) = refl
beside (i ∷ j ∷ q) = ap (λ p. i ∷ p) (beside (j ∷ q))

-- the name and the function stand in the same scopes
opened_alike : (f : Bool) (w : Place) (y : Node-F Node) (i j : ℕ) → IsTrue (uses_own_name y) → opened_round f w y i ≡ opened_round f w y j
opened_alike f w (Node-F.Tree kind.FnDecl ts) i j h = refl
opened_alike f w (Node-F.Tree kind.FnExpr ts) i j h = refl
opened_alike f w y i j h = absurd (cc)

scopes_alike : (t : Node) (q : Path) (v : Place) (f : Node) → IsAt program_place t q v f → IsTrue (uses_own_name (out-Node f)) → scopes_round t (below q fn_decl.IDENT) ≡ scopes_round t (below q fn_decl.FUNCTION)
scopes_alike t q v f there uses =
    scopes_step q fn_decl.IDENT false program_place t v f there
    ∙ ap (λ l. opened_at q l ++ scopes_round t q) (opened_alike (is_body_at false t q) v (out-Node f) fn_decl.IDENT fn_decl.FUNCTION uses)
    ∙ sym (scopes_step q fn_decl.FUNCTION false program_place t v f there)

no_use : {A : Type 0} → IsTrue false → A
no_use h = absurd (cc)

-- a name of a place stands in a scope just if its use does
pub inside_home : (t : Node) (s : Path) (x : Home) → IsOwnHome t x → InHome t s x ↔ IsInside t s (use_of x)
inside_home t s x own = by x.owned refl
  where
    by : (b : Bool) → x.owned ≡ b → InHome t s x ↔ IsInside t s (use_as b x.place)
    by false e = (⊎_elim (λ round. inl round) (λ (o : IsTrue x.owned × (s ≡ x.place)). no_use (sym e ∙ o.0)), ⊎_elim (λ round. inl round) (λ (o : IsTrue false × IsOwnName t s x.place). no_use o.0))
    by true e = of_function (own e)
      where
        of_function : (y : Ident) × IsNamedFunction t x.place y → InHome t s x ↔ IsInside t s (own_at (name_beside x.place))
        of_function (y, (q, v, f, path, there, uses, name)) = (to, from)
          where
            at_name : name_beside x.place ≡ below q fn_decl.IDENT
            at_name = ap name_beside path ∙ beside q

            around : scopes_round t (name_beside x.place) ≡ scopes_round t x.place
            around = ap (scopes_round t) at_name ∙ scopes_alike t q v f there uses ∙ ap (scopes_round t) (sym path)

            to : InHome t s x → IsInside t s (own_at (name_beside x.place))
            to (inl (k, c)) = inl (k, subst (λ l. Contains l (s, k)) (sym around) c)
            to (inr (_, same)) = inr (refl, (q, v, f, at_name, same ∙ path, there, uses))

            from : IsInside t s (own_at (name_beside x.place)) → InHome t s x
            from (inl (k, c)) = inl (k, subst (λ l. Contains l (s, k)) around c)
            from (inr (_, (r, w, g, name_at, function_at, _, _))) = inr (e, function_at ∙ ap (λ q. below q fn_decl.FUNCTION) (sym ((ends_alike q r fn_decl.IDENT fn_decl.IDENT (sym at_name ∙ name_at)).0)) ∙ sym path)
