-- Ids that meet in a program by the paths, meet in it by the fold.
use Rattle.std.proofs.Common.{◌≡◌, ℕ, zero, suc, Bool, true, false, ◌&&◌, ◌==◌, IsTrue, ◌⊎◌, inl, inr, ⊎_elim, Option, Some, None, List, [], ◌∷◌, ◌++◌, Contains, refl, sym, ap, ◌∙◌, subst, cond}
use Rattle.std.specs.List.{slice_get}
use Rattle.swc_tree_marks.specs.declared.ident.Ident.{Ident}
use Rattle.swc_tree_node.specs.declared.kind.Kind.{Kind}
use Rattle.swc_tree_node.specs.declared.kind.Kind.TheVariants as kind
use Rattle.swc_tree_node.specs.declared.fields.statements.fn_decl.TheConstants as fn_decl
use Rattle.swc_tree_node.specs.declared.node.Node.{Node, Identifier, out-Node}
use Rattle.swc_tree_node.specs.declared.node.Node.TheOpen.{Node-F}
use Rattle.swc_tree_node.specs.declared.node.Node.TheVariants.{outs-Identifier}
use Rattle.swc_tree_scoping.specs.declared.places.Place.{Place}
use Rattle.swc_tree_scoping.specs.Places.{Path, child, children_in, given, place_at, place_below, program_place}
use Rattle.swc_tree_scoping.specs.Scopes.{is_binding, is_name}
use Rattle.swc_tree_scoping.specs.BoundNames.{Id, name_in, name_of}
use Rattle.swc_tree_scoping.proofs.Under.{no_place_under, place_under}
use Rattle.swc_tree_sites.specs.Smaller.{In}
use Rattle.swc_tree_sites.proofs.Loose.{some_same}
use Rattle.swc_base_rename_analysis.specs.Analysis.{Declares, IsOwnName, IsRound, OccursIn, first_taking, function_has_rest_or_default, scopes_round, uses_own_name}
use Rattle.swc_base_rename_analysis.specs.Walk.{own_name_below}
use Rattle.swc_base_rename_analysis_laws.proofs.Rounds.{step_by_step}
use Rattle.swc_base_rename_scoped_laws.proofs.ByIds.{IsAt, from_id}
use Rattle.swc_base_renaming_laws.specs.Settled.{MeetingsAreMet}
use Rattle.swc_base_renaming_laws.specs.Meetings.{id_of, met, used}
use Rattle.swc_base_renaming_laws.proofs.Meets.{OwnUse, Uses, own_of, pairs_to}

-- a function that counts as using its name has its function below it, and there the name
record Owns (y : Node-F Node) (i : Ident) : Type 0 where
  pub function : Node
  pub there : slice_get (children_in y) fn_decl.FUNCTION ≡ Some function
  pub named : own_of y fn_decl.FUNCTION ≡ Some i

given_some : (o : Option Node) (g : Node → Bool) → given o false g ≡ true → (c : Node) × (o ≡ Some c)
given_some None g h = absurd (cc)
given_some (Some c) g h = (c, refl)

named_there : (b : Bool) (o : Option Ident) (i : Ident) → b ≡ true → o ≡ Some i → cond b o None ≡ Some i
named_there b o i h e = ap (λ b. cond b o None) h ∙ e

owns : (y : Node-F Node) (i : Ident) → uses_own_name y ≡ true → name_of (slice_get (children_in y) fn_decl.IDENT) ≡ Some i → Owns y i
owns (Node-F.Tree kind.FnDecl ts) i h e =
    let (c, there) = given_some (slice_get ts fn_decl.FUNCTION) (λ c. function_has_rest_or_default (out-Node c)) h in
    record { function = c; there = there; named = named_there (uses_own_name (Node-F.Tree kind.FnDecl ts)) (name_of (slice_get ts fn_decl.IDENT)) i h e }
owns (Node-F.Tree kind.FnExpr ts) i h e =
    let (c, there) = given_some (slice_get ts fn_decl.FUNCTION) (λ c. function_has_rest_or_default (out-Node c)) h in
    record { function = c; there = there; named = named_there (uses_own_name (Node-F.Tree kind.FnExpr ts)) (name_of (slice_get ts fn_decl.IDENT)) i h e }
owns y i h e = absurd (cc)

name_is : (t : Node) (k : Kind) (i : Ident) → t ≡ Identifier k i → name_of (Some t) ≡ Some i
name_is t k i e = ap (λ t. name_in (out-Node t)) e ∙ ap name_in (outs-Identifier k i)

own_use : (q : Path) (w v u : Place) (t g : Node) (k : Kind) (i : Ident) (y : Id) → place_at w t q ≡ Some (v, g) → uses_own_name (out-Node g) ≡ true → place_at w t (q ++ (fn_decl.IDENT ∷ [])) ≡ Some (u, Identifier k i) → id_of i ≡ y
    → OwnUse w t (q ++ (fn_decl.FUNCTION ∷ [])) y
own_use [] w v u t g k i y h uses named same = by (child t fn_decl.IDENT) refl
  where
    is : g ≡ t
    is = sym (ap (λ (q : Place × Node). q.1) (some_same (w, t) (v, g) h))

    by : (o : Option Node) → child t fn_decl.IDENT ≡ o → OwnUse w t (fn_decl.FUNCTION ∷ []) y
    by None e = let z = sym named ∙ no_place_under w t fn_decl.IDENT [] e in absurd (cc)
    by (Some c) e =
        let node : c ≡ Identifier k i = ap (λ (q : Place × Node). q.1) (some_same (place_below w t fn_decl.IDENT, c) (u, Identifier k i) (sym (place_under w t c fn_decl.IDENT [] e) ∙ named)) in
        let it = owns (out-Node t) i (subst (λ g. uses_own_name (out-Node g) ≡ true) is uses) (ap name_of e ∙ name_is c k i node) in
        (it.function, it.there, inl (refl, subst (λ o. In y (used o)) (sym it.named) (inl same)))
own_use (j ∷ q) w v u t g k i y h uses named same = by (child t j) refl (λ c. own_use q (place_below w t j) v u c g k i y)
  where
    by : (o : Option Node) → child t j ≡ o
        → ((c : Node) → place_at (place_below w t j) c q ≡ Some (v, g) → uses_own_name (out-Node g) ≡ true → place_at (place_below w t j) c (q ++ (fn_decl.IDENT ∷ [])) ≡ Some (u, Identifier k i) → id_of i ≡ y
        → OwnUse (place_below w t j) c (q ++ (fn_decl.FUNCTION ∷ [])) y)
        → OwnUse w t ((j ∷ q) ++ (fn_decl.FUNCTION ∷ [])) y
    by None e more = let z = sym h ∙ no_place_under w t j q e in absurd (cc)
    by (Some c) e more = (c, e, inr (more c (sym (place_under w t c j q e) ∙ h) uses (sym (place_under w t c j (q ++ (fn_decl.IDENT ∷ [])) e) ∙ named) same))

pub meetings_are_met : MeetingsAreMet
meetings_are_met t s p x y d o = at (from_id t p d.standing x d.stands) (from_id t o.path o.standing y o.stands)
  where
    at : (i : Ident) × IsAt t p d.standing i × (id_of i ≡ x) → (j : Ident) × IsAt t o.path o.standing j × (id_of j ≡ y) → In {X = Id × Id} (x, y) (met t).pairs
    at (i, at_i, name_i) (j, at_j, name_j) =
        subst (λ (x : Id). In {X = Id × Id} (x, y) (met t).pairs) name_i
        (pairs_to p s false None program_place at_i.place t at_i.kind i y at_i.stands (ap is_binding at_i.stands_so ∙ d.binds) (ap (λ r. first_taking r (scopes_round t p)) at_i.stands_so ∙ d.taken) used_so)
      where
        used_so : Uses false None program_place t s y
        used_so = ⊎_elim
            (λ (r : IsRound t s o.path).
            inl (record { path = o.path; place = at_j.place; kind = at_j.kind; name = j; stands = at_j.stands; names = ap is_name at_j.stands_so ∙ o.names; same = name_j; inside = step_by_step o.path s false program_place t r.0 r.1 }))
            (λ (n : IsOwnName t s o.path).
            let (q, w, g, at_p, at_s, there, uses) = n in
            inr (inl (subst (λ s. OwnUse program_place t s y) (sym at_s)
            (own_use q program_place w at_j.place t g at_j.kind j y there uses (ap (place_at program_place t) (sym at_p) ∙ at_j.stands) name_j)))) o.inside
