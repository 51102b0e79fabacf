-- The scope of the language that declares an id of a well-scoped tree, and where it is seen.
use Rattle.std.proofs.Common.{◌≡◌, ◌≢◌, Bool, true, false, ◌||◌, IsTrue, ◌⊎◌, inl, inr, Some, List, ℕ, Contains, refl, sym, ap, ◌∙◌, subst}
use Rattle.swc_tree_marks.specs.declared.ident.Ident.{Ident}
use Rattle.swc_tree_node.specs.declared.node.Node.{Node, Identifier}
use Rattle.swc_tree_scoping.specs.declared.places.Standing.{Standing}
use Rattle.swc_tree_scoping.specs.declared.places.Standing.TheVariants as standing
use Rattle.swc_tree_scoping.specs.Places.{Path, program_place}
use Rattle.swc_tree_scoping.specs.Scopes.{is_binding, is_name, is_reference, is_taken, rounds, scope_at, taker}
use Rattle.swc_tree_scoping.specs.Declares.{DeclaredBy}
use Rattle.swc_tree_scoping.specs.Readings.{by_ids, id_name}
use Rattle.swc_tree_scoping.specs.WellScoped.{IsDeclared, OneScope, Stands, WellScoped}
use Rattle.swc_tree_renaming.specs.Apart.{HasNoSloppy}
use Rattle.swc_tree_renaming.proofs.Core.{declared_taker, first_in}
use Rattle.swc_base_rename_scoped_laws.proofs.Around.{IsSeen, seen}
use Rattle.swc_base_rename_scoped_laws.proofs.ByIds.{IsAt, rounds_by_ids, taker_by_ids, to_ids}

pub declared : (t : Node) (p : Path) (r : Standing) (i : Ident) → IsAt t p r i → IsTrue (is_binding r) → IsDeclared (by_ids t) (id_name i)
declared t p r i a b = (p, r, record { at = to_ids t p r i a; binds = b })

-- what is taken by a scope is seen from it
pub taken_seen : (t : Node) (r : Standing) (p s : Path) → taker r t p ≡ Some s → IsSeen t s p
taken_seen t r p s taken = let (whole, c, e) = first_in (λ s. is_taken r (scope_at program_place t s.0)) (rounds program_place t p) s taken in seen t s p whole c

module _ (t : Node) (none_sloppy : HasNoSloppy t) where
  pub settled : (p : Path) (r : Standing) (i : Ident) → IsAt t p r i → r ≢ standing.SloppyFunction
  settled p r i a e = none_sloppy p a.place a.kind i a.stands (a.stands_so ∙ e)

-- the scope takes all bindings of an id
abbrev pub IsHome : Node → Path → Ident → Type 0
IsHome t u i = (p : Path) (r : Standing) (j : Ident) → id_name j ≡ id_name i → IsAt t p r j → IsTrue (is_binding r) → taker r t p ≡ Some u

-- it is seen from all its names
abbrev pub IsSeenByAll : Node → Path → Ident → Type 0
IsSeenByAll t u i = (p : Path) (r : Standing) (j : Ident) → id_name j ≡ id_name i → IsAt t p r j → IsTrue (is_name r) → IsSeen t u p

stands_so : (t : Node) (p : Path) (r : Standing) (j : Ident) (x : List ℕ) → id_name j ≡ x → IsAt t p r j → Stands (by_ids t) p r x
stands_so t p r j x e a = subst (Stands (by_ids t) p r) e (to_ids t p r j a)

module _ (t : Node) (none_sloppy : HasNoSloppy t) (scoped : WellScoped t) where
  pub home : (p : Path) (r : Standing) (i : Ident) → IsAt t p r i → IsTrue (is_binding r) → (u : Path) × IsHome t u i × IsSeenByAll t u i
  home p r i a b = (one.scope, takes, sees)
    where
      one : OneScope (by_ids t) (id_name i)
      one = scoped.each_in_one_scope (id_name i) (declared t p r i a b)

      takes : IsHome t one.scope i
      takes q v j e c d = sym (taker_by_ids t v q) ∙ declared_taker (by_ids t) v q one.scope (id_name i) (settled t none_sloppy q v j c) (one.bindings q v (record { at = stands_so t q v j (id_name i) e c; binds = d }))

      sees : IsSeenByAll t one.scope i
      sees q v j e c n = by (is_binding v) refl n
        where
          by : (x : Bool) → is_binding v ≡ x → IsTrue (x || is_reference v) → IsSeen t one.scope q
          by true f h = taken_seen t v q one.scope (takes q v j e c f)
          by false f h = let (whole, inside, means) = one.references q v h (stands_so t q v j (id_name i) e c) in seen t one.scope q whole (subst (λ l. Contains l (one.scope, whole)) (rounds_by_ids t q) inside)

-- what is bound at a path is taken by the scope, or, if it is a plain function of a block of sloppy code, the scope is the
-- nearest function, static block or program
abbrev pub IsReached : Node → Standing → Path → Path → Type 0
IsReached t r p s = (taker r t p ≡ Some s) ⊎ ((r ≡ standing.SloppyFunction) × (taker standing.Variable t p ≡ Some s))

reached : (t : Node) (r : Standing) (p s : Path) (x : List ℕ) → DeclaredBy t p r x s → IsReached t r p s
reached t standing.SloppyFunction p s x (b, taken, inl (h, reach)) = inr (refl, reach)
reached t standing.SloppyFunction p s x (b, taken, inr (h, e)) = inl (taken ∙ ap Some e)
reached t standing.Variable p s x h = inl h
reached t _ p s x h = inl h

reached_by_ids : (t : Node) (r : Standing) (p s : Path) → IsReached (by_ids t) r p s → IsReached t r p s
reached_by_ids t r p s (inl e) = inl (sym (taker_by_ids t r p) ∙ e)
reached_by_ids t r p s (inr (is, e)) = inr (is, sym (taker_by_ids t standing.Variable p) ∙ e)

reached_seen : (t : Node) (r : Standing) (p s : Path) → IsReached t r p s → IsSeen t s p
reached_seen t r p s (inl e) = taken_seen t r p s e
reached_seen t r p s (inr (is, e)) = taken_seen t standing.Variable p s e

-- each name that is bound has one such scope, and is seen from it
pub reached_home : (t : Node) → WellScoped t → (p : Path) (r : Standing) (i : Ident) → IsAt t p r i → IsTrue (is_binding r) → (u : Path) × IsReached t r p u × IsSeenByAll t u i
reached_home t scoped p r i a b = (one.scope, reaches p r i refl a b, sees)
  where
    one : OneScope (by_ids t) (id_name i)
    one = scoped.each_in_one_scope (id_name i) (declared t p r i a b)

    reaches : (q : Path) (v : Standing) (j : Ident) → id_name j ≡ id_name i → IsAt t q v j → IsTrue (is_binding v) → IsReached t v q one.scope
    reaches q v j e c d = reached_by_ids t v q one.scope (reached (by_ids t) v q one.scope (id_name i) (one.bindings q v (record { at = stands_so t q v j (id_name i) e c; binds = d })))

    sees : IsSeenByAll t one.scope i
    sees q v j e c n = by (is_binding v) refl n
      where
        by : (x : Bool) → is_binding v ≡ x → IsTrue (x || is_reference v) → IsSeen t one.scope q
        by true f h = reached_seen t v q one.scope (reaches q v j e c f)
        by false f h = let (whole, inside, means) = one.references q v h (stands_so t q v j (id_name i) e c) in seen t one.scope q whole (subst (λ l. Contains l (one.scope, whole)) (rounds_by_ids t q) inside)
