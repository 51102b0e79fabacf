-- One scope of the analysis declares an id of a well-scoped plain program.
use Rattle.std.proofs.Common.{◌≡◌, ◌≢◌, ℕ, true, false, ◌⊎◌, inl, inr, ⊎_elim, Some, [], ◌∷◌, ◌++◌, refl, sym, ap, ◌∙◌, subst}
use Rattle.swc_tree_marks.specs.declared.ident.Ident.{Ident}
use Rattle.swc_tree_node.specs.declared.slot.Slot.{Slot}
use Rattle.swc_tree_node.specs.declared.node.Node.{Node, Identifier}
use Rattle.swc_tree_node.specs.Fits.{Fits}
use Rattle.swc_tree_scoping.specs.declared.places.Standing.{Standing}
use Rattle.swc_tree_scoping.specs.declared.places.Standing.TheVariants as standing
use Rattle.swc_tree_scoping.specs.Places.{Path, program_place}
use Rattle.swc_tree_scoping.specs.Scopes.{is_binding, taker}
use Rattle.swc_tree_scoping.specs.BoundNames.{Id}
use Rattle.swc_tree_scoping.specs.Declares.{is_lexical}
use Rattle.swc_tree_scoping.specs.Readings.{by_ids, id_name}
use Rattle.swc_tree_scoping.specs.WellScoped.{AreFunctionsOfOneBlock, Binds, OneScope, Stands, WellScoped}
use Rattle.swc_tree_renaming.specs.Apart.{HasNoSloppy}
use Rattle.swc_base_rename_analysis.specs.Ids.{id_at}
use Rattle.swc_base_rename_analysis.specs.Analysis.{Declares, first_taking, scopes_round}
use Rattle.swc_base_rename_scoped_laws.proofs.ByIds.{IsAt, from_id, id_of, one_name, to_ids}
use Rattle.swc_base_rename_scoped_laws.proofs.Homes.{declared, home, settled}
use Rattle.swc_base_rename_scoped_laws.proofs.Takers.{IsHeld, takers_held}
use Rattle.swc_base_renaming_laws.specs.Settled.{OneScopeDeclares}
use Rattle.swc_base_renaming_laws.proofs.Plain.{IsWithin, is_plain, plain_or_lexical, within}

-- ---- paths

nil_right : (s : Path) → s ++ [] ≡ s
nil_right [] = refl
nil_right (n ∷ s) = ap (λ l. n ∷ l) (nil_right s)

regrouped : (xs ys zs : Path) → (xs ++ ys) ++ zs ≡ xs ++ (ys ++ zs)
regrouped [] ys zs = refl
regrouped (x ∷ xs) ys zs = ap (λ l. x ∷ l) (regrouped xs ys zs)

rest_of : (x y : ℕ) (xs ys : Path) → (x ∷ xs) ≡ (y ∷ ys) → xs ≡ ys
rest_of x y xs ys e = cc

no_growth : (s c : Path) → s ≡ s ++ c → c ≡ []
no_growth [] c e = sym e
no_growth (n ∷ s) c e = no_growth s c (rest_of n n s (s ++ c) e)

first_empty : (a b : Path) → a ++ b ≡ [] → a ≡ []
first_empty [] b e = refl
first_empty (n ∷ a) b e = absurd (cc)

-- two that go on from one another are one
one_path : (s v a b : Path) → s ≡ v ++ a → v ≡ s ++ b → s ≡ v
one_path s v a b e g =
    let none : b ++ a ≡ [] = no_growth s (b ++ a) (e ∙ ap (λ v. v ++ a) g ∙ regrouped s b a) in
    sym (nil_right s) ∙ ap (λ l. s ++ l) (sym (first_empty b a none)) ∙ sym g

some_path : {a b : Path} → Some a ≡ Some b → a ≡ b
some_path e = cc

some_pair : {a b : Standing × Id} → Some a ≡ Some b → a ≡ b
some_pair e = cc

same_standing : {a b : Standing × Id} → Some a ≡ Some b → a.0 ≡ b.0
same_standing e = ap (λ (z : Standing × Id). z.0) (some_pair e)

lexical_plain : (r : Standing) → is_plain r ≡ true → r ≡ standing.Lexical → ⊥
lexical_plain r h e = let z = ap is_plain (sym e) ∙ h in absurd (cc)

module _ (t : Node) (place : Slot) (fit : Fits t place) (none_sloppy : HasNoSloppy t) (scoped : WellScoped t) where
  -- the scope of the analysis is that of the language
  home_is : (s p v : Path) (r : Standing) (i : Ident) → IsAt t p r i → is_binding r ≡ true → is_plain r ≡ true → taker r t p ≡ Some v → first_taking r (scopes_round t p) ≡ Some s → s ≡ v
  home_is s p v r i a b plain taken found =
      at (subst (λ y. IsHeld t false r (Some v) y) found (subst (λ x. IsHeld t false r x (first_taking r (scopes_round t p))) taken (takers_held p false program_place t place (r, i) a.place a.kind fit (λ e. absurd (cc)) a.stands a.stands_so b)))
      (subst (IsWithin (Some v)) found (subst (λ x. IsWithin x (first_taking r (scopes_round t p))) taken (within p false program_place a.place t (Identifier a.kind i) r plain a.stands)))
    where
      at : IsHeld t false r (Some v) (Some s) → IsWithin (Some v) (Some s) → s ≡ v
      at (inl (rest, e)) (more, g) = one_path s v more rest g e
      at (inr (n, e, body, l)) (more, g) = absurd (lexical_plain r plain l)

  module _ (s p u q : Path) (x : Id) (d : Declares t s p x) (e : Declares t u q x) where
    -- by one binding
    where_one : p ≡ q → s ≡ u
    where_one same =
        let r_same : d.standing ≡ e.standing = same_standing (sym d.stands ∙ ap (id_at t) same ∙ e.stands) in
        some_path (sym d.taken ∙ ap (λ p. first_taking d.standing (scopes_round t p)) same ∙ ap (λ r. first_taking r (scopes_round t q)) r_same ∙ e.taken)

    module _ (i j : Ident) (at_i : IsAt t p d.standing i) (name_i : id_of i ≡ x) (at_j : IsAt t q e.standing j) (name_j : id_of j ≡ x) where
      named_j : id_name j ≡ id_name i
      named_j = one_name j i (name_j ∙ sym name_i)

      one : OneScope (by_ids t) (id_name i)
      one = scoped.each_in_one_scope (id_name i) (declared t p d.standing i at_i d.binds)

      bind_p : Binds (by_ids t) p d.standing (id_name i)
      bind_p = record { at = to_ids t p d.standing i at_i; binds = d.binds }

      bind_q : Binds (by_ids t) q e.standing (id_name i)
      bind_q = record { at = subst (Stands (by_ids t) q e.standing) named_j (to_ids t q e.standing j at_j); binds = e.binds }

      lexical_p : is_lexical d.standing ≡ true → s ≡ u
      lexical_p h = ⊎_elim where_one (λ (f : AreFunctionsOfOneBlock (by_ids t) p d.standing q e.standing). absurd (settled t none_sloppy p d.standing i at_i f.0))
          (scoped.no_redeclaration.none_twice (id_name i) one.scope p q d.standing e.standing bind_p bind_q (one.bindings p d.standing bind_p) (one.bindings q e.standing bind_q) (inl h))

      lexical_q : is_lexical e.standing ≡ true → s ≡ u
      lexical_q h = ⊎_elim (λ (same : q ≡ p). where_one (sym same)) (λ (f : AreFunctionsOfOneBlock (by_ids t) q e.standing p d.standing). absurd (settled t none_sloppy q e.standing j at_j f.0))
          (scoped.no_redeclaration.none_twice (id_name i) one.scope q p e.standing d.standing bind_q bind_p (one.bindings q e.standing bind_q) (one.bindings p d.standing bind_p) (inl h))

      both_plain : is_plain d.standing ≡ true → is_plain e.standing ≡ true → s ≡ u
      both_plain f g =
          let (v, is_home, sees) = home t none_sloppy scoped p d.standing i at_i d.binds in
          home_is s p v d.standing i at_i d.binds f (is_home p d.standing i refl at_i d.binds) d.taken
          ∙ sym (home_is u q v e.standing j at_j e.binds g (is_home q e.standing j named_j at_j e.binds) e.taken)

      one_scope : s ≡ u
      one_scope = ⊎_elim (λ f. ⊎_elim (λ g. both_plain f g) lexical_q (plain_or_lexical e.standing e.binds)) lexical_p (plain_or_lexical d.standing d.binds)

    one_declares : s ≡ u
    one_declares = let (i, at_i, name_i) = from_id t p d.standing x d.stands in let (j, at_j, name_j) = from_id t q e.standing x e.stands in one_scope i j at_i name_i at_j name_j

pub one_scope_declares : OneScopeDeclares
one_scope_declares t place fit plain scoped s p u q x d e = one_declares t place fit plain.1 scoped s p u q x d e
