-- No id is declared against the rules, since no text was.
use Rattle.std.proofs.Common.{◌≡◌, ℕ, Bool, inl, inr, ⊎_elim, IsTrue, List, [], ◌∷◌, refl, sym, ap, ◌∙◌, subst}
use Rattle.swc_tree_node.specs.declared.kind.Kind.{Kind}
use Rattle.swc_tree_node.specs.declared.node.Node.{Node}
use Rattle.swc_tree_scoping.specs.declared.places.Standing.{Standing}
use Rattle.swc_tree_scoping.specs.declared.places.Standing.TheVariants as standing
use Rattle.swc_tree_scoping.specs.Places.{Path, program_place}
use Rattle.swc_tree_scoping.specs.Scopes.{Round, is_taken, rounds}
use Rattle.swc_tree_scoping.specs.Declares.{PassesNone, is_lexical}
use Rattle.swc_tree_scoping.specs.Readings.{by_ids}
use Rattle.swc_tree_scoping.specs.WellScoped.{IsArrowOrMethod, IsAt, IsLexical, NoCaughtVariable, NoParameterTwice, NoRedeclaration, NoVariablePasses, NoneTwice, Stands, has_unique_parameters, is_catch_parameter, is_method, is_module}
use Rattle.swc_tree_renaming.specs.Apart.{nameless}
use Rattle.swc_tree_renaming.proofs.Core.{declared_taker, taker_declares}
use Rattle.swc_tree_renaming.proofs.Shape.{nameless_by_ids, nameless_remarked}
use Rattle.swc_tree_renaming.proofs.Whole.{module_too}
use Rattle.swc_base_resolver_laws.proofs.Same.{impossible}
use Rattle.swc_base_resolver_laws.proofs.Names.{Resolving, contexts, name_is, name_of, no_redeclaration, no_sloppy, rounds_is, scope_is, stands_back, taker_is, text_at, tree_there}
use Rattle.swc_base_resolver_laws.proofs.Declared.{bound_back}
use Rattle.swc_base_resolver_laws.proofs.OneScope.{same_id}

catch_is_lexical : (r : Standing) → IsTrue (is_catch_parameter r) → IsTrue (is_lexical r)
catch_is_lexical standing.CatchParameter h = refl
catch_is_lexical _ h = impossible h

module _ (t u : Node) (g : Resolving t u) where
  module_back : IsTrue (is_module (by_ids u)) → IsTrue (is_module t)
  module_back = module_too (by_ids u) t (nameless_by_ids u ∙ ap nameless g.resolved.only_contexts ∙ nameless_remarked (contexts t u g) t)

  lexical_back : (p : Path) (r : Standing) → IsLexical (by_ids u) p r → IsLexical t p r
  lexical_back p r (inl h) = inl h
  lexical_back p r (inr (is, one, e)) = inr (is, module_back one, sym (taker_is t u g standing.Function p) ∙ e)

  none_twice : NoneTwice (by_ids u)
  none_twice n s p q r v a b da db lexical =
      let x = text_at t u g p r n a.at in
      let sa = stands_back t u g p r n a.at in
      let sb : Stands t q v x = subst (Stands t q v) (same_id t u g n q p v r b.at a.at).0 (stands_back t u g q v n b.at) in
      let ra = no_sloppy t u g p r x sa in
      let rb = no_sloppy t u g q v x sb in
      ⊎_elim inl (λ (h : _). absurd (ra h.0))
      ((no_redeclaration t u g).none_twice x s p q r v (record { at = sa; binds = a.binds }) (record { at = sb; binds = b.binds })
      (taker_declares t r p s x ra (sym (taker_is t u g r p) ∙ declared_taker (by_ids u) r p s n ra da))
      (taker_declares t v q s x rb (sym (taker_is t u g v q) ∙ declared_taker (by_ids u) v q s n rb db))
      (lexical_back p r lexical))

  -- what a variable passes
  passes : (ways : Standing → Bool) (n x c : List ℕ) → n ≡ name_of x c → (ss : List Round) → PassesNone ways t x ss → PassesNone ways (by_ids u) n ss
  passes ways n x c e [] h = tt
  passes ways n x c e (s ∷ ss) (inl taken) = inl (subst (λ o. IsTrue (is_taken standing.Variable o)) (sym (scope_is t u g s.0)) taken)
  passes ways n x c e (s ∷ ss) (inr (none, h)) = inr ((λ (r, way, b). none (r, way, bound_back t u g s.0 r n x c e b)), passes ways n x c e ss h)

  variable_passes : (ways : Standing → Bool) → NoVariablePasses ways t → NoVariablePasses ways (by_ids u)
  variable_passes ways h p n c =
      let x = text_at t u g p standing.Variable n c in
      subst (PassesNone ways (by_ids u) n) (sym (rounds_is t u g p))
      (passes ways n x (contexts t u g p) (name_is t u g p standing.Variable n c) (rounds program_place t p) (h p x (stands_back t u g p standing.Variable n c)))

  fewer : (x : List ℕ) (ss : List Round) → PassesNone is_lexical t x ss → PassesNone is_catch_parameter t x ss
  fewer x [] h = tt
  fewer x (s ∷ ss) (inl taken) = inl taken
  fewer x (s ∷ ss) (inr (none, h)) = inr ((λ (r, way, b). none (r, catch_is_lexical r way, b)), fewer x ss h)

  -- parameters
  at_back : (kinds : Kind → Bool) (f : Path) → IsAt kinds (by_ids u) f → IsAt kinds t f
  at_back kinds f (w, k, us, e, h) = let (ts, there) = tree_there t u g f w k us e in (w, k, ts, there, h)

  arrow_back : (f : Path) → IsArrowOrMethod (by_ids u) f → IsArrowOrMethod t f
  arrow_back f (inl h) = inl (at_back has_unique_parameters f h)
  arrow_back f (inr (q, i, e, h)) = inr (q, i, e, at_back is_method q h)

  no_parameter_twice : NoParameterTwice (by_ids u)
  no_parameter_twice n f p q a b ta tb or =
      let x = text_at t u g p standing.Parameter n a in
      let sb : Stands t q standing.Parameter x = subst (Stands t q standing.Parameter) (same_id t u g n q p standing.Parameter standing.Parameter b a).0 (stands_back t u g q standing.Parameter n b) in
      (no_redeclaration t u g).no_parameter_twice x f p q (stands_back t u g p standing.Parameter n a) sb (sym (taker_is t u g standing.Parameter p) ∙ ta) (sym (taker_is t u g standing.Parameter q) ∙ tb)
      (⊎_elim inl (λ h. inr (arrow_back f h)) or)

  pub nothing_redeclared : NoRedeclaration (by_ids u)
  nothing_redeclared = record {
    none_twice = none_twice;
    no_variable_passes = variable_passes is_lexical (no_redeclaration t u g).no_variable_passes;
    no_parameter_twice = no_parameter_twice;
  }

  pub no_caught_variable : NoCaughtVariable (by_ids u)
  no_caught_variable = variable_passes is_catch_parameter (λ p x s. fewer x (rounds program_place t p) ((no_redeclaration t u g).no_variable_passes p x s))
