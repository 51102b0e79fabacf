-- Whole trees: `let a#1; a#1;` is well-scoped, `let a; a;` has no early error of names.
use Rattle.std.specs.Str.{bytes_eq}
use Rattle.std.proofs.Common.{◌≡◌, ℕ, Bool, false, IsTrue, inl, List, [], codes, refl, sym, ◌∙◌, subst}
use Rattle.swc_tree_marks.specs.declared.ident.Ident.{Ident}
use Rattle.swc_tree_node.specs.declared.kind.Kind.TheVariants as kind
use Rattle.swc_tree_node.specs.declared.kind.Word.TheVariants as word
use Rattle.swc_tree_node.specs.declared.node.Node.{Node}
use Rattle.swc_tree_scoping.specs.declared.places.Standing.{Standing}
use Rattle.swc_tree_scoping.specs.declared.places.Standing.TheVariants as standing
use Rattle.swc_tree_scoping.specs.Places.{Path}
use Rattle.swc_tree_scoping.specs.Scopes.{is_reference}
use Rattle.swc_tree_scoping.specs.Declares.{Declares}
use Rattle.swc_tree_scoping.specs.Readings.{by_ids, by_texts, id_name}
use Rattle.swc_tree_scoping.specs.WellScoped.{Binds, ExportsDeclared, IsDeclared, IsFree, NoEarlyErrorOfNames, NoEvalOrArguments, NoRedeclaration, NoVariablePasses, NoneTwice, Stands, WellScoped}
use Rattle.swc_tree_scoping_rows.proofs.Drawn.{Drawing, draw}
use Rattle.swc_tree_scoping_rows.proofs.Names.{every_name}
use Rattle.swc_tree_scoping_rows.proofs.Sites.{apart_by, at, binds, declaration, each_binds, each_stands, identifier, ids_are, is_bound, module_of, texts_are, two, use_of}
use Rattle.swc_tree_scoping_rows.proofs.ScopeRows.{a1, declared_and_used, declared_there, has_one_scope}
use Rattle.swc_tree_scoping_rows.proofs.DeclarationRows.{eval_declared, one_let, twice, declared_twice, eval}

-- `let x; x;` of a name without context
abbrev let_of : List ℕ → Drawing
let_of x = module_of (two (declaration word.Let (identifier x [])) (use_of (identifier x [])))

module _ (x : List ℕ) where
  bound : Binds (draw (let_of x)) declared_there standing.Lexical x
  bound = binds (let_of x) declared_there (at standing.Lexical) kind.BindingIdent (identifier x []) refl refl

  declares : Declares (draw (let_of x)) [] x
  declares = inl (standing.Lexical, refl, is_bound (let_of x) [] declared_there (at standing.Lexical) kind.BindingIdent (identifier x []) refl refl refl)

  exports : ExportsDeclared (draw (let_of x))
  exports p y l s = each_stands (let_of x) (λ p r y. r ≡ standing.Reference → Declares (draw (let_of x)) [] y) (λ e. absurd (cc), (λ e. declares, tt)) p standing.Reference y s refl

  only : (p : Path) (r : Standing) (y : List ℕ) → Binds (draw (let_of x)) p r y → (p ≡ declared_there) × (y ≡ x)
  only p r y b = each_binds (let_of x) (λ p r y. (p ≡ declared_there) × (y ≡ x)) (λ b. (refl, refl), (λ b. absurd (cc), tt)) p r y b

  none_twice : NoneTwice (draw (let_of x))
  none_twice y s p q r u h g d e l = inl ((only p r y h).0 ∙ sym (only q u y g).0)

  no_standing : (u : Standing) → (standing.Lexical ≡ u → ⊥) → (standing.Reference ≡ u → ⊥) → (p : Path) (y : List ℕ) → Stands (draw (let_of x)) p u y → ⊥
  no_standing u l m p y s = each_stands (let_of x) (λ p r y. r ≡ u → ⊥) (l, (m, tt)) p u y s refl

  no_redeclaration : NoRedeclaration (draw (let_of x))
  no_redeclaration = record {
    none_twice = none_twice;
    no_variable_passes = λ p y s. absurd (no_standing standing.Variable (λ e. absurd (cc)) (λ e. absurd (cc)) p y s);
    no_parameter_twice = λ y f p q s u d e z. absurd (no_standing standing.Parameter (λ e. absurd (cc)) (λ e. absurd (cc)) p y s);
  }

  passes_none : (ways : Standing → Bool) → NoVariablePasses ways (draw (let_of x))
  passes_none ways p y s = absurd (no_standing standing.Variable (λ e. absurd (cc)) (λ e. absurd (cc)) p y s)

  not_declared : (y : List ℕ) → (x ≡ y → ⊥) → IsDeclared (draw (let_of x)) y → ⊥
  not_declared y n (p, r, b) = n (sym (only p r y b).1)

none_free : (i : Ident) → IsFree (draw declared_and_used) i → ⊥
none_free i f = every_name declared_and_used (λ q. IsTrue (is_reference q.place.standing) → ¬ IsDeclared (by_ids (draw declared_and_used)) (id_name q.identifier) → ⊥)
    (λ r n. absurd (cc), (λ r n. n declared, tt)) f.path f.place f.kind i f.stands f.refers f.undeclared
  where
    declared : IsDeclared (by_ids (draw declared_and_used)) (id_name a1)
    declared = subst (λ t. IsDeclared t (id_name a1)) (sym (ids_are declared_and_used)) (declared_there, standing.Lexical, bound (id_name a1))

other_text : (y : List ℕ) → bytes_eq y (codes "a") ≡ false → IsDeclared (draw (let_of (codes "a"))) y → ⊥
other_text y n = not_declared (codes "a") y (λ e. apart_by (λ l. bytes_eq l (codes "a")) e refl n)

no_eval_or_arguments : (t : Node) → by_texts t ≡ draw (let_of (codes "a")) → NoEvalOrArguments t
no_eval_or_arguments t e = (λ h. other_text (codes "eval") refl (subst (λ t. IsDeclared t (codes "eval")) e h), λ h. other_text (codes "arguments") refl (subst (λ t. IsDeclared t (codes "arguments")) e h))

pub well_scoped : WellScoped (draw declared_and_used)
well_scoped = record {
  each_in_one_scope = has_one_scope;
  free_apart = record { apart = λ i j f g e. absurd (none_free i f); marked = λ i f e. none_free i f };
  exports_declared = subst ExportsDeclared (sym (ids_are declared_and_used)) (exports (id_name a1));
  no_redeclaration = subst NoRedeclaration (sym (ids_are declared_and_used)) (no_redeclaration (id_name a1));
  no_caught_variable = subst (NoVariablePasses _) (sym (ids_are declared_and_used)) (passes_none (id_name a1) _);
  no_eval_or_arguments = no_eval_or_arguments (draw declared_and_used) (texts_are declared_and_used);
}

pub no_early_error : NoEarlyErrorOfNames (draw (let_of (codes "a")))
no_early_error = record {
  exports_declared = subst ExportsDeclared (sym (texts_are (let_of (codes "a")))) (exports (codes "a"));
  no_redeclaration = subst NoRedeclaration (sym (texts_are (let_of (codes "a")))) (no_redeclaration (codes "a"));
  no_eval_or_arguments = no_eval_or_arguments (draw (let_of (codes "a"))) (texts_are (let_of (codes "a")));
}

-- `let a; let a;` and `let eval;` have one
pub two_lets_are_refused : ¬ NoEarlyErrorOfNames (draw declared_twice)
two_lets_are_refused e = twice (subst NoneTwice (texts_are declared_twice) e.no_redeclaration.none_twice)

pub let_eval_is_refused : ¬ NoEarlyErrorOfNames (draw (one_let eval))
let_eval_is_refused e = eval_declared e.no_eval_or_arguments
