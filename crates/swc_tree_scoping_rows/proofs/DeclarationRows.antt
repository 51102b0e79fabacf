-- Declarations against the rules and by them, exports, and the names of strict code.
use Rattle.std.specs.Str.{bytes_eq}
use Rattle.std.proofs.Common.{◌≡◌, ℕ, Bool, true, false, IsTrue, ◌⊎◌, inl, inr, ⊎_elim, Some, List, [], ◌∷◌, codes, refl, sym, ap, ◌∙◌, subst}
use Rattle.swc_tree_marks.specs.declared.ident.Ident.{Ident}
use Rattle.swc_tree_node.specs.declared.kind.Kind.TheVariants as kind
use Rattle.swc_tree_node.specs.declared.kind.Word.TheVariants as word
use Rattle.swc_tree_scoping.specs.declared.places.Standing.{Standing}
use Rattle.swc_tree_scoping.specs.declared.places.Standing.TheVariants as standing
use Rattle.swc_tree_scoping.specs.Places.{Path, program_place}
use Rattle.swc_tree_scoping.specs.Scopes.{is_taken, rounds, scope_at}
use Rattle.swc_tree_scoping.specs.Declares.{Bound, BoundAs, Declares, PassesNone, is_lexical}
use Rattle.swc_tree_scoping.specs.Readings.{by_texts}
use Rattle.swc_tree_scoping.specs.WellScoped.{Binds, ExportsDeclared, InExportList, IsDeclared, IsLexical, NoEvalOrArguments, NoParameterTwice, NoVariablePasses, NoneTwice, is_catch_parameter}
use Rattle.swc_tree_scoping_rows.proofs.Drawn.{Drawing, Drawings.next, draw, draws, inner, rounds_drawn, rounds_is, scope_drawn, scope_is, stands_is}
use Rattle.swc_tree_scoping_rows.proofs.Sites.{apart_by, arrow, at, binds, block, declaration, each_binds, each_bound, each_stands, export_of, identifier, in_block, is_bound, module_of, one, stands, taken, texts, texts_are, try_catch, two}

abbrev a : Ident
a = identifier (codes "a") []

abbrev b : Ident
b = identifier (codes "b") []

abbrev is_a : List ℕ → Bool
is_a x = bytes_eq x (codes "a")

abbrev is_b : List ℕ → Bool
is_b x = bytes_eq x (codes "b")

abbrev name_in : ℕ → Path
name_in i = 1 ∷ i ∷ 2 ∷ 0 ∷ 1 ∷ []

-- `let a; export { a };`
abbrev exported : Drawing
exported = module_of (two (declaration word.Let a) (export_of a))

pub exports_declared : ExportsDeclared (draw exported)
exports_declared p x l s = each_stands exported (λ p r x. r ≡ standing.Reference → Declares (draw exported) [] x)
    (λ e. absurd (cc), (λ e. inl (standing.Lexical, refl, is_bound exported [] (name_in 0) (at standing.Lexical) kind.BindingIdent a refl refl refl), tt)) p standing.Reference x s refl

-- `export { a };`
abbrev exported_only : Drawing
exported_only = module_of (one (export_of a))

nothing_bound : (s : Path) (r : Standing) (x : List ℕ) → Bound (draw exported_only) s r x → ⊥
nothing_bound s r x h = each_bound exported_only s (λ r x. ⊥) (λ e. absurd (cc), tt) r x h

abbrev list_there : Path
list_there = 1 ∷ 0 ∷ []

in_list : InExportList (draw exported_only) (1 ∷ 0 ∷ 1 ∷ 0 ∷ 1 ∷ [])
in_list = (list_there, 0 ∷ 1 ∷ [], 1, at standing.Plain, kind.NamedExport, draws (inner (export_of a)), refl, stands_is list_there program_place exported_only, refl)

pub export_undeclared : ¬ ExportsDeclared (draw exported_only)
export_undeclared h = ⊎_elim (λ (r, w, g). nothing_bound [] r (codes "a") g) (⊎_elim (λ g. nothing_bound [] standing.SloppyFunction (codes "a") g.0) (λ g. nothing_bound g.block standing.SloppyFunction (codes "a") g.bound))
    (h (1 ∷ 0 ∷ 1 ∷ 0 ∷ 1 ∷ []) (codes "a") in_list (stands exported_only (1 ∷ 0 ∷ 1 ∷ 0 ∷ 1 ∷ []) (at standing.Reference) kind.Ident a refl))

-- `let b; var a; var a;`
abbrev declared_twice_by_var : Drawing
declared_twice_by_var = module_of (next (declaration word.Let b) (two (declaration word.Var a) (declaration word.Var a)))

lexical_one : (p : Path) (r : Standing) (x : List ℕ) → Binds (draw declared_twice_by_var) p r x → IsLexical (draw declared_twice_by_var) p r → (p ≡ name_in 0) × (x ≡ codes "b")
lexical_one p r x h l = each_binds declared_twice_by_var (λ p r x. IsLexical (draw declared_twice_by_var) p r → (p ≡ name_in 0) × (x ≡ codes "b"))
    (λ z l. (refl, refl), (λ z l. absurd (variable (name_in 1) l), (λ z l. absurd (variable (name_in 2) l), tt))) p r x h l
  where
    variable : (p : Path) → IsLexical (draw declared_twice_by_var) p standing.Variable → ⊥
    variable p (inl l) = absurd (cc)
    variable p (inr l) = let z = l.0 in absurd (cc)

of_that_name : (p : Path) (r : Standing) (x : List ℕ) → Binds (draw declared_twice_by_var) p r x → x ≡ codes "b" → p ≡ name_in 0
of_that_name p r x h e = each_binds declared_twice_by_var (λ p r x. x ≡ codes "b" → p ≡ name_in 0)
    (λ z e. refl, (λ z e. absurd (apart_by is_a e refl refl), (λ z e. absurd (apart_by is_a e refl refl), tt))) p r x h e

pub none_twice : NoneTwice (draw declared_twice_by_var)
none_twice x s p q r u h g d e l = let (f, n) = lexical_one p r x h l in inl (f ∙ sym (of_that_name q u x g n))

-- `let a; let a;`
abbrev pub declared_twice : Drawing
declared_twice = module_of (two (declaration word.Let a) (declaration word.Let a))

pub twice : ¬ NoneTwice (draw declared_twice)
twice h = ⊎_elim (λ e. apart_by (λ p. bytes_eq p (name_in 0)) e refl refl) (λ q. let f = q.0 in absurd (cc))
    (h (codes "a") [] (name_in 0) (name_in 1) standing.Lexical standing.Lexical
    (binds declared_twice (name_in 0) (at standing.Lexical) kind.BindingIdent a refl refl)
    (binds declared_twice (name_in 1) (at standing.Lexical) kind.BindingIdent a refl refl)
    (taken declared_twice standing.Lexical (name_in 0) (Some []) refl)
    (taken declared_twice standing.Lexical (name_in 1) (Some []) refl)
    (inl refl))

-- `{ let a; { var b; } }`
abbrev nested_var : Ident → Drawing
nested_var i = module_of (one (block (two (declaration word.Let a) (block (one (declaration word.Var i))))))

abbrev inner_name : Path
inner_name = 1 ∷ 0 ∷ 1 ∷ 1 ∷ 1 ∷ 0 ∷ 2 ∷ 0 ∷ 1 ∷ []

-- a list of rounds of a drawing
passes : (ways : Standing → Bool) (e : Drawing) (x : List ℕ) (p : Path) → PassesNone ways (draw e) x (rounds_drawn program_place e p) → PassesNone ways (draw e) x (rounds program_place (draw e) p)
passes ways e x p h = subst (PassesNone ways (draw e) x) (sym (rounds_is p program_place e)) h

takes_variables : (e : Drawing) (s : Path) (b : Bool) → is_taken standing.Variable (scope_drawn program_place e s) ≡ b → is_taken standing.Variable (scope_at program_place (draw e) s) ≡ b
takes_variables e s b h = ap (is_taken standing.Variable) (scope_is program_place e s) ∙ h

no_b : (s : Path) → ¬ BoundAs is_lexical (draw (nested_var b)) s (codes "b")
no_b s (r, l, h) = each_bound (nested_var b) s (λ r x. IsTrue (is_lexical r) → x ≡ codes "b" → ⊥) (λ k l e. apart_by is_a e refl refl, (λ k l e. absurd (cc), tt)) r (codes "b") h l refl

pub no_variable_passes : NoVariablePasses is_lexical (draw (nested_var b))
no_variable_passes p x s = each_stands (nested_var b) (λ p r x. r ≡ standing.Variable → PassesNone is_lexical (draw (nested_var b)) x (rounds program_place (draw (nested_var b)) p))
    (λ e. absurd (cc), (λ e. passes is_lexical (nested_var b) (codes "b") inner_name (inr (no_b _, inr (no_b _, inl (takes_variables (nested_var b) [] true refl)))), tt)) p standing.Variable x s refl

-- `{ let a; { var a; } }`
pub variable_passes : ¬ NoVariablePasses is_lexical (draw (nested_var a))
variable_passes h = at_inner (subst (PassesNone is_lexical (draw (nested_var a)) (codes "a")) (rounds_is inner_name program_place (nested_var a)) (h inner_name (codes "a") (stands (nested_var a) inner_name (in_block standing.Variable) kind.BindingIdent a refl)))
  where
    no_variables : (s : Path) → is_taken standing.Variable (scope_drawn program_place (nested_var a) s) ≡ false → IsTrue (is_taken standing.Variable (scope_at program_place (draw (nested_var a)) s)) → ⊥
    no_variables s n h = let z : true ≡ false = sym h ∙ takes_variables (nested_var a) s false n in absurd (cc)

    at_outer : PassesNone is_lexical (draw (nested_var a)) (codes "a") ((1 ∷ 0 ∷ [], true) ∷ ([], true) ∷ []) → ⊥
    at_outer (inl h) = no_variables (1 ∷ 0 ∷ []) refl h
    at_outer (inr h) = h.0 (standing.Lexical, refl, is_bound (nested_var a) (1 ∷ 0 ∷ []) (1 ∷ 0 ∷ 1 ∷ 0 ∷ 2 ∷ 0 ∷ 1 ∷ []) (in_block standing.Lexical) kind.BindingIdent a refl refl refl)

    at_inner : PassesNone is_lexical (draw (nested_var a)) (codes "a") (rounds_drawn program_place (nested_var a) inner_name) → ⊥
    at_inner (inl h) = no_variables (1 ∷ 0 ∷ 1 ∷ 1 ∷ []) refl h
    at_inner (inr h) = at_outer h.1

-- `(a, b) => {};`
abbrev parameter : ℕ → Path
parameter i = 1 ∷ 0 ∷ 1 ∷ 1 ∷ i ∷ []

abbrev arrow_of : Ident → Drawing
arrow_of i = module_of (one (arrow a i))

which_parameter : (p : Path) (x : List ℕ) → (r : Standing) → Binds (draw (arrow_of b)) p r x → ((p ≡ parameter 0) × (x ≡ codes "a")) ⊎ ((p ≡ parameter 1) × (x ≡ codes "b"))
which_parameter p x r h = each_binds (arrow_of b) (λ p r x. ((p ≡ parameter 0) × (x ≡ codes "a")) ⊎ ((p ≡ parameter 1) × (x ≡ codes "b"))) (λ z. inl (refl, refl), (λ z. inr (refl, refl), tt)) p r x h

pub no_parameter_twice : NoParameterTwice (draw (arrow_of b))
no_parameter_twice x f p q h g d e s = same (which_parameter p x standing.Parameter (record { at = h; binds = refl })) (which_parameter q x standing.Parameter (record { at = g; binds = refl }))
  where
    same : ((p ≡ parameter 0) × (x ≡ codes "a")) ⊎ ((p ≡ parameter 1) × (x ≡ codes "b")) → ((q ≡ parameter 0) × (x ≡ codes "a")) ⊎ ((q ≡ parameter 1) × (x ≡ codes "b")) → p ≡ q
    same (inl m) (inl n) = m.0 ∙ sym n.0
    same (inr m) (inr n) = m.0 ∙ sym n.0
    same (inl m) (inr n) = absurd (apart_by is_a (sym m.1 ∙ n.1) refl refl)
    same (inr m) (inl n) = absurd (apart_by is_b (sym m.1 ∙ n.1) refl refl)

-- `(a, a) => {};`
pub parameter_twice : ¬ NoParameterTwice (draw (arrow_of a))
parameter_twice h = apart_by (λ p. bytes_eq p (parameter 0))
    (h (codes "a") (1 ∷ 0 ∷ 1 ∷ []) (parameter 0) (parameter 1) (stands (arrow_of a) (parameter 0) (at standing.Parameter) kind.BindingIdent a refl)
    (stands (arrow_of a) (parameter 1) (at standing.Parameter) kind.BindingIdent a refl)
    (taken (arrow_of a) standing.Parameter (parameter 0) (Some (1 ∷ 0 ∷ 1 ∷ [])) refl)
    (taken (arrow_of a) standing.Parameter (parameter 1) (Some (1 ∷ 0 ∷ 1 ∷ [])) refl)
    (inl refl))
    refl
    refl

-- `try {} catch (a) { var b; }`
abbrev caught : Ident → Drawing
caught i = module_of (one (try_catch a (one (declaration word.Var i))))

abbrev caught_name : Path
caught_name = 1 ∷ 0 ∷ 2 ∷ 2 ∷ 1 ∷ 0 ∷ 2 ∷ 0 ∷ 1 ∷ []

no_caught : (s : Path) → ¬ BoundAs is_catch_parameter (draw (caught b)) s (codes "b")
no_caught s (r, l, h) = each_bound (caught b) s (λ r x. IsTrue (is_catch_parameter r) → x ≡ codes "b" → ⊥) (λ k l e. apart_by is_a e refl refl, (λ k l e. absurd (cc), tt)) r (codes "b") h l refl

pub no_caught_variable : NoVariablePasses is_catch_parameter (draw (caught b))
no_caught_variable p x s = each_stands (caught b) (λ p r x. r ≡ standing.Variable → PassesNone is_catch_parameter (draw (caught b)) x (rounds program_place (draw (caught b)) p))
    (λ e. absurd (cc), (λ e. passes is_catch_parameter (caught b) (codes "b") caught_name (inr (no_caught _, inl (takes_variables (caught b) [] true refl))), tt)) p standing.Variable x s refl

-- `try {} catch (a) { var a; }`
pub caught_variable : ¬ NoVariablePasses is_catch_parameter (draw (caught a))
caught_variable h = at_clause (subst (PassesNone is_catch_parameter (draw (caught a)) (codes "a")) (rounds_is caught_name program_place (caught a)) (h caught_name (codes "a") (stands (caught a) caught_name (in_block standing.Variable) kind.BindingIdent a refl)))
  where
    at_clause : PassesNone is_catch_parameter (draw (caught a)) (codes "a") (rounds_drawn program_place (caught a) caught_name) → ⊥
    at_clause (inl h) = let z : true ≡ false = sym h ∙ takes_variables (caught a) (1 ∷ 0 ∷ 2 ∷ []) false refl in absurd (cc)
    at_clause (inr h) = h.0 (standing.CatchParameter, refl, is_bound (caught a) (1 ∷ 0 ∷ 2 ∷ []) (1 ∷ 0 ∷ 2 ∷ 1 ∷ []) (in_block standing.CatchParameter) kind.BindingIdent a refl refl refl)

-- `let a;`, and `let eval;`
abbrev pub one_let : Ident → Drawing
one_let i = module_of (one (declaration word.Let i))

only_a : (y : List ℕ) → bytes_eq y (codes "a") ≡ false → IsDeclared (by_texts (draw (one_let a))) y → ⊥
only_a y n h = none (subst (λ t. IsDeclared t y) (texts_are (one_let a)) h)
  where
    none : IsDeclared (draw (texts (one_let a))) y → ⊥
    none (p, r, b) = each_binds (texts (one_let a)) (λ p r x. x ≡ y → ⊥) (λ z e. apart_by is_a e refl n, tt) p r y b refl

pub no_eval_or_arguments : NoEvalOrArguments (draw (one_let a))
no_eval_or_arguments = (only_a (codes "eval") refl, only_a (codes "arguments") refl)

abbrev pub eval : Ident
eval = identifier (codes "eval") []

pub eval_declared : ¬ NoEvalOrArguments (draw (one_let eval))
eval_declared h = h.0 (subst (λ t. IsDeclared t (codes "eval")) (sym (texts_are (one_let eval))) (name_in 0, standing.Lexical, binds (texts (one_let eval)) (name_in 0) (at standing.Lexical) kind.BindingIdent eval refl refl))
