-- The `require`s of helpers alone are scoped: each binds its name in the program, and refers to `require`, which is free.
use Rattle.std.proofs.Common.{◌≡◌, ◌==◌, ◌⊎◌, inl, inr, ⊎_elim, ℕ, zero, suc, Bool, true, false, IsTrue, Some, None, List, [], ◌∷◌, map, refl, sym, ap, ◌∙◌, subst, cond}
use Rattle.std.specs.List.{slice_get}
use Rattle.std.specs.Prelude.{codes}
use Rattle.swc_tree_marks.specs.declared.ident.Ident.{Ident}
use Rattle.swc_tree_node.specs.declared.kind.Kind.{Kind}
use Rattle.swc_tree_node.specs.declared.kind.Kind.TheVariants as kind
use Rattle.swc_tree_node.specs.declared.kind.Word.TheVariants as word
use Rattle.swc_tree_node.specs.declared.node.Node.{Node, Absent, Word, List as Many}
use Rattle.swc_tree_scoping.specs.declared.places.Standing.{Standing}
use Rattle.swc_tree_scoping.specs.declared.places.Standing.TheVariants as standing
use Rattle.swc_tree_scoping.specs.declared.places.Scope.TheVariants as scope
use Rattle.swc_tree_scoping.specs.Places.{Path, place_at, program_place}
use Rattle.swc_tree_scoping.specs.Scopes.{first_that, is_reference, is_taken, rounds, scope_at, taker}
use Rattle.swc_tree_scoping.specs.Declares.{DeclaredBy, PassesNone, is_lexical}
use Rattle.swc_tree_scoping.specs.Readings.{by_ids, by_texts, id_name, with_identifiers}
use Rattle.swc_tree_scoping.specs.WellScoped.{Binds, InExportList, IsDeclared, IsFree, IsLexical, NoEvalOrArguments, NoVariablePasses, Stands, is_catch_parameter}
use Rattle.swc_tree_renaming.specs.Apart.{DeclaredIn}
use Rattle.swc_tree_renaming.proofs.Core.{binds_or_refers}
use Rattle.swc_tree_renaming.proofs.Blank.{place_at_same, rounds_same, scope_at_same}
use Rattle.swc_tree_renaming.proofs.Whole.{id_name_apart, program_opens, stands_by_id}
use Rattle.swc_base_tables_injection.specs.Alone.{alone, opening}
use Rattle.swc_base_tables_injection.specs.Brought.{call_of, declarator_of, helper_name, local_name, nowhere, require_name, require_of}
use Rattle.swc_base_tables_laws.proofs.Declarers.{some_same}
use Rattle.swc_base_tables_laws.proofs.Imported.{absent_plain, helper_ident, nowhere_plain, opening_plain}
use Rattle.swc_base_tables_laws.proofs.Imports.{at_mapped, mapped_at}
use Rattle.swc_base_tables_laws.proofs.Joined.{NamesScoped}
use Rattle.swc_base_tables_laws.proofs.Lifted.{list_stood}
use Rattle.swc_base_tables_laws.proofs.Programs.{NameIn, code_of, item_place, name_in, of_item, place_of_item, program_layer_is, rounds_of_item}
use Rattle.swc_base_tables_laws.proofs.Readings.{changed_before}
use Rattle.swc_base_tables_laws.proofs.Required.{bound_path, bound_there, called, name_of_require, require_ident, require_rounds, required_path}
use Rattle.swc_base_tables_laws.proofs.Unlisted.{Unlisted, unlisted_end, unlisted_list, unlisted_tree}

impossible : {A : Type 0} → false ≡ true → A
impossible h = absurd (cc)

abbrev first_of : List ℕ → ℕ
first_of [] = 0
first_of (x ∷ xs) = x

-- a helper's name begins with `_`
begins_so : {A : Type 0} (name n : List ℕ) → name ≡ local_name n → (first_of name == 95) ≡ false → A
begins_so name n e other = impossible (sym other ∙ ap (λ l. first_of l == 95) e)

other_standing : {A : Type 0} (r z : Standing) → r ≡ z → is_reference r ≡ false → is_reference z ≡ true → A
other_standing r z e h g = impossible (sym h ∙ ap is_reference e ∙ g)

module _ (strict : Bool) (helper global : ℕ) (names : List (List ℕ)) where
  abbrev L : List Node
  L = map (require_of helper global) names

  abbrev pub V : Node
  V = alone kind.Script strict L

  abbrev code : Bool
  code = code_of kind.Script (opening strict ∷ L)

  abbrev pub path_of : ℕ → Path
  path_of j = 1 ∷ suc j ∷ 2 ∷ 0 ∷ 1 ∷ []

  abbrev required_at : ℕ → Path
  required_at j = 1 ∷ suc j ∷ 2 ∷ 0 ∷ 2 ∷ 1 ∷ []

  -- each name is a helper's, which is bound, or `require`
  abbrev pub IsBound : (Ident → Ident) → Path → Standing → List ℕ → Type 0
  IsBound f p r x = (j : ℕ) × (n : List ℕ) × (slice_get names j ≡ Some n) × (p ≡ path_of j) × (r ≡ standing.Variable) × (x ≡ (f (helper_ident helper n)).sym)

  abbrev pub IsRequired : (Ident → Ident) → Path → Standing → List ℕ → Type 0
  IsRequired f p r x = (j : ℕ) × (n : List ℕ) × (slice_get names j ≡ Some n) × (p ≡ required_at j) × (r ≡ standing.Reference) × (x ≡ (f (require_ident helper global n)).sym)

  named : (f : Ident → Ident) (p : Path) (r : Standing) (x : List ℕ) → Stands (with_identifiers f V) p r x → IsBound f p r x ⊎ IsRequired f p r x
  named f p r x s =
      let (l, i, e, is) = changed_before f (place_at program_place V p) s.place s.kind s.identifier (sym (place_at_same f p program_place V) ∙ s.stands) in
      from l i is (name_in kind.Script refl nowhere Absent (opening strict ∷ L) nowhere_plain absent_plain p s.place l i e)
    where
      from : (l : Kind) (i : Ident) → s.identifier ≡ f i → NameIn code (opening strict ∷ L) p s.place l i → IsBound f p r x ⊎ IsRequired f p r x
      from l i is (zero, q, c, path, there_is, there) =
          absurd (opening_plain strict q (item_place code) s.place l i (ap (λ c. place_at (item_place code) c q) (some_same (opening strict) c there_is) ∙ there))
      from l i is (suc j, q, c, path, there_is, there) =
          let (n, an, same) = mapped_at (require_of helper global) names j c there_is in
          ⊎_elim
          (λ (b : (q ≡ bound_path helper global n) × (s.place.standing ≡ standing.Variable) × (i ≡ helper_ident helper n)).
          inl (j, n, an, path ∙ ap (λ q. 1 ∷ suc j ∷ q) b.0, sym s.stands_so ∙ b.1, sym s.named ∙ ap (λ (i : Ident). i.sym) (is ∙ ap f b.2)))
          (λ (b : (q ≡ required_path helper global n) × (s.place.standing ≡ standing.Reference) × (i ≡ require_ident helper global n)).
          inr (j, n, an, path ∙ ap (λ q. 1 ∷ suc j ∷ q) b.0, sym s.stands_so ∙ b.1, sym s.named ∙ ap (λ (i : Ident). i.sym) (is ∙ ap f b.2)))
          (name_of_require helper global n q (item_place code) s.place l i (ap (λ c. place_at (item_place code) c q) same ∙ there))

  abbrev pub ids : Ident → Ident
  ids i = record i { sym = id_name i; ctxt = [] }

  pub named_by_id : (p : Path) (r : Standing) (x : List ℕ) → Stands (by_ids V) p r x → IsBound ids p r x ⊎ IsRequired ids p r x
  named_by_id p r x s = named ids p r x s

  bound_in : (f : Ident → Ident) (p : Path) (r : Standing) (x : List ℕ) → Binds (with_identifiers f V) p r x → IsBound f p r x
  bound_in f p r x b = ⊎_elim (λ a. a) (λ (a : IsRequired f p r x). absurd (binds_or_refers r b.binds (subst (λ r. IsTrue (is_reference r)) (sym a.4) refl))) (named f p r x b.at)

  required_in : (p : Path) (r : Standing) (x : List ℕ) → Stands (by_ids V) p r x → IsTrue (is_reference r) → IsRequired ids p r x
  required_in p r x s h = ⊎_elim (λ (a : IsBound ids p r x). other_standing standing.Variable r (sym a.4) refl h) (λ a. a) (named ids p r x s)

  -- and stands there
  pub helper_stands : (j : ℕ) (n : List ℕ) → slice_get names j ≡ Some n → Stands (by_ids V) (path_of j) standing.Variable (id_name (helper_ident helper n))
  helper_stands j n an =
      let (w, there, st) = bound_there helper global n (item_place code) in
      record {
        place = w;
        kind = kind.BindingIdent;
        identifier = ids (helper_ident helper n);
        stands = stands_by_id V (path_of j) w kind.BindingIdent (helper_ident helper n)
            (place_of_item kind.Script refl nowhere Absent (opening strict ∷ L) (suc j) (require_of helper global n) (bound_path helper global n) (at_mapped (require_of helper global) names j n an) ∙ there);
        stands_so = st;
        named = refl;
      }

  rounds_are : (j : ℕ) (n : List ℕ) → slice_get names j ≡ Some n → rounds program_place (by_ids V) (path_of j) ≡ ([], true) ∷ []
  rounds_are j n an =
      rounds_same ids (path_of j) program_place V
      ∙ rounds_of_item kind.Script refl nowhere Absent (opening strict ∷ L) (suc j) (require_of helper global n) (bound_path helper global n) (at_mapped (require_of helper global) names j n an)
      ∙ ap (of_item (suc j)) (require_rounds helper global n (item_place code))

  scope_is : scope_at program_place (by_ids V) [] ≡ Some scope.Program
  scope_is = scope_at_same ids program_place V [] ∙ program_opens V (program_layer_is kind.Script refl nowhere Absent (opening strict ∷ L))

  taken : (j : ℕ) (n : List ℕ) → slice_get names j ≡ Some n → taker standing.Variable (by_ids V) (path_of j) ≡ Some []
  taken j n an = ap (first_that (λ s. is_taken standing.Variable (scope_at program_place (by_ids V) s.0))) (rounds_are j n an) ∙ ap (λ o. cond (is_taken standing.Variable o) (Some []) None) scope_is

  declared_by : (p : Path) (r : Standing) (x : List ℕ) → Binds (by_ids V) p r x → DeclaredBy (by_ids V) p r x []
  declared_by p r x b =
      let (j, n, an, path, is, name) = bound_in ids p r x b in
      subst (λ r. DeclaredBy (by_ids V) p r x []) (sym is) (ap (taker standing.Variable (by_ids V)) path ∙ taken j n an)

  pub program_declares : (p : Path) (r : Standing) (x : List ℕ) → Binds (by_ids V) p r x → DeclaredIn (by_ids V) [] x
  program_declares p r x b = record { path = p; standing = r; binds = b; declared = declared_by p r x b }

  -- what is free is `require`
  pub is_free : (i : Ident) → IsFree V i → i.ctxt ≡ global ∷ []
  is_free i f =
      let (j, n, an, path, is, name) = required_in f.path f.place.standing (id_name i)
      (record { place = f.place; kind = f.kind; identifier = ids i; stands = stands_by_id V f.path f.place f.kind i f.stands; stands_so = refl; named = refl }) f.refers in
      (id_name_apart i (require_ident helper global n) name).1

  texts : (p : Path) (r : Standing) (x : List ℕ) → Binds (by_texts V) p r x → (n : List ℕ) × (x ≡ local_name n)
  texts p r x b = let (j, n, an, path, is, name) = bound_in (λ i. record i { ctxt = [] }) p r x b in (n, name)

  pub no_eval : NoEvalOrArguments V
  no_eval = (
    (λ (p, r, b). let (n, e) = texts p r (codes "eval") b in begins_so (codes "eval") n e refl),
    (λ (p, r, b). let (n, e) = texts p r (codes "arguments") b in begins_so (codes "arguments") n e refl),
  )

  -- no reference is to a helper
  none_refers : {A : Type 0} (x : List ℕ) → IsDeclared (by_ids V) x → (p : Path) (r : Standing) → Stands (by_ids V) p r x → IsTrue (is_reference r) → A
  none_refers x (q, z, b) p r s h =
      let (j, n, an, path, is, name) = bound_in ids q z x b in
      let (i, m, am, path_too, is_too, name_too) = required_in p r x s h in
      begins_so (codes "require") n (sym (id_name_apart (helper_ident helper n) (require_ident helper global m) (sym name ∙ name_too)).0) refl

  -- no path of a reference goes through an export list
  unlisted : (j : ℕ) (n : List ℕ) → slice_get names j ≡ Some n → Unlisted V (required_at j)
  unlisted j n an =
      unlisted_tree kind.Script (nowhere ∷ Many (opening strict ∷ L) ∷ Absent ∷ []) 1 (suc j ∷ required_path helper global n) (λ e. absurd (cc)) (Many (opening strict ∷ L)) refl
      (unlisted_list (opening strict ∷ L) (suc j) (required_path helper global n) (require_of helper global n) (at_mapped (require_of helper global) names j n an)
      (unlisted_tree kind.VarDecl (nowhere ∷ Word word.Var ∷ Many (declarator_of helper global n ∷ []) ∷ []) 2 (0 ∷ 2 ∷ 1 ∷ []) (λ e. absurd (cc)) (Many (declarator_of helper global n ∷ [])) refl
      (unlisted_list (declarator_of helper global n ∷ []) 0 (2 ∷ 1 ∷ []) (declarator_of helper global n) refl
      (unlisted_tree kind.VarDeclarator (nowhere ∷ helper_name kind.BindingIdent helper n ∷ call_of global n ∷ []) 2 (1 ∷ []) (λ e. absurd (cc)) (call_of global n) refl (unlisted_call n)))))
    where
      unlisted_call : (n : List ℕ) → Unlisted (call_of global n) (1 ∷ [])
      unlisted_call n = unlisted_tree kind.CallExpr (called helper global n) 1 [] (λ e. absurd (cc)) (require_name global) refl (unlisted_end (require_name global))

  none_listed : {A : Type 0} (p : Path) (r : Standing) (x : List ℕ) → Stands (by_ids V) p r x → IsTrue (is_reference r) → InExportList (by_ids V) p → A
  none_listed p r x s h listed =
      let (j, n, an, path, is, name) = required_in p r x s h in
      let (q, below, i, w, k, ts, e, there, exports) = list_stood ids V p listed in
      absurd (unlisted j n an program_place q below i w k ts (sym path ∙ e) there exports)

  no_variables : (ways : Standing → Bool) → NoVariablePasses ways (by_ids V)
  no_variables ways p x s =
      let (j, n, an, path, is, name) = bound_in ids p standing.Variable x (record { at = s; binds = refl }) in
      subst (PassesNone ways (by_ids V) x) (sym (ap (rounds program_place (by_ids V)) path ∙ rounds_are j n an)) (inl (subst (λ o. IsTrue (is_taken standing.Variable o)) (sym scope_is) refl))

  not_lexical : {A : Type 0} (p : Path) (r : Standing) → r ≡ standing.Variable → IsLexical (by_ids V) p r → A
  not_lexical p r is (inl h) = impossible (sym (ap is_lexical is) ∙ h)
  not_lexical p r is (inr (f, one, tk)) = let z : ◌≡◌ {A = Standing} standing.Variable standing.Function = sym is ∙ f in absurd (cc)

  no_parameter : {A : Type 0} (p : Path) (x : List ℕ) → Stands (by_ids V) p standing.Parameter x → A
  no_parameter p x s =
      let (j, n, an, path, is, name) = bound_in ids p standing.Parameter x (record { at = s; binds = refl }) in
      absurd (cc)

  pub requires_scoped : NamesScoped (by_ids V)
  requires_scoped = record {
    each_in_one_scope = λ x d. record { scope = []; bindings = λ p r b. declared_by p r x b; references = λ p r h s. none_refers x d p r s h };
    exports_declared = λ p x listed s. none_listed p standing.Reference x s refl listed;
    no_redeclaration = record {
      none_twice = λ x s p q r z a b da db lexical. let (j, n, an, path, is, name) = bound_in ids p r x a in not_lexical p r is lexical;
      no_variable_passes = no_variables is_lexical;
      no_parameter_twice = λ x f p q a b ta tb or. no_parameter p x a;
    };
    no_caught_variable = no_variables is_catch_parameter;
  }
