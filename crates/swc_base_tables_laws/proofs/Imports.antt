-- Imports of helpers alone are scoped: each binds its name in the program, and nothing refers to any.
use Rattle.std.proofs.Common.{◌≡◌, ◌==◌, ℕ, zero, suc, Bool, true, false, inl, ⊎_elim, IsTrue, Some, None, List, [], ◌∷◌, Contains, drop, map, refl, sym, ap, ◌∙◌, subst, cond}
use Rattle.std.specs.List.{slice_get}
use Rattle.std.specs.Prelude.{codes}
use Rattle.swc_tree_marks.specs.declared.ident.Ident.{Ident}
use Rattle.swc_tree_node.specs.declared.kind.Kind.{Kind}
use Rattle.swc_tree_node.specs.declared.kind.Kind.TheVariants as kind
use Rattle.swc_tree_node.specs.declared.node.Node.{Node, Absent}
use Rattle.swc_tree_scoping.specs.declared.places.Standing.{Standing}
use Rattle.swc_tree_scoping.specs.declared.places.Standing.TheVariants as standing
use Rattle.swc_tree_scoping.specs.Places.{Path, opened_in, place_at, program_place}
use Rattle.swc_tree_scoping.specs.Scopes.{first_that, is_name, is_reference, is_taken, scope_at, taker}
use Rattle.swc_tree_scoping.specs.Declares.{DeclaredBy, is_lexical}
use Rattle.swc_tree_scoping.specs.Readings.{by_ids, by_texts, id_name, with_identifiers}
use Rattle.swc_tree_scoping.specs.WellScoped.{Binds, IsFree, NoEvalOrArguments, NoVariablePasses, Stands, is_catch_parameter}
use Rattle.swc_tree_renaming.specs.Apart.{DeclaredIn}
use Rattle.swc_tree_renaming.proofs.Blank.{place_at_same, rounds_same, scope_at_same}
use Rattle.swc_tree_renaming.proofs.Core.{cases_in, none_in}
use Rattle.swc_tree_renaming.proofs.Whole.{id_name_apart, stands_by_id}
use Rattle.swc_base_tables_injection.specs.Alone.{alone, opening}
use Rattle.swc_base_tables_injection.specs.Brought.{import_of, local_name, nowhere}
use Rattle.swc_base_tables_laws.specs.Laws.{EachOnce}
use Rattle.swc_base_tables_laws.proofs.Declarers.{some_same}
use Rattle.swc_base_tables_laws.proofs.Imported.{absent_plain, helper_ident, helper_path, import_rounds, name_of_import, name_there, nowhere_plain, opening_plain}
use Rattle.swc_base_tables_laws.proofs.Joined.{NamesScoped, bound_is_name, reference_is_name}
use Rattle.swc_base_tables_laws.proofs.Programs.{NameIn, item_place, layer_is, name_in, of_item, place_of_item, rounds_of_item}
use Rattle.swc_base_tables_laws.proofs.Readings.{changed_before}

pub mapped_at : {A B : Type 0} (g : A → B) (xs : List A) (j : ℕ) (c : B) → slice_get (map g xs) j ≡ Some c → (x : A) × (slice_get xs j ≡ Some x) × (g x ≡ c)
mapped_at g [] j c e = absurd (cc)
mapped_at g (x ∷ xs) zero c e = (x, refl, some_same (g x) c e)
mapped_at g (x ∷ xs) (suc j) c e = mapped_at g xs j c e

pub at_mapped : {A B : Type 0} (g : A → B) (xs : List A) (j : ℕ) (x : A) → slice_get xs j ≡ Some x → slice_get (map g xs) j ≡ Some (g x)
at_mapped g [] j x e = absurd (cc)
at_mapped g (y ∷ xs) zero x e = ap (λ y. Some (g y)) (some_same y x e)
at_mapped g (y ∷ xs) (suc j) x e = at_mapped g xs j x e

pub contained_at : {A B : Type 0} (g : A → B) (xs : List A) (c : B) → Contains (map g xs) c → (j : ℕ) × (x : A) × (slice_get xs j ≡ Some x) × (g x ≡ c)
contained_at g [] c h = absurd (none_in c h)
contained_at g (x ∷ xs) c h = ⊎_elim
    (λ (is : g x ≡ c). (zero, x, refl, is))
    (λ later. let (j, y, at, is) = contained_at g xs c later in (suc j, y, at, is))
    (cases_in (g x) c (map g xs) h)

abbrev first_of : List ℕ → ℕ
first_of [] = 0
first_of (x ∷ xs) = x

-- a helper's name begins with `_`
begins_so : (name n : List ℕ) → name ≡ local_name n → (first_of name == 95) ≡ true
begins_so name n e = ap (λ l. first_of l == 95) e

impossible : {A : Type 0} → false ≡ true → A
impossible h = absurd (cc)

other : {A : Type 0} (r : Standing) → IsTrue (is_reference r) → r ≡ standing.Import → A
other r h e = let z : false ≡ true = ap is_reference (sym e) ∙ h in absurd (cc)

module _ (helper : ℕ) (names : List (List ℕ)) where
  abbrev L : List Node
  L = map (import_of helper) names

  abbrev pub V : Node
  V = alone kind.Module true L

  abbrev pub path_of : ℕ → Path
  path_of j = 1 ∷ suc j ∷ 1 ∷ 0 ∷ 1 ∷ []

  abbrev HelperAt : (Ident → Ident) → Path → Standing → List ℕ → Type 0
  HelperAt f p r x = (j : ℕ) × (n : List ℕ) × (slice_get names j ≡ Some n) × (p ≡ path_of j) × (r ≡ standing.Import) × (x ≡ (f (helper_ident helper n)).sym)

  -- each name is a helper's
  named : (f : Ident → Ident) (p : Path) (r : Standing) (x : List ℕ) → Stands (with_identifiers f V) p r x → IsTrue (is_name r) → HelperAt f p r x
  named f p r x s h =
      let (l, i, e, is) = changed_before f (place_at program_place V p) s.place s.kind s.identifier (sym (place_at_same f p program_place V) ∙ s.stands) in
      from l i is (name_in kind.Module refl nowhere Absent (opening true ∷ L) nowhere_plain absent_plain p s.place l i e)
    where
      from : (l : Kind) (i : Ident) → s.identifier ≡ f i → NameIn true (opening true ∷ L) p s.place l i → HelperAt f p r x
      from l i is (zero, q, c, path, there_is, there) = absurd (opening_plain true q (item_place true) s.place l i (ap (λ c. place_at (item_place true) c q) (some_same (opening true) c there_is) ∙ there))
      from l i is (suc j, q, c, path, there_is, there) =
          let (n, an, same) = mapped_at (import_of helper) names j c there_is in
          let (below, st, ident) = name_of_import helper n q (item_place true) s.place l i (ap (λ c. place_at (item_place true) c q) same ∙ there) (subst (λ r. IsTrue (is_name r)) (sym s.stands_so) h) in
          (j, n, an, path ∙ ap (λ q. 1 ∷ suc j ∷ q) below, sym s.stands_so ∙ st, sym s.named ∙ ap (λ (i : Ident). i.sym) (is ∙ ap f ident))

  abbrev ids : Ident → Ident
  ids i = record i { sym = id_name i; ctxt = [] }

  named_by_id : (p : Path) (r : Standing) (x : List ℕ) → Stands (by_ids V) p r x → IsTrue (is_name r) → HelperAt ids p r x
  named_by_id p r x s h = named ids p r x s h

  pub is_helpers : (p : Path) (r : Standing) (x : List ℕ) → Stands (by_ids V) p r x → IsTrue (is_name r) → (n : List ℕ) × (x ≡ id_name (helper_ident helper n))
  is_helpers p r x s h = let (j, n, an, path, is, name) = named_by_id p r x s h in (n, name)

  -- and stands there
  pub helper_stands : (j : ℕ) (n : List ℕ) → slice_get names j ≡ Some n → Stands (by_ids V) (path_of j) standing.Import (id_name (helper_ident helper n))
  helper_stands j n an =
      let (w, there, st) = name_there helper n (item_place true) in
      record {
        place = w;
        kind = kind.Ident;
        identifier = ids (helper_ident helper n);
        stands = stands_by_id V (path_of j) w kind.Ident (helper_ident helper n)
            (place_of_item kind.Module refl nowhere Absent (opening true ∷ L) (suc j) (import_of helper n) (helper_path helper n) (at_mapped (import_of helper) names j n an) ∙ there);
        stands_so = st;
        named = refl;
      }

  taken : (j : ℕ) (n : List ℕ) → slice_get names j ≡ Some n → taker standing.Import (by_ids V) (path_of j) ≡ Some []
  taken j n an =
      ap (first_that (λ s. is_taken standing.Import (scope_at program_place (by_ids V) s.0)))
      (rounds_same ids (path_of j) program_place V ∙ rounds_of_item kind.Module refl nowhere Absent (opening true ∷ L) (suc j) (import_of helper n) (helper_path helper n) (at_mapped (import_of helper) names j n an)
      ∙ ap (of_item (suc j)) (import_rounds helper n (item_place true)))
      ∙ ap (λ o. cond (is_taken standing.Import o) (Some []) None) (scope_at_same ids program_place V [] ∙ ap (opened_in program_place) (layer_is kind.Module nowhere Absent (opening true ∷ L)))

  pub declared_by : (p : Path) (r : Standing) (x : List ℕ) → Binds (by_ids V) p r x → DeclaredBy (by_ids V) p r x []
  declared_by p r x b =
      let (j, n, an, path, is, name) = named_by_id p r x b.at (bound_is_name r b.binds) in
      subst (λ r. DeclaredBy (by_ids V) p r x []) (sym is) (ap (taker standing.Import (by_ids V)) path ∙ taken j n an)

  pub program_declares : (p : Path) (r : Standing) (x : List ℕ) → Binds (by_ids V) p r x → DeclaredIn (by_ids V) [] x
  program_declares p r x b = record { path = p; standing = r; binds = b; declared = declared_by p r x b }

  no_reference : {A : Type 0} (p : Path) (r : Standing) (x : List ℕ) → Stands (by_ids V) p r x → IsTrue (is_reference r) → A
  no_reference p r x s h = let (j, n, an, path, is, name) = named_by_id p r x s (reference_is_name r h) in other r h is

  no_variables : (ways : Standing → Bool) → NoVariablePasses ways (by_ids V)
  no_variables ways p x s =
      let (j, n, an, path, is, name) = named_by_id p standing.Variable x s refl in
      absurd (cc)

  pub none_free : {A : Type 0} (i : Ident) → IsFree V i → A
  none_free i f =
      no_reference f.path f.place.standing (id_name i)
      (record { place = f.place; kind = f.kind; identifier = ids i; stands = stands_by_id V f.path f.place f.kind i f.stands; stands_so = refl; named = refl }) f.refers

  texts : (p : Path) (r : Standing) (x : List ℕ) → Binds (by_texts V) p r x → (n : List ℕ) × (x ≡ local_name n)
  texts p r x b = let (j, n, an, path, is, name) = named (λ i. record i { ctxt = [] }) p r x b.at (bound_is_name r b.binds) in (n, name)

  pub no_eval : NoEvalOrArguments V
  no_eval = (
    (λ (p, r, b). let (n, e) = texts p r (codes "eval") b in impossible (begins_so (codes "eval") n e)),
    (λ (p, r, b). let (n, e) = texts p r (codes "arguments") b in impossible (begins_so (codes "arguments") n e)),
  )

  module _ (once : EachOnce names) where
    one_path : (x : List ℕ) (p q : Path) (r z : Standing) → HelperAt ids p r x → HelperAt ids q z x → p ≡ q
    one_path x p q r z (j, n, an, path, is, name) (i, m, am, path_too, is_too, name_too) =
        let same : id_name (helper_ident helper n) ≡ id_name (helper_ident helper m) = sym name ∙ name_too in
        let names_same : n ≡ m = ap (drop 1) (id_name_apart (helper_ident helper n) (helper_ident helper m) same).0 in
        path ∙ ap path_of (once j i n an (am ∙ ap (λ m. Some m) (sym names_same))) ∙ sym path_too

    pub imports_scoped : NamesScoped (by_ids V)
    imports_scoped = record {
      each_in_one_scope = λ x d. record { scope = []; bindings = λ p r b. declared_by p r x b; references = λ p r h s. no_reference p r x s h };
      exports_declared = λ p x listed s. no_reference p standing.Reference x s refl;
      no_redeclaration = record {
        none_twice = λ x s p q r z a b da db lexical. inl (one_path x p q r z (named_by_id p r x a.at (bound_is_name r a.binds)) (named_by_id q z x b.at (bound_is_name z b.binds)));
        no_variable_passes = no_variables is_lexical;
        no_parameter_twice = λ x f p q a b ta tb or. one_path x p q standing.Parameter standing.Parameter (named_by_id p standing.Parameter x a refl) (named_by_id q standing.Parameter x b refl);
      };
      no_caught_variable = no_variables is_catch_parameter;
    }
