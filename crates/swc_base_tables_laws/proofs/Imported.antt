-- The one name that an import of a helper binds, and what it is round.
use Rattle.std.proofs.Common.{◌≡◌, ℕ, zero, suc, Bool, true, false, IsTrue, Option, Some, List, [], ◌∷◌, ◌++◌, map, refl, sym, ap, ◌∙◌, subst}
use Rattle.std.specs.List.{slice_get}
use Rattle.std.specs.Prelude.{codes}
use Rattle.swc_tree_marks.specs.declared.ident.Ident.{Ident}
use Rattle.swc_tree_node.specs.declared.kind.Kind.{Kind}
use Rattle.swc_tree_node.specs.declared.kind.Kind.TheVariants as kind
use Rattle.swc_tree_node.specs.declared.node.Node.{Node, Absent, Text, List as Many, Identifier}
use Rattle.swc_tree_node.specs.declared.node.Node.TheOpen.{Node-F}
use Rattle.swc_tree_node.specs.declared.node.Node.TheVariants.{outs-Absent, outs-Span, outs-Text, outs-Tree}
use Rattle.swc_tree_scoping.specs.declared.places.Standing.TheVariants as standing
use Rattle.swc_tree_scoping.specs.declared.places.Place.{Place}
use Rattle.swc_tree_scoping.specs.Places.{Path, place_at, place_in}
use Rattle.swc_tree_scoping.specs.Scopes.{Round, is_name, rounds}
use Rattle.swc_base_tables_injection.specs.Brought.{exported_name, helper_name, import_of, local_name, made, nowhere, source_of, specifier_of, string}
use Rattle.swc_base_tables_injection.specs.Alone.{opening}
use Rattle.swc_base_tables_laws.proofs.Declarers.{some_same}
use Rattle.swc_base_tables_laws.proofs.Programs.{HasNoNames}
use Rattle.swc_base_tables_laws.proofs.Readings.{no_names, no_names_leaf}
use Rattle.swc_base_tables_laws.proofs.Steps.{below_identifier, list_rounds, list_step, not_list, not_there, not_tree, the_identifier, tree_rounds, tree_step}

impossible : {A : Type 0} → false ≡ true → A
impossible h = absurd (cc)

-- what has no names
pub nowhere_plain : HasNoNames nowhere
nowhere_plain = no_names_leaf nowhere (Node-F.Span (record { lo = 0; hi = 0 })) (outs-Span (record { lo = 0; hi = 0 })) refl refl

pub absent_plain : HasNoNames Absent
absent_plain = no_names_leaf Absent Node-F.Absent outs-Absent refl refl

text_plain : (x : List ℕ) → HasNoNames (Text x)
text_plain x = no_names_leaf (Text x) (Node-F.Text x) (outs-Text x) refl refl

pub moved_plain : (t c : Node) → HasNoNames t → ◌≡◌ {A = Option Node} (Some t) (Some c) → HasNoNames c
moved_plain t c h e = subst HasNoNames (some_same t c e) h

pub string_plain : (x : List ℕ) → HasNoNames (string x)
string_plain x = no_names (string x) (Node-F.Tree kind.Str ts) (outs-Tree kind.Str ts) refl below
  where
    ts : List Node
    ts = nowhere ∷ Text x ∷ Absent ∷ []

    below : (i : ℕ) (c : Node) → slice_get ts i ≡ Some c → HasNoNames c
    below zero c e = moved_plain nowhere c nowhere_plain e
    below (suc zero) c e = moved_plain (Text x) c (text_plain x) e
    below (suc (suc zero)) c e = moved_plain Absent c absent_plain e
    below (suc (suc (suc i))) c e = absurd (cc)

pub opening_plain : (strict : Bool) → HasNoNames (opening strict)
opening_plain false = no_names (opening false) (Node-F.Tree kind.EmptyStmt ts) (outs-Tree kind.EmptyStmt ts) refl below
  where
    ts : List Node
    ts = nowhere ∷ []

    below : (i : ℕ) (c : Node) → slice_get ts i ≡ Some c → HasNoNames c
    below zero c e = moved_plain nowhere c nowhere_plain e
    below (suc i) c e = absurd (cc)
opening_plain true = no_names (opening true) (Node-F.Tree kind.ExprStmt ts) (outs-Tree kind.ExprStmt ts) refl below
  where
    ts : List Node
    ts = nowhere ∷ string (codes "use strict") ∷ []

    below : (i : ℕ) (c : Node) → slice_get ts i ≡ Some c → HasNoNames c
    below zero c e = moved_plain nowhere c nowhere_plain e
    below (suc zero) c e = moved_plain (string (codes "use strict")) c (string_plain (codes "use strict")) e
    below (suc (suc i)) c e = absurd (cc)

module _ (helper : ℕ) (n : List ℕ) where
  abbrev pub helper_path : Path
  helper_path = 1 ∷ 0 ∷ 1 ∷ []

  abbrev pub helper_ident : Ident
  helper_ident = made (local_name n) (helper ∷ [])

  abbrev Found : Path → Path → Place → Ident → Type 0
  Found p q w i = (q ≡ p) × (w.standing ≡ standing.Import) × (i ≡ helper_ident)

  in_name : (v : Place) (q : Path) (w : Place) (k : Kind) (i : Ident) → v.standing ≡ standing.Import → place_at v (helper_name kind.Ident helper n) q ≡ Some (w, Identifier k i) → Found [] q w i
  in_name v [] w k i s e = let (place, is) = the_identifier v w kind.Ident k helper_ident i e in (refl, ap (λ (w : Place). w.standing) (sym place) ∙ s, sym is)
  in_name v (m ∷ q) w k i s e = not_there (place_at v (helper_name kind.Ident helper n) (m ∷ q)) w k i (below_identifier v kind.Ident helper_ident m q) e

  in_exported : (v : Place) (q : Path) (w : Place) (k : Kind) (i : Ident) → v.standing ≡ standing.Imported → place_at v exported_name q ≡ Some (w, Identifier k i) → IsTrue (is_name w.standing) → ⊥
  in_exported v [] w k i s e h =
      let (place, is) = the_identifier v w kind.Ident k (made (codes "_") []) i e in
      impossible (subst (λ r. IsTrue (is_name r)) (ap (λ (w : Place). w.standing) (sym place) ∙ s) h)
  in_exported v (m ∷ q) w k i s e h = not_there (place_at v exported_name (m ∷ q)) w k i (below_identifier v kind.Ident (made (codes "_") []) m q) e

  abbrev inner : List Node
  inner = nowhere ∷ helper_name kind.Ident helper n ∷ exported_name ∷ []

  in_specifier : (v : Place) (q : Path) (w : Place) (k : Kind) (i : Ident) → place_at v (specifier_of helper n) q ≡ Some (w, Identifier k i) → IsTrue (is_name w.standing) → Found (1 ∷ []) q w i
  in_specifier v [] w k i e h = not_tree v w kind.ImportNamedSpecifier k inner i e
  in_specifier v (zero ∷ q) w k i e h = absurd (nowhere_plain q (place_in v (Node-F.Tree kind.ImportNamedSpecifier inner) 0) w k i (sym (tree_step v kind.ImportNamedSpecifier inner 0 q) ∙ e))
  in_specifier v (suc zero ∷ q) w k i e h =
      let (path, s, is) = in_name (place_in v (Node-F.Tree kind.ImportNamedSpecifier inner) 1) q w k i refl (sym (tree_step v kind.ImportNamedSpecifier inner 1 q) ∙ e) in
      (ap (λ q. 1 ∷ q) path, s, is)
  in_specifier v (suc (suc zero) ∷ q) w k i e h =
      absurd (in_exported (place_in v (Node-F.Tree kind.ImportNamedSpecifier inner) 2) q w k i refl (sym (tree_step v kind.ImportNamedSpecifier inner 2 q) ∙ e) h)
  in_specifier v (suc (suc (suc m)) ∷ q) w k i e h = not_there (place_at v (specifier_of helper n) (suc (suc (suc m)) ∷ q)) w k i (tree_step v kind.ImportNamedSpecifier inner (suc (suc (suc m))) q) e

  abbrev specifiers : List Node
  specifiers = specifier_of helper n ∷ []

  in_list : (v : Place) (q : Path) (w : Place) (k : Kind) (i : Ident) → place_at v (Many specifiers) q ≡ Some (w, Identifier k i) → IsTrue (is_name w.standing) → Found (0 ∷ 1 ∷ []) q w i
  in_list v [] w k i e h = not_list v w k specifiers i e
  in_list v (zero ∷ q) w k i e h =
      let (path, s, is) = in_specifier (place_in v (Node-F.List specifiers) 0) q w k i (sym (list_step v specifiers 0 q) ∙ e) h in
      (ap (λ q. 0 ∷ q) path, s, is)
  in_list v (suc m ∷ q) w k i e h = not_there (place_at v (Many specifiers) (suc m ∷ q)) w k i (list_step v specifiers (suc m) q) e

  abbrev outer : List Node
  outer = nowhere ∷ Many specifiers ∷ string (source_of n) ∷ Absent ∷ []

  -- a name in an import is the helper's
  pub name_of_import : (q : Path) (v w : Place) (k : Kind) (i : Ident) → place_at v (import_of helper n) q ≡ Some (w, Identifier k i) → IsTrue (is_name w.standing) → (q ≡ helper_path) × (w.standing ≡ standing.Import) × (i ≡ helper_ident)
  name_of_import [] v w k i e h = not_tree v w kind.ImportDecl k outer i e
  name_of_import (zero ∷ q) v w k i e h = absurd (nowhere_plain q (place_in v (Node-F.Tree kind.ImportDecl outer) 0) w k i (sym (tree_step v kind.ImportDecl outer 0 q) ∙ e))
  name_of_import (suc zero ∷ q) v w k i e h =
      let (path, s, is) = in_list (place_in v (Node-F.Tree kind.ImportDecl outer) 1) q w k i (sym (tree_step v kind.ImportDecl outer 1 q) ∙ e) h in
      (ap (λ q. 1 ∷ q) path, s, is)
  name_of_import (suc (suc zero) ∷ q) v w k i e h =
      absurd (string_plain (source_of n) q (place_in v (Node-F.Tree kind.ImportDecl outer) 2) w k i (sym (tree_step v kind.ImportDecl outer 2 q) ∙ e))
  name_of_import (suc (suc (suc zero)) ∷ q) v w k i e h =
      absurd (absent_plain q (place_in v (Node-F.Tree kind.ImportDecl outer) 3) w k i (sym (tree_step v kind.ImportDecl outer 3 q) ∙ e))
  name_of_import (suc (suc (suc (suc m))) ∷ q) v w k i e h = not_there (place_at v (import_of helper n) (suc (suc (suc (suc m))) ∷ q)) w k i (tree_step v kind.ImportDecl outer (suc (suc (suc (suc m)))) q) e

  -- and stands there
  pub name_there : (v : Place) → (w : Place) × (place_at v (import_of helper n) helper_path ≡ Some (w, Identifier kind.Ident helper_ident)) × (w.standing ≡ standing.Import)
  name_there v =
      let one = place_in v (Node-F.Tree kind.ImportDecl outer) 1 in
      let two = place_in one (Node-F.List specifiers) 0 in (
        place_in two (Node-F.Tree kind.ImportNamedSpecifier inner) 1,
        tree_step v kind.ImportDecl outer 1 (0 ∷ 1 ∷ []) ∙ list_step one specifiers 0 (1 ∷ []) ∙ tree_step two kind.ImportNamedSpecifier inner 1 [],
        refl,
      )

  -- with no scope round it in the import
  specifier_rounds : (v : Place) → rounds v (specifier_of helper n) (1 ∷ []) ≡ []
  specifier_rounds v = tree_rounds v kind.ImportNamedSpecifier inner 1 []

  list_of_rounds : (v : Place) → rounds v (Many specifiers) (0 ∷ 1 ∷ []) ≡ []
  list_of_rounds v = list_rounds v specifiers 0 (1 ∷ []) ∙ ap (λ l. map (λ (s : Round). (0 ∷ s.0, s.1)) l ++ []) (specifier_rounds (place_in v (Node-F.List specifiers) 0))

  pub import_rounds : (v : Place) → rounds v (import_of helper n) helper_path ≡ []
  import_rounds v = tree_rounds v kind.ImportDecl outer 1 (0 ∷ 1 ∷ []) ∙ ap (λ l. map (λ (s : Round). (1 ∷ s.0, s.1)) l ++ []) (list_of_rounds (place_in v (Node-F.Tree kind.ImportDecl outer) 1))
