-- The two names in a `require` of a helper, the one that it binds and `require`, and what they are round.
use Rattle.std.proofs.Common.{◌≡◌, ◌⊎◌, inl, inr, ℕ, zero, suc, false, Some, List, [], ◌∷◌, ◌++◌, map, refl, sym, ap, ◌∙◌, ◌&&◌, cond}
use Rattle.std.specs.List.{slice_get}
use Rattle.std.specs.Prelude.{codes}
use Rattle.swc_tree_marks.specs.declared.ident.Ident.{Ident}
use Rattle.swc_tree_node.specs.declared.kind.Kind.{Kind}
use Rattle.swc_tree_node.specs.declared.kind.Kind.TheVariants as kind
use Rattle.swc_tree_node.specs.declared.kind.Word.TheVariants as word
use Rattle.swc_tree_node.specs.declared.node.Node.{Node, Absent, Word, List as Many, Identifier, Tree}
use Rattle.swc_tree_node.specs.declared.node.Node.TheOpen.{Node-F}
use Rattle.swc_tree_node.specs.declared.node.Node.TheVariants.{outs-Identifier, outs-List, outs-Span, outs-Tree, outs-Word}
use Rattle.swc_tree_scoping.specs.declared.places.Standing.{Standing}
use Rattle.swc_tree_scoping.specs.declared.places.Standing.TheVariants as standing
use Rattle.swc_tree_scoping.specs.declared.places.Place.{Place}
use Rattle.swc_tree_scoping.specs.Places.{Path, binds_patterns, by_keyword, is_expression_in, keyword_in, place_at, place_in}
use Rattle.swc_tree_scoping.specs.Scopes.{Round, rounds}
use Rattle.swc_base_tables_injection.specs.Brought.{call_of, declarator_of, helper_name, made, nowhere, require_name, require_of, source_of, string}
use Rattle.swc_base_tables_laws.proofs.Imported.{absent_plain, helper_ident, moved_plain, nowhere_plain, string_plain}
use Rattle.swc_base_tables_laws.proofs.Programs.{HasNoNames}
use Rattle.swc_base_tables_laws.proofs.Readings.{no_names, no_names_leaf}
use Rattle.swc_base_tables_laws.proofs.Steps.{below_identifier, list_rounds, list_step, not_list, not_there, not_tree, the_identifier, tree_rounds, tree_step}

-- the argument of the call has no names
argument_plain : (n : List ℕ) → HasNoNames (Tree kind.ExprOrSpread (Absent ∷ string (source_of n) ∷ []))
argument_plain n = no_names (Tree kind.ExprOrSpread ts) (Node-F.Tree kind.ExprOrSpread ts) (outs-Tree kind.ExprOrSpread ts) refl below
  where
    ts : List Node
    ts = Absent ∷ string (source_of n) ∷ []

    below : (i : ℕ) (c : Node) → slice_get ts i ≡ Some c → HasNoNames c
    below zero c e = moved_plain Absent c absent_plain e
    below (suc zero) c e = moved_plain (string (source_of n)) c (string_plain (source_of n)) e
    below (suc (suc i)) c e = absurd (cc)

arguments_plain : (n : List ℕ) → HasNoNames (Many (Tree kind.ExprOrSpread (Absent ∷ string (source_of n) ∷ []) ∷ []))
arguments_plain n = no_names (Many ts) (Node-F.List ts) (outs-List ts) refl below
  where
    ts : List Node
    ts = Tree kind.ExprOrSpread (Absent ∷ string (source_of n) ∷ []) ∷ []

    below : (i : ℕ) (c : Node) → slice_get ts i ≡ Some c → HasNoNames c
    below zero c e = moved_plain (Tree kind.ExprOrSpread (Absent ∷ string (source_of n) ∷ [])) c (argument_plain n) e
    below (suc i) c e = absurd (cc)

module _ (helper global : ℕ) (n : List ℕ) where
  abbrev pub bound_path : Path
  bound_path = 2 ∷ 0 ∷ 1 ∷ []

  abbrev pub required_path : Path
  required_path = 2 ∷ 0 ∷ 2 ∷ 1 ∷ []

  abbrev pub require_ident : Ident
  require_ident = made (codes "require") (global ∷ [])

  abbrev Found : Path → Standing → Ident → Path → Place → Ident → Type 0
  Found p r j q w i = (q ≡ p) × (w.standing ≡ r) × (i ≡ j)

  -- the call
  abbrev pub called : List Node
  called = nowhere ∷ require_name global ∷ Many (Tree kind.ExprOrSpread (Absent ∷ string (source_of n) ∷ []) ∷ []) ∷ []

  in_callee : (v : Place) (q : Path) (w : Place) (k : Kind) (i : Ident) → v.standing ≡ standing.Reference → place_at v (require_name global) q ≡ Some (w, Identifier k i) → Found [] standing.Reference require_ident q w i
  in_callee v [] w k i s e = let (place, is) = the_identifier v w kind.Ident k require_ident i e in (refl, ap (λ (w : Place). w.standing) (sym place) ∙ s, sym is)
  in_callee v (m ∷ q) w k i s e = not_there (place_at v (require_name global) (m ∷ q)) w k i (below_identifier v kind.Ident require_ident m q) e

  in_call : (q : Path) (v w : Place) (k : Kind) (i : Ident) → place_at v (call_of global n) q ≡ Some (w, Identifier k i) → Found (1 ∷ []) standing.Reference require_ident q w i
  in_call [] v w k i e = not_tree v w kind.CallExpr k called i e
  in_call (zero ∷ q) v w k i e = absurd (nowhere_plain q (place_in v (Node-F.Tree kind.CallExpr called) 0) w k i (sym (tree_step v kind.CallExpr called 0 q) ∙ e))
  in_call (suc zero ∷ q) v w k i e =
      let (path, s, is) = in_callee (place_in v (Node-F.Tree kind.CallExpr called) 1) q w k i refl (sym (tree_step v kind.CallExpr called 1 q) ∙ e) in
      (ap (λ q. 1 ∷ q) path, s, is)
  in_call (suc (suc zero) ∷ q) v w k i e = absurd (arguments_plain n q (place_in v (Node-F.Tree kind.CallExpr called) 2) w k i (sym (tree_step v kind.CallExpr called 2 q) ∙ e))
  in_call (suc (suc (suc m)) ∷ q) v w k i e = not_there (place_at v (call_of global n) (suc (suc (suc m)) ∷ q)) w k i (tree_step v kind.CallExpr called (suc (suc (suc m))) q) e

  -- the declarator
  abbrev declared : List Node
  declared = nowhere ∷ helper_name kind.BindingIdent helper n ∷ call_of global n ∷ []

  abbrev EitherAt : Path → Place → Ident → Path → Path → Type 0
  EitherAt q w i p r = Found p standing.Variable (helper_ident helper n) q w i ⊎ Found r standing.Reference require_ident q w i

  name_stands : (v : Place) → v.standing ≡ standing.Variable → (place_in v (Node-F.Tree kind.VarDeclarator declared) 1).standing ≡ standing.Variable
  name_stands v s =
      ap (λ y. cond (binds_patterns v.standing && is_expression_in y) standing.Reference v.standing) (outs-Identifier kind.BindingIdent (helper_ident helper n))
      ∙ ap (λ r. cond (binds_patterns r && false) standing.Reference r) s

  in_bound : (v : Place) (q : Path) (w : Place) (k : Kind) (i : Ident) → v.standing ≡ standing.Variable → place_at v (helper_name kind.BindingIdent helper n) q ≡ Some (w, Identifier k i) → Found [] standing.Variable (helper_ident helper n) q w i
  in_bound v [] w k i s e = let (place, is) = the_identifier v w kind.BindingIdent k (helper_ident helper n) i e in (refl, ap (λ (w : Place). w.standing) (sym place) ∙ s, sym is)
  in_bound v (m ∷ q) w k i s e = not_there (place_at v (helper_name kind.BindingIdent helper n) (m ∷ q)) w k i (below_identifier v kind.BindingIdent (helper_ident helper n) m q) e

  in_declarator : (q : Path) (v w : Place) (k : Kind) (i : Ident) → v.standing ≡ standing.Variable → place_at v (declarator_of helper global n) q ≡ Some (w, Identifier k i) → EitherAt q w i (1 ∷ []) (2 ∷ 1 ∷ [])
  in_declarator [] v w k i s e = not_tree v w kind.VarDeclarator k declared i e
  in_declarator (zero ∷ q) v w k i s e = absurd (nowhere_plain q (place_in v (Node-F.Tree kind.VarDeclarator declared) 0) w k i (sym (tree_step v kind.VarDeclarator declared 0 q) ∙ e))
  in_declarator (suc zero ∷ q) v w k i s e =
      let (path, r, is) = in_bound (place_in v (Node-F.Tree kind.VarDeclarator declared) 1) q w k i (name_stands v s) (sym (tree_step v kind.VarDeclarator declared 1 q) ∙ e) in
      inl (ap (λ q. 1 ∷ q) path, r, is)
  in_declarator (suc (suc zero) ∷ q) v w k i s e =
      let (path, r, is) = in_call q (place_in v (Node-F.Tree kind.VarDeclarator declared) 2) w k i (sym (tree_step v kind.VarDeclarator declared 2 q) ∙ e) in
      inr (ap (λ q. 2 ∷ q) path, r, is)
  in_declarator (suc (suc (suc m)) ∷ q) v w k i s e = not_there (place_at v (declarator_of helper global n) (suc (suc (suc m)) ∷ q)) w k i (tree_step v kind.VarDeclarator declared (suc (suc (suc m))) q) e

  -- the list of it
  abbrev listed : List Node
  listed = declarator_of helper global n ∷ []

  item_stands : (v : Place) → v.standing ≡ standing.Variable → (place_in v (Node-F.List listed) 0).standing ≡ standing.Variable
  item_stands v s = ap (λ y. cond (binds_patterns v.standing && is_expression_in y) standing.Reference v.standing) (outs-Tree kind.VarDeclarator declared) ∙ ap (λ r. cond (binds_patterns r && false) standing.Reference r) s

  in_list : (q : Path) (v w : Place) (k : Kind) (i : Ident) → v.standing ≡ standing.Variable → place_at v (Many listed) q ≡ Some (w, Identifier k i) → EitherAt q w i (0 ∷ 1 ∷ []) (0 ∷ 2 ∷ 1 ∷ [])
  in_list [] v w k i s e = not_list v w k listed i e
  in_list (zero ∷ q) v w k i s e = lowered (in_declarator q (place_in v (Node-F.List listed) 0) w k i (item_stands v s) (sym (list_step v listed 0 q) ∙ e))
    where
      lowered : EitherAt q w i (1 ∷ []) (2 ∷ 1 ∷ []) → EitherAt (0 ∷ q) w i (0 ∷ 1 ∷ []) (0 ∷ 2 ∷ 1 ∷ [])
      lowered (inl (path, r, is)) = inl (ap (λ q. 0 ∷ q) path, r, is)
      lowered (inr (path, r, is)) = inr (ap (λ q. 0 ∷ q) path, r, is)
  in_list (suc m ∷ q) v w k i s e = not_there (place_at v (Many listed) (suc m ∷ q)) w k i (list_step v listed (suc m) q) e

  -- the whole
  abbrev outer : List Node
  outer = nowhere ∷ Word word.Var ∷ Many listed ∷ []

  list_stands : (v : Place) → (place_in v (Node-F.Tree kind.VarDecl outer) 2).standing ≡ standing.Variable
  list_stands v = ap (λ y. keyword_in y (by_keyword (Word word.Var ∷ Many listed ∷ []))) (outs-Span (record { lo = 0; hi = 0 })) ∙ ap (λ y. keyword_in y (by_keyword (Many listed ∷ []))) (outs-Word word.Var)

  -- a name in a `require` is the helper's, which it binds, or `require`
  pub name_of_require : (q : Path) (v w : Place) (k : Kind) (i : Ident) → place_at v (require_of helper global n) q ≡ Some (w, Identifier k i) → EitherAt q w i bound_path required_path
  name_of_require [] v w k i e = not_tree v w kind.VarDecl k outer i e
  name_of_require (zero ∷ q) v w k i e = absurd (nowhere_plain q (place_in v (Node-F.Tree kind.VarDecl outer) 0) w k i (sym (tree_step v kind.VarDecl outer 0 q) ∙ e))
  name_of_require (suc zero ∷ q) v w k i e = absurd (word_plain q (place_in v (Node-F.Tree kind.VarDecl outer) 1) w k i (sym (tree_step v kind.VarDecl outer 1 q) ∙ e))
    where
      word_plain : HasNoNames (Word word.Var)
      word_plain = no_names_leaf (Word word.Var) (Node-F.Word word.Var) (outs-Word word.Var) refl refl
  name_of_require (suc (suc zero) ∷ q) v w k i e = lowered (in_list q (place_in v (Node-F.Tree kind.VarDecl outer) 2) w k i (list_stands v) (sym (tree_step v kind.VarDecl outer 2 q) ∙ e))
    where
      lowered : EitherAt q w i (0 ∷ 1 ∷ []) (0 ∷ 2 ∷ 1 ∷ []) → EitherAt (2 ∷ q) w i bound_path required_path
      lowered (inl (path, r, is)) = inl (ap (λ q. 2 ∷ q) path, r, is)
      lowered (inr (path, r, is)) = inr (ap (λ q. 2 ∷ q) path, r, is)
  name_of_require (suc (suc (suc m)) ∷ q) v w k i e = not_there (place_at v (require_of helper global n) (suc (suc (suc m)) ∷ q)) w k i (tree_step v kind.VarDecl outer (suc (suc (suc m))) q) e

  -- and the helper's stands there
  pub bound_there : (v : Place) → (w : Place) × (place_at v (require_of helper global n) bound_path ≡ Some (w, Identifier kind.BindingIdent (helper_ident helper n))) × (w.standing ≡ standing.Variable)
  bound_there v =
      let one = place_in v (Node-F.Tree kind.VarDecl outer) 2 in
      let two = place_in one (Node-F.List listed) 0 in (
        place_in two (Node-F.Tree kind.VarDeclarator declared) 1,
        tree_step v kind.VarDecl outer 2 (0 ∷ 1 ∷ []) ∙ list_step one listed 0 (1 ∷ []) ∙ tree_step two kind.VarDeclarator declared 1 [],
        name_stands two (item_stands one (list_stands v)),
      )

  -- with no scope round it
  declarator_rounds : (v : Place) → rounds v (declarator_of helper global n) (1 ∷ []) ≡ []
  declarator_rounds v = tree_rounds v kind.VarDeclarator declared 1 []

  listed_rounds : (v : Place) → rounds v (Many listed) (0 ∷ 1 ∷ []) ≡ []
  listed_rounds v = list_rounds v listed 0 (1 ∷ []) ∙ ap (λ l. map (λ (s : Round). (0 ∷ s.0, s.1)) l ++ []) (declarator_rounds (place_in v (Node-F.List listed) 0))

  pub require_rounds : (v : Place) → rounds v (require_of helper global n) bound_path ≡ []
  require_rounds v = tree_rounds v kind.VarDecl outer 2 (0 ∷ 1 ∷ []) ∙ ap (λ l. map (λ (s : Round). (2 ∷ s.0, s.1)) l ++ []) (listed_rounds (place_in v (Node-F.Tree kind.VarDecl outer) 2))
