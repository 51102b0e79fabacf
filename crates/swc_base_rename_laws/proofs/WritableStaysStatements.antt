-- Statements and modules stay writable when names are given anew, if what is below them does.
use Rattle.std.proofs.Common.{◌≡◌, Bool, true, false, not, List, [], ◌∷◌, map, refl, ap, ◌∙◌}
use Rattle.std.specs.Prelude.{is_some}
use Rattle.std.specs.List.{list_all}
use Rattle.swc_tree_node.specs.declared.kind.Kind.{Kind}
use Rattle.swc_tree_node.specs.declared.kind.Kind.TheVariants as kind
use Rattle.swc_tree_node.specs.declared.kind.Class.TheVariants as class
use Rattle.swc_tree_node.specs.declared.node.Node.{Node, out-Node}
use Rattle.swc_tree_node.specs.declared.node.Node.TheOpen.{Node-F}
use Rattle.swc_tree_node.specs.Table.{slots_of}
use Rattle.swc_tree_node.specs.Fits.{FieldsFit}
use Rattle.swc_tree_grammar.specs.Shapes.{items_of}
use Rattle.swc_tree_grammar.specs.Levels.{word_of}
use Rattle.swc_tree_grammar.specs.Forms.{are_named, is_named_in, is_using_form}
use Rattle.swc_tree_grammar.specs.Writable.{Round, binding, head, in_head_in, initialised_in, is_const, local_specifier_in, strictly}
use Rattle.swc_tree_grammar.proofs.Asked.{of, sound}
use Rattle.swc_tree_grammar.proofs.Induction.{Each}
use Rattle.swc_base_rename_substitution.specs.declared.place.Place.{Place}
use Rattle.swc_base_rename_substitution.specs.declared.place.Place.TheVariants as place
use Rattle.swc_base_rename_substitution.specs.Identifiers.{Changes}
use Rattle.swc_base_rename_substitution.specs.Places.{places, within}
use Rattle.swc_base_rename_substitution.specs.Substituted.{substituted}
use Rattle.swc_base_rename_substitution.proofs.Room.{left, right}
use Rattle.swc_base_rename_laws.specs.Laws.{GivesNames}
use Rattle.swc_base_rename_laws.proofs.WritableStaysShape.{fields, long, within_long}
use Rattle.swc_base_rename_laws.proofs.WritableStaysForms.{absent_same, form_same, initialised_same, is_named_same, literal_same, private_same, specifier_same, word_same}
use Rattle.swc_base_rename_laws.proofs.WritableStaysNames.{both_true}
use Rattle.swc_base_rename_laws.proofs.WritableStaysLists.{Le, all_each, items_each, unexported}
use Rattle.swc_base_rename_laws.proofs.WritableStaysPatterns.{and_le, or_le, pattern_le, same_le}
use Rattle.swc_base_rename_laws.proofs.WritableStaysStripped.{first_sound}
use Rattle.swc_base_rename_laws.proofs.WritableStaysHeads.{string_same}
use Rattle.swc_base_rename_laws.proofs.WritableStaysParts.{bound_le, branch_le, head_le, list_unexported, loop_le, no_using_le, one_bare_of_le, strict_le, strict_list_same}
use Rattle.swc_base_rename_laws.proofs.WritableStaysRows.{AllKept, Row, other_le, safe_le, two_le}
use Rattle.swc_base_rename_laws.proofs.Impossible.{impossible}

module _ (m : Changes) (g : GivesNames m) where
  -- ---- declarations

  pub function_declaration_row : Row m kind.FnDecl
  function_declaration_row p (i ∷ x ∷ []) l f r = and_le (bound_le m g r.strict i place.Name refl) ((l.1.0 place.Other).sounds r)
  function_declaration_row p ts l f r = other_le m g p kind.FnDecl ts l r

  pub class_declaration_row : Row m kind.ClassDecl
  class_declaration_row p (i ∷ x ∷ []) l f r = and_le (bound_le m g _ i place.Name refl) ((l.1.0 place.Other).sounds r)
  class_declaration_row p ts l f r = other_le m g p kind.ClassDecl ts l r

  pub declarator_row : Row m kind.VarDeclarator
  declarator_row p (a ∷ x ∷ y ∷ []) l f r =
      and_le (pattern_le m g (within p) (within_long p) x (binding r)) (and_le ((l.1.0 (within p)).sounds (binding r)) (safe_le m g place.Name y l.1.1.0 (binding r)))
  declarator_row p ts l f r = other_le m g p kind.VarDeclarator ts l r

  all_same : (F : Node-F Node → Bool) (q : Place) → ((t : Node) → F (out-Node (substituted m false q t)) ≡ F (out-Node t)) → (t : Node) → unexported t
      → list_all (λ u. F (out-Node u)) (items_of (substituted m false q t)) ≡ list_all (λ u. F (out-Node u)) (items_of t)
  all_same F q e t u = ap (list_all (λ u. F (out-Node u))) (items_each m g q t u) ∙ all_each m g F q e (items_of t)

  initialised_all : (w d : Node) → unexported d → list_all (λ x. initialised_in (is_const (word_of (substituted m false place.Other w))) (out-Node x)) (items_of (substituted m false place.Name d))
      ≡ list_all (λ x. initialised_in (is_const (word_of w)) (out-Node x)) (items_of d)
  initialised_all w d u =
      ap (λ o. list_all (λ x. initialised_in (is_const o) (out-Node x)) (items_of (substituted m false place.Name d))) (word_same m g place.Other refl w)
      ∙ all_same (initialised_in (is_const (word_of w))) place.Name (initialised_same m g (is_const (word_of w)) place.Name refl) d u

  pub variables_row : Row m kind.VarDecl
  variables_row p (a ∷ w ∷ d ∷ []) l f r = and_le (same_le (initialised_all w d (list_unexported class.VarDeclarator refl d f.1.1.0))) ((l.1.1.0 place.Name).sounds r)
  variables_row p ts l f r = other_le m g p kind.VarDecl ts l r

  named_all : (b : Bool) (d : Node) → unexported d → are_named b (items_of (substituted m false place.Name d)) ≡ are_named b (items_of d)
  named_all b d u = all_same (is_named_in b) place.Name (is_named_same m g b place.Name refl) d u

  pub using_row : Row m kind.UsingDecl
  using_row p (a ∷ w ∷ d ∷ []) l f r = and_le (same_le (named_all true d (list_unexported class.VarDeclarator refl d f.1.1.0))) ((l.1.1.0 place.Name).sounds r)
  using_row p ts l f r = other_le m g p kind.UsingDecl ts l r

  -- ---- statements

  pub expression_row : Row m kind.ExprStmt
  expression_row p (a ∷ x ∷ []) l f r h =
      let s = right _ _ h in
      let s' = safe_le m g place.Name x l.1.0 (binding r) s in
      both_true
      (or_le (same_le (ap not (string_same m g place.Name (binding r) refl x f.1.0 (first_sound x [] (binding r) s) (first_sound (substituted m false place.Name x) [] (binding r) s'))))
      (same_le (ap is_some (literal_same m g place.Name refl x))) (left _ _ h)) s'
  expression_row p ts l f r h = other_le m g p kind.ExprStmt ts l r h

  pub catch_row : Row m kind.CatchClause
  catch_row p (a ∷ x ∷ b ∷ []) l f r =
      and_le (or_le (same_le (absent_same m g place.Name refl x)) (pattern_le m g place.Name refl x (binding r))) (and_le ((l.1.0 place.Name).sounds (binding r)) ((l.1.1.0 place.Name).sounds r))
  catch_row p ts l f r = other_le m g p kind.CatchClause ts l r

  pub with_row : Row m kind.WithStmt
  with_row p (a ∷ x ∷ b ∷ []) l f r = and_le (safe_le m g place.Name x l.1.0 (binding r)) (loop_le m g place.Other refl b r ((l.1.1.0 place.Other).sounds r))
  with_row p ts l f r = other_le m g p kind.WithStmt ts l r

  pub labeled_row : Row m kind.LabeledStmt
  labeled_row p (a ∷ x ∷ b ∷ []) l f r = and_le ((l.1.0 place.Other).sounds r) (branch_le m g place.Other refl b r ((l.1.1.0 place.Other).sounds r))
  labeled_row p ts l f r = other_le m g p kind.LabeledStmt ts l r

  pub if_row : Row m kind.IfStmt
  if_row p (a ∷ x ∷ b ∷ c ∷ []) l f r = and_le (safe_le m g place.Name x l.1.0 (binding r)) (and_le (branch_le m g place.Other refl b r ((l.1.1.0 place.Other).sounds r))
      (or_le (same_le (absent_same m g place.Other refl c)) (branch_le m g place.Other refl c r ((l.1.1.1.0 place.Other).sounds r))))
  if_row p ts l f r = other_le m g p kind.IfStmt ts l r

  pub case_row : Row m kind.SwitchCase
  case_row p (a ∷ x ∷ c ∷ []) l f r h =
      let s = right _ _ (right _ _ h) in
      both_true (safe_le m g place.Name x l.1.0 (binding r) (left _ _ h)) (both_true (no_using_le m g place.Other refl c r s (left _ _ (right _ _ h))) ((l.1.1.0 place.Other).sounds r s))
  case_row p ts l f r h = other_le m g p kind.SwitchCase ts l r h

  pub while_row : Row m kind.WhileStmt
  while_row p (a ∷ x ∷ b ∷ []) l f r = and_le (safe_le m g place.Name x l.1.0 (binding r)) (loop_le m g place.Other refl b r ((l.1.1.0 place.Other).sounds r))
  while_row p ts l f r = other_le m g p kind.WhileStmt ts l r

  pub do_while_row : Row m kind.DoWhileStmt
  do_while_row p (a ∷ b ∷ x ∷ []) l f r = and_le (safe_le m g place.Name x l.1.1.0 (binding r)) (loop_le m g place.Other refl b r ((l.1.0 place.Other).sounds r))
  do_while_row p ts l f r = other_le m g p kind.DoWhileStmt ts l r

  pub for_row : Row m kind.ForStmt
  for_row p (a ∷ x ∷ y ∷ z ∷ b ∷ []) l f r =
      and_le (and_le (and_le (same_le (ap not (private_same m g place.Name x))) ((l.1.0 place.Name).sounds (binding r))) (two_le m g place.Name place.Name y z l.1.1.0 l.1.1.1.0 (binding r)))
      (loop_le m g place.Other refl b r ((l.1.1.1.1.0 place.Other).sounds r))
  for_row p ts l f r = other_le m g p kind.ForStmt ts l r

  for_head : (x : Node) → AllKept m x → (r : Round) → Le (head (of x) r) (head (of (substituted m false place.Name x)) r)
  for_head x l r = head_le m g place.Name refl x r ((l place.Name).sounds) ((l place.Name).heads)

  pub for_in_row : Row m kind.ForInStmt
  for_in_row p (a ∷ x ∷ y ∷ b ∷ []) l f r = and_le (same_le (ap (λ o. not (is_using_form o)) (form_same m g place.Name refl x))) (and_le (for_head x l.1.0 r)
      (and_le (safe_le m g place.Name y l.1.1.0 (binding r)) (loop_le m g place.Other refl b r ((l.1.1.1.0 place.Other).sounds r))))
  for_in_row p ts l f r = other_le m g p kind.ForInStmt ts l r

  pub for_of_row : Row m kind.ForOfStmt
  for_of_row p (a ∷ w ∷ x ∷ y ∷ b ∷ []) l f r = and_le (for_head x l.1.1.0 r) (and_le (safe_le m g place.Name y l.1.1.1.0 (binding r)) (loop_le m g place.Other refl b r ((l.1.1.1.1.0 place.Other).sounds r)))
  for_of_row p ts l f r = other_le m g p kind.ForOfStmt ts l r

  -- ---- modules

  pub default_import_row : Row m kind.ImportDefaultSpecifier
  default_import_row p (a ∷ x ∷ []) l f r = bound_le m g r.strict x place.Name refl
  default_import_row p ts l f r = other_le m g p kind.ImportDefaultSpecifier ts l r

  pub star_import_row : Row m kind.ImportStarAsSpecifier
  star_import_row p (a ∷ x ∷ []) l f r = bound_le m g r.strict x place.Name refl
  star_import_row p ts l f r = other_le m g p kind.ImportStarAsSpecifier ts l r

  pub named_export_row : Row m kind.NamedExport
  named_export_row p (a ∷ x ∷ s ∷ w ∷ []) l f r =
      let q : Place = places false p kind.NamedExport (a ∷ x ∷ s ∷ w ∷ []) 1 in
      or_le (same_le (ap not (absent_same m g place.Other refl s)))
      (and_le (same_le (all_same local_specifier_in q (specifier_same m g q (long p kind.NamedExport (a ∷ x ∷ s ∷ w ∷ []) refl 1)) x (list_unexported class.ExportSpecifier refl x f.1.0))) ((l.1.0 q).sounds r))
  named_export_row p ts l f r = other_le m g p kind.NamedExport ts l r

  pub namespace_export_row : Row m kind.ExportNamespaceSpecifier
  namespace_export_row p ts l f r h = refl

  pub export_row : Row m kind.ExportDecl
  export_row p (a ∷ x ∷ []) l f r =
      let ts : List Node = a ∷ x ∷ [] in
      and_le (same_le (ap (λ o. not (is_using_form o)) (form_same m g (places false p kind.ExportDecl ts 1) (long p kind.ExportDecl ts refl 1) x))) ((l.1.0 (places false p kind.ExportDecl ts 1)).sounds r)
  export_row p ts l f r = other_le m g p kind.ExportDecl ts l r

  pub module_row : Row m kind.Module
  module_row p (a ∷ b ∷ s ∷ []) l f r = (l.1.0 place.Other).sounds (strictly true r)
  module_row p ts l f r = other_le m g p kind.Module ts l r

  pub script_row : Row m kind.Script
  script_row p (a ∷ b ∷ s ∷ []) l f r h =
      both_true (no_using_le m g place.Other refl b _ (right _ _ h) (left _ _ h))
      (strict_le {F = sound b} {G = sound (substituted m false place.Other b)} _ _ r (strict_list_same m g place.Other refl b) (λ r. (l.1.0 place.Other).sounds r) (right _ _ h))
  script_row p ts l f r h = other_le m g p kind.Script ts l r h

  -- ---- declarations in the heads of `for`

  pub head_row : (p : Place) (k : Kind) (ts : List Node) → Each (AllKept m) ts → FieldsFit (slots_of k) ts → (r : Round) → Le (in_head_in (Node-F.Tree k (map of ts)) r) (in_head_in (Node-F.Tree k (map of (fields m p k ts))) r)
  head_row p kind.VarDecl (a ∷ w ∷ d ∷ []) l f r h = and_le (one_bare_of_le m g place.Name refl d (list_unexported class.VarDeclarator refl d f.1.1.0)) ((l.1.1.0 place.Name).sounds (binding r)) h
  head_row p kind.UsingDecl (a ∷ w ∷ d ∷ []) l f r h =
      let u = list_unexported class.VarDeclarator refl d f.1.1.0 in
      and_le (one_bare_of_le m g place.Name refl d u) (and_le (same_le (named_all false d u)) ((l.1.1.0 place.Name).sounds (binding r))) h
  head_row p k ts l f r h = impossible h
