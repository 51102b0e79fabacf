-- What the rows of the grammar ask of a node's form stays when names are given anew.
use Rattle.std.proofs.Common.{◌≡◌, Bool, true, false, None, List, [], ◌∷◌, codes, nat_eq, refl, ap}
use Rattle.std.specs.Prelude.{unwrap_or}
use Rattle.std.specs.Cmp.Lexicographic.{pointwise}
use Rattle.swc_tree_marks.specs.declared.ident.Ident.{Ident}
use Rattle.swc_tree_node.specs.declared.kind.Kind.{Kind}
use Rattle.swc_tree_node.specs.declared.kind.Kind.TheVariants as kind
use Rattle.swc_tree_node.specs.declared.node.Node.{Node, out-Node}
use Rattle.swc_tree_node.specs.declared.node.Node.TheOpen.{Node-F}
use Rattle.swc_tree_scoping.specs.Places.{flag_in, text_in, literal_in, plain_in, statement_in}
use Rattle.swc_tree_grammar.specs.Shapes.{}
use Rattle.swc_tree_grammar.specs.Levels.{word_in, is_absent_in}
use Rattle.swc_tree_grammar.specs.Kinds.{has_kind_in, is_private_name}
use Rattle.swc_tree_grammar.specs.Forms.{form_in, form_of_word, form_of_function, is_name_in, is_named_in}
use Rattle.swc_tree_grammar.specs.Writable.{is_plain_pattern_in, default_in, property_in, is_name_kind_in, initialised_in, constructor_key_in, local_specifier_in, declares_in}
use Rattle.swc_base_rename_substitution.specs.declared.place.Place.{Place}
use Rattle.swc_base_rename_substitution.specs.declared.place.Place.TheVariants as place
use Rattle.swc_base_rename_substitution.specs.Identifiers.{Changes, with_other}
use Rattle.swc_base_rename_substitution.specs.Substituted.{substituted}
use Rattle.swc_base_rename_substitution.proofs.Room.{is_short}
use Rattle.swc_base_rename_laws.specs.Laws.{GivesNames}
use Rattle.swc_base_rename_laws.proofs.WritableStaysShape.{Even, even_at, even_anywhere, fields, long}

abbrev pub is_list_in : Node-F Node → Bool
is_list_in (Node-F.List ts) = true
is_list_in _ = false

module _ (m : Changes) (g : GivesNames m) where
  -- ---- leaves

  words : Even m word_in
  words = record { trees = λ p k ts. refl; properties = λ us vs. refl; imports = λ i us. refl; exports = λ i us. refl; names = λ k i j. refl; lists = λ p ts. refl }

  pub word_same : (p : Place) → is_short p ≡ false → (t : Node) → word_in (out-Node (substituted m false p t)) ≡ word_in (out-Node t)
  word_same = even_at m word_in words g

  flags : Even m flag_in
  flags = record { trees = λ p k ts. refl; properties = λ us vs. refl; imports = λ i us. refl; exports = λ i us. refl; names = λ k i j. refl; lists = λ p ts. refl }

  pub flag_same : (p : Place) → is_short p ≡ false → (t : Node) → flag_in (out-Node (substituted m false p t)) ≡ flag_in (out-Node t)
  flag_same = even_at m flag_in flags g

  texts : Even m text_in
  texts = record { trees = λ p k ts. refl; properties = λ us vs. refl; imports = λ i us. refl; exports = λ i us. refl; names = λ k i j. refl; lists = λ p ts. refl }

  pub text_same : (p : Place) → is_short p ≡ false → (t : Node) → text_in (out-Node (substituted m false p t)) ≡ text_in (out-Node t)
  text_same = even_at m text_in texts g

  abbrev absent : Node-F Node → Bool
  absent = is_absent_in

  absents : Even m absent
  absents = record { trees = λ p k ts. refl; properties = λ us vs. refl; imports = λ i us. refl; exports = λ i us. refl; names = λ k i j. refl; lists = λ p ts. refl }

  pub absent_same : (p : Place) → is_short p ≡ false → (t : Node) → is_absent_in (out-Node (substituted m false p t)) ≡ is_absent_in (out-Node t)
  absent_same = even_at m absent absents g

  -- ---- kinds

  kinds : (P : Kind → Bool) → P kind.KeyValuePatProp ≡ P kind.AssignPatProp → Even m (has_kind_in P)
  kinds P e = record { trees = λ p k ts. refl; properties = λ us vs. e; imports = λ i us. refl; exports = λ i us. refl; names = λ k i j. refl; lists = λ p ts. refl }

  pub kind_same : (P : Kind → Bool) → P kind.KeyValuePatProp ≡ P kind.AssignPatProp → (p : Place) → is_short p ≡ false → (t : Node)
      → has_kind_in P (out-Node (substituted m false p t)) ≡ has_kind_in P (out-Node t)
  kind_same P e = even_at m (has_kind_in P) (kinds P e) g

  pub private_same : (p : Place) (t : Node) → has_kind_in is_private_name (out-Node (substituted m false p t)) ≡ has_kind_in is_private_name (out-Node t)
  private_same = even_anywhere m (has_kind_in is_private_name) (kinds is_private_name refl) false (λ k i. refl) (λ us. refl)

  -- ---- patterns

  plain_trees : (k : Kind) (ts us : List Node) → is_plain_pattern_in (Node-F.Tree k us) ≡ is_plain_pattern_in (Node-F.Tree k ts)
  plain_trees kind.ArrayPat ts us = refl
  plain_trees k ts us = refl

  plain_names : (k : Kind) (i j : Ident) → is_plain_pattern_in (Node-F.Identifier k j) ≡ is_plain_pattern_in (Node-F.Identifier k i)
  plain_names kind.BindingIdent i j = refl
  plain_names k i j = refl

  plains : Even m is_plain_pattern_in
  plains = record { trees = λ p k ts. plain_trees k ts (fields m p k ts); properties = λ us vs. refl; imports = λ i us. refl; exports = λ i us. refl; names = plain_names; lists = λ p ts. refl }

  pub plain_same : (p : Place) → is_short p ≡ false → (t : Node) → is_plain_pattern_in (out-Node (substituted m false p t)) ≡ is_plain_pattern_in (out-Node t)
  plain_same = even_at m is_plain_pattern_in plains g

  property_trees : (k : Kind) (ts us : List Node) → property_in (Node-F.Tree k us) ≡ property_in (Node-F.Tree k ts)
  property_trees kind.KeyValuePatProp ts us = refl
  property_trees k ts us = refl

  properties : Even m property_in
  properties = record { trees = λ p k ts. property_trees k ts (fields m p k ts); properties = λ us vs. refl; imports = λ i us. refl; exports = λ i us. refl; names = λ k i j. refl; lists = λ p ts. refl }

  pub property_same : (p : Place) → is_short p ≡ false → (t : Node) → property_in (out-Node (substituted m false p t)) ≡ property_in (out-Node t)
  property_same = even_at m property_in properties g

  default_trees : (p : Place) (k : Kind) (ts : List Node) → default_in (Node-F.Tree k (fields m p k ts)) ≡ default_in (Node-F.Tree k ts)
  default_trees p kind.AssignPat [] = refl
  default_trees p kind.AssignPat (a ∷ []) = refl
  default_trees p kind.AssignPat (a ∷ b ∷ []) = refl
  default_trees p kind.AssignPat (a ∷ b ∷ c ∷ []) = refl
  default_trees p kind.AssignPat (a ∷ b ∷ c ∷ d ∷ ts) = refl
  default_trees p k ts = refl

  defaults : Even m default_in
  defaults = record { trees = default_trees; properties = λ us vs. refl; imports = λ i us. refl; exports = λ i us. refl; names = λ k i j. refl; lists = λ p ts. refl }

  pub default_same : (p : Place) → is_short p ≡ false → (t : Node) → default_in (out-Node (substituted m false p t)) ≡ default_in (out-Node t)
  default_same = even_at m default_in defaults g

  -- ---- names

  named : Even m is_name_kind_in
  named = record { trees = λ p k ts. refl; properties = λ us vs. refl; imports = λ i us. refl; exports = λ i us. refl; names = λ k i j. refl; lists = λ p ts. refl }

  pub name_same : (p : Place) → is_short p ≡ false → (t : Node) → is_name_kind_in (out-Node (substituted m false p t)) ≡ is_name_kind_in (out-Node t)
  name_same = even_at m is_name_kind_in named g

  bound_name_names : (k : Kind) (i j : Ident) → is_name_in (Node-F.Identifier k j) ≡ is_name_in (Node-F.Identifier k i)
  bound_name_names kind.BindingIdent i j = refl
  bound_name_names k i j = refl

  bound_names : Even m is_name_in
  bound_names = record { trees = λ p k ts. refl; properties = λ us vs. refl; imports = λ i us. refl; exports = λ i us. refl; names = bound_name_names; lists = λ p ts. refl }

  pub bound_name_same : (p : Place) → is_short p ≡ false → (t : Node) → is_name_in (out-Node (substituted m false p t)) ≡ is_name_in (out-Node t)
  bound_name_same = even_at m is_name_in bound_names g

  -- ---- declarations

  initialised_trees : (constant : Bool) (p : Place) (k : Kind) (ts : List Node) → initialised_in constant (Node-F.Tree k (fields m p k ts)) ≡ initialised_in constant (Node-F.Tree k ts)
  initialised_trees constant p kind.VarDeclarator [] = refl
  initialised_trees constant p kind.VarDeclarator (a ∷ []) = refl
  initialised_trees constant p kind.VarDeclarator (a ∷ b ∷ []) = refl
  initialised_trees constant p kind.VarDeclarator (a ∷ b ∷ c ∷ []) =
      rw (name_same _ (long p kind.VarDeclarator (a ∷ b ∷ c ∷ []) refl 1) b, absent_same place.Name refl c) refl
  initialised_trees constant p kind.VarDeclarator (a ∷ b ∷ c ∷ d ∷ ts) = refl
  initialised_trees constant p k ts = refl

  initialised : (constant : Bool) → Even m (initialised_in constant)
  initialised constant = record { trees = initialised_trees constant; properties = λ us vs. refl; imports = λ i us. refl; exports = λ i us. refl; names = λ k i j. refl; lists = λ p ts. refl }

  pub initialised_same : (constant : Bool) (p : Place) → is_short p ≡ false → (t : Node) → initialised_in constant (out-Node (substituted m false p t)) ≡ initialised_in constant (out-Node t)
  initialised_same constant = even_at m (initialised_in constant) (initialised constant) g

  is_named_trees : (b : Bool) (p : Place) (k : Kind) (ts : List Node) → is_named_in b (Node-F.Tree k (fields m p k ts)) ≡ is_named_in b (Node-F.Tree k ts)
  is_named_trees b p kind.VarDeclarator [] = refl
  is_named_trees b p kind.VarDeclarator (x ∷ []) = refl
  is_named_trees b p kind.VarDeclarator (x ∷ y ∷ []) = refl
  is_named_trees b p kind.VarDeclarator (x ∷ y ∷ z ∷ []) =
      rw (bound_name_same _ (long p kind.VarDeclarator (x ∷ y ∷ z ∷ []) refl 1) y, absent_same place.Name refl z) refl
  is_named_trees b p kind.VarDeclarator (x ∷ y ∷ z ∷ d ∷ ts) = refl
  is_named_trees b p k ts = refl

  is_named : (b : Bool) → Even m (is_named_in b)
  is_named b = record { trees = is_named_trees b; properties = λ us vs. refl; imports = λ i us. refl; exports = λ i us. refl; names = λ k i j. refl; lists = λ p ts. refl }

  pub is_named_same : (b : Bool) (p : Place) → is_short p ≡ false → (t : Node) → is_named_in b (out-Node (substituted m false p t)) ≡ is_named_in b (out-Node t)
  is_named_same b = even_at m (is_named_in b) (is_named b) g

  declares_trees : (p : Place) (k : Kind) (ts : List Node) → declares_in (Node-F.Tree k (fields m p k ts)) ≡ declares_in (Node-F.Tree k ts)
  declares_trees p kind.VarDecl [] = refl
  declares_trees p kind.VarDecl (a ∷ []) = refl
  declares_trees p kind.VarDecl (a ∷ b ∷ []) = refl
  declares_trees p kind.VarDecl (a ∷ b ∷ c ∷ []) = refl
  declares_trees p kind.VarDecl (a ∷ b ∷ c ∷ d ∷ ts) = refl
  declares_trees p kind.UsingDecl [] = refl
  declares_trees p kind.UsingDecl (a ∷ []) = refl
  declares_trees p kind.UsingDecl (a ∷ b ∷ []) = refl
  declares_trees p kind.UsingDecl (a ∷ b ∷ c ∷ []) = refl
  declares_trees p kind.UsingDecl (a ∷ b ∷ c ∷ d ∷ ts) = refl
  declares_trees p k ts = refl

  declaring : Even m declares_in
  declaring = record { trees = declares_trees; properties = λ us vs. refl; imports = λ i us. refl; exports = λ i us. refl; names = λ k i j. refl; lists = λ p ts. refl }

  pub declares_same : (p : Place) → is_short p ≡ false → (t : Node) → declares_in (out-Node (substituted m false p t)) ≡ declares_in (out-Node t)
  declares_same = even_at m declares_in declaring g

  plain_function_trees : (p : Place) (k : Kind) (ts : List Node) → plain_in (Node-F.Tree k (fields m p k ts)) ≡ plain_in (Node-F.Tree k ts)
  plain_function_trees p kind.Function [] = refl
  plain_function_trees p kind.Function (a ∷ []) = refl
  plain_function_trees p kind.Function (a ∷ b ∷ []) = refl
  plain_function_trees p kind.Function (a ∷ b ∷ c ∷ []) = refl
  plain_function_trees p kind.Function (a ∷ b ∷ c ∷ d ∷ []) = rw (flag_same place.Other refl d) refl
  plain_function_trees p kind.Function (a ∷ b ∷ c ∷ d ∷ e ∷ ts) = rw (flag_same place.Other refl d, flag_same place.Other refl e) refl
  plain_function_trees p k ts = refl

  pub plain_functions : Even m plain_in
  plain_functions = record { trees = plain_function_trees; properties = λ us vs. refl; imports = λ i us. refl; exports = λ i us. refl; names = λ k i j. refl; lists = λ p ts. refl }

  pub plain_function_same : (p : Place) → is_short p ≡ false → (t : Node) → plain_in (out-Node (substituted m false p t)) ≡ plain_in (out-Node t)
  plain_function_same = even_at m plain_in plain_functions g

  form_trees : (p : Place) (k : Kind) (ts : List Node) → form_in (Node-F.Tree k (fields m p k ts)) ≡ form_in (Node-F.Tree k ts)
  form_trees p kind.VarDecl [] = refl
  form_trees p kind.VarDecl (a ∷ []) = refl
  form_trees p kind.VarDecl (a ∷ b ∷ []) = refl
  form_trees p kind.VarDecl (a ∷ b ∷ c ∷ []) = ap form_of_word (word_same place.Other refl b)
  form_trees p kind.VarDecl (a ∷ b ∷ c ∷ d ∷ ts) = refl
  form_trees p kind.FnDecl [] = refl
  form_trees p kind.FnDecl (a ∷ []) = refl
  form_trees p kind.FnDecl (a ∷ b ∷ []) = ap form_of_function (plain_function_same place.Other refl b)
  form_trees p kind.FnDecl (a ∷ b ∷ c ∷ ts) = refl
  form_trees p k ts = refl

  forms : Even m form_in
  forms = record { trees = form_trees; properties = λ us vs. refl; imports = λ i us. refl; exports = λ i us. refl; names = λ k i j. refl; lists = λ p ts. refl }

  pub form_same : (p : Place) → is_short p ≡ false → (t : Node) → form_in (out-Node (substituted m false p t)) ≡ form_in (out-Node t)
  form_same = even_at m form_in forms g

  -- ---- strings and keys

  literal_trees : (p : Place) (k : Kind) (ts : List Node) → literal_in (Node-F.Tree k (fields m p k ts)) ≡ literal_in (Node-F.Tree k ts)
  literal_trees p kind.Str [] = refl
  literal_trees p kind.Str (a ∷ []) = refl
  literal_trees p kind.Str (a ∷ b ∷ ts) = text_same place.Other refl b
  literal_trees p k ts = refl

  literals : Even m literal_in
  literals = record { trees = literal_trees; properties = λ us vs. refl; imports = λ i us. refl; exports = λ i us. refl; names = λ k i j. refl; lists = λ p ts. refl }

  pub literal_same : (p : Place) → is_short p ≡ false → (t : Node) → literal_in (out-Node (substituted m false p t)) ≡ literal_in (out-Node t)
  literal_same = even_at m literal_in literals g

  statement_trees : (p : Place) (k : Kind) (ts : List Node) → statement_in (Node-F.Tree k (fields m p k ts)) ≡ statement_in (Node-F.Tree k ts)
  statement_trees p kind.ExprStmt [] = refl
  statement_trees p kind.ExprStmt (a ∷ []) = refl
  statement_trees p kind.ExprStmt (a ∷ b ∷ ts) = literal_same place.Name refl b
  statement_trees p k ts = refl

  statements : Even m statement_in
  statements = record { trees = statement_trees; properties = λ us vs. refl; imports = λ i us. refl; exports = λ i us. refl; names = λ k i j. refl; lists = λ p ts. refl }

  pub statement_same : (p : Place) (t : Node) → statement_in (out-Node (substituted m false p t)) ≡ statement_in (out-Node t)
  statement_same = even_anywhere m statement_in statements None (λ k i. refl) (λ us. refl)

  key_trees : (p : Place) (k : Kind) (ts : List Node) → constructor_key_in (Node-F.Tree k (fields m p k ts)) ≡ constructor_key_in (Node-F.Tree k ts)
  key_trees p kind.IdentName [] = refl
  key_trees p kind.IdentName (a ∷ []) = refl
  key_trees p kind.IdentName (a ∷ b ∷ []) = ap (λ x. pointwise nat_eq (unwrap_or x []) (codes "constructor")) (text_same place.Other refl b)
  key_trees p kind.IdentName (a ∷ b ∷ c ∷ ts) = refl
  key_trees p kind.Str [] = refl
  key_trees p kind.Str (a ∷ []) = refl
  key_trees p kind.Str (a ∷ b ∷ []) = refl
  key_trees p kind.Str (a ∷ b ∷ c ∷ []) = ap (λ x. pointwise nat_eq (unwrap_or x []) (codes "constructor")) (text_same place.Other refl b)
  key_trees p kind.Str (a ∷ b ∷ c ∷ d ∷ ts) = refl
  key_trees p k ts = refl

  keys : Even m constructor_key_in
  keys = record { trees = key_trees; properties = λ us vs. refl; imports = λ i us. refl; exports = λ i us. refl; names = λ k i j. refl; lists = λ p ts. refl }

  pub key_same : (p : Place) → is_short p ≡ false → (t : Node) → constructor_key_in (out-Node (substituted m false p t)) ≡ constructor_key_in (out-Node t)
  key_same = even_at m constructor_key_in keys g

  -- ---- specifiers

  specifier_trees : (p : Place) (k : Kind) (ts : List Node) → local_specifier_in (Node-F.Tree k (fields m p k ts)) ≡ local_specifier_in (Node-F.Tree k ts)
  specifier_trees p kind.ExportNamedSpecifier [] = refl
  specifier_trees p kind.ExportNamedSpecifier (a ∷ []) = refl
  specifier_trees p kind.ExportNamedSpecifier (a ∷ b ∷ []) = refl
  specifier_trees p kind.ExportNamedSpecifier (a ∷ b ∷ c ∷ []) = name_same _ (long p kind.ExportNamedSpecifier (a ∷ b ∷ c ∷ []) refl 1) b
  specifier_trees p kind.ExportNamedSpecifier (a ∷ b ∷ c ∷ d ∷ ts) = refl
  specifier_trees p k ts = refl

  specifier_other : (i : Ident) (us : List Node) → local_specifier_in (Node-F.Tree kind.ExportNamedSpecifier (with_other i us)) ≡ local_specifier_in (Node-F.Tree kind.ExportNamedSpecifier us)
  specifier_other i [] = refl
  specifier_other i (a ∷ []) = refl
  specifier_other i (a ∷ b ∷ []) = refl
  specifier_other i (a ∷ b ∷ c ∷ []) = refl
  specifier_other i (a ∷ b ∷ c ∷ d ∷ us) = refl

  specifiers : Even m local_specifier_in
  specifiers = record { trees = specifier_trees; properties = λ us vs. refl; imports = λ i us. refl; exports = specifier_other; names = λ k i j. refl; lists = λ p ts. refl }

  pub specifier_same : (p : Place) → is_short p ≡ false → (t : Node) → local_specifier_in (out-Node (substituted m false p t)) ≡ local_specifier_in (out-Node t)
  specifier_same = even_at m local_specifier_in specifiers g

  -- ---- lists

  listed : Even m is_list_in
  listed = record { trees = λ p k ts. refl; properties = λ us vs. refl; imports = λ i us. refl; exports = λ i us. refl; names = λ k i j. refl; lists = λ p ts. refl }

  pub list_same : (p : Place) (t : Node) → is_list_in (out-Node (substituted m false p t)) ≡ is_list_in (out-Node t)
  list_same = even_anywhere m is_list_in listed false (λ k i. refl) (λ us. refl)
