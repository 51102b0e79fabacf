-- Expressions, functions, classes and patterns stay writable when names are given anew, if what is below them does.
use Rattle.std.proofs.Common.{ℕ, zero, suc, true, false, not, List, [], ◌∷◌, map, nat_le, refl, ap}
use Rattle.swc_tree_node.specs.declared.kind.Kind.{Kind}
use Rattle.swc_tree_node.specs.declared.kind.Kind.TheVariants as kind
use Rattle.swc_tree_node.specs.declared.kind.Class.TheVariants as class
use Rattle.swc_tree_node.specs.declared.node.Node.{Node}
use Rattle.swc_tree_node.specs.declared.node.Node.TheOpen.{Node-F}
use Rattle.swc_tree_node.specs.Table.{slots_of}
use Rattle.swc_tree_node.specs.Fits.{FieldsFit}
use Rattle.swc_tree_grammar.specs.Levels.{is_in, word_of}
use Rattle.swc_tree_grammar.specs.Kinds.{is_paren}
use Rattle.swc_tree_grammar.specs.Writable.{Round, all_sound, assigning, binding, is_pattern_target, is_plain_assignment, left_side, sound_in, strictly}
use Rattle.swc_tree_grammar.proofs.Asked.{in_head, of, sound}
use Rattle.swc_tree_grammar.proofs.Induction.{Each}
use Rattle.swc_base_rename_substitution.specs.declared.place.Place.{Place}
use Rattle.swc_base_rename_substitution.specs.declared.place.Place.TheVariants as place
use Rattle.swc_base_rename_substitution.specs.Identifiers.{Changes}
use Rattle.swc_base_rename_substitution.specs.Places.{places, within}
use Rattle.swc_base_rename_substitution.specs.Substituted.{substituted}
use Rattle.swc_base_rename_substitution.specs.Walk.{each_substituted}
use Rattle.swc_base_rename_substitution.proofs.Room.{left, right}
use Rattle.swc_base_rename_laws.specs.Laws.{GivesNames}
use Rattle.swc_base_rename_laws.proofs.WritableStaysShape.{fields, within_long}
use Rattle.swc_base_rename_laws.proofs.WritableStaysForms.{flag_same, key_same, kind_same, private_same, word_same}
use Rattle.swc_base_rename_laws.proofs.WritableStaysNames.{both_true}
use Rattle.swc_base_rename_laws.proofs.WritableStaysLists.{Le}
use Rattle.swc_base_rename_laws.proofs.WritableStaysPatterns.{and_le, element_le, or_le, pattern_le, same_le, self_le, target_le}
use Rattle.swc_base_rename_laws.proofs.WritableStaysParts.{bound_le, elements_of_le, holes_unexported, length_same, list_unexported, strict_le, strict_same}
use Rattle.swc_base_rename_laws.proofs.WritableStaysMembers.{accessor_le, base_le}

-- a node stays writable at a place, alone and in the head of a `for`
pub record Kept (m : Changes) (p : Place) (t : Node) : Type 0 where
  pub sounds : (r : Round) → Le (sound t r) (sound (substituted m false p t) r)
  pub heads : (r : Round) → Le (in_head t r) (in_head (substituted m false p t) r)

-- ... at each place
abbrev pub AllKept : Changes → Node → Type 0
AllKept m t = (p : Place) → Kept m p t

abbrev pub Row : Changes → Kind → Type 0
Row m k = (p : Place) (ts : List Node) → Each (AllKept m) ts → FieldsFit (slots_of k) ts → (r : Round) → Le (sound_in (Node-F.Tree k (map of ts)) r) (sound_in (Node-F.Tree k (map of (fields m p k ts))) r)

module _ (m : Changes) (g : GivesNames m) where
  pub safe_le : (q : Place) (t : Node) → AllKept m t → (r : Round)
      → Le (all_sound (of t ∷ []) r) (all_sound (of (substituted m false q t) ∷ []) r)
  safe_le q t l r = and_le (and_le (same_le (ap not (private_same m g q t))) ((l q).sounds r)) (self_le true)

  pub two_le : (q p : Place) (t u : Node) → AllKept m t → AllKept m u → (r : Round)
      → Le (all_sound (of t ∷ of u ∷ []) r) (all_sound (of (substituted m false q t) ∷ of (substituted m false p u) ∷ []) r)
  two_le q p t u l k r = and_le (and_le (same_le (ap not (private_same m g q t))) ((l q).sounds r)) (safe_le p u k r)

  pub every_le : (ps : ℕ → Place) (ts : List Node) → Each (AllKept m) ts → (r : Round) → Le (all_sound (map of ts) r) (all_sound (map of (each_substituted m false ps ts)) r)
  every_le ps [] l r h = h
  every_le ps (t ∷ ts) l r h = and_le (and_le (same_le (ap not (private_same m g (ps zero) t))) ((l.0 (ps zero)).sounds r)) (every_le (λ i. ps (suc i)) ts l.1 r) h

  -- the rows that ask of all fields alike
  pub other_le : (p : Place) (k : Kind) (ts : List Node) → Each (AllKept m) ts → (r : Round) → Le (all_sound (map of ts) (binding r)) (all_sound (map of (fields m p k ts)) (binding r))
  other_le p k ts l r = every_le (places false p k ts) ts l (binding r)

  -- ---- expressions

  pub sequence_row : Row m kind.SeqExpr
  sequence_row p (a ∷ b ∷ []) l f r = and_le (same_le (ap (nat_le 2) (length_same m g place.Name b (list_unexported class.Expr refl b f.1.0)))) ((l.1.0 place.Name).sounds r)
  sequence_row p ts l f r = other_le p kind.SeqExpr ts l r

  left_le : (o x : Node) → Le (left_side (word_of o) x) (left_side (word_of (substituted m false place.Other o)) (substituted m false place.Name x))
  left_le o x = and_le (or_le (same_le (ap not (kind_same m g is_pattern_target refl place.Name refl x))) (same_le (ap is_plain_assignment (word_same m g place.Other refl o))))
      (or_le (same_le (ap not (kind_same m g is_paren refl place.Name refl x))) (target_le m g x place.Name refl))

  pub assignment_row : Row m kind.AssignExpr
  assignment_row p (a ∷ o ∷ x ∷ y ∷ []) l f r = and_le (left_le o x) (and_le ((l.1.1.0 place.Name).sounds (assigning r)) (safe_le place.Name y l.1.1.1.0 (binding r)))
  assignment_row p ts l f r = other_le p kind.AssignExpr ts l r

  pub update_row : Row m kind.UpdateExpr
  update_row p (a ∷ o ∷ b ∷ x ∷ []) l f r = and_le (target_le m g x place.Name refl) ((l.1.1.1.0 place.Name).sounds (binding r))
  update_row p ts l f r = other_le p kind.UpdateExpr ts l r

  pub binary_row : Row m kind.BinExpr
  binary_row p (a ∷ o ∷ x ∷ y ∷ []) l f r =
      and_le (or_le (same_le (ap is_in (word_same m g place.Other refl o))) (same_le (ap not (private_same m g place.Name x))))
      (and_le ((l.1.1.0 place.Name).sounds (binding r)) (safe_le place.Name y l.1.1.1.0 (binding r)))
  binary_row p ts l f r = other_le p kind.BinExpr ts l r

  pub member_row : Row m kind.MemberExpr
  member_row p (a ∷ x ∷ y ∷ []) l f r = and_le (same_le (ap not (private_same m g place.Name x))) (and_le ((l.1.0 place.Name).sounds (binding r)) ((l.1.1.0 place.Other).sounds (binding r)))
  member_row p ts l f r = other_le p kind.MemberExpr ts l r

  pub template_row : Row m kind.Tpl
  template_row p (a ∷ x ∷ y ∷ []) l f r =
      and_le (same_le (rw (length_same m g place.Name x (list_unexported class.Expr refl x f.1.0), length_same m g place.Other y (list_unexported class.TplElement refl y f.1.1.0)) refl)) ((l.1.0 place.Name).sounds (binding r))
  template_row p ts l f r = other_le p kind.Tpl ts l r

  pub chain_row : Row m kind.OptChainExpr
  chain_row p (a ∷ o ∷ x ∷ []) l f r h =
      let s = right _ _ h in
      let s' = (l.1.1.0 place.Other).sounds (binding r) s in
      both_true (or_le (same_le (flag_same m g place.Other refl o)) (base_le m g place.Other x (binding r) f.1.1.0 s s') (left _ _ h)) s'
  chain_row p ts l f r h = other_le p kind.OptChainExpr ts l r h

  -- ---- patterns

  pub array_row : Row m kind.ArrayPat
  array_row p (a ∷ x ∷ []) l f r = and_le (elements_of_le m g (within p) (within_long p) x (holes_unexported class.Pat refl x f.1.0) r) ((l.1.0 (within p)).sounds r)
  array_row p ts l f r = other_le p kind.ArrayPat ts l r

  pub object_row : Row m kind.ObjectPat
  object_row p (a ∷ x ∷ []) l f r = and_le (elements_of_le m g (within p) (within_long p) x (list_unexported class.ObjectPatProp refl x f.1.0) r) ((l.1.0 (within p)).sounds r)
  object_row p ts l f r = other_le p kind.ObjectPat ts l r

  pub rest_row : Row m kind.RestPat
  rest_row p (a ∷ x ∷ []) l f r = and_le (pattern_le m g (within p) (within_long p) x r) ((l.1.0 (within p)).sounds r)
  rest_row p ts l f r = other_le p kind.RestPat ts l r

  pub key_value_row : Row m kind.KeyValuePatProp
  key_value_row p (a ∷ x ∷ []) l f r = and_le (element_le m g (within p) (within_long p) x r) (and_le ((l.0 place.Other).sounds (binding r)) ((l.1.0 (within p)).sounds r))
  key_value_row p ts l f r = other_le p kind.KeyValuePatProp ts l r

  pub default_row : Row m kind.AssignPat
  default_row p (a ∷ x ∷ y ∷ []) l f r = and_le (pattern_le m g (within p) (within_long p) x r) (and_le ((l.1.0 (within p)).sounds r) (safe_le place.Name y l.1.1.0 (binding r)))
  default_row p ts l f r = other_le p kind.AssignPat ts l r

  -- ---- functions and classes

  pub arrow_row : Row m kind.ArrowExpr
  arrow_row p (a ∷ x ∷ b ∷ c ∷ []) l f r = and_le (elements_of_le m g place.Name refl x (list_unexported class.Pat refl x f.1.0) (binding r))
      (strict_le {F = all_sound (of x ∷ of b ∷ [])} {G = all_sound (of (substituted m false place.Name x) ∷ of (substituted m false place.Name b) ∷ [])} _ _ r (strict_same m g place.Name refl b)
      (two_le place.Name place.Name x b l.1.0 l.1.1.0))
  arrow_row p ts l f r = other_le p kind.ArrowExpr ts l r

  pub function_row : Row m kind.Function
  function_row p (a ∷ x ∷ b ∷ c ∷ d ∷ []) l f r = and_le (elements_of_le m g place.Other refl x (list_unexported class.Param refl x f.1.0) (binding r))
      (strict_le {F = all_sound (of x ∷ of b ∷ [])} {G = all_sound (of (substituted m false place.Other x) ∷ of (substituted m false place.Name b) ∷ [])} _ _ r (strict_same m g place.Name refl b)
      (two_le place.Other place.Name x b l.1.0 l.1.1.0))
  function_row p ts l f r = other_le p kind.Function ts l r

  pub constructor_row : Row m kind.Constructor
  constructor_row p (a ∷ k ∷ x ∷ b ∷ []) l f r = and_le (same_le (key_same m g place.Other refl k))
      (and_le (elements_of_le m g place.Other refl x (list_unexported class.Param refl x f.1.1.0) (binding r)) (two_le place.Other place.Name x b l.1.1.0 l.1.1.1.0 (binding r)))
  constructor_row p ts l f r = other_le p kind.Constructor ts l r

  pub getter_row : Row m kind.GetterProp
  getter_row p (a ∷ k ∷ b ∷ []) l f r = and_le (safe_le place.Other k l.1.0 (binding r))
      (strict_le {F = all_sound (of b ∷ [])} {G = all_sound (of (substituted m false place.Name b) ∷ [])} _ _ r (strict_same m g place.Name refl b) (safe_le place.Name b l.1.1.0))
  getter_row p ts l f r = other_le p kind.GetterProp ts l r

  pub setter_row : Row m kind.SetterProp
  setter_row p (a ∷ k ∷ x ∷ b ∷ []) l f r = and_le (element_le m g place.Name refl x (binding r)) (and_le (safe_le place.Other k l.1.0 (binding r))
      (strict_le {F = all_sound (of x ∷ of b ∷ [])} {G = all_sound (of (substituted m false place.Name x) ∷ of (substituted m false place.Name b) ∷ [])} _ _ r (strict_same m g place.Name refl b)
      (two_le place.Name place.Name x b l.1.1.0 l.1.1.1.0)))
  setter_row p ts l f r = other_le p kind.SetterProp ts l r

  pub method_row : Row m kind.ClassMethod
  method_row p (a ∷ k ∷ x ∷ w ∷ s ∷ []) l f r = and_le (accessor_le m g x w f.1.1.0) (and_le ((l.1.0 place.Other).sounds (binding r)) ((l.1.1.0 place.Other).sounds r))
  method_row p ts l f r = other_le p kind.ClassMethod ts l r

  pub private_method_row : Row m kind.PrivateMethod
  private_method_row p (a ∷ k ∷ x ∷ w ∷ s ∷ []) l f r = and_le (accessor_le m g x w f.1.1.0) ((l.1.1.0 place.Other).sounds r)
  private_method_row p ts l f r = other_le p kind.PrivateMethod ts l r

  pub private_property_row : Row m kind.PrivateProp
  private_property_row p (a ∷ k ∷ x ∷ s ∷ []) l f r = safe_le place.Name x l.1.1.0 (binding r)
  private_property_row p ts l f r = other_le p kind.PrivateProp ts l r

  pub class_row : Row m kind.Class
  class_row p (a ∷ x ∷ b ∷ []) l f r = two_le place.Name place.Other x b l.1.0 l.1.1.0 (strictly true r)
  class_row p ts l f r = other_le p kind.Class ts l r

  pub function_expression_row : Row m kind.FnExpr
  function_expression_row p (i ∷ x ∷ []) l f r = and_le (bound_le m g r.strict i place.Name refl) ((l.1.0 place.Other).sounds r)
  function_expression_row p ts l f r = other_le p kind.FnExpr ts l r

  pub class_expression_row : Row m kind.ClassExpr
  class_expression_row p (i ∷ x ∷ []) l f r = and_le (bound_le m g _ i place.Name refl) ((l.1.0 place.Other).sounds r)
  class_expression_row p ts l f r = other_le p kind.ClassExpr ts l r
