-- The names that a declaration binds stay where none of them changes.
use Rattle.std.proofs.Common.{◌≡◌, ℕ, zero, suc, Bool, true, false, not, ◌&&◌, ◌||◌, IsTrue, Option, Some, None, List, [], ◌∷◌, ◌++◌, map, refl, sym, ap, ◌∙◌}
use Rattle.std.specs.Prelude.{if◌then◌else◌, is_some, option_map, nat_eq}
use Rattle.std.specs.Cmp.{unsigned_Decides}
use Rattle.std.specs.Cmp.Lexicographic.{pointwise, pointwise_decides}
use Rattle.std.specs.List.{flat_map, list_any, slice_get}
use Rattle.swc_tree_marks.specs.declared.ident.Ident.{Ident}
use Rattle.swc_tree_node.specs.declared.kind.Kind.{Kind}
use Rattle.swc_tree_node.specs.declared.kind.Kind.TheVariants as kind
use Rattle.swc_tree_node.specs.declared.kind.Class.{Class}
use Rattle.swc_tree_node.specs.declared.kind.Class.TheVariants as class
use Rattle.swc_tree_node.specs.declared.slot.Content.{Content}
use Rattle.swc_tree_node.specs.declared.slot.Content.TheVariants as content
use Rattle.swc_tree_node.specs.declared.slot.Role.{Role}
use Rattle.swc_tree_node.specs.declared.slot.Role.TheVariants as role
use Rattle.swc_tree_node.specs.declared.slot.Slot.{Slot}
use Rattle.swc_tree_node.specs.declared.slot.Slot.TheVariants as slot
use Rattle.swc_tree_node.specs.declared.node.Node.{Node, Absent, Flag, Word, Text, Span, List as Many, Identifier, Tree, out-Node}
use Rattle.swc_tree_node.specs.declared.node.Node.TheVariants.{outs-Identifier, outs-Tree}
use Rattle.swc_tree_node.specs.Table.{slots_of, is_identifier}
use Rattle.swc_tree_node.specs.Fits.{Fits, FieldsFit, AllFit, belongs, single}
use Rattle.swc_tree_scoping.specs.Places.{field_role}
use Rattle.swc_tree_scoping.specs.BoundNames.{bound_ids, declared_ids, declared_in, id_of as ids_of, in_part, in_parts, name_in, name_of, own_id}
use Rattle.swc_tree_scoping.proofs.BoundNames.{bound-Identifier, bound-List, bound-Tree}
use Rattle.swc_tree_grammar.proofs.Induction.{Each, by_children}
use Rattle.swc_base_rename_substitution.specs.declared.place.Place.{Place}
use Rattle.swc_base_rename_substitution.specs.declared.place.Place.TheVariants as place
use Rattle.swc_base_rename_substitution.specs.Names.{Id, same_id}
use Rattle.swc_base_rename_substitution.specs.Identifiers.{Changes, changed, id_of, identifier_at, identifier_in, identifier_to, with_id, written_out_if}
use Rattle.swc_base_rename_substitution.specs.Classes.{kept_class}
use Rattle.swc_base_rename_substitution.specs.Exports.{distinct, without}
use Rattle.swc_base_rename_substitution.specs.Places.{by_role, has_source, in_kind, places, within}
use Rattle.swc_base_rename_substitution.specs.Substituted.{if_changed, substituted, tree_for}
use Rattle.swc_base_rename_substitution.specs.Walk.{each_substituted, items_substituted}
use Rattle.swc_base_rename_substitution.proofs.Equations.{substituted-Absent, substituted-Flag, substituted-Word, substituted-Text, substituted-Span, substituted_identifier, substituted_list, substituted_tree}
use Rattle.swc_base_rename_substitution.proofs.Room.{left, right, tree_open}
use Rattle.swc_base_rename_laws.proofs.OuterTextsForms.{identifier_here, is_plain, item_slot, items_open, never, not_exported, one_item, same_identifier, same_kind, takes_none, tree_here}
use Rattle.swc_base_rename_laws.proofs.Impossible.{impossible}

-- ---- lists of ids

or_left : (a b : Bool) → (a || b) ≡ false → a ≡ false
or_left true b h = h
or_left false b h = refl

or_right : (a b : Bool) → (a || b) ≡ false → b ≡ false
or_right true b h = absurd (cc)
or_right false b h = h

any_left : (f : Id → Bool) (xs ys : List Id) → list_any f (xs ++ ys) ≡ false → list_any f xs ≡ false
any_left f [] ys h = refl
any_left f (x ∷ xs) ys h = ap (λ b. b || list_any f xs) (or_left _ _ h) ∙ any_left f xs ys (or_right (f x) _ h)

any_right : (f : Id → Bool) (xs ys : List Id) → list_any f (xs ++ ys) ≡ false → list_any f ys ≡ false
any_right f [] ys h = h
any_right f (x ∷ xs) ys h = any_right f xs ys (or_right (f x) _ h)

same_is : (x y : Id) → same_id x y ≡ true → x ≡ y
same_is x y h = let first = (pointwise_decides unsigned_Decides x.0 y.0).0 (left _ _ h) in let second = (pointwise_decides unsigned_Decides x.1 y.1).0 (right (pointwise nat_eq x.0 y.0) _ h) in λ i. (first i, second i)

any_without : (f : Id → Bool) (x : Id) (ys : List Id) → f x ≡ false → list_any f (without x ys) ≡ false → list_any f ys ≡ false
any_without f x [] h g = refl
any_without f x (y ∷ ys) h g = at (same_id y x) refl (any_without f x ys h) g
  where
    at : (b : Bool) → same_id y x ≡ b → (list_any f (without x ys) ≡ false → list_any f ys ≡ false) → list_any f (if b then without x ys else y ∷ without x ys) ≡ false → list_any f (y ∷ ys) ≡ false
    at true e rest g = ap (λ b. b || list_any f ys) (ap f (same_is y x e) ∙ h) ∙ rest g
    at false e rest g = ap (λ b. b || list_any f ys) (or_left _ _ g) ∙ rest (or_right (f y) _ g)

any_distinct : (f : Id → Bool) (xs : List Id) → list_any f (distinct xs) ≡ false → list_any f xs ≡ false
any_distinct f [] h = refl
any_distinct f (x ∷ xs) h =
    let first : f x ≡ false = or_left _ _ h in
    ap (λ b. b || list_any f xs) first ∙ any_distinct f xs (any_without f x (distinct xs) first (or_right (f x) _ h))

-- ---- the parts of a pattern or a declarator

-- what may stand there: nothing that becomes two items, or another declaration
abbrev plain_part : Content → Bool
plain_part (content.Node c) = not (belongs kind.ExportDecl c) && (not (belongs kind.ClassDecl c) && (not (belongs kind.ImportNamedSpecifier c) && not (belongs kind.ExportNamedSpecifier c)))
plain_part c = true

abbrev part_room : Slot → Bool
part_room (slot.One c) = plain_part c
part_room (slot.Optional c) = plain_part c
part_room (slot.List c) = plain_part c
part_room (slot.Holes c) = plain_part c
part_room (slot.OptionalList c) = plain_part c
part_room s = true

abbrev room_if : Role → Bool → Bool
room_if role.Declared b = b
room_if role.Lexical b = b
room_if role.Inherited b = b
room_if r b = true

abbrev parts_room : (ℕ → Role) → List Slot → Bool
parts_room roles [] = true
parts_room roles (s ∷ ss) = room_if (roles zero) (part_room s) && parts_room (λ i. roles (suc i)) ss

table_has_parts : (k : Kind) → parts_room (field_role k) (slots_of k) ≡ true
table_has_parts kind.Module = refl
table_has_parts k = refl

item_room : (s : Slot) → part_room s ≡ true → part_room (item_slot s) ≡ true
item_room (slot.One c) h = h
item_room (slot.Optional c) h = h
item_room (slot.List c) h = h
item_room (slot.Holes c) h = h
item_room (slot.OptionalList c) h = h
item_room slot.Pair h = refl
item_room slot.Pairs h = refl

room_single : (s : Slot) (c : Content) → part_room s ≡ true → single s ≡ Some c → plain_part c ≡ true
room_single (slot.One d) c r e = let same : d ≡ c = cc in ap plain_part (sym same) ∙ r
room_single (slot.Optional d) c r e = let same : d ≡ c = cc in ap plain_part (sym same) ∙ r
room_single s c r e = absurd (cc)

part_none : (o : Option Content) → ((c : Content) → o ≡ Some c → plain_part c ≡ true) → takes_none o ≡ true
part_none (Some (content.Node c)) h = left _ _ (h (content.Node c) refl)
part_none (Some c) h = refl
part_none None h = refl

room_none : (s : Slot) → part_room s ≡ true → takes_none (single s) ≡ true
room_none s r = part_none (single s) (λ c e. room_single s c r e)

within_plain : (p : Place) → is_plain (within p) ≡ true
within_plain place.Name = refl
within_plain place.Shorthand = refl
within_plain place.Exported = refl
within_plain place.ClassName = refl
within_plain place.Other = refl

sourced_plain : (b : Bool) → is_plain (if b then place.Other else place.Name) ≡ true
sourced_plain true = refl
sourced_plain false = refl

pub role_plain : (p : Place) (b : Bool) (r : Role) → is_plain (by_role p b r) ≡ true
role_plain p b role.Inherited = within_plain p
role_plain p b role.ExportLocal = sourced_plain b
role_plain p b r = refl

only_names : (k : Kind) → IsTrue (belongs k class.Ident) → IsTrue (is_identifier k)
only_names kind.Ident h = refl
only_names k h = impossible h

only_bindings : (k : Kind) → IsTrue (belongs k class.BindingIdent) → IsTrue (is_identifier k)
only_bindings kind.BindingIdent h = refl
only_bindings k h = impossible h

binding_kind : (k : Kind) → IsTrue (belongs k class.BindingIdent) → k ≡ kind.BindingIdent
binding_kind kind.BindingIdent h = refl
binding_kind k h = impossible h

no_names : (k : Kind) → IsTrue (belongs k class.Decl) → is_identifier k ≡ false
no_names kind.Ident h = impossible h
no_names kind.BindingIdent h = impossible h
no_names k h = refl

pub name_here : (t : Node) → Fits t (slot.One (content.Node class.Ident)) → (k : Kind) × (i : Ident) × (t ≡ Identifier k i)
name_here t h = let (k, i, e, b) = identifier_here class.Ident only_names t h in (k, i, e)

pub binding_here : (t : Node) → Fits t (slot.One (content.Node class.BindingIdent)) → (i : Ident) × (t ≡ Identifier kind.BindingIdent i)
binding_here t h = let (k, i, e, b) = identifier_here class.BindingIdent only_bindings t h in (i, e ∙ ap (λ k. Identifier k i) (binding_kind k b))

pub declaration_here : (t : Node) → Fits t (slot.One (content.Node class.Decl)) → (k : Kind) × (ts : List Node) × (t ≡ Tree k ts) × IsTrue (belongs k class.Decl) × FieldsFit (slots_of k) ts
declaration_here t h = tree_here class.Decl no_names t h

module _ (m : Changes) (keeps : Bool) where
  abbrev pub Unchanged : List Id → Type 0
  Unchanged xs = list_any (λ x. is_some (m x)) xs ≡ false

  abbrev Stays : Node → Type 0
  Stays t = (p : Place) (s : Slot) → is_plain p ≡ true → part_room s ≡ true → Fits t s → Unchanged (bound_ids t) → bound_ids (substituted m keeps p t) ≡ bound_ids t

  same : (t : Node) → ((p : Place) → substituted m keeps p t ≡ t) → Stays t
  same t e p s n r h u = ap bound_ids (e p)

  -- ---- identifiers

  none_there : (x : Id) (o : Option Id) → m x ≡ o → is_some (m x) ≡ false → m x ≡ None
  none_there x None e h = e
  none_there x (Some y) e h = let some : is_some (m x) ≡ true = ap is_some e in absurd (cc)

  not_changed : (p : Place) (i : Ident) → m (id_of i) ≡ None → changed m p i ≡ None
  not_changed place.Name i h = ap (option_map (with_id i)) h
  not_changed place.Shorthand i h = ap (option_map (with_id i)) h
  not_changed place.Exported i h = refl
  not_changed place.ClassName i h = refl
  not_changed place.Other i h = refl

  pub unchanged_if : (p : Place) (i : Ident) → Unchanged (id_of i ∷ []) → if_changed m p (Some i) ≡ None
  unchanged_if p i u = ap (λ (j : Option Ident). if is_some j then Some i else None) (not_changed p i (none_there (id_of i) _ refl (or_left _ _ u)))

  pub same_there : (p : Place) (k : Kind) (i : Ident) → is_plain p ≡ true → Unchanged (id_of i ∷ []) → substituted m keeps p (Identifier k i) ≡ Identifier k i
  same_there p k i n u = same_identifier m keeps p k i n (unchanged_if p i u)

  binds_none : (p : Place) (k : Kind) (i : Ident) (o : Option Ident) → is_plain p ≡ true → ((j : Ident) → own_id k j ≡ []) → bound_ids (identifier_to p k i o) ≡ []
  binds_none place.Name k i None n h = bound-Identifier k i ∙ h i
  binds_none place.Name k i (Some j) n h = bound-Identifier k j ∙ h j
  binds_none place.Exported k i None n h = bound-Identifier k i ∙ h i
  binds_none place.Exported k i (Some j) n h = bound-Identifier k j ∙ h j
  binds_none place.Other k i None n h = bound-Identifier k i ∙ h i
  binds_none place.Other k i (Some j) n h = bound-Identifier k j ∙ h j
  binds_none place.Shorthand k i o n h = absurd (cc)
  binds_none place.ClassName k i o n h = absurd (cc)

  identifier_stays : (k : Kind) (i : Ident) → Stays (Identifier k i)
  identifier_stays kind.BindingIdent i p s n r h u = ap bound_ids (same_there p kind.BindingIdent i n (ap (list_any (λ x. is_some (m x))) (sym (bound-Identifier kind.BindingIdent i)) ∙ u))
  identifier_stays k i p s n r h u = ap bound_ids (substituted_identifier m keeps p k i) ∙ binds_none p k i _ n (λ j. refl) ∙ sym (bound-Identifier k i)

  -- ---- items

  items_stay : (p : Place) (s : Slot) (ts : List Node) → is_plain p ≡ true → part_room s ≡ true → AllFit s ts → Each Stays ts → Unchanged (flat_map bound_ids ts)
      → flat_map bound_ids (items_substituted m keeps p ts) ≡ flat_map bound_ids ts
  items_stay p s [] n r h below u = refl
  items_stay p s (t ∷ ts) n r h below u =
      ap (λ l. flat_map bound_ids (l ++ items_substituted m keeps p ts)) (one_item m t (substituted m keeps p t) (not_exported s (room_none s r) t h.0))
      ∙ ap (λ l. l ++ flat_map bound_ids (items_substituted m keeps p ts)) (below.0 p s n r h.0 (any_left _ (bound_ids t) _ u))
      ∙ ap (λ l. bound_ids t ++ l) (items_stay p s ts n r h.1 below.1 (any_right _ (bound_ids t) _ u))

  list_stays : (ts : List Node) → Each Stays ts → Stays (Many ts)
  list_stays ts below p s n r h u =
      ap bound_ids (substituted_list m keeps p ts) ∙ bound-List (items_substituted m keeps p ts)
      ∙ items_stay p (item_slot s) ts n (item_room s r) (items_open ts s h) below (ap (list_any (λ x. is_some (m x))) (sym (bound-List ts)) ∙ u) ∙ sym (bound-List ts)

  -- ---- fields

  part_stays : (r : Role) (b : Bool) (xs ys : List Id) → room_if r b ≡ true → (b ≡ true → Unchanged xs → ys ≡ xs) → Unchanged (in_part r xs) → in_part r ys ≡ in_part r xs
  part_stays role.Declared b xs ys r h u = h r u
  part_stays role.Lexical b xs ys r h u = h r u
  part_stays role.Inherited b xs ys r h u = h r u
  part_stays _ b xs ys r h u = refl

  parts_stay : (roles : ℕ → Role) (ps : ℕ → Place) (ss : List Slot) (ts : List Node) → ((i : ℕ) → is_plain (ps i) ≡ true) → parts_room roles ss ≡ true → FieldsFit ss ts → Each Stays ts
      → Unchanged (in_parts roles (map bound_ids ts)) → in_parts roles (map bound_ids (each_substituted m keeps ps ts)) ≡ in_parts roles (map bound_ids ts)
  parts_stay roles ps [] [] n r h below u = refl
  parts_stay roles ps [] (t ∷ ts) n r h below u = absurd h
  parts_stay roles ps (s ∷ ss) [] n r h below u = absurd h
  parts_stay roles ps (s ∷ ss) (t ∷ ts) n r h below u =
      ap (λ l. l ++ in_parts (λ i. roles (suc i)) (map bound_ids (each_substituted m keeps (λ i. ps (suc i)) ts)))
      (part_stays (roles zero) (part_room s) (bound_ids t) (bound_ids (substituted m keeps (ps zero) t)) (left _ _ r) (λ room v. below.0 (ps zero) s (n zero) room h.0 v)
      (any_left _ (in_part (roles zero) (bound_ids t)) _ u))
      ∙ ap (λ l. in_part (roles zero) (bound_ids t) ++ l)
      (parts_stay (λ i. roles (suc i)) (λ i. ps (suc i)) ss ts (λ i. n (suc i)) (right (room_if (roles zero) (part_room s)) _ r) h.1 below.1 (any_right _ (in_part (roles zero) (bound_ids t)) _ u))

  -- a node that stays of its kind, whose fields have the places of their roles
  fields_stay : (p : Place) (k : Kind) (ts : List Node) → FieldsFit (slots_of k) ts → Each Stays ts → ((q : Place) → in_kind keeps k q ≡ q)
      → ((us : List Node) → tree_for m keeps p k ts us ≡ Tree k us) → Unchanged (bound_ids (Tree k ts)) → bound_ids (substituted m keeps p (Tree k ts)) ≡ bound_ids (Tree k ts)
  fields_stay p k ts h below q tree u =
      ap bound_ids (substituted_tree m keeps p k ts ∙ tree (each_substituted m keeps (places keeps p k ts) ts)) ∙ bound-Tree k (each_substituted m keeps (places keeps p k ts) ts)
      ∙ parts_stay (field_role k) (places keeps p k ts) (slots_of k) ts (λ i. ap is_plain (q (by_role p (has_source ts) (field_role k i))) ∙ role_plain p (has_source ts) (field_role k i)) (table_has_parts k) h below
      (ap (list_any (λ x. is_some (m x))) (sym (bound-Tree k ts)) ∙ u)
      ∙ sym (bound-Tree k ts)

  -- the name in a shorthand of a pattern is bound
  short_same : (p : Place) (ts : List Node) → FieldsFit (slots_of kind.AssignPatProp) ts → Unchanged (bound_ids (Tree kind.AssignPatProp ts)) → (us : List Node) → tree_for m keeps p kind.AssignPatProp ts us ≡ Tree kind.AssignPatProp us
  short_same p (a ∷ t ∷ value ∷ []) h u us =
      let (i, e) = binding_here t h.1.0 in
      let bound : bound_ids t ≡ id_of i ∷ [] = ap bound_ids e ∙ bound-Identifier kind.BindingIdent i in
      let bare : Unchanged (bound_ids t ++ []) = ap (list_any (λ x. is_some (m x))) (sym (bound-Tree kind.AssignPatProp (a ∷ t ∷ value ∷ []))) ∙ u in
      let some : Unchanged (id_of i ∷ []) = ap (list_any (λ x. is_some (m x))) (sym bound) ∙ any_left _ (bound_ids t) [] bare in
      ap (λ i. written_out_if kind.AssignPatProp i us)
      (ap (if_changed m (places keeps p kind.AssignPatProp (a ∷ t ∷ value ∷ []) 1)) (ap (λ t. identifier_in (out-Node t)) e ∙ ap identifier_in (outs-Identifier kind.BindingIdent i)) ∙ unchanged_if _ i some)
  short_same p [] h u us = absurd h
  short_same p (a ∷ []) h u us = absurd h.1
  short_same p (a ∷ b ∷ []) h u us = absurd h.1.1
  short_same p (a ∷ b ∷ c ∷ d ∷ ds) h u us = absurd h.1.1.1

  -- fields that bind nothing
  object_stays : (p : Place) (ts : List Node) → FieldsFit (slots_of kind.ObjectLit) ts → bound_ids (substituted m keeps p (Tree kind.ObjectLit ts)) ≡ bound_ids (Tree kind.ObjectLit ts)
  object_stays p (a ∷ b ∷ []) h =
      ap bound_ids (substituted_tree m keeps p kind.ObjectLit (a ∷ b ∷ []) ∙ same_kind kind.ObjectLit _ _ (λ i. refl)) ∙ bound-Tree kind.ObjectLit _ ∙ sym (bound-Tree kind.ObjectLit (a ∷ b ∷ []))
  object_stays p [] h = absurd h
  object_stays p (a ∷ []) h = absurd h.1
  object_stays p (a ∷ b ∷ c ∷ cs) h = absurd h.1.1

  class_stays : (p : Place) (ts : List Node) → FieldsFit (slots_of kind.ClassExpr) ts → bound_ids (substituted m keeps p (Tree kind.ClassExpr ts)) ≡ bound_ids (Tree kind.ClassExpr ts)
  class_stays p (a ∷ b ∷ []) h =
      ap bound_ids (substituted_tree m keeps p kind.ClassExpr (a ∷ b ∷ []) ∙ same_kind kind.ClassExpr _ _ (λ i. refl)) ∙ bound-Tree kind.ClassExpr _ ∙ sym (bound-Tree kind.ClassExpr (a ∷ b ∷ []))
  class_stays p [] h = absurd h
  class_stays p (a ∷ []) h = absurd h.1
  class_stays p (a ∷ b ∷ c ∷ cs) h = absurd h.1.1

  tree_by_kind : (k : Kind) (ts : List Node) (p : Place) (c : Class) → Each Stays ts → plain_part (content.Node c) ≡ true → IsTrue (belongs k c) → FieldsFit (slots_of k) ts
      → Unchanged (bound_ids (Tree k ts)) → bound_ids (substituted m keeps p (Tree k ts)) ≡ bound_ids (Tree k ts)
  tree_by_kind kind.ExportDecl ts p c below r b h u = never _ _ refl (ap not b) (left _ _ r)
  tree_by_kind kind.ClassDecl ts p c below r b h u = never _ _ refl (ap not b) (left _ _ (right (not (belongs kind.ExportDecl c)) _ r))
  tree_by_kind kind.ImportNamedSpecifier ts p c below r b h u = never _ _ refl (ap not b) (left _ _ (right (not (belongs kind.ClassDecl c)) _ (right (not (belongs kind.ExportDecl c)) _ r)))
  tree_by_kind kind.ExportNamedSpecifier ts p c below r b h u =
      never _ _ refl (ap not b) (right (not (belongs kind.ImportNamedSpecifier c)) _ (right (not (belongs kind.ClassDecl c)) _ (right (not (belongs kind.ExportDecl c)) _ r)))
  tree_by_kind kind.AssignPatProp ts p c below r b h u = fields_stay p kind.AssignPatProp ts h below (λ q. refl) (short_same p ts h u) u
  tree_by_kind kind.ObjectLit ts p c below r b h u = object_stays p ts h
  tree_by_kind kind.ClassExpr ts p c below r b h u = class_stays p ts h
  tree_by_kind k ts p c below r b h u = fields_stay p k ts h below (λ q. refl) (λ us. same_kind k _ us (λ i. refl)) u

  tree_stays : (k : Kind) (ts : List Node) → Each Stays ts → Stays (Tree k ts)
  tree_stays k ts below p s n r h u = let o = tree_open k ts s h in tree_by_kind k ts p o.0 below (room_single s (content.Node o.0) r o.1) o.3 o.4 u

  bound_stay : (t : Node) → Stays t
  bound_stay = by_children Stays (
    same Absent (substituted-Absent m keeps),
    λ x. same (Flag x) (λ p. substituted-Flag m keeps p x),
    λ w. same (Word w) (λ p. substituted-Word m keeps p w),
    λ x. same (Text x) (λ p. substituted-Text m keeps p x),
    λ x. same (Span x) (λ p. substituted-Span m keeps p x),
    identifier_stays,
  )
      list_stays tree_stays

  every_stays : (ts : List Node) → Each Stays ts
  every_stays [] = tt
  every_stays (t ∷ ts) = (bound_stay t, every_stays ts)

  -- ---- declarations

  -- `var`, `let`, `const` and `using`
  declarators_stay : (k : Kind) (ts : List Node) → ((us : List Node) → declared_ids (Tree k us) ≡ bound_ids (Tree k us)) → FieldsFit (slots_of k) ts → ((q : Place) → in_kind keeps k q ≡ q)
      → ((us : List Node) → tree_for m keeps place.Exported k ts us ≡ Tree k us) → Unchanged (declared_ids (Tree k ts))
      → declared_ids (substituted m keeps place.Exported (Tree k ts)) ≡ declared_ids (Tree k ts)
  declarators_stay k ts bound h q tree u =
      let us : List Node = each_substituted m keeps (places keeps place.Exported k ts) ts in
      let e : substituted m keeps place.Exported (Tree k ts) ≡ Tree k us = substituted_tree m keeps place.Exported k ts ∙ tree us in
      ap declared_ids e ∙ bound us ∙ ap bound_ids (sym e)
      ∙ fields_stay place.Exported k ts h (every_stays ts) q tree (ap (list_any (λ x. is_some (m x))) (sym (bound ts)) ∙ u) ∙ sym (bound ts)

  -- functions and classes
  own_name_stays : (k : Kind) (t u : Node) → ((us : List Node) → declared_ids (Tree k us) ≡ ids_of (name_of (slice_get us 0))) → Fits t (slot.One (content.Node class.Ident))
      → is_plain (places keeps place.Exported k (t ∷ u ∷ []) 0) ≡ true → ((us : List Node) → tree_for m keeps place.Exported k (t ∷ u ∷ []) us ≡ Tree k us)
      → Unchanged (declared_ids (Tree k (t ∷ u ∷ []))) → declared_ids (substituted m keeps place.Exported (Tree k (t ∷ u ∷ []))) ≡ declared_ids (Tree k (t ∷ u ∷ []))
  own_name_stays k t u own h n tree none =
      let ps : ℕ → Place = places keeps place.Exported k (t ∷ u ∷ []) in
      let (k', i, e) = name_here t h in
      let one : ids_of (name_of (Some t)) ≡ id_of i ∷ [] = ap (λ t. ids_of (name_of (Some t))) e ∙ ap (λ y. ids_of (name_in y)) (outs-Identifier k' i) in
      let unchanged : Unchanged (id_of i ∷ []) = ap (list_any (λ x. is_some (m x))) (sym (own (t ∷ u ∷ []) ∙ one)) ∙ none in
      let stays : substituted m keeps (ps 0) t ≡ t = ap (substituted m keeps (ps 0)) e ∙ same_there (ps 0) k' i n unchanged ∙ sym e in
      ap declared_ids (substituted_tree m keeps place.Exported k (t ∷ u ∷ []) ∙ tree _) ∙ own _ ∙ ap (λ t. ids_of (name_of (Some t))) stays ∙ sym (own (t ∷ u ∷ []))

  and_false : (b : Bool) → (b && false) ≡ false
  and_false true = refl
  and_false false = refl

  -- an exported class declaration stays one
  class_same : (ts us : List Node) → tree_for m keeps place.Exported kind.ClassDecl ts us ≡ Tree kind.ClassDecl us
  class_same ts us =
      ap (λ b. if b then kept_class (identifier_at ts 0) us else written_out_if kind.ClassDecl (if_changed m (places keeps place.Exported kind.ClassDecl ts 1) (identifier_at ts 1)) us) (and_false keeps)
      ∙ same_kind kind.ClassDecl _ us (λ i. refl)

  -- a declaration stays of its kind where it is exported
  pub same_declaration : (k : Kind) (ts us : List Node) → IsTrue (belongs k class.Decl) → tree_for m keeps place.Exported k ts us ≡ Tree k us
  same_declaration kind.ClassDecl ts us b = class_same ts us
  same_declaration kind.FnDecl ts us b = same_kind kind.FnDecl _ us (λ i. refl)
  same_declaration kind.VarDecl ts us b = same_kind kind.VarDecl _ us (λ i. refl)
  same_declaration kind.UsingDecl ts us b = same_kind kind.UsingDecl _ us (λ i. refl)
  same_declaration kind.TsInterfaceDecl ts us b = same_kind kind.TsInterfaceDecl _ us (λ i. refl)
  same_declaration kind.TsTypeAliasDecl ts us b = same_kind kind.TsTypeAliasDecl _ us (λ i. refl)
  same_declaration kind.TsEnumDecl ts us b = same_kind kind.TsEnumDecl _ us (λ i. refl)
  same_declaration kind.TsModuleDecl ts us b = same_kind kind.TsModuleDecl _ us (λ i. refl)
  same_declaration k ts us b = impossible b

  declared_stay : (k : Kind) (ts : List Node) → IsTrue (belongs k class.Decl) → FieldsFit (slots_of k) ts → Unchanged (declared_ids (Tree k ts))
      → declared_ids (substituted m keeps place.Exported (Tree k ts)) ≡ declared_ids (Tree k ts)
  declared_stay kind.VarDecl ts b h u = declarators_stay kind.VarDecl ts (λ us. ap (declared_in (Tree kind.VarDecl us)) (outs-Tree kind.VarDecl us)) h (λ q. refl) (λ us. same_declaration kind.VarDecl ts us b) u
  declared_stay kind.UsingDecl ts b h u = declarators_stay kind.UsingDecl ts (λ us. ap (declared_in (Tree kind.UsingDecl us)) (outs-Tree kind.UsingDecl us)) h (λ q. refl) (λ us. same_declaration kind.UsingDecl ts us b) u
  declared_stay kind.FnDecl (t ∷ f ∷ []) b h u =
      own_name_stays kind.FnDecl t f (λ us. ap (declared_in (Tree kind.FnDecl us)) (outs-Tree kind.FnDecl us)) h.0 refl (λ us. same_declaration kind.FnDecl (t ∷ f ∷ []) us b) u
  declared_stay kind.ClassDecl (t ∷ c ∷ []) b h u =
      own_name_stays kind.ClassDecl t c (λ us. ap (declared_in (Tree kind.ClassDecl us)) (outs-Tree kind.ClassDecl us)) h.0 refl (λ us. same_declaration kind.ClassDecl (t ∷ c ∷ []) us b) u
  declared_stay kind.FnDecl [] b h u = absurd h
  declared_stay kind.FnDecl (t ∷ []) b h u = absurd h.1
  declared_stay kind.FnDecl (t ∷ f ∷ x ∷ xs) b h u = absurd h.1.1
  declared_stay kind.ClassDecl [] b h u = absurd h
  declared_stay kind.ClassDecl (t ∷ []) b h u = absurd h.1
  declared_stay kind.ClassDecl (t ∷ f ∷ x ∷ xs) b h u = absurd h.1.1
  declared_stay kind.TsInterfaceDecl ts b h u = declarators_stay kind.TsInterfaceDecl ts (λ us. ap (declared_in (Tree kind.TsInterfaceDecl us)) (outs-Tree kind.TsInterfaceDecl us)) h (λ q. refl) (λ us. same_declaration kind.TsInterfaceDecl ts us b) u
  declared_stay kind.TsTypeAliasDecl ts b h u = declarators_stay kind.TsTypeAliasDecl ts (λ us. ap (declared_in (Tree kind.TsTypeAliasDecl us)) (outs-Tree kind.TsTypeAliasDecl us)) h (λ q. refl) (λ us. same_declaration kind.TsTypeAliasDecl ts us b) u
  declared_stay kind.TsEnumDecl ts b h u = declarators_stay kind.TsEnumDecl ts (λ us. ap (declared_in (Tree kind.TsEnumDecl us)) (outs-Tree kind.TsEnumDecl us)) h (λ q. refl) (λ us. same_declaration kind.TsEnumDecl ts us b) u
  declared_stay kind.TsModuleDecl ts b h u = declarators_stay kind.TsModuleDecl ts (λ us. ap (declared_in (Tree kind.TsModuleDecl us)) (outs-Tree kind.TsModuleDecl us)) h (λ q. refl) (λ us. same_declaration kind.TsModuleDecl ts us b) u
  declared_stay k ts b h u = impossible b

  -- the names of an exported declaration
  pub exported_stay : (t : Node) → Fits t (slot.One (content.Node class.Decl)) → Unchanged (distinct (declared_ids t)) → distinct (declared_ids (substituted m keeps place.Exported t)) ≡ distinct (declared_ids t)
  exported_stay t h u =
      let (k, ts, e, b, f) = declaration_here t h in
      let unchanged : Unchanged (declared_ids (Tree k ts)) = ap (λ t. list_any (λ x. is_some (m x)) (declared_ids t)) (sym e) ∙ any_distinct _ (declared_ids t) u in
      ap distinct (ap (λ t. declared_ids (substituted m keeps place.Exported t)) e ∙ declared_stay k ts b f unchanged ∙ ap declared_ids (sym e))
