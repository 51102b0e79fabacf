-- The names that a node binds are identifiers' where the node can be written down.
use Rattle.std.proofs.Common.{◌≡◌, ℕ, zero, suc, Bool, true, false, not, ◌&&◌, List, [], ◌∷◌, ◌++◌, map, refl, sym, ap, ◌∙◌}
use Rattle.std.specs.Prelude.{if◌then◌else◌, unwrap_or, option_map}
use Rattle.std.specs.List.{list_all, slice_get, flat_map}
use Rattle.swc_tree_marks.specs.declared.ident.Ident.{Ident}
use Rattle.swc_tree_node.specs.declared.kind.Kind.{Kind}
use Rattle.swc_tree_node.specs.declared.kind.Kind.TheVariants as kind
use Rattle.swc_tree_node.specs.declared.slot.Slot.{Slot}
use Rattle.swc_tree_node.specs.declared.slot.Role.{Role}
use Rattle.swc_tree_node.specs.declared.slot.Role.TheVariants as role
use Rattle.swc_tree_node.specs.declared.node.Node.{Node, Tree}
use Rattle.swc_tree_node.specs.declared.node.Node.TheOpen.{Node-F}
use Rattle.swc_tree_node.specs.Table.{fields_of}
use Rattle.swc_tree_scoping.specs.Places.{field_role}
use Rattle.swc_tree_scoping.specs.BoundNames.{Id, own_id, in_part, in_parts, bound_ids}
use Rattle.swc_tree_scoping.proofs.BoundNames.{bound-Absent, bound-Flag, bound-Word, bound-Text, bound-Span, bound-Identifier, bound-List, bound-Tree}
use Rattle.swc_tree_grammar.specs.Writable.{Round, all_sound, binding, is_bindable, is_identifier_text, sound_in}
use Rattle.swc_tree_grammar.proofs.Asked.{of, sound, sound_list, sound_name, sound_tree}
use Rattle.swc_tree_grammar.proofs.Induction.{Each, by_children}
use Rattle.swc_base_rename_substitution.proofs.Room.{left, right}

-- ---- the parts of a node that bind

abbrev pub in_role : Role → Bool
in_role role.Declared = true
in_role role.Lexical = true
in_role role.Inherited = true
in_role _ = false

-- a node of that kind binds in some part
abbrev pub binds : Kind → Bool
binds kind.VarDecl = true
binds kind.UsingDecl = true
binds kind.VarDeclarator = true
binds kind.ArrayPat = true
binds kind.ObjectPat = true
binds kind.RestPat = true
binds kind.AssignPat = true
binds kind.AssignPatProp = true
binds kind.KeyValuePatProp = true
binds kind.ExportNamedSpecifier = true
binds _ = false

table_binds : (k : Kind) → binds k ≡ false → list_all (λ f. not (in_role f.2)) (fields_of k) ≡ true
table_binds kind.VarDecl h = absurd (cc)
table_binds kind.UsingDecl h = absurd (cc)
table_binds kind.VarDeclarator h = absurd (cc)
table_binds kind.ArrayPat h = absurd (cc)
table_binds kind.ObjectPat h = absurd (cc)
table_binds kind.RestPat h = absurd (cc)
table_binds kind.AssignPat h = absurd (cc)
table_binds kind.AssignPatProp h = absurd (cc)
table_binds kind.KeyValuePatProp h = absurd (cc)
table_binds kind.ExportNamedSpecifier h = absurd (cc)
table_binds k h = refl

negated : (b : Bool) → not b ≡ true → b ≡ false
negated true h = absurd (cc)
negated false h = refl

no_role : (fs : List (List ℕ × Slot × Role)) → list_all (λ f. not (in_role f.2)) fs ≡ true → (i : ℕ) → in_role (unwrap_or (option_map (λ f. f.2) (slice_get fs i)) role.Plain) ≡ false
no_role [] h i = refl
no_role (f ∷ fs) h zero = negated (in_role f.2) (left _ _ h)
no_role (f ∷ fs) h (suc i) = no_role fs (right (not (in_role f.2)) _ h) i

no_part : (r : Role) (ids : List Id) → in_role r ≡ false → in_part r ids ≡ []
no_part role.Declared ids h = absurd (cc)
no_part role.Lexical ids h = absurd (cc)
no_part role.Inherited ids h = absurd (cc)
no_part r ids h = refl

no_parts : (roles : ℕ → Role) (parts : List (List Id)) → ((i : ℕ) → in_role (roles i) ≡ false) → in_parts roles parts ≡ []
no_parts roles [] h = refl
no_parts roles (ids ∷ parts) h = rw (no_part (roles zero) ids (h zero), no_parts (λ i. roles (suc i)) parts (λ i. h (suc i))) refl

pub unbound : (k : Kind) (ts : List Node) → binds k ≡ false → bound_ids (Tree k ts) ≡ []
unbound k ts h = bound-Tree k ts ∙ no_parts (field_role k) (map bound_ids ts) (no_role (fields_of k) (table_binds k h))

-- ---- texts

abbrev pub all_texts : List Id → Bool
all_texts ids = list_all (λ x. is_identifier_text x.0) ids

pub both_true : {a b : Bool} → a ≡ true → b ≡ true → (a && b) ≡ true
both_true {a = true} h g = g
both_true {a = false} h g = h

pub texts_append : (xs ys : List Id) → all_texts xs ≡ true → all_texts ys ≡ true → all_texts (xs ++ ys) ≡ true
texts_append [] ys h g = g
texts_append (x ∷ xs) ys h g = both_true (left (is_identifier_text x.0) _ h) (texts_append xs ys (right (is_identifier_text x.0) _ h) g)

texts_part : (r : Role) (ids : List Id) → all_texts ids ≡ true → all_texts (in_part r ids) ≡ true
texts_part role.Declared ids h = h
texts_part role.Lexical ids h = h
texts_part role.Inherited ids h = h
texts_part r ids h = refl

abbrev Named : Node → Type 0
Named t = (r : Round) → sound t r ≡ true → all_texts (bound_ids t) ≡ true

parts_named : (roles : ℕ → Role) (ts : List Node) (r : Round) → Each Named ts → all_sound (map of ts) r ≡ true → all_texts (in_parts roles (map bound_ids ts)) ≡ true
parts_named roles [] r l h = refl
parts_named roles (t ∷ ts) r l h = texts_append (in_part (roles zero) (bound_ids t)) _
    (texts_part (roles zero) (bound_ids t) (l.0 r (right _ _ (left _ _ h)))) (parts_named (λ i. roles (suc i)) ts r l.1 (right _ _ h))

items_named : (ts : List Node) (r : Round) → Each Named ts → all_sound (map of ts) r ≡ true → all_texts (flat_map bound_ids ts) ≡ true
items_named [] r l h = refl
items_named (t ∷ ts) r l h = texts_append (bound_ids t) _ (l.0 r (right _ _ (left _ _ h))) (items_named ts r l.1 (right _ _ h))

alone : (ids : List Id) → all_texts ids ≡ true → all_texts (ids ++ []) ≡ true
alone ids h = texts_append ids [] h refl

row : (k : Kind) (ts : List Node) (r : Round) → Each Named ts → sound_in (Node-F.Tree k (map of ts)) r ≡ true → all_texts (in_parts (field_role k) (map bound_ids ts)) ≡ true
row kind.VarDecl (a ∷ b ∷ c ∷ []) r l h = alone (bound_ids c) (l.1.1.0 r (right _ _ h))
row kind.UsingDecl (a ∷ b ∷ c ∷ []) r l h = alone (bound_ids c) (l.1.1.0 r (right _ _ h))
row kind.VarDeclarator (a ∷ b ∷ c ∷ []) r l h = alone (bound_ids b) (l.1.0 (binding r) (left _ _ (right _ _ h)))
row kind.ArrayPat (a ∷ b ∷ []) r l h = alone (bound_ids b) (l.1.0 r (right _ _ h))
row kind.ObjectPat (a ∷ b ∷ []) r l h = alone (bound_ids b) (l.1.0 r (right _ _ h))
row kind.RestPat (a ∷ b ∷ []) r l h = alone (bound_ids b) (l.1.0 r (right _ _ h))
row kind.AssignPat (a ∷ b ∷ c ∷ []) r l h = alone (bound_ids b) (l.1.0 r (left _ _ (right _ _ h)))
row kind.AssignPatProp (a ∷ b ∷ c ∷ []) r l h = alone (bound_ids b) (l.1.0 r (left _ _ h))
row kind.KeyValuePatProp (a ∷ b ∷ []) r l h = alone (bound_ids b) (l.1.0 r (right _ _ (right _ _ h)))
row kind.ExportNamedSpecifier (a ∷ b ∷ c ∷ []) r l h = alone (bound_ids b) (l.1.0 r h)
row kind.VarDecl ts r l h = parts_named (field_role kind.VarDecl) ts (binding r) l h
row kind.UsingDecl ts r l h = parts_named (field_role kind.UsingDecl) ts (binding r) l h
row kind.VarDeclarator ts r l h = parts_named (field_role kind.VarDeclarator) ts (binding r) l h
row kind.ArrayPat ts r l h = parts_named (field_role kind.ArrayPat) ts (binding r) l h
row kind.ObjectPat ts r l h = parts_named (field_role kind.ObjectPat) ts (binding r) l h
row kind.RestPat ts r l h = parts_named (field_role kind.RestPat) ts (binding r) l h
row kind.AssignPat ts r l h = parts_named (field_role kind.AssignPat) ts (binding r) l h
row kind.AssignPatProp ts r l h = parts_named (field_role kind.AssignPatProp) ts (binding r) l h
row kind.KeyValuePatProp ts r l h = parts_named (field_role kind.KeyValuePatProp) ts (binding r) l h
row kind.ExportNamedSpecifier ts r l h = parts_named (field_role kind.ExportNamedSpecifier) ts (binding r) l h
row k ts r l h = ap all_texts (sym (bound-Tree k ts) ∙ unbound k ts refl)

pub bindable_text : (b : Bool) (x : List ℕ) → is_bindable b x ≡ true → is_identifier_text x ≡ true
bindable_text b x h = left _ _ h

pub by_round : (a b : Bool) (x : List ℕ) → (if a then is_identifier_text x else is_bindable b x) ≡ true → is_identifier_text x ≡ true
by_round true b x h = h
by_round false b x h = bindable_text b x h

own_named : (k : Kind) (i : Ident) (r : Round) → sound_in (Node-F.Identifier k i) r ≡ true → all_texts (own_id k i) ≡ true
own_named kind.BindingIdent i r h = both_true (by_round r.assigned r.strict i.sym h) refl
own_named k i r h = refl

pub bound_named : (t : Node) → Named t
bound_named t = by_children Named (
  λ r h. ap all_texts bound-Absent,
  λ x r h. ap all_texts (bound-Flag x),
  λ w r h. ap all_texts (bound-Word w),
  λ x r h. ap all_texts (bound-Text x),
  λ s r h. ap all_texts (bound-Span s),
  λ k i r h. ap all_texts (bound-Identifier k i) ∙ own_named k i r (sym (sound_name k i r) ∙ h),
)
    (λ ts l r h. ap all_texts (bound-List ts) ∙ items_named ts r l (sym (sound_list ts r) ∙ h))
    (λ k ts l r h. ap all_texts (bound-Tree k ts) ∙ row k ts r l (sym (sound_tree k ts r) ∙ h)) t
