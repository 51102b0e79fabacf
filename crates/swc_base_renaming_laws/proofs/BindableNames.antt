-- What a declaration declares may be bound in strict code, where the declaration can be written down there.
use Rattle.std.proofs.Common.{◌≡◌, ◌≢◌, ℕ, zero, suc, Bool, true, false, not, ◌&&◌, ◌||◌, List, [], ◌∷◌, ◌++◌, codes, map, nat_eq, refl, sym, ap, ◌∙◌}
use Rattle.std.specs.Cmp.Lexicographic.{pointwise}
use Rattle.std.specs.List.{list_all, flat_map}
use Rattle.std.proofs.lemmas.Slice.Eq.{bytes_eq-Decides}
use Rattle.swc_tree_marks.specs.declared.ident.Ident.{Ident}
use Rattle.swc_tree_node.specs.declared.kind.Kind.{Kind}
use Rattle.swc_tree_node.specs.declared.kind.Kind.TheVariants as kind
use Rattle.swc_tree_node.specs.declared.slot.Role.{Role}
use Rattle.swc_tree_node.specs.declared.slot.Role.TheVariants as role
use Rattle.swc_tree_node.specs.declared.node.Node.{Node, Tree, out-Node}
use Rattle.swc_tree_node.specs.declared.node.Node.TheVariants.{outs-Tree}
use Rattle.swc_tree_node.specs.declared.node.Node.TheOpen.{Node-F}
use Rattle.swc_tree_node.specs.Table.{slots_of}
use Rattle.swc_tree_node.specs.Fits.{FieldsFit}
use Rattle.swc_tree_scoping.specs.Places.{field_role}
use Rattle.swc_tree_scoping.specs.BoundNames.{Id, own_id, in_part, in_parts, bound_ids, declared_ids, declared_in, id_of, name_in}
use Rattle.swc_tree_scoping.proofs.BoundNames.{bound-Absent, bound-Flag, bound-Word, bound-Text, bound-Span, bound-Identifier, bound-List, bound-Tree}
use Rattle.swc_tree_grammar.specs.Writable.{Round, all_sound, is_bindable, name_is, sound_in}
use Rattle.swc_tree_grammar.proofs.Asked.{of, sound, sound_list, sound_name, sound_tree}
use Rattle.swc_tree_grammar.proofs.Induction.{Each, by_children}
use Rattle.swc_base_rename_laws.proofs.WritableStaysNames.{both_true, unbound}

-- strict code, in which names are bound
abbrev pub strict : Round
strict = record { strict = true; assigned = false }

left : (a b : Bool) → (a && b) ≡ true → a ≡ true
left true b h = refl
left false b h = h

right : (a b : Bool) → (a && b) ≡ true → b ≡ true
right true b h = h
right false b h = absurd (cc)

abbrev pub all_bindable : List Id → Bool
all_bindable ids = list_all (λ x. is_bindable true x.0) ids

bindable_append : (xs ys : List Id) → all_bindable xs ≡ true → all_bindable ys ≡ true → all_bindable (xs ++ ys) ≡ true
bindable_append [] ys h g = g
bindable_append (x ∷ xs) ys h g = both_true (left (is_bindable true x.0) _ h) (bindable_append xs ys (right (is_bindable true x.0) _ h) g)

bindable_part : (r : Role) (ids : List Id) → all_bindable ids ≡ true → all_bindable (in_part r ids) ≡ true
bindable_part role.Declared ids h = h
bindable_part role.Lexical ids h = h
bindable_part role.Inherited ids h = h
bindable_part r ids h = refl

abbrev Bindable : Node → Type 0
Bindable t = sound t strict ≡ true → all_bindable (bound_ids t) ≡ true

parts_named : (roles : ℕ → Role) (ts : List Node) → Each Bindable ts → all_sound (map of ts) strict ≡ true → all_bindable (in_parts roles (map bound_ids ts)) ≡ true
parts_named roles [] l h = refl
parts_named roles (t ∷ ts) l h = bindable_append (in_part (roles zero) (bound_ids t)) _
    (bindable_part (roles zero) (bound_ids t) (l.0 (right _ _ (left _ _ h)))) (parts_named (λ i. roles (suc i)) ts l.1 (right _ _ h))

items_named : (ts : List Node) → Each Bindable ts → all_sound (map of ts) strict ≡ true → all_bindable (flat_map bound_ids ts) ≡ true
items_named [] l h = refl
items_named (t ∷ ts) l h = bindable_append (bound_ids t) _ (l.0 (right _ _ (left _ _ h))) (items_named ts l.1 (right _ _ h))

alone : (ids : List Id) → all_bindable ids ≡ true → all_bindable (ids ++ []) ≡ true
alone ids h = bindable_append ids [] h refl

row : (k : Kind) (ts : List Node) → Each Bindable ts → sound_in (Node-F.Tree k (map of ts)) strict ≡ true → all_bindable (in_parts (field_role k) (map bound_ids ts)) ≡ true
row kind.VarDecl (a ∷ b ∷ c ∷ []) l h = alone (bound_ids c) (l.1.1.0 (right _ _ h))
row kind.UsingDecl (a ∷ b ∷ c ∷ []) l h = alone (bound_ids c) (l.1.1.0 (right _ _ h))
row kind.VarDeclarator (a ∷ b ∷ c ∷ []) l h = alone (bound_ids b) (l.1.0 (left _ _ (right _ _ h)))
row kind.ArrayPat (a ∷ b ∷ []) l h = alone (bound_ids b) (l.1.0 (right _ _ h))
row kind.ObjectPat (a ∷ b ∷ []) l h = alone (bound_ids b) (l.1.0 (right _ _ h))
row kind.RestPat (a ∷ b ∷ []) l h = alone (bound_ids b) (l.1.0 (right _ _ h))
row kind.AssignPat (a ∷ b ∷ c ∷ []) l h = alone (bound_ids b) (l.1.0 (left _ _ (right _ _ h)))
row kind.AssignPatProp (a ∷ b ∷ c ∷ []) l h = alone (bound_ids b) (l.1.0 (left _ _ h))
row kind.KeyValuePatProp (a ∷ b ∷ []) l h = alone (bound_ids b) (l.1.0 (right _ _ (right _ _ h)))
row kind.ExportNamedSpecifier (a ∷ b ∷ c ∷ []) l h = alone (bound_ids b) (l.1.0 h)
row kind.VarDecl ts l h = parts_named (field_role kind.VarDecl) ts l h
row kind.UsingDecl ts l h = parts_named (field_role kind.UsingDecl) ts l h
row kind.VarDeclarator ts l h = parts_named (field_role kind.VarDeclarator) ts l h
row kind.ArrayPat ts l h = parts_named (field_role kind.ArrayPat) ts l h
row kind.ObjectPat ts l h = parts_named (field_role kind.ObjectPat) ts l h
row kind.RestPat ts l h = parts_named (field_role kind.RestPat) ts l h
row kind.AssignPat ts l h = parts_named (field_role kind.AssignPat) ts l h
row kind.AssignPatProp ts l h = parts_named (field_role kind.AssignPatProp) ts l h
row kind.KeyValuePatProp ts l h = parts_named (field_role kind.KeyValuePatProp) ts l h
row kind.ExportNamedSpecifier ts l h = parts_named (field_role kind.ExportNamedSpecifier) ts l h
row k ts l h = ap all_bindable (sym (bound-Tree k ts) ∙ unbound k ts refl)

own_bindable : (k : Kind) (i : Ident) → sound_in (Node-F.Identifier k i) strict ≡ true → all_bindable (own_id k i) ≡ true
own_bindable kind.BindingIdent i h = both_true h refl
own_bindable k i h = refl

bound_bindable : (t : Node) → Bindable t
bound_bindable t = by_children Bindable (
  λ h. ap all_bindable bound-Absent,
  λ x h. ap all_bindable (bound-Flag x),
  λ w h. ap all_bindable (bound-Word w),
  λ x h. ap all_bindable (bound-Text x),
  λ s h. ap all_bindable (bound-Span s),
  λ k i h. ap all_bindable (bound-Identifier k i) ∙ own_bindable k i (sym (sound_name k i strict) ∙ h),
)
    (λ ts l h. ap all_bindable (bound-List ts) ∙ items_named ts l (sym (sound_list ts strict) ∙ h))
    (λ k ts l h. ap all_bindable (bound-Tree k ts) ∙ row k ts l (sym (sound_tree k ts strict) ∙ h)) t

-- the name of a function or a class
named_bindable : (y : Node-F Node) → name_is true y ≡ true → all_bindable (id_of (name_in y)) ≡ true
named_bindable (Node-F.Identifier k i) h = both_true h refl
named_bindable y h = refl

declared_of_tree : (k : Kind) (ts : List Node) → declared_ids (Tree k ts) ≡ declared_in (Tree k ts) (Node-F.Tree k ts)
declared_of_tree k ts = ap (declared_in (Tree k ts)) (outs-Tree k ts)

decl_row : (k : Kind) (ts : List Node) → FieldsFit (slots_of k) ts → sound (Tree k ts) strict ≡ true → sound_in (Node-F.Tree k (map of ts)) strict ≡ true
    → all_bindable (declared_in (Tree k ts) (Node-F.Tree k ts)) ≡ true
decl_row kind.FnDecl [] f s h = absurd f
decl_row kind.FnDecl (a ∷ []) f s h = absurd f.1
decl_row kind.FnDecl (a ∷ b ∷ []) f s h = named_bindable (out-Node a) (left _ _ h)
decl_row kind.FnDecl (a ∷ b ∷ c ∷ ts) f s h = absurd f.1.1
decl_row kind.ClassDecl [] f s h = absurd f
decl_row kind.ClassDecl (a ∷ []) f s h = absurd f.1
decl_row kind.ClassDecl (a ∷ b ∷ []) f s h = named_bindable (out-Node a) (left _ _ h)
decl_row kind.ClassDecl (a ∷ b ∷ c ∷ ts) f s h = absurd f.1.1
decl_row k ts f s h = bound_bindable (Tree k ts) s

pub declared_bindable : (k : Kind) (ts : List Node) → FieldsFit (slots_of k) ts → sound (Tree k ts) strict ≡ true → all_bindable (declared_ids (Tree k ts)) ≡ true
declared_bindable k ts f s = ap all_bindable (declared_of_tree k ts) ∙ decl_row k ts f s (sym (sound_tree k ts strict) ∙ s)

-- what may be bound is neither `eval` nor `arguments`
both_false : (a b : Bool) → (not (a || b)) ≡ true → (a ≡ false) × (b ≡ false)
both_false true b h = absurd (cc)
both_false false true h = absurd (cc)
both_false false false h = (refl, refl)

other_word : (x word : List ℕ) → pointwise nat_eq x word ≡ false → x ≢ word
other_word x word h e = let never : pointwise nat_eq x word ≡ true = (bytes_eq-Decides x word).1 e in cc

pub no_eval : (x : List ℕ) → is_bindable true x ≡ true → x ≢ codes "eval"
no_eval x h = other_word x (codes "eval") (both_false _ _ (right _ _ h)).0

pub no_arguments : (x : List ℕ) → is_bindable true x ≡ true → x ≢ codes "arguments"
no_arguments x h = other_word x (codes "arguments") (both_false _ _ (right _ _ h)).1
