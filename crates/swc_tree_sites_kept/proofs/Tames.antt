-- A tree that can be written down is tame if its code is strict, or no plain function stands in a block of sloppy code.
use Rattle.std.proofs.Common.{◌≡◌, ℕ, zero, suc, Bool, true, false, not, ◌&&◌, ◌||◌, Option, Some, List, [], ◌∷◌, map, refl, sym, ap, ◌∙◌, subst, rules, true≢false}
use Rattle.std.specs.Prelude.{if◌then◌else◌}
use Rattle.std.specs.List.{list_all, slice_get}
use Rattle.swc_tree_marks.specs.declared.ident.Ident.{Ident}
use Rattle.swc_tree_node.specs.declared.kind.Kind.{Kind}
use Rattle.swc_tree_node.specs.declared.kind.Kind.TheVariants as kind
use Rattle.swc_tree_node.specs.declared.kind.Class.{Class}
use Rattle.swc_tree_node.specs.declared.kind.Class.TheVariants as class
use Rattle.swc_tree_node.specs.declared.slot.Content.{Content}
use Rattle.swc_tree_node.specs.declared.slot.Content.TheVariants as content
use Rattle.swc_tree_node.specs.declared.slot.Slot.{Slot}
use Rattle.swc_tree_node.specs.declared.slot.Slot.TheVariants as slot
use Rattle.swc_tree_node.specs.declared.node.Node.{Node, Absent, Flag, Word, Text, Span, List as Many, Identifier, Tree, out-Node, the_lemmas}
use Rattle.swc_tree_node.specs.declared.node.Node.TheOpen.{Node-F}
use Rattle.swc_tree_node.specs.declared.node.Node.TheVariants.{outs-Absent, outs-Flag, outs-Word, outs-Text, outs-Span, outs-List, outs-Identifier, outs-Tree}
use Rattle.swc_tree_node.specs.Table.{fields_of, slots_of}
use Rattle.swc_tree_node.specs.Fits.{AllFit, FieldsFit, Fits, belongs, single}
use Rattle.swc_tree_scoping.specs.declared.places.Place.{Place}
use Rattle.swc_tree_scoping.specs.declared.places.Scope.TheVariants as scope
use Rattle.swc_tree_scoping.specs.declared.places.View.TheVariants as view
use Rattle.swc_tree_scoping.specs.Places.{block_scope, field_role, has_use_strict, is_expression_in, items_in as statements_in, nested_below, place_in}
use Rattle.swc_tree_grammar.specs.Shapes.{items_in}
use Rattle.swc_tree_grammar.specs.Levels.{is_absent, is_absent_in}
use Rattle.swc_tree_grammar.specs.Blocks.{takes_else}
use Rattle.swc_tree_grammar.specs.Writable.{Asked, all_sound, branch, constructor_key_in, declares_in, head, in_head_in, pattern, sound_in}
use Rattle.swc_tree_grammar.proofs.Asked.{asked, head_list, head_tree, of, sound, sound_list, sound_tree}
use Rattle.swc_tree_grammar.proofs.Induction.{Each, by_children}
use Rattle.swc_tree_grammar.proofs.Items.{items_of_list, listed}
use Rattle.swc_tree_grammar.proofs.Places.{one, stands}
use Rattle.swc_tree_grammar_laws.proofs.Levelled.{also, both, half}
use Rattle.swc_tree_sites.proofs.Leaves.{Field}
use Rattle.swc_tree_sites_written.specs.Tame.{branch_tame, fields_tame, is_loose, is_tame, items_tame, opens_loose, opens_loose_in, part_tame}
use Rattle.swc_tree_sites_written.proofs.Written.{of as told, tame_list, tame_tree}
use Rattle.swc_base_fixer_laws.specs.Sets.{item}
use Rattle.swc_base_fixer_laws.proofs.Quiet.{is_quiet, items_fit}
use Rattle.swc_tree_sites_kept.proofs.Asked.{code}
use Rattle.swc_tree_sites_kept.proofs.TameLeft.{ending_loose}
use Rattle.swc_tree_sites_kept.proofs.Patterns.{binds, declarators_bind, element_binds, holes_bind, list_binds, maybe_pattern_binds, name_binds, name_bound, never, no, only_node, part_binds, part_whole, pattern_binds, shaped_binds}
use Rattle.swc_tree_sites_kept.proofs.Quiet.{is_unbinding, quiet_tame, quiet_tree, roles_of, unbinding}
use Rattle.swc_tree_sites_kept.proofs.TameSloppy.{Calm, Known, Nested, calm_field, calm_item, is_member, known_field, known_item, nested_calm, no_constructor, strict_at}

-- ---- the first branch of an `if`

-- what is asked of the first of some nodes, and of the others
first_asked : (t : Node) (es : List Asked) (s a : Bool) → all_sound (of t ∷ es) (code s a) ≡ true → sound t (code s a) ≡ true
first_asked t es s a h = let p = half h in let q = half p.0 in q.1

others_asked : (t : Node) (es : List Asked) (s a : Bool) → all_sound (of t ∷ es) (code s a) ≡ true → all_sound es (code s a) ≡ true
others_asked t es s a h = let p = half h in p.1

only_loose : (ss : List Node) (s a : Bool) → AllFit (one class.Stmt) ss → (s ≡ false → (i : ℕ) (c : Node) → slice_get ss i ≡ Some c → Nested c) → all_sound (map of ss) (code s a) ≡ true → opens_loose_in ss ≡ true
only_loose [] s a f m h = refl
only_loose (t ∷ u ∷ ss) s a f m h = refl
only_loose (t ∷ []) s a f m h = at (takes_else t) refl
  where
    at : (b : Bool) → takes_else t ≡ b → (not b || is_loose t) ≡ true
    at true e = ending_loose t s a f.0 (λ g. m g 0 t refl) (first_asked t [] s a h) e
    at false e = refl

-- what stands in a block is nested
block_items : (x : Node) (ss : List Node) (s : Bool) (w : Place) → block_scope w.standing ≡ Some scope.Block → Calm s w (Tree kind.BlockStmt (x ∷ Many ss ∷ [])) → s ≡ false → (i : ℕ) (c : Node) → slice_get ss i ≡ Some c → Nested c
block_items x ss s w b m g i c e =
    let ts : List Node = x ∷ Many ss ∷ [] in
    let v : Place = place_in w (Node-F.Tree kind.BlockStmt ts) 1 in
    nested_calm s (place_in v (Node-F.List ss) i) c (ap (λ o. nested_below w.nested o view.Whole) b) (calm_item ss s v (calm_field kind.BlockStmt ts s w (λ h. no h) m 1 (Many ss) refl) i c e) g

block_opens : (x : Node) (ss : List Node) (s a : Bool) (w : Place) → block_scope w.standing ≡ Some scope.Block → Calm s w (Tree kind.BlockStmt (x ∷ Many ss ∷ [])) → AllFit (one class.Stmt) ss → sound (Tree kind.BlockStmt (x ∷ Many ss ∷ [])) (code s a) ≡ true
    → opens_loose (Node-F.Tree kind.BlockStmt (x ∷ Many ss ∷ [])) ≡ true
block_opens x ss s a w b m f h =
    let items = others_asked x (of (Many ss) ∷ []) s false (sym (sound_tree kind.BlockStmt (x ∷ Many ss ∷ []) (code s a)) ∙ h) in
    ap opens_loose_in (items_of_list ss) ∙ only_loose ss s false f (block_items x ss s w b m) (sym (sound_list ss (code s false)) ∙ first_asked (Many ss) [] s false items)

tree_opens_loose : (k : Kind) (ts : List Node) (s a : Bool) (w : Place) → block_scope w.standing ≡ Some scope.Block → Calm s w (Tree k ts) → FieldsFit (slots_of k) ts → sound (Tree k ts) (code s a) ≡ true → opens_loose (Node-F.Tree k ts) ≡ true
tree_opens_loose kind.BlockStmt [] s a w b m f h = refl
tree_opens_loose kind.BlockStmt (x ∷ []) s a w b m f h = refl
tree_opens_loose kind.BlockStmt (x ∷ y ∷ z ∷ ts) s a w b m f h = refl
tree_opens_loose kind.BlockStmt (x ∷ y ∷ []) s a w b m f h =
    let l = listed y (content.Node class.Stmt) f.1.0 in
    subst (λ y. Calm s w (Tree kind.BlockStmt (x ∷ y ∷ [])) → sound (Tree kind.BlockStmt (x ∷ y ∷ [])) (code s a) ≡ true → opens_loose (Node-F.Tree kind.BlockStmt (x ∷ y ∷ [])) ≡ true) (sym l.is)
    (λ m h. block_opens x l.items s a w b m l.fit h) m h
tree_opens_loose k ts s a w b m f h = refl

opened_loose : (t : Node) (s a : Bool) (w : Place) → block_scope w.standing ≡ Some scope.Block → Calm s w t → Fits t (one class.Stmt) → sound t (code s a) ≡ true → opens_loose (out-Node t) ≡ true
opened_loose t s a w b m f h = only_node class.Stmt (λ t. Calm s w t → sound t (code s a) ≡ true → opens_loose (out-Node t) ≡ true) (λ k i g b m h. ap opens_loose (outs-Identifier k i))
    (λ k ts e f g m h. ap opens_loose (outs-Tree k ts) ∙ tree_opens_loose k ts s a w b m f h) t f m h

-- ---- places of no parameter

abbrev is_parameter_class : Class → Bool
is_parameter_class class.Param = true
is_parameter_class _ = false

abbrev is_parameter_content : Content → Bool
is_parameter_content (content.Node c) = is_parameter_class c
is_parameter_content _ = false

abbrev is_free_slot : Slot → Bool
is_free_slot (slot.One c) = not (is_parameter_content c)
is_free_slot (slot.Optional c) = not (is_parameter_content c)
is_free_slot (slot.List c) = not (is_parameter_content c)
is_free_slot (slot.Holes c) = not (is_parameter_content c)
is_free_slot (slot.OptionalList c) = not (is_parameter_content c)
is_free_slot _ = true

free_item : (s : Slot) → is_free_slot s ≡ true → is_free_slot (item s) ≡ true
free_item (slot.List c) q = q
free_item (slot.OptionalList c) q = q
free_item (slot.Holes c) q = q
free_item s q = refl

abbrev free_place : Option Content → Bool
free_place (Some c) = not (is_parameter_content c)
free_place _ = false

free_single : (s : Slot) (c : Class) → is_free_slot s ≡ true → single s ≡ Some (content.Node c) → not (is_parameter_class c) ≡ true
free_single (slot.One d) c q e = sym (ap free_place e) ∙ q
free_single (slot.Optional d) c q e = sym (ap free_place e) ∙ q
free_single s c q e = absurd (cc)

abbrev is_parameter : Kind → Bool
is_parameter kind.Param = true
is_parameter _ = false

parameter_class : (c : Class) → not (is_parameter_class c) ≡ true → belongs kind.Param c ≡ true → is_parameter kind.Param ≡ false
parameter_class class.Param n b = absurd (cc)
parameter_class c n b = absurd (cc)

no_parameter : (k : Kind) (c : Class) → not (is_parameter_class c) ≡ true → belongs k c ≡ true → is_parameter k ≡ false
no_parameter kind.Param c n b = parameter_class c n b
no_parameter k c n b = refl

-- ---- what being written down gives of a node

-- as itself; where names are bound; as the declaration in the head of a `for`; as the key of a constructor
record Tames (strict : Bool) (t : Node) (s : Slot) : Type 0 where
  by_sound : is_free_slot s ≡ true → (a : Bool) → sound t (code strict a) ≡ true → is_tame t false ≡ true
  by_bound : (a b : Bool) → binds a (out-Node t) ≡ true → sound t (code strict a) ≡ true → part_tame b (told t) ≡ true
  by_head : (a : Bool) → (asked t).in_head (code strict a) ≡ true → is_tame t false ≡ true
  by_key : constructor_key_in (out-Node t) ≡ true → is_tame t false ≡ true

data Fields : (ℕ → Bool) → List Field → List Node → Type 0 where
  none : {strict : ℕ → Bool} → Fields strict [] []
  more : {strict : ℕ → Bool} {f : Field} {fs : List Field} {t : Node} {ts : List Node} → Fits t f.1 → (is_quiet f.1 ≡ true → is_tame t false ≡ true) → Tames (strict zero) t f.1 → Fields (λ i. strict (suc i)) fs ts → Fields strict (f ∷ fs) (t ∷ ts)

not_and : (b : Bool) → not (b && false) ≡ true
not_and true = refl
not_and false = refl

part_of : (b : Bool) (t : Node) → is_expression_in (out-Node t) ≡ false → is_tame t b ≡ true → part_tame b (told t) ≡ true
part_of b t e h = also (ap (λ x. not (b && x)) e ∙ not_and b) h

alone : {c : Bool} {t : Node} {s : Slot} → Tames c t s → is_free_slot s ≡ true → (a : Bool) → all_sound (of t ∷ []) (code c a) ≡ true → is_tame t false ≡ true
alone {c = c} {t = t} x q a h = x.by_sound q a (first_asked t [] c a h)

two : {c : Bool} {t u : Node} {s v : Slot} → Tames c t s → Tames c u v → is_free_slot s ≡ true → is_free_slot v ≡ true → (a : Bool) → all_sound (of t ∷ of u ∷ []) (code c a) ≡ true → (is_tame t false ≡ true) × (is_tame u false ≡ true)
two {c = c} {t = t} {u = u} x y q r a h = (x.by_sound q a (first_asked t (of u ∷ []) c a h), alone y r a (others_asked t (of u ∷ []) c a h))

three : {c : Bool} {t u w : Node} {s v z : Slot} → Tames c t s → Tames c u v → Tames c w z → is_free_slot s ≡ true → is_free_slot v ≡ true → is_free_slot z ≡ true → (a : Bool) → all_sound (of t ∷ of u ∷ of w ∷ []) (code c a) ≡ true
    → (is_tame t false ≡ true) × (is_tame u false ≡ true) × (is_tame w false ≡ true)
three {c = c} {t = t} {u = u} {w = w} x y m q r o a h = let p = two y m r o a (others_asked t (of u ∷ of w ∷ []) c a h) in (x.by_sound q a (first_asked t (of u ∷ of w ∷ []) c a h), p.0, p.1)

-- parameters, and what stands beside them
bound_and : {c : Bool} {t u : Node} {s v : Slot} → Tames c t s → Tames c u v → is_free_slot v ≡ true → (b : Bool) → binds false (out-Node t) ≡ true → all_sound (of t ∷ of u ∷ []) (code c false) ≡ true → (part_tame b (told t) ≡ true) × (is_tame u false ≡ true)
bound_and {c = c} {t = t} {u = u} x y q b g h = (x.by_bound false b g (first_asked t (of u ∷ []) c false h), alone y q false (others_asked t (of u ∷ []) c false h))

absent_tame : (t : Node) → is_absent t ≡ true → is_tame t false ≡ true
absent_tame t = by_children (λ t. is_absent t ≡ true → is_tame t false ≡ true)
    (λ h. search (rules, the_lemmas), λ x h. search (rules, the_lemmas), λ w h. search (rules, the_lemmas), λ x h. search (rules, the_lemmas), λ r h. search (rules, the_lemmas), λ k i h. search (rules, the_lemmas))
    (λ ts l h. no (sym (ap is_absent_in (outs-List ts)) ∙ h))
    (λ k ts l h. no (sym (ap is_absent_in (outs-Tree k ts)) ∙ h)) t

maybe_branch : {c : Bool} {t : Node} {s : Slot} → Tames c t s → is_free_slot s ≡ true → (a : Bool) → (is_absent t || branch (of t) (code c a)) ≡ true → is_tame t false ≡ true
maybe_branch {c = c} {t = t} x q a h = at (is_absent t) refl h
  where
    at : (b : Bool) → is_absent t ≡ b → (b || branch (of t) (code c a)) ≡ true → is_tame t false ≡ true
    at true e h = absent_tame t e
    at false e h = let p = half h in x.by_sound q a p.1

head_tame : {c : Bool} {t : Node} {s : Slot} → Tames c t s → is_free_slot s ≡ true → (a : Bool) → head (of t) (code c a) ≡ true → is_tame t false ≡ true
head_tame {c = c} {t = t} x q a h = at (declares_in (out-Node t)) h
  where
    at : (b : Bool) → (if b then (asked t).in_head (code c a) else (pattern t (code c true) && sound t (code c true))) ≡ true → is_tame t false ≡ true
    at true h = x.by_head a h
    at false h = let p = half h in x.by_sound q true p.1

-- the fields of a kind that binds nothing
abbrev plain_field : Field → Bool
plain_field f = is_unbinding f.2 && is_free_slot f.1

all : (fs : List Field) (s : Bool) {ts : List Node} → Fields (λ i. s) fs ts → list_all plain_field fs ≡ true → all_sound (map of ts) (code s false) ≡ true → fields_tame (roles_of fs) false (map told ts) ≡ true
all [] s none q h = refl
all (f ∷ fs) s (more {t = t} {ts = ts} _ _ x d) q h =
    let p = half {a = plain_field f} q in let m = half {a = is_unbinding f.2} p.0 in
    also (ap (λ b. part_tame b (told t)) (unbinding f.2 m.0) ∙ x.by_sound m.1 false (first_asked t (map of ts) s false h)) (all fs s d p.1 (others_asked t (map of ts) s false h))

-- ---- each kind of node

same_items : (y : Node-F Node) → statements_in y ≡ items_in y
same_items (Node-F.List ts) = refl
same_items y = refl

row : (k : Kind) {ts : List Node} (s : Bool) → Fields (strict_at k ts s) (fields_of k) ts → (a : Bool) → is_parameter k ≡ false → sound_in (Node-F.Tree k (map of ts)) (code s a) ≡ true → fields_tame (field_role k) false (map told ts) ≡ true
row kind.Param s d a n h = absurd (cc)
row kind.SeqExpr s (more _ q _ (more _ _ x none)) a n h = let p = half h in also (q refl) (also (x.by_sound refl a p.1) refl)
row kind.AssignExpr s (more _ q _ (more _ o _ (more _ _ x (more _ _ y none)))) a n h = let p = half h in let m = half p.1 in also (q refl) (also (o refl) (also (x.by_sound refl true m.0) (also (alone y refl false m.1) refl)))
row kind.UpdateExpr s (more _ q _ (more _ o _ (more _ u _ (more _ _ x none)))) a n h = let p = half h in also (q refl) (also (o refl) (also (u refl) (also (x.by_sound refl false p.1) refl)))
row kind.BinExpr s (more _ q _ (more _ o _ (more _ _ x (more _ _ y none)))) a n h = let p = half h in let m = half p.1 in also (q refl) (also (o refl) (also (x.by_sound refl false m.0) (also (alone y refl false m.1) refl)))
row kind.MemberExpr s (more _ q _ (more _ _ x (more _ _ y none))) a n h = let p = half h in let m = half p.1 in also (q refl) (also (x.by_sound refl false m.0) (also (y.by_sound refl false m.1) refl))
row kind.Tpl s (more _ q _ (more _ _ x (more _ o _ none))) a n h = let p = half h in also (q refl) (also (x.by_sound refl false p.1) (also (o refl) refl))
row kind.OptChainExpr s (more _ q _ (more _ o _ (more _ _ x none))) a n h = let p = half h in also (q refl) (also (o refl) (also (x.by_sound refl false p.1) refl))
row kind.ArrayPat s (more _ q _ (more _ _ x none)) a n h = let p = half h in also (q refl) (also (x.by_sound refl a p.1) refl)
row kind.ObjectPat s (more _ q _ (more _ _ x none)) a n h = let p = half h in also (q refl) (also (x.by_sound refl a p.1) refl)
row kind.RestPat s (more _ q _ (more _ _ x none)) a n h = let p = half h in also (q refl) (also (x.by_sound refl a p.1) refl)
row kind.KeyValuePatProp s (more _ _ x (more _ _ y none)) a n h = let p = half h in let m = half p.1 in also (x.by_sound refl false m.0) (also (y.by_sound refl a m.1) refl)
row kind.AssignPat s (more _ q _ (more _ _ x (more _ _ y none))) a n h = let p = half h in let m = half p.1 in also (q refl) (also (x.by_sound refl a m.0) (also (alone y refl false m.1) refl))
row kind.AssignPatProp s (more _ q _ (more _ _ x (more _ _ y none))) a n h = let p = half h in also (q refl) (also (x.by_sound refl a p.0) (also (alone y refl false p.1) refl))
row kind.ArrowExpr s (more _ q _ (more {t = t} f _ x (more _ _ y (more _ o _ none)))) a n h =
    let p = half h in let m = bound_and x y refl true (list_binds s t (content.Node class.Pat) f p.0) p.1 in also (q refl) (also m.0 (also m.1 (also (o refl) refl)))
row kind.Function s (more _ q _ (more {t = t} f _ x (more _ _ y (more _ o _ (more _ u _ none))))) a n h =
    let p = half h in let m = bound_and x y refl false (list_binds s t (content.Node class.Param) f p.0) p.1 in also (q refl) (also m.0 (also m.1 (also (o refl) (also (u refl) refl))))
row kind.Constructor s (more _ q _ (more _ _ z (more {t = t} f _ x (more _ _ y none)))) a n h =
    let p = half h in let o = half p.1 in let m = bound_and x y refl false (list_binds s t (content.Node class.Param) f o.0) o.1 in also (q refl) (also (z.by_key p.0) (also m.0 (also m.1 refl)))
row kind.GetterProp s (more _ q _ (more _ _ x (more _ _ y none))) a n h = let p = half h in also (q refl) (also (alone x refl false p.0) (also (alone y refl false p.1) refl))
row kind.SetterProp s (more _ q _ (more _ _ z (more {t = t} _ _ x (more _ _ y none)))) a n h =
    let p = half h in let o = half p.1 in let m = bound_and x y refl true (element_binds t p.0) o.1 in also (q refl) (also (alone z refl false o.0) (also m.0 (also m.1 refl)))
row kind.ClassMethod s (more _ q _ (more _ _ x (more _ _ y (more _ o _ (more _ u _ none))))) a n h = let p = half h in let m = half p.1 in also (q refl) (also (x.by_sound refl false m.0) (also (y.by_sound refl a m.1) (also (o refl) (also (u refl) refl))))
row kind.PrivateMethod s (more _ q _ (more _ o _ (more _ _ y (more _ u _ (more _ v _ none))))) a n h = let p = half h in also (q refl) (also (o refl) (also (y.by_sound refl a p.1) (also (u refl) (also (v refl) refl))))
row kind.PrivateProp s (more _ q _ (more _ o _ (more _ _ y (more _ u _ none)))) a n h = also (q refl) (also (o refl) (also (alone y refl false h) (also (u refl) refl)))
row kind.Class s (more _ q _ (more _ _ x (more _ _ y none))) a n h = let m = two x y refl refl false h in also (q refl) (also m.0 (also m.1 refl))
row kind.FnDecl s (more _ q _ (more _ _ y none)) a n h = let p = half h in also (q refl) (also (y.by_sound refl a p.1) refl)
row kind.FnExpr s (more _ q _ (more _ _ y none)) a n h = let p = half h in also (q refl) (also (y.by_sound refl a p.1) refl)
row kind.ClassDecl s (more _ q _ (more _ _ y none)) a n h = let p = half h in also (q refl) (also (y.by_sound refl a p.1) refl)
row kind.ClassExpr s (more _ q _ (more _ _ y none)) a n h = let p = half h in also (q refl) (also (y.by_sound refl a p.1) refl)
row kind.VarDeclarator s (more _ q _ (more _ _ x (more _ _ y none))) a n h = let p = half h in let m = half p.1 in also (q refl) (also (x.by_sound refl false m.0) (also (alone y refl false m.1) refl))
row kind.VarDecl s (more _ q _ (more _ o _ (more {t = t} f _ y none))) a n h = let p = half h in also (q refl) (also (o refl) (also (y.by_bound a true (declarators_bind a t f) p.1) refl))
row kind.UsingDecl s (more _ q _ (more _ o _ (more {t = t} f _ y none))) a n h = let p = half h in also (q refl) (also (o refl) (also (y.by_bound a true (declarators_bind a t f) p.1) refl))
row kind.ExprStmt s (more _ q _ (more _ _ x none)) a n h = let p = half h in also (q refl) (also (alone x refl false p.1) refl)
row kind.CatchClause s (more _ q _ (more {t = t} _ _ x (more _ _ y none))) a n h =
    let p = half h in let m = half p.1 in also (q refl) (also (x.by_bound false true (maybe_pattern_binds t p.0) m.0) (also (y.by_sound refl a m.1) refl))
row kind.WithStmt s (more _ q _ (more _ _ x (more _ _ y none))) a n h = let p = half h in let m = half p.1 in also (q refl) (also (alone x refl false p.0) (also (y.by_sound refl a m.1) refl))
row kind.LabeledStmt s (more _ q _ (more _ _ x (more _ _ y none))) a n h = let p = half h in let m = half p.1 in also (q refl) (also (x.by_sound refl a p.0) (also (y.by_sound refl a m.1) refl))
row kind.IfStmt s (more _ q _ (more _ _ x (more _ _ y (more _ _ z none)))) a n h =
    let p = half h in let m = half p.1 in let u = half m.0 in also (q refl) (also (alone x refl false p.0) (also (y.by_sound refl a u.1) (also (maybe_branch z refl a m.1) refl)))
row kind.SwitchCase s (more _ q _ (more _ _ x (more _ _ y none))) a n h = let p = half h in let m = half p.1 in also (q refl) (also (alone x refl false p.0) (also (y.by_sound refl a m.1) refl))
row kind.WhileStmt s (more _ q _ (more _ _ x (more _ _ y none))) a n h = let p = half h in let m = half p.1 in also (q refl) (also (alone x refl false p.0) (also (y.by_sound refl a m.1) refl))
row kind.DoWhileStmt s (more _ q _ (more _ _ y (more _ _ x none))) a n h = let p = half h in let m = half p.1 in also (q refl) (also (y.by_sound refl a m.1) (also (alone x refl false p.0) refl))
row kind.ForStmt s (more _ q _ (more _ _ x (more _ _ y (more _ _ z (more _ _ w none))))) a n h =
    let p = half h in let m = half p.1 in let u = three x y z refl refl refl false p.0 in also (q refl) (also u.0 (also u.1 (also u.2 (also (w.by_sound refl a m.1) refl))))
row kind.ForInStmt s (more _ q _ (more _ _ x (more _ _ y (more _ _ z none)))) a n h =
    let p = half h in let m = half p.1 in let u = half m.1 in let v = half u.1 in also (q refl) (also (head_tame x refl a m.0) (also (alone y refl false u.0) (also (z.by_sound refl a v.1) refl)))
row kind.ForOfStmt s (more _ q _ (more _ o _ (more _ _ x (more _ _ y (more _ _ z none))))) a n h =
    let m = half h in let u = half m.1 in let v = half u.1 in also (q refl) (also (o refl) (also (head_tame x refl a m.0) (also (alone y refl false u.0) (also (z.by_sound refl a v.1) refl))))
row kind.ImportNamedSpecifier s (more _ q _ (more _ o _ (more _ u _ none))) a n h = also (q refl) (also (o refl) (also (u refl) refl))
row kind.ImportDefaultSpecifier s (more _ q _ (more _ o _ none)) a n h = also (q refl) (also (o refl) refl)
row kind.ImportStarAsSpecifier s (more _ q _ (more _ o _ none)) a n h = also (q refl) (also (o refl) refl)
row kind.NamedExport s (more _ q _ (more _ o _ (more _ u _ (more _ v _ none)))) a n h = also (q refl) (also (o refl) (also (u refl) (also (v refl) refl)))
row kind.ExportNamedSpecifier s (more _ q _ (more _ o _ (more _ u _ none))) a n h = also (q refl) (also (o refl) (also (u refl) refl))
row kind.ExportNamespaceSpecifier s (more _ q _ (more _ o _ none)) a n h = also (q refl) (also (o refl) refl)
row kind.ExportDecl s (more _ q _ (more _ _ x none)) a n h = let p = half h in also (q refl) (also (x.by_sound refl a p.1) refl)
row kind.Module s (more _ q _ (more _ _ x (more _ o _ none))) a n h = also (q refl) (also (x.by_sound refl false h) (also (o refl) refl))
row kind.Script s (more _ q _ (more {t = t} _ _ x (more _ o _ none))) a n h =
    let p = half h in also (q refl) (also (x.by_sound refl false (ap (λ ts. sound t (code (s || has_use_strict ts) false)) (same_items (out-Node t)) ∙ p.1)) (also (o refl) refl))
row kind.TsInterfaceDecl s d a n h = absurd (true≢false (sym h))
row kind.TsTypeAliasDecl s d a n h = absurd (true≢false (sym h))
row kind.TsEnumDecl s d a n h = absurd (true≢false (sym h))
row kind.TsModuleDecl s d a n h = absurd (true≢false (sym h))
row k s d a n h = all (fields_of k) s d refl h

-- of an `if` also what its first branch holds
branch_row : (k : Kind) {ts : List Node} (s : Bool) → Fields (strict_at k ts s) (fields_of k) ts → (w : Place) → Calm s w (Tree k ts) → (a : Bool) → sound_in (Node-F.Tree k (map of ts)) (code s a) ≡ true → branch_tame (Node-F.Tree k (map told ts)) ≡ true
branch_row kind.IfStmt s (more {t = x} _ _ _ (more {t = y} _ _ _ (more {t = t} f _ _ (more {t = z} _ _ _ none)))) w m a h =
    let p = half h in let q = half p.1 in let u = half q.0 in let ts : List Node = x ∷ y ∷ t ∷ z ∷ [] in
    opened_loose t s a (place_in w (Node-F.Tree kind.IfStmt ts) 2) refl (calm_field kind.IfStmt ts s w (λ h. no h) m 2 t refl) f u.1
branch_row k s d w m a h = refl

-- where names are bound
bound_row : (k : Kind) {ts : List Node} (s : Bool) → Fields (strict_at k ts s) (fields_of k) ts → (a b : Bool) → binds a (Node-F.Tree k ts) ≡ true → sound_in (Node-F.Tree k (map of ts)) (code s a) ≡ true → fields_tame (field_role k) b (map told ts) ≡ true
bound_row kind.VarDeclarator s (more _ q _ (more {t = t} _ _ x (more _ _ y none))) a b g h = let p = half h in let m = half p.1 in also (q refl) (also (x.by_bound false b (pattern_binds t p.0) m.0) (also (alone y refl false m.1) refl))
bound_row kind.Param s (more {t = u} _ q _ (more {t = t} _ _ x none)) a b g h = also (q refl) (also (x.by_bound false true (shaped_binds (out-Node t) g) (first_asked t [] s false (others_asked u (of t ∷ []) s false h))) refl)
bound_row kind.ArrayPat s (more _ q _ (more {t = t} f _ x none)) false b g h = let p = half h in also (q refl) (also (x.by_bound false b (holes_bind s t (content.Node class.Pat) f p.0) p.1) refl)
bound_row kind.ObjectPat s (more _ q _ (more {t = t} f _ x none)) false b g h = let p = half h in also (q refl) (also (x.by_bound false b (list_binds s t (content.Node class.ObjectPatProp) f p.0) p.1) refl)
bound_row kind.RestPat s (more _ q _ (more {t = t} _ _ x none)) false b g h = let p = half h in also (q refl) (also (x.by_bound false b (pattern_binds t p.0) p.1) refl)
bound_row kind.KeyValuePatProp s (more _ _ y (more {t = t} _ _ x none)) false b g h = let p = half h in let m = half p.1 in also (y.by_sound refl false m.0) (also (x.by_bound false b (element_binds t p.0) m.1) refl)
bound_row kind.AssignPat s (more _ q _ (more {t = t} _ _ x (more _ _ y none))) false b g h = let p = half h in let m = half p.1 in also (q refl) (also (x.by_bound false b (pattern_binds t p.0) m.0) (also (alone y refl false m.1) refl))
bound_row kind.AssignPatProp s (more _ q _ (more {t = t} f _ x (more _ _ y none))) false b g h = let p = half h in also (q refl) (also (x.by_bound false b (name_binds t f) p.0) (also (alone y refl false p.1) refl))
bound_row kind.ArrayPat s d true b g h = no g
bound_row kind.ObjectPat s d true b g h = no g
bound_row kind.RestPat s d true b g h = no g
bound_row kind.KeyValuePatProp s d true b g h = no g
bound_row kind.AssignPat s d true b g h = no g
bound_row kind.AssignPatProp s d true b g h = no g
bound_row k s d a b g h = never a g

bound_branch : (k : Kind) (ts : List Node) (a : Bool) → binds a (Node-F.Tree k ts) ≡ true → branch_tame (Node-F.Tree k (map told ts)) ≡ true
bound_branch kind.IfStmt ts a g = never a g
bound_branch k ts a g = refl

head_row : (k : Kind) {ts : List Node} (s : Bool) → Fields (strict_at k ts s) (fields_of k) ts → (a : Bool) → in_head_in (Node-F.Tree k (map of ts)) (code s a) ≡ true → (branch_tame (Node-F.Tree k (map told ts)) && fields_tame (field_role k) false (map told ts)) ≡ true
head_row kind.VarDecl s (more _ q _ (more _ o _ (more {t = t} f _ y none))) a h = let p = half h in also (q refl) (also (o refl) (also (y.by_bound false true (declarators_bind false t f) p.1) refl))
head_row kind.UsingDecl s (more _ q _ (more _ o _ (more {t = t} f _ y none))) a h = let p = half h in let m = half p.1 in also (q refl) (also (o refl) (also (y.by_bound false true (declarators_bind false t f) m.1) refl))
head_row k s d a h = no h

key_row : (k : Kind) (ts : List Node) → FieldsFit (slots_of k) ts → constructor_key_in (Node-F.Tree k ts) ≡ true → is_tame (Tree k ts) false ≡ true
key_row kind.IdentName ts f h = quiet_tree kind.IdentName ts refl refl f
key_row kind.Str ts f h = quiet_tree kind.Str ts refl refl f
key_row k ts f h = no h

-- ---- every node

abbrev Taming : Node → Type 0
Taming t = (s : Slot) → Fits t s → (strict : Bool) (w : Place) → Known strict w s t → Tames strict t s

fields : (strict : ℕ → Bool) (places : ℕ → Place) (fs : List Field) (ts : List Node) → Each Taming ts → FieldsFit (map (λ f. f.1) fs) ts
    → ((i : ℕ) (f : Field) (c : Node) → slice_get fs i ≡ Some f → slice_get ts i ≡ Some c → Known (strict i) (places i) f.1 c) → Fields strict fs ts
fields strict places [] [] l f m = none
fields strict places [] (t ∷ ts) l f m = absurd f
fields strict places (x ∷ fs) [] l f m = absurd f
fields strict places (x ∷ fs) (t ∷ ts) l f m =
    more f.0 (λ q. quiet_tame t x.1 q f.0) (l.0 x.1 f.0 (strict zero) (places zero) (m zero x t refl refl)) (fields (λ i. strict (suc i)) (λ i. places (suc i)) fs ts l.1 f.1 (λ i. m (suc i)))

each_item : (s : Slot) (strict : Bool) (places : ℕ → Place) (ts : List Node) → Each Taming ts → AllFit s ts → ((i : ℕ) (c : Node) → slice_get ts i ≡ Some c → Known strict (places i) s c) → Each (λ t. Tames strict t s) ts
each_item s strict places [] l f m = tt
each_item s strict places (t ∷ ts) l f m = (l.0 s f.0 strict (places zero) (m zero t refl), each_item s strict (λ i. places (suc i)) ts l.1 f.1 (λ i. m (suc i)))

items : (s : Slot) (c : Bool) (ts : List Node) → Each (λ t. Tames c t s) ts → is_free_slot s ≡ true → (a : Bool) → all_sound (map of ts) (code c a) ≡ true → items_tame false (map told ts) ≡ true
items s c [] l q a h = refl
items s c (t ∷ ts) l q a h = let x = l.0 in also (x.by_sound q a (first_asked t (map of ts) c a h)) (items s c ts l.1 q a (others_asked t (map of ts) c a h))

bound_items : (s : Slot) (c : Bool) (ts : List Node) → Each (λ t. Tames c t s) ts → (a b : Bool) → list_all (λ t. part_binds a (out-Node t)) ts ≡ true → all_sound (map of ts) (code c a) ≡ true → items_tame b (map told ts) ≡ true
bound_items s c [] l a b g h = refl
bound_items s c (t ∷ ts) l a b g h =
    let x = l.0 in let p = both (part_binds a (out-Node t)) (list_all (λ t. part_binds a (out-Node t)) ts) g in
    also (x.by_bound a b (part_whole a (out-Node t) p.0) (first_asked t (map of ts) c a h)) (bound_items s c ts l.1 a b p.1 (others_asked t (map of ts) c a h))

list_taming : (ts : List Node) → Each Taming ts → Taming (Many ts)
list_taming ts l s f c w m = (
    let e = each_item (item s) c (place_in w (Node-F.List ts)) ts l (items_fit s ts f) (known_item ts c w s m) in
    record {
      by_sound = λ q a h. tame_list ts false ∙ items (item s) c ts e (free_item s q) a (sym (sound_list ts (code c a)) ∙ h);
      by_bound = λ a b g h. part_of b (Many ts) (ap is_expression_in (outs-List ts)) (tame_list ts b ∙ bound_items (item s) c ts e a b (sym (ap (binds a) (outs-List ts)) ∙ g) (sym (sound_list ts (code c a)) ∙ h));
      by_head = λ a h. no (sym (head_list ts (code c a)) ∙ h);
      by_key = λ h. no (sym (ap constructor_key_in (outs-List ts)) ∙ h);
    })

tree_taming : (k : Kind) (ts : List Node) → Each Taming ts → Taming (Tree k ts)
tree_taming k ts l s f c w m = (
    let v = stands k ts s f in
    let d = fields (strict_at k ts c) (place_in w (Node-F.Tree k ts)) (fields_of k) ts l v.fields (known_field k ts c w (no_constructor k v.in_class c w s (Tree k ts) m v.place v.belonging) m.calm) in
    record {
      by_sound = λ q a h. (
          let e = sym (sound_tree k ts (code c a)) ∙ h in
          tame_tree k ts false ∙ also (branch_row k c d w m.calm a e) (row k c d a (no_parameter k v.in_class (free_single s v.in_class q v.place) v.belonging) e));
      by_bound = λ a b g h. (
          let o = sym (sound_tree k ts (code c a)) ∙ h in let e = sym (ap (binds a) (outs-Tree k ts)) ∙ g in
          part_of b (Tree k ts) (ap is_expression_in (outs-Tree k ts)) (tame_tree k ts b ∙ also (bound_branch k ts a e) (bound_row k c d a b e o)));
      by_head = λ a h. tame_tree k ts false ∙ head_row k c d a (sym (head_tree k ts (code c a)) ∙ h);
      by_key = λ h. key_row k ts v.fields (sym (ap constructor_key_in (outs-Tree k ts)) ∙ h);
    })

leaf_taming : (t : Node) → is_expression_in (out-Node t) ≡ false → ((b : Bool) → is_tame t b ≡ true) → Taming t
leaf_taming t e h s f c w m = record { by_sound = λ q a g. h false; by_bound = λ a b g m. part_of b t e (h b); by_head = λ a g. h false; by_key = λ g. h false }

name_tame : (k : Kind) (i : Ident) (b : Bool) → is_tame (Identifier k i) b ≡ true
name_tame k i b = search (rules, the_lemmas)

name_taming : (k : Kind) (i : Ident) → Taming (Identifier k i)
name_taming k i s f c w m = record {
  by_sound = λ q a g. name_tame k i false;
  by_bound = λ a b g m. part_of b (Identifier k i) (ap is_expression_in (outs-Identifier k i) ∙ name_bound k i a (sym (ap (binds a) (outs-Identifier k i)) ∙ g)) (name_tame k i b);
  by_head = λ a g. name_tame k i false;
  by_key = λ g. name_tame k i false;
}

taming : (t : Node) → Taming t
taming t = by_children Taming (
  leaf_taming Absent (ap is_expression_in outs-Absent) (λ b. search (rules, the_lemmas)),
  λ x. leaf_taming (Flag x) (ap is_expression_in (outs-Flag x)) (λ b. search (rules, the_lemmas)),
  λ w. leaf_taming (Word w) (ap is_expression_in (outs-Word w)) (λ b. search (rules, the_lemmas)),
  λ x. leaf_taming (Text x) (ap is_expression_in (outs-Text x)) (λ b. search (rules, the_lemmas)),
  λ r. leaf_taming (Span r) (ap is_expression_in (outs-Span r)) (λ b. search (rules, the_lemmas)),
  name_taming,
)
    list_taming tree_taming t

-- in strict code, or where no plain function stands in a block of sloppy code
pub sound_tame : (t : Node) (c : Class) (strict a : Bool) (w : Place) → is_parameter_class c ≡ false → is_member (one c) ≡ false → Fits t (one c) → Calm strict w t → sound t (code strict a) ≡ true → is_tame t false ≡ true
sound_tame t c strict a w n o f m h = let x = taming t (one c) f strict w (record { member = λ e. no (sym o ∙ e); calm = m }) in x.by_sound (ap not n) a h
