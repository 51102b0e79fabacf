-- Where no text changes the tree stays as it is.
use Rattle.std.specs.Prelude.{if◌then◌else◌, is_some}
use Rattle.std.specs.HashMap.{get}
use Rattle.std.specs.List.{list_any, slice_get}
use Rattle.std.proofs.lemmas.Cmp.{nat_list_eq_equiv}
use Rattle.std.proofs.Common.{◌≡◌, ℕ, zero, suc, Bool, true, false, Option, Some, None, List, [], ◌∷◌, ◌++◌, map, refl, sym, ap, ◌∙◌}
use Rattle.swc_tree_marks.specs.declared.ident.Ident.{Ident}
use Rattle.swc_tree_node.specs.declared.kind.Kind.{Kind}
use Rattle.swc_tree_node.specs.declared.kind.Kind.TheVariants as kind
use Rattle.swc_tree_node.specs.declared.slot.Role.{Role}
use Rattle.swc_tree_node.specs.declared.slot.Role.TheVariants as role
use Rattle.swc_tree_node.specs.declared.node.Node.{Node, Absent, Flag, Word, Text, Span, List as Many, Identifier, Tree, out-Node, roll-Node, roll-out-Node}
use Rattle.swc_tree_node.specs.declared.node.Node.TheOpen.{Node-F}
use Rattle.swc_tree_node.specs.declared.node.Node.TheVariants.{rolls-Absent, rolls-Flag, rolls-Word, rolls-Text, rolls-Span, rolls-List, rolls-Identifier, rolls-Tree}
use Rattle.swc_tree_scoping.specs.Places.{child, children_in}
use Rattle.swc_tree_scoping.proofs.Under.{by_children}
use Rattle.swc_base_rename_substitution.specs.declared.place.Place.{Place}
use Rattle.swc_base_rename_substitution.specs.declared.place.Place.TheVariants as place
use Rattle.swc_base_rename_substitution.specs.declared.names.Names.{Names}
use Rattle.swc_base_rename_substitution.specs.declared.names.Names.TheVariants.{Texts, Ordered, Ids}
use Rattle.swc_base_rename_substitution.specs.Names.{Id, by_id, by_order, by_text, found_in, if_other_text, new_id, same_id, same_text}
use Rattle.swc_base_rename_substitution.specs.Identifiers.{Changes, changed, identifier_at, identifier_to, written_out_if}
use Rattle.swc_base_rename_substitution.specs.Classes.{kept_class}
use Rattle.swc_base_rename_substitution.specs.Exports.{export_list, exported_ids, items_for, with_exports}
use Rattle.swc_base_rename_substitution.specs.Places.{by_role, in_kind, places, within}
use Rattle.swc_base_rename_substitution.specs.Substituted.{each_at, if_changed, keeps_name, renewed, substituted, tree_for}
use Rattle.swc_base_rename_substitution.specs.Walk.{items_substituted}
use Rattle.swc_base_rename_substitution.proofs.Equations.{substituted-Absent, substituted-Flag, substituted-Word, substituted-Text, substituted-Span, substituted_identifier, substituted_list, substituted_tree}
use Rattle.swc_base_rename_laws.specs.Laws.{EmptyMapChangesNothing, IsEmpty, KeepsTexts, KeptTextsChangeNothing}

-- no place is that of a kept class name
abbrev pub is_class_name : Place → Bool
is_class_name place.ClassName = true
is_class_name _ = false

not_within : (p : Place) → is_class_name (within p) ≡ false
not_within place.Name = refl
not_within place.Shorthand = refl
not_within place.Exported = refl
not_within place.ClassName = refl
not_within place.Other = refl

not_sourced : (b : Bool) → is_class_name (by_role place.Other b role.ExportLocal) ≡ false
not_sourced true = refl
not_sourced false = refl

not_by_role : (p : Place) (b : Bool) (r : Role) → is_class_name (by_role p b r) ≡ false
not_by_role p b role.Inherited = not_within p
not_by_role p b role.ExportLocal = not_sourced b
not_by_role p b _ = refl

not_in_kind : (k : Kind) (p : Place) → is_class_name p ≡ false → is_class_name (in_kind false k p) ≡ false
not_in_kind kind.ObjectLit place.Name h = refl
not_in_kind kind.ObjectLit place.Shorthand h = refl
not_in_kind kind.ObjectLit place.Exported h = refl
not_in_kind kind.ObjectLit place.Other h = refl
not_in_kind kind.ObjectLit place.ClassName h = absurd (cc)
not_in_kind kind.ExportDecl place.Name h = refl
not_in_kind kind.ExportDecl place.Shorthand h = refl
not_in_kind kind.ExportDecl place.Exported h = refl
not_in_kind kind.ExportDecl place.Other h = refl
not_in_kind kind.ExportDecl place.ClassName h = absurd (cc)
not_in_kind kind.ClassExpr place.Name h = refl
not_in_kind kind.ClassExpr place.Shorthand h = refl
not_in_kind kind.ClassExpr place.Exported h = refl
not_in_kind kind.ClassExpr place.Other h = refl
not_in_kind kind.ClassExpr place.ClassName h = absurd (cc)
not_in_kind _ p h = h

not_there : (p : Place) (k : Kind) (ts : List Node) (i : ℕ) → is_class_name (places false p k ts i) ≡ false
not_there p k ts i = not_in_kind k _ (not_by_role p _ _)

keeps_none : (p : Place) (k : Kind) → keeps_name false p k ≡ false
keeps_none p kind.ClassDecl = refl
keeps_none p _ = refl

module _ (m : Changes) (none : (x : Id) → m x ≡ None) where
  unchanged_there : (p : Place) (i : Ident) → changed m p i ≡ None
  unchanged_there place.Name i = rw (none (i.sym, i.ctxt)) refl
  unchanged_there place.Shorthand i = rw (none (i.sym, i.ctxt)) refl
  unchanged_there place.Exported i = refl
  unchanged_there place.ClassName i = refl
  unchanged_there place.Other i = refl

  abbrev pub Stays : Node → Type 0
  Stays t = (p : Place) → is_class_name p ≡ false → substituted m false p t ≡ t

  identifier_stays : (p : Place) (k : Kind) (i : Ident) → is_class_name p ≡ false → identifier_to p k i None ≡ Identifier k i
  identifier_stays place.Name k i h = refl
  identifier_stays place.Shorthand k i h = refl
  identifier_stays place.Exported k i h = refl
  identifier_stays place.Other k i h = refl
  identifier_stays place.ClassName k i h = absurd (cc)

  none_changes : (xs : List Id) → list_any (λ x. is_some (m x)) xs ≡ false
  none_changes [] = refl
  none_changes (x ∷ xs) = rw (none x, none_changes xs) refl

  item_stays : (t : Node) → items_for m t t ≡ t ∷ []
  item_stays t = ap (λ b. with_exports t (if b then Some (export_list m (exported_ids t)) else None)) (none_changes (exported_ids t))

  items_stay : (p : Place) (ts : List Node) → is_class_name p ≡ false → ((i : ℕ) (c : Node) → slice_get ts i ≡ Some c → Stays c) → items_substituted m false p ts ≡ ts
  items_stay p [] h below = refl
  items_stay p (t ∷ ts) h below =
      ap (λ u. items_for m t u ++ items_substituted m false p ts) (below zero t refl p h)
      ∙ ap (λ l. l ++ items_substituted m false p ts) (item_stays t)
      ∙ ap (λ l. t ∷ l) (items_stay p ts h (λ i. below (suc i)))

  fields_stay : (ps : ℕ → Place) (ts : List Node) → ((i : ℕ) → is_class_name (ps i) ≡ false) → ((i : ℕ) (c : Node) → slice_get ts i ≡ Some c → Stays c) → each_at ps (map (renewed m false) ts) ≡ ts
  fields_stay ps [] h below = refl
  fields_stay ps (t ∷ ts) h below =
      ap (λ u. u ∷ each_at (λ i. ps (suc i)) (map (renewed m false) ts)) (below zero t refl (ps zero) (h zero))
      ∙ ap (λ l. t ∷ l) (fields_stay (λ i. ps (suc i)) ts (λ i. h (suc i)) (λ i. below (suc i)))

  no_name : (p : Place) (i : Option Ident) → if_changed m p i ≡ None
  no_name p None = refl
  no_name p (Some i) = ap (λ (j : Option Ident). if is_some j then Some i else None) (unchanged_there p i)

  pub stays : (t : Node) → Stays t
  stays = by_children Stays (λ t below p h. at t below (out-Node t) refl p h)
    where
      is : (t : Node) (y : Node-F Node) → out-Node t ≡ y → t ≡ roll-Node y
      is t y o = sym (roll-out-Node t) ∙ ap roll-Node o

      by : (t u : Node) (p : Place) → t ≡ u → substituted m false p u ≡ u → substituted m false p t ≡ t
      by t u p e h = ap (substituted m false p) e ∙ h ∙ sym e

      at : (t : Node) → ((i : ℕ) (c : Node) → child t i ≡ Some c → Stays c) → (y : Node-F Node) → out-Node t ≡ y → Stays t
      at t below Node-F.Absent o p h = by t Absent p (is t _ o ∙ rolls-Absent) (substituted-Absent m false p)
      at t below (Node-F.Flag x) o p h = by t (Flag x) p (is t _ o ∙ rolls-Flag x) (substituted-Flag m false p x)
      at t below (Node-F.Word x) o p h = by t (Word x) p (is t _ o ∙ rolls-Word x) (substituted-Word m false p x)
      at t below (Node-F.Text x) o p h = by t (Text x) p (is t _ o ∙ rolls-Text x) (substituted-Text m false p x)
      at t below (Node-F.Span x) o p h = by t (Span x) p (is t _ o ∙ rolls-Span x) (substituted-Span m false p x)
      at t below (Node-F.Identifier k i) o p h = by t (Identifier k i) p (is t _ o ∙ rolls-Identifier k i)
          (substituted_identifier m false p k i ∙ ap (identifier_to p k i) (unchanged_there p i) ∙ identifier_stays p k i h)
      at t below (Node-F.List ts) o p h = by t (Many ts) p (is t _ o ∙ rolls-List ts)
          (substituted_list m false p ts ∙ ap Many (items_stay p ts h (λ i c g. below i c (ap (λ y. slice_get (children_in y) i) o ∙ g))))
      at t below (Node-F.Tree k ts) o p h = by t (Tree k ts) p (is t _ o ∙ rolls-Tree k ts)
          (substituted_tree m false p k ts
          ∙ ap (λ us. tree_for m false p k ts us) (fields_stay (places false p k ts) ts (not_there p k ts) (λ i c g. below i c (ap (λ y. slice_get (children_in y) i) o ∙ g)))
          ∙ ap (λ b. if b then kept_class (identifier_at ts 0) ts else written_out_if k (if_changed m (places false p k ts 1) (identifier_at ts 1)) ts) (keeps_none p k)
          ∙ ap (λ i. written_out_if k i ts) (no_name (places false p k ts 1) (identifier_at ts 1)))

-- maps that change no text
same_text_none : (x y : Id) → y.0 ≡ x.0 → if_other_text x (Some y) ≡ None
same_text_none x y e = ap (λ b. if b then None else Some y) (ap (λ z. same_text (z, y.1) x) e ∙ nat_list_eq_equiv.refl x.0)

keeping : (names : Names) → KeepsTexts names → (x : Id) → new_id names x ≡ None
keeping (Texts m) h x = at (get same_id m.now x) refl
  where
    at : (o : Option (List ℕ)) → get same_id m.now x ≡ o → by_text m.now x ≡ None
    at None e = rw e refl
    at (Some text) e = rw e (same_text_none x (text, []) (h x text e))
keeping (Ordered m) h x = at (found_in m.now x) refl
  where
    at : (o : Option (List ℕ)) → found_in m.now x ≡ o → by_order m.now x ≡ None
    at None e = rw e refl
    at (Some text) e = rw e (same_text_none x (text, []) (h x text e))
keeping (Ids m) h x = at (get same_id m.now x) refl
  where
    at : (o : Option Id) → get same_id m.now x ≡ o → by_id m.now x ≡ None
    at None e = rw e refl
    at (Some y) e = rw e (same_text_none x y (h x y e))

keeps : (names : Names) → IsEmpty names → KeepsTexts names
keeps (Texts m) h = λ x text e. let z : None ≡ Some text = sym (h x) ∙ e in absurd (cc)
keeps (Ordered m) h = λ x text e. let z : None ≡ Some text = sym (h x) ∙ e in absurd (cc)
keeps (Ids m) h = λ x y e. let z : None ≡ Some y = sym (h x) ∙ e in absurd (cc)

pub kept_texts_change_nothing : KeptTextsChangeNothing
kept_texts_change_nothing names t answer h s = s ∙ stays (new_id names) (keeping names h) t place.Other refl

pub empty_map_changes_nothing : EmptyMapChangesNothing
empty_map_changes_nothing names t answer h s = kept_texts_change_nothing names t answer (keeps names h) s
