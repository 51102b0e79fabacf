-- What the rows of the grammar ask of lists stays when names are given anew.
use Rattle.std.proofs.Common.{◌≡◌, ℕ, Bool, true, false, not, ◌&&◌, Option, Some, None, List, [], ◌∷◌, ◌++◌, map, rules, refl, sym, ap, ◌∙◌, subst}
use Rattle.std.specs.Prelude.{if◌then◌else◌, is_some, option_map}
use Rattle.std.specs.List.{list_all, list_any}
use Rattle.swc_tree_node.specs.declared.kind.Kind.TheVariants as kind
use Rattle.swc_tree_node.specs.declared.node.Node.{Node, Absent, Flag, Word, Text, Span, Identifier, Tree, out-Node, the_lemmas}
use Rattle.swc_tree_node.specs.declared.node.Node.TheVariants.{outs-Identifier, outs-Tree, outs-List}
use Rattle.swc_tree_node.specs.declared.node.Node.TheOpen.{Node-F}
use Rattle.swc_tree_scoping.specs.Places.{directive_of, directive_or, has_use_strict, says, statement_in}
use Rattle.swc_tree_scoping.specs.BoundNames.{declared_ids}
use Rattle.swc_tree_grammar.specs.Shapes.{items_in, items_of}
use Rattle.swc_tree_grammar.specs.Forms.{form_in, is_using, is_using_form}
use Rattle.swc_tree_grammar.specs.Kinds.{has_kind_in, is_private_name}
use Rattle.swc_tree_grammar.specs.Writable.{Round, all_sound}
use Rattle.swc_tree_grammar.proofs.Asked.{of, sound, sound_tree}
use Rattle.swc_tree_grammar.proofs.Induction.{Each, by_children}
use Rattle.swc_base_rename_substitution.specs.declared.place.Place.{Place}
use Rattle.swc_base_rename_substitution.specs.declared.place.Place.TheVariants as place
use Rattle.swc_base_rename_substitution.specs.Names.{Id}
use Rattle.swc_base_rename_substitution.specs.Identifiers.{Changes}
use Rattle.swc_base_rename_substitution.specs.Exports.{declaration_in, declaration_of, distinct, export_list, exported_ids, exported_in, items_for, with_exports}
use Rattle.swc_base_rename_substitution.specs.Places.{places}
use Rattle.swc_base_rename_substitution.specs.Substituted.{substituted}
use Rattle.swc_base_rename_substitution.specs.Walk.{each_substituted, is_exported_declaration, items_substituted}
use Rattle.swc_base_rename_substitution.proofs.Equations.{substituted_list}
use Rattle.swc_base_rename_substitution.proofs.Lists.{no_exports}
use Rattle.swc_base_rename_substitution.proofs.Room.{is_short, left, right}
use Rattle.swc_base_rename_laws.specs.Laws.{GivesNames}
use Rattle.swc_base_rename_laws.proofs.WritableStaysShape.{long, plain_tree}
use Rattle.swc_base_rename_laws.proofs.WritableStaysForms.{form_same, is_list_in, list_same, private_same, statement_same}
use Rattle.swc_base_rename_laws.proofs.WritableStaysNames.{all_texts, both_true}
use Rattle.swc_base_rename_laws.proofs.WritableStaysExports.{changes, declared_named, distinct_texts, exported, no_private_declaration, no_statement_declaration, sound_exports}

abbrev pub Le : Bool → Bool → Type 0
Le a b = a ≡ true → b ≡ true

-- the items of a list, none of which is an exported declaration
abbrev pub unexported : Node → Type 0
unexported t = list_any is_exported_declaration (items_of t) ≡ false

module _ (m : Changes) (g : GivesNames m) where
  -- ---- an item, whose names change and which is exported

  -- the declaration in an exported one, and what it becomes
  pub record Split (p : Place) (t : Node) : Type 0 where
    pub start : Node
    pub decl : Node
    pub is : t ≡ Tree kind.ExportDecl (start ∷ decl ∷ [])
    pub at : Place
    pub not_short : is_short at ≡ false
    pub becomes : substituted m false p t ≡ Tree kind.ExportDecl (substituted m false place.Exported start ∷ substituted m false at decl ∷ [])
    pub new : changes m (distinct (declared_ids decl)) ≡ true

  split : (p : Place) (t : Node) → changes m (exported_ids t) ≡ true → Split p t
  split p t h =
      let e = exported m g t h in
      let ts : List Node = e.0 ∷ e.1 ∷ [] in
      record {
        start = e.0;
        decl = e.1;
        is = e.2;
        at = places false p kind.ExportDecl ts 1;
        not_short = long p kind.ExportDecl ts refl 1;
        becomes = ap (substituted m false p) e.2 ∙ plain_tree m p kind.ExportDecl ts refl;
        new = e.3;
      }

  split_declaration : (p : Place) (t : Node) (s : Split p t) → declaration_of (substituted m false p t) ≡ substituted m false s.at s.decl
  split_declaration p t s = ap declaration_of s.becomes ∙ ap (declaration_in _) (outs-Tree kind.ExportDecl _)

  -- what stands for an item is it alone, or a declaration and an export list
  pub items_by : (P : List Node → Type 0) (p : Place) (t : Node) → P (substituted m false p t ∷ [])
      → ((s : Split p t) → P (substituted m false s.at s.decl ∷ export_list m (exported_ids t) ∷ [])) → P (items_for m t (substituted m false p t))
  items_by P p t f h = chosen (changes m (exported_ids t)) refl
    where
      chosen : (b : Bool) → changes m (exported_ids t) ≡ b → P (with_exports (substituted m false p t) (if b then Some (export_list m (exported_ids t)) else None))
      chosen false e = f
      chosen true e = let s = split p t e in subst (λ u. P (u ∷ export_list m (exported_ids t) ∷ [])) (sym (split_declaration p t s)) (h s)

  -- ---- each item can be written down

  abbrev Sounds : Place → Node → Type 0
  Sounds p t = (r : Round) → Le (sound t r) (sound (substituted m false p t) r)

  no_private_same : (p : Place) (t : Node) (r : Round) → Sounds p t → Le (not (has_kind_in is_private_name (out-Node t)) && sound t r)
      (not (has_kind_in is_private_name (out-Node (substituted m false p t))) && sound (substituted m false p t) r)
  no_private_same p t r f h = both_true (ap not (private_same m g p t) ∙ left _ _ h) (f r (right _ _ h))

  append_sound : (ts us : List Node) (r : Round) → all_sound (map of ts) r ≡ true → all_sound (map of us) r ≡ true → all_sound (map of (ts ++ us)) r ≡ true
  append_sound [] us r h k = k
  append_sound (t ∷ ts) us r h k = both_true (left _ _ h) (append_sound ts us r (right _ _ h) k)

  -- a declaration in an exported one
  split_sound : (p : Place) (t : Node) (s : Split p t) (r : Round) → sound t r ≡ true → sound s.decl r ≡ true
  split_sound p t s r h = right _ _ (sym (ap (λ u. sound u r) s.is ∙ sound_tree kind.ExportDecl (s.start ∷ s.decl ∷ []) r) ∙ h)

  split_sound_after : (p : Place) (t : Node) (s : Split p t) (r : Round) → sound (substituted m false p t) r ≡ true → sound (substituted m false s.at s.decl) r ≡ true
  split_sound_after p t s r h = right _ _ (sym (ap (λ u. sound u r) s.becomes ∙ sound_tree kind.ExportDecl _ r) ∙ h)

  exports_not_private : (xs : List Id) → has_kind_in is_private_name (out-Node (export_list m xs)) ≡ false
  exports_not_private xs = ap (has_kind_in is_private_name) (outs-Tree kind.NamedExport _)

  split_ids : (p : Place) (t : Node) (s : Split p t) → exported_ids t ≡ distinct (declared_ids s.decl)
  split_ids p t s = ap exported_ids s.is ∙ ap exported_in (outs-Tree kind.ExportDecl (s.start ∷ s.decl ∷ []))

  item_sound : (p : Place) (t : Node) (r : Round) → Sounds p t → (not (has_kind_in is_private_name (out-Node t)) && sound t r) ≡ true → all_sound (map of (items_for m t (substituted m false p t))) r ≡ true
  item_sound p t r f h = items_by (λ us. all_sound (map of us) r ≡ true) p t (both_true (no_private_same p t r f h) refl)
      (λ s. both_true
      (both_true (ap not (private_same m g s.at s.decl ∙ no_private_declaration m g s.decl s.new)) (split_sound_after p t s r (f r (right _ _ h))))
      (both_true
      (both_true (ap not (exports_not_private (exported_ids t)))
      (sound_exports m g (exported_ids t) r (ap all_texts (split_ids p t s) ∙ distinct_texts (declared_ids s.decl) (declared_named s.decl r (split_sound p t s r (right _ _ h))))))
      refl))

  pub items_sound : (p : Place) (ts : List Node) (r : Round) → Each (Sounds p) ts → all_sound (map of ts) r ≡ true → all_sound (map of (items_substituted m false p ts)) r ≡ true
  items_sound p [] r l h = refl
  items_sound p (t ∷ ts) r l h = append_sound (items_for m t (substituted m false p t)) _ r (item_sound p t r l.0 (left _ _ h)) (items_sound p ts r l.1 (right _ _ h))

  -- ---- directives

  no_directive : (t : Node) → is_some (statement_in (out-Node t)) ≡ false → directive_of t ≡ None
  no_directive t h = none (statement_in (out-Node t)) h
    where
      none : (o : Option (List ℕ)) → is_some o ≡ false → option_map says o ≡ None
      none None h = refl
      none (Some x) h = absurd (cc)

  split_no_directive : (p : Place) (t : Node) → Split p t → directive_of t ≡ None
  split_no_directive p t s = ap directive_of s.is ∙ ap (λ y. option_map says (statement_in y)) (outs-Tree kind.ExportDecl _)

  use_strict_item : (p : Place) (t : Node) (us : List Node) (b : Bool) → has_use_strict us ≡ b → has_use_strict (items_for m t (substituted m false p t) ++ us) ≡ directive_or (directive_of t) b
  use_strict_item p t us b e = items_by (λ ws. has_use_strict (ws ++ us) ≡ directive_or (directive_of t) b) p t
      (rw e (ap (λ x. directive_or (option_map says x) b) (statement_same m g p t)))
      (λ s. ap (λ x. directive_or x (has_use_strict (export_list m (exported_ids t) ∷ us)))
      (no_directive (substituted m false s.at s.decl) (ap is_some (statement_same m g s.at s.decl) ∙ no_statement_declaration m g s.decl s.new))
      ∙ sym (ap (λ x. directive_or x b) (split_no_directive p t s)))

  pub use_strict_items : (p : Place) (ts : List Node) → has_use_strict (items_substituted m false p ts) ≡ has_use_strict ts
  use_strict_items p [] = refl
  use_strict_items p (t ∷ ts) = use_strict_item p t (items_substituted m false p ts) (has_use_strict ts) (use_strict_items p ts)

  -- ---- declarations of `using`

  abbrev none_using : List Node → Bool
  none_using ts = list_all (λ t. not (is_using t)) ts

  exports_not_using : (xs : List Id) → is_using (export_list m xs) ≡ false
  exports_not_using xs = ap (λ y. is_using_form (form_in y)) (outs-Tree kind.NamedExport _)

  append_using : (ts us : List Node) → none_using ts ≡ true → none_using us ≡ true → none_using (ts ++ us) ≡ true
  append_using [] us h k = k
  append_using (t ∷ ts) us h k = both_true (left _ _ h) (append_using ts us (right (not (is_using t)) _ h) k)

  using_same : (p : Place) → is_short p ≡ false → (t : Node) → is_using (substituted m false p t) ≡ is_using t
  using_same p n t = ap is_using_form (form_same m g p n t)

  split_not_using : (p : Place) (t : Node) (s : Split p t) (r : Round) → sound t r ≡ true → not (is_using s.decl) ≡ true
  split_not_using p t s r h = left _ _ (sym (ap (λ u. sound u r) s.is ∙ sound_tree kind.ExportDecl (s.start ∷ s.decl ∷ []) r) ∙ h)

  pub no_using_items : (p : Place) → is_short p ≡ false → (ts : List Node) (r : Round) → all_sound (map of ts) r ≡ true → Le (none_using ts) (none_using (items_substituted m false p ts))
  no_using_items p n [] r s h = refl
  no_using_items p n (t ∷ ts) r s h = append_using (items_for m t (substituted m false p t)) _
      (items_by (λ us. none_using us ≡ true) p t (both_true (ap not (using_same p n t) ∙ left _ _ h) refl)
      (λ e. both_true (ap not (using_same e.at e.not_short e.decl) ∙ split_not_using p t e r (right _ _ (left _ _ s))) (both_true (ap not (exports_not_using (exported_ids t))) refl)))
      (no_using_items p n ts r (right _ _ s) (right (not (is_using t)) _ h))

  -- ---- lists without exported declarations

  no_items : (y : Node-F Node) → is_list_in y ≡ false → items_in y ≡ []
  no_items (Node-F.List ts) h = absurd (cc)
  no_items y h = refl

  no_list : (q : Place) (t : Node) → is_list_in (out-Node t) ≡ false → items_of (substituted m false q t) ≡ each_substituted m false (λ i. q) (items_of t)
  no_list q t h = no_items (out-Node (substituted m false q t)) (list_same m g q t ∙ h) ∙ sym (ap (λ l. each_substituted m false (λ i. q) l) (no_items (out-Node t) h))

  pub items_each : (q : Place) (t : Node) → unexported t → items_of (substituted m false q t) ≡ each_substituted m false (λ i. q) (items_of t)
  items_each q t = by_children (λ t. unexported t → items_of (substituted m false q t) ≡ each_substituted m false (λ i. q) (items_of t)) (
    λ h. no_list q Absent (search (rules, the_lemmas)),
    λ x h. no_list q (Flag x) (search (rules, the_lemmas)),
    λ w h. no_list q (Word w) (search (rules, the_lemmas)),
    λ x h. no_list q (Text x) (search (rules, the_lemmas)),
    λ s h. no_list q (Span s) (search (rules, the_lemmas)),
    λ k i h. no_list q (Identifier k i) (ap is_list_in (outs-Identifier k i)),
  )
      (λ ts l h. ap items_of (substituted_list m false q ts) ∙ ap items_in (outs-List (items_substituted m false q ts))
      ∙ no_exports m false q ts (sym (ap (λ y. list_any is_exported_declaration (items_in y)) (outs-List ts)) ∙ h)
      ∙ sym (ap (λ y. each_substituted m false (λ i. q) (items_in y)) (outs-List ts)))
      (λ k ts l h. no_list q (Tree k ts) (ap is_list_in (outs-Tree k ts))) t

  pub all_each : (F : Node-F Node → Bool) (q : Place) → ((t : Node) → F (out-Node (substituted m false q t)) ≡ F (out-Node t)) → (ts : List Node)
      → list_all (λ t. F (out-Node t)) (each_substituted m false (λ i. q) ts) ≡ list_all (λ t. F (out-Node t)) ts
  all_each F q e [] = refl
  all_each F q e (t ∷ ts) = rw (e t, all_each F q e ts) refl
