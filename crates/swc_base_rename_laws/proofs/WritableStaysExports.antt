-- An exported declaration, one of whose names changes, becomes the declaration and an export list that can be
-- written down.
use Rattle.std.proofs.Common.{◌≡◌, Bool, true, false, not, ◌&&◌, ◌||◌, Option, Some, None, List, [], ◌∷◌, map, rules, refl, sym, ap, ◌∙◌}
use Rattle.std.specs.Prelude.{if◌then◌else◌, is_some}
use Rattle.std.specs.List.{list_all, list_any}
use Rattle.swc_tree_marks.specs.declared.ident.Ident.{Ident}
use Rattle.swc_tree_node.specs.declared.kind.Kind.{Kind}
use Rattle.swc_tree_node.specs.declared.kind.Kind.TheVariants as kind
use Rattle.swc_tree_node.specs.declared.node.Node.{Node, Absent, Flag, Word, Text, Span, List as Many, Identifier, Tree, out-Node, roll-Node, roll-out-Node, the_lemmas}
use Rattle.swc_tree_node.specs.declared.node.Node.TheVariants.{outs-Identifier, outs-Tree, outs-List, rolls-Tree}
use Rattle.swc_tree_node.specs.declared.node.Node.TheOpen.{Node-F}
use Rattle.swc_tree_scoping.specs.Places.{statement_in}
use Rattle.swc_tree_scoping.specs.BoundNames.{Id, bound_ids, declared_in, declared_ids, name_in, name_of}
use Rattle.swc_tree_scoping.specs.BoundNames.{id_of as ids_of}
use Rattle.swc_tree_grammar.specs.Shapes.{items_in}
use Rattle.swc_tree_grammar.specs.Kinds.{has_kind, has_kind_in, is_private_name}
use Rattle.swc_tree_grammar.specs.Writable.{Round, all_sound, is_identifier_text, local_specifier_in, is_name_kind_in, name_is, sound_in}
use Rattle.swc_tree_grammar.proofs.Asked.{of, sound, sound_list, sound_name, sound_tree}
use Rattle.swc_tree_grammar.proofs.Induction.{by_children}
use Rattle.swc_base_rename_substitution.specs.Names.{same_id}
use Rattle.swc_base_rename_substitution.specs.Identifiers.{Changes}
use Rattle.swc_base_rename_substitution.specs.Exports.{distinct, export_list, exported_ids, exported_in, made, nowhere, specifier, specifier_to, without}
use Rattle.swc_base_rename_substitution.proofs.Room.{left, right}
use Rattle.swc_base_rename_laws.specs.Laws.{GivesNames}
use Rattle.swc_base_rename_laws.proofs.WritableStaysNames.{all_texts, bindable_text, both_true, bound_named, by_round, unbound}
use Rattle.swc_base_rename_laws.proofs.Impossible.{impossible}

-- ---- the names of a declaration

bound_text : (b : Bool) (y : Node-F Node) → name_is b y ≡ true → all_texts (ids_of (name_in y)) ≡ true
bound_text b (Node-F.Identifier k i) h = both_true (bindable_text b i.sym h) refl
bound_text b y h = refl

name_text : (k : Kind) (i : Ident) (r : Round) → sound_in (Node-F.Identifier k i) r ≡ true → is_identifier_text i.sym ≡ true
name_text kind.BindingIdent i r h = by_round r.assigned r.strict i.sym h
name_text k i r h = h

ids_at : (y : Node-F Node) (t : Node) → out-Node t ≡ y → ids_of (name_in y) ≡ ids_of (name_of (Some t))
ids_at y t e = sym (ap (λ z. ids_of (name_in z)) e)

sound_text : (t : Node) (r : Round) → sound t r ≡ true → all_texts (ids_of (name_in (out-Node t))) ≡ true
sound_text t = by_children (λ t. (r : Round) → sound t r ≡ true → all_texts (ids_of (name_in (out-Node t))) ≡ true) (
  λ r h. search (rules, the_lemmas),
  λ x r h. search (rules, the_lemmas),
  λ w r h. search (rules, the_lemmas),
  λ x r h. search (rules, the_lemmas),
  λ s r h. search (rules, the_lemmas),
  λ k i r h. ap (λ y. all_texts (ids_of (name_in y))) (outs-Identifier k i) ∙ both_true (name_text k i r (sym (sound_name k i r) ∙ h)) refl,
)
    (λ ts l r h. ap (λ y. all_texts (ids_of (name_in y))) (outs-List ts))
    (λ k ts l r h. ap (λ y. all_texts (ids_of (name_in y))) (outs-Tree k ts)) t

declared_row : (k : Kind) (ts : List Node) (r : Round) → sound_in (Node-F.Tree k (map of ts)) r ≡ true → all_texts (bound_ids (Tree k ts)) ≡ true → all_texts (declared_in (Tree k ts) (Node-F.Tree k ts)) ≡ true
declared_row kind.FnDecl [] r h g = refl
declared_row kind.FnDecl (a ∷ []) r h g = sound_text a _ (right _ _ (left _ _ h))
declared_row kind.FnDecl (a ∷ b ∷ []) r h g = bound_text r.strict (out-Node a) (left _ _ h)
declared_row kind.FnDecl (a ∷ b ∷ c ∷ ts) r h g = sound_text a _ (right _ _ (left _ _ h))
declared_row kind.ClassDecl [] r h g = refl
declared_row kind.ClassDecl (a ∷ []) r h g = sound_text a _ (right _ _ (left _ _ h))
declared_row kind.ClassDecl (a ∷ b ∷ []) r h g = bound_text _ (out-Node a) (left _ _ h)
declared_row kind.ClassDecl (a ∷ b ∷ c ∷ ts) r h g = sound_text a _ (right _ _ (left _ _ h))
declared_row k ts r h g = g

pub declared_named : (t : Node) (r : Round) → sound t r ≡ true → all_texts (declared_ids t) ≡ true
declared_named t = by_children (λ t. (r : Round) → sound t r ≡ true → all_texts (declared_ids t) ≡ true) (
  λ r h. (let e : declared_ids Absent ≡ bound_ids Absent = search (rules, the_lemmas) in rw e (bound_named Absent r h)),
  λ x r h. (let e : declared_ids (Flag x) ≡ bound_ids (Flag x) = search (rules, the_lemmas) in rw e (bound_named (Flag x) r h)),
  λ w r h. (let e : declared_ids (Word w) ≡ bound_ids (Word w) = search (rules, the_lemmas) in rw e (bound_named (Word w) r h)),
  λ x r h. (let e : declared_ids (Text x) ≡ bound_ids (Text x) = search (rules, the_lemmas) in rw e (bound_named (Text x) r h)),
  λ s r h. (let e : declared_ids (Span s) ≡ bound_ids (Span s) = search (rules, the_lemmas) in rw e (bound_named (Span s) r h)),
  λ k i r h. ap (λ y. all_texts (declared_in (Identifier k i) y)) (outs-Identifier k i) ∙ bound_named (Identifier k i) r h,
)
    (λ ts l r h. ap (λ y. all_texts (declared_in (Many ts) y)) (outs-List ts) ∙ bound_named (Many ts) r h)
    (λ k ts l r h. ap (λ y. all_texts (declared_in (Tree k ts) y)) (outs-Tree k ts) ∙ declared_row k ts r (sym (sound_tree k ts r) ∙ h) (bound_named (Tree k ts) r h)) t

without_if : (b : Bool) (y : Id) (ys : List Id) → all_texts (y ∷ []) ≡ true → all_texts ys ≡ true → all_texts (if b then ys else y ∷ ys) ≡ true
without_if true y ys h g = g
without_if false y ys h g = both_true (left _ _ h) g

without_texts : (x : Id) (ys : List Id) → all_texts ys ≡ true → all_texts (without x ys) ≡ true
without_texts x [] h = refl
without_texts x (y ∷ ys) h = without_if (same_id y x) y (without x ys) (both_true (left (is_identifier_text y.0) _ h) refl) (without_texts x ys (right (is_identifier_text y.0) _ h))

pub distinct_texts : (xs : List Id) → all_texts xs ≡ true → all_texts (distinct xs) ≡ true
distinct_texts [] h = refl
distinct_texts (x ∷ xs) h = both_true (left (is_identifier_text x.0) _ h) (without_texts x (distinct xs) (distinct_texts xs (right (is_identifier_text x.0) _ h)))

-- one of the names changes
abbrev pub changes : Changes → List Id → Bool
changes m xs = list_any (λ x. is_some (m x)) xs

-- ---- the export list

module _ (m : Changes) (g : GivesNames m) where
  abbrev Good : Node → Type 0
  Good t = (local_specifier_in (out-Node t) ≡ true) × ((r : Round) → (not (has_kind is_private_name t) && sound t r) ≡ true)

  good : (i : Ident) (other : Node) → is_identifier_text i.sym ≡ true → Good (Tree kind.ExportNamedSpecifier (nowhere ∷ Identifier kind.Ident i ∷ other ∷ []))
  good i other h =
      let ts : List Node = nowhere ∷ Identifier kind.Ident i ∷ other ∷ [] in (
        ap local_specifier_in (outs-Tree kind.ExportNamedSpecifier ts) ∙ ap is_name_kind_in (outs-Identifier kind.Ident i),
        λ r. both_true (ap (λ y. not (has_kind_in is_private_name y)) (outs-Tree kind.ExportNamedSpecifier ts)) (sound_tree kind.ExportNamedSpecifier ts r ∙ sound_name kind.Ident i r ∙ h),
      )

  good_specifier : (x : Id) (y : Option Id) → m x ≡ y → is_identifier_text x.0 ≡ true → Good (specifier_to x y)
  good_specifier x None e h = good (made x) Absent h
  good_specifier x (Some y) e h = good (made y) (Identifier kind.Ident (made (x.0, []))) (bindable_text true y.0 (g (made x) y.0 y.1 e h))

  local_specifiers : (xs : List Id) → all_texts xs ≡ true → list_all (λ t. local_specifier_in (out-Node t)) (map (specifier m) xs) ≡ true
  local_specifiers [] h = refl
  local_specifiers (x ∷ xs) h = both_true ((good_specifier x (m x) refl (left (is_identifier_text x.0) _ h)).0) (local_specifiers xs (right (is_identifier_text x.0) _ h))

  sound_specifiers : (xs : List Id) (r : Round) → all_texts xs ≡ true → all_sound (map of (map (specifier m) xs)) r ≡ true
  sound_specifiers [] r h = refl
  sound_specifiers (x ∷ xs) r h = both_true ((good_specifier x (m x) refl (left (is_identifier_text x.0) _ h)).1 r) (sound_specifiers xs r (right (is_identifier_text x.0) _ h))

  or_right : (a : Bool) {b : Bool} → b ≡ true → (a || b) ≡ true
  or_right true h = refl
  or_right false h = h

  pub sound_exports : (xs : List Id) (r : Round) → all_texts xs ≡ true → sound (export_list m xs) r ≡ true
  sound_exports xs r h =
      let specifiers : List Node = map (specifier m) xs in
      let local : list_all (λ t. local_specifier_in (out-Node t)) specifiers ≡ true = local_specifiers xs h in
      sound_tree kind.NamedExport (nowhere ∷ Many specifiers ∷ Absent ∷ Absent ∷ []) r
      ∙ or_right _ (both_true (ap (λ y. list_all (λ t. local_specifier_in (out-Node t)) (items_in y)) (outs-List specifiers) ∙ local) (sound_list specifiers r ∙ sound_specifiers xs r h))

  -- ---- what changes of an exported declaration

  abbrev pub Exported : Node → Type 0
  Exported t = (a : Node) × (d : Node) × (t ≡ Tree kind.ExportDecl (a ∷ d ∷ [])) × (changes m (distinct (declared_ids d)) ≡ true)

  exported_at : (t : Node) (y : Node-F Node) → out-Node t ≡ y → changes m (exported_in y) ≡ true → Exported t
  exported_at t (Node-F.Tree kind.ExportDecl (a ∷ d ∷ [])) e h = (a, d, sym (roll-out-Node t) ∙ ap roll-Node e ∙ rolls-Tree kind.ExportDecl (a ∷ d ∷ []), h)
  exported_at t y e h = impossible h

  pub exported : (t : Node) → changes m (exported_ids t) ≡ true → Exported t
  exported t h = exported_at t (out-Node t) refl h

  private_row : (k : Kind) (ts : List Node) → is_private_name k ≡ true → declared_in (Tree k ts) (Node-F.Tree k ts) ≡ []
  private_row kind.PrivateName ts h = unbound kind.PrivateName ts refl
  private_row k ts h = impossible h

  statement_row : (k : Kind) (ts : List Node) → is_some (statement_in (Node-F.Tree k ts)) ≡ true → declared_in (Tree k ts) (Node-F.Tree k ts) ≡ []
  statement_row kind.ExprStmt ts h = unbound kind.ExprStmt ts refl
  statement_row k ts h = impossible h

  by_form : (F : Node-F Node → Bool) → ((k : Kind) (ts : List Node) → F (Node-F.Tree k ts) ≡ true → declared_in (Tree k ts) (Node-F.Tree k ts) ≡ [])
      → ((y : Node-F Node) (t : Node) → t ≡ roll-Node y → F y ≡ true → (k : Kind) × (ts : List Node) × (y ≡ Node-F.Tree k ts)) → (t : Node) → F (out-Node t) ≡ true → declared_ids t ≡ []
  by_form F rows trees t h =
      let w = trees (out-Node t) t (sym (roll-out-Node t)) h in
      let is : t ≡ Tree w.0 w.1 = sym (roll-out-Node t) ∙ ap roll-Node w.2 ∙ rolls-Tree w.0 w.1 in
      ap declared_ids is ∙ ap (declared_in (Tree w.0 w.1)) (outs-Tree w.0 w.1) ∙ rows w.0 w.1 (ap F (sym w.2) ∙ h)

  private_trees : (y : Node-F Node) (t : Node) → t ≡ roll-Node y → has_kind_in is_private_name y ≡ true → (k : Kind) × (ts : List Node) × (y ≡ Node-F.Tree k ts)
  private_trees (Node-F.Tree k ts) t e h = (k, ts, refl)
  private_trees y t e h = absurd (cc)

  statement_trees : (y : Node-F Node) (t : Node) → t ≡ roll-Node y → is_some (statement_in y) ≡ true → (k : Kind) × (ts : List Node) × (y ≡ Node-F.Tree k ts)
  statement_trees (Node-F.Tree k ts) t e h = (k, ts, refl)
  statement_trees y t e h = absurd (cc)

  unless : (b : Bool) (F : Node-F Node → Bool) (d : Node) → F (out-Node d) ≡ b → (F (out-Node d) ≡ true → declared_ids d ≡ []) → changes m (distinct (declared_ids d)) ≡ true → F (out-Node d) ≡ false
  unless false F d e n h = e
  unless true F d e n h = let none : changes m (distinct (declared_ids d)) ≡ false = ap (λ xs. changes m (distinct xs)) (n e) in absurd (cc)

  pub no_private_declaration : (d : Node) → changes m (distinct (declared_ids d)) ≡ true → has_kind_in is_private_name (out-Node d) ≡ false
  no_private_declaration d h = unless (has_kind is_private_name d) (has_kind_in is_private_name) d refl (by_form (has_kind_in is_private_name) private_row private_trees d) h

  pub no_statement_declaration : (d : Node) → changes m (distinct (declared_ids d)) ≡ true → is_some (statement_in (out-Node d)) ≡ false
  no_statement_declaration d h =
      unless (is_some (statement_in (out-Node d))) (λ y. is_some (statement_in y)) d refl (by_form (λ y. is_some (statement_in y)) statement_row statement_trees d) h
