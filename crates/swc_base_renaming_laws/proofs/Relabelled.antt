-- A tree with labels for its contexts: its forms, and the ids that its declarations bind.
use Rattle.std.proofs.Common.{◌≡◌, ℕ, zero, suc, Bool, true, false, not, Option, Some, None, List, [], ◌∷◌, ◌++◌, map, refl, sym, ap, ◌∙◌, rules}
use Rattle.std.specs.Prelude.{slice_get, nat_eq, option_map, if◌then◌else◌}
use Rattle.std.specs.List.{flat_map}
use Rattle.std.specs.Cmp.Lexicographic.{pointwise}
use Rattle.std.proofs.lemmas.Slice.Eq.{bytes_eq-Decides}
use Rattle.swc_tree_marks.specs.declared.ident.Ident.{Ident}
use Rattle.swc_tree_marks.specs.declared.span.Span.{Span as Range}
use Rattle.swc_tree_node.specs.declared.kind.Kind.{Kind}
use Rattle.swc_tree_node.specs.declared.kind.Kind.TheVariants as kind
use Rattle.swc_tree_node.specs.declared.kind.Word.{Word as Word'}
use Rattle.swc_tree_node.specs.declared.slot.Role.{Role}
use Rattle.swc_tree_node.specs.declared.slot.Role.TheVariants as role
use Rattle.swc_tree_node.specs.declared.node.Node.{Node, Absent, Flag, Word, Text, Span, List as Many, Identifier, Tree, out-Node, the_lemmas}
use Rattle.swc_tree_node.specs.declared.node.Node.TheOpen.{Node-F}
use Rattle.swc_tree_node.specs.declared.node.Node.TheVariants.{outs-List, outs-Tree}
use Rattle.swc_tree_node.specs.declared.fields.modules.named_export.TheConstants as named_export
use Rattle.swc_tree_node.specs.declared.fields.statements.class_decl.TheConstants as class_decl
use Rattle.swc_tree_node.specs.declared.fields.statements.fn_decl.TheConstants as fn_decl
use Rattle.swc_tree_node.proofs.Fit.{and_both, both}
use Rattle.swc_tree_scoping.specs.BoundNames.{bound_ids, own_id, in_part, in_parts, declared_ids, declared_in, name_in, name_of, id_of as ids_of}
use Rattle.swc_tree_scoping.specs.Places.{absent_in, field_role, is_there}
use Rattle.swc_tree_scoping.specs.Readings.{with_identifiers}
use Rattle.swc_tree_scoping.proofs.Remarked.{list_is, tree_is}
use Rattle.swc_tree_renaming.proofs.Blank.{layer, out_is}
use Rattle.swc_tree_renaming.proofs.Whole.{with_identifier}
use Rattle.swc_tree_grammar.proofs.Induction.{Each, by_children}
use Rattle.swc_base_rename_substitution.specs.Names.{Id, same_id}
use Rattle.swc_base_rename_substitution.specs.Identifiers.{id_of, identifier_at, identifier_in}
use Rattle.swc_base_rename_substitution.specs.Exports.{distinct, exported_ids, exported_in, without}
use Rattle.swc_base_rename_substitution.specs.Places.{has_source}
use Rattle.swc_base_renaming_laws.specs.Contexts.{relabelled, with_label}

-- ids are one where both their parts are
same_is : (x y : Id) → same_id x y ≡ true → x ≡ y
same_is x y h =
    let p = both (pointwise nat_eq x.0 y.0) (pointwise nat_eq x.1 y.1) h in
    let first = (bytes_eq-Decides x.0 y.0).0 p.0 in let second = (bytes_eq-Decides x.1 y.1).0 p.1 in λ i. (first i, second i)

is_same : (x y : Id) → x ≡ y → same_id x y ≡ true
is_same x y e = and_both (pointwise nat_eq x.0 y.0) (pointwise nat_eq x.1 y.1) ((bytes_eq-Decides x.0 y.0).1 (ap (λ (z : Id). z.0) e)) ((bytes_eq-Decides x.1 y.1).1 (ap (λ (z : Id). z.1) e))

-- what a change of identifiers leaves of a node's parts
identifier_row : (f : Ident → Ident) (y : Node-F Node) → identifier_in (layer f y) ≡ option_map f (identifier_in y)
identifier_row f (Node-F.Identifier k i) = refl
identifier_row f _ = refl

pub identifier_is : (f : Ident → Ident) (t : Node) → identifier_in (out-Node (with_identifiers f t)) ≡ option_map f (identifier_in (out-Node t))
identifier_is f t = ap identifier_in (out_is f t) ∙ identifier_row f (out-Node t)

absent_row : (f : Ident → Ident) (y : Node-F Node) → absent_in (layer f y) ≡ absent_in y
absent_row f Node-F.Absent = refl
absent_row f _ = refl

bound_of_tree : (k : Kind) (ts : List Node) → bound_ids (Tree k ts) ≡ in_parts (field_role k) (map bound_ids ts)
bound_of_tree k ts = search (rules, the_lemmas)

bound_of_list : (ts : List Node) → bound_ids (Many ts) ≡ flat_map (λ ids. ids) (map bound_ids ts)
bound_of_list ts = search (rules, the_lemmas)

bound_of_name : (k : Kind) (i : Ident) → bound_ids (Identifier k i) ≡ own_id k i
bound_of_name k i = search (rules, the_lemmas)

module _ (label : Id → List ℕ) where
  abbrev pub R : Node → Node
  R t = relabelled label t

  -- an identifier and an id with its label
  abbrev pub labelled : Ident → Ident
  labelled i = record i { ctxt = label (id_of i) }

  abbrev marked : Id → Id
  marked x = with_label label x

  -- ---- the forms of a node

  pub at_absent : R Absent ≡ Absent
  at_absent = search (rules, the_lemmas)

  pub at_flag : (x : Bool) → R (Flag x) ≡ Flag x
  at_flag x = search (rules, the_lemmas)

  pub at_word : (w : Word') → R (Word w) ≡ Word w
  at_word w = search (rules, the_lemmas)

  pub at_text : (x : List ℕ) → R (Text x) ≡ Text x
  at_text x = search (rules, the_lemmas)

  pub at_span : (s : Range) → R (Span s) ≡ Span s
  at_span s = search (rules, the_lemmas)

  pub at_name : (k : Kind) (i : Ident) → R (Identifier k i) ≡ Identifier k (labelled i)
  at_name k i = with_identifier labelled k i

  pub at_list : (ts : List Node) → R (Many ts) ≡ Many (map R ts)
  at_list ts = list_is (R (Many ts)) (map R ts) (out_is labelled (Many ts) ∙ ap (layer labelled) (outs-List ts))

  pub at_tree : (k : Kind) (ts : List Node) → R (Tree k ts) ≡ Tree k (map R ts)
  at_tree k ts = tree_is (R (Tree k ts)) k (map R ts) (out_is labelled (Tree k ts) ∙ ap (layer labelled) (outs-Tree k ts))

  -- ---- fields

  pub there_same : (n : ℕ) (ts : List Node) → is_there (slice_get (map R ts) n) ≡ is_there (slice_get ts n)
  there_same n [] = refl
  there_same zero (t ∷ ts) = ap (λ y. not (absent_in y)) (out_is labelled t) ∙ ap not (absent_row labelled (out-Node t))
  there_same (suc n) (t ∷ ts) = there_same n ts

  pub source_same : (ts : List Node) → has_source (map R ts) ≡ has_source ts
  source_same ts = there_same named_export.SRC ts

  pub identifier_there : (ts : List Node) (n : ℕ) → identifier_at (map R ts) n ≡ option_map labelled (identifier_at ts n)
  identifier_there [] n = refl
  identifier_there (t ∷ ts) zero = identifier_is labelled t
  identifier_there (t ∷ ts) (suc n) = identifier_there ts n

  -- ---- the ids that a declaration binds

  abbrev all_labelled : List Id → List Id
  all_labelled ids = map marked ids

  append_labelled : (xs ys : List Id) → all_labelled (xs ++ ys) ≡ all_labelled xs ++ all_labelled ys
  append_labelled [] ys = refl
  append_labelled (x ∷ xs) ys = ap (λ zs. marked x ∷ zs) (append_labelled xs ys)

  own_row : (k : Kind) (i : Ident) → own_id k (labelled i) ≡ all_labelled (own_id k i)
  own_row kind.BindingIdent i = refl
  own_row k i = refl

  part_row : (r : Role) (ids : List Id) → in_part r (all_labelled ids) ≡ all_labelled (in_part r ids)
  part_row role.Declared ids = refl
  part_row role.Lexical ids = refl
  part_row role.Inherited ids = refl
  part_row r ids = refl

  parts_row : (roles : ℕ → Role) (lists : List (List Id)) → in_parts roles (map all_labelled lists) ≡ all_labelled (in_parts roles lists)
  parts_row roles [] = refl
  parts_row roles (ids ∷ lists) =
      ap (λ xs. xs ++ in_parts (λ i. roles (suc i)) (map all_labelled lists)) (part_row (roles zero) ids)
      ∙ ap (λ ys. all_labelled (in_part (roles zero) ids) ++ ys) (parts_row (λ i. roles (suc i)) lists) ∙ sym (append_labelled (in_part (roles zero) ids) (in_parts (λ i. roles (suc i)) lists))

  flat_row : (lists : List (List Id)) → flat_map (λ ids. ids) (map all_labelled lists) ≡ all_labelled (flat_map (λ ids. ids) lists)
  flat_row [] = refl
  flat_row (ids ∷ lists) = ap (λ ys. all_labelled ids ++ ys) (flat_row lists) ∙ sym (append_labelled ids (flat_map (λ ids. ids) lists))

  abbrev Bound : Node → Type 0
  Bound t = bound_ids (R t) ≡ all_labelled (bound_ids t)

  each_bound : (ts : List Node) → Each Bound ts → map bound_ids (map R ts) ≡ map all_labelled (map bound_ids ts)
  each_bound [] l = refl
  each_bound (t ∷ ts) l = ap (λ ids. ids ∷ map bound_ids (map R ts)) l.0 ∙ ap (λ lists. all_labelled (bound_ids t) ∷ lists) (each_bound ts l.1)

  bound_same : (t : Node) → Bound t
  bound_same t = by_children Bound (
    ap bound_ids at_absent ∙ search (rules, the_lemmas),
    λ x. ap bound_ids (at_flag x) ∙ search (rules, the_lemmas),
    λ w. ap bound_ids (at_word w) ∙ search (rules, the_lemmas),
    λ x. ap bound_ids (at_text x) ∙ search (rules, the_lemmas),
    λ s. ap bound_ids (at_span s) ∙ search (rules, the_lemmas),
    λ k i. ap bound_ids (at_name k i) ∙ bound_of_name k (labelled i) ∙ own_row k i ∙ ap all_labelled (sym (bound_of_name k i)),
  )
      (λ ts l. ap bound_ids (at_list ts) ∙ bound_of_list (map R ts) ∙ ap (flat_map (λ ids. ids)) (each_bound ts l) ∙ flat_row (map bound_ids ts) ∙ ap all_labelled (sym (bound_of_list ts)))
      (λ k ts l. ap bound_ids (at_tree k ts) ∙ bound_of_tree k (map R ts) ∙ ap (in_parts (field_role k)) (each_bound ts l) ∙ parts_row (field_role k) (map bound_ids ts) ∙ ap all_labelled (sym (bound_of_tree k ts))) t

  name_row : (y : Node-F Node) → ids_of (name_in (layer labelled y)) ≡ all_labelled (ids_of (name_in y))
  name_row (Node-F.Identifier k i) = refl
  name_row _ = refl

  field_same : (n : ℕ) (ts : List Node) → ids_of (name_of (slice_get (map R ts) n)) ≡ all_labelled (ids_of (name_of (slice_get ts n)))
  field_same n [] = refl
  field_same zero (t ∷ ts) = ap (λ y. ids_of (name_in y)) (out_is labelled t) ∙ name_row (out-Node t)
  field_same (suc n) (t ∷ ts) = field_same n ts

  declared_row : (t : Node) (y : Node-F Node) → declared_in (R t) (layer labelled y) ≡ all_labelled (declared_in t y)
  declared_row t (Node-F.Tree kind.FnDecl ts) = field_same fn_decl.IDENT ts
  declared_row t (Node-F.Tree kind.ClassDecl ts) = field_same class_decl.IDENT ts
  declared_row t (Node-F.Tree k ts) = bound_same t
  declared_row t _ = bound_same t

  declared_same : (t : Node) → declared_ids (R t) ≡ all_labelled (declared_ids t)
  declared_same t = ap (declared_in (R t)) (out_is labelled t) ∙ declared_row t (out-Node t)

  -- ---- exported ones, where labels tell ids apart

  module _ (apart : (x y : Id) → x.0 ≡ y.0 → label x ≡ label y → x ≡ y) where
    same_row : (x y : Id) (b c : Bool) → same_id (marked x) (marked y) ≡ b → same_id x y ≡ c → b ≡ c
    same_row x y true true e f = refl
    same_row x y false false e f = refl
    same_row x y true false e f =
        let labels = same_is (marked x) (marked y) e in
        let one = apart x y (ap (λ (z : Id). z.0) labels) (ap (λ (z : Id). z.1) labels) in sym (is_same x y one) ∙ f
    same_row x y false true e f = sym e ∙ is_same (marked x) (marked y) (ap marked (same_is x y f))

    same_labels : (x y : Id) → same_id (marked x) (marked y) ≡ same_id x y
    same_labels x y = same_row x y (same_id (marked x) (marked y)) (same_id x y) refl refl

    without_row : (b c : Bool) (y : Id) (us ys : List Id) → b ≡ c → us ≡ all_labelled ys → (if b then us else marked y ∷ us) ≡ all_labelled (if c then ys else y ∷ ys)
    without_row true true y us ys e h = h
    without_row false false y us ys e h = ap (λ zs. marked y ∷ zs) h
    without_row true false y us ys e h = absurd (cc)
    without_row false true y us ys e h = absurd (cc)

    without_same : (x : Id) (ys : List Id) → without (marked x) (all_labelled ys) ≡ all_labelled (without x ys)
    without_same x [] = refl
    without_same x (y ∷ ys) = without_row (same_id (marked y) (marked x)) (same_id y x) y (without (marked x) (all_labelled ys)) (without x ys) (same_labels y x) (without_same x ys)

    distinct_same : (xs : List Id) → distinct (all_labelled xs) ≡ all_labelled (distinct xs)
    distinct_same [] = refl
    distinct_same (x ∷ xs) = ap (λ ys. marked x ∷ without (marked x) ys) (distinct_same xs) ∙ ap (λ ys. marked x ∷ ys) (without_same x (distinct xs))

    exported_row : (y : Node-F Node) → exported_in (layer labelled y) ≡ all_labelled (exported_in y)
    exported_row (Node-F.Tree kind.ExportDecl (s ∷ d ∷ [])) = ap distinct (declared_same d) ∙ distinct_same (declared_ids d)
    exported_row (Node-F.Tree k ts) = refl
    exported_row _ = refl

    pub exported_same : (t : Node) → exported_ids (R t) ≡ all_labelled (exported_ids t)
    exported_same t = ap exported_in (out_is labelled t) ∙ exported_row (out-Node t)
