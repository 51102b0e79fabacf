-- A module with some more pairs of parentheses has the same names, each with the same scopes round it.
use Rattle.std.proofs.Common.{◌≡◌, ℕ, zero, suc, Bool, true, false, not, ◌&&◌, ◌||◌, IsTrue, ◌⊎◌, inl, inr, Option, Some, None, List, [], ◌∷◌, map, refl, sym, ap, ◌∙◌, subst, cond}
use Rattle.std.specs.List.{list_all, slice_get}
use Rattle.std.specs.Prelude.{unwrap_or, option_map}
use Rattle.swc_tree_marks.specs.declared.span.Span.{Span as Range}
use Rattle.swc_tree_marks.specs.declared.ident.Ident.{Ident}
use Rattle.swc_tree_node.specs.declared.kind.Kind.{Kind}
use Rattle.swc_tree_node.specs.declared.kind.Kind.TheVariants as kind
use Rattle.swc_tree_node.specs.declared.kind.Class.{Class}
use Rattle.swc_tree_node.specs.declared.kind.Class.TheVariants as class
use Rattle.swc_tree_node.specs.declared.slot.Content.{Content}
use Rattle.swc_tree_node.specs.declared.slot.Content.TheVariants as content
use Rattle.swc_tree_node.specs.declared.slot.Role.{Role}
use Rattle.swc_tree_node.specs.declared.slot.Role.TheVariants as role
use Rattle.swc_tree_node.specs.declared.slot.Slot.{Slot}
use Rattle.swc_tree_node.specs.declared.slot.Slot.TheVariants as slot
use Rattle.swc_tree_node.specs.declared.node.Node.{Node, Span, List as Many, Identifier, Tree, out-Node}
use Rattle.swc_tree_node.specs.declared.node.Node.TheOpen.{Node-F}
use Rattle.swc_tree_node.specs.declared.node.Node.TheVariants.{outs-Identifier, outs-List, outs-Span, outs-Tree}
use Rattle.swc_tree_node.specs.Table.{fields_of, slots_of}
use Rattle.swc_tree_node.specs.Fits.{AllFit, FieldsFit, Fits}
use Rattle.swc_tree_node.proofs.Fit.{both as both_are, fits-List}
use Rattle.swc_tree_scoping.specs.declared.places.Standing.{Standing}
use Rattle.swc_tree_scoping.specs.declared.places.Standing.TheVariants as standing
use Rattle.swc_tree_scoping.specs.declared.places.Place.{Place}
use Rattle.swc_tree_scoping.specs.declared.places.Scope.TheVariants as scope
use Rattle.swc_tree_scoping.specs.Places.{absent_in, binds_patterns, by_keyword, field_role, has_own_name, is_expression_in, is_identifier_expression, is_there, keyword_in, nested_below, opened_as, part_standing, place_in, program_place, standing_below, view_from}
use Rattle.swc_tree_scoping.specs.WellScoped.{is_module}
use Rattle.swc_tree_scoping.specs.Folds.{each_in}
use Rattle.swc_tree_renaming.proofs.Whole.{module_layer}
use Rattle.swc_tree_grammar.specs.Places.{content_of}
use Rattle.swc_tree_sites.specs.Sites.{both, in_scope, joined, name_sites, nothing}
use Rattle.swc_tree_grammar.proofs.Places.{Stands, stands}
use Rattle.swc_tree_sites.proofs.Kept.{E, S, both_nothing, out_step}
use Rattle.swc_tree_sites.proofs.Leaves.{Field}
use Rattle.swc_tree_sites_laws.proofs.Expressions.{P, alike, is_part, of_identifier}
use Rattle.swc_tree_sites_laws.proofs.Parts.{field_part, has_parts, is_part_kind, part_belongs, part_by, part_part, parts_in, single_content}
use Rattle.swc_base_fixer_laws.specs.Sets.{AllSet, FieldsSet, Sets, item, pairable, pairable_in, takes_pair}
use Rattle.swc_base_fixer_laws.specs.Sets.Sets.{same, after, around, named, items, tree}
use Rattle.swc_base_fixer_laws.specs.Sets.AllSet.{none, more}
use Rattle.swc_base_fixer_laws.specs.Sets.FieldsSet.{nil, field}
use Rattle.swc_base_fixer_laws.proofs.FitsKept.{expression_fits, fits_kept}
use Rattle.swc_base_fixer_laws.proofs.SetsRows.{items_open}

-- the first part of the head of a `for`, where the name `async` may get a pair
abbrev is_head_class : Class → Bool
is_head_class class.ForHead = true
is_head_class _ = false

abbrev is_head_content : Option Content → Bool
is_head_content (Some (content.Node c)) = is_head_class c
is_head_content _ = false

abbrev is_head : Slot → Bool
is_head s = is_head_content (content_of s)

item_head : (s : Slot) → is_head (item s) ≡ true → is_head s ≡ true
item_head (slot.List c) h = h
item_head (slot.OptionalList c) h = h
item_head (slot.Holes c) h = h
item_head slot.Pairs h = absurd (cc)
item_head slot.Pair h = absurd (cc)
item_head (slot.One c) h = absurd (cc)
item_head (slot.Optional c) h = absurd (cc)

item_parts : (s : Slot) → has_parts (item s) ≡ true → has_parts s ≡ true
item_parts (slot.List c) h = h
item_parts (slot.OptionalList c) h = h
item_parts (slot.Holes c) h = h
item_parts slot.Pairs h = absurd (cc)
item_parts slot.Pair h = absurd (cc)
item_parts (slot.One c) h = absurd (cc)
item_parts (slot.Optional c) h = absurd (cc)

-- a place that takes a pair has parts
pair_parts : (s : Slot) → IsTrue (takes_pair s) → has_parts s ≡ true
pair_parts (slot.One (content.Node c)) h = part_belongs kind.ParenExpr c refl h
pair_parts (slot.Optional (content.Node c)) h = part_belongs kind.ParenExpr c refl h
pair_parts (slot.One content.Text) h = absurd (cc)
pair_parts (slot.One content.Span) h = absurd (cc)
pair_parts (slot.One content.Flag) h = absurd (cc)
pair_parts (slot.One (content.Word w)) h = absurd (cc)
pair_parts (slot.Optional content.Text) h = absurd (cc)
pair_parts (slot.Optional content.Span) h = absurd (cc)
pair_parts (slot.Optional content.Flag) h = absurd (cc)
pair_parts (slot.Optional (content.Word w)) h = absurd (cc)
pair_parts (slot.List c) h = absurd (cc)
pair_parts (slot.OptionalList c) h = absurd (cc)
pair_parts (slot.Holes c) h = absurd (cc)
pair_parts slot.Pair h = absurd (cc)
pair_parts slot.Pairs h = absurd (cc)

-- what gets a pair is a tree
module _ {A : Type 0} (g : Node-F Node → A) (d : A) (trees : (k : Kind) (ts : List Node) → g (Node-F.Tree k ts) ≡ d) where
  of_pairable : (t : Node) (y : Node-F Node) → out-Node t ≡ y → IsTrue (pairable t) → g (out-Node t) ≡ d
  of_pairable t (Node-F.Tree k ts) o h = ap g o ∙ trees k ts
  of_pairable t Node-F.Absent o h = let z = subst (λ y. IsTrue (pairable_in y)) o h in absurd (cc)
  of_pairable t (Node-F.Flag x) o h = let z = subst (λ y. IsTrue (pairable_in y)) o h in absurd (cc)
  of_pairable t (Node-F.Word x) o h = let z = subst (λ y. IsTrue (pairable_in y)) o h in absurd (cc)
  of_pairable t (Node-F.Text x) o h = let z = subst (λ y. IsTrue (pairable_in y)) o h in absurd (cc)
  of_pairable t (Node-F.Span x) o h = let z = subst (λ y. IsTrue (pairable_in y)) o h in absurd (cc)
  of_pairable t (Node-F.List x) o h = let z = subst (λ y. IsTrue (pairable_in y)) o h in absurd (cc)
  of_pairable t (Node-F.Identifier k x) o h = let z = subst (λ y. IsTrue (pairable_in y)) o h in absurd (cc)

  -- what is read off a node alike, whatever tree, list or identifier it is
  reads : (lists : (ts : List Node) → g (Node-F.List ts) ≡ d) (names : (k : Kind) (i : Ident) → g (Node-F.Identifier k i) ≡ d) {s : Slot} {t u : Node} → Sets s t u → g (out-Node u) ≡ g (out-Node t)
  reads lists names (same t) = refl
  reads lists names (after x y) = reads lists names y ∙ reads lists names x
  reads lists names (around r t u p q x) = ap g (outs-Tree kind.ParenExpr (Span r ∷ u ∷ [])) ∙ trees kind.ParenExpr (Span r ∷ u ∷ []) ∙ sym (of_pairable t (out-Node t) refl q)
  reads lists names (named r k i h) = ap g (outs-Tree kind.ParenExpr (Span r ∷ Identifier kind.Ident i ∷ [])) ∙ trees kind.ParenExpr (Span r ∷ Identifier kind.Ident i ∷ []) ∙ sym (ap g (outs-Identifier k i) ∙ names k i)
  reads lists names (items ts us x) = ap g (outs-List us) ∙ lists us ∙ sym (ap g (outs-List ts) ∙ lists ts)
  reads lists names (tree k ts us e x) = ap g (outs-Tree k us) ∙ trees k us ∙ sym (ap g (outs-Tree k ts) ∙ trees k ts)

-- whether it is an identifier expression, but for such a name
expression_same : {s : Slot} {t u : Node} → Sets s t u → is_head s ≡ false → is_identifier_expression (Some u) ≡ is_identifier_expression (Some t)
expression_same (same t) h = refl
expression_same (after x y) h = expression_same y h ∙ expression_same x h
expression_same (around r t u p q x) h = ap is_expression_in (outs-Tree kind.ParenExpr (Span r ∷ u ∷ [])) ∙ sym (of_pairable is_expression_in false (λ k ts. refl) t (out-Node t) refl q)
expression_same (named r k i z) h = absurd (cc)
expression_same (items ts us x) h = ap is_expression_in (outs-List us) ∙ sym (ap is_expression_in (outs-List ts))
expression_same (tree k ts us e x) h = ap is_expression_in (outs-Tree k us) ∙ sym (ap is_expression_in (outs-Tree k ts))

-- where such a head stands
abbrev Heads : Slot → Standing → Type 0
Heads s p = is_head s ≡ true → p ≡ standing.Reference

-- where parts of patterns and expressions stand
abbrev Parts : Slot → Standing → Type 0
Parts s p = has_parts s ≡ true → is_part p ≡ true

-- a part of what binds no pattern stands as the whole
stays : (p : Standing) (o : Option Node) → binds_patterns p ≡ false → part_standing p o ≡ p
stays p o h = ap (λ b. cond (b && is_identifier_expression o) standing.Reference p) h

no_expression : (p : Standing) (o : Option Node) → is_identifier_expression o ≡ false → part_standing p o ≡ p
no_expression p o h = ap (λ b. cond (binds_patterns p && b) standing.Reference p) h ∙ ap (λ b. cond b standing.Reference p) (and_false (binds_patterns p))
  where
    and_false : (b : Bool) → (b && false) ≡ false
    and_false true = refl
    and_false false = refl

part_same : {s : Slot} {t u : Node} (p : Standing) → Sets s t u → Heads s p → part_standing p (Some u) ≡ part_standing p (Some t)
part_same {s = s} {t = t} {u = u} p x h = at (is_head s) refl
  where
    at : (b : Bool) → is_head s ≡ b → part_standing p (Some u) ≡ part_standing p (Some t)
    at true e = stays p (Some u) (ap binds_patterns (h e)) ∙ sym (stays p (Some t) (ap binds_patterns (h e)))
    at false e = ap (λ b. cond (binds_patterns p && b) standing.Reference p) (expression_same x e)

still_head : (p : Standing) (o : Option Node) → p ≡ standing.Reference → part_standing p o ≡ standing.Reference
still_head p o h = stays p o (ap binds_patterns h) ∙ h

-- the fields of two trees, one with some more pairs
abbrev Both : List Slot → List Node → List Node → ℕ → Type 0
Both ss ts us i = ((slice_get ts i ≡ None) × (slice_get us i ≡ None)) ⊎ ((s : Slot) × (c d : Node) × (slice_get ss i ≡ Some s) × (slice_get ts i ≡ Some c) × (slice_get us i ≡ Some d) × Sets s c d)

both_at : {ss : List Slot} {ts us : List Node} → FieldsSet ss ts us → (i : ℕ) → Both ss ts us i
both_at nil i = inl (refl, refl)
both_at (field {s = s} {t = t} {u = u} x d) zero = inr (s, t, u, refl, refl, refl, x)
both_at (field x d) (suc i) = both_at d i

there_same : {ss : List Slot} {ts us : List Node} → FieldsSet ss ts us → (i : ℕ) → is_there (slice_get us i) ≡ is_there (slice_get ts i)
there_same {ss = ss} {ts = ts} {us = us} d i = at (both_at d i)
  where
    at : Both ss ts us i → is_there (slice_get us i) ≡ is_there (slice_get ts i)
    at (inl (e, f)) = ap is_there f ∙ sym (ap is_there e)
    at (inr (s, c, d, z, e, f, x)) = ap is_there f ∙ ap not (reads absent_in false (λ k ts. refl) (λ ts. refl) (λ k i. refl) x) ∙ sym (ap is_there e)

keyword_same : {ss : List Slot} {ts us : List Node} → FieldsSet ss ts us → by_keyword us ≡ by_keyword ts
keyword_same nil = refl
keyword_same (field {t = t} {u = u} {ts = ts} {us = us} x d) =
    ap (keyword_in (out-Node u)) (keyword_same d) ∙ reads (λ y. keyword_in y (by_keyword ts)) (by_keyword ts) (λ k ts. refl) (λ ts. refl) (λ k i. refl) x

-- which fields hold such a head, by the table
abbrev is_reference_role : Role → Bool
is_reference_role role.Reference = true
is_reference_role _ = false

abbrev head_fine : Field → Bool
head_fine f = not (is_head f.1) || is_reference_role f.2

heads_fine : (k : Kind) → list_all head_fine (fields_of k) ≡ true
heads_fine kind.Module = refl
heads_fine _ = refl

fine_at : (fs : List Field) (i : ℕ) (f : Field) → list_all head_fine fs ≡ true → slice_get fs i ≡ Some f → head_fine f ≡ true
fine_at [] i f h e = absurd (cc)
fine_at (x ∷ fs) zero f h e = let same : x ≡ f = cc in ap head_fine (sym same) ∙ (both_are (head_fine x) (list_all head_fine fs) h).0
fine_at (x ∷ fs) (suc i) f h e = fine_at fs i f (both_are (head_fine x) (list_all head_fine fs) h).1 e

slot_field : (fs : List Field) (i : ℕ) (s : Slot) → slice_get (map (λ f. f.1) fs) i ≡ Some s → (f : Field) × (slice_get fs i ≡ Some f) × (f.1 ≡ s)
slot_field [] i s e = absurd (cc)
slot_field (x ∷ fs) zero s e = (x, refl, cc)
slot_field (x ∷ fs) (suc i) s e = slot_field fs i s e

reference_role : (x : Role) → is_reference_role x ≡ true → x ≡ role.Reference
reference_role role.Reference h = refl
reference_role _ h = absurd (cc)

implied : (a b : Bool) → (not a || b) ≡ true → a ≡ true → b ≡ true
implied true b h e = h
implied false b h e = absurd (cc)

none_there : (a b : Bool) → (not a || b) ≡ true → b ≡ false → a ≡ false
none_there true b h e = let z = sym e ∙ h in absurd (cc)
none_there false b h e = refl

-- a field stands alike in both
module _ (p : Standing) (n : Bool) (k : Kind) (ts us : List Node) (keyword : by_keyword us ≡ by_keyword ts) (source : is_there (slice_get us 2) ≡ is_there (slice_get ts 2)) where
  part_at : (q : Standing) (i : ℕ) (s : Slot) (c d : Node) → slice_get ts i ≡ Some c → slice_get us i ≡ Some d → Sets s c d → is_head s ≡ false → part_standing q (slice_get us i) ≡ part_standing q (slice_get ts i)
  part_at q i s c d e f x h = ap (part_standing q) f ∙ ap (λ b. cond (binds_patterns q && b) standing.Reference q) (expression_same x h) ∙ ap (part_standing q) (sym e)

  stands_alike : (x : Role) (i : ℕ) (s : Slot) (c d : Node) → slice_get ts i ≡ Some c → slice_get us i ≡ Some d → Sets s c d → (not (is_head s) || is_reference_role x) ≡ true → standing_below (P p n) k us i x ≡ standing_below (P p n) k ts i x
  stands_alike role.Inherited i s c d e f x h = part_at p i s c d e f x (none_there (is_head s) false h refl)
  stands_alike role.Parameter i s c d e f x h = part_at standing.Parameter i s c d e f x (none_there (is_head s) false h refl)
  stands_alike role.Catch i s c d e f x h = part_at standing.CatchParameter i s c d e f x (none_there (is_head s) false h refl)
  stands_alike role.Declared i s c d e f x h = keyword
  stands_alike role.ExportLocal i s c d e f x h = ap (λ b. cond b standing.Imported standing.Reference) source
  stands_alike role.Plain i s c d e f x h = refl
  stands_alike _ i s c d e f x h = refl

-- a field, with what is known of where it stands
record Fine (v u : Place) (s : Slot) : Type 0 where
  stands : Standing
  nested : Bool
  was : v ≡ P stands nested
  is : u ≡ P stands nested
  head : Heads s stands
  part : Parts s stands

fine_field : (p : Standing) (n : Bool) (k : Kind) (ts us : List Node) → FieldsSet (slots_of k) ts us → (is_part_kind k ≡ true → is_part p ≡ true) → has_own_name us ≡ has_own_name ts → (i : ℕ) (s : Slot) (c d : Node) → slice_get (slots_of k) i ≡ Some s → slice_get ts i ≡ Some c → slice_get us i ≡ Some d → Sets s c d
    → Fine (place_in (P p n) (Node-F.Tree k ts) i) (place_in (P p n) (Node-F.Tree k us) i) s
fine_field p n k ts us x parts own i s c d z e f y =
    let (g, at, slot_is) = slot_field (fields_of k) i s z in
    let role_is : field_role k i ≡ g.2 = ap (λ o. unwrap_or (option_map (λ f. f.2) o) role.Plain) at in
    let fine : (not (is_head s) || is_reference_role g.2) ≡ true = subst (λ s. (not (is_head s) || is_reference_role g.2) ≡ true) slot_is (fine_at (fields_of k) i g (heads_fine k) at) in
    let alike : standing_below (P p n) k us i (field_role k i) ≡ standing_below (P p n) k ts i (field_role k i)
    = ap (standing_below (P p n) k us i) role_is ∙ stands_alike p n k ts us (keyword_same x) (there_same x 2) g.2 i s c d e f y fine ∙ ap (standing_below (P p n) k ts i) (sym role_is) in
    record {
      stands = standing_below (P p n) k ts i (field_role k i);
      nested = nested_below n (opened_as (P p n) k (has_own_name ts)) (view_from k i);
      was = refl;
      is = ap (λ b. P (standing_below (P p n) k us i (field_role k i)) (nested_below n (opened_as (P p n) k b) (view_from k i))) own
          ∙ ap (λ r. P r (nested_below n (opened_as (P p n) k (has_own_name ts)) (view_from k i))) alike;
      head = λ h. ap (standing_below (P p n) k ts i) (role_is ∙ reference_role g.2 (implied (is_head s) (is_reference_role g.2) fine h));
      part = λ h. subst (λ r. is_part (standing_below (P p n) k ts i r) ≡ true) (sym role_is)
          (part_by p n k ts us i g.2 g.1 (field_part k i g at) (subst (λ s. has_parts s ≡ true) (sym slot_is) h) parts);
    }

-- a pair
pair_sites : (p : Standing) (n : Bool) (r : Range) (u : Node) → S (P p n) (Tree kind.ParenExpr (Span r ∷ u ∷ [])) ≡ S (E n) u
pair_sites p n r u =
    out_step (P p n) _ _ (outs-Tree kind.ParenExpr (Span r ∷ u ∷ [])) ∙ ap (λ a. both a (both (S (E n) u) nothing)) (out_step (P standing.Plain n) (Span r) _ (outs-Span r)) ∙ both_nothing (S (E n) u)

own_part : (k : Kind) (ts : List Node) (s : Slot) (p : Standing) → Stands k ts s → Parts s p → is_part_kind k ≡ true → is_part p ≡ true
own_part k ts s p w parts e = parts (ap parts_in (single_content s (content.Node w.in_class) w.place) ∙ part_belongs k w.in_class e w.belonging)

mutual
  -- pairs keep the names of a tree
  keeps : {s : Slot} {t u : Node} → Sets s t u → Fits t s → (p : Standing) (n : Bool) → Heads s p → Parts s p → S (P p n) u ≡ S (P p n) t
  keeps (same t) f p n h parts = refl
  keeps (after x y) f p n h parts = keeps y (fits_kept x f) p n h parts ∙ keeps x f p n h parts
  keeps {s = s} (around r t u a b x) f p n h parts =
      let fits = expression_fits t s b f in
      pair_sites p n r u ∙ keeps x fits standing.Reference n (λ e. refl) (λ e. refl) ∙ sym (alike t p n fits (parts (pair_parts s a)))
      ∙ ap (λ q. S (P q n) t) (no_expression p (Some t) (of_pairable is_expression_in false (λ k ts. refl) t (out-Node t) refl b))
  keeps (named r k i z) f p n h parts =
      pair_sites p n r (Identifier kind.Ident i) ∙ of_identifier (E n) kind.Ident i ∙ ap (λ p. name_sites p i) (sym (h refl)) ∙ sym (of_identifier (P p n) k i)
  keeps {s = s} (items ts us x) f p n h parts =
      out_step (P p n) (Many us) _ (outs-List us)
      ∙ ap joined (each_keeps x (items_open s ts (sym (fits-List ts s) ∙ f)) p n (λ e. h (item_head s e)) (λ e. parts (item_parts s e))) ∙ sym (out_step (P p n) (Many ts) _ (outs-List ts))
  keeps {s = s} (tree k ts us e x) f p n h parts =
      let own : has_own_name us ≡ has_own_name ts = there_same x 0 in
      let w = stands k ts s f in
      out_step (P p n) (Tree k us) _ (outs-Tree k us)
      ∙ ap (λ b. in_scope (opened_as (P p n) k b) (view_from k) (each_in S (place_in (P p n) (Node-F.Tree k us)) us)) own
      ∙ ap (in_scope (opened_as (P p n) k (has_own_name ts)) (view_from k))
      (fields_keep x w.fields (place_in (P p n) (Node-F.Tree k ts)) (place_in (P p n) (Node-F.Tree k us)) (fine_field p n k ts us x (own_part k ts s p w parts) own))
      ∙ sym (out_step (P p n) (Tree k ts) _ (outs-Tree k ts))

  each_keeps : {s : Slot} {ts us : List Node} → AllSet s ts us → AllFit s ts → (p : Standing) (n : Bool) → Heads s p → Parts s p
      → each_in S (λ i. P (part_standing p (slice_get us i)) n) us ≡ each_in S (λ i. P (part_standing p (slice_get ts i)) n) ts
  each_keeps none f p n h parts = refl
  each_keeps (more {t = t} {u = u} {ts = ts} {us = us} x d) f p n h parts =
      ap (λ q. S (P q n) u ∷ each_in S (λ i. P (part_standing p (slice_get us i)) n) us) (part_same p x h)
      ∙ ap (λ a. a ∷ each_in S (λ i. P (part_standing p (slice_get us i)) n) us) (keeps x f.0 (part_standing p (Some t)) n (λ e. still_head p (Some t) (h e)) (λ e. part_part p (Some t) (parts e)))
      ∙ ap (λ l. S (P (part_standing p (Some t)) n) t ∷ l) (each_keeps d f.1 p n h parts)

  fields_keep : {ss : List Slot} {ts us : List Node} → FieldsSet ss ts us → FieldsFit ss ts → (ps qs : ℕ → Place)
      → ((i : ℕ) (s : Slot) (c d : Node) → slice_get ss i ≡ Some s → slice_get ts i ≡ Some c → slice_get us i ≡ Some d → Sets s c d → Fine (ps i) (qs i) s) → each_in S qs us ≡ each_in S ps ts
  fields_keep nil fit ps qs fine = refl
  fields_keep (field {s = s} {t = t} {u = u} {ts = ts} {us = us} x d) fit ps qs fine =
      let f = fine zero s t u refl refl refl x in
      ap (λ v. S v u ∷ each_in S (λ i. qs (suc i)) us) f.is ∙ ap (λ a. a ∷ each_in S (λ i. qs (suc i)) us) (keeps x fit.0 f.stands f.nested f.head f.part) ∙ ap (λ v. S v t ∷ each_in S (λ i. qs (suc i)) us) (sym f.was)
      ∙ ap (λ l. S (ps zero) t ∷ l) (fields_keep d fit.1 (λ i. ps (suc i)) (λ i. qs (suc i)) (λ i. fine (suc i)))

-- the fields of a module
abbrev Top : Place
Top = P standing.Plain false

abbrev Quiet : Slot → Type 0
Quiet s = (is_head s ≡ false) × (has_parts s ≡ false)

quiet_head : (s : Slot) → Quiet s → Heads s standing.Plain
quiet_head s q h = absurd (cc (sym q.0 ∙ h))

quiet_part : (s : Slot) → Quiet s → Parts s standing.Plain
quiet_part s q h = absurd (cc (sym q.1 ∙ h))

three_keep : {a b c : Slot} {ts us : List Node} → Quiet a → Quiet b → Quiet c → FieldsFit (a ∷ b ∷ c ∷ []) ts → FieldsSet (a ∷ b ∷ c ∷ []) ts us → S program_place (Tree kind.Module us) ≡ S program_place (Tree kind.Module ts)
three_keep {a = a} {b = b} {c = c} f g h fit (field {t = x} {u = l} d (field {t = y} {u = m} e (field {t = z} {u = n} i nil))) =
    out_step program_place (Tree kind.Module (l ∷ m ∷ n ∷ [])) _ (outs-Tree kind.Module (l ∷ m ∷ n ∷ []))
    ∙ ap (λ a. in_scope (Some scope.Program) (view_from kind.Module) (a ∷ S Top m ∷ S Top n ∷ [])) (keeps d fit.0 standing.Plain false (quiet_head a f) (quiet_part a f))
    ∙ ap (λ a. in_scope (Some scope.Program) (view_from kind.Module) (S Top x ∷ a ∷ S Top n ∷ [])) (keeps e fit.1.0 standing.Plain false (quiet_head b g) (quiet_part b g))
    ∙ ap (λ a. in_scope (Some scope.Program) (view_from kind.Module) (S Top x ∷ S Top y ∷ a ∷ [])) (keeps i fit.1.1.0 standing.Plain false (quiet_head c h) (quiet_part c h))
    ∙ sym (out_step program_place (Tree kind.Module (x ∷ y ∷ z ∷ [])) _ (outs-Tree kind.Module (x ∷ y ∷ z ∷ [])))

pub module_is : (us : List Node) → IsTrue (is_module (Tree kind.Module us))
module_is us = rw (outs-Tree kind.Module us) refl

abbrev TopKept : Node → Node → Type 0
TopKept t u = IsTrue (is_module u) × (S program_place u ≡ S program_place t)

-- a module
pub top_keeps : {s : Slot} {t u : Node} → Sets s t u → Fits t s → IsTrue (is_module t) → TopKept t u
top_keeps (same t) f m = (m, refl)
top_keeps (after x y) f m = let (a, e) = top_keeps x f m in let (b, g) = top_keeps y (fits_kept x f) a in (b, g ∙ e)
top_keeps (around r t u p q x) f m = let (vs, o) = module_layer t m in let z = subst (λ y. IsTrue (pairable_in y)) o q in absurd (cc)
top_keeps (named r k i h) f m = let (vs, o) = module_layer (Identifier k i) m in let z : Node-F.Identifier k i ≡ Node-F.Tree kind.Module vs = sym (outs-Identifier k i) ∙ o in absurd (cc)
top_keeps (items ts us x) f m = let (vs, o) = module_layer (Many ts) m in let z : Node-F.List ts ≡ Node-F.Tree kind.Module vs = sym (outs-List ts) ∙ o in absurd (cc)
top_keeps {s = s} (tree k ts us e x) f m =
    let (vs, o) = module_layer (Tree k ts) m in
    let z : Node-F.Tree k ts ≡ Node-F.Tree kind.Module vs = sym (outs-Tree k ts) ∙ o in
    let is : k ≡ kind.Module = cc in
    subst (λ k. FieldsFit (slots_of k) ts → FieldsSet (slots_of k) ts us → TopKept (Tree k ts) (Tree k us)) (sym is) (λ fit x. (module_is us, three_keep (refl, refl) (refl, refl) (refl, refl) fit x)) (stands k ts s f).fields x
