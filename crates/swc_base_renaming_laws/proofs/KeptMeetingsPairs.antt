-- In a program with some more pairs of parentheses the same ids meet.
use Rattle.std.proofs.Common.{◌≡◌, ℕ, zero, suc, Bool, true, false, not, ◌&&◌, ◌||◌, IsTrue, Option, Some, None, List, [], ◌∷◌, map, refl, sym, ap, ◌∙◌, subst, cond}
use Rattle.std.specs.List.{list_all, slice_get}
use Rattle.std.specs.Prelude.{unwrap_or, option_map}
use Rattle.swc_tree_marks.specs.declared.span.Span.{Span as Range}
use Rattle.swc_tree_marks.specs.declared.ident.Ident.{Ident}
use Rattle.swc_tree_node.specs.declared.kind.Kind.{Kind}
use Rattle.swc_tree_node.specs.declared.kind.Kind.TheVariants as kind
use Rattle.swc_tree_node.specs.declared.kind.Class.TheVariants as class
use Rattle.swc_tree_node.specs.declared.slot.Content.TheVariants as content
use Rattle.swc_tree_node.specs.declared.slot.Role.{Role}
use Rattle.swc_tree_node.specs.declared.slot.Role.TheVariants as role
use Rattle.swc_tree_node.specs.declared.slot.Slot.{Slot}
use Rattle.swc_tree_node.specs.declared.slot.Slot.TheVariants as slot
use Rattle.swc_tree_node.specs.declared.node.Node.{Node, Span, List as Many, Identifier, Tree, out-Node}
use Rattle.swc_tree_node.specs.declared.node.Node.TheOpen.{Node-F}
use Rattle.swc_tree_node.specs.declared.node.Node.TheVariants.{outs-List, outs-Tree}
use Rattle.swc_tree_node.specs.Table.{fields_of, slots_of}
use Rattle.swc_tree_node.specs.Fits.{AllFit, FieldsFit, Fits, belongs}
use Rattle.swc_tree_node.proofs.Fit.{both as both_are, fits-List, tree_opens}
use Rattle.swc_tree_scoping.specs.declared.places.Standing.{Standing}
use Rattle.swc_tree_scoping.specs.declared.places.Standing.TheVariants as standing
use Rattle.swc_tree_scoping.specs.declared.places.Place.{Place}
use Rattle.swc_tree_scoping.specs.Places.{binds_patterns, by_keyword, field_role, has_own_name, is_identifier_expression, is_there, part_standing, place_in, program_place, standing_below}
use Rattle.swc_tree_scoping.specs.Folds.{each_in}
use Rattle.swc_tree_scoping.proofs.Remarked.{tree_is}
use Rattle.swc_tree_renaming.specs.Apart.{is_goal}
use Rattle.swc_tree_grammar.specs.Due.{with_due_pairs}
use Rattle.swc_tree_grammar.proofs.Places.{Stands, stands}
use Rattle.swc_tree_sites.proofs.Leaves.{Field}
use Rattle.swc_tree_sites_laws.proofs.Expressions.{is_part}
use Rattle.swc_tree_sites_laws.proofs.Parts.{field_part, has_pairs, has_parts, is_part_kind, part_belongs, part_by, part_part, parts_in, single_content}
use Rattle.swc_base_fixer_laws.specs.Sets.{AllSet, FieldsSet, Sets, item, pairable, pairable_in, takes_pair}
use Rattle.swc_base_fixer_laws.specs.Sets.Sets.{same, after, around, named, items, tree}
use Rattle.swc_base_fixer_laws.specs.Sets.AllSet.{none, more}
use Rattle.swc_base_fixer_laws.specs.Sets.FieldsSet.{nil, field}
use Rattle.swc_base_fixer_laws.proofs.Answer.{due_set}
use Rattle.swc_base_fixer_laws.proofs.FitsKept.{expression_fits, fits_kept}
use Rattle.swc_base_fixer_laws.proofs.SetsRows.{items_open}
use Rattle.swc_base_rename_analysis.specs.Analysis.{body_kind, has_identifier, is_for_body, is_outside, own_kind}
use Rattle.swc_base_rename_analysis.specs.Walk.{own_name_below}
use Rattle.swc_base_renaming_laws.specs.Meetings.{Meeting, Met, both, fields_where, in_scope, items_met, name_met, nothing, tree_met}
use Rattle.swc_base_renaming_laws.proofs.Meets.{M, ins, kids, out_is, outs}
use Rattle.swc_base_renaming_laws.proofs.Placed.{placed, sort}
use Rattle.swc_base_renaming_laws.specs.KeptMeetings.{DuePairsKeepMeetings}
use Rattle.swc_base_renaming_laws.proofs.Bodies.{Kept, both_nothing, no_body, no_own, plainly, span_nothing, with_own}
use Rattle.swc_base_renaming_laws.proofs.Expressions.{T, of_identifier, part_no_default, tree_alike}
use Rattle.swc_base_renaming_laws.proofs.KeptMeetingsLooks.{expression_set, identifier_first, is_head, keyword_set, own_set, there_set}

-- ---- as what things stand

-- where the head of a `for` stands, and where parts of patterns and expressions do
abbrev Heads : Slot → Standing → Type 0
Heads s p = is_head s ≡ true → p ≡ standing.Reference

abbrev Parts : Slot → Standing → Type 0
Parts s p = has_parts s ≡ true → is_part p ≡ true

item_head : (s : Slot) → is_head (item s) ≡ true → is_head s ≡ true
item_head (slot.List c) h = h
item_head (slot.OptionalList c) h = h
item_head (slot.Holes c) h = h
item_head slot.Pairs h = absurd (cc)
item_head slot.Pair h = absurd (cc)
item_head (slot.One c) h = absurd (cc)
item_head (slot.Optional c) h = absurd (cc)

pub item_parts : (s : Slot) → has_parts (item s) ≡ true → has_parts s ≡ true
item_parts (slot.List c) h = h
item_parts (slot.OptionalList c) h = h
item_parts (slot.Holes c) h = h
item_parts slot.Pairs h = absurd (cc)
item_parts slot.Pair h = absurd (cc)
item_parts (slot.One c) h = absurd (cc)
item_parts (slot.Optional c) h = absurd (cc)

-- a place that takes a pair has parts
pair_parts : (s : Slot) → IsTrue (takes_pair s) → has_parts s ≡ true
pair_parts (slot.One (content.Node c)) h = part_belongs kind.ParenExpr c refl h
pair_parts (slot.Optional (content.Node c)) h = part_belongs kind.ParenExpr c refl h
pair_parts (slot.One content.Text) h = absurd (cc)
pair_parts (slot.One content.Span) h = absurd (cc)
pair_parts (slot.One content.Flag) h = absurd (cc)
pair_parts (slot.One (content.Word w)) h = absurd (cc)
pair_parts (slot.Optional content.Text) h = absurd (cc)
pair_parts (slot.Optional content.Span) h = absurd (cc)
pair_parts (slot.Optional content.Flag) h = absurd (cc)
pair_parts (slot.Optional (content.Word w)) h = absurd (cc)
pair_parts (slot.List c) h = absurd (cc)
pair_parts (slot.OptionalList c) h = absurd (cc)
pair_parts (slot.Holes c) h = absurd (cc)
pair_parts slot.Pair h = absurd (cc)
pair_parts slot.Pairs h = absurd (cc)

-- and takes pairs
pair_pairs : (s : Slot) → IsTrue (takes_pair s) → has_pairs s ≡ true
pair_pairs (slot.One (content.Node c)) h = ap (λ b. b || belongs kind.SeqExpr c) h
pair_pairs (slot.Optional (content.Node c)) h = ap (λ b. b || belongs kind.SeqExpr c) h
pair_pairs (slot.One content.Text) h = absurd (cc)
pair_pairs (slot.One content.Span) h = absurd (cc)
pair_pairs (slot.One content.Flag) h = absurd (cc)
pair_pairs (slot.One (content.Word w)) h = absurd (cc)
pair_pairs (slot.Optional content.Text) h = absurd (cc)
pair_pairs (slot.Optional content.Span) h = absurd (cc)
pair_pairs (slot.Optional content.Flag) h = absurd (cc)
pair_pairs (slot.Optional (content.Word w)) h = absurd (cc)
pair_pairs (slot.List c) h = absurd (cc)
pair_pairs (slot.OptionalList c) h = absurd (cc)
pair_pairs (slot.Holes c) h = absurd (cc)
pair_pairs slot.Pair h = absurd (cc)
pair_pairs slot.Pairs h = absurd (cc)

and_false : (b : Bool) → (b && false) ≡ false
and_false true = refl
and_false false = refl

-- a part of what binds no pattern stands as the whole
stays : (p : Standing) (o : Option Node) → binds_patterns p ≡ false → part_standing p o ≡ p
stays p o h = ap (λ b. cond (b && is_identifier_expression o) standing.Reference p) h

no_expression : (p : Standing) (o : Option Node) → is_identifier_expression o ≡ false → part_standing p o ≡ p
no_expression p o h = ap (λ b. cond (binds_patterns p && b) standing.Reference p) h ∙ ap (λ b. cond b standing.Reference p) (and_false (binds_patterns p))

still_head : (p : Standing) (o : Option Node) → p ≡ standing.Reference → part_standing p o ≡ standing.Reference
still_head p o h = stays p o (ap binds_patterns h) ∙ h

part_same : {s : Slot} {t u : Node} (p : Standing) → Sets s t u → Heads s p → part_standing p (Some u) ≡ part_standing p (Some t)
part_same {s = s} {t = t} {u = u} p x h = at (is_head s) refl
  where
    at : (b : Bool) → is_head s ≡ b → part_standing p (Some u) ≡ part_standing p (Some t)
    at true e = stays p (Some u) (ap binds_patterns (h e)) ∙ sym (stays p (Some t) (ap binds_patterns (h e)))
    at false e = ap (λ b. cond (binds_patterns p && b) standing.Reference p) (expression_set x e)

-- which fields hold such a head, by the table
abbrev is_reference_role : Role → Bool
is_reference_role role.Reference = true
is_reference_role _ = false

abbrev head_fine : Field → Bool
head_fine f = not (is_head f.1) || is_reference_role f.2

heads_fine : (k : Kind) → list_all head_fine (fields_of k) ≡ true
heads_fine kind.Module = refl
heads_fine _ = refl

fine_at : (fs : List Field) (i : ℕ) (f : Field) → list_all head_fine fs ≡ true → slice_get fs i ≡ Some f → head_fine f ≡ true
fine_at [] i f h e = absurd (cc)
fine_at (x ∷ fs) zero f h e = let same : x ≡ f = cc in ap head_fine (sym same) ∙ (both_are (head_fine x) (list_all head_fine fs) h).0
fine_at (x ∷ fs) (suc i) f h e = fine_at fs i f (both_are (head_fine x) (list_all head_fine fs) h).1 e

slot_field : (fs : List Field) (i : ℕ) (s : Slot) → slice_get (map (λ f. f.1) fs) i ≡ Some s → (f : Field) × (slice_get fs i ≡ Some f) × (f.1 ≡ s)
slot_field [] i s e = absurd (cc)
slot_field (x ∷ fs) zero s e = (x, refl, cc)
slot_field (x ∷ fs) (suc i) s e = slot_field fs i s e

reference_role : (x : Role) → is_reference_role x ≡ true → x ≡ role.Reference
reference_role role.Reference h = refl
reference_role _ h = absurd (cc)

implied : (a b : Bool) → (not a || b) ≡ true → a ≡ true → b ≡ true
implied true b h e = h
implied false b h e = absurd (cc)

none_there : (a b : Bool) → (not a || b) ≡ true → b ≡ false → a ≡ false
none_there true b h e = let z = sym e ∙ h in absurd (cc)
none_there false b h e = refl

-- a field stands alike in both
module _ (p : Standing) (k : Kind) (ts us : List Node) (keyword : by_keyword us ≡ by_keyword ts) (source : is_there (slice_get us 2) ≡ is_there (slice_get ts 2)) where
  part_at : (q : Standing) (i : ℕ) (s : Slot) (c d : Node) → slice_get ts i ≡ Some c → slice_get us i ≡ Some d → Sets s c d → is_head s ≡ false → part_standing q (slice_get us i) ≡ part_standing q (slice_get ts i)
  part_at q i s c d e f x h = ap (part_standing q) f ∙ ap (λ b. cond (binds_patterns q && b) standing.Reference q) (expression_set x h) ∙ ap (part_standing q) (sym e)

  stands_alike : (x : Role) (i : ℕ) (s : Slot) (c d : Node) → slice_get ts i ≡ Some c → slice_get us i ≡ Some d → Sets s c d → (not (is_head s) || is_reference_role x) ≡ true → standing_below (T p) k us i x ≡ standing_below (T p) k ts i x
  stands_alike role.Inherited i s c d e f x h = part_at p i s c d e f x (none_there (is_head s) false h refl)
  stands_alike role.Parameter i s c d e f x h = part_at standing.Parameter i s c d e f x (none_there (is_head s) false h refl)
  stands_alike role.Catch i s c d e f x h = part_at standing.CatchParameter i s c d e f x (none_there (is_head s) false h refl)
  stands_alike role.Declared i s c d e f x h = keyword
  stands_alike role.ExportLocal i s c d e f x h = ap (λ b. cond b standing.Imported standing.Reference) source
  stands_alike role.Plain i s c d e f x h = refl
  stands_alike _ i s c d e f x h = refl

-- a field, with what is known of where it stands
record Fine (v u : Place) (s : Slot) (f : Bool) (own : Option Ident) : Type 0 where
  stands : Standing
  was : sort v.standing ≡ sort stands
  is : sort u.standing ≡ sort stands
  head : Heads s stands
  part : Parts s stands
  kept : Kept f own s

fine_field : (p : Standing) (k : Kind) (ts us : List Node) → FieldsSet (slots_of k) ts us → (is_part_kind k ≡ true → is_part p ≡ true) → (i : ℕ) (s : Slot) (c d : Node) → slice_get (slots_of k) i ≡ Some s → slice_get ts i ≡ Some c → slice_get us i ≡ Some d → Sets s c d
    → Fine (place_in (T p) (Node-F.Tree k ts) i) (place_in (T p) (Node-F.Tree k us) i) s (is_for_body (Node-F.Tree k ts) i) (own_name_below k ts i)
fine_field p k ts us x parts i s c d z e f y =
    let (g, at, slot_is) = slot_field (fields_of k) i s z in
    let role_is : field_role k i ≡ g.2 = ap (λ o. unwrap_or (option_map (λ f. f.2) o) role.Plain) at in
    let fine : (not (is_head s) || is_reference_role g.2) ≡ true = subst (λ s. (not (is_head s) || is_reference_role g.2) ≡ true) slot_is (fine_at (fields_of k) i g (heads_fine k) at) in
    let alike : standing_below (T p) k us i (field_role k i) ≡ standing_below (T p) k ts i (field_role k i)
    = ap (standing_below (T p) k us i) role_is ∙ stands_alike p k ts us (keyword_set x) (there_set x 2) g.2 i s c d e f y fine ∙ ap (standing_below (T p) k ts i) (sym role_is) in
    record {
      stands = standing_below (T p) k ts i (field_role k i);
      was = refl;
      is = ap sort alike;
      head = λ h. ap (standing_below (T p) k ts i) (role_is ∙ reference_role g.2 (implied (is_head s) (is_reference_role g.2) fine h));
      part = λ h. subst (λ r. is_part (standing_below (T p) k ts i r) ≡ true) (sym role_is)
          (part_by p false k ts us i g.2 g.1 (field_part k i g at) (subst (λ s. has_parts s ≡ true) (sym slot_is) h) parts);
      kept = λ h. (no_body k i s z h, no_own k ts i s z h);
    }

pub own_part : (k : Kind) (ts : List Node) (s : Slot) (p : Standing) → Stands k ts s → Parts s p → is_part_kind k ≡ true → is_part p ≡ true
own_part k ts s p w parts e = parts (ap parts_in (single_content s (content.Node w.in_class) w.place) ∙ part_belongs k w.in_class e w.belonging)

-- ---- a pair

pair_meets : (p : Standing) (r : Range) (u : Node) → M (T p) (Tree kind.ParenExpr (Span r ∷ u ∷ [])) false None ≡ M (T standing.Reference) u false None
pair_meets p r u =
    out_is (T p) (Tree kind.ParenExpr (Span r ∷ u ∷ [])) _ false None (outs-Tree kind.ParenExpr (Span r ∷ u ∷ []))
    ∙ ap (λ a. both nothing (both a (both (M (T standing.Reference) u false None) nothing))) (span_nothing (T standing.Plain) r false None) ∙ both_nothing (M (T standing.Reference) u false None)

-- what gets a pair is a tree, and an expression
pair_around : (t : Node) (y : Node-F Node) → out-Node t ≡ y → IsTrue (pairable t) → Fits t (slot.One (content.Node class.Expr)) → (p : Standing) → is_part p ≡ true → M (T standing.Reference) t ≡ M (T p) t
pair_around t (Node-F.Tree k ts) o h f p part =
    let same = tree_is t k ts o in
    subst (λ t. M (T standing.Reference) t ≡ M (T p) t) (sym same)
    (tree_alike standing.Reference p refl (part_no_default p false part) k ts (tree_opens k ts class.Expr (subst (λ t. Fits t (slot.One (content.Node class.Expr))) same f)).1)
pair_around t Node-F.Absent o h f p part = let z = subst (λ y. IsTrue (pairable_in y)) o h in absurd (cc)
pair_around t (Node-F.Flag x) o h f p part = let z = subst (λ y. IsTrue (pairable_in y)) o h in absurd (cc)
pair_around t (Node-F.Word x) o h f p part = let z = subst (λ y. IsTrue (pairable_in y)) o h in absurd (cc)
pair_around t (Node-F.Text x) o h f p part = let z = subst (λ y. IsTrue (pairable_in y)) o h in absurd (cc)
pair_around t (Node-F.Span x) o h f p part = let z = subst (λ y. IsTrue (pairable_in y)) o h in absurd (cc)
pair_around t (Node-F.List x) o h f p part = let z = subst (λ y. IsTrue (pairable_in y)) o h in absurd (cc)
pair_around t (Node-F.Identifier k x) o h f p part = let z = subst (λ y. IsTrue (pairable_in y)) o h in absurd (cc)

-- ---- a tree with more pairs

chosen : (b : Bool) (x y : Met) → x ≡ y → cond b x nothing ≡ cond b y nothing
chosen b x y e = ap (λ (m : Met). cond b m nothing) e

-- a tree whose fields meet alike
tree_by : (k : Kind) (ts us : List Node) → FieldsSet (slots_of k) ts us → (p : Standing) (f : Bool) (own : Option Ident)
    → ((g : ℕ → Bool) → fields_where g (with_own (λ i. is_for_body (Node-F.Tree k us) i) (λ i. own_name_below k us i)) (kids (T p) k us) ≡ fields_where g (with_own (λ i. is_for_body (Node-F.Tree k ts) i) (λ i. own_name_below k ts i)) (kids (T p) k ts))
    → tree_met (T p) k us (kids (T p) k us) f own ≡ tree_met (T p) k ts (kids (T p) k ts) f own
tree_by k ts us x p f own part =
    let same_own : has_own_name us ≡ has_own_name ts = there_set x 0 in
    ap (λ b. both (fields_where (λ i. is_outside (T p) k b i) (with_own (λ i. is_for_body (Node-F.Tree k us) i) (λ i. own_name_below k us i)) (kids (T p) k us))
    (in_scope (body_kind f (own_kind (T p) k (has_own_name us))) own (fields_where (λ i. not (is_outside (T p) k b i)) (with_own (λ i. is_for_body (Node-F.Tree k us) i) (λ i. own_name_below k us i)) (kids (T p) k us)))) (identifier_first k ts us x)
    ∙ ap (λ (m : Met). both m (in_scope (body_kind f (own_kind (T p) k (has_own_name us))) own (fields_where (λ i. not (is_outside (T p) k (has_identifier ts) i)) (with_own (λ i. is_for_body (Node-F.Tree k us) i) (λ i. own_name_below k us i)) (kids (T p) k us))))
    (part (λ i. is_outside (T p) k (has_identifier ts) i))
    ∙ ap (λ (m : Met). both (outs (T p) k ts) (in_scope (body_kind f (own_kind (T p) k (has_own_name us))) own m)) (part (λ i. not (is_outside (T p) k (has_identifier ts) i)))
    ∙ ap (λ b. both (outs (T p) k ts) (in_scope (body_kind f (own_kind (T p) k b)) own (ins (T p) k ts))) same_own

mutual
  -- pairs change nothing of what meets in it
  keeps : {s : Slot} {t u : Node} → Sets s t u → Fits t s → (p : Standing) (f : Bool) (own : Option Ident) → Heads s p → Parts s p → Kept f own s → M (T p) u f own ≡ M (T p) t f own
  keeps (same t) fit p f own h parts kept = refl
  keeps (after x y) fit p f own h parts kept = keeps y (fits_kept x fit) p f own h parts kept ∙ keeps x fit p f own h parts kept
  keeps {s = s} (around r t u a b x) fit p f own h parts kept =
      let expression = expression_fits t s b fit in
      plainly (M (T p) (Tree kind.ParenExpr (Span r ∷ u ∷ []))) (M (T p) t) f own (kept (pair_pairs s a))
      (pair_meets p r u ∙ keeps x expression standing.Reference false None (λ e. refl) (λ e. refl) (λ e. (refl, refl))
      ∙ ap (λ (m : Meeting). m false None) (pair_around t (out-Node t) refl b expression p (parts (pair_parts s a))))
  keeps (named r k i z) fit p f own h parts kept =
      plainly (M (T p) (Tree kind.ParenExpr (Span r ∷ Identifier kind.Ident i ∷ []))) (M (T p) (Identifier k i)) f own (kept refl)
      (pair_meets p r (Identifier kind.Ident i) ∙ of_identifier (T standing.Reference) kind.Ident i false None ∙ ap (λ p. name_met p i) (sym (h refl)) ∙ sym (of_identifier (T p) k i false None))
  keeps {s = s} (items ts us x) fit p f own h parts kept =
      out_is (T p) (Many us) (Node-F.List us) f own (outs-List us)
      ∙ each_keeps x (items_open s ts (sym (fits-List ts s) ∙ fit)) p (λ e. h (item_head s e)) (λ e. parts (item_parts s e)) ∙ sym (out_is (T p) (Many ts) (Node-F.List ts) f own (outs-List ts))
  keeps {s = s} (tree k ts us e x) fit p f own h parts kept =
      let w = stands k ts s fit in
      out_is (T p) (Tree k us) (Node-F.Tree k us) f own (outs-Tree k us)
      ∙ tree_by k ts us x p f own
      (λ g. fields_keep x w.fields g (λ i. is_for_body (Node-F.Tree k ts) i) (λ i. own_name_below k us i) (λ i. own_name_below k ts i) (own_set k ts us x) (place_in (T p) (Node-F.Tree k ts)) (place_in (T p) (Node-F.Tree k us)) (fine_field p k ts us x (own_part k ts s p w parts)))
      ∙ sym (out_is (T p) (Tree k ts) (Node-F.Tree k ts) f own (outs-Tree k ts))

  each_keeps : {s : Slot} {ts us : List Node} → AllSet s ts us → AllFit s ts → (p : Standing) → Heads s p → Parts s p
      → items_met (each_in M (λ i. T (part_standing p (slice_get us i))) us) ≡ items_met (each_in M (λ i. T (part_standing p (slice_get ts i))) ts)
  each_keeps none fit p h parts = refl
  each_keeps (more {t = t} {u = u} {ts = ts} {us = us} x d) fit p h parts =
      ap (λ q. both (M (T q) u false None) (items_met (each_in M (λ i. T (part_standing p (slice_get us i))) us))) (part_same p x h)
      ∙ ap (λ (m : Met). both m (items_met (each_in M (λ i. T (part_standing p (slice_get us i))) us)))
      (keeps x fit.0 (part_standing p (Some t)) false None (λ e. still_head p (Some t) (h e)) (λ e. part_part p (Some t) (parts e)) (λ e. (refl, refl)))
      ∙ ap (both (M (T (part_standing p (Some t))) t false None)) (each_keeps d fit.1 p h parts)

  fields_keep : {ss : List Slot} {ts us : List Node} → FieldsSet ss ts us → FieldsFit ss ts → (g b : ℕ → Bool) (o r : ℕ → Option Ident) → ((i : ℕ) → o i ≡ r i) → (ps qs : ℕ → Place)
      → ((i : ℕ) (s : Slot) (c d : Node) → slice_get ss i ≡ Some s → slice_get ts i ≡ Some c → slice_get us i ≡ Some d → Sets s c d → Fine (ps i) (qs i) s (b i) (r i))
      → fields_where g (with_own b o) (each_in M qs us) ≡ fields_where g (with_own b r) (each_in M ps ts)
  fields_keep nil fit g b o r e ps qs fine = refl
  fields_keep (field {s = s} {t = t} {u = u} {ts = ts} {us = us} x d) fit g b o r e ps qs fine =
      let w = fine zero s t u refl refl refl x in
      let first : M (qs zero) u (b zero) (o zero) ≡ M (ps zero) t (b zero) (r zero)
      = ap (M (qs zero) u (b zero)) (e zero) ∙ ap (λ (m : Meeting). m (b zero) (r zero)) (placed u (qs zero) (T w.stands) w.is)
      ∙ keeps x fit.0 w.stands (b zero) (r zero) w.head w.part w.kept ∙ ap (λ (m : Meeting). m (b zero) (r zero)) (sym (placed t (ps zero) (T w.stands) w.was)) in
      ap (λ (m : Met). both m (fields_where (λ i. g (suc i)) (λ i. with_own b o (suc i)) (each_in M (λ i. qs (suc i)) us))) (chosen (g zero) (M (qs zero) u (b zero) (o zero)) (M (ps zero) t (b zero) (r zero)) first)
      ∙ ap (both (cond (g zero) (M (ps zero) t (b zero) (r zero)) nothing))
      (fields_keep d fit.1 (λ i. g (suc i)) (λ i. b (suc i)) (λ i. o (suc i)) (λ i. r (suc i)) (λ i. e (suc i)) (λ i. ps (suc i)) (λ i. qs (suc i)) (λ i. fine (suc i)))

-- the place of a program holds no head of a `for`
no_head : (goal : Slot) → IsTrue (is_goal goal) → is_head goal ≡ true → ⊥
no_head (slot.One (content.Node class.Module)) h e = absurd (cc)
no_head (slot.One (content.Node class.Script)) h e = absurd (cc)
no_head _ h e = absurd (cc)

-- nor parts of patterns and expressions
pub no_parts : (goal : Slot) → IsTrue (is_goal goal) → has_parts goal ≡ true → ⊥
no_parts (slot.One (content.Node class.Module)) h e = absurd (cc)
no_parts (slot.One (content.Node class.Script)) h e = absurd (cc)
no_parts _ h e = absurd (cc)

pub due_pairs_keep_meetings : DuePairsKeepMeetings
due_pairs_keep_meetings place goal t is fit =
    ap (λ (m : Meeting). m false None) (placed (with_due_pairs place t) program_place (T standing.Plain) refl)
    ∙ keeps (due_set place t goal fit) fit standing.Plain false None (λ e. absurd (no_head goal is e)) (λ e. absurd (no_parts goal is e)) (λ e. (refl, refl))
    ∙ ap (λ (m : Meeting). m false None) (sym (placed t program_place (T standing.Plain) refl))
