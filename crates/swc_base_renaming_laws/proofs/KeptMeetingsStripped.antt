-- In a program that is stripped no more ids meet.
use Rattle.std.proofs.Common.{◌≡◌, ℕ, zero, suc, Bool, true, false, not, ◌||◌, IsTrue, Option, Some, None, List, [], ◌∷◌, map, refl, sym, ap, ◌∙◌, subst, cond, rules}
use Rattle.std.specs.List.{filter, flat_map, list_all, slice_get}
use Rattle.std.specs.Prelude.{option_map, unwrap_or}
use Rattle.std.proofs.lemmas.Option.{slice_get-map}
use Rattle.swc_tree_marks.specs.declared.ident.Ident.{Ident}
use Rattle.swc_tree_node.specs.declared.kind.Kind.{Kind}
use Rattle.swc_tree_node.specs.declared.kind.Kind.TheVariants as kind
use Rattle.swc_tree_node.specs.declared.kind.Class.TheVariants as class
use Rattle.swc_tree_node.specs.declared.slot.Content.TheVariants as content
use Rattle.swc_tree_node.specs.declared.slot.Role.TheVariants as role
use Rattle.swc_tree_node.specs.declared.slot.Slot.{Slot}
use Rattle.swc_tree_node.specs.declared.slot.Slot.TheVariants as slot
use Rattle.swc_tree_node.specs.declared.node.Node.{Node, Absent, Flag, Word, Text, Span, List as Many, Identifier, Tree, out-Node, the_lemmas}
use Rattle.swc_tree_node.specs.declared.node.Node.TheOpen.{Node-F}
use Rattle.swc_tree_node.specs.declared.node.Node.TheVariants.{outs-List, outs-Tree, outs-Identifier}
use Rattle.swc_tree_node.specs.Table.{fields_of, slots_of}
use Rattle.swc_tree_node.specs.Fits.{AllFit, FieldsFit, Fits, belongs}
use Rattle.swc_tree_node.proofs.Fit.{both as both_are, fits-List}
use Rattle.swc_tree_scoping.specs.declared.places.Standing.{Standing}
use Rattle.swc_tree_scoping.specs.declared.places.Standing.TheVariants as standing
use Rattle.swc_tree_scoping.specs.declared.places.Place.{Place}
use Rattle.swc_tree_scoping.specs.Places.{by_keyword, field_role, has_own_name, is_there, part_standing, place_in, program_place, standing_below}
use Rattle.swc_tree_scoping.specs.Folds.{each_in}
use Rattle.swc_tree_grammar.specs.Shapes.{items_of}
use Rattle.swc_tree_grammar.specs.Stripped.{is_member, parts, sequence, settled, stripped, target, target_in}
use Rattle.swc_tree_grammar.specs.Targets.{all_bare}
use Rattle.swc_tree_grammar.proofs.Induction.{Each, by_children}
use Rattle.swc_tree_grammar.proofs.Items.{expr, items_of_list, listed}
use Rattle.swc_tree_grammar.proofs.Kept.{stripped_fits}
use Rattle.swc_tree_grammar.proofs.Places.{Stands, stands}
use Rattle.swc_tree_grammar.proofs.Stripped.{is_other, stripped_of_list, stripped_of_tree, stripped_other}
use Rattle.swc_tree_grammar.proofs.Walks.{bare_of_list}
use Rattle.swc_tree_scoping.proofs.Remarked.{identifier_is}
use Rattle.swc_tree_sites.proofs.Leaves.{Field}
use Rattle.swc_tree_sites_laws.proofs.Expressions.{is_part}
use Rattle.swc_tree_sites_laws.proofs.Parts.{Answers, answer_by, field_pair, field_part, has_pairs, has_parts, is_part_kind, pairs_in, part_answers, part_by, part_part, same_answers, single_content}
use Rattle.swc_tree_sites_laws.proofs.Stripping.{is_pair, is_pair_kind, pair_in}
use Rattle.swc_base_fixer_laws.specs.Sets.{item}
use Rattle.swc_base_fixer_laws.proofs.SetsRows.{items_open}
use Rattle.swc_base_rename_analysis.specs.Analysis.{body_kind, has_identifier, is_for_body, is_outside, own_kind}
use Rattle.swc_base_rename_analysis.specs.Walk.{own_name_below}
use Rattle.swc_base_renaming_laws.specs.Meetings.{Meeting, Met, both, fields_where, in_scope, items_met, met, nothing, tree_met}
use Rattle.swc_base_renaming_laws.proofs.Meets.{M, ins, kids, out_is, outs}
use Rattle.swc_base_renaming_laws.proofs.Placed.{placed, sort}
use Rattle.swc_base_renaming_laws.proofs.Within.{Within, both_within, in_scope_within, left_within, pairs_within, right_within, within_is, within_same, within_through}
use Rattle.swc_base_renaming_laws.specs.KeptMeetings.{StrippingAddsNoPairs}
use Rattle.swc_base_renaming_laws.proofs.Bodies.{Kept, no_body, no_own, with_own}
use Rattle.swc_base_renaming_laws.proofs.Expressions.{T, alike, of_identifier}
use Rattle.swc_base_renaming_laws.proofs.Lists.{E, EachIn, Q, X, all_at, all_in, each_all, each_filter, each_through, list_expr, of_list, of_sequence, settled_in}
use Rattle.swc_base_renaming_laws.proofs.KeptMeetingsPairs.{item_parts, no_parts, own_part}
use Rattle.swc_base_renaming_laws.proofs.StrippedLooks.{Bares, bare_below, identifier_kept, keyword_kept, own_expression, own_kept, there_kept}

abbrev Claim : Node → Type 0
Claim t = (p q : Standing) (s : Slot) (f : Bool) (own : Option Ident) → Fits t s → IsTrue (all_bare t) → (has_parts s ≡ true → is_part p ≡ true) → Answers (is_pair t) p q (Some (stripped t)) → Kept f own s
    → Within (M (T q) (stripped t) f own) (M (T p) t f own)

-- what stands alone
leaf_claim : (t : Node) → stripped t ≡ t → is_pair t ≡ false → Claim t
leaf_claim t same none p q s f own fit b parts answers kept =
    let is : q ≡ p = subst (λ b. Answers b p q (Some (stripped t))) none answers in
    within_is (M (T q) (stripped t) f own) (M (T p) t f own) (ap (λ q. M (T q) (stripped t) f own) is ∙ ap (λ t. M (T p) t f own) same)

-- the items of a list
items_claim : (p : Standing) (s : Slot) (ts : List Node) → Each Claim ts → Bares ts → AllFit s ts → (has_parts s ≡ true → is_part p ≡ true)
    → Within (items_met (each_in M (λ i. T (part_standing p (slice_get (map stripped ts) i))) (map stripped ts))) (items_met (each_in M (λ i. T (part_standing p (slice_get ts i))) ts))
items_claim p s [] h b f parts = within_same nothing
items_claim p s (t ∷ ts) h b f parts =
    let z = both_are (all_bare t) (list_all all_bare ts) b in
    both_within (M (T (part_standing p (Some (stripped t)))) (stripped t) false None) (M (T (part_standing p (Some t))) t false None)
    (items_met (each_in M (λ i. T (part_standing p (slice_get (map stripped ts) i))) (map stripped ts))) (items_met (each_in M (λ i. T (part_standing p (slice_get ts i))) ts))
    (h.0 (part_standing p (Some t)) (part_standing p (Some (stripped t))) s false None f.0 z.0 (λ e. part_part p (Some t) (parts e)) (part_answers p t) (λ e. (refl, refl)))
    (items_claim p s ts h.1 z.1 f.1 parts)

list_claim : (ts : List Node) → Each Claim ts → Claim (Many ts)
list_claim ts h p q s f own fit b parts answers kept =
    let is : q ≡ p = subst (λ b. Answers b p q (Some (stripped (Many ts)))) (ap pair_in (outs-List ts)) answers in
    subst (λ (a : Met). Within a (M (T p) (Many ts) f own))
    (sym (ap (λ q. M (T q) (stripped (Many ts)) f own) is ∙ ap (λ t. M (T p) t f own) (stripped_of_list ts) ∙ out_is (T p) (Many (map stripped ts)) (Node-F.List (map stripped ts)) f own (outs-List (map stripped ts))))
    (subst (Within (items_met (each_in M (λ i. T (part_standing p (slice_get (map stripped ts) i))) (map stripped ts)))) (sym (out_is (T p) (Many ts) (Node-F.List ts) f own (outs-List ts)))
    (items_claim p (item s) ts h (sym (bare_of_list ts) ∙ b) (items_open s ts (sym (fits-List ts s) ∙ fit)) (λ e. parts (item_parts s e))))

-- ---- the fields of a node, each as it stands before and after

record Meets (v u : Place) (s : Slot) (c : Node) (f : Bool) (own : Option Ident) : Type 0 where
  before : Standing
  after : Standing
  was : sort v.standing ≡ sort before
  is : sort u.standing ≡ sort after
  parts : has_parts s ≡ true → is_part before ≡ true
  answers : Answers (is_pair c) before after (Some (stripped c))
  kept : Kept f own s

chosen : (b : Bool) (x y : Met) → Within x y → Within (cond b x nothing) (cond b y nothing)
chosen true x y h = h
chosen false x y h = within_same nothing

fields_claim : (fs : List Field) (ts : List Node) (g b : ℕ → Bool) (o r : ℕ → Option Ident) (ps qs : ℕ → Place) → ((i : ℕ) → o i ≡ r i) → Each Claim ts → Bares ts → FieldsFit (map (λ f. f.1) fs) ts
    → ((i : ℕ) (f : Field) (c : Node) → slice_get fs i ≡ Some f → slice_get ts i ≡ Some c → Fits c f.1 → Meets (ps i) (qs i) f.1 c (b i) (r i))
    → Within (fields_where g (with_own b o) (each_in M qs (map stripped ts))) (fields_where g (with_own b r) (each_in M ps ts))
fields_claim [] [] g b o r ps qs e h z f m = within_same nothing
fields_claim [] (t ∷ ts) g b o r ps qs e h z f m = absurd f
fields_claim (x ∷ fs) [] g b o r ps qs e h z f m = absurd f
fields_claim (x ∷ fs) (t ∷ ts) g b o r ps qs e h z f m =
    let y = both_are (all_bare t) (list_all all_bare ts) z in
    let w = m zero x t refl refl f.0 in
    let after : M (qs zero) (stripped t) (b zero) (o zero) ≡ M (T w.after) (stripped t) (b zero) (r zero)
    = ap (M (qs zero) (stripped t) (b zero)) (e zero) ∙ ap (λ (n : Meeting). n (b zero) (r zero)) (placed (stripped t) (qs zero) (T w.after) w.is) in
    let before : M (ps zero) t (b zero) (r zero) ≡ M (T w.before) t (b zero) (r zero) = ap (λ (n : Meeting). n (b zero) (r zero)) (placed t (ps zero) (T w.before) w.was) in
    let first : Within (M (qs zero) (stripped t) (b zero) (o zero)) (M (ps zero) t (b zero) (r zero))
    = subst (λ (a : Met). Within a (M (ps zero) t (b zero) (r zero))) (sym after)
    (subst (Within (M (T w.after) (stripped t) (b zero) (r zero))) (sym before) (h.0 w.before w.after x.1 (b zero) (r zero) f.0 y.0 w.parts w.answers w.kept)) in
    both_within (cond (g zero) (M (qs zero) (stripped t) (b zero) (o zero)) nothing) (cond (g zero) (M (ps zero) t (b zero) (r zero)) nothing)
    (fields_where (λ i. g (suc i)) (λ i. with_own b o (suc i)) (each_in M (λ i. qs (suc i)) (map stripped ts))) (fields_where (λ i. g (suc i)) (λ i. with_own b r (suc i)) (each_in M (λ i. ps (suc i)) ts))
    (chosen (g zero) (M (qs zero) (stripped t) (b zero) (o zero)) (M (ps zero) t (b zero) (r zero)) first)
    (fields_claim fs ts (λ i. g (suc i)) (λ i. b (suc i)) (λ i. o (suc i)) (λ i. r (suc i)) (λ i. ps (suc i)) (λ i. qs (suc i)) (λ i. e (suc i)) h.1 y.1 f.1 (λ i. m (suc i)))

mapped_at : (ts : List Node) (i : ℕ) (c : Node) → slice_get ts i ≡ Some c → slice_get (map stripped ts) i ≡ Some (stripped c)
mapped_at ts i c e = slice_get-map stripped ts i ∙ ap (option_map stripped) e

slot_at : (fs : List Field) (i : ℕ) (f : Field) → slice_get fs i ≡ Some f → slice_get (map (λ f. f.1) fs) i ≡ Some f.1
slot_at fs i f e = slice_get-map (λ (f : Field). f.1) fs i ∙ ap (option_map (λ (f : Field). f.1)) e

-- a node whose fields are stripped
module _ (k : Kind) (ts : List Node) (p : Standing) (h : Each Claim ts) (b : Bares ts) (f : FieldsFit (slots_of k) ts) (own : is_part_kind k ≡ true → is_part p ≡ true) where
  abbrev us : List Node
  us = map stripped ts

  meets : (i : ℕ) (x : Field) (c : Node) → slice_get (fields_of k) i ≡ Some x → slice_get ts i ≡ Some c → Fits c x.1
      → Meets (place_in (T p) (Node-F.Tree k ts) i) (place_in (T p) (Node-F.Tree k us) i) x.1 c (is_for_body (Node-F.Tree k ts) i) (own_name_below k ts i)
  meets i x c e g fit =
      let role_is : field_role k i ≡ x.2 = ap (λ o. unwrap_or (option_map (λ f. f.2) o) role.Plain) e in
      let keyword : by_keyword us ≡ by_keyword ts = keyword_kept (fields_of k) ts b f in
      let source : is_there (slice_get us 2) ≡ is_there (slice_get ts 2) = there_kept (fields_of k) ts 2 b f in
      let at = slot_at (fields_of k) i x e in
      record {
        before = standing_below (T p) k ts i (field_role k i);
        after = standing_below (T p) k us i (field_role k i);
        was = refl;
        is = refl;
        parts = λ z. subst (λ r. is_part (standing_below (T p) k ts i r) ≡ true) (sym role_is) (part_by p false k ts us i x.2 x.1 (field_part k i x e) z own);
        answers = subst (λ r. Answers (is_pair c) (standing_below (T p) k ts i r) (standing_below (T p) k us i r) (Some (stripped c))) (sym role_is)
            (answer_by p false k ts us keyword source i x.2 x.1 c (field_pair k i x e) fit g (mapped_at ts i c g));
        kept = λ z. (no_body k i x.1 at z, no_own k ts i x.1 at z);
      }

  part : (g : ℕ → Bool) → Within (fields_where g (with_own (λ i. is_for_body (Node-F.Tree k us) i) (λ i. own_name_below k us i)) (kids (T p) k us)) (fields_where g (with_own (λ i. is_for_body (Node-F.Tree k ts) i) (λ i. own_name_below k ts i)) (kids (T p) k ts))
  part g = fields_claim (fields_of k) ts g (λ i. is_for_body (Node-F.Tree k ts) i) (λ i. own_name_below k us i) (λ i. own_name_below k ts i) (place_in (T p) (Node-F.Tree k ts)) (place_in (T p) (Node-F.Tree k us)) (own_kept k ts f b) h b f meets

  outs_less : Within (outs (T p) k us) (outs (T p) k ts)
  outs_less = subst (λ n. Within (outs (T p) k us) (fields_where (λ i. is_outside (T p) k n i) (with_own (λ i. is_for_body (Node-F.Tree k ts) i) (λ i. own_name_below k ts i)) (kids (T p) k ts))) (identifier_kept k ts f) (part (λ i. is_outside (T p) k (has_identifier us) i))

  ins_less : Within (ins (T p) k us) (ins (T p) k ts)
  ins_less = subst (λ n. Within (ins (T p) k us) (fields_where (λ i. not (is_outside (T p) k n i)) (with_own (λ i. is_for_body (Node-F.Tree k ts) i) (λ i. own_name_below k ts i)) (kids (T p) k ts))) (identifier_kept k ts f) (part (λ i. not (is_outside (T p) k (has_identifier us) i)))

  fields_less : (x : Bool) (o : Option Ident) → Within (M (T p) (Tree k us) x o) (M (T p) (Tree k ts) x o)
  fields_less x o =
      let same : has_own_name us ≡ has_own_name ts = there_kept (fields_of k) ts 0 b f in
      subst (λ (m : Met). Within m (M (T p) (Tree k ts) x o)) (sym (out_is (T p) (Tree k us) (Node-F.Tree k us) x o (outs-Tree k us)))
      (subst (Within (tree_met (T p) k us (kids (T p) k us) x o)) (sym (out_is (T p) (Tree k ts) (Node-F.Tree k ts) x o (outs-Tree k ts)))
      (both_within (outs (T p) k us) (outs (T p) k ts) (in_scope (body_kind x (own_kind (T p) k (has_own_name us))) o (ins (T p) k us)) (in_scope (body_kind x (own_kind (T p) k (has_own_name ts))) o (ins (T p) k ts)) outs_less
      (subst (λ n. Within (in_scope (body_kind x (own_kind (T p) k (has_own_name us))) o (ins (T p) k us)) (in_scope (body_kind x (own_kind (T p) k n)) o (ins (T p) k ts))) same
      (in_scope_within (body_kind x (own_kind (T p) k (has_own_name us))) o (ins (T p) k us) (ins (T p) k ts) ins_less))))

-- a node that is no pair meets what it meets with its fields stripped, or less
firm_claim : (k : Kind) (ts : List Node) → is_pair_kind k ≡ false → Each Claim ts
    → ((p : Standing) (s : Slot) (f : Bool) (own : Option Ident) → Fits (Tree k ts) s → IsTrue (all_bare (Tree k ts)) → Within (M (T p) (stripped (Tree k ts)) f own) (M (T p) (Tree k (map stripped ts)) f own)) → Claim (Tree k ts)
firm_claim k ts none h within p q s f own fit b parts answers kept =
    let is : q ≡ p = subst (λ b. Answers b p q (Some (stripped (Tree k ts)))) (ap pair_in (outs-Tree k ts) ∙ none) answers in
    let w = stands k ts s fit in
    subst (λ q. Within (M (T q) (stripped (Tree k ts)) f own) (M (T p) (Tree k ts) f own)) (sym is)
    (within_through (M (T p) (stripped (Tree k ts)) f own) (M (T p) (Tree k (map stripped ts)) f own) (M (T p) (Tree k ts) f own) (within p s f own fit b)
    (fields_less k ts p h (bare_below k ts b) w.fields (own_part k ts s p w parts) f own))

other_claim : (k : Kind) (ts : List Node) → is_pair_kind k ≡ false → IsTrue (is_other k) → Each Claim ts → Claim (Tree k ts)
other_claim k ts none other h = firm_claim k ts none h (λ p s f own fit b. within_is (M (T p) (stripped (Tree k ts)) f own) (M (T p) (Tree k (map stripped ts)) f own) (ap (λ t. M (T p) t f own) (stripped_other k ts other)))

-- ---- pairs and sequences

pair_belongs : (k : Kind) → is_pair_kind k ≡ true → (c : _) → IsTrue (belongs k c) → (belongs kind.ParenExpr c || belongs kind.SeqExpr c) ≡ true
pair_belongs kind.ParenExpr e c h = grind rules
pair_belongs kind.SeqExpr e c h = grind rules
pair_belongs _ e c h = absurd (cc)

takes_pairs : (k : Kind) (ts : List Node) (s : Slot) → is_pair_kind k ≡ true → Stands k ts s → has_pairs s ≡ true
takes_pairs k ts s e w = ap pairs_in (single_content s (content.Node w.in_class) w.place) ∙ pair_belongs k e w.in_class w.belonging

plain_within : (a b : Meeting) (f : Bool) (own : Option Ident) → (f ≡ false) × (own ≡ None) → Within (a false None) (b false None) → Within (a f own) (b f own)
plain_within a b f own h w = subst (λ f. Within (a f own) (b f own)) (sym h.0) (subst (λ own. Within (a false own) (b false own)) (sym h.1) w)

-- what a pair or a sequence leaves meets as an expression
left_alike : (k : Kind) (ts : List Node) (p q : Standing) (s : Slot) → is_pair_kind k ≡ true → Fits (Tree k ts) s → IsTrue (all_bare (Tree k ts)) → (has_parts s ≡ true → is_part p ≡ true) → Answers (is_pair (Tree k ts)) p q (Some (stripped (Tree k ts)))
    → M (T q) (stripped (Tree k ts)) ≡ M E (stripped (Tree k ts))
left_alike k ts p q s e fit b parts answers =
    let w = stands k ts s fit in
    let is : q ≡ part_standing p (Some (stripped (Tree k ts))) = subst (λ b. Answers b p q (Some (stripped (Tree k ts)))) (ap pair_in (outs-Tree k ts) ∙ e) answers in
    ap (λ q. M (T q) (stripped (Tree k ts))) is ∙ alike (stripped (Tree k ts)) p (stripped_fits (Tree k ts) expr b refl (own_expression k ts s e fit)) (own_part k ts s p w parts (is_part_pair k e))
  where
    is_part_pair : (k : Kind) → is_pair_kind k ≡ true → is_part_kind k ≡ true
    is_part_pair kind.ParenExpr e = refl
    is_part_pair kind.SeqExpr e = refl
    is_part_pair _ e = absurd (cc)

of_pair : (p : Standing) (a e : Node) → M (T p) (Tree kind.ParenExpr (a ∷ e ∷ [])) false None ≡ both (M Q a false None) (both (X e) nothing)
of_pair p a e = out_is (T p) (Tree kind.ParenExpr (a ∷ e ∷ [])) (Node-F.Tree kind.ParenExpr (a ∷ e ∷ [])) false None (outs-Tree kind.ParenExpr (a ∷ e ∷ []))

second_has : (a m : Met) → Within m (both a (both m nothing))
second_has a m = right_within m a (both m nothing) (left_within m m nothing (within_same m))

pair_claim : (ts : List Node) → Each Claim ts → Claim (Tree kind.ParenExpr ts)
pair_claim [] h p q s f own fit b parts answers kept = absurd (stands kind.ParenExpr [] s fit).fields
pair_claim (a ∷ []) h p q s f own fit b parts answers kept = absurd ((stands kind.ParenExpr (a ∷ []) s fit).fields.1)
pair_claim (a ∷ c ∷ d ∷ ts) h p q s f own fit b parts answers kept = absurd ((stands kind.ParenExpr (a ∷ c ∷ d ∷ ts) s fit).fields.1.1)
pair_claim (a ∷ e ∷ []) h p q s f own fit b parts answers kept =
    let whole : Node = Tree kind.ParenExpr (a ∷ e ∷ []) in
    let w = stands kind.ParenExpr (a ∷ e ∷ []) s fit in
    let z = both_are (all_bare a) (list_all all_bare (e ∷ [])) (bare_below kind.ParenExpr (a ∷ e ∷ []) b) in
    let y = both_are (all_bare e) true z.1 in
    let after : M (T q) (stripped whole) false None ≡ X (stripped e) = ap (λ (m : Meeting). m false None) (left_alike kind.ParenExpr (a ∷ e ∷ []) p q s refl fit b parts answers) ∙ ap X (stripped_of_tree kind.ParenExpr (a ∷ e ∷ [])) in
    let inner = h.1.0 standing.Reference standing.Reference expr false None w.fields.1.0 y.0 (λ z. refl) (same_answers standing.Reference e refl) (λ z. (refl, refl)) in
    plain_within (M (T q) (stripped whole)) (M (T p) whole) f own (kept (takes_pairs kind.ParenExpr (a ∷ e ∷ []) s refl w))
    (subst (λ (m : Met). Within m (M (T p) whole false None)) (sym after)
    (subst (Within (X (stripped e))) (sym (of_pair p a e)) (within_through (X (stripped e)) (X e) (both (M Q a false None) (both (X e) nothing)) inner (second_has (M Q a false None) (X e)))))

sequence_claim : (ts : List Node) → Each Claim ts → Claim (Tree kind.SeqExpr ts)
sequence_claim [] h p q s f own fit b parts answers kept = absurd (stands kind.SeqExpr [] s fit).fields
sequence_claim (a ∷ []) h p q s f own fit b parts answers kept = absurd ((stands kind.SeqExpr (a ∷ []) s fit).fields.1)
sequence_claim (a ∷ c ∷ d ∷ ts) h p q s f own fit b ok answers kept = absurd ((stands kind.SeqExpr (a ∷ c ∷ d ∷ ts) s fit).fields.1.1)
sequence_claim (a ∷ e ∷ []) h p q s f own fit b ok answers kept =
    let whole : Node = Tree kind.SeqExpr (a ∷ e ∷ []) in
    let w = stands kind.SeqExpr (a ∷ e ∷ []) s fit in
    let z = both_are (all_bare a) (list_all all_bare (e ∷ [])) (bare_below kind.SeqExpr (a ∷ e ∷ []) b) in
    let y = both_are (all_bare e) true z.1 in
    let l = listed (stripped e) (content.Node class.Expr) (stripped_fits e list_expr y.0 refl w.fields.1.0) in
    let items : items_of (stripped e) ≡ l.items = ap items_of l.is ∙ items_of_list l.items in
    let out : stripped whole ≡ sequence (stripped a) (settled (flat_map parts l.items)) = stripped_of_tree kind.SeqExpr (a ∷ e ∷ []) ∙ ap (λ ts. sequence (stripped a) (settled (flat_map parts ts))) items in
    let after : M (T q) (stripped whole) false None ≡ X (sequence (stripped a) (settled (flat_map parts l.items)))
    = ap (λ (m : Meeting). m false None) (left_alike kind.SeqExpr (a ∷ e ∷ []) p q s refl fit b ok answers) ∙ ap X out in
    let m : Met = both (M Q a false None) (both (X e) nothing) in
    let span : Within (M Q (stripped a) false None) m
    = within_through (M Q (stripped a) false None) (M Q a false None) m (h.0 standing.Plain standing.Plain (slot.One content.Span) false None w.fields.0 z.0 (λ z. absurd (cc)) (same_answers standing.Plain a refl) (λ z. (refl, refl)))
    (left_within (M Q a false None) (M Q a false None) (both (X e) nothing) (within_same (M Q a false None))) in
    let inner : Within (all_at E l.items) m
    = subst (λ (x : Met). Within x m) (ap X l.is ∙ of_list E l.items refl)
    (within_through (X (stripped e)) (X e) m (h.1.0 standing.Reference standing.Reference list_expr false None w.fields.1.0 y.0 (λ z. refl) (same_answers standing.Reference e refl) (λ z. (refl, refl))) (second_has (M Q a false None) (X e))) in
    plain_within (M (T q) (stripped whole)) (M (T p) whole) f own (kept (takes_pairs kind.SeqExpr (a ∷ e ∷ []) s refl w))
    (subst (λ (x : Met). Within x (M (T p) whole false None)) (sym after)
    (subst (Within (X (sequence (stripped a) (settled (flat_map parts l.items))))) (sym (of_sequence (T p) a e refl))
    (settled_in (stripped a) l.items m l.fit span (each_through_all l.items m inner))))
  where
    each_through_all : (ts : List Node) (m : Met) → Within (all_at E ts) m → EachIn E ts m
    each_through_all ts m h = each_through E ts (all_at E ts) m h (each_all E ts)

-- ---- targets and members

target_same : (u : Node) → X (target u) ≡ X u
target_same u = by (out-Node u) refl
  where
    by : (y : Node-F Node) → out-Node u ≡ y → X (target_in u y) ≡ X u
    by (Node-F.Identifier kind.Ident i) o = of_identifier E kind.BindingIdent i false None ∙ sym (of_identifier E kind.Ident i false None) ∙ ap X (sym (identifier_is u kind.Ident i o))
    by (Node-F.Identifier kind.BindingIdent i) o = refl
    by (Node-F.Identifier k i) o = refl
    by Node-F.Absent o = refl
    by (Node-F.Flag x) o = refl
    by (Node-F.Word x) o = refl
    by (Node-F.Text x) o = refl
    by (Node-F.Span x) o = refl
    by (Node-F.List x) o = refl
    by (Node-F.Tree k x) o = refl

assignment_claim : (ts : List Node) → Each Claim ts → Claim (Tree kind.AssignExpr ts)
assignment_claim (a ∷ o ∷ l ∷ r ∷ []) h = firm_claim kind.AssignExpr (a ∷ o ∷ l ∷ r ∷ []) refl h (λ p s f own fit b.
    within_is (M (T p) (stripped (Tree kind.AssignExpr (a ∷ o ∷ l ∷ r ∷ []))) f own) (M (T p) (Tree kind.AssignExpr (stripped a ∷ stripped o ∷ stripped l ∷ stripped r ∷ [])) f own)
    (ap (λ t. M (T p) t f own) (stripped_of_tree kind.AssignExpr (a ∷ o ∷ l ∷ r ∷ []))
    ∙ out_is (T p) (Tree kind.AssignExpr (stripped a ∷ stripped o ∷ target (stripped l) ∷ stripped r ∷ [])) _ f own (outs-Tree kind.AssignExpr (stripped a ∷ stripped o ∷ target (stripped l) ∷ stripped r ∷ []))
    ∙ ap (λ x. both nothing (in_scope (body_kind f None) own (both (M Q (stripped a) false None) (both (M Q (stripped o) false None) (both x (both (X (stripped r)) nothing)))))) (target_same (stripped l))
    ∙ sym (out_is (T p) (Tree kind.AssignExpr (stripped a ∷ stripped o ∷ stripped l ∷ stripped r ∷ [])) _ f own (outs-Tree kind.AssignExpr (stripped a ∷ stripped o ∷ stripped l ∷ stripped r ∷ [])))))
assignment_claim [] h = λ p q s f own fit b parts answers kept. absurd ((stands kind.AssignExpr [] s fit).fields)
assignment_claim (a ∷ []) h = λ p q s f own fit b parts answers kept. absurd ((stands kind.AssignExpr (a ∷ []) s fit).fields.1)
assignment_claim (a ∷ o ∷ []) h = λ p q s f own fit b parts answers kept. absurd ((stands kind.AssignExpr (a ∷ o ∷ []) s fit).fields.1.1)
assignment_claim (a ∷ o ∷ l ∷ []) h = λ p q s f own fit b parts answers kept. absurd ((stands kind.AssignExpr (a ∷ o ∷ l ∷ []) s fit).fields.1.1.1)
assignment_claim (a ∷ o ∷ l ∷ r ∷ e ∷ ts) h = λ p q s f own fit b parts answers kept. absurd ((stands kind.AssignExpr (a ∷ o ∷ l ∷ r ∷ e ∷ ts) s fit).fields.1.1.1.1)

members_within : (d : Node) → Fits d (slot.List (content.Node class.ClassMember)) → Within (M Q (Many (filter is_member (items_of d))) false None) (M Q d false None)
members_within d fit =
    let l = listed d (content.Node class.ClassMember) fit in
    let items : items_of d ≡ l.items = ap items_of l.is ∙ items_of_list l.items in
    subst (λ (m : Met). Within m (M Q d false None)) (sym (ap (λ ts. M Q (Many (filter is_member ts)) false None) items ∙ of_list Q (filter is_member l.items) refl))
    (subst (Within (all_at Q (filter is_member l.items))) (sym (ap (λ t. M Q t false None) l.is ∙ of_list Q l.items refl))
    (all_in Q (filter is_member l.items) (all_at Q l.items) (each_filter Q is_member l.items (all_at Q l.items) (each_all Q l.items))))

class_claim : (ts : List Node) → Each Claim ts → Claim (Tree kind.Class ts)
class_claim (a ∷ c ∷ d ∷ []) h = firm_claim kind.Class (a ∷ c ∷ d ∷ []) refl h (λ p s f own fit b.
    let w = stands kind.Class (a ∷ c ∷ d ∷ []) s fit in
    let z = both_are (all_bare a) (list_all all_bare (c ∷ d ∷ [])) (bare_below kind.Class (a ∷ c ∷ d ∷ []) b) in
    let y = both_are (all_bare c) (list_all all_bare (d ∷ [])) z.1 in
    let x = both_are (all_bare d) true y.1 in
    let body = members_within (stripped d) (stripped_fits d (slot.List (content.Node class.ClassMember)) x.0 refl w.fields.1.1.0) in
    let first : Met = M Q (stripped a) false None in
    let second : Met = X (stripped c) in
    let members : Met = M Q (Many (filter is_member (items_of (stripped d)))) false None in
    let all : Met = M Q (stripped d) false None in
    let inner : Within (both first (both second (both members nothing))) (both first (both second (both all nothing)))
    = both_within first first (both second (both members nothing)) (both second (both all nothing)) (within_same first)
    (both_within second second (both members nothing) (both all nothing) (within_same second) (both_within members all nothing nothing body (within_same nothing))) in
    subst (λ (m : Met). Within m (M (T p) (Tree kind.Class (stripped a ∷ stripped c ∷ stripped d ∷ [])) f own))
    (sym (ap (λ t. M (T p) t f own) (stripped_of_tree kind.Class (a ∷ c ∷ d ∷ []))
    ∙ out_is (T p) (Tree kind.Class (stripped a ∷ stripped c ∷ Many (filter is_member (items_of (stripped d))) ∷ [])) _ f own (outs-Tree kind.Class (stripped a ∷ stripped c ∷ Many (filter is_member (items_of (stripped d))) ∷ []))))
    (subst (Within (both nothing (in_scope (body_kind f None) own (both first (both second (both members nothing))))))
    (sym (out_is (T p) (Tree kind.Class (stripped a ∷ stripped c ∷ stripped d ∷ [])) _ f own (outs-Tree kind.Class (stripped a ∷ stripped c ∷ stripped d ∷ []))))
    (both_within nothing nothing (in_scope (body_kind f None) own (both first (both second (both members nothing)))) (in_scope (body_kind f None) own (both first (both second (both all nothing)))) (within_same nothing)
    (in_scope_within (body_kind f None) own (both first (both second (both members nothing))) (both first (both second (both all nothing))) inner))))
class_claim [] h = λ p q s f own fit b parts answers kept. absurd ((stands kind.Class [] s fit).fields)
class_claim (a ∷ []) h = λ p q s f own fit b parts answers kept. absurd ((stands kind.Class (a ∷ []) s fit).fields.1)
class_claim (a ∷ c ∷ []) h = λ p q s f own fit b parts answers kept. absurd ((stands kind.Class (a ∷ c ∷ []) s fit).fields.1.1)
class_claim (a ∷ c ∷ d ∷ e ∷ ts) h = λ p q s f own fit b parts answers kept. absurd ((stands kind.Class (a ∷ c ∷ d ∷ e ∷ ts) s fit).fields.1.1.1)

tree_claim : (k : Kind) (ts : List Node) → Each Claim ts → Claim (Tree k ts)
tree_claim kind.ParenExpr ts h = pair_claim ts h
tree_claim kind.SeqExpr ts h = sequence_claim ts h
tree_claim kind.AssignExpr ts h = assignment_claim ts h
tree_claim kind.Class ts h = class_claim ts h
tree_claim k ts h = other_claim k ts refl refl h

claim : (t : Node) → Claim t
claim t = by_children Claim (
  leaf_claim Absent (search (rules, the_lemmas)) (search (rules, the_lemmas)),
  λ x. leaf_claim (Flag x) (search (rules, the_lemmas)) (search (rules, the_lemmas)),
  λ w. leaf_claim (Word w) (search (rules, the_lemmas)) (search (rules, the_lemmas)),
  λ x. leaf_claim (Text x) (search (rules, the_lemmas)) (search (rules, the_lemmas)),
  λ r. leaf_claim (Span r) (search (rules, the_lemmas)) (search (rules, the_lemmas)),
  λ k i. leaf_claim (Identifier k i) (search (rules, the_lemmas)) (ap pair_in (outs-Identifier k i)),
)
    list_claim tree_claim t

pub stripping_adds_no_pairs : StrippingAddsNoPairs
stripping_adds_no_pairs goal t is fit b none z h =
    let inner = claim t standing.Plain standing.Plain goal false None fit b (λ e. absurd (no_parts goal is e)) (same_answers standing.Plain t refl) (λ e. (refl, refl)) in
    let less : Within (met (stripped t)) (met t)
    = subst (λ (m : Met). Within m (met t)) (ap (λ (m : Meeting). m false None) (sym (placed (stripped t) program_place (T standing.Plain) refl)))
    (subst (Within (M (T standing.Plain) (stripped t) false None)) (ap (λ (m : Meeting). m false None) (sym (placed t program_place (T standing.Plain) refl))) inner) in
    pairs_within (met (stripped t)) (met t) less none z h
