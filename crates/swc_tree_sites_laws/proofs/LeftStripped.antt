-- A tree that is stripped has fewer names, with the same round them.
use Rattle.std.proofs.Common.{◌≡◌, ℕ, zero, suc, Bool, true, false, not, IsTrue, Option, Some, None, List, [], ◌∷◌, ◌++◌, map, refl, sym, ap, ◌∙◌, subst, cond, rules, true≢false}
use Rattle.std.specs.List.{filter, flat_map, list_all, slice_get}
use Rattle.std.specs.Prelude.{unwrap_or, option_map}
use Rattle.std.proofs.lemmas.Option.{slice_get-map}
use Rattle.swc_tree_marks.specs.declared.ident.Ident.{Ident}
use Rattle.swc_tree_node.specs.declared.kind.Kind.{Kind}
use Rattle.swc_tree_node.specs.declared.kind.Kind.TheVariants as kind
use Rattle.swc_tree_node.specs.declared.kind.Class.TheVariants as class
use Rattle.swc_tree_node.specs.declared.slot.Content.TheVariants as content
use Rattle.swc_tree_node.specs.declared.slot.Role.TheVariants as role
use Rattle.swc_tree_node.specs.declared.slot.Slot.{Slot}
use Rattle.swc_tree_node.specs.declared.slot.Slot.TheVariants as slot
use Rattle.swc_tree_node.specs.declared.node.Node.{Node, Absent, Flag, Word, Text, Span, List as Many, Identifier, Tree, out-Node, the_lemmas}
use Rattle.swc_tree_node.specs.declared.node.Node.TheOpen.{Node-F}
use Rattle.swc_tree_node.specs.declared.node.Node.TheVariants.{outs-List, outs-Tree, outs-Identifier}
use Rattle.swc_tree_node.specs.Table.{fields_of, is_identifier, slots_of}
use Rattle.swc_tree_node.specs.Fits.{AllFit, FieldsFit, Fits, belongs, fits, list_fits}
use Rattle.swc_tree_node.proofs.Fit.{all_open, both as both_are, fields_open, fits-Absent, fits-Flag, fits-Word, fits-Text, fits-Span, fits-List, fits-Identifier, tree_closes, tree_opens}
use Rattle.swc_tree_scoping.specs.declared.places.Standing.{Standing}
use Rattle.swc_tree_scoping.specs.declared.places.Standing.TheVariants as standing
use Rattle.swc_tree_scoping.specs.declared.places.Place.{Place}
use Rattle.swc_tree_scoping.specs.declared.places.Scope.TheVariants as scope
use Rattle.swc_tree_scoping.specs.Places.{absent_in, by_keyword, children_in, field_role, has_own_name, is_there, keyword_in, nested_below, opened_as, opened_in, part_standing, place_in, program_place, standing_below, view_from}
use Rattle.swc_tree_scoping.specs.Scopes.{takes, view_in}
use Rattle.swc_tree_scoping.specs.Folds.{each_in}
use Rattle.swc_tree_grammar.specs.Stripped.{stripped}
use Rattle.swc_tree_grammar.specs.Targets.{all_bare, bare_in, seen}
use Rattle.swc_tree_grammar.proofs.Induction.{Each, by_children}
use Rattle.swc_tree_grammar.proofs.Items.{expr}
use Rattle.swc_tree_grammar.proofs.Kept.{stripped_fits}
use Rattle.swc_tree_grammar.proofs.Places.{Stands, one, stands}
use Rattle.swc_tree_grammar.proofs.Stripped.{is_other, stripped_of_list, stripped_of_tree, stripped_other}
use Rattle.swc_tree_grammar.proofs.Walks.{bare_of_list, bare_of_tree}
use Rattle.swc_tree_sites.specs.Sites.{Binding, Sites, both, in_scope, joined, nothing, taken_at, taken_in, taken_of}
use Rattle.swc_tree_sites.specs.Smaller.{Fewer}
use Rattle.swc_tree_sites.proofs.Kept.{AllFewer, E, S, in_scope_fewer, joined_fewer, out_step}
use Rattle.swc_tree_sites.proofs.Leaves.{Field}
use Rattle.swc_tree_sites.proofs.Pending.{field_at}
use Rattle.swc_tree_sites_laws.proofs.Expressions.{P, is_part}
use Rattle.swc_tree_sites_laws.proofs.Stripping.{is_pair, is_pair_kind, looks, pair_in}
use Rattle.swc_tree_grammar.specs.Shapes.{items_of}
use Rattle.swc_tree_grammar.specs.Stripped.{is_member, parts, sequence, settled, target, target_in, is_empty_in}
use Rattle.swc_tree_grammar.proofs.Items.{items_of_list, listed}
use Rattle.swc_tree_sites.proofs.Kept.{Q, all, both_nothing, of_list, of_seq}
use Rattle.swc_tree_sites_laws.proofs.Expressions.{alike, of_identifier}
use Rattle.swc_tree_sites_laws.proofs.Parts.{Answers, answer_by, field_pair, field_part, has_parts, is_part_kind, part_answers, part_belongs, part_by, part_part, parts_in, same_answers, single_content}
use Rattle.swc_tree_sites_laws.proofs.StrippedFewer.{fewer_is, fewer_trans, of_absent, of_leaf, sequence_left}

abbrev Claim : Node → Type 0
Claim t = (p q : Standing) (n : Bool) (s : Slot) → Fits t s → IsTrue (all_bare t) → (has_parts s ≡ true → is_part p ≡ true) → Answers (is_pair t) p q (Some (stripped t)) → Fewer (S (P q n) (stripped t)) (S (P p n) t)

-- what stands alone
leaf_claim : (t : Node) → stripped t ≡ t → is_pair t ≡ false → Claim t
leaf_claim t same none p q n s f b parts answers =
    let is : q ≡ p = subst (λ b. Answers b p q (Some (stripped t))) none answers in
    fewer_is (S (P q n) (stripped t)) (S (P p n) t) (ap (λ q. S (P q n) (stripped t)) is ∙ ap (S (P p n)) same)

-- the items of a list
items_claim : (p : Standing) (n : Bool) (s : Slot) (ts : List Node) → Each Claim ts → IsTrue (list_all all_bare ts) → AllFit s ts → (has_parts s ≡ true → is_part p ≡ true)
    → AllFewer (each_in S (λ i. P (part_standing p (slice_get (map stripped ts) i)) n) (map stripped ts)) (each_in S (λ i. P (part_standing p (slice_get ts i)) n) ts)
items_claim p n s [] h b f parts = tt
items_claim p n s (t ∷ ts) h b f parts =
    let z = both_are (all_bare t) (list_all all_bare ts) b in (
      h.0 (part_standing p (Some t)) (part_standing p (Some (stripped t))) n s f.0 z.0 (λ e. part_part p (Some t) (parts e)) (part_answers p t),
      items_claim p n s ts h.1 z.1 f.1 parts,
    )

texts_fit : (ts : List Node) → FieldsFit (slot.One content.Text ∷ slot.One content.Text ∷ []) ts → AllFit (slot.One content.Text) ts
texts_fit [] h = tt
texts_fit (t ∷ []) h = absurd h.1
texts_fit (t ∷ u ∷ []) h = (h.0, (h.1.0, tt))
texts_fit (t ∷ u ∷ v ∷ ts) h = absurd h.1.1

list_items : (s : Slot) (ts : List Node) → IsTrue (list_fits (map fits ts) s) → (u : Slot) × AllFit u ts × (has_parts u ≡ true → has_parts s ≡ true)
list_items (slot.List c) ts f = (slot.One c, all_open (slot.One c) ts f, λ e. e)
list_items (slot.OptionalList c) ts f = (slot.One c, all_open (slot.One c) ts f, λ e. e)
list_items (slot.Holes c) ts f = (slot.Optional c, all_open (slot.Optional c) ts f, λ e. e)
list_items slot.Pairs ts f = (slot.Pair, all_open slot.Pair ts f, λ e. e)
list_items slot.Pair ts f = (slot.One content.Text, texts_fit ts (fields_open (slot.One content.Text ∷ slot.One content.Text ∷ []) ts f), λ e. absurd (cc))
list_items (slot.One c) ts f = absurd (cc)
list_items (slot.Optional c) ts f = absurd (cc)

list_claim : (ts : List Node) → Each Claim ts → Claim (Many ts)
list_claim ts h p q n s f b parts answers =
    let is : q ≡ p = subst (λ b. Answers b p q (Some (stripped (Many ts)))) (ap pair_in (outs-List ts)) answers in
    let (u, items, more) = list_items s ts (sym (fits-List ts s) ∙ f) in
    let fewer = joined_fewer _ _ (items_claim p n u ts h (sym (bare_of_list ts) ∙ b) items (λ e. parts (more e))) in
    subst (λ a. Fewer a (S (P p n) (Many ts))) (sym (ap (λ q. S (P q n) (stripped (Many ts))) is ∙ ap (S (P p n)) (stripped_of_list ts) ∙ out_step (P p n) (Many (map stripped ts)) _ (outs-List (map stripped ts))))
    (subst (Fewer (joined (each_in S (λ i. P (part_standing p (slice_get (map stripped ts) i)) n) (map stripped ts)))) (sym (out_step (P p n) (Many ts) _ (outs-List ts))) fewer)

-- the fields of a node, each as it stands before and after
record Meets (v u : Place) (s : Slot) (c : Node) : Type 0 where
  before : Standing
  after : Standing
  nested : Bool
  was : v ≡ P before nested
  is : u ≡ P after nested
  parts : has_parts s ≡ true → is_part before ≡ true
  answers : Answers (is_pair c) before after (Some (stripped c))

fields_claim : (fs : List Field) (ts : List Node) (ps qs : ℕ → Place) → Each Claim ts → IsTrue (list_all all_bare ts) → FieldsFit (map (λ f. f.1) fs) ts
    → ((i : ℕ) (f : Field) (c : Node) → slice_get fs i ≡ Some f → slice_get ts i ≡ Some c → Fits c f.1 → Meets (ps i) (qs i) f.1 c) → AllFewer (each_in S qs (map stripped ts)) (each_in S ps ts)
fields_claim [] [] ps qs h b f m = tt
fields_claim [] (t ∷ ts) ps qs h b f m = absurd f
fields_claim (x ∷ fs) [] ps qs h b f m = absurd f
fields_claim (x ∷ fs) (t ∷ ts) ps qs h b f m =
    let z = both_are (all_bare t) (list_all all_bare ts) b in
    let w = m zero x t refl refl f.0 in (
      subst (λ v. Fewer (S (qs zero) (stripped t)) (S v t)) (sym w.was) (subst (λ u. Fewer (S u (stripped t)) (S (P w.before w.nested) t)) (sym w.is) (h.0 w.before w.after w.nested x.1 f.0 z.0 w.parts w.answers)),
      fields_claim fs ts (λ i. ps (suc i)) (λ i. qs (suc i)) h.1 z.1 f.1 (λ i. m (suc i)),
    )

-- what is read off the fields
keyword_kept : (fs : List Field) (ts : List Node) → IsTrue (list_all all_bare ts) → FieldsFit (map (λ f. f.1) fs) ts → by_keyword (map stripped ts) ≡ by_keyword ts
keyword_kept [] [] b f = refl
keyword_kept [] (t ∷ ts) b f = absurd f
keyword_kept (x ∷ fs) [] b f = absurd f
keyword_kept (x ∷ fs) (t ∷ ts) b f =
    let z = both_are (all_bare t) (list_all all_bare ts) b in
    ap (keyword_in (out-Node (stripped t))) (keyword_kept fs ts z.1 f.1)
    ∙ looks (λ y. keyword_in y (by_keyword ts)) (by_keyword ts) (λ k ts. refl) (λ ts. refl) (λ k i. refl) t x.1 f.0 z.0

bare_at : (ts : List Node) (i : ℕ) (c : Node) → IsTrue (list_all all_bare ts) → slice_get ts i ≡ Some c → IsTrue (all_bare c)
bare_at [] i c b e = absurd (cc)
bare_at (t ∷ ts) zero c b e = let same : t ≡ c = cc in subst (λ c. IsTrue (all_bare c)) same (both_are (all_bare t) (list_all all_bare ts) b).0
bare_at (t ∷ ts) (suc i) c b e = bare_at ts i c (both_are (all_bare t) (list_all all_bare ts) b).1 e

there_kept : (fs : List Field) (ts : List Node) (i : ℕ) → IsTrue (list_all all_bare ts) → FieldsFit (map (λ f. f.1) fs) ts → is_there (slice_get (map stripped ts) i) ≡ is_there (slice_get ts i)
there_kept fs ts i b f = ap is_there (slice_get-map stripped ts i) ∙ at (slice_get ts i) refl
  where
    at : (o : Option Node) → slice_get ts i ≡ o → is_there (option_map stripped o) ≡ is_there o
    at None e = refl
    at (Some c) e = let (x, z, fit) = field_at fs ts i c f e in ap not (looks absent_in false (λ k ts. refl) (λ ts. refl) (λ k i. refl) c x.1 fit (bare_at ts i c b e))

mapped_at : (ts : List Node) (i : ℕ) (c : Node) → slice_get ts i ≡ Some c → slice_get (map stripped ts) i ≡ Some (stripped c)
mapped_at ts i c e = slice_get-map stripped ts i ∙ ap (option_map stripped) e

own_part : (k : Kind) (ts : List Node) (s : Slot) (p : Standing) → Stands k ts s → (has_parts s ≡ true → is_part p ≡ true) → is_part_kind k ≡ true → is_part p ≡ true
own_part k ts s p w parts e = parts (ap parts_in (single_content s (content.Node w.in_class) w.place) ∙ part_belongs k w.in_class e w.belonging)

-- a node whose fields are stripped
fields_fewer : (k : Kind) (ts : List Node) (p : Standing) (n : Bool) → Each Claim ts → IsTrue (list_all all_bare ts) → FieldsFit (slots_of k) ts → (is_part_kind k ≡ true → is_part p ≡ true)
    → Fewer (S (P p n) (Tree k (map stripped ts))) (S (P p n) (Tree k ts))
fields_fewer k ts p n h b f own =
    let same : has_own_name (map stripped ts) ≡ has_own_name ts = there_kept (fields_of k) ts 0 b f in
    let keyword : by_keyword (map stripped ts) ≡ by_keyword ts = keyword_kept (fields_of k) ts b f in
    let source : is_there (slice_get (map stripped ts) 2) ≡ is_there (slice_get ts 2) = there_kept (fields_of k) ts 2 b f in
    let all_fewer = fields_claim (fields_of k) ts (place_in (P p n) (Node-F.Tree k ts)) (place_in (P p n) (Node-F.Tree k (map stripped ts))) h b f
    (λ i x c e g fit.
    let role_is : field_role k i ≡ x.2 = ap (λ o. unwrap_or (option_map (λ f. f.2) o) role.Plain) e in record {
      before = standing_below (P p n) k ts i (field_role k i);
      after = standing_below (P p n) k (map stripped ts) i (field_role k i);
      nested = nested_below n (opened_as (P p n) k (has_own_name ts)) (view_from k i);
      was = refl;
      is = ap (λ b. P (standing_below (P p n) k (map stripped ts) i (field_role k i)) (nested_below n (opened_as (P p n) k b) (view_from k i))) same;
      parts = λ z. subst (λ r. is_part (standing_below (P p n) k ts i r) ≡ true) (sym role_is) (part_by p n k ts (map stripped ts) i x.2 x.1 (field_part k i x e) z own);
      answers = subst (λ r. Answers (is_pair c) (standing_below (P p n) k ts i r) (standing_below (P p n) k (map stripped ts) i r) (Some (stripped c))) (sym role_is)
          (answer_by p n k ts (map stripped ts) keyword source i x.2 x.1 c (field_pair k i x e) fit g (mapped_at ts i c g));
    }) in
    subst (λ a. Fewer a (S (P p n) (Tree k ts))) (sym (out_step (P p n) (Tree k (map stripped ts)) _ (outs-Tree k (map stripped ts))
    ∙ ap (λ b. in_scope (opened_as (P p n) k b) (view_from k) (each_in S (place_in (P p n) (Node-F.Tree k (map stripped ts))) (map stripped ts))) same))
    (subst (Fewer (in_scope (opened_as (P p n) k (has_own_name ts)) (view_from k) (each_in S (place_in (P p n) (Node-F.Tree k (map stripped ts))) (map stripped ts)))) (sym (out_step (P p n) (Tree k ts) _ (outs-Tree k ts)))
    (in_scope_fewer (opened_as (P p n) k (has_own_name ts)) (view_from k) _ _ all_fewer))

bare_below : (k : Kind) (ts : List Node) → IsTrue (all_bare (Tree k ts)) → IsTrue (list_all all_bare ts)
bare_below k ts b = (both_are (bare_in (Node-F.Tree k (map seen ts))) (list_all all_bare ts) (sym (bare_of_tree k ts) ∙ b)).1

firm_claim : (k : Kind) (ts : List Node) → is_pair_kind k ≡ false → Each Claim ts → ((p : Standing) (n : Bool) (s : Slot) → Fits (Tree k ts) s → IsTrue (all_bare (Tree k ts)) → S (P p n) (stripped (Tree k ts)) ≡ S (P p n) (Tree k (map stripped ts))) → Claim (Tree k ts)
firm_claim k ts none h same p q n s f b parts answers =
    let is : q ≡ p = subst (λ b. Answers b p q (Some (stripped (Tree k ts)))) (ap pair_in (outs-Tree k ts) ∙ none) answers in
    let w = stands k ts s f in
    subst (λ a. Fewer a (S (P p n) (Tree k ts))) (sym (ap (λ q. S (P q n) (stripped (Tree k ts))) is ∙ same p n s f b))
    (fields_fewer k ts p n h (bare_below k ts b) w.fields (own_part k ts s p w parts))

other_claim : (k : Kind) (ts : List Node) → IsTrue (is_other k) → is_pair_kind k ≡ false → Each Claim ts → Claim (Tree k ts)
other_claim k ts o none h = firm_claim k ts none h (λ p n s f b. ap (S (P p n)) (stripped_other k ts o))

-- pairs
pair_claim : (ts : List Node) → Each Claim ts → Claim (Tree kind.ParenExpr ts)
pair_claim [] h p q n s f b parts answers = absurd (stands kind.ParenExpr [] s f).fields
pair_claim (a ∷ []) h p q n s f b parts answers = absurd ((stands kind.ParenExpr (a ∷ []) s f).fields.1)
pair_claim (a ∷ c ∷ d ∷ ts) h p q n s f b parts answers = absurd ((stands kind.ParenExpr (a ∷ c ∷ d ∷ ts) s f).fields.1.1)
pair_claim (a ∷ e ∷ []) h p q n s f b parts answers =
    let w = stands kind.ParenExpr (a ∷ e ∷ []) s f in
    let z = both_are (all_bare a) (list_all all_bare (e ∷ [])) (bare_below kind.ParenExpr (a ∷ e ∷ []) b) in
    let y = both_are (all_bare e) true z.1 in
    let out : stripped (Tree kind.ParenExpr (a ∷ e ∷ [])) ≡ stripped e = stripped_of_tree kind.ParenExpr (a ∷ e ∷ []) in
    let is : q ≡ part_standing p (Some (stripped (Tree kind.ParenExpr (a ∷ e ∷ [])))) = subst (λ b. Answers b p q (Some (stripped (Tree kind.ParenExpr (a ∷ e ∷ []))))) (ap pair_in (outs-Tree kind.ParenExpr (a ∷ e ∷ []))) answers in
    let place : S (P q n) (stripped (Tree kind.ParenExpr (a ∷ e ∷ []))) ≡ S (E n) (stripped e)
    = ap (λ q. S (P q n) (stripped (Tree kind.ParenExpr (a ∷ e ∷ [])))) is ∙ ap (λ t. S (P (part_standing p (Some t)) n) t) out
    ∙ alike (stripped e) p n (stripped_fits e expr y.0 refl w.fields.1.0) (own_part kind.ParenExpr (a ∷ e ∷ []) s p w parts refl) in
    let inner = h.1.0 standing.Reference standing.Reference n expr w.fields.1.0 y.0 (λ z. refl) (same_answers standing.Reference e refl) in
    subst (λ x. Fewer x (S (P p n) (Tree kind.ParenExpr (a ∷ e ∷ [])))) (sym place)
    (subst (Fewer (S (E n) (stripped e))) (sym (out_step (P p n) (Tree kind.ParenExpr (a ∷ e ∷ [])) _ (outs-Tree kind.ParenExpr (a ∷ e ∷ []))
    ∙ ap (λ x. both x (both (S (E n) e) nothing)) (of_leaf (Q n) content.Span a refl w.fields.0) ∙ both_nothing (S (E n) e))) inner)

-- sequences
sequence_claim : (ts : List Node) → Each Claim ts → Claim (Tree kind.SeqExpr ts)
sequence_claim [] h p q n s f b ok answers = absurd (stands kind.SeqExpr [] s f).fields
sequence_claim (a ∷ []) h p q n s f b ok answers = absurd ((stands kind.SeqExpr (a ∷ []) s f).fields.1)
sequence_claim (a ∷ c ∷ d ∷ ts) h p q n s f b ok answers = absurd ((stands kind.SeqExpr (a ∷ c ∷ d ∷ ts) s f).fields.1.1)
sequence_claim (a ∷ e ∷ []) h p q n s f b ok answers =
    let whole : Node = Tree kind.SeqExpr (a ∷ e ∷ []) in
    let w = stands kind.SeqExpr (a ∷ e ∷ []) s f in
    let z = both_are (all_bare a) (list_all all_bare (e ∷ [])) (bare_below kind.SeqExpr (a ∷ e ∷ []) b) in
    let y = both_are (all_bare e) true z.1 in
    let l = listed (stripped e) (content.Node class.Expr) (stripped_fits e (slot.List (content.Node class.Expr)) y.0 refl w.fields.1.0) in
    let items : items_of (stripped e) ≡ l.items = ap items_of l.is ∙ items_of_list l.items in
    let out : stripped whole ≡ sequence (stripped a) (settled (flat_map parts l.items)) = stripped_of_tree kind.SeqExpr (a ∷ e ∷ []) ∙ ap (λ ts. sequence (stripped a) (settled (flat_map parts ts))) items in
    let fits_it : Fits (stripped whole) expr = stripped_fits whole expr b refl (tree_closes kind.SeqExpr (a ∷ e ∷ []) class.Expr refl refl w.fields) in
    let is : q ≡ part_standing p (Some (stripped whole)) = subst (λ b. Answers b p q (Some (stripped whole))) (ap pair_in (outs-Tree kind.SeqExpr (a ∷ e ∷ []))) answers in
    let place : S (P q n) (stripped whole) ≡ S (E n) (sequence (stripped a) (settled (flat_map parts l.items)))
    = ap (λ q. S (P q n) (stripped whole)) is ∙ alike (stripped whole) p n fits_it (own_part kind.SeqExpr (a ∷ e ∷ []) s p w ok refl) ∙ ap (S (E n)) out in
    let span : Fits (stripped a) (slot.One content.Span) = stripped_fits a (slot.One content.Span) z.0 refl w.fields.0 in
    let first = sequence_left n (stripped a) l.items span l.fit in
    let second = h.1.0 standing.Reference standing.Reference n (slot.List (content.Node class.Expr)) w.fields.1.0 y.0 (λ z. refl) (same_answers standing.Reference e refl) in
    let before : S (P p n) whole ≡ S (E n) e = out_step (P p n) whole _ (outs-Tree kind.SeqExpr (a ∷ e ∷ [])) ∙ ap (λ x. both x (both (S (E n) e) nothing)) (of_leaf (Q n) content.Span a refl w.fields.0) ∙ both_nothing (S (E n) e) in
    let between : S (E n) (Tree kind.SeqExpr (stripped a ∷ Many l.items ∷ [])) ≡ S (E n) (stripped e) = of_seq n (stripped a) (Many l.items) (of_leaf (Q n) content.Span (stripped a) refl span) ∙ ap (S (E n)) (sym l.is) in
    subst (λ x. Fewer x (S (P p n) whole)) (sym place)
    (subst (Fewer (S (E n) (sequence (stripped a) (settled (flat_map parts l.items))))) (sym before)
    (fewer_trans _ _ _ first (subst (λ x. Fewer x (S (E n) e)) (sym between) second)))

-- targets
target_same : (n : Bool) (t : Node) → S (E n) (target t) ≡ S (E n) t
target_same n t = by_children (λ t. S (E n) (target t) ≡ S (E n) t) (
  ap (S (E n)) (search (rules, the_lemmas)),
  λ x. ap (S (E n)) (search (rules, the_lemmas)),
  λ w. ap (S (E n)) (search (rules, the_lemmas)),
  λ x. ap (S (E n)) (search (rules, the_lemmas)),
  λ r. ap (S (E n)) (search (rules, the_lemmas)),
  λ k i. named k i,
)
    (λ ts h. ap (S (E n)) (search (rules, the_lemmas)))
    (λ k ts h. ap (S (E n)) (search (rules, the_lemmas))) t
  where
    named_in : (k : Kind) (i : Ident) → S (E n) (target_in (Identifier k i) (Node-F.Identifier k i)) ≡ S (E n) (Identifier k i)
    named_in kind.Ident i = of_identifier (E n) kind.BindingIdent i ∙ sym (of_identifier (E n) kind.Ident i)
    named_in k i = refl

    named : (k : Kind) (i : Ident) → S (E n) (target (Identifier k i)) ≡ S (E n) (Identifier k i)
    named k i = let out : target (Identifier k i) ≡ target_in (Identifier k i) (Node-F.Identifier k i) = search (rules, the_lemmas) in ap (S (E n)) out ∙ named_in k i

assignment_claim : (ts : List Node) → Each Claim ts → Claim (Tree kind.AssignExpr ts)
assignment_claim (a ∷ o ∷ l ∷ r ∷ []) h = firm_claim kind.AssignExpr (a ∷ o ∷ l ∷ r ∷ []) refl h (λ p n s f b.
    ap (S (P p n)) (stripped_of_tree kind.AssignExpr (a ∷ o ∷ l ∷ r ∷ []))
    ∙ out_step (P p n) (Tree kind.AssignExpr (stripped a ∷ stripped o ∷ target (stripped l) ∷ stripped r ∷ [])) _ (outs-Tree kind.AssignExpr (stripped a ∷ stripped o ∷ target (stripped l) ∷ stripped r ∷ []))
    ∙ ap (λ x. both (S (Q n) (stripped a)) (both (S (Q n) (stripped o)) (both x (both (S (E n) (stripped r)) nothing)))) (target_same n (stripped l))
    ∙ sym (out_step (P p n) (Tree kind.AssignExpr (stripped a ∷ stripped o ∷ stripped l ∷ stripped r ∷ [])) _ (outs-Tree kind.AssignExpr (stripped a ∷ stripped o ∷ stripped l ∷ stripped r ∷ []))))
assignment_claim [] h = λ p q n s f b parts answers. absurd ((stands kind.AssignExpr [] s f).fields)
assignment_claim (a ∷ []) h = λ p q n s f b parts answers. absurd ((stands kind.AssignExpr (a ∷ []) s f).fields.1)
assignment_claim (a ∷ o ∷ []) h = λ p q n s f b parts answers. absurd ((stands kind.AssignExpr (a ∷ o ∷ []) s f).fields.1.1)
assignment_claim (a ∷ o ∷ l ∷ []) h = λ p q n s f b parts answers. absurd ((stands kind.AssignExpr (a ∷ o ∷ l ∷ []) s f).fields.1.1.1)
assignment_claim (a ∷ o ∷ l ∷ r ∷ e ∷ ts) h = λ p q n s f b parts answers. absurd ((stands kind.AssignExpr (a ∷ o ∷ l ∷ r ∷ e ∷ ts) s f).fields.1.1.1.1)

-- members
empty_member : (w : Place) (t : Node) → Fits t (one class.ClassMember) → is_member t ≡ false → S w t ≡ nothing
empty_member w t = by_children (λ t. Fits t (one class.ClassMember) → is_member t ≡ false → S w t ≡ nothing) (
  λ f e. of_absent w,
  λ x f e. absurd (cc (sym (fits-Flag x (one class.ClassMember)) ∙ f)),
  λ v f e. absurd (cc (sym (fits-Word v (one class.ClassMember)) ∙ f)),
  λ x f e. absurd (cc (sym (fits-Text x (one class.ClassMember)) ∙ f)),
  λ r f e. absurd (cc (sym (fits-Span r (one class.ClassMember)) ∙ f)),
  λ k i f e. absurd (cc (sym (ap (λ y. not (is_empty_in y)) (outs-Identifier k i)) ∙ e)),
)
    (λ ts h f e. absurd (cc (sym (fits-List ts (one class.ClassMember)) ∙ f)))
    (λ k ts h f e. at k ts (tree_opens k ts class.ClassMember f).2 (sym (ap (λ y. not (is_empty_in y)) (outs-Tree k ts)) ∙ e)) t
  where
    at : (k : Kind) (ts : List Node) → FieldsFit (slots_of k) ts → not (is_empty_in (Node-F.Tree k ts)) ≡ false → S w (Tree k ts) ≡ nothing
    at kind.EmptyStmt (a ∷ []) f e = out_step w (Tree kind.EmptyStmt (a ∷ [])) _ (outs-Tree kind.EmptyStmt (a ∷ [])) ∙ ap (λ x. both x nothing) (of_leaf _ content.Span a refl f.0)
    at kind.EmptyStmt [] f e = absurd f
    at kind.EmptyStmt (a ∷ b ∷ ts) f e = absurd f.1
    at k ts f e = absurd (cc)

members_same : (w : Place) (ts : List Node) → AllFit (one class.ClassMember) ts → all w (filter is_member ts) ≡ all w ts
members_same w [] f = refl
members_same w (t ∷ ts) f = at (members_same w ts f.1) (is_member t) refl
  where
    at : all w (filter is_member ts) ≡ all w ts → (b : Bool) → is_member t ≡ b → all w (cond b (t ∷ filter is_member ts) (filter is_member ts)) ≡ both (S w t) (all w ts)
    at same true e = ap (both (S w t)) same
    at same false e = same ∙ ap (λ a. both a (all w ts)) (sym (empty_member w t f.0 e))

class_claim : (ts : List Node) → Each Claim ts → Claim (Tree kind.Class ts)
class_claim (a ∷ c ∷ d ∷ []) h = firm_claim kind.Class (a ∷ c ∷ d ∷ []) refl h (λ p n s f b.
    let w = stands kind.Class (a ∷ c ∷ d ∷ []) s f in
    let z = both_are (all_bare a) (list_all all_bare (c ∷ d ∷ [])) (bare_below kind.Class (a ∷ c ∷ d ∷ []) b) in
    let y = both_are (all_bare c) (list_all all_bare (d ∷ [])) z.1 in
    let x = both_are (all_bare d) true y.1 in
    let l = listed (stripped d) (content.Node class.ClassMember) (stripped_fits d (slot.List (content.Node class.ClassMember)) x.0 refl w.fields.1.1.0) in
    let items : items_of (stripped d) ≡ l.items = ap items_of l.is ∙ items_of_list l.items in
    let body : S (Q n) (Many (filter is_member (items_of (stripped d)))) ≡ S (Q n) (stripped d)
    = ap (λ ts. S (Q n) (Many (filter is_member ts))) items ∙ of_list (Q n) (filter is_member l.items) refl ∙ members_same (Q n) l.items l.fit ∙ sym (of_list (Q n) l.items refl) ∙ ap (S (Q n)) (sym l.is) in
    ap (S (P p n)) (stripped_of_tree kind.Class (a ∷ c ∷ d ∷ []))
    ∙ out_step (P p n) (Tree kind.Class (stripped a ∷ stripped c ∷ Many (filter is_member (items_of (stripped d))) ∷ [])) _ (outs-Tree kind.Class (stripped a ∷ stripped c ∷ Many (filter is_member (items_of (stripped d))) ∷ []))
    ∙ ap (λ x. both (S (Q n) (stripped a)) (both (S (E n) (stripped c)) (both x nothing))) body
    ∙ sym (out_step (P p n) (Tree kind.Class (stripped a ∷ stripped c ∷ stripped d ∷ [])) _ (outs-Tree kind.Class (stripped a ∷ stripped c ∷ stripped d ∷ []))))
class_claim [] h = λ p q n s f b parts answers. absurd ((stands kind.Class [] s f).fields)
class_claim (a ∷ []) h = λ p q n s f b parts answers. absurd ((stands kind.Class (a ∷ []) s f).fields.1)
class_claim (a ∷ c ∷ []) h = λ p q n s f b parts answers. absurd ((stands kind.Class (a ∷ c ∷ []) s f).fields.1.1)
class_claim (a ∷ c ∷ d ∷ e ∷ ts) h = λ p q n s f b parts answers. absurd ((stands kind.Class (a ∷ c ∷ d ∷ e ∷ ts) s f).fields.1.1.1)

tree_claim : (k : Kind) (ts : List Node) → Each Claim ts → Claim (Tree k ts)
tree_claim kind.ParenExpr ts h = pair_claim ts h
tree_claim kind.SeqExpr ts h = sequence_claim ts h
tree_claim kind.AssignExpr ts h = assignment_claim ts h
tree_claim kind.Class ts h = class_claim ts h
tree_claim k ts h = other_claim k ts refl refl h

pub claim : (t : Node) → Claim t
claim t = by_children Claim (
  leaf_claim Absent (search (rules, the_lemmas)) (search (rules, the_lemmas)),
  λ x. leaf_claim (Flag x) (search (rules, the_lemmas)) (search (rules, the_lemmas)),
  λ w. leaf_claim (Word w) (search (rules, the_lemmas)) (search (rules, the_lemmas)),
  λ x. leaf_claim (Text x) (search (rules, the_lemmas)) (search (rules, the_lemmas)),
  λ r. leaf_claim (Span r) (search (rules, the_lemmas)) (search (rules, the_lemmas)),
  λ k i. leaf_claim (Identifier k i) (search (rules, the_lemmas)) (ap pair_in (outs-Identifier k i)),
)
    list_claim tree_claim t

-- a module is one by its fields
pub on_modules : (P : Node → Type 0) → ((x y z : Node) → FieldsFit (slots_of kind.Module) (x ∷ y ∷ z ∷ []) → P (Tree kind.Module (x ∷ y ∷ z ∷ []))) → (t : Node) → Fits t (one class.Module) → P t
on_modules P each t = by_children (λ t. Fits t (one class.Module) → P t) (
  λ f. absurd (cc (sym (fits-Absent (one class.Module)) ∙ f)),
  λ x f. absurd (cc (sym (fits-Flag x (one class.Module)) ∙ f)),
  λ v f. absurd (cc (sym (fits-Word v (one class.Module)) ∙ f)),
  λ x f. absurd (cc (sym (fits-Text x (one class.Module)) ∙ f)),
  λ r f. absurd (cc (sym (fits-Span r (one class.Module)) ∙ f)),
  λ k i f. at_identifier k i (both_are (is_identifier k) (belongs k class.Module) (sym (fits-Identifier k i (one class.Module)) ∙ f)).0 (both_are (is_identifier k) (belongs k class.Module) (sym (fits-Identifier k i (one class.Module)) ∙ f)).1,
)
    (λ ts h f. absurd (cc (sym (fits-List ts (one class.Module)) ∙ f)))
    (λ k ts h f. at k ts (tree_opens k ts class.Module f).1 (tree_opens k ts class.Module f).2) t
  where
    at_identifier : (k : Kind) (i : Ident) → IsTrue (is_identifier k) → IsTrue (belongs k class.Module) → P (Identifier k i)
    at_identifier kind.Ident i a b = absurd (cc)
    at_identifier kind.BindingIdent i a b = absurd (cc)
    at_identifier _ i a b = absurd (cc)

    at : (k : Kind) (ts : List Node) → IsTrue (belongs k class.Module) → FieldsFit (slots_of k) ts → P (Tree k ts)
    at kind.Module [] c f = absurd f
    at kind.Module (x ∷ []) c f = absurd f.1
    at kind.Module (x ∷ y ∷ []) c f = absurd f.1.1
    at kind.Module (x ∷ y ∷ z ∷ v ∷ ts) c f = absurd f.1.1.1
    at kind.Module (x ∷ y ∷ z ∷ []) c f = each x y z f
    at _ ts c f = absurd (true≢false (sym c))

-- its fields, stripped
three_fewer : (x y z : Node) → FieldsFit (slots_of kind.Module) (x ∷ y ∷ z ∷ []) → IsTrue (all_bare (Tree kind.Module (x ∷ y ∷ z ∷ [])))
    → AllFewer (S (Q false) (stripped x) ∷ S (Q false) (stripped y) ∷ S (Q false) (stripped z) ∷ []) (S (Q false) x ∷ S (Q false) y ∷ S (Q false) z ∷ [])
three_fewer x y z f b =
    let k = both_are (all_bare x) (list_all all_bare (y ∷ z ∷ [])) (bare_below kind.Module (x ∷ y ∷ z ∷ []) b) in
    let l = both_are (all_bare y) (list_all all_bare (z ∷ [])) k.1 in
    let m = both_are (all_bare z) true l.1 in
    let first = claim x standing.Plain standing.Plain false (slot.One content.Span) f.0 k.0 (λ e. absurd (cc)) (same_answers standing.Plain x refl) in
    let second = claim y standing.Plain standing.Plain false (slot.List (content.Node class.ModuleItem)) f.1.0 l.0 (λ e. absurd (cc)) (same_answers standing.Plain y refl) in
    let third = claim z standing.Plain standing.Plain false (slot.Optional content.Text) f.1.1.0 m.0 (λ e. absurd (cc)) (same_answers standing.Plain z refl) in
    (first, (second, (third, tt)))

fields_fewer_of : (x y z : Node) → FieldsFit (slots_of kind.Module) (x ∷ y ∷ z ∷ []) → IsTrue (all_bare (Tree kind.Module (x ∷ y ∷ z ∷ []))) → Fewer (S program_place (stripped (Tree kind.Module (x ∷ y ∷ z ∷ [])))) (S program_place (Tree kind.Module (x ∷ y ∷ z ∷ [])))
fields_fewer_of x y z f b =
    subst (λ a. Fewer a (S program_place (Tree kind.Module (x ∷ y ∷ z ∷ []))))
    (sym (ap (S program_place) (stripped_other kind.Module (x ∷ y ∷ z ∷ []) refl) ∙ out_step program_place (Tree kind.Module (stripped x ∷ stripped y ∷ stripped z ∷ [])) _ (outs-Tree kind.Module (stripped x ∷ stripped y ∷ stripped z ∷ []))))
    (subst (Fewer (in_scope (Some scope.Program) (view_from kind.Module) (S (Q false) (stripped x) ∷ S (Q false) (stripped y) ∷ S (Q false) (stripped z) ∷ [])))
    (sym (out_step program_place (Tree kind.Module (x ∷ y ∷ z ∷ [])) _ (outs-Tree kind.Module (x ∷ y ∷ z ∷ []))))
    (in_scope_fewer (Some scope.Program) (view_from kind.Module) (S (Q false) (stripped x) ∷ S (Q false) (stripped y) ∷ S (Q false) (stripped z) ∷ []) (S (Q false) x ∷ S (Q false) y ∷ S (Q false) z ∷ []) (three_fewer x y z f b)))

pub module_fewer : (t : Node) → Fits t (one class.Module) → IsTrue (all_bare t) → Fewer (S program_place (stripped t)) (S program_place t)
module_fewer = on_modules (λ t. IsTrue (all_bare t) → Fewer (S program_place (stripped t)) (S program_place t)) fields_fewer_of

-- the program takes the same
module_takes : (ts : List Node) → taken_at program_place (Tree kind.Module ts) ≡ taken_of scope.Program (view_from kind.Module) (each_in S (place_in program_place (Node-F.Tree kind.Module ts)) ts)
module_takes ts =
    ap (taken_in program_place (Tree kind.Module ts)) (ap (opened_in program_place) (outs-Tree kind.Module ts))
    ∙ ap (λ y. taken_of scope.Program (view_in y) (each_in S (place_in program_place y) (children_in y))) (outs-Tree kind.Module ts)

takes_same : (a b c d e f : Sites) → AllFewer (a ∷ b ∷ c ∷ []) (d ∷ e ∷ f ∷ []) → taken_of scope.Program (view_from kind.Module) (a ∷ b ∷ c ∷ []) ≡ taken_of scope.Program (view_from kind.Module) (d ∷ e ∷ f ∷ [])
takes_same a b c d e f h = ap (filter (λ (b : Binding). takes b.0 scope.Program)) (
    ap (λ p. p ++ (b.pending ++ (c.pending ++ []))) h.0.pending ∙ ap (λ p. d.pending ++ (p ++ (c.pending ++ []))) h.1.0.pending
    ∙ ap (λ p. d.pending ++ (e.pending ++ (p ++ []))) h.1.1.0.pending)

fields_take : (x y z : Node) → FieldsFit (slots_of kind.Module) (x ∷ y ∷ z ∷ []) → IsTrue (all_bare (Tree kind.Module (x ∷ y ∷ z ∷ []))) → taken_at program_place (stripped (Tree kind.Module (x ∷ y ∷ z ∷ []))) ≡ taken_at program_place (Tree kind.Module (x ∷ y ∷ z ∷ []))
fields_take x y z f b =
    ap (taken_at program_place) (stripped_other kind.Module (x ∷ y ∷ z ∷ []) refl) ∙ module_takes (stripped x ∷ stripped y ∷ stripped z ∷ [])
    ∙ takes_same (S (Q false) (stripped x)) (S (Q false) (stripped y)) (S (Q false) (stripped z)) (S (Q false) x) (S (Q false) y) (S (Q false) z) (three_fewer x y z f b)
    ∙ sym (module_takes (x ∷ y ∷ z ∷ []))

pub stripped_takes : (t : Node) → Fits t (one class.Module) → IsTrue (all_bare t) → taken_at program_place (stripped t) ≡ taken_at program_place t
stripped_takes = on_modules (λ t. IsTrue (all_bare t) → taken_at program_place (stripped t) ≡ taken_at program_place t) fields_take
