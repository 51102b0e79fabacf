-- The fixer's answer to a tree without contexts has none.
use Rattle.std.proofs.Common.{◌≡◌, ℕ, zero, suc, Bool, true, false, Option, Some, None, List, [], ◌∷◌, map, refl, sym, ap, ◌∙◌, subst, rules}
use Rattle.std.specs.Prelude.{if◌then◌else◌, slice_get}
use Rattle.swc_tree_marks.specs.declared.ident.Ident.{Ident}
use Rattle.swc_tree_node.specs.declared.kind.Kind.{Kind}
use Rattle.swc_tree_node.specs.declared.kind.Kind.TheVariants as kind
use Rattle.swc_tree_node.specs.declared.slot.Slot.{Slot}
use Rattle.swc_tree_node.specs.declared.node.Node.{Node, Absent, Flag, Word, Text, Span, List as Many, Identifier, Tree, out-Node, the_lemmas}
use Rattle.swc_tree_node.specs.declared.node.Node.TheOpen.{Node-F}
use Rattle.swc_tree_node.specs.declared.node.Node.TheVariants.{outs-List, outs-Tree, rolls-Tree}
use Rattle.swc_tree_scoping.specs.declared.places.Place.{Place}
use Rattle.swc_tree_scoping.specs.Places.{Path, child, children_in, given, place_at, place_below, program_place}
use Rattle.swc_tree_scoping.specs.Readings.{by_texts}
use Rattle.swc_tree_renaming.proofs.Shape.{some_same, twice}
use Rattle.swc_tree_renaming.proofs.Whole.{identifier_same}
use Rattle.swc_tree_grammar.specs.Blocks.{block, block_step, branch, span_of, takes_else, with_blocks}
use Rattle.swc_tree_grammar.specs.Fixed.{fixed}
use Rattle.swc_tree_grammar.specs.Shapes.{items_of}
use Rattle.swc_tree_grammar.specs.Stripped.{stripped}
use Rattle.swc_tree_grammar.proofs.Induction.{Each, by_children}
use Rattle.swc_tree_grammar.proofs.Items.{items_of_list}
use Rattle.swc_tree_grammar.proofs.BlocksKept.{unparened_fits}
use Rattle.swc_tree_grammar.proofs.Walks.{blocks_of_list, blocks_of_tree}
use Rattle.swc_tree_grammar_texts.proofs.Cleared.{bare, text_list, text_name, text_span, text_tree}
use Rattle.swc_tree_grammar_texts.proofs.ClearedStripped.{stripped_texts}
use Rattle.swc_base_fixer_laws.specs.Sets.{AllSet, FieldsSet, Sets}
use Rattle.swc_base_fixer_laws.specs.Sets.Sets.{same, after, around, named, items, tree}
use Rattle.swc_base_fixer_laws.specs.Sets.AllSet.{none, more}
use Rattle.swc_base_fixer_laws.specs.Sets.FieldsSet.{nil, field}
use Rattle.swc_base_fixer_laws.proofs.Answer.{due_set}
use Rattle.swc_base_fixer_sites.specs.Laws.{FixerStaysClean}

-- no identifier in the tree has a context
abbrev Bare : Node → Type 0
Bare t = by_texts t ≡ t

each_bare : (ts : List Node) → map by_texts ts ≡ ts → Each Bare ts
each_bare [] e = tt
each_bare (t ∷ ts) e = let first : by_texts t ≡ t = cc in let rest : map by_texts ts ≡ ts = cc in (first, each_bare ts rest)

all_bare : (ts : List Node) → Each Bare ts → map by_texts ts ≡ ts
all_bare [] l = refl
all_bare (t ∷ ts) l = ap (λ u. u ∷ map by_texts ts) l.0 ∙ ap (λ us. t ∷ us) (all_bare ts l.1)

list_opens : (ts : List Node) → Bare (Many ts) → Each Bare ts
list_opens ts h = each_bare ts (sym (items_of_list (map by_texts ts)) ∙ ap items_of (sym (text_list ts) ∙ h) ∙ items_of_list ts)

list_closes : (ts : List Node) → Each Bare ts → Bare (Many ts)
list_closes ts l = text_list ts ∙ ap Many (all_bare ts l)

tree_opens : (k : Kind) (ts : List Node) → Bare (Tree k ts) → Each Bare ts
tree_opens k ts h = each_bare ts (sym (ap children_in (outs-Tree k (map by_texts ts))) ∙ ap (λ t. children_in (out-Node t)) (sym (text_tree k ts) ∙ h) ∙ ap children_in (outs-Tree k ts))

tree_closes : (k : Kind) (ts : List Node) → Each Bare ts → Bare (Tree k ts)
tree_closes k ts l = text_tree k ts ∙ ap (Tree k) (all_bare ts l)

-- ---- blocks

branch_bare : (b : Bool) (t : Node) → Bare t → Bare (if b then block t else t)
branch_bare true t h = tree_closes kind.BlockStmt (Span (span_of t) ∷ Many (t ∷ []) ∷ []) (text_span (span_of t), (list_closes (t ∷ []) (h, tt), tt))
branch_bare false t h = h

rolled : (k : Kind) (ts : List Node) → block_step (Node-F.Tree k ts) ≡ Tree k ts → Each Bare ts → Bare (block_step (Node-F.Tree k ts))
rolled k ts e l = subst Bare (sym e) (tree_closes k ts l)

step_bare : (k : Kind) (ts : List Node) → Each Bare ts → Bare (block_step (Node-F.Tree k ts))
step_bare kind.IfStmt (a ∷ b ∷ c ∷ d ∷ []) l = tree_closes kind.IfStmt (a ∷ b ∷ branch c ∷ d ∷ []) (l.0, (l.1.0, (branch_bare (takes_else c) c l.1.1.0, (l.1.1.1.0, tt))))
step_bare k ts l = rolled k ts (rolls-Tree k ts) l

each_mapped : (f : Node → Node) (ts : List Node) → Each (λ t. Bare t → Bare (f t)) ts → Each Bare ts → Each Bare (map f ts)
each_mapped f [] h l = tt
each_mapped f (t ∷ ts) h l = (h.0 l.0, each_mapped f ts h.1 l.1)

abbrev Blocked : Node → Type 0
Blocked t = Bare t → Bare (with_blocks t)

stays : (t : Node) → with_blocks t ≡ t → Blocked t
stays t e h = subst Bare (sym e) h

blocks_bare : (t : Node) → Blocked t
blocks_bare t = by_children Blocked (
  stays Absent (search (rules, the_lemmas)),
  λ x. stays (Flag x) (search (rules, the_lemmas)),
  λ w. stays (Word w) (search (rules, the_lemmas)),
  λ x. stays (Text x) (search (rules, the_lemmas)),
  λ s. stays (Span s) (search (rules, the_lemmas)),
  λ k i. stays (Identifier k i) (search (rules, the_lemmas)),
)
    (λ ts l h. subst Bare (sym (blocks_of_list ts)) (list_closes (map with_blocks ts) (each_mapped with_blocks ts l (list_opens ts h))))
    (λ k ts l h. subst Bare (sym (blocks_of_tree k ts)) (step_bare k (map with_blocks ts) (each_mapped with_blocks ts l (tree_opens k ts h)))) t

-- ---- pairs

name_bare : (k : Kind) (i : Ident) → Bare (Identifier k i) → Bare (Identifier kind.Ident i)
name_bare k i h = text_name kind.Ident i ∙ ap (Identifier kind.Ident) (identifier_same k k (bare i) i (sym (text_name k i) ∙ h))

mutual
  set_bare : {s : Slot} {t u : Node} → Sets s t u → Bare t → Bare u
  set_bare (same t) h = h
  set_bare (after c d) h = set_bare d (set_bare c h)
  set_bare (around r t u p q c) h = tree_closes kind.ParenExpr (Span r ∷ u ∷ []) (text_span r, (set_bare c h, tt))
  set_bare (named r k i a) h = tree_closes kind.ParenExpr (Span r ∷ Identifier kind.Ident i ∷ []) (text_span r, (name_bare k i h, tt))
  set_bare (items ts us c) h = list_closes us (all_set c (list_opens ts h))
  set_bare (tree k ts us d c) h = tree_closes k us (fields_set c (tree_opens k ts h))

  all_set : {s : Slot} {ts us : List Node} → AllSet s ts us → Each Bare ts → Each Bare us
  all_set none l = l
  all_set (more c d) l = (set_bare c l.0, all_set d l.1)

  fields_set : {ss : List Slot} {ts us : List Node} → FieldsSet ss ts us → Each Bare ts → Each Bare us
  fields_set nil l = l
  fields_set (field c d) l = (set_bare c l.0, fields_set d l.1)

-- ---- identifiers at paths

get_each : (ts : List Node) (n : ℕ) (c : Node) → Each Bare ts → slice_get ts n ≡ Some c → Bare c
get_each [] n c l e = absurd (cc)
get_each (t ∷ ts) zero c l e = let is : t ≡ c = cc in subst Bare is l.0
get_each (t ∷ ts) (suc n) c l e = get_each ts n c l.1 e

abbrev Kids : Node → Type 0
Kids t = Bare t → Each Bare (children_in (out-Node t))

none_below : (t : Node) → children_in (out-Node t) ≡ [] → Kids t
none_below t e h = subst (Each Bare) (sym e) tt

kids : (t : Node) → Kids t
kids t = by_children Kids (
  none_below Absent (search (rules, the_lemmas)),
  λ x. none_below (Flag x) (search (rules, the_lemmas)),
  λ w. none_below (Word w) (search (rules, the_lemmas)),
  λ x. none_below (Text x) (search (rules, the_lemmas)),
  λ s. none_below (Span s) (search (rules, the_lemmas)),
  λ k i. none_below (Identifier k i) (search (rules, the_lemmas)),
)
    (λ ts l h. subst (Each Bare) (sym (ap children_in (outs-List ts))) (list_opens ts h))
    (λ k ts l h. subst (Each Bare) (sym (ap children_in (outs-Tree k ts))) (tree_opens k ts h)) t

clean_at : (p : Path) (w v : Place) (t : Node) (k : Kind) (i : Ident) → Bare t → place_at w t p ≡ Some (v, Identifier k i) → i.ctxt ≡ []
clean_at [] w v t k i b h =
    let e : t ≡ Identifier k i = ap (λ (q : Place × Node). q.1) (some_same (w, t) (v, Identifier k i) h) in
    ap (λ (i : Ident). i.ctxt) (sym (identifier_same k k (bare i) i (sym (text_name k i) ∙ subst Bare e b)))
clean_at (n ∷ p) w v t k i b h = by (child t n) refl (λ c e. clean_at p (place_below w t n) v c k i (get_each (children_in (out-Node t)) n c (kids t b) e)) h
  where
    by : (o : Option Node) → child t n ≡ o → ((c : Node) → child t n ≡ Some c → place_at (place_below w t n) c p ≡ Some (v, Identifier k i) → i.ctxt ≡ [])
        → given o None (λ c. place_at (place_below w t n) c p) ≡ Some (v, Identifier k i) → i.ctxt ≡ []
    by None e below h = absurd (cc)
    by (Some c) e below h = below c e h

-- ---- the answer

pub fixed_clean : FixerStaysClean
fixed_clean place t u s o f b e p w k i h =
    let whole : Bare t = subst Bare (sym e) (twice bare bare u) in
    let inner : Bare (stripped t) = sym (stripped_texts t) ∙ ap stripped whole in
    let fits = unparened_fits t (with_blocks (stripped t)) s b refl o f in
    clean_at p program_place w (fixed place t) k i (set_bare (due_set place (with_blocks (stripped t)) s fits) (blocks_bare (stripped t) inner)) h
