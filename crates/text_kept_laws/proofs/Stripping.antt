-- Where a tree loses its pairs of parentheses, lengths, leaves and names stay.
use Rattle.std.proofs.Common.{◌≡◌, ℕ, suc, ◌<◌, ◌≤◌, Bool, true, false, not, ◌&&◌, ◌||◌, IsTrue, Option, Some as Just, List, [], ◌∷◌, ◌++◌, length, map, le-leb, rules, refl, sym, ap, ◌∙◌, subst, cond, arith}
use Rattle.std.specs.Prelude.{nat_le}
use Rattle.std.specs.List.{filter, flat_map, list_all, list_any}
use Rattle.std.proofs.lemmas.Bool.Decides.{nat_tests}
use Rattle.swc_tree_marks.specs.declared.ident.Ident.{Ident}
use Rattle.swc_tree_node.specs.declared.kind.Kind.{Kind}
use Rattle.swc_tree_node.specs.declared.kind.Kind.TheVariants as kind
use Rattle.swc_tree_node.specs.declared.kind.Class.{Class}
use Rattle.swc_tree_node.specs.declared.kind.Class.TheVariants as class
use Rattle.swc_tree_node.specs.declared.slot.Content.TheVariants as content
use Rattle.swc_tree_node.specs.declared.slot.Slot.{Slot}
use Rattle.swc_tree_node.specs.declared.slot.Slot.TheVariants as slot
use Rattle.swc_tree_node.specs.declared.node.Node.{Node, Absent, Flag, Word, Text, Span, List as Many, Identifier, Tree, out-Node, the_lemmas}
use Rattle.swc_tree_node.specs.declared.node.Node.TheOpen.{Node-F}
use Rattle.swc_tree_node.specs.declared.node.Node.TheVariants.{outs-Identifier, outs-List, outs-Tree}
use Rattle.swc_tree_node.specs.Table.{is_identifier, slots_of}
use Rattle.swc_tree_node.specs.Fits.{AllFit, FieldsFit, Fits, belongs, fits, single}
use Rattle.swc_tree_node.proofs.Fit.{fits-Absent, fits-Flag, fits-Word, fits-Text, fits-Span, fits-List, tree_closes}
use Rattle.swc_tree_scoping.proofs.Remarked.{identifier_is, list_is, tree_is}
use Rattle.swc_tree_grammar.specs.Shapes.{items_in, items_of}
use Rattle.swc_tree_grammar.specs.Kinds.{has_kind_in}
use Rattle.swc_tree_grammar.specs.Writable.{constructor_key_in}
use Rattle.swc_tree_grammar.specs.Stripped.{is_empty_in, is_member, parts, parts_in, sequence, settled, strip_step, stripped, target, target_in}
use Rattle.swc_tree_grammar.specs.Targets.{all_bare, bare_in, seen as seen_of}
use Rattle.swc_tree_grammar.proofs.Induction.{Each, by_children}
use Rattle.swc_tree_grammar.proofs.Kept.{stripped_fits}
use Rattle.swc_tree_grammar.proofs.Stripped.{is_other, stripped_of_list, stripped_of_tree, stripped_other}
use Rattle.swc_tree_grammar.proofs.Walks.{bare_of_list, bare_of_tree}
use Rattle.swc_base_rename_substitution.proofs.Room.{tree_open}
use Rattle.swc_base_fixer_laws.specs.Sets.{item}
use Rattle.swc_base_fixer_laws.proofs.SetsRows.{items_open}
use Rattle.text_grammar.specs.Shaped.{at_most_one, constructor_kind, is_constructor, is_misshapen, named_kind}
use Rattle.text_checks.specs.Spelled.{has_amiss, is_amiss, is_amiss_specifier, is_misspelled, is_reserved_name, is_valueless}
use Rattle.text_kept_laws.proofs.Free.{free_list, free_tree, list_below, list_here, tree_below, tree_here}
use Rattle.text_kept_laws.proofs.Shape.{name_free}
use Rattle.text_kept_laws.proofs.Calm.{all_fail, neither, none_passes}
use Rattle.text_kept_laws.proofs.SpellingBound.{S, named}
use Rattle.text_kept_laws.proofs.Made.{C, list_calm, list_spelled, name_spelled, tree_calm, tree_spelled}
use Rattle.text_kept_laws.proofs.PairsSeen.{Pairwise, Plain, is_seen, no_items, plain_name, plain_tree, seen_never, seen_plain}
use Rattle.text_kept_laws.proofs.SetSpelled.{N, Ns}
use Rattle.text_kept_laws.proofs.Kept.{AllKept, F, ItemsKept, Kept, all_calm, all_shaped, all_spelled, kept_same, list_kept, takes, tree_kept}
use Rattle.text_kept_laws.proofs.Sequences.{Inherited, Some, each_flat, each_map, filtered, flat_some, items_have, parts_have, settled_have, settled_some}

abbrev an_expression : Slot
an_expression = slot.One (content.Node class.Expr)

-- ---- expressions, of which nothing is seen

unseen_expression : (k : Kind) → IsTrue (belongs k class.Expr) → is_seen k ≡ false
unseen_expression kind.ImportDefaultSpecifier h = seen_never (sym h)
unseen_expression kind.ImportStarAsSpecifier h = seen_never (sym h)
unseen_expression kind.ExportNamespaceSpecifier h = seen_never (sym h)
unseen_expression kind.ImportNamedSpecifier h = seen_never (sym h)
unseen_expression kind.ExportNamedSpecifier h = seen_never (sym h)
unseen_expression kind.Constructor h = seen_never (sym h)
unseen_expression kind.Import h = seen_never (sym h)
unseen_expression kind.ArrayPat h = seen_never (sym h)
unseen_expression kind.ObjectPat h = seen_never (sym h)
unseen_expression kind.TplElement h = seen_never (sym h)
unseen_expression kind.ExprOrSpread h = seen_never (sym h)
unseen_expression kind.RestPat h = seen_never (sym h)
unseen_expression kind.SwitchCase h = seen_never (sym h)
unseen_expression kind.Function h = seen_never (sym h)
unseen_expression k h = refl

misfit : {A : Type 0} (t u : Node) → t ≡ u → fits u an_expression ≡ false → Fits t an_expression → A
misfit t u e f h = seen_never (sym (sym (ap (λ t. fits t an_expression) e ∙ f) ∙ h))

expression_plain : (t : Node) → Fits t an_expression → Plain t
expression_plain t = by_children (λ t. Fits t an_expression → Plain t) (
  λ f. misfit Absent Absent refl (fits-Absent an_expression) f,
  λ x f. misfit (Flag x) (Flag x) refl (fits-Flag x an_expression) f,
  λ x f. misfit (Word x) (Word x) refl (fits-Word x an_expression) f,
  λ x f. misfit (Text x) (Text x) refl (fits-Text x an_expression) f,
  λ x f. misfit (Span x) (Span x) refl (fits-Span x an_expression) f,
  λ k i f. plain_name (Identifier k i) k i (outs-Identifier k i),
)
    (λ ts l f. misfit (Many ts) (Many ts) refl (fits-List ts an_expression) f)
    (λ k ts l f. (
    let o = tree_open k ts an_expression f in
    let same : o.0 ≡ class.Expr = let q = o.1 in cc in
    plain_tree (Tree k ts) k ts (outs-Tree k ts) (unseen_expression k (subst (λ c. IsTrue (belongs k c)) same o.3))
    )) t

-- ---- places

takes_of : (s : Slot) (c : Class) → single s ≡ Just (content.Node c) → takes s ≡ (belongs kind.ParenExpr c || belongs kind.SeqExpr c)
takes_of (slot.One (content.Node d)) c e = let same : d ≡ c = cc in ap (λ c. belongs kind.ParenExpr c || belongs kind.SeqExpr c) same
takes_of (slot.Optional (content.Node d)) c e = let same : d ≡ c = cc in ap (λ c. belongs kind.ParenExpr c || belongs kind.SeqExpr c) same
takes_of s c e = absurd (cc)

pair_takes : (ts : List Node) (s : Slot) → Fits (Tree kind.ParenExpr ts) s → takes s ≡ false → ⊥
pair_takes ts s f h = let o = tree_open kind.ParenExpr ts s f in seen_never (sym o.3 ∙ (neither (belongs kind.ParenExpr o.0) (belongs kind.SeqExpr o.0) (sym (takes_of s o.0 o.1) ∙ h)).0)

sequence_takes : (ts : List Node) (s : Slot) → Fits (Tree kind.SeqExpr ts) s → takes s ≡ false → ⊥
sequence_takes ts s f h = let o = tree_open kind.SeqExpr ts s f in seen_never (sym o.3 ∙ (neither (belongs kind.ParenExpr o.0) (belongs kind.SeqExpr o.0) (sym (takes_of s o.0 o.1) ∙ h)).1)

-- a node that is an expression before and after
as_expression : (s : Slot) (t u : Node) → Plain t → Plain u → (takes s ≡ false → constructor_key_in (out-Node u) ≡ constructor_key_in (out-Node t)) → (S t → C t → C u) → is_amiss_specifier (out-Node u) ≡ false → (F t → F u) → (S t → S u) → Kept s t u
as_expression s t u p q key calm specifier shaped spelled = record {
  seen = seen_plain t u p q;
  listed = no_items t u p.items q.items;
  key = key;
  calm = calm;
  specifier = λ f h. specifier;
  specifiers = λ f h. ap (list_any (λ t. is_amiss_specifier (out-Node t))) q.items;
  shaped = shaped;
  spelled = spelled;
}

-- lists of which the same is seen are as long
same_count : (ts us : List Node) → Pairwise ts us → length ts ≡ length us
same_count [] [] s = refl
same_count (t ∷ ts) (u ∷ us) s = ap suc (same_count ts us s.1)
same_count [] (u ∷ us) s = absurd s
same_count (t ∷ ts) [] s = absurd s

-- what may stand anywhere, by its layer
abbrev is_amiss_in : Node-F Node → Bool
is_amiss_in y = is_reserved_name y || is_valueless y

-- ---- what sequences pass on

shapes_inherited : Inherited F
shapes_inherited = record {
  of_list = list_below is_misshapen;
  of_sequence = λ a b f. (tree_below is_misshapen kind.SeqExpr (a ∷ b ∷ []) f).1.0;
  of_void = λ a b c f. (tree_below is_misshapen kind.UnaryExpr (a ∷ b ∷ c ∷ []) f).1.1.0;
}

abbrev Q : Node → Type 0
Q t = S t × C t

both_each : (ts : List Node) → Each S ts → Each C ts → Each Q ts
both_each [] f g = tt
both_each (t ∷ ts) f g = ((f.0, g.0), both_each ts f.1 g.1)

firsts : (ts : List Node) → Each Q ts → Each S ts
firsts [] f = tt
firsts (t ∷ ts) f = (f.0.0, firsts ts f.1)

seconds : (ts : List Node) → Each Q ts → Each C ts
seconds [] f = tt
seconds (t ∷ ts) f = (f.0.1, seconds ts f.1)

list_has : (ts : List Node) → S (Many ts) → Each Q ts
list_has ts f = both_each ts (list_below is_misspelled ts f) (none_passes is_amiss ts (neither false _ (list_here is_misspelled ts f)).1)

texts_inherited : Inherited Q
texts_inherited = record {
  of_list = λ ts f. list_has ts f.0;
  of_sequence = λ a b f. (
    (tree_below is_misspelled kind.SeqExpr (a ∷ b ∷ []) f.0).1.0,
    (none_passes is_amiss (a ∷ b ∷ []) (neither false _ (tree_here is_misspelled kind.SeqExpr (a ∷ b ∷ []) f.0)).1).1.0,
  );
  of_void = λ a b c f. (
    (tree_below is_misspelled kind.UnaryExpr (a ∷ b ∷ c ∷ []) f.0).1.1.0,
    (none_passes is_amiss (a ∷ b ∷ c ∷ []) (neither false _ (tree_here is_misspelled kind.UnaryExpr (a ∷ b ∷ c ∷ []) f.0)).1).1.1.0,
  );
}

-- a sequence of what is left
long : (e d : Node) (es : List Node) → is_misshapen (Node-F.Tree kind.SeqExpr (e ∷ Many (d ∷ es) ∷ [])) ≡ not (nat_le 2 (suc (length es)))
long e d es = ap (λ y. not (nat_le 2 (length (items_in y)))) (outs-List (d ∷ es))

two_long : (n : ℕ) → not (nat_le 2 (suc (suc n))) ≡ false
two_long n = ap not (le-leb 2 (suc (suc n)) (omega arith))

sequence_shaped : (a : Node) (es : List Node) → F a → Each F es → Some es → F (sequence a es)
sequence_shaped a (e ∷ []) f l h = l.0
sequence_shaped a (e ∷ d ∷ es) f l h =
    free_tree is_misshapen kind.SeqExpr (a ∷ Many (e ∷ d ∷ es) ∷ []) (long a e (d ∷ es) ∙ two_long (length es)) (f, (free_list is_misshapen (e ∷ d ∷ es) refl l, tt))
sequence_shaped a [] f l h = absurd (omega (arith, h))

sequence_spelled : (a : Node) (es : List Node) → S a → C a → Each Q es → S (sequence a es)
sequence_spelled a (e ∷ []) f c l = l.0.0
sequence_spelled a (e ∷ d ∷ es) f c l =
    let us : List Node = e ∷ d ∷ es in
    tree_spelled kind.SeqExpr (a ∷ Many us ∷ []) refl (all_fail is_amiss (a ∷ Many us ∷ []) (c, (list_calm us, tt))) (f, (list_spelled us (seconds us l) (firsts us l), tt))
sequence_spelled a [] f c l = tree_spelled kind.SeqExpr (a ∷ Many [] ∷ []) refl (all_fail is_amiss (a ∷ Many [] ∷ []) (c, (list_calm [], tt))) (f, (list_spelled [] tt tt, tt))

sequence_calm : (a : Node) (es : List Node) → Each Q es → C (sequence a es)
sequence_calm a (e ∷ []) l = l.0.1
sequence_calm a (e ∷ d ∷ es) l = tree_calm kind.SeqExpr _ refl
sequence_calm a [] l = tree_calm kind.SeqExpr _ refl

-- a shaped sequence has parts, and so has any other expression
long_some : (n : ℕ) → not (nat_le 2 n) ≡ false → 0 < n
long_some n h = grind (arith, nat_tests)

parts_some : (t : Node) → F t → Some (parts t)
parts_some t f = by (out-Node t) refl
  where
    of_sequence : (a b : Node) → F (Tree kind.SeqExpr (a ∷ b ∷ [])) → Some (items_of b)
    of_sequence a b g = long_some (length (items_of b)) (tree_here is_misshapen kind.SeqExpr (a ∷ b ∷ []) g)

    by : (y : Node-F Node) → out-Node t ≡ y → Some (parts_in t y)
    by (Node-F.Tree kind.SeqExpr (a ∷ b ∷ [])) o = of_sequence a b (subst F (tree_is t kind.SeqExpr (a ∷ b ∷ []) o) f)
    by (Node-F.Tree kind.SeqExpr []) o = omega arith
    by (Node-F.Tree kind.SeqExpr (a ∷ [])) o = omega arith
    by (Node-F.Tree kind.SeqExpr (a ∷ b ∷ c ∷ ts)) o = omega arith
    by (Node-F.Tree k ts) o = omega arith
    by (Node-F.List ts) o = omega arith
    by (Node-F.Identifier k i) o = omega arith
    by Node-F.Absent o = omega arith
    by (Node-F.Flag x) o = omega arith
    by (Node-F.Word x) o = omega arith
    by (Node-F.Text x) o = omega arith
    by (Node-F.Span x) o = omega arith

-- ---- below a node

abbrev Stays : Node → Type 0
Stays t = (s : Slot) → IsTrue (all_bare t) → Fits t s → Kept s t (stripped t)

both_of : (a b : Bool) → (a && b) ≡ true → (a ≡ true) × (b ≡ true)
both_of true b h = (refl, h)
both_of false b h = seen_never (sym h)

fields_kept : (ss : List Slot) (ts : List Node) → Each Stays ts → IsTrue (list_all all_bare ts) → FieldsFit ss ts → AllKept ss ts (map stripped ts)
fields_kept [] [] l b f = tt
fields_kept [] (t ∷ ts) l b f = absurd f
fields_kept (s ∷ ss) [] l b f = absurd f
fields_kept (s ∷ ss) (t ∷ ts) l b f = let p = both_of (all_bare t) (list_all all_bare ts) b in (l.0 s p.0 f.0, fields_kept ss ts l.1 p.1 f.1)

items_kept : (s : Slot) (ts : List Node) → Each Stays ts → IsTrue (list_all all_bare ts) → AllFit s ts → ItemsKept s ts (map stripped ts)
items_kept s [] l b f = tt
items_kept s (t ∷ ts) l b f = let p = both_of (all_bare t) (list_all all_bare ts) b in (l.0 s p.0 f.0, items_kept s ts l.1 p.1 f.1)

list_stays : (ts : List Node) → Each Stays ts → Stays (Many ts)
list_stays ts l s b f = subst (Kept s (Many ts)) (sym (stripped_of_list ts)) (list_kept s (item s) ts (map stripped ts) (items_kept (item s) ts l (sym (bare_of_list ts) ∙ b) (items_open s ts (sym (fits-List ts s) ∙ f))))

bare_below : (k : Kind) (ts : List Node) → IsTrue (all_bare (Tree k ts)) → IsTrue (list_all all_bare ts)
bare_below k ts b = (both_of (bare_in (Node-F.Tree k (map seen_of ts))) (list_all all_bare ts) (sym (bare_of_tree k ts) ∙ b)).1

tree_fits : (k : Kind) (ts : List Node) (s : Slot) → Fits (Tree k ts) s → FieldsFit (slots_of k) ts
tree_fits k ts s f = (tree_open k ts s f).4

-- a node whose kind stands among expressions
expression_fits : (k : Kind) (ts : List Node) (s : Slot) → IsTrue (not (is_identifier k)) → IsTrue (belongs k class.Expr) → Fits (Tree k ts) s → Fits (Tree k ts) an_expression
expression_fits k ts s i b f = tree_closes k ts class.Expr i b (tree_fits k ts s f)

plain_stripped : (t : Node) → IsTrue (all_bare t) → Fits t an_expression → Plain (stripped t)
plain_stripped t b f = expression_plain (stripped t) (stripped_fits t an_expression b refl f)

-- no expression is a specifier
no_specifier : (t : Node) → Plain t → N t
no_specifier t p = by (out-Node t) refl
  where
    by : (y : Node-F Node) → out-Node t ≡ y → is_amiss_specifier y ≡ false
    by (Node-F.Tree kind.ExportNamedSpecifier ts) o = seen_never (sym (ap (has_kind_in named_kind) o) ∙ p.named)
    by (Node-F.Tree k ts) o = refl
    by (Node-F.List ts) o = refl
    by (Node-F.Identifier k i) o = refl
    by Node-F.Absent o = refl
    by (Node-F.Flag x) o = refl
    by (Node-F.Word x) o = refl
    by (Node-F.Text x) o = refl
    by (Node-F.Span x) o = refl

-- ---- pairs

pair_kept : (a e : Node) (s : Slot) → Kept an_expression e (stripped e) → IsTrue (all_bare e) → Fits e an_expression → Fits (Tree kind.ParenExpr (a ∷ e ∷ [])) s → Kept s (Tree kind.ParenExpr (a ∷ e ∷ [])) (stripped e)
pair_kept a e s k b f g =
    let ts : List Node = a ∷ e ∷ [] in
    let p : Plain (stripped e) = plain_stripped e b f in
    as_expression s (Tree kind.ParenExpr ts) (stripped e) (plain_tree (Tree kind.ParenExpr ts) kind.ParenExpr ts (outs-Tree kind.ParenExpr ts) refl) p (λ h. absurd (pair_takes ts s g h))
    (λ q c. k.calm (tree_below is_misspelled kind.ParenExpr ts q).1.0 (none_passes is_amiss ts (neither false _ (tree_here is_misspelled kind.ParenExpr ts q)).1).1.0)
    (no_specifier (stripped e) p) (λ q. k.shaped (tree_below is_misshapen kind.ParenExpr ts q).1.0) (λ q. k.spelled (tree_below is_misspelled kind.ParenExpr ts q).1.0)

pair_stays : (ts : List Node) → Each Stays ts → Stays (Tree kind.ParenExpr ts)
pair_stays (a ∷ e ∷ []) l s b f =
    let below = tree_fits kind.ParenExpr (a ∷ e ∷ []) s f in
    let bare = both_of (all_bare e) true (both_of (all_bare a) (list_all all_bare (e ∷ [])) (bare_below kind.ParenExpr (a ∷ e ∷ []) b)).1 in
    subst (Kept s (Tree kind.ParenExpr (a ∷ e ∷ []))) (sym (stripped_of_tree kind.ParenExpr (a ∷ e ∷ []))) (pair_kept a e s (l.1.0 an_expression bare.0 below.1.0) bare.0 below.1.0 f)
pair_stays [] l s b f = absurd (tree_fits kind.ParenExpr [] s f)
pair_stays (a ∷ []) l s b f = absurd (tree_fits kind.ParenExpr (a ∷ []) s f).1
pair_stays (a ∷ e ∷ c ∷ ts) l s b f = absurd (tree_fits kind.ParenExpr (a ∷ e ∷ c ∷ ts) s f).1.1

-- ---- sequences

module _ (a es : Node) (s : Slot) (bare : IsTrue (all_bare (Tree kind.SeqExpr (a ∷ es ∷ [])))) (f : Fits (Tree kind.SeqExpr (a ∷ es ∷ [])) s) (l : AllKept (slots_of kind.SeqExpr) (a ∷ es ∷ []) (map stripped (a ∷ es ∷ []))) where
  abbrev both : List Node
  both = a ∷ es ∷ []

  abbrev gathered : List Node
  gathered = flat_map parts (items_of (stripped es))

  abbrev left : Node
  left = sequence (stripped a) (settled gathered)

  left_is : stripped (Tree kind.SeqExpr both) ≡ left
  left_is = stripped_of_tree kind.SeqExpr both

  plain_left : Plain left
  plain_left = subst Plain left_is (plain_stripped (Tree kind.SeqExpr both) bare (expression_fits kind.SeqExpr both s refl refl f))

  items_shaped : F (Tree kind.SeqExpr both) → Each F (items_of (stripped es))
  items_shaped g = items_have F shapes_inherited (stripped es) (l.1.0.shaped (tree_below is_misshapen kind.SeqExpr both g).1.0)

  -- as many items as before
  items_some : F (Tree kind.SeqExpr both) → Some (items_of (stripped es))
  items_some g = subst (λ n. 0 < n) (same_count (items_of es) (items_of (stripped es)) l.1.0.listed) (long_some (length (items_of es)) (tree_here is_misshapen kind.SeqExpr both g))

  gathered_shaped : F (Tree kind.SeqExpr both) → Each F gathered
  gathered_shaped g = each_flat F parts (items_of (stripped es)) (each_map F (λ t. Each F (parts t)) (parts_have F shapes_inherited) (items_of (stripped es)) (items_shaped g))

  gathered_some : F (Tree kind.SeqExpr both) → Some gathered
  gathered_some g = flat_some parts (items_of (stripped es)) (items_some g) (each_map F (λ t. Some (parts t)) parts_some (items_of (stripped es)) (items_shaped g))

  left_shaped : F (Tree kind.SeqExpr both) → F left
  left_shaped g = sequence_shaped (stripped a) (settled gathered) (l.0.shaped (tree_below is_misshapen kind.SeqExpr both g).0) (settled_have F shapes_inherited gathered (gathered_shaped g)) (settled_some gathered (gathered_some g))

  calm_fields : S (Tree kind.SeqExpr both) → Each C both
  calm_fields g = none_passes is_amiss both (neither false _ (tree_here is_misspelled kind.SeqExpr both g)).1

  gathered_spelled : S (Tree kind.SeqExpr both) → Each Q gathered
  gathered_spelled g =
      let below = tree_below is_misspelled kind.SeqExpr both g in
      let items = items_have Q texts_inherited (stripped es) (l.1.0.spelled below.1.0, l.1.0.calm below.1.0 (calm_fields g).1.0) in
      each_flat Q parts (items_of (stripped es)) (each_map Q (λ t. Each Q (parts t)) (parts_have Q texts_inherited) (items_of (stripped es)) items)

  left_spelled : S (Tree kind.SeqExpr both) → S left
  left_spelled g =
      let below = tree_below is_misspelled kind.SeqExpr both g in
      sequence_spelled (stripped a) (settled gathered) (l.0.spelled below.0) (l.0.calm below.0 (calm_fields g).0) (settled_have Q texts_inherited gathered (gathered_spelled g))

  left_calm : S (Tree kind.SeqExpr both) → C left
  left_calm g = sequence_calm (stripped a) (settled gathered) (settled_have Q texts_inherited gathered (gathered_spelled g))

  sequence_kept : Kept s (Tree kind.SeqExpr both) (stripped (Tree kind.SeqExpr both))
  sequence_kept = subst (Kept s (Tree kind.SeqExpr both)) (sym left_is)
      (as_expression s (Tree kind.SeqExpr both) left (plain_tree (Tree kind.SeqExpr both) kind.SeqExpr both (outs-Tree kind.SeqExpr both) refl) plain_left (λ h. absurd (sequence_takes both s f h))
      (λ g c. left_calm g) (no_specifier left plain_left) left_shaped left_spelled)

sequence_stays : (ts : List Node) → Each Stays ts → Stays (Tree kind.SeqExpr ts)
sequence_stays (a ∷ es ∷ []) l s b f = sequence_kept a es s b f (fields_kept (slots_of kind.SeqExpr) (a ∷ es ∷ []) l (bare_below kind.SeqExpr (a ∷ es ∷ []) b) (tree_fits kind.SeqExpr (a ∷ es ∷ []) s f))
sequence_stays [] l s b f = absurd (tree_fits kind.SeqExpr [] s f)
sequence_stays (a ∷ []) l s b f = absurd (tree_fits kind.SeqExpr (a ∷ []) s f).1
sequence_stays (a ∷ e ∷ c ∷ ts) l s b f = absurd (tree_fits kind.SeqExpr (a ∷ e ∷ c ∷ ts) s f).1.1

-- ---- assignments

target_shaped : (t : Node) → F t → F (target t)
target_shaped t f = by (out-Node t)
  where
    by : (y : Node-F Node) → F (target_in t y)
    by (Node-F.Identifier kind.Ident i) = name_free kind.BindingIdent i
    by (Node-F.Identifier k i) = f
    by (Node-F.Tree k ts) = f
    by (Node-F.List ts) = f
    by Node-F.Absent = f
    by (Node-F.Flag x) = f
    by (Node-F.Word x) = f
    by (Node-F.Text x) = f
    by (Node-F.Span x) = f

target_has : (t : Node) → Q t → Q (target t)
target_has t f = by (out-Node t) refl
  where
    bound : (i : Ident) → Q (Identifier kind.Ident i) → Q (Identifier kind.BindingIdent i)
    bound i g = (name_spelled kind.BindingIdent i (named kind.Ident i g.0), ap is_amiss_in (outs-Identifier kind.BindingIdent i) ∙ sym (ap is_amiss_in (outs-Identifier kind.Ident i)) ∙ g.1)

    by : (y : Node-F Node) → out-Node t ≡ y → Q (target_in t y)
    by (Node-F.Identifier kind.Ident i) o = bound i (subst Q (identifier_is t kind.Ident i o) f)
    by (Node-F.Identifier k i) o = f
    by (Node-F.Tree k ts) o = f
    by (Node-F.List ts) o = f
    by Node-F.Absent o = f
    by (Node-F.Flag x) o = f
    by (Node-F.Word x) o = f
    by (Node-F.Text x) o = f
    by (Node-F.Span x) o = f

assignment_kept : (s : Slot) (a o t v : Node) → AllKept (slots_of kind.AssignExpr) (a ∷ o ∷ t ∷ v ∷ []) (map stripped (a ∷ o ∷ t ∷ v ∷ []))
    → Kept s (Tree kind.AssignExpr (a ∷ o ∷ t ∷ v ∷ [])) (Tree kind.AssignExpr (stripped a ∷ stripped o ∷ target (stripped t) ∷ stripped v ∷ []))
assignment_kept s a o t v l =
    as_expression s (Tree kind.AssignExpr ts) (Tree kind.AssignExpr us) (plain ts) (plain us) (λ h. ap constructor_key_in (outs-Tree kind.AssignExpr us) ∙ sym (ap constructor_key_in (outs-Tree kind.AssignExpr ts)))
    (λ f c. tree_calm kind.AssignExpr us refl) (ap is_amiss_specifier (outs-Tree kind.AssignExpr us)) shaped spelled
  where
    ts : List Node
    ts = a ∷ o ∷ t ∷ v ∷ []

    us : List Node
    us = stripped a ∷ stripped o ∷ target (stripped t) ∷ stripped v ∷ []

    plain : (ts : List Node) → Plain (Tree kind.AssignExpr ts)
    plain ts = plain_tree (Tree kind.AssignExpr ts) kind.AssignExpr ts (outs-Tree kind.AssignExpr ts) refl

    shaped : F (Tree kind.AssignExpr (a ∷ o ∷ t ∷ v ∷ [])) → F (Tree kind.AssignExpr (stripped a ∷ stripped o ∷ target (stripped t) ∷ stripped v ∷ []))
    shaped f =
        let below = all_shaped (slots_of kind.AssignExpr) (a ∷ o ∷ t ∷ v ∷ []) (map stripped (a ∷ o ∷ t ∷ v ∷ [])) l (tree_below is_misshapen kind.AssignExpr (a ∷ o ∷ t ∷ v ∷ []) f) in
        free_tree is_misshapen kind.AssignExpr (stripped a ∷ stripped o ∷ target (stripped t) ∷ stripped v ∷ []) refl (below.0, (below.1.0, (target_shaped (stripped t) below.1.1.0, (below.1.1.1.0, tt))))

    spelled : S (Tree kind.AssignExpr (a ∷ o ∷ t ∷ v ∷ [])) → S (Tree kind.AssignExpr (stripped a ∷ stripped o ∷ target (stripped t) ∷ stripped v ∷ []))
    spelled f =
        let old : List Node = a ∷ o ∷ t ∷ v ∷ [] in
        let new : List Node = stripped a ∷ stripped o ∷ target (stripped t) ∷ stripped v ∷ [] in
        let was = tree_below is_misspelled kind.AssignExpr old f in
        let below = all_spelled (slots_of kind.AssignExpr) old (map stripped old) l was in
        let calm = all_calm (slots_of kind.AssignExpr) old (map stripped old) l was (none_passes is_amiss old (neither false _ (tree_here is_misspelled kind.AssignExpr old f)).1) in
        let bound = target_has (stripped t) (below.1.1.0, calm.1.1.0) in
        tree_spelled kind.AssignExpr new refl (all_fail is_amiss new (calm.0, (calm.1.0, (bound.1, (calm.1.1.1.0, tt))))) (below.0, (below.1.0, (bound.0, (below.1.1.1.0, tt))))

assignment_stays : (ts : List Node) → Each Stays ts → Stays (Tree kind.AssignExpr ts)
assignment_stays (a ∷ o ∷ t ∷ v ∷ []) l s b f =
    let ts : List Node = a ∷ o ∷ t ∷ v ∷ [] in
    subst (Kept s (Tree kind.AssignExpr ts)) (sym (stripped_of_tree kind.AssignExpr ts)) (assignment_kept s a o t v (fields_kept (slots_of kind.AssignExpr) ts l (bare_below kind.AssignExpr ts b) (tree_fits kind.AssignExpr ts s f)))
assignment_stays [] l s b f = absurd (tree_fits kind.AssignExpr [] s f)
assignment_stays (a ∷ []) l s b f = absurd (tree_fits kind.AssignExpr (a ∷ []) s f).1
assignment_stays (a ∷ o ∷ []) l s b f = absurd (tree_fits kind.AssignExpr (a ∷ o ∷ []) s f).1.1
assignment_stays (a ∷ o ∷ t ∷ []) l s b f = absurd (tree_fits kind.AssignExpr (a ∷ o ∷ t ∷ []) s f).1.1.1
assignment_stays (a ∷ o ∷ t ∷ v ∷ w ∷ ts) l s b f = absurd (tree_fits kind.AssignExpr (a ∷ o ∷ t ∷ v ∷ w ∷ ts) s f).1.1.1.1

-- ---- classes

-- a constructor is no empty member
member_of : (t : Node) → is_constructor t ≡ true → is_member t ≡ true
member_of t h = by (out-Node t) h
  where
    by : (y : Node-F Node) → has_kind_in constructor_kind y ≡ true → not (is_empty_in y) ≡ true
    by (Node-F.Tree kind.EmptyStmt ts) h = seen_never (sym h)
    by (Node-F.Tree k ts) h = refl
    by y h = seen_never (sym h)

constructors_left : (ts : List Node) → length (filter is_constructor (filter is_member ts)) ≡ length (filter is_constructor ts)
constructors_left [] = refl
constructors_left (t ∷ ts) = by (is_member t) (is_constructor t) refl refl (constructors_left ts)
  where
    more : (c : Bool) → length (filter is_constructor (filter is_member ts)) ≡ length (filter is_constructor ts) → length (cond c (t ∷ filter is_constructor (filter is_member ts)) (filter is_constructor (filter is_member ts))) ≡ length (cond c (t ∷ filter is_constructor ts) (filter is_constructor ts))
    more true h = ap suc h
    more false h = h

    by : (m c : Bool) → is_member t ≡ m → is_constructor t ≡ c → length (filter is_constructor (filter is_member ts)) ≡ length (filter is_constructor ts)
        → length (filter is_constructor (cond (is_member t) (t ∷ filter is_member ts) (filter is_member ts))) ≡ length (cond (is_constructor t) (t ∷ filter is_constructor ts) (filter is_constructor ts))
    by true c e g h = ap (λ m. length (filter is_constructor (cond m (t ∷ filter is_member ts) (filter is_member ts)))) e ∙ more (is_constructor t) h
    by false true e g h = seen_never (sym (member_of t g) ∙ e)
    by false false e g h = ap (λ m. length (filter is_constructor (cond m (t ∷ filter is_member ts) (filter is_member ts)))) e ∙ h ∙ sym (ap (λ c. length (cond c (t ∷ filter is_constructor ts) (filter is_constructor ts))) g)

class_kept : (s : Slot) (a h b : Node) → AllKept (slots_of kind.Class) (a ∷ h ∷ b ∷ []) (map stripped (a ∷ h ∷ b ∷ []))
    → Kept s (Tree kind.Class (a ∷ h ∷ b ∷ [])) (Tree kind.Class (stripped a ∷ stripped h ∷ Many (filter is_member (items_of (stripped b))) ∷ []))
class_kept s a h b l =
    as_expression s (Tree kind.Class (a ∷ h ∷ b ∷ [])) (Tree kind.Class us) (plain (a ∷ h ∷ b ∷ [])) (plain us) (λ z. ap constructor_key_in (outs-Tree kind.Class us) ∙ sym (ap constructor_key_in (outs-Tree kind.Class (a ∷ h ∷ b ∷ []))))
    (λ f c. tree_calm kind.Class us refl) (ap is_amiss_specifier (outs-Tree kind.Class us)) shaped spelled
  where
    members : List Node
    members = filter is_member (items_of (stripped b))

    us : List Node
    us = stripped a ∷ stripped h ∷ Many (filter is_member (items_of (stripped b))) ∷ []

    plain : (ts : List Node) → Plain (Tree kind.Class ts)
    plain ts = plain_tree (Tree kind.Class ts) kind.Class ts (outs-Tree kind.Class ts) refl

    -- the class without what is empty among its members is as long as the class
    whole : F (Tree kind.Class (a ∷ h ∷ b ∷ [])) → F (Tree kind.Class (stripped a ∷ stripped h ∷ stripped b ∷ []))
    whole f = (tree_kept s kind.Class (a ∷ h ∷ b ∷ []) (stripped a ∷ stripped h ∷ stripped b ∷ []) l).shaped f

    shaped : F (Tree kind.Class (a ∷ h ∷ b ∷ [])) → F (Tree kind.Class (stripped a ∷ stripped h ∷ Many (filter is_member (items_of (stripped b))) ∷ []))
    shaped f =
        let all : List Node = stripped a ∷ stripped h ∷ stripped b ∷ [] in
        let below = tree_below is_misshapen kind.Class all (whole f) in
        let here : not (nat_le (length (filter is_constructor (items_of (stripped b)))) 1) ≡ false = tree_here is_misshapen kind.Class all (whole f) in
        free_tree is_misshapen kind.Class (stripped a ∷ stripped h ∷ Many (filter is_member (items_of (stripped b))) ∷ [])
        (ap (λ y. not (at_most_one is_constructor (items_in y))) (outs-List (filter is_member (items_of (stripped b)))) ∙ ap (λ n. not (nat_le n 1)) (constructors_left (items_of (stripped b))) ∙ here)
        (below.0, (below.1.0, (free_list is_misshapen (filter is_member (items_of (stripped b))) refl (filtered F is_member (items_of (stripped b)) (items_have F shapes_inherited (stripped b) below.1.1.0)), tt)))

    spelled : S (Tree kind.Class (a ∷ h ∷ b ∷ [])) → S (Tree kind.Class (stripped a ∷ stripped h ∷ Many (filter is_member (items_of (stripped b))) ∷ []))
    spelled f =
        let old : List Node = a ∷ h ∷ b ∷ [] in
        let was = tree_below is_misspelled kind.Class old f in
        let below = all_spelled (slots_of kind.Class) old (map stripped old) l was in
        let calm = all_calm (slots_of kind.Class) old (map stripped old) l was (none_passes is_amiss old (neither false _ (tree_here is_misspelled kind.Class old f)).1) in
        let left : List Node = filter is_member (items_of (stripped b)) in
        let items : Each Q left = filtered Q is_member (items_of (stripped b)) (items_have Q texts_inherited (stripped b) (below.1.1.0, calm.1.1.0)) in
        let new : List Node = stripped a ∷ stripped h ∷ Many left ∷ [] in
        tree_spelled kind.Class new refl (all_fail is_amiss new (calm.0, (calm.1.0, (list_calm left, tt)))) (below.0, (below.1.0, (list_spelled left (seconds left items) (firsts left items), tt)))

class_stays : (ts : List Node) → Each Stays ts → Stays (Tree kind.Class ts)
class_stays (a ∷ h ∷ b ∷ []) l s bare f =
    let ts : List Node = a ∷ h ∷ b ∷ [] in
    subst (Kept s (Tree kind.Class ts)) (sym (stripped_of_tree kind.Class ts)) (class_kept s a h b (fields_kept (slots_of kind.Class) ts l (bare_below kind.Class ts bare) (tree_fits kind.Class ts s f)))
class_stays [] l s bare f = absurd (tree_fits kind.Class [] s f)
class_stays (a ∷ []) l s bare f = absurd (tree_fits kind.Class (a ∷ []) s f).1
class_stays (a ∷ h ∷ []) l s bare f = absurd (tree_fits kind.Class (a ∷ h ∷ []) s f).1.1
class_stays (a ∷ h ∷ b ∷ c ∷ ts) l s bare f = absurd (tree_fits kind.Class (a ∷ h ∷ b ∷ c ∷ ts) s f).1.1.1

-- ---- each node

other_stays : (k : Kind) (ts : List Node) → IsTrue (is_other k) → Each Stays ts → Stays (Tree k ts)
other_stays k ts o l s b f = subst (Kept s (Tree k ts)) (sym (stripped_other k ts o)) (tree_kept s k ts (map stripped ts) (fields_kept (slots_of k) ts l (bare_below k ts b) (tree_fits k ts s f)))

tree_stays : (k : Kind) (ts : List Node) → Each Stays ts → Stays (Tree k ts)
tree_stays kind.ParenExpr ts l = pair_stays ts l
tree_stays kind.SeqExpr ts l = sequence_stays ts l
tree_stays kind.AssignExpr ts l = assignment_stays ts l
tree_stays kind.Class ts l = class_stays ts l
tree_stays k ts l = other_stays k ts refl l

leaf_stays : (t : Node) → stripped t ≡ t → Stays t
leaf_stays t e s b f = subst (Kept s t) (sym e) (kept_same s t)

pub stays : (t : Node) → Stays t
stays t = by_children Stays (
  leaf_stays Absent (search (rules, the_lemmas)),
  λ x. leaf_stays (Flag x) (search (rules, the_lemmas)),
  λ w. leaf_stays (Word w) (search (rules, the_lemmas)),
  λ x. leaf_stays (Text x) (search (rules, the_lemmas)),
  λ s. leaf_stays (Span s) (search (rules, the_lemmas)),
  λ k i. leaf_stays (Identifier k i) (search (rules, the_lemmas)),
)
    list_stays tree_stays t
