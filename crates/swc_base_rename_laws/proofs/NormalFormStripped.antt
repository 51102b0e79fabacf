-- What is beside one another is so when pairs of parentheses, nested sequences and idle expressions go.
use Rattle.std.proofs.Common.{◌≡◌, ℕ, Bool, true, false, Option, Some, None, IsTrue, List, [], ◌∷◌, map, refl, sym, ap, ◌∙◌, subst, rules, true≢false}
use Rattle.std.specs.Prelude.{if◌then◌else◌, is_some}
use Rattle.std.specs.List.{filter, flat_map, list_any}
use Rattle.swc_tree_marks.specs.declared.span.Span.{Span as Range}
use Rattle.swc_tree_marks.specs.declared.ident.Ident.{Ident}
use Rattle.swc_tree_node.specs.declared.kind.Kind.{Kind}
use Rattle.swc_tree_node.specs.declared.kind.Kind.TheVariants as kind
use Rattle.swc_tree_node.specs.declared.kind.Word.{Word as Word'}
use Rattle.swc_tree_node.specs.declared.node.Node.{Node, Absent, Flag, Word, Text, Span, List as Many, Identifier, Tree, the_lemmas}
use Rattle.swc_tree_node.specs.declared.node.Node.TheVariants.{outs-Flag, outs-Word, outs-Text, outs-Span, outs-Identifier, outs-Tree, rolls-Tree}
use Rattle.swc_tree_node.specs.declared.node.Node.TheOpen.{Node-F}
use Rattle.swc_tree_scoping.specs.BoundNames.{Id}
use Rattle.swc_tree_scoping.specs.Shorthands.{computed_key, key_of, shorthand_key}
use Rattle.swc_tree_grammar.specs.Shapes.{items_of}
use Rattle.swc_tree_grammar.specs.Stripped.{effects, is_member, is_void, parts, parts_in, sequence, settled, strip_step, stripped, target}
use Rattle.swc_tree_grammar.proofs.Items.{items_of_list}
use Rattle.swc_tree_grammar.proofs.Stripped.{effects_of_flag, effects_of_identifier, effects_of_list, effects_of_other, effects_of_sequence, effects_of_span, effects_of_text, effects_of_void, effects_of_word, is_other, stripped_of_list, stripped_of_tree, stripped_other}
use Rattle.swc_base_rename_substitution.specs.Identifiers.{Changes, kept_name}
use Rattle.swc_base_rename_substitution.specs.Exports.{distinct, export_list, nowhere, specifier as specifier_for, specifier_to}
use Rattle.swc_base_rename_laws.proofs.NormalFormPairs.{All, Becomes, Fields, Items, Spot, Trees, even_at, flag, is_double, is_even, part, spots, property, specifier}
use Rattle.swc_base_rename_laws.proofs.NormalFormViews.{all_append, all_busy, all_end, all_filter, all_front, alone, effects_bare, is_bare, items_same, member_same, moved, moved_all, not_sequence, kinds_same, parts_single, target_same, void_same, weaken}
use Rattle.swc_base_rename_laws.proofs.Impossible.{impossible}

-- ---- leaves

strip-Absent : stripped Absent ≡ Absent
strip-Absent = search (rules, the_lemmas)

strip-Flag : (x : Bool) → stripped (Flag x) ≡ Flag x
strip-Flag x = search (rules, the_lemmas)

strip-Word : (x : Word') → stripped (Word x) ≡ Word x
strip-Word x = search (rules, the_lemmas)

strip-Text : (x : List ℕ) → stripped (Text x) ≡ Text x
strip-Text x = search (rules, the_lemmas)

strip-Span : (x : Range) → stripped (Span x) ≡ Span x
strip-Span x = search (rules, the_lemmas)

strip-Identifier : (k : Kind) (i : Ident) → stripped (Identifier k i) ≡ Identifier k i
strip-Identifier k i = search (rules, the_lemmas)

-- ---- what is made when names are written out

strip_key : (i : Ident) → stripped (key_of i) ≡ key_of i
strip_key i = search (rules, the_lemmas)

strip_computed : (i : Ident) → stripped (computed_key i) ≡ computed_key i
strip_computed i = search (rules, the_lemmas)

strip_either : (b : Bool) (i : Ident) → stripped (if b then computed_key i else key_of i) ≡ (if b then computed_key i else key_of i)
strip_either true i = strip_computed i
strip_either false i = strip_key i

strip_shorthand : (i : Ident) → stripped (shorthand_key i) ≡ shorthand_key i
strip_shorthand i = strip_either _ i

strip_specifier : (x : Id) (y : Option Id) → stripped (specifier_to x y) ≡ specifier_to x y
strip_specifier x None = search (rules, the_lemmas)
strip_specifier x (Some y) = search (rules, the_lemmas)

strip_specifiers : (m : Changes) (xs : List Id) → map stripped (map (specifier_for m) xs) ≡ map (specifier_for m) xs
strip_specifiers m [] = refl
strip_specifiers m (x ∷ xs) = ap (λ t. t ∷ map stripped (map (specifier_for m) xs)) (strip_specifier x (m x)) ∙ ap (λ ts. specifier_for m x ∷ ts) (strip_specifiers m xs)

strip_nowhere : stripped nowhere ≡ nowhere
strip_nowhere = strip-Span _

four : (k : Kind) (a b c d a' b' c' d' : Node) → IsTrue (is_other k) → stripped a ≡ a' → stripped b ≡ b' → stripped c ≡ c' → stripped d ≡ d'
    → stripped (Tree k (a ∷ b ∷ c ∷ d ∷ [])) ≡ Tree k (a' ∷ b' ∷ c' ∷ d' ∷ [])
four k a b c d a' b' c' d' o e f g h = stripped_other k (a ∷ b ∷ c ∷ d ∷ []) o ∙ (λ i. Tree k (e i ∷ f i ∷ g i ∷ h i ∷ []))

three : (k : Kind) (a b c a' b' c' : Node) → IsTrue (is_other k) → stripped a ≡ a' → stripped b ≡ b' → stripped c ≡ c'
    → stripped (Tree k (a ∷ b ∷ c ∷ [])) ≡ Tree k (a' ∷ b' ∷ c' ∷ [])
three k a b c a' b' c' o e f g = stripped_other k (a ∷ b ∷ c ∷ []) o ∙ (λ i. Tree k (e i ∷ f i ∷ g i ∷ []))

two : (k : Kind) (a b a' b' : Node) → IsTrue (is_other k) → stripped a ≡ a' → stripped b ≡ b' → stripped (Tree k (a ∷ b ∷ [])) ≡ Tree k (a' ∷ b' ∷ [])
two k a b a' b' o e f = stripped_other k (a ∷ b ∷ []) o ∙ (λ i. Tree k (e i ∷ f i ∷ []))

pub strip_exports : (m : Changes) (xs : List Id) → stripped (export_list m xs) ≡ export_list m xs
strip_exports m xs = four kind.NamedExport nowhere (Many (map (specifier_for m) xs)) Absent Absent _ _ _ _ refl strip_nowhere
    (stripped_of_list (map (specifier_for m) xs) ∙ ap Many (strip_specifiers m xs)) strip-Absent strip-Absent

double_other : (s : Spot) (k : Kind) → is_double s k ≡ true → IsTrue (is_other k)
double_other (part b) kind.ImportNamedSpecifier h = refl
double_other (part b) k h = impossible h
double_other specifier kind.ExportNamedSpecifier h = refl
double_other specifier k h = impossible h
double_other property k h = impossible h

no_pair : (s : Spot) → is_even s kind.ParenExpr ≡ false
no_pair (part b) = refl
no_pair property = refl
no_pair specifier = refl

no_sequence : (s : Spot) → is_even s kind.SeqExpr ≡ false
no_sequence (part b) = refl
no_sequence property = refl
no_sequence specifier = refl

double_bare : (s : Spot) (k : Kind) → is_double s k ≡ true → is_bare k ≡ true
double_bare (part b) kind.ImportNamedSpecifier h = refl
double_bare (part b) k h = impossible h
double_bare specifier kind.ExportNamedSpecifier h = refl
double_bare specifier k h = impossible h
double_bare property k h = impossible h

parts_of_sequence : (a : Node) (ts : List Node) → parts (Tree kind.SeqExpr (a ∷ Many ts ∷ [])) ≡ ts
parts_of_sequence a ts = ap (parts_in (Tree kind.SeqExpr (a ∷ Many ts ∷ []))) (outs-Tree kind.SeqExpr (a ∷ Many ts ∷ [])) ∙ items_of_list ts

-- ---- sequences

module _ (m : Changes) (declared : Node → List Id) where
  abbrev B : Bool → Spot → Node → Node → Type 0
  B = Becomes m declared

  abbrev A : Bool → Spot → List Node → List Node → Type 0
  A = All m declared

  abbrev T : Spot → Kind → List Node → Kind → List Node → Type 0
  T = Trees m declared

  single : (k l : Kind) (ts us : List Node) → parts (Tree k ts) ≡ Tree k ts ∷ [] → parts (Tree l us) ≡ Tree l us ∷ [] → T (part true) k ts l us
      → A true (part true) (parts (Tree k ts)) (parts (Tree l us))
  single k l ts us e f h = moved_all m declared true (part true) _ _ _ _ e f (alone m declared (Tree k ts) (Tree l us) (Becomes.tree true (part true) k l ts us h))

  nested_parts : (l : Kind) (ts us : List Node) → T (part true) kind.SeqExpr ts l us → A true (part true) (parts (Tree kind.SeqExpr ts)) (parts (Tree l us))
  nested_parts l ts us (Trees.even _ _ _ _ e _) = absurd (cc)
  nested_parts l ts us (Trees.sequence a b ts0 us0 h k) = moved_all m declared true (part true) _ ts0 _ us0 (parts_of_sequence a ts0) (parts_of_sequence b us0) k
  nested_parts l ts us (Trees.both_names _ _ _ _ _ _ _ _ e _ _ _) = absurd (cc)
  nested_parts l ts us (Trees.one_stays _ _ _ _ _ _ e _ _ _) = absurd (cc)
  nested_parts l ts us (Trees.one_changes _ _ _ _ _ _ _ e _ _) = absurd (cc)

  tree_parts : (k l : Kind) (ts us : List Node) → T (part true) k ts l us → A true (part true) (parts (Tree k ts)) (parts (Tree l us))
  tree_parts kind.SeqExpr l ts us h = nested_parts l ts us h
  tree_parts k l ts us h = single k l ts us (parts_single k ts refl) (parts_single l us (sym (kinds_same m declared not_sequence refl (part true) k ts l us h))) h

  parts_same : (t u : Node) → B true (part true) t u → A true (part true) (parts t) (parts u)
  parts_same t u (Becomes.tree _ _ k l ts us h) = tree_parts k l ts us h
  parts_same t u (Becomes.a_flag _ _ x) = moved_all m declared true (part true) _ _ _ _ (ap (parts_in (Flag x)) (outs-Flag x)) (ap (parts_in (Flag x)) (outs-Flag x)) (alone m declared (Flag x) (Flag x) (Becomes.a_flag true (part true) x))
  parts_same t u (Becomes.a_word _ _ x) = moved_all m declared true (part true) _ _ _ _ (ap (parts_in (Word x)) (outs-Word x)) (ap (parts_in (Word x)) (outs-Word x)) (alone m declared (Word x) (Word x) (Becomes.a_word true (part true) x))
  parts_same t u (Becomes.a_text _ _ x) = moved_all m declared true (part true) _ _ _ _ (ap (parts_in (Text x)) (outs-Text x)) (ap (parts_in (Text x)) (outs-Text x)) (alone m declared (Text x) (Text x) (Becomes.a_text true (part true) x))
  parts_same t u (Becomes.a_span _ _ x) = moved_all m declared true (part true) _ _ _ _ (ap (parts_in (Span x)) (outs-Span x)) (ap (parts_in (Span x)) (outs-Span x)) (alone m declared (Span x) (Span x) (Becomes.a_span true (part true) x))
  parts_same t u (Becomes.name _ _ k i j a) = moved_all m declared true (part true) _ _ _ _ (ap (parts_in (Identifier k i)) (outs-Identifier k i)) (ap (parts_in (Identifier k j)) (outs-Identifier k j))
      (alone m declared (Identifier k i) (Identifier k j) (Becomes.name true (part true) k i j a))

  all_parts : (ts us : List Node) → A true (part true) ts us → A true (part true) (flat_map parts ts) (flat_map parts us)
  all_parts ts us (All.none _ _) = All.none true (part true)
  all_parts ts us (All.more _ _ t u ts0 us0 h l) = all_append m declared true (part true) (parts t) (parts u) (flat_map parts ts0) (flat_map parts us0) (parts_same t u h) (all_parts ts0 us0 l)

  -- ---- what is left of values that are dropped

  abbrev Left : Node → Node → Type 0
  Left t u = A true (part true) (effects t) (effects u)

  kept_whole : (t u : Node) → effects t ≡ t ∷ [] → effects u ≡ u ∷ [] → B true (part true) t u → Left t u
  kept_whole t u e f h = moved_all m declared true (part true) _ _ _ _ e f (alone m declared t u h)

  dropped_value : (x : Bool) (a b c d o p : Node) → is_void a ≡ x → is_void b ≡ x → Left c d
      → B true (part true) (Tree kind.UnaryExpr (o ∷ a ∷ c ∷ [])) (Tree kind.UnaryExpr (p ∷ b ∷ d ∷ []))
      → Left (Tree kind.UnaryExpr (o ∷ a ∷ c ∷ [])) (Tree kind.UnaryExpr (p ∷ b ∷ d ∷ []))
  dropped_value true a b c d o p e f h k = moved_all m declared true (part true) _ _ _ _ (effects_of_void o a c e) (effects_of_void p b d f) h
  dropped_value false a b c d o p e f h k = kept_whole _ _ (effects_of_other o a c e) (effects_of_other p b d f) k

  -- the same of what stands where a value is needed; elsewhere nothing
  abbrev LeftAt : Spot → Node → Node → Type 0
  LeftAt (part true) t u = Left t u
  LeftAt s t u = Unit {0}

  abbrev LeftIf : Bool → Spot → Node → Node → Type 0
  LeftIf true s t u = LeftAt s t u
  LeftIf false s t u = Unit {0}

  abbrev AllLeft : Bool → Spot → List Node → List Node → Type 0
  AllLeft true (part true) ts us = A true (part true) (flat_map effects ts) (flat_map effects us)
  AllLeft g s ts us = Unit {0}

  abbrev FieldsLeft : List (Bool × Bool) → List Node → List Node → Type 0
  FieldsLeft (x ∷ ss) (t ∷ ts) (u ∷ us) = LeftIf x.0 (part x.1) t u × FieldsLeft ss ts us
  FieldsLeft ss ts us = Unit {0}

  left_if : (g : Bool) (s : Spot) (t u : Node) → LeftAt s t u → LeftIf g s t u
  left_if true s t u h = h
  left_if false s t u h = tt

  whole_at : (s : Spot) (t u : Node) → effects t ≡ t ∷ [] → effects u ≡ u ∷ [] → B true s t u → LeftAt s t u
  whole_at (part true) t u e f h = kept_whole t u e f h
  whole_at (part false) t u e f h = tt
  whole_at property t u e f h = tt
  whole_at specifier t u e f h = tt

  bare_whole : (s : Spot) (k l : Kind) (ts us : List Node) → is_bare k ≡ true → is_bare l ≡ true → T s k ts l us → LeftAt s (Tree k ts) (Tree l us)
  bare_whole s k l ts us e f h = whole_at s (Tree k ts) (Tree l us) (effects_bare k ts e) (effects_bare l us f) (Becomes.tree true s k l ts us h)

  unary_left : (ts us : List Node) → Fields m declared (spots true kind.UnaryExpr) ts us → FieldsLeft (spots true kind.UnaryExpr) ts us → Left (Tree kind.UnaryExpr ts) (Tree kind.UnaryExpr us)
  unary_left ts us (Fields.next _ _ _ a0 a1 _ _ a (Fields.next _ _ _ b0 b1 _ _ b (Fields.next _ _ _ c0 c1 _ _ c Fields.end))) l =
      dropped_value (is_void b1) b0 b1 c0 c1 a0 a1 (void_same m declared true false b0 b1 b) refl l.1.1.0
      (Becomes.tree true (part true) kind.UnaryExpr kind.UnaryExpr _ _ (Trees.even (part true) kind.UnaryExpr _ _ refl (Fields.next _ _ _ a0 a1 _ _ a (Fields.next _ _ _ b0 b1 _ _ b (Fields.next _ _ _ c0 c1 _ _ c Fields.end)))))

  even_left : (k : Kind) (ts us : List Node) → even_at true k ≡ true → Fields m declared (spots true k) ts us → FieldsLeft (spots true k) ts us → Left (Tree k ts) (Tree k us)
  even_left kind.SeqExpr ts us e f l = absurd (true≢false (sym e))
  even_left kind.UnaryExpr ts us e f l = unary_left ts us f l
  even_left k ts us e f l = bare_whole (part true) k k ts us refl refl (Trees.even (part true) k ts us e f)

  even_left_at : (s : Spot) (k : Kind) (ts us : List Node) → is_even s k ≡ true → Fields m declared (spots (flag s) k) ts us → FieldsLeft (spots (flag s) k) ts us → LeftAt s (Tree k ts) (Tree k us)
  even_left_at (part true) k ts us e f l = even_left k ts us e f l
  even_left_at (part false) k ts us e f l = tt
  even_left_at property k ts us e f l = tt
  even_left_at specifier k ts us e f l = tt

  none_left : (g : Bool) (s : Spot) → AllLeft g s [] []
  none_left true (part true) = All.none true (part true)
  none_left true (part false) = tt
  none_left true property = tt
  none_left true specifier = tt
  none_left false s = tt

  more_left : (g : Bool) (s : Spot) (t u : Node) (ts us : List Node) → LeftIf g s t u → AllLeft g s ts us → AllLeft g s (t ∷ ts) (u ∷ us)
  more_left true (part true) t u ts us h l = all_append m declared true (part true) (effects t) (effects u) (flat_map effects ts) (flat_map effects us) h l
  more_left true (part false) t u ts us h l = tt
  more_left true property t u ts us h l = tt
  more_left true specifier t u ts us h l = tt
  more_left false s t u ts us h l = tt

  mutual
    effects_same : (g : Bool) (s : Spot) (t u : Node) → B g s t u → LeftIf g s t u
    effects_same g s t u (Becomes.absent s0) = tt
    effects_same g s t u (Becomes.a_flag g0 s0 x) = left_if g0 s0 _ _ (whole_at s0 (Flag x) (Flag x) (effects_of_flag x) (effects_of_flag x) (Becomes.a_flag true s0 x))
    effects_same g s t u (Becomes.a_word g0 s0 x) = left_if g0 s0 _ _ (whole_at s0 (Word x) (Word x) (effects_of_word x) (effects_of_word x) (Becomes.a_word true s0 x))
    effects_same g s t u (Becomes.a_text g0 s0 x) = left_if g0 s0 _ _ (whole_at s0 (Text x) (Text x) (effects_of_text x) (effects_of_text x) (Becomes.a_text true s0 x))
    effects_same g s t u (Becomes.a_span g0 s0 x) = left_if g0 s0 _ _ (whole_at s0 (Span x) (Span x) (effects_of_span x) (effects_of_span x) (Becomes.a_span true s0 x))
    effects_same g s t u (Becomes.name g0 s0 k i j a) =
        left_if g0 s0 _ _ (whole_at s0 (Identifier k i) (Identifier k j) (effects_of_identifier k i) (effects_of_identifier k j) (Becomes.name true s0 k i j a))
    effects_same g s t u (Becomes.short g0 k i j a) = left_if g0 property _ _ tt
    effects_same g s t u (Becomes.list h b ts us l) = tt
    effects_same g s t u (Becomes.tree g0 s0 k l ts us h) = left_if g0 s0 _ _ (tree_effects s0 k l ts us h)

    tree_effects : (s : Spot) (k l : Kind) (ts us : List Node) → T s k ts l us → LeftAt s (Tree k ts) (Tree l us)
    tree_effects s k l ts us (Trees.even s0 k0 ts0 us0 e f) = even_left_at s0 k0 ts0 us0 e f (fields_effects (spots (flag s0) k0) ts0 us0 f)
    tree_effects s k l ts us (Trees.pair a b t u h j) = bare_whole _ _ _ _ _ refl refl (Trees.pair a b t u h j)
    tree_effects s k l ts us (Trees.sequence a b ts0 us0 h j) =
        moved_all m declared true (part true) _ (flat_map effects ts0) _ (flat_map effects us0) (effects_of_sequence a (Many ts0) ∙ effects_of_list ts0) (effects_of_sequence b (Many us0) ∙ effects_of_list us0)
        (all_effects true (part true) ts0 us0 j)
    tree_effects s k l ts us (Trees.object f a b ts0 us0 h j) = bare_whole _ _ _ _ _ refl refl (Trees.object f a b ts0 us0 h j)
    tree_effects s k l ts us (Trees.key_stays f a b i t u n h j) = bare_whole _ _ _ _ _ refl refl (Trees.key_stays f a b i t u n h j)
    tree_effects s k l ts us (Trees.key_alone f a i j h) = bare_whole _ _ _ _ _ refl refl (Trees.key_alone f a i j h)
    tree_effects s k l ts us (Trees.key_default f a i j t u h n) = bare_whole _ _ _ _ _ refl refl (Trees.key_default f a i j t u h n)
    tree_effects s k l ts us (Trees.both_names s0 k0 a b o p t u e h i j) = bare_whole s0 k0 k0 _ _ (double_bare s0 k0 e) (double_bare s0 k0 e) (Trees.both_names s0 k0 a b o p t u e h i j)
    tree_effects s k l ts us (Trees.one_stays s0 k0 a b o p e h i j) = bare_whole s0 k0 k0 _ _ (double_bare s0 k0 e) (double_bare s0 k0 e) (Trees.one_stays s0 k0 a b o p e h i j)
    tree_effects s k l ts us (Trees.one_changes s0 k0 a b n i j e h o) = bare_whole s0 k0 k0 _ _ (double_bare s0 k0 e) (double_bare s0 k0 e) (Trees.one_changes s0 k0 a b n i j e h o)
    tree_effects s k l ts us (Trees.exports f a b ts0 us0 c d h i j) = bare_whole _ _ _ _ _ refl refl (Trees.exports f a b ts0 us0 c d h i j)
    tree_effects s k l ts us (Trees.reexports f a b ts0 us0 xs ys c d h i x j) = bare_whole _ _ _ _ _ refl refl (Trees.reexports f a b ts0 us0 xs ys c d h i x j)
    tree_effects s k l ts us (Trees.program f a b ts0 us0 c d h i j) = bare_whole _ _ _ _ _ refl refl (Trees.program f a b ts0 us0 c d h i j)

    all_effects : (g : Bool) (s : Spot) (ts us : List Node) → A g s ts us → AllLeft g s ts us
    all_effects g s ts us (All.none g0 s0) = none_left g0 s0
    all_effects g s ts us (All.more g0 s0 t u ts0 us0 h l) = more_left g0 s0 t u ts0 us0 (effects_same g0 s0 t u h) (all_effects g0 s0 ts0 us0 l)

    fields_effects : (ss : List (Bool × Bool)) (ts us : List Node) → Fields m declared ss ts us → FieldsLeft ss ts us
    fields_effects ss ts us Fields.end = tt
    fields_effects ss ts us (Fields.next g b ss0 t u ts0 us0 h l) = (effects_same g (part b) t u h, fields_effects ss0 ts0 us0 l)

  all_settled : (ts us : List Node) → A true (part true) ts us → A true (part true) (settled ts) (settled us)
  all_settled ts us l =
      let start = all_effects true (part true) _ _ (all_front m declared true true ts us l) in
      all_append m declared true (part true) _ _ _ _ (all_busy m declared true true _ _ start) (all_end m declared true true ts us l)

  in_sequence : (g : Bool) (a b : Node) (ts us : List Node) → B true (part false) a b → A true (part true) ts us → B g (part true) (sequence a ts) (sequence b us)
  in_sequence g a b ts us h (All.none _ _) = Becomes.tree g (part true) kind.SeqExpr kind.SeqExpr _ _ (Trees.sequence a b [] [] h (All.none true (part true)))
  in_sequence g a b ts us h (All.more _ _ t u _ _ k (All.none _ _)) = weaken m declared g (part true) t u k
  in_sequence g a b ts us h (All.more _ _ t u _ _ k (All.more _ _ v w ts0 us0 j l)) =
      Becomes.tree g (part true) kind.SeqExpr kind.SeqExpr _ _ (Trees.sequence a b (t ∷ v ∷ ts0) (u ∷ w ∷ us0) h (All.more true (part true) t u _ _ k (All.more true (part true) v w ts0 us0 j l)))

-- ---- the tree

module _ (m : Changes) (before after : Node → List Id) (kept : (t : Node) → before t ≡ after (stripped t)) where
  abbrev C : Bool → Spot → Node → Node → Type 0
  C = Becomes m after

  goes : (g : Bool) (s : Spot) (t t' u u' : Node) → t ≡ t' → u ≡ u' → C g s t' u' → C g s t u
  goes = moved m after

  assigned : (g : Bool) (s : Spot) (ts us : List Node) → is_even s kind.AssignExpr ≡ true → Fields m after (spots (flag s) kind.AssignExpr) ts us
      → C g s (strip_step (Node-F.Tree kind.AssignExpr ts)) (strip_step (Node-F.Tree kind.AssignExpr us))
  assigned g s ts us e (Fields.next _ _ _ a0 a1 _ _ a (Fields.next _ _ _ b0 b1 _ _ b (Fields.next _ _ _ c0 c1 _ _ c (Fields.next _ _ _ d0 d1 _ _ d Fields.end)))) =
      Becomes.tree g s kind.AssignExpr kind.AssignExpr _ _ (Trees.even s kind.AssignExpr _ _ e
      (Fields.next _ _ _ a0 a1 _ _ a (Fields.next _ _ _ b0 b1 _ _ b (Fields.next _ _ _ (target c0) (target c1) _ _ (target_same m after true true c0 c1 c) (Fields.next _ _ _ d0 d1 _ _ d Fields.end)))))

  class_stripped : (g : Bool) (s : Spot) (ts us : List Node) → is_even s kind.Class ≡ true → Fields m after (spots (flag s) kind.Class) ts us
      → C g s (strip_step (Node-F.Tree kind.Class ts)) (strip_step (Node-F.Tree kind.Class us))
  class_stripped g s ts us e (Fields.next _ _ _ a0 a1 _ _ a (Fields.next _ _ _ b0 b1 _ _ b (Fields.next _ _ _ c0 c1 _ _ c Fields.end))) =
      let (h, l) = items_same m after false false c0 c1 c in
      let kept = all_filter m after h false is_member (λ t u. member_same m after h false t u) (items_of c0) (items_of c1) l in
      Becomes.tree g s kind.Class kind.Class _ _ (Trees.even s kind.Class _ _ e
      (Fields.next _ _ _ a0 a1 _ _ a (Fields.next _ _ _ b0 b1 _ _ b (Fields.next _ _ _ (Many (filter is_member (items_of c0))) (Many (filter is_member (items_of c1))) _ _ (Becomes.list h false _ _ kept) Fields.end))))

  even_step : (g : Bool) (s : Spot) (k : Kind) (ts us : List Node) → is_even s k ≡ true → Fields m after (spots (flag s) k) ts us → C g s (strip_step (Node-F.Tree k ts)) (strip_step (Node-F.Tree k us))
  even_step g s kind.AssignExpr ts us e f = assigned g s ts us e f
  even_step g s kind.Class ts us e f = class_stripped g s ts us e f
  even_step g s kind.ParenExpr ts us e f = let n = no_pair s in absurd (cc)
  even_step g s kind.SeqExpr ts us e f = let n = no_sequence s in absurd (cc)
  even_step g s k ts us e f = goes g s _ _ _ _ (rolls-Tree k ts) (rolls-Tree k us) (Becomes.tree g s k k ts us (Trees.even s k ts us e f))

  sequence_is : (a : Node) (ts : List Node) → stripped (Tree kind.SeqExpr (a ∷ Many ts ∷ [])) ≡ sequence (stripped a) (settled (flat_map parts (map stripped ts)))
  sequence_is a ts = stripped_of_tree kind.SeqExpr (a ∷ Many ts ∷ []) ∙ ap (λ es. sequence (stripped a) (settled (flat_map parts es))) (ap items_of (stripped_of_list ts) ∙ items_of_list (map stripped ts))

  moved_items : (t t' u u' : Node) (ts us : List Node) → t ≡ t' → u ≡ u' → Items m after (t' ∷ ts) (u' ∷ us) → Items m after (t ∷ ts) (u ∷ us)
  moved_items t t' u u' ts us e f h = subst (λ u. Items m after (t ∷ ts) (u ∷ us)) (sym f) (subst (λ t. Items m after (t ∷ ts) (u' ∷ us)) (sym e) h)

  split_moved : (t t' u v v' : Node) (ts us : List Node) → t ≡ t' → v ≡ v' → Items m after (t' ∷ ts) (u ∷ v' ∷ us) → Items m after (t ∷ ts) (u ∷ v ∷ us)
  split_moved t t' u v v' ts us e f h = subst (λ v. Items m after (t ∷ ts) (u ∷ v ∷ us)) (sym f) (subst (λ t. Items m after (t ∷ ts) (u ∷ v' ∷ us)) (sym e) h)

  mutual
    pub strip_becomes : (g : Bool) (s : Spot) (t u : Node) → Becomes m before g s t u → C g s (stripped t) (stripped u)
    strip_becomes g s t u (Becomes.absent s0) = goes false s0 _ _ _ _ strip-Absent strip-Absent (Becomes.absent s0)
    strip_becomes g s t u (Becomes.a_flag g0 s0 x) = goes g0 s0 _ _ _ _ (strip-Flag x) (strip-Flag x) (Becomes.a_flag g0 s0 x)
    strip_becomes g s t u (Becomes.a_word g0 s0 x) = goes g0 s0 _ _ _ _ (strip-Word x) (strip-Word x) (Becomes.a_word g0 s0 x)
    strip_becomes g s t u (Becomes.a_text g0 s0 x) = goes g0 s0 _ _ _ _ (strip-Text x) (strip-Text x) (Becomes.a_text g0 s0 x)
    strip_becomes g s t u (Becomes.a_span g0 s0 x) = goes g0 s0 _ _ _ _ (strip-Span x) (strip-Span x) (Becomes.a_span g0 s0 x)
    strip_becomes g s t u (Becomes.name g0 s0 k i j a) = goes g0 s0 _ _ _ _ (strip-Identifier k i) (strip-Identifier k j) (Becomes.name g0 s0 k i j a)
    strip_becomes g s t u (Becomes.short g0 k i j a) =
        goes g0 property _ _ _ _ (strip-Identifier k i) (two kind.KeyValueProp (shorthand_key i) (Identifier k j) _ _ refl (strip_shorthand i) (strip-Identifier k j)) (Becomes.short g0 k i j a)
    strip_becomes g s t u (Becomes.list h b ts us l) = goes false (part b) _ _ _ _ (stripped_of_list ts) (stripped_of_list us) (Becomes.list h b _ _ (strip_all h (part b) ts us l))
    strip_becomes g s t u (Becomes.tree g0 s0 k l ts us h) = strip_trees g0 s0 k l ts us h

    strip_trees : (g : Bool) (s : Spot) (k l : Kind) (ts us : List Node) → Trees m before s k ts l us → C g s (stripped (Tree k ts)) (stripped (Tree l us))
    strip_trees g s k l ts us (Trees.even s0 k0 ts0 us0 e f) =
        goes g s0 _ _ _ _ (stripped_of_tree k0 ts0) (stripped_of_tree k0 us0) (even_step g s0 k0 _ _ e (strip_fields (spots (flag s0) k0) ts0 us0 f))
    strip_trees g s k l ts us (Trees.pair a0 a1 t0 u0 a h) =
        goes g (part true) _ _ _ _ (stripped_of_tree kind.ParenExpr (a0 ∷ t0 ∷ [])) (stripped_of_tree kind.ParenExpr (a1 ∷ u0 ∷ [])) (weaken m after g (part true) _ _ (strip_becomes true (part true) t0 u0 h))
    strip_trees g s k l ts us (Trees.sequence a0 a1 ts0 us0 a h) =
        goes g (part true) _ _ _ _ (sequence_is a0 ts0) (sequence_is a1 us0)
        (in_sequence m after g _ _ _ _ (strip_becomes true (part false) a0 a1 a) (all_settled m after _ _ (all_parts m after _ _ (strip_all true (part true) ts0 us0 h))))
    strip_trees g s k l ts us (Trees.object f a0 a1 ts0 us0 a h) =
        goes g (part f) _ _ _ _ (two kind.ObjectLit a0 (Many ts0) _ _ refl refl (stripped_of_list ts0)) (two kind.ObjectLit a1 (Many us0) _ _ refl refl (stripped_of_list us0))
        (Becomes.tree g (part f) _ _ _ _ (Trees.object f _ _ _ _ (strip_becomes true (part false) a0 a1 a) (strip_all true property ts0 us0 h)))
    strip_trees g s k l ts us (Trees.key_stays f a0 a1 i t0 u0 n a h) =
        goes g (part f) _ _ _ _ (three kind.AssignPatProp a0 (Identifier kind.BindingIdent i) t0 _ _ _ refl refl (strip-Identifier kind.BindingIdent i) refl)
        (three kind.AssignPatProp a1 (Identifier kind.BindingIdent i) u0 _ _ _ refl refl (strip-Identifier kind.BindingIdent i) refl)
        (Becomes.tree g (part f) _ _ _ _ (Trees.key_stays f _ _ i _ _ n (strip_becomes true (part false) a0 a1 a) (strip_becomes false (part true) t0 u0 h)))
    strip_trees g s k l ts us (Trees.key_alone f a0 i j a) =
        goes g (part f) _ _ _ _ (three kind.AssignPatProp a0 (Identifier kind.BindingIdent i) Absent _ _ _ refl refl (strip-Identifier kind.BindingIdent i) strip-Absent)
        (two kind.KeyValuePatProp (key_of i) (Identifier kind.BindingIdent j) _ _ refl (strip_key i) (strip-Identifier kind.BindingIdent j))
        (Becomes.tree g (part f) _ _ _ _ (Trees.key_alone f _ i j a))
    strip_trees g s k l ts us (Trees.key_default f a0 i j t0 u0 a h) =
        goes g (part f) _ _ _ _ (three kind.AssignPatProp a0 (Identifier kind.BindingIdent i) t0 _ _ _ refl refl (strip-Identifier kind.BindingIdent i) refl)
        (two kind.KeyValuePatProp (key_of i) (Tree kind.AssignPat (Span i.span ∷ Identifier kind.BindingIdent j ∷ u0 ∷ [])) _ _ refl (strip_key i)
        (three kind.AssignPat (Span i.span) (Identifier kind.BindingIdent j) u0 _ _ _ refl (strip-Span i.span) (strip-Identifier kind.BindingIdent j) refl))
        (Becomes.tree g (part f) _ _ _ _ (Trees.key_default f _ i j _ _ a (strip_becomes true (part true) t0 u0 h)))
    strip_trees g s k l ts us (Trees.both_names s0 k0 a0 a1 b0 b1 c0 c1 e a b c) =
        goes g s0 _ _ _ _ (three k0 a0 b0 c0 _ _ _ (double_other s0 k0 e) refl refl refl) (three k0 a1 b1 c1 _ _ _ (double_other s0 k0 e) refl refl refl)
        (Becomes.tree g s0 _ _ _ _ (Trees.both_names s0 k0 _ _ _ _ _ _ e (strip_becomes true (part false) a0 a1 a) (strip_becomes true (part true) b0 b1 b) (strip_becomes true (part false) c0 c1 c)))
    strip_trees g s k l ts us (Trees.one_stays s0 k0 a0 a1 b0 b1 e a b c) =
        goes g s0 _ _ _ _ (three k0 a0 b0 Absent _ _ _ (double_other s0 k0 e) refl refl strip-Absent) (three k0 a1 b1 Absent _ _ _ (double_other s0 k0 e) refl refl strip-Absent)
        (Becomes.tree g s0 _ _ _ _ (Trees.one_stays s0 k0 _ _ _ _ e (strip_becomes true (part false) a0 a1 a) (strip_becomes true (part true) b0 b1 b) (strip_becomes true (part false) b0 b1 c)))
    strip_trees g s k l ts us (Trees.one_changes s0 k0 a0 a1 n i j e a b) =
        goes g s0 _ _ _ _ (three k0 a0 (Identifier n i) Absent _ _ _ (double_other s0 k0 e) refl (strip-Identifier n i) strip-Absent)
        (three k0 a1 (Identifier n j) (Identifier kind.Ident (kept_name i)) _ _ _ (double_other s0 k0 e) refl (strip-Identifier n j) (strip-Identifier kind.Ident (kept_name i)))
        (Becomes.tree g s0 _ _ _ _ (Trees.one_changes s0 k0 _ _ n i j e (strip_becomes true (part false) a0 a1 a) b))
    strip_trees g s k l ts us (Trees.exports f a0 a1 ts0 us0 c0 c1 a h c) =
        goes g (part f) _ _ _ _ (four kind.NamedExport a0 (Many ts0) Absent c0 _ _ _ _ refl refl (stripped_of_list ts0) strip-Absent refl)
        (four kind.NamedExport a1 (Many us0) Absent c1 _ _ _ _ refl refl (stripped_of_list us0) strip-Absent refl)
        (Becomes.tree g (part f) _ _ _ _ (Trees.exports f _ _ _ _ _ _ (strip_becomes true (part false) a0 a1 a) (strip_all true specifier ts0 us0 h) (strip_becomes false (part false) c0 c1 c)))
    strip_trees g s k l ts us (Trees.reexports f a0 a1 ts0 us0 xs ys c0 c1 a h x c) =
        goes g (part f) _ _ _ _ (four kind.NamedExport a0 (Many ts0) (Tree kind.Str xs) c0 _ _ _ _ refl refl (stripped_of_list ts0) (stripped_other kind.Str xs refl) refl)
        (four kind.NamedExport a1 (Many us0) (Tree kind.Str ys) c1 _ _ _ _ refl refl (stripped_of_list us0) (stripped_other kind.Str ys refl) refl)
        (Becomes.tree g (part f) _ _ _ _ (Trees.reexports f _ _ _ _ _ _ _ _ (strip_becomes true (part false) a0 a1 a) (strip_all true (part false) ts0 us0 h) (strip_fields (spots false kind.Str) xs ys x) (strip_becomes false (part false) c0 c1 c)))
    strip_trees g s k l ts us (Trees.program f a0 a1 ts0 us0 c0 c1 a h c) =
        goes g (part f) _ _ _ _ (three kind.Module a0 (Many ts0) c0 _ _ _ refl refl (stripped_of_list ts0) refl) (three kind.Module a1 (Many us0) c1 _ _ _ refl refl (stripped_of_list us0) refl)
        (Becomes.tree g (part f) _ _ _ _ (Trees.program f _ _ _ _ _ _ (strip_becomes true (part false) a0 a1 a) (strip_items ts0 us0 h) (strip_becomes false (part false) c0 c1 c)))

    strip_all : (g : Bool) (s : Spot) (ts us : List Node) → All m before g s ts us → All m after g s (map stripped ts) (map stripped us)
    strip_all g s ts us (All.none g0 s0) = All.none g0 s0
    strip_all g s ts us (All.more g0 s0 t u ts0 us0 h l) = All.more g0 s0 _ _ _ _ (strip_becomes g0 s0 t u h) (strip_all g0 s0 ts0 us0 l)

    strip_fields : (ss : List (Bool × Bool)) (ts us : List Node) → Fields m before ss ts us → Fields m after ss (map stripped ts) (map stripped us)
    strip_fields ss ts us Fields.end = Fields.end
    strip_fields ss ts us (Fields.next g b ss0 t u ts0 us0 h l) = Fields.next g b ss0 _ _ _ _ (strip_becomes g (part b) t u h) (strip_fields ss0 ts0 us0 l)

    strip_items : (ts us : List Node) → Items m before ts us → Items m after (map stripped ts) (map stripped us)
    strip_items ts us Items.nothing = Items.nothing
    strip_items ts us (Items.item t u ts0 us0 h l) = Items.item _ _ _ _ (strip_becomes true (part false) t u h) (strip_items ts0 us0 l)
    strip_items ts us (Items.whole a0 a1 t u ts0 us0 a h n l) =
        let same : list_any (λ x. is_some (m x)) (after (stripped t)) ≡ false = ap (list_any (λ x. is_some (m x))) (sym (kept t)) ∙ n in
        moved_items _ _ _ _ _ _ (two kind.ExportDecl a0 t _ _ refl refl refl) (two kind.ExportDecl a1 u _ _ refl refl refl)
        (Items.whole _ _ _ _ _ _ (strip_becomes true (part false) a0 a1 a) (strip_becomes true (part false) t u h) same (strip_items ts0 us0 l))
    strip_items ts us (Items.split a0 t u ts0 us0 h l) =
        split_moved _ _ _ _ _ _ _ (two kind.ExportDecl a0 t _ _ refl refl refl) (strip_exports m (distinct (before t)) ∙ ap (λ xs. export_list m (distinct xs)) (kept t))
        (Items.split _ _ _ _ _ (strip_becomes true (part false) t u h) (strip_items ts0 us0 l))
