-- The second step sets pairs, and nothing else.
use Rattle.std.proofs.Common.{◌≡◌, Bool, true, false, not, ◌&&◌, ◌||◌, IsTrue, List, [], ◌∷◌, map, refl, sym, ap, ◌∙◌, rules, true≢false}
use Rattle.std.specs.Prelude.{if◌then◌else◌}
use Rattle.std.specs.List.{list_all}
use Rattle.swc_tree_marks.specs.declared.ident.Ident.{Ident}
use Rattle.swc_tree_node.specs.declared.kind.Kind.{Kind}
use Rattle.swc_tree_node.specs.declared.kind.Kind.TheVariants as kind
use Rattle.swc_tree_node.specs.declared.node.Node.{Node, Absent, Flag, Word, Text, Span, List as Many, Identifier, Tree, out-Node, the_lemmas}
use Rattle.swc_tree_node.specs.declared.node.Node.TheVariants.{rolls-Tree}
use Rattle.swc_tree_node.specs.declared.node.Node.TheOpen.{Node-F}
use Rattle.swc_tree_grammar.specs.Levels.{word_of, is_in}
use Rattle.swc_tree_grammar.specs.Forms.{holds as is_set}
use Rattle.swc_tree_grammar.specs.Grammar.{is_async_name}
use Rattle.swc_tree_grammar.specs.Blocks.{span_of}
use Rattle.swc_tree_grammar.specs.Due.{Places, pair, in_step, free, async_in, paired_in_heads}
use Rattle.swc_tree_grammar.proofs.Induction.{Each, by_children}
use Rattle.swc_tree_grammar_laws.proofs.Levelled.{both}
use Rattle.swc_tree_grammar_laws.proofs.Heads.{heading, heading_tree, heading_list}
use Rattle.swc_base_fixer_laws.specs.Sets.{Sets, AllSet, FieldsSet, takes_pair, item, is_directive_in}
use Rattle.swc_base_fixer_laws.specs.Sets.Sets.{same, after, around, named, items, tree}
use Rattle.swc_base_fixer_laws.specs.Sets.AllSet.{none, more}
use Rattle.swc_base_fixer_laws.specs.Sets.FieldsSet.{nil, field}
use Rattle.swc_base_fixer_laws.proofs.Kept.{off}
use Rattle.swc_base_fixer_laws.proofs.SetsRows.{items_open, no_string}
use Rattle.swc_base_fixer_laws.proofs.Strings.{string_of_tree, same_string}
use Rattle.std.specs.Prelude.{Option, Some, is_some}
use Rattle.swc_tree_node.specs.declared.kind.Class.{Class}
use Rattle.swc_tree_node.specs.declared.kind.Class.TheVariants as class
use Rattle.swc_tree_node.specs.declared.slot.Content.{Content}
use Rattle.swc_tree_node.specs.declared.slot.Content.TheVariants as content
use Rattle.swc_tree_node.specs.declared.slot.Slot.{Slot}
use Rattle.swc_tree_node.specs.declared.slot.Slot.TheVariants as slot
use Rattle.swc_tree_node.specs.Table.{slots_of}
use Rattle.swc_tree_node.specs.Fits.{Fits, FieldsFit, AllFit, belongs, single}
use Rattle.swc_tree_node.proofs.Fit.{fits-List}
use Rattle.swc_tree_scoping.specs.Places.{literal_in}
use Rattle.swc_tree_grammar.specs.Kinds.{has_kind, is_paren}
use Rattle.swc_tree_grammar.specs.Places.{content_of}
use Rattle.swc_tree_grammar.specs.Writable.{is_string}
use Rattle.swc_tree_grammar.proofs.Places.{one, stands}

-- a place that takes operations takes a pair
abbrev regular_content : Option Content → Bool
regular_content (Some (content.Node c)) = not (belongs kind.BinExpr c) || belongs kind.ParenExpr c
regular_content o = true

abbrev regular : Slot → Bool
regular s = regular_content (content_of s)

slots_regular : (k : Kind) → list_all regular (slots_of k) ≡ true
slots_regular kind.Module = refl
slots_regular k = refl

item_regular : (s : Slot) → regular s ≡ true → regular (item s) ≡ true
item_regular (slot.List c) h = h
item_regular (slot.OptionalList c) h = h
item_regular (slot.Holes c) h = h
item_regular s h = refl

by_content : (a b : Bool) → (not a || b) ≡ true → a ≡ true → b ≡ true
by_content true b h g = h
by_content false b h g = absurd (cc)

abbrev bin_in : Option Content → Bool
bin_in (Some (content.Node c)) = belongs kind.BinExpr c
bin_in o = false

takes_by : (s : Slot) (c : Class) → single s ≡ Some (content.Node c) → belongs kind.BinExpr c ≡ true → regular s ≡ true → IsTrue (takes_pair s)
takes_by (slot.One (content.Node d)) c e b h = by_content (belongs kind.BinExpr d) (belongs kind.ParenExpr d) h (ap bin_in e ∙ b)
takes_by (slot.Optional (content.Node d)) c e b h = by_content (belongs kind.BinExpr d) (belongs kind.ParenExpr d) h (ap bin_in e ∙ b)
takes_by s c e b h = absurd (cc (ap bin_in e ∙ b))

bin_place : (s : Slot) (ts : List Node) → Fits (Tree kind.BinExpr ts) s → regular s ≡ true → IsTrue (takes_pair s)
bin_place s ts f h = let w = stands kind.BinExpr ts s f in takes_by s w.in_class w.place w.belonging h

-- a node in its place, where an operation stands bare only if the place takes a pair
abbrev Headed : Places → Node → Type 0
Headed p t = (s : Slot) → Fits t s → (b : Bool) → (b ≡ false → regular s ≡ true) → Sets s t (heading p t b)

-- ... in a place of the table
abbrev Free : Places → Node → Slot → Type 0
Free p t s = (b : Bool) → Sets s t (heading p t b)

abbrev Frees : Places → List Node → List Slot → Type 0
Frees p [] [] = Unit {0}
Frees p (t ∷ ts) (s ∷ ss) = Free p t s × Frees p ts ss
Frees p _ _ = ⊥

frees : (p : Places) (ss : List Slot) (ts : List Node) → list_all regular ss ≡ true → Each (Headed p) ts → FieldsFit ss ts → Frees p ts ss
frees p [] [] h l f = tt
frees p [] (t ∷ ts) h l f = absurd f
frees p (s ∷ ss) [] h l f = absurd f
frees p (s ∷ ss) (t ∷ ts) h l f = let q = both (regular s) (list_all regular ss) h in (λ b. l.0 s f.0 b (λ e. q.0), frees p ss ts q.1 l.1 f.1)

fields_of : (p : Places) (ss : List Slot) (ts : List Node) → Frees p ts ss → FieldsSet ss ts (map free (map (heading p) ts))
fields_of p [] [] l = nil
fields_of p [] (t ∷ ts) l = absurd l
fields_of p (s ∷ ss) [] l = absurd l
fields_of p (s ∷ ss) (t ∷ ts) l = field (l.0 true) (fields_of p ss ts l.1)

all_set : (p : Places) (s : Slot) (ts : List Node) (b : Bool) → (b ≡ false → regular s ≡ true) → Each (Headed p) ts → AllFit s ts → AllSet s ts (map (λ f. f b) (map (heading p) ts))
all_set p s [] b h l f = none
all_set p s (t ∷ ts) b h l f = more (l.0 s f.0 b h) (all_set p s ts b h l.1 f.1)

bare_if : (w b : Bool) → (w && not b) ≡ true → b ≡ false
bare_if true true h = absurd (cc)
bare_if true false h = refl
bare_if false b h = absurd (cc)

binary_if : (d : Bool) (p : Places) (q : Slot) (b : Bool) (s o f g : Node) → (d ≡ true → IsTrue (takes_pair q)) → Frees p (s ∷ o ∷ f ∷ g ∷ []) (slots_of kind.BinExpr)
    → Sets q (Tree kind.BinExpr (s ∷ o ∷ f ∷ g ∷ [])) (if d then pair p (Tree kind.BinExpr (heading p s true ∷ heading p o true ∷ heading p f true ∷ heading p g true ∷ [])) else Tree kind.BinExpr (heading p s true ∷ heading p o true ∷ heading p f b ∷ heading p g b ∷ []))
binary_if true p q b s o f g h l =
    let us : List Node = heading p s true ∷ heading p o true ∷ heading p f true ∷ heading p g true ∷ [] in
    around (p (span_of (Tree kind.BinExpr us))) (Tree kind.BinExpr (s ∷ o ∷ f ∷ g ∷ [])) (Tree kind.BinExpr us) (h refl) (search (rules, the_lemmas))
    (tree kind.BinExpr (s ∷ o ∷ f ∷ g ∷ []) us refl (field (l.0 true) (field (l.1.0 true) (field (l.1.1.0 true) (field (l.1.1.1.0 true) nil)))))
binary_if false p q b s o f g h l =
    tree kind.BinExpr (s ∷ o ∷ f ∷ g ∷ []) (heading p s true ∷ heading p o true ∷ heading p f b ∷ heading p g b ∷ []) refl (field (l.0 true) (field (l.1.0 true) (field (l.1.1.0 b) (field (l.1.1.1.0 b) nil))))

-- the name `async` before `of`
abbrev a_head : Slot
a_head = one class.ForHead

async_if : (d : Bool) (p : Places) (k : Kind) (i : Ident) → (d ≡ true → IsTrue (is_async_name (Identifier kind.Ident i))) → Sets a_head (Identifier k i) (if d then pair p (Identifier kind.Ident i) else Identifier k i)
async_if true p k i called = named (p (span_of (Identifier kind.Ident i))) k i (called refl)
async_if false p k i called = same (Identifier k i)

-- what a name is called doesn't hang on its kind
same_called : (k : Kind) (i : Ident) → is_async_name (Identifier k i) ≡ is_async_name (Identifier kind.Ident i)
same_called k i = search (rules, the_lemmas)

async_leaf : (p : Places) (w : Bool) (t : Node) → async_in p w t (out-Node t) ≡ t → Sets a_head t (async_in p w t (out-Node t))
async_leaf p w t e = rw e (same t)

async_set : (p : Places) (w : Bool) (t : Node) → Sets a_head t (async_in p w t (out-Node t))
async_set p w t = by_children (λ t. Sets a_head t (async_in p w t (out-Node t))) (
  async_leaf p w Absent (search (rules, the_lemmas)),
  λ x. async_leaf p w (Flag x) (search (rules, the_lemmas)),
  λ v. async_leaf p w (Word v) (search (rules, the_lemmas)),
  λ x. async_leaf p w (Text x) (search (rules, the_lemmas)),
  λ s. async_leaf p w (Span s) (search (rules, the_lemmas)),
  λ k i. (let e : async_in p w (Identifier k i) (out-Node (Identifier k i)) ≡ (if is_async_name (Identifier k i) && not w then pair p (Identifier kind.Ident i) else Identifier k i) = search (rules, the_lemmas) in rw e (async_if (is_async_name (Identifier k i) && not w) p k i (λ h. sym (same_called k i) ∙ (both (is_async_name (Identifier k i)) (not w) h).0))),
)
    (λ ts l. async_leaf p w (Many ts) (search (rules, the_lemmas)))
    (λ k ts l. async_leaf p w (Tree k ts) (search (rules, the_lemmas))) t

-- strings get no pair
bare_row : (p : Places) (b : Bool) (k : Kind) (ts : List Node) → is_some (literal_in (Node-F.Tree k ts)) ≡ true → has_kind is_paren (in_step p (Node-F.Tree k (map (heading p) ts)) b) ≡ false
bare_row p b kind.Str ts h = search (rules, the_lemmas)
bare_row p b k ts h = absurd (true≢false (sym h))

heads_bare : (p : Places) (b : Bool) (t : Node) → is_string t ≡ true → has_kind is_paren (heading p t b) ≡ false
heads_bare p b t = by_children (λ t. is_string t ≡ true → has_kind is_paren (heading p t b) ≡ false)
    (λ h. no_string Absent (search (rules, the_lemmas)) h, λ x h. no_string (Flag x) (search (rules, the_lemmas)) h, λ w h. no_string (Word w) (search (rules, the_lemmas)) h, λ x h. no_string (Text x) (search (rules, the_lemmas)) h, λ r h. no_string (Span r) (search (rules, the_lemmas)) h, λ k i h. no_string (Identifier k i) (search (rules, the_lemmas)) h)
    (λ ts l h. no_string (Many ts) (search (rules, the_lemmas)) h)
    (λ k ts l h. rw (heading_tree p k ts b) (bare_row p b k ts (sym (string_of_tree k ts) ∙ h))) t

directive : (p : Places) (k : Kind) (ts : List Node) → Frees p ts (slots_of k) → FieldsFit (slots_of k) ts → is_directive_in (Node-F.Tree k (map free (map (heading p) ts))) ≡ is_directive_in (Node-F.Tree k ts)
directive p kind.ExprStmt (s ∷ e ∷ []) l f = same_string e (heading p e true) (l.1.0 true) f.1.0 (heads_bare p true e)
directive p k ts l f = refl

rest : (p : Places) (q : Slot) (k : Kind) (ts : List Node) → Frees p ts (slots_of k) → FieldsFit (slots_of k) ts → Sets q (Tree k ts) (Tree k (map free (map (heading p) ts)))
rest p q k ts l f = tree k ts (map free (map (heading p) ts)) (directive p k ts l f) (fields_of p (slots_of k) ts l)

row : (p : Places) (q : Slot) (b : Bool) (k : Kind) (ts : List Node) → (b ≡ false → regular q ≡ true) → Fits (Tree k ts) q → Frees p ts (slots_of k) → FieldsFit (slots_of k) ts → Sets q (Tree k ts) (in_step p (Node-F.Tree k (map (heading p) ts)) b)
row p q b kind.BinExpr (s ∷ o ∷ f ∷ g ∷ []) h x l a =
    binary_if (is_in (word_of (heading p o true)) && not b) p q b s o f g (λ e. bin_place q (s ∷ o ∷ f ∷ g ∷ []) x (h (bare_if (is_in (word_of (heading p o true))) b e))) l
row p q b kind.SeqExpr (s ∷ e ∷ []) h x l a = tree kind.SeqExpr (s ∷ e ∷ []) _ refl (field (l.0 true) (field (l.1.0 b) nil))
row p q b kind.AssignExpr (s ∷ o ∷ f ∷ g ∷ []) h x l a = tree kind.AssignExpr (s ∷ o ∷ f ∷ g ∷ []) _ refl (field (l.0 true) (field (l.1.0 true) (field (l.1.1.0 b) (field (l.1.1.1.0 b) nil))))
row p q b kind.CondExpr (s ∷ o ∷ f ∷ g ∷ []) h x l a = tree kind.CondExpr (s ∷ o ∷ f ∷ g ∷ []) _ refl (field (l.0 true) (field (l.1.0 b) (field (l.1.1.0 true) (field (l.1.1.1.0 b) nil))))
row p q b kind.UnaryExpr (s ∷ o ∷ e ∷ []) h x l a = tree kind.UnaryExpr (s ∷ o ∷ e ∷ []) _ refl (field (l.0 true) (field (l.1.0 true) (field (l.1.1.0 b) nil)))
row p q b kind.AwaitExpr (s ∷ e ∷ []) h x l a = tree kind.AwaitExpr (s ∷ e ∷ []) _ refl (field (l.0 true) (field (l.1.0 b) nil))
row p q b kind.UpdateExpr (s ∷ o ∷ f ∷ g ∷ []) h x l a = tree kind.UpdateExpr (s ∷ o ∷ f ∷ g ∷ []) _ refl (field (l.0 true) (field (l.1.0 true) (field (l.1.1.0 true) (field (l.1.1.1.0 b) nil))))
row p q b kind.YieldExpr (s ∷ o ∷ e ∷ []) h x l a = tree kind.YieldExpr (s ∷ o ∷ e ∷ []) _ refl (field (l.0 true) (field (l.1.0 b) (field (l.1.1.0 true) nil)))
row p q b kind.MemberExpr (s ∷ o ∷ e ∷ []) h x l a = tree kind.MemberExpr (s ∷ o ∷ e ∷ []) _ refl (field (l.0 true) (field (l.1.0 b) (field (l.1.1.0 true) nil)))
row p q b kind.TaggedTpl (s ∷ o ∷ e ∷ []) h x l a = tree kind.TaggedTpl (s ∷ o ∷ e ∷ []) _ refl (field (l.0 true) (field (l.1.0 b) (field (l.1.1.0 true) nil)))
row p q b kind.CallExpr (s ∷ o ∷ e ∷ []) h x l a = tree kind.CallExpr (s ∷ o ∷ e ∷ []) _ refl (field (l.0 true) (field (l.1.0 b) (field (l.1.1.0 true) nil)))
row p q b kind.NewExpr (s ∷ o ∷ e ∷ []) h x l a = tree kind.NewExpr (s ∷ o ∷ e ∷ []) _ refl (field (l.0 true) (field (l.1.0 b) (field (l.1.1.0 true) nil)))
row p q b kind.OptChainExpr (s ∷ o ∷ e ∷ []) h x l a = tree kind.OptChainExpr (s ∷ o ∷ e ∷ []) _ refl (field (l.0 true) (field (l.1.0 true) (field (l.1.1.0 b) nil)))
row p q b kind.OptCall (s ∷ o ∷ e ∷ []) h x l a = tree kind.OptCall (s ∷ o ∷ e ∷ []) _ refl (field (l.0 true) (field (l.1.0 b) (field (l.1.1.0 true) nil)))
row p q b kind.ArrowExpr (s ∷ o ∷ f ∷ g ∷ []) h x l a = tree kind.ArrowExpr (s ∷ o ∷ f ∷ g ∷ []) _ refl (field (l.0 true) (field (l.1.0 true) (field (l.1.1.0 b) (field (l.1.1.1.0 true) nil))))
row p q b kind.VarDecl (s ∷ o ∷ e ∷ []) h x l a = tree kind.VarDecl (s ∷ o ∷ e ∷ []) _ refl (field (l.0 true) (field (l.1.0 true) (field (l.1.1.0 b) nil)))
row p q b kind.VarDeclarator (s ∷ o ∷ e ∷ []) h x l a = tree kind.VarDeclarator (s ∷ o ∷ e ∷ []) _ refl (field (l.0 true) (field (l.1.0 b) (field (l.1.1.0 b) nil)))
row p q b kind.AssignPat (s ∷ o ∷ e ∷ []) h x l a = tree kind.AssignPat (s ∷ o ∷ e ∷ []) _ refl (field (l.0 true) (field (l.1.0 b) (field (l.1.1.0 b) nil)))
row p q b kind.RestPat (s ∷ e ∷ []) h x l a = tree kind.RestPat (s ∷ e ∷ []) _ refl (field (l.0 true) (field (l.1.0 b) nil))
row p q b kind.ForStmt (s ∷ o ∷ f ∷ g ∷ e ∷ []) h x l a = tree kind.ForStmt (s ∷ o ∷ f ∷ g ∷ e ∷ []) _ refl (field (l.0 true) (field (l.1.0 false) (field (l.1.1.0 true) (field (l.1.1.1.0 true) (field (l.1.1.1.1.0 true) nil)))))
row p q b kind.ForInStmt (s ∷ o ∷ f ∷ g ∷ []) h x l a = tree kind.ForInStmt (s ∷ o ∷ f ∷ g ∷ []) _ refl (field (l.0 true) (field (l.1.0 false) (field (l.1.1.0 true) (field (l.1.1.1.0 true) nil))))
row p q b kind.ForOfStmt (s ∷ o ∷ f ∷ g ∷ e ∷ []) h x l a =
    tree kind.ForOfStmt (s ∷ o ∷ f ∷ g ∷ e ∷ []) _ refl
    (field (l.0 true) (field (l.1.0 true) (field (after (l.1.1.0 false) (async_set p (is_set (heading p o true)) (heading p f false))) (field (l.1.1.1.0 true) (field (l.1.1.1.1.0 true) nil)))))
row p q b k ts h x l a = rw (rolls-Tree k (map free (map (heading p) ts))) (rest p q k ts l a)

leaf_set : (p : Places) (t : Node) → ((b : Bool) → heading p t b ≡ t) → Headed p t
leaf_set p t e s f b h = rw (e b) (same t)

headed : (p : Places) (t : Node) → Headed p t
headed p t = by_children (Headed p)
    (leaf_set p Absent (λ b. search (rules, the_lemmas)), λ x. leaf_set p (Flag x) (λ b. search (rules, the_lemmas)), λ w. leaf_set p (Word w) (λ b. search (rules, the_lemmas)), λ x. leaf_set p (Text x) (λ b. search (rules, the_lemmas)), λ s. leaf_set p (Span s) (λ b. search (rules, the_lemmas)), λ k i. leaf_set p (Identifier k i) (λ b. search (rules, the_lemmas)))
    (λ ts l s f b h. rw (heading_list p ts b) (items ts (map (λ f. f b) (map (heading p) ts)) (all_set p (item s) ts b (λ e. item_regular s (h e)) l (items_open s ts (sym (fits-List ts s) ∙ f)))))
    (λ k ts l s f b h. (let g = (stands k ts s f).fields in rw (heading_tree p k ts b) (row p s b k ts h f (frees p (slots_of k) ts (slots_regular k) l g) g))) t

pub heads_set : (p : Places) (t : Node) (s : Slot) → Fits t s → Sets s t (paired_in_heads p t)
heads_set p t s f = headed p t s f true (λ e. off (sym e))
