-- What is seen of a node from above stays where pairs are set in it or round it.
use Rattle.std.proofs.Common.{◌≡◌, Bool, true, false, not, ◌&&◌, IsTrue, List, [], ◌∷◌, map, refl, sym, ◌∙◌, rules, true≢false}
use Rattle.std.specs.Prelude.{Option, Some}
use Rattle.swc_tree_marks.specs.declared.span.Span.{Span as Range}
use Rattle.swc_tree_marks.specs.declared.ident.Ident.{Ident}
use Rattle.swc_tree_node.specs.declared.kind.Kind.{Kind}
use Rattle.swc_tree_node.specs.declared.kind.Kind.TheVariants as kind
use Rattle.swc_tree_node.specs.declared.kind.Class.TheVariants as class
use Rattle.swc_tree_node.specs.declared.slot.Content.{Content}
use Rattle.swc_tree_node.specs.declared.slot.Content.TheVariants as content
use Rattle.swc_tree_node.specs.declared.slot.Slot.{Slot}
use Rattle.swc_tree_node.specs.declared.slot.Slot.TheVariants as slot
use Rattle.swc_tree_node.specs.declared.node.Node.{Node, Absent, Flag, Word, Text, Span, List as Many, Identifier, Tree, out-Node, the_lemmas}
use Rattle.swc_tree_node.specs.declared.node.Node.TheOpen.{Node-F}
use Rattle.swc_tree_node.specs.Table.{slots_of, is_identifier}
use Rattle.swc_tree_node.specs.Fits.{Fits, belongs}
use Rattle.swc_tree_node.proofs.Fit.{fits-List, fits-Tree, tree_opens}
use Rattle.swc_tree_grammar.specs.Kinds.{has_kind, is_private_name}
use Rattle.swc_tree_grammar.specs.Places.{content_of}
use Rattle.swc_tree_grammar.specs.Targets.{seen, is_target, target_in}
use Rattle.swc_tree_grammar.specs.Forms.{is_name_in}
use Rattle.swc_tree_grammar.specs.Writable.{Round, pattern, is_plain_pattern_in, element, default_in, property_in, is_name_kind_in}
use Rattle.swc_tree_grammar.proofs.Induction.{by_children}
use Rattle.swc_tree_grammar.proofs.Walks.{target_of_tree, target_of_list}
use Rattle.swc_tree_grammar_laws.proofs.Levelled.{also_both}
use Rattle.swc_tree_grammar_laws.proofs.Blocked.{no}
use Rattle.swc_base_fixer_laws.specs.Sets.{Sets, AllSet, FieldsSet, takes_pair, pairable, can_pair, item}
use Rattle.swc_base_fixer_laws.specs.Sets.Sets.{same, after, around, named, items, tree}
use Rattle.swc_base_fixer_laws.specs.Sets.AllSet.{none, more}
use Rattle.swc_base_fixer_laws.specs.Sets.FieldsSet.{nil, field}
use Rattle.swc_base_fixer_laws.proofs.Up.{no_pair, kind_of_tree}
use Rattle.swc_base_fixer_laws.proofs.ElseKept.{pairable_tree}
use Rattle.swc_base_fixer_laws.proofs.FitsKept.{fits_kept}

-- places in which nothing changes: of what is no node, and of names
abbrev pub fixed : Slot → Bool
fixed (slot.One content.Span) = true
fixed (slot.One content.Text) = true
fixed (slot.One content.Flag) = true
fixed (slot.One (content.Word ws)) = true
fixed (slot.One (content.Node class.Ident)) = true
fixed (slot.Optional (content.Node class.Ident)) = true
fixed _ = false

closed : (s : Slot) → fixed s ≡ true → takes_pair s ≡ false
closed (slot.One content.Span) h = refl
closed (slot.One content.Text) h = refl
closed (slot.One content.Flag) h = refl
closed (slot.One (content.Word ws)) h = refl
closed (slot.One (content.Node class.Ident)) h = refl
closed (slot.Optional (content.Node class.Ident)) h = refl
closed s h = absurd (cc)

name_only : (k : Kind) → (not (is_identifier k) && belongs k class.Ident) ≡ false
name_only kind.Ident = refl
name_only k = refl

no_tree : (s : Slot) (k : Kind) (ts : List Node) → fixed s ≡ true → Fits (Tree k ts) s → ⊥
no_tree (slot.One content.Span) k ts h f = no (sym (fits-Tree k ts (slot.One content.Span)) ∙ f)
no_tree (slot.One content.Text) k ts h f = no (sym (fits-Tree k ts (slot.One content.Text)) ∙ f)
no_tree (slot.One content.Flag) k ts h f = no (sym (fits-Tree k ts (slot.One content.Flag)) ∙ f)
no_tree (slot.One (content.Word ws)) k ts h f = no (sym (fits-Tree k ts (slot.One (content.Word ws))) ∙ f)
no_tree (slot.One (content.Node class.Ident)) k ts h f = let w = tree_opens k ts class.Ident f in no (sym (name_only k) ∙ also_both (not (is_identifier k)) (belongs k class.Ident) w.0 w.1)
no_tree (slot.Optional (content.Node class.Ident)) k ts h f = let w = tree_opens k ts class.Ident (fits-Tree k ts (slot.One (content.Node class.Ident)) ∙ sym (fits-Tree k ts (slot.Optional (content.Node class.Ident))) ∙ f) in no (sym (name_only k) ∙ also_both (not (is_identifier k)) (belongs k class.Ident) w.0 w.1)
no_tree s k ts h f = absurd (cc)

no_list : (s : Slot) (ts : List Node) → fixed s ≡ true → Fits (Many ts) s → ⊥
no_list (slot.One c) ts h f = no (sym (fits-List ts (slot.One c)) ∙ f)
no_list (slot.Optional c) ts h f = no (sym (fits-List ts (slot.Optional c)) ∙ f)
no_list s ts h f = absurd (cc)

pub same_fixed : {s : Slot} {t u : Node} → Sets s t u → fixed s ≡ true → Fits t s → u ≡ t
same_fixed (same t) h f = refl
same_fixed (after c d) h f = same_fixed d h (fits_kept c f) ∙ same_fixed c h f
same_fixed {s = s} (around r t u p q d) h f = absurd (cc (sym (closed s h) ∙ p))
same_fixed (named r k i called) h f = absurd (cc)
same_fixed {s = s} (items ts us d) h f = absurd (no_list s ts h f)
same_fixed {s = s} (tree k ts us e d) h f = absurd (no_tree s k ts h f)

-- what can get a pair is no private name
private_row : (k : Kind) → can_pair k ≡ true → is_private_name k ≡ false
private_row kind.PrivateName h = absurd (true≢false (sym h))
private_row k h = refl

pub private_kept : {s : Slot} {t u : Node} → Sets s t u → has_kind is_private_name t ≡ false → has_kind is_private_name u ≡ false
private_kept (same t) h = h
private_kept (after c d) h = private_kept d (private_kept c h)
private_kept (around r t u p q d) h = kind_of_tree is_private_name kind.ParenExpr (Span r ∷ u ∷ [])
private_kept (named r k i called) h = kind_of_tree is_private_name kind.ParenExpr (Span r ∷ Identifier kind.Ident i ∷ [])
private_kept (items ts us d) h = search (rules, the_lemmas)
private_kept (tree k ts us e d) h = kind_of_tree is_private_name k us ∙ sym (kind_of_tree is_private_name k ts) ∙ h

pub pair_private : (t : Node) → IsTrue (pairable t) → has_kind is_private_name t ≡ false
pair_private t = by_children (λ t. IsTrue (pairable t) → has_kind is_private_name t ≡ false)
    (no_pair Absent (search (rules, the_lemmas)), λ x. no_pair (Flag x) (search (rules, the_lemmas)), λ w. no_pair (Word w) (search (rules, the_lemmas)), λ x. no_pair (Text x) (search (rules, the_lemmas)), λ s. no_pair (Span s) (search (rules, the_lemmas)), λ k i. no_pair (Identifier k i) (search (rules, the_lemmas)))
    (λ ts l. no_pair (Many ts) (search (rules, the_lemmas)))
    (λ k ts l h. kind_of_tree is_private_name k ts ∙ private_row k (sym (pairable_tree k ts) ∙ h)) t

-- the heads of `for` in and of, where a name may become an expression
abbrev head_in : Option Content → Bool
head_in (Some (content.Node class.ForHead)) = true
head_in o = false

abbrev pub is_head : Slot → Bool
is_head s = head_in (content_of s)

item_head : (s : Slot) → is_head s ≡ false → is_head (item s) ≡ false
item_head (slot.List c) h = h
item_head (slot.OptionalList c) h = h
item_head (slot.Holes c) h = h
item_head s h = refl

-- targets
target_pair : (r : Range) (u : Node) → is_target (Tree kind.ParenExpr (Span r ∷ u ∷ [])) ≡ is_target u
target_pair r u = target_of_tree kind.ParenExpr (Span r ∷ u ∷ [])

mutual
  pub target_kept : {s : Slot} {t u : Node} → Sets s t u → is_head s ≡ false → is_target u ≡ is_target t
  target_kept (same t) h = refl
  target_kept (after c d) h = target_kept d h ∙ target_kept c h
  target_kept (around r t u p q d) h = target_pair r u ∙ target_kept d refl
  target_kept (named r k i called) h = absurd (cc)
  target_kept {s = s} (items ts us d) h = target_of_list us ∙ items_target d (item_head s h) ∙ sym (target_of_list ts)
  target_kept (tree kind.ParenExpr ts us e (field a (field b nil))) h = target_of_tree kind.ParenExpr us ∙ target_kept b refl ∙ sym (target_of_tree kind.ParenExpr ts)
  target_kept (tree kind.SeqExpr ts us e (field a (field b nil))) h = target_of_tree kind.SeqExpr us ∙ target_kept b refl ∙ sym (target_of_tree kind.SeqExpr ts)
  target_kept (tree k ts us e d) h = target_of_tree k us ∙ sym (target_of_tree k ts)

  items_target : {s : Slot} {ts us : List Node} → AllSet s ts us → is_head s ≡ false → target_in (Node-F.List (map seen us)) ≡ target_in (Node-F.List (map seen ts))
  items_target none h = refl
  items_target (more c none) h = target_kept c h
  items_target (more c (more d x)) h = refl

-- by a test of the node that no leaf and no list meets, and that what can get a pair does not
module _ (X : Type 0) (look : Node-F Node → X) (off : X) where
  abbrev Hidden : Type 0
  Hidden = (k : Kind) (ts : List Node) → can_pair k ≡ true → look (Node-F.Tree k ts) ≡ off

  pub look_tree : (k : Kind) (ts : List Node) → look (out-Node (Tree k ts)) ≡ look (Node-F.Tree k ts)
  look_tree k ts = search (rules, the_lemmas)

  pub look_list : (ts : List Node) → look (out-Node (Many ts)) ≡ look (Node-F.List ts)
  look_list ts = search (rules, the_lemmas)

  pub look_pair : Hidden → (t : Node) → IsTrue (pairable t) → look (out-Node t) ≡ off
  look_pair f t = by_children (λ t. IsTrue (pairable t) → look (out-Node t) ≡ off)
      (no_pair Absent (search (rules, the_lemmas)), λ x. no_pair (Flag x) (search (rules, the_lemmas)), λ w. no_pair (Word w) (search (rules, the_lemmas)), λ x. no_pair (Text x) (search (rules, the_lemmas)), λ s. no_pair (Span s) (search (rules, the_lemmas)), λ k i. no_pair (Identifier k i) (search (rules, the_lemmas)))
      (λ ts l. no_pair (Many ts) (search (rules, the_lemmas)))
      (λ k ts l h. look_tree k ts ∙ f k ts (sym (pairable_tree k ts) ∙ h)) t

  -- such a test stays
  abbrev Rows : Type 0
  Rows = (k : Kind) (ts us : List Node) → FieldsSet (slots_of k) ts us → look (Node-F.Tree k us) ≡ look (Node-F.Tree k ts)

  pub look_kept : Hidden → ((us : List Node) → look (Node-F.Tree kind.ParenExpr us) ≡ off) → ((ts : List Node) → look (Node-F.List ts) ≡ off) → Rows → {s : Slot} {t u : Node} → Sets s t u → is_head s ≡ false → look (out-Node u) ≡ look (out-Node t)
  look_kept f p l r (same t) h = refl
  look_kept f p l r (after c d) h = look_kept f p l r d h ∙ look_kept f p l r c h
  look_kept f p l r (around x t u a b d) h = look_tree kind.ParenExpr (Span x ∷ u ∷ []) ∙ p (Span x ∷ u ∷ []) ∙ sym (look_pair f t b)
  look_kept f p l r (named x k i called) h = absurd (cc)
  look_kept f p l r (items ts us d) h = look_list us ∙ l us ∙ sym (l ts) ∙ sym (look_list ts)
  look_kept f p l r (tree k ts us e d) h = look_tree k us ∙ r k ts us d ∙ sym (look_tree k ts)

-- plain patterns, defaults, properties of patterns, names
plain_hidden : (k : Kind) (ts : List Node) → can_pair k ≡ true → is_plain_pattern_in (Node-F.Tree k ts) ≡ false
plain_hidden kind.ArrayPat ts h = absurd (true≢false (sym h))
plain_hidden kind.ObjectPat ts h = absurd (true≢false (sym h))
plain_hidden k ts h = refl

plain_rows : (k : Kind) (ts us : List Node) → FieldsSet (slots_of k) ts us → is_plain_pattern_in (Node-F.Tree k us) ≡ is_plain_pattern_in (Node-F.Tree k ts)
plain_rows kind.ArrayPat ts us d = refl
plain_rows kind.ObjectPat ts us d = refl
plain_rows k ts us d = refl

plain_kept : {s : Slot} {t u : Node} → Sets s t u → is_head s ≡ false → is_plain_pattern_in (out-Node u) ≡ is_plain_pattern_in (out-Node t)
plain_kept d h = look_kept Bool is_plain_pattern_in false plain_hidden (λ us. refl) (λ ts. refl) plain_rows d h

pub pattern_kept : {s : Slot} {t u : Node} → Sets s t u → is_head s ≡ false → (r : Round) → pattern u r ≡ pattern t r
pattern_kept d h r = rw (plain_kept d h, target_kept d h) refl

default_hidden : (k : Kind) (ts : List Node) → can_pair k ≡ true → default_in (Node-F.Tree k ts) ≡ false
default_hidden kind.AssignPat ts h = absurd (true≢false (sym h))
default_hidden k ts h = refl

default_rows : (k : Kind) (ts us : List Node) → FieldsSet (slots_of k) ts us → default_in (Node-F.Tree k us) ≡ default_in (Node-F.Tree k ts)
default_rows kind.AssignPat ts us (field a (field b (field c nil))) = refl
default_rows k ts us d = refl

pub element_kept : {s : Slot} {t u : Node} → Sets s t u → is_head s ≡ false → (r : Round) → element u r ≡ element t r
element_kept d h r = rw (look_kept Bool default_in false default_hidden (λ us. refl) (λ ts. refl) default_rows d h, pattern_kept d h r) refl

property_hidden : (k : Kind) (ts : List Node) → can_pair k ≡ true → property_in (Node-F.Tree k ts) ≡ false
property_hidden kind.KeyValuePatProp ts h = absurd (true≢false (sym h))
property_hidden kind.AssignPatProp ts h = absurd (true≢false (sym h))
property_hidden k ts h = refl

property_rows : (k : Kind) (ts us : List Node) → FieldsSet (slots_of k) ts us → property_in (Node-F.Tree k us) ≡ property_in (Node-F.Tree k ts)
property_rows kind.KeyValuePatProp ts us d = refl
property_rows kind.AssignPatProp ts us d = refl
property_rows k ts us d = refl

pub property_kept : {s : Slot} {t u : Node} → Sets s t u → is_head s ≡ false → property_in (out-Node u) ≡ property_in (out-Node t)
property_kept d h = look_kept Bool property_in false property_hidden (λ us. refl) (λ ts. refl) property_rows d h

pub name_kept : {s : Slot} {t u : Node} → Sets s t u → is_head s ≡ false → is_name_kind_in (out-Node u) ≡ is_name_kind_in (out-Node t)
name_kept d h = look_kept Bool is_name_kind_in false (λ k ts h. refl) (λ us. refl) (λ ts. refl) (λ k ts us d. refl) d h

pub bound_kept : {s : Slot} {t u : Node} → Sets s t u → is_head s ≡ false → is_name_in (out-Node u) ≡ is_name_in (out-Node t)
bound_kept d h = look_kept Bool is_name_in false (λ k ts h. refl) (λ us. refl) (λ ts. refl) (λ k ts us d. refl) d h

-- the same where a name is not seen either, and where no pair may stand
module _ (X : Type 0) (look : Node-F Node → X) where
  tree_looks : (k : Kind) (ts : List Node) → look (out-Node (Tree k ts)) ≡ look (Node-F.Tree k ts)
  tree_looks k ts = search (rules, the_lemmas)

  list_looks : (ts : List Node) → look (out-Node (Many ts)) ≡ look (Node-F.List ts)
  list_looks ts = search (rules, the_lemmas)

  name_looks : (k : Kind) (i : Ident) → look (out-Node (Identifier k i)) ≡ look (Node-F.Identifier k i)
  name_looks k i = search (rules, the_lemmas)

  abbrev RowsOf : Type 0
  RowsOf = (k : Kind) (ts us : List Node) → FieldsSet (slots_of k) ts us → look (Node-F.Tree k us) ≡ look (Node-F.Tree k ts)

  pub seen_closed : ((ts us : List Node) → look (Node-F.List us) ≡ look (Node-F.List ts)) → RowsOf → {s : Slot} {t u : Node} → Sets s t u → takes_pair s ≡ false → look (out-Node u) ≡ look (out-Node t)
  seen_closed l r (same t) h = refl
  seen_closed l r (after c d) h = seen_closed l r d h ∙ seen_closed l r c h
  seen_closed l r (around x t u a b d) h = absurd (cc (sym h ∙ a))
  seen_closed l r (named x k i called) h = absurd (cc)
  seen_closed l r (items ts us d) h = list_looks us ∙ l ts us ∙ sym (list_looks ts)
  seen_closed l r (tree k ts us e d) h = tree_looks k us ∙ r k ts us d ∙ sym (tree_looks k ts)

  pub seen_anywhere : (off : X) → ((k : Kind) (ts : List Node) → can_pair k ≡ true → look (Node-F.Tree k ts) ≡ off) → ((us : List Node) → look (Node-F.Tree kind.ParenExpr us) ≡ off) → ((k : Kind) (i : Ident) → look (Node-F.Identifier k i) ≡ off)
      → ((ts us : List Node) → look (Node-F.List us) ≡ look (Node-F.List ts)) → RowsOf → {s : Slot} {t u : Node} → Sets s t u → look (out-Node u) ≡ look (out-Node t)
  seen_anywhere off f p n l r (same t) = refl
  seen_anywhere off f p n l r (after c d) = seen_anywhere off f p n l r d ∙ seen_anywhere off f p n l r c
  seen_anywhere off f p n l r (around x t u a b d) = tree_looks kind.ParenExpr (Span x ∷ u ∷ []) ∙ p (Span x ∷ u ∷ []) ∙ sym (look_pair X look off f t b)
  seen_anywhere off f p n l r (named x k i called) = tree_looks kind.ParenExpr (Span x ∷ Identifier kind.Ident i ∷ []) ∙ p (Span x ∷ Identifier kind.Ident i ∷ []) ∙ sym (name_looks k i ∙ n k i)
  seen_anywhere off f p n l r (items ts us d) = list_looks us ∙ l ts us ∙ sym (list_looks ts)
  seen_anywhere off f p n l r (tree k ts us e d) = tree_looks k us ∙ r k ts us d ∙ sym (tree_looks k ts)
