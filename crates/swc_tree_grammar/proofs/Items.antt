-- The items that stripping leaves fit where items of a sequence stand.
use Rattle.std.proofs.Common.{◌≡◌, Bool, true, false, not, List, [], ◌∷◌, ◌++◌, take, refl, sym, ◌∙◌, rules}
use Rattle.std.specs.Prelude.{if◌then◌else◌}
use Rattle.std.specs.List.{flat_map, filter, list_all}
use Rattle.swc_tree_node.specs.declared.kind.Kind.{Kind}
use Rattle.swc_tree_node.specs.declared.kind.Kind.TheVariants as kind
use Rattle.swc_tree_node.specs.declared.kind.Class.TheVariants as class
use Rattle.swc_tree_node.specs.declared.slot.Content.{Content}
use Rattle.swc_tree_node.specs.declared.slot.Content.TheVariants as content
use Rattle.swc_tree_node.specs.declared.slot.Slot.{Slot}
use Rattle.swc_tree_node.specs.declared.slot.Slot.TheVariants as slot
use Rattle.swc_tree_node.specs.declared.node.Node.{Node, List as Many, Identifier, Tree, the_lemmas}
use Rattle.swc_tree_node.specs.declared.node.Node.TheOpen.{Node-F}
use Rattle.swc_tree_node.specs.Fits.{Fits, AllFit}
use Rattle.swc_tree_node.proofs.Fit.{fits-Absent, fits-Flag, fits-Word, fits-Text, fits-Span, fits-List, fits-Identifier, fits-Tree, tree_opens, tree_closes, list_opens, list_closes}
use Rattle.swc_tree_grammar.specs.Shapes.{items_of}
use Rattle.swc_tree_grammar.specs.Stripped.{parts, parts_in, effects, busy, is_idle, is_void, front, end, settled, sequence}
use Rattle.swc_tree_grammar.proofs.Induction.{Each, by_children}
use Rattle.swc_tree_grammar.proofs.Places.{one}
use Rattle.swc_tree_grammar.proofs.Stripped.{effects_of_list, effects_of_tree, effects_of_sequence, effects_of_void, effects_of_other, effects_of_identifier}

abbrev pub expr : Slot
expr = one class.Expr

-- what stands where a list does is a list
pub record Listed (t : Node) (c : Content) : Type 0 where
  pub items : List Node
  pub is : t ≡ Many items
  pub fit : AllFit (slot.One c) items

pub listed : (t : Node) (c : Content) → Fits t (slot.List c) → Listed t c
listed t c = by_children (λ t. Fits t (slot.List c) → Listed t c) (
  λ h. absurd (cc (sym (fits-Absent (slot.List c)) ∙ h)),
  λ x h. absurd (cc (sym (fits-Flag x (slot.List c)) ∙ h)),
  λ w h. absurd (cc (sym (fits-Word w (slot.List c)) ∙ h)),
  λ x h. absurd (cc (sym (fits-Text x (slot.List c)) ∙ h)),
  λ r h. absurd (cc (sym (fits-Span r (slot.List c)) ∙ h)),
  λ k i h. absurd (cc (sym (fits-Identifier k i (slot.List c)) ∙ h)),
)
    (λ ts h g. record { items = ts; is = refl; fit = list_opens ts c g })
    (λ k ts h g. absurd (cc (sym (fits-Tree k ts (slot.List c)) ∙ g))) t

pub items_of_list : (ts : List Node) → items_of (Many ts) ≡ ts
items_of_list ts = search (rules, the_lemmas)

pub items_fit : (t : Node) (c : Content) → Fits t (slot.List c) → AllFit (slot.One c) (items_of t)
items_fit t c h = let l = listed t c h in rw (l.is, items_of_list l.items) l.fit

pub all_append : (s : Slot) (ts us : List Node) → AllFit s ts → AllFit s us → AllFit s (ts ++ us)
all_append s [] us h g = g
all_append s (t ∷ ts) us h g = (h.0, all_append s ts us h.1 g)

all_filter_if : (s : Slot) (b : Bool) (t : Node) (ts : List Node) → Fits t s → AllFit s ts → AllFit s (if b then t ∷ ts else ts)
all_filter_if s true t ts h g = (h, g)
all_filter_if s false t ts h g = g

pub all_filter : (s : Slot) (p : Node → Bool) (ts : List Node) → AllFit s ts → AllFit s (filter p ts)
all_filter s p [] h = tt
all_filter s p (t ∷ ts) h = all_filter_if s (p t) t (filter p ts) h.0 (all_filter s p ts h.1)

-- parts
parts_of_tree : (k : Kind) (ts : List Node) → parts (Tree k ts) ≡ parts_in (Tree k ts) (Node-F.Tree k ts)
parts_of_tree k ts = search (rules, the_lemmas)

sequence_fits : (ts : List Node) → Fits (Tree kind.SeqExpr ts) expr → (span : Node) × (exprs : Node) × (ts ≡ span ∷ exprs ∷ []) × AllFit expr (items_of exprs)
sequence_fits [] h = absurd ((tree_opens kind.SeqExpr [] class.Expr h).2)
sequence_fits (a ∷ []) h = absurd ((tree_opens kind.SeqExpr (a ∷ []) class.Expr h).2.1)
sequence_fits (a ∷ b ∷ []) h = (a, b, refl, items_fit b (content.Node class.Expr) ((tree_opens kind.SeqExpr (a ∷ b ∷ []) class.Expr h).2.1.0))
sequence_fits (a ∷ b ∷ c ∷ ts) h = absurd ((tree_opens kind.SeqExpr (a ∷ b ∷ c ∷ ts) class.Expr h).2.1.1)

parts_tree : (k : Kind) (ts : List Node) → Fits (Tree k ts) expr → AllFit expr (parts_in (Tree k ts) (Node-F.Tree k ts))
parts_tree kind.SeqExpr (span ∷ exprs ∷ []) h = items_fit exprs (content.Node class.Expr) ((tree_opens kind.SeqExpr (span ∷ exprs ∷ []) class.Expr h).2.1.0)
parts_tree k ts h = (h, tt)

pub parts_fit : (t : Node) → Fits t expr → AllFit expr (parts t)
parts_fit t = by_children (λ t. Fits t expr → AllFit expr (parts t)) (
  λ h. absurd (cc (sym (fits-Absent expr) ∙ h)),
  λ x h. absurd (cc (sym (fits-Flag x expr) ∙ h)),
  λ w h. absurd (cc (sym (fits-Word w expr) ∙ h)),
  λ x h. absurd (cc (sym (fits-Text x expr) ∙ h)),
  λ r h. absurd (cc (sym (fits-Span r expr) ∙ h)),
  λ k i h. (let e : parts (Identifier k i) ≡ Identifier k i ∷ [] = search (rules, the_lemmas) in rw e (h, tt)),
)
    (λ ts h g. absurd (cc (sym (fits-List ts expr) ∙ g)))
    (λ k ts h g. rw (parts_of_tree k ts) (parts_tree k ts g)) t

pub flat_fit : (ts : List Node) → AllFit expr ts → AllFit expr (flat_map parts ts)
flat_fit [] h = tt
flat_fit (t ∷ ts) h = all_append expr (parts t) (flat_map parts ts) (parts_fit t h.0) (flat_fit ts h.1)

-- what is left where a value is dropped
abbrev Left : Node → Type 0
Left t = (Fits t expr → AllFit expr (effects t)) × (Fits t (slot.List (content.Node class.Expr)) → AllFit expr (effects t))

each_left : (ts : List Node) → Each Left ts → AllFit expr ts → AllFit expr (flat_map effects ts)
each_left [] h g = tt
each_left (t ∷ ts) h g = all_append expr (effects t) (flat_map effects ts) (h.0.0 g.0) (each_left ts h.1 g.1)

void_left : (b : Bool) (span op arg : Node) → is_void op ≡ b → Fits (Tree kind.UnaryExpr (span ∷ op ∷ arg ∷ [])) expr → Left arg → AllFit expr (effects (Tree kind.UnaryExpr (span ∷ op ∷ arg ∷ [])))
void_left true span op arg e h l = rw (effects_of_void span op arg e) (l.0 ((tree_opens kind.UnaryExpr (span ∷ op ∷ arg ∷ []) class.Expr h).2.1.1.0))
void_left false span op arg e h l = rw (effects_of_other span op arg e) (h, tt)

tree_left : (k : Kind) (ts : List Node) → Each Left ts → Fits (Tree k ts) expr → AllFit expr (effects (Tree k ts))
tree_left kind.SeqExpr (span ∷ exprs ∷ []) l h = rw (effects_of_sequence span exprs) (l.1.0.1 ((tree_opens kind.SeqExpr (span ∷ exprs ∷ []) class.Expr h).2.1.0))
tree_left kind.UnaryExpr (span ∷ op ∷ arg ∷ []) l h = void_left (is_void op) span op arg refl h l.1.1.0
tree_left k ts l h = rw (effects_of_tree k ts) (h, tt)

left : (t : Node) → Left t
left t = by_children Left (
  (λ h. absurd (cc (sym (fits-Absent expr) ∙ h)), λ h. absurd (cc (sym (fits-Absent (slot.List (content.Node class.Expr))) ∙ h))),
  λ x. (λ h. absurd (cc (sym (fits-Flag x expr) ∙ h)), λ h. absurd (cc (sym (fits-Flag x (slot.List (content.Node class.Expr))) ∙ h))),
  λ w. (λ h. absurd (cc (sym (fits-Word w expr) ∙ h)), λ h. absurd (cc (sym (fits-Word w (slot.List (content.Node class.Expr))) ∙ h))),
  λ x. (λ h. absurd (cc (sym (fits-Text x expr) ∙ h)), λ h. absurd (cc (sym (fits-Text x (slot.List (content.Node class.Expr))) ∙ h))),
  λ r. (λ h. absurd (cc (sym (fits-Span r expr) ∙ h)), λ h. absurd (cc (sym (fits-Span r (slot.List (content.Node class.Expr))) ∙ h))),
  λ k i. (λ h. rw (effects_of_identifier k i) (h, tt), λ h. absurd (cc (sym (fits-Identifier k i (slot.List (content.Node class.Expr))) ∙ h))),
)
    (λ ts l. (λ h. absurd (cc (sym (fits-List ts expr) ∙ h)), λ h. rw (effects_of_list ts) (each_left ts l (list_opens ts (content.Node class.Expr) h))))
    (λ k ts l. (tree_left k ts l, λ h. absurd (cc (sym (fits-Tree k ts (slot.List (content.Node class.Expr))) ∙ h)))) t

pub effects_fit : (ts : List Node) → AllFit expr ts → AllFit expr (flat_map effects ts)
effects_fit [] h = tt
effects_fit (t ∷ ts) h = all_append expr (effects t) (flat_map effects ts) ((left t).0 h.0) (effects_fit ts h.1)

front_fit : (s : Slot) (ts : List Node) → AllFit s ts → AllFit s (front ts)
front_fit s [] h = tt
front_fit s (t ∷ []) h = tt
front_fit s (t ∷ u ∷ ts) h = (h.0, front_fit s (u ∷ ts) h.1)

end_fit : (s : Slot) (ts : List Node) → AllFit s ts → AllFit s (end ts)
end_fit s [] h = tt
end_fit s (t ∷ []) h = h
end_fit s (t ∷ u ∷ ts) h = end_fit s (u ∷ ts) h.1

first_fit : (s : Slot) (ts : List Node) → AllFit s ts → AllFit s (take 1 ts)
first_fit s [] h = tt
first_fit s (t ∷ ts) h = (h.0, tt)

busy_if : (b : Bool) (ts : List Node) → AllFit expr ts → AllFit expr (if b then take 1 ts else filter (λ e. not (is_idle e)) ts)
busy_if true ts h = first_fit expr ts h
busy_if false ts h = all_filter expr (λ e. not (is_idle e)) ts h

pub settled_fit : (ts : List Node) → AllFit expr ts → AllFit expr (settled ts)
settled_fit ts h = all_append expr (busy (flat_map effects (front ts))) (end ts)
    (busy_if (list_all is_idle (flat_map effects (front ts))) (flat_map effects (front ts)) (effects_fit (front ts) (front_fit expr ts h))) (end_fit expr ts h)

pub sequence_fit : (span : Node) (ts : List Node) → Fits span (slot.One content.Span) → AllFit expr ts → Fits (sequence span ts) expr
sequence_fit span (t ∷ []) s h = h.0
sequence_fit span [] s h = tree_closes kind.SeqExpr (span ∷ Many [] ∷ []) class.Expr refl refl (s, (list_closes [] (content.Node class.Expr) h, tt))
sequence_fit span (t ∷ u ∷ ts) s h = tree_closes kind.SeqExpr (span ∷ Many (t ∷ u ∷ ts) ∷ []) class.Expr refl refl (s, (list_closes (t ∷ u ∷ ts) (content.Node class.Expr) h, tt))
