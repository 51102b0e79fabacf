-- A string in pairs of parentheses, by the form of a node.
use Rattle.std.proofs.Common.{◌≡◌, List, [], ◌∷◌, map, length, rules, refl, sym, ap, ◌∙◌}
use Rattle.swc_tree_node.specs.declared.kind.Kind.{Kind}
use Rattle.swc_tree_node.specs.declared.kind.Kind.TheVariants as kind
use Rattle.swc_tree_node.specs.declared.node.Node.{Node, Tree, fold-Node, the_lemmas}
use Rattle.swc_tree_node.specs.declared.node.Node.TheOpen.{Node-F}
use Rattle.swc_tree_grammar.specs.Writable.{is_string}
use Rattle.swc_tree_grammar.proofs.Wholes.{carried}
use Rattle.swc_base_writable_rules.specs.Rules.{Texts, is_string_inside, text_in_pair, texts_step}

abbrev pub texts : Node → Texts
texts = fold-Node Texts texts_step

whole : (t : Node) → (texts t).whole ≡ t
whole t = carried Texts texts_step (λ e. e.whole) (λ x. refl) t

wholes : (ts : List Node) → map (λ e. e.whole) (map texts ts) ≡ ts
wholes [] = refl
wholes (t ∷ ts) = rw (whole t, wholes ts) refl

texts_tree : (k : Kind) (ts : List Node) → is_string_inside (Tree k ts) ≡ text_in_pair (Tree k (map (λ e. e.whole) (map texts ts))) (Node-F.Tree k (map texts ts))
texts_tree k ts = search (rules, the_lemmas)

pub string_inside : (k : Kind) (ts : List Node) → is_string_inside (Tree k ts) ≡ text_in_pair (Tree k ts) (Node-F.Tree k (map texts ts))
string_inside k ts = texts_tree k ts ∙ ap (λ us. text_in_pair (Tree k us) (Node-F.Tree k (map texts ts))) (wholes ts)

in_no_pair : (k : Kind) (ts : List Node) → (k ≡ kind.ParenExpr → length ts ≡ 2 → ⊥) → text_in_pair (Tree k ts) (Node-F.Tree k (map texts ts)) ≡ is_string (Tree k ts)
in_no_pair kind.ParenExpr (a ∷ b ∷ []) other = absurd (other refl refl)
in_no_pair k ts other = refl

-- what is no pair is itself the string
pub string_other : (t : Node) (k : Kind) (ts : List Node) → t ≡ Tree k ts → (k ≡ kind.ParenExpr → length ts ≡ 2 → ⊥) → is_string_inside t ≡ is_string t
string_other t k ts is other = ap is_string_inside is ∙ string_inside k ts ∙ in_no_pair k ts other ∙ sym (ap is_string is)
