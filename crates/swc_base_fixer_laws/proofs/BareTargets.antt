-- In a tree that can be written down each parenthesised assignment target can stand bare.
use Rattle.std.proofs.Common.{◌≡◌, Bool, true, not, ◌||◌, List, map, refl, sym, ap, ◌∙◌, rules, true≢false}
use Rattle.std.specs.List.{list_all}
use Rattle.swc_tree_node.specs.declared.kind.Kind.{Kind}
use Rattle.swc_tree_node.specs.declared.kind.Kind.TheVariants as kind
use Rattle.swc_tree_node.specs.declared.slot.Slot.{Slot}
use Rattle.swc_tree_node.specs.declared.node.Node.{Node, the_lemmas}
use Rattle.swc_tree_node.specs.declared.node.Node.TheOpen.{Node-F}
use Rattle.swc_tree_node.specs.Table.{slots_of}
use Rattle.swc_tree_node.specs.Fits.{Fits}
use Rattle.swc_tree_grammar.specs.Kinds.{has_kind, is_paren}
use Rattle.swc_tree_grammar.specs.Targets.{all_bare, bare_in, pair_in, seen, is_target}
use Rattle.swc_tree_grammar.specs.Writable.{Round, sound_in, in_head_in}
use Rattle.swc_tree_grammar.proofs.Asked.{asked, same as whole, sound}
use Rattle.swc_tree_grammar.proofs.Induction.{by_children}
use Rattle.swc_tree_grammar.proofs.Walks.{bare_of_tree, bare_of_list, pair_of_tree}
use Rattle.swc_tree_grammar_laws.proofs.Levelled.{half}
use Rattle.swc_base_fixer_laws.proofs.Up.{kind_of_tree}
use Rattle.swc_base_fixer_laws.proofs.Quiet.{is_quiet}
use Rattle.swc_base_fixer_laws.proofs.Everywhere.{Everywhere, Parts, everywhere}
use Rattle.swc_base_fixer_laws.proofs.Everywhere.Parts.{none, more}

abbrev own : Kind → List Node → Bool
own k ts = bare_in (Node-F.Tree k (map seen ts))

no_assignment : (k : Kind) (ts : List Node) → list_all is_quiet (slots_of k) ≡ true → own k ts ≡ true
no_assignment kind.AssignExpr ts q = absurd (true≢false (sym q))
no_assignment k ts q = refl

-- the left side of an assignment
pair_row : (k : Kind) (ts : List Node) → pair_in (Node-F.Tree k (map seen ts)) ≡ is_paren k
pair_row kind.ParenExpr ts = refl
pair_row k ts = refl

is_pair : (t : Node) → (seen t).is_pair ≡ has_kind is_paren t
is_pair t = by_children (λ t. (seen t).is_pair ≡ has_kind is_paren t)
    (search (rules, the_lemmas), λ x. search (rules, the_lemmas), λ w. search (rules, the_lemmas), λ x. search (rules, the_lemmas), λ r. search (rules, the_lemmas), λ k i. search (rules, the_lemmas))
    (λ ts l. search (rules, the_lemmas)) (λ k ts l. pair_of_tree k ts ∙ pair_row k ts ∙ sym (kind_of_tree is_paren k ts)) t

stands_row : (k : Kind) (ts : List Node) → Parts all_bare (slots_of k) ts → (r : Round) → sound_in (Node-F.Tree k (map asked ts)) r ≡ true → own k ts ≡ true
stands_row kind.AssignExpr ts (more a _ (more b _ (more {t = l} _ x (more _ y none)))) r h =
    let p = half h in let q = half p.0 in
    ap (λ b. not b || is_target l) (is_pair l) ∙ sym (ap (λ t. not (has_kind is_paren t) || is_target t) (whole l)) ∙ q.1
stands_row k ts x r h = refl

head_stands_row : (k : Kind) (ts : List Node) (r : Round) → in_head_in (Node-F.Tree k (map asked ts)) r ≡ true → own k ts ≡ true
head_stands_row kind.AssignExpr ts r h = absurd (true≢false (sym h))
head_stands_row k ts r h = refl

baring : Everywhere all_bare own
baring = record {
  of_leaves = (search (rules, the_lemmas), λ x. search (rules, the_lemmas), λ w. search (rules, the_lemmas), λ x. search (rules, the_lemmas), λ r. search (rules, the_lemmas), λ k i. search (rules, the_lemmas));
  of_list = bare_of_list;
  of_tree = bare_of_tree;
  own_quiet = no_assignment;
  own_sound = stands_row;
  own_head = head_stands_row;
}

pub bare_targets : (t : Node) (s : Slot) → Fits t s → (r : Round) → sound t r ≡ true → all_bare t ≡ true
bare_targets t s f r h = everywhere baring t s f r h
