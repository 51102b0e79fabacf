-- In a tree that can be written down each constructor has a name as its key.
use Rattle.std.proofs.Common.{◌≡◌, Bool, true, false, not, List, map, refl, sym, ap, ◌∙◌, rules, true≢false}
use Rattle.std.specs.List.{list_all}
use Rattle.swc_tree_marks.specs.declared.ident.Ident.{Ident}
use Rattle.swc_tree_node.specs.declared.kind.Kind.{Kind}
use Rattle.swc_tree_node.specs.declared.kind.Kind.TheVariants as kind
use Rattle.swc_tree_node.specs.declared.slot.Slot.{Slot}
use Rattle.swc_tree_node.specs.declared.node.Node.{Node, Identifier, out-Node, the_lemmas}
use Rattle.swc_tree_node.specs.declared.node.Node.TheOpen.{Node-F}
use Rattle.swc_tree_node.specs.Table.{slots_of}
use Rattle.swc_tree_node.specs.Fits.{Fits}
use Rattle.swc_tree_grammar.specs.Kinds.{has_kind}
use Rattle.swc_tree_grammar.specs.Writable.{Round, Writable, sound_in, in_head_in, constructor_key_in}
use Rattle.swc_tree_grammar.proofs.Asked.{asked, same}
use Rattle.swc_tree_grammar.proofs.Induction.{by_children}
use Rattle.swc_tree_grammar_laws.proofs.Levelled.{half}
use Rattle.swc_tree_grammar_laws.proofs.Blocked.{no}
use Rattle.swc_tree_grammar_laws.proofs.Every.{every_tree, every_list}
use Rattle.swc_base_fixer_laws.proofs.Up.{kind_of_tree}
use Rattle.swc_base_fixer_laws.proofs.Quiet.{is_quiet}
use Rattle.swc_base_fixer_laws.proofs.Everywhere.{Everywhere, Parts, everywhere}
use Rattle.swc_base_fixer_laws.proofs.Everywhere.Parts.{none, more}
use Rattle.swc_base_fixer_laws.proofs.Recasts.{tree_looks}
use Rattle.swc_base_fixer_needs.specs.Keys.{is_computed, is_named_in, names_constructors}

no_constructor : (k : Kind) (ts : List Node) → list_all is_quiet (slots_of k) ≡ true → is_named_in (Node-F.Tree k ts) ≡ true
no_constructor kind.Constructor ts q = absurd (true≢false (sym q))
no_constructor k ts q = refl

-- the key of a constructor is no computed name
no_tree_computed : (k : Kind) (ts : List Node) → constructor_key_in (Node-F.Tree k ts) ≡ true → not (is_computed k) ≡ true
no_tree_computed kind.ComputedPropName ts h = absurd (true≢false (sym h))
no_tree_computed k ts h = refl

of_identifier : (k : Kind) (i : Ident) → constructor_key_in (out-Node (Identifier k i)) ≡ true → not (has_kind is_computed (Identifier k i)) ≡ true
of_identifier k i h = let e : constructor_key_in (out-Node (Identifier k i)) ≡ false = search (rules, the_lemmas) in absurd (no (sym e ∙ h))

key_named : (t : Node) → constructor_key_in (out-Node t) ≡ true → not (has_kind is_computed t) ≡ true
key_named t = by_children (λ t. constructor_key_in (out-Node t) ≡ true → not (has_kind is_computed t) ≡ true)
    (λ h. search (rules, the_lemmas), λ x h. search (rules, the_lemmas), λ w h. search (rules, the_lemmas), λ x h. search (rules, the_lemmas), λ r h. search (rules, the_lemmas), λ k i h. of_identifier k i h)
    (λ ts l h. search (rules, the_lemmas))
    (λ k ts l h. ap not (kind_of_tree is_computed k ts) ∙ no_tree_computed k ts (sym (tree_looks Bool constructor_key_in k ts) ∙ h)) t

own_row : (k : Kind) (ts : List Node) → Parts names_constructors (slots_of k) ts → (r : Round) → sound_in (Node-F.Tree k (map asked ts)) r ≡ true → is_named_in (Node-F.Tree k ts) ≡ true
own_row kind.Constructor ts (more a _ (more {t = t} _ z (more _ x (more _ y none)))) r h = let p = half h in key_named t (sym (ap (λ t. constructor_key_in (out-Node t)) (same t)) ∙ p.0)
own_row k ts x r h = refl

own_head_row : (k : Kind) (ts : List Node) (r : Round) → in_head_in (Node-F.Tree k (map asked ts)) r ≡ true → is_named_in (Node-F.Tree k ts) ≡ true
own_head_row kind.Constructor ts r h = absurd (true≢false (sym h))
own_head_row k ts r h = refl

naming : Everywhere names_constructors (λ k ts. is_named_in (Node-F.Tree k ts))
naming = record {
  of_leaves = (search (rules, the_lemmas), λ x. search (rules, the_lemmas), λ w. search (rules, the_lemmas), λ x. search (rules, the_lemmas), λ r. search (rules, the_lemmas), λ k i. search (rules, the_lemmas));
  of_list = every_list is_named_in;
  of_tree = every_tree is_named_in;
  own_quiet = no_constructor;
  own_sound = own_row;
  own_head = own_head_row;
}

pub writable_names_constructors : (t : Node) (s : Slot) → Fits t s → Writable t → names_constructors t ≡ true
writable_names_constructors t s f w = everywhere naming t s f (record { strict = false; assigned = false }) w
