-- In a tree that can be written down no member is one of the name `let`, and pairs keep it so.
use Rattle.std.proofs.Common.{◌≡◌, ℕ, Bool, true, false, not, ◌&&◌, List, [], ◌∷◌, map, refl, sym, ap, ◌∙◌, rules, true≢false}
use Rattle.std.specs.Prelude.{codes, nat_eq}
use Rattle.std.specs.Cmp.Lexicographic.{pointwise, same_text}
use Rattle.std.specs.List.{list_all}
use Rattle.swc_tree_marks.specs.declared.ident.Ident.{Ident}
use Rattle.swc_tree_node.specs.declared.kind.Kind.{Kind}
use Rattle.swc_tree_node.specs.declared.kind.Kind.TheVariants as kind
use Rattle.swc_tree_node.specs.declared.slot.Slot.{Slot}
use Rattle.swc_tree_node.specs.declared.node.Node.{Node, Span, List as Many, Identifier, Tree, out-Node, the_lemmas}
use Rattle.swc_tree_node.specs.declared.node.Node.TheOpen.{Node-F}
use Rattle.swc_tree_node.specs.Table.{slots_of}
use Rattle.swc_tree_node.specs.Fits.{Fits}
use Rattle.swc_tree_grammar.specs.Shapes.{Member}
use Rattle.swc_tree_grammar.specs.Starts.{is_let_in}
use Rattle.swc_tree_grammar.specs.Writable.{Round, Writable, binding, is_identifier_text, sound_in, in_head_in}
use Rattle.swc_tree_grammar.proofs.Asked.{asked, sound, sound_name}
use Rattle.swc_tree_grammar.proofs.Induction.{by_children}
use Rattle.swc_tree_grammar_laws.specs.Every.{every}
use Rattle.swc_tree_grammar_laws.proofs.Blocked.{no}
use Rattle.swc_tree_grammar_laws.proofs.Every.{every_tree, every_list}
use Rattle.swc_tree_grammar_laws.proofs.Levelled.{both, half, also, also_both}
use Rattle.swc_base_fixer_laws.specs.Sets.{Sets, AllSet, FieldsSet}
use Rattle.swc_base_fixer_laws.specs.Sets.Sets.{same, after, around, named, items, tree}
use Rattle.swc_base_fixer_laws.specs.Sets.AllSet.{none as empty, more as cons}
use Rattle.swc_base_fixer_laws.specs.Sets.FieldsSet.{nil, field}
use Rattle.swc_base_fixer_laws.proofs.Kept.{not_false, not_up}
use Rattle.swc_base_fixer_laws.proofs.Quiet.{is_quiet}
use Rattle.swc_base_fixer_laws.proofs.Everywhere.{Everywhere, Parts, everywhere}
use Rattle.swc_base_fixer_laws.proofs.Everywhere.Parts.{none, more}

abbrev plain_in : Node-F Node → Bool
plain_in (Member span obj prop) = not (is_let_in (out-Node obj))
plain_in _ = true

-- no member is one of the name `let`
abbrev pub is_plain : Node → Bool
is_plain = every plain_in

pub plain_tree : (k : Kind) (ts : List Node) → is_plain (Tree k ts) ≡ (plain_in (Node-F.Tree k ts) && list_all is_plain ts)
plain_tree = every_tree plain_in

pub plain_list : (ts : List Node) → is_plain (Many ts) ≡ list_all is_plain ts
plain_list = every_list plain_in

-- the object of a member is no such name
pub plain_object : (s o m : Node) → is_plain (Tree kind.MemberExpr (s ∷ o ∷ m ∷ [])) ≡ true → is_let_in (out-Node o) ≡ false
plain_object s o m h = not_false (is_let_in (out-Node o)) (half (sym (plain_tree kind.MemberExpr (s ∷ o ∷ m ∷ [])) ∙ h)).0

-- what can be written down: `let` is reserved
other_text : (text : List ℕ) (b : Bool) → pointwise nat_eq text (codes "let") ≡ b → is_identifier_text text ≡ true → not b ≡ true
other_text text true e h = absurd (no (sym (ap is_identifier_text (same_text text (codes "let") (sym e))) ∙ h))
other_text text false e h = refl

name_text : (k : Kind) (i : Ident) (r : Round) → sound_in (Node-F.Identifier k i) (binding r) ≡ true → is_identifier_text i.sym ≡ true
name_text kind.BindingIdent i r h = (half h).0
name_text k i r h = h

other_name : (t : Node) (r : Round) → sound t (binding r) ≡ true → not (is_let_in (out-Node t)) ≡ true
other_name t = by_children (λ t. (r : Round) → sound t (binding r) ≡ true → not (is_let_in (out-Node t)) ≡ true) (
  λ r h. search (rules, the_lemmas),
  λ x r h. search (rules, the_lemmas),
  λ w r h. search (rules, the_lemmas),
  λ x r h. search (rules, the_lemmas),
  λ s r h. search (rules, the_lemmas),
  λ k i r h. (let e : is_let_in (out-Node (Identifier k i)) ≡ pointwise nat_eq i.sym (codes "let") = search (rules, the_lemmas) in ap not e ∙ other_text i.sym (pointwise nat_eq i.sym (codes "let")) refl (name_text k i r (sym (sound_name k i (binding r)) ∙ h))),
)
    (λ ts l r h. search (rules, the_lemmas))
    (λ k ts l r h. search (rules, the_lemmas)) t

no_member : (k : Kind) (ts : List Node) → list_all is_quiet (slots_of k) ≡ true → plain_in (Node-F.Tree k ts) ≡ true
no_member kind.MemberExpr ts q = absurd (true≢false (sym q))
no_member k ts q = refl

own_row : (k : Kind) (ts : List Node) → Parts is_plain (slots_of k) ts → (r : Round) → sound_in (Node-F.Tree k (map asked ts)) r ≡ true → plain_in (Node-F.Tree k ts) ≡ true
own_row kind.MemberExpr ts (more a _ (more {t = o} _ x (more _ y none))) r h = let p = half h in let q = half p.1 in other_name o r q.0
own_row k ts x r h = refl

own_head_row : (k : Kind) (ts : List Node) (r : Round) → in_head_in (Node-F.Tree k (map asked ts)) r ≡ true → plain_in (Node-F.Tree k ts) ≡ true
own_head_row kind.MemberExpr ts r h = absurd (true≢false (sym h))
own_head_row k ts r h = refl

plain : Everywhere is_plain (λ k ts. plain_in (Node-F.Tree k ts))
plain = record {
  of_leaves = (search (rules, the_lemmas), λ x. search (rules, the_lemmas), λ w. search (rules, the_lemmas), λ x. search (rules, the_lemmas), λ r. search (rules, the_lemmas), λ k i. search (rules, the_lemmas));
  of_list = plain_list;
  of_tree = plain_tree;
  own_quiet = no_member;
  own_sound = own_row;
  own_head = own_head_row;
}

pub written_is_plain : (t : Node) (s : Slot) → Fits t s → Writable t → is_plain t ≡ true
written_is_plain t s f w = everywhere plain t s f (record { strict = false; assigned = false }) w

-- pairs
no_name : (k : Kind) (ts : List Node) → is_let_in (out-Node (Tree k ts)) ≡ false
no_name k ts = search (rules, the_lemmas)

other_kept : {s : Slot} {t u : Node} → Sets s t u → is_let_in (out-Node t) ≡ false → is_let_in (out-Node u) ≡ false
other_kept (same t) h = h
other_kept (after c d) h = other_kept d (other_kept c h)
other_kept (around r t u p q d) h = no_name kind.ParenExpr (Span r ∷ u ∷ [])
other_kept (named r k i c) h = no_name kind.ParenExpr (Span r ∷ Identifier kind.Ident i ∷ [])
other_kept (items ts us d) h = search (rules, the_lemmas)
other_kept (tree k ts us e d) h = no_name k us

kept_row : (k : Kind) {ts us : List Node} → FieldsSet (slots_of k) ts us → plain_in (Node-F.Tree k ts) ≡ true → plain_in (Node-F.Tree k us) ≡ true
kept_row kind.MemberExpr (field a (field {t = o} {u = o'} c (field b nil))) h = not_up (is_let_in (out-Node o)) (is_let_in (out-Node o')) (other_kept c) h
kept_row k d h = refl

in_pair : (s u : Node) → is_plain s ≡ true → is_plain u ≡ true → is_plain (Tree kind.ParenExpr (s ∷ u ∷ [])) ≡ true
in_pair s u g h = plain_tree kind.ParenExpr (s ∷ u ∷ []) ∙ rw (g, h) refl

mutual
  pub plain_kept : {s : Slot} {t u : Node} → Sets s t u → is_plain t ≡ true → is_plain u ≡ true
  plain_kept (same t) h = h
  plain_kept (after c d) h = plain_kept d (plain_kept c h)
  plain_kept (around r t u p q d) h = in_pair (Span r) u (search (rules, the_lemmas)) (plain_kept d h)
  plain_kept (named r k i c) h = in_pair (Span r) (Identifier kind.Ident i) (search (rules, the_lemmas)) (search (rules, the_lemmas))
  plain_kept (items ts us d) h = plain_list us ∙ items_kept d (sym (plain_list ts) ∙ h)
  plain_kept (tree k ts us e d) h = let q = both (plain_in (Node-F.Tree k ts)) (list_all is_plain ts) (sym (plain_tree k ts) ∙ h) in plain_tree k us ∙ also (kept_row k d q.0) (fields_kept d q.1)

  items_kept : {s : Slot} {ts us : List Node} → AllSet s ts us → list_all is_plain ts ≡ true → list_all is_plain us ≡ true
  items_kept empty h = refl
  items_kept (cons {t = t} {u = u} {ts = ts} {us = us} c d) h = let q = both (is_plain t) (list_all is_plain ts) h in also_both (is_plain u) (list_all is_plain us) (plain_kept c q.0) (items_kept d q.1)

  fields_kept : {ss : List Slot} {ts us : List Node} → FieldsSet ss ts us → list_all is_plain ts ≡ true → list_all is_plain us ≡ true
  fields_kept nil h = refl
  fields_kept (field {t = t} {u = u} {ts = ts} {us = us} c d) h = let q = both (is_plain t) (list_all is_plain ts) h in also_both (is_plain u) (list_all is_plain us) (plain_kept c q.0) (fields_kept d q.1)
