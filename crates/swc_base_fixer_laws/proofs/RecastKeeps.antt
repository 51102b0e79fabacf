-- What is kept of a node whose parts are made anew: its statements say the same, and its chains go on.
use Rattle.std.proofs.Common.{◌≡◌, ℕ, Bool, true, false, Option, None, List, [], ◌∷◌, map, refl, sym, ap, ◌∙◌, rules, true≢false}
use Rattle.std.specs.Prelude.{is_some}
use Rattle.swc_tree_node.specs.declared.kind.Kind.{Kind}
use Rattle.swc_tree_node.specs.declared.kind.Kind.TheVariants as kind
use Rattle.swc_tree_node.specs.declared.kind.Class.TheVariants as class
use Rattle.swc_tree_node.specs.declared.slot.Slot.{Slot}
use Rattle.swc_tree_node.specs.declared.node.Node.{Node, List as Many, Tree, out-Node, the_lemmas}
use Rattle.swc_tree_node.specs.declared.node.Node.TheOpen.{Node-F}
use Rattle.swc_tree_node.specs.Table.{slots_of}
use Rattle.swc_tree_node.specs.Fits.{Fits, belongs}
use Rattle.swc_tree_node.proofs.Fit.{fits-List, tree_opens}
use Rattle.swc_tree_scoping.specs.Places.{has_use_strict, statement_in, literal_in, block_in, items_in as items_in'}
use Rattle.swc_tree_grammar.specs.Shapes.{items_of}
use Rattle.swc_tree_grammar.specs.Kinds.{has_kind, is_private_name, is_paren, is_chain, is_opt_chain}
use Rattle.swc_tree_grammar.specs.Stripped.{stripped}
use Rattle.swc_tree_grammar.specs.Writable.{Round, sound_in, in_head_in, all_sound, binding, is_string, base_goes_on_in}
use Rattle.swc_tree_grammar.proofs.Asked.{asked, head_list, same as whole, sound}
use Rattle.swc_tree_grammar.proofs.Induction.{by_children}
use Rattle.swc_tree_grammar.proofs.Places.{one}
use Rattle.swc_tree_grammar.proofs.Stripped.{stripped_of_tree}
use Rattle.swc_tree_grammar_laws.proofs.Levelled.{half}
use Rattle.swc_tree_grammar_laws.proofs.Blocked.{no}
use Rattle.swc_tree_grammar_laws.proofs.Derived.{sound_tree, sound_list, in_head_tree}
use Rattle.swc_base_fixer_laws.specs.Sets.{item}
use Rattle.swc_base_fixer_laws.proofs.Up.{kind_of_tree}
use Rattle.swc_base_fixer_laws.proofs.Recasts.{Recasts, FieldsRecast, is_special, is_whole, whole_special, of_expression, tree_looks, list_looks, expression_items}
use Rattle.swc_base_fixer_laws.proofs.Recasts.Recasts.{same, items, tree, kind_kept}
use Rattle.swc_base_fixer_laws.proofs.Recasts.FieldsRecast.{nil, field}
use Rattle.swc_base_fixer_laws.proofs.StrippedLooks.{own_string, own_chain}
use Rattle.swc_base_fixer_laws.proofs.RecastLooks.{text_same}
use Rattle.swc_base_fixer_laws.proofs.RecastSound.{Keeps, keeps_same, Kept, AllKept, fields_recast, all_recast, stays_string, only_sound, last_sound, tree_sound, tree_head, all_kept}
use Rattle.swc_base_fixer_laws.proofs.RecastSound.Kept.{nought, also_kept}
use Rattle.swc_base_fixer_laws.proofs.RecastSound.AllKept.{none_kept, more_kept}

-- of a directive its string
literal_rows : (k : Kind) (ts us : List Node) → FieldsRecast (slots_of k) ts us → literal_in (Node-F.Tree k us) ≡ literal_in (Node-F.Tree k ts)
literal_rows kind.Str ts us (field a (field b (field c nil))) = text_same b
literal_rows k ts us d = refl

pub literal_tree : (k : Kind) {ts us : List Node} → FieldsRecast (slots_of k) ts us → literal_in (out-Node (Tree k us)) ≡ literal_in (out-Node (Tree k ts))
literal_tree k {ts = ts} {us = us} d = tree_looks (Option (List ℕ)) literal_in k us ∙ literal_rows k ts us d ∙ sym (tree_looks (Option (List ℕ)) literal_in k ts)

says_row : (k : Kind) {ts us : List Node} → Kept (slots_of k) ts us → (r : Round) → sound_in (Node-F.Tree k (map asked ts)) r ≡ true → statement_in (Node-F.Tree k us) ≡ statement_in (Node-F.Tree k ts)
says_row kind.ExprStmt (also_kept a _ _ (also_kept {t = t} d f x nought)) r h = let p = half h in x.text f (binding r) (only_sound t (binding r) p.1) (sym (ap stays_string (whole t)) ∙ p.0)
says_row k x r h = refl

-- of a body whether it is strict
same_items : (t : Node) → items_in' (out-Node t) ≡ items_of t
same_items t = by_children (λ t. items_in' (out-Node t) ≡ items_of t)
    (search (rules, the_lemmas), λ x. search (rules, the_lemmas), λ w. search (rules, the_lemmas), λ x. search (rules, the_lemmas), λ s. search (rules, the_lemmas), λ k i. search (rules, the_lemmas))
    (λ ts l. search (rules, the_lemmas)) (λ k ts l. search (rules, the_lemmas)) t

abbrev strict_in : Node-F Node → Bool
strict_in x = has_use_strict (block_in x)

strict_row : (k : Kind) {ts us : List Node} → Kept (slots_of k) ts us → (r : Round) → sound_in (Node-F.Tree k (map asked ts)) r ≡ true → strict_in (Node-F.Tree k us) ≡ strict_in (Node-F.Tree k ts)
strict_row kind.BlockStmt (also_kept {t = s} a _ _ (also_kept {t = t} {u = u} b f x nought)) r h = ap has_use_strict (same_items u) ∙ x.leads (binding r) (last_sound s t (binding r) h) ∙ sym (ap has_use_strict (same_items t))
strict_row k x r h = refl

-- of the base of a chain whether a chain goes on from it
goes_on_row : (k : Kind) {ts us : List Node} → Kept (slots_of k) ts us → (r : Round) → sound_in (Node-F.Tree k (map asked ts)) r ≡ true → base_goes_on_in (Node-F.Tree k ts) ≡ true → base_goes_on_in (Node-F.Tree k us) ≡ true
goes_on_row kind.MemberExpr (also_kept a _ _ (also_kept c f x (also_kept d g y nought))) r h e = let p = half h in let q = half p.1 in x.chain f (binding r) q.0 ∙ e
goes_on_row kind.OptCall (also_kept a _ _ (also_kept c f x (also_kept d g y nought))) r h e = let p = half h in let q = half p.1 in let m = half q.0 in x.chain f (binding r) m.1 ∙ e
goes_on_row k x r h e = absurd (true≢false (sym e))

no_items : (k : Kind) (ts : List Node) → items_of (Tree k ts) ≡ []
no_items k ts = search (rules, the_lemmas)

items_many : (ts : List Node) → items_of (Many ts) ≡ ts
items_many ts = search (rules, the_lemmas)

-- what is left of an expression once it is stripped: a string where one was left, and a chain
pub record Shown (t u : Node) : Type 0 where
  pub string : Fits t (one class.Expr) → (r : Round) → sound t r ≡ true → is_string (stripped u) ≡ is_string (stripped t)
  pub chain : Fits t (one class.Expr) → (r : Round) → sound t r ≡ true → is_chain (stripped u) ≡ is_chain (stripped t)

-- the content of a pair
content_sound : (a e : Node) (r : Round) → sound (Tree kind.ParenExpr (a ∷ e ∷ [])) r ≡ true → sound e (binding r) ≡ true
content_sound a e r h = last_sound a e (binding r) (sym (sound_tree kind.ParenExpr (a ∷ e ∷ []) r) ∙ h)

pair_stripped : (a e : Node) → stripped (Tree kind.ParenExpr (a ∷ e ∷ [])) ≡ stripped e
pair_stripped a e = stripped_of_tree kind.ParenExpr (a ∷ e ∷ [])

module _ (k : Kind) {ts us : List Node} (x : Kept (slots_of k) ts us) (open_up : Fits (Tree k ts) (one class.Expr) → Fits (Tree k us) (one class.Expr)) where
  string_bare : is_paren k ≡ false → Fits (Tree k ts) (one class.Expr) → (r : Round) → sound (Tree k ts) r ≡ true → is_string (stripped (Tree k us)) ≡ is_string (stripped (Tree k ts))
  string_bare n f r h =
      own_string (Tree k us) (open_up f) (kind_of_tree is_paren k us ∙ n) r (tree_sound k x r h) ∙ ap is_some (literal_tree k (fields_recast x)) ∙ sym (own_string (Tree k ts) f (kind_of_tree is_paren k ts ∙ n) r h)

  chain_bare : is_paren k ≡ false → Fits (Tree k ts) (one class.Expr) → (r : Round) → sound (Tree k ts) r ≡ true → is_chain (stripped (Tree k us)) ≡ is_chain (stripped (Tree k ts))
  chain_bare n f r h =
      own_chain (Tree k us) (open_up f) (kind_of_tree is_paren k us ∙ n) r (tree_sound k x r h) ∙ (kind_of_tree is_opt_chain k us ∙ sym (kind_of_tree is_opt_chain k ts)) ∙ sym (own_chain (Tree k ts) f (kind_of_tree is_paren k ts ∙ n) r h)

tree_shown : (k : Kind) {ts us : List Node} → Kept (slots_of k) ts us → (Fits (Tree k ts) (one class.Expr) → Fits (Tree k us) (one class.Expr)) → Shown (Tree k ts) (Tree k us)
tree_shown kind.ParenExpr (also_kept {t = a} {u = a'} _ _ _ (also_kept {t = e} {u = e'} d f x nought)) o = record {
  string = λ g r h. ap is_string (pair_stripped a' e') ∙ x.string f (binding r) (content_sound a e r h) ∙ sym (ap is_string (pair_stripped a e));
  chain = λ g r h. ap is_chain (pair_stripped a' e') ∙ x.chain f (binding r) (content_sound a e r h) ∙ sym (ap is_chain (pair_stripped a e));
}
tree_shown k x o = record { string = string_bare k x o refl; chain = chain_bare k x o refl }

tree_keeps : (k : Kind) {ts us : List Node} → Kept (slots_of k) ts us → Shown (Tree k ts) (Tree k us) → Keeps (Tree k ts) (Tree k us)
tree_keeps k {ts = ts} {us = us} x y = record {
  keeps = tree_sound k x;
  heads = tree_head k x;
  public = λ r h g. kind_of_tree is_private_name k us ∙ sym (kind_of_tree is_private_name k ts) ∙ g;
  says = λ r h. tree_looks (Option (List ℕ)) statement_in k us ∙ says_row k x r (sym (sound_tree k ts r) ∙ h) ∙ sym (tree_looks (Option (List ℕ)) statement_in k ts);
  strict = λ r h. tree_looks Bool strict_in k us ∙ strict_row k x r (sym (sound_tree k ts r) ∙ h) ∙ sym (tree_looks Bool strict_in k ts);
  leads = λ r h. ap has_use_strict (no_items k us) ∙ sym (ap has_use_strict (no_items k ts));
  text = λ f r h g. literal_tree k (fields_recast x);
  string = y.string;
  chain = y.chain;
  goes_on = λ r h g. tree_looks Bool base_goes_on_in k us ∙ goes_on_row k x r (sym (sound_tree k ts r) ∙ h) (sym (tree_looks Bool base_goes_on_in k ts) ∙ g);
}

leads_all : {s : Slot} {ts us : List Node} → AllKept s ts us → (r : Round) → all_sound (map asked ts) r ≡ true → has_use_strict us ≡ has_use_strict ts
leads_all none_kept r h = refl
leads_all (more_kept d x k) r h = let p = half h in let q = half p.0 in rw (x.says r q.1, leads_all k r p.1) refl

public_list : (us : List Node) → has_kind is_private_name (Many us) ≡ false
public_list us = search (rules, the_lemmas)

list_keeps : {s : Slot} {ts us : List Node} → AllKept s ts us → Keeps (Many ts) (Many us)
list_keeps {ts = ts} {us = us} x = record {
  keeps = λ r h. sound_list us r ∙ all_kept x r (sym (sound_list ts r) ∙ h);
  heads = λ r h. absurd (no (sym (head_list ts r) ∙ h));
  public = λ r h g. public_list us;
  says = λ r h. list_looks (Option (List ℕ)) statement_in us ∙ sym (list_looks (Option (List ℕ)) statement_in ts);
  strict = λ r h. list_looks Bool strict_in us ∙ sym (list_looks Bool strict_in ts);
  leads = λ r h. ap has_use_strict (items_many us) ∙ leads_all x r (sym (sound_list ts r) ∙ h) ∙ sym (ap has_use_strict (items_many ts));
  text = λ f r h g. absurd (no (sym (fits-List ts (one class.Expr)) ∙ f));
  string = λ f r h. absurd (no (sym (fits-List ts (one class.Expr)) ∙ f));
  chain = λ f r h. absurd (no (sym (fits-List ts (one class.Expr)) ∙ f));
  goes_on = λ r h g. absurd (no (sym (list_looks Bool base_goes_on_in ts) ∙ g));
}

-- special kinds
special_says : (k : Kind) (ts : List Node) → is_special k ≡ true → statement_in (Node-F.Tree k ts) ≡ None
special_says kind.ExprStmt ts h = absurd (true≢false (sym h))
special_says k ts h = refl

special_strict : (k : Kind) (ts : List Node) → is_special k ≡ true → strict_in (Node-F.Tree k ts) ≡ false
special_strict kind.BlockStmt ts h = absurd (true≢false (sym h))
special_strict k ts h = refl

special_goes_on : (k : Kind) (ts : List Node) → is_special k ≡ true → base_goes_on_in (Node-F.Tree k ts) ≡ false
special_goes_on kind.MemberExpr ts h = absurd (true≢false (sym h))
special_goes_on kind.OptCall ts h = absurd (true≢false (sym h))
special_goes_on k ts h = refl

special_head : (k : Kind) (ts : List Node) → is_special k ≡ true → (r : Round) → in_head_in (Node-F.Tree k (map asked ts)) r ≡ false
special_head kind.VarDecl ts h r = absurd (true≢false (sym h))
special_head kind.UsingDecl ts h r = absurd (true≢false (sym h))
special_head k ts h r = refl

expression_says : (k : Kind) (ts : List Node) → belongs k class.Expr ≡ true → statement_in (Node-F.Tree k ts) ≡ None
expression_says kind.ExprStmt ts h = absurd (true≢false (sym h))
expression_says k ts h = refl

expression_strict : (k : Kind) (ts : List Node) → belongs k class.Expr ≡ true → strict_in (Node-F.Tree k ts) ≡ false
expression_strict kind.BlockStmt ts h = absurd (true≢false (sym h))
expression_strict k ts h = refl

-- what an expression of a special kind keeps
pub record Other (k : Kind) (ts : List Node) (u : Node) : Type 0 where
  pub keeps : (r : Round) → sound (Tree k ts) r ≡ true → sound u r ≡ true
  pub public : (r : Round) → sound (Tree k ts) r ≡ true → has_kind is_private_name (Tree k ts) ≡ false → has_kind is_private_name u ≡ false
  pub text : Fits (Tree k ts) (one class.Expr) → (r : Round) → sound (Tree k ts) r ≡ true → stays_string (Tree k ts) ≡ true → literal_in (out-Node u) ≡ literal_in (out-Node (Tree k ts))

pub expression_keeps : (k : Kind) (ts : List Node) (u : Node) → is_special k ≡ true → Fits u (one class.Expr) → Other k ts u → Shown (Tree k ts) u → Keeps (Tree k ts) u
expression_keeps k ts u s f x y = record {
  keeps = x.keeps;
  heads = λ r h. absurd (no (sym (special_head k ts s r) ∙ sym (in_head_tree k ts r) ∙ h));
  public = x.public;
  says = λ r h. of_expression (Option (List ℕ)) statement_in None expression_says (λ k i h. refl) u f ∙ sym (special_says k ts s) ∙ sym (tree_looks (Option (List ℕ)) statement_in k ts);
  strict = λ r h. of_expression Bool strict_in false expression_strict (λ k i h. refl) u f ∙ sym (special_strict k ts s) ∙ sym (tree_looks Bool strict_in k ts);
  leads = λ r h. ap has_use_strict (expression_items u f) ∙ sym (ap has_use_strict (no_items k ts));
  text = x.text;
  string = y.string;
  chain = y.chain;
  goes_on = λ r h g. absurd (no (sym (special_goes_on k ts s) ∙ sym (tree_looks Bool base_goes_on_in k ts) ∙ g));
}

no_expression : (k : Kind) → is_whole k ≡ true → belongs k class.Expr ≡ false
no_expression kind.Class h = refl
no_expression kind.IfStmt h = refl
no_expression k h = absurd (true≢false (sym h))

whole_keeps : (k : Kind) (ts us : List Node) → is_whole k ≡ true → ((r : Round) → sound (Tree k ts) r ≡ true → sound (Tree k us) r ≡ true) → Keeps (Tree k ts) (Tree k us)
whole_keeps k ts us w x = (
    let s = whole_special k w in
    record {
      keeps = x;
      heads = λ r h. absurd (no (sym (special_head k ts s r) ∙ sym (in_head_tree k ts r) ∙ h));
      public = λ r h g. kind_of_tree is_private_name k us ∙ sym (kind_of_tree is_private_name k ts) ∙ g;
      says = λ r h. tree_looks (Option (List ℕ)) statement_in k us ∙ special_says k us s ∙ sym (special_says k ts s) ∙ sym (tree_looks (Option (List ℕ)) statement_in k ts);
      strict = λ r h. tree_looks Bool strict_in k us ∙ special_strict k us s ∙ sym (special_strict k ts s) ∙ sym (tree_looks Bool strict_in k ts);
      leads = λ r h. ap has_use_strict (no_items k us) ∙ sym (ap has_use_strict (no_items k ts));
      text = λ f r h g. absurd (no (sym (no_expression k w) ∙ (tree_opens k ts class.Expr f).1));
      string = λ f r h. absurd (no (sym (no_expression k w) ∙ (tree_opens k ts class.Expr f).1));
      chain = λ f r h. absurd (no (sym (no_expression k w) ∙ (tree_opens k ts class.Expr f).1));
      goes_on = λ r h g. absurd (no (sym (special_goes_on k ts s) ∙ sym (tree_looks Bool base_goes_on_in k ts) ∙ g));
    })

-- what is made of a node in a place, and that it keeps what is asked
pub record Made (s : Slot) (t u : Node) : Type 0 where
  pub recast : Recasts s t u
  pub keeps : Keeps t u

pub as_made : (s : Slot) (t u v : Node) → v ≡ u → Made s t u → Made s t v
as_made s t u v e m = rw e m

pub same_made : (s : Slot) (t u : Node) → u ≡ t → Made s t u
same_made s t u e = as_made s t t u e (record { recast = same t; keeps = keeps_same t })

pub tree_made : (s : Slot) (k : Kind) {ts us : List Node} → Kept (slots_of k) ts us → (Fits (Tree k ts) (one class.Expr) → Fits (Tree k us) (one class.Expr)) → Made s (Tree k ts) (Tree k us)
tree_made s k {ts = ts} {us = us} x f = record { recast = tree k ts us (fields_recast x); keeps = tree_keeps k x (tree_shown k x f) }

pub list_made : (s : Slot) {ts us : List Node} → AllKept (item s) ts us → Made s (Many ts) (Many us)
list_made s {ts = ts} {us = us} x = record { recast = items ts us (all_recast x); keeps = list_keeps x }

pub whole_made : (s : Slot) (k : Kind) (ts us : List Node) → is_whole k ≡ true → ((r : Round) → sound (Tree k ts) r ≡ true → sound (Tree k us) r ≡ true) → Made s (Tree k ts) (Tree k us)
whole_made s k ts us w x = record { recast = kind_kept k ts us w; keeps = whole_keeps k ts us w x }
