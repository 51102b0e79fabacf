-- What holds of a tree exactly if it holds of all that stands below it, holds of its plain form: that no identifier has a context, that no
-- node of types stands there.
use Rattle.std.proofs.Common.{◌≡◌, ℕ, zero, suc, Bool, true, false, ◌&&◌, ◌||◌, Option, Some, None, List, [], ◌∷◌, map, refl, sym, ap, subst, ◌∙◌, rules}
use Rattle.std.specs.List.{list_any, slice_get}
use Rattle.swc_tree_marks.specs.declared.ident.Ident.{Ident}
use Rattle.swc_tree_node.specs.declared.kind.Kind.{Kind}
use Rattle.swc_tree_node.specs.declared.kind.Kind.TheVariants as kind
use Rattle.swc_tree_node.specs.declared.node.Node.{Node, Absent, Text, List as Many, Identifier, Tree, out-Node, the_lemmas}
use Rattle.swc_tree_node.specs.declared.node.Node.TheVariants.{outs-Absent, outs-Text, outs-List, outs-Identifier, outs-Tree}
use Rattle.swc_tree_node.specs.declared.node.Node.TheOpen.{Node-F}
use Rattle.swc_tree_node.specs.Parts.{has_parts}
use Rattle.swc_tree_scoping.specs.declared.places.Place.{Place}
use Rattle.swc_tree_scoping.specs.Places.{Path, child, children_in, given, place_at, place_below, program_place}
use Rattle.swc_tree_scoping.specs.WellScoped.{IsClean}
use Rattle.swc_tree_spaces.specs.Spaces.{has_types, is_of_types}
use Rattle.swc_tree_has_types.proofs.Told.{types_of_list, types_of_tree}
use Rattle.swc_tree_grammar.proofs.Induction.{Each, by_children}
use Rattle.swc_base_plain_numbers.specs.Numbers.{plain_big, plain_number}
use Rattle.swc_base_plain_form.specs.PlainForm.{forms, holds_statements, is_string, literal, parts, plain_form, respelled, respelled_in}
use Rattle.swc_base_plain_form.specs.Laws.{PlainFormAddsNoTypes, PlainFormIsClean}
use Rattle.swc_base_plain_form.proofs.Forms.{parts_of_other, parts_of_string, plain_leaves, plain_of_list, plain_of_tree}

-- it holds of a node exactly if it holds of all below it, whatever kind the node has if it held of one of that kind
record Closed (P : Node → Type 0) : Type 0 where
  absent : P Absent
  text : (x : List ℕ) → P (Text x)
  list : (ts : List Node) → Each P ts → P (Many ts)
  items : (ts : List Node) → P (Many ts) → Each P ts
  tree : (k : Kind) (ts us : List Node) → P (Tree k ts) → Each P us → P (Tree k us)
  fields : (k : Kind) (ts : List Node) → P (Tree k ts) → Each P ts

module _ (P : Node → Type 0) (closed : Closed P) where
  abbrev Keeps : Node → Type 0
  Keeps t = P t → (b : Bool) → P ((forms t).plain b)

  parts_keep : (lead within : Bool) (ts : List Node) → Each Keeps ts → Each P ts → Each P (parts lead within (map forms ts))
  parts_keep lead within [] e h = tt
  parts_keep lead within (t ∷ ts) e h = at (lead && is_string t) refl (parts_keep true within ts e.1 h.1) (parts_keep false within ts e.1 h.1)
    where
      at : (b : Bool) → (lead && is_string t) ≡ b → Each P (parts true within (map forms ts)) → Each P (parts false within (map forms ts)) → Each P (parts lead within (forms t ∷ map forms ts))
      at true i one other = subst (Each P) (sym (parts_of_string lead within t (map forms ts) i)) (h.0, one)
      at false i one other = subst (Each P) (sym (parts_of_other lead within t (map forms ts) i)) (e.0 h.0 within, other)

  text_keeps : (spell : List ℕ → List ℕ) (y : Node-F Node) (t : Node) → P t → P (respelled_in spell t y)
  text_keeps spell (Node-F.Text x) t h = closed.text (spell x)
  text_keeps spell y t h = h

  literal_keeps : (k : Kind) (ts : List Node) → Each P ts → Each P (literal k ts)
  literal_keeps kind.Str (a ∷ b ∷ c ∷ []) h = (h.0, (h.1.0, (closed.absent, tt)))
  literal_keeps kind.Number (a ∷ b ∷ []) h = (h.0, (text_keeps plain_number (out-Node b) b h.1.0, tt))
  literal_keeps kind.BigInt (a ∷ b ∷ []) h = (h.0, (text_keeps plain_big (out-Node b) b h.1.0, tt))
  literal_keeps k ts h = h

  leaf_keeps : (t : Node) → has_parts t ≡ false → Keeps t
  leaf_keeps t e h b = subst P (sym (plain_leaves b t e)) h

  plain_keeps : (t : Node) → Keeps t
  plain_keeps = by_children Keeps
      (leaf_keeps _ (search (rules, the_lemmas)), (λ x. leaf_keeps _ (search (rules, the_lemmas))), (λ w. leaf_keeps _ (search (rules, the_lemmas))), (λ x. leaf_keeps _ (search (rules, the_lemmas))), (λ s. leaf_keeps _ (search (rules, the_lemmas))), (λ k i. leaf_keeps _ (search (rules, the_lemmas))))
      (λ ts e h b. subst P (sym (plain_of_list b ts)) (closed.list (parts b false (map forms ts)) (parts_keep b false ts e (closed.items ts h))))
      (λ k ts e h b. subst P (sym (plain_of_tree b k ts))
      (closed.tree k ts (literal k (parts false (holds_statements b k) (map forms ts))) h (literal_keeps k (parts false (holds_statements b k) (map forms ts)) (parts_keep false (holds_statements b k) ts e (closed.fields k ts h)))))

-- ---- types

abbrev NoTypes : Node → Type 0
NoTypes t = has_types t ≡ false

left_false : (a b : Bool) → (a || b) ≡ false → a ≡ false
left_false true b h = h
left_false false b h = refl

right_false : (a b : Bool) → (a || b) ≡ false → b ≡ false
right_false true b h = absurd (cc)
right_false false b h = h

none : (ts : List Node) → Each NoTypes ts → list_any has_types ts ≡ false
none [] h = refl
none (t ∷ ts) h = ap (λ b. b || list_any has_types ts) h.0 ∙ none ts h.1

each_none : (ts : List Node) → list_any has_types ts ≡ false → Each NoTypes ts
each_none [] h = tt
each_none (t ∷ ts) h = (left_false (has_types t) (list_any has_types ts) h, each_none ts (right_false (has_types t) (list_any has_types ts) h))

of_no_types : (k : Kind) (ts : List Node) → NoTypes (Tree k ts) → (is_of_types k || list_any has_types ts) ≡ false
of_no_types k ts h = sym (types_of_tree k ts) ∙ h

typeless : Closed NoTypes
typeless = record {
  absent = search (rules, the_lemmas);
  text = λ x. search (rules, the_lemmas);
  list = λ ts h. types_of_list ts ∙ none ts h;
  items = λ ts h. each_none ts (sym (types_of_list ts) ∙ h);
  tree = λ k ts us h e. types_of_tree k us ∙ ap (λ b. b || list_any has_types us) (left_false (is_of_types k) (list_any has_types ts) (of_no_types k ts h)) ∙ none us e;
  fields = λ k ts h. each_none ts (right_false (is_of_types k) (list_any has_types ts) (of_no_types k ts h));
}

pub no_types : PlainFormAddsNoTypes
no_types t h = plain_keeps NoTypes typeless t h false

-- ---- contexts

-- no identifier has a context, whatever place the tree has
abbrev Bare : Node → Type 0
Bare t = (p : Path) (w v : Place) (k : Kind) (i : Ident) → place_at w t p ≡ Some (v, Identifier k i) → i.ctxt ≡ []

pub of_some : {A : Type 0} (a b : A) → Some a ≡ Some b → a ≡ b
of_some a b h = cc

-- what stands at a path is the same, whatever place the tree has
moved : (p : Path) (w z v : Place) (t u : Node) → place_at w t p ≡ Some (v, u) → (x : Place) × (place_at z t p ≡ Some (x, u))
moved [] w z v t u e = (z, ap (λ (x : Place × Node). Some (z, x.1)) (of_some (w, t) (v, u) e))
moved (n ∷ p) w z v t u e = at (λ c e. moved p (place_below w t n) (place_below z t n) v c u e) (child t n) e
  where
    at : ((c : Node) → place_at (place_below w t n) c p ≡ Some (v, u) → (x : Place) × (place_at (place_below z t n) c p ≡ Some (x, u))) → (o : Option Node) → given o None (λ c. place_at (place_below w t n) c p) ≡ Some (v, u)
        → (x : Place) × (given o None (λ c. place_at (place_below z t n) c p) ≡ Some (x, u))
    at rest None e = absurd (cc)
    at rest (Some c) e = rest c e

-- it holds of a node that is no identifier if it holds of each child
by_child : (t : Node) → ((k : Kind) (i : Ident) → t ≡ Identifier k i → ⊥) → ((n : ℕ) (c : Node) → child t n ≡ Some c → Bare c) → Bare t
by_child t other all [] w v k i e = absurd (other k i (ap (λ (x : Place × Node). x.1) (of_some (w, t) (v, Identifier k i) e)))
by_child t other all (n ∷ p) w v k i e = at (child t n) refl e
  where
    at : (o : Option Node) → child t n ≡ o → given o None (λ c. place_at (place_below w t n) c p) ≡ Some (v, Identifier k i) → i.ctxt ≡ []
    at None o e = absurd (cc)
    at (Some c) o e = all n c o p (place_below w t n) v k i e

-- and of each child if it holds of the node
child_bare : (t : Node) → Bare t → (n : ℕ) (c : Node) → child t n ≡ Some c → Bare c
child_bare t h n c there p w v k i e =
    let m = moved p w (place_below program_place t n) v c (Identifier k i) e in
    h (n ∷ p) program_place m.0 k i (ap (λ o. given o None (λ d. place_at (place_below program_place t n) d p)) there ∙ m.1)

all_bare : (ts : List Node) → Each Bare ts → (n : ℕ) (c : Node) → slice_get ts n ≡ Some c → Bare c
all_bare [] h n c there = absurd (cc)
all_bare (t ∷ ts) h zero c there = subst Bare (of_some t c there) h.0
all_bare (t ∷ ts) h (suc n) c there = all_bare ts h.1 n c there

each_bare : (ts : List Node) → ((n : ℕ) (c : Node) → slice_get ts n ≡ Some c → Bare c) → Each Bare ts
each_bare [] h = tt
each_bare (t ∷ ts) h = (h zero t refl, each_bare ts (λ n c there. h (suc n) c there))

pub child_of_list : (ts : List Node) (n : ℕ) → child (Many ts) n ≡ slice_get ts n
child_of_list ts n = ap (λ y. slice_get (children_in y) n) (outs-List ts)

pub child_of_tree : (k : Kind) (ts : List Node) (n : ℕ) → child (Tree k ts) n ≡ slice_get ts n
child_of_tree k ts n = ap (λ y. slice_get (children_in y) n) (outs-Tree k ts)

no_list : (ts : List Node) (k : Kind) (i : Ident) → Node-F.List ts ≡ Node-F.Identifier k i → ⊥
no_list ts k i e = absurd (cc)

no_tree : (l : Kind) (ts : List Node) (k : Kind) (i : Ident) → Node-F.Tree l ts ≡ Node-F.Identifier k i → ⊥
no_tree l ts k i e = absurd (cc)

no_absent : (y : Node-F Node) (k : Kind) (i : Ident) → y ≡ Node-F.Absent → y ≡ Node-F.Identifier k i → ⊥
no_absent y k i e f = absurd (cc)

no_text : (y : Node-F Node) (x : List ℕ) (k : Kind) (i : Ident) → y ≡ Node-F.Text x → y ≡ Node-F.Identifier k i → ⊥
no_text y x k i e f = absurd (cc)

pub no_child_of_absent : (n : ℕ) (c : Node) → child Absent n ≡ Some c → ⊥
no_child_of_absent n c e = let none : slice_get [] n ≡ Some c = ap (λ y. slice_get (children_in y) n) (sym outs-Absent) ∙ e in absurd (cc)

pub no_child_of_text : (x : List ℕ) (n : ℕ) (c : Node) → child (Text x) n ≡ Some c → ⊥
no_child_of_text x n c e = let none : slice_get [] n ≡ Some c = ap (λ y. slice_get (children_in y) n) (sym (outs-Text x)) ∙ e in absurd (cc)

many_bare : (ts : List Node) → Each Bare ts → Bare (Many ts)
many_bare ts e = by_child (Many ts) (λ k i is. no_list ts k i (sym (outs-List ts) ∙ ap out-Node is ∙ outs-Identifier k i)) (λ n c there. all_bare ts e n c (sym (child_of_list ts n) ∙ there))

tree_bare : (k : Kind) (ts : List Node) → Each Bare ts → Bare (Tree k ts)
tree_bare k ts e = by_child (Tree k ts) (λ l i is. no_tree k ts l i (sym (outs-Tree k ts) ∙ ap out-Node is ∙ outs-Identifier l i)) (λ n c there. all_bare ts e n c (sym (child_of_tree k ts n) ∙ there))

contextless : Closed Bare
contextless = record {
  absent = by_child Absent (λ k i is. no_absent (out-Node Absent) k i outs-Absent (ap out-Node is ∙ outs-Identifier k i)) (λ n c there. absurd (no_child_of_absent n c there));
  text = λ x. by_child (Text x) (λ k i is. no_text (out-Node (Text x)) x k i (outs-Text x) (ap out-Node is ∙ outs-Identifier k i)) (λ n c there. absurd (no_child_of_text x n c there));
  list = many_bare;
  items = λ ts h. each_bare ts (λ n c there. child_bare (Many ts) h n c (child_of_list ts n ∙ there));
  tree = λ k ts us h e. tree_bare k us e;
  fields = λ k ts h. each_bare ts (λ n c there. child_bare (Tree k ts) h n c (child_of_tree k ts n ∙ there));
}

bare_at_any : (t : Node) → IsClean t → Bare t
bare_at_any t h p w v k i e = let m = moved p w program_place v t (Identifier k i) e in h p m.0 k i m.1

pub clean : PlainFormIsClean
clean t h p w k i = plain_keeps Bare contextless t (bare_at_any t h) false p program_place w k i
