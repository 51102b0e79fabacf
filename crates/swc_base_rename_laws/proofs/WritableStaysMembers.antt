-- Accessors and the parts of chains stay what they are when names are given anew.
use Rattle.std.proofs.Common.{◌≡◌, Bool, true, false, not, IsTrue, List, [], ◌∷◌, map, length, nat_eq, rules, refl, sym, ap, ◌∙◌, subst, true≢false}
use Rattle.swc_tree_node.specs.declared.kind.Kind.{Kind}
use Rattle.swc_tree_node.specs.declared.kind.Kind.TheVariants as kind
use Rattle.swc_tree_node.specs.declared.kind.Class.TheVariants as class
use Rattle.swc_tree_node.specs.declared.slot.Content.TheVariants as content
use Rattle.swc_tree_node.specs.declared.slot.Slot.TheVariants as slot
use Rattle.swc_tree_node.specs.declared.node.Node.{Node, Absent, Flag, Word, Text, Span, List as Many, Identifier, Tree, out-Node, roll-Node, roll-out-Node, the_lemmas}
use Rattle.swc_tree_node.specs.declared.node.Node.TheVariants.{outs-Identifier, outs-List, outs-Tree, rolls-Tree}
use Rattle.swc_tree_node.specs.declared.node.Node.TheOpen.{Node-F}
use Rattle.swc_tree_node.specs.Table.{slots_of}
use Rattle.swc_tree_node.specs.Fits.{FieldsFit, Fits, belongs}
use Rattle.swc_tree_node.proofs.Fit.{tree_opens}
use Rattle.swc_tree_grammar.specs.Writable.{Round, accessor, base_goes_on_in, binding, is_getter, is_setter, one_without_rest, parameters_in, sound_in}
use Rattle.swc_tree_grammar.proofs.Asked.{of, sound, sound_tree}
use Rattle.swc_tree_grammar.proofs.Induction.{by_children}
use Rattle.swc_base_rename_substitution.specs.declared.place.Place.{Place}
use Rattle.swc_base_rename_substitution.specs.declared.place.Place.TheVariants as place
use Rattle.swc_base_rename_substitution.specs.Identifiers.{Changes, writes_out}
use Rattle.swc_base_rename_substitution.specs.Substituted.{substituted}
use Rattle.swc_base_rename_substitution.specs.Walk.{each_substituted}
use Rattle.swc_base_rename_substitution.proofs.Lists.{each_length}
use Rattle.swc_base_rename_substitution.proofs.Room.{is_short, left, right}
use Rattle.swc_base_rename_laws.specs.Laws.{GivesNames}
use Rattle.swc_base_rename_laws.proofs.WritableStaysShape.{Even, even_at, fields, plain_tree}
use Rattle.swc_base_rename_laws.proofs.WritableStaysForms.{word_same}
use Rattle.swc_base_rename_laws.proofs.WritableStaysLists.{Le, items_each}
use Rattle.swc_base_rename_laws.proofs.WritableStaysPatterns.{and_le, one_without_rest_le, or_le, same_le}
use Rattle.swc_base_rename_laws.proofs.WritableStaysStripped.{first_sound, rest_sound}
use Rattle.swc_base_rename_laws.proofs.WritableStaysHeads.{chain_same}
use Rattle.swc_base_rename_laws.proofs.WritableStaysParts.{list_unexported}
use Rattle.swc_base_rename_laws.proofs.Impossible.{impossible}

abbrev is_function_in : Node-F Node → Bool
is_function_in (Node-F.Tree kind.Function (a ∷ b ∷ c ∷ d ∷ e ∷ [])) = true
is_function_in _ = false

no_parameters : (y : Node-F Node) → is_function_in y ≡ false → parameters_in y ≡ []
no_parameters (Node-F.Tree kind.Function (a ∷ b ∷ c ∷ d ∷ e ∷ [])) h = absurd (cc)
no_parameters (Node-F.Tree k ts) h = refl
no_parameters y h = refl

record IsFunction (t : Node) : Type 0 where
  a : Node
  params : Node
  c : Node
  d : Node
  e : Node
  is : t ≡ Tree kind.Function (a ∷ params ∷ c ∷ d ∷ e ∷ [])

function_is : (t : Node) (y : Node-F Node) → out-Node t ≡ y → is_function_in y ≡ true → IsFunction t
function_is t (Node-F.Tree kind.Function (a ∷ b ∷ c ∷ d ∷ e ∷ [])) o h = record { a = a; params = b; c = c; d = d; e = e; is = sym (roll-out-Node t) ∙ ap roll-Node o ∙ rolls-Tree kind.Function (a ∷ b ∷ c ∷ d ∷ e ∷ []) }
function_is t y o h = absurd (cc)

module _ (m : Changes) (g : GivesNames m) where
  function_trees : (p : Place) (k : Kind) (ts : List Node) → is_function_in (Node-F.Tree k (fields m p k ts)) ≡ is_function_in (Node-F.Tree k ts)
  function_trees p kind.Function [] = refl
  function_trees p kind.Function (a ∷ []) = refl
  function_trees p kind.Function (a ∷ b ∷ []) = refl
  function_trees p kind.Function (a ∷ b ∷ c ∷ []) = refl
  function_trees p kind.Function (a ∷ b ∷ c ∷ d ∷ []) = refl
  function_trees p kind.Function (a ∷ b ∷ c ∷ d ∷ e ∷ []) = refl
  function_trees p kind.Function (a ∷ b ∷ c ∷ d ∷ e ∷ f ∷ ts) = refl
  function_trees p k ts = refl

  functions : Even m is_function_in
  functions = record { trees = function_trees; properties = λ us vs. refl; imports = λ i us. refl; exports = λ i us. refl; names = λ k i j. refl; lists = λ p ts. refl }

  -- each parameter
  parameters_same : (p : Place) → is_short p ≡ false → (t : Node) → Fits t (slot.One (content.Node class.Function))
      → parameters_in (out-Node (substituted m false p t)) ≡ each_substituted m false (λ i. place.Other) (parameters_in (out-Node t))
  parameters_same p n t f = at (is_function_in (out-Node t)) refl
    where
      at : (b : Bool) → is_function_in (out-Node t) ≡ b → parameters_in (out-Node (substituted m false p t)) ≡ each_substituted m false (λ i. place.Other) (parameters_in (out-Node t))
      at false e =
          no_parameters (out-Node (substituted m false p t)) (even_at m is_function_in functions g p n t ∙ e)
          ∙ sym (ap (λ l. each_substituted m false (λ i. place.Other) l) (no_parameters (out-Node t) e))
      at true e =
          let w = function_is t (out-Node t) refl e in
          let ts : List Node = w.a ∷ w.params ∷ w.c ∷ w.d ∷ w.e ∷ [] in
          let fit = (tree_opens kind.Function ts class.Function (subst (λ u. Fits u (slot.One (content.Node class.Function))) w.is f)).2 in
          ap (λ u. parameters_in (out-Node (substituted m false p u))) w.is
          ∙ ap (λ u. parameters_in (out-Node u)) (plain_tree m p kind.Function ts refl)
          ∙ ap parameters_in (outs-Tree kind.Function (fields m p kind.Function ts))
          ∙ items_each m g place.Other w.params (list_unexported class.Param refl w.params fit.1.0)
          ∙ sym (ap (λ y. each_substituted m false (λ i. place.Other) (parameters_in y)) (ap out-Node w.is ∙ outs-Tree kind.Function ts))

  pub accessor_le : (t k : Node) → Fits t (slot.One (content.Node class.Function)) → Le (accessor t k) (accessor (substituted m false place.Other t) (substituted m false place.Other k))
  accessor_le t k f =
      let ps : List Node = parameters_in (out-Node t) in
      let w = word_same m g place.Other refl k in
      let e = parameters_same place.Other refl t f in
      and_le
      (or_le (same_le (ap (λ x. not (is_getter x)) w)) (same_le (ap (λ l. nat_eq (length l) 0) e ∙ ap (λ n. nat_eq n 0) (each_length m false (λ i. place.Other) ps))))
      (or_le (same_le (ap (λ x. not (is_setter x)) w)) (λ h. ap one_without_rest e ∙ one_without_rest_le m g place.Other refl ps h))

  -- ---- parts of chains

  base_plain : (k : Kind) → IsTrue (belongs k class.OptChainBase) → writes_out k ≡ false
  base_plain kind.AssignPatProp h = absurd (true≢false (sym h))
  base_plain kind.ImportNamedSpecifier h = absurd (true≢false (sym h))
  base_plain kind.ExportNamedSpecifier h = absurd (true≢false (sym h))
  base_plain k h = refl

  base_row : (p : Place) (k : Kind) (ts : List Node) (r : Round) → FieldsFit (slots_of k) ts → sound_in (Node-F.Tree k (map of ts)) r ≡ true → sound_in (Node-F.Tree k (map of (fields m p k ts))) r ≡ true
      → Le (base_goes_on_in (Node-F.Tree k ts)) (base_goes_on_in (Node-F.Tree k (fields m p k ts)))
  base_row p kind.MemberExpr (a ∷ b ∷ c ∷ []) r f h h' x =
      chain_same m g place.Name (binding r) refl b f.1.0 (left _ _ (right _ _ h)) (left _ _ (right _ _ h')) ∙ x
  base_row p kind.OptCall (a ∷ b ∷ c ∷ []) r f h h' x =
      chain_same m g place.Name (binding r) refl b f.1.0 (first_sound b (of c ∷ []) (binding r) (rest_sound a (of b ∷ of c ∷ []) (binding r) h))
      (first_sound (substituted m false place.Name b) (of (substituted m false place.Other c) ∷ []) (binding r)
      (rest_sound (substituted m false place.Other a) (of (substituted m false place.Name b) ∷ of (substituted m false place.Other c) ∷ []) (binding r) h')) ∙ x
  base_row p k ts r f h h' x = impossible x

  none_goes_on : (t : Node) (y : Node-F Node) → out-Node t ≡ y → base_goes_on_in y ≡ false → base_goes_on_in (out-Node t) ≡ true → (b : Bool) → b ≡ true
  none_goes_on t y o e h b = let never : base_goes_on_in (out-Node t) ≡ false = ap base_goes_on_in o ∙ e in absurd (cc)

  pub base_le : (p : Place) (t : Node) (r : Round) → Fits t (slot.One (content.Node class.OptChainBase)) → sound t r ≡ true → sound (substituted m false p t) r ≡ true
      → Le (base_goes_on_in (out-Node t)) (base_goes_on_in (out-Node (substituted m false p t)))
  base_le p t r = by_children
      (λ t. Fits t (slot.One (content.Node class.OptChainBase)) → sound t r ≡ true → sound (substituted m false p t) r ≡ true → Le (base_goes_on_in (out-Node t)) (base_goes_on_in (out-Node (substituted m false p t)))) (
        λ f s s' h. none_goes_on Absent Node-F.Absent (search (rules, the_lemmas)) refl h _,
        λ x f s s' h. none_goes_on (Flag x) (Node-F.Flag x) (search (rules, the_lemmas)) refl h _,
        λ w f s s' h. none_goes_on (Word w) (Node-F.Word w) (search (rules, the_lemmas)) refl h _,
        λ x f s s' h. none_goes_on (Text x) (Node-F.Text x) (search (rules, the_lemmas)) refl h _,
        λ x f s s' h. none_goes_on (Span x) (Node-F.Span x) (search (rules, the_lemmas)) refl h _,
        λ k i f s s' h. none_goes_on (Identifier k i) (Node-F.Identifier k i) (outs-Identifier k i) refl h _,
      )
      (λ ts l f s s' h. none_goes_on (Many ts) (Node-F.List ts) (outs-List ts) refl h _)
      (λ k ts l f s s' h. (
      let w = tree_opens k ts class.OptChainBase f in
      let is : substituted m false p (Tree k ts) ≡ Tree k (fields m p k ts) = plain_tree m p k ts (base_plain k w.1) in
      ap (λ u. base_goes_on_in (out-Node u)) is ∙ ap base_goes_on_in (outs-Tree k (fields m p k ts))
      ∙ base_row p k ts r w.2 (sym (sound_tree k ts r) ∙ s) (sym (ap (λ u. sound u r) is ∙ sound_tree k (fields m p k ts) r) ∙ s') (sym (ap base_goes_on_in (outs-Tree k ts)) ∙ h)
      )) t
