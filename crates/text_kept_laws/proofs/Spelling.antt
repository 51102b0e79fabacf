-- A tree that fits its place and is spelled still is when its names are given anew.
use Rattle.std.proofs.Common.{◌≡◌, ℕ, zero, suc, Bool, true, false, ◌||◌, Option, Some, None, List, [], ◌∷◌, refl, sym, ap, ◌∙◌, subst}
use Rattle.std.specs.Prelude.{is_some, option_map, slice_get, if◌then◌else◌}
use Rattle.std.specs.Option.{option_and_then}
use Rattle.swc_tree_marks.specs.declared.span.Span.{Span as Range}
use Rattle.swc_tree_marks.specs.declared.ident.Ident.{Ident}
use Rattle.swc_tree_node.specs.declared.kind.Kind.{Kind}
use Rattle.swc_tree_node.specs.declared.kind.Kind.TheVariants as kind
use Rattle.swc_tree_node.specs.declared.kind.Word.TheVariants as word
use Rattle.swc_tree_node.specs.declared.node.Node.{Node, Absent, Flag, Word, Text, Span, List as Many, Identifier, Tree, out-Node}
use Rattle.swc_tree_node.specs.declared.node.Node.TheOpen.{Node-F}
use Rattle.swc_tree_node.specs.declared.node.Node.TheVariants.{outs-Identifier, outs-List}
use Rattle.swc_tree_scoping.specs.Shorthands.{shorthand_key}
use Rattle.swc_tree_scoping.proofs.Remarked.{identifier_is}
use Rattle.swc_tree_grammar.proofs.Induction.{Each, by_children}
use Rattle.swc_base_rename_substitution.specs.declared.place.Place.{Place}
use Rattle.swc_base_rename_substitution.specs.declared.place.Place.TheVariants as place
use Rattle.swc_base_rename_substitution.specs.Identifiers.{Changes, changed, identifier_at, identifier_in, identifier_to, kept_name, written_out_if}
use Rattle.swc_base_rename_substitution.specs.Exports.{items_for}
use Rattle.swc_base_rename_substitution.specs.Places.{places}
use Rattle.swc_base_rename_substitution.specs.Classes.{class_span, kept_class, let_if, let_of_class}
use Rattle.swc_base_rename_substitution.specs.Substituted.{if_changed, keeps_name, substituted}
use Rattle.swc_base_rename_substitution.specs.Walk.{each_substituted, items_substituted}
use Rattle.swc_base_rename_substitution.proofs.Equations.{substituted-Absent, substituted-Flag, substituted-Word, substituted-Text, substituted-Span, substituted_identifier, substituted_list, substituted_tree}
use Rattle.text_words.specs.Words.{is_name, is_reserved}
use Rattle.text_checks.specs.Spelled.{has_amiss, is_amiss, is_bad_leaf, is_misspelled}
use Rattle.text_kept_laws.proofs.Free.{at_each, list_below, list_here, some_same, tree_below, tree_here}
use Rattle.text_kept_laws.proofs.Fitting.{Fitting, list_fitting, tree_fields, tree_fitting}
use Rattle.text_kept_laws.proofs.Looks.{keeps_class}
use Rattle.text_kept_laws.specs.Spelling.{GivesWords, IsWord}
use Rattle.text_kept_laws.proofs.Calm.{all_fail, changed_word, neither, none_passes}
use Rattle.text_kept_laws.proofs.SpellingBound.{S, exported_words, named, unreserved}
use Rattle.text_kept_laws.proofs.SpellingRows.{amiss_row, calm, leaf_row}
use Rattle.text_kept_laws.proofs.Made.{Both, C, firsts, item_spelled, joined, list_calm, list_spelled, name_calm, name_spelled, seconds, shorthand_calm, shorthand_spelled, span_calm, span_spelled, tree_calm, tree_spelled, word_calm, word_spelled, written_if_spelled}

-- ---- the identifier in a field

record There (ts : List Node) (n : ℕ) (i : Ident) : Type 0 where
  kind : Kind
  is : slice_get ts n ≡ Some (Identifier kind i)

there_in : (t : Node) (y : Node-F Node) (i : Ident) → out-Node t ≡ y → identifier_in y ≡ Some i → (k : Kind) × (t ≡ Identifier k i)
there_in t (Node-F.Identifier k j) i o e = (k, identifier_is t k j o ∙ ap (Identifier k) (some_same e))
there_in t (Node-F.Tree k x) i o e = absurd (cc)
there_in t (Node-F.List x) i o e = absurd (cc)
there_in t Node-F.Absent i o e = absurd (cc)
there_in t (Node-F.Flag x) i o e = absurd (cc)
there_in t (Node-F.Word x) i o e = absurd (cc)
there_in t (Node-F.Text x) i o e = absurd (cc)
there_in t (Node-F.Span x) i o e = absurd (cc)

there : (ts : List Node) (n : ℕ) (i : Ident) → identifier_at ts n ≡ Some i → There ts n i
there ts n i e = by (slice_get ts n) refl e
  where
    by : (o : Option Node) → slice_get ts n ≡ o → option_and_then (λ t. identifier_in (out-Node t)) o ≡ Some i → There ts n i
    by None g e = absurd (cc)
    by (Some t) g e = let w = there_in t (out-Node t) i refl e in record { kind = w.0; is = g ∙ ap Some w.1 }

named_at : (ts : List Node) (n : ℕ) (i : Ident) → Each S ts → identifier_at ts n ≡ Some i → is_name i.sym ≡ true
named_at ts n i l e = let w = there ts n i e in named w.kind i (at_each S ts l n (Identifier w.kind i) w.is)

unreserved_at : (ts : List Node) (n : ℕ) (i : Ident) → Each C ts → identifier_at ts n ≡ Some i → is_reserved i.sym ≡ false
unreserved_at ts n i l e = let w = there ts n i e in unreserved w.kind i (at_each C ts l n (Identifier w.kind i) w.is)

was_there : (m : Changes) (p : Place) (o : Option Ident) (i : Ident) → if_changed m p o ≡ Some i → o ≡ Some i
was_there m p None i e = absurd (cc)
was_there m p (Some j) i e = by (is_some (changed m p j)) e
  where
    by : (b : Bool) → (if b then Some j else None) ≡ Some i → Some j ≡ Some i
    by true e = e
    by false e = absurd (cc)

-- ---- a class that keeps its name

let_spelled : (s : Range) (i j : Ident) (class : Node) → IsWord i.sym → IsWord j.sym → Both class → S (let_of_class s i j class)
let_spelled s i j class v w f =
    let name : Node = Identifier kind.Ident (kept_name i) in
    let expression : Node = Tree kind.ClassExpr (name ∷ class ∷ []) in
    let ds : List Node = Span s ∷ Identifier kind.BindingIdent j ∷ expression ∷ [] in
    let declarator : Node = Tree kind.VarDeclarator ds in
    let ts : List Node = Span s ∷ Word word.Let ∷ Many (declarator ∷ []) ∷ [] in
    let expression_spelled : S expression = tree_spelled kind.ClassExpr (name ∷ class ∷ []) refl (all_fail is_amiss (name ∷ class ∷ []) (name_calm kind.Ident (kept_name i) v.1, (f.1, tt))) (name_spelled kind.Ident (kept_name i) v.0, (f.0, tt)) in
    let declarator_spelled : S declarator = tree_spelled kind.VarDeclarator ds refl (all_fail is_amiss ds (span_calm s, (name_calm kind.BindingIdent j w.1, (tree_calm kind.ClassExpr _ refl, tt))))
    (span_spelled s, (name_spelled kind.BindingIdent j w.0, (expression_spelled, tt))) in
    tree_spelled kind.VarDecl ts refl (all_fail is_amiss ts (span_calm s, (word_calm word.Let, (list_calm (declarator ∷ []), tt))))
    (span_spelled s, (word_spelled word.Let, (list_spelled (declarator ∷ []) (tree_calm kind.VarDeclarator ds refl, tt) (declarator_spelled, tt), tt)))

let_if_spelled : (o : Option Ident) (s : Option Range) (i : Ident) (a b : Node) → S (Tree kind.ClassDecl (a ∷ b ∷ [])) → IsWord i.sym → ((j : Ident) → o ≡ Some j → IsWord j.sym) → Both b → S (let_if o s i a b)
let_if_spelled (Some j) (Some s) i a b f v w g = let_spelled s i j b v (w j refl) g
let_if_spelled None s i a b f v w g = f
let_if_spelled (Some j) None i a b f v w g = f

kept_spelled : (o : Option Ident) (us : List Node) → S (Tree kind.ClassDecl us) → ((i : Ident) → o ≡ Some i → IsWord i.sym) → Each S us → Each C us → S (kept_class o us)
kept_spelled None us f w l c = f
kept_spelled (Some i) [] f w l c = f
kept_spelled (Some i) (a ∷ []) f w l c = f
kept_spelled (Some i) (a ∷ b ∷ []) f w l c =
    let_if_spelled (identifier_in (out-Node a)) (class_span b) i a b f (w i refl) (λ j e. (named_at (a ∷ b ∷ []) 0 j l e, unreserved_at (a ∷ b ∷ []) 0 j c e)) (l.1.0, c.1.0)
kept_spelled (Some i) (a ∷ b ∷ d ∷ us) f w l c = f

-- ---- the tree

module _ (m : Changes) (gives : GivesWords m) (keeps : Bool) where
  abbrev Stays : Node → Type 0
  Stays t = (p : Place) → Fitting t → S t → S (substituted m keeps p t)

  each_stays : (ps : ℕ → Place) (ts : List Node) → Each Stays ts → Each Fitting ts → Each S ts → Each S (each_substituted m keeps ps ts)
  each_stays ps [] s w f = tt
  each_stays ps (t ∷ ts) s w f = (s.0 (ps zero) w.0 f.0, each_stays (λ i. ps (suc i)) ts s.1 w.1 f.1)

  items_stay : (p : Place) (ts : List Node) → Each Stays ts → Each Fitting ts → Each S ts → Each C ts → Each Both (items_substituted m keeps p ts)
  items_stay p [] s w f c = tt
  items_stay p (t ∷ ts) s w f c =
      let u : Node = substituted m keeps p t in
      joined (items_for m t u) (items_substituted m keeps p ts) (item_spelled m gives t u (exported_words t w.0 f.0) (s.0 p w.0 f.0, calm m gives keeps p t w.0 c.0)) (items_stay p ts s.1 w.1 f.1 c.1)

  new_spelled : (k : Kind) (p : Place) (i j : Ident) → changed m p i ≡ Some j → S (Identifier k j)
  new_spelled k p i j e = name_spelled k j (changed_word m gives p i j e).0

  identifier_stays : (p : Place) (k : Kind) (i : Ident) (j : Option Ident) → changed m p i ≡ j → S (Identifier k i) → S (identifier_to p k i j)
  identifier_stays place.ClassName k i j e f = name_spelled k (kept_name i) (named k i f)
  identifier_stays place.Name k i None e f = f
  identifier_stays place.Shorthand k i None e f = f
  identifier_stays place.Exported k i None e f = f
  identifier_stays place.Other k i None e f = f
  identifier_stays place.Name k i (Some j) e f = new_spelled k place.Name i j e
  identifier_stays place.Exported k i (Some j) e f = new_spelled k place.Exported i j e
  identifier_stays place.Other k i (Some j) e f = new_spelled k place.Other i j e
  identifier_stays place.Shorthand k i (Some j) e f =
      let ts : List Node = shorthand_key i ∷ Identifier k j ∷ [] in
      tree_spelled kind.KeyValueProp ts refl (all_fail is_amiss ts (shorthand_calm i, (name_calm k j (changed_word m gives place.Shorthand i j e).1, tt))) (shorthand_spelled i (named k i f), (new_spelled k place.Shorthand i j e, tt))

  made_stays : (p : Place) (k : Kind) (ts us : List Node) (b : Bool) → keeps_name keeps p k ≡ b → S (Tree k us) → has_amiss (Node-F.Tree k us) ≡ false → has_amiss (Node-F.Tree k ts) ≡ false → Each S us → Each S ts
      → S (if b then kept_class (identifier_at ts 0) us else written_out_if k (if_changed m (places keeps p k ts 1) (identifier_at ts 1)) us)
  made_stays p k ts us false e f c d l n =
      written_if_spelled k (if_changed m (places keeps p k ts 1) (identifier_at ts 1)) us (λ i h. named_at ts 1 i n (was_there m (places keeps p k ts 1) (identifier_at ts 1) i h)) f c l
  made_stays p k ts us true e f c d l n =
      let is : k ≡ kind.ClassDecl = keeps_class keeps p k e in
      let below = none_passes is_amiss us (subst (λ k. has_amiss (Node-F.Tree k us) ≡ false) is c) in
      let before = none_passes is_amiss ts (subst (λ k. has_amiss (Node-F.Tree k ts) ≡ false) is d) in
      kept_spelled (identifier_at ts 0) us (subst (λ k. S (Tree k us)) is f) (λ i h. (named_at ts 0 i n h, unreserved_at ts 0 i before h)) l below

  tree_stays : (k : Kind) (ts : List Node) → Each Stays ts → Stays (Tree k ts)
  tree_stays k ts s p w f =
      let ps : ℕ → Place = places keeps p k ts in
      let us : List Node = each_substituted m keeps ps ts in
      let n : Each S ts = tree_below is_misspelled k ts f in
      let l : Each S us = each_stays ps ts s (tree_fitting k ts w) n in
      let asked = neither (is_bad_leaf (Node-F.Tree k ts)) (has_amiss (Node-F.Tree k ts)) (tree_here is_misspelled k ts f) in
      let c : has_amiss (Node-F.Tree k us) ≡ false = amiss_row m gives keeps ps k ts (tree_fields k ts w) asked.1 in
      let whole : S (Tree k us) = tree_spelled k us (leaf_row m keeps ps k ts ∙ asked.0) c l in
      subst S (sym (substituted_tree m keeps p k ts)) (made_stays p k ts us (keeps_name keeps p k) refl whole c asked.1 l n)

  list_stays : (ts : List Node) → Each Stays ts → Stays (Many ts)
  list_stays ts s p w f =
      let items = items_stay p ts s (list_fitting ts w) (list_below is_misspelled ts f) (none_passes is_amiss ts (neither false _ (list_here is_misspelled ts f)).1) in
      subst S (sym (substituted_list m keeps p ts)) (list_spelled (items_substituted m keeps p ts) (seconds (items_substituted m keeps p ts) items) (firsts (items_substituted m keeps p ts) items))

  pub stays : (t : Node) → Stays t
  stays t = by_children Stays (
    λ p w f. subst S (sym (substituted-Absent m keeps p)) f,
    λ x p w f. subst S (sym (substituted-Flag m keeps p x)) f,
    λ x p w f. subst S (sym (substituted-Word m keeps p x)) f,
    λ x p w f. subst S (sym (substituted-Text m keeps p x)) f,
    λ x p w f. subst S (sym (substituted-Span m keeps p x)) f,
    λ k i p w f. subst S (sym (substituted_identifier m keeps p k i)) (identifier_stays p k i (changed m p i) refl f),
  )
      list_stays tree_stays t
