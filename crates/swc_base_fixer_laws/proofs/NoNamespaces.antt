-- In a tree that can be written down stands no namespace.
use Rattle.std.proofs.Common.{◌≡◌, ℕ, zero, suc, Bool, true, false, Option, Some, None, List, [], ◌∷◌, map, refl, sym, ap, ◌∙◌, subst, rules, true≢false}
use Rattle.std.specs.List.{list_all, slice_get}
use Rattle.swc_tree_node.specs.declared.kind.Kind.{Kind}
use Rattle.swc_tree_node.specs.declared.kind.Kind.TheVariants as kind
use Rattle.swc_tree_node.specs.declared.slot.Slot.{Slot}
use Rattle.swc_tree_node.specs.declared.node.Node.{Node, Tree, out-Node, the_lemmas}
use Rattle.swc_tree_node.specs.declared.node.Node.TheOpen.{Node-F}
use Rattle.swc_tree_node.specs.Table.{slots_of}
use Rattle.swc_tree_node.specs.Fits.{AllFit, FieldsFit, Fits}
use Rattle.swc_tree_node.proofs.Fit.{both}
use Rattle.swc_tree_scoping.specs.declared.places.Place.{Place}
use Rattle.swc_tree_scoping.specs.Places.{Path, child, children_in, place_at, place_below, program_place}
use Rattle.swc_tree_scoping.proofs.Remarked.{list_is, tree_is}
use Rattle.swc_tree_scoping.proofs.Under.{no_place_under, place_under}
use Rattle.swc_tree_spaces.specs.NoTypes.{NoNamespaces}
use Rattle.swc_tree_grammar.specs.Writable.{Round, Writable, in_head_in, sound_in}
use Rattle.swc_tree_grammar.proofs.Asked.{asked, sound}
use Rattle.swc_tree_grammar.proofs.Induction.{Each}
use Rattle.swc_tree_grammar_laws.specs.Every.{every}
use Rattle.swc_tree_grammar_laws.proofs.Every.{every_list, every_tree}
use Rattle.swc_tree_grammar_laws.proofs.Levelled.{also}
use Rattle.swc_base_fixer_laws.proofs.Quiet.{is_quiet, quiet, quiet_slots}
use Rattle.swc_base_fixer_laws.proofs.Everywhere.{Everywhere, Parts, everywhere}

abbrev pub is_other_in : Node-F Node → Bool
is_other_in (Node-F.Tree kind.TsModuleDecl ts) = false
is_other_in _ = true

-- no node is a namespace
abbrev pub is_free : Node → Bool
is_free = every is_other_in

no_quiet : (k : Kind) (ts : List Node) → list_all is_quiet (slots_of k) ≡ true → is_other_in (Node-F.Tree k ts) ≡ true
no_quiet kind.TsModuleDecl ts q = absurd (true≢false (sym q))
no_quiet k ts q = refl

no_sound : (k : Kind) (ts : List Node) → Parts is_free (slots_of k) ts → (r : Round) → sound_in (Node-F.Tree k (map asked ts)) r ≡ true → is_other_in (Node-F.Tree k ts) ≡ true
no_sound kind.TsModuleDecl ts x r h = absurd (true≢false (sym h))
no_sound k ts x r h = refl

no_head : (k : Kind) (ts : List Node) (r : Round) → in_head_in (Node-F.Tree k (map asked ts)) r ≡ true → is_other_in (Node-F.Tree k ts) ≡ true
no_head kind.TsModuleDecl ts r h = absurd (true≢false (sym h))
no_head k ts r h = refl

freeing : Everywhere is_free (λ k ts. is_other_in (Node-F.Tree k ts))
freeing = record {
  of_leaves = (search (rules, the_lemmas), λ x. search (rules, the_lemmas), λ w. search (rules, the_lemmas), λ x. search (rules, the_lemmas), λ r. search (rules, the_lemmas), λ k i. search (rules, the_lemmas));
  of_list = every_list is_other_in;
  of_tree = every_tree is_other_in;
  own_quiet = no_quiet;
  own_sound = no_sound;
  own_head = no_head;
}

-- no namespace stands in what is sound
pub sound_is_free : (t : Node) (s : Slot) → Fits t s → (r : Round) → sound t r ≡ true → is_free t ≡ true
sound_is_free t s f r h = everywhere freeing t s f r h

-- nor in a quiet place
free_each : (ts : List Node) → Each (λ t. is_free t ≡ true) ts → list_all is_free ts ≡ true
free_each [] l = refl
free_each (t ∷ ts) l = also l.0 (free_each ts l.1)

quiet_tree : (k : Kind) (ts : List Node) → list_all is_quiet (slots_of k) ≡ true → Each (λ t. is_free t ≡ true) ts → is_free (Tree k ts) ≡ true
quiet_tree k ts q l = every_tree is_other_in k ts ∙ also (no_quiet k ts q) (free_each ts l)

pub quiet_is_free : (t : Node) (s : Slot) → is_quiet s ≡ true → Fits t s → is_free t ≡ true
quiet_is_free t = quiet (λ t. is_free t ≡ true) freeing.of_leaves (λ ts l. every_list is_other_in ts ∙ free_each ts l) (λ k ts q l. quiet_tree k ts (quiet_slots k q) l) t

pub quiet_fields_free : (ss : List Slot) (ts : List Node) → list_all is_quiet ss ≡ true → FieldsFit ss ts → list_all is_free ts ≡ true
quiet_fields_free [] [] q f = refl
quiet_fields_free [] (t ∷ ts) q f = absurd f
quiet_fields_free (s ∷ ss) [] q f = absurd f
quiet_fields_free (s ∷ ss) (t ∷ ts) q f = let p = both (is_quiet s) (list_all is_quiet ss) q in also (quiet_is_free t s p.0 f.0) (quiet_fields_free ss ts p.1 f.1)

pub quiet_items_free : (s : Slot) (ts : List Node) → is_quiet s ≡ true → AllFit s ts → list_all is_free ts ≡ true
quiet_items_free s [] q f = refl
quiet_items_free s (t ∷ ts) q f = also (quiet_is_free t s q f.0) (quiet_items_free s ts q f.1)

-- ---- by paths

free_at : (ts : List Node) (i : ℕ) (c : Node) → list_all is_free ts ≡ true → slice_get ts i ≡ Some c → is_free c ≡ true
free_at [] i c h e = absurd (cc)
free_at (t ∷ ts) zero c h e = let same : t ≡ c = cc in subst (λ c. is_free c ≡ true) same (both (is_free t) (list_all is_free ts) h).0
free_at (t ∷ ts) (suc i) c h e = free_at ts i c (both (is_free t) (list_all is_free ts) h).1 e

-- what stands below
below : (t c : Node) (i : ℕ) (y : Node-F Node) → out-Node t ≡ y → is_free t ≡ true → child t i ≡ Some c → is_free c ≡ true
below t c i (Node-F.List ts) o h e = free_at ts i c (sym (every_list is_other_in ts) ∙ sym (ap is_free (list_is t ts o)) ∙ h) (sym (ap (λ y. slice_get (children_in y) i) o) ∙ e)
below t c i (Node-F.Tree k ts) o h e =
    let p = both (is_other_in (Node-F.Tree k ts)) (list_all is_free ts) (sym (every_tree is_other_in k ts) ∙ sym (ap is_free (tree_is t k ts o)) ∙ h) in
    free_at ts i c p.1 (sym (ap (λ y. slice_get (children_in y) i) o) ∙ e)
below t c i Node-F.Absent o h e = let z : Some c ≡ None = sym e ∙ ap (λ y. slice_get (children_in y) i) o in absurd (cc)
below t c i (Node-F.Flag x) o h e = let z : Some c ≡ None = sym e ∙ ap (λ y. slice_get (children_in y) i) o in absurd (cc)
below t c i (Node-F.Word x) o h e = let z : Some c ≡ None = sym e ∙ ap (λ y. slice_get (children_in y) i) o in absurd (cc)
below t c i (Node-F.Text x) o h e = let z : Some c ≡ None = sym e ∙ ap (λ y. slice_get (children_in y) i) o in absurd (cc)
below t c i (Node-F.Span x) o h e = let z : Some c ≡ None = sym e ∙ ap (λ y. slice_get (children_in y) i) o in absurd (cc)
below t c i (Node-F.Identifier k x) o h e = let z : Some c ≡ None = sym e ∙ ap (λ y. slice_get (children_in y) i) o in absurd (cc)

some_same : (a b : Place × Node) → Some a ≡ Some b → a ≡ b
some_same a b e = cc

none_at : (p : Path) (v w : Place) (t : Node) (ts : List Node) → is_free t ≡ true → place_at v t p ≡ Some (w, Tree kind.TsModuleDecl ts) → ⊥
none_at [] v w t ts h e =
    let is : t ≡ Tree kind.TsModuleDecl ts = ap (λ (q : Place × Node). q.1) (some_same (v, t) (w, Tree kind.TsModuleDecl ts) e) in
    let z : false ≡ true = sym (every_tree is_other_in kind.TsModuleDecl ts) ∙ sym (ap is_free is) ∙ h in absurd (cc)
none_at (i ∷ p) v w t ts h e = at (λ c. none_at p (place_below v t i) w c ts) (child t i) refl
  where
    at : ((c : Node) → is_free c ≡ true → place_at (place_below v t i) c p ≡ Some (w, Tree kind.TsModuleDecl ts) → ⊥) → (o : Option Node) → child t i ≡ o → ⊥
    at none None o = let z : ◌≡◌ {A = Option (Place × Node)} (Some (w, Tree kind.TsModuleDecl ts)) None = sym e ∙ no_place_under v t i p o in absurd (cc)
    at none (Some c) o = none c (below t c i (out-Node t) refl h o) (sym (place_under v t c i p o) ∙ e)

pub writable_has_no_namespaces : (t : Node) (s : Slot) → Fits t s → Writable t → NoNamespaces t
writable_has_no_namespaces t s f w p v ts e = none_at p program_place v t ts (everywhere freeing t s f (record { strict = false; assigned = false }) w) e
