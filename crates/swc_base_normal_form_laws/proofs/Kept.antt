-- The normal form of a tree without contexts, or without types, is one.
use Rattle.std.proofs.Common.{◌≡◌, ◌⊎◌, ℕ, zero, suc, Bool, true, false, IsTrue, ◌||◌, Option, Some, None, List, [], ◌∷◌, map, refl, sym, ap, ◌∙◌, subst, inl, inr, rules}
use Rattle.std.specs.Prelude.{slice_get}
use Rattle.std.specs.List.{flat_map, list_any}
use Rattle.swc_tree_marks.specs.declared.ident.Ident.{Ident}
use Rattle.swc_tree_node.specs.declared.kind.Kind.{Kind}
use Rattle.swc_tree_node.specs.declared.kind.Kind.TheVariants as kind
use Rattle.swc_tree_node.specs.declared.node.Node.{Node, List as Many, Identifier, Tree, out-Node, the_lemmas}
use Rattle.swc_tree_node.specs.declared.node.Node.TheVariants.{outs-List, outs-Tree, rolls-Tree}
use Rattle.swc_tree_node.specs.declared.node.Node.TheOpen.{Node-F}
use Rattle.swc_tree_scoping.specs.declared.places.Place.{Place}
use Rattle.swc_tree_scoping.specs.declared.places.Scope.TheVariants as scope
use Rattle.swc_tree_scoping.specs.Places.{Path, child, children_in, given, opened, opened_in, place_at, place_below, program_place}
use Rattle.swc_tree_scoping.specs.Readings.{by_texts}
use Rattle.swc_tree_scoping.specs.Resolved.{is_script}
use Rattle.swc_tree_scoping.specs.WellScoped.{is_module}
use Rattle.swc_tree_spaces.specs.Spaces.{has_types, is_of_types}
use Rattle.swc_tree_has_types.proofs.Told.{none_in_identifier, types_of_list, types_of_tree}
use Rattle.swc_tree_renaming.proofs.Global.{fits_goal}
use Rattle.swc_tree_renaming.proofs.Shape.{some_same}
use Rattle.swc_tree_renaming.proofs.Whole.{identifier_same, module_layer, script_layer}
use Rattle.swc_tree_grammar.specs.Shapes.{items_of}
use Rattle.swc_tree_grammar.specs.Normal.{normal_form, split, written_out, written_step}
use Rattle.swc_tree_grammar.specs.Stripped.{stripped}
use Rattle.swc_tree_grammar.proofs.Induction.{Each}
use Rattle.swc_tree_grammar.proofs.Stripped.{is_other, stripped_other}
use Rattle.swc_tree_grammar_texts.proofs.Cleared.{bare, text_absent, text_flag, text_list, text_name, text_span, text_text, text_tree, text_word}
use Rattle.swc_base_resolver_laws.proofs.Same.{clean_stays}
use Rattle.swc_base_normal_form_laws.specs.Laws.{NormalFormAddsNoTypes, NormalFormIsClean, NormalFormIsProgram}
use Rattle.swc_base_normal_form_laws.proofs.Closed.{Closed, list_is, tree_is}
use Rattle.swc_base_normal_form_laws.proofs.Writing.{normal_keeps, written_of_tree}

-- ---- types

abbrev NoTypes : Node → Type 0
NoTypes t = has_types t ≡ false

abbrev OfNoTypes : Kind → Type 0
OfNoTypes k = is_of_types k ≡ false

abbrev Any : Ident → Type 0
Any i = Unit {0}

left_false : (a b : Bool) → (a || b) ≡ false → a ≡ false
left_false true b h = h
left_false false b h = refl

right_false : (a b : Bool) → (a || b) ≡ false → b ≡ false
right_false true b h = absurd (cc)
right_false false b h = h

none : (ts : List Node) → Each NoTypes ts → list_any has_types ts ≡ false
none [] h = refl
none (t ∷ ts) h = ap (λ b. b || list_any has_types ts) h.0 ∙ none ts h.1

each_none : (ts : List Node) → list_any has_types ts ≡ false → Each NoTypes ts
each_none [] h = tt
each_none (t ∷ ts) h = (left_false (has_types t) (list_any has_types ts) h, each_none ts (right_false (has_types t) (list_any has_types ts) h))

typeless : Closed NoTypes OfNoTypes Any
typeless = record {
  absent = search (rules, the_lemmas);
  flag = λ x. search (rules, the_lemmas);
  word = λ w. search (rules, the_lemmas);
  text = λ x. search (rules, the_lemmas);
  span = λ s. search (rules, the_lemmas);
  name = λ k i h. none_in_identifier k i;
  named = λ k i h. tt;
  list = λ ts h. types_of_list ts ∙ none ts h;
  items = λ ts h. each_none ts (sym (types_of_list ts) ∙ h);
  tree = λ k ts g h. types_of_tree k ts ∙ ap (λ b. b || list_any has_types ts) g ∙ none ts h;
  good = λ k ts h. left_false (is_of_types k) (list_any has_types ts) (sym (types_of_tree k ts) ∙ h);
  fields = λ k ts h. each_none ts (right_false (is_of_types k) (list_any has_types ts) (sym (types_of_tree k ts) ∙ h));
  plain = λ s x. tt;
  moved = λ i s h. tt;
  brought = (refl, refl, refl, refl, refl, refl, refl, refl);
}

pub no_types : NormalFormAddsNoTypes
no_types = normal_keeps NoTypes OfNoTypes Any typeless

-- ---- contexts

abbrev Bare : Node → Type 0
Bare t = by_texts t ≡ t

abbrev AnyKind : Kind → Type 0
AnyKind k = Unit {0}

abbrev NoContext : Ident → Type 0
NoContext i = i.ctxt ≡ []

same : (ts : List Node) → Each Bare ts → map by_texts ts ≡ ts
same [] h = refl
same (t ∷ ts) h = ap (λ u. u ∷ map by_texts ts) h.0 ∙ ap (λ us. t ∷ us) (same ts h.1)

heads : (t u : Node) (ts us : List Node) → t ∷ ts ≡ u ∷ us → t ≡ u
heads t u ts us h = cc

tails : (t u : Node) (ts us : List Node) → t ∷ ts ≡ u ∷ us → ts ≡ us
tails t u ts us h = cc

each_same : (ts : List Node) → map by_texts ts ≡ ts → Each Bare ts
each_same [] h = tt
each_same (t ∷ ts) h = (heads (by_texts t) t (map by_texts ts) ts h, each_same ts (tails (by_texts t) t (map by_texts ts) ts h))

bare_is : (i : Ident) → NoContext i → bare i ≡ i
bare_is i h = ap (λ c. record i { ctxt = c }) (sym h)

contextless : Closed Bare AnyKind NoContext
contextless = record {
  absent = text_absent;
  flag = text_flag;
  word = text_word;
  text = text_text;
  span = text_span;
  name = λ k i h. text_name k i ∙ ap (Identifier k) (bare_is i h);
  named = λ k i h. sym (ap (λ (j : Ident). j.ctxt) (identifier_same k k (bare i) i (sym (text_name k i) ∙ h)));
  list = λ ts h. text_list ts ∙ ap Many (same ts h);
  items = λ ts h. each_same ts (sym (ap children_in (outs-List (map by_texts ts))) ∙ ap (λ t. children_in (out-Node t)) (sym (text_list ts) ∙ h) ∙ ap children_in (outs-List ts));
  tree = λ k ts g h. text_tree k ts ∙ ap (Tree k) (same ts h);
  good = λ k ts h. tt;
  fields = λ k ts h. each_same ts (sym (ap children_in (outs-Tree k (map by_texts ts))) ∙ ap (λ t. children_in (out-Node t)) (sym (text_tree k ts) ∙ h) ∙ ap children_in (outs-Tree k ts));
  plain = λ s x. refl;
  moved = λ i s h. h;
  brought = (tt, tt, tt, tt, tt, tt, tt, tt);
}

one_of : (ts : List Node) (n : ℕ) (u : Node) → Each Bare ts → slice_get ts n ≡ Some u → Bare u
one_of [] n u h g = absurd (cc)
one_of (t ∷ ts) zero u h g = let e : t ≡ u = cc in subst Bare e h.0
one_of (t ∷ ts) (suc n) u h g = one_of ts n u h.1 g

below : (t : Node) (y : Node-F Node) → out-Node t ≡ y → (n : ℕ) (u : Node) → Bare t → slice_get (children_in y) n ≡ Some u → Bare u
below t (Node-F.List ts) o n u h g = one_of ts n u (contextless.items ts (subst Bare (list_is t ts o) h)) g
below t (Node-F.Tree k ts) o n u h g = one_of ts n u (contextless.fields k ts (subst Bare (tree_is t k ts o) h)) g
below t y o n u h g = absurd (cc)

no_context : (p : Path) (w v : Place) (t : Node) (k : Kind) (i : Ident) → Bare t → place_at w t p ≡ Some (v, Identifier k i) → NoContext i
no_context [] w v t k i h e = contextless.named k i (subst Bare (ap (λ (q : Place × Node). q.1) (some_same (w, t) (v, Identifier k i) e)) h)
no_context (n ∷ p) w v t k i h e = at (λ u g. no_context p (place_below w t n) v u k i g) (child t n) refl e
  where
    at : ((u : Node) → Bare u → place_at (place_below w t n) u p ≡ Some (v, Identifier k i) → NoContext i) → (o : Option Node) → child t n ≡ o → given o None (λ c. place_at (place_below w t n) c p) ≡ Some (v, Identifier k i) → NoContext i
    at further None o e = absurd (cc)
    at further (Some u) o e = further u (below t (out-Node t) refl n u h o) e

pub clean : NormalFormIsClean
clean t h p w k i = no_context p program_place w (normal_form t) k i (normal_keeps Bare AnyKind NoContext contextless t (clean_stays t program_place h))

-- ---- programs

of_module : (ts : List Node) → opened program_place (Tree kind.Module ts) ≡ Some scope.Program
of_module ts = ap (opened_in program_place) (outs-Tree kind.Module ts)

of_script : (ts : List Node) → opened program_place (Tree kind.Script ts) ≡ Some scope.Program
of_script ts = ap (opened_in program_place) (outs-Tree kind.Script ts)

module_step : (us : List Node) → opened program_place (written_step (Node-F.Tree kind.Module us)) ≡ Some scope.Program
module_step (a ∷ b ∷ c ∷ []) = of_module (a ∷ Many (flat_map split (items_of b)) ∷ c ∷ [])
module_step us = ap (opened program_place) (rolls-Tree kind.Module us) ∙ of_module us

script_step : (us : List Node) → opened program_place (written_step (Node-F.Tree kind.Script us)) ≡ Some scope.Program
script_step us = ap (opened program_place) (rolls-Tree kind.Script us) ∙ of_script us

-- the normal form of a node whose kind stripping leaves
of_kind : (t : Node) (k : Kind) (ts : List Node) → out-Node t ≡ Node-F.Tree k ts → IsTrue (is_other k) → normal_form t ≡ written_step (Node-F.Tree k (map written_out (map stripped ts)))
of_kind t k ts o other = ap normal_form (tree_is t k ts o) ∙ ap written_out (stripped_other k ts other) ∙ written_of_tree k (map stripped ts)

by_goal : (t : Node) → IsTrue (is_module t) ⊎ IsTrue (is_script t) → opened program_place (normal_form t) ≡ Some scope.Program
by_goal t (inl m) = let (ts, o) = module_layer t m in ap (opened program_place) (of_kind t kind.Module ts o refl) ∙ module_step (map written_out (map stripped ts))
by_goal t (inr s) = let (ts, o) = script_layer t s in ap (opened program_place) (of_kind t kind.Script ts o refl) ∙ script_step (map written_out (map stripped ts))

pub program : NormalFormIsProgram
program goal t is f = by_goal t (fits_goal goal t is f)
