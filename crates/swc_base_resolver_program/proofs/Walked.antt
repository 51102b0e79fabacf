-- What the last walk leaves of a node.
use Rattle.std.proofs.Common.{◌≡◌, ℕ, zero, suc, ◌+◌, ◌<◌, ◌≤◌, Bool, false, Option, Some, None, List, [], ◌∷◌, ◌++◌, take, drop, length, refl, sym, ap, ◌∙◌, arith, add-one}
use denote.Param.Weighed.{most}
use Rattle.std.specs.List.{slice_get, slice_set}
use Rattle.std.specs.Option.{is_some}
use Rattle.swc_tree_node.specs.declared.kind.Kind.{Kind}
use Rattle.swc_tree_node.specs.declared.node.Node.{Node, List as Many, Tree, out-Node}
use Rattle.swc_tree_node.specs.declared.node.Node.TheOpen.{Node-F}
use Rattle.swc_tree_node.specs.declared.node.Node.TheVariants.{outs-List, outs-Tree}
use Rattle.swc_tree_node.specs.Parts.{may_hold_names}
use Rattle.swc_tree_marks.specs.declared.ident.Ident.{Ident}
use Rattle.swc_tree_scoping.specs.declared.places.Standing.{Standing}
use Rattle.swc_tree_scoping.specs.declared.places.Standing.TheVariants as standing
use Rattle.swc_tree_scoping.specs.declared.places.Place.{Place}
use Rattle.swc_tree_scoping.specs.declared.places.Scope.{Scope}
use Rattle.swc_tree_scoping.specs.declared.places.View.{View}
use Rattle.swc_tree_scoping.specs.declared.below.PlacesBelow.{PlacesBelow}
use Rattle.swc_tree_scoping.specs.Below.{places_of, scope_of_fields, view_of}
use Rattle.swc_tree_scoping.specs.Places.{Path, children_in, child, given, opened, place_at, place_below}
use Rattle.swc_tree_scoping.specs.Folds.{each_in}
use Rattle.swc_tree_scoping.specs.Scopes.{one_if, total, scope_count}
use Rattle.swc_tree_scoping.specs.Resolved.{Contexts, remarked}
use Rattle.swc_tree_scoping.proofs.Remarked.{each_remarked, remarked-leaf, remarked-List, remarked-Tree}
use Rattle.swc_tree_spaces.specs.Spaces.{exports_below, exports_in, is_exported}
use Rattle.swc_base_resolver_program.specs.Lookup.{Open}
use Rattle.swc_base_resolver_program.specs.Walks.{Marking, before, entered, open_round, context_at, context_of, is_marked, inside, kept_or, walked, written}
use Rattle.swc_base_resolver_program.proofs.Gathered.{Known, opened_envs, plain_envs}

-- an identifier that has no mark stays as it is
kept_none : (ms : List ℕ) → kept_or ms [] ≡ ms
kept_none [] = refl
kept_none (m ∷ ms) = refl

pub unmarked_stays : (a : Marking) (e : Bool) (r : Standing) (env : List Open) (i : Ident) → is_marked r ≡ false → i ≡ record i { ctxt = context_of a e r env i }
unmarked_stays a e standing.Plain env i h = ap (λ c. record i { ctxt = c }) (sym (kept_none i.ctxt))
unmarked_stays a e standing.Branch env i h = ap (λ c. record i { ctxt = c }) (sym (kept_none i.ctxt))
unmarked_stays a e standing.DefaultExport env i h = ap (λ c. record i { ctxt = c }) (sym (kept_none i.ctxt))
unmarked_stays a e standing.Label env i h = ap (λ c. record i { ctxt = c }) (sym (kept_none i.ctxt))
unmarked_stays a e standing.Imported env i h = ap (λ c. record i { ctxt = c }) (sym (kept_none i.ctxt))
unmarked_stays a e standing.Exported env i h = ap (λ c. record i { ctxt = c }) (sym (kept_none i.ctxt))
unmarked_stays a e _ env i h = absurd (cc)

module _ (a : Marking) where
  each_walked : (es : ℕ → Bool) (envs : ℕ → List Open) (ts : List Node) (m : ℕ → Contexts) (places : ℕ → Place) (n : ℕ)
      → ((i : ℕ) (c : Node) → slice_get ts i ≡ Some c → m i ≡ written a (es i) (envs i) (n + total (each_in scope_count places (take i ts))) (places i) c)
      → each_remarked m ts ≡ walked a es envs n places ts
  each_walked es envs [] m places n h = refl
  each_walked es envs (t ∷ ts) m places n h =
      let first : m zero ≡ written a (es zero) (envs zero) n (places zero) t = h zero t refl ∙ ap (λ z. written a (es zero) (envs zero) z (places zero) t) (omega arith) in
      let rest = each_walked (λ i. es (suc i)) (λ i. envs (suc i)) ts (λ i. m (suc i)) (λ i. places (suc i)) (n + scope_count (places zero) t)
      (λ i c g. h (suc i) c g ∙ ap (λ z. written a (es (suc i)) (envs (suc i)) z (places (suc i)) c) (omega arith)) in
      ap (λ q. remarked q t ∷ each_remarked (λ i. m (suc i)) ts) first ∙ ap (λ l. remarked (written a (es zero) (envs zero) n (places zero) t) t ∷ l) rest

  written_under : (e : Bool) (env : List Open) (n : ℕ) (w : Place) (t c : Node) (i : ℕ) → child t i ≡ Some c
      → (p : Path) → written a e env n w t (i ∷ p) ≡ written a (exports_below e t i) (entered env n w t i) (n + before w t i) (place_below w t i) c p
  written_under e env n w t c i h p =
      ap (λ o. context_at a (given o false (λ c. is_exported (exports_below e t i) c p)) (given o (entered env n w t i) (λ c. open_round (entered env n w t i) (n + before w t i) (place_below w t i) c p))
      (given o None (λ c. place_at (place_below w t i) c p))) h

  children_walked : (e : Bool) (env : List Open) (n : ℕ) (w : Place) (t : Node)
      → each_remarked (λ i p. written a e env n w t (i ∷ p)) (children_in (out-Node t))
      ≡ walked a (exports_below e t) (entered env n w t) (n + one_if (is_some (opened w t))) (place_below w t) (children_in (out-Node t))
  children_walked e env n w t = each_walked (exports_below e t) (entered env n w t) (children_in (out-Node t)) (λ i p. written a e env n w t (i ∷ p)) (place_below w t) (n + one_if (is_some (opened w t)))
      (λ i c h. (λ j p. written_under e env n w t c i h p j) ∙ ap (λ z. written a (exports_below e t i) (entered env n w t i) z (place_below w t i) c) (omega arith))

  module _ (w : Place) (t : Node) (ts : List Node) (pl : PlacesBelow) (known : Known w t ts pl) (e : Bool) (es : ℕ → Bool) (env : List Open) (n : ℕ) where
    joined : (envs : ℕ → List Open) (m : ℕ) (rs : List Node) → es ≡ exports_below e t → envs ≡ entered env n w t → m ≡ n + one_if (is_some (opened w t)) → rs ≡ walked a es envs m (places_of pl ts) ts
        → rs ≡ each_remarked (λ i p. written a e env n w t (i ∷ p)) ts
    joined envs m rs x g f h =
        h ∙ ap (λ es. walked a es envs m (places_of pl ts) ts) x ∙ ap (λ envs. walked a (exports_below e t) envs m (places_of pl ts) ts) g
        ∙ ap (λ m. walked a (exports_below e t) (entered env n w t) m (places_of pl ts) ts) f
        ∙ ap (λ p. walked a (exports_below e t) (entered env n w t) (n + one_if (is_some (opened w t))) p ts) known.places
        ∙ ap (λ ts. walked a (exports_below e t) (entered env n w t) (n + one_if (is_some (opened w t))) (place_below w t) ts) known.children
        ∙ sym (children_walked e env n w t) ∙ ap (each_remarked (λ i p. written a e env n w t (i ∷ p))) (sym known.children)

    list_exports : t ≡ Many ts → ((i : ℕ) → es i ≡ e) → es ≡ exports_below e t
    list_exports is same = λ j i. (same i ∙ sym (ap (λ y. exports_in e y i) (ap out-Node is ∙ outs-List ts))) j

    tree_exports : (k : Kind) → t ≡ Tree k ts → ((i : ℕ) → es i ≡ exports_in e (Node-F.Tree k ts) i) → es ≡ exports_below e t
    tree_exports k is same = λ j i. (same i ∙ sym (ap (λ y. exports_in e y i) (ap out-Node is ∙ outs-Tree k ts))) j

    module _ (rs : List Node) (seen : View → List Open) where
      plain : es ≡ exports_below e t → None ≡ scope_of_fields pl → ((v : View) → seen v ≡ env) → rs ≡ walked a es (λ i. seen (view_of pl i)) n (places_of pl ts) ts
          → rs ≡ each_remarked (λ i p. written a e env n w t (i ∷ p)) ts
      plain x nothing same h =
          let none : opened w t ≡ None = sym known.opens ∙ sym nothing in
          joined (λ i. seen (view_of pl i)) n rs x (plain_envs env n w t none seen same (view_of pl)) (let z : one_if (is_some (opened w t)) ≡ 0 = ap (λ (o : Option Scope). one_if (is_some o)) none in omega (arith, z)) h

      pub list_done : t ≡ Many ts → ((i : ℕ) → es i ≡ e) → None ≡ scope_of_fields pl → ((v : View) → seen v ≡ env) → rs ≡ walked a es (λ i. seen (view_of pl i)) n (places_of pl ts) ts
          → Many rs ≡ remarked (written a e env n w t) t
      list_done is x nothing same h = ap (λ l. Many l) (plain (list_exports is x) nothing same h) ∙ sym (remarked-List (written a e env n w t) ts) ∙ ap (remarked (written a e env n w t)) (sym is)

      pub plain_done : (k : Kind) → t ≡ Tree k ts → ((i : ℕ) → es i ≡ exports_in e (Node-F.Tree k ts) i) → None ≡ scope_of_fields pl → ((v : View) → seen v ≡ env)
          → rs ≡ walked a es (λ i. seen (view_of pl i)) n (places_of pl ts) ts → Tree k rs ≡ remarked (written a e env n w t) t
      plain_done k is x nothing same h =
          ap (λ l. Tree k l) (plain (tree_exports k is x) nothing same h) ∙ sym (remarked-Tree (written a e env n w t) k ts) ∙ ap (remarked (written a e env n w t)) (sym is)

      pub scope_done : (k : Kind) (sc : Scope) (m : ℕ) → t ≡ Tree k ts → ((i : ℕ) → es i ≡ exports_in e (Node-F.Tree k ts) i) → Some sc ≡ scope_of_fields pl → ((v : View) → seen v ≡ inside sc n env v) → m ≡ n + 1
          → rs ≡ walked a es (λ i. seen (view_of pl i)) m (places_of pl ts) ts → Tree k rs ≡ remarked (written a e env n w t) t
      scope_done k sc m is x something same f h =
          let some : opened w t ≡ Some sc = sym known.opens ∙ sym something in
          ap (λ l. Tree k l) (joined (λ i. seen (view_of pl i)) m rs (tree_exports k is x) (opened_envs env n w t sc some seen same (view_of pl) known.views)
          (let z : one_if (is_some (opened w t)) ≡ 1 = ap (λ (o : Option Scope). one_if (is_some o)) some in omega (arith, z, f)) h)
          ∙ sym (remarked-Tree (written a e env n w t) k ts) ∙ ap (remarked (written a e env n w t)) (sym is)

  -- one child more
  got_there : (es : ℕ → Bool) (envs : ℕ → List Open) (ts : List Node) (places : ℕ → Place) (n i : ℕ) → i < length ts → slice_get (walked a es envs n places (take i ts) ++ drop i ts) i ≡ slice_get ts i
  got_there es envs [] places n i l = absurd (omega arith)
  got_there es envs (t ∷ ts) places n zero l = refl
  got_there es envs (t ∷ ts) places n (suc i) l = got_there (λ i. es (suc i)) (λ i. envs (suc i)) ts (λ i. places (suc i)) (n + scope_count (places zero) t) i (omega arith)

  set_there : (es : ℕ → Bool) (envs : ℕ → List Open) (ts : List Node) (places : ℕ → Place) (n i nx : ℕ) (c : Node) → slice_get ts i ≡ Some c → nx ≡ n + total (each_in scope_count places (take i ts))
      → slice_set (walked a es envs n places (take i ts) ++ drop i ts) i (remarked (written a (es i) (envs i) nx (places i) c) c) ≡ walked a es envs n places (take (suc i) ts) ++ drop (suc i) ts
  set_there es envs [] places n i nx c h f = absurd (cc)
  set_there es envs (t ∷ ts) places n zero nx c h f = let same : c ≡ t = cc in let start : nx ≡ n = omega (arith, f) in rw (same, start) refl
  set_there es envs (t ∷ ts) places n (suc i) nx c h f =
      ap (λ l. remarked (written a (es zero) (envs zero) n (places zero) t) t ∷ l) (set_there (λ i. es (suc i)) (λ i. envs (suc i)) ts (λ i. places (suc i)) (n + scope_count (places zero) t) i nx c h (omega (arith, f)))

  -- what stays as it is needs no walk
  stays_there : (es : ℕ → Bool) (envs : ℕ → List Open) (ts : List Node) (places : ℕ → Place) (n i : ℕ) (c : Node) → slice_get ts i ≡ Some c → may_hold_names c ≡ false
      → walked a es envs n places (take i ts) ++ drop i ts ≡ walked a es envs n places (take (suc i) ts) ++ drop (suc i) ts
  stays_there es envs [] places n i c h f = absurd (cc)
  stays_there es envs (t ∷ ts) places n zero c h f =
      let same : c ≡ t = cc in
      ap (λ u. u ∷ ts) (sym (remarked-leaf (written a (es zero) (envs zero) n (places zero) t) t (out-Node t) refl (ap may_hold_names (sym same) ∙ f)))
  stays_there es envs (t ∷ ts) places n (suc i) c h f =
      ap (λ l. remarked (written a (es zero) (envs zero) n (places zero) t) t ∷ l) (stays_there (λ i. es (suc i)) (λ i. envs (suc i)) ts (λ i. places (suc i)) (n + scope_count (places zero) t) i c h f)

  module _ (es : ℕ → Bool) (envs : ℕ → List Open) (ts ys : List Node) (places : ℕ → Place) (n i nx : ℕ) (c : Node) (l : i < length ts) (was : ys ≡ walked a es envs n places (take i ts) ++ drop i ts)
      (here : slice_get ys i ≡ Some c) where
    pub child_is : slice_get ts i ≡ Some c
    child_is = sym (got_there es envs ts places n i l) ∙ ap (λ ys. slice_get ys i) (sym was) ∙ here

    pub leaf_done : may_hold_names c ≡ false → ys ≡ walked a es envs n places (take (i + 1) ts) ++ drop (i + 1) ts
    leaf_done f = was ∙ rw add-one (stays_there es envs ts places n i c child_is f)

    pub child_done : (start : nx ≡ n + total (each_in scope_count places (take i ts))) (e : Bool) (env : List Open) (w : Place) → e ≡ es i → env ≡ envs i → w ≡ places i
        → (y : Node) → y ≡ remarked (written a e env nx w c) c → slice_set ys i y ≡ walked a es envs n places (take (i + 1) ts) ++ drop (i + 1) ts
    child_done start e env w x f p y new = rw (new, was, x, f, p, add-one) (set_there es envs ts places n i nx c child_is start)

-- a measure of an element is at most the greatest
pub got_at_most : (μ : Node → ℕ) (ts : List Node) (i : ℕ) (t : Node) → slice_get ts i ≡ Some t → μ t ≤ most μ ts
got_at_most μ [] i t h = absurd (cc)
got_at_most μ (x ∷ ts) zero t h = let same : x ≡ t = cc in let e = ap μ same in omega (arith, e)
got_at_most μ (x ∷ ts) (suc i) t h = let r = got_at_most μ ts i t h in omega (arith, r)

pub some_same : {X : Type 0} {a b : X} → Some a ≡ Some b → a ≡ b
some_same h = cc
