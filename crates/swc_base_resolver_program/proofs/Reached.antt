-- Where no scope takes a variable or a plain function of sloppy code in a block, the second walk finds nothing.
use Rattle.std.proofs.Common.{◌≡◌, ℕ, zero, suc, Bool, true, false, ◌||◌, IsTrue, Option, Some, None, ◌+◌, List, [], ◌∷◌, refl, sym, ap, ◌∙◌, subst, arith, cond}
use Rattle.std.specs.List.{list_any}
use Rattle.std.specs.Option.{unwrap_or}
use Rattle.std.specs.Map.{lookup, values_of}
use Rattle.swc_tree_node.specs.declared.node.Node.{Node, out-Node}
use Rattle.swc_tree_node.specs.declared.node.Node.TheOpen.{Node-F}
use Rattle.swc_tree_scoping.specs.declared.places.Standing.{Standing}
use Rattle.swc_tree_scoping.specs.declared.places.Standing.TheVariants as standing
use Rattle.swc_tree_scoping.specs.declared.places.Place.{Place}
use Rattle.swc_tree_scoping.specs.Scopes.{is_taken}
use Rattle.swc_tree_scoping.proofs.Remarked.{identifier_is}
use Rattle.swc_base_resolver_program.specs.declared.names.Ways.{Ways}
use Rattle.swc_base_resolver_program.specs.declared.names.ScopeNames.{ScopeNames}
use Rattle.swc_base_resolver_program.specs.declared.lookup.TakenNames.{TakenNames}
use Rattle.swc_base_resolver_program.specs.declared.collect.Stage.TheVariants as stage
use Rattle.swc_base_resolver_program.specs.Names.{Way, binding, has_way, is_way, no_ways, ways_in}
use Rattle.swc_base_resolver_program.specs.Lookup.{Open, hoists_in, meets_in, names_in, same_number, taker_in}
use Rattle.swc_base_resolver_program.specs.Reached.{can_reach, takes_reaching}
use Rattle.swc_base_resolver_program.specs.Walks.{Reaches, ReachesHere, Takes, number, open_round, target_in}
use Rattle.swc_base_resolver_program.proofs.Gathered.{gained_alone, gains_none}
use Rattle.swc_base_resolver_program.proofs.Named.{of_named}
use Rattle.swc_base_resolver_program.proofs.Ways.{is_true, or_left, or_right}

-- from all names to each
neither : (a b : Bool) → (a || b) ≡ false → (a ≡ false) × (b ≡ false)
neither true b h = absurd (cc)
neither false b h = (refl, h)

found_none : {K : Type 0} (test : K → Bool) (es : List (K × Ways)) → list_any can_reach (values_of es) ≡ false → can_reach (unwrap_or (lookup test es) no_ways) ≡ false
found_none test [] h = refl
found_none test (e ∷ es) h =
    let parts = neither (can_reach e.1) (list_any can_reach (values_of es)) h in
    next (test e.0) parts.0 (found_none test es parts.1)
  where
    next : (b : Bool) → can_reach e.1 ≡ false → can_reach (unwrap_or (lookup test es) no_ways) ≡ false → can_reach (unwrap_or (cond b (Some e.1) (lookup test es)) no_ways) ≡ false
    next true first later = first
    next false first later = later

pub none_can_reach : (ss : List ScopeNames) → list_any takes_reaching ss ≡ false → (k : ℕ) (x : List ℕ) → can_reach (ways_in ss k x) ≡ false
none_can_reach [] h k x = refl
none_can_reach (s ∷ ss) h zero x = found_none _ s.names.entries (neither (takes_reaching s) (list_any takes_reaching ss) h).0
none_can_reach (s ∷ ss) h (suc k) x = none_can_reach ss (neither (takes_reaching s) (list_any takes_reaching ss) h).1 k x

-- what the second walk gives to a scope, the first gave to one
pub record FirstTaken (x : List ℕ) (r : Standing) (env : List Open) : Type 0 where
  pub number : ℕ
  pub taker : target_in stage.Bind r x env ≡ Some number
  pub binds : IsTrue (is_way r r)
  pub reaching : (w : Ways) → IsTrue (has_way w r) → IsTrue (can_reach w)

module _ (names : TakenNames) (x : List ℕ) where
  hoisted_taken : (env : List Open) → hoists_in (names_in names) x env ≡ true → FirstTaken x standing.SloppyFunction env
  hoisted_taken [] h = absurd (cc)
  hoisted_taken (o ∷ env) h = next (is_taken standing.SloppyFunction o.scope) refl (λ g. hoisted_taken env g)
    where
      next : (b : Bool) → is_taken standing.SloppyFunction o.scope ≡ b → (hoists_in (names_in names) x env ≡ true → FirstTaken x standing.SloppyFunction env) → FirstTaken x standing.SloppyFunction (o ∷ env)
      next true e later = record { number = o.number; taker = rw e refl; binds = refl; reaching = λ w. or_right w.variable w.sloppy_function }
      next false e later =
          let outer : FirstTaken x standing.SloppyFunction env = later (rw e at h) in
          record { number = outer.number; taker = rw e outer.taker; binds = refl; reaching = outer.reaching }

  first_taken : (r : Standing) (env : List Open) (k : ℕ) → target_in (stage.Settle names) r x env ≡ Some k → FirstTaken x r env
  first_taken standing.SloppyFunction env k h = next (hoists_in (names_in names) x env) refl h
    where
      next : (b : Bool) → hoists_in (names_in names) x env ≡ b → cond b (taker_in standing.Variable env) None ≡ Some k → FirstTaken x standing.SloppyFunction env
      next true e g = hoisted_taken env e
      next false e g = absurd (cc)
  first_taken standing.Variable env k h = next (taker_in standing.Variable env) refl h
    where
      next : (o : Option ℕ) → taker_in standing.Variable env ≡ o → same_number o (meets_in (names_in names) x env) ≡ Some k → FirstTaken x standing.Variable env
      next None e g = absurd (cc)
      next (Some q) e g = record { number = q; taker = e; binds = refl; reaching = λ w. or_left w.variable w.sloppy_function }
  first_taken _ env k h = absurd (cc)

pub nothing_reaches : (names : TakenNames) (w : Place) (t : Node) → Takes names.scopes.now (Reaches stage.Bind [] 0 w t) → list_any takes_reaching names.scopes.now ≡ false
    → (new : List ScopeNames) → new ≡ [] → Takes new (Reaches (stage.Settle names) [] 0 w t)
nothing_reaches names w t binds none new empty =
    subst (λ ss. Takes ss (Reaches (stage.Settle names) [] 0 w t)) (sym empty) (gained_alone [] [] (Reaches (stage.Settle names) [] 0 w t) refl (gains_none [] (Reaches (stage.Settle names) [] 0 w t) unreached))
  where
    unreached : (k : ℕ) (v : Way) (x : List ℕ) → Reaches (stage.Settle names) [] 0 w t k v x → ⊥
    unreached k v x h = at (out-Node h.node) refl h.reaches
      where
        at : (y : Node-F Node) → out-Node h.node ≡ y → ReachesHere (stage.Settle names) (open_round [] 0 w t h.path) (0 + number w t h.path) h.place y k v x → ⊥
        at (Node-F.Identifier q i) o (way, name, free, to) =
            let first = first_taken names x h.place.standing (open_round [] 0 w t h.path) k to in
            let bound : Reaches stage.Bind [] 0 w t first.number (binding h.place.standing) x = of_named stage.Bind [] 0 w t first.number x (binding h.place.standing) (record {
              path = h.path;
              place = h.place;
              kind = q;
              identifier = i;
              stands = h.stands ∙ ap (λ d. Some (h.place, d)) (identifier_is h.node q i o);
              takes = (first.binds, name, free, first.taker);
            }) in
            let yes : can_reach (names_in names first.number x) ≡ true = is_true (can_reach (names_in names first.number x)) (first.reaching (names_in names first.number x) ((binds first.number (binding h.place.standing) x).1 bound)) in
            let no = none_can_reach names.scopes.now none first.number x in
            absurd (cc)
        at (Node-F.Tree q ts) o (e, f, (i, c, l, g, m)) = omega (arith, l)
        at _ o r = r
