-- A unit that is named alone, in the tree of which it is a part: what a scope declares there and where an id occurs is so in
-- the tree, so what holds of the order of names in the tree holds in the unit.
use Rattle.std.proofs.Common.{◌≡◌, ◌<◌, Bool, true, false, ◌⊎◌, inl, inr, ⊎_elim, Option, Some, None, List, [], ◌∷◌, ◌++◌, map, length, length-append, Contains, refl, sym, ap, ◌∙◌, subst, arith, option_map, option_and_then}
use Rattle.std.specs.Prelude.{if◌then◌else◌}
use Rattle.std.specs.Ordering.{ordering_then}
use Rattle.std.proofs.lemmas.List.Elements.{Contains-append_cases, Contains-append_left}
use Rattle.swc_tree_marks.specs.declared.ident.Ident.{Ident}
use Rattle.swc_tree_node.specs.declared.node.Node.{Node, out-Node}
use Rattle.swc_tree_scoping.specs.declared.places.Standing.{Standing}
use Rattle.swc_tree_scoping.specs.declared.places.Place.{Place}
use Rattle.swc_tree_scoping.specs.Places.{Path, place_at, place_below, program_place}
use Rattle.swc_tree_scoping.specs.Scopes.{is_binding, is_name}
use Rattle.swc_tree_scoping.specs.BoundNames.{Id, name_in}
use Rattle.swc_base_rename_analysis.specs.Analysis.{Around, Declares, IsAtOrAbove, IsOwnName, IsRound, OccursIn, first_taking, is_for_body, scopes_below, scopes_round, takes}
use Rattle.swc_base_rename_analysis.specs.Ids.{id_at}
use Rattle.swc_base_rename_analysis.specs.Order.{IsBefore, Site, entry}
use Rattle.swc_base_rename_analysis.proofs.Kept.{from_map, to_map}
use Rattle.swc_base_rename_analysis_laws.proofs.Items.{some_same}
use Rattle.swc_base_rename_analysis_laws.proofs.Paths.{onto, place_on, scopes_on, turns_compare}
use Rattle.swc_base_rename_analysis_laws.proofs.Rounds.{IsRoundIn, step_by_step}
use Rattle.swc_base_rename_scoped_laws.proofs.Chained.{CountsOutside}
use Rattle.swc_base_renaming_laws.proofs.UnitsAlike.{binding_core, core, name_core, takes_core}
use Rattle.swc_base_renaming_laws.proofs.Roots.{same_place, same_scopes}
use Rattle.swc_base_renaming_laws.proofs.Units.{IsUnitAt}

-- lists and paths
onward : (h p q : Path) → (h ++ p) ++ q ≡ h ++ (p ++ q)
onward [] p q = refl
onward (i ∷ h) p q = ap (λ l. i ∷ l) (onward h p q)

rest_same : (h p q : Path) → h ++ p ≡ h ++ q → p ≡ q
rest_same [] p q e = e
rest_same (i ∷ h) p q e = rest_same h p q (cc)

-- the nearest scope that takes a name is the same where more stand further out
taking_core : (r q : Standing) (ss : List Around) → core r ≡ core q → first_taking r ss ≡ first_taking q ss
taking_core r q [] e = refl
taking_core r q (s ∷ ss) e = (λ j. if takes_same j then Some s.0 else taking_core r q ss e j)
  where
    takes_same : takes s.1 r ≡ takes s.1 q
    takes_same = takes_core s.1 r ∙ ap (takes s.1) e ∙ sym (takes_core s.1 q)

taking_onto : (r : Standing) (h u : Path) (ss more : List Around) → first_taking r ss ≡ Some u → first_taking r (map (onto h) ss ++ more) ≡ Some (h ++ u)
taking_onto r h u [] more e = absurd (cc)
taking_onto r h u (s ∷ ss) more e = by (takes s.1 r) e (taking_onto r h u ss more)
  where
    by : (b : Bool) → (if b then Some s.0 else first_taking r ss) ≡ Some u → (first_taking r ss ≡ Some u → first_taking r (map (onto h) ss ++ more) ≡ Some (h ++ u)) → (if b then Some (h ++ s.0) else first_taking r (map (onto h) ss ++ more)) ≡ Some (h ++ u)
    by true e rest = ap (λ p. Some (h ++ p)) (some_same e)
    by false e rest = rest e

-- a scope round a path is shorter
shorter : (s p : Path) (f : Bool) (w : Place) (t : Node) → IsRoundIn f w t s p → length s < length p
shorter s [] f w t h = absurd h
shorter [] (i ∷ p) f w t h = omega arith
shorter (j ∷ s) (i ∷ p) f w t (e, (c, there, h)) = let less = shorter s p (is_for_body (out-Node t) i) (place_below w t i) c h in omega (arith, less)

no_id : (z : Standing × Id) → None ≡ Some z → ⊥
no_id z e = absurd (cc)

-- an identifier that stands as another, to the analysis
abbrev IsIdAlike : Node → Path → Standing → Id → Type 0
IsIdAlike t p r x = (q : Standing) × (id_at t p ≡ Some (q, x)) × (core r ≡ core q)

module _ (t v : Node) (h : Path) (unit : IsUnitAt t h v) where
  scopes_there : (q : Path) → scopes_round t (h ++ q) ≡ map (onto h) (scopes_round v q) ++ scopes_round t h
  scopes_there q =
      scopes_on h q false program_place t unit.place v unit.there
      ∙ ap (λ f. map (onto h) (scopes_below f unit.place v q) ++ scopes_round t h) unit.no_body
      ∙ ap (λ l. map (onto h) l ++ scopes_round t h) (same_scopes unit.place v unit.alone q)

  round_there : (s q : Path) → IsRound v s q → IsRound t (h ++ s) (h ++ q)
  round_there s q (k, c) = (k, subst (λ l. Contains l (h ++ s, k)) (sym (scopes_there q)) (Contains-append_left _ _ (h ++ s, k) (to_map (onto h) (scopes_round v q) (s, k) c)))

  round_back : (s q : Path) → IsRound t (h ++ s) (h ++ q) → IsRound v s q
  round_back s q (k, c) = ⊎_elim inside outside (Contains-append_cases _ _ (h ++ s, k) (subst (λ l. Contains l (h ++ s, k)) (scopes_there q) c))
    where
      inside : Contains (map (onto h) (scopes_round v q)) (h ++ s, k) → IsRound v s q
      inside c =
          let (z, g, same) = from_map (onto h) (scopes_round v q) (h ++ s, k) c in
          (z.1, subst (λ p. Contains (scopes_round v q) (p, z.1)) (rest_same h z.0 s (ap (λ (a : Around). a.0) same)) g)

      outside : Contains (scopes_round t h) (h ++ s, k) → IsRound v s q
      outside c =
          let less = shorter (h ++ s) h false program_place t (step_by_step h (h ++ s) false program_place t k c) in
          let long = length-append h s in
          absurd (omega (arith, less, long))

  -- what stands there
  id_there : (p : Path) (r : Standing) (x : Id) → id_at v p ≡ Some (r, x) → IsIdAlike t (h ++ p) r x
  id_there p r x e = at (place_at program_place v p) refl
    where
      of : Place × Node → Option (Standing × Id)
      of q = option_map (λ i. (q.0.standing, (i.sym, i.ctxt))) (name_in (out-Node q.1))

      at : (o : Option (Place × Node)) → place_at program_place v p ≡ o → IsIdAlike t (h ++ p) r x
      at None z = absurd (no_id (r, x) (sym (ap (λ o. option_and_then of o) z) ∙ e))
      at (Some (y, n)) z = by (same_place unit.place v unit.alone p y n z)
        where
          as_it_stands : Ident → Standing × Id
          as_it_stands i = (y.standing, (i.sym, i.ctxt))

          here : of (y, n) ≡ Some (r, x)
          here = sym (ap (λ o. option_and_then of o) z) ∙ e

          by : (u : Place) × (place_at unit.place v p ≡ Some (u, n)) × ((p ≡ []) ⊎ (core y.standing ≡ core u.standing)) → IsIdAlike t (h ++ p) r x
          by (u, there, same) = named (name_in (out-Node n)) refl
            where
              named : (o : Option Ident) → name_in (out-Node n) ≡ o → IsIdAlike t (h ++ p) r x
              named None m = absurd (no_id (r, x) (sym (ap (option_map as_it_stands) m) ∙ here))
              named (Some i) m = (
                u.standing,
                ap (λ o. option_and_then of o) (place_on h p program_place t unit.place v unit.there ∙ there) ∙ ap (λ o. option_map (λ i. (u.standing, (i.sym, i.ctxt))) o) m ∙ ap (λ x. Some (u.standing, x)) (ap (λ (z : Standing × Id). z.1) one),
                sym (ap (λ (z : Standing × Id). core z.0) one) ∙ stands same,
              )
                where
                  one : ◌≡◌ {A = Standing × Id} (as_it_stands i) (r, x)
                  one = some_same (sym (ap (option_map as_it_stands) m) ∙ here)

                  -- the whole is no identifier
                  stands : (p ≡ []) ⊎ (core y.standing ≡ core u.standing) → core y.standing ≡ core u.standing
                  stands (inr same) = same
                  stands (inl whole) =
                      let one_node : v ≡ n = ap (λ (a : Place × Node). a.1) (some_same {a = (program_place, v)} {b = (y, n)} (ap (place_at program_place v) (sym whole) ∙ z)) in
                      let is_named : name_in (out-Node v) ≡ Some i = ap (λ n. name_in (out-Node n)) one_node ∙ m in
                      absurd (no_name (name_in (out-Node v)) (ap name_in unit.alone.form) is_named)
                    where
                      no_name : (o : Option Ident) → o ≡ None → o ≡ Some i → ⊥
                      no_name o e g = absurd (cc)

  -- so do what a scope declares, what occurs in it, and the order of names
  declares_there : (s p : Path) (x : Id) → Declares v s p x → Declares t (h ++ s) (h ++ p) x
  declares_there s p x d =
      let (q, stands, same) = id_there p d.standing x d.stands in
      record {
        standing = q;
        stands = stands;
        binds = binding_core q ∙ sym (ap is_binding same) ∙ sym (binding_core d.standing) ∙ d.binds;
        analysed = d.analysed;
        taken = ap (first_taking q) (scopes_there p) ∙ taking_onto q h s (scopes_round v p) (scopes_round t h) (taking_core q d.standing (scopes_round v p) (sym same) ∙ d.taken);
      }

  own_there : (s p : Path) → IsOwnName v s p → IsOwnName t (h ++ s) (h ++ p)
  own_there s p (q, w, f, at_p, at_s, there, uses) =
      let (u, place, _) = same_place unit.place v unit.alone q w f there in
      (h ++ q, u, f, ap (λ p. h ++ p) at_p ∙ sym (onward h q _), ap (λ s. h ++ s) at_s ∙ sym (onward h q _), place_on h q program_place t unit.place v unit.there ∙ place, uses)

  occurs_there : (s : Path) (x : Id) → OccursIn v s x → OccursIn t (h ++ s) x
  occurs_there s x o =
      let (q, stands, same) = id_there o.path o.standing x o.stands in
      record {
        path = h ++ o.path;
        standing = q;
        stands = stands;
        names = name_core q ∙ sym (ap is_name same) ∙ sym (name_core o.standing) ∙ o.names;
        analysed = o.analysed;
        inside = ⊎_elim (λ (r : IsRound v s o.path). inl (round_there s o.path r)) (λ (own : IsOwnName v s o.path). inr (own_there s o.path own)) o.inside;
      }

  before_there : (a b : Site) → IsBefore v b a → IsBefore t (h ++ b.0, h ++ b.1) (h ++ a.0, h ++ a.1)
  before_there a b e =
      (λ j. ordering_then (turns_compare entry h b.0 a.0 program_place t unit.place v unit.there j) (turns_compare (λ _. []) h b.1 a.1 program_place t unit.place v unit.there j))
      ∙ e

  above_back : (s u : Path) → IsAtOrAbove t (h ++ s) (h ++ u) → IsAtOrAbove v s u
  above_back s u (inl e) = inl (rest_same h s u e)
  above_back s u (inr r) = inr (round_back s u r)

  -- so in the unit what occurs at a scope, and got its name earlier, got it there or further out, if it is so in the tree
  pub counts_in_unit : CountsOutside t → CountsOutside v
  counts_in_unit counts a b y d o before = above_back b.0 a.0 (counts (h ++ a.0, h ++ a.1) (h ++ b.0, h ++ b.1) y (declares_there b.0 b.1 y d) (occurs_there a.0 y o) (before_there a b before))
