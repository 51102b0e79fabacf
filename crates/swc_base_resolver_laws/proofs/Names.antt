-- A program and what it is resolved to, read by ids: the same places and scopes, and what each name becomes.
use Rattle.std.proofs.Common.{◌≡◌, ◌≢◌, ℕ, Bool, true, false, ◌⊎◌, inl, inr, ⊎_elim, IsTrue, Option, Some, None, List, [], ◌∷◌, ◌++◌, map, length, drop, take, Contains, refl, sym, ap, ◌∙◌, subst, cond}
use Rattle.std.specs.Option.{is_some, option_map}
use Rattle.std.proofs.lemmas.List.{append-nil}
use Rattle.std.proofs.Math.Seq.{drop-append_seam, take-append_seam}
use Rattle.swc_tree_marks.specs.declared.ident.Ident.{Ident}
use Rattle.swc_tree_marks.specs.Globals.{Table, numbers}
use Rattle.swc_tree_node.specs.declared.kind.Kind.{Kind}
use Rattle.swc_tree_node.specs.declared.slot.Slot.{Slot}
use Rattle.swc_tree_node.specs.declared.node.Node.{Node, Identifier, Tree, out-Node}
use Rattle.swc_tree_node.specs.declared.node.Node.TheOpen.{Node-F}
use Rattle.swc_tree_node.specs.declared.node.Node.TheVariants.{outs-Identifier, outs-List, outs-Tree}
use Rattle.swc_tree_node.specs.Fits.{Fits}
use Rattle.swc_tree_scoping.specs.declared.places.Standing.{Standing}
use Rattle.swc_tree_scoping.specs.declared.places.Standing.TheVariants as standing
use Rattle.swc_tree_scoping.specs.declared.places.Place.{Place}
use Rattle.swc_tree_scoping.specs.declared.places.Scope.{Scope}
use Rattle.swc_tree_scoping.specs.Places.{Path, place_at, program_place}
use Rattle.swc_tree_scoping.specs.Scopes.{IsScope, Round, first_that, is_binding, is_reference, is_taken, rounds, scope_at, taker}
use Rattle.swc_tree_scoping.specs.Declares.{Bound, First, Means, PassesNone, is_lexical}
use Rattle.swc_tree_scoping.specs.Readings.{by_ids, by_texts, id_name}
use Rattle.swc_tree_scoping.specs.Resolved.{Contexts, HasContext, Resolved, mark_in, remarked}
use Rattle.swc_tree_scoping.specs.WellScoped.{IsClean, NoEarlyErrorOfNames, NoRedeclaration, Stands}
use Rattle.swc_tree_scoping.proofs.First.{round_opens}
use Rattle.swc_tree_scoping.proofs.Remarked.{each_remarked, identifier_is, list_is, remarked-Identifier, remarked-List, remarked-Tree, remarked-leaf, tree_is}
use Rattle.swc_tree_renaming.specs.Apart.{IsPlainIfScript, IsPlainProgram, is_goal}
use Rattle.swc_tree_renaming.proofs.Blank.{layer, out_is, place_at_same, rounds_same, scope_at_same}
use Rattle.swc_base_resolver_laws.proofs.Same.{by_text, clean_stays, impossible, some_same, texts_stay}
use Rattle.swc_tree_renaming.proofs.Shape.{place_at_remarked}
use Rattle.swc_tree_renaming.proofs.Core.{declared_taker, first_in, own_meaning_is, taken_binds}
use Rattle.swc_tree_renaming.proofs.Global.{plain_means_no_global_value, plain_of_goal}
use Rattle.swc_tree_renaming.proofs.Whole.{program_layer, stands_round}
use Rattle.swc_base_resolver_laws.proofs.Lists.{each_at, row_of, taken_there}

-- a clean program without early errors of names, and what it is resolved to
pub record Resolving (t u : Node) : Type 0 where
  pub unresolved : ℕ
  pub top : ℕ
  pub old : Table
  pub new : Table
  pub goal : Slot
  pub program : IsTrue (is_goal goal)
  pub fitting : Fits t goal
  pub plain : IsPlainIfScript t
  pub clean : IsClean t
  pub fair : NoEarlyErrorOfNames t
  pub known : Contains (numbers old) unresolved
  pub resolved : Resolved unresolved top old new t u

-- an identifier, as it is read by ids
abbrev pub by_id : Ident → Ident
by_id i = record i { sym = id_name i; ctxt = [] }

-- the name of an id by its text and context
abbrev pub name_of : List ℕ → List ℕ → List ℕ
name_of x c = length x ∷ (x ++ c)

-- ids of one name have one text and one context
pub name_apart : (x y c d : List ℕ) → name_of x c ≡ name_of y d → (x ≡ y) × (c ≡ d)
name_apart x y c d e =
    let long : length x ≡ length y = cc in
    let rest : x ++ c ≡ y ++ d = cc in (
      sym (take-append_seam x c) ∙ ap (λ n. take n (x ++ c)) long ∙ ap (take (length y)) rest ∙ take-append_seam y d,
      sym (drop-append_seam x c) ∙ ap (λ n. drop n (x ++ c)) long ∙ ap (drop (length y)) rest ∙ drop-append_seam y d,
    )

-- the layer of a tree with new contexts that is read by ids
abbrev changed : Contexts → Node-F Node → Node-F Node
changed d (Node-F.List ts) = Node-F.List (map by_ids (each_remarked (λ i p. d (i ∷ p)) ts))
changed d (Node-F.Tree k ts) = Node-F.Tree k (map by_ids (each_remarked (λ i p. d (i ∷ p)) ts))
changed d (Node-F.Identifier k i) = Node-F.Identifier k (by_id (record i { ctxt = d [] }))
changed d y = y

out_changed : (d : Contexts) (n : Node) (y : Node-F Node) → out-Node n ≡ y → out-Node (by_ids (remarked d n)) ≡ changed d y
out_changed d n (Node-F.List ts) o = out_is by_id (remarked d n) ∙ ap (layer by_id) (ap (λ n. out-Node (remarked d n)) (list_is n ts o) ∙ ap out-Node (remarked-List d ts) ∙ outs-List (each_remarked (λ i p. d (i ∷ p)) ts))
out_changed d n (Node-F.Tree k ts) o = out_is by_id (remarked d n) ∙ ap (layer by_id) (ap (λ n. out-Node (remarked d n)) (tree_is n k ts o) ∙ ap out-Node (remarked-Tree d k ts) ∙ outs-Tree k (each_remarked (λ i p. d (i ∷ p)) ts))
out_changed d n (Node-F.Identifier k i) o = out_is by_id (remarked d n) ∙ ap (layer by_id) (ap (λ n. out-Node (remarked d n)) (identifier_is n k i o) ∙ ap out-Node (remarked-Identifier d k i) ∙ outs-Identifier k (record i { ctxt = d [] }))
out_changed d n Node-F.Absent o = out_is by_id (remarked d n) ∙ ap (layer by_id) (ap out-Node (remarked-leaf d n _ o refl) ∙ o)
out_changed d n (Node-F.Flag x) o = out_is by_id (remarked d n) ∙ ap (layer by_id) (ap out-Node (remarked-leaf d n _ o refl) ∙ o)
out_changed d n (Node-F.Word x) o = out_is by_id (remarked d n) ∙ ap (layer by_id) (ap out-Node (remarked-leaf d n _ o refl) ∙ o)
out_changed d n (Node-F.Text x) o = out_is by_id (remarked d n) ∙ ap (layer by_id) (ap out-Node (remarked-leaf d n _ o refl) ∙ o)
out_changed d n (Node-F.Span x) o = out_is by_id (remarked d n) ∙ ap (layer by_id) (ap out-Node (remarked-leaf d n _ o refl) ∙ o)

pair_same : (v w : Place) (c d : Node) → v ≡ w → c ≡ d → ◌≡◌ {A = Option (Place × Node)} (Some (v, c)) (Some (w, d))
pair_same v w c d e f = λ i. Some (e i, f i)

-- what becomes of a node with its place
abbrev moved : Contexts → Option (Place × Node) → Option (Place × Node)
moved d o = option_map (λ (q : Place × Node). (q.0, by_ids (remarked d q.1))) o

moved_twice : (d : Contexts) (o : Option (Place × Node)) → option_map {U = Place × Node} (λ (q : Place × Node). (q.0, by_ids q.1)) (option_map {U = Place × Node} (λ (q : Place × Node). (q.0, remarked d q.1)) o) ≡ moved d o
moved_twice d None = refl
moved_twice d (Some q) = refl

identifier_from : (d : Contexts) (w : Place) (k : Kind) (j : Ident) (o : Option (Place × Node)) → moved d o ≡ Some (w, Identifier k j) → (i : Ident) × (o ≡ Some (w, Identifier k i)) × (j ≡ by_id (record i { ctxt = d [] }))
identifier_from d w k j None h = absurd (cc)
identifier_from d w k j (Some (v, n)) h = at (out-Node n) refl
  where
    both_are : ◌≡◌ {A = Place × Node} (v, by_ids (remarked d n)) (w, Identifier k j)
    both_are = some_same (v, by_ids (remarked d n)) (w, Identifier k j) h

    place_is : v ≡ w
    place_is = ap (λ (q : Place × Node). q.0) both_are

    layer_is : (y : Node-F Node) → out-Node n ≡ y → changed d y ≡ Node-F.Identifier k j
    layer_is y o = sym (out_changed d n y o) ∙ ap (λ (q : Place × Node). out-Node q.1) both_are ∙ outs-Identifier k j

    at : (y : Node-F Node) → out-Node n ≡ y → (i : Ident) × (◌≡◌ {A = Option (Place × Node)} (Some (v, n)) (Some (w, Identifier k i))) × (j ≡ by_id (record i { ctxt = d [] }))
    at (Node-F.Identifier l i) o =
        let e = layer_is _ o in
        let kinds : l ≡ k = cc in
        let idents : j ≡ by_id (record i { ctxt = d [] }) = cc in
        (i, pair_same v w n (Identifier k i) place_is (identifier_is n l i o ∙ ap (λ l. Identifier l i) kinds), idents)
    at Node-F.Absent o = let e = layer_is _ o in absurd (cc)
    at (Node-F.Flag x) o = let e = layer_is _ o in absurd (cc)
    at (Node-F.Word x) o = let e = layer_is _ o in absurd (cc)
    at (Node-F.Text x) o = let e = layer_is _ o in absurd (cc)
    at (Node-F.Span x) o = let e = layer_is _ o in absurd (cc)
    at (Node-F.List x) o = let e = layer_is _ o in absurd (cc)
    at (Node-F.Tree l x) o = let e = layer_is _ o in absurd (cc)

tree_from : (d : Contexts) (w : Place) (k : Kind) (us : List Node) (o : Option (Place × Node)) → moved d o ≡ Some (w, Tree k us) → (ts : List Node) × (o ≡ Some (w, Tree k ts))
tree_from d w k us None h = absurd (cc)
tree_from d w k us (Some (v, n)) h = at (out-Node n) refl
  where
    both_are : ◌≡◌ {A = Place × Node} (v, by_ids (remarked d n)) (w, Tree k us)
    both_are = some_same (v, by_ids (remarked d n)) (w, Tree k us) h

    place_is : v ≡ w
    place_is = ap (λ (q : Place × Node). q.0) both_are

    layer_is : (y : Node-F Node) → out-Node n ≡ y → changed d y ≡ Node-F.Tree k us
    layer_is y o = sym (out_changed d n y o) ∙ ap (λ (q : Place × Node). out-Node q.1) both_are ∙ outs-Tree k us

    at : (y : Node-F Node) → out-Node n ≡ y → (ts : List Node) × (◌≡◌ {A = Option (Place × Node)} (Some (v, n)) (Some (w, Tree k ts)))
    at (Node-F.Tree l ts) o =
        let e = layer_is _ o in
        let kinds : l ≡ k = cc in
        (ts, pair_same v w n (Tree k ts) place_is (tree_is n l ts o ∙ ap (λ l. Tree l ts) kinds))
    at Node-F.Absent o = let e = layer_is _ o in absurd (cc)
    at (Node-F.Flag x) o = let e = layer_is _ o in absurd (cc)
    at (Node-F.Word x) o = let e = layer_is _ o in absurd (cc)
    at (Node-F.Text x) o = let e = layer_is _ o in absurd (cc)
    at (Node-F.Span x) o = let e = layer_is _ o in absurd (cc)
    at (Node-F.List x) o = let e = layer_is _ o in absurd (cc)
    at (Node-F.Identifier l x) o = let e = layer_is _ o in absurd (cc)

-- a name, as a variable meets it: not a catch parameter before its taker
meets_taker : (t : Node) (x : List ℕ) (ss : List Round) (m s : Path) → PassesNone is_lexical t x ss
    → First (λ s. IsTrue (is_taken standing.Variable (scope_at program_place t s.0)) ⊎ Bound t s.0 standing.CatchParameter x) ss (Some m)
    → first_that (λ s. is_taken standing.Variable (scope_at program_place t s.0)) ss ≡ Some s → m ≡ s
meets_taker t x [] m s passes f e = absurd (cc)
meets_taker t x (z ∷ zs) m s passes f e = next (V z) refl passes f e (λ p g h. meets_taker t x zs m s p g h)
  where
    V : Round → Bool
    V s = is_taken standing.Variable (scope_at program_place t s.0)

    next : (b : Bool) → V z ≡ b → PassesNone is_lexical t x (z ∷ zs) → First (λ s. IsTrue (V s) ⊎ Bound t s.0 standing.CatchParameter x) (z ∷ zs) (Some m) → cond b (Some z.0) (first_that V zs) ≡ Some s
        → (PassesNone is_lexical t x zs → First (λ s. IsTrue (V s) ⊎ Bound t s.0 standing.CatchParameter x) zs (Some m) → first_that V zs ≡ Some s → m ≡ s) → m ≡ s
    next true v passes (inl (here, is)) e later = some_same m z.0 is ∙ some_same z.0 s e
    next true v passes (inr (none, f)) e later = absurd (none (inl v))
    next false v (inl taken) f e later = impossible (sym v ∙ taken)
    next false v (inr (none, rest)) (inl (inl taken, is)) e later = impossible (sym v ∙ taken)
    next false v (inr (none, rest)) (inl (inr b, is)) e later = absurd (none (standing.CatchParameter, refl, b))
    next false v (inr (none, rest)) (inr (nor, f)) e later = later rest f e

module _ (t u : Node) (g : Resolving t u) where
  abbrev pub contexts : Contexts
  contexts = g.resolved.contexts

  abbrev pub marks : Path → ℕ
  marks = g.resolved.marks

  pub text_is : by_texts t ≡ t
  text_is = clean_stays t program_place g.clean

  pub same_texts : by_texts u ≡ t
  same_texts = ap by_texts g.resolved.only_contexts ∙ texts_stay contexts t ∙ text_is

  pub no_redeclaration : NoRedeclaration t
  no_redeclaration = subst NoRedeclaration text_is g.fair.no_redeclaration

  plain : IsPlainProgram t
  plain = plain_of_goal g.goal t g.program g.fitting g.plain

  -- ---- places and scopes

  pub rounds_is : (p : Path) → rounds program_place (by_ids u) p ≡ rounds program_place t p
  rounds_is p = rounds_same by_id p program_place u ∙ sym (rounds_same by_text p program_place u) ∙ ap (λ t. rounds program_place t p) same_texts

  pub scope_is : (s : Path) → scope_at program_place (by_ids u) s ≡ scope_at program_place t s
  scope_is s = scope_at_same by_id program_place u s ∙ sym (scope_at_same by_text program_place u s) ∙ ap (λ t. scope_at program_place t s) same_texts

  pub taker_is : (r : Standing) (p : Path) → taker r (by_ids u) p ≡ taker r t p
  taker_is r p =
      ap (first_that (λ s. is_taken r (scope_at program_place (by_ids u) s.0))) (rounds_is p)
      ∙ ap (λ (f : Path → Option Scope). first_that (λ s. is_taken r (f s.0)) (rounds program_place t p)) (λ i s. scope_is s i)

  place_of : (p : Path) → place_at program_place (by_ids u) p ≡ moved (λ r. contexts (p ++ r)) (place_at program_place t p)
  place_of p =
      place_at_same by_id p program_place u
      ∙ ap (option_map {U = Place × Node} (λ (q : Place × Node). (q.0, by_ids q.1))) (ap (λ u. place_at program_place u p) g.resolved.only_contexts ∙ place_at_remarked p contexts program_place t)
      ∙ moved_twice (λ r. contexts (p ++ r)) (place_at program_place t p)

  here : (p : Path) → contexts (p ++ []) ≡ contexts p
  here p = ap contexts (append-nil p)

  pub stands_there : (p : Path) (w : Place) (k : Kind) (i : Ident) → place_at program_place t p ≡ Some (w, Identifier k i) → place_at program_place (by_ids u) p ≡ Some (w, Identifier k (by_id (record i { ctxt = contexts p })))
  stands_there p w k i h =
      place_of p ∙ ap (moved (λ r. contexts (p ++ r))) h
      ∙ ap (λ n. Some (w, n)) (identifier_is (by_ids (remarked (λ r. contexts (p ++ r)) (Identifier k i))) k (by_id (record i { ctxt = contexts (p ++ []) })) (out_changed (λ r. contexts (p ++ r)) (Identifier k i) (Node-F.Identifier k i) (outs-Identifier k i)))
      ∙ ap (λ c. Some (w, Identifier k (by_id (record i { ctxt = c })))) (here p)

  pub stood_there : (p : Path) (w : Place) (k : Kind) (j : Ident) → place_at program_place (by_ids u) p ≡ Some (w, Identifier k j) → (i : Ident) × (place_at program_place t p ≡ Some (w, Identifier k i)) × (j ≡ by_id (record i { ctxt = contexts p }))
  stood_there p w k j h =
      let (i, e, is) = identifier_from (λ r. contexts (p ++ r)) w k j (place_at program_place t p) (sym (place_of p) ∙ h) in
      (i, e, is ∙ ap (λ c. by_id (record i { ctxt = c })) (here p))

  pub tree_there : (p : Path) (w : Place) (k : Kind) (us : List Node) → place_at program_place (by_ids u) p ≡ Some (w, Tree k us) → (ts : List Node) × (place_at program_place t p ≡ Some (w, Tree k ts))
  tree_there p w k us h = tree_from (λ r. contexts (p ++ r)) w k us (place_at program_place t p) (sym (place_of p) ∙ h)

  -- ---- names

  abbrev pub stands_forth : (p : Path) (r : Standing) (x : List ℕ) → Stands t p r x → Stands (by_ids u) p r (name_of x (contexts p))
  stands_forth p r x s = record {
    place = s.place;
    kind = s.kind;
    identifier = by_id (record (s.identifier) { ctxt = contexts p });
    stands = stands_there p s.place s.kind s.identifier s.stands;
    stands_so = s.stands_so;
    named = ap (λ x. name_of x (contexts p)) s.named;
  }

  pub origin : (p : Path) (r : Standing) (n : List ℕ) (s : Stands (by_ids u) p r n) → (i : Ident) × (place_at program_place t p ≡ Some (s.place, Identifier s.kind i)) × (s.identifier ≡ by_id (record i { ctxt = contexts p }))
  origin p r n s = stood_there p s.place s.kind s.identifier s.stands

  abbrev pub text_at : (p : Path) (r : Standing) (n : List ℕ) → Stands (by_ids u) p r n → List ℕ
  text_at p r n s = (origin p r n s).0.sym

  abbrev pub stands_back : (p : Path) (r : Standing) (n : List ℕ) (s : Stands (by_ids u) p r n) → Stands t p r (text_at p r n s)
  stands_back p r n s = record {
    place = s.place;
    kind = s.kind;
    identifier = (origin p r n s).0;
    stands = (origin p r n s).1;
    stands_so = s.stands_so;
    named = refl;
  }

  pub name_is : (p : Path) (r : Standing) (n : List ℕ) (s : Stands (by_ids u) p r n) → n ≡ name_of (text_at p r n s) (contexts p)
  name_is p r n s = sym s.named ∙ ap (λ (j : Ident). j.sym) (origin p r n s).2

  pub no_sloppy : (p : Path) (r : Standing) (x : List ℕ) → Stands t p r x → r ≢ standing.SloppyFunction
  no_sloppy p r x s e = plain.1 p s.place s.kind s.identifier s.stands (s.stands_so ∙ e)

  pub taken_bound : (r : Standing) (p s : Path) → taker r t p ≡ Some s → IsTrue (is_binding r)
  taken_bound r p s e = let (whole, there, f) = first_in (λ s. is_taken r (scope_at program_place t s.0)) (rounds program_place t p) s e in taken_binds r (scope_at program_place t s) f

  pub takers_scope : (r : Standing) (p s : Path) → taker r t p ≡ Some s → IsScope t s
  takers_scope r p s e = let (whole, there, f) = first_in (λ s. is_taken r (scope_at program_place t s.0)) (rounds program_place t p) s e in taken_there r (scope_at program_place t s) f

  pub round_scope : (p : Path) (s : Round) → Contains (rounds program_place t p) s → IsScope t s.0
  round_scope p s h = each_at (λ s. IsTrue (is_some (scope_at program_place t s.0))) (rounds program_place t p) s (round_opens p program_place t) h

  -- ---- contexts

  context_at : (p : Path) (r : Standing) (x : List ℕ) → Stands t p r x → HasContext marks g.unresolved t p x r (contexts p)
  context_at p r x s =
      subst (λ x. HasContext marks g.unresolved t p x r (contexts p)) s.named
      (subst (λ r. HasContext marks g.unresolved t p s.identifier.sym r (contexts p)) s.stands_so
      (g.resolved.resolved p s.place s.kind s.identifier s.stands (g.clean p s.place s.kind s.identifier s.stands)))

  -- a reference has the mark of the scope that it means, or the unresolved mark
  pub reference_context : (p : Path) (r : Standing) (x : List ℕ) → Stands t p r x → IsTrue (is_reference r) → (m : Option Path) × Means t p x m × (contexts p ≡ mark_in marks g.unresolved m ∷ [])
  reference_context p r x s h =
      let (m, means, e) = (context_at p r x s).reference h in
      (m, means, e ∙ ap (λ m. mark_in marks g.unresolved m ∷ []) (own_meaning_is t (plain_means_no_global_value t g.plain) p r x s h m means))

  -- a binding has the mark of the scope that takes it
  pub binding_context : (p : Path) (r : Standing) (x : List ℕ) → Stands t p r x → IsTrue (is_binding r) → (s : Path) × (taker r t p ≡ Some s) × (contexts p ≡ marks s ∷ [])
  binding_context p r x st h =
      let (s, declared, or) = (context_at p r x st).binding h in
      let taken = declared_taker t r p s x (no_sloppy p r x st) declared in (
        s,
        taken,
        ⊎_elim
            (λ a.
            let (m, (is, meets, otherwise), e) = a in
            let same = meets_taker t x (rounds program_place t p) m s (no_redeclaration.no_variable_passes p x (subst (λ r. Stands t p r x) is st)) meets (ap (λ r. taker r t p) (sym is) ∙ taken) in
            e ∙ ap (λ m. marks m ∷ []) same)
            (λ b. b.1) or,
      )

  pub takers_mark : (p : Path) (r : Standing) (x : List ℕ) (s : Path) → Stands t p r x → taker r t p ≡ Some s → contexts p ≡ marks s ∷ []
  takers_mark p r x s st h =
      let (v, taken, e) = binding_context p r x st (taken_bound r p s h) in
      e ∙ ap (λ v. marks v ∷ []) (some_same v s (sym taken ∙ h))

  -- ---- marks

  pub one_mark : (s v : Path) → IsScope t s → IsScope t v → marks s ∷ [] ≡ marks v ∷ [] → s ≡ v
  one_mark s v a b e = let same : marks s ≡ marks v = cc in g.resolved.one_to_one s v a b same

  pub others_resolved : (i : ℕ) (s : Path) → IsScope t (i ∷ s) → g.unresolved ∷ [] ≡ marks (i ∷ s) ∷ [] → ⊥
  others_resolved i s h e =
      let (parent, there) = row_of g.old g.unresolved g.known in
      let same : g.unresolved ≡ marks (i ∷ s) = cc in
      g.resolved.fresh (i ∷ s) h (λ n. absurd (cc)) parent (subst (λ m. Contains g.old (m, parent)) same there)

  -- the program stands round all names
  pub in_program : (p : Path) (r : Standing) (x : List ℕ) → Stands t p r x → IsTrue (is_reference r) → Contains (rounds program_place t p) ([], true)
  in_program [] r x s h =
      let root : program_place ≡ s.place = ap (λ (q : Place × Node). q.0) (some_same (program_place, t) (s.place, Identifier s.kind s.identifier) s.stands) in
      impossible (subst (λ r. IsTrue (is_reference r)) (sym s.stands_so ∙ ap (λ (w : Place). w.standing) (sym root)) h)
  in_program (i ∷ p) r x s h = stands_round t (program_layer t plain.0) i p
