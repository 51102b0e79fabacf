-- What gives a name to a scope: identifiers, and the members of enums.
use Rattle.std.proofs.Common.{◌≡◌, ℕ, ◌+◌, true, IsTrue, Some, List, [], length, refl, sym, ap, ◌∙◌, subst, arith}
use Rattle.std.specs.List.{slice_get}
use Rattle.swc_tree_marks.specs.declared.ident.Ident.{Ident}
use Rattle.swc_tree_node.specs.declared.kind.Kind.{Kind}
use Rattle.swc_tree_node.specs.declared.kind.Kind.TheVariants as kind
use Rattle.swc_tree_node.specs.declared.fields.types.ts_enum_decl.TheConstants as ts_enum_decl
use Rattle.swc_tree_node.specs.declared.node.Node.{Node, Identifier, Tree, out-Node}
use Rattle.swc_tree_node.specs.declared.node.Node.TheOpen.{Node-F}
use Rattle.swc_tree_node.specs.declared.node.Node.TheVariants.{outs-Identifier, outs-Tree}
use Rattle.swc_tree_scoping.specs.declared.places.Standing.{Standing}
use Rattle.swc_tree_scoping.specs.declared.places.Place.{Place}
use Rattle.swc_tree_scoping.specs.Places.{Path, items_of, place_at}
use Rattle.swc_tree_scoping.specs.Scopes.{is_binding}
use Rattle.swc_tree_scoping.proofs.Remarked.{identifier_is, tree_is}
use Rattle.swc_base_resolver_program.specs.declared.collect.Stage.{Stage}
use Rattle.swc_base_resolver_program.specs.declared.collect.Stage.TheVariants as stage
use Rattle.swc_base_resolver_program.specs.Names.{Way, binding, enum_member, is_way}
use Rattle.swc_base_resolver_program.specs.Lookup.{Open}
use Rattle.swc_base_resolver_program.specs.Walks.{HasMembers, Reaches, ReachesHere, TakesIdentifier, members_sought, number, open_round, target_in}
use Rattle.swc_base_resolver_program.proofs.Ways.{one_way, way_binds, way_self}

module _ (s : Stage) (env : List Open) (n : ℕ) (w : Place) (t : Node) (k : ℕ) (x : List ℕ) where
  -- an identifier gives its name
  pub record Named (v : Way) : Type 0 where
    pub path : Path
    pub place : Place
    pub kind : Kind
    pub identifier : Ident
    pub stands : place_at w t path ≡ Some (place, Identifier kind identifier)
    pub takes : TakesIdentifier s (open_round env n w t path) place.standing kind identifier k v x

  pub named_of : (v : Way) → (v ≡ enum_member → ⊥) → Reaches s env n w t k v x → Named v
  named_of v other h = at (out-Node h.node) refl h.reaches
    where
      at : (y : Node-F Node) → out-Node h.node ≡ y → ReachesHere s (open_round env n w t h.path) (n + number w t h.path) h.place y k v x → Named v
      at (Node-F.Identifier q i) o r = record { path = h.path; place = h.place; kind = q; identifier = i; stands = h.stands ∙ ap (λ d. Some (h.place, d)) (identifier_is h.node q i o); takes = r }
      at (Node-F.Tree q ts) o r = absurd (other r.1)
      at _ o r = absurd r

  pub of_named : (v : Way) → Named v → Reaches s env n w t k v x
  of_named v b = record {
    path = b.path;
    place = b.place;
    node = Identifier b.kind b.identifier;
    stands = b.stands;
    reaches = subst (λ y. ReachesHere s (open_round env n w t b.path) (n + number w t b.path) b.place y k v x) (sym (outs-Identifier b.kind b.identifier)) b.takes;
  }

  -- it binds it so
  pub record Binds (r : Standing) : Type 0 where
    pub path : Path
    pub place : Place
    pub kind : Kind
    pub identifier : Ident
    pub stands : place_at w t path ≡ Some (place, Identifier kind identifier)
    pub stands_so : place.standing ≡ r
    pub named : identifier.sym ≡ x
    pub unmarked : identifier.ctxt ≡ []
    pub given_to : target_in s r x (open_round env n w t path) ≡ Some k
    pub binds : is_binding r ≡ true

  pub binds_of : (r : Standing) → Reaches s env n w t k (binding r) x → Binds r
  binds_of r h =
      let b = named_of (binding r) (λ e. absurd (cc)) h in
      let so = one_way b.place.standing r b.takes.0 in
      record {
        path = b.path;
        place = b.place;
        kind = b.kind;
        identifier = b.identifier;
        stands = b.stands;
        stands_so = so;
        named = b.takes.1;
        unmarked = b.takes.2;
        given_to = subst (λ r. target_in s r x (open_round env n w t b.path) ≡ Some k) so b.takes.3;
        binds = way_binds b.place.standing r b.takes.0;
      }

  pub of_binds : (r : Standing) → Binds r → Reaches s env n w t k (binding r) x
  of_binds r b = of_named (binding r) (record {
    path = b.path;
    place = b.place;
    kind = b.kind;
    identifier = b.identifier;
    stands = b.stands;
    takes = (
      subst (λ q. IsTrue (is_way q r)) (sym b.stands_so) (way_self r b.binds),
      b.named,
      b.unmarked,
      subst (λ r. target_in s r x (open_round env n w t b.path) ≡ Some k) (sym b.stands_so) b.given_to,
    );
  })

module _ (env : List Open) (n : ℕ) (w : Place) (t : Node) (k : ℕ) (x : List ℕ) where
  -- an enum gives the name of a member
  pub record Lists : Type 0 where
    pub path : Path
    pub place : Place
    pub fields : List Node
    pub stands : place_at w t path ≡ Some (place, Tree kind.TsEnumDecl fields)
    pub has : HasMembers (n + number w t path) (items_of (slice_get fields ts_enum_decl.MEMBERS)) (length (items_of (slice_get fields ts_enum_decl.MEMBERS))) k enum_member x

  of_kind : (p : Path) (u : Place) (q : Kind) (ts : List Node) → place_at w t p ≡ Some (u, Tree q ts)
      → HasMembers (n + number w t p) (members_sought stage.Bind q ts) (length (members_sought stage.Bind q ts)) k enum_member x → Lists
  of_kind p u kind.TsEnumDecl ts h m = record { path = p; place = u; fields = ts; stands = h; has = m }
  of_kind p u _ ts h (e, f, (i, c, l, g, q)) = absurd (omega (arith, l))

  pub lists_of : Reaches stage.Bind env n w t k enum_member x → Lists
  lists_of h = at (out-Node h.node) refl h.reaches
    where
      at : (y : Node-F Node) → out-Node h.node ≡ y → ReachesHere stage.Bind (open_round env n w t h.path) (n + number w t h.path) h.place y k enum_member x → Lists
      at (Node-F.Identifier q i) o r = absurd (grind (arith, r.0))
      at (Node-F.Tree q ts) o r = of_kind h.path h.place q ts (h.stands ∙ ap (λ d. Some (h.place, d)) (tree_is h.node q ts o)) r
      at _ o r = absurd r

  pub of_lists : Lists → Reaches stage.Bind env n w t k enum_member x
  of_lists b = record {
    path = b.path;
    place = b.place;
    node = Tree kind.TsEnumDecl b.fields;
    stands = b.stands;
    reaches = subst (λ y. ReachesHere stage.Bind (open_round env n w t b.path) (n + number w t b.path) b.place y k enum_member x) (sym (outs-Tree kind.TsEnumDecl b.fields)) b.has;
  }
