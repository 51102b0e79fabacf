-- What holds of each identifier of a drawing holds of each in the tree.
use Rattle.std.proofs.Common.{◌≡◌, ℕ, zero, suc, Option, Some, None, List, [], ◌∷◌, ◌++◌, map, refl, sym, ap, ◌∙◌, subst}
use Rattle.std.specs.Option.{option_map}
use Rattle.swc_tree_marks.specs.declared.ident.Ident.{Ident}
use Rattle.swc_tree_node.specs.declared.kind.Kind.{Kind}
use Rattle.swc_tree_node.specs.declared.node.Node.{Node, Identifier, out-Node}
use Rattle.swc_tree_node.specs.declared.node.Node.TheOpen.{Node-F}
use Rattle.swc_tree_node.specs.declared.node.Node.TheVariants.{outs-Identifier}
use Rattle.swc_tree_scoping.specs.declared.places.Place.{Place}
use Rattle.swc_tree_scoping.specs.Places.{Path, place_at, program_place}
use Rattle.swc_tree_scoping_rows.proofs.Drawn.{Drawing, Drawing.none, Drawing.flag, Drawing.word, Drawing.span, Drawing.many, Drawing.name, Drawing.tree, Drawings, Drawings.end, Drawings.next, as_drawn, draw, drawn_or, get, inner, layer, out_draw, place_drawn, stands_drawn, stands_is}

-- an identifier with its path, its place and its kind
pub record Named : Type 0 where
  pub path : Path
  pub place : Place
  pub kind : Kind
  pub identifier : Ident

abbrev pub under : ℕ → Named → Named
under i q = record q { path = i ∷ q.path }

abbrev mutual
  pub names_in : Place → Drawing → List Named
  names_in w none = []
  names_in w (flag x) = []
  names_in w (word x) = []
  names_in w span = []
  names_in w (many ds) = names_of (place_drawn w (many ds)) (λ i. i) ds
  names_in w (name k i) = record { path = []; place = w; kind = k; identifier = i } ∷ []
  names_in w (tree k ds) = names_of (place_drawn w (tree k ds)) (λ i. i) ds

  pub names_of : (ℕ → Place) → (ℕ → ℕ) → Drawings → List Named
  names_of f n end = []
  names_of f n (next d ds) = map (under (n zero)) (names_in (f zero) d) ++ names_of (λ i. f (suc i)) (λ i. n (suc i)) ds

abbrev pub Every : (Named → Type 0) → List Named → Type 0
Every P [] = Unit {0}
Every P (q ∷ qs) = P q × Every P qs

every_left : (P : Named → Type 0) (xs ys : List Named) → Every P (xs ++ ys) → Every P xs
every_left P [] ys h = tt
every_left P (x ∷ xs) ys h = (h.0, every_left P xs ys h.1)

every_right : (P : Named → Type 0) (xs ys : List Named) → Every P (xs ++ ys) → Every P ys
every_right P [] ys h = h
every_right P (x ∷ xs) ys h = every_right P xs ys h.1

every_map : (P : Named → Type 0) (f : Named → Named) (xs : List Named) → Every P (map f xs) → Every (λ q. P (f q)) xs
every_map P f [] h = tt
every_map P f (x ∷ xs) h = (h.0, every_map P f xs h.1)

every_at : (P : Named → Type 0) (f : ℕ → Place) (n : ℕ → ℕ) (ds : Drawings) (i : ℕ) (c : Drawing) → get ds i ≡ Some c → Every P (names_of f n ds) → Every (λ q. P (under (n i) q)) (names_in (f i) c)
every_at P f n end i c g h = absurd (cc)
every_at P f n (next d ds) zero c g h =
    let same : d ≡ c = cc in
    subst (λ c. Every (λ q. P (under (n zero) q)) (names_in (f zero) c)) same (every_map P (under (n zero)) (names_in (f zero) d) (every_left P (map (under (n zero)) (names_in (f zero) d)) _ h))
every_at P f n (next d ds) (suc i) c g h = every_at P (λ i. f (suc i)) (λ i. n (suc i)) ds i c g (every_right P (map (under (n zero)) (names_in (f zero) d)) _ h)

every_child : (P : Named → Type 0) (w : Place) (d : Drawing) (i : ℕ) (c : Drawing) → get (inner d) i ≡ Some c → Every P (names_in w d) → Every (λ q. P (under i q)) (names_in (place_drawn w d i) c)
every_child P w (many ds) i c g h = every_at P (place_drawn w (many ds)) (λ i. i) ds i c g h
every_child P w (tree k ds) i c g h = every_at P (place_drawn w (tree k ds)) (λ i. i) ds i c g h
every_child P w none i c g h = absurd (cc)
every_child P w (flag x) i c g h = absurd (cc)
every_child P w (word x) i c g h = absurd (cc)
every_child P w span i c g h = absurd (cc)
every_child P w (name k j) i c g h = absurd (cc)

-- what is drawn as an identifier is one
drawn_name : (d : Drawing) (k : Kind) (i : Ident) → draw d ≡ Identifier k i → d ≡ name k i
drawn_name d k i h = at d (sym (out_draw d) ∙ ap out-Node h ∙ outs-Identifier k i)
  where
    at : (d : Drawing) → layer d ≡ Node-F.Identifier k i → d ≡ name k i
    at none h = absurd (cc)
    at (flag x) h = absurd (cc)
    at (word x) h = absurd (cc)
    at span h = absurd (cc)
    at (many ds) h = absurd (cc)
    at (name m j) h = let a : m ≡ k = cc in let b : j ≡ i = cc in λ l. name (a l) (b l)
    at (tree m ds) h = absurd (cc)

here : (P : Named → Type 0) (w v : Place) (k : Kind) (i : Ident) (d : Drawing) → Every P (names_in w d) → w ≡ v → d ≡ name k i → P (record { path = []; place = v; kind = k; identifier = i })
here P w v k i d h e s = let all = subst (λ d. Every P (names_in w d)) s h in subst (λ v. P (record { path = []; place = v; kind = k; identifier = i })) e all.0

some_is : {A : Type 0} {a b : A} → Some a ≡ Some b → a ≡ b
some_is h = cc

place_of_some : (o : Option (Place × Drawing)) (v : Place) (t : Node) → option_map as_drawn o ≡ Some (v, t) → (q : Place × Drawing) × (o ≡ Some q) × (q.0 ≡ v) × (draw q.1 ≡ t)
place_of_some None v t h = absurd (cc)
place_of_some (Some q) v t h = let a = some_is h in (q, refl, ap (λ z. z.0) a, ap (λ z. z.1) a)

every_drawn : (p : Path) (P : Named → Type 0) (w v : Place) (k : Kind) (i : Ident) (d c : Drawing) → Every P (names_in w d) → stands_drawn w d p ≡ Some (v, c) → c ≡ name k i
    → P (record { path = p; place = v; kind = k; identifier = i })
every_drawn [] P w v k i d c h s n = let e = some_is s in here P w v k i d h (ap (λ z. z.0) e) (ap (λ z. z.1) e ∙ n)
every_drawn (j ∷ p) P w v k i d c h s n = at (get (inner d) j) refl s (λ e g. every_drawn p (λ q. P (under j q)) (place_drawn w d j) v k i e c (every_child P w d j e g h))
  where
    at : (o : Option Drawing) → get (inner d) j ≡ o → drawn_or o None (λ c. stands_drawn (place_drawn w d j) c p) ≡ Some (v, c)
        → ((e : Drawing) → get (inner d) j ≡ Some e → stands_drawn (place_drawn w d j) e p ≡ Some (v, c) → c ≡ name k i → P (record { path = j ∷ p; place = v; kind = k; identifier = i }))
        → P (record { path = j ∷ p; place = v; kind = k; identifier = i })
    at None g s more = absurd (cc)
    at (Some e) g s more = more e g s n

pub every_name : (d : Drawing) (P : Named → Type 0) → Every P (names_in program_place d) → (p : Path) (w : Place) (k : Kind) (i : Ident) → place_at program_place (draw d) p ≡ Some (w, Identifier k i)
    → P (record { path = p; place = w; kind = k; identifier = i })
every_name d P h p w k i s =
    let (q, o, e, n) = place_of_some (stands_drawn program_place d p) w (Identifier k i) (sym (stands_is p program_place d) ∙ s) in
    subst (λ w. P (record { path = p; place = w; kind = k; identifier = i })) e (every_drawn p P program_place q.0 k i d q.1 h o (drawn_name q.1 k i n))

pub stands_there : (d : Drawing) (p : Path) (w : Place) (k : Kind) (i : Ident) → stands_drawn program_place d p ≡ Some (w, name k i) → place_at program_place (draw d) p ≡ Some (w, Identifier k i)
stands_there d p w k i h = stands_is p program_place d ∙ ap (option_map as_drawn) h
