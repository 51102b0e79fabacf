-- Drawings as the definitions of naming see them.
use Rattle.std.proofs.Common.{◌≡◌, ℕ, Bool, true, false, IsTrue, Option, Some, None, List, [], ◌∷◌, ◌++◌, map, codes, is_some, slice_get, refl, sym, ap, ◌∙◌, subst}
use Rattle.std.specs.Prelude.{if◌then◌else◌}
use Rattle.std.specs.Option.{option_and_then, option_map}
use Rattle.std.specs.declared.cmp.Ordering.{Ordering}
use Rattle.std.specs.Ordering.{nat_cmp, ordering_then}
use Rattle.std.specs.Cmp.Lexicographic.{slice_cmp}
use Rattle.swc_tree_node.specs.declared.fields.functions.class_expr.TheConstants as class_expr
use Rattle.swc_tree_node.specs.declared.fields.functions.fn_expr.TheConstants as fn_expr
use Rattle.swc_tree_node.specs.declared.node.Node.{Node, out-Node}
use Rattle.swc_tree_node.specs.declared.node.Node.TheOpen.{Node-F}
use Rattle.swc_tree_scoping.specs.declared.places.Standing.{Standing}
use Rattle.swc_tree_scoping.specs.declared.places.Place.{Place}
use Rattle.swc_tree_scoping.specs.Places.{Path, child, given, place_below, program_place}
use Rattle.swc_tree_scoping.specs.Scopes.{is_binding}
use Rattle.swc_tree_scoping.specs.BoundNames.{Id, name_in, name_of}
use Rattle.swc_tree_scoping_rows.proofs.Drawn.{Drawing, Drawings, draws, get_is, Drawing.none, Drawing.flag, Drawing.word, Drawing.span, Drawing.many, Drawing.name, Drawing.tree, as_drawn, child_is, draw, drawn_or, get, inner, layer, out_draw, place_drawn, place_is, stands_drawn, stands_is, there, there_at}
use Rattle.swc_tree_scoping_rows.proofs.Names.{Every, every_name, names_in, stands_there}
use Rattle.swc_base_rename_analysis.specs.Analysis.{Around, Declares, body_kind, first_taking, is_for_body, is_outside, opened_here, opened_round, own_kind, scopes_below, scopes_round}
use Rattle.swc_base_rename_analysis.specs.Ids.{id_at}
use Rattle.swc_base_rename_analysis.specs.Order.{Site, entry, site_cmp, turn, turns}

-- what a child, if there is one, makes of a value that the drawing gives too
pub fits_child : {B : Type 0} (b : B) (f : Node → B) (g : Drawing → B) (o : Option Drawing) → ((c : Drawing) → f (draw c) ≡ g c) → given (option_map draw o) b f ≡ drawn_or o b g
fits_child b f g None h = refl
fits_child b f g (Some c) h = h c

-- whether a drawing is of an identifier
abbrev pub identified : Option Drawing → Bool
identified None = false
identified (Some d) = is_some (name_in (layer d))

identified_is : (o : Option Drawing) → is_some (name_of (option_map draw o)) ≡ identified o
identified_is None = refl
identified_is (Some d) = ap (λ y. is_some (name_in y)) (out_draw d)

identified_at : (ds : Drawings) (i : ℕ) → is_some (name_of (slice_get (draws ds) i)) ≡ identified (get ds i)
identified_at ds i = ap (λ o. is_some (name_of o)) (get_is ds i) ∙ identified_is (get ds i)

-- the scopes round a path
abbrev pub round_drawn : Bool → Place → Drawing → ℕ → List Around
round_drawn for_body w (tree k ds) i = if is_outside w k (identified (get ds class_expr.IDENT)) i then [] else opened_here (body_kind for_body (own_kind w k (there (get ds fn_expr.IDENT))))
round_drawn for_body w _ i = []

round_is : (for_body : Bool) (w : Place) (d : Drawing) (i : ℕ) → opened_round for_body w (layer d) i ≡ round_drawn for_body w d i
round_is f w (tree k ds) i = λ j. if is_outside w k (identified_at ds class_expr.IDENT j) i then [] else opened_here (body_kind f (own_kind w k (there_at ds fn_expr.IDENT j)))
round_is f w none i = refl
round_is f w (flag x) i = refl
round_is f w (word x) i = refl
round_is f w span i = refl
round_is f w (many ds) i = refl
round_is f w (name k j) i = refl

abbrev pub below : ℕ → Around → Around
below i s = (i ∷ s.0, s.1)

abbrev pub around_drawn : Bool → Place → Drawing → Path → List Around
around_drawn f w d [] = []
around_drawn f w d (i ∷ p) = map (below i) (drawn_or (get (inner d) i) [] (λ c. around_drawn (is_for_body (layer d) i) (place_drawn w d i) c p)) ++ round_drawn f w d i

around_is : (p : Path) (f : Bool) (w : Place) (d : Drawing) → scopes_below f w (draw d) p ≡ around_drawn f w d p
around_is [] f w d = refl
around_is (i ∷ p) f w d =
    ap (λ y. map (below i) (given (child (draw d) i) [] (λ c. scopes_below (is_for_body y i) (place_below w (draw d) i) c p)) ++ opened_round f w y i) (out_draw d)
    ∙ ap (λ o. map (below i) (given o [] (λ c. scopes_below (is_for_body (layer d) i) (place_below w (draw d) i) c p)) ++ opened_round f w (layer d) i) (child_is d i)
    ∙ ap (λ v. map (below i) (given (option_map draw (get (inner d) i)) [] (λ c. scopes_below (is_for_body (layer d) i) v c p)) ++ opened_round f w (layer d) i) (place_is w d i)
    ∙ (λ j. map (below i) (fits_child [] (λ c. scopes_below (is_for_body (layer d) i) (place_drawn w d i) c p) (λ c. around_drawn (is_for_body (layer d) i) (place_drawn w d i) c p) (get (inner d) i) (λ c. around_is p (is_for_body (layer d) i) (place_drawn w d i) c) j) ++ round_is f w d i j)

abbrev pub scopes_drawn : Drawing → Path → List Around
scopes_drawn d p = around_drawn false program_place d p

pub scopes_are : (d : Drawing) (p : Path) → scopes_round (draw d) p ≡ scopes_drawn d p
scopes_are d p = around_is p false program_place d

-- the id at a path
abbrev pub id_in : Place × Drawing → Option (Standing × Id)
id_in q = option_map (λ i. (q.0.standing, (i.sym, i.ctxt))) (name_in (layer q.1))

abbrev pub id_drawn : Drawing → Path → Option (Standing × Id)
id_drawn d p = option_and_then id_in (stands_drawn program_place d p)

pub id_is : (d : Drawing) (p : Path) → id_at (draw d) p ≡ id_drawn d p
id_is d p = ap (option_and_then (λ (q : Place × Node). option_map (λ i. (q.0.standing, (i.sym, i.ctxt))) (name_in (out-Node q.1)))) (stands_is p program_place d) ∙ at (stands_drawn program_place d p)
  where
    at : (o : Option (Place × Drawing)) → option_and_then (λ (q : Place × Node). option_map (λ i. (q.0.standing, (i.sym, i.ctxt))) (name_in (out-Node q.1))) (option_map as_drawn o) ≡ option_and_then id_in o
    at None = refl
    at (Some q) = ap (λ y. option_map (λ i. (q.0.standing, (i.sym, i.ctxt))) (name_in y)) (out_draw q.1)

pub some_is : {A : Type 0} {a b : A} → Some a ≡ Some b → a ≡ b
some_is h = cc

-- what holds of each identifier of the drawing holds of each id at a path
pub each_id : (d : Drawing) (P : Path → Standing → Id → Type 0) → Every (λ q. P q.path q.place.standing (q.identifier.sym, q.identifier.ctxt)) (names_in program_place d)
    → (p : Path) (r : Standing) (x : Id) → id_at (draw d) p ≡ Some (r, x) → P p r x
each_id d P h p r x s = at (stands_drawn program_place d p) refl (sym (id_is d p) ∙ s)
  where
    named : (w : Place) (c : Drawing) → stands_drawn program_place d p ≡ Some (w, c) → id_in (w, c) ≡ Some (r, x) → P p r x
    named w (name k i) e g =
        let all = every_name d (λ q. P q.path q.place.standing (q.identifier.sym, q.identifier.ctxt)) h p w k i (stands_there d p w k i e) in
        let same = some_is g in
        subst (λ z. P p z.0 z.1) same all
    named w none e g = absurd (cc)
    named w (flag y) e g = absurd (cc)
    named w (word y) e g = absurd (cc)
    named w span e g = absurd (cc)
    named w (many ds) e g = absurd (cc)
    named w (tree k ds) e g = absurd (cc)

    at : (o : Option (Place × Drawing)) → stands_drawn program_place d p ≡ o → option_and_then id_in o ≡ Some (r, x) → P p r x
    at None e g = absurd (cc)
    at (Some q) e g = named q.0 q.1 e g

-- what a scope declares, one at a time
abbrev pub taken_drawn : Drawing → Path → Standing → Option Path
taken_drawn d p r = first_taking r (scopes_drawn d p)

pub declares : (d : Drawing) (s p : Path) (r : Standing) (x : Id) → id_drawn d p ≡ Some (r, x) → is_binding r ≡ true → (x.0 ≡ codes "arguments" → ⊥) → taken_drawn d p r ≡ Some s → Declares (draw d) s p x
declares d s p r x i b n t = record { standing = r; stands = id_is d p ∙ i; binds = b; analysed = n; taken = ap (first_taking r) (scopes_are d p) ∙ t }

pub each_declared : (d : Drawing) (P : Path → Path → Id → Type 0)
    → Every (λ q. IsTrue (is_binding q.place.standing) → (s : Path) → taken_drawn d q.path q.place.standing ≡ Some s → P s q.path (q.identifier.sym, q.identifier.ctxt)) (names_in program_place d)
    → (s p : Path) (x : Id) → Declares (draw d) s p x → P s p x
each_declared d P h s p x c =
    each_id d (λ p r x. IsTrue (is_binding r) → (s : Path) → taken_drawn d p r ≡ Some s → P s p x) h p c.standing x c.stands c.binds s (sym (ap (first_taking c.standing) (scopes_are d p)) ∙ c.taken)

-- the order of sites
abbrev pub turns_drawn : (Node-F Node → List ℕ) → Drawing → Path → List ℕ
turns_drawn end d [] = end (layer d)
turns_drawn end d (i ∷ p) = turn (layer d) i ∷ drawn_or (get (inner d) i) [] (λ c. turns_drawn end c p)

turns_is : (end : Node-F Node → List ℕ) (p : Path) (d : Drawing) → turns end (draw d) p ≡ turns_drawn end d p
turns_is end [] d = ap end (out_draw d)
turns_is end (i ∷ p) d =
    ap (λ y. turn y i ∷ given (child (draw d) i) [] (λ c. turns end c p)) (out_draw d)
    ∙ ap (λ o. turn (layer d) i ∷ given o [] (λ c. turns end c p)) (child_is d i)
    ∙ ap (λ l. turn (layer d) i ∷ l) (fits_child [] (λ c. turns end c p) (λ c. turns_drawn end c p) (get (inner d) i) (λ c. turns_is end p c))

abbrev pub cmp_drawn : Drawing → Site → Site → Ordering
cmp_drawn d a b =
    ordering_then (slice_cmp nat_cmp (turns_drawn entry d a.0) (turns_drawn entry d b.0)) (slice_cmp nat_cmp (turns_drawn (λ _. []) d a.1) (turns_drawn (λ _. []) d b.1))

pub cmp_is : (d : Drawing) (a b : Site) → site_cmp (draw d) a b ≡ cmp_drawn d a b
cmp_is d a b = λ j. ordering_then (slice_cmp nat_cmp (turns_is entry a.0 d j) (turns_is entry b.0 d j)) (slice_cmp nat_cmp (turns_is (λ _. []) a.1 d j) (turns_is (λ _. []) b.1 d j))
