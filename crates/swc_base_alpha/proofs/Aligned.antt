-- The identifiers of two trees of one outline, side by side.
use Rattle.std.proofs.Common.{◌≡◌, ℕ, zero, suc, Bool, true, false, ⊎_elim, Option, Some, None, List, [], ◌∷◌, ◌++◌, map, length, Contains, ◌↔◌, refl, sym, ap, ◌∙◌, subst}
use Rattle.std.specs.List.{slice_get}
use Rattle.std.proofs.lemmas.List.Elements.{Contains-append_left, Contains-append_right, Contains-append_cases}
use Rattle.swc_tree_marks.specs.declared.ident.Ident.{Ident}
use Rattle.swc_tree_node.specs.declared.kind.Kind.{Kind}
use Rattle.swc_tree_node.specs.declared.node.Node.{Node, Identifier, out-Node}
use Rattle.swc_tree_node.specs.declared.node.Node.TheOpen.{Node-F}
use Rattle.swc_tree_node.specs.declared.node.Node.TheVariants.{outs-Identifier}
use Rattle.swc_tree_scoping.specs.declared.places.Place.{Place}
use Rattle.swc_tree_scoping.specs.declared.places.Standing.{Standing}
use Rattle.swc_tree_scoping.specs.Folds.{each_in}
use Rattle.swc_tree_scoping.specs.Places.{Path, child, children_in, place_at, place_below, program_place}
use Rattle.swc_tree_scoping.proofs.Remarked.{identifier_is}
use Rattle.swc_tree_scoping.proofs.Under.{by_children, no_place_under, place_under}
use Rattle.swc_tree_walk.specs.Sites.{joined, own_sites, sites}
use Rattle.swc_tree_walk.proofs.Walked.{sites_out}
use Rattle.swc_tree_renaming.proofs.Core.{cases_in, head_in, none_in}
use Rattle.swc_tree_renaming.proofs.Shape.{some_same}
use Rattle.swc_tree_renaming.proofs.Whole.{identifier_same}
use Rattle.swc_base_rename_laws.specs.NewNames.{outline}
use Rattle.swc_base_rename_laws.proofs.Outline.{identifiers_alike, layer, out_is, places_alike}
use Rattle.swc_base_alpha_laws.specs.Alpha.{Beside}
use Rattle.swc_base_alpha_laws.proofs.Equivalence.{one_there}
use Rattle.swc_base_alpha.specs.Side.{Seen, SitesAreAligned, side}

side_append : (a b c d : List Seen) → length a ≡ length b → side (a ++ c) (b ++ d) ≡ side a b ++ side c d
side_append [] [] c d e = refl
side_append [] (y ∷ b) c d e = absurd (cc)
side_append (x ∷ a) [] c d e = absurd (cc)
side_append (x ∷ a) (y ∷ b) c d e = let rest : length a ≡ length b = cc in ap (λ l. (x, y) ∷ l) (side_append a b c d rest)

length_append : (a b c d : List Seen) → length a ≡ length b → length c ≡ length d → length (a ++ c) ≡ length (b ++ d)
length_append [] [] c d e f = f
length_append [] (y ∷ b) c d e f = absurd (cc)
length_append (x ∷ a) [] c d e f = absurd (cc)
length_append (x ∷ a) (y ∷ b) c d e f = let rest : length a ≡ length b = cc in ap suc (length_append a b c d rest f)

-- two identifiers at one path
record At (w : Place) (t u : Node) (x y : Seen) : Type 0 where
  path : Path
  place : Place
  kind : Kind
  other : Place
  its_kind : Kind
  stands : place_at w t path ≡ Some (place, Identifier kind x.1)
  stands_there : place_at w u path ≡ Some (other, Identifier its_kind y.1)
  stands_so : place.standing ≡ x.0
  too : other.standing ≡ y.0

-- ... in one of some children
record InChildren (places : ℕ → Place) (ts us : List Node) (x y : Seen) : Type 0 where
  number : ℕ
  one : Node
  other : Node
  there : slice_get ts number ≡ Some one
  too : slice_get us number ≡ Some other
  at : At (places number) one other x y

abbrev Aligned : Node → Type 0
Aligned t = (w : Place) (u : Node) → outline t ≡ outline u → (length (sites w t) ≡ length (sites w u)) × ((x y : Seen) → Contains (side (sites w t) (sites w u)) (x, y) ↔ At w t u x y)

abbrev AllAligned : (ℕ → Place) → List Node → List Node → Type 0
AllAligned places ts us = (length (joined (each_in sites places ts)) ≡ length (joined (each_in sites places us)))
    × ((x y : Seen) → Contains (side (joined (each_in sites places ts)) (joined (each_in sites places us))) (x, y) ↔ InChildren places ts us x y)

module _ (t u : Node) (ts us : List Node) (places : ℕ → Place)
    (first : (length (sites (places zero) t) ≡ length (sites (places zero) u)) × ((x y : Seen) → Contains (side (sites (places zero) t) (sites (places zero) u)) (x, y) ↔ At (places zero) t u x y))
    (later : AllAligned (λ i. places (suc i)) ts us) where
  abbrev rest_t : List Seen
  rest_t = joined (each_in sites (λ i. places (suc i)) ts)

  abbrev rest_u : List Seen
  rest_u = joined (each_in sites (λ i. places (suc i)) us)

  apart_there : side (sites (places zero) t ++ rest_t) (sites (places zero) u ++ rest_u) ≡ side (sites (places zero) t) (sites (places zero) u) ++ side rest_t rest_u
  apart_there = side_append (sites (places zero) t) (sites (places zero) u) rest_t rest_u first.0

  cons_forth : (x y : Seen) → Contains (side (sites (places zero) t ++ rest_t) (sites (places zero) u ++ rest_u)) (x, y) → InChildren places (t ∷ ts) (u ∷ us) x y
  cons_forth x y h = ⊎_elim
      (λ here. record { number = zero; one = t; other = u; there = refl; too = refl; at = (first.1 x y).0 here })
      (λ far. let z = (later.1 x y).0 far in record { number = suc z.number; one = z.one; other = z.other; there = z.there; too = z.too; at = z.at })
      (Contains-append_cases (side (sites (places zero) t) (sites (places zero) u)) (side rest_t rest_u) (x, y) (subst (λ l. Contains l (x, y)) apart_there h))

  cons_by : (x y : Seen) (n : ℕ) (c d : Node) → slice_get (t ∷ ts) n ≡ Some c → slice_get (u ∷ us) n ≡ Some d → At (places n) c d x y → Contains (side (sites (places zero) t) (sites (places zero) u) ++ side rest_t rest_u) (x, y)
  cons_by x y zero c d h k at =
      let one : c ≡ t = cc in
      let other : d ≡ u = cc in
      Contains-append_left (side (sites (places zero) t) (sites (places zero) u)) (side rest_t rest_u) (x, y) ((first.1 x y).1 (subst (λ d. At (places zero) t d x y) other (subst (λ c. At (places zero) c d x y) one at)))
  cons_by x y (suc n) c d h k at =
      Contains-append_right (side (sites (places zero) t) (sites (places zero) u)) (side rest_t rest_u) (x, y) ((later.1 x y).1 (record { number = n; one = c; other = d; there = h; too = k; at = at }))

  cons_back : (x y : Seen) → InChildren places (t ∷ ts) (u ∷ us) x y → Contains (side (sites (places zero) t ++ rest_t) (sites (places zero) u ++ rest_u)) (x, y)
  cons_back x y z = subst (λ l. Contains l (x, y)) (sym apart_there) (cons_by x y z.number z.one z.other z.there z.too z.at)

  cons_aligned : AllAligned places (t ∷ ts) (u ∷ us)
  cons_aligned = (length_append (sites (places zero) t) (sites (places zero) u) rest_t rest_u first.0 later.0, λ x y. (cons_forth x y, cons_back x y))

nowhere : {P : Type 0} (n : ℕ) (c : Node) → slice_get [] n ≡ Some c → P
nowhere n c e = absurd (cc)

all_aligned : (ts us : List Node) (places : ℕ → Place) → map outline ts ≡ map outline us → ((i : ℕ) (c : Node) → slice_get ts i ≡ Some c → Aligned c) → AllAligned places ts us
all_aligned [] [] places e below = (refl, λ x y. (λ h. absurd (none_in (x, y) h), λ h. nowhere h.number h.one h.there))
all_aligned [] (u ∷ us) places e below = absurd (cc)
all_aligned (t ∷ ts) [] places e below = absurd (cc)
all_aligned (t ∷ ts) (u ∷ us) places e below =
    let head : outline t ≡ outline u = cc in
    let tail : map outline ts ≡ map outline us = cc in
    cons_aligned t u ts us places (below zero t refl (places zero) u head) (all_aligned ts us (λ i. places (suc i)) tail (λ i c h. below (suc i) c h))

-- ---- one node

children_alike : (y z : Node-F Node) → layer y ≡ layer z → map outline (children_in y) ≡ map outline (children_in z)
children_alike y z e = sym (lists y) ∙ ap children_in e ∙ lists z
  where
    lists : (y : Node-F Node) → children_in (layer y) ≡ map outline (children_in y)
    lists (Node-F.Tree k ts) = refl
    lists (Node-F.List ts) = refl
    lists (Node-F.Identifier k j) = refl
    lists (Node-F.Span s) = refl
    lists _ = refl

abbrev is_identifier : Node-F Node → Bool
is_identifier (Node-F.Identifier k i) = true
is_identifier _ = false

layer_named : (y : Node-F Node) → is_identifier (layer y) ≡ is_identifier y
layer_named (Node-F.Identifier k i) = refl
layer_named Node-F.Absent = refl
layer_named (Node-F.Flag x) = refl
layer_named (Node-F.Word x) = refl
layer_named (Node-F.Text x) = refl
layer_named (Node-F.Span x) = refl
layer_named (Node-F.List x) = refl
layer_named (Node-F.Tree k x) = refl

as_named : (y : Node-F Node) → is_identifier y ≡ true → (k : Kind) × (i : Ident) × (y ≡ Node-F.Identifier k i)
as_named (Node-F.Identifier k i) e = (k, i, refl)
as_named Node-F.Absent e = absurd (cc)
as_named (Node-F.Flag x) e = absurd (cc)
as_named (Node-F.Word x) e = absurd (cc)
as_named (Node-F.Text x) e = absurd (cc)
as_named (Node-F.Span x) e = absurd (cc)
as_named (Node-F.List x) e = absurd (cc)
as_named (Node-F.Tree k x) e = absurd (cc)

as_none : (w : Place) (y : Node-F Node) → is_identifier y ≡ false → own_sites w y ≡ []
as_none w (Node-F.Identifier k i) e = absurd (cc)
as_none w Node-F.Absent e = refl
as_none w (Node-F.Flag x) e = refl
as_none w (Node-F.Word x) e = refl
as_none w (Node-F.Text x) e = refl
as_none w (Node-F.Span x) e = refl
as_none w (Node-F.List x) e = refl
as_none w (Node-F.Tree k x) e = refl

-- what is said of a child at a path, of its node at the longer path
under : (w : Place) (t u c d : Node) (n : ℕ) (x y : Seen) → outline t ≡ outline u → child t n ≡ Some c → child u n ≡ Some d → At (place_below w t n) c d x y → At w t u x y
under w t u c d n x y shape h k a = record {
  path = n ∷ a.path;
  place = a.place;
  kind = a.kind;
  other = a.other;
  its_kind = a.its_kind;
  stands = place_under w t c n a.path h ∙ a.stands;
  stands_there = place_under w u d n a.path k ∙ ap (λ w. place_at w d a.path) (sym (places_alike t u shape w n)) ∙ a.stands_there;
  stands_so = a.stands_so;
  too = a.too;
}

nothing_there : {P : Type 0} (q : Place × Node) → None ≡ Some q → P
nothing_there q e = absurd (cc)

module _ (t : Node) (below : (i : ℕ) (c : Node) → child t i ≡ Some c → Aligned c) (w : Place) (u : Node) (shape : outline t ≡ outline u) where
  layers : layer (out-Node t) ≡ layer (out-Node u)
  layers = sym (out_is t) ∙ ap out-Node shape ∙ out_is u

  kids : AllAligned (place_below w t) (children_in (out-Node t)) (children_in (out-Node u))
  kids = all_aligned (children_in (out-Node t)) (children_in (out-Node u)) (place_below w t) (children_alike (out-Node t) (out-Node u) layers) below

  there : sites w u ≡ own_sites w (out-Node u) ++ joined (each_in sites (place_below w t) (children_in (out-Node u)))
  there = sites_out w u ∙ ap (λ (f : ℕ → Place). own_sites w (out-Node u) ++ joined (each_in sites f (children_in (out-Node u)))) (λ i n. places_alike u t (sym shape) w n i)

  of_lists : (xs ys : List Seen) → sites w t ≡ xs → sites w u ≡ ys → length xs ≡ length ys → ((x y : Seen) → Contains (side xs ys) (x, y) ↔ At w t u x y)
      → (length (sites w t) ≡ length (sites w u)) × ((x y : Seen) → Contains (side (sites w t) (sites w u)) (x, y) ↔ At w t u x y)
  of_lists xs ys e f long is = (
    ap length e ∙ long ∙ sym (ap length f),
    λ x y. (
      λ h. (is x y).0 (subst (λ ys. Contains (side xs ys) (x, y)) f (subst (λ xs. Contains (side xs (sites w u)) (x, y)) e h)),
      λ a. subst (λ xs. Contains (side xs (sites w u)) (x, y)) (sym e) (subst (λ ys. Contains (side xs ys) (x, y)) (sym f) ((is x y).1 a)),
    ),
  )

  in_children : (x y : Seen) (n : ℕ) (p : Path) (v z : Place) (k l : Kind) → place_at w t (n ∷ p) ≡ Some (v, Identifier k x.1) → place_at w u (n ∷ p) ≡ Some (z, Identifier l y.1) → v.standing ≡ x.0 → z.standing ≡ y.0
      → InChildren (place_below w t) (children_in (out-Node t)) (children_in (out-Node u)) x y
  in_children x y n p v z k l h e so too = by (child t n) (child u n) refl refl
    where
      by : (c d : Option Node) → child t n ≡ c → child u n ≡ d → InChildren (place_below w t) (children_in (out-Node t)) (children_in (out-Node u)) x y
      by None d f g = nothing_there (v, Identifier k x.1) (sym (no_place_under w t n p f) ∙ h)
      by (Some c) None f g = nothing_there (z, Identifier l y.1) (sym (no_place_under w u n p g) ∙ e)
      by (Some c) (Some d) f g = record {
        number = n;
        one = c;
        other = d;
        there = f;
        too = g;
        at = record {
          path = p;
          place = v;
          kind = k;
          other = z;
          its_kind = l;
          stands = sym (place_under w t c n p f) ∙ h;
          stands_there = ap (λ w. place_at w d p) (places_alike t u shape w n) ∙ sym (place_under w u d n p g) ∙ e;
          stands_so = so;
          too = too;
        };
      }

  -- neither is an identifier
  apart : is_identifier (out-Node t) ≡ false → is_identifier (out-Node u) ≡ false → (length (sites w t) ≡ length (sites w u)) × ((x y : Seen) → Contains (side (sites w t) (sites w u)) (x, y) ↔ At w t u x y)
  apart e f =
      of_lists (joined (each_in sites (place_below w t) (children_in (out-Node t)))) (joined (each_in sites (place_below w t) (children_in (out-Node u))))
      (sites_out w t ∙ ap (λ l. l ++ joined (each_in sites (place_below w t) (children_in (out-Node t)))) (as_none w (out-Node t) e))
      (there ∙ ap (λ l. l ++ joined (each_in sites (place_below w t) (children_in (out-Node u)))) (as_none w (out-Node u) f))
      kids.0
      (λ x y. (
        λ h. let z = (kids.1 x y).0 h in under w t u z.one z.other z.number x y shape z.there z.too z.at,
        λ a. (kids.1 x y).1 (by x y a a.path refl),
      ))
    where
      by : (x y : Seen) (a : At w t u x y) (p : Path) → a.path ≡ p → InChildren (place_below w t) (children_in (out-Node t)) (children_in (out-Node u)) x y
      by x y a [] is =
          let same : ◌≡◌ {A = Place × Node} (w, t) (a.place, Identifier a.kind x.1) = some_same (w, t) (a.place, Identifier a.kind x.1) (subst (λ p. place_at w t p ≡ Some (a.place, Identifier a.kind x.1)) is a.stands) in
          let node : out-Node t ≡ Node-F.Identifier a.kind x.1 = ap (λ (q : Place × Node). out-Node q.1) same ∙ outs-Identifier a.kind x.1 in
          let wrong : true ≡ false = sym (ap is_identifier node) ∙ e in
          absurd (cc)
      by x y a (n ∷ p) is =
          in_children x y n p a.place a.other a.kind a.its_kind (subst (λ p. place_at w t p ≡ Some (a.place, Identifier a.kind x.1)) is a.stands) (subst (λ p. place_at w u p ≡ Some (a.other, Identifier a.its_kind y.1)) is a.stands_there) a.stands_so a.too

  -- both are
  alone : (k l : Kind) (i j : Ident) → out-Node t ≡ Node-F.Identifier k i → out-Node u ≡ Node-F.Identifier l j → (length (sites w t) ≡ length (sites w u)) × ((x y : Seen) → Contains (side (sites w t) (sites w u)) (x, y) ↔ At w t u x y)
  alone k l i j e f =
      of_lists ((w.standing, i) ∷ []) ((w.standing, j) ∷ [])
      (sites_out w t ∙ ap (λ y. own_sites w y ++ joined (each_in sites (place_below w t) (children_in y))) e)
      (there ∙ ap (λ y. own_sites w y ++ joined (each_in sites (place_below w t) (children_in y))) f)
      refl
      (λ x y. (
        λ h. ⊎_elim (λ same. found x y same) (λ never. absurd (none_in (x, y) never)) (cases_in ((w.standing, i), (w.standing, j)) (x, y) [] h),
        λ a. by x y a a.path refl,
      ))
    where
      is_t : t ≡ Identifier k i
      is_t = identifier_is t k i e

      is_u : u ≡ Identifier l j
      is_u = identifier_is u l j f

      found : (x y : Seen) → ◌≡◌ {A = Seen × Seen} ((w.standing, i), (w.standing, j)) (x, y) → At w t u x y
      found x y same =
          let one : ◌≡◌ {A = Seen} (w.standing, i) x = ap (λ (q : Seen × Seen). q.0) same in
          let two : ◌≡◌ {A = Seen} (w.standing, j) y = ap (λ (q : Seen × Seen). q.1) same in
          record {
            path = [];
            place = w;
            kind = k;
            other = w;
            its_kind = l;
            stands = ap (λ t. Some (w, t)) is_t ∙ ap (λ (s : Seen). Some (w, Identifier k s.1)) one;
            stands_there = ap (λ t. Some (w, t)) is_u ∙ ap (λ (s : Seen). Some (w, Identifier l s.1)) two;
            stands_so = ap (λ (s : Seen). s.0) one;
            too = ap (λ (s : Seen). s.0) two;
          }

      by : (x y : Seen) (a : At w t u x y) (p : Path) → a.path ≡ p → Contains {X = Seen × Seen} (((w.standing, i), (w.standing, j)) ∷ []) (x, y)
      by x y a [] is =
          let one : ◌≡◌ {A = Place × Node} (w, t) (a.place, Identifier a.kind x.1) = some_same (w, t) (a.place, Identifier a.kind x.1) (subst (λ p. place_at w t p ≡ Some (a.place, Identifier a.kind x.1)) is a.stands) in
          let two : ◌≡◌ {A = Place × Node} (w, u) (a.other, Identifier a.its_kind y.1) = some_same (w, u) (a.other, Identifier a.its_kind y.1) (subst (λ p. place_at w u p ≡ Some (a.other, Identifier a.its_kind y.1)) is a.stands_there) in
          let first : ◌≡◌ {A = Seen} (w.standing, i) x = pair (w.standing) (x.0) i (x.1) (ap (λ (q : Place × Node). q.0.standing) one ∙ a.stands_so) (identifier_same k a.kind i x.1 (sym is_t ∙ ap (λ (q : Place × Node). q.1) one)) in
          let second : ◌≡◌ {A = Seen} (w.standing, j) y = pair (w.standing) (y.0) j (y.1) (ap (λ (q : Place × Node). q.0.standing) two ∙ a.too) (identifier_same l a.its_kind j y.1 (sym is_u ∙ ap (λ (q : Place × Node). q.1) two)) in
          subst (λ y. Contains {X = Seen × Seen} (((w.standing, i), (w.standing, j)) ∷ []) (x, y)) second (subst (λ x. Contains {X = Seen × Seen} (((w.standing, i), (w.standing, j)) ∷ []) (x, (w.standing, j))) first (head_in ((w.standing, i), (w.standing, j)) []))
        where
          pair : (r v : Standing) (a b : Ident) → r ≡ v → a ≡ b → ◌≡◌ {A = Seen} (r, a) (v, b)
          pair r v a b e f = λ i. (e i, f i)
      by x y a (n ∷ p) is = nothing_there (a.place, Identifier a.kind x.1) (sym (no_place_under w t n p (ap (λ y. slice_get (children_in y) n) e)) ∙ subst (λ p. place_at w t p ≡ Some (a.place, Identifier a.kind x.1)) is a.stands)

  aligned_here : (length (sites w t) ≡ length (sites w u)) × ((x y : Seen) → Contains (side (sites w t) (sites w u)) (x, y) ↔ At w t u x y)
  aligned_here = by (is_identifier (out-Node t)) refl
    where
      same : is_identifier (out-Node u) ≡ is_identifier (out-Node t)
      same = sym (layer_named (out-Node u)) ∙ sym (ap is_identifier layers) ∙ layer_named (out-Node t)

      by : (b : Bool) → is_identifier (out-Node t) ≡ b → (length (sites w t) ≡ length (sites w u)) × ((x y : Seen) → Contains (side (sites w t) (sites w u)) (x, y) ↔ At w t u x y)
      by true e =
          let (k, i, one) = as_named (out-Node t) e in
          let (l, j, other) = as_named (out-Node u) (same ∙ e) in
          alone k l i j one other
      by false e = apart e (same ∙ e)

aligned : (t : Node) → Aligned t
aligned t = by_children Aligned aligned_here t

pub sites_are_aligned : SitesAreAligned
sites_are_aligned t u shape = (all.0, λ r v a b. (forth r v a b, back r v a b))
  where
    all : (length (sites program_place t) ≡ length (sites program_place u)) × ((x y : Seen) → Contains (side (sites program_place t) (sites program_place u)) (x, y) ↔ At program_place t u x y)
    all = aligned t program_place u shape

    one_place : (r v : Standing) (a b : Ident) (p : Path) (w z : Place) (k l : Kind) → place_at program_place t p ≡ Some (w, Identifier k a) → place_at program_place u p ≡ Some (z, Identifier l b) → w ≡ z
    one_place r v a b p w z k l h e = let (c, y) = identifiers_alike t u shape p program_place w k a h in (one_there u p w z k l c b y e).0

    forth : (r v : Standing) (a b : Ident) → Contains (side (sites program_place t) (sites program_place u)) ((r, a), (v, b)) → Beside t u r a b × (r ≡ v)
    forth r v a b h =
        let z = (all.1 (r, a) (v, b)).0 h in (
          record { path = z.path; place = z.place; kind = z.kind; other = z.other; its_kind = z.its_kind; stands = z.stands; stands_there = z.stands_there; stands_so = z.stands_so },
          sym z.stands_so ∙ ap (λ (w : Place). w.standing) (one_place r v a b z.path z.place z.other z.kind z.its_kind z.stands z.stands_there) ∙ z.too,
        )

    back : (r v : Standing) (a b : Ident) → Beside t u r a b × (r ≡ v) → Contains (side (sites program_place t) (sites program_place u)) ((r, a), (v, b))
    back r v a b (z, same) =
        (all.1 (r, a) (v, b)).1
        (record { path = z.path; place = z.place; kind = z.kind; other = z.other; its_kind = z.its_kind; stands = z.stands; stands_there = z.stands_there; stands_so = z.stands_so; too = ap (λ (w : Place). w.standing) (sym (one_place r v a b z.path z.place z.other z.kind z.its_kind z.stands z.stands_there)) ∙ z.stands_so ∙ same })
