-- Sites are in a total order, and two that declare an id are one where neither comes first: turns tell the children of a
-- node apart, so the bindings stand at one path, and a binding is declared by one scope.
use Rattle.std.proofs.Common.{◌≡◌, ℕ, zero, suc, ◌+◌, ◌==◌, Bool, true, false, Option, Some, None, is_some, List, [], ◌∷◌, refl, sym, ap, ◌∙◌, arith, Less, Equal, Greater, Ordering, nat_cmp, is_eq, cond, eqb-true, ne_eqb}
use Rattle.std.specs.Option.{option_and_then, option_map}
use Rattle.std.specs.Ordering.{ordering_then}
use Rattle.std.specs.Cmp.{IsTotalOrder, then_total}
use Rattle.std.specs.Cmp.Lexicographic.{bytes_decides, on_texts, slice_cmp}
use Rattle.std.proofs.lemmas.Map.Text.{is_eq-slice_cmp}
use Rattle.swc_tree_node.specs.declared.kind.Kind.{Kind}
use Rattle.swc_tree_node.specs.declared.kind.Kind.TheVariants as kind
use Rattle.swc_tree_node.specs.declared.node.Node.{Node, out-Node}
use Rattle.swc_tree_node.specs.declared.node.Node.TheOpen.{Node-F}
use Rattle.swc_tree_scoping.specs.declared.places.Standing.{Standing}
use Rattle.swc_tree_scoping.specs.declared.places.Place.{Place}
use Rattle.swc_tree_scoping.specs.Places.{Path, child, given, is_at, place_at, place_below, program_place}
use Rattle.swc_tree_scoping.specs.BoundNames.{Id, name_in}
use Rattle.swc_base_rename_analysis.specs.Analysis.{Declares, first_taking, key_field, scopes_round}
use Rattle.swc_base_rename_analysis.specs.Ids.{id_at}
use Rattle.swc_base_rename_analysis.specs.Laws.{EachTreesSitesAreInOrder}
use Rattle.swc_base_rename_analysis.specs.Order.{Site, body_first, entry, site_cmp, turn, turn_in, turns}

pub sites_total : (t : Node) → IsTotalOrder (site_cmp t)
sites_total t = then_total (on_texts (λ (a : Site). turns entry t a.0)) (on_texts (λ (a : Site). turns (λ _. []) t a.1))

-- turns tell children apart: which child has a turn can be told from it
abbrev Undone : (ℕ → ℕ) → Type 0
Undone f = (g : ℕ → ℕ) × ((i : ℕ) → g (f i) ≡ i)

others_stay : (i : ℕ) → (i ≡ 1 → ⊥) → (i ≡ 2 → ⊥) → body_first i ≡ i
others_stay i m n = λ j. cond (ne_eqb i 1 m j) 2 (cond (ne_eqb i 2 n j) 1 i)

pub body_first_twice : (i : ℕ) → body_first (body_first i) ≡ i
body_first_twice zero = refl
body_first_twice (suc zero) = refl
body_first_twice (suc (suc zero)) = refl
body_first_twice (suc (suc (suc i))) = let stays = others_stay (suc (suc (suc i))) (λ e. omega arith) (λ e. omega arith) in ap body_first stays ∙ stays

abbrev key_last : ℕ → ℕ → ℕ
key_last n zero = n
key_last n (suc zero) = 0
key_last n (suc (suc i)) = i

key_undone : (n i : ℕ) → key_last n (cond (n == i) 0 (i + 2)) ≡ i
key_undone n i = at (n == i) refl
  where
    at : (b : Bool) → (n == i) ≡ b → key_last n (cond b 0 (i + 2)) ≡ i
    at true e = eqb-true n i e
    at false e = let two : i + 2 ≡ suc (suc i) = omega arith in ap (key_last n) two

by_key : (o : Option ℕ) → Undone (λ i. cond (is_some o) (cond (is_at o i) 0 (i + 2)) i)
by_key None = ((λ i. i), (λ i. refl))
by_key (Some n) = (key_last n, key_undone n)

undone : (k : Kind) → Undone (turn_in k)
undone kind.CatchClause = (body_first, body_first_twice)
undone k = by_key (key_field k)

apart : (f : ℕ → ℕ) → Undone f → (i j : ℕ) → f i ≡ f j → i ≡ j
apart f (g, h) i j e = sym (h i) ∙ ap g e ∙ h j

pub turns_apart : (y : Node-F Node) (i j : ℕ) → turn y i ≡ turn y j → i ≡ j
turns_apart (Node-F.Tree k ts) i j e = apart (turn_in k) (undone k) i j e
turns_apart Node-F.Absent i j e = e
turns_apart (Node-F.Flag x) i j e = e
turns_apart (Node-F.Word x) i j e = e
turns_apart (Node-F.Text x) i j e = e
turns_apart (Node-F.Span x) i j e = e
turns_apart (Node-F.List ts) i j e = e
turns_apart (Node-F.Identifier k x) i j e = e

-- so two paths to something with the same turns are one
abbrev binding_turns : Node → Path → List ℕ
binding_turns t p = turns (λ _. []) t p

first_of : (x y : ℕ) (xs ys : List ℕ) → (x ∷ xs) ≡ (y ∷ ys) → x ≡ y
first_of x y xs ys e = cc

rest_of : (x y : ℕ) (xs ys : List ℕ) → (x ∷ xs) ≡ (y ∷ ys) → xs ≡ ys
rest_of x y xs ys e = cc

abbrev Reaches : Place → Node → Path → Type 0
Reaches w t p = (z : Place × Node) × (place_at w t p ≡ Some z)

some_same : {A : Type 0} {a b : A} → Some a ≡ Some b → a ≡ b
some_same h = cc

one_path : (p q : Path) (w : Place) (t : Node) → Reaches w t p → Reaches w t q → binding_turns t p ≡ binding_turns t q → p ≡ q
one_path [] [] w t a b e = refl
one_path [] (j ∷ q) w t a b e = absurd (cc)
one_path (i ∷ p) [] w t a b e = absurd (cc)
one_path (i ∷ p) (j ∷ q) w t a b e = at (child t i) refl a.1 (child t j) refl b.1 (turns_apart (out-Node t) i j (first_of _ _ _ _ e)) (rest_of _ _ _ _ e) (λ c v. one_path p q v c)
  where
    at : (o : Option Node) → child t i ≡ o → given o None (λ c. place_at (place_below w t i) c p) ≡ Some a.0 → (u : Option Node) → child t j ≡ u → given u None (λ c. place_at (place_below w t j) c q) ≡ Some b.0 → i ≡ j
        → given (child t i) [] (λ c. binding_turns c p) ≡ given (child t j) [] (λ c. binding_turns c q)
        → ((c : Node) (v : Place) → Reaches v c p → Reaches v c q → binding_turns c p ≡ binding_turns c q → p ≡ q) → (i ∷ p) ≡ (j ∷ q)
    at None s g u r h n l more = absurd (cc)
    at (Some c) s g None r h n l more = absurd (cc)
    at (Some c) s g (Some d) r h n l more =
        let one : c ≡ d = some_same (sym s ∙ ap (child t) n ∙ r) in
        let there : given (Some d) None (λ c. place_at (place_below w t i) c q) ≡ Some b.0 = ap (λ k. place_at (place_below w t k) d q) n ∙ h in
        let turned : binding_turns c p ≡ binding_turns d q = sym (ap (λ o. given o [] (λ c. binding_turns c p)) s) ∙ l ∙ ap (λ o. given o [] (λ c. binding_turns c q)) r in
        let below : p ≡ q = more c (place_below w t i) (a.0, g) (b.0, ap (λ c. place_at (place_below w t i) c q) one ∙ there) (turned ∙ ap (λ c. binding_turns c q) (sym one)) in
        λ k. n k ∷ below k

abbrev stands_named : Place × Node → Option (Standing × Id)
stands_named q = option_map (λ i. (q.0.standing, (i.sym, i.ctxt))) (name_in (out-Node q.1))

id_reaches : (t : Node) (p : Path) (r : Standing) (x : Id) → id_at t p ≡ Some (r, x) → Reaches program_place t p
id_reaches t p r x h = at (place_at program_place t p) refl h
  where
    at : (o : Option (Place × Node)) → place_at program_place t p ≡ o → option_and_then stands_named o ≡ Some (r, x) → Reaches program_place t p
    at None s g = absurd (cc)
    at (Some z) s g = (z, s)

-- level sites
pub level_lists : (xs ys : List ℕ) → slice_cmp nat_cmp xs ys ≡ Equal → xs ≡ ys
level_lists xs ys h = (bytes_decides xs ys).0 (sym (is_eq-slice_cmp xs ys) ∙ ap is_eq h)

second_level : (a b : Ordering) → ordering_then a b ≡ Equal → b ≡ Equal
second_level Less b h = absurd (cc)
second_level Equal b h = h
second_level Greater b h = absurd (cc)

none_level : (t : Node) (a b : Site) (x y : Id) → Declares t a.0 a.1 x → Declares t b.0 b.1 y → site_cmp t a b ≡ Equal → a ≡ b
none_level t a b x y d e level =
    let path : a.1 ≡ b.1 = one_path a.1 b.1 program_place t (id_reaches t a.1 d.standing x d.stands) (id_reaches t b.1 e.standing y e.stands) (level_lists _ _ (second_level _ _ level)) in
    let same : (d.standing, x) ≡ (e.standing, y) = some_same (sym d.stands ∙ ap (id_at t) path ∙ e.stands) in
    let scope : a.0 ≡ b.0 = some_same (sym d.taken ∙ (λ j. first_taking (same j).0 (scopes_round t (path j))) ∙ e.taken) in
    λ j. (scope j, path j)

pub each_in_order : EachTreesSitesAreInOrder
each_in_order t = record { total = sites_total t; none_level = none_level t }
