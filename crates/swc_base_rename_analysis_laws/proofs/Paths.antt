-- A path that goes on from where another ends: what stands there, the scopes round it and the turns on the way to it.
use Rattle.std.proofs.Common.{◌≡◌, ◌↔◌, ℕ, ◌<◌, Bool, false, ◌⊎◌, inl, inr, Option, Some, None, List, [], ◌∷◌, ◌++◌, map, refl, sym, ap, ◌∙◌, arith, Less, Equal, Greater, Ordering, nat_cmp}
use Rattle.std.specs.Ordering.{MatchOrdering, ordering_then}
use Rattle.std.specs.Cmp.{ranks}
use Rattle.std.specs.Cmp.Lexicographic.{slice_cmp}
use Rattle.swc_tree_node.specs.declared.kind.Kind.{Kind}
use Rattle.swc_tree_node.specs.declared.slot.Role.TheVariants as role
use Rattle.swc_tree_node.specs.declared.node.Node.{Node, Tree, out-Node, roll-Node, roll-out-Node}
use Rattle.swc_tree_node.specs.declared.node.Node.TheOpen.{Node-F}
use Rattle.swc_tree_node.specs.declared.node.Node.TheVariants.{outs-Tree}
use Rattle.swc_tree_scoping.specs.declared.places.Place.{Place}
use Rattle.swc_tree_scoping.specs.Places.{Path, child, field_role, given, place_at, place_below, program_place}
use Rattle.swc_tree_scoping.specs.WellScoped.{InExportList}
use Rattle.swc_base_rename_analysis.specs.Analysis.{Around, is_for_body, opened_round, scopes_below}
use Rattle.swc_base_rename_analysis.specs.Laws.{is_body_at}
use Rattle.swc_base_rename_analysis.specs.Order.{turn, turns}
use Rattle.swc_base_rename_analysis_laws.proofs.Marked.{below}

some_same : {A : Type 0} {a b : A} → Some a ≡ Some b → a ≡ b
some_same h = cc

-- the node at a path
abbrev pub IsAt : Place → Node → Path → Place → Node → Type 0
IsAt v t h w n = place_at v t h ≡ Some (w, n)

-- what stands further down, from the node at a path
pub place_on : (h q : Path) (v : Place) (t : Node) (w : Place) (n : Node) → IsAt v t h w n → place_at v t (h ++ q) ≡ place_at w n q
place_on [] q v t w n e = ap (λ z. place_at z.0 z.1 q) (some_same e)
place_on (i ∷ h) q v t w n e = at (child t i) refl e (λ c. place_on h q (place_below v t i) c w n)
  where
    at : (o : Option Node) → child t i ≡ o → given o None (λ c. place_at (place_below v t i) c h) ≡ Some (w, n)
        → ((c : Node) → IsAt (place_below v t i) c h w n → place_at (place_below v t i) c (h ++ q) ≡ place_at w n q) → place_at v t (i ∷ (h ++ q)) ≡ place_at w n q
    at None s e more = absurd (cc)
    at (Some c) s e more = ap (λ o. given o None (λ c. place_at (place_below v t i) c (h ++ q))) s ∙ more c e

pub place_below_at : (h : Path) (i : ℕ) (v : Place) (t : Node) (w : Place) (n c : Node) → IsAt v t h w n → child n i ≡ Some c → IsAt v t (below h i) (place_below w n i) c
place_below_at h i v t w n c e s = place_on h (i ∷ []) v t w n e ∙ ap (λ o. given o None (λ c. place_at (place_below w n i) c [])) s

-- whether the body of a `for` stands there
pub body_on : (h q : Path) (f : Bool) (v : Place) (t : Node) (w : Place) (n : Node) → IsAt v t h w n → is_body_at f t (h ++ q) ≡ is_body_at (is_body_at f t h) n q
body_on [] q f v t w n e = ap (λ z. is_body_at f z.1 q) (some_same e)
body_on (i ∷ h) q f v t w n e = at (child t i) refl e (λ c. body_on h q (is_for_body (out-Node t) i) (place_below v t i) c w n)
  where
    at : (o : Option Node) → child t i ≡ o → given o None (λ c. place_at (place_below v t i) c h) ≡ Some (w, n)
        → ((c : Node) → IsAt (place_below v t i) c h w n → is_body_at (is_for_body (out-Node t) i) c (h ++ q) ≡ is_body_at (is_body_at (is_for_body (out-Node t) i) c h) n q)
        → is_body_at f t (i ∷ (h ++ q)) ≡ is_body_at (is_body_at f t (i ∷ h)) n q
    at None s e more = absurd (cc)
    at (Some c) s e more =
        ap (λ o. given o false (λ c. is_body_at (is_for_body (out-Node t) i) c (h ++ q))) s
        ∙ more c e
        ∙ sym (ap (λ o. is_body_at (given o false (λ c. is_body_at (is_for_body (out-Node t) i) c h)) n q) s)

pub body_below : (h : Path) (i : ℕ) (f : Bool) (v : Place) (t : Node) (w : Place) (n c : Node) → IsAt v t h w n → child n i ≡ Some c → is_body_at f t (below h i) ≡ is_for_body (out-Node n) i
body_below h i f v t w n c e s = body_on h (i ∷ []) f v t w n e ∙ ap (λ o. given o false (λ c. is_body_at (is_for_body (out-Node n) i) c [])) s

-- the scopes round it: those below the path, each from there, and then those round the path
abbrev pub onto : Path → Around → Around
onto h s = (h ++ s.0, s.1)

map_same : (xs : List Around) → map (onto []) xs ≡ xs
map_same [] = refl
map_same (x ∷ xs) = ap (λ ys. x ∷ ys) (map_same xs)

nothing_after : {X : Type 0} (xs : List X) → xs ++ [] ≡ xs
nothing_after [] = refl
nothing_after (x ∷ xs) = ap (λ ys. x ∷ ys) (nothing_after xs)

regrouped : {X : Type 0} (xs ys zs : List X) → (xs ++ ys) ++ zs ≡ xs ++ (ys ++ zs)
regrouped [] ys zs = refl
regrouped (x ∷ xs) ys zs = ap (λ l. x ∷ l) (regrouped xs ys zs)

map_apart : {X Y : Type 0} (f : X → Y) (xs ys : List X) → map f (xs ++ ys) ≡ map f xs ++ map f ys
map_apart f [] ys = refl
map_apart f (x ∷ xs) ys = ap (λ l. f x ∷ l) (map_apart f xs ys)

map_twice : (i : ℕ) (h : Path) (xs : List Around) → map (onto (i ∷ [])) (map (onto h) xs) ≡ map (onto (i ∷ h)) xs
map_twice i h [] = refl
map_twice i h (x ∷ xs) = ap (λ l. (i ∷ (h ++ x.0), x.1) ∷ l) (map_twice i h xs)

pub scopes_on : (h q : Path) (f : Bool) (v : Place) (t : Node) (w : Place) (n : Node) → IsAt v t h w n
    → scopes_below f v t (h ++ q) ≡ map (onto h) (scopes_below (is_body_at f t h) w n q) ++ scopes_below f v t h
scopes_on [] q f v t w n e = ap (λ z. scopes_below f z.0 z.1 q) (some_same e) ∙ sym (map_same (scopes_below f w n q)) ∙ sym (nothing_after (map (onto []) (scopes_below f w n q)))
scopes_on (i ∷ h) q f v t w n e = at (child t i) refl e (λ c. scopes_on h q (is_for_body (out-Node t) i) (place_below v t i) c w n)
  where
    at : (o : Option Node) → child t i ≡ o → given o None (λ c. place_at (place_below v t i) c h) ≡ Some (w, n)
        → ((c : Node) → IsAt (place_below v t i) c h w n
        → scopes_below (is_for_body (out-Node t) i) (place_below v t i) c (h ++ q) ≡ map (onto h) (scopes_below (is_body_at (is_for_body (out-Node t) i) c h) w n q) ++ scopes_below (is_for_body (out-Node t) i) (place_below v t i) c h)
        → scopes_below f v t (i ∷ (h ++ q)) ≡ map (onto (i ∷ h)) (scopes_below (is_body_at f t (i ∷ h)) w n q) ++ scopes_below f v t (i ∷ h)
    at None s e more = absurd (cc)
    at (Some c) s e more =
        ap (λ o. map (onto (i ∷ [])) (given o [] (λ c. scopes_below (is_for_body (out-Node t) i) (place_below v t i) c (h ++ q))) ++ opened_round f v (out-Node t) i) s
        ∙ ap (λ l. map (onto (i ∷ [])) l ++ opened_round f v (out-Node t) i) (more c e)
        ∙ ap (λ l. l ++ opened_round f v (out-Node t) i) (map_apart (onto (i ∷ [])) lower upper)
        ∙ ap (λ l. (l ++ map (onto (i ∷ [])) upper) ++ opened_round f v (out-Node t) i) (map_twice i h (scopes_below (is_body_at (is_for_body (out-Node t) i) c h) w n q))
        ∙ regrouped (map (onto (i ∷ h)) (scopes_below (is_body_at (is_for_body (out-Node t) i) c h) w n q)) (map (onto (i ∷ [])) upper) (opened_round f v (out-Node t) i)
        ∙ sym (ap (λ o. map (onto (i ∷ h)) (scopes_below (given o false (λ c. is_body_at (is_for_body (out-Node t) i) c h)) w n q)
        ++ (map (onto (i ∷ [])) (given o [] (λ c. scopes_below (is_for_body (out-Node t) i) (place_below v t i) c h)) ++ opened_round f v (out-Node t) i)) s)
      where
        lower : List Around
        lower = map (onto h) (scopes_below (is_body_at (is_for_body (out-Node t) i) c h) w n q)

        upper : List Around
        upper = scopes_below (is_for_body (out-Node t) i) (place_below v t i) c h

-- the scope that the node at a path opens round a child
abbrev pub opened_at : Path → List Around → List Around
opened_at h l = map (onto h) l

nothing_below : (o : Option Node) (f : Bool) (v : Place) → given o [] (λ c. scopes_below f v c []) ≡ []
nothing_below None f v = refl
nothing_below (Some c) f v = refl

pub scopes_step : (h : Path) (i : ℕ) (f : Bool) (v : Place) (t : Node) (w : Place) (n : Node) → IsAt v t h w n
    → scopes_below f v t (below h i) ≡ opened_at h (opened_round (is_body_at f t h) w (out-Node n) i) ++ scopes_below f v t h
scopes_step h i f v t w n e =
    scopes_on h (i ∷ []) f v t w n e
    ∙ ap (λ l. map (onto h) (map (onto (i ∷ [])) l ++ opened_round (is_body_at f t h) w (out-Node n) i) ++ scopes_below f v t h) (nothing_below (child n i) (is_for_body (out-Node n) i) (place_below w n i))

-- the turns on the way to it
abbrev pub steps : Node → Path → List ℕ
steps t p = turns (λ _. []) t p

pub turns_on : (end : Node-F Node → List ℕ) (h q : Path) (v : Place) (t : Node) (w : Place) (n : Node) → IsAt v t h w n → turns end t (h ++ q) ≡ steps t h ++ turns end n q
turns_on end [] q v t w n e = ap (λ z. turns end z.1 q) (some_same e)
turns_on end (i ∷ h) q v t w n e = at (child t i) refl e (λ c. turns_on end h q (place_below v t i) c w n)
  where
    at : (o : Option Node) → child t i ≡ o → given o None (λ c. place_at (place_below v t i) c h) ≡ Some (w, n)
        → ((c : Node) → IsAt (place_below v t i) c h w n → turns end c (h ++ q) ≡ steps c h ++ turns end n q) → turns end t (i ∷ (h ++ q)) ≡ steps t (i ∷ h) ++ turns end n q
    at None s e more = absurd (cc)
    at (Some c) s e more =
        ap (λ o. turn (out-Node t) i ∷ given o [] (λ c. turns end c (h ++ q))) s
        ∙ ap (λ l. turn (out-Node t) i ∷ l) (more c e)
        ∙ sym (ap (λ o. (turn (out-Node t) i ∷ given o [] (λ c. steps c h)) ++ turns end n q) s)

-- the order of two lists is that of what follows where they part
pub same_number : (n : ℕ) → nat_cmp n n ≡ Equal
same_number n = by (nat_cmp n n) (ranks n n)
  where
    by : (o : Ordering) → MatchOrdering o (n < n) (n ≡ n) (n < n) → o ≡ Equal
    by Less r = absurd (omega (arith, r))
    by Equal r = refl
    by Greater r = absurd (omega (arith, r))

pub less_number : (m n : ℕ) → m < n → nat_cmp m n ≡ Less
less_number m n l = by (nat_cmp m n) (ranks m n)
  where
    by : (o : Ordering) → MatchOrdering o (m < n) (m ≡ n) (n < m) → o ≡ Less
    by Less r = refl
    by Equal r = absurd (omega (arith, r, l))
    by Greater r = absurd (omega (arith, r, l))

pub same_start : (xs ys zs : List ℕ) → slice_cmp nat_cmp (xs ++ ys) (xs ++ zs) ≡ slice_cmp nat_cmp ys zs
same_start [] ys zs = refl
same_start (x ∷ xs) ys zs = ap (λ o. ordering_then o (slice_cmp nat_cmp (xs ++ ys) (xs ++ zs))) (same_number x) ∙ same_start xs ys zs

pub turns_compare : (end : Node-F Node → List ℕ) (h p q : Path) (v : Place) (t : Node) (w : Place) (n : Node) → IsAt v t h w n
    → slice_cmp nat_cmp (turns end t (h ++ p)) (turns end t (h ++ q)) ≡ slice_cmp nat_cmp (turns end n p) (turns end n q)
turns_compare end h p q v t w n e = (λ j. slice_cmp nat_cmp (turns_on end h p v t w n e j) (turns_on end h q v t w n e j)) ∙ same_start (steps t h) (turns end n p) (turns end n q)

-- of two that part at children of one node, the one whose child has the earlier turn comes first
pub turns_part : (end : Node-F Node → List ℕ) (h : Path) (i j : ℕ) (p q : Path) (v : Place) (t : Node) (w : Place) (n : Node) → IsAt v t h w n → turn (out-Node n) i < turn (out-Node n) j
    → slice_cmp nat_cmp (turns end t (h ++ (i ∷ p))) (turns end t (h ++ (j ∷ q))) ≡ Less
turns_part end h i j p q v t w n e less =
    turns_compare end h (i ∷ p) (j ∷ q) v t w n e
    ∙ ap (λ o. ordering_then o (slice_cmp nat_cmp (given (child n i) [] (λ c. turns end c p)) (given (child n j) [] (λ c. turns end c q)))) (less_number (turn (out-Node n) i) (turn (out-Node n) j) less)

-- in an export list
abbrev Parts : Path → ℕ → Path → Path → ℕ → Type 0
Parts q j p h i = ((q ≡ h) × (j ≡ i)) ⊎ ((rest : Path) × (h ≡ q ++ (j ∷ rest)))

parted : (q : Path) (j : ℕ) (p h : Path) (i : ℕ) → below h i ≡ q ++ (j ∷ p) → Parts q j p h i
parted [] j p [] i e = inl (refl, cc)
parted [] j p (k ∷ h) i e = inr (h, (let same : k ≡ j = cc in ap (λ k. k ∷ h) same))
parted (l ∷ []) j p [] i e = absurd (cc)
parted (l ∷ m ∷ q) j p [] i e = absurd (cc)
parted (l ∷ q) j p (k ∷ h) i e = by (parted q j p h i (cc))
  where
    head : k ≡ l
    head = cc

    by : Parts q j p h i → Parts (l ∷ q) j p (k ∷ h) i
    by (inl (same, number)) = inl ((λ a. sym head a ∷ same a), number)
    by (inr (rest, same)) = inr (rest, (λ a. head a ∷ same a))

tree_there : {a b : Place × Node} → Some a ≡ Some b → a.1 ≡ b.1
tree_there e = ap (λ z. z.1) (some_same e)

same_kind : {k l : Kind} {ts us : List Node} → Node-F.Tree k ts ≡ Node-F.Tree l us → k ≡ l
same_kind e = cc

one_kind : (k l : Kind) (ts us : List Node) (n : Node) → n ≡ Tree k ts → out-Node n ≡ Node-F.Tree l us → k ≡ l
one_kind k l ts us n e layer = same_kind (sym (outs-Tree k ts) ∙ sym (ap out-Node e) ∙ layer)

pub export_above : (t : Node) (h : Path) (i : ℕ) → InExportList t h → InExportList t (below h i)
export_above t h i (q, p, j, v, l, us, path, there, listed) = (q, below p i, j, v, l, us, ap (λ h. below h i) path ∙ regrouped q (j ∷ p) (i ∷ []), there, listed)

pub export_field : (t : Node) (h : Path) (i : ℕ) (w : Place) (n : Node) (k : Kind) (ts : List Node) → IsAt program_place t h w n → out-Node n ≡ Node-F.Tree k ts
    → InExportList t (below h i) ↔ (InExportList t h ⊎ (field_role k i ≡ role.ExportLocal))
export_field t h i w n k ts e layer = (down, up)
  where
    down : InExportList t (below h i) → InExportList t h ⊎ (field_role k i ≡ role.ExportLocal)
    down (q, p, j, v, l, us, path, there, listed) = by (parted q j p h i path)
      where
        by : Parts q j p h i → InExportList t h ⊎ (field_role k i ≡ role.ExportLocal)
        by (inl (here, number)) =
            let one : l ≡ k = one_kind l k us ts n (sym (tree_there {a = (v, Tree l us)} {b = (w, n)} (sym there ∙ ap (place_at program_place t) here ∙ e))) layer in
            inr (sym (λ a. field_role (one a) (number a)) ∙ listed)
        by (inr (rest, above)) = inl (q, rest, j, v, l, us, above, there, listed)

    up : InExportList t h ⊎ (field_role k i ≡ role.ExportLocal) → InExportList t (below h i)
    up (inl above) = export_above t h i above
    up (inr listed) = (h, [], i, w, k, ts, refl, e ∙ ap (λ n. Some (w, n)) tree, listed)
      where
        tree : n ≡ Tree k ts
        tree = sym (roll-out-Node n) ∙ ap roll-Node (layer ∙ sym (outs-Tree k ts)) ∙ roll-out-Node (Tree k ts)

pub export_item : (t : Node) (h : Path) (i : ℕ) (w : Place) (n : Node) (ts : List Node) → IsAt program_place t h w n → out-Node n ≡ Node-F.List ts → InExportList t (below h i) ↔ InExportList t h
export_item t h i w n ts e layer = (down, export_above t h i)
  where
    down : InExportList t (below h i) → InExportList t h
    down (q, p, j, v, l, us, path, there, listed) = by (parted q j p h i path)
      where
        by : Parts q j p h i → InExportList t h
        by (inl (here, number)) = no_tree l us (sym (outs-Tree l us) ∙ ap out-Node (tree_there {a = (v, Tree l us)} {b = (w, n)} (sym there ∙ ap (place_at program_place t) here ∙ e)) ∙ layer)
          where
            no_tree : (l : Kind) (us : List Node) → Node-F.Tree l us ≡ Node-F.List ts → InExportList t h
            no_tree l us e = absurd (cc)
        by (inr (rest, above)) = (q, rest, j, v, l, us, above, there, listed)
