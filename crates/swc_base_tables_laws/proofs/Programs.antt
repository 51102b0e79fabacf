-- Programs by their statements: one is inside another of its kind and strictness whose list has its statements, in their order and
-- with others among them.
use Rattle.std.proofs.Common.{◌≡◌, ℕ, zero, suc, Bool, true, false, IsTrue, ◌⊎◌, Option, Some, None, List, [], ◌∷◌, ◌++◌, map, refl, sym, ap, ◌∙◌, subst}
use Rattle.std.specs.List.{slice_get}
use Rattle.swc_tree_marks.specs.declared.ident.Ident.{Ident}
use Rattle.swc_tree_node.specs.declared.kind.Kind.{Kind}
use Rattle.swc_tree_node.specs.declared.kind.Kind.TheVariants as kind
use Rattle.swc_tree_node.specs.declared.node.Node.{Node, List as Many, Identifier, Tree, out-Node}
use Rattle.swc_tree_node.specs.declared.node.Node.TheOpen.{Node-F}
use Rattle.swc_tree_node.specs.declared.node.Node.TheVariants.{outs-Identifier, outs-List, outs-Tree}
use Rattle.swc_tree_scoping.specs.declared.places.Standing.TheVariants as standing
use Rattle.swc_tree_scoping.specs.declared.places.Place.{Place}
use Rattle.swc_tree_scoping.specs.Places.{Path, children_in, child, has_use_strict, items_in, opened_in, place_at, place_below, place_in, program_place}
use Rattle.swc_tree_scoping.specs.Scopes.{Round, rounds, seen_as, view_in}
use Rattle.swc_tree_scoping.specs.WellScoped.{is_module}
use Rattle.swc_tree_scoping.proofs.Under.{lower, no_place_under, place_under, rounds_under}
use Rattle.swc_tree_renaming.proofs.Whole.{ProgramLayer, module_layer}
use Rattle.swc_base_tables_injection.specs.Alone.{is_strict_program}
use Rattle.swc_base_tables_laws.proofs.Declarers.{some_same}

-- the kinds of programs
abbrev pub is_goal_kind : Kind → Bool
is_goal_kind kind.Module = true
is_goal_kind kind.Script = true
is_goal_kind _ = false

-- a program by its kind, its span, its statements and what else it has
abbrev pub program_of : Kind → Node → List Node → Node → Node
program_of k a body z = Tree k (a ∷ Many body ∷ z ∷ [])

-- whether its statements are strict code
abbrev pub code_of : Kind → List Node → Bool
code_of kind.Script body = has_use_strict body
code_of _ body = true

-- no identifier stands in the node
abbrev pub HasNoNames : Node → Type 0
HasNoNames c = (p : Path) (w v : Place) (k : Kind) (i : Ident) → place_at w c p ≡ Some (v, Identifier k i) → ⊥

-- the place of a program's statements
abbrev pub item_place : Bool → Place
item_place strict = record { standing = standing.Plain; strict = strict; nested = false }

pub layer_is : (k : Kind) (a z : Node) (body : List Node) → out-Node (program_of k a body z) ≡ Node-F.Tree k (a ∷ Many body ∷ z ∷ [])
layer_is k a z body = outs-Tree k (a ∷ Many body ∷ z ∷ [])

pub child_is : (k : Kind) (a z : Node) (body : List Node) (i : ℕ) → child (program_of k a body z) i ≡ slice_get (a ∷ Many body ∷ z ∷ []) i
child_is k a z body i = ap (λ y. slice_get (children_in y) i) (layer_is k a z body)

list_in : (k : Kind) (a z : Node) (body : List Node) → IsTrue (is_goal_kind k) → place_in program_place (Node-F.Tree k (a ∷ Many body ∷ z ∷ [])) 1 ≡ item_place (code_of k body)
list_in kind.Module a z body g = refl
list_in kind.Script a z body g = ap (λ y. item_place (has_use_strict (items_in y))) (outs-List body)
list_in _ a z body g = absurd (cc)

seen_in : (k : Kind) (ts : List Node) → IsTrue (is_goal_kind k) → seen_as (opened_in program_place (Node-F.Tree k ts)) (view_in (Node-F.Tree k ts) 1) ≡ ([], true) ∷ []
seen_in kind.Module ts g = refl
seen_in kind.Script ts g = refl
seen_in _ ts g = absurd (cc)

items_place : (b : Bool) (body : List Node) (j : ℕ) → place_below (item_place b) (Many body) j ≡ item_place b
items_place b body j = ap (λ y. place_in (item_place b) y j) (outs-List body)

item_is : (body : List Node) (j : ℕ) → child (Many body) j ≡ slice_get body j
item_is body j = ap (λ y. slice_get (children_in y) j) (outs-List body)

-- it is a program
pub program_layer_is : (k : Kind) → IsTrue (is_goal_kind k) → (a z : Node) (body : List Node) → ProgramLayer (program_of k a body z)
program_layer_is kind.Module g a z body = (kind.Module, a ∷ Many body ∷ z ∷ [], layer_is kind.Module a z body, refl)
program_layer_is kind.Script g a z body = (kind.Script, a ∷ Many body ∷ z ∷ [], layer_is kind.Script a z body, refl)
program_layer_is _ g a z body = absurd (cc)

pub one_goal : (k : Kind) (a z b y : Node) (xs ys : List Node) → IsTrue (is_module (program_of k a xs z)) → IsTrue (is_module (program_of k b ys y))
one_goal k a z b y xs ys h =
    let (ts, o) = module_layer (program_of k a xs z) h in
    let layers : Node-F.Tree k (a ∷ Many xs ∷ z ∷ []) ≡ Node-F.Tree kind.Module ts = sym (layer_is k a z xs) ∙ o in
    let same : k ≡ kind.Module = cc in
    subst (λ k. IsTrue (is_module (program_of k b ys y))) (sym same) (rw (layer_is kind.Module b y ys) refl)

-- the scopes round what stands in a statement
abbrev pub of_item : ℕ → List Round → List Round
of_item j [] = ([], true) ∷ []
of_item j (s ∷ ss) = (1 ∷ j ∷ s.0, s.1) ∷ of_item j ss

lowered : (j : ℕ) (ss : List Round) → map (lower 1) (map (lower j) ss ++ []) ++ (([], true) ∷ []) ≡ of_item j ss
lowered j [] = refl
lowered j (s ∷ ss) = ap (λ l. (1 ∷ j ∷ s.0, s.1) ∷ l) (lowered j ss)

-- the paths of statements that get other numbers
abbrev pub shifted : (ℕ → ℕ) → Path → Path
shifted h (suc zero ∷ j ∷ q) = 1 ∷ h j ∷ q
shifted h p = p

-- the statements of one list in another; only what has no names may be left out
pub record Kept (xs zs : List Node) (h : ℕ → ℕ) (Real : ℕ → Type 0) : Type 0 where
  pub same : (j : ℕ) (c : Node) → Real j → slice_get xs j ≡ Some c → slice_get zs (h j) ≡ Some c
  pub named : (j : ℕ) (c : Node) → slice_get xs j ≡ Some c → Real j ⊎ HasNoNames c
  pub apart : (i j : ℕ) → Real i → Real j → h i ≡ h j → i ≡ j

abbrev pub Item : List Node → (ℕ → Type 0) → Path → Type 0
Item xs Real p = (j : ℕ) × (q : Path) × (c : Node) × (p ≡ 1 ∷ j ∷ q) × Real j × (slice_get xs j ≡ Some c)

abbrev pub In : List Node → (ℕ → Type 0) → Path → Type 0
In xs Real p = (p ≡ []) ⊎ Item xs Real p

abbrev pub NameIn : Bool → List Node → Path → Place → Kind → Ident → Type 0
NameIn b xs p w k i = (j : ℕ) × (q : Path) × (c : Node) × (p ≡ 1 ∷ j ∷ q) × (slice_get xs j ≡ Some c) × (place_at (item_place b) c q ≡ Some (w, Identifier k i))

nothing : {A : Type 0} (o : Option (Place × Node)) (w : Place) (n : Node) → o ≡ None → o ≡ Some (w, n) → A
nothing o w n e h = let z : ◌≡◌ {A = Option (Place × Node)} (Some (w, n)) None = sym h ∙ e in absurd (cc)

no_tree : {A : Type 0} (w v : Place) (t : Node) (y : Node-F Node) (k : Kind) (i : Ident) → out-Node t ≡ y → (y ≡ Node-F.Identifier k i → ⊥) → ◌≡◌ {A = Option (Place × Node)} (Some (w, t)) (Some (v, Identifier k i)) → A
no_tree w v t y k i o h e = absurd (h (sym o ∙ ap (λ (q : Place × Node). out-Node q.1) (some_same (w, t) (v, Identifier k i) e) ∙ outs-Identifier k i))

module _ (k : Kind) (g : IsTrue (is_goal_kind k)) where
  list_place : (a z : Node) (body : List Node) → place_below program_place (program_of k a body z) 1 ≡ item_place (code_of k body)
  list_place a z body = ap (λ y. place_in program_place y 1) (layer_is k a z body) ∙ list_in k a z body g

  pub strict_code : (a z : Node) (body : List Node) → is_strict_program (program_of k a body z) ≡ code_of k body
  strict_code a z body = ap (λ (w : Place). w.strict) (list_place a z body)

  -- what stands in a statement
  pub place_of_item : (a z : Node) (body : List Node) (j : ℕ) (c : Node) (q : Path) → slice_get body j ≡ Some c → place_at program_place (program_of k a body z) (1 ∷ j ∷ q) ≡ place_at (item_place (code_of k body)) c q
  place_of_item a z body j c q e =
      place_under program_place (program_of k a body z) (Many body) 1 (j ∷ q) (child_is k a z body 1)
      ∙ ap (λ w. place_at w (Many body) (j ∷ q)) (list_place a z body)
      ∙ place_under (item_place (code_of k body)) (Many body) c j q (item_is body j ∙ e)
      ∙ ap (λ w. place_at w c q) (items_place (code_of k body) body j)

  -- and the scopes round it
  pub rounds_of_item : (a z : Node) (body : List Node) (j : ℕ) (c : Node) (q : Path) → slice_get body j ≡ Some c → rounds program_place (program_of k a body z) (1 ∷ j ∷ q) ≡ of_item j (rounds (item_place (code_of k body)) c q)
  rounds_of_item a z body j c q e =
      rounds_under program_place (program_of k a body z) (Many body) 1 (j ∷ q) (child_is k a z body 1)
      ∙ ap (λ y. map (lower 1) (rounds (place_below program_place (program_of k a body z) 1) (Many body) (j ∷ q)) ++ seen_as (opened_in program_place y) (view_in y 1)) (layer_is k a z body)
      ∙ ap (λ l. map (lower 1) (rounds (place_below program_place (program_of k a body z) 1) (Many body) (j ∷ q)) ++ l) (seen_in k (a ∷ Many body ∷ z ∷ []) g)
      ∙ ap (λ w. map (lower 1) (rounds w (Many body) (j ∷ q)) ++ (([], true) ∷ [])) (list_place a z body)
      ∙ ap (λ l. map (lower 1) l ++ (([], true) ∷ [])) (rounds_under (item_place (code_of k body)) (Many body) c j q (item_is body j ∙ e)
      ∙ ap (λ y. map (lower j) (rounds (place_below (item_place (code_of k body)) (Many body) j) c q) ++ seen_as (opened_in (item_place (code_of k body)) y) (view_in y j)) (outs-List body)
      ∙ ap (λ w. map (lower j) (rounds w c q) ++ []) (items_place (code_of k body) body j))
      ∙ lowered j (rounds (item_place (code_of k body)) c q)

  -- each name of a program stands in a statement
  pub name_in : (a z : Node) (xs : List Node) → HasNoNames a → HasNoNames z → (p : Path) (w : Place) (l : Kind) (i : Ident) → place_at program_place (program_of k a xs z) p ≡ Some (w, Identifier l i) → NameIn (code_of k xs) xs p w l i
  name_in a z xs na nz [] w l i e = no_tree program_place w (program_of k a xs z) (Node-F.Tree k (a ∷ Many xs ∷ z ∷ [])) l i (layer_is k a z xs) (λ h. absurd (cc)) e
  name_in a z xs na nz (zero ∷ p) w l i e = absurd (na p (place_below program_place (program_of k a xs z) 0) w l i (sym (place_under program_place (program_of k a xs z) a 0 p (child_is k a z xs 0)) ∙ e))
  name_in a z xs na nz (suc zero ∷ []) w l i e =
      no_tree (place_below program_place (program_of k a xs z) 1) w (Many xs) (Node-F.List xs) l i (outs-List xs) (λ h. absurd (cc)) (sym (place_under program_place (program_of k a xs z) (Many xs) 1 [] (child_is k a z xs 1)) ∙ e)
  name_in a z xs na nz (suc zero ∷ j ∷ q) w l i e = at (slice_get xs j) refl
    where
      at : (o : Option Node) → slice_get xs j ≡ o → NameIn (code_of k xs) xs (1 ∷ j ∷ q) w l i
      at None o = nothing (place_at program_place (program_of k a xs z) (1 ∷ j ∷ q)) w (Identifier l i)
          (place_under program_place (program_of k a xs z) (Many xs) 1 (j ∷ q) (child_is k a z xs 1) ∙ no_place_under (place_below program_place (program_of k a xs z) 1) (Many xs) j q (item_is xs j ∙ o)) e
      at (Some c) o = (j, q, c, refl, o, sym (place_of_item a z xs j c q o) ∙ e)
  name_in a z xs na nz (suc (suc zero) ∷ p) w l i e = absurd (nz p (place_below program_place (program_of k a xs z) 2) w l i (sym (place_under program_place (program_of k a xs z) z 2 p (child_is k a z xs 2)) ∙ e))
  name_in a z xs na nz (suc (suc (suc n)) ∷ p) w l i e =
      nothing (place_at program_place (program_of k a xs z) (suc (suc (suc n)) ∷ p)) w (Identifier l i) (no_place_under program_place (program_of k a xs z) (suc (suc (suc n))) p (child_is k a z xs (suc (suc (suc n))))) e
