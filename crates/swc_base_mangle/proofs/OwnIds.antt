-- Ids that stand in a tree, by its form.
use Rattle.std.proofs.Common.{◌≡◌, ℕ, Bool, true, false, ◌&&◌, ◌||◌, List, [], ◌∷◌, map, refl, sym, ap, ◌∙◌, rules}
use Rattle.std.specs.Prelude.{if◌then◌else◌}
use Rattle.std.specs.List.{list_any}
use Rattle.std.specs.Str.{bytes_eq}
use Rattle.std.proofs.lemmas.Bool.{and_parts}
use Rattle.std.proofs.lemmas.Slice.Eq.{bytes_eq-Decides}
use Rattle.swc_tree_marks.specs.declared.ident.Ident.{Ident}
use Rattle.swc_tree_node.specs.declared.kind.Kind.{Kind}
use Rattle.swc_tree_node.specs.declared.node.Node.{Node, List as Many, Identifier, Tree, the_lemmas}
use Rattle.swc_tree_node.specs.declared.node.Node.TheOpen.{Node-F}
use Rattle.swc_tree_node.specs.Parts.{may_hold_names}
use Rattle.swc_tree_node.proofs.Leaves.{Nameless, without_names}
use Rattle.swc_tree_scoping.specs.BoundNames.{Id, same_id}
use Rattle.swc_base_mangle.specs.Own.{is_own, stands_in, stands_step}

any_mapped : (x : Id) (ts : List Node) → list_any (λ b. b) (map (stands_in x) ts) ≡ list_any (stands_in x) ts
any_mapped x [] = refl
any_mapped x (t ∷ ts) = ap (λ b. stands_in x t || b) (any_mapped x ts)

any_both : (b : Bool) (x : Id) (ts : List Node) → (b && list_any (stands_in x) ts) ≡ list_any (λ t. b && stands_in x t) ts
any_both true x ts = refl
any_both false x [] = refl
any_both false x (t ∷ ts) = any_both false x ts

step_of_tree : (x : Id) (k : Kind) (ts : List Node) → stands_in x (Tree k ts) ≡ stands_step x (Node-F.Tree k (map (stands_in x) ts))
step_of_tree x k ts = search (rules, the_lemmas)

step_of_list : (x : Id) (ts : List Node) → stands_in x (Many ts) ≡ stands_step x (Node-F.List (map (stands_in x) ts))
step_of_list x ts = search (rules, the_lemmas)

step_of_identifier : (x : Id) (k : Kind) (i : Ident) → stands_in x (Identifier k i) ≡ same_id (i.sym, i.ctxt) x
step_of_identifier x k i = search (rules, the_lemmas)

pub own_of_tree : (top : ℕ) (x : Id) (k : Kind) (ts : List Node) → is_own top (Tree k ts) x ≡ list_any (λ t. is_own top t x) ts
own_of_tree top x k ts = ap (λ b. bytes_eq x.1 (top ∷ []) && b) (step_of_tree x k ts ∙ any_mapped x ts) ∙ any_both (bytes_eq x.1 (top ∷ [])) x ts

pub own_of_list : (top : ℕ) (x : Id) (ts : List Node) → is_own top (Many ts) x ≡ list_any (λ t. is_own top t x) ts
own_of_list top x ts = ap (λ b. bytes_eq x.1 (top ∷ []) && b) (step_of_list x ts ∙ any_mapped x ts) ∙ any_both (bytes_eq x.1 (top ∷ [])) x ts

pub own_of_identifier : (top : ℕ) (x : Id) (k : Kind) (i : Ident) → is_own top (Identifier k i) x ≡ (bytes_eq x.1 (top ∷ []) && same_id (i.sym, i.ctxt) x)
own_of_identifier top x k i = ap (λ b. bytes_eq x.1 (top ∷ []) && b) (step_of_identifier x k i)

nothing : (b : Bool) → (b && false) ≡ false
nothing true = refl
nothing false = refl

pub own_of_leaf : (top : ℕ) (x : Id) (t : Node) → may_hold_names t ≡ false → is_own top t x ≡ false
own_of_leaf top x =
    let leaves : Nameless (λ t. stands_in x t ≡ false) = (search (rules, the_lemmas), λ y. search (rules, the_lemmas), λ w. search (rules, the_lemmas), λ y. search (rules, the_lemmas), λ s. search (rules, the_lemmas)) in
    λ t h. ap (λ b. bytes_eq x.1 (top ∷ []) && b) (without_names (λ t. stands_in x t ≡ false) leaves t h) ∙ nothing (bytes_eq x.1 (top ∷ []))

only_same : (x y : Id) → same_id x y ≡ true → x.1 ≡ y.1
only_same x y h = (bytes_eq-Decides x.1 y.1).0 (and_parts (bytes_eq x.0 y.0) (bytes_eq x.1 y.1) h).1

-- an identifier that has just the mark adds its id, and another none
pub noted : (b : Bool) (top : ℕ) (i : Ident) (x : Id) → (if bytes_eq i.ctxt (top ∷ []) && same_id (i.sym, i.ctxt) x then true else b) ≡ (b || (bytes_eq x.1 (top ∷ []) && same_id (i.sym, i.ctxt) x))
noted b top i x = by (same_id (i.sym, i.ctxt) x) refl
  where
    with_all : (j : Bool) (b : Bool) → (if j && true then true else b) ≡ (b || (j && true))
    with_all true true = refl
    with_all true false = refl
    with_all false true = refl
    with_all false false = refl

    with_none : (j k : Bool) (b : Bool) → (if j && false then true else b) ≡ (b || (k && false))
    with_none true true true = refl
    with_none true true false = refl
    with_none true false true = refl
    with_none true false false = refl
    with_none false true true = refl
    with_none false true false = refl
    with_none false false true = refl
    with_none false false false = refl

    by : (s : Bool) → same_id (i.sym, i.ctxt) x ≡ s → (if bytes_eq i.ctxt (top ∷ []) && s then true else b) ≡ (b || (bytes_eq x.1 (top ∷ []) && s))
    by true e = with_all (bytes_eq i.ctxt (top ∷ [])) b ∙ ap (λ c. b || (bytes_eq c (top ∷ []) && true)) (only_same (i.sym, i.ctxt) x e)
    by false e = with_none (bytes_eq i.ctxt (top ∷ [])) (bytes_eq x.1 (top ∷ [])) b

-- the same of a tree that is such a node
pub in_list : (top : ℕ) (t : Node) (ts : List Node) → t ≡ Many ts → (x : Id) → list_any (λ u. is_own top u x) ts ≡ is_own top t x
in_list top t ts is x = sym (ap (λ u. is_own top u x) is ∙ own_of_list top x ts)

pub in_tree : (top : ℕ) (t : Node) (k : Kind) (ts : List Node) → t ≡ Tree k ts → (x : Id) → list_any (λ u. is_own top u x) ts ≡ is_own top t x
in_tree top t k ts is x = sym (ap (λ u. is_own top u x) is ∙ own_of_tree top x k ts)
