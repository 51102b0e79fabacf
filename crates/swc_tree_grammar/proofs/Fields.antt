-- A node of which one field is looked at.
use Rattle.std.proofs.Common.{◌≡◌, ℕ, List, [], ◌∷◌, Option, Some, None, get_or, ◌∙◌, sym, ap}
use Rattle.swc_tree_node.specs.declared.kind.Kind.{Kind}
use Rattle.swc_tree_node.specs.declared.kind.Kind.TheVariants as kind
use Rattle.swc_tree_node.specs.declared.node.Node.{Node, Tree}
use Rattle.swc_tree_grammar.specs.Blocks.{span_of, no_span}
use Rattle.swc_tree_grammar.specs.Spans.{span_field}
use Rattle.swc_tree_grammar.proofs.Walks.{span_of_tree}

first_at : (a : Node) (ts : List Node) (i : ℕ) (e : Node) → Some 0 ≡ Some i → e ≡ get_or (a ∷ ts) i e → a ≡ e
first_at a ts i e h g = let here : 0 ≡ i = cc in let found = rw (← here) at g in cc

pub at_second : (a b : Node) (ts : List Node) (i : ℕ) (e : Node) → Some 1 ≡ Some i → e ≡ get_or (a ∷ b ∷ ts) i e → b ≡ e
at_second a b ts i e h g = let here : 1 ≡ i = cc in let found = rw (← here) at g in cc

pub at_third : (a b c : Node) (ts : List Node) (i : ℕ) (e : Node) → Some 2 ≡ Some i → e ≡ get_or (a ∷ b ∷ c ∷ ts) i e → c ≡ e
at_third a b c ts i e h g = let here : 2 ≡ i = cc in let found = rw (← here) at g in cc

pub at_fourth : (a b c d : Node) (ts : List Node) (i : ℕ) (e : Node) → Some 3 ≡ Some i → e ≡ get_or (a ∷ b ∷ c ∷ d ∷ ts) i e → d ≡ e
at_fourth a b c d ts i e h g = let here : 3 ≡ i = cc in let found = rw (← here) at g in cc

pub span_in_field : (k : Kind) (ts : List Node) (i : ℕ) (e : Node) → span_field k ts ≡ Some i → e ≡ get_or ts i e → span_of (Tree k ts) ≡ span_of e
span_in_field kind.FnExpr (a ∷ b ∷ []) i e h g = span_of_tree kind.FnExpr (a ∷ b ∷ []) ∙ ap span_of (at_second a b [] i e h g)
span_in_field kind.ClassExpr (a ∷ b ∷ []) i e h g = span_of_tree kind.ClassExpr (a ∷ b ∷ []) ∙ ap span_of (at_second a b [] i e h g)
span_in_field k [] i e h g = absurd (cc)
span_in_field k (t ∷ ts) i e h g = span_of_tree k (t ∷ ts) ∙ ap span_of (first_at t ts i e h g)

pub no_span_field : (k : Kind) (ts : List Node) → span_field k ts ≡ None → span_of (Tree k ts) ≡ no_span
no_span_field kind.FnExpr (a ∷ b ∷ []) h = absurd (cc)
no_span_field kind.ClassExpr (a ∷ b ∷ []) h = absurd (cc)
no_span_field kind.FnExpr [] h = span_of_tree kind.FnExpr []
no_span_field kind.ClassExpr [] h = span_of_tree kind.ClassExpr []
no_span_field k [] h = span_of_tree k []
no_span_field k (t ∷ ts) h = absurd (cc)

-- what is said of a node is what is said of one of its fields
pub by_field : {X : Type 0} (f : Node → X) (g : Kind → List Node → Option ℕ) → ((k : Kind) (ts : List Node) (i : ℕ) (e : Node) → g k ts ≡ Some i → e ≡ get_or ts i e → f (Tree k ts) ≡ f e)
    → (t : Node) (k : Kind) (ts us : List Node) (i : ℕ) (e : Node) (x : X) → t ≡ Tree k ts → us ≡ ts → Some i ≡ g k us → e ≡ get_or us i e → x ≡ f e → x ≡ f t
by_field f g law t k ts us i e x is same there here found = found ∙ sym (law k us i e (sym there) here) ∙ ap (λ l. f (Tree k l)) same ∙ ap f (sym is)

-- what is said of a node of which no field says it
pub by_none : {X : Type 0} (f : Node → X) (g : Kind → List Node → Option ℕ) (x : X) → ((k : Kind) (ts : List Node) → g k ts ≡ None → f (Tree k ts) ≡ x)
    → (t : Node) (k : Kind) (ts us : List Node) → t ≡ Tree k ts → us ≡ ts → None ≡ g k us → x ≡ f t
by_none f g x law t k ts us is same there = sym (law k us (sym there)) ∙ ap (λ l. f (Tree k l)) same ∙ ap f (sym is)
