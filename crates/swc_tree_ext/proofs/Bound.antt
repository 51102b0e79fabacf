-- What a pattern binds, form by form.
use Rattle.std.proofs.Common.{◌≡◌, List, [], ◌∷◌, ◌++◌, ap, ◌∙◌, append-nil}
use Rattle.std.specs.List.{flat_map}
use Rattle.swc_tree_marks.specs.declared.span.Span.{Span as Span'}
use Rattle.swc_tree_node.specs.declared.kind.Kind.TheVariants as kind
use Rattle.swc_tree_node.specs.declared.node.Node.{Node, Span, List as Many, Tree}
use Rattle.swc_tree_scoping.specs.BoundNames.{bound_ids}
use Rattle.swc_tree_scoping.proofs.BoundNames.{bound-Identifier, bound-List, bound-Tree}

pub array : (s : Span') (ts : List Node) → bound_ids (Tree kind.ArrayPat (Span s ∷ Many ts ∷ [])) ≡ flat_map bound_ids ts
array s ts = bound-Tree kind.ArrayPat (Span s ∷ Many ts ∷ []) ∙ ap (λ l. l ++ []) (bound-List ts) ∙ append-nil (flat_map bound_ids ts)

pub object : (s : Span') (ts : List Node) → bound_ids (Tree kind.ObjectPat (Span s ∷ Many ts ∷ [])) ≡ flat_map bound_ids ts
object s ts = bound-Tree kind.ObjectPat (Span s ∷ Many ts ∷ []) ∙ ap (λ l. l ++ []) (bound-List ts) ∙ append-nil (flat_map bound_ids ts)

pub rest : (s : Span') (t : Node) → bound_ids (Tree kind.RestPat (Span s ∷ t ∷ [])) ≡ bound_ids t
rest s t = bound-Tree kind.RestPat (Span s ∷ t ∷ []) ∙ append-nil (bound_ids t)

pub assigned : (s : Span') (t value : Node) → bound_ids (Tree kind.AssignPat (Span s ∷ t ∷ value ∷ [])) ≡ bound_ids t
assigned s t value = bound-Tree kind.AssignPat (Span s ∷ t ∷ value ∷ []) ∙ append-nil (bound_ids t)

-- one equation for each form of a pattern
pub ruleset bound = (bound-Identifier, array, object, rest, assigned)
