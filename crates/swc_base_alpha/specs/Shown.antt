-- Where a word shows: at which identifiers of two lists that stand side by side.
use Rattle.std.specs.Prelude.{◌≡◌, ◌++◌, ◌&&◌, Bool, ℕ, List, [], ◌∷◌, Option, None, Some, find, map}
use Rattle.std.specs.Str.{bytes_eq}
use Rattle.swc_tree_marks.specs.declared.ident.Ident.{Ident}
use Rattle.swc_tree_marks.specs.declared.span.Span.{Span}
use Rattle.swc_tree_node.specs.declared.node.Node.{Node}
use Rattle.swc_tree_scoping.specs.Places.{program_place}
use Rattle.swc_tree_scoping.specs.Scopes.{is_binding}
use Rattle.swc_tree_walk.specs.Sites.{sites}
use Rattle.swc_tree_grammar.specs.Blocks.{no_span}
use Rattle.swc_base_alpha.specs.Judged.{IsOwnAnswer}
use Rattle.swc_base_alpha.specs.Pairs.{EachPair, Meets, StaysOne}
use Rattle.swc_base_alpha.specs.Shapes.{ShapeShows, span_or}
use Rattle.swc_base_alpha.specs.Side.{Seen, side}
use Rattle.swc_base_alpha.specs.declared.pairs.Question.TheVariants as question
use Rattle.swc_base_alpha.specs.declared.spans.Unplaced.{Unplaced}
use Rattle.swc_base_alpha.specs.declared.verdict.Why.{Why}
use Rattle.swc_base_alpha.specs.declared.verdict.Why.TheVariants as why

abbrev pub turned : Seen × Seen → Seen × Seen
turned p = (p.1, p.0)

-- what a word asks of identifiers that stand side by side
abbrev pub PairsAsk : Why → List (Seen × Seen) → Type 0
PairsAsk why.Shape ps = Unit {0}
PairsAsk why.Name ps = EachPair (Meets question.Others) ps
PairsAsk why.Free ps = EachPair (Meets question.Free) ps
PairsAsk why.Split ps = StaysOne ps
PairsAsk why.Joined ps = StaysOne (map turned ps)
PairsAsk why.Top ps = EachPair (Meets question.Top) ps
PairsAsk why.Reads ps = EachPair (Meets question.Names) ps
PairsAsk why.Caught ps = EachPair (Meets question.Names) ps

-- what is asked first fails at two: it holds of those before them, and not with them
pub record FailsAt (asks : List (Seen × Seen) → Type 0) (ps : List (Seen × Seen)) (x y : Seen) : Type 0 where
  pub before : List (Seen × Seen)
  pub after : List (Seen × Seen)
  pub is_list : ps ≡ before ++ (x, y) ∷ after
  pub holds : asks before
  pub fails : ¬ asks (before ++ (x, y) ∷ [])

-- an identifier binds a text in the program's own scope, of which the judge's mark is 2
abbrev pub binds : List ℕ → Seen → Bool
binds text x = is_binding x.0 && (bytes_eq x.1.sym text && bytes_eq x.1.ctxt (2 ∷ []))

-- where a list of identifiers first binds a text so
abbrev pub span_found : Option Seen → Span
span_found None = no_span
span_found (Some x) = x.1.span

abbrev pub bound_at : List ℕ → List Seen → Span
bound_at text xs = span_found (find (binds text) xs)

-- where an identifier of a list stands; of one that a normal form made, for the export of a declaration, where that binds it
abbrev pub place_in : Unplaced → List Seen → Seen → Span
place_in u xs x = span_or u (bound_at x.1.sym xs) (Some x.1.span)

-- what a word asks first fails at two identifiers, which stand there
pub record ShowsIn (u : Unplaced) (w : Why) (xs ys : List Seen) (before after : Span) : Type 0 where
  pub one : Seen
  pub other : Seen
  pub first : FailsAt (PairsAsk w) (side xs ys) one other
  pub is_before : before ≡ place_in u xs one
  pub is_after : after ≡ place_in u ys other

-- ... of two normal forms, whose identifiers stand side by side once both are resolved with the judge's marks
pub record NamesShow (u : Unplaced) (w : Why) (t s : Node) (before after : Span) : Type 0 where
  pub first : Node
  pub second : Node
  pub own : IsOwnAnswer t first
  pub own_too : IsOwnAnswer s second
  pub shows : ShowsIn u w (sites program_place first) (sites program_place second) before after

-- the spans are those at which a word shows in two normal forms: of the first nodes that are not alike, or of two identifiers
abbrev pub Shows : Unplaced → Node → Node → Why → Span → Span → Type 0
Shows u t s why.Shape before after = ShapeShows u no_span no_span t s before after
Shows u t s w before after = NamesShow u w t s before after
