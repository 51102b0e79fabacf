-- Spans and moves of pairs that are set again.
use Rattle.std.proofs.Common.{◌≡◌, ℕ, List, [], ◌∷◌, true, false, codes, rules}
use Rattle.swc_tree_node.specs.declared.kind.Kind.TheVariants as kind
use Rattle.swc_tree_node.specs.declared.kind.Word.TheVariants as word
use Rattle.swc_tree_node.specs.declared.node.Node.{Node, Word, Identifier, Tree, the_lemmas}
use Rattle.swc_tree_grammar.specs.Lower.swc_tree_comments.specs.declared.moves.Move.TheVariants.{Leading, Trailing}
use Rattle.swc_tree_grammar.specs.Pairs.{pairs}
use Rattle.swc_tree_grammar.specs.Fixed.{recorded, moves_to, expression_spans, all_differ}
use Rattle.swc_tree_grammar.specs.Spanless.{spanless}
use Rattle.swc_tree_grammar_laws.proofs.Rows.{at}

abbrev here : ℕ → ℕ → List ℕ → Node
here lo hi text = Identifier kind.Ident (record { span = record { lo = lo; hi = hi }; ctxt = []; sym = text })

abbrev sum : Node
sum = Tree kind.BinExpr (at 1 6 ∷ Word word.Plus ∷ here 1 2 (codes "a") ∷ here 5 6 (codes "b") ∷ [])

abbrev product : Node → Node
product left = Tree kind.BinExpr (at 0 11 ∷ Word word.Mul ∷ left ∷ here 10 11 (codes "c") ∷ [])

abbrev factor : Node
factor = Tree kind.ParenExpr (at 0 7 ∷ sum ∷ [])

-- `(a + b) * c`: the sum's pair stands where it stood, and its comments stay
pair_again : recorded (pairs (product factor)) (record { lo = 1; hi = 6 }) ≡ record { lo = 0; hi = 7 }
pair_again = search (rules, the_lemmas)

no_pair_there : recorded (pairs (product factor)) (record { lo = 10; hi = 11 }) ≡ record { lo = 10; hi = 11 }
no_pair_there = search (rules, the_lemmas)

nothing_moves : moves_to (product factor) (product factor) ≡ []
nothing_moves = search (rules, the_lemmas)

all_move : moves_to (product factor) (product sum) ≡ Leading 0 1 ∷ Trailing 7 6 ∷ []
all_move = search (rules, the_lemmas)

-- the parts of the program, the outer ones first; the root stands in no place
spans : expression_spans factor ≡ record { lo = 1; hi = 6 } ∷ record { lo = 1; hi = 2 } ∷ record { lo = 5; hi = 6 } ∷ []
spans = search (rules, the_lemmas)

differ : all_differ (record { lo = 1; hi = 6 } ∷ record { lo = 1; hi = 2 } ∷ record { lo = 5; hi = 6 } ∷ []) ≡ true
differ = search (rules, the_lemmas)

agree : all_differ (record { lo = 1; hi = 6 } ∷ record { lo = 5; hi = 6 } ∷ record { lo = 1; hi = 6 } ∷ []) ≡ false
agree = search (rules, the_lemmas)

-- the same but for spans
moved : spanless (Tree kind.ParenExpr (at 0 7 ∷ here 1 2 (codes "a") ∷ [])) ≡ spanless (Tree kind.ParenExpr (at 2 5 ∷ here 3 4 (codes "a") ∷ []))
moved = search (rules, the_lemmas)
