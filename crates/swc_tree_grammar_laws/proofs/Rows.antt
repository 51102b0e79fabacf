-- The definitions on small trees.
use Rattle.std.proofs.Common.{◌≡◌, ℕ, List, [], ◌∷◌, true, false, codes, rules}
use Rattle.swc_tree_node.specs.declared.kind.Kind.TheVariants as kind
use Rattle.swc_tree_node.specs.declared.kind.Word.TheVariants as word
use Rattle.swc_tree_node.specs.declared.node.Node.{Node, Absent, Flag, Word, Text, Span, List as Many, Identifier, Tree, the_lemmas}
use Rattle.swc_tree_grammar.specs.Stripped.{stripped}
use Rattle.swc_tree_grammar.specs.Blocks.{with_blocks, no_span}
use Rattle.swc_tree_grammar.specs.Targets.{all_bare}
use Rattle.swc_tree_grammar.specs.Lower.swc_tree_comments.specs.declared.moves.Move.TheVariants.{Leading, Trailing}
use Rattle.swc_tree_grammar.specs.Pairs.{moves}

abbrev pub at : ℕ → ℕ → Node
at lo hi = Span (record { lo = lo; hi = hi })

abbrev pub name : List ℕ → Node
name text = Identifier kind.Ident (record { span = no_span; ctxt = []; sym = text })

abbrev pub bound : List ℕ → Node
bound text = Identifier kind.BindingIdent (record { span = no_span; ctxt = []; sym = text })

abbrev pub named : ℕ → ℕ → Node
named lo hi = Identifier kind.Ident (record { span = record { lo = lo; hi = hi }; ctxt = []; sym = codes "a" })

abbrev pub a : Node
a = name (codes "a")

abbrev pub x : Node
x = name (codes "x")

abbrev pub number : List ℕ → Node
number text = Tree kind.Number (at 0 0 ∷ Text text ∷ [])

abbrev pub call : List ℕ → Node
call callee = Tree kind.CallExpr (at 0 0 ∷ name callee ∷ Many [] ∷ [])

abbrev pub seq : List Node → Node
seq es = Tree kind.SeqExpr (at 0 0 ∷ Many es ∷ [])

abbrev pub paren : Node → Node
paren e = Tree kind.ParenExpr (at 0 0 ∷ e ∷ [])

abbrev without_value : Node → Node
without_value e = Tree kind.UnaryExpr (at 0 0 ∷ Word word.Void ∷ e ∷ [])

abbrev pub assign : Node → Node
assign left = Tree kind.AssignExpr (at 0 0 ∷ Word word.Assign ∷ left ∷ number (codes "1") ∷ [])

abbrev pub array : Node
array = Tree kind.ArrayPat (at 0 0 ∷ Many (bound (codes "a") ∷ []) ∷ [])

nested : stripped (seq (seq (call (codes "f") ∷ number (codes "2") ∷ []) ∷ without_value (number (codes "3")) ∷ x ∷ [])) ≡ seq (call (codes "f") ∷ x ∷ [])
nested = search (rules, the_lemmas)

first_idle : stripped (seq (without_value (number (codes "0")) ∷ x ∷ [])) ≡ seq (number (codes "0") ∷ x ∷ [])
first_idle = search (rules, the_lemmas)

last_void : stripped (seq (without_value (call (codes "f")) ∷ without_value (call (codes "g")) ∷ [])) ≡ seq (call (codes "f") ∷ without_value (call (codes "g")) ∷ [])
last_void = search (rules, the_lemmas)

two_voids : stripped (seq (without_value (without_value (call (codes "f"))) ∷ x ∷ [])) ≡ seq (call (codes "f") ∷ x ∷ [])
two_voids = search (rules, the_lemmas)

bare_name : stripped (assign (paren (paren a))) ≡ assign (bound (codes "a"))
bare_name = search (rules, the_lemmas)

-- an empty sequence adds no item; `void f()` is then last
only_item : stripped (seq (without_value (call (codes "f")) ∷ seq [] ∷ [])) ≡ without_value (call (codes "f"))
only_item = search (rules, the_lemmas)

alone : stripped (seq (seq [] ∷ seq [] ∷ [])) ≡ seq []
alone = search (rules, the_lemmas)

names_bare : all_bare (assign (paren (seq (paren a ∷ [])))) ≡ true
names_bare = search (rules, the_lemmas)

array_not : all_bare (seq (x ∷ assign (paren array) ∷ [])) ≡ false
array_not = search (rules, the_lemmas)

array_bare : all_bare (assign array) ≡ true
array_bare = search (rules, the_lemmas)

call_not : all_bare (assign (paren (call (codes "f")))) ≡ false
call_not = search (rules, the_lemmas)

sequence_not : all_bare (assign (paren (seq (a ∷ x ∷ [])))) ≡ false
sequence_not = search (rules, the_lemmas)

abbrev pub chain : Node
chain = Tree kind.OptChainExpr (at 0 0 ∷ Flag true ∷ Tree kind.MemberExpr (at 0 0 ∷ a ∷ Tree kind.IdentName (at 0 0 ∷ Text (codes "b") ∷ []) ∷ []) ∷ [])

chain_not : all_bare (assign (paren chain)) ≡ false
chain_not = search (rules, the_lemmas)

abbrev pair : ℕ → ℕ → Node → Node
pair lo hi e = Tree kind.ParenExpr (at lo hi ∷ e ∷ [])

abbrev pub statement : Node → Node
statement e = Tree kind.ExprStmt (at 0 0 ∷ e ∷ [])

inner_first : moves (statement (pair 0 5 (pair 1 4 (named 2 3)))) ≡ Leading 1 2 ∷ Trailing 4 3 ∷ Leading 0 1 ∷ Trailing 5 4 ∷ []
inner_first = search (rules, the_lemmas)

not_the_target : moves (statement (assign (pair 0 5 (pair 1 4 (named 2 3))))) ≡ Leading 1 2 ∷ Trailing 4 3 ∷ []
not_the_target = search (rules, the_lemmas)

abbrev pub sum : ℕ → ℕ → Node → Node → Node
sum lo hi left right = Tree kind.BinExpr (at lo hi ∷ Word word.Plus ∷ left ∷ right ∷ [])

two_pairs : moves (statement (pair 0 9 (sum 1 8 (named 1 2) (pair 5 8 (named 6 7)))))
    ≡ Leading 5 6 ∷ Trailing 8 7 ∷ Leading 0 1 ∷ Trailing 9 8 ∷ []
two_pairs = search (rules, the_lemmas)

abbrev pub choice : Node → Node → Node
choice cons alt = Tree kind.IfStmt (at 3 9 ∷ a ∷ cons ∷ alt ∷ [])

abbrev pub while : Node → Node
while body = Tree kind.WhileStmt (at 4 8 ∷ a ∷ body ∷ [])

abbrev braces : ℕ → ℕ → Node → Node
braces lo hi t = Tree kind.BlockStmt (at lo hi ∷ Many (t ∷ []) ∷ [])

through_while : with_blocks (choice (while (choice (statement x) Absent)) (statement x)) ≡ choice (braces 4 8 (while (choice (statement x) Absent))) (statement x)
through_while = search (rules, the_lemmas)

no_else : with_blocks (choice (choice (statement x) Absent) Absent) ≡ choice (braces 3 9 (choice (statement x) Absent)) Absent
no_else = search (rules, the_lemmas)

has_else : with_blocks (choice (choice (statement x) (statement x)) Absent) ≡ choice (choice (statement x) (statement x)) Absent
has_else = search (rules, the_lemmas)
