-- What pins a tree down among all that are written with its tokens, beside the table, lengths, leaves and the grammar.
use Rattle.std.specs.Prelude.{List, [], ◌∷◌, ℕ, Bool, true, false, not, ◌&&◌, ◌||◌, codes, nat_eq, Option, Some}
use Rattle.std.specs.List.{list_any}
use Rattle.std.specs.Cmp.Lexicographic.{pointwise}
use Rattle.swc_tree_node.specs.declared.kind.Word.{Word}
use Rattle.swc_tree_node.specs.declared.kind.Word.TheVariants as word
use Rattle.swc_tree_node.specs.declared.kind.Kind.{Kind}
use Rattle.swc_tree_node.specs.declared.kind.Kind.TheVariants as kind
use Rattle.swc_tree_node.specs.declared.node.Node.{Node, out-Node}
use Rattle.swc_tree_node.specs.declared.node.Node.TheOpen.{Node-F}
use Rattle.swc_tree_grammar.specs.Shapes.{ArrayPat, Arrow, AssignPat, Bin, Catch, ClassExpr, Declarator, FnDecl, FnExpr, For, ForIn, ForOf, KeyValuePat, Member, OptCall, OptChain, Paren, RestPat, Setter, Statement, VarDecl, items_of}
use Rattle.swc_tree_grammar.specs.Kinds.{has_kind, is_chain}
use Rattle.swc_tree_grammar.specs.Levels.{is_absent, word_of}
use Rattle.swc_tree_grammar.specs.Forms.{holds}
use Rattle.swc_tree_grammar.specs.Starts.{start}
use Rattle.swc_tree_grammar.specs.Writable.{Writable}
use Rattle.swc_tree_walk.specs.Nodes.{HasNode}
use Rattle.text_derives.specs.Begin.{is_bracket}
use Rattle.text_checks.specs.Words.{Worded}

-- ---- patterns are read as such

-- an expression that is written as a pattern is
abbrev pub like_pattern_in : Node-F Node → Bool
like_pattern_in (Node-F.Identifier kind.Ident i) = true
like_pattern_in (Node-F.Tree kind.ArrayLit ts) = true
like_pattern_in (Node-F.Tree kind.ObjectLit ts) = true
like_pattern_in (Node-F.Tree kind.AssignExpr ts) = true
like_pattern_in _ = false

abbrev pub is_like_pattern : Node → Bool
is_like_pattern t = like_pattern_in (out-Node t)

-- such an expression stands where the table has a pattern
abbrev pub is_astray_pattern : Node-F Node → Bool
is_astray_pattern (Node-F.Tree kind.Param (span ∷ pat ∷ [])) = is_like_pattern pat
is_astray_pattern (Arrow span params body is_async) = list_any is_like_pattern (items_of params)
is_astray_pattern (Setter span key param body) = is_like_pattern param
is_astray_pattern (ArrayPat span elems) = list_any is_like_pattern (items_of elems)
is_astray_pattern (RestPat span arg) = is_like_pattern arg
is_astray_pattern (AssignPat span left right) = is_like_pattern left
is_astray_pattern (KeyValuePat key value) = is_like_pattern value
is_astray_pattern (Declarator span name init) = is_like_pattern name
is_astray_pattern (Catch span param body) = is_like_pattern param
is_astray_pattern _ = false

-- ---- chains ask something, and operators are grouped to the left

-- a part of a chain that goes on from one
abbrev pub goes_on_in : Node-F Node → Bool
goes_on_in (Member span obj prop) = is_chain obj
goes_on_in (OptCall span callee args) = is_chain callee
goes_on_in _ = false

abbrev pub asks_nothing : Node → Node → Bool
asks_nothing optional base = not (holds optional) && not (goes_on_in (out-Node base))

-- the operators that the grammar groups either way: ||, && and ?? (13.13)
abbrev pub loose : Option Word → ℕ
loose (Some word.LogicalOr) = 1
loose (Some word.LogicalAnd) = 2
loose (Some word.NullishCoalescing) = 3
loose _ = 0

abbrev pub loose_in : Node-F Node → ℕ
loose_in (Bin span op left right) = loose (word_of op)
loose_in _ = 0

-- the right side of one is joined by the same
abbrev pub is_grouped_right : Node → Node → Bool
is_grouped_right op right = not (nat_eq (loose (word_of op)) 0) && nat_eq (loose_in (out-Node right)) (loose (word_of op))

-- ---- each node

-- `let` with `[` behind it, as an expression, with which no head of a `for` begins (14.7.4, 14.7.5)
abbrev pub begins_so : Node → Bool
begins_so t = is_bracket (start t)

abbrev pub is_astray_head : Node → Bool
is_astray_head left = is_like_pattern left || begins_so left

-- a node that no text is read as
abbrev pub is_astray : Node-F Node → Bool
is_astray (OptChain span optional base) = asks_nothing optional base
is_astray (Bin span op left right) = is_grouped_right op right
is_astray (For span init test update body) = begins_so init
is_astray (ForIn span left right body) = is_astray_head left
is_astray (ForOf span is_await left right body) = is_astray_head left
is_astray x = is_astray_pattern x

-- ---- what is a program, and can't be written down as `Writable` has it

-- words that are names in sloppy code alone (12.7.2)
abbrev pub sloppy_words : List (List ℕ)
sloppy_words = codes "await" ∷ codes "yield" ∷ codes "let" ∷ codes "static" ∷ codes "implements" ∷ codes "interface" ∷ codes "package" ∷ codes "private"
    ∷ codes "protected" ∷ codes "public" ∷ []

abbrev pub is_sloppy_word : List ℕ → Bool
is_sloppy_word text = list_any (pointwise nat_eq text) sloppy_words

abbrev pub is_pair_or_string : Kind → Bool
is_pair_or_string kind.ParenExpr = true
is_pair_or_string kind.Str = true
is_pair_or_string _ = false

-- a string in parentheses that is a statement, and no directive; any expression in two pairs
abbrev pub string_in_pair_in : Node-F Node → Bool
string_in_pair_in (Paren span expr) = has_kind is_pair_or_string expr
string_in_pair_in _ = false

-- a declarator with a value
abbrev pub has_value_in : Node-F Node → Bool
has_value_in (Declarator span name init) = not (is_absent init)
has_value_in _ = false

abbrev pub has_value : Node → Bool
has_value t = has_value_in (out-Node t)

-- `var a = 1` in the head of a `for` over keys (B.3.5)
abbrev pub valued_head_in : Node-F Node → Bool
valued_head_in (VarDecl span keyword decls) = list_any has_value (items_of decls)
valued_head_in _ = false

-- a name that strict code does not bind (13.1.1)
abbrev pub is_warded : List ℕ → Bool
is_warded text = pointwise nat_eq text (codes "eval") || pointwise nat_eq text (codes "arguments")

abbrev pub warded_in : Node-F Node → Bool
warded_in (Node-F.Identifier k i) = is_warded i.sym
warded_in _ = false

abbrev pub is_bound_so : Node → Bool
is_bound_so t = warded_in (out-Node t)

-- what binds such a name, but for patterns
abbrev pub binds_warded : Node-F Node → Bool
binds_warded (FnDecl ident function) = is_bound_so ident
binds_warded (FnExpr ident function) = is_bound_so ident
binds_warded (Node-F.Tree kind.ClassDecl (ident ∷ class ∷ [])) = is_bound_so ident
binds_warded (ClassExpr ident class) = is_bound_so ident
binds_warded (Node-F.Tree kind.ImportNamedSpecifier (span ∷ local ∷ imported ∷ [])) = is_bound_so local
binds_warded (Node-F.Tree kind.ImportDefaultSpecifier (span ∷ local ∷ [])) = is_bound_so local
binds_warded (Node-F.Tree kind.ImportStarAsSpecifier (span ∷ local ∷ [])) = is_bound_so local
binds_warded _ = false

abbrev pub is_lax_name : Kind → List ℕ → Bool
is_lax_name kind.BindingIdent text = is_sloppy_word text || is_warded text
is_lax_name _ text = is_sloppy_word text

-- a node for which "can be written down" is narrower than the grammar
abbrev pub is_lax : Node-F Node → Bool
is_lax (Node-F.Identifier k i) = is_lax_name k i.sym
is_lax (Statement span expr) = string_in_pair_in (out-Node expr)
is_lax (ForIn span left right body) = valued_head_in (out-Node left)
is_lax x = binds_warded x

-- ---- a tree

pub record IsPinned (t : Node) : Type 0 where
  -- patterns are patterns, chains ask something, and operators are grouped to the left
  pub straight : HasNode is_astray t → ⊥
  -- `yield` and `await` are operators where they have to be, and names elsewhere
  pub worded : Worded t
  -- it can be written down, if no word of strict code is a name in it, nor `eval` or `arguments` bound, and no string in parentheses a
  -- statement, nor a value in the head of a `for` over keys
  pub writable : (HasNode is_lax t → ⊥) → Writable t
