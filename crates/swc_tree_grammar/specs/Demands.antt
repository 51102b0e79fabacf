-- What a production asks of the expression in a place: mostly how tightly it binds at least (ECMA-262, 13.2 to
-- 13.16). The grammar asks just this, and a pair of parentheses is due where it is not met.
use Rattle.std.specs.Prelude.{ℕ, ◌+◌, List, [], ◌∷◌, Bool, true, false, not, ◌&&◌, ◌||◌, nat_le, Option, Some}
use Rattle.std.specs.List.{list_all}
use Rattle.swc_tree_node.specs.declared.kind.Word.{Word}
use Rattle.swc_tree_node.specs.declared.kind.Word.TheVariants as word
use Rattle.swc_tree_node.specs.declared.node.Node.{Node, out-Node}
use Rattle.swc_tree_node.specs.declared.node.Node.TheOpen.{Node-F}
use Rattle.swc_tree_grammar.specs.Shapes.{Seq, Assign, Cond, Bin, Unary, Await, Update, Yield, Member, TaggedTpl, Call, New, OptCall, Argument, Spread, KeyValue, Method, Computed, ClassProp, PrivateProp, ClassMethod, Constructor, Getter, Setter, Arrow, Class, Declarator, AssignPat, AssignPatProp, KeyValuePat, ExportDefault, ForOf, items_of}
use Rattle.swc_tree_grammar.specs.Kinds.{has_kind, is_block, is_chain}
use Rattle.swc_tree_grammar.specs.Levels.{level, word_of, level_of_word, is_absent}

pub data Demand : Type 0 where
  -- any expression, or none stands there
  Any : Demand
  -- one of at least a level
  AtLeast : ℕ → Demand
  -- a list of such
  Each : ℕ → Demand
  -- a key: of a computed one that its expression has level 2
  Key : Demand
  -- an arrow's body: a block, or an expression of level 2
  Body : Demand
  -- what is called, tagged, or has its member taken: of level 17, no `new` without arguments, no optional chain
  Operand : Demand
  -- the same in an optional chain, which may go on from a chain
  Link : Demand
  -- what `new` calls: of level 18; of a `new` without arguments also another such
  NewCallee : Bool → Demand
  -- a side of `||`: of level 4, no `??`
  OrSide : Demand
  -- a side of `??`: of level 6, or a `??`
  NullishSide : Demand

abbrev pub left_side : Option Word → Demand
left_side (Some word.LogicalOr) = OrSide
left_side (Some word.NullishCoalescing) = NullishSide
left_side (Some word.Exp) = AtLeast 16
left_side op = AtLeast (level_of_word op)

abbrev pub right_side : Option Word → Demand
right_side (Some word.LogicalOr) = OrSide
right_side (Some word.LogicalAnd) = AtLeast 5
right_side (Some word.NullishCoalescing) = NullishSide
right_side (Some word.Exp) = AtLeast 14
right_side op = AtLeast (level_of_word op + 1)

-- the object of a member, which may be the base of an optional chain
abbrev pub object : Bool → Demand
object true = Link
object false = Operand

-- what is asked in each field of a node; the flag says that the node is the base of an optional chain
abbrev pub demands : Bool → Node-F Node → List Demand
demands in_chain (Seq span exprs) = Any ∷ Each 2 ∷ []
demands in_chain (Assign span op left right) = Any ∷ Any ∷ Any ∷ AtLeast 2 ∷ []
demands in_chain (Cond span test cons alt) = Any ∷ AtLeast 4 ∷ AtLeast 2 ∷ AtLeast 2 ∷ []
demands in_chain (Bin span op left right) = Any ∷ Any ∷ left_side (word_of op) ∷ right_side (word_of op) ∷ []
demands in_chain (Unary span op arg) = Any ∷ Any ∷ AtLeast 15 ∷ []
demands in_chain (Await span arg) = Any ∷ AtLeast 15 ∷ []
demands in_chain (Update span op prefix arg) = Any ∷ Any ∷ Any ∷ AtLeast 17 ∷ []
demands in_chain (Yield span arg delegate) = Any ∷ AtLeast 2 ∷ Any ∷ []
demands in_chain (Member span obj prop) = Any ∷ object in_chain ∷ Any ∷ []
demands in_chain (TaggedTpl span tag tpl) = Any ∷ Operand ∷ Any ∷ []
demands in_chain (Call span callee args) = Any ∷ Operand ∷ Any ∷ []
demands in_chain (OptCall span callee args) = Any ∷ Link ∷ Any ∷ []
demands in_chain (New span callee args) = Any ∷ NewCallee (is_absent args) ∷ Any ∷ []
demands in_chain (Argument spread expr) = Any ∷ AtLeast 2 ∷ []
demands in_chain (Spread dot3_token expr) = Any ∷ AtLeast 2 ∷ []
demands in_chain (KeyValue key value) = Key ∷ AtLeast 2 ∷ []
demands in_chain (Method key function) = Key ∷ Any ∷ []
demands in_chain (Getter span key body) = Any ∷ Key ∷ Any ∷ []
demands in_chain (Setter span key param body) = Any ∷ Key ∷ Any ∷ Any ∷ []
demands in_chain (Constructor span key params body) = Any ∷ Key ∷ Any ∷ Any ∷ []
demands in_chain (ClassMethod span key function keyword is_static) = Any ∷ Key ∷ Any ∷ Any ∷ Any ∷ []
demands in_chain (ClassProp span key value is_static) = Any ∷ Key ∷ AtLeast 2 ∷ Any ∷ []
demands in_chain (PrivateProp span key value is_static) = Any ∷ Any ∷ AtLeast 2 ∷ Any ∷ []
demands in_chain (Arrow span params body is_async) = Any ∷ Any ∷ Body ∷ Any ∷ []
demands in_chain (Class span super_class body) = Any ∷ AtLeast 17 ∷ Any ∷ []
demands in_chain (Declarator span name init) = Any ∷ Any ∷ AtLeast 2 ∷ []
demands in_chain (AssignPat span left right) = Any ∷ Any ∷ AtLeast 2 ∷ []
demands in_chain (AssignPatProp span key value) = Any ∷ Any ∷ AtLeast 2 ∷ []
demands in_chain (KeyValuePat key value) = Key ∷ Any ∷ []
demands in_chain (ExportDefault span expr) = Any ∷ AtLeast 2 ∷ []
demands in_chain (ForOf span is_await left right body) = Any ∷ Any ∷ Any ∷ AtLeast 2 ∷ Any ∷ []
demands in_chain _ = []

-- an expression of at least a level; of a part that is absent none is asked
abbrev pub at_least : ℕ → Node → Bool
at_least n e = is_absent e || nat_le n (level e)

-- `new` without arguments
abbrev pub bare_new_in : Node-F Node → Bool
bare_new_in (New span callee args) = is_absent args
bare_new_in _ = false

abbrev pub is_bare_new : Node → Bool
is_bare_new t = bare_new_in (out-Node t)

abbrev pub nullish_word : Option Word → Bool
nullish_word (Some word.NullishCoalescing) = true
nullish_word _ = false

abbrev pub nullish_in : Node-F Node → Bool
nullish_in (Bin span op left right) = nullish_word (word_of op)
nullish_in _ = false

abbrev pub is_nullish : Node → Bool
is_nullish t = nullish_in (out-Node t)

-- a computed key takes level 2, but in a member's brackets any
abbrev pub key_in : Node-F Node → Bool
key_in (Computed span expr) = at_least 2 expr
key_in _ = true

abbrev pub meets : Demand → Node → Bool
meets Any e = true
meets (AtLeast n) e = at_least n e
meets (Each n) es = list_all (at_least n) (items_of es)
meets Key t = key_in (out-Node t)
meets Body e = has_kind is_block e || at_least 2 e
meets Operand e = not (is_chain e) && (not (is_bare_new e) && at_least 17 e)
meets Link e = not (is_bare_new e) && at_least 17 e
meets (NewCallee bare) e = at_least 18 e || (bare && is_bare_new e)
meets OrSide e = not (is_nullish e) && at_least 4 e
meets NullishSide e = at_least 6 e || is_nullish e
