-- What the grammar asks of the node at each place of a tree that it derives, as it comes down from the nodes above.
use Rattle.std.specs.Prelude.{◌≡◌, List, [], ◌∷◌, map, Bool, true, false, ◌&&◌, ◌||◌, not, Option, if◌then◌else◌}
use Rattle.swc_tree_node.specs.declared.kind.Kind.TheVariants as kind
use Rattle.swc_tree_node.specs.declared.kind.Word.{Word}
use Rattle.swc_tree_node.specs.declared.node.Node.{Node, out-Node, fold-Node}
use Rattle.swc_tree_node.specs.declared.node.Node.TheOpen.{Node-F}
use Rattle.swc_tree_grammar.specs.Shapes.{Paren, Seq, Assign, Cond, Bin, Unary, Await, Update, Yield, Member, SuperProp, TaggedTpl, Tpl, Call, New, OptChain, OptCall, Argument, Spread, KeyValue, Method, Computed, ClassProp, PrivateProp, ClassMethod, PrivateMethod, Constructor, Getter, Setter, Arrow, Function, Class, Declarator, AssignPat, AssignPatProp, KeyValuePat, ArrayPat, ObjectPat, RestPat, Catch, VarDecl, UsingDecl, Statement, ExportDecl, ExportDefault, Return, Throw, With, Labeled, If, Switch, Case, While, DoWhile, For, ForIn, ForOf, Module, Script, items_of}
use Rattle.swc_tree_grammar.specs.Kinds.{has_kind, is_block, is_private_name}
use Rattle.swc_tree_grammar.specs.Levels.{word_of, is_in, is_absent, is_called}
use Rattle.swc_tree_grammar.specs.Demands.{Demand, meets, left_side, right_side, object}
use Rattle.swc_tree_grammar.specs.Demands.Demand.{Any, AtLeast, Each, Key, Body, Operand, Link, NewCallee}
use Rattle.swc_tree_grammar.specs.Starts.{Start, start, is_let_bracket}
use Rattle.swc_tree_grammar.specs.Forms.{holds, is_using, is_name_in, is_named_in, are_named}
use Rattle.swc_tree_grammar.specs.Grammar.{Context, Judged, judged_step, using_head_in, is_async_name, may_begin_statement, may_begin_export, may_begin_body}

-- as what a node stands
pub data Mode : Type 0 where
  Plain : Mode
  -- the base of an optional chain
  Base : Mode
  -- on the left of `in`, where a private name may stand
  BeforeIn : Mode
  -- the first part of the head of a `for` of or in
  Head : Mode
  -- in such a head the declarators of `using`, one of them, its name, and its initialiser, which is absent
  Declarators : Mode
  OneDeclarator : Mode
  Name : Mode
  Nothing : Mode

-- what may not come first
pub data Opening : Type 0 where
  Anything : Opening
  OfStatement : Opening
  OfExport : Opening
  OfBody : Opening

abbrev pub may_open : Opening → Start → Bool
may_open Anything s = true
may_open OfStatement s = may_begin_statement s
may_open OfExport s = may_begin_export s
may_open OfBody s = may_begin_body s

pub record Site : Type 0 where
  pub demand : Demand
  pub mode : Mode
  pub with_in : Bool
  -- `new` calls what goes on from it, so that no call may lead it
  pub uncalled : Bool
  -- no bare `async`, since `of` follows
  pub before_of : Bool
  pub opening : Opening
  -- behind `let` as the base of an optional chain no bracket stands
  pub optional : Bool

-- of some fields the grammar asks nothing
pub data Spot : Type 0 where
  Hidden : Spot
  At : Site → Spot

-- what of a field bears on the others
pub record Clue : Type 0 where
  pub word : Option Word
  pub absent : Bool
  pub flag : Bool
  pub block : Bool

abbrev pub clue : Node → Clue
clue t = record { word = word_of t; absent = is_absent t; flag = holds t; block = has_kind is_block t }

abbrev pub asks : Demand → Bool → Site
asks d b = record { demand = d; mode = Plain; with_in = b; uncalled = false; before_of = false; opening = Anything; optional = false }

abbrev pub any : Spot
any = At (asks Any true)

abbrev pub leads : Site → Site → Site
leads a s = record s { opening = a.opening }

abbrev pub is_base : Mode → Bool
is_base Base = true
is_base _ = false

abbrev pub left_mode : Bool → Mode
left_mode true = BeforeIn
left_mode false = Plain

abbrev pub asks_callee : Demand → Bool
asks_callee (NewCallee bare) = true
asks_callee _ = false

abbrev pub is_spine : Site → Bool
is_spine a = a.uncalled || asks_callee a.demand

abbrev pub in_key : Demand → Demand
in_key Key = AtLeast 2
in_key _ = Any

abbrev pub first_unless : Bool → Site → Site → Site
first_unless true a s = s
first_unless false a s = leads a s

abbrev pub declarator : Mode → Bool → List Spot
declarator OneDeclarator b = Hidden ∷ At (record (asks Any b) { mode = Name }) ∷ At (record (asks (AtLeast 2) b) { mode = Nothing }) ∷ []
declarator _ b = Hidden ∷ At (asks Any b) ∷ At (asks (AtLeast 2) b) ∷ []

abbrev pub using_spots : Mode → List Spot
using_spots Head = Hidden ∷ Hidden ∷ At (record (asks Any true) { mode = Declarators }) ∷ []
using_spots _ = Hidden ∷ Hidden ∷ any ∷ []

abbrev pub head_site : Bool → Spot
head_site b = At (record (asks Any false) { mode = Head; before_of = b })

abbrev pub item_demand : Demand → Demand
item_demand (Each n) = AtLeast n
item_demand _ = Any

abbrev pub item_mode : Mode → Mode
item_mode Declarators = OneDeclarator
item_mode _ = Plain

abbrev pub item_site : Site → Site
item_site a = record (asks (item_demand a.demand) a.with_in) { mode = item_mode a.mode }

abbrev pub other_items : Site → List Clue → List Spot
other_items a cs = map (λ c. At (item_site a)) cs

abbrev pub hidden : List Clue → List Spot
hidden cs = map (λ c. Hidden) cs

abbrev pub spots : Site → Node-F Clue → List Spot
spots a (Paren span expr) = Hidden ∷ any ∷ []
spots a (Seq span exprs) = Hidden ∷ At (leads a (asks (Each 2) a.with_in)) ∷ []
spots a (Assign span op left right) = Hidden ∷ Hidden ∷ At (leads a (asks Any a.with_in)) ∷ At (asks (AtLeast 2) a.with_in) ∷ []
spots a (Cond span test cons alt) = Hidden ∷ At (leads a (asks (AtLeast 4) a.with_in)) ∷ At (asks (AtLeast 2) true) ∷ At (asks (AtLeast 2) a.with_in) ∷ []
spots a (Bin span op left right) = Hidden ∷ Hidden ∷ At (leads a (record (asks (left_side op.word) a.with_in) { mode = left_mode (is_in op.word) })) ∷ At (asks (right_side op.word) a.with_in) ∷ []
spots a (Unary span op arg) = Hidden ∷ Hidden ∷ At (asks (AtLeast 15) a.with_in) ∷ []
spots a (Await span arg) = Hidden ∷ At (asks (AtLeast 15) a.with_in) ∷ []
spots a (Update span op prefix arg) = Hidden ∷ Hidden ∷ Hidden ∷ At (first_unless prefix.flag a (asks (AtLeast 17) a.with_in)) ∷ []
spots a (Yield span arg delegate) = Hidden ∷ At (asks (AtLeast 2) a.with_in) ∷ Hidden ∷ []
spots a (Member span obj prop) = Hidden ∷ At (leads a (record (asks (object (is_base a.mode)) a.with_in) { uncalled = is_spine a })) ∷ any ∷ []
spots a (TaggedTpl span tag tpl) = Hidden ∷ At (leads a (record (asks Operand a.with_in) { uncalled = is_spine a })) ∷ any ∷ []
spots a (SuperProp span obj prop) = Hidden ∷ Hidden ∷ any ∷ []
spots a (Tpl span exprs quasis) = Hidden ∷ any ∷ Hidden ∷ []
spots a (Call span callee args) = Hidden ∷ At (leads a (asks Operand a.with_in)) ∷ any ∷ []
spots a (New span callee args) = Hidden ∷ At (asks (NewCallee args.absent) a.with_in) ∷ any ∷ []
spots a (OptChain span optional base) = Hidden ∷ Hidden ∷ At (record (asks Any a.with_in) { mode = Base; opening = a.opening; optional = optional.flag }) ∷ []
spots a (OptCall span callee args) = Hidden ∷ At (leads a (asks Link a.with_in)) ∷ any ∷ []
spots a (Argument spread expr) = Hidden ∷ At (asks (AtLeast 2) true) ∷ []
spots a (Spread dot3_token expr) = Hidden ∷ At (asks (AtLeast 2) true) ∷ []
spots a (KeyValue key value) = At (asks Key true) ∷ At (asks (AtLeast 2) true) ∷ []
spots a (Method key function) = At (asks Key true) ∷ any ∷ []
spots a (Computed span expr) = Hidden ∷ At (asks (in_key a.demand) true) ∷ []
spots a (ClassProp span key value is_static) = Hidden ∷ At (asks Key true) ∷ At (asks (AtLeast 2) true) ∷ Hidden ∷ []
spots a (PrivateProp span key value is_static) = Hidden ∷ Hidden ∷ At (asks (AtLeast 2) true) ∷ Hidden ∷ []
spots a (ClassMethod span key function keyword is_static) = Hidden ∷ At (asks Key true) ∷ any ∷ Hidden ∷ Hidden ∷ []
spots a (PrivateMethod span key function keyword is_static) = Hidden ∷ Hidden ∷ any ∷ Hidden ∷ Hidden ∷ []
spots a (Constructor span key params body) = Hidden ∷ Hidden ∷ any ∷ any ∷ []
spots a (Getter span key body) = Hidden ∷ At (asks Key true) ∷ any ∷ []
spots a (Setter span key param body) = Hidden ∷ At (asks Key true) ∷ any ∷ any ∷ []
spots a (Arrow span params body is_async) = Hidden ∷ any ∷ At (record (asks Body (a.with_in || body.block)) { opening = OfBody }) ∷ Hidden ∷ []
spots a (Function span params body is_generator is_async) = Hidden ∷ any ∷ any ∷ Hidden ∷ Hidden ∷ []
spots a (Class span super_class body) = Hidden ∷ At (asks (AtLeast 17) true) ∷ any ∷ []
spots a (Declarator span name init) = declarator a.mode a.with_in
spots a (AssignPat span left right) = Hidden ∷ At (asks Any a.with_in) ∷ At (asks (AtLeast 2) a.with_in) ∷ []
spots a (AssignPatProp span key value) = Hidden ∷ Hidden ∷ At (asks (AtLeast 2) true) ∷ []
spots a (KeyValuePat key value) = At (asks Key true) ∷ any ∷ []
spots a (ArrayPat span elems) = Hidden ∷ any ∷ []
spots a (ObjectPat span props) = Hidden ∷ any ∷ []
spots a (RestPat span arg) = Hidden ∷ At (asks Any a.with_in) ∷ []
spots a (Catch span param body) = Hidden ∷ any ∷ any ∷ []
spots a (VarDecl span keyword decls) = Hidden ∷ Hidden ∷ At (asks Any a.with_in) ∷ []
spots a (UsingDecl span is_await decls) = using_spots a.mode
spots a (Statement span expr) = Hidden ∷ At (record (asks Any true) { opening = OfStatement }) ∷ []
spots a (ExportDecl span decl) = Hidden ∷ any ∷ []
spots a (ExportDefault span expr) = Hidden ∷ At (record (asks (AtLeast 2) true) { opening = OfExport }) ∷ []
spots a (Return span arg) = Hidden ∷ any ∷ []
spots a (Throw span arg) = Hidden ∷ any ∷ []
spots a (With span obj body) = Hidden ∷ any ∷ any ∷ []
spots a (Labeled span label body) = Hidden ∷ Hidden ∷ any ∷ []
spots a (If span test cons alt) = Hidden ∷ any ∷ any ∷ any ∷ []
spots a (Switch span discriminant cases) = Hidden ∷ any ∷ any ∷ []
spots a (Case span test cons) = Hidden ∷ any ∷ any ∷ []
spots a (While span test body) = Hidden ∷ any ∷ any ∷ []
spots a (DoWhile span body test) = Hidden ∷ any ∷ any ∷ []
spots a (For span init test update body) = Hidden ∷ At (asks Any false) ∷ any ∷ any ∷ any ∷ []
spots a (ForIn span left right body) = Hidden ∷ head_site false ∷ any ∷ any ∷ []
spots a (ForOf span is_await left right body) = Hidden ∷ Hidden ∷ head_site (not is_await.flag) ∷ At (asks (AtLeast 2) true) ∷ any ∷ []
spots a (Module span body shebang) = Hidden ∷ any ∷ Hidden ∷ []
spots a (Script span body shebang) = Hidden ∷ any ∷ Hidden ∷ []
spots a (Node-F.Tree kind.PrivateName cs) = hidden cs
spots a (Node-F.Tree kind.UsingDecl cs) = hidden cs
spots a (Node-F.Tree kind.VarDeclarator cs) = hidden cs
spots a (Node-F.Tree kind.ImportNamedSpecifier cs) = hidden cs
spots a (Node-F.Tree kind.ImportDefaultSpecifier cs) = hidden cs
spots a (Node-F.Tree kind.ImportStarAsSpecifier cs) = hidden cs
spots a (Node-F.Tree kind.NamedExport cs) = hidden cs
spots a (Node-F.Tree kind.ExportNamedSpecifier cs) = hidden cs
spots a (Node-F.Tree kind.ExportNamespaceSpecifier cs) = hidden cs
spots a (Node-F.Tree k cs) = map (λ c. any) cs
spots a (Node-F.List []) = []
spots a (Node-F.List (c ∷ cs)) = At (leads a (item_site a)) ∷ other_items a cs
spots a _ = []

-- whether it is derived there, as what it stands
abbrev pub derives_as : Mode → Node → Judged → Context → Bool
derives_as Plain t j c = j.derives c
derives_as Base t j c = j.in_chain c
derives_as BeforeIn t j c = has_kind is_private_name t || j.derives c
derives_as Head t j c = if is_using t then using_head_in (out-Node t) else j.derives c
derives_as Declarators t j c = are_named false (items_of t)
derives_as OneDeclarator t j c = is_named_in false (out-Node t)
derives_as Name t j c = is_name_in (out-Node t)
derives_as Nothing t j c = is_absent t

-- the node is what is asked where it stands
pub record Stands (a : Site) (t : Node) : Type 0 where
  pub is_met : meets a.demand t ≡ true
  pub leads_no_call : a.uncalled ≡ true → is_called t ≡ false
  pub no_async : a.before_of ≡ true → is_async_name t ≡ false
  pub opens : (may_open a.opening (start t) || (a.optional && is_let_bracket t)) ≡ true
  pub strict : Bool
  pub derived : derives_as a.mode t (fold-Node Judged judged_step t) (record { with_in = a.with_in; strict = strict }) ≡ true

abbrev pub Stand : Spot → Node → Type 0
Stand Hidden t = Unit {0}
Stand (At a) t = Stands a t

abbrev pub AllStand : List Spot → List Node → Type 0
AllStand (s ∷ ss) (t ∷ ts) = Stand s t × AllStand ss ts
AllStand _ _ = Unit {0}
