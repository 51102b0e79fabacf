-- Where `yield` and `await` are operators, and where names (ECMA-262, 13.1.1 and 15.5 to 15.9: the parameters Yield and Await).
use Rattle.std.specs.Prelude.{ℕ, zero, suc, List, [], ◌∷◌, Bool, true, false, not, ◌&&◌, ◌||◌, IsTrue, codes, map, nat_eq}
use Rattle.std.specs.Cmp.Lexicographic.{pointwise}
use Rattle.swc_tree_node.specs.declared.kind.Kind.TheVariants as kind
use Rattle.swc_tree_node.specs.declared.node.Node.{Node, roll-Node, fold-Node, map-Node}
use Rattle.swc_tree_node.specs.declared.node.Node.TheOpen.{Node-F}
use Rattle.swc_tree_grammar.specs.Shapes.{Arrow, Await, ClassProp, Constructor, FnDecl, FnExpr, Function, Getter, Module, PrivateProp, Setter, Yield}
use Rattle.swc_tree_grammar.specs.Forms.{holds}
use Rattle.text_checks.specs.declared.words.Words.{Words}
use Rattle.text_checks.specs.declared.words.Ask.{Ask}
use Rattle.text_checks.specs.declared.words.Rule.{Rule}

-- which of both are operators
abbrev pub operators : Bool → Bool → Words
operators yields awaits = record { yields = yields; awaits = awaits }

abbrev pub neither : Words
neither = operators false false

-- a name is no operator
abbrev pub is_name : List ℕ → Words → Bool
is_name text w = not (w.yields && pointwise nat_eq text (codes "yield")) && not (w.awaits && pointwise nat_eq text (codes "await"))

-- in a field these are operators; or any name may stand there
abbrev pub asked : Words → Ask
asked w = record { asks = true; words = w }

abbrev pub nothing : Ask
nothing = record { asks = false; words = neither }

-- of a node: whether it may stand there, and what is asked of its second field and of all others
abbrev pub rule : Bool → Ask → Ask → Rule
rule holds second others = record { holds = holds; second = second; others = others }

-- the same words in all fields
abbrev pub throughout : Words → Rule
throughout w = rule true (asked w) (asked w)

-- a key, which belongs to what stands round it, and what stands behind
abbrev pub behind_key : Words → Words → Rule
behind_key w inside = rule true (asked w) (asked inside)

abbrev pub operator : Bool → Words → Rule
operator holds w = rule holds (asked w) (asked w)

-- a function with its name, of which nothing is asked here
abbrev pub behind_name : Words → Rule
behind_name w = rule true (asked w) nothing

-- what names what is imported or exported
abbrev pub unasked : Rule
unasked = rule true nothing nothing

-- a function, a generator or an async one; an arrow function never yields, and its parameters belong to what stands round it
abbrev pub of_function : Node → Node → Rule
of_function is_generator is_async = throughout (operators (holds is_generator) (holds is_async))

abbrev pub of_arrow : Words → Node → Rule
of_arrow w is_async = behind_key w (operators false (holds is_async))

-- functions, and what has the body of one
abbrev pub function_rule : Words → Node-F Node → Rule
function_rule w (Function span params body is_generator is_async) = of_function is_generator is_async
function_rule w (Arrow span params body is_async) = of_arrow w is_async
function_rule w (Constructor span key params body) = behind_key w neither
function_rule w (Getter span key body) = behind_key w neither
function_rule w (Setter span key param body) = behind_key w neither
function_rule w (ClassProp span key value is_static) = behind_key w neither
function_rule w (PrivateProp span key value is_static) = behind_key w neither
function_rule w (Node-F.Tree kind.StaticBlock (span ∷ body ∷ [])) = throughout neither
function_rule w _ = throughout w

abbrev pub rule_of : Words → Node-F Node → Rule
rule_of w (Yield span arg delegate) = operator w.yields w
rule_of w (Await span arg) = operator w.awaits w
rule_of w (FnDecl ident function) = behind_name w
rule_of w (FnExpr ident function) = behind_name w
rule_of w (Module span body shebang) = throughout (operators false true)
rule_of w (Node-F.Tree kind.ImportDecl ts) = unasked
rule_of w (Node-F.Tree kind.NamedExport ts) = unasked
rule_of w y = function_rule w y

-- a node, and whether all words in it are what they have to be
pub record Read : Type 0 where
  pub whole : Node
  pub fits : Words → Bool

abbrev pub meets : Ask → (Words → Bool) → Bool
meets a f = not a.asks || f a.words

-- what is asked of the field of a number
abbrev pub ask_at : Rule → ℕ → Ask
ask_at r (suc zero) = r.second
ask_at r _ = r.others

abbrev pub each_meets : (ℕ → Ask) → List Read → Bool
each_meets asks [] = true
each_meets asks (e ∷ es) = meets (asks zero) e.fits && each_meets (λ i. asks (suc i)) es

abbrev pub by_rule : Rule → List Read → Bool
by_rule r es = r.holds && each_meets (ask_at r) es

abbrev pub fits_in : Node-F Read → Words → Bool
fits_in (Node-F.Identifier k i) w = is_name i.sym w
fits_in (Node-F.List es) w = each_meets (ask_at (throughout w)) es
fits_in (Node-F.Tree k es) w = by_rule (rule_of w (Node-F.Tree k (map (λ e. e.whole) es))) es
fits_in _ w = true

abbrev pub read_step : Node-F Read → Read
read_step x = record { whole = roll-Node (map-Node Read Node (λ e. e.whole) x); fits = fits_in x }

abbrev pub read : Node → Read
read = fold-Node Read read_step

abbrev pub fits : Node → Words → Bool
fits t = (read t).fits

-- each of several nodes meets what is asked of it
abbrev pub all_meet : (ℕ → Ask) → List Node → Bool
all_meet asks [] = true
all_meet asks (t ∷ ts) = meets (asks zero) (fits t) && all_meet (λ i. asks (suc i)) ts

-- each `yield` and `await` is the operator in what is a generator or async, and a name elsewhere
abbrev pub Worded : Node → Type 0
Worded t = IsTrue (fits t neither)
