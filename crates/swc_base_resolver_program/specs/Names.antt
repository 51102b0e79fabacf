-- The names that scopes take, as the code keeps them.
use Rattle.std.specs.Prelude.{ℕ, Bool, true, false, not, ◌&&◌, ◌||◌, ◌==◌, Option, Some, None, List, slice_get, unwrap_or}
use Rattle.std.specs.BTreeMap.{get_by_text}
use Rattle.swc_tree_scoping.specs.declared.places.Standing.{Standing}
use Rattle.swc_tree_scoping.specs.declared.places.Standing.TheVariants as standing
use Rattle.swc_base_resolver_program.specs.declared.names.Ways.{Ways}
use Rattle.swc_base_resolver_program.specs.declared.names.ScopeNames.{ScopeNames}

abbrev pub no_ways : Ways
no_ways = record {
  variable = false;
  lexical = false;
  function = false;
  block_function = false;
  sloppy_function = false;
  parameter = false;
  catch_parameter = false;
  import = false;
  function_name = false;
  class_name = false;
  as_type = false;
  member = false;
}

-- a name is bound so
abbrev pub has_way : Ways → Standing → Bool
has_way w standing.Variable = w.variable
has_way w standing.Lexical = w.lexical
has_way w standing.Function = w.function
has_way w standing.BlockFunction = w.block_function
has_way w standing.SloppyFunction = w.sloppy_function
has_way w standing.Parameter = w.parameter
has_way w standing.CatchParameter = w.catch_parameter
has_way w standing.Import = w.import
has_way w standing.FunctionName = w.function_name
has_way w standing.ClassName = w.class_name
has_way w _ = false

-- ways, numbered; 0 where names are not bound so
abbrev pub way_number : Standing → ℕ
way_number standing.Variable = 1
way_number standing.Lexical = 2
way_number standing.Function = 3
way_number standing.BlockFunction = 4
way_number standing.SloppyFunction = 5
way_number standing.Parameter = 6
way_number standing.CatchParameter = 7
way_number standing.Import = 8
way_number standing.FunctionName = 9
way_number standing.ClassName = 10
way_number _ = 0

abbrev pub is_way : Standing → Standing → Bool
is_way r q = not (way_number q == 0) && (way_number r == way_number q)

abbrev pub with_way : Ways → Standing → Ways
with_way w standing.Variable = record w { variable = true }
with_way w standing.Lexical = record w { lexical = true }
with_way w standing.Function = record w { function = true }
with_way w standing.BlockFunction = record w { block_function = true }
with_way w standing.SloppyFunction = record w { sloppy_function = true }
with_way w standing.Parameter = record w { parameter = true }
with_way w standing.CatchParameter = record w { catch_parameter = true }
with_way w standing.Import = record w { import = true }
with_way w standing.FunctionName = record w { function_name = true }
with_way w standing.ClassName = record w { class_name = true }
with_way w _ = w

-- how a name is taken: bound as a value that stands so, declared as a type, or the name of an enum's member
pub data Way : Type 0 where
  binding : Standing → Way
  type_name : Way
  enum_member : Way

-- a name is taken so
abbrev pub takes_way : Ways → Way → Bool
takes_way w (binding r) = has_way w r
takes_way w type_name = w.as_type
takes_way w enum_member = w.member

-- the ways of a name that stands so, and whether it is declared as a type; those of an enum's member
abbrev pub ways_by : Standing → Bool → Ways
ways_by r as_type = record (with_way no_ways r) { as_type = as_type }

abbrev pub member_ways : Ways
member_ways = record no_ways { member = true }

-- the ways of the one and of the other
abbrev pub both_ways : Ways → Ways → Ways
both_ways a b = record {
  variable = a.variable || b.variable;
  lexical = a.lexical || b.lexical;
  function = a.function || b.function;
  block_function = a.block_function || b.block_function;
  sloppy_function = a.sloppy_function || b.sloppy_function;
  parameter = a.parameter || b.parameter;
  catch_parameter = a.catch_parameter || b.catch_parameter;
  import = a.import || b.import;
  function_name = a.function_name || b.function_name;
  class_name = a.class_name || b.class_name;
  as_type = a.as_type || b.as_type;
  member = a.member || b.member;
}

-- one of the ways in which a name is bound passes the test
abbrev pub any_way : (Standing → Bool) → Ways → Bool
any_way f w =
    (f standing.Variable && w.variable) || ((f standing.Lexical && w.lexical) || ((f standing.Function && w.function) || ((f standing.BlockFunction && w.block_function)
    || ((f standing.SloppyFunction && w.sloppy_function) || ((f standing.Parameter && w.parameter) || ((f standing.CatchParameter && w.catch_parameter)
    || ((f standing.Import && w.import) || ((f standing.FunctionName && w.function_name) || (f standing.ClassName && w.class_name)))))))))

-- the ways in which a scope takes a name
abbrev pub ways_of : ScopeNames → List ℕ → Ways
ways_of s x = unwrap_or (get_by_text s.names x) no_ways

abbrev pub ways_if : Option ScopeNames → List ℕ → Ways
ways_if None x = no_ways
ways_if (Some s) x = ways_of s x

-- the ways in which the scopes, by their numbers, take names
abbrev pub Bindings : Type 0
Bindings = ℕ → List ℕ → Ways

abbrev pub ways_in : List ScopeNames → Bindings
ways_in ss k x = ways_if (slice_get ss k) x
