-- The walks by paths: which scopes are open at a path, what a walk adds to the tables, what it writes.
use Rattle.std.specs.Prelude.{◌≡◌, ℕ, zero, suc, ◌+◌, ◌<◌, Bool, true, false, ◌⊎◌, ◌↔◌, IsTrue, Option, Some, None, is_some, List, [], ◌∷◌, ◌++◌, map, take, length, slice_get, if◌then◌else◌, ◌&&◌, ◌==◌}
use Rattle.std.specs.List.{range_with_len, slice_index_or}
use Rattle.swc_tree_marks.specs.declared.ident.Ident.{Ident}
use Rattle.swc_tree_node.specs.declared.kind.Kind.{Kind}
use Rattle.swc_tree_node.specs.declared.node.Node.{Node, out-Node}
use Rattle.swc_tree_node.specs.declared.node.Node.TheOpen.{Node-F}
use Rattle.swc_tree_node.specs.declared.kind.Kind.TheVariants as kind
use Rattle.swc_tree_node.specs.declared.fields.types.ts_enum_decl.TheConstants as ts_enum_decl
use Rattle.swc_tree_scoping.specs.declared.places.Standing.{Standing}
use Rattle.swc_tree_scoping.specs.declared.places.Standing.TheVariants as standing
use Rattle.swc_tree_scoping.specs.declared.places.Place.{Place}
use Rattle.swc_tree_scoping.specs.declared.places.Scope.{Scope}
use Rattle.swc_tree_scoping.specs.declared.places.View.{View}
use Rattle.swc_tree_scoping.specs.declared.places.View.TheVariants as view
use Rattle.swc_tree_scoping.specs.Places.{Path, children_in, child, given, items_of, opened, place_below, place_at}
use Rattle.swc_tree_scoping.specs.Folds.{each_in}
use Rattle.swc_tree_scoping.specs.Scopes.{Round, is_binding, one_if, scope_at, scope_count, seen_as, total, view_in}
use Rattle.swc_tree_scoping.specs.Resolved.{Contexts, is_global_value, remarked}
use Rattle.swc_tree_spaces.specs.declared.space.Space.{Space}
use Rattle.swc_tree_spaces.specs.declared.space.Space.TheVariants as space
use Rattle.swc_tree_spaces.specs.Spaces.{as_value, is_exported, member_name, names_type, spaces}
use Rattle.swc_base_resolver_program.specs.declared.names.ScopeNames.{ScopeNames}
use Rattle.swc_base_resolver_program.specs.declared.env.Inside.{Inside}
use Rattle.swc_base_resolver_program.specs.declared.env.Views.{Views}
use Rattle.swc_base_resolver_program.specs.declared.env.Views.TheVariants.{Plain, Opened}
use Rattle.swc_base_resolver_program.specs.declared.collect.Stage.{Stage}
use Rattle.swc_base_resolver_program.specs.declared.collect.Stage.TheVariants as stage
use Rattle.swc_base_resolver_program.specs.declared.walk.Answers.{Answers}
use Rattle.swc_base_resolver_program.specs.declared.walk.Exports.{Exports}
use Rattle.swc_base_resolver_program.specs.declared.walk.Exports.TheVariants as exports
use Rattle.swc_base_resolver_program.specs.declared.names.Ways.{Ways}
use Rattle.swc_base_resolver_program.specs.Names.{Way, binding, enum_member, is_way, takes_way, type_name, ways_in}
use Rattle.swc_base_resolver_program.specs.Lookup.{Open, Tables, function_owner_in, hoists_in, layers, meaning_in, meets_in, names_in, same_number, tables_in, taker_in, type_meaning_in, variable_owner_in}

-- the number of scopes that begin before a child, its parent counted in
abbrev pub before : Place → Node → ℕ → ℕ
before w t i = one_if (is_some (opened w t)) + total (each_in scope_count (place_below w t) (take i (children_in (out-Node t))))

-- the number of scopes that begin before a path
abbrev pub number : Place → Node → Path → ℕ
number w t [] = 0
number w t (i ∷ s) = before w t i + given (child t i) 0 (λ c. number (place_below w t i) c s)

-- a scope round a path, where so many begin before the node
abbrev pub open_at : ℕ → Place → Node → Round → Open
open_at n w t s = record { scope = scope_at w t s.0; number = n + number w t s.0; whole = s.1 }

-- the scopes that are open at a child
abbrev pub entered : List Open → ℕ → Place → Node → ℕ → List Open
entered env n w t i = map (open_at n w t) (seen_as (opened w t) (view_in (out-Node t) i)) ++ env

-- the scopes that are open at a path, the innermost first; `env` are those round the node
abbrev pub open_round : List Open → ℕ → Place → Node → Path → List Open
open_round env n w t [] = env
open_round env n w t (i ∷ p) = given (child t i) (entered env n w t i) (λ c. open_round (entered env n w t i) (n + before w t i) (place_below w t i) c p)

-- the scope that a stage gives a name to that is bound so, in such an environment
abbrev settled : Standing → List ℕ → List Open → (List ℕ → List Open → Bool) → (List ℕ → List Open → Option ℕ) → Option ℕ
settled standing.SloppyFunction x env hoists meets = if hoists x env then taker_in standing.Variable env else None
settled standing.Variable x env hoists meets = same_number (taker_in standing.Variable env) (meets x env)
settled _ x env hoists meets = None

abbrev pub target_in : Stage → Standing → List ℕ → List Open → Option ℕ
target_in stage.Bind r x env = taker_in (as_value r) env
target_in (stage.Settle b) r x env = settled r x env (hoists_in (names_in b)) (meets_in (names_in b))

-- a stage looks for names that stand so
abbrev pub is_sought : Stage → Standing → Bool
is_sought stage.Bind standing.TypeName = true
is_sought stage.Bind r = is_binding r
is_sought (stage.Settle b) standing.SloppyFunction = true
is_sought (stage.Settle b) standing.Variable = true
is_sought (stage.Settle b) _ = false

-- an identifier of that kind that stands so gives its name in that way
abbrev pub gives : Standing → Kind → Way → Bool
gives r k (binding q) = is_way r q
gives r k type_name = names_type r k
gives r k enum_member = false

-- an identifier that no pass has marked gives its name in that way, and the stage gives it to that scope
abbrev pub TakesIdentifier : Stage → List Open → Standing → Kind → Ident → ℕ → Way → List ℕ → Type 0
TakesIdentifier s env r q i k v x = IsTrue (gives r q v) × (i.sym ≡ x) × (i.ctxt ≡ []) × (target_in s r x env ≡ Some k)

-- the members that a stage looks for: in the first those of an enum
abbrev pub members_sought : Stage → Kind → List Node → List Node
members_sought stage.Bind kind.TsEnumDecl ts = items_of (slice_get ts ts_enum_decl.MEMBERS)
members_sought stage.Bind _ ts = []
members_sought (stage.Settle b) q ts = []

-- a member of the scope has the name
abbrev pub IsMember : ℕ → Node → ℕ → Way → List ℕ → Type 0
IsMember number c k v x = (k ≡ number) × (v ≡ enum_member) × (member_name c ≡ Some x)

-- one of the first of its members has
abbrev pub HasMembers : ℕ → List Node → ℕ → ℕ → Way → List ℕ → Type 0
HasMembers number ts m k v x = (k ≡ number) × (v ≡ enum_member) × ((i : ℕ) × (c : Node) × (i < m) × (slice_get ts i ≡ Some c) × (member_name c ≡ Some x))

-- a node in such an environment itself gives the name in that way to that scope; the scope that it opens has the number `n`
abbrev pub ReachesHere : Stage → List Open → ℕ → Place → Node-F Node → ℕ → Way → List ℕ → Type 0
ReachesHere s env n w (Node-F.Identifier q i) k v x = TakesIdentifier s env w.standing q i k v x
ReachesHere s env n w (Node-F.Tree q ts) k v x = HasMembers n (members_sought s q ts) (length (members_sought s q ts)) k v x
ReachesHere s env n w _ k v x = ⊥

-- a node below gives the name in that way to that scope
pub record Reaches (s : Stage) (env : List Open) (n : ℕ) (w : Place) (t : Node) (k : ℕ) (v : Way) (x : List ℕ) : Type 0 where
  pub path : Path
  pub place : Place
  pub node : Node
  pub stands : place_at w t path ≡ Some (place, node)
  pub reaches : ReachesHere s (open_round env n w t path) (n + number w t path) place (out-Node node) k v x

-- the same below one of the first of several nodes
abbrev pub ReachesBelow : Stage → (ℕ → List Open) → ℕ → (ℕ → Place) → List Node → ℕ → ℕ → Way → List ℕ → Type 0
ReachesBelow s envs n places ts m k v x =
    (i : ℕ) × (c : Node) × (i < m) × (slice_get ts i ≡ Some c) × Reaches s (envs i) (n + total (each_in scope_count places (take i ts))) (places i) c k v x

-- one name is added to one scope, in those ways
abbrev pub IsAdded : ℕ → Ways → List ℕ → ℕ → Way → List ℕ → Type 0
IsAdded number more name k v x = (k ≡ number) × IsTrue (takes_way more v) × (name ≡ x)

-- the scope of a number takes the name so
abbrev pub has_at : List ScopeNames → ℕ → Way → List ℕ → Bool
has_at ss k v x = takes_way (ways_in ss k x) v

-- the scopes take just such names
abbrev pub Takes : List ScopeNames → (ℕ → Way → List ℕ → Type 0) → Type 0
Takes ss P = (k : ℕ) (v : Way) (x : List ℕ) → IsTrue (has_at ss k v x) ↔ P k v x

-- the tables gain just such names
abbrev pub Gains : List ScopeNames → List ScopeNames → (ℕ → Way → List ℕ → Type 0) → Type 0
Gains old new P = Takes new (λ k v x. IsTrue (has_at old k v x) ⊎ P k v x)

-- the tables take the same names
abbrev pub TakeAlike : List ScopeNames → List ScopeNames → Type 0
TakeAlike old new = (k : ℕ) (x : List ℕ) → ways_in new k x ≡ ways_in old k x

-- there is a table of each of the open scopes among so many
abbrev pub AreBelow : ℕ → List Open → Type 0
AreBelow n [] = Unit {0}
AreBelow n (o ∷ os) = (o.number < n) × AreBelow n os

abbrev pub pick : {A : Type 0} → View → A → A → A → A
pick view.Outside x y z = x
pick view.Parameters x y z = y
pick view.Whole x y z = z

-- the scopes that are open at a part of a node that opens one, by its view of that scope
abbrev pub sees_in : Inside → View → List Open
sees_in i v = pick v (layers i.outside.now) (layers i.parameters) (layers i.whole)

-- the same of any node
abbrev pub sees : Views → View → List Open
sees (Plain env) v = layers env.now
sees (Opened i) v = sees_in i.now v

-- the same where the node opens a scope of that number, and these are round it
abbrev pub inside : Scope → ℕ → List Open → View → List Open
inside s n env v = pick v env (record { scope = Some s; number = n; whole = false } ∷ env) (record { scope = Some s; number = n; whole = true } ∷ env)

-- the marks of the scopes: the top mark and then the following fresh ones
abbrev pub marks_from : ℕ → ℕ → ℕ → List ℕ
marks_from top first zero = []
marks_from top first (suc n) = top ∷ range_with_len first n

-- by what identifiers are marked
pub record Marking : Type 0 where
  pub marks : List ℕ
  pub tables : Tables
  pub unresolved : ℕ
  pub is_script : Bool

abbrev pub marking_in : Answers → Marking
marking_in a = record { marks = a.marks.now; tables = tables_in a.declarations; unresolved = a.unresolved; is_script = a.is_script }

abbrev pub mark_at : Marking → Option ℕ → ℕ
mark_at a None = a.unresolved
mark_at a (Some k) = slice_index_or a.marks k a.unresolved

-- what is free in a script though the program declares it
abbrev pub own_number : Marking → List ℕ → Option ℕ → Option ℕ
own_number a x None = None
own_number a x (Some zero) = if a.is_script && is_global_value x then None else Some zero
own_number a x (Some (suc k)) = Some (suc k)

-- the number of the scope that declares a name in a name space
abbrev pub space_meaning_in : Tables → Space → List ℕ → List Open → Option ℕ
space_meaning_in d space.Values x env = meaning_in d x env
space_meaning_in d space.Types x env = type_meaning_in d.bound x env

-- what is meant where that name space has it, and otherwise the rest
abbrev pub meant_or : Marking → Space → List ℕ → Option ℕ → Option ℕ → Option ℕ
meant_or a y x None rest = rest
meant_or a space.Values x (Some k) rest = own_number a x (Some k)
meant_or a space.Types x (Some k) rest = Some k

-- what a name means that is looked for in one name space after another
abbrev pub meant_by : Marking → List Space → List ℕ → List Open → Option ℕ
meant_by a [] x env = None
meant_by a (y ∷ ys) x env = meant_or a y x (space_meaning_in a.tables y x env) (meant_by a ys x env)

-- an identifier that stands so has a mark
abbrev pub is_marked : Standing → Bool
is_marked standing.Plain = false
is_marked standing.Branch = false
is_marked standing.DefaultExport = false
is_marked standing.Label = false
is_marked standing.Imported = false
is_marked standing.Exported = false
is_marked _ = true

-- the context of an identifier that had none, and that is or is not exported by its name
abbrev pub fresh_context : Marking → Bool → Standing → List ℕ → List Open → List ℕ
fresh_context a e standing.Reference x env = mark_at a (meant_by a (spaces standing.Reference e) x env) ∷ []
fresh_context a e standing.Body x env = mark_at a (meant_by a (spaces standing.Reference e) x env) ∷ []
fresh_context a e standing.TypeReference x env = mark_at a (meant_by a (spaces standing.TypeReference false) x env) ∷ []
fresh_context a e standing.TypeName x env = mark_at a (taker_in standing.Lexical env) ∷ []
fresh_context a e standing.Variable x env = mark_at a (variable_owner_in a.tables x env) ∷ []
fresh_context a e standing.SloppyFunction x env = mark_at a (function_owner_in a.tables x env) ∷ []
fresh_context a e standing.Plain x env = []
fresh_context a e standing.Branch x env = []
fresh_context a e standing.DefaultExport x env = []
fresh_context a e standing.Label x env = []
fresh_context a e standing.Imported x env = []
fresh_context a e standing.Exported x env = []
fresh_context a e r x env = mark_at a (taker_in r env) ∷ []

abbrev pub kept_or : List ℕ → List ℕ → List ℕ
kept_or [] new = new
kept_or (m ∷ ms) new = m ∷ ms

abbrev pub context_of : Marking → Bool → Standing → List Open → Ident → List ℕ
context_of a e r env i = kept_or i.ctxt (fresh_context a e r i.sym env)

abbrev pub context_in : Marking → Bool → Standing → List Open → Node-F Node → List ℕ
context_in a e r env (Node-F.Identifier k i) = context_of a e r env i
context_in a e r env _ = []

abbrev pub context_at : Marking → Bool → List Open → Option (Place × Node) → List ℕ
context_at a e env None = []
context_at a e env (Some q) = context_in a e q.0.standing env (out-Node q.1)

-- which children of a node are exported by their names
abbrev pub exports_at : Exports → ℕ → Bool
exports_at (exports.Each e) i = e
exports_at (exports.Only n) i = i == n

-- the context that the last walk writes at a path; `e` is whether the node is exported by its name
abbrev pub written : Marking → Bool → List Open → ℕ → Place → Node → Contexts
written a e env n w t p = context_at a (is_exported e t p) (open_round env n w t p) (place_at w t p)

-- the children, each as the walk leaves it
abbrev pub walked : Marking → (ℕ → Bool) → (ℕ → List Open) → ℕ → (ℕ → Place) → List Node → List Node
walked a es envs n places [] = []
walked a es envs n places (t ∷ ts) =
    remarked (written a (es zero) (envs zero) n (places zero) t) t ∷ walked a (λ i. es (suc i)) (λ i. envs (suc i)) (n + scope_count (places zero) t) (λ i. places (suc i)) ts
