-- The tree that a JSON value stands for, or the path to its first fault.
use Rattle.std.specs.Prelude.{ℕ, suc, List, [], ◌∷◌, codes, Bool, true, false, unwrap_or, is_some, Option, option_and_then, Ok, Err, find, if◌then◌else◌}
use Rattle.std.specs.Str.{bytes_eq}
use Rattle.json.specs.Json.{Json, null, boolean, number, string, array, object, Items, no_items, item, Members, no_members, member}
use Rattle.json.specs.Find.{as_str, get_member}
use Rattle.swc_tree_marks.specs.Globals.{Table}
use Rattle.swc_tree_marks.specs.declared.ident.Ident.{Ident}
use Rattle.swc_tree_node.specs.declared.kind.Kind.{Kind}
use Rattle.swc_tree_node.specs.declared.kind.Class.{Class}
use Rattle.swc_tree_node.specs.declared.slot.Content.{Content}
use Rattle.swc_tree_node.specs.declared.slot.Content.TheVariants as content
use Rattle.swc_tree_node.specs.declared.slot.Slot.{Slot}
use Rattle.swc_tree_node.specs.declared.slot.Slot.TheVariants as slot
use Rattle.swc_tree_node.specs.declared.slot.Role.{Role}
use Rattle.swc_tree_node.specs.declared.node.Node.{Node, Absent, Flag, Word, Text, Span, List as Many, Identifier, Tree}
use Rattle.swc_tree_node.specs.Table.{kinds_of, name_of, fields_of, is_identifier}
use Rattle.jsbase_form.specs.Reads.{Read, ◌>>=◌, at, found, key, index}
use Rattle.jsbase_form.specs.Leaves.{span_at, context_at, text_at, flag_at, word_at}

-- a single leaf; a node is read from an object alone
abbrev pub leaf_at : Content → Json → Read Node
leaf_at content.Span d = span_at d >>= (λ x. Ok (Span x))
leaf_at content.Text d = text_at d >>= (λ x. Ok (Text x))
leaf_at content.Flag d = flag_at d >>= (λ x. Ok (Flag x))
leaf_at (content.Word ws) d = word_at ws d >>= (λ w. Ok (Word w))
leaf_at (content.Node c) d = Err []

-- the value of a key, the last where it comes twice; an absent key counts as null
abbrev pub value_of : List ℕ → Members → Json
value_of k ms = unwrap_or (get_member k ms) null

unfoldable pub ident_at : Table → Members → Read Ident
ident_at table ms = at (key (codes "span")) (span_at (value_of (codes "span") ms)) >>= (λ span.
    at (key (codes "ctxt")) (context_at table (value_of (codes "ctxt") ms)) >>= (λ ctxt.
    at (key (codes "sym")) (text_at (value_of (codes "sym") ms)) >>= (λ sym.
    Ok (record { span = span; ctxt = ctxt; sym = sym }))))

-- the kind of a list that has the name
abbrev pub named : List ℕ → List Kind → Option Kind
named name kinds = find (λ k. bytes_eq (name_of k) name) kinds

unfoldable pub kind_at : Class → Members → Read Kind
kind_at c ms = found (option_and_then (λ name. named name (kinds_of c)) (option_and_then as_str (get_member (codes "type") ms)))

-- how the value of each key is read in each place
abbrev pub Keys : Type 0
Keys = List ℕ → Slot → Read Node

-- the fields in the table's order
abbrev pub fields_at : Keys → List (List ℕ × Slot × Role) → Read (List Node)
fields_at keys [] = Ok []
fields_at keys (f ∷ fs) = at (key f.0) (keys f.0 f.1) >>= (λ t. fields_at keys fs >>= (λ ts. Ok (t ∷ ts)))

unfoldable pub body_at : Table → Members → Keys → Kind → Read Node
body_at table ms keys k = if is_identifier k then ident_at table ms >>= (λ i. Ok (Identifier k i)) else fields_at keys (fields_of k) >>= (λ ts. Ok (Tree k ts))

abbrev pub node_at : Table → Members → Keys → Class → Read Node
node_at table ms keys c = kind_at c ms >>= body_at table ms keys

abbrev pub null_as : Slot → Read Node
null_as (slot.Optional c) = Ok Absent
null_as (slot.OptionalList c) = Ok Absent
null_as slot.Pairs = Ok Absent
null_as _ = Err []

abbrev pub single_as : Json → Slot → Read Node
single_as d (slot.One c) = leaf_at c d
single_as d (slot.Optional c) = leaf_at c d
single_as d _ = Err []

abbrev pub listed : Read (List Node) → Read Node
listed ts = ts >>= (λ ts. Ok (Many ts))

abbrev pub are_two : Items → Bool
are_two (item a (item b no_items)) = true
are_two _ = false

-- the length of a pair is looked at before its items
abbrev pub array_as : Items → (Slot → Read (List Node)) → Slot → Read Node
array_as ds each (slot.One c) = leaf_at c (array ds)
array_as ds each (slot.Optional c) = leaf_at c (array ds)
array_as ds each (slot.List c) = listed (each (slot.One c))
array_as ds each (slot.Holes c) = listed (each (slot.Optional c))
array_as ds each (slot.OptionalList c) = listed (each (slot.One c))
array_as ds each slot.Pair = if are_two ds then listed (each (slot.One content.Text)) else Err []
array_as ds each slot.Pairs = listed (each slot.Pair)

abbrev pub object_of : Table → Members → Keys → Content → Read Node
object_of table ms keys (content.Node c) = node_at table ms keys c
object_of table ms keys _ = Err []

abbrev pub object_as : Table → Members → Keys → Slot → Read Node
object_as table ms keys (slot.One c) = object_of table ms keys c
object_as table ms keys (slot.Optional c) = object_of table ms keys c
object_as table ms keys _ = Err []

abbrev mutual
  -- what a value is in a place
  pub seen : Table → Json → Slot → Read Node
  seen table null s = null_as s
  seen table (boolean b) s = single_as (boolean b) s
  seen table (number n) s = single_as (number n) s
  seen table (string x) s = single_as (string x) s
  seen table (array ds) s = array_as ds (items_seen table 0 ds) s
  seen table (object ms) s = object_as table ms (members_seen table ms) s

  -- the items, the first of which stands at index i
  pub items_seen : Table → ℕ → Items → Slot → Read (List Node)
  items_seen table i no_items s = Ok []
  items_seen table i (item d ds) s = at (index i) (seen table d s) >>= (λ t. items_seen table (suc i) ds s >>= (λ ts. Ok (t ∷ ts)))

  -- what the value of a key is in a place: the last, where the key comes twice
  pub members_seen : Table → Members → Keys
  members_seen table no_members k s = null_as s
  members_seen table (member l d ms) k s = if is_some (get_member k ms) then members_seen table ms k s else (if bytes_eq l k then seen table d s else null_as s)
