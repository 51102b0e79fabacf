-- An object of which one member is read by itself, between those before it and those behind it.
use Rattle.std.specs.Prelude.{◌≡◌, ℕ, ◌<◌, ◌≤◌, List, [], ◌∷◌, ◌++◌, length, codes, Ok, Option, Some, None, Result, option_and_then}
use Rattle.std.specs.Borrow.{Bor}
use Rattle.json.specs.Token.{Token}
use Rattle.json.specs.Value.{value_view}
use Rattle.json.specs.declared.value.Value.{Value}
use Rattle.json.specs.Json.{Json, Members, no_members, member, Items, members, items, value, parse_map, if_last}
use Rattle.swc_tree_marks.specs.Globals.{Table}
use Rattle.swc_tree_node.specs.declared.kind.Class.{Class}
use Rattle.swc_tree_node.specs.declared.kind.Class.TheVariants as class
use Rattle.swc_tree_node.specs.declared.kind.Kind.{Kind}
use Rattle.swc_tree_node.specs.declared.node.Node.{Node, List as Many, Tree}
use Rattle.swc_tree_node.specs.declared.slot.Content.{Content}
use Rattle.swc_tree_node.specs.declared.slot.Content.TheVariants as content
use Rattle.swc_tree_node.specs.declared.slot.Slot.{Slot}
use Rattle.swc_tree_node.specs.declared.slot.Slot.TheVariants as slot
use Rattle.jsbase_form.specs.Reads.{Read, ◌>>=◌, at, found, key as key_part}
use Rattle.jsbase_form.specs.Tables.{table_at}
use Rattle.jsbase_form.specs.Trees.{items_seen, kind_at, members_seen, seen, value_of}
use Rattle.jsbase_reader.specs.declared.envelope.Envelope.{Envelope}
use Rattle.jsbase_reader.specs.declared.error.ReadError.{ReadError}
use Rattle.jsbase_reader.specs.Answers.{Gives}
use Rattle.jsbase_reader.specs.Envelopes.{document, envelope_in, max_depth}

-- members, and others behind them
abbrev pub joined : Members → Members → Members
joined no_members ms = ms
joined (member k j rest) ms = member k j (joined rest ms)

-- the tokens lead over some members to the value of a key
abbrev pub Leads : ℕ → List ℕ → Members → List Token → List Token → Type 0
Leads d key before old new = (n : ℕ) × (length new ≤ n)
    × (members (value d) (length old) old ≡ option_and_then (λ p. parse_map (joined before) (parse_map (member key p.0) (members (value d) n p.1))) (value d new))

-- the same of a key that is looked for
abbrev pub LeadsIfAsked : ℕ → Option (Bor (List ℕ)) → Members → List Token → List Token → Type 0
LeadsIfAsked d (Some key) before old new = Leads d key.now before old new
LeadsIfAsked d None before old new = ⊥

-- the tokens are the last members of an object, and its end
abbrev pub Ends : ℕ → Members → List Token → List Token → Type 0
Ends d ms old new = (n : ℕ) → length old ≤ n → members (value d) n old ≡ Some (ms, new)

-- the tokens are no members of an object, and its end
abbrev pub NoMembers : ℕ → List Token → Type 0
NoMembers d old = (n : ℕ) → length old ≤ n → members (value d) n old ≡ None

-- the tokens are the items of an array, and its end, and they are these nodes
pub record AreItems (d : ℕ) (table : Table) (content : Content) (old new : List Token) (nodes : List Node) : Type 0 where
  pub each : Items
  pub read : items (value d) (length old) old ≡ Some (each, new)
  pub seen : items_seen table 0 each (slot.One content) ≡ Ok nodes

-- a value was read, and its node stands behind those before it
pub record IsItem (d : ℕ) (table : Table) (s : Slot) (old new : List Token) (before after : List Node) : Type 0 where
  pub item : Json
  pub read : value d old ≡ Some (item, new)
  pub shorter : length new < length old
  pub node : Node
  pub seen : seen table item s ≡ Ok node
  pub pushed : after ≡ before ++ node ∷ []

-- a value was read, and stands with its key behind the members before it
pub record IsMember {A : Type 0} (d : ℕ) (k : List ℕ) (old new : List Token) (before after : List (Bor (List ℕ) × Value A)) : Type 0 where
  pub key : Bor (List ℕ)
  pub named : key.now ≡ k
  pub item : Value A
  pub read : value d old ≡ Some (value_view item, new)
  pub shorter : length new < length old
  pub pushed : after ≡ before ++ (key, item) ∷ []

-- the programs of a class have statements of this content
abbrev pub HasStatements : Class → Content → Type 0
HasStatements class.Module c = c ≡ content.Node class.ModuleItem
HasStatements class.Script c = c ≡ content.Node class.Stmt
HasStatements _ c = ⊥

-- the tree is made of its statements and of what its other members are
pub record IsMade (table : Table) (c : Class) (others : Members) (body : List Node) (tree : Node) : Type 0 where
  pub kind : Kind
  pub named : kind_at c others ≡ Ok kind
  pub span : Node
  pub spanned : members_seen table others (codes "span") (slot.One content.Span) ≡ Ok span
  pub shebang : Node
  pub begun : members_seen table others (codes "shebang") (slot.Optional content.Text) ≡ Ok shebang
  pub is : tree ≡ Tree kind (span ∷ Many body ∷ shebang ∷ [])

-- a value was read, and it is the tree of a program of the class
pub record IsProgram (d : ℕ) (table : Table) (c : Class) (old new : List Token) (tree : Node) : Type 0 where
  pub program : Json
  pub read : value d old ≡ Some (program, new)
  pub seen : seen table program (slot.One (content.Node c)) ≡ Ok tree

-- the table of marks among some members
abbrev pub table_among : Members → Read Table
table_among ms = at (key_part (codes "marks")) (table_at (value_of (codes "marks") ms))

-- a value was read, and the answer is the envelope that it is, or its fault
pub record IsWhole (d : ℕ) (c : Class) (old new : List Token) (answer : Result Envelope ReadError) : Type 0 where
  pub whole : Json
  pub read : value d old ≡ Some (whole, new)
  pub gives : Gives answer (envelope_in c whole)

-- the envelope of the tokens of a text
abbrev pub envelope_in_tokens : Class → List Token → Read Envelope
envelope_in_tokens c ts = found (option_and_then (λ p. if_last p.0 p.1) (value max_depth ts)) >>= envelope_in c

-- the envelope of a text
abbrev pub envelope_in_document : Class → List ℕ → Read Envelope
envelope_in_document c text = found (document text) >>= envelope_in c
