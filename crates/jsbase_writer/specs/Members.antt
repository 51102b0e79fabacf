-- The members of an object before they are written: for private clauses.
use Rattle.std.specs.Prelude.{◌≡◌, ◌≢◌, ◌≤◌, ℕ, suc, max, List, [], ◌∷◌, ◌++◌, length, take, drop, ⊤}
use Rattle.std.specs.Ordering.{nat_cmp}
use Rattle.std.specs.declared.cmp.Ordering.TheVariants.{Greater}
use Rattle.std.specs.Cmp.Lexicographic.{slice_cmp}
use Rattle.json.specs.Json.{Json, string, Members, no_members, member}
use Rattle.swc_tree_node.specs.declared.node.Node.{Node, fold-Node}
use Rattle.swc_tree_node.specs.declared.node.Node.TheOpen.{Node-F}
use Rattle.swc_tree_node.specs.Table.{name_of}
use Rattle.jsbase_form.specs.Known.{NumbersShort}
use Rattle.jsbase_form.specs.Writing.{json}
use Rattle.jsbase_writer.specs.declared.members.Part.{Part}
use Rattle.jsbase_writer.specs.declared.members.Part.TheVariants as part
use Rattle.jsbase_writer.specs.declared.members.Member.{Member}

abbrev pub greatest : List ℕ → ℕ
greatest [] = 0
greatest (h ∷ hs) = max h (greatest hs)

abbrev pub height_step : Node-F ℕ → ℕ
height_step (Node-F.List hs) = suc (greatest hs)
height_step (Node-F.Tree k hs) = suc (greatest hs)
height_step _ = 0

-- how high a tree is
abbrev pub height : Node → ℕ
height = fold-Node ℕ height_step

abbrev pub part_data : Part → Json
part_data (part.Name k) = string (name_of k)
part_data (part.Node t) = json t.now

abbrev pub members_data : List Member → Members
members_data [] = no_members
members_data (m ∷ ms) = member m.key.now (part_data m.part) (members_data ms)

-- no member has the key
abbrev pub IsNew : List ℕ → List Member → Type 0
IsNew k [] = ⊤
IsNew k (m ∷ ms) = (k ≢ m.key.now) × IsNew k ms

abbrev pub AllBelow : List ℕ → List Member → Type 0
AllBelow k [] = ⊤
AllBelow k (m ∷ ms) = (slice_cmp nat_cmp k m.key.now ≡ Greater) × AllBelow k ms

abbrev pub FirstNotBelow : List ℕ → List Member → Type 0
FirstNotBelow k [] = ⊤
FirstNotBelow k (m ∷ ms) = slice_cmp nat_cmp k m.key.now ≢ Greater

-- the members before the place have keys below k, and the one there has not
abbrev pub IsPlace : List ℕ → List Member → ℕ → Type 0
IsPlace k ms i = (i ≤ length ms) × AllBelow k (take i ms) × FirstNotBelow k (drop i ms)

-- the member stands somewhere between the old ones
abbrev pub Inserts : Member → List Member → List Member → Type 0
Inserts m old new = (front : List Member) × (back : List Member) × (old ≡ front ++ back) × (new ≡ front ++ m ∷ back)

abbrev pub part_height : Part → ℕ
part_height (part.Name k) = 0
part_height (part.Node t) = height t.now

abbrev pub tallest : List Member → ℕ
tallest [] = 0
tallest (m ∷ ms) = max (part_height m.part) (tallest ms)

abbrev pub PartShort : Part → Type 0
PartShort (part.Name k) = ⊤
PartShort (part.Node t) = NumbersShort t.now

abbrev pub MembersShort : List Member → Type 0
MembersShort [] = ⊤
MembersShort (m ∷ ms) = PartShort m.part × MembersShort ms
