-- Steps of the walks over pieces, and over a text.
use Rattle.std.specs.BTreeMap.{BTreeMap, get}
use Rattle.std.specs.List.{Contains}
use Rattle.std.specs.List.Sorted.{IsNonDecreasing}
use Rattle.std.specs.Ordering.{nat_cmp}
use Rattle.std.specs.Prelude.{◌≡◌, ℕ, ◌+◌, ◌-◌, ◌<◌, ◌≤◌, Bool, Some, None, List, [], ◌∷◌, ◌++◌, drop, map, slice_get, take}
use Rattle.text_lexer.specs.declared.blank.Comments.{Comments}
use Rattle.text_pieces.specs.Tokens.{Piece}
use Rattle.text_commented.specs.Commented.{ArePut, ArePutAt, IsSetFrom, Item, KeepsOrder, Stands, remark, token}
use Rattle.text_commented.specs.Places.{places}
use Rattle.text_commented.specs.declared.check.Walk.{Walk}
use Rattle.text_commented.specs.declared.noted.Noted.{Noted}
use Rattle.text_commented.specs.declared.remark.At.{At}
use Rattle.text_commented.specs.declared.remark.At.TheVariants as stand
use Rattle.text_commented.specs.declared.remark.Placed as code
use Rattle.text_commented.specs.declared.remark.Remark.{Remark}

-- a comment that is put among pieces: how many of these are before it, and its number
abbrev pub Placed : Type 0
Placed = ℕ × ℕ

abbrev pub placed_view : code.Placed → Placed
placed_view p = (p.before, p.number)

abbrev pub placed_at : ℕ → ℕ → Placed
placed_at before n = (before, n)

-- the pieces from a place on that so many are before, and comments among them
abbrev pub merged : ℕ → List Piece → List Placed → List Item
merged at ps [] = map token ps
merged at ps (r ∷ more) = map token (take (r.0 - at) ps) ++ remark r.1 ∷ merged r.0 (drop (r.0 - at) ps) more

-- the first of these has no fewer pieces before it
abbrev pub IsBehind : ℕ → List Placed → Type 0
IsBehind at [] = Unit {0}
IsBehind at (r ∷ more) = at ≤ r.0

-- from which number on those go on that are put at a place behind some
abbrev pub behind_all : ℕ → List ℕ → ℕ
behind_all from [] = from
behind_all from (n ∷ ns) = behind_all (n + 1) ns

-- some are put at a place behind so many pieces, and behind those that were put; others there go on from a number
pub record PutsFrom (rs : List Remark) (a : At) (before from : ℕ) (used : List Bool) (placed : List Placed) (now : List Bool) (made : List Placed) (to : ℕ) : Type 0 where
  pub numbers : List ℕ
  pub is : made ≡ placed ++ map (placed_at before) numbers
  pub are : ArePut rs a from used numbers now
  pub next : behind_all from numbers ≡ to

-- all that are put at a place
pub record PutsAt (rs : List Remark) (a : At) (before : ℕ) (used : List Bool) (placed : List Placed) (now : List Bool) (made : List Placed) : Type 0 where
  pub numbers : List ℕ
  pub is : made ≡ placed ++ map (placed_at before) numbers
  pub are : ArePut rs a 0 used numbers now

-- all that are put at some places
pub record PutsBehind (rs : List Remark) (places : List At) (before : ℕ) (used : List Bool) (placed : List Placed) (now : List Bool) (made : List Placed) : Type 0 where
  pub numbers : List ℕ
  pub is : made ≡ placed ++ map (placed_at before) numbers
  pub are : ArePutAt rs places used (map remark numbers) now

-- from where the walk is on, a text is written with these items
abbrev pub GoesOn : Comments → List ℕ → List Remark → Walk → List Item → Type 0
GoesOn c whole rs s items = IsSetFrom c whole rs s.fresh s.ending (map (λ d. d.now) s.due.items) items s.rest.now

-- behind items the text goes on with others: so it does with those and them
abbrev pub Steps : Comments → List ℕ → List Remark → List Item → Walk → Walk → Type 0
Steps c whole rs items s t = (more : List Item) → GoesOn c whole rs t more → GoesOn c whole rs s (items ++ more)

-- a comment is given behind another, or is it, and stands where that does
abbrev pub GoesBehind : List Remark → ℕ → ℕ → Type 0
GoesBehind rs m n = (m ≤ n) × ((a : At) → Stands (slice_get rs m) a → Stands (slice_get rs n) a)

-- of each of some comments there is one among others that goes behind it
abbrev pub Covers : List Remark → List ℕ → List ℕ → Type 0
Covers rs others near = (m : ℕ) → Contains near m → (n : ℕ) × Contains others n × GoesBehind rs m n

-- behind those that are covered items keep the order
abbrev pub KeepsOn : List Remark → List ℕ → List Item → Type 0
KeepsOn rs others items = (near : List ℕ) → Covers rs others near → KeepsOrder rs near items

-- no place is noted but those that are listed
abbrev pub AreListed : Noted → Type 0
AreListed s = (a : ℕ) → ¬ Contains s.listed.items a → get nat_cmp s.behind a ≡ None

-- ... and these are in order
pub record IsReady (s : Noted) : Type 0 where
  pub listed : AreListed s
  pub rise : IsNonDecreasing s.listed.items

-- what is noted of places stays
abbrev pub IsKept : BTreeMap ℕ ℕ → BTreeMap ℕ ℕ → Type 0
IsKept old new = (a b : ℕ) → get nat_cmp old a ≡ Some b → get nat_cmp new a ≡ Some b

-- a place is noted, with how many pieces are before the comments there
pub record Notes (old new : Noted) (place before : ℕ) : Type 0 where
  pub kept : IsKept old.behind new.behind
  pub noted : get nat_cmp new.behind place ≡ Some before
  pub listed : AreListed old → AreListed new

-- where a comment trails is noted
abbrev pub IsNoted : List Remark → BTreeMap ℕ ℕ → Placed → Type 0
IsNoted rs behind p = (a : ℕ) → Stands (slice_get rs p.1) (stand.Trails a) → get nat_cmp behind a ≡ Some p.0

pub record NotesOf (rs : List Remark) (old new : Noted) (p : Placed) : Type 0 where
  pub kept : IsKept old.behind new.behind
  pub noted : IsNoted rs new.behind p
  pub listed : AreListed old → AreListed new

-- a node that stops at a place, so many pieces from the first, does so before the comments there
abbrev pub StopsBefore : BTreeMap ℕ ℕ → ℕ → ℕ → Type 0
StopsBefore behind n a = (b : ℕ) → get nat_cmp behind a ≡ Some b → n < b

abbrev pub StopsIn : BTreeMap ℕ ℕ → ℕ → List At → Type 0
StopsIn behind n all = (a : ℕ) → Contains all (stand.Trails a) → StopsBefore behind n a

abbrev pub AreStopped : BTreeMap ℕ ℕ → ℕ → Piece → Type 0
AreStopped behind n p = StopsIn behind n (places p)
