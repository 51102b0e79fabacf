-- A text that is written with the tokens of a tree, and with comments that stand at its nodes.
use Rattle.std.specs.List.{All, Contains}
use Rattle.std.specs.Prelude.{◌≡◌, ℕ, ◌+◌, ◌-◌, ◌<◌, ◌≤◌, Bool, true, false, List, [], ◌∷◌, ◌++◌, length, map, take, drop, replicate, slice_get, slice_set, Option, Some, None, if◌then◌else◌, nat_lt}
use Rattle.swc_tree_node.specs.declared.node.Node.{Node}
use Rattle.text_lexer.specs.declared.blank.Comments.{Comments}
use Rattle.text_lexer.specs.Blanks.{blank}
use Rattle.text_pieces.specs.declared.item.Ending.{Ending}
use Rattle.text_pieces.specs.declared.item.Ending.TheVariants as ending
use Rattle.text_pieces.specs.Pieces.{framed_pieces, pieces}
use Rattle.text_pieces.specs.Tokens.{Piece}
use Rattle.text_follow.specs.Endings.{ending_behind}
use Rattle.text_follow.specs.Follows.{Follows, Takes, fresh_behind, goal_of}
use Rattle.text_comments.specs.Comments.{before_token, before_tokens}
use Rattle.text_comments.specs.declared.comment.Comment.{Comment}
use Rattle.text_commented.specs.Places.{is_token, places}
use Rattle.text_commented.specs.Why.{IsTold}
use Rattle.text_commented.specs.declared.left.Left.{Left}
use Rattle.text_commented.specs.declared.remark.At.{At}
use Rattle.text_commented.specs.declared.remark.At.TheVariants as stand
use Rattle.text_commented.specs.declared.remark.Remark.{Remark}

-- a piece of a tree, or a comment by its number among those given
pub data Item : Type 0 where
  token : Piece → Item
  remark : ℕ → Item

abbrev pub Stands : Option Remark → At → Type 0
Stands None a = ⊥
Stands (Some r) a = r.at ≡ a

-- Comments are put at a place, in the order in which they are given: each stands there, and was not put before; `used` says which
-- were, and `now` which are.
abbrev pub ArePut : List Remark → At → ℕ → List Bool → List ℕ → List Bool → Type 0
ArePut rs a from used [] now = now ≡ used
ArePut rs a from used (n ∷ ns) now = (from ≤ n) × (slice_get used n ≡ Some false) × Stands (slice_get rs n) a × ArePut rs a (n + 1) (slice_set used n true) ns now

-- at one place after another
abbrev pub ArePutAt : List Remark → List At → List Bool → List Item → List Bool → Type 0
ArePutAt rs [] used items now = (items ≡ []) × (now ≡ used)
ArePutAt rs (a ∷ more) used items now =
    (ns : List ℕ) × (next : List Bool) × (others : List Item) × (items ≡ map remark ns ++ others) × ArePut rs a 0 used ns next × ArePutAt rs more next others now

-- The pieces in their order, each with the comments that are put behind it.
abbrev pub PutsAmong : List Remark → List Bool → List Piece → List Item → List Bool → Type 0
PutsAmong rs used [] items now = (items ≡ []) × (now ≡ used)
PutsAmong rs used (p ∷ ps) items now =
    (put : List Item) × (next : List Bool) × (others : List Item) × (items ≡ token p ∷ (put ++ others)) × ArePutAt rs (places p) used put next × PutsAmong rs next ps others now

-- of two that stand at one place the first is given first
abbrev pub ComesBefore : List Remark → ℕ → ℕ → Type 0
ComesBefore rs m n = (a : At) → Stands (slice_get rs m) a → Stands (slice_get rs n) a → m < n

-- Between two tokens comments of one place stand in their order; `near` are those behind the last token.
abbrev pub KeepsOrder : List Remark → List ℕ → List Item → Type 0
KeepsOrder rs near [] = Unit {0}
KeepsOrder rs near (token p ∷ items) = KeepsOrder rs (if is_token p then [] else near) items
KeepsOrder rs near (remark n ∷ items) = ((m : ℕ) → Contains near m → ComesBefore rs m n) × KeepsOrder rs (n ∷ near) items

-- where nodes begin and stop behind the pieces among items
abbrev pub places_in : List Item → List At
places_in [] = []
places_in (token p ∷ items) = places p ++ places_in items
places_in (remark n ∷ items) = places_in items

-- Behind a comment that trails no node stops there any more.
abbrev pub AreLast : List Remark → List Item → Type 0
AreLast rs [] = Unit {0}
AreLast rs (token p ∷ items) = AreLast rs items
AreLast rs (remark n ∷ items) = ((a : ℕ) → Stands (slice_get rs n) (stand.Trails a) → ¬ Contains (places_in items) (stand.Trails a)) × AreLast rs items

-- the numbers of those that were not put, from n on
abbrev pub not_put : ℕ → List Bool → List ℕ
not_put n [] = []
not_put n (u ∷ us) = if u then not_put (n + 1) us else n ∷ not_put (n + 1) us

-- what stands in a text from one place to another; places are in bytes from 1
abbrev pub part : List ℕ → ℕ → ℕ → List ℕ
part whole from to = take (to - from) (drop (from - 1) whole)

-- a comment of a text as it is written there
abbrev pub written : List ℕ → Comment → List ℕ
written whole k = part whole k.span.lo k.span.hi

-- Behind a token none of the comments before it is due any more; a piece without one leaves them due.
abbrev pub due_behind : List ℕ → List ℕ → List (List ℕ) → List (List ℕ)
due_behind text rest due = if nat_lt (length rest) (length text) then [] else due

-- the comments that a text has before the tokens of a piece are those that are due
abbrev pub Meets : Comments → List ℕ → Bool → Piece → List ℕ → List ℕ → List (List ℕ) → Type 0
Meets c whole fresh p text rest due =
    length rest < length text → map (written whole) (before_tokens (length text) c (goal_of p) whole fresh text rest) ≡ due

-- From a place on a text is written with these items, and with no other comment; `due` are the comments behind the last token.
abbrev pub IsSetFrom : Comments → List ℕ → List Remark → Bool → Ending → List (List ℕ) → List Item → List ℕ → Type 0
IsSetFrom c whole rs fresh e due [] text =
    (ended : Bool) × (blank c fresh text ≡ Some (ended, [])) × (map (written whole) (before_token c whole fresh text) ≡ due)
IsSetFrom c whole rs fresh e due (remark n ∷ is) text =
    (r : Remark) × (slice_get rs n ≡ Some r) × IsSetFrom c whole rs fresh e (due ++ r.text.now ∷ []) is text
IsSetFrom c whole rs fresh e due (token p ∷ is) text =
    (rest : List ℕ) × Takes c false fresh e p text rest × Meets c whole fresh p text rest due
    × IsSetFrom c whole rs (fresh_behind fresh p) (ending_behind e p) (due_behind text rest due) is rest

abbrev pub IsSet : Comments → List Remark → List Item → List ℕ → Type 0
IsSet c rs items text = IsSetFrom c text rs true ending.Closed [] items text

-- A text has the tokens of a tree, and comments of those given and no others: each at most once, as it is written, between the tokens
-- round a frame where it stands, the last such frame if it trails, those of one place that stand between the same tokens in their order.
-- Just the others are left, and each is told why.
pub record IsWrittenWith (c : Comments) (tokens framed : List Piece) (rs : List Remark) (text : List ℕ) (left : List Left) : Type 0 where
  pub follows : Follows c false tokens text
  pub set : (used : List Bool) × (items : List Item) × PutsAmong rs (replicate (length rs) false) framed items used × KeepsOrder rs [] items × AreLast rs items × IsSet c rs items text × (map (λ l. l.number) left ≡ not_put 0 used)
  pub told : All (λ l. IsTold c framed (slice_get rs l.number) l.why) left

abbrev pub IsCommented : Comments → Node → List Remark → List ℕ → List Left → Type 0
IsCommented c t rs text left = IsWrittenWith c (pieces t) (framed_pieces t) rs text left
