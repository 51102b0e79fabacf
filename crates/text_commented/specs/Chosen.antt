-- At which of the nodes round it a comment of a text stands.
use Rattle.std.specs.List.{Contains}
use Rattle.std.specs.Prelude.{◌≡◌, ℕ, ◌+◌, ◌-◌, ◌^◌, ◌<◌, ◌≤◌, max, Bool, IsTrue, List, [], ◌∷◌}
use Rattle.text_comments.specs.declared.comment.Comment.{Comment}
use Rattle.text_comments.specs.Lines.{ends_line, has_line_end}
use Rattle.text_pieces.specs.Tokens.{Piece}
use Rattle.text_commented.specs.Commented.{part, written}
use Rattle.text_commented.specs.Places.{all_places, tight_places}
use Rattle.text_commented.specs.Sites.{IsFirstBegun, IsLastBegun, IsLastStop}
use Rattle.text_commented.specs.declared.remark.At.{At}
use Rattle.text_commented.specs.declared.remark.At.TheVariants as stand
use Rattle.text_commented.specs.declared.remark.Remark.{Remark}

-- a line ends between the token before a comment, or the beginning of the text, and the comment
abbrev pub begins_line : List ℕ → Comment → Bool
begins_line text k = has_line_end (part text (max k.trails 1) k.span.lo)

-- a node stops with the token before it
abbrev pub StopsBefore : List At → Comment → Type 0
StopsBefore all k = (0 < k.trails) × Contains all (stand.Trails k.trails)

-- a node begins with the token behind it
abbrev pub BeginsBehind : List At → Comment → Type 0
BeginsBehind all k = Contains all (stand.Leads k.leads)

-- a node stops behind the first byte of that token, as a block does with its brace
abbrev pub ClosesBehind : List At → Comment → Type 0
ClosesBehind all k = (k.leads + 1 < 2 ^ 32) × Contains all (stand.Trails (k.leads + 1))

-- no node stops or begins right beside it
abbrev pub IsAlone : List At → Comment → Type 0
IsAlone all k = ¬ StopsBefore all k × ¬ BeginsBehind all k

-- behind the last node that stops before it, or before the first that begins behind it, whichever is nearer; of two as near behind that which stops
abbrev pub IsNearest : List At → Comment → At → Type 0
IsNearest all k (stand.Trails n) = IsLastStop all k.trails n × ((m : ℕ) → IsFirstBegun all k.leads m → k.trails - n ≤ m - k.leads)
IsNearest all k (stand.Leads n) = IsFirstBegun all k.leads n × ((m : ℕ) → IsLastStop all k.trails m → n - k.leads < k.trails - m)

-- Where a comment stands, if a line may end there: behind what stops right before it, unless it begins a line and something begins right
-- behind it; else before that; else behind what closes right behind it; else at the nearest.
pub data IsFound (text : List ℕ) (all : List At) (k : Comment) (a : At) : Type 0 where
  behind : StopsBefore all k → ¬ (BeginsBehind all k × IsTrue (begins_line text k)) → a ≡ stand.Trails k.trails → IsFound text all k a
  before : BeginsBehind all k → (StopsBefore all k → IsTrue (begins_line text k)) → a ≡ stand.Leads k.leads → IsFound text all k a
  within : IsAlone all k → ClosesBehind all k → a ≡ stand.Trails (k.leads + 1) → IsFound text all k a
  near : IsAlone all k → ¬ ClosesBehind all k → IsNearest all k a → IsFound text all k a

-- it ends a line, at a place between tokens between which none may end
abbrev pub IsCaught : List ℕ → List At → Comment → At → Type 0
IsCaught text tight k a = IsTrue (ends_line (written text k)) × Contains tight a

-- Where it is caught, it stands before the last node that begins before it; where that or any place is missing, it is told to lead what
-- is behind it.
pub data IsChosen (text : List ℕ) (all tight : List At) (k : Comment) (a : At) : Type 0 where
  stays : IsFound text all k a → ¬ IsCaught text tight k a → IsChosen text all tight k a
  moves : (found : At) (n : ℕ) → IsFound text all k found → IsCaught text tight k found → IsLastBegun all k.trails n → a ≡ stand.Leads n → IsChosen text all tight k a
  held : (found : At) → IsFound text all k found → IsCaught text tight k found → ((n : ℕ) → ¬ IsLastBegun all k.trails n) → a ≡ stand.Leads k.leads → IsChosen text all tight k a
  lost : ((b : At) → ¬ IsFound text all k b) → a ≡ stand.Leads k.leads → IsChosen text all tight k a

-- each comment has its remark among pieces, in their order
abbrev pub AreChosen : List ℕ → List Piece → List Comment → List Remark → Type 0
AreChosen text ps [] [] = Unit {0}
AreChosen text ps (k ∷ ks) (r ∷ rs) = (r.text.now ≡ written text k) × IsChosen text (all_places ps) (tight_places ps) k r.at × AreChosen text ps ks rs
AreChosen text ps _ _ = ⊥
