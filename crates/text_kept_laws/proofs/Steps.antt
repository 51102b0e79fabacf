-- Pieces that become pieces with all written out.
use Rattle.std.proofs.Common.{◌≡◌, Bool, true, false, List, [], ◌∷◌, ◌++◌, refl, sym, subst}
use Rattle.swc_tree_node.specs.declared.node.Node.{Node, out-Node}
use Rattle.text_pieces.specs.declared.item.Ending.TheVariants as ending
use Rattle.text_pieces.specs.Forms.{when}
use Rattle.text_pieces.specs.Leaves.{is_let}
use Rattle.text_pieces.specs.Pieces.{written_with}
use Rattle.text_pieces.specs.Tokens.{Piece, closes}
use Rattle.text_kept_laws.specs.Paired.{WithPairs}
use Rattle.text_kept_laws.specs.Paired.WithPairs.{same as unchanged, join as joined, after as further, around}
use Rattle.text_kept_laws.proofs.PiecesRows.{Kept}
use Rattle.text_kept_laws.proofs.Plain.{Plain, plain_kept as any_plain}
use Rattle.text_kept_laws.specs.Written.{AsWritten, in_pair}
use Rattle.text_kept_laws.specs.Written.AsWritten.{after, join, pair, same}

abbrev pub R : List Piece → List Piece → Type 0
R = AsWritten

pub even : (ps : List Piece) → R ps ps
even ps = same ps ps refl

pub equal : (ps qs : List Piece) → ps ≡ qs → R ps qs
equal ps qs e = subst (R ps) e (even ps)

-- two lists of pieces of which each is what is written otherwise
pub stated : (ps qs rs ss : List Piece) → ps ≡ rs → qs ≡ ss → R rs ss → R ps qs
stated ps qs rs ss e f h = subst (λ (l : List Piece). R l qs) (sym e) (subst (R rs) (sym f) h)

-- behind the same pieces, and before them
pub behind : (ps qs rs : List Piece) → R qs rs → R (ps ++ qs) (ps ++ rs)
behind ps qs rs h = join ps ps qs rs (even ps) h

pub before : (ps qs rs : List Piece) → R qs rs → R (qs ++ ps) (rs ++ ps)
before ps qs rs h = join qs rs ps ps h (even ps)

-- how what stands before ends is no token
pub let_ends : (b c : Bool) → R (when b (closes ending.Let)) (when c (closes ending.Let))
let_ends true true = same (closes ending.Let ∷ []) (closes ending.Let ∷ []) refl
let_ends true false = same (closes ending.Let ∷ []) [] refl
let_ends false true = same [] (closes ending.Let ∷ []) refl
let_ends false false = same [] [] refl

-- pairs that are set are left out again
pub bared : {ps qs : List Piece} → WithPairs ps qs → R qs ps
bared (unchanged ps) = even ps
bared (joined ps qs rs ss c d) = join qs ps ss rs (bared c) (bared d)
bared (further ps qs rs c d) = after rs qs ps (bared d) (bared c)
bared (around ps qs c) = after (in_pair qs) qs ps (pair qs) (bared c)

-- nodes of which no more is seen
pub plain_kept : (b : Bool) (t u : Node) → Plain b t → Plain b u → R (written_with false t) (written_with false u) → Kept R true t u
plain_kept b t u p q h = any_plain R even join b t u p q (let_ends (is_let (out-Node t)) (is_let (out-Node u))) h
