-- Fields in a row, and one more behind them.
use Rattle.std.proofs.Common.{List, [], ◌∷◌, ◌++◌}
use Rattle.swc_tree_node.specs.declared.slot.Slot.{Slot}
use Rattle.swc_tree_node.specs.declared.node.Node.{Node}
use Rattle.swc_tree_node.specs.Fits.{Fits, FieldsFit}

pub fit_snoc : (ss : List Slot) (s : Slot) (ts : List Node) (t : Node) → FieldsFit ss ts → Fits t s → FieldsFit (ss ++ s ∷ []) (ts ++ t ∷ [])
fit_snoc [] s [] t h f = (f, tt)
fit_snoc [] s (x ∷ ts) t h f = absurd h
fit_snoc (r ∷ ss) s [] t h f = absurd h
fit_snoc (r ∷ ss) s (x ∷ ts) t h f = (h.0, fit_snoc ss s ts t h.1 f)

both : (ss : List Slot) (s : Slot) (ts : List Node) (t : Node) → FieldsFit (ss ++ s ∷ []) (ts ++ t ∷ []) → FieldsFit ss ts × Fits t s
both [] s [] t h = (tt, h.0)
both [] s (x ∷ []) t h = absurd h.1
both [] s (x ∷ y ∷ ts) t h = absurd h.1
both (r ∷ []) s [] t h = absurd h.1
both (r ∷ q ∷ ss) s [] t h = absurd h.1
both (r ∷ ss) s (x ∷ ts) t h = let p = both ss s ts t h.1 in ((h.0, p.0), p.1)

pub fit_init : (ss : List Slot) (s : Slot) (ts : List Node) (t : Node) → FieldsFit (ss ++ s ∷ []) (ts ++ t ∷ []) → FieldsFit ss ts
fit_init ss s ts t h = (both ss s ts t h).0

pub fit_last : (ss : List Slot) (s : Slot) (ts : List Node) (t : Node) → FieldsFit (ss ++ s ∷ []) (ts ++ t ∷ []) → Fits t s
fit_last ss s ts t h = (both ss s ts t h).1

pub fit_none : (ss : List Slot) (s : Slot) → FieldsFit (ss ++ s ∷ []) [] → ⊥
fit_none [] s h = h
fit_none (r ∷ ss) s h = h
