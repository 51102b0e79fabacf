-- A table in which the list of one text was written.
use Rattle.std.proofs.Common.{◌≡◌, ℕ, Bool, true, false, Option, Some, None, List, [], ◌++◌, String, Vec, Global, string_bytes, vec_len, cond, refl, sym, ◌∙◌, ap}
use Rattle.std.specs.BTreeMap as tree
use Rattle.std.specs.BTreeMap.{BTreeMap, get_by_text}
use Rattle.std.specs.Bool.{if◌then◌else◌}
use Rattle.std.specs.Option.{UnwrapsOrElse, option_map_or}
use Rattle.std.specs.Str.{bytes_eq}
use Rattle.std.specs.String.{string_cmp}
use Rattle.std.proofs.lemmas.List.{append-nil}
use Rattle.std.proofs.lemmas.Map.Text.{btree_map_updates_text}
use Rattle.std.proofs.lemmas.Slice.Eq.{bytes_eq-Decides}
use Rattle.swc_base_rename_naming.specs.Chained.{ids_in}

abbrev Table : Type 0
Table = BTreeMap (String Global) (Vec ℕ Global)

-- a list that was made anew
abbrev pub IsMade : Vec ℕ Global → Type 0
IsMade v = (v.items ≡ []) × (vec_len v ≡ 0)

-- the list that was found for a text, or the empty one
items_found : (o : Option (Vec ℕ Global)) (v : Vec ℕ Global) → UnwrapsOrElse o IsMade v → v.items ≡ option_map_or (λ ids. ids.items) o []
items_found None v h = h.0
items_found (Some w) v h = ap (λ ids. ids.items) h

written_at : (m n : Table) (text : String Global) (was is : Vec ℕ Global) (more : List ℕ)
    → UnwrapsOrElse (tree.get string_cmp m text) IsMade was → is.items ≡ was.items ++ more → tree.Updates string_cmp m n text (Some is)
    → (x : List ℕ) (b : Bool) → bytes_eq (string_bytes text) x ≡ b → ids_in n x ≡ (if b then ids_in m x ++ more else ids_in m x)
written_at m n text was is more found pushed sets x true same =
    ap (λ o. option_map_or (λ ids. ids.items) o []) (btree_map_updates_text (string_bytes text) m n (Some is) sets x ∙ ap (λ b. cond b (Some is) (get_by_text m x)) same)
    ∙ pushed
    ∙ ap (λ ids. ids ++ more) (items_found (tree.get string_cmp m text) was found ∙ ap (ids_in m) ((bytes_eq-Decides (string_bytes text) x).0 same))
written_at m n text was is more found pushed sets x false other =
    ap (λ o. option_map_or (λ ids. ids.items) o []) (btree_map_updates_text (string_bytes text) m n (Some is) sets x ∙ ap (λ b. cond b (Some is) (get_by_text m x)) other)

-- where more is put behind the list of a text, each other text keeps its list
pub ids_written : (m n : Table) (text : String Global) (was is : Vec ℕ Global) (more : List ℕ)
    → UnwrapsOrElse (tree.get string_cmp m text) IsMade was → is.items ≡ was.items ++ more → tree.Updates string_cmp m n text (Some is)
    → (x : List ℕ) → ids_in n x ≡ (if bytes_eq (string_bytes text) x then ids_in m x ++ more else ids_in m x)
ids_written m n text was is more found pushed sets x = written_at m n text was is more found pushed sets x (bytes_eq (string_bytes text) x) refl

either_same : (b : Bool) (ids : List ℕ) → (if b then ids ++ [] else ids) ≡ ids
either_same true ids = append-nil ids
either_same false ids = refl

-- where nothing is put behind it, each text keeps its list
pub ids_kept : (m n : Table) (text : String Global) (was is : Vec ℕ Global)
    → UnwrapsOrElse (tree.get string_cmp m text) IsMade was → is.items ≡ was.items → tree.Updates string_cmp m n text (Some is)
    → (x : List ℕ) → ids_in n x ≡ ids_in m x
ids_kept m n text was is found same sets x = ids_written m n text was is [] found (same ∙ sym (append-nil was.items)) sets x ∙ either_same (bytes_eq (string_bytes text) x) (ids_in m x)
