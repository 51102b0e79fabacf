-- Fields that are read one after another.
use Rattle.std.proofs.Common.{◌≡◌, ◌<◌, ℕ, suc, ◌+◌, List, [], ◌∷◌, ◌++◌, length, map, drop, get_or, Ok, Err, ap, sym, ◌∙◌, add-one}
use Rattle.std.proofs.Math.Seq.{drop-cons}
use Rattle.swc_tree_node.specs.declared.slot.Field.{Field}
use Rattle.swc_tree_node.specs.declared.slot.Slot.{Slot}
use Rattle.swc_tree_node.specs.declared.slot.Role.{Role}
use Rattle.swc_tree_node.specs.declared.node.Node.{Node}
use Rattle.jsbase_form.specs.Reads.{Path, Read, ◌>>=◌, at, key}
use Rattle.jsbase_form.specs.Trees.{Keys, fields_at}
use Rattle.jsbase_reader.proofs.Loops.{after, after-cons}

-- a field as the table's definition has it
abbrev pub row : Field → List ℕ × Slot × Role
row f = (f.key.now, f.slot, f.role)

-- the first field of several
field_is : (keys : Keys) (all_fields : List Field) (i : ℕ) (f : Field) (done : List Node) (all : Read (List Node)) (r : Read Node) → i < length all_fields
    → all ≡ after done (fields_at keys (map row (drop i all_fields))) → at (key (get_or all_fields i f).key.now) (keys (get_or all_fields i f).key.now (get_or all_fields i f).slot) ≡ r
    → all ≡ after done (r >>= (λ t. fields_at keys (map row (drop (suc i) all_fields)) >>= (λ ts. Ok (t ∷ ts))))
field_is keys all_fields i f done all r h was here =
    was ∙ ap (λ l. after done (fields_at keys (map row l))) (drop-cons all_fields i f h) ∙ ap (λ r. after done (r >>= (λ t. fields_at keys (map row (drop (suc i) all_fields)) >>= (λ ts. Ok (t ∷ ts))))) here

pub field_fails : (keys : Keys) (all_fields : List Field) (i : ℕ) (f : Field) (done : List Node) (all : Read (List Node)) (p : Path) → i < length all_fields
    → all ≡ after done (fields_at keys (map row (drop i all_fields))) → at (key (get_or all_fields i f).key.now) (keys (get_or all_fields i f).key.now (get_or all_fields i f).slot) ≡ Err p → all ≡ Err p
field_fails keys all_fields i f done all p h was here = field_is keys all_fields i f done all (Err p) h was here

pub field_read : (keys : Keys) (all_fields : List Field) (i : ℕ) (f : Field) (done : List Node) (all : Read (List Node)) (t : Node) → i < length all_fields
    → all ≡ after done (fields_at keys (map row (drop i all_fields))) → at (key (get_or all_fields i f).key.now) (keys (get_or all_fields i f).key.now (get_or all_fields i f).slot) ≡ Ok t
    → all ≡ after (done ++ t ∷ []) (fields_at keys (map row (drop (i + 1) all_fields)))
field_read keys all_fields i f done all t h was here =
    field_is keys all_fields i f done all (Ok t) h was here ∙ after-cons done t (fields_at keys (map row (drop (suc i) all_fields)))
    ∙ ap (λ n. after (done ++ t ∷ []) (fields_at keys (map row (drop n all_fields)))) (sym (add-one i))
