-- The names that a pattern or a declaration binds, at each form of a node.
use Rattle.std.proofs.Common.{◌≡◌, ℕ, zero, suc, ◌+◌, ◌<◌, Bool, List, [], ◌∷◌, ◌++◌, length, map, take, get_or, append_assoc, append-nil, Result, Ok, Err, OnErr, rules, arith, add-one, refl, sym, ap, ◌∙◌}
use Rattle.std.specs.List.{flat_map}
use Rattle.swc_tree_node.specs.Lower.swc_tree_marks.specs.declared.span.Span.{Span as Span'}
use Rattle.swc_tree_node.specs.Lower.swc_tree_marks.specs.declared.ident.Ident.{Ident}
use Rattle.swc_tree_node.specs.declared.kind.Kind.{Kind}
use Rattle.swc_tree_node.specs.declared.kind.Word.{Word as Word'}
use Rattle.swc_tree_node.specs.declared.slot.Role.{Role}
use Rattle.swc_tree_node.specs.declared.node.Node.{Node, Absent, Flag, Word, Text, Span, List as Many, Identifier, Tree, the_lemmas}
use Rattle.swc_tree_scoping.specs.Places.{field_role}
use Rattle.swc_tree_scoping.specs.BoundNames.{Id, own_id, in_part, in_parts, bound_ids, PartlyAdded}

pub bound-Absent : bound_ids Absent ≡ []
bound-Absent = search (rules, the_lemmas)

pub bound-Flag : (x : Bool) → bound_ids (Flag x) ≡ []
bound-Flag x = search (rules, the_lemmas)

pub bound-Word : (w : Word') → bound_ids (Word w) ≡ []
bound-Word w = search (rules, the_lemmas)

pub bound-Text : (x : List ℕ) → bound_ids (Text x) ≡ []
bound-Text x = search (rules, the_lemmas)

pub bound-Span : (x : Span') → bound_ids (Span x) ≡ []
bound-Span x = search (rules, the_lemmas)

pub bound-Identifier : (k : Kind) (x : Ident) → bound_ids (Identifier k x) ≡ own_id k x
bound-Identifier k x = search (rules, the_lemmas)

folded_list : (ts : List Node) → bound_ids (Many ts) ≡ flat_map (λ xs. xs) (map bound_ids ts)
folded_list ts = search (rules, the_lemmas)

joined : (ts : List Node) → flat_map (λ xs. xs) (map bound_ids ts) ≡ flat_map bound_ids ts
joined [] = refl
joined (t ∷ ts) = ap (λ l. bound_ids t ++ l) (joined ts)

pub bound-List : (ts : List Node) → bound_ids (Many ts) ≡ flat_map bound_ids ts
bound-List ts = folded_list ts ∙ joined ts

pub bound-Tree : (k : Kind) (ts : List Node) → bound_ids (Tree k ts) ≡ in_parts (field_role k) (map bound_ids ts)
bound-Tree k ts = search (rules, the_lemmas)

-- one equation for each form of a node
pub ruleset bound = (bound-Absent, bound-Flag, bound-Word, bound-Text, bound-Span, bound-Identifier, bound-List, bound-Tree)

bound_next : (roles : ℕ → Role) (ts : List Node) (i : ℕ) (t : Node) → i < length ts → t ≡ get_or ts i t
    → in_parts roles (map bound_ids (take (suc i) ts)) ≡ in_parts roles (map bound_ids (take i ts)) ++ in_part (roles i) (bound_ids t)
bound_next roles [] i t h e = absurd (omega arith)
bound_next roles (x ∷ ts) zero t h e = let same : bound_ids x ≡ bound_ids t = ap bound_ids (sym e) in rw same (append-nil (in_part (roles zero) (bound_ids t)))
bound_next roles (x ∷ ts) (suc i) t h e =
    ap (λ l. in_part (roles zero) (bound_ids x) ++ l) (bound_next (λ i. roles (suc i)) ts i t (omega arith) e)
    ∙ sym (append_assoc (in_part (roles zero) (bound_ids x)) (in_parts (λ i. roles (suc i)) (map bound_ids (take i ts))) (in_part (roles (suc i)) (bound_ids t)))

-- the names of one field more
pub one_more : (roles : ℕ → Role) (ts : List Node) (i : ℕ) (t : Node) (r : Role) (xs ys zs : List Id) → i < length ts → t ≡ get_or ts i t → r ≡ roles i
    → ys ≡ xs ++ in_parts roles (map bound_ids (take i ts)) → zs ≡ ys ++ in_part r (bound_ids t) → zs ≡ xs ++ in_parts roles (map bound_ids (take (i + 1) ts))
one_more roles ts i t r xs ys zs h e role was new =
    new ∙ rw (role, was, add-one, bound_next roles ts i t h e) (append_assoc xs (in_parts roles (map bound_ids (take i ts))) (in_part (roles i) (bound_ids t)))

-- what holds in any case holds where there is an error
pub on_err : {T E P : Type 0} (r : Result T E) → P → OnErr r P
on_err (Ok x) p = tt
on_err (Err e) p = p

-- behind what was added whole, a beginning of the next part
pub added_next : (xs ys zs all part before rest : List Id) → all ≡ before ++ (part ++ rest) → ys ≡ xs ++ before → PartlyAdded ys part zs → PartlyAdded xs all zs
added_next xs ys zs all part before rest split was p = record {
  added = before ++ p.added;
  left = p.left ++ rest;
  all = split ∙ ap (λ l. before ++ (l ++ rest)) p.all ∙ ap (λ l. before ++ l) (append_assoc p.added p.left rest) ∙ sym (append_assoc before p.added (p.left ++ rest));
  list = p.list ∙ ap (λ l. l ++ p.added) was ∙ append_assoc xs before p.added;
}

-- the ids of the items before one, its own, and the rest
pub items_split : (ts : List Node) (i : ℕ) (t : Node) → i < length ts → t ≡ get_or ts i t
    → (rest : List Id) × (flat_map bound_ids ts ≡ flat_map bound_ids (take i ts) ++ (bound_ids t ++ rest))
items_split [] i t h e = absurd (omega arith)
items_split (x ∷ ts) zero t h e = (flat_map bound_ids ts, ap (λ u. bound_ids u ++ flat_map bound_ids ts) (sym e))
items_split (x ∷ ts) (suc i) t h e = let next = items_split ts i t (omega arith) e in
    (next.0, ap (λ l. bound_ids x ++ l) next.1 ∙ sym (append_assoc (bound_ids x) (flat_map bound_ids (take i ts)) (bound_ids t ++ next.0)))

-- the same of fields
pub parts_split : (roles : ℕ → Role) (ts : List Node) (i : ℕ) (t : Node) → i < length ts → t ≡ get_or ts i t
    → (rest : List Id) × (in_parts roles (map bound_ids ts) ≡ in_parts roles (map bound_ids (take i ts)) ++ (in_part (roles i) (bound_ids t) ++ rest))
parts_split roles [] i t h e = absurd (omega arith)
parts_split roles (x ∷ ts) zero t h e = (in_parts (λ i. roles (suc i)) (map bound_ids ts), ap (λ u. in_part (roles zero) (bound_ids u) ++ in_parts (λ i. roles (suc i)) (map bound_ids ts)) (sym e))
parts_split roles (x ∷ ts) (suc i) t h e = let next = parts_split (λ i. roles (suc i)) ts i t (omega arith) e in (
  next.0,
  ap (λ l. in_part (roles zero) (bound_ids x) ++ l) next.1
      ∙ sym (append_assoc (in_part (roles zero) (bound_ids x)) (in_parts (λ i. roles (suc i)) (map bound_ids (take i ts))) (in_part (roles (suc i)) (bound_ids t) ++ next.0)),
)
