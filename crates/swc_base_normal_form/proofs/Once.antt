-- Names of an export list, each once.
use Rattle.std.proofs.Common.{◌≡◌, Bool, true, false, cond, not, ◌&&◌, ◌||◌, List, [], ◌∷◌, ◌++◌, map, refl, sym, ap, ◌∙◌, append-nil, append_assoc}
use Rattle.std.specs.Prelude.{if◌then◌else◌}
use Rattle.std.specs.List.{filter, flat_map, list_any}
use Rattle.std.specs.BTreeMap.{is_at}
use Rattle.std.specs.BTreeSet.{BTreeSet, contains}
use Rattle.std.specs.Cmp.Lexicographic.{slice_cmp, texts_ties}
use Rattle.std.specs.Ordering.{is_eq, nat_cmp, ordering_then}
use Rattle.std.specs.declared.cmp.Ordering.{Ordering}
use Rattle.std.specs.declared.cmp.Ordering.TheVariants.{Less, Equal, Greater}
use Rattle.swc_tree_marks.specs.declared.ident.Ident.{Ident}
use Rattle.swc_tree_node.specs.declared.node.Node.{Node}
use Rattle.swc_tree_scoping.specs.BoundNames.{Id, same_id}
use Rattle.swc_tree_grammar.specs.Normal.{each_once, exported_as_itself, made, same_id as same_name, split}
use Rattle.swc_base_normal_form.specs.Exports.{id_cmp}

-- ids that compare equal are one
both_equal : (o p : Ordering) → is_eq (ordering_then o p) ≡ (is_eq o && is_eq p)
both_equal Less p = refl
both_equal Equal p = refl
both_equal Greater p = refl

pub is_same : (x y : Id) → is_eq (id_cmp x y) ≡ same_id x y
is_same x y = both_equal (slice_cmp nat_cmp x.0 y.0) (slice_cmp nat_cmp x.1 y.1) ∙ (λ j. sym (texts_ties x.0 y.0) j && sym (texts_ties x.1 y.1) j)

-- a name behind others is one of them, or one more
abbrev Among : Ident → List Ident → Bool
Among i is = list_any (λ j. same_name j i) is

filter_end : (p : Ident → Bool) (is : List Ident) (i : Ident) → filter p (is ++ i ∷ []) ≡ filter p is ++ (if p i then i ∷ [] else [])
filter_end p [] i = at (p i)
  where
    at : (b : Bool) → (if b then i ∷ [] else []) ≡ [] ++ (if b then i ∷ [] else [])
    at b = refl
filter_end p (j ∷ is) i = at (p j) (filter_end p is i)
  where
    at : (b : Bool) → filter p (is ++ i ∷ []) ≡ filter p is ++ (if p i then i ∷ [] else [])
        → (if b then j ∷ filter p (is ++ i ∷ []) else filter p (is ++ i ∷ [])) ≡ (if b then j ∷ filter p is else filter p is) ++ (if p i then i ∷ [] else [])
    at true h = ap (λ l. j ∷ l) h
    at false h = h

once_end : (is : List Ident) (i : Ident) → each_once (is ++ i ∷ []) ≡ (if Among i is then each_once is else each_once is ++ i ∷ [])
once_end [] i = refl
once_end (j ∷ is) i = ap (λ l. j ∷ filter (λ k. not (same_name j k)) l) (once_end is i) ∙ at (same_name j i) (Among i is) refl
  where
    rest : List Ident
    rest = filter (λ k. not (same_name j k)) (each_once is)

    at : (a b : Bool) → same_name j i ≡ a → j ∷ filter (λ k. not (same_name j k)) (if b then each_once is else each_once is ++ i ∷ []) ≡ (if a || b then j ∷ rest else (j ∷ rest) ++ i ∷ [])
    at true true e = refl
    at false true e = refl
    at true false e = ap (λ l. j ∷ l) (filter_end (λ k. not (same_name j k)) (each_once is) i ∙ ap (λ a. rest ++ (if not a then i ∷ [] else [])) e ∙ append-nil rest)
    at false false e = ap (λ l. j ∷ l) (filter_end (λ k. not (same_name j k)) (each_once is) i ∙ ap (λ a. rest ++ (if not a then i ∷ [] else [])) e)

map_end : {X Y : Type 0} (f : X → Y) (xs : List X) (x : X) → map f (xs ++ x ∷ []) ≡ map f xs ++ f x ∷ []
map_end f [] x = refl
map_end f (y ∷ xs) x = ap (λ l. f y ∷ l) (map_end f xs x)

abbrev pub met : List Id → Id → Bool
met xs x = list_any (λ y. same_id y x) xs

among_made : (xs : List Id) (x : Id) → Among (made x) (map made xs) ≡ met xs x
among_made [] x = refl
among_made (y ∷ xs) x = ap (λ b. same_id y x || b) (among_made xs x)

abbrev pub specifiers : List Id → List Node
specifiers xs = map exported_as_itself (each_once (map made xs))

-- one id more, of which there is a specifier already, or gets one
pub one_more : (xs : List Id) (x : Id) (ts : List Node) (b : Bool) → b ≡ met xs x → ts ≡ specifiers xs → (if b then ts else ts ++ exported_as_itself (made x) ∷ []) ≡ specifiers (xs ++ x ∷ [])
one_more xs x ts b e s =
    ap (λ b. if b then ts else ts ++ exported_as_itself (made x) ∷ []) (e ∙ sym (among_made xs x))
    ∙ ap (λ ts. if Among (made x) (map made xs) then ts else ts ++ exported_as_itself (made x) ∷ []) s
    ∙ at (Among (made x) (map made xs))
    ∙ sym (ap (λ is. map exported_as_itself (each_once is)) (map_end made xs x) ∙ ap (map exported_as_itself) (once_end (map made xs) (made x)))
  where
    at : (b : Bool) → (if b then specifiers xs else specifiers xs ++ exported_as_itself (made x) ∷ []) ≡ map exported_as_itself (if b then each_once (map made xs) else each_once (map made xs) ++ made x ∷ [])
    at true = refl
    at false = sym (map_end exported_as_itself (each_once (map made xs)) (made x))

-- ... and is met from then on
pub met_end : (xs : List Id) (y x : Id) → (same_id y x || met xs x) ≡ met (xs ++ y ∷ []) x
met_end [] y x = refl
met_end (z ∷ xs) y x = at (same_id y x) (same_id z x) (met_end xs y x)
  where
    at : (a b : Bool) → (a || met xs x) ≡ met (xs ++ y ∷ []) x → (a || (b || met xs x)) ≡ (b || met (xs ++ y ∷ []) x)
    at true true h = refl
    at true false h = h
    at false true h = refl
    at false false h = h

cond_or : (a b : Bool) → cond a true b ≡ (a || b)
cond_or true b = refl
cond_or false b = refl

-- what was met, with an id put in
pub now_met : (before after : BTreeSet Id) (y : Id) → ((x : Id) → contains id_cmp after x ≡ cond (is_at (id_cmp y) x) true (contains id_cmp before x)) → (x : Id) → contains id_cmp after x ≡ (same_id y x || contains id_cmp before x)
now_met before after y h x = h x ∙ ap (λ b. cond b true (contains id_cmp before x)) (is_same y x) ∙ cond_or (same_id y x) (contains id_cmp before x)

-- one item more
pub split_end : (ts : List Node) (t : Node) → flat_map split (ts ++ t ∷ []) ≡ flat_map split ts ++ split t
split_end [] t = append-nil (split t)
split_end (u ∷ ts) t = ap (λ l. split u ++ l) (split_end ts t) ∙ sym (append_assoc (split u) (flat_map split ts) (split t))
