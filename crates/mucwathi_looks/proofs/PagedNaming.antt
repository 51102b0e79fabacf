-- Names of a page, one more.
use Rattle.std.proofs.Common.{◌≡◌, ℕ, ◌+◌, ◌<◌, ◌≤◌, true, false, cond, List, [], ◌∷◌, ◌++◌, Some, None, Option, Bor, map, take, length, get_or, nat_eq, string_bytes, refl, sym, ap, ap₂, ◌∙◌, subst, arith, ◌-◌, IsSome, unwrap_or, true≢false}
use Rattle.std.proofs.lemmas.Bool.Decides.{nat_tests}
use Rattle.std.proofs.lemmas.List.{append-nil, append_assoc, map-append, take_all, take_more}
use Rattle.std.proofs.lemmas.List.Sorted.{IsPermutation-map}
use Rattle.std.specs.BTreeMap.{Updates, get, is_at}
use Rattle.std.specs.List.{flat_map}
use Rattle.std.specs.Map.{lookup}
use Rattle.std.specs.Option.{option_map}
use Rattle.std.specs.Ordering.{is_eq, nat_cmp}
use Rattle.swc_tree_marks.specs.declared.ident.Ident.{Ident}
use Rattle.swc_tree_scoping.specs.declared.places.Standing.{Standing}
use Rattle.swc_tree_walk.specs.declared.identifiers.Site.{Site}
use Rattle.swc_tree_walk.specs.Sites.{site_of}
use Rattle.std.specs.List.Sorted.{IsNonDecreasingBy, IsPermutation}
use Rattle.mucwathi_page.specs.declared.drawn.Use.{Use}
use Rattle.mucwathi_lists.specs.declared.changes.Change.{Change}
use Rattle.mucwathi_looks.specs.Coloured.{AreUses, Variable, new_at, or_else, told, told_at, variables_at}
use Rattle.mucwathi_looks.specs.Numbered.{AreApart, AreNumbered, HasNews, News, Numbers, key_cmp, key_of, new_in, number_in}

-- what is told of names, and of one more
flat_push : {A B : Type 0} (f : A → List B) (xs : List A) (x : A) → flat_map f (xs ++ x ∷ []) ≡ flat_map f xs ++ f x
flat_push f [] x = append-nil (f x)
flat_push f (y ∷ xs) x = ap (λ l. f y ++ l) (flat_push f xs x) ∙ sym (append_assoc (f y) (flat_map f xs) (f x))

names_more : (sites : List Site) (i : ℕ) (s : Site) → i < length sites → s ≡ get_or sites i s → map site_of (take (i + 1) sites) ≡ map site_of (take i sites) ++ site_of s ∷ []
names_more sites i s below is =
    ap (map site_of) (take_more sites i s below) ∙ map-append site_of (take i sites) (get_or sites i s ∷ []) ∙ ap (λ (x : Site). map site_of (take i sites) ++ site_of x ∷ []) (sym is)

pub flat_more : {B : Type 0} (f : Standing × Ident → List B) (sites : List Site) (i : ℕ) (s : Site) → i < length sites → s ≡ get_or sites i s → flat_map f (map site_of (take (i + 1) sites)) ≡ flat_map f (map site_of (take i sites)) ++ f (site_of s)
flat_more f sites i s below is = ap (flat_map f) (names_more sites i s below is) ∙ flat_push f (map site_of (take i sites)) (site_of s)

pub flat_all : {B : Type 0} (f : Standing × Ident → List B) (sites : List Site) (i : ℕ) → length sites ≤ i → flat_map f (map site_of (take i sites)) ≡ flat_map f (map site_of sites)
flat_all f sites i ended = ap (λ l. flat_map f (map site_of l)) (take_all i sites ended)

-- new names by where they stand
same_number : (a b : ℕ) → is_eq (nat_cmp a b) ≡ nat_eq a b
same_number a b = grind (arith, nat_tests)

new_at_push : (cs : List Change) (c : Change) (place : ℕ) → new_at (cs ++ c ∷ []) place ≡ cond (nat_eq c.at place) (Some (string_bytes c.new)) (new_at cs place)
new_at_push [] c place = refl
new_at_push (x ∷ cs) c place =
    let r : Option (List ℕ) = cond (nat_eq x.at place) (Some (string_bytes x.new)) None in
    ap (λ o. or_else o r) (new_at_push cs c place)
    ∙ elim (nat_eq c.at place) as (λ b. or_else (cond b (Some (string_bytes c.new)) (new_at cs place)) r ≡ cond b (Some (string_bytes c.new)) (or_else (new_at cs place) r)) [ true ↦ refl | false ↦ refl ]

news_push : (cs : List Change) (c : Change) (name : Bor (List ℕ)) (old new : News) → name.now ≡ string_bytes c.new → HasNews cs old → Updates nat_cmp old new c.at (Some name) → HasNews (cs ++ c ∷ []) new
news_push cs c name old new is h updates place =
    ap (option_map (λ (t : Bor (List ℕ)). t.now)) (updates.0 place)
    ∙ elim (is_eq (nat_cmp c.at place)) as (λ b. option_map (λ (t : Bor (List ℕ)). t.now) (cond b (Some name) (get nat_cmp old place)) ≡ cond b (Some (string_bytes c.new)) (new_at cs place)) [ true ↦ ap Some is | false ↦ h place ]
    ∙ ap (λ b. cond b (Some (string_bytes c.new)) (new_at cs place)) (same_number c.at place)
    ∙ sym (new_at_push cs c place)

pub news_none : (news : News) → news.entries ≡ [] → HasNews [] news
news_none news empty place = ap (λ es. option_map (λ (t : Bor (List ℕ)). t.now) (lookup (is_at (nat_cmp place)) es)) empty

pub news_step : (cs : List Change) (i : ℕ) (c : Change) (name : Bor (List ℕ)) (old new : News) → i < length cs → c ≡ get_or cs i c → name.now ≡ string_bytes c.new → HasNews (take i cs) old → Updates nat_cmp old new c.at (Some name) → HasNews (take (i + 1) cs) new
news_step cs i c name old new below is same h updates =
    subst (λ l. HasNews l new) (sym (take_more cs i c below ∙ ap (λ (x : Change). take i cs ++ x ∷ []) (sym is))) (news_push (take i cs) c name old new same h updates)

pub news_end : (cs : List Change) (i : ℕ) (news : News) → length cs ≤ i → HasNews (take i cs) news → HasNews cs news
news_end cs i news ended h = subst (λ l. HasNews l news) (take_all i cs ended) h

-- what is told of names goes by what is told of places
told_as : (number : Variable → ℕ) (one other : ℕ → Option (List ℕ)) → ((place : ℕ) → one place ≡ other place) → (s : Standing × Ident) → told_at number one s ≡ told_at number other s
told_as number one other same s = ap (λ name. map (λ v. (s.1.span.lo - 1, s.1.span.hi - 1, number v, v.0, name)) (variables_at s)) (same (s.1.span.lo - 1))

all_told_as : (number : Variable → ℕ) (one other : ℕ → Option (List ℕ)) → ((place : ℕ) → one place ≡ other place) → (names : List (Standing × Ident)) → flat_map (told_at number one) names ≡ flat_map (told_at number other) names
all_told_as number one other same [] = refl
all_told_as number one other same (s ∷ names) = ap₂ (λ a b. a ++ b) (told_as number one other same s) (all_told_as number one other same names)

-- variables of one number are one
one_number : (numbers : Numbers) → AreApart numbers → (v w : Variable) (o p : Option ℕ) → get key_cmp numbers (key_of v) ≡ o → get key_cmp numbers (key_of w) ≡ p → IsSome o → IsSome p → unwrap_or o 0 ≡ unwrap_or p 0 → v ≡ w
one_number numbers apart v w None p x y some_o some_p same = absurd (true≢false (sym some_o))
one_number numbers apart v w (Some n) None x y some_o some_p same = absurd (true≢false (sym some_p))
one_number numbers apart v w (Some n) (Some m) x y some_o some_p same = apart.apart (key_of v) (key_of w) n x (y ∙ ap Some (sym same))

pub are_uses : (sites : List Site) (changes : List Change) (numbers : Numbers) (news : News) (old new : List Use) → AreNumbered (flat_map variables_at (map site_of sites)) numbers → HasNews changes news → map told old ≡ flat_map (told_at (number_in numbers) (new_in news)) (map site_of sites)
    → IsPermutation old new → IsNonDecreasingBy (λ u. u.from) new → AreUses (map site_of sites) changes new
are_uses sites changes numbers news old new numbered named are permuted rise = record {
  number = number_in numbers;
  apart = λ v w x y same. one_number numbers numbered.apart v w (get key_cmp numbers (key_of v)) (get key_cmp numbers (key_of w)) refl refl (numbered.known v x) (numbered.known w y) same;
  are = subst (λ l. IsPermutation l (map told new)) (are ∙ all_told_as (number_in numbers) (new_in news) (new_at changes) named (map site_of sites)) (IsPermutation-map told old new permuted);
  rise = rise;
}
