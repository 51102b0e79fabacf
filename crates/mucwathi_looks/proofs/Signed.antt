-- Signs of identifiers, one more and one after another.
use Rattle.std.proofs.Common.{◌≡◌, ℕ, ◌+◌, ◌<◌, ◌≤◌, List, [], ◌∷◌, ◌++◌, map, take, length, get_or, refl, sym, ap, subst, ◌∙◌, arith}
use Rattle.std.specs.List.{flat_map}
use Rattle.std.proofs.lemmas.List.{append_assoc, append-nil, take_more}
use Rattle.swc_tree_marks.specs.declared.ident.Ident.{Ident}
use Rattle.swc_tree_node.specs.declared.node.Node.{Node}
use Rattle.swc_tree_scoping.specs.declared.places.Standing.{Standing}
use Rattle.swc_tree_scoping.specs.Places.{program_place}
use Rattle.swc_tree_walk.specs.Sites.{site_of, sites}
use Rattle.swc_tree_walk.specs.declared.identifiers.Site.{Site}
use Rattle.mucwathi_signs.specs.declared.sign.Sign.{Sign}
use Rattle.mucwathi_looks.specs.Signs.{AreSigns, sign_between, signs_between, signs_of, told}

pub number_more : (marks : List ℕ) (i m n : ℕ) (old new : List ℕ) → i < length marks → m ≡ get_or marks i m → n ≡ m → new ≡ old ++ n ∷ [] → old ≡ take i marks → new ≡ take (i + 1) marks
number_more marks i m n old new within is same made h =
    made ∙ ap (λ l. l ++ n ∷ []) h ∙ ap (λ x. take i marks ++ x ∷ []) (same ∙ is) ∙ sym (take_more marks i m within)

-- what is left of the names and of the places
abbrev left : List Site → List Site → List (ℕ × List ℕ)
left ns ps = signs_between (map site_of ns) (map site_of ps)

pub none_signed : (ns ps names places : List Site) (signs : List Sign) → ns ≡ names → ps ≡ places → signs ≡ [] → map told signs ++ left ns ps ≡ left names places
none_signed ns ps names places signs en ep es = subst (λ (l : List Sign). map told l ++ left ns ps ≡ left names places) (sym es) (ap (λ l. left l ps) en ∙ ap (λ l. left names l) ep)

pub one_signed : (ns later : List Site) (n : Site) (ps rest : List Site) (p : Site) (old new : List Sign) (all : List (ℕ × List ℕ)) → ns ≡ n ∷ later → ps ≡ p ∷ rest
    → map told new ≡ map told old ++ sign_between (site_of n) (site_of p) → map told old ++ left ns ps ≡ all → map told new ++ left later rest ≡ all
one_signed ns later n ps rest p old new all en ep made h =
    ap (λ l. l ++ left later rest) made ∙ append_assoc (map told old) (sign_between (site_of n) (site_of p)) (left later rest)
    ∙ sym (ap (λ l. map told old ++ left l ps) en ∙ ap (λ l. map told old ++ left (n ∷ later) l) ep) ∙ h

left_nothing : (ns : List Site) → left ns [] ≡ []
left_nothing [] = refl
left_nothing (n ∷ ns) = refl

pub no_names : (ns ps : List Site) (signs : List Sign) (all : List (ℕ × List ℕ)) → length ns ≡ 0 → map told signs ++ left ns ps ≡ all → map told signs ≡ all
no_names [] ps signs all none h = sym (append-nil (map told signs)) ∙ h
no_names (n ∷ ns) ps signs all none h = absurd (omega arith)

pub no_places : (ns ps : List Site) (signs : List Sign) (all : List (ℕ × List ℕ)) → length ps ≡ 0 → map told signs ++ left ns ps ≡ all → map told signs ≡ all
no_places ns [] signs all none h = sym (append-nil (map told signs)) ∙ ap (λ l. map told signs ++ l) (sym (left_nothing ns)) ∙ h
no_places ns (p ∷ ps) signs all none h = absurd (omega arith)

-- ---- of one tree

between_own : (ss : List (Standing × Ident)) → signs_between ss ss ≡ flat_map (λ s. sign_between s s) ss
between_own [] = refl
between_own (s ∷ ss) = ap (λ l. sign_between s s ++ l) (between_own ss)

pub own_signs : (t : Node) (names places : List (Standing × Ident)) (signs given : List Sign) → names ≡ sites program_place t → places ≡ sites program_place t → given ≡ signs → AreSigns (signs_between names places) signs → AreSigns (signs_of t) given
own_signs t names places signs given en ep es h =
    let all = sites program_place t in
    subst (λ (l : List Sign). AreSigns (signs_of t) l) (sym es) (subst (λ l. AreSigns l signs) (ap (λ l. signs_between l places) en ∙ ap (λ l. signs_between all l) ep ∙ between_own all) h)
