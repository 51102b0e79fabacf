-- Names that have the texts of others.
use Rattle.std.proofs.Common.{◌≡◌, ◌∙◌, ℕ, ◌+◌, ◌<◌, ◌≤◌, ◌++◌, List, [], ◌∷◌, ap, ap₂, sym, refl, take, get_or, map, length}
use Rattle.std.proofs.lemmas.List.{take_all, take_more}
use Rattle.swc_tree_walk.specs.declared.identifiers.Site.{Site}
use Rattle.swc_tree_walk.specs.Sites.{site_of}
use Rattle.mucwathi_looks.specs.Answered.{name_of}

abbrev texts : List Site → List (List ℕ)
texts ss = map name_of (map site_of ss)

texts_push : (ss : List Site) (s : Site) → texts (ss ++ s ∷ []) ≡ texts ss ++ name_of (site_of s) ∷ []
texts_push [] s = refl
texts_push (t ∷ ss) s = ap (λ l. name_of (site_of t) ∷ l) (texts_push ss s)

texts_more : (ss : List Site) (i : ℕ) (d : Site) → i < length ss → texts (take (i + 1) ss) ≡ texts (take i ss) ++ name_of (site_of (get_or ss i d)) ∷ []
texts_more ss i d within = ap texts (take_more ss i d within) ∙ texts_push (take i ss) (get_or ss i d)

pub names_more : (ns ps : List Site) (i : ℕ) (d e : Site) → i < length ns → i < length ps → name_of (site_of (get_or ns i d)) ≡ name_of (site_of (get_or ps i e)) → texts (take i ns) ≡ texts (take i ps) → texts (take (i + 1) ns) ≡ texts (take (i + 1) ps)
names_more ns ps i d e within also same h = texts_more ns i d within ∙ ap₂ (λ l n. l ++ n ∷ []) h same ∙ sym (texts_more ps i e also)

pub names_done : (ns ps : List Site) (i : ℕ) → length ns ≤ i → length ps ≤ i → texts (take i ns) ≡ texts (take i ps) → texts ns ≡ texts ps
names_done ns ps i none also h = sym (ap texts (take_all i ns none)) ∙ h ∙ ap texts (take_all i ps also)
