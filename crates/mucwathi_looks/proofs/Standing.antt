-- One identifier more.
use Rattle.std.proofs.Common.{◌≡◌, ℕ, ◌+◌, ◌<◌, ◌≤◌, List, [], ◌∷◌, ◌++◌, map, take, length, get_or, sym, ap, ◌∙◌}
use Rattle.std.proofs.lemmas.List.{map-append, take_all, take_more}
use Rattle.swc_tree_node.specs.declared.node.Node.{Node}
use Rattle.swc_tree_scoping.specs.Places.{program_place}
use Rattle.swc_tree_walk.specs.Sites.{site_of, sites}
use Rattle.swc_tree_walk.specs.declared.identifiers.Site.{Site}
use Rattle.mucwathi_lists.specs.declared.changes.Occurrence.{Occurrence}
use Rattle.mucwathi_lists.specs.Changed.{Placed, Renamed, all_changed, seen}
use Rattle.mucwathi_looks.specs.Changes.{changes_between, seen_of}

abbrev all_seen : List Site → List Placed
all_seen l = map seen_of (map site_of l)

pub seen_push : (found : List Site) (i : ℕ) (site : Site) (old new : List Occurrence) (o : Occurrence) → i < length found → site ≡ get_or found i site → seen o ≡ seen_of (site_of site) → new ≡ old ++ o ∷ []
    → map seen old ≡ map seen_of (map site_of (take i found)) → map seen new ≡ map seen_of (map site_of (take (i + 1) found))
seen_push found i site old new o below is same added h =
    let step : all_seen (take (i + 1) found) ≡ all_seen (take i found) ++ seen_of (site_of (get_or found i site)) ∷ [] =
    ap all_seen (take_more found i site below) ∙ ap (map seen_of) (map-append site_of (take i found) (get_or found i site ∷ [])) ∙ map-append seen_of (map site_of (take i found)) (site_of (get_or found i site) ∷ []) in
    ap (map seen) added ∙ map-append seen old (o ∷ []) ∙ ap (λ (l : List Placed). l ++ seen o ∷ []) h ∙ ap (λ (s : Placed). all_seen (take i found) ++ s ∷ []) (same ∙ ap (λ (x : Site). seen_of (site_of x)) is) ∙ sym step

pub seen_all : (found : List Site) (i : ℕ) (names : List Occurrence) → length found ≤ i → map seen names ≡ map seen_of (map site_of (take i found)) → map seen names ≡ map seen_of (map site_of found)
seen_all found i names ended h = h ∙ ap all_seen (take_all i found ended)

-- of two programs
pub between : (source answer : Node) (olds news : List Site) (before after : List Occurrence) (told : List Renamed) → map site_of olds ≡ sites program_place source → map site_of news ≡ sites program_place answer → map seen before ≡ map seen_of (map site_of olds)
    → map seen after ≡ map seen_of (map site_of news) → told ≡ all_changed (map seen before) (map seen after) → told ≡ changes_between source answer
between source answer olds news before after told one other first second h =
    h ∙ ap (λ (l : List Placed). all_changed l (map seen after)) (first ∙ ap (map seen_of) one) ∙ ap (λ (l : List Placed). all_changed (map seen_of (sites program_place source)) l) (second ∙ ap (map seen_of) other)
