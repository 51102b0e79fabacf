-- A string between its quotes.
use Rattle.std.proofs.Common.{◌≡◌, ℕ, List, [], ◌∷◌, ◌++◌, take, drop, sym, ap, ◌∙◌}
use Rattle.std.proofs.lemmas.List.{take-append-drop}

pub raw_whole : (raw body : List ℕ) (q n : ℕ) → take 1 raw ≡ q ∷ [] → take n (drop 1 raw) ≡ body → drop n (drop 1 raw) ≡ q ∷ [] → raw ≡ q ∷ body ++ q ∷ []
raw_whole raw body q n begun inside ended =
    sym (take-append-drop 1 raw) ∙ ap (λ a. a ++ drop 1 raw) begun
    ∙ ap (λ a. q ∷ a) (sym (take-append-drop n (drop 1 raw)) ∙ ap (λ a. a ++ drop n (drop 1 raw)) inside ∙ ap (λ a. body ++ a) ended)
