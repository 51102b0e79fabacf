-- Items of which the same is left.
use Rattle.std.proofs.Common.{◌≡◌, List, [], ◌∷◌, ◌++◌, append_assoc, refl, sym, ap, ◌∙◌, subst}
use Rattle.std.specs.List.{flat_map}
use Rattle.std.proofs.lemmas.List.{append-nil}
use Rattle.std.proofs.lemmas.Grind.{flat_map-append}
use Rattle.swc_tree_node.specs.declared.node.Node.{Node}
use Rattle.swc_tree_grammar.specs.Stripped.{busy, effects, end, front, settled}
use Rattle.swc_base_fixer_unparen.specs.Gathered.{Alike, Gathered, Same}
use Rattle.swc_base_fixer_unparen.proofs.Busy.{busy_of_same, each_busy, same_as_busy, same_behind, same_itself, same_through}
use Rattle.swc_base_fixer_unparen.proofs.Flat.{Plain, all_left, effects_again}

abbrev doing : List Node → List Node
doing es = flat_map effects es

pub alike_itself : (es : List Node) → Alike es es
alike_itself es = (refl, same_itself (doing (front es)), same_itself (doing es))

pub alike_through : (a b c : List Node) → Alike a b → Alike b c → Alike a c
alike_through a b c h g = (h.0 ∙ g.0, same_through (doing (front a)) (doing (front b)) (doing (front c)) h.1 g.1, same_through (doing a) (doing b) (doing c) h.2 g.2)

pub last_one : (e : Node) (es : List Node) → (z : Node) × (end (e ∷ es) ≡ z ∷ []) × (front (e ∷ es) ++ z ∷ [] ≡ e ∷ es)
last_one e [] = (e, refl, refl)
last_one e (d ∷ es) = let r = last_one d es in (r.0, r.1, ap (λ l. e ∷ l) r.2)

end_behind : (a : List Node) (c : Node) (cs : List Node) → end (a ++ c ∷ cs) ≡ end (c ∷ cs)
end_behind [] c cs = refl
end_behind (e ∷ []) c cs = refl
end_behind (e ∷ d ∷ a) c cs = end_behind (d ∷ a) c cs

front_behind : (a : List Node) (c : Node) (cs : List Node) → front (a ++ c ∷ cs) ≡ a ++ front (c ∷ cs)
front_behind [] c cs = refl
front_behind (e ∷ []) c cs = refl
front_behind (e ∷ d ∷ a) c cs = ap (λ l. e ∷ l) (front_behind (d ∷ a) c cs)

-- where what comes first does the same
same_doing : (a b c d : List Node) → Same (doing a) (doing b) → Same (doing c) (doing d) → Same (doing (a ++ c)) (doing (b ++ d))
same_doing a b c d h g = subst (λ l. Same l (doing (b ++ d))) (sym (flat_map-append effects a c)) (subst (λ l. Same (doing a ++ doing c) l) (sym (flat_map-append effects b d)) (same_behind (doing a) (doing b) (doing c) (doing d) h g))

pub alike_behind : (a b c d : List Node) → Alike a b → Alike c d → Alike (a ++ c) (b ++ d)
alike_behind a b [] [] h g = subst (λ l. Alike l (b ++ [])) (sym (append-nil a)) (subst (λ l. Alike a l) (sym (append-nil b)) h)
alike_behind a b [] (y ∷ d) h g = let r = last_one y d in let wrong : [] ≡ r.0 ∷ [] = g.0 ∙ r.1 in absurd (cc)
alike_behind a b (x ∷ c) [] h g = let r = last_one x c in let wrong : r.0 ∷ [] ≡ [] = sym r.1 ∙ g.0 in absurd (cc)
alike_behind a b (x ∷ c) (y ∷ d) h g = (
  end_behind a x c ∙ g.0 ∙ sym (end_behind b y d),
  subst (λ l. Same (doing l) (doing (front (b ++ y ∷ d)))) (sym (front_behind a x c))
      (subst (λ l. Same (doing (a ++ front (x ∷ c))) (doing l)) (sym (front_behind b y d)) (same_doing a b (front (x ∷ c)) (front (y ∷ d)) h.2 g.1)),
  same_doing a b (x ∷ c) (y ∷ d) h.2 g.2,
)

-- settled, a list leaves the same
itself_settled : (y : Node) (d : List Node) → Alike (y ∷ d) (settled (y ∷ d))
itself_settled y d =
    let es = y ∷ d in
    let r = last_one y d in
    let a = doing (front es) in
    let b = busy a in
    let again : doing b ≡ b = effects_again b (each_busy Plain a (all_left (front es))) in
    let is : settled es ≡ b ++ r.0 ∷ [] = ap (λ l. b ++ l) r.1 in
    let before : front (settled es) ≡ b = ap front is ∙ front_behind b r.0 [] ∙ append-nil b in
    let whole : doing es ≡ a ++ doing (r.0 ∷ []) = ap doing (sym r.2) ∙ flat_map-append effects (front es) (r.0 ∷ []) in
    let kept : doing (settled es) ≡ b ++ doing (r.0 ∷ []) = ap doing is ∙ flat_map-append effects b (r.0 ∷ []) ∙ ap (λ l. l ++ doing (r.0 ∷ [])) again in (
      r.1 ∙ sym (ap end is ∙ end_behind b r.0 []),
      subst (λ l. Same a l) (sym (ap doing before ∙ again)) (same_as_busy a),
      subst (λ l. Same l (doing (settled es))) (sym whole) (subst (λ l. Same (a ++ doing (r.0 ∷ [])) l) (sym kept) (same_behind a b (doing (r.0 ∷ [])) (doing (r.0 ∷ [])) (same_as_busy a) (same_itself (doing (r.0 ∷ []))))),
    )

pub alike_settled : (es fs : List Node) → Alike es fs → Alike es (settled fs)
alike_settled es [] h = h
alike_settled es (y ∷ d) h = alike_through es (y ∷ d) (settled (y ∷ d)) h (itself_settled y d)

-- what is left of lists that are alike
pub settled_alike : (es fs : List Node) → Alike es fs → settled es ≡ settled fs
settled_alike es fs h = ap (λ l. l ++ end es) (busy_of_same (doing (front es)) (doing (front fs)) h.1) ∙ ap (λ l. busy (doing (front fs)) ++ l) h.0

pub one_gathered : (before now : List Node) (e : Node) → now ≡ before ++ e ∷ [] → Gathered before (e ∷ []) now
one_gathered before now e h = (e ∷ [], h, alike_itself (e ∷ []))

pub more_gathered : (before now after es fs : List Node) → Gathered before es now → Gathered now fs after → Gathered before (es ++ fs) after
more_gathered before now after es fs h g = (h.0 ++ g.0, g.1 ∙ ap (λ l. l ++ g.0) h.1 ∙ append_assoc before h.0 g.0, alike_behind h.0 es g.0 fs h.2 g.2)

pub settled_gathered : (before now es : List Node) → Gathered before es now → Gathered before (settled es) now
settled_gathered before now es h = (h.0, h.1, alike_settled h.0 es h.2)

pub gathered_as : (before now es fs : List Node) → es ≡ fs → Gathered before es now → Gathered before fs now
gathered_as before now es fs e h = subst (λ l. Gathered before l now) e h
