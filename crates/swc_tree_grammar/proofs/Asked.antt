-- What being writable says at each form of a node, in terms of the nodes below it.
use Rattle.std.proofs.Common.{◌≡◌, false, List, [], ◌∷◌, map, rules, refl, ap, ◌∙◌}
use Rattle.swc_tree_node.specs.Lower.swc_tree_marks.specs.declared.ident.Ident.{Ident}
use Rattle.swc_tree_node.specs.declared.kind.Kind.{Kind}
use Rattle.swc_tree_node.specs.declared.node.Node.{Node, List as Many, Identifier, Tree, fold-Node, the_lemmas}
use Rattle.swc_tree_node.specs.declared.node.Node.TheOpen.{Node-F}
use Rattle.swc_tree_grammar.specs.Writable.{Asked, Round, Sound, all_sound, asked_step, in_head_in, sound_in}
use Rattle.swc_tree_grammar.proofs.Wholes.{carried}

abbrev pub asked : Node → Asked
asked = fold-Node Asked asked_step

abbrev pub sound : Node → Sound
sound t = (asked t).sound

abbrev pub in_head : Node → Sound
in_head t = (asked t).in_head

pub same : (t : Node) → (asked t).whole ≡ t
same t = carried Asked asked_step (λ e. e.whole) (λ x. refl) t

pub asked_tree : (k : Kind) (ts : List Node) → asked (Tree k ts) ≡ asked_step (Node-F.Tree k (map asked ts))
asked_tree k ts = search (rules, the_lemmas)

pub asked_list : (ts : List Node) → asked (Many ts) ≡ asked_step (Node-F.List (map asked ts))
asked_list ts = search (rules, the_lemmas)

asked_name : (k : Kind) (i : Ident) → asked (Identifier k i) ≡ asked_step (Node-F.Identifier k i)
asked_name k i = search (rules, the_lemmas)

-- what is asked of a node, which is given
abbrev pub of : Node → Asked
of t = record { whole = t; sound = sound t; in_head = in_head t }

pub is_of : (t : Node) → asked t ≡ of t
is_of t = ap (λ (w : Node). let e : Asked = record { whole = w; sound = sound t; in_head = in_head t } in e) (same t)

each_of : (ts : List Node) → map asked ts ≡ map of ts
each_of [] = refl
each_of (t ∷ ts) = rw (is_of t, each_of ts) refl

pub sound_tree : (k : Kind) (ts : List Node) (r : Round) → sound (Tree k ts) r ≡ sound_in (Node-F.Tree k (map of ts)) r
sound_tree k ts r = ap (λ e. e.sound r) (asked_tree k ts) ∙ ap (λ es. sound_in (Node-F.Tree k es) r) (each_of ts)

pub head_tree : (k : Kind) (ts : List Node) (r : Round) → in_head (Tree k ts) r ≡ in_head_in (Node-F.Tree k (map of ts)) r
head_tree k ts r = ap (λ e. e.in_head r) (asked_tree k ts) ∙ ap (λ es. in_head_in (Node-F.Tree k es) r) (each_of ts)

pub sound_list : (ts : List Node) (r : Round) → sound (Many ts) r ≡ all_sound (map of ts) r
sound_list ts r = ap (λ e. e.sound r) (asked_list ts) ∙ ap (λ es. all_sound es r) (each_of ts)

pub head_list : (ts : List Node) (r : Round) → in_head (Many ts) r ≡ false
head_list ts r = ap (λ e. e.in_head r) (asked_list ts)

pub sound_name : (k : Kind) (i : Ident) (r : Round) → sound (Identifier k i) r ≡ sound_in (Node-F.Identifier k i) r
sound_name k i r = ap (λ e. e.sound r) (asked_name k i)

pub head_name : (k : Kind) (i : Ident) (r : Round) → in_head (Identifier k i) r ≡ false
head_name k i r = ap (λ e. e.in_head r) (asked_name k i)
