-- What the grammar derives and what `Writable` asks, at each form of a node and in one place.
use Rattle.std.proofs.Common.{◌≡◌, Bool, true, false, not, ◌&&◌, List, [], ◌∷◌, map, refl, sym, ap, ◌∙◌, rules}
use Rattle.std.specs.List.{list_all}
use Rattle.swc_tree_node.specs.declared.kind.Kind.{Kind}
use Rattle.swc_tree_node.specs.declared.node.Node.{Node, List as Many, Tree, fold-Node, the_lemmas}
use Rattle.swc_tree_node.specs.declared.node.Node.TheOpen.{Node-F}
use Rattle.swc_tree_grammar.specs.Shapes.{items_of}
use Rattle.swc_tree_grammar.specs.Kinds.{has_kind, is_private_name, is_opt_chain}
use Rattle.swc_tree_grammar.specs.Demands.{Demand, demands, meets}
use Rattle.swc_tree_grammar.specs.Demands.Demand.{Any}
use Rattle.swc_tree_grammar.specs.Grammar.{Context, Judged, judged_step, derives, derives_in, in_chain_in, each_asked, fits, each_fits, part, inside}
use Rattle.swc_tree_grammar.specs.Writable.{Round, all_sound, sound_in, in_head_in, binding}
use Rattle.swc_tree_grammar.proofs.Asked.{asked, asked_list, asked_tree, same, sound}
use Rattle.swc_tree_grammar.proofs.Induction.{Each, by_children}
use Rattle.swc_tree_grammar.proofs.Wholes.{carried, all_carried}
use Rattle.swc_tree_grammar_laws.specs.Levelled.{levelled, each_meets}
use Rattle.swc_tree_grammar_laws.specs.Headed.{headed, heads_in}
use Rattle.swc_tree_grammar_laws.specs.Started.{started, starts_in}
use Rattle.swc_tree_grammar_laws.specs.Plain.{is_link, is_link_in, plain, plain_in}
use Rattle.swc_tree_grammar_laws.proofs.Levelled.{levelled_tree, fine, both, also_both}
use Rattle.swc_tree_grammar_laws.proofs.Heads.{headed_tree, judged as headed_judged}
use Rattle.swc_tree_grammar_laws.proofs.Begins.{started_tree}
use Rattle.swc_tree_grammar_laws.proofs.Every.{every_tree}

abbrev pub judged : Node → Judged
judged = fold-Node Judged judged_step

abbrev pub chained : Node → Context → Bool
chained t = (judged t).in_chain

pub whole : (t : Node) → (judged t).whole ≡ t
whole t = carried Judged judged_step (λ e. e.whole) (λ x. refl) t

all_whole : (ts : List Node) → map (λ e. e.whole) (map judged ts) ≡ ts
all_whole ts = all_carried Judged judged_step (λ e. e.whole) (λ x. refl) ts

judged_tree : (k : Kind) (ts : List Node) → judged (Tree k ts) ≡ judged_step (Node-F.Tree k (map judged ts))
judged_tree k ts = search (rules, the_lemmas)

judged_list : (ts : List Node) → judged (Many ts) ≡ judged_step (Node-F.List (map judged ts))
judged_list ts = search (rules, the_lemmas)

-- alone nothing is asked of it
pub alone : (t : Node) → (judged t).demand ≡ Any
alone t = by_children (λ t. (judged t).demand ≡ Any)
    (search (rules, the_lemmas), λ x. search (rules, the_lemmas), λ w. search (rules, the_lemmas), λ x. search (rules, the_lemmas), λ s. search (rules, the_lemmas), λ k i. search (rules, the_lemmas))
    (λ ts h. ap (λ e. e.demand) (judged_list ts)) (λ k ts h. ap (λ e. e.demand) (judged_tree k ts)) t

-- the fields of a node, each with what its place asks
abbrev pub fields : Bool → Kind → List Node → List Judged
fields b k ts = each_asked (demands b (Node-F.Tree k ts)) (map judged ts)

derives_of : (k : Kind) (ts : List Node) (c : Context) → derives (Tree k ts) c ≡ derives_in (Node-F.Tree k (each_asked (demands false (Node-F.Tree k (map (λ e. e.whole) (map judged ts)))) (map judged ts))) c
derives_of k ts c = ap (λ e. e.derives c) (judged_tree k ts)

pub derives_tree : (k : Kind) (ts : List Node) (c : Context) → derives (Tree k ts) c ≡ derives_in (Node-F.Tree k (fields false k ts)) c
derives_tree k ts c = derives_of k ts c ∙ ap (λ us. derives_in (Node-F.Tree k (each_asked (demands false (Node-F.Tree k us)) (map judged ts))) c) (all_whole ts)

chained_of : (k : Kind) (ts : List Node) (c : Context) → chained (Tree k ts) c ≡ in_chain_in (Node-F.Tree k (each_asked (demands true (Node-F.Tree k (map (λ e. e.whole) (map judged ts)))) (map judged ts))) c
chained_of k ts c = ap (λ e. e.in_chain c) (judged_tree k ts)

pub chained_tree : (k : Kind) (ts : List Node) (c : Context) → chained (Tree k ts) c ≡ in_chain_in (Node-F.Tree k (fields true k ts)) c
chained_tree k ts c = chained_of k ts c ∙ ap (λ us. in_chain_in (Node-F.Tree k (each_asked (demands true (Node-F.Tree k us)) (map judged ts))) c) (all_whole ts)

pub derives_list : (ts : List Node) (c : Context) → derives (Many ts) c ≡ list_all (λ e. e.derives c) (map judged ts)
derives_list ts c = ap (λ e. e.derives c) (judged_list ts)

pub sound_tree : (k : Kind) (ts : List Node) (r : Round) → sound (Tree k ts) r ≡ sound_in (Node-F.Tree k (map asked ts)) r
sound_tree k ts r = ap (λ e. e.sound r) (asked_tree k ts)

pub sound_list : (ts : List Node) (r : Round) → sound (Many ts) r ≡ all_sound (map asked ts) r
sound_list ts r = ap (λ e. e.sound r) (asked_list ts)

pub in_head_tree : (k : Kind) (ts : List Node) (r : Round) → (asked (Tree k ts)).in_head r ≡ in_head_in (Node-F.Tree k (map asked ts)) r
in_head_tree k ts r = ap (λ e. e.in_head r) (asked_tree k ts)

-- tests of many nodes, as facts of each
abbrev pub named : Node → Bool
named t = not (has_kind is_private_name t)

abbrev pub Heard : Round → Node → Type 0
Heard r t = (named t ≡ true) × (sound t r ≡ true)

pub heard : (ts : List Node) (r : Round) → all_sound (map asked ts) r ≡ true → Each (Heard r) ts
heard [] r h = tt
heard (t ∷ ts) r h =
    let q = both (named (asked t).whole && sound t r) (all_sound (map asked ts) r) h in let w = both (named (asked t).whole) (sound t r) q.0 in
    ((sym (ap named (same t)) ∙ w.0, w.1), heard ts r q.1)

abbrev pub Free : Node → Type 0
Free t = headed t true ≡ true

pub free : (ts : List Node) → list_all (λ e. e.holds true) (map headed_judged ts) ≡ true → Each Free ts
free [] h = tt
free (t ∷ ts) h = let q = both (headed t true) (list_all (λ e. e.holds true) (map headed_judged ts)) h in (q.0, free ts q.1)

abbrev pub Met : List Demand → List Node → Type 0
Met (d ∷ ds) (t ∷ ts) = (meets d t ≡ true) × Met ds ts
Met _ _ = Unit {0}

pub met : (ds : List Demand) (ts : List Node) → each_meets ds ts ≡ true → Met ds ts
met [] ts h = tt
met (d ∷ ds) [] h = tt
met (d ∷ ds) (t ∷ ts) h = let q = both (meets d t) (each_meets ds ts) h in (q.0, met ds ts q.1)

-- a node that the tests together make derived; as the base of a chain too
abbrev pub Derived : Node → Type 0
Derived t = (c : Context) (r : Round) → r.strict ≡ c.strict → sound t r ≡ true → headed t c.with_in ≡ true → started t ≡ true → plain t ≡ true
    → (fine t ≡ true → derives t c ≡ true) × (levelled t true ≡ true → is_link t ≡ true → chained t c ≡ true)

-- the same once it is levelled, started and plain
abbrev pub Good : Node → Type 0
Good t = (c : Context) (r : Round) → r.strict ≡ c.strict → sound t r ≡ true → headed t c.with_in ≡ true → derives t c ≡ true

pub good : (ts : List Node) → Each Derived ts → list_all started ts ≡ true → list_all plain ts ≡ true → list_all fine ts ≡ true → Each Good ts
good [] l b p f = tt
good (t ∷ ts) l b p f =
    let b' = both (started t) (list_all started ts) b in let p' = both (plain t) (list_all plain ts) p in let f' = both (fine t) (list_all fine ts) f in
    ((λ c r e s h. (l.0 c r e s h b'.0 p'.0).0 f'.0), good ts l.1 b'.1 p'.1 f'.1)

-- What is known at a node, where its fields are good. The rows name it so: context `c` and round `r` of one strictness
-- (`e`); that the node is sound (`m`), headed (`i`), levelled (`w`), started (`y`) and plain (`q`); its good fields (`g`)
abbrev Known : Bool → Kind → List Node → Context → Type 0 → Type 0
Known b k ts c answer = (r : Round) → r.strict ≡ c.strict → sound_in (Node-F.Tree k (map asked ts)) r ≡ true → heads_in (Node-F.Tree k (map headed_judged ts)) c.with_in ≡ true
    → Met (demands b (Node-F.Tree k ts)) ts → starts_in (Node-F.Tree k ts) ≡ true → plain_in (Node-F.Tree k ts) ≡ true → Each Good ts → answer

abbrev pub Row : Kind → List Node → Type 0
Row k ts = (c : Context) → Known false k ts c (derives_in (Node-F.Tree k (fields false k ts)) c ≡ true)

abbrev pub ChainRow : Kind → List Node → Type 0
ChainRow k ts = (c : Context) → Known true k ts c (in_chain_in (Node-F.Tree k (fields true k ts)) c ≡ true)

pub no_link : (k : Kind) (ts : List Node) → is_link_in (Node-F.Tree k ts) ≡ false → is_link (Tree k ts) ≡ true → ⊥
no_link k ts e h = let g : is_link (Tree k ts) ≡ is_link_in (Node-F.Tree k ts) = search (rules, the_lemmas) in cc

-- of what is levelled, what each place asks is met, and each field is levelled
pub fields_of : (b : Bool) (k : Kind) (ts : List Node) → is_opt_chain k ≡ false → levelled (Tree k ts) b ≡ true → Met (demands b (Node-F.Tree k ts)) ts × (list_all fine ts ≡ true)
fields_of b k ts n v =
    let w = both (each_meets (demands b (Node-F.Tree k ts)) ts) (list_all (λ t. levelled t (is_opt_chain k)) ts) (sym (levelled_tree k ts b) ∙ v) in
    (met (demands b (Node-F.Tree k ts)) ts w.0, sym (ap (λ b. list_all (λ t. levelled t b) ts) n) ∙ w.1)

pub link_row : (k : Kind) (ts : List Node) → is_opt_chain k ≡ false → Row k ts → (is_link (Tree k ts) ≡ true → ChainRow k ts) → Each Derived ts → Derived (Tree k ts)
link_row k ts n f g l c r e m i y q =
    let p = both (plain_in (Node-F.Tree k ts)) (list_all plain ts) (sym (every_tree plain_in k ts) ∙ q) in
    let b = both (starts_in (Node-F.Tree k ts)) (list_all started ts) (sym (started_tree k ts) ∙ y) in
    let s = sym (sound_tree k ts r) ∙ m in let h = sym (headed_tree k ts c.with_in) ∙ i in (
      λ v. (let w = fields_of false k ts n v in derives_tree k ts c ∙ f c r e s h w.0 b.0 p.0 (good ts l b.1 p.1 w.1)),
      λ v x. (let w = fields_of true k ts n v in chained_tree k ts c ∙ g x c r e s h w.0 b.0 p.0 (good ts l b.1 p.1 w.1)),
    )

pub row : (k : Kind) (ts : List Node) → is_opt_chain k ≡ false → is_link_in (Node-F.Tree k ts) ≡ false → Row k ts → Each Derived ts → Derived (Tree k ts)
row k ts n m f l = link_row k ts n f (λ x. absurd (no_link k ts m x)) l

-- one place
pub spot : (d : Demand) (t : Node) (c : Context) (r : Round) → Good t → r.strict ≡ c.strict → Heard r t → headed t c.with_in ≡ true → meets d t ≡ true → fits (record (judged t) { demand = d }) c ≡ true
spot d t c r g e s h w = rw (whole t, w, s.0, g c r e s.1 h) refl

-- one of which nothing is asked
pub bare : (t : Node) (c : Context) (r : Round) → Good t → r.strict ≡ c.strict → Heard r t → headed t c.with_in ≡ true → fits (judged t) c ≡ true
bare t c r g e s h = rw (alone t, whole t, s.0, g c r e s.1 h) refl

pub part_is : (d : Demand) (t : Node) (c : Context) (r : Round) → Good t → r.strict ≡ c.strict → sound t r ≡ true → Free t → meets d t ≡ true → part c (record (judged t) { demand = d }) ≡ true
part_is d t c r g e s h w = rw (whole t, w, g (inside c) r e s h) refl

pub bare_part : (t : Node) (c : Context) → derives t (inside c) ≡ true → part c (judged t) ≡ true
bare_part t c h = rw (alone t, h) refl

-- lists of expressions
pub each_is : (d : Demand) (es : Node) (c : Context) → meets d es ≡ true → list_all named (items_of es) ≡ true → derives es c ≡ true → each_fits (record (judged es) { demand = d }) c ≡ true
each_is d es c w n h = rw (whole es, w, n, h) refl

pub each_bare : (es : Node) (c : Context) → list_all named (items_of es) ≡ true → derives es c ≡ true → each_fits (judged es) c ≡ true
each_bare es c n h = rw (alone es, whole es, n, h) refl

-- fields in which `in` may stand
abbrev FreeField : Context → Judged → Type 0
FreeField c e = (fits e (inside c) ≡ true) × (part c e ≡ true) × (e.derives (inside c) ≡ true)

abbrev pub FreeFields : Context → List Judged → Type 0
FreeFields c [] = Unit {0}
FreeFields c (e ∷ es) = FreeField c e × FreeFields c es

free_fields : (ds : List Demand) (ts : List Node) (c : Context) (r : Round) → r.strict ≡ c.strict → Each Good ts → Each (Heard r) ts → Each Free ts → Met ds ts → FreeFields c (each_asked ds (map judged ts))
free_fields [] [] c r e g m i w = tt
free_fields (d ∷ ds) [] c r e g m i w = tt
free_fields [] (t ∷ ts) c r e g m i w = ((bare t (inside c) r g.0 e m.0 i.0, bare_part t c (g.0 (inside c) r e m.0.1 i.0), g.0 (inside c) r e m.0.1 i.0), free_fields [] ts c r e g.1 m.1 i.1 w)
free_fields (d ∷ ds) (t ∷ ts) c r e g m i w = ((spot d t (inside c) r g.0 e m.0 i.0 w.0, part_is d t c r g.0 e m.0.1 i.0 w.0, g.0 (inside c) r e m.0.1 i.0), free_fields ds ts c r e g.1 m.1 i.1 w.1)

abbrev pub FreeRow : Kind → List Node → Type 0
FreeRow k ts = (c : Context) → starts_in (Node-F.Tree k ts) ≡ true → FreeFields c (fields false k ts) → derives_in (Node-F.Tree k (fields false k ts)) c ≡ true

-- a shape in whose fields `in` may stand, and of which `Writable` asks nothing but what it asks of the fields
pub free_row : (k : Kind) (ts : List Node) → is_opt_chain k ≡ false → is_link_in (Node-F.Tree k ts) ≡ false → ((r : Round) → sound_in (Node-F.Tree k (map asked ts)) r ≡ all_sound (map asked ts) (binding r))
    → ((b : Bool) → heads_in (Node-F.Tree k (map headed_judged ts)) b ≡ list_all (λ e. e.holds true) (map headed_judged ts)) → FreeRow k ts → Each Derived ts → Derived (Tree k ts)
free_row k ts n x s b f l = row k ts n x (λ c r e m i w y q g. f c y (free_fields (demands false (Node-F.Tree k ts)) ts c (binding r) e g (heard ts (binding r) (sym (s r) ∙ m)) (free ts (sym (b c.with_in) ∙ i)) w)) l

parts : (c : Context) (es : List Judged) → FreeFields c es → list_all (part c) es ≡ true
parts c [] f = refl
parts c (e ∷ es) f = also_both (part c e) (list_all (part c) es) f.0.1 (parts c es f.1)

-- ... nor the grammar
pub plain_row : (k : Kind) (ts : List Node) → is_opt_chain k ≡ false → is_link_in (Node-F.Tree k ts) ≡ false → ((r : Round) → sound_in (Node-F.Tree k (map asked ts)) r ≡ all_sound (map asked ts) (binding r))
    → ((b : Bool) → heads_in (Node-F.Tree k (map headed_judged ts)) b ≡ list_all (λ e. e.holds true) (map headed_judged ts))
    → ((c : Context) → derives_in (Node-F.Tree k (fields false k ts)) c ≡ list_all (part c) (fields false k ts)) → Each Derived ts → Derived (Tree k ts)
plain_row k ts n x s b d l = free_row k ts n x s b (λ c y f. d c ∙ parts c (fields false k ts) f) l
