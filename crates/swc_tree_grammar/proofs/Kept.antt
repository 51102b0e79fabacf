-- Stripping keeps what fits.
use Rattle.std.proofs.Common.{◌≡◌, Bool, true, false, not, ◌&&◌, ◌||◌, IsTrue, Some, List, [], ◌∷◌, map, refl, sym, ap, ◌∙◌, rules}
use Rattle.std.specs.List.{list_all, flat_map, filter}
use Rattle.swc_tree_node.specs.Lower.swc_tree_marks.specs.declared.ident.Ident.{Ident}
use Rattle.swc_tree_node.specs.declared.kind.Kind.{Kind}
use Rattle.swc_tree_node.specs.declared.kind.Kind.TheVariants as kind
use Rattle.swc_tree_node.specs.declared.kind.Class.{Class}
use Rattle.swc_tree_node.specs.declared.kind.Class.TheVariants as class
use Rattle.swc_tree_node.specs.declared.kind.WordClass.TheVariants as word_class
use Rattle.swc_tree_node.specs.declared.slot.Content.{Content}
use Rattle.swc_tree_node.specs.declared.slot.Content.TheVariants as content
use Rattle.swc_tree_node.specs.declared.slot.Slot.{Slot}
use Rattle.swc_tree_node.specs.declared.slot.Slot.TheVariants as slot
use Rattle.swc_tree_node.specs.declared.node.Node.{Node, Absent, Flag, Word, Text, Span, List as Many, Identifier, Tree, the_lemmas}
use Rattle.swc_tree_node.specs.declared.node.Node.TheOpen.{Node-F}
use Rattle.swc_tree_node.specs.Table.{slots_of, is_identifier}
use Rattle.swc_tree_node.specs.Fits.{fits, Fits, single, belongs, list_fits, FieldsFit, AllFit}
use Rattle.swc_tree_node.proofs.Fit.{fits-Absent, fits-Flag, fits-Word, fits-Text, fits-Span, fits-List, fits-Identifier, both, tree_opens, list_closes, fields_open, fields_close, all_open, all_close, tree_closes}
use Rattle.swc_tree_grammar.specs.Shapes.{items_of}
use Rattle.swc_tree_grammar.specs.Stripped.{stripped, target, target_in, parts, settled, sequence, is_member}
use Rattle.swc_tree_grammar.specs.Places.{takes_all, content_of, open_content, is_open}
use Rattle.swc_tree_grammar.specs.Targets.{all_bare, is_simple, is_target, seen, bare_in, can_stand}
use Rattle.swc_tree_grammar.proofs.Induction.{Each, by_children}
use Rattle.swc_tree_grammar.proofs.Stripped.{stripped_of_list, stripped_of_tree, stripped_other, is_other}
use Rattle.swc_tree_grammar.proofs.Walks.{bare_of_tree, bare_of_list, pair_of_tree}
use Rattle.swc_tree_grammar.proofs.Places.{one, stands, stands_there, wider}
use Rattle.swc_tree_grammar.proofs.Items.{expr, items_fit, flat_fit, settled_fit, sequence_fit, all_filter}
use Rattle.swc_tree_grammar.proofs.Simple.{simple, simple_tree, simple_identifier, stripped_simple}

-- all places of the table are open, but for that of an assignment's target
slots_open : (k : Kind) → IsTrue (is_other k) → IsTrue (list_all is_open (slots_of k))
slots_open kind.AssignExpr o = absurd (cc)
slots_open k o = refl

content_single : (s : Slot) (c : Content) → single s ≡ Some c → content_of s ≡ Some c
content_single (slot.One d) c h = h
content_single (slot.Optional d) c h = h
content_single (slot.List d) c h = absurd (cc)
content_single (slot.Holes d) c h = absurd (cc)
content_single (slot.OptionalList d) c h = absurd (cc)
content_single slot.Pair c h = absurd (cc)
content_single slot.Pairs c h = absurd (cc)

by_first : (p q t : Bool) → IsTrue ((not p && not q) || t) → IsTrue p → IsTrue t
by_first true q t h g = h
by_first false q t h g = absurd (cc)

by_second : (p q t : Bool) → IsTrue ((not p && not q) || t) → IsTrue q → IsTrue t
by_second true q t h g = h
by_second false true t h g = h
by_second false false t h g = absurd (cc)

takes_by : (s : Slot) (c : Class) → single s ≡ Some (content.Node c) → IsTrue (is_open s) → IsTrue ((not (belongs kind.ParenExpr c) && not (belongs kind.SeqExpr c)) || takes_all class.Expr c)
takes_by s c e o = sym (ap open_content (content_single s (content.Node c) e)) ∙ o

abbrev Keeps : Node → Type 0
Keeps t = (s : Slot) → IsTrue (all_bare t) → IsTrue (is_open s) → Fits t s → Fits (stripped t) s

fields_kept : (ss : List Slot) (ts : List Node) → Each Keeps ts → IsTrue (list_all all_bare ts) → IsTrue (list_all is_open ss) → FieldsFit ss ts → FieldsFit ss (map stripped ts)
fields_kept [] [] k b o f = tt
fields_kept [] (t ∷ ts) k b o f = absurd f
fields_kept (s ∷ ss) [] k b o f = absurd f
fields_kept (s ∷ ss) (t ∷ ts) k b o f =
    let p = both (all_bare t) (list_all all_bare ts) b in
    let q = both (is_open s) (list_all is_open ss) o in
    (k.0 s p.0 q.0 f.0, fields_kept ss ts k.1 p.1 q.1 f.1)

all_kept : (s : Slot) (ts : List Node) → Each Keeps ts → IsTrue (list_all all_bare ts) → IsTrue (is_open s) → AllFit s ts → AllFit s (map stripped ts)
all_kept s [] k b o f = tt
all_kept s (t ∷ ts) k b o f = let p = both (all_bare t) (list_all all_bare ts) b in (k.0 s p.0 o f.0, all_kept s ts k.1 p.1 o f.1)

items_kept : (s : Slot) (ts : List Node) → Each Keeps ts → IsTrue (list_all all_bare ts) → IsTrue (is_open s) → IsTrue (list_fits (map fits ts) s) → IsTrue (list_fits (map fits (map stripped ts)) s)
items_kept (slot.List c) ts k b o f = all_close (slot.One c) (map stripped ts) (all_kept (slot.One c) ts k b o (all_open (slot.One c) ts f))
items_kept (slot.OptionalList c) ts k b o f = all_close (slot.One c) (map stripped ts) (all_kept (slot.One c) ts k b o (all_open (slot.One c) ts f))
items_kept (slot.Holes c) ts k b o f = all_close (slot.Optional c) (map stripped ts) (all_kept (slot.Optional c) ts k b o (all_open (slot.Optional c) ts f))
items_kept slot.Pairs ts k b o f = all_close slot.Pair (map stripped ts) (all_kept slot.Pair ts k b refl (all_open slot.Pair ts f))
items_kept slot.Pair ts k b o f =
    let texts : List Slot = slot.One content.Text ∷ slot.One content.Text ∷ [] in
    fields_close texts (map stripped ts) (fields_kept texts ts k b refl (fields_open texts ts f))
items_kept (slot.One c) ts k b o f = absurd (cc)
items_kept (slot.Optional c) ts k b o f = absurd (cc)

keeps_list : (ts : List Node) → Each Keeps ts → Keeps (Many ts)
keeps_list ts k s b o f = rw (stripped_of_list ts, fits-List (map stripped ts) s) (items_kept s ts k (sym (bare_of_list ts) ∙ b) o (sym (fits-List ts s) ∙ f))

bare_below : (k : Kind) (ts : List Node) → IsTrue (all_bare (Tree k ts)) → IsTrue (list_all all_bare ts)
bare_below k ts b = (both (bare_in (Node-F.Tree k (map seen ts))) (list_all all_bare ts) (sym (bare_of_tree k ts) ∙ b)).1

keeps_other : (k : Kind) (ts : List Node) → IsTrue (is_other k) → Each Keeps ts → Keeps (Tree k ts)
keeps_other k ts other h s b o f =
    let w = stands k ts s f in
    rw (stripped_other k ts other)
    (stands_there k (map stripped ts) s (record {
      in_class = w.in_class;
      place = w.place;
      no_identifier = w.no_identifier;
      belonging = w.belonging;
      fields = fields_kept (slots_of k) ts h (bare_below k ts b) (slots_open k other) w.fields;
    }))

keeps_pair : (ts : List Node) → Each Keeps ts → Keeps (Tree kind.ParenExpr ts)
keeps_pair [] h s b o f = absurd (stands kind.ParenExpr [] s f).fields
keeps_pair (a ∷ []) h s b o f = absurd ((stands kind.ParenExpr (a ∷ []) s f).fields.1)
keeps_pair (a ∷ c ∷ d ∷ ts) h s b o f = absurd ((stands kind.ParenExpr (a ∷ c ∷ d ∷ ts) s f).fields.1.1)
keeps_pair (a ∷ e ∷ []) h s b o f =
    let w = stands kind.ParenExpr (a ∷ e ∷ []) s f in
    let below = fields_kept (slots_of kind.ParenExpr) (a ∷ e ∷ []) h (bare_below kind.ParenExpr (a ∷ e ∷ []) b) refl w.fields in
    rw (stripped_of_tree kind.ParenExpr (a ∷ e ∷ []))
    (wider class.Expr w.in_class s w.place (by_first (belongs kind.ParenExpr w.in_class) (belongs kind.SeqExpr w.in_class) (takes_all class.Expr w.in_class) (takes_by s w.in_class w.place o) w.belonging) (stripped e) below.1.0)

keeps_sequence : (ts : List Node) → Each Keeps ts → Keeps (Tree kind.SeqExpr ts)
keeps_sequence [] h s b o f = absurd (stands kind.SeqExpr [] s f).fields
keeps_sequence (a ∷ []) h s b o f = absurd ((stands kind.SeqExpr (a ∷ []) s f).fields.1)
keeps_sequence (a ∷ c ∷ d ∷ ts) h s b o f = absurd ((stands kind.SeqExpr (a ∷ c ∷ d ∷ ts) s f).fields.1.1)
keeps_sequence (a ∷ e ∷ []) h s b o f =
    let w = stands kind.SeqExpr (a ∷ e ∷ []) s f in
    let below = fields_kept (slots_of kind.SeqExpr) (a ∷ e ∷ []) h (bare_below kind.SeqExpr (a ∷ e ∷ []) b) refl w.fields in
    let items = flat_fit (items_of (stripped e)) (items_fit (stripped e) (content.Node class.Expr) below.1.0) in
    rw (stripped_of_tree kind.SeqExpr (a ∷ e ∷ []))
    (wider class.Expr w.in_class s w.place (by_second (belongs kind.ParenExpr w.in_class) (belongs kind.SeqExpr w.in_class) (takes_all class.Expr w.in_class) (takes_by s w.in_class w.place o) w.belonging)
    (sequence (stripped a) (settled (flat_map parts (items_of (stripped e)))))
    (sequence_fit (stripped a) (settled (flat_map parts (items_of (stripped e)))) below.0 (settled_fit (flat_map parts (items_of (stripped e))) items)))

keeps_class : (ts : List Node) → Each Keeps ts → Keeps (Tree kind.Class ts)
keeps_class [] h s b o f = absurd (stands kind.Class [] s f).fields
keeps_class (a ∷ []) h s b o f = absurd ((stands kind.Class (a ∷ []) s f).fields.1)
keeps_class (a ∷ c ∷ []) h s b o f = absurd ((stands kind.Class (a ∷ c ∷ []) s f).fields.1.1)
keeps_class (a ∷ c ∷ d ∷ e ∷ ts) h s b o f = absurd ((stands kind.Class (a ∷ c ∷ d ∷ e ∷ ts) s f).fields.1.1.1)
keeps_class (a ∷ c ∷ d ∷ []) h s b o f =
    let w = stands kind.Class (a ∷ c ∷ d ∷ []) s f in
    let below = fields_kept (slots_of kind.Class) (a ∷ c ∷ d ∷ []) h (bare_below kind.Class (a ∷ c ∷ d ∷ []) b) refl w.fields in
    let members = all_filter (one class.ClassMember) is_member (items_of (stripped d)) (items_fit (stripped d) (content.Node class.ClassMember) below.1.1.0) in
    rw (stripped_of_tree kind.Class (a ∷ c ∷ d ∷ []))
    (stands_there kind.Class (stripped a ∷ stripped c ∷ Many (filter is_member (items_of (stripped d))) ∷ []) s
    (record {
      in_class = w.in_class;
      place = w.place;
      no_identifier = w.no_identifier;
      belonging = w.belonging;
      fields = (below.0, (below.1.0, (list_closes (filter is_member (items_of (stripped d))) (content.Node class.ClassMember) members, tt)));
    }))

-- targets
target_tree : (k : Kind) (ts : List Node) → target (Tree k ts) ≡ Tree k ts
target_tree k ts = search (rules, the_lemmas)

target_identifier : (k : Kind) (i : Ident) → target (Identifier k i) ≡ target_in (Identifier k i) (Node-F.Identifier k i)
target_identifier k i = search (rules, the_lemmas)

bound_fits : (k : Kind) (i : Ident) → IsTrue (is_simple k) → Fits (Identifier k i) expr → Fits (target_in (Identifier k i) (Node-F.Identifier k i)) (one class.AssignTarget)
bound_fits kind.Ident i h f = fits-Identifier kind.BindingIdent i (one class.AssignTarget)
bound_fits kind.MemberExpr i h f = absurd (cc (sym (fits-Identifier kind.MemberExpr i expr) ∙ f))
bound_fits kind.SuperPropExpr i h f = absurd (cc (sym (fits-Identifier kind.SuperPropExpr i expr) ∙ f))
bound_fits k i h f = absurd (cc)

formed_fits : (k : Kind) (ts : List Node) → IsTrue (is_simple k) → Fits (Tree k ts) expr → Fits (Tree k ts) (one class.AssignTarget)
formed_fits kind.MemberExpr ts h f = tree_closes kind.MemberExpr ts class.AssignTarget refl refl ((tree_opens kind.MemberExpr ts class.Expr f).2)
formed_fits kind.SuperPropExpr ts h f = tree_closes kind.SuperPropExpr ts class.AssignTarget refl refl ((tree_opens kind.SuperPropExpr ts class.Expr f).2)
formed_fits kind.Ident ts h f = absurd (cc ((tree_opens kind.Ident ts class.Expr f).0))
formed_fits k ts h f = absurd (cc)

simple_fits : (t : Node) → IsTrue (simple t) → Fits t expr → Fits (target t) (one class.AssignTarget)
simple_fits t = by_children (λ t. IsTrue (simple t) → Fits t expr → Fits (target t) (one class.AssignTarget)) (
  λ b h. absurd (cc (sym (fits-Absent expr) ∙ h)),
  λ x b h. absurd (cc (sym (fits-Flag x expr) ∙ h)),
  λ w b h. absurd (cc (sym (fits-Word w expr) ∙ h)),
  λ x b h. absurd (cc (sym (fits-Text x expr) ∙ h)),
  λ r b h. absurd (cc (sym (fits-Span r expr) ∙ h)),
  λ k i b h. rw (target_identifier k i) (bound_fits k i (sym (simple_identifier k i) ∙ b) h),
)
    (λ ts l b h. absurd (cc (sym (fits-List ts expr) ∙ h)))
    (λ k ts l b h. rw (target_tree k ts) (formed_fits k ts (sym (simple_tree k ts) ∙ b) h)) t

own_class : (k : Kind) (c : Class) (ts : List Node) → IsTrue (not (is_identifier k)) → IsTrue (belongs k c) → Fits (Tree k ts) (one class.AssignTarget) → Fits (Tree k ts) (one c)
own_class k c ts i b f = tree_closes k ts c i b ((tree_opens k ts class.AssignTarget f).2)

-- a target that is formed as one of its own class keeps that class
pattern_kept : (k : Kind) (c : Class) (ts : List Node) → IsTrue (is_other k) → IsTrue (not (is_identifier k)) → IsTrue (belongs k c) → IsTrue (is_open (one c)) → IsTrue (takes_all c class.AssignTarget)
    → Keeps (Tree k ts) → IsTrue (all_bare (Tree k ts)) → Fits (Tree k ts) (one class.AssignTarget) → Fits (target (stripped (Tree k ts))) (one class.AssignTarget)
pattern_kept k c ts other i b o w keep bare f =
    let kept : Fits (Tree k (map stripped ts)) (one c) = (let h = keep (one c) bare o (own_class k c ts i b f) in rw (stripped_other k ts other) at h) in
    rw (stripped_other k ts other, target_tree k (map stripped ts)) (wider c class.AssignTarget (one class.AssignTarget) refl w (Tree k (map stripped ts)) kept)

pair_kept : (ts : List Node) → Keeps (Tree kind.ParenExpr ts) → IsTrue (can_stand (seen (Tree kind.ParenExpr ts))) → IsTrue (all_bare (Tree kind.ParenExpr ts)) → Fits (Tree kind.ParenExpr ts) (one class.AssignTarget)
    → Fits (target (stripped (Tree kind.ParenExpr ts))) (one class.AssignTarget)
pair_kept ts keep can bare f =
    let inside : Fits (Tree kind.ParenExpr ts) expr = own_class kind.ParenExpr class.Expr ts refl refl f in
    let simple_target : IsTrue (is_target (Tree kind.ParenExpr ts)) = sym (ap (λ p. not p || is_target (Tree kind.ParenExpr ts)) (pair_of_tree kind.ParenExpr ts)) ∙ can in
    simple_fits (stripped (Tree kind.ParenExpr ts)) (stripped_simple (Tree kind.ParenExpr ts) simple_target inside) (keep expr bare refl inside)

tree_target : (k : Kind) (ts : List Node) → Keeps (Tree k ts) → IsTrue (can_stand (seen (Tree k ts))) → IsTrue (all_bare (Tree k ts)) → Fits (Tree k ts) (one class.AssignTarget) → Fits (target (stripped (Tree k ts))) (one class.AssignTarget)
tree_target kind.ParenExpr ts keep can bare f = pair_kept ts keep can bare f
tree_target kind.MemberExpr ts keep can bare f = pattern_kept kind.MemberExpr class.MemberExpr ts refl refl refl refl refl keep bare f
tree_target kind.SuperPropExpr ts keep can bare f = pattern_kept kind.SuperPropExpr class.SuperPropExpr ts refl refl refl refl refl keep bare f
tree_target kind.ArrayPat ts keep can bare f = pattern_kept kind.ArrayPat class.ArrayPat ts refl refl refl refl refl keep bare f
tree_target kind.ObjectPat ts keep can bare f = pattern_kept kind.ObjectPat class.ObjectPat ts refl refl refl refl refl keep bare f
tree_target kind.BindingIdent ts keep can bare f = absurd (cc ((tree_opens kind.BindingIdent ts class.AssignTarget f).0))
tree_target k ts keep can bare f = absurd (cc ((tree_opens k ts class.AssignTarget f).1))

named_target : (k : Kind) (i : Ident) → Fits (Identifier k i) (one class.AssignTarget) → Fits (target_in (Identifier k i) (Node-F.Identifier k i)) (one class.AssignTarget)
named_target kind.Ident i f = fits-Identifier kind.BindingIdent i (one class.AssignTarget)
named_target k i f = f

keeps_target : (t : Node) → Keeps t → IsTrue (can_stand (seen t)) → IsTrue (all_bare t) → Fits t (one class.AssignTarget) → Fits (target (stripped t)) (one class.AssignTarget)
keeps_target t = by_children (λ t. Keeps t → IsTrue (can_stand (seen t)) → IsTrue (all_bare t) → Fits t (one class.AssignTarget) → Fits (target (stripped t)) (one class.AssignTarget)) (
  λ k c b h. absurd (cc (sym (fits-Absent (one class.AssignTarget)) ∙ h)),
  λ x k c b h. absurd (cc (sym (fits-Flag x (one class.AssignTarget)) ∙ h)),
  λ w k c b h. absurd (cc (sym (fits-Word w (one class.AssignTarget)) ∙ h)),
  λ x k c b h. absurd (cc (sym (fits-Text x (one class.AssignTarget)) ∙ h)),
  λ r k c b h. absurd (cc (sym (fits-Span r (one class.AssignTarget)) ∙ h)),
  λ n i k c b h. (let same : stripped (Identifier n i) ≡ Identifier n i = search (rules, the_lemmas) in rw (same, target_identifier n i) (named_target n i h)),
)
    (λ ts l k c b h. absurd (cc (sym (fits-List ts (one class.AssignTarget)) ∙ h)))
    (λ k ts l. tree_target k ts) t

keeps_assignment : (ts : List Node) → Each Keeps ts → Keeps (Tree kind.AssignExpr ts)
keeps_assignment [] h s b o f = absurd (stands kind.AssignExpr [] s f).fields
keeps_assignment (a ∷ []) h s b o f = absurd ((stands kind.AssignExpr (a ∷ []) s f).fields.1)
keeps_assignment (a ∷ p ∷ []) h s b o f = absurd ((stands kind.AssignExpr (a ∷ p ∷ []) s f).fields.1.1)
keeps_assignment (a ∷ p ∷ l ∷ []) h s b o f = absurd ((stands kind.AssignExpr (a ∷ p ∷ l ∷ []) s f).fields.1.1.1)
keeps_assignment (a ∷ p ∷ l ∷ r ∷ e ∷ ts) h s b o f = absurd ((stands kind.AssignExpr (a ∷ p ∷ l ∷ r ∷ e ∷ ts) s f).fields.1.1.1.1)
keeps_assignment (a ∷ p ∷ l ∷ r ∷ []) h s b o f =
    let w = stands kind.AssignExpr (a ∷ p ∷ l ∷ r ∷ []) s f in
    let bare = both (can_stand (seen l)) (list_all all_bare (a ∷ p ∷ l ∷ r ∷ [])) (sym (bare_of_tree kind.AssignExpr (a ∷ p ∷ l ∷ r ∷ [])) ∙ b) in
    let first = both (all_bare a) (list_all all_bare (p ∷ l ∷ r ∷ [])) bare.1 in
    let second = both (all_bare p) (list_all all_bare (l ∷ r ∷ [])) first.1 in
    let third = both (all_bare l) (list_all all_bare (r ∷ [])) second.1 in
    let fourth = both (all_bare r) true third.1 in
    rw (stripped_of_tree kind.AssignExpr (a ∷ p ∷ l ∷ r ∷ []))
    (stands_there kind.AssignExpr (stripped a ∷ stripped p ∷ target (stripped l) ∷ stripped r ∷ []) s
    (record {
      in_class = w.in_class;
      place = w.place;
      no_identifier = w.no_identifier;
      belonging = w.belonging;
      fields = (
        h.0 (slot.One content.Span) first.0 refl w.fields.0,
        (
          h.1.0 (slot.One (content.Word word_class.AssignOp)) second.0 refl w.fields.1.0,
          (
            keeps_target l h.1.1.0 bare.0 third.0 w.fields.1.1.0,
            (h.1.1.1.0 expr fourth.0 refl w.fields.1.1.1.0, tt),
          ),
        ),
      );
    }))

keeps_tree : (k : Kind) (ts : List Node) → Each Keeps ts → Keeps (Tree k ts)
keeps_tree kind.ParenExpr ts h = keeps_pair ts h
keeps_tree kind.SeqExpr ts h = keeps_sequence ts h
keeps_tree kind.AssignExpr ts h = keeps_assignment ts h
keeps_tree kind.Class ts h = keeps_class ts h
keeps_tree k ts h = keeps_other k ts refl h

stays : (t : Node) → stripped t ≡ t → Keeps t
stays t e s b o f = rw e f

pub stripped_fits : (t : Node) (s : Slot) → IsTrue (all_bare t) → IsTrue (is_open s) → Fits t s → Fits (stripped t) s
stripped_fits t = by_children Keeps (
  stays Absent (search (rules, the_lemmas)),
  λ x. stays (Flag x) (search (rules, the_lemmas)),
  λ w. stays (Word w) (search (rules, the_lemmas)),
  λ x. stays (Text x) (search (rules, the_lemmas)),
  λ r. stays (Span r) (search (rules, the_lemmas)),
  λ k i. stays (Identifier k i) (search (rules, the_lemmas)),
)
    keeps_list keeps_tree t
