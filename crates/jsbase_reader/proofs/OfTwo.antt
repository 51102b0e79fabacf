-- Members that are read one by one, two of which are trees.
use Rattle.std.proofs.Common.{◌≡◌, ◌-◌, ◌<◌, ℕ, List, [], ◌∷◌, ◌++◌, length, Option, Some, None, unwrap_or, codes, Ok, bytes_eq, true, false, Bool, cond, refl, sym, ap, ◌∙◌, arith}
use Rattle.std.specs.Borrow.{Bor}
use Rattle.std.proofs.Common.{Global}
use Rattle.json.specs.Token.{Token}
use Rattle.json.specs.Json.{Json, null, Members, no_members, member, read_key, members, value, parse_map}
use Rattle.json.specs.Find.{get_member, later_or}
use Rattle.json.specs.Value.{members_view, value_view}
use Rattle.json.specs.declared.value.Value.{Value}
use Rattle.json.proofs.Grammar.{members_more, read_key-shorter}
use Rattle.swc_tree_marks.specs.Globals.{Table}
use Rattle.swc_tree_node.specs.declared.kind.Class.{Class}
use Rattle.swc_tree_node.specs.declared.node.Node.{Node}
use Rattle.swc_tree_node.specs.declared.slot.Content.TheVariants as content
use Rattle.swc_tree_node.specs.declared.slot.Slot.TheVariants as slot
use Rattle.jsbase_form.specs.Reads.{at, key}
use Rattle.jsbase_form.specs.Trees.{seen, value_of}
use Rattle.jsbase_reader.specs.Gathered.{AreOf, IsTreeOf}
use Rattle.jsbase_reader.specs.Streamed.{joined}
use Rattle.jsbase_reader.specs.Versions.{asked_in, no_marks, tree_in, versions_of}
use Rattle.jsbase_reader.specs.declared.gathered.Gathered.{Gathered}
use Rattle.jsbase_reader.proofs.OneByOne.{Reading, views_joined}

-- ---- looking up

joined_assoc : (xs ys zs : Members) → joined (joined xs ys) zs ≡ joined xs (joined ys zs)
joined_assoc no_members ys zs = refl
joined_assoc (member k j xs) ys zs = ap (member k j) (joined_assoc xs ys zs)

later_assoc : (a b c : Option Json) → later_or (later_or a b) c ≡ later_or a (later_or b c)
later_assoc None b c = refl
later_assoc (Some x) b c = refl

later_alone : (a : Option Json) → a ≡ later_or a None
later_alone None = refl
later_alone (Some x) = refl

-- of two lists of members the second counts first
look_joined : (k : List ℕ) (xs ys : Members) → get_member k (joined xs ys) ≡ later_or (get_member k ys) (get_member k xs)
look_joined k no_members ys = later_alone (get_member k ys)
look_joined k (member l j xs) ys =
    ap (λ o. later_or o (cond (bytes_eq l k) (Some j) None)) (look_joined k xs ys) ∙ later_assoc (get_member k ys) (get_member k xs) (cond (bytes_eq l k) (Some j) None)

-- the last member has another key, or the key
look_before_last : (k l : List ℕ) (j : Json) (ms : Members) → bytes_eq l k ≡ false → get_member k (joined ms (member l j no_members)) ≡ get_member k ms
look_before_last k l j ms other = look_joined k ms (member l j no_members) ∙ ap (λ b. later_or (cond b (Some j) None) (get_member k ms)) other

look_last : (k l : List ℕ) (j : Json) (ms : Members) → bytes_eq l k ≡ true → get_member k (joined ms (member l j no_members)) ≡ Some j
look_last k l j ms same = look_joined k ms (member l j no_members) ∙ ap (λ b. later_or (cond b (Some j) None) (get_member k ms)) same

-- ---- one member more

parsed_behind : (xs : Members) (k : List ℕ) (j : Json) (o : Option (Members × List Token)) → parse_map (joined xs) (parse_map (member k j) o) ≡ parse_map (joined (joined xs (member k j no_members))) o
parsed_behind xs k j None = refl
parsed_behind xs k j (Some p) = ap (λ ms. Some (ms, p.1)) (sym (joined_assoc xs (member k j no_members) p.0))

pub reading_on : (d n0 : ℕ) (old ts s r : List Token) (k : List ℕ) (j : Json) (ms : Members) → Reading d n0 old ms ts → read_key ts ≡ Some (Some k, s) → value d s ≡ Some (j, r) → length r < length s
    → Reading d n0 old (joined ms (member k j no_members)) r
reading_on d n0 old ts s r k j ms h there read shorter =
    let less = read_key-shorter ts (Some k) s there in (
      h.0 - 1,
      omega (arith, h.1, less, shorter),
      h.2 ∙ ap (parse_map (joined ms)) (members_more (value d) h.0 k ts s r j (omega (arith, h.1, less)) there read) ∙ parsed_behind ms k j _,
    )

module _ (table : Table) (class : Class) where
  tree_stays : (k l : List ℕ) (j : Json) (ms : Members) (o : Option Node) → bytes_eq l k ≡ false → IsTreeOf table class k ms o → IsTreeOf table class k (joined ms (member l j no_members)) o
  tree_stays k l j ms None other h = look_before_last k l j ms other ∙ h
  tree_stays k l j ms (Some t) other h = (h.0, look_before_last k l j ms other ∙ h.1, h.2)

  tree_comes : (k l : List ℕ) (j : Json) (ms : Members) (t : Node) → bytes_eq l k ≡ true → seen table j (slot.One (content.Node class)) ≡ Ok t → IsTreeOf table class k (joined ms (member l j no_members)) (Some t)
  tree_comes k l j ms t same is = (j, look_last k l j ms same, is)

  -- the first tree
  pub before_comes : (one more : Gathered) (k : List ℕ) (j : Json) (t : Node) → k ≡ codes "before" → more.before ≡ Some t → more.others ≡ one.others → more.after ≡ one.after
      → seen table j (slot.One (content.Node class)) ≡ Ok t → (ms : Members) → AreOf table class ms one → AreOf table class (joined ms (member k j no_members)) more
  before_comes one more k j t named put others after is ms h = record {
    others = λ l e f. look_before_last l k j ms (ap (λ x. bytes_eq x l) named ∙ e) ∙ h.others l e f ∙ ap (λ v. get_member l (members_view v.items)) (sym others);
    before = rw put (tree_comes (codes "before") k j ms t (ap (λ x. bytes_eq x (codes "before")) named) is);
    after = rw after (tree_stays (codes "after") k j ms one.after (ap (λ x. bytes_eq x (codes "after")) named) h.after);
  }

  -- the second
  pub after_comes : (one more : Gathered) (k : List ℕ) (j : Json) (t : Node) → k ≡ codes "after" → more.after ≡ Some t → more.others ≡ one.others → more.before ≡ one.before
      → seen table j (slot.One (content.Node class)) ≡ Ok t → (ms : Members) → AreOf table class ms one → AreOf table class (joined ms (member k j no_members)) more
  after_comes one more k j t named put others before is ms h = record {
    others = λ l e f. look_before_last l k j ms (ap (λ x. bytes_eq x l) named ∙ f) ∙ h.others l e f ∙ ap (λ v. get_member l (members_view v.items)) (sym others);
    before = rw before (tree_stays (codes "before") k j ms one.before (ap (λ x. bytes_eq x (codes "before")) named) h.before);
    after = rw put (tree_comes (codes "after") k j ms t (ap (λ x. bytes_eq x (codes "after")) named) is);
  }

  -- another member
  pub other_comes : (one more : Gathered) (k : List ℕ) (m : Bor (List ℕ) × Value Global) → m.0.now ≡ k → bytes_eq k (codes "before") ≡ false → bytes_eq k (codes "after") ≡ false
      → more.others.items ≡ one.others.items ++ m ∷ [] → more.before ≡ one.before → more.after ≡ one.after → (ms : Members) → AreOf table class ms one
      → AreOf table class (joined ms (member k (value_view m.1) no_members)) more
  other_comes one more k m named first second pushed before after ms h = record {
    others = λ l e f.
        look_joined l ms (member k (value_view m.1) no_members) ∙ ap (later_or (get_member l (member k (value_view m.1) no_members))) (h.others l e f)
        ∙ sym (look_joined l (members_view one.others.items) (member k (value_view m.1) no_members))
        ∙ ap (λ x. get_member l (joined (members_view one.others.items) (member x (value_view m.1) no_members))) (sym named)
        ∙ ap (get_member l) (sym (views_joined one.others.items (m ∷ []))) ∙ ap (λ v. get_member l (members_view v)) (sym pushed);
    before = rw before (tree_stays (codes "before") k (value_view m.1) ms one.before first h.before);
    after = rw after (tree_stays (codes "after") k (value_view m.1) ms one.after second h.after);
  }

  pub none_yet : (g : Gathered) → g.others.items ≡ [] → g.before ≡ None → g.after ≡ None → AreOf table class no_members g
  none_yet g others before after = record {
    others = λ l e f. ap (λ v. get_member l (members_view v)) (sym others);
    before = rw before refl;
    after = rw after refl;
  }

  -- a tree that was read is that of its key
  tree_there : (k : List ℕ) (ms : Members) (t : Node) → IsTreeOf table class k ms (Some t) → tree_in table class k ms ≡ Ok t
  tree_there k ms t h = ap (λ o. at (key k) (seen table (unwrap_or o null) (slot.One (content.Node class)))) h.1 ∙ ap (at (key k)) h.2

-- ---- versions

same_value : (k : List ℕ) (ms os : Members) → get_member k ms ≡ get_member k os → value_of k ms ≡ value_of k os
same_value k ms os h = ap (λ o. unwrap_or o null) h

asked_by_others : (ms os : Members) → ((k : List ℕ) → bytes_eq (codes "before") k ≡ false → bytes_eq (codes "after") k ≡ false → get_member k ms ≡ get_member k os) → asked_in ms ≡ asked_in os
asked_by_others ms os others =
    let marks = same_value (codes "marks") ms os (others (codes "marks") refl refl) in
    let unresolved = same_value (codes "unresolved") ms os (others (codes "unresolved") refl refl) in
    let top = same_value (codes "top") ms os (others (codes "top") refl refl) in
    let keeps = same_value (codes "keepTop") ms os (others (codes "keepTop") refl refl) in
    let spells = same_value (codes "spelling") ms os (others (codes "spelling") refl refl) in
    simp (marks, unresolved, top, keeps, spells)

pub versions_are : (class : Class) (ms os : Members) (g : Gathered) (keep_top spelling : Bool) (before after : Node) → AreOf no_marks class ms g → os ≡ members_view g.others.items → g.before ≡ Some before → g.after ≡ Some after
    → asked_in os ≡ Ok (keep_top, spelling) → versions_of class ms ≡ Ok (record { keep_top = keep_top; spelling = spelling; before = before; after = after })
versions_are class ms os g keep_top spelling before after h rest is_before is_after asked =
    let asks : asked_in ms ≡ Ok (keep_top, spelling) = asked_by_others ms os (λ k e f. h.others k e f ∙ ap (get_member k) (sym rest)) ∙ asked in
    let first : tree_in no_marks class (codes "before") ms ≡ Ok before = tree_there no_marks class (codes "before") ms before (rw is_before at h.before) in
    let second : tree_in no_marks class (codes "after") ms ≡ Ok after = tree_there no_marks class (codes "after") ms after (rw is_after at h.after) in
    rw (asks, first, second) refl
