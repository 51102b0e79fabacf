-- Programs that declare neither `undefined` nor `NaN` nor `Infinity`.
use Rattle.std.proofs.Common.{◌≡◌, ◌≢◌, ℕ, Bool, true, false, ◌||◌, IsTrue, Some, List, [], codes, refl, sym, ap, ◌∙◌, subst}
use Rattle.std.specs.List.{list_any}
use Rattle.std.specs.Str.{bytes_eq}
use Rattle.std.proofs.lemmas.Slice.Eq.{bytes_eq-Decides}
use Rattle.swc_tree_marks.specs.declared.ident.Ident.{Ident}
use Rattle.swc_tree_node.specs.declared.kind.Kind.{Kind}
use Rattle.swc_tree_node.specs.declared.node.Node.{Node, Identifier}
use Rattle.swc_tree_scoping.specs.declared.places.Place.{Place}
use Rattle.swc_tree_scoping.specs.Places.{Path, place_at, program_place}
use Rattle.swc_tree_scoping.specs.Resolved.{is_global_value}
use Rattle.swc_tree_scoping.specs.Scopes.{is_binding, taker}
use Rattle.swc_tree_renaming.specs.Apart.{HasNoSloppy, SameScopes}
use Rattle.swc_tree_grammar.specs.Writable.{is_digit}
use Rattle.swc_tree_sites.specs.Sites.{Binding, taken_at}
use Rattle.swc_tree_sites.specs.Smaller.{In}
use Rattle.swc_tree_sites.proofs.Round.{taken_is}

-- the program takes none of the three
abbrev pub TakesNone : Node → Type 0
TakesNone t = (p : Path) (w : Place) (k : Kind) (i : Ident) → place_at program_place t p ≡ Some (w, Identifier k i) → IsTrue (is_binding w.standing) → IsTrue (is_global_value i.sym) → taker w.standing t p ≢ Some []

-- nor does one that takes the same
pub takes_none_too : (t n : Node) → taken_at program_place n ≡ taken_at program_place t → TakesNone t → TakesNone n
takes_none_too t n e none p w k i h b g taken =
    let x : Binding = (w.standing, i) in
    let d = (taken_is [] program_place t x).0 (subst (In x) e ((taken_is [] program_place n x).1 (record { path = p; place = w; kind = k; stands = h; stands_so = refl; binds = b; taken = taken }))) in
    none d.path d.place d.kind i d.stands (subst (λ r. IsTrue (is_binding r)) (sym d.stands_so) b) g (subst (λ r. taker r t d.path ≡ Some []) (sym d.stands_so) d.taken)

-- none of the three has a digit
pub no_digit : (x : List ℕ) → IsTrue (is_global_value x) → list_any is_digit x ≡ false
no_digit x h = by (bytes_eq x (codes "undefined")) refl (bytes_eq x (codes "NaN")) refl h
  where
    is : (word : List ℕ) → bytes_eq x word ≡ true → list_any is_digit word ≡ false → list_any is_digit x ≡ false
    is word e none = ap (list_any is_digit) ((bytes_eq-Decides x word).0 e) ∙ none

    by : (a : Bool) → bytes_eq x (codes "undefined") ≡ a → (b : Bool) → bytes_eq x (codes "NaN") ≡ b → IsTrue (a || (b || bytes_eq x (codes "Infinity"))) → list_any is_digit x ≡ false
    by true e b f h = is (codes "undefined") e refl
    by false e true f h = is (codes "NaN") f refl
    by false e false f h = is (codes "Infinity") h refl

-- of trees of one shape no plain function stands in a block of sloppy code of the one, if none does in the other
pub settled_alike : (t u : Node) → SameScopes t u → HasNoSloppy t → HasNoSloppy u
settled_alike t u same none p w l j h = let (k, i, e) = same.back p w l j h in none p w k i e
