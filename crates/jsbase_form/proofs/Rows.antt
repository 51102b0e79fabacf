-- The form of lists and pairs, computed on small values.
use Rattle.std.proofs.Common.{◌≡◌, [], ◌∷◌, codes, true, Ok, Err, refl}
use Rattle.json.specs.Json.{null, boolean, string, array, no_items, item}
use Rattle.swc_tree_node.specs.declared.kind.Class.TheVariants as class
use Rattle.swc_tree_node.specs.declared.slot.Content.TheVariants as content
use Rattle.swc_tree_node.specs.declared.slot.Slot.TheVariants as slot
use Rattle.swc_tree_node.specs.declared.node.Node.{Absent, Text, List as Many}
use Rattle.jsbase_form.specs.Reads.{index}
use Rattle.jsbase_form.specs.Leaves.{text_at}
use Rattle.jsbase_form.specs.Trees.{seen}

pair_of_texts : seen [] (array (item (string (codes "a")) (item (string (codes "b")) no_items))) slot.Pair ≡ Ok (Many (Text (codes "a") ∷ Text (codes "b") ∷ []))
unfolding text_at
pair_of_texts = refl

short_pair : seen [] (array (item null no_items)) slot.Pair ≡ Err []
short_pair = refl

bad_pair : seen [] (array (item (array (item (string (codes "a")) (item null no_items))) no_items)) slot.Pairs ≡ Err (index 0 ∷ index 1 ∷ [])
unfolding text_at
bad_pair = refl

long_pair : seen [] (array (item (array (item null (item null (item null no_items)))) no_items)) slot.Pairs ≡ Err (index 0 ∷ [])
long_pair = refl

hole : seen [] (array (item null no_items)) (slot.Holes (content.Node class.Expr)) ≡ Ok (Many (Absent ∷ []))
hole = refl

no_hole : seen [] (array (item null no_items)) (slot.OptionalList (content.Node class.ExprOrSpread)) ≡ Err (index 0 ∷ [])
no_hole = refl

after_a_hole : seen [] (array (item null (item (boolean true) no_items))) (slot.Holes (content.Node class.Expr)) ≡ Err (index 1 ∷ [])
after_a_hole = refl

absent_list : seen [] null (slot.OptionalList (content.Node class.ExprOrSpread)) ≡ Ok Absent
absent_list = refl

no_list : seen [] null (slot.Holes (content.Node class.Expr)) ≡ Err []
no_list = refl
