-- Envelopes that are read back as they were written.
use Rattle.std.proofs.Common.{◌≡◌, ◌≤◌, ◌^◌, ℕ, suc, List, [], ◌∷◌, ◌++◌, true, false, IsTrue, map, nat_lt, Some, None, Ok, refl, sym, ap, ◌∙◌, subst}
use Rattle.std.specs.Str.{IsUtf8}
use Rattle.json.specs.Json.{Json}
use Rattle.json.specs.Tree.{depth}
use Rattle.json.specs.Value.{items_of}
use Rattle.swc_tree_marks.specs.Globals.{Table, IsTable}
use Rattle.swc_tree_node.specs.declared.kind.Class.{Class}
use Rattle.swc_tree_node.specs.declared.slot.Content.TheVariants as content
use Rattle.swc_tree_node.specs.declared.slot.Slot.TheVariants as slot
use Rattle.swc_tree_node.specs.declared.node.Node.{Node}
use Rattle.jsbase_form.specs.Reads.{◌>>=◌}
use Rattle.jsbase_form.specs.Leaves.{is_marked}
use Rattle.jsbase_form.specs.Tables.{pair_at, pairs_of, pairs_at, checked, table_at}
use Rattle.jsbase_form.specs.Trees.{seen}
use Rattle.jsbase_form.specs.Known.{ReadsAs, marks_short}
use Rattle.jsbase_form.specs.Writing.{json}
use Rattle.jsbase_form.proofs.Members.{split}
use Rattle.jsbase_form.proofs.Back.{number_back, mark_back}
use Rattle.jsbase_reader.specs.Envelopes.{document, envelope_of, envelope_in, max_depth}
use Rattle.jsbase_reader.proofs.Tables.{good_table}
use Rattle.jsbase_reader.proofs.Texts.{text_there}
use Rattle.jsbase_writer.specs.Envelopes.{row_json, table_json, table_short, envelope_json, ReadsBack}
use Rattle.jsbase_writer.proofs.Line.{read_line}

-- ---- tables

pair_back : (row : ℕ × ℕ) → IsTrue (marks_short (row.0 ∷ row.1 ∷ [])) → pair_at (row_json row) ≡ Ok row
unfolding pair_at
pair_back row h =
    let both = split (nat_lt row.0 (2 ^ 32)) (marks_short (row.1 ∷ [])) h in
    let parent = split (nat_lt row.1 (2 ^ 32)) true both.1 in
    rw (number_back row.0 both.0, number_back row.1 parent.0) refl

pairs_back : (table : Table) (i : ℕ) → IsTrue (table_short table) → pairs_of i (items_of (map row_json table)) ≡ Ok table
pairs_back [] i h = refl
pairs_back (row ∷ rows) i h =
    let both = split (marks_short (row.0 ∷ row.1 ∷ [])) (table_short rows) h in
    rw (pair_back row both.0, pairs_back rows (suc i) both.1) refl

pub table_back : (table : Table) → IsTable table → IsTrue (table_short table) → table_at (table_json table) ≡ Ok table
unfolding table_at pairs_at
table_back table well short = ap (λ r. r >>= checked [] 0) (pairs_back table 0 short) ∙ good_table table well

-- ---- envelopes

envelope_back : (table : Table) (top : ℕ) (tree : Node) (unresolved : ℕ) (wanted : Class) → table_at (table_json table) ≡ Ok table → IsTrue (marks_short (top ∷ unresolved ∷ []))
    → IsTrue (is_marked table top) → IsTrue (is_marked table unresolved) → seen table (json tree) (slot.One (content.Node wanted)) ≡ Ok tree
    → envelope_in wanted (envelope_json table top tree unresolved) ≡ Ok (record { globals = table; unresolved = unresolved; top = top; keep_class_names = false; ignore_eval = false; keep_top = None; tree = tree })
unfolding envelope_of
envelope_back table top tree unresolved wanted rows short top_known unresolved_known read_tree =
    let both = split (nat_lt top (2 ^ 32)) (marks_short (unresolved ∷ [])) short in
    let other = split (nat_lt unresolved (2 ^ 32)) true both.1 in
    rw (rows, mark_back table top top_known both.0, mark_back table unresolved unresolved_known other.0, read_tree) refl

pub text_back : (text : List ℕ) (d : Json) (table : Table) (top : ℕ) (tree : Node) (unresolved : ℕ) → d ≡ envelope_json table top tree unresolved → IsUtf8 (text ++ 10 ∷ []) → (depth d ≤ max_depth → document text ≡ Some d)
    → table_at (table_json table) ≡ Ok table → IsTrue (marks_short (top ∷ unresolved ∷ [])) → ReadsAs (json tree) tree → ReadsBack (text ++ 10 ∷ []) table top tree unresolved
text_back text d table top tree unresolved is utf8 reads rows short tree_back wanted fit known top_known unresolved_known shallow =
    let whole : document (text ++ 10 ∷ []) ≡ Some (envelope_json table top tree unresolved) = read_line text ∙ reads (subst (λ d. depth d ≤ max_depth) (sym is) shallow) ∙ ap Some is in
    ap (λ r. r >>= envelope_in wanted) (text_there (text ++ 10 ∷ []) (envelope_json table top tree unresolved) (utf8, whole))
    ∙ envelope_back table top tree unresolved wanted rows short top_known unresolved_known (tree_back table (slot.One (content.Node wanted)) fit known)
