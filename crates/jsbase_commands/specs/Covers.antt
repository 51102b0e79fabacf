-- The line that says whether what is promised of a chain is promised of a program.
use Rattle.std.specs.Prelude.{ℕ, Option, Some, None, List, Vec, codes}
use Rattle.swc_tree_node.specs.declared.node.Node.{Node}
use Rattle.swc_base_covers.specs.declared.gap.Cause.{Cause}
use Rattle.swc_base_covers.specs.declared.gap.Cause.TheVariants as cause
use Rattle.swc_base_covers.specs.declared.gap.Gap.{Gap}
use Rattle.jsbase_writer.specs.Gaps.{covered_text, gap_text, placed_gap_text}
use Rattle.jsbase_commands.specs.Judge.{path_under}

abbrev pub cause_word : Cause → List ℕ
cause_word cause.Types = codes "types"
cause_word cause.Context = codes "context"
cause_word cause.Written = codes "written"
cause_word cause.Classes = codes "classes"
cause_word cause.Reads = codes "reads"
cause_word cause.Function = codes "function"
cause_word cause.Label = codes "label"
cause_word cause.Global = codes "global"
cause_word cause.Repeated = codes "repeated"
cause_word cause.Export = codes "export"
cause_word cause.Twice = codes "twice"
cause_word cause.Variable = codes "variable"
cause_word cause.Parameter = codes "parameter"
cause_word cause.Eval = codes "eval"

-- with its path where there is one: `$.tree.body[0].decl`
abbrev pub placed_line : {Z : Type 0} → Node → List ℕ → Option (Vec ℕ Z) → List ℕ
placed_line t word None = gap_text word
placed_line t word (Some p) = placed_gap_text word (path_under (codes "tree") t p.items)

abbrev pub gap_line : Node → Gap → List ℕ
gap_line t gap = placed_line t (cause_word gap.cause) gap.path

abbrev pub cover_text : Node → Option Gap → List ℕ
cover_text t None = covered_text
cover_text t (Some gap) = gap_line t gap
