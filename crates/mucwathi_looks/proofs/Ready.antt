-- What is given is ready for the passes.
use Rattle.std.proofs.Common.{◌≡◌, ◌≢◌, ◌<◌, ℕ, List, [], ◌∷◌, Some, sym, subst, ◌∙◌, arith}
use Rattle.std.specs.List.{flat_map}
use Rattle.swc_tree_node.specs.declared.node.Node.{Node}
use Rattle.swc_tree_scoping.specs.declared.places.Scope.TheVariants as scope
use Rattle.swc_tree_scoping.specs.Places.{opened, program_place}
use Rattle.swc_tree_renaming.proofs.Blank.{opened_same}
use Rattle.swc_tree_renaming.proofs.Core.{head_in, tail_in}
use Rattle.swc_base_resolver_program.specs.Marked.{IsMark, MarksOk}
use Rattle.jsbase_reader.specs.declared.envelope.Envelope.{Envelope}
use Rattle.text_parser.specs.declared.programs.Goal.{Goal}
use Rattle.mucwathi_order.proofs.Programs.{opens}
use Rattle.mucwathi_settings.specs.declared.command.Settings.{Settings}
use Rattle.mucwathi_given.specs.Given.{IsReady}
use Rattle.mucwathi_looks.specs.declared.given.Marked.{Marked}
use Rattle.mucwathi_looks.specs.Answered.{with_settings}
use Rattle.mucwathi_looks.specs.Given.{IsGiven, IsOwn, IsUnmarked, signed_name}

own_marks : (e : Envelope) → IsOwn e → IsMark e.globals 1 → IsMark e.globals 2 → MarksOk e.globals e.unresolved e.top
own_marks e own one two = (subst (IsMark e.globals) (sym own.unresolved) one, subst (IsMark e.globals) (sym own.top) two)

not_root : (n : ℕ) → 0 < n → n ≢ 0
not_root n some is = absurd (omega (arith, is))

pub given_ready : (g : Goal) (text : List ℕ) (m : Marked) → IsGiven g text m → IsReady m.program
given_ready g text m h =
    let rest = flat_map (λ s. s.marks.items) h.signs in
    record {
      program = subst (λ (t : Node). opened program_place t ≡ Some scope.Program) (sym h.program) (opened_same (signed_name h.signs) program_place h.source ∙ opens g h.source h.read.0.fits);
      marks = own_marks m.program h.own (not_root 1 (omega arith), (h.marks.marks 1).1 (head_in 1 (2 ∷ rest))) (not_root 2 (omega arith), (h.marks.marks 2).1 (tail_in 1 2 (2 ∷ rest) (head_in 2 rest)));
    }

pub unmarked_ready : (g : Goal) (text : List ℕ) (e : Envelope) → IsUnmarked g text e → IsReady e
unmarked_ready g text e h = record {
  program = opens g e.tree h.read.0.fits;
  marks =
      own_marks e h.own (subst (λ table. IsMark table 1) (sym h.table) (not_root 1 (omega arith), head_in 1 (2 ∷ []))) (subst (λ table. IsMark table 2) (sym h.table) (not_root 2 (omega arith), tail_in 1 2 (2 ∷ []) (head_in 2 [])));
}

pub settings_ready : (s : Settings) (e : Envelope) → IsReady e → IsReady (with_settings s e)
settings_ready s e h = record { program = h.program; marks = h.marks }
