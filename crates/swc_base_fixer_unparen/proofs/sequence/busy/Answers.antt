use Rattle.std.proofs.Common.{rules, ◌≡◌, not, true, false}
use Rattle.std.specs.List.{list_all}
use Rattle.std.proofs.lemmas.List.Elements.{filter_from_retain}
use Rattle.swc_tree_grammar.specs.Stripped.{is_idle}
use Rattle.swc_base_fixer_unparen.proofs.Fields.{busy_of_idle, busy_of_busy}
use Rattle.swc_base_fixer_unparen.proofs.sequence.busy.Goals as goal
use Rattle.swc_base_fixer_unparen.proofs.sequence.busy.Goals.{then-all, else-all}

pub returns : goal.returns
returns c = elim c.if-all.branch [
  | then-all w ↦
      let idle : list_all is_idle c.args.exprs ≡ true = cc in
      let known = busy_of_idle c.args.exprs idle in
      let kept = w.truncate.ensures.items in
      cc
  | else-all w ↦
      let busy : list_all is_idle c.args.exprs ≡ false = cc in
      let known = busy_of_busy c.args.exprs busy in
      let kept = filter_from_retain _ (λ e. not (is_idle e)) (λ p x b q h. search rules) _ _ _ w.retain.ensures.filtered in
      cc
]
