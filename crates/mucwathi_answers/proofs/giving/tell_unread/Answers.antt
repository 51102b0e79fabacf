use Rattle.std.proofs.Common.{◌∙◌, ap, subst}
use Rattle.std.specs.Prelude.{string_bytes}
use Rattle.mucwathi_given.specs.Faults.{IsTreeFault}
use Rattle.mucwathi_looks.specs.Reports.{no_tree_text}
use Rattle.mucwathi_answers.proofs.giving.tell_unread.Goals as goal

pub returns-in_ok-told-in-NotATree : goal.returns-in_ok-told-in-NotATree
returns-in_ok-told-in-NotATree c = record {
  path = string_bytes c.in-NotATree.path;
  no_tree = subst (IsTreeFault c.args.of.text.now) c.in-NotATree.is c.requires;
  status = c.told.ensures.status;
  out = c.told.ensures.out;
  told = ap (λ v. v.items) c.told.ensures.told ∙ c.in_ok-told-in-NotATree.ensures ∙ ap (λ path. no_tree_text c.args.of.name.now path) c.as_str.ensures.value;
}
