use Rattle.std.proofs.Common.{codes, refl}
use Rattle.mucwathi_arguments.proofs.Found.{value_found}
use Rattle.mucwathi_arguments.proofs.command_line.rewriting.Goals as goal

pub returns : goal.returns
returns c = (
  refl,
  record {
    goal = c.goal_of.ensures;
    settings = c.settings_of.ensures;
    keep_top = c.top_of.ensures;
    style = c.style_of.ensures;
    lists = c.is_said-lists.ensures;
    explains = c.is_said-explains.ensures;
    target = c.target_of.ensures;
    form = c.form_of.ensures;
    files = c.in_ok-files.ensures;
    map = value_found c.args.given.now (codes "source-map") c.get_str.result c.get_str.ensures;
  },
)
