-- A clean program becomes well-scoped.
use Rattle.std.proofs.Common.{sym, ◌∙◌, subst}
use Rattle.std.specs.Prelude.{codes}
use Rattle.swc_tree_node.specs.declared.node.Node.{Node}
use Rattle.swc_tree_scoping.specs.WellScoped.{IsDeclared, NoEvalOrArguments, WellScoped}
use Rattle.swc_tree_spaces.specs.NoTypes.{ListsAreItems}
use Rattle.swc_base_resolver_laws.specs.Laws.{CleanProgramsBecomeWellScoped}
use Rattle.swc_base_resolver_laws.proofs.Names.{Resolving, same_texts, text_is}
use Rattle.swc_base_resolver_laws.proofs.OneScope.{each_in_one_scope}
use Rattle.swc_base_resolver_laws.proofs.FreeIds.{free_apart}
use Rattle.swc_base_resolver_laws.proofs.Exported.{exports_declared}
use Rattle.swc_base_resolver_laws.proofs.Redeclared.{no_caught_variable, nothing_redeclared}

no_eval_or_arguments : (t u : Node) (g : Resolving t u) → NoEvalOrArguments u
no_eval_or_arguments t u g =
    subst (λ n. ¬ IsDeclared n (codes "eval") × ¬ IsDeclared n (codes "arguments")) (text_is t u g ∙ sym (same_texts t u g)) g.fair.no_eval_or_arguments

well_scoped : (t u : Node) → Resolving t u → ListsAreItems t → WellScoped u
well_scoped t u g lists = record {
  each_in_one_scope = each_in_one_scope t u g;
  free_apart = free_apart t u g;
  exports_declared = exports_declared t u g lists;
  no_redeclaration = nothing_redeclared t u g;
  no_caught_variable = no_caught_variable t u g;
  no_eval_or_arguments = no_eval_or_arguments t u g;
}

pub clean_programs_become_well_scoped : CleanProgramsBecomeWellScoped
clean_programs_become_well_scoped goal t u unresolved top old new program fitting plain lists clean fair known resolved =
    well_scoped t u (record { unresolved = unresolved; top = top; old = old; new = new; goal = goal; program = program; fitting = fitting; plain = plain; clean = clean; fair = fair; known = known; resolved = resolved }) lists
