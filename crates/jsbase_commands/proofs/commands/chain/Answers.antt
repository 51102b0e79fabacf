use Rattle.std.proofs.Common.{◌≡◌, ◌⊎◌, Bool, true, false, inl, inr, ⊎_elim, refl, sym, ap, ◌∙◌, subst}
use Rattle.std.proofs.lemmas.Result.{err_from_is_err_and}
use Rattle.swc_tree_marks.specs.declared.error.PassError.{PassError}
use Rattle.swc_tree_marks.specs.declared.error.PassError.TheVariants as refusal
use Rattle.swc_tree_node.specs.declared.node.Node.{Node}
use Rattle.swc_tree_marks.specs.Globals.{Table}
use Rattle.swc_tree_grammar.specs.Targets.{all_bare}
use Rattle.jsbase_reader.specs.declared.envelope.Envelope.{Envelope}
use Rattle.jsbase_writer.specs.Envelopes.{envelope_text}
use Rattle.swc_base_rename_substitution.specs.declared.config.Config.{Config}
use Rattle.swc_base_rename_program.specs.Renamed.{IsHygienic, IsRenameRefusal, hygiene_renaming}
use Rattle.jsbase_commands.specs.declared.arguments.Command.TheVariants as command
use Rattle.jsbase_commands.specs.Run.{IsCauseOf, IsCausedFor, IsRenamedWith, ResolvesTo, config_of}
use Rattle.jsbase_commands.proofs.commands.chain.Goals as goal

true_unless : (b : Bool) → (b ≡ false → ⊥) → b ≡ true
true_unless true h = refl
true_unless false h = absurd (h refl)

-- the fixer is refused for a target, or for want of memory
refused_for : (envelope : Envelope) (table : Table) (renamed : Node) (e : PassError) → IsRenamedWith envelope table renamed → (e ≡ refusal.NotAssignable → all_bare renamed ≡ false)
    → (e ≡ refusal.NotAssignable) ⊎ (e ≡ refusal.NoMemory) → IsCausedFor command.Chain envelope e
refused_for envelope table renamed e is bare = ⊎_elim (λ (why : e ≡ refusal.NotAssignable). inr (subst (IsCauseOf command.Chain envelope) (sym why) (table, renamed, is, bare why))) inl

-- hygiene is refused for its counters, or for want of memory
spent_for : (envelope : Envelope) (table : Table) (resolved : Node) → ResolvesTo envelope table resolved → (config : Config) → config ≡ config_of envelope → (e : PassError)
    → IsRenameRefusal table config hygiene_renaming resolved e → IsCausedFor command.Chain envelope e
spent_for envelope table resolved is config same refusal.NoMemory h = inl refl
spent_for envelope table resolved is config same refusal.CounterSpent h = inr (table, resolved, is, subst (λ config. IsRenameRefusal table config hygiene_renaming resolved refusal.CounterSpent) same h)
spent_for envelope table resolved is config same refusal.MarksSpent h = absurd h
spent_for envelope table resolved is config same refusal.NotAssignable h = absurd h
spent_for envelope table resolved is config same refusal.TypesLeft h = absurd h

pub returns-in_err-renamed : goal.returns-in_err-renamed
returns-in_err-renamed c =
    let resolved = c.in_ok-marked.ensures.resolved c.requires.program c.requires.marks in
    let refused = err_from_is_err_and c.from_residual-in_err-renamed.result c.from_residual-in_err-renamed.ensures.1 in
    rw (refused.1, refused.2) (spent_for c.args.envelope c.resolve_program.new.globals c.in_ok-marked.marked resolved c.config-config.result c.config-config.ensures c.in_err-renamed.field-0.0 c.in_err-renamed.ensures.refused)

pub returns-in_err-fixed : goal.returns-in_err-fixed
returns-in_err-fixed c =
    let is_renamed : IsRenamedWith c.args.envelope c.resolve_program.new.globals c.in_ok-renamed.renamed = record {
      between = c.in_ok-marked.marked;
      resolved = c.in_ok-marked.ensures.resolved c.requires.program c.requires.marks;
      hygienic = subst (λ config. IsHygienic c.resolve_program.new.globals config c.in_ok-marked.marked c.in_ok-renamed.renamed) c.config-config.ensures c.in_ok-renamed.ensures.hygienic;
    } in
    let refused = err_from_is_err_and c.from_residual-in_err-fixed.result c.from_residual-in_err-fixed.ensures.1 in
    rw (refused.1, refused.2) (refused_for c.args.envelope c.resolve_program.new.globals c.in_ok-renamed.renamed c.in_err-fixed.field-0.0 is_renamed c.in_err-fixed.ensures.not_assignable.0 c.in_err-fixed.ensures.no_memory)

pub returns : goal.returns
returns c = record {
  no_types = c.requires.types;
  table = c.resolve_program.new.globals;
  renamed = c.in_ok-renamed.renamed;
  is_renamed = record {
    between = c.in_ok-marked.marked;
    resolved = c.in_ok-marked.ensures.resolved c.requires.program c.requires.marks;
    hygienic = subst (λ config. IsHygienic c.resolve_program.new.globals config c.in_ok-marked.marked c.in_ok-renamed.renamed) c.config-config.ensures c.in_ok-renamed.ensures.hygienic;
  };
  assignable = true_unless (all_bare c.in_ok-renamed.renamed) c.in_ok-fixed.ensures.not_assignable.1;
  well_formed = c.in_ok-text.ensures.well_formed;
  written = c.in_ok-text.ensures.text ∙ ap (λ t. envelope_text c.resolve_program.new.globals c.args.envelope.top t c.args.envelope.unresolved) c.in_ok-fixed.ensures.answer;
}
